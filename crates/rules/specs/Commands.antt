-- What each tag's command is: one line for each, of the numbers of its row (the rows themselves are in the crate fields).
-- Assumes nothing.
use Rattle.std.specs.Prelude.{ℕ, true, false, List, [], ◌∷◌, get_or}
use Rattle.fields.specs.declared.Field.{Field}
use Rattle.rules.specs.declared.PExp.TheVariants.{PointerVariable, SelectorOf}
use Rattle.rules.specs.declared.DExp.TheVariants.{DataVariable, DataOf}
use Rattle.rules.specs.declared.Value.TheVariants.{Held, Constant, Sum}
use Rattle.rules.specs.declared.Guard.{Guard}
use Rattle.rules.specs.declared.Guard.TheVariants.{Always, Same, Equal}
use Rattle.rules.specs.declared.Change.{Change}
use Rattle.rules.specs.declared.Change.TheVariants.{Stay, Allocate, Release, Move, Put}
use Rattle.rules.specs.declared.Act.{Act}

abbrev pub does : Change → Act
does c = record { guard = Always; change = c }

abbrev pub asserts : Guard → Act
asserts g = record { guard = g; change = Stay }

-- tag 0, and any that has no line below
abbrev pub no_command : Field → Act
no_command f = does Stay

abbrev pub commands : List (Field → Act)
commands =
    no_command
    -- 1: p := malloc
    ∷ (λ f. does (Allocate f.first f.cell f.number))
    -- 2: p := free
    ∷ (λ f. does (Release f.first))
    -- 3: p := q
    ∷ (λ f. does (Move (PointerVariable f.first) (PointerVariable f.second)))
    -- 4: p := q.sel
    ∷ (λ f. does (Move (PointerVariable f.first) (SelectorOf f.second f.third)))
    -- 5: p.sel := q
    ∷ (λ f. does (Move (SelectorOf f.first f.second) (PointerVariable f.third)))
    -- 6: x := p.data
    ∷ (λ f. does (Put (DataVariable f.first) (Held (DataOf f.second))))
    -- 7: p.data := x
    ∷ (λ f. does (Put (DataOf f.first) (Held (DataVariable f.second))))
    -- 8: x := constant
    ∷ (λ f. does (Put (DataVariable f.first) (Constant f.number)))
    -- 9: assert p = q
    ∷ (λ f. asserts (Same true f.first f.second))
    -- 10: assert p ≠ q
    ∷ (λ f. asserts (Same false f.first f.second))
    -- 11: assert x = y
    ∷ (λ f. asserts (Equal true f.first f.second))
    -- 12: assert x ≠ y
    ∷ (λ f. asserts (Equal false f.first f.second))
    -- 13: x := y + z
    ∷ (λ f. does (Put (DataVariable f.first) (Sum f.second f.third)))
    -- 14: cas done: p = q, then p := r
    ∷ (λ f. record { guard = Same true f.first f.second; change = Move (PointerVariable f.first) (PointerVariable f.third) })
    -- 15: cas failed: p ≠ q
    ∷ (λ f. asserts (Same false f.first f.second))
    ∷ []

unfoldable pub command_of : ℕ → Field → Act
command_of tag = get_or commands tag no_command

abbrev pub act_of : Field → Act
act_of f = command_of f.tag f
