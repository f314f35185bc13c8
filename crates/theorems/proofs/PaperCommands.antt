-- Source 004 beside the rules: every field that was read takes commands of the paper, one line for each tag.
-- Assumes nothing.
use Prim.Native.Nat.{◌<◌, suc, zero, ℕ}
use mathlib.Core.Path.{◌≡◌, refl}
use mathlib.Core.Bool.{true}
use mathlib.Core.List.{List, [], ◌∷◌}
use native.Mathlib.Nat.{le_of_suc-le-suc, not-suc-le-zero}
use native.Mathlib.Omega.{arith}
use lib.ListN.{drop, get_or, length}
use Rattle.fields.specs.declared.Field.{Field}
use Rattle.fields.specs.declared.rows.Row.{Row}
use Rattle.fields.specs.Rows.{is_tag, no_row, row_of, rows}
use Rattle.fields.proofs.RoundTrip.{Readable}
use Rattle.fields.proofs.Tags.{tag_below}
use Rattle.rules.specs.declared.Act.{Act}
use Rattle.rules.specs.Commands.{act_of, command_of, commands, no_command}
use Rattle.theorems.specs.Paper.{Assert, Com, Compute, Copy, Free, Load, Malloc, ReadData, Selector, Store, WriteData, index, negated, next₀, next₁, same_data, same_pointers}
use Rattle.theorems.specs.Beside.{Takes, assertion, both, change, says_apart, says_constant, says_copy, says_equal, says_free, says_load, says_malloc, says_read, says_same, says_store, says_sum, says_unequal, says_write, wrapping_sum}
use Rattle.theorems.proofs.Basics.{clash}
use Rattle.theorems.proofs.Tables.{Facts, RowByRow, ◌▹◌, facts}

abbrev Sayable : Row → (Field → Act) → Type 0
Sayable r command = (f : Field) → Facts r f → (cs : List Com) × Takes (command f) cs

selector_of : (n : ℕ) → n < 2 → (i : Selector) × (index i ≡ n)
selector_of zero h = (next₀, refl)
selector_of (suc zero) h = (next₁, refl)
selector_of (suc (suc n)) h = absurd (omega arith)

-- the tables without tag 0
sayable : RowByRow Sayable (drop 1 rows) (drop 1 commands)
sayable =
    -- 1: p := malloc
    (λ f h. (Malloc f.first ∷ [], change says_malloc))
    -- 2: p := free
    ▹ (λ f h. (Free f.first ∷ [], change says_free))
    -- 3: p := q
    ▹ (λ f h. (Copy f.first f.second ∷ [], change says_copy))
    -- 4: p := q.sel
    ▹ (λ f h. let i = selector_of f.third h.2 in (Load f.first f.second i.0 ∷ [], change (rw i.1 at (says_load {p = f.first} {q = f.second} i.0))))
    -- 5: p.sel := q
    ▹ (λ f h. let i = selector_of f.second h.1 in (Store f.first i.0 f.third ∷ [], change (rw i.1 at (says_store {p = f.first} {q = f.third} i.0))))
    -- 6: x := p.data
    ▹ (λ f h. (ReadData f.first f.second ∷ [], change says_read))
    -- 7: p.data := x
    ▹ (λ f h. (WriteData f.first f.second ∷ [], change says_write))
    -- 8: x := constant
    ▹ (λ f h. (Compute f.first (λ vs. f.number) [] ∷ [], change says_constant))
    -- 9: assert p = q
    ▹ (λ f h. (Assert (same_pointers f.first f.second) ∷ [], assertion says_same))
    -- 10: assert p ≠ q
    ▹ (λ f h. (Assert (negated (same_pointers f.first f.second)) ∷ [], assertion says_apart))
    -- 11: assert x = y
    ▹ (λ f h. (Assert (same_data f.first f.second) ∷ [], assertion says_equal))
    -- 12: assert x ≠ y
    ▹ (λ f h. (Assert (negated (same_data f.first f.second)) ∷ [], assertion says_unequal))
    -- 13: x := y + z
    ▹ (λ f h. (Compute f.first wrapping_sum (f.second ∷ f.third ∷ []) ∷ [], change says_sum))
    -- 14: cas done: p = q, then p := r
    ▹ (λ f h. (Assert (same_pointers f.first f.second) ∷ Copy f.first f.third ∷ [], both says_same says_copy refl))
    -- 15: cas failed: p ≠ q
    ▹ (λ f h. (Assert (negated (same_pointers f.first f.second)) ∷ [], assertion says_apart))
    ▹ tt

at_known : (P : Row → (Field → Act) → Type 0) (rs : List Row) (cs : List (Field → Act)) (i : ℕ) → i < length rs → RowByRow P rs cs → P (get_or rs i no_row) (get_or cs i no_command)
at_known P [] cs i h all = absurd (not-suc-le-zero h)
at_known P (r ∷ rs) [] i h all = absurd all
at_known P (r ∷ rs) (c ∷ cs) zero h all = all.0
at_known P (r ∷ rs) (c ∷ cs) (suc i) h all = at_known P rs cs i (le_of_suc-le-suc h) all.1

pub readable_takes : (f : Field) → Readable f → (cs : List Com) × Takes (act_of f) cs
readable_takes f R = by f.tag R.tag f (facts (row_of f.tag) f R.right)
  where
    by : (tag : ℕ) → is_tag tag ≡ true → Sayable (row_of tag) (command_of tag)
    by zero known = unfold is_tag in (clash known refl)
    by (suc i) known = unfold is_tag row_of command_of in (at_known Sayable (drop 1 rows) (drop 1 commands) i (le_of_suc-le-suc (tag_below (suc i) known)) sayable)
