-- The reading without marks: the same cells and data, but no marks. A race is where a pointer that is freed, gone through or
-- asserted on holds a freed cell; it refuses as the rules do, with 12 at any unset pointer gone through. Assumes nothing.
use Rattle.std.specs.Prelude.{ℕ, ◌≡◌, Bool, not, cond, List, [], ◌∷◌, ◌++◌, eqb, set}
use Rattle.fields.specs.declared.Field.{Field}
use Rattle.fields.specs.declared.RecordedCell.{RecordedCell}
use Rattle.fields.specs.Every.{Every}
use Rattle.rules.specs.declared.Change.{Change}
use Rattle.rules.specs.declared.Change.TheVariants.{Stay, Allocate, Release, Move, Put}
use Rattle.rules.specs.declared.Act.{Act}
use Rattle.rules.specs.declared.Stop.TheVariants.{Race}
use Rattle.rules.specs.Words.{cell_of, is_unset}
use Rattle.rules.specs.State.{State, freed, with_status, pointer, status_of}
use Rattle.rules.specs.Acts.{touched, gives}
use Rattle.rules.specs.Commands.{act_of}
use Rattle.rules.specs.Check.{Answer, each, check_by}
use Rattle.rules.specs.Effect.{apply, count_field}
use Rattle.rules.specs.Run.{End, Outcome, run_by}
use Rattle.rules.specs.Log.{parse}

abbrev pub unfreed : State → ℕ → Bool
unfreed s p = not (eqb (status_of s (cell_of (pointer s p))) freed)

abbrev pub check_plain : Act → State → Answer
check_plain a s = check_by (each (unfreed s) Race (touched a)) a s

-- a free leaves every word as it was; the other commands do what they do with marks
unfoldable pub free_plain : ℕ → State → State
free_plain c s = with_status (set s.status c freed) s

abbrev pub apply_plain : Change → State → State
apply_plain Stay s = s
apply_plain (Allocate p c d) s = apply (Allocate p c d) s
apply_plain (Release p) s = cond (is_unset (pointer s p)) s (free_plain (cell_of (pointer s p)) s)
apply_plain (Move x y) s = apply (Move x y) s
apply_plain (Put x v) s = apply (Put x v) s

abbrev pub effect_plain : Act → State → State
effect_plain a s = count_field (apply_plain a.change s)

abbrev pub run_plain_to : End → List Field → State → Outcome
run_plain_to end fs s = run_by (record { state_in = λ t. t; check = check_plain; effect = effect_plain }) end fs s

abbrev pub run_plain_bytes : ℕ → List ℕ → State → Outcome
run_plain_bytes n bytes s = run_plain_to (parse n bytes).end (parse n bytes).fields s

-- ---- the cells that the mallocs of a log name, and that no two of them name one cell
abbrev pub given_by : List Field → List RecordedCell
given_by [] = []
given_by (f ∷ fs) = gives (act_of f).change ++ given_by fs

abbrev pub Distinct : List RecordedCell → Type 0
Distinct [] = Unit {0}
Distinct (c ∷ cs) = Every (λ k. c ≡ k → ⊥) cs × Distinct cs
