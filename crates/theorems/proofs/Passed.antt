-- What it says that a command passed its checks: what is asserted on, freed or gone through is valid, and what is gone through set.
-- Assumes nothing.
use Prim.Native.Nat.{ℕ}
use mathlib.Core.Path.{◌≡◌, ◌∙◌, sym}
use mathlib.Core.Bool.{false, true}
use mathlib.Core.List.{List, [], ◌++◌, ◌∷◌}
use borrow.Author.Tests.{not-true}
use Rattle.std.specs.Prelude.{Ok, Err}
use Rattle.fields.specs.declared.Refusal.TheVariants.{TooManyMallocs}
use Rattle.fields.specs.declared.RecordedCell.{RecordedCell}
use Rattle.fields.specs.Order.{Test, in_order}
use Rattle.fields.proofs.Passing.{every_cut, in_order_append}
use Rattle.rules.specs.declared.Act.{Act}
use Rattle.rules.specs.declared.Stop.{Stop}
use Rattle.rules.specs.declared.Stop.TheVariants.{Race, Refuse}
use Rattle.rules.specs.Words.{is_unset, is_valid}
use Rattle.rules.specs.State.{State, pointer}
use Rattle.rules.specs.Acts.{compared, frees, gives, through, touched}
use Rattle.rules.specs.Check.{Answer, check, check_by, each, points, room_for, valid}
use Rattle.rules.proofs.Checks.{Clear, PassedBy, each_clear, guard_tests, passed_by, room_tests, set_tests, vacancy_tests}
use Rattle.theorems.proofs.Basics.{split}

abbrev pub Passed : Act → State → Type 0
Passed a s = PassedBy (each (valid s) Race (touched a)) a s

-- what tests come to: what is said where all pass, or what one of them says
abbrev pub answered : Answer → List (Test Stop) → Answer
answered done ts = in_order Err done ts

roomy_tests : (s : State) (l : List RecordedCell) (done x : Answer) → (x ≡ Err (Refuse TooManyMallocs) → ⊥)
    → answered done (each (room_for s) (λ c. Refuse TooManyMallocs) l) ≡ x → Clear (room_for s) l
roomy_tests s [] done x n e = tt
roomy_tests s (c ∷ l) done x n e = split (room_for s c)
    (λ t. (t, roomy_tests s l done x n (rw t at e)))
    (λ t. absurd (n (sym (rw t at e))))

-- a command that is not refused by 11 had room
pub had_room : (a : Act) (s : State) (x : Answer) → (x ≡ Err (Refuse TooManyMallocs) → ⊥) → check a s ≡ x → Clear (room_for s) (gives a.change)
unfolding check_by
had_room a s x n e =
    let rest = each (valid s) Race (touched a) ++ (set_tests a s ++ (vacancy_tests a s ++ guard_tests a s)) in
    roomy_tests s (gives a.change) (answered (Ok tt) rest) x n (sym (in_order_append Err (Ok tt) (room_tests a s) rest) ∙ e)

pub passed : (a : Act) (s : State) → check a s ≡ Ok tt → Passed a s
passed a s e = passed_by (each (valid s) Race (touched a)) a s e

-- what is asserted on, freed or gone through is valid
pub record Looked (a : Act) (s : State) : Type 0 where
  pub compares : Clear (valid s) (compared a.guard)
  pub frees : Clear (valid s) (frees a.change)
  pub goes : Clear (valid s) (through a.change)

pub looked : (a : Act) (s : State) → Passed a s → Looked a s
looked a s p =
    let Q : ℕ → Type 0 = λ k. valid s k ≡ true in
    let t = every_cut Q (compared a.guard) (frees a.change ++ through a.change) (each_clear (valid s) Race (touched a) p.raceless) in
    let u = every_cut Q (frees a.change) (through a.change) t.1 in
    record { compares = t.0; frees = u.0; goes = u.1 }

-- a variable that is gone through is valid and set
pub record Set (s : State) (p : ℕ) : Type 0 where
  pub valid : is_valid (pointer s p) ≡ true
  pub pointing : is_unset (pointer s p) ≡ false

pub reached : (s : State) (p : ℕ) → Clear (valid s) (p ∷ []) → Clear (points s) (p ∷ []) → Set s p
reached s p e f = record { valid = e.0; pointing = not-true (is_unset (pointer s p)) f.0 }
