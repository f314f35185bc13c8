-- What a command does to the tally: one field more, and at most one malloc more. How many cells can be live. And that an accepted
-- log's numbers are those of the tally.
-- Assumes nothing.
use Prim.Native.Nat.{ℕ, zero, suc, ◌+◌, ◌<◌, ◌≤◌}
use mathlib.Core.Bool.{Bool, cond}
use lib.Dec.{eqb}
use lib.ListN.{get_or, length, set}
use mathlib.Core.List.{List, [], ◌∷◌}
use mathlib.Core.Path.{◌≡◌, refl}
use native.Mathlib.Nat.{le_of_suc-le-suc, not-suc-le-zero}
use native.Mathlib.Omega.{arith}
use Rattle.std.specs.Prelude.{Ok, Err}
use Rattle.fields.proofs.Passing.{either}
use Rattle.fields.specs.declared.Field.{Field}
use Rattle.rules.specs.declared.Change.{Change}
use Rattle.rules.specs.declared.Change.TheVariants.{Stay, Allocate, Release, Move, Put}
use Rattle.rules.specs.declared.Act.{Act}
use Rattle.rules.specs.declared.Stop.TheVariants.{Race, Refuse}
use Rattle.rules.specs.declared.Tally.{Tally}
use Rattle.rules.specs.declared.Verdict.{Verdict}
use Rattle.rules.specs.declared.Verdict.TheVariants.{Accepted, Declined, Raced, Refused}
use Rattle.rules.specs.State.{State, live, never_used, pointer, store, write}
use Rattle.rules.specs.Words.{is_unset}
use Rattle.rules.specs.Check.{Answer, check}
use Rattle.rules.specs.Commands.{act_of}
use Rattle.rules.specs.Effect.{apply, count_field, effect, free, give}
use Rattle.rules.specs.Log.{told_at}
use Rattle.rules.specs.Run.{End, Outcome, whole, unread, live_count, next, run_to, tally_of}

apply_fields : (c : Change) (s : State) → (apply c s).fields ≡ s.fields
unfolding give write store free
apply_fields Stay s = refl
apply_fields (Allocate p c d) s = refl
apply_fields (Release p) s = either (λ (t : State). t.fields ≡ s.fields) (is_unset (pointer s p)) refl refl
apply_fields (Move x y) s = refl
apply_fields (Put x v) s = refl

pub fields_kept : (c : Change) (s t : State) → t ≡ apply c s → t.fields ≡ s.fields
fields_kept c s t e = rw e (apply_fields c s)

apply_mallocs : (c : Change) (s : State) → (apply c s).mallocs ≤ s.mallocs + 1
unfolding give write store free
apply_mallocs Stay s = omega arith
apply_mallocs (Allocate p c d) s = omega arith
apply_mallocs (Release p) s = either (λ (t : State). t.mallocs ≤ s.mallocs + 1) (is_unset (pointer s p)) (omega arith) (omega arith)
apply_mallocs (Move x y) s = omega arith
apply_mallocs (Put x v) s = omega arith

pub record Counted (s t : State) : Type 0 where
  pub fields : t.fields ≡ s.fields + 1
  pub mallocs : t.mallocs ≤ s.mallocs + 1

pub counted : (a : Act) (s : State) → Counted s (effect a s)
unfolding count_field
counted a s = record { fields = rw (apply_fields a.change s); mallocs = apply_mallocs a.change s }

pub one_at_most : (b : Bool) → cond b 1 0 ≤ 1
one_at_most b = either (λ n. n ≤ 1) b (omega arith) (omega arith)

-- one status changes: what the one that was there adds to the count, and what the new one adds
pub live_set : (status : List ℕ) (cell new : ℕ) → cell < length status
    → live_count (set status cell new) + cond (eqb (get_or status cell never_used) live) 1 0 ≡ live_count status + cond (eqb new live) 1 0
live_set [] cell new inside = absurd (not-suc-le-zero inside)
live_set (x ∷ xs) zero new inside = omega arith
live_set (x ∷ xs) (suc cell) new inside = omega (arith, live_set xs cell new (le_of_suc-le-suc inside))

pub live_at_most : (status : List ℕ) → live_count status ≤ length status
live_at_most [] = omega arith
live_at_most (x ∷ xs) = omega (arith, one_at_most (eqb x live), live_at_most xs)

-- the numbers of a verdict that accepts are a tally's
abbrev pub Takes : Verdict → Tally → Type 0
Takes (Accepted fields mallocs cells) t = t ≡ record { fields = fields; mallocs = mallocs; live = cells }
Takes (Raced field thread variable offset) t = Unit {0}
Takes (Refused r field offset) t = Unit {0}
Takes (Declined r) t = Unit {0}

-- a field's answer lets the later fields decide, or stops
next_tally : (at : ℕ) (k : Answer) (n : ℕ) (f : Field) (s : State) (later : Outcome) → Takes (told_at at later.verdict) (tally_of later.state)
    → Takes (told_at at (next k n f s later).verdict) (tally_of (next k n f s later).state)
next_tally at (Ok _) n f s later h = h
next_tally at (Err (Race v)) n f s later h = tt
next_tally at (Err (Refuse r)) n f s later h = tt

pub accepted_tally : (at : ℕ) (fs : List Field) (end : End) (s : State) → Takes (told_at at (run_to end fs s).verdict) (tally_of (run_to end fs s).state)
accepted_tally at [] whole s = refl
accepted_tally at [] (unread r) s = tt
accepted_tally at (f ∷ fs) end s = next_tally at (check (act_of f) s) s.fields f s (run_to end fs (effect (act_of f) s)) (accepted_tally at fs end (effect (act_of f) s))
