-- What each check answers by itself: the rules' tests, of that part of the state which the check reads. And which checks each kind of change has.
-- Assumes nothing.
use Rattle.std.specs.Prelude.{ℕ, cond, not, List, [], ◌∷◌, ◌==◌, nat_lt, slice_index_or, Ok, Err}
use Rattle.std.specs.Result.{result_and}
use Rattle.fields.specs.declared.RecordedCell.{RecordedCell}
use Rattle.fields.specs.declared.Refusal.TheVariants.{AssertionFails, LiveCell, TooManyMallocs, UnsetPointer}
use Rattle.fields.specs.Limits.{log_mallocs}
use Rattle.fields.specs.Order.{Test, in_order}
use Rattle.rules.specs.declared.Stop.{Stop}
use Rattle.rules.specs.declared.Stop.TheVariants.{Race, Refuse}
use Rattle.rules.specs.declared.Change.{Change}
use Rattle.rules.specs.declared.Change.TheVariants.{Stay, Allocate, Release, Move, Put}
use Rattle.rules.specs.declared.Guard.{Guard}
use Rattle.rules.specs.Acts.{compared, through}
use Rattle.rules.specs.Check.{Answer, each, holds_in}
use Rattle.rules.specs.State.{State, live, never_used}
use Rattle.rules.specs.Words.{is_unset, is_valid, word_at}

abbrev pub answer_of : List (Test Stop) → Answer
answer_of ts = in_order Err (Ok tt) ts

abbrev pub room_in : ℕ → List RecordedCell → Answer
room_in mallocs cells = answer_of (each (λ c. nat_lt mallocs log_mallocs) (λ c. Refuse TooManyMallocs) cells)

abbrev pub races_in : List ℕ → List ℕ → Answer
races_in pointers ps = answer_of (each (λ p. is_valid (word_at pointers p)) Race ps)

abbrev pub unset_in : List ℕ → List ℕ → Answer
unset_in pointers ps = answer_of (each (λ p. not (is_unset (word_at pointers p))) (λ p. Refuse UnsetPointer) ps)

abbrev pub vacant_in : List ℕ → List RecordedCell → Answer
vacant_in status cells = answer_of (each (λ c. not (slice_index_or status c.0 never_used == live)) (λ c. Refuse LiveCell) cells)

-- the pointer variables that a change goes through
abbrev pub through_in : List ℕ → List ℕ → Answer
through_in pointers ps = result_and (races_in pointers ps) (unset_in pointers ps)

-- the checks of each kind of change, but for 11
abbrev pub check_change : Change → State → Answer
check_change Stay s = Ok tt
check_change (Allocate p c d) s = vacant_in s.status (c ∷ [])
check_change (Release p) s = races_in s.pointers (p ∷ [])
check_change (Move x y) s = through_in s.pointers (through (Move x y))
check_change (Put x v) s = through_in s.pointers (through (Put x v))

-- the checks of the assertion, around what those of the change say
abbrev pub guarded_in : List ℕ → List ℕ → Guard → Answer → Answer
guarded_in pointers variables guard change =
    result_and (races_in pointers (compared guard)) (result_and change (cond (holds_in pointers variables guard) (Ok tt) (Err (Refuse AssertionFails))))
