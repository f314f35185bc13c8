-- The answers of the checks, put together as the code puts them: the first that is not Ok speaks.
-- Assumes nothing.
use Rattle.std.proofs.Common.{◌≡◌, Bool, true, false, cond, List, [], ◌∷◌, ◌++◌, Ok, Err, sym, refl, ap, ◌∙◌}
use Rattle.std.specs.Result.{result_and}
use Rattle.fields.specs.declared.Refusal.TheVariants.{AssertionFails, LiveCell, TooManyMallocs, UnsetPointer}
use Rattle.fields.specs.Order.{Test}
use Rattle.rules.specs.declared.Act.{Act}
use Rattle.rules.specs.declared.Stop.{Stop}
use Rattle.rules.specs.declared.Stop.TheVariants.{Race, Refuse}
use Rattle.rules.specs.declared.Change.{Change}
use Rattle.rules.specs.declared.Change.TheVariants.{Stay, Allocate, Release, Move, Put}
use Rattle.rules.specs.declared.Guard.{Guard}
use Rattle.rules.specs.Acts.{compared, frees, gives, through}
use Rattle.rules.specs.Check.{Answer, check, check_by, each, holds, points, room_for, vacant, valid}
use Rattle.rules.specs.State.{State}
use Rattle.judge.specs.Answers.{answer_of, check_change, guarded_in, races_in, room_in, unset_in, vacant_in}

-- tests that stop where they do not pass
module _ {K : Type 0} (passes : K → Bool) (says : K → Stop) where
  each_append : (ks ms : List K) → each passes says (ks ++ ms) ≡ each passes says ks ++ each passes says ms
  each_append [] ms = refl
  each_append (k ∷ ks) ms = rw (each_append ks ms)

  and_cond : (b : Bool) (stop : Stop) (x y : Answer) → result_and (cond b x (Err stop)) y ≡ cond b (result_and x y) (Err stop)
  and_cond true stop x y = refl
  and_cond false stop x y = refl

  answer_then : (ks : List K) (later : List (Test Stop)) → answer_of (each passes says ks ++ later) ≡ result_and (answer_of (each passes says ks)) (answer_of later)
  answer_then [] later = refl
  answer_then (k ∷ ks) later =
      ap (λ (x : Answer). cond (passes k) x (Err (says k))) (answer_then ks later)
      ∙ sym (and_cond (passes k) (says k) (answer_of (each passes says ks)) (answer_of later))

  answer-append : (ks ms : List K) → answer_of (each passes says (ks ++ ms)) ≡ result_and (answer_of (each passes says ks)) (answer_of (each passes says ms))
  answer-append ks ms = rw (each_append ks ms) (answer_then ks (each passes says ms))

-- one answer after the other, however they are put together
and_assoc : (x y z : Answer) → result_and (result_and x y) z ≡ result_and x (result_and y z)
and_assoc (Ok _) y z = refl
and_assoc (Err stop) y z = refl

-- all the checks
module _ (a : Act) (s : State) where
  check_parts : result_and (room_in s.mallocs (gives a.change))
      (result_and (races_in s.pointers (compared a.guard))
      (result_and (races_in s.pointers (frees a.change))
      (result_and (races_in s.pointers (through a.change))
      (result_and (unset_in s.pointers (through a.change))
      (result_and (vacant_in s.status (gives a.change)) (cond (holds s a.guard) (Ok tt) (Err (Refuse AssertionFails))))))))
      ≡ check a s
  unfolding check_by
  check_parts =
      rw (
        answer_then (room_for s) (λ c. Refuse TooManyMallocs),
        answer_then (valid s) Race,
        answer_then (points s) (λ p. Refuse UnsetPointer),
        answer_then (vacant s) (λ c. Refuse LiveCell),
        answer-append (valid s) Race (compared a.guard) (frees a.change ++ through a.change),
        answer-append (valid s) Race (frees a.change) (through a.change),
        and_assoc (races_in s.pointers (compared a.guard)),
        and_assoc (races_in s.pointers (frees a.change)),
      )

-- by the kind of the change
pub check_kinds : (g : Guard) (c : Change) (s : State)
    → result_and (room_in s.mallocs (gives c)) (guarded_in s.pointers s.variables g (check_change c s)) ≡ check (record { guard = g; change = c }) s
check_kinds g Stay s = check_parts (record { guard = g; change = Stay }) s
check_kinds g (Allocate p c d) s = check_parts (record { guard = g; change = Allocate p c d }) s
check_kinds g (Release p) s = check_parts (record { guard = g; change = Release p }) s
check_kinds g (Move x y) s = rw (and_assoc (races_in s.pointers (through (Move x y)))) (check_parts (record { guard = g; change = Move x y }) s)
check_kinds g (Put x v) s = rw (and_assoc (races_in s.pointers (through (Put x v)))) (check_parts (record { guard = g; change = Put x v }) s)
