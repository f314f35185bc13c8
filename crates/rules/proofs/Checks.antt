-- The checks of a command, whatever is called a race: what it says that they pass, part by part.
-- Assumes nothing.
use mathlib.Core.Path.{◌≡◌, refl}
use Rattle.std.specs.Prelude.{Ok, Err}
use mathlib.Core.Bool.{Bool, true}
use mathlib.Core.List.{List, [], ◌++◌, ◌∷◌}
use Rattle.fields.specs.declared.Refusal.TheVariants.{AssertionFails, LiveCell, TooManyMallocs, UnsetPointer}
use Rattle.fields.specs.Every.{Every}
use Rattle.fields.specs.Order.{Test, test}
use Rattle.fields.proofs.Passing.{Passes, all_pass, all_passed, every_cut, every_join}
use Rattle.rules.specs.declared.Act.{Act}
use Rattle.rules.specs.declared.Stop.{Stop}
use Rattle.rules.specs.declared.Stop.TheVariants.{Refuse}
use Rattle.rules.specs.State.{State}
use Rattle.rules.specs.Acts.{gives, through}
use Rattle.rules.specs.Check.{Answer, check_by, each, holds, points, room_for, vacant}

-- ---- one test for each of a list
abbrev pub Clear : {K : Type 0} → (K → Bool) → List K → Type 0
Clear good l = Every (λ k. good k ≡ true) l

pub each_clear : {K A : Type 0} (good : K → Bool) (says : K → A) (l : List K) → Every Passes (each good says l) → Clear good l
each_clear good says [] e = tt
each_clear good says (k ∷ l) e = (e.0, each_clear good says l e.1)

pub clear_each : {K A : Type 0} (good : K → Bool) (says : K → A) (l : List K) → Clear good l → Every Passes (each good says l)
clear_each good says [] e = tt
clear_each good says (k ∷ l) e = (e.0, clear_each good says l e.1)

pub each_same : {K A : Type 0} (good good' : K → Bool) (says : K → A) (l : List K) → ((k : K) → good' k ≡ good k) → each good' says l ≡ each good says l
each_same good good' says [] f = refl
each_same good good' says (k ∷ l) f = rw (f k, each_same good good' says l f) refl

-- ---- all the checks
pub record PassedBy (races : List (Test Stop)) (a : Act) (s : State) : Type 0 where
  pub room : Clear (room_for s) (gives a.change)
  pub raceless : Every Passes races
  pub pointing : Clear (points s) (through a.change)
  pub unlive : Clear (vacant s) (gives a.change)
  pub holding : holds s a.guard ≡ true

-- the tests around the races, as check_by has them
abbrev pub room_tests : Act → State → List (Test Stop)
room_tests a s = each (room_for s) (λ c. Refuse TooManyMallocs) (gives a.change)

abbrev pub set_tests : Act → State → List (Test Stop)
set_tests a s = each (points s) (λ p. Refuse UnsetPointer) (through a.change)

abbrev pub vacancy_tests : Act → State → List (Test Stop)
vacancy_tests a s = each (vacant s) (λ c. Refuse LiveCell) (gives a.change)

abbrev pub guard_tests : Act → State → List (Test Stop)
guard_tests a s = test (holds s a.guard) (Refuse AssertionFails) ∷ []

pub passed_by : (races : List (Test Stop)) (a : Act) (s : State) → check_by races a s ≡ Ok tt → PassedBy races a s
unfolding check_by
passed_by races a s e =
    let all = room_tests a s ++ (races ++ (set_tests a s ++ (vacancy_tests a s ++ guard_tests a s))) in
    let passes = (all_passed Err (Ok tt) all (Ok tt) (λ stop (same : ◌≡◌ {A = Answer} (Err stop) (Ok tt)). cc) e).0 in
    let p = every_cut Passes (room_tests a s) (races ++ (set_tests a s ++ (vacancy_tests a s ++ guard_tests a s))) passes in
    let q = every_cut Passes races (set_tests a s ++ (vacancy_tests a s ++ guard_tests a s)) p.1 in
    let r = every_cut Passes (set_tests a s) (vacancy_tests a s ++ guard_tests a s) q.1 in
    let t = every_cut Passes (vacancy_tests a s) (guard_tests a s) r.1 in
    record {
      room = each_clear (room_for s) (λ c. Refuse TooManyMallocs) (gives a.change) p.0;
      raceless = q.0;
      pointing = each_clear (points s) (λ p. Refuse UnsetPointer) (through a.change) r.0;
      unlive = each_clear (vacant s) (λ c. Refuse LiveCell) (gives a.change) t.0;
      holding = t.1.0;
    }

pub pass_by : (races : List (Test Stop)) (a : Act) (s : State) → PassedBy races a s → check_by races a s ≡ Ok tt
unfolding check_by
pass_by races a s p =
    all_pass Err (Ok tt) (room_tests a s ++ (races ++ (set_tests a s ++ (vacancy_tests a s ++ guard_tests a s))))
    (every_join Passes (room_tests a s) (races ++ (set_tests a s ++ (vacancy_tests a s ++ guard_tests a s))) (clear_each (room_for s) (λ c. Refuse TooManyMallocs) (gives a.change) p.room)
    (every_join Passes races (set_tests a s ++ (vacancy_tests a s ++ guard_tests a s)) p.raceless
    (every_join Passes (set_tests a s) (vacancy_tests a s ++ guard_tests a s) (clear_each (points s) (λ p. Refuse UnsetPointer) (through a.change) p.pointing)
    (every_join Passes (vacancy_tests a s) (guard_tests a s) (clear_each (vacant s) (λ c. Refuse LiveCell) (gives a.change) p.unlive) (p.holding, tt)))))
