-- Source 004 beside the rules: a race is Definition 2's, of the expressions that are valid by Definition 1.
-- The paper speaks of computations, so of commands that can be executed; document 01 looks for a race before 12 and 14. Assumes nothing.
use Prim.Native.Nat.{ℕ}
use mathlib.Core.Path.{◌∙◌, ◌≡◌, ap, ap₂, refl, sym}
use mathlib.Core.Bool.{Bool, false}
use mathlib.Core.Logic.{◌⊎◌, inl, inr}
use mathlib.Core.List.{List, [], ◌++◌, ◌∷◌, append-nil}
use Rattle.std.specs.Prelude.{Ok, Err}
use Rattle.fields.specs.declared.Refusal.{Refusal}
use Rattle.fields.specs.declared.Refusal.TheVariants.{AssertionFails, LiveCell, TooManyMallocs, UnsetPointer}
use Rattle.fields.specs.Every.{Every}
use Rattle.fields.specs.Order.{Test}
use Rattle.fields.proofs.Passing.{every_join, in_order_append}
use Rattle.rules.specs.declared.Guard.{Guard}
use Rattle.rules.specs.declared.Change.{Change}
use Rattle.rules.specs.declared.Act.{Act}
use Rattle.rules.specs.declared.Stop.{Stop}
use Rattle.rules.specs.declared.Stop.TheVariants.{Race, Refuse}
use Rattle.rules.specs.State.{State}
use Rattle.rules.specs.Acts.{compared, frees, gives, through, touched}
use Rattle.rules.specs.Check.{Answer, check, check_by, each, points, room_for, vacant, valid}
use Rattle.rules.proofs.Checks.{guard_tests, room_tests, set_tests, vacancy_tests}
use Rattle.theorems.specs.Paper.{Assert, Com, Computation, Cond, ContainsInvalid, NotValid, PExp, PointerRace, SomeNotValid, contained, pointer_var, pointers_of, same_data, same_pointers, negated, Compute, Copy, Free, Load, Malloc, ReadData, Store, WriteData, valid_in}
use Rattle.theorems.specs.Beside.{Asserts, FirstNotValid, RaceIn, Says, Shows, Takes, assertion, both, change, contained_in, says_apart, says_constant, says_copy, says_equal, says_free, says_load, says_malloc, says_read, says_same, says_store, says_sum, says_unequal, says_write, valid_of}
use Rattle.theorems.proofs.Basics.{split}
use Rattle.theorems.proofs.Passed.{answered}

-- some variable of a list is not valid
abbrev pub SomeInvalid : State → List ℕ → Type 0
SomeInvalid s [] = ⊥
SomeInvalid s (p ∷ l) = (valid s p ≡ false) ⊎ SomeInvalid s l

module _ (s : State) where
  some_cut : (l m : List ℕ) → SomeInvalid s (l ++ m) → SomeInvalid s l ⊎ SomeInvalid s m
  some_cut [] m i = inr i
  some_cut (p ∷ l) m (inl t) = inl (inl t)
  some_cut (p ∷ l) m (inr i) = later (some_cut l m i)
    where
      later : SomeInvalid s l ⊎ SomeInvalid s m → SomeInvalid s (p ∷ l) ⊎ SomeInvalid s m
      later (inl j) = inl (inr j)
      later (inr j) = inr j

  some_left : (l m : List ℕ) → SomeInvalid s l → SomeInvalid s (l ++ m)
  some_left [] m i = absurd i
  some_left (p ∷ l) m (inl t) = inl t
  some_left (p ∷ l) m (inr i) = inr (some_left l m i)

  some_right : (l m : List ℕ) → SomeInvalid s m → SomeInvalid s (l ++ m)
  some_right [] m i = i
  some_right (p ∷ l) m i = inr (some_right l m i)

-- ---- tests in order, of which some say races
module _ (s : State) where
  race_in : (l : List ℕ) (done : Answer) (v : ℕ) → (done ≡ Err (Race v) → ⊥) → answered done (each (valid s) Race l) ≡ Err (Race v) → SomeInvalid s l
  race_in [] done v n e = absurd (n e)
  race_in (p ∷ l) done v n e = split (valid s p)
      (λ t. inr (race_in l done v n (rw t at e)))
      (λ t. inl t)

  -- and the race is said of a variable that is not valid
  race_of : (l : List ℕ) (done : Answer) (v : ℕ) → (done ≡ Err (Race v) → ⊥) → answered done (each (valid s) Race l) ≡ Err (Race v) → valid s v ≡ false
  race_of [] done v n e = absurd (n e)
  race_of (p ∷ l) done v n e = split (valid s p)
      (λ t. race_of l done v n (rw t at e))
      (λ t. let said : Err (Race p) ≡ Err (Race v) = rw t at e in let same : p ≡ v = cc in rw same at t)

  in_race : (l : List ℕ) (done : Answer) → SomeInvalid s l → (v : ℕ) × (answered done (each (valid s) Race l) ≡ Err (Race v))
  in_race [] done i = absurd i
  in_race (p ∷ l) done (inl t) = (p, rw t refl)
  in_race (p ∷ l) done (inr i) = split (valid s p)
      (λ t. let r = in_race l done i in (r.0, rw t r.1))
      (λ t. (p, rw t refl))

-- tests that say no race
abbrev Raceless : Test Stop → Type 0
Raceless t = (v : ℕ) → t.says ≡ Race v → ⊥

refusal_raceless : (r : Refusal) (v : ℕ) → Refuse r ≡ Race v → ⊥
refusal_raceless r v e = cc

each_raceless : {K : Type 0} (good : K → Bool) (r : Refusal) (l : List K) → Every Raceless (each good (λ k. Refuse r) l)
each_raceless good r [] = tt
each_raceless good r (k ∷ l) = (refusal_raceless r, each_raceless good r l)

after_raceless : (ts : List (Test Stop)) (done : Answer) (v : ℕ) → Every Raceless ts → answered done ts ≡ Err (Race v) → done ≡ Err (Race v)
after_raceless [] done v n e = e
after_raceless (t ∷ ts) done v n e = split t.passes
    (λ p. after_raceless ts done v n.1 (rw p at e))
    (λ p. let said : ◌≡◌ {A = Answer} (Err t.says) (Err (Race v)) = rw p at e in absurd (n.0 v cc))

-- ---- the checks of a command
module _ (a : Act) (s : State) where
  abbrev pub races : List (Test Stop)
  races = each (valid s) Race (touched a)

  abbrev pub others : List (Test Stop)
  others = set_tests a s ++ (vacancy_tests a s ++ guard_tests a s)

  others_raceless : Every Raceless others
  others_raceless =
      every_join Raceless (set_tests a s) (vacancy_tests a s ++ guard_tests a s) (each_raceless (points s) UnsetPointer (through a.change))
      (every_join Raceless (vacancy_tests a s) (guard_tests a s) (each_raceless (vacant s) LiveCell (gives a.change)) (refusal_raceless AssertionFails, tt))

  -- what the checks come to: the tests for room, then the races, then the others
  pub check_parts : check a s ≡ answered (answered (answered (Ok tt) others) races) (room_tests a s)
  unfolding check_by
  check_parts = in_order_append Err (Ok tt) (room_tests a s) (races ++ others) ∙ ap (λ (done : Answer). answered done (room_tests a s)) (in_order_append Err (Ok tt) races others)

  -- a race is said by the tests for races alone
  by_races : (v : ℕ) → check a s ≡ Err (Race v) → (answered (Ok tt) others ≡ Err (Race v) → ⊥) × (answered (answered (Ok tt) others) races ≡ Err (Race v))
  by_races v e = (
    (λ q. let z : Ok tt ≡ Err (Race v) = after_raceless others (Ok tt) v others_raceless q in cc),
    after_raceless (room_tests a s) (answered (answered (Ok tt) others) races) v (each_raceless (room_for s) TooManyMallocs (gives a.change)) (sym check_parts ∙ e),
  )

  race-touched : (v : ℕ) → check a s ≡ Err (Race v) → SomeInvalid s (touched a)
  race-touched v e = let q = by_races v e in race_in s (touched a) (answered (Ok tt) others) v q.0 q.1

  race_variable : (v : ℕ) → check a s ≡ Err (Race v) → valid s v ≡ false
  race_variable v e = let q = by_races v e in race_of s (touched a) (answered (Ok tt) others) v q.0 q.1

  touched-race : gives a.change ≡ [] → SomeInvalid s (touched a) → (v : ℕ) × (check a s ≡ Err (Race v))
  touched-race none i = let r = in_race s (touched a) (answered (Ok tt) others) i in (r.0, check_parts ∙ no_rooms ∙ r.1)
    where
      no_rooms : {done : Answer} → answered done (room_tests a s) ≡ done
      no_rooms = rw none refl

-- ---- Definition 2 names the variables that are looked at
module _ (s : State) (legal : PExp → Bool) (marks : (p : ℕ) → legal (pointer_var p) ≡ valid s p) where
  one : (p : ℕ) → SomeInvalid s (p ∷ []) → NotValid legal p
  one p (inl t) = marks p ∙ t
  one p (inr t) = absurd t

  two : (p q : ℕ) → SomeInvalid s (p ∷ q ∷ []) → NotValid legal p ⊎ NotValid legal q
  two p q (inl t) = inl (marks p ∙ t)
  two p q (inr t) = inr (one q t)

  to_guard : (g : Guard) (k : Cond) → Asserts g k → SomeInvalid s (compared g) → ContainsInvalid legal k
  to_guard g k (says_same {p} {q}) i = two p q i
  to_guard g k (says_apart {p} {q}) i = two p q i
  to_guard g k (says_equal {x} {y}) i = i
  to_guard g k (says_unequal {x} {y}) i = i

  to_change : (m : Change) (c : Com) → Says m c → SomeInvalid s (frees m ++ through m) → PointerRace legal c
  to_change m c (says_malloc {p}) i = i
  to_change m c (says_free {p}) i = one p i
  to_change m c (says_copy {p} {q}) i = i
  to_change m c (says_load {p} {q} n) i = one q i
  to_change m c (says_store {p} {q} n) i = one p i
  to_change m c (says_read {x} {p}) i = one p i
  to_change m c (says_write {p} {x}) i = one p i
  to_change m c (says_constant {x} {n}) i = i
  to_change m c (says_sum {x} {y} {z}) i = i

  -- an assertion and what is looked at after it
  to_first : (g : Guard) (k : Cond) → Asserts g k → (l : List ℕ) (cs : List Com) → (SomeInvalid s l → RaceIn legal cs) → SomeInvalid s (compared g ++ l) → RaceIn legal (Assert k ∷ cs)
  to_first g k w l cs later i = first-or (some_cut s (compared g) l i)
    where
      first-or : SomeInvalid s (compared g) ⊎ SomeInvalid s l → RaceIn legal (Assert k ∷ cs)
      first-or (inl j) = inl (to_guard g k w j)
      first-or (inr j) = inr (later j)

  to_definition : (a : Act) (cs : List Com) → Takes a cs → SomeInvalid s (touched a) → RaceIn legal cs
  to_definition a cs (change {m} {c} w) i = inl (to_change m c w i)
  to_definition a cs (assertion {g} {k} w) i = to_first g k w [] [] (λ j. j) i
  to_definition a cs (both {g} {k} {m} {c} w u n) i = to_first g k w (frees m ++ through m) (c ∷ []) (λ j. inl (to_change m c u j)) i

  back_one : (p : ℕ) → NotValid legal p → SomeInvalid s (p ∷ [])
  back_one p n = inl (sym (marks p) ∙ n)

  back_two : (p q : ℕ) → NotValid legal p ⊎ NotValid legal q → SomeInvalid s (p ∷ q ∷ [])
  back_two p q (inl n) = inl (sym (marks p) ∙ n)
  back_two p q (inr n) = inr (back_one q n)

  from_guard : (g : Guard) (k : Cond) → Asserts g k → ContainsInvalid legal k → SomeInvalid s (compared g)
  from_guard g k (says_same {p} {q}) r = back_two p q r
  from_guard g k (says_apart {p} {q}) r = back_two p q r
  from_guard g k (says_equal {x} {y}) r = absurd r
  from_guard g k (says_unequal {x} {y}) r = absurd r

  from_change : (m : Change) (c : Com) → Says m c → PointerRace legal c → SomeInvalid s (frees m ++ through m) × (gives m ≡ [])
  from_change m c (says_malloc {p}) r = absurd r
  from_change m c (says_free {p}) r = (back_one p r, refl)
  from_change m c (says_copy {p} {q}) r = absurd r
  from_change m c (says_load {p} {q} n) r = (back_one q r, refl)
  from_change m c (says_store {p} {q} n) r = (back_one p r, refl)
  from_change m c (says_read {x} {p}) r = (back_one p r, refl)
  from_change m c (says_write {p} {x}) r = (back_one p r, refl)
  from_change m c (says_constant {x} {n}) r = absurd r
  from_change m c (says_sum {x} {y} {z}) r = absurd r

  from_definition : (a : Act) (cs : List Com) → Takes a cs → RaceIn legal cs → SomeInvalid s (touched a) × (gives a.change ≡ [])
  from_definition a cs (change {m} {c} w) (inl r) = from_change m c w r
  from_definition a cs (change {m} {c} w) (inr r) = absurd r
  from_definition a cs (assertion {g} {k} w) (inl r) = (some_left s (compared g) [] (from_guard g k w r), refl)
  from_definition a cs (assertion {g} {k} w) (inr r) = absurd r
  from_definition a cs (both {g} {k} {m} {c} w u n) (inl r) = (some_left s (compared g) (frees m ++ through m) (from_guard g k w r), n)
  from_definition a cs (both {g} {k} {m} {c} w u n) (inr (inl r)) = (some_right s (compared g) (frees m ++ through m) (from_change m c u r).0, n)
  from_definition a cs (both {g} {k} {m} {c} w u n) (inr (inr r)) = absurd r

-- ---- where the state shows the computation, the rules' race is Definition 2's
module _ (τ : Computation) (s : State) (H : Shows s τ) (a : Act) (cs : List Com) (takes : Takes a cs) where
  pub some_invalid_race : SomeInvalid s (touched a) → RaceIn (valid_in τ) cs
  some_invalid_race i = to_definition s (valid_in τ) (λ p. H.marks (pointer_var p)) a cs takes i

  pub race_is_pointer_race : (v : ℕ) → check a s ≡ Err (Race v) → RaceIn (valid_in τ) cs
  race_is_pointer_race v e = some_invalid_race (race-touched a s v e)

  pub race_names_invalid : (v : ℕ) → check a s ≡ Err (Race v) → NotValid (valid_in τ) v
  race_names_invalid v e = H.marks (pointer_var v) ∙ race_variable a s v e

  pub pointer_race_is_race : RaceIn (valid_in τ) cs → (v : ℕ) × (check a s ≡ Err (Race v))
  pointer_race_is_race r = let q = from_definition s (valid_in τ) (λ p. H.marks (pointer_var p)) a cs takes r in touched-race a s q.1 q.0

  pub passed_no_race : check a s ≡ Ok tt → RaceIn (valid_in τ) cs → ⊥
  passed_no_race here r =
      let v = pointer_race_is_race r in
      let differ : Err (Race v.0) ≡ Ok tt = sym v.1 ∙ here in
      cc

-- ---- Definition 2 by the pointers that a command contains: it races exactly where one of them is not valid
module _ (legal : PExp → Bool) where
  cond_some : (c : Cond) → ContainsInvalid legal c → SomeNotValid legal (pointers_of c)
  cond_some (same_pointers p q) (inl n) = inl n
  cond_some (same_pointers p q) (inr n) = inr (inl n)
  cond_some (same_data x y) r = r
  cond_some (negated c) r = cond_some c r

  some_cond : (c : Cond) → SomeNotValid legal (pointers_of c) → ContainsInvalid legal c
  some_cond (same_pointers p q) (inl n) = inl n
  some_cond (same_pointers p q) (inr (inl n)) = inr n
  some_cond (same_pointers p q) (inr (inr n)) = absurd n
  some_cond (same_data x y) r = r
  some_cond (negated c) r = some_cond c r

  alone : (p : ℕ) → SomeNotValid legal (p ∷ []) → NotValid legal p
  alone p (inl n) = n
  alone p (inr n) = absurd n

  pub race_contains : (c : Com) → PointerRace legal c → SomeNotValid legal (contained c)
  race_contains (Assert c) r = cond_some c r
  race_contains (Malloc p) r = r
  race_contains (Free p) r = inl r
  race_contains (Load p q i) r = inl r
  race_contains (Store p i q) r = inl r
  race_contains (Copy p q) r = r
  race_contains (ReadData x p) r = inl r
  race_contains (WriteData p x) r = inl r
  race_contains (Compute x op xs) r = r

  pub contains_race : (c : Com) → SomeNotValid legal (contained c) → PointerRace legal c
  contains_race (Assert c) r = some_cond c r
  contains_race (Malloc p) r = r
  contains_race (Free p) r = alone p r
  contains_race (Load p q i) r = alone q r
  contains_race (Store p i q) r = alone p r
  contains_race (Copy p q) r = r
  contains_race (ReadData x p) r = alone p r
  contains_race (WriteData p x) r = alone p r
  contains_race (Compute x op xs) r = r

-- ---- a race names the first variable that is not valid
race_first : (s : State) (l : List ℕ) (done : Answer) (v : ℕ) → (done ≡ Err (Race v) → ⊥) → answered done (each (valid s) Race l) ≡ Err (Race v) → FirstNotValid (valid_of s) l v
race_first s [] done v n e = absurd (n e)
race_first s (p ∷ l) done v n e = split (valid s p)
    (λ t. inr (t, race_first s l done v n (rw t at e)))
    (λ t. let said : Err (Race p) ≡ Err (Race v) = rw t at e in inl (t, cc))

race_names : (a : Act) (s : State) (v : ℕ) → check a s ≡ Err (Race v) → FirstNotValid (valid_of s) (touched a) v
race_names a s v e = let q = by_races a s v e in race_first s (touched a) (answered (Ok tt) (others a s)) v q.0 q.1

-- what the checks look at is what the commands contain, in their order
guard_contained : (g : Guard) (k : Cond) → Asserts g k → compared g ≡ pointers_of k
guard_contained g k (says_same {p} {q}) = refl
guard_contained g k (says_apart {p} {q}) = refl
guard_contained g k (says_equal {x} {y}) = refl
guard_contained g k (says_unequal {x} {y}) = refl

change_contained : (m : Change) (c : Com) → Says m c → frees m ++ through m ≡ contained c
change_contained m c (says_malloc {p}) = refl
change_contained m c (says_free {p}) = refl
change_contained m c (says_copy {p} {q}) = refl
change_contained m c (says_load {p} {q} n) = refl
change_contained m c (says_store {p} {q} n) = refl
change_contained m c (says_read {x} {p}) = refl
change_contained m c (says_write {p} {x}) = refl
change_contained m c (says_constant {x} {n}) = refl
change_contained m c (says_sum {x} {y} {z}) = refl

touched_contained : (a : Act) (cs : List Com) → Takes a cs → touched a ≡ contained_in cs
touched_contained a cs (change {m} {c} w) = change_contained m c w ∙ sym (append-nil (contained c))
touched_contained a cs (assertion {g} {k} w) = ap (λ (l : List ℕ). l ++ []) (guard_contained g k w)
touched_contained a cs (both {g} {k} {m} {c} w u n) = ap₂ (λ (l r : List ℕ). l ++ r) (guard_contained g k w) (change_contained m c u ∙ sym (append-nil (contained c)))

module _ (τ : Computation) (s : State) (H : Shows s τ) (a : Act) (cs : List Com) (takes : Takes a cs) where
  same_valid : valid_of s ≡ valid_in τ
  same_valid = λ i e. sym (H.marks e) i

  -- of the pointers that the commands contain, it names the first that is not valid
  pub race_names_first : (v : ℕ) → check a s ≡ Err (Race v) → FirstNotValid (valid_in τ) (contained_in cs) v
  race_names_first v e = rw (same_valid, touched_contained a cs takes) at (race_names a s v e)
