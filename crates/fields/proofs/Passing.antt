-- Tests, one and in order: what follows where all pass, and what a caller does with the answer of several.
-- Assumes nothing.
use mathlib.Core.Bool.{Bool, true, false, cond}
use mathlib.Core.List.{List, [], ◌∷◌, ◌++◌}
use mathlib.Core.Path.{◌≡◌, refl, ap}
use Rattle.fields.specs.Every.{Every}
use Rattle.fields.specs.Order.{Test, in_order}

-- ---- what holds of every element of two lists holds of every element of both
pub every_cut : {A : Type 0} (P : A → Type 0) (l m : List A) → Every P (l ++ m) → Every P l × Every P m
every_cut P [] m e = (tt, e)
every_cut P (x ∷ l) m e = let q = every_cut P l m e.1 in ((e.0, q.0), q.1)

pub every_join : {A : Type 0} (P : A → Type 0) (l m : List A) → Every P l → Every P m → Every P (l ++ m)
every_join P [] m e f = f
every_join P (x ∷ l) m e f = (e.0, every_join P l m e.1 f)

-- ---- one test: what holds of both answers, and what an answer that only one of them gives says
pub either {ℓ} : {A : Type 0} (P : A → Type ℓ) (b : Bool) {x y : A} → P x → P y → P (cond b x y)
either P true p q = p
either P false p q = q

pub taken : {A : Type 0} (b : Bool) (x y end : A) → (y ≡ end → ⊥) → cond b x y ≡ end → (b ≡ true) × (x ≡ end)
taken true x y end n e = (refl, e)
taken false x y end n e = absurd (n e)

-- ---- tests in order
abbrev pub Passes : {A : Type 0} → Test A → Type 0
Passes t = t.passes ≡ true

module _ {A B : Type 0} (stop : A → B) (done : B) where
  -- an answer that no test gives says that every test passed
  pub all_passed : (ts : List (Test A)) (end : B) → ((x : A) → stop x ≡ end → ⊥) → in_order stop done ts ≡ end → Every Passes ts × (done ≡ end)
  all_passed [] end n e = (tt, e)
  all_passed (t ∷ ts) end n e =
      let p = taken t.passes (in_order stop done ts) (stop t.says) end (n t.says) e in
      let q = all_passed ts end n p.1 in
      ((p.0, q.0), q.1)

  pub all_pass : (ts : List (Test A)) → Every Passes ts → in_order stop done ts ≡ done
  all_pass [] p = refl
  all_pass (t ∷ ts) p = rw p.0 (all_pass ts p.1)

  -- two runs of tests are one
  pub in_order_append : (ts us : List (Test A)) → in_order stop done (ts ++ us) ≡ in_order stop (in_order stop done us) ts
  in_order_append [] us = refl
  in_order_append (t ∷ ts) us = ap (λ (b : B). cond t.passes b (stop t.says)) (in_order_append ts us)

-- what is done with the answer may be done with each answer
pub in_order_map : {A B C : Type 0} (f : B → C) (stop : A → B) (done : B) (ts : List (Test A)) → f (in_order stop done ts) ≡ in_order (λ x. f (stop x)) (f done) ts
in_order_map f stop done [] = refl
in_order_map f stop done (t ∷ ts) = by t.passes (in_order_map f stop done ts)
  where
    by : (b : Bool) → f (in_order stop done ts) ≡ in_order (λ x. f (stop x)) (f done) ts → f (cond b (in_order stop done ts) (stop t.says)) ≡ cond b (in_order (λ x. f (stop x)) (f done) ts) (f (stop t.says))
    by true e = e
    by false e = refl
