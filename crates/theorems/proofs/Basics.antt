-- Laws that speak of no heap: of tests, of what holds of every element, and of a list after a store.
-- Assumes nothing.
use Prim.Native.Nat.{◌<◌, suc, zero, ℕ}
use mathlib.Core.Path.{◌∙◌, ◌≡◌, refl, subst, sym}
use mathlib.Core.Bool.{Bool, ◌||◌, cond, false, true, true≢false}
use mathlib.Core.List.{List, [], ◌∷◌, map}
use borrow.Author.Tests.{eq-eqb, eqb-false, eqb-true, ne_eqb}
use lib.Dec.{eqb}
use lib.ListN.{get_or, length, replicate, set}
use lib.Seq.{get_or-set_other, get_or-set_same}
use Rattle.fields.specs.Every.{Every}

-- ---- tests
pub split {ℓ} : {P : Type ℓ} (b : Bool) → (b ≡ true → P) → (b ≡ false → P) → P
split true f g = f refl
split false f g = g refl

pub clash {ℓ} : {P : Type ℓ} {b : Bool} → b ≡ true → b ≡ false → P
clash p q = absurd (true≢false (sym p ∙ q))

pub or_second : (a b : Bool) → (a || b) ≡ true → a ≡ false → b ≡ true
or_second true b e h = clash refl h
or_second false b e h = e

pub eqb_self : (i : ℕ) → eqb i i ≡ true
eqb_self i = eq-eqb i i refl

pub eqb_turn : (i j : ℕ) → eqb i j ≡ eqb j i
eqb_turn i j = split (eqb i j)
    (λ e. rw (e, eq-eqb j i (sym (eqb-true i j e))) refl)
    (λ e. rw (e, ne_eqb j i (λ q. eqb-false i j e (sym q))) refl)

-- ---- what holds of every element
pub every_map : {A : Type 0} (P Q : A → Type 0) (l : List A) → ((x : A) → P x → Q x) → Every P l → Every Q l
every_map P Q [] f e = tt
every_map P Q (x ∷ l) f e = (f x e.0, every_map P Q l f e.1)

-- ---- an element after a store
pub get_or-set : (l : List ℕ) (i j a d : ℕ) → i < length l → get_or (set l i a) j d ≡ cond (eqb i j) a (get_or l j d)
get_or-set l i j a d h = split (eqb i j)
    (λ e. rw (e) (subst (λ k. get_or (set l i a) k d ≡ a) (eqb-true i j e) (get_or-set_same l i a d h)))
    (λ e. rw (e) (get_or-set_other l i j a d (λ q. eqb-false i j e (sym q))))

-- past the end a store changes nothing, so no bound is needed
pub in_set : (P : ℕ → Type 0) (l : List ℕ) (i j a d : ℕ) → P a → P (get_or l j d) → P (get_or (set l i a) j d)
in_set P [] i j a d p q = q
in_set P (x ∷ l) zero zero a d p q = p
in_set P (x ∷ l) zero (suc j) a d p q = q
in_set P (x ∷ l) (suc i) zero a d p q = q
in_set P (x ∷ l) (suc i) (suc j) a d p q = in_set P l i j a d p q

pub in_map : (P : ℕ → Type 0) (f : ℕ → ℕ) (l : List ℕ) (j d : ℕ) → ((w : ℕ) → P w → P (f w)) → P (get_or l j d) → P (get_or (map f l) j d)
in_map P f [] j d h q = q
in_map P f (x ∷ l) zero d h q = h x q
in_map P f (x ∷ l) (suc j) d h q = in_map P f l j d h q

pub get_or-same : (n i a : ℕ) → get_or (replicate n a) i a ≡ a
get_or-same zero i a = refl
get_or-same (suc n) zero a = refl
get_or-same (suc n) (suc i) a = get_or-same n i a
