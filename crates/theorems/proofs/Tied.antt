-- Demand 3, what is kept from field to field; and of the words that are valid in the recording R: their partners in the replay S
-- are valid, unset where they are, and equal where they are. So the checks pass alike. Assumes nothing.
use Prim.Native.Nat.{◌%◌, ◌*◌, ◌+◌, ◌/◌, ◌<◌, ℕ}
use mathlib.Core.Path.{◌∙◌, ◌≡◌, ap, refl, sym}
use mathlib.Core.Bool.{Bool, cond, false, not, true}
use mathlib.Core.List.{List, [], ◌∷◌}
use native.Mathlib.Omega.{arith}
use borrow.Author.Tests.{eq-eqb, eqb-false, eqb-true, ne_eqb}
use lib.Dec.{eqb}
use Rattle.rules.specs.declared.PExp.{PExp}
use Rattle.rules.specs.declared.PExp.TheVariants.{PointerVariable, SelectorOf}
use Rattle.rules.specs.declared.Guard.{Guard}
use Rattle.rules.specs.declared.Guard.TheVariants.{Always, Equal, Same}
use Rattle.rules.specs.declared.Place.{Place}
use Rattle.rules.specs.declared.Place.TheVariants.{PointerWord, SelectorWord}
use Rattle.rules.specs.Words.{cell_of, is_unset, is_valid, unset}
use Rattle.rules.specs.State.{State, number_at, pointer, status_of, word}
use Rattle.rules.specs.Acts.{compared, place, pointer_through}
use Rattle.rules.specs.Check.{holds, points, same_as_wanted, valid}
use Rattle.rules.specs.Run.{live_count}
use Rattle.rules.specs.Replay.{Matching}
use Rattle.rules.specs.Matching.{Live, Owned}
use Rattle.rules.proofs.Checks.{Clear}
use Rattle.theorems.proofs.Basics.{eqb_self, eqb_turn, every_map, split}
use Rattle.theorems.proofs.Words.{valid_below, valid-cell}
use Rattle.theorems.proofs.States.{eq_place}
use Rattle.theorems.proofs.Passed.{Set, reached}
use Rattle.theorems.proofs.Kept.{Inv, PointerNamed, live_below}

-- the replay's cell of each recorded cell, as numbers
abbrev pub flat : Matching → ℕ → ℕ
flat m c = (m (record { 0 = c })).0

-- the matching word, and the matching place
unfoldable pub partner : (ℕ → ℕ) → ℕ → ℕ
partner m w = cond (eqb w unset) unset (m w)

abbrev pub beside : (ℕ → ℕ) → Place → Place
beside m (PointerWord i) = PointerWord i
beside m (SelectorWord j) = SelectorWord (2 * m (j / 2) + j % 2)

-- what is kept from field to field: the clauses of Match over numbers, and the counts that the verdict gives
pub record Tied (R S : State) (m : ℕ → ℕ) : Type 0 where
  pub variables : R.variables ≡ S.variables
  pub fields : R.fields ≡ S.fields
  pub mallocs : R.mallocs ≡ S.mallocs
  pub count : live_count R.status ≡ live_count S.status
  pub live : (c : ℕ) → Live R c → Live S (m c)
  pub one : (c d : ℕ) → Live R c → Live R d → m c ≡ m d → c ≡ d
  pub back : (k : ℕ) → Live S k → (c : ℕ) × Live R c × (m c ≡ k)
  pub equal : (c : ℕ) → Live R c → number_at R.numbers c ≡ number_at S.numbers (m c)
  pub words : (x : Place) → Owned (status_of R) x → is_valid (word R x) ≡ true → word S (beside m x) ≡ partner m (word R x)

-- both states sound, and tied
pub record Pair (R S : State) (m : ℕ → ℕ) : Type 0 where
  pub left : Inv R
  pub right : Inv S
  pub tied : Tied R S m

unset_eqb : (w : ℕ) → is_valid w ≡ true → is_unset w ≡ eqb w unset
unfolding is_unset
unset_eqb w h = ap (λ (n : ℕ). eqb n unset) (valid-cell w h)

pub partner_unset : (m : ℕ → ℕ) (w : ℕ) → eqb w unset ≡ true → partner m w ≡ unset
unfolding partner
partner_unset m w e = rw e refl

pub partner_set : (m : ℕ → ℕ) (w : ℕ) → eqb w unset ≡ false → partner m w ≡ m w
unfolding partner
partner_set m w e = rw e refl

-- ---- words that are valid in the recording
module _ {R S : State} {m : ℕ → ℕ} (P : Pair R S m) where
  -- a valid set word is a live cell, and its match a cell
  pub word_live : (x : Place) → is_valid (word R x) ≡ true → eqb (word R x) unset ≡ false → Live R (word R x)
  word_live x h e = rw (valid-cell (word R x) h) at ((P.left.sound.good x).live h (unset_eqb (word R x) h ∙ e))

  match_below : (x : Place) → is_valid (word R x) ≡ true → eqb (word R x) unset ≡ false → m (word R x) < 1024
  match_below x h e = live_below S (m (word R x)) P.right.sized (P.tied.live (word R x) (word_live x h e))

  pub eqb_m : (c d : ℕ) → Live R c → Live R d → eqb (m c) (m d) ≡ eqb c d
  eqb_m c d h k = split (eqb c d)
      (λ e. rw e (eq-eqb (m c) (m d) (ap m (eqb-true c d e))))
      (λ e. rw e (ne_eqb (m c) (m d) (λ q. eqb-false c d e (P.tied.one c d h k q))))

  pub partner_valid : (x : Place) → is_valid (word R x) ≡ true → is_valid (partner m (word R x)) ≡ true
  partner_valid x h = split (eqb (word R x) unset)
      (λ e. rw (partner_unset m (word R x) e) (valid_below unset (omega arith)))
      (λ e. rw (partner_set m (word R x) e) (valid_below (m (word R x)) (omega (arith, match_below x h e))))

  unset_partner : (x : Place) → is_valid (word R x) ≡ true → eqb (partner m (word R x)) unset ≡ eqb (word R x) unset
  unset_partner x h = split (eqb (word R x) unset)
      (λ e. rw (partner_unset m (word R x) e, e) refl)
      (λ e. rw (partner_set m (word R x) e, e) (ne_eqb (m (word R x)) unset (λ q. omega (arith, match_below x h e))))

  half_unset : (x y : Place) → is_valid (word R y) ≡ true → eqb (word R x) unset ≡ true → eqb (word R y) unset ≡ false
      → (eqb (partner m (word R x)) (partner m (word R y)) ≡ false) × (eqb (word R x) (word R y) ≡ false)
  half_unset x y k e f = (
    rw (partner_unset m (word R x) e, partner_set m (word R y) f) (ne_eqb unset (m (word R y)) (λ q. omega (arith, match_below y k f))),
    ne_eqb (word R x) (word R y) (λ q. eqb-false (word R y) unset f (sym q ∙ eqb-true (word R x) unset e)),
  )

  partner_eqb : (x y : Place) → is_valid (word R x) ≡ true → is_valid (word R y) ≡ true → eqb (partner m (word R x)) (partner m (word R y)) ≡ eqb (word R x) (word R y)
  partner_eqb x y h k = split (eqb (word R x) unset)
      (λ e. split (eqb (word R y) unset)
      (λ f. rw (partner_unset m (word R x) e, partner_unset m (word R y) f, eqb-true (word R x) unset e, eqb-true (word R y) unset f) refl)
      (λ f. let z = half_unset x y k e f in z.0 ∙ sym z.1))
      (λ e. split (eqb (word R y) unset)
      (λ f. let z = half_unset y x h f e in eqb_turn (partner m (word R x)) (partner m (word R y)) ∙ z.0 ∙ sym (eqb_turn (word R x) (word R y) ∙ z.1))
      (λ f. rw (partner_set m (word R x) e, partner_set m (word R y) f) (eqb_m (word R x) (word R y) (word_live x h e) (word_live y k f))))

  -- ---- pointer variables
  pointer-valid : (p : ℕ) → is_valid (pointer R p) ≡ true → is_valid (pointer S p) ≡ true
  pointer-valid p h = rw (P.tied.words (PointerWord p) tt h) (partner_valid (PointerWord p) h)

  pointer_match : (p : ℕ) → is_valid (pointer R p) ≡ true → cell_of (pointer S p) ≡ partner m (cell_of (pointer R p))
  pointer_match p h = valid-cell (pointer S p) (pointer-valid p h) ∙ P.tied.words (PointerWord p) tt h ∙ ap (partner m) (sym (valid-cell (pointer R p) h))

  pub pointer-unset : (p : ℕ) → is_valid (pointer R p) ≡ true → is_unset (pointer S p) ≡ is_unset (pointer R p)
  pointer-unset p h = unset_eqb (pointer S p) (pointer-valid p h) ∙ rw (P.tied.words (PointerWord p) tt h) (unset_partner (PointerWord p) h) ∙ sym (unset_eqb (pointer R p) h)

  pub pointer-cell : (p : ℕ) → Set R p → cell_of (pointer S p) ≡ m (cell_of (pointer R p))
  unfolding is_unset
  pointer-cell p t = pointer_match p t.valid ∙ partner_set m (cell_of (pointer R p)) t.pointing

  cells_sim : (p q : ℕ) → is_valid (pointer R p) ≡ true → is_valid (pointer R q) ≡ true
      → eqb (cell_of (pointer S p)) (cell_of (pointer S q)) ≡ eqb (cell_of (pointer R p)) (cell_of (pointer R q))
  cells_sim p q h k = rw (pointer_match p h, pointer_match q k, valid-cell (pointer R p) h, valid-cell (pointer R q) k) (partner_eqb (PointerWord p) (PointerWord q) h k)

  -- ---- the checks pass alike
  pub clear_valid : (l : List ℕ) → Clear (valid R) l → Clear (valid S) l
  clear_valid l c = every_map (λ p. valid R p ≡ true) (λ p. valid S p ≡ true) l pointer-valid c

  pub clear_points : (l : List ℕ) → Clear (valid R) l → Clear (points R) l → Clear (points S) l
  clear_points [] e f = tt
  clear_points (p ∷ l) e f = (ap not (pointer-unset p e.0) ∙ f.0, clear_points l e.1 f.1)

  same_sim : (t : Bool) (p q : ℕ) → is_valid (pointer R p) ≡ true → is_valid (pointer R q) ≡ true → same_as_wanted t (pointer S p) (pointer S q) ≡ same_as_wanted t (pointer R p) (pointer R q)
  unfolding same_as_wanted
  same_sim t p q h k = rw (cells_sim p q h k) refl

  pub holds_sim : (g : Guard) → Clear (valid R) (compared g) → holds S g ≡ holds R g
  holds_sim Always c = refl
  holds_sim (Same t p q) c = same_sim t p q c.0 c.1.0
  holds_sim (Equal t x y) c = rw P.tied.variables refl

  -- ---- places
  pub eq_beside : (x y : Place) → Owned (status_of R) x → Owned (status_of R) y → eq_place (beside m x) (beside m y) ≡ eq_place x y
  eq_beside (PointerWord i) (PointerWord j) h k = refl
  eq_beside (PointerWord i) (SelectorWord j) h k = refl
  eq_beside (SelectorWord i) (PointerWord j) h k = refl
  eq_beside (SelectorWord i) (SelectorWord j) h k = split (eqb i j)
      (λ e. rw (eqb-true i j e, eqb_self j) (eqb_self (2 * m (j / 2) + j % 2)))
      (λ e. rw e (ne_eqb (2 * m (i / 2) + i % 2) (2 * m (j / 2) + j % 2)
      (λ q. eqb-false i j e (
      let a : m (i / 2) ≡ m (j / 2) = omega arith in
      let b : i / 2 ≡ j / 2 = P.tied.one (i / 2) (j / 2) h k a in
      omega arith))))

  pub place_beside : (x : PExp) → PointerNamed x → Clear (valid R) (pointer_through x) → Clear (points R) (pointer_through x) → place S x ≡ beside m (place R x)
  place_beside (PointerVariable p) n e f = refl
  place_beside (SelectorOf p b) n e f =
      let c : ℕ = cell_of (pointer R p) in
      let h : (2 * c + b) / 2 ≡ c = omega (arith, n.1) in
      let k : (2 * c + b) % 2 ≡ b = omega (arith, n.1) in
      rw (pointer-cell p (reached R p e f), h, k) refl
