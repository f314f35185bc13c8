-- Demand 3, one command: what passes in the recording R passes, copied, in the replay S, and the two stay tied.
-- The copy may name any cell k that S has never used. Assumes nothing.
use Prim.Native.Nat.{◌<◌, ℕ}
use mathlib.Core.Path.{◌∙◌, ◌≡◌, refl}
use mathlib.Core.Bool.{true}
use borrow.Author.Tests.{eqb-false, not-true}
use lib.Dec.{eqb}
use Rattle.std.specs.Prelude.{Ok}
use Rattle.fields.proofs.Passing.{every_cut}
use Rattle.rules.specs.declared.ReplayCell.{ReplayCell}
use Rattle.rules.specs.declared.Change.{Change}
use Rattle.rules.specs.declared.Change.TheVariants.{Allocate, Move, Put, Release, Stay}
use Rattle.rules.specs.declared.Act.{Act}
use Rattle.rules.specs.declared.Stop.TheVariants.{Race}
use Rattle.rules.specs.Words.{cell_of, is_unset, is_valid}
use Rattle.rules.specs.State.{State, live, never_used, pointer, status_of}
use Rattle.rules.specs.Acts.{data_through, frees, gives, place, pointer_through, through, touched, value, value_through}
use Rattle.rules.specs.Check.{check, each, points, room_for, vacant, valid}
use Rattle.rules.specs.Effect.{apply, effect}
use Rattle.rules.specs.Replay.{Matching, copy_act, copy_change, rematch}
use Rattle.rules.proofs.Checks.{Clear, clear_each, each_clear, pass_by}
use Rattle.theorems.proofs.Basics.{split}
use Rattle.theorems.proofs.Passed.{Passed, Set, looked, passed}
use Rattle.theorems.proofs.Kept.{Named, NamedAct, found, keep, live-cell}
use Rattle.theorems.proofs.Tied.{Pair, Tied, beside, clear_points, clear_valid, flat, holds_sim, place_beside, pointer-cell, pointer-unset}
use Rattle.theorems.proofs.Effects.{count_field_sim, free_sim, give_sim, store_sim, value_sim, write_sim}

-- the cells that a replay's malloc may name
abbrev pub Apt : State → ReplayCell → Change → Type 0
Apt S k Stay = Unit {0}
Apt S k (Allocate p c d) = (k.0 < 1024) × (status_of S k.0 ≡ never_used)
Apt S k (Release p) = Unit {0}
Apt S k (Move x y) = Unit {0}
Apt S k (Put x v) = Unit {0}

module _ {R S : State} (m : Matching) (P : Pair R S (flat m)) (k : ReplayCell) where
  room_sim : (c : Change) → Apt S k c → Clear (room_for R) (gives c) → Clear (room_for S) (gives (copy_change R k c)) × Clear (vacant S) (gives (copy_change R k c))
  room_sim Stay z e = (tt, tt)
  room_sim (Allocate p c d) z e = ((rw (← P.tied.mallocs) e.0, tt), (rw z.1 refl, tt))
  room_sim (Release p) z e = (tt, tt)
  room_sim (Move x y) z e = (tt, tt)
  room_sim (Put x v) z e = (tt, tt)

  -- the copy looks at the same variables
  looks_same : (c : Change) → (through (copy_change R k c) ≡ through c) × (frees (copy_change R k c) ≡ frees c)
  looks_same Stay = (refl, refl)
  looks_same (Allocate p c d) = (refl, refl)
  looks_same (Release p) = (refl, refl)
  looks_same (Move x y) = (refl, refl)
  looks_same (Put x v) = (refl, refl)

  check_sim : (a : Act) → Apt S k a.change → Passed a R → Passed (copy_act R k a) S
  check_sim a z g =
      let l = looked a R g in
      let r = room_sim a.change z g.room in
      record {
        room = r.0;
        raceless = rw ((looks_same a.change).0, (looks_same a.change).1) (clear_each (valid S) Race (touched a) (clear_valid P (touched a) (each_clear (valid R) Race (touched a) g.raceless)));
        pointing = rw (looks_same a.change).0 (clear_points P (through a.change) l.goes g.pointing);
        unlive = r.1;
        holding = holds_sim P a.guard l.compares ∙ g.holding;
      }

  release_sim : (p : ℕ) → is_valid (pointer R p) ≡ true → Tied (apply (Release p) R) (apply (Release p) S) (flat m)
  release_sim p o = rw (pointer-unset P p o) (split (is_unset (pointer R p))
      (λ e. rw e P.tied)
      (λ e.
      let t : Set R p = record { valid = o; pointing = e } in
      rw (e, pointer-cell P p t) (free_sim P (cell_of (pointer R p)) (live-cell R p P.left t))))

  apply_sim : (c : Change) → Apt S k c → Named c → Clear (vacant R) (gives c) → Clear (valid R) (frees c) → Clear (valid R) (through c) → Clear (points R) (through c)
      → Tied (apply c R) (apply (copy_change R k c) S) (flat (rematch (gives c) (gives (copy_change R k c)) m))
  apply_sim Stay z n t f v u = P.tied
  apply_sim (Allocate p c d) z n t f v u = give_sim P p c.0 d k.0 n.0 n.1 (eqb-false (status_of R c.0) live (not-true (eqb (status_of R c.0) live) t.0)) z.0 z.1
  apply_sim (Release p) z n t f v u = release_sim p f.0
  apply_sim (Move x y) z n t f v u =
      let e = every_cut (λ i. valid R i ≡ true) (pointer_through x) (pointer_through y) v in
      let h = every_cut (λ i. points R i ≡ true) (pointer_through x) (pointer_through y) u in
      let fx = found R x P.left n.0 e.0 h.0 in
      let fy = found R y P.left n.1 e.1 h.1 in
      let tx : place S x ≡ beside (flat m) (place R x) = place_beside P x n.0 e.0 h.0 in
      let ty : place S y ≡ beside (flat m) (place R y) = place_beside P y n.1 e.1 h.1 in
      let sx = found S x P.right n.0 (clear_valid P (pointer_through x) e.0) (clear_points P (pointer_through x) e.0 h.0) in
      rw (tx, ty) (write_sim P (place R x) (place R y) fx.owned fy.owned fx.within (rw tx at sx.within))
  apply_sim (Put x w) z n t f v u =
      let e = every_cut (λ i. valid R i ≡ true) (data_through x) (value_through w) v in
      let h = every_cut (λ i. points R i ≡ true) (data_through x) (value_through w) u in
      rw (value_sim P w e.1 h.1) (store_sim P x (value R w) e.0 h.0)

  named_change : (c : Change) → Apt S k c → Named c → Named (copy_change R k c)
  named_change Stay z n = n
  named_change (Allocate p c d) z n = (n.0, z.0)
  named_change (Release p) z n = n
  named_change (Move x y) z n = n
  named_change (Put x w) z n = n

  pub named_step : (a : Act) → Apt S k a.change → NamedAct a → NamedAct (copy_act R k a)
  named_step a z n = (n.0, named_change a.change z n.1)

  pub check_step : (a : Act) → Apt S k a.change → check a R ≡ Ok tt → check (copy_act R k a) S ≡ Ok tt
  check_step a z e = pass_by (each (valid S) Race (touched (copy_act R k a))) (copy_act R k a) S (check_sim a z (passed a R e))

  pub step : (a : Act) → Apt S k a.change → Named a.change → check a R ≡ Ok tt
      → Pair (effect a R) (effect (copy_act R k a) S) (flat (rematch (gives a.change) (gives (copy_act R k a).change) m))
  step a z n e =
      let g = passed a R e in
      let l = looked a R g in
      record {
        left = keep a R P.left n e;
        right = keep (copy_act R k a) S P.right (named_change a.change z n) (check_step a z e);
        tied = count_field_sim (apply_sim a.change z n g.unlive l.frees l.goes g.pointing);
      }
