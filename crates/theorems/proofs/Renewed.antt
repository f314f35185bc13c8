-- Each field of a replay is what demand 3 says, nothing else is, and so no two of its mallocs name one cell.
-- Assumes nothing.
use Prim.Native.Nat.{◌+◌, ◌<◌, ◌≤◌, suc, zero, ℕ}
use mathlib.Core.Path.{◌∙◌, ◌≡◌, ap, refl, sym}
use mathlib.Core.Logic.{◌⊎◌, inl, inr}
use mathlib.Core.List.{List, [], ◌∷◌}
use native.Mathlib.Nat.{le_of_suc-le-suc, not-suc-le-zero}
use native.Mathlib.Omega.{arith}
use borrow.Author.Tests.{eq-eqb, eqb-false, eqb-true, ne_eqb}
use lib.Dec.{eqb}
use lib.ListN.{length, length-append, take}
use lib.Seq.{ext_get_or}
use Rattle.std.specs.Prelude.{Ok}
use Rattle.fields.specs.declared.Field.{Field}
use Rattle.fields.specs.declared.RecordedCell.{RecordedCell}
use Rattle.fields.specs.Every.{Every}
use Rattle.fields.specs.Numbers.{field_with}
use Rattle.rules.specs.declared.ReplayCell.{ReplayCell}
use Rattle.rules.specs.declared.Change.{Change}
use Rattle.rules.specs.declared.Change.TheVariants.{Allocate, Move, Put, Release, Stay}
use Rattle.rules.specs.declared.Act.{Act}
use Rattle.rules.specs.State.{State, fresh, never_used, number_at, status_of}
use Rattle.rules.specs.Acts.{gives}
use Rattle.rules.specs.Commands.{act_of}
use Rattle.rules.specs.Check.{check}
use Rattle.rules.specs.Effect.{effect}
use Rattle.rules.specs.Run.{Accepted, run}
use Rattle.rules.specs.Replay.{copy_change, copy_field, data_from, next_cell, replay, starting_data, to_replay_log}
use Rattle.rules.specs.Plain.{Distinct, given_by}
use Rattle.theorems.specs.Renewed.{CopiedField, CopiedMalloc, Renewed, before, field_at, mallocs_before}
use Rattle.theorems.proofs.Basics.{every_map, split}
use Rattle.theorems.proofs.Replayed.{next-accepted}
use Rattle.theorems.proofs.Shown.{effect_mallocs, fresh_mallocs}
use Rattle.theorems.proofs.Tables.{act_copy, own_field, same_copy}

-- ---- a field and its copy
-- what a malloc's copy gives out, and its data
given_copy : (s : State) (k : ReplayCell) (ch : Change) (c : RecordedCell) (own : ℕ) → gives ch ≡ c ∷ []
    → (gives (copy_change s k ch) ≡ to_replay_log k ∷ []) × (data_from (copy_change s k ch) own ≡ starting_data s c (data_from ch own))
given_copy s k Stay c own e = cc
given_copy s k (Allocate p d n) c own e = let same : d ≡ c = cc in (refl, rw same refl)
given_copy s k (Release p) c own e = cc
given_copy s k (Move x y) c own e = cc
given_copy s k (Put x v) c own e = cc

starts_unused : (s : State) (c : RecordedCell) (d : ℕ) → status_of s c.0 ≡ never_used → starting_data s c d ≡ d
unfolding starting_data
starts_unused s c d e = rw (eq-eqb (status_of s c.0) never_used e) refl

starts_used : (s : State) (c : RecordedCell) (d : ℕ) → (status_of s c.0 ≡ never_used → ⊥) → starting_data s c d ≡ number_at s.numbers c.0
unfolding starting_data
starts_used s c d n = rw (ne_eqb (status_of s c.0) never_used n) refl

malloc_copied : (s : State) (k : ReplayCell) (f : Field) (c : RecordedCell) → gives (act_of f).change ≡ c ∷ [] → CopiedMalloc s k.0 c f (copy_field s k f)
malloc_copied s k f c e =
    let q = given_copy s k (act_of f).change c f.number e in
    let own : data_from (act_of f).change f.number ≡ f.number = ap (λ (g : Field). g.number) (own_field f) in
    let number : (copy_field s k f).number ≡ starting_data s c f.number = q.1 ∙ ap (starting_data s c) own in
    record {
      gives = rw (act_copy s k f, q.0) refl;
      cell = rw q.0 refl;
      unused = λ h. number ∙ starts_unused s c f.number h;
      used = λ h. number ∙ starts_used s c f.number h;
    }

field_copied : (s : State) (k : ReplayCell) (f : Field) → CopiedField s k.0 f (copy_field s k f)
field_copied s k f = record {
  tag = refl;
  thread = refl;
  first = refl;
  second = refl;
  third = refl;
  other = λ e. same_copy s k (act_of f).change f e;
  malloc = λ c e. malloc_copied s k f c e;
}

-- ---- the replay, place by place
count_replay : (fs : List Field) (s : State) → length (replay s fs) ≡ length fs
count_replay [] s = refl
count_replay (f ∷ fs) s = ap suc (count_replay fs (effect (act_of f) s))

copied_each : (fs : List Field) (s : State) (n k l : ℕ) → (run fs s).verdict ≡ Accepted n k l → (i : ℕ) → i < length fs
    → CopiedField (run (take i fs) s).state (s.mallocs + mallocs_before fs i) (field_at fs i) (field_at (replay s fs) i)
copied_each [] s n k l e i h = absurd (not-suc-le-zero h)
copied_each (f ∷ fs) s n k l e zero h = let none : s.mallocs + 0 ≡ s.mallocs = omega arith in rw none (field_copied s (next_cell s) f)
copied_each (f ∷ fs) s n k l e (suc i) h =
    let a : Act = act_of f in
    let here : check a s ≡ Ok tt = next-accepted (check a s) f s (run fs (effect a s)) n k l e in
    let later = copied_each fs (effect a s) n k l (rw here at e) i (le_of_suc-le-suc h) in
    let count : (effect a s).mallocs + mallocs_before fs i ≡ s.mallocs + mallocs_before (f ∷ fs) (suc i) = omega (arith, effect_mallocs a s, length-append (gives a.change) (given_by (take i fs))) in
    rw (here, ← count) later

pub replay_renews : (fs : List Field) (n k l : ℕ) → (run fs fresh).verdict ≡ Accepted n k l → Renewed fs (replay fresh fs)
replay_renews fs n k l e = record {
  count = count_replay fs fresh;
  each = λ i h.
      let none : fresh.mallocs + mallocs_before fs i ≡ mallocs_before fs i = omega (arith, fresh_mallocs) in
      rw none at (copied_each fs fresh n k l e i h);
}

-- ---- nothing else is: each number of the copy is said
one_or_none : (c : Change) → (gives c ≡ []) ⊎ ((k : RecordedCell) × (gives c ≡ k ∷ []))
one_or_none Stay = inl refl
one_or_none (Allocate p c d) = inr (c, refl)
one_or_none (Release p) = inl refl
one_or_none (Move x y) = inl refl
one_or_none (Put x v) = inl refl

same_numbers : (f g : Field) → f.tag ≡ g.tag → f.thread ≡ g.thread → f.first ≡ g.first → f.second ≡ g.second → f.third ≡ g.third → f.cell.0 ≡ g.cell.0 → f.number ≡ g.number → f ≡ g
same_numbers f g tag thread first second third cell number =
    λ i. record { tag = tag i; thread = thread i; first = first i; second = second i; third = third i; cell = record { 0 = cell i }; number = number i }

one_copy : (s : State) (k : ℕ) (f g h : Field) → CopiedField s k f g → CopiedField s k f h → g ≡ h
one_copy s k f g h G H = by (one_or_none (act_of f).change)
  where
    by : (gives (act_of f).change ≡ []) ⊎ ((c : RecordedCell) × (gives (act_of f).change ≡ c ∷ [])) → g ≡ h
    by (inl e) = G.other e ∙ sym (H.other e)
    by (inr given) =
        let c : RecordedCell = given.0 in
        let p = G.malloc c given.1 in
        let q = H.malloc c given.1 in
        same_numbers g h (G.tag ∙ sym H.tag) (G.thread ∙ sym H.thread) (G.first ∙ sym H.first) (G.second ∙ sym H.second) (G.third ∙ sym H.third) (p.cell ∙ sym q.cell)
        (split (eqb (status_of s c.0) never_used)
        (λ t. let e : status_of s c.0 ≡ never_used = eqb-true (status_of s c.0) never_used t in p.unused e ∙ sym (q.unused e))
        (λ t. let n = eqb-false (status_of s c.0) never_used t in p.used n ∙ sym (q.used n)))

pub one_renewal : (fs gs hs : List Field) → Renewed fs gs → Renewed fs hs → gs ≡ hs
one_renewal fs gs hs G H = ext_get_or (field_with 0 []) gs hs (G.count ∙ sym H.count) (λ i h.
    let within : i < length fs = omega (arith, G.count) in
    one_copy (before fs i) (mallocs_before fs i) (field_at fs i) (field_at gs i) (field_at hs i) (G.each i within) (H.each i within))

-- ---- no two mallocs of a replay name one cell
-- what two fields give out: nothing, or each a cell, the second of them cell k
record BothGive (k : ℕ) (f g : Field) : Type 0 where
  none : gives (act_of f).change ≡ [] → gives (act_of g).change ≡ []
  one : (c : RecordedCell) → gives (act_of f).change ≡ c ∷ [] → (d : RecordedCell) × (gives (act_of g).change ≡ d ∷ []) × (d.0 ≡ k)

both_give : (s : State) (k : ℕ) (f g : Field) → CopiedField s k f g → BothGive k f g
both_give s k f g C = record {
  none = λ e. rw (C.other e) e;
  one = λ c e. let p = C.malloc c e in (g.cell, p.gives, p.cell);
}

above_apart : (d : RecordedCell) (l : List RecordedCell) → Every (λ c. d.0 < c.0) l → Every (λ c. d ≡ c → ⊥) l
above_apart d [] a = tt
above_apart d (c ∷ l) a = (λ e. let same : d.0 ≡ c.0 = ap (λ (r : RecordedCell). r.0) e in omega (arith, a.0), above_apart d l a.1)

-- from cell n on
in_turn : (fs gs : List Field) (n : ℕ) → length gs ≡ length fs → ((i : ℕ) → i < length fs → BothGive (n + mallocs_before fs i) (field_at fs i) (field_at gs i))
    → Every (λ c. n ≤ c.0) (given_by gs) × Distinct (given_by gs)
in_turn [] [] n e G = (tt, tt)
in_turn [] (g ∷ gs) n e G = absurd (omega (arith, e))
in_turn (f ∷ fs) [] n e G = absurd (omega (arith, e))
in_turn (f ∷ fs) (g ∷ gs) n e G = by (one_or_none (act_of f).change) (λ k h. in_turn fs gs k (let z : suc (length gs) ≡ suc (length fs) = e in omega arith) h)
  where
    here : BothGive n f g
    here = let none : n + 0 ≡ n = omega arith in rw none at (G 0 (omega arith))

    later : (k : ℕ) → n + length (gives (act_of f).change) ≡ k → (i : ℕ) → i < length fs → BothGive (k + mallocs_before fs i) (field_at fs i) (field_at gs i)
    later k q i h =
        let count : n + mallocs_before (f ∷ fs) (suc i) ≡ k + mallocs_before fs i = omega (arith, length-append (gives (act_of f).change) (given_by (take i fs))) in
        rw count at (G (suc i) (omega arith))

    by : (gives (act_of f).change ≡ []) ⊎ ((c : RecordedCell) × (gives (act_of f).change ≡ c ∷ []))
        → ((k : ℕ) → ((i : ℕ) → i < length fs → BothGive (k + mallocs_before fs i) (field_at fs i) (field_at gs i)) → Every (λ c. k ≤ c.0) (given_by gs) × Distinct (given_by gs))
        → Every (λ c. n ≤ c.0) (given_by (g ∷ gs)) × Distinct (given_by (g ∷ gs))
    by (inl q) on =
        let none = here.none q in
        let count : n + length (gives (act_of f).change) ≡ n = omega (arith, ap length q) in
        rw none (on n (later n count))
    by (inr given) on =
        let d = here.one given.0 given.1 in
        let count : n + length (gives (act_of f).change) ≡ suc n = omega (arith, ap length given.1) in
        let rest = on (suc n) (later (suc n) count) in
        let above = every_map (λ c. suc n ≤ c.0) (λ c. d.0.0 < c.0) (given_by gs) (λ c h. omega (arith, d.2)) rest.0 in
        rw d.1 ((omega (arith, d.2), every_map (λ c. suc n ≤ c.0) (λ c. n ≤ c.0) (given_by gs) (λ c h. omega arith) rest.0), (above_apart d.0 (given_by gs) above, rest.1))

pub renewed_distinct : (fs gs : List Field) → Renewed fs gs → Distinct (given_by gs)
renewed_distinct fs gs G = (in_turn fs gs 0 G.count (λ i h.
    let none : 0 + mallocs_before fs i ≡ mallocs_before fs i = omega arith in
    rw none (both_give (before fs i) (mallocs_before fs i) (field_at fs i) (field_at gs i) (G.each i h)))).1
