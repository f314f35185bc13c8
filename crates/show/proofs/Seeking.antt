-- One turn of the search for a field, and its ends, as the loop over the log meets them.
-- Assumes nothing.
use Prim.Native.Nat.compare
use Prim.Native.Nat.{ℕ, zero, suc, ◌+◌, ◌-◌, ◌<◌, ◌≤◌}
use borrow.Author.Tests.{le-ltb, leb-true, lt-ltb, ltb-true}
use lib.Dec.{leb, ltb}
use lib.ListN.{drop, length, length-drop, take}
use lib.Seq.{drop-drop}
use mathlib.Core.Bool.{Bool, true, false, cond}
use mathlib.Core.List.{List, [], ◌∷◌}
use mathlib.Core.Path.{◌≡◌, refl, ap, sym, ◌∙◌}
use native.Mathlib.Nat.{le_of_suc-le-suc, not-suc-le-zero, zero-add}
use native.Mathlib.Omega.{arith}
use Rattle.std.proofs.Common.{take_all}
use Rattle.std.specs.Prelude.{Option, Some, None, Ok, Err, ok_or}
use Rattle.fields.proofs.Passing.{all_passed, either}
use Rattle.fields.specs.declared.Field.{Field}
use Rattle.fields.specs.declared.Refusal.{Refusal}
use Rattle.fields.specs.declared.Refusal.TheVariants.{FieldNotReached, LogTooLong}
use Rattle.fields.specs.Limits.{log_bytes, log_fields, log_mallocs}
use Rattle.fields.specs.Order.{test}
use Rattle.fields.specs.Read.{Reading, read_field}
use Rattle.fields.specs.Rows.{field_size}
use Rattle.judge.proofs.Running.{got_passed}
use Rattle.rules.specs.declared.Part.{Part}
use Rattle.rules.specs.Log.{offset_of, onward, parse}
use Rattle.rules.specs.Showing.{fields_read, mallocs_of, roomy, shown_in, size_in}
use Rattle.show.specs.declared.seek.Front.{Front}
use Rattle.show.specs.Seeking.{front_of, seek_from}

ltb_suc : (a b : ℕ) → ltb (suc a) (suc b) ≡ ltb a b
ltb_suc a b = rw compare.suc-suc

-- ---- how many fields can be read: no more than may be
few_parsed : (k : ℕ) (b : List ℕ) → length (parse k b).fields ≤ k
few_parsed zero [] = omega arith
few_parsed zero (x ∷ b) = omega arith
few_parsed (suc k) [] = omega arith
few_parsed (suc k) (x ∷ b) = by (read_field (x ∷ b)) (λ rest. few_parsed k rest)
  where
    by : (r : Reading) → ((rest : List ℕ) → length (parse k rest).fields ≤ k) → length (onward r (x ∷ b) (λ rest. parse k rest)).fields ≤ suc k
    by (Ok f) few = omega (arith, few (drop (field_size f.tag) (x ∷ b)))
    by (Err r) few = omega arith

few_roomy : (before : ℕ) (fs : List Field) → length (roomy before fs) ≤ length fs
few_roomy before [] = omega arith
few_roomy before (f ∷ fs) =
    let more = before + mallocs_of f in
    either (λ (l : List Field). length l ≤ suc (length fs)) (leb more log_mallocs) (omega (arith, few_roomy more fs)) (omega arith)

-- ---- how many there are, by what stands at the front
abbrev count : ℕ → ℕ → List ℕ → ℕ
count k before b = length (roomy before (parse k b).fields)

abbrev count_by : ℕ → List ℕ → Option Front → ℕ
count_by k b (Some front) = suc (count k front.mallocs (drop front.size b))
count_by k b None = 0

count_next : (k before : ℕ) (b : List ℕ) → count (suc k) before b ≡ count_by k b (front_of before (read_field b))
unfolding read_field
count_next k before [] = refl
count_next k before (x ∷ b) = by (read_field (x ∷ b))
  where
    told : (f : Field) (t : Bool) → length (cond t (f ∷ roomy (before + mallocs_of f) (parse k (drop (field_size f.tag) (x ∷ b))).fields) [])
        ≡ count_by k (x ∷ b) (cond t (Some (record { size = field_size f.tag; mallocs = before + mallocs_of f })) None)
    told f true = refl
    told f false = refl

    by : (r : Reading) → length (roomy before (onward r (x ∷ b) (λ rest. parse k rest)).fields) ≡ count_by k (x ∷ b) (front_of before r)
    by (Ok f) = told f (leb (before + mallocs_of f) log_mallocs)
    by (Err r) = refl

-- ---- a field at the front: it lies within the bytes, and its size is what its tag says
pub record Fronted (b : List ℕ) (front : Front) : Type 0 where
  pub told : front.size ≡ size_in b
  pub fits : front.size ≤ length b
  pub some : 0 < front.size
  pub room : front.mallocs ≤ log_mallocs

pub fronted : (b : List ℕ) (before : ℕ) (front : Front) → front_of before (read_field b) ≡ Some front → Fronted b front
fronted b before front e = by (read_field b) refl e
  where
    told : (f : Field) (t : Bool) → read_field b ≡ Ok f → leb (before + mallocs_of f) log_mallocs ≡ t
        → cond t (Some (record { size = field_size f.tag; mallocs = before + mallocs_of f })) None ≡ Some front → Fronted b front
    told f true got room e =
        let same : record { size = field_size f.tag; mallocs = before + mallocs_of f } ≡ front = cc in
        let s = ap (λ (x : Front). x.size) same in
        let m = ap (λ (x : Front). x.mallocs) same in
        record {
          told = sym s ∙ ap (λ n. field_size n) (sym (got_passed b f got).tag);
          fits = rw (← s) (got_passed b f got).fits;
          some = omega (arith, s);
          room = rw (← m) (leb-true (before + mallocs_of f) log_mallocs room);
        }
    told f false got room e = cc

    by : (r : Reading) → read_field b ≡ r → front_of before r ≡ Some front → Fronted b front
    by (Ok f) got e = told f (leb (before + mallocs_of f) log_mallocs) got refl e
    by (Err r) got e = cc

-- ---- the search, at a place of the log
-- the part that the code reads at
pub rest_of : (log : List ℕ) (at : ℕ) → take (length log - at) (drop at log) ≡ drop at log
rest_of log at = take_all (length log - at) (drop at log) (simp length-drop (omega arith))

pub far : (log : List ℕ) (n : ℕ) → log_fields ≤ n → None ≡ seek_from log_fields 0 log 0 n
unfolding seek_from
far log n h = rw (le-ltb n (count log_fields 0 log) (omega (arith, h, few_roomy 0 (parse log_fields log).fields, few_parsed log_fields log)))

module _ (k before : ℕ) (log : List ℕ) (at : ℕ) where
  turn_stops : (n : ℕ) → front_of before (read_field (drop at log)) ≡ None → None ≡ seek_from (suc k) before log at n
  unfolding seek_from
  turn_stops n e = rw (count_next k before (drop at log), e, le-ltb n 0 (omega arith))

  module _ (front : Front) (e : front_of before (read_field (drop at log)) ≡ Some front) where
    turn_finds : Some (record { at = at; size = front.size }) ≡ seek_from (suc k) before log at 0
    unfolding seek_from
    turn_finds =
        let none : at + 0 ≡ at = omega arith in
        rw (count_next k before (drop at log), e, lt-ltb 0 (suc (count k front.mallocs (drop front.size (drop at log)))) (omega arith), (fronted (drop at log) before front e).told)
        (ap (λ (n : ℕ). Some (record { at = n; size = size_in (drop at log) })) (sym none))

    turn_passes : (n : ℕ) → seek_from k front.mallocs log (at + front.size) n ≡ seek_from (suc k) before log at (suc n)
    unfolding seek_from
    turn_passes n =
        let rest = drop at log in
        let later = drop (at + front.size) log in
        let o = offset_of n later in
        let there : drop front.size rest ≡ later = drop-drop front.size at log in
        let further : drop (front.size + o) rest ≡ drop o later = sym (drop-drop o front.size rest) ∙ ap (drop o) there in
        let place : at + (front.size + o) ≡ at + front.size + o = omega arith in
        rw (count_next k before rest, e, sym (fronted rest before front e).told, there, further, place, ltb_suc n (count k front.mallocs later)) refl

  -- ---- the loop: what is sought from here on is what is sought from the start
  module _ (fuel n : ℕ) (o : Option Part) (enough : fuel ≡ suc k) (whole : seek_from fuel before log at n ≡ o) where
    pub stopped : front_of before (read_field (drop at log)) ≡ None → None ≡ o
    stopped e = turn_stops n e ∙ (rw enough at whole)

    module _ (front : Front) (e : front_of before (read_field (drop at log)) ≡ Some front) where
      pub found : n ≡ 0 → Some (record { at = at; size = front.size }) ≡ o
      found here = turn_finds front e ∙ (rw (here, enough) at whole)

      pub passed : (m : ℕ) → n ≡ suc m → seek_from k front.mallocs log (at + front.size) m ≡ o
      passed m later = turn_passes front e m ∙ (rw (later, enough) at whole)

-- ---- what is found lies within the log
lies : (k before : ℕ) (b : List ℕ) (n : ℕ) → n < count k before b → offset_of n b + size_in (drop (offset_of n b) b) ≤ length b
lies zero before [] n h = absurd (not-suc-le-zero h)
lies zero before (x ∷ b) n h = absurd (not-suc-le-zero h)
lies (suc k) before [] n h = absurd (not-suc-le-zero h)
lies (suc k) before (x ∷ b) n h = by (front_of before (read_field (x ∷ b))) n refl (rw (count_next k before (x ∷ b)) at h) (λ mallocs rest m. lies k mallocs rest m)
  where
    by : (front : Option Front) (n : ℕ) → front_of before (read_field (x ∷ b)) ≡ front → n < count_by k (x ∷ b) front
        → ((mallocs : ℕ) (rest : List ℕ) (m : ℕ) → m < count k mallocs rest → offset_of m rest + size_in (drop (offset_of m rest) rest) ≤ length rest)
        → offset_of n (x ∷ b) + size_in (drop (offset_of n (x ∷ b)) (x ∷ b)) ≤ length (x ∷ b)
    by None n e h later = absurd (not-suc-le-zero h)
    by (Some front) zero e h later = let f = fronted (x ∷ b) before front e in omega (arith, f.told, f.fits)
    by (Some front) (suc n) e h later =
        let f = fronted (x ∷ b) before front e in
        let rest = drop front.size (x ∷ b) in
        let o = offset_of n rest in
        let there : drop (front.size + o) (x ∷ b) ≡ drop o rest = sym (drop-drop o front.size (x ∷ b)) in
        rw (sym f.told, there) (omega (arith, later front.mallocs rest n (le_of_suc-le-suc h), length-drop front.size (x ∷ b), f.fits))

pub record Within (log : List ℕ) (part : Part) : Type 0 where
  pub fits : part.at + part.size ≤ length log
  pub small : length log ≤ log_bytes

pub within : (log : List ℕ) (n : ℕ) (part : Part) → shown_in log n ≡ Ok part → Within log part
unfolding shown_in
within log n part e =
    let whole : Part = record { at = offset_of n log; size = size_in (drop (offset_of n log) log) } in
    let p = all_passed (λ (r : Refusal). Err (r, 0)) (Ok whole)
    (test (leb (length log) log_bytes) LogTooLong ∷ test (ltb n (length (fields_read log))) FieldNotReached ∷ [])
    (Ok part) (λ r q. cc) e in
    let q : Ok whole ≡ Ok part = p.1 in
    let same : whole ≡ part = cc in
    record {
      fits = rw (← same) (lies log_fields 0 log n (ltb-true n (length (fields_read log)) p.0.1.0));
      small = leb-true (length log) log_bytes p.0.0;
    }

-- ---- the answer for a log, by its length
pub too_long : (log : List ℕ) (n : ℕ) → leb (length log) log_bytes ≡ false → Err (LogTooLong, 0) ≡ shown_in log n
unfolding shown_in
too_long log n h = rw h

answer_by : {A E : Type 0} (found : Bool) (x : A) (e : E) → ok_or (cond found (Some x) None) e ≡ cond found (Ok x) (Err e)
answer_by true x e = refl
answer_by false x e = refl

pub sought : (log : List ℕ) (n : ℕ) → leb (length log) log_bytes ≡ true → ok_or (seek_from log_fields 0 log 0 n) (FieldNotReached, 0) ≡ shown_in log n
unfolding shown_in seek_from
sought log n h = rw (h, zero-add) (answer_by (ltb n (length (fields_read log))) _ _)
