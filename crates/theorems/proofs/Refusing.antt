-- What every refusal is that the contracts of reading and writing allow: one of the numbers that document 01 names for it, with field number
-- 0; of a field that is read it tells the part's place, of one that is written it leaves the output as it was. So too of showing a field.
-- Assumes nothing.
use mathlib.Core.Bool.{Bool, true, false, cond}
use mathlib.Core.List.{List, [], ◌∷◌, ◌++◌}
use mathlib.Core.Logic.{◌⊎◌, inl, inr}
use mathlib.Core.Path.{◌≡◌, ◌∙◌, ap, refl}
use native.Mathlib.Omega.{arith}
use lib.Dec.{leb, ltb}
use lib.ListN.{drop, length}
use Prim.Native.Nat.{ℕ, ◌≤◌}
use Rattle.std.specs.Prelude.{Result, Ok, Err}
use Rattle.fields.specs.declared.Field.{Field}
use Rattle.fields.specs.declared.Refusal.{Refusal}
use Rattle.fields.specs.declared.Refusal.TheVariants.{FieldNotReached, LogTooLong}
use Rattle.fields.specs.Checks.{value_checks}
use Rattle.fields.specs.Every.{Every}
use Rattle.fields.specs.Limits.{log_bytes}
use Rattle.fields.specs.Order.{Test, in_order, test}
use Rattle.fields.specs.Read.{field_of, framing_checks, placed, read_field, tag_in, value_in}
use Rattle.fields.specs.Refusals.{number_of}
use Rattle.fields.specs.Rows.{row_of}
use Rattle.fields.specs.Write.{Writing, field_bytes, write_field, writing, writing_checks}
use Rattle.rules.specs.Log.{offset_of}
use Rattle.rules.specs.Showing.{Shown, fields_read, part_in, shown_in, size_in}
use Rattle.theorems.specs.Answers.{numbered, read_line, shown_line, written_line}

-- what tests in order come to: what is said where all pass, or what one of them says
module _ {B : Type 0} (stop : Refusal → B) (done : B) (P : Refusal → Type 0) where
  said : (tests : List (Test Refusal)) → Every (λ t. P t.says) tests → (in_order stop done tests ≡ done) ⊎ ((r : Refusal) × (in_order stop done tests ≡ stop r) × P r)
  said [] h = inl refl
  said (t ∷ ts) h = by t.passes (said ts h.1)
    where
      by : (b : Bool) → (in_order stop done ts ≡ done) ⊎ ((r : Refusal) × (in_order stop done ts ≡ stop r) × P r)
          → (cond b (in_order stop done ts) (stop t.says) ≡ done) ⊎ ((r : Refusal) × (cond b (in_order stop done ts) (stop t.says) ≡ stop r) × P r)
      by true later = later
      by false later = inr (t.says, refl, h.0)

-- an answer that refuses has one refusal and one number told with it
same_refusal : {A : Type 0} (r q : Refusal) (n m : ℕ) → ◌≡◌ {A = Result A (Refusal × ℕ)} (Err (r, n)) (Err (q, m)) → (r ≡ q) × (n ≡ m)
same_refusal r q n m e =
    let told : ◌≡◌ {A = Refusal × ℕ} (r, n) (q, m) = cc in
    (ap (λ (t : Refusal × ℕ). t.0) told, ap (λ (t : Refusal × ℕ). t.1) told)

-- ---- reading: 4 to 10
abbrev pub ReadRefusal : Refusal → Type 0
ReadRefusal r = (4 ≤ number_of r) × (number_of r ≤ 10)

four_to_ten : (s : List ℕ) (f : Field) → Every (λ t. ReadRefusal t.says) (framing_checks s ++ value_checks (row_of (tag_in s)) f)
four_to_ten s f = (
  (omega arith, omega arith),
  (
    (omega arith, omega arith),
    (
      (omega arith, omega arith),
      (
        (omega arith, omega arith),
        (
          (omega arith, omega arith),
          (
            (omega arith, omega arith),
            (
              (omega arith, omega arith),
              ((omega arith, omega arith), tt),
            ),
          ),
        ),
      ),
    ),
  ),
)

pub read_refused : (part : List ℕ) (place : ℕ) (r : Refusal) (offset : ℕ) → Err (r, offset) ≡ placed place (read_field part)
    → ReadRefusal r × (read_line (Err (r, offset)) ≡ numbered (number_of r) (0 ∷ place ∷ []))
unfolding read_field
read_refused part place r offset e =
    let f = field_of (tag_in part) (value_in part) in
    by (said Err (Ok f) ReadRefusal (framing_checks part ++ value_checks (row_of (tag_in part)) f) (four_to_ten part f))
  where
    by : (read_field part ≡ Ok (field_of (tag_in part) (value_in part))) ⊎ ((q : Refusal) × (read_field part ≡ Err q) × ReadRefusal q)
        → ReadRefusal r × (read_line (Err (r, offset)) ≡ numbered (number_of r) (0 ∷ place ∷ []))
    by (inl got) = let same = e ∙ ap (placed place) got in cc
    by (inr s) =
        let same = same_refusal r s.0 offset place (e ∙ ap (placed place) s.1) in
        (rw same.0 s.2, rw same.1 refl)

-- ---- writing: 5, 7, 8, 9, 10, then 15
abbrev pub WriteRefusal : Refusal → Type 0
WriteRefusal r = ((5 ≤ number_of r) × (number_of r ≤ 10) × (number_of r ≡ 6 → ⊥)) ⊎ (number_of r ≡ 15)

five_to_fifteen : (f : Field) (room : ℕ) → Every (λ t. WriteRefusal t.says) (writing_checks f room)
five_to_fifteen f room = (
  inl (omega arith, omega arith, λ q. omega arith),
  (
    inl (omega arith, omega arith, λ q. omega arith),
    (
      inl (omega arith, omega arith, λ q. omega arith),
      (
        inl (omega arith, omega arith, λ q. omega arith),
        (
          inl (omega arith, omega arith, λ q. omega arith),
          (inr refl, tt),
        ),
      ),
    ),
  ),
)

pub write_refused : (f : Field) (out : List ℕ) (r : Refusal) (out' : List ℕ) → writing (Err r) out' ≡ write_field f out
    → WriteRefusal r × (written_line (Err r) ≡ numbered (number_of r) (0 ∷ [])) × (out' ≡ out)
unfolding write_field
write_refused f out r out' e =
    let bytes = field_bytes f in
    by (said (λ (q : Refusal). writing (Err q) out) (writing (Ok (length bytes)) (bytes ++ drop (length bytes) out)) WriteRefusal (writing_checks f (length out)) (five_to_fifteen f (length out)))
  where
    by : (write_field f out ≡ writing (Ok (length (field_bytes f))) (field_bytes f ++ drop (length (field_bytes f)) out))
        ⊎ ((q : Refusal) × (write_field f out ≡ writing (Err q) out) × WriteRefusal q)
        → WriteRefusal r × (written_line (Err r) ≡ numbered (number_of r) (0 ∷ [])) × (out' ≡ out)
    by (inl done) = let same = ap (λ (w : Writing). w.answer) (e ∙ done) in cc
    by (inr s) =
        let same = ap (λ (w : Writing). w.answer) (e ∙ s.1) in
        let which : r ≡ s.0 = cc in
        (rw which s.2, refl, ap (λ (w : Writing). w.output) (e ∙ s.1))

-- ---- showing: 1 or 16
pub show_refused : (log : List ℕ) (n : ℕ) (r : Refusal) (field : ℕ) → Err (r, field) ≡ shown_in log n
    → ((number_of r ≡ 1) ⊎ (number_of r ≡ 16)) × (shown_line (Err (r, field)) ≡ numbered (number_of r) (0 ∷ []))
unfolding shown_in
show_refused log n r field e = by (leb (length log) log_bytes) (ltb n (length (fields_read log))) e
  where
    found : Shown
    found = Ok (record { at = offset_of n log; size = size_in (drop (offset_of n log) log) })

    by : (short reached : Bool) → Err (r, field) ≡ in_order (λ (q : Refusal). Err (q, 0)) found (test short LogTooLong ∷ test reached FieldNotReached ∷ [])
        → ((number_of r ≡ 1) ⊎ (number_of r ≡ 16)) × (shown_line (Err (r, field)) ≡ numbered (number_of r) (0 ∷ []))
    by true true q = cc
    by true false q = let same = same_refusal r FieldNotReached field 0 q in (inr (ap number_of same.0), rw same.1 refl)
    by false reached q = let same = same_refusal r LogTooLong field 0 q in (inl (ap number_of same.0), rw same.1 refl)

-- and the part is empty
pub refused_empty : (log : List ℕ) (n : ℕ) (r : Refusal) (field : ℕ) → Err (r, field) ≡ shown_in log n → part_in log n ≡ []
refused_empty log n r field e = rw (← e) refl
