-- A framed field: what its frame says of the part it stands in, and what reading it comes to.
-- Assumes nothing.
use mathlib.Core.Path.{◌≡◌, sym, ◌∙◌, ap}
use mathlib.Core.List.{List, [], ◌∷◌}
use Prim.Native.Nat.{ℕ, ◌+◌, ◌≤◌}
use native.Mathlib.Omega.{arith}
use borrow.Author.Tests.{leb-true}
use lib.ListN.{length, length-drop, get_or, drop}
use lib.Seq.{drop-drop}
use Rattle.fields.specs.declared.rows.Row.{Row}
use Rattle.fields.specs.declared.Field.{Field}
use Rattle.fields.specs.declared.Refusal.{Refusal}
use Rattle.std.specs.Int.{from_le_bytes, w16, w32}
use Rattle.std.specs.Prelude.{Result, Ok, Err, ⊤, slice_index}
use Rattle.std.specs.Result.{result_and}
use Rattle.fields.specs.Order.{in_order}
use Rattle.fields.specs.Bytes.{bytes_if, total, unpack}
use Rattle.fields.specs.Rows.{is_present, length_of, row_of, width_if, widths_of}
use Rattle.fields.specs.Numbers.{field_with}
use Rattle.fields.specs.Checks.{value_checks}
use Rattle.fields.specs.Read.{Reading, field_of, frame_in, framing_checks, read_field, tag_in, value_in}
use Rattle.fields.proofs.Digits.{first_read, four_read, one_read, two_read}
use Rattle.fields.proofs.Passing.{all_passed, in_order_append, in_order_map}

-- ---- what a frame says of its part: its first byte is the tag, its header is there, and its value, which is as long as the tag's
pub record Whole (s v : List ℕ) (tag : ℕ) : Type 0 where
  pub first : tag_in s ≡ tag
  pub header : 3 ≤ length s
  pub rest : value_in s ≡ v
  pub value : length_of tag ≤ length v

pub whole : (s v : List ℕ) (tag : ℕ) → frame_in s ≡ Ok (tag, v) → Whole s v tag
whole s v tag e =
    let p = all_passed Err (Ok (tag_in s, value_in s)) (framing_checks s) (Ok (tag, v)) (λ r q. cc) e in
    let same : ◌≡◌ {A = ℕ × List ℕ} (tag_in s, value_in s) (tag, v) = cc (p.1) in
    record {
      first = ap (λ f. f.0) same;
      header = leb-true 3 (length s) p.0.0;
      rest = ap (λ f. f.1) same;
      value = rw (ap (λ f. f.0) same, ap (λ f. f.1) same) at (leb-true (length_of (tag_in s)) (length (value_in s)) p.0.1.1.1.0);
    }

pub whole_value : (s v : List ℕ) (tag : ℕ) → frame_in s ≡ Ok (tag, v) → length_of tag ≤ length v
whole_value s v tag e = (whole s v tag e).value

-- ---- what reading comes to, by its frame, and by the checks of the value
abbrev valued : Result (ℕ × List ℕ) Refusal → Reading
valued (Ok (tag, v)) = let f = field_of tag v in result_and (in_order Err (Ok (tt {0})) (value_checks (row_of tag) f)) (Ok f)
valued (Err r) = Err r

read_frame : (s : List ℕ) → read_field s ≡ valued (frame_in s)
unfolding read_field
read_frame s =
    let f = field_of (tag_in s) (value_in s) in
    in_order_append Err (Ok f) (framing_checks s) (value_checks (row_of (tag_in s)) f)
    ∙ ap (λ (r : Reading). in_order Err r (framing_checks s)) (sym (in_order_map (λ (k : Result ⊤ Refusal). result_and k (Ok f)) Err (Ok tt) (value_checks (row_of (tag_in s)) f)))
    ∙ sym (in_order_map valued Err (Ok (tag_in s, value_in s)) (framing_checks s))

pub read_framed : (s v : List ℕ) (tag : ℕ) (r : Row) (f : Field) (k : Result ⊤ Refusal) → frame_in s ≡ Ok (tag, v) → r ≡ row_of tag
    → f ≡ field_with tag (unpack (widths_of r) v) → k ≡ in_order Err (Ok tt) (value_checks r f) → result_and k (Ok f) ≡ read_field s
unfolding field_of
read_framed s v tag r f k frame row field check = rw (read_frame s, frame, check, field, row)

pub read_unframed : (s : List ℕ) (r : Refusal) → frame_in s ≡ Err r → Err r ≡ read_field s
read_unframed s r e = rw (read_frame s, e)

-- ---- a value's numbers, read at the places that the widths before them give
pub read_numbers : (tag : ℕ) (r : Row) (v : List ℕ) (w₁ w₂ w₃ w₄ first second third cell number : ℕ) → total (widths_of r) ≤ length v
    → w₁ ≡ width_if (is_present r.0) 1 → w₂ ≡ width_if (is_present r.1) 1 → w₃ ≡ width_if (is_present r.2) 1 → w₄ ≡ width_if r.3 2
    → first ≡ slice_index (bytes_if (is_present r.0) 1 (drop 1 v)) 0
    → second ≡ slice_index (bytes_if (is_present r.1) 1 (drop (1 + w₁) v)) 0
    → third ≡ slice_index (bytes_if (is_present r.2) 1 (drop (1 + w₁ + w₂) v)) 0
    → cell ≡ from_le_bytes w16 (bytes_if r.3 2 (drop (1 + w₁ + w₂ + w₃) v))
    → number ≡ from_le_bytes w32 (bytes_if r.4 4 (drop (1 + w₁ + w₂ + w₃ + w₄) v))
    → field_with tag (get_or v 0 0 ∷ first ∷ second ∷ third ∷ cell ∷ number ∷ []) ≡ field_with tag (unpack (widths_of r) v)
unfolding widths_of
read_numbers tag r v w₁ w₂ w₃ w₄ first second third cell number some e₁ e₂ e₃ e₄ f s t c n =
    rw (
      f ∙ one_read (is_present r.0) (drop 1 v) (simp length-drop (omega arith)),
      s ∙ one_read (is_present r.1) (drop (1 + w₁) v) (simp length-drop (omega arith)),
      t ∙ one_read (is_present r.2) (drop (1 + w₁ + w₂) v) (simp length-drop (omega arith)),
      c ∙ two_read r.3 (drop (1 + w₁ + w₂ + w₃) v) (simp length-drop (omega arith)),
      n ∙ four_read r.4 (drop (1 + w₁ + w₂ + w₃ + w₄) v) (simp length-drop (omega arith)),
      e₁,
      e₂,
      e₃,
      e₄,
      first_read v (omega arith),
    )
    (simp drop-drop)
