-- Reading one field at the front of a part: one tag byte, a two-byte length (low byte first), then the value.
-- The checks are, in order, 4 (header), 5, 6, 4 (value), 7, 8, 9, 10. Assumes nothing.
use Rattle.std.specs.Prelude.{ℕ, List, [], ◌∷◌, ◌++◌, Result, Ok, Err, eqb, leb, length, get_or, take, drop}
use Rattle.std.specs.Borrow.{Bor}
use Rattle.fields.specs.declared.Field.{Field}
use Rattle.fields.specs.declared.Refusal.{Refusal}
use Rattle.fields.specs.declared.Refusal.TheVariants.{CutShort, UnknownTag, WrongLength}
use Rattle.fields.specs.Limits.{header_bytes}
use Rattle.fields.specs.Order.{Test, test, in_order}
use Rattle.fields.specs.Bytes.{from_bytes, unpack}
use Rattle.fields.specs.Rows.{row_of, is_tag, widths_of, length_of}
use Rattle.fields.specs.Numbers.{field_with}
use Rattle.fields.specs.Checks.{value_checks}

-- what the field at the front of a part reads as
abbrev pub Reading : Type 0
Reading = Result Field Refusal

abbrev pub tag_in : List ℕ → ℕ
tag_in s = get_or s 0 0

abbrev pub length_in : List ℕ → ℕ
length_in s = from_bytes (take 2 (drop 1 s))

abbrev pub value_in : List ℕ → List ℕ
value_in s = drop header_bytes s

-- the field of a tag in its value
unfoldable pub field_of : ℕ → List ℕ → Field
field_of tag v = field_with tag (unpack (widths_of (row_of tag)) v)

abbrev pub framing_checks : List ℕ → List (Test Refusal)
framing_checks s =
    test (leb header_bytes (length s)) CutShort
    ∷ test (is_tag (tag_in s)) UnknownTag
    ∷ test (eqb (length_in s) (length_of (tag_in s))) WrongLength
    ∷ test (leb (length_of (tag_in s)) (length (value_in s))) CutShort
    ∷ []

-- the frame of a part: its tag and its value, or why it has none
abbrev pub frame_in : List ℕ → Result (ℕ × List ℕ) Refusal
frame_in s = in_order Err (Ok (tag_in s, value_in s)) (framing_checks s)

-- a frame whose value is a part that was lent, by that part's bytes
abbrev pub bytes_in : Result (ℕ × Bor (List ℕ)) Refusal → Result (ℕ × List ℕ) Refusal
bytes_in (Ok (tag, value)) = Ok (tag, value.now)
bytes_in (Err r) = Err r

unfoldable pub read_field : List ℕ → Reading
read_field s =
    let f = field_of (tag_in s) (value_in s) in
    in_order Err (Ok f) (framing_checks s ++ value_checks (row_of (tag_in s)) f)

-- as the reader tells it: the place of the part in the log is the field's byte offset, and that of a refusal
abbrev pub placed : ℕ → Reading → Result (Field × ℕ) (Refusal × ℕ)
placed place (Ok f) = Ok (f, place)
placed place (Err r) = Err (r, place)
