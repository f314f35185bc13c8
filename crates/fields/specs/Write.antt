-- Writing one field: its 3 header bytes and value at the front of an output, whose rest keeps its bytes.
-- The checks are, in order, 5, 7, 8, 9, 10, 15; a refusal leaves the output as it was. Assumes nothing.
use Rattle.std.specs.Prelude.{ℕ, List, [], ◌∷◌, ◌++◌, Result, Ok, Err, leb, length, drop}
use Rattle.fields.specs.declared.Field.{Field}
use Rattle.fields.specs.declared.Refusal.{Refusal}
use Rattle.fields.specs.declared.Refusal.TheVariants.{UnknownTag, OutputTooShort}
use Rattle.fields.specs.Order.{Test, test, in_order}
use Rattle.fields.specs.Bytes.{pack}
use Rattle.fields.specs.Rows.{row_of, is_tag, widths_of, length_of}
use Rattle.fields.specs.Numbers.{numbers_of}
use Rattle.fields.specs.Checks.{value_checks}

-- the answer, and what the output then holds
pub record Writing : Type 0 where
  pub answer : Result ℕ Refusal
  pub output : List ℕ

abbrev pub writing : Result ℕ Refusal → List ℕ → Writing
writing w out = record { answer = w; output = out }

unfoldable pub field_bytes : Field → List ℕ
field_bytes f = pack (1 ∷ 2 ∷ widths_of (row_of f.tag)) (f.tag ∷ length_of f.tag ∷ numbers_of f)

abbrev pub writing_checks : Field → ℕ → List (Test Refusal)
writing_checks f room =
    test (is_tag f.tag) UnknownTag
    ∷ (value_checks (row_of f.tag) f
    ++ (test (leb (length (field_bytes f)) room) OutputTooShort ∷ []))

unfoldable pub write_field : Field → List ℕ → Writing
write_field f out =
    let bytes = field_bytes f in
    in_order (λ r. writing (Err r) out) (writing (Ok (length bytes)) (bytes ++ drop (length bytes) out)) (writing_checks f (length out))
