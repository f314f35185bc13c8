-- A field's numbers in the order of its row, and the field of such numbers.
-- Assumes nothing.
use Rattle.std.specs.Prelude.{ℕ, ◌<◌, cond, List, [], ◌∷◌, eqb, get_or}
use Rattle.fields.specs.declared.Field.{Field}
use Rattle.fields.specs.Rows.{row_of, widths_of}

abbrev pub numbers_of : Field → List ℕ
numbers_of f = f.thread ∷ f.first ∷ f.second ∷ f.third ∷ f.cell.0 ∷ f.number ∷ []

abbrev pub field_with : ℕ → List ℕ → Field
field_with tag ns =
    record {
      tag = tag;
      thread = get_or ns 0 0;
      first = get_or ns 1 0;
      second = get_or ns 2 0;
      third = get_or ns 3 0;
      cell = record { 0 = get_or ns 4 0 };
      number = get_or ns 5 0;
    }

-- numbers of width 0 put to 0
abbrev pub present : List ℕ → List ℕ → List ℕ
present [] ns = []
present (w ∷ ws) [] = []
present (w ∷ ws) (n ∷ ns) = cond (eqb w 0) 0 n ∷ present ws ns

-- demand 2's "itself": the tag and its row's numbers
unfoldable pub itself : Field → Field
itself f = field_with f.tag (present (widths_of (row_of f.tag)) (numbers_of f))

-- a field as code holds one: each number within its type
pub record Held (f : Field) : Type 0 where
  pub first : f.first < 256
  pub second : f.second < 256
  pub third : f.third < 256
  pub cell : f.cell.0 < 65536
  pub number : f.number < 4294967296
