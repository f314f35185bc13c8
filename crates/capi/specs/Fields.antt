-- The calls that read and write one field. In a list a field is its tag, thread, first, second, third, cell and number; what is read
-- has the byte offset after them, a refusal too.
-- Both return 0 or the number of a refusal; 15 where a list is too short, and then nothing was looked at or touched. Assumes nothing.
use Rattle.std.specs.Prelude.{ℕ, leb, get_or, length, set, cond, ◌&&◌, List, [], ◌∷◌, ◌++◌, Result, Ok, Err}
use Rattle.fields.specs.declared.Field.{Field}
use Rattle.fields.specs.declared.Refusal.{Refusal}
use Rattle.fields.specs.declared.Refusal.TheVariants.{OutputTooShort}
use Rattle.fields.specs.Numbers.{numbers_of}
use Rattle.fields.specs.Read.{placed, read_field}
use Rattle.fields.specs.Refusals.{number_of}
use Rattle.fields.specs.Write.{write_field}
use Rattle.capi.specs.Fronts.{at_most, front, largest_byte, largest_pair}

abbrev pub field_places : ℕ
field_places = 7

abbrev pub read_places : ℕ
read_places = 8

abbrev pub too_short : ℕ
too_short = number_of OutputTooShort

abbrev pub list_of : Field → List ℕ
list_of f = f.tag ∷ numbers_of f

-- a number that is too large for its type counts as the largest of the type: no row takes that one, so it is refused where the
-- row has it, and ignored where not
abbrev pub field_in : List ℕ → Field
field_in l =
    record {
      tag = at_most largest_byte (get_or l 0 0);
      thread = at_most largest_byte (get_or l 1 0);
      first = at_most largest_byte (get_or l 2 0);
      second = at_most largest_byte (get_or l 3 0);
      third = at_most largest_byte (get_or l 4 0);
      cell = record { 0 = at_most largest_pair (get_or l 5 0) };
      number = get_or l 6 0;
    }

-- ---- reading: the number returned, and the list of the field
pub record ReadLeft : Type 0 where
  pub returns : ℕ
  pub field : List ℕ

abbrev pub read_left : ℕ → List ℕ → ReadLeft
read_left returns field = record { returns = returns; field = field }

abbrev pub read_told : Result (Field × ℕ) (Refusal × ℕ) → List ℕ → ReadLeft
read_told (Ok (f, offset)) field = read_left 0 (front (list_of f ++ (offset ∷ [])) field)
read_told (Err (r, offset)) field = read_left (number_of r) (set field field_places offset)

unfoldable pub read_call : List ℕ → ℕ → List ℕ → ReadLeft
read_call part place field = cond (leb read_places (length field)) (read_told (placed place (read_field part)) field) (read_left too_short field)

-- ---- writing: the number returned, the output, and the list whose front is the number of bytes written
pub record WriteLeft : Type 0 where
  pub returns : ℕ
  pub output : List ℕ
  pub answer : List ℕ

abbrev pub write_left : ℕ → List ℕ → List ℕ → WriteLeft
write_left returns output answer = record { returns = returns; output = output; answer = answer }

abbrev pub write_told : Result ℕ Refusal → List ℕ → List ℕ → WriteLeft
write_told (Ok n) output answer = write_left 0 output (front (n ∷ []) answer)
write_told (Err r) output answer = write_left (number_of r) output answer

unfoldable pub write_call : List ℕ → List ℕ → List ℕ → WriteLeft
write_call field output answer =
    let w = write_field (field_in field) output in
    cond (leb field_places (length field) && leb 1 (length answer)) (write_told w.answer w.output answer)
    (write_left too_short output answer)
