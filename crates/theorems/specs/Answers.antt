-- What document 01 gives for every answer about one field: 0, or the number of a refusal, and the values that are told with it.
-- The field number of a refusal that is met while one field is read or written is 0. Assumes nothing.
use Rattle.std.specs.Prelude.{ℕ, List, [], ◌∷◌, ◌++◌, Result, Ok, Err}
use Rattle.fields.specs.declared.Field.{Field}
use Rattle.fields.specs.declared.Refusal.{Refusal}
use Rattle.fields.specs.Refusals.{number_of}
use Rattle.fields.specs.Numbers.{numbers_of}
use Rattle.rules.specs.Showing.{Shown}

pub record Numbered : Type 0 where
  pub number : ℕ
  pub values : List ℕ

abbrev pub numbered : ℕ → List ℕ → Numbered
numbered number values = record { number = number; values = values }

-- the field's tag and numbers, and its byte offset; of a refusal the field number and the byte offset
abbrev pub read_line : Result (Field × ℕ) (Refusal × ℕ) → Numbered
read_line (Ok (f, offset)) = numbered 0 (f.tag ∷ (numbers_of f ++ (offset ∷ [])))
read_line (Err (r, offset)) = numbered (number_of r) (0 ∷ offset ∷ [])

-- the number of bytes written; of a refusal the field number
abbrev pub written_line : Result ℕ Refusal → Numbered
written_line (Ok n) = numbered 0 (n ∷ [])
written_line (Err r) = numbered (number_of r) (0 ∷ [])

-- where the part begins and how many bytes it has; of a refusal its field number
abbrev pub shown_line : Shown → Numbered
shown_line (Ok part) = numbered 0 (part.at ∷ part.size ∷ [])
shown_line (Err (r, field)) = numbered (number_of r) (field ∷ [])
