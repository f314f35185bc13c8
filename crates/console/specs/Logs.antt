-- The log that is answered on, by what a reader had and an answer that holds of it.
-- Assumes nothing.
use Rattle.std.specs.Prelude.{ℕ, ◌≤◌, List, Option, length}
use Rattle.std.specs.Io.KnownBytes.{Consumes, IsAtEnd}
use Rattle.fields.specs.Limits.{log_bytes}

-- it is what was read from the front of the input, and all of it, or more than a log may have
abbrev pub AnswersOn : Option (List ℕ) → (List ℕ → Type 0) → Type 0
AnswersOn input Answered = (log : List ℕ) × (rest : Option (List ℕ)) × Consumes input rest log × (length log ≤ log_bytes → IsAtEnd rest) × Answered log
