-- What document 01 gives for every verdict: its word, as the program prints it, and its numbers.
-- Assumes nothing.
use Rattle.std.specs.Prelude.{ℕ, List, [], ◌∷◌, ◌++◌, length, replicate, take, codes}
use Rattle.std.specs.Fmt.{decimal}
use Rattle.fields.specs.Refusals.{number_of}
use Rattle.rules.specs.declared.Printed.{Printed}
use Rattle.rules.specs.declared.Verdict.{Verdict}
use Rattle.rules.specs.declared.Verdict.TheVariants.{Accepted, Raced, Refused, Declined}

-- ---- the words, in ASCII
abbrev pub accepted : List ℕ
accepted = codes "accepted"

abbrev pub race : List ℕ
race = codes "race"

abbrev pub refused : List ℕ
refused = codes "refused"

pub record Line : Type 0 where
  pub word : List ℕ
  pub numbers : List ℕ

abbrev pub line : List ℕ → List ℕ → Line
line word numbers = record { word = word; numbers = numbers }

abbrev pub line_of : Verdict → Line
line_of (Accepted fields mallocs live) = line accepted (fields ∷ mallocs ∷ live ∷ [])
line_of (Raced field thread variable offset) = line race (field ∷ thread ∷ variable ∷ offset ∷ [])
line_of (Refused r field offset) = line refused (number_of r ∷ field ∷ offset ∷ [])
line_of (Declined r) = line refused (number_of r ∷ 0 ∷ [])

-- ---- the line as it is printed: its word, and each number in decimal after one space
abbrev pub spaced : List ℕ → List ℕ
spaced [] = []
spaced (n ∷ ns) = 32 ∷ decimal n ++ spaced ns

abbrev pub text_of : Line → List ℕ
text_of l = l.word ++ spaced l.numbers

-- ---- the line in arrays, as code holds it: each list at the front, and 0 after it
abbrev pub padded : ℕ → List ℕ → List ℕ
padded size l = take size (l ++ replicate size 0)

abbrev pub arrays : Line → Printed
arrays l = record { word = padded 8 l.word; letters = length l.word; numbers = padded 4 l.numbers; count = length l.numbers }

abbrev pub printed_of : Verdict → Printed
printed_of verdict = arrays (line_of verdict)
