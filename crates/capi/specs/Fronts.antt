-- Numbers at the front of a list, and numbers that are handed to a narrower type.
-- Assumes nothing.
use Rattle.std.specs.Prelude.{ℕ, leb, drop, length, cond, List, ◌++◌}

-- a list whose front is put anew; the rest of it stays
abbrev pub front : List ℕ → List ℕ → List ℕ
front new old = new ++ drop (length new) old

-- a number that is too large for its type counts as the largest of the type
abbrev pub at_most : ℕ → ℕ → ℕ
at_most largest n = cond (leb n largest) n largest

abbrev pub largest_byte : ℕ
largest_byte = 255

abbrev pub largest_pair : ℕ
largest_pair = 65535
