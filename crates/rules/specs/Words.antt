-- A pointer word is 0 to 1,023 (a cell) or 1,024 (unset); 2,048 is added where the pointer is not valid.
-- Every number is read as a word, so nothing need be known of one. Assumes nothing.
use Rattle.std.specs.Prelude.{ℕ, ◌+◌, ◌%◌, Bool, cond, List, eqb, ltb, get_or}

abbrev pub unset : ℕ
unset = 1024

abbrev pub invalid : ℕ
invalid = 2048

unfoldable pub is_valid : ℕ → Bool
is_valid w = ltb w invalid

-- the cell, or 1,024, without the mark
unfoldable pub cell_of : ℕ → ℕ
cell_of w = w % invalid

unfoldable pub is_unset : ℕ → Bool
is_unset w = eqb (cell_of w) unset

-- the word without its validity: the cell number stays
unfoldable pub invalidated : ℕ → ℕ
invalidated w = cond (is_valid w) (w + invalid) w

-- the word after cell c was freed
unfoldable pub after_free : ℕ → ℕ → ℕ
after_free c w = cond (eqb c (cell_of w)) (invalidated w) w

abbrev pub word_at : List ℕ → ℕ → ℕ
word_at words i = get_or words i unset
