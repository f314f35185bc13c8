-- What a command does to the state, once it passed the checks. What is not named keeps its value.
-- Assumes nothing.
use Rattle.std.specs.Prelude.{ℕ, ◌+◌, ◌*◌, cond, List, map, eqb, set}
use Rattle.rules.specs.declared.Change.{Change}
use Rattle.rules.specs.declared.Change.TheVariants.{Stay, Allocate, Release, Move, Put}
use Rattle.rules.specs.declared.Act.{Act}
use Rattle.rules.specs.Words.{unset, cell_of, is_unset, invalidated, after_free, word_at}
use Rattle.rules.specs.State.{State, never_used, live, freed, with_words, with_data, with_status, with_tally, pointer, status_of, word, write, store}
use Rattle.rules.specs.Acts.{place, data_place, value}

-- one word changed, and both selectors of cell c
abbrev pub change_word : (ℕ → ℕ) → ℕ → List ℕ → List ℕ
change_word change i words = set words i (change (word_at words i))

abbrev pub change_own : (ℕ → ℕ) → ℕ → List ℕ → List ℕ
change_own change c selectors = change_word change (2 * c + 1) (change_word change (2 * c) selectors)

-- malloc: the cell becomes live, and p points to it, valid. A never-used cell takes the field's data, and its selectors are
-- unset and valid; a reused cell keeps its data and both selector words, marks included
unfoldable pub give : ℕ → ℕ → ℕ → State → State
give p c d s =
    let new = eqb (status_of s c) never_used in
    with_words (set s.pointers p c) (cond new (change_own (λ w. unset) c s.selectors) s.selectors)
    (with_data s.variables (cond new (set s.numbers c d) s.numbers)
    (with_status (set s.status c live)
    (with_tally s.fields (s.mallocs + 1) s)))

-- free: the cell becomes freed; every word that holds it loses validity, and so do both of its own selectors, unset or not
unfoldable pub free : ℕ → State → State
free c s =
    with_words (map (after_free c) s.pointers) (change_own invalidated c (map (after_free c) s.selectors))
    (with_status (set s.status c freed) s)

-- the free of an unset pointer changes nothing; a copy takes the whole word, mark included
abbrev pub apply : Change → State → State
apply Stay s = s
apply (Allocate p c d) s = give p c.0 d s
apply (Release p) s = cond (is_unset (pointer s p)) s (free (cell_of (pointer s p)) s)
apply (Move x y) s = write (place s x) (word s (place s y)) s
apply (Put x v) s = store (data_place s x) (value s v) s

unfoldable pub count_field : State → State
count_field s = with_tally (s.fields + 1) s.mallocs s

abbrev pub effect : Act → State → State
effect a s = count_field (apply a.change s)
