-- Whether all of a slice was written, by what the system answered to each call; a list of answers has the latest first.
-- Assumes nothing.
use Rattle.std.specs.Prelude.{ℕ, ◌+◌, ◌<◌, Bool, true, false, List, [], ◌∷◌, ◌⊎◌, ◌≡◌, length}
use Rattle.streams.specs.Answers.{AllGoOn, Answer, calls, moved_of, stops}

abbrev pub all_moved : List Answer → ℕ
all_moved [] = 0
all_moved (a ∷ earlier) = all_moved earlier + moved_of a

-- the latest answer is the first that stops
abbrev pub Stopped : List Answer → Type 0
Stopped [] = ⊥
Stopped (a ∷ earlier) = (stops a ≡ true) × AllGoOn earlier

-- the slice's length, and whether all of it was written
abbrev pub WritesBy : ℕ → Bool → Type 0
WritesBy size true = (got : List Answer) × AllGoOn got × (all_moved got ≡ size) × (length got < calls)
WritesBy size false = (got : List Answer) × (Stopped got ⊎ (AllGoOn got × (length got ≡ calls)))
