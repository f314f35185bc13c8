-- What reading into a buffer gives, by what the system answered to each call.
-- Assumes nothing.
use Rattle.std.specs.Prelude.{ℕ, ◌<◌, Bool, true, false, List, [], ◌∷◌, ◌++◌, ◌⊎◌, ◌≡◌, None, Result, Ok, Err, length, take}
use Rattle.std.specs.IoError.{error_kind, raw_os_error}
use Rattle.std.specs.declared.io.Error.{Error}
use Rattle.std.specs.declared.io.ErrorKind.TheVariants as kinds
use Rattle.streams.specs.Answers.{AllGoOn, Answer, calls, is_interrupted, moved_of}
use Rattle.streams.specs.declared.reading.Filled.{Filled}
use Rattle.streams.specs.declared.reading.Stop.{Stop}
use Rattle.streams.specs.declared.reading.Stop.TheVariants.{Full, Ended, Broken}

-- one call of read: its answer, and what the lent part of the buffer holds after it
pub record Call : Type 0 where
  pub answer : Answer
  pub part : List ℕ

-- every byte that the calls brought, in their order; the list has the latest call first
abbrev pub brought : List Call → List ℕ
brought [] = []
brought (call ∷ earlier) = brought earlier ++ take (moved_of call.answer) call.part

abbrev pub answers : List Call → List Answer
answers [] = []
answers (call ∷ earlier) = call.answer ∷ answers earlier

-- the answer that the latest call got
abbrev pub Last : Answer → List Call → Type 0
Last a [] = ⊥
Last a (call ∷ earlier) = (call.answer ≡ a) × AllGoOn (answers earlier)

-- the latest call failed by this error, and no signal had come
abbrev pub LastFailed : Error → List Call → Type 0
LastFailed e made = (is_interrupted e ≡ false) × Last (Err e) made

-- all calls were made; the error is none of the system's
abbrev pub RanOut : Error → List Call → Type 0
RanOut e made = AllGoOn (answers made) × (length made ≡ calls) × (error_kind e ≡ kinds.Other) × (raw_os_error e ≡ None)

-- why no more was read, the room being the buffer's length. An end is one that a call answered, and before it there were only
-- bytes and interrupted calls; a full buffer needs no end.
abbrev pub StopsBy : Stop → ℕ → List Call → Type 0
StopsBy Full room made = AllGoOn (answers made) × (length (brought made) ≡ room) × (length made < calls)
StopsBy Ended room made = Last (Ok 0) made
StopsBy (Broken e) room made = LastFailed e made ⊎ RanOut e made

-- a buffer after reading, how many bytes at its start were read, and why no more: these are all the bytes that the calls brought
abbrev pub ReadsBy : List ℕ → ℕ → Stop → Type 0
ReadsBy buffer count stop = (made : List Call) × (take count buffer ≡ brought made) × StopsBy stop (length buffer) made

-- whether all that was asked for was read: to an end that was seen, or to the buffer's
abbrev pub is_read : Stop → Bool
is_read Full = true
is_read Ended = true
is_read (Broken e) = false

abbrev pub is_full : Stop → Bool
is_full Full = true
is_full Ended = false
is_full (Broken e) = false

-- how many bytes were read, where all that was asked for was; else why not
abbrev pub whole_of : Filled → Result ℕ Error
whole_of filled = elim filled.stop [ Full ↦ Ok filled.length | Ended ↦ Ok filled.length | Broken e ↦ Err e ]
