-- What one call of std's read or write answers, and whether another call is made after it.
-- Assumes nothing.
use Rattle.std.specs.Prelude.{ℕ, zero, suc, Bool, true, false, not, List, [], ◌∷◌, ◌≡◌, Result, Ok, Err}
use Rattle.std.specs.IoError.{error_kind}
use Rattle.std.specs.declared.io.Error.{Error}
use Rattle.std.specs.declared.io.ErrorKind.{ErrorKind}
use Rattle.std.specs.declared.io.ErrorKind.TheVariants as kinds

-- so many bytes were moved; none, which of a read says that the input has ended; or the call failed
abbrev pub Answer : Type 0
Answer = Result ℕ Error

abbrev pub is_signal : ErrorKind → Bool
is_signal kinds.Interrupted = true
is_signal kind = false

-- of a failed call: a signal came before it moved a byte
abbrev pub is_interrupted : Error → Bool
is_interrupted e = is_signal (error_kind e)

abbrev pub moved_of : Answer → ℕ
moved_of (Ok n) = n
moved_of (Err e) = 0

-- after bytes, and after a call that a signal interrupted, the next call is made; after nothing else
abbrev pub stops : Answer → Bool
stops (Ok zero) = true
stops (Ok (suc n)) = false
stops (Err e) = not (is_interrupted e)

-- none of them stops
abbrev pub AllGoOn : List Answer → Type 0
AllGoOn [] = Unit {0}
AllGoOn (a ∷ earlier) = (stops a ≡ false) × AllGoOn earlier

-- the most calls that are made: an input or an output that takes them all has failed
abbrev pub calls : ℕ
calls = 0xffff_ffff_ffff_ffff
