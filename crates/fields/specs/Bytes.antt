-- Numbers as bytes, low byte first: one number of a width, and several one after the other.
-- A number of width 0 is one that a row lacks: it takes no bytes, and reads as 0. Assumes nothing.
use Rattle.std.specs.Prelude.{List, [], ◌∷◌, ◌++◌, ℕ, zero, suc, ◌+◌, ◌*◌, ◌/◌, ◌%◌, Bool, cond, replicate, take, drop}

abbrev pub to_bytes : ℕ → ℕ → List ℕ
to_bytes zero n = []
to_bytes (suc width) n = n % 256 ∷ to_bytes width (n / 256)

abbrev pub from_bytes : List ℕ → ℕ
from_bytes [] = 0
from_bytes (b ∷ bs) = b + 256 * from_bytes bs

-- the bytes of numbers of the given widths, and the numbers of the given widths in bytes
abbrev pub pack : List ℕ → List ℕ → List ℕ
pack [] ns = []
pack (w ∷ ws) [] = to_bytes w 0 ++ pack ws []
pack (w ∷ ws) (n ∷ ns) = to_bytes w n ++ pack ws ns

abbrev pub unpack : List ℕ → List ℕ → List ℕ
unpack [] bs = []
unpack (w ∷ ws) bs = from_bytes (take w bs) ∷ unpack ws (drop w bs)

abbrev pub total : List ℕ → ℕ
total [] = 0
total (w ∷ ws) = w + total ws

-- as many bytes from the front of a list, or as many zeros where the number is not there
abbrev pub bytes_if : Bool → ℕ → List ℕ → List ℕ
bytes_if there width bs = cond there (take width bs) (replicate width 0)
