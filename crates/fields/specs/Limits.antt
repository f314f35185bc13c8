-- The limits of a log and of a field, each with one name. In the code each is a constant of the type that it limits.
-- Assumes nothing.
use Rattle.std.specs.Prelude.{ℕ}

-- ---- a log
abbrev pub log_bytes : ℕ
log_bytes = 45056

abbrev pub log_fields : ℕ
log_fields = 4096

abbrev pub log_mallocs : ℕ
log_mallocs = 1024

-- ---- a field
-- a tag byte and a two-byte length
abbrev pub header_bytes : ℕ
header_bytes = 3

abbrev pub threads : ℕ
threads = 8

-- of each kind, variables 0 to 15 are shared, and every thread owns eight more
abbrev pub shared_variables : ℕ
shared_variables = 16

abbrev pub owned_variables : ℕ
owned_variables = 8

abbrev pub selectors : ℕ
selectors = 2

abbrev pub cells : ℕ
cells = 1024
