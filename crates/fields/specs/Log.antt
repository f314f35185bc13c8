-- A log as a program holds it, before anything is read into it: no bytes, and room for one more than a log may have.
-- Assumes nothing.
use Rattle.std.specs.Prelude.{◌+◌, replicate}
use Rattle.fields.specs.declared.Log.{Log}
use Rattle.fields.specs.Limits.{log_bytes}

abbrev pub fresh_log : Log
fresh_log = record { bytes = replicate (log_bytes + 1) 0; length = 0 }
