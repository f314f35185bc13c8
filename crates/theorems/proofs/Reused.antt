-- Logs that reuse a cell, beside the reading without marks. In case D cell 5 is given out again before the late read, which that reading
-- then accepts: so the marks are needed there. In case C with the same malloc after its race nothing is reused before the stop.
-- Assumes nothing.
use mathlib.Core.Path.{◌≡◌, refl}
use mathlib.Core.List.{List, [], ◌++◌, ◌∷◌}
use Rattle.fields.specs.declared.Field.{Field}
use Rattle.fields.specs.Limits.{log_fields}
use Rattle.fields.specs.Checks.{may_name}
use Rattle.fields.specs.Read.{field_of, read_field}
use Rattle.fields.specs.Rows.{is_tag, length_of, row_of, widths_of}
use Rattle.fields.specs.Write.{field_bytes}
use Rattle.rules.specs.Words.{after_free, cell_of, invalidated, is_unset, is_valid}
use Rattle.rules.specs.State.{fresh, store, write}
use Rattle.rules.specs.Cases.{M, handed_on, late_read}
use Rattle.rules.specs.Commands.{command_of}
use Rattle.rules.specs.Check.{check_by, same_as_wanted}
use Rattle.rules.specs.Effect.{count_field, free, give}
use Rattle.rules.specs.Run.{Accepted, Raced}
use Rattle.rules.specs.Log.{parse, run_bytes}
use Rattle.rules.specs.Plain.{Distinct, free_plain, given_by, run_plain_bytes}
use Rattle.rules.specs.Replay.{bytes_of}
use Rattle.theorems.specs.Beside.{passing}

abbrev log_d : List Field
log_d = handed_on ++ (M 1 5 7 ∷ late_read ∷ [])

abbrev log_late : List Field
log_late = handed_on ++ (late_read ∷ M 1 5 7 ∷ [])

pub reuse_races : (run_bytes log_fields (bytes_of log_d) fresh).verdict ≡ Raced 4 1 24
unfolding row_of is_tag widths_of length_of field_bytes may_name field_of read_field is_valid cell_of is_unset invalidated after_free fresh write store command_of same_as_wanted check_by give free count_field
reuse_races = refl

pub reuse_hidden : (run_plain_bytes log_fields (bytes_of log_d) fresh).verdict ≡ Accepted 5 2 1
unfolding row_of is_tag widths_of length_of field_bytes may_name field_of read_field is_valid cell_of is_unset invalidated after_free fresh write store command_of same_as_wanted check_by give free_plain count_field
reuse_hidden = refl

late_cells : given_by (parse log_fields (bytes_of log_late)).fields ≡ record { 0 = 5 } ∷ record { 0 = 5 } ∷ []
unfolding row_of is_tag widths_of length_of field_bytes may_name field_of read_field command_of
late_cells = refl

passing_cells : given_by (passing (parse log_fields (bytes_of log_late)).fields fresh) ≡ record { 0 = 5 } ∷ []
unfolding row_of is_tag widths_of length_of field_bytes may_name field_of read_field is_valid cell_of is_unset invalidated after_free fresh write store command_of same_as_wanted check_by give free count_field
passing_cells = refl

pub late_reuse : Distinct (given_by (passing (parse log_fields (bytes_of log_late)).fields fresh)) × (Distinct (given_by (parse log_fields (bytes_of log_late)).fields) → ⊥)
late_reuse = (rw passing_cells (tt, tt), λ d. (rw late_cells at d).0.0 refl)
