-- The starred log cases of document 01, and those of the orders, as bytes: each log is written, read again and judged.
-- Assumes nothing.
use Prim.Native.Nat.{ℕ}
use mathlib.Core.Bool.{Bool, ◌&&◌, true}
use mathlib.Core.List.{List, [], ◌∷◌}
use lib.Dec.{T, eqb}
use lib.ListN.{get_or}
use Rattle.fields.specs.Limits.{log_fields}
use Rattle.fields.specs.Rows.{is_tag, length_of, row_of, widths_of}
use Rattle.fields.specs.Numbers.{field_with}
use Rattle.fields.specs.Checks.{may_name}
use Rattle.fields.specs.Read.{field_of, read_field}
use Rattle.fields.specs.Write.{field_bytes}
use Rattle.rules.specs.Words.{after_free, cell_of, invalidated, is_unset, is_valid}
use Rattle.rules.specs.State.{datum, fresh, store, word, write}
use Rattle.rules.specs.Cases.{Case, Fact, cases, datum_is, field_is, same_field, same_line, word_is}
use Rattle.rules.specs.Commands.{command_of}
use Rattle.rules.specs.Check.{check_by, same_as_wanted}
use Rattle.rules.specs.Effect.{count_field, free, give}
use Rattle.rules.specs.Log.{located, parse, run_bytes}
use Rattle.rules.specs.Replay.{bytes_of, replay_bytes, starting_data}
use Rattle.rules.specs.Verdicts.{line_of}

-- of the bytes of a log: the state that it leaves, and the fields that are read
abbrev pub fact_in : List ℕ → Fact → Bool
fact_in log (word_is x w) = eqb (word (run_bytes log_fields log fresh).state x) w
fact_in log (datum_is x n) = eqb (datum (run_bytes log_fields log fresh).state x) n
fact_in log (field_is i f) = same_field (get_or (parse log_fields log).fields i (field_with 0 [])) f

abbrev pub facts_in : List ℕ → List Fact → Bool
facts_in log [] = true
facts_in log (fact ∷ facts) = fact_in log fact && facts_in log facts

abbrev pub right_in_bytes : List Case → Bool
right_in_bytes [] = true
right_in_bytes (c ∷ cs) =
    let log = bytes_of c.log in
    same_line (line_of (located log (run_bytes log_fields log fresh).verdict)) c.verdict
    && facts_in log c.facts
    && facts_in (replay_bytes log_fields log) c.replayed
    && right_in_bytes cs

pub cases_hold_in_bytes : T (right_in_bytes cases)
unfolding row_of is_tag widths_of length_of may_name field_of read_field field_bytes is_valid cell_of is_unset invalidated after_free fresh write store command_of same_as_wanted check_by give free count_field starting_data replay_bytes
cases_hold_in_bytes = tt
