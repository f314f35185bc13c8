-- The fakes of document 01 ("These fakes have to be impossible"): what the contract says of the logs that tell them from a judge.
-- Each statement is of any result that the contract allows, over any buffers that are long enough. Assumes nothing.
use Rattle.std.proofs.Common.{◌≡◌, ℕ, ◌≤◌, true, List, [], ◌∷◌, length, get_or, ap, ◌∙◌, arith, le-leb}
use Rattle.fields.specs.Checks.{may_name}
use Rattle.fields.specs.Limits.{log_bytes, log_fields}
use Rattle.fields.specs.Read.{field_of, read_field}
use Rattle.fields.specs.Rows.{is_tag, length_of, row_of, widths_of}
use Rattle.rules.specs.declared.Verdict.{Verdict}
use Rattle.rules.specs.declared.Verdict.TheVariants.{Accepted, Raced}
use Rattle.rules.specs.Words.{after_free, cell_of, invalidated, is_unset, is_valid}
use Rattle.rules.specs.State.{fresh, store, write}
use Rattle.rules.specs.Commands.{command_of}
use Rattle.rules.specs.Check.{check_by, same_as_wanted}
use Rattle.rules.specs.Effect.{count_field, free, give}
use Rattle.rules.specs.Log.{located, run_bytes}
use Rattle.rules.specs.Cases.{bytes_c}
use Rattle.rules.specs.Judging.{Judged, Lent, judge_log, judged, long_enough, showing}
use Rattle.judge.specs.Judges.{Judges}

-- M(0,5,7); free p0
abbrev pub bytes_b : List ℕ
bytes_b = 1 ∷ 8 ∷ 0 ∷ 0 ∷ 0 ∷ 5 ∷ 0 ∷ 7 ∷ 0 ∷ 0 ∷ 0 ∷ 2 ∷ 2 ∷ 0 ∷ 0 ∷ 0 ∷ []

-- M(0,5,0); M(1,6,0); p0.0 := p1; free p0; M(0,5,0); p16 := p0.0
abbrev pub bytes_e : List ℕ
bytes_e =
    1 ∷ 8 ∷ 0 ∷ 0 ∷ 0 ∷ 5 ∷ 0 ∷ 0 ∷ 0 ∷ 0 ∷ 0
    ∷ 1 ∷ 8 ∷ 0 ∷ 0 ∷ 1 ∷ 6 ∷ 0 ∷ 0 ∷ 0 ∷ 0 ∷ 0
    ∷ 5 ∷ 4 ∷ 0 ∷ 0 ∷ 0 ∷ 0 ∷ 1
    ∷ 2 ∷ 2 ∷ 0 ∷ 0 ∷ 0
    ∷ 1 ∷ 8 ∷ 0 ∷ 0 ∷ 0 ∷ 5 ∷ 0 ∷ 0 ∷ 0 ∷ 0 ∷ 0
    ∷ 4 ∷ 4 ∷ 0 ∷ 0 ∷ 16 ∷ 0 ∷ 0
    ∷ []

module _ (before : Lent) (long : long_enough before ≡ true) (v : Verdict) (after : Lent) where
  -- a result that the contract allows for a log that is not too long
  result : (log : List ℕ) → length log ≤ log_bytes → Judges log before v after
      → judged v after ≡ judged (located log (run_bytes log_fields log fresh).verdict) (showing (run_bytes log_fields log fresh).state before)
  unfolding judge_log
  result log short e = e ∙ rw (le-leb (length log) log_bytes short, long)

  -- one that refuses everything, and one that makes up its counts: B has two fields, one of them a malloc, and leaves no cell live
  pub not_refused_nor_made_up : Judges bytes_b before v after → v ≡ Accepted 2 1 0
  unfolding row_of is_tag widths_of length_of may_name field_of read_field is_valid cell_of is_unset invalidated after_free fresh write store command_of same_as_wanted check_by give free count_field
  not_refused_nor_made_up e = ap (λ (j : Judged). j.verdict) (result bytes_b (omega arith) e)

  -- one that always says accepted, and one that applies only the first field and then merely counts: C races at its last field
  pub not_accepted_nor_counted : Judges bytes_c before v after → v ≡ Raced 3 1 24 22
  unfolding row_of is_tag widths_of length_of may_name field_of read_field is_valid cell_of is_unset invalidated after_free fresh write store command_of same_as_wanted check_by give free count_field
  not_accepted_nor_counted e = ap (λ (j : Judged). j.verdict) (result bytes_c (omega arith) e)

  -- one that judges and leaves the heap alone: E leaves 2,054 in p16, whatever the buffer held
  pub not_left_alone : Judges bytes_e before v after → get_or after.pointers 16 0 ≡ 2054
  unfolding row_of is_tag widths_of length_of may_name field_of read_field is_valid cell_of is_unset invalidated after_free fresh write store command_of same_as_wanted check_by give free count_field
  not_left_alone e = ap (λ (j : Judged). get_or j.after.pointers 16 0) (result bytes_e (omega arith) e)
