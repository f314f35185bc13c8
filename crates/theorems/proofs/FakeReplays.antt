-- The fakes of a replay: what every result of replaying says of the logs that tell them from one, whatever the output held, over any buffers
-- that are long enough and an output with room for the log. Assumes nothing.
use Prim.Native.Nat.{ℕ, ◌≤◌}
use mathlib.Core.Bool.{true}
use mathlib.Core.List.{List, [], ◌∷◌}
use mathlib.Core.Path.{◌≡◌, ◌∙◌, ap, sym}
use native.Mathlib.Omega.{arith}
use borrow.Author.Tests.{le-leb}
use lib.ListN.{get_or, length, take}
use Rattle.fields.specs.Checks.{may_name}
use Rattle.fields.specs.Limits.{log_bytes, log_fields}
use Rattle.fields.specs.Read.{field_of, read_field}
use Rattle.fields.specs.Rows.{is_tag, length_of, row_of, widths_of}
use Rattle.fields.specs.Write.{field_bytes}
use Rattle.rules.specs.declared.Verdict.{Verdict}
use Rattle.rules.specs.Words.{after_free, cell_of, invalidated, is_unset, is_valid}
use Rattle.rules.specs.State.{fresh, store, write}
use Rattle.rules.specs.Commands.{command_of}
use Rattle.rules.specs.Check.{check_by, same_as_wanted}
use Rattle.rules.specs.Effect.{count_field, free, give}
use Rattle.rules.specs.Log.{located, run_bytes}
use Rattle.rules.specs.Judging.{Lent, long_enough, showing}
use Rattle.rules.specs.Replay.{replay_bytes, starting_data}
use Rattle.rules.specs.Replaying.{Replayed, output_after, replay_log, replayed}
use Rattle.theorems.proofs.Results.{Replaying}

-- M(0,5,7); free p0; M(0,5,9); x0 := p0.data
abbrev pub bytes_l : List ℕ
bytes_l =
    1 ∷ 8 ∷ 0 ∷ 0 ∷ 0 ∷ 5 ∷ 0 ∷ 7 ∷ 0 ∷ 0 ∷ 0
    ∷ 2 ∷ 2 ∷ 0 ∷ 0 ∷ 0
    ∷ 1 ∷ 8 ∷ 0 ∷ 0 ∷ 0 ∷ 5 ∷ 0 ∷ 9 ∷ 0 ∷ 0 ∷ 0
    ∷ 6 ∷ 3 ∷ 0 ∷ 0 ∷ 0 ∷ 0
    ∷ []

-- its replay: M(0,0,7); free p0; M(0,1,7); x0 := p0.data
abbrev pub replay_l : List ℕ
replay_l =
    1 ∷ 8 ∷ 0 ∷ 0 ∷ 0 ∷ 0 ∷ 0 ∷ 7 ∷ 0 ∷ 0 ∷ 0
    ∷ 2 ∷ 2 ∷ 0 ∷ 0 ∷ 0
    ∷ 1 ∷ 8 ∷ 0 ∷ 0 ∷ 0 ∷ 1 ∷ 0 ∷ 7 ∷ 0 ∷ 0 ∷ 0
    ∷ 6 ∷ 3 ∷ 0 ∷ 0 ∷ 0 ∷ 0
    ∷ []

-- M(0,5,7); x0 := 3; p0.data := x0; free p0; M(0,5,9)
abbrev pub bytes_w : List ℕ
bytes_w =
    1 ∷ 8 ∷ 0 ∷ 0 ∷ 0 ∷ 5 ∷ 0 ∷ 7 ∷ 0 ∷ 0 ∷ 0
    ∷ 8 ∷ 6 ∷ 0 ∷ 0 ∷ 0 ∷ 3 ∷ 0 ∷ 0 ∷ 0
    ∷ 7 ∷ 3 ∷ 0 ∷ 0 ∷ 0 ∷ 0
    ∷ 2 ∷ 2 ∷ 0 ∷ 0 ∷ 0
    ∷ 1 ∷ 8 ∷ 0 ∷ 0 ∷ 0 ∷ 5 ∷ 0 ∷ 9 ∷ 0 ∷ 0 ∷ 0
    ∷ []

-- its replay, whose second malloc names cell 1 with data 3
abbrev pub replay_w : List ℕ
replay_w =
    1 ∷ 8 ∷ 0 ∷ 0 ∷ 0 ∷ 0 ∷ 0 ∷ 7 ∷ 0 ∷ 0 ∷ 0
    ∷ 8 ∷ 6 ∷ 0 ∷ 0 ∷ 0 ∷ 3 ∷ 0 ∷ 0 ∷ 0
    ∷ 7 ∷ 3 ∷ 0 ∷ 0 ∷ 0 ∷ 0
    ∷ 2 ∷ 2 ∷ 0 ∷ 0 ∷ 0
    ∷ 1 ∷ 8 ∷ 0 ∷ 0 ∷ 0 ∷ 1 ∷ 0 ∷ 3 ∷ 0 ∷ 0 ∷ 0
    ∷ []

module _ (before : Lent) (long : long_enough before ≡ true) (v : Verdict) (after : Lent) (out out' : List ℕ) where
  replay_result : (log : List ℕ) → length log ≤ log_bytes → length log ≤ length out → Replaying log out before v out' after
      → replayed v out' after
      ≡ replayed (located log (run_bytes log_fields log fresh).verdict) (output_after (run_bytes log_fields log fresh).verdict log out) (showing (run_bytes log_fields log fresh).state before)
  unfolding replay_log
  replay_result log short room e = e ∙ rw (le-leb (length log) log_bytes short, long, le-leb (length log) (length out) room)

  -- one that writes nothing for an accepted log, and one that copies the log: whatever the output held, its front is the replay of L, whose
  -- second malloc names cell 1 with data 7
  pub not_unwritten_nor_copied : length bytes_l ≤ length out → Replaying bytes_l out before v out' after → take (length bytes_l) out' ≡ replay_l
  unfolding row_of is_tag widths_of length_of may_name field_of read_field field_bytes is_valid cell_of is_unset invalidated after_free fresh write store command_of same_as_wanted check_by give free count_field starting_data replay_bytes
  not_unwritten_nor_copied room e = ap (λ (r : Replayed). take (length bytes_l) r.output) (replay_result bytes_l (omega arith) room e)

  pub not_copied : length bytes_l ≤ length out → Replaying bytes_l out before v out' after → take (length bytes_l) out' ≡ bytes_l → ⊥
  not_copied room e copied =
      let cell : ◌≡◌ {A = ℕ} 1 5 = ap (λ (l : List ℕ). get_or l 21 0) (sym (not_unwritten_nor_copied room e) ∙ copied) in
      omega arith

  -- one that applies only the first field and then merely counts: cell 5 held 3 when it was given out again, and 7 after the first field
  pub not_first_alone : length bytes_w ≤ length out → Replaying bytes_w out before v out' after → take (length bytes_w) out' ≡ replay_w
  unfolding row_of is_tag widths_of length_of may_name field_of read_field field_bytes is_valid cell_of is_unset invalidated after_free fresh write store command_of same_as_wanted check_by give free count_field starting_data replay_bytes
  not_first_alone room e = ap (λ (r : Replayed). take (length bytes_w) r.output) (replay_result bytes_w (omega arith) room e)
