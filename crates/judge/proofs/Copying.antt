-- The copy of one field, as it is written over the output, and what is left to be copied.
-- Assumes nothing.
use Rattle.std.proofs.Common.{Ok, ◌≡◌, ℕ, suc, ◌+◌, ◌-◌, ◌<◌, ◌≤◌, Bool, true, false, ltb, List, [], ◌∷◌, ◌++◌, length, take, drop, sym, refl, ap, ◌∙◌, append_assoc, not-suc-le-zero, arith, length-append, length-drop, length-take-le, drop-drop, take_at, lt-ltb}
use lib.Seq.{drop-append-add}
use Rattle.fields.proofs.Passing.{Passes}
use Rattle.fields.proofs.Writing.{length-field_bytes, writes}
use Rattle.fields.specs.declared.Field.{Field}
use Rattle.fields.specs.Checks.{is_cell, value_checks}
use Rattle.fields.specs.Every.{Every}
use Rattle.fields.specs.Limits.{cells}
use Rattle.fields.specs.Read.{read_field}
use Rattle.fields.specs.Rows.{field_size, row_of}
use Rattle.fields.specs.Write.{field_bytes}
use Rattle.rules.proofs.Checks.{Clear, passed_by}
use Rattle.rules.specs.declared.Stop.TheVariants.{Race}
use Rattle.rules.specs.declared.Change.{Change}
use Rattle.rules.specs.declared.Change.TheVariants.{Stay, Allocate, Release, Move, Put}
use Rattle.rules.specs.Acts.{gives, touched}
use Rattle.rules.specs.Check.{check, each, room_for, valid}
use Rattle.rules.specs.Commands.{act_of}
use Rattle.rules.specs.Effect.{effect}
use Rattle.rules.specs.Replay.{copy_change, copy_field, next_cell, recast}
use Rattle.rules.specs.State.{State}
use Rattle.judge.specs.Replays.{copied_at, replay_from}
use Rattle.judge.specs.Steps.{Step, step_of}
use Rattle.judge.proofs.Running.{got_passed, some_left}

-- ---- a command that goes has a malloc left for the cell that it gives out, so its copy passes the checks that the field passed
cell-right : (there : Bool) (c : ℕ) → ltb c cells ≡ true → is_cell there c ≡ true
cell-right true c h = h
cell-right false c h = refl

module _ (s : State) (f : Field) (right : Every Passes (value_checks (row_of f.tag) f)) where
  right_by : (c : Change) → Clear (room_for s) (gives c) → Every Passes (value_checks (row_of f.tag) (recast (copy_change s (next_cell s) c) f))
  right_by Stay h = right
  right_by (Allocate p c d) h = (right.0, (right.1.0, (right.1.1.0, (cell-right (row_of f.tag).3 s.mallocs h.0, tt))))
  right_by (Release p) h = right
  right_by (Move x y) h = right
  right_by (Put x v) h = right

  copy_right : check (act_of f) s ≡ Ok tt → Every Passes (value_checks (row_of f.tag) (copy_field s (next_cell s) f))
  copy_right e =
      let a = act_of f in
      right_by a.change (passed_by (each (valid s) Race (touched a)) a s e).room

-- ---- bytes written at a place of an output
module _ (out bytes : List ℕ) (at : ℕ) (room : at + length bytes ≤ length out) where
  abbrev after : List ℕ
  after = take at out ++ (bytes ++ drop (length bytes) (drop at out))

  front : length (take at out ++ bytes) ≡ at + length bytes
  front = rw (length-append, length-take-le at out (omega arith))

  apart : after ≡ (take at out ++ bytes) ++ drop (at + length bytes) out
  apart = rw (drop-drop, append_assoc)

  written-front : take (at + length bytes) after ≡ take at out ++ bytes
  written-front = rw apart (take_at (take at out ++ bytes) (drop (at + length bytes) out) (at + length bytes) front)

  written_rest : (end : ℕ) → at + length bytes ≤ end → drop end after ≡ drop end out
  written_rest end past =
      let i = end - (at + length bytes) in
      let split : end ≡ at + length bytes + i = omega arith in
      rw (apart, split)
      ((rw front at (drop-append-add (take at out ++ bytes) (drop (at + length bytes) out) i)) ∙ drop-drop i (at + length bytes) out)

  -- what is written is the first of what was still to be written
  spliced : (rest : List ℕ) (end : ℕ) → at + length bytes ≤ end → take (at + length bytes) after ++ (rest ++ drop end after) ≡ take at out ++ ((bytes ++ rest) ++ drop end out)
  spliced rest end past = rw (written-front, written_rest end past) (simp append_assoc)

-- ---- the replay, by what is read at the front of the bytes
replay_got : (n : ℕ) (b : List ℕ) (s : State) (f : Field) → 0 < length b → read_field b ≡ Ok f
    → replay_from (suc n) b s ≡ field_bytes (copy_field s (next_cell s) f) ++ replay_from n (drop (field_size f.tag) b) (effect (act_of f) s)
unfolding replay_from
replay_got n [] s f some e = absurd (not-suc-le-zero some)
replay_got n (x ∷ b) s f some e = rw e

-- ---- one field that goes, at a place of the log
-- the output as it comes to be: what is written up to a place of the log, the replay from there, and what is held past the log
unfoldable pub output_from : ℕ → List ℕ → ℕ → State → List ℕ → List ℕ
output_from n log at s out = take at out ++ (replay_from n (drop at log) s ++ drop (length log) out)

module _ (l : List ℕ) (at : ℕ) (within : at < length l) (f : Field) (read : read_field (drop at l) ≡ Ok f)
    (s : State) (step : Step) (stepped : step ≡ step_of (act_of f) s) (goes : step.answer ≡ Ok tt) (out : List ℕ) (room : length l ≤ length out) where
  abbrev size : ℕ
  size = field_size f.tag

  abbrev copy : Field
  copy = copy_field s (next_cell s) f

  passed : check (act_of f) s ≡ Ok tt
  unfolding step_of
  passed = sym (ap (λ (x : Step). x.answer) stepped) ∙ goes

  done : step.state ≡ effect (act_of f) s
  unfolding step_of
  done = rw (stepped, passed)

  fits : at + size ≤ length l
  fits = omega (arith, (got_passed (drop at l) f read).fits, length-drop at l)

  laid : copied_at at copy out ≡ take at out ++ (field_bytes copy ++ drop (length (field_bytes copy)) (drop at out))
  unfolding copied_at
  laid =
      let p = got_passed (drop at l) f read in
      let w = writes copy (drop at out) p.known (copy_right s f p.right passed) (omega (arith, length-field_bytes copy, length-drop at out, fits)) in
      rw (lt-ltb at (length out) (omega arith), w)

  -- what is then still to be written gives the same output
  pub copy_got : (n : ℕ) → output_from n l (at + size) step.state (copied_at at copy out) ≡ output_from (suc n) l at s out
  unfolding output_from
  copy_got n =
      let own = field_bytes copy in
      let same : length own ≡ size = length-field_bytes copy in
      rw (done, ← drop-drop size at l, replay_got n (drop at l) s f (some_left l at within) read, laid, ← same)
      (spliced out own at (omega (arith, fits)) (replay_from n (drop (length own) (drop at l)) (effect (act_of f) s)) (length l) (omega (arith, fits)))
