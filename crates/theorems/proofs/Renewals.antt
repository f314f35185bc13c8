-- Demand 3 place by place, over the bytes of a log and of a copy of it: what the copy of an accepted log is, and that no other bytes are.
-- Assumes nothing.
use Prim.Native.Nat.{ℕ}
use mathlib.Core.Path.{◌∙◌, ◌≡◌, ap, sym}
use mathlib.Core.List.{List, append-nil}
use lib.ListN.{length}
use Rattle.fields.specs.declared.Field.{Field}
use Rattle.fields.specs.Every.{AreBytes}
use Rattle.rules.specs.State.{fresh}
use Rattle.rules.specs.Run.{Accepted}
use Rattle.rules.specs.Log.{parse, run_bytes}
use Rattle.rules.specs.Replay.{bytes_of, replay, replay_bytes, start}
use Rattle.rules.specs.Matching.{Along, Match}
use Rattle.theorems.specs.Renewed.{NewCells, Renewed}
use Rattle.theorems.proofs.Logs.{ended, fields_of, replay_of, taken}
use Rattle.theorems.proofs.Renewed.{one_renewal, renewed_distinct, replay_renews}
use Rattle.theorems.proofs.Unmarked.{new_cells}

-- the bytes of a log that is accepted are those of its fields
whole_bytes : (n : ℕ) (log : List ℕ) (x y l : ℕ) → AreBytes log → (run_bytes n log fresh).verdict ≡ Accepted x y l → bytes_of (parse n log).fields ≡ log
whole_bytes n log x y l b e =
    let w = taken n log b in
    rw (w.all (ended (parse n log).end (parse n log).fields fresh x y l e), append-nil (bytes_of (parse n log).fields)) at w.bytes

-- of a log of at most n fields, and of a copy of it
pub record RenewalOf (n : ℕ) (log copy : List ℕ) (fields mallocs live : ℕ) : Type 0 where
  pub accepted : (run_bytes n copy fresh).verdict ≡ Accepted fields mallocs live
  pub size : length copy ≡ length log
  pub bytes : AreBytes copy
  -- the same fields, but the k-th malloc gives out cell k, never used before, with the data that the recorded cell then held
  pub renewed : Renewed (parse n log).fields (parse n copy).fields
  pub new : NewCells (parse n copy).fields
  pub matches : Along Match (parse n log).fields (parse n copy).fields fresh fresh start

pub renewal_of : (n : ℕ) (log : List ℕ) (x y l : ℕ) → AreBytes log → (run_bytes n log fresh).verdict ≡ Accepted x y l → RenewalOf n log (replay_bytes n log) x y l
renewal_of n log x y l b e =
    let p = fields_of n log x y l b e in
    let S = replay_of n log x y l b e in
    let R = replay_renews (parse n log).fields x y l p.accepted in
    let copy : List Field = replay fresh (parse n log).fields in
    record {
      accepted = S.accepted;
      size = S.size;
      bytes = S.bytes;
      renewed = rw p.again R;
      new = rw p.again (new_cells copy x y l p.replays.named (renewed_distinct (parse n log).fields copy R) p.replays.accepts);
      matches = S.matches;
    }

pub only_renewal_of : (n : ℕ) (log copy : List ℕ) (x y l x' y' l' : ℕ) → AreBytes log → (run_bytes n log fresh).verdict ≡ Accepted x y l → RenewalOf n log copy x' y' l' → copy ≡ replay_bytes n log
only_renewal_of n log copy x y l x' y' l' b e R =
    let S = renewal_of n log x y l b e in
    let same : (parse n copy).fields ≡ (parse n (replay_bytes n log)).fields = one_renewal (parse n log).fields (parse n copy).fields (parse n (replay_bytes n log)).fields R.renewed S.renewed in
    sym (whole_bytes n copy x' y' l' R.bytes R.accepted) ∙ ap bytes_of same ∙ whole_bytes n (replay_bytes n log) x y l S.bytes S.accepted
