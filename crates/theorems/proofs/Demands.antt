-- The main theorems, over the bytes of a log as the caller hands it in: demand 3, the reading without marks, Lemma 2, the ranges.
-- Assumes nothing.
use Prim.Native.Nat.{ℕ}
use mathlib.Core.Path.{◌∙◌, ◌≡◌, ap}
use mathlib.Core.List.{List}
use Rattle.fields.specs.Limits.{log_fields}
use Rattle.fields.specs.Every.{AreBytes}
use Rattle.rules.specs.State.{fresh}
use Rattle.rules.specs.Run.{Accepted, Outcome}
use Rattle.rules.specs.Log.{parse, run_bytes}
use Rattle.rules.specs.Replay.{replay_bytes}
use Rattle.rules.specs.Plain.{Distinct, given_by, run_plain_bytes}
use Rattle.theorems.specs.Beside.{passing}
use Rattle.theorems.proofs.Kept.{Inv, inv_fresh, keep}
use Rattle.theorems.proofs.Ranges.{Bounded, Ranged, Words, bounded_effect, bounded_fresh, ranged, words_effect, words_fresh}
use Rattle.theorems.proofs.Unmarked.{passing_distinct, plain_outcome, plain_passing, unmarked_outcome}
use Rattle.theorems.proofs.Logs.{ReplayOf, kept_log, replay_of, taken_named}
use Rattle.theorems.proofs.Renewed.{renewed_distinct}
use Rattle.theorems.proofs.Renewals.{RenewalOf, only_renewal_of, renewal_of}

-- demand 3, which is source 004's Theorem 1 (PRF Guarantee) in the direction that its Proposition 1 gives: a memory-managed run
-- without a pointer race has a run in which no cell is given out twice, and the valid parts of their heaps are the same up to the
-- names of cells. The replay of an accepted log is accepted with the same three numbers, has the log's length, and its state matches
-- the recording's before the first field and after each
pub prf_guarantee : (log : List ℕ) (fields mallocs live : ℕ) → AreBytes log → (run_bytes log_fields log fresh).verdict ≡ Accepted fields mallocs live → ReplayOf log_fields log fields mallocs live
prf_guarantee log fields mallocs live b e = replay_of log_fields log fields mallocs live b e

-- the instrumented check of source 004's Proposition 2, for a log that reuses no cell: where no two allocations name one cell, the
-- reading without marks gives the same verdict; demand 3 asks it of logs whose fields all read well, and it holds of the others too
pub same_verdict : (log : List ℕ) → AreBytes log → Distinct (given_by (parse log_fields log).fields) → (run_plain_bytes log_fields log fresh).verdict ≡ (run_bytes log_fields log fresh).verdict
unfolding unmarked_outcome
same_verdict log b d =
    let p = parse log_fields log in
    ap (λ (r : Outcome). r.verdict) (plain_outcome p.end p.fields (taken_named log_fields log b) d)

-- What each field of that replay is: the log's, but the k-th malloc names cell k, never used before, and starts with the data that the
-- recorded cell then held. What is valid in the recording is found in the replay, up to the names of cells (`words` of `Match`). The
-- paper's Definition 4 asks the converse too, which is not so (`not_heap_equivalent`, PaperHeaps.antt)
pub replay_renewed : (log : List ℕ) (fields mallocs live : ℕ) → AreBytes log → (run_bytes log_fields log fresh).verdict ≡ Accepted fields mallocs live
    → RenewalOf log_fields log (replay_bytes log_fields log) fields mallocs live
replay_renewed log fields mallocs live b e = renewal_of log_fields log fields mallocs live b e

-- no other bytes are such a replay
pub only_replay : (log copy : List ℕ) (fields mallocs live x y l : ℕ) → AreBytes log → (run_bytes log_fields log fresh).verdict ≡ Accepted fields mallocs live
    → RenewalOf log_fields log copy x y l → copy ≡ replay_bytes log_fields log
only_replay log copy fields mallocs live x y l b e R = only_renewal_of log_fields log copy fields mallocs live x y l b e R

-- each malloc of the replay gets a cell never used before: no two of them name one cell
pub replay_distinct : (log : List ℕ) (fields mallocs live : ℕ) → AreBytes log → (run_bytes log_fields log fresh).verdict ≡ Accepted fields mallocs live
    → Distinct (given_by (parse log_fields (replay_bytes log_fields log)).fields)
replay_distinct log fields mallocs live b e =
    renewed_distinct (parse log_fields log).fields (parse log_fields (replay_bytes log_fields log)).fields (replay_renewed log fields mallocs live b e).renewed

-- the reading without marks needs only that no two allocations that pass name one cell: those after the stop play no part
pub same_verdict_passing : (log : List ℕ) → AreBytes log → Distinct (given_by (passing (parse log_fields log).fields fresh))
    → (run_plain_bytes log_fields log fresh).verdict ≡ (run_bytes log_fields log fresh).verdict
unfolding unmarked_outcome
same_verdict_passing log b d =
    let p = parse log_fields log in
    ap (λ (r : Outcome). r.verdict) (plain_passing p.end p.fields (taken_named log_fields log b) d)

-- so that this says no less than `same_verdict`: where no two of all allocations do, no two of those that pass do
pub passing_apart : (log : List ℕ) → Distinct (given_by (parse log_fields log).fields) → Distinct (given_by (passing (parse log_fields log).fields fresh))
passing_apart log d = passing_distinct (parse log_fields log).fields fresh d

-- both halves of demand 3 in one: the replay of an accepted log reuses no cell, so the reading without marks accepts it too, with the
-- same three numbers
pub replay_unmarked : (log : List ℕ) (fields mallocs live : ℕ) → AreBytes log → (run_bytes log_fields log fresh).verdict ≡ Accepted fields mallocs live
    → (run_plain_bytes log_fields (replay_bytes log_fields log) fresh).verdict ≡ Accepted fields mallocs live
replay_unmarked log fields mallocs live b e =
    let R = replay_renewed log fields mallocs live b e in
    same_verdict (replay_bytes log_fields log) R.bytes (replay_distinct log fields mallocs live b e) ∙ R.accepted

-- Lemma 2 of source 004: in every state that a log leaves, accepted or stopped, a valid word that is set points to a live cell, and
-- both selectors of a freed cell are not valid
pub lemma2 : (log : List ℕ) → AreBytes log → Inv (run_bytes log_fields log fresh).state
lemma2 log b = kept_log Inv (λ a s n small e v. keep a s v n.1 e) log_fields log b inv_fresh

-- every word of such a state is in its range, and so is every number
pub words_in_range : (log : List ℕ) → AreBytes log → Words Ranged (run_bytes log_fields log fresh).state
words_in_range log b = kept_log (Words Ranged) (λ a s n small e v. words_effect ranged a s n.1 v) log_fields log b (words_fresh ranged)

pub numbers_in_range : (log : List ℕ) → AreBytes log → Bounded (run_bytes log_fields log fresh).state
numbers_in_range log b = kept_log Bounded (λ a s n small e v. bounded_effect a s small v) log_fields log b bounded_fresh
