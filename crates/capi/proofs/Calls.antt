-- What the calls that judge and replay a log leave.
-- Assumes nothing.
use Prim.Native.Nat.{ℕ, ◌≤◌}
use borrow.Author.Tests.{leb-true}
use lib.Dec.{leb}
use lib.ListN.{length}
use mathlib.Core.Bool.{true, false, and-eq-true_iff}
use mathlib.Core.List.{List}
use mathlib.Core.Path.{◌≡◌, ap}
use Rattle.judge.specs.Judges.{Judges}
use Rattle.judge.specs.Replays.{Replays}
use Rattle.rules.specs.declared.Tally.{Tally}
use Rattle.rules.specs.declared.Verdict.{Verdict}
use Rattle.rules.specs.Judging.{Judged, lent}
use Rattle.rules.specs.Replaying.{Replayed}
use Rattle.capi.specs.Judging.{Tells, answer_places, has_room, judge_call, left, no_room, tally_in, tally_places, told}
use Rattle.capi.specs.Replaying.{replay_call, replay_left}

-- ---- room in the tally and the answer
pub room : (tally answer : List ℕ) → has_room tally answer ≡ true → (tally_places ≤ length tally) × (answer_places ≤ length answer)
room tally answer h =
    let parts = (and-eq-true_iff (leb tally_places (length tally)) (leb answer_places (length answer))).0 h in
    (leb-true tally_places (length tally) parts.0, leb-true answer_places (length answer) parts.1)

-- ---- the calls
module _ (log pointers selectors variables numbers status tally answer : List ℕ) where
  pub judge_no_room : has_room tally answer ≡ false → left no_room pointers selectors variables numbers status tally answer ≡ judge_call log pointers selectors variables numbers status tally answer
  unfolding judge_call
  judge_no_room h = rw h

  pub judge_told : has_room tally answer ≡ true → (before after : Tally) (verdict : Verdict) (returns : ℕ) (p' s' v' n' t' tally' answer' : List ℕ)
      → before ≡ tally_in tally → Judges log (lent pointers selectors variables numbers status before) verdict (lent p' s' v' n' t' after)
      → Tells verdict after tally answer returns tally' answer'
      → left returns p' s' v' n' t' tally' answer' ≡ judge_call log pointers selectors variables numbers status tally answer
  unfolding judge_call
  judge_told h before after verdict returns p' s' v' n' t' tally' answer' start judges tells =
      rw (tells.kind, tells.done, tells.said, h)
      (ap (λ (j : Judged). told j.verdict j.after tally answer) (rw start at judges))

module _ (log out pointers selectors variables numbers status tally answer : List ℕ) where
  pub replay_no_room : has_room tally answer ≡ false → replay_left out (left no_room pointers selectors variables numbers status tally answer) ≡ replay_call log out pointers selectors variables numbers status tally answer
  unfolding replay_call
  replay_no_room h = rw h

  pub replay-told : has_room tally answer ≡ true → (before after : Tally) (verdict : Verdict) (returns : ℕ) (out' p' s' v' n' t' tally' answer' : List ℕ)
      → before ≡ tally_in tally → Replays log out (lent pointers selectors variables numbers status before) verdict out' (lent p' s' v' n' t' after)
      → Tells verdict after tally answer returns tally' answer'
      → replay_left out' (left returns p' s' v' n' t' tally' answer') ≡ replay_call log out pointers selectors variables numbers status tally answer
  unfolding replay_call
  replay-told h before after verdict returns out' p' s' v' n' t' tally' answer' start replays tells =
      rw (tells.kind, tells.done, tells.said, h)
      (ap (λ (j : Replayed). replay_left j.output (told j.verdict j.after tally answer)) (rw start at replays))
