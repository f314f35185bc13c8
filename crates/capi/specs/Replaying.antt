-- The call that replays a log: the output afterwards, and all else as the call that judges leaves it.
-- Assumes nothing.
use Rattle.std.specs.Prelude.{ℕ, cond, List}
use Rattle.rules.specs.Judging.{lent}
use Rattle.rules.specs.Replaying.{replay_log}
use Rattle.capi.specs.Judging.{Left, has_room, left, no_room, tally_in, told}

pub record ReplayLeft : Type 0 where
  pub output : List ℕ
  pub others : Left

abbrev pub replay_left : List ℕ → Left → ReplayLeft
replay_left output others = record { output = output; others = others }

unfoldable pub replay_call : List ℕ → List ℕ → List ℕ → List ℕ → List ℕ → List ℕ → List ℕ → List ℕ → List ℕ → ReplayLeft
replay_call log output pointers selectors variables numbers status tally answer =
    let end = replay_log log output (lent pointers selectors variables numbers status (tally_in tally)) in
    cond (has_room tally answer) (replay_left end.output (told end.verdict end.after tally answer))
    (replay_left output (left no_room pointers selectors variables numbers status tally answer))
