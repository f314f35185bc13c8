-- Two results that a contract of judging or replaying allows are equal: verdict, tally, all five buffers and the output.
-- Assumes nothing.
use Rattle.std.proofs.Common.{◌≡◌, ℕ, List, sym, ap, ◌∙◌}
use Rattle.rules.specs.declared.Verdict.{Verdict}
use Rattle.rules.specs.Judging.{Judged, Lent}
use Rattle.rules.specs.Replaying.{Replayed}
use Rattle.judge.specs.Judges.{Judges}
use Rattle.judge.specs.Replays.{Replays}

pub one_judgement : (log : List ℕ) (before : Lent) (v v' : Verdict) (after after' : Lent) → Judges log before v after → Judges log before v' after' → (v ≡ v') × (after ≡ after')
one_judgement log before v v' after after' e e' =
    let same = e ∙ sym e' in
    (ap (λ (j : Judged). j.verdict) same, ap (λ (j : Judged). j.after) same)

pub one_replay : (log out : List ℕ) (before : Lent) (v v' : Verdict) (o o' : List ℕ) (after after' : Lent)
    → Replays log out before v o after → Replays log out before v' o' after' → (v ≡ v') × (o ≡ o') × (after ≡ after')
one_replay log out before v v' o o' after after' e e' =
    let same = e ∙ sym e' in
    (ap (λ (r : Replayed). r.verdict) same, ap (λ (r : Replayed). r.output) same, ap (λ (r : Replayed). r.after) same)
