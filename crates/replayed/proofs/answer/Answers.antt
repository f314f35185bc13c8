-- Both writers get what the replay over fresh memory gives.
use Rattle.std.proofs.Common.{Result, Ok, Err, IfOk, MatchResult, ◌≡◌, ap, ◌∙◌, refl, replicate, subst}
use Rattle.std.specs.Io.KnownBytes.{Appends}
use Rattle.console.specs.Memories.{lent_of, printed}
use Rattle.console.specs.declared.memory.Memory.{Memory}
use Rattle.replayed.specs.Written.{front_if_accepted}
use Rattle.rules.specs.Replaying.{Replayed, replay_log}
use Rattle.replayed.proofs.answer.Goals as goal

pub returns-clause-replay : goal.returns-clause-replay
returns-clause-replay g c =
    let log = c.args.log.now in
    let all = c.replay-verdict.ensures ∙ ap (λ (m : Memory). replay_log log (replicate 45057 0) (lent_of m)) c.fresh.ensures in
    subst (λ (r : Replayed). Appends (g.O.Write.contents c.args.output) (g.O.Write.contents c.in_ok-output.output) (front_if_accepted r.verdict log r.output)) all c.in_ok-output.ensures

-- what holds of a value still does where a failure is told by another error
kept : {T E D : Type 0} (P : T → Type 0) (r : Result T E) (s : Result T D) (value : T) → s ≡ Ok value → MatchResult r (λ (held : T). s ≡ Ok held) (λ (e : E). ⊥) → IfOk r P → P value
kept P (Ok held) s value ok same holds = let one : held ≡ value = cc in subst P one holds
kept P (Err e) s value ok never holds = absurd never

pub returns-clause-verdict : goal.returns-clause-verdict
returns-clause-verdict g c =
    let log = c.args.log.now in
    let all = c.replay-verdict.ensures ∙ ap (λ (m : Memory). replay_log log (replicate 45057 0) (lent_of m)) c.fresh.ensures in
    subst (λ (r : Replayed). Appends (g.E.Write.contents c.args.error) (g.E.Write.contents c.in_ok-error.error) (printed r.verdict)) all (kept _ c.write_line.result (Ok c.in_ok-error.error) c.in_ok-error.error refl c.in_ok-error.ensures.cases c.write_line.ensures)
