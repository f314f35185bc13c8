-- `judge::run::run` meets its contract, by the invariant of its loop.
use Rattle.std.proofs.Common.{ℕ, ◌+◌, length, drop, sym, refl, ap, ◌∙◌, arith, rules}
use Rattle.fields.proofs.Placing.{placed_got, placed-refused}
use Rattle.judge.proofs.Copied.{copied_all, copied_none, underway_on}
use Rattle.judge.proofs.Running.{goes_on_lem, loop_end, loop_on, loop_stopped, end_field_is, not_accepted, offset_on, onward_on, read_got, run_opened, told_outcome, turn_got, turn_onward, turn_stopped}
use Rattle.judge.specs.LentHeaps.{state_with}
use Rattle.judge.specs.Runs.{ended_by}
use Rattle.rules.specs.Run.{Accepted, Refused}
use Rattle.judge.proofs.run.run.Goals as goal

pub loop-at-preserved : goal.loop-at-preserved
loop-at-preserved c =
    let h = c.loop-at in
    let log = c.args.log.bytes.now in
    let s = state_with h.board h.heap in
    let within = c.loop-at-test.true in
    let f = c.in-Ok.field in
    let placed = placed_got h.at _ f _ (sym c.read_at.ensures ∙ c.in-Ok.is) in
    let read = read_got h.heap.tally.fields (drop h.at log) f placed.0 in
    let step = c.step-stepped in
    let went = c.in-Ok-answer.is in
    let place = ap (λ (k : ℕ). h.at + (3 + k)) (c.from.ensures ∙ c.value_length.ensures) in
    let on = goes_on_lem step.result.answer h.heap.tally.fields f h.at _ went place in
    let o = onward_on _ _ h.at (length log) s _ on (turn_onward log h.at within f read.1 s _ step.ensures.by_rule) in (
      (o.0.1, (c.copy_field.auto.out ∙ h.invariant.0.1.0, search (rules, step.ensures.same_lists, h.invariant.0.1.1))),
      (
        (omega (arith, o.1.0, read.0), omega (arith, o.1.0, o.1.1, h.invariant.1.0.1)),
        loop_on log h.at within _ s _ _ _ _ (turn_got log h.at within f read.1 s _ step.ensures.by_rule) (omega (arith, o.1.0, read.0)) h.invariant.1.1 _ on,
      ),
      offset_on h.heap.tally.fields _ log h.at _ f h.invariant.2 read.1 place o.1.0,
      underway_on log _ _ _ _ h.at s h.out h.invariant.3 h.invariant.0.1.0 (omega (arith, o.1.0, read.0)) within f read.1 _ step.ensures.by_rule went _ place _ (c.copy_field.ensures h.board),
    )

pub returns-in-Err-answer-clause-ran_to : goal.returns-in-Err-answer-clause-ran_to
returns-in-Err-answer-clause-ran_to c =
    let h = c.loop-at in
    let s = state_with h.board h.heap in
    let f = c.in-Ok.field in
    let placed = placed_got h.at _ f _ (sym c.read_at.ensures ∙ c.in-Ok.is) in
    let ran = turn_stopped c.args.log.bytes.now h.at c.loop-at-test.true f s _ c.in-Err-answer.stop _ _ placed.0 c.step-stepped.ensures.by_rule c.in-Err-answer.is refl h.invariant.1.1 ∙ run_opened _ _ _ in
    rw (c.told-verdict.ensures, placed.1) (told_outcome c.args.log.bytes.now _ (ended_by c.in-Err-answer.stop s.fields f.thread) _ h.at (rw (end_field_is c.in-Err-answer.stop s.fields f.thread) h.invariant.2) ran)

pub returns-in-Err-answer-clause-copies : goal.returns-in-Err-answer-clause-copies
returns-in-Err-answer-clause-copies c =
    let h = c.loop-at in
    let s = state_with h.board h.heap in
    let f = c.in-Ok.field in
    let placed = placed_got h.at _ f _ (sym c.read_at.ensures ∙ c.in-Ok.is) in
    let ran = turn_stopped c.args.log.bytes.now h.at c.loop-at-test.true f s _ c.in-Err-answer.stop _ _ placed.0 c.step-stepped.ensures.by_rule c.in-Err-answer.is refl h.invariant.1.1 ∙ run_opened _ _ _ in
    copied_none c.args.log.bytes.now _ _ _ (ended_by c.in-Err-answer.stop s.fields f.thread) _ ran (not_accepted c.in-Err-answer.stop s.fields f.thread)

pub returns-in-Err-clause-ran_to : goal.returns-in-Err-clause-ran_to
returns-in-Err-clause-ran_to c =
    let h = c.loop-at in
    let s = state_with h.board h.heap in
    let why = c.in-Err.why in
    let read = placed-refused h.at _ why _ (sym c.read_at.ensures ∙ c.in-Err.is) in
    let ran = loop_stopped c.args.log.bytes.now h.at c.loop-at-test.true s _ _ _ refl h.invariant.1.1 read.0 ∙ run_opened _ _ _ in
    rw read.1 (told_outcome c.args.log.bytes.now _ (Refused why h.heap.tally.fields) s h.at h.invariant.2 ran)

pub returns-in-Err-clause-copies : goal.returns-in-Err-clause-copies
returns-in-Err-clause-copies c =
    let h = c.loop-at in
    let s = state_with h.board h.heap in
    let why = c.in-Err.why in
    let read = placed-refused h.at _ why _ (sym c.read_at.ensures ∙ c.in-Err.is) in
    let ran = loop_stopped c.args.log.bytes.now h.at c.loop-at-test.true s _ _ _ refl h.invariant.1.1 read.0 ∙ run_opened _ _ _ in
    copied_none c.args.log.bytes.now _ _ _ (Refused why h.heap.tally.fields) s ran (λ e. e)

pub returns-clause-ran_to : goal.returns-clause-ran_to
returns-clause-ran_to c =
    let h = c.loop-at in
    let s = state_with h.board h.heap in
    let ran = loop_end c.args.log.bytes.now h.at s _ _ _ c.loop-at-test.false h.invariant.1.1 h.heap.counted ∙ run_opened _ _ _ in
    told_outcome c.args.log.bytes.now _ (Accepted h.heap.tally.fields h.heap.tally.mallocs h.heap.tally.live) s h.at h.invariant.2 ran

pub returns-clause-copies : goal.returns-clause-copies
returns-clause-copies c =
    let h = c.loop-at in
    copied_all c.args.log.bytes.now _ _ _ h.at (state_with h.board h.heap) h.out h.invariant.3 h.invariant.0.0 c.loop-at-test.false
