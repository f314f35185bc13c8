-- `judge::lent::run_fresh` meets its contract.
use Rattle.fields.specs.Limits.{log_fields}
use Rattle.rules.specs.Log.{run_bytes}
use Rattle.rules.specs.State.{fresh, fresh_board, state_of}
use Rattle.judge.proofs.Lending.{filled, none_live}
use Rattle.judge.specs.LentHeaps.{state_with}
use Rattle.std.proofs.Common.{◌≡◌, arith, rules}
use Rattle.judge.proofs.lent.run_fresh.Goals as goal
use Rattle.judge.proofs.lent.run_fresh.Goals.{After-fresh}

pub invariant_of-heap : goal.invariant_of-heap
invariant_of-heap c =
    record {
      few = omega (arith, c.fill-3.ensures.len, c.requires.1.1);
      counted = none_live _ _ _ c.fresh.ensures (c.fill-3.ensures.after (λ y e. e)) c.requires.1.1;
    }

-- what the fills have made
start : (c : After-fresh) → state_of fresh_board c.fresh.result c.fill.new.self c.fill-2.new.self c.fill-3.new.self ≡ fresh
start c =
    filled _ _ _ _ _ _ _ c.fresh.ensures (c.fill.ensures.after (λ y e. e)) c.requires.0 (c.fill-2.ensures.after (λ y e. e)) c.requires.1.0
    (c.fill-3.ensures.after (λ y e. e))
    c.requires.1.1

pub returns-clause-told : goal.returns-clause-told
returns-clause-told c = rw (start (goal.at.returns-clause-told c).After-fresh) at c.run-ran.ensures.ran_to.0

pub returns-clause-left : goal.returns-clause-left
returns-clause-left c =
    let ran : state_with c.run-ran.result.board c.run-ran.new.heap ≡ (run_bytes log_fields c.args.log.bytes.now fresh).state
    = rw (start (goal.at.returns-clause-left c).After-fresh) at c.run-ran.ensures.ran_to.1 in
    search (rules, ran)

pub returns-clause-copies : goal.returns-clause-copies
returns-clause-copies c = rw (start (goal.at.returns-clause-copies c).After-fresh) at c.run-ran.ensures.copies
