-- `judge::lent::run_lent` meets its contract.
use Rattle.judge.proofs.Lending.{any_tally, run-shown}
use Rattle.judge.specs.Lendings.{lent_in}
use Rattle.rules.specs.State.{fresh_tally}
use Rattle.judge.proofs.lent.run_lent.Goals as goal

pub returns-clause-shows : goal.returns-clause-shows
returns-clause-shows c =
    let ran = c.run_fresh.ensures in
    λ tally. run-shown c.args.log.bytes.now (lent_in c.args.buffers.now tally) (any_tally c.args.buffers.now fresh_tally tally c.requires) c.run_fresh.result.0 c.run_fresh.result.1 _ _ _ _ _
    ran.told ran.left ran.counted c.copy_front.ensures c.copy_front-2.ensures
