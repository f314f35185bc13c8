-- `judge::acts::act_of` meets its contract.
use Rattle.rules.specs.Commands.{command_of}
use Rattle.judge.proofs.acts.act_of.Goals as goal

pub returns-in-2 : goal.returns-in-2
unfolding command_of
returns-in-2 c = rw c.in-2.is c.does-in-2.ensures
