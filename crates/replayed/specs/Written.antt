-- What is written of a log's replay.
-- Assumes nothing.
use Rattle.std.specs.Prelude.{ℕ, List, [], length, replicate, take}
use Rattle.rules.specs.Replaying.{Replayed, replay_log}
use Rattle.rules.specs.declared.Verdict.{Verdict}
use Rattle.rules.specs.declared.Verdict.TheVariants.{Accepted, Raced, Refused, Declined}
use Rattle.console.specs.Memories.{fresh_memory, lent_of}

-- the verdict, the output and what is lent, where all was fresh and the output 0
abbrev pub replayed : List ℕ → Replayed
replayed log = replay_log log (replicate 45057 0) (lent_of fresh_memory)

-- of an accepted log the output's front, as long as the log; else nothing
abbrev pub front_if_accepted : Verdict → List ℕ → List ℕ → List ℕ
front_if_accepted (Accepted fields mallocs live) log output = take (length log) output
front_if_accepted (Raced field thread variable offset) log output = []
front_if_accepted (Refused why field offset) log output = []
front_if_accepted (Declined why) log output = []

abbrev pub written_of : List ℕ → List ℕ
written_of log = front_if_accepted (replayed log).verdict log (replayed log).output
