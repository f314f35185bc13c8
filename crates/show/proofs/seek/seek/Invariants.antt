-- The invariant of the search: what is sought from the place on gives what the whole search gives.
use Rattle.std.proofs.Common.{length, ◌-◌, ◌≡◌, ◌≤◌}
use Rattle.show.specs.Seeking.{seek_from}
use Rattle.show.proofs.seek.seek.Given as goal

abbrev pub invariant-loop-passed : goal.invariant-loop-passed
invariant-loop-passed l = record {
  within : l.at ≤ length l.log.bytes.now;
  room : l.mallocs ≤ 1024;
  whole : seek_from (4096 - l._passed) l.mallocs l.log.bytes.now l.at (l.number - l._passed) ≡ seek_from 4096 0 l.log.bytes.now 0 l.number;
}
