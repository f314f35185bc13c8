-- After so many calls, as much was written as they moved and stands in the writer, and none of them was the last.
use Rattle.std.proofs.Common.{◌≡◌, ◌≤◌, List, length, take}
use Rattle.std.specs.Io.KnownBytes.{Appends}
use Rattle.streams.specs.Answers.{AllGoOn, Answer, calls}
use Rattle.streams.specs.Writing.{all_moved}
use Rattle.streams.proofs.writing.write_front.Given as goal

abbrev pub invariant-loop : goal.invariant-loop
invariant-loop g l = record {
  counted : l.counter ≤ calls;
  inside : l.done ≤ length l.bytes;
  went_on : (got : List Answer) × (all_moved got ≡ l.done) × AllGoOn got × (length got ≡ l.counter);
  written : Appends (g.W.Write.contents l.initial.writer) (g.W.Write.contents l.writer) (take l.done l.bytes);
}
