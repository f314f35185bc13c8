-- After so many calls, the bytes that they brought stand at the buffer's start and the reader has lost them, and none was the last.
use Rattle.std.proofs.Common.{◌≡◌, ◌≤◌, List, length, take}
use Rattle.std.specs.Io.KnownBytes.{Consumes}
use Rattle.streams.specs.Answers.{AllGoOn, calls}
use Rattle.streams.specs.Reading.{Call, answers, brought}
use Rattle.streams.proofs.reading.read_into.Given as goal

abbrev pub invariant-loop : goal.invariant-loop
invariant-loop g l = record {
  counted : l.counter ≤ calls;
  inside : l.length ≤ length l.bytes;
  went_on : (made : List Call) × (take l.length l.bytes ≡ brought made) × AllGoOn (answers made) × (length made ≡ l.counter);
  lost : Consumes (g.R.Read.remaining l.initial.reader) (g.R.Read.remaining l.reader) (take l.length l.bytes);
}
