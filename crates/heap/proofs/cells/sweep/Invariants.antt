-- `heap::cells::sweep`: a map, in place.
use Rattle.std.proofs.Common.{◌≡◌, ◌++◌, drop, map, take}
use Rattle.rules.specs.Words.{after_free}
use Rattle.heap.proofs.cells.sweep.Given as goal

abbrev pub invariant-loop-word : goal.invariant-loop-word
invariant-loop-word l = l.words ≡ map (after_free l.cell) (take l.word-index l.initial.words) ++ drop l.word-index l.initial.words
