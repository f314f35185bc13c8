-- `heap::cells::sweep` meets its contract: a map, in place.
use Rattle.std.proofs.Common.{arith, rules}
use Rattle.std.proofs.lemmas.List.Edits.{map_over_more}
use Rattle.rules.specs.Words.{after_free}
use Rattle.heap.proofs.cells.sweep.Goals as goal

pub loop-word-preserved : goal.loop-word-preserved
loop-word-preserved c = rw c.after_free.ensures (map_over_more (after_free c.args.cell) c.args.words.now _ _ _ (omega arith) c.loop-word.invariant (search rules))
