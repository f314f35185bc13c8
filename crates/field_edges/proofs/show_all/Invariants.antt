use Rattle.std.proofs.Common.{length}
use Rattle.field_edges.proofs.show_all.Given as goal

abbrev pub decreases-loop-size : goal.decreases-loop-size
decreases-loop-size g l = length l.rest
