use Rattle.std.proofs.Common.{length, map}
use Rattle.row_bag.proofs.Indexed.{Walked}
use Rattle.row_bag.proofs.tuple_index.find_in.Given as goal

abbrev pub invariant-loop-place : goal.invariant-loop-place
invariant-loop-place g l = Walked (length l.heads) (map (λ k. k.hash) l.links) (g.T.HasTuples.tuples l.items) l.cells l.place

abbrev pub decreases-loop-place : goal.decreases-loop-place
decreases-loop-place g l = l.place
