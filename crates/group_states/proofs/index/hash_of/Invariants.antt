use Rattle.std.proofs.Common.{◌≡◌, drop, fold}
use Rattle.std.specs.Hash.FoldHasher.{initial}
use Rattle.row_bag.specs.Hashes.{fed_with}
use Rattle.group_states.proofs.index.hash_of.Given as goal

abbrev pub invariant-loop-cell : goal.invariant-loop-cell
invariant-loop-cell l = fold fed_with l.hasher (drop l.cell-index l.cells) ≡ fold fed_with initial l.cells
