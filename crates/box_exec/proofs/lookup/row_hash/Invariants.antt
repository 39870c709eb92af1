use Rattle.std.proofs.Common.{◌≡◌, drop, fold}
use Rattle.std.specs.Hash.FoldHasher.{initial}
use Rattle.row_bag.specs.Hashes.{fed_with}
use Rattle.box_exec.specs.Equalities.{owns}
use Rattle.box_exec.specs.Lookup.{all_plain}
use Rattle.box_exec.proofs.lookup.row_hash.Given as goal

abbrev pub invariant-loop-key : goal.invariant-loop-key
invariant-loop-key l = record {
  plain : all_plain l.q (drop l.key-index l.keys) l.cells ≡ all_plain l.q l.keys l.cells;
  hash : fold fed_with l.hasher (owns l.q (drop l.key-index l.keys) l.cells) ≡ fold fed_with initial (owns l.q l.keys l.cells);
}
