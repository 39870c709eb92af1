use Rattle.std.proofs.Common.{◌≡◌, ◌&&◌, drop, fold}
use Rattle.std.specs.Hash.FoldHasher.{initial}
use Rattle.row_bag.specs.Hashes.{fed_with}
use Rattle.box_exec.specs.Bound.{env_of}
use Rattle.box_exec.specs.Equalities.{others}
use Rattle.box_exec.specs.Lookup.{others_plain}
use Rattle.box_exec.proofs.lookup.aim_of.Given as goal

abbrev pub invariant-loop-key : goal.invariant-loop-key
invariant-loop-key l = record {
  plain : (l.plain && others_plain (drop l.key-index l.keys) (env_of l.env)) ≡ others_plain l.keys (env_of l.env);
  hash : fold fed_with l.hasher (others (drop l.key-index l.keys) (env_of l.env)) ≡ fold fed_with initial (others l.keys (env_of l.env));
}
