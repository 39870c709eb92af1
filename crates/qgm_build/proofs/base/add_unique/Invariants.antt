use Rattle.std.proofs.Common.{◌≡◌, ◌++◌, drop, filter, map}
use Rattle.qgm_translation_laws.specs.Sources as spec
use Rattle.qgm_build.proofs.base.add_unique.Given as goal

abbrev pub invariant-loop-key : goal.invariant-loop-key
invariant-loop-key l =
    l.out ++ map spec.key_places (filter spec.is_unique (drop l.key-index l.keys)) ≡ l.fn.out ++ map spec.key_places (filter spec.is_unique l.keys)
