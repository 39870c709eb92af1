use Rattle.std.proofs.Common.{◌≡◌, ◌++◌, drop}
use Rattle.std.specs.List.{flat_map}
use Rattle.qgm_core.specs.Free.{named_by}
use Rattle.box_exec.specs.Beyond as spec
use Rattle.box_exec.proofs.beyond.beyond.Given as goal

abbrev pub invariant-loop-range : goal.invariant-loop-range
invariant-loop-range l = l.names.items ++ flat_map (λ r. spec.beyond l.below r.over) (drop l.range-index l.range-items) ≡ named_by l.node ++ flat_map (λ r. spec.beyond l.below r.over) l.range-items
