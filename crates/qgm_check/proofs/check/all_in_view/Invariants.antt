use Rattle.std.proofs.Common.{◌≡◌, drop}
use Rattle.std.specs.List.{list_all}
use Rattle.qgm_wellformed.specs.View as spec
use Rattle.qgm_check.proofs.check.all_in_view.Given as goal

-- what is left decides
abbrev pub invariant-loop-q : goal.invariant-loop-q
invariant-loop-q l = list_all (spec.in_view l.nodes l.node) (drop l.q-index l.names) ≡ list_all (spec.in_view l.nodes l.node) l.names
