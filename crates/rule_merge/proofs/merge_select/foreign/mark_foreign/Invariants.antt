use Rattle.std.proofs.Common.{◌≡◌, ◌++◌, drop, filter, not}
use Rattle.qgm_core.specs.Boxes.{owns}
use Rattle.rule_merge.proofs.merge_select.foreign.mark_foreign.Given as goal

abbrev pub invariant-loop-q : goal.invariant-loop-q
invariant-loop-q l = l.marks ++ filter (λ q. not (owns q l.node)) (drop l.q-index l.names) ≡ l.initial.marks ++ filter (λ q. not (owns q l.node)) l.names
