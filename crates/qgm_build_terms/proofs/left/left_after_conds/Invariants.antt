use Rattle.std.proofs.Common.{◌≡◌, ◌+◌, drop}
use Rattle.qgm_box_size.specs.Nodes.{conjuncts_size}
use Rattle.qgm_terms.specs.Shown.{conds}
use Rattle.qgm_build_terms.proofs.left.left_after_conds.Given as goal

abbrev pub invariant-loop-c : goal.invariant-loop-c
invariant-loop-c l = l.rest + conjuncts_size (conds l.c-items) ≡ l.left + conjuncts_size (conds (drop l.c-index l.c-items))
