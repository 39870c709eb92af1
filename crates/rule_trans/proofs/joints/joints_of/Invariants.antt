use Rattle.std.proofs.Common.{◌≡◌, ◌++◌, drop, map}
use Rattle.qgm_terms.specs.Shown.{conds}
use Rattle.rule_trans.specs.Equalities.{equated}
use Rattle.rule_trans.specs.Joints.{joint_of}
use Rattle.rule_trans.proofs.joints.joints_of.Given as goal

-- what is left adds the rest
abbrev pub invariant-loop-c : goal.invariant-loop-c
invariant-loop-c l = l.joints.items ++ map (λ c. joint_of l.graph l.node (equated c)) (conds (drop l.c-index l.c-items)) ≡ map (λ c. joint_of l.graph l.node (equated c)) l.node.parts.conds.items
