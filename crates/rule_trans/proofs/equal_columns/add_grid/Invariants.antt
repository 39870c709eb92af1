use Rattle.std.proofs.Common.{◌≡◌, ◌+◌, ◌++◌, drop, map}
use Rattle.rule_api.specs.Picks.{grid}
use Rattle.rule_api.specs.Rules.{place_at}
use Rattle.rule_trans.specs.ColumnPairs.{has}
use Rattle.rule_trans.specs.Joints.{passes}
use Rattle.rule_trans.proofs.equal_columns.add_grid.Given as goal

-- what is left adds the rest
abbrev pub invariant-loop-i : goal.invariant-loop-i
invariant-loop-i l = l.out.items ++ map (place_at l.b) (grid (passes (has l.pairs)) (l.i + 1) (drop l.i l.joints)) ≡ l.initial.out.items ++ map (place_at l.b) (grid (passes (has l.pairs)) 1 l.joints)
