use Rattle.std.proofs.Common.{◌≡◌, ◌+◌, ◌++◌, drop, map}
use Rattle.rule_api.specs.Picks.{row}
use Rattle.rule_api.specs.Rules.{place_at}
use Rattle.rule_trans.specs.ColumnPairs.{has}
use Rattle.rule_trans.specs.Joints.{passes}
use Rattle.rule_trans.proofs.equal_columns.add_row.Given as goal

-- what is left adds the rest
abbrev pub invariant-loop-j : goal.invariant-loop-j
invariant-loop-j l =
    l.out.items ++ map (place_at l.b) (row (passes (has l.pairs) l.e) (l.i + 1) (l.j + 1) (drop l.j l.joints))
    ≡ l.initial.out.items ++ map (place_at l.b) (row (passes (has l.pairs) l.e) (l.i + 1) (l.i + 2) (drop (l.i + 1) l.joints))
