use Rattle.std.proofs.Common.{◌≡◌, ◌+◌, ◌++◌, drop, map}
use Rattle.qgm_terms.specs.Shown.{conds}
use Rattle.rule_api.specs.Picks.{cross}
use Rattle.rule_api.specs.Rules.{place_at}
use Rattle.rule_trans.specs.EqualLiteralPlaces.{passes}
use Rattle.rule_trans.proofs.equal_literal.add_cross.Given as goal

-- what is left adds the rest
abbrev pub invariant-loop-i : goal.invariant-loop-i
invariant-loop-i l =
    l.out.items ++ map (place_at l.b) (cross (passes l.graph l.node) l.node.parts.conds.items (l.i + 1) (conds (drop l.i l.list)))
    ≡ l.initial.out.items ++ map (place_at l.b) (cross (passes l.graph l.node) l.node.parts.conds.items 1 (conds l.list))
