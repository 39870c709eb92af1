use Rattle.std.proofs.Common.{◌≡◌, ◌++◌, drop, map}
use Rattle.rule_api.specs.Rules.{place_at}
use Rattle.rule_trans.specs.FixedRows.{row_in}
use Rattle.rule_trans.specs.Literals.{shown_conjunct}
use Rattle.rule_trans.proofs.equal_literal.add_row.Given as goal

-- what is left adds the rest
abbrev pub invariant-loop-f : goal.invariant-loop-f
invariant-loop-f l =
    l.out.items ++ map (place_at l.b) (row_in l.graph (map shown_conjunct l.all) l.e l.i (map shown_conjunct (drop l.f-index l.all)))
    ≡ l.initial.out.items ++ map (place_at l.b) (row_in l.graph (map shown_conjunct l.all) l.e l.i (map shown_conjunct l.all))
