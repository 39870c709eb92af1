use Rattle.std.proofs.Common.{sym, ◌∙◌}
use Rattle.std.proofs.lemmas.Result.{IfOk-weaker}
use Rattle.rule_magic.specs.Feeding.{as_feeding}
use Rattle.rule_magic.specs.Operands.{as_pair}
use Rattle.rule_magic.proofs.AbsorbOuterActs.{acts-opened, acts-shut, can-there, found, pair-there, preserves-opened, preserves-shut}
use Rattle.rule_magic.proofs.absorb_outer.absorbed_at.Goals as goal

pub unreachable-requires : goal.unreachable-requires
unreachable-requires c = found c.args.graph.now c.each_number_once.ensures c.requires.formed c.args.place c.requires.given (sym c.in_default.ensures)

pub unreachable-requires-in_default-operands_of : goal.unreachable-requires-in_default-operands_of
unreachable-requires-in_default-operands_of c = pair-there c.args.graph.now c.each_number_once.ensures c.requires.formed c.args.place c.requires.given (as_feeding c.in-Some.fed) (sym c.in-Some.ensures) (sym c.in_default-operands_of.ensures)

pub left_outer-requires : goal.left_outer-requires
left_outer-requires c =
    can-there c.args.graph.now c.each_number_once.ensures c.requires.formed c.args.place c.requires.given (as_feeding c.in-Some.fed) (sym c.in-Some.ensures) (as_pair c.in-Some-operands_of.operands) (sym c.in-Some-operands_of.ensures)

pub arms_outer-requires : goal.arms_outer-requires
arms_outer-requires c =
    can-there c.args.graph.now c.each_number_once.ensures c.requires.formed c.args.place c.requires.given (as_feeding c.in-Some.fed) (sym c.in-Some.ensures) (as_pair c.in-Some-operands_of.operands) (sym c.in-Some-operands_of.ensures)

pub returns-then-closed-clause-acts : goal.returns-then-closed-clause-acts
returns-then-closed-clause-acts c = IfOk-weaker c.left_outer.result _ _
    (acts-shut c.args.graph.now c.each_number_once.ensures c.requires.formed c.args.place c.requires.given (as_feeding c.in-Some.fed) (sym c.in-Some.ensures) (as_pair c.in-Some-operands_of.operands) (sym c.in-Some-operands_of.ensures)
    (sym c.in_ok-closed.ensures ∙ c.if-closed.true)) c.left_outer.ensures

pub returns-then-closed-clause-preserves : goal.returns-then-closed-clause-preserves
returns-then-closed-clause-preserves c = IfOk-weaker c.left_outer.result _ _
    (preserves-shut c.args.graph.now c.each_number_once.ensures c.requires.formed c.args.place c.requires.given (as_feeding c.in-Some.fed) (sym c.in-Some.ensures) (as_pair c.in-Some-operands_of.operands) (sym c.in-Some-operands_of.ensures)
    (sym c.in_ok-closed.ensures ∙ c.if-closed.true)) c.left_outer.ensures

pub returns-else-closed-clause-acts : goal.returns-else-closed-clause-acts
returns-else-closed-clause-acts c = IfOk-weaker c.arms_outer.result _ _
    (acts-opened c.args.graph.now c.each_number_once.ensures c.requires.formed c.args.place c.requires.given (as_feeding c.in-Some.fed) (sym c.in-Some.ensures) (as_pair c.in-Some-operands_of.operands) (sym c.in-Some-operands_of.ensures)
    (sym c.in_ok-closed.ensures ∙ c.if-closed.false)) c.arms_outer.ensures

pub returns-else-closed-clause-preserves : goal.returns-else-closed-clause-preserves
returns-else-closed-clause-preserves c = IfOk-weaker c.arms_outer.result _ _
    (preserves-opened c.args.graph.now c.each_number_once.ensures c.requires.formed c.args.place c.requires.given (as_feeding c.in-Some.fed) (sym c.in-Some.ensures) (as_pair c.in-Some-operands_of.operands) (sym c.in-Some-operands_of.ensures)
    (sym c.in_ok-closed.ensures ∙ c.if-closed.false)) c.arms_outer.ensures
