use Rattle.std.proofs.Common.{sym}
use Rattle.std.proofs.lemmas.Result.{IfOk-weaker}
use Rattle.rule_magic.specs.Feeding.{as_feeding}
use Rattle.rule_magic.specs.Operands.{as_pair}
use Rattle.rule_magic.proofs.AbsorbSetPlaces.{acts, can-there, form-there, found, pair-there, preserves}
use Rattle.rule_magic.proofs.absorb_set.absorbed_at.Goals as goal

pub unreachable-requires : goal.unreachable-requires
unreachable-requires c = found c.args.graph.now c.each_number_once.ensures c.requires.formed c.args.place c.requires.given (sym c.in_default.ensures)

pub unreachable-requires-in_default-operator_of : goal.unreachable-requires-in_default-operator_of
unreachable-requires-in_default-operator_of c = form-there c.args.graph.now c.each_number_once.ensures c.requires.formed c.args.place c.requires.given (as_feeding c.in-Some.fed) (sym c.in-Some.ensures) (sym c.in_default-operator_of.ensures)

pub unreachable-requires-in_default-operands_of : goal.unreachable-requires-in_default-operands_of
unreachable-requires-in_default-operands_of c = pair-there c.args.graph.now c.each_number_once.ensures c.requires.formed c.args.place c.requires.given (as_feeding c.in-Some.fed) (sym c.in-Some.ensures) (sym c.in_default-operands_of.ensures)

pub absorbed-requires : goal.absorbed-requires
absorbed-requires c =
    can-there c.args.graph.now c.each_number_once.ensures c.requires.formed c.args.place c.requires.given (as_feeding c.in-Some.fed) (sym c.in-Some.ensures) c.in-Some-operator_of.form (sym c.in-Some-operator_of.ensures) (as_pair c.in-Some-operands_of.operands)
    (sym c.in-Some-operands_of.ensures)

pub returns-clause-acts : goal.returns-clause-acts
returns-clause-acts c =
    IfOk-weaker c.absorbed.result _ _
    (acts c.args.graph.now c.each_number_once.ensures c.requires.formed c.args.place c.requires.given (as_feeding c.in-Some.fed) (sym c.in-Some.ensures) c.in-Some-operator_of.form (sym c.in-Some-operator_of.ensures) (as_pair c.in-Some-operands_of.operands)
    (sym c.in-Some-operands_of.ensures)) c.absorbed.ensures

pub returns-clause-preserves : goal.returns-clause-preserves
returns-clause-preserves c =
    IfOk-weaker c.absorbed.result _ _
    (preserves c.args.graph.now c.each_number_once.ensures c.requires.formed c.args.place c.requires.given (as_feeding c.in-Some.fed) (sym c.in-Some.ensures) c.in-Some-operator_of.form (sym c.in-Some-operator_of.ensures) (as_pair c.in-Some-operands_of.operands)
    (sym c.in-Some-operands_of.ensures)) c.absorbed.ensures
