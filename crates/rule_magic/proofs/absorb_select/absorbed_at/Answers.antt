use Rattle.std.proofs.Common.{sym}
use Rattle.std.proofs.lemmas.Result.{IfOk-weaker}
use Rattle.rule_magic.specs.Feeding.{as_feeding}
use Rattle.rule_magic.proofs.AbsorbSelectActs.{acts, can-there, found, preserves}
use Rattle.rule_magic.proofs.absorb_select.absorbed_at.Goals as goal

pub unreachable-requires : goal.unreachable-requires
unreachable-requires c = found c.args.graph.now c.each_number_once.ensures c.requires.formed c.args.place c.requires.given (sym c.in_default.ensures)

pub absorbed-requires : goal.absorbed-requires
absorbed-requires c = can-there c.args.graph.now c.each_number_once.ensures c.requires.formed c.args.place c.requires.given (as_feeding c.in-Some.fed) (sym c.in-Some.ensures)

pub returns-clause-acts : goal.returns-clause-acts
returns-clause-acts c = IfOk-weaker c.absorbed.result _ _ (acts c.args.graph.now c.each_number_once.ensures c.requires.formed c.args.place c.requires.given (as_feeding c.in-Some.fed) (sym c.in-Some.ensures)) c.absorbed.ensures

pub returns-clause-preserves : goal.returns-clause-preserves
returns-clause-preserves c =
    IfOk-weaker c.absorbed.result _ _ (preserves c.args.graph.now c.each_number_once.ensures c.requires.formed c.args.place c.requires.given (as_feeding c.in-Some.fed) (sym c.in-Some.ensures)) c.absorbed.ensures
