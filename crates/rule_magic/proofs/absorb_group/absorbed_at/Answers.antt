use Rattle.std.proofs.Common.{sym}
use Rattle.std.proofs.lemmas.Result.{IfOk-weaker}
use Rattle.rule_magic.specs.AbsorbGroupSteps.{as_grouping}
use Rattle.rule_magic.specs.Feeding.{as_feeding}
use Rattle.rule_magic.proofs.AbsorbGroupActs.{acts-with, acts-without, can-there, found, group-there, preserves-with, preserves-without}
use Rattle.rule_magic.proofs.absorb_group.absorbed_at.Goals as goal

pub unreachable-requires : goal.unreachable-requires
unreachable-requires c = found c.args.graph.now c.each_number_once.ensures c.requires.formed c.args.place c.requires.given (sym c.in_default.ensures)

pub unreachable-requires-in_default-group_of : goal.unreachable-requires-in_default-group_of
unreachable-requires-in_default-group_of c = group-there c.args.graph.now c.each_number_once.ensures c.requires.formed c.args.place c.requires.given (as_feeding c.in-Some.fed) (sym c.in-Some.ensures) (sym c.in_default-group_of.ensures)

pub keyless_group-requires : goal.keyless_group-requires
keyless_group-requires c = can-there c.args.graph.now c.each_number_once.ensures c.requires.formed c.args.place c.requires.given (as_feeding c.in-Some.fed) (sym c.in-Some.ensures)

pub keyed_group-requires : goal.keyed_group-requires
keyed_group-requires c = can-there c.args.graph.now c.each_number_once.ensures c.requires.formed c.args.place c.requires.given (as_feeding c.in-Some.fed) (sym c.in-Some.ensures)

pub returns-then-group-eq0-clause-acts : goal.returns-then-group-eq0-clause-acts
returns-then-group-eq0-clause-acts c =
    IfOk-weaker c.keyless_group.result _ _ (λ h s. acts-without c.args.graph.now c.each_number_once.ensures c.requires.formed c.args.place c.requires.given (as_feeding c.in-Some.fed) (sym c.in-Some.ensures) (as_grouping c.in-Some-group_of.group) (sym c.in-Some-group_of.ensures) h s c.if-group-eq0.true) c.keyless_group.ensures

pub returns-then-group-eq0-clause-preserves : goal.returns-then-group-eq0-clause-preserves
returns-then-group-eq0-clause-preserves c =
    IfOk-weaker c.keyless_group.result _ _ (λ h s. preserves-without c.args.graph.now c.each_number_once.ensures c.requires.formed c.args.place c.requires.given (as_feeding c.in-Some.fed) (sym c.in-Some.ensures) (as_grouping c.in-Some-group_of.group) (sym c.in-Some-group_of.ensures) h s c.if-group-eq0.true) c.keyless_group.ensures

pub returns-else-group-eq0-clause-acts : goal.returns-else-group-eq0-clause-acts
returns-else-group-eq0-clause-acts c =
    IfOk-weaker c.keyed_group.result _ _ (λ h e. acts-with c.args.graph.now c.each_number_once.ensures c.requires.formed c.args.place c.requires.given (as_feeding c.in-Some.fed) (sym c.in-Some.ensures) (as_grouping c.in-Some-group_of.group) (sym c.in-Some-group_of.ensures) h e c.if-group-eq0.false) c.keyed_group.ensures

pub returns-else-group-eq0-clause-preserves : goal.returns-else-group-eq0-clause-preserves
returns-else-group-eq0-clause-preserves c =
    IfOk-weaker c.keyed_group.result _ _ (λ h e. preserves-with c.args.graph.now c.each_number_once.ensures c.requires.formed c.args.place c.requires.given (as_feeding c.in-Some.fed) (sym c.in-Some.ensures) (as_grouping c.in-Some-group_of.group) (sym c.in-Some-group_of.ensures) h e c.if-group-eq0.false) c.keyed_group.ensures
