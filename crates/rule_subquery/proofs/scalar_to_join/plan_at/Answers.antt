use Rattle.std.proofs.Common.{◌≡◌, ◌∙◌, Some, sym, ap}
use Rattle.std.proofs.lemmas.Result.{IfOk-weaker}
use Rattle.qgm_core.specs.Boxes.{is_box}
use Rattle.list_laws.specs.Lists.{first}
use Rattle.rule_subquery.proofs.ScalarToJoinActs.{box-there, first-there, no-box, planned, within-there}
use Rattle.rule_subquery.proofs.scalar_to_join.plan_at.Goals as goal

pub unreachable-requires : goal.unreachable-requires
unreachable-requires c = no-box c.args.place c.args.graph.now c.requires (sym (c.in_default.ensures ∙ ap (first (is_box c.args.place.at)) c.nodes.ensures))

pub quant_at-r-requires-clause-held : goal.quant_at-r-requires-clause-held
quant_at-r-requires-clause-held c = box-there c.args.place c.args.graph.now c.requires

pub quant_at-r-requires-clause-from_one : goal.quant_at-r-requires-clause-from_one
quant_at-r-requires-clause-from_one c = first-there c.args.place c.args.graph.now c.requires

pub quant_at-r-requires-clause-within : goal.quant_at-r-requires-clause-within
quant_at-r-requires-clause-within c = within-there c.args.place c.args.graph.now c.requires

pub returns : goal.returns
returns c =
    let found : first (is_box c.args.place.at) c.args.graph.now.boxes ≡ Some c.in-Some.b.now = sym (c.in-Some.ensures ∙ ap (first (is_box c.args.place.at)) c.nodes.ensures) in
    IfOk-weaker c.plan.result _ _ (λ x e. λ b us r vs may.
    e ∙ planned c.args.place c.args.graph.now c.in-Some.b.now found c.quant_at-r.result c.quant_at-r.ensures b us r vs may) c.plan.ensures
