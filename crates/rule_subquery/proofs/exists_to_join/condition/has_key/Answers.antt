use Rattle.std.proofs.Common.{◌≡◌, ◌∙◌, ap, arith}
use Rattle.std.proofs.lemmas.Grind.{common_steps}
use Rattle.std.proofs.lemmas.Result.{IfOk-weaker}
use Rattle.qgm_core.specs.Boxes.{width}
use Rattle.qgm_props.specs.InferredKeys.{places_to}
use Rattle.qgm_props.specs.Table.{facts_of}
use Rattle.rule_facts.specs.Told.{infers_key}
use Rattle.rule_subquery.proofs.KnownKeys.{key-is}
use Rattle.rule_subquery.proofs.exists_to_join.condition.has_key.Goals as goal

pub returns : goal.returns
returns c =
    let bs = c.args.k.now.graph.now.boxes in
    let b = c.args.node.now.id in
    let all : c.deref.result.now ≡ places_to (width c.args.node.now) = grind (arith, common_steps) in
    IfOk-weaker c.holds_key.result _ _ (λ held e. e ∙ key-is bs (facts_of c.args.k.now.props.now) c.requires b c.deref.result.now ∙ ap (infers_key bs b) all) c.holds_key.ensures.exact
