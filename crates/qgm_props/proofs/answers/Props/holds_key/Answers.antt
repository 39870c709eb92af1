use Rattle.std.proofs.Common.{◌≡◌, sym, subst, ◌∙◌, List}
use Rattle.std.specs.Result.{IfOk}
use Rattle.std.proofs.lemmas.Result.{IfOk-weaker}
use Rattle.qgm_core.specs.declared.node.Node.{Node}
use Rattle.qgm_props.specs.Keys as keys
use Rattle.qgm_props.specs.Table.{facts_of}
use Rattle.qgm_props.specs.declared.facts.BoxFacts.{BoxFacts}
use Rattle.qgm_props.proofs.InferredKeys.{tells-key}
use Rattle.qgm_props.proofs.Settled.{told-keys}
use Rattle.qgm_props.proofs.answers.Props.holds_key.Goals as goal

pub returns-clause-holds : goal.returns-clause-holds
returns-clause-holds c =
    IfOk-weaker c.has_key.result _ _ (λ k e t tells. told-keys (facts_of c.args.self.now) c.args.graph.now.boxes tells c.args.b c.args.columns.now (sym e ∙ t)) exact
  where
    exact : IfOk c.has_key.result (λ k. k ≡ keys.holds_key (facts_of c.args.self.now).at_most_one c.args.graph.now.boxes c.args.b c.args.columns.now)
    exact =
        subst (λ (t : List BoxFacts). IfOk c.has_key.result (λ k. k ≡ keys.holds_key (facts_of t).at_most_one c.args.graph.now.boxes c.args.b c.args.columns.now)) c.self.view_is
        (subst (λ (ns : List Node). IfOk c.has_key.result (λ k. k ≡ keys.holds_key (facts_of c.self.inside.boxes).at_most_one ns c.args.b c.args.columns.now)) c.nodes.ensures c.has_key.ensures)

pub returns-clause-inferred : goal.returns-clause-inferred
returns-clause-inferred c =
    IfOk-weaker c.has_key.result _ _ (λ k e. tells-key (facts_of c.args.self.now) c.args.graph.now.boxes c.args.b c.args.columns.now k e) exact
  where
    exact : IfOk c.has_key.result (λ k. k ≡ keys.holds_key (facts_of c.args.self.now).at_most_one c.args.graph.now.boxes c.args.b c.args.columns.now)
    exact =
        subst (λ (t : List BoxFacts). IfOk c.has_key.result (λ k. k ≡ keys.holds_key (facts_of t).at_most_one c.args.graph.now.boxes c.args.b c.args.columns.now)) c.self.view_is
        (subst (λ (ns : List Node). IfOk c.has_key.result (λ k. k ≡ keys.holds_key (facts_of c.self.inside.boxes).at_most_one ns c.args.b c.args.columns.now)) c.nodes.ensures c.has_key.ensures)
