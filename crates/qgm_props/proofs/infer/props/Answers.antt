use Rattle.std.proofs.Common.{◌≡◌, ◌∙◌, sym, subst, List, true}
use Rattle.row_bag.specs.declared.tables.Table.{Table}
use Rattle.qgm_core.specs.declared.node.Node.{Node}
use Rattle.qgm_props.specs.Holding.{Holds}
use Rattle.qgm_props.specs.Inferred.{Fact, Inferred, says}
use Rattle.qgm_props.specs.Laws.{Premises}
use Rattle.qgm_props.specs.Table.{facts_of}
use Rattle.qgm_props.specs.declared.facts.BoxFacts.{BoxFacts}
use Rattle.qgm_props.proofs.Improving.{all-said, closed}
use Rattle.qgm_props.proofs.Monotone.{least}
use Rattle.qgm_props.proofs.Step.{step-holds}
use Rattle.qgm_props.proofs.infer.props.Goals as goal

pub returns-clause-exact : goal.returns-clause-exact
returns-clause-exact c = subst (λ (t : List BoxFacts). (fact : Fact) → ((says (facts_of t) fact ≡ true → Inferred c.args.graph.now.boxes fact) × (Inferred c.args.graph.now.boxes fact → says (facts_of t) fact ≡ true))) (sym c.of-2.ensures)
    (subst (λ (ns : List Node). (fact : Fact) → ((says (facts_of c.in_ok-boxes.boxes) fact ≡ true → Inferred ns fact) × (Inferred ns fact → says (facts_of c.in_ok-boxes.boxes) fact ≡ true))) (c.in_ok-nodes.ensures ∙ c.nodes.ensures)
    (λ fact. (
      (λ h. all-said c.in_ok-nodes.nodes (Inferred c.in_ok-nodes.nodes) (least c.in_ok-nodes.nodes) c.in_ok-boxes.boxes c.in_ok-boxes.ensures.improves fact h),
      (λ h. h (facts_of c.in_ok-boxes.boxes) (closed c.in_ok-nodes.nodes c.in_ok-boxes.boxes c.in_ok-boxes.ensures.improves c.in_ok-boxes.ensures.stable)),
    )))

pub returns-clause-holds : goal.returns-clause-holds
returns-clause-holds c = subst (λ (t : List BoxFacts). (tables : List Table) → Premises tables c.args.graph.now.boxes → (fact : Fact) → says (facts_of t) fact ≡ true → Holds tables c.args.graph.now.boxes fact) (sym c.of-2.ensures)
    (subst (λ (ns : List Node). (tables : List Table) → Premises tables ns → (fact : Fact) → says (facts_of c.in_ok-boxes.boxes) fact ≡ true → Holds tables ns fact) (c.in_ok-nodes.ensures ∙ c.nodes.ensures)
    (λ tables given fact h. all-said c.in_ok-nodes.nodes (Holds tables c.in_ok-nodes.nodes) (λ known all fact k. step-holds tables c.in_ok-nodes.nodes known given all fact k) c.in_ok-boxes.boxes c.in_ok-boxes.ensures.improves fact h))
