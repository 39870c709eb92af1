use Rattle.std.proofs.Common.{◌≡◌, ℕ, List, ◌∙◌, ap}
use Rattle.std.proofs.lemmas.Result.{IfOk-weaker}
use Rattle.qgm_wellformed.specs.WellFormed.{first_fault, clauses}
use Rattle.qgm_core.specs.declared.node.Node.{Node}
use Rattle.qgm_check.proofs.check.find_fault.Goals as goal

pub returns : goal.returns
returns c =
    IfOk-weaker c.first_fault.result (λ f. f ≡ first_fault clauses c.root.result c.nodes-nodes.result.now) _
    (λ f e. e ∙ ap (λ (ns : List Node). first_fault clauses c.root.result ns) c.nodes-nodes.ensures ∙ ap (λ (r : ℕ). first_fault clauses r c.args.graph.now.boxes) c.root.ensures)
    c.first_fault.ensures
