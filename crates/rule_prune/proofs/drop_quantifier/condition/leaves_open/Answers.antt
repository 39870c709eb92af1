use Rattle.std.proofs.Common.{◌≡◌, ◌∙◌, false, not, ap, subst, sym, arith}
use Rattle.std.proofs.lemmas.Grind.{common_steps}
use Rattle.rule_facts.specs.FedClosed.{any_fed}
use Rattle.rule_prune.proofs.DropQuantifierActs.{gone, held, unfed_gone}
use Rattle.rule_prune.proofs.drop_quantifier.condition.leaves_open.Goals as goal

pub without_quant-requires : goal.without_quant-requires
without_quant-requires c = held c.args.graph.now c.args.owner.now c.args.q c.requires.within c.requires.owned

pub returns-then-not-any_fed : goal.returns-then-not-any_fed
returns-then-not-any_fed c =
    let e : any_fed c.args.graph.now.boxes ≡ false = subst (λ z. any_fed z ≡ false) c.nodes.ensures (sym c.any_fed.ensures ∙ c.if-not-any_fed.true) in
    sym (ap not (unfed_gone c.args.graph.now c.args.owner.now c.args.q e))

pub returns : goal.returns
returns c = let e = gone c.args.graph.now c.each_number_once.ensures c.requires.formed c.args.owner.now c.args.q c.requires.within c.requires.owned in grind (arith, common_steps, e)
