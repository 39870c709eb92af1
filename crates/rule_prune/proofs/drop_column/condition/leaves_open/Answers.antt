use Rattle.std.proofs.Common.{◌≡◌, ◌∙◌, false, subst, sym, arith}
use Rattle.std.proofs.lemmas.Grind.{common_steps}
use Rattle.rule_facts.specs.FedClosed.{any_fed}
use Rattle.rule_prune.proofs.DropColumnActs.{cut-from, cut-held, cut-within, last_open, unfed_left}
use Rattle.rule_prune.proofs.drop_column.condition.leaves_open.Goals as goal

pub without_column-requires-clause-held : goal.without_column-requires-clause-held
without_column-requires-clause-held c = cut-held c.args.graph.now c.args.b c.args.k c.requires.given

pub without_column-requires-clause-from_one : goal.without_column-requires-clause-from_one
without_column-requires-clause-from_one c = cut-from c.args.graph.now c.args.b c.args.k c.requires.given

pub without_column-requires-clause-within : goal.without_column-requires-clause-within
without_column-requires-clause-within c = cut-within c.args.graph.now c.args.b c.args.k c.requires.given

pub pruned_column-requires-clause-held : goal.pruned_column-requires-clause-held
pruned_column-requires-clause-held c = cut-held c.args.graph.now c.args.b c.args.k c.requires.given

pub pruned_column-requires-clause-from_one : goal.pruned_column-requires-clause-from_one
pruned_column-requires-clause-from_one c = cut-from c.args.graph.now c.args.b c.args.k c.requires.given

pub pruned_column-requires-clause-within : goal.pruned_column-requires-clause-within
pruned_column-requires-clause-within c = cut-within c.args.graph.now c.args.b c.args.k c.requires.given

pub returns-then-not-any_fed : goal.returns-then-not-any_fed
returns-then-not-any_fed c =
    let e : any_fed c.args.graph.now.boxes ≡ false = subst (λ z. any_fed z ≡ false) c.nodes.ensures (sym c.any_fed.ensures ∙ c.if-not-any_fed.true) in
    sym (unfed_left c.args.graph.now c.each_number_once.ensures c.requires.formed c.args.b c.args.k c.requires.given e)

pub returns : goal.returns
returns c =
    let e = last_open c.args.graph.now c.each_number_once.ensures c.requires.formed c.args.b c.args.k c.requires.given c.in_ok-last.last c.in_ok-last.ensures in
    grind (arith, common_steps, e)
