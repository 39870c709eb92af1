use Rattle.std.proofs.Common.{◌≡◌, ◌∙◌, false, true, subst, sym}
use Rattle.list_laws.specs.Lists.{holds}
use Rattle.rule_prune.specs.DropColumn.{may_lose}
use Rattle.rule_prune.specs.NamedColumns.{named_of}
use Rattle.rule_prune.proofs.DropColumnActs.{may-cut}
use Rattle.rule_prune.proofs.drop_column.condition.may_drop.Goals as goal

pub leaves_open-requires-clause-given : goal.leaves_open-requires-clause-given
leaves_open-requires-clause-given c =
    let l : may_lose c.args.node.now c.args.k ≡ true = sym c.may_lose.ensures ∙ c.if-not-may_lose.false in
    let f : holds c.args.k (named_of c.args.node.now.id c.args.graph.now.boxes) ≡ false = subst (λ z. holds c.args.k z ≡ false) c.requires.named (sym c.has.ensures ∙ c.if-has.false) in
    may-cut c.args.graph.now c.args.node.now c.args.k c.requires.found c.requires.from_one c.requires.within c.requires.fits l f
