-- N1 and N2 preserve, at a place.
use Rattle.std.proofs.Common.{sym, subst}
use Rattle.rule_api.specs.Rules.{Preserves}
use Rattle.rule_prune.specs.Laws.{DropColumnPreserves, DropQuantifierPreserves}
use Rattle.rule_prune.proofs.DropColumnKeeps.{column-preserves}
use Rattle.rule_prune.proofs.DropQuantifierKeeps.{quantifier-preserves}

pub drop-column-preserves : DropColumnPreserves
drop-column-preserves g h u w at x = subst (λ z. Preserves g z) (sym x.after) (column-preserves g u w x.may.b at.i x.may.left x.may.unnamed)

pub drop-quantifier-preserves : DropQuantifierPreserves
drop-quantifier-preserves g h u w at x = subst (λ z. Preserves g z) (sym x.after) (quantifier-preserves g u w x.may.b x.may.us x.may.r x.may.vs x.may.unread)
