use Rattle.std.proofs.Common.{refl}
use Rattle.row_bag.specs.declared.matched.Left.{Left}
use Rattle.row_bag.proofs.Lefts.{left-none}
use Rattle.row_bag.proofs.matched.take.Goals as goal

pub returns-in-None-clause-none : goal.returns-in-None-clause-none
returns-in-None-clause-none c = λ none.
    left-none (λ (l : Left). l.cells.now) (λ (l : Left). l.count) c.args.cells.now c.args.items.now.items (c.in-None.ensures.none refl)
