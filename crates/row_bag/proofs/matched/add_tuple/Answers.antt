use Rattle.std.proofs.lemmas.Grind.{common_steps}
use Rattle.std.proofs.Common.{map, arith}
use Rattle.std.proofs.lemmas.List.{map_push}
use Rattle.row_bag.specs.declared.matched.Left.{Left}
use Rattle.row_bag.proofs.Keeping.{different-push}
use Rattle.row_bag.proofs.Lefts.{left-push}
use Rattle.row_bag.proofs.matched.add_tuple.Goals as goal

pub returns-clause-once : goal.returns-clause-once
returns-clause-once c = λ t.
    let items = c.args.items.now.items in
    let new : Left = record { cells = c.args.cells; count = 1 } in
    rw (c.in_ok-push-2.ensures.items, map_push (λ (l : Left). l.cells.now) items new) (different-push (map (λ (l : Left). l.cells.now) items) c.args.cells.now c.requires.none c.requires.once t)

pub returns-clause-counts : goal.returns-clause-counts
returns-clause-counts c = λ t.
    let new : Left = record { cells = c.args.cells; count = 1 } in
    rw c.in_ok-push-2.ensures.items (left-push (λ (l : Left). l.cells.now) (λ (l : Left). l.count) t c.args.items.now.items new)

pub returns-clause-index : goal.returns-clause-index
returns-clause-index c = grind (arith, common_steps)
