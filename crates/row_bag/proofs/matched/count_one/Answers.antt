use Rattle.std.proofs.Common.{◌≡◌, ◌∙◌, ◌+◌, ap, arith, refl, sym}
use Rattle.std.proofs.Math.Seq.{map-set_same}
use Rattle.row_bag.specs.Matched.{left_of}
use Rattle.row_bag.specs.Sets.{same_cells}
use Rattle.row_bag.specs.declared.matched.Left.{Left}
use Rattle.row_bag.proofs.Lefts.{left-at, left-set, one-more}
use Rattle.row_bag.proofs.matched.count_one.Goals as goal

pub overflow_add-index_mut : goal.overflow_add-index_mut
overflow_add-index_mut c =
    let old = c.index_mut.result.now in
    let e : left_of (λ (l : Left). l.cells.now) (λ (l : Left). l.count) c.args.cells.now c.args.items.now.items ≡ old.count =
    left-at (λ (l : Left). l.cells.now) (λ (l : Left). l.count) c.args.cells.now c.args.items.now.items c.args.place old (c.requires.once c.args.cells.now) c.requires.place ∙ ap (λ (l : Left). l.count) (sym c.index_mut.ensures.value) in
    let room = c.requires.room in
    omega (arith, e, room)

pub returns-clause-tuples : goal.returns-clause-tuples
returns-clause-tuples c =
    let old = c.index_mut.result.now in
    map-set_same (λ (l : Left). l.cells.now) c.args.items.now.items c.args.place (record { cells = old.cells; count = old.count + 1 }) old (ap (λ (l : Left). l.cells.now) c.index_mut.ensures.value)

pub returns-clause-counts : goal.returns-clause-counts
returns-clause-counts c = λ t.
    let old = c.index_mut.result.now in
    let new : Left = record { cells = old.cells; count = old.count + 1 } in
    one-more (same_cells c.args.cells.now t) _ _ old.count
    (left-set (λ (l : Left). l.cells.now) (λ (l : Left). l.count) t c.args.items.now.items c.args.place new old c.args.cells.now c.requires.place c.index_mut.ensures.value refl)
