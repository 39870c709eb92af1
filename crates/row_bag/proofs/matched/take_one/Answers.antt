use Rattle.std.proofs.Common.{rules, ◌∙◌, ◌-◌, ap, arith, refl, sym}
use Rattle.std.proofs.Math.Seq.{map-set_same}
use Rattle.row_bag.specs.Sets.{same_cells}
use Rattle.row_bag.specs.declared.matched.Left.{Left}
use Rattle.row_bag.proofs.Lefts.{left-at, left-set, one-fewer, read-same, within}
use Rattle.row_bag.proofs.matched.take_one.Goals as goal

pub returns-then-count-eq0-clause-none : goal.returns-then-count-eq0-clause-none
returns-then-count-eq0-clause-none c = λ none.
    left-at (λ (l : Left). l.cells.now) (λ (l : Left). l.count) c.args.cells.now c.args.items.now.items c.args.place c.index.result.now (c.requires.once c.args.cells.now) c.requires.place
    ∙ ap (λ (l : Left). l.count) (sym c.index.ensures) ∙ c.if-count-eq0.true

pub index_mut-requires : goal.index_mut-requires
index_mut-requires c =
    let inside = within (λ (l : Left). l.cells.now) c.args.items.now.items c.args.place c.args.cells.now c.requires.place in
    search (rules, inside)

pub returns-clause-tuples : goal.returns-clause-tuples
returns-clause-tuples c =
    map-set_same (λ (l : Left). l.cells.now) c.args.items.now.items c.args.place (record { cells = c.index_mut.result.now.cells; count = c.index.result.now.count - 1 }) c.index_mut.result.now (ap (λ (l : Left). l.cells.now) c.index_mut.ensures.value)

pub returns-clause-rest : goal.returns-clause-rest
returns-clause-rest c = λ t.
    let old = c.index_mut.result.now in
    let new : Left = record { cells = old.cells; count = c.index.result.now.count - 1 } in
    let same = ap (λ (l : Left). l.count) (read-same (λ (l : Left). l.cells.now) c.args.items.now.items c.args.place c.args.cells.now c.index.result.now old c.requires.place c.index.ensures c.index_mut.ensures.value) in
    let some = c.if-count-eq0.false in
    one-fewer (same_cells c.args.cells.now t) _ _ old.count (c.index.result.now.count - 1) (omega (arith, some, same))
    (left-set (λ (l : Left). l.cells.now) (λ (l : Left). l.count) t c.args.items.now.items c.args.place new old c.args.cells.now c.requires.place c.index_mut.ensures.value refl)
