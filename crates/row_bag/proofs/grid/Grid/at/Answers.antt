use Rattle.std.proofs.Common.{arith, rules}
use Rattle.row_bag.proofs.Cutting.{stands, within}
use Rattle.row_bag.proofs.grid.Grid.at.Goals as goal

pub overflow_mul-start : goal.overflow_mul-start
overflow_mul-start c =
    let fits = within c.self.inside.width c.self.inside.count c.args.place c.self.inside.cells.items c.args.self.now c.self.view_is c.requires c.self.invariant.0 in
    omega (arith, fits)

pub overflow_add-result : goal.overflow_add-result
overflow_add-result c =
    let fits = within c.self.inside.width c.self.inside.count c.args.place c.self.inside.cells.items c.args.self.now c.self.view_is c.requires c.self.invariant.0 in
    omega (arith, fits)

pub offset_bounds-deref-start : goal.offset_bounds-deref-start
offset_bounds-deref-start c =
    let fits = within c.self.inside.width c.self.inside.count c.args.place c.self.inside.cells.items c.args.self.now c.self.view_is c.requires c.self.invariant.0 in
    omega (arith, fits)

pub slice_bounds-result-end : goal.slice_bounds-result-end
slice_bounds-result-end c =
    let fits = within c.self.inside.width c.self.inside.count c.args.place c.self.inside.cells.items c.args.self.now c.self.view_is c.requires c.self.invariant.0 in
    search (rules, fits)

pub returns : goal.returns
returns c = stands c.self.inside.width c.self.inside.count c.args.place c.self.inside.cells.items c.deref.result.now c.args.self.now c.self.view_is c.requires c.deref.ensures.value
