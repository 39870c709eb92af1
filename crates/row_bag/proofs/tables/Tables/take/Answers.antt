use Rattle.std.proofs.Common.{◌∙◌, List, [], Some, sym, ap, slice_set}
use Rattle.row_bag.specs.declared.tables.Table.{Table}
use Rattle.row_bag.specs.Tables.{bag_named, without_rows}
use Rattle.row_bag.proofs.Taken.{at-place, no-place}
use Rattle.row_bag.proofs.tables.Tables.take.Goals as goal

pub returns-in_err-place-clause-bag : goal.returns-in_err-place-clause-bag
returns-in_err-place-clause-bag c =
    let at-end = no-place c.args.name.now c.self.inside.tables.items (sym (rw c.deref.ensures.value at c.in_err-place.ensures)) in
    c.from_residual.ensures ∙ sym at-end.0 ∙ ap (λ (ts : List Table). bag_named ts c.args.name.now) c.self.view_is

pub returns-in_err-place-clause-after : goal.returns-in_err-place-clause-after
returns-in_err-place-clause-after c =
    let at-end = no-place c.args.name.now c.self.inside.tables.items (sym (rw c.deref.ensures.value at c.in_err-place.ensures)) in
    sym c.self.view_is ∙ sym at-end.1 ∙ ap (λ (ts : List Table). without_rows ts c.args.name.now) c.self.view_is

pub returns-clause-bag : goal.returns-clause-bag
returns-clause-bag c =
    let here = at-place c.args.name.now c.self.inside.tables.items c.in_ok-place.place c.index_mut-table.result.now (sym (rw c.deref.ensures.value at c.in_ok-place.ensures)) in
    ap Some (c.replace.ensures.value ∙ ap (λ (t : Table). t.bag) c.index_mut-table.ensures.value) ∙ sym here.0 ∙ ap (λ (ts : List Table). bag_named ts c.args.name.now) c.self.view_is

pub returns-clause-after : goal.returns-clause-after
returns-clause-after c =
    let here = at-place c.args.name.now c.self.inside.tables.items c.in_ok-place.place c.index_mut-table.result.now (sym (rw c.deref.ensures.value at c.in_ok-place.ensures)) in
    rw (c.replace.ensures.after, c.new.ensures)
    (ap (λ (t : Table). slice_set c.self.inside.tables.items c.in_ok-place.place (record t { bag = [] })) c.index_mut-table.ensures.value
    ∙ here.1 ∙ ap (λ (ts : List Table). without_rows ts c.args.name.now) c.self.view_is)
