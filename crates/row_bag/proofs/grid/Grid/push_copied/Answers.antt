use Rattle.std.proofs.Common.{◌∙◌, ◌+◌, ◌++◌, ◌∷◌, [], ap, length, refl}
use Rattle.row_bag.specs.Grids.{cut}
use Rattle.row_bag.proofs.Cutting.{cut-push}
use Rattle.row_bag.proofs.grid.Grid.push_copied.Goals as goal

pub returns-clause-ok : goal.returns-clause-ok
returns-clause-ok c =
    let old = c.self.inside.cells.items in
    let tuple = c.args.tuple.now in
    ap (λ xs. cut (length tuple) (c.self.inside.count + 1) xs) c.in_ok-append_all.ensures.ok
    ∙ cut-push c.self.inside.width _ c.self.inside.count old tuple c.self.invariant.0 (rw c.self.view_is c.requires) refl
    ∙ ap (λ ts. ts ++ tuple ∷ []) c.self.view_is
