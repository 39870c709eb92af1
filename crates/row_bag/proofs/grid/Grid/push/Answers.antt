use Rattle.std.proofs.Common.{◌∙◌, ◌+◌, ◌++◌, ◌∷◌, [], ap, refl}
use Rattle.row_bag.specs.Grids.{cut}
use Rattle.row_bag.proofs.Cutting.{cut-push}
use Rattle.row_bag.proofs.grid.Grid.push.Goals as goal

pub returns-clause-ok : goal.returns-clause-ok
returns-clause-ok c =
    let old = c.self.inside.cells.items in
    ap (λ xs. cut c.len-width.result (c.self.inside.count + 1) xs) c.in_ok-append_moved.ensures.ok
    ∙ ap (λ w. cut w (c.self.inside.count + 1) (old ++ c.args.tuple)) c.len-width.ensures
    ∙ cut-push c.self.inside.width _ c.self.inside.count old c.args.tuple c.self.invariant.0 (rw c.self.view_is c.requires) refl
    ∙ ap (λ ts. ts ++ c.args.tuple ∷ []) c.self.view_is
