use Rattle.std.proofs.Common.{◌≡◌, ◌∙◌, ◌+◌, ◌++◌, ◌∷◌, [], ap, arith, length, refl}
use Rattle.std.proofs.lemmas.Grind.{common_steps}
use Rattle.row_bag.specs.Grids.{cut}
use Rattle.row_bag.proofs.Cutting.{cut-push}
use Rattle.row_bag.proofs.grid.Grid.push_drained.Goals as goal

pub returns-clause-ok : goal.returns-clause-ok
returns-clause-ok c =
    let old = c.self.inside.cells.items in
    let tuple = c.args.tuple.now.items in
    let width : c.len-width.result ≡ length tuple = grind (arith, common_steps) in
    ap (λ xs. cut c.len-width.result (c.self.inside.count + 1) xs) c.in_ok-append.ensures.items
    ∙ ap (λ w. cut w (c.self.inside.count + 1) (old ++ tuple)) width
    ∙ cut-push c.self.inside.width _ c.self.inside.count old tuple c.self.invariant.0 (rw c.self.view_is c.requires) refl
    ∙ ap (λ ts. ts ++ tuple ∷ []) c.self.view_is
