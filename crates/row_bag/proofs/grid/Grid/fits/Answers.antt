use Rattle.std.proofs.Common.{◌≡◌, arith}
use Rattle.std.proofs.lemmas.Grind.{common_steps}
use Rattle.row_bag.proofs.Cutting.{wide-as}
use Rattle.row_bag.proofs.grid.Grid.fits.Goals as goal

pub returns-else-self-eq0 : goal.returns-else-self-eq0
returns-else-self-eq0 c = λ same.
    let e : c.self.inside.width ≡ c.args.width = grind (arith, common_steps, same) in
    wide-as c.self.inside.width c.args.width c.self.inside.count c.self.inside.cells.items c.args.self.now c.self.view_is c.self.invariant.0 e c.if-width-gt0.true
