use Rattle.std.proofs.Common.{◌≡◌, arith, None}
use Rattle.std.proofs.lemmas.Grind.{common_steps}
use Rattle.graph_print.specs.Places.{found_in}
use Rattle.graph_print.proofs.Placed.{place_out}
use Rattle.graph_print.proofs.numbers.Places.place_of.Goals as goal

pub returns-in-None : goal.returns-in-None
returns-in-None c =
    let h : found_in c.self.inside.list.items c.args.x ≡ None = grind (arith, common_steps, c.self.invariant c.args.x) in
    let k = place_out c.args.x c.self.inside.list.items h in
    grind (arith, common_steps, k)
