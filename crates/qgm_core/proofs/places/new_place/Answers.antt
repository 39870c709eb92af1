use Rattle.std.proofs.lemmas.Grind.{common_steps}
use Rattle.std.proofs.Common.{◌≤◌, ◌+◌, ℕ, length, sym, arith, Option, subst}
use Rattle.qgm_core.specs.Boxes.{is_box, IsNewPlace}
use Rattle.qgm_core.proofs.First.{goes_below}
use Rattle.qgm_core.proofs.places.new_place.Goals as goal

pub returns-in-Some : goal.returns-in-Some
returns-in-Some c =
    let i = c.box_place.result in
    let xs = c.args.nodes.now in
    let h = c.box_place.ensures.first.0 in
    let l : i + 1 ≤ length xs = omega arith in
    subst (λ (o : Option ℕ). IsNewPlace o xs (i + 1)) (sym c.in-Some.is) (l, λ n. goes_below (is_box c.in-Some.c) xs i n (sym c.box_place.ensures.at))

pub returns-in-None : goal.returns-in-None
returns-in-None c = grind (arith, common_steps)
