use Rattle.std.proofs.Common.{arith, ◌∙◌, sym}
use Rattle.std.proofs.lemmas.Grind.{common_steps}
use Rattle.qgm_terms.specs.Shown.{cond}
use Rattle.box_exec.proofs.Asking.{place-found, place-high}
use Rattle.box_exec.proofs.early.place_from.Goals as goal

pub loop-place-preserved : goal.loop-place-preserved
loop-place-preserved c = grind (arith, common_steps)

pub loop-place-init : goal.loop-place-init
loop-place-init c = grind (arith, common_steps)

pub returns-then-stands_in_cond-clause-exact : goal.returns-then-stands_in_cond-clause-exact
returns-then-stands_in_cond-clause-exact c =
    let some = c.loop-place-test.true in
    place-found (cond c.args.c.now) c.args.ranges.now c.loop-place.place _ (omega (arith, some)) c.loop-place.invariant.within (sym c.stands_in_cond.ensures ∙ c.if-stands_in_cond.true) c.loop-place.invariant.none

pub returns-clause-exact : goal.returns-clause-exact
returns-clause-exact c =
    let none = c.loop-place-test.false in
    let high = place-high (cond c.args.c.now) c.args.ranges.now c.loop-place.place c.loop-place.invariant.none in
    omega (arith, none, high)
