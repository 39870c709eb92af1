use Rattle.std.proofs.Common.{arith}
use Rattle.std.proofs.lemmas.Grind.{common_steps}
use Rattle.graph_print.proofs.Placed.{found_more}
use Rattle.graph_print.proofs.numbers.Places.push.Goals as goal

pub invariant_of-self-2 : goal.invariant_of-self-2
invariant_of-self-2 c = λ k. let f = found_more k c.args.x c.self.inside.list.items in grind (arith, common_steps, f, c.self.invariant k, c.in_ok-add_place.ensures.ok k)

pub returns : goal.returns
returns c = grind (arith, common_steps)

pub invariant_of-self-in_err-push : goal.invariant_of-self-in_err-push
invariant_of-self-in_err-push c = grind (arith, common_steps)
