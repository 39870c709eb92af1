use Rattle.std.proofs.lemmas.Grind.{common_steps}
use Rattle.std.proofs.Common.{◌∙◌, sym, arith}
use Rattle.std.proofs.lemmas.Result.{IfOk-weaker}
use Rattle.row_bag.proofs.Copies.{except-agrees}
use Rattle.row_bag.proofs.sets.except.Goals as goal

pub returns-in-None : goal.returns-in-None
returns-in-None c = IfOk-weaker c.matching.result _ _ (λ rows h. except-agrees c.args.all c.args.columns c.args.a.now c.args.b.now rows (sym c.error_of_both.ensures ∙ c.in-None.is) h) c.matching.ensures

pub returns-in-Some : goal.returns-in-Some
returns-in-Some c = grind (arith, common_steps)
