use Rattle.std.proofs.Common.{inr}
use Rattle.std.proofs.lemmas.Option.{IfSome_then}
use Rattle.std.proofs.lemmas.Result.{IfOk-weaker}
use Rattle.box_exec.proofs.key.sided.Goals as goal

pub returns-in-None-clause-sides : goal.returns-in-None-clause-sides
returns-in-None-clause-sides c = IfOk-weaker c.key_of-in-None.result _ _ (λ o h. IfSome_then o h (λ k s. (s.0, inr s.1))) c.key_of-in-None.ensures.sides
