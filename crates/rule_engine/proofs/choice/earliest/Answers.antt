use Rattle.std.proofs.Common.{◌≡◌, ◌∙◌, drop, [], sym, ap, arith}
use Rattle.std.proofs.lemmas.Grind.{common_steps}
use Rattle.rule_engine.proofs.Earliest.{best, best-earliest}
use Rattle.rule_engine.proofs.choice.earliest.Goals as goal

pub returns : goal.returns
returns c =
    let ended : drop c.loop-f.f-index c.args.list.now ≡ [] = grind (arith, common_steps) in
    ap (best c.loop-f.found) (sym ended) ∙ c.loop-f.invariant ∙ best-earliest c.args.list.now

pub loop-f-preserved : goal.loop-f-preserved
loop-f-preserved c = grind (arith, common_steps)
