use Rattle.std.proofs.Common.{◌≡◌, arith, Some, None}
use Rattle.std.proofs.lemmas.Grind.{common_steps}
use Rattle.qgm_wellformed.specs.WellFormed.{fault}
use Rattle.qgm_wellformed.proofs.Faults.{finds-fault, finds-none}
use Rattle.qgm_check.proofs.check.check_graph.Goals as goal

pub returns-in-Some-clause-fails : goal.returns-in-Some-clause-fails
returns-in-Some-clause-fails c = λ f e. (
    let h : fault c.args.graph.now ≡ Some f = grind (arith, common_steps, e, c.in_ok-fault.ensures, c.in-Some.is) in
    (finds-fault c.args.graph.now c.each_number_once.ensures f).0 h)

pub returns-in-None-clause-ok : goal.returns-in-None-clause-ok
returns-in-None-clause-ok c = (
    let h : fault c.args.graph.now ≡ None = grind (arith, common_steps, c.in_ok-fault.ensures, c.in-None.is) in
    (finds-none c.args.graph.now c.each_number_once.ensures).0 h)
