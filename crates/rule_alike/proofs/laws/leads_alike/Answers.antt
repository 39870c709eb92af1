use Rattle.rule_alike.proofs.Alike.{leads-alike}
use Rattle.rule_alike.proofs.laws.leads_alike.Goals as goal

pub returns : goal.returns
returns g c = λ owed acts plan k x y fs es m n w s a b. leads-alike _ _ _ plan k x y fs es m n owed acts w s a b
