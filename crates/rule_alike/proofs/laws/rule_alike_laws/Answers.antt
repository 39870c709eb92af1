use Rattle.rule_alike.proofs.Alike.{candidates-like, next-alike}
use Rattle.rule_alike.proofs.laws.rule_alike_laws.Goals as goal

pub returns-clause-candidates : goal.returns-clause-candidates
returns-clause-candidates c = λ pairs plan g h owed w. candidates-like pairs owed g h w plan

pub returns-clause-next : goal.returns-clause-next
returns-clause-next c = λ pairs plan k g h owed w. next-alike pairs owed g h w plan k
