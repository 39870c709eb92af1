use Rattle.graph_alike.proofs.OneText.{checked-text}
use Rattle.graph_alike.proofs.Walks.{walks-meet}
use Rattle.qgm_wellformed.proofs.Faults.{finds-none}
use Rattle.graph_alike.proofs.laws.alike_laws.Goals as goal

pub returns-clause-text : goal.returns-clause-text
returns-clause-text c = λ g h u v a b s o. checked-text g h u v ((finds-none g u).1 a) ((finds-none h v).1 b) s o

pub returns-clause-walks : goal.returns-clause-walks
returns-clause-walks c = λ w g h u v a b s o. walks-meet w g h u v a b s o
