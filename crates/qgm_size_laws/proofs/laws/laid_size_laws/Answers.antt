use Rattle.qgm_size_laws.proofs.Laid.{laid-size}
use Rattle.qgm_size_laws.proofs.Own.{cell-own, cond-own}
use Rattle.qgm_size_laws.proofs.laws.laid_size_laws.Goals as goal

pub returns-clause-cell : goal.returns-clause-cell
returns-clause-cell c = λ sources fr m s x. cell-own sources fr m s x

pub returns-clause-cond : goal.returns-clause-cond
returns-clause-cond c = λ sources fr m s p. cond-own sources fr m s p

pub returns-clause-laid : goal.returns-clause-laid
returns-clause-laid c = λ known at query m s. laid-size known at query m s
