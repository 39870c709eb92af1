use Rattle.qgm_meaning.proofs.Widened.{wide-boxes}
use Rattle.qgm_meaning.proofs.Keyed.{group-keyed, keys-keyed}
use Rattle.qgm_meaning.proofs.MergedRows.{given-merged}
use Rattle.qgm_meaning.proofs.laws.row_laws.Goals as goal

pub returns-clause-wide : goal.returns-clause-wide
returns-clause-wide c = λ tables ns filled even b env. wide-boxes tables ns filled even b env

pub returns-clause-keyed : goal.returns-clause-keyed
returns-clause-keyed c = record { keys = λ n key rows long. keys-keyed n key long rows; members = λ n key rows k f long. group-keyed n key long rows k f }

pub returns-clause-given_merged : goal.returns-clause-given_merged
returns-clause-given_merged c = λ ms q s t conds ic head ih unread fh fc d e m same. given-merged ms q s t conds ic head ih unread fh fc d e m same
