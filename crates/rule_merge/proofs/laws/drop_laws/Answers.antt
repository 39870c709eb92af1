use Rattle.rule_merge.proofs.Examples.{dropped-example}
use Rattle.rule_merge.proofs.DropCopyKeeps.{drop-keeps}
use Rattle.rule_merge.proofs.DropCopyShaped.{drop-shaped}
use Rattle.rule_merge.proofs.DropCopyTyped.{drop-typed}
use Rattle.rule_merge.proofs.DropCopyFormed.{drop-formed}
use Rattle.rule_merge.proofs.laws.drop_laws.Goals as goal

pub returns-clause-keeps : goal.returns-clause-keeps
returns-clause-keeps c = λ g w b d r m. drop-keeps g w b d r m

pub returns-clause-shaped : goal.returns-clause-shaped
returns-clause-shaped c = λ g w s b d r m. drop-shaped g w s b d r m

pub returns-clause-typed : goal.returns-clause-typed
returns-clause-typed c = λ g w t b d r m. drop-typed g w t b d r m

pub returns-clause-formed : goal.returns-clause-formed
returns-clause-formed c = drop-formed

pub returns-clause-dropped : goal.returns-clause-dropped
returns-clause-dropped c = dropped-example
