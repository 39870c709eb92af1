use Rattle.std.proofs.Common.{refl}
use Rattle.rule_merge.proofs.MergeSelectKeeps.{merge-keeps}
use Rattle.rule_merge.proofs.MergeSelectOfPermit.{closed-merges, merge-permit-keeps}
use Rattle.rule_merge.proofs.MergeSelectOfDistinct.{merge-distinct-keeps}
use Rattle.rule_merge.proofs.MergeSelectShapedAny.{merge-distinct-shaped}
use Rattle.rule_merge.proofs.MergeSelectShaped.{merge-shaped}
use Rattle.rule_merge.proofs.MergeSelectTypedAny.{merge-distinct-typed}
use Rattle.rule_merge.proofs.MergeSelectTyped.{merge-typed}
use Rattle.rule_merge.proofs.MergeSelectFormed.{merge-any, merge-distinct-formed, merge-formed}
use Rattle.rule_merge.proofs.MergeSelectBounds.{place-few, place-fits}
use Rattle.rule_merge.proofs.laws.merge_laws.Goals as goal

pub returns-clause-keeps : goal.returns-clause-keeps
returns-clause-keeps c = λ g w b d us rq vs m. merge-keeps g w b d us rq vs m

pub returns-clause-distinct : goal.returns-clause-distinct
returns-clause-distinct c = merge-distinct-keeps

pub returns-clause-permit : goal.returns-clause-permit
returns-clause-permit c = merge-permit-keeps

pub returns-clause-closed : goal.returns-clause-closed
returns-clause-closed c = closed-merges

pub returns-clause-shaped : goal.returns-clause-shaped
returns-clause-shaped c = merge-shaped

pub returns-clause-typed : goal.returns-clause-typed
returns-clause-typed c = merge-typed

pub returns-clause-formed : goal.returns-clause-formed
returns-clause-formed c = merge-formed

pub returns-clause-distinct_shaped : goal.returns-clause-distinct_shaped
returns-clause-distinct_shaped c = merge-distinct-shaped

pub returns-clause-distinct_typed : goal.returns-clause-distinct_typed
returns-clause-distinct_typed c = merge-distinct-typed

pub returns-clause-distinct_formed : goal.returns-clause-distinct_formed
returns-clause-distinct_formed c = merge-distinct-formed

pub returns-clause-any : goal.returns-clause-any
returns-clause-any c = merge-any

pub returns-clause-same : goal.returns-clause-same
returns-clause-same c = refl

pub returns-clause-few : goal.returns-clause-few
returns-clause-few c = λ p g h u may act. place-few p g h u may act

pub returns-clause-levels : goal.returns-clause-levels
returns-clause-levels c = λ p g h may act. place-fits p g h may act
