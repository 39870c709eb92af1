use Rattle.std.proofs.Common.{[], ◌∷◌}
use Rattle.qgm_core.specs.Free.{reached}
use Rattle.qgm_core.proofs.Reaching.{reached-reaches}
use Rattle.qgm_wellformed.proofs.Below.{free-free}
use Rattle.qgm_wellformed.proofs.ClosedLaws.{ascends, finds-alone}
use Rattle.qgm_wellformed.proofs.Seen.{view-is, viewers-see}
use Rattle.qgm_wellformed.proofs.laws.view_laws.Goals as goal

pub returns-clause-reaches : goal.returns-clause-reaches
returns-clause-reaches c = reached-reaches

pub returns-clause-free : goal.returns-clause-free
returns-clause-free c = λ g o. free-free g.boxes o

pub returns-clause-ascends : goal.returns-clause-ascends
returns-clause-ascends c = λ g b. ascends (reached (b ∷ []) g.boxes) g.boxes

pub returns-clause-alone : goal.returns-clause-alone
returns-clause-alone c = λ g o. finds-alone g.boxes o

pub returns-clause-sees : goal.returns-clause-sees
returns-clause-sees c = viewers-see

pub returns-clause-in_view : goal.returns-clause-in_view
returns-clause-in_view c = view-is
