-- What a graph has in which the check finds nothing: soundness, types that agree, and shapes.
use Rattle.std.proofs.Common.{◌≡◌, None}
use Rattle.qgm_core.specs.Boxes.{QueryGraph, numbers}
use Rattle.list_laws.specs.Lists.{EachOnce}
use Rattle.qgm_wellformed.specs.WellFormed.{fault}
use Rattle.qgm_edit_laws.specs.Graph.{Sound}
use Rattle.qgm_edit_laws.specs.Shaped.{Shaped, Typed}
use Rattle.qgm_edit_laws.proofs.Formed.{sound-checked}

module _ (g : QueryGraph) (u : EachOnce (numbers g.boxes)) (c : fault g ≡ None) where
  pub sound : Sound g.boxes g.root
  sound = ((sound-checked g u).0 c).0

  pub typed : Typed g.boxes
  typed = ((sound-checked g u).0 c).1

  pub shaped : Shaped g.boxes g.root
  shaped = ((sound-checked g u).0 c).2
