-- Conditions of a CASE with their results, as the program holds them.
use Rattle.std.specs.Prelude.{List, map, Option, Some, None}
use Rattle.std.specs.Global.{Box}
use Rattle.qgm_terms.specs.Shown.{cond, term}
use Rattle.qgm_terms.specs.Terms.{Term}
use Rattle.qgm_terms.specs.declared.tree.Gx.{Gx}
use Rattle.qgm_build_terms.specs.Parts.{OpenChoice}
use Rattle.qgm_build_terms.specs.declared.parts.OpenArm.{OpenArm}

abbrev pub open_of : Option (Box Gx) → Option Term
open_of None = None
open_of (Some x) = Some (term x.value)

abbrev pub open_choice : OpenArm → OpenChoice
open_choice a = record { when = cond a.when.value; result = open_of a.then }

abbrev pub opened : List OpenArm → List OpenChoice
opened arms = map open_choice arms
