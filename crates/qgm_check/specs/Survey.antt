-- What is looked up once for all boxes, and boxes that need no look.
use Rattle.std.specs.Prelude.{ℕ, ◌≡◌, [], List, filter, map}
use Rattle.std.specs.List.{flat_map}
use Rattle.list_laws.specs.Lists.{EachOnce}
use Rattle.qgm_core.specs.Boxes.{ids_in, numbers, overs_in}
use Rattle.qgm_core.specs.Free.{named_by}
use Rattle.qgm_core.specs.Kinds.{is_F_or_S}
use Rattle.qgm_core.specs.declared.node.Node.{Node}
use Rattle.qgm_wellformed.specs.Types.{Knows}
use Rattle.qgm_check.specs.declared.check.Survey.{Survey}

-- the boxes that F and S quantifiers of a box range over
abbrev pub counted_by : Node → List ℕ
counted_by n = map (λ r. r.over) (filter (λ r. is_F_or_S r.kind) n.quants)

abbrev pub counted_in : List Node → List ℕ
counted_in ns = flat_map counted_by ns

-- the types of all columns, the quantifiers that the boxes own, the boxes that these range over, and those that F and S range over; no two boxes have one number
pub record IsSurvey (boxes : List Node) (survey : Survey) : Type 0 where
  pub types : Knows boxes survey.types
  pub ids : survey.ids.items ≡ ids_in boxes
  pub overs : survey.overs.items ≡ overs_in boxes
  pub counted : survey.counted ≡ counted_in boxes
  pub once : EachOnce (numbers boxes)

-- a box owns no quantifier and names none
abbrev pub IsApart : Node → Type 0
IsApart n = (n.quants ≡ []) × (named_by n ≡ [])
