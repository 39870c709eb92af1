-- What the check of a graph says is enough for inference.
use Rattle.std.specs.Prelude.{◌≡◌, List, None}
use Rattle.row_bag.specs.declared.tables.Table.{Table}
use Rattle.qgm_core.specs.Boxes.{QueryGraph, numbers}
use Rattle.list_laws.specs.Lists.{EachOnce}
use Rattle.qgm_wellformed.specs.WellFormed.{fault}
use Rattle.qgm_meaning.specs.Satisfies.{Satisfies}
use Rattle.qgm_props.specs.Holding.{Holds}
use Rattle.qgm_props.specs.Inferred.{Fact, Inferred}
use Rattle.qgm_props.specs.Laws.{Premises}

-- where the check finds nothing, tables that satisfy the bases meet what inference asks
abbrev pub WellFormedMeets : Type 0
WellFormedMeets = (g : QueryGraph) → EachOnce (numbers g.boxes) → fault g ≡ None → (tables : List Table) → Satisfies tables g.boxes → Premises tables g.boxes

-- and what is inferred holds over them
abbrev pub WellFormedHolds : Type 0
WellFormedHolds =
    (g : QueryGraph) → EachOnce (numbers g.boxes) → fault g ≡ None → (tables : List Table) → Satisfies tables g.boxes → (fact : Fact) → Inferred g.boxes fact → Holds tables g.boxes fact
