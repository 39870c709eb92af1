-- What the code holds of a graph, as the definition of the statement has it.
use Rattle.std.specs.Prelude.{ℕ, nat_eq, List, Option, Some, None}
use Rattle.std.specs.HashMap.{HashMap, get}
use Rattle.list_laws.specs.Lists.{first}
use Rattle.qgm_core.specs.Boxes.{owns, range_in}
use Rattle.qgm_core.specs.declared.node.Node.{Node}
use Rattle.qgm_core.specs.declared.owned.OwnedQuant.{OwnedQuant}
use Rattle.graph_sql.specs.Scoped.{is_sure}
use Rattle.graph_sql.specs.StatementText.{Setting, item_text, nothing_made, source_of}
use Rattle.graph_sql.specs.declared.made.Made.{Made}
use Rattle.graph_sql.specs.declared.scope.Item.{Item}
use Rattle.graph_sql.specs.declared.setting.Sheet.{Sheet}

abbrev pub setting_in : Sheet → Setting
setting_in s = record { tables = s.tables.now; quants = s.quants.now; boxes = s.boxes.now; entries = s.entries; not_null = is_sure s.sure }

abbrev pub made_or : Option Made → Made
made_or None = nothing_made
made_or (Some m) = m

-- what is made of a box, in a table by number
abbrev pub made_at : {S : Type 0} → HashMap ℕ Made S → ℕ → Made
made_at made b = made_or (get nat_eq made b)

abbrev pub item_of : Setting → (ℕ → Made) → OwnedQuant → Item
item_of s below r = record { id = r.id; text = item_text s below r; source = source_of s below r }

-- the box under a quantifier
abbrev pub over_in : Option OwnedQuant → Option ℕ
over_in None = None
over_in (Some r) = Some r.over

abbrev pub over_of : List Node → ℕ → Option ℕ
over_of boxes q = over_in (range_in q (first (owns q) boxes))

-- a quantifier's box, or else another one
abbrev pub over_or : Option OwnedQuant → Option ℕ → Option ℕ
over_or None other = other
over_or (Some r) other = Some r.over
