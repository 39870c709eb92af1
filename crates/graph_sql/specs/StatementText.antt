-- The text of the statement that a graph is.
use Rattle.std.specs.Prelude.{ℕ, suc, ◌==◌, ◌++◌, ◌&&◌, nat_le, not, if◌then◌else◌, Bool, true, false, List, [], ◌∷◌, Option, Some, None, codes, decimal, length}
use Rattle.std.specs.List.{flat_map}
use Rattle.list_laws.specs.Lists.{first, holds, times}
use Rattle.graph_print.specs.GraphText.{box_order, quant_order, quoted}
use Rattle.graph_print.specs.Places.{place_in}
use Rattle.qgm_core.specs.Boxes.{QueryGraph, is_quant, width}
use Rattle.qgm_core.specs.Free.{free_in}
use Rattle.qgm_core.specs.Kinds.{is_base}
use Rattle.qgm_core.specs.Walk.{under}
use Rattle.qgm_core.specs.declared.node.Node.{Node}
use Rattle.qgm_core.specs.declared.owned.OwnedQuant.{OwnedQuant}
use Rattle.qgm_meaning.specs.Ranks.{by_rank}
use Rattle.qgm_wellformed.specs.WellFormed.{is_empty}
use Rattle.sql_value.specs.declared.order_key.OrderKey.{OrderKey}
use Rattle.graph_sql.specs.Bodies.{Body, body_sql}
use Rattle.graph_sql.specs.BodyText.{body_text, columns_text, numbered, source_text, where_text}
use Rattle.graph_sql.specs.Readings.{Names}
use Rattle.graph_sql.specs.Statement.{column}
use Rattle.graph_sql.specs.declared.made.Made.{Made}
use Rattle.graph_sql.specs.declared.tables.TableNames.{TableNames}

-- ---- what all boxes share

-- the tables with the names of their columns; quantifiers and boxes in the order of their numbers; the boxes that are entries of WITH; columns that are known to hold no null
pub record Setting : Type 0 where
  pub tables : List TableNames
  pub quants : List ℕ
  pub boxes : List ℕ
  pub entries : List ℕ
  pub not_null : ℕ → ℕ → Bool

-- what is made of no box
abbrev pub nothing_made : Made
nothing_made = record { columns = 0; text = []; source = []; conditions = [] }

-- a box without columns has one that nobody names
abbrev pub at_least_one : ℕ → ℕ
at_least_one n = if n == 0 then 1 else n

abbrev pub box_name : List ℕ → ℕ → List ℕ
box_name boxes b = codes "b$" ++ decimal (place_in boxes b)

-- ---- boxes

-- an entry of WITH by its name
abbrev pub named_text : Setting → OwnedQuant → List ℕ
named_text s r = box_name s.boxes r.over ++ codes " AS q" ++ decimal (place_in s.quants r.id)

-- a SELECT in place, which sees what stands before it in FROM
abbrev pub inline_text : Setting → (ℕ → Made) → OwnedQuant → List ℕ
inline_text s below r = codes "LATERAL (" ++ (below r.over).text ++ codes ") AS q" ++ decimal (place_in s.quants r.id) ++ columns_text (below r.over).columns

-- an item of FROM
unfoldable pub item_text : Setting → (ℕ → Made) → OwnedQuant → List ℕ
item_text s below r = if holds r.over s.entries then named_text s r else inline_text s below r

abbrev pub item_found : Setting → (ℕ → Made) → Option OwnedQuant → List ℕ
item_found s below None = []
item_found s below (Some r) = item_text s below r

-- what stands between FROM and the test of a row, for EXISTS
abbrev pub inline_source : Setting → (ℕ → Made) → OwnedQuant → List ℕ
inline_source s below r = (below r.over).source ++ codes " AS q" ++ decimal (place_in s.quants r.id) ++ columns_text (below r.over).columns ++ (below r.over).conditions

unfoldable pub source_of : Setting → (ℕ → Made) → OwnedQuant → List ℕ
source_of s below r = if holds r.over s.entries then named_text s r ++ codes " WHERE " else inline_source s below r

abbrev pub source_found : Setting → (ℕ → Made) → Option OwnedQuant → List ℕ
source_found s below None = []
source_found s below (Some r) = source_of s below r

-- the names that a box with these quantifiers has for them
abbrev pub names_by : Setting → (ℕ → Made) → List OwnedQuant → Names (List ℕ)
names_by s below rs = record {
  range = λ q. item_found s below (first (is_quant q) rs);
  source = λ q. source_found s below (first (is_quant q) rs);
  column = λ q k. column q k;
  not_null = s.not_null;
}

abbrev pub made_by : (ℕ → ℕ) → ℕ → Body (List ℕ) → Made
made_by at columns body = record { columns = columns; text = body_text at body; source = source_text at (body_text at body) body; conditions = where_text at body }

abbrev pub made_of : Setting → Node → (ℕ → Made) → Made
made_of s n below = made_by (place_in s.quants) (at_least_one (width n)) (body_sql (names_by s below n.quants) s.tables n)

-- of each box, by those of the boxes behind it
abbrev pub made_in : Setting → List Node → ℕ → Made
made_in s boxes = by_rank nothing_made (made_of s) boxes

-- ---- entries of WITH: closed boxes, bases apart, that are named twice or more; each stands before those that name it

-- of boxes of which these are named
abbrev pub entry_by : List Node → List ℕ → Node → Bool
entry_by boxes named n = not (is_base n.parts.kind) && (nat_le 2 (times n.id named) && is_empty (free_in boxes n.id))

-- those that pass, from the last box to the first
abbrev pub from_last : (Node → Bool) → List Node → List ℕ
from_last test [] = []
from_last test (n ∷ ns) = if test n then from_last test ns ++ n.id ∷ [] else from_last test ns

abbrev pub entries_of : QueryGraph → List ℕ
entries_of g = from_last (entry_by g.boxes (under g.boxes (box_order g))) g.boxes

abbrev pub setting_of : List TableNames → (ℕ → ℕ → Bool) → QueryGraph → Setting
setting_of tables not_null g = record { tables = tables; quants = quant_order g; boxes = box_order g; entries = entries_of g; not_null = not_null }

unfoldable pub entry_text : Setting → (ℕ → Made) → ℕ → List ℕ
entry_text s made b = box_name s.boxes b ++ columns_text (made b).columns ++ codes " AS (" ++ (made b).text ++ codes ")"

abbrev pub next_entry : Setting → (ℕ → Made) → ℕ → List ℕ
next_entry s made b = codes ", " ++ entry_text s made b

abbrev pub with_text : Setting → (ℕ → Made) → List ℕ → List ℕ
with_text s made [] = []
with_text s made (b ∷ bs) = codes "WITH " ++ entry_text s made b ++ flat_map (next_entry s made) bs ++ codes " "

-- ---- the root

abbrev pub out_name : ℕ → Option (List ℕ) → List ℕ
out_name k None = codes "\"COL" ++ decimal k ++ codes "\""
out_name k (Some name) = quoted name

abbrev pub gap_text : ℕ → List ℕ
gap_text k = if k == 0 then codes " " else codes ", "

-- a column behind so many
abbrev pub out_text : ℕ → Option (List ℕ) → List ℕ
out_text k name = gap_text k ++ codes "q0.c" ++ decimal (suc k) ++ codes " AS " ++ out_name (suc k) name

-- the columns behind so many
abbrev pub outs_text : ℕ → List (Option (List ℕ)) → List ℕ
outs_text k [] = []
outs_text k (name ∷ names) = out_text k name ++ outs_text (suc k) names

abbrev pub ascending : ℕ → List ℕ
ascending k = codes "q0.c" ++ decimal k ++ codes " ASC NULLS FIRST"

abbrev pub direction_text : Bool → List ℕ
direction_text true = codes " DESC NULLS LAST"
direction_text false = codes " ASC NULLS FIRST"

unfoldable pub key_text : OrderKey → List ℕ
key_text key = codes "q0.c" ++ decimal key.column ++ direction_text key.descending

abbrev pub next_key : OrderKey → List ℕ
next_key key = key_text key ++ codes ", "

-- by the keys, and then by all columns
abbrev pub order_text : List OrderKey → ℕ → List ℕ
order_text keys n = if n == 0 then [] else codes " ORDER BY " ++ flat_map next_key keys ++ numbered ascending n

abbrev pub root_item : Made → List ℕ
root_item root = codes " FROM (" ++ root.text ++ codes ") AS q0" ++ columns_text root.columns

abbrev pub root_text : QueryGraph → Made → List ℕ
root_text g root = codes "SELECT" ++ outs_text 0 g.names ++ root_item root ++ order_text g.order (length g.names)

-- ---- all

abbrev pub text_by : Setting → QueryGraph → (ℕ → Made) → List ℕ
text_by s g made = with_text s made s.entries ++ root_text g (made g.root)

-- the statement of a graph
abbrev pub text_of : List TableNames → (ℕ → ℕ → Bool) → QueryGraph → List ℕ
text_of tables not_null g = text_by (setting_of tables not_null g) g (made_in (setting_of tables not_null g) g.boxes)
