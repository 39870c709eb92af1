-- The boxes of a query over tables and views: each table and each view that is read is laid once, before what reads it, and the query last.
use Rattle.std.specs.Prelude.{ℕ, zero, suc, Bool, false, ◌||◌, ◌&&◌, not, if◌then◌else◌, List, [], ◌∷◌, ◌++◌, Option}
use Rattle.sql_ast.specs.Names.{same_name}
use Rattle.sql_meaning.specs.ResolvedTrees.{Query}
use Rattle.sql_meaning.specs.ResolvedViews.{ViewTree}
use Rattle.sql_value.specs.declared.order_key.OrderKey.{OrderKey}
use Rattle.qgm_core.specs.Boxes.{QueryGraph}
use Rattle.qgm_core.specs.declared.kinds.BaseTable.{BaseTable}
use Rattle.qgm_translation.specs.Lay.{Boxes, Laid, SharedBox, lay_by, lay_table}
use Rattle.qgm_translation.specs.Reads.{query_reads}
use Rattle.qgm_translation.specs.Sources.{Sources}

-- no quantifier has the number 0, which stands for one that isn't there
abbrev pub nothing_laid : Boxes
nothing_laid = record { made = []; box = 0; quant = 1; rows = [] ∷ []; types = []; shared = [] }

abbrev pub is_laid : List SharedBox → List ℕ → Bool
is_laid [] name = false
is_laid (x ∷ xs) name = same_name x.name name || is_laid xs name

-- a query reads it, and it wasn't laid
abbrev pub is_wanted : Query → Boxes → List ℕ → Bool
is_wanted query s name = query_reads query name && not (is_laid s.shared name)

-- a table or a view has what was just laid as its box
abbrev pub shares : List ℕ → Laid → Boxes
shares name r = record r.boxes { shared = r.boxes.shared ++ (record { name = name; box = r.top } ∷ []) }

-- those of these tables that a query reads
abbrev pub lay_tables : Query → List BaseTable → Boxes → Boxes
lay_tables query [] s = s
lay_tables query (table ∷ tables) s = lay_tables query tables (if is_wanted query s table.name then shares table.name (lay_table table s) else s)

-- those of these views that a query reads, each after what its own body reads, which `below` lays
abbrev pub lay_views : Sources → (Query → Boxes → Boxes) → Query → List ViewTree → Boxes → Boxes
lay_views known below query [] s = s
lay_views known below query (view ∷ views) s =
    lay_views known below query views (if is_wanted query s view.name then shares view.name (lay_by known view.body [] (below view.body s)) else s)

-- the tables and the views that a query reads, where views nest no deeper than this
abbrev pub lay_read : Sources → List BaseTable → List ViewTree → ℕ → Query → Boxes → Boxes
lay_read known tables views zero query s = lay_tables query tables s
lay_read known tables views (suc depth) query s = lay_views known (lay_read known tables views depth) query views (lay_tables query tables s)

-- all boxes of a query over a schema, whose views nest at most 16 deep
abbrev pub lay_whole : Sources → List BaseTable → List ViewTree → Query → Laid
lay_whole known tables views query = lay_by known query [] (lay_read known tables views 16 query nothing_laid)

-- the graph of these boxes, with the names of its columns and the keys of its order
abbrev pub graph_of : Laid → List (Option (List ℕ)) → List OrderKey → QueryGraph
graph_of r names order = record { boxes = r.boxes.made; root = r.top; names = names; order = order }
