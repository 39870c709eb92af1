-- What the names of tables and views stand for.
use Rattle.std.specs.Prelude.{ℕ, zero, suc, List, [], ◌∷◌, Option, Some, None, if◌then◌else◌}
use Rattle.row_bag.specs.Tables.{bag_named}
use Rattle.row_bag.specs.declared.tables.Table.{Table}
use Rattle.sql_ast.specs.Names.{same_name}
use Rattle.sql_meaning.specs.Meaning.{rows_or_none}
use Rattle.sql_meaning.specs.ResolvedMeaning.{Bag, rows}
use Rattle.sql_meaning.specs.ResolvedTrees.{Query}

-- a view: its name and its body
pub record ViewTree : Type 0 where
  pub name : List ℕ
  pub body : Query

-- the body of the first view of a name
abbrev pub body_of : List ViewTree → List ℕ → Option Query
body_of [] name = None
body_of (view ∷ views) name = if same_name view.name name then Some view.body else body_of views name

-- the rows of a body, and where there is none those of a table
abbrev pub viewed : (List ℕ → Bag) → List Table → List ℕ → Option Query → Bag
viewed known tables name None = rows_or_none (bag_named tables name)
viewed known tables name (Some body) = rows known body []

-- what a name stands for, where views nest no deeper than this
abbrev pub known_at : List ViewTree → List Table → ℕ → List ℕ → Bag
known_at views tables zero name = rows_or_none (bag_named tables name)
known_at views tables (suc depth) name = viewed (known_at views tables depth) tables name (body_of views name)

-- the same over a schema, whose views nest at most 16 deep
abbrev pub known_of : List ViewTree → List Table → List ℕ → Bag
known_of views tables = known_at views tables 16
