-- Valid queries that graphs are built of, and what their graphs are.
use Rattle.std.specs.Prelude.{◌≡◌, []}
use Rattle.sql_ast.specs.Declarations.{Declared}
use Rattle.sql_ast.specs.Syntax as s
use Rattle.sql_check.specs.Checked.{AreViews}
use Rattle.sql_check.specs.declared.checked.Checked.{Checked}
use Rattle.sql_check.specs.declared.checked.Views.{Views}
use Rattle.sql_meaning.specs.ResolvedShown as shown
use Rattle.sql_names.specs.Resolved.{query}
use Rattle.sql_names.specs.Schema.{schema_columns}
use Rattle.qgm_core.specs.Boxes.{QueryGraph}
use Rattle.qgm_translation_laws.specs.Joined.{ValidQuery}
use Rattle.qgm_translation_laws.specs.Laid.{IsGraphOf, IsRight}

-- a checked query is a valid text with its names resolved
pub record IsOfText (catalog : Declared) (checked : Checked) (text : s.QueryText) : Type 0 where
  pub valid : ValidQuery catalog text
  pub query : shown.query checked.query ≡ query (schema_columns catalog) [] text.query

-- a checked query is one over a catalog whose views are these
pub record IsQueryOf (catalog : Declared) (held : Views) (checked : Checked) : Type 0 where
  pub views : AreViews catalog held
  pub text : s.QueryText
  pub is : IsOfText catalog checked text

-- a graph is the one that is built of a checked query, with its names and its keys
abbrev pub IsItsGraph : Declared → Checked → QueryGraph → Type 0
IsItsGraph catalog checked g = (text : s.QueryText) → IsOfText catalog checked text → IsGraphOf catalog text checked.names checked.order g

-- and has its rows and the types of its columns
abbrev pub IsItsRight : Declared → Checked → QueryGraph → Type 0
IsItsRight catalog checked g = (text : s.QueryText) → IsOfText catalog checked text → IsRight catalog text g
