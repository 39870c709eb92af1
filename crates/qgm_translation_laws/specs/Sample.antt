-- A schema with a view, and a query over it, with the types of their columns; and a table with keys, as graphs know it.
use Rattle.std.specs.Prelude.{◌≡◌, ℕ, List, [], ◌∷◌, Some, None, codes, false, pos}
use Rattle.shared_types.specs.declared.compare.CmpOp.TheVariants as op
use Rattle.sql_ast.specs.declared.schema.ColumnConstraint.TheVariants as constraint
use Rattle.sql_ast.specs.declared.schema.Element.TheVariants as element
use Rattle.sql_ast.specs.declared.schema.TableDecl.{TableDecl}
use Rattle.sql_ast.specs.declared.word.DataType.TheVariants as type
use Rattle.sql_ast.specs.Declarations.{Declared}
use Rattle.sql_ast.specs.Syntax as s
use Rattle.sql_value.specs.declared.order_key.SqlType.TheVariants.{Integer, Varchar}
use Rattle.sql_names.specs.Resolved.{query}
use Rattle.sql_names.specs.Schema.{schema_columns}
use Rattle.sql_faults.specs.Columns.{columns}
use Rattle.sql_faults.specs.Views.{fault, heads_of}
use Rattle.qgm_core.specs.declared.kinds.BaseTable.{BaseTable}
use Rattle.qgm_translation_laws.specs.Typed.{IsOfTypes}
use Rattle.qgm_translation_laws.specs.Sources.{stored_in}
use Rattle.qgm_translation_laws.specs.Typing.{ValidSchema, kinds_of, known_types}

abbrev pub column : List ℕ → s.Expr
column name = s.col (record { range = None; name = name })

abbrev pub from : List ℕ → s.TableRefs
from name = s.one_table (s.named name None) s.no_table

-- CREATE TABLE T (A INTEGER, B VARCHAR(5))
abbrev pub table : TableDecl
table = record {
  name = codes "T";
  elements = element.Column (record { name = codes "A"; data_type = type.Integer; constraints = [] }) ∷ element.Column (record { name = codes "B"; data_type = type.Varchar (pos 5); constraints = [] }) ∷ [];
}

-- CREATE VIEW V (C) AS SELECT A FROM T
abbrev pub view : s.ViewDecl
view = record { name = codes "V"; columns = codes "C" ∷ []; query = s.block None (s.items (s.one_item (s.item (column (codes "A")) None) s.no_item)) (from (codes "T")) s.no_filter [] s.no_filter }

abbrev pub catalog : Declared
catalog = record { tables = table ∷ []; views = view ∷ [] }

-- CASE WHEN C = 1 THEN 'x' END
abbrev pub choice : s.Expr
choice = s.searched (s.one_arm (s.compare (column (codes "C")) op.Eq (s.number (pos 1))) (s.given (s.string (codes "x"))) s.no_arm) s.no_else

-- SELECT CASE WHEN C = 1 THEN 'x' END, COUNT(*) FROM V GROUP BY C
abbrev pub text : s.QueryText
text = record {
  query = s.block None (s.items (s.one_item (s.item choice None) (s.one_item (s.item s.count_all None) s.no_item))) (from (codes "V")) s.no_filter (record { range = None; name = codes "C" } ∷ []) s.no_filter;
  order = [];
  semicolon = false;
}

-- CREATE TABLE K (A INTEGER NOT NULL UNIQUE, B VARCHAR(5), C INTEGER, PRIMARY KEY (B, A))
abbrev pub keyed : TableDecl
keyed = record {
  name = codes "K";
  elements =
      element.Column (record { name = codes "A"; data_type = type.Integer; constraints = constraint.NotNull ∷ constraint.Unique ∷ [] })
      ∷ element.Column (record { name = codes "B"; data_type = type.Varchar (pos 5); constraints = [] })
      ∷ element.Column (record { name = codes "C"; data_type = type.Integer; constraints = [] })
      ∷ element.PrimaryKey (codes "B" ∷ codes "A" ∷ [])
      ∷ [];
}

-- what a graph knows of it: the key of B and A, that of A, and that A and B are not null
abbrev pub stored : BaseTable
stored = record { name = codes "K"; types = Integer ∷ Varchar ∷ Integer ∷ []; keys = (2 ∷ 1 ∷ []) ∷ (1 ∷ []) ∷ []; not_null = 1 ∷ 2 ∷ [] }

pub record Sampled : Type 0 where
  pub schema : ValidSchema catalog
  pub valid : fault catalog text ≡ 0
  pub view : kinds_of (heads_of catalog) (codes "V") ≡ Integer ∷ []
  pub types : known_types (columns (heads_of catalog) text.query []) ≡ Varchar ∷ Integer ∷ []
  pub gives : IsOfTypes (kinds_of (heads_of catalog)) [] (query (schema_columns catalog) [] text.query) (Varchar ∷ Integer ∷ [])
  pub stored : stored_in (codes "K") (Some keyed) ≡ stored
