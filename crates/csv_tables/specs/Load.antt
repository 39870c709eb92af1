-- The tables of a catalog, from their files.
use Rattle.std.specs.Prelude.{ℕ, List, [], ◌∷◌, Result, Ok}
use Rattle.io_edge.specs.Outcome.{Outcome, done}
use Rattle.io_edge.specs.Outside.{File}
use Rattle.row_bag.specs.declared.tables.Table.{Table}
use Rattle.sql_ast.specs.declared.schema.TableDecl.{TableDecl}
use Rattle.csv_tables.specs.TableFile.{Refusal, table_read, unless_refused}

infixl 10 ◌>>=◌
abbrev pub ◌>>=◌ : {X Y : Type 0} → Outcome (Result X Refusal) → (X → Outcome (Result Y Refusal)) → Outcome (Result Y Refusal)
first >>= rest = unless_refused first rest

-- a table for each declaration, in declared order, up to the first that is refused
unfoldable pub tables_of : List TableDecl → List ℕ → List File → Outcome (Result (List Table) Refusal)
tables_of [] dir files = done (Ok [])
tables_of (d ∷ ds) dir files = do
  table ← table_read d dir files
  tables ← tables_of ds dir files
  done (Ok (table ∷ tables))
