-- The scopes and the catalog of the program.
use Rattle.std.specs.Prelude.{ℕ, [], ◌∷◌}
use Rattle.sql_ast.specs.declared.text.QueryText.{QueryText}
use Rattle.sql_ast.specs.Shown as written
use Rattle.sql_catalog.specs.declared.catalog.Catalog.{Catalog}
use Rattle.sql_catalog.specs.Shown as declared
use Rattle.sql_faults.specs.Scopes as scope
use Rattle.sql_faults.specs.Views.{fault, heads_with}
use Rattle.sql_faults.specs.declared.known.Known.{Known}
use Rattle.sql_faults.specs.declared.scope.Scopes.{Scopes, Outermost, Plain', Grouped', Released'}

abbrev pub scopes : Scopes → scope.Scopes
scopes Outermost = []
scopes (Plain' tables _ outer) = scope.plain tables.now ∷ scopes outer
scopes (Grouped' tables by _ outer) = scope.grouped tables.now by.now ∷ scopes outer
scopes (Released' _ outer) = scope.released (scopes outer)

-- what the tables and views of the program stand for
abbrev pub heads : Known → scope.Heads
heads known = heads_with (declared.catalog known.catalog.now) known.views.now

-- the least number of a rule that is broken in a query, or 0 where it is valid
abbrev pub least_fault : Catalog → QueryText → ℕ
least_fault catalog text = fault (declared.catalog catalog) (written.query_text text)
