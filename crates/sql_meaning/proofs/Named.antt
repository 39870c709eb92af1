-- Names over a schema without views.
use Rattle.std.proofs.Common.{◌≡◌, ℕ, zero, suc, List, [], Option, Some, None, refl}
use Rattle.row_bag.specs.declared.tables.Table.{Table}
use Rattle.sql_ast.specs.Declarations.{Declared}
use Rattle.sql_meaning.specs.Meaning.{Relation, first_of, known_at, known_of, relation_of}

alone : (table : Option Relation) → first_of table None ≡ table
alone None = refl
alone (Some table) = refl

at_depth : (catalog : Declared) (tables : List Table) → catalog.views ≡ [] → (depth : ℕ) (name : List ℕ) → known_at catalog tables depth name ≡ relation_of catalog tables name
at_depth catalog tables none zero name = refl
at_depth catalog tables none (suc depth) name = rw none (alone (relation_of catalog tables name))

pub without_views : (catalog : Declared) (tables : List Table) → catalog.views ≡ [] → (name : List ℕ) → known_of catalog tables name ≡ relation_of catalog tables name
without_views catalog tables none name = at_depth catalog tables none 16 name
