-- The names of the columns of views that nest no deeper than a number.
use Rattle.std.proofs.Common.{◌≡◌, ◌≤◌, ℕ, zero, suc, List, [], Option, Some, None, refl, ap, sym, ◌∙◌, arith}
use Rattle.row_bag.specs.Tables.{bag_named}
use Rattle.row_bag.specs.declared.row.Row.{Row}
use Rattle.row_bag.specs.declared.tables.Table.{Table}
use Rattle.sql_ast.specs.declared.schema.TableDecl.{TableDecl}
use Rattle.sql_ast.specs.Syntax as s
use Rattle.sql_ast.specs.Declarations.{Declared, table_named, view_named}
use Rattle.sql_catalog.specs.TableNames as t
use Rattle.sql_catalog.proofs.DepthLaws.{Shallow, ShallowName, nested}
use Rattle.sql_catalog.proofs.EachLaws.{each_all, each_more}
use Rattle.sql_value.specs.declared.cell.Cell.{Cell}
use Rattle.sql_meaning.specs.Meaning.{known_at, relation_of, relation_with, viewed}
use Rattle.sql_meaning.specs.Names.{Relation, renamed}
use Rattle.sql_meaning.specs.Scopes.{first_of}
use Rattle.sql_names.specs.Agreed.{names_of}
use Rattle.sql_names.specs.Resolved.{bare, without_rows}
use Rattle.sql_names.specs.Schema.{columns_at, table_columns, view_columns}
use Rattle.sql_names.proofs.Named.{Agrees, names_bare}

module _ (catalog : Declared) where
  alone : {A : Type 0} (o : Option A) → first_of o None ≡ o
  alone None = refl
  alone (Some x) = refl

  bare_names : (o : Option (List (Option (List ℕ)))) → o ≡ names_of (without_rows o)
  bare_names None = refl
  bare_names (Some columns) = refl

  -- no deeper than a view nests, the columns stay the same
  pub stable : (d e : ℕ) → d ≤ e → (name : List ℕ) → ShallowName catalog d name → columns_at catalog e name ≡ columns_at catalog d name
  stable zero zero low name h = refl
  stable (suc d) zero low name h = absurd (omega arith)
  stable zero (suc e) low name h = at (view_named catalog.views name) h
    where
      at : (o : Option s.ViewDecl) → Shallow catalog 0 o → first_of (table_columns (table_named catalog.tables name)) (view_columns (columns_at catalog e) o) ≡ table_columns (table_named catalog.tables name)
      at None k = alone (table_columns (table_named catalog.tables name))
      at (Some view) k = absurd (cc)
  stable (suc d) (suc e) low name h = ap (first_of (table_columns (table_named catalog.tables name))) (at (λ other k. stable d e (omega arith) other k) (view_named catalog.views name) h)
    where
      at : ((other : List ℕ) → ShallowName catalog d other → columns_at catalog e other ≡ columns_at catalog d other) → (o : Option s.ViewDecl) → Shallow catalog (suc d) o → view_columns (columns_at catalog e) o ≡ view_columns (columns_at catalog d) o
      at below None k = refl
      at below (Some view) k =
          ap (λ (cs : List (Option (List ℕ))). Some (renamed view.columns cs))
          (names_bare (bare (columns_at catalog e)) (columns_at catalog d) view.query []
          (each_more (ShallowName catalog d) (Agrees (bare (columns_at catalog e)) (columns_at catalog d)) (λ other s. sym (below other s) ∙ bare_names (columns_at catalog e other)) (t.in_query view.query) (nested catalog d view k)))

  module _ (tables : List Table) where
    of_table : (o : Option TableDecl) (bag : Option (List (Row (List Cell)))) → table_columns o ≡ names_of (relation_with o bag)
    of_table None bag = refl
    of_table (Some table) bag = refl

    first_names : (a b : Option (List (Option (List ℕ)))) (o p : Option Relation) → a ≡ names_of o → b ≡ names_of p → first_of a b ≡ names_of (first_of o p)
    first_names a b None p h k = ap (λ (z : Option (List (Option (List ℕ)))). first_of z b) h ∙ k
    first_names a b (Some table) p h k = ap (λ (z : Option (List (Option (List ℕ)))). first_of z b) h

    -- they are the columns of what the name stands for
    pub columns_known : (depth : ℕ) (name : List ℕ) → columns_at catalog depth name ≡ names_of (known_at catalog tables depth name)
    columns_known zero name = of_table (table_named catalog.tables name) (bag_named tables name)
    columns_known (suc depth) name =
        first_names (table_columns (table_named catalog.tables name)) (view_columns (columns_at catalog depth) (view_named catalog.views name)) (relation_of catalog tables name) (viewed (known_at catalog tables depth) (view_named catalog.views name))
        (of_table (table_named catalog.tables name) (bag_named tables name))
        (at (columns_known depth) (view_named catalog.views name))
      where
        at : ((other : List ℕ) → columns_at catalog depth other ≡ names_of (known_at catalog tables depth other)) → (o : Option s.ViewDecl) → view_columns (columns_at catalog depth) o ≡ names_of (viewed (known_at catalog tables depth) o)
        at below None = refl
        at below (Some view) =
            ap (λ (cs : List (Option (List ℕ))). Some (renamed view.columns cs))
            (sym (names_bare (known_at catalog tables depth) (columns_at catalog depth) view.query [] (each_all (Agrees (known_at catalog tables depth) (columns_at catalog depth)) below (t.in_query view.query))))
