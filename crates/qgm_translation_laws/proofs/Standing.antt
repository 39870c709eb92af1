-- Over tables that fit a schema, its names stand for their rows, those of views for the rows of their bodies.
use Rattle.std.proofs.Common.{◌≡◌, ◌∙◌, ◌≤◌, ℕ, zero, suc, List, [], ◌∷◌, length, Option, Some, None, refl, sym, ap, subst, arith}
use Rattle.std.specs.Prelude.{All}
use Rattle.std.proofs.lemmas.List.{length-map}
use Rattle.std.proofs.lemmas.List.Elements.{All-head, All-tail}
use Rattle.row_bag.specs.Tables.{bag_named}
use Rattle.row_bag.specs.declared.row.Row.{Row}
use Rattle.row_bag.specs.declared.tables.Table.{Table}
use Rattle.sql_ast.specs.declared.schema.TableDecl.{TableDecl}
use Rattle.sql_ast.specs.Declarations.{Declared, table_named, view_named}
use Rattle.sql_ast.specs.Syntax as s
use Rattle.sql_catalog.specs.TableNames as t
use Rattle.sql_catalog.proofs.DepthLaws.{Shallow, ShallowName, all_shallow, nested}
use Rattle.sql_catalog.proofs.EachLaws.{each_more}
use Rattle.sql_value.specs.declared.cell.Cell.{Cell}
use Rattle.sql_value.specs.declared.order_key.SqlType.{SqlType}
use Rattle.sql_meaning.specs.Meaning.{rows_or_none}
use Rattle.sql_meaning.specs.Meaning as n
use Rattle.sql_meaning.specs.Names.{Known, Relation}
use Rattle.sql_meaning.specs.Names.{columns_of as columns_in}
use Rattle.sql_meaning.specs.ResolvedMeaning as c
use Rattle.sql_meaning.specs.ResolvedViews as trees
use Rattle.sql_names.specs.Agreed.{IsWide, rows_of}
use Rattle.sql_names.specs.Even.{EvenQuery}
use Rattle.sql_names.specs.Resolved.{Columns, query}
use Rattle.sql_names.specs.Schema.{Sound, schema_columns, view_body, view_trees}
use Rattle.sql_names.proofs.ByPlaces.{IsKnown, rows_law}
use Rattle.sql_names.proofs.Frames.{fits_none}
use Rattle.sql_names.proofs.Whole.{Holds, body_found, even_body, holds, known_here}
use Rattle.sql_faults.proofs.Catalogs.{same_columns, typed_tables}
use Rattle.sql_faults.specs.Columns.{columns_or_none}
use Rattle.sql_faults.specs.Views.{heads_of}
use Rattle.sql_faults.specs.declared.column.TypedColumn.{TypedColumn}
use Rattle.qgm_meaning.specs.Widths.{Wide}
use Rattle.qgm_translation.specs.Law.{StandFor}
use Rattle.qgm_terms.specs.Terms.{Term}
use Rattle.qgm_translation_laws.proofs.Stated.{are_kinds, have_length}
use Rattle.qgm_translation_laws.specs.Sources.{body_in, sources_of}
use Rattle.qgm_translation_laws.specs.Typing.{ValidSchema, kinds_of}

each_wide : (w : ℕ) (r : Relation) (rows : List (Row (List Cell))) → w ≡ length r.columns → All (λ row. length row.cells ≡ length r.columns) rows → Wide w rows
each_wide w r [] e h = tt
each_wide w r (x ∷ rows) e h =
    (All-head (λ row. length row.cells ≡ length r.columns) x rows h ∙ sym e, each_wide w r rows e (All-tail (λ row. length row.cells ≡ length r.columns) x rows h))

wide_rows : (w : ℕ) (o : Option Relation) → w ≡ length (columns_in o) → IsWide o → Wide w (rows_of o)
wide_rows w None e h = tt
wide_rows w (Some r) e h = each_wide w r r.rows e h

module _ (catalog : Declared) (tables : List Table) (sound : Sound catalog tables) where
  abbrev columns : Columns
  columns = schema_columns catalog

  abbrev known : ℕ → Known
  known depth = n.known_at catalog tables depth

  abbrev bags : ℕ → List ℕ → List (Row (List Cell))
  bags depth = trees.known_at (view_trees catalog) tables depth

  -- a view's body has the same rows over the names that nest deeper, where those that it reads have
  body_same : (d e : ℕ) → d ≤ 16 → (view : s.ViewDecl) → EvenQuery columns [] view.query → Shallow catalog (suc d) (Some view)
      → ((other : List ℕ) → ShallowName catalog d other → bags e other ≡ bags d other) → c.rows (bags e) (query columns [] view.query) [] ≡ c.rows (bags d) (query columns [] view.query) []
  body_same d e low view even k same =
      let here : (other : List ℕ) → ShallowName catalog d other → IsKnown (known d) columns (bags d) other = λ other m. known_here catalog tables sound d low other m (holds catalog tables sound d low other m) in
      sym (rows_law (known d) columns (bags e) view.query [] [] [] fits_none
      (each_more (ShallowName catalog d) (IsKnown (known d) columns (bags e))
      (λ other m. let it : IsKnown (known d) columns (bags d) other = here other m in record { named = it.named; held = same other m ∙ it.held; wide = it.wide }) (t.in_query view.query) (nested catalog d view k)) even)
      ∙ rows_law (known d) columns (bags d) view.query [] [] [] fits_none (each_more (ShallowName catalog d) (IsKnown (known d) columns (bags d)) here (t.in_query view.query) (nested catalog d view k)) even

  level : (d : ℕ) (name : List ℕ) → bags (suc d) name ≡ trees.viewed (bags d) tables name (view_body catalog (view_named catalog.views name))
  level d name = ap (trees.viewed (bags d) tables name) (body_found catalog name catalog.views)

  -- above the depth to which a view nests its rows stay the same
  bags_stable : (d e : ℕ) → d ≤ e → e ≤ 16 → (name : List ℕ) → ShallowName catalog d name → bags e name ≡ bags d name
  bags_stable zero zero low high name h = refl
  bags_stable (suc d) zero low high name h = absurd (omega arith)
  bags_stable zero (suc e) low high name h = level e name ∙ at (view_named catalog.views name) h
    where
      at : (p : Option s.ViewDecl) → Shallow catalog 0 p → trees.viewed (bags e) tables name (view_body catalog p) ≡ rows_or_none (bag_named tables name)
      at None k = refl
      at (Some view) k = absurd (cc)
  bags_stable (suc d) (suc e) low high name h = level e name ∙ at (λ other k. bags_stable d e (omega arith) (omega arith) other k) (view_named catalog.views name) refl h ∙ sym (level d name)
    where
      at : ((other : List ℕ) → ShallowName catalog d other → bags e other ≡ bags d other) → (p : Option s.ViewDecl) → view_named catalog.views name ≡ p → Shallow catalog (suc d) p
          → trees.viewed (bags e) tables name (view_body catalog p) ≡ trees.viewed (bags d) tables name (view_body catalog p)
      at below None f k = refl
      at below (Some view) f k = body_same d e (omega arith) view (even_body catalog tables sound name view f) k below

  stands : (name : List ℕ) → bags 16 name ≡ trees.viewed (bags 16) tables name (view_body catalog (view_named catalog.views name))
  stands name = level 15 name ∙ sym (at (view_named catalog.views name) refl (all_shallow catalog 16 sound.shallow name))
    where
      at : (p : Option s.ViewDecl) → view_named catalog.views name ≡ p → Shallow catalog 16 p → trees.viewed (bags 16) tables name (view_body catalog p) ≡ trees.viewed (bags 15) tables name (view_body catalog p)
      at None f k = refl
      at (Some view) f k = body_same 15 16 (omega arith) view (even_body catalog tables sound name view f) k (λ other m. bags_stable 15 16 (omega arith) (omega arith) other m)

  body_apart : (o : Option TableDecl) (p : Option s.ViewDecl) → ((table : TableDecl) → o ≡ Some table → p ≡ None) → view_body catalog p ≡ body_in catalog o p
  body_apart None p h = refl
  body_apart (Some table) p h = ap (view_body catalog) (h table refl)

  module _ (valid : ValidSchema catalog) where
    counted : (name : List ℕ) → length (kinds_of (heads_of catalog) name) ≡ length (columns_in (known 16 name))
    counted name =
        have_length (columns_or_none (heads_of catalog name)) (kinds_of (heads_of catalog) name) (are_kinds (heads_of catalog) (typed_tables catalog sound.shallow valid.views) name)
        ∙ sym (length-map (columns_or_none (heads_of catalog name)) (λ (x : TypedColumn). x.name))
        ∙ ap length (same_columns catalog tables name)

    pub schema_stands : (shared : List ℕ → ℕ) (typed : Term → SqlType) → StandFor tables (sources_of catalog shared typed) (trees.known_of (view_trees catalog) tables)
    schema_stands shared typed = record {
      wide = λ name.
          let it : Holds (known 16 name) (bags 16 name) = holds catalog tables sound 16 (omega arith) name (all_shallow catalog 16 sound.shallow name) in
          subst (Wide (length (kinds_of (heads_of catalog) name))) (sym it.held) (wide_rows (length (kinds_of (heads_of catalog) name)) (known 16 name) (counted name) it.wide);
      views = λ name.
          stands name
          ∙ ap (trees.viewed (bags 16) tables name) (body_apart (table_named catalog.tables name) (view_named catalog.views name) (λ table e. sound.apart name table e));
    }
