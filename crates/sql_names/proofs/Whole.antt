-- What a query over a schema means by names it means by places.
use Rattle.std.proofs.Common.{◌≡◌, ◌≤◌, ℕ, zero, suc, true, false, cond, List, [], ◌∷◌, length, map, Option, Some, None, refl, ap, ap₂, sym, ◌∙◌, subst, arith}
use Rattle.row_bag.specs.Tables.{bag_named}
use Rattle.row_bag.specs.Verdict.{verdict}
use Rattle.row_bag.specs.declared.row.Row.{Row}
use Rattle.row_bag.specs.declared.tables.Table.{Table}
use Rattle.sql_ast.specs.declared.schema.TableDecl.{TableDecl}
use Rattle.sql_ast.specs.Syntax as s
use Rattle.sql_ast.specs.Declarations.{Declared, table_named, view_named}
use Rattle.sql_ast.specs.Names.{same_name}
use Rattle.sql_catalog.specs.TableNames as t
use Rattle.sql_catalog.proofs.DepthLaws.{Shallow, ShallowName, all_shallow, nested}
use Rattle.sql_catalog.proofs.EachLaws.{Each, each_all, each_more, found_all}
use Rattle.sql_value.specs.declared.cell.Cell.{Cell}
use Rattle.sql_meaning.specs.Meaning.{answer_of, order_key, relation_with, rows_or_none, viewed}
use Rattle.sql_meaning.specs.Meaning as n
use Rattle.sql_meaning.specs.Names.{Known, Relation, names, renamed}
use Rattle.sql_meaning.specs.Scopes.{first_of}
use Rattle.sql_meaning.specs.ResolvedMeaning as c
use Rattle.sql_meaning.specs.ResolvedTrees.{Query}
use Rattle.sql_meaning.specs.ResolvedViews.{body_of}
use Rattle.sql_meaning.specs.ResolvedViews as trees
use Rattle.sql_names.specs.Agreed.{IsWide, names_of, rows_of}
use Rattle.sql_names.specs.Even.{EvenQuery}
use Rattle.sql_names.specs.Resolved.{Columns, bare, query}
use Rattle.sql_names.specs.Schema.{Sound, answer, schema_columns, view_body, view_tree, view_trees}
use Rattle.sql_names.proofs.ByPlaces.{IsKnown, query_law, rows_law}
use Rattle.sql_names.proofs.Depths.{columns_known, stable}
use Rattle.sql_names.proofs.Frames.{fits_none}
use Rattle.sql_names.proofs.Named.{Agrees, all_wide, names_bare, renamed_length}

pub body_found : (catalog : Declared) (name : List ℕ) (views : List s.ViewDecl) → body_of (map (view_tree catalog) views) name ≡ view_body catalog (view_named views name)
body_found catalog name [] = refl
body_found catalog name (view ∷ views) =
    elim (same_name view.name name) as (λ b. cond b (Some (query (schema_columns catalog) [] view.query)) (body_of (map (view_tree catalog) views) name) ≡ view_body catalog (cond b (Some view) (view_named views name))) [
      | true ↦ refl
      | false ↦ body_found catalog name views
    ]

-- what a name stands for holds these rows
pub record Holds (o : Option Relation) (rows : List (Row (List Cell))) : Type 0 where
  pub held : rows ≡ rows_of o
  pub wide : IsWide o

module _ (catalog : Declared) (tables : List Table) (sound : Sound catalog tables) where
  abbrev columns : Columns
  columns = schema_columns catalog

  abbrev known : ℕ → Known
  known depth = n.known_at catalog tables depth

  abbrev bags : ℕ → List ℕ → List (Row (List Cell))
  bags depth = trees.known_at (view_trees catalog) tables depth

  named_here : (depth : ℕ) → depth ≤ 16 → (name : List ℕ) → ShallowName catalog depth name → columns name ≡ names_of (known depth name)
  named_here depth low name h = stable catalog depth 16 low name h ∙ columns_known catalog tables depth name

  -- what holds these rows is known by them
  pub known_here : (depth : ℕ) → depth ≤ 16 → (name : List ℕ) → ShallowName catalog depth name → Holds (known depth name) (bags depth name) → IsKnown (known depth) columns (bags depth) name
  known_here depth low name h it = record { named = named_here depth low name h; held = it.held; wide = it.wide }

  pub even_body : (name : List ℕ) (view : s.ViewDecl) → view_named catalog.views name ≡ Some view → EvenQuery columns [] view.query
  even_body name view e = found_all (λ (v : s.ViewDecl). EvenQuery columns [] v.query) (λ (v : s.ViewDecl). same_name v.name name) catalog.views view sound.even e

  table_holds : (name : List ℕ) (o : Option TableDecl) → (o ≡ None → bag_named tables name ≡ None) → IsWide (relation_with o (bag_named tables name)) → Holds (relation_with o (bag_named tables name)) (rows_or_none (bag_named tables name))
  table_holds name None none wide = record { held = ap rows_or_none (none refl); wide = tt }
  table_holds name (Some table) none wide = record { held = refl; wide = wide }

  view_holds : (depth : ℕ) → depth ≤ 16 → (view : s.ViewDecl) → EvenQuery columns [] view.query → Each (IsKnown (known depth) columns (bags depth)) (t.in_query view.query)
      → Holds (viewed (known depth) (Some view)) (c.rows (bags depth) (query columns [] view.query) [])
  view_holds depth low view even each = record {
    held = sym (rows_law (known depth) columns (bags depth) view.query [] [] [] fits_none each even);
    wide = all_wide (length (names (bare columns) view.query [])) (renamed view.columns (names (known depth) view.query []))
        (renamed_length view.columns (names (known depth) view.query []) ∙ ap length (names_bare (known depth) columns view.query [] (each_more (IsKnown (known depth) columns (bags depth)) (Agrees (known depth) columns) (λ name is. is.named) (t.in_query view.query) each)))
        (n.rows (known depth) view.query []) (c.rows (bags depth) (query columns [] view.query) [])
        (query_law (known depth) columns (bags depth) view.query [] [] [] fits_none each even);
  }

  -- one more level of views
  step : (depth : ℕ) (name : List ℕ) (o : Option TableDecl) (p : Option s.ViewDecl)
      → ((table : TableDecl) → o ≡ Some table → p ≡ None) → (o ≡ None → bag_named tables name ≡ None) → IsWide (relation_with o (bag_named tables name))
      → ((view : s.ViewDecl) → p ≡ Some view → Holds (viewed (known depth) (Some view)) (c.rows (bags depth) (query columns [] view.query) []))
      → Holds (first_of (relation_with o (bag_named tables name)) (viewed (known depth) p)) (trees.viewed (bags depth) tables name (view_body catalog p))
  step depth name None None apart none wide below = record { held = ap rows_or_none (none refl); wide = tt }
  step depth name None (Some view) apart none wide below = below view refl
  step depth name (Some table) None apart none wide below = record { held = refl; wide = wide }
  step depth name (Some table) (Some view) apart none wide below = no_such (apart table refl)
    where
      no_such : {A : Type 0} → Some view ≡ None → A
      no_such h = absurd (cc)

  pub holds : (depth : ℕ) → depth ≤ 16 → (name : List ℕ) → ShallowName catalog depth name → Holds (known depth name) (bags depth name)
  holds zero low name h = table_holds name (table_named catalog.tables name) (sound.loaded name) (sound.wide name)
  holds (suc depth) low name h =
      subst (λ (o : Option Query). Holds (known (suc depth) name) (trees.viewed (bags depth) tables name o)) (sym (body_found catalog name catalog.views))
      (step depth name (table_named catalog.tables name) (view_named catalog.views name) (λ table e. sound.apart name table e) (sound.loaded name) (sound.wide name)
      (λ view e. view_holds depth (omega arith) view (even_body name view e)
      (each_more (ShallowName catalog depth) (IsKnown (known depth) columns (bags depth)) (λ other k. known_here depth (omega arith) other k (holds depth (omega arith) other k)) (t.in_query view.query)
      (nested catalog depth view (subst (Shallow catalog (suc depth)) e h)))))

  known_whole : (name : List ℕ) → IsKnown (known 16) columns (bags 16) name
  known_whole name =
      let h : ShallowName catalog 16 name = all_shallow catalog 16 sound.shallow name in
      known_here 16 (omega arith) name h (holds 16 (omega arith) name h)

  pub whole_rows : (q : s.Query) → EvenQuery columns [] q → n.rows (n.known_of catalog tables) q [] ≡ c.rows (trees.known_of (view_trees catalog) tables) (query columns [] q) []
  whole_rows q even = rows_law (known 16) columns (bags 16) q [] [] [] fits_none (each_all (IsKnown (known 16) columns (bags 16)) known_whole (t.in_query q)) even

  pub whole_answer : (text : s.QueryText) → EvenQuery columns [] text.query → n.answer (n.known_of catalog tables) text ≡ answer catalog tables text
  whole_answer text even =
      let same : names (known 16) text.query [] ≡ names (bare columns) text.query [] = names_bare (known 16) columns text.query [] (each_all (Agrees (known 16) columns) (columns_known catalog tables 16) (t.in_query text.query)) in
      ap₂ (λ (list : List (Option (List ℕ))) (rows : List (Row (List Cell))). answer_of list (map (order_key list) text.order) (verdict rows)) same (whole_rows text.query even)
