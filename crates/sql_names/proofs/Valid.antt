-- A schema that isn't refused: its names mean one thing each, and its views end.
use Rattle.std.proofs.Common.{◌≡◌, ℕ, Bool, true, false, cond, ◌||◌, List, [], ◌∷◌, ◌++◌, Option, Some, None, refl, ap, sym, ◌∙◌}
use Rattle.std.specs.Prelude.{All}
use Rattle.std.specs.List.{list_any}
use Rattle.std.specs.Cmp.Lexicographic.{same_text}
use Rattle.std.proofs.lemmas.Bool.{or_parts}
use Rattle.std.proofs.lemmas.List.Folds.{list_any-append}
use Rattle.row_bag.specs.Tables.{bag_named}
use Rattle.row_bag.specs.declared.tables.Table.{Table}
use Rattle.sql_ast.specs.declared.schema.TableDecl.{TableDecl}
use Rattle.sql_ast.specs.Syntax as s
use Rattle.sql_ast.specs.Declarations.{Declared, known_names, table_named, table_names, view_named, view_names}
use Rattle.sql_catalog.specs.Catalog.{fault, has_bad_key, has_duplicate, has_twin_columns, has_twin_list, is_over_limits, passes_limits, reads_unknown}
use Rattle.sql_ast.specs.Names.{contains, has_twins, same_name}
use Rattle.sql_catalog.specs.Nesting.{is_recursive, nests_over, readers_of}
use Rattle.sql_catalog.proofs.EachLaws.{found_any, found_passes}
use Rattle.sql_catalog.proofs.FaultLaws.{but_none, not_given}
use Rattle.sql_meaning.specs.Meaning.{relation_of}
use Rattle.sql_names.specs.Agreed.{IsWide}
use Rattle.sql_names.specs.Even.{EvenQuery}
use Rattle.sql_names.specs.Schema.{Sound, schema_columns}

-- of two lists without twins no name stands in both
apart_step : (x : List ℕ) (xs ys : List (List ℕ)) → has_twins ((x ∷ xs) ++ ys) ≡ false → (name : List ℕ) → contains (x ∷ xs) name ≡ true → (contains xs name ≡ true → contains ys name ≡ false)
    → (b : Bool) → same_name x name ≡ b → contains ys name ≡ false
apart_step x xs ys none name h later true e =
    let called : x ≡ name = same_text x name (sym e) in
    ap (contains ys) (sym called) ∙ (or_parts (contains xs x) (contains ys x) (sym (list_any-append (λ n. same_name n x) xs ys) ∙ (or_parts (contains (xs ++ ys) x) (has_twins (xs ++ ys)) none).0)).1
apart_step x xs ys none name h later false e = later (ap (λ (b : Bool). b || contains xs name) (sym e) ∙ h)

twins_apart : (xs ys : List (List ℕ)) → has_twins (xs ++ ys) ≡ false → (name : List ℕ) → contains xs name ≡ true → contains ys name ≡ false
twins_apart [] ys none name h = absurd (cc)
twins_apart (x ∷ xs) ys none name h =
    apart_step x xs ys none name h (λ k. twins_apart xs ys (or_parts (contains (xs ++ ys) x) (has_twins (xs ++ ys)) none).1 name k) (same_name x name) refl

true_or_false : {A : Type 0} (b : Bool) → b ≡ true → b ≡ false → A
true_or_false b h k = absurd (cc)

module _ (catalog : Declared) (valid : fault catalog ≡ None) where
  abbrev after_recursion : Option ℕ
  after_recursion =
      cond (has_duplicate catalog) (Some 8) (cond (list_any has_bad_key catalog.tables) (Some 9) (cond (passes_limits catalog.tables (readers_of catalog.views)) (Some 10) None))

  none_left : after_recursion ≡ None
  none_left =
      but_none (is_recursive (readers_of catalog.views)) 7 after_recursion
      (but_none (reads_unknown (known_names catalog) (readers_of catalog.views)) 6 (cond (is_recursive (readers_of catalog.views)) (Some 7) after_recursion) valid)

  no_duplicate : has_duplicate catalog ≡ false
  no_duplicate = not_given (has_duplicate catalog) 8 (cond (list_any has_bad_key catalog.tables) (Some 9) (cond (passes_limits catalog.tables (readers_of catalog.views)) (Some 10) None)) none_left

  within_limits : passes_limits catalog.tables (readers_of catalog.views) ≡ false
  within_limits =
      not_given (passes_limits catalog.tables (readers_of catalog.views)) 10 None
      (but_none (list_any has_bad_key catalog.tables) 9 (cond (passes_limits catalog.tables (readers_of catalog.views)) (Some 10) None)
      (but_none (has_duplicate catalog) 8 (cond (list_any has_bad_key catalog.tables) (Some 9) (cond (passes_limits catalog.tables (readers_of catalog.views)) (Some 10) None)) none_left))

  no_twins : has_twins (table_names catalog.tables ++ view_names catalog.views) ≡ false
  no_twins = (or_parts (has_twins (known_names catalog)) (list_any has_twin_columns catalog.tables || has_twin_list catalog.views) no_duplicate).0

  pub shallow : list_any (nests_over (readers_of catalog.views) 16) (readers_of catalog.views) ≡ false
  shallow = (or_parts (list_any is_over_limits catalog.tables) (list_any (nests_over (readers_of catalog.views) 16) (readers_of catalog.views)) (or_parts _ _ within_limits).1).1

  table_there : (name : List ℕ) (table : TableDecl) → table_named catalog.tables name ≡ Some table → (b : Bool) → contains (table_names catalog.tables) name ≡ b → b ≡ true
  table_there name table h true e = refl
  table_there name table h false e =
      true_or_false (same_name table.name name) (found_passes (λ (t : TableDecl). same_name t.name name) catalog.tables table h)
      (found_any (λ n. same_name n name) (λ (t : TableDecl). t.name) (λ (t : TableDecl). same_name t.name name) catalog.tables table h e)

  pub apart : (name : List ℕ) (table : TableDecl) → table_named catalog.tables name ≡ Some table → view_named catalog.views name ≡ None
  apart name table h =
      at (twins_apart (table_names catalog.tables) (view_names catalog.views) no_twins name (table_there name table h (contains (table_names catalog.tables) name) refl)) (view_named catalog.views name) refl
    where
      at : contains (view_names catalog.views) name ≡ false → (o : Option s.ViewDecl) → view_named catalog.views name ≡ o → o ≡ None
      at none None e = refl
      at none (Some view) e =
          true_or_false (same_name view.name name) (found_passes (λ (v : s.ViewDecl). same_name v.name name) catalog.views view e)
          (found_any (λ n. same_name n name) (λ (v : s.ViewDecl). v.name) (λ (v : s.ViewDecl). same_name v.name name) catalog.views view e none)

  pub is_sound : (tables : List Table) → ((name : List ℕ) → table_named catalog.tables name ≡ None → bag_named tables name ≡ None) → ((name : List ℕ) → IsWide (relation_of catalog tables name))
      → All (λ (view : s.ViewDecl). EvenQuery (schema_columns catalog) [] view.query) catalog.views → Sound catalog tables
  is_sound tables loaded wide even = record { apart = apart; shallow = shallow; loaded = loaded; wide = wide; even = even }
