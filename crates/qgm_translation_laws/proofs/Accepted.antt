-- A schema that isn't refused: its tables have columns, and their keys name columns of theirs.
use Rattle.std.proofs.Common.{◌≡◌, ◌∙◌, ◌==◌, ℕ, Bool, true, false, cond, List, [], ◌∷◌, length, Option, Some, None, refl, sym, ap}
use Rattle.std.specs.List.{list_any}
use Rattle.sql_ast.specs.declared.schema.ColumnDecl.{ColumnDecl}
use Rattle.sql_ast.specs.declared.schema.TableDecl.{TableDecl}
use Rattle.sql_ast.specs.Declarations.{Declared, columns_of, known_names}
use Rattle.sql_catalog.specs.Catalog.{has_bad_key, has_duplicate, is_over_limits, passes_limits, reads_unknown, fault as refusal}
use Rattle.sql_catalog.specs.Nesting.{is_recursive, nests_over, readers_of}
use Rattle.sql_catalog.proofs.EachLaws.{Each, each_more}
use Rattle.sql_catalog.proofs.FaultLaws.{but_none, not_given}
use Rattle.sql_faults.specs.Scopes.{is_empty}
use Rattle.list_laws.proofs.Booleans.{neither-left, neither-right}

pub each_not : {A : Type 0} (p : A → Bool) (xs : List A) → list_any p xs ≡ false → Each (λ x. p x ≡ false) xs
each_not p [] h = tt
each_not p (x ∷ xs) h = (neither-left (p x) (list_any p xs) h, each_not p xs (neither-right (p x) (list_any p xs) h))

module _ (catalog : Declared) (accepted : refusal catalog ≡ None) where
  abbrev after_names : Option ℕ
  after_names = cond (list_any has_bad_key catalog.tables) (Some 9) (cond (passes_limits catalog.tables (readers_of catalog.views)) (Some 10) None)

  none_left : after_names ≡ None
  none_left =
      but_none (has_duplicate catalog) 8 after_names
      (but_none (is_recursive (readers_of catalog.views)) 7 (cond (has_duplicate catalog) (Some 8) after_names)
      (but_none (reads_unknown (known_names catalog) (readers_of catalog.views)) 6 (cond (is_recursive (readers_of catalog.views)) (Some 7) (cond (has_duplicate catalog) (Some 8) after_names)) accepted))

  pub good_keys : Each (λ (table : TableDecl). has_bad_key table ≡ false) catalog.tables
  good_keys = each_not has_bad_key catalog.tables (not_given (list_any has_bad_key catalog.tables) 9 (cond (passes_limits catalog.tables (readers_of catalog.views)) (Some 10) None) none_left)

  within_limits : passes_limits catalog.tables (readers_of catalog.views) ≡ false
  within_limits =
      not_given (passes_limits catalog.tables (readers_of catalog.views)) 10 None
      (but_none (list_any has_bad_key catalog.tables) 9 (cond (passes_limits catalog.tables (readers_of catalog.views)) (Some 10) None) none_left)

  pub each_within : Each (λ (table : TableDecl). is_over_limits table ≡ false) catalog.tables
  each_within =
      each_not is_over_limits catalog.tables
      (neither-left (list_any is_over_limits catalog.tables) (list_any (nests_over (readers_of catalog.views) 16) (readers_of catalog.views)) (neither-right _ _ within_limits))

clash : {A : Type 0} → true ≡ false → A
clash h = absurd (cc)

-- a table within the limits has a column
pub within_full : (table : TableDecl) → is_over_limits table ≡ false → is_empty (columns_of table.elements) ≡ false
within_full table h = at (columns_of table.elements) refl
  where
    at : (cs : List ColumnDecl) → columns_of table.elements ≡ cs → is_empty cs ≡ false
    at [] e = clash (sym (ap (λ (cs : List ColumnDecl). length cs == 0) e) ∙ neither-left _ _ (neither-left _ _ h))
    at (c ∷ cs) e = refl

pub tables_full : (catalog : Declared) → refusal catalog ≡ None → Each (λ (table : TableDecl). is_empty (columns_of table.elements) ≡ false) catalog.tables
tables_full catalog accepted =
    each_more (λ (table : TableDecl). is_over_limits table ≡ false) (λ (table : TableDecl). is_empty (columns_of table.elements) ≡ false) within_full catalog.tables (each_within catalog accepted)
