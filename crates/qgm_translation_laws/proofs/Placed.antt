-- The keys and the not-null columns of a table that isn't refused are columns of it.
use Rattle.std.proofs.Common.{◌≡◌, ◌∙◌, ◌≤◌, ◌<◌, ◌+◌, ◌&&◌, ◌||◌, ℕ, suc, Bool, true, false, not, cond, filter, map, List, [], ◌∷◌, length, Option, Some, None, refl, sym, ap₂, subst, arith}
use Rattle.std.specs.List.{list_all, list_any}
use Rattle.std.proofs.lemmas.List.{length-map}
use Rattle.std.proofs.lemmas.List.Folds.{list_all-append}
use Rattle.std.proofs.lemmas.Bool.{not-false}
use Rattle.sql_ast.specs.declared.schema.ColumnDecl.{ColumnDecl}
use Rattle.sql_ast.specs.declared.schema.TableDecl.{TableDecl}
use Rattle.sql_ast.specs.Declarations.{Declared, columns_of, names_of, table_named}
use Rattle.sql_ast.specs.Names.{contains, has_twins, same_name}
use Rattle.sql_catalog.specs.Catalog.{has_bad_key, is_bad_key, fault as refusal}
use Rattle.sql_catalog.specs.Descriptor.{describe_column, describe_key, place_of}
use Rattle.sql_catalog.specs.Keys.{keys_of}
use Rattle.sql_catalog.specs.declared.descriptor.ColumnDescriptor.{ColumnDescriptor}
use Rattle.sql_catalog.specs.declared.descriptor.KeyDescriptor.{KeyDescriptor}
use Rattle.sql_catalog.specs.declared.key.Key.{Key}
use Rattle.sql_catalog.proofs.EachLaws.{Each, found_each}
use Rattle.qgm_wellformed.specs.Columns.{places_fit, within}
use Rattle.qgm_core.specs.declared.kinds.BoxKind.TheVariants.{Base}
use Rattle.qgm_translation_laws.proofs.Accepted.{each_not, good_keys}
use Rattle.qgm_translation_laws.specs.Sources.{column_type, is_primary, is_unique, key_places, not_null_from, places_of_keys, stored_in}
use Rattle.list_laws.proofs.Booleans.{neither-left, neither-right}

within_place : (w i : ℕ) → i < w → within w (suc i) ≡ true
within_place w i h = grind (arith, h)

found_place : (names : List (List ℕ)) (name : List ℕ) → contains names name ≡ true → place_of names name < length names
found_place [] name h = absurd (cc)
found_place (n ∷ ns) name h =
    elim (same_name n name) as (λ b. (b || contains ns name) ≡ true → cond b 0 (place_of ns name + 1) < suc (length ns)) [
      | true ↦ (λ k. omega arith)
      | false ↦ (λ k. let l : place_of ns name < length ns = found_place ns name k in omega arith)
    ] h

-- these places are of so many columns
abbrev AllWithin : ℕ → List ℕ → Type 0
AllWithin w places = list_all (within w) places ≡ true

-- ---- keys

names_within : (names columns : List (List ℕ)) → list_any (λ n. not (contains names n)) columns ≡ false → AllWithin (length names) (map suc (map (place_of names) columns))
names_within names [] h = refl
names_within names (n ∷ ns) h =
    ap₂ ◌&&◌ (within_place (length names) (place_of names n) (found_place names n (not-false (contains names n) (neither-left (not (contains names n)) (list_any (λ m. not (contains names m)) ns) h))))
    (names_within names ns (neither-right (not (contains names n)) (list_any (λ m. not (contains names m)) ns) h))

keys_within : (names : List (List ℕ)) (keys : List Key) → Each (λ k. is_bad_key names k ≡ false) keys → Each (λ k. AllWithin (length names) (key_places k)) (map (describe_key names) keys)
keys_within names [] h = tt
keys_within names (k ∷ ks) h = (names_within names k.columns (neither-left (list_any (λ n. not (contains names n)) k.columns) (has_twins k.columns) h.0), keys_within names ks h.1)

filtered : (w : ℕ) (p : KeyDescriptor → Bool) (keys : List KeyDescriptor) → Each (λ k. AllWithin w (key_places k)) keys → list_all (λ key. list_all (within w) key) (map key_places (filter p keys)) ≡ true
filtered w p [] h = refl
filtered w p (k ∷ ks) h =
    elim (p k) as (λ b. list_all (λ key. list_all (within w) key) (map key_places (cond b (k ∷ filter p ks) (filter p ks))) ≡ true) [
      | true ↦ ap₂ ◌&&◌ h.0 (filtered w p ks h.1)
      | false ↦ filtered w p ks h.1
    ]

all_keys : (w : ℕ) (keys : List KeyDescriptor) → Each (λ k. AllWithin w (key_places k)) keys → list_all (λ key. list_all (within w) key) (places_of_keys keys) ≡ true
all_keys w keys h =
    list_all-append (λ key. list_all (within w) key) (map key_places (filter is_primary keys)) (map key_places (filter is_unique keys))
    ∙ ap₂ ◌&&◌ (filtered w is_primary keys h) (filtered w is_unique keys h)

-- ---- not-null columns

marks_within : (w i : ℕ) (cs : List ColumnDescriptor) → i + length cs ≤ w → AllWithin w (not_null_from (suc i) cs)
marks_within w i [] h = refl
marks_within w i (c ∷ cs) h =
    elim c.not_null as (λ b. AllWithin w (cond b (suc i ∷ not_null_from (suc (suc i)) cs) (not_null_from (suc (suc i)) cs))) [
      | true ↦ ap₂ ◌&&◌ (within_place w i (omega arith)) (marks_within w (suc i) cs (omega arith))
      | false ↦ marks_within w (suc i) cs (omega arith)
    ]

-- ---- tables

table_placed : (name : List ℕ) (table : TableDecl) → has_bad_key table ≡ false → places_fit (Base (stored_in name (Some table))) ≡ true
table_placed name table h =
    let cs = columns_of table.elements in
    let keys = keys_of table.elements in
    let described = map (describe_column keys) cs in
    let long : length (map column_type described) ≡ length described = length-map described column_type in
    let named : length (names_of cs) ≡ length (map column_type described) = length-map cs (λ (c : ColumnDecl). c.name) ∙ sym (length-map cs (describe_column keys)) ∙ sym long in
    ap₂ ◌&&◌ (marks_within (length (map column_type described)) 0 described (omega arith))
    (subst (λ (w : ℕ). list_all (λ key. list_all (within w) key) (places_of_keys (map (describe_key (names_of cs)) keys)) ≡ true) named
    (all_keys (length (names_of cs)) (map (describe_key (names_of cs)) keys)
    (keys_within (names_of cs) keys (each_not (is_bad_key (names_of cs)) keys (neither-left (list_any (is_bad_key (names_of cs)) keys) _ h)))))

pub stored_placed : (catalog : Declared) → refusal catalog ≡ None → (name : List ℕ) → places_fit (Base (stored_in name (table_named catalog.tables name))) ≡ true
stored_placed catalog accepted name = at (table_named catalog.tables name) refl
  where
    at : (o : Option TableDecl) → table_named catalog.tables name ≡ o → places_fit (Base (stored_in name o)) ≡ true
    at None e = refl
    at (Some table) e =
        table_placed name table
        (found_each (λ (t : TableDecl). has_bad_key t ≡ false) (λ (t : TableDecl). same_name t.name name) catalog.tables table (good_keys catalog accepted) e)
