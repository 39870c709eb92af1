-- The columns of declared tables and views, found among them as ranges.
use Rattle.std.proofs.Common.{◌≡◌, ◌<◌, ◌+◌, ◌-◌, ℕ, zero, suc, Bool, true, false, cond, List, [], ◌∷◌, ◌++◌, map, Option, Some, None, ◌&&◌, drop, take, refl, ap, ap₂, sym, ◌∙◌, arith}
use Rattle.std.proofs.lemmas.List.{map-append, take-append-drop}
use mathlib.Core.Path.{fun_ext}
use Rattle.sql_ast.specs.declared.schema.TableDecl.{TableDecl}
use Rattle.sql_ast.specs.Syntax as s
use Rattle.sql_ast.specs.Declarations.{Declared, table_named, view_named}
use Rattle.sql_ast.specs.Names.{same_name}
use Rattle.sql_meaning.specs.Scopes.{Shape, columns_in, first_of}
use Rattle.sql_names.specs.Known.{ranges_over, table_range, view_range}
use Rattle.sql_names.specs.Resolved.{Columns}
use Rattle.sql_names.specs.Schema.{columns_at, schema_columns, table_columns, view_columns}
use Rattle.std.specs.Bool.{Decides}
use Rattle.std.specs.Cmp.Lexicographic.{bytes_decides, pointwise, pointwise_decides}
use Rattle.std.specs.Option.{option_eq}
use Rattle.sql_names.specs.Ranges.{same_range, same_ranges}
use Rattle.sql_names.specs.Shapes.{columns_among, shape}
use Rattle.sql_names.specs.declared.range.Range.{Range}

tables_first : (tables : List TableDecl) (rest : Shape) (name : List ℕ) → columns_in name (map table_range tables ++ rest) ≡ first_of (table_columns (table_named tables name)) (columns_in name rest)
tables_first [] rest name = refl
tables_first (table ∷ tables) rest name =
    elim (same_name table.name name) as (λ b. cond b (table_columns (Some table)) (columns_in name (map table_range tables ++ rest)) ≡ first_of (table_columns (cond b (Some table) (table_named tables name))) (columns_in name rest)) [
      | true ↦ refl
      | false ↦ tables_first tables rest name
    ]

tables_found : (tables : List TableDecl) (name : List ℕ) → columns_in name (map table_range tables) ≡ table_columns (table_named tables name)
tables_found [] name = refl
tables_found (table ∷ tables) name =
    elim (same_name table.name name) as (λ b. cond b (table_columns (Some table)) (columns_in name (map table_range tables)) ≡ table_columns (cond b (Some table) (table_named tables name))) [
      | true ↦ refl
      | false ↦ tables_found tables name
    ]

views_found : (columns : Columns) (views : List s.ViewDecl) (name : List ℕ) → columns_in name (map (view_range columns) views) ≡ view_columns columns (view_named views name)
views_found columns [] name = refl
views_found columns (view ∷ views) name =
    elim (same_name view.name name) as (λ b. cond b (view_columns columns (Some view)) (columns_in name (map (view_range columns) views)) ≡ view_columns columns (cond b (Some view) (view_named views name))) [
      | true ↦ refl
      | false ↦ views_found columns views name
    ]

-- tables alone are what is there where views nest no deeper than 0
pub columns_first : (catalog : Declared) (known : List Range) → shape known ≡ map table_range catalog.tables → columns_among known ≡ columns_at catalog 0
columns_first catalog known h = fun_ext (λ (name : List ℕ). ap (columns_in name) h ∙ tables_found catalog.tables name)

-- over the columns at a depth stand those at the next
pub columns_next : (catalog : Declared) (depth : ℕ) (known next : List Range) → columns_among known ≡ columns_at catalog depth → shape next ≡ ranges_over (columns_among known) catalog → columns_among next ≡ columns_at catalog (suc depth)
columns_next catalog depth known next h e =
    fun_ext (λ (name : List ℕ).
    ap (columns_in name) e
    ∙ tables_first catalog.tables (map (view_range (columns_among known)) catalog.views) name
    ∙ ap (first_of (table_columns (table_named catalog.tables name))) (views_found (columns_among known) catalog.views name ∙ ap (λ (columns : Columns). view_columns columns (view_named catalog.views name)) h))

columns_decide : (a b : Option (List ℕ)) → Decides (option_eq same_name a b) (a ≡ b)
columns_decide None None = (λ h. refl, λ h. refl)
columns_decide None (Some b) = (λ h. absurd (cc), λ h. absurd (cc))
columns_decide (Some a) None = (λ h. absurd (cc), λ h. absurd (cc))
columns_decide (Some a) (Some b) = (λ h. ap Some ((bytes_decides a b).0 h), λ h. (bytes_decides a b).1 (cc))

both : (p q : Bool) → (p && q) ≡ true → (p ≡ true) × (q ≡ true)
both true true h = (refl, refl)
both true false h = absurd (cc)
both false q h = absurd (cc)

range_decides : (a b : List ℕ × List (Option (List ℕ))) → Decides (same_range a b) (a ≡ b)
range_decides a b = (equal, λ h. rw h (ap₂ (λ (p q : Bool). p && q) ((bytes_decides b.0 b.0).1 refl) ((pointwise_decides columns_decide b.1 b.1).1 refl)))
  where
    equal : same_range a b ≡ true → a ≡ b
    equal h =
        let t = both (same_name a.0 b.0) (pointwise (option_eq same_name) a.1 b.1) h in
        ap₂ (λ (name : List ℕ) (columns : List (Option (List ℕ))). (name, columns)) ((bytes_decides a.0 b.0).0 t.0) ((pointwise_decides columns_decide a.1 b.1).0 t.1)

shape_drop : (n : ℕ) (ranges : List Range) → shape (drop n ranges) ≡ drop n (shape ranges)
shape_drop zero ranges = refl
shape_drop (suc n) [] = refl
shape_drop (suc n) (range ∷ ranges) = shape_drop n ranges

shape_take : (n : ℕ) (ranges : List Range) → shape (take n ranges) ≡ take n (shape ranges)
shape_take zero ranges = refl
shape_take (suc n) [] = refl
shape_take (suc n) (range ∷ ranges) = ap (λ (rest : Shape). (range.name, range.columns) ∷ rest) (shape_take n ranges)

-- the first of some ranges, and then others
pub tables_then : (n : ℕ) (known views kept all : List Range) → kept ≡ take n known → all ≡ kept ++ views → shape all ≡ take n (shape known) ++ shape views
tables_then n known views kept all first whole =
    ap shape (whole ∙ ap (λ (ranges : List Range). ranges ++ views) first)
    ∙ map-append (λ (range : Range). (range.name, range.columns)) (take n known) views
    ∙ ap (λ (ranges : Shape). ranges ++ shape views) (shape_take n known)

module _ (catalog : Declared) where
  over : (m n : ℕ) → columns_at catalog m ≡ columns_at catalog n → columns_at catalog (suc m) ≡ columns_at catalog (suc n)
  over m n h = fun_ext (λ (name : List ℕ). ap (λ (columns : Columns). first_of (table_columns (table_named catalog.tables name)) (view_columns columns (view_named catalog.views name))) h)

  -- once a depth adds nothing, no greater one does
  stays : (depth : ℕ) → columns_at catalog (suc depth) ≡ columns_at catalog depth → (n m : ℕ) → m ≡ n + depth → columns_at catalog m ≡ columns_at catalog depth
  stays depth fixed zero m e = ap (λ (k : ℕ). columns_at catalog k) (omega (arith, e))
  stays depth fixed (suc n) zero e = absurd (omega (arith, e))
  stays depth fixed (suc n) (suc m) e = over m depth (stays depth fixed n m (omega (arith, e))) ∙ fixed

  -- a round that changes nothing is the last that is needed
  pub settled : (depth n : ℕ) (known views : List Range) → depth < 16 → columns_among known ≡ columns_at catalog depth → take n (shape known) ≡ map table_range catalog.tables
      → shape views ≡ map (view_range (columns_among known)) catalog.views → same_ranges (shape (drop n known)) (shape views) ≡ true → columns_among known ≡ schema_columns catalog
  settled depth n known views low h tables e alike =
      let same : shape (drop n known) ≡ shape views = (pointwise_decides range_decides (shape (drop n known)) (shape views)).0 alike in
      let over_these : shape known ≡ ranges_over (columns_among known) catalog = sym (take-append-drop n (shape known)) ∙ ap₂ (λ (xs ys : Shape). xs ++ ys) tables (sym (shape_drop n known) ∙ same ∙ e) in
      let fixed : columns_at catalog (suc depth) ≡ columns_at catalog depth = sym (columns_next catalog depth known known h over_these) ∙ h in
      h ∙ sym (stays depth fixed (16 - depth) 16 (omega (arith, low)))
