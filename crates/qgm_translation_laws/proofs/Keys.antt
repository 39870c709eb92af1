-- A GROUP BY without faults names a column of its block's FROM.
use Rattle.std.proofs.Common.{◌≡◌, ◌∙◌, ◌&&◌, ◌||◌, ◌⊎◌, ℕ, suc, Bool, true, false, cond, List, [], ◌∷◌, ◌++◌, map, Option, Some, None, refl, sym, ap, subst, inl, inr}
use Rattle.std.specs.Cmp.Lexicographic.{nat_list_eq_equiv}
use Rattle.std.specs.List.{flat_map, list_any}
use Rattle.std.proofs.lemmas.Bool.{or_left}
use Rattle.sql_ast.specs.declared.name.Column.{Column}
use Rattle.sql_ast.specs.Names.{same_name}
use Rattle.sql_meaning.specs.Groups.{range_means}
use Rattle.sql_meaning.specs.Scopes.{Shape, is_named}
use Rattle.sql_names.specs.Places.{columns_in, grouping_places, means, places_meant}
use Rattle.sql_faults.proofs.Orders.{both_none}
use Rattle.sql_faults.specs.Faults.{grouping_fault}
use Rattle.sql_faults.specs.Laws.{column_names, range_shapes}
use Rattle.sql_faults.specs.Rules.{one_of}
use Rattle.sql_faults.specs.Scopes.{Scopes, columns_by, columns_named, columns_of_scope, in_range, is_empty, is_meant, is_own, meant, named_in, plain, range_in, scope_of}
use Rattle.sql_faults.specs.declared.column.TypedColumn.{TypedColumn}
use Rattle.sql_faults.specs.declared.column.TypedRange.{TypedRange}
use Rattle.qgm_translation.specs.Shown.{HasKey}
use Rattle.qgm_translation_laws.proofs.Tests.{any_left, any_right, is_so}

-- ---- lists that aren't empty

empty_both : {A : Type 0} (xs ys : List A) → is_empty (xs ++ ys) ≡ false → (is_empty xs ≡ false) ⊎ (is_empty ys ≡ false)
empty_both [] ys h = inr h
empty_both (x ∷ xs) ys h = inl refl

one_there : (cs : List TypedColumn) → one_of cs ≡ 0 → is_empty cs ≡ false
one_there [] h = absurd (cc)
one_there (c ∷ cs) h = refl

-- ---- places

still_there : (ns : List ℕ) → is_empty ns ≡ false → is_empty (map suc ns) ≡ false
still_there [] h = h
still_there (n ∷ ns) h = refl

places_there : (c : Column) (columns : List (List ℕ × Option (List ℕ))) → list_any (means c) columns ≡ true → is_empty (places_meant c columns) ≡ false
places_there c [] h = absurd (cc)
places_there c (column ∷ columns) h =
    elim (means c column) as (λ b. (b || list_any (means c) columns) ≡ true → is_empty (cond b (0 ∷ []) [] ++ map suc (places_meant c columns)) ≡ false) [
      | true ↦ (λ k. refl)
      | false ↦ (λ k. still_there (places_meant c columns) (places_there c columns k))
    ] h

key_first : (ns ms : List ℕ) → is_empty ns ≡ false → HasKey (Some (ns ++ ms))
key_first [] ms h = absurd (cc)
key_first (n ∷ ns) ms h = tt

-- ---- columns that a name means

-- those of a range, by its name and theirs
abbrev listed : TypedRange → List (List ℕ × Option (List ℕ))
listed r = map (λ (column : Option (List ℕ)). (r.name, column)) (column_names r.columns)

abbrev all_listed : List TypedRange → List (List ℕ × Option (List ℕ))
all_listed rs = columns_in (range_shapes rs)

in_columns : (c : Column) (range : List ℕ) (cs : List TypedColumn) → range_means c.range range ≡ true → is_empty (columns_named c.name cs) ≡ false
    → list_any (means c) (map (λ (column : Option (List ℕ)). (range, column)) (column_names cs)) ≡ true
in_columns c range [] e h = absurd (cc)
in_columns c range (x ∷ cs) e h =
    elim (is_named c.name x.name) as (λ b. is_empty (cond b (x ∷ columns_named c.name cs) (columns_named c.name cs)) ≡ false
    → ((b && range_means c.range range) || list_any (means c) (map (λ (column : Option (List ℕ)). (range, column)) (column_names cs))) ≡ true) [
      | true ↦ (λ k. or_left (range_means c.range range) (list_any (means c) (map (λ (column : Option (List ℕ)). (range, column)) (column_names cs))) e)
      | false ↦ (λ k. in_columns c range cs e k)
    ] h

-- `c`
any_range : (c : Column) → c.range ≡ None → (rs : List TypedRange) → is_empty (named_in c.name rs) ≡ false → list_any (means c) (all_listed rs) ≡ true
any_range c e [] h = absurd (cc)
any_range c e (r ∷ rs) h = elim (empty_both (columns_named c.name r.columns) (named_in c.name rs) h) [
  | inl k ↦ any_left (means c) (listed r) (all_listed rs) (in_columns c r.name r.columns (ap (λ (o : Option (List ℕ)). range_means o r.name) e) k)
  | inr k ↦ any_right (means c) (listed r) (all_listed rs) (any_range c e rs k)
]

-- `q.c`
own_range : (c : Column) (q : List ℕ) → c.range ≡ Some q → (rs : List TypedRange) → is_empty (in_range c.name (range_in q rs)) ≡ false → list_any (means c) (all_listed rs) ≡ true
own_range c q e [] h = absurd (cc)
own_range c q e (r ∷ rs) h =
    elim (same_name r.name q) as (λ b. same_name r.name q ≡ b → is_empty (in_range c.name (cond b (Some r) (range_in q rs))) ≡ false → list_any (means c) (all_listed (r ∷ rs)) ≡ true) [
      | true ↦ (λ k there. any_left (means c) (listed r) (all_listed rs) (in_columns c r.name r.columns (ap (λ (o : Option (List ℕ)). range_means o r.name) e ∙ (nat_list_eq_equiv.symm q r.name ∙ k)) there))
      | false ↦ (λ k there. any_right (means c) (listed r) (all_listed rs) (own_range c q e rs there))
    ] refl h

some_meant : (c : Column) (rs : List TypedRange) (o : Option (List ℕ)) → c.range ≡ o → is_empty (columns_by o c.name rs) ≡ false → list_any (means c) (all_listed rs) ≡ true
some_meant c rs None e h = any_range c e rs h
some_meant c rs (Some q) e h = own_range c q e rs h

-- ---- GROUP BY

own_there : (c : Column) (rs : List TypedRange) (scopes : Scopes) → one_of (meant c (plain rs ∷ scopes)) ≡ 0 → is_meant c rs ≡ true → is_empty (columns_by c.range c.name rs) ≡ false
own_there c rs scopes h k = one_there (columns_by c.range c.name rs) (subst (λ (b : Bool). one_of (columns_of_scope c (cond b (Some (plain rs)) (scope_of c scopes))) ≡ 0) k h)

pub has_key : (group : List Column) (rs : List TypedRange) (scopes : Scopes) (ranges : Shape) → ranges ≡ range_shapes rs → grouping_fault group (plain rs ∷ scopes) ≡ 0 → HasKey (grouping_places group ranges)
has_key [] rs scopes ranges e h = tt
has_key (c ∷ by) rs scopes ranges e h =
    subst (λ (z : Shape). HasKey (grouping_places (c ∷ by) z)) (sym e)
    (key_first (places_meant c (all_listed rs)) (flat_map (λ (d : Column). places_meant d (all_listed rs)) by)
    (places_there c (all_listed rs) (some_meant c rs c.range refl (own_there c rs scopes (both_none _ _ (both_none _ _ h).0).0 (is_so (is_own c (plain rs ∷ scopes)) 11 (both_none _ _ (both_none _ _ h).0).1)))))
