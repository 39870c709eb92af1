-- What is noted of names, as columns are added.
use Rattle.std.proofs.Common.{◌≡◌, ◌∙◌, ℕ, Bool, true, false, cond, List, [], ◌∷◌, ◌++◌, Option, Some, None, refl, sym, ap, ap₂}
use Rattle.std.proofs.lemmas.Grind.{common_steps, flat_map-append}
use Rattle.std.specs.Cmp.Lexicographic.{nat_list_eq_equiv}
use Rattle.std.specs.Map.{lookup}
use Rattle.std.specs.Option.{unwrap_or}
use Rattle.sql_ast.specs.Names.{same_name}
use Rattle.sql_meaning.specs.Scopes.{is_named}
use Rattle.sql_value.specs.declared.order_key.SqlType.{SqlType}
use Rattle.sql_faults.proofs.Finds.{found_append, joined_joins, joined_nothing}
use Rattle.sql_faults.specs.Columns.{all_columns}
use Rattle.sql_faults.specs.Found.{Noted, NotedName, Tells, found, joined, told_of}
use Rattle.sql_faults.specs.Scopes.{columns_named, has_name, named_in}
use Rattle.sql_faults.specs.declared.column.TypedColumn.{TypedColumn}
use Rattle.sql_faults.specs.declared.column.TypedRange.{TypedRange}
use Rattle.sql_faults.specs.declared.found.Found.{Found}
use Rattle.sql_faults.specs.declared.found.Found.TheVariants.{Nothing, One, Several}

abbrev Finds : Type 0
Finds = List (List ℕ × Found)

-- ---- one name

-- equal names have the same entry
same_entry : (name other : List ℕ) → same_name name other ≡ true → (finds : Finds) → lookup (same_name name) finds ≡ lookup (same_name other) finds
same_entry name other same [] = refl
same_entry name other same (e ∷ es) = ap₂ (λ (b : Bool) (o : Option Found). cond b (Some e.1) o) (nat_list_eq_equiv.congr name other e.0 same) (same_entry name other same es)

pub told_same : (finds : Finds) (name other : List ℕ) → same_name name other ≡ true → told_of finds other ≡ told_of finds name
told_same finds name other same = ap (λ (o : Option Found). unwrap_or o Nothing) (sym (same_entry name other same finds))

-- what is noted of a name that equals the one noted last
by_name : (finds : Finds) (name other : List ℕ) (sort : Option SqlType) (next : Found) → next ≡ joined (told_of finds name) (One sort)
    → cond (same_name name other) next (told_of finds other) ≡ cond (same_name name other) (joined (told_of finds other) (One sort)) (told_of finds other)
by_name finds name other sort next e = at (same_name name other) (told_same finds name other)
  where
    at : (b : Bool) → (b ≡ true → told_of finds other ≡ told_of finds name) → cond b next (told_of finds other) ≡ cond b (joined (told_of finds other) (One sort)) (told_of finds other)
    at true same = e ∙ ap (λ (f : Found). joined f (One sort)) (sym (same refl))
    at false same = refl

pub note_first : (finds : Finds) (name other : List ℕ) (sort : Option SqlType) → told_of finds name ≡ Nothing
    → cond (same_name name other) (One sort) (told_of finds other) ≡ cond (same_name name other) (joined (told_of finds other) (One sort)) (told_of finds other)
note_first finds name other sort e = by_name finds name other sort (One sort) (ap (λ (f : Found). joined f (One sort)) (sym e))

pub note_second : (finds : Finds) (name other : List ℕ) (sort first : Option SqlType) → told_of finds name ≡ One first
    → cond (same_name name other) (Several first) (told_of finds other) ≡ cond (same_name name other) (joined (told_of finds other) (One sort)) (told_of finds other)
note_second finds name other sort first e = by_name finds name other sort (Several first) (ap (λ (f : Found). joined f (One sort)) (sym e))

-- a third column of a name changes nothing
pub note_third : (finds : Finds) (name other : List ℕ) (sort first : Option SqlType) → told_of finds name ≡ Several first
    → told_of finds other ≡ cond (same_name name other) (joined (told_of finds other) (One sort)) (told_of finds other)
note_third finds name other sort first e = at (same_name name other) (told_same finds name other)
  where
    at : (b : Bool) → (b ≡ true → told_of finds other ≡ told_of finds name) → told_of finds other ≡ cond b (joined (told_of finds other) (One sort)) (told_of finds other)
    at true same = same refl ∙ e ∙ ap (λ (f : Found). joined f (One sort)) (sym (same refl ∙ e))
    at false same = refl

pub ruleset note_steps = (common_steps, note_first, note_second, note_third)

-- ---- one column

pub note_named : (old new : Finds) (c : TypedColumn) (name : List ℕ) → c.name ≡ Some name → NotedName old name c.sort new → Noted old (c ∷ []) new
note_named old new c name is h other = h other ∙ at (same_name name other) ∙ ap (λ (b : Bool). joined (told_of old other) (found (cond b (c ∷ []) []))) (sym (ap (is_named other) is))
  where
    at : (b : Bool) → cond b (joined (told_of old other) (One c.sort)) (told_of old other) ≡ joined (told_of old other) (found (cond b (c ∷ []) []))
    at true = refl
    at false = sym (joined_nothing (told_of old other))

pub note_unnamed : (old : Finds) (c : TypedColumn) → c.name ≡ None → Noted old (c ∷ []) old
note_unnamed old c is other = sym (joined_nothing (told_of old other)) ∙ ap (λ (b : Bool). joined (told_of old other) (found (cond b (c ∷ []) []))) (sym (ap (is_named other) is))

pub ruleset column_steps = (common_steps, note_named, note_unnamed)

-- ---- many columns

named_append : (name : List ℕ) (xs ys : List TypedColumn) → columns_named name (xs ++ ys) ≡ columns_named name xs ++ columns_named name ys
named_append name [] ys = refl
named_append name (x ∷ xs) ys =
    elim (has_name name x) as (λ b. cond b (x ∷ columns_named name (xs ++ ys)) (columns_named name (xs ++ ys)) ≡ cond b (x ∷ columns_named name xs) (columns_named name xs) ++ columns_named name ys) [
      | true ↦ ap (λ (cs : List TypedColumn). x ∷ cs) (named_append name xs ys)
      | false ↦ named_append name xs ys
    ]

-- a name finds more columns after what it found before
pub found_more_columns : (name : List ℕ) (xs ys : List TypedColumn) → found (columns_named name (xs ++ ys)) ≡ joined (found (columns_named name xs)) (found (columns_named name ys))
found_more_columns name xs ys = ap found (named_append name xs ys) ∙ found_append (columns_named name xs) (columns_named name ys)

-- the first of the columns that are left are noted
pub noted_next : (mid new : Finds) (xs ys : List TypedColumn) → Noted mid xs new → (name : List ℕ)
    → joined (told_of new name) (found (columns_named name ys)) ≡ joined (told_of mid name) (found (columns_named name (xs ++ ys)))
noted_next mid new xs ys h name =
    ap (λ (f : Found). joined f (found (columns_named name ys))) (h name)
    ∙ joined_joins (told_of mid name) (found (columns_named name xs)) (found (columns_named name ys))
    ∙ ap (joined (told_of mid name)) (sym (found_more_columns name xs ys))

pub ruleset noted_steps = (common_steps, joined_nothing)

-- ---- ranges

all_append : (xs ys : List TypedRange) → all_columns (xs ++ ys) ≡ all_columns xs ++ all_columns ys
all_append xs ys = flat_map-append (λ (r : TypedRange). r.columns) xs ys

-- with the columns of more ranges noted
pub tells_more : (old new : Finds) (xs ys : List TypedRange) → Tells old xs → Noted old (all_columns ys) new → Tells new (xs ++ ys)
tells_more old new xs ys told noted name =
    noted name
    ∙ ap (λ (f : Found). joined f (found (columns_named name (all_columns ys)))) (told name)
    ∙ sym (found_more_columns name (all_columns xs) (all_columns ys))
    ∙ ap (λ (cs : List TypedColumn). found (columns_named name cs)) (sym (all_append xs ys))

named_all : (name : List ℕ) (rs : List TypedRange) → columns_named name (all_columns rs) ≡ named_in name rs
named_all name [] = refl
named_all name (r ∷ rs) = named_append name r.columns (all_columns rs) ∙ ap (λ (cs : List TypedColumn). columns_named name r.columns ++ cs) (named_all name rs)

pub find_named : (finds : Finds) (rs : List TypedRange) (name : List ℕ) → Tells finds rs → told_of finds name ≡ found (named_in name rs)
find_named finds rs name told = told name ∙ ap found (named_all name rs)
