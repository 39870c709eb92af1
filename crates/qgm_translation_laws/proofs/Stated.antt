-- The types that the checks state of columns.
use Rattle.std.proofs.Common.{◌≡◌, ◌∙◌, ℕ, suc, nat_eq, Bool, true, false, not, List, [], ◌∷◌, ◌++◌, length, map, Option, Some, None, refl, sym, ap, ap₂, subst, arith}
use Rattle.std.proofs.lemmas.Bool.{eqb-true, not-false, or_parts}
use Rattle.std.proofs.lemmas.List.{length-map, map-append}
use Rattle.sql_value.specs.declared.order_key.SqlType.{SqlType}
use Rattle.sql_value.specs.declared.order_key.SqlType.TheVariants.{Integer, Varchar}
use Rattle.sql_catalog.proofs.EachLaws.{Each, each_of_all}
use Rattle.sql_faults.specs.Laws.{AreTypedHeads}
use Rattle.sql_faults.specs.Columns.{columns_or_none, listed, renamed}
use Rattle.sql_faults.specs.Rules.{differ, fault_if, is_other, not_one, operands_differ, operands_unequal, pair_differs, places_differ, wants}
use Rattle.sql_faults.specs.Scopes.{Heads, first_type, is_empty, is_some}
use Rattle.sql_faults.specs.declared.column.TypedColumn.{TypedColumn}
use Rattle.qgm_translation_laws.specs.Typed.{NotNone, open_scope}
use Rattle.qgm_translation_laws.specs.Typing.{kinds_of, known_types, with_type}

-- the types that the checks state of columns
abbrev pub stated : List TypedColumn → List (Option SqlType)
stated columns = map (λ (c : TypedColumn). c.sort) columns

-- the checks know the types of all these columns, and they are these
abbrev pub HaveTypes : List TypedColumn → List SqlType → Type 0
HaveTypes columns types = stated columns ≡ open_scope types

-- kinds gives the types of the columns of each table and view
abbrev pub AreKinds : Heads → (List ℕ → List SqlType) → Type 0
AreKinds heads kinds = (name : List ℕ) → HaveTypes (columns_or_none (heads name)) (kinds name)

pub open_append : (a b : List SqlType) → open_scope (a ++ b) ≡ open_scope a ++ open_scope b
open_append a b = map-append (λ (t : SqlType). Some t) a b

pub stated_append : (xs ys : List TypedColumn) → stated (xs ++ ys) ≡ stated xs ++ stated ys
stated_append xs ys = map-append (λ (c : TypedColumn). c.sort) xs ys

pub have_append : (xs ys : List TypedColumn) (a b : List SqlType) → HaveTypes xs a → HaveTypes ys b → HaveTypes (xs ++ ys) (a ++ b)
have_append xs ys a b h k = stated_append xs ys ∙ ap₂ (λ (x y : List (Option SqlType)). x ++ y) h k ∙ sym (open_append a b)

pub have_length : (cs : List TypedColumn) (types : List SqlType) → HaveTypes cs types → length types ≡ length cs
have_length cs types h = sym (length-map types (λ (t : SqlType). Some t)) ∙ ap length (sym h) ∙ length-map cs (λ (c : TypedColumn). c.sort)

more_types : (x : TypedColumn) (xs : List TypedColumn) (t : SqlType) (types : List SqlType) → HaveTypes (x ∷ xs) (t ∷ types) → (x.sort ≡ Some t) × HaveTypes xs types
more_types x xs t types h = (cc, cc)

-- the types of the first columns, and those of the others
pub have_split : (xs ys : List TypedColumn) (row : List SqlType) → HaveTypes (xs ++ ys) row → (a : List SqlType) × ((b : List SqlType) × (HaveTypes xs a × HaveTypes ys b × (row ≡ a ++ b)))
have_split [] ys row h = ([], (row, (refl, h, refl)))
have_split (x ∷ xs) ys [] h = absurd (cc)
have_split (x ∷ xs) ys (t ∷ row) h =
    let e = more_types x (xs ++ ys) t row h in
    let k = have_split xs ys row e.1 in
    (t ∷ k.0, (k.1.0, (ap₂ (λ (o : Option SqlType) (os : List (Option SqlType)). o ∷ os) e.0 k.1.1.0, k.1.1.1, ap (λ (z : List SqlType). t ∷ z) k.1.1.2)))

listed_stated : (list : List (List ℕ)) (cs : List TypedColumn) → stated (listed list cs) ≡ stated cs
listed_stated [] [] = refl
listed_stated (name ∷ list) [] = refl
listed_stated [] (c ∷ cs) = ap (λ (z : List (Option SqlType)). c.sort ∷ z) (listed_stated [] cs)
listed_stated (name ∷ list) (c ∷ cs) = ap (λ (z : List (Option SqlType)). c.sort ∷ z) (listed_stated list cs)

pub renamed_stated : (list : List (List ℕ)) (cs : List TypedColumn) → stated (renamed list cs) ≡ stated cs
renamed_stated [] cs = refl
renamed_stated (name ∷ list) cs = listed_stated (name ∷ list) cs

-- the types that are known
pub known_are : (cs : List TypedColumn) (types : List SqlType) → HaveTypes cs types → types ≡ known_types cs
known_are [] [] h = refl
known_are [] (t ∷ types) h = absurd (cc)
known_are (c ∷ cs) [] h = absurd (cc)
known_are (c ∷ cs) (t ∷ types) h =
    let e = more_types c cs t types h in
    ap (λ (z : List SqlType). t ∷ z) (known_are cs types e.1) ∙ ap (λ (o : Option SqlType). with_type o (known_types cs)) (sym e.0)

known_all : (cs : List TypedColumn) → Each (λ (c : TypedColumn). is_some c.sort ≡ true) cs → HaveTypes cs (known_types cs)
known_all [] h = refl
known_all (c ∷ cs) h = at c.sort h.0 (known_all cs h.1)
  where
    at : (o : Option SqlType) → is_some o ≡ true → HaveTypes cs (known_types cs) → o ∷ stated cs ≡ open_scope (with_type o (known_types cs))
    at None e k = absurd (cc)
    at (Some t) e k = ap (λ (z : List (Option SqlType)). Some t ∷ z) k

pub are_kinds : (heads : Heads) → AreTypedHeads heads → AreKinds heads (kinds_of heads)
are_kinds heads h name = known_all (columns_or_none (heads name)) (each_of_all (λ (c : TypedColumn). is_some c.sort ≡ true) (columns_or_none (heads name)) (h name))

-- ---- one type

-- a type that isn't another one
pub is_this : (t u : SqlType) → is_other t (Some u) ≡ false → u ≡ t
is_this Integer Integer h = refl
is_this Integer Varchar h = absurd (cc)
is_this Varchar Integer h = absurd (cc)
is_this Varchar Varchar h = refl

fault_free : (b : Bool) (n : ℕ) → fault_if b (suc n) ≡ 0 → b ≡ false
fault_free true n h = absurd (cc)
fault_free false n h = refl

pub no_fault_in : (b : Bool) (n : ℕ) → fault_if b (suc n) ≡ 0 → b ≡ false
no_fault_in b n h = fault_free b n h

pub wanted : (t u : SqlType) (o : Option SqlType) → o ≡ Some u → wants t o ≡ 0 → u ≡ t
wanted t u o e h = is_this t u (fault_free (is_other t (Some u)) 9 (subst (λ (z : Option SqlType). wants t z ≡ 0) e h))

pub same_pair : (t u : SqlType) (a b : Option SqlType) → a ≡ Some t → b ≡ Some u → pair_differs a b ≡ 0 → u ≡ t
same_pair t u a b e f h =
    is_this t u (fault_free (is_other t (Some u)) 9 (subst (λ (z : Option SqlType). pair_differs (Some t) z ≡ 0) f (subst (λ (z : Option SqlType). pair_differs z b ≡ 0) e h)))

-- ---- columns of one query

-- a subquery of one column
pub lone_type : (cs : List TypedColumn) (types : List SqlType) → HaveTypes cs types → not_one cs ≡ 0 → (t : SqlType) × ((first_type cs ≡ Some t) × (types ≡ t ∷ []))
lone_type [] types h e = absurd (cc)
lone_type (c ∷ []) [] h e = absurd (cc)
lone_type (c ∷ []) (t ∷ []) h e = (t, (cc, refl))
lone_type (c ∷ []) (t ∷ u ∷ types) h e = absurd (cc)
lone_type (c ∷ d ∷ cs) types h e =
    let two : length (c ∷ d ∷ cs) ≡ 1 = eqb-true (length (c ∷ d ∷ cs)) 1 (not-false (nat_eq (length (c ∷ d ∷ cs)) 1) (fault_free (not (nat_eq (length (c ∷ d ∷ cs)) 1)) 10 e)) in
    absurd (omega (arith, two))

pub some_types : (cs : List TypedColumn) (types : List SqlType) → HaveTypes cs types → is_empty cs ≡ false → NotNone types
some_types [] types h e = absurd (cc)
some_types (c ∷ cs) [] h e = absurd (cc)
some_types (c ∷ cs) (t ∷ types) h e = tt

same_columns : (xs ys : List TypedColumn) (a b : List SqlType) → HaveTypes xs a → HaveTypes ys b → places_differ xs ys ≡ false → length xs ≡ length ys → b ≡ a
same_columns [] [] [] [] h k p e = refl
same_columns [] [] (t ∷ a) b h k p e = absurd (cc)
same_columns [] [] [] (u ∷ b) h k p e = absurd (cc)
same_columns [] (y ∷ ys) a b h k p e = absurd (omega (arith, e))
same_columns (x ∷ xs) [] a b h k p e = absurd (omega (arith, e))
same_columns (x ∷ xs) (y ∷ ys) [] b h k p e = absurd (cc)
same_columns (x ∷ xs) (y ∷ ys) (t ∷ a) [] h k p e = absurd (cc)
same_columns (x ∷ xs) (y ∷ ys) (t ∷ a) (u ∷ b) h k p e =
    let f = more_types x xs t a h in
    let g = more_types y ys u b k in
    let n = or_parts (differ x.sort y.sort) (places_differ xs ys) p in
    ap₂ (λ (z : SqlType) (zs : List SqlType). z ∷ zs)
    (is_this t u (subst (λ (z : Option SqlType). differ (Some t) z ≡ false) g.0 (subst (λ (z : Option SqlType). differ z y.sort ≡ false) f.0 n.0)))
    (same_columns xs ys a b f.1 g.1 n.1 (omega (arith, e)))

equal_numbers : (m n : ℕ) → fault_if (not (nat_eq m n)) 11 ≡ 0 → m ≡ n
equal_numbers m n h = eqb-true m n (not-false (nat_eq m n) (fault_free (not (nat_eq m n)) 10 h))

-- the operands of a set operation
pub same_types : (xs ys : List TypedColumn) (a b : List SqlType) → HaveTypes xs a → HaveTypes ys b → operands_differ xs ys ≡ 0 → operands_unequal xs ys ≡ 0 → b ≡ a
same_types xs ys a b h k p e = same_columns xs ys a b h k (fault_free (places_differ xs ys) 9 p) (equal_numbers (length xs) (length ys) e)
