-- Where the checks find one column by a name, the meaning of queries finds one.
use Rattle.std.proofs.Common.{◌≡◌, ◌∙◌, ◌&&◌, ◌||◌, ◌+◌, ◌⊎◌, ℕ, suc, Bool, true, false, cond, not, List, [], ◌∷◌, ◌++◌, map, filter, find, length, Option, Some, None, refl, sym, ap, ap₂, subst, inl, inr, arith}
use Rattle.std.specs.Prelude.{⊤}
use Rattle.std.specs.List.{flat_map, list_any}
use Rattle.std.specs.Cmp.Lexicographic.{nat_list_eq_equiv, same_text}
use Rattle.std.proofs.lemmas.Bool.{and_parts, cases_Bool, or_parts}
use Rattle.std.proofs.lemmas.List.{length-append, length-map}
use Rattle.sql_ast.specs.declared.name.Column.{Column}
use Rattle.sql_ast.specs.Names.{same_name}
use Rattle.sql_meaning.specs.Groups.{is_grouping, range_means}
use Rattle.sql_meaning.specs.Scopes.{Shape, columns_in, columns_of_range, is_named}
use Rattle.sql_catalog.proofs.EachLaws.{Each, all_of_each, each_all, found_passes}
use Rattle.sql_faults.proofs.Named.{in_shape, names_of_range, names_or}
use Rattle.sql_faults.specs.FoundNames.{AllMayBeNamed, FoundOnce, FoundRange, FoundStar, IsOne, MayBeNamed, StandsOnce, StandsRange, Visible, bearers, bearing, has_column, has_range, own, ranges_of, stands, ungrouped}
use Rattle.sql_faults.specs.Laws.{column_names, range_shapes, shapes}
use Rattle.sql_faults.specs.Rules.{one_of}
use Rattle.sql_faults.specs.Scopes.{Scope, Scopes, agree, columns_by, columns_named, columns_of_scope, in_range, is_barred, is_column_barred, is_empty, is_found_barred, is_meant, is_meant_by, is_name_barred, is_own, is_range_barred, is_same, is_some, is_star_barred, meant, named_in, range_in, scope_of, scope_with}
use Rattle.sql_faults.specs.Scopes as checked
use Rattle.sql_faults.specs.declared.column.TypedColumn.{TypedColumn}
use Rattle.sql_faults.specs.declared.column.TypedRange.{TypedRange}

-- what a scope of the checks shows
abbrev pub visible_of : Scope → Visible
visible_of s = record { ranges = range_shapes s.ranges; grouping = s.grouping }

abbrev pub visible : Scopes → List Visible
visible scopes = map visible_of scopes

pub visible_ranges : (scopes : Scopes) → ranges_of (visible scopes) ≡ shapes scopes
visible_ranges [] = refl
visible_ranges (s ∷ ss) = ap (λ (rest : List Shape). range_shapes s.ranges ∷ rest) (visible_ranges ss)

-- ---- tests

same_equal : (a b : List ℕ) → same_name a b ≡ true → a ≡ b
same_equal a b h = same_text a b (sym h)

same_back : (a b : List ℕ) → same_name a b ≡ true → same_name b a ≡ true
same_back a b h = subst (λ (z : List ℕ). same_name b z ≡ true) (sym (same_equal a b h)) (nat_list_eq_equiv.refl b)

is_so : (b : Bool) → not b ≡ false → b ≡ true
is_so true h = refl
is_so false h = absurd (cc)

and_so : (a b : Bool) → a ≡ true → b ≡ true → (a && b) ≡ true
and_so a b h k = ap (λ (z : Bool). z && b) h ∙ k

-- where each that passes one test passes another
any_more : {A : Type 0} (P : A → Type 0) (p q : A → Bool) → ((x : A) → P x → p x ≡ true → q x ≡ true) → (xs : List A) → Each P xs → list_any p xs ≡ true → list_any q xs ≡ true
any_more P p q f [] each h = absurd (cc)
any_more P p q f (x ∷ xs) each h = elim (cases_Bool (p x)) [
  | inl e ↦ ap (λ (z : Bool). z || list_any q xs) (f x each.0 e)
  | inr e ↦ later (q x) (any_more P p q f xs each.1 (sym (ap (λ (z : Bool). z || list_any p xs) e) ∙ h))
]
  where
    later : (b : Bool) → list_any q xs ≡ true → (b || list_any q xs) ≡ true
    later true k = refl
    later false k = k

-- ---- the columns of a name are as many

pub named_count : (name : List ℕ) (cs : List TypedColumn) → length (filter (is_named name) (column_names cs)) ≡ length (columns_named name cs)
named_count name [] = refl
named_count name (c ∷ cs) =
    elim (is_named name c.name) as (λ b. length (cond b (c.name ∷ filter (is_named name) (column_names cs)) (filter (is_named name) (column_names cs))) ≡ length (cond b (c ∷ columns_named name cs) (columns_named name cs))) [
      | true ↦ ap (λ (n : ℕ). suc n) (named_count name cs)
      | false ↦ named_count name cs
    ]

bearing_count : (name range : List ℕ) (cs : List TypedColumn) → length (bearing name (range, column_names cs)) ≡ length (columns_named name cs)
bearing_count name range cs = length-map (filter (is_named name) (column_names cs)) (λ (column : Option (List ℕ)). range) ∙ named_count name cs

all_count : (name : List ℕ) (rs : List TypedRange) → length (flat_map (bearing name) (range_shapes rs)) ≡ length (named_in name rs)
all_count name [] = refl
all_count name (r ∷ rs) =
    length-append (bearing name (r.name, column_names r.columns)) (flat_map (bearing name) (range_shapes rs))
    ∙ ap₂ (λ (a b : ℕ). a + b) (bearing_count name r.name r.columns) (all_count name rs)
    ∙ sym (length-append (columns_named name r.columns) (named_in name rs))

bearers_count : (r : Option (List ℕ)) (name : List ℕ) (rs : List TypedRange) → length (bearers r name (range_shapes rs)) ≡ length (columns_by r name rs)
bearers_count None name rs = all_count name rs
bearers_count (Some r) name rs = ap (λ (found : Option (List (Option (List ℕ)))). length (bearing name (r, names_or found []))) (in_shape r rs) ∙ at (range_in r rs)
  where
    at : (o : Option TypedRange) → length (bearing name (r, names_or (names_of_range o) [])) ≡ length (in_range name o)
    at None = refl
    at (Some q) = bearing_count name r q.columns

one_count : (cs : List TypedColumn) → one_of cs ≡ 0 → length cs ≡ 1
one_count [] h = absurd (omega (arith, h))
one_count (c ∷ []) h = refl
one_count (c ∷ d ∷ cs) h = absurd (omega (arith, h))

one_bearer : (c : Column) (rs : List TypedRange) → one_of (checked.columns_in c rs) ≡ 0 → length (bearers c.range c.name (range_shapes rs)) ≡ 1
one_bearer c rs h = bearers_count c.range c.name rs ∙ one_count (columns_by c.range c.name rs) h

-- ---- a name stands in the same scopes

column_stands : (name : List ℕ) (cs : List TypedColumn) → list_any (is_named name) (column_names cs) ≡ not (is_empty (columns_named name cs))
column_stands name [] = refl
column_stands name (c ∷ cs) =
    elim (is_named name c.name) as (λ b. (b || list_any (is_named name) (column_names cs)) ≡ not (is_empty (cond b (c ∷ columns_named name cs) (columns_named name cs)))) [
      | true ↦ refl
      | false ↦ column_stands name cs
    ]

empty_both : (xs ys : List TypedColumn) → (not (is_empty xs) || not (is_empty ys)) ≡ not (is_empty (xs ++ ys))
empty_both [] ys = refl
empty_both (x ∷ xs) ys = refl

any_stands : (name : List ℕ) (rs : List TypedRange) → has_column name (range_shapes rs) ≡ not (is_empty (named_in name rs))
any_stands name [] = refl
any_stands name (r ∷ rs) = ap₂ (λ (a b : Bool). a || b) (column_stands name r.columns) (any_stands name rs) ∙ empty_both (columns_named name r.columns) (named_in name rs)

pub range_stands : (name : List ℕ) (rs : List TypedRange) → has_range name (range_shapes rs) ≡ is_some (range_in name rs)
range_stands name [] = refl
range_stands name (r ∷ rs) =
    elim (same_name r.name name) as (λ b. (b || has_range name (range_shapes rs)) ≡ is_some (cond b (Some r) (range_in name rs))) [
      | true ↦ refl
      | false ↦ range_stands name rs
    ]

stands_by : (r : Option (List ℕ)) (name : List ℕ) (rs : List TypedRange) → stands r name (range_shapes rs) ≡ is_meant_by r name rs
stands_by None name rs = any_stands name rs
stands_by (Some r) name rs = range_stands r rs

stands_meant : (c : Column) (rs : List TypedRange) → stands c.range c.name (range_shapes rs) ≡ is_meant c rs
stands_meant c rs = stands_by c.range c.name rs

-- ---- a column of the innermost FROM

is_one : (name : List ℕ) (bs : List (List ℕ)) → length bs ≡ 1 → IsOne None name bs
is_one name [] h = absurd (omega (arith, h))
is_one name (b ∷ []) h = tt
is_one name (b ∷ d ∷ bs) h = absurd (omega (arith, h))

one_is : (name : List ℕ) (bs : List (List ℕ)) → IsOne None name bs → length bs ≡ 1
one_is name [] h = absurd h
one_is name (b ∷ []) h = refl
one_is name (b ∷ d ∷ bs) h = absurd h

pub own_once : (c : Column) (rs : List TypedRange) → is_meant c rs ≡ true → one_of (checked.columns_in c rs) ≡ 0 → FoundOnce (ungrouped (range_shapes rs) ∷ []) c
own_once c rs h k =
    subst (λ (b : Bool). StandsOnce c.range c.name (cond b (Some (ungrouped (range_shapes rs))) None)) (sym (stands_meant c rs ∙ h))
    (is_one c.name (bearers c.range c.name (range_shapes rs)) (one_bearer c rs k))

once_own : (c : Column) (ranges : Shape) → FoundOnce (ungrouped ranges ∷ []) c → length (bearers c.range c.name ranges) ≡ 1
once_own c ranges h =
    elim (stands c.range c.name ranges) as (λ b. StandsOnce c.range c.name (cond b (Some (ungrouped ranges)) None) → length (bearers c.range c.name ranges) ≡ 1) [
      | true ↦ (λ k. one_is c.name (bearers c.range c.name ranges) k)
      | false ↦ (λ k. absurd k)
    ] h

-- ---- a range with a column of a name is the one whose column is found

-- the first of two lists is empty, and the second has one element, or the other way round
head_or_rest : (n one : List ℕ) (xs : List (Option (List ℕ))) (rest : List (List ℕ)) → (map (λ (column : Option (List ℕ)). n) xs ++ rest) ≡ one ∷ [] → ((xs ≡ []) × (rest ≡ one ∷ [])) ⊎ ((one ≡ n) × (rest ≡ []))
head_or_rest n one [] rest h = inl (refl, h)
head_or_rest n one (x ∷ []) rest h = inr (cc, cc)
head_or_rest n one (x ∷ y ∷ xs) rest h = absurd (cc)

both_empty : (n : List ℕ) (xs : List (Option (List ℕ))) (rest : List (List ℕ)) → (map (λ (column : Option (List ℕ)). n) xs ++ rest) ≡ [] → (xs ≡ []) × (rest ≡ [])
both_empty n [] rest h = (refl, h)
both_empty n (x ∷ xs) rest h = absurd (cc)

-- the columns of a name in the first range of a name
abbrev among : List ℕ → List ℕ → Shape → List (Option (List ℕ))
among q name ranges = filter (is_named name) (columns_of_range q (ranges ∷ []))

none_among : (q name : List ℕ) (ranges : Shape) → flat_map (bearing name) ranges ≡ [] → among q name ranges ≡ []
none_among q name [] h = refl
none_among q name (r ∷ rs) h =
    elim (same_name r.0 q) as (λ b. filter (is_named name) (names_or (cond b (Some r.1) (columns_in q rs)) []) ≡ []) [
      | true ↦ (both_empty r.0 (filter (is_named name) r.1) (flat_map (bearing name) rs) h).0
      | false ↦ none_among q name rs (both_empty r.0 (filter (is_named name) r.1) (flat_map (bearing name) rs) h).1
    ]

one_among : (q name one : List ℕ) (ranges : Shape) → flat_map (bearing name) ranges ≡ one ∷ [] → length (among q name ranges) ≡ 1 → same_name q one ≡ true
one_among q name one [] h k = absurd (cc)
one_among q name one (r ∷ rs) h k = at (head_or_rest r.0 one (filter (is_named name) r.1) (flat_map (bearing name) rs) h) (same_name r.0 q) refl (one_among q name one rs) k
  where
    at : ((filter (is_named name) r.1 ≡ []) × (flat_map (bearing name) rs ≡ one ∷ [])) ⊎ ((one ≡ r.0) × (flat_map (bearing name) rs ≡ [])) → (b : Bool) → same_name r.0 q ≡ b → (flat_map (bearing name) rs ≡ one ∷ [] → length (among q name rs) ≡ 1 → same_name q one ≡ true)
        → length (filter (is_named name) (names_or (cond b (Some r.1) (columns_in q rs)) [])) ≡ 1 → same_name q one ≡ true
    at (inl e) true t later n = absurd (let z : 0 ≡ 1 = sym (ap length e.0) ∙ n in omega (arith, z))
    at (inl e) false t later n = later e.1 n
    at (inr e) true t later n = subst (λ (z : List ℕ). same_name q z ≡ true) (sym e.0) (same_back r.0 q t)
    at (inr e) false t later n = absurd (let z : 0 ≡ 1 = sym (ap length (none_among q name rs e.1)) ∙ n in omega (arith, z))

one_name : (r one : List ℕ) (xs : List (Option (List ℕ))) → map (λ (column : Option (List ℕ)). r) xs ≡ one ∷ [] → r ≡ one
one_name r one [] h = absurd (cc)
one_name r one (x ∷ xs) h = cc

-- ---- grouping columns

-- each column of GROUP BY is found in its FROM
abbrev pub SoundGrouping : Option (List Column) → Shape → Type 0
SoundGrouping None ranges = ⊤
SoundGrouping (Some by) ranges = Each (FoundOnce (ungrouped ranges ∷ [])) by

abbrev pub Sound : Scopes → Type 0
Sound scopes = Each (λ (s : Scope). SoundGrouping s.grouping (range_shapes s.ranges)) scopes

-- two names that agree mean one range
means : (r q : Option (List ℕ)) (name other one : List ℕ) (ranges : Shape) → same_name name other ≡ true → agree r q ≡ true → length (bearers q other ranges) ≡ 1 → bearers r name ranges ≡ one ∷ [] → range_means q one ≡ true
means r None name other one ranges same h k e = refl
means None (Some q) name other one ranges same h k e =
    one_among q name one ranges e (subst (λ (z : List ℕ). length (among q z ranges) ≡ 1) (sym (same_equal name other same)) (sym (length-map (among q other ranges) (λ (column : Option (List ℕ)). q)) ∙ k))
means (Some r) (Some q) name other one ranges same h k e =
    subst (λ (z : List ℕ). same_name q z ≡ true) (one_name r one (among r name ranges) e) (same_back r q h)

grouping_found : (c : Column) (by : List Column) (one : List ℕ) (ranges : Shape) → SoundGrouping (Some by) ranges → bearers c.range c.name ranges ≡ one ∷ [] → list_any (is_same c) by ≡ true → is_grouping by one (Some c.name) ≡ true
grouping_found c by one ranges sound e h =
    any_more (FoundOnce (ungrouped ranges ∷ [])) (is_same c) (λ (d : Column). is_named d.name (Some c.name) && range_means d.range one) meets by sound h
  where
    meets : (d : Column) → FoundOnce (ungrouped ranges ∷ []) d → is_same c d ≡ true → (is_named d.name (Some c.name) && range_means d.range one) ≡ true
    meets d once same =
        let parts = and_parts (same_name c.name d.name) (agree c.range d.range) same in
        and_so (same_name c.name d.name) (range_means d.range one) parts.0 (means c.range d.range c.name d.name one ranges parts.0 parts.1 (once_own d ranges once) e)

may_be_named : (c : Column) (by : Option (List Column)) (one : List ℕ) (ranges : Shape) → SoundGrouping by ranges → bearers c.range c.name ranges ≡ one ∷ [] → is_barred by c ≡ false → MayBeNamed by one (Some c.name)
may_be_named c None one ranges sound e h = tt
may_be_named c (Some by) one ranges sound e h = grouping_found c by one ranges sound e (is_so (list_any (is_same c) by) h)

-- ---- a column in scopes

once_in : (c : Column) (s : Scope) → SoundGrouping s.grouping (range_shapes s.ranges) → one_of (checked.columns_in c s.ranges) ≡ 0 → is_barred s.grouping c ≡ false → StandsOnce c.range c.name (Some (visible_of s))
once_in c s sound h k = at (bearers c.range c.name (range_shapes s.ranges)) refl (one_bearer c s.ranges h)
  where
    at : (bs : List (List ℕ)) → bearers c.range c.name (range_shapes s.ranges) ≡ bs → length bs ≡ 1 → IsOne s.grouping c.name bs
    at [] e n = absurd (omega (arith, n))
    at (one ∷ []) e n = may_be_named c s.grouping one (range_shapes s.ranges) sound e k
    at (one ∷ other ∷ bs) e n = absurd (omega (arith, n))

pub column_once : (c : Column) (scopes : Scopes) → Sound scopes → one_of (meant c scopes) ≡ 0 → is_name_barred c (scope_of c scopes) ≡ false → FoundOnce (visible scopes) c
column_once c [] sound h k = absurd (omega (arith, h))
column_once c (s ∷ ss) sound h k =
    subst (λ (b : Bool). StandsOnce c.range c.name (cond b (Some (visible_of s)) (find (λ (scope : Visible). stands c.range c.name scope.ranges) (visible ss)))) (sym (stands_meant c s.ranges)) (at (is_meant c s.ranges) (column_once c ss sound.1) h k)
  where
    at : (b : Bool) → (one_of (meant c ss) ≡ 0 → is_name_barred c (scope_of c ss) ≡ false → FoundOnce (visible ss) c) → one_of (columns_of_scope c (cond b (Some s) (scope_of c ss))) ≡ 0 → is_name_barred c (cond b (Some s) (scope_of c ss)) ≡ false
        → StandsOnce c.range c.name (cond b (Some (visible_of s)) (find (λ (scope : Visible). stands c.range c.name scope.ranges) (visible ss)))
    at true outer h k = once_in c s sound.0 h k
    at false outer h k = outer h k

-- of the innermost FROM, where the name means it
pub own_column : (c : Column) (scopes : Scopes) → one_of (meant c scopes) ≡ 0 → is_own c scopes ≡ true → FoundOnce (own (visible scopes)) c
own_column c [] h k = absurd (cc)
own_column c (s ∷ ss) h k = own_once c s.ranges k (subst (λ (b : Bool). one_of (columns_of_scope c (cond b (Some s) (scope_of c ss))) ≡ 0) k h)

-- ---- ranges and stars

agree_means : (r : List ℕ) (q : Option (List ℕ)) → agree (Some r) q ≡ true → range_means q r ≡ true
agree_means r None h = refl
agree_means r (Some q) h = same_back r q h

column_may : (by : Option (List Column)) (range : List ℕ) (name : Option (List ℕ)) → is_column_barred by range name ≡ false → MayBeNamed by range name
column_may None range name h = tt
column_may (Some by) range None h = absurd (cc)
column_may (Some by) range (Some name) h =
    any_more (λ (d : Column). ⊤) (is_same (record { range = Some range; name = name })) (λ (d : Column). is_named d.name (Some name) && range_means d.range range) meets by (each_all (λ (d : Column). ⊤) (λ (d : Column). tt) by)
    (is_so (list_any (is_same (record { range = Some range; name = name })) by) h)
  where
    meets : (d : Column) → ⊤ → is_same (record { range = Some range; name = name }) d ≡ true → (is_named d.name (Some name) && range_means d.range range) ≡ true
    meets d any same =
        let parts = and_parts (same_name name d.name) (agree (Some range) d.range) same in
        and_so (same_name name d.name) (range_means d.range range) parts.0 (agree_means range d.range parts.1)

columns_may : (by : Option (List Column)) (range : List ℕ) (cs : List TypedColumn) → list_any (λ (c : TypedColumn). is_column_barred by range c.name) cs ≡ false → Each (MayBeNamed by range) (column_names cs)
columns_may by range [] h = tt
columns_may by range (c ∷ cs) h =
    let parts = or_parts (is_column_barred by range c.name) (list_any (λ (d : TypedColumn). is_column_barred by range d.name) cs) h in
    (column_may by range c.name parts.0, columns_may by range cs parts.1)

range_may : (by : Option (List Column)) (r : TypedRange) → is_range_barred by r ≡ false → AllMayBeNamed by (r.name, column_names r.columns)
range_may by r h = all_of_each (MayBeNamed by r.name) (column_names r.columns) (columns_may by r.name r.columns h)

ranges_may : (by : Option (List Column)) (rs : List TypedRange) → list_any (is_range_barred by) rs ≡ false → Each (AllMayBeNamed by) (range_shapes rs)
ranges_may by [] h = tt
ranges_may by (r ∷ rs) h = let parts = or_parts (is_range_barred by r) (list_any (is_range_barred by) rs) h in (range_may by r parts.0, ranges_may by rs parts.1)

pub star_once : (s : Scope) (scopes : Scopes) → list_any (is_range_barred s.grouping) s.ranges ≡ false → FoundStar (visible (s ∷ scopes))
star_once s scopes h = all_of_each (AllMayBeNamed s.grouping) (range_shapes s.ranges) (ranges_may s.grouping s.ranges h)

range_in_once : (name : List ℕ) (s : Scope) → is_some (range_in name s.ranges) ≡ true → is_found_barred s.grouping (range_in name s.ranges) ≡ false → StandsRange name (Some (visible_of s))
range_in_once name s h k =
    subst (λ (found : Option (List (Option (List ℕ)))). AllMayBeNamed s.grouping (name, names_or found [])) (sym (in_shape name s.ranges)) (at (range_in name s.ranges) refl h k)
  where
    at : (o : Option TypedRange) → range_in name s.ranges ≡ o → is_some o ≡ true → is_found_barred s.grouping o ≡ false → AllMayBeNamed s.grouping (name, names_or (names_of_range o) [])
    at None e h k = absurd (cc)
    at (Some r) e h k =
        subst (λ (z : List ℕ). AllMayBeNamed s.grouping (z, column_names r.columns)) (same_equal r.name name (found_passes (λ (q : TypedRange). same_name q.name name) s.ranges r e)) (range_may s.grouping r k)

pub range_once : (name : List ℕ) (scopes : Scopes) → is_some (scope_with name scopes) ≡ true → is_star_barred name (scope_with name scopes) ≡ false → FoundRange (visible scopes) name
range_once name [] h k = absurd (cc)
range_once name (s ∷ ss) h k =
    subst (λ (b : Bool). StandsRange name (cond b (Some (visible_of s)) (find (λ (scope : Visible). has_range name scope.ranges) (visible ss)))) (sym (range_stands name s.ranges)) (at (is_some (range_in name s.ranges)) refl (range_once name ss) h k)
  where
    at : (b : Bool) → is_some (range_in name s.ranges) ≡ b → (is_some (scope_with name ss) ≡ true → is_star_barred name (scope_with name ss) ≡ false → FoundRange (visible ss) name) → is_some (cond b (Some s) (scope_with name ss)) ≡ true → is_star_barred name (cond b (Some s) (scope_with name ss)) ≡ false
        → StandsRange name (cond b (Some (visible_of s)) (find (λ (scope : Visible). has_range name scope.ranges) (visible ss)))
    at true e outer h k = range_in_once name s e k
    at false e outer h k = outer h k
