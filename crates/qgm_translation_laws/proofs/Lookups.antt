-- Where the columns of a name stand in the row of a FROM, and those of a range.
use Rattle.std.proofs.Common.{◌≡◌, ◌∙◌, ◌+◌, ℕ, suc, Bool, true, false, cond, filter, List, [], ◌∷◌, ◌++◌, length, map, Option, Some, None, refl, sym, ap, subst, arith}
use Rattle.std.specs.List.{flat_map}
use Rattle.std.specs.Cmp.Lexicographic.{same_text}
use Rattle.std.proofs.lemmas.List.{length-map}
use Rattle.std.proofs.lemmas.Bool.{not-false}
use Rattle.std.proofs.lemmas.Option.{same_Some}
use Rattle.sql_ast.specs.Names.{same_name}
use Rattle.sql_meaning.specs.Scopes.{Shape, columns_of_range, first_of, is_named}
use Rattle.sql_names.proofs.Positions.{place_first}
use Rattle.sql_names.specs.Places.{Span, at_span, columns_in, further, here, in_span, onward, outward, place_in, place_named, place_of, place_outward, span_in, span_of, unqualified}
use Rattle.sql_faults.specs.Columns.{all_columns}
use Rattle.sql_faults.specs.FoundNames.{bearers, bearing}
use Rattle.sql_faults.specs.Laws.{column_names, range_shapes}
use Rattle.sql_faults.specs.Scopes.{columns_by, columns_named, in_range, is_empty, is_meant_by, is_some, named_in, range_in}
use Rattle.sql_faults.specs.declared.column.TypedColumn.{TypedColumn}
use Rattle.sql_faults.specs.declared.column.TypedRange.{TypedRange}
use Rattle.sql_value.specs.declared.order_key.SqlType.{SqlType}
use Rattle.qgm_translation_laws.proofs.Runs.{Run, Stands, run_at, run_here, run_later, stands_at, stands_later, stands_left, stands_run}
use Rattle.qgm_translation_laws.proofs.Stated.{stated, stated_append}

-- ---- columns of a range, each by the name of the range and its own

abbrev pub Listed : Type 0
Listed = List ℕ × Option (List ℕ)

abbrev pub listed_by : List ℕ → List (Option (List ℕ)) → List Listed
listed_by range columns = map (λ (column : Option (List ℕ)). (range, column)) columns

-- ---- a column of a name among columns

is_it : (name : List ℕ) (column : Option (List ℕ)) → is_named name column ≡ true → column ≡ Some name
is_it name None h = absurd (cc)
is_it name (Some other) h = ap (λ (z : List ℕ). Some z) (same_text other name (sym h))

-- the first of a name: its place, its type, and its name
abbrev pub First : List ℕ → List ℕ → List TypedColumn → TypedColumn → Type 0
First name range cs d =
    (place : ℕ) × ((place_named name (column_names cs) ≡ Some place) × Stands (stated cs) place d.sort × Stands (listed_by range (column_names cs)) place (range, Some name))

head_same : {A : Type 0} (x y : A) (xs ys : List A) → x ∷ xs ≡ y ∷ ys → x ≡ y
head_same x y xs ys h = cc

first_named : (name range : List ℕ) (cs : List TypedColumn) (d : TypedColumn) (ds : List TypedColumn) → columns_named name cs ≡ d ∷ ds → First name range cs d
first_named name range [] d ds h = absurd (cc)
first_named name range (c ∷ cs) d ds h = at (is_named name c.name) refl h (first_named name range cs d ds)
  where
    at : (b : Bool) → is_named name c.name ≡ b → cond b (c ∷ columns_named name cs) (columns_named name cs) ≡ d ∷ ds → (columns_named name cs ≡ d ∷ ds → First name range cs d) → First name range (c ∷ cs) d
    at true e k later = (
      0,
      (
        place_first name c.name (column_names cs) ∙ ap (λ (z : Bool). cond z (Some 0) (further 1 (place_named name (column_names cs)))) e,
        ap (λ (z : TypedColumn). z.sort) (head_same c d (columns_named name cs) ds k),
        ap (λ (z : Option (List ℕ)). (range, z)) (is_it name c.name e),
      ),
    )
    at false e k later =
        let r = later k in (
          suc r.0,
          (
            place_first name c.name (column_names cs) ∙ ap (λ (z : Bool). cond z (Some 0) (further 1 (place_named name (column_names cs)))) e ∙ ap (further 1) r.1.0 ∙ ap (λ (z : ℕ). Some z) (omega arith),
            r.1.1,
            r.1.2,
          ),
        )

none_named : (name : List ℕ) (cs : List TypedColumn) → columns_named name cs ≡ [] → (place_named name (column_names cs) ≡ None) × (filter (is_named name) (column_names cs) ≡ [])
none_named name [] h = (refl, refl)
none_named name (c ∷ cs) h = at (is_named name c.name) refl h (none_named name cs)
  where
    at : (b : Bool) → is_named name c.name ≡ b → cond b (c ∷ columns_named name cs) (columns_named name cs) ≡ [] → (columns_named name cs ≡ [] → (place_named name (column_names cs) ≡ None) × (filter (is_named name) (column_names cs) ≡ []))
        → (place_named name (column_names (c ∷ cs)) ≡ None) × (filter (is_named name) (column_names (c ∷ cs)) ≡ [])
    at true e k later = absurd (cc)
    at false e k later =
        let r = later k in (
          place_first name c.name (column_names cs) ∙ ap (λ (z : Bool). cond z (Some 0) (further 1 (place_named name (column_names cs)))) e ∙ ap (further 1) r.0,
          ap (λ (z : Bool). cond z (c.name ∷ filter (is_named name) (column_names cs)) (filter (is_named name) (column_names cs))) e ∙ r.1,
        )

some_named : (name : List ℕ) (cs : List TypedColumn) (d : TypedColumn) (ds : List TypedColumn) → columns_named name cs ≡ d ∷ ds → (one : Option (List ℕ)) × ((more : List (Option (List ℕ))) × (filter (is_named name) (column_names cs) ≡ one ∷ more))
some_named name [] d ds h = absurd (cc)
some_named name (c ∷ cs) d ds h = at (is_named name c.name) refl h (some_named name cs d ds)
  where
    at : (b : Bool) → is_named name c.name ≡ b → cond b (c ∷ columns_named name cs) (columns_named name cs) ≡ d ∷ ds → (columns_named name cs ≡ d ∷ ds → (one : Option (List ℕ)) × ((more : List (Option (List ℕ))) × (filter (is_named name) (column_names cs) ≡ one ∷ more)))
        → (one : Option (List ℕ)) × ((more : List (Option (List ℕ))) × (filter (is_named name) (column_names (c ∷ cs)) ≡ one ∷ more))
    at true e k later = (c.name, (filter (is_named name) (column_names cs), ap (λ (z : Bool). cond z (c.name ∷ filter (is_named name) (column_names cs)) (filter (is_named name) (column_names cs))) e))
    at false e k later =
        let r = later k in
        (r.0, (r.1.0, ap (λ (z : Bool). cond z (c.name ∷ filter (is_named name) (column_names cs)) (filter (is_named name) (column_names cs))) e ∙ r.1.1))

-- ---- the same in a FROM

same_width : (range : List ℕ) (cs : List TypedColumn) → (length (stated cs) ≡ length (column_names cs)) × (length (listed_by range (column_names cs)) ≡ length (column_names cs))
same_width range cs = (
  length-map cs (λ (c : TypedColumn). c.sort) ∙ sym (length-map cs (λ (c : TypedColumn). c.name)),
  length-map (column_names cs) (λ (column : Option (List ℕ)). (range, column)),
)

-- what a name finds in a FROM: the place of a column, its type, the name of its range and its own
abbrev pub InFrom : List ℕ → List TypedRange → TypedColumn → ℕ → List ℕ → Type 0
InFrom name rs d place range = Stands (stated (all_columns rs)) place d.sort × Stands (columns_in (range_shapes rs)) place (range, Some name)

in_first : (name : List ℕ) (r : TypedRange) (rs : List TypedRange) (d : TypedColumn) (place : ℕ) → Stands (stated r.columns) place d.sort → Stands (listed_by r.name (column_names r.columns)) place (r.name, Some name) → InFrom name (r ∷ rs) d place r.name
in_first name r rs d place h k = (
  subst (λ (z : List (Option SqlType)). Stands z place d.sort) (sym (stated_append r.columns (all_columns rs))) (stands_left (stated r.columns) (stated (all_columns rs)) place d.sort h),
  stands_left (listed_by r.name (column_names r.columns)) (columns_in (range_shapes rs)) place (r.name, Some name) k,
)

in_later : (name : List ℕ) (r : TypedRange) (rs : List TypedRange) (d : TypedColumn) (place : ℕ) (range : List ℕ) → InFrom name rs d place range → InFrom name (r ∷ rs) d (length (column_names r.columns) + place) range
in_later name r rs d place range h = (
  subst (λ (z : List (Option SqlType)). Stands z (length (column_names r.columns) + place) d.sort) (sym (stated_append r.columns (all_columns rs)))
      (stands_at (stated r.columns ++ stated (all_columns rs)) (length (stated r.columns) + place) (length (column_names r.columns) + place) d.sort (ap (λ (n : ℕ). n + place) (same_width r.name r.columns).0)
      (stands_later (stated r.columns) (stated (all_columns rs)) place d.sort h.0)),
  stands_at (columns_in (range_shapes (r ∷ rs))) (length (listed_by r.name (column_names r.columns)) + place) (length (column_names r.columns) + place) (range, Some name) (ap (λ (n : ℕ). n + place) (same_width r.name r.columns).1)
      (stands_later (listed_by r.name (column_names r.columns)) (columns_in (range_shapes rs)) place (range, Some name) h.1),
)

-- `c`: and its range is the first that bears the name
abbrev pub Unqualified : List ℕ → List TypedRange → TypedColumn → Type 0
Unqualified name rs d =
    (place : ℕ) × ((range : List ℕ) × ((place_in name (range_shapes rs) ≡ Some place) × InFrom name rs d place range × ((more : List (List ℕ)) × (flat_map (bearing name) (range_shapes rs) ≡ range ∷ more))))

find_unqualified : (name : List ℕ) (rs : List TypedRange) (d : TypedColumn) (ds : List TypedColumn) → named_in name rs ≡ d ∷ ds → Unqualified name rs d
find_unqualified name [] d ds h = absurd (cc)
find_unqualified name (r ∷ rs) d ds h = at (columns_named name r.columns) refl h (find_unqualified name rs d ds)
  where
    at : (cs : List TypedColumn) → columns_named name r.columns ≡ cs → cs ++ named_in name rs ≡ d ∷ ds → (named_in name rs ≡ d ∷ ds → Unqualified name rs d) → Unqualified name (r ∷ rs) d
    at [] e k later =
        let n = none_named name r.columns e in
        let u = later k in (
          length (column_names r.columns) + u.0,
          (
            u.1.0,
            (
              ap (λ (o : Option ℕ). first_of o (further (length (column_names r.columns)) (place_in name (range_shapes rs)))) n.0 ∙ ap (further (length (column_names r.columns))) u.1.1.0,
              in_later name r rs d u.0 u.1.0 u.1.1.1,
              (u.1.1.2.0, ap (λ (z : List (Option (List ℕ))). map (λ (column : Option (List ℕ)). r.name) z ++ flat_map (bearing name) (range_shapes rs)) n.1 ∙ u.1.1.2.1),
            ),
          ),
        )
    at (c ∷ cs) e k later =
        let f = first_named name r.name r.columns c cs e in
        let s = some_named name r.columns c cs e in
        let same : c ≡ d = head_same c d (cs ++ named_in name rs) ds k in
        subst (Unqualified name (r ∷ rs)) same (
          f.0,
          (
            r.name,
            (
              ap (λ (o : Option ℕ). first_of o (further (length (column_names r.columns)) (place_in name (range_shapes rs)))) f.1.0,
              in_first name r rs c f.0 f.1.1 f.1.2,
              (
                map (λ (column : Option (List ℕ)). r.name) s.1.0 ++ flat_map (bearing name) (range_shapes rs),
                ap (λ (z : List (Option (List ℕ))). map (λ (column : Option (List ℕ)). r.name) z ++ flat_map (bearing name) (range_shapes rs)) s.1.1,
              ),
            ),
          ),
        )

none_unqualified : (name : List ℕ) (rs : List TypedRange) → named_in name rs ≡ [] → place_in name (range_shapes rs) ≡ None
none_unqualified name [] h = refl
none_unqualified name (r ∷ rs) h = at (columns_named name r.columns) refl h (none_unqualified name rs)
  where
    at : (cs : List TypedColumn) → columns_named name r.columns ≡ cs → cs ++ named_in name rs ≡ [] → (named_in name rs ≡ [] → place_in name (range_shapes rs) ≡ None) → place_in name (range_shapes (r ∷ rs)) ≡ None
    at [] e k later =
        ap (λ (o : Option ℕ). first_of o (further (length (column_names r.columns)) (place_in name (range_shapes rs)))) (none_named name r.columns e).0
        ∙ ap (further (length (column_names r.columns))) (later k)
    at (c ∷ cs) e k later = absurd (cc)

-- ---- ranges

abbrev pub span_from : ℕ → List TypedColumn → Span
span_from first cs = record { scope = 0; first = first; columns = column_names cs }

-- a range stands in its FROM from a place on
abbrev pub InRow : List TypedRange → TypedRange → ℕ → Type 0
InRow rs r first = Run (stated (all_columns rs)) first (stated r.columns) × Run (columns_in (range_shapes rs)) first (listed_by r.name (column_names r.columns))

abbrev pub Spanned : List ℕ → List TypedRange → TypedRange → Type 0
Spanned name rs r = (first : ℕ) × ((span_in name (range_shapes rs) ≡ Some (span_from first r.columns)) × InRow rs r first × (r.name ≡ name))

pub find_span : (name : List ℕ) (rs : List TypedRange) (r : TypedRange) → range_in name rs ≡ Some r → Spanned name rs r
find_span name [] r h = absurd (cc)
find_span name (q ∷ rs) r h = at (same_name q.name name) refl h (find_span name rs r)
  where
    at : (b : Bool) → same_name q.name name ≡ b → cond b (Some q) (range_in name rs) ≡ Some r → (range_in name rs ≡ Some r → Spanned name rs r) → Spanned name (q ∷ rs) r
    at true e k later =
        subst (Spanned name (q ∷ rs)) (same_Some q r k) (
          0,
          (
            ap (λ (b : Bool). cond b (Some (span_from 0 q.columns)) (onward (length (column_names q.columns)) (span_in name (range_shapes rs)))) e,
            (
              subst (λ (z : List (Option SqlType)). Run z 0 (stated q.columns)) (sym (stated_append q.columns (all_columns rs))) (run_here (stated q.columns) (stated (all_columns rs))),
              run_here (listed_by q.name (column_names q.columns)) (columns_in (range_shapes rs)),
            ),
            same_text q.name name (sym e),
          ),
        )
    at false e k later =
        let s = later k in (
          length (column_names q.columns) + s.0,
          (
            ap (λ (b : Bool). cond b (Some (span_from 0 q.columns)) (onward (length (column_names q.columns)) (span_in name (range_shapes rs)))) e ∙ ap (onward (length (column_names q.columns))) s.1.0,
            (
              subst (λ (z : List (Option SqlType)). Run z (length (column_names q.columns) + s.0) (stated r.columns)) (sym (stated_append q.columns (all_columns rs)))
                  (run_at (stated q.columns ++ stated (all_columns rs)) (length (stated q.columns) + s.0) (length (column_names q.columns) + s.0) (stated r.columns) (ap (λ (n : ℕ). n + s.0) (same_width q.name q.columns).0)
                  (run_later (stated q.columns) (stated (all_columns rs)) s.0 (stated r.columns) s.1.1.0)),
              run_at (columns_in (range_shapes (q ∷ rs))) (length (listed_by q.name (column_names q.columns)) + s.0) (length (column_names q.columns) + s.0) (listed_by r.name (column_names r.columns)) (ap (λ (n : ℕ). n + s.0) (same_width q.name q.columns).1)
                  (run_later (listed_by q.name (column_names q.columns)) (columns_in (range_shapes rs)) s.0 (listed_by r.name (column_names r.columns)) s.1.1.1),
            ),
            s.1.2,
          ),
        )

pub no_span : (name : List ℕ) (rs : List TypedRange) → is_some (range_in name rs) ≡ false → span_in name (range_shapes rs) ≡ None
no_span name [] h = refl
no_span name (q ∷ rs) h = at (same_name q.name name) refl h (no_span name rs)
  where
    at : (b : Bool) → same_name q.name name ≡ b → is_some (cond b (Some q) (range_in name rs)) ≡ false → (is_some (range_in name rs) ≡ false → span_in name (range_shapes rs) ≡ None) → span_in name (range_shapes (q ∷ rs)) ≡ None
    at true e k later = absurd (cc)
    at false e k later = ap (λ (b : Bool). cond b (Some (span_from 0 q.columns)) (onward (length (column_names q.columns)) (span_in name (range_shapes rs)))) e ∙ ap (onward (length (column_names q.columns))) (later k)

-- ---- a column's name in scopes

-- the place of what is found in the innermost scope, and its range, where one bears the name
abbrev pub Placed : Option (List ℕ) → List ℕ → List TypedRange → List Shape → TypedColumn → Type 0
Placed q name rs outer d =
    (place : ℕ) × ((range : List ℕ) × ((place_of q name (range_shapes rs ∷ outer) ≡ here (Some place)) × InFrom name rs d place range × ((one : List ℕ) → bearers q name (range_shapes rs) ≡ one ∷ [] → range ≡ one)))

one_range : (q one : List ℕ) (xs : List (Option (List ℕ))) → map (λ (column : Option (List ℕ)). q) xs ≡ one ∷ [] → q ≡ one
one_range q one [] h = absurd (cc)
one_range q one (x ∷ xs) h = head_same q one (map (λ (column : Option (List ℕ)). q) xs) [] h

pub find_column : (q : Option (List ℕ)) (name : List ℕ) (rs : List TypedRange) (outer : List Shape) (d : TypedColumn) (ds : List TypedColumn) → columns_by q name rs ≡ d ∷ ds → Placed q name rs outer d
find_column None name rs outer d ds h =
    let u = find_unqualified name rs d ds h in (
      u.0,
      (
        u.1.0,
        (
          ap (λ (o : Option ℕ). first_of (here o) (place_outward (unqualified name outer))) u.1.1.0,
          u.1.1.1,
          (λ one e. head_same u.1.0 one u.1.1.2.0 [] (sym u.1.1.2.1 ∙ e)),
        ),
      ),
    )
find_column (Some q) name rs outer d ds h = at (range_in q rs) refl h
  where
    at : (o : Option TypedRange) → range_in q rs ≡ o → in_range name o ≡ d ∷ ds → Placed (Some q) name rs outer d
    at None e k = absurd (cc)
    at (Some r) e k =
        let s = find_span q rs r e in
        let f = first_named name r.name r.columns d ds k in (
          s.0 + f.0,
          (
            r.name,
            (
              ap (λ (o : Option Span). in_span name (first_of o (outward (span_of q outer)))) s.1.0 ∙ ap (at_span (span_from s.0 r.columns)) f.1.0,
              (stands_run (stated (all_columns rs)) s.0 (stated r.columns) f.0 d.sort s.1.1.0 f.1.1, stands_run (columns_in (range_shapes rs)) s.0 (listed_by r.name (column_names r.columns)) f.0 (r.name, Some name) s.1.1.1 f.1.2),
              (λ one e. s.1.2 ∙ one_range q one (filter (is_named name) (columns_of_range q (range_shapes rs ∷ []))) e),
            ),
          ),
        )

at_outward : (name : List ℕ) (o : Option Span) → in_span name (outward o) ≡ place_outward (in_span name o)
at_outward name None = refl
at_outward name (Some s) = elim (place_named name s.columns) as (λ p. at_span (record { scope = suc s.scope; first = s.first; columns = s.columns }) p ≡ place_outward (at_span s p)) [ None ↦ refl | Some p ↦ refl ]

empty_is : {A : Type 0} (xs : List A) → is_empty xs ≡ true → xs ≡ []
empty_is [] h = refl
empty_is (x ∷ xs) h = absurd (cc)

-- what a scope doesn't show is found further out
pub pass_column : (q : Option (List ℕ)) (name : List ℕ) (rs : List TypedRange) (outer : List Shape) → is_meant_by q name rs ≡ false → place_of q name (range_shapes rs ∷ outer) ≡ place_outward (place_of q name outer)
pass_column None name rs outer h = ap (λ (o : Option ℕ). first_of (here o) (place_outward (unqualified name outer))) (none_unqualified name rs (empty_is (named_in name rs) (not-false (is_empty (named_in name rs)) h)))
pass_column (Some q) name rs outer h = ap (λ (o : Option Span). in_span name (first_of o (outward (span_of q outer)))) (no_span q rs h) ∙ at_outward name (span_of q outer)
