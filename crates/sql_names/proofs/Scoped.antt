-- Ranges in a row: their columns, and the columns of one of them.
use Rattle.std.proofs.Common.{◌≡◌, ◌<◌, ◌+◌, ℕ, Bool, true, false, cond, List, [], ◌∷◌, ◌++◌, append_assoc, drop, get_or, length, take, Option, Some, None, refl, ap, sym, ◌∙◌, subst, arith}
use Rattle.std.proofs.lemmas.List.{append-nil, drop_more, length-append, map-append, take_more}
use Rattle.sql_ast.specs.Names.{same_name}
use Rattle.sql_meaning.specs.Occurrences.{Indexes}
use Rattle.sql_meaning.specs.Scopes.{Shape}
use Rattle.sql_meaning.specs.declared.column_index.Occurrence.{Occurrence}
use Rattle.sql_names.specs.Places.{Span, names_in, onward, span_in, width}
use Rattle.sql_names.specs.Ranges.{shape}
use Rattle.sql_names.specs.declared.range.Range.{Range}

next_there : (ranges : List Range) (i : ℕ) (x : Range) → i < length ranges → x ≡ get_or ranges i x → drop i ranges ≡ x ∷ drop (i + 1) ranges
next_there ranges i x low is = drop_more ranges i x low ∙ ap (λ (y : Range). y ∷ drop (i + 1) ranges) (sym is)

-- ---- widths

-- the columns from a range on are its own and those after it
pub width_next : (ranges : List Range) (i : ℕ) (x : Range) → i < length ranges → x ≡ get_or ranges i x → width (shape (drop i ranges)) ≡ length x.columns + width (shape (drop (i + 1) ranges))
width_next ranges i x low is = ap (λ (rs : List Range). width (shape rs)) (next_there ranges i x low is) ∙ length-append x.columns (names_in (shape (drop (i + 1) ranges)))

-- ---- spans

onward_twice : (m n : ℕ) (o : Option Span) → onward m (onward n o) ≡ onward (m + n) o
onward_twice m n None = refl
onward_twice m n (Some s) = ap (λ (k : ℕ). Some (record { scope = s.scope; first = k; columns = s.columns })) (omega arith)

-- a range of another name is passed over
pub span_next : (name : List ℕ) (first : ℕ) (ranges : List Range) (i : ℕ) (x : Range) → i < length ranges → x ≡ get_or ranges i x → same_name x.name name ≡ false
    → onward first (span_in name (shape (drop i ranges))) ≡ onward (first + length x.columns) (span_in name (shape (drop (i + 1) ranges)))
span_next name first ranges i x low is other =
    ap (λ (rs : List Range). onward first (span_in name (shape rs))) (next_there ranges i x low is)
    ∙ ap (λ (b : Bool). onward first (cond b (Some (record { scope = 0; first = 0; columns = x.columns })) (onward (length x.columns) (span_in name (shape (drop (i + 1) ranges)))))) other
    ∙ onward_twice first (length x.columns) (span_in name (shape (drop (i + 1) ranges)))

-- a range of the name is the one
pub span_here : (name : List ℕ) (first : ℕ) (ranges : List Range) (i : ℕ) (x : Range) → i < length ranges → x ≡ get_or ranges i x → same_name x.name name ≡ true
    → onward first (span_in name (shape (drop i ranges))) ≡ Some (record { scope = 0; first = first; columns = x.columns })
span_here name first ranges i x low is found =
    ap (λ (rs : List Range). onward first (span_in name (shape rs))) (next_there ranges i x low is)
    ∙ ap (λ (b : Bool). onward first (cond b (Some (record { scope = 0; first = 0; columns = x.columns })) (onward (length x.columns) (span_in name (shape (drop (i + 1) ranges)))))) found
    ∙ ap (λ (k : ℕ). Some (record { scope = 0; first = k; columns = x.columns })) (omega arith)

-- ---- indexes

pub names_append : (xs ys : Shape) → names_in (xs ++ ys) ≡ names_in xs ++ names_in ys
names_append [] ys = refl
names_append (x ∷ xs) ys = ap (λ (names : List (Option (List ℕ))). x.1 ++ names) (names_append xs ys) ∙ sym (append_assoc x.1 (names_in xs) (names_in ys))

-- the columns of the ranges up to the next
names_next : (ranges : List Range) (i : ℕ) (x : Range) → i < length ranges → x ≡ get_or ranges i x → names_in (shape (take (i + 1) ranges)) ≡ names_in (shape (take i ranges)) ++ x.columns
names_next ranges i x low is =
    ap (λ (rs : List Range). names_in (shape rs)) (take_more ranges i x low ∙ ap (λ (y : Range). take i ranges ++ y ∷ []) (sym is))
    ∙ ap names_in (map-append (λ (range : Range). (range.name, range.columns)) (take i ranges) (x ∷ []))
    ∙ names_append (shape (take i ranges)) (shape (x ∷ []))
    ∙ ap (λ (names : List (Option (List ℕ))). names_in (shape (take i ranges)) ++ names) (append-nil x.columns)

-- an index of columns and of those of the ranges up to one, with the columns of that range
pub indexed_next : (before : List (Option (List ℕ))) (ranges : List Range) (i : ℕ) (x : Range) (next : List (List ℕ × Occurrence) × ℕ) → i < length ranges → x ≡ get_or ranges i x
    → Indexes ((before ++ names_in (shape (take i ranges))) ++ x.columns) next → Indexes (before ++ names_in (shape (take (i + 1) ranges))) next
indexed_next before ranges i x next low is index =
    subst (λ (columns : List (Option (List ℕ))). Indexes columns next)
    (append_assoc before (names_in (shape (take i ranges))) x.columns ∙ ap (λ (names : List (Option (List ℕ))). before ++ names) (sym (names_next ranges i x low is))) index

-- an index of the columns of ranges side by side
pub indexed_both : (left right : List Range) (index : List (List ℕ × Occurrence) × ℕ) → Indexes (names_in (shape left) ++ names_in (shape right)) index → Indexes (names_in (shape (left ++ right))) index
indexed_both left right index both =
    subst (λ (columns : List (Option (List ℕ))). Indexes columns index)
    (sym (names_append (shape left) (shape right)) ∙ ap names_in (sym (map-append (λ (range : Range). (range.name, range.columns)) left right))) both

-- an index of the columns of one range
pub indexed_one : (name : List ℕ) (columns : List (Option (List ℕ))) (index : List (List ℕ × Occurrence) × ℕ) → Indexes columns index → Indexes (names_in ((name, columns) ∷ [])) index
indexed_one name columns index one = subst (λ (names : List (Option (List ℕ))). Indexes names index) (sym (append-nil columns)) one
