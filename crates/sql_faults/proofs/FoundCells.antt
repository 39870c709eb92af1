-- A name that is found once stands for a cell.
use Rattle.std.proofs.Common.{◌≡◌, ◌∙◌, ◌||◌, ◌⊎◌, ℕ, Bool, true, false, cond, List, [], ◌∷◌, map, filter, find, length, Option, Some, None, refl, sym, ap, subst, inl, inr, arith}
use Rattle.std.specs.Prelude.{⊤, All}
use Rattle.std.specs.List.{list_any}
use Rattle.sql_ast.specs.declared.name.Column.{Column}
use Rattle.sql_ast.specs.Names.{same_name}
use Rattle.sql_meaning.specs.Scopes.{Frame, Range, Scopes, Shape, cell_in, cell_named, cell_of_range, columns_in, columns_of_range, first_of, found, is_named, range_in, range_of, shape_of, shapes_of, unqualified}
use Rattle.sql_value.specs.declared.cell.Cell.{Cell}
use Rattle.sql_catalog.proofs.EachLaws.{Each, each_more, each_of_all}
use Rattle.sql_faults.proofs.Named.{names_or}
use Rattle.sql_faults.specs.FoundNames.{FoundOnce, IsFull, IsOne, StandsOnce, Visible, bearing, has_column, has_range, ranges_of, stands}
use Rattle.sql_faults.specs.Scopes.{is_some}

either_so : (a b : Bool) → (a || b) ≡ true → (a ≡ true) ⊎ (b ≡ true)
either_so true b h = inl refl
either_so false b h = inr h

some_first : {A : Type 0} (a b : Option A) → is_some a ≡ true → is_some (first_of a b) ≡ true
some_first None b h = absurd (cc)
some_first (Some x) b h = refl

some_second : {A : Type 0} (a b : Option A) → is_some b ≡ true → is_some (first_of a b) ≡ true
some_second None b h = h
some_second (Some x) b h = refl

cell_some : (name : List ℕ) (columns : List (Option (List ℕ))) (cells : List Cell) → length cells ≡ length columns → list_any (is_named name) columns ≡ true → is_some (cell_named name columns cells) ≡ true
cell_some name [] cells n h = absurd (cc)
cell_some name (c ∷ cs) [] n h = absurd (omega (arith, n))
cell_some name (c ∷ cs) (x ∷ xs) n h =
    elim (is_named name c) as (λ b. (b || list_any (is_named name) cs) ≡ true → is_some (cond b (Some x) (cell_named name cs xs)) ≡ true) [
      | true ↦ (λ k. refl)
      | false ↦ (λ k. cell_some name cs xs (let e : length xs ≡ length cs = omega (arith, n) in e) k)
    ] h

-- a name with or without a range is found once
abbrev Once : Option (List ℕ) → List ℕ → List Visible → Type 0
Once r name any = StandsOnce r name (find (λ (scope : Visible). stands r name scope.ranges) any)

-- ---- `c`

cell_in_some : (name : List ℕ) (frame : Frame) → Each IsFull frame → has_column name (shape_of frame) ≡ true → is_some (cell_in name frame) ≡ true
cell_in_some name [] full h = absurd (cc)
cell_in_some name (range ∷ frame) full h = elim (either_so (list_any (is_named name) range.columns) (has_column name (shape_of frame)) h) [
  | inl e ↦ some_first (cell_named name range.columns range.cells) (cell_in name frame) (cell_some name range.columns range.cells full.0 e)
  | inr e ↦ some_second (cell_named name range.columns range.cells) (cell_in name frame) (cell_in_some name frame full.1 e)
]

bare_some : (name : List ℕ) (any : List Visible) (scopes : Scopes) → ranges_of any ≡ shapes_of scopes → Each (Each IsFull) scopes → Once None name any → is_some (unqualified name scopes) ≡ true
bare_some name [] scopes e full once = absurd once
bare_some name (v ∷ vs) [] e full once = absurd (cc)
bare_some name (v ∷ vs) (frame ∷ scopes) e full once = at (has_column name v.ranges) refl (bare_some name vs scopes (let s : ranges_of vs ≡ shapes_of scopes = cc in s) full.1) once
  where
    at : (b : Bool) → has_column name v.ranges ≡ b → (Once None name vs → is_some (unqualified name scopes) ≡ true) → StandsOnce None name (cond b (Some v) (find (λ (scope : Visible). stands None name scope.ranges) vs)) → is_some (unqualified name (frame ∷ scopes)) ≡ true
    at true h outer k = some_first (cell_in name frame) (unqualified name scopes) (cell_in_some name frame full.0 (subst (λ (z : Shape). has_column name z ≡ true) (let s : v.ranges ≡ shape_of frame = cc in s) h))
    at false h outer k = some_second (cell_in name frame) (unqualified name scopes) (outer k)

-- ---- `r.c`

abbrev columns_found : Option Range → Option (List (Option (List ℕ)))
columns_found None = None
columns_found (Some range) = Some range.columns

frame_range : (r : List ℕ) (frame : Frame) → has_range r (shape_of frame) ≡ is_some (range_in r frame)
frame_range r [] = refl
frame_range r (range ∷ frame) =
    elim (same_name range.name r) as (λ b. (b || has_range r (shape_of frame)) ≡ is_some (cond b (Some range) (range_in r frame))) [
      | true ↦ refl
      | false ↦ frame_range r frame
    ]

frame_columns : (r : List ℕ) (frame : Frame) → columns_in r (shape_of frame) ≡ columns_found (range_in r frame)
frame_columns r [] = refl
frame_columns r (range ∷ frame) =
    elim (same_name range.name r) as (λ b. cond b (Some range.columns) (columns_in r (shape_of frame)) ≡ columns_found (cond b (Some range) (range_in r frame))) [
      | true ↦ refl
      | false ↦ frame_columns r frame
    ]

abbrev FullFound : Option Range → Type 0
FullFound None = ⊤
FullFound (Some range) = IsFull range

frame_full : (r : List ℕ) (frame : Frame) → Each IsFull frame → FullFound (range_in r frame)
frame_full r [] full = tt
frame_full r (range ∷ frame) full =
    elim (same_name range.name r) as (λ b. FullFound (cond b (Some range) (range_in r frame))) [
      | true ↦ full.0
      | false ↦ frame_full r frame full.1
    ]

-- where one column has a name, some column has it
one_any : (r name : List ℕ) (columns : List (Option (List ℕ))) (by : Option (List Column)) → IsOne by name (bearing name (r, columns)) → list_any (is_named name) columns ≡ true
one_any r name [] by h = absurd h
one_any r name (c ∷ cs) by h =
    elim (is_named name c) as (λ b. IsOne by name (map (λ (column : Option (List ℕ)). r) (cond b (c ∷ filter (is_named name) cs) (filter (is_named name) cs))) → (b || list_any (is_named name) cs) ≡ true) [
      | true ↦ (λ k. refl)
      | false ↦ (λ k. one_any r name cs by k)
    ] h

first_some : {A : Type 0} (x : A) (a b : Option A) → a ≡ Some x → first_of a b ≡ Some x
first_some x None b h = absurd (cc)
first_some x (Some y) b h = h

first_later : {A : Type 0} (a b : Option A) → is_some a ≡ false → first_of a b ≡ b
first_later None b h = refl
first_later (Some y) b h = absurd (cc)

ranged_some : (r name : List ℕ) (any : List Visible) (scopes : Scopes) → ranges_of any ≡ shapes_of scopes → Each (Each IsFull) scopes → Once (Some r) name any → is_some (cell_of_range name (range_of r scopes)) ≡ true
ranged_some r name [] scopes e full once = absurd once
ranged_some r name (v ∷ vs) [] e full once = absurd (cc)
ranged_some r name (v ∷ vs) (frame ∷ scopes) e full once = at (has_range r v.ranges) refl (ranged_some r name vs scopes (let s : ranges_of vs ≡ shapes_of scopes = cc in s) full.1) once
  where
    same : v.ranges ≡ shape_of frame
    same = cc

    here : (o : Option Range) → range_in r frame ≡ o → is_some o ≡ true → FullFound o → list_any (is_named name) (names_or (columns_found o) []) ≡ true → is_some (cell_of_range name (first_of o (range_of r scopes))) ≡ true
    here None q h full k = absurd (cc)
    here (Some range) q h full k = cell_some name range.columns range.cells full k

    at : (b : Bool) → has_range r v.ranges ≡ b → (Once (Some r) name vs → is_some (cell_of_range name (range_of r scopes)) ≡ true) → StandsOnce (Some r) name (cond b (Some v) (find (λ (scope : Visible). stands (Some r) name scope.ranges) vs)) → is_some (cell_of_range name (range_of r (frame ∷ scopes))) ≡ true
    at true h outer k =
        here (range_in r frame) refl (sym (frame_range r frame) ∙ sym (ap (has_range r) same) ∙ h) (frame_full r frame full.0)
        (subst (λ (found : Option (List (Option (List ℕ)))). list_any (is_named name) (names_or found []) ≡ true) (ap (columns_in r) same ∙ frame_columns r frame) (one_any r name (columns_of_range r (v.ranges ∷ [])) v.grouping k))
    at false h outer k =
        subst (λ (found : Option Range). is_some (cell_of_range name found) ≡ true) (sym (first_later (range_in r frame) (range_of r scopes) (sym (frame_range r frame) ∙ sym (ap (has_range r) same) ∙ h)))
        (outer k)

by_some : (r : Option (List ℕ)) (name : List ℕ) (any : List Visible) (scopes : Scopes) → ranges_of any ≡ shapes_of scopes → Each (Each IsFull) scopes → Once r name any → is_some (found r name scopes) ≡ true
by_some None name any scopes e full once = bare_some name any scopes e full once
by_some (Some r) name any scopes e full once = ranged_some r name any scopes e full once

pub found_some : (c : Column) → (any : List Visible) → (scopes : Scopes) → ranges_of any ≡ shapes_of scopes → All (All IsFull) scopes → FoundOnce any c → is_some (found c.range c.name scopes) ≡ true
found_some c any scopes e full once = by_some c.range c.name any scopes e (each_more (All IsFull) (Each IsFull) (λ (frame : Frame) h. each_of_all IsFull frame h) scopes (each_of_all (All IsFull) scopes full)) once
