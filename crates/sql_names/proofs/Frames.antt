-- Rows of a FROM as ranges, and the same as lists of cells.
use Rattle.std.proofs.Common.{◌≡◌, ℕ, suc, ◌+◌, nat_eq, Bool, true, false, cond, ◌||◌, List, [], ◌∷◌, ◌++◌, length, map, replicate, Option, refl, ap, ap₂, sym, ◌∙◌, arith}
use Rattle.std.specs.List.{flat_map, list_any}
use Rattle.std.proofs.lemmas.Grind.{flat_map-append}
use Rattle.std.proofs.lemmas.List.{length-append, length-map, map-append}
use Rattle.std.proofs.Math.Dec.{eqb-suc-suc, eqb-suc-zero, eqb-zero-suc}
use mathlib.Core.Path.{fun_ext}
use Rattle.sql_ast.specs.declared.name.Column.{Column}
use Rattle.sql_value.specs.declared.cell.Cell.{Cell}
use Rattle.sql_value.specs.declared.cell.Cell.TheVariants.{Null}
use Rattle.sql_meaning.specs.Groups.{grouping_cells, is_grouping}
use Rattle.sql_meaning.specs.Groups as g
use Rattle.sql_meaning.specs.Scopes.{Frame, Range, Scopes, Shape, filled, frame_cells, shape_of, shapes_of}
use Rattle.sql_meaning.specs.ResolvedMeaning as c
use Rattle.sql_names.specs.Agreed.{AreWideFrames, IsWideFrame, flat}
use Rattle.sql_names.specs.Places.{columns_in, grouping_places, means, names_in, places_meant, width}

-- a frame of these ranges, and its cells
pub record FrameIs (ranges : Shape) (frame : Frame) (row : List Cell) : Type 0 where
  pub shape : shape_of frame ≡ ranges
  pub cells : frame_cells frame ≡ row
  pub wide : IsWideFrame frame

-- the same of all scopes
pub record Fits (shapes : List Shape) (scopes : Scopes) (rows : List (List Cell)) : Type 0 where
  pub shape : shapes_of scopes ≡ shapes
  pub cells : flat scopes ≡ rows
  pub wide : AreWideFrames scopes

pub fits_more : (ranges : Shape) (frame : Frame) (row : List Cell) (shapes : List Shape) (scopes : Scopes) (rows : List (List Cell))
    → FrameIs ranges frame row → Fits shapes scopes rows → Fits (ranges ∷ shapes) (frame ∷ scopes) (row ∷ rows)
fits_more ranges frame row shapes scopes rows f h = record {
  shape = ap₂ (λ (x : Shape) (xs : List Shape). x ∷ xs) f.shape h.shape;
  cells = ap₂ (λ (x : List Cell) (xs : List (List Cell)). x ∷ xs) f.cells h.cells;
  wide = (f.wide, h.wide);
}

pub fits_none : Fits [] [] []
fits_none = record { shape = refl; cells = refl; wide = tt }

-- ---- one row beside another

wide_append : (f h : Frame) → IsWideFrame f → IsWideFrame h → IsWideFrame (f ++ h)
wide_append [] h v w = w
wide_append (range ∷ f) h v w = (v.0, wide_append f h v.1 w)

pub beside : (r s : Shape) (f : Frame) (xs : List Cell) (h : Frame) (ys : List Cell) → FrameIs r f xs → FrameIs s h ys → FrameIs (r ++ s) (f ++ h) (xs ++ ys)
beside r s f xs h ys v w = record {
  shape = map-append (λ (range : Range). (range.name, range.columns)) f h ∙ ap₂ (λ (x y : Shape). x ++ y) v.shape w.shape;
  cells = flat_map-append (λ (range : Range). range.cells) f h ∙ ap₂ (λ (x y : List Cell). x ++ y) v.cells w.cells;
  wide = wide_append f h v.wide w.wide;
}

pub no_range : FrameIs [] [] []
no_range = record { shape = refl; cells = refl; wide = tt }

append_nil : {A : Type 0} (xs : List A) → xs ++ [] ≡ xs
append_nil [] = refl
append_nil (x ∷ xs) = ap (λ ys. x ∷ ys) (append_nil xs)

pub one_range : (name : List ℕ) (columns : List (Option (List ℕ))) (row : List Cell) → length row ≡ length columns
    → FrameIs ((name, columns) ∷ []) (record { name = name; columns = columns; cells = row } ∷ []) row
one_range name columns row h = record { shape = refl; cells = append_nil row; wide = (h, tt) }

-- ---- one cell in all columns

map_replicate : {A : Type 0} (x : Cell) (xs : List A) (n : ℕ) → map (λ _. x) xs ++ replicate n x ≡ replicate (length xs + n) x
map_replicate x [] n = ap (λ (m : ℕ). replicate m x) (omega arith)
map_replicate x (y ∷ ys) n = let same : suc (length ys + n) ≡ suc (length ys) + n = omega arith in ap (λ (zs : List Cell). x ∷ zs) (map_replicate x ys n) ∙ ap (λ (m : ℕ). replicate m x) same

pub in_all : (x : Cell) (ranges : Shape) → FrameIs ranges (filled x ranges) (replicate (width ranges) x)
in_all x ranges = record { shape = shaped ranges; cells = celled ranges; wide = wide ranges }
  where
    shaped : (r : Shape) → shape_of (filled x r) ≡ r
    shaped [] = refl
    shaped (range ∷ r) = ap (λ (s : Shape). range ∷ s) (shaped r)

    celled : (r : Shape) → frame_cells (filled x r) ≡ replicate (width r) x
    celled [] = refl
    celled (range ∷ r) =
        ap (λ (xs : List Cell). map (λ _. x) range.1 ++ xs) (celled r)
        ∙ map_replicate x range.1 (width r)
        ∙ ap (λ (n : ℕ). replicate n x) (sym (length-append range.1 (names_in r)))

    wide : (r : Shape) → IsWideFrame (filled x r)
    wide [] = tt
    wide (range ∷ r) = (length-map range.1 (λ _. x), wide r)

-- ---- grouping cells

abbrev Columns : Type 0
Columns = List (List ℕ × Option (List ℕ))

-- null in all columns that aren't grouping columns
abbrev keyed : List Column → Columns → List Cell → List Cell
keyed by (t ∷ cols) (x ∷ xs) = cond (list_any (λ d. means d t) by) x Null ∷ keyed by cols xs
keyed by cols xs = []

keyed_append : (by : List Column) (name : List ℕ) (cs : List (Option (List ℕ))) (rest : Columns) (xs ys : List Cell) → length xs ≡ length cs
    → keyed by (map (λ column. (name, column)) cs ++ rest) (xs ++ ys) ≡ grouping_cells by name cs xs ++ keyed by rest ys
keyed_append by name [] rest [] ys h = refl
keyed_append by name [] rest (x ∷ xs) ys h = absurd (omega arith)
keyed_append by name (column ∷ cs) rest [] ys h = absurd (omega arith)
keyed_append by name (column ∷ cs) rest (x ∷ xs) ys h =
    ap (λ (zs : List Cell). cond (is_grouping by name column) x Null ∷ zs) (keyed_append by name cs rest xs ys (omega arith))

key_cells : (by : List Column) (frame : Frame) → IsWideFrame frame → frame_cells (g.key by frame) ≡ keyed by (columns_in (shape_of frame)) (frame_cells frame)
key_cells by [] wide = refl
key_cells by (range ∷ frame) wide =
    ap (λ (xs : List Cell). grouping_cells by range.name range.columns range.cells ++ xs) (key_cells by frame wide.1)
    ∙ sym (keyed_append by range.name range.columns (columns_in (shape_of frame)) range.cells (frame_cells frame) wide.0)

-- ---- places of grouping columns

any_append : {A : Type 0} (p : A → Bool) (xs ys : List A) → list_any p (xs ++ ys) ≡ (list_any p xs || list_any p ys)
any_append p [] ys = refl
any_append p (x ∷ xs) ys = elim (p x) as (λ b. (b || list_any p (xs ++ ys)) ≡ ((b || list_any p xs) || list_any p ys)) [ true ↦ refl | false ↦ any_append p xs ys ]

any_flat : {A B : Type 0} (p : B → Bool) (f : A → List B) (xs : List A) → list_any p (flat_map f xs) ≡ list_any (λ x. list_any p (f x)) xs
any_flat p f [] = refl
any_flat p f (x ∷ xs) = any_append p (f x) (flat_map f xs) ∙ ap (λ (b : Bool). list_any p (f x) || b) (any_flat p f xs)

any_same : {A : Type 0} (p q : A → Bool) → ((x : A) → p x ≡ q x) → (xs : List A) → list_any p xs ≡ list_any q xs
any_same p q same xs = ap (λ r. list_any r xs) (fun_ext same)

none_zero : (ns : List ℕ) → list_any (nat_eq 0) (map suc ns) ≡ false
none_zero [] = refl
none_zero (n ∷ ns) = ap (λ (b : Bool). b || list_any (nat_eq 0) (map suc ns)) (eqb-zero-suc n) ∙ none_zero ns

each_less : (i : ℕ) (ns : List ℕ) → list_any (nat_eq (suc i)) (map suc ns) ≡ list_any (nat_eq i) ns
each_less i [] = refl
each_less i (n ∷ ns) = ap₂ (λ (a b : Bool). a || b) (eqb-suc-suc i n) (each_less i ns)

first_meant : (d : Column) (t : List ℕ × Option (List ℕ)) (cols : Columns) → list_any (nat_eq 0) (places_meant d (t ∷ cols)) ≡ means d t
first_meant d t cols =
    elim (means d t) as (λ b. list_any (nat_eq 0) (cond b (0 ∷ []) [] ++ map suc (places_meant d cols)) ≡ b) [ true ↦ refl | false ↦ none_zero (places_meant d cols) ]

later_meant : (i : ℕ) (d : Column) (t : List ℕ × Option (List ℕ)) (cols : Columns) → list_any (nat_eq (suc i)) (places_meant d (t ∷ cols)) ≡ list_any (nat_eq i) (places_meant d cols)
later_meant i d t cols =
    elim (means d t) as (λ b. list_any (nat_eq (suc i)) (cond b (0 ∷ []) [] ++ map suc (places_meant d cols)) ≡ list_any (nat_eq i) (places_meant d cols)) [
      | true ↦ ap (λ (b : Bool). b || list_any (nat_eq (suc i)) (map suc (places_meant d cols))) (eqb-suc-zero i) ∙ each_less i (places_meant d cols)
      | false ↦ each_less i (places_meant d cols)
    ]

masked_less : (ms ns : List ℕ) → ((i : ℕ) → list_any (nat_eq (suc i)) ms ≡ list_any (nat_eq i) ns) → (i j : ℕ) → j ≡ suc i → (xs : List Cell) → c.masked_from j ms xs ≡ c.masked_from i ns xs
masked_less ms ns same i j e [] = refl
masked_less ms ns same i j e (x ∷ xs) =
    ap₂ (λ (b : Bool) (zs : List Cell). cond b x Null ∷ zs)
    (ap (λ (k : ℕ). list_any (nat_eq k) ms) e ∙ same i)
    (masked_less ms ns same (i + 1) (j + 1) (omega arith) xs)

keyed_masked : (by : List Column) (cols : Columns) (xs : List Cell) → length xs ≡ length cols → keyed by cols xs ≡ c.masked_from 0 (flat_map (λ d. places_meant d cols) by) xs
keyed_masked by [] [] h = refl
keyed_masked by [] (x ∷ xs) h = absurd (omega arith)
keyed_masked by (t ∷ cols) [] h = absurd (omega arith)
keyed_masked by (t ∷ cols) (x ∷ xs) h =
    ap₂ (λ (b : Bool) (zs : List Cell). cond b x Null ∷ zs)
    (sym (any_flat (nat_eq 0) (λ d. places_meant d (t ∷ cols)) by ∙ any_same (λ d. list_any (nat_eq 0) (places_meant d (t ∷ cols))) (λ d. means d t) (λ d. first_meant d t cols) by))
    (keyed_masked by cols xs (omega arith)
    ∙ sym (masked_less (flat_map (λ d. places_meant d (t ∷ cols)) by) (flat_map (λ d. places_meant d cols) by)
    (λ i. any_flat (nat_eq (suc i)) (λ d. places_meant d (t ∷ cols)) by
    ∙ any_same (λ d. list_any (nat_eq (suc i)) (places_meant d (t ∷ cols))) (λ d. list_any (nat_eq i) (places_meant d cols)) (λ d. later_meant i d t cols) by
    ∙ sym (any_flat (nat_eq i) (λ d. places_meant d cols) by))
    0 (0 + 1) (omega arith) xs))

masked_key : (by : List Column) (ranges : Shape) (xs : List Cell) → c.masked_from 0 (flat_map (λ d. places_meant d (columns_in ranges)) by) xs ≡ c.key (grouping_places by ranges) xs
masked_key [] ranges xs = refl
masked_key (d ∷ by) ranges xs = refl

grouping_length : (by : List Column) (name : List ℕ) (cs : List (Option (List ℕ))) (xs : List Cell) → length xs ≡ length cs → length (grouping_cells by name cs xs) ≡ length cs
grouping_length by name [] [] h = refl
grouping_length by name [] (x ∷ xs) h = absurd (omega arith)
grouping_length by name (column ∷ cs) [] h = absurd (omega arith)
grouping_length by name (column ∷ cs) (x ∷ xs) h = ap suc (grouping_length by name cs xs (omega arith))

key_wide : (by : List Column) (frame : Frame) → IsWideFrame frame → IsWideFrame (g.key by frame)
key_wide by [] wide = tt
key_wide by (range ∷ frame) wide = (grouping_length by range.name range.columns range.cells wide.0, key_wide by frame wide.1)

key_shape : (by : List Column) (frame : Frame) → shape_of (g.key by frame) ≡ shape_of frame
key_shape by [] = refl
key_shape by (range ∷ frame) = ap (λ (s : Shape). (range.name, range.columns) ∷ s) (key_shape by frame)

columns_length : (frame : Frame) → IsWideFrame frame → length (frame_cells frame) ≡ length (columns_in (shape_of frame))
columns_length [] wide = refl
columns_length (range ∷ frame) wide =
    length-append range.cells (frame_cells frame)
    ∙ ap₂ ◌+◌ (wide.0 ∙ sym (length-map range.columns (λ column. (range.name, column)))) (columns_length frame wide.1)
    ∙ sym (length-append (map (λ column. (range.name, column)) range.columns) (columns_in (shape_of frame)))

pub key_is : (by : List Column) (ranges : Shape) (frame : Frame) (row : List Cell) → FrameIs ranges frame row → FrameIs ranges (g.key by frame) (c.key (grouping_places by ranges) row)
key_is by ranges frame row h = record {
  shape = key_shape by frame ∙ h.shape;
  cells = key_cells by frame h.wide
      ∙ keyed_masked by (columns_in (shape_of frame)) (frame_cells frame) (columns_length frame h.wide)
      ∙ masked_key by (shape_of frame) (frame_cells frame)
      ∙ ap₂ (λ (r : Shape) (xs : List Cell). c.key (grouping_places by r) xs) h.shape h.cells;
  wide = key_wide by frame h.wide;
}
