-- Places of grouping columns, counted from a first place.
use Rattle.std.proofs.Common.{◌≡◌, ℕ, suc, ◌+◌, Bool, true, false, cond, List, [], ◌∷◌, ◌++◌, length, map, Option, refl, ap, ap₂, sym, ◌∙◌, arith, append_assoc}
use Rattle.std.proofs.lemmas.List.{length-append, length-map, map-append}
use Rattle.sql_ast.specs.declared.name.Column.{Column}
use Rattle.sql_names.specs.Places.{columns_in, means, names_in, places_from, places_meant, width}
use Rattle.sql_names.specs.Shapes.{shape}
use Rattle.sql_names.specs.declared.range.Range.{Range}

pub from_append : (i : ℕ) (d : Column) (xs ys : List (List ℕ × Option (List ℕ))) → places_from i d (xs ++ ys) ≡ places_from i d xs ++ places_from (i + length xs) d ys
from_append i d [] ys = ap (λ (n : ℕ). places_from n d ys) (omega arith)
from_append i d (x ∷ xs) ys =
    let same : (i + 1) + length xs ≡ i + suc (length xs) = omega arith in
    ap (λ (ns : List ℕ). cond (means d x) (i ∷ []) [] ++ ns) (from_append (i + 1) d xs ys ∙ ap (λ (n : ℕ). places_from (i + 1) d xs ++ places_from n d ys) same)
    ∙ sym (append_assoc (cond (means d x) (i ∷ []) []) (places_from (i + 1) d xs) (places_from (i + suc (length xs)) d ys))

moved : (i : ℕ) (b : Bool) → map suc (cond b (i ∷ []) []) ≡ cond b (suc i ∷ []) []
moved i true = refl
moved i false = refl

all_moved : (i j : ℕ) (d : Column) (ts : List (List ℕ × Option (List ℕ))) → j ≡ suc i → map suc (places_from i d ts) ≡ places_from j d ts
all_moved i j d [] e = refl
all_moved i j d (t ∷ ts) e =
    map-append suc (cond (means d t) (i ∷ []) []) (places_from (i + 1) d ts)
    ∙ ap₂ (λ (xs ys : List ℕ). xs ++ ys) (moved i (means d t) ∙ ap (λ (n : ℕ). cond (means d t) (n ∷ []) []) (sym e)) (all_moved (i + 1) (j + 1) d ts (omega arith))

pub from_none : (d : Column) (ts : List (List ℕ × Option (List ℕ))) → places_from 0 d ts ≡ places_meant d ts
from_none d [] = refl
from_none d (t ∷ ts) = ap (λ (ns : List ℕ). cond (means d t) (0 ∷ []) [] ++ ns) (sym (all_moved 0 (0 + 1) d ts (omega arith)) ∙ ap (map suc) (from_none d ts))

-- the columns of a range, each by the name of the range and its own
abbrev own_columns : Range → List (List ℕ × Option (List ℕ))
own_columns range = map (λ (column : Option (List ℕ)). (range.name, column)) range.columns

-- those of a range, and then those of the ranges after it
pub ranges_meant : (i n : ℕ) (d : Column) (ranges : List Range) (range : Range) (rest : List Range) (old between new : List ℕ) → ranges ≡ range ∷ rest → n ≡ i + length range.columns
    → between ≡ old ++ places_from i d (map (λ (column : Option (List ℕ)). (range.name, column)) range.columns) → new ≡ between ++ places_from n d (columns_in (shape rest)) → new ≡ old ++ places_from i d (columns_in (shape ranges))
ranges_meant i n d ranges range rest old between new whole count own later =
    let start : n ≡ i + length (own_columns range) = count ∙ ap (λ (m : ℕ). i + m) (sym (length-map range.columns (λ (column : Option (List ℕ)). (range.name, column)))) in
    later
    ∙ ap (λ (zs : List ℕ). zs ++ places_from n d (columns_in (shape rest))) own
    ∙ append_assoc old (places_from i d (own_columns range)) (places_from n d (columns_in (shape rest)))
    ∙ ap (λ (zs : List ℕ). old ++ zs) (ap (λ (m : ℕ). places_from i d (own_columns range) ++ places_from m d (columns_in (shape rest))) start ∙ sym (from_append i d (own_columns range) (columns_in (shape rest))))
    ∙ ap (λ (rs : List Range). old ++ places_from i d (columns_in (shape rs))) (sym whole)

-- the columns of a range and of those after it
pub width_more : (ranges : List Range) (range : Range) (rest : List Range) → ranges ≡ range ∷ rest → width (shape ranges) ≡ length range.columns + width (shape rest)
width_more ranges range rest e = ap (λ (rs : List Range). width (shape rs)) e ∙ length-append range.columns (names_in (shape rest))
