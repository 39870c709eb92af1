-- Rows of queries: equal tuples of a width.
use Rattle.std.proofs.Common.{◌≡◌, ℕ, Bool, true, false, List, [], ◌∷◌, ◌++◌, length, map, replicate, Option, refl, ap, ap₂, ◌∙◌}
use Rattle.std.proofs.lemmas.List.{length-replicate}
use Rattle.row_bag.specs.Errors.{error_in}
use Rattle.row_bag.specs.Sets.{collapsed, except, except_all, intersect, intersect_all, same_cells}
use Rattle.row_bag.specs.declared.row.Row.{Row}
use Rattle.sql_ast.specs.declared.word.SetOperator.{SetOperator}
use Rattle.sql_ast.specs.declared.word.SetOperator.TheVariants as operator
use Rattle.sql_value.specs.declared.cell.Cell.{Cell}
use Rattle.sql_value.specs.declared.cell.Cell.TheVariants.{Err}
use Rattle.sql_value.specs.declared.cell.Kind.{Kind}
use Rattle.sql_meaning.specs.Joins.{combined, distinct_if, intersected}
use Rattle.sql_meaning.specs.Meaning as n
use Rattle.sql_meaning.specs.ResolvedMeaning as c
use Rattle.sql_names.proofs.Named.{Same}
use Rattle.sql_names.proofs.Related.{Related, related_append, related_collapsed, related_distinct, related_equal, related_except, related_except_all, related_intersect, related_intersect_all, related_more, related_union}

pub same_rows : (width : ℕ) (xs ys : List (Row (List Cell))) → Related (Same width) xs ys → xs ≡ ys
same_rows width xs ys h = related_equal xs ys (related_more (Same width) (λ a b. a ≡ b) (λ a b s. s.0) xs ys h)

tuples_tell : (width : ℕ) (a b d e : List Cell) → Same width a b → Same width d e → same_cells a d ≡ same_cells b e
tuples_tell width a b d e h k = ap₂ same_cells h.0 k.0

errors_tell : (width : ℕ) (a b : List Cell) → Same width a b → error_in a ≡ error_in b
errors_tell width a b h = ap error_in h.0

pub distinct_related : (width : ℕ) (distinct : Bool) (xs ys : List (Row (List Cell))) → Related (Same width) xs ys → Related (Same width) (distinct_if distinct xs) (distinct_if distinct ys)
distinct_related width true xs ys h = related_distinct (Same width) same_cells same_cells (tuples_tell width) xs ys h
distinct_related width false xs ys h = h

-- the tuple that an error is
failed_tuple : (columns : List (Option (List ℕ))) (width : ℕ) → length columns ≡ width → (k : Kind) → Same width (n.failed_cells columns k) (c.failed_cells width k)
failed_tuple columns width e k = (filled_in columns ∙ ap (λ (m : ℕ). replicate m (Err k)) e, ap length (filled_in columns) ∙ length-replicate (length columns) (Err k) ∙ e)
  where
    filled_in : {A : Type 0} (xs : List A) → map (λ _. Err k) xs ≡ replicate (length xs) (Err k)
    filled_in [] = refl
    filled_in (x ∷ xs) = ap (λ (zs : List Cell). Err k ∷ zs) (filled_in xs)

module _ (columns : List (Option (List ℕ))) (width : ℕ) (e : length columns ≡ width) (xs us ys vs : List (Row (List Cell))) (h : Related (Same width) xs ys) (k : Related (Same width) us vs) where
  -- one row of the greatest error among both operands, where there is one
  or_failed : (rows others : List (Row (List Cell))) → Related (Same width) rows others
      → Related (Same width) (collapsed error_in (n.failed_cells columns) (xs ++ us) rows) (collapsed error_in (c.failed_cells width) (ys ++ vs) others)
  or_failed rows others r =
      related_collapsed (Same width) (Same width) error_in error_in (errors_tell width) (n.failed_cells columns) (c.failed_cells width) (failed_tuple columns width e)
      (xs ++ us) (ys ++ vs) (related_append (Same width) xs ys us vs h k) rows others r

  pub combined_related : (op : SetOperator) (all : Bool) → Related (Same width) (combined op all (n.failed_cells columns) xs us) (combined op all (c.failed_cells width) ys vs)
  combined_related operator.Union true = related_append (Same width) xs ys us vs h k
  combined_related operator.Union false = related_union (Same width) same_cells same_cells (tuples_tell width) xs us ys vs h k
  combined_related operator.Except true = or_failed (except_all same_cells xs us) (except_all same_cells ys vs) (related_except_all (Same width) same_cells same_cells (tuples_tell width) xs us ys vs h k)
  combined_related operator.Except false = or_failed (except same_cells xs us) (except same_cells ys vs) (related_except (Same width) same_cells same_cells (tuples_tell width) xs us ys vs h k)

  pub intersected_related : (all : Bool) → Related (Same width) (intersected all (n.failed_cells columns) xs us) (intersected all (c.failed_cells width) ys vs)
  intersected_related true = or_failed (intersect_all same_cells xs us) (intersect_all same_cells ys vs) (related_intersect_all (Same width) same_cells same_cells (tuples_tell width) xs us ys vs h k)
  intersected_related false = or_failed (intersect same_cells xs us) (intersect same_cells ys vs) (related_intersect (Same width) same_cells same_cells (tuples_tell width) xs us ys vs h k)
