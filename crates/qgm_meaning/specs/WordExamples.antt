-- What the words of laws come to on small bags.
use Rattle.std.specs.Prelude.{◌≡◌, ◌==◌, ◌++◌, true, false, List, [], ◌∷◌, pos, if◌then◌else◌, take, drop}
use Rattle.row_bag.specs.AsSets.{AgreeAsSets, is_clean, stands}
use Rattle.row_bag.specs.Filters.{passing}
use Rattle.row_bag.specs.Keys.{cells_at}
use Rattle.row_bag.specs.Tags.{led}
use Rattle.row_bag.specs.Bags.{bind, keep, row, unit}
use Rattle.row_bag.specs.Joins.{or_else}
use Rattle.row_bag.specs.Sets.{distinct, grouped, multiplicity, once, same_cells}
use Rattle.sql_value.specs.declared.cell.Cell.{Cell}
use Rattle.sql_value.specs.declared.cell.Cell.TheVariants.{Null, Err}
use Rattle.sql_value.specs.declared.cell.Kind.TheVariants as kind
use Rattle.sql_value.specs.declared.level.Level.TheVariants.{No, Yes, Division}
use Rattle.sql_value.specs.declared.order_key.SqlType.TheVariants.{Integer}
use Rattle.qgm_core.specs.declared.node.Node.{Node}
use Rattle.qgm_core.specs.declared.kinds.BoxKind.TheVariants.{Select}
use Rattle.qgm_meaning.specs.AsSets.{AllReadSets, SelectReadsSets}
use Rattle.qgm_meaning.specs.Examples.{box, e, f, lateral_boxes, n, pairs, rows, t, tables}
use Rattle.qgm_meaning.specs.Fits.{fits}
use Rattle.qgm_meaning.specs.Meaning.{bag_in, fold_cells, groups}
use Rattle.qgm_meaning.specs.Quantifiers.{NotLateral}
use Rattle.qgm_meaning.specs.Satisfies.{are_of, have_values}
use Rattle.qgm_meaning.specs.Values.{Bag}
use Rattle.qgm_terms.specs.Terms.{Term, always, col, count_all, int, some}

-- SELECT the first column of T
abbrev select_boxes : List Node
select_boxes = box 1 Select [] (col 1 1 ∷ []) (f 1 2 ∷ []) ∷ t 2 ∷ []

-- the rows of T whose first cell is the tag
abbrev of_tag : List Cell → Bag
of_tag tag = passing (λ cells. if same_cells (take 1 cells) tag then Yes else No) pairs

abbrev two_tags : Bag
two_tags = rows ((n 1 ∷ []) ∷ (n 3 ∷ []) ∷ [])

abbrev counted : Term
counted = count_all

pub record Words : Type 0 where
  -- a quantifier is bound to a row of its box, or not
  pub fitting : fits (bag_in tables select_boxes) select_boxes ((1, n 2 ∷ Null ∷ []) ∷ []) ≡ true
  pub not_fitting : fits (bag_in tables select_boxes) select_boxes ((1, n 2 ∷ n 5 ∷ []) ∷ []) ≡ false
  -- null is of each type, an error of none
  pub typed : are_of (Integer ∷ Integer ∷ []) (n 2 ∷ Null ∷ []) ≡ true
  pub not_typed : are_of (Integer ∷ Integer ∷ []) (n 2 ∷ Err kind.Division ∷ []) ≡ false
  pub with_values : have_values (2 ∷ []) (n 2 ∷ Null ∷ []) ≡ false
  pub clean : is_clean (row (n 1 ∷ []) Yes ∷ row (n 2 ∷ []) No ∷ []) ≡ true
  pub not_clean : is_clean (row (n 1 ∷ []) Division ∷ []) ≡ false
  -- a row at no isn't there
  pub standing : stands same_cells (n 1 ∷ []) (row (n 1 ∷ []) No ∷ row (n 1 ∷ []) Division ∷ []) ≡ true
  pub not_standing : stands same_cells (n 1 ∷ []) (row (n 1 ∷ []) No ∷ []) ≡ false
  -- the first column is no key of T: 1 occurs three times
  pub key_read : multiplicity same_cells (n 1 ∷ []) (bind pairs (λ cells. unit (cells_at (1 ∷ []) cells))) ≡ 3
  pub passes : passing (λ cells. Division) (rows ((n 1 ∷ []) ∷ [])) ≡ row (n 1 ∷ []) Division ∷ []
  pub tags : led two_tags (λ tag. rows ((n 7 ∷ tag) ∷ [])) ≡ rows ((n 1 ∷ n 7 ∷ n 1 ∷ []) ∷ (n 3 ∷ n 7 ∷ n 3 ∷ []) ∷ [])
  -- COUNT(*) of each tag, 0 of the tag without rows
  pub counts : led (once same_cells two_tags) (λ tag. groups 0 (counted ∷ []) 9 [] (of_tag tag)) ≡ rows ((n 1 ∷ n 3 ∷ []) ∷ (n 3 ∷ n 0 ∷ []) ∷ [])
  -- the same by one grouping, joined back
  pub joined_back :
      bind (once same_cells two_tags) (λ tag.
      or_else
      (bind (grouped same_cells (take 1) (λ tag members. tag ++ fold_cells 0 (counted ∷ []) 9 [] (bind members (λ cells. unit (drop 1 cells)))) (led (once same_cells two_tags) of_tag)) (λ cells. keep (if same_cells (take 1 cells) tag then Yes else No) (unit (tag ++ drop 1 cells))))
      (unit (tag ++ fold_cells 0 (counted ∷ []) 9 [] [])))
      ≡ rows ((n 1 ∷ n 3 ∷ []) ∷ (n 3 ∷ n 0 ∷ []) ∷ [])

-- EXISTS over box 2, which looks through T
abbrev pub exists_boxes : List Node
exists_boxes = box 1 Select (some 1 always ∷ []) (int (pos 9) ∷ []) (e 1 2 ∷ []) ∷ box 2 Select [] (col 3 1 ∷ []) (f 3 3 ∷ []) ∷ t 3 ∷ []

-- T beside T
abbrev pub pair_boxes : List Node
pair_boxes = box 1 Select [] (col 1 1 ∷ col 2 1 ∷ []) (f 1 2 ∷ f 2 2 ∷ []) ∷ t 2 ∷ []

-- premises of laws that a small graph meets
pub record Met : Type 0 where
  -- T and T with DISTINCT
  pub sets : AgreeAsSets same_cells (distinct same_cells pairs) pairs
  -- the rows of box 2 are read by a some
  pub reads : AllReadSets (λ b. b == 2) exists_boxes
  -- those of box 3 are not
  pub counts : SelectReadsSets (λ b. b == 3) (box 2 Select [] (col 3 1 ∷ []) (f 3 3 ∷ [])) → ⊥
  -- the two quantifiers over T may change places, and a lateral one not
  pub apart : NotLateral pair_boxes (box 1 Select [] (col 1 1 ∷ col 2 1 ∷ []) (f 1 2 ∷ f 2 2 ∷ [])) (f 1 2) (f 2 2 ∷ [])
  pub lateral : NotLateral lateral_boxes (box 1 Select [] (col 2 1 ∷ []) (f 1 3 ∷ f 2 2 ∷ [])) (f 1 3) (f 2 2 ∷ []) → ⊥
