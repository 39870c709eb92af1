-- Bags of what absorbing makes, over the rows of a magic box: under each of its rows, the tag, they are the bags of what was absorbed.
use Rattle.std.specs.Prelude.{ℕ, suc, ◌≡◌, ◌==◌, ◌+◌, ◌++◌, true, false, List, drop, length, None, ⊤}
use Rattle.std.specs.List.{list_all, list_any}
use Rattle.sql_value.specs.declared.cell.Cell.{Cell}
use Rattle.row_bag.specs.AsSets.{stands}
use Rattle.row_bag.specs.Bags.{Agree}
use Rattle.row_bag.specs.Errors.{error_among, error_in}
use Rattle.row_bag.specs.Sets.{distinct, once, same_cells}
use Rattle.row_bag.specs.Tags.{led}
use Rattle.row_bag.specs.declared.tables.Table.{Table}
use Rattle.qgm_terms.specs.Terms.{Term}
use Rattle.qgm_core.specs.declared.kinds.SetOperator.{SetOperator}
use Rattle.qgm_core.specs.declared.kinds.SetOperator.TheVariants.{UnionAll, Union, IntersectAll, Intersect, ExceptAll, Except}
use Rattle.qgm_core.specs.Kinds.{is_F}
use Rattle.qgm_core.specs.declared.kinds.BoxKind.TheVariants.{Select}
use Rattle.qgm_core.specs.declared.node.Node.{Node}
use Rattle.qgm_core.specs.declared.owned.OwnedQuant.{OwnedQuant}
use Rattle.qgm_wellformed.specs.Shapes.{is_aggregate, is_column}
use Rattle.qgm_meaning.specs.Filters.{outer_of}
use Rattle.qgm_meaning.specs.Searches.{binds_cond}
use Rattle.qgm_meaning.specs.Meaning.{Family, combined, grouped_rows, key_cells, rows_by}
use Rattle.qgm_meaning.specs.Values.{Bag, Environment, bound}
use Rattle.qgm_meaning.specs.Widths.{Wide}
use Rattle.qgm_props.specs.Facts.{IsClean}
use Rattle.rule_magic.specs.Boxes.{absorbed_box, arms_box, counted_box, joined_box, keyed, left_box}
use Rattle.rule_magic.specs.Own.{AllOwn}

-- the rows of a magic box of w columns: each tuple once, clean, and no cell an error
pub record AreTags (w : ℕ) (tags : Bag) : Type 0 where
  pub wide : Wide w tags
  pub each_once : Agree same_cells tags (once same_cells tags)
  pub clean : IsClean tags
  pub sound : (u : List Cell) → stands same_cells u tags ≡ true → error_in u ≡ None

-- DISTINCT of tagged rows is, under each tag, DISTINCT of its rows
abbrev pub DistinctUnderTags : Type 0
DistinctUnderTags = (w : ℕ) (tags : Bag) (f : List Cell → Bag) → AreTags w tags → Agree same_cells (distinct same_cells (led tags f)) (led tags (λ u. distinct same_cells (f u)))

-- no error among the rows of both operands, where the operation would collapse for it
abbrev pub NoneAmong : SetOperator → Bag → Bag → Type 0
NoneAmong UnionAll xs ys = ⊤
NoneAmong Union xs ys = ⊤
NoneAmong IntersectAll xs ys = error_among error_in (xs ++ ys) ≡ None
NoneAmong Intersect xs ys = error_among error_in (xs ++ ys) ≡ None
NoneAmong ExceptAll xs ys = error_among error_in (xs ++ ys) ≡ None
NoneAmong Except xs ys = error_among error_in (xs ++ ys) ≡ None

-- G4: a set operation of tagged rows is, under each tag, that of its rows
abbrev pub SetsUnderTags : Type 0
SetsUnderTags =
    (w n m : ℕ) (form : SetOperator) (tags : Bag) (xs ys : List Cell → Bag) → AreTags w tags → ((u : List Cell) → stands same_cells u tags ≡ true → NoneAmong form (xs u) (ys u))
    → Agree same_cells (combined form m (led tags xs) (led tags ys)) (led tags (λ u. combined form n (xs u) (ys u)))

-- G3 with keys: groups of tagged rows whose first keys are the tag are, under each tag, the groups of its rows
abbrev pub KeyedGroupsUnderTags : Type 0
KeyedGroupsUnderTags =
    (w v q p k : ℕ) (head : List Term) (tags : Bag) (f : List Cell → Bag) (d : Environment) (e : List Cell → Environment)
    → AreTags w tags → ((u : List Cell) → Wide v (f u)) → AllOwn q head → list_all is_aggregate (drop (suc k) head) ≡ true
    → ((u : List Cell) → stands same_cells u tags ≡ true → error_among (λ cells. error_in (key_cells (suc k) head q (e u) cells)) (f u) ≡ None)
    → Agree same_cells (grouped_rows (w + suc k) (keyed q p w v head) p d (led tags f)) (led tags (λ u. grouped_rows (suc k) head q (e u) (f u)))

-- G2: a select whose first quantifier ranges over the magic box, and whose first heads are its columns
abbrev pub SelectsUnderTags : Type 0
SelectsUnderTags =
    (tables : List Table) (s : Family) (b w : ℕ) (a : OwnedQuant) (c : Node) (env : Environment) → is_F a.kind ≡ true → list_any (λ r. r.id == a.id) c.quants ≡ false → AreTags w (s a.id env)
    → Agree same_cells (rows_by Select tables (absorbed_box b a w c) s env) (led (s a.id env) (λ u. rows_by Select tables c s (bound a.id u env)))

-- an outer join by l and r that names a: three numbers, a head of columns, no node in its conditions
pub record IsOuter (a l r : ℕ) (c : Node) : Type 0 where
  pub al : (a == l) ≡ false
  pub ar : (a == r) ≡ false
  pub lr : (l == r) ≡ false
  pub columns : list_all is_column c.parts.head ≡ true
  pub conds : (q : ℕ) → list_any (binds_cond q) c.parts.conds.items ≡ false

-- G5: an outer join of a tagged left arm is, under each tag, that of its rows
abbrev pub LeftArmUnderTags : Type 0
LeftArmUnderTags =
    (w v a l r b : ℕ) (c : Node) (quants : List OwnedQuant) (tags : Bag) (xs : List Cell → Bag) (right : Bag) (env : Environment) → IsOuter a l r c → AreTags w tags → ((u : List Cell) → Wide v (xs u))
    → Agree same_cells (outer_of (left_box b a l w v c quants) env l r (led tags xs) right) (led tags (λ u. outer_of c (bound a u env) l r (xs u) right))

-- and of tagged arms, whose tags are the same
abbrev pub BothArmsUnderTags : Type 0
BothArmsUnderTags =
    (w v n a l r b : ℕ) (c : Node) (quants : List OwnedQuant) (tags : Bag) (xs ys : List Cell → Bag) (env : Environment) → IsOuter a l r c → AreTags w tags → ((u : List Cell) → Wide v (xs u)) → ((u : List Cell) → Wide n (ys u))
    → Agree same_cells (outer_of (arms_box b a l w v r n c quants) env l r (led tags xs) (led tags ys)) (led tags (λ u. outer_of c (bound a u env) l r (xs u) (ys u)))

-- G3 without keys: a select over the outer join of the tags with the groups by tags, of which counts are 0 where they are null, is, under each tag, the one group of its rows
abbrev pub SingleGroupsUnderTags : Type 0
SingleGroupsUnderTags =
    (tables : List Table) (s : Family) (w v q p om oc sq o m g b x : ℕ) (head : List Term) (tags : Bag) (f : List Cell → Bag) (d env : Environment) (e : List Cell → Environment)
    → (om == oc) ≡ false → AreTags (suc w) tags → ((u : List Cell) → Wide v (f u)) → AllOwn q head → list_all is_aggregate head ≡ true
    → ((u : List Cell) → stands same_cells u tags ≡ true → error_among (λ cells. error_in (key_cells 0 head q (e u) cells)) (f u) ≡ None)
    → s sq env ≡ outer_of (joined_box o om m oc g (suc w) (length head)) env om oc tags (grouped_rows (suc w) (keyed q p (suc w) v head) p d (led tags f))
    → Agree same_cells (rows_by Select tables (counted_box b sq (suc w) head x) s env) (led tags (λ u. grouped_rows 0 head q (e u) (f u)))
