-- Small graphs, and what they come to.
use Rattle.std.specs.Prelude.{◌≡◌, ℕ, pos, codes, true, false, List, [], ◌∷◌, map}
use Rattle.row_bag.specs.Bags.{row}
use Rattle.row_bag.specs.declared.tables.Table.{Table}
use Rattle.sql_value.specs.declared.cell.Cell.{Cell}
use Rattle.sql_value.specs.declared.cell.Cell.TheVariants.{Int, Null, Err}
use Rattle.sql_value.specs.declared.cell.Kind.TheVariants as kind
use Rattle.sql_value.specs.declared.level.Level.TheVariants.{No, Yes, Division}
use Rattle.qgm_core.specs.Boxes.{QueryGraph}
use Rattle.qgm_core.specs.declared.node.Node.{Node}
use Rattle.qgm_core.specs.declared.owned.OwnedQuant.{OwnedQuant}
use Rattle.qgm_core.specs.declared.kinds.QuantKind.TheVariants.{F, E, S}
use Rattle.qgm_core.specs.declared.kinds.Distinct.TheVariants.{Preserve}
use Rattle.qgm_core.specs.declared.kinds.Role.TheVariants.{Plain}
use Rattle.sql_value.specs.declared.order_key.SqlType.TheVariants.{Integer}
use Rattle.qgm_core.specs.declared.kinds.BoxKind.{BoxKind}
use Rattle.qgm_core.specs.declared.kinds.BoxKind.TheVariants.{Base, Select, Group, SetOp, OuterJoin}
use Rattle.qgm_core.specs.declared.kinds.SetOperator.{SetOperator}
use Rattle.qgm_core.specs.declared.kinds.SetOperator.TheVariants.{UnionAll, Intersect, IntersectAll, ExceptAll, Except}
use Rattle.qgm_meaning.specs.Meaning.{root_bag}
use Rattle.qgm_meaning.specs.Plain.{plain}
use Rattle.qgm_meaning.specs.Scope.{loose}
use Rattle.qgm_terms.specs.Terms.{Term, int, col, both, count_all, fold, single, sum, least, each_once, all_of, scalar, Cond, always, compare, equal, some}
use Rattle.qgm_terms.specs.declared.tree.Op.TheVariants.{Div}
use Rattle.qgm_meaning.specs.Values.{Bag}

abbrev pub n : ℕ → Cell
n k = Int (pos k)

abbrev i : ℕ → Term
i k = int (pos k)

abbrev pub rows : List (List Cell) → Bag
rows tuples = map (λ c. row c Yes) tuples

abbrev pub pairs : Bag
pairs = rows ((n 1 ∷ n 5 ∷ []) ∷ (n 2 ∷ Null ∷ []) ∷ (n 1 ∷ n 7 ∷ []) ∷ (n 1 ∷ n 5 ∷ []) ∷ [])

abbrev pub tables : List Table
tables = record { name = codes "T"; bag = pairs } ∷ record { name = codes "N"; bag = [] } ∷ []

-- box b of a kind, with its conditions, head and quantifiers
abbrev pub box : ℕ → BoxKind → List Cond → List Term → List OwnedQuant → Node
box b k conds head quants = record { id = b; parts = record { kind = k; distinct = Preserve; role = Plain; conds = record { items = conds; spare = 0 }; head = head }; quants = quants }

abbrev pub stored : List ℕ → BoxKind
stored name = Base (record { name = name; types = Integer ∷ Integer ∷ []; keys = []; not_null = [] })

abbrev pub f : ℕ → ℕ → OwnedQuant
f q b = record { id = q; kind = F; over = b }

abbrev pub e : ℕ → ℕ → OwnedQuant
e q b = record { id = q; kind = E; over = b }

abbrev s : ℕ → ℕ → OwnedQuant
s q b = record { id = q; kind = S; over = b }

abbrev pub t : ℕ → Node
t b = box b (stored (codes "T")) [] [] []

abbrev empty : ℕ → Node
empty b = box b (stored (codes "N")) [] [] []

-- the bag of the first of the boxes
abbrev of : List Node → Bag
of boxes = root_bag tables (record { boxes = boxes; root = 1; names = []; order = [] })

-- a set operation on the first columns of T and of the rows of T with a 7
abbrev set : SetOperator → Bag
set form = of (box 1 (SetOp form (Integer ∷ [])) [] [] (f 1 2 ∷ f 2 3 ∷ []) ∷ box 2 Select [] (col 3 1 ∷ []) (f 3 4 ∷ []) ∷ box 3 Select (compare equal (col 4 2) (i 7) ∷ []) (col 4 1 ∷ []) (f 4 4 ∷ []) ∷ t 4 ∷ [])

-- the same with a cell that is 1 / 0 on the right
abbrev failing : SetOperator → Bag
failing form = of (box 1 (SetOp form (Integer ∷ [])) [] [] (f 1 2 ∷ f 2 3 ∷ []) ∷ box 2 Select [] (col 3 1 ∷ []) (f 3 4 ∷ []) ∷ box 3 Select [] (both Div (i 1) (i 0) ∷ []) [] ∷ t 4 ∷ [])

pub record Computed : Type 0 where
  -- a base gives the rows of its table
  pub bases : of (t 1 ∷ []) ≡ pairs
  -- SELECT the second column of the rows with 1
  pub selects : of (box 1 Select (compare equal (col 1 1) (i 1) ∷ []) (col 1 2 ∷ []) (f 1 2 ∷ []) ∷ t 2 ∷ []) ≡ row (n 5 ∷ []) Yes ∷ row (Null ∷ []) No ∷ row (n 7 ∷ []) Yes ∷ row (n 5 ∷ []) Yes ∷ []
  -- by the first column: COUNT(*), SUM(DISTINCT), MIN of the second
  pub groups : of (box 1 (Group 1) [] (col 1 1 ∷ count_all ∷ fold sum each_once (col 1 2) ∷ fold least all_of (col 1 2) ∷ []) (f 1 2 ∷ []) ∷ t 2 ∷ []) ≡ rows ((n 2 ∷ n 1 ∷ Null ∷ Null ∷ []) ∷ (n 1 ∷ n 3 ∷ n 12 ∷ n 5 ∷ []) ∷ [])
  -- without keys one group of nothing
  pub groups_nothing : of (box 1 (Group 0) [] (count_all ∷ fold sum all_of (col 1 2) ∷ fold single all_of (col 1 2) ∷ []) (f 1 2 ∷ []) ∷ empty 2 ∷ []) ≡ rows ((n 0 ∷ Null ∷ Null ∷ []) ∷ [])
  -- `single` of several
  pub groups_single : of (box 1 (Group 1) [] (col 1 1 ∷ fold single all_of (col 1 2) ∷ []) (f 1 2 ∷ []) ∷ t 2 ∷ []) ≡ rows ((n 2 ∷ Null ∷ []) ∷ (n 1 ∷ Err kind.Cardinality ∷ []) ∷ [])
  -- a key that is an error: one row, all of whose cells are it
  pub groups_failing : of (box 1 (Group 1) [] (both Div (col 1 1) (i 0) ∷ count_all ∷ []) (f 1 2 ∷ []) ∷ t 2 ∷ []) ≡ row (Err kind.Division ∷ Err kind.Division ∷ []) Division ∷ []
  pub sets_intersect_all : set IntersectAll ≡ rows ((n 1 ∷ []) ∷ [])
  pub sets_except_all : set ExceptAll ≡ rows ((n 2 ∷ []) ∷ (n 1 ∷ []) ∷ (n 1 ∷ []) ∷ [])
  -- collapsed
  pub sets_failing : failing Except ≡ row (Err kind.Division ∷ []) Division ∷ []
  pub sets_failing_both : failing Intersect ≡ row (Err kind.Division ∷ []) Division ∷ []
  pub sets_not_failing : failing UnionAll ≡ rows ((n 1 ∷ []) ∷ (n 2 ∷ []) ∷ (n 1 ∷ []) ∷ (n 1 ∷ []) ∷ (Err kind.Division ∷ []) ∷ [])
  -- a left join on the second column: the null meets nothing
  pub joins : of (box 1 OuterJoin (compare equal (col 1 2) (col 2 1) ∷ []) (col 1 1 ∷ col 2 1 ∷ []) (f 1 2 ∷ f 2 3 ∷ []) ∷ t 2 ∷ box 3 Select [] (i 7 ∷ []) [] ∷ []) ≡ row (n 1 ∷ Null ∷ []) Yes ∷ row (n 2 ∷ Null ∷ []) Yes ∷ row (n 1 ∷ n 7 ∷ []) Yes ∷ row (n 1 ∷ Null ∷ []) Yes ∷ []
  -- partners at no by their own level: the left row stands once with nulls
  pub joins_nothing : of (box 1 OuterJoin [] (col 1 1 ∷ col 2 1 ∷ []) (f 1 2 ∷ f 2 3 ∷ []) ∷ t 2 ∷ box 3 Select (compare equal (i 1) (i 2) ∷ []) (i 7 ∷ []) [] ∷ []) ≡ rows ((n 1 ∷ Null ∷ []) ∷ (n 2 ∷ Null ∷ []) ∷ (n 1 ∷ Null ∷ []) ∷ (n 1 ∷ Null ∷ []) ∷ [])
  -- partners at an error level are partners
  pub joins_failing : of (box 1 OuterJoin (compare equal (both Div (i 1) (i 0)) (i 1) ∷ []) (col 2 1 ∷ []) (f 1 2 ∷ f 2 3 ∷ []) ∷ box 2 Select [] (i 5 ∷ []) [] ∷ box 3 Select [] (i 7 ∷ []) [] ∷ []) ≡ row (n 7 ∷ []) Division ∷ []
  -- a scalar of four rows, and of none
  pub scalars : of (box 1 Select [] (scalar 1 ∷ scalar 2 ∷ []) (s 1 2 ∷ s 2 3 ∷ []) ∷ t 2 ∷ empty 3 ∷ []) ≡ rows ((Err kind.Cardinality ∷ Null ∷ []) ∷ [])
  -- of two equal rows: an error too
  pub scalars_two : of (box 1 Select [] (scalar 1 ∷ []) (s 1 2 ∷ []) ∷ box 2 Select (compare equal (col 3 2) (i 5) ∷ []) (col 3 1 ∷ []) (f 3 3 ∷ []) ∷ t 3 ∷ []) ≡ rows ((Err kind.Cardinality ∷ []) ∷ [])
  -- a lateral quantifier: for each row of T its own second column
  pub lateral : of (box 1 Select [] (col 2 1 ∷ []) (f 1 3 ∷ f 2 2 ∷ []) ∷ box 2 Select [] (col 1 2 ∷ []) [] ∷ t 3 ∷ []) ≡ rows ((n 5 ∷ []) ∷ (Null ∷ []) ∷ (n 7 ∷ []) ∷ (n 5 ∷ []) ∷ [])
  -- EXISTS over a row at an error level
  pub exists : of (box 1 Select (some 1 always ∷ []) (i 9 ∷ []) (e 1 2 ∷ []) ∷ box 2 Select (compare equal (both Div (i 1) (i 0)) (i 1) ∷ []) (i 3 ∷ []) [] ∷ []) ≡ row (n 9 ∷ []) Division ∷ []
  -- beside a row that is there it isn't an error
  pub exists_beside : of (box 1 Select (some 1 always ∷ []) (i 9 ∷ []) (e 1 2 ∷ []) ∷ box 2 (SetOp UnionAll (Integer ∷ [])) [] [] (f 2 3 ∷ f 3 4 ∷ []) ∷ box 3 Select (compare equal (both Div (i 1) (i 0)) (i 1) ∷ []) (i 3 ∷ []) [] ∷ t 4 ∷ []) ≡ row (n 9 ∷ []) Yes ∷ []

abbrev pub lateral_boxes : List Node
lateral_boxes = box 1 Select [] (col 2 1 ∷ []) (f 1 3 ∷ f 2 2 ∷ []) ∷ box 2 Select [] (col 1 2 ∷ []) [] ∷ t 3 ∷ []

-- the lateral quantifier stands before the one that it looks up
abbrev turned_boxes : List Node
turned_boxes = box 1 Select [] (col 2 1 ∷ []) (f 2 2 ∷ f 1 3 ∷ []) ∷ box 2 Select [] (col 1 2 ∷ []) [] ∷ t 3 ∷ []

-- a column of an E quantifier beside its node
abbrev strayed_boxes : List Node
strayed_boxes = box 1 Select (some 1 always ∷ []) (col 1 1 ∷ []) (e 1 2 ∷ []) ∷ t 2 ∷ []

pub record Looses : Type 0 where
  pub below : loose lateral_boxes 2 1 ≡ true
  pub seen : loose lateral_boxes 1 1 ≡ false
  pub turned : loose turned_boxes 1 1 ≡ true
  pub strayed : loose strayed_boxes 1 1 ≡ true

abbrev graph_of : List Node → QueryGraph
graph_of boxes = record { boxes = boxes; root = 1; names = []; order = [] }

pub record Counted : Type 0 where
  -- all are closed: as many as there are
  pub closed : plain tables (graph_of (box 1 Select [] (col 1 1 ∷ []) (f 1 2 ∷ []) ∷ box 2 (Group 0) [] (count_all ∷ []) (f 2 3 ∷ []) ∷ t 3 ∷ [])) ≡ 3
  -- the open box once for each of four rows
  pub lateral : plain tables (graph_of lateral_boxes) ≡ 6
  -- an open box under E, once for each of four rows
  pub correlated : plain tables (graph_of (box 1 Select (some 2 always ∷ []) (col 1 1 ∷ []) (f 1 3 ∷ e 2 2 ∷ []) ∷ box 2 Select (compare equal (col 1 2) (i 5) ∷ []) (i 1 ∷ []) [] ∷ t 3 ∷ [])) ≡ 6
