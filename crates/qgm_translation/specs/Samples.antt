-- A query of two levels with a group, a LEFT JOIN, an EXISTS and a view, its graph, and their rows.
--   V is SELECT U.C, U.D FROM U WHERE U.D >= 8
--   SELECT T.A, COUNT(*), MAX(V.D) FROM T LEFT JOIN V ON V.C = T.A WHERE EXISTS (SELECT 1 FROM U WHERE U.D >= T.B) GROUP BY T.A HAVING COUNT(*) >= 1
use Rattle.std.specs.Prelude.{◌≡◌, ℕ, pos, codes, false, List, [], ◌∷◌, map, if◌then◌else◌, Option, Some, None}
use Rattle.shared_types.specs.declared.compare.CmpOp.TheVariants as op
use Rattle.row_bag.specs.Bags.{row}
use Rattle.row_bag.specs.declared.tables.Table.{Table}
use Rattle.sql_ast.specs.Names.{same_name}
use Rattle.sql_ast.specs.declared.word.SetFunction.TheVariants as function
use Rattle.sql_value.specs.declared.cell.Cell.{Cell}
use Rattle.sql_value.specs.declared.cell.Cell.TheVariants.{Int, Null}
use Rattle.sql_value.specs.declared.level.Level.TheVariants.{Yes}
use Rattle.sql_value.specs.declared.order_key.SqlType.{SqlType}
use Rattle.sql_value.specs.declared.order_key.SqlType.TheVariants.{Integer, Varchar}
use Rattle.sql_meaning.specs.ResolvedMeaning.{rows}
use Rattle.sql_meaning.specs.ResolvedTrees.{Query}
use Rattle.sql_meaning.specs.ResolvedTrees as q
use Rattle.sql_meaning.specs.ResolvedViews.{ViewTree, body_of, known_of}
use Rattle.qgm_core.specs.Boxes.{QueryGraph}
use Rattle.qgm_core.specs.Edits.{range}
use Rattle.qgm_core.specs.declared.node.Node.{Node}
use Rattle.qgm_core.specs.declared.owned.OwnedQuant.{OwnedQuant}
use Rattle.qgm_core.specs.declared.kinds.BaseTable.{BaseTable}
use Rattle.qgm_core.specs.declared.kinds.BoxKind.{BoxKind}
use Rattle.qgm_core.specs.declared.kinds.BoxKind.TheVariants.{Base, Select, Group, OuterJoin}
use Rattle.qgm_core.specs.declared.kinds.Distinct.TheVariants.{Preserve}
use Rattle.qgm_core.specs.declared.kinds.Role.TheVariants.{Plain}
use Rattle.qgm_core.specs.declared.kinds.QuantKind.TheVariants.{F, E}
use Rattle.qgm_terms.specs.Terms.{Term, Cond}
use Rattle.qgm_terms.specs.Terms as t
use Rattle.qgm_terms.specs.declared.tree.Op.TheVariants.{Add, Sub, Mul, Div, Cat}
use Rattle.qgm_meaning.specs.Meaning.{root_bag}
use Rattle.qgm_meaning.specs.Values.{Bag}
use Rattle.qgm_translation.specs.Law.{IsBuiltOf}
use Rattle.qgm_translation.specs.Sources.{Sources}

abbrev pub n : ℕ → Cell
n k = Int (pos k)

abbrev pub there : List (List Cell) → Bag
there tuples = map (λ cells. row cells Yes) tuples

-- T of the columns A and B, U of the columns C and D
abbrev pub tables : List Table
tables =
    record { name = codes "T"; bag = there ((n 1 ∷ n 5 ∷ []) ∷ (n 2 ∷ n 6 ∷ []) ∷ (n 1 ∷ n 99 ∷ []) ∷ []) }
    ∷ record { name = codes "U"; bag = there ((n 1 ∷ n 7 ∷ []) ∷ (n 1 ∷ n 8 ∷ []) ∷ []) } ∷ []

abbrev pub views : List ViewTree
views =
    record {
      name = codes "V";
      body = q.block false (q.one_value (q.column 0 0) (q.one_value (q.column 0 1) q.no_value)) (q.one_from (q.named (codes "U")) q.no_from) (q.compare (q.column 0 1) op.Ge (q.number (pos 8)));
    } ∷ []

abbrev pub stored : List ℕ → BaseTable
stored name = record { name = name; types = Integer ∷ Integer ∷ []; keys = []; not_null = [] }

-- all columns are INTEGER
abbrev pub typed : Term → SqlType
typed (t.text x) = Varchar
typed t.null_text = Varchar
typed (t.both Cat x y) = Varchar
typed (t.both Add x y) = Integer
typed (t.both Sub x y) = Integer
typed (t.both Mul x y) = Integer
typed (t.both Div x y) = Integer
typed (t.int k) = Integer
typed t.null_int = Integer
typed (t.col q k) = Integer
typed (t.scalar q) = Integer
typed (t.minus_of x) = Integer
typed (t.choose xs x) = typed x
typed t.count_all = Integer
typed (t.fold f once x) = Integer

-- the boxes that are shared: 6 is T's, 7 is U's, 8 is V's
abbrev pub sources : Sources
sources = record {
  columns = λ name. 2;
  body = body_of views;
  stored = stored;
  shared = λ name. if same_name (codes "T") name then 6 else if same_name (codes "U") name then 7 else 8;
  typed = typed;
}

-- a row of the FROM is (T.A, T.B, V.C, V.D)
abbrev pub query : Query
query =
    q.grouped false
    (q.one_value (q.column 0 0) (q.one_value q.count_all (q.one_value (q.aggregate function.Max false (q.column 0 3)) q.no_value)))
    (q.one_from (q.left_joined (q.named (codes "T")) (q.named (codes "V")) 2 (q.compare (q.column 0 2) op.Eq (q.column 0 0))) q.no_from)
    (q.exists (q.block false (q.one_value (q.number (pos 1)) q.no_value) (q.one_from (q.named (codes "U")) q.no_from) (q.compare (q.column 0 1) op.Ge (q.column 1 1))))
    (Some (0 ∷ [])) 4
    (q.compare q.count_all op.Ge (q.number (pos 1)))

abbrev pub box : ℕ → BoxKind → List Cond → List Term → List OwnedQuant → Node
box b kind conds head quants = record { id = b; parts = record { kind = kind; distinct = Preserve; role = Plain; conds = record { items = conds; spare = 0 }; head = head }; quants = quants }

abbrev pub base : ℕ → List ℕ → Node
base b name = box b (Base (stored name)) [] [] []

abbrev pub boxes : List Node
boxes =
    box 1 Select (t.compare t.at_least (t.col 1 4) (t.int (pos 1)) ∷ []) (t.col 1 1 ∷ t.col 1 2 ∷ t.col 1 3 ∷ []) (range 1 F 2 ∷ [])
    ∷ box 2 (Group 1) [] (t.col 2 1 ∷ t.count_all ∷ t.fold t.greatest t.all_of (t.col 2 2) ∷ t.count_all ∷ []) (range 2 F 3 ∷ [])
    ∷ box 3 Select (t.some 4 t.always ∷ []) (t.col 3 1 ∷ t.col 3 4 ∷ []) (range 3 F 4 ∷ range 4 E 5 ∷ [])
    ∷ box 4 OuterJoin (t.compare t.equal (t.col 6 1) (t.col 5 1) ∷ []) (t.col 5 1 ∷ t.col 5 2 ∷ t.col 6 1 ∷ t.col 6 2 ∷ []) (range 5 F 6 ∷ range 6 F 8 ∷ [])
    ∷ box 5 Select (t.compare t.at_least (t.col 7 2) (t.col 3 2) ∷ []) (t.int (pos 1) ∷ []) (range 7 F 7 ∷ [])
    ∷ box 8 Select (t.compare t.at_least (t.col 8 2) (t.int (pos 8)) ∷ []) (t.col 8 1 ∷ t.col 8 2 ∷ []) (range 8 F 7 ∷ [])
    ∷ base 6 (codes "T") ∷ base 7 (codes "U") ∷ []

abbrev pub names : List (Option (List ℕ))
names = Some (codes "A") ∷ None ∷ None ∷ []

abbrev pub graph : QueryGraph
graph = record { boxes = boxes; root = 1; names = names; order = [] }

abbrev pub answer : Bag
answer = there ((n 1 ∷ n 1 ∷ n 8 ∷ []) ∷ (n 2 ∷ n 1 ∷ Null ∷ []) ∷ [])

pub record Sampled : Type 0 where
  pub of_query : rows (known_of views tables) query [] ≡ answer
  pub of_graph : root_bag tables graph ≡ answer
  pub built : IsBuiltOf sources query names [] graph
