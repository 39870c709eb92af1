-- Two graphs that are built of one query differ in numbers alone, where the types that are told of expressions do.
use Rattle.std.specs.Prelude.{◌≡◌, ℕ, List, Option}
use Rattle.sql_value.specs.declared.order_key.OrderKey.{OrderKey}
use Rattle.sql_value.specs.declared.order_key.SqlType.{SqlType}
use Rattle.sql_value.specs.declared.order_key.SqlType.TheVariants.{Integer, Varchar}
use Rattle.sql_meaning.specs.ResolvedTrees.{Query}
use Rattle.graph_alike.specs.Alike.{Like, SameButNumbers, Stands}
use Rattle.qgm_core.specs.Boxes.{Ordered, QueryGraph}
use Rattle.qgm_terms.specs.Terms as t
use Rattle.qgm_terms.specs.Terms.{Term}
use Rattle.qgm_translation.specs.Law.{IsBuiltOf}
use Rattle.qgm_translation.specs.Sources.{Sources}
use Rattle.qgm_translation.specs.Typing.{aggregate_type, op_type}

-- two graphs that are built of one query, over sources that share other boxes and tell one type of expressions that differ in numbers alone
abbrev pub BuiltAlike : Type 0
BuiltAlike =
    (sources : Sources) (shared : List ℕ → ℕ) (typed : Term → SqlType) (query : Query) (names : List (Option (List ℕ))) (order : List OrderKey) (g h : QueryGraph)
    → IsBuiltOf sources query names order g → IsBuiltOf (record sources { shared = shared; typed = typed }) query names order h → Ordered g.boxes → Ordered h.boxes
    → ((x y : Term) → Like (Stands g h) x y → sources.typed x ≡ typed y) → SameButNumbers g h

-- ---- sources that tell one type of expressions that differ in numbers alone

-- the type of an expression, by those of the columns of quantifiers; that of a CASE is that of its last result
abbrev pub type_by : (ℕ → ℕ → SqlType) → Term → SqlType
type_by at (t.int n) = Integer
type_by at (t.text s) = Varchar
type_by at t.null_int = Integer
type_by at t.null_text = Varchar
type_by at (t.col q k) = at q k
type_by at (t.scalar q) = at q 1
type_by at (t.both op x y) = op_type op
type_by at (t.minus_of x) = Integer
type_by at (t.choose arms x) = type_by at x
type_by at t.count_all = Integer
type_by at (t.fold f taken x) = aggregate_type f (type_by at x)

-- types so told are the same, where the columns of quantifiers that stand for one another have one type
abbrev pub ToldAlike : Type 0
ToldAlike = (g h : QueryGraph) (at to : ℕ → ℕ → SqlType) → ((q p k : ℕ) → Stands g h q p → at q k ≡ to p k) → (x y : Term) → Like (Stands g h) x y → type_by at x ≡ type_by to y
