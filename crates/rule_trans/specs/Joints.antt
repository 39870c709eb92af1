-- The equalities of a box, with what is known of their columns, as the code has them.
use Rattle.std.specs.Prelude.{ℕ, ◌+◌, ◌==◌, ◌&&◌, ◌||◌, not, Bool, List, [], ◌∷◌, Option, Some, None}
use Rattle.qgm_core.specs.Boxes.{QueryGraph}
use Rattle.qgm_core.specs.declared.node.Node.{Node}
use Rattle.qgm_edit_laws.specs.Graph.{binds_row}
use Rattle.qgm_terms.specs.declared.named.Column.{Column}
use Rattle.rule_api.specs.Picks.{row}
use Rattle.rule_api.specs.Rules.{Pair}
use Rattle.rule_trans.specs.EqualColumnsPlaces.{infers_free, pair_if}
use Rattle.rule_trans.specs.Equalities.{is_same, is_some}
use Rattle.rule_trans.specs.declared.equalities.Equality.{Equality}
use Rattle.rule_trans.specs.declared.joints.Joint.{Joint}
use Rattle.rule_trans.specs.declared.joints.Side.{Side}

-- what is known of a column
abbrev pub side_of : QueryGraph → Node → Column → Side
side_of g n a = record { column = a; is_row = binds_row a.quant n.quants; is_free = infers_free g a }

abbrev pub joint_of : QueryGraph → Node → Option Equality → Option Joint
joint_of g n None = None
joint_of g n (Some e) = Some (record { left = side_of g n e.left; right = side_of g n e.right })

-- b is m, and no other two are one; a and c are of two F quantifiers
abbrev pub are_three : Side → Side → Side → Side → Bool
are_three a b m c = ((((is_same b.column m.column && not (is_same a.column b.column)) && not (is_same m.column c.column)) && not (a.column.quant == c.column.quant)) && a.is_row) && c.is_row

-- of a = b and m = c follows that a = c, which isn't there yet
abbrev pub joins : (Column → Column → Bool) → Side → Side → Side → Side → Bool
joins there a b m c = (are_three a b m c && not (there a.column c.column)) && b.is_free

-- what follows of two equalities, the first column from the first of them
abbrev pub implied_by : (Column → Column → Bool) → Joint → Joint → Option Equality
implied_by there e f =
    pair_if (joins there e.left e.right f.left f.right) e.left.column f.right.column
    (pair_if (joins there e.left e.right f.right f.left) e.left.column f.left.column
    (pair_if (joins there e.right e.left f.left f.right) e.right.column f.right.column
    (pair_if (joins there e.right e.left f.right f.left) e.right.column f.left.column None)))

abbrev pub implied : (Column → Column → Bool) → Option Joint → Option Joint → Option Equality
implied there None f = None
implied there (Some e) None = None
implied there (Some e) (Some f) = implied_by there e f

abbrev pub passes : (Column → Column → Bool) → Option Joint → Option Joint → Bool
passes there e f = is_some (implied there e f)

-- they have a column in common
abbrev pub shares : Joint → Joint → Bool
shares e f = ((is_same e.left.column f.left.column || is_same e.left.column f.right.column) || is_same e.right.column f.left.column) || is_same e.right.column f.right.column

-- the places of the first of these conjuncts, whose number is first, with those behind it
abbrev pub row_from : (Column → Column → Bool) → ℕ → List (Option Joint) → List Pair
row_from there first [] = []
row_from there first (e ∷ es) = row (passes there e) first (first + 1) es
