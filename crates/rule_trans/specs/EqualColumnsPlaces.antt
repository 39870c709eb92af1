-- J1: its places, by a test of two conjuncts.
use Rattle.std.specs.Prelude.{ℕ, ◌==◌, ◌&&◌, ◌||◌, not, if◌then◌else◌, Bool, true, false, List, [], Option, Some, None}
use Rattle.qgm_core.specs.Boxes.{QueryGraph, box_of}
use Rattle.qgm_core.specs.Kinds.{is_fed, is_select}
use Rattle.qgm_core.specs.declared.kinds.BoxKind.{BoxKind}
use Rattle.qgm_core.specs.declared.kinds.BoxKind.TheVariants.{Base, Select, Group, SetOp, OuterJoin}
use Rattle.qgm_core.specs.declared.node.Node.{Node}
use Rattle.qgm_edit_laws.specs.Graph.{binds_row}
use Rattle.qgm_props.specs.Inferred.{error_free_under}
use Rattle.qgm_props.proofs.Settled.{all-told}
use Rattle.qgm_terms.specs.Terms.{Cond, col, compare, equal}
use Rattle.qgm_terms.specs.declared.named.Column.{Column}
use Rattle.rule_api.specs.Picks.{grid}
use Rattle.rule_api.specs.Rules.{Pair}
use Rattle.rule_trans.specs.Equalities.{equated, has_two, is_same, is_some, is_there}
use Rattle.rule_trans.specs.declared.equalities.Equality.{Equality}

abbrev pub is_outer_join : BoxKind → Bool
is_outer_join (Base table) = false
is_outer_join Select = false
is_outer_join (Group keys) = false
is_outer_join (SetOp form types) = false
is_outer_join OuterJoin = true

-- a select or an outer join that isn't fed
abbrev pub takes : Node → Bool
takes n = (is_select n.parts.kind || is_outer_join n.parts.kind) && not (is_fed n.parts.role)

-- else it has no place
abbrev pub may_have : Node → Bool
may_have n = takes n && has_two n.parts.conds.items

-- it is inferred that a column holds no error
unfoldable pub infers_free : QueryGraph → Column → Bool
infers_free g b = error_free_under g.boxes (all-told g.boxes).0 b.quant b.place

-- of the columns a and b, and m and c: b is m, and no other two are one; a and c are of two F quantifiers of n
abbrev pub are_three : Node → Column → Column → Column → Column → Bool
are_three n a b m c = ((((is_same b m && not (is_same a b)) && not (is_same m c)) && not (a.quant == c.quant)) && binds_row a.quant n.quants) && binds_row c.quant n.quants

-- of a = b and m = c follows that a = c, which isn't there yet
abbrev pub joins : QueryGraph → Node → Column → Column → Column → Column → Bool
joins g n a b m c = (are_three n a b m c && not (is_there a c n.parts.conds.items)) && infers_free g b

abbrev pub pair_if : Bool → Column → Column → Option Equality → Option Equality
pair_if true a c other = Some (record { left = a; right = c })
pair_if false a c other = other

-- what follows of two equalities, the first column from the first of them
abbrev pub implied_by : QueryGraph → Node → Equality → Equality → Option Equality
implied_by g n e f =
    pair_if (joins g n e.left e.right f.left f.right) e.left f.right
    (pair_if (joins g n e.left e.right f.right f.left) e.left f.left
    (pair_if (joins g n e.right e.left f.left f.right) e.right f.right
    (pair_if (joins g n e.right e.left f.right f.left) e.right f.left None)))

abbrev pub implied_of : QueryGraph → Node → Option Equality → Option Equality → Option Equality
implied_of g n None f = None
implied_of g n (Some e) None = None
implied_of g n (Some e) (Some f) = implied_by g n e f

-- and of two conjuncts
abbrev pub implied : QueryGraph → Node → Cond → Cond → Option Equality
implied g n c d = implied_of g n (equated c) (equated d)

abbrev pub passes : QueryGraph → Node → Cond → Cond → Bool
passes g n c d = is_some (implied g n c d)

abbrev pub pairs_in : QueryGraph → Option Node → List Pair
pairs_in g None = []
pairs_in g (Some n) = if takes n then grid (passes g n) 1 n.parts.conds.items else []

-- the places of J1 at b
unfoldable pub equal_columns_pairs : QueryGraph → ℕ → List Pair
equal_columns_pairs g b = pairs_in g (box_of b g)

-- the condition that a and c are equal
abbrev pub equality : Equality → Cond
equality e = compare equal (col e.left.quant e.left.place) (col e.right.quant e.right.place)
