-- J2: its places, by a test of two conjuncts.
use Rattle.std.specs.Prelude.{ℕ, ◌&&◌, not, if◌then◌else◌, Bool, true, false, List, [], Option, Some, None}
use Rattle.std.specs.List.{list_any}
use Rattle.qgm_core.specs.Boxes.{QueryGraph, box_of, owns, range_in}
use Rattle.qgm_core.specs.Kinds.{is_F, is_base}
use Rattle.list_laws.specs.Lists.{first}
use Rattle.qgm_core.specs.declared.node.Node.{Node}
use Rattle.qgm_core.specs.declared.owned.OwnedQuant.{OwnedQuant}
use Rattle.qgm_terms.specs.Terms.{Cond, col, compare, equal}
use Rattle.qgm_terms.specs.declared.named.Column.{Column}
use Rattle.rule_api.specs.Picks.{cross}
use Rattle.rule_api.specs.Rules.{Pair}
use Rattle.rule_trans.specs.EqualColumnsPlaces.{infers_free, takes}
use Rattle.rule_trans.specs.Equalities.{equated, is_equality, is_same}
use Rattle.rule_trans.specs.Literals.{FixedPair, LiteralValue, fixed, has_fixed, is_some, is_there, term_of}
use Rattle.rule_trans.specs.declared.equalities.Equality.{Equality}

-- a box that is found is a base
abbrev pub is_base_box : Option Node → Bool
is_base_box None = false
is_base_box (Some n) = is_base n.parts.kind

-- an F quantifier over a base
abbrev pub is_over_base : QueryGraph → OwnedQuant → Bool
is_over_base g r = if is_F r.kind then is_base_box (box_of r.over g) else false

abbrev pub is_found_over_base : QueryGraph → Option OwnedQuant → Bool
is_found_over_base g None = false
is_found_over_base g (Some r) = is_over_base g r

-- q is an F, of whichever box, over a base
unfoldable pub ranges_over_base : QueryGraph → ℕ → Bool
ranges_over_base g q = is_found_over_base g (range_in q (first (owns q) g.boxes))

-- else it has no place
abbrev pub may_have : Node → Bool
may_have n = (takes n && list_any is_equality n.parts.conds.items) && has_fixed n.parts.conds.items

-- of a = b, and of f, the column and the literal that are equal, follows that a is that literal, which isn't there yet
abbrev pub joins : QueryGraph → Node → Column → Column → FixedPair → Bool
joins g n a b f = ((is_same b f.0 && not (is_there a f.1 n.parts.conds.items)) && ranges_over_base g a.quant) && infers_free g b

abbrev pub fixed_if : Bool → Column → LiteralValue → Option FixedPair → Option FixedPair
fixed_if true a l other = Some (a, l)
fixed_if false a l other = other

-- what follows of an equality of columns, and of a column and a literal that are equal
abbrev pub implied_by : QueryGraph → Node → Equality → FixedPair → Option FixedPair
implied_by g n e f = fixed_if (joins g n e.left e.right f) e.left f.1 (fixed_if (joins g n e.right e.left f) e.right f.1 None)

abbrev pub implied_of : QueryGraph → Node → Option Equality → Option FixedPair → Option FixedPair
implied_of g n None f = None
implied_of g n (Some e) None = None
implied_of g n (Some e) (Some f) = implied_by g n e f

-- and of two conjuncts
abbrev pub implied : QueryGraph → Node → Cond → Cond → Option FixedPair
implied g n c d = implied_of g n (equated c) (fixed d)

abbrev pub passes : QueryGraph → Node → Cond → Cond → Bool
passes g n c d = is_some (implied g n c d)

abbrev pub pairs_in : QueryGraph → Option Node → List Pair
pairs_in g None = []
pairs_in g (Some n) = if takes n then cross (passes g n) n.parts.conds.items 1 n.parts.conds.items else []

-- the places of J2 at b
unfoldable pub equal_literal_pairs : QueryGraph → ℕ → List Pair
equal_literal_pairs g b = pairs_in g (box_of b g)

-- the condition that a column is a literal
abbrev pub equality : FixedPair → Cond
equality f = compare equal (col f.0.quant f.0.place) (term_of f.1)
