-- The shapes of boxes.
use Rattle.std.specs.Prelude.{ℕ, ◌==◌, ◌+◌, ◌++◌, ◌&&◌, ◌||◌, nat_lt, nat_le, not, zero, suc, Bool, true, false, List, [], ◌∷◌, Option, Some, None, length, take, drop}
use Rattle.std.specs.List.{list_any, list_all, flat_map}
use Rattle.qgm_core.specs.Boxes.{is_box, is_quant, owns, width}
use Rattle.qgm_core.specs.Free.{free_in}
use Rattle.qgm_core.specs.Kinds.{is_F, is_E, is_A, is_S, is_enforce, is_preserve, is_plain, is_magic}
use Rattle.list_laws.specs.Lists.{first}
use Rattle.qgm_core.specs.declared.kinds.BoxKind.{BoxKind}
use Rattle.qgm_core.specs.declared.kinds.BoxKind.TheVariants.{Base, Select, Group, SetOp, OuterJoin}
use Rattle.qgm_core.specs.declared.kinds.QuantKind.{QuantKind}
use Rattle.qgm_core.specs.declared.kinds.Role.{Role}
use Rattle.qgm_core.specs.declared.kinds.Role.TheVariants.{Plain, Magic, Fed}
use Rattle.qgm_core.specs.declared.node.Node.{Node}
use Rattle.qgm_core.specs.declared.owned.OwnedQuant.{OwnedQuant}
use Rattle.qgm_terms.specs.Named.{columns_in, names_in, nodes_in, nodes_in_cond}
use Rattle.qgm_terms.specs.Terms as t
use Rattle.qgm_terms.specs.Terms.{Term}
use Rattle.qgm_terms.specs.Wanted.{has_aggregate, has_aggregate_cond, reads, reads_cond}
use Rattle.qgm_terms.specs.declared.named.Column.{Column}
use Rattle.qgm_terms.specs.declared.named.QuantNode.{QuantNode}
use Rattle.qgm_terms.specs.declared.named.QuantNode.TheVariants as node

abbrev pub is_none : {X : Type 0} → List X → Bool
is_none [] = true
is_none (x ∷ xs) = false

abbrev pub is_column : Term → Bool
is_column (t.int n) = false
is_column (t.text s) = false
is_column t.null_int = false
is_column t.null_text = false
is_column (t.col q k) = true
is_column (t.scalar q) = false
is_column (t.both op a b) = false
is_column (t.minus_of a) = false
is_column (t.choose s a) = false
is_column t.count_all = false
is_column (t.fold f e a) = false

-- an aggregate, whose argument holds none
abbrev pub is_aggregate : Term → Bool
is_aggregate (t.int n) = false
is_aggregate (t.text s) = false
is_aggregate t.null_int = false
is_aggregate t.null_text = false
is_aggregate (t.col q k) = false
is_aggregate (t.scalar q) = false
is_aggregate (t.both op a b) = false
is_aggregate (t.minus_of a) = false
is_aggregate (t.choose s a) = false
is_aggregate t.count_all = true
is_aggregate (t.fold f e a) = not (has_aggregate a)

-- ---- quantifiers

-- q is a quantifier of these, of a kind that passes
abbrev pub is_among : (QuantKind → Bool) → ℕ → List OwnedQuant → Bool
is_among p q rs = list_any (λ r. is_quant q r && p r.kind) rs

abbrev pub all_F : List OwnedQuant → Bool
all_F rs = list_all (λ r. is_F r.kind) rs

-- m quantifiers, all F
abbrev pub are_F : ℕ → List OwnedQuant → Bool
are_F m rs = (length rs == m) && all_F rs

-- a scalar is of an S, some of an E, every of an A quantifier of the box
abbrev pub node_fits : List OwnedQuant → QuantNode → Bool
node_fits rs (node.Scalar q) = is_among is_S q rs
node_fits rs (node.Some q) = is_among is_E q rs
node_fits rs (node.Every q) = is_among is_A q rs

abbrev pub nodes_of : Node → List QuantNode
nodes_of n = flat_map nodes_in n.parts.head ++ flat_map nodes_in_cond n.parts.conds.items

-- the box looks q up, outside of a some or every of q
abbrev pub looks_up : ℕ → Node → Bool
looks_up q n = list_any (reads q) n.parts.head || list_any (reads_cond q) n.parts.conds.items

-- a column of an own quantifier is of an F, or stands in a some or every of it
abbrev pub columns_placed : Node → Bool
columns_placed n = list_all (λ r. is_F r.kind || not (looks_up r.id n)) n.quants

-- the head names own quantifiers alone
abbrev pub head_is_own : Node → Bool
head_is_own n = list_all (λ q. owns q n) (flat_map names_in n.parts.head)

abbrev pub is_unfolded : Node → Bool
is_unfolded n = not (list_any has_aggregate n.parts.head) && not (list_any has_aggregate_cond n.parts.conds.items)

-- an S quantifier ranges over b
abbrev pub is_scalar_in : List OwnedQuant → ℕ → Bool
is_scalar_in rs b = list_any (λ r. (r.over == b) && is_S r.kind) rs

abbrev pub is_scalar : List Node → ℕ → Bool
is_scalar boxes b = list_any (λ n. is_scalar_in n.quants b) boxes

-- ---- roles

abbrev pub magic_found : Option Node → Bool
magic_found None = false
magic_found (Some n) = is_magic n.parts.role

abbrev pub width_found : Option Node → ℕ
width_found None = 0
width_found (Some n) = width n

-- w columns of q, from place k on
abbrev pub columns_from : ℕ → ℕ → ℕ → List Column
columns_from q k zero = []
columns_from q k (suc w) = record { quant = q; place = k } ∷ columns_from q (k + 1) w

-- all columns of the box that a quantifier ranges over
abbrev pub columns_through : List Node → OwnedQuant → List Column
columns_through boxes r = columns_from r.id 1 (width_found (first (is_box r.over) boxes))

abbrev pub same_columns : List Column → List Column → Bool
same_columns [] ds = is_none ds
same_columns (c ∷ cs) [] = false
same_columns (c ∷ cs) (d ∷ ds) = (c.quant == d.quant) && (c.place == d.place) && same_columns cs ds

-- a head that is these columns
abbrev pub heads_are : List Term → List Column → Bool
heads_are head columns = list_all is_column head && same_columns (flat_map columns_in head) columns

abbrev pub only : ℕ → List ℕ → Bool
only q [] = false
only q (p ∷ ps) = (p == q) && is_none ps

-- the first is F over a magic box, the second F over an open box in which the first alone is free, and the head is all columns of both
abbrev pub fed_by_two : List Node → List Term → OwnedQuant → OwnedQuant → Bool
fed_by_two boxes head a b =
    is_F a.kind && is_F b.kind && magic_found (first (is_box a.over) boxes) && only a.id (free_in boxes b.over)
    && heads_are head (columns_through boxes a ++ columns_through boxes b)

-- a box of two such quantifiers
abbrev pub fed_by : List Node → List Term → List OwnedQuant → Bool
fed_by boxes head [] = false
fed_by boxes head (a ∷ []) = false
fed_by boxes head (a ∷ b ∷ []) = fed_by_two boxes head a b
fed_by boxes head (a ∷ b ∷ c ∷ rs) = false

-- a PRESERVE box without a condition, fed by two
abbrev pub is_fed : ℕ → List Node → Node → Bool
is_fed root boxes n = not (n.id == root) && is_preserve n.parts.distinct && is_none n.parts.conds.items && fed_by boxes n.parts.head n.quants

abbrev pub role_fits : ℕ → List Node → Node → Role → Bool
role_fits root boxes n Plain = true
role_fits root boxes n Magic = is_enforce n.parts.distinct && all_F n.quants
role_fits root boxes n Fed = is_fed root boxes n

-- ---- kinds

-- no quantifier, no condition, no head cell and no role
abbrev pub is_base : Node → Bool
is_base n = is_none n.quants && is_none n.parts.conds.items && is_none n.parts.head && is_plain n.parts.role

-- the first cells are keys, without aggregates, and the others aggregates
abbrev pub head_folds : ℕ → List Term → Bool
head_folds keys head = nat_le keys (length head) && not (list_any has_aggregate (take keys head)) && list_all is_aggregate (drop keys head)

-- one F quantifier, no condition and no role; keys and aggregates of the box's own quantifier
abbrev pub is_group : ℕ → Node → Bool
is_group keys n = are_F 1 n.quants && is_none n.parts.conds.items && is_plain n.parts.role && head_folds keys n.parts.head && head_is_own n

-- the box under a quantifier has as many columns
abbrev pub arm_fits : List Node → ℕ → OwnedQuant → Bool
arm_fits boxes w r = width_found (first (is_box r.over) boxes) == w

-- two F quantifiers over boxes of as many columns, one or more; no condition, no head cell and no role
abbrev pub is_set_op : List Node → Node → Bool
is_set_op boxes n =
    are_F 2 n.quants && list_all (arm_fits boxes (width n)) n.quants && nat_lt 0 (width n)
    && is_none n.parts.conds.items && is_none n.parts.head && is_plain n.parts.role

-- two F quantifiers, and a head of columns of theirs; no aggregate and no role
abbrev pub is_outer_join : Node → Bool
is_outer_join n = are_F 2 n.quants && list_all is_column n.parts.head && head_is_own n && is_unfolded n && is_plain n.parts.role

abbrev pub kind_fits : ℕ → List Node → Node → BoxKind → Bool
kind_fits root boxes n (Base table) = is_base n
kind_fits root boxes n Select = is_unfolded n && role_fits root boxes n n.parts.role
kind_fits root boxes n (Group keys) = is_group keys n
kind_fits root boxes n (SetOp operator types) = is_set_op boxes n
kind_fits root boxes n OuterJoin = is_outer_join n

-- a box has the shape of its kind and its role, nodes of its own quantifiers, and a column if an S quantifier ranges over it
abbrev pub shape_fits : ℕ → List Node → Node → Bool
shape_fits root boxes n =
    kind_fits root boxes n n.parts.kind && list_all (node_fits n.quants) (nodes_of n) && columns_placed n && (not (is_scalar boxes n.id) || nat_lt 0 (width n))
