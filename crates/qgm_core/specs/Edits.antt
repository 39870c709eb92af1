-- What each edit makes of a graph: one function of the list of its boxes. Root, names and order stay.
use Rattle.std.specs.Prelude.{ℕ, suc, ◌==◌, ◌-◌, ◌++◌, max, List, [], ◌∷◌, Option, Some, None, map, insert, filter, slice_get, take, drop}
use Rattle.std.specs.List.{remove, flat_map}
use Rattle.qgm_core.specs.Boxes.{QueryGraph, is_box, is_quant, owns, put_at, quants_in, range_in}
use Rattle.qgm_core.specs.Free.{reached}
use Rattle.list_laws.specs.Lists.{first, change, without, put_below, each, holds}
use Rattle.qgm_core.specs.declared.kinds.BoxKind.{BoxKind}
use Rattle.qgm_core.specs.declared.kinds.Distinct.{Distinct}
use Rattle.qgm_core.specs.declared.kinds.QuantKind.{QuantKind}
use Rattle.qgm_core.specs.declared.kinds.Role.{Role}
use Rattle.qgm_core.specs.declared.node.Node.{Node}
use Rattle.qgm_core.specs.declared.owned.OwnedQuant.{OwnedQuant}
use Rattle.qgm_terms.specs.Conjuncts.{Conjuncts}
use Rattle.qgm_terms.specs.Shift.{shifted, shifted_cond}
use Rattle.qgm_terms.specs.Substitution.{substituted, substituted_cond}
use Rattle.qgm_terms.specs.Terms.{Term, Cond}

abbrev pub on_boxes : (List Node → List Node) → QueryGraph → QueryGraph
on_boxes f g = record g { boxes = f g.boxes }

-- one box changed
abbrev pub on_box : ℕ → (Node → Node) → QueryGraph → QueryGraph
on_box b f g = on_boxes (change (is_box b) f) g

-- the owner of a quantifier changed
abbrev pub on_owner : ℕ → (Node → Node) → QueryGraph → QueryGraph
on_owner q f g = on_boxes (change (owns q) f) g

-- ---- boxes

-- a box more, last or just below the named one
abbrev pub with_box : Option ℕ → Node → QueryGraph → QueryGraph
with_box below n g = on_boxes (put_at below n) g

-- the box that is found, just below box d
abbrev pub put_found : ℕ → Option Node → List Node → List Node
put_found d None boxes = boxes
put_found d (Some n) boxes = put_below (is_box d) n boxes

abbrev pub moved_below : ℕ → ℕ → List Node → List Node
moved_below c d boxes = put_found d (first (is_box c) boxes) (without (is_box c) boxes)

-- box c stands just below box d
abbrev pub move_below : ℕ → ℕ → QueryGraph → QueryGraph
move_below c d g = on_boxes (moved_below c d) g

-- a box goes, with its quantifiers
abbrev pub drop_box : ℕ → QueryGraph → QueryGraph
drop_box b g = on_boxes (without (is_box b)) g

-- the boxes that the root reaches
abbrev pub compact : QueryGraph → QueryGraph
compact g = on_boxes (λ boxes. filter (λ n. holds n.id (reached (g.root ∷ []) boxes)) boxes) g

-- the marked boxes
abbrev pub keep : List ℕ → QueryGraph → QueryGraph
keep marks g = on_boxes (filter (λ n. holds n.id marks)) g

-- ---- parts

abbrev pub parted : BoxKind → Role → Conjuncts → List Term → Node → Node
parted kind role conds head n = record n { parts = record { kind = kind; distinct = n.parts.distinct; role = role; conds = conds; head = head } }

-- another kind, role, conditions and head; the distinctness stays
abbrev pub put_box : ℕ → BoxKind → Role → Conjuncts → List Term → QueryGraph → QueryGraph
put_box b kind role conds head g = on_box b (parted kind role conds head) g

abbrev pub with_terms : Conjuncts → List Term → Node → Node
with_terms conds head n = record n { parts = record n.parts { conds = conds; head = head } }

-- other conditions and another head
abbrev pub put_terms : ℕ → Conjuncts → List Term → QueryGraph → QueryGraph
put_terms b conds head g = on_box b (with_terms conds head) g

abbrev pub with_distinct : Distinct → Node → Node
with_distinct distinct n = record n { parts = record n.parts { distinct = distinct } }

abbrev pub set_distinct : ℕ → Distinct → QueryGraph → QueryGraph
set_distinct b distinct g = on_box b (with_distinct distinct) g

-- ---- conditions

abbrev pub with_conds : Conjuncts → Node → Node
with_conds conds n = record n { parts = record n.parts { conds = conds } }

-- room for so many more
abbrev pub with_room : ℕ → Node → Node
with_room m n = with_conds (record n.parts.conds { spare = max n.parts.conds.spare m }) n

abbrev pub reserve : ℕ → ℕ → QueryGraph → QueryGraph
reserve b m g = on_box b (with_room m) g

-- without the condition at place i, from 0
abbrev pub without_cond : ℕ → Node → Node
without_cond i n = with_conds (record n.parts.conds { items = remove n.parts.conds.items i }) n

-- a condition more, at the end, where there was room
abbrev pub with_cond : Cond → Node → Node
with_cond c n = with_conds (record { items = n.parts.conds.items ++ c ∷ []; spare = n.parts.conds.spare - 1 }) n

abbrev pub conds_in : Option Node → List Cond
conds_in None = []
conds_in (Some n) = n.parts.conds.items

abbrev pub spare_in : Option Node → ℕ
spare_in None = 0
spare_in (Some n) = n.parts.conds.spare

-- the condition of box b at place i, from 0
abbrev pub cond_at : ℕ → ℕ → List Node → Option Cond
cond_at b i boxes = slice_get (conds_in (first (is_box b) boxes)) i

abbrev pub put_cond_found : ℕ → Option Cond → List Node → List Node
put_cond_found to None boxes = boxes
put_cond_found to (Some c) boxes = change (is_box to) (with_cond c) boxes

-- condition i of box b, from 0, goes to the end of those of another box
abbrev pub move_conjunct : ℕ → ℕ → ℕ → QueryGraph → QueryGraph
move_conjunct b i to g = on_boxes (λ boxes. put_cond_found to (cond_at b i boxes) (change (is_box b) (without_cond i) boxes)) g

-- ---- quantifiers

abbrev pub with_quants : (List OwnedQuant → List OwnedQuant) → Node → Node
with_quants f n = record n { quants = f n.quants }

abbrev pub range : ℕ → QuantKind → ℕ → OwnedQuant
range q kind over = record { id = q; kind = kind; over = over }

-- a quantifier more, at place i from 0
abbrev pub put_range : ℕ → OwnedQuant → Node → Node
put_range i r n = with_quants (λ rs. insert rs i r) n

-- box b owns a quantifier more, at place i from 0
abbrev pub with_quant : ℕ → ℕ → OwnedQuant → QueryGraph → QueryGraph
with_quant b i r g = on_box b (put_range i r) g

abbrev pub without_quant : ℕ → Node → Node
without_quant q n = with_quants (without (is_quant q)) n

-- its owner loses a quantifier
abbrev pub drop_quant : ℕ → QueryGraph → QueryGraph
drop_quant q g = on_owner q (without_quant q) g

abbrev pub on_quant : ℕ → (OwnedQuant → OwnedQuant) → Node → Node
on_quant q f n = with_quants (change (is_quant q) f) n

abbrev pub put_quant : ℕ → QuantKind → QueryGraph → QueryGraph
put_quant q kind g = on_owner q (on_quant q (λ r. record r { kind = kind })) g

-- a quantifier ranges over another box
abbrev pub redirect : ℕ → ℕ → QueryGraph → QueryGraph
redirect q over g = on_owner q (on_quant q (λ r. record r { over = over })) g

abbrev pub put_range_found : ℕ → ℕ → Option OwnedQuant → List Node → List Node
put_range_found b i None boxes = boxes
put_range_found b i (Some r) boxes = change (is_box b) (put_range i r) boxes

abbrev pub quant_moved : ℕ → ℕ → ℕ → List Node → List Node
quant_moved q b i boxes = put_range_found b i (range_in q (first (owns q) boxes)) (change (owns q) (without_quant q) boxes)

-- a quantifier goes to box b, at place i from 0 among those that b then owns beside it
abbrev pub move_quant : ℕ → ℕ → ℕ → QueryGraph → QueryGraph
move_quant q b i g = on_boxes (quant_moved q b i) g

-- these in the place, from 0, of one of those
abbrev pub spliced_at : ℕ → List OwnedQuant → List OwnedQuant → List OwnedQuant
spliced_at i cs rs = take i rs ++ (cs ++ drop (suc i) rs)

abbrev pub absorbed : ℕ → ℕ → ℕ → List Node → List Node
absorbed b i c boxes = change (is_box b) (with_quants (spliced_at i (quants_in (first (is_box c) boxes)))) (without (is_box c) boxes)

-- the quantifiers of box c stand in box b in the place of the one at place i, from 0, and box c goes
abbrev pub absorb : ℕ → ℕ → ℕ → QueryGraph → QueryGraph
absorb b i c g = on_boxes (absorbed b i c) g

-- ---- cells

-- cells in place of a quantifier's columns
abbrev pub put_cells : ℕ → List Term → Node → Node
put_cells q cells n = record n { parts = record n.parts { conds = record n.parts.conds { items = map (substituted_cond q cells) n.parts.conds.items }; head = map (substituted q cells) n.parts.head } }

abbrev pub substitute : ℕ → ℕ → List Term → QueryGraph → QueryGraph
substitute b q cells g = on_box b (put_cells q cells) g

abbrev pub head_in : Option Node → List Term
head_in None = []
head_in (Some n) = n.parts.head

-- without the cell at place i, from 0
abbrev pub without_cell : ℕ → Node → Node
without_cell i n = record n { parts = record n.parts { head = remove n.parts.head i } }

-- q loses its column k: later ones go down by one
abbrev pub shift_node : ℕ → ℕ → Node → Node
shift_node k q n = record n { parts = record n.parts { conds = record n.parts.conds { items = map (shifted_cond q k) n.parts.conds.items }; head = map (shifted q k) n.parts.head } }

-- those of these quantifiers that range over box b
abbrev pub ids_over : ℕ → List OwnedQuant → List ℕ
ids_over b rs = map (λ r. r.id) (filter (λ r. r.over == b) rs)

-- the quantifiers over box b
abbrev pub quants_over : ℕ → List Node → List ℕ
quants_over b boxes = flat_map (λ n. ids_over b n.quants) boxes

abbrev pub shift_boxes : ℕ → ℕ → List Node → List Node
shift_boxes k q boxes = map (shift_node k q) boxes

-- each quantifier over box b loses column k
abbrev pub shifted_over : ℕ → ℕ → List Node → List Node
shifted_over b k boxes = each (shift_boxes k) (quants_over b boxes) boxes

-- box b loses column k, from 1, and so does each quantifier over it
abbrev pub drop_column : ℕ → ℕ → QueryGraph → QueryGraph
drop_column b k g = on_boxes (λ boxes. shifted_over b k (change (is_box b) (without_cell (k - 1)) boxes)) g
