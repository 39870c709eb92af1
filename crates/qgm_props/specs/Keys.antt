-- Which sets of columns hold a key of a box, sentence by sentence.
use Rattle.std.specs.Prelude.{ℕ, zero, suc, ◌==◌, ◌&&◌, ◌||◌, if◌then◌else◌, Bool, true, false, List, [], ◌∷◌, length, Option, Some, None, slice_get}
use Rattle.std.specs.List.{list_any, list_all, flat_map}
use Rattle.qgm_core.specs.Kinds.{is_F, is_enforce}
use Rattle.list_laws.specs.Lists.{holds}
use Rattle.qgm_core.specs.declared.kinds.BoxKind.{BoxKind}
use Rattle.qgm_core.specs.declared.kinds.BoxKind.TheVariants.{Base, Select, Group, SetOp, OuterJoin}
use Rattle.qgm_core.specs.declared.kinds.SetOperator.{SetOperator}
use Rattle.qgm_core.specs.declared.kinds.SetOperator.TheVariants.{UnionAll, Union, IntersectAll, Intersect, ExceptAll, Except}
use Rattle.qgm_core.specs.declared.node.Node.{Node}
use Rattle.qgm_core.specs.declared.owned.OwnedQuant.{OwnedQuant}
use Rattle.qgm_meaning.specs.Ranks.{by_rank}
use Rattle.qgm_terms.specs.Terms.{Term, int, text, null_int, null_text, col, scalar, both, minus_of, choose, count_all, fold}

-- all of these are among those
abbrev pub among : List ℕ → List ℕ → Bool
among ks those = list_all (λ k. holds k those) ks

-- each place from 1 to w is among these
abbrev pub all_within : ℕ → List ℕ → Bool
all_within zero ks = true
all_within (suc w) ks = holds (suc w) ks && all_within w ks

-- the column of q that a cell is
abbrev pub column_of : ℕ → Option Term → List ℕ
column_of q None = []
column_of q (Some (col r k)) = if r == q then k ∷ [] else []
column_of q (Some (int n)) = []
column_of q (Some (text s)) = []
column_of q (Some null_int) = []
column_of q (Some null_text) = []
column_of q (Some (scalar r)) = []
column_of q (Some (both o x y)) = []
column_of q (Some (minus_of x)) = []
column_of q (Some (choose s x)) = []
column_of q (Some count_all) = []
column_of q (Some (fold f d x)) = []

-- the cell at a place, from 1
abbrev pub cell_at : List Term → ℕ → Option Term
cell_at head zero = None
cell_at head (suc k) = slice_get head k

-- the columns of q that stand at these places of a head
abbrev pub columns_at : ℕ → List Term → List ℕ → List ℕ
columns_at q head ks = flat_map (λ k. column_of q (cell_at head k)) ks

-- the columns at these places hold a key of the box under the quantifier, or under each F quantifier
abbrev pub keyed_under : List Term → (ℕ → List ℕ → Bool) → List ℕ → OwnedQuant → Bool
keyed_under head below ks r = below r.over (columns_at r.id head ks)

abbrev pub keyed_under_F : List Term → (ℕ → List ℕ → Bool) → List ℕ → List OwnedQuant → Bool
keyed_under_F head below ks [] = true
keyed_under_F head below ks (r ∷ rs) =
    if is_F r.kind then keyed_under head below ks r && keyed_under_F head below ks rs else keyed_under_F head below ks rs

abbrev pub keyed_under_two : List Term → (ℕ → List ℕ → Bool) → List ℕ → List OwnedQuant → Bool
keyed_under_two head below ks [] = false
keyed_under_two head below ks (p ∷ []) = false
keyed_under_two head below ks (p ∷ q ∷ rs) = keyed_under head below ks p && keyed_under head below ks q

abbrev pub keyed_op : SetOperator → ℕ → List ℕ → Bool
keyed_op UnionAll w ks = false
keyed_op Union w ks = all_within w ks
keyed_op IntersectAll w ks = false
keyed_op Intersect w ks = all_within w ks
keyed_op ExceptAll w ks = false
keyed_op Except w ks = all_within w ks

abbrev pub keyed_by : BoxKind → Node → (ℕ → List ℕ → Bool) → List ℕ → Bool
keyed_by (Base table) n below ks = list_any (λ key. among key table.not_null && among key ks) table.keys
keyed_by Select n below ks =
    (is_enforce n.parts.distinct && all_within (length n.parts.head) ks) || keyed_under_F n.parts.head below ks n.quants
keyed_by (Group k) n below ks = all_within k ks
keyed_by (SetOp form types) n below ks = keyed_op form (length types) ks
keyed_by OuterJoin n below ks = keyed_under_two n.parts.head below ks n.quants

-- a box that is known to have at most one row has the empty key
abbrev pub keyed : (ℕ → Bool) → Node → (ℕ → List ℕ → Bool) → List ℕ → Bool
keyed single n below ks = single n.id || keyed_by n.parts.kind n below ks

-- the columns at these places hold a key of box b, where it is known which boxes have at most one row
abbrev pub holds_key : (ℕ → Bool) → List Node → ℕ → List ℕ → Bool
holds_key single boxes = by_rank (λ ks. false) (keyed single) boxes
