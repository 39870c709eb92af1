-- M2, a box that gives what the box under it gives goes: its condition, the test of it, its places and its action.
use Rattle.std.proofs.Common.{ℕ, suc, ◌==◌, ◌&&◌, ◌≡◌, not, true, false, List, [], ◌∷◌, length, map, Option, Some, None}
use Rattle.std.specs.List.{list_any}
use Rattle.qgm_core.specs.Boxes.{QueryGraph, box_of, is_box, width}
use Rattle.qgm_core.specs.Edits.{compact, on_boxes}
use Rattle.qgm_core.specs.Kinds.{is_F, is_fed, is_plain, is_preserve, is_select}
use Rattle.list_laws.specs.Lists.{In, first}
use Rattle.qgm_core.specs.declared.kinds.BoxKind.TheVariants.{Select}
use Rattle.qgm_core.specs.declared.kinds.Distinct.TheVariants.{Preserve}
use Rattle.qgm_core.specs.declared.kinds.QuantKind.TheVariants.{F}
use Rattle.qgm_core.specs.declared.kinds.Role.TheVariants.{Plain}
use Rattle.qgm_core.specs.declared.node.Node.{Node}
use Rattle.qgm_core.specs.declared.owned.OwnedQuant.{OwnedQuant}
use Rattle.qgm_terms.specs.Terms as t
use Rattle.qgm_terms.specs.Terms.{Cond, Term}
use Rattle.qgm_edit_laws.specs.Ranges.{columns_from, moved}
use Rattle.rule_api.specs.Picks.{picked}
use Rattle.rule_api.specs.Rules.{Pair}
use Rattle.rule_api.specs.declared.place.Place.{Place}
use Rattle.std.specs.Prelude.{Bool}

-- b is a plain PRESERVE select with one F quantifier and no other, and no conjunct; its head is all columns of c, the box under it, in order; no fed box owns a quantifier over b
pub record IsCopy (g : QueryGraph) (b c : Node) (r : OwnedQuant) : Type 0 where
  pub a_select : b.parts.kind ≡ Select
  pub plain : b.parts.role ≡ Plain
  pub preserves : b.parts.distinct ≡ Preserve
  pub alone : b.quants ≡ r ∷ []
  pub is_f : r.kind ≡ F
  pub under : box_of r.over g ≡ Some c
  pub no_conjunct : b.parts.conds.items ≡ []
  pub all_columns : b.parts.head ≡ columns_from r.id 1 (width c)
  pub unfed : (d : Node) (s : OwnedQuant) → In d g.boxes → In s d.quants → s.over ≡ b.id → is_fed d.parts.role ≡ false

-- M2 may fire at a box that is so and isn't the root
unfoldable pub MayDropCopy : Place → QueryGraph → Type 0
MayDropCopy p g = (p.i ≡ 0) × (p.j ≡ 0) × ((p.at == g.root) ≡ false) × ((b : Node) × ((c : Node) × ((r : OwnedQuant) × ((box_of p.at g ≡ Some b) × IsCopy g b c r))))

-- ---- the test

-- column k of q
abbrev pub is_col : ℕ → ℕ → Term → Bool
is_col q k (t.int n) = false
is_col q k (t.text s) = false
is_col q k t.null_int = false
is_col q k t.null_text = false
is_col q k (t.col p j) = (p == q) && (j == k)
is_col q k (t.scalar p) = false
is_col q k (t.both op a b) = false
is_col q k (t.minus_of a) = false
is_col q k (t.choose s a) = false
is_col q k t.count_all = false
is_col q k (t.fold f e a) = false

-- the columns of q, from k on
abbrev pub are_columns : ℕ → ℕ → List Term → Bool
are_columns q k [] = true
are_columns q k (x ∷ xs) = is_col q k x && are_columns q (suc k) xs

-- all columns of q, which ranges over this box
abbrev pub gives_all : Option Node → ℕ → List Term → Bool
gives_all None q head = false
gives_all (Some c) q head = (length head == width c) && are_columns q 1 head

-- an F quantifier, of whose box the head is all columns
abbrev pub copies_one : List Node → List Term → OwnedQuant → Bool
copies_one boxes head r = is_F r.kind && gives_all (first (is_box r.over) boxes) r.id head

-- one F quantifier, of whose box the head is all columns
abbrev pub copies_by : List Node → List Term → List OwnedQuant → Bool
copies_by boxes head [] = false
copies_by boxes head (r ∷ []) = copies_one boxes head r
copies_by boxes head (r ∷ (s ∷ rs)) = false

abbrev pub no_cond : List Cond → Bool
no_cond [] = true
no_cond (c ∷ cs) = false

-- these range over b
abbrev pub ranges_over : ℕ → List OwnedQuant → Bool
ranges_over b rs = list_any (λ r. r.over == b) rs

-- a fed box owns a quantifier over b
abbrev pub feeds : ℕ → Node → Bool
feeds b d = is_fed d.parts.role && ranges_over b d.quants

abbrev pub is_plain_copy : Node → Bool
is_plain_copy n = is_select n.parts.kind && is_plain n.parts.role && is_preserve n.parts.distinct && no_cond n.parts.conds.items

abbrev pub is_copy : QueryGraph → Node → Bool
is_copy g n = is_plain_copy n && copies_by g.boxes n.parts.head n.quants && not (list_any (feeds n.id) g.boxes)

abbrev pub copy_found : QueryGraph → Option Node → Bool
copy_found g None = false
copy_found g (Some n) = is_copy g n

-- the box of this number is so
abbrev pub copies : QueryGraph → ℕ → Bool
copies g b = copy_found g (box_of b g)

-- M2 has a place at b
abbrev pub may_go : QueryGraph → ℕ → Bool
may_go g b = not (b == g.root) && copies g b

-- ---- places and action

-- the places of M2 at b
unfoldable pub drop_copy_pairs : QueryGraph → ℕ → List Pair
drop_copy_pairs g b = picked (may_go g b) 0 0

-- r is the one quantifier of the box of the place, b: in h each quantifier over b ranges over the box under r, and boxes that the root doesn't reach are gone; all else is as in g
pub record DropsBox (p : Place) (g h : QueryGraph) (b : Node) (r : OwnedQuant) : Type 0 where
  pub at : box_of p.at g ≡ Some b
  pub one : b.quants ≡ r ∷ []
  pub after : h ≡ compact (on_boxes (map (moved p.at r.over)) g)

unfoldable pub DropsCopy : Place → QueryGraph → QueryGraph → Type 0
DropsCopy p g h = (b : Node) × ((r : OwnedQuant) × DropsBox p g h b r)
