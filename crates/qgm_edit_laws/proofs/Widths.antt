-- The rows of a sound graph's boxes have their widths, and tables that fit bases still fit them where boxes keep their kinds.
use Rattle.std.proofs.Common.{ℕ, ◌==◌, ◌≡◌, cond, Bool, true, false, List, [], ◌∷◌, ◌++◌, map, length, refl, sym, ap, subst, ◌∙◌, inl, inr}
use Rattle.sql_value.specs.declared.cell.Cell.{Cell}
use Rattle.row_bag.specs.declared.row.Row.{Row}
use Rattle.row_bag.specs.declared.tables.Table.{Table}
use Rattle.qgm_core.specs.Boxes.{Ordered, has_box, width}
use Rattle.qgm_core.specs.Kinds.{width_by}
use Rattle.list_laws.specs.Lists.{In}
use Rattle.qgm_core.specs.declared.kinds.BoxKind.{BoxKind}
use Rattle.qgm_core.specs.declared.kinds.BoxKind.TheVariants.{Base, Select, Group, SetOp, OuterJoin}
use Rattle.qgm_core.specs.declared.node.Node.{Node}
use Rattle.qgm_core.specs.declared.owned.OwnedQuant.{OwnedQuant}
use Rattle.qgm_meaning.specs.Meaning.{bag_in}
use Rattle.qgm_meaning.specs.Values.{Bag, Environment}
use Rattle.qgm_meaning.specs.Widths.{Arms, ArmsOf, Even, Filled, FilledBy, Wide, width_in}
use Rattle.qgm_meaning.proofs.Ranked.{unfold-rank}
use Rattle.qgm_meaning.proofs.Widened.{wide-boxes}
use Rattle.qgm_edit_laws.proofs.Edits.{boxes_without}
use Rattle.qgm_edit_laws.specs.Graph.{ArmsBy, Sound}
use Rattle.qgm_edit_laws.proofs.Compact.{kept}
use Rattle.qgm_edit_laws.proofs.Ranks.{has-in}
use Rattle.qgm_edit_laws.proofs.Scope.{in-first}
use Rattle.list_laws.proofs.Membership.{all-in}

width-at : (ns : List Node) (n : Node) → Ordered ns → In n ns → width_in ns n.id ≡ width n
width-at ns n o i = unfold-rank 0 (λ n below. width n) (λ n f g s. refl) ns n.id n o (in-first n ns o i)

module _ (bs : List Node) (arms : (n m : Node) (r : OwnedQuant) → In n bs → In r n.quants → In m bs → m.id ≡ r.over → ArmsBy n.parts.kind (width m) (width n)) where
  even-from : (ns : List Node) → Ordered ns → ((n : Node) → In n ns → In n bs) → Even ns
  even-from [] o sub = tt
  even-from (n ∷ ns) o sub = (by n.parts.kind (λ m r j i e. arms n m r (sub n (inl refl)) j (sub m (inr i)) e), even-from ns o.2 (λ m i. sub m (inr i)))
    where
      arms-from : (w : ℕ) (rs : List OwnedQuant) → ((r : OwnedQuant) → In r rs → In r n.quants) → ((m : Node) (r : OwnedQuant) → In r n.quants → In m ns → m.id ≡ r.over → width m ≡ w) → Arms w ns rs
      arms-from w [] s a = tt
      arms-from w (r ∷ rs) s a = (
        (let x = has-in r.over ns (all-in (λ r. has_box ns r.over) r n.quants o.1 (s r (inl refl))) in
            ap (width_in ns) (sym x.1.1) ∙ width-at ns x.0 o.2 x.1.0 ∙ a x.0 r (s r (inl refl)) x.1.0 x.1.1),
        arms-from w rs (λ r i. s r (inr i)) a,
      )

      by : (k : BoxKind) → ((m : Node) (r : OwnedQuant) → In r n.quants → In m ns → m.id ≡ r.over → ArmsBy k (width m) (width_by k (length n.parts.head))) → ArmsOf k n ns
      by (Base name) a = tt
      by Select a = tt
      by (Group k) a = tt
      by (SetOp form w) a = arms-from (length w) n.quants (λ r i. i) a
      by OuterJoin a = tt

wide-in : (w : ℕ) (rows : Bag) → Wide w rows → (r : Row (List Cell)) → In r rows → length r.cells ≡ w
wide-in w [] h r i = elim i [ ]
wide-in w (x ∷ rows) h r i = elim i [ inl e ↦ subst (λ (z : Row (List Cell)). length z.cells ≡ w) e h.0 | inr j ↦ wide-in w rows h.1 r j ]

-- a row has a cell for each column of its box
pub wide : (bs : List Node) (root : ℕ) → Sound bs root → (tables : List Table) → Filled tables bs → (n : Node) → In n bs → (e : Environment) → (r : Row (List Cell)) → In r (bag_in tables bs n.id e) → length r.cells ≡ width n
wide bs root w tables filled n i e r j =
    wide-in (width_in bs n.id) (bag_in tables bs n.id e) (wide-boxes tables bs filled (even-from bs w.arms bs w.ordered (λ m k. k)) n.id e) r j ∙ width-at bs n w.ordered i

-- ---- tables that fit

pub filled-kept : (tables : List Table) (keep : ℕ → Bool) (ns : List Node) → Filled tables ns → Filled tables (kept keep ns)
filled-kept tables keep [] h = tt
filled-kept tables keep (n ∷ ns) h = elim (keep n.id) as (λ t. Filled tables (cond t (n ∷ kept keep ns) (kept keep ns))) [
  | true ↦ (h.0, filled-kept tables keep ns h.1)
  | false ↦ filled-kept tables keep ns h.1
]

pub filled-without : (tables : List Table) (b : ℕ) (ns : List Node) → Filled tables ns → Filled tables (boxes_without b ns)
filled-without tables b [] h = tt
filled-without tables b (n ∷ ns) h = elim (n.id == b) as (λ t. Filled tables (cond t (boxes_without b ns) (n ∷ boxes_without b ns))) [
  | true ↦ filled-without tables b ns h.1
  | false ↦ (h.0, filled-without tables b ns h.1)
]

pub filled-map : (tables : List Table) (f : Node → Node) → ((n : Node) → (f n).parts.kind ≡ n.parts.kind) → (ns : List Node) → Filled tables ns → Filled tables (map f ns)
filled-map tables f same [] h = tt
filled-map tables f same (n ∷ ns) h = (subst (λ k. FilledBy k tables) (sym (same n)) h.0, filled-map tables f same ns h.1)

-- a box more
pub filled-more : (tables : List Table) (xs : List Node) (n : Node) (ys : List Node) → FilledBy n.parts.kind tables → Filled tables (xs ++ ys) → Filled tables (xs ++ n ∷ ys)
filled-more tables [] n ys k h = (k, h)
filled-more tables (x ∷ xs) n ys k h = (h.0, filled-more tables xs n ys k h.1)
