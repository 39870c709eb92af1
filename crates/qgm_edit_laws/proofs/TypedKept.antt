-- Boxes that the root doesn't reach go, and types still agree.
use Rattle.std.proofs.Common.{ℕ, ◌≡◌, Bool, true, List, [], ◌∷◌, map, Some, refl, sym, ap, subst, ◌∙◌, eqb-true, inl, inr}
use Rattle.std.specs.List.{list_any}
use Rattle.std.proofs.lemmas.Bool.{or_cases}
use Rattle.qgm_core.specs.Boxes.{is_box, is_quant, owns}
use Rattle.qgm_core.specs.Free.{named_by, reached}
use Rattle.list_laws.specs.Lists.{In, first, holds}
use Rattle.qgm_core.specs.declared.node.Node.{Node}
use Rattle.qgm_core.specs.declared.owned.OwnedQuant.{OwnedQuant}
use Rattle.qgm_wellformed.specs.Columns.{box_under, over_box}
use Rattle.qgm_meaning.specs.Scope.{read_by}
use Rattle.qgm_edit_laws.specs.Graph.{Sound, nodes_in}
use Rattle.qgm_edit_laws.specs.Shaped.{Typed}
use Rattle.qgm_edit_laws.proofs.Adds.{read-owned}
use Rattle.qgm_edit_laws.proofs.Compact.{compact-sound, in-kept, reached_boxes}
use Rattle.qgm_edit_laws.proofs.Follow.{Follows, agree-follow}
use Rattle.qgm_edit_laws.proofs.Levels as levels
use Rattle.qgm_edit_laws.proofs.Ranks.{has-in}
use Rattle.qgm_edit_laws.proofs.Read.{named-split}
use Rattle.qgm_edit_laws.proofs.Scope.{in-first}
use Rattle.qgm_core.proofs.Reaching.{overs-held}
use Rattle.list_laws.proofs.Membership.{any-from, any-in}

-- the owner of what is named, its quantifier, and the box under it
pub record Ranging (bs : List Node) (q : ℕ) : Type 0 where
  pub owner : Node
  pub quant : OwnedQuant
  pub box : Node
  pub owner_in : In owner bs
  pub quant_in : In quant owner.quants
  pub is_q : quant.id ≡ q
  pub box_in : In box bs
  pub is_over : box.id ≡ quant.over

module _ (bs : List Node) (root : ℕ) (w : Sound bs root) where
  pub found : (n : Node) → In n bs → (q : ℕ) → holds q (named_by n) ≡ true → Ranging bs q
  found n i q h =
      let held : list_any (owns q) bs ≡ true = (elim (or_cases (read_by n q) (nodes_in q n) (named-split q n h)) [
        | inl a ↦ read-owned bs root w n q i a
        | inr a ↦ any-from (owns q) n bs i (w.own_nodes n i q a).0
      ]) in
      let o = any-in (owns q) bs held in
      let r = any-in (is_quant q) o.0.quants o.1.1 in
      let m = has-in r.0.over bs (overs-held bs o.0 r.0 w.ordered o.1.0 r.1.0) in
      record { owner = o.0; quant = r.0; box = m.0; owner_in = o.1.0; quant_in = r.1.0; is_q = eqb-true r.0.id q r.1.1; box_in = m.1.0; is_over = m.1.1 }

  pub found-under : (q : ℕ) (x : Ranging bs q) → box_under bs q ≡ Some x.box
  found-under q x = subst (λ k. box_under bs k ≡ Some x.box) x.is_q (
      ap (over_box bs) (levels.owner-of bs w.once x.owner x.quant x.owner_in x.quant_in) ∙ subst (λ k. first (is_box k) bs ≡ Some x.box) x.is_over (in-first x.box bs w.ordered x.box_in))

map-same : (rs : List OwnedQuant) → rs ≡ map (λ r. r) rs
map-same [] = refl
map-same (r ∷ rs) = ap (λ z. r ∷ z) (map-same rs)

module _ (bs : List Node) (root : ℕ) (w : Sound bs root) where
  abbrev keep : ℕ → Bool
  keep b = holds b (reached (root ∷ []) bs)

  abbrev ks : List Node
  ks = reached_boxes root bs

  sound : Sound ks root
  sound = compact-sound bs root w

  abbrev Same : Node → Node → Type 0
  Same y z = (y ≡ z) × In z ks

  named : (y : Node) → In y ks → (q : ℕ) → holds q (named_by y) ≡ true → (u : Node) × ((v : Node) × ((box_under bs q ≡ Some u) × ((box_under ks q ≡ Some v) × Same u v)))
  named y i q h =
      let x = found ks root sound y i q h in
      let o = in-kept keep x.owner bs x.owner_in in
      let m = in-kept keep x.box bs x.box_in in
      let was : Ranging bs q = record { owner = x.owner; quant = x.quant; box = x.box; owner_in = o.0; quant_in = x.quant_in; is_q = x.is_q; box_in = m.0; is_over = x.is_over } in
      (x.box, (x.box, (found-under bs root w q was, (found-under ks root sound q x, (refl, x.box_in)))))

  follows : Follows bs root w ks Same
  follows = record {
    before = λ y z r. (in-kept keep y bs (subst (λ (n : Node). In n ks) (sym r.0) r.1)).0;
    after = λ y z r. r.1;
    step = λ y z r. inl (ap (λ (n : Node). n.parts) (sym r.0), named y (subst (λ (n : Node). In n ks) (sym r.0) r.1));
  }

  pub typed-compact : Typed bs → Typed ks
  typed-compact t n i =
      agree-follow bs root w ks root sound Same follows n n refl (named n i) (λ r. r) (map-same n.quants) (λ r j.
      let m = has-in r.over ks (overs-held ks n r sound.ordered i j) in
      (m.0, (m.0, (m.1.1, (m.1.1, (refl, m.1.0)))))) (t n (in-kept keep n bs i).0)
