-- What is given box by box over the boxes behind: it is given over the whole graph, and it is the only family that is.
use Rattle.std.proofs.Common.{ℕ, ◌==◌, ◌≡◌, ◌<◌, true, false, List, [], ◌∷◌, sym, ap, subst, ◌∙◌, eqb-true, inl, inr, arith}
use Rattle.qgm_core.specs.declared.node.Node.{Node}
use Rattle.qgm_core.specs.declared.owned.OwnedQuant.{OwnedQuant}
use Rattle.qgm_core.specs.Boxes.{Ordered, has_box, is_box}
use Rattle.list_laws.specs.Lists.{In}
pub use Rattle.qgm_edit_laws.specs.Placed.{place}
use Rattle.qgm_core.proofs.Reaching.{in-has, overs-held}
use Rattle.list_laws.proofs.Membership.{all-in, any-in, eq-itself, other}
use Rattle.list_laws.proofs.Booleans.{clash}

pub has-in : (b : ℕ) (ns : List Node) → has_box ns b ≡ true → (n : Node) × (In n ns × (n.id ≡ b))
has-in b ns h = let r = any-in (is_box b) ns h in (r.0, (r.1.0, eqb-true r.0.id b r.1.1))

-- a box is the one of its number
pub same-box : (ns : List Node) (n m : Node) → Ordered ns → In n ns → In m ns → n.id ≡ m.id → n ≡ m
same-box [] n m o i j e = elim i [ ]
same-box (x ∷ ns) n m o i j e = elim i [
  | inl p ↦ elim j [ inl q ↦ sym p ∙ q | inr k ↦ absurd (clash (has_box ns x.id) (subst (λ z. has_box ns z ≡ true) (sym e ∙ ap (λ (z : Node). z.id) (sym p)) (in-has m ns k)) o.0) ]
  | inr k ↦ elim j [ inl q ↦ absurd (clash (has_box ns x.id) (subst (λ z. has_box ns z ≡ true) (e ∙ ap (λ (z : Node). z.id) (sym q)) (in-has n ns k)) o.0) | inr l ↦ same-box ns n m o.2 k l e ]
]

pub place-under : (ns : List Node) (n : Node) (r : OwnedQuant) → Ordered ns → In n ns → In r n.quants → place ns n.id < place ns r.over
place-under [] n r o i j = elim i [ ]
place-under (m ∷ ns) n r o i j = elim i [
  | inl e ↦ (
      let held : has_box ns r.over ≡ true = all-in (λ r. has_box ns r.over) r m.quants o.1 (subst (λ (z : Node). In r z.quants) (sym e) j) in
      let f : (m.id == r.over) ≡ false = other (has_box ns) m.id r.over o.0 held in
      let t : (m.id == n.id) ≡ true = subst (λ (z : Node). (m.id == z.id) ≡ true) e (eq-itself m.id) in
      rw (t, f) (omega arith))
  | inr k ↦ (
      let f : (m.id == r.over) ≡ false = other (has_box ns) m.id r.over o.0 (overs-held ns n r o.2 k j) in
      let g : (m.id == n.id) ≡ false = other (has_box ns) m.id n.id o.0 (in-has n ns k) in
      let less : place ns n.id < place ns r.over = place-under ns n r o.2 k j in
      rw (f, g) (omega arith))
]
