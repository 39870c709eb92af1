-- No some or every is of an S quantifier.
use Rattle.std.proofs.Common.{ℕ, ◌==◌, ◌≡◌, ◌&&◌, ◌||◌, ◌≤◌, Bool, true, false, List, map, Some, refl, sym, ap, ap₂, subst, ◌∙◌, eqb-true, inl, inr, arith}
use Rattle.std.specs.List.{list_any}
use Rattle.std.proofs.lemmas.Bool.{cases_Bool}
use Rattle.qgm_terms.specs.declared.named.QuantNode.{QuantNode}
use Rattle.qgm_terms.specs.declared.named.QuantNode.TheVariants as node
use Rattle.qgm_core.specs.Boxes.{ids_of, is_quant}
use Rattle.qgm_core.specs.Kinds.{is_A, is_E}
use Rattle.list_laws.specs.Lists.{In, first, times}
use Rattle.qgm_core.specs.declared.kinds.QuantKind.{QuantKind}
use Rattle.qgm_core.specs.declared.kinds.QuantKind.TheVariants.{S}
use Rattle.qgm_core.specs.declared.node.Node.{Node}
use Rattle.qgm_core.specs.declared.owned.OwnedQuant.{OwnedQuant}
use Rattle.qgm_wellformed.specs.Shapes.{is_among, node_fits, nodes_of}
use Rattle.qgm_meaning.specs.Searches.{binds, binds_cond}
use Rattle.qgm_edit_laws.specs.Graph.{Sound}
use Rattle.qgm_edit_laws.specs.Shaped.{Shaped}
use Rattle.qgm_edit_laws.proofs.ShapeParts.{shape-parts}
use Rattle.qgm_edit_laws.proofs.Turns.{first-own}
use Rattle.qgm_edit_laws.proofs.Binders.{binder, binders-listed}
use Rattle.list_laws.proofs.Counting.{times-in}
use Rattle.list_laws.proofs.Membership.{all-in, any-in, any-not}
use Rattle.list_laws.proofs.Booleans.{clash}

module _ (bs : List Node) (root : ℕ) (w : Sound bs root) (sh : Shaped bs root) (o : Node) (in-o : In o bs) (r : OwnedQuant) (in-r : In r o.quants) (is-s : r.kind ≡ S) where
  few : (x : OwnedQuant) → times x.id (map (λ (x : OwnedQuant). x.id) o.quants) ≤ 1
  few x = let a = times-in ids_of x.id o bs in-o in let b = w.once x.id in omega arith

  r-alone : (x : OwnedQuant) → In x o.quants → (x.id == r.id) ≡ true → r ≡ x
  r-alone x j t =
      let a : first (is_quant x.id) o.quants ≡ Some x = first-own x o.quants (few x) j in
      let f : first (is_quant r.id) o.quants ≡ Some r = first-own r o.quants (few r) in-r in
      let b : Some r ≡ Some x = sym f ∙ ap (λ z. first (is_quant z) o.quants) (sym (eqb-true x.id r.id t)) ∙ a in cc

  not-among : (p : QuantKind → Bool) → p S ≡ false → is_among p r.id o.quants ≡ false
  not-among p h = any-not (λ (x : OwnedQuant). is_quant r.id x && p x.kind) o.quants (λ x j. elim (cases_Bool (x.id == r.id)) [
    | inr f ↦ ap (λ b. b && p x.kind) f
    | inl t ↦ ap₂ (λ a b. a && b) t (ap (λ (z : OwnedQuant). p z.kind) (sym (r-alone x j t)) ∙ ap p is-s ∙ h)
  ])

  pub unbound : (list_any (binds r.id) o.parts.head || list_any (binds_cond r.id) o.parts.conds.items) ≡ false
  unbound = elim (cases_Bool (list_any (binds r.id) o.parts.head || list_any (binds_cond r.id) o.parts.conds.items)) [
    | inr f ↦ f
    | inl t ↦ absurd (
        let x = any-in (binder r.id) (nodes_of o) (binders-listed r.id o ∙ t) in
        by x.0 (all-in (node_fits o.quants) x.0 (nodes_of o) (shape-parts root bs o (sh.shapes o in-o)).nodes x.1.0) x.1.1)
  ]
    where
      by : (x : QuantNode) → node_fits o.quants x ≡ true → binder r.id x ≡ true → ⊥
      by (node.Scalar q) f h = let z : ⊥ = cc in z
      by (node.Some q) f h = clash (is_among is_E r.id o.quants) (subst (λ z. is_among is_E z o.quants ≡ true) (eqb-true q r.id h) f) (not-among is_E refl)
      by (node.Every q) f h = clash (is_among is_A r.id o.quants) (subst (λ z. is_among is_A z o.quants ≡ true) (eqb-true q r.id h) f) (not-among is_A refl)
