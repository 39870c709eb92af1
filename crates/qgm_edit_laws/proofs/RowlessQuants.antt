-- No box reads a quantifier of a select that isn't an F quantifier.
use Rattle.std.proofs.Common.{ℕ, ◌==◌, ◌≡◌, ◌&&◌, ◌≤◌, true, false, List, Some, refl, sym, ap, subst, ◌∙◌, eqb-true, inl, inr}
use Rattle.std.proofs.lemmas.Bool.{and_parts, cases_Bool, or_cases}
use Rattle.qgm_core.specs.Boxes.{ids_of, is_quant, owns}
use Rattle.qgm_core.specs.Kinds.{is_F}
use Rattle.list_laws.specs.Lists.{In, first, times}
use Rattle.qgm_core.specs.declared.kinds.BoxKind.{BoxKind}
use Rattle.qgm_core.specs.declared.kinds.BoxKind.TheVariants.{Base, Select, Group, SetOp, OuterJoin}
use Rattle.qgm_core.specs.declared.node.Node.{Node}
use Rattle.qgm_core.specs.declared.owned.OwnedQuant.{OwnedQuant}
use Rattle.qgm_meaning.specs.Scope.{loose, read_by}
use Rattle.qgm_edit_laws.specs.Checked.{own_seen}
use Rattle.qgm_edit_laws.specs.Graph.{Sound, binds_row}
use Rattle.qgm_edit_laws.proofs.Scope.{bound-above, bound-owned, one-owner}
use Rattle.qgm_edit_laws.proofs.Scoped.{few-ids, scoped-own}
use Rattle.qgm_edit_laws.proofs.NarrowBoxes.{any-take}
use Rattle.qgm_edit_laws.proofs.Turns.{first-own}
use Rattle.list_laws.proofs.Membership.{any-in}
use Rattle.list_laws.proofs.Booleans.{clash}

module _ (bs : List Node) (root : ℕ) (w : Sound bs root) (o : Node) (in-o : In o bs) (select : o.parts.kind ≡ Select) (r : OwnedQuant) (in-r : In r o.quants) (row : is_F r.kind ≡ false) (own : owns r.id o ≡ true) where
  not-bound : binds_row r.id o.quants ≡ false
  not-bound = elim (cases_Bool (binds_row r.id o.quants)) [
    | inr f ↦ f
    | inl t ↦ absurd (
        let x = any-in (λ x. is_F x.kind && is_quant r.id x) o.quants t in
        let y = and_parts (is_F x.0.kind) (x.0.id == r.id) x.1.1 in
        let few : times r.id (ids_of o) ≤ 1 = few-ids bs o r.id (w.once r.id) in-o in
        let a = first-own r o.quants few in-r in
        let b : first (is_quant r.id) o.quants ≡ Some x.0 = subst (λ z. first (is_quant z) o.quants ≡ Some x.0) (eqb-true x.0.id r.id y.1) (first-own x.0 o.quants (subst (λ z. times z (ids_of o) ≤ 1) (sym (eqb-true x.0.id r.id y.1)) few) x.1.0) in
        let e : Some r ≡ Some x.0 = sym a ∙ b in
        let same : r ≡ x.0 = cc in
        clash (is_F x.0.kind) y.0 (subst (λ (z : OwnedQuant). is_F z.kind ≡ false) same row))
  ]

  bound-none : (n : Node) → In n bs → binds_row r.id n.quants ≡ true → ⊥
  bound-none n i t = clash (binds_row r.id o.quants) (subst (λ (z : Node). binds_row r.id z.quants ≡ true) (one-owner bs root w r.id n o i in-o (bound-owned r.id n.quants t) own) t) not-bound

  seen-none : (n : Node) → In n bs → (kind : BoxKind) → n.parts.kind ≡ kind → own_seen kind n r.id ≡ true → ⊥
  seen-none n i (Base table) e t = let z : ⊥ = cc in z
  seen-none n i Select e t = bound-none n i t
  seen-none n i (Group keys) e t =
      let same : n ≡ o = one-owner bs root w r.id n o i in-o (any-take (is_quant r.id) 1 n.quants t) own in
      let z : Group keys ≡ Select = sym e ∙ ap (λ (z : Node). z.parts.kind) same ∙ select in let y : ⊥ = cc in y
  seen-none n i (SetOp form types) e t = let z : ⊥ = cc in z
  seen-none n i OuterJoin e t =
      let same : n ≡ o = one-owner bs root w r.id n o i in-o (any-take (is_quant r.id) 2 n.quants t) own in
      let z : OuterJoin ≡ Select = sym e ∙ ap (λ (z : Node). z.parts.kind) same ∙ select in let y : ⊥ = cc in y

  pub rowless-unread : (n : Node) → In n bs → read_by n r.id ≡ false
  rowless-unread n i = elim (cases_Bool (read_by n r.id)) [
    | inr f ↦ f
    | inl t ↦ absurd (elim (or_cases (own_seen n.parts.kind n r.id) (loose bs n.id r.id) (scoped-own bs w.ordered n i (w.bare n i) r.id t)) [
      | inl s ↦ seen-none n i n.parts.kind refl s
      | inr l ↦ (let x = bound-above bs root w n.id r.id l in bound-none x.0 x.1.0 x.1.1.0)
    ])
  ]
