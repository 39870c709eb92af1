-- What the root doesn't reach goes, whether a box over which nothing ranges stands there or not.
use Rattle.std.proofs.Common.{ℕ, ◌==◌, ◌≡◌, cond, Bool, true, false, List, [], ◌∷◌, ◌++◌, refl, sym, ap, subst, ◌∙◌, eqb-true, inl, inr}
use Rattle.std.proofs.lemmas.Bool.{cases_Bool, eq-eqb}
use Rattle.qgm_core.specs.Boxes.{overs_of}
use Rattle.qgm_core.specs.Free.{marked, reached}
use Rattle.list_laws.specs.Lists.{In, holds}
use Rattle.qgm_core.specs.declared.node.Node.{Node}
use Rattle.qgm_core.specs.declared.owned.OwnedQuant.{OwnedQuant}
use Rattle.qgm_edit_laws.proofs.Compact.{come, kept, reached_boxes}
use Rattle.qgm_edit_laws.proofs.Edits.{boxes_without}
use Rattle.list_laws.proofs.Membership.{any-none, any-not, holds-in, in-append, in-map}
use Rattle.list_laws.proofs.Booleans.{clash}

-- nothing of these boxes ranges over b
abbrev pub Unused : ℕ → List Node → Type 0
Unused b ns = (n : Node) (r : OwnedQuant) → In n ns → In r n.quants → (r.over == b) ≡ false

lacks : (b : ℕ) (marks : List ℕ) → holds b marks ≡ false → (m : ℕ) → In m marks → (m == b) ≡ false
lacks b marks h m i = any-none (λ (x : ℕ). x == b) m marks h i

marked-lacks : (b : ℕ) (marks : List ℕ) (n : Node) → holds b marks ≡ false → ((r : OwnedQuant) → In r n.quants → (r.over == b) ≡ false) → holds b (marked marks n) ≡ false
marked-lacks b marks n h u = elim (holds n.id marks) as (λ t. holds b (cond t (marks ++ overs_of n) marks) ≡ false) [
  | true ↦ any-not (λ (x : ℕ). x == b) (marks ++ overs_of n) (λ m i. elim (in-append m marks (overs_of n) i) [
    | inl j ↦ lacks b marks h m j
    | inr j ↦ (let r = in-map (λ (r : OwnedQuant). r.over) m n.quants j in subst (λ z. (z == b) ≡ false) r.1.1 (u r.0 r.1.0))
  ])
  | false ↦ h
]

reached-skip : (b : ℕ) (marks : List ℕ) (ns : List Node) → holds b marks ≡ false → Unused b ns → reached marks ns ≡ reached marks (boxes_without b ns)
reached-skip b marks [] h u = refl
reached-skip b marks (n ∷ ns) h u = elim (cases_Bool (n.id == b)) [
  | inl t ↦ (
      let f : holds n.id marks ≡ false = subst (λ z. holds z marks ≡ false) (sym (eqb-true n.id b t)) h in
      ap (λ z. reached (cond z (marks ++ overs_of n) marks) ns) f ∙ reached-skip b marks ns h (λ m r i j. u m r (inr i) j) ∙ sym (ap (λ z. reached marks (cond z (boxes_without b ns) (n ∷ boxes_without b ns))) t))
  | inr f ↦ reached-skip b (marked marks n) ns (marked-lacks b marks n h (λ r j. u n r (inl refl) j)) (λ m r i j. u m r (inr i) j) ∙ sym (ap (λ z. reached marks (cond z (boxes_without b ns) (n ∷ boxes_without b ns))) f)
]

not-reached : (b root : ℕ) (ns : List Node) → (root == b) ≡ false → Unused b ns → holds b (reached (root ∷ []) ns) ≡ false
not-reached b root ns n u = elim (cases_Bool (holds b (reached (root ∷ []) ns))) [
  | inr f ↦ f
  | inl t ↦ elim (come b (root ∷ []) ns (holds-in b (reached (root ∷ []) ns) t)) [
    | inl i ↦ elim i [ inl e ↦ absurd (clash (root == b) (eq-eqb root b e) n) | inr z ↦ elim z [ ] ]
    | inr x ↦ (let r = x.1.1.1 in absurd (clash (r.0.over == b) (eq-eqb r.0.over b r.1.1) (u x.0 r.0 x.1.0 r.1.0)))
  ]
]

kept-without : (b : ℕ) (keep : ℕ → Bool) (ns : List Node) → keep b ≡ false → kept keep ns ≡ kept keep (boxes_without b ns)
kept-without b keep [] h = refl
kept-without b keep (n ∷ ns) h = elim (cases_Bool (n.id == b)) [
  | inl t ↦ (
      let f : keep n.id ≡ false = subst (λ z. keep z ≡ false) (sym (eqb-true n.id b t)) h in
      ap (λ z. cond z (n ∷ kept keep ns) (kept keep ns)) f ∙ kept-without b keep ns h ∙ sym (ap (λ z. kept keep (cond z (boxes_without b ns) (n ∷ boxes_without b ns))) t))
  | inr f ↦ ap (λ (z : List Node). cond (keep n.id) (n ∷ z) z) (kept-without b keep ns h) ∙ sym (ap (λ z. kept keep (cond z (boxes_without b ns) (n ∷ boxes_without b ns))) f)
]

pub reached-without : (b root : ℕ) (ns : List Node) → (root == b) ≡ false → Unused b ns → reached_boxes root ns ≡ reached_boxes root (boxes_without b ns)
reached-without b root ns n u =
    let marks = reached (root ∷ []) ns in
    let h : holds b (root ∷ []) ≡ false = any-not (λ (x : ℕ). x == b) (root ∷ []) (λ m i. elim i [ inl e ↦ subst (λ z. (z == b) ≡ false) e n | inr z ↦ elim z [ ] ]) in
    kept-without b (λ x. holds x marks) ns (not-reached b root ns n u)
    ∙ ap (λ z. kept (λ x. holds x z) (boxes_without b ns)) (reached-skip b (root ∷ []) ns h u)
