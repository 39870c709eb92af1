-- What a closed box reaches below itself, what it names, and boxes under quantifiers of a settled graph.
use Rattle.std.proofs.Common.{ℕ, ◌==◌, ◌≡◌, ◌≤◌, ◌&&◌, not, Bool, true, false, List, refl, sym, ap, subst, ◌∙◌, eqb-true, inl, inr, arith}
use Rattle.std.proofs.lemmas.Bool.{and_from, cases_Bool, or_cases, or_left}
use Rattle.list_laws.specs.Lists.{In, holds, times}
use Rattle.list_laws.proofs.Booleans.{clash}
use Rattle.list_laws.proofs.Counting.{in-times, times-in}
use Rattle.list_laws.proofs.Membership.{any-from, eq-itself}
use Rattle.qgm_core.specs.Boxes.{overs_of, owns}
use Rattle.qgm_core.specs.Free.{IsFree, named_by}
use Rattle.qgm_core.specs.declared.kinds.BoxKind.TheVariants.{Group, Select}
use Rattle.qgm_core.specs.declared.node.Node.{Node}
use Rattle.qgm_core.specs.declared.owned.OwnedQuant.{OwnedQuant}
use Rattle.qgm_core.proofs.Reaching.{overs-held}
use Rattle.qgm_meaning.specs.Scope.{loose, read_by}
use Rattle.qgm_terms.specs.declared.named.Column.{Column}
use Rattle.qgm_wellformed.specs.Columns.{columns_of}
use Rattle.qgm_edit_laws.specs.Graph.{Sound, nodes_in}
use Rattle.qgm_edit_laws.specs.Rebuilds.{IsOwned}
use Rattle.qgm_edit_laws.proofs.Ranks.{has-in, same-box}
use Rattle.qgm_edit_laws.proofs.Read.{column-named, is_at, named-split}
use Rattle.qgm_edit_laws.proofs.Scope.{touched}
use Rattle.qgm_props.specs.Calm.{is_closed}
use Rattle.qgm_props.specs.Inferred.{Facts}
use Rattle.rule_calm.specs.Settled.{IsFirm, SettledBox, grouped, joined}
use Rattle.rule_calm.proofs.FedSettled.{below-calm}
use Rattle.rule_calm.proofs.PartFacts.{above-not-under, under, under-named, under-over}

group-select : (k : ℕ) → Group k ≡ Select → ⊥
group-select k e = cc e

module _ (bs : List Node) (root : ℕ) (w : Sound bs root) where
  -- a box that looks nothing up names its own quantifiers alone
  pub closed-own : (n : Node) → In n bs → ((q : ℕ) → loose bs n.id q ≡ false) → (c : Column) → In c (columns_of n) → owns c.quant n ≡ true
  closed-own n i none c j =
      let m = column-named c.quant c.place n (any-from (is_at c.quant c.place) c (columns_of n) j (and_from (c.quant == c.quant) (c.place == c.place) (eq-itself c.quant) (eq-itself c.place))) in
      elim (or_cases (read_by n c.quant) (nodes_in c.quant n) (named-split c.quant n m)) [
        | inr x ↦ (w.own_nodes n i c.quant x).0
        | inl x ↦ elim (touched bs root w n c.quant i (or_left (read_by n c.quant) _ x)) [ inl o ↦ o | inr y ↦ absurd (clash (loose bs n.id c.quant) y (none c.quant)) ]
      ]

  -- a closed select over an open box isn't firm
  pub open-not-firm : (n : Node) → In n bs → n.parts.kind ≡ Select → is_closed bs n.id ≡ true → (r : OwnedQuant) → In r n.quants → is_closed bs r.over ≡ false → IsFirm bs n.id → ⊥
  open-not-firm n i k s r j o f = by n.id f refl
    where
      by : (b : ℕ) → IsFirm bs b → b ≡ n.id → ⊥
      by _ (grouped u t x y e) z = group-select 0 (sym e ∙ ap (λ (a : Node). a.parts.kind) (same-box bs u n w.ordered x i z) ∙ k)
      by _ (joined u x e p c under shut) z = clash (is_closed bs r.over) (shut (ap (is_closed bs) z ∙ s) r (subst (λ (a : Node). In r a.quants) (sym (same-box bs u n w.ordered x i z)) j)) o

  -- a box under a quantifier is clean
  pub over-clean : (f : Facts) → ((n : Node) → In n bs → SettledBox bs f root n) → (n : Node) (r : OwnedQuant) → In n bs → In r n.quants → f.clean r.over ≡ true
  over-clean f settled n r i j =
      let u = has-in r.over bs (overs-held bs n r w.ordered i j) in
      elim (or_cases (u.0.id == root) (f.clean u.0.id) (below-calm bs f root u.0 (settled u.0 u.1.0))) [
        | inr t ↦ subst (λ b. f.clean b ≡ true) u.1.1 t
        | inl t ↦ absurd (
            let e : r.over ≡ root = sym u.1.1 ∙ eqb-true u.0.id root t in
            let a : 1 ≤ times root (overs_of n) = subst (λ z. 1 ≤ times z (overs_of n)) e (in-times (λ (s : OwnedQuant). s.over) r n.quants j) in
            let b = times-in overs_of root n bs i in
            let t = w.top in
            omega (arith, a, b, t))
      ]

  -- ---- below a closed box

  module _ (b : Node) (in-b : In b bs) (closed : (q : ℕ) → IsFree bs b.id q → ⊥) where
    abbrev pub strictly : ℕ → Bool
    strictly z = under bs b.id z && not (z == b.id)

    strict-from : (z : ℕ) → under bs b.id z ≡ true → (z ≡ b.id → ⊥) → strictly z ≡ true
    strict-from z u n = and_from (under bs b.id z) (not (z == b.id)) u (elim (cases_Bool (z == b.id)) [ inr f ↦ ap not f | inl t ↦ absurd (n (eqb-true z b.id t)) ])

    pub strict-over : (n : Node) (r : OwnedQuant) → In n bs → under bs b.id n.id ≡ true → In r n.quants → strictly r.over ≡ true
    strict-over n r i u j = strict-from r.over (under-over bs root w b.id n r i j u) (λ e. above-not-under bs root w b.id n r i j e u)

    pub strict-named : (n : Node) (r : OwnedQuant) → In n bs → under bs b.id n.id ≡ true → holds r.id (named_by n) ≡ true → IsOwned bs r → strictly r.over ≡ true
    strict-named n r i u h o = elim (under-named bs root w b.id n r i u h o) [ inl x ↦ absurd (closed r.id x) | inr x ↦ strict-over o.0 r o.1.0 x o.1.1 ]
