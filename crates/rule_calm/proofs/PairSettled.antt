-- The select over the magic box and another: what is inferred of it, and that it is settled.
use Rattle.std.proofs.Common.{ℕ, ◌==◌, ◌≡◌, ◌≤◌, ◌+◌, ◌&&◌, ◌||◌, not, true, false, List, [], refl, sym, ap, subst, ◌∙◌, inl, inr}
use Rattle.std.specs.List.{flat_map, list_all}
use Rattle.std.proofs.lemmas.Bool.{and_from, eq-eqb, or_left, or_right}
use Rattle.std.proofs.lemmas.List.{append-nil}
use Rattle.list_laws.specs.Lists.{In}
use Rattle.list_laws.proofs.Membership.{all-from, in-append}
use Rattle.qgm_core.specs.Boxes.{owns}
use Rattle.qgm_core.specs.Edits.{range}
use Rattle.qgm_core.specs.Kinds.{is_S, is_magic}
use Rattle.qgm_core.specs.declared.kinds.QuantKind.TheVariants.{F}
use Rattle.qgm_core.specs.declared.kinds.Role.{Role}
use Rattle.qgm_core.specs.declared.node.Node.{Node}
use Rattle.qgm_core.specs.declared.owned.OwnedQuant.{OwnedQuant}
use Rattle.qgm_meaning.specs.Tags.{columns_from}
use Rattle.qgm_terms.specs.Named.{columns_in}
use Rattle.qgm_terms.specs.Terms.{Term}
use Rattle.qgm_terms.specs.declared.named.Column.{Column}
use Rattle.qgm_wellformed.specs.Columns.{columns_of}
use Rattle.qgm_edit_laws.specs.Graph.{Sound}
use Rattle.qgm_edit_laws.proofs.ShapedPut.{all-joined}
use Rattle.qgm_props.specs.Calm.{calm_column, calm_magic}
use Rattle.qgm_props.specs.Inferred.{Closed, Facts, at_place, error_free_under, is_free}
use Rattle.rule_magic.specs.Boxes.{of_both, pair_box}
use Rattle.rule_calm.specs.Settled.{IsFirm, SettledBox, has_no_single, single_free}
use Rattle.rule_calm.proofs.Framed.{firm-single, known-clean, known-free, range-is, settled-from}
use Rattle.rule_calm.proofs.HeadPlaces.{column-split, columns-single, place-alone, place-left, place-range, place-right}

module _ (hs : List Node) (root : ℕ) (v : Sound hs root) (kn : Facts) (closed : Closed hs kn) (b : ℕ) (role : Role) (a m w q x len : ℕ) (i : In (pair_box b role a m w q x len) hs) where
  abbrev n : Node
  n = pair_box b role a m w q x len

  pub pair-clean : kn.clean m ≡ true → kn.clean x ≡ true → kn.clean b ≡ true
  pair-clean h k = known-clean hs v.ordered kn closed n i (and_from (kn.clean m && (kn.clean x && true)) true (and_from (kn.clean m) (kn.clean x && true) h (and_from (kn.clean x) true k refl)) refl)

  under-a : (k : ℕ) → error_free_under hs kn a k ≡ kn.error_free m k
  under-a k = range-is hs root v (λ z. kn.error_free z k) (range a F m) (n, (i, inl refl))

  under-q : (k : ℕ) → error_free_under hs kn q k ≡ kn.error_free x k
  under-q k = range-is hs root v (λ z. kn.error_free z k) (range q F x) (n, (i, inr (inl refl)))

  at-free : (k : ℕ) → at_place (is_free hs kn false) (of_both a w q len) k ≡ true → kn.error_free b k ≡ true
  at-free k h = known-free hs v.ordered kn closed n i k (place-range (is_free hs kn false) (of_both a w q len) k h) h

  -- a column of the magic box
  pub pair-first : (k : ℕ) → 1 ≤ k → k ≤ w → kn.error_free m k ≡ true → kn.error_free b k ≡ true
  pair-first k s l h = at-free k (place-left (is_free hs kn false) a w (columns_from q 1 len) k s l (under-a k ∙ h))

  -- and of the other
  pub pair-second : (j k : ℕ) → k ≡ w + j → 1 ≤ j → j ≤ len → kn.error_free x j ≡ true → kn.error_free b k ≡ true
  pair-second j k e s l h = at-free k (place-right (is_free hs kn false) a w (columns_from q 1 len) j k e (place-alone (is_free hs kn false) q len j s l (under-q j ∙ h)))

  pub pair-settled : is_magic role ≡ false → kn.clean b ≡ true → SettledBox hs kn root n
  pair-settled plain h = settled-from hs kn root n (or_right (b == root) (kn.clean b) h) columns (or_left (not (is_magic role)) (calm_magic hs kn n) (ap not plain)) no-single scalars (firm-single hs v.ordered kn closed)
    where
      own-a : (y : Column) → y.quant ≡ a → calm_column hs kn n y ≡ true
      own-a y e = or_left (owns y.quant n) (error_free_under hs kn y.quant y.place) (or_left (a == y.quant) ((q == y.quant) || false) (eq-eqb a y.quant (sym e)))

      own-q : (y : Column) → y.quant ≡ q → calm_column hs kn n y ≡ true
      own-q y e = or_left (owns y.quant n) (error_free_under hs kn y.quant y.place) (or_right (a == y.quant) ((q == y.quant) || false) (or_left (q == y.quant) false (eq-eqb q y.quant (sym e))))

      none : (y : Column) → In y [] → calm_column hs kn n y ≡ true
      none y z = elim z [ ]

      columns : list_all (calm_column hs kn n) (columns_of n) ≡ true
      columns = all-from (calm_column hs kn n) (columns_of n) (λ y j. elim (in-append y (flat_map columns_in (of_both a w q len)) [] j) [
        | inl z ↦ elim (column-split y a 1 w (columns_from q 1 len) z) [
          | inl e ↦ own-a y e
          | inr z ↦ elim (column-split y q 1 len [] (subst (λ (t : List Term). In y (flat_map columns_in t)) (sym (append-nil (columns_from q 1 len))) z)) [ inl e ↦ own-q y e | inr z ↦ none y z ]
        ]
        | inr z ↦ none y z
      ])

      no-single : has_no_single n ≡ true
      no-single = and_from (list_all single_free (of_both a w q len)) true (all-joined single_free (columns_from a 1 w) (columns_from q 1 len) (columns-single a 1 w) (columns-single q 1 len)) refl

      scalars : (r : OwnedQuant) → In r n.quants → is_S r.kind ≡ true → IsFirm hs r.over
      scalars r j t = elim j [
        | inl e ↦ absurd (let z : is_S F ≡ true = ap (λ (s : OwnedQuant). is_S s.kind) e ∙ t in let y : ⊥ = cc in y)
        | inr j ↦ elim j [
          | inl e ↦ absurd (let z : is_S F ≡ true = ap (λ (s : OwnedQuant). is_S s.kind) e ∙ t in let y : ⊥ = cc in y)
          | inr z ↦ elim z [ ]
        ]
      ]
