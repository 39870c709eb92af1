-- A quantifier of a box that no other box names is free in none.
use Rattle.std.proofs.Common.{ℕ, ◌==◌, ◌&&◌, ◌≡◌, not, cond, Bool, true, false, List, [], ◌∷◌, filter, refl, sym, ap, subst, ◌∙◌, eqb-true, inl, inr}
use Rattle.std.specs.List.{flat_map}
use Rattle.std.proofs.Math.Bool.{and-false}
use Rattle.std.proofs.lemmas.Bool.{cases_Bool, eq-eqb}
use Rattle.qgm_wellformed.proofs.Below.{free-free}
use Rattle.qgm_wellformed.proofs.Faults.{finds-none}
use Rattle.qgm_wellformed.specs.Sentences.{WellFormed}
use Rattle.qgm_core.specs.Boxes.{QueryGraph, is_quant, numbers, owns}
use Rattle.qgm_core.specs.Free.{IsFree, free, named_by}
use Rattle.qgm_core.specs.Kinds.{is_F}
use Rattle.list_laws.specs.Lists.{EachOnce, In, holds}
use Rattle.qgm_core.specs.declared.node.Node.{Node}
use Rattle.qgm_core.specs.declared.owned.OwnedQuant.{OwnedQuant}
use Rattle.qgm_edit_laws.specs.Graph.{Sound}
use Rattle.qgm_edit_laws.proofs.Formed.{sound-checked}
use Rattle.rule_merge.specs.MergeSelectLookups.{any_named, foreign, foreigns}
use Rattle.rule_merge.specs.MergeSelect.{has_lateral, is_lateral}
use Rattle.list_laws.proofs.Membership.{any-from, any-in, any-not, in-left, in-right}
use Rattle.list_laws.proofs.Booleans.{clash}

in-filter : (p : ℕ → Bool) (x : ℕ) (xs : List ℕ) → In x xs → p x ≡ true → In x (filter p xs)
in-filter p x [] i t = elim i [ ]
in-filter p x (y ∷ ys) i t = elim i [
  | inl e ↦ subst (λ z. In x (cond z (y ∷ filter p ys) (filter p ys))) (sym (ap p e ∙ t)) (inl e)
  | inr j ↦ elim (p y) as (λ z. In x (cond z (y ∷ filter p ys) (filter p ys))) [ true ↦ inr (in-filter p x ys j t) | false ↦ in-filter p x ys j t ]
]

in-flat : (f : Node → List ℕ) (x : ℕ) (n : Node) (ns : List Node) → In n ns → In x (f n) → In x (flat_map f ns)
in-flat f x n [] i j = elim i [ ]
in-flat f x n (m ∷ ns) i j = elim i [
  | inl e ↦ in-left x (f m) (flat_map f ns) (subst (λ (z : Node). In x (f z)) (sym e) j)
  | inr k ↦ in-right x (f m) (flat_map f ns) (in-flat f x n ns k j)
]

module _ (g : QueryGraph) (u : EachOnce (numbers g.boxes)) (w : WellFormed g) (c : Node) (none : any_named (foreigns g.boxes) c.quants ≡ false) where
  sound : Sound g.boxes g.root
  sound = ((sound-checked g u).0 ((finds-none g u).1 w)).0

  -- what is free in a box is named by another one than its owner
  named : (b q : ℕ) → In q (free b g) → holds q (foreigns g.boxes) ≡ true
  named b q i =
      let f : IsFree g.boxes b q = (free-free g.boxes sound.ordered b q).0 (any-from (λ (m : ℕ). m == q) q (free b g) i (eq-eqb q q refl)) in
      let n : Node = f.0.0 in
      let k = f.0.1 in
      let x = any-in (λ (m : ℕ). m == q) (named_by n) k.1.1 in
      let own : owns q n ≡ false = f.1 n k.0 k.1.0 in
      let in-n : In q (named_by n) = subst (λ z. In z (named_by n)) (eqb-true x.0 q x.1.1) x.1.0 in
      any-from (λ (m : ℕ). m == q) q (foreigns g.boxes) (in-flat foreign q n g.boxes k.0 (in-filter (λ (q : ℕ). not (owns q n)) q (named_by n) in-n (ap not own))) (eq-eqb q q refl)

  no-own : (b s q : ℕ) → In q (free b g) → (owns q c && not (q == s)) ≡ false
  no-own b s q i = elim (cases_Bool (owns q c)) [
    | inr f ↦ ap (λ z. z && not (q == s)) f
    | inl t ↦ absurd (
        let r = any-in (is_quant q) c.quants t in
        clash (any_named (foreigns g.boxes) c.quants) (any-from (λ (r : OwnedQuant). holds r.id (foreigns g.boxes)) r.0 c.quants r.1.0 (subst (λ z. holds z (foreigns g.boxes) ≡ true) (sym (eqb-true r.0.id q r.1.1)) (named b q i))) none)
  ]

  apart : (s : OwnedQuant) → is_lateral g c s ≡ false
  apart s = ap (λ z. is_F s.kind && z) (any-not (λ q. owns q c && not (q == s.id)) (free s.over g) (no-own s.over s.id)) ∙ and-false (is_F s.kind)

pub unnamed_apart : (g : QueryGraph) → EachOnce (numbers g.boxes) → WellFormed g → (c : Node) → any_named (foreigns g.boxes) c.quants ≡ false → has_lateral g c ≡ false
unnamed_apart g u w c h = any-not (is_lateral g c) c.quants (λ s i. apart g u w c h s)
