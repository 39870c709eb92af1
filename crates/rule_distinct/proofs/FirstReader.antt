-- Where one quantifier ranges over a box, the first box that ranges over it is the only one.
use Rattle.std.proofs.Common.{ℕ, ◌≡◌, ◌≤◌, ◌==◌, ◌&&◌, Bool, true, false, List, Option, Some, None, refl, sym, ap, subst, ◌∙◌, eqb-true, inl, inr, arith}
use Rattle.std.specs.List.{list_any}
use Rattle.std.proofs.lemmas.Bool.{and_from, and_parts, cases_Bool}
use Rattle.qgm_core.specs.Boxes.{QueryGraph, overs_in, overs_of}
use Rattle.list_laws.specs.Lists.{In, first, times}
use Rattle.list_laws.proofs.Booleans.{clash}
use Rattle.list_laws.proofs.Counting.{in-times, times-once}
use Rattle.list_laws.proofs.Membership.{any-from, any-in}
use Rattle.qgm_core.specs.declared.node.Node.{Node}
use Rattle.qgm_core.specs.declared.owned.OwnedQuant.{OwnedQuant}
use Rattle.qgm_edit_laws.proofs.Levels.{first-passes, some-in}
use Rattle.rule_facts.specs.Places.{of_set}
use Rattle.rule_distinct.specs.DropUnionDistinct.{is_under_union, is_union, is_union_found, ranges_over, unites}

module _ (b : ℕ) (ns : List Node) where
  abbrev is_set : Node → Bool
  is_set n = of_set (λ form types. is_union form) n.parts.kind

  counts : (n : Node) → ranges_over b n ≡ true → 1 ≤ times b (overs_of n)
  counts n h =
      let r = any-in (λ (r : OwnedQuant). r.over == b) n.quants h in
      subst (λ (x : ℕ). 1 ≤ times x (overs_of n)) (eqb-true r.0.over b r.1.1) (in-times (λ (r : OwnedQuant). r.over) r.0 n.quants r.1.0)

  alone : times b (overs_in ns) ≤ 1 → (n m : Node) → In n ns → In m ns → ranges_over b n ≡ true → ranges_over b m ≡ true → n ≡ m
  alone one n m i j h k = times-once overs_of b n m ns one i j (counts n h) (counts m k)

  found-union : times b (overs_in ns) ≤ 1 → (o : Option Node) → first (ranges_over b) ns ≡ o → list_any (unites b) ns ≡ is_union_found o
  found-union one o e = elim (cases_Bool (list_any (unites b) ns)) [
    | inl t ↦ (
        let m = any-in (unites b) ns t in
        let p = and_parts (is_set m.0) (ranges_over b m.0) m.1.1 in
        let y = first-passes (ranges_over b) ns m.0 m.1.0 p.1 in
        let same : m.0 ≡ y.0 = alone one m.0 y.0 m.1.0 y.1.1.0 p.1 y.1.1.1 in
        let is : Some y.0 ≡ o = sym y.1.0 ∙ e in
        t ∙ sym p.0 ∙ ap is_set same ∙ ap is_union_found is)
    | inr f ↦ f ∙ none o e f
  ]
    where
      none : (o : Option Node) → first (ranges_over b) ns ≡ o → list_any (unites b) ns ≡ false → false ≡ is_union_found o
      none None e f = refl
      none (Some y) e f =
          let s = some-in (ranges_over b) ns y e in
          elim (cases_Bool (is_set y)) [
            | inl t ↦ absurd (clash (list_any (unites b) ns) (any-from (unites b) y ns s.0 (and_from (is_set y) (ranges_over b y) t s.1)) f)
            | inr n ↦ sym n
          ]

and-false : (x : Bool) → false ≡ (x && false)
and-false true = refl
and-false false = refl

and-true : (x : Bool) → x ≡ (x && true)
and-true true = refl
and-true false = refl

pub under_union_is : (g : QueryGraph) (n : Node) → is_under_union g n ≡ (is_union_found (first (ranges_over n.id) g.boxes) && (times n.id (overs_in g.boxes) == 1))
under_union_is g n = elim (cases_Bool (times n.id (overs_in g.boxes) == 1)) [
  | inl t ↦ (
      let one : times n.id (overs_in g.boxes) ≡ 1 = eqb-true (times n.id (overs_in g.boxes)) 1 t in
      ap (λ (u : Bool). u && list_any (unites n.id) g.boxes) t ∙ found-union n.id g.boxes (omega (arith, one)) (first (ranges_over n.id) g.boxes) refl
      ∙ and-true (is_union_found (first (ranges_over n.id) g.boxes)) ∙ sym (ap (λ (u : Bool). is_union_found (first (ranges_over n.id) g.boxes) && u) t))
  | inr f ↦ ap (λ (u : Bool). u && list_any (unites n.id) g.boxes) f ∙ and-false (is_union_found (first (ranges_over n.id) g.boxes)) ∙ sym (ap (λ (u : Bool). is_union_found (first (ranges_over n.id) g.boxes) && u) f)
]
