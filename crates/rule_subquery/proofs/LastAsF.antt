-- A quantifier of a box goes behind the others and becomes an F: the two edits come to one change of the box.
use Rattle.std.proofs.Common.{ℕ, ◌==◌, ◌≡◌, ◌≤◌, ◌||◌, cond, Bool, true, false, List, [], ◌∷◌, ◌++◌, length, map, Some, refl, sym, ap, subst, ◌∙◌, eqb-true, ◌⊎◌, inl, inr, arith}
use Rattle.std.specs.Prelude.{insert}
use Rattle.std.specs.List.{list_any}
use Rattle.std.proofs.lemmas.Bool.{cases_Bool}
use Rattle.qgm_core.specs.Boxes.{QueryGraph, ids_of, is_box, is_quant, overs_of, owns, quants_in, quants_of, range_in}
use Rattle.qgm_core.specs.Edits.{drop_quant, move_quant, on_boxes, on_quant, put_quant, put_range, put_range_found, without_quant}
use Rattle.list_laws.specs.Lists.{In, change, first, holds, times, without}
use Rattle.qgm_core.specs.declared.kinds.QuantKind.TheVariants.{F}
use Rattle.qgm_core.specs.declared.node.Node.{Node}
use Rattle.qgm_core.specs.declared.owned.OwnedQuant.{OwnedQuant}
use Rattle.qgm_meaning.specs.Rules.{as_F}
use Rattle.qgm_edit_laws.specs.Adds.{at}
use Rattle.qgm_edit_laws.specs.Graph.{Sound}
use Rattle.qgm_edit_laws.proofs.MovedLast.{any-behind}
use Rattle.qgm_edit_laws.proofs.Edits.{once-each, split-once}
use Rattle.qgm_edit_laws.proofs.Scope.{in-first, one-owner}
use Rattle.qgm_edit_laws.proofs.Turns.{first-own}
use Rattle.qgm_edit_laws.proofs.OneBoxSteps.{Sole, absent-both, as-is, by-number, by-owner, change-last, first-owner, insert-last, without-left}
use Rattle.list_laws.proofs.Membership.{any-from, any-not, eq-itself, in-right}
use Rattle.list_laws.proofs.Counting.{times-in}

-- a box changed is found
first-at : (o : Node) (f : Node → Node) → ((y : Node) → (f y).id ≡ y.id) → (ns : List Node) → first (is_box o.id) ns ≡ Some o → first (is_box o.id) (map (at o.id f) ns) ≡ Some (f o)
first-at o f same [] h = absurd (let z : ⊥ = cc in z)
first-at o f same (n ∷ ns) h = elim (cases_Bool (n.id == o.id)) [
  | inl t ↦ (
      let e : Some n ≡ Some o = sym (ap (λ (z : Bool). cond z (Some n) (first (is_box o.id) ns)) t) ∙ h in
      let is : n ≡ o = cc in
      ap (λ (z : Bool). first (is_box o.id) (cond z (f n) n ∷ map (at o.id f) ns)) t
      ∙ ap (λ (z : Bool). cond z (Some (f n)) (first (is_box o.id) (map (at o.id f) ns))) (ap (λ z. z == o.id) (same n) ∙ t)
      ∙ ap (λ z. Some (f z)) is)
  | inr e ↦
      ap (λ (z : Bool). first (is_box o.id) (cond z (f n) n ∷ map (at o.id f) ns)) e
      ∙ ap (λ (z : Bool). cond z (Some n) (first (is_box o.id) (map (at o.id f) ns))) e
      ∙ first-at o f same ns (sym (ap (λ (z : Bool). cond z (Some n) (first (is_box o.id) ns)) e) ∙ h)
]

holds-overs : (x : ℕ) (rs : List OwnedQuant) → holds x (map (λ (y : OwnedQuant). y.over) rs) ≡ list_any (λ (y : OwnedQuant). y.over == x) rs
holds-overs x [] = refl
holds-overs x (r ∷ rs) = ap (λ t. (r.over == x) || t) (holds-overs x rs)

module _ (g : QueryGraph) (w : Sound g.boxes g.root) (o : Node) (i : In o g.boxes) (us : List OwnedQuant) (r : OwnedQuant) (vs : List OwnedQuant) (split : o.quants ≡ us ++ r ∷ vs) where
  abbrev bs : List Node
  bs = g.boxes

  abbrev q : ℕ
  q = r.id

  in-r : In r o.quants
  in-r = subst (λ z. In r z) (sym split) (in-right r us (r ∷ vs) (inl refl))

  own : owns q o ≡ true
  own = any-from (is_quant q) r o.quants in-r (eq-itself q)

  few : times q (map (λ (x : OwnedQuant). x.id) (us ++ r ∷ vs)) ≤ 1
  few = subst (λ z. times q (map (λ (x : OwnedQuant). x.id) z) ≤ 1) split (let a = times-in ids_of q o bs i in let b = w.once q in omega arith)

  absent : (xs : List OwnedQuant) → ((x : OwnedQuant) → In x xs → In x us ⊎ In x vs) → list_any (is_quant q) xs ≡ false
  absent xs h = any-not (is_quant q) xs (λ x j. split-once (λ (x : OwnedQuant). x.id) us r vs few x (h x j))

  left : list_any (is_quant q) us ≡ false
  left = absent us (λ x j. inl j)

  both : list_any (is_quant q) (us ++ vs) ≡ false
  both = absent-both q us vs left (absent vs (λ x j. inr j))

  pub sole : Sole o q bs
  sole = record {
    once = once-each bs w.ordered;
    number = λ y j t. let a : Some y ≡ Some o = sym (in-first y bs w.ordered j) ∙ ap (λ z. first (is_box z) bs) (eqb-true y.id o.id t) ∙ in-first o bs w.ordered i in cc;
    owner = λ y j t. one-owner bs g.root w q y o j i t own;
  }

  abbrev last : ℕ
  last = length (us ++ vs)

  abbrev as_row : OwnedQuant → OwnedQuant
  as_row = λ r. record r { kind = F }

  abbrev pub moved : Node → Node
  moved y = on_quant q as_row (put_range last r (without_quant q y))

  pub quants-moved : (moved o).quants ≡ (us ++ vs) ++ as_F q r.over ∷ []
  quants-moved =
      ap (λ rs. change (is_quant q) as_row (insert rs last r)) (ap (without (is_quant q)) split ∙ without-left q us r vs left (eq-itself q))
      ∙ ap (change (is_quant q) as_row) (insert-last (us ++ vs) r)
      ∙ change-last q as_row (us ++ vs) r both (eq-itself q)

  -- r goes behind the others, and is an F
  pub turned : put_quant q F (move_quant q o.id last g) ≡ on_boxes (map (at o.id moved)) g
  turned = ap (λ (z : List Node). record g { boxes = z }) (
      ap (change (owns q) (on_quant q as_row)) (
      ap (λ z. put_range_found o.id last z (change (owns q) (without_quant q) bs)) (ap (range_in q) (first-owner o q bs sole i own) ∙ first-own r o.quants (subst (λ z. times q (map (λ (x : OwnedQuant). x.id) z) ≤ 1) (sym split) few) in-r)
      ∙ ap (change (is_box o.id) (put_range last r)) (ap (change (owns q) (without_quant q)) (sym (as-is o q bs)) ∙ by-owner o q (without_quant q) (λ y. y) own bs sole)
      ∙ by-number o q (put_range last r) (without_quant q) (λ y. refl) bs sole)
      ∙ by-owner o q (on_quant q as_row) (λ y. put_range last r (without_quant q y)) own-put bs sole)
    where
      own-put : owns q (put_range last r (without_quant q o)) ≡ true
      own-put =
          let e : (put_range last r (without_quant q o)).quants ≡ (us ++ vs) ++ r ∷ [] = ap (λ rs. insert rs last r) (ap (without (is_quant q)) split ∙ without-left q us r vs left (eq-itself q)) ∙ insert-last (us ++ vs) r in
          any-from (is_quant q) r (put_range last r (without_quant q o)).quants (subst (λ z. In r z) (sym e) (in-right r (us ++ vs) (r ∷ []) (inl refl))) (eq-itself q)

  -- how many others there are
  pub places-left : length (quants_of o.id (drop_quant q g)) ≡ length (us ++ vs)
  places-left =
      ap (λ z. length (quants_in (first (is_box o.id) z))) (ap (change (owns q) (without_quant q)) (sym (as-is o q bs)) ∙ by-owner o q (without_quant q) (λ y. y) own bs sole)
      ∙ ap (λ z. length (quants_in z)) (first-at o (without_quant q) (λ y. refl) bs (in-first o bs w.ordered i))
      ∙ ap length (ap (without (is_quant q)) split ∙ without-left q us r vs left (eq-itself q))

  -- it ranges over what it did
  pub overs-last : (x : ℕ) → holds x (map (λ (y : OwnedQuant). y.over) ((us ++ vs) ++ as_F q r.over ∷ [])) ≡ holds x (overs_of o)
  overs-last x =
      holds-overs x ((us ++ vs) ++ as_F q r.over ∷ []) ∙ any-behind (λ y. y.over == x) us r (as_F q r.over) vs refl ∙ sym (holds-overs x (us ++ r ∷ vs))
      ∙ sym (ap (λ (z : List OwnedQuant). holds x (map (λ (y : OwnedQuant). y.over) z)) split)
