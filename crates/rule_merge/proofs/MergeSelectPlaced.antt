-- What the code of M1 needs and makes at a place.
use Rattle.std.proofs.Common.{ℕ, zero, suc, ◌<◌, ◌+◌, ◌-◌, ◌&&◌, ◌||◌, ◌≡◌, not, true, List, [], ◌∷◌, ◌++◌, drop, length, Some, refl, sym, ap, subst, ◌∙◌, eqb-true, arith}
use Rattle.std.specs.Prelude.{slice_get, slice_index_or}
use Rattle.std.proofs.lemmas.List.{length-append}
use Rattle.qgm_wellformed.specs.Sentences.{WellFormed}
use Rattle.qgm_core.specs.Boxes.{HasBox, QueryGraph, box_of, is_box, numbers}
use Rattle.list_laws.specs.Lists.{EachOnce, In}
use Rattle.qgm_core.specs.declared.node.Node.{Node}
use Rattle.qgm_core.specs.declared.owned.OwnedQuant.{OwnedQuant}
use Rattle.rule_merge.specs.Merged.{merged_in}
use Rattle.qgm_edit_laws.proofs.Levels.{some-in}
use Rattle.qgm_terms.specs.Terms.{Term}
use Rattle.qgm_terms.specs.Wanted.{node_free}
use Rattle.rule_api.specs.Rules.{Preserves}
use Rattle.rule_api.specs.declared.place.Place.{Place}
use Rattle.rule_merge.specs.MergeSelect.{IsMergeable, MergesBox, MergesSelect, cells_free, may_at, merged_with, read_elsewhere}
use Rattle.rule_merge.specs.MergeSelectExact.{PassesMerge, PlansAt, mergeable-from, merged-same}
use Rattle.rule_merge.specs.MergeSelectSteps.{MayStep, Stands, merge_steps}
use Rattle.rule_merge.specs.declared.merge_select.action.MergePlan.{MergePlan}
use Rattle.rule_merge.proofs.MergeSelectActs.{may-step, steps-made}
use Rattle.rule_merge.proofs.MergeSelectKept.{merge-preserves}
use Rattle.qgm_core.proofs.Reaching.{in-has}
use Rattle.list_laws.proofs.Indexed.{index-get}

-- the first cell that is left is free or not read, and the rest are
pub cells-more : (b q : ℕ) (bs : List Node) (k j : ℕ) (xs : List Term) (x : Term) → slice_get xs j ≡ Some x → cells_free b q bs k (drop j xs) ≡ ((node_free x || not (read_elsewhere b q k bs)) && cells_free b q bs (k + 1) (drop (j + 1) xs))
cells-more b q bs k j [] x e = absurd (let z : ⊥ = cc in z)
cells-more b q bs k zero (y ∷ xs) x e =
    let s : y ≡ x = cc in
    let n : suc k ≡ k + 1 = omega arith in
    ap (λ z. (node_free z || not (read_elsewhere b q k bs)) && cells_free b q bs (suc k) xs) s ∙ ap (λ z. (node_free x || not (read_elsewhere b q k bs)) && cells_free b q bs z xs) n
cells-more b q bs k (suc j) (y ∷ xs) x e =
    let n : suc (j + 1) ≡ suc j + 1 = omega arith in
    cells-more b q bs k j xs x e ∙ ap (λ z. (node_free x || not (read_elsewhere b q k bs)) && cells_free b q bs (k + 1) (drop z (y ∷ xs))) n

-- a box that is found has the number by which it is found
pub found-itself : (g : QueryGraph) (b : ℕ) (n : Node) → box_of b g ≡ Some n → box_of n.id g ≡ Some n
found-itself g b n e = subst (λ z. box_of z g ≡ Some n) (sym (eqb-true n.id b (some-in (is_box b) g.boxes n e).1)) e

pub found_has : (g : QueryGraph) (b : ℕ) (n : Node) → box_of b g ≡ Some n → HasBox n.id g
found_has g b n e = in-has n g.boxes (some-in (is_box b) g.boxes n e).0

get-mid : {X : Type 0} (us : List X) (x : X) (vs : List X) → slice_get (us ++ x ∷ vs) (length us) ≡ Some x
get-mid [] x vs = refl
get-mid (u ∷ us) x vs = get-mid us x vs

some-same : {X : Type 0} (x y : X) → Some x ≡ Some y → x ≡ y
some-same x y e = cc

module _ (g : QueryGraph) (u : EachOnce (numbers g.boxes)) (w : WellFormed g) (p : Place) (d : PassesMerge g p.at p.i) (m : MergePlan) (x : PlansAt g p m) where
  same-b : d.n ≡ x.b
  same-b = some-same d.n x.b (sym d.at ∙ x.found)

  in-b : In x.b g.boxes
  in-b = (some-in (is_box p.at) g.boxes x.b x.found).0

  split-then : x.b.quants ≡ d.us ++ d.r ∷ d.vs
  split-then = subst (λ (y : Node). y.quants ≡ d.us ++ d.r ∷ d.vs) same-b d.split

  get-then : slice_get x.b.quants (p.i - 1) ≡ Some d.r
  get-then =
      let n : p.i - 1 ≡ length d.us = (let e = d.nth in omega arith) in
      ap (λ y. slice_get y (p.i - 1)) split-then ∙ ap (slice_get (d.us ++ d.r ∷ d.vs)) n ∙ get-mid d.us d.r d.vs

  same-r : x.r ≡ d.r
  same-r = some-same x.r d.r (sym x.nth ∙ get-then)

  under-then : box_of d.r.over g ≡ Some x.c
  under-then = subst (λ (y : OwnedQuant). box_of y.over g ≡ Some x.c) same-r x.under

  is : IsMergeable g x.b x.c d.us d.r d.vs
  is =
      let n = mergeable-from g w x.b d.us d.r d.vs in-b split-then (subst (λ y. may_at g y d.r ≡ true) same-b d.passes) in
      let s : n.0 ≡ x.c = some-same n.0 x.c (sym n.1.under ∙ under-then) in
      subst (λ y. IsMergeable g x.b y d.us d.r d.vs) s n.1

  stands-then : Stands g x.b p.i x.r x.c
  stands-then = record {
    at = found-itself g p.at x.b x.found;
    select_b = is.select_b;
    from_one = (let e = d.nth in omega arith);
    nth = x.nth;
    under = x.under;
    one_use = is.one_use;
  }

  pub may-step-then : MayStep g m
  may-step-then = may-step g u w x.b p.i x.r x.c stands-then m x.plans

  module _ (h : QueryGraph) (made : h ≡ merge_steps m g) where
    after-then : h ≡ merged_in x.b x.c d.us d.r d.vs g
    after-then = made ∙ steps-made g u w x.b p.i x.r x.c stands-then m x.plans ∙ ap (λ (y : OwnedQuant). merged_with g x.b x.c y.id) same-r ∙ merged-same g w x.b x.c d.us d.r d.vs in-b split-then

    merges-then : MergesBox p g h x.b x.c d.us d.r d.vs
    merges-then = record { at = x.found; split = split-then; nth = d.nth; under = under-then; after = after-then }

    pub acts-then : MergesSelect p g h
    unfolding MergesSelect
    acts-then = (x.b, (x.c, (d.us, (d.r, (d.vs, merges-then)))))

    pub preserves-then : Preserves g h
    preserves-then = subst (λ y. Preserves g y) (sym after-then) (merge-preserves g u w x.b x.c d.us d.r d.vs in-b is)

-- what the code has at a place is what the place says
module _ (g : QueryGraph) (p : Place) (d : PassesMerge g p.at p.i) (b : Node) (found : box_of p.at g ≡ Some b) where
  pub room-then : p.i - 1 < length b.quants
  room-then =
      let e : length b.quants ≡ length (d.us ++ d.r ∷ d.vs) = ap length (sym (ap (λ (y : Node). y.quants) (some-same d.n b (sym d.at ∙ found))) ∙ d.split) in
      let l = length-append d.us (d.r ∷ d.vs) in
      let n = d.nth in
      omega arith

  pub get-at : (list : List OwnedQuant) → list ≡ b.quants → (z : OwnedQuant) → slice_get b.quants (p.i - 1) ≡ Some (slice_index_or list (p.i - 1) z)
  get-at list own z =
      subst (λ y. slice_get y (p.i - 1) ≡ Some (slice_index_or list (p.i - 1) z)) own
      (index-get (p.i - 1) list z (let h = room-then in let e : length list ≡ length b.quants = ap length own in omega arith))
