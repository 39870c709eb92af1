-- The parts of a split as the code makes them.
use Rattle.std.proofs.Common.{ℕ, suc, ◌≡◌, ◌≤◌, cond, Bool, true, false, List, [], ◌∷◌, length, None, Some, refl, sym, ap₂, subst, ◌∙◌, arith}
use Rattle.qgm_terms.specs.Conjuncts.{Conjuncts}
use Rattle.qgm_terms.specs.Terms.{Term}
use Rattle.qgm_core.specs.Boxes.{HasBox, HasQuant, QueryGraph, box_of, is_box, is_quant, owns, quants_in, quants_of}
use Rattle.list_laws.specs.Lists.{In}
use Rattle.qgm_core.specs.declared.node.Node.{Node}
use Rattle.qgm_core.specs.declared.owned.OwnedQuant.{OwnedQuant}
use Rattle.qgm_edit_laws.proofs.Levels.{first-passes, some-in}
use Rattle.rule_feed.specs.FeedCode.{IsParted, as_parted}
use Rattle.rule_feed.specs.FeedMay.{feeds}
use Rattle.rule_feed.specs.FeedSteps.{Parted, parted}
use Rattle.rule_feed.specs.Turn.{before_first}
use Rattle.rule_feed.specs.declared.feed.split.Parts.{Parts}
use Rattle.list_laws.proofs.Membership.{any-from, any-in, eq-itself, in-filter}

pub box-found : (g : QueryGraph) (b : ℕ) → HasBox b g → box_of b g ≡ None → ⊥
box-found g b h e = (
    let x = any-in (is_box b) g.boxes h in
    let y = first-passes (is_box b) g.boxes x.0 x.1.0 x.1.1 in
    let k : Some y.0 ≡ None = sym y.1.0 ∙ e in
    let z : ⊥ = cc in z)

before-within : (t : OwnedQuant → Bool) (rs : List OwnedQuant) → length (before_first t rs) ≤ length rs
before-within t [] = omega arith
before-within t (r ∷ rs) = elim (t r) as (λ c. length (cond c [] (r ∷ before_first t rs)) ≤ length (r ∷ rs)) [
  | true ↦ omega arith
  | false ↦ (let h = before-within t rs in let a : length (r ∷ before_first t rs) ≡ suc (length (before_first t rs)) = refl in let b : length (r ∷ rs) ≡ suc (length rs) = refl in omega (arith, h, a, b))
]

-- box b of h is n, and these are its parts, by graph g
module _ (g h : QueryGraph) (b c : ℕ) (n : Node) (found : box_of b h ≡ Some n) (x : Parts) (is : IsParted g.boxes n c x) where
  pub as-is : as_parted x ≡ parted g.boxes n c
  as-is =
      let p : Parted = parted g.boxes n c in
      ap₂ (λ (a : ℕ) (rs : List OwnedQuant). record { place = a; feeders = rs; taken = x.taken; head = x.head; staying = x.staying; own = x.own }) is.0 is.1.0
      ∙ ap₂ (λ (t : Conjuncts) (k : List Term). record { place = p.place; feeders = p.feeders; taken = t; head = k; staying = x.staying; own = x.own }) is.1.1.0 is.1.1.1.0
      ∙ ap₂ (λ (t : Conjuncts) (k : List Term). record { place = p.place; feeders = p.feeders; taken = p.taken; head = p.head; staying = t; own = k }) is.1.1.1.1.0 is.1.1.1.1.1

  pub there : (m : Node) → box_of b h ≡ Some m → m ≡ n
  there m e = let k : Some m ≡ Some n = sym e ∙ found in cc

  pub owned : (r : OwnedQuant) → In r x.feeders.items → HasQuant r.id h
  owned r i =
      let j : In r n.quants = (in-filter (feeds g.boxes c) r n.quants (subst (λ z. In r z) is.1.0 i)).0 in
      any-from (owns r.id) n h.boxes (some-in (is_box b) h.boxes n found).0 (any-from (is_quant r.id) r n.quants j (eq-itself r.id))

  pub within : x.place ≤ length (quants_of b h)
  within = subst (λ z. z ≤ length (quants_of b h)) (sym is.0) (subst (λ z. length (before_first (feeds g.boxes c) n.quants) ≤ length (quants_in z)) (sym found) (before-within (feeds g.boxes c) n.quants))
