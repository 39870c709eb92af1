-- G1: what is found at a place, and what the edits come to.
use Rattle.std.proofs.Common.{ℕ, ◌==◌, ◌≡◌, ◌≤◌, ◌-◌, cond, true, false, List, [], ◌∷◌, ◌++◌, length, None, Some, slice_get, refl, sym, ap, ap₂, subst, ◌∙◌, inl, inr}
use Rattle.std.specs.List.{list_any}
use Rattle.std.proofs.lemmas.Bool.{cases_Bool, eq-eqb}
use Rattle.qgm_core.specs.Boxes.{HasBox, HasQuant, Ordered, QueryGraph, box_of, has_box, is_box, is_quant, numbers, owns}
use Rattle.qgm_core.specs.Edits.{compact}
use Rattle.qgm_core.specs.Held.{HasAll}
use Rattle.qgm_core.specs.Kinds.{is_S}
use Rattle.list_laws.specs.Lists.{EachOnce, In}
use Rattle.qgm_core.specs.declared.kinds.QuantKind.TheVariants.{F}
use Rattle.qgm_core.specs.declared.node.Node.{Node}
use Rattle.qgm_core.specs.declared.owned.OwnedQuant.{OwnedQuant}
use Rattle.qgm_core.proofs.Reaching.{in-has}
use Rattle.qgm_wellformed.specs.Sentences.{WellFormed}
use Rattle.qgm_wellformed.specs.WellFormed.{fault}
use Rattle.qgm_wellformed.proofs.Faults.{finds-none}
use Rattle.qgm_edit_laws.specs.Graph.{Sound}
use Rattle.qgm_edit_laws.proofs.CheckedParts.{sound}
use Rattle.qgm_edit_laws.proofs.Levels.{some-in}
use Rattle.rule_api.specs.declared.place.Place.{Place}
use Rattle.rule_facts.proofs.FactsThere.{here-at}
use Rattle.rule_feed.specs.Feed.{Numbers}
use Rattle.rule_feed.specs.FeedActs as act
use Rattle.rule_feed.specs.FeedActs.{Feeds, FeedsAt, settled_node, settled_quant}
use Rattle.rule_feed.specs.FeedCode.{IsPlace}
use Rattle.rule_feed.specs.FeedMay.{MayFeed, MayFeedAt}
use Rattle.rule_feed.specs.FeedSteps.{parted, settle_edits, split_edits}
use Rattle.rule_feed.specs.FillSteps.{AreNew, fill_edits}
use Rattle.rule_feed.proofs.FeedSettled as settled
use Rattle.rule_feed.proofs.FeedSettled.{once-above}
use Rattle.rule_feed.proofs.FillMade.{fill-comes}
use Rattle.rule_feed.proofs.SettleMade.{settle-comes}
use Rattle.rule_feed.proofs.SplitEdits.{first-here}
use Rattle.rule_feed.proofs.SplitMade.{split-comes}
use Rattle.rule_subquery.proofs.QuantPlaces.{box-is, from-one, not-none, quant-in, under-there, within-box}
use Rattle.list_laws.proofs.Membership.{any-from, eq-itself, in-map, in-right}

-- a settled quantifier keeps its number and its box
pub settled-id : (r : OwnedQuant) → (settled_quant r).id ≡ r.id
settled-id r = elim (is_S r.kind) as (λ t. (λ (z : OwnedQuant). z.id) (cond t (record { id = r.id; kind = F; over = r.over }) r) ≡ r.id) [ true ↦ refl | false ↦ refl ]

pub settled-over : (r : OwnedQuant) → (settled_quant r).over ≡ r.over
settled-over r = elim (is_S r.kind) as (λ t. (λ (z : OwnedQuant). z.over) (cond t (record { id = r.id; kind = F; over = r.over }) r) ≡ r.over) [ true ↦ refl | false ↦ refl ]

-- what a graph hasn't that has all of g, g hasn't
lacks-box : (g h : QueryGraph) → HasAll g h → (s : ℕ) → (HasBox s h → ⊥) → has_box g.boxes s ≡ false
lacks-box g h k s n = elim (cases_Bool (has_box g.boxes s)) [ inr e ↦ e | inl e ↦ absurd (n (k.0 s e)) ]

lacks-quant : (g h : QueryGraph) → HasAll g h → (q : ℕ) → (HasQuant q h → ⊥) → list_any (owns q) g.boxes ≡ false
lacks-quant g h k q n = elim (cases_Bool (list_any (owns q) g.boxes)) [ inr e ↦ e | inl e ↦ absurd (n (k.1 q e)) ]

-- a box of a number
pub numbered : (g : QueryGraph) (b : ℕ) → In b (numbers g.boxes) → HasBox b g
numbered g b i = let n = in-map (λ (n : Node). n.id) b g.boxes i in any-from (is_box b) n.0 g.boxes n.1.0 (eq-eqb n.0.id b n.1.1)

-- a box stands between others
in-split : (n : Node) (ns : List Node) → In n ns → (above : List Node) × ((below : List Node) × (ns ≡ above ++ n ∷ below))
in-split n [] i = elim i [ ]
in-split n (x ∷ xs) i = elim i [
  | inl e ↦ ([], (xs, ap (λ z. z ∷ xs) e))
  | inr j ↦ (let s = in-split n xs j in (x ∷ s.0, (s.1.0, ap (λ z. x ∷ z) s.1.1)))
]

-- what the steps give: an S is settled, those that feed are split from the box, and the box under the quantifier is fed
pub record Fires (g : QueryGraph) (b : Node) (r : OwnedQuant) (g1 g2 g3 : QueryGraph) (s q : ℕ) (x : Numbers) : Type 0 where
  pub settles : g1 ≡ settle_edits b r g
  pub all : HasAll g g1
  pub new_s : HasBox s g1 → ⊥
  pub new_q : HasQuant q g1 → ⊥
  pub splits : (n : Node) → box_of b.id g1 ≡ Some n → g2 ≡ split_edits (numbers g.boxes) g.boxes b.id (parted g.boxes n r.over) s q g1
  pub new : AreNew g2 x
  pub fills : g3 ≡ fill_edits g2 b.id s q (settled_quant r) x

module _ (g : QueryGraph) (u : EachOnce (numbers g.boxes)) (w : WellFormed g) (p : Place) (b : Node) (us : List OwnedQuant) (r : OwnedQuant) (vs : List OwnedQuant) (m : MayFeedAt p g b us r vs) where
  f : fault g ≡ None
  f = (finds-none g u).1 w

  sg : Sound g.boxes g.root
  sg = sound g u f

  in-b : In b g.boxes
  in-b = here-at g u f b p.at m.at

  in-r : In r b.quants
  in-r = subst (λ z. In r z) (sym m.split) (in-right r us (r ∷ vs) (inl refl))

  held-b : HasBox b.id g
  held-b = in-has b g.boxes in-b

  owned-r : HasQuant r.id g
  owned-r = any-from (owns r.id) b g.boxes in-b (any-from (is_quant r.id) r b.quants in-r (eq-itself r.id))

  under : (c : Node) × (box_of r.over g ≡ Some c)
  under = under-there g sg b in-b r in-r

  held-c : HasBox r.over g
  held-c = let z = some-in (is_box r.over) g.boxes under.0 under.1 in any-from (is_box r.over) under.0 g.boxes z.0 z.1

  abbrev b1 : Node
  b1 = settled_node us r vs b

  id1 : b1.id ≡ b.id
  id1 = (settled.settles g u f p b us r vs m).id b

  module _ (g1 g2 g3 : QueryGraph) (s q : ℕ) (x : Numbers) (e : Fires g b r g1 g2 g3 s q x) where
    stand : (above : List Node) × ((below : List Node) × (g.boxes ≡ above ++ b ∷ below))
    stand = in-split b g.boxes in-b

    abbrev above : List Node
    above = stand.0

    abbrev below : List Node
    below = stand.1.0

    abbrev h1 : QueryGraph
    h1 = record g { boxes = above ++ b1 ∷ below }

    abbrev h2 : QueryGraph
    h2 = record g { boxes = act.split_up g.boxes b1 r.over q s above below }

    new-s : has_box g.boxes s ≡ false
    new-s = lacks-box g g1 e.all s e.new_s

    new-q : list_any (owns q) g.boxes ≡ false
    new-q = lacks-quant g g1 e.all q e.new_q

    is1 : g1 ≡ h1
    is1 = e.settles ∙ settle-comes g u f p b us r vs m above below stand.1.1

    found1 : box_of b.id g1 ≡ Some b1
    found1 =
        ap (box_of b.id) is1
        ∙ first-here (is_box b.id) above b1 below (once-above above b below (subst Ordered stand.1.1 sg.ordered)).0 (subst (λ z. (b1.id == z) ≡ true) id1 (eq-itself b1.id))

    is2 : g2 ≡ h2
    is2 =
        e.splits b1 found1
        ∙ ap₂ (λ (z : ℕ) (h : QueryGraph). split_edits (numbers g.boxes) g.boxes z (parted g.boxes b1 r.over) s q h) (sym id1) is1
        ∙ split-comes g u f p b us r vs m above below stand.1.1 q s new-s new-q

    new2 : AreNew h2 x
    new2 = subst (λ (h : QueryGraph). AreNew h x) is2 e.new

    is3 : g3 ≡ record g { boxes = act.fed_up g.boxes b1 r.over q s above below under.0 (settled_quant r) x }
    is3 =
        e.fills
        ∙ ap₂ (λ (z : ℕ) (h : QueryGraph). fill_edits h z s q (settled_quant r) x) (sym id1) is2
        ∙ fill-comes g u f p b us r vs m above below stand.1.1 under.0 under.1 q s new-s new-q x new2

    fires-at : FeedsAt p g (compact g3) b us r vs
    fires-at = record {
      may = m;
      above = above;
      below = below;
      stands = stand.1.1;
      c = under.0;
      under = under.1;
      q = q;
      s = s;
      x = x;
      new_q = new-q;
      new_s = new-s;
      new_d = new2.new_d;
      new_m = new2.new_m;
      apart = new2.apart;
      new_dm = new2.new_dm;
      new_dc = new2.new_dc;
      new_mq = new2.new_mq;
      apart_dc = new2.apart_dc;
      apart_mq = new2.apart_mq;
      apart_both = new2.apart_both;
      after = ap compact is3;
    }

-- ---- at a place

module _ (g : QueryGraph) (p : Place) (h : MayFeed p g) where
  pub found : box_of p.at g ≡ None → ⊥
  unfolding MayFeed
  found e = not-none g p.at h.0 h.1.1.1.1.at e

  pub first-there : 1 ≤ p.i
  unfolding MayFeed
  first-there = let m = h.1.1.1.1 in from-one g p.at h.0 m.at p.i h.1.0 h.1.1.0 h.1.1.1.0 m.split m.nth

  module _ (n : Node) (e : box_of p.at g ≡ Some n) where
    pub within-there : p.i ≤ length n.quants
    unfolding MayFeed
    within-there = let m = h.1.1.1.1 in subst (λ (z : Node). p.i ≤ length z.quants) (sym (box-is g p.at h.0 m.at n e)) (within-box g p.at h.0 m.at p.i h.1.0 h.1.1.0 h.1.1.1.0 m.split m.nth)

    -- what is found there is that of the condition
    pub place-there : (t : OwnedQuant) → Some t ≡ slice_get n.quants (p.i - 1) → IsPlace p g n t
    unfolding MayFeed
    place-there t l =
        let m = h.1.1.1.1 in
        let b : n ≡ h.0 = box-is g p.at h.0 m.at n e in
        let r : t ≡ h.1.1.0 = quant-in g p.at h.0 m.at p.i h.1.0 h.1.1.0 h.1.1.1.0 m.split m.nth t (subst (λ (z : Node). Some t ≡ slice_get z.quants (p.i - 1)) b l) in
        (h.1.0, (h.1.1.1.0, subst (λ (z : OwnedQuant). MayFeedAt p g n h.1.0 z h.1.1.1.0) (sym r) (subst (λ (z : Node). MayFeedAt p g z h.1.0 h.1.1.0 h.1.1.1.0) (sym b) m)))

module _ (g : QueryGraph) (u : EachOnce (numbers g.boxes)) (w : WellFormed g) (p : Place) (b : Node) (r : OwnedQuant) (m : IsPlace p g b r) where
  pub box-there : HasBox b.id g
  box-there = held-b g u w p b m.0 r m.1.0 m.1.1

  pub quant-there : HasQuant r.id g
  quant-there = owned-r g u w p b m.0 r m.1.0 m.1.1

  pub under-box : HasBox r.over g
  under-box = held-c g u w p b m.0 r m.1.0 m.1.1

  pub acts : (g1 g2 g3 : QueryGraph) (s q : ℕ) (x : Numbers) → Fires g b r g1 g2 g3 s q x → Feeds p g (compact g3)
  unfolding Feeds
  acts g1 g2 g3 s q x k = (b, (m.0, (r, (m.1.0, fires-at g u w p b m.0 r m.1.0 m.1.1 g1 g2 g3 s q x k))))
