-- Where G1 may fire, the edits that feed a box come to its action.
use Rattle.std.proofs.Common.{ℕ, ◌≡◌, false, List, [], ◌∷◌, ◌++◌, map, None, Some, refl, sym, ap, subst, ◌∙◌}
use Rattle.std.specs.List.{list_any}
use Rattle.qgm_core.specs.Boxes.{QueryGraph, box_of, has_box, numbers, owns}
use Rattle.qgm_core.specs.Edits.{compact, on_boxes, range}
use Rattle.list_laws.specs.Lists.{EachOnce}
use Rattle.qgm_core.specs.declared.kinds.QuantKind.TheVariants.{F}
use Rattle.qgm_core.specs.declared.node.Node.{Node}
use Rattle.qgm_core.specs.declared.owned.OwnedQuant.{OwnedQuant}
use Rattle.qgm_wellformed.specs.WellFormed.{fault}
use Rattle.qgm_edit_laws.specs.Graph.{Sound}
use Rattle.qgm_edit_laws.proofs.Edits.{map-append}
use Rattle.rule_api.specs.declared.place.Place.{Place}
use Rattle.rule_feed.specs.Feed.{Numbers, fed_boxes}
use Rattle.rule_feed.specs.FeedActs as act
use Rattle.rule_feed.specs.FeedActs.{FeedsAt, settled_node, settled_quant}
use Rattle.rule_feed.specs.FeedLaws.{FeedsOne}
use Rattle.rule_feed.specs.FeedMay.{MayFeedAt}
use Rattle.rule_feed.specs.FillSteps.{AreNew, FillComes, fill_edits}
use Rattle.rule_feed.proofs.FeedKeeps as keeps
use Rattle.rule_feed.proofs.FeedPlaced as placed
use Rattle.rule_feed.proofs.FillEdits.{filled}

module _ (g : QueryGraph) (u : EachOnce (numbers g.boxes)) (f : fault g ≡ None) (p : Place) (b : Node) (us : List OwnedQuant) (r : OwnedQuant) (vs : List OwnedQuant) (m : MayFeedAt p g b us r vs)
    (above below : List Node) (stands : g.boxes ≡ above ++ b ∷ below) (c : Node) (under : box_of r.over g ≡ Some c) (q s : ℕ) (new-s : has_box g.boxes s ≡ false) (new-q : list_any (owns q) g.boxes ≡ false) (x : Numbers)
    (new : AreNew (record g { boxes = act.split_up g.boxes (settled_node us r vs b) r.over q s above below }) x) where
  abbrev h : QueryGraph
  h = compact (on_boxes (λ bs. act.fed_up g.boxes (settled_node us r vs b) r.over q s above below c (settled_quant r) x) g)

  abbrev a : FeedsAt p g h b us r vs
  a = record {
    may = m;
    above = above;
    below = below;
    stands = stands;
    c = c;
    under = under;
    q = q;
    s = s;
    x = x;
    new_q = new-q;
    new_s = new-s;
    new_d = new.new_d;
    new_m = new.new_m;
    apart = new.apart;
    new_dm = new.new_dm;
    new_dc = new.new_dc;
    new_mq = new.new_mq;
    apart_dc = new.apart_dc;
    apart_mq = new.apart_mq;
    apart_both = new.apart_both;
    after = refl;
  }

  abbrev k : Node → Node
  k = act.after_split g.boxes (settled_node us r vs b) r.over q s

  abbrev s' : Node
  s' = act.new_select g.boxes (settled_node us r vs b) r.over q s

  abbrev b2 : Node
  b2 = placed.b2 g u f p b us r vs m above below stands q s

  abbrev b3 : Node
  b3 = keeps.b3 g u f p h b us r vs a

  abbrev ys : List Node
  ys = s' ∷ map k below

  up : map k (above ++ b2 ∷ []) ≡ map k above ++ b3 ∷ []
  up = map-append k above (b2 ∷ []) ∙ ap (λ (z : Node). map k above ++ z ∷ []) (keeps.k-b2 g u f p h b us r vs a)

  pub made : fill_edits (record g { boxes = act.split_up g.boxes (settled_node us r vs b) r.over q s above below }) (settled_node us r vs b).id s q (settled_quant r) x
      ≡ record g { boxes = act.fed_up g.boxes (settled_node us r vs b) r.over q s above below c (settled_quant r) x }
  made =
      ap (λ (z : List Node). fill_edits (record g { boxes = z }) (settled_node us r vs b).id s q (settled_quant r) x) (keeps.same-hs g u f p h b us r vs a ∙ ap (λ (z : List Node). z ++ ys) up)
      ∙ filled g (map k above) (map k below) b3 s' (k c) (range q F s) (settled_quant r) x (subst (λ (z : List Node). Sound (z ++ ys) g.root) up (keeps.sound3 g u f p h b us r vs a))
      (subst (λ (z : List Node). FeedsOne z ys g.root b3 s' (k c) (range q F s) (settled_quant r) x) up (keeps.feeds g u f p h b us r vs a))
      ∙ ap (λ (z : List Node). record g { boxes = z }) (ap (λ (z : List Node). fed_boxes z ys b3 s' (k c) (range q F s) (settled_quant r) x) (sym up) ∙ sym (keeps.same-fed g u f p h b us r vs a))

pub fill-comes : FillComes
fill-comes = λ g u f p b us r vs m above below stands c under q s new-s new-q x new. made g u f p b us r vs m above below stands c under q s new-s new-q x new
