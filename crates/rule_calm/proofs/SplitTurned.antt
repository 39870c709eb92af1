-- G1, its first steps together: the graph after the split is settled.
use Rattle.std.proofs.Common.{ℕ, ◌≡◌, Bool, true, false, List, [], ◌∷◌, ◌++◌, None, refl, sym, ap, subst, ◌∙◌, eqb-true, inl}
use Rattle.std.specs.List.{list_all, list_any}
use Rattle.std.proofs.lemmas.Bool.{and_parts}
use Rattle.list_laws.specs.Lists.{EachOnce, In}
use Rattle.list_laws.proofs.Booleans.{clash}
use Rattle.list_laws.proofs.Membership.{all-in, any-from, any-in, eq-itself, in-filter, in-left, in-right}
use Rattle.qgm_core.specs.Boxes.{QueryGraph, is_quant, numbers}
use Rattle.qgm_core.specs.declared.node.Node.{Node}
use Rattle.qgm_core.specs.declared.owned.OwnedQuant.{OwnedQuant}
use Rattle.qgm_terms.specs.Named.{columns_in_cond, nodes_in_cond}
use Rattle.qgm_terms.specs.Terms.{Cond}
use Rattle.qgm_terms.specs.declared.named.Column.{Column}
use Rattle.qgm_terms.specs.declared.named.QuantNode.{QuantNode}
use Rattle.qgm_terms.specs.declared.named.QuantNode.TheVariants as node
use Rattle.qgm_meaning.specs.Searches.{names_cond}
use Rattle.qgm_wellformed.specs.WellFormed.{fault}
use Rattle.qgm_edit_laws.proofs.CheckedParts.{shaped, sound, typed}
use Rattle.qgm_edit_laws.proofs.Read.{cond-nodes, is_of}
use Rattle.qgm_props.specs.Calm.{is_closed}
use Rattle.qgm_props.specs.Inferred.{Facts, cond_free, error_free_under}
use Rattle.qgm_props.proofs.Settled.{all-told}
use Rattle.rule_api.specs.declared.place.Place.{Place}
use Rattle.rule_feed.specs.FeedActs as act
use Rattle.rule_feed.specs.FeedActs.{FeedsAt, settled_node}
use Rattle.rule_feed.specs.FeedMay.{MayFeedAt}
use Rattle.rule_feed.specs.Knowing.{facts-are}
use Rattle.rule_feed.specs.Split.{MaySplitSound, sizes_of, split_boxes}
use Rattle.rule_feed.proofs.FeedPlaced as placed
use Rattle.rule_feed.proofs.FeedSettled as feeding
use Rattle.rule_feed.proofs.SplitShaped.{split-shaped}
use Rattle.rule_feed.proofs.TurnLists.{turned-in}
use Rattle.rule_calm.specs.Settled.{IsSettled, SettledBox, single_free, single_free_cond}
use Rattle.rule_calm.proofs.Framed.{range-is}
use Rattle.rule_calm.proofs.FreeTerms.{cl_of, cond-is, ef_of, one_of, same-cond}
use Rattle.rule_calm.proofs.Shut.{shut-same}
use Rattle.rule_calm.proofs.SplitSettled.{split-settled}
use Rattle.rule_calm.proofs.TurnSettled.{turn-carried, turn-each}

module _ (g : QueryGraph) (u : EachOnce (numbers g.boxes)) (f : fault g ≡ None) (p : Place) (h : QueryGraph) (b : Node) (us : List OwnedQuant) (r : OwnedQuant) (vs : List OwnedQuant) (a : FeedsAt p g h b us r vs) (settled : IsSettled g) where
  abbrev m : MayFeedAt p g b us r vs
  m = a.may

  abbrev b1 : Node
  b1 = placed.b1 g u f p b us r vs a.may a.above a.below a.stands a.q a.s

  abbrev b2 : Node
  b2 = placed.b2 g u f p b us r vs a.may a.above a.below a.stands a.q a.s

  abbrev xs : List Node
  xs = a.above ++ placed.b2 g u f p b us r vs a.may a.above a.below a.stands a.q a.s ∷ []

  abbrev ys : List Node
  ys = a.below

  abbrev ps : List OwnedQuant
  ps = placed.ps g u f p b us r vs a.may a.above a.below a.stands a.q a.s

  abbrev wide : OwnedQuant → ℕ
  wide = placed.wide g u f p b us r vs a.may a.above a.below a.stands a.q a.s

  abbrev i : OwnedQuant
  i = placed.i g u f p b us r vs a.may a.above a.below a.stands a.q a.s

  abbrev t : OwnedQuant → Bool
  t = placed.t g u f p b us r vs a.may a.above a.below a.stands a.q a.s

  abbrev taken : List Cond
  taken = act.taken g.boxes (placed.b1 g u f p b us r vs a.may a.above a.below a.stands a.q a.s) r.over a.q a.s

  abbrev g2 : QueryGraph
  g2 = record g { boxes = (a.above ++ placed.b2 g u f p b us r vs a.may a.above a.below a.stands a.q a.s ∷ []) ++ a.below }

  abbrev gs : Facts
  gs = (all-told ((a.above ++ placed.b2 g u f p b us r vs a.may a.above a.below a.stands a.q a.s ∷ []) ++ a.below)).0

  once2 : EachOnce (numbers g2.boxes)
  once2 = placed.once2 g u f p b us r vs a.may a.above a.below a.stands a.q a.s

  f2 : fault g2 ≡ None
  f2 = placed.f2 g u f p b us r vs a.may a.above a.below a.stands a.q a.s

  in-b2 : In b2 g2.boxes
  in-b2 = in-left b2 (a.above ++ b2 ∷ []) a.below (in-right b2 a.above (b2 ∷ []) (inl refl))

  e1 : feeding.Settles g u f p b us r vs a.may (settled_node us r vs) i
  e1 = placed.e1 g u f p b us r vs a.may a.above a.below a.stands a.q a.s

  open-as : (z : ℕ) → is_closed g2.boxes z ≡ is_closed g.boxes z
  open-as z = shut-same g.boxes g2.boxes g.root (sound g u f) (sound g2 once2 f2) z (placed.look2 g u f p b us r vs a.may a.above a.below a.stands a.q a.s z)

  ms : MaySplitSound xs ys b2 wide a.q a.s (act.before g.boxes b1 r.over a.q a.s) ps (act.behind g.boxes b1 r.over a.q a.s) (act.staying g.boxes b1 r.over a.q a.s) taken
  ms = placed.may-split g u f p b us r vs a.may a.above a.below a.stands a.q a.s a.new_s a.new_q

  no-node : (d : Cond) → In d taken → (z : QuantNode) → In z (nodes_in_cond d) → ⊥
  no-node d j z k = by z k
    where
      at : (q : ℕ) (z : QuantNode) → In z (nodes_in_cond d) → is_of q z ≡ true → ⊥
      at q z k e = clash (names_cond q d) (sym (cond-nodes q d) ∙ any-from (is_of q) z (nodes_in_cond d) k e) (ms.taken_bare d j q)

      by : (z : QuantNode) → In z (nodes_in_cond d) → ⊥
      by (node.Scalar q) k = at q (node.Scalar q) k (eq-itself q)
      by (node.Some q) k = at q (node.Some q) k (eq-itself q)
      by (node.Every q) k = at q (node.Every q) k (eq-itself q)

  plain-cond : (d : Cond) → In d taken → single_free_cond d ≡ true
  plain-cond d j =
      all-in single_free_cond d b2.parts.conds.items (and_parts (list_all single_free b2.parts.head) (list_all single_free_cond b2.parts.conds.items) (turn-each g u f p b us r vs a.may a.above a.below a.stands a.q a.s settled b2 in-b2).no_single).1
      (subst (λ (z : List Cond). In d z) (sym ms.conds) (in-right d (act.staying g.boxes b1 r.over a.q a.s) taken j))

  -- what goes along is error-free there
  took : (d : Cond) → In d taken → cond_free g2.boxes gs false d ≡ true
  took d j =
      let x = placed.goes-parts g u f p b us r vs a.may a.above a.below a.stands a.q a.s d j in
      let was : cond_free g.boxes settled.known false d ≡ true = subst (λ (k : Facts). cond_free g.boxes k false d ≡ true) (sym (facts-are g.boxes settled.known settled.tells)) x.2 in
      cond-is g2.boxes gs false d ∙ same-cond (ef_of g.boxes settled.known) (ef_of g2.boxes gs) (cl_of g.boxes settled.known) (cl_of g2.boxes gs) (one_of g.boxes settled.known) (one_of g2.boxes gs) false false d
      (λ y k e. (
      let o = any-in (is_quant y.quant) ps (all-in (λ (z : Column). list_any (is_quant z.quant) ps) y (columns_in_cond d) x.1 k) in
      let id = eqb-true o.0.id y.quant o.1.1 in
      let in-1 : In o.0 b1.quants = (in-filter t o.0 b1.quants o.1.0).0 in
      let in-0 : In o.0 b.quants = (in-filter t o.0 b.quants (placed.of-b g u f p b us r vs a.may a.above a.below a.stands a.q a.s o.0 o.1.0)).0 in
      let here = placed.in-b g u f p b us r vs a.may a.above a.below a.stands a.q a.s in
      let free : settled.known.error_free o.0.over y.place ≡ true = sym (range-is g.boxes g.root (sound g u f) (λ z. settled.known.error_free z y.place) o.0 (b, (here, in-0))) ∙ ap (λ z. error_free_under g.boxes settled.known z y.place) id ∙ e in
      subst (λ z. error_free_under g2.boxes gs z y.place ≡ true) id
      (range-is g2.boxes g.root (sound g2 once2 f2) (λ z. gs.error_free z y.place) o.0 (b2, (in-b2, turned-in t o.0 b1.quants in-1))
      ∙ (turn-carried g u f p b us r vs a.may a.above a.below a.stands a.q a.s settled).error_free o.0.over y.place refl free)))
      (λ z k. absurd (no-node d j z k)) (plain-cond d j) (sym (cond-is g.boxes settled.known false d) ∙ was)

  pub split-all : (n : Node) → In n (split_boxes xs ys (sizes_of wide ps) b2.id a.q a.s (act.before g.boxes b1 r.over a.q a.s) ps (act.behind g.boxes b1 r.over a.q a.s) (act.staying g.boxes b1 r.over a.q a.s) taken)
      → SettledBox (split_boxes xs ys (sizes_of wide ps) b2.id a.q a.s (act.before g.boxes b1 r.over a.q a.s) ps (act.behind g.boxes b1 r.over a.q a.s) (act.staying g.boxes b1 r.over a.q a.s) taken)
      (all-told (split_boxes xs ys (sizes_of wide ps) b2.id a.q a.s (act.before g.boxes b1 r.over a.q a.s) ps (act.behind g.boxes b1 r.over a.q a.s) (act.staying g.boxes b1 r.over a.q a.s) taken)).0 g.root n
  split-all = split-settled xs ys g.root b2 wide a.q a.s (act.before g.boxes b1 r.over a.q a.s) ps (act.behind g.boxes b1 r.over a.q a.s) (act.staying g.boxes b1 r.over a.q a.s) taken (sound g2 once2 f2) ms
      (shaped g2 once2 f2) (split-shaped xs ys g.root b2 wide a.q a.s (act.before g.boxes b1 r.over a.q a.s) ps (act.behind g.boxes b1 r.over a.q a.s) (act.staying g.boxes b1 r.over a.q a.s) taken (sound g2 once2 f2) (typed g2 once2 f2) (shaped g2 once2 f2) ms e1.plain) e1.plain
      gs (all-told g2.boxes).1 (turn-each g u f p b us r vs a.may a.above a.below a.stands a.q a.s settled) (open-as b2.id ∙ ap (is_closed g.boxes) (e1.id b) ∙ m.closed) i (turned-in t i b1.quants e1.owned) (open-as i.over ∙ ap (is_closed g.boxes) e1.over ∙ m.opened)
      (λ d j y k. all-in (λ (z : Column). list_any (is_quant z.quant) ps) y (columns_in_cond d) (placed.goes-parts g u f p b us r vs a.may a.above a.below a.stands a.q a.s d j).1 k) no-node took
