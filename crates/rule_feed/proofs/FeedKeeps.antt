-- G1 preserves where it may fire.
use Rattle.std.proofs.Common.{ℕ, suc, ◌==◌, ◌≡◌, ◌≤◌, ◌&&◌, cond, Bool, true, false, List, [], ◌∷◌, ◌++◌, map, None, Some, refl, sym, ap, subst, ◌∙◌, eqb-true, inr, arith}
use Rattle.std.specs.List.{list_any}
use Rattle.std.proofs.lemmas.Bool.{and_parts, eq-eqb}
use Rattle.row_bag.specs.declared.tables.Table.{Table}
use Rattle.qgm_terms.specs.Terms.{Cond}
use Rattle.qgm_core.specs.Boxes.{Ordered, QueryGraph, has_box, is_box, is_quant, numbers, owns, width}
use Rattle.qgm_core.specs.Edits.{compact, range}
use Rattle.qgm_core.specs.Kinds.{is_F}
use Rattle.list_laws.specs.Lists.{EachOnce, In, first}
use Rattle.qgm_core.specs.declared.kinds.BoxKind.{BoxKind}
use Rattle.qgm_core.specs.declared.kinds.QuantKind.TheVariants.{F}
use Rattle.qgm_core.specs.declared.kinds.Role.TheVariants.{Plain}
use Rattle.qgm_core.specs.declared.node.Node.{Node}
use Rattle.qgm_core.specs.declared.owned.OwnedQuant.{OwnedQuant}
use Rattle.qgm_meaning.specs.Meaning.{bag_in}
use Rattle.qgm_meaning.specs.Satisfies.{Satisfies, SatisfiesBy}
use Rattle.qgm_meaning.specs.Scope.{loose, put_node}
use Rattle.qgm_meaning.specs.Tags.{columns_from}
use Rattle.qgm_wellformed.specs.Sentences.{WellFormed}
use Rattle.qgm_wellformed.specs.WellFormed.{fault}
use Rattle.qgm_wellformed.proofs.Faults.{finds-none}
use Rattle.qgm_props.specs.Facts.{IsClean, IsErrorFree}
use Rattle.qgm_props.specs.Inferred.{clean, error_free}
use Rattle.qgm_props.specs.Measure.{Lowers, fed_in, loose_scalars_in, open_in}
use Rattle.qgm_props.specs.Under.{of_over}
use Rattle.qgm_props.proofs.Lowering.{feed-lowers}
use Rattle.qgm_edit_laws.specs.Adds.{at}
use Rattle.qgm_edit_laws.specs.Graph.{Sound}
use Rattle.qgm_edit_laws.specs.Shaped.{Shaped, Typed}
use Rattle.qgm_edit_laws.proofs.CheckedParts.{shaped, sound, typed}
use Rattle.qgm_edit_laws.proofs.Edits.{map-append}
use Rattle.qgm_edit_laws.proofs.Formed.{sound-checked}
use Rattle.qgm_edit_laws.proofs.FreeLoose.{open-looks}
use Rattle.qgm_edit_laws.proofs.Levels.{owner-of, some-in}
use Rattle.qgm_edit_laws.proofs.Ranks.{has-in, same-box}
use Rattle.qgm_edit_laws.proofs.Rules.{same-agree}
use Rattle.qgm_edit_laws.proofs.Turns.{first-own, split-in}
use Rattle.qgm_edit_laws.proofs.WellFormedKept.{numbers-once}
use Rattle.rule_api.specs.Rules.{Preserves}
use Rattle.rule_api.specs.declared.place.Place.{Place}
use Rattle.rule_api.proofs.Chained.{preserves-chained}
use Rattle.rule_facts.proofs.Actions.{then-compact}
use Rattle.rule_facts.proofs.FactsThere.{there}
use Rattle.rule_facts.specs.Places.{ActionPreserves}
use Rattle.rule_feed.specs.Feed.{fed_below, fed_boxes, fed_node, fed_owner, how_many, inside, named_below}
use Rattle.rule_feed.specs.FeedActs as act
use Rattle.rule_feed.specs.FeedActs.{Feeds, FeedsAt}
use Rattle.rule_feed.specs.FeedLaws.{FeedsOne}
use Rattle.rule_feed.specs.FeedPreserves.{FiringLowers}
use Rattle.rule_feed.specs.FeedMay.{MayFeed, MayFeedAt, feeders}
use Rattle.rule_feed.specs.Knowing.{facts_in, tells-in}
use Rattle.rule_feed.specs.Split.{MaySplitSound, into, renamed_node, sizes_of, split_boxes, split_owner}
use Rattle.rule_feed.specs.Turn.{failing, from_first}
use Rattle.rule_feed.proofs.FeedMeasure.{feed-measured}
use Rattle.rule_feed.proofs.FeedOrder.{feed-bags}
use Rattle.rule_feed.proofs.FeedPlaced as placed
use Rattle.rule_feed.proofs.FeedPlaced.{behind-first, in-others}
use Rattle.rule_feed.proofs.FeedPremises as premises
use Rattle.rule_feed.proofs.FeedSettled as settled
use Rattle.rule_feed.proofs.FeedSettled.{bag-below}
use Rattle.rule_feed.proofs.FeedShaped.{feed-shaped}
use Rattle.rule_feed.proofs.FeedSound.{feed-sound}
use Rattle.rule_feed.proofs.FeedTyped.{feed-typed}
use Rattle.rule_feed.proofs.SplitMeasure.{split-measured}
use Rattle.rule_feed.proofs.SplitRows.{split-rows}
use Rattle.rule_feed.proofs.SplitShaped.{split-shaped}
use Rattle.rule_feed.proofs.SplitSound.{split-sound}
use Rattle.rule_feed.proofs.SplitTyped.{split-typed}
use Rattle.rule_feed.proofs.TurnMeasure.{turned-measured}
use Rattle.list_laws.proofs.Membership.{any-from, any-in, append-one, eq-itself, in-filter, in-left}

-- ---- tables that satisfy bases

sat-left : (tables : List Table) (xs ys : List Node) → Satisfies tables (xs ++ ys) → Satisfies tables xs
sat-left tables [] ys h = tt
sat-left tables (x ∷ xs) ys h = (h.0, sat-left tables xs ys h.1)

sat-right : (tables : List Table) (xs ys : List Node) → Satisfies tables (xs ++ ys) → Satisfies tables ys
sat-right tables [] ys h = h
sat-right tables (x ∷ xs) ys h = sat-right tables xs ys h.1

sat-both : (tables : List Table) (xs ys : List Node) → Satisfies tables xs → Satisfies tables ys → Satisfies tables (xs ++ ys)
sat-both tables [] ys h k = k
sat-both tables (x ∷ xs) ys h k = (h.0, sat-both tables xs ys h.1 k)

module _ (tables : List Table) (f : Node → Node) (same : (y : Node) → (f y).parts.kind ≡ y.parts.kind) where
  sat-map : (ns : List Node) → Satisfies tables ns → Satisfies tables (map f ns)
  sat-map [] h = tt
  sat-map (n ∷ ns) h = (subst (λ k. SatisfiesBy k tables) (sym (same n)) h.0, sat-map ns h.1)

  sat-back : (ns : List Node) → Satisfies tables (map f ns) → Satisfies tables ns
  sat-back [] h = tt
  sat-back (n ∷ ns) h = (subst (λ k. SatisfiesBy k tables) (same n) h.0, sat-back ns h.1)

kind-of : (c : Bool) (x y : Node) (k : BoxKind) → x.parts.kind ≡ k → y.parts.kind ≡ k → (λ (z : Node). z.parts.kind) (cond c x y) ≡ k
kind-of true x y k e h = e
kind-of false x y k e h = h

-- ---- from parts to the check

checked : (g : QueryGraph) → Sound g.boxes g.root → Typed g.boxes → Shaped g.boxes g.root → (EachOnce (numbers g.boxes) × (fault g ≡ None)) × WellFormed g
checked g w ty sh =
    let u = numbers-once g.boxes w.ordered in
    let f = (sound-checked g u).1 (w, ty, sh) in ((u, f), (finds-none g u).0 f)

module _ (g : QueryGraph) (u : EachOnce (numbers g.boxes)) (f : fault g ≡ None) (p : Place) (h : QueryGraph) (b : Node) (us : List OwnedQuant) (r : OwnedQuant) (vs : List OwnedQuant) (a : FeedsAt p g h b us r vs) where
  abbrev m : MayFeedAt p g b us r vs
  m = a.may

  abbrev q : ℕ
  q = a.q

  abbrev s : ℕ
  s = a.s

  abbrev w : Sound g.boxes g.root
  w = sound g u f

  in-b : In b g.boxes
  in-b = placed.in-b g u f p b us r vs m a.above a.below a.stands q s

  abbrev i : OwnedQuant
  i = placed.i g u f p b us r vs m a.above a.below a.stands q s

  abbrev b1 : Node
  b1 = placed.b1 g u f p b us r vs m a.above a.below a.stands q s

  abbrev b2 : Node
  b2 = placed.b2 g u f p b us r vs m a.above a.below a.stands q s

  abbrev ps : List OwnedQuant
  ps = placed.ps g u f p b us r vs m a.above a.below a.stands q s

  abbrev t : OwnedQuant → Bool
  t = placed.t g u f p b us r vs m a.above a.below a.stands q s

  abbrev wide : OwnedQuant → ℕ
  wide = placed.wide g u f p b us r vs m a.above a.below a.stands q s

  abbrev xs : List Node
  xs = a.above ++ b2 ∷ []

  abbrev ys : List Node
  ys = a.below

  abbrev bs2 : List Node
  bs2 = xs ++ ys

  abbrev before : List OwnedQuant
  before = act.before g.boxes b1 r.over q s

  abbrev behind : List OwnedQuant
  behind = act.behind g.boxes b1 r.over q s

  abbrev staying : List Cond
  staying = act.staying g.boxes b1 r.over q s

  abbrev taken : List Cond
  taken = act.taken g.boxes b1 r.over q s

  abbrev ms : MaySplitSound xs ys b2 wide q s before ps behind staying taken
  ms = placed.may-split g u f p b us r vs m a.above a.below a.stands q s a.new_s a.new_q

  abbrev w2 : Sound bs2 g.root
  w2 = placed.w2 g u f p b us r vs m a.above a.below a.stands q s

  abbrev g2 : QueryGraph
  g2 = record g { boxes = bs2 }

  once2 : EachOnce (numbers bs2)
  once2 = placed.once2 g u f p b us r vs m a.above a.below a.stands q s

  f2 : fault g2 ≡ None
  f2 = placed.f2 g u f p b us r vs m a.above a.below a.stands q s

  e1 : settled.Settles g u f p b us r vs m (placed.settle g u f p b us r vs m a.above a.below a.stands q s) i
  e1 = placed.e1 g u f p b us r vs m a.above a.below a.stands q s

  plain2 : b2.parts.role ≡ Plain
  plain2 = e1.plain

  abbrev hs : List Node
  hs = split_boxes xs ys (sizes_of wide ps) b2.id q s before ps behind staying taken

  abbrev k : Node → Node
  k = act.after_split g.boxes b1 r.over q s

  abbrev s' : Node
  s' = act.new_select g.boxes b1 r.over q s

  -- ---- the graph after the split

  kind-k : (y : Node) → (k y).parts.kind ≡ y.parts.kind
  kind-k y = elim (y.id == b1.id) as (λ c. (λ (z : Node). z.parts.kind) (cond c (split_owner (sizes_of wide ps) q before (range q F s ∷ behind) staying y) (renamed_node (into (sizes_of wide ps) q) y)) ≡ y.parts.kind) [ true ↦ refl | false ↦ refl ]

  pub sound3 : Sound hs g.root
  sound3 = (split-sound xs ys g.root b2 wide q s before ps behind staying taken w2 ms).0

  typed3 : Typed hs
  typed3 = split-typed xs ys g.root b2 wide q s before ps behind staying taken w2 (typed g2 once2 f2) ms

  shaped3 : Shaped hs g.root
  shaped3 = split-shaped xs ys g.root b2 wide q s before ps behind staying taken w2 (typed g2 once2 f2) (shaped g2 once2 f2) ms plain2

  abbrev g3 : QueryGraph
  g3 = record g { boxes = hs }

  preserves3 : Preserves g2 g3
  preserves3 = record {
    formed = (checked g3 sound3 typed3 shaped3).1;
    bag = λ tables sat. same-agree (split-rows xs ys g.root b2 wide q s before ps behind staying taken w2 ms tables []);
    bases = λ tables sat. sat-both tables (map k xs) (s' ∷ map k ys) (sat-map tables k kind-k xs (sat-left tables xs ys sat)) (tt, sat-map tables k kind-k ys (sat-right tables xs ys sat));
    names = refl;
    order = refl;
  }

  -- tables that satisfy its bases satisfy those before
  sat-was : (tables : List Table) → Satisfies tables hs → Satisfies tables g.boxes
  sat-was tables sat =
      let up = subst (Satisfies tables) (map-append k a.above (b2 ∷ [])) (sat-left tables (map k xs) (s' ∷ map k ys) sat) in
      subst (Satisfies tables) (sym a.stands) (sat-both tables a.above (b ∷ ys) (sat-back tables k kind-k a.above (sat-left tables (map k a.above) (map k (b2 ∷ [])) up))
      (subst (λ z. SatisfiesBy z tables) (sym m.select) tt, sat-back tables k kind-k ys (sat-right tables (map k xs) (s' ∷ map k ys) sat).1))

  -- ---- what feeding asks for

  c-in : In a.c g.boxes × ((a.c.id == r.over) ≡ true)
  c-in = some-in (is_box r.over) g.boxes a.c a.under

  c-is : a.c.id ≡ r.over
  c-is = eqb-true a.c.id r.over c-in.1

  in-c : In a.c ys
  in-c =
      let y = has-in r.over ys (subst (λ z. has_box ys z ≡ true) e1.over (placed.under-2 g u f p b us r vs m a.above a.below a.stands q s i e1.owned)) in
      subst (λ z. In z ys) (same-box g.boxes y.0 a.c w.ordered (placed.in-g g u f p b us r vs m a.above a.below a.stands q s y.0 (inr y.1.0)) c-in.0 (y.1.1 ∙ sym c-is)) y.1.0

  look2 : (z y : ℕ) → loose bs2 z y ≡ loose g.boxes z y
  look2 = placed.look2 g u f p b us r vs m a.above a.below a.stands q s

  -- one that feeds
  some : (x : OwnedQuant) × (In x ps × (loose g.boxes r.over x.id ≡ true))
  some =
      let y = open-looks g.boxes g.root w r.over m.opened in
      let x = placed.alone1 g u f p b us r vs m a.above a.below a.stands q s y.0 y.1 in
      (x.0, (x.1.0, subst (λ z. loose g.boxes r.over z ≡ true) (sym x.1.1) y.1))

  not-fed : t i ≡ false
  not-fed = placed.not-fed g u f p b us r vs m a.above a.below a.stands q s

  i-behind : is_F i.kind ≡ true → (us' : List OwnedQuant) × ((vs' : List OwnedQuant) × (behind ≡ us' ++ i ∷ vs'))
  i-behind e =
      let at-i = split-in i b1.quants e1.owned in
      let x : OwnedQuant = some.0 in
      let in-x = in-filter t x b1.quants some.1.0 in
      let few = placed.few1 g u f p b us r vs m a.above a.below a.stands q s in
      let y = any-in (λ y. is_F y.kind && is_quant x.id y) at-i.0 (placed.looked-bound g u f p b us r vs m a.above a.below a.stands q s i x.id at-i.0 at-i.1.0 at-i.1.1 e
      (ap (λ z. loose (map (at b.id (placed.settle g u f p b us r vs m a.above a.below a.stands q s)) g.boxes) z x.id) e1.over ∙ e1.look r.over x.id ∙ some.1.1) (any-from (is_quant x.id) x b1.quants in-x.0 (eq-itself x.id))) in
      let id : y.0.id ≡ x.id = eqb-true y.0.id x.id (and_parts (is_F y.0.kind) (is_quant x.id y.0) y.1.1).1 in
      let in-y : In y.0 b1.quants = subst (λ z. In y.0 z) (sym at-i.1.1) (in-left y.0 at-i.0 (i ∷ at-i.1.0) y.1.0) in
      let same : Some y.0 ≡ Some x = sym (first-own y.0 b1.quants (few y.0.id) in-y) ∙ ap (λ z. first (is_quant z) b1.quants) id ∙ first-own x b1.quants (few x.id) in-x.0 in
      let is : y.0 ≡ x = cc in
      let z = behind-first t at-i.0 i at-i.1.0 y.0 y.1.0 (ap t is ∙ in-x.1) not-fed in
      (z.0, (z.1.0, ap (λ l. failing t (from_first t l)) at-i.1.1 ∙ z.1.1))

  -- what is named in c and below was named there
  named-then : (x y : ℕ) → named_below bs2 a.c.id x y ≡ true → named_below g.boxes r.over x y ≡ true
  named-then x y n = subst (λ z. named_below g.boxes z x y ≡ true) c-is (placed.named-before g u f p b us r vs m a.above a.below a.stands q s a.c.id c-is x y n)

  bag-then : (tables : List Table) (x : OwnedQuant) → In x ps → bag_in tables bs2 x.over [] ≡ bag_in tables g.boxes x.over []
  bag-then tables x j =
      let held = ms.below x j in
      bag-below tables xs ys w2.ordered x.over held []
      ∙ sym (ap (λ z. bag_in tables z x.over []) (a.stands ∙ sym (append-one a.above b ys)) ∙ bag-below tables (a.above ++ b ∷ []) ys (subst Ordered (a.stands ∙ sym (append-one a.above b ys)) w.ordered) x.over held [])

  of-b : (x : OwnedQuant) → In x ps → In x (feeders g.boxes r.over b.quants)
  of-b = placed.of-b g u f p b us r vs m a.above a.below a.stands q s

  -- the box that is split is the same, turned or not
  k-b1 : k b1 ≡ split_owner (sizes_of wide ps) q before (range q F s ∷ behind) staying b2
  k-b1 = ap (λ c. cond c (split_owner (sizes_of wide ps) q before (range q F s ∷ behind) staying b1) (renamed_node (into (sizes_of wide ps) q) b1)) (eq-itself b1.id)

  pub k-b2 : k b2 ≡ split_owner (sizes_of wide ps) q before (range q F s ∷ behind) staying b2
  k-b2 = ap (λ c. cond c (split_owner (sizes_of wide ps) q before (range q F s ∷ behind) staying b2) (renamed_node (into (sizes_of wide ps) q) b2)) (eq-itself b1.id)

  same-up : map k (a.above ++ b1 ∷ []) ≡ map k xs
  same-up = map-append k a.above (b1 ∷ []) ∙ ap (λ (z : Node). map k a.above ++ z ∷ []) (k-b1 ∙ sym k-b2) ∙ sym (map-append k a.above (b2 ∷ []))

  pub same-hs : act.split_up g.boxes b1 r.over q s a.above a.below ≡ hs
  same-hs = ap (λ (z : List Node). z ++ s' ∷ map k ys) same-up

  feeding : premises.Feeding xs ys g.root b2 wide q s before ps behind staying taken w2 (typed g2 once2 f2) (shaped g2 once2 f2) ms plain2 i a.c g.boxes (facts_in g.boxes) a.x
  feeding = record {
    owned_i = in-others t i b1.quants e1.owned not-fed;
    not_scalar = e1.not_scalar;
    in_c = in-c;
    over_c = e1.over ∙ sym c-is;
    behind = i-behind;
    some = some.0;
    some_in = some.1.0;
    opened = look2 a.c.id some.0.id ∙ subst (λ z. loose g.boxes z some.0.id ≡ true) (sym c-is) some.1.1;
    alone = λ y l. (
        let x = placed.alone1 g u f p b us r vs m a.above a.below a.stands q s y (subst (λ z. loose g.boxes z y ≡ true) c-is (sym (look2 a.c.id y) ∙ l)) in
        any-from (is_quant y) x.0 ps x.1.0 (eq-eqb x.0.id y x.1.1));
    told = λ x j y. ap (λ o. of_over false (λ z. (facts_in g.boxes).error_free z y) o) (owner-of g.boxes w.once b x in-b (in-filter t x b.quants (of-b x j)).0);
    clean = λ x j. (tells-in g.boxes (clean x.over)).1 (m.fed x (of-b x j)).1;
    named = λ x j y n. (tells-in g.boxes (error_free x.over y)).1 (m.named x (of-b x j) y (named-then x.id y n));
    taken_own = placed.goes-own g u f p b us r vs m a.above a.below a.stands q s;
    taken_bare = placed.goes-bare g u f p b us r vs m a.above a.below a.stands q s;
    taken_free = λ d j. (placed.goes-parts g u f p b us r vs m a.above a.below a.stands q s d j).2;
    holds_clean = λ tables sat x j z. subst IsClean (sym (bag-then tables x j)) ((there g u f tables (sat-was tables sat) [] refl).clean x.over (m.fed x (of-b x j)).1);
    holds_free = λ tables sat x j y z. subst (IsErrorFree y) (sym (bag-then tables x j)) ((there g u f tables (sat-was tables sat) [] refl).error_free x.over y ((tells-in g.boxes (error_free x.over y)).0 z));
    new_d = subst (λ z. has_box z a.x.d ≡ false) same-hs a.new_d;
    new_m = subst (λ z. has_box z a.x.m ≡ false) same-hs a.new_m;
    apart = a.apart;
    new_dm = subst (λ z. list_any (owns a.x.dm) z ≡ false) same-hs a.new_dm;
    new_dc = subst (λ z. list_any (owns a.x.dc) z ≡ false) same-hs a.new_dc;
    new_mq = subst (λ z. list_any (owns a.x.mq) z ≡ false) same-hs a.new_mq;
    apart_dc = a.apart_dc;
    apart_mq = a.apart_mq;
    apart_both = a.apart_both;
  }

  -- ---- the graph after feeding

  abbrev pub b3 : Node
  b3 = split_owner (sizes_of wide ps) q before (range q F s ∷ behind) staying b2

  pub feeds : FeedsOne (map k xs) (s' ∷ map k ys) g.root b3 s' (k a.c) (range q F s) i a.x
  feeds = premises.feeds-one xs ys g.root b2 wide q s before ps behind staying taken w2 (typed g2 once2 f2) (shaped g2 once2 f2) ms plain2 i a.c g.boxes (facts_in g.boxes) a.x feeding

  abbrev fs : List Node
  fs = fed_boxes (map k xs) (s' ∷ map k ys) b3 s' (k a.c) (range q F s) i a.x

  abbrev g4 : QueryGraph
  g4 = record g { boxes = fs }

  abbrev fed : Node → Node
  fed = fed_node hs b3 s' (k a.c) (range q F s) i a.x

  kind-fed : (y : Node) → (fed y).parts.kind ≡ y.parts.kind
  kind-fed y = kind-of (y.id == b3.id) (fed_owner named (range q F s).id i a.x.d (width s') y) (cond (inside hs (k a.c).id y.id) (fed_below named (k a.c).id (range q F s).id a.x.dm (width s') y) beside) y.parts.kind refl
      (kind-of (inside hs (k a.c).id y.id) (fed_below named (k a.c).id (range q F s).id a.x.dm (width s') y) beside y.parts.kind refl refl)
    where
      named : ℕ → Bool
      named = named_below hs (k a.c).id q

      beside : Node
      beside = put_node i.id (columns_from i.id (suc (how_many (named_below hs (k a.c).id q) 1 (width s'))) (width (k a.c))) y

  plain3 : b3.parts.role ≡ Plain
  plain3 = plain2

  sound4 : Sound fs g.root
  sound4 = feed-sound (map k xs) (s' ∷ map k ys) g.root sound3 b3 s' (k a.c) (range q F s) i a.x feeds

  preserves4 : Preserves g3 g4
  preserves4 = record {
    formed = (checked g4 sound4 (feed-typed (map k xs) (s' ∷ map k ys) g.root sound3 typed3 b3 s' (k a.c) (range q F s) i a.x feeds) (feed-shaped (map k xs) (s' ∷ map k ys) g.root sound3 typed3 shaped3 b3 s' (k a.c) (range q F s) i a.x feeds plain3)).1;
    bag = λ tables sat. feed-bags (map k xs) (s' ∷ map k ys) g.root sound3 b3 s' (k a.c) (range q F s) i a.x feeds tables sat;
    bases = λ tables sat. sat-both tables (map fed (map k xs)) _ (sat-map tables fed kind-fed (map k xs) (sat-left tables (map k xs) (s' ∷ map k ys) sat)) (tt, (tt, sat-map tables fed kind-fed (s' ∷ map k ys) (sat-right tables (map k xs) (s' ∷ map k ys) sat)));
    names = refl;
    order = refl;
  }

  -- ---- the whole

  pub same-fed : act.fed_up g.boxes b1 r.over q s a.above a.below a.c i a.x ≡ fs
  same-fed =
      ap (λ (z : List Node). fed_boxes z (s' ∷ map k ys) (k b1) s' (k a.c) (range q F s) i a.x) same-up
      ∙ ap (λ (z : Node). fed_boxes (map k xs) (s' ∷ map k ys) z s' (k a.c) (range q F s) i a.x) k-b1

  preserves-fed : Preserves g g4
  preserves-fed = preserves-chained g g3 g4 (preserves-chained g g2 g3 (placed.preserves2 g u f p b us r vs m a.above a.below a.stands q s) preserves3) preserves4

  pub preserves : Preserves g h
  preserves = subst (λ (z : QueryGraph). Preserves g z) (sym (a.after ∙ ap (λ (z : List Node). compact (record g { boxes = z })) same-fed)) (then-compact g g4 (numbers-once fs sound4.ordered) preserves-fed)

  -- ---- the measure

  lower : Lowers g.boxes fs
  lower =
      let x = turned-measured g u f p b us r vs m a.above a.below a.stands q s in
      let y = split-measured xs ys g.root b2 wide q s before ps behind staying taken w2 ms in
      let z = feed-measured (map k xs) (s' ∷ map k ys) g.root sound3 b3 s' (k a.c) (range q F s) i a.x feeds in
      let o0 : open_in bs2 ≡ open_in g.boxes = x.0 in
      let f0 : fed_in bs2 ≡ fed_in g.boxes = x.1.0 in
      let l0 : loose_scalars_in bs2 ≤ loose_scalars_in g.boxes = x.1.1 in
      let o1 : open_in hs ≡ open_in bs2 = y.0 in
      let f1 : fed_in hs ≡ fed_in bs2 = y.1.0 in
      let l1 : loose_scalars_in hs ≡ loose_scalars_in bs2 = y.1.1 in
      let o2 : open_in fs ≡ open_in hs = z.0 in
      let f2 : fed_in fs ≡ suc (fed_in hs) = z.1.0 in
      let l2 : loose_scalars_in fs ≡ loose_scalars_in hs = z.1.1 in
      feed-lowers g.boxes fs (record { opened = omega (arith, o0, o1, o2); scalars = omega (arith, l0, l1, l2); fed = omega (arith, f0, f1, f2) })

  pub lowers : (k : QueryGraph) × ((h ≡ compact k) × (EachOnce (numbers k.boxes) × (WellFormed k × Lowers g.boxes k.boxes)))
  lowers = (g4, (a.after ∙ ap (λ (z : List Node). compact (record g { boxes = z })) same-fed, (numbers-once fs sound4.ordered, (preserves-fed.formed, lower))))

pub firing-lowers : FiringLowers
unfolding Feeds
firing-lowers p g h u w e = lowers g u ((finds-none g u).1 w) p h e.0 e.1.0 e.1.1.0 e.1.1.1.0 e.1.1.1.1

pub feed-preserves : ActionPreserves MayFeed Feeds
unfolding Feeds
feed-preserves g h u w p may e = preserves g u ((finds-none g u).1 w) p h e.0 e.1.0 e.1.1.0 e.1.1.1.0 e.1.1.1.1
