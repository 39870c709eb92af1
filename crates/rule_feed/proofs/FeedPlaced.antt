-- Where G1 may fire: the graph in which those that feed stand side by side, and that they may be split from it.
use Rattle.std.proofs.Common.{ℕ, ◌==◌, ◌≡◌, ◌≤◌, ◌<◌, ◌&&◌, cond, not, Bool, true, false, List, [], ◌∷◌, ◌++◌, map, None, refl, sym, ap, subst, ◌∙◌, eqb-true, ◌⊎◌, inl, inr}
use Rattle.std.specs.List.{list_all, list_any}
use Rattle.std.proofs.lemmas.Bool.{and_from, and_parts, cases_Bool, not-true}
use Rattle.qgm_terms.specs.Named.{columns_in_cond}
use Rattle.qgm_terms.specs.Terms.{Cond}
use Rattle.qgm_terms.specs.Wanted.{any_in_cond, node_free_cond, wanted}
use Rattle.qgm_terms.specs.declared.named.Column.{Column}
use Rattle.qgm_terms.specs.declared.sought.Sought.TheVariants as sought
use Rattle.qgm_core.specs.Boxes.{Ordered, QueryGraph, has_box, ids_of, is_box, is_quant, numbers, owns, width}
use Rattle.qgm_core.specs.Edits.{on_boxes}
use Rattle.qgm_core.specs.Free.{free_in}
use Rattle.qgm_core.specs.Kinds.{is_F}
use Rattle.list_laws.specs.Lists.{EachOnce, In, first, holds, times}
use Rattle.qgm_core.specs.declared.node.Node.{Node}
use Rattle.qgm_core.specs.declared.owned.OwnedQuant.{OwnedQuant}
use Rattle.qgm_meaning.specs.Scope.{loose, loose_by, loose_each, looks_found, quant_looks}
use Rattle.qgm_wellformed.proofs.Below.{free-free}
use Rattle.qgm_wellformed.proofs.Faults.{finds-none}
use Rattle.qgm_wellformed.specs.Shapes.{is_none}
use Rattle.qgm_wellformed.specs.WellFormed.{fault, is_empty}
use Rattle.qgm_props.specs.Inferred.{Facts, cond_free}
use Rattle.qgm_props.specs.Under.{of_box}
use Rattle.qgm_edit_laws.specs.Adds.{at}
use Rattle.qgm_edit_laws.specs.Graph.{Sound, binds_row}
use Rattle.qgm_edit_laws.specs.Placed.{place}
use Rattle.qgm_edit_laws.specs.PutsBox.{PutsBox}
use Rattle.qgm_edit_laws.proofs.CheckedParts.{shaped, sound, typed}
use Rattle.qgm_edit_laws.proofs.ConjunctForms.{names-none}
use Rattle.qgm_edit_laws.proofs.FedOpenKept.{looks-open}
use Rattle.qgm_edit_laws.proofs.FreeLoose.{free-looks, looks-free}
use Rattle.qgm_edit_laws.proofs.OneBox.{has-map}
use Rattle.qgm_edit_laws.proofs.PutsBox.{ordered-h, same-look}
use Rattle.qgm_edit_laws.proofs.Ranks.{has-in, place-under, same-box}
use Rattle.qgm_edit_laws.proofs.Scope.{climb, in-first, unfold-loose}
use Rattle.qgm_edit_laws.proofs.Scoped.{few-ids}
use Rattle.qgm_edit_laws.proofs.Turns.{each-turn, first-own, split-in}
use Rattle.qgm_edit_laws.proofs.WellFormedKept.{numbers-once}
use Rattle.rule_api.specs.Rules.{Preserves}
use Rattle.rule_api.specs.declared.place.Place.{Place}
use Rattle.rule_api.proofs.Chained.{preserves-chained}
use Rattle.rule_facts.proofs.Actions.{once-on}
use Rattle.rule_facts.proofs.FactsThere.{here-at}
use Rattle.rule_feed.specs.Feed.{named_below}
use Rattle.rule_feed.specs.FeedActs as act
use Rattle.rule_feed.specs.FeedActs.{settled_node, settled_quant, takes}
use Rattle.rule_feed.specs.FeedMay.{MayFeedAt, feeders, feeds, width_of}
use Rattle.rule_feed.specs.Knowing.{facts_in}
use Rattle.rule_feed.specs.Split.{MaySplitSound}
use Rattle.rule_feed.specs.Turn.{before_first, failing, from_first, turned_node}
use Rattle.rule_feed.proofs.FeedConds.{Own, own-cond}
use Rattle.rule_feed.proofs.FeedFacts.{ordered-tail}
use Rattle.rule_feed.proofs.FeedSettled as settled
use Rattle.rule_feed.proofs.FeedSettled.{bag-below, changed-one}
use Rattle.rule_feed.proofs.TurnKeeps.{turn-preserves-at}
use Rattle.rule_feed.proofs.TurnLists.{in-turned, turned-in}
use Rattle.rule_feed.proofs.TurnPuts.{puts, twice}
use Rattle.list_laws.proofs.Booleans.{clash}
use Rattle.list_laws.proofs.Membership.{all-in, any-from, any-in, any-none, any-not, append-one, eq-itself, filter-in, in-append, in-filter, in-left, in-right, map-in}

-- ---- one that fails behind one that passes stands behind the first that passes

pub behind-first : (t : OwnedQuant → Bool) (done : List OwnedQuant) (i : OwnedQuant) (rest : List OwnedQuant) (p : OwnedQuant) → In p done → t p ≡ true → t i ≡ false
    → (us : List OwnedQuant) × ((vs : List OwnedQuant) × (failing t (from_first t (done ++ i ∷ rest)) ≡ us ++ i ∷ vs))
behind-first t [] i rest p j h k = elim j [ ]
behind-first t (x ∷ done) i rest p j h k = elim (cases_Bool (t x)) [
  | inl e ↦ (failing t (x ∷ done), (failing t rest, ap (λ b. failing t (cond b (x ∷ (done ++ i ∷ rest)) (from_first t (done ++ i ∷ rest)))) e ∙ all-failing (x ∷ done)))
  | inr e ↦ (
      let rec = behind-first t done i rest p (elim j [ inl z ↦ absurd (clash (t p) h (ap t (sym z) ∙ e)) | inr z ↦ z ]) h k in
      (rec.0, (rec.1.0, ap (λ b. failing t (cond b (x ∷ (done ++ i ∷ rest)) (from_first t (done ++ i ∷ rest)))) e ∙ rec.1.1)))
]
  where
    all-failing : (xs : List OwnedQuant) → failing t (xs ++ i ∷ rest) ≡ failing t xs ++ i ∷ failing t rest
    all-failing [] = ap (λ b. cond (not b) (i ∷ failing t rest) (failing t rest)) k
    all-failing (y ∷ xs) = elim (t y) as (λ b. cond (not b) (y ∷ failing t (xs ++ i ∷ rest)) (failing t (xs ++ i ∷ rest)) ≡ cond (not b) (y ∷ failing t xs) (failing t xs) ++ i ∷ failing t rest) [ true ↦ all-failing xs | false ↦ ap (λ z. y ∷ z) (all-failing xs) ]

in-one : (i : OwnedQuant) (us vs : List OwnedQuant) → In i (us ++ i ∷ vs)
in-one i us vs = in-right i us (i ∷ vs) (inl refl)

-- one that fails stands before the first that passes, or among the others behind
pub in-others : (t : OwnedQuant → Bool) (i : OwnedQuant) (rs : List OwnedQuant) → In i rs → t i ≡ false → In i (before_first t rs) ⊎ In i (failing t (from_first t rs))
in-others t i [] j h = elim j [ ]
in-others t i (x ∷ rs) j h = elim (cases_Bool (t x)) [
  | inl e ↦ inr (subst (λ b. In i (failing t (cond b (x ∷ rs) (from_first t rs)))) (sym e) (filter-in (λ y. not (t y)) i (x ∷ rs) j (ap not h)))
  | inr e ↦ elim j [
    | inl z ↦ inl (subst (λ b. In i (cond b [] (x ∷ before_first t rs))) (sym e) (inl z))
    | inr z ↦ elim (in-others t i rs z h) [
      | inl a ↦ inl (subst (λ b. In i (cond b [] (x ∷ before_first t rs))) (sym e) (inr a))
      | inr a ↦ inr (subst (λ b. In i (failing t (cond b (x ∷ rs) (from_first t rs)))) (sym e) a)
    ]
  ]
]

module _ (g : QueryGraph) (u : EachOnce (numbers g.boxes)) (f : fault g ≡ None) (p : Place) (b : Node) (us : List OwnedQuant) (r : OwnedQuant) (vs : List OwnedQuant) (m : MayFeedAt p g b us r vs)
    (above below : List Node) (stands : g.boxes ≡ above ++ b ∷ below) (q s : ℕ) where
  abbrev pub w : Sound g.boxes g.root
  w = sound g u f

  pub in-b : In b g.boxes
  in-b = here-at g u f b p.at m.at

  in-r : In r b.quants
  in-r = subst (λ z. In r z) (sym m.split) (in-one r us vs)

  abbrev pub settle : Node → Node
  settle = settled_node us r vs

  abbrev pub i : OwnedQuant
  i = settled_quant r

  pub e1 : settled.Settles g u f p b us r vs m settle i
  e1 = settled.settles g u f p b us r vs m

  abbrev pub b1 : Node
  b1 = settle b

  -- those that feed, and the conditions that go along
  abbrev pub t : OwnedQuant → Bool
  t = feeds g.boxes r.over

  abbrev pub ps : List OwnedQuant
  ps = act.feeding g.boxes b1 r.over q s

  abbrev pub k : Cond → Bool
  k = act.goes g.boxes b1 r.over q s

  abbrev pub wide : OwnedQuant → ℕ
  wide x = width_of g.boxes x.over

  -- ---- the graph in which an S is settled

  abbrev g1 : QueryGraph
  g1 = on_boxes (map (at b.id settle)) g

  once1 : EachOnce (numbers g1.boxes)
  once1 = once-on g u f b.id settle e1.id

  f1 : fault g1 ≡ None
  f1 = (finds-none g1 once1).1 e1.preserves.formed

  w1 : Sound g1.boxes g.root
  w1 = sound g1 once1 f1

  in-b1 : In b1 g1.boxes
  in-b1 = subst (λ z. In z g1.boxes) (ap (λ (t : Bool). cond t (settle b) b) (eq-itself b.id)) (map-in (at b.id settle) b g.boxes in-b)

  pub few1 : (z : ℕ) → times z (ids_of b1) ≤ 1
  few1 z = few-ids g1.boxes b1 z (w1.once z) in-b1

  -- what an F of b1 looks up of b1 is bound before it
  pub looked-bound : (x : OwnedQuant) (z : ℕ) (done rest : List OwnedQuant) → b1.quants ≡ done ++ x ∷ rest → is_F x.kind ≡ true → loose g1.boxes x.over z ≡ true → owns z b1 ≡ true → binds_row z done ≡ true
  looked-bound x z done rest e fx h o = elim (cases_Bool (binds_row z done)) [
    | inl a ↦ a
    | inr a ↦ absurd (
        let in-x : In x b1.quants = subst (λ y. In x y) (sym e) (in-one x done rest) in
        let looks : quant_looks b1 (loose g1.boxes) x.id z ≡ true = ap (λ y. looks_found y (loose g1.boxes) z) (first-own x b1.quants (few1 x.id) in-x) ∙ h in
        let l : loose_each (done ++ x ∷ rest) b1 (loose g1.boxes) z ≡ true = each-turn b1 (loose g1.boxes) z done x rest fx a looks in
        clash (loose g1.boxes b1.id z) (ap (λ (y : ℕ → Bool). y z) (unfold-loose g1.boxes b1 w1.ordered in-b1) ∙ ap (λ y. loose_by y b1 (loose g1.boxes) z) e1.select ∙ ap (λ y. loose_each y b1 (loose g1.boxes) z) e ∙ l) (w1.settled b1 in-b1 z o))
  ]

  -- what the box under r looks up, and what is free there
  free-there : (z : ℕ) → holds z (free_in g.boxes r.over) ≡ true → loose g.boxes r.over z ≡ true
  free-there z h = free-looks g.boxes g.root w r.over z ((free-free g.boxes w.ordered r.over z).0 h)

  there-free : (z : ℕ) → loose g.boxes r.over z ≡ true → holds z (free_in g.boxes r.over) ≡ true
  there-free z h = (free-free g.boxes w.ordered r.over z).1 (looks-free g.boxes g.root w r.over z h)

  closed-is : (z : ℕ) → is_empty (free_in g.boxes z) ≡ true → (y : ℕ) → loose g.boxes z y ≡ false
  closed-is z h y = elim (cases_Bool (loose g.boxes z y)) [ inr e ↦ e | inl e ↦ absurd (clash (is_empty (free_in g.boxes z)) h (looks-open g.boxes g.root w z y e)) ]

  -- i doesn't feed the box under it
  pub not-fed : t i ≡ false
  not-fed = elim (cases_Bool (t i)) [
    | inr e ↦ e
    | inl e ↦ absurd (
        let a = and_parts (is_F i.kind) (holds i.id (free_in g.boxes r.over)) e in
        let l : loose g1.boxes i.over i.id ≡ true = ap (λ z. loose g1.boxes z i.id) e1.over ∙ e1.look r.over i.id ∙ free-there i.id a.1 in
        let at-i = split-in i b1.quants e1.owned in
        let o : owns i.id b1 ≡ true = any-from (is_quant i.id) i b1.quants e1.owned (eq-itself i.id) in
        let y = any-in (λ y. is_F y.kind && is_quant i.id y) at-i.0 (looked-bound i i.id at-i.0 at-i.1.0 at-i.1.1 a.0 l o) in
        twice i.id at-i.0 (i ∷ at-i.1.0) y.0 i y.1.0 (inl refl) (and_parts (is_F y.0.kind) (is_quant i.id y.0) y.1.1).1 (eq-itself i.id) (subst (λ z. times i.id (map (λ (r : OwnedQuant). r.id) z) ≤ 1) at-i.1.1 (few1 i.id)))
  ]

  -- those that feed are b's
  pub of-b : (x : OwnedQuant) → In x ps → In x (feeders g.boxes r.over b.quants)
  of-b x j =
      let a = in-filter t x b1.quants j in
      elim (e1.was x a.0) [
        | inl z ↦ absurd (clash (t x) a.1 (ap t z ∙ not-fed))
        | inr z ↦ filter-in t x b.quants z a.1
      ]

  fed-closed : (x : OwnedQuant) → In x ps → (y : ℕ) → loose g.boxes x.over y ≡ false
  fed-closed x j = closed-is x.over (m.fed x (of-b x j)).0

  rows1 : (x : OwnedQuant) → In x b1.quants → t x ≡ true → (is_F x.kind ≡ true) × ((y : ℕ) → loose g1.boxes x.over y ≡ false)
  rows1 x j h = ((and_parts (is_F x.kind) (holds x.id (free_in g.boxes r.over)) h).0, λ y. e1.look x.over y ∙ fed-closed x (filter-in t x b1.quants j h) y)

  -- what the box under r looks up is of these
  pub alone1 : (y : ℕ) → loose g.boxes r.over y ≡ true → (x : OwnedQuant) × (In x ps × (x.id ≡ y))
  alone1 y h = elim (climb g.boxes g.root w b r y in-b in-r h) [
    | inr l ↦ absurd (clash (loose g.boxes b.id y) l (closed-is b.id m.closed y))
    | inl l ↦ (
        let x = any-in (λ z. is_F z.kind && is_quant y z) b.quants l.1 in
        let a = and_parts (is_F x.0.kind) (is_quant y x.0) x.1.1 in
        let id : x.0.id ≡ y = eqb-true x.0.id y a.1 in
        (x.0, (filter-in t x.0 b1.quants (e1.stays x.0 x.1.0 a.0) (and_from (is_F x.0.kind) (holds x.0.id (free_in g.boxes r.over)) a.0 (subst (λ z. holds z (free_in g.boxes r.over) ≡ true) (sym id) (there-free y h))), id)))
  ]

  -- ---- the graph in which those that feed stand side by side

  abbrev turn : Node → Node
  turn = turned_node t k

  abbrev pub b2 : Node
  b2 = turn b1

  abbrev g2 : QueryGraph
  g2 = on_boxes (map (at b1.id turn)) g1

  abbrev pub bs2 : List Node
  bs2 = (above ++ b2 ∷ []) ++ below

  pub g2' : QueryGraph
  g2' = record g { boxes = bs2 }

  is1 : g1.boxes ≡ above ++ b1 ∷ below
  is1 = ap (map (at b.id settle)) stands ∙ changed-one above b below settle (subst Ordered stands w.ordered)

  is2 : g2.boxes ≡ bs2
  is2 = ap (map (at b1.id turn)) is1 ∙ changed-one above b1 below turn (subst Ordered is1 w1.ordered) ∙ sym (append-one above b2 below)

  pub preserves2 : Preserves g (record g { boxes = bs2 })
  preserves2 = subst (λ (z : List Node). Preserves g (record g { boxes = z })) is2 (preserves-chained g g1 g2 e1.preserves (turn-preserves-at g1 once1 f1 b1 in-b1 e1.select e1.plain t k rows1))

  puts1 : PutsBox g1.boxes g.root b1 turn
  puts1 = puts g1.boxes g.root w1 (typed g1 once1 f1) (shaped g1 once1 f1) b1 in-b1 e1.select e1.plain t k rows1

  pub look2 : (z y : ℕ) → loose bs2 z y ≡ loose g.boxes z y
  look2 z y = sym (ap (λ v. loose v z y) is2) ∙ same-look g1.boxes g.root w1 b1 turn puts1 z y ∙ e1.look z y

  ordered2 : Ordered bs2
  ordered2 = subst Ordered is2 (ordered-h g1.boxes g.root w1 b1 turn puts1)

  pub once2 : EachOnce (numbers bs2)
  once2 = numbers-once bs2 ordered2

  pub f2 : fault (record g { boxes = bs2 }) ≡ None
  f2 = (finds-none (record g { boxes = bs2 }) once2).1 preserves2.formed

  abbrev pub w2 : Sound bs2 g.root
  w2 = sound (record g { boxes = bs2 }) once2 f2

  -- ---- where the boxes stand

  pub in-g : (z : Node) → In z above ⊎ In z below → In z g.boxes
  in-g z j = subst (λ v. In z v) (sym stands) (elim j [ inl a ↦ in-left z above (b ∷ below) a | inr a ↦ in-right z above (b ∷ below) (inr a) ])

  in-2 : (z : Node) → In z bs2 → (In z above ⊎ In z below) ⊎ (z ≡ b2)
  in-2 z j = elim (in-append z (above ++ b2 ∷ []) below j) [
    | inr a ↦ inl (inr a)
    | inl a ↦ elim (in-append z above (b2 ∷ []) a) [ inl c ↦ inl (inl c) | inr c ↦ elim c [ inl e ↦ inr (sym e) | inr e ↦ elim e [ ] ] ]
  ]

  quants-2 : (x : OwnedQuant) → In x b2.quants → In x b1.quants
  quants-2 x j = in-turned t x b1.quants j

  -- a quantifier of b's ranges over a box below
  pub under-2 : (x : OwnedQuant) → In x b1.quants → has_box below x.over ≡ true
  under-2 x j =
      let o : Ordered (b2 ∷ below) = ordered-tail above (b2 ∷ below) (subst Ordered (append-one above b2 below) ordered2) in
      all-in (λ (y : OwnedQuant). has_box below y.over) x b2.quants o.1 (turned-in t x b1.quants j)

  -- ---- what is named below the box under r

  pub named-before : (c : ℕ) → c ≡ r.over → (x y : ℕ) → named_below bs2 c x y ≡ true → named_below g.boxes c x y ≡ true
  named-before c e x y h =
      let over1 : i.over ≡ c = e1.over ∙ sym e in
      let l1 : place g1.boxes b1.id < place g1.boxes c = subst (λ z. place g1.boxes b1.id < place g1.boxes z) over1 (place-under g1.boxes b1 i w1.ordered in-b1 e1.owned) in
      let l0 : place g.boxes b.id < place g.boxes c = subst (λ z. place g.boxes b.id < place g.boxes z) (sym e) (place-under g.boxes b r w.ordered in-b in-r) in
      settled.named-was g.boxes b settle e1.id w.ordered w1.ordered c x y l0
      (settled.named-was g1.boxes b1 turn (λ z. refl) w1.ordered (ordered-h g1.boxes g.root w1 b1 turn puts1) c x y l1 (subst (λ z. named_below z c x y ≡ true) (sym is2) h))

  -- ---- the conditions that go along

  abbrev known : Facts
  known = facts_in g.boxes

  pub goes-parts : (d : Cond) → In d (act.taken g.boxes b1 r.over q s) → (any_in_cond (wanted sought.Node) d ≡ false) × (list_all (λ (x : Column). list_any (is_quant x.quant) ps) (columns_in_cond d) ≡ true) × (cond_free g.boxes known false d ≡ true)
  goes-parts d j =
      let h = (in-filter k d b1.parts.conds.items j).1 in
      let a = and_parts (node_free_cond d) (not (is_none (columns_in_cond d)) && (list_all (λ (x : Column). list_any (is_quant x.quant) ps) (columns_in_cond d) && cond_free g.boxes known false d)) h in
      let c = and_parts (not (is_none (columns_in_cond d))) (list_all (λ (x : Column). list_any (is_quant x.quant) ps) (columns_in_cond d) && cond_free g.boxes known false d) a.1 in
      let e = and_parts (list_all (λ (x : Column). list_any (is_quant x.quant) ps) (columns_in_cond d)) (cond_free g.boxes known false d) c.1 in
      (not-true (any_in_cond (wanted sought.Node) d) a.0, e.0, e.1)

  pub goes-bare : (d : Cond) → In d (act.taken g.boxes b1 r.over q s) → any_in_cond (wanted sought.Node) d ≡ false
  goes-bare d j = (goes-parts d j).0

  pub goes-own : (d : Cond) → In d (act.taken g.boxes b1 r.over q s) → Own (λ v. list_any (is_quant v) ps) (columns_in_cond d)
  goes-own d j x l = all-in (λ (x : Column). list_any (is_quant x.quant) ps) x (columns_in_cond d) (goes-parts d j).1 l

  -- ---- those that feed may be split

  pub may-split : has_box g.boxes s ≡ false → list_any (owns q) g.boxes ≡ false
      → MaySplitSound (above ++ b2 ∷ []) below b2 wide q s (act.before g.boxes b1 r.over q s) ps (act.behind g.boxes b1 r.over q s) (act.staying g.boxes b1 r.over q s) (act.taken g.boxes b1 r.over q s)
  may-split new-s new-q = record {
    above = in-right b2 above (b2 ∷ []) (inl refl);
    a_select = e1.select;
    quants = refl;
    conds = refl;
    new_s = ap (λ v. has_box v s) (sym is2) ∙ has-map (at b1.id turn) (at-id b1.id turn (λ y. refl)) g1.boxes s ∙ has-map (at b.id settle) (at-id b.id settle e1.id) g.boxes s ∙ new-s;
    new_q = any-not (owns q) bs2 (λ z j. elim (in-2 z j) [
      | inl a ↦ any-none (owns q) z g.boxes new-q (in-g z a)
      | inr a ↦ ap (owns q) a ∙ any-not (is_quant q) b2.quants (λ x l. (
          let old = any-none (owns q) b g.boxes new-q in-b in
          elim (e1.was x (quants-2 x l)) [
            | inl h ↦ ap (λ (y : OwnedQuant). y.id == q) h ∙ ap (λ y. y == q) e1.number ∙ any-none (is_quant q) r b.quants old in-r
            | inr h ↦ any-none (is_quant q) x b.quants old h
          ]))
    ]);
    rows = λ x j. (let a = in-filter t x b1.quants j in (rows1 x a.0 a.1).0);
    below = λ x j. under-2 x (in-filter t x b1.quants j).0;
    closed = λ x j y. look2 x.over y ∙ fed-closed x j y;
    widths = λ x z j jz e. (
        let y = has-in x.over below (under-2 x (in-filter t x b1.quants j).0) in
        let same : y.0 ≡ z = same-box bs2 y.0 z ordered2 (in-right y.0 (above ++ b2 ∷ []) below y.1.0) jz (y.1.1 ∙ sym e) in
        ap (of_box 0 width) (ap (λ v. first (is_box v) g.boxes) (sym y.1.1) ∙ in-first y.0 g.boxes w.ordered (in-g y.0 (inr y.1.0))) ∙ ap width same);
    taken_own = λ d j y h. own-cond (λ v. list_any (is_quant v) ps) y d (goes-own d j) (goes-bare d j) h;
    taken_bare = λ d j y. names-none d (goes-bare d j) y;
  }
    where
      at-id : (v : ℕ) (f : Node → Node) → ((y : Node) → (f y).id ≡ y.id) → (y : Node) → (at v f y).id ≡ y.id
      at-id v f h y = elim (y.id == v) as (λ c. (λ (z : Node). z.id) (cond c (f y) y) ≡ y.id) [ true ↦ h y | false ↦ refl ]
