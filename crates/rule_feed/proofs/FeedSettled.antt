-- Where G1 may fire: an S that is settled, and what stays of the graph then.
use Rattle.std.proofs.Common.{ℕ, ◌==◌, ◌≡◌, ◌<◌, ◌&&◌, cond, Bool, true, false, List, [], ◌∷◌, ◌++◌, map, None, refl, sym, ap, ap₂, subst, ◌∙◌, eqb-true, ◌⊎◌, inl, inr, arith}
use Rattle.std.proofs.lemmas.Bool.{and_from, and_parts, cases_Bool, eq-eqb, or_from}
use Rattle.row_bag.specs.declared.tables.Table.{Table}
use Rattle.qgm_core.specs.Boxes.{Ordered, QueryGraph, has_box, is_box, numbers}
use Rattle.qgm_core.specs.Edits.{on_boxes}
use Rattle.qgm_core.specs.Free.{Reaches, itself, through}
use Rattle.qgm_core.specs.Kinds.{is_F, is_S}
use Rattle.list_laws.specs.Lists.{EachOnce, In}
use Rattle.qgm_core.specs.declared.kinds.BoxKind.TheVariants.{Select}
use Rattle.qgm_core.specs.declared.kinds.Role.TheVariants.{Plain}
use Rattle.qgm_core.specs.declared.node.Node.{Node}
use Rattle.qgm_core.specs.declared.owned.OwnedQuant.{OwnedQuant}
use Rattle.qgm_core.proofs.KindTests.{s-is}
use Rattle.qgm_core.proofs.Reaching.{reached-reaches}
use Rattle.qgm_meaning.specs.Meaning.{bag_in}
use Rattle.qgm_meaning.specs.Rules.{as_F}
use Rattle.qgm_meaning.specs.Scope.{loose}
use Rattle.qgm_meaning.specs.Values.{Environment}
use Rattle.qgm_wellformed.specs.WellFormed.{fault}
use Rattle.qgm_wellformed.proofs.Faults.{finds-none}
use Rattle.qgm_edit_laws.specs.Adds.{at}
use Rattle.qgm_edit_laws.specs.Graph.{reads_in}
use Rattle.qgm_edit_laws.specs.Placed.{place}
use Rattle.qgm_edit_laws.proofs.CheckedParts.{shaped, sound, typed}
use Rattle.qgm_edit_laws.proofs.Edits.{map-append}
use Rattle.qgm_edit_laws.proofs.MovedLast.{in-behind}
use Rattle.qgm_edit_laws.proofs.OneBox.{at-absent}
use Rattle.qgm_edit_laws.proofs.PutsBox.{same-look}
use Rattle.qgm_edit_laws.proofs.Ranks.{place-under}
use Rattle.qgm_edit_laws.proofs.Rules.{same-agree}
use Rattle.qgm_edit_laws.proofs.Scope.{only-bag, unfold-bag}
use Rattle.rule_api.specs.Rules.{Preserves}
use Rattle.rule_api.specs.declared.place.Place.{Place}
use Rattle.rule_facts.proofs.FactsThere.{here-at, there}
use Rattle.rule_subquery.specs.ScalarToJoin.{column_box}
use Rattle.rule_subquery.proofs.ScalarToJoinMeans.{scalar-preserves}
use Rattle.rule_subquery.proofs.ScalarToJoinSound.{OneScalar, puts}
use Rattle.rule_feed.specs.Feed.{inside, named_below}
use Rattle.rule_feed.specs.FeedActs.{settled_node, settled_quant}
use Rattle.rule_feed.specs.FeedMay.{MayFeedAt}
use Rattle.rule_feed.proofs.FeedFacts.{ordered-tail}
use Rattle.list_laws.proofs.Booleans.{clash}
use Rattle.list_laws.proofs.Membership.{any-from, any-in, eq-itself, in-append, in-left, in-map, in-right}

-- ---- a graph preserves itself

pub preserves-itself : (g : QueryGraph) → EachOnce (numbers g.boxes) → fault g ≡ None → Preserves g g
preserves-itself g u f = record { formed = (finds-none g u).0 f; bag = λ tables s. same-agree refl; bases = λ tables s. s; names = refl; order = refl }

-- ---- lists in which one box is changed

-- box b stands once
pub once-above : (above : List Node) (b : Node) (below : List Node) → Ordered (above ++ b ∷ below) → (has_box above b.id ≡ false) × (has_box below b.id ≡ false)
once-above [] b below o = (refl, o.0)
once-above (n ∷ above) b below o =
    let h = once-above above b below o.2 in (
      or_from (n.id == b.id) (has_box above b.id) (elim (cases_Bool (n.id == b.id)) [
        | inr z ↦ z
        | inl z ↦ absurd (clash (has_box (above ++ b ∷ below) n.id) (any-from (is_box n.id) b (above ++ b ∷ below) (in-right b above (b ∷ below) (inl refl)) (eq-eqb b.id n.id (sym (eqb-true n.id b.id z)))) o.0)
      ]) h.0,
      h.1,
    )

pub changed-one : (above : List Node) (b : Node) (below : List Node) (f : Node → Node) → Ordered (above ++ b ∷ below) → map (at b.id f) (above ++ b ∷ below) ≡ above ++ f b ∷ below
changed-one above b below f o =
    let h = once-above above b below o in
    map-append (at b.id f) above (b ∷ below)
    ∙ ap₂ (λ (x y : List Node). x ++ y) (at-absent b.id f above h.0)
    (ap₂ (λ (x : Node) (y : List Node). x ∷ y) (ap (λ (t : Bool). cond t (f b) b) (eq-itself b.id)) (at-absent b.id f below h.1))

-- a box that stands below has the bag of those below alone
pub bag-below : (tables : List Table) (above below : List Node) → Ordered (above ++ below) → (z : ℕ) → has_box below z ≡ true → (e : Environment) → bag_in tables (above ++ below) z e ≡ bag_in tables below z e
bag-below tables above below o z h e = sym (only-bag tables (bag_in tables (above ++ below)) below (ordered-tail above below o) (λ n i e. sym (unfold-bag tables (above ++ below) n o (in-right n above below i) e)) z h e)

-- ---- a box changed that c doesn't reach

module _ (bs : List Node) (b : Node) (f : Node → Node) (id : (y : Node) → (f y).id ≡ y.id) (o : Ordered bs) (o' : Ordered (map (at b.id f) bs)) where
  abbrev hs : List Node
  hs = map (at b.id f) bs

  reach-was : (z v : ℕ) → Reaches hs z v → place bs b.id < place bs z → Reaches bs z v × (place bs b.id < place bs v)
  reach-was z v (itself y) l = (itself y, l)
  reach-was z v (through n r t i j k) l =
      let y = in-map (at b.id f) n bs i in
      elim (cases_Bool (y.0.id == b.id)) [
        | inl e ↦ absurd (
            let same : n.id ≡ b.id = ap (λ (z : Node). z.id) (sym y.1.1 ∙ ap (λ (t : Bool). cond t (f y.0) y.0) e) ∙ id y.0 ∙ eqb-true y.0.id b.id e in
            let p = ap (place bs) same in omega arith)
        | inr e ↦ (
            let same : y.0 ≡ n = sym (ap (λ (t : Bool). cond t (f y.0) y.0) e) ∙ y.1.1 in
            let jr : In r y.0.quants = subst (λ (z : Node). In r z.quants) (sym same) j in
            let under = place-under bs y.0 r o y.1.0 jr in
            let at-n : place bs y.0.id ≡ place bs n.id = ap (λ (z : Node). place bs z.id) same in
            let rec = reach-was r.over t k (omega arith) in
            (subst (λ (z : Node). Reaches bs z.id t) same (through y.0 r t y.1.0 jr rec.0), rec.1))
      ]

  pub named-was : (c p k : ℕ) → place bs b.id < place bs c → named_below hs c p k ≡ true → named_below bs c p k ≡ true
  named-was c p k l h =
      let n = any-in (λ (y : Node). inside hs c y.id && reads_in p k y) hs h in
      let a = and_parts (inside hs c n.0.id) (reads_in p k n.0) n.1.1 in
      let r = reach-was c n.0.id ((reached-reaches hs o' c n.0.id).0 a.0) l in
      let y = in-map (at b.id f) n.0 bs n.1.0 in
      elim (cases_Bool (y.0.id == b.id)) [
        | inl e ↦ absurd (
            let same : n.0.id ≡ b.id = ap (λ (z : Node). z.id) (sym y.1.1 ∙ ap (λ (t : Bool). cond t (f y.0) y.0) e) ∙ id y.0 ∙ eqb-true y.0.id b.id e in
            let q = ap (place bs) same in let m = r.1 in omega arith)
        | inr e ↦ (
            let same : n.0 ≡ y.0 = sym (sym (ap (λ (t : Bool). cond t (f y.0) y.0) e) ∙ y.1.1) in
            any-from (λ (y : Node). inside bs c y.id && reads_in p k y) y.0 bs y.1.0 (subst (λ (z : Node). (inside bs c z.id && reads_in p k z) ≡ true) same (and_from (inside bs c n.0.id) (reads_in p k n.0) ((reached-reaches bs o c n.0.id).1 r.0) a.1)))
      ]

-- ---- an S is settled

module _ (g : QueryGraph) (u : EachOnce (numbers g.boxes)) (f : fault g ≡ None) (p : Place) (b : Node) (us : List OwnedQuant) (r : OwnedQuant) (vs : List OwnedQuant) (m : MayFeedAt p g b us r vs) where
  -- with k for b, and i for r
  pub record Settles (k : Node → Node) (i : OwnedQuant) : Type 0 where
    pub id : (y : Node) → (k y).id ≡ y.id
    pub select : (k b).parts.kind ≡ Select
    pub plain : (k b).parts.role ≡ Plain
    pub preserves : Preserves g (on_boxes (map (at b.id k)) g)
    pub look : (z q : ℕ) → loose (map (at b.id k) g.boxes) z q ≡ loose g.boxes z q
    pub owned : In i (k b).quants
    pub not_scalar : is_S i.kind ≡ false
    pub number : i.id ≡ r.id
    pub over : i.over ≡ r.over
    pub was : (t : OwnedQuant) → In t (k b).quants → (t ≡ i) ⊎ In t b.quants
    pub stays : (t : OwnedQuant) → In t b.quants → is_F t.kind ≡ true → In t (k b).quants

  in-b : In b g.boxes
  in-b = here-at g u f b p.at m.at

  in-r : In r b.quants
  in-r = subst (λ z. In r z) (sym m.split) (in-right r us (r ∷ vs) (inl refl))

  as-it-is : (ns : List Node) → map (at b.id (λ (y : Node). y)) ns ≡ ns
  as-it-is [] = refl
  as-it-is (n ∷ ns) = ap₂ (λ (x : Node) (y : List Node). x ∷ y) (elim (n.id == b.id) as (λ t. cond t n n ≡ n) [ true ↦ refl | false ↦ refl ]) (as-it-is ns)

  unchanged : is_S r.kind ≡ false → Settles (λ (y : Node). y) r
  unchanged e = record {
    id = λ y. refl;
    select = m.select;
    plain = m.plain;
    preserves = subst (λ (z : List Node). Preserves g (record g { boxes = z })) (sym (as-it-is g.boxes)) (preserves-itself g u f);
    look = λ z q. ap (λ v. loose v z q) (as-it-is g.boxes);
    owned = in-r;
    not_scalar = e;
    number = refl;
    over = refl;
    was = λ t j. inr j;
    stays = λ t j h. j;
  }

  one : is_S r.kind ≡ true → OneScalar g.boxes b us r vs
  one e = record {
    within = in-b;
    select = m.select;
    plain = m.plain;
    split = m.split;
    is_s = s-is r.kind e;
    clean = λ tables s env fit. (there g u f tables s env fit).clean r.over (m.scalar e).0;
    one = λ tables s env fit. (there g u f tables s env fit).exactly_one r.over (m.scalar e).1;
  }

  joined : is_S r.kind ≡ true → Settles (column_box us r vs) (as_F r.id r.over)
  joined e = record {
    id = λ y. refl;
    select = m.select;
    plain = m.plain;
    preserves = scalar-preserves g u f b us r vs (one e);
    look = λ z q. same-look g.boxes g.root (sound g u f) b (column_box us r vs) (puts g.boxes g.root (sound g u f) (typed g u f) (shaped g u f) b us r vs (one e)) z q;
    owned = in-right (as_F r.id r.over) (us ++ vs) (as_F r.id r.over ∷ []) (inl refl);
    not_scalar = refl;
    number = refl;
    over = refl;
    was = λ t j. elim (in-behind t us r (as_F r.id r.over) vs j) [
      | inr k ↦ inl (sym k)
      | inl k ↦ inr (subst (λ z. In t z) (sym m.split) (elim k [ inl a ↦ in-left t us (r ∷ vs) a | inr a ↦ in-right t us (r ∷ vs) (inr a) ]))
    ];
    stays = λ t j h. elim (in-append t us (r ∷ vs) (subst (λ z. In t z) m.split j)) [
      | inl a ↦ in-left t (us ++ vs) (as_F r.id r.over ∷ []) (in-left t us vs a)
      | inr a ↦ elim a [
        | inl z ↦ absurd (clash (is_F t.kind) h (ap (λ (x : OwnedQuant). is_F x.kind) (sym z) ∙ ap is_F (s-is r.kind e)))
        | inr z ↦ in-left t (us ++ vs) (as_F r.id r.over ∷ []) (in-right t us vs z)
      ]
    ];
  }

  pub settles : Settles (settled_node us r vs) (settled_quant r)
  settles = by (is_S r.kind) refl
    where
      by : (t : Bool) → is_S r.kind ≡ t → Settles (λ n. cond t (column_box us r vs n) n) (cond t (as_F r.id r.over) r)
      by true e = joined e
      by false e = unchanged e
