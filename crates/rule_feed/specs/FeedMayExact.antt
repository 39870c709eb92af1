-- The places of G1 are exactly those where it may fire.
use Rattle.std.proofs.Common.{ℕ, zero, suc, ◌≡◌, ◌≤◌, ◌&&◌, ◌||◌, nat_le, not, Bool, true, List, length, refl, sym, ap, subst, ◌∙◌, inl, inr, arith}
use Rattle.std.specs.Prelude.{◌↔◌}
use Rattle.std.specs.List.{list_all}
use Rattle.std.proofs.lemmas.Bool.{and_from, and_parts, cases_Bool, le-leb, leb-false, leb-true, not-true, or_left, or_right}
use Rattle.qgm_core.specs.Boxes.{QueryGraph, is_box, numbers, width}
use Rattle.qgm_core.specs.Free.{free_in}
use Rattle.qgm_core.specs.Kinds.{is_S}
use Rattle.list_laws.specs.Lists.{EachOnce, In, first}
use Rattle.qgm_core.specs.declared.node.Node.{Node}
use Rattle.qgm_core.specs.declared.owned.OwnedQuant.{OwnedQuant}
use Rattle.qgm_wellformed.specs.Sentences.{WellFormed}
use Rattle.qgm_wellformed.specs.WellFormed.{is_empty}
use Rattle.qgm_wellformed.proofs.Faults.{finds-none}
use Rattle.qgm_edit_laws.specs.Graph.{Sound, reads_in}
use Rattle.qgm_edit_laws.proofs.CheckedParts.{sound}
use Rattle.qgm_edit_laws.proofs.Ranks.{has-in}
use Rattle.qgm_edit_laws.proofs.Scope.{in-first}
use Rattle.qgm_props.specs.Inferred.{Facts, Inferred, clean, error_free, exactly_one}
use Rattle.qgm_props.specs.Under.{all_places, of_box}
use Rattle.rule_api.specs.Rules.{Ascending}
use Rattle.rule_facts.specs.Places.{ArePlaces, is_plain_select, plain-from, plain-to, quant-from, quant-to, quants-ascend}
use Rattle.rule_facts.proofs.FactsThere.{here-at}
use Rattle.rule_feed.specs.Feed.{inside, named_below}
use Rattle.rule_feed.specs.FeedMay.{MayFeed, feed_pairs, feeders, feeds, is_column_ready, is_ready, is_single, may_feed, may_fire, may_own, most_boxes, width_of}
use Rattle.rule_feed.specs.Knowing.{facts_in, tells-in}
use Rattle.qgm_core.proofs.Reaching.{overs-held}
use Rattle.list_laws.proofs.Membership.{all-from, all-in, any-in, in-filter}

-- each place from 1 to w passes
all-places : (w : ℕ) (t : ℕ → Bool) → all_places w t ≡ true → (k : ℕ) → 1 ≤ k → k ≤ w → t k ≡ true
all-places zero t h k a b = absurd (omega arith)
all-places (suc w) t h k a b =
    let x = and_parts (t (suc w)) (all_places w t) h in
    elim (cases_Bool (nat_le k w)) [
      | inl l ↦ all-places w t x.1 k a (leb-true k w l)
      | inr g ↦ subst (λ z. t z ≡ true) (let n : (k ≤ w) → ⊥ = λ l. (let e = le-leb k w l in let z : ⊥ = cc in z) in over w k b n) x.0
    ]
  where
    over : (w k : ℕ) → k ≤ suc w → ((k ≤ w) → ⊥) → suc w ≡ k
    over w k b n = elim (cases_Bool (nat_le k w)) [ inl l ↦ absurd (n (leb-true k w l)) | inr g ↦ (let h = leb-false k w g in omega arith) ]

places-all : (w : ℕ) (t : ℕ → Bool) → ((k : ℕ) → t k ≡ true) → all_places w t ≡ true
places-all zero t h = refl
places-all (suc w) t h = and_from (t (suc w)) (all_places w t) (h (suc w)) (places-all w t h)

module _ (g : QueryGraph) (u : EachOnce (numbers g.boxes)) (f : WellFormed g) where
  abbrev bs : List Node
  bs = g.boxes

  abbrev known : Facts
  known = facts_in bs

  w : Sound bs g.root
  w = sound g u ((finds-none g u).1 f)

  -- a column of a quantifier of the graph that is named is one of its box
  named-there : (b : Node) (q : OwnedQuant) → In b bs → In q b.quants → (c k : ℕ) → named_below bs c q.id k ≡ true → (1 ≤ k) × (k ≤ width_of bs q.over)
  named-there b q i j c k h =
      let y = any-in (λ (y : Node). inside bs c y.id && reads_in q.id k y) bs h in
      let r = (and_parts (inside bs c y.0.id) (reads_in q.id k y.0) y.1.1).1 in
      let z = has-in q.over bs (overs-held bs b q w.ordered i j) in
      let x = w.fits y.0 y.1.0 q.id k r b q z.0 i j refl z.1.0 z.1.1 in
      (x.0, subst (λ v. k ≤ v) (sym (ap (of_box 0 width) (ap (λ v. first (is_box v) bs) (sym z.1.1) ∙ in-first z.0 bs w.ordered z.1.0))) x.1)

  ready-from : (b : Node) (q : OwnedQuant) → In b bs → In q b.quants → (c : ℕ) → is_ready bs known c q ≡ true
      → ((is_empty (free_in bs q.over) ≡ true) × Inferred bs (clean q.over)) × ((k : ℕ) → named_below bs c q.id k ≡ true → Inferred bs (error_free q.over k))
  ready-from b q i j c h =
      let x = and_parts (is_empty (free_in bs q.over)) (known.clean q.over && all_places (width_of bs q.over) (is_column_ready bs known c q)) h in
      let y = and_parts (known.clean q.over) (all_places (width_of bs q.over) (is_column_ready bs known c q)) x.1 in (
        (x.0, (tells-in bs (clean q.over)).0 y.0),
        λ k n. (
            let t = named-there b q i j c k n in
            let r = all-places (width_of bs q.over) (is_column_ready bs known c q) y.1 k t.0 t.1 in
            (tells-in bs (error_free q.over k)).0 (sym (ap (λ v. not v || known.error_free q.over k) n) ∙ r)),
      )

  ready-to : (q : OwnedQuant) (c : ℕ) → is_empty (free_in bs q.over) ≡ true → Inferred bs (clean q.over) → ((k : ℕ) → named_below bs c q.id k ≡ true → Inferred bs (error_free q.over k)) → is_ready bs known c q ≡ true
  ready-to q c e h n =
      and_from (is_empty (free_in bs q.over)) (known.clean q.over && all_places (width_of bs q.over) (is_column_ready bs known c q)) e
      (and_from (known.clean q.over) (all_places (width_of bs q.over) (is_column_ready bs known c q)) ((tells-in bs (clean q.over)).1 h)
      (places-all (width_of bs q.over) (is_column_ready bs known c q) (λ k. elim (cases_Bool (named_below bs c q.id k)) [
        | inl t ↦ or_right (not (named_below bs c q.id k)) (known.error_free q.over k) ((tells-in bs (error_free q.over k)).1 (n k t))
        | inr t ↦ or_left (not (named_below bs c q.id k)) (known.error_free q.over k) (ap not t)
      ])))

  pub feed-exact : (b i j : ℕ) → In (i, j) (feed_pairs g b) ↔ MayFeed (record { at = b; i = i; j = j }) g
  unfolding feed_pairs MayFeed
  feed-exact b i j = (
    λ h.
        let x = quant-from (may_fire bs) g b i j h in
        let a = and_parts (may_own bs x.n) (may_feed bs known x.n x.r) x.passes in
        let o = and_parts (is_plain_select x.n) (nat_le (length bs) most_boxes && is_empty (free_in bs x.n.id)) a.0 in
        let o2 = and_parts (nat_le (length bs) most_boxes) (is_empty (free_in bs x.n.id)) o.1 in
        let m = and_parts (not (is_empty (free_in bs x.r.over))) (is_single bs known x.r.over x.r && list_all (is_ready bs known x.r.over) (feeders bs x.r.over x.n.quants)) a.1 in
        let m2 = and_parts (is_single bs known x.r.over x.r) (list_all (is_ready bs known x.r.over) (feeders bs x.r.over x.n.quants)) m.1 in
        let here : In x.n bs = here-at g u ((finds-none g u).1 f) x.n b x.found in
        let each : (q : OwnedQuant) → In q (feeders bs x.r.over x.n.quants) → ((is_empty (free_in bs q.over) ≡ true) × Inferred bs (clean q.over)) × ((k : ℕ) → named_below bs x.r.over q.id k ≡ true → Inferred bs (error_free q.over k))
        = λ q l. ready-from x.n q here (in-filter (feeds bs x.r.over) q x.n.quants l).0 x.r.over (all-in (is_ready bs known x.r.over) q (feeders bs x.r.over x.n.quants) m2.1 l) in (
          x.n,
          (
            x.us,
            (
              x.r,
              (
                x.vs,
                record {
                  no_second = x.second;
                  at = x.found;
                  nth = x.nth;
                  select = (plain-from x.n o.0).0;
                  plain = (plain-from x.n o.0).1;
                  split = x.split;
                  few = leb-true (length bs) most_boxes o2.0;
                  closed = o2.1;
                  opened = not-true (is_empty (free_in bs x.r.over)) m.0;
                  scalar = λ t. (
                      let s = and_parts (known.clean x.r.over) (known.exactly_one x.r.over) (sym (ap (λ v. not v || (known.clean x.r.over && known.exactly_one x.r.over)) t) ∙ m2.0) in
                      ((tells-in bs (clean x.r.over)).0 s.0, (tells-in bs (exactly_one x.r.over)).0 s.1));
                  fed = λ q l. (each q l).0;
                  named = λ q l. (each q l).1;
                },
              ),
            ),
          ),
        ),
    λ h.
        let n = h.0 in
        let r = h.1.1.0 in
        let m = h.1.1.1.1 in
        quant-to (may_fire bs) g b i j n h.1.0 r h.1.1.1.0 m.no_second m.at m.split m.nth
        (and_from (may_own bs n) (may_feed bs known n r)
        (and_from (is_plain_select n) (nat_le (length bs) most_boxes && is_empty (free_in bs n.id)) (plain-to n m.select m.plain)
        (and_from (nat_le (length bs) most_boxes) (is_empty (free_in bs n.id)) (le-leb (length bs) most_boxes m.few) m.closed))
        (and_from (not (is_empty (free_in bs r.over))) (is_single bs known r.over r && list_all (is_ready bs known r.over) (feeders bs r.over n.quants)) (ap not m.opened)
        (and_from (is_single bs known r.over r) (list_all (is_ready bs known r.over) (feeders bs r.over n.quants))
        (elim (cases_Bool (is_S r.kind)) [
          | inl t ↦ or_right (not (is_S r.kind)) (known.clean r.over && known.exactly_one r.over) (and_from (known.clean r.over) (known.exactly_one r.over) ((tells-in bs (clean r.over)).1 (m.scalar t).0) ((tells-in bs (exactly_one r.over)).1 (m.scalar t).1))
          | inr t ↦ or_left (not (is_S r.kind)) (known.clean r.over && known.exactly_one r.over) (ap not t)
        ])
        (all-from (is_ready bs known r.over) (feeders bs r.over n.quants) (λ q l. ready-to q r.over (m.fed q l).0 (m.fed q l).1 (m.named q l)))))),
  )

pub feed_exact : (g : QueryGraph) (b i j : ℕ) → EachOnce (numbers g.boxes) → WellFormed g → In (i, j) (feed_pairs g b) ↔ MayFeed (record { at = b; i = i; j = j }) g
feed_exact g b i j u f = feed-exact g u f b i j

pub feed-ascend : (g : QueryGraph) (b : ℕ) → Ascending (feed_pairs g b)
unfolding feed_pairs
feed-ascend g b = quants-ascend (may_fire g.boxes) g b

-- in order, exactly the places where it may fire
pub feed-places : ArePlaces feed_pairs MayFeed
feed-places g u w b = (feed-ascend g b, λ i j. feed-exact g u w b i j)
