-- Where a rule of class magic may fire by what is told, it is one that is built, and it has a place there.
use Rattle.std.proofs.Common.{ℕ, suc, ◌==◌, ◌≡◌, ◌&&◌, true, false, List, [], ◌∷◌, length, Some, refl, sym, ap, subst, ◌∙◌, eqb-true, inl, inr}
use Rattle.std.proofs.lemmas.Bool.{and_parts, cases_Bool, or_cases, or_left}
use Rattle.list_laws.specs.Lists.{EachOnce, In, holds}
use Rattle.list_laws.proofs.Booleans.{clash}
use Rattle.list_laws.proofs.Membership.{any-in, eq-itself, in-filter}
use Rattle.qgm_core.specs.Boxes.{QueryGraph, box_of, numbers}
use Rattle.qgm_core.specs.Free.{IsFree, free_in}
use Rattle.qgm_core.specs.Kinds.{is_F}
use Rattle.qgm_core.specs.declared.kinds.BoxKind.{BoxKind}
use Rattle.qgm_core.specs.declared.kinds.BoxKind.TheVariants.{Base, Group, OuterJoin, Select, SetOp}
use Rattle.qgm_core.specs.declared.node.Node.{Node}
use Rattle.qgm_core.specs.declared.owned.OwnedQuant.{OwnedQuant}
use Rattle.qgm_core.proofs.KindTests.{s-is}
use Rattle.qgm_core.proofs.Reaching.{reached-reaches}
use Rattle.qgm_wellformed.specs.Columns.{columns_of}
use Rattle.qgm_wellformed.specs.Sentences.{WellFormed}
use Rattle.qgm_wellformed.specs.WellFormed.{is_empty}
use Rattle.qgm_wellformed.proofs.Below.{free-free}
use Rattle.qgm_wellformed.proofs.Faults.{finds-none}
use Rattle.qgm_edit_laws.specs.Graph.{Sound, reads_in}
use Rattle.qgm_edit_laws.proofs.CheckedParts.{sound}
use Rattle.qgm_edit_laws.proofs.Levels.{owner-of}
use Rattle.qgm_edit_laws.proofs.Read.{columns-listed, is_at}
use Rattle.qgm_edit_laws.proofs.Scope.{in-first}
use Rattle.qgm_edit_laws.proofs.Turns.{split-in}
use Rattle.qgm_props.specs.Inferred.{Facts, at_most_one, clean, error_free, error_free_under, exactly_one, of_over}
use Rattle.qgm_props.specs.Laws.{Tells}
use Rattle.rule_plan.specs.declared.classes.Class.TheVariants.{Magic}
use Rattle.rule_api.specs.declared.rule_id.RuleId.{RuleId}
use Rattle.rule_api.specs.declared.rule_id.RuleId.TheVariants.{U2, G1, G2, G3, G4, G5}
use Rattle.rule_engine.specs.Control.{rules_of}
use Rattle.rule_feed.specs.Feed.{inside, named_below}
use Rattle.rule_feed.specs.FeedMay.{MayFeed, feeders, feeds}
use Rattle.rule_feed.proofs.FeedMeasure.{held-some}
use Rattle.rule_magic.specs.AbsorbExact.{inferred-told}
use Rattle.rule_magic.specs.AbsorbGroup.{MayAbsorbGroup}
use Rattle.rule_magic.specs.AbsorbOuterJoin.{MayAbsorbOuter}
use Rattle.rule_magic.specs.AbsorbSelect.{MayAbsorbSelect}
use Rattle.rule_magic.specs.AbsorbSetOperation.{MayAbsorbSet}
use Rattle.rule_magic.specs.Feeding.{inferred_facts}
use Rattle.rule_magic.specs.Places as told
use Rattle.rule_set.specs.Built.{built_may}
use Rattle.rule_subquery.specs.ScalarToGroup.{MayScalarToGroup}

-- the rules of the class
magic-is : (r : RuleId) → In r (U2 ∷ (G1 ∷ (G2 ∷ (G3 ∷ (G4 ∷ (G5 ∷ [])))))) → In r (rules_of Magic)
unfolding rules_of
magic-is r i = i

pub some-held : (xs : List ℕ) → is_empty xs ≡ false → (q : ℕ) × (holds q xs ≡ true)
some-held [] e = absurd (let z : ⊥ = cc in z)
some-held (x ∷ xs) e = (x, or_left (x == x) (holds x xs) (eq-itself x))

module _ (g : QueryGraph) (once : EachOnce (numbers g.boxes)) (wf : WellFormed g) where
  abbrev bs : List Node
  bs = g.boxes

  w : Sound g.boxes g.root
  w = sound g once ((finds-none g once).1 wf)

  abbrev known : Facts
  known = inferred_facts g.boxes

  tells : Tells known g.boxes
  tells = inferred-told g.boxes

  -- a rule of class magic may fire at b
  abbrev pub HasPlace : ℕ → Type 0
  HasPlace b = (r : RuleId) × (In r (rules_of Magic) × ((i : ℕ) × ((j : ℕ) × built_may r (record { at = b; i = i; j = j }) g)))

  found : (b : Node) → In b bs → box_of b.id g ≡ Some b
  found b i = in-first b bs w.ordered i

  closed-to : (b : ℕ) → ((q : ℕ) → IsFree bs b q → ⊥) → is_empty (free_in bs b) ≡ true
  closed-to b h = elim (cases_Bool (is_empty (free_in bs b))) [
    | inl e ↦ e
    | inr n ↦ absurd (let x = some-held (free_in bs b) n in h x.0 ((free-free bs w.ordered b x.0).0 x.1))
  ]

  -- ---- U2

  scalar-may : (b : Node) (r : OwnedQuant) → told.MaySingleAt bs known b r → (i : ℕ) × MayScalarToGroup (record { at = b.id; i = i; j = 0 }) g
  unfolding MayScalarToGroup
  scalar-may b r m =
      let x = split-in r b.quants m.owned in (
        suc (length x.0),
        (
          b,
          (
            x.0,
            (
              r,
              (
                x.1.0,
                record {
                  no_second = refl;
                  at = found b m.in_b;
                  nth = refl;
                  select = m.a_select;
                  plain = m.plain;
                  split = x.1.1;
                  is_s = s-is r.kind m.is_s;
                  not_one = λ i. clash (known.exactly_one r.over) ((tells (exactly_one r.over)).1 i) m.not_one;
                  safe = elim (or_cases (known.error_free r.over 1) (known.at_most_one r.over) m.safe) [ inl e ↦ inl ((tells (error_free r.over 1)).0 e) | inr e ↦ inr ((tells (at_most_one r.over)).0 e) ];
                  few = m.few;
                },
              ),
            ),
          ),
        ),
      )

  -- ---- G1

  feed-may : (b : Node) (r : OwnedQuant) → told.MayFeed bs known b r → (i : ℕ) × MayFeed (record { at = b.id; i = i; j = 0 }) g
  unfolding MayFeed
  feed-may b r m =
      let x = split-in r b.quants m.owned in (
        suc (length x.0),
        (
          b,
          (
            x.0,
            (
              r,
              (
                x.1.0,
                record {
                  no_second = refl;
                  at = found b m.in_b;
                  nth = refl;
                  select = m.a_select;
                  plain = m.plain;
                  split = x.1.1;
                  few = m.few;
                  closed = closed-to b.id m.closed;
                  opened = held-some m.opened.0 (free_in bs r.over) ((free-free bs w.ordered r.over m.opened.0).1 m.opened.1);
                  scalar = λ s. (let k = m.scalar s in ((tells (clean r.over)).0 k.0, (tells (exactly_one r.over)).0 k.1));
                  fed = λ q i. (
                      let y = feeder q i in
                      let k = m.fed q y.0 y.1.0 ((free-free bs w.ordered r.over q.id).0 y.1.1).0 in
                      (closed-to q.over k.0, (tells (clean q.over)).0 k.1));
                  named = λ q i k h. (
                      let y = feeder q i in
                      (tells (error_free q.over k)).0 (column-free q k y.0 y.1.0 h));
                },
              ),
            ),
          ),
        ),
      )
    where
      feeder : (q : OwnedQuant) → In q (feeders bs r.over b.quants) → In q b.quants × ((is_F q.kind ≡ true) × (holds q.id (free_in bs r.over) ≡ true))
      feeder q i =
          let y = in-filter (feeds bs r.over) q b.quants i in
          let k = and_parts (is_F q.kind) (holds q.id (free_in bs r.over)) y.1 in
          (y.0, (k.0, k.1))

      column-free : (q : OwnedQuant) (k : ℕ) → In q b.quants → is_F q.kind ≡ true → named_below bs r.over q.id k ≡ true → known.error_free q.over k ≡ true
      column-free q k i f h =
          let y = any-in (λ (n : Node). inside bs r.over n.id && reads_in q.id k n) bs h in
          let z = and_parts (inside bs r.over y.0.id) (reads_in q.id k y.0) y.1.1 in
          let c = any-in (is_at q.id k) (columns_of y.0) (columns-listed q.id k y.0 z.1) in
          let e = and_parts (c.0.quant == q.id) (c.0.place == k) c.1.1 in
          let quant : c.0.quant ≡ q.id = eqb-true c.0.quant q.id e.0 in
          let place : c.0.place ≡ k = eqb-true c.0.place k e.1 in
          let free = m.named q i f y.0 c.0 y.1.0 ((reached-reaches bs w.ordered r.over y.0.id).0 z.0) c.1.0 quant in
          sym (ap (of_over false (λ (o : ℕ). known.error_free o k)) (owner-of bs w.once b q m.in_b i))
          ∙ sym (ap (λ (v : ℕ). error_free_under bs known v k) quant) ∙ sym (ap (λ (v : ℕ). error_free_under bs known c.0.quant v) place) ∙ free

  -- ---- G2 to G5

  absorb-has : (d : Node) (may : told.MayAbsorb bs known d) (k : BoxKind) → may.c.parts.kind ≡ k → HasPlace d.id
  unfolding MayAbsorbSelect MayAbsorbGroup MayAbsorbSet MayAbsorbOuter
  absorb-has d may (Base table) e = absurd (subst (λ (k : BoxKind). told.AbsorbsBy bs known k may.c) e may.absorbs)
  absorb-has d may Select e = (G2, (magic-is G2 (inr (inr (inl refl))), (0, (0, (d, record { no_first = refl; no_second = refl; at = found d may.in_d; ready = may; a_select = e })))))
  absorb-has d may (Group keys) e = (G3, (magic-is G3 (inr (inr (inr (inl refl)))), (0, (0, (d, record { no_first = refl; no_second = refl; at = found d may.in_d; ready = may; keys = keys; a_group = e })))))
  absorb-has d may (SetOp form types) e = (G4, (magic-is G4 (inr (inr (inr (inr (inl refl))))), (0, (0, (d, record { no_first = refl; no_second = refl; at = found d may.in_d; ready = may; form = form; types = types; a_set = e })))))
  absorb-has d may OuterJoin e = (G5, (magic-is G5 (inr (inr (inr (inr (inr (inl refl)))))), (0, (0, (d, record { no_first = refl; no_second = refl; at = found d may.in_d; ready = may; an_outer = e })))))

  pub magic-has : (b : Node) → told.MagicAt bs known b → HasPlace b.id
  magic-has b m = elim m [
    | inl x ↦ (let y = scalar-may b x.0 x.1 in (U2, (magic-is U2 (inl refl), (y.0, (0, y.1)))))
    | inr n ↦ elim n [
      | inl x ↦ (let y = feed-may b x.0 x.1 in (G1, (magic-is G1 (inr (inl refl)), (y.0, (0, y.1)))))
      | inr x ↦ absorb-has b x x.c.parts.kind refl
    ]
  ]
