-- G5 with an open right operand: names of the magic box's quantifier become those of a new one below it; the graph after it is well-formed, and what its boxes look up is told.
use Rattle.std.proofs.Common.{ℕ, suc, ◌==◌, ◌≡◌, ◌≤◌, ◌<◌, ◌+◌, ◌&&◌, ◌||◌, nat_lt, cond, not, Bool, true, false, List, [], ◌∷◌, ◌++◌, map, length, Option, None, refl, sym, ap, ap₂, subst, ◌∙◌, eqb-true, ◌⊎◌, inl, inr, arith}
use Rattle.std.specs.Prelude.{slice_get}
use Rattle.std.specs.List.{list_all, list_any}
use Rattle.std.proofs.lemmas.Bool.{and_from, and_parts, cases_Bool, eq-eqb, not-true, or_cases, or_left, or_right}
use Rattle.sql_value.specs.declared.order_key.SqlType.{SqlType}
use Rattle.qgm_core.specs.Boxes.{Ordered, QueryGraph, has_box, ids_in, ids_of, is_quant, overs_in, overs_of, owns, width}
use Rattle.qgm_core.specs.Edits.{range}
use Rattle.qgm_core.specs.Free.{named_by}
use Rattle.qgm_core.specs.Kinds.{is_S, is_magic, width_by}
use Rattle.list_laws.specs.Lists.{In, holds, times}
use Rattle.qgm_core.specs.declared.kinds.QuantKind.TheVariants.{F}
use Rattle.qgm_core.specs.declared.kinds.Role.{Role}
use Rattle.qgm_core.specs.declared.node.Node.{Node}
use Rattle.qgm_core.specs.declared.owned.OwnedQuant.{OwnedQuant}
use Rattle.qgm_meaning.specs.Scope.{loose, put_node}
use Rattle.qgm_meaning.specs.Tags.{columns_from}
use Rattle.qgm_props.specs.Inferred.{Facts}
use Rattle.qgm_terms.specs.Substitution.{substituted, substituted_cond}
use Rattle.qgm_terms.specs.Terms.{Cond, Term}
use Rattle.qgm_wellformed.specs.Shapes.{is_scalar, is_scalar_in}
use Rattle.qgm_wellformed.specs.Types.{Lookup, cond_fits, is_known, joined_column, lookup_of, term_type}
use Rattle.qgm_wellformed.specs.WellFormed.{fault}
use Rattle.qgm_wellformed.proofs.Faults.{finds-none}
use Rattle.qgm_edit_laws.specs.Graph.{Sound}
use Rattle.qgm_edit_laws.specs.Placed.{place}
use Rattle.qgm_edit_laws.specs.Rebuilds.{HasForm, MadeIn, Rebuilds, StaysIn}
use Rattle.qgm_edit_laws.specs.Reforms.{types_at}
use Rattle.qgm_edit_laws.proofs.BoxForms.{scalar-column}
use Rattle.qgm_edit_laws.proofs.Edits.{length-map}
use Rattle.qgm_edit_laws.proofs.OneBox.{ordered-map, ranked}
use Rattle.qgm_edit_laws.proofs.OneUse.{map-map}
use Rattle.qgm_edit_laws.proofs.PutTypes.{all-put}
use Rattle.qgm_edit_laws.proofs.Ranks.{has-in, place-under, same-box}
use Rattle.qgm_edit_laws.proofs.Rebuilt.{looks-exact, one-quant, rebuilt, rebuilt-formed}
use Rattle.qgm_edit_laws.proofs.Scope.{loose-held, one-owner}
use Rattle.qgm_edit_laws.proofs.ShapedPut.{all-joined}
use Rattle.qgm_edit_laws.proofs.TypedKept.{found-under}
use Rattle.qgm_edit_laws.proofs.TypesBy.{found_by, via}
use Rattle.rule_magic.specs.AbsorbArms.{IsFreshSelect}
use Rattle.rule_magic.specs.AbsorbOuterJoin.{OuterAt, absorbed_arms, renamed_arms}
use Rattle.rule_magic.specs.Boxes.{arms_box, both_cond, both_term, later, pair_box, same_each}
use Rattle.rule_magic.specs.Places.{MayAbsorb}
use Rattle.rule_magic.specs.Region.{IsArm, IsRegion, RenamesBelow, RetypesBelow, is_below}
use Rattle.rule_magic.proofs.AbsorbArmsPlaced as base
use Rattle.rule_magic.proofs.AbsorbFacts as fed
use Rattle.rule_magic.proofs.AbsorbOpenSet.{and-none, looks_of, same-flat}
use Rattle.rule_magic.proofs.AbsorbOuterFacts as outer
use Rattle.rule_magic.proofs.AbsorbSelectFormed as one
use Rattle.rule_magic.proofs.AbsorbSelectFormed.{found-suc, map-append}
use Rattle.rule_magic.proofs.AbsorbShared.{IsRoleOver, plain-not-magic}
use Rattle.rule_magic.proofs.BehindColumns.{columns-typed}
use Rattle.rule_magic.proofs.FrontColumns.{front-columns, front-none, front-places, front-reads, front-unfolded, same-fits}
use Rattle.rule_magic.proofs.JoinedFormed.{nothing-more}
use Rattle.rule_magic.proofs.LedColumns as led
use Rattle.rule_magic.proofs.OuterFormed.{IsOuterOver, outer-form, outer-made, under-l, under-r}
use Rattle.rule_magic.proofs.PairFormed.{IsPair, pair-form, pair-made, width-pair}
use Rattle.rule_magic.proofs.Region.{arm-has-region, region-renames, region-stays}
use Rattle.rule_magic.proofs.RenamedFormed.{region-forms}
use Rattle.rule_magic.proofs.RenamedMade.{renamed-is-made}
use Rattle.qgm_core.proofs.KindTests.{f-is}
use Rattle.qgm_core.proofs.Reaching.{in-has, overs-held}
use Rattle.list_laws.proofs.Booleans.{clash}
use Rattle.list_laws.proofs.Membership.{any-from, any-in, eq-false-sym, eq-itself, in-map, map-in}

module _ (g : QueryGraph) (known : Facts) (d : Node) (may : MayAbsorb g.boxes known d) (l r1 : OwnedQuant) (x y : Node) (s u p : ℕ) (lr rr : Role) (up l1 l2 : List Node) (at : OuterAt g known d may l r1 x y up l1 l2) (new : IsFreshSelect g s u p) (opened : loose g.boxes y.id may.a.id ≡ true) where
  abbrev bs : List Node
  bs = g.boxes

  abbrev m : Node
  m = may.m

  abbrev c : Node
  c = may.c

  abbrev a : OwnedQuant
  a = may.a

  abbrev r : OwnedQuant
  r = may.r

  abbrev d' : Node
  d' = arms_box d.id may.a.id l.id (width may.m) (width x) r1.id (width y) may.c (range l.id F may.c.id ∷ (range r1.id F s ∷ []))

  abbrev s' : Node
  s' = pair_box s rr p may.m.id (width may.m) u y.id (width y)

  abbrev c' : Node
  c' = pair_box may.c.id lr may.a.id may.m.id (width may.m) may.r.id x.id (width x)

  abbrev before : List Node
  before = (absorbed_arms g known d may l r1 x y s u p lr rr up l1 l2).boxes

  abbrev below : ℕ → Bool
  below b = is_below g.boxes r1.over b

  abbrev put : Node → Node
  put n = put_node may.a.id (columns_from p 1 (width may.m)) n

  abbrev ren : Node → Node
  ren n = cond (is_below g.boxes r1.over n.id) (put_node may.a.id (columns_from p 1 (width may.m)) n) n

  abbrev hs : List Node
  hs = map (λ (n : Node). cond (is_below g.boxes r1.over n.id) (put_node may.a.id (columns_from p 1 (width may.m)) n) n) (absorbed_arms g known d may l r1 x y s u p lr rr up l1 l2).boxes

  abbrev kept : ℕ → Bool
  kept b = not (b == c.id)

  abbrev look : ℕ → ℕ → Bool
  look b q = looks_of g.boxes may.c.id r1.over may.a.id p b q

  w : Sound g.boxes g.root
  w = outer.w g known d may l r1 x y up l1 l2 at

  in-r1 : In r1 c.quants
  in-r1 = outer.in-r1 g known d may l r1 x y up l1 l2 at

  in-l : In l c.quants
  in-l = outer.in-l g known d may l r1 x y up l1 l2 at

  in-a : In a d.quants
  in-a = outer.in-a g known d may l r1 x y up l1 l2 at

  x-not-c : (x.id == c.id) ≡ false
  x-not-c = outer.x-not-c g known d may l r1 x y up l1 l2 at

  elsewhere : (n : Node) (z : OwnedQuant) → In n g.boxes → (n.id == d.id) ≡ false → In z n.quants → (z.over == c.id) ≡ false
  elsewhere = outer.elsewhere g known d may l r1 x y up l1 l2 at

  s-not : (n : Node) → In n g.boxes → (s == n.id) ≡ false
  s-not = base.s-not g known d may l r1 x y s u p lr rr up l1 l2 at new

  alone-y : (q : ℕ) → loose g.boxes y.id q ≡ true → q ≡ a.id
  alone-y = outer.arm-alone g known d may l r1 x y up l1 l2 at r1 y in-r1 at.over_y

  alone-x : (q : ℕ) → loose g.boxes x.id q ≡ true → q ≡ a.id
  alone-x = outer.arm-alone g known d may l r1 x y up l1 l2 at l x in-l at.over_x

  closed-m : (q : ℕ) → loose g.boxes m.id q ≡ false
  closed-m = fed.closed-m g at.once at.formed known at.tells d may

  arm : IsArm g.boxes c r1 a.id
  arm = record {
    within = may.in_c;
    owned = in-r1;
    opened = subst (λ b. loose g.boxes b a.id ≡ true) (sym at.over_y) opened;
    alone = λ q h. alone-y q (subst (λ b. loose g.boxes b q ≡ true) at.over_y h);
    owner = d;
    in_owner = may.in_d;
    owns_a = any-from (is_quant a.id) a d.quants in-a (eq-itself a.id);
  }

  pub region : IsRegion g.boxes r1 a.id
  region = arm-has-region g.boxes g.root c r1 a.id w arm

  -- ---- what is below

  c-higher : place g.boxes c.id < place g.boxes r1.over
  c-higher = place-under g.boxes c r1 w.ordered may.in_c in-r1

  pub not-below-c : is_below g.boxes r1.over c.id ≡ false
  not-below-c = region.above c.id c-higher

  pub not-below-d : is_below g.boxes r1.over d.id ≡ false
  not-below-d = region.above d.id (
      let k : place g.boxes d.id < place g.boxes c.id = subst (λ i. place g.boxes d.id < place g.boxes i) (sym may.over_c) (place-under g.boxes d r w.ordered may.in_d (outer.in-r g known d may l r1 x y up l1 l2 at)) in
      let h = c-higher in omega (arith, k, h))

  below-c : (b : ℕ) → is_below g.boxes r1.over b ≡ true → (b == c.id) ≡ false
  below-c b t = elim (cases_Bool (b == c.id)) [ inr f ↦ f | inl e ↦ absurd (clash (below b) t (subst (λ b. below b ≡ false) (sym (eqb-true b c.id e)) not-below-c)) ]

  below-d : (n : Node) → is_below g.boxes r1.over n.id ≡ true → (n.id == d.id) ≡ false
  below-d n t = elim (cases_Bool (n.id == d.id)) [ inr f ↦ f | inl e ↦ absurd (clash (below n.id) t (subst (λ b. below b ≡ false) (sym (eqb-true n.id d.id e)) not-below-d)) ]

  pub not-below-s : is_below g.boxes r1.over s ≡ false
  not-below-s = elim (cases_Bool (below s)) [ inr f ↦ f | inl t ↦ absurd (clash (has_box g.boxes s) (region.there s t) new.s_new) ]

  -- ---- renamed boxes

  ren-below : (n : Node) → is_below g.boxes r1.over n.id ≡ true → ren n ≡ put n
  ren-below n t = ap (λ v. cond v (put n) n) t

  pub ren-beside : (n : Node) → is_below g.boxes r1.over n.id ≡ false → ren n ≡ n
  ren-beside n f = ap (λ v. cond v (put n) n) f

  pub ren-by : {X : Type 0} (f : Node → X) → ((n : Node) → f (put_node may.a.id (columns_from p 1 (width may.m)) n) ≡ f n) → (n : Node) → f (cond (is_below g.boxes r1.over n.id) (put_node may.a.id (columns_from p 1 (width may.m)) n) n) ≡ f n
  ren-by f h n = elim (cases_Bool (below n.id)) [ inl t ↦ ap f (ren-below n t) ∙ h n | inr t ↦ ap f (ren-beside n t) ]

  pub ren-id : (n : Node) → (ren n).id ≡ n.id
  ren-id = ren-by (λ (n : Node). n.id) (λ n. refl)

  pub ren-quants : (n : Node) → (ren n).quants ≡ n.quants
  ren-quants = ren-by (λ (n : Node). n.quants) (λ n. refl)

  wide-put : (n : Node) → width (put_node may.a.id (columns_from p 1 (width may.m)) n) ≡ width n
  wide-put n = ap (width_by n.parts.kind) (length-map (substituted may.a.id (columns_from p 1 (width may.m))) n.parts.head)

  ren-width : (n : Node) → width (ren n) ≡ width n
  ren-width = ren-by width wide-put

  pub in-ren : (n : Node) → In n before → In (ren n) hs
  in-ren n i = map-in ren n before i

  beside-in : (n : Node) → is_below g.boxes r1.over n.id ≡ false → In n before → In n hs
  beside-in n f i = subst (λ (z : Node). In z hs) (ren-beside n f) (in-ren n i)

  pub in-d' : In d' hs
  in-d' = beside-in d' not-below-d (base.in-d' g known d may l r1 x y s u p lr rr up l1 l2 at new)

  pub in-s' : In s' hs
  in-s' = beside-in s' not-below-s (base.in-s' g known d may l r1 x y s u p lr rr up l1 l2 at new)

  pub in-c' : In c' hs
  in-c' = beside-in c' not-below-c (base.in-c' g known d may l r1 x y s u p lr rr up l1 l2 at new)

  before-ordered : Ordered before
  before-ordered = base.ordered g known d may l r1 x y s u p lr rr up l1 l2 at new

  pub ordered : Ordered hs
  ordered = ordered-map ren ren-id before before-ordered (λ n z i j. ranked before before-ordered n z i (subst (λ (k : List OwnedQuant). In z k) (ren-quants n) j))

  once-after : (i : ℕ) → times i (ids_in hs) ≤ 1
  once-after i = subst (λ z. times i z ≤ 1) (sym (same-flat ids_of ren (λ n. ap (map (λ (q : OwnedQuant). q.id)) (ren-quants n)) before)) (base.once-after g known d may l r1 x y s u p lr rr up l1 l2 at new i)

  overs-after : (b : ℕ) → (s == b) ≡ false → (m.id == b) ≡ false → times b (overs_in hs) ≡ times b (overs_in g.boxes)
  overs-after b f e = ap (times b) (same-flat overs_of ren (λ n. ap (map (λ (q : OwnedQuant). q.over)) (ren-quants n)) before) ∙ base.overs-after g known d may l r1 x y s u p lr rr up l1 l2 at new b f e

  -- ---- what is looked up

  look-beside : (b q : ℕ) → (b == c.id) ≡ false → is_below g.boxes r1.over b ≡ false → look b q ≡ loose g.boxes b q
  look-beside b q f e = ap₂ (λ v z. not v && cond z (((q == p) && loose g.boxes b a.id) || (not (q == a.id) && loose g.boxes b q)) (loose g.boxes b q)) f e

  look-below : (b q : ℕ) → is_below g.boxes r1.over b ≡ true → look b q ≡ (((q == p) && loose g.boxes b a.id) || (not (q == a.id) && loose g.boxes b q))
  look-below b q t = ap₂ (λ v z. not v && cond z (((q == p) && loose g.boxes b a.id) || (not (q == a.id) && loose g.boxes b q)) (loose g.boxes b q)) (below-c b t) t

  pub look-closed : (b : ℕ) → ((q : ℕ) → loose g.boxes b q ≡ false) → (q : ℕ) → look b q ≡ false
  look-closed b f q =
      ap₂ (λ v z. not (b == c.id) && cond (below b) (((q == p) && v) || (not (q == a.id) && z)) z) (f a.id) (f q)
      ∙ ap₂ (λ v z. not (b == c.id) && cond (below b) (v || z) false) (and-none (q == p)) (and-none (not (q == a.id)))
      ∙ elim (cases_Bool (below b)) [ inl t ↦ ap (λ v. not (b == c.id) && cond v false false) t ∙ and-none (not (b == c.id)) | inr t ↦ ap (λ v. not (b == c.id) && cond v false false) t ∙ and-none (not (b == c.id)) ]

  pub looks-c : (q : ℕ) → look c.id q ≡ false
  looks-c q = ap (λ v. not v && cond (below c.id) (((q == p) && loose g.boxes c.id a.id) || (not (q == a.id) && loose g.boxes c.id q)) (loose g.boxes c.id q)) (eq-itself c.id)

  pub looks-d : (q : ℕ) → look d.id q ≡ false
  looks-d = look-closed d.id (one.closed-d g at.once at.formed known at.tells d may)

  looks-m : (q : ℕ) → look m.id q ≡ false
  looks-m = look-closed m.id closed-m

  pub looks-s : (q : ℕ) → look s q ≡ false
  looks-s = look-closed s (λ q. elim (cases_Bool (loose g.boxes s q)) [ inr f ↦ f | inl h ↦ absurd (clash (has_box g.boxes s) (loose-held g.boxes s q h) new.s_new) ])

  -- ---- boxes below

  p-new : (z : OwnedQuant) (n : Node) → In n g.boxes → In z n.quants → (z.id == p) ≡ false
  p-new = base.new-id g known d may l r1 x y s u p lr rr up l1 l2 at new p new.p_new

  one-box : (n : Node) → In n hs → n.id ≡ m.id → width n ≡ width m
  one-box n i e =
      let v = in-map ren n before i in
      let k : v.0.id ≡ m.id = sym (ren-id v.0) ∙ ap (λ (z : Node). z.id) v.1.1 ∙ e in
      ap width (sym v.1.1) ∙ ren-width v.0 ∙ ap width (same-box before v.0 m before-ordered v.1.0 (base.in-m g known d may l r1 x y s u p lr rr up l1 l2 at new) k)

  below-renamed : RenamesBelow g.boxes hs kept look r1.over a.id p (width m)
  below-renamed = record {
    ordered = ordered;
    once = once-after;
    new = elim (cases_Bool (list_any (owns p) g.boxes)) [
      | inr f ↦ f
      | inl h ↦ absurd (let n = any-in (owns p) g.boxes h in let z = any-in (is_quant p) n.0.quants n.1.1 in clash (z.0.id == p) z.1.1 (p-new z.0 n.0 n.1.0 z.1.0))
    ];
    stand = λ n i t. subst (λ (z : Node). In z hs) (ren-below n t) (in-ren n (base.to-hs g known d may l r1 x y s u p lr rr up l1 l2 at new n i (below-d n t) (below-c n.id t)));
    looks = λ b q t. look-below b q t;
    keeps = λ b t. ap not (below-c b t);
    places = λ n k i h. w.fits n i a.id k h d a m may.in_d in-a refl may.in_m may.over_m;
    fits_p = λ k lo hi n z v i j e iv ev. (
        let same : z ≡ range p F m.id = one-quant hs once-after z (range p F m.id) (n, (i, j)) (s', (in-s', inl refl)) e in
        (lo, subst (λ b. k ≤ b) (sym (one-box v iv (ev ∙ ap (λ (q : OwnedQuant). q.over) same))) hi));
  }

  below-stays : (n : Node) → In n g.boxes → is_below g.boxes r1.over n.id ≡ true → loose g.boxes n.id a.id ≡ false → (put n ≡ n) × StaysIn g.boxes hs kept look n
  below-stays = region-stays g.boxes hs g.root c r1 a.id p (width m) kept look w arm below-renamed

  below-made : (n : Node) → In n g.boxes → is_below g.boxes r1.over n.id ≡ true → loose g.boxes n.id a.id ≡ true → MadeIn hs look (put n)
  below-made n i t h = renamed-is-made g.boxes hs g.root look a.id p (width m) n w (region-renames g.boxes hs g.root c r1 a.id p (width m) kept look w arm below-renamed n i t h) (wide-put n)

  ren-still : (n : Node) → In n g.boxes → (is_below g.boxes r1.over n.id ≡ true → loose g.boxes n.id a.id ≡ false) → ren n ≡ n
  ren-still n i f = elim (cases_Bool (below n.id)) [ inl t ↦ ren-below n t ∙ (below-stays n i t (f t)).0 | inr t ↦ ren-beside n t ]

  pub x-closed-below : is_below g.boxes r1.over x.id ≡ true → (q : ℕ) → loose g.boxes x.id q ≡ false
  x-closed-below t q = elim (region.beside c l may.in_c not-below-c in-l (subst (λ b. below b ≡ true) (sym at.over_x) t)) [
    | inl e ↦ absurd (clash (l.id == r1.id) (eq-eqb l.id r1.id (ap (λ (z : OwnedQuant). z.id) e)) (outer.l-not-r1 g known d may l r1 x y up l1 l2 at))
    | inr f ↦ subst (λ b. loose g.boxes b q ≡ false) at.over_x (f q)
  ]

  in-m : In m hs
  in-m = subst (λ (z : Node). In z hs) (ren-still m may.in_m (λ t. closed-m a.id)) (in-ren m (base.in-m g known d may l r1 x y s u p lr rr up l1 l2 at new))

  in-x : In x hs
  in-x = subst (λ (z : Node). In z hs) (ren-still x at.in_x (λ t. x-closed-below t a.id)) (in-ren x (base.in-x g known d may l r1 x y s u p lr rr up l1 l2 at new))

  pub below-y : is_below g.boxes r1.over y.id ≡ true
  below-y = subst (λ b. is_below g.boxes r1.over b ≡ true) at.over_y region.top

  -- ---- boxes that stay

  pub beside-closed : (n : Node) (z : OwnedQuant) → In n g.boxes → (n.id == c.id) ≡ false → is_below g.boxes r1.over n.id ≡ false → In z n.quants → is_below g.boxes r1.over z.over ≡ true → (q : ℕ) → loose g.boxes z.over q ≡ false
  beside-closed n z i nc out j t = elim (region.beside n z i out j t) [
    | inr k ↦ k
    | inl e ↦ absurd (clash (n.id == c.id) (eq-eqb n.id c.id (ap (λ (z : Node). z.id) (one-owner g.boxes g.root w r1.id n c i may.in_c (any-from (is_quant r1.id) z n.quants j (eq-eqb z.id r1.id (ap (λ (q : OwnedQuant). q.id) e))) (any-from (is_quant r1.id) r1 c.quants in-r1 (eq-itself r1.id))))) nc)
  ]

  beside-stays : (n : Node) → In n g.boxes → (n.id == d.id) ≡ false → (n.id == c.id) ≡ false → is_below g.boxes r1.over n.id ≡ false → StaysIn g.boxes hs kept look n
  beside-stays n i nd nc out = record {
    within = i;
    number = ap not nc;
    same = λ q. look-beside n.id q nc out;
    over = λ z j. (
        let f = elsewhere n z i nd j in
        (ap not f, λ q. elim (cases_Bool (below z.over)) [ inr t ↦ look-beside z.over q f t | inl t ↦ (let k = beside-closed n z i nc out j t in look-closed z.over k q ∙ sym (k q)) ]));
    named = λ z h v. elim (cases_Bool (v.0.id == d.id)) [
      | inl e ↦ (
          let same : v.0 ≡ d = same-box g.boxes v.0 d w.ordered v.1.0 may.in_d (eqb-true v.0.id d.id e) in
          elim (one.of-d g at.once at.formed known at.tells d may z (subst (λ (k : Node). In z k.quants) same v.1.1)) [
            | inl k ↦ (ap not (ap (λ (k : OwnedQuant). k.over == c.id) k ∙ one.a-elsewhere g at.once at.formed known at.tells d may up l1 l2 at.before), (range a.id F m.id, ((c', (in-c', inl refl)), (ap (λ (k : OwnedQuant). k.id) (sym k), may.over_m ∙ ap (λ (k : OwnedQuant). k.over) (sym k)))))
            | inr k ↦ absurd (one.r-unnamed g at.once at.formed known at.tells d may n i nd (subst (λ (k : OwnedQuant). holds k.id (named_by n) ≡ true) k h))
          ])
      | inr f ↦ elim (cases_Bool (v.0.id == c.id)) [
        | inl e ↦ absurd (
            let same : v.0 ≡ c = same-box g.boxes v.0 c w.ordered v.1.0 may.in_c (eqb-true v.0.id c.id e) in
            outer.arm-unnamed g known d may l r1 x y up l1 l2 at z (subst (λ (k : Node). In z k.quants) same v.1.1) n i nc h)
        | inr k ↦ (ap not (elsewhere v.0 z v.1.0 f v.1.1), (z, ((ren v.0, (in-ren v.0 (base.to-hs g known d may l r1 x y s u p lr rr up l1 l2 at new v.0 v.1.0 f k), subst (λ (k : List OwnedQuant). In z k) (sym (ren-quants v.0)) v.1.1)), (refl, refl))))
      ]
    ];
  }

  -- ---- boxes that are made

  left : IsPair hs look c' m x a.id r.id
  left = record {
    ordered = ordered;
    once = once-after;
    in_n = in-c';
    in_m = in-m;
    in_x = in-x;
    apart = eq-false-sym r.id a.id (fed.apart g at.once at.formed known at.tells d may);
    closed = looks-m;
    alone = λ q h. elim (cases_Bool (below x.id)) [
      | inl t ↦ absurd (clash (look x.id q) h (look-closed x.id (x-closed-below t) q))
      | inr t ↦ alone-x q (sym (look-beside x.id q x-not-c t) ∙ h)
    ];
    nothing = looks-c;
  }

  abbrev s'' : Node
  s'' = pair_box s rr p may.m.id (width may.m) u y.id (width (put_node may.a.id (columns_from p 1 (width may.m)) y))

  same-s : s'' ≡ s'
  same-s = ap (λ k. pair_box s rr p may.m.id (width may.m) u y.id k) (wide-put y)

  in-y : In (put y) hs
  in-y = below-renamed.stand y at.in_y below-y

  right : IsPair hs look s'' m (put y) p u
  right = record {
    ordered = ordered;
    once = once-after;
    in_n = subst (λ (z : Node). In z hs) (sym same-s) in-s';
    in_m = in-m;
    in_x = in-y;
    apart = eq-false-sym u p new.apart;
    closed = looks-m;
    alone = λ q h. elim (or_cases ((q == p) && loose g.boxes y.id a.id) (not (q == a.id) && loose g.boxes y.id q) (sym (look-below y.id q below-y) ∙ h)) [
      | inl z ↦ eqb-true q p (and_parts (q == p) (loose g.boxes y.id a.id) z).0
      | inr z ↦ (let k = and_parts (not (q == a.id)) (loose g.boxes y.id q) z in absurd (clash (q == a.id) (eq-eqb q a.id (alone-y q k.1)) (not-true (q == a.id) k.0)))
    ];
    nothing = looks-s;
  }

  wide-c' : width c' ≡ width m + width x
  wide-c' = width-pair hs look c.id a.id r.id lr m x left

  wide-s' : width s' ≡ width m + width y
  wide-s' = ap width (sym same-s) ∙ width-pair hs look s p u rr m (put y) right ∙ ap (λ z. width m + z) (wide-put y)

  leads : led.MayLead a.id l.id r1.id (width m) (width x) (width y) c
  leads = outer.leads g known d may l r1 x y up l1 l2 at

  abbrev moved : Node
  moved = led.both a.id l.id r1.id (width may.m) (width x) (width y) may.c leads

  heads : d'.parts.head ≡ columns_from l.id 1 (width m) ++ moved.parts.head
  heads = ap (λ (z : List Term). columns_from l.id 1 (width m) ++ z) (sym (
      ap (map (substituted r1.id (later r1.id (width m) (width y)))) (map-map (substituted a.id (columns_from l.id 1 (width m))) (substituted l.id (later l.id (width m) (width x))) c.parts.head)
      ∙ map-map (substituted r1.id (later r1.id (width m) (width y))) (λ z. substituted a.id (columns_from l.id 1 (width m)) (substituted l.id (later l.id (width m) (width x)) z)) c.parts.head))

  conds : d'.parts.conds.items ≡ moved.parts.conds.items ++ same_each l.id r1.id 1 (width m)
  conds = ap (λ (z : List Cond). z ++ same_each l.id r1.id 1 (width m)) (sym (
      ap (map (substituted_cond r1.id (later r1.id (width m) (width y)))) (map-map (substituted_cond a.id (columns_from l.id 1 (width m))) (substituted_cond l.id (later l.id (width m) (width x))) c.parts.conds.items)
      ∙ map-map (substituted_cond r1.id (later r1.id (width m) (width y))) (λ z. substituted_cond a.id (columns_from l.id 1 (width m)) (substituted_cond l.id (later l.id (width m) (width x)) z)) c.parts.conds.items))

  joined : IsOuterOver hs look d' c' s' l.id r1.id
  joined = record {
    ordered = ordered;
    once = once-after;
    in_n = in-d';
    in_left = in-c';
    in_right = in-s';
    closed_left = looks-c;
    closed_right = looks-s;
    nothing = looks-d;
    an_outer = at.an_outer;
    quants = refl;
    reads = front-reads d' moved l.id r1.id (width m) (width m) heads conds (led.read-both a.id l.id r1.id (width m) (width x) (width y) c leads);
    places = front-places d' moved l.id r1.id (width m) (width m) heads conds (width c') (width s') (let e = wide-c' in omega (arith, e)) (let e = wide-c' in omega (arith, e)) (let e = wide-s' in omega (arith, e))
        (λ q k h. elim (led.read-at-both a.id l.id r1.id (width m) (width x) (width y) c leads q k h) [ inl z ↦ inl (z.0, (z.1.0, subst (λ i. k ≤ i) (sym wide-c') z.1.1)) | inr z ↦ inr (z.0, (z.1.0, subst (λ i. k ≤ i) (sym wide-s') z.1.1)) ]);
    none = front-none d' moved l.id r1.id (width m) (width m) heads conds (led.none-both a.id l.id r1.id (width m) (width x) (width y) c leads);
  }

  -- ---- rebuilt

  abbrev fresh : ℕ → Bool
  fresh b = (b == d.id) || ((b == s) || ((b == c.id) || (is_below g.boxes r1.over b && loose g.boxes b a.id)))

  -- a box after it is one of the three, or one beside, or one below, which stays or is renamed
  pub each-in : (n : Node) → In n hs → (n ≡ d') ⊎ ((n ≡ s') ⊎ ((n ≡ c') ⊎ ((v : Node) × (In v g.boxes × (((v.id == d.id) ≡ false) × (((v.id == c.id) ≡ false) × (n ≡ ren v)))))))
  each-in n i =
      let v = in-map ren n before i in
      elim (base.each-in g known d may l r1 x y s u p lr rr up l1 l2 at new v.0 v.1.0) [
        | inl e ↦ inl (sym v.1.1 ∙ ap ren e ∙ ren-beside d' not-below-d)
        | inr e ↦ elim e [
          | inl e ↦ inr (inl (sym v.1.1 ∙ ap ren e ∙ ren-beside s' not-below-s))
          | inr e ↦ elim e [ inl e ↦ inr (inr (inl (sym v.1.1 ∙ ap ren e ∙ ren-beside c' not-below-c))) | inr e ↦ inr (inr (inr (v.0, (e.0, (e.1.0, (e.1.1, sym v.1.1)))))) ]
        ]
      ]

  old-fresh : (v : Node) → In v g.boxes → (v.id == d.id) ≡ false → (v.id == c.id) ≡ false → fresh v.id ≡ (is_below g.boxes r1.over v.id && loose g.boxes v.id a.id)
  old-fresh v i nd nc = ap₂ (λ j k. j || (k || ((v.id == c.id) || (is_below g.boxes r1.over v.id && loose g.boxes v.id a.id)))) nd (eq-false-sym s v.id (s-not v i)) ∙ ap (λ k. k || (is_below g.boxes r1.over v.id && loose g.boxes v.id a.id)) nc

  renamed-box : (n : Node) (z : (v : Node) × (In v g.boxes × (((v.id == d.id) ≡ false) × (((v.id == c.id) ≡ false) × (n ≡ ren v))))) → fresh n.id ≡ true → (is_below g.boxes r1.over z.0.id ≡ true) × (loose g.boxes z.0.id a.id ≡ true)
  renamed-box n z h = and_parts (below z.0.id) (loose g.boxes z.0.id a.id) (sym (old-fresh z.0 z.1.0 z.1.1.0 z.1.1.1.0) ∙ subst (λ b. fresh b ≡ true) (ap (λ (z : Node). z.id) z.1.1.1.1 ∙ ren-id z.0) h)

  pub rebuilds : Rebuilds g.boxes hs g.root kept look fresh
  rebuilds = record {
    ordered = ordered;
    rooted = (let n = has-in g.root g.boxes w.rooted in subst (λ b. has_box hs b ≡ true) n.1.1 (held n.0 n.1.0));
    top = (let n = has-in g.root g.boxes w.rooted in overs-after g.root (subst (λ b. (s == b) ≡ false) n.1.1 (s-not n.0 n.1.0)) (outer.root-not-m g known d may l r1 x y up l1 l2 at) ∙ w.top);
    once = once-after;
    wide = λ v n i j k e. alike width (λ z. ren-width z) (base.width-d g known d may l r1 x y s u p lr rr up l1 l2 at new) v n i j k e;
    magic = λ v n i j k e. alike (λ (z : Node). is_magic z.parts.role) (ren-by (λ (z : Node). is_magic z.parts.role) (λ z. refl)) (plain-not-magic c.parts.role (outer.plain-c g known d may l r1 x y up l1 l2 at) ∙ sym (ap is_magic may.is_fed)) v n i j k e;
    held = λ v i k. held v i;
    used = λ b i h. (
        let k = was b i h in
        let n = has-in b g.boxes (loose-held g.boxes b k.0 k.1) in
        overs-after b (subst (λ z. (s == z) ≡ false) n.1.1 (s-not n.0 n.1.0)) (outer.open-not-m g known d may l r1 x y up l1 l2 at b k.0 k.1) ∙ w.used b k.0 k.1);
    each = λ n i. elim (each-in n i) [
      | inl z ↦ inr (subst (λ b. fresh b ≡ true) (ap (λ (z : Node). z.id) (sym z)) fresh-d)
      | inr z ↦ elim z [
        | inl z ↦ inr (subst (λ b. fresh b ≡ true) (ap (λ (z : Node). z.id) (sym z)) fresh-s)
        | inr z ↦ elim z [
          | inl z ↦ inr (subst (λ b. fresh b ≡ true) (ap (λ (z : Node). z.id) (sym z)) fresh-c)
          | inr z ↦ (
              let v = z.0 in
              elim (cases_Bool (below v.id)) [
                | inr t ↦ inl (subst (StaysIn g.boxes hs kept look) (sym (z.1.1.1.1 ∙ ren-beside v t)) (beside-stays v z.1.0 z.1.1.0 z.1.1.1.0 t))
                | inl t ↦ elim (cases_Bool (loose g.boxes v.id a.id)) [
                  | inr f ↦ (let k = below-stays v z.1.0 t f in inl (subst (StaysIn g.boxes hs kept look) (sym (z.1.1.1.1 ∙ ren-below v t ∙ k.0)) k.1))
                  | inl f ↦ inr (subst (λ b. fresh b ≡ true) (sym (ap (λ (z : Node). z.id) z.1.1.1.1 ∙ ren-id v)) (old-fresh v z.1.0 z.1.1.0 z.1.1.1.0 ∙ and_from (below v.id) (loose g.boxes v.id a.id) t f))
                ]
              ])
        ]
      ]
    ];
    made = λ n i h. elim (each-in n i) [
      | inl z ↦ subst (MadeIn hs look) (sym z) (outer-made hs look d' c' s' l.id r1.id joined)
      | inr z ↦ elim z [
        | inl z ↦ subst (MadeIn hs look) (same-s ∙ sym z) (pair-made hs look s p u rr m (put y) right)
        | inr z ↦ elim z [
          | inl z ↦ subst (MadeIn hs look) (sym z) (pair-made hs look c.id a.id r.id lr m x left)
          | inr z ↦ (let k = renamed-box n z h in subst (MadeIn hs look) (sym (z.1.1.1.1 ∙ ren-below z.0 k.0)) (below-made z.0 z.1.0 k.0 k.1))
        ]
      ]
    ];
  }
    where
      fresh-d : fresh d.id ≡ true
      fresh-d = or_left (d.id == d.id) _ (eq-itself d.id)

      fresh-s : fresh s ≡ true
      fresh-s = or_right (s == d.id) _ (or_left (s == s) _ (eq-itself s))

      fresh-c : fresh c.id ≡ true
      fresh-c = or_right (c.id == d.id) _ (or_right (c.id == s) _ (or_left (c.id == c.id) _ (eq-itself c.id)))

      held : (v : Node) → In v g.boxes → has_box hs v.id ≡ true
      held v i = elim (cases_Bool (v.id == d.id)) [
        | inl e ↦ subst (λ b. has_box hs b ≡ true) (sym (eqb-true v.id d.id e)) (in-has d' hs in-d')
        | inr f ↦ elim (cases_Bool (v.id == c.id)) [
          | inl e ↦ subst (λ b. has_box hs b ≡ true) (sym (eqb-true v.id c.id e)) (in-has c' hs in-c')
          | inr k ↦ subst (λ b. has_box hs b ≡ true) (ren-id v) (in-has (ren v) hs (in-ren v (base.to-hs g known d may l r1 x y s u p lr rr up l1 l2 at new v i f k)))
        ]
      ]

      was : (b q : ℕ) → look b q ≡ true → (i : ℕ) × (loose g.boxes b i ≡ true)
      was b q h = elim (cases_Bool (below b)) [
        | inl t ↦ elim (or_cases ((q == p) && loose g.boxes b a.id) (not (q == a.id) && loose g.boxes b q) (sym (look-below b q t) ∙ h)) [
          | inl z ↦ (a.id, (and_parts (q == p) (loose g.boxes b a.id) z).1)
          | inr z ↦ (q, (and_parts (not (q == a.id)) (loose g.boxes b q) z).1)
        ]
        | inr t ↦ (q, (let e = and_parts (not (b == c.id)) (cond (below b) (((q == p) && loose g.boxes b a.id) || (not (q == a.id) && loose g.boxes b q)) (loose g.boxes b q)) h in subst (λ v. cond v (((q == p) && loose g.boxes b a.id) || (not (q == a.id) && loose g.boxes b q)) (loose g.boxes b q) ≡ true) t e.1))
      ]

      alike : {X : Type 0} (f : Node → X) → ((n : Node) → f (cond (is_below g.boxes r1.over n.id) (put_node may.a.id (columns_from p 1 (width may.m)) n) n) ≡ f n) → f d' ≡ f d → (v n : Node) → In v g.boxes → In n hs → kept v.id ≡ true → v.id ≡ n.id → f n ≡ f v
      alike f h same v n i j k e =
          let z = in-map ren n before j in
          ap f (sym z.1.1) ∙ h z.0 ∙ base.kept-alike g known d may l r1 x y s u p lr rr up l1 l2 at new f same v z.0 i z.1.0 k (e ∙ ap (λ (z : Node). z.id) (sym z.1.1) ∙ ren-id z.0)

  pub sound-after : Sound hs g.root
  sound-after = rebuilt g.boxes hs g.root kept look fresh w rebuilds

  pub looks-after : (b i : ℕ) → has_box hs b ≡ true → loose hs b i ≡ look b i
  looks-after = looks-exact g.boxes hs g.root kept look fresh w rebuilds

  -- ---- types

  abbrev M : List (Option SqlType)
  M = types_at g.boxes m.id

  abbrev X : List (Option SqlType)
  X = types_at g.boxes x.id

  abbrev Y : List (Option SqlType)
  Y = types_at g.boxes y.id

  abbrev L : Lookup
  L = lookup_of g.boxes

  abbrev T : ℕ → List (Option SqlType)
  T b = cond (b == c.id) (types_at g.boxes m.id ++ types_at g.boxes x.id) (cond (b == s) (types_at g.boxes m.id ++ types_at g.boxes y.id) (types_at g.boxes b))

  T-c : T c.id ≡ M ++ X
  T-c = ap (λ z. cond z (M ++ X) (cond (c.id == s) (M ++ Y) (types_at g.boxes c.id))) (eq-itself c.id)

  T-s : T s ≡ M ++ Y
  T-s = ap₂ (λ v z. cond v (M ++ X) (cond z (M ++ Y) (types_at g.boxes s))) (s-not c may.in_c) (eq-itself s)

  T-other : (b : ℕ) → (b == c.id) ≡ false → (b == s) ≡ false → T b ≡ types_at g.boxes b
  T-other b f k = ap₂ (λ v z. cond v (M ++ X) (cond z (M ++ Y) (types_at g.boxes b))) f k

  T-old : (n : Node) → In n g.boxes → (n.id == c.id) ≡ false → T n.id ≡ types_at g.boxes n.id
  T-old n i f = T-other n.id f (eq-false-sym s n.id (s-not n i))

  long : (n : Node) → In n g.boxes → length (types_at g.boxes n.id) ≡ width n
  long = outer.long g known d may l r1 x y up l1 l2 at

  all-known : (n : Node) → In n g.boxes → list_all is_known (types_at g.boxes n.id) ≡ true
  all-known = outer.all-known g known d may l r1 x y up l1 l2 at

  T-m : T m.id ≡ M
  T-m = T-old m may.in_m (outer.m-not-c g known d may l r1 x y up l1 l2 at)

  T-x : T x.id ≡ X
  T-x = T-old x at.in_x x-not-c

  T-y : T y.id ≡ Y
  T-y = T-old y at.in_y (outer.y-not-c g known d may l r1 x y up l1 l2 at)

  T-d : T d.id ≡ types_at g.boxes d.id
  T-d = T-old d may.in_d (outer.d-not-c g known d may l r1 x y up l1 l2 at)

  -- ---- who ranges over them

  not-two : (z : OwnedQuant) (i b j k : ℕ) → In z (range i F b ∷ (range j F k ∷ [])) → is_S z.kind ≡ true → ⊥
  not-two z i b j k v h = elim v [
    | inl e ↦ (let t : is_S F ≡ true = subst (λ (z : OwnedQuant). is_S z.kind ≡ true) (sym e) h in let o : ⊥ = cc in o)
    | inr v ↦ elim v [ inl e ↦ (let t : is_S F ≡ true = subst (λ (z : OwnedQuant). is_S z.kind ≡ true) (sym e) h in let o : ⊥ = cc in o) | inr v ↦ elim v [ ] ]
  ]

  scalar-old : (b : ℕ) → is_scalar hs b ≡ true → (n : Node) × ((z : OwnedQuant) × ((In n g.boxes) × (((n.id == d.id) ≡ false) × (In z n.quants × ((is_S z.kind ≡ true) × (z.over ≡ b))))))
  scalar-old b h =
      let n = any-in (λ (n : Node). is_scalar_in n.quants b) hs h in
      let z = any-in (λ (z : OwnedQuant). (z.over == b) && is_S z.kind) n.0.quants n.1.1 in
      let k = and_parts (z.0.over == b) (is_S z.0.kind) z.1.1 in
      elim (each-in n.0 n.1.0) [
        | inl e ↦ absurd (not-two z.0 l.id c.id r1.id s (subst (λ (n : Node). In z.0 n.quants) e z.1.0) k.1)
        | inr e ↦ elim e [
          | inl e ↦ absurd (not-two z.0 p m.id u y.id (subst (λ (n : Node). In z.0 n.quants) e z.1.0) k.1)
          | inr e ↦ elim e [
            | inl e ↦ absurd (not-two z.0 a.id m.id r.id x.id (subst (λ (n : Node). In z.0 n.quants) e z.1.0) k.1)
            | inr e ↦ (e.0, (z.0, (e.1.0, (e.1.1.0, (subst (λ (v : List OwnedQuant). In z.0 v) (ap (λ (v : Node). v.quants) e.1.1.1.1 ∙ ren-quants e.0) z.1.0, (k.1, eqb-true z.0.over b k.0))))))
          ]
        ]
      ]

  scalar-c : is_scalar hs c.id ≡ true → ⊥
  scalar-c h = let n = scalar-old c.id h in clash (n.1.0.over == c.id) (eq-eqb n.1.0.over c.id n.1.1.1.1.1.1) (elsewhere n.0 n.1.0 n.1.1.0 n.1.1.1.0 n.1.1.1.1.0)

  scalar-s : is_scalar hs s ≡ true → ⊥
  scalar-s h = let n = scalar-old s h in clash (has_box g.boxes s) (subst (λ z. has_box g.boxes z ≡ true) n.1.1.1.1.1.1 (overs-held g.boxes n.0 n.1.0 w.ordered n.1.1.0 n.1.1.1.1.0)) new.s_new

  scalar-d : is_scalar hs d.id ≡ true → nat_lt 0 (width d') ≡ true
  scalar-d h =
      let n = scalar-old d.id h in
      subst (λ z. nat_lt 0 z ≡ true) (sym (base.width-d g known d may l r1 x y s u p lr rr up l1 l2 at new))
      (scalar-column g.boxes g.root (outer.ty g known d may l r1 x y up l1 l2 at) (outer.sh g known d may l r1 x y up l1 l2 at) n.0 d n.1.0 n.1.1.0 n.1.1.1.1.0 n.1.1.1.1.1.0 may.in_d (sym n.1.1.1.1.1.1))

  -- who ranges over a renamed box did before, by the same kind
  users : (n : Node) (z : OwnedQuant) → In n hs → In z n.quants → is_below g.boxes r1.over z.over ≡ true → loose g.boxes z.over a.id ≡ true → (v : Node) × ((t : OwnedQuant) × (In v g.boxes × (In t v.quants × ((t.over ≡ z.over) × (t.kind ≡ z.kind)))))
  users n z i j b h = elim (each-in n i) [
    | inl e ↦ absurd (elim (subst (λ (n : Node). In z n.quants) e j) [
      | inl k ↦ clash (below c.id) (subst (λ (z : OwnedQuant). is_below g.boxes r1.over z.over ≡ true) (sym k) b) not-below-c
      | inr k ↦ elim k [ inl k ↦ clash (below s) (subst (λ (z : OwnedQuant). is_below g.boxes r1.over z.over ≡ true) (sym k) b) not-below-s | inr k ↦ elim k [ ] ]
    ])
    | inr e ↦ elim e [
      | inl e ↦ elim (subst (λ (n : Node). In z n.quants) e j) [
        | inl k ↦ absurd (clash (loose g.boxes m.id a.id) (subst (λ (z : OwnedQuant). loose g.boxes z.over a.id ≡ true) (sym k) h) (closed-m a.id))
        | inr k ↦ elim k [
          | inl k ↦ (c, (r1, (may.in_c, (in-r1, (at.over_y ∙ ap (λ (z : OwnedQuant). z.over) k, f-is r1.kind (outer.rows-c g known d may l r1 x y up l1 l2 at).1 ∙ ap (λ (z : OwnedQuant). z.kind) k)))))
          | inr k ↦ elim k [ ]
        ]
      ]
      | inr e ↦ elim e [
        | inl e ↦ absurd (elim (subst (λ (n : Node). In z n.quants) e j) [
          | inl k ↦ clash (loose g.boxes m.id a.id) (subst (λ (z : OwnedQuant). loose g.boxes z.over a.id ≡ true) (sym k) h) (closed-m a.id)
          | inr k ↦ elim k [
            | inl k ↦ clash (loose g.boxes x.id a.id) (subst (λ (z : OwnedQuant). loose g.boxes z.over a.id ≡ true) (sym k) h) (x-closed-below (subst (λ (z : OwnedQuant). is_below g.boxes r1.over z.over ≡ true) (sym k) b) a.id)
            | inr k ↦ elim k [ ]
          ]
        ])
        | inr e ↦ (e.0, (z, (e.1.0, (subst (λ (v : List OwnedQuant). In z v) (ap (λ (v : Node). v.quants) e.1.1.1.1 ∙ ren-quants e.0) j, (refl, refl)))))
      ]
    ]
  ]

  module _ (v : Sound hs g.root) (fits_left : IsRoleOver g.boxes x.id lr) (fits_right : IsRoleOver g.boxes y.id rr) where
    abbrev V : Lookup
    V = via T hs

    -- ---- the selects

    left-form : HasForm hs g.root T c'
    left-form = pair-form hs look c.id a.id r.id lr m x left g.root v T
        (T-c ∙ ap₂ (λ (v z : List (Option SqlType)). v ++ z) (sym T-m) (sym T-x)) (ap length T-m ∙ long m may.in_m) (ap length T-x ∙ long x at.in_x)
        (ap (list_all is_known) T-m ∙ all-known m may.in_m) (ap (list_all is_known) T-x ∙ all-known x at.in_x)
        (outer.seen-m g known d may l r1 x y up l1 l2 at) (outer.seen-x g known d may l r1 x y up l1 l2 at) (λ h. absurd (scalar-c h))
        (elim fits_left [
          | inl z ↦ inl z
          | inr z ↦ inr (z.0, eq-false-sym g.root c.id (outer.root-not-c g known d may l r1 x y up l1 l2 at), (fed.magic-m g at.once at.formed known at.tells d may, (looks-x z.1.0 z.1.1 a.id ∙ subst (λ i. loose g.boxes x.id i ≡ true) (alone-x z.1.0 z.1.1) z.1.1, λ q h. alone-x q (sym (looks-x z.1.0 z.1.1 q) ∙ h))))
        ])
      where
        looks-x : (i : ℕ) → loose g.boxes x.id i ≡ true → (q : ℕ) → loose hs x.id q ≡ loose g.boxes x.id q
        looks-x i o q = looks-after x.id q (in-has x hs in-x) ∙ look-beside x.id q x-not-c (elim (cases_Bool (below x.id)) [ inr f ↦ f | inl t ↦ absurd (clash (loose g.boxes x.id i) o (x-closed-below t i)) ])

    right-form : HasForm hs g.root T s'
    right-form = subst (HasForm hs g.root T) same-s (pair-form hs look s p u rr m (put y) right g.root v T
        (T-s ∙ ap₂ (λ (v z : List (Option SqlType)). v ++ z) (sym T-m) (sym T-y)) (ap length T-m ∙ long m may.in_m) (ap length T-y ∙ long y at.in_y ∙ sym (wide-put y))
        (ap (list_all is_known) T-m ∙ all-known m may.in_m) (ap (list_all is_known) T-y ∙ all-known y at.in_y)
        (outer.seen-m g known d may l r1 x y up l1 l2 at) (outer.seen-y g known d may l r1 x y up l1 l2 at) (λ h. absurd (scalar-s h))
        (elim fits_right [
          | inl z ↦ inl z
          | inr z ↦ inr (
            z.0,
            (let n = has-in g.root g.boxes w.rooted in subst (λ b. (s == b) ≡ false) n.1.1 (s-not n.0 n.1.0)),
            (
              fed.magic-m g at.once at.formed known at.tells d may,
              (looks-y p ∙ look-below y.id p below-y ∙ or_left ((p == p) && loose g.boxes y.id a.id) (not (p == a.id) && loose g.boxes y.id p) (and_from (p == p) (loose g.boxes y.id a.id) (eq-itself p) opened), λ q h. right.alone q (sym (looks-y q) ∙ h)),
            ),
          )
        ]))
      where
        looks-y : (q : ℕ) → loose hs y.id q ≡ look y.id q
        looks-y q = looks-after y.id q (in-has (put y) hs in-y)

    -- ---- the outer join

    V-l : (k : ℕ) → V l.id (suc k) ≡ joined_column (slice_get (M ++ X) k)
    V-l k = ap (found_by T (suc k)) (under-l hs look d' c' s' l.id r1.id joined g.root v T) ∙ found-suc T k c' ∙ ap (λ (z : List (Option SqlType)). joined_column (slice_get z k)) T-c

    V-r : (k : ℕ) → V r1.id (suc k) ≡ joined_column (slice_get (M ++ Y) k)
    V-r k = ap (found_by T (suc k)) (under-r hs look d' c' s' l.id r1.id joined g.root v T) ∙ found-suc T k s' ∙ ap (λ (z : List (Option SqlType)). joined_column (slice_get z k)) T-s

    V-m : map (term_type V) (columns_from l.id 1 (width m)) ≡ M
    V-m = ap (λ z. map (term_type V) (columns_from l.id 1 z)) (sym (long m may.in_m)) ∙ columns-typed V l.id [] M X V-l

    -- what stands behind the columns of the magic box
    V-behind : (q : ℕ) (n : Node) → In n g.boxes → ((k : ℕ) → V q (suc k) ≡ joined_column (slice_get (M ++ types_at g.boxes n.id) k)) → map (term_type V) (later q (width m) (width n)) ≡ types_at g.boxes n.id
    V-behind q n i h = ap₂ (λ v z. map (term_type V) (columns_from q (suc v) z)) (sym (long m may.in_m)) (sym (long n i)) ∙ columns-typed V q M (types_at g.boxes n.id) [] (λ k. h k ∙ ap (λ (z : List (Option SqlType)). joined_column (slice_get (M ++ z) k)) (nothing-more (types_at g.boxes n.id)))

    same-a : map (term_type V) (columns_from l.id 1 (width m)) ≡ map (term_type L) (columns_from a.id 1 (width m))
    same-a = V-m ∙ sym (outer.L-m g known d may l r1 x y up l1 l2 at)

    same-l : map (term_type V) (later l.id (width m) (width x)) ≡ map (term_type L) (columns_from l.id 1 (width x))
    same-l = V-behind l.id x at.in_x V-l ∙ sym (outer.L-x g known d may l r1 x y up l1 l2 at)

    same-r : map (term_type V) (later r1.id (width m) (width y)) ≡ map (term_type L) (columns_from r1.id 1 (width y))
    same-r = V-behind r1.id y at.in_y V-r ∙ sym (outer.L-y g known d may l r1 x y up l1 l2 at)

    typed-new : T d.id ≡ map (term_type V) d'.parts.head
    typed-new =
        T-d ∙ outer.types-d g known d may l r1 x y up l1 l2 at
        ∙ ap₂ (λ (v z : List (Option SqlType)). v ++ z) (sym V-m) (sym (each c.parts.head (λ z i. i)))
        ∙ sym (map-append (term_type V) (columns_from l.id 1 (width m)) (map (both_term a.id l.id (width m) (width x) r1.id (width y)) c.parts.head))
      where
        each : (zs : List Term) → ((z : Term) → In z zs → In z c.parts.head) → map (term_type V) (map (both_term a.id l.id (width m) (width x) r1.id (width y)) zs) ≡ map (term_type L) zs
        each [] sub = refl
        each (z ∷ zs) sub = ap₂ (λ (t : Option SqlType) (ts : List (Option SqlType)). t ∷ ts) (led.term-both a.id l.id r1.id (width m) (width x) (width y) c leads L V same-a same-l same-r z (sub z (inl refl))) (each zs (λ t i. sub t (inr i)))

    on-new : list_all (cond_fits V) d'.parts.conds.items ≡ true
    on-new = all-joined (cond_fits V) (map (both_cond a.id l.id (width m) (width x) r1.id (width y)) c.parts.conds.items) (same_each l.id r1.id 1 (width m))
        (all-put (cond_fits V) (cond_fits L) (both_cond a.id l.id (width m) (width x) r1.id (width y)) c.parts.conds.items (led.cond-both a.id l.id r1.id (width m) (width x) (width y) c leads L V same-a same-l same-r) ∙ outer.on-c g known d may l r1 x y up l1 l2 at)
        (subst (λ i. list_all (cond_fits V) (same_each l.id r1.id 1 i) ≡ true) (long m may.in_m) (same-fits V l.id r1.id [] M X Y V-l V-r (all-known m may.in_m)))

    outer-form-d : HasForm hs g.root T d'
    outer-form-d = outer-form hs look d' c' s' l.id r1.id joined g.root v T typed-new (ap (list_all is_known) T-d ∙ all-known d may.in_d) on-new
        (front-columns d' moved l.id r1.id (width m) (width m) heads conds (led.columns-both a.id l.id r1.id (width m) (width x) (width y) c leads (outer.columns-c g known d may l r1 x y up l1 l2 at)))
        (front-unfolded d' moved l.id r1.id (width m) (width m) heads conds (led.unfolded-both a.id l.id r1.id (width m) (width x) (width y) c leads ∙ outer.unfolded-c g known d may l r1 x y up l1 l2 at))
        (outer.plain-c g known d may l r1 x y up l1 l2 at) (outer.seen-c g known d may l r1 x y up l1 l2 at) refl refl scalar-d

    -- ---- the boxes below

    retyped : RetypesBelow g.boxes hs g.root T m r1.over a.id p (width m)
    retyped = record {
      sound = v;
      looks = λ b q t. (let n = has-in b g.boxes (region.there b t) in looks-after b q (subst (λ b. has_box hs b ≡ true) n.1.1 (in-has (put n.0) hs (below-renamed.stand n.0 n.1.0 (subst (λ b. below b ≡ true) (sym n.1.1) t)))) ∙ look-below b q t);
      users = users;
      types = λ b t. T-other b (below-c b t) (elim (cases_Bool (b == s)) [ inr f ↦ f | inl e ↦ absurd (clash (below b) t (subst (λ b. below b ≡ false) (sym (eqb-true b s e)) not-below-s)) ]);
      under_a = found-under g.boxes g.root w a.id (record { owner = d; quant = a; box = m; owner_in = may.in_d; quant_in = in-a; is_q = refl; box_in = may.in_m; is_over = may.over_m });
      under_p = found-under hs g.root v p (record { owner = s'; quant = range p F m.id; box = m; owner_in = in-s'; quant_in = inl refl; is_q = refl; box_in = in-m; is_over = refl });
      types_m = T-m;
      wide = refl;
    }

    below-form : (n : Node) → In n g.boxes → is_below g.boxes r1.over n.id ≡ true → loose g.boxes n.id a.id ≡ true → HasForm hs g.root T (put n)
    below-form = region-forms g.boxes hs g.root c r1 a.id p (width m) kept look T m w (outer.ty g known d may l r1 x y up l1 l2 at) (outer.sh g known d may l r1 x y up l1 l2 at) arm below-renamed retyped

    new-form : (n : Node) → In n hs → fresh n.id ≡ true → HasForm hs g.root T n
    new-form n i h = elim (each-in n i) [
      | inl z ↦ subst (HasForm hs g.root T) (sym z) outer-form-d
      | inr z ↦ elim z [
        | inl z ↦ subst (HasForm hs g.root T) (sym z) right-form
        | inr z ↦ elim z [
          | inl z ↦ subst (HasForm hs g.root T) (sym z) left-form
          | inr z ↦ (let k = renamed-box n z h in subst (HasForm hs g.root T) (sym (z.1.1.1.1 ∙ ren-below z.0 k.0)) (below-form z.0 z.1.0 k.0 k.1))
        ]
      ]
    ]

  -- the check finds nothing after it
  pub arms-formed : IsRoleOver g.boxes x.id lr → IsRoleOver g.boxes y.id rr → fault (renamed_arms g known d may l r1 x y s u p lr rr up l1 l2) ≡ None
  arms-formed left right = rebuilt-formed g (renamed_arms g known d may l r1 x y s u p lr rr up l1 l2) kept look fresh T at.once ((finds-none g at.once).1 at.formed) refl rebuilds
      (λ n i k. T-old n i (not-true (n.id == c.id) k)) (λ n i v f. new-form v left right n i f)
