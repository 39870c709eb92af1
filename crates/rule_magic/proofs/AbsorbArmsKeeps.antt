-- G5 with an open right operand preserves, and lowers the measure.
use Rattle.std.proofs.Common.{ℕ, ◌==◌, ◌≡◌, ◌+◌, ◌&&◌, ◌||◌, cond, not, true, false, List, [], ◌∷◌, ◌++◌, map, Some, refl, sym, ap, ap₂, subst, ◌∙◌, eqb-true, inl, inr}
use Rattle.std.specs.List.{list_any}
use Rattle.std.proofs.lemmas.Bool.{cases_Bool, or_cases, or_left, or_right}
use Rattle.row_bag.specs.Bags.{Agree}
use Rattle.row_bag.specs.Sets.{same_cells}
use Rattle.row_bag.specs.declared.tables.Table.{Table}
use Rattle.qgm_core.specs.Boxes.{QueryGraph, is_box, is_quant, owns, width}
use Rattle.qgm_core.specs.Edits.{compact, range}
use Rattle.qgm_core.specs.Kinds.{is_fed}
use Rattle.list_laws.specs.Lists.{In, first}
use Rattle.qgm_core.specs.declared.kinds.QuantKind.TheVariants.{F}
use Rattle.qgm_core.specs.declared.kinds.Role.{Role}
use Rattle.qgm_core.specs.declared.node.Node.{Node}
use Rattle.qgm_core.specs.declared.owned.OwnedQuant.{OwnedQuant}
use Rattle.qgm_edit_laws.specs.Graph.{Sound}
use Rattle.qgm_edit_laws.proofs.AnyPut.{conds-names, heads-names}
use Rattle.qgm_edit_laws.proofs.FreeLoose.{free-looks}
use Rattle.qgm_edit_laws.proofs.Ranks.{has-in}
use Rattle.qgm_edit_laws.proofs.Scope.{closed-root, in-first}
use Rattle.qgm_edit_laws.proofs.WellFormedKept.{numbers-once}
use Rattle.qgm_meaning.specs.Meaning.{root_bag}
use Rattle.qgm_meaning.specs.Satisfies.{Satisfies, SatisfiesBy}
use Rattle.qgm_meaning.specs.Scope.{introduces, loose, put_node}
use Rattle.qgm_meaning.specs.Searches.{binds, binds_cond, names, names_cond}
use Rattle.qgm_meaning.specs.Tags.{columns_from}
use Rattle.qgm_props.specs.Calm.{is_closed}
use Rattle.qgm_props.specs.Inferred.{Facts}
use Rattle.qgm_props.specs.Lowering.{Stays}
use Rattle.qgm_props.specs.Measure.{Lowers, is_fed_box, is_keyless, is_loose_scalar, is_open, keyless_found, many, summed}
use Rattle.qgm_props.proofs.Many.{many-none}
use Rattle.rule_api.specs.Rules.{Preserves}
use Rattle.rule_magic.specs.AbsorbArms.{HasArms, IsFreshSelect, IsStill, Renames, role_over}
use Rattle.rule_magic.specs.AbsorbOuterJoin.{OuterArmsLowers, OuterArmsPreserves, OuterAt, renamed_arms}
use Rattle.rule_magic.specs.Boxes.{arms_box, pair_box}
use Rattle.rule_magic.specs.Places.{MayAbsorb}
use Rattle.rule_magic.specs.Region.{IsRegion, is_below}
use Rattle.rule_magic.proofs.AbsorbArmBags.{absorbs-arms}
use Rattle.rule_magic.proofs.AbsorbArmsFormed as after
use Rattle.rule_magic.proofs.AbsorbArmsPlaced as base
use Rattle.rule_magic.proofs.AbsorbFacts as fed
use Rattle.rule_magic.proofs.AbsorbOpenLowers.{lowers-mapped}
use Rattle.rule_magic.proofs.AbsorbOpenSet.{and-none, looks_of}
use Rattle.rule_magic.proofs.AbsorbOuterFacts as outer
use Rattle.rule_magic.proofs.AbsorbSelectFormed as one
use Rattle.rule_magic.proofs.AbsorbShared.{IsRoleOver, closed-looks, loose-scalar, looks-closed, role-over-is, satisfies-both, satisfies-left, satisfies-right, then-compact}
use Rattle.rule_magic.proofs.CalmFires.{closed-is}
use Rattle.qgm_core.proofs.Reaching.{in-has, overs-held}
use Rattle.list_laws.proofs.Booleans.{clash}
use Rattle.list_laws.proofs.Membership.{any-in}

module _ (g : QueryGraph) (known : Facts) (d : Node) (may : MayAbsorb g.boxes known d) (l r1 : OwnedQuant) (x y : Node) (s u p : ℕ) (lr rr : Role) (up l1 l2 : List Node) (at : OuterAt g known d may l r1 x y up l1 l2) (new : IsFreshSelect g s u p) (opened : loose g.boxes y.id may.a.id ≡ true) where
  abbrev m : Node
  m = may.m

  abbrev c : Node
  c = may.c

  abbrev a : OwnedQuant
  a = may.a

  abbrev r : OwnedQuant
  r = may.r

  abbrev h : QueryGraph
  h = renamed_arms g known d may l r1 x y s u p lr rr up l1 l2

  abbrev hs : List Node
  hs = (renamed_arms g known d may l r1 x y s u p lr rr up l1 l2).boxes

  abbrev ren : Node → Node
  ren n = cond (is_below g.boxes r1.over n.id) (put_node may.a.id (columns_from p 1 (width may.m)) n) n

  abbrev d' : Node
  d' = arms_box d.id may.a.id l.id (width may.m) (width x) r1.id (width y) may.c (range l.id F may.c.id ∷ (range r1.id F s ∷ []))

  abbrev s' : Node
  s' = pair_box s rr p may.m.id (width may.m) u y.id (width y)

  abbrev c' : Node
  c' = pair_box may.c.id lr may.a.id may.m.id (width may.m) may.r.id x.id (width x)

  w : Sound g.boxes g.root
  w = outer.w g known d may l r1 x y up l1 l2 at

  v : Sound hs g.root
  v = after.sound-after g known d may l r1 x y s u p lr rr up l1 l2 at new opened

  region : IsRegion g.boxes r1 a.id
  region = after.region g known d may l r1 x y s u p lr rr up l1 l2 at new opened

  elsewhere : (n : Node) (z : OwnedQuant) → In n g.boxes → (n.id == d.id) ≡ false → In z n.quants → (z.over == c.id) ≡ false
  elsewhere = outer.elsewhere g known d may l r1 x y up l1 l2 at

  ren-id : (n : Node) → (ren n).id ≡ n.id
  ren-id = after.ren-id g known d may l r1 x y s u p lr rr up l1 l2 at new opened

  p-new : (z : OwnedQuant) (n : Node) → In n g.boxes → In z n.quants → (z.id == p) ≡ false
  p-new = base.new-id g known d may l r1 x y s u p lr rr up l1 l2 at new p new.p_new

  -- a box that is marked and closed, or isn't marked, doesn't change
  still : (b : ℕ) → (is_below g.boxes r1.over b ≡ true → loose g.boxes b a.id ≡ false) → (is_below g.boxes r1.over b && loose g.boxes b a.id) ≡ false
  still b f = elim (cases_Bool (is_below g.boxes r1.over b)) [ inr t ↦ ap (λ z. z && loose g.boxes b a.id) t | inl t ↦ ap (λ z. is_below g.boxes r1.over b && z) (f t) ∙ and-none (is_below g.boxes r1.over b) ]

  arms : HasArms g d m c x y a l r1 (λ b. is_below g.boxes r1.over b)
  arms = record {
    in_x = at.in_x;
    in_y = at.in_y;
    two = at.two;
    over_x = at.over_x;
    over_y = at.over_y;
    apart = outer.l-not-r1 g known d may l r1 x y up l1 l2 at;
    m_not_c = outer.m-not-c g known d may l r1 x y up l1 l2 at;
    d_not_c = outer.d-not-c g known d may l r1 x y up l1 l2 at;
    x_not_c = outer.x-not-c g known d may l r1 x y up l1 l2 at;
    y_not_c = outer.y-not-c g known d may l r1 x y up l1 l2 at;
    m_still = still m.id (λ t. fed.closed-m g at.once at.formed known at.tells d may a.id);
    d_still = still d.id (λ t. one.closed-d g at.once at.formed known at.tells d may a.id);
    c_unmarked = after.not-below-c g known d may l r1 x y s u p lr rr up l1 l2 at new opened;
    x_still = still x.id (λ t. after.x-closed-below g known d may l r1 x y s u p lr rr up l1 l2 at new opened t a.id);
    y_marked = inl (after.below-y g known d may l r1 x y s u p lr rr up l1 l2 at new opened);
    y_alone = outer.arm-alone g known d may l r1 x y up l1 l2 at r1 y (outer.in-r1 g known d may l r1 x y up l1 l2 at) at.over_y;
  }

  renames : Renames g a.id p (λ b. is_below g.boxes r1.over b)
  renames = record {
    under = λ n i k z j. region.under n z i k j;
    apart = λ n i k. (region.apart n i k, elim (cases_Bool (introduces n p)) [ inr f ↦ f | inl t ↦ absurd (unowned n i (bound n i t)) ]);
  }
    where
      unowned : (n : Node) → In n g.boxes → owns p n ≡ true → ⊥
      unowned n i o = let z = any-in (is_quant p) n.quants o in clash (z.0.id == p) z.1.1 (p-new z.0 n i z.1.0)

      bound : (n : Node) → In n g.boxes → introduces n p ≡ true → owns p n ≡ true
      bound n i t = elim (or_cases (owns p n) (list_any (binds p) n.parts.head || list_any (binds_cond p) n.parts.conds.items) t) [
        | inl o ↦ o
        | inr o ↦ (w.own_nodes n i p (elim (or_cases (list_any (binds p) n.parts.head) (list_any (binds_cond p) n.parts.conds.items) o) [
          | inl k ↦ or_left (list_any (names p) n.parts.head) (list_any (names_cond p) n.parts.conds.items) (heads-names p n.parts.head k)
          | inr k ↦ or_right (list_any (names p) n.parts.head) (list_any (names_cond p) n.parts.conds.items) (conds-names p n.parts.conds.items k)
        ])).0
      ]

  bags : (tables : List Table) → Satisfies tables g.boxes → Agree same_cells (root_bag tables h) (root_bag tables g)
  bags tables t = absorbs-arms tables g h d m c x y a r l r1 p r.id u s (λ b. is_below g.boxes r1.over b) lr rr (fed.is-fed-at g at.once at.formed known at.tells d may tables t) arms renames at.an_outer (outer.is-outer g known d may l r1 x y up l1 l2 at) v.ordered
      (fed.apart g at.once at.formed known at.tells d may) new.apart new.s_new (after.not-below-s g known d may l r1 x y s u p lr rr up l1 l2 at new opened)
      (λ n i. elim (after.each-in g known d may l r1 x y s u p lr rr up l1 l2 at new opened n i) [
        | inl z ↦ inr (inr (inl z))
        | inr z ↦ elim z [
          | inl z ↦ inr (inr (inr (inr z)))
          | inr z ↦ elim z [
            | inl z ↦ inr (inr (inr (inl z)))
            | inr z ↦ elim (cases_Bool (is_below g.boxes r1.over z.0.id)) [
              | inl k ↦ inr (inl (record { was = z.0; within = z.1.0; marks = k; is = z.1.1.1.1 ∙ ap (λ b. cond b (put_node may.a.id (columns_from p 1 (width may.m)) z.0) z.0) k }))
              | inr k ↦ inl (subst (λ (n : Node). IsStill g d c a.id (λ b. is_below g.boxes r1.over b) n) (sym (z.1.1.1.1 ∙ ap (λ b. cond b (put_node may.a.id (columns_from p 1 (width may.m)) z.0) z.0) k))
                  (record { within = z.1.0; unmarked = k; not_d = z.1.1.0; not_c = z.1.1.1.0; elsewhere = λ q j. (elsewhere z.0 q z.1.0 z.1.1.0 j, still q.over (λ e. after.beside-closed g known d may l r1 x y s u p lr rr up l1 l2 at new opened z.0 q z.1.0 z.1.1.1.0 k j e a.id)) }))
            ]
          ]
        ]
      ])
      g.root w.rooted v.rooted (outer.root-not-c g known d may l r1 x y up l1 l2 at) (still g.root (λ k. root-closed)) []
    where
      root-closed : loose g.boxes g.root a.id ≡ false
      root-closed = elim (cases_Bool (loose g.boxes g.root a.id)) [ inr f ↦ f | inl e ↦ absurd (closed-root g.boxes g.root w a.id e) ]

  renamed-bases : (tables : List Table) (ns : List Node) → Satisfies tables ns → Satisfies tables (map (λ (n : Node). cond (is_below g.boxes r1.over n.id) (put_node may.a.id (columns_from p 1 (width may.m)) n) n) ns)
  renamed-bases tables [] t = tt
  renamed-bases tables (n ∷ ns) t = (subst (λ k. SatisfiesBy k tables) (sym kind) t.0, renamed-bases tables ns t.1)
    where
      kind : (ren n).parts.kind ≡ n.parts.kind
      kind = after.ren-by g known d may l r1 x y s u p lr rr up l1 l2 at new opened (λ (n : Node). n.parts.kind) (λ n. refl) n

  bases : (tables : List Table) → Satisfies tables g.boxes → Satisfies tables h.boxes
  bases tables t =
      let all : Satisfies tables (up ++ d ∷ (l1 ++ c ∷ l2)) = subst (Satisfies tables) at.before t in
      let low = (satisfies-right tables up (d ∷ (l1 ++ c ∷ l2)) all).1 in
      renamed-bases tables (up ++ (d' ∷ (s' ∷ (c' ∷ (l1 ++ l2)))))
      (satisfies-both tables up (d' ∷ (s' ∷ (c' ∷ (l1 ++ l2)))) (satisfies-left tables up (d ∷ (l1 ++ c ∷ l2)) all)
      (subst (λ k. SatisfiesBy k tables) (sym at.an_outer) tt, (tt, (tt, satisfies-both tables l1 l2 (satisfies-left tables l1 (c ∷ l2) low) (satisfies-right tables l1 (c ∷ l2) low).1))))

  pub preserves : IsRoleOver g.boxes x.id lr → IsRoleOver g.boxes y.id rr → Preserves g (compact h)
  preserves left right = then-compact g h (after.arms-formed g known d may l r1 x y s u p lr rr up l1 l2 at new opened left right) (numbers-once hs v.ordered) bags bases refl refl

  -- ---- the measure

  closed-by : (n : Node) → In n hs → ((q : ℕ) → looks_of g.boxes may.c.id r1.over may.a.id p n.id q ≡ false) → is_closed hs n.id ≡ true
  closed-by n j f = looks-closed hs g.root v n.id (λ q. after.looks-after g known d may l r1 x y s u p lr rr up l1 l2 at new opened n.id q (in-has n hs j) ∙ f q)

  whole-same : (z : OwnedQuant) (n : Node) → In n g.boxes → n.id ≡ z.over → (z.over == c.id) ≡ false → keyless_found (first (is_box z.over) hs) ≡ keyless_found (first (is_box z.over) g.boxes)
  whole-same z n i e f = elim (cases_Bool (n.id == d.id)) [
    | inl t ↦ (
        let over : d.id ≡ z.over = sym (eqb-true n.id d.id t) ∙ e in
        ap keyless_found (subst (λ b. first (is_box b) hs ≡ Some d') over (in-first d' hs v.ordered (after.in-d' g known d may l r1 x y s u p lr rr up l1 l2 at new opened))) ∙ ap is_keyless at.an_outer
        ∙ sym (ap keyless_found (subst (λ b. first (is_box b) g.boxes ≡ Some d) over (in-first d g.boxes w.ordered may.in_d)) ∙ ap is_keyless (fed.kind_d g at.once at.formed known at.tells d may)))
    | inr k ↦ (
        let j = after.in-ren g known d may l r1 x y s u p lr rr up l1 l2 at new opened n (base.to-hs g known d may l r1 x y s u p lr rr up l1 l2 at new n i k (subst (λ b. (b == c.id) ≡ false) (sym e) f)) in
        ap keyless_found (subst (λ b. first (is_box b) hs ≡ Some (ren n)) (ren-id n ∙ e) (in-first (ren n) hs v.ordered j)) ∙ after.ren-by g known d may l r1 x y s u p lr rr up l1 l2 at new opened (λ (n : Node). is_keyless n.parts.kind) (λ n. refl) n
        ∙ sym (ap keyless_found (subst (λ b. first (is_box b) g.boxes ≡ Some n) e (in-first n g.boxes w.ordered i))))
  ]

  stays : (n : Node) → In n g.boxes → (n.id == d.id) ≡ false → (n.id == c.id) ≡ false → Stays g.boxes hs n
  stays n i nd nc = record {
    closed = λ t. subst (λ b. is_closed hs b ≡ true) (ren-id n)
        (closed-by (ren n) (after.in-ren g known d may l r1 x y s u p lr rr up l1 l2 at new opened n (base.to-hs g known d may l r1 x y s u p lr rr up l1 l2 at new n i nd nc))
        (λ q. ap (λ b. looks_of g.boxes may.c.id r1.over may.a.id p b q) (ren-id n) ∙ after.look-closed g known d may l r1 x y s u p lr rr up l1 l2 at new opened n.id (closed-looks g.boxes g.root w n.id t) q));
    scalars = λ z k t. (
        let f = elsewhere n z i nd k in
        let b = has-in z.over g.boxes (overs-held g.boxes n z w.ordered i k) in
        loose-scalar g.boxes hs z (whole-same z b.0 b.1.0 b.1.1 f) t);
  }

  beside : (n : Node) → is_below g.boxes r1.over n.id ≡ false → ren n ≡ n
  beside = after.ren-beside g known d may l r1 x y s u p lr rr up l1 l2 at new opened

  new-same : map (λ (n : Node). cond (is_below g.boxes r1.over n.id) (put_node may.a.id (columns_from p 1 (width may.m)) n) n) (d' ∷ (s' ∷ (c' ∷ []))) ≡ d' ∷ (s' ∷ (c' ∷ []))
  new-same = ap₂ (λ (a : Node) (k : List Node). a ∷ k) (beside d' (after.not-below-d g known d may l r1 x y s u p lr rr up l1 l2 at new opened))
      (ap₂ (λ (a : Node) (k : List Node). a ∷ k) (beside s' (after.not-below-s g known d may l r1 x y s u p lr rr up l1 l2 at new opened)) (ap (λ (a : Node). a ∷ []) (beside c' (after.not-below-c g known d may l r1 x y s u p lr rr up l1 l2 at new opened))))

  new-closed : (n : Node) → In n (d' ∷ (s' ∷ (c' ∷ []))) → is_closed hs n.id ≡ true
  new-closed n i = elim i [
    | inl e ↦ subst (λ (z : Node). is_closed hs z.id ≡ true) e (closed-by d' (after.in-d' g known d may l r1 x y s u p lr rr up l1 l2 at new opened) (after.looks-d g known d may l r1 x y s u p lr rr up l1 l2 at new opened))
    | inr i ↦ elim i [
      | inl e ↦ subst (λ (z : Node). is_closed hs z.id ≡ true) e (closed-by s' (after.in-s' g known d may l r1 x y s u p lr rr up l1 l2 at new opened) (after.looks-s g known d may l r1 x y s u p lr rr up l1 l2 at new opened))
      | inr i ↦ elim i [ inl e ↦ subst (λ (z : Node). is_closed hs z.id ≡ true) e (closed-by c' (after.in-c' g known d may l r1 x y s u p lr rr up l1 l2 at new opened) (after.looks-c g known d may l r1 x y s u p lr rr up l1 l2 at new opened)) | inr z ↦ elim z [ ] ]
    ]
  ]

  pub lowers : Lowers g.boxes hs
  lowers = lowers-mapped g.boxes hs ren ren-id (after.ren-quants g known d may l r1 x y s u p lr rr up l1 l2 at new opened) (after.ren-by g known d may l r1 x y s u p lr rr up l1 l2 at new opened is_fed_box (λ n. refl)) up l1 l2 (d' ∷ (s' ∷ (c' ∷ []))) d c at.before refl (ap is_fed may.is_fed)
      (elim (cases_Bool (is_closed g.boxes c.id)) [ inr f ↦ f | inl t ↦ absurd (let k = may.opened in closed-is g.boxes w.ordered c.id t k.0 k.1) ])
      (outer.c-not-fed g known d may l r1 x y up l1 l2 at)
      (ap (many (is_open hs)) new-same ∙ many-none (is_open hs) (d' ∷ (s' ∷ (c' ∷ []))) (λ n i. ap not (new-closed n i)))
      (ap (summed (λ (n : Node). many (is_loose_scalar hs) n.quants)) new-same)
      (λ n i. (let z = one.other-up g at.once at.formed known at.tells d may up l1 l2 at.before n i in stays n z.0 z.1.0 z.1.1))
      (λ n i. (let z = one.other-left g at.once at.formed known at.tells d may up l1 l2 at.before n i in stays n z.0 z.1.0 z.1.1))
      (λ n i. (let z = one.other-right g at.once at.formed known at.tells d may up l1 l2 at.before n i in stays n z.0 z.1.0 z.1.1))

pub outer-arms-preserves : OuterArmsPreserves
outer-arms-preserves = λ g known d may l r1 x y s u p up l1 l2 at new h. (
    let w = outer.w g known d may l r1 x y up l1 l2 at in
    preserves g known d may l r1 x y s u p (role_over g.boxes x.id) (role_over g.boxes y.id) up l1 l2 at new (free-looks g.boxes g.root w y.id may.a.id h) (role-over-is g.boxes g.root w x.id) (role-over-is g.boxes g.root w y.id))

pub outer-arms-lowers : OuterArmsLowers
outer-arms-lowers = λ g known d may l r1 x y s u p up l1 l2 at new h. lowers g known d may l r1 x y s u p (role_over g.boxes x.id) (role_over g.boxes y.id) up l1 l2 at new (free-looks g.boxes g.root (outer.w g known d may l r1 x y up l1 l2 at) y.id may.a.id h)
