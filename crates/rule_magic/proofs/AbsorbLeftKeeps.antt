-- G5 with a closed right operand preserves, and lowers the measure.
use Rattle.std.proofs.Common.{ℕ, suc, ◌==◌, ◌≡◌, ◌<◌, ◌+◌, ◌&&◌, not, true, false, List, [], ◌∷◌, ◌++◌, Some, None, refl, sym, ap, subst, ◌∙◌, eqb-true, inl, inr, arith}
use Rattle.std.proofs.lemmas.Bool.{cases_Bool, or_from}
use Rattle.row_bag.specs.Bags.{Agree}
use Rattle.row_bag.specs.Sets.{same_cells}
use Rattle.row_bag.specs.declared.tables.Table.{Table}
use Rattle.qgm_core.specs.Boxes.{Ordered, QueryGraph, has_box, is_box, width}
use Rattle.qgm_core.specs.Edits.{compact, range}
use Rattle.qgm_core.specs.Free.{IsFree}
use Rattle.qgm_core.specs.Kinds.{is_fed}
use Rattle.list_laws.specs.Lists.{In, first}
use Rattle.qgm_core.specs.declared.kinds.QuantKind.TheVariants.{F}
use Rattle.qgm_core.specs.declared.kinds.Role.{Role}
use Rattle.qgm_core.specs.declared.node.Node.{Node}
use Rattle.qgm_core.specs.declared.owned.OwnedQuant.{OwnedQuant}
use Rattle.qgm_wellformed.specs.WellFormed.{fault}
use Rattle.qgm_edit_laws.specs.Graph.{Sound}
use Rattle.qgm_edit_laws.proofs.Ranks.{has-in}
use Rattle.qgm_edit_laws.proofs.Scope.{in-first}
use Rattle.qgm_edit_laws.proofs.WellFormedKept.{numbers-once}
use Rattle.qgm_meaning.specs.Meaning.{root_bag}
use Rattle.qgm_meaning.specs.Satisfies.{Satisfies, SatisfiesBy}
use Rattle.qgm_meaning.specs.Scope.{loose}
use Rattle.qgm_props.specs.Calm.{is_closed}
use Rattle.qgm_props.specs.Inferred.{Facts}
use Rattle.qgm_props.specs.Lowering.{Stays}
use Rattle.qgm_props.specs.Measure.{Lowers, is_keyless, keyless_found}
use Rattle.qgm_props.proofs.Lowering.{absorb-lowers}
use Rattle.rule_api.specs.Rules.{Preserves}
use Rattle.rule_magic.specs.AbsorbArms.{HasArms, role_over}
use Rattle.rule_magic.specs.AbsorbOuterJoin.{OuterAt, OuterLeftLowers, OuterLeftPreserves, absorbed_left}
use Rattle.rule_magic.specs.Boxes.{left_box, pair_box}
use Rattle.rule_magic.specs.Places.{MayAbsorb}
use Rattle.rule_magic.proofs.AbsorbArmBags.{absorbs-left}
use Rattle.rule_magic.proofs.AbsorbFacts as fed
use Rattle.rule_magic.proofs.AbsorbLeftFormed as made
use Rattle.rule_magic.proofs.AbsorbOuterFacts as outer
use Rattle.rule_magic.proofs.AbsorbSelectFormed as placed
use Rattle.rule_magic.proofs.AbsorbShared.{IsRoleOver, closed-looks, loose-scalar, looks-closed, role-over-is, satisfies-both, satisfies-left, satisfies-right, then-compact}
use Rattle.rule_magic.proofs.CalmFires.{closed-is}
use Rattle.qgm_core.proofs.Reaching.{in-has, overs-held}
use Rattle.list_laws.proofs.Booleans.{clash}
use Rattle.list_laws.proofs.Membership.{in-left, in-right}

-- a number that no box has
abbrev sum_of : List Node → ℕ
sum_of [] = 0
sum_of (n ∷ ns) = n.id + sum_of ns

past : (ns : List Node) (s : ℕ) → sum_of ns < s → has_box ns s ≡ false
past [] s l = refl
past (n ∷ ns) s l =
    let k : n.id + sum_of ns < s = l in
    or_from (n.id == s) (has_box ns s) (elim (cases_Bool (n.id == s)) [ inr f ↦ f | inl t ↦ absurd (let e = eqb-true n.id s t in omega (arith, k, e)) ]) (past ns s (omega (arith, k)))

module _ (g : QueryGraph) (known : Facts) (d : Node) (may : MayAbsorb g.boxes known d) (l r1 : OwnedQuant) (x y : Node) (role : Role) (up l1 l2 : List Node) (at : OuterAt g known d may l r1 x y up l1 l2) (fits : IsRoleOver g.boxes x.id role) (shut : (q : ℕ) → IsFree g.boxes y.id q → ⊥) where
  abbrev m : Node
  m = may.m

  abbrev c : Node
  c = may.c

  abbrev a : OwnedQuant
  a = may.a

  abbrev r : OwnedQuant
  r = may.r

  abbrev h : QueryGraph
  h = absorbed_left g known d may l r1 x y role up l1 l2

  abbrev hs : List Node
  hs = (absorbed_left g known d may l r1 x y role up l1 l2).boxes

  abbrev d' : Node
  d' = left_box d.id may.a.id l.id (width may.m) (width x) may.c (range l.id F may.c.id ∷ (range r1.id F y.id ∷ []))

  abbrev c' : Node
  c' = pair_box may.c.id role may.a.id may.m.id (width may.m) may.r.id x.id (width x)

  w : Sound g.boxes g.root
  w = outer.w g known d may l r1 x y up l1 l2 at

  v : Sound hs g.root
  v = made.sound-after g known d may l r1 x y role up l1 l2 at fits shut

  pub ordered : Ordered hs
  ordered = made.ordered g known d may l r1 x y role up l1 l2 at fits shut

  pub faultless : fault h ≡ None
  faultless = made.left-formed g known d may l r1 x y role up l1 l2 at fits shut

  elsewhere : (n : Node) (z : OwnedQuant) → In n g.boxes → (n.id == d.id) ≡ false → In z n.quants → (z.over == c.id) ≡ false
  elsewhere = outer.elsewhere g known d may l r1 x y up l1 l2 at

  y-closed : (q : ℕ) → loose g.boxes y.id q ≡ false
  y-closed = made.y-closed g known d may l r1 x y role up l1 l2 at fits shut

  arms : HasArms g d m c x y a l r1 (λ n. false)
  arms = record {
    in_x = at.in_x;
    in_y = at.in_y;
    two = at.two;
    over_x = at.over_x;
    over_y = at.over_y;
    apart = outer.l-not-r1 g known d may l r1 x y up l1 l2 at;
    m_not_c = outer.m-not-c g known d may l r1 x y up l1 l2 at;
    d_not_c = outer.d-not-c g known d may l r1 x y up l1 l2 at;
    x_not_c = outer.x-not-c g known d may l r1 x y up l1 l2 at;
    y_not_c = outer.y-not-c g known d may l r1 x y up l1 l2 at;
    m_still = refl;
    d_still = refl;
    c_unmarked = refl;
    x_still = refl;
    y_marked = inr y-closed;
    y_alone = λ q k. absurd (clash (loose g.boxes y.id q) k (y-closed q));
  }

  bags : (tables : List Table) → Satisfies tables g.boxes → Agree same_cells (root_bag tables h) (root_bag tables g)
  bags tables t = absorbs-left tables g h d m c x y a r l r1 r.id (suc (sum_of g.boxes)) role (fed.is-fed-at g at.once at.formed known at.tells d may tables t) arms at.an_outer (outer.is-outer g known d may l r1 x y up l1 l2 at) y-closed ordered
      (fed.apart g at.once at.formed known at.tells d may) (past g.boxes (suc (sum_of g.boxes)) (omega arith))
      (λ n i. elim (made.each-in g known d may l r1 x y role up l1 l2 at fits shut n i) [
        | inl z ↦ inr (inl z)
        | inr z ↦ elim z [
          | inl z ↦ inr (inr z)
          | inr z ↦ inl (record { within = z.0; unmarked = refl; not_d = z.1.0; not_c = z.1.1; elsewhere = λ q j. (elsewhere n q z.0 z.1.0 j, refl) })
        ]
      ])
      g.root w.rooted v.rooted (outer.root-not-c g known d may l r1 x y up l1 l2 at) []

  bases : (tables : List Table) → Satisfies tables g.boxes → Satisfies tables hs
  bases tables t =
      let all : Satisfies tables (up ++ d ∷ (l1 ++ c ∷ l2)) = subst (Satisfies tables) at.before t in
      let low = (satisfies-right tables up (d ∷ (l1 ++ c ∷ l2)) all).1 in
      satisfies-both tables up (d' ∷ (c' ∷ (l1 ++ l2))) (satisfies-left tables up (d ∷ (l1 ++ c ∷ l2)) all)
      (subst (λ k. SatisfiesBy k tables) (sym at.an_outer) tt, (tt, satisfies-both tables l1 l2 (satisfies-left tables l1 (c ∷ l2) low) (satisfies-right tables l1 (c ∷ l2) low).1))

  pub preserves : Preserves g (compact h)
  preserves = then-compact g h faultless (numbers-once hs ordered) bags bases refl refl

  -- ---- the measure

  looks-as : (n : Node) → In n hs → (n.id == c.id) ≡ false → (q : ℕ) → loose hs n.id q ≡ loose g.boxes n.id q
  looks-as n i f q = made.looks-after g known d may l r1 x y role up l1 l2 at fits shut n.id q (in-has n hs i) ∙ ap (λ b. not b && loose g.boxes n.id q) f

  -- the box under a quantifier that isn't over c
  whole-same : (z : OwnedQuant) (n : Node) → In n g.boxes → n.id ≡ z.over → (z.over == c.id) ≡ false → keyless_found (first (is_box z.over) hs) ≡ keyless_found (first (is_box z.over) g.boxes)
  whole-same z n i e f = elim (cases_Bool (n.id == d.id)) [
    | inl t ↦ (
        let over : d.id ≡ z.over = sym (eqb-true n.id d.id t) ∙ e in
        ap keyless_found (subst (λ b. first (is_box b) hs ≡ Some d') over (in-first d' hs ordered (made.in-d' g known d may l r1 x y role up l1 l2 at fits shut))) ∙ ap is_keyless at.an_outer
        ∙ sym (ap keyless_found (subst (λ b. first (is_box b) g.boxes ≡ Some d) over (in-first d g.boxes w.ordered may.in_d)) ∙ ap is_keyless (fed.kind_d g at.once at.formed known at.tells d may)))
    | inr k ↦ (
        let j = made.to-hs g known d may l r1 x y role up l1 l2 at fits shut n i k (subst (λ b. (b == c.id) ≡ false) (sym e) f) in
        ap keyless_found (subst (λ b. first (is_box b) hs ≡ Some n) e (in-first n hs ordered j)) ∙ sym (ap keyless_found (subst (λ b. first (is_box b) g.boxes ≡ Some n) e (in-first n g.boxes w.ordered i))))
  ]

  stays : (n : Node) → In n hs → In n g.boxes → (n.id == d.id) ≡ false → (n.id == c.id) ≡ false → Stays g.boxes hs n
  stays n j i nd nc = record {
    closed = λ t. looks-closed hs g.root v n.id (λ q. looks-as n j nc q ∙ closed-looks g.boxes g.root w n.id t q);
    scalars = λ z k t. (
        let f = elsewhere n z i nd k in
        let b = has-in z.over g.boxes (overs-held g.boxes n z w.ordered i k) in
        loose-scalar g.boxes hs z (whole-same z b.0 b.1.0 b.1.1 f) t);
  }

  closed-by : (n : Node) → In n hs → ((q : ℕ) → (not (n.id == c.id) && loose g.boxes n.id q) ≡ false) → is_closed hs n.id ≡ true
  closed-by n j f = looks-closed hs g.root v n.id (λ q. made.looks-after g known d may l r1 x y role up l1 l2 at fits shut n.id q (in-has n hs j) ∙ f q)

  pub lowers : Lowers g.boxes hs
  lowers = absorb-lowers up l1 l2 (d' ∷ (c' ∷ [])) d c g.boxes hs (record {
    before = at.before;
    after = refl;
    fed = ap is_fed may.is_fed;
    opened = elim (cases_Bool (is_closed g.boxes c.id)) [ inr f ↦ f | inl t ↦ absurd (let k = may.opened in closed-is g.boxes w.ordered c.id t k.0 k.1) ];
    not_fed = outer.c-not-fed g known d may l r1 x y up l1 l2 at;
    closed = λ n i. elim i [
      | inl e ↦ subst (λ (z : Node). is_closed hs z.id ≡ true) e (closed-by d' (made.in-d' g known d may l r1 x y role up l1 l2 at fits shut) (made.looks-d g known d may l r1 x y role up l1 l2 at fits shut))
      | inr i ↦ elim i [
        | inl e ↦ subst (λ (z : Node). is_closed hs z.id ≡ true) e (closed-by c' (made.in-c' g known d may l r1 x y role up l1 l2 at fits shut) (made.looks-c g known d may l r1 x y role up l1 l2 at fits shut))
        | inr z ↦ elim z [ ]
      ]
    ];
    stays_up = λ n i. (let z = placed.other-up g at.once at.formed known at.tells d may up l1 l2 at.before n i in stays n (in-left n up (d' ∷ (c' ∷ (l1 ++ l2))) i) z.0 z.1.0 z.1.1);
    stays_left = λ n i. (let z = placed.other-left g at.once at.formed known at.tells d may up l1 l2 at.before n i in stays n (in-right n up (d' ∷ (c' ∷ (l1 ++ l2))) (inr (inr (in-left n l1 l2 i)))) z.0 z.1.0 z.1.1);
    stays_right = λ n i. (let z = placed.other-right g at.once at.formed known at.tells d may up l1 l2 at.before n i in stays n (in-right n up (d' ∷ (c' ∷ (l1 ++ l2))) (inr (inr (in-right n l1 l2 i)))) z.0 z.1.0 z.1.1);
    scalars = (omega arith);
  })

pub outer-left-preserves : OuterLeftPreserves
outer-left-preserves = λ g known d may l r1 x y up l1 l2 at shut. preserves g known d may l r1 x y (role_over g.boxes x.id) up l1 l2 at (role-over-is g.boxes g.root (outer.w g known d may l r1 x y up l1 l2 at) x.id) shut

pub outer-left-lowers : OuterLeftLowers
outer-left-lowers = λ g known d may l r1 x y up l1 l2 at shut. lowers g known d may l r1 x y (role_over g.boxes x.id) up l1 l2 at (role-over-is g.boxes g.root (outer.w g known d may l r1 x y up l1 l2 at) x.id) shut
