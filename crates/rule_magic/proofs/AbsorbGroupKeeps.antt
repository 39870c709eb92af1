-- G3 with keys preserves, and lowers the measure.
use Rattle.std.proofs.Common.{ℕ, suc, ◌==◌, ◌≡◌, ◌+◌, ◌&&◌, not, true, false, List, [], ◌∷◌, ◌++◌, drop, Some, None, refl, sym, ap, subst, ◌∙◌, eqb-true, ◌⊎◌, inl, inr, arith}
use Rattle.std.specs.List.{list_all, list_any}
use Rattle.std.proofs.lemmas.Bool.{and_parts, cases_Bool, eq-eqb}
use Rattle.row_bag.specs.Bags.{Agree}
use Rattle.row_bag.specs.Sets.{same_cells}
use Rattle.row_bag.specs.declared.tables.Table.{Table}
use Rattle.qgm_core.specs.Boxes.{Ordered, QueryGraph, is_box, overs_in, width}
use Rattle.qgm_core.specs.Edits.{compact}
use Rattle.qgm_core.specs.Kinds.{is_fed}
use Rattle.list_laws.specs.Lists.{In, first, times}
use Rattle.qgm_core.specs.declared.kinds.Role.TheVariants.{Fed}
use Rattle.qgm_core.specs.declared.node.Node.{Node}
use Rattle.qgm_core.specs.declared.owned.OwnedQuant.{OwnedQuant}
use Rattle.qgm_wellformed.specs.Shapes.{is_aggregate}
use Rattle.qgm_wellformed.specs.WellFormed.{fault}
use Rattle.qgm_edit_laws.specs.Graph.{Sound}
use Rattle.qgm_edit_laws.proofs.AnyPut.{heads-names}
use Rattle.qgm_edit_laws.proofs.Ranks.{has-in}
use Rattle.qgm_edit_laws.proofs.Scope.{in-first}
use Rattle.qgm_edit_laws.proofs.WellFormedKept.{numbers-once}
use Rattle.qgm_meaning.specs.Meaning.{root_bag}
use Rattle.qgm_meaning.specs.Satisfies.{Satisfies}
use Rattle.qgm_meaning.specs.Scope.{loose}
use Rattle.qgm_meaning.specs.Searches.{binds, names}
use Rattle.qgm_props.specs.Calm.{is_closed}
use Rattle.qgm_props.specs.Inferred.{Facts, clean_by}
use Rattle.rule_api.specs.Rules.{Preserves}
use Rattle.qgm_props.specs.Lowering.{Stays}
use Rattle.qgm_props.specs.Measure.{Lowers, is_keyless, keyless_found}
use Rattle.rule_magic.specs.AbsorbGroup.{GroupAt, GroupLowers, GroupPreserves, IsGroupOver, absorbed_group}
use Rattle.rule_magic.specs.Boxes.{keyed_box, pair_box}
use Rattle.rule_magic.specs.Own.{AllOwn}
use Rattle.rule_magic.specs.Places.{AbsorbsBy, MayAbsorb}
use Rattle.rule_magic.proofs.CalmFires.{closed-is}
use Rattle.rule_magic.proofs.AbsorbFacts as fed
use Rattle.rule_magic.proofs.AbsorbGroupFormed as made
use Rattle.qgm_props.proofs.Lowering.{absorb-lowers}
use Rattle.rule_magic.proofs.AbsorbBags.{absorbs-group}
use Rattle.rule_magic.proofs.AbsorbSelectFormed as placed
use Rattle.rule_magic.proofs.AbsorbShared.{closed-looks, loose-scalar, looks-closed, satisfies-both, satisfies-left, satisfies-right, then-compact}
use Rattle.qgm_core.proofs.Reaching.{in-has, overs-held}
use Rattle.list_laws.proofs.Membership.{in-left, in-right}
use Rattle.list_laws.proofs.Booleans.{clash}

module _ (g : QueryGraph) (known : Facts) (d : Node) (may : MayAbsorb g.boxes known d) (k : ℕ) (q : OwnedQuant) (x : Node) (up l1 l2 : List Node) (at : GroupAt g known d may k q x up l1 l2) where
  abbrev h : QueryGraph
  h = absorbed_group g known d may k q x up l1 l2

  abbrev m : Node
  m = may.m

  abbrev c : Node
  c = may.c

  abbrev a : OwnedQuant
  a = may.a

  abbrev r : OwnedQuant
  r = may.r

  abbrev hs : List Node
  hs = (absorbed_group g known d may k q x up l1 l2).boxes

  abbrev d' : Node
  d' = keyed_box d.id (width may.m + suc k) q.id may.r.id (width may.m) (width x) may.c.parts.head may.c.id

  abbrev c' : Node
  c' = pair_box may.c.id Fed may.a.id may.m.id (width may.m) q.id x.id (width x)

  w : Sound g.boxes g.root
  w = made.w g at.once at.formed known at.tells d may up l1 l2 at.before (suc k) at.a_group q at.alone x at.in_x at.over_x

  v : Sound hs g.root
  v = made.sound-after g at.once at.formed known at.tells d may up l1 l2 at.before (suc k) at.a_group q at.alone x at.in_x at.over_x

  pub ordered : Ordered hs
  ordered = made.ordered g at.once at.formed known at.tells d may up l1 l2 at.before (suc k) at.a_group q at.alone x at.in_x at.over_x

  pub faultless : fault h ≡ None
  faultless = made.group-formed g at.once at.formed known at.tells d may up l1 l2 at.before (suc k) at.a_group q at.alone x at.in_x at.over_x h refl refl

  each-in : (n : Node) → In n hs → (n ≡ d') ⊎ ((n ≡ c') ⊎ (In n g.boxes × (((n.id == d.id) ≡ false) × ((n.id == c.id) ≡ false))))
  each-in = made.each-in g at.once at.formed known at.tells d may up l1 l2 at.before (suc k) at.a_group q at.alone x at.in_x at.over_x

  elsewhere : (n : Node) (s : OwnedQuant) → In n g.boxes → (n.id == d.id) ≡ false → In s n.quants → (s.over == c.id) ≡ false
  elsewhere = placed.elsewhere g at.once at.formed known at.tells d may up l1 l2 at.before

  d-not-c : (d.id == c.id) ≡ false
  d-not-c = placed.d-not-c g at.once at.formed known at.tells d may

  own : AllOwn q.id c.parts.head
  own = record {
    own = λ p t. eq-eqb p q.id (made.reads-c g at.once at.formed known at.tells d may up l1 l2 at.before (suc k) at.a_group q at.alone x at.in_x at.over_x p t);
    unbound = λ p. elim (cases_Bool (list_any (binds p) c.parts.head)) [
      | inr f ↦ f
      | inl e ↦ absurd (clash (list_any (names p) c.parts.head) (heads-names p c.parts.head e) (made.names-c g at.once at.formed known at.tells d may up l1 l2 at.before (suc k) at.a_group q at.alone x at.in_x at.over_x p))
    ];
  }

  clean-c : clean_by g.boxes known c.parts.kind c ≡ true
  clean-c = subst (λ z. clean_by g.boxes known z c ≡ true) (sym at.a_group) (subst (λ z. AbsorbsBy g.boxes known z c) at.a_group may.absorbs).0

  over : (tables : List Table) → Satisfies tables g.boxes → IsGroupOver tables g d m c x a q (suc k)
  over tables s = record {
    in_x = at.in_x;
    a_group = at.a_group;
    one = at.alone;
    row_q = made.f-q g at.once at.formed known at.tells d may up l1 l2 at.before (suc k) at.a_group q at.alone x at.in_x at.over_x;
    over_x = at.over_x;
    own = own;
    folds = (and_parts _ (list_all is_aggregate (drop (suc k) c.parts.head)) (made.folds-c g at.once at.formed known at.tells d may up l1 l2 at.before (suc k) at.a_group q at.alone x at.in_x at.over_x)).1;
    apart = made.q-not-a g at.once at.formed known at.tells d may up l1 l2 at.before (suc k) at.a_group q at.alone x at.in_x at.over_x;
    sound = λ e u t. fed.group-sound g at.once at.formed known at.tells d may tables s (suc k) x q at.a_group at.alone at.over_x clean-c e u t;
    x_not_c = made.x-not-c g at.once at.formed known at.tells d may up l1 l2 at.before (suc k) at.a_group q at.alone x at.in_x at.over_x;
    m_not_c = made.m-not-c g at.once at.formed known at.tells d may up l1 l2 at.before (suc k) at.a_group q at.alone x at.in_x at.over_x;
    d_not_c = d-not-c;
  }

  root-not-c : (g.root == c.id) ≡ false
  root-not-c = elim (cases_Bool (g.root == c.id)) [
    | inr f ↦ f
    | inl e ↦ absurd (let y = w.top in let u = fed.used-c g at.once at.formed known at.tells d may in let z = subst (λ b. times b (overs_in g.boxes) ≡ 0) (eqb-true g.root c.id e) y in omega (arith, u, z))
  ]

  bags : (tables : List Table) → Satisfies tables g.boxes → Agree same_cells (root_bag tables h) (root_bag tables g)
  bags tables s = absorbs-group tables g h d m c x a r q k (fed.is-fed-at g at.once at.formed known at.tells d may tables s) (over tables s) ordered
      (λ n i. elim (each-in n i) [
        | inl y ↦ inr (inl y)
        | inr y ↦ elim y [ inl z ↦ inr (inr z) | inr z ↦ inl (record { within = z.0; not_d = z.1.0; not_c = z.1.1; elsewhere = λ s j. elsewhere n s z.0 z.1.0 j }) ]
      ])
      g.root (made.rebuilds g at.once at.formed known at.tells d may up l1 l2 at.before (suc k) at.a_group q at.alone x at.in_x at.over_x).rooted root-not-c []

  bases : (tables : List Table) → Satisfies tables g.boxes → Satisfies tables hs
  bases tables s =
      let all : Satisfies tables (up ++ d ∷ (l1 ++ c ∷ l2)) = subst (Satisfies tables) at.before s in
      let low = (satisfies-right tables up (d ∷ (l1 ++ c ∷ l2)) all).1 in
      satisfies-both tables up (d' ∷ (c' ∷ (l1 ++ l2))) (satisfies-left tables up (d ∷ (l1 ++ c ∷ l2)) all)
      (tt, (tt, satisfies-both tables l1 l2 (satisfies-left tables l1 (c ∷ l2) low) (satisfies-right tables l1 (c ∷ l2) low).1))

  pub preserves : Preserves g (compact h)
  preserves = then-compact g h faultless (numbers-once hs ordered) bags bases refl refl

  -- ---- the measure

  looks-as : (n : Node) → In n hs → (n.id == c.id) ≡ false → (p : ℕ) → loose hs n.id p ≡ loose g.boxes n.id p
  looks-as n i f p = made.looks-after g at.once at.formed known at.tells d may up l1 l2 at.before (suc k) at.a_group q at.alone x at.in_x at.over_x n.id p (in-has n hs i) ∙ ap (λ b. not b && loose g.boxes n.id p) f

  whole-same : (s : OwnedQuant) → (u : Node) → In u g.boxes → u.id ≡ s.over → (s.over == c.id) ≡ false → keyless_found (first (is_box s.over) hs) ≡ keyless_found (first (is_box s.over) g.boxes)
  whole-same s u i e f = elim (cases_Bool (u.id == d.id)) [
    | inl t ↦ (
        let to : d.id ≡ s.over = sym (eqb-true u.id d.id t) ∙ e in
        ap keyless_found (subst (λ b. first (is_box b) hs ≡ Some d') to (in-first d' hs ordered (made.in-d' g at.once at.formed known at.tells d may up l1 l2 at.before (suc k) at.a_group q at.alone x at.in_x at.over_x))) ∙ keys-not
        ∙ sym (ap keyless_found (subst (λ b. first (is_box b) g.boxes ≡ Some d) to (in-first d g.boxes w.ordered may.in_d)) ∙ ap is_keyless (fed.kind_d g at.once at.formed known at.tells d may)))
    | inr n ↦ (
        let j = made.to-hs g at.once at.formed known at.tells d may up l1 l2 at.before (suc k) at.a_group q at.alone x at.in_x at.over_x u i n (subst (λ b. (b == c.id) ≡ false) (sym e) f) in
        ap keyless_found (subst (λ b. first (is_box b) hs ≡ Some u) e (in-first u hs ordered j)) ∙ sym (ap keyless_found (subst (λ b. first (is_box b) g.boxes ≡ Some u) e (in-first u g.boxes w.ordered i))))
  ]
    where
      keys-not : (width m + suc k == 0) ≡ false
      keys-not = elim (cases_Bool (width m + suc k == 0)) [ inr f ↦ f | inl t ↦ absurd (let z = eqb-true (width m + suc k) 0 t in omega (arith, z)) ]

  stays : (n : Node) → In n hs → In n g.boxes → (n.id == d.id) ≡ false → (n.id == c.id) ≡ false → Stays g.boxes hs n
  stays n j i nd nc = record {
    closed = λ t. looks-closed hs g.root v n.id (λ p. looks-as n j nc p ∙ closed-looks g.boxes g.root w n.id t p);
    scalars = λ s z t. (
        let f = elsewhere n s i nd z in
        let u = has-in s.over g.boxes (overs-held g.boxes n s w.ordered i z) in
        loose-scalar g.boxes hs s (whole-same s u.0 u.1.0 u.1.1 f) t);
  }

  pub lowers : Lowers g.boxes hs
  lowers = absorb-lowers up l1 l2 (d' ∷ (c' ∷ [])) d c g.boxes hs (record {
    before = at.before;
    after = refl;
    fed = ap is_fed may.is_fed;
    opened = elim (cases_Bool (is_closed g.boxes c.id)) [ inr f ↦ f | inl t ↦ absurd (let y = may.opened in closed-is g.boxes w.ordered c.id t y.0 y.1) ];
    not_fed = not-fed;
    closed = λ n i. elim i [
      | inl e ↦ subst (λ (z : Node). is_closed hs z.id ≡ true) e (looks-closed hs g.root v d.id (λ p. looks-as d' (made.in-d' g at.once at.formed known at.tells d may up l1 l2 at.before (suc k) at.a_group q at.alone x at.in_x at.over_x) d-not-c p ∙ placed.closed-d g at.once at.formed known at.tells d may p))
      | inr z ↦ elim z [
        | inl e ↦ subst (λ (z : Node). is_closed hs z.id ≡ true) e (looks-closed hs g.root v c.id (λ p. made.looks-after g at.once at.formed known at.tells d may up l1 l2 at.before (suc k) at.a_group q at.alone x at.in_x at.over_x c.id p (in-has c' hs (made.in-c' g at.once at.formed known at.tells d may up l1 l2 at.before (suc k) at.a_group q at.alone x at.in_x at.over_x)) ∙ made.looks-c g at.once at.formed known at.tells d may up l1 l2 at.before (suc k) at.a_group q at.alone x at.in_x at.over_x p))
        | inr z ↦ elim z [ ]
      ]
    ];
    stays_up = λ n i. (let y = placed.other-up g at.once at.formed known at.tells d may up l1 l2 at.before n i in stays n (in-left n up (d' ∷ (c' ∷ (l1 ++ l2))) i) y.0 y.1.0 y.1.1);
    stays_left = λ n i. (let y = placed.other-left g at.once at.formed known at.tells d may up l1 l2 at.before n i in stays n (in-right n up (d' ∷ (c' ∷ (l1 ++ l2))) (inr (inr (in-left n l1 l2 i)))) y.0 y.1.0 y.1.1);
    stays_right = λ n i. (let y = placed.other-right g at.once at.formed known at.tells d may up l1 l2 at.before n i in stays n (in-right n up (d' ∷ (c' ∷ (l1 ++ l2))) (inr (inr (in-right n l1 l2 i)))) y.0 y.1.0 y.1.1);
    scalars = (omega arith);
  })
    where
      not-fed : is_fed c.parts.role ≡ false
      not-fed = made.c-not-fed g at.once at.formed known at.tells d may up l1 l2 at.before (suc k) at.a_group q at.alone x at.in_x at.over_x

pub group-preserves : GroupPreserves
group-preserves = λ g known d may k q x up l1 l2 at. preserves g known d may k q x up l1 l2 at

pub group-lowers : GroupLowers
group-lowers = λ g known d may k q x up l1 l2 at. lowers g known d may k q x up l1 l2 at
