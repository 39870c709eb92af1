-- G3 without keys preserves, and lowers the measure.
use Rattle.std.proofs.Common.{ℕ, zero, suc, ◌==◌, ◌≡◌, ◌≤◌, ◌+◌, ◌&&◌, not, true, false, List, [], ◌∷◌, ◌++◌, drop, length, Some, None, refl, sym, ap, ap₂, subst, ◌∙◌, eqb-true, ◌⊎◌, inl, inr, arith}
use Rattle.std.specs.List.{list_all, list_any}
use Rattle.std.proofs.lemmas.Bool.{and_parts, cases_Bool, eq-eqb}
use Rattle.row_bag.specs.Bags.{Agree}
use Rattle.row_bag.specs.Sets.{same_cells}
use Rattle.row_bag.specs.declared.tables.Table.{Table}
use Rattle.qgm_core.specs.Boxes.{Ordered, QueryGraph, is_box, overs_in, width}
use Rattle.qgm_core.specs.Edits.{compact}
use Rattle.qgm_core.specs.Kinds.{is_fed}
use Rattle.list_laws.specs.Lists.{In, first, times}
use Rattle.qgm_core.specs.declared.kinds.Role.TheVariants.{Fed}
use Rattle.qgm_core.specs.declared.node.Node.{Node}
use Rattle.qgm_core.specs.declared.owned.OwnedQuant.{OwnedQuant}
use Rattle.qgm_wellformed.specs.Shapes.{is_aggregate}
use Rattle.qgm_wellformed.specs.WellFormed.{fault}
use Rattle.qgm_edit_laws.specs.Graph.{Sound}
use Rattle.qgm_edit_laws.proofs.AnyPut.{heads-names}
use Rattle.qgm_edit_laws.proofs.Ranks.{has-in}
use Rattle.qgm_edit_laws.proofs.Scope.{in-first}
use Rattle.qgm_edit_laws.proofs.WellFormedKept.{numbers-once}
use Rattle.qgm_meaning.specs.Meaning.{root_bag}
use Rattle.qgm_meaning.specs.Satisfies.{Satisfies}
use Rattle.qgm_meaning.specs.Scope.{loose}
use Rattle.qgm_meaning.specs.Searches.{binds, names}
use Rattle.qgm_props.specs.Calm.{is_closed}
use Rattle.qgm_props.specs.Inferred.{Facts, clean_by}
use Rattle.rule_api.specs.Rules.{Preserves}
use Rattle.qgm_props.specs.Lowering.{Stays}
use Rattle.qgm_props.specs.Measure.{Lowers, is_keyless, keyless_found}
use Rattle.rule_magic.specs.AbsorbGroup.{IsGroupOver, KeylessAt, KeylessLowers, KeylessPreserves, absorbed_keyless}
use Rattle.rule_magic.specs.Boxes.{counted_box, joined_box, keyed_box, pair_box}
use Rattle.rule_magic.specs.Own.{AllOwn}
use Rattle.rule_magic.specs.Places.{AbsorbsBy, MayAbsorb}
use Rattle.rule_magic.proofs.CalmFires.{closed-is}
use Rattle.rule_magic.proofs.AbsorbFacts as fed
use Rattle.rule_magic.proofs.AbsorbGroupFormed as grp
use Rattle.rule_magic.proofs.AbsorbKeylessFormed as made
use Rattle.rule_magic.proofs.MagicWidth.{wide-magic}
use Rattle.qgm_props.proofs.Lowering.{absorb-lowers}
use Rattle.rule_magic.proofs.AbsorbBags.{absorbs-keyless}
use Rattle.rule_magic.proofs.AbsorbSelectFormed as placed
use Rattle.rule_magic.proofs.AbsorbShared.{closed-looks, loose-scalar, looks-closed, satisfies-both, satisfies-left, satisfies-right, then-compact}
use Rattle.qgm_core.proofs.Reaching.{in-has, overs-held}
use Rattle.list_laws.proofs.Membership.{in-left, in-right}
use Rattle.list_laws.proofs.Booleans.{clash}

-- a number that isn't zero
before-one : (n : ℕ) → 1 ≤ n → (w : ℕ) × (n ≡ suc w)
before-one zero l = absurd (omega (arith, l))
before-one (suc n) l = (n, refl)

module _ (g : QueryGraph) (known : Facts) (d : Node) (may : MayAbsorb g.boxes known d) (q : OwnedQuant) (x : Node) (o n om oc p : ℕ) (up l1 l2 : List Node) (at : KeylessAt g known d may q x o n om oc p up l1 l2) where
  abbrev m : Node
  m = may.m

  abbrev c : Node
  c = may.c

  abbrev a : OwnedQuant
  a = may.a

  abbrev r : OwnedQuant
  r = may.r

  abbrev d' : Node
  d' = counted_box d.id may.r.id (width may.m) may.c.parts.head o

  abbrev o' : Node
  o' = joined_box o om may.m.id oc n (width may.m) (length may.c.parts.head)

  abbrev n' : Node
  n' = keyed_box n (width may.m + 0) q.id p (width may.m) (width x) may.c.parts.head may.c.id

  abbrev c' : Node
  c' = pair_box may.c.id Fed may.a.id may.m.id (width may.m) q.id x.id (width x)

  abbrev hs : List Node
  hs = up ++ (counted_box d.id may.r.id (width may.m) may.c.parts.head o ∷ (joined_box o om may.m.id oc n (width may.m) (length may.c.parts.head) ∷ (keyed_box n (width may.m + 0) q.id p (width may.m) (width x) may.c.parts.head may.c.id ∷ (pair_box may.c.id Fed may.a.id may.m.id (width may.m) q.id x.id (width x) ∷ (l1 ++ l2)))))

  abbrev h : QueryGraph
  h = record g { boxes = up ++ (counted_box d.id may.r.id (width may.m) may.c.parts.head o ∷ (joined_box o om may.m.id oc n (width may.m) (length may.c.parts.head) ∷ (keyed_box n (width may.m + 0) q.id p (width may.m) (width x) may.c.parts.head may.c.id ∷ (pair_box may.c.id Fed may.a.id may.m.id (width may.m) q.id x.id (width x) ∷ (l1 ++ l2))))) }

  w : Sound g.boxes g.root
  w = placed.w g at.once at.formed known at.tells d may

  v : Sound hs g.root
  v = made.sound-after g at.once at.formed known at.tells d may up l1 l2 at.before at.a_group q at.alone x at.in_x at.over_x o n om oc p at.fresh

  ordered : Ordered hs
  ordered = made.ordered g at.once at.formed known at.tells d may up l1 l2 at.before at.a_group q at.alone x at.in_x at.over_x o n om oc p at.fresh

  faultless : fault h ≡ None
  faultless = made.whole-formed g at.once at.formed known at.tells d may up l1 l2 at.before at.a_group q at.alone x at.in_x at.over_x o n om oc p at.fresh h refl refl

  each-in : (y : Node) → In y hs → (y ≡ d') ⊎ ((y ≡ o') ⊎ ((y ≡ n') ⊎ ((y ≡ c') ⊎ (In y g.boxes × (((y.id == d.id) ≡ false) × ((y.id == c.id) ≡ false))))))
  each-in = made.each-in g at.once at.formed known at.tells d may up l1 l2 at.before at.a_group q at.alone x at.in_x at.over_x o n om oc p at.fresh

  elsewhere : (y : Node) (s : OwnedQuant) → In y g.boxes → (y.id == d.id) ≡ false → In s y.quants → (s.over == c.id) ≡ false
  elsewhere = placed.elsewhere g at.once at.formed known at.tells d may up l1 l2 at.before

  d-not-c : (d.id == c.id) ≡ false
  d-not-c = placed.d-not-c g at.once at.formed known at.tells d may

  own : AllOwn q.id c.parts.head
  own = record {
    own = λ i t. eq-eqb i q.id (grp.reads-c g at.once at.formed known at.tells d may up l1 l2 at.before 0 at.a_group q at.alone x at.in_x at.over_x i t);
    unbound = λ i. elim (cases_Bool (list_any (binds i) c.parts.head)) [
      | inr f ↦ f
      | inl e ↦ absurd (clash (list_any (names i) c.parts.head) (heads-names i c.parts.head e) (grp.names-c g at.once at.formed known at.tells d may up l1 l2 at.before 0 at.a_group q at.alone x at.in_x at.over_x i))
    ];
  }

  clean-c : clean_by g.boxes known c.parts.kind c ≡ true
  clean-c = subst (λ z. clean_by g.boxes known z c ≡ true) (sym at.a_group) (subst (λ z. AbsorbsBy g.boxes known z c) at.a_group may.absorbs).0

  over : (tables : List Table) → Satisfies tables g.boxes → IsGroupOver tables g d m c x a q 0
  over tables s = record {
    in_x = at.in_x;
    a_group = at.a_group;
    one = at.alone;
    row_q = grp.f-q g at.once at.formed known at.tells d may up l1 l2 at.before 0 at.a_group q at.alone x at.in_x at.over_x;
    over_x = at.over_x;
    own = own;
    folds = (and_parts _ (list_all is_aggregate (drop 0 c.parts.head)) (grp.folds-c g at.once at.formed known at.tells d may up l1 l2 at.before 0 at.a_group q at.alone x at.in_x at.over_x)).1;
    apart = grp.q-not-a g at.once at.formed known at.tells d may up l1 l2 at.before 0 at.a_group q at.alone x at.in_x at.over_x;
    sound = λ e u t. fed.group-sound g at.once at.formed known at.tells d may tables s 0 x q at.a_group at.alone at.over_x clean-c e u t;
    x_not_c = grp.x-not-c g at.once at.formed known at.tells d may up l1 l2 at.before 0 at.a_group q at.alone x at.in_x at.over_x;
    m_not_c = grp.m-not-c g at.once at.formed known at.tells d may up l1 l2 at.before 0 at.a_group q at.alone x at.in_x at.over_x;
    d_not_c = d-not-c;
  }

  root-not-c : (g.root == c.id) ≡ false
  root-not-c = elim (cases_Bool (g.root == c.id)) [
    | inr f ↦ f
    | inl e ↦ absurd (let y = w.top in let u = fed.used-c g at.once at.formed known at.tells d may in let z = subst (λ b. times b (overs_in g.boxes) ≡ 0) (eqb-true g.root c.id e) y in omega (arith, u, z))
  ]

  bags : (tables : List Table) → Satisfies tables g.boxes → Agree same_cells (root_bag tables h) (root_bag tables g)
  bags tables s =
      let wm = before-one (width m) (wide-magic g at.once at.formed known at.tells d may) in
      let e = wm.1 in
      let f : width m + 0 ≡ suc wm.0 = omega (arith, e) in
      absorbs-keyless tables g h d m c x a r q wm.0 o n om oc p e (fed.is-fed-at g at.once at.formed known at.tells d may tables s) (over tables s) ordered
      (record { o_new = at.fresh.o_new; n_new = at.fresh.n_new; apart = at.fresh.two }) at.fresh.om_oc
      (λ y i. elim (each-in y i) [
        | inl z ↦ inr (inl (z ∙ ap (λ k. counted_box d.id r.id k c.parts.head o) e))
        | inr z ↦ elim z [
          | inl z ↦ inr (inr (inl (z ∙ ap (λ k. joined_box o om m.id oc n k (length c.parts.head)) e)))
          | inr z ↦ elim z [
            | inl z ↦ inr (inr (inr (inl (z ∙ ap₂ (λ j k. keyed_box n j q.id p k (width x) c.parts.head c.id) f e))))
            | inr z ↦ elim z [
              | inl z ↦ inr (inr (inr (inr (z ∙ ap (λ k. pair_box c.id Fed a.id m.id k q.id x.id (width x)) e))))
              | inr z ↦ inl (record { within = z.0; not_d = z.1.0; not_c = z.1.1; elsewhere = λ s j. elsewhere y s z.0 z.1.0 j })
            ]
          ]
        ]
      ])
      g.root w.rooted (made.rebuilds g at.once at.formed known at.tells d may up l1 l2 at.before at.a_group q at.alone x at.in_x at.over_x o n om oc p at.fresh).rooted root-not-c []

  bases : (tables : List Table) → Satisfies tables g.boxes → Satisfies tables hs
  bases tables s =
      let all : Satisfies tables (up ++ d ∷ (l1 ++ c ∷ l2)) = subst (Satisfies tables) at.before s in
      let low = (satisfies-right tables up (d ∷ (l1 ++ c ∷ l2)) all).1 in
      satisfies-both tables up (d' ∷ (o' ∷ (n' ∷ (c' ∷ (l1 ++ l2))))) (satisfies-left tables up (d ∷ (l1 ++ c ∷ l2)) all)
      (tt, (tt, (tt, (tt, satisfies-both tables l1 l2 (satisfies-left tables l1 (c ∷ l2) low) (satisfies-right tables l1 (c ∷ l2) low).1))))

  preserves-as : Preserves g (compact h)
  preserves-as = then-compact g h faultless (numbers-once hs ordered) bags bases refl refl

  same-width : width may.m + 0 ≡ width may.m
  same-width = omega arith

  abbrev with_keys : ℕ → List Node
  with_keys k = up ++ (counted_box d.id may.r.id (width may.m) may.c.parts.head o ∷ (joined_box o om may.m.id oc n (width may.m) (length may.c.parts.head) ∷ (keyed_box n k q.id p (width may.m) (width x) may.c.parts.head may.c.id ∷ (pair_box may.c.id Fed may.a.id may.m.id (width may.m) q.id x.id (width x) ∷ (l1 ++ l2)))))

  pub preserves : Preserves g (compact (absorbed_keyless g known d may q x o n om oc p up l1 l2))
  preserves = subst (λ k. Preserves g (compact (record g { boxes = with_keys k }))) same-width preserves-as

  -- ---- the measure

  looks-as : (y : Node) → In y hs → (y.id == c.id) ≡ false → (i : ℕ) → loose hs y.id i ≡ loose g.boxes y.id i
  looks-as y j f i = made.looks-after g at.once at.formed known at.tells d may up l1 l2 at.before at.a_group q at.alone x at.in_x at.over_x o n om oc p at.fresh y.id i (in-has y hs j) ∙ ap (λ b. not b && loose g.boxes y.id i) f

  whole-same : (s : OwnedQuant) → (u : Node) → In u g.boxes → u.id ≡ s.over → (s.over == c.id) ≡ false → keyless_found (first (is_box s.over) hs) ≡ keyless_found (first (is_box s.over) g.boxes)
  whole-same s u i e f = elim (cases_Bool (u.id == d.id)) [
    | inl t ↦ (
        let to : d.id ≡ s.over = sym (eqb-true u.id d.id t) ∙ e in
        ap keyless_found (subst (λ b. first (is_box b) hs ≡ Some d') to (in-first d' hs ordered (made.in-d' g at.once at.formed known at.tells d may up l1 l2 at.before at.a_group q at.alone x at.in_x at.over_x o n om oc p at.fresh)))
        ∙ sym (ap keyless_found (subst (λ b. first (is_box b) g.boxes ≡ Some d) to (in-first d g.boxes w.ordered may.in_d)) ∙ ap is_keyless (fed.kind_d g at.once at.formed known at.tells d may)))
    | inr y ↦ (
        let j = made.to-hs g at.once at.formed known at.tells d may up l1 l2 at.before at.a_group q at.alone x at.in_x at.over_x o n om oc p at.fresh u i y (subst (λ b. (b == c.id) ≡ false) (sym e) f) in
        ap keyless_found (subst (λ b. first (is_box b) hs ≡ Some u) e (in-first u hs ordered j)) ∙ sym (ap keyless_found (subst (λ b. first (is_box b) g.boxes ≡ Some u) e (in-first u g.boxes w.ordered i))))
  ]

  stays : (y : Node) → In y hs → In y g.boxes → (y.id == d.id) ≡ false → (y.id == c.id) ≡ false → Stays g.boxes hs y
  stays y j i nd nc = record {
    closed = λ t. looks-closed hs g.root v y.id (λ i. looks-as y j nc i ∙ closed-looks g.boxes g.root w y.id t i);
    scalars = λ s z t. (
        let f = elsewhere y s i nd z in
        let u = has-in s.over g.boxes (overs-held g.boxes y s w.ordered i z) in
        loose-scalar g.boxes hs s (whole-same s u.0 u.1.0 u.1.1 f) t);
  }

  closed-by : (y : Node) → In y hs → ((i : ℕ) → (not (y.id == c.id) && loose g.boxes y.id i) ≡ false) → is_closed hs y.id ≡ true
  closed-by y j f = looks-closed hs g.root v y.id (λ i. made.looks-after g at.once at.formed known at.tells d may up l1 l2 at.before at.a_group q at.alone x at.in_x at.over_x o n om oc p at.fresh y.id i (in-has y hs j) ∙ f i)

  lowers-as : Lowers g.boxes hs
  lowers-as = absorb-lowers up l1 l2 (d' ∷ (o' ∷ (n' ∷ (c' ∷ [])))) d c g.boxes hs (record {
    before = at.before;
    after = refl;
    fed = ap is_fed may.is_fed;
    opened = elim (cases_Bool (is_closed g.boxes c.id)) [ inr f ↦ f | inl t ↦ absurd (let y = may.opened in closed-is g.boxes w.ordered c.id t y.0 y.1) ];
    not_fed = grp.c-not-fed g at.once at.formed known at.tells d may up l1 l2 at.before 0 at.a_group q at.alone x at.in_x at.over_x;
    closed = λ y i. elim i [
      | inl e ↦ subst (λ (z : Node). is_closed hs z.id ≡ true) e (closed-by d' (made.in-d' g at.once at.formed known at.tells d may up l1 l2 at.before at.a_group q at.alone x at.in_x at.over_x o n om oc p at.fresh) (made.looks-d g at.once at.formed known at.tells d may up l1 l2 at.before at.a_group q at.alone x at.in_x at.over_x o n om oc p at.fresh))
      | inr i ↦ elim i [
        | inl e ↦ subst (λ (z : Node). is_closed hs z.id ≡ true) e (closed-by o' (made.in-o' g at.once at.formed known at.tells d may up l1 l2 at.before at.a_group q at.alone x at.in_x at.over_x o n om oc p at.fresh) (made.looks-new g at.once at.formed known at.tells d may up l1 l2 at.before at.a_group q at.alone x at.in_x at.over_x o n om oc p at.fresh o at.fresh.o_new))
        | inr i ↦ elim i [
          | inl e ↦ subst (λ (z : Node). is_closed hs z.id ≡ true) e (closed-by n' (made.in-n' g at.once at.formed known at.tells d may up l1 l2 at.before at.a_group q at.alone x at.in_x at.over_x o n om oc p at.fresh) (made.looks-new g at.once at.formed known at.tells d may up l1 l2 at.before at.a_group q at.alone x at.in_x at.over_x o n om oc p at.fresh n at.fresh.n_new))
          | inr i ↦ elim i [ inl e ↦ subst (λ (z : Node). is_closed hs z.id ≡ true) e (closed-by c' (made.in-c' g at.once at.formed known at.tells d may up l1 l2 at.before at.a_group q at.alone x at.in_x at.over_x o n om oc p at.fresh) (made.looks-c g at.once at.formed known at.tells d may up l1 l2 at.before at.a_group q at.alone x at.in_x at.over_x o n om oc p at.fresh)) | inr z ↦ elim z [ ] ]
        ]
      ]
    ];
    stays_up = λ y i. (let z = placed.other-up g at.once at.formed known at.tells d may up l1 l2 at.before y i in stays y (in-left y up (d' ∷ (o' ∷ (n' ∷ (c' ∷ (l1 ++ l2))))) i) z.0 z.1.0 z.1.1);
    stays_left = λ y i. (let z = placed.other-left g at.once at.formed known at.tells d may up l1 l2 at.before y i in stays y (in-right y up (d' ∷ (o' ∷ (n' ∷ (c' ∷ (l1 ++ l2))))) (inr (inr (inr (inr (in-left y l1 l2 i)))))) z.0 z.1.0 z.1.1);
    stays_right = λ y i. (let z = placed.other-right g at.once at.formed known at.tells d may up l1 l2 at.before y i in stays y (in-right y up (d' ∷ (o' ∷ (n' ∷ (c' ∷ (l1 ++ l2))))) (inr (inr (inr (inr (in-right y l1 l2 i)))))) z.0 z.1.0 z.1.1);
    scalars = (omega arith);
  })

  pub ordered-after : Ordered (absorbed_keyless g known d may q x o n om oc p up l1 l2).boxes
  ordered-after = subst (λ k. Ordered (with_keys k)) same-width ordered

  pub faultless-after : fault (absorbed_keyless g known d may q x o n om oc p up l1 l2) ≡ None
  faultless-after = subst (λ k. fault (record g { boxes = with_keys k }) ≡ None) same-width faultless

  pub lowers : Lowers g.boxes (absorbed_keyless g known d may q x o n om oc p up l1 l2).boxes
  lowers = subst (λ k. Lowers g.boxes (with_keys k)) same-width lowers-as

pub keyless-preserves : KeylessPreserves
keyless-preserves = λ g known d may q x o n om oc p up l1 l2 at. preserves g known d may q x o n om oc p up l1 l2 at

pub keyless-lowers : KeylessLowers
keyless-lowers = λ g known d may q x o n om oc p up l1 l2 at. lowers g known d may q x o n om oc p up l1 l2 at
