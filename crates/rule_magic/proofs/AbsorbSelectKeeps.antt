-- G2 preserves, and lowers the measure.
use Rattle.std.proofs.Common.{ℕ, ◌==◌, ◌≡◌, ◌≤◌, ◌+◌, ◌&&◌, cond, not, true, false, List, [], ◌∷◌, ◌++◌, Some, None, refl, sym, ap, subst, ◌∙◌, eqb-true, ◌⊎◌, inl, inr, arith}
use Rattle.std.proofs.lemmas.Bool.{and_parts, cases_Bool}
use Rattle.row_bag.specs.Bags.{Agree}
use Rattle.row_bag.specs.Sets.{same_cells}
use Rattle.row_bag.specs.declared.tables.Table.{Table}
use Rattle.qgm_core.specs.Boxes.{Ordered, QueryGraph, is_box, owns, width}
use Rattle.qgm_core.specs.Edits.{compact}
use Rattle.qgm_core.specs.Kinds.{is_S, is_fed}
use Rattle.list_laws.specs.Lists.{In, first}
use Rattle.qgm_core.specs.declared.node.Node.{Node}
use Rattle.qgm_core.specs.declared.owned.OwnedQuant.{OwnedQuant}
use Rattle.qgm_wellformed.specs.WellFormed.{fault}
use Rattle.qgm_edit_laws.specs.Graph.{Sound, nodes_in}
use Rattle.qgm_edit_laws.proofs.Ranks.{has-in}
use Rattle.qgm_edit_laws.proofs.Scope.{in-first}
use Rattle.qgm_edit_laws.proofs.WellFormedKept.{numbers-once}
use Rattle.qgm_meaning.specs.Meaning.{root_bag}
use Rattle.qgm_meaning.specs.Satisfies.{Satisfies, SatisfiesBy}
use Rattle.qgm_meaning.specs.Scope.{loose}
use Rattle.qgm_props.specs.Calm.{is_closed}
use Rattle.qgm_props.specs.Inferred.{Facts}
use Rattle.rule_api.specs.Rules.{Preserves}
use Rattle.qgm_props.specs.Lowering.{Stays}
use Rattle.qgm_props.specs.Measure.{Lowers, is_loose_scalar, is_keyless, many, keyless_found}
use Rattle.rule_magic.specs.AbsorbSelect.{SelectAt, SelectLowers, SelectPreserves, absorbed_select}
use Rattle.rule_magic.specs.Boxes.{absorbed_box}
use Rattle.rule_magic.specs.FedBox.{IsOld}
use Rattle.rule_magic.specs.Places.{MayAbsorb}
use Rattle.rule_magic.proofs.CalmFires.{closed-is}
use Rattle.rule_magic.proofs.AbsorbFacts as fed
use Rattle.qgm_props.proofs.Lowering.{absorb-lowers}
use Rattle.qgm_props.proofs.Many.{many-fewer}
use Rattle.rule_magic.proofs.AbsorbBags.{absorbs-select}
use Rattle.rule_magic.proofs.AbsorbSelectFormed as made
use Rattle.rule_magic.proofs.AbsorbShared.{closed-looks, loose-scalar, looks-closed, satisfies-both, satisfies-left, satisfies-right, then-compact}
use Rattle.qgm_core.proofs.Reaching.{in-has, overs-held}
use Rattle.list_laws.proofs.Membership.{eq-false-sym, eq-itself, in-left, in-right}
use Rattle.list_laws.proofs.Booleans.{clash}

module _ (g : QueryGraph) (known : Facts) (d : Node) (may : MayAbsorb g.boxes known d) (up l1 l2 : List Node) (at : SelectAt g known d may up l1 l2) where
  abbrev h : QueryGraph
  h = absorbed_select g known d may up l1 l2

  abbrev c : Node
  c = may.c

  abbrev a : OwnedQuant
  a = may.a

  abbrev hs : List Node
  hs = (absorbed_select g known d may up l1 l2).boxes

  abbrev d' : Node
  d' = absorbed_box d.id may.a (width may.m) may.c

  w : Sound g.boxes g.root
  w = made.w g at.once at.formed known at.tells d may

  pub faultless : fault h ≡ None
  faultless = made.select-formed g at.once at.formed known at.tells d may up l1 l2 at.before at.a_select at.plain h refl refl

  abbrev each-in : (n : Node) → In n hs → (n ≡ d') ⊎ (In n g.boxes × (((n.id == d.id) ≡ false) × ((n.id == c.id) ≡ false)))
  each-in = made.each-in g at.once at.formed known at.tells d may up l1 l2 at.before at.a_select at.plain

  pub ordered : Ordered hs
  ordered = made.ordered g at.once at.formed known at.tells d may up l1 l2 at.before at.a_select at.plain

  elsewhere : (n : Node) (s : OwnedQuant) → In n g.boxes → (n.id == d.id) ≡ false → In s n.quants → (s.over == c.id) ≡ false
  elsewhere = made.elsewhere g at.once at.formed known at.tells d may up l1 l2 at.before

  old : (n : Node) → In n g.boxes → (n.id == d.id) ≡ false → (n.id == c.id) ≡ false → IsOld g d c n
  old n i nd nc = record { within = i; not_d = nd; not_c = nc; elsewhere = λ s j. elsewhere n s i nd j }

  not-owned : owns a.id c ≡ false
  not-owned = elim (cases_Bool (owns a.id c)) [
    | inr f ↦ f
    | inl t ↦ absurd (clash (a.id == a.id) (eq-itself a.id) (made.not-a g at.once at.formed known at.tells d may up l1 l2 at.before at.a_select at.plain a.id t))
  ]

  no-node : nodes_in a.id c ≡ false
  no-node = elim (cases_Bool (nodes_in a.id c)) [ inr f ↦ f | inl t ↦ absurd (clash (owns a.id c) (w.own_nodes c may.in_c a.id t).0 not-owned) ]

  bags : (tables : List Table) → Satisfies tables g.boxes → Agree same_cells (root_bag tables h) (root_bag tables g)
  bags tables s = absorbs-select tables g h d may.m c a may.r (fed.is-fed-at g at.once at.formed known at.tells d may tables s) ordered at.a_select not-owned no-node
      (λ n i. elim (each-in n i) [ inl x ↦ inr x | inr x ↦ inl (old n x.0 x.1.0 x.1.1) ])
      g.root (made.rebuilds g at.once at.formed known at.tells d may up l1 l2 at.before at.a_select at.plain).rooted []

  bases : (tables : List Table) → Satisfies tables g.boxes → Satisfies tables hs
  bases tables s =
      let all : Satisfies tables (up ++ d ∷ (l1 ++ c ∷ l2)) = subst (Satisfies tables) at.before s in
      let low = (satisfies-right tables up (d ∷ (l1 ++ c ∷ l2)) all).1 in
      satisfies-both tables up (d' ∷ (l1 ++ l2)) (satisfies-left tables up (d ∷ (l1 ++ c ∷ l2)) all)
      (subst (λ k. SatisfiesBy k tables) (sym at.a_select) tt, satisfies-both tables l1 l2 (satisfies-left tables l1 (c ∷ l2) low) (satisfies-right tables l1 (c ∷ l2) low).1)

  pub preserves : Preserves g (compact h)
  preserves = then-compact g h faultless (numbers-once hs ordered) bags bases refl refl

  -- ---- the measure

  v : Sound hs g.root
  v = made.sound-after g at.once at.formed known at.tells d may up l1 l2 at.before at.a_select at.plain

  looks-as : (n : Node) → In n hs → (n.id == c.id) ≡ false → (q : ℕ) → loose hs n.id q ≡ loose g.boxes n.id q
  looks-as n i f q = made.looks-after g at.once at.formed known at.tells d may up l1 l2 at.before at.a_select at.plain n.id q (in-has n hs i) ∙ ap (λ b. not b && loose g.boxes n.id q) f

  -- the box under a quantifier that isn't over c
  whole-same : (s : OwnedQuant) → (u : Node) → In u g.boxes → u.id ≡ s.over → (s.over == c.id) ≡ false → keyless_found (first (is_box s.over) hs) ≡ keyless_found (first (is_box s.over) g.boxes)
  whole-same s u i e f = elim (cases_Bool (u.id == d.id)) [
    | inl t ↦ (
        let over : d.id ≡ s.over = sym (eqb-true u.id d.id t) ∙ e in
        ap keyless_found (subst (λ b. first (is_box b) hs ≡ Some d') over (in-first d' hs ordered (made.new-in g at.once at.formed known at.tells d may up l1 l2 at.before at.a_select at.plain))) ∙ ap is_keyless at.a_select
        ∙ sym (ap keyless_found (subst (λ b. first (is_box b) g.boxes ≡ Some d) over (in-first d g.boxes w.ordered may.in_d)) ∙ ap is_keyless (fed.kind_d g at.once at.formed known at.tells d may)))
    | inr n ↦ (
        let j = made.to-hs g at.once at.formed known at.tells d may up l1 l2 at.before at.a_select at.plain u i n (subst (λ b. (b == c.id) ≡ false) (sym e) f) in
        ap keyless_found (subst (λ b. first (is_box b) hs ≡ Some u) e (in-first u hs ordered j)) ∙ sym (ap keyless_found (subst (λ b. first (is_box b) g.boxes ≡ Some u) e (in-first u g.boxes w.ordered i))))
  ]

  under : (n : Node) (s : OwnedQuant) → In n g.boxes → In s n.quants → (s.over == c.id) ≡ false → is_loose_scalar hs s ≡ true → is_loose_scalar g.boxes s ≡ true
  under n s i j f t = let u = has-in s.over g.boxes (overs-held g.boxes n s w.ordered i j) in loose-scalar g.boxes hs s (whole-same s u.0 u.1.0 u.1.1 f) t

  stays : (n : Node) → In n hs → In n g.boxes → (n.id == d.id) ≡ false → (n.id == c.id) ≡ false → Stays g.boxes hs n
  stays n j i nd nc = record {
    closed = λ t. looks-closed hs g.root v n.id (λ q. looks-as n j nc q ∙ closed-looks g.boxes g.root w n.id t q);
    scalars = λ s k t. under n s i k (elsewhere n s i nd k) t;
  }

  pub lowers : Lowers g.boxes hs
  lowers = absorb-lowers up l1 l2 (d' ∷ []) d c g.boxes hs (record {
    before = at.before;
    after = refl;
    fed = ap is_fed may.is_fed;
    opened = elim (cases_Bool (is_closed g.boxes c.id)) [ inr f ↦ f | inl t ↦ absurd (let x = may.opened in closed-is g.boxes w.ordered c.id t x.0 x.1) ];
    not_fed = ap is_fed at.plain;
    closed = λ n i. elim i [
      | inl e ↦ subst (λ (z : Node). is_closed hs z.id ≡ true) e (looks-closed hs g.root v d.id (λ q. looks-as d' (made.new-in g at.once at.formed known at.tells d may up l1 l2 at.before at.a_select at.plain) (fed.d-not-c g at.once at.formed known at.tells d may) q ∙ made.closed-d g at.once at.formed known at.tells d may q))
      | inr z ↦ elim z [ ]
    ];
    stays_up = λ n i. (let x = made.other-up g at.once at.formed known at.tells d may up l1 l2 at.before n i in stays n (in-left n up (d' ∷ (l1 ++ l2)) i) x.0 x.1.0 x.1.1);
    stays_left = λ n i. (let x = made.other-left g at.once at.formed known at.tells d may up l1 l2 at.before n i in stays n (in-right n up (d' ∷ (l1 ++ l2)) (inr (in-left n l1 l2 i))) x.0 x.1.0 x.1.1);
    stays_right = λ n i. (let x = made.other-right g at.once at.formed known at.tells d may up l1 l2 at.before n i in stays n (in-right n up (d' ∷ (l1 ++ l2)) (inr (in-right n l1 l2 i))) x.0 x.1.0 x.1.1);
    scalars = scalars;
  })
    where
      no-scalar : is_loose_scalar hs a ≡ false
      no-scalar = elim (cases_Bool (is_loose_scalar hs a)) [
        | inr f ↦ f
        | inl t ↦ absurd (made.f-not-s a.kind (made.f-a g at.once at.formed known at.tells d may) (and_parts (is_S a.kind) (not (keyless_found (first (is_box a.over) hs))) t).0)
      ]

      scalars : (cond (is_loose_scalar hs a) 1 0 + many (is_loose_scalar hs) c.quants) + 0 ≤ many (is_loose_scalar g.boxes) c.quants
      scalars =
          let x = many-fewer (is_loose_scalar hs) (is_loose_scalar g.boxes) c.quants (λ s j t. under c s may.in_c j (elsewhere c s may.in_c (eq-false-sym d.id c.id (fed.d-not-c g at.once at.formed known at.tells d may)) j) t) in
          let y : (cond false 1 0 + many (is_loose_scalar hs) c.quants) + 0 ≤ many (is_loose_scalar g.boxes) c.quants = (omega (arith, x)) in
          subst (λ b. (cond b 1 0 + many (is_loose_scalar hs) c.quants) + 0 ≤ many (is_loose_scalar g.boxes) c.quants) (sym no-scalar) y

pub select-preserves : SelectPreserves
select-preserves = λ g known d may up l1 l2 at. preserves g known d may up l1 l2 at

pub select-lowers : SelectLowers
select-lowers = λ g known d may up l1 l2 at. lowers g known d may up l1 l2 at
