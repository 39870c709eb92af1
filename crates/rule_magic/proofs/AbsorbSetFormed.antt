-- G4 with a closed right operand: the graph with the set operation over the fed box and the select beside it is well-formed.
use Rattle.std.proofs.Common.{ℕ, ◌==◌, ◌≡◌, ◌≤◌, ◌<◌, ◌+◌, ◌&&◌, ◌||◌, nat_lt, cond, not, Bool, true, false, List, [], ◌∷◌, ◌++◌, map, length, Option, None, Some, refl, sym, ap, ap₂, subst, ◌∙◌, eqb-true, ◌⊎◌, inl, inr, arith}
use Rattle.std.specs.List.{flat_map, list_all, list_any}
use Rattle.std.proofs.lemmas.Bool.{and_from, and_parts, cases_Bool, eq-eqb, ltb-true, not-true, or_cases, or_from, or_left, or_parts, or_right}
use Rattle.sql_value.specs.declared.order_key.SqlType.{SqlType}
use Rattle.sql_value.specs.declared.order_key.SqlType.TheVariants.{Integer, Varchar}
use Rattle.qgm_core.specs.Boxes.{Ordered, QueryGraph, has_box, ids_in, is_box, is_quant, overs_in, overs_of, width}
use Rattle.qgm_core.specs.Edits.{range}
use Rattle.qgm_core.specs.Free.{IsFree, named_by}
use Rattle.qgm_core.specs.Kinds.{is_F, is_S, is_fed, is_magic, is_permit, is_plain, width_by}
use Rattle.list_laws.specs.Lists.{In, holds, times}
use Rattle.qgm_core.specs.declared.kinds.BoxKind.TheVariants.{Select, SetOp}
use Rattle.qgm_core.specs.declared.kinds.QuantKind.TheVariants.{F}
use Rattle.qgm_core.specs.declared.kinds.Role.{Role}
use Rattle.qgm_core.specs.declared.kinds.Role.TheVariants.{Fed, Magic, Plain}
use Rattle.qgm_core.specs.declared.kinds.SetOperator.{SetOperator}
use Rattle.qgm_core.specs.declared.node.Node.{Node}
use Rattle.qgm_core.specs.declared.owned.OwnedQuant.{OwnedQuant}
use Rattle.qgm_wellformed.specs.Shapes as shape
use Rattle.qgm_wellformed.specs.Shapes.{arm_fits, is_none, is_scalar, is_scalar_in, kind_fits}
use Rattle.qgm_wellformed.specs.Types.{Lookup, agree, all_agree, cond_fits, is_known, lookup_of, term_type, types_by}
use Rattle.qgm_wellformed.specs.Types as types
use Rattle.qgm_wellformed.specs.WellFormed.{fault}
use Rattle.qgm_wellformed.proofs.Faults.{finds-none}
use Rattle.qgm_edit_laws.specs.Graph.{ArmsBy, Sound}
use Rattle.qgm_edit_laws.specs.Placed.{place}
use Rattle.qgm_edit_laws.specs.Rebuilds.{HasForm, IsOwned, MadeIn, Rebuilds, StaysIn}
use Rattle.qgm_edit_laws.specs.Reforms.{types_at}
use Rattle.qgm_edit_laws.specs.Shaped.{Shaped, Typed}
use Rattle.qgm_edit_laws.proofs.BoxForms.{counted-seen}
use Rattle.qgm_edit_laws.proofs.Follow.{settled-types}
use Rattle.qgm_edit_laws.proofs.FreeLoose.{looks-asked, looks-free}
use Rattle.qgm_edit_laws.proofs.Ranks.{has-in, place-under, same-box}
use Rattle.qgm_edit_laws.proofs.Read.{any-both}
use Rattle.qgm_edit_laws.proofs.Rebuilt.{looks-exact, rebuilt, rebuilt-formed}
use Rattle.qgm_edit_laws.proofs.Reformed.{wide-types}
use Rattle.qgm_edit_laws.proofs.Scope.{climb, loose-held, one-owner}
use Rattle.qgm_edit_laws.proofs.TypesBy.{agrees-as, arms_by}
use Rattle.qgm_edit_laws.proofs.Edits.{length-map}
use Rattle.qgm_meaning.specs.Scope.{loose, read_by}
use Rattle.qgm_meaning.specs.Tags.{columns_from}
use Rattle.qgm_props.specs.Inferred.{Facts}
use Rattle.qgm_terms.specs.Terms.{Cond, Term}
use Rattle.qgm_terms.specs.Wanted.{reads, reads_cond}
use Rattle.rule_magic.specs.AbsorbSetOperation.{SetAt, absorbed_set}
use Rattle.rule_magic.specs.Boxes.{pair_box, set_box}
use Rattle.rule_magic.specs.Places.{MayAbsorb}
use Rattle.rule_magic.proofs.AbsorbFacts as fed
use Rattle.rule_magic.proofs.AbsorbKeylessFormed.{one-of, replaced}
use Rattle.rule_magic.proofs.AbsorbSelectFormed as made
use Rattle.rule_magic.proofs.AbsorbSelectFormed.{columns-long, f-counts, length-append, times-flat}
use Rattle.rule_magic.proofs.AbsorbShared.{apart-two}
use Rattle.rule_magic.proofs.AbsorbShared.{apart-box, apart-quant}
use Rattle.rule_magic.proofs.BehindColumns.{none-list}
use Rattle.rule_magic.proofs.CalmFires.{shape-kind}
use Rattle.rule_magic.proofs.FedTypes.{types-d}
use Rattle.rule_magic.proofs.PairFormed.{IsPair, lt-from, pair-form, pair-made, width-pair}
use Rattle.rule_magic.proofs.SetFormed.{IsSet, set-form, set-made}
use Rattle.qgm_core.proofs.Reaching.{in-has, overs-held}
use Rattle.list_laws.proofs.Booleans.{clash}
use Rattle.list_laws.proofs.Counting.{in-times, times-append, times-in}
use Rattle.list_laws.proofs.Membership.{all-in, any-from, any-in, eq-false-sym, eq-itself, in-append, in-left, in-right}

-- ---- types

known-agree : (t : Option SqlType) → is_known t ≡ true → agree t t ≡ true
known-agree None h = absurd (let z : ⊥ = cc in z)
known-agree (Some Integer) h = refl
known-agree (Some Varchar) h = refl

all-agree-itself : (ts : List (Option SqlType)) → list_all is_known ts ≡ true → all_agree ts ts ≡ true
all-agree-itself [] h = refl
all-agree-itself (t ∷ ts) h = let a = and_parts (is_known t) (list_all is_known ts) h in and_from (agree t t) (all_agree ts ts) (known-agree t a.0) (all-agree-itself ts a.1)

pub all-agree-behind : (ks os bs : List (Option SqlType)) → list_all is_known ks ≡ true → all_agree os bs ≡ true → all_agree (ks ++ os) (ks ++ bs) ≡ true
all-agree-behind [] os bs h e = e
all-agree-behind (k ∷ ks) os bs h e = let a = and_parts (is_known k) (list_all is_known ks) h in and_from (agree k k) (all_agree (ks ++ os) (ks ++ bs)) (known-agree k a.0) (all-agree-behind ks os bs a.1 e)

two-quants : (rs : List OwnedQuant) (l r : OwnedQuant) → rs ≡ l ∷ (r ∷ []) → shape.are_F 2 rs ≡ true → (is_F l.kind ≡ true) × (is_F r.kind ≡ true)
two-quants rs l r e h =
    let z : shape.are_F 2 (l ∷ (r ∷ [])) ≡ true = subst (λ (z : List OwnedQuant). shape.are_F 2 z ≡ true) e h in
    let a = and_parts (length (l ∷ (r ∷ [])) == 2) (shape.all_F (l ∷ (r ∷ []))) z in
    let b = and_parts (is_F l.kind) (is_F r.kind && true) a.1 in
    (b.0, (and_parts (is_F r.kind) true b.1).0)

module _ (g : QueryGraph) (known : Facts) (d : Node) (may : MayAbsorb g.boxes known d) (form : SetOperator) (ts mt : List SqlType) (l r1 : OwnedQuant) (x y : Node) (s u p : ℕ) (lr rr : Role) (up l1 l2 : List Node) (at : SetAt g known d may form ts mt l r1 x y s u p up l1 l2) where
  abbrev m : Node
  m = may.m

  abbrev c : Node
  c = may.c

  abbrev a : OwnedQuant
  a = may.a

  abbrev r : OwnedQuant
  r = may.r

  abbrev d' : Node
  d' = set_box d.id form mt may.r.id may.c.id u s

  abbrev s' : Node
  s' = pair_box s rr p may.m.id (width may.m) r1.id y.id (width y)

  abbrev c' : Node
  c' = pair_box may.c.id lr may.a.id may.m.id (width may.m) l.id x.id (width x)

  abbrev low : List Node
  low = l1 ++ l2

  abbrev news : List Node
  news = set_box d.id form mt may.r.id may.c.id u s ∷ (pair_box s rr p may.m.id (width may.m) r1.id y.id (width y) ∷ (pair_box may.c.id lr may.a.id may.m.id (width may.m) l.id x.id (width x) ∷ (l1 ++ l2)))

  abbrev hs : List Node
  hs = (absorbed_set g known d may form mt l r1 x y s u p lr rr up l1 l2).boxes

  abbrev kept : ℕ → Bool
  kept b = not (b == c.id)

  abbrev look : ℕ → ℕ → Bool
  look b i = not (b == c.id) && loose g.boxes b i

  pub w : Sound g.boxes g.root
  w = made.w g at.once at.formed known at.tells d may

  pub ty : Typed g.boxes
  ty = made.ty g at.once at.formed known at.tells d may

  pub sh : Shaped g.boxes g.root
  sh = made.sh g at.once at.formed known at.tells d may

  pub in-a : In a d.quants
  in-a = made.in-a g at.once at.formed known at.tells d may

  pub in-r : In r d.quants
  in-r = made.in-r g at.once at.formed known at.tells d may

  pub in-l : In l c.quants
  in-l = subst (λ (z : List OwnedQuant). In l z) (sym at.two) (inl refl)

  pub in-r1 : In r1 c.quants
  in-r1 = subst (λ (z : List OwnedQuant). In r1 z) (sym at.two) (inr (inl refl))

  pub of-c : (P : OwnedQuant → Type 0) → P l → P r1 → (z : OwnedQuant) → In z c.quants → P z
  of-c P a b z j = elim (subst (λ (k : List OwnedQuant). In z k) at.two j) [ inl e ↦ subst P e a | inr k ↦ elim k [ inl e ↦ subst P e b | inr n ↦ elim n [ ] ] ]

  pub d-not-c : (d.id == c.id) ≡ false
  d-not-c = made.d-not-c g at.once at.formed known at.tells d may

  c-not-d : (c.id == d.id) ≡ false
  c-not-d = eq-false-sym d.id c.id d-not-c

  pub elsewhere : (n : Node) (z : OwnedQuant) → In n g.boxes → (n.id == d.id) ≡ false → In z n.quants → (z.over == c.id) ≡ false
  elsewhere = made.elsewhere g at.once at.formed known at.tells d may up l1 l2 at.before

  pub x-not-c : (x.id == c.id) ≡ false
  x-not-c = subst (λ i. (i == c.id) ≡ false) at.over_x (elsewhere c l may.in_c c-not-d in-l)

  pub y-not-c : (y.id == c.id) ≡ false
  y-not-c = subst (λ i. (i == c.id) ≡ false) at.over_y (elsewhere c r1 may.in_c c-not-d in-r1)

  pub m-not-c : (m.id == c.id) ≡ false
  m-not-c = subst (λ i. (i == c.id) ≡ false) (sym may.over_m) (made.a-elsewhere g at.once at.formed known at.tells d may up l1 l2 at.before)

  pub not-d : (n : Node) → place g.boxes d.id < place g.boxes n.id → (n.id == d.id) ≡ false
  not-d n k = elim (cases_Bool (n.id == d.id)) [ inr f ↦ f | inl e ↦ absurd (let z : place g.boxes n.id ≡ place g.boxes d.id = ap (place g.boxes) (eqb-true n.id d.id e) in omega (arith, k, z)) ]

  pub m-not-d : (m.id == d.id) ≡ false
  m-not-d = not-d m (subst (λ i. place g.boxes d.id < place g.boxes i) (sym may.over_m) (place-under g.boxes d a w.ordered may.in_d in-a))

  pub arm-not-d : (z : OwnedQuant) (n : Node) → In z c.quants → z.over ≡ n.id → (n.id == d.id) ≡ false
  arm-not-d z n j e = not-d n (
      let one : place g.boxes d.id < place g.boxes c.id = subst (λ i. place g.boxes d.id < place g.boxes i) (sym may.over_c) (place-under g.boxes d r w.ordered may.in_d in-r) in
      let two : place g.boxes c.id < place g.boxes n.id = subst (λ i. place g.boxes c.id < place g.boxes i) e (place-under g.boxes c z w.ordered may.in_c j) in
      omega (arith, one, two))

  -- ---- the shape of c

  pub set-c : shape.is_set_op g.boxes c ≡ true
  set-c = subst (λ z. kind_fits g.root g.boxes c z ≡ true) at.a_set (shape-kind g at.once at.formed c may.in_c)

  abbrev arms-c : Bool
  arms-c = list_all (arm_fits g.boxes (width c)) c.quants

  five : ((shape.are_F 2 c.quants && arms-c && nat_lt 0 (width c) && is_none c.parts.conds.items && is_none c.parts.head) ≡ true) × (is_plain c.parts.role ≡ true)
  five = and_parts (shape.are_F 2 c.quants && arms-c && nat_lt 0 (width c) && is_none c.parts.conds.items && is_none c.parts.head) (is_plain c.parts.role) set-c

  four : ((shape.are_F 2 c.quants && arms-c && nat_lt 0 (width c) && is_none c.parts.conds.items) ≡ true) × (is_none c.parts.head ≡ true)
  four = and_parts (shape.are_F 2 c.quants && arms-c && nat_lt 0 (width c) && is_none c.parts.conds.items) (is_none c.parts.head) five.0

  three : ((shape.are_F 2 c.quants && arms-c && nat_lt 0 (width c)) ≡ true) × (is_none c.parts.conds.items ≡ true)
  three = and_parts (shape.are_F 2 c.quants && arms-c && nat_lt 0 (width c)) (is_none c.parts.conds.items) four.0

  some-c : nat_lt 0 (width c) ≡ true
  some-c = (and_parts (shape.are_F 2 c.quants && arms-c) (nat_lt 0 (width c)) three.0).1

  pub rows-c : (is_F l.kind ≡ true) × (is_F r1.kind ≡ true)
  rows-c = two-quants c.quants l r1 at.two (and_parts (shape.are_F 2 c.quants) arms-c (and_parts (shape.are_F 2 c.quants && arms-c) (nat_lt 0 (width c)) three.0).0).0

  pub c-not-fed : is_fed c.parts.role ≡ false
  c-not-fed = by c.parts.role five.1
    where
      by : (z : Role) → is_plain z ≡ true → is_fed z ≡ false
      by Plain h = refl
      by Magic h = absurd (let z : ⊥ = cc in z)
      by Fed h = absurd (let z : ⊥ = cc in z)

  width-c : width c ≡ length ts
  width-c = ap (λ z. width_by z (length c.parts.head)) at.a_set

  read-none : (i : ℕ) → read_by c i ≡ true → ⊥
  read-none i h =
      let z : (false || false) ≡ true = subst (λ (k : List Cond). (false || list_any (reads_cond i) k) ≡ true) (none-list c.parts.conds.items three.1) (subst (λ (k : List Term). (list_any (reads i) k || list_any (reads_cond i) c.parts.conds.items) ≡ true) (none-list c.parts.head four.1) h) in
      let e : ⊥ = cc in e

  -- ---- what the operands look up

  pub open-c : (loose g.boxes c.id a.id ≡ true) × ((i : ℕ) → loose g.boxes c.id i ≡ true → i ≡ a.id)
  open-c = made.open-c g at.once at.formed known at.tells d may

  pub arm-alone : (z : OwnedQuant) (n : Node) → In z c.quants → z.over ≡ n.id → (i : ℕ) → loose g.boxes n.id i ≡ true → i ≡ a.id
  arm-alone z n j e i h = elim (climb g.boxes g.root w c z i may.in_c j (subst (λ k. loose g.boxes k i ≡ true) (sym e) h)) [
    | inl k ↦ absurd (let q : SetOp form ts ≡ Select = sym at.a_set ∙ k.0 in let v : ⊥ = cc q in v)
    | inr k ↦ open-c.1 i k
  ]

  pub x-alone : (i : ℕ) → loose g.boxes x.id i ≡ true → i ≡ a.id
  x-alone = arm-alone l x in-l at.over_x

  not-a : (z : OwnedQuant) → In z c.quants → (z.id == a.id) ≡ false
  not-a z j = elim (cases_Bool (z.id == a.id)) [
    | inr f ↦ f
    | inl e ↦ absurd (clash (d.id == c.id) (eq-eqb d.id c.id (ap (λ (z : Node). z.id) (one-owner g.boxes g.root w a.id d c may.in_d may.in_c (any-from (is_quant a.id) a d.quants in-a (eq-itself a.id)) (any-from (is_quant a.id) z c.quants j e)))) d-not-c)
  ]

  pub l-not-a : (l.id == a.id) ≡ false
  l-not-a = not-a l in-l

  pub l-not-r1 : (l.id == r1.id) ≡ false
  l-not-r1 = apart-two g.boxes c l r1 (w.once r1.id) may.in_c at.two

  pub new-id : (i : ℕ) → times i (ids_in g.boxes) ≡ 0 → (z : OwnedQuant) (n : Node) → In n g.boxes → In z n.quants → (z.id == i) ≡ false
  new-id = apart-quant g.boxes

  pub root-not-c : (g.root == c.id) ≡ false
  root-not-c = elim (cases_Bool (g.root == c.id)) [
    | inr f ↦ f
    | inl e ↦ absurd (let b = w.top in let k = fed.used-c g at.once at.formed known at.tells d may in let z : times c.id (overs_in g.boxes) ≡ 0 = subst (λ b. times b (overs_in g.boxes) ≡ 0) (eqb-true g.root c.id e) b in omega (arith, k, z))
  ]

  pub s-not : (n : Node) → In n g.boxes → (s == n.id) ≡ false
  s-not = apart-box g.boxes s at.s_new

  -- ---- where the boxes stand

  pub in-d' : In d' hs
  in-d' = in-right d' up news (inl refl)

  pub in-s' : In s' hs
  in-s' = in-right s' up news (inr (inl refl))

  pub in-c' : In c' hs
  in-c' = in-right c' up news (inr (inr (inl refl)))

  abbrev Old : Node → Type 0
  Old n = In n g.boxes × (((n.id == d.id) ≡ false) × ((n.id == c.id) ≡ false))

  low-old : (n : Node) → In n low → Old n
  low-old n z = elim (in-append n l1 l2 z) [ inl v ↦ made.other-left g at.once at.formed known at.tells d may up l1 l2 at.before n v | inr v ↦ made.other-right g at.once at.formed known at.tells d may up l1 l2 at.before n v ]

  pub each-in : (n : Node) → In n hs → (n ≡ d') ⊎ ((n ≡ s') ⊎ ((n ≡ c') ⊎ (In n g.boxes × (((n.id == d.id) ≡ false) × ((n.id == c.id) ≡ false)))))
  each-in n i = elim (in-append n up news i) [
    | inl j ↦ inr (inr (inr (made.other-up g at.once at.formed known at.tells d may up l1 l2 at.before n j)))
    | inr j ↦ elim j [
      | inl e ↦ inl (sym e)
      | inr j ↦ elim j [
        | inl e ↦ inr (inl (sym e))
        | inr j ↦ elim j [ inl e ↦ inr (inr (inl (sym e))) | inr z ↦ inr (inr (inr (low-old n z))) ]
      ]
    ]
  ]

  pub to-hs : (n : Node) → In n g.boxes → (n.id == d.id) ≡ false → (n.id == c.id) ≡ false → In n hs
  to-hs n i e f = elim (made.place-of g at.once at.formed known at.tells d may up l1 l2 at.before n i) [
    | inl z ↦ absurd (clash (n.id == d.id) (eq-eqb n.id d.id (ap (λ (z : Node). z.id) z)) e)
    | inr z ↦ elim z [
      | inl z ↦ absurd (clash (n.id == c.id) (eq-eqb n.id c.id (ap (λ (z : Node). z.id) z)) f)
      | inr z ↦ elim z [ inl v ↦ in-left n up news v | inr v ↦ in-right n up news (inr (inr (inr v))) ]
    ]
  ]

  pub in-m : In m hs
  in-m = to-hs m may.in_m m-not-d m-not-c

  pub in-x : In x hs
  in-x = to-hs x at.in_x (arm-not-d l x in-l at.over_x) x-not-c

  pub in-y : In y hs
  in-y = to-hs y at.in_y (arm-not-d r1 y in-r1 at.over_y) y-not-c

  od : Ordered (d ∷ (l1 ++ c ∷ l2))
  od = made.od g at.once at.formed known at.tells d may up l1 l2 at.before

  oc' : Ordered (c ∷ l2)
  oc' = made.oc g at.once at.formed known at.tells d may up l1 l2 at.before

  more : (b : ℕ) → (b == c.id) ≡ false → has_box (l1 ++ c ∷ l2) b ≡ true → has_box (l1 ++ l2) b ≡ true
  more = made.more g at.once at.formed known at.tells d may up l1 l2 at.before

  fewer : (b : ℕ) → has_box (l1 ++ c ∷ l2) b ≡ false → has_box (l1 ++ l2) b ≡ false
  fewer = made.fewer g at.once at.formed known at.tells d may up l1 l2 at.before

  low-has-not : (b : ℕ) → ((n : Node) → In n g.boxes → (n.id == d.id) ≡ false → (n.id == c.id) ≡ false → (b == n.id) ≡ false) → has_box (l1 ++ l2) b ≡ false
  low-has-not b f = elim (cases_Bool (has_box (l1 ++ l2) b)) [
    | inr z ↦ z
    | inl e ↦ absurd (let n = has-in b (l1 ++ l2) e in let v = low-old n.0 n.1.0 in clash (b == n.0.id) (eq-eqb b n.0.id (sym n.1.1)) (f n.0 v.0 v.1.0 v.1.1))
  ]

  pub ordered : Ordered hs
  ordered = replaced up (d ∷ (l1 ++ c ∷ l2)) news c.id (made.ob g at.once at.formed known at.tells d may up l1 l2 at.before) (d-none, d-all, (s-none, s-all, (c-none, c-all, made.low g at.once at.formed known at.tells d may up l1 l2 at.before)))
      (λ n i f. (
      let z = or_parts (d.id == n.id) (has_box (l1 ++ c ∷ l2) n.id) f in
      let v = made.other-up g at.once at.formed known at.tells d may up l1 l2 at.before n i in
      or_from (d.id == n.id) ((s == n.id) || ((c.id == n.id) || has_box (l1 ++ l2) n.id)) z.0
      (or_from (s == n.id) ((c.id == n.id) || has_box (l1 ++ l2) n.id) (s-not n v.0)
      (or_from (c.id == n.id) (has_box (l1 ++ l2) n.id) (eq-false-sym n.id c.id v.1.1) (fewer n.id z.1)))))
      (λ b f h. elim (or_cases (d.id == b) (has_box (l1 ++ c ∷ l2) b) h) [
        | inl t ↦ or_left (d.id == b) ((s == b) || ((c.id == b) || has_box (l1 ++ l2) b)) t
        | inr t ↦ or_right (d.id == b) ((s == b) || ((c.id == b) || has_box (l1 ++ l2) b)) (or_right (s == b) ((c.id == b) || has_box (l1 ++ l2) b) (or_right (c.id == b) (has_box (l1 ++ l2) b) (more b f t)))
      ])
      (λ n z i j. (let v = made.other-up g at.once at.formed known at.tells d may up l1 l2 at.before n i in elsewhere n z v.0 v.1.0 j))
    where
      has-m : has_box (l1 ++ l2) m.id ≡ true
      has-m = more m.id m-not-c (subst (λ i. has_box (l1 ++ c ∷ l2) i ≡ true) (sym may.over_m) (all-in (λ (z : OwnedQuant). has_box (l1 ++ c ∷ l2) z.over) a d.quants od.1 in-a))

      has-arm : (z : OwnedQuant) (n : Node) → In z c.quants → z.over ≡ n.id → has_box (l1 ++ l2) n.id ≡ true
      has-arm z n j e = any-both (is_box n.id) l1 l2 ∙ or_right (has_box l1 n.id) (has_box l2 n.id) (subst (λ i. has_box l2 i ≡ true) e (all-in (λ (z : OwnedQuant). has_box l2 z.over) z c.quants oc'.1 j))

      d-none : ((s == d.id) || ((c.id == d.id) || has_box (l1 ++ l2) d.id)) ≡ false
      d-none = or_from (s == d.id) ((c.id == d.id) || has_box (l1 ++ l2) d.id) (s-not d may.in_d) (or_from (c.id == d.id) (has_box (l1 ++ l2) d.id) c-not-d (fewer d.id od.0))

      d-all : (((s == c.id) || ((c.id == c.id) || has_box (l1 ++ l2) c.id)) && (((s == s) || ((c.id == s) || has_box (l1 ++ l2) s)) && true)) ≡ true
      d-all = and_from ((s == c.id) || ((c.id == c.id) || has_box (l1 ++ l2) c.id)) (((s == s) || ((c.id == s) || has_box (l1 ++ l2) s)) && true)
          (or_right (s == c.id) ((c.id == c.id) || has_box (l1 ++ l2) c.id) (or_left (c.id == c.id) (has_box (l1 ++ l2) c.id) (eq-itself c.id)))
          (and_from ((s == s) || ((c.id == s) || has_box (l1 ++ l2) s)) true (or_left (s == s) ((c.id == s) || has_box (l1 ++ l2) s) (eq-itself s)) refl)

      s-none : ((c.id == s) || has_box (l1 ++ l2) s) ≡ false
      s-none = or_from (c.id == s) (has_box (l1 ++ l2) s) (eq-false-sym s c.id (s-not c may.in_c)) (low-has-not s (λ n i e f. s-not n i))

      s-all : (((c.id == m.id) || has_box (l1 ++ l2) m.id) && (((c.id == y.id) || has_box (l1 ++ l2) y.id) && true)) ≡ true
      s-all = and_from ((c.id == m.id) || has_box (l1 ++ l2) m.id) (((c.id == y.id) || has_box (l1 ++ l2) y.id) && true) (or_right (c.id == m.id) (has_box (l1 ++ l2) m.id) has-m)
          (and_from ((c.id == y.id) || has_box (l1 ++ l2) y.id) true (or_right (c.id == y.id) (has_box (l1 ++ l2) y.id) (has-arm r1 y in-r1 at.over_y)) refl)

      c-none : has_box (l1 ++ l2) c.id ≡ false
      c-none = low-has-not c.id (λ n i e f. eq-false-sym n.id c.id f)

      c-all : (has_box (l1 ++ l2) m.id && (has_box (l1 ++ l2) x.id && true)) ≡ true
      c-all = and_from (has_box (l1 ++ l2) m.id) (has_box (l1 ++ l2) x.id && true) has-m (and_from (has_box (l1 ++ l2) x.id) true (has-arm l x in-l at.over_x) refl)

  -- ---- counts

  pub nothing : (b : Bool) → b ≡ false → cond b 1 0 ≤ 0
  nothing true f = absurd (let z : ⊥ = cc f in z)
  nothing false f = omega arith

  counts : (f : OwnedQuant → ℕ) (i : ℕ) (fr fu fp : ℕ) → f (range r.id F c.id) ≡ fr → f (range u F s) ≡ fu → f (range p F m.id) ≡ fp → f (range r1.id F y.id) ≡ f r1 → f (range a.id F m.id) ≡ f a → f (range l.id F x.id) ≡ f l
      → times i (flat_map (λ (z : Node). map f z.quants) hs) + cond (f r == i) 1 0 ≡ times i (flat_map (λ (z : Node). map f z.quants) g.boxes) + (cond (fr == i) 1 0 + (cond (fu == i) 1 0 + cond (fp == i) 1 0))
  counts f i fr fu fp er eu ep e1' ea el =
      let G : Node → List ℕ = λ (z : Node). map f z.quants in
      let e1 = times-flat G i up news in
      let e2 = times-append i (G d') (flat_map G (s' ∷ (c' ∷ low))) in
      let e3 = times-append i (G s') (flat_map G (c' ∷ low)) in
      let e4 = times-append i (G c') (flat_map G low) in
      let e5 = times-flat G i l1 l2 in
      let f1 : times i (G d') ≡ cond (fr == i) 1 0 + (cond (fu == i) 1 0 + 0) = ap₂ (λ v z. cond (v == i) 1 0 + (cond (z == i) 1 0 + 0)) er eu in
      let f2 : times i (G s') ≡ cond (fp == i) 1 0 + (cond (f r1 == i) 1 0 + 0) = ap₂ (λ v z. cond (v == i) 1 0 + (cond (z == i) 1 0 + 0)) ep e1' in
      let f3 : times i (G c') ≡ cond (f a == i) 1 0 + (cond (f l == i) 1 0 + 0) = ap₂ (λ v z. cond (v == i) 1 0 + (cond (z == i) 1 0 + 0)) ea el in
      let k1 = ap (λ (z : List Node). times i (flat_map G z)) at.before in
      let k2 = times-flat G i up (d ∷ (l1 ++ c ∷ l2)) in
      let k3 = times-append i (G d) (flat_map G (l1 ++ c ∷ l2)) in
      let k4 = times-flat G i l1 (c ∷ l2) in
      let k5 = times-append i (G c) (flat_map G l2) in
      let k6 : times i (G d) ≡ cond (f a == i) 1 0 + (cond (f r == i) 1 0 + 0) = ap (λ (z : List OwnedQuant). times i (map f z)) may.quants in
      let k7 : times i (G c) ≡ cond (f l == i) 1 0 + (cond (f r1 == i) 1 0 + 0) = ap (λ (z : List OwnedQuant). times i (map f z)) at.two in
      omega (arith, e1, e2, e3, e4, e5, f1, f2, f3, k1, k2, k3, k4, k5, k6, k7)

  pub once-after : (i : ℕ) → times i (ids_in hs) ≤ 1
  once-after i =
      let t = counts (λ (z : OwnedQuant). z.id) i r.id u p refl refl refl refl refl refl in
      let z = w.once i in
      elim (cases_Bool (u == i)) [
        | inl e ↦ (
            let v = eqb-true u i e in
            let k : times i (ids_in g.boxes) ≡ 0 = subst (λ j. times j (ids_in g.boxes) ≡ 0) v at.u_new in
            let f : (p == i) ≡ false = subst (λ j. (p == j) ≡ false) v (eq-false-sym u p at.apart) in
            let b = one-of (u == i) in let b2 = nothing (p == i) f in omega (arith, t, k, b, b2))
        | inr f ↦ elim (cases_Bool (p == i)) [
          | inl e ↦ (
              let v = eqb-true p i e in
              let k : times i (ids_in g.boxes) ≡ 0 = subst (λ j. times j (ids_in g.boxes) ≡ 0) v at.p_new in
              let b = one-of (p == i) in let b2 = nothing (u == i) f in omega (arith, t, k, b, b2))
          | inr k ↦ (let b = nothing (u == i) f in let b2 = nothing (p == i) k in omega (arith, t, z, b, b2))
        ]
      ]

  -- a box that is neither new nor the magic box has the uses that it had
  pub overs-after : (b : ℕ) → (s == b) ≡ false → (m.id == b) ≡ false → times b (overs_in hs) ≡ times b (overs_in g.boxes)
  overs-after b fs fm =
      let t = counts (λ (z : OwnedQuant). z.over) b c.id s m.id refl refl refl (sym at.over_y) may.over_m (sym at.over_x) in
      let k1 = nothing (s == b) fs in let k2 = nothing (m.id == b) fm in
      let v : cond (r.over == b) 1 0 ≤ cond (c.id == b) 1 0 = subst (λ j. cond (j == b) 1 0 ≤ cond (c.id == b) 1 0) may.over_c (omega arith) in
      let z : cond (c.id == b) 1 0 ≤ cond (r.over == b) 1 0 = subst (λ j. cond (c.id == b) 1 0 ≤ cond (j == b) 1 0) may.over_c (omega arith) in
      omega (arith, t, k1, k2, v, z)

  -- ---- types

  abbrev L : Lookup
  L = lookup_of g.boxes

  abbrev M : List (Option SqlType)
  M = types_at g.boxes m.id

  abbrev X : List (Option SqlType)
  X = types_at g.boxes x.id

  abbrev Y : List (Option SqlType)
  Y = types_at g.boxes y.id

  abbrev C : List (Option SqlType)
  C = types.known ts

  pub types-c : types_at g.boxes c.id ≡ C
  types-c = settled-types g.boxes g.root w c may.in_c ∙ ap (λ z. types_by L z c.parts.head) at.a_set

  pub long-m : length M ≡ width m
  long-m = wide-types g.boxes g.root w m may.in_m

  pub long-x : length X ≡ width x
  long-x = wide-types g.boxes g.root w x at.in_x

  pub long-y : length Y ≡ width y
  long-y = wide-types g.boxes g.root w y at.in_y

  pub long-mt : length mt ≡ width m + length ts
  long-mt = sym (length-map (λ (t : SqlType). Some t) mt) ∙ ap length at.typed ∙ length-append M C ∙ ap₂ ◌+◌ long-m (length-map (λ (t : SqlType). Some t) ts)

  -- the operands have the columns of the set operation, and their types
  pub wide-arm : (z : OwnedQuant) (n : Node) → In z c.quants → z.over ≡ n.id → In n g.boxes → width n ≡ length ts
  wide-arm z n j e i = subst (λ k. ArmsBy k (width n) (width c)) at.a_set (w.arms c n z may.in_c j i (sym e)) ∙ width-c

  pub agree-arm : (z : OwnedQuant) (n : Node) → In z c.quants → z.over ≡ n.id → all_agree (types_at g.boxes n.id) C ≡ true
  agree-arm z n j e =
      let h = sym (agrees-as g.boxes c) ∙ ty c may.in_c in
      let b = and_parts (list_all (cond_fits L) c.parts.conds.items) (arms_by (types_at g.boxes) c.parts.kind c.quants) (and_parts (list_all (λ t. is_known (term_type L t)) c.parts.head) (list_all (cond_fits L) c.parts.conds.items && arms_by (types_at g.boxes) c.parts.kind c.quants) h).1 in
      subst (λ i. all_agree (types_at g.boxes i) C ≡ true) e
      (all-in (λ (z : OwnedQuant). all_agree (types_at g.boxes z.over) C) z c.quants (subst (λ k. arms_by (types_at g.boxes) k c.quants ≡ true) at.a_set b.1) j)

  -- ---- widths

  pub width-d : width d' ≡ width d
  width-d =
      long-mt ∙ ap₂ ◌+◌ (sym (columns-long a.id 1 (width m))) (sym width-c ∙ sym (columns-long r.id 1 (width c)))
      ∙ sym (length-append (columns_from a.id 1 (width m)) (columns_from r.id 1 (width c)))
      ∙ ap length (sym (fed.head-is g at.once at.formed known at.tells d may)) ∙ sym (ap (λ z. width_by z (length d.parts.head)) (fed.kind_d g at.once at.formed known at.tells d may))

  -- what a kept box had, the box of its number has
  pub kept-alike : {A : Type 0} (f : Node → A) → f d' ≡ f d → (v n : Node) → In v g.boxes → In n hs → kept v.id ≡ true → v.id ≡ n.id → f n ≡ f v
  kept-alike f same v n i j k e = elim (each-in n j) [
    | inl z ↦ ap f z ∙ same ∙ ap f (sym (same-box g.boxes v d w.ordered i may.in_d (e ∙ ap (λ (z : Node). z.id) z)))
    | inr z ↦ elim z [
      | inl z ↦ absurd (clash (s == v.id) (eq-eqb s v.id (sym (e ∙ ap (λ (z : Node). z.id) z))) (s-not v i))
      | inr z ↦ elim z [
        | inl z ↦ absurd (clash (v.id == c.id) (eq-eqb v.id c.id (e ∙ ap (λ (z : Node). z.id) z)) (not-true (v.id == c.id) k))
        | inr z ↦ ap f (same-box g.boxes n v w.ordered z.0 i (sym e))
      ]
    ]
  ]

  pub held : (v : Node) → In v g.boxes → has_box hs v.id ≡ true
  held v i = elim (cases_Bool (v.id == d.id)) [
    | inl e ↦ subst (λ b. has_box hs b ≡ true) (sym (eqb-true v.id d.id e)) (in-has d' hs in-d')
    | inr f ↦ elim (cases_Bool (v.id == c.id)) [
      | inl e ↦ subst (λ b. has_box hs b ≡ true) (sym (eqb-true v.id c.id e)) (in-has c' hs in-c')
      | inr k ↦ in-has v hs (to-hs v i f k)
    ]
  ]

  pub open-not-m : (b i : ℕ) → loose g.boxes b i ≡ true → (m.id == b) ≡ false
  open-not-m b i k = elim (cases_Bool (m.id == b)) [ inr f ↦ f | inl e ↦ absurd (clash (loose g.boxes m.id i) (subst (λ z. loose g.boxes z i ≡ true) (sym (eqb-true m.id b e)) k) (fed.closed-m g at.once at.formed known at.tells d may i)) ]

  pub root-not-m : (m.id == g.root) ≡ false
  root-not-m = elim (cases_Bool (m.id == g.root)) [
    | inr f ↦ f
    | inl e ↦ absurd (
        let b = times-in overs_of g.root d g.boxes may.in_d in
        let z = w.top in
        let v : 1 ≤ times g.root (overs_of d) = subst (λ b. 1 ≤ times b (overs_of d)) (sym may.over_m ∙ eqb-true m.id g.root e) (in-times (λ (z : OwnedQuant). z.over) a d.quants in-a) in
        omega (arith, b, z, v))
  ]

  -- types of the boxes after it
  abbrev pub T : ℕ → List (Option SqlType)
  T b = cond (b == c.id) (types_at g.boxes m.id ++ types_at g.boxes x.id) (cond (b == s) (types_at g.boxes m.id ++ types_at g.boxes y.id) (types_at g.boxes b))

  pub T-c : T c.id ≡ M ++ X
  T-c = ap (λ z. cond z (M ++ X) (cond (c.id == s) (M ++ Y) (types_at g.boxes c.id))) (eq-itself c.id)

  pub T-s : T s ≡ M ++ Y
  T-s = ap₂ (λ v z. cond v (M ++ X) (cond z (M ++ Y) (types_at g.boxes s))) (s-not c may.in_c) (eq-itself s)

  pub T-old : (n : Node) → In n g.boxes → (n.id == c.id) ≡ false → T n.id ≡ types_at g.boxes n.id
  T-old n i f = ap₂ (λ v z. cond v (M ++ X) (cond z (M ++ Y) (types_at g.boxes n.id))) f (eq-false-sym s n.id (s-not n i))

  pub T-d : T d.id ≡ types.known mt
  T-d =
      T-old d may.in_d d-not-c ∙ settled-types g.boxes g.root w d may.in_d
      ∙ ap (λ z. types_by L z d.parts.head) (fed.kind_d g at.once at.formed known at.tells d may)
      ∙ types-d g at.once at.formed known at.tells d may ∙ ap (λ (z : List (Option SqlType)). M ++ z) types-c
      ∙ sym at.typed

  known-each : (ts : List SqlType) → list_all is_known (types.known ts) ≡ true
  known-each [] = refl
  known-each (t ∷ ts) = known-each ts

  pub known-m : list_all is_known M ≡ true
  known-m = first-all M C (ap (list_all is_known) (sym at.typed) ∙ known-each mt)
    where
      first-all : (os bs : List (Option SqlType)) → list_all is_known (os ++ bs) ≡ true → list_all is_known os ≡ true
      first-all [] bs h = refl
      first-all (t ∷ os) bs h = let z = and_parts (is_known t) (list_all is_known (os ++ bs)) h in and_from (is_known t) (list_all is_known os) z.0 (first-all os bs z.1)

  pub known-of : (os bs : List (Option SqlType)) → all_agree os bs ≡ true → list_all is_known os ≡ true
  known-of [] bs h = refl
  known-of (t ∷ os) [] h = absurd (let z : ⊥ = cc in z)
  known-of (t ∷ os) (b ∷ bs) h = let z = and_parts (agree t b) (all_agree os bs) h in and_from (is_known t) (list_all is_known os) (known-by t b z.0) (known-of os bs z.1)
    where
      known-by : (t b : Option SqlType) → agree t b ≡ true → is_known t ≡ true
      known-by None b h = absurd (let z : ⊥ = cc in z)
      known-by (Some v) b h = refl

  pub seen-m : is_permit m.parts.distinct ≡ false
  seen-m = counted-seen g.boxes g.root ty sh d m a may.in_d in-a (f-counts a.kind (made.f-a g at.once at.formed known at.tells d may)) may.in_m may.over_m

  pub seen-arm : (z : OwnedQuant) (n : Node) → In z c.quants → is_F z.kind ≡ true → z.over ≡ n.id → In n g.boxes → is_permit n.parts.distinct ≡ false
  seen-arm z n j k e i = counted-seen g.boxes g.root ty sh c n z may.in_c j (f-counts z.kind k) i (sym e)

  -- the owner of an S quantifier stood before
  pub scalar-old : (b : ℕ) → is_scalar hs b ≡ true → (n : Node) × ((z : OwnedQuant) × (In n g.boxes × (((n.id == d.id) ≡ false) × (In z n.quants × (z.over ≡ b)))))
  scalar-old b h =
      let n = any-in (λ (n : Node). is_scalar_in n.quants b) hs h in
      let z = any-in (λ (z : OwnedQuant). (z.over == b) && is_S z.kind) n.0.quants n.1.1 in
      let k = and_parts (z.0.over == b) (is_S z.0.kind) z.1.1 in
      elim (each-in n.0 n.1.0) [
        | inl e ↦ absurd (not-two z.0 r.id c.id u s (subst (λ (n : Node). In z.0 n.quants) e z.1.0) k.1)
        | inr e ↦ elim e [
          | inl e ↦ absurd (not-two z.0 p m.id r1.id y.id (subst (λ (n : Node). In z.0 n.quants) e z.1.0) k.1)
          | inr e ↦ elim e [
            | inl e ↦ absurd (not-two z.0 a.id m.id l.id x.id (subst (λ (n : Node). In z.0 n.quants) e z.1.0) k.1)
            | inr e ↦ (n.0, (z.0, (e.0, (e.1.0, (z.1.0, eqb-true z.0.over b k.0)))))
          ]
        ]
      ]
    where
      not-two : (z : OwnedQuant) (i b j k : ℕ) → In z (range i F b ∷ (range j F k ∷ [])) → is_S z.kind ≡ true → ⊥
      not-two z i b j k v h = elim v [
        | inl e ↦ (let t : is_S F ≡ true = subst (λ (z : OwnedQuant). is_S z.kind ≡ true) (sym e) h in let o : ⊥ = cc in o)
        | inr v ↦ elim v [ inl e ↦ (let t : is_S F ≡ true = subst (λ (z : OwnedQuant). is_S z.kind ≡ true) (sym e) h in let o : ⊥ = cc in o) | inr v ↦ elim v [ ] ]
      ]

  pub scalar-s : is_scalar hs s ≡ true → ⊥
  scalar-s h = let n = scalar-old s h in clash (has_box g.boxes s) (subst (λ z. has_box g.boxes z ≡ true) n.1.1.1.1.1 (overs-held g.boxes n.0 n.1.0 w.ordered n.1.1.0 n.1.1.1.1.0)) at.s_new

  pub scalar-c : is_scalar hs c.id ≡ true → ⊥
  scalar-c h = let n = scalar-old c.id h in clash (n.1.0.over == c.id) (eq-eqb n.1.0.over c.id n.1.1.1.1.1) (elsewhere n.0 n.1.0 n.1.1.0 n.1.1.1.0 n.1.1.1.1.0)

  pub some-mt : nat_lt 0 (length mt) ≡ true
  some-mt = lt-from 0 (length mt) (let a = ltb-true 0 (width c) some-c in let b = width-c in let k = long-mt in omega (arith, a, b, k))

  -- where the right operand is closed
  module _ (is-fed : lr ≡ Fed) (is-plain : rr ≡ Plain) (shut : (i : ℕ) → IsFree g.boxes y.id i → ⊥) where
    pub y-closed : (i : ℕ) → loose g.boxes y.id i ≡ false
    y-closed i = elim (cases_Bool (loose g.boxes y.id i)) [ inr f ↦ f | inl e ↦ absurd (shut i (looks-free g.boxes g.root w y.id i e)) ]

    pub x-open : loose g.boxes x.id a.id ≡ true
    x-open = elim (looks-asked g.boxes g.root w c may.in_c a.id open-c.0).1 [
      | inl h ↦ absurd (read-none a.id h)
      | inr h ↦ of-c (λ (z : OwnedQuant). loose g.boxes z.over a.id ≡ true → loose g.boxes x.id a.id ≡ true) (λ k. subst (λ i. loose g.boxes i a.id ≡ true) at.over_x k)
          (λ k. absurd (clash (loose g.boxes y.id a.id) (subst (λ i. loose g.boxes i a.id ≡ true) at.over_y k) (y-closed a.id))) h.0 h.1.0 h.1.1
    ]

    -- ---- boxes that stay

    stays : (n : Node) → In n g.boxes → (n.id == d.id) ≡ false → (n.id == c.id) ≡ false → StaysIn g.boxes hs kept look n
    stays n i nd nc = record {
      within = i;
      number = ap not nc;
      same = λ i. ap (λ b. not b && loose g.boxes n.id i) nc;
      over = λ z j. (let f = elsewhere n z i nd j in (ap not f, λ i. ap (λ b. not b && loose g.boxes z.over i) f));
      named = λ z h v. elim (cases_Bool (v.0.id == d.id)) [
        | inl e ↦ (
            let same : v.0 ≡ d = same-box g.boxes v.0 d w.ordered v.1.0 may.in_d (eqb-true v.0.id d.id e) in
            elim (made.of-d g at.once at.formed known at.tells d may z (subst (λ (k : Node). In z k.quants) same v.1.1)) [
              | inl k ↦ (ap not (ap (λ (k : OwnedQuant). k.over == c.id) k ∙ made.a-elsewhere g at.once at.formed known at.tells d may up l1 l2 at.before), (range a.id F m.id, ((c', (in-c', inl refl)), (ap (λ (k : OwnedQuant). k.id) (sym k), may.over_m ∙ ap (λ (k : OwnedQuant). k.over) (sym k)))))
              | inr k ↦ absurd (made.r-unnamed g at.once at.formed known at.tells d may n i nd (subst (λ (k : OwnedQuant). holds k.id (named_by n) ≡ true) k h))
            ])
        | inr f ↦ elim (cases_Bool (v.0.id == c.id)) [
          | inl e ↦ (
              let same : v.0 ≡ c = same-box g.boxes v.0 c w.ordered v.1.0 may.in_c (eqb-true v.0.id c.id e) in
              let still : kept z.over ≡ true = ap not (elsewhere v.0 z v.1.0 f v.1.1) in
              of-c (λ (k : OwnedQuant). k ≡ z → (kept z.over ≡ true) × ((t : OwnedQuant) × (IsOwned hs t × ((t.id ≡ z.id) × (t.over ≡ z.over)))))
              (λ k. (still, (range l.id F x.id, ((c', (in-c', inr (inl refl))), (ap (λ (k : OwnedQuant). k.id) k, sym at.over_x ∙ ap (λ (k : OwnedQuant). k.over) k)))))
              (λ k. (still, (range r1.id F y.id, ((s', (in-s', inr (inl refl))), (ap (λ (k : OwnedQuant). k.id) k, sym at.over_y ∙ ap (λ (k : OwnedQuant). k.over) k)))))
              z (subst (λ (k : Node). In z k.quants) same v.1.1) refl)
          | inr k ↦ (ap not (elsewhere v.0 z v.1.0 f v.1.1), (z, ((v.0, (to-hs v.0 v.1.0 f k, v.1.1)), (refl, refl))))
        ]
      ];
    }

    -- ---- boxes that are made

    and-none : (b : Bool) → (b && false) ≡ false
    and-none true = refl
    and-none false = refl

    looks-m : (i : ℕ) → look m.id i ≡ false
    looks-m i = ap (λ b. not (m.id == c.id) && b) (fed.closed-m g at.once at.formed known at.tells d may i) ∙ and-none (not (m.id == c.id))

    looks-y : (i : ℕ) → look y.id i ≡ false
    looks-y i = ap (λ b. not (y.id == c.id) && b) (y-closed i) ∙ and-none (not (y.id == c.id))

    pub looks-c : (i : ℕ) → look c.id i ≡ false
    looks-c i = ap (λ b. not b && loose g.boxes c.id i) (eq-itself c.id)

    pub looks-d : (i : ℕ) → look d.id i ≡ false
    looks-d i = ap (λ b. not b && loose g.boxes d.id i) d-not-c ∙ made.closed-d g at.once at.formed known at.tells d may i

    pub looks-s : (i : ℕ) → look s i ≡ false
    looks-s i = elim (cases_Bool (look s i)) [ inr z ↦ z | inl e ↦ absurd (clash (has_box g.boxes s) (loose-held g.boxes s i (and_parts (not (s == c.id)) (loose g.boxes s i) e).1) at.s_new) ]

    left : IsPair hs look c' m x a.id l.id
    left = record {
      ordered = ordered;
      once = once-after;
      in_n = in-c';
      in_m = in-m;
      in_x = in-x;
      apart = eq-false-sym l.id a.id l-not-a;
      closed = looks-m;
      alone = λ i h. x-alone i (and_parts (not (x.id == c.id)) (loose g.boxes x.id i) h).1;
      nothing = looks-c;
    }

    right : IsPair hs look s' m y p r1.id
    right = record {
      ordered = ordered;
      once = once-after;
      in_n = in-s';
      in_m = in-m;
      in_x = in-y;
      apart = eq-false-sym r1.id p (new-id p at.p_new r1 c may.in_c in-r1);
      closed = looks-m;
      alone = λ i h. absurd (clash (look y.id i) h (looks-y i));
      nothing = looks-s;
    }

    set_is : IsSet hs look d' c' s' mt
    set_is = record {
      ordered = ordered;
      in_n = in-d';
      in_left = in-c';
      in_right = in-s';
      closed_left = looks-c;
      closed_right = looks-s;
      nothing = looks-d;
      wide_left = width-pair hs look c.id a.id l.id lr m x left ∙ ap (λ z. width m + z) (wide-arm l x in-l at.over_x at.in_x) ∙ sym long-mt;
      wide_right = width-pair hs look s p r1.id rr m y right ∙ ap (λ z. width m + z) (wide-arm r1 y in-r1 at.over_y at.in_y) ∙ sym long-mt;
    }

    -- ---- rebuilt

    abbrev fresh : ℕ → Bool
    fresh b = (b == d.id) || ((b == s) || (b == c.id))

    new-box : (n : Node) → In n hs → fresh n.id ≡ true → (n ≡ d') ⊎ ((n ≡ s') ⊎ (n ≡ c'))
    new-box n i h = elim (each-in n i) [
      | inl z ↦ inl z
      | inr z ↦ elim z [
        | inl z ↦ inr (inl z)
        | inr z ↦ elim z [
          | inl z ↦ inr (inr z)
          | inr z ↦ absurd (elim (or_cases (n.id == d.id) ((n.id == s) || (n.id == c.id)) h) [
            | inl e ↦ clash (n.id == d.id) e z.1.0
            | inr h ↦ elim (or_cases (n.id == s) (n.id == c.id) h) [ inl e ↦ clash (n.id == s) e (eq-false-sym s n.id (s-not n z.0)) | inr e ↦ clash (n.id == c.id) e z.1.1 ]
          ])
        ]
      ]
    ]

    number : (n z : Node) → n ≡ z → (n.id == z.id) ≡ true
    number n z e = eq-eqb n.id z.id (ap (λ (z : Node). z.id) e)

    pub rebuilds : Rebuilds g.boxes hs g.root kept look fresh
    rebuilds = record {
      ordered = ordered;
      rooted = (let n = has-in g.root g.boxes w.rooted in subst (λ b. has_box hs b ≡ true) n.1.1 (held n.0 n.1.0));
      top = (let n = has-in g.root g.boxes w.rooted in overs-after g.root (subst (λ b. (s == b) ≡ false) n.1.1 (s-not n.0 n.1.0)) root-not-m ∙ w.top);
      once = once-after;
      wide = λ v n i j k e. kept-alike width width-d v n i j k e;
      magic = λ v n i j k e. kept-alike (λ (z : Node). is_magic z.parts.role) (sym (ap is_magic may.is_fed)) v n i j k e;
      held = λ v i k. held v i;
      used = λ b i h. (
          let k = (and_parts (not (b == c.id)) (loose g.boxes b i) h).1 in
          let n = has-in b g.boxes (loose-held g.boxes b i k) in
          overs-after b (subst (λ z. (s == z) ≡ false) n.1.1 (s-not n.0 n.1.0)) (open-not-m b i k) ∙ w.used b i k);
      each = λ n i. elim (each-in n i) [
        | inl z ↦ inr (or_left (n.id == d.id) ((n.id == s) || (n.id == c.id)) (number n d' z))
        | inr z ↦ elim z [
          | inl z ↦ inr (or_right (n.id == d.id) ((n.id == s) || (n.id == c.id)) (or_left (n.id == s) (n.id == c.id) (number n s' z)))
          | inr z ↦ elim z [
            | inl z ↦ inr (or_right (n.id == d.id) ((n.id == s) || (n.id == c.id)) (or_right (n.id == s) (n.id == c.id) (number n c' z)))
            | inr z ↦ inl (stays n z.0 z.1.0 z.1.1)
          ]
        ]
      ];
      made = λ n i h. elim (new-box n i h) [
        | inl z ↦ subst (MadeIn hs look) (sym z) (set-made hs look d.id r.id u form mt c' s' set_is)
        | inr z ↦ elim z [
          | inl z ↦ subst (MadeIn hs look) (sym z) (pair-made hs look s p r1.id rr m y right)
          | inr z ↦ subst (MadeIn hs look) (sym z) (pair-made hs look c.id a.id l.id lr m x left)
        ]
      ];
    }

    pub sound-after : Sound hs g.root
    sound-after = rebuilt g.boxes hs g.root kept look fresh w rebuilds

    pub looks-after : (b i : ℕ) → has_box hs b ≡ true → loose hs b i ≡ look b i
    looks-after = looks-exact g.boxes hs g.root kept look fresh w rebuilds

    module _ (v : Sound hs g.root) where
      T-m : T m.id ≡ M
      T-m = T-old m may.in_m m-not-c

      T-x : T x.id ≡ X
      T-x = T-old x at.in_x x-not-c

      T-y : T y.id ≡ Y
      T-y = T-old y at.in_y y-not-c

      left-form : HasForm hs g.root T c'
      left-form = pair-form hs look c.id a.id l.id lr m x left g.root v T (T-c ∙ ap₂ (λ (v z : List (Option SqlType)). v ++ z) (sym T-m) (sym T-x)) (ap length T-m ∙ long-m) (ap length T-x ∙ long-x)
          (ap (list_all is_known) T-m ∙ known-m) (ap (list_all is_known) T-x ∙ known-of X C (agree-arm l x in-l at.over_x)) seen-m (seen-arm l x in-l rows-c.0 at.over_x at.in_x) (λ h. absurd (scalar-c h))
          (inr (is-fed, eq-false-sym g.root c.id root-not-c, (fed.magic-m g at.once at.formed known at.tells d may, (looks-x a.id ∙ x-open, λ i h. x-alone i (sym (looks-x i) ∙ h)))))
        where
          looks-x : (i : ℕ) → loose hs x.id i ≡ loose g.boxes x.id i
          looks-x i = looks-after x.id i (in-has x hs in-x) ∙ ap (λ b. not b && loose g.boxes x.id i) x-not-c

      right-form : HasForm hs g.root T s'
      right-form = pair-form hs look s p r1.id rr m y right g.root v T (T-s ∙ ap₂ (λ (v z : List (Option SqlType)). v ++ z) (sym T-m) (sym T-y)) (ap length T-m ∙ long-m) (ap length T-y ∙ long-y)
          (ap (list_all is_known) T-m ∙ known-m) (ap (list_all is_known) T-y ∙ known-of Y C (agree-arm r1 y in-r1 at.over_y)) seen-m (seen-arm r1 y in-r1 rows-c.1 at.over_y at.in_y) (λ h. absurd (scalar-s h)) (inl is-plain)

      set-form-d : HasForm hs g.root T d'
      set-form-d = set-form hs look d.id r.id u form mt c' s' set_is g.root v T T-d (agrees (T c.id) X T-c (agree-arm l x in-l at.over_x)) (agrees (T s) Y T-s (agree-arm r1 y in-r1 at.over_y)) some-mt refl refl
        where
          agrees : (own os : List (Option SqlType)) → own ≡ M ++ os → all_agree os C ≡ true → all_agree own (types.known mt) ≡ true
          agrees own os e h = ap₂ all_agree e at.typed ∙ all-agree-behind M os C known-m h

    -- the check finds nothing after it
    pub set-formed : fault (absorbed_set g known d may form mt l r1 x y s u p lr rr up l1 l2) ≡ None
    set-formed = rebuilt-formed g (absorbed_set g known d may form mt l r1 x y s u p lr rr up l1 l2) kept look fresh T at.once ((finds-none g at.once).1 at.formed) refl rebuilds
        (λ v i k. T-old v i (not-true (v.id == c.id) k))
        (λ n i v f. elim (new-box n i f) [
          | inl z ↦ subst (λ (z : Node). HasForm hs g.root T z) (sym z) (set-form-d v)
          | inr z ↦ elim z [ inl z ↦ subst (λ (z : Node). HasForm hs g.root T z) (sym z) (right-form v) | inr z ↦ subst (λ (z : Node). HasForm hs g.root T z) (sym z) (left-form v) ]
        ])
