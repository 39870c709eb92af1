-- The places of J1 are exactly those where it may fire.
use Rattle.std.proofs.Common.{ℕ, zero, suc, ◌+◌, ◌==◌, ◌≡◌, ◌&&◌, ◌||◌, ◌<◌, not, cond, Bool, true, false, List, [], ◌∷◌, Option, Some, None, refl, sym, ap, ap₂, subst, ◌∙◌, eqb-true, inl, inr, arith}
use Rattle.std.specs.Prelude.{◌↔◌, ◌⊎◌, slice_get}
use Rattle.std.proofs.lemmas.Bool.{and_from, and_parts, cases_Bool, eq-eqb, not-true, or_cases, or_left, or_right}
use mathlib.Core.Path.{fun_ext}
use Rattle.qgm_core.specs.Boxes.{QueryGraph, box_of, numbers}
use Rattle.qgm_core.specs.Kinds.{is_fed, is_select}
use Rattle.qgm_core.proofs.KindTests.{select-is}
use Rattle.list_laws.specs.Lists.{EachOnce, In}
use Rattle.list_laws.proofs.Booleans.{clash}
use Rattle.list_laws.proofs.Membership.{any-none, any-not}
use Rattle.qgm_core.specs.declared.kinds.BoxKind.{BoxKind}
use Rattle.qgm_core.specs.declared.kinds.BoxKind.TheVariants.{Base, Select, Group, SetOp, OuterJoin}
use Rattle.qgm_core.specs.declared.node.Node.{Node}
use Rattle.qgm_edit_laws.specs.Graph.{binds_row}
use Rattle.qgm_edit_laws.specs.ImpliedEquality.{Equates}
use Rattle.qgm_props.specs.Inferred.{Facts, error_free, error_free_under}
use Rattle.qgm_props.specs.Laws.{Tells}
use Rattle.qgm_props.proofs.Settled.{all-told}
use Rattle.qgm_terms.specs.Terms.{Cond, Term, always, and, both, choose, col, compare, count_all, every, fold, int, is_null, minus_of, null_int, null_text, or, scalar, some, text, equal, unequal, below, at_most, above, at_least, same, like}
use Rattle.qgm_terms.specs.Terms as t
use Rattle.qgm_terms.specs.declared.named.Column.{Column}
use Rattle.qgm_wellformed.specs.Sentences.{WellFormed}
use Rattle.rule_api.specs.PickLaws.{grid_ascending, grid_exact}
use Rattle.rule_api.specs.Picks.{PassesBoth, grid}
use Rattle.rule_api.specs.Rules.{Ascending}
use Rattle.rule_api.specs.declared.place.Place.{Place}
use Rattle.rule_facts.specs.Told.{infers, told-is}
use Rattle.rule_trans.specs.Adding.{add_plan}
use Rattle.rule_trans.specs.EqualColumns.{MayEqualColumns}
use Rattle.rule_trans.specs.EqualColumnsPlaces.{are_three, equal_columns_pairs, equality, implied, implied_by, implied_of, infers_free, is_outer_join, joins, pair_if, pairs_in, passes, takes}
use Rattle.rule_trans.specs.Equalities.{both_of, column_of, equated, equated_of, equates, is_of, is_same, is_some, is_there, sides}
use Rattle.rule_trans.specs.Follows.{IsConjunct}
use Rattle.rule_trans.specs.Numbered.{nth-from, nth-to}
use Rattle.rule_trans.specs.declared.adding.AddPlan.{AddPlan}
use Rattle.rule_trans.specs.declared.equalities.Equality.{Equality}

-- ---- columns and equalities

abbrev pub col_of : Column → Term
col_of a = col a.quant a.place

pub column-from : (x : Term) (a : Column) → column_of x ≡ Some a → x ≡ col_of a
column-from (int n) a h = absurd (let z : ⊥ = cc in z)
column-from (text s) a h = absurd (let z : ⊥ = cc in z)
column-from null_int a h = absurd (let z : ⊥ = cc in z)
column-from null_text a h = absurd (let z : ⊥ = cc in z)
column-from (col q k) a h = let e : record { quant = q; place = k } ≡ a = cc in ap col_of e
column-from (scalar q) a h = absurd (let z : ⊥ = cc in z)
column-from (both o x y) a h = absurd (let z : ⊥ = cc in z)
column-from (minus_of x) a h = absurd (let z : ⊥ = cc in z)
column-from (choose s x) a h = absurd (let z : ⊥ = cc in z)
column-from count_all a h = absurd (let z : ⊥ = cc in z)
column-from (fold f d x) a h = absurd (let z : ⊥ = cc in z)

both-from : (x y : Option Column) (e : Equality) → both_of x y ≡ Some e → (x ≡ Some e.left) × (y ≡ Some e.right)
both-from None y e h = absurd (let z : ⊥ = cc in z)
both-from (Some x) None e h = absurd (let z : ⊥ = cc in z)
both-from (Some x) (Some y) e h =
    let d : record { left = x; right = y } ≡ e = cc in (ap (λ (z : Equality). Some z.left) d, ap (λ (z : Equality). Some z.right) d)

-- a condition whose two sides these are
pub sides-from : (c : Cond) (p : Term × Term) → sides c ≡ Some p → c ≡ compare equal p.0 p.1
sides-from always p h = absurd (let z : ⊥ = cc in z)
sides-from (compare equal x y) p h = let d : (x, y) ≡ p = cc in ap (λ (q : Term × Term). compare equal q.0 q.1) d
sides-from (compare unequal x y) p h = absurd (let z : ⊥ = cc in z)
sides-from (compare below x y) p h = absurd (let z : ⊥ = cc in z)
sides-from (compare at_most x y) p h = absurd (let z : ⊥ = cc in z)
sides-from (compare above x y) p h = absurd (let z : ⊥ = cc in z)
sides-from (compare at_least x y) p h = absurd (let z : ⊥ = cc in z)
sides-from (compare same x y) p h = absurd (let z : ⊥ = cc in z)
sides-from (compare like x y) p h = absurd (let z : ⊥ = cc in z)
sides-from (is_null x) p h = absurd (let z : ⊥ = cc in z)
sides-from (and a b) p h = absurd (let z : ⊥ = cc in z)
sides-from (or a b) p h = absurd (let z : ⊥ = cc in z)
sides-from (t.not a) p h = absurd (let z : ⊥ = cc in z)
sides-from (some q a) p h = absurd (let z : ⊥ = cc in z)
sides-from (every q a) p h = absurd (let z : ⊥ = cc in z)

columns-from : (c : Cond) (o : Option (Term × Term)) → sides c ≡ o → (e : Equality) → equated_of o ≡ Some e → c ≡ equality e
columns-from c None s e h = absurd (let z : ⊥ = cc in z)
columns-from c (Some p) s e h = let b = both-from (column_of p.0) (column_of p.1) e h in sides-from c p s ∙ ap₂ (compare equal) (column-from p.0 e.left b.0) (column-from p.1 e.right b.1)

-- a condition whose two columns these are
pub equated-from : (c : Cond) (e : Equality) → equated c ≡ Some e → c ≡ equality e
equated-from c e h = columns-from c (sides c) refl e h

pub same-from : (a b : Column) → is_same a b ≡ true → a ≡ b
same-from a b h =
    let p = and_parts (a.quant == b.quant) (a.place == b.place) h in
    ap₂ (λ (q k : ℕ). record { quant = q; place = k }) (eqb-true a.quant b.quant p.0) (eqb-true a.place b.place p.1)

pub same-to : (a b : Column) → a ≡ b → is_same a b ≡ true
same-to a b e = and_from (a.quant == b.quant) (a.place == b.place) (eq-eqb a.quant b.quant (ap (λ (c : Column). c.quant) e)) (eq-eqb a.place b.place (ap (λ (c : Column). c.place) e))

-- an equality of a and c, in either order
abbrev pub Sides : Column → Column → Equality → Type 0
Sides a c e = ((a ≡ e.left) × (c ≡ e.right)) ⊎ ((a ≡ e.right) × (c ≡ e.left))

pub sides-equate : (a c : Column) (e : Equality) (d : Cond) → equated d ≡ Some e → Sides a c e → Equates (col_of a) (col_of c) d
sides-equate a c e d h s = elim s [
  | inl p ↦ inl (equated-from d e h ∙ ap₂ (λ (x y : Column). compare equal (col_of x) (col_of y)) (sym p.0) (sym p.1))
  | inr p ↦ inr (equated-from d e h ∙ ap₂ (λ (x y : Column). compare equal (col_of x) (col_of y)) (sym p.1) (sym p.0))
]

pub equate-sides : (a c : Column) (d : Cond) → Equates (col_of a) (col_of c) d → (e : Equality) × ((equated d ≡ Some e) × Sides a c e)
equate-sides a c d h = elim h [
  | inl e ↦ (record { left = a; right = c }, (ap equated e, inl (refl, refl)))
  | inr e ↦ (record { left = c; right = a }, (ap equated e, inr (refl, refl)))
]

-- ---- an equality that is there

of-sides : (a c : Column) (e : Equality) → is_of a c e ≡ true → Sides a c e
of-sides a c e h = elim (or_cases (is_same a e.left && is_same c e.right) (is_same c e.left && is_same a e.right) h) [
  | inl t ↦ (let p = and_parts (is_same a e.left) (is_same c e.right) t in inl (same-from a e.left p.0, same-from c e.right p.1))
  | inr t ↦ (let p = and_parts (is_same c e.left) (is_same a e.right) t in inr (same-from a e.right p.1, same-from c e.left p.0))
]

sides-of : (a c : Column) (e : Equality) → Sides a c e → is_of a c e ≡ true
sides-of a c e s = elim s [
  | inl p ↦ or_left (is_same a e.left && is_same c e.right) (is_same c e.left && is_same a e.right) (and_from (is_same a e.left) (is_same c e.right) (same-to a e.left p.0) (same-to c e.right p.1))
  | inr p ↦ or_right (is_same a e.left && is_same c e.right) (is_same c e.left && is_same a e.right) (and_from (is_same c e.left) (is_same a e.right) (same-to c e.left p.1) (same-to a e.right p.0))
]

found-equates : (a c : Column) (o : Option Equality) → equates a c o ≡ true → (e : Equality) × ((o ≡ Some e) × Sides a c e)
found-equates a c None h = absurd (let z : ⊥ = cc in z)
found-equates a c (Some e) h = (e, (refl, of-sides a c e h))

none-there : (a c : Column) (cs : List Cond) → is_there a c cs ≡ false → (e : Cond) → In e cs → Equates (col_of a) (col_of c) e → ⊥
none-there a c cs h e i q =
    let s = equate-sides a c e q in
    clash (equates a c (equated e)) (ap (equates a c) s.1.0 ∙ sides-of a c s.0 s.1.1) (any-none (λ e. equates a c (equated e)) e cs h i)

there-none : (a c : Column) (cs : List Cond) → ((e : Cond) → In e cs → Equates (col_of a) (col_of c) e → ⊥) → is_there a c cs ≡ false
there-none a c cs n = any-not (λ e. equates a c (equated e)) cs (λ e i. elim (cases_Bool (equates a c (equated e))) [
  | inr f ↦ f
  | inl h ↦ absurd (let s = found-equates a c (equated e) h in n e i (sides-equate a c s.0 e s.1.0 s.1.1))
])

-- ---- what is inferred

pub free-told : (g : QueryGraph) (known : Facts) → Tells known g.boxes → (b : Column) → error_free_under g.boxes known b.quant b.place ≡ infers_free g b
unfolding infers_free infers
free-told g known tells b = ap (λ (f : ℕ → ℕ → Bool). error_free_under g.boxes (record known { error_free = f }) b.quant b.place) (fun_ext (λ x. fun_ext (λ k. told-is g.boxes known tells (error_free x k))))

-- ---- two equalities

-- a and b are the columns of e, m and c those of f, and of both x follows
record Chosen (g : QueryGraph) (n : Node) (e f x : Equality) : Type 0 where
  a : Column
  b : Column
  m : Column
  c : Column
  first : Sides a b e
  second : Sides m c f
  joined : joins g n a b m c ≡ true
  is : x ≡ record { left = a; right = c }

pair-from : (t : Bool) (a c : Column) (o : Option Equality) (x : Equality) → pair_if t a c o ≡ Some x → ((t ≡ true) × (x ≡ record { left = a; right = c })) ⊎ (o ≡ Some x)
pair-from true a c o x h = inl (refl, (let e : x ≡ record { left = a; right = c } = cc in e))
pair-from false a c o x h = inr h

pair-to : (t : Bool) (a c : Column) (o : Option Equality) → is_some (pair_if t a c o) ≡ (t || is_some o)
pair-to true a c o = refl
pair-to false a c o = refl

module _ (g : QueryGraph) (n : Node) (e f : Equality) where
  chosen-from : (x : Equality) → implied_by g n e f ≡ Some x → Chosen g n e f x
  chosen-from x h =
      elim (pair-from (joins g n e.left e.right f.left f.right) e.left f.right o2 x h) [
        | inl p ↦ record { a = e.left; b = e.right; m = f.left; c = f.right; first = inl (refl, refl); second = inl (refl, refl); joined = p.0; is = p.1 }
        | inr h2 ↦ elim (pair-from (joins g n e.left e.right f.right f.left) e.left f.left o3 x h2) [
          | inl p ↦ record { a = e.left; b = e.right; m = f.right; c = f.left; first = inl (refl, refl); second = inr (refl, refl); joined = p.0; is = p.1 }
          | inr h3 ↦ elim (pair-from (joins g n e.right e.left f.left f.right) e.right f.right o4 x h3) [
            | inl p ↦ record { a = e.right; b = e.left; m = f.left; c = f.right; first = inr (refl, refl); second = inl (refl, refl); joined = p.0; is = p.1 }
            | inr h4 ↦ elim (pair-from (joins g n e.right e.left f.right f.left) e.right f.left None x h4) [
              | inl p ↦ record { a = e.right; b = e.left; m = f.right; c = f.left; first = inr (refl, refl); second = inr (refl, refl); joined = p.0; is = p.1 }
              | inr z ↦ absurd (let y : ⊥ = cc in y)
            ]
          ]
        ]
      ]
    where
      o4 : Option Equality
      o4 = pair_if (joins g n e.right e.left f.right f.left) e.right f.left None

      o3 : Option Equality
      o3 = pair_if (joins g n e.right e.left f.left f.right) e.right f.right o4

      o2 : Option Equality
      o2 = pair_if (joins g n e.left e.right f.right f.left) e.left f.left o3

  some-of-four : is_some (implied_by g n e f) ≡ (joins g n e.left e.right f.left f.right || (joins g n e.left e.right f.right f.left || (joins g n e.right e.left f.left f.right || (joins g n e.right e.left f.right f.left || false))))
  some-of-four =
      pair-to (joins g n e.left e.right f.left f.right) e.left f.right (pair_if (joins g n e.left e.right f.right f.left) e.left f.left (pair_if (joins g n e.right e.left f.left f.right) e.right f.right (pair_if (joins g n e.right e.left f.right f.left) e.right f.left None)))
      ∙ ap (λ (t : Bool). joins g n e.left e.right f.left f.right || t) (pair-to (joins g n e.left e.right f.right f.left) e.left f.left (pair_if (joins g n e.right e.left f.left f.right) e.right f.right (pair_if (joins g n e.right e.left f.right f.left) e.right f.left None))
      ∙ ap (λ (t : Bool). joins g n e.left e.right f.right f.left || t) (pair-to (joins g n e.right e.left f.left f.right) e.right f.right (pair_if (joins g n e.right e.left f.right f.left) e.right f.left None)
      ∙ ap (λ (t : Bool). joins g n e.right e.left f.left f.right || t) (pair-to (joins g n e.right e.left f.right f.left) e.right f.left None)))

  chosen-to : (a b m c : Column) → Sides a b e → Sides m c f → joins g n a b m c ≡ true → is_some (implied_by g n e f) ≡ true
  chosen-to a b m c s t h = some-of-four ∙ elim s [
    | inl p ↦ elim t [
      | inl q ↦ or_left t1 (t2 || (t3 || (t4 || false))) (here p.0 p.1 q.0 q.1)
      | inr q ↦ or_right t1 (t2 || (t3 || (t4 || false))) (or_left t2 (t3 || (t4 || false)) (here p.0 p.1 q.0 q.1))
    ]
    | inr p ↦ elim t [
      | inl q ↦ or_right t1 (t2 || (t3 || (t4 || false))) (or_right t2 (t3 || (t4 || false)) (or_left t3 (t4 || false) (here p.0 p.1 q.0 q.1)))
      | inr q ↦ or_right t1 (t2 || (t3 || (t4 || false))) (or_right t2 (t3 || (t4 || false)) (or_right t3 (t4 || false) (or_left t4 false (here p.0 p.1 q.0 q.1))))
    ]
  ]
    where
      t1 : Bool
      t1 = joins g n e.left e.right f.left f.right

      t2 : Bool
      t2 = joins g n e.left e.right f.right f.left

      t3 : Bool
      t3 = joins g n e.right e.left f.left f.right

      t4 : Bool
      t4 = joins g n e.right e.left f.right f.left

      here : {w x y z : Column} → a ≡ w → b ≡ x → m ≡ y → c ≡ z → joins g n w x y z ≡ true
      here {w} {x} {y} {z} p q r s = ap₂ (λ (w x : Column). joins g n w x y z) (sym p) (sym q) ∙ ap₂ (λ (y z : Column). joins g n a b y z) (sym r) (sym s) ∙ h

-- ---- two conjuncts

record Of (g : QueryGraph) (n : Node) (o p : Option Equality) (x : Equality) : Type 0 where
  e : Equality
  f : Equality
  first : o ≡ Some e
  second : p ≡ Some f
  by : implied_by g n e f ≡ Some x

of-from : (g : QueryGraph) (n : Node) (o p : Option Equality) (x : Equality) → implied_of g n o p ≡ Some x → Of g n o p x
of-from g n None p x h = absurd (let z : ⊥ = cc in z)
of-from g n (Some e) None x h = absurd (let z : ⊥ = cc in z)
of-from g n (Some e) (Some f) x h = record { e = e; f = f; first = refl; second = refl; by = h }

pub some-from : (o : Option Equality) → is_some o ≡ true → (x : Equality) × (o ≡ Some x)
some-from None h = absurd (let z : ⊥ = cc in z)
some-from (Some x) h = (x, refl)

-- ---- the parts of a test

record ThreeParts (n : Node) (a b m c : Column) : Type 0 where
  shared : is_same b m ≡ true
  differ_first : is_same a b ≡ false
  differ_second : is_same m c ≡ false
  two : (a.quant == c.quant) ≡ false
  row_first : binds_row a.quant n.quants ≡ true
  row_last : binds_row c.quant n.quants ≡ true

three-from : (n : Node) (a b m c : Column) → are_three n a b m c ≡ true → ThreeParts n a b m c
three-from n a b m c h =
    let p5 = and_parts ((((is_same b m && not (is_same a b)) && not (is_same m c)) && not (a.quant == c.quant)) && binds_row a.quant n.quants) (binds_row c.quant n.quants) h in
    let p4 = and_parts (((is_same b m && not (is_same a b)) && not (is_same m c)) && not (a.quant == c.quant)) (binds_row a.quant n.quants) p5.0 in
    let p3 = and_parts ((is_same b m && not (is_same a b)) && not (is_same m c)) (not (a.quant == c.quant)) p4.0 in
    let p2 = and_parts (is_same b m && not (is_same a b)) (not (is_same m c)) p3.0 in
    let p1 = and_parts (is_same b m) (not (is_same a b)) p2.0 in
    record { shared = p1.0; differ_first = not-true (is_same a b) p1.1; differ_second = not-true (is_same m c) p2.1; two = not-true (a.quant == c.quant) p3.1; row_first = p4.1; row_last = p5.1 }

three-to : (n : Node) (a b m c : Column) → ThreeParts n a b m c → are_three n a b m c ≡ true
three-to n a b m c p =
    and_from ((((is_same b m && not (is_same a b)) && not (is_same m c)) && not (a.quant == c.quant)) && binds_row a.quant n.quants) (binds_row c.quant n.quants)
    (and_from (((is_same b m && not (is_same a b)) && not (is_same m c)) && not (a.quant == c.quant)) (binds_row a.quant n.quants)
    (and_from ((is_same b m && not (is_same a b)) && not (is_same m c)) (not (a.quant == c.quant))
    (and_from (is_same b m && not (is_same a b)) (not (is_same m c))
    (and_from (is_same b m) (not (is_same a b)) p.shared (ap not p.differ_first)) (ap not p.differ_second)) (ap not p.two)) p.row_first) p.row_last

outer-is : (k : BoxKind) → is_outer_join k ≡ true → k ≡ OuterJoin
outer-is (Base table) h = absurd (let z : ⊥ = cc in z)
outer-is Select h = absurd (let z : ⊥ = cc in z)
outer-is (Group keys) h = absurd (let z : ⊥ = cc in z)
outer-is (SetOp form types) h = absurd (let z : ⊥ = cc in z)
outer-is OuterJoin h = refl

pub kind-from : (n : Node) → takes n ≡ true → ((n.parts.kind ≡ Select) ⊎ (n.parts.kind ≡ OuterJoin)) × (is_fed n.parts.role ≡ false)
kind-from n h =
    let p = and_parts (is_select n.parts.kind || is_outer_join n.parts.kind) (not (is_fed n.parts.role)) h in
    (elim (or_cases (is_select n.parts.kind) (is_outer_join n.parts.kind) p.0) [ inl t ↦ inl (select-is n.parts.kind t) | inr t ↦ inr (outer-is n.parts.kind t) ], not-true (is_fed n.parts.role) p.1)

pub kind-to : (n : Node) → (n.parts.kind ≡ Select) ⊎ (n.parts.kind ≡ OuterJoin) → is_fed n.parts.role ≡ false → takes n ≡ true
kind-to n k f =
    and_from (is_select n.parts.kind || is_outer_join n.parts.kind) (not (is_fed n.parts.role))
    (elim k [ inl e ↦ or_left (is_select n.parts.kind) (is_outer_join n.parts.kind) (ap is_select e) | inr e ↦ or_right (is_select n.parts.kind) (is_outer_join n.parts.kind) (ap is_outer_join e) ]) (ap not f)

-- ---- the numbers of conjuncts

record Both (t : Cond → Cond → Bool) (first : ℕ) (cs : List Cond) (i j : ℕ) : Type 0 where
  k : ℕ
  l : ℕ
  c : Cond
  d : Cond
  number : i ≡ k + first
  number_second : j ≡ l + first
  before : k < l
  nth : slice_get cs k ≡ Some c
  nth_second : slice_get cs l ≡ Some d
  passes : t c d ≡ true

two-from : (t : Cond → Cond → Bool) (first : ℕ) (cs : List Cond) (i j : ℕ) → PassesBoth t first cs i j → Both t first cs i j
two-from t first [] i j h = elim h [ ]
two-from t first (c ∷ cs) i j h = elim h [
  | inl e ↦ (
      let x = nth-from (t c) (first + 1) cs j e.1 in
      record { k = 0; l = suc x.k; c = c; d = x.c; number = (let d = e.0 in omega arith); number_second = (let d = x.number in omega arith); before = omega arith; nth = refl; nth_second = x.nth; passes = x.passes })
  | inr r ↦ (
      let x = two-from t (first + 1) cs i j r in
      let b = x.before in
      record { k = suc x.k; l = suc x.l; c = x.c; d = x.d; number = (let d = x.number in omega arith); number_second = (let d = x.number_second in omega arith); before = omega (arith, b); nth = x.nth; nth_second = x.nth_second; passes = x.passes })
]

two-to : (t : Cond → Cond → Bool) (first : ℕ) (cs : List Cond) (k l : ℕ) (c d : Cond) (i j : ℕ) → slice_get cs k ≡ Some c → slice_get cs l ≡ Some d → t c d ≡ true → k < l → i ≡ k + first → j ≡ l + first → PassesBoth t first cs i j
two-to t first [] k l c d i j h v p b e f = absurd (let z : ⊥ = cc in z)
two-to t first (x ∷ cs) zero zero c d i j h v p b e f = absurd (omega arith)
two-to t first (x ∷ cs) zero (suc l) c d i j h v p b e f = inl ((omega arith), nth-to (t x) (first + 1) cs l d j v ((let q : x ≡ c = cc in ap (λ z. t z d) q) ∙ p) (omega arith))
two-to t first (x ∷ cs) (suc k) zero c d i j h v p b e f = absurd (omega arith)
two-to t first (x ∷ cs) (suc k) (suc l) c d i j h v p b e f = inr (two-to t (first + 1) cs k l c d i j h v p (omega arith) (omega arith) (omega arith))

-- ---- from a test to the condition

-- what the code finds at a place
pub record Tested (at : Place) (g : QueryGraph) (n : Node) (c d : Cond) (x : Equality) : Type 0 where
  pub found : box_of at.at g ≡ Some n
  pub taken : takes n ≡ true
  pub before : at.i < at.j
  pub first : IsConjunct at.i n c
  pub second : IsConjunct at.j n d
  pub implied : implied g n c d ≡ Some x

-- it may fire there, and adds the equality that is found
pub found-may : (at : Place) (g : QueryGraph) (n : Node) (c d : Cond) (x : Equality) → Tested at g n c d x → (m : MayEqualColumns at g) × (add_plan n (equality x) ≡ add_plan m.n (compare equal (col m.p m.j) (col m.s m.l)))
found-may at g n c d x h =
    let o = of-from g n (equated c) (equated d) x h.implied in
    let y = chosen-from g n o.e o.f x o.by in
    let j2 = and_parts (are_three n y.a y.b y.m y.c && not (is_there y.a y.c n.parts.conds.items)) (infers_free g y.b) y.joined in
    let j1 = and_parts (are_three n y.a y.b y.m y.c) (not (is_there y.a y.c n.parts.conds.items)) j2.0 in
    let p = three-from n y.a y.b y.m y.c j1.0 in
    let shared : y.m ≡ y.b = sym (same-from y.b y.m p.shared) in
    let k = kind-from n h.taken in (
      record {
        known = (all-told g.boxes).0;
        tells = (all-told g.boxes).1;
        n = n;
        p = y.a.quant;
        j = y.a.place;
        q = y.b.quant;
        k = y.b.place;
        s = y.c.quant;
        l = y.c.place;
        c = c;
        d = d;
        implied = record {
          found = h.found;
          kind = k.0;
          not_fed = k.1;
          before = h.before;
          first = h.first;
          second = h.second;
          of_first = sides-equate y.a y.b o.e c o.first y.first;
          of_second = subst (λ (z : Column). Equates (col_of z) (col_of y.c) d) shared (sides-equate y.m y.c o.f d o.second y.second);
          differ_first = p.differ_first;
          differ_second = ap (λ (z : Column). is_same z y.c) (sym shared) ∙ p.differ_second;
          two = p.two;
          row_first = p.row_first;
          row_last = p.row_last;
          free = free-told g (all-told g.boxes).0 (all-told g.boxes).1 y.b ∙ j2.1;
          new = none-there y.a y.c n.parts.conds.items (not-true (is_there y.a y.c n.parts.conds.items) j1.1);
        };
      },
      ap (λ z. add_plan n (equality z)) y.is,
    )

-- ---- from the condition to the test

may-passes : (at : Place) (g : QueryGraph) (m : MayEqualColumns at g) → passes g m.n m.c m.d ≡ true
may-passes at g m =
    let i = m.implied in
    let a : Column = record { quant = m.p; place = m.j } in
    let b : Column = record { quant = m.q; place = m.k } in
    let c : Column = record { quant = m.s; place = m.l } in
    let e = equate-sides a b m.c i.of_first in
    let f = equate-sides b c m.d i.of_second in
    let t = three-to m.n a b b c (record { shared = same-to b b refl; differ_first = i.differ_first; differ_second = i.differ_second; two = i.two; row_first = i.row_first; row_last = i.row_last }) in
    let there = there-none a c m.n.parts.conds.items i.new in
    let free = sym (free-told g m.known m.tells b) ∙ i.free in
    ap₂ (λ (o p : Option Equality). is_some (implied_of g m.n o p)) e.1.0 f.1.0
    ∙ chosen-to g m.n e.0 f.0 a b b c e.1.1 f.1.1
    (and_from (are_three m.n a b b c && not (is_there a c m.n.parts.conds.items)) (infers_free g b) (and_from (are_three m.n a b b c) (not (is_there a c m.n.parts.conds.items)) t (ap not there)) free)

-- ---- the places

-- the box of a place, and its two conjuncts
pub record FoundPlace (at : Place) (g : QueryGraph) : Type 0 where
  pub n : Node
  pub c : Cond
  pub d : Cond
  pub x : Equality
  pub found : Tested at g n c d x

place-from : (g : QueryGraph) (b i j : ℕ) (o : Option Node) → box_of b g ≡ o → In (i, j) (pairs_in g o) → FoundPlace (record { at = b; i = i; j = j }) g
place-from g b i j None e h = elim h [ ]
place-from g b i j (Some n) e h = taking (takes n) refl h
  where
    taking : (t : Bool) → takes n ≡ t → In (i, j) (cond t (grid (passes g n) 1 n.parts.conds.items) []) → FoundPlace (record { at = b; i = i; j = j }) g
    taking false w h = elim h [ ]
    taking true w h =
        let y = two-from (passes g n) 1 n.parts.conds.items i j ((grid_exact (passes g n) 1 n.parts.conds.items i j).0 h) in
        let s = some-from (implied g n y.c y.d) y.passes in
        let x = y.before in
        let v = y.number in
        let z = y.number_second in
        record {
          n = n;
          c = y.c;
          d = y.d;
          x = s.0;
          found = record {
            found = e;
            taken = w;
            before = omega (arith, x, v, z);
            first = (y.k, ((omega (arith, v)), y.nth));
            second = (y.l, ((omega (arith, z)), y.nth_second));
            implied = s.1;
          };
        }

place-to : (g : QueryGraph) (b i j : ℕ) → MayEqualColumns (record { at = b; i = i; j = j }) g → In (i, j) (pairs_in g (box_of b g))
place-to g b i j m =
    let f = m.implied in
    let e = f.first.1.0 in
    let s = f.second.1.0 in
    let x = f.before in
    subst (λ (o : Option Node). In (i, j) (pairs_in g o)) (sym f.found)
    (subst (λ (t : Bool). In (i, j) (cond t (grid (passes g m.n) 1 m.n.parts.conds.items) [])) (sym (kind-to m.n f.kind f.not_fed))
    ((grid_exact (passes g m.n) 1 m.n.parts.conds.items i j).1
    (two-to (passes g m.n) 1 m.n.parts.conds.items f.first.0 f.second.0 m.c m.d i j f.first.1.1 f.second.1.1 (may-passes (record { at = b; i = i; j = j }) g m) (omega (arith, x, e, s)) (omega (arith, e)) (omega (arith, s)))))

pub place_found : (g : QueryGraph) (at : Place) → In (at.i, at.j) (equal_columns_pairs g at.at) → FoundPlace at g
unfolding equal_columns_pairs
place_found g at h = place-from g at.at at.i at.j (box_of at.at g) refl h

pub equal_columns_exact : (g : QueryGraph) (b i j : ℕ) → EachOnce (numbers g.boxes) → WellFormed g → In (i, j) (equal_columns_pairs g b) ↔ MayEqualColumns (record { at = b; i = i; j = j }) g
unfolding equal_columns_pairs
equal_columns_exact g b i j u w = (
  λ h. (let x = place-from g b i j (box_of b g) refl h in (found-may (record { at = b; i = i; j = j }) g x.n x.c x.d x.x x.found).0),
  λ m. place-to g b i j m,
)

in-order : (g : QueryGraph) (o : Option Node) → Ascending (pairs_in g o)
in-order g None = tt
in-order g (Some n) = elim (takes n) as (λ t. Ascending (cond t (grid (passes g n) 1 n.parts.conds.items) [])) [ true ↦ grid_ascending (passes g n) 1 n.parts.conds.items | false ↦ tt ]

pub equal_columns_ascending : (g : QueryGraph) (b : ℕ) → Ascending (equal_columns_pairs g b)
unfolding equal_columns_pairs
equal_columns_ascending g b = in-order g (box_of b g)

-- what is planned is to add the equality of a place where it may fire
abbrev pub PlansAt : Place → QueryGraph → AddPlan → Type 0
PlansAt at g x = (m : MayEqualColumns at g) × (x ≡ add_plan m.n (compare equal (col m.p m.j) (col m.s m.l)))
