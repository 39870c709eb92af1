-- The places of J2 are exactly those where it may fire.
use Rattle.std.proofs.Common.{ℕ, zero, suc, ◌+◌, ◌≡◌, ◌&&◌, ◌||◌, not, cond, Bool, true, false, List, [], ◌∷◌, Option, Some, None, refl, sym, ap, ap₂, subst, ◌∙◌, eqb-true, inl, inr, arith}
use Rattle.std.specs.Prelude.{◌↔◌, ◌⊎◌, slice_get}
use Rattle.std.specs.Cmp.Lexicographic.{same_text}
use Rattle.std.proofs.lemmas.Cmp.{int_eq_equiv, nat_list_eq_equiv}
use Rattle.std.proofs.lemmas.Bool.Decides.{Decides-int_eq}
use Rattle.std.proofs.lemmas.Bool.{and_from, and_parts, cases_Bool, not-true, or_left, or_right}
use Rattle.qgm_core.specs.Boxes.{QueryGraph, box_of, is_quant, numbers, owns, range_in}
use Rattle.qgm_core.specs.Kinds.{is_F, is_base}
use Rattle.list_laws.specs.Lists.{EachOnce, In, first}
use Rattle.list_laws.proofs.Booleans.{clash}
use Rattle.list_laws.proofs.Membership.{any-none, any-not}
use Rattle.qgm_core.specs.declared.node.Node.{Node}
use Rattle.qgm_core.specs.declared.owned.OwnedQuant.{OwnedQuant}
use Rattle.qgm_edit_laws.proofs.CheckedParts.{sound}
use Rattle.qgm_edit_laws.proofs.Levels.{owner-of, some-in}
use Rattle.qgm_edit_laws.specs.ImpliedEquality.{Equates}
use Rattle.qgm_props.proofs.Settled.{all-told}
use Rattle.qgm_terms.specs.Terms.{Cond, Term, both, choose, col, compare, count_all, equal, fold, int, minus_of, null_int, null_text, scalar, text}
use Rattle.qgm_terms.specs.declared.named.Column.{Column}
use Rattle.qgm_wellformed.specs.Sentences.{WellFormed}
use Rattle.qgm_wellformed.proofs.Faults.{finds-none}
use Rattle.rule_api.specs.PickLaws.{cross_ascending, cross_exact}
use Rattle.rule_api.specs.Picks.{PassesTwo, cross}
use Rattle.rule_api.specs.Rules.{Ascending}
use Rattle.rule_api.specs.declared.place.Place.{Place}
use Rattle.rule_trans.specs.Adding.{add_plan}
use Rattle.rule_trans.specs.EqualColumnsExact.{Sides, col_of, column-from, equate-sides, free-told, kind-from, kind-to, same-from, same-to, sides-equate, sides-from}
use Rattle.rule_trans.specs.EqualColumnsPlaces.{infers_free, takes}
use Rattle.rule_trans.specs.EqualLiteral.{IsOverBase, MayEqualLiteral, is_literal}
use Rattle.rule_trans.specs.EqualLiteralPlaces.{equal_literal_pairs, equality, fixed_if, implied, implied_by, implied_of, is_base_box, is_found_over_base, is_over_base, joins, pairs_in, passes, ranges_over_base}
use Rattle.rule_trans.specs.Equalities.{column_of, equated, is_same, sides}
use Rattle.rule_trans.specs.Follows.{IsConjunct}
use Rattle.rule_trans.specs.Literals.{FixedPair, LiteralValue, either, fixed, fixed_as, fixed_of, is_of, is_some, is_there, literal_of, of_int, of_text, same_literal, term_of}
use Rattle.rule_trans.specs.Numbered.{Nth, nth-from, nth-to}
use Rattle.rule_trans.specs.declared.adding.AddPlan.{AddPlan}
use Rattle.rule_trans.specs.declared.equalities.Equality.{Equality}

-- ---- literals

literal-from : (x : Term) (l : LiteralValue) → literal_of x ≡ Some l → x ≡ term_of l
literal-from (int n) l h = let e : of_int n ≡ l = cc in ap term_of e
literal-from (text s) l h = let e : of_text s ≡ l = cc in ap term_of e
literal-from null_int l h = absurd (let z : ⊥ = cc in z)
literal-from null_text l h = absurd (let z : ⊥ = cc in z)
literal-from (col q k) l h = absurd (let z : ⊥ = cc in z)
literal-from (scalar q) l h = absurd (let z : ⊥ = cc in z)
literal-from (both o x y) l h = absurd (let z : ⊥ = cc in z)
literal-from (minus_of x) l h = absurd (let z : ⊥ = cc in z)
literal-from (choose s x) l h = absurd (let z : ⊥ = cc in z)
literal-from count_all l h = absurd (let z : ⊥ = cc in z)
literal-from (fold f d x) l h = absurd (let z : ⊥ = cc in z)

is-literal : (l : LiteralValue) → is_literal (term_of l) ≡ true
is-literal (of_int n) = refl
is-literal (of_text s) = refl

literal-some : (z : Term) → is_literal z ≡ true → (l : LiteralValue) × (z ≡ term_of l)
literal-some (int n) h = (of_int n, refl)
literal-some (text s) h = (of_text s, refl)
literal-some null_int h = absurd (let z : ⊥ = cc in z)
literal-some null_text h = absurd (let z : ⊥ = cc in z)
literal-some (col q k) h = absurd (let z : ⊥ = cc in z)
literal-some (scalar q) h = absurd (let z : ⊥ = cc in z)
literal-some (both o x y) h = absurd (let z : ⊥ = cc in z)
literal-some (minus_of x) h = absurd (let z : ⊥ = cc in z)
literal-some (choose s x) h = absurd (let z : ⊥ = cc in z)
literal-some count_all h = absurd (let z : ⊥ = cc in z)
literal-some (fold f d x) h = absurd (let z : ⊥ = cc in z)

literal-same-from : (l m : LiteralValue) → same_literal l m ≡ true → l ≡ m
literal-same-from (of_int a) (of_int b) h = ap of_int ((Decides-int_eq a b).0 h)
literal-same-from (of_int a) (of_text t) h = absurd (let z : ⊥ = cc in z)
literal-same-from (of_text s) (of_int b) h = absurd (let z : ⊥ = cc in z)
literal-same-from (of_text s) (of_text t) h = ap of_text (same_text s t (sym h))

literal-same : (l : LiteralValue) → same_literal l l ≡ true
literal-same (of_int a) = int_eq_equiv.refl a
literal-same (of_text s) = nat_list_eq_equiv.refl s

-- ---- a column and a literal

as-from : (o : Option Column) (l : Option LiteralValue) (f : FixedPair) → fixed_as o l ≡ Some f → (o ≡ Some f.0) × (l ≡ Some f.1)
as-from None l f h = absurd (let z : ⊥ = cc in z)
as-from (Some a) None f h = absurd (let z : ⊥ = cc in z)
as-from (Some a) (Some l) f h = let d : (a, l) ≡ f = cc in (ap (λ (z : FixedPair). Some z.0) d, ap (λ (z : FixedPair). Some z.1) d)

either-from : (o p : Option FixedPair) (f : FixedPair) → either o p ≡ Some f → (o ≡ Some f) ⊎ (p ≡ Some f)
either-from None p f h = inr h
either-from (Some x) p f h = inl h

fixed-by : (d : Cond) (o : Option (Term × Term)) → sides d ≡ o → (f : FixedPair) → fixed_of o ≡ Some f → Equates (col_of f.0) (term_of f.1) d
fixed-by d None s f h = absurd (let z : ⊥ = cc in z)
fixed-by d (Some p) s f h = elim (either-from (fixed_as (column_of p.0) (literal_of p.1)) (fixed_as (column_of p.1) (literal_of p.0)) f h) [
  | inl k ↦ (let a = as-from (column_of p.0) (literal_of p.1) f k in inl (sides-from d p s ∙ ap₂ (compare equal) (column-from p.0 f.0 a.0) (literal-from p.1 f.1 a.1)))
  | inr k ↦ (let a = as-from (column_of p.1) (literal_of p.0) f k in inr (sides-from d p s ∙ ap₂ (compare equal) (literal-from p.0 f.1 a.1) (column-from p.1 f.0 a.0)))
]

fixed-from : (d : Cond) (f : FixedPair) → fixed d ≡ Some f → Equates (col_of f.0) (term_of f.1) d
fixed-from d f h = fixed-by d (sides d) refl f h

fixed-left : (a : Column) (l : LiteralValue) → fixed (compare equal (col_of a) (term_of l)) ≡ Some (a, l)
fixed-left a (of_int n) = refl
fixed-left a (of_text s) = refl

fixed-right : (a : Column) (l : LiteralValue) → fixed (compare equal (term_of l) (col_of a)) ≡ Some (a, l)
fixed-right a (of_int n) = refl
fixed-right a (of_text s) = refl

fixed-to : (a : Column) (l : LiteralValue) (d : Cond) → Equates (col_of a) (term_of l) d → fixed d ≡ Some (a, l)
fixed-to a l d h = elim h [ inl e ↦ ap fixed e ∙ fixed-left a l | inr e ↦ ap fixed e ∙ fixed-right a l ]

-- ---- an equality that is there

of-from : (a : Column) (l : LiteralValue) (e : Cond) (o : Option FixedPair) → fixed e ≡ o → is_of a l o ≡ true → Equates (col_of a) (term_of l) e
of-from a l e None s h = absurd (let z : ⊥ = cc in z)
of-from a l e (Some f) s h =
    let p = and_parts (is_same a f.0) (same_literal l f.1) h in
    subst (λ (z : FixedPair). Equates (col_of z.0) (term_of z.1) e) (sym (ap₂ (λ (x : Column) (y : LiteralValue). (x, y)) (same-from a f.0 p.0) (literal-same-from l f.1 p.1))) (fixed-from e f s)

of-to : (a : Column) (l : LiteralValue) (e : Cond) → Equates (col_of a) (term_of l) e → is_of a l (fixed e) ≡ true
of-to a l e h = ap (is_of a l) (fixed-to a l e h) ∙ and_from (is_same a a) (same_literal l l) (same-to a a refl) (literal-same l)

none-there : (a : Column) (l : LiteralValue) (cs : List Cond) → is_there a l cs ≡ false → (e : Cond) → In e cs → Equates (col_of a) (term_of l) e → ⊥
none-there a l cs h e i q = clash (is_of a l (fixed e)) (of-to a l e q) (any-none (λ e. is_of a l (fixed e)) e cs h i)

there-none : (a : Column) (l : LiteralValue) (cs : List Cond) → ((e : Cond) → In e cs → Equates (col_of a) (term_of l) e → ⊥) → is_there a l cs ≡ false
there-none a l cs n = any-not (λ e. is_of a l (fixed e)) cs (λ e i. elim (cases_Bool (is_of a l (fixed e))) [
  | inr f ↦ f
  | inl h ↦ absurd (n e i (of-from a l e (fixed e) refl h))
])

-- ---- a quantifier over a base

base-from : (o : Option Node) → is_base_box o ≡ true → (n : Node) × ((o ≡ Some n) × (is_base n.parts.kind ≡ true))
base-from None h = absurd (let z : ⊥ = cc in z)
base-from (Some n) h = (n, (refl, h))

over-parts : (g : QueryGraph) (r : OwnedQuant) → is_over_base g r ≡ true → (is_F r.kind ≡ true) × (is_base_box (box_of r.over g) ≡ true)
over-parts g r h = by (is_F r.kind) h
  where
    by : (t : Bool) → cond t (is_base_box (box_of r.over g)) false ≡ true → (t ≡ true) × (is_base_box (box_of r.over g) ≡ true)
    by true h = (refl, h)
    by false h = absurd (let z : ⊥ = cc in z)

module _ (g : QueryGraph) (p : ℕ) where
  owner-from : (o : Option Node) → first (owns p) g.boxes ≡ o → is_found_over_base g (range_in p o) ≡ true → IsOverBase g p
  owner-from None e h = absurd (let z : ⊥ = cc in z)
  owner-from (Some n) e h = range-from (first (is_quant p) n.quants) refl h
    where
      range-from : (s : Option OwnedQuant) → first (is_quant p) n.quants ≡ s → is_found_over_base g s ≡ true → IsOverBase g p
      range-from None f h = absurd (let z : ⊥ = cc in z)
      range-from (Some r) f h =
          let a = some-in (owns p) g.boxes n e in
          let b = some-in (is_quant p) n.quants r f in
          let c = over-parts g r h in
          let d = base-from (box_of r.over g) c.1 in
          record { owner = n; r = r; base = d.0; within = a.0; owned = b.0; is_p = eqb-true r.id p b.1; is_f = c.0; under = d.1.0; kind = d.1.1 }

  over-from : ranges_over_base g p ≡ true → IsOverBase g p
  unfolding ranges_over_base
  over-from h = owner-from (first (owns p) g.boxes) refl h

  over-to : EachOnce (numbers g.boxes) → WellFormed g → IsOverBase g p → ranges_over_base g p ≡ true
  unfolding ranges_over_base
  over-to u w b =
      let found : range_in p (first (owns p) g.boxes) ≡ Some b.r = subst (λ (q : ℕ). range_in q (first (owns q) g.boxes) ≡ Some b.r) b.is_p (owner-of g.boxes (sound g u ((finds-none g u).1 w)).once b.owner b.r b.within b.owned) in
      ap (is_found_over_base g) found ∙ ap (λ (t : Bool). cond t (is_base_box (box_of b.r.over g)) false) b.is_f ∙ ap is_base_box b.under ∙ b.kind

-- ---- two conjuncts

-- a and b are the columns of e, and a is the literal of f
record Chosen (g : QueryGraph) (n : Node) (e : Equality) (f x : FixedPair) : Type 0 where
  a : Column
  b : Column
  columns : Sides a b e
  joined : joins g n a b f ≡ true
  is : x ≡ (a, f.1)

if-from : (t : Bool) (a : Column) (l : LiteralValue) (o : Option FixedPair) (x : FixedPair) → fixed_if t a l o ≡ Some x → ((t ≡ true) × (x ≡ (a, l))) ⊎ (o ≡ Some x)
if-from true a l o x h = inl (refl, (let e : x ≡ (a, l) = cc in e))
if-from false a l o x h = inr h

if-to : (t : Bool) (a : Column) (l : LiteralValue) (o : Option FixedPair) → is_some (fixed_if t a l o) ≡ (t || is_some o)
if-to true a l o = refl
if-to false a l o = refl

module _ (g : QueryGraph) (n : Node) (e : Equality) (f : FixedPair) where
  chosen-from : (x : FixedPair) → implied_by g n e f ≡ Some x → Chosen g n e f x
  chosen-from x h = elim (if-from (joins g n e.left e.right f) e.left f.1 (fixed_if (joins g n e.right e.left f) e.right f.1 None) x h) [
    | inl p ↦ record { a = e.left; b = e.right; columns = inl (refl, refl); joined = p.0; is = p.1 }
    | inr k ↦ elim (if-from (joins g n e.right e.left f) e.right f.1 None x k) [
      | inl p ↦ record { a = e.right; b = e.left; columns = inr (refl, refl); joined = p.0; is = p.1 }
      | inr z ↦ absurd (let y : ⊥ = cc in y)
    ]
  ]

  some-of-two : is_some (implied_by g n e f) ≡ (joins g n e.left e.right f || (joins g n e.right e.left f || false))
  some-of-two =
      if-to (joins g n e.left e.right f) e.left f.1 (fixed_if (joins g n e.right e.left f) e.right f.1 None)
      ∙ ap (λ (t : Bool). joins g n e.left e.right f || t) (if-to (joins g n e.right e.left f) e.right f.1 None)

  chosen-to : (a b : Column) → Sides a b e → joins g n a b f ≡ true → is_some (implied_by g n e f) ≡ true
  chosen-to a b s h = some-of-two ∙ elim s [
    | inl p ↦ or_left (joins g n e.left e.right f) (joins g n e.right e.left f || false) (ap₂ (λ (x y : Column). joins g n x y f) (sym p.0) (sym p.1) ∙ h)
    | inr p ↦ or_right (joins g n e.left e.right f) (joins g n e.right e.left f || false) (or_left (joins g n e.right e.left f) false (ap₂ (λ (x y : Column). joins g n x y f) (sym p.0) (sym p.1) ∙ h))
  ]

record Of (g : QueryGraph) (n : Node) (o : Option Equality) (p : Option FixedPair) (x : FixedPair) : Type 0 where
  e : Equality
  f : FixedPair
  first : o ≡ Some e
  second : p ≡ Some f
  by : implied_by g n e f ≡ Some x

implied-from : (g : QueryGraph) (n : Node) (o : Option Equality) (p : Option FixedPair) (x : FixedPair) → implied_of g n o p ≡ Some x → Of g n o p x
implied-from g n None p x h = absurd (let z : ⊥ = cc in z)
implied-from g n (Some e) None x h = absurd (let z : ⊥ = cc in z)
implied-from g n (Some e) (Some f) x h = record { e = e; f = f; first = refl; second = refl; by = h }

some-from : (o : Option FixedPair) → is_some o ≡ true → (x : FixedPair) × (o ≡ Some x)
some-from None h = absurd (let z : ⊥ = cc in z)
some-from (Some x) h = (x, refl)

-- ---- from a test to the condition

-- what the code finds at a place
pub record Tested (at : Place) (g : QueryGraph) (n : Node) (c d : Cond) (x : FixedPair) : Type 0 where
  pub found : box_of at.at g ≡ Some n
  pub taken : takes n ≡ true
  pub first : IsConjunct at.i n c
  pub second : IsConjunct at.j n d
  pub implied : implied g n c d ≡ Some x

-- it may fire there, and adds the equality that is found
pub found-may : (at : Place) (g : QueryGraph) (n : Node) (c d : Cond) (x : FixedPair) → Tested at g n c d x → (m : MayEqualLiteral at g) × (add_plan n (equality x) ≡ add_plan m.n (compare equal (col m.p m.j) m.z))
found-may at g n c d x h =
    let o = implied-from g n (equated c) (fixed d) x h.implied in
    let y = chosen-from g n o.e o.f x o.by in
    let p3 = and_parts ((is_same y.b o.f.0 && not (is_there y.a o.f.1 n.parts.conds.items)) && ranges_over_base g y.a.quant) (infers_free g y.b) y.joined in
    let p2 = and_parts (is_same y.b o.f.0 && not (is_there y.a o.f.1 n.parts.conds.items)) (ranges_over_base g y.a.quant) p3.0 in
    let p1 = and_parts (is_same y.b o.f.0) (not (is_there y.a o.f.1 n.parts.conds.items)) p2.0 in
    let shared : o.f.0 ≡ y.b = sym (same-from y.b o.f.0 p1.0) in
    let k = kind-from n h.taken in (
      record {
        known = (all-told g.boxes).0;
        tells = (all-told g.boxes).1;
        n = n;
        p = y.a.quant;
        j = y.a.place;
        q = y.b.quant;
        k = y.b.place;
        z = term_of o.f.1;
        c = c;
        d = d;
        implied = record {
          found = h.found;
          kind = k.0;
          not_fed = k.1;
          first = h.first;
          second = h.second;
          literal = is-literal o.f.1;
          of_first = sides-equate y.a y.b o.e c o.first y.columns;
          of_second = subst (λ (z : Column). Equates (col_of z) (term_of o.f.1) d) shared (fixed-from d o.f o.second);
          over_base = over-from g y.a.quant p2.1;
          free = free-told g (all-told g.boxes).0 (all-told g.boxes).1 y.b ∙ p3.1;
          new = none-there y.a o.f.1 n.parts.conds.items (not-true (is_there y.a o.f.1 n.parts.conds.items) p1.1);
        };
      },
      ap (λ z. add_plan n (equality z)) y.is,
    )

-- ---- from the condition to the test

may-passes : (at : Place) (g : QueryGraph) → EachOnce (numbers g.boxes) → WellFormed g → (m : MayEqualLiteral at g) → passes g m.n m.c m.d ≡ true
may-passes at g u w m =
    let i = m.implied in
    let a : Column = record { quant = m.p; place = m.j } in
    let b : Column = record { quant = m.q; place = m.k } in
    let z = literal-some m.z i.literal in
    let l : LiteralValue = z.0 in
    let e = equate-sides a b m.c i.of_first in
    let f = fixed-to b l m.d (subst (λ (x : Term). Equates (col_of b) x m.d) z.1 i.of_second) in
    let new = there-none a l m.n.parts.conds.items (λ x k q. i.new x k (subst (λ (y : Term). Equates (col_of a) y x) (sym z.1) q)) in
    let free = sym (free-told g m.known m.tells b) ∙ i.free in
    ap₂ (λ (o : Option Equality) (p : Option FixedPair). is_some (implied_of g m.n o p)) e.1.0 f
    ∙ chosen-to g m.n e.0 (b, l) a b e.1.1
    (and_from ((is_same b b && not (is_there a l m.n.parts.conds.items)) && ranges_over_base g m.p) (infers_free g b)
    (and_from (is_same b b && not (is_there a l m.n.parts.conds.items)) (ranges_over_base g m.p)
    (and_from (is_same b b) (not (is_there a l m.n.parts.conds.items)) (same-to b b refl) (ap not new)) (over-to g m.p u w i.over_base)) free)

-- ---- the numbers of two conjuncts

record Two (t : Cond → Cond → Bool) (all : List Cond) (start : ℕ) (cs : List Cond) (i j : ℕ) : Type 0 where
  k : ℕ
  c : Cond
  number : i ≡ k + start
  nth : slice_get cs k ≡ Some c
  second : Nth (t c) 1 all j

two-from : (t : Cond → Cond → Bool) (all : List Cond) (start : ℕ) (cs : List Cond) (i j : ℕ) → PassesTwo t all start cs i j → Two t all start cs i j
two-from t all start [] i j h = elim h [ ]
two-from t all start (c ∷ cs) i j h = elim h [
  | inl e ↦ record { k = 0; c = c; number = (let d = e.0 in omega arith); nth = refl; second = nth-from (t c) 1 all j e.1 }
  | inr r ↦ (let x = two-from t all (start + 1) cs i j r in record { k = suc x.k; c = x.c; number = (let d = x.number in omega arith); nth = x.nth; second = x.second })
]

two-to : (t : Cond → Cond → Bool) (all : List Cond) (start : ℕ) (cs : List Cond) (k l : ℕ) (c d : Cond) (i j : ℕ) → slice_get cs k ≡ Some c → slice_get all l ≡ Some d → t c d ≡ true → i ≡ k + start → j ≡ l + 1 → PassesTwo t all start cs i j
two-to t all start [] k l c d i j h v p e f = absurd (let z : ⊥ = cc in z)
two-to t all start (x ∷ cs) zero l c d i j h v p e f = inl ((omega arith), nth-to (t x) 1 all l d j v ((let q : x ≡ c = cc in ap (λ z. t z d) q) ∙ p) f)
two-to t all start (x ∷ cs) (suc k) l c d i j h v p e f = inr (two-to t all (start + 1) cs k l c d i j h v p (omega arith) f)

-- ---- the places

-- the box of a place, and its two conjuncts
pub record FoundPlace (at : Place) (g : QueryGraph) : Type 0 where
  pub n : Node
  pub c : Cond
  pub d : Cond
  pub x : FixedPair
  pub found : Tested at g n c d x

place-from : (g : QueryGraph) (b i j : ℕ) (o : Option Node) → box_of b g ≡ o → In (i, j) (pairs_in g o) → FoundPlace (record { at = b; i = i; j = j }) g
place-from g b i j None e h = elim h [ ]
place-from g b i j (Some n) e h = taking (takes n) refl h
  where
    taking : (t : Bool) → takes n ≡ t → In (i, j) (cond t (cross (passes g n) n.parts.conds.items 1 n.parts.conds.items) []) → FoundPlace (record { at = b; i = i; j = j }) g
    taking false w h = elim h [ ]
    taking true w h =
        let y = two-from (passes g n) n.parts.conds.items 1 n.parts.conds.items i j ((cross_exact (passes g n) n.parts.conds.items 1 n.parts.conds.items i j).0 h) in
        let s = some-from (implied g n y.c y.second.c) y.second.passes in
        let v = y.number in
        let z = y.second.number in
        record {
          n = n;
          c = y.c;
          d = y.second.c;
          x = s.0;
          found = record {
            found = e;
            taken = w;
            first = (y.k, ((omega (arith, v)), y.nth));
            second = (y.second.k, ((omega (arith, z)), y.second.nth));
            implied = s.1;
          };
        }

place-to : (g : QueryGraph) (b i j : ℕ) → EachOnce (numbers g.boxes) → WellFormed g → MayEqualLiteral (record { at = b; i = i; j = j }) g → In (i, j) (pairs_in g (box_of b g))
place-to g b i j u w m =
    let f = m.implied in
    let e = f.first.1.0 in
    let s = f.second.1.0 in
    subst (λ (o : Option Node). In (i, j) (pairs_in g o)) (sym f.found)
    (subst (λ (t : Bool). In (i, j) (cond t (cross (passes g m.n) m.n.parts.conds.items 1 m.n.parts.conds.items) [])) (sym (kind-to m.n f.kind f.not_fed))
    ((cross_exact (passes g m.n) m.n.parts.conds.items 1 m.n.parts.conds.items i j).1
    (two-to (passes g m.n) m.n.parts.conds.items 1 m.n.parts.conds.items f.first.0 f.second.0 m.c m.d i j f.first.1.1 f.second.1.1 (may-passes (record { at = b; i = i; j = j }) g u w m) (omega (arith, e)) (omega (arith, s)))))

pub place_found : (g : QueryGraph) (at : Place) → In (at.i, at.j) (equal_literal_pairs g at.at) → FoundPlace at g
unfolding equal_literal_pairs
place_found g at h = place-from g at.at at.i at.j (box_of at.at g) refl h

pub equal_literal_exact : (g : QueryGraph) (b i j : ℕ) → EachOnce (numbers g.boxes) → WellFormed g → In (i, j) (equal_literal_pairs g b) ↔ MayEqualLiteral (record { at = b; i = i; j = j }) g
unfolding equal_literal_pairs
equal_literal_exact g b i j u w = (
  λ h. (let x = place-from g b i j (box_of b g) refl h in (found-may (record { at = b; i = i; j = j }) g x.n x.c x.d x.x x.found).0),
  λ m. place-to g b i j u w m,
)

in-order : (g : QueryGraph) (o : Option Node) → Ascending (pairs_in g o)
in-order g None = tt
in-order g (Some n) = elim (takes n) as (λ t. Ascending (cond t (cross (passes g n) n.parts.conds.items 1 n.parts.conds.items) [])) [ true ↦ cross_ascending (passes g n) n.parts.conds.items 1 n.parts.conds.items | false ↦ tt ]

pub equal_literal_ascending : (g : QueryGraph) (b : ℕ) → Ascending (equal_literal_pairs g b)
unfolding equal_literal_pairs
equal_literal_ascending g b = in-order g (box_of b g)

-- what is planned is to add the equality of a place where it may fire
abbrev pub PlansAt : Place → QueryGraph → AddPlan → Type 0
PlansAt at g x = (m : MayEqualLiteral at g) × (x ≡ add_plan m.n (compare equal (col m.p m.j) m.z))
