-- Equalities of cells: the other way round, and of cells that are apart.
use Rattle.std.proofs.Common.{ℕ, ◌≡◌, ◌||◌, not, Bool, true, false, List, refl, sym, ap, subst, ◌∙◌, inl, inr}
use Rattle.std.proofs.lemmas.Bool.{cases_Bool}
use Rattle.std.proofs.lemmas.Cmp.{int_cmp_total}
use Rattle.std.specs.Ordering.{int_cmp, is_eq, nat_cmp, ordering_reverse}
use Rattle.std.specs.Cmp.Lexicographic.{nat_list_cmp_total, slice_cmp}
use Rattle.std.specs.declared.cmp.Ordering.{Ordering}
use Rattle.std.specs.declared.cmp.Ordering.TheVariants as ordering
use Rattle.shared_types.specs.declared.compare.CmpOp.TheVariants.{Eq}
use Rattle.sql_value.specs.Cells.{cell_compare, worse}
use Rattle.sql_value.specs.Comparison.{compare, same}
use Rattle.sql_value.specs.Truths.{error, truth_of}
use Rattle.sql_value.specs.declared.cell.Cell.{Cell}
use Rattle.sql_value.specs.declared.cell.Cell.TheVariants.{Int, Text, Null, Err}
use Rattle.sql_value.specs.declared.cell.Kind.{Kind}
use Rattle.sql_value.specs.declared.cell.Kind.TheVariants.{Cardinality, Division, Overflow}
use Rattle.sql_value.proofs.Total.{cell-ties}
use Rattle.row_bag.proofs.Order.{level}
use Rattle.qgm_meaning.specs.Values.{Bag, Environment, bound, compared, value}
use Rattle.qgm_terms.specs.Shown as shown
use Rattle.qgm_terms.specs.Terms.{Cond, Sign, Term}
use Rattle.qgm_terms.specs.Terms as terms
use Rattle.box_exec.specs.Early.{is_none}
use Rattle.box_exec.specs.Equalities.{AreEither, AreSides, IsKey, are_apart, equated, is_nowhere, is_plain, other_of, own_of}
use Rattle.box_exec.specs.declared.key.Equality.{Equality}
use Rattle.box_exec.specs.declared.key.Equality.TheVariants.{Same, Equal, Numbers, Texts}
use Rattle.box_exec.specs.declared.key.Key.{Key}

-- ---- the other way round

eq-back : (o : Ordering) → is_eq (ordering_reverse o) ≡ is_eq o
eq-back ordering.Less = refl
eq-back ordering.Equal = refl
eq-back ordering.Greater = refl

worse-back : (j k : Kind) → worse j k ≡ worse k j
worse-back Cardinality Cardinality = refl
worse-back Cardinality Division = refl
worse-back Cardinality Overflow = refl
worse-back Division Cardinality = refl
worse-back Division Division = refl
worse-back Division Overflow = refl
worse-back Overflow Cardinality = refl
worse-back Overflow Division = refl
worse-back Overflow Overflow = refl

equal-back : (x y : Cell) → compare Eq x y ≡ compare Eq y x
equal-back (Int m) (Int n) = ap truth_of (ap is_eq (int_cmp_total.antisymm m n) ∙ eq-back (int_cmp n m))
equal-back (Int m) (Text t) = refl
equal-back (Int m) Null = refl
equal-back (Int m) (Err k) = refl
equal-back (Text s) (Int n) = refl
equal-back (Text s) (Text t) = ap truth_of (ap is_eq (nat_list_cmp_total.antisymm s t) ∙ eq-back (slice_cmp nat_cmp t s))
equal-back (Text s) Null = refl
equal-back (Text s) (Err k) = refl
equal-back Null (Int n) = refl
equal-back Null (Text t) = refl
equal-back Null Null = refl
equal-back Null (Err k) = refl
equal-back (Err j) (Int n) = refl
equal-back (Err j) (Text t) = refl
equal-back (Err j) Null = refl
equal-back (Err j) (Err k) = ap error (worse-back j k)

eq-turned : (x y : Cell) → is_eq (cell_compare x y) ≡ true → is_eq (cell_compare y x) ≡ true
eq-turned x y h =
    let e : x ≡ y = cell-ties x y (level (cell_compare x y) h) in
    subst (λ (z : Cell). is_eq (cell_compare z x) ≡ true) e (subst (λ (z : Cell). is_eq (cell_compare x z) ≡ true) (sym e) h)

pub eq-either : (x y : Cell) → is_eq (cell_compare x y) ≡ is_eq (cell_compare y x)
eq-either x y = elim (cases_Bool (is_eq (cell_compare x y))) [
  | inl t ↦ t ∙ sym (eq-turned x y t)
  | inr f ↦ elim (cases_Bool (is_eq (cell_compare y x))) [
    | inl t ↦ absurd (let u = eq-turned y x t in let z : ⊥ = cc in z)
    | inr g ↦ f ∙ sym g
  ]
]

same-back : (x y : Cell) → same x y ≡ same y x
same-back (Int m) (Int n) = ap truth_of (eq-either (Int m) (Int n))
same-back (Int m) (Text t) = refl
same-back (Int m) Null = refl
same-back (Int m) (Err k) = refl
same-back (Text s) (Int n) = refl
same-back (Text s) (Text t) = ap truth_of (eq-either (Text s) (Text t))
same-back (Text s) Null = refl
same-back (Text s) (Err k) = refl
same-back Null (Int n) = refl
same-back Null (Text t) = refl
same-back Null Null = refl
same-back Null (Err k) = refl
same-back (Err j) (Int n) = refl
same-back (Err j) (Text t) = refl
same-back (Err j) Null = refl
same-back (Err j) (Err k) = ap error (worse-back j k)

equated-back : (by : Equality) (x y : Cell) → equated by x y ≡ equated by y x
equated-back Same x y = same-back x y
equated-back Equal x y = equal-back x y
equated-back Numbers x y = equal-back x y
equated-back Texts x y = equal-back x y

-- ---- cells that are apart

-- plain cells that aren't equal
unequal-none : (by : Equality) (x y : Cell) → is_plain by x ≡ true → is_plain by y ≡ true → is_eq (cell_compare x y) ≡ false → is_none (equated by x y).t ≡ true
unequal-none Same (Int m) (Int n) h k d = ap (λ (b : Bool). is_none (truth_of b).t) d
unequal-none Same (Int m) (Text t) h k d = refl
unequal-none Same (Int m) Null h k d = refl
unequal-none Same (Int m) (Err e) h k d = absurd (let z : ⊥ = cc in z)
unequal-none Same (Text s) (Int n) h k d = refl
unequal-none Same (Text s) (Text t) h k d = ap (λ (b : Bool). is_none (truth_of b).t) d
unequal-none Same (Text s) Null h k d = refl
unequal-none Same (Text s) (Err e) h k d = absurd (let z : ⊥ = cc in z)
unequal-none Same Null (Int n) h k d = refl
unequal-none Same Null (Text t) h k d = refl
unequal-none Same Null Null h k d = absurd (let z : ⊥ = cc in z)
unequal-none Same Null (Err e) h k d = absurd (let z : ⊥ = cc in z)
unequal-none Same (Err e) y h k d = absurd (let z : ⊥ = cc in z)
unequal-none Equal (Int m) (Int n) h k d = ap (λ (b : Bool). is_none (truth_of b).t) d
unequal-none Equal (Int m) (Text t) h k d = refl
unequal-none Equal (Int m) Null h k d = refl
unequal-none Equal (Int m) (Err e) h k d = absurd (let z : ⊥ = cc in z)
unequal-none Equal (Text s) (Int n) h k d = refl
unequal-none Equal (Text s) (Text t) h k d = ap (λ (b : Bool). is_none (truth_of b).t) d
unequal-none Equal (Text s) Null h k d = refl
unequal-none Equal (Text s) (Err e) h k d = absurd (let z : ⊥ = cc in z)
unequal-none Equal Null (Int n) h k d = refl
unequal-none Equal Null (Text t) h k d = refl
unequal-none Equal Null Null h k d = refl
unequal-none Equal Null (Err e) h k d = absurd (let z : ⊥ = cc in z)
unequal-none Equal (Err e) y h k d = absurd (let z : ⊥ = cc in z)
unequal-none Numbers (Int m) (Int n) h k d = ap (λ (b : Bool). is_none (truth_of b).t) d
unequal-none Numbers (Int m) (Text t) h k d = refl
unequal-none Numbers (Int m) Null h k d = refl
unequal-none Numbers (Int m) (Err e) h k d = absurd (let z : ⊥ = cc in z)
unequal-none Numbers (Text s) y h k d = absurd (let z : ⊥ = cc in z)
unequal-none Numbers Null y h k d = absurd (let z : ⊥ = cc in z)
unequal-none Numbers (Err e) y h k d = absurd (let z : ⊥ = cc in z)
unequal-none Texts (Text s) (Text t) h k d = ap (λ (b : Bool). is_none (truth_of b).t) d
unequal-none Texts (Text s) (Int n) h k d = refl
unequal-none Texts (Text s) Null h k d = refl
unequal-none Texts (Text s) (Err e) h k d = absurd (let z : ⊥ = cc in z)
unequal-none Texts (Int n) y h k d = absurd (let z : ⊥ = cc in z)
unequal-none Texts Null y h k d = absurd (let z : ⊥ = cc in z)
unequal-none Texts (Err e) y h k d = absurd (let z : ⊥ = cc in z)

nowhere-none : (by : Equality) (x y : Cell) → is_plain by x ≡ true → is_nowhere by y ≡ true → is_none (equated by x y).t ≡ true
nowhere-none Same x y h k = absurd (let z : ⊥ = cc in z)
nowhere-none Equal (Int n) Null h k = refl
nowhere-none Equal (Text t) Null h k = refl
nowhere-none Equal Null Null h k = refl
nowhere-none Equal (Err e) Null h k = absurd (let z : ⊥ = cc in z)
nowhere-none Equal x (Int n) h k = absurd (let z : ⊥ = cc in z)
nowhere-none Equal x (Text t) h k = absurd (let z : ⊥ = cc in z)
nowhere-none Equal x (Err e) h k = absurd (let z : ⊥ = cc in z)
nowhere-none Numbers x y h k = absurd (let z : ⊥ = cc in z)
nowhere-none Texts x y h k = absurd (let z : ⊥ = cc in z)

pub apart-none : (by : Equality) (x y : Cell) → is_plain by x ≡ true → is_plain by y ≡ true → are_apart by x y ≡ true → is_none (equated by x y).t ≡ true
apart-none by x y h k d = elim (cases_Bool (is_nowhere by y)) [
  | inl e ↦ nowhere-none by x y h e
  | inr e ↦ unequal-none by x y h k (differ (is_nowhere by y) (is_eq (cell_compare x y)) e d)
]
  where
    differ : (a b : Bool) → a ≡ false → (a || not b) ≡ true → b ≡ false
    differ true b e d = absurd (let z : ⊥ = cc in z)
    differ false true e d = absurd (let z : ⊥ = cc in z)
    differ false false e d = refl

-- ---- the two sides of a comparison

own-side : (q : ℕ) (x y : Term) (key : Key) (rows : ℕ → Bag) (cells : List Cell) (env : Environment) → AreSides q x y key → value rows x (bound q cells env) ≡ own_of q (shown.term key.own.now) cells
own-side q x y key rows cells env sides = sides.own rows cells env ∙ sym (ap (λ (z : Term). own_of q z cells) sides.own_is)

other-side : (q : ℕ) (x y : Term) (key : Key) (rows : ℕ → Bag) (cells : List Cell) (env : Environment) → AreSides q x y key → value rows y (bound q cells env) ≡ other_of (shown.term key.other.now) env
other-side q x y key rows cells env sides = sides.other rows cells env ∙ sym (ap (λ (z : Term). other_of z env) sides.other_is)

-- what is said of both orders is said of a comparison
pub in-order : (P : Cell → Cell → Type 0) (q : ℕ) (x y : Term) (key : Key) (rows : ℕ → Bag) (cells : List Cell) (env : Environment) → AreEither q x y key
    → P (own_of q (shown.term key.own.now) cells) (other_of (shown.term key.other.now) env) → P (other_of (shown.term key.other.now) env) (own_of q (shown.term key.own.now) cells)
    → P (value rows x (bound q cells env)) (value rows y (bound q cells env))
in-order P q x y key rows cells env (inl sides) first second =
    subst (λ (c : Cell). P c (value rows y (bound q cells env))) (sym (own-side q x y key rows cells env sides))
    (subst (λ (c : Cell). P (own_of q (shown.term key.own.now) cells) c) (sym (other-side q x y key rows cells env sides)) first)
in-order P q x y key rows cells env (inr sides) first second =
    subst (λ (c : Cell). P c (value rows y (bound q cells env))) (sym (other-side q y x key rows cells env sides))
    (subst (λ (c : Cell). P (other_of (shown.term key.other.now) env) c) (sym (own-side q y x key rows cells env sides)) second)

pub key-either : (q : ℕ) (sign : Sign) (x y : Term) (by : Equality) (key : Key) → ((a b : Cell) → compared sign a b ≡ equated by a b) → key.by ≡ by → AreEither q x y key → IsKey q (terms.compare sign x y) key
key-either q sign x y by key is same sides rows cells env =
    let own = own_of q (shown.term key.own.now) cells in
    let other = other_of (shown.term key.other.now) env in
    in-order (λ a b. compared sign a b ≡ equated key.by own other) q x y key rows cells env sides
    (is own other ∙ ap (λ (e : Equality). equated e own other) (sym same))
    (is other own ∙ equated-back by other own ∙ ap (λ (e : Equality). equated e own other) (sym same))
