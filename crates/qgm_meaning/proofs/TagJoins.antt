-- Rows behind tags, joined back by a test of the tag: what is bound, and what some or every row of them is.
use Rattle.std.proofs.Common.{◌≡◌, ◌&&◌, ◌||◌, cond, Bool, true, false, List, [], ◌∷◌, ◌++◌, refl, sym, ap, ap₂, subst, ◌∙◌, ◌⊎◌, inl, inr}
use Rattle.std.proofs.lemmas.Bool.{and_from, and_parts, cases_Bool, or_cases}
use mathlib.Core.Path.{fun_ext}
use Rattle.sql_value.specs.Level.{greatest, least}
use Rattle.sql_value.specs.Truths as t
use Rattle.sql_value.specs.declared.cell.Cell.{Cell}
use Rattle.sql_value.specs.declared.level.Level.{Level}
use Rattle.sql_value.specs.declared.level.Level.TheVariants.{No, Cardinality, Division, Overflow, Yes}
use Rattle.sql_value.specs.declared.truth.Truth.{Truth}
use Rattle.sql_value.proofs.Laws.{or-associative, or-commutative}
use Rattle.row_bag.specs.AsSets.{stands}
use Rattle.row_bag.specs.Bags.{Alike, IsCommutativeMonoid, bind, fold_map, if_there, keep, row, total, unit}
use Rattle.row_bag.specs.Filters.{passing}
use Rattle.row_bag.specs.Sets.{once, same_cells}
use Rattle.row_bag.specs.Subqueries.{every, presence, some}
use Rattle.row_bag.specs.Tags.{led}
use Rattle.row_bag.specs.Verdict.{is_there}
use Rattle.row_bag.specs.declared.row.Row.{Row}
use Rattle.row_bag.proofs.Agreement.{alike-same, alike-trans}
use Rattle.row_bag.proofs.Binds.{bind-keep}
use Rattle.row_bag.proofs.FoldLaws.{some-alike}
use Rattle.row_bag.proofs.Folds.{fold_map-act}
use Rattle.row_bag.proofs.Images.{total-passing}
use Rattle.row_bag.proofs.Leading.{led-bind}
use Rattle.row_bag.proofs.Levels.{greatest-no, least-yes, no-greatest, no-least, yes-least}
use Rattle.row_bag.proofs.Standing.{bind-standing, stands-once, stands-some}
use Rattle.row_bag.proofs.Tagging.{joined-back}
use Rattle.row_bag.proofs.TupleBags.{same_cells-decides}

abbrev Tuple : Type 0
Tuple = List Cell

abbrev Rows : Type 0
Rows = List (Row Tuple)

-- ---- rows that are bound

-- of all tags the one that is the same gives what is bound of its rows, where the test is so at each tag that stands
pub joined-bind : (tags : Rows) (f : Tuple → Rows) (tag : Tuple) (k : Tuple → Level) (g : Tuple → Rows) → stands same_cells tag tags ≡ true
    → ((u c : Tuple) → stands same_cells u tags ≡ true → k (u ++ c) ≡ cond (same_cells u tag) Yes No)
    → Alike (bind (led (once same_cells tags) f) (λ x. keep (k x) (g x))) (bind (f tag) (λ c. g (tag ++ c)))
joined-bind tags f tag k g s is =
    alike-trans (alike-same (led-bind (once same_cells tags) f (λ x. keep (k x) (g x))))
    (alike-trans (bind-standing same_cells same_cells-decides (once same_cells tags) (λ u. bind (f u) (λ c. keep (k (u ++ c)) (g (u ++ c)))) (λ u. keep (cond (same_cells u tag) Yes No) (bind (f u) (λ c. g (u ++ c))))
    (λ u h. alike-same (ap (bind (f u)) (fun_ext (λ c. ap (λ (l : Level). keep l (g (u ++ c))) (is u c (stands-once same_cells same_cells-decides u tags h)))) ∙ sym (bind-keep (cond (same_cells u tag) Yes No) (f u) (λ c. g (u ++ c))))))
    (joined-back same_cells same_cells-decides tag (λ u. bind (f u) (λ c. g (u ++ c))) tags (stands-some same_cells tag tags s)))

-- ---- tuples that stand

or-false-right : (a b : Bool) → (a || b) ≡ true → b ≡ false → a ≡ true
or-false-right true b h k = refl
or-false-right false b h k = absurd (let z : ⊥ = cc in z)

least-there : {T : Type 0} (l m : Level) (c d : T) → is_there (row c (least l m)) ≡ true → (is_there (row d l) ≡ true) × (is_there (row d m) ≡ true)
least-there No m c d h = absurd (let e : least No m ≡ No = no-least m in let z : is_there (row c No) ≡ true = subst (λ (k : Level). is_there (row c k) ≡ true) e h in let y : ⊥ = cc in y)
least-there Cardinality No c d h = absurd (let z : ⊥ = cc in z)
least-there Cardinality Cardinality c d h = (refl, refl)
least-there Cardinality Division c d h = (refl, refl)
least-there Cardinality Overflow c d h = (refl, refl)
least-there Cardinality Yes c d h = (refl, refl)
least-there Division No c d h = absurd (let z : ⊥ = cc in z)
least-there Division Cardinality c d h = (refl, refl)
least-there Division Division c d h = (refl, refl)
least-there Division Overflow c d h = (refl, refl)
least-there Division Yes c d h = (refl, refl)
least-there Overflow No c d h = absurd (let z : ⊥ = cc in z)
least-there Overflow Cardinality c d h = (refl, refl)
least-there Overflow Division c d h = (refl, refl)
least-there Overflow Overflow c d h = (refl, refl)
least-there Overflow Yes c d h = (refl, refl)
least-there Yes No c d h = absurd (let z : ⊥ = cc in z)
least-there Yes Cardinality c d h = (refl, refl)
least-there Yes Division c d h = (refl, refl)
least-there Yes Overflow c d h = (refl, refl)
least-there Yes Yes c d h = (refl, refl)

stands-append : (c : Tuple) (xs ys : Rows) → stands same_cells c (xs ++ ys) ≡ true → (stands same_cells c xs ≡ true) ⊎ (stands same_cells c ys ≡ true)
stands-append c [] ys h = inr h
stands-append c (x ∷ xs) ys h = elim (or_cases (same_cells x.cells c && is_there x) (stands same_cells c (xs ++ ys)) h) [
  | inl a ↦ inl (ap (λ (b : Bool). b || stands same_cells c xs) a)
  | inr a ↦ elim (stands-append c xs ys a) [
    | inl b ↦ inl (elim (cases_Bool (same_cells x.cells c && is_there x)) [ inl e ↦ ap (λ (z : Bool). z || stands same_cells c xs) e | inr e ↦ ap (λ (z : Bool). z || stands same_cells c xs) e ∙ b ])
    | inr b ↦ inr b
  ]
]

stands-keep : (l : Level) (c : Tuple) (xs : Rows) → stands same_cells c (keep l xs) ≡ true → ((d : Tuple) → is_there (row d l) ≡ true) × (stands same_cells c xs ≡ true)
stands-keep l c [] h = absurd (let z : ⊥ = cc in z)
stands-keep l c (x ∷ xs) h = elim (or_cases (same_cells x.cells c && is_there (row x.cells (least l x.level))) (stands same_cells c (keep l xs)) h) [
  | inl a ↦ (
      let p = and_parts (same_cells x.cells c) (is_there (row x.cells (least l x.level))) a in (
        λ d. (least-there l x.level x.cells d p.1).0,
        ap (λ (b : Bool). b || stands same_cells c xs) (and_from (same_cells x.cells c) (is_there x) p.0 (least-there l x.level x.cells x.cells p.1).1),
      ))
  | inr a ↦ (let r = stands-keep l c xs a in (r.0, elim (cases_Bool (same_cells x.cells c && is_there x)) [ inl e ↦ ap (λ (z : Bool). z || stands same_cells c xs) e | inr e ↦ ap (λ (z : Bool). z || stands same_cells c xs) e ∙ r.1 ]))
]

-- what stands in what is bound stands in what is given of a tuple that stands
pub stands-bind : (c : Tuple) (xs : Rows) (g : Tuple → Rows) → stands same_cells c (bind xs g) ≡ true → (u : Tuple) × ((stands same_cells u xs ≡ true) × (stands same_cells c (g u) ≡ true))
stands-bind c [] g h = absurd (let z : ⊥ = cc in z)
stands-bind c (x ∷ xs) g h = elim (stands-append c (keep x.level (g x.cells)) (bind xs g) h) [
  | inl a ↦ (
      let r = stands-keep x.level c (g x.cells) a in (
        x.cells,
        (ap (λ (b : Bool). b || stands same_cells x.cells xs) (and_from (same_cells x.cells x.cells) (is_there x) ((same_cells-decides x.cells x.cells).1 refl) (r.0 x.cells)), r.1),
      ))
  | inr a ↦ (
      let r = stands-bind c xs g a in (
        r.0,
        (elim (cases_Bool (same_cells x.cells r.0 && is_there x)) [ inl e ↦ ap (λ (z : Bool). z || stands same_cells r.0 xs) e | inr e ↦ ap (λ (z : Bool). z || stands same_cells r.0 xs) e ∙ r.1.0 ], r.1.1),
      ))
]

-- a row behind a tag begins with a tag that stands
pub stands-led : (c : Tuple) (tags : Rows) (f : Tuple → Rows) → stands same_cells c (led tags f) ≡ true → (u : Tuple) × ((d : Tuple) × ((stands same_cells u tags ≡ true) × (u ++ d ≡ c)))
stands-led c tags f h =
    let a = stands-bind c tags (λ u. bind (f u) (λ d. unit (u ++ d))) h in
    let b = stands-bind c (f a.0) (λ d. unit (a.0 ++ d)) a.1.1 in
    let e = or-false-right (same_cells (a.0 ++ b.0) c && true) false b.1.1 refl in
    (a.0, (b.0, (a.1.0, (same_cells-decides (a.0 ++ b.0) c).0 (and_parts (same_cells (a.0 ++ b.0) c) true e).0)))

-- ---- some and every

pub and-true : (p : Truth) → t.and (t.truth_of true) p ≡ p
and-true p = ap₂ (λ (a b : Level). record { t = a; f = b }) (yes-least p.t) (no-greatest p.f)

pub and-true-right : (p : Truth) → t.and p (t.truth_of true) ≡ p
and-true-right p = ap₂ (λ (a b : Level). record { t = a; f = b }) (least-yes p.t) (greatest-no p.f)

yes-greatest : (l : Level) → greatest Yes l ≡ Yes
yes-greatest No = refl
yes-greatest Cardinality = refl
yes-greatest Division = refl
yes-greatest Overflow = refl
yes-greatest Yes = refl

greatest-yes : (l : Level) → greatest l Yes ≡ Yes
greatest-yes No = refl
greatest-yes Cardinality = refl
greatest-yes Division = refl
greatest-yes Overflow = refl
greatest-yes Yes = refl

least-no-right : (l : Level) → least l No ≡ No
least-no-right No = refl
least-no-right Cardinality = refl
least-no-right Division = refl
least-no-right Overflow = refl
least-no-right Yes = refl

pub and-false : (p : Truth) → t.and (t.truth_of false) p ≡ t.truth_of false
and-false p = ap₂ (λ (a b : Level). record { t = a; f = b }) (no-least p.t) (yes-greatest p.f)

and-false-right : (p : Truth) → t.and p (t.truth_of false) ≡ t.truth_of false
and-false-right p = ap₂ (λ (a b : Level). record { t = a; f = b }) (least-no-right p.t) (greatest-yes p.f)

or-false-truth : (p : Truth) → t.or (t.truth_of false) p ≡ p
or-false-truth p = ap₂ (λ (a b : Level). record { t = a; f = b }) (no-greatest p.t) (yes-least p.f)

or-monoid : IsCommutativeMonoid Truth t.or (t.truth_of false)
or-monoid = record { associative = or-associative; commutative = or-commutative; unit = or-false-truth }

-- a condition that is the same at each tuple that stands
pub some-standing : (f g : Tuple → Truth) (rows : Rows) → ((c : Tuple) → stands same_cells c rows ≡ true → f c ≡ g c) → some f rows ≡ some g rows
some-standing f g [] h = refl
some-standing f g (r ∷ rows) h =
    ap₂ t.or (one r.level (λ there. h r.cells (ap (λ (b : Bool). b || stands same_cells r.cells rows) (and_from (same_cells r.cells r.cells) (is_there r) ((same_cells-decides r.cells r.cells).1 refl) there))))
    (some-standing f g rows (λ c s. h c (elim (cases_Bool (same_cells r.cells c && is_there r)) [ inl e ↦ ap (λ (z : Bool). z || stands same_cells c rows) e | inr e ↦ ap (λ (z : Bool). z || stands same_cells c rows) e ∙ s ])))
  where
    one : (l : Level) → (is_there (row r.cells l) ≡ true → f r.cells ≡ g r.cells) → if_there (t.truth_of false) (λ c l. t.and (presence l) (f c)) r.cells l ≡ if_there (t.truth_of false) (λ c l. t.and (presence l) (g c)) r.cells l
    one No k = refl
    one Cardinality k = ap (t.and (presence Cardinality)) (k refl)
    one Division k = ap (t.and (presence Division)) (k refl)
    one Overflow k = ap (t.and (presence Overflow)) (k refl)
    one Yes k = ap (t.and (presence Yes)) (k refl)

-- a test that is true or false beside a condition is a test of the rows
some-decided : (b : Tuple → Bool) (h : Tuple → Truth) (rows : Rows) → some (λ c. t.and (t.truth_of (b c)) (h c)) rows ≡ some h (passing (λ c. cond (b c) Yes No) rows)
some-decided b h rows = sym (
    total-passing or-monoid (λ c l. t.and (presence l) (h c)) (λ c. cond (b c) Yes No) rows
    ∙ ap (λ (w : Tuple → Level → Truth). total t.or (t.truth_of false) w rows) (fun_ext (λ c. fun_ext (λ l. each c l (b c)))))
  where
    each : (c : Tuple) (l : Level) (z : Bool) → if_there (t.truth_of false) (λ c l. t.and (presence l) (h c)) c (least l (cond z Yes No)) ≡ t.and (presence l) (t.and (t.truth_of z) (h c))
    each c l true = ap (λ (k : Level). if_there (t.truth_of false) (λ c l. t.and (presence l) (h c)) c k) (least-yes l) ∙ there l ∙ ap (t.and (presence l)) (sym (and-true (h c)))
      where
        there : (l : Level) → if_there (t.truth_of false) (λ c l. t.and (presence l) (h c)) c l ≡ t.and (presence l) (h c)
        there No = sym (and-false (h c))
        there Cardinality = refl
        there Division = refl
        there Overflow = refl
        there Yes = refl
    each c l false = ap (λ (k : Level). if_there (t.truth_of false) (λ c l. t.and (presence l) (h c)) c k) (least-no-right l) ∙ sym (ap (t.and (presence l)) (and-false (h c)) ∙ and-false-right (presence l))

-- of rows made of others
some-image : (h : Tuple → Truth) (g : Tuple → Tuple) (rows : Rows) → some h (bind rows (λ c. unit (g c))) ≡ some (λ c. h (g c)) rows
some-image h g [] = refl
some-image h g (r ∷ rows) = ap₂ t.or (ap (if_there (t.truth_of false) (λ c l. t.and (presence l) (h c)) (g r.cells)) (least-yes r.level) ∙ same r.level) (some-image h g rows)
  where
    same : (l : Level) → if_there (t.truth_of false) (λ c l. t.and (presence l) (h c)) (g r.cells) l ≡ if_there (t.truth_of false) (λ c l. t.and (presence l) (h (g c))) r.cells l
    same No = refl
    same Cardinality = refl
    same Division = refl
    same Overflow = refl
    same Yes = refl

abbrev is_yes : Level → Bool
is_yes No = false
is_yes Cardinality = false
is_yes Division = false
is_yes Overflow = false
is_yes Yes = true

abbrev is_true : Truth → Bool
is_true p = is_yes p.t

module _ (tags : Rows) (f : Tuple → Rows) (tag : Tuple) (s : stands same_cells tag tags ≡ true) (k : Tuple → Truth) (is : (u c : Tuple) → stands same_cells u tags ≡ true → k (u ++ c) ≡ t.truth_of (same_cells u tag)) where
  abbrev rows : Rows
  rows = led (once same_cells tags) f

  abbrev b : Tuple → Bool
  b x = is_true (k x)

  decided : (z : Bool) (p : Truth) → p ≡ t.truth_of z → p ≡ t.truth_of (is_true p)
  decided true p e = e ∙ sym (ap (λ (q : Truth). t.truth_of (is_true q)) e)
  decided false p e = e ∙ sym (ap (λ (q : Truth). t.truth_of (is_true q)) e)

  at-tag : (z : Bool) (p : Truth) → p ≡ t.truth_of z → ◌≡◌ {A = Level} (cond (is_true p) Yes No) (cond z Yes No)
  at-tag true p e = ap (λ (q : Truth). cond (is_true q) Yes No) e
  at-tag false p e = ap (λ (q : Truth). cond (is_true q) Yes No) e

  rows-joined : Alike (passing (λ x. cond (b x) Yes No) rows) (bind (f tag) (λ c. unit (tag ++ c)))
  rows-joined = joined-bind tags f tag (λ x. cond (b x) Yes No) (λ x. unit x) s (λ u c h. at-tag (same_cells u tag) (k (u ++ c)) (is u c h))

  -- a condition of some row beside the test is one of some row of the tag
  pub joined-some : (h : Tuple → Truth) → some (λ x. t.and (k x) (h x)) rows ≡ some (λ c. h (tag ++ c)) (f tag)
  joined-some h =
      some-standing (λ x. t.and (k x) (h x)) (λ x. t.and (t.truth_of (b x)) (h x)) rows (λ x z. (
      let a = stands-led x (once same_cells tags) f z in
      let u = stands-once same_cells same_cells-decides a.0 tags a.1.1.0 in
      ap (λ (p : Truth). t.and p (h x)) (subst (λ (y : Tuple). k y ≡ t.truth_of (b y)) a.1.1.1 (decided (same_cells a.0 tag) (k (a.0 ++ a.1.0)) (is a.0 a.1.0 u)))))
      ∙ some-decided b h rows ∙ some-alike h (passing (λ x. cond (b x) Yes No) rows) (bind (f tag) (λ c. unit (tag ++ c))) rows-joined ∙ some-image h (λ c. tag ++ c) (f tag)

  -- every row is what no row isn't
  every-some : (h : Tuple → Truth) (rs : Rows) → every h rs ≡ t.negated (some (λ a. t.negated (h a)) rs)
  every-some h rs = sym (
      fold_map-act t.or (t.truth_of false) t.and (t.truth_of true) t.negated refl (λ a b. refl) (λ (r : Row Tuple). if_there (t.truth_of false) (λ a l. t.and (presence l) (t.negated (h a))) r.cells r.level) rs
      ∙ ap (λ (w : Row Tuple → Truth). fold_map t.and (t.truth_of true) w rs) (fun_ext (λ r. each r.cells r.level)))
    where
      each : (a : Tuple) (l : Level) → t.negated (if_there (t.truth_of false) (λ a l. t.and (presence l) (t.negated (h a))) a l) ≡ if_there (t.truth_of true) (λ a l. t.or (t.negated (presence l)) (h a)) a l
      each a No = refl
      each a Cardinality = refl
      each a Division = refl
      each a Overflow = refl
      each a Yes = refl

  pub joined-every : (h : Tuple → Truth) → every (λ x. t.or (t.negated (k x)) (h x)) rows ≡ every (λ c. h (tag ++ c)) (f tag)
  joined-every h =
      every-some (λ x. t.or (t.negated (k x)) (h x)) rows
      ∙ ap t.negated (joined-some (λ x. t.negated (h x)))
      ∙ sym (every-some (λ c. h (tag ++ c)) (f tag))
