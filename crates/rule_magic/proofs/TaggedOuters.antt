-- G5: the outer join over tagged arms.
use Rattle.std.proofs.Common.{◌≡◌, ℕ, suc, zero, ◌==◌, ◌&&◌, cond, nat_eq, Bool, true, false, List, [], ◌∷◌, ◌++◌, map, length, get_or, None, Option, Some, refl, ap, ap₂, sym, ◌∙◌, subst, eqb-true, Decides, arith, inl, inr}
use Rattle.std.specs.List.{list_all, list_any}
use Rattle.std.specs.Ordering.{is_eq}
use Rattle.std.proofs.lemmas.Bool.{and_from, and_parts, cases_Bool, or_from}
use mathlib.Core.Path.{fun_ext}
use Rattle.sql_value.specs.Cells.{cell_compare, error_of, worst_of}
use Rattle.sql_value.specs.Comparison as cmp
use Rattle.sql_value.specs.Level.{least}
use Rattle.sql_value.specs.Truths as t
use Rattle.sql_value.specs.declared.cell.Cell.{Cell}
use Rattle.sql_value.specs.declared.cell.Cell.TheVariants.{Null}
use Rattle.sql_value.specs.declared.cell.Kind.{Kind}
use Rattle.sql_value.specs.declared.level.Level.{Level}
use Rattle.sql_value.specs.declared.level.Level.TheVariants.{No, Yes}
use Rattle.sql_value.specs.declared.truth.Truth.{Truth}
use Rattle.row_bag.specs.AsSets.{stands}
use Rattle.row_bag.specs.Bags.{Alike, bind, keep, unit}
use Rattle.row_bag.specs.Errors.{error_in}
use Rattle.row_bag.specs.Joins.{how_many, or_else}
use Rattle.row_bag.specs.Order.{cell_of}
use Rattle.row_bag.specs.Sets.{same_cells}
use Rattle.row_bag.specs.Tags.{led}
use Rattle.row_bag.proofs.Agreement.{alike-bind, alike-refl, alike-same, alike-trans, sum-monoid}
use Rattle.row_bag.proofs.Binds.{bind-bind, bind-keep, keep-keep, unit-bind}
use Rattle.row_bag.proofs.Counts.{agree-from_alike}
use Rattle.row_bag.proofs.FoldLaws.{or_else-alike}
use Rattle.row_bag.proofs.Leading.{led-bind}
use Rattle.row_bag.proofs.Levels.{greatest-associative, least-associative, least-commutative, no-greatest, yes-least}
use Rattle.row_bag.proofs.Standing.{bind-standing, stands-some}
use Rattle.row_bag.proofs.Tagging.{joined-back}
use Rattle.row_bag.proofs.TupleBags.{same_cells-decides}
use Rattle.row_bag.proofs.Order.{level}
use Rattle.sql_value.proofs.Total.{cell-ties, cell-total}
use Rattle.std.proofs.lemmas.Cmp.{tied_itself}
use Rattle.qgm_core.specs.declared.node.Node.{Node}
use Rattle.qgm_core.specs.declared.owned.OwnedQuant.{OwnedQuant}
use Rattle.qgm_meaning.specs.Filters.{outer_of}
use Rattle.qgm_meaning.specs.Meaning.{given, nothing}
use Rattle.qgm_meaning.specs.Searches.{binds, binds_cond}
use Rattle.qgm_meaning.specs.Tags.{columns_from}
use Rattle.qgm_meaning.specs.Values.{Bag, Environment, all_true, bound, head_cells, row_of, truth, value}
use Rattle.qgm_meaning.specs.Widths.{Wide}
use Rattle.qgm_meaning.proofs.Frames.{truth-framed, value-framed}
use Rattle.qgm_meaning.proofs.Puts.{inlined-first, truth-put, value-put}
use Rattle.qgm_terms.specs.Substitution.{substituted, substituted_cond}
use Rattle.qgm_terms.specs.Terms.{Cond, Term, int, text, null_int, null_text, col, scalar, both, minus_of, choose, count_all, fold}
use Rattle.qgm_wellformed.specs.Shapes.{is_column}
use Rattle.rule_magic.specs.Boxes.{arms_box, both_cond, both_term, later, led_cond, led_term, left_box, same_each}
use Rattle.rule_magic.specs.UnderTags.{AreTags, BothArmsUnderTags, LeftArmUnderTags}
use Rattle.qgm_meaning.proofs.LedSets.{Tuple, same-test, total-of_image}
use Rattle.rule_magic.proofs.TaggedSelects.{keep-lead}
use Rattle.rule_magic.proofs.TaggedRows.{long, tags-once}
use Rattle.rule_magic.proofs.UnboundNames.{cond-same, term-same}
use Rattle.rule_magic.proofs.TaggedWidths.{append-one, at-place, bind-wide, columns-after, first-columns, head-append, length-one, other-row, own-row, wide-stands}
use Rattle.list_laws.proofs.Membership.{eq-false-sym}
use Rattle.list_laws.proofs.Booleans.{neither-left, neither-right}

-- ---- or else

or-led : (u : Tuple) (xs ys : Bag) → bind (or_else xs ys) (λ c. unit (u ++ c)) ≡ or_else (bind xs (λ c. unit (u ++ c))) (bind ys (λ c. unit (u ++ c)))
or-led u xs ys = pick (nat_eq (how_many xs) 0) ∙ ap (λ k. cond (nat_eq k 0) (bind ys (λ c. unit (u ++ c))) (bind xs (λ c. unit (u ++ c)))) (sym (total-of_image sum-monoid (λ c l. 1) (λ (c : Tuple). u ++ c) xs))
  where
    pick : (b : Bool) → bind (cond b ys xs) (λ c. unit (u ++ c)) ≡ cond b (bind ys (λ c. unit (u ++ c))) (bind xs (λ c. unit (u ++ c)))
    pick true = refl
    pick false = refl

-- ---- the same tag

-- two cells without errors
same-truth : (x y : Cell) → error_of x ≡ None → error_of y ≡ None → cmp.same x y ≡ t.truth_of (is_eq (cell_compare x y))
same-truth x y h k = ap₂ (λ (a b : Option Kind). t.error_or (worst_of a b) (t.truth_of (is_eq (cell_compare x y)))) h k

worst-parts : (a b : Option Kind) → worst_of a b ≡ None → (a ≡ None) × (b ≡ None)
worst-parts None b e = (refl, e)
worst-parts (Some j) None e = absurd (let z : ⊥ = cc in z)
worst-parts (Some j) (Some k) e = absurd (let z : ⊥ = cc in z)

suc-not-zero : (n : ℕ) → suc n ≡ 0 → ⊥
suc-not-zero n h = let z : ⊥ = omega (arith, h) in z

suc-same : (m n : ℕ) → suc m ≡ suc n → m ≡ n
suc-same m n h = omega (arith, h)

same_cell-decides : (x y : Cell) → Decides (is_eq (cell_compare x y)) (x ≡ y)
same_cell-decides x y = (λ h. cell-ties x y (level (cell_compare x y) h), λ e. ap (λ (c : Cell). is_eq (cell_compare c y)) e ∙ ap is_eq (tied_itself cell-total y))

abbrev all-same : Tuple → Tuple → Bool
all-same [] [] = true
all-same [] (y ∷ ys) = false
all-same (x ∷ xs) [] = false
all-same (x ∷ xs) (y ∷ ys) = is_eq (cell_compare x y) && all-same xs ys

all-decide : (xs ys : Tuple) → Decides (all-same xs ys) (xs ≡ ys)
all-decide [] [] = (λ h. refl, λ h. refl)
all-decide [] (y ∷ ys) = (λ h. absurd (let z : ⊥ = cc in z), λ h. absurd (let z : ⊥ = cc in z))
all-decide (x ∷ xs) [] = (λ h. absurd (let z : ⊥ = cc in z), λ h. absurd (let z : ⊥ = cc in z))
all-decide (x ∷ xs) (y ∷ ys) = (
  λ h. (let a = and_parts (is_eq (cell_compare x y)) (all-same xs ys) h in ap₂ (λ (c : Cell) (cs : Tuple). c ∷ cs) ((same_cell-decides x y).0 a.0) ((all-decide xs ys).0 a.1)),
  λ h. (let e : x ≡ y = cc in let f : xs ≡ ys = cc in and_from (is_eq (cell_compare x y)) (all-same xs ys) ((same_cell-decides x y).1 e) ((all-decide xs ys).1 f)),
)

same-as : (xs ys : Tuple) → all-same xs ys ≡ same_cells ys xs
same-as xs ys = same-test (all-same xs ys) (same_cells ys xs) (all-decide xs ys) (same_cells-decides ys xs) (λ e. sym e) (λ e. sym e)

and-truths : (a b : Bool) → t.and (t.truth_of a) (t.truth_of b) ≡ t.truth_of (a && b)
and-truths true true = refl
and-truths true false = refl
and-truths false true = refl
and-truths false false = refl

-- column by column, from place k on
same-columns : (p q : ℕ) (e : Environment) (pre pre' us vs xs ys : Tuple) → length pre ≡ length pre' → length us ≡ length vs → row_of p e ≡ pre ++ (us ++ xs) → row_of q e ≡ pre' ++ (vs ++ ys) → error_in us ≡ None → error_in vs ≡ None
    → all_true nothing (same_each p q (suc (length pre)) (length us)) e ≡ t.truth_of (all-same us vs)
same-columns p q e pre pre' [] [] xs ys lp lu hp hq eu ev = refl
same-columns p q e pre pre' [] (v ∷ vs) xs ys lp lu hp hq eu ev = absurd (let z : ⊥ = suc-not-zero (length vs) (sym lu) in z)
same-columns p q e pre pre' (u ∷ us) [] xs ys lp lu hp hq eu ev = absurd (let z : ⊥ = suc-not-zero (length us) lu in z)
same-columns p q e pre pre' (u ∷ us) (v ∷ vs) xs ys lp lu hp hq eu ev =
    let a = worst-parts (error_of u) (error_in us) eu in
    let b = worst-parts (error_of v) (error_in vs) ev in
    ap₂ t.and
    (ap₂ cmp.same (ap (cell_of (suc (length pre))) hp ∙ at-place pre u (us ++ xs)) (ap (cell_of (suc (length pre))) hq ∙ ap (λ n. cell_of (suc n) (pre' ++ (v ∷ (vs ++ ys)))) lp ∙ at-place pre' v (vs ++ ys)) ∙ same-truth u v a.0 b.0)
    (ap (λ n. all_true nothing (same_each p q (suc n) (length us)) e) (sym (length-one pre u))
    ∙ same-columns p q e (pre ++ u ∷ []) (pre' ++ v ∷ []) us vs xs ys (length-one pre u ∙ ap suc lp ∙ sym (length-one pre' v)) (suc-same (length us) (length vs) lu) (hp ∙ sym (append-one pre u (us ++ xs))) (hq ∙ sym (append-one pre' v (vs ++ ys))) a.1 b.1)
    ∙ and-truths (is_eq (cell_compare u v)) (all-same us vs)

-- the level at which two tags are the same
pub same-level : (p q w : ℕ) (e : Environment) (u v xs ys : Tuple) → length u ≡ w → length v ≡ w → row_of p e ≡ u ++ xs → row_of q e ≡ v ++ ys → error_in u ≡ None → error_in v ≡ None
    → (all_true nothing (same_each p q 1 w) e).t ≡ cond (same_cells v u) Yes No
same-level p q w e u v xs ys lu lv hp hq eu ev =
    ap (λ (z : Truth). z.t) (ap (λ n. all_true nothing (same_each p q 1 n) e) (sym lu) ∙ same-columns p q e [] [] u v xs ys refl (lu ∙ sym lv) hp hq eu ev)
    ∙ ap (λ b. (t.truth_of b).t) (same-as u v) ∙ level-of (same_cells v u)
  where
    level-of : (b : Bool) → (t.truth_of b).t ≡ cond b Yes No
    level-of true = refl
    level-of false = refl

true-and : (p : Truth) → p ≡ t.and (t.truth_of true) p
true-and p = ap₂ (λ (x y : Level). record { t = x; f = y }) (sym (yes-least p.t)) (sym (no-greatest p.f))

and-assoc : (p q s : Truth) → t.and p (t.and q s) ≡ t.and (t.and p q) s
and-assoc p q s = ap₂ (λ (x y : Level). record { t = x; f = y }) (sym (least-associative p.t q.t s.t)) (sym (greatest-associative p.f q.f s.f))

-- ---- a row of no cells is a row of nulls

abbrev pub nulls : ℕ → Tuple
nulls zero = []
nulls (suc n) = Null ∷ nulls n

null-at : (n k : ℕ) → get_or (nulls n) k Null ≡ Null
null-at zero k = refl
null-at (suc n) zero = refl
null-at (suc n) (suc k) = null-at n k

null-cell : (n k : ℕ) → cell_of k (nulls n) ≡ cell_of k []
null-cell n zero = refl
null-cell n (suc k) = null-at n k

null-columns : (r k n : ℕ) (e : Environment) → row_of r e ≡ [] → head_cells nothing (columns_from r (suc k) n) e ≡ nulls n
null-columns r k zero e h = refl
null-columns r k (suc n) e h = ap₂ (λ (c : Cell) (cs : Tuple). c ∷ cs) (ap (cell_of (suc k)) h) (null-columns r (suc k) n e h)

pub null-cells : (r w n : ℕ) (e : Environment) → row_of r e ≡ [] → head_cells nothing (later r w n) e ≡ nulls n
null-cells r w n e h = null-columns r w n e h

-- ---- names moved

module _ (a l r w v : ℕ) (al : (a == l) ≡ false) (la : (l == a) ≡ false) (ra : (r == a) ≡ false) (rl : (r == l) ≡ false) where
  abbrev before : Tuple → Tuple → Tuple → Environment → Environment
  before u x y env = bound r y (bound l x (bound a u env))

  -- a and l bound to what is put in
  abbrev moved : Tuple → Tuple → Environment → Environment
  moved u x e = bound l x (bound a u e)

  module _ (u x y : Tuple) (env d : Environment) (left : row_of l d ≡ u ++ x) (right : row_of r d ≡ y) (others : (q : ℕ) → (l == q) ≡ false → (r == q) ≡ false → row_of q d ≡ row_of q env) (lu : length u ≡ w) (lx : length x ≡ v) where
    moved-same : (q : ℕ) → row_of q (moved u x d) ≡ row_of q (before u x y env)
    moved-same q = elim (cases_Bool (l == q)) [
      | inl i ↦ (let e : l ≡ q = eqb-true l q i in subst (λ z. row_of z (moved u x d) ≡ row_of z (before u x y env)) e
          (own-row l x (bound a u d) ∙ sym (other-row l r y (bound l x (bound a u env)) rl ∙ own-row l x (bound a u env))))
      | inr i ↦ elim (cases_Bool (a == q)) [
        | inl j ↦ (let e : a ≡ q = eqb-true a q j in subst (λ z. row_of z (moved u x d) ≡ row_of z (before u x y env)) e
            (other-row a l x (bound a u d) la ∙ own-row a u d ∙ sym (other-row a r y (bound l x (bound a u env)) ra ∙ other-row a l x (bound a u env) la ∙ own-row a u env)))
        | inr j ↦ other-row q l x (bound a u d) i ∙ other-row q a u d j ∙ elim (cases_Bool (r == q)) [
          | inl k ↦ (let e : r ≡ q = eqb-true r q k in subst (λ z. row_of z d ≡ row_of z (before u x y env)) e (right ∙ sym (own-row r y (bound l x (bound a u env)))))
          | inr k ↦ others q i k ∙ sym (other-row q r y (bound l x (bound a u env)) k ∙ other-row q l x (bound a u env) i ∙ other-row q a u env j)
        ]
      ]
    ]

    tag-cells : head_cells nothing (columns_from l 1 w) d ≡ u
    tag-cells = first-columns nothing l w d u x left lu

    rest-cells : head_cells nothing (later l w v) (bound a u d) ≡ x
    rest-cells = columns-after nothing l w v (bound a u d) u x (other-row l a u d al ∙ left) lu lx

    pub value-led : (z : Term) → ((q : ℕ) → binds q z ≡ false) → value nothing (led_term a l w v z) d ≡ value nothing z (before u x y env)
    value-led z h =
        value-put nothing a (columns_from l 1 w) (substituted l (later l w v) z) d (bound a (head_cells nothing (columns_from l 1 w) d) d) (inlined-first nothing a (columns_from l 1 w) d) (λ q k. absurd (let n : binds q (substituted l (later l w v) z) ≡ false = term-same l l (suc w) v q z ∙ h q in let z : ⊥ = cc in z))
        ∙ ap (λ (c : Tuple). value nothing (substituted l (later l w v) z) (bound a c d)) tag-cells
        ∙ value-put nothing l (later l w v) z (bound a u d) (bound l (head_cells nothing (later l w v) (bound a u d)) (bound a u d)) (inlined-first nothing l (later l w v) (bound a u d)) (λ q k. absurd (let n : binds q z ≡ false = h q in let z : ⊥ = cc in z))
        ∙ ap (λ (c : Tuple). value nothing z (bound l c (bound a u d))) rest-cells
        ∙ value-framed nothing z (moved u x d) (before u x y env) (record { rows = λ q k. moved-same q })

    pub truth-led : (p : Cond) → ((q : ℕ) → binds_cond q p ≡ false) → truth nothing (led_cond a l w v p) d ≡ truth nothing p (before u x y env)
    truth-led p h =
        truth-put nothing a (columns_from l 1 w) (substituted_cond l (later l w v) p) d (bound a (head_cells nothing (columns_from l 1 w) d) d) (inlined-first nothing a (columns_from l 1 w) d) (λ q k. absurd (let n : binds_cond q (substituted_cond l (later l w v) p) ≡ false = cond-same l l (suc w) v q p ∙ h q in let z : ⊥ = cc in z))
        ∙ ap (λ (c : Tuple). truth nothing (substituted_cond l (later l w v) p) (bound a c d)) tag-cells
        ∙ truth-put nothing l (later l w v) p (bound a u d) (bound l (head_cells nothing (later l w v) (bound a u d)) (bound a u d)) (inlined-first nothing l (later l w v) (bound a u d)) (λ q k. absurd (let n : binds_cond q p ≡ false = h q in let z : ⊥ = cc in z))
        ∙ ap (λ (c : Tuple). truth nothing p (bound l c (bound a u d))) rest-cells
        ∙ truth-framed nothing p (moved u x d) (before u x y env) (record { rows = λ q k. moved-same q })

    pub head-led : (zs : List Term) → ((q : ℕ) → list_any (binds q) zs ≡ false) → head_cells nothing (map (led_term a l w v) zs) d ≡ head_cells nothing zs (before u x y env)
    head-led [] h = refl
    head-led (z ∷ zs) h = ap₂ (λ (c : Cell) (cs : Tuple). c ∷ cs) (value-led z (λ q. neither-left (binds q z) (list_any (binds q) zs) (h q))) (head-led zs (λ q. neither-right (binds q z) (list_any (binds q) zs) (h q)))

    pub conds-led : (ps : List Cond) → ((q : ℕ) → list_any (binds_cond q) ps ≡ false) → all_true nothing (map (led_cond a l w v) ps) d ≡ all_true nothing ps (before u x y env)
    conds-led [] h = refl
    conds-led (p ∷ ps) h = ap₂ t.and (truth-led p (λ q. neither-left (binds_cond q p) (list_any (binds_cond q) ps) (h q))) (conds-led ps (λ q. neither-right (binds_cond q p) (list_any (binds_cond q) ps) (h q)))

-- what names r's later columns
module _ (r w n : ℕ) (e : Environment) (y : Tuple) (right : head_cells nothing (later r w n) e ≡ y) where
  put-heads : (zs : List Term) → ((q : ℕ) → list_any (binds q) zs ≡ false) → head_cells nothing (map (substituted r (later r w n)) zs) e ≡ head_cells nothing zs (bound r y e)
  put-heads [] h = refl
  put-heads (z ∷ zs) h = ap₂ (λ (c : Cell) (cs : Tuple). c ∷ cs)
      (value-put nothing r (later r w n) z e (bound r (head_cells nothing (later r w n) e) e) (inlined-first nothing r (later r w n) e) (λ q k. absurd (let m : binds q z ≡ false = neither-left (binds q z) (list_any (binds q) zs) (h q) in let z : ⊥ = cc in z))
      ∙ ap (λ (c : Tuple). value nothing z (bound r c e)) right)
      (put-heads zs (λ q. neither-right (binds q z) (list_any (binds q) zs) (h q)))

  put-conds : (ps : List Cond) → ((q : ℕ) → list_any (binds_cond q) ps ≡ false) → all_true nothing (map (substituted_cond r (later r w n)) ps) e ≡ all_true nothing ps (bound r y e)
  put-conds [] h = refl
  put-conds (p ∷ ps) h = ap₂ t.and
      (truth-put nothing r (later r w n) p e (bound r (head_cells nothing (later r w n) e) e) (inlined-first nothing r (later r w n) e) (λ q k. absurd (let m : binds_cond q p ≡ false = neither-left (binds_cond q p) (list_any (binds_cond q) ps) (h q) in let z : ⊥ = cc in z))
      ∙ ap (λ (c : Tuple). truth nothing p (bound r c e)) right)
      (put-conds ps (λ q. neither-right (binds_cond q p) (list_any (binds_cond q) ps) (h q)))

-- columns are the same of nulls as of no cells
null-heads : (r n : ℕ) (e : Environment) (zs : List Term) → list_all is_column zs ≡ true → head_cells nothing zs (bound r (nulls n) e) ≡ head_cells nothing zs (bound r [] e)
null-heads r n e [] h = refl
null-heads r n e (z ∷ zs) h = let a = and_parts (is_column z) (list_all is_column zs) h in ap₂ (λ (c : Cell) (cs : Tuple). c ∷ cs) (one z a.0) (null-heads r n e zs a.1)
  where
    one : (z : Term) → is_column z ≡ true → value nothing z (bound r (nulls n) e) ≡ value nothing z (bound r [] e)
    one (int m) h = absurd (let z : ⊥ = cc in z)
    one (text s) h = absurd (let z : ⊥ = cc in z)
    one null_int h = absurd (let z : ⊥ = cc in z)
    one null_text h = absurd (let z : ⊥ = cc in z)
    one (col q k) h = elim (r == q) as (λ b. cell_of k (cond b (nulls n) (row_of q e)) ≡ cell_of k (cond b [] (row_of q e))) [ true ↦ null-cell n k | false ↦ refl ]
    one (scalar q) h = absurd (let z : ⊥ = cc in z)
    one (both o x y) h = absurd (let z : ⊥ = cc in z)
    one (minus_of x) h = absurd (let z : ⊥ = cc in z)
    one (choose s x) h = absurd (let z : ⊥ = cc in z)
    one count_all h = absurd (let z : ⊥ = cc in z)
    one (fold f t x) h = absurd (let z : ⊥ = cc in z)

columns-free : (zs : List Term) → list_all is_column zs ≡ true → (q : ℕ) → list_any (binds q) zs ≡ false
columns-free [] h q = refl
columns-free (z ∷ zs) h q = let a = and_parts (is_column z) (list_all is_column zs) h in or_from (binds q z) (list_any (binds q) zs) (one z a.0) (columns-free zs a.1 q)
  where
    one : (z : Term) → is_column z ≡ true → binds q z ≡ false
    one (int m) h = refl
    one (text s) h = refl
    one null_int h = refl
    one null_text h = refl
    one (col r k) h = refl
    one (scalar r) h = absurd (let z : ⊥ = cc in z)
    one (both o x y) h = absurd (let z : ⊥ = cc in z)
    one (minus_of x) h = absurd (let z : ⊥ = cc in z)
    one (choose s x) h = absurd (let z : ⊥ = cc in z)
    one count_all h = refl
    one (fold f t x) h = absurd (let z : ⊥ = cc in z)

-- ---- the outer join

module _ (w v n : ℕ) (a l r : ℕ) (al : (a == l) ≡ false) (la : (l == a) ≡ false) (ra : (r == a) ≡ false) (rl : (r == l) ≡ false) (lr : (l == r) ≡ false)
    (b : ℕ) (c : Node) (quants : List OwnedQuant) (columns : list_all is_column c.parts.head ≡ true) (conds_free : (q : ℕ) → list_any (binds_cond q) c.parts.conds.items ≡ false)
    (tags : Bag) (are : AreTags w tags) (xs ys : Tuple → Bag) (wide : (u : Tuple) → Wide v (xs u)) (env : Environment) where
  head_free : (q : ℕ) → list_any (binds q) c.parts.head ≡ false
  head_free = columns-free c.parts.head columns

  abbrev at : Tuple → Tuple → Tuple → Environment
  at u x y = bound r y (bound l x (bound a u env))

  abbrev by_left : Tuple → Tuple → Tuple → Environment
  by_left u x y = bound r y (bound l (u ++ x) env)

  -- the rows of a left row under its tag
  abbrev row_under : Tuple → Tuple → Bag → Bag
  row_under u x right = or_else (bind right (λ y. given nothing c (at u x y))) (unit (head_cells nothing c.parts.head (at u x [])))

  others-left : (u x y : Tuple) (q : ℕ) → (l == q) ≡ false → (r == q) ≡ false → row_of q (by_left u x y) ≡ row_of q env
  others-left u x y q i k = other-row q r y (bound l (u ++ x) env) k ∙ other-row q l (u ++ x) env i

  left-of : (u x y : Tuple) → row_of l (by_left u x y) ≡ u ++ x
  left-of u x y = other-row l r y (bound l (u ++ x) env) rl ∙ own-row l (u ++ x) env

  -- over an untagged right arm
  module _ (right : Bag) where
    abbrev n' : Node
    n' = left_box b a l w v c quants

    left-head : (u x y : Tuple) → length u ≡ w → length x ≡ v → head_cells nothing n'.parts.head (by_left u x y) ≡ u ++ head_cells nothing c.parts.head (at u x y)
    left-head u x y lu lx =
        head-append nothing (columns_from l 1 w) (map (led_term a l w v) c.parts.head) (by_left u x y)
        ∙ ap₂ (λ (s t : Tuple). s ++ t) (first-columns nothing l w (by_left u x y) u x (left-of u x y) lu)
        (head-led a l r w v al la ra rl u x y env (by_left u x y) (left-of u x y) (own-row r y (bound l (u ++ x) env)) (others-left u x y) lu lx c.parts.head head_free)

    left-given : (u x y : Tuple) → length u ≡ w → length x ≡ v → given nothing n' (by_left u x y) ≡ bind (given nothing c (at u x y)) (λ z. unit (u ++ z))
    left-given u x y lu lx =
        ap₂ (λ (p : Truth) (z : Tuple). keep p.t (unit z))
        (conds-led a l r w v al la ra rl u x y env (by_left u x y) (left-of u x y) (own-row r y (bound l (u ++ x) env)) (others-left u x y) lu lx c.parts.conds.items conds_free)
        (left-head u x y lu lx)
        ∙ keep-lead (all_true nothing c.parts.conds.items (at u x y)).t u (head_cells nothing c.parts.head (at u x y))

    left-row : (u x : Tuple) → length u ≡ w → length x ≡ v
        → or_else (bind right (λ y. given nothing n' (by_left u x y))) (unit (head_cells nothing n'.parts.head (by_left u x []))) ≡ bind (row_under u x right) (λ z. unit (u ++ z))
    left-row u x lu lx =
        ap₂ (λ (s t : Bag). or_else s t)
        (ap (bind right) (fun_ext (λ y. left-given u x y lu lx)) ∙ sym (bind-bind right (λ y. given nothing c (at u x y)) (λ z. unit (u ++ z))))
        (ap (λ (z : Tuple). unit z) (left-head u x [] lu lx) ∙ sym (unit-bind (head_cells nothing c.parts.head (at u x [])) (λ z. unit (u ++ z))))
        ∙ sym (or-led u (bind right (λ y. given nothing c (at u x y))) (unit (head_cells nothing c.parts.head (at u x []))))

    pub left-under : outer_of n' env l r (led tags xs) right ≡ led tags (λ u. outer_of c (bound a u env) l r (xs u) right)
    left-under =
        led-bind tags xs (λ z. or_else (bind right (λ y. given nothing n' (bound r y (bound l z env)))) (unit (head_cells nothing n'.parts.head (bound r [] (bound l z env)))))
        ∙ bind-wide w tags (λ u. bind (xs u) (λ x. or_else (bind right (λ y. given nothing n' (by_left u x y))) (unit (head_cells nothing n'.parts.head (by_left u x [])))))
        (λ u. bind (outer_of c (bound a u env) l r (xs u) right) (λ z. unit (u ++ z))) are.wide
        (λ u lu. bind-wide v (xs u) (λ x. or_else (bind right (λ y. given nothing n' (by_left u x y))) (unit (head_cells nothing n'.parts.head (by_left u x [])))) (λ x. bind (row_under u x right) (λ z. unit (u ++ z))) (wide u)
        (λ x lx. left-row u x lu lx)
        ∙ sym (bind-bind (xs u) (λ x. row_under u x right) (λ z. unit (u ++ z))))

  -- over a tagged right arm
  module _ (wide_y : (u : Tuple) → Wide n (ys u)) where
    abbrev m' : Node
    m' = arms_box b a l w v r n c quants

    map-map : {X Y Z : Type 0} (f : Y → Z) (g : X → Y) (zs : List X) → map (λ x. f (g x)) zs ≡ map f (map g zs)
    map-map f g [] = refl
    map-map {Z = Z} f g (z ∷ zs) = ap (λ (t : List Z). f (g z) ∷ t) (map-map f g zs)

    -- r bound to the cells behind its tag
    unled-others : (u x p y : Tuple) (q : ℕ) → (l == q) ≡ false → (r == q) ≡ false → row_of q (bound r y (by_left u x p)) ≡ row_of q env
    unled-others u x p y q i k = other-row q r y (by_left u x p) k ∙ others-left u x p q i k

    free-terms : (zs : List Term) → ((q : ℕ) → list_any (binds q) zs ≡ false) → (q : ℕ) → list_any (binds q) (map (led_term a l w v) zs) ≡ false
    free-terms [] h q = refl
    free-terms (z ∷ zs) h q = or_from (binds q (led_term a l w v z)) (list_any (binds q) (map (led_term a l w v) zs))
        (term-same a l 1 w q (substituted l (later l w v) z) ∙ term-same l l (suc w) v q z ∙ neither-left (binds q z) (list_any (binds q) zs) (h q)) (free-terms zs (λ q. neither-right (binds q z) (list_any (binds q) zs) (h q)) q)

    free-conds : (ps : List Cond) → ((q : ℕ) → list_any (binds_cond q) ps ≡ false) → (q : ℕ) → list_any (binds_cond q) (map (led_cond a l w v) ps) ≡ false
    free-conds [] h q = refl
    free-conds (p ∷ ps) h q = or_from (binds_cond q (led_cond a l w v p)) (list_any (binds_cond q) (map (led_cond a l w v) ps))
        (cond-same a l 1 w q (substituted_cond l (later l w v) p) ∙ cond-same l l (suc w) v q p ∙ neither-left (binds_cond q p) (list_any (binds_cond q) ps) (h q)) (free-conds ps (λ q. neither-right (binds_cond q p) (list_any (binds_cond q) ps) (h q)) q)

    -- where r is bound to p, whose later cells are y
    module _ (u x p y : Tuple) (lu : length u ≡ w) (lx : length x ≡ v) (rest : head_cells nothing (later r w n) (by_left u x p) ≡ y) where
      both-head : head_cells nothing m'.parts.head (by_left u x p) ≡ u ++ head_cells nothing c.parts.head (at u x y)
      both-head =
          head-append nothing (columns_from l 1 w) (map (both_term a l w v r n) c.parts.head) (by_left u x p)
          ∙ ap₂ (λ (s t : Tuple). s ++ t) (first-columns nothing l w (by_left u x p) u x (left-of u x p) lu)
          (ap (λ (zs : List Term). head_cells nothing zs (by_left u x p)) (map-map (substituted r (later r w n)) (led_term a l w v) c.parts.head)
          ∙ put-heads r w n (by_left u x p) y rest (map (led_term a l w v) c.parts.head) (free-terms c.parts.head head_free)
          ∙ head-led a l r w v al la ra rl u x y env (bound r y (by_left u x p)) (other-row l r y (by_left u x p) rl ∙ left-of u x p) (own-row r y (by_left u x p)) (unled-others u x p y) lu lx c.parts.head head_free)

      both-conds : all_true nothing (map (both_cond a l w v r n) c.parts.conds.items) (by_left u x p) ≡ all_true nothing c.parts.conds.items (at u x y)
      both-conds =
          ap (λ (zs : List Cond). all_true nothing zs (by_left u x p)) (map-map (substituted_cond r (later r w n)) (led_cond a l w v) c.parts.conds.items)
          ∙ put-conds r w n (by_left u x p) y rest (map (led_cond a l w v) c.parts.conds.items) (free-conds c.parts.conds.items conds_free)
          ∙ conds-led a l r w v al la ra rl u x y env (bound r y (by_left u x p)) (other-row l r y (by_left u x p) rl ∙ left-of u x p) (own-row r y (by_left u x p)) (unled-others u x p y) lu lx c.parts.conds.items conds_free

    all-append : (ps qs : List Cond) (e : Environment) → all_true nothing (ps ++ qs) e ≡ t.and (all_true nothing ps e) (all_true nothing qs e)
    all-append [] qs e = true-and (all_true nothing qs e)
    all-append (p ∷ ps) qs e = ap (t.and (truth nothing p e)) (all-append ps qs e) ∙ and-assoc (truth nothing p e) (all_true nothing ps e) (all_true nothing qs e)

    both-given : (u x q y : Tuple) → length u ≡ w → length x ≡ v → length q ≡ w → length y ≡ n → error_in u ≡ None → error_in q ≡ None
        → given nothing m' (by_left u x (q ++ y)) ≡ keep (cond (same_cells q u) Yes No) (bind (given nothing c (at u x y)) (λ z. unit (u ++ z)))
    both-given u x q y lu lx lq ly eu eq =
        let rest = columns-after nothing r w n (by_left u x (q ++ y)) q y (own-row r (q ++ y) (bound l (u ++ x) env)) lq ly in
        ap₂ (λ (p : Truth) (z : Tuple). keep p.t (unit z))
        (all-append (map (both_cond a l w v r n) c.parts.conds.items) (same_each l r 1 w) (by_left u x (q ++ y)))
        (both-head u x (q ++ y) y lu lx rest)
        ∙ ap (λ (k : Level). keep k (unit (u ++ head_cells nothing c.parts.head (at u x y))))
        (ap₂ least (ap (λ (p : Truth). p.t) (both-conds u x (q ++ y) y lu lx rest)) (same-level l r w (by_left u x (q ++ y)) u q x y lu lq (left-of u x (q ++ y)) (own-row r (q ++ y) (bound l (u ++ x) env)) eu eq)
        ∙ least-commutative (all_true nothing c.parts.conds.items (at u x y)).t (cond (same_cells q u) Yes No))
        ∙ sym (keep-keep (cond (same_cells q u) Yes No) (all_true nothing c.parts.conds.items (at u x y)).t (unit (u ++ head_cells nothing c.parts.head (at u x y))))
        ∙ ap (keep (cond (same_cells q u) Yes No)) (keep-lead (all_true nothing c.parts.conds.items (at u x y)).t u (head_cells nothing c.parts.head (at u x y)))

    -- the partners of a left row
    partners : (u x : Tuple) → stands same_cells u tags ≡ true → length x ≡ v → Alike (bind (led tags ys) (λ p. given nothing m' (by_left u x p))) (bind (bind (ys u) (λ y. given nothing c (at u x y))) (λ z. unit (u ++ z)))
    partners u x s lx =
        let lu = long w tags are u s in
        alike-trans (alike-same (led-bind tags ys (λ p. given nothing m' (by_left u x p))))
        (alike-trans (bind-standing same_cells same_cells-decides tags (λ q. bind (ys q) (λ y. given nothing m' (by_left u x (q ++ y)))) (λ q. keep (cond (same_cells q u) Yes No) (bind (bind (ys q) (λ y. given nothing c (at u x y))) (λ z. unit (u ++ z))))
        (λ q sq. alike-same (
        bind-wide n (ys q) (λ y. given nothing m' (by_left u x (q ++ y))) (λ y. keep (cond (same_cells q u) Yes No) (bind (given nothing c (at u x y)) (λ z. unit (u ++ z)))) (wide_y q)
        (λ y ly. both-given u x q y lu lx (long w tags are q sq) ly (are.sound u s) (are.sound q sq))
        ∙ sym (bind-keep (cond (same_cells q u) Yes No) (ys q) (λ y. bind (given nothing c (at u x y)) (λ z. unit (u ++ z))))
        ∙ ap (keep (cond (same_cells q u) Yes No)) (sym (bind-bind (ys q) (λ y. given nothing c (at u x y)) (λ z. unit (u ++ z)))))))
        (alike-trans (alike-bind (tags-once w tags are) (λ q. alike-refl (keep (cond (same_cells q u) Yes No) (bind (bind (ys q) (λ y. given nothing c (at u x y))) (λ z. unit (u ++ z))))))
        (joined-back same_cells same_cells-decides u (λ q. bind (bind (ys q) (λ y. given nothing c (at u x y))) (λ z. unit (u ++ z))) tags (stands-some same_cells u tags s))))

    both-row : (u x : Tuple) → stands same_cells u tags ≡ true → length x ≡ v
        → Alike (or_else (bind (led tags ys) (λ p. given nothing m' (by_left u x p))) (unit (head_cells nothing m'.parts.head (by_left u x [])))) (bind (row_under u x (ys u)) (λ z. unit (u ++ z)))
    both-row u x s lx =
        let lu = long w tags are u s in
        alike-trans (or_else-alike (bind (led tags ys) (λ p. given nothing m' (by_left u x p))) (bind (bind (ys u) (λ y. given nothing c (at u x y))) (λ z. unit (u ++ z))) (unit (head_cells nothing m'.parts.head (by_left u x []))) (partners u x s lx))
        (alike-same (ap (λ (t : Bag). or_else (bind (bind (ys u) (λ y. given nothing c (at u x y))) (λ z. unit (u ++ z))) t)
        (ap (λ (z : Tuple). unit z) (both-head u x [] (nulls n) lu lx (null-cells r w n (by_left u x []) (own-row r [] (bound l (u ++ x) env))) ∙ ap (λ (z : Tuple). u ++ z) (nulls-heads u x)) ∙ sym (unit-bind (head_cells nothing c.parts.head (at u x [])) (λ z. unit (u ++ z))))
        ∙ sym (or-led u (bind (ys u) (λ y. given nothing c (at u x y))) (unit (head_cells nothing c.parts.head (at u x []))))))
      where
        nulls-heads : (u x : Tuple) → head_cells nothing c.parts.head (at u x (nulls n)) ≡ head_cells nothing c.parts.head (at u x [])
        nulls-heads u x = null-heads r n (bound l x (bound a u env)) c.parts.head columns

    pub both-under : Alike (outer_of m' env l r (led tags xs) (led tags ys)) (led tags (λ u. outer_of c (bound a u env) l r (xs u) (ys u)))
    both-under =
        alike-trans (alike-same (led-bind tags xs (λ z. or_else (bind (led tags ys) (λ p. given nothing m' (bound r p (bound l z env)))) (unit (head_cells nothing m'.parts.head (bound r [] (bound l z env)))))))
        (bind-standing same_cells same_cells-decides tags (λ u. bind (xs u) (λ x. or_else (bind (led tags ys) (λ p. given nothing m' (by_left u x p))) (unit (head_cells nothing m'.parts.head (by_left u x [])))))
        (λ u. bind (outer_of c (bound a u env) l r (xs u) (ys u)) (λ z. unit (u ++ z)))
        (λ u s. alike-trans (bind-standing same_cells same_cells-decides (xs u) (λ x. or_else (bind (led tags ys) (λ p. given nothing m' (by_left u x p))) (unit (head_cells nothing m'.parts.head (by_left u x [])))) (λ x. bind (row_under u x (ys u)) (λ z. unit (u ++ z)))
        (λ x z. both-row u x s (wide-stands v (xs u) (wide u) x z)))
        (alike-same (sym (bind-bind (xs u) (λ x. row_under u x (ys u)) (λ z. unit (u ++ z)))))))

pub left-tags : LeftArmUnderTags
left-tags = λ w v a l r b c quants tags xs right env h are wide. agree-from_alike same_cells (alike-same
    (left-under w v 0 a l r h.al (eq-false-sym a l h.al) (eq-false-sym a r h.ar) (eq-false-sym l r h.lr) h.lr b c quants h.columns h.conds tags are xs (λ u. []) wide env right))

pub arms-tags : BothArmsUnderTags
arms-tags = λ w v n a l r b c quants tags xs ys env h are wide wide_y. agree-from_alike same_cells
    (both-under w v n a l r h.al (eq-false-sym a l h.al) (eq-false-sym a r h.ar) (eq-false-sym l r h.lr) h.lr b c quants h.columns h.conds tags are xs ys wide env wide_y)
