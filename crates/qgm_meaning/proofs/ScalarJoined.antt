-- U3 on a graph.
use Rattle.std.proofs.Common.{ℕ, ◌==◌, ◌≡◌, ◌&&◌, ◌||◌, cond, Bool, true, false, List, [], ◌∷◌, ◌++◌, map, Option, Some, refl, sym, ap, ap₂, subst, ◌∙◌, eqb-true, inl, inr}
use Rattle.std.specs.List.{list_any}
use Rattle.std.proofs.lemmas.Bool.{and_from, cases_Bool, eq-eqb, or_left, or_right}
use mathlib.Core.Path.{fun_ext}
use Rattle.row_bag.specs.Bags.{Agree, Alike, bind, keep, total, unit}
use Rattle.row_bag.specs.Order.{cell_of}
use Rattle.row_bag.specs.Sets.{same_cells}
use Rattle.row_bag.specs.declared.tables.Table.{Table}
use Rattle.row_bag.proofs.Agreement.{alike-same, alike-sym, alike-trans}
use Rattle.row_bag.proofs.Counts.{agree-from_alike, alike-from_agree}
use Rattle.row_bag.proofs.TupleBags.{same_cells-decides}
use Rattle.sql_value.specs.Arithmetic as a
use Rattle.sql_value.specs.Comparison as c
use Rattle.sql_value.specs.Truths as t
use Rattle.sql_value.specs.declared.cell.Cell.{Cell}
use Rattle.sql_value.specs.declared.truth.Truth.{Truth}
use Rattle.qgm_core.specs.declared.kinds.Distinct.{Distinct}
use Rattle.qgm_core.specs.declared.kinds.QuantKind.TheVariants.{S}
use Rattle.qgm_core.specs.declared.parts.BoxParts.{BoxParts}
use Rattle.qgm_core.specs.declared.node.Node.{Node}
use Rattle.qgm_core.specs.declared.owned.OwnedQuant.{OwnedQuant}
use Rattle.qgm_core.specs.Boxes.{QueryGraph, Ordered, box_of, has_box, is_box, is_quant, owns}
use Rattle.list_laws.specs.Lists.{first}
use Rattle.qgm_core.specs.Kinds.{is_enforce}
use Rattle.qgm_meaning.specs.Replace.{replace}
use Rattle.qgm_meaning.specs.Fits.{fits, has_row}
use Rattle.row_bag.specs.Subqueries.{presence}
use Rattle.row_bag.specs.Subqueries as subquery
use Rattle.qgm_meaning.specs.Laws.{AllStay, Stays, occurs}
use Rattle.qgm_meaning.specs.Meaning.{Family, bag, bag_in, given, given_by, once_if, over_each, quant_rows, rows_of}
use Rattle.qgm_meaning.specs.Rules.{as_F, as_Q, column_box, scalar_box}
use Rattle.qgm_meaning.specs.Scope.{loose, read_by, under_any}
use Rattle.qgm_terms.specs.Terms.{Term, int, text, null_int, null_text, col, both, minus_of, choose, count_all, fold, scalar, Arms, no_arm, arm, Cond, always, compare, is_null, and, or, not, some, every}
use Rattle.qgm_meaning.specs.Searches.{as_column, as_column_arms, as_column_cond, binds, binds_arms, binds_cond}
use Rattle.qgm_meaning.specs.Values.{Bag, Environment, all_true, bound, chosen_at, compared, first_true, head_cells, operate, row_of, truth, value}
use Rattle.qgm_meaning.proofs.Alikes.{once_if-alike}
use Rattle.qgm_meaning.proofs.ExistsJoined.{inner, moved, overs-moved, own-append}
use Rattle.qgm_meaning.proofs.Fitting.{hereditary}
use Rattle.row_bag.proofs.FoldLaws.{scalar-alike}
use Rattle.qgm_meaning.proofs.Frames.{any-framed, bag-framed, given-framed}
use Rattle.qgm_meaning.proofs.Joined.{over_each-append, unread}
use Rattle.qgm_meaning.proofs.Merged.{one-row, over_each-within}
use Rattle.qgm_meaning.proofs.Replacing.{replaced}
use Rattle.qgm_meaning.proofs.Within.{loose-unfold}
use Rattle.list_laws.proofs.Booleans.{neither-left, neither-right}

-- ---- the column is the scalar

module _ (rows : ℕ → Bag) (q : ℕ) where
  abbrev Gives : Environment → Type 0
  Gives d = cell_of 1 (row_of q d) ≡ subquery.scalar (rows q)

  mutual
    value-column : (x : Term) (d : Environment) → Gives d → binds q x ≡ false → value rows (as_column q x) d ≡ value rows x d
    value-column (int n) d g u = refl
    value-column (text w) d g u = refl
    value-column null_int d g u = refl
    value-column null_text d g u = refl
    value-column (col r k) d g u = refl
    value-column (both o x y) d g u = ap₂ (operate o) (value-column x d g (neither-left (binds q x) (binds q y) u)) (value-column y d g (neither-right (binds q x) (binds q y) u))
    value-column (minus_of x) d g u = ap a.neg (value-column x d g u)
    value-column (choose w x) d g u = first_true-column w _ _ d g (neither-left (binds_arms q w) (binds q x) u) (value-column x d g (neither-right (binds_arms q w) (binds q x) u))
    value-column count_all d g u = refl
    value-column (fold f t x) d g u = refl
    value-column (scalar r) d g u = elim (cases_Bool (r == q)) [
      | inl b ↦ rw b (g ∙ ap (λ (y : ℕ). subquery.scalar (rows y)) (sym (eqb-true r q b)))
      | inr b ↦ rw b refl
    ]

    first_true-column : (w : Arms) (x y : Cell) (d : Environment) → Gives d → binds_arms q w ≡ false → x ≡ y → first_true rows (as_column_arms q w) x d ≡ first_true rows w y d
    first_true-column no_arm x y d g u k = k
    first_true-column (arm c z w) x y d g u k =
        let rest = neither-right (binds_cond q c) (binds q z || binds_arms q w) u in
        ap (λ (l : Truth). chosen_at l.t (value rows (as_column q z) d) (first_true rows (as_column_arms q w) x d)) (truth-column c d g (neither-left (binds_cond q c) (binds q z || binds_arms q w) u))
        ∙ ap₂ (chosen_at (truth rows c d).t) (value-column z d g (neither-left (binds q z) (binds_arms q w) rest)) (first_true-column w x y d g (neither-right (binds q z) (binds_arms q w) rest) k)

    truth-column : (c : Cond) (d : Environment) → Gives d → binds_cond q c ≡ false → truth rows (as_column_cond q c) d ≡ truth rows c d
    truth-column always d g u = refl
    truth-column (compare sign x y) d g u = ap₂ (compared sign) (value-column x d g (neither-left (binds q x) (binds q y) u)) (value-column y d g (neither-right (binds q x) (binds q y) u))
    truth-column (is_null x) d g u = ap c.is_null (value-column x d g u)
    truth-column (and b c) d g u = ap₂ t.and (truth-column b d g (neither-left (binds_cond q b) (binds_cond q c) u)) (truth-column c d g (neither-right (binds_cond q b) (binds_cond q c) u))
    truth-column (or b c) d g u = ap₂ t.or (truth-column b d g (neither-left (binds_cond q b) (binds_cond q c) u)) (truth-column c d g (neither-right (binds_cond q b) (binds_cond q c) u))
    truth-column (not c) d g u = ap t.negated (truth-column c d g u)
    truth-column (some r c) d g u =
        ap (λ (f : List Cell → Truth). total t.or (t.truth_of false) (λ cells level. t.and (presence level) (f cells)) (rows r))
        (fun_ext (λ cells. truth-column c (bound r cells d) (ap (λ (b : Bool). cell_of 1 (cond b cells (row_of q d))) (neither-left (r == q) (binds_cond q c) u) ∙ g) (neither-right (r == q) (binds_cond q c) u)))
    truth-column (every r c) d g u =
        ap (λ (f : List Cell → Truth). total t.and (t.truth_of true) (λ cells level. t.or (t.negated (presence level)) (f cells)) (rows r))
        (fun_ext (λ cells. truth-column c (bound r cells d) (ap (λ (b : Bool). cell_of 1 (cond b cells (row_of q d))) (neither-left (r == q) (binds_cond q c) u) ∙ g) (neither-right (r == q) (binds_cond q c) u)))

  all_true-column : (ps : List Cond) (d : Environment) → Gives d → list_any (binds_cond q) ps ≡ false → all_true rows (map (as_column_cond q) ps) d ≡ all_true rows ps d
  all_true-column [] d g u = refl
  all_true-column (c ∷ ps) d g u = ap₂ t.and (truth-column c d g (neither-left (binds_cond q c) (list_any (binds_cond q) ps) u)) (all_true-column ps d g (neither-right (binds_cond q c) (list_any (binds_cond q) ps) u))

  head-column : (xs : List Term) (d : Environment) → Gives d → list_any (binds q) xs ≡ false → head_cells rows (map (as_column q) xs) d ≡ head_cells rows xs d
  head-column [] d g u = refl
  head-column (x ∷ xs) d g u = ap₂ (λ (c : Cell) (cs : List Cell). c ∷ cs) (value-column x d g (neither-left (binds q x) (list_any (binds q) xs) u)) (head-column xs d g (neither-right (binds q x) (list_any (binds q) xs) u))

-- ---- environments that fit

pub without : (passes : Environment → Bool) (f : Family) (us : List OwnedQuant) (r : OwnedQuant) (vs : List OwnedQuant) → Stays passes f (us ++ r ∷ vs) → Stays passes f (us ++ vs)
without passes f [] r vs h = h.1
without passes f (u ∷ us) r vs h = (h.0, without passes f us r vs h.1)

pub with-last : (passes : Environment → Bool) (f : Family) (us : List OwnedQuant) (r : OwnedQuant) → Stays passes f us → Stays passes f (r ∷ []) → Stays passes f (us ++ r ∷ [])
with-last passes f [] r h k = k
with-last passes f (u ∷ us) r h k = (h.0, with-last passes f us r h.1 k)

pub stays-of : (passes : Environment → Bool) (f : Family) (ns : List Node) (b : ℕ) (n : Node) → AllStay passes f ns → first (is_box b) ns ≡ Some n → Stays passes (quant_rows n f) n.quants
stays-of passes f [] b n st h = absurd (let z : ⊥ = cc in z)
stays-of passes f (m ∷ ns) b n st h =
    elim (m.id == b) as (λ t. ◌≡◌ {A = Option Node} (cond t (Some m) (first (is_box b) ns)) (Some n) → Stays passes (quant_rows n f) n.quants) [
      | true ↦ λ h. (let same : m ≡ n = cc in subst (λ (z : Node). Stays passes (quant_rows z f) z.quants) same st.0)
      | false ↦ λ h. stays-of passes f ns b n st.1 h
    ] h

pub first-any : (p : Node → Bool) (ns : List Node) (b : ℕ) (n : Node) → first (is_box b) ns ≡ Some n → p n ≡ true → list_any p ns ≡ true
first-any p [] b n h k = absurd (let z : ⊥ = cc in z)
first-any p (m ∷ ns) b n h k =
    elim (m.id == b) as (λ t. ◌≡◌ {A = Option Node} (cond t (Some m) (first (is_box b) ns)) (Some n) → list_any p (m ∷ ns) ≡ true) [
      | true ↦ λ h. (let same : m ≡ n = cc in or_left (p m) (list_any p ns) (subst (λ (z : Node). p z ≡ true) (sym same) k))
      | false ↦ λ h. or_right (p m) (list_any p ns) (first-any p ns b n h k)
    ] h

pub owned-there : (us : List OwnedQuant) (r : OwnedQuant) (vs : List OwnedQuant) → list_any (is_quant r.id) (us ++ r ∷ vs) ≡ true
owned-there [] r vs = or_left (r.id == r.id) (list_any (is_quant r.id) vs) (eq-eqb r.id r.id refl)
owned-there (u ∷ us) r vs = or_right (u.id == r.id) (list_any (is_quant r.id) (us ++ r ∷ vs)) (owned-there us r vs)

first-column : (cells : List Cell) → cell_of 1 cells ≡ subquery.scalar (unit cells)
first-column [] = refl
first-column (c ∷ cells) = refl

-- ---- the rule

module _ (tables : List Table) (g : QueryGraph) (b : ℕ) (p : BoxParts) (d : Distinct) (us : List OwnedQuant) (i over : ℕ) (vs : List OwnedQuant) (conds : List Cond) (head : List Term) (the : Environment → List Cell)
    (o : Ordered g.boxes) (held : box_of b g ≡ Some (scalar_box b p d us i over vs conds head)) (hu : list_any (is_quant i) us ≡ false) (hv : list_any (is_quant i) vs ≡ false) (away : loose g.boxes b i ≡ false)
    (bh : list_any (binds i) head ≡ false) (bc : list_any (binds_cond i) conds ≡ false) where
  abbrev n : Node
  n = scalar_box b p d us i over vs conds head

  abbrev m : Node
  m = column_box b p d us i over vs conds head

  abbrev f : Family
  f = bag tables g

  abbrev s : Family
  s = quant_rows n f

  abbrev passes : Environment → Bool
  passes = fits f g.boxes

  same-quants : quant_rows m f ≡ s
  same-quants = fun_ext (λ q. sym (moved S i over vs hv f q us hu))

  nothing-inner : (read_by n i || under_any n.quants (loose g.boxes) i) ≡ false
  nothing-inner = inner n (loose g.boxes) i n.quants (own-append S refl i over us vs hu hv) (ap (λ (f : ℕ → Bool). f i) (sym (loose-unfold g.boxes b n o held)) ∙ away)

  free : (cells : List Cell) (env : Environment) → ◌≡◌ {A = ℕ → Bag} (λ q. s q (bound i cells env)) (λ q. s q env)
  free cells env = fun_ext (λ q. sym (any-framed n (bag_in tables g.boxes) (loose g.boxes) (bag-framed tables g.boxes) q env (bound i cells env)
      (unread (under_any n.quants (loose g.boxes)) i cells env (neither-right (read_by n i) (under_any n.quants (loose g.boxes) i) nothing-inner))))

  -- where i is bound to the one row
  in-row : (cells : List Cell) (env : Environment) → cell_of 1 cells ≡ subquery.scalar (s i env) → given_by s m (bound i cells env) ≡ given_by s n env
  in-row cells env e =
      ap (λ (rows : ℕ → Bag). given rows m (bound i cells env)) (free cells env)
      ∙ ap₂ (λ (l : Truth) (cs : List Cell). keep l.t (unit cs)) (all_true-column (λ q. s q env) i conds (bound i cells env) gives bc) (head-column (λ q. s q env) i head (bound i cells env) gives bh)
      ∙ sym (given-framed (λ q. s q env) n env (bound i cells env) (unread (read_by n) i cells env (neither-left (read_by n i) (under_any n.quants (loose g.boxes) i) nothing-inner)))
    where
      gives : cell_of 1 (row_of i (bound i cells env)) ≡ subquery.scalar (s i env)
      gives = ap (λ (b : Bool). cell_of 1 (cond b cells (row_of i env))) (eq-eqb i i refl) ∙ e

  at-i : (env : Environment) → s i env ≡ f over env
  at-i env = found us hu
    where
      found : (us : List OwnedQuant) → list_any (is_quant i) us ≡ false → Rattle.qgm_meaning.specs.Meaning.rows_found (first (is_quant i) (us ++ as_Q S i over ∷ vs)) f env ≡ f over env
      found [] h = ap (λ (b : Bool). Rattle.qgm_meaning.specs.Meaning.rows_found (cond b (Some (as_Q S i over)) (first (is_quant i) vs)) f env) (eq-eqb i i refl)
      found (u ∷ us) h =
          ap (λ (b : Bool). Rattle.qgm_meaning.specs.Meaning.rows_found (cond b (Some u) (first (is_quant i) (us ++ as_Q S i over ∷ vs))) f env) (neither-left (u.id == i) (list_any (is_quant i) us) h)
          ∙ found us (neither-right (u.id == i) (list_any (is_quant i) us) h)

  module _ (single : (env : Environment) → passes env ≡ true → Agree same_cells (f over env) (unit (the env))) where
    one-clean : (env : Environment) → passes env ≡ true → Alike (s i env) (unit (the env))
    one-clean env p = alike-trans (alike-same (at-i env)) (alike-from_agree same_cells same_cells-decides (single env p))

    each-row : (env : Environment) → passes env ≡ true → Alike (given_by s n env) (bind (s i env) (λ cells. given_by s m (bound i cells env)))
    each-row env p =
        alike-sym (alike-trans (one-row (λ cells. given_by s m (bound i cells env)) (one-clean env p))
        (alike-same (in-row (the env) env (first-column (the env) ∙ sym (scalar-alike _ _ (one-clean env p))))))

    stays-n : Stays passes s (us ++ vs)
    stays-n = without passes s us (as_Q S i over) vs (stays-of passes f g.boxes b n (hereditary f g.boxes) held)

    stays-m : Stays passes (quant_rows m f) m.quants
    stays-m = subst (λ (r : Family). Stays passes r m.quants) (sym same-quants) (with-last passes s (us ++ vs) (as_F i over) stays-n (
      (λ env cells k p there. and_from (has_row f g.boxes i cells env) (passes env)
          (first-any (λ n. owns i n && occurs cells (quant_rows n f i env)) g.boxes b n held (and_from (owns i n) (occurs cells (s i env)) (owned-there us (as_Q S i over) vs) there)) p),
      tt,
    ))

    rows-agree : (env : Environment) → passes env ≡ true → Agree same_cells (rows_of tables m f env) (rows_of tables n f env)
    rows-agree env p =
        agree-from_alike same_cells (alike-sym (subst (λ (r : Family). Alike (once_if (is_enforce d) (over_each n.quants s (given_by s n) env)) (once_if (is_enforce d) (over_each m.quants r (given_by r m) env))) (sym same-quants)
        (once_if-alike (is_enforce d) (
        alike-trans (alike-same (ap (λ (k : Environment → Bag). k env) (over_each-append us (as_Q S i over ∷ vs) s (given_by s n) ∙ sym (over_each-append us vs s (given_by s n)))))
        (alike-trans (over_each-within passes s (given_by s n) (λ e. bind (s i e) (λ cells. given_by s m (bound i cells e))) (us ++ vs) stays-n each-row env p)
        (alike-same (ap (λ (k : Environment → Bag). k env) (sym (over_each-append (us ++ vs) (as_F i over ∷ []) s (given_by s m))))))))))

    pub scalar-joined : (x : ℕ) → has_box g.boxes x ≡ true → (env : Environment) → passes env ≡ true → Agree same_cells (bag tables (replace b m g) x env) (bag tables g x env)
    scalar-joined x hx env p = replaced tables g passes b n m o held refl (λ ks h. overs-moved S ks us vs i over h) (hereditary f g.boxes) stays-m rows-agree x hx env p
