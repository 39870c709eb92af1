-- A scalar of some rows and of the one row of their `single`; and what is given where an S quantifier gives other rows with the same scalar.
use Rattle.std.proofs.Common.{ℕ, ◌+◌, ◌≤◌, ◌⊎◌, arith, ◌==◌, ◌≡◌, ◌||◌, cond, Bool, true, false, List, [], ◌∷◌, Option, Some, None, refl, sym, ap, ap₂, subst, ◌∙◌, eqb-true, inl, inr}
use Rattle.std.specs.List.{list_any}
use Rattle.std.proofs.lemmas.Bool.{cases_Bool, or_parts}
use mathlib.Core.Path.{fun_ext}
use Rattle.row_bag.specs.Aggregates.{folded}
use Rattle.row_bag.specs.Bags.{bind, keep, total, unit}
use Rattle.row_bag.specs.Errors.{error_among, error_at}
use Rattle.row_bag.specs.Order.{cell_of}
use Rattle.row_bag.specs.Subqueries as subquery
use Rattle.row_bag.specs.Subqueries.{level_error, only_cell, presence}
use Rattle.row_bag.specs.Verdict.{is_there}
use Rattle.row_bag.specs.declared.row.Row.{Row}
use Rattle.row_bag.proofs.Onlys.{Only, beside, none, one, only_among, only_of, scalar-total, single-total}
use Rattle.sql_value.specs.Arithmetic as a
use Rattle.sql_value.specs.Arithmetic.{error_or}
use Rattle.sql_value.specs.Cells.{error_of, worst_of}
use Rattle.sql_value.specs.Comparison as c
use Rattle.sql_value.specs.Truths as t
use Rattle.sql_value.specs.declared.aggregate.Aggregate.TheVariants.{Single}
use Rattle.sql_value.specs.declared.aggregate.Taken.TheVariants.{All}
use Rattle.sql_value.specs.declared.cell.Cell.{Cell}
use Rattle.sql_value.specs.declared.cell.Cell.TheVariants.{Err, Int, Null, Text}
use Rattle.sql_value.specs.declared.cell.Kind.{Kind}
use Rattle.sql_value.specs.declared.cell.Kind.TheVariants as kind
use Rattle.sql_value.specs.declared.level.Level.{Level}
use Rattle.sql_value.specs.declared.level.Level.TheVariants.{No, Cardinality, Division, Overflow, Yes}
use Rattle.sql_value.specs.declared.truth.Truth.{Truth}
use Rattle.row_bag.specs.Sets.{error_or_bag, failed_cells}
use Rattle.qgm_meaning.specs.Meaning.{Family, given_by, grouped_rows, over_each}
use Rattle.qgm_meaning.specs.Searches.{binds, binds_arms, binds_cond}
use Rattle.qgm_meaning.specs.Values.{Bag, Environment, all_true, bound, chosen_at, compared, first_true, head_cells, operate, row_of, truth, value}
use Rattle.qgm_core.specs.Kinds.{is_F}
use Rattle.list_laws.specs.Lists.{In}
use Rattle.qgm_core.specs.declared.node.Node.{Node}
use Rattle.qgm_core.specs.declared.owned.OwnedQuant.{OwnedQuant}
use Rattle.qgm_terms.specs.Terms.{Term, int, text, null_int, null_text, col, both, minus_of, choose, count_all, fold, scalar, Arms, no_arm, arm, Cond, always, compare, is_null, and, or, not, some, every}
use Rattle.qgm_edit_laws.specs.Facts.{HasAtMostOne, IsErrorFree}
use Rattle.rule_subquery.specs.ScalarToGroupLaws.{firsts, single_head}
use Rattle.row_bag.specs.Joins.{how_many}
use Rattle.list_laws.proofs.Membership.{eq-itself}

-- ---- `single` and the scalar

cell-first : (cs : List Cell) → cell_of 1 cs ≡ only_cell cs
cell-first [] = refl
cell-first (x ∷ cs) = refl

none-right : (o : Option Kind) → worst_of o None ≡ o
none-right None = refl
none-right (Some k) = refl

only-firsts : (rows : Bag) → only_among (λ c. c) (firsts rows) ≡ only_among only_cell rows
only-firsts [] = refl
only-firsts (r ∷ rows) = elim r.level as (λ l. only_among (λ c. c) (firsts (record { cells = r.cells; level = l } ∷ rows)) ≡ only_among only_cell (record { cells = r.cells; level = l } ∷ rows)) [
  | No ↦ only-firsts rows
  | Cardinality ↦ ap (λ o. beside (one (only_cell r.cells)) o) (only-firsts rows)
  | Division ↦ ap (λ o. beside (one (only_cell r.cells)) o) (only-firsts rows)
  | Overflow ↦ ap (λ o. beside (one (only_cell r.cells)) o) (only-firsts rows)
  | Yes ↦ ap (λ o. beside (one (only_cell r.cells)) o) (only-firsts rows)
]

failed-scalar : (k : Kind) (rows : Bag) → subquery.scalar (error_or_bag (failed_cells 1) (Some k) rows) ≡ Err k
failed-scalar kind.Cardinality rows = refl
failed-scalar kind.Division rows = refl
failed-scalar kind.Overflow rows = refl

-- no cell of a row that is there, and no level, is an error
clean-firsts : (rows : Bag) → IsErrorFree 1 rows → level_error rows ≡ None → error_among error_of (firsts rows) ≡ None
clean-firsts [] h e = refl
clean-firsts (r ∷ rows) h e = by (λ u. clean-firsts rows (λ x i. h x (inr i)) u) r.level (h r (inl refl)) e
  where
    some : (k : Kind) (o : Option Kind) → worst_of (Some k) o ≡ None → ⊥
    some k None e = let z : ⊥ = cc in z
    some k (Some j) e = let z : ⊥ = cc in z

    cell : error_of (cell_of 1 r.cells) ≡ None → error_of (only_cell r.cells) ≡ None
    cell u = ap error_of (sym (cell-first r.cells)) ∙ u

    by : (level_error rows ≡ None → error_among error_of (firsts rows) ≡ None) → (l : Level) → (is_there {T = List Cell} (record { cells = r.cells; level = l }) ≡ true → error_of (cell_of 1 r.cells) ≡ None) → level_error (record { cells = r.cells; level = l } ∷ rows) ≡ None → error_among error_of (firsts (record { cells = r.cells; level = l } ∷ rows)) ≡ None
    by again No u e = again e
    by again Cardinality u e = absurd (some kind.Cardinality (level_error rows) e)
    by again Division u e = absurd (some kind.Division (level_error rows) e)
    by again Overflow u e = absurd (some kind.Overflow (level_error rows) e)
    by again Yes u e = ap (λ o. worst_of (worst_of None o) (error_among error_of (firsts rows))) (cell (u refl)) ∙ again e

-- the only cell of rows that there are none of
none-there : (rows : Bag) → how_many rows ≡ 0 → (error_among error_of (firsts rows) ≡ None) × (only_among only_cell rows ≡ none)
none-there [] h = (refl, refl)
none-there (r ∷ rows) h = elim r.level as (λ l. how_many (record { cells = r.cells; level = l } ∷ rows) ≡ 0 → (error_among error_of (firsts (record { cells = r.cells; level = l } ∷ rows)) ≡ None) × (only_among only_cell (record { cells = r.cells; level = l } ∷ rows) ≡ none)) [
  | No ↦ λ h. (let k : 0 + how_many rows ≡ 0 = h in none-there rows (omega arith))
  | Cardinality ↦ λ h. absurd (omega arith)
  | Division ↦ λ h. absurd (omega arith)
  | Overflow ↦ λ h. absurd (omega arith)
  | Yes ↦ λ h. absurd (omega arith)
] h

own-error : (c : Cell) → error_or (worst_of (worst_of None (error_of c)) None) c ≡ c
own-error (Int n) = refl
own-error (Text t) = refl
own-error Null = refl
own-error (Err k) = refl

-- of one row at most the error of the cell is the cell
one-firsts : (rows : Bag) → how_many rows ≤ 1 → level_error rows ≡ None → error_or (error_among error_of (firsts rows)) (only_of (only_among only_cell rows)) ≡ only_of (only_among only_cell rows)
one-firsts [] h e = refl
one-firsts (r ∷ rows) h e = elim r.level as (λ l. how_many (record { cells = r.cells; level = l } ∷ rows) ≤ 1 → level_error (record { cells = r.cells; level = l } ∷ rows) ≡ None
    → error_or (error_among error_of (firsts (record { cells = r.cells; level = l } ∷ rows))) (only_of (only_among only_cell (record { cells = r.cells; level = l } ∷ rows))) ≡ only_of (only_among only_cell (record { cells = r.cells; level = l } ∷ rows))) [
      | No ↦ λ h e. (let k : 0 + how_many rows ≤ 1 = h in one-firsts rows (omega arith) e)
      | Cardinality ↦ λ h e. absurd (some kind.Cardinality (level_error rows) e)
      | Division ↦ λ h e. absurd (some kind.Division (level_error rows) e)
      | Overflow ↦ λ h e. absurd (some kind.Overflow (level_error rows) e)
      | Yes ↦ λ h e. (
          let k : 1 + how_many rows ≤ 1 = h in
          let z = none-there rows (omega arith) in
          ap₂ (λ (o : Option Kind) (x : Only). error_or (worst_of (worst_of None (error_of (only_cell r.cells))) o) (only_of (beside (one (only_cell r.cells)) x))) z.0 z.1
          ∙ own-error (only_cell r.cells) ∙ sym (ap (λ x. only_of (beside (one (only_cell r.cells)) x)) z.1))
    ] h e
  where
    some : (k : Kind) (o : Option Kind) → worst_of (Some k) o ≡ None → ⊥
    some k None e = let z : ⊥ = cc in z
    some k (Some j) e = let z : ⊥ = cc in z

-- where no first cell is an error, or there is one row at most
pub single-scalar : (p : ℕ) (env : Environment) (rows : Bag) → IsErrorFree 1 rows ⊎ HasAtMostOne rows → subquery.scalar (grouped_rows 0 (single_head p) p env rows) ≡ subquery.scalar rows
single-scalar p env rows safe =
    ap (λ o. subquery.scalar (error_or_bag (failed_cells 1) o result)) levels
    ∙ by (level_error rows) whole (sym (scalar-total rows))
  where
    result : Bag
    result = unit (folded Single All (bind rows (λ cells. unit (value (λ q. []) (col p 1) (bound p cells env)))) ∷ [])

    levels : error_among (λ (cells : List Cell). None) rows ≡ level_error rows
    levels = ap (λ (f : Level → Option Kind). total worst_of None (λ (cells : List Cell) level. f level) rows) (fun_ext (λ level. none-right (error_at level)))

    arguments : bind rows (λ cells. unit (value (λ q. []) (col p 1) (bound p cells env))) ≡ firsts rows
    arguments = ap (λ (f : List Cell → List (Row Cell)). bind rows f) (fun_ext (λ cells. ap unit (ap (λ (b : Bool). cell_of 1 (cond b cells (row_of p env))) (eq-itself p) ∙ cell-first cells)))

    settled : level_error rows ≡ None → error_or (error_among error_of (firsts rows)) (only_of (only_among only_cell rows)) ≡ only_of (only_among only_cell rows)
    settled e = elim safe [ inl h ↦ ap (λ o. error_or o (only_of (only_among only_cell rows))) (clean-firsts rows h e) | inr h ↦ one-firsts rows h e ]

    whole : level_error rows ≡ None → folded Single All (bind rows (λ cells. unit (value (λ q. []) (col p 1) (bound p cells env)))) ≡ only_of (only_among only_cell rows)
    whole e = ap (folded Single All) arguments ∙ ap (λ c. error_or (error_among error_of (firsts rows)) c) (sym (single-total (firsts rows)) ∙ ap only_of (only-firsts rows)) ∙ settled e

    by : (o : Option Kind) → (o ≡ None → folded Single All (bind rows (λ cells. unit (value (λ q. []) (col p 1) (bound p cells env)))) ≡ only_of (only_among only_cell rows)) → subquery.scalar rows ≡ error_or o (only_of (only_among only_cell rows))
        → subquery.scalar (error_or_bag (failed_cells 1) o result) ≡ subquery.scalar rows
    by None w h = w refl ∙ sym h
    by (Some k) w h = failed-scalar k result ∙ sym h

-- ---- rows with the same scalar, where no some or every names the quantifier

module _ (r s : ℕ → Bag) (i : ℕ) (others : (q : ℕ) → (q == i) ≡ false → r q ≡ s q) (same : subquery.scalar (r i) ≡ subquery.scalar (s i)) where
  scalar-of : (q : ℕ) → subquery.scalar (r q) ≡ subquery.scalar (s q)
  scalar-of q = elim (cases_Bool (q == i)) [
    | inl t ↦ (let e = eqb-true q i t in subst (λ z. subquery.scalar (r z) ≡ subquery.scalar (s z)) (sym e) same)
    | inr n ↦ ap subquery.scalar (others q n)
  ]

  mutual
    value-scalar : (x : Term) (d : Environment) → binds i x ≡ false → value r x d ≡ value s x d
    value-scalar (int n) d u = refl
    value-scalar (text w) d u = refl
    value-scalar null_int d u = refl
    value-scalar null_text d u = refl
    value-scalar (col q k) d u = refl
    value-scalar (both o x y) d u = let n = or_parts (binds i x) (binds i y) u in ap₂ (operate o) (value-scalar x d n.0) (value-scalar y d n.1)
    value-scalar (minus_of x) d u = ap a.neg (value-scalar x d u)
    value-scalar (choose w x) d u = let n = or_parts (binds_arms i w) (binds i x) u in first-scalar w (value r x d) (value s x d) d n.0 (value-scalar x d n.1)
    value-scalar count_all d u = refl
    value-scalar (fold f t x) d u = refl
    value-scalar (scalar q) d u = scalar-of q

    first-scalar : (w : Arms) (x y : Cell) (d : Environment) → binds_arms i w ≡ false → x ≡ y → first_true r w x d ≡ first_true s w y d
    first-scalar no_arm x y d u k = k
    first-scalar (arm c z w) x y d u k =
        let n = or_parts (binds_cond i c) (binds i z || binds_arms i w) u in let m = or_parts (binds i z) (binds_arms i w) n.1 in
        ap (λ (l : Truth). chosen_at l.t (value r z d) (first_true r w x d)) (truth-scalar c d n.0)
        ∙ ap₂ (chosen_at (truth s c d).t) (value-scalar z d m.0) (first-scalar w x y d m.1 k)

    truth-scalar : (c : Cond) (d : Environment) → binds_cond i c ≡ false → truth r c d ≡ truth s c d
    truth-scalar always d u = refl
    truth-scalar (compare sign x y) d u = let n = or_parts (binds i x) (binds i y) u in ap₂ (compared sign) (value-scalar x d n.0) (value-scalar y d n.1)
    truth-scalar (is_null x) d u = ap c.is_null (value-scalar x d u)
    truth-scalar (and b c) d u = let n = or_parts (binds_cond i b) (binds_cond i c) u in ap₂ t.and (truth-scalar b d n.0) (truth-scalar c d n.1)
    truth-scalar (or b c) d u = let n = or_parts (binds_cond i b) (binds_cond i c) u in ap₂ t.or (truth-scalar b d n.0) (truth-scalar c d n.1)
    truth-scalar (not c) d u = ap t.negated (truth-scalar c d u)
    truth-scalar (some q c) d u =
        let n = or_parts (q == i) (binds_cond i c) u in
        ap₂ (λ (rows : Bag) (f : List Cell → Truth). total t.or (t.truth_of false) (λ cells level. t.and (presence level) (f cells)) rows) (others q n.0) (fun_ext (λ cells. truth-scalar c (bound q cells d) n.1))
    truth-scalar (every q c) d u =
        let n = or_parts (q == i) (binds_cond i c) u in
        ap₂ (λ (rows : Bag) (f : List Cell → Truth). total t.and (t.truth_of true) (λ cells level. t.or (t.negated (presence level)) (f cells)) rows) (others q n.0) (fun_ext (λ cells. truth-scalar c (bound q cells d) n.1))

  pub all-scalar : (ps : List Cond) (d : Environment) → list_any (binds_cond i) ps ≡ false → all_true r ps d ≡ all_true s ps d
  all-scalar [] d u = refl
  all-scalar (c ∷ ps) d u = let n = or_parts (binds_cond i c) (list_any (binds_cond i) ps) u in ap₂ t.and (truth-scalar c d n.0) (all-scalar ps d n.1)

  pub head-scalar : (xs : List Term) (d : Environment) → list_any (binds i) xs ≡ false → head_cells r xs d ≡ head_cells s xs d
  head-scalar [] d u = refl
  head-scalar (x ∷ xs) d u = let n = or_parts (binds i x) (list_any (binds i) xs) u in ap₂ (λ (c : Cell) (cs : List Cell). c ∷ cs) (value-scalar x d n.0) (head-scalar xs d n.1)

-- through the loops of a select
pub each-scalar : (s' s : Family) (i : ℕ) (n' n : Node) → n'.parts ≡ n.parts → ((q : ℕ) → (q == i) ≡ false → s' q ≡ s q) → ((e : Environment) → subquery.scalar (s' i e) ≡ subquery.scalar (s i e))
    → list_any (binds i) n.parts.head ≡ false → list_any (binds_cond i) n.parts.conds.items ≡ false
    → (rs : List OwnedQuant) → ((r : OwnedQuant) → In r rs → is_F r.kind ≡ true → (r.id == i) ≡ false) → (env : Environment) → over_each rs s' (given_by s' n') env ≡ over_each rs s (given_by s n) env
each-scalar s' s i n' n p others same uh uc [] k env =
    ap (λ z. given_by s' (record n { parts = z }) env) p
    ∙ ap₂ (λ (l : Truth) (h : List Cell). keep l.t (unit h)) (all-scalar (λ q. s' q env) (λ q. s q env) i (λ q f. ap (λ (g : Environment → Bag). g env) (others q f)) (same env) n.parts.conds.items env uc)
    (head-scalar (λ q. s' q env) (λ q. s q env) i (λ q f. ap (λ (g : Environment → Bag). g env) (others q f)) (same env) n.parts.head env uh)
each-scalar s' s i n' n p others same uh uc (r ∷ rs) k env =
    by (is_F r.kind) (k r (inl refl)) (λ e. each-scalar s' s i n' n p others same uh uc rs (λ x j. k x (inr j)) e)
  where
    by : (f : Bool) → (f ≡ true → (r.id == i) ≡ false) → ((e : Environment) → over_each rs s' (given_by s' n') e ≡ over_each rs s (given_by s n) e)
        → cond f (bind (s' r.id env) (λ cells. over_each rs s' (given_by s' n') (bound r.id cells env))) (over_each rs s' (given_by s' n') env) ≡ cond f (bind (s r.id env) (λ cells. over_each rs s (given_by s n) (bound r.id cells env))) (over_each rs s (given_by s n) env)
    by true h rest = ap₂ (λ (xs : Bag) (g : List Cell → Bag). bind xs g) (ap (λ (g : Environment → Bag). g env) (others r.id (h refl))) (fun_ext (λ cells. rest (bound r.id cells env)))
    by false h rest = rest env
