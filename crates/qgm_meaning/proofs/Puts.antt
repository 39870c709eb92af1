-- Cells put in for the columns of a quantifier.
use Rattle.std.proofs.Common.{ℕ, zero, suc, ◌==◌, ◌≡◌, ◌&&◌, ◌||◌, cond, Bool, true, false, List, [], ◌∷◌, ◌++◌, map, take, drop, get_or, length, Option, Some, None, refl, sym, ap, ap₂, subst, ◌∙◌, eqb-true, ◌⊎◌, inl, inr}
use Rattle.std.specs.List.{list_any, list_all}
use Rattle.std.proofs.lemmas.List.{drop-map, length-map, take-map}
use Rattle.std.proofs.lemmas.Bool.{and_parts, cases_Bool, eq-eqb, or_left, or_right}
use mathlib.Core.Path.{fun_ext}
use Rattle.row_bag.specs.Bags.{bind, keep, total, unit}
use Rattle.row_bag.specs.Errors.{error_in}
use Rattle.row_bag.specs.Order.{cell_of}
use Rattle.row_bag.specs.Sets.{collapsed, failed_cells, grouped, same_cells}
use Rattle.row_bag.specs.declared.tables.Table.{Table}
use Rattle.sql_value.specs.Arithmetic as a
use Rattle.sql_value.specs.Comparison as c
use Rattle.sql_value.specs.Truths as t
use Rattle.sql_value.specs.declared.cell.Cell.{Cell}
use Rattle.sql_value.specs.declared.cell.Cell.TheVariants.{Null}
use Rattle.sql_value.specs.declared.truth.Truth.{Truth}
use Rattle.qgm_core.specs.declared.node.Node.{Node}
use Rattle.qgm_core.specs.declared.owned.OwnedQuant.{OwnedQuant}
use Rattle.qgm_core.specs.declared.kinds.BoxKind.{BoxKind}
use Rattle.qgm_core.specs.declared.kinds.BoxKind.TheVariants.{Base, Select, Group, SetOp, OuterJoin}
use Rattle.list_laws.specs.Lists.{first}
use Rattle.qgm_core.specs.Kinds.{is_F, is_enforce}
use Rattle.qgm_core.specs.Boxes.{is_quant, owns}
use Rattle.row_bag.specs.Aggregates.{folded}
use Rattle.qgm_meaning.specs.Aggregated.{aggregate_of, taken_of}
use Rattle.row_bag.specs.Subqueries.{presence}
use Rattle.row_bag.specs.Joins.{or_else}
use Rattle.qgm_meaning.specs.Meaning.{Family, bag_in, combined, fold_cell, fold_cells, given, given_by, grouped_rows, groups, key_cells, nothing, of_one, of_two, once_if, outer_rows, over_each, quant_rows, rows_by, rows_found, rows_of}
use Rattle.qgm_meaning.specs.Scope.{Clear, introduces, put_node}
use Rattle.qgm_terms.specs.Terms.{Term, int, text, null_int, null_text, col, both, minus_of, choose, count_all, fold, scalar, Arms, no_arm, arm, Cond, always, compare, is_null, and, or, not, some, every}
use Rattle.qgm_terms.specs.Wanted.{reads, reads_cond}
use Rattle.qgm_meaning.specs.Searches.{binds, binds_arms, binds_cond, bare, bare_arms, bare_cond}
use Rattle.qgm_terms.specs.Substitution.{substituted, substituted_arms, substituted_cond, cell_at}
use Rattle.qgm_meaning.specs.Values.{Bag, Environment, all_true, bound, chosen_at, compared, first_true, head_cells, operate, row_of, truth, value}
use Rattle.qgm_meaning.proofs.Frames.{any-drop, any-take, SameRows, head-framed, truth-framed}
use Rattle.list_laws.proofs.Membership.{eq-false-sym}
use Rattle.list_laws.proofs.Booleans.{neither-left, neither-right}

-- none of these is read
abbrev pub Unread : (ℕ → Bool) → List Term → Type 0
Unread names cells = (r : ℕ) → names r ≡ true → list_any (reads r) cells ≡ false

-- e is d with q bound to the cells
pub record Inlined (rows : ℕ → Bag) (q : ℕ) (cells : List Term) (d e : Environment) : Type 0 where
  pub others : (x : ℕ) → (x == q) ≡ false → row_of x d ≡ row_of x e
  pub own : row_of q e ≡ head_cells rows cells d

pub inlined-bound : {rows : ℕ → Bag} {q : ℕ} {cells : List Term} {d e : Environment} → Inlined rows q cells d e → (r : ℕ) (cs : List Cell) → (r == q) ≡ false → list_any (reads r) cells ≡ false
    → Inlined rows q cells (bound r cs d) (bound r cs e)
inlined-bound {rows = rows} {q = q} {cells = cells} {d = d} {e = e} h r cs apart unread = record {
  others = λ x n. elim (cases_Bool (r == x)) [ inl u ↦ rw u refl | inr u ↦ rw u (h.others x n) ];
  own = ap (λ (b : Bool). cond b cs (row_of q e)) apart ∙ h.own ∙ head-framed rows cells d (bound r cs d) (record { rows = λ x t. step x t (cases_Bool (r == x)) });
}
  where
    step : (x : ℕ) → list_any (reads x) cells ≡ true → ((r == x) ≡ true) ⊎ ((r == x) ≡ false) → row_of x d ≡ cond (r == x) cs (row_of x d)
    step x t (inl u) = absurd (let e : r ≡ x = eqb-true r x u in let z : list_any (reads r) cells ≡ true = subst (λ (y : ℕ). list_any (reads y) cells ≡ true) (sym e) t in let w : ⊥ = cc in w)
    step x t (inr u) = rw u refl

pub inlined-first : (rows : ℕ → Bag) (q : ℕ) (cells : List Term) (d : Environment) → Inlined rows q cells d (bound q (head_cells rows cells d) d)
inlined-first rows q cells d = record {
  others = λ x n. sym (ap (λ (b : Bool). cond b (head_cells rows cells d) (row_of x d)) (eq-false-sym x q n));
  own = ap (λ (b : Bool). cond b (head_cells rows cells d) (row_of q d)) (eq-eqb q q refl);
}

-- where q itself is bound again nothing is put in
same-again : {rows : ℕ → Bag} {q : ℕ} {cells : List Term} {d e : Environment} → Inlined rows q cells d e → (r : ℕ) (cs : List Cell) → (r == q) ≡ true → (looks : ℕ → Bool) → SameRows looks (bound r cs d) (bound r cs e)
same-again {q = q} {d = d} {e = e} h r cs same looks = record { rows = λ x t. step x (cases_Bool (r == x)) }
  where
    step : (x : ℕ) → ((r == x) ≡ true) ⊎ ((r == x) ≡ false) → cond (r == x) cs (row_of x d) ≡ cond (r == x) cs (row_of x e)
    step x (inl u) = rw u refl
    step x (inr u) = rw u (h.others x (eq-false-sym q x (subst (λ (y : ℕ). (y == x) ≡ false) (eqb-true r q same) u)))

get-mapped : (f : Term → Cell) (xs : List Term) (k : ℕ) (x : Term) → f (get_or xs k x) ≡ get_or (map f xs) k (f x)
get-mapped f [] k x = refl
get-mapped f (y ∷ xs) zero x = refl
get-mapped f (y ∷ xs) (suc k) x = get-mapped f xs k x

module _ (rows : ℕ → Bag) (q : ℕ) (cells : List Term) where
  within-put : (r : ℕ) (c : Cond) (d e : Environment) (cs : List Cell) → Inlined rows q cells d e → Unread (λ x. (r == x) || binds_cond x c) cells → ((r == q) ≡ true) ⊎ ((r == q) ≡ false)
      → ((d e : Environment) → Inlined rows q cells d e → Unread (λ x. binds_cond x c) cells → truth rows (substituted_cond q cells c) d ≡ truth rows c e)
      → truth rows (cond (r == q) c (substituted_cond q cells c)) (bound r cs d) ≡ truth rows c (bound r cs e)
  within-put r c d e cs h u (inl s) ih = rw s (truth-framed rows c (bound r cs d) (bound r cs e) (same-again h r cs s (λ x. reads_cond x c)))
  within-put r c d e cs h u (inr s) ih =
      rw s (ih (bound r cs d) (bound r cs e) (inlined-bound h r cs s (u r (or_left (r == r) (binds_cond r c) (eq-eqb r r refl)))) (λ x t. u x (or_right (r == x) (binds_cond x c) t)))

  mutual
    pub value-put : (x : Term) (d e : Environment) → Inlined rows q cells d e → Unread (λ r. binds r x) cells → value rows (substituted q cells x) d ≡ value rows x e
    value-put (int n) d e h u = refl
    value-put (text w) d e h u = refl
    value-put null_int d e h u = refl
    value-put null_text d e h u = refl
    value-put (col r k) d e h u =
        elim (cases_Bool (r == q)) [
          | inl s ↦ rw s (get-mapped (λ x. value rows x d) (null_int ∷ cells) k null_int ∙ ap (cell_of k) (sym h.own ∙ ap (λ (y : ℕ). row_of y e) (sym (eqb-true r q s))))
          | inr s ↦ rw s (ap (cell_of k) (h.others r s))
        ]
    value-put (both o x y) d e h u =
        ap₂ (operate o) (value-put x d e h (λ r t. u r (or_left (binds r x) (binds r y) t))) (value-put y d e h (λ r t. u r (or_right (binds r x) (binds r y) t)))
    value-put (minus_of x) d e h u = ap a.neg (value-put x d e h u)
    value-put (choose w x) d e h u =
        first_true-put w _ _ d e h (λ r t. u r (or_left (binds_arms r w) (binds r x) t)) (value-put x d e h (λ r t. u r (or_right (binds_arms r w) (binds r x) t)))
    value-put count_all d e h u = refl
    value-put (fold f t x) d e h u = refl
    value-put (scalar r) d e h u = refl

    first_true-put : (w : Arms) (x y : Cell) (d e : Environment) → Inlined rows q cells d e → Unread (λ r. binds_arms r w) cells → x ≡ y → first_true rows (substituted_arms q cells w) x d ≡ first_true rows w y e
    first_true-put no_arm x y d e h u k = k
    first_true-put (arm c z w) x y d e h u k =
        ap (λ (l : Truth). chosen_at l.t (value rows (substituted q cells z) d) (first_true rows (substituted_arms q cells w) x d))
        (truth-put c d e h (λ r t. u r (or_left (binds_cond r c) (binds r z || binds_arms r w) t)))
        ∙ ap₂ (chosen_at (truth rows c e).t)
        (value-put z d e h (λ r t. u r (or_right (binds_cond r c) (binds r z || binds_arms r w) (or_left (binds r z) (binds_arms r w) t))))
        (first_true-put w x y d e h (λ r t. u r (or_right (binds_cond r c) (binds r z || binds_arms r w) (or_right (binds r z) (binds_arms r w) t))) k)

    pub truth-put : (c : Cond) (d e : Environment) → Inlined rows q cells d e → Unread (λ r. binds_cond r c) cells → truth rows (substituted_cond q cells c) d ≡ truth rows c e
    truth-put always d e h u = refl
    truth-put (compare sign x y) d e h u =
        ap₂ (compared sign) (value-put x d e h (λ r t. u r (or_left (binds r x) (binds r y) t))) (value-put y d e h (λ r t. u r (or_right (binds r x) (binds r y) t)))
    truth-put (is_null x) d e h u = ap c.is_null (value-put x d e h u)
    truth-put (and b c) d e h u =
        ap₂ t.and (truth-put b d e h (λ r t. u r (or_left (binds_cond r b) (binds_cond r c) t))) (truth-put c d e h (λ r t. u r (or_right (binds_cond r b) (binds_cond r c) t)))
    truth-put (or b c) d e h u =
        ap₂ t.or (truth-put b d e h (λ r t. u r (or_left (binds_cond r b) (binds_cond r c) t))) (truth-put c d e h (λ r t. u r (or_right (binds_cond r b) (binds_cond r c) t)))
    truth-put (not c) d e h u = ap t.negated (truth-put c d e h u)
    truth-put (some r c) d e h u =
        ap (λ (f : List Cell → Truth). total t.or (t.truth_of false) (λ cs level. t.and (presence level) (f cs)) (rows r)) (fun_ext (λ cs. within-put r c d e cs h u (cases_Bool (r == q)) (λ d e h u. truth-put c d e h u)))
    truth-put (every r c) d e h u =
        ap (λ (f : List Cell → Truth). total t.and (t.truth_of true) (λ cs level. t.or (t.negated (presence level)) (f cs)) (rows r)) (fun_ext (λ cs. within-put r c d e cs h u (cases_Bool (r == q)) (λ d e h u. truth-put c d e h u)))

  pub all_true-put : (ps : List Cond) (d e : Environment) → Inlined rows q cells d e → Unread (λ r. list_any (binds_cond r) ps) cells → all_true rows (map (substituted_cond q cells) ps) d ≡ all_true rows ps e
  all_true-put [] d e h u = refl
  all_true-put (c ∷ ps) d e h u =
      ap₂ t.and (truth-put c d e h (λ r t. u r (or_left (binds_cond r c) (list_any (binds_cond r) ps) t))) (all_true-put ps d e h (λ r t. u r (or_right (binds_cond r c) (list_any (binds_cond r) ps) t)))

  pub head-put : (xs : List Term) (d e : Environment) → Inlined rows q cells d e → Unread (λ r. list_any (binds r) xs) cells → head_cells rows (map (substituted q cells) xs) d ≡ head_cells rows xs e
  head-put [] d e h u = refl
  head-put (x ∷ xs) d e h u =
      ap₂ (λ (c : Cell) (cs : List Cell). c ∷ cs) (value-put x d e h (λ r t. u r (or_left (binds r x) (list_any (binds r) xs) t))) (head-put xs d e h (λ r t. u r (or_right (binds r x) (list_any (binds r) xs) t)))

  pub given-put : (n : Node) (d e : Environment) → Inlined rows q cells d e → Unread (introduces n) cells → given rows (put_node q cells n) d ≡ given rows n e
  given-put n d e h u =
      ap₂ (λ (l : Truth) (cs : List Cell). keep l.t (unit cs))
      (all_true-put n.parts.conds.items d e h (λ r t. u r (or_right (owns r n) _ (or_right (list_any (binds r) n.parts.head) (list_any (binds_cond r) n.parts.conds.items) t))))
      (head-put n.parts.head d e h (λ r t. u r (or_right (owns r n) _ (or_left (list_any (binds r) n.parts.head) (list_any (binds_cond r) n.parts.conds.items) t))))

-- ---- boxes

-- what no quantifier node stands in is the same over all rows
module _ (rows : ℕ → Bag) where
  mutual
    bare-value : (x : Term) (d : Environment) → bare x ≡ true → value rows x d ≡ value nothing x d
    bare-value (int n) d b = refl
    bare-value (text w) d b = refl
    bare-value null_int d b = refl
    bare-value null_text d b = refl
    bare-value (col r k) d b = refl
    bare-value (both o x y) d b = let parts = and_parts (bare x) (bare y) b in ap₂ (operate o) (bare-value x d parts.0) (bare-value y d parts.1)
    bare-value (minus_of x) d b = ap a.neg (bare-value x d b)
    bare-value (choose w x) d b = let parts = and_parts (bare_arms w) (bare x) b in bare-first w _ _ d parts.0 (bare-value x d parts.1)
    bare-value count_all d b = refl
    bare-value (fold f t x) d b = refl
    bare-value (scalar r) d b = cc b

    bare-first : (w : Arms) (x y : Cell) (d : Environment) → bare_arms w ≡ true → x ≡ y → first_true rows w x d ≡ first_true nothing w y d
    bare-first no_arm x y d b k = k
    bare-first (arm c z w) x y d b k =
        let parts = and_parts (bare_cond c) (bare z && bare_arms w) b in
        let rest = and_parts (bare z) (bare_arms w) parts.1 in
        ap (λ (l : Truth). chosen_at l.t (value rows z d) (first_true rows w x d)) (bare-truth c d parts.0)
        ∙ ap₂ (chosen_at (truth nothing c d).t) (bare-value z d rest.0) (bare-first w x y d rest.1 k)

    bare-truth : (c : Cond) (d : Environment) → bare_cond c ≡ true → truth rows c d ≡ truth nothing c d
    bare-truth always d b = refl
    bare-truth (compare sign x y) d b = let parts = and_parts (bare x) (bare y) b in ap₂ (compared sign) (bare-value x d parts.0) (bare-value y d parts.1)
    bare-truth (is_null x) d b = ap c.is_null (bare-value x d b)
    bare-truth (and p q) d b = let parts = and_parts (bare_cond p) (bare_cond q) b in ap₂ t.and (bare-truth p d parts.0) (bare-truth q d parts.1)
    bare-truth (or p q) d b = let parts = and_parts (bare_cond p) (bare_cond q) b in ap₂ t.or (bare-truth p d parts.0) (bare-truth q d parts.1)
    bare-truth (not p) d b = ap t.negated (bare-truth p d b)
    bare-truth (some r p) d b = cc b
    bare-truth (every r p) d b = cc b

  pub bare-head : (xs : List Term) (d : Environment) → list_all bare xs ≡ true → head_cells rows xs d ≡ head_cells nothing xs d
  bare-head [] d b = refl
  bare-head (x ∷ xs) d b = let parts = and_parts (bare x) (list_all bare xs) b in ap₂ (λ (c : Cell) (cs : List Cell). c ∷ cs) (bare-value x d parts.0) (bare-head xs d parts.1)

-- and no cell of a group
bare-fold : (q : ℕ) (env : Environment) (rows : Bag) (x : Term) → bare x ≡ true → fold_cell q env rows x ≡ Null
bare-fold q env rows (int n) b = refl
bare-fold q env rows (text w) b = refl
bare-fold q env rows null_int b = refl
bare-fold q env rows null_text b = refl
bare-fold q env rows (col r k) b = refl
bare-fold q env rows (both o x y) b = refl
bare-fold q env rows (minus_of x) b = refl
bare-fold q env rows (choose w x) b = refl
bare-fold q env rows count_all b = cc b
bare-fold q env rows (fold f t x) b = cc b
bare-fold q env rows (scalar r) b = refl

bare-at : (xs : List Term) (k : ℕ) → list_all bare xs ≡ true → bare (get_or xs k null_int) ≡ true
bare-at [] k b = refl
bare-at (x ∷ xs) zero b = (and_parts (bare x) (list_all bare xs) b).0
bare-at (x ∷ xs) (suc k) b = bare-at xs k (and_parts (bare x) (list_all bare xs) b).1

module _ (q : ℕ) (cells : List Term) (naked : list_all bare cells ≡ true) where
  as-rows : (rows : ℕ → Bag) {d e : Environment} → Inlined nothing q cells d e → Inlined rows q cells d e
  as-rows rows {d = d} h = record { others = h.others; own = h.own ∙ sym (bare-head rows cells d naked) }

  -- what is given where nothing is substituted in, and where it is
  abbrev pub Gives : (Environment → Bag) → (Environment → Bag) → Type 0
  Gives f g = (d e : Environment) → Inlined nothing q cells d e → f d ≡ g e

  over_each-put : (n : Node) (rs : List OwnedQuant) (s s' : Family) → ((x : ℕ) → Gives (s x) (s' x)) → list_any (is_quant q) rs ≡ false → Unread (λ r. list_any (is_quant r) rs) cells → Unread (introduces n) cells
      → Gives (over_each rs s (given_by s (put_node q cells n))) (over_each rs s' (given_by s' n))
  over_each-put n [] s s' same apart unread u d e h =
      ap (λ (rows : ℕ → Bag). given rows (put_node q cells n) d) (fun_ext (λ x. same x d e h)) ∙ given-put (λ x. s' x e) q cells n d e (as-rows (λ x. s' x e) h) u
  over_each-put n (r ∷ rs) s s' same apart unread u d e h =
      let apart' = neither-right (r.id == q) (list_any (is_quant q) rs) apart in
      let unread' : Unread (λ x. list_any (is_quant x) rs) cells = λ x t. unread x (or_right (r.id == x) (list_any (is_quant x) rs) t) in
      elim (is_F r.kind) as (λ t. ◌≡◌ {A = Bag}
      (cond t (bind (s r.id d) (λ cs. over_each rs s (given_by s (put_node q cells n)) (bound r.id cs d))) (over_each rs s (given_by s (put_node q cells n)) d))
      (cond t (bind (s' r.id e) (λ cs. over_each rs s' (given_by s' n) (bound r.id cs e))) (over_each rs s' (given_by s' n) e))) [
        | true ↦ ap₂ (λ (rows : Bag) (g : List Cell → Bag). bind rows g) (same r.id d e h) (fun_ext (λ cs.
            over_each-put n rs s s' same apart' unread' u (bound r.id cs d) (bound r.id cs e)
            (inlined-bound h r.id cs (neither-left (r.id == q) (list_any (is_quant q) rs) apart) (unread r.id (or_left (r.id == r.id) (list_any (is_quant r.id) rs) (eq-eqb r.id r.id refl))))))
        | false ↦ over_each-put n rs s s' same apart' unread' u d e h
      ]

  fold_cell-put : (x : Term) (r : ℕ) (rows : Bag) (d e : Environment) → ((cs : List Cell) → Inlined nothing q cells (bound r cs d) (bound r cs e)) → Unread (λ y. binds y x) cells → fold_cell r d rows (substituted q cells x) ≡ fold_cell r e rows x
  fold_cell-put (int n) r rows d e h u = refl
  fold_cell-put (text s) r rows d e h u = refl
  fold_cell-put null_int r rows d e h u = refl
  fold_cell-put null_text r rows d e h u = refl
  fold_cell-put (col y k) r rows d e h u =
      elim (y == q) as (λ b. fold_cell r d rows (cond b (cell_at k cells) (col y k)) ≡ Null) [ true ↦ bare-fold r d rows (cell_at k cells) (bare-at (null_int ∷ cells) k naked) | false ↦ refl ]
  fold_cell-put (both o x y) r rows d e h u = refl
  fold_cell-put (minus_of x) r rows d e h u = refl
  fold_cell-put (choose s x) r rows d e h u = refl
  fold_cell-put count_all r rows d e h u = refl
  fold_cell-put (fold f t x) r rows d e h u =
      ap (λ (g : List Cell → Cell). folded (aggregate_of f) (taken_of t) (bind rows (λ cs. unit (g cs)))) (fun_ext (λ cs. value-put nothing q cells x (bound r cs d) (bound r cs e) (h cs) u))
  fold_cell-put (scalar y) r rows d e h u = refl

  folds-put : (xs : List Term) (r : ℕ) (rows : Bag) (d e : Environment) → ((cs : List Cell) → Inlined nothing q cells (bound r cs d) (bound r cs e)) → Unread (λ y. list_any (binds y) xs) cells
      → map (fold_cell r d rows) (map (substituted q cells) xs) ≡ map (fold_cell r e rows) xs
  folds-put [] r rows d e h u = refl
  folds-put (x ∷ xs) r rows d e h u =
      ap₂ (λ (c : Cell) (cs : List Cell). c ∷ cs) (fold_cell-put x r rows d e h (λ y t. u y (or_left (binds y x) (list_any (binds y) xs) t))) (folds-put xs r rows d e h (λ y t. u y (or_right (binds y x) (list_any (binds y) xs) t)))

  module _ (head : List Term) (r : ℕ) (d e : Environment) (h : (cs : List Cell) → Inlined nothing q cells (bound r cs d) (bound r cs e)) (u : Unread (λ y. list_any (binds y) head) cells) where
    keys-put : (k : ℕ) → key_cells k (map (substituted q cells) head) r d ≡ key_cells k head r e
    keys-put k = fun_ext (λ cs.
        ap (λ (xs : List Term). head_cells nothing xs (bound r cs d)) (take-map (substituted q cells) k head)
        ∙ head-put nothing q cells (take k head) (bound r cs d) (bound r cs e) (h cs) (λ y t. u y (any-take (binds y) k head t)))

    some_folds-put : (k : ℕ) → fold_cells k (map (substituted q cells) head) r d ≡ fold_cells k head r e
    some_folds-put k = fun_ext (λ rows.
        ap (λ (xs : List Term). map (fold_cell r d rows) xs) (drop-map (substituted q cells) k head)
        ∙ folds-put (drop k head) r rows d e h (λ y t. u y (any-drop (binds y) k head t)))

    groups-put : (k : ℕ) (rows : Bag) → groups k (map (substituted q cells) head) r d rows ≡ groups k head r e rows
    groups-put zero rows = ap (λ (f : Bag → List Cell). unit (f rows)) (some_folds-put zero)
    groups-put (suc k) rows =
        ap₂ (λ (key : List Cell → List Cell) (f : Bag → List Cell). grouped same_cells key (λ c members. c ++ f members) rows) (keys-put (suc k)) (some_folds-put (suc k))

    grouped-put : (k : ℕ) (rows : Bag) → grouped_rows k (map (substituted q cells) head) r d rows ≡ grouped_rows k head r e rows
    grouped-put k rows =
        ap (λ (w : ℕ). collapsed (λ cs. error_in (key_cells k (map (substituted q cells) head) r d cs)) (failed_cells w) rows (groups k (map (substituted q cells) head) r d rows)) (length-map head (substituted q cells))
        ∙ ap₂ (λ (key : List Cell → List Cell) (given : Bag). collapsed (λ cs. error_in (key cs)) (failed_cells (length head)) rows given) (keys-put k) (groups-put k rows)

  -- the first quantifier, and the first two, where cells may be substituted in
  group-put : (k : ℕ) (n : Node) (rs : List OwnedQuant) (s s' : Family) → ((x : ℕ) → Gives (s x) (s' x)) → list_any (is_quant q) rs ≡ false → Unread (λ r. list_any (is_quant r) rs) cells → Unread (introduces n) cells
      → Gives (λ d. of_one rs (λ r. grouped_rows k (map (substituted q cells) n.parts.head) r d (s r d))) (λ e. of_one rs (λ r. grouped_rows k n.parts.head r e (s' r e)))
  group-put k n [] s s' same apart unread u d e h = refl
  group-put k n (r ∷ rs) s s' same apart unread u d e h =
      ap (grouped_rows k (map (substituted q cells) n.parts.head) r.id d) (same r.id d e h)
      ∙ grouped-put n.parts.head r.id d e
      (λ cs. inlined-bound h r.id cs (neither-left (r.id == q) (list_any (is_quant q) rs) apart) (unread r.id (or_left (r.id == r.id) (list_any (is_quant r.id) rs) (eq-eqb r.id r.id refl))))
      (λ y t. u y (or_right (owns y n) _ (or_left (list_any (binds y) n.parts.head) (list_any (binds_cond y) n.parts.conds.items) t))) k (s' r.id e)

  outer-put : (n : Node) (rs : List OwnedQuant) (s s' : Family) → ((x : ℕ) → Gives (s x) (s' x)) → list_any (is_quant q) rs ≡ false → Unread (λ r. list_any (is_quant r) rs) cells → Unread (introduces n) cells
      → Gives (λ d. of_two rs (outer_rows (put_node q cells n) s d)) (λ e. of_two rs (outer_rows n s' e))
  outer-put n [] s s' same apart unread u d e h = refl
  outer-put n (l ∷ []) s s' same apart unread u d e h = refl
  outer-put n (l ∷ (r ∷ rs)) s s' same apart unread u d e h =
      let apart' = neither-right (l.id == q) (list_any (is_quant q) (r ∷ rs)) apart in
      let both : (a b : List Cell) → Inlined nothing q cells (bound r.id b (bound l.id a d)) (bound r.id b (bound l.id a e)) = λ a b.
      inlined-bound (inlined-bound h l.id a (neither-left (l.id == q) (list_any (is_quant q) (r ∷ rs)) apart) (unread l.id (or_left (l.id == l.id) (list_any (is_quant l.id) (r ∷ rs)) (eq-eqb l.id l.id refl))))
      r.id b (neither-left (r.id == q) (list_any (is_quant q) rs) apart') (unread r.id (or_right (l.id == r.id) (list_any (is_quant r.id) (r ∷ rs)) (or_left (r.id == r.id) (list_any (is_quant r.id) rs) (eq-eqb r.id r.id refl)))) in
      ap₂ (λ (xs : Bag) (g : List Cell → Bag). bind xs g) (same l.id d e h) (fun_ext (λ a.
      ap₂ (λ (xs ys : Bag). or_else xs ys)
      (ap₂ (λ (xs : Bag) (g : List Cell → Bag). bind xs g) (same r.id d e h) (fun_ext (λ b. given-put nothing q cells n (bound r.id b (bound l.id a d)) (bound r.id b (bound l.id a e)) (both a b) u)))
      (ap (λ (cs : List Cell). unit cs) (head-put nothing q cells n.parts.head (bound r.id [] (bound l.id a d)) (bound r.id [] (bound l.id a e)) (both a [])
      (λ y t. u y (or_right (owns y n) _ (or_left (list_any (binds y) n.parts.head) (list_any (binds_cond y) n.parts.conds.items) t)))))))

  module _ (tables : List Table) where
    pub rows-put : (kind : BoxKind) (n : Node) (s s' : Family) → ((x : ℕ) → Gives (s x) (s' x)) → owns q n ≡ false → Unread (introduces n) cells → Gives (rows_by kind tables (put_node q cells n) s) (rows_by kind tables n s')
    rows-put (Base name) n s s' same apart u d e h = refl
    rows-put Select n s s' same apart u d e h =
        ap (once_if (is_enforce n.parts.distinct)) (over_each-put n n.quants s s' same apart (λ r t. u r (or_left (owns r n) _ t)) u d e h)
    rows-put (Group k) n s s' same apart u d e h = group-put k n n.quants s s' same apart (λ r t. u r (or_left (owns r n) _ t)) u d e h
    rows-put (SetOp form types) n s s' same apart u d e h =
        ap (λ (g : ℕ → Bag). of_two n.quants (λ p q. combined form (length types) (g p) (g q))) (fun_ext (λ x. same x d e h))
    rows-put OuterJoin n s s' same apart u d e h = outer-put n n.quants s s' same apart (λ r t. u r (or_left (owns r n) _ t)) u d e h

    pub found-put : (o : Option OwnedQuant) (f g : Family) → ((b : ℕ) → Gives (f b) (g b)) → Gives (rows_found o f) (rows_found o g)
    found-put None f g same d e h = refl
    found-put (Some r) f g same d e h = same r.over d e h

    pub bag-put : (ns : List Node) → Clear q cells ns → (b : ℕ) → Gives (bag_in tables (map (put_node q cells) ns) b) (bag_in tables ns b)
    bag-put [] clear b d e h = refl
    bag-put (n ∷ ns) clear b d e h =
        elim (n.id == b) as (λ t. ◌≡◌ {A = Bag} (cond t (rows_of tables (put_node q cells n) (bag_in tables (map (put_node q cells) ns))) (bag_in tables (map (put_node q cells) ns) b) d) (cond t (rows_of tables n (bag_in tables ns)) (bag_in tables ns b) e)) [
          | true ↦ rows-put n.parts.kind n (quant_rows n (bag_in tables (map (put_node q cells) ns))) (quant_rows n (bag_in tables ns))
              (λ x. found-put (first (is_quant x) n.quants) (bag_in tables (map (put_node q cells) ns)) (bag_in tables ns) (bag-put ns clear.2)) clear.0 clear.1 d e h
          | false ↦ bag-put ns clear.2 b d e h
        ]
