-- Cells put in for the columns of a quantifier through a box below, where only those columns are read whose cells hold no node and no aggregate.
use Rattle.std.proofs.Common.{ℕ, zero, suc, ◌==◌, ◌≡◌, ◌&&◌, ◌||◌, cond, Bool, true, false, List, [], ◌∷◌, ◌++◌, map, take, drop, length, Option, Some, None, refl, sym, ap, ap₂, ◌∙◌, eqb-true, inl, inr}
use Rattle.std.specs.List.{list_any}
use Rattle.std.proofs.lemmas.List.{drop-map, length-map, take-map}
use Rattle.std.proofs.lemmas.Bool.{and_from, cases_Bool, eq-eqb, or_left, or_right}
use mathlib.Core.Path.{fun_ext}
use Rattle.row_bag.specs.Bags.{bind, keep, total, unit}
use Rattle.row_bag.specs.Errors.{error_in}
use Rattle.row_bag.specs.Order.{cell_of}
use Rattle.row_bag.specs.Sets.{collapsed, failed_cells, grouped, same_cells}
use Rattle.row_bag.specs.declared.tables.Table.{Table}
use Rattle.sql_value.specs.Arithmetic as a
use Rattle.sql_value.specs.Comparison as c
use Rattle.sql_value.specs.Truths as t
use Rattle.sql_value.specs.declared.cell.Cell.{Cell}
use Rattle.sql_value.specs.declared.cell.Cell.TheVariants.{Null}
use Rattle.sql_value.specs.declared.truth.Truth.{Truth}
use Rattle.qgm_core.specs.declared.node.Node.{Node}
use Rattle.qgm_core.specs.declared.owned.OwnedQuant.{OwnedQuant}
use Rattle.qgm_core.specs.declared.kinds.BoxKind.{BoxKind}
use Rattle.qgm_core.specs.declared.kinds.BoxKind.TheVariants.{Base, Select, Group, SetOp, OuterJoin}
use Rattle.qgm_core.specs.Kinds.{is_F, is_enforce}
use Rattle.qgm_core.specs.Boxes.{is_quant, owns}
use Rattle.row_bag.specs.Aggregates.{folded}
use Rattle.qgm_meaning.specs.Aggregated.{aggregate_of, taken_of}
use Rattle.row_bag.specs.Subqueries.{presence}
use Rattle.row_bag.specs.Joins.{or_else}
use Rattle.qgm_meaning.specs.Meaning.{Family, combined, fold_cell, fold_cells, given, given_by, grouped_rows, groups, key_cells, nothing, of_one, of_two, once_if, outer_rows, over_each, rows_by, rows_found}
use Rattle.qgm_meaning.specs.Scope.{introduces, put_node}
use Rattle.qgm_terms.specs.Terms.{Term, int, text, null_int, null_text, col, both, minus_of, choose, count_all, fold, scalar, Arms, no_arm, arm, Cond, always, compare, is_null, and, or, not, some, every}
use Rattle.qgm_terms.specs.Wanted.{reads_at, reads_at_cond}
use Rattle.qgm_meaning.specs.Searches.{binds, binds_arms, binds_cond, bare, reads_at_arms}
use Rattle.qgm_terms.specs.Substitution.{substituted, substituted_arms, substituted_cond, cell_at}
use Rattle.qgm_meaning.specs.Values.{Bag, Environment, all_true, bound, chosen_at, compared, first_true, head_cells, operate, row_of, truth, value}
use Rattle.qgm_meaning.proofs.Frames.{any-drop, any-take}
use Rattle.qgm_edit_laws.specs.Graph.{reads_in}
use Rattle.std.specs.Prelude as prelude
use Rattle.list_laws.proofs.Booleans.{neither-left, neither-right}

-- a bare cell is no cell of a group
bare-fold : (q : ℕ) (env : Environment) (rows : Bag) (x : Term) → bare x ≡ true → fold_cell q env rows x ≡ Null
bare-fold q env rows (int n) b = refl
bare-fold q env rows (text w) b = refl
bare-fold q env rows null_int b = refl
bare-fold q env rows null_text b = refl
bare-fold q env rows (col r k) b = refl
bare-fold q env rows (both o x y) b = refl
bare-fold q env rows (minus_of x) b = refl
bare-fold q env rows (choose w x) b = refl
bare-fold q env rows count_all b = absurd (let z : ⊥ = cc in z)
bare-fold q env rows (fold f t x) b = absurd (let z : ⊥ = cc in z)
bare-fold q env rows (scalar r) b = refl

-- V is the row of the cells: it isn't changed by what they don't touch, and a bare cell is its column
module _ (q : ℕ) (cells : List Term) (V : Environment → List Cell) (touch : ℕ → Bool) (still : (r : ℕ) (cs : List Cell) (d : Environment) → touch r ≡ false → V (bound r cs d) ≡ V d)
    (cell-is : (rows : ℕ → Bag) (k : ℕ) (d : Environment) → bare (cell_at k cells) ≡ true → value rows (cell_at k cells) d ≡ cell_of k (V d)) where
  -- e is d with q bound to this row
  pub record Rowed (d e : Environment) : Type 0 where
    pub others : (x : ℕ) → (x == q) ≡ false → row_of x d ≡ row_of x e
    pub own : row_of q e ≡ V d

  -- these aren't q, and the cells don't touch them
  abbrev pub Apart : (ℕ → Bool) → Type 0
  Apart names = (r : ℕ) → names r ≡ true → ((r == q) ≡ false) × (touch r ≡ false)

  -- the cells of these columns are bare
  abbrev pub Naked : (ℕ → Bool) → Type 0
  Naked read = (k : ℕ) → read k ≡ true → bare (cell_at k cells) ≡ true

  rowed-bound : {d e : Environment} → Rowed d e → (r : ℕ) (cs : List Cell) → (r == q) ≡ false → touch r ≡ false → Rowed (bound r cs d) (bound r cs e)
  rowed-bound {d = d} {e = e} h r cs apart unread = record {
    others = λ x n. elim (cases_Bool (r == x)) [ inl u ↦ rw u refl | inr u ↦ rw u (h.others x n) ];
    own = ap (λ (b : Bool). cond b cs (row_of q e)) apart ∙ h.own ∙ sym (still r cs d unread);
  }

  module _ (rows : ℕ → Bag) where
    within-put : (r : ℕ) (c : Cond) (d e : Environment) (cs : List Cell) → Rowed d e → Apart (λ x. (r == x) || binds_cond x c) → Naked (λ k. prelude.not (r == q) && reads_at_cond q k c)
        → ((d e : Environment) → Rowed d e → Apart (λ x. binds_cond x c) → Naked (λ k. reads_at_cond q k c) → truth rows (substituted_cond q cells c) d ≡ truth rows c e)
        → truth rows (cond (r == q) c (substituted_cond q cells c)) (bound r cs d) ≡ truth rows c (bound r cs e)
    within-put r c d e cs h u n ih =
        let v = u r (or_left (r == r) (binds_cond r c) (eq-eqb r r refl)) in
        ap (λ (b : Bool). truth rows (cond b c (substituted_cond q cells c)) (bound r cs d)) v.0
        ∙ ih (bound r cs d) (bound r cs e) (rowed-bound h r cs v.0 v.1) (λ x t. u x (or_right (r == x) (binds_cond x c) t)) (λ k t. n k (and_from (prelude.not (r == q)) (reads_at_cond q k c) (ap prelude.not v.0) t))

    mutual
      pub value-put : (x : Term) (d e : Environment) → Rowed d e → Apart (λ r. binds r x) → Naked (λ k. reads_at q k x) → value rows (substituted q cells x) d ≡ value rows x e
      value-put (int n) d e h u m = refl
      value-put (text w) d e h u m = refl
      value-put null_int d e h u m = refl
      value-put null_text d e h u m = refl
      value-put (col r k) d e h u m =
          elim (cases_Bool (r == q)) [
            | inl s ↦ ap (λ (b : Bool). value rows (cond b (cell_at k cells) (col r k)) d) s ∙ cell-is rows k d (m k (and_from (r == q) (k == k) s (eq-eqb k k refl))) ∙ ap (cell_of k) (sym h.own ∙ ap (λ (y : ℕ). row_of y e) (sym (eqb-true r q s)))
            | inr s ↦ ap (λ (b : Bool). value rows (cond b (cell_at k cells) (col r k)) d) s ∙ ap (cell_of k) (h.others r s)
          ]
      value-put (both o x y) d e h u m =
          ap₂ (operate o) (value-put x d e h (λ r t. u r (or_left (binds r x) (binds r y) t)) (λ k t. m k (or_left (reads_at q k x) (reads_at q k y) t)))
          (value-put y d e h (λ r t. u r (or_right (binds r x) (binds r y) t)) (λ k t. m k (or_right (reads_at q k x) (reads_at q k y) t)))
      value-put (minus_of x) d e h u m = ap a.neg (value-put x d e h u m)
      value-put (choose w x) d e h u m =
          first_true-put w (value rows (substituted q cells x) d) (value rows x e) d e h (λ r t. u r (or_left (binds_arms r w) (binds r x) t)) (λ k t. m k (or_left (reads_at_arms q k w) (reads_at q k x) t))
          (value-put x d e h (λ r t. u r (or_right (binds_arms r w) (binds r x) t)) (λ k t. m k (or_right (reads_at_arms q k w) (reads_at q k x) t)))
      value-put count_all d e h u m = refl
      value-put (fold f t x) d e h u m = refl
      value-put (scalar r) d e h u m = refl

      first_true-put : (w : Arms) (x y : Cell) (d e : Environment) → Rowed d e → Apart (λ r. binds_arms r w) → Naked (λ k. reads_at_arms q k w) → x ≡ y → first_true rows (substituted_arms q cells w) x d ≡ first_true rows w y e
      first_true-put no_arm x y d e h u m k = k
      first_true-put (arm c z w) x y d e h u m k =
          ap (λ (l : Truth). chosen_at l.t (value rows (substituted q cells z) d) (first_true rows (substituted_arms q cells w) x d))
          (truth-put c d e h (λ r t. u r (or_left (binds_cond r c) (binds r z || binds_arms r w) t)) (λ i t. m i (or_left (reads_at_cond q i c) (reads_at q i z || reads_at_arms q i w) t)))
          ∙ ap₂ (chosen_at (truth rows c e).t)
          (value-put z d e h (λ r t. u r (or_right (binds_cond r c) (binds r z || binds_arms r w) (or_left (binds r z) (binds_arms r w) t)))
          (λ i t. m i (or_right (reads_at_cond q i c) (reads_at q i z || reads_at_arms q i w) (or_left (reads_at q i z) (reads_at_arms q i w) t))))
          (first_true-put w x y d e h (λ r t. u r (or_right (binds_cond r c) (binds r z || binds_arms r w) (or_right (binds r z) (binds_arms r w) t)))
          (λ i t. m i (or_right (reads_at_cond q i c) (reads_at q i z || reads_at_arms q i w) (or_right (reads_at q i z) (reads_at_arms q i w) t))) k)

      pub truth-put : (c : Cond) (d e : Environment) → Rowed d e → Apart (λ r. binds_cond r c) → Naked (λ k. reads_at_cond q k c) → truth rows (substituted_cond q cells c) d ≡ truth rows c e
      truth-put always d e h u m = refl
      truth-put (compare sign x y) d e h u m =
          ap₂ (compared sign) (value-put x d e h (λ r t. u r (or_left (binds r x) (binds r y) t)) (λ k t. m k (or_left (reads_at q k x) (reads_at q k y) t)))
          (value-put y d e h (λ r t. u r (or_right (binds r x) (binds r y) t)) (λ k t. m k (or_right (reads_at q k x) (reads_at q k y) t)))
      truth-put (is_null x) d e h u m = ap c.is_null (value-put x d e h u m)
      truth-put (and b c) d e h u m =
          ap₂ t.and (truth-put b d e h (λ r t. u r (or_left (binds_cond r b) (binds_cond r c) t)) (λ k t. m k (or_left (reads_at_cond q k b) (reads_at_cond q k c) t)))
          (truth-put c d e h (λ r t. u r (or_right (binds_cond r b) (binds_cond r c) t)) (λ k t. m k (or_right (reads_at_cond q k b) (reads_at_cond q k c) t)))
      truth-put (or b c) d e h u m =
          ap₂ t.or (truth-put b d e h (λ r t. u r (or_left (binds_cond r b) (binds_cond r c) t)) (λ k t. m k (or_left (reads_at_cond q k b) (reads_at_cond q k c) t)))
          (truth-put c d e h (λ r t. u r (or_right (binds_cond r b) (binds_cond r c) t)) (λ k t. m k (or_right (reads_at_cond q k b) (reads_at_cond q k c) t)))
      truth-put (not c) d e h u m = ap t.negated (truth-put c d e h u m)
      truth-put (some r c) d e h u m =
          ap (λ (f : List Cell → Truth). total t.or (t.truth_of false) (λ cs level. t.and (presence level) (f cs)) (rows r)) (fun_ext (λ cs. within-put r c d e cs h u m (λ d e h u m. truth-put c d e h u m)))
      truth-put (every r c) d e h u m =
          ap (λ (f : List Cell → Truth). total t.and (t.truth_of true) (λ cs level. t.or (t.negated (presence level)) (f cs)) (rows r)) (fun_ext (λ cs. within-put r c d e cs h u m (λ d e h u m. truth-put c d e h u m)))

    all_true-put : (ps : List Cond) (d e : Environment) → Rowed d e → Apart (λ r. list_any (binds_cond r) ps) → Naked (λ k. list_any (reads_at_cond q k) ps) → all_true rows (map (substituted_cond q cells) ps) d ≡ all_true rows ps e
    all_true-put [] d e h u m = refl
    all_true-put (c ∷ ps) d e h u m =
        ap₂ t.and (truth-put c d e h (λ r t. u r (or_left (binds_cond r c) (list_any (binds_cond r) ps) t)) (λ k t. m k (or_left (reads_at_cond q k c) (list_any (reads_at_cond q k) ps) t)))
        (all_true-put ps d e h (λ r t. u r (or_right (binds_cond r c) (list_any (binds_cond r) ps) t)) (λ k t. m k (or_right (reads_at_cond q k c) (list_any (reads_at_cond q k) ps) t)))

    head-put : (xs : List Term) (d e : Environment) → Rowed d e → Apart (λ r. list_any (binds r) xs) → Naked (λ k. list_any (reads_at q k) xs) → head_cells rows (map (substituted q cells) xs) d ≡ head_cells rows xs e
    head-put [] d e h u m = refl
    head-put (x ∷ xs) d e h u m =
        ap₂ (λ (c : Cell) (cs : List Cell). c ∷ cs) (value-put x d e h (λ r t. u r (or_left (binds r x) (list_any (binds r) xs) t)) (λ k t. m k (or_left (reads_at q k x) (list_any (reads_at q k) xs) t)))
        (head-put xs d e h (λ r t. u r (or_right (binds r x) (list_any (binds r) xs) t)) (λ k t. m k (or_right (reads_at q k x) (list_any (reads_at q k) xs) t)))

    given-put : (n : Node) (d e : Environment) → Rowed d e → Apart (introduces n) → Naked (λ k. reads_in q k n) → given rows (put_node q cells n) d ≡ given rows n e
    given-put n d e h u m =
        ap₂ (λ (l : Truth) (cs : List Cell). keep l.t (unit cs))
        (all_true-put n.parts.conds.items d e h (λ r t. u r (or_right (owns r n) _ (or_right (list_any (binds r) n.parts.head) (list_any (binds_cond r) n.parts.conds.items) t))) (λ k t. m k (or_right (list_any (reads_at q k) n.parts.head) (list_any (reads_at_cond q k) n.parts.conds.items) t)))
        (head-put n.parts.head d e h (λ r t. u r (or_right (owns r n) _ (or_left (list_any (binds r) n.parts.head) (list_any (binds_cond r) n.parts.conds.items) t))) (λ k t. m k (or_left (list_any (reads_at q k) n.parts.head) (list_any (reads_at_cond q k) n.parts.conds.items) t)))

  -- what is given where nothing is put in, and where it is
  abbrev pub Gives : (Environment → Bag) → (Environment → Bag) → Type 0
  Gives f g = (d e : Environment) → Rowed d e → f d ≡ g e

  own-bound : {d e : Environment} → (rs : List OwnedQuant) (r : OwnedQuant) (cs : List Cell) → Rowed d e → list_any (is_quant q) (r ∷ rs) ≡ false → Apart (λ x. list_any (is_quant x) (r ∷ rs)) → Rowed (bound r.id cs d) (bound r.id cs e)
  own-bound rs r cs h apart unread = rowed-bound h r.id cs (neither-left (r.id == q) (list_any (is_quant q) rs) apart) (unread r.id (or_left (r.id == r.id) (list_any (is_quant r.id) rs) (eq-eqb r.id r.id refl))).1

  over_each-put : (n : Node) (rs : List OwnedQuant) (s s' : Family) → ((x : ℕ) → Gives (s x) (s' x)) → list_any (is_quant q) rs ≡ false → Apart (λ r. list_any (is_quant r) rs) → Apart (introduces n) → Naked (λ k. reads_in q k n)
      → Gives (over_each rs s (given_by s (put_node q cells n))) (over_each rs s' (given_by s' n))
  over_each-put n [] s s' same apart unread u m d e h =
      ap (λ (rows : ℕ → Bag). given rows (put_node q cells n) d) (fun_ext (λ x. same x d e h)) ∙ given-put (λ x. s' x e) n d e h u m
  over_each-put n (r ∷ rs) s s' same apart unread u m d e h =
      let apart' = neither-right (r.id == q) (list_any (is_quant q) rs) apart in
      let unread' : Apart (λ x. list_any (is_quant x) rs) = λ x t. unread x (or_right (r.id == x) (list_any (is_quant x) rs) t) in
      elim (is_F r.kind) as (λ t. ◌≡◌ {A = Bag}
      (cond t (bind (s r.id d) (λ cs. over_each rs s (given_by s (put_node q cells n)) (bound r.id cs d))) (over_each rs s (given_by s (put_node q cells n)) d))
      (cond t (bind (s' r.id e) (λ cs. over_each rs s' (given_by s' n) (bound r.id cs e))) (over_each rs s' (given_by s' n) e))) [
        | true ↦ ap₂ (λ (rows : Bag) (g : List Cell → Bag). bind rows g) (same r.id d e h) (fun_ext (λ cs. over_each-put n rs s s' same apart' unread' u m (bound r.id cs d) (bound r.id cs e) (own-bound rs r cs h apart unread)))
        | false ↦ over_each-put n rs s s' same apart' unread' u m d e h
      ]

  fold_cell-put : (x : Term) (r : ℕ) (rows : Bag) (d e : Environment) → ((cs : List Cell) → Rowed (bound r cs d) (bound r cs e)) → Apart (λ y. binds y x) → Naked (λ k. reads_at q k x) → fold_cell r d rows (substituted q cells x) ≡ fold_cell r e rows x
  fold_cell-put (int n) r rows d e h u m = refl
  fold_cell-put (text s) r rows d e h u m = refl
  fold_cell-put null_int r rows d e h u m = refl
  fold_cell-put null_text r rows d e h u m = refl
  fold_cell-put (col y k) r rows d e h u m = elim (cases_Bool (y == q)) [
    | inl s ↦ ap (λ (b : Bool). fold_cell r d rows (cond b (cell_at k cells) (col y k))) s ∙ bare-fold r d rows (cell_at k cells) (m k (and_from (y == q) (k == k) s (eq-eqb k k refl)))
    | inr s ↦ ap (λ (b : Bool). fold_cell r d rows (cond b (cell_at k cells) (col y k))) s
  ]
  fold_cell-put (both o x y) r rows d e h u m = refl
  fold_cell-put (minus_of x) r rows d e h u m = refl
  fold_cell-put (choose s x) r rows d e h u m = refl
  fold_cell-put count_all r rows d e h u m = refl
  fold_cell-put (fold f t x) r rows d e h u m =
      ap (λ (g : List Cell → Cell). folded (aggregate_of f) (taken_of t) (bind rows (λ cs. unit (g cs)))) (fun_ext (λ cs. value-put nothing x (bound r cs d) (bound r cs e) (h cs) u m))
  fold_cell-put (scalar y) r rows d e h u m = refl

  folds-put : (xs : List Term) (r : ℕ) (rows : Bag) (d e : Environment) → ((cs : List Cell) → Rowed (bound r cs d) (bound r cs e)) → Apart (λ y. list_any (binds y) xs) → Naked (λ k. list_any (reads_at q k) xs)
      → map (fold_cell r d rows) (map (substituted q cells) xs) ≡ map (fold_cell r e rows) xs
  folds-put [] r rows d e h u m = refl
  folds-put (x ∷ xs) r rows d e h u m =
      ap₂ (λ (c : Cell) (cs : List Cell). c ∷ cs) (fold_cell-put x r rows d e h (λ y t. u y (or_left (binds y x) (list_any (binds y) xs) t)) (λ k t. m k (or_left (reads_at q k x) (list_any (reads_at q k) xs) t)))
      (folds-put xs r rows d e h (λ y t. u y (or_right (binds y x) (list_any (binds y) xs) t)) (λ k t. m k (or_right (reads_at q k x) (list_any (reads_at q k) xs) t)))

  module _ (head : List Term) (r : ℕ) (d e : Environment) (h : (cs : List Cell) → Rowed (bound r cs d) (bound r cs e)) (u : Apart (λ y. list_any (binds y) head)) (m : Naked (λ k. list_any (reads_at q k) head)) where
    keys-put : (k : ℕ) → key_cells k (map (substituted q cells) head) r d ≡ key_cells k head r e
    keys-put k = fun_ext (λ cs.
        ap (λ (xs : List Term). head_cells nothing xs (bound r cs d)) (take-map (substituted q cells) k head)
        ∙ head-put nothing (take k head) (bound r cs d) (bound r cs e) (h cs) (λ y t. u y (any-take (binds y) k head t)) (λ j t. m j (any-take (reads_at q j) k head t)))

    some_folds-put : (k : ℕ) → fold_cells k (map (substituted q cells) head) r d ≡ fold_cells k head r e
    some_folds-put k = fun_ext (λ rows.
        ap (λ (xs : List Term). map (fold_cell r d rows) xs) (drop-map (substituted q cells) k head)
        ∙ folds-put (drop k head) r rows d e h (λ y t. u y (any-drop (binds y) k head t)) (λ j t. m j (any-drop (reads_at q j) k head t)))

    groups-put : (k : ℕ) (rows : Bag) → groups k (map (substituted q cells) head) r d rows ≡ groups k head r e rows
    groups-put zero rows = ap (λ (f : Bag → List Cell). unit (f rows)) (some_folds-put zero)
    groups-put (suc k) rows =
        ap₂ (λ (key : List Cell → List Cell) (f : Bag → List Cell). grouped same_cells key (λ c members. c ++ f members) rows) (keys-put (suc k)) (some_folds-put (suc k))

    grouped-put : (k : ℕ) (rows : Bag) → grouped_rows k (map (substituted q cells) head) r d rows ≡ grouped_rows k head r e rows
    grouped-put k rows =
        ap (λ (w : ℕ). collapsed (λ cs. error_in (key_cells k (map (substituted q cells) head) r d cs)) (failed_cells w) rows (groups k (map (substituted q cells) head) r d rows)) (length-map head (substituted q cells))
        ∙ ap₂ (λ (key : List Cell → List Cell) (given : Bag). collapsed (λ cs. error_in (key cs)) (failed_cells (length head)) rows given) (keys-put k) (groups-put k rows)

  head-apart : (n : Node) → Apart (introduces n) → Apart (λ y. list_any (binds y) n.parts.head)
  head-apart n u y t = u y (or_right (owns y n) _ (or_left (list_any (binds y) n.parts.head) (list_any (binds_cond y) n.parts.conds.items) t))

  head-naked : (n : Node) → Naked (λ k. reads_in q k n) → Naked (λ k. list_any (reads_at q k) n.parts.head)
  head-naked n m k t = m k (or_left (list_any (reads_at q k) n.parts.head) (list_any (reads_at_cond q k) n.parts.conds.items) t)

  group-put : (k : ℕ) (n : Node) (rs : List OwnedQuant) (s s' : Family) → ((x : ℕ) → Gives (s x) (s' x)) → list_any (is_quant q) rs ≡ false → Apart (λ r. list_any (is_quant r) rs) → Apart (introduces n) → Naked (λ k. reads_in q k n)
      → Gives (λ d. of_one rs (λ r. grouped_rows k (map (substituted q cells) n.parts.head) r d (s r d))) (λ e. of_one rs (λ r. grouped_rows k n.parts.head r e (s' r e)))
  group-put k n [] s s' same apart unread u m d e h = refl
  group-put k n (r ∷ rs) s s' same apart unread u m d e h =
      ap (grouped_rows k (map (substituted q cells) n.parts.head) r.id d) (same r.id d e h)
      ∙ grouped-put n.parts.head r.id d e (λ cs. own-bound rs r cs h apart unread) (head-apart n u) (head-naked n m) k (s' r.id e)

  outer-put : (n : Node) (rs : List OwnedQuant) (s s' : Family) → ((x : ℕ) → Gives (s x) (s' x)) → list_any (is_quant q) rs ≡ false → Apart (λ r. list_any (is_quant r) rs) → Apart (introduces n) → Naked (λ k. reads_in q k n)
      → Gives (λ d. of_two rs (outer_rows (put_node q cells n) s d)) (λ e. of_two rs (outer_rows n s' e))
  outer-put n [] s s' same apart unread u m d e h = refl
  outer-put n (l ∷ []) s s' same apart unread u m d e h = refl
  outer-put n (l ∷ (r ∷ rs)) s s' same apart unread u m d e h =
      let apart' = neither-right (l.id == q) (list_any (is_quant q) (r ∷ rs)) apart in
      let unread' : Apart (λ x. list_any (is_quant x) (r ∷ rs)) = λ x t. unread x (or_right (l.id == x) (list_any (is_quant x) (r ∷ rs)) t) in
      let both : (a b : List Cell) → Rowed (bound r.id b (bound l.id a d)) (bound r.id b (bound l.id a e)) = λ a b. own-bound rs r b (own-bound (r ∷ rs) l a h apart unread) apart' unread' in
      ap₂ (λ (xs : Bag) (g : List Cell → Bag). bind xs g) (same l.id d e h) (fun_ext (λ a.
      ap₂ (λ (xs ys : Bag). or_else xs ys)
      (ap₂ (λ (xs : Bag) (g : List Cell → Bag). bind xs g) (same r.id d e h) (fun_ext (λ b. given-put nothing n (bound r.id b (bound l.id a d)) (bound r.id b (bound l.id a e)) (both a b) u m)))
      (ap (λ (cs : List Cell). unit cs) (head-put nothing n.parts.head (bound r.id [] (bound l.id a d)) (bound r.id [] (bound l.id a e)) (both a []) (head-apart n u) (head-naked n m)))))

  pub rows-put : (tables : List Table) (kind : BoxKind) (n : Node) (s s' : Family) → ((x : ℕ) → Gives (s x) (s' x)) → owns q n ≡ false → Apart (introduces n) → Naked (λ k. reads_in q k n) → Gives (rows_by kind tables (put_node q cells n) s) (rows_by kind tables n s')
  rows-put tables (Base name) n s s' same apart u m d e h = refl
  rows-put tables Select n s s' same apart u m d e h = ap (once_if (is_enforce n.parts.distinct)) (over_each-put n n.quants s s' same apart (λ r t. u r (or_left (owns r n) _ t)) u m d e h)
  rows-put tables (Group k) n s s' same apart u m d e h = group-put k n n.quants s s' same apart (λ r t. u r (or_left (owns r n) _ t)) u m d e h
  rows-put tables (SetOp form types) n s s' same apart u m d e h =
      ap (λ (g : ℕ → Bag). of_two n.quants (λ p q. combined form (length types) (g p) (g q))) (fun_ext (λ x. same x d e h))
  rows-put tables OuterJoin n s s' same apart u m d e h = outer-put n n.quants s s' same apart (λ r t. u r (or_left (owns r n) _ t)) u m d e h

  pub found-put : (o : Option OwnedQuant) (f g : Family) → ((b : ℕ) → Gives (f b) (g b)) → Gives (rows_found o f) (rows_found o g)
  found-put None f g same d e h = refl
  found-put (Some r) f g same d e h = same r.over d e h
