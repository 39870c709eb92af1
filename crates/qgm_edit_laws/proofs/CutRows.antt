-- The rows of a box of whose head a cell goes.
use Rattle.std.proofs.Common.{ℕ, zero, suc, ◌≡◌, ◌-◌, ◌≤◌, ◌<◌, cond, true, false, List, ◌∷◌, ◌++◌, map, take, drop, length, replicate, Option, Some, None, refl, sym, ap, ap₂, ◌∙◌, arith, []}
use Rattle.std.specs.List.{remove}
use Rattle.std.proofs.lemmas.List.{length-take-le}
use mathlib.Core.Path.{fun_ext}
use Rattle.row_bag.specs.Bags.{bind, keep, row, unit}
use Rattle.row_bag.specs.Errors.{error_among, error_in}
use Rattle.row_bag.specs.Joins.{or_else}
use Rattle.row_bag.specs.Sets.{error_or_bag, failed_cells, of_group, once, same_cells}
use Rattle.row_bag.specs.declared.tables.Table.{Table}
use Rattle.sql_value.specs.declared.cell.Cell.{Cell}
use Rattle.sql_value.specs.declared.cell.Cell.TheVariants.{Err}
use Rattle.sql_value.specs.declared.cell.Kind.{Kind}
use Rattle.sql_value.specs.Level.{level_of}
use Rattle.qgm_core.specs.Edits.{without_cell}
use Rattle.qgm_core.specs.Kinds.{is_F, is_enforce}
use Rattle.qgm_core.specs.declared.kinds.BoxKind.{BoxKind}
use Rattle.qgm_core.specs.declared.kinds.BoxKind.TheVariants.{Base, Select, Group, SetOp, OuterJoin}
use Rattle.qgm_core.specs.declared.node.Node.{Node}
use Rattle.qgm_core.specs.declared.owned.OwnedQuant.{OwnedQuant}
use Rattle.qgm_terms.specs.Terms.{Term}
use Rattle.qgm_meaning.specs.Meaning.{Family, fold_cell, fold_cells, given, given_by, grouped_rows, groups, key_cells, nothing, of_one, of_two, once_if, outer_rows, over_each, rows_by}
use Rattle.qgm_meaning.specs.Values.{Bag, Environment, all_true, bound, head_cells, value}
use Rattle.qgm_meaning.proofs.Passed.{once-keys}
use Rattle.qgm_edit_laws.specs.FormedColumn.{keys_of}
use Rattle.qgm_edit_laws.specs.Graph.{BareBy}
use Rattle.qgm_edit_laws.proofs.Column.{length-remove}
use Rattle.qgm_edit_laws.proofs.Edits.{length-map}
use Rattle.qgm_edit_laws.proofs.NarrowRows.{else-slim, map-remove, narrow, slim, slim-bind, slim-keep}

-- ---- lists

take-kept : {X : Type 0} (xs : List X) (n i : ℕ) → n ≤ i → take n (remove xs i) ≡ take n xs
take-kept xs zero i l = refl
take-kept [] (suc n) zero l = refl
take-kept [] (suc n) (suc i) l = refl
take-kept (x ∷ xs) (suc n) zero l = absurd (let z : ⊥ = omega arith in z)
take-kept (x ∷ xs) (suc n) (suc i) l = ap (λ z. x ∷ z) (take-kept xs n i (omega arith))

drop-kept : {X : Type 0} (xs : List X) (n i : ℕ) → n ≤ i → drop n (remove xs i) ≡ remove (drop n xs) (i - n)
drop-kept xs zero i l = let e : i - 0 ≡ i = (omega arith) in ap (remove xs) (sym e)
drop-kept [] (suc n) zero l = absurd (let z : ⊥ = omega arith in z)
drop-kept [] (suc n) (suc i) l = sym (gone (suc i - suc n))
  where
    gone : {X : Type 0} (j : ℕ) → remove {X = X} [] j ≡ []
    gone zero = refl
    gone (suc j) = refl
drop-kept (x ∷ xs) (suc n) zero l = absurd (let z : ⊥ = omega arith in z)
drop-kept (x ∷ xs) (suc n) (suc i) l = drop-kept xs n i (omega arith) ∙ (let e : i - n ≡ suc i - suc n = (omega arith) in ap (remove (drop n xs)) e)

-- behind so many others
remove-behind : {X : Type 0} (xs ys : List X) (i : ℕ) → length xs ≤ i → remove (xs ++ ys) i ≡ xs ++ remove ys (i - length xs)
remove-behind [] ys i l = let e : i - 0 ≡ i = (omega arith) in ap (remove ys) (sym e)
remove-behind (x ∷ xs) ys zero l = absurd (let a : length (x ∷ xs) ≡ suc (length xs) = refl in let z : ⊥ = omega arith in z)
remove-behind (x ∷ xs) ys (suc i) l =
    let a : length (x ∷ xs) ≡ suc (length xs) = refl in
    let e : i - length xs ≡ suc i - length (x ∷ xs) = (omega arith) in
    ap (λ z. x ∷ z) (remove-behind xs ys i (omega arith)) ∙ ap (λ j. x ∷ (xs ++ remove ys j)) e

remove-copies : {X : Type 0} (x : X) (n i : ℕ) → i < suc n → remove (replicate (suc n) x) i ≡ replicate n x
remove-copies x n zero l = refl
remove-copies x zero (suc i) l = absurd (let z : ⊥ = omega arith in z)
remove-copies x (suc n) (suc i) l = ap (λ z. x ∷ z) (remove-copies x n i (omega arith))

module _ (k : ℕ) (b : Node) (column : k - 1 < length b.parts.head) where
  abbrev i : ℕ
  i = k - 1

  abbrev less : Node
  less = without_cell (k - 1) b

  abbrev head : List Term
  head = b.parts.head

  -- a row of errors, without a cell
  failed-less : (x : Kind) → failed_cells (length (remove head i)) x ≡ narrow k (failed_cells (length head) x)
  failed-less x =
      let e = length-remove head i column in
      let f : length head ≡ suc (length (remove head i)) = (omega arith) in
      sym (remove-copies (Err x) (length (remove head i)) i (omega arith)) ∙ ap (λ n. narrow k (failed_cells n x)) (sym f)

  given-less : (rows : ℕ → Bag) (e : Environment) → given rows less e ≡ slim k true (given rows b e)
  given-less rows e =
      ap (λ cells. keep (all_true rows b.parts.conds.items e).t (unit cells)) (map-remove (λ x. value rows x e) head i)
      ∙ sym (slim-keep k true (all_true rows b.parts.conds.items e).t (unit (head_cells rows head e)))

  each-less : (s : Family) (give' give : Environment → Bag) → ((e : Environment) → give' e ≡ slim k true (give e)) → (rs : List OwnedQuant) (e : Environment) → over_each rs s give' e ≡ slim k true (over_each rs s give e)
  each-less s give' give h [] e = h e
  each-less s give' give h (r ∷ rs) e = elim (is_F r.kind) as (λ f. ◌≡◌ {A = Bag} (cond f (bind (s r.id e) (λ c. over_each rs s give' (bound r.id c e))) (over_each rs s give' e)) (slim k true (cond f (bind (s r.id e) (λ c. over_each rs s give (bound r.id c e))) (over_each rs s give e)))) [
    | true ↦ ap (λ (h : List Cell → Bag). bind (s r.id e) h) (fun_ext (λ c. each-less s give' give h rs (bound r.id c e))) ∙ sym (slim-bind k true (s r.id e) (λ c. over_each rs s give (bound r.id c e)))
    | false ↦ each-less s give' give h rs e
  ]

  -- ---- groups

  module _ (n : ℕ) (keys : n ≤ k - 1) (q : ℕ) (e : Environment) (rows : Bag) where
    key-less : (c : List Cell) → key_cells n (remove head i) q e c ≡ key_cells n head q e c
    key-less c = ap (λ z. head_cells nothing z (bound q c e)) (take-kept head n i keys)

    folds-less : (ms : Bag) → fold_cells n (remove head i) q e ms ≡ remove (fold_cells n head q e ms) (i - n)
    folds-less ms = ap (map (fold_cell q e ms)) (drop-kept head n i keys) ∙ map-remove (fold_cell q e ms) (drop n head) (i - n)

  groups-less : (n : ℕ) → n ≤ k - 1 → (q : ℕ) (e : Environment) (rows : Bag) → groups n (remove head i) q e rows ≡ slim k true (groups n head q e rows)
  groups-less zero l q e rows = ap unit (map-remove (fold_cell q e rows) head i)
  groups-less (suc n) l q e rows =
      ap (λ (h : List Cell → List Cell). bind (once same_cells (bind rows (λ c. unit (h c)))) (λ c. unit (c ++ fold_cells (suc n) (remove head i) q e (of_group same_cells h c rows)))) (fun_ext (key-less (suc n) l q e rows))
      ∙ once-keys key rows (λ c. unit (c ++ fold_cells (suc n) (remove head i) q e (of_group same_cells key c rows))) (λ c. slim k true (unit (c ++ fold_cells (suc n) head q e (of_group same_cells key c rows)))) one
      ∙ sym (slim-bind k true (once same_cells (bind rows (λ c. unit (key c)))) (λ c. unit (c ++ fold_cells (suc n) head q e (of_group same_cells key c rows))))
    where
      key : List Cell → List Cell
      key c = key_cells (suc n) head q e c

      long : (c : List Cell) → length (key_cells (suc n) head q e c) ≡ suc n
      long c = length-map (λ x. value nothing x (bound q c e)) (take (suc n) head) ∙ length-take-le (suc n) head (omega arith)

      one : (c : List Cell) → unit (key_cells (suc n) head q e c ++ fold_cells (suc n) (remove head i) q e (of_group same_cells (key_cells (suc n) head q e) (key_cells (suc n) head q e c) rows))
          ≡ slim k true (unit (key_cells (suc n) head q e c ++ fold_cells (suc n) head q e (of_group same_cells (key_cells (suc n) head q e) (key_cells (suc n) head q e c) rows)))
      one c =
          let ms : Bag = of_group same_cells (key_cells (suc n) head q e) (key_cells (suc n) head q e c) rows in
          let kc : List Cell = key_cells (suc n) head q e c in
          let w : length kc ≡ suc n = long c in
          ap (λ z. unit (kc ++ z)) (folds-less (suc n) l q e rows ms)
          ∙ ap (λ j. unit (kc ++ remove (fold_cells (suc n) head q e ms) (i - j))) (sym w)
          ∙ ap unit (sym (remove-behind kc (fold_cells (suc n) head q e ms) i (omega arith)))

  grouped-less : (n : ℕ) → n ≤ k - 1 → (q : ℕ) (e : Environment) (rows : Bag) → grouped_rows n (remove head i) q e rows ≡ slim k true (grouped_rows n head q e rows)
  grouped-less n l q e rows =
      ap₂ (λ (held : List Cell → Option Kind) (z : Bag). error_or_bag (failed_cells (length (remove head i))) (error_among held rows) z) (fun_ext (λ c. ap error_in (key-less n l q e rows c))) (groups-less n l q e rows)
      ∙ by (error_among (λ c. error_in (key_cells n head q e c)) rows) (groups n head q e rows)
    where
      by : (o : Option Kind) (z : Bag) → error_or_bag (failed_cells (length (remove head i))) o (slim k true z) ≡ slim k true (error_or_bag (failed_cells (length head)) o z)
      by None z = refl
      by (Some x) z = ap (λ c. row c (level_of x) ∷ []) (failed-less x)

  one-less : (rs : List OwnedQuant) (f h : ℕ → Bag) → ((q : ℕ) → f q ≡ slim k true (h q)) → of_one rs f ≡ slim k true (of_one rs h)
  one-less [] f h e = refl
  one-less (r ∷ rs) f h e = e r.id

  two-less : (rs : List OwnedQuant) (f h : ℕ → ℕ → Bag) → ((p q : ℕ) → f p q ≡ slim k true (h p q)) → of_two rs f ≡ slim k true (of_two rs h)
  two-less [] f h e = refl
  two-less (r ∷ rs) f h e = one-less rs (f r.id) (h r.id) (λ q. e r.id q)

  empty : head ≡ [] → ⊥
  empty e = let a : length head ≡ 0 = ap length e in let c = column in omega arith

  outer-less : (s : Family) (e : Environment) (p q : ℕ) → outer_rows less s e p q ≡ slim k true (outer_rows b s e p q)
  outer-less s e p q =
      ap (λ (h : List Cell → Bag). bind (s p e) h) (fun_ext (λ a.
      ap₂ (λ (xs ys : Bag). or_else xs ys)
      (ap (λ (h : List Cell → Bag). bind (s q e) h) (fun_ext (λ c. given-less nothing (bound q c (bound p a e)))) ∙ sym (slim-bind k true (s q e) (λ c. given nothing b (bound q c (bound p a e)))))
      (ap unit (map-remove (λ x. value nothing x (bound q [] (bound p a e))) head i))
      ∙ else-slim k true (bind (s q e) (λ c. given nothing b (bound q c (bound p a e)))) (unit (head_cells nothing head (bound q [] (bound p a e))))))
      ∙ sym (slim-bind k true (s p e) (λ a. or_else (bind (s q e) (λ c. given nothing b (bound q c (bound p a e)))) (unit (head_cells nothing head (bound q [] (bound p a e))))))

  -- a box that isn't an ENFORCE select, without a cell that is no key
  pub rows-less : (tables : List Table) (kind : BoxKind) → BareBy kind b → keys_of kind ≤ k - 1 → (kind ≡ Select → is_enforce b.parts.distinct ≡ false) → (s : Family) (e : Environment) → rows_by kind tables less s e ≡ slim k true (rows_by kind tables b s e)
  rows-less tables (Base table) bare l loose s e = absurd (empty bare.1)
  rows-less tables Select bare l loose s e =
      ap (λ o. once_if o (over_each b.quants s (given_by s less) e)) (loose refl)
      ∙ each-less s (given_by s less) (given_by s b) (λ e. given-less (λ q. s q e) e) b.quants e
      ∙ sym (ap (λ o. slim k true (once_if o (over_each b.quants s (given_by s b) e))) (loose refl))
  rows-less tables (Group n) bare l loose s e = one-less b.quants (λ q. grouped_rows n (remove head i) q e (s q e)) (λ q. grouped_rows n head q e (s q e)) (λ q. grouped-less n l q e (s q e))
  rows-less tables (SetOp form types) bare l loose s e = absurd (empty bare.0)
  rows-less tables OuterJoin bare l loose s e = two-less b.quants (outer_rows less s e) (outer_rows b s e) (outer-less s e)
