-- The rows of a box over rows that lack a column which the box doesn't name.
use Rattle.std.proofs.Common.{ℕ, zero, suc, ◌≡◌, cond, Bool, true, false, List, ◌∷◌, ◌++◌, map, take, drop, length, Option, None, refl, sym, ap, ap₂, ◌∙◌, inl, inr, [], ◌||◌}
use Rattle.std.specs.List.{list_any}
use Rattle.std.proofs.lemmas.Bool.{cases_Bool, or_left, or_right}
use Rattle.std.proofs.lemmas.List.{drop-map, take-map}
use mathlib.Core.Path.{fun_ext}
use Rattle.row_bag.specs.Aggregates.{count_cell, folded}
use Rattle.row_bag.specs.Bags.{bind, keep, unit}
use Rattle.row_bag.specs.Errors.{error_among, error_at, error_in}
use Rattle.row_bag.specs.Joins.{or_else}
use Rattle.row_bag.specs.Sets.{error_or_bag, failed_cells, of_group, once, same_cells}
use Rattle.row_bag.specs.declared.row.Row.{Row}
use Rattle.row_bag.specs.declared.tables.Table.{Table}
use Rattle.sql_value.specs.Cells.{worst_of}
use Rattle.sql_value.specs.declared.cell.Cell.{Cell}
use Rattle.sql_value.specs.declared.cell.Kind.{Kind}
use Rattle.sql_value.specs.declared.truth.Truth.{Truth}
use Rattle.qgm_core.specs.Kinds.{is_enforce}
use Rattle.list_laws.specs.Lists.{In}
use Rattle.qgm_core.specs.declared.kinds.BoxKind.{BoxKind}
use Rattle.qgm_core.specs.declared.kinds.BoxKind.TheVariants.{Base, Select, Group, SetOp, OuterJoin}
use Rattle.qgm_core.specs.declared.kinds.Distinct.{Distinct}
use Rattle.qgm_core.specs.declared.node.Node.{Node}
use Rattle.qgm_core.specs.declared.owned.OwnedQuant.{OwnedQuant}
use Rattle.qgm_terms.specs.Terms.{Term, int, text, null_int, null_text, col, both, minus_of, choose, count_all, fold, scalar, Cond}
use Rattle.qgm_terms.specs.Wanted.{any_in, any_in_cond}
use Rattle.qgm_meaning.specs.Aggregated.{aggregate_of, taken_of}
use Rattle.qgm_meaning.specs.Meaning.{Family, combined, fold_cell, fold_cells, given, given_by, grouped_rows, groups, key_cells, nothing, of_one, of_two, once_if, outer_rows, over_each, rows_by}
use Rattle.qgm_meaning.specs.Values.{Bag, Environment, all_true, bound, head_cells, value}
use Rattle.qgm_edit_laws.specs.Changes.{is_set_op}
use Rattle.qgm_edit_laws.specs.FormedAdds.{of_column}
use Rattle.qgm_edit_laws.proofs.Edits.{length-map}
use Rattle.qgm_edit_laws.proofs.Naming.{any-drop}
use Rattle.qgm_edit_laws.proofs.NarrowRows.{bind-slim, each-slim, many-slim, narrow_if, narrow-none, narrowed, slim, slim-bind, slim-none, total-slim}
use Rattle.qgm_edit_laws.proofs.NarrowValues.{Apart, Goes, cells-re, conds-re, value-re}
use Rattle.qgm_edit_laws.proofs.RenamedColumns.{re, re_cond}
use Rattle.list_laws.proofs.Booleans.{clash}

pub any-take : {X : Type 0} (f : X → Bool) (i : ℕ) (xs : List X) → list_any f (take i xs) ≡ true → list_any f xs ≡ true
any-take f zero xs h = absurd (let z : ⊥ = cc in z)
any-take f (suc i) [] h = h
any-take f (suc i) (x ∷ xs) h = elim (f x) as (λ t. (t || list_any f (take i xs)) ≡ true → (t || list_any f xs) ≡ true) [ true ↦ λ h. refl | false ↦ λ h. any-take f i xs h ] h

-- what isn't found in all isn't found in fewer
fewer : (over : ℕ → Bool) (a b : ℕ → Bool) → ((q : ℕ) → b q ≡ true → a q ≡ true) → Apart over a → Apart over b
fewer over a b less h q t = elim (cases_Bool (b q)) [ inr f ↦ f | inl y ↦ absurd (clash (a q) (less q y) (h q t)) ]

one-same : (rs : List OwnedQuant) (f g : ℕ → Bag) → ((q : ℕ) → f q ≡ g q) → of_one rs f ≡ of_one rs g
one-same [] f g h = refl
one-same (r ∷ rs) f g h = h r.id

two-same : (rs : List OwnedQuant) (f g : ℕ → ℕ → Bag) → ((p q : OwnedQuant) → In p rs → In q rs → f p.id q.id ≡ g p.id q.id) → of_two rs f ≡ of_two rs g
two-same [] f g h = refl
two-same (p ∷ []) f g h = refl
two-same (p ∷ (q ∷ rs)) f g h = h p q (inl refl) (inr (inl refl))

module _ (k : ℕ) (over : ℕ → Bool) (place : ℕ → ℕ → ℕ) (g : Goes k over place) where
  abbrev asks : List Term → ℕ → Bool
  asks xs q = list_any (any_in (of_column q k)) xs

  abbrev asks_conds : List Cond → ℕ → Bool
  asks_conds ps q = list_any (any_in_cond (of_column q k)) ps

  nothing-same : (q : ℕ) → nothing q ≡ slim k (over q) (nothing q)
  nothing-same q = sym (slim-none k (over q))

  -- ---- groups

  module _ (q : ℕ) (e : Environment) where
    abbrev e' : Environment
    e' = narrowed k over e

    abbrev less : List Cell → List Cell
    less c = narrow_if k (over q) c

    key-re : (n : ℕ) (xs : List Term) → Apart over (asks xs) → (c : List Cell) → key_cells n (map (re place) xs) q e' (less c) ≡ key_cells n xs q e c
    key-re n xs h c =
        ap (λ z. head_cells nothing z (bound q (less c) e')) (take-map (re place) n xs)
        ∙ cells-re k over place g nothing nothing nothing-same (take n xs) (fewer over (asks xs) (asks (take n xs)) (λ q t. any-take (any_in (of_column q k)) n xs t) h) (bound q c e)

    fold-re : (x : Term) → Apart over (λ q. any_in (of_column q k) x) → (ms : Bag) → fold_cell q e' (slim k (over q) ms) (re place x) ≡ fold_cell q e ms x
    fold-re (int n) h ms = refl
    fold-re (text s) h ms = refl
    fold-re null_int h ms = refl
    fold-re null_text h ms = refl
    fold-re (col r j) h ms = refl
    fold-re (both o x y) h ms = refl
    fold-re (minus_of x) h ms = refl
    fold-re (choose s x) h ms = refl
    fold-re count_all h ms = ap count_cell (many-slim k (over q) ms)
    fold-re (fold f t x) h ms = ap (folded (aggregate_of f) (taken_of t))
        (bind-slim k (over q) ms (λ c. unit (value nothing (re place x) (bound q c e')))
        ∙ ap (λ (h : List Cell → List (Row Cell)). bind ms h) (fun_ext (λ c. ap unit (value-re k over place g nothing nothing nothing-same x h (bound q c e)))))
    fold-re (scalar r) h ms = refl

    folds-re : (xs : List Term) → Apart over (asks xs) → (ms : Bag) → map (fold_cell q e' (slim k (over q) ms)) (map (re place) xs) ≡ map (fold_cell q e ms) xs
    folds-re [] h ms = refl
    folds-re (x ∷ xs) h ms = ap₂ (λ (u : Cell) (us : List Cell). u ∷ us)
        (fold-re x (fewer over (asks (x ∷ xs)) (λ q. any_in (of_column q k) x) (λ q t. or_left (any_in (of_column q k) x) (asks xs q) t) h) ms)
        (folds-re xs (fewer over (asks (x ∷ xs)) (asks xs) (λ q t. or_right (any_in (of_column q k) x) (asks xs q) t) h) ms)

    cells-folded : (n : ℕ) (xs : List Term) → Apart over (asks xs) → (ms : Bag) → fold_cells n (map (re place) xs) q e' (slim k (over q) ms) ≡ fold_cells n xs q e ms
    cells-folded n xs h ms =
        ap (λ z. map (fold_cell q e' (slim k (over q) ms)) z) (drop-map (re place) n xs)
        ∙ folds-re (drop n xs) (fewer over (asks xs) (asks (drop n xs)) (λ q t. any-drop (any_in (of_column q k)) n xs t) h) ms

    unit-slim : (t : Bool) (c : List Cell) → unit (narrow_if k t c) ≡ slim k t (unit c)
    unit-slim true c = refl
    unit-slim false c = refl

    groups-re : (n : ℕ) (xs : List Term) → Apart over (asks xs) → (rows : Bag) → groups n (map (re place) xs) q e' (slim k (over q) rows) ≡ groups n xs q e rows
    groups-re zero xs h rows = ap unit (cells-folded 0 xs h rows)
    groups-re (suc n) xs h rows =
        ap (λ (z : Bag). bind (once same_cells z) (λ c. unit (c ++ fold_cells (suc n) (map (re place) xs) q e' (of_group same_cells key' c (slim k (over q) rows))))) keys-same
        ∙ ap (λ (h : List Cell → Bag). bind (once same_cells (bind rows (λ c. unit (key c)))) h) (fun_ext (λ c. ap (λ z. unit (c ++ z)) (ap (fold_cells (suc n) (map (re place) xs) q e') (members-same c) ∙ cells-folded (suc n) xs h (of_group same_cells key c rows))))
      where
        key' : List Cell → List Cell
        key' c = key_cells (suc n) (map (re place) xs) q e' c

        key : List Cell → List Cell
        key c = key_cells (suc n) xs q e c

        keys-same : bind (slim k (over q) rows) (λ c. unit (key_cells (suc n) (map (re place) xs) q e' c)) ≡ bind rows (λ c. unit (key_cells (suc n) xs q e c))
        keys-same = bind-slim k (over q) rows (λ c. unit (key_cells (suc n) (map (re place) xs) q e' c)) ∙ ap (λ (h : List Cell → Bag). bind rows h) (fun_ext (λ c. ap unit (key-re (suc n) xs h c)))

        one : (t : Bool) (c : List Cell) (b : Bool) → cond b (unit (narrow_if k t c)) [] ≡ slim k t (cond b (unit c) [])
        one t c true = unit-slim t c
        one t c false = sym (slim-none k t)

        members-same : (m : List Cell) → of_group same_cells (key_cells (suc n) (map (re place) xs) q e') m (slim k (over q) rows) ≡ slim k (over q) (of_group same_cells (key_cells (suc n) xs q e) m rows)
        members-same m =
            bind-slim k (over q) rows (λ c. cond (same_cells (key_cells (suc n) (map (re place) xs) q e' c) m) (unit c) [])
            ∙ ap (λ (h : List Cell → Bag). bind rows h) (fun_ext (λ c. ap (λ z. cond (same_cells z m) (unit (less c)) []) (key-re (suc n) xs h c) ∙ one (over q) c (same_cells (key_cells (suc n) xs q e c) m)))
            ∙ sym (slim-bind k (over q) rows (λ c. cond (same_cells (key_cells (suc n) xs q e c) m) (unit c) []))

    pub grouped-re : (n : ℕ) (xs : List Term) → Apart over (asks xs) → (rows : Bag) → grouped_rows n (map (re place) xs) q e' (slim k (over q) rows) ≡ grouped_rows n xs q e rows
    grouped-re n xs h rows =
        ap (λ o. error_or_bag (failed_cells (length (map (re place) xs))) o (groups n (map (re place) xs) q e' (slim k (over q) rows)))
        (total-slim k worst_of None (λ c l. worst_of (error_at l) (error_in (key_cells n (map (re place) xs) q e' c))) (over q) rows
        ∙ ap (λ (held : List Cell → Option Kind). error_among held rows) (fun_ext (λ c. ap error_in (key-re n xs h c))))
        ∙ ap₂ (λ (w : ℕ) (z : Bag). error_or_bag (failed_cells w) (error_among (λ c. error_in (key_cells n xs q e c)) rows) z) (length-map (re place) xs) (groups-re n xs h rows)

  -- ---- boxes

  module _ (s' s : Family) (same : (q : ℕ) (e : Environment) → s' q (narrowed k over e) ≡ slim k (over q) (s q e)) (n n' : Node)
      (quants : n'.quants ≡ n.quants) (distinct : n'.parts.distinct ≡ n.parts.distinct) (head : n'.parts.head ≡ map (re place) n.parts.head) (conds : n'.parts.conds.items ≡ map (re_cond place) n.parts.conds.items)
      (cells-apart : Apart over (asks n.parts.head)) (conds-apart : Apart over (asks_conds n.parts.conds.items)) where
    given-re : (rows' rows : ℕ → Bag) → ((q : ℕ) → rows' q ≡ slim k (over q) (rows q)) → (e : Environment) → given rows' n' (narrowed k over e) ≡ given rows n e
    given-re rows' rows eq e =
        ap₂ (λ (cs : List Cond) (hs : List Term). keep (all_true rows' cs (narrowed k over e)).t (unit (head_cells rows' hs (narrowed k over e)))) conds head
        ∙ ap₂ (λ (l : Truth) (cells : List Cell). keep l.t (unit cells)) (conds-re k over place g rows' rows eq n.parts.conds.items conds-apart e) (cells-re k over place g rows' rows eq n.parts.head cells-apart e)

    outer-re : (e : Environment) (p q : ℕ) → outer_rows n' s' (narrowed k over e) p q ≡ outer_rows n s e p q
    outer-re e p q =
        ap (λ z. bind z (give' (narrowed k over e))) (same p e)
        ∙ bind-slim k (over p) (s p e) (give' (narrowed k over e))
        ∙ ap (λ (h : List Cell → Bag). bind (s p e) h) (fun_ext (λ a. ap₂ (λ (xs ys : Bag). or_else xs ys) (partners a) (alone a)))
      where
        give' : Environment → List Cell → Bag
        give' e' a = or_else (bind (s' q e') (λ b. given nothing n' (bound q b (bound p a e')))) (unit (head_cells nothing n'.parts.head (bound q [] (bound p a e'))))

        partners : (a : List Cell) → bind (s' q (narrowed k over e)) (λ b. given nothing n' (bound q b (bound p (narrow_if k (over p) a) (narrowed k over e)))) ≡ bind (s q e) (λ b. given nothing n (bound q b (bound p a e)))
        partners a =
            ap (λ z. bind z (λ b. given nothing n' (bound q b (bound p (narrow_if k (over p) a) (narrowed k over e))))) (same q e)
            ∙ bind-slim k (over q) (s q e) (λ b. given nothing n' (bound q b (bound p (narrow_if k (over p) a) (narrowed k over e))))
            ∙ ap (λ (h : List Cell → Bag). bind (s q e) h) (fun_ext (λ b. given-re nothing nothing nothing-same (bound q b (bound p a e))))

        alone : (a : List Cell) → unit (head_cells nothing n'.parts.head (bound q [] (bound p (narrow_if k (over p) a) (narrowed k over e)))) ≡ unit (head_cells nothing n.parts.head (bound q [] (bound p a e)))
        alone a = ap unit (
            ap₂ (λ (hs : List Term) (z : List Cell). head_cells nothing hs (bound q z (bound p (narrow_if k (over p) a) (narrowed k over e)))) head (sym (narrow-none k (over q)))
            ∙ cells-re k over place g nothing nothing nothing-same n.parts.head cells-apart (bound q [] (bound p a e)))

    pub rows-re : (tables : List Table) (kind : BoxKind) → ((r : OwnedQuant) → In r n.quants → is_set_op kind ≡ true → over r.id ≡ false) → (e : Environment) → rows_by kind tables n' s' (narrowed k over e) ≡ rows_by kind tables n s e
    rows-re tables (Base table) h e = refl
    rows-re tables Select h e =
        ap₂ (λ (d : Distinct) (rs : List OwnedQuant). once_if (is_enforce d) (over_each rs s' (given_by s' n') (narrowed k over e))) distinct quants
        ∙ ap (once_if (is_enforce n.parts.distinct)) (each-slim k over false s' s (given_by s' n') (given_by s n) same (λ e. given-re (λ q. s' q (narrowed k over e)) (λ q. s q e) (λ q. same q e) e) n.quants e)
    rows-re tables (Group m) h e =
        ap (λ (rs : List OwnedQuant). of_one rs (λ q. grouped_rows m n'.parts.head q (narrowed k over e) (s' q (narrowed k over e)))) quants
        ∙ one-same n.quants (λ q. grouped_rows m n'.parts.head q (narrowed k over e) (s' q (narrowed k over e))) (λ q. grouped_rows m n.parts.head q e (s q e))
        (λ q. ap₂ (λ (hs : List Term) (z : Bag). grouped_rows m hs q (narrowed k over e) z) head (same q e) ∙ grouped-re q e m n.parts.head cells-apart (s q e))
    rows-re tables (SetOp form types) h e =
        ap (λ (rs : List OwnedQuant). of_two rs (λ p q. combined form (length types) (s' p (narrowed k over e)) (s' q (narrowed k over e)))) quants
        ∙ two-same n.quants (λ p q. combined form (length types) (s' p (narrowed k over e)) (s' q (narrowed k over e))) (λ p q. combined form (length types) (s p e) (s q e))
        (λ p q i j. ap₂ (combined form (length types)) (same p.id e ∙ ap (λ b. slim k b (s p.id e)) (h p i refl)) (same q.id e ∙ ap (λ b. slim k b (s q.id e)) (h q j refl)))
    rows-re tables OuterJoin h e =
        ap (λ (rs : List OwnedQuant). of_two rs (outer_rows n' s' (narrowed k over e))) quants
        ∙ two-same n.quants (outer_rows n' s' (narrowed k over e)) (outer_rows n s e) (λ p q i j. outer-re e p.id q.id)
