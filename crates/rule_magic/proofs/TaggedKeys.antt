-- Groups of tagged rows, the tag before the key.
use Rattle.std.proofs.Common.{◌≡◌, ℕ, suc, zero, ◌+◌, cond, Bool, true, false, ◌||◌, List, [], ◌∷◌, ◌++◌, map, take, drop, length, refl, ap, ap₂, sym, ◌∙◌, subst, arith, eqb-true, append_assoc, take-append-drop, inl, inr}
use Rattle.std.specs.List.{list_any, list_all}
use Rattle.std.proofs.lemmas.Bool.{and_parts, cases_Bool, or_left, or_right}
use Rattle.std.proofs.lemmas.List.{drop-map, take-map}
use mathlib.Core.Path.{fun_ext}
use Rattle.sql_value.specs.declared.cell.Cell.{Cell}
use Rattle.row_bag.specs.Aggregates.{count_cell, folded}
use Rattle.row_bag.specs.Bags.{bind, unit}
use Rattle.row_bag.specs.Joins.{how_many}
use Rattle.row_bag.specs.Sets.{grouped, of_group, once, same_cells}
use Rattle.row_bag.proofs.Agreement.{sum-monoid}
use Rattle.row_bag.proofs.Binds.{bind-bind, unit-bind}
use Rattle.qgm_wellformed.specs.Shapes.{is_aggregate}
use Rattle.qgm_meaning.specs.Aggregated.{aggregate_of, taken_of}
use Rattle.qgm_meaning.specs.Meaning.{fold_cell, fold_cells, key_cells, nothing}
use Rattle.qgm_meaning.specs.Searches.{binds}
use Rattle.qgm_meaning.specs.Tags.{columns_from, tagged_key, tagged_row}
use Rattle.qgm_meaning.specs.Values.{Bag, Environment, bound, head_cells, row_of, value}
use Rattle.qgm_meaning.specs.Widths.{Wide}
use Rattle.qgm_meaning.proofs.Frames.{value-framed}
use Rattle.qgm_meaning.proofs.Puts.{inlined-first, value-put}
use Rattle.qgm_terms.specs.Substitution.{substituted}
use Rattle.qgm_terms.specs.Terms.{Term, int, text, null_int, null_text, col, scalar, both, minus_of, choose, count_all, fold}
use Rattle.qgm_terms.specs.Wanted.{reads}
use Rattle.rule_magic.specs.Boxes.{behind, keyed, later}
use Rattle.rule_magic.specs.Own.{AllOwn, OfOwn}
use Rattle.qgm_meaning.proofs.LedSets.{Tuple, total-of_image}
use Rattle.rule_magic.proofs.TaggedWidths.{bind-wide, columns-after, columns-length, drop-plus, first-columns, head-append, own-row, parts, take-plus, wide-bind}
use Rattle.list_laws.proofs.Booleans.{neither-left, neither-right}

pub own-first : (q : ℕ) (x : Term) (xs : List Term) → AllOwn q (x ∷ xs) → OfOwn q x
own-first q x xs h = record { own = λ r t. h.own r (or_left (reads r x) (list_any (reads r) xs) t); unbound = λ r. neither-left (binds r x) (list_any (binds r) xs) (h.unbound r) }

pub own-rest : (q : ℕ) (x : Term) (xs : List Term) → AllOwn q (x ∷ xs) → AllOwn q xs
own-rest q x xs h = record { own = λ r t. h.own r (or_right (reads r x) (list_any (reads r) xs) t); unbound = λ r. neither-right (binds r x) (list_any (binds r) xs) (h.unbound r) }

pub own-take : (q k : ℕ) (xs : List Term) → AllOwn q xs → AllOwn q (take k xs)
own-take q zero xs h = record { own = λ r t. absurd (let z : ⊥ = cc in z); unbound = λ r. refl }
own-take q (suc k) [] h = h
own-take q (suc k) (x ∷ xs) h =
    let a = own-first q x xs h in let b = own-take q k xs (own-rest q x xs h) in record {
      own = λ r t. elim (cases_Bool (reads r x)) [ inl y ↦ a.own r y | inr n ↦ b.own r (sym (ap (λ v. v || list_any (reads r) (take k xs)) n) ∙ t) ];
      unbound = λ r. ap₂ (λ u v. u || v) (a.unbound r) (b.unbound r);
    }

pub own-drop : (q k : ℕ) (xs : List Term) → AllOwn q xs → AllOwn q (drop k xs)
own-drop q zero xs h = h
own-drop q (suc k) [] h = h
own-drop q (suc k) (x ∷ xs) h = own-drop q k xs (own-rest q x xs h)

module _ (w v q p : ℕ) where
  cells : List Term
  cells = later p w v

  -- named columns of q are those of p behind the first w
  pub value-behind : (x : Term) → OfOwn q x → (u t : Tuple) → length u ≡ w → length t ≡ v → (d e : Environment) → value nothing (substituted q (later p w v) x) (bound p (u ++ t) d) ≡ value nothing x (bound q t e)
  value-behind x h u t lu lt d e =
      value-put nothing q (later p w v) x (bound p (u ++ t) d) (bound q (head_cells nothing (later p w v) (bound p (u ++ t) d)) (bound p (u ++ t) d)) (inlined-first nothing q (later p w v) (bound p (u ++ t) d))
      (λ r b. absurd (let n : binds r x ≡ false = h.unbound r in let z : ⊥ = cc in z))
      ∙ value-framed nothing x (bound q (head_cells nothing (later p w v) (bound p (u ++ t) d)) (bound p (u ++ t) d)) (bound q t e) (record { rows = λ r b. one r (eqb-true r q (h.own r b)) })
    where
      heads : head_cells nothing (later p w v) (bound p (u ++ t) d) ≡ t
      heads = columns-after nothing p w v (bound p (u ++ t) d) u t (own-row p (u ++ t) d) lu lt

      one : (r : ℕ) → r ≡ q → row_of r (bound q (head_cells nothing (later p w v) (bound p (u ++ t) d)) (bound p (u ++ t) d)) ≡ row_of r (bound q t e)
      one r i = subst (λ z. row_of z (bound q (head_cells nothing (later p w v) (bound p (u ++ t) d)) (bound p (u ++ t) d)) ≡ row_of z (bound q t e)) (sym i)
          (own-row q (head_cells nothing (later p w v) (bound p (u ++ t) d)) (bound p (u ++ t) d) ∙ heads ∙ sym (own-row q t e))

  pub head-behind : (xs : List Term) → AllOwn q xs → (u t : Tuple) → length u ≡ w → length t ≡ v → (d e : Environment) → head_cells nothing (map (substituted q (later p w v)) xs) (bound p (u ++ t) d) ≡ head_cells nothing xs (bound q t e)
  head-behind [] h u t lu lt d e = refl
  head-behind (x ∷ xs) h u t lu lt d e = ap₂ (λ (c : Cell) (cs : Tuple). c ∷ cs) (value-behind x (own-first q x xs h) u t lu lt d e) (head-behind xs (own-rest q x xs h) u t lu lt d e)

  -- rows without their tags
  abbrev bare_rows : Bag → Bag
  bare_rows rows = bind rows (λ c. unit (drop w c))

  value-of : (x : Term) → OfOwn q x → (c : Tuple) → length c ≡ w + v → (d e : Environment) → value nothing (substituted q (later p w v) x) (bound p c d) ≡ value nothing x (bound q (drop w c) e)
  value-of x h c l d e =
      let s = parts w v c l in
      ap (λ (z : Tuple). value nothing (substituted q (later p w v) x) (bound p z d)) (sym s.2) ∙ value-behind x h (take w c) (drop w c) s.0 s.1 d e

  same-many : (rows : Bag) → how_many rows ≡ how_many (bare_rows rows)
  same-many rows = sym (total-of_image sum-monoid (λ c l. 1) (λ (c : Tuple). drop w c) rows)

  pub fold-behind : (x : Term) → OfOwn q x → is_aggregate x ≡ true → (rows : Bag) → Wide (w + v) rows → (d e : Environment) → fold_cell p d rows (substituted q (later p w v) x) ≡ fold_cell q e (bare_rows rows) x
  fold-behind (int n) h a rows l d e = absurd (let z : ⊥ = cc in z)
  fold-behind (text s) h a rows l d e = absurd (let z : ⊥ = cc in z)
  fold-behind null_int h a rows l d e = absurd (let z : ⊥ = cc in z)
  fold-behind null_text h a rows l d e = absurd (let z : ⊥ = cc in z)
  fold-behind (col r k) h a rows l d e = absurd (let z : ⊥ = cc in z)
  fold-behind (scalar r) h a rows l d e = absurd (let z : ⊥ = cc in z)
  fold-behind (both o x y) h a rows l d e = absurd (let z : ⊥ = cc in z)
  fold-behind (minus_of x) h a rows l d e = absurd (let z : ⊥ = cc in z)
  fold-behind (choose s x) h a rows l d e = absurd (let z : ⊥ = cc in z)
  fold-behind count_all h a rows l d e = ap count_cell (same-many rows)
  fold-behind (fold f t x) h a rows l d e = ap (folded (aggregate_of f) (taken_of t))
      (bind-wide (w + v) rows (λ c. unit (value nothing (substituted q (later p w v) x) (bound p c d))) (λ c. unit (value nothing x (bound q (drop w c) e))) l
      (λ c lc. ap (λ (z : Cell). unit z) (value-of x (record { own = h.own; unbound = h.unbound }) c lc d e))
      ∙ sym (bind-bind rows (λ c. unit (drop w c)) (λ c. unit (value nothing x (bound q c e))) ∙ ap (bind rows) (fun_ext (λ c. unit-bind (drop w c) (λ c. unit (value nothing x (bound q c e)))))))

  pub folds-behind : (xs : List Term) → AllOwn q xs → list_all is_aggregate xs ≡ true → (rows : Bag) → Wide (w + v) rows → (d e : Environment) → map (fold_cell p d rows) (map (substituted q (later p w v)) xs) ≡ map (fold_cell q e (bare_rows rows)) xs
  folds-behind [] h a rows l d e = refl
  folds-behind (x ∷ xs) h a rows l d e =
      let b = and_parts (is_aggregate x) (list_all is_aggregate xs) a in
      ap₂ (λ (c : Cell) (cs : Tuple). c ∷ cs) (fold-behind x (own-first q x xs h) b.0 rows l d e) (folds-behind xs (own-rest q x xs h) b.1 rows l d e)

  module _ (head : List Term) (h : AllOwn q head) (k : ℕ) (folds : list_all is_aggregate (drop k head) ≡ true) (n : ℕ) (count : n ≡ w + k) (d e : Environment) where
    abbrev head' : List Term
    head' = keyed q p w v head

    keys-are : take n head' ≡ columns_from p 1 w ++ map (substituted q (later p w v)) (take k head)
    keys-are = take-plus (columns_from p 1 w) (behind q p w v head) k n (let c = columns-length p 1 w in omega (arith, c, count))
        ∙ ap (λ (xs : List Term). columns_from p 1 w ++ xs) (take-map (substituted q (later p w v)) k head)

    folds-are : drop n head' ≡ map (substituted q (later p w v)) (drop k head)
    folds-are = drop-plus (columns_from p 1 w) (behind q p w v head) k n (let c = columns-length p 1 w in omega (arith, c, count)) ∙ drop-map (substituted q (later p w v)) k head

    -- the key of a tagged row is its tag before its key
    pub key-behind : (c : Tuple) → length c ≡ w + v → key_cells n head' p d c ≡ tagged_key w k head q e c
    key-behind c l =
        let s = parts w v c l in
        ap (λ (xs : List Term). head_cells nothing xs (bound p c d)) keys-are
        ∙ head-append nothing (columns_from p 1 w) (map (substituted q (later p w v)) (take k head)) (bound p c d)
        ∙ ap₂ (λ (x y : Tuple). x ++ y) (first-columns nothing p w (bound p c d) (take w c) (drop w c) (own-row p c d ∙ sym s.2) s.0)
        (ap (λ (z : Tuple). head_cells nothing (map (substituted q (later p w v)) (take k head)) (bound p z d)) (sym s.2) ∙ head-behind (take k head) (own-take q k head h) (take w c) (drop w c) s.0 s.1 d e)

    pub folded-behind : (rows : Bag) → Wide (w + v) rows → fold_cells n head' p d rows ≡ fold_cells k head q e (bare_rows rows)
    folded-behind rows l = ap (map (fold_cell p d rows)) folds-are ∙ folds-behind (drop k head) (own-drop q k head h) folds rows l d e

    group-wide : (key : Tuple) (rows : Bag) → Wide (w + v) rows → Wide (w + v) (of_group same_cells (tagged_key w k head q e) key rows)
    group-wide key rows l = wide-bind (w + v) (w + v) rows (λ c. cond (same_cells (tagged_key w k head q e c) key) (unit c) []) l (λ c lc. one (same_cells (tagged_key w k head q e c) key) c lc)
      where
        one : (b : Bool) (c : Tuple) → length c ≡ w + v → Wide (w + v) (cond b (unit c) [])
        one true c lc = (lc, tt)
        one false c lc = tt

    pub row-behind : (key : Tuple) (rows : Bag) → Wide (w + v) rows → key ++ fold_cells n head' p d rows ≡ tagged_row w k head q e key rows
    row-behind key rows l =
        ap (λ (xs : Tuple). key ++ xs) (folded-behind rows l)
        ∙ ap (λ (xs : Tuple). xs ++ fold_cells k head q e (bare_rows rows)) (sym (take-append-drop w key))
        ∙ append_assoc (take w key) (drop w key) (fold_cells k head q e (bare_rows rows))

    -- groups by tag and key
    pub grouped-behind : (rows : Bag) → Wide (w + v) rows → grouped same_cells (key_cells n head' p d) (λ key members. key ++ fold_cells n head' p d members) rows ≡ grouped same_cells (tagged_key w k head q e) (tagged_row w k head q e) rows
    grouped-behind rows l =
        ap₂ (λ (ks : Bag) (f : Tuple → Bag). bind (once same_cells ks) f)
        (bind-wide (w + v) rows (λ c. unit (key_cells n head' p d c)) (λ c. unit (tagged_key w k head q e c)) l (λ c lc. ap (λ (z : Tuple). unit z) (key-behind c lc)))
        (fun_ext (λ key. ap (λ (z : Tuple). unit z)
        (ap (λ (ms : Bag). key ++ fold_cells n head' p d ms) (bind-wide (w + v) rows (λ c. cond (same_cells (key_cells n head' p d c) key) (unit c) []) (λ c. cond (same_cells (tagged_key w k head q e c) key) (unit c) []) l
        (λ c lc. ap (λ (z : Tuple). cond (same_cells z key) (unit c) []) (key-behind c lc)))
        ∙ row-behind key (of_group same_cells (tagged_key w k head q e) key rows) (group-wide key rows l))))
