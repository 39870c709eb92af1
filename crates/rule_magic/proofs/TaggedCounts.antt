-- G3 without keys: the groups by tags joined back to the tags, where counts of no row are 0.
use Rattle.std.proofs.Common.{◌≡◌, ◌≢◌, ℕ, suc, zero, pos, ◌+◌, ◌==◌, cond, nat_eq, Bool, true, false, List, [], ◌∷◌, ◌++◌, map, take, drop, length, None, Option, Some, inl, inr, eqb-true, refl, ap, ap₂, sym, ◌∙◌, subst, arith, append-nil, append_assoc, length-append, take-append-drop}
use Rattle.std.specs.List.{list_all}
use Rattle.std.proofs.lemmas.Bool.{and_parts, cases_Bool, eq-eqb}
use Rattle.std.proofs.lemmas.List.{length-map}
use mathlib.Core.Path.{fun_ext}
use Rattle.sql_value.specs.Cells.{error_of}
use Rattle.sql_value.specs.Comparison as cmp
use Rattle.sql_value.specs.declared.cell.Cell.{Cell}
use Rattle.sql_value.specs.declared.cell.Cell.TheVariants.{Err, Int, Null, Text}
use Rattle.sql_value.specs.declared.cell.Kind.{Kind}
use Rattle.sql_value.specs.declared.cell.Kind.TheVariants.{Cardinality, Division, Overflow}
use Rattle.sql_value.specs.declared.level.Level.TheVariants.{No, Yes}
use Rattle.sql_value.specs.Arithmetic.{error_or}
use Rattle.row_bag.specs.Aggregates.{count_cell, values}
use Rattle.row_bag.specs.AsSets.{stands}
use Rattle.row_bag.specs.Bags.{Alike, bind, keep, unit}
use Rattle.row_bag.specs.Errors.{error_among, error_in}
use Rattle.row_bag.specs.Joins.{how_many, or_else}
use Rattle.row_bag.specs.Order.{cell_of}
use Rattle.row_bag.specs.Sets.{grouped, of_group, once, same_cells}
use Rattle.row_bag.specs.Tags.{led}
use Rattle.row_bag.specs.declared.tables.Table.{Table}
use Rattle.row_bag.proofs.Agreement.{alike-bind, alike-refl, alike-same, alike-sym, alike-trans, sum-monoid}
use Rattle.row_bag.proofs.Binds.{bind-bind, keep-bind, keep-yes, unit-bind}
use Rattle.row_bag.proofs.Counts.{agree-from_alike, alike-from_agree}
use Rattle.row_bag.proofs.FoldLaws.{or_else-alike}
use Rattle.row_bag.proofs.SetLaws.{grouped-alike}
use Rattle.row_bag.proofs.Standing.{bind-standing}
use Rattle.row_bag.proofs.TupleBags.{same_cells-decides}
use Rattle.qgm_core.specs.declared.node.Node.{Node}
use Rattle.qgm_wellformed.specs.Shapes.{is_aggregate}
use Rattle.qgm_meaning.specs.Aggregated.{taken_of}
use Rattle.qgm_meaning.specs.Filters.{outer_of}
use Rattle.qgm_meaning.specs.Meaning.{Family, fold_cell, fold_cells, given, given_by, grouped_rows, groups, key_cells, nothing, over_each}
use Rattle.qgm_meaning.specs.Tags.{columns_from}
use Rattle.qgm_meaning.specs.Values.{Bag, Environment, bound, chosen_at, head_cells, row_of, value}
use Rattle.qgm_meaning.specs.Widths.{Wide}
use Rattle.qgm_meaning.proofs.Alikes.{folds-alike}
use Rattle.qgm_meaning.proofs.Tags.{group-tagged}
use Rattle.qgm_props.specs.Facts.{EachThere}
use Rattle.qgm_props.specs.Inferred.{is_count}
use Rattle.qgm_props.proofs.Rows.{each-bind, each-once, occurs-each}
use Rattle.qgm_terms.specs.Terms as t
use Rattle.qgm_terms.specs.Terms.{Term, int, text, null_int, null_text, col, scalar, both, minus_of, choose, count_all, fold}
use Rattle.rule_magic.specs.Boxes.{count_at, counted, counted_box, joined_box, keyed, later}
use Rattle.rule_magic.specs.Own.{AllOwn}
use Rattle.rule_magic.specs.UnderTags.{AreTags, SingleGroupsUnderTags}
use Rattle.qgm_meaning.proofs.LedSets.{Tuple, drop-lead, take-lead, total-of_image}
use Rattle.rule_magic.proofs.TaggedOuters.{null-cells, nulls, same-level}
use Rattle.rule_magic.proofs.TaggedKeys.{grouped-behind, key-behind}
use Rattle.rule_magic.proofs.TaggedRows.{groups-own, led-standing, long, none-in_both, none-led, tags-once, to-once, uncollapsed}
use Rattle.rule_magic.proofs.TaggedWidths.{append-one, at-place, columns-after, first-columns, head-append, led-wide, length-one, other-row, own-row, wide-stands, whole-row}

-- ---- a null count is 0

abbrev fix_one : Bool → Cell → Cell
fix_one true z = chosen_at (cmp.is_null z).t (Int (pos 0)) z
fix_one false z = z

abbrev fixed : List Term → Tuple → Tuple
fixed [] zs = []
fixed (x ∷ xs) [] = []
fixed (x ∷ xs) (z ∷ zs) = fix_one (is_count x) z ∷ fixed xs zs

-- counts are there
abbrev CountsFull : List Term → Tuple → Type 0
CountsFull [] zs = Unit {0}
CountsFull (x ∷ xs) [] = Unit {0}
CountsFull (x ∷ xs) (z ∷ zs) = (is_count x ≡ true → z ≢ Null) × CountsFull xs zs

full-one : (b : Bool) (z : Cell) → (b ≡ true → z ≢ Null) → fix_one b z ≡ z
full-one false z h = refl
full-one true (Int n) h = refl
full-one true (Text s) h = refl
full-one true Null h = absurd (h refl refl)
full-one true (Err Cardinality) h = refl
full-one true (Err Division) h = refl
full-one true (Err Overflow) h = refl

fixed-full : (xs : List Term) (zs : Tuple) → length zs ≡ length xs → CountsFull xs zs → fixed xs zs ≡ zs
fixed-full [] [] l h = refl
fixed-full [] (z ∷ zs) l h = absurd (let k : length (z ∷ zs) ≡ suc (length zs) = refl in let z : ⊥ = omega (arith, l, k) in z)
fixed-full (x ∷ xs) [] l h = absurd (let k : length (x ∷ xs) ≡ suc (length xs) = refl in let z : ⊥ = omega (arith, l, k) in z)
fixed-full (x ∷ xs) (z ∷ zs) l h = ap₂ (λ (c : Cell) (cs : Tuple). c ∷ cs) (full-one (is_count x) z h.0) (fixed-full xs zs (less (length zs) (length xs) l) h.1)
  where
    less : (m n : ℕ) → suc m ≡ suc n → m ≡ n
    less m n h = omega (arith, h)

-- the cells of the select
counted-cells : (s : ℕ → Bag) (p : ℕ) (xs : List Term) (e : Environment) (pre zs : Tuple) → length zs ≡ length xs → row_of p e ≡ pre ++ zs → head_cells s (counted p (suc (length pre)) xs) e ≡ fixed xs zs
counted-cells s p [] e pre zs l h = refl
counted-cells s p (x ∷ xs) e pre [] l h = absurd (let k : length (x ∷ xs) ≡ suc (length xs) = refl in let z : ⊥ = omega (arith, l, k) in z)
counted-cells s p (x ∷ xs) e pre (z ∷ zs) l h =
    ap₂ (λ (c : Cell) (cs : Tuple). c ∷ cs) (one (is_count x))
    (ap (λ k. head_cells s (counted p (suc k) xs) e) (sym (length-one pre z)) ∙ counted-cells s p xs e (pre ++ z ∷ []) zs (less (length zs) (length xs) l) (h ∙ sym (append-one pre z zs)))
  where
    less : (m n : ℕ) → suc m ≡ suc n → m ≡ n
    less m n h = omega (arith, h)

    cell : cell_of (suc (length pre)) (row_of p e) ≡ z
    cell = ap (cell_of (suc (length pre))) h ∙ at-place pre z zs

    one : (b : Bool) → value s (count_at p (suc (length pre)) b) e ≡ fix_one b z
    one true = ap (fix_one true) cell
    one false = cell

-- ---- aggregates

count-some : (n : ℕ) → count_cell n ≢ Null
count-some n h = let z : ⊥ = cc in z

count-there : (o : Option Kind) (n : ℕ) → error_or o (count_cell n) ≢ Null
count-there None n h = count-some n h
count-there (Some k) n h = let z : ⊥ = cc in z

fold-some : (x : Term) (q : ℕ) (e : Environment) (rows : Bag) → is_count x ≡ true → fold_cell q e rows x ≢ Null
fold-some (int n) q e rows c = absurd (let z : ⊥ = cc in z)
fold-some (text s) q e rows c = absurd (let z : ⊥ = cc in z)
fold-some null_int q e rows c = absurd (let z : ⊥ = cc in z)
fold-some null_text q e rows c = absurd (let z : ⊥ = cc in z)
fold-some (col r k) q e rows c = absurd (let z : ⊥ = cc in z)
fold-some (scalar r) q e rows c = absurd (let z : ⊥ = cc in z)
fold-some (both o x y) q e rows c = absurd (let z : ⊥ = cc in z)
fold-some (minus_of x) q e rows c = absurd (let z : ⊥ = cc in z)
fold-some (choose s x) q e rows c = absurd (let z : ⊥ = cc in z)
fold-some count_all q e rows c = count-some (how_many rows)
fold-some (fold t.single d x) q e rows c = absurd (let z : ⊥ = cc in z)
fold-some (fold t.count d x) q e rows c = count-there (error_among error_of (bind rows (λ cells. unit (value nothing x (bound q cells e))))) (how_many (values (taken_of d) (bind rows (λ cells. unit (value nothing x (bound q cells e))))))
fold-some (fold t.sum d x) q e rows c = absurd (let z : ⊥ = cc in z)
fold-some (fold t.avg d x) q e rows c = absurd (let z : ⊥ = cc in z)
fold-some (fold t.least d x) q e rows c = absurd (let z : ⊥ = cc in z)
fold-some (fold t.greatest d x) q e rows c = absurd (let z : ⊥ = cc in z)

folds-full : (xs : List Term) (q : ℕ) (e : Environment) (rows : Bag) → CountsFull xs (map (fold_cell q e rows) xs)
folds-full [] q e rows = tt
folds-full (x ∷ xs) q e rows = (fold-some x q e rows, folds-full xs q e rows)

none-counted : count_cell 0 ≡ Int (pos 0)
none-counted = ap (λ n. Int (pos n)) (omega arith)

-- of no rows
fold-nothing : (x : Term) (q : ℕ) (e : Environment) → is_aggregate x ≡ true → fix_one (is_count x) Null ≡ fold_cell q e [] x
fold-nothing (int n) q e h = absurd (let z : ⊥ = cc in z)
fold-nothing (text s) q e h = absurd (let z : ⊥ = cc in z)
fold-nothing null_int q e h = absurd (let z : ⊥ = cc in z)
fold-nothing null_text q e h = absurd (let z : ⊥ = cc in z)
fold-nothing (col r k) q e h = absurd (let z : ⊥ = cc in z)
fold-nothing (scalar r) q e h = absurd (let z : ⊥ = cc in z)
fold-nothing (both o x y) q e h = absurd (let z : ⊥ = cc in z)
fold-nothing (minus_of x) q e h = absurd (let z : ⊥ = cc in z)
fold-nothing (choose s x) q e h = absurd (let z : ⊥ = cc in z)
fold-nothing count_all q e h = sym none-counted
fold-nothing (fold t.single t.all_of x) q e h = refl
fold-nothing (fold t.single t.each_once x) q e h = refl
fold-nothing (fold t.count t.all_of x) q e h = sym none-counted
fold-nothing (fold t.count t.each_once x) q e h = sym none-counted
fold-nothing (fold t.sum t.all_of x) q e h = refl
fold-nothing (fold t.sum t.each_once x) q e h = refl
fold-nothing (fold t.avg t.all_of x) q e h = refl
fold-nothing (fold t.avg t.each_once x) q e h = refl
fold-nothing (fold t.least t.all_of x) q e h = refl
fold-nothing (fold t.least t.each_once x) q e h = refl
fold-nothing (fold t.greatest t.all_of x) q e h = refl
fold-nothing (fold t.greatest t.each_once x) q e h = refl

folds-nothing : (xs : List Term) (q : ℕ) (e : Environment) → list_all is_aggregate xs ≡ true → fixed xs (nulls (length xs)) ≡ map (fold_cell q e []) xs
folds-nothing [] q e h = refl
folds-nothing (x ∷ xs) q e h = let a = and_parts (is_aggregate x) (list_all is_aggregate xs) h in ap₂ (λ (c : Cell) (cs : Tuple). c ∷ cs) (fold-nothing x q e a.0) (folds-nothing xs q e a.1)

nulls-length : (n : ℕ) → length (nulls n) ≡ n
nulls-length zero = refl
nulls-length (suc n) = ap suc (nulls-length n)

-- ---- a function of each row, over rows or others

or-image : (f : Tuple → Tuple) (xs ys : Bag) → bind (or_else xs ys) (λ c. unit (f c)) ≡ or_else (bind xs (λ c. unit (f c))) (bind ys (λ c. unit (f c)))
or-image f xs ys = pick (nat_eq (how_many xs) 0) ∙ ap (λ k. cond (nat_eq k 0) (bind ys (λ c. unit (f c))) (bind xs (λ c. unit (f c)))) (sym (total-of_image sum-monoid (λ c l. 1) f xs))
  where
    pick : (b : Bool) → bind (cond b ys xs) (λ c. unit (f c)) ≡ cond b (bind ys (λ c. unit (f c))) (bind xs (λ c. unit (f c)))
    pick true = refl
    pick false = refl

module _ (w0 v q p om oc sq o m g b x : ℕ) (head : List Term) (own : AllOwn q head) (folds : list_all is_aggregate head ≡ true) (apart : (om == oc) ≡ false) (apart' : (oc == om) ≡ false)
    (tags : Bag) (are : AreTags (suc w0) tags) (f : Tuple → Bag) (wide : (u : Tuple) → Wide v (f u)) (d env : Environment) (e : Tuple → Environment)
    (none : (u : Tuple) → stands same_cells u tags ≡ true → error_among (λ cells. error_in (key_cells 0 head q (e u) cells)) (f u) ≡ None) where
  abbrev w : ℕ
  w = suc w0

  abbrev n : ℕ
  n = length head

  abbrev made : Bag
  made = grouped_rows (suc w0) (keyed q p (suc w0) v head) p d (led tags f)

  abbrev by_tag : Bag → Bag
  by_tag rows = grouped same_cells (take w) (λ tag rows. tag ++ fold_cells 0 head q d (bind rows (λ cells. unit (drop w cells)))) rows

  count : suc w0 ≡ w + 0
  count = omega arith

  made-is : made ≡ by_tag (led tags f)
  made-is =
      let bare : error_among (λ cells. error_in (key_cells (suc w0) (keyed q p w v head) p d cells)) (led tags f) ≡ None =
      none-led w tags are (λ cells. error_in (key_cells (suc w0) (keyed q p w v head) p d cells)) f (λ u t. error_in (key_cells 0 head q (e u) t)) none
      (λ u t s z h. ap error_in (key-behind w v q p head own 0 folds (suc w0) count d d (u ++ t) (let a = length-append u t in let b = long w tags are u s in let c = wide-stands v (f u) (wide u) t z in omega (arith, a, b, c)))
      ∙ none-in_both (take w (u ++ t)) [] (ap error_in (take-lead w u t (long w tags are u s)) ∙ are.sound u s) refl) in
      uncollapsed (length (keyed q p w v head)) (error_among (λ cells. error_in (key_cells (suc w0) (keyed q p w v head) p d cells)) (led tags f)) (groups (suc w0) (keyed q p w v head) p d (led tags f)) bare
      ∙ grouped-behind w v q p head own 0 folds (suc w0) count d d (led tags f) (led-wide w v tags f are.wide wide)
      ∙ ap₂ (λ (key : Tuple → Tuple) (row_of : Tuple → Bag → Tuple). grouped same_cells key row_of (led tags f)) (fun_ext (λ c. append-nil (take w c)))
      (fun_ext (λ k. fun_ext (λ rows. sym (append_assoc (take w k) (drop w k) (fold_cells 0 head q d (bind rows (λ cells. unit (drop w cells))))) ∙ ap (λ (c : Tuple). c ++ fold_cells 0 head q d (bind rows (λ cells. unit (drop w cells)))) (take-append-drop w k))))

  -- a row of the groups
  abbrev IsRow : Tuple → Type 0
  IsRow y = (length (take w y) ≡ w) × (length (drop w y) ≡ n) × (error_in (take w y) ≡ None) × CountsFull head (drop w y) × (take w y ++ drop w y ≡ y)

  abbrev IsKey : Tuple → Type 0
  IsKey k = (length k ≡ w) × (error_in k ≡ None)

  abbrev members : Tuple → Bag
  members k = bind (of_group same_cells (take w) k (led tags f)) (λ cells. unit (drop w cells))

  abbrev row_at : Tuple → Tuple
  row_at k = k ++ fold_cells 0 head q d (members k)

  rows-are : EachThere IsRow (by_tag (led tags f))
  rows-are =
      each-bind IsRow (once same_cells (bind (led tags f) (λ c. unit (take w c)))) (λ k. unit (row_at k)) (λ k z. ((λ (y : true ≡ true). is-row k (occurs-each IsKey (once same_cells (bind (led tags f) (λ c. unit (take w c)))) keys k z)), tt))
    where
      keys : EachThere IsKey (once same_cells (bind (led tags f) (λ c. unit (take w c))))
      keys = each-once IsKey (bind (led tags f) (λ c. unit (take w c)))
          (subst (EachThere IsKey) (sym (bind-bind tags (λ u. bind (f u) (λ t. unit (u ++ t))) (λ c. unit (take w c))))
          (each-bind IsKey tags (λ u. bind (bind (f u) (λ t. unit (u ++ t))) (λ c. unit (take w c))) (λ u s.
          subst (EachThere IsKey) (sym (bind-bind (f u) (λ t. unit (u ++ t)) (λ c. unit (take w c))))
          (each-bind IsKey (f u) (λ t. bind (unit (u ++ t)) (λ c. unit (take w c))) (λ t z.
          subst (EachThere IsKey) (sym (unit-bind (u ++ t) (λ c. unit (take w c))))
          ((λ (y : true ≡ true). subst IsKey (sym (take-lead w u t (long w tags are u s))) (long w tags are u s, are.sound u s)), tt))))))

      is-row : (k : Tuple) → IsKey k → IsRow (row_at k)
      is-row k h =
          let front : take w (row_at k) ≡ k = take-lead w k (fold_cells 0 head q d (members k)) h.0 in
          let back : drop w (row_at k) ≡ fold_cells 0 head q d (members k) = drop-lead w k (fold_cells 0 head q d (members k)) h.0 in (
            ap (λ (c : Tuple). length c) front ∙ h.0,
            ap (λ (c : Tuple). length c) back ∙ length-map head (fold_cell q d (members k)),
            ap error_in front ∙ h.1,
            subst (CountsFull head) (sym back) (folds-full head q d (members k)),
            take-append-drop w (row_at k),
          )

  abbrev j : Node
  j = joined_box o om m oc g w n

  abbrev at : Tuple → Tuple → Environment
  at u y = bound oc y (bound om u env)

  j-head : (u y z : Tuple) → length u ≡ w → head_cells nothing (later oc w n) (at u y) ≡ z → head_cells nothing j.parts.head (at u y) ≡ u ++ z
  j-head u y z lu h =
      head-append nothing (columns_from om 1 w) (later oc w n) (at u y)
      ∙ ap₂ (λ (s t : Tuple). s ++ t) (whole-row nothing om w (at u y) u (other-row om oc y (bound om u env) apart' ∙ own-row om u env) lu) h

  j-given : (u y : Tuple) → stands same_cells u tags ≡ true → IsRow y → given nothing j (at u y) ≡ keep (cond (same_cells (take w y) u) Yes No) (unit (u ++ drop w y))
  j-given u y s h =
      ap₂ (λ (k : _) (z : Tuple). keep k (unit z))
      (same-level om oc w (at u y) u (take w y) [] (drop w y) (long w tags are u s) h.0 (other-row om oc y (bound om u env) apart' ∙ own-row om u env ∙ sym (append-nil u)) (own-row oc y (bound om u env) ∙ sym h.4) (are.sound u s) h.2)
      (j-head u y (drop w y) (long w tags are u s) (columns-after nothing oc w n (at u y) (take w y) (drop w y) (own-row oc y (bound om u env) ∙ sym h.4) h.0 h.1))

  -- what the select makes of a row
  abbrev cells_of : Tuple → Tuple
  cells_of c = head_cells nothing (columns_from sq 1 w ++ counted sq (suc w) head) (bound sq c env)

  cells-are : (u z : Tuple) → length u ≡ w → length z ≡ n → cells_of (u ++ z) ≡ u ++ fixed head z
  cells-are u z lu lz =
      head-append nothing (columns_from sq 1 w) (counted sq (suc w) head) (bound sq (u ++ z) env)
      ∙ ap₂ (λ (s t : Tuple). s ++ t) (first-columns nothing sq w (bound sq (u ++ z) env) u z (own-row sq (u ++ z) env) lu)
      (ap (λ k. head_cells nothing (counted sq (suc k) head) (bound sq (u ++ z) env)) (sym lu) ∙ counted-cells nothing sq head (bound sq (u ++ z) env) u z lz (own-row sq (u ++ z) env))

  -- of a tag
  own-row_of : (u : Tuple) → stands same_cells u tags ≡ true
      → Alike (bind (or_else (bind made (λ y. given nothing j (at u y))) (unit (head_cells nothing j.parts.head (at u [])))) (λ c. unit (cells_of c)))
      (or_else (bind (by_tag (led (once same_cells tags) f)) (λ cells. keep (cond (same_cells (take w cells) u) Yes No) (unit (u ++ drop w cells)))) (unit (u ++ fold_cells 0 head q d [])))
  own-row_of u s =
      alike-trans (alike-same (or-image cells_of (bind made (λ y. given nothing j (at u y))) (unit (head_cells nothing j.parts.head (at u [])))
      ∙ ap (λ (t : Bag). or_else (bind (bind made (λ y. given nothing j (at u y))) (λ c. unit (cells_of c))) t) missing))
      (or_else-alike (bind (bind made (λ y. given nothing j (at u y))) (λ c. unit (cells_of c))) (bind (by_tag (led (once same_cells tags) f)) (λ cells. keep (cond (same_cells (take w cells) u) Yes No) (unit (u ++ drop w cells)))) (unit (u ++ fold_cells 0 head q d []))
      (alike-trans (alike-same (bind-bind made (λ y. given nothing j (at u y)) (λ c. unit (cells_of c)) ∙ ap (λ (t : Bag). bind t (λ y. bind (given nothing j (at u y)) (λ c. unit (cells_of c)))) made-is))
      (alike-trans (bind-standing same_cells same_cells-decides (by_tag (led tags f)) (λ y. bind (given nothing j (at u y)) (λ c. unit (cells_of c))) (λ y. keep (cond (same_cells (take w y) u) Yes No) (unit (u ++ drop w y)))
      (λ y z. let h = occurs-each IsRow (by_tag (led tags f)) rows-are y z in alike-same (
      ap (λ (t : Bag). bind t (λ c. unit (cells_of c))) (j-given u y s h)
      ∙ sym (keep-bind (cond (same_cells (take w y) u) Yes No) (unit (u ++ drop w y)) (λ c. unit (cells_of c)))
      ∙ ap (keep (cond (same_cells (take w y) u) Yes No)) (unit-bind (u ++ drop w y) (λ c. unit (cells_of c)) ∙ ap (λ (c : Tuple). unit c) (cells-are u (drop w y) (long w tags are u s) h.1 ∙ ap (λ (t : Tuple). u ++ t) (fixed-full head (drop w y) h.1 h.3))))))
      (alike-bind (grouped-alike same_cells same_cells-decides (take w) (λ tag rows. tag ++ fold_cells 0 head q d (bind rows (λ cells. unit (drop w cells)))) kept (to-once w tags are f)) (λ y. alike-refl (keep (cond (same_cells (take w y) u) Yes No) (unit (u ++ drop w y))))))))
    where
      kept : (k : Tuple) (xs ys : Bag) → Alike xs ys → k ++ fold_cells 0 head q d (bind xs (λ cells. unit (drop w cells))) ≡ k ++ fold_cells 0 head q d (bind ys (λ cells. unit (drop w cells)))
      kept k xs ys h = ap (λ (c : Tuple). k ++ c) (folds-alike q d (drop 0 head) (alike-bind h (λ c. alike-refl (unit (drop w c)))))

      missing : bind (unit (head_cells nothing j.parts.head (at u []))) (λ c. unit (cells_of c)) ≡ unit (u ++ fold_cells 0 head q d [])
      missing =
          unit-bind (head_cells nothing j.parts.head (at u [])) (λ c. unit (cells_of c))
          ∙ ap (λ (c : Tuple). unit (cells_of c)) (j-head u [] (nulls n) (long w tags are u s) (null-cells oc w n (at u []) (own-row oc [] (bound om u env))))
          ∙ ap (λ (c : Tuple). unit c) (cells-are u (nulls n) (long w tags are u s) (nulls-length n) ∙ ap (λ (t : Tuple). u ++ t) (folds-nothing head q d folds))

  pub single-under : Alike (bind (outer_of j env om oc tags made) (λ c. unit (cells_of c))) (led tags (λ u. grouped_rows 0 head q (e u) (f u)))
  single-under =
      alike-trans (alike-same (bind-bind tags (λ u. or_else (bind made (λ y. given nothing j (at u y))) (unit (head_cells nothing j.parts.head (at u [])))) (λ c. unit (cells_of c))))
      (alike-trans (bind-standing same_cells same_cells-decides tags (λ u. bind (or_else (bind made (λ y. given nothing j (at u y))) (unit (head_cells nothing j.parts.head (at u [])))) (λ c. unit (cells_of c)))
      (λ u. or_else (bind (by_tag (led (once same_cells tags) f)) (λ cells. keep (cond (same_cells (take w cells) u) Yes No) (unit (u ++ drop w cells)))) (unit (u ++ fold_cells 0 head q d []))) own-row_of)
      (alike-trans (alike-bind (tags-once w tags are) (λ u. alike-refl (or_else (bind (by_tag (led (once same_cells tags) f)) (λ cells. keep (cond (same_cells (take w cells) u) Yes No) (unit (u ++ drop w cells)))) (unit (u ++ fold_cells 0 head q d [])))))
      (alike-trans (alike-from_agree same_cells same_cells-decides (group-tagged w tags f head q d (long w tags are)))
      (alike-trans (alike-sym (to-once w tags are (λ u. groups 0 head q d (f u))))
      (led-standing w tags are (λ u. groups 0 head q d (f u)) (λ u. grouped_rows 0 head q (e u) (f u)) (λ u s.
      alike-same (groups-own q 0 head own (f u) d (e u) ∙ sym (uncollapsed (length head) (error_among (λ cells. error_in (key_cells 0 head q (e u) cells)) (f u)) (groups 0 head q (e u) (f u)) (none u s)))))))))

-- the rows of the select, over those of the outer join
pub single-tags : SingleGroupsUnderTags
single-tags = λ tables s w v q p om oc sq o m g b x head tags f d env e fresh are wide own folds none join.
    agree-from_alike same_cells (alike-trans
    (alike-same (ap (λ (r : Bag). bind r (λ c. over_each [] s (given_by s (counted_box b sq (suc w) head x)) (bound sq c env))) join
    ∙ ap (bind (outer_of (joined_box o om m oc g (suc w) (length head)) env om oc tags (grouped_rows (suc w) (keyed q p (suc w) v head) p d (led tags f)))) (fun_ext (λ c. cells-free tables s b sq w head x (bound sq c env)))))
    (single-under w v q p om oc sq o m g b x head own folds fresh (flip om oc fresh) tags are f wide d env e none))
  where
    flip : (x y : ℕ) → (x == y) ≡ false → (y == x) ≡ false
    flip x y h = elim (cases_Bool (y == x)) [
      | inr f ↦ f
      | inl t ↦ absurd (let e : y ≡ x = eqb-true y x t in let z : (x == y) ≡ true = eq-eqb x y (sym e) in let w : ⊥ = cc in w)
    ]

    counted-free : (s s' : ℕ → Bag) (p k : ℕ) (xs : List Term) (e : Environment) → head_cells s (counted p k xs) e ≡ head_cells s' (counted p k xs) e
    counted-free s s' p k [] e = refl
    counted-free s s' p k (x ∷ xs) e = ap₂ (λ (c : Cell) (cs : Tuple). c ∷ cs) (one (is_count x)) (counted-free s s' p (suc k) xs e)
      where
        one : (b : Bool) → value s (count_at p k b) e ≡ value s' (count_at p k b) e
        one true = refl
        one false = refl

    columns-free : (s s' : ℕ → Bag) (p k w : ℕ) (e : Environment) → head_cells s (columns_from p k w) e ≡ head_cells s' (columns_from p k w) e
    columns-free s s' p k zero e = refl
    columns-free s s' p k (suc w) e = ap (λ (cs : Tuple). cell_of k (row_of p e) ∷ cs) (columns-free s s' p (suc k) w e)

    cells-free : (tables : List Table) (s : Family) (b sq w : ℕ) (head : List Term) (x : ℕ) (e : Environment)
        → given_by s (counted_box b sq (suc w) head x) e ≡ unit (head_cells nothing (columns_from sq 1 (suc w) ++ counted sq (suc (suc w)) head) e)
    cells-free tables s b sq w head x e =
        keep-yes (unit (head_cells (λ q. s q e) (columns_from sq 1 (suc w) ++ counted sq (suc (suc w)) head) e))
        ∙ ap (λ (c : Tuple). unit c) (head-append (λ q. s q e) (columns_from sq 1 (suc w)) (counted sq (suc (suc w)) head) e
        ∙ ap₂ (λ (c t : Tuple). c ++ t) (columns-free (λ q. s q e) nothing sq 1 (suc w) e) (counted-free (λ q. s q e) nothing sq (suc (suc w)) head e)
        ∙ sym (head-append nothing (columns_from sq 1 (suc w)) (counted sq (suc (suc w)) head) e))
