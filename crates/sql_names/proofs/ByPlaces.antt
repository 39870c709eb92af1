-- What a query means by names it means by places.
use Rattle.std.proofs.Common.{◌≡◌, ℕ, ◌+◌, Bool, true, false, cond, List, [], ◌∷◌, ◌++◌, length, replicate, Option, refl, ap, ap₂, sym, ◌∙◌, subst}
use Rattle.std.specs.Prelude.{All}
use Rattle.std.proofs.lemmas.List.{length-append}
use Rattle.shared_types.specs.declared.compare.CmpOp.TheVariants.{Eq, Ge, Le}
use Rattle.row_bag.specs.declared.row.Row.{Row}
use Rattle.sql_ast.specs.declared.name.Column.{Column}
use Rattle.sql_ast.specs.Syntax as s
use Rattle.sql_catalog.specs.TableNames as t
use Rattle.sql_catalog.proofs.EachLaws.{Each, each_all, each_left, each_more, each_right}
use Rattle.sql_value.specs.Comparison as v
use Rattle.sql_value.specs.Like as l
use Rattle.sql_value.specs.Truths as w
use Rattle.sql_value.specs.declared.cell.Cell.{Cell}
use Rattle.sql_value.specs.declared.cell.Cell.TheVariants.{Null}
use Rattle.sql_value.specs.declared.truth.Truth.{Truth}
use Rattle.sql_meaning.specs.Grouping.{is_grouped}
use Rattle.sql_meaning.specs.Groups.{Group, is_distinct, no_group}
use Rattle.sql_meaning.specs.Groups as g
use Rattle.sql_meaning.specs.Joins.{distinct_if, kept, product, selected}
use Rattle.sql_meaning.specs.Meaning as n
use Rattle.sql_meaning.specs.Names.{Known, item_names, items_names, list_names, names, renamed, shape, table_shape}
use Rattle.sql_meaning.specs.Names as k
use Rattle.sql_meaning.specs.Scopes.{Frame, Scopes, Shape, column_value, filled, frame_cells, range_of, shapes_of}
use Rattle.sql_meaning.specs.Subqueries as u
use Rattle.sql_meaning.specs.Values.{additive, case_of, multiplicative}
use Rattle.sql_meaning.specs.Values as values
use Rattle.sql_meaning.specs.ResolvedMeaning as c
use Rattle.sql_meaning.specs.ResolvedTrees.{Query}
use Rattle.sql_names.specs.Agreed.{AllWide, AreWideFrames, IsWide, bags_of, flat, names_of, rows_of}
use Rattle.sql_names.specs.Agreed.{columns_of as columns_in}
use Rattle.sql_names.specs.Even.{EvenArms, EvenChoices, EvenCond, EvenExpr, EvenExprs, EvenFilter, EvenItem, EvenItems, EvenList, EvenOtherwise, EvenQuery, EvenRes, EvenTable, EvenTables}
use Rattle.sql_meaning.specs.Even.{innermost}
use Rattle.sql_names.specs.Places.{grouping_places, place_of, span_of, width}
use Rattle.sql_names.specs.Resolved.{Columns, bare, column_at, columns_from, columns_of}
use Rattle.sql_names.specs.Resolved as r
use Rattle.sql_names.proofs.Columns.{cells_from, cells_of_range, column_value_at, found_cell, from_all, from_place, range_stands, wide_length}
use Rattle.sql_names.proofs.Frames.{FrameIs, Fits, beside, fits_more, fits_none, in_all, no_range}
use Rattle.sql_names.proofs.Grouped.{GroupIs, OneIs, aggregated_same, count_same, groups_related}
use Rattle.sql_names.proofs.Named.{Agrees, Same, all_wide, named_related, names_bare, range_length, ranged_related, renamed_length, shape_bare, table_bare}
use Rattle.sql_names.proofs.Operators.{both_truth, cells_append, either_truth, perhaps_not_truth, plus_value, signed_value, times_value}
use Rattle.sql_names.proofs.Related.{Related, related_kept, related_left_join, related_product, related_selected, related_unit}
use Rattle.sql_names.proofs.Results.{combined_related, distinct_related, intersected_related, same_rows}

-- where a part stands: its scopes and its group, by names and by places
pub record View : Type 0 where
  pub shapes : List Shape
  pub scopes : Scopes
  pub rows : List (List Cell)
  pub fits : Fits shapes scopes rows
  pub group : Group Frame
  pub others : Group (List Cell)
  pub groups : GroupIs (innermost shapes) group others

-- within one more scope
abbrev pub within : (ranges : Shape) (frame : Frame) (row : List Cell) → FrameIs ranges frame row → (shapes : List Shape) (scopes : Scopes) (rows : List (List Cell)) → Fits shapes scopes rows
    → (group : Group Frame) (others : Group (List Cell)) → GroupIs ranges group others → View
within ranges frame row f shapes scopes rows h group others is = record {
  shapes = ranges ∷ shapes;
  scopes = frame ∷ scopes;
  rows = row ∷ rows;
  fits = fits_more ranges frame row shapes scopes rows f h;
  group = group;
  others = others;
  groups = is;
}

-- ---- columns

module _ (bags : List ℕ → List (Row (List Cell))) where
  column_law : (x : Column) (a : View) → column_value x a.scopes ≡ c.value bags (column_at (place_of x.range x.name a.shapes)) a.rows a.others
  column_law x a =
      found_cell x.range x.name a.scopes a.fits.wide
      ∙ sym (column_value_at bags (flat a.scopes) a.others (place_of x.range x.name (shapes_of a.scopes)))
      ∙ ap₂ (λ (shapes : List Shape) (rows : List (List Cell)). c.value bags (column_at (place_of x.range x.name shapes)) rows a.others) a.fits.shape a.fits.cells

  range_law : (name : List ℕ) (a : View) → n.cells_of (range_of name a.scopes) ≡ c.cells bags (columns_of (span_of name a.shapes)) a.rows a.others
  range_law name a =
      cells_of_range bags (flat a.scopes) a.others (range_of name a.scopes) (span_of name (shapes_of a.scopes)) (range_stands name a.scopes a.fits.wide)
      ∙ ap₂ (λ (shapes : List Shape) (rows : List (List Cell)). c.cells bags (columns_of (span_of name shapes)) rows a.others) a.fits.shape a.fits.cells

  star_law : (ranges : Shape) (frame : Frame) (row : List Cell) → FrameIs ranges frame row → (rows : List (List Cell)) (others : Group (List Cell))
      → frame_cells frame ≡ c.cells bags (columns_from 0 0 (width ranges)) (row ∷ rows) others
  star_law ranges frame row f rows others =
      let size : length (frame_cells frame) ≡ width ranges = wide_length frame f.wide ∙ ap width f.shape in
      sym (from_all (frame_cells frame))
      ∙ ap₂ (λ (xs : List Cell) (m : ℕ). from_place xs 0 m) f.cells size
      ∙ sym (cells_from bags (row ∷ rows) others 0 0 (width ranges))

-- ---- widths

module _ (known : Known) where
  item_width : (x : s.Item) (shapes : List Shape) (scopes : Scopes) (rows : List (List Cell)) → Fits shapes scopes rows → (group : Group Frame) → length (n.item_cells known x scopes group) ≡ length (item_names x shapes)
  item_width (s.item x name) shapes scopes rows f group = refl
  item_width (s.all_of name) shapes scopes rows f group = range_length name scopes f.wide ∙ ap (λ (z : List Shape). length (item_names (s.all_of name) z)) f.shape

  items_width : (xs : s.Items) (shapes : List Shape) (scopes : Scopes) (rows : List (List Cell)) → Fits shapes scopes rows → (group : Group Frame) → length (n.items_cells known xs scopes group) ≡ length (items_names xs shapes)
  items_width s.no_item shapes scopes rows f group = refl
  items_width (s.one_item x xs) shapes scopes rows f group =
      length-append (n.item_cells known x scopes group) (n.items_cells known xs scopes group)
      ∙ ap₂ ◌+◌ (item_width x shapes scopes rows f group) (items_width xs shapes scopes rows f group)
      ∙ sym (length-append (item_names x shapes) (items_names xs shapes))

  list_width : (list : s.SelectList) (ranges : Shape) (frame : Frame) (row : List Cell) → FrameIs ranges frame row → (shapes : List Shape) (scopes : Scopes) (rows : List (List Cell)) → Fits shapes scopes rows
      → (group : Group Frame) → length (n.list_cells known list frame scopes group) ≡ length (list_names list ranges shapes)
  list_width s.star ranges frame row f shapes scopes rows h group = wide_length frame f.wide ∙ ap width f.shape
  list_width (s.items xs) ranges frame row f shapes scopes rows h group = items_width xs (ranges ∷ shapes) (frame ∷ scopes) (row ∷ rows) (fits_more ranges frame row shapes scopes rows f h) group

-- ---- the law

-- a name stands for these columns and rows
pub record IsKnown (known : Known) (columns : Columns) (bags : List ℕ → List (Row (List Cell))) (name : List ℕ) : Type 0 where
  pub named : columns name ≡ names_of (known name)
  pub held : bags name ≡ rows_of (known name)
  pub wide : IsWide (known name)

module _ (known : Known) (columns : Columns) (bags : List ℕ → List (Row (List Cell))) where
  abbrev P : List ℕ → Type 0
  P = IsKnown known columns bags

  left : (xs ys : List (List ℕ)) → Each P (xs ++ ys) → Each P xs
  left xs ys e = each_left P xs ys e

  right : (xs ys : List (List ℕ)) → Each P (xs ++ ys) → Each P ys
  right xs ys e = each_right P xs ys e

  agree : (xs : List (List ℕ)) → Each P xs → Each (Agrees known columns) xs
  agree xs e = each_more P (Agrees known columns) (λ name is. is.named) xs e

  names_law : (q : s.Query) (shapes : List Shape) (scopes : Scopes) (rows : List (List Cell)) → Fits shapes scopes rows → Each P (t.in_query q) → names known q (shapes_of scopes) ≡ names (bare columns) q shapes
  names_law q shapes scopes rows f e = ap (names known q) f.shape ∙ names_bare known columns q shapes (agree (t.in_query q) e)

  by_case : (b distinct : Bool) (m : ℕ) (xs us : List (Row (List Cell))) (p q : Query) (rows : List (List Cell)) → Related (Same m) (distinct_if distinct xs) (c.rows bags p rows) → Related (Same m) (distinct_if distinct us) (c.rows bags q rows)
      → Related (Same m) (distinct_if distinct (cond b xs us)) (c.rows bags (cond b p q) rows)
  by_case true distinct m xs us p q rows h k = h
  by_case false distinct m xs us p q rows h k = k

  equal : (q : s.Query) (shapes : List Shape) (scopes : Scopes) (rows : List (List Cell)) → Related (Same (length (names (bare columns) q shapes))) (n.rows known q scopes) (c.rows bags (r.query columns shapes q) rows)
      → n.rows known q scopes ≡ c.rows bags (r.query columns shapes q) rows
  equal q shapes scopes rows h = same_rows (length (names (bare columns) q shapes)) (n.rows known q scopes) (c.rows bags (r.query columns shapes q) rows) h

  mutual
    value_law : (x : s.Expr) (a : View) → Each P (t.in_expr x) → EvenExpr columns a.shapes x → n.value known x a.scopes a.group ≡ c.value bags (r.value columns a.shapes x) a.rows a.others
    value_law (s.add x op y) a e h =
        ap₂ (additive op) (value_law x a (left (t.in_expr x) (t.in_expr y) e) h.0) (value_law y a (right (t.in_expr x) (t.in_expr y) e) h.1)
        ∙ sym (plus_value bags a.rows a.others (r.value columns a.shapes x) op (r.value columns a.shapes y))
    value_law (s.multiply x op y) a e h =
        ap₂ (multiplicative op) (value_law x a (left (t.in_expr x) (t.in_expr y) e) h.0) (value_law y a (right (t.in_expr x) (t.in_expr y) e) h.1)
        ∙ sym (times_value bags a.rows a.others (r.value columns a.shapes x) op (r.value columns a.shapes y))
    value_law (s.signed p x) a e h = ap (values.signed p) (value_law x a e h) ∙ sym (signed_value bags a.rows a.others p (r.value columns a.shapes x))
    value_law (s.number m) a e h = refl
    value_law (s.string x) a e h = refl
    value_law (s.col x) a e h = column_law bags x a
    value_law (s.paren x) a e h = value_law x a e h
    value_law (s.scalar q) a e h = ap u.scalar (equal q a.shapes a.scopes a.rows (query_law q a.shapes a.scopes a.rows a.fits e h))
    value_law s.count_all a e h = count_same (innermost a.shapes) a.group a.others a.groups
    value_law (s.aggregate f each x) a e h =
        aggregated_same (innermost a.shapes) f (is_distinct each) (λ frame. n.value known x (frame ∷ []) no_group) (λ row. c.value bags (r.value columns (innermost a.shapes ∷ []) x) (row ∷ []) no_group)
        (λ frame row is. value_law x (within (innermost a.shapes) frame row is [] [] [] fits_none no_group no_group tt) e h)
        a.group a.others a.groups
    value_law (s.searched xs o) a e h =
        ap (λ (z : Cell). n.of_arms known xs z a.scopes a.group) (otherwise_law o a (right (t.in_arms xs) (t.in_otherwise o) e) h.1)
        ∙ arms_law xs a (c.value bags (r.otherwise columns a.shapes o) a.rows a.others) (left (t.in_arms xs) (t.in_otherwise o) e) h.0
    value_law (s.simple x xs o) a e h =
        let f : Each P (t.in_choices xs ++ t.in_otherwise o) = right (t.in_expr x) (t.in_choices xs ++ t.in_otherwise o) e in
        ap₂ (λ (y z : Cell). n.of_choices known y xs z a.scopes a.group) (value_law x a (left (t.in_expr x) (t.in_choices xs ++ t.in_otherwise o) e) h.0) (otherwise_law o a (right (t.in_choices xs) (t.in_otherwise o) f) h.2)
        ∙ choices_law xs a (c.value bags (r.value columns a.shapes x) a.rows a.others) (c.value bags (r.otherwise columns a.shapes o) a.rows a.others) (left (t.in_choices xs) (t.in_otherwise o) f) h.1
    value_law (s.coalesce x xs) a e h =
        ap (λ (z : Cell). n.coalesced known z xs a.scopes a.group) (value_law x a (left (t.in_expr x) (t.in_exprs xs) e) h.0)
        ∙ coalesced_law xs a (c.value bags (r.value columns a.shapes x) a.rows a.others) (right (t.in_expr x) (t.in_exprs xs) e) h.1
    value_law (s.null_if x y) a e h =
        ap₂ (λ (y z : Cell). case_of (v.compare Eq y z) Null y) (value_law x a (left (t.in_expr x) (t.in_expr y) e) h.0) (value_law y a (right (t.in_expr x) (t.in_expr y) e) h.1)
    value_law (s.cast_null d) a e h = refl

    result_law : (x : s.Res) (a : View) → Each P (t.in_res x) → EvenRes columns a.shapes x → n.result_of known x a.scopes a.group ≡ c.value bags (r.result columns a.shapes x) a.rows a.others
    result_law (s.given x) a e h = value_law x a e h
    result_law s.null a e h = refl

    otherwise_law : (o : s.Otherwise) (a : View) → Each P (t.in_otherwise o) → EvenOtherwise columns a.shapes o → n.otherwise known o a.scopes a.group ≡ c.value bags (r.otherwise columns a.shapes o) a.rows a.others
    otherwise_law s.no_else a e h = refl
    otherwise_law (s.or_else x) a e h = result_law x a e h

    arms_law : (xs : s.Arms) (a : View) (last : Cell) → Each P (t.in_arms xs) → EvenArms columns a.shapes xs → n.of_arms known xs last a.scopes a.group ≡ c.of_arms bags (r.arms columns a.shapes xs) last a.rows a.others
    arms_law s.no_arm a last e h = refl
    arms_law (s.one_arm p x xs) a last e h =
        let f : Each P (t.in_res x ++ t.in_arms xs) = right (t.in_cond p) (t.in_res x ++ t.in_arms xs) e in
        ap₂ (λ (y : Cell) (z : Cell). case_of (n.truth known p a.scopes a.group) y z) (result_law x a (left (t.in_res x) (t.in_arms xs) f) h.1) (arms_law xs a last (right (t.in_res x) (t.in_arms xs) f) h.2)
        ∙ ap (λ (z : Truth). case_of z (c.value bags (r.result columns a.shapes x) a.rows a.others) (c.of_arms bags (r.arms columns a.shapes xs) last a.rows a.others)) (truth_law p a (left (t.in_cond p) (t.in_res x ++ t.in_arms xs) e) h.0)

    choices_law : (xs : s.Choices) (a : View) (x last : Cell) → Each P (t.in_choices xs) → EvenChoices columns a.shapes xs → n.of_choices known x xs last a.scopes a.group ≡ c.of_choices bags x (r.choices columns a.shapes xs) last a.rows a.others
    choices_law s.no_choice a x last e h = refl
    choices_law (s.one_choice y z xs) a x last e h =
        let f : Each P (t.in_res z ++ t.in_choices xs) = right (t.in_expr y) (t.in_res z ++ t.in_choices xs) e in
        ap₂ (λ (p : Cell) (q : Cell). case_of (v.compare Eq x (n.value known y a.scopes a.group)) p q) (result_law z a (left (t.in_res z) (t.in_choices xs) f) h.1) (choices_law xs a x last (right (t.in_res z) (t.in_choices xs) f) h.2)
        ∙ ap (λ (p : Cell). case_of (v.compare Eq x p) (c.value bags (r.result columns a.shapes z) a.rows a.others) (c.of_choices bags x (r.choices columns a.shapes xs) last a.rows a.others)) (value_law y a (left (t.in_expr y) (t.in_res z ++ t.in_choices xs) e) h.0)

    coalesced_law : (xs : s.Exprs) (a : View) (x : Cell) → Each P (t.in_exprs xs) → EvenExprs columns a.shapes xs → n.coalesced known x xs a.scopes a.group ≡ c.coalesced bags x (r.values columns a.shapes xs) a.rows a.others
    coalesced_law s.no_expr a x e h = refl
    coalesced_law (s.one_expr y xs) a x e h =
        ap (case_of (w.negated (v.is_null x)) x)
        (ap (λ (z : Cell). n.coalesced known z xs a.scopes a.group) (value_law y a (left (t.in_expr y) (t.in_exprs xs) e) h.0)
        ∙ coalesced_law xs a (c.value bags (r.value columns a.shapes y) a.rows a.others) (right (t.in_expr y) (t.in_exprs xs) e) h.1)

    equals_law : (xs : s.Exprs) (a : View) (x : Cell) → Each P (t.in_exprs xs) → EvenExprs columns a.shapes xs → n.equals_one known x xs a.scopes a.group ≡ c.equals_one bags x (r.values columns a.shapes xs) a.rows a.others
    equals_law s.no_expr a x e h = refl
    equals_law (s.one_expr y xs) a x e h =
        ap₂ (λ (z : Cell) (p : Truth). w.or (v.compare Eq x z) p) (value_law y a (left (t.in_expr y) (t.in_exprs xs) e) h.0) (equals_law xs a x (right (t.in_expr y) (t.in_exprs xs) e) h.1)

    truth_law : (p : s.Cond) (a : View) → Each P (t.in_cond p) → EvenCond columns a.shapes p → n.truth known p a.scopes a.group ≡ c.truth bags (r.test columns a.shapes p) a.rows a.others
    truth_law (s.either p q) a e h =
        ap₂ w.or (truth_law p a (left (t.in_cond p) (t.in_cond q) e) h.0) (truth_law q a (right (t.in_cond p) (t.in_cond q) e) h.1)
        ∙ sym (either_truth bags a.rows a.others (r.test columns a.shapes p) (r.test columns a.shapes q))
    truth_law (s.both p q) a e h =
        ap₂ w.and (truth_law p a (left (t.in_cond p) (t.in_cond q) e) h.0) (truth_law q a (right (t.in_cond p) (t.in_cond q) e) h.1)
        ∙ sym (both_truth bags a.rows a.others (r.test columns a.shapes p) (r.test columns a.shapes q))
    truth_law (s.negated p) a e h = ap w.negated (truth_law p a e h)
    truth_law (s.bracket p) a e h = truth_law p a e h
    truth_law (s.compare x op y) a e h =
        ap₂ (v.compare op) (value_law x a (left (t.in_expr x) (t.in_expr y) e) h.0) (value_law y a (right (t.in_expr x) (t.in_expr y) e) h.1)
    truth_law (s.quantified x op each q) a e h =
        ap₂ (u.quantified each op) (value_law x a (left (t.in_expr x) (t.in_query q) e) h.0) (equal q a.shapes a.scopes a.rows (query_law q a.shapes a.scopes a.rows a.fits (right (t.in_expr x) (t.in_query q) e) h.1))
    truth_law (s.between x negative y z) a e h =
        let f : Each P (t.in_expr y ++ t.in_expr z) = right (t.in_expr x) (t.in_expr y ++ t.in_expr z) e in
        let first : n.value known x a.scopes a.group ≡ c.value bags (r.value columns a.shapes x) a.rows a.others = value_law x a (left (t.in_expr x) (t.in_expr y ++ t.in_expr z) e) h.0 in
        ap (values.perhaps_not negative)
        (ap₂ w.and
        (ap₂ (v.compare Ge) first (value_law y a (left (t.in_expr y) (t.in_expr z) f) h.1))
        (ap₂ (v.compare Le) first (value_law z a (right (t.in_expr y) (t.in_expr z) f) h.2)))
        ∙ sym (perhaps_not_truth bags a.rows a.others negative _)
    truth_law (s.in_query x negative q) a e h =
        ap (values.perhaps_not negative) (ap₂ (u.compare_any Eq) (value_law x a (left (t.in_expr x) (t.in_query q) e) h.0) (equal q a.shapes a.scopes a.rows (query_law q a.shapes a.scopes a.rows a.fits (right (t.in_expr x) (t.in_query q) e) h.1)))
        ∙ sym (perhaps_not_truth bags a.rows a.others negative _)
    truth_law (s.in_list x negative xs) a e h =
        ap (values.perhaps_not negative)
        (ap (λ (z : Cell). n.equals_one known z xs a.scopes a.group) (value_law x a (left (t.in_expr x) (t.in_exprs xs) e) h.0)
        ∙ equals_law xs a (c.value bags (r.value columns a.shapes x) a.rows a.others) (right (t.in_expr x) (t.in_exprs xs) e) h.1)
        ∙ sym (perhaps_not_truth bags a.rows a.others negative _)
    truth_law (s.like x negative y) a e h =
        ap (values.perhaps_not negative) (ap₂ l.like (value_law x a (left (t.in_expr x) (t.in_expr y) e) h.0) (value_law y a (right (t.in_expr x) (t.in_expr y) e) h.1))
        ∙ sym (perhaps_not_truth bags a.rows a.others negative _)
    truth_law (s.is_null x negative) a e h =
        ap (λ (z : Cell). values.perhaps_not negative (v.is_null z)) (value_law x a e h)
        ∙ sym (perhaps_not_truth bags a.rows a.others negative _)
    truth_law (s.exists q) a e h = ap u.exists (equal q a.shapes a.scopes a.rows (query_law q a.shapes a.scopes a.rows a.fits e h))

    filter_law : (p : s.Filter) (a : View) → Each P (t.in_filter p) → EvenFilter columns a.shapes p → n.filtered known p a.scopes a.group ≡ c.truth bags (r.filter columns a.shapes p) a.rows a.others
    filter_law s.no_filter a e h = refl
    filter_law (s.only_where p) a e h = truth_law p a e h

    item_law : (x : s.Item) (a : View) → Each P (t.in_item x) → EvenItem columns a.shapes x → n.item_cells known x a.scopes a.group ≡ c.cells bags (r.item columns a.shapes x) a.rows a.others
    item_law (s.item x name) a e h = ap (λ (z : Cell). z ∷ []) (value_law x a e h)
    item_law (s.all_of name) a e h = range_law bags name a

    items_law : (xs : s.Items) (a : View) → Each P (t.in_items xs) → EvenItems columns a.shapes xs → n.items_cells known xs a.scopes a.group ≡ c.cells bags (r.items columns a.shapes xs) a.rows a.others
    items_law s.no_item a e h = refl
    items_law (s.one_item x xs) a e h =
        ap₂ (λ (y z : List Cell). y ++ z) (item_law x a (left (t.in_item x) (t.in_items xs) e) h.0) (items_law xs a (right (t.in_item x) (t.in_items xs) e) h.1)
        ∙ sym (cells_append bags a.rows a.others (r.item columns a.shapes x) (r.items columns a.shapes xs))

    list_law : (list : s.SelectList) (ranges : Shape) (frame : Frame) (row : List Cell) (f : FrameIs ranges frame row) (shapes : List Shape) (scopes : Scopes) (rows : List (List Cell)) (fits : Fits shapes scopes rows)
        → (group : Group Frame) (others : Group (List Cell)) → GroupIs ranges group others → Each P (t.in_list list) → EvenList columns (ranges ∷ shapes) list
        → n.list_cells known list frame scopes group ≡ c.cells bags (r.list columns (ranges ∷ shapes) list) (row ∷ rows) others
    list_law s.star ranges frame row f shapes scopes rows fits group others is e h = star_law bags ranges frame row f rows others
    list_law (s.items xs) ranges frame row f shapes scopes rows fits group others is e h = items_law xs (within ranges frame row f shapes scopes rows fits group others is) e h

    tables_law : (x : s.TableRefs) (shapes : List Shape) (scopes : Scopes) (rows : List (List Cell)) → Fits shapes scopes rows → Each P (t.in_tables x) → EvenTables columns shapes x
        → Related (FrameIs (shape (bare columns) x shapes)) (n.frames known x scopes) (c.frames bags (r.froms columns shapes x) rows)
    tables_law s.no_table shapes scopes rows f e h = related_unit (FrameIs []) [] [] no_range
    tables_law (s.one_table x xs) shapes scopes rows f e h =
        related_product (FrameIs (table_shape (bare columns) x shapes)) (FrameIs (shape (bare columns) xs shapes)) (FrameIs (table_shape (bare columns) x shapes ++ shape (bare columns) xs shapes))
        (beside (table_shape (bare columns) x shapes) (shape (bare columns) xs shapes))
        (n.table_rows known x scopes) (c.from_rows bags (r.table columns shapes x) rows) (n.frames known xs scopes) (c.frames bags (r.froms columns shapes xs) rows)
        (table_law x shapes scopes rows f (left (t.in_table x) (t.in_tables xs) e) h.0)
        (tables_law xs shapes scopes rows f (right (t.in_table x) (t.in_tables xs) e) h.1)

    table_law : (x : s.TableRef) (shapes : List Shape) (scopes : Scopes) (rows : List (List Cell)) → Fits shapes scopes rows → Each P (t.in_table x) → EvenTable columns shapes x
        → Related (FrameIs (table_shape (bare columns) x shapes)) (n.table_rows known x scopes) (c.from_rows bags (r.table columns shapes x) rows)
    table_law (s.join x inner y p) shapes scopes rows f e h =
        let d : Shape = table_shape (bare columns) x shapes in
        let g : Shape = table_shape (bare columns) y shapes in
        let e1 : Each P (t.in_table y ++ t.in_cond p) = right (t.in_table x) (t.in_table y ++ t.in_cond p) e in
        related_kept (FrameIs (d ++ g)) (λ frame. n.truth known p (frame ∷ scopes) no_group) (λ row. c.truth bags (r.test columns ((d ++ g) ∷ shapes) p) (row ∷ rows) no_group)
        (λ frame row is. truth_law p (within (d ++ g) frame row is shapes scopes rows f no_group no_group tt) (right (t.in_table y) (t.in_cond p) e1) h.2)
        (product (n.table_rows known x scopes) (n.table_rows known y scopes)) (product (c.from_rows bags (r.table columns shapes x) rows) (c.from_rows bags (r.table columns shapes y) rows))
        (related_product (FrameIs d) (FrameIs g) (FrameIs (d ++ g)) (beside d g)
        (n.table_rows known x scopes) (c.from_rows bags (r.table columns shapes x) rows) (n.table_rows known y scopes) (c.from_rows bags (r.table columns shapes y) rows)
        (table_law x shapes scopes rows f (left (t.in_table x) (t.in_table y ++ t.in_cond p) e) h.0)
        (table_law y shapes scopes rows f (left (t.in_table y) (t.in_cond p) e1) h.1))
    table_law (s.left_join x outer y p) shapes scopes rows f e h =
        let d : Shape = table_shape (bare columns) x shapes in
        let g : Shape = table_shape (bare columns) y shapes in
        let e1 : Each P (t.in_table y ++ t.in_cond p) = right (t.in_table x) (t.in_table y ++ t.in_cond p) e in
        let e2 : Each P (t.in_table y) = left (t.in_table y) (t.in_cond p) e1 in
        related_left_join (FrameIs d) (FrameIs g) (FrameIs (d ++ g)) (beside d g)
        (λ frame. n.truth known p (frame ∷ scopes) no_group) (λ row. c.truth bags (r.test columns ((d ++ g) ∷ shapes) p) (row ∷ rows) no_group)
        (λ frame row is. truth_law p (within (d ++ g) frame row is shapes scopes rows f no_group no_group tt) (right (t.in_table y) (t.in_cond p) e1) h.2)
        (filled Null (table_shape known y (shapes_of scopes))) (replicate (width g) Null)
        (subst (λ (z : Shape). FrameIs g (filled Null z) (replicate (width g) Null)) (sym (ap (table_shape known y) f.shape ∙ table_bare known columns y shapes (agree (t.in_table y) e2))) (in_all Null g))
        (n.table_rows known x scopes) (c.from_rows bags (r.table columns shapes x) rows) (n.table_rows known y scopes) (c.from_rows bags (r.table columns shapes y) rows)
        (table_law x shapes scopes rows f (left (t.in_table x) (t.in_table y ++ t.in_cond p) e) h.0)
        (table_law y shapes scopes rows f e2 h.1)
    table_law (s.cross_join x y) shapes scopes rows f e h =
        let d : Shape = table_shape (bare columns) x shapes in
        let g : Shape = table_shape (bare columns) y shapes in
        related_product (FrameIs d) (FrameIs g) (FrameIs (d ++ g)) (beside d g)
        (n.table_rows known x scopes) (c.from_rows bags (r.table columns shapes x) rows) (n.table_rows known y scopes) (c.from_rows bags (r.table columns shapes y) rows)
        (table_law x shapes scopes rows f (left (t.in_table x) (t.in_table y) e) h.0)
        (table_law y shapes scopes rows f (right (t.in_table x) (t.in_table y) e) h.1)
    table_law (s.named name alias) shapes scopes rows f e h =
        subst (λ (ys : List (Row (List Cell))). Related (FrameIs (table_shape (bare columns) (s.named name alias) shapes)) (n.table_rows known (s.named name alias) scopes) ys) (sym e.0.held)
        (named_related (k.range_name name alias) (k.column_list alias) (known name) e.0.wide (columns name) e.0.named)
    table_law (s.derived q alias) shapes scopes rows f e h =
        let cs : List (Option (List ℕ)) = names (bare columns) q shapes in
        subst (λ (z : List (Option (List ℕ))). Related (FrameIs ((alias.name, renamed alias.columns cs) ∷ [])) (n.ranged alias.name (Option.Some (n.relation (renamed alias.columns z) (n.rows known q scopes)))) (c.rows bags (r.query columns shapes q) rows))
        (sym (names_law q shapes scopes rows f e))
        (ranged_related alias.name (renamed alias.columns cs) (length cs) (sym (renamed_length alias.columns cs)) (n.rows known q scopes) (c.rows bags (r.query columns shapes q) rows) (query_law q shapes scopes rows f e h))
    table_law (s.joined x) shapes scopes rows f e h = table_law x shapes scopes rows f e h

    pub query_law : (q : s.Query) (shapes : List Shape) (scopes : Scopes) (rows : List (List Cell)) → Fits shapes scopes rows → Each P (t.in_query q) → EvenQuery columns shapes q
        → Related (Same (length (names (bare columns) q shapes))) (n.rows known q scopes) (c.rows bags (r.query columns shapes q) rows)
    query_law (s.enclosed q) shapes scopes rows f e h = query_law q shapes scopes rows f e h
    query_law (s.combine x op all y) shapes scopes rows f e h =
        combined_related (names known x (shapes_of scopes)) (length (names (bare columns) x shapes)) (ap length (names_law x shapes scopes rows f (left (t.in_query x) (t.in_query y) e)))
        (n.rows known x scopes) (n.rows known y scopes) (c.rows bags (r.query columns shapes x) rows) (c.rows bags (r.query columns shapes y) rows)
        (query_law x shapes scopes rows f (left (t.in_query x) (t.in_query y) e) h.0)
        (subst (λ (m : ℕ). Related (Same m) (n.rows known y scopes) (c.rows bags (r.query columns shapes y) rows)) (sym h.2) (query_law y shapes scopes rows f (right (t.in_query x) (t.in_query y) e) h.1))
        op all
    query_law (s.intersect x all y) shapes scopes rows f e h =
        intersected_related (names known x (shapes_of scopes)) (length (names (bare columns) x shapes)) (ap length (names_law x shapes scopes rows f (left (t.in_query x) (t.in_query y) e)))
        (n.rows known x scopes) (n.rows known y scopes) (c.rows bags (r.query columns shapes x) rows) (c.rows bags (r.query columns shapes y) rows)
        (query_law x shapes scopes rows f (left (t.in_query x) (t.in_query y) e) h.0)
        (subst (λ (m : ℕ). Related (Same m) (n.rows known y scopes) (c.rows bags (r.query columns shapes y) rows)) (sym h.2) (query_law y shapes scopes rows f (right (t.in_query x) (t.in_query y) e) h.1))
        all
    query_law (s.block each list from by group having) shapes scopes rows f e h =
        let ranges : Shape = shape (bare columns) from shapes in
        let m : ℕ = length (list_names list ranges shapes) in
        let e0 : Each P (t.in_list list) = left (t.in_list list) (t.in_tables from ++ (t.in_filter by ++ t.in_filter having)) e in
        let e1 : Each P (t.in_tables from ++ (t.in_filter by ++ t.in_filter having)) = right (t.in_list list) (t.in_tables from ++ (t.in_filter by ++ t.in_filter having)) e in
        let e2 : Each P (t.in_tables from) = left (t.in_tables from) (t.in_filter by ++ t.in_filter having) e1 in
        let e3 : Each P (t.in_filter by ++ t.in_filter having) = right (t.in_tables from) (t.in_filter by ++ t.in_filter having) e1 in
        let e4 : Each P (t.in_filter by) = left (t.in_filter by) (t.in_filter having) e3 in
        let e5 : Each P (t.in_filter having) = right (t.in_filter by) (t.in_filter having) e3 in
        let xs : List (Row Frame) = n.frames known from scopes in
        let ys : List (Row (List Cell)) = c.frames bags (r.froms columns shapes from) rows in
        let from_is : Related (FrameIs ranges) xs ys = tables_law from shapes scopes rows f e2 h.0 in
        let plain : Related (Same m) (selected (λ frame. n.filtered known by (frame ∷ scopes) no_group) (λ frame. n.list_cells known list frame scopes no_group) xs)
        (selected (λ row. c.truth bags (r.filter columns (ranges ∷ shapes) by) (row ∷ rows) no_group) (λ row. c.cells bags (r.list columns (ranges ∷ shapes) list) (row ∷ rows) no_group) ys) =
        related_selected (FrameIs ranges) (Same m)
        (λ frame. n.filtered known by (frame ∷ scopes) no_group) (λ row. c.truth bags (r.filter columns (ranges ∷ shapes) by) (row ∷ rows) no_group)
        (λ frame. n.list_cells known list frame scopes no_group) (λ row. c.cells bags (r.list columns (ranges ∷ shapes) list) (row ∷ rows) no_group)
        (λ frame row is. filter_law by (within ranges frame row is shapes scopes rows f no_group no_group tt) e4 h.2)
        (λ frame row is. (list_law list ranges frame row is shapes scopes rows f no_group no_group tt e0 h.1, list_width known list ranges frame row is shapes scopes rows f no_group))
        xs ys from_is in
        let kept_is : Related (FrameIs ranges) (kept (λ frame. n.filtered known by (frame ∷ scopes) no_group) xs) (kept (λ row. c.truth bags (r.filter columns (ranges ∷ shapes) by) (row ∷ rows) no_group) ys) =
        related_kept (FrameIs ranges) (λ frame. n.filtered known by (frame ∷ scopes) no_group) (λ row. c.truth bags (r.filter columns (ranges ∷ shapes) by) (row ∷ rows) no_group)
        (λ frame row is. filter_law by (within ranges frame row is shapes scopes rows f no_group no_group tt) e4 h.2) xs ys from_is in
        let groups_are : Related (OneIs ranges) (g.groups group (shape known from (shapes_of scopes)) (kept (λ frame. n.filtered known by (frame ∷ scopes) no_group) xs))
        (c.groups (grouping_places group ranges) (width ranges) (kept (λ row. c.truth bags (r.filter columns (ranges ∷ shapes) by) (row ∷ rows) no_group) ys)) =
        subst (λ (z : Shape). Related (OneIs ranges) (g.groups group z (kept (λ frame. n.filtered known by (frame ∷ scopes) no_group) xs))
        (c.groups (grouping_places group ranges) (width ranges) (kept (λ row. c.truth bags (r.filter columns (ranges ∷ shapes) by) (row ∷ rows) no_group) ys)))
        (sym (ap (shape known from) f.shape ∙ shape_bare known columns from shapes (agree (t.in_tables from) e2)))
        (groups_related group ranges (kept (λ frame. n.filtered known by (frame ∷ scopes) no_group) xs) (kept (λ row. c.truth bags (r.filter columns (ranges ∷ shapes) by) (row ∷ rows) no_group) ys) kept_is) in
        let grouped : Related (Same m) (selected (λ one. n.filtered known having (one.key ∷ scopes) one.group) (λ one. n.list_cells known list one.key scopes one.group)
        (g.groups group (shape known from (shapes_of scopes)) (kept (λ frame. n.filtered known by (frame ∷ scopes) no_group) xs)))
        (selected (λ one. c.truth bags (r.filter columns (ranges ∷ shapes) having) (one.key ∷ rows) one.group) (λ one. c.cells bags (r.list columns (ranges ∷ shapes) list) (one.key ∷ rows) one.group)
        (c.groups (grouping_places group ranges) (width ranges) (kept (λ row. c.truth bags (r.filter columns (ranges ∷ shapes) by) (row ∷ rows) no_group) ys))) =
        related_selected (OneIs ranges) (Same m)
        (λ one. n.filtered known having (one.key ∷ scopes) one.group) (λ one. c.truth bags (r.filter columns (ranges ∷ shapes) having) (one.key ∷ rows) one.group)
        (λ one. n.list_cells known list one.key scopes one.group) (λ one. c.cells bags (r.list columns (ranges ∷ shapes) list) (one.key ∷ rows) one.group)
        (λ one other is. filter_law having (within ranges one.key other.key is.key shapes scopes rows f one.group other.group is.group) e5 h.3)
        (λ one other is. (list_law list ranges one.key other.key is.key shapes scopes rows f one.group other.group is.group e0 h.1, list_width known list ranges one.key other.key is.key shapes scopes rows f one.group))
        (g.groups group (shape known from (shapes_of scopes)) (kept (λ frame. n.filtered known by (frame ∷ scopes) no_group) xs))
        (c.groups (grouping_places group ranges) (width ranges) (kept (λ row. c.truth bags (r.filter columns (ranges ∷ shapes) by) (row ∷ rows) no_group) ys))
        groups_are in
        by_case (is_grouped list group having) (is_distinct each) m _ _ _ _ rows (distinct_related m (is_distinct each) _ _ grouped) (distinct_related m (is_distinct each) _ _ plain)

  pub rows_law : (q : s.Query) (shapes : List Shape) (scopes : Scopes) (rows : List (List Cell)) → Fits shapes scopes rows → Each P (t.in_query q) → EvenQuery columns shapes q
      → n.rows known q scopes ≡ c.rows bags (r.query columns shapes q) rows
  rows_law q shapes scopes rows f e h = equal q shapes scopes rows (query_law q shapes scopes rows f e h)

-- in scopes that fit, over tables and views whose rows are as wide as their columns
pub same_meaning : (known : Known) → AllWide known → (q : s.Query) (scopes : Scopes) → AreWideFrames scopes → EvenQuery (columns_in known) (shapes_of scopes) q
    → n.rows known q scopes ≡ c.rows (bags_of known) (r.query (columns_in known) (shapes_of scopes) q) (flat scopes)
same_meaning known wide q scopes frames even =
    rows_law known (columns_in known) (bags_of known) q (shapes_of scopes) scopes (flat scopes) (record { shape = refl; cells = refl; wide = frames })
    (each_all (IsKnown known (columns_in known) (bags_of known)) (λ name. record { named = refl; held = refl; wide = wide name }) (t.in_query q)) even

pub same_width : (known : Known) → AllWide known → (q : s.Query) (scopes : Scopes) → AreWideFrames scopes → EvenQuery (columns_in known) (shapes_of scopes) q
    → All (λ row. length row.cells ≡ length (names known q (shapes_of scopes))) (n.rows known q scopes)
same_width known wide q scopes frames even =
    let each : Each (IsKnown known (columns_in known) (bags_of known)) (t.in_query q) = each_all (IsKnown known (columns_in known) (bags_of known)) (λ name. record { named = refl; held = refl; wide = wide name }) (t.in_query q) in
    all_wide (length (names (bare (columns_in known)) q (shapes_of scopes))) (names known q (shapes_of scopes))
    (ap length (names_bare known (columns_in known) q (shapes_of scopes) (each_all (Agrees known (columns_in known)) (λ name. refl) (t.in_query q))))
    (n.rows known q scopes) (c.rows (bags_of known) (r.query (columns_in known) (shapes_of scopes) q) (flat scopes))
    (query_law known (columns_in known) (bags_of known) q (shapes_of scopes) scopes (flat scopes) (record { shape = refl; cells = refl; wide = frames }) each even)
