-- What holds of each name that a query reads in the text holds of each that its resolved form reads.
use Rattle.std.proofs.Common.{ℕ, zero, suc, Bool, true, false, cond, List, [], ◌∷◌, ◌++◌, Option, Some, None, length}
use Rattle.sql_ast.specs.Syntax as s
use Rattle.sql_ast.specs.declared.word.AdditiveOp.{AdditiveOp}
use Rattle.sql_ast.specs.declared.word.MultiplicativeOp.{MultiplicativeOp}
use Rattle.sql_ast.specs.declared.word.Sign.{Sign}
use Rattle.sql_ast.specs.declared.word.Sign.TheVariants as sign
use Rattle.sql_catalog.specs.TableNames as t
use Rattle.sql_meaning.specs.Even.{innermost}
use Rattle.sql_meaning.specs.Scopes.{Shape}
use Rattle.sql_meaning.specs.ResolvedTrees.{Value, Addends, Multipliers, Values, Arms, Choices, Test, Tests, From, Froms, Query}
use Rattle.sql_meaning.specs.ResolvedTrees as q
use Rattle.sql_names.specs.Places.{Span, place_of, span_of, width}
use Rattle.sql_names.specs.Resolved.{Columns, append, bare, column_at, columns_from, columns_of, either, both, more_addends, more_multipliers, more_tests, perhaps_not, plus, signed, times}
use Rattle.sql_names.specs.Resolved as r
use Rattle.sql_catalog.proofs.EachLaws.{Each, each_left, each_right}
use Rattle.qgm_translation.specs.Views.{EachAddends, EachArms, EachChoices, EachFrom, EachFroms, EachIn, EachMultipliers, EachTest, EachTests, EachValue, EachValues}

module _ (P : List ℕ → Type 0) where
  addends : (xs : Addends) (op : AdditiveOp) (y : Value) → EachAddends P xs → EachValue P y → EachAddends P (more_addends xs op y)
  addends q.no_addend op y h k = (k, tt)
  addends (q.one_addend o x xs) op y h k = (h.0, addends xs op y h.1 k)

  added : (x : Value) (op : AdditiveOp) (y : Value) → EachValue P x → EachValue P y → EachValue P (plus x op y)
  added (q.sum x xs) op y h k = (h.0, addends xs op y h.1 k)
  added (q.number n) op y h k = (h, (k, tt))
  added (q.text x) op y h k = (h, (k, tt))
  added (q.null type) op y h k = (h, (k, tt))
  added (q.column scope place) op y h k = (h, (k, tt))
  added (q.product x xs) op y h k = (h, (k, tt))
  added (q.negative x) op y h k = (h, (k, tt))
  added (q.searched xs last) op y h k = (h, (k, tt))
  added (q.simple x xs last) op y h k = (h, (k, tt))
  added (q.coalesce x xs) op y h k = (h, (k, tt))
  added (q.null_if x z) op y h k = (h, (k, tt))
  added (q.scalar query) op y h k = (h, (k, tt))
  added q.count_all op y h k = (h, (k, tt))
  added (q.aggregate f distinct x) op y h k = (h, (k, tt))

  multipliers : (xs : Multipliers) (op : MultiplicativeOp) (y : Value) → EachMultipliers P xs → EachValue P y → EachMultipliers P (more_multipliers xs op y)
  multipliers q.no_multiplier op y h k = (k, tt)
  multipliers (q.one_multiplier o x xs) op y h k = (h.0, multipliers xs op y h.1 k)

  multiplied : (x : Value) (op : MultiplicativeOp) (y : Value) → EachValue P x → EachValue P y → EachValue P (times x op y)
  multiplied (q.product x xs) op y h k = (h.0, multipliers xs op y h.1 k)
  multiplied (q.number n) op y h k = (h, (k, tt))
  multiplied (q.text x) op y h k = (h, (k, tt))
  multiplied (q.null type) op y h k = (h, (k, tt))
  multiplied (q.column scope place) op y h k = (h, (k, tt))
  multiplied (q.sum x xs) op y h k = (h, (k, tt))
  multiplied (q.negative x) op y h k = (h, (k, tt))
  multiplied (q.searched xs last) op y h k = (h, (k, tt))
  multiplied (q.simple x xs last) op y h k = (h, (k, tt))
  multiplied (q.coalesce x xs) op y h k = (h, (k, tt))
  multiplied (q.null_if x z) op y h k = (h, (k, tt))
  multiplied (q.scalar query) op y h k = (h, (k, tt))
  multiplied q.count_all op y h k = (h, (k, tt))
  multiplied (q.aggregate f distinct x) op y h k = (h, (k, tt))

  tests : (ps : Tests) (p : Test) → EachTests P ps → EachTest P p → EachTests P (more_tests ps p)
  tests q.no_test p h k = (k, tt)
  tests (q.one_test x xs) p h k = (h.0, tests xs p h.1 k)

  and_both : (x : Test) (p : Test) → EachTest P x → EachTest P p → EachTest P (both x p)
  and_both (q.all ps) p h k = tests ps p h k
  and_both (q.any ps) p h k = (h, (k, tt))
  and_both (q.negated x) p h k = (h, (k, tt))
  and_both (q.compare x op y) p h k = (h, (k, tt))
  and_both (q.quantified x op each query) p h k = (h, (k, tt))
  and_both (q.between x y z) p h k = (h, (k, tt))
  and_both (q.among x xs) p h k = (h, (k, tt))
  and_both (q.among_rows x query) p h k = (h, (k, tt))
  and_both (q.like x y) p h k = (h, (k, tt))
  and_both (q.is_null x) p h k = (h, (k, tt))
  and_both (q.exists query) p h k = (h, (k, tt))

  or_either : (x : Test) (p : Test) → EachTest P x → EachTest P p → EachTest P (either x p)
  or_either (q.any ps) p h k = tests ps p h k
  or_either (q.all ps) p h k = (h, (k, tt))
  or_either (q.negated x) p h k = (h, (k, tt))
  or_either (q.compare x op y) p h k = (h, (k, tt))
  or_either (q.quantified x op each query) p h k = (h, (k, tt))
  or_either (q.between x y z) p h k = (h, (k, tt))
  or_either (q.among x xs) p h k = (h, (k, tt))
  or_either (q.among_rows x query) p h k = (h, (k, tt))
  or_either (q.like x y) p h k = (h, (k, tt))
  or_either (q.is_null x) p h k = (h, (k, tt))
  or_either (q.exists query) p h k = (h, (k, tt))

  sign_of : (p : Sign) (x : Value) → EachValue P x → EachValue P (signed p x)
  sign_of sign.Plus x h = h
  sign_of sign.Minus x h = h

  perhaps : (b : Bool) (p : Test) → EachTest P p → EachTest P (perhaps_not b p)
  perhaps true p h = h
  perhaps false p h = h

  from_columns : (scope place n : ℕ) → EachValues P (columns_from scope place n)
  from_columns scope place zero = tt
  from_columns scope place (suc n) = (tt, from_columns scope (suc place) n)

  of_columns : (o : Option Span) → EachValues P (columns_of o)
  of_columns None = tt
  of_columns (Some x) = from_columns x.scope x.first (length x.columns)

  appended : (xs ys : Values) → EachValues P xs → EachValues P ys → EachValues P (append xs ys)
  appended q.no_value ys h k = k
  appended (q.one_value x xs) ys h k = (h.0, appended xs ys h.1 k)

  block_or : (b d : Bool) (list : Values) (from : Froms) (by : Test) (places : Option (List ℕ)) (n : ℕ) (having : Test) → EachFroms P from → EachValues P list → EachTest P by → EachTest P having
      → EachIn P (cond b (q.grouped d list from by places n having) (q.block d list from by))
  block_or true d list from by places n having f l p h = (f, l, p, h)
  block_or false d list from by places n having f l p h = (f, l, p)

  left : (xs ys : List (List ℕ)) → Each P (xs ++ ys) → Each P xs
  left xs ys h = each_left P xs ys h

  right : (xs ys : List (List ℕ)) → Each P (xs ++ ys) → Each P ys
  right xs ys h = each_right P xs ys h

  module _ (columns : Columns) where
    mutual
      each_value : (shapes : List Shape) (x : s.Expr) → Each P (t.in_expr x) → EachValue P (r.value columns shapes x)
      each_value shapes (s.add x op y) h = added (r.value columns shapes x) op (r.value columns shapes y) (each_value shapes x (left (t.in_expr x) (t.in_expr y) h)) (each_value shapes y (right (t.in_expr x) (t.in_expr y) h))
      each_value shapes (s.multiply x op y) h = multiplied (r.value columns shapes x) op (r.value columns shapes y) (each_value shapes x (left (t.in_expr x) (t.in_expr y) h)) (each_value shapes y (right (t.in_expr x) (t.in_expr y) h))
      each_value shapes (s.signed p x) h = sign_of p (r.value columns shapes x) (each_value shapes x h)
      each_value shapes (s.number n) h = tt
      each_value shapes (s.string x) h = tt
      each_value shapes (s.col c) h = elim (place_of c.range c.name shapes) as (λ o. EachValue P (column_at o)) [ None ↦ tt | Some p ↦ tt ]
      each_value shapes (s.paren x) h = each_value shapes x h
      each_value shapes (s.scalar body) h = each_query shapes body h
      each_value shapes s.count_all h = tt
      each_value shapes (s.aggregate f each x) h = each_value (innermost shapes ∷ []) x h
      each_value shapes (s.searched xs o) h = (each_arms shapes xs (left (t.in_arms xs) (t.in_otherwise o) h), each_otherwise shapes o (right (t.in_arms xs) (t.in_otherwise o) h))
      each_value shapes (s.simple x xs o) h =
          let later = right (t.in_expr x) (t.in_choices xs ++ t.in_otherwise o) h in
          (each_value shapes x (left (t.in_expr x) (t.in_choices xs ++ t.in_otherwise o) h), each_choices shapes xs (left (t.in_choices xs) (t.in_otherwise o) later), each_otherwise shapes o (right (t.in_choices xs) (t.in_otherwise o) later))
      each_value shapes (s.coalesce x xs) h = (each_value shapes x (left (t.in_expr x) (t.in_exprs xs) h), each_values shapes xs (right (t.in_expr x) (t.in_exprs xs) h))
      each_value shapes (s.null_if x y) h = (each_value shapes x (left (t.in_expr x) (t.in_expr y) h), each_value shapes y (right (t.in_expr x) (t.in_expr y) h))
      each_value shapes (s.cast_null d) h = tt

      each_values : (shapes : List Shape) (x : s.Exprs) → Each P (t.in_exprs x) → EachValues P (r.values columns shapes x)
      each_values shapes s.no_expr h = tt
      each_values shapes (s.one_expr x xs) h = (each_value shapes x (left (t.in_expr x) (t.in_exprs xs) h), each_values shapes xs (right (t.in_expr x) (t.in_exprs xs) h))

      each_result : (shapes : List Shape) (x : s.Res) → Each P (t.in_res x) → EachValue P (r.result columns shapes x)
      each_result shapes (s.given x) h = each_value shapes x h
      each_result shapes s.null h = tt

      each_arms : (shapes : List Shape) (x : s.Arms) → Each P (t.in_arms x) → EachArms P (r.arms columns shapes x)
      each_arms shapes s.no_arm h = tt
      each_arms shapes (s.one_arm p x xs) h =
          let later = right (t.in_cond p) (t.in_res x ++ t.in_arms xs) h in
          (each_test shapes p (left (t.in_cond p) (t.in_res x ++ t.in_arms xs) h), each_result shapes x (left (t.in_res x) (t.in_arms xs) later), each_arms shapes xs (right (t.in_res x) (t.in_arms xs) later))

      each_choices : (shapes : List Shape) (x : s.Choices) → Each P (t.in_choices x) → EachChoices P (r.choices columns shapes x)
      each_choices shapes s.no_choice h = tt
      each_choices shapes (s.one_choice x y xs) h =
          let later = right (t.in_expr x) (t.in_res y ++ t.in_choices xs) h in
          (each_value shapes x (left (t.in_expr x) (t.in_res y ++ t.in_choices xs) h), each_result shapes y (left (t.in_res y) (t.in_choices xs) later), each_choices shapes xs (right (t.in_res y) (t.in_choices xs) later))

      each_otherwise : (shapes : List Shape) (x : s.Otherwise) → Each P (t.in_otherwise x) → EachValue P (r.otherwise columns shapes x)
      each_otherwise shapes s.no_else h = tt
      each_otherwise shapes (s.or_else x) h = each_result shapes x h

      each_test : (shapes : List Shape) (x : s.Cond) → Each P (t.in_cond x) → EachTest P (r.test columns shapes x)
      each_test shapes (s.either p x) h = or_either (r.test columns shapes p) (r.test columns shapes x) (each_test shapes p (left (t.in_cond p) (t.in_cond x) h)) (each_test shapes x (right (t.in_cond p) (t.in_cond x) h))
      each_test shapes (s.both p x) h = and_both (r.test columns shapes p) (r.test columns shapes x) (each_test shapes p (left (t.in_cond p) (t.in_cond x) h)) (each_test shapes x (right (t.in_cond p) (t.in_cond x) h))
      each_test shapes (s.negated p) h = each_test shapes p h
      each_test shapes (s.bracket p) h = each_test shapes p h
      each_test shapes (s.compare x op y) h = (each_value shapes x (left (t.in_expr x) (t.in_expr y) h), each_value shapes y (right (t.in_expr x) (t.in_expr y) h))
      each_test shapes (s.quantified x op each body) h = (each_value shapes x (left (t.in_expr x) (t.in_query body) h), each_query shapes body (right (t.in_expr x) (t.in_query body) h))
      each_test shapes (s.between x negative y z) h =
          let later = right (t.in_expr x) (t.in_expr y ++ t.in_expr z) h in
          perhaps negative (q.between (r.value columns shapes x) (r.value columns shapes y) (r.value columns shapes z))
          (each_value shapes x (left (t.in_expr x) (t.in_expr y ++ t.in_expr z) h), each_value shapes y (left (t.in_expr y) (t.in_expr z) later), each_value shapes z (right (t.in_expr y) (t.in_expr z) later))
      each_test shapes (s.in_query x negative body) h =
          perhaps negative (q.among_rows (r.value columns shapes x) (r.query columns shapes body)) (each_value shapes x (left (t.in_expr x) (t.in_query body) h), each_query shapes body (right (t.in_expr x) (t.in_query body) h))
      each_test shapes (s.in_list x negative xs) h =
          perhaps negative (q.among (r.value columns shapes x) (r.values columns shapes xs)) (each_value shapes x (left (t.in_expr x) (t.in_exprs xs) h), each_values shapes xs (right (t.in_expr x) (t.in_exprs xs) h))
      each_test shapes (s.like x negative y) h =
          perhaps negative (q.like (r.value columns shapes x) (r.value columns shapes y)) (each_value shapes x (left (t.in_expr x) (t.in_expr y) h), each_value shapes y (right (t.in_expr x) (t.in_expr y) h))
      each_test shapes (s.is_null x negative) h = perhaps negative (q.is_null (r.value columns shapes x)) (each_value shapes x h)
      each_test shapes (s.exists body) h = each_query shapes body h

      each_filter : (shapes : List Shape) (x : s.Filter) → Each P (t.in_filter x) → EachTest P (r.filter columns shapes x)
      each_filter shapes s.no_filter h = tt
      each_filter shapes (s.only_where p) h = each_test shapes p h

      each_item : (shapes : List Shape) (x : s.Item) → Each P (t.in_item x) → EachValues P (r.item columns shapes x)
      each_item shapes (s.item x n) h = (each_value shapes x h, tt)
      each_item shapes (s.all_of name) h = of_columns (span_of name shapes)

      each_items : (shapes : List Shape) (x : s.Items) → Each P (t.in_items x) → EachValues P (r.items columns shapes x)
      each_items shapes s.no_item h = tt
      each_items shapes (s.one_item x xs) h = appended (r.item columns shapes x) (r.items columns shapes xs) (each_item shapes x (left (t.in_item x) (t.in_items xs) h)) (each_items shapes xs (right (t.in_item x) (t.in_items xs) h))

      each_list : (shapes : List Shape) (x : s.SelectList) → Each P (t.in_list x) → EachValues P (r.list columns shapes x)
      each_list shapes s.star h = from_columns 0 0 (width (innermost shapes))
      each_list shapes (s.items xs) h = each_items shapes xs h

      each_froms : (shapes : List Shape) (x : s.TableRefs) → Each P (t.in_tables x) → EachFroms P (r.froms columns shapes x)
      each_froms shapes s.no_table h = tt
      each_froms shapes (s.one_table x xs) h = (each_table shapes x (left (t.in_table x) (t.in_tables xs) h), each_froms shapes xs (right (t.in_table x) (t.in_tables xs) h))

      each_table : (shapes : List Shape) (x : s.TableRef) → Each P (t.in_table x) → EachFrom P (r.table columns shapes x)
      each_table shapes (s.join x inner y p) h =
          let later = right (t.in_table x) (t.in_table y ++ t.in_cond p) h in
          (each_table shapes x (left (t.in_table x) (t.in_table y ++ t.in_cond p) h), each_table shapes y (left (t.in_table y) (t.in_cond p) later), each_test _ p (right (t.in_table y) (t.in_cond p) later))
      each_table shapes (s.left_join x outer y p) h =
          let later = right (t.in_table x) (t.in_table y ++ t.in_cond p) h in
          (each_table shapes x (left (t.in_table x) (t.in_table y ++ t.in_cond p) h), each_table shapes y (left (t.in_table y) (t.in_cond p) later), each_test _ p (right (t.in_table y) (t.in_cond p) later))
      each_table shapes (s.cross_join x y) h = (each_table shapes x (left (t.in_table x) (t.in_table y) h), each_table shapes y (right (t.in_table x) (t.in_table y) h))
      each_table shapes (s.named name c) h = h.0
      each_table shapes (s.derived body c) h = each_query shapes body h
      each_table shapes (s.joined x) h = each_table shapes x h

      pub each_query : (shapes : List Shape) (x : s.Query) → Each P (t.in_query x) → EachIn P (r.query columns shapes x)
      each_query shapes (s.block each xs from by group having) h =
          let later = right (t.in_list xs) (t.in_tables from ++ (t.in_filter by ++ t.in_filter having)) h in
          let last = right (t.in_tables from) (t.in_filter by ++ t.in_filter having) later in
          let list = each_list _ xs (left (t.in_list xs) (t.in_tables from ++ (t.in_filter by ++ t.in_filter having)) h) in
          let froms = each_froms shapes from (left (t.in_tables from) (t.in_filter by ++ t.in_filter having) later) in
          let filter = each_filter _ by (left (t.in_filter by) (t.in_filter having) last) in
          block_or _ _ _ _ _ _ _ _ froms list filter (each_filter _ having (right (t.in_filter by) (t.in_filter having) last))
      each_query shapes (s.enclosed x) h = each_query shapes x h
      each_query shapes (s.combine x op all y) h = (each_query shapes x (left (t.in_query x) (t.in_query y) h), each_query shapes y (right (t.in_query x) (t.in_query y) h))
      each_query shapes (s.intersect x all y) h = (each_query shapes x (left (t.in_query x) (t.in_query y) h), each_query shapes y (right (t.in_query x) (t.in_query y) h))
