-- No subquery and no aggregate stands in an aggregate's argument, nor in the ON of a LEFT JOIN.
use Rattle.std.proofs.Common.{◌≡◌, ◌&&◌, Bool, true, false, List, [], ◌++◌, ◌⊎◌, ℕ, Option, Some, None, refl, inl, inr, arith}
use Rattle.std.proofs.lemmas.Bool.{and_parts}
use Rattle.sql_ast.specs.declared.word.AdditiveOp.{AdditiveOp}
use Rattle.sql_ast.specs.declared.word.MultiplicativeOp.{MultiplicativeOp}
use Rattle.sql_ast.specs.declared.word.Sign.{Sign}
use Rattle.sql_ast.specs.declared.word.Sign.TheVariants as sign
use Rattle.sql_ast.specs.Grammatical.{arms_without_sub, choices_without_sub, cond_without_sub, expr_without_sub, exprs_without_sub, otherwise_without_sub, res_without_sub}
use Rattle.sql_ast.specs.Syntax as s
use Rattle.sql_meaning.specs.ResolvedTrees.{Value, Addends, Multipliers, Test, Tests}
use Rattle.sql_meaning.specs.ResolvedTrees as q
use Rattle.sql_meaning.specs.Scopes.{Shape}
use Rattle.sql_value.specs.declared.order_key.SqlType.{SqlType}
use Rattle.sql_names.specs.Places.{place_of}
use Rattle.sql_names.specs.Resolved.{Columns, both, column_at, either, more_addends, more_multipliers, more_tests, perhaps_not, plus, signed, times}
use Rattle.sql_names.specs.Resolved as resolved
use Rattle.sql_faults.proofs.Orders.{both_none}
use Rattle.sql_faults.specs.Columns.{columns, type_of}
use Rattle.sql_faults.specs.Faults.{arms_fault, choices_fault, compared_fault, cond_fault, else_fault, expr_fault, exprs_fault, res_fault, scalar_fault}
use Rattle.sql_faults.specs.Rules.{aggregate_misplaced, not_one, pair_differs, sub_misplaced}
use Rattle.sql_faults.specs.Scopes.{Heads, Scopes, first_type}
use Rattle.sql_faults.specs.declared.column.TypedColumn.{TypedColumn}
use Rattle.qgm_translation.specs.Leaves.{addend_leaves, arm_leaves, choice_leaves, leaves, list_leaves, multiplier_leaves, test_leaves, tests_leaves}
use Rattle.qgm_translation.specs.Maps.{Frame}
use Rattle.qgm_translation_laws.proofs.Tests.{none, none_both}

-- ---- chains

module _ (fr : Frame) where
  more_addends_plain : (xs : Addends) (op : AdditiveOp) (y : Value) → addend_leaves fr xs ≡ [] → leaves fr y ≡ [] → addend_leaves fr (more_addends xs op y) ≡ []
  more_addends_plain q.no_addend op y h k = none (leaves fr y) [] k refl
  more_addends_plain (q.one_addend o x xs) op y h k =
      none (leaves fr x) (addend_leaves fr (more_addends xs op y)) (none_both (leaves fr x) (addend_leaves fr xs) h).0 (more_addends_plain xs op y (none_both (leaves fr x) (addend_leaves fr xs) h).1 k)

  sum_plain : (x : Value) (op : AdditiveOp) (y : Value) → leaves fr x ≡ [] → leaves fr y ≡ [] → leaves fr (q.sum x (q.one_addend op y q.no_addend)) ≡ []
  sum_plain x op y h k = none (leaves fr x) (leaves fr y ++ []) h (none (leaves fr y) [] k refl)

  plus_plain : (x : Value) (op : AdditiveOp) (y : Value) → leaves fr x ≡ [] → leaves fr y ≡ [] → leaves fr (plus x op y) ≡ []
  plus_plain (q.sum x xs) op y h k =
      none (leaves fr x) (addend_leaves fr (more_addends xs op y)) (none_both (leaves fr x) (addend_leaves fr xs) h).0 (more_addends_plain xs op y (none_both (leaves fr x) (addend_leaves fr xs) h).1 k)
  plus_plain (q.number n) op y h k = sum_plain (q.number n) op y h k
  plus_plain (q.text x) op y h k = sum_plain (q.text x) op y h k
  plus_plain (q.null t) op y h k = sum_plain (q.null t) op y h k
  plus_plain (q.column scope place) op y h k = sum_plain (q.column scope place) op y h k
  plus_plain (q.product x xs) op y h k = sum_plain (q.product x xs) op y h k
  plus_plain (q.negative x) op y h k = sum_plain (q.negative x) op y h k
  plus_plain (q.searched xs last) op y h k = sum_plain (q.searched xs last) op y h k
  plus_plain (q.simple x xs last) op y h k = sum_plain (q.simple x xs last) op y h k
  plus_plain (q.coalesce x xs) op y h k = sum_plain (q.coalesce x xs) op y h k
  plus_plain (q.null_if x z) op y h k = sum_plain (q.null_if x z) op y h k
  plus_plain (q.scalar body) op y h k = sum_plain (q.scalar body) op y h k
  plus_plain q.count_all op y h k = sum_plain q.count_all op y h k
  plus_plain (q.aggregate f distinct x) op y h k = sum_plain (q.aggregate f distinct x) op y h k

  more_multipliers_plain : (xs : Multipliers) (op : MultiplicativeOp) (y : Value) → multiplier_leaves fr xs ≡ [] → leaves fr y ≡ [] → multiplier_leaves fr (more_multipliers xs op y) ≡ []
  more_multipliers_plain q.no_multiplier op y h k = none (leaves fr y) [] k refl
  more_multipliers_plain (q.one_multiplier o x xs) op y h k =
      none (leaves fr x) (multiplier_leaves fr (more_multipliers xs op y)) (none_both (leaves fr x) (multiplier_leaves fr xs) h).0 (more_multipliers_plain xs op y (none_both (leaves fr x) (multiplier_leaves fr xs) h).1 k)

  product_plain : (x : Value) (op : MultiplicativeOp) (y : Value) → leaves fr x ≡ [] → leaves fr y ≡ [] → leaves fr (q.product x (q.one_multiplier op y q.no_multiplier)) ≡ []
  product_plain x op y h k = none (leaves fr x) (leaves fr y ++ []) h (none (leaves fr y) [] k refl)

  times_plain : (x : Value) (op : MultiplicativeOp) (y : Value) → leaves fr x ≡ [] → leaves fr y ≡ [] → leaves fr (times x op y) ≡ []
  times_plain (q.product x xs) op y h k =
      none (leaves fr x) (multiplier_leaves fr (more_multipliers xs op y)) (none_both (leaves fr x) (multiplier_leaves fr xs) h).0 (more_multipliers_plain xs op y (none_both (leaves fr x) (multiplier_leaves fr xs) h).1 k)
  times_plain (q.number n) op y h k = product_plain (q.number n) op y h k
  times_plain (q.text x) op y h k = product_plain (q.text x) op y h k
  times_plain (q.null t) op y h k = product_plain (q.null t) op y h k
  times_plain (q.column scope place) op y h k = product_plain (q.column scope place) op y h k
  times_plain (q.sum x xs) op y h k = product_plain (q.sum x xs) op y h k
  times_plain (q.negative x) op y h k = product_plain (q.negative x) op y h k
  times_plain (q.searched xs last) op y h k = product_plain (q.searched xs last) op y h k
  times_plain (q.simple x xs last) op y h k = product_plain (q.simple x xs last) op y h k
  times_plain (q.coalesce x xs) op y h k = product_plain (q.coalesce x xs) op y h k
  times_plain (q.null_if x z) op y h k = product_plain (q.null_if x z) op y h k
  times_plain (q.scalar body) op y h k = product_plain (q.scalar body) op y h k
  times_plain q.count_all op y h k = product_plain q.count_all op y h k
  times_plain (q.aggregate f distinct x) op y h k = product_plain (q.aggregate f distinct x) op y h k

  more_tests_plain : (ps : Tests) (p : Test) → tests_leaves fr ps ≡ [] → test_leaves fr p ≡ [] → tests_leaves fr (more_tests ps p) ≡ []
  more_tests_plain q.no_test p h k = none (test_leaves fr p) [] k refl
  more_tests_plain (q.one_test r rs) p h k =
      none (test_leaves fr r) (tests_leaves fr (more_tests rs p)) (none_both (test_leaves fr r) (tests_leaves fr rs) h).0 (more_tests_plain rs p (none_both (test_leaves fr r) (tests_leaves fr rs) h).1 k)

  two_plain : (r p : Test) → test_leaves fr r ≡ [] → test_leaves fr p ≡ [] → tests_leaves fr (q.one_test r (q.one_test p q.no_test)) ≡ []
  two_plain r p h k = none (test_leaves fr r) (test_leaves fr p ++ []) h (none (test_leaves fr p) [] k refl)

  both_plain : (r p : Test) → test_leaves fr r ≡ [] → test_leaves fr p ≡ [] → test_leaves fr (both r p) ≡ []
  both_plain (q.all ps) p h k = more_tests_plain ps p h k
  both_plain (q.any ps) p h k = two_plain (q.any ps) p h k
  both_plain (q.negated r) p h k = two_plain (q.negated r) p h k
  both_plain (q.compare x op y) p h k = two_plain (q.compare x op y) p h k
  both_plain (q.quantified x op each body) p h k = two_plain (q.quantified x op each body) p h k
  both_plain (q.between x y z) p h k = two_plain (q.between x y z) p h k
  both_plain (q.among x xs) p h k = two_plain (q.among x xs) p h k
  both_plain (q.among_rows x body) p h k = two_plain (q.among_rows x body) p h k
  both_plain (q.like x y) p h k = two_plain (q.like x y) p h k
  both_plain (q.is_null x) p h k = two_plain (q.is_null x) p h k
  both_plain (q.exists body) p h k = two_plain (q.exists body) p h k

  either_plain : (r p : Test) → test_leaves fr r ≡ [] → test_leaves fr p ≡ [] → test_leaves fr (either r p) ≡ []
  either_plain (q.any ps) p h k = more_tests_plain ps p h k
  either_plain (q.all ps) p h k = two_plain (q.all ps) p h k
  either_plain (q.negated r) p h k = two_plain (q.negated r) p h k
  either_plain (q.compare x op y) p h k = two_plain (q.compare x op y) p h k
  either_plain (q.quantified x op each body) p h k = two_plain (q.quantified x op each body) p h k
  either_plain (q.between x y z) p h k = two_plain (q.between x y z) p h k
  either_plain (q.among x xs) p h k = two_plain (q.among x xs) p h k
  either_plain (q.among_rows x body) p h k = two_plain (q.among_rows x body) p h k
  either_plain (q.like x y) p h k = two_plain (q.like x y) p h k
  either_plain (q.is_null x) p h k = two_plain (q.is_null x) p h k
  either_plain (q.exists body) p h k = two_plain (q.exists body) p h k

  signed_plain : (p : Sign) (x : Value) → leaves fr x ≡ [] → leaves fr (signed p x) ≡ []
  signed_plain sign.Plus x h = h
  signed_plain sign.Minus x h = h

  not_plain : (negative : Bool) (p : Test) → test_leaves fr p ≡ [] → test_leaves fr (perhaps_not negative p) ≡ []
  not_plain true p h = h
  not_plain false p h = h

-- ---- places in which no leaf stands

-- what a rule is about
abbrev pub domain_of : {A B : Type 0} → (A → B) → Type 0
domain_of {A} rule = A

-- where an expression stands: in a list, in a filter, or in an argument
abbrev pub Site : Type 0
Site = domain_of aggregate_misplaced

-- a subquery may not stand at a place, or none is there
abbrev pub Subless : Site → Bool → Type 0
Subless place b = (sub_misplaced place ≡ 13) ⊎ (b ≡ true)

split : (place : Site) (a b : Bool) → Subless place (a && b) → Subless place a × Subless place b
split place a b (inl e) = (inl e, inl e)
split place a b (inr h) = (inr (and_parts a b h).0, inr (and_parts a b h).1)

no_fault : (n : ℕ) → n ≡ 13 → n ≡ 0 → ⊥
no_fault n e h = omega (arith, e, h)

no_sub : (place : Site) → Subless place false → sub_misplaced place ≡ 0 → ⊥
no_sub place (inl e) h = no_fault (sub_misplaced place) e h
no_sub place (inr k) h = cc

compared_place : (place : Site) (t : Option SqlType) (cs : List TypedColumn) → compared_fault place t cs ≡ 0 → sub_misplaced place ≡ 0
compared_place place t cs h = (both_none (not_one cs) (sub_misplaced place) (both_none (pair_differs t (first_type cs)) (scalar_fault place cs) h).1).1

-- whatever scopes the names are resolved in
module _ (heads : Heads) (known : Columns) (fr : Frame) (place : Site) (scopes : Scopes) (any : List Shape) (barred : aggregate_misplaced place ≡ 13) where
  abbrev value : s.Expr → Value
  value x = resolved.value known any x

  mutual
    plain_expr : (x : s.Expr) → Subless place (expr_without_sub x) → expr_fault heads place x scopes ≡ 0 → leaves fr (value x) ≡ []
    plain_expr (s.add x op y) w h =
        plus_plain fr (value x) op (value y) (plain_expr x (split place (expr_without_sub x) (expr_without_sub y) w).0 (both_none _ _ (both_none _ _ h).0).0)
        (plain_expr y (split place (expr_without_sub x) (expr_without_sub y) w).1 (both_none _ _ (both_none _ _ h).0).1)
    plain_expr (s.multiply x op y) w h =
        times_plain fr (value x) op (value y) (plain_expr x (split place (expr_without_sub x) (expr_without_sub y) w).0 (both_none _ _ (both_none _ _ h).0).0)
        (plain_expr y (split place (expr_without_sub x) (expr_without_sub y) w).1 (both_none _ _ (both_none _ _ h).0).1)
    plain_expr (s.signed p x) w h = signed_plain fr p (value x) (plain_expr x w (both_none _ _ h).0)
    plain_expr (s.number n) w h = refl
    plain_expr (s.string x) w h = refl
    plain_expr (s.col c) w h = elim (place_of c.range c.name any) as (λ o. leaves fr (column_at o) ≡ []) [ None ↦ refl | Some p ↦ refl ]
    plain_expr (s.paren x) w h = plain_expr x w h
    plain_expr (s.scalar body) w h = absurd (no_sub place w (both_none _ _ (both_none _ _ h).1).1)
    plain_expr s.count_all w h = absurd (no_fault (aggregate_misplaced place) barred h)
    plain_expr (s.aggregate f each x) w h = absurd (no_fault (aggregate_misplaced place) barred (both_none _ _ (both_none _ _ h).1).1)
    plain_expr (s.searched xs o) w h =
        none (arm_leaves fr (resolved.arms known any xs)) (leaves fr (resolved.otherwise known any o)) (plain_arms xs (split place (arms_without_sub xs) (otherwise_without_sub o) w).0 (both_none _ _ (both_none _ _ h).0).0)
        (plain_otherwise o (split place (arms_without_sub xs) (otherwise_without_sub o) w).1 (both_none _ _ (both_none _ _ h).0).1)
    plain_expr (s.simple x xs o) w h =
        none (leaves fr (value x)) (choice_leaves fr (resolved.choices known any xs) ++ leaves fr (resolved.otherwise known any o))
        (plain_expr x (split place (expr_without_sub x) (choices_without_sub xs && otherwise_without_sub o) w).0 (both_none _ _ (both_none _ _ (both_none _ _ h).0).0).0)
        (none (choice_leaves fr (resolved.choices known any xs)) (leaves fr (resolved.otherwise known any o))
        (plain_choices xs (type_of heads x scopes) (split place (choices_without_sub xs) (otherwise_without_sub o) (split place (expr_without_sub x) (choices_without_sub xs && otherwise_without_sub o) w).1).0 (both_none _ _ (both_none _ _ (both_none _ _ h).0).0).1)
        (plain_otherwise o (split place (choices_without_sub xs) (otherwise_without_sub o) (split place (expr_without_sub x) (choices_without_sub xs && otherwise_without_sub o) w).1).1 (both_none _ _ (both_none _ _ h).0).1))
    plain_expr (s.coalesce x xs) w h =
        none (leaves fr (value x)) (list_leaves fr (resolved.values known any xs)) (plain_expr x (split place (expr_without_sub x) (exprs_without_sub xs) w).0 (both_none _ _ (both_none _ _ h).0).0)
        (plain_exprs xs (split place (expr_without_sub x) (exprs_without_sub xs) w).1 (both_none _ _ (both_none _ _ h).0).1)
    plain_expr (s.null_if x y) w h =
        none (leaves fr (value x)) (leaves fr (value y)) (plain_expr x (split place (expr_without_sub x) (expr_without_sub y) w).0 (both_none _ _ (both_none _ _ h).0).0)
        (plain_expr y (split place (expr_without_sub x) (expr_without_sub y) w).1 (both_none _ _ (both_none _ _ h).0).1)
    plain_expr (s.cast_null d) w h = refl

    plain_exprs : (xs : s.Exprs) → Subless place (exprs_without_sub xs) → exprs_fault heads place xs scopes ≡ 0 → list_leaves fr (resolved.values known any xs) ≡ []
    plain_exprs s.no_expr w h = refl
    plain_exprs (s.one_expr x xs) w h =
        none (leaves fr (value x)) (list_leaves fr (resolved.values known any xs)) (plain_expr x (split place (expr_without_sub x) (exprs_without_sub xs) w).0 (both_none _ _ h).0)
        (plain_exprs xs (split place (expr_without_sub x) (exprs_without_sub xs) w).1 (both_none _ _ h).1)

    plain_res : (r : s.Res) → Subless place (res_without_sub r) → res_fault heads place r scopes ≡ 0 → leaves fr (resolved.result known any r) ≡ []
    plain_res (s.given x) w h = plain_expr x w h
    plain_res s.null w h = refl

    plain_arms : (xs : s.Arms) → Subless place (arms_without_sub xs) → arms_fault heads place xs scopes ≡ 0 → arm_leaves fr (resolved.arms known any xs) ≡ []
    plain_arms s.no_arm w h = refl
    plain_arms (s.one_arm p r xs) w h =
        none (test_leaves fr (resolved.test known any p)) (leaves fr (resolved.result known any r) ++ arm_leaves fr (resolved.arms known any xs))
        (plain_cond p (split place (cond_without_sub p) (res_without_sub r && arms_without_sub xs) w).0 (both_none _ _ (both_none _ _ h).0).0)
        (none (leaves fr (resolved.result known any r)) (arm_leaves fr (resolved.arms known any xs))
        (plain_res r (split place (res_without_sub r) (arms_without_sub xs) (split place (cond_without_sub p) (res_without_sub r && arms_without_sub xs) w).1).0 (both_none _ _ (both_none _ _ h).0).1)
        (plain_arms xs (split place (res_without_sub r) (arms_without_sub xs) (split place (cond_without_sub p) (res_without_sub r && arms_without_sub xs) w).1).1 (both_none _ _ h).1))

    plain_choices : (xs : s.Choices) (t : Option SqlType) → Subless place (choices_without_sub xs) → choices_fault heads place t xs scopes ≡ 0 → choice_leaves fr (resolved.choices known any xs) ≡ []
    plain_choices s.no_choice t w h = refl
    plain_choices (s.one_choice x r xs) t w h =
        none (leaves fr (value x)) (leaves fr (resolved.result known any r) ++ choice_leaves fr (resolved.choices known any xs))
        (plain_expr x (split place (expr_without_sub x) (res_without_sub r && choices_without_sub xs) w).0 (both_none _ _ (both_none _ _ (both_none _ _ h).0).0).0)
        (none (leaves fr (resolved.result known any r)) (choice_leaves fr (resolved.choices known any xs))
        (plain_res r (split place (res_without_sub r) (choices_without_sub xs) (split place (expr_without_sub x) (res_without_sub r && choices_without_sub xs) w).1).0 (both_none _ _ (both_none _ _ h).0).1)
        (plain_choices xs t (split place (res_without_sub r) (choices_without_sub xs) (split place (expr_without_sub x) (res_without_sub r && choices_without_sub xs) w).1).1 (both_none _ _ h).1))

    plain_otherwise : (o : s.Otherwise) → Subless place (otherwise_without_sub o) → else_fault heads place o scopes ≡ 0 → leaves fr (resolved.otherwise known any o) ≡ []
    plain_otherwise s.no_else w h = refl
    plain_otherwise (s.or_else r) w h = plain_res r w h

    plain_cond : (p : s.Cond) → Subless place (cond_without_sub p) → cond_fault heads place p scopes ≡ 0 → test_leaves fr (resolved.test known any p) ≡ []
    plain_cond (s.either p r) w h =
        either_plain fr (resolved.test known any p) (resolved.test known any r) (plain_cond p (split place (cond_without_sub p) (cond_without_sub r) w).0 (both_none _ _ h).0)
        (plain_cond r (split place (cond_without_sub p) (cond_without_sub r) w).1 (both_none _ _ h).1)
    plain_cond (s.both p r) w h =
        both_plain fr (resolved.test known any p) (resolved.test known any r) (plain_cond p (split place (cond_without_sub p) (cond_without_sub r) w).0 (both_none _ _ h).0)
        (plain_cond r (split place (cond_without_sub p) (cond_without_sub r) w).1 (both_none _ _ h).1)
    plain_cond (s.negated p) w h = plain_cond p w h
    plain_cond (s.bracket p) w h = plain_cond p w h
    plain_cond (s.compare x op y) w h =
        none (leaves fr (value x)) (leaves fr (value y)) (plain_expr x (split place (expr_without_sub x) (expr_without_sub y) w).0 (both_none _ _ (both_none _ _ h).0).0)
        (plain_expr y (split place (expr_without_sub x) (expr_without_sub y) w).1 (both_none _ _ (both_none _ _ h).0).1)
    plain_cond (s.quantified x op each body) w h = absurd (no_sub place w (compared_place place (type_of heads x scopes) (columns heads body scopes) (both_none _ _ h).1))
    plain_cond (s.between x negative y z) w h =
        not_plain fr negative (q.between (value x) (value y) (value z))
        (none (leaves fr (value x)) (leaves fr (value y) ++ leaves fr (value z)) (plain_expr x (split place (expr_without_sub x) (expr_without_sub y && expr_without_sub z) w).0 (both_none _ _ (both_none _ _ h).0).0)
        (none (leaves fr (value y)) (leaves fr (value z))
        (plain_expr y (split place (expr_without_sub y) (expr_without_sub z) (split place (expr_without_sub x) (expr_without_sub y && expr_without_sub z) w).1).0 (both_none _ _ (both_none _ _ (both_none _ _ h).0).1).0)
        (plain_expr z (split place (expr_without_sub y) (expr_without_sub z) (split place (expr_without_sub x) (expr_without_sub y && expr_without_sub z) w).1).1 (both_none _ _ (both_none _ _ (both_none _ _ h).0).1).1)))
    plain_cond (s.in_query x negative body) w h = absurd (no_sub place w (compared_place place (type_of heads x scopes) (columns heads body scopes) (both_none _ _ h).1))
    plain_cond (s.in_list x negative xs) w h =
        not_plain fr negative (q.among (value x) (resolved.values known any xs))
        (none (leaves fr (value x)) (list_leaves fr (resolved.values known any xs)) (plain_expr x (split place (expr_without_sub x) (exprs_without_sub xs) w).0 (both_none _ _ (both_none _ _ h).0).0)
        (plain_exprs xs (split place (expr_without_sub x) (exprs_without_sub xs) w).1 (both_none _ _ (both_none _ _ h).0).1))
    plain_cond (s.like x negative y) w h =
        not_plain fr negative (q.like (value x) (value y))
        (none (leaves fr (value x)) (leaves fr (value y)) (plain_expr x (split place (expr_without_sub x) (expr_without_sub y) w).0 (both_none _ _ (both_none _ _ h).0).0)
        (plain_expr y (split place (expr_without_sub x) (expr_without_sub y) w).1 (both_none _ _ (both_none _ _ h).0).1))
    plain_cond (s.is_null x negative) w h = not_plain fr negative (q.is_null (value x)) (plain_expr x w h)
    plain_cond (s.exists body) w h = absurd (no_sub place w (both_none _ _ h).1)

-- an aggregate's argument
pub plain_argument : (heads : Heads) (known : Columns) (fr : Frame) (place : Site) (scopes : Scopes) (any : List Shape) (x : s.Expr)
    → expr_fault heads place x scopes ≡ 0 → aggregate_misplaced place ≡ 13 → sub_misplaced place ≡ 13 → leaves fr (resolved.value known any x) ≡ []
plain_argument heads known fr place scopes any x h barred e = plain_expr heads known fr place scopes any barred x (inl e) h

-- an ON without subqueries
pub plain_on : (heads : Heads) (known : Columns) (fr : Frame) (place : Site) (scopes : Scopes) (any : List Shape) (p : s.Cond)
    → cond_fault heads place p scopes ≡ 0 → aggregate_misplaced place ≡ 13 → cond_without_sub p ≡ true → test_leaves fr (resolved.test known any p) ≡ []
plain_on heads known fr place scopes any p h barred w = plain_cond heads known fr place scopes any barred p (inr w) h
