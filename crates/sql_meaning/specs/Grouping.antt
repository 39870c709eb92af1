-- Which blocks are grouped: those with GROUP BY, HAVING or an aggregate of their own in the list (SQL-92, 7.9).
use Rattle.std.specs.Prelude.{Bool, true, false, ◌||◌, List, [], ◌∷◌}
use Rattle.sql_ast.specs.declared.name.Column.{Column}
use Rattle.sql_ast.specs.Syntax as s

abbrev mutual
  -- an aggregate of the block itself; one in a subquery belongs to the subquery
  pub in_expr : s.Expr → Bool
  in_expr (s.add x op y) = in_expr x || in_expr y
  in_expr (s.multiply x op y) = in_expr x || in_expr y
  in_expr (s.signed p x) = in_expr x
  in_expr (s.number n) = false
  in_expr (s.string x) = false
  in_expr (s.col c) = false
  in_expr (s.paren x) = in_expr x
  in_expr (s.scalar q) = false
  in_expr s.count_all = true
  in_expr (s.aggregate f each x) = true
  in_expr (s.searched xs o) = in_arms xs || in_else o
  in_expr (s.simple x xs o) = in_expr x || (in_choices xs || in_else o)
  in_expr (s.coalesce x xs) = in_expr x || in_exprs xs
  in_expr (s.null_if x y) = in_expr x || in_expr y
  in_expr (s.cast_null d) = false

  pub in_exprs : s.Exprs → Bool
  in_exprs s.no_expr = false
  in_exprs (s.one_expr x xs) = in_expr x || in_exprs xs

  pub in_res : s.Res → Bool
  in_res (s.given x) = in_expr x
  in_res s.null = false

  pub in_arms : s.Arms → Bool
  in_arms s.no_arm = false
  in_arms (s.one_arm p r xs) = in_cond p || (in_res r || in_arms xs)

  pub in_choices : s.Choices → Bool
  in_choices s.no_choice = false
  in_choices (s.one_choice x r xs) = in_expr x || (in_res r || in_choices xs)

  pub in_else : s.Otherwise → Bool
  in_else s.no_else = false
  in_else (s.or_else r) = in_res r

  pub in_cond : s.Cond → Bool
  in_cond (s.either p q) = in_cond p || in_cond q
  in_cond (s.both p q) = in_cond p || in_cond q
  in_cond (s.negated p) = in_cond p
  in_cond (s.bracket p) = in_cond p
  in_cond (s.compare x op y) = in_expr x || in_expr y
  in_cond (s.quantified x op each q) = in_expr x
  in_cond (s.between x negative y z) = in_expr x || (in_expr y || in_expr z)
  in_cond (s.in_query x negative q) = in_expr x
  in_cond (s.in_list x negative xs) = in_expr x || in_exprs xs
  in_cond (s.like x negative y) = in_expr x || in_expr y
  in_cond (s.is_null x negative) = in_expr x
  in_cond (s.exists q) = false

abbrev pub in_items : s.Items → Bool
in_items s.no_item = false
in_items (s.one_item (s.item x n) xs) = in_expr x || in_items xs
in_items (s.one_item (s.all_of name) xs) = in_items xs

abbrev pub in_list : s.SelectList → Bool
in_list s.star = false
in_list (s.items xs) = in_items xs

-- by its list, its GROUP BY and its HAVING
abbrev pub is_grouped : s.SelectList → List Column → s.Filter → Bool
is_grouped list [] s.no_filter = in_list list
is_grouped list [] (s.only_where p) = true
is_grouped list (c ∷ by) having = true
