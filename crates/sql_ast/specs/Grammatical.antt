-- Which trees are the grammar's: each operand is of its line, each list has the items that its line asks for, and four conditions hold that no line shows.
use Rattle.std.specs.Prelude.{◌≡◌, Bool, true, false, not, ◌&&◌, List, [], ◌∷◌}
use Rattle.sql_text.specs.declared.token.Token.{Token}
use Rattle.sql_ast.specs.declared.schema.Element.{Element}
use Rattle.sql_ast.specs.declared.schema.Element.TheVariants as el
use Rattle.sql_ast.specs.Spelling as sp
use Rattle.sql_ast.specs.Syntax as s

-- ---- the line of the grammar that a tree is of

-- a term: no sum
abbrev pub is_term : s.Expr → Bool
is_term (s.add a op b) = false
is_term _ = true

-- a factor: no sum and no product
abbrev pub is_factor : s.Expr → Bool
is_factor (s.add a op b) = false
is_factor (s.multiply a op b) = false
is_factor _ = true

-- a prim: a factor without a sign
abbrev pub is_prim : s.Expr → Bool
is_prim (s.add a op b) = false
is_prim (s.multiply a op b) = false
is_prim (s.signed p a) = false
is_prim _ = true

-- a lone sub
abbrev pub is_sub : s.Expr → Bool
is_sub (s.scalar q) = true
is_sub _ = false

-- a conj: no OR
abbrev pub is_conj : s.Cond → Bool
is_conj (s.either a b) = false
is_conj _ = true

-- a neg: no OR and no AND
abbrev pub is_neg : s.Cond → Bool
is_neg (s.either a b) = false
is_neg (s.both a b) = false
is_neg _ = true

-- pred | "(" cond ")": what may follow NOT
abbrev pub is_test : s.Cond → Bool
is_test (s.either a b) = false
is_test (s.both a b) = false
is_test (s.negated a) = false
is_test _ = true

-- a tprim: no join
abbrev pub is_tprim : s.TableRef → Bool
is_tprim (s.join a inner b c) = false
is_tprim (s.left_join a outer b c) = false
is_tprim (s.cross_join a b) = false
is_tprim _ = true

-- a qterm: no UNION and no EXCEPT
abbrev pub is_qterm : s.Query → Bool
is_qterm (s.combine a op all b) = false
is_qterm _ = true

-- a qprim: a qterm without INTERSECT
abbrev pub is_qprim : s.Query → Bool
is_qprim (s.combine a op all b) = false
is_qprim (s.intersect a all b) = false
is_qprim _ = true

-- ---- lists that have an item

abbrev pub some_expr : s.Exprs → Bool
some_expr s.no_expr = false
some_expr _ = true

abbrev pub some_arm : s.Arms → Bool
some_arm s.no_arm = false
some_arm _ = true

abbrev pub some_choice : s.Choices → Bool
some_choice s.no_choice = false
some_choice _ = true

abbrev pub some_item : s.Items → Bool
some_item s.no_item = false
some_item _ = true

abbrev pub some_table : s.TableRefs → Bool
some_table s.no_table = false
some_table _ = true

abbrev pub some_of : {A : Type 0} → List A → Bool
some_of [] = false
some_of _ = true

-- one lone sub
abbrev pub lone_sub : s.Exprs → Bool
lone_sub (s.one_expr a s.no_expr) = is_sub a
lone_sub _ = false

-- ---- no sub in it, at any depth

abbrev mutual
  pub expr_without_sub : s.Expr → Bool
  expr_without_sub (s.add a op b) = expr_without_sub a && expr_without_sub b
  expr_without_sub (s.multiply a op b) = expr_without_sub a && expr_without_sub b
  expr_without_sub (s.signed p a) = expr_without_sub a
  expr_without_sub (s.number n) = true
  expr_without_sub (s.string x) = true
  expr_without_sub (s.col c) = true
  expr_without_sub (s.paren a) = expr_without_sub a
  expr_without_sub (s.scalar q) = false
  expr_without_sub s.count_all = true
  expr_without_sub (s.aggregate f each a) = expr_without_sub a
  expr_without_sub (s.searched xs o) = arms_without_sub xs && otherwise_without_sub o
  expr_without_sub (s.simple a xs o) = expr_without_sub a && (choices_without_sub xs && otherwise_without_sub o)
  expr_without_sub (s.coalesce a xs) = expr_without_sub a && exprs_without_sub xs
  expr_without_sub (s.null_if a b) = expr_without_sub a && expr_without_sub b
  expr_without_sub (s.cast_null d) = true

  pub exprs_without_sub : s.Exprs → Bool
  exprs_without_sub s.no_expr = true
  exprs_without_sub (s.one_expr a xs) = expr_without_sub a && exprs_without_sub xs

  pub res_without_sub : s.Res → Bool
  res_without_sub (s.given a) = expr_without_sub a
  res_without_sub s.null = true

  pub arms_without_sub : s.Arms → Bool
  arms_without_sub s.no_arm = true
  arms_without_sub (s.one_arm c r xs) = cond_without_sub c && (res_without_sub r && arms_without_sub xs)

  pub choices_without_sub : s.Choices → Bool
  choices_without_sub s.no_choice = true
  choices_without_sub (s.one_choice a r xs) = expr_without_sub a && (res_without_sub r && choices_without_sub xs)

  pub otherwise_without_sub : s.Otherwise → Bool
  otherwise_without_sub s.no_else = true
  otherwise_without_sub (s.or_else r) = res_without_sub r

  pub cond_without_sub : s.Cond → Bool
  cond_without_sub (s.either a b) = cond_without_sub a && cond_without_sub b
  cond_without_sub (s.both a b) = cond_without_sub a && cond_without_sub b
  cond_without_sub (s.negated a) = cond_without_sub a
  cond_without_sub (s.bracket a) = cond_without_sub a
  cond_without_sub (s.compare a op b) = expr_without_sub a && expr_without_sub b
  cond_without_sub (s.quantified a op each q) = false
  cond_without_sub (s.between a negative b c) = expr_without_sub a && (expr_without_sub b && expr_without_sub c)
  cond_without_sub (s.in_query a negative q) = false
  cond_without_sub (s.in_list a negative xs) = expr_without_sub a && exprs_without_sub xs
  cond_without_sub (s.like a negative b) = expr_without_sub a && expr_without_sub b
  cond_without_sub (s.is_null a negative) = expr_without_sub a
  cond_without_sub (s.exists q) = false

-- ---- the trees that are the grammar's

abbrev mutual
  pub is_expr : s.Expr → Bool
  is_expr (s.add a op b) = is_expr a && (is_term b && is_expr b)
  is_expr (s.multiply a op b) = (is_term a && is_expr a) && (is_factor b && is_expr b)
  is_expr (s.signed p a) = is_prim a && is_expr a
  is_expr (s.number n) = true
  is_expr (s.string x) = true
  is_expr (s.col c) = true
  -- the expr in brackets isn't a lone sub
  is_expr (s.paren a) = not (is_sub a) && is_expr a
  is_expr (s.scalar q) = is_query q
  is_expr s.count_all = true
  is_expr (s.aggregate f each a) = is_expr a
  is_expr (s.searched xs o) = some_arm xs && (are_arms xs && is_otherwise o)
  is_expr (s.simple a xs o) = is_expr a && (some_choice xs && (are_choices xs && is_otherwise o))
  is_expr (s.coalesce a xs) = is_expr a && (some_expr xs && are_exprs xs)
  is_expr (s.null_if a b) = is_expr a && is_expr b
  is_expr (s.cast_null d) = true

  pub are_exprs : s.Exprs → Bool
  are_exprs s.no_expr = true
  are_exprs (s.one_expr a xs) = is_expr a && are_exprs xs

  pub is_res : s.Res → Bool
  is_res (s.given a) = is_expr a
  is_res s.null = true

  pub are_arms : s.Arms → Bool
  are_arms s.no_arm = true
  are_arms (s.one_arm c r xs) = is_cond c && (is_res r && are_arms xs)

  pub are_choices : s.Choices → Bool
  are_choices s.no_choice = true
  are_choices (s.one_choice a r xs) = is_expr a && (is_res r && are_choices xs)

  pub is_otherwise : s.Otherwise → Bool
  is_otherwise s.no_else = true
  is_otherwise (s.or_else r) = is_res r

  pub is_cond : s.Cond → Bool
  is_cond (s.either a b) = is_cond a && (is_conj b && is_cond b)
  is_cond (s.both a b) = (is_conj a && is_cond a) && (is_neg b && is_cond b)
  is_cond (s.negated a) = is_test a && is_cond a
  is_cond (s.bracket a) = is_cond a
  is_cond (s.compare a op b) = is_expr a && is_expr b
  is_cond (s.quantified a op each q) = is_expr a && is_query q
  is_cond (s.between a negative b c) = is_expr a && (is_expr b && is_expr c)
  is_cond (s.in_query a negative q) = is_expr a && is_query q
  -- an IN list isn't one lone sub
  is_cond (s.in_list a negative xs) = is_expr a && ((some_expr xs && not (lone_sub xs)) && are_exprs xs)
  is_cond (s.like a negative b) = is_expr a && is_expr b
  is_cond (s.is_null a negative) = is_expr a
  is_cond (s.exists q) = is_query q

  pub is_filter : s.Filter → Bool
  is_filter s.no_filter = true
  is_filter (s.only_where c) = is_cond c

  pub is_item : s.Item → Bool
  is_item (s.item a n) = is_expr a
  is_item (s.all_of n) = true

  pub are_items : s.Items → Bool
  are_items s.no_item = true
  are_items (s.one_item x xs) = is_item x && are_items xs

  pub is_list : s.SelectList → Bool
  is_list s.star = true
  is_list (s.items xs) = some_item xs && are_items xs

  pub is_table : s.TableRef → Bool
  is_table (s.join a inner b c) = is_table a && ((is_tprim b && is_table b) && is_cond c)
  -- the ON of a LEFT JOIN holds no sub
  is_table (s.left_join a outer b c) = is_table a && ((is_tprim b && is_table b) && (is_cond c && cond_without_sub c))
  is_table (s.cross_join a b) = is_table a && (is_tprim b && is_table b)
  is_table (s.named n c) = true
  is_table (s.derived q c) = is_query q
  is_table (s.joined a) = not (is_tprim a) && is_table a

  pub are_tables : s.TableRefs → Bool
  are_tables s.no_table = true
  are_tables (s.one_table x xs) = is_table x && are_tables xs

  pub is_query : s.Query → Bool
  is_query (s.combine a op all b) = is_query a && (is_qterm b && is_query b)
  is_query (s.intersect a all b) = (is_qterm a && is_query a) && (is_qprim b && is_query b)
  is_query (s.block each list from by group having) = is_list list && ((some_table from && are_tables from) && (is_filter by && is_filter having))
  is_query (s.enclosed q) = is_query q

-- a key has a name at least; an element list may hold keys alone
abbrev pub is_element : Element → Bool
is_element (el.Column c) = true
is_element (el.PrimaryKey ns) = some_of ns
is_element (el.Unique ns) = some_of ns

abbrev pub are_elements : List Element → Bool
are_elements [] = true
are_elements (e ∷ es) = is_element e && are_elements es

abbrev pub is_statement : s.Statement → Bool
is_statement (s.table d) = some_of d.elements && are_elements d.elements
is_statement (s.view v) = is_query v.query

abbrev pub are_statements : List s.Statement → Bool
are_statements [] = true
are_statements (x ∷ xs) = is_statement x && are_statements xs

-- ---- texts and their trees

-- The tree is the grammar's, and the tokens are its own.
pub record SpellsQuery (x : s.QueryText) (tokens : List Token) : Type 0 where
  pub grammatical : is_query x.query ≡ true
  pub spelled : tokens ≡ sp.query_text x

pub record SpellsSchema (x : s.Schema) (tokens : List Token) : Type 0 where
  pub grammatical : are_statements x.statements ≡ true
  pub spelled : tokens ≡ sp.schema x
