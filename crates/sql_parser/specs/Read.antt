-- Reading of expressions, conditions, tables and queries: the tree that tokens spell first, and the tokens after it. One word a line of the grammar. What stands in brackets or in CASE is read by one of four readers `e`, `c`, `q`, `j` of what may stand there: an expression, a condition, a query, or a table with its joins. A chain or a list is read in so many turns at most.
use Rattle.std.specs.Prelude.{ℕ, zero, suc, Bool, true, false, List, ◌∷◌, length, if◌then◌else◌, Option, Some, None}
use Rattle.shared_types.specs.declared.compare.CmpOp.{CmpOp}
use Rattle.sql_text.specs.declared.key.Key.{Key}
use Rattle.sql_text.specs.declared.key.Key.TheVariants as k
use Rattle.sql_text.specs.declared.token.Token.{Token}
use Rattle.sql_text.specs.declared.token.Token.TheVariants as t
use Rattle.sql_ast.specs.declared.word.AdditiveOp.{AdditiveOp}
use Rattle.sql_ast.specs.declared.word.MultiplicativeOp.{MultiplicativeOp}
use Rattle.sql_ast.specs.declared.word.SetFunction.{SetFunction}
use Rattle.sql_ast.specs.declared.word.SetOperator.{SetOperator}
use Rattle.sql_ast.specs.declared.word.SetFunction.TheVariants as of
use Rattle.sql_ast.specs.declared.word.SetQuantifier.{SetQuantifier}
use Rattle.sql_ast.specs.declared.word.Sign.{Sign}
use Rattle.sql_ast.specs.declared.word.Sign.TheVariants as sign
use Rattle.sql_ast.specs.Grammatical.{cond_without_sub, is_tprim}
use Rattle.sql_ast.specs.Syntax as s
use Rattle.sql_parser.specs.declared.word.JoinKind.{JoinKind}
use Rattle.sql_parser.specs.declared.word.JoinKind.TheVariants as join_of
use Rattle.sql_parser.specs.Ahead.{at_query, opens_cond}
use Rattle.sql_parser.specs.Words.{Parsed, Parser, ◌>>=◌, closed, additive_at, multiplicative_at, quantifier_at, set_operator_at, set_quantifier_at, all_at, not_at, join_at, column_after, group_by, alias_at, correlation, optional_correlation, all_of_at, data_type}

-- [ "." name ], after a name: the column that they are
abbrev pub column_expr : List ℕ → Parser s.Expr
column_expr n ts = column_after n ts >>= (λ x. λ us. Some (s.col x, us))

-- ")", after the joins of a table in brackets
abbrev pub close_join : s.TableRef → Parser s.TableRef
close_join x (t.RightParen ∷ ts) = if is_tprim x then None else Some (s.joined x, ts)
close_join x _ = None

-- [ [ AS ] name [ "(" names ")" ] ], after the name of a table
abbrev pub named_table : List ℕ → Parser s.TableRef
named_table n ts = optional_correlation ts >>= (λ x. λ us. Some (s.named n x, us))

-- ")" [ AS ] name [ "(" names ")" ], after a query
abbrev pub name_derived : s.Query → Parser s.TableRef
name_derived x (t.RightParen ∷ ts) = correlation ts >>= (λ c. λ us. Some (s.derived x c, us))
name_derived x _ = None

-- END, after what has been read
abbrev pub ending : {A : Type 0} → A → Parser A
ending x (t.Key k.End ∷ ts) = Some (x, ts)
ending x _ = None

-- END, after a value
abbrev pub end_case : {A B : Type 0} → (A → B) → A → Parser B
end_case f x ts = ending (f x) ts

-- WHEN stands first
abbrev pub starts_when : List Token → Bool
starts_when (t.Key k.When ∷ ts) = true
starts_when _ = false

-- NOT stands first
abbrev pub starts_not : List Token → Bool
starts_not (t.Key k.Not ∷ ts) = true
starts_not _ = false

-- EXISTS stands first
abbrev pub starts_exists : List Token → Bool
starts_exists (t.Key k.Exists ∷ ts) = true
starts_exists _ = false

-- AND stands first
abbrev pub starts_and : List Token → Bool
starts_and (t.Key k.And ∷ ts) = true
starts_and _ = false

-- OR stands first
abbrev pub starts_or : List Token → Bool
starts_or (t.Key k.Or ∷ ts) = true
starts_or _ = false

-- "*" stands first
abbrev pub starts_star : List Token → Bool
starts_star (t.Star ∷ ts) = true
starts_star _ = false

-- "(" "*" stands first
abbrev pub starts_open_star : List Token → Bool
starts_open_star (t.LeftParen ∷ t.Star ∷ ts) = true
starts_open_star _ = false

-- INTERSECT stands first
abbrev pub starts_intersect : List Token → Bool
starts_intersect (t.Key k.Intersect ∷ ts) = true
starts_intersect _ = false

-- a comma stands first
abbrev pub starts_comma : List Token → Bool
starts_comma (t.Comma ∷ ts) = true
starts_comma _ = false

module _ (e : Parser s.Expr) (c : Parser s.Cond) (q : Parser s.Query) (j : Parser s.TableRef) where
  -- ---- lists of expressions

  -- { "," expr }
  abbrev pub more_exprs : ℕ → Parser s.Exprs
  more_exprs zero ts = Some (s.no_expr, ts)
  more_exprs (suc n) (t.Comma ∷ ts) = e ts >>= (λ a. λ us. more_exprs n us >>= (λ xs. λ vs. Some (s.one_expr a xs, vs)))
  more_exprs (suc n) ts = Some (s.no_expr, ts)

  -- expr { "," expr }
  abbrev pub exprs : Parser s.Exprs
  exprs ts = e ts >>= (λ a. λ us. more_exprs (length us) us >>= (λ xs. λ vs. Some (s.one_expr a xs, vs)))

  -- ---- CASE

  -- res = expr | NULL
  abbrev pub res : Parser s.Res
  res (t.Key k.Null ∷ ts) = Some (s.null, ts)
  res ts = e ts >>= (λ a. λ us. Some (s.given a, us))

  -- THEN res
  abbrev pub then_res : {A : Type 0} → A → Parser (A × s.Res)
  then_res a (t.Key k.Then ∷ ts) = res ts >>= (λ r. λ us. Some ((a, r), us))
  then_res a _ = None

  -- cond THEN res, after WHEN
  abbrev pub arm : Parser (s.Cond × s.Res)
  arm ts = c ts >>= then_res

  -- expr THEN res, after WHEN
  abbrev pub choice : Parser (s.Expr × s.Res)
  choice ts = e ts >>= then_res

  -- { WHEN cond THEN res }
  abbrev pub more_arms : ℕ → Parser s.Arms
  more_arms zero ts = Some (s.no_arm, ts)
  more_arms (suc n) (t.Key k.When ∷ ts) = arm ts >>= (λ a. λ us. more_arms n us >>= (λ xs. λ vs. Some (s.one_arm a.0 a.1 xs, vs)))
  more_arms (suc n) ts = Some (s.no_arm, ts)

  -- WHEN cond THEN res { WHEN cond THEN res }
  abbrev pub arms : Parser s.Arms
  arms (t.Key k.When ∷ ts) = arm ts >>= (λ a. λ us. more_arms (length us) us >>= (λ xs. λ vs. Some (s.one_arm a.0 a.1 xs, vs)))
  arms _ = None

  -- { WHEN expr THEN res }
  abbrev pub more_choices : ℕ → Parser s.Choices
  more_choices zero ts = Some (s.no_choice, ts)
  more_choices (suc n) (t.Key k.When ∷ ts) = choice ts >>= (λ a. λ us. more_choices n us >>= (λ xs. λ vs. Some (s.one_choice a.0 a.1 xs, vs)))
  more_choices (suc n) ts = Some (s.no_choice, ts)

  -- WHEN expr THEN res { WHEN expr THEN res }
  abbrev pub choices : Parser s.Choices
  choices (t.Key k.When ∷ ts) = choice ts >>= (λ a. λ us. more_choices (length us) us >>= (λ xs. λ vs. Some (s.one_choice a.0 a.1 xs, vs)))
  choices _ = None

  -- [ ELSE res ]
  abbrev pub otherwise : Parser s.Otherwise
  otherwise (t.Key k.Else ∷ ts) = res ts >>= (λ r. λ us. Some (s.or_else r, us))
  otherwise ts = Some (s.no_else, ts)

  -- { WHEN cond THEN res } [ ELSE res ] END
  abbrev pub searched : Parser s.Expr
  searched ts = arms ts >>= (λ xs. λ us. otherwise us >>= end_case (s.searched xs))

  -- expr { WHEN expr THEN res } [ ELSE res ] END
  abbrev pub simple : Parser s.Expr
  simple ts = e ts >>= (λ a. λ us. choices us >>= (λ xs. λ vs. otherwise vs >>= end_case (s.simple a xs)))

  abbrev pub case : Parser s.Expr
  case ts = if starts_when ts then searched ts else simple ts

  -- ---- expressions

  -- "(" query ")"
  abbrev pub sub : {B : Type 0} → (s.Query → B) → Parser B
  sub f (t.LeftParen ∷ ts) = q ts >>= closed f
  sub f _ = None

  -- "(" [ ALL | DISTINCT ] expr ")"
  abbrev pub aggregate : SetFunction → Parser s.Expr
  aggregate f (t.LeftParen ∷ ts) = e (set_quantifier_at ts).1 >>= closed (s.aggregate f (set_quantifier_at ts).0)
  aggregate f _ = None

  -- "(" "*" ")" | "(" [ ALL | DISTINCT ] expr ")"
  abbrev pub count : Parser s.Expr
  count (t.LeftParen ∷ t.Star ∷ ts) = closed (λ x. x) s.count_all ts
  count ts = aggregate of.Count ts

  -- { "," expr } ")", with one expression at least
  abbrev pub coalesce_rest : s.Expr → Parser s.Expr
  coalesce_rest a (t.Comma ∷ ts) = exprs ts >>= closed (s.coalesce a)
  coalesce_rest a _ = None

  -- "(" expr "," expr { "," expr } ")"
  abbrev pub coalesce : Parser s.Expr
  coalesce (t.LeftParen ∷ ts) = e ts >>= coalesce_rest
  coalesce _ = None

  -- "," expr ")"
  abbrev pub null_if_rest : s.Expr → Parser s.Expr
  null_if_rest a (t.Comma ∷ ts) = e ts >>= closed (s.null_if a)
  null_if_rest a _ = None

  -- "(" expr "," expr ")"
  abbrev pub null_if : Parser s.Expr
  null_if (t.LeftParen ∷ ts) = e ts >>= null_if_rest
  null_if _ = None

  -- AS type ")"
  abbrev pub cast_type : Parser s.Expr
  cast_type (t.Key k.As ∷ ts) = data_type ts >>= closed s.cast_null
  cast_type _ = None

  -- "(" NULL AS type ")"
  abbrev pub cast : Parser s.Expr
  cast (t.LeftParen ∷ t.Key k.Null ∷ ts) = cast_type ts
  cast _ = None

  -- a prim that begins with a key word
  abbrev pub word_prim : Key → Parser s.Expr
  word_prim k.Case ts = case ts
  word_prim k.Count ts = count ts
  word_prim k.Sum ts = aggregate of.Sum ts
  word_prim k.Avg ts = aggregate of.Avg ts
  word_prim k.Min ts = aggregate of.Min ts
  word_prim k.Max ts = aggregate of.Max ts
  word_prim k.Coalesce ts = coalesce ts
  word_prim k.NullIf ts = null_if ts
  word_prim k.Cast ts = cast ts
  word_prim _ ts = None

  -- query ")" | expr ")", after "("
  abbrev pub paren : Parser s.Expr
  paren ts = if at_query ts then (q ts >>= closed s.scalar) else (e ts >>= closed s.paren)

  abbrev pub prim : Parser s.Expr
  prim (t.Number n ∷ ts) = Some (s.number n, ts)
  prim (t.Str x ∷ ts) = Some (s.string x, ts)
  prim (t.Name n ∷ ts) = column_expr n ts
  prim (t.LeftParen ∷ ts) = paren ts
  prim (t.Key word ∷ ts) = word_prim word ts
  prim _ = None

  -- prim, after its sign
  abbrev pub signed : Sign → Parser s.Expr
  signed x ts = prim ts >>= (λ a. λ us. Some (s.signed x a, us))

  -- factor = [ "+" | "-" ] prim
  abbrev pub factor : Parser s.Expr
  factor (t.Plus ∷ ts) = signed sign.Plus ts
  factor (t.Minus ∷ ts) = signed sign.Minus ts
  factor ts = prim ts

  -- factor, after its sign and what stands before that
  abbrev pub multiplied : s.Expr → MultiplicativeOp → Parser s.Expr
  multiplied left op ts = factor ts >>= (λ right. λ us. Some (s.multiply left op right, us))

  -- { ( "*" | "/" ) factor }
  abbrev pub more_factors : ℕ → s.Expr → Parser s.Expr
  more_factors zero left ts = Some (left, ts)
  more_factors (suc n) left ts = elim (multiplicative_at ts) as (λ _. Parsed s.Expr) [
    | None ↦ Some (left, ts)
    | Some r ↦ factor r.1 >>= (λ right. more_factors n (s.multiply left r.0 right))
  ]

  -- term = factor { ( "*" | "/" ) factor }
  abbrev pub term : Parser s.Expr
  term ts = factor ts >>= more_factors (length ts)

  -- term, after its sign and what stands before that
  abbrev pub added : s.Expr → AdditiveOp → Parser s.Expr
  added left op ts = term ts >>= (λ right. λ us. Some (s.add left op right, us))

  -- { ( "+" | "-" | "||" ) term }
  abbrev pub more_terms : ℕ → s.Expr → Parser s.Expr
  more_terms zero left ts = Some (left, ts)
  more_terms (suc n) left ts = elim (additive_at ts) as (λ _. Parsed s.Expr) [
    | None ↦ Some (left, ts)
    | Some r ↦ term r.1 >>= (λ right. more_terms n (s.add left r.0 right))
  ]

  -- expr = term { ( "+" | "-" | "||" ) term }
  abbrev pub sum : Parser s.Expr
  sum ts = term ts >>= more_terms (length ts)

  -- ---- conditions

  -- AND expr
  abbrev pub upper : s.Expr → Bool → s.Expr → Parser s.Cond
  upper x negative a (t.Key k.And ∷ ts) = sum ts >>= (λ b. λ us. Some (s.between x negative a b, us))
  upper x negative a _ = None

  -- expr AND expr
  abbrev pub between : s.Expr → Bool → Parser s.Cond
  between x negative ts = sum ts >>= upper x negative

  -- sub | "(" expr { "," expr } ")"
  abbrev pub in_after : s.Expr → Bool → Parser s.Cond
  in_after x negative (t.LeftParen ∷ ts) = if at_query ts then (q ts >>= closed (s.in_query x negative)) else (exprs ts >>= closed (s.in_list x negative))
  in_after x negative _ = None

  -- BETWEEN expr AND expr | IN ( sub | "(" expr { "," expr } ")" ) | LIKE expr
  abbrev pub negatable : s.Expr → Bool → Parser s.Cond
  negatable x negative (t.Key k.Between ∷ ts) = between x negative ts
  negatable x negative (t.Key k.In ∷ ts) = in_after x negative ts
  negatable x negative (t.Key k.Like ∷ ts) = sum ts >>= (λ a. λ us. Some (s.like x negative a, us))
  negatable x negative _ = None

  -- NULL
  abbrev pub null_word : s.Expr → Bool → Parser s.Cond
  null_word x negative (t.Key k.Null ∷ ts) = Some (s.is_null x negative, ts)
  null_word x negative _ = None

  -- expr | ( ANY | SOME | ALL ) sub, after a comparison sign
  abbrev pub compared : s.Expr → CmpOp → Parser s.Cond
  compared x op ts = elim (quantifier_at ts) as (λ _. Parsed s.Cond) [
    | None ↦ sum ts >>= (λ a. λ us. Some (s.compare x op a, us))
    | Some r ↦ sub (s.quantified x op r.0) r.1
  ]

  -- what follows the first operand of a predicate
  abbrev pub pred_after : s.Expr → Parser s.Cond
  pred_after x (t.Compare op ∷ ts) = compared x op ts
  pred_after x (t.Key k.Is ∷ ts) = null_word x (not_at ts).0 (not_at ts).1
  pred_after x ts = negatable x (not_at ts).0 (not_at ts).1

  abbrev pub pred : Parser s.Cond
  pred (t.Key k.Exists ∷ ts) = sub s.exists ts
  pred ts = sum ts >>= pred_after

  -- "(" cond ")"
  abbrev pub bracket : Parser s.Cond
  bracket (t.LeftParen ∷ ts) = c ts >>= closed s.bracket
  bracket _ = None

  -- pred | "(" cond ")"
  abbrev pub test : Parser s.Cond
  test ts = if opens_cond ts then bracket ts else pred ts

  -- neg = [ NOT ] ( pred | "(" cond ")" )
  abbrev pub neg : Parser s.Cond
  neg (t.Key k.Not ∷ ts) = test ts >>= (λ x. λ us. Some (s.negated x, us))
  neg ts = test ts

  -- neg, after AND and what stands before that
  abbrev pub joined_and : s.Cond → Parser s.Cond
  joined_and left ts = neg ts >>= (λ right. λ us. Some (s.both left right, us))

  -- { AND neg }
  abbrev pub more_negs : ℕ → s.Cond → Parser s.Cond
  more_negs zero left ts = Some (left, ts)
  more_negs (suc n) left (t.Key k.And ∷ ts) = neg ts >>= (λ right. more_negs n (s.both left right))
  more_negs (suc n) left ts = Some (left, ts)

  -- conj = neg { AND neg }
  abbrev pub conj : Parser s.Cond
  conj ts = neg ts >>= more_negs (length ts)

  -- conj, after OR and what stands before that
  abbrev pub joined_or : s.Cond → Parser s.Cond
  joined_or left ts = conj ts >>= (λ right. λ us. Some (s.either left right, us))

  -- { OR conj }
  abbrev pub more_conjs : ℕ → s.Cond → Parser s.Cond
  more_conjs zero left ts = Some (left, ts)
  more_conjs (suc n) left (t.Key k.Or ∷ ts) = conj ts >>= (λ right. more_conjs n (s.either left right))
  more_conjs (suc n) left ts = Some (left, ts)

  -- cond = conj { OR conj }
  abbrev pub disj : Parser s.Cond
  disj ts = conj ts >>= more_conjs (length ts)

  -- [ WHERE cond ]
  abbrev pub where_filter : Parser s.Filter
  where_filter (t.Key k.Where ∷ ts) = disj ts >>= (λ x. λ us. Some (s.only_where x, us))
  where_filter ts = Some (s.no_filter, ts)

  -- [ HAVING cond ]
  abbrev pub having_filter : Parser s.Filter
  having_filter (t.Key k.Having ∷ ts) = disj ts >>= (λ x. λ us. Some (s.only_where x, us))
  having_filter ts = Some (s.no_filter, ts)

  -- ---- tables

  abbrev pub tprim : Parser s.TableRef
  tprim (t.Name n ∷ ts) = named_table n ts
  tprim (t.LeftParen ∷ ts) = if at_query ts then (q ts >>= name_derived) else (j ts >>= close_join)
  tprim _ = None

  -- ON cond
  abbrev pub on : Parser s.Cond
  on (t.Key k.On ∷ ts) = disj ts
  on _ = None

  -- where the condition holds no sub
  abbrev pub left_joined : s.TableRef → Bool → s.TableRef → s.Cond → Parser s.TableRef
  left_joined left outer right x ts = if cond_without_sub x then Some (s.left_join left outer right x, ts) else None

  -- tprim, and its ON where the join has one
  abbrev pub join_after : s.TableRef → JoinKind → Parser s.TableRef
  join_after left (join_of.Inner inner) ts = tprim ts >>= (λ right. λ us. on us >>= (λ x. λ vs. Some (s.join left inner right x, vs)))
  join_after left (join_of.Left outer) ts = tprim ts >>= (λ right. λ us. on us >>= left_joined left outer right)
  join_after left join_of.Cross ts = tprim ts >>= (λ right. λ us. Some (s.cross_join left right, us))

  -- { join }
  abbrev pub more_joins : ℕ → s.TableRef → Parser s.TableRef
  more_joins zero left ts = Some (left, ts)
  more_joins (suc n) left ts = elim (join_at ts) as (λ _. Parsed s.TableRef) [
    | None ↦ Some (left, ts)
    | Some r ↦ join_after left r.0 r.1 >>= more_joins n
  ]

  -- tref = tprim { join }
  abbrev pub tref : Parser s.TableRef
  tref ts = tprim ts >>= more_joins (length ts)

  -- { "," tref }
  abbrev pub more_tables : ℕ → Parser s.TableRefs
  more_tables zero ts = Some (s.no_table, ts)
  more_tables (suc n) (t.Comma ∷ ts) = tref ts >>= (λ x. λ us. more_tables n us >>= (λ xs. λ vs. Some (s.one_table x xs, vs)))
  more_tables (suc n) ts = Some (s.no_table, ts)

  -- tref { "," tref }
  abbrev pub tables : Parser s.TableRefs
  tables ts = tref ts >>= (λ x. λ us. more_tables (length us) us >>= (λ xs. λ vs. Some (s.one_table x xs, vs)))

  -- FROM tref { "," tref }
  abbrev pub from : Parser s.TableRefs
  from (t.Key k.From ∷ ts) = tables ts
  from _ = None

  -- ---- queries

  -- item = expr [ [ AS ] name ] | name "." "*"
  abbrev pub item : Parser s.Item
  item ts = elim (all_of_at ts) as (λ _. Parsed s.Item) [
    | None ↦ sum ts >>= (λ a. λ us. Some (s.item a (alias_at us).0, (alias_at us).1))
    | Some r ↦ Some (s.all_of r.0, r.1)
  ]

  -- { "," item }
  abbrev pub more_items : ℕ → Parser s.Items
  more_items zero ts = Some (s.no_item, ts)
  more_items (suc n) (t.Comma ∷ ts) = item ts >>= (λ x. λ us. more_items n us >>= (λ xs. λ vs. Some (s.one_item x xs, vs)))
  more_items (suc n) ts = Some (s.no_item, ts)

  -- item { "," item }
  abbrev pub items : Parser s.Items
  items ts = item ts >>= (λ x. λ us. more_items (length us) us >>= (λ xs. λ vs. Some (s.one_item x xs, vs)))

  -- item { "," item }, as a list
  abbrev pub listed : Parser s.SelectList
  listed ts = items ts >>= (λ xs. λ us. Some (s.items xs, us))

  -- list = "*" | item { "," item }
  abbrev pub select_list : Parser s.SelectList
  select_list (t.Star ∷ ts) = Some (s.star, ts)
  select_list ts = listed ts

  -- [ WHERE cond ] [ GROUP BY col { "," col } ] [ HAVING cond ]
  abbrev pub block_end : Option SetQuantifier → s.SelectList → s.TableRefs → Parser s.Query
  block_end each list tables ts = where_filter ts >>= (λ by. λ us. group_by us >>= (λ group. λ vs. having_filter vs >>= (λ having. λ ws. Some (s.block each list tables by group having, ws))))

  -- [ ALL | DISTINCT ] list FROM tref { "," tref } ..
  abbrev pub block : Parser s.Query
  block ts = select_list (set_quantifier_at ts).1 >>= (λ list. λ us. from us >>= (λ tables. λ vs. block_end (set_quantifier_at ts).0 list tables vs))

  -- qprim = block | sub
  abbrev pub qprim : Parser s.Query
  qprim (t.Key k.Select ∷ ts) = block ts
  qprim ts = sub s.enclosed ts

  -- [ ALL ] qprim, after INTERSECT and what stands before that
  abbrev pub intersected : s.Query → Parser s.Query
  intersected left ts = qprim (all_at ts).1 >>= (λ right. λ us. Some (s.intersect left (all_at ts).0 right, us))

  -- { INTERSECT [ ALL ] qprim }
  abbrev pub more_qprims : ℕ → s.Query → Parser s.Query
  more_qprims zero left ts = Some (left, ts)
  more_qprims (suc n) left (t.Key k.Intersect ∷ ts) = qprim (all_at ts).1 >>= (λ right. more_qprims n (s.intersect left (all_at ts).0 right))
  more_qprims (suc n) left ts = Some (left, ts)

  -- qterm = qprim { INTERSECT [ ALL ] qprim }
  abbrev pub qterm : Parser s.Query
  qterm ts = qprim ts >>= more_qprims (length ts)

  -- [ ALL ] qterm, after UNION or EXCEPT and what stands before that
  abbrev pub united : s.Query → SetOperator → Parser s.Query
  united left operator ts = qterm (all_at ts).1 >>= (λ right. λ us. Some (s.combine left operator (all_at ts).0 right, us))

  -- { ( UNION | EXCEPT ) [ ALL ] qterm }
  abbrev pub more_qterms : ℕ → s.Query → Parser s.Query
  more_qterms zero left ts = Some (left, ts)
  more_qterms (suc n) left ts = elim (set_operator_at ts) as (λ _. Parsed s.Query) [
    | None ↦ Some (left, ts)
    | Some r ↦ qterm (all_at r.1).1 >>= (λ right. more_qterms n (s.combine left r.0 (all_at r.1).0 right))
  ]

  -- query = qterm { ( UNION | EXCEPT ) [ ALL ] qterm }
  abbrev pub combined : Parser s.Query
  combined ts = qterm ts >>= more_qterms (length ts)

-- with brackets and CASE nested less deep than the number
abbrev mutual
  pub expr : ℕ → Parser s.Expr
  expr zero ts = None
  expr (suc d) ts = sum (expr d) (cond d) (query d) (table d) ts

  pub cond : ℕ → Parser s.Cond
  cond zero ts = None
  cond (suc d) ts = disj (expr d) (cond d) (query d) (table d) ts

  pub query : ℕ → Parser s.Query
  query zero ts = None
  query (suc d) ts = combined (expr d) (cond d) (query d) (table d) ts

  pub table : ℕ → Parser s.TableRef
  table zero ts = None
  table (suc d) ts = tref (expr d) (cond d) (query d) (table d) ts

-- a reader of a line, with the readers of what stands in brackets so many levels deep
abbrev pub at_depth : {A : Type 0} → ℕ → (Parser s.Expr → Parser s.Cond → Parser s.Query → Parser s.TableRef → A) → A
at_depth depth reader = reader (expr depth) (cond depth) (query depth) (table depth)
