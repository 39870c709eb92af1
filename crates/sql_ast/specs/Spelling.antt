-- The grammar: the tokens of a tree. Each word takes the tokens that follow as its last argument, so `expr e ts` is the tokens of `e`, and then `ts`. A line that begins with two dashes and has a `=` is the grammar's.
use Rattle.std.specs.Prelude.{ℕ, Bool, true, false, List, [], ◌∷◌, Option, Some, None}
use Rattle.sql_text.specs.declared.key.Key.{Key}
use Rattle.sql_text.specs.declared.key.Key.TheVariants as k
use Rattle.sql_text.specs.declared.token.Token.{Token}
use Rattle.sql_text.specs.declared.token.Token.TheVariants as t
use Rattle.sql_ast.specs.declared.name.Alias.{Alias}
use Rattle.sql_ast.specs.declared.name.Column.{Column}
use Rattle.sql_ast.specs.declared.name.Correlation.{Correlation}
use Rattle.sql_ast.specs.declared.schema.ColumnConstraint.{ColumnConstraint}
use Rattle.sql_ast.specs.declared.schema.ColumnConstraint.TheVariants as constraint
use Rattle.sql_ast.specs.declared.schema.Element.{Element}
use Rattle.sql_ast.specs.declared.schema.Element.TheVariants as el
use Rattle.sql_ast.specs.declared.text.Sort.{Sort}
use Rattle.sql_ast.specs.declared.text.SortKey.{SortKey}
use Rattle.sql_ast.specs.declared.text.SortKey.TheVariants as sort_key
use Rattle.sql_ast.specs.declared.word.AdditiveOp.{AdditiveOp}
use Rattle.sql_ast.specs.declared.word.AdditiveOp.TheVariants as add
use Rattle.sql_ast.specs.declared.word.DataType.{DataType}
use Rattle.sql_ast.specs.declared.word.DataType.TheVariants as type
use Rattle.sql_ast.specs.declared.word.Direction.{Direction}
use Rattle.sql_ast.specs.declared.word.Direction.TheVariants as way
use Rattle.sql_ast.specs.declared.word.MultiplicativeOp.{MultiplicativeOp}
use Rattle.sql_ast.specs.declared.word.MultiplicativeOp.TheVariants as mul
use Rattle.sql_ast.specs.declared.word.Quantifier.{Quantifier}
use Rattle.sql_ast.specs.declared.word.Quantifier.TheVariants as some
use Rattle.sql_ast.specs.declared.word.SetFunction.{SetFunction}
use Rattle.sql_ast.specs.declared.word.SetFunction.TheVariants as of
use Rattle.sql_ast.specs.declared.word.SetOperator.{SetOperator}
use Rattle.sql_ast.specs.declared.word.SetOperator.TheVariants as set
use Rattle.sql_ast.specs.declared.word.SetQuantifier.{SetQuantifier}
use Rattle.sql_ast.specs.declared.word.SetQuantifier.TheVariants as each
use Rattle.sql_ast.specs.declared.word.Sign.{Sign}
use Rattle.sql_ast.specs.declared.word.Sign.TheVariants as sign
use Rattle.sql_ast.specs.Syntax as s

-- ---- words, names and columns

-- [ word ]
abbrev pub optional : Key → Bool → List Token → List Token
optional word true ts = t.Key word ∷ ts
optional word false ts = ts

-- { "," name }
abbrev pub more_names : List (List ℕ) → List Token → List Token
more_names [] ts = ts
more_names (n ∷ ns) ts = t.Comma ∷ t.Name n ∷ more_names ns ts

-- names = name { "," name }
abbrev pub names : List (List ℕ) → List Token → List Token
names [] ts = ts
names (n ∷ ns) ts = t.Name n ∷ more_names ns ts

-- [ "(" names ")" ]
abbrev pub column_list : List (List ℕ) → List Token → List Token
column_list [] ts = ts
column_list (n ∷ ns) ts = t.LeftParen ∷ t.Name n ∷ more_names ns (t.RightParen ∷ ts)

-- col = name [ "." name ]
abbrev pub column : Column → List Token → List Token
column c ts = elim c.range as (λ _. List Token) [ Some r ↦ t.Name r ∷ t.Dot ∷ t.Name c.name ∷ ts | None ↦ t.Name c.name ∷ ts ]

-- { "," col }
abbrev pub more_columns : List Column → List Token → List Token
more_columns [] ts = ts
more_columns (c ∷ cs) ts = t.Comma ∷ column c (more_columns cs ts)

-- [ GROUP BY col { "," col } ]
abbrev pub group_by : List Column → List Token → List Token
group_by [] ts = ts
group_by (c ∷ cs) ts = t.Key k.Group ∷ t.Key k.By ∷ column c (more_columns cs ts)

-- [ [ AS ] name ]
abbrev pub alias : Option Alias → List Token → List Token
alias None ts = ts
alias (Some a) ts = optional k.As a.noise (t.Name a.name ∷ ts)

-- [ AS ] name [ "(" names ")" ]
abbrev pub correlation : Correlation → List Token → List Token
correlation c ts = optional k.As c.noise (t.Name c.name ∷ column_list c.columns ts)

-- [ [ AS ] name [ "(" names ")" ] ]
abbrev pub optional_correlation : Option Correlation → List Token → List Token
optional_correlation None ts = ts
optional_correlation (Some c) ts = correlation c ts

-- ---- signs and words that stand for one of several

-- "+" | "-" | "||"
abbrev pub additive : AdditiveOp → Token
additive add.Plus = t.Plus
additive add.Minus = t.Minus
additive add.Concat = t.Concat

-- "*" | "/"
abbrev pub multiplicative : MultiplicativeOp → Token
multiplicative mul.Times = t.Star
multiplicative mul.Divide = t.Slash

-- "+" | "-"
abbrev pub sign_of : Sign → Token
sign_of sign.Plus = t.Plus
sign_of sign.Minus = t.Minus

-- COUNT | SUM | AVG | MIN | MAX
abbrev pub set_function : SetFunction → Token
set_function of.Count = t.Key k.Count
set_function of.Sum = t.Key k.Sum
set_function of.Avg = t.Key k.Avg
set_function of.Min = t.Key k.Min
set_function of.Max = t.Key k.Max

-- ANY | SOME | ALL
abbrev pub quantifier : Quantifier → Token
quantifier some.Any = t.Key k.Any
quantifier some.Some = t.Key k.Some
quantifier some.All = t.Key k.All

-- UNION | EXCEPT
abbrev pub set_operator : SetOperator → Token
set_operator set.Union = t.Key k.Union
set_operator set.Except = t.Key k.Except

-- [ ALL | DISTINCT ]
abbrev pub set_quantifier : Option SetQuantifier → List Token → List Token
set_quantifier None ts = ts
set_quantifier (Some each.All) ts = t.Key k.All ∷ ts
set_quantifier (Some each.Distinct) ts = t.Key k.Distinct ∷ ts

-- type = INTEGER | INT | VARCHAR "(" number ")"
abbrev pub data_type : DataType → List Token → List Token
data_type type.Integer ts = t.Key k.Integer ∷ ts
data_type type.Int ts = t.Key k.Int ∷ ts
data_type (type.Varchar n) ts = t.Key k.Varchar ∷ t.LeftParen ∷ t.Number n ∷ t.RightParen ∷ ts

-- ---- expressions, conditions, tables and queries

abbrev mutual
  -- expr = term { ( "+" | "-" | "||" ) term }, term = factor { ( "*" | "/" ) factor }, factor = [ "+" | "-" ] prim
  -- prim = number | string | col | "(" expr ")" | sub | agg
  --      | CASE { WHEN cond THEN res } [ ELSE res ] END | CASE expr { WHEN expr THEN res } [ ELSE res ] END
  --      | COALESCE "(" expr "," expr { "," expr } ")" | NULLIF "(" expr "," expr ")" | CAST "(" NULL AS type ")"
  -- agg = COUNT "(" "*" ")" | ( COUNT | SUM | AVG | MIN | MAX ) "(" [ ALL | DISTINCT ] expr ")"
  pub expr : s.Expr → List Token → List Token
  expr (s.add a op b) ts = expr a (additive op ∷ expr b ts)
  expr (s.multiply a op b) ts = expr a (multiplicative op ∷ expr b ts)
  expr (s.signed p a) ts = sign_of p ∷ expr a ts
  expr (s.number n) ts = t.Number n ∷ ts
  expr (s.string x) ts = t.Str x ∷ ts
  expr (s.col c) ts = column c ts
  expr (s.paren a) ts = t.LeftParen ∷ expr a (t.RightParen ∷ ts)
  expr (s.scalar q) ts = t.LeftParen ∷ query q (t.RightParen ∷ ts)
  expr s.count_all ts = t.Key k.Count ∷ t.LeftParen ∷ t.Star ∷ t.RightParen ∷ ts
  expr (s.aggregate f each a) ts = set_function f ∷ t.LeftParen ∷ set_quantifier each (expr a (t.RightParen ∷ ts))
  expr (s.searched xs o) ts = t.Key k.Case ∷ arms xs (otherwise o (t.Key k.End ∷ ts))
  expr (s.simple a xs o) ts = t.Key k.Case ∷ expr a (choices xs (otherwise o (t.Key k.End ∷ ts)))
  expr (s.coalesce a xs) ts = t.Key k.Coalesce ∷ t.LeftParen ∷ expr a (more_exprs xs (t.RightParen ∷ ts))
  expr (s.null_if a b) ts = t.Key k.NullIf ∷ t.LeftParen ∷ expr a (t.Comma ∷ expr b (t.RightParen ∷ ts))
  expr (s.cast_null d) ts = t.Key k.Cast ∷ t.LeftParen ∷ t.Key k.Null ∷ t.Key k.As ∷ data_type d (t.RightParen ∷ ts)

  -- { "," expr }
  pub more_exprs : s.Exprs → List Token → List Token
  more_exprs s.no_expr ts = ts
  more_exprs (s.one_expr a xs) ts = t.Comma ∷ expr a (more_exprs xs ts)

  -- expr { "," expr }
  pub exprs : s.Exprs → List Token → List Token
  exprs s.no_expr ts = ts
  exprs (s.one_expr a xs) ts = expr a (more_exprs xs ts)

  -- res = expr | NULL
  pub res : s.Res → List Token → List Token
  res (s.given a) ts = expr a ts
  res s.null ts = t.Key k.Null ∷ ts

  -- { WHEN cond THEN res }
  pub arms : s.Arms → List Token → List Token
  arms s.no_arm ts = ts
  arms (s.one_arm c r xs) ts = t.Key k.When ∷ cond c (t.Key k.Then ∷ res r (arms xs ts))

  -- { WHEN expr THEN res }
  pub choices : s.Choices → List Token → List Token
  choices s.no_choice ts = ts
  choices (s.one_choice a r xs) ts = t.Key k.When ∷ expr a (t.Key k.Then ∷ res r (choices xs ts))

  -- [ ELSE res ]
  pub otherwise : s.Otherwise → List Token → List Token
  otherwise s.no_else ts = ts
  otherwise (s.or_else r) ts = t.Key k.Else ∷ res r ts

  -- cond = conj { OR conj }, conj = neg { AND neg }, neg = [ NOT ] ( pred | "(" cond ")" )
  -- pred = expr op expr | expr op ( ANY | SOME | ALL ) sub | expr [ NOT ] BETWEEN expr AND expr
  --      | expr [ NOT ] IN ( sub | "(" expr { "," expr } ")" ) | expr [ NOT ] LIKE expr | expr IS [ NOT ] NULL | EXISTS sub
  -- op = "=" | "<>" | "<" | "<=" | ">" | ">=", sub = "(" query ")"
  pub cond : s.Cond → List Token → List Token
  cond (s.either a b) ts = cond a (t.Key k.Or ∷ cond b ts)
  cond (s.both a b) ts = cond a (t.Key k.And ∷ cond b ts)
  cond (s.negated a) ts = t.Key k.Not ∷ cond a ts
  cond (s.bracket a) ts = t.LeftParen ∷ cond a (t.RightParen ∷ ts)
  cond (s.compare a op b) ts = expr a (t.Compare op ∷ expr b ts)
  cond (s.quantified a op each q) ts = expr a (t.Compare op ∷ quantifier each ∷ t.LeftParen ∷ query q (t.RightParen ∷ ts))
  cond (s.between a negative b c) ts = expr a (optional k.Not negative (t.Key k.Between ∷ expr b (t.Key k.And ∷ expr c ts)))
  cond (s.in_query a negative q) ts = expr a (optional k.Not negative (t.Key k.In ∷ t.LeftParen ∷ query q (t.RightParen ∷ ts)))
  cond (s.in_list a negative xs) ts = expr a (optional k.Not negative (t.Key k.In ∷ t.LeftParen ∷ exprs xs (t.RightParen ∷ ts)))
  cond (s.like a negative b) ts = expr a (optional k.Not negative (t.Key k.Like ∷ expr b ts))
  cond (s.is_null a negative) ts = expr a (t.Key k.Is ∷ optional k.Not negative (t.Key k.Null ∷ ts))
  cond (s.exists q) ts = t.Key k.Exists ∷ t.LeftParen ∷ query q (t.RightParen ∷ ts)

  -- [ word cond ], with WHERE or HAVING for the word
  pub filter : Key → s.Filter → List Token → List Token
  filter word s.no_filter ts = ts
  filter word (s.only_where c) ts = t.Key word ∷ cond c ts

  -- item = expr [ [ AS ] name ] | name "." "*"
  pub item : s.Item → List Token → List Token
  item (s.item a n) ts = expr a (alias n ts)
  item (s.all_of n) ts = t.Name n ∷ t.Dot ∷ t.Star ∷ ts

  -- { "," item }
  pub more_items : s.Items → List Token → List Token
  more_items s.no_item ts = ts
  more_items (s.one_item x xs) ts = t.Comma ∷ item x (more_items xs ts)

  -- item { "," item }
  pub items : s.Items → List Token → List Token
  items s.no_item ts = ts
  items (s.one_item x xs) ts = item x (more_items xs ts)

  -- list = "*" | item { "," item }
  pub select_list : s.SelectList → List Token → List Token
  select_list s.star ts = t.Star ∷ ts
  select_list (s.items xs) ts = items xs ts

  -- tref = tprim { join }
  -- join = [ INNER ] JOIN tprim ON cond | LEFT [ OUTER ] JOIN tprim ON cond | CROSS JOIN tprim
  -- tprim = name [ [ AS ] name [ "(" names ")" ] ] | sub [ AS ] name [ "(" names ")" ] | "(" tprim join { join } ")"
  pub table : s.TableRef → List Token → List Token
  table (s.join a inner b c) ts = table a (optional k.Inner inner (t.Key k.Join ∷ table b (t.Key k.On ∷ cond c ts)))
  table (s.left_join a outer b c) ts = table a (t.Key k.Left ∷ optional k.Outer outer (t.Key k.Join ∷ table b (t.Key k.On ∷ cond c ts)))
  table (s.cross_join a b) ts = table a (t.Key k.Cross ∷ t.Key k.Join ∷ table b ts)
  table (s.named n c) ts = t.Name n ∷ optional_correlation c ts
  table (s.derived q c) ts = t.LeftParen ∷ query q (t.RightParen ∷ correlation c ts)
  table (s.joined a) ts = t.LeftParen ∷ table a (t.RightParen ∷ ts)

  -- { "," tref }
  pub more_tables : s.TableRefs → List Token → List Token
  more_tables s.no_table ts = ts
  more_tables (s.one_table x xs) ts = t.Comma ∷ table x (more_tables xs ts)

  -- tref { "," tref }
  pub tables : s.TableRefs → List Token → List Token
  tables s.no_table ts = ts
  tables (s.one_table x xs) ts = table x (more_tables xs ts)

  -- query = qterm { ( UNION | EXCEPT ) [ ALL ] qterm }, qterm = qprim { INTERSECT [ ALL ] qprim }, qprim = block | sub
  -- block = SELECT [ ALL | DISTINCT ] list FROM tref { "," tref } [ WHERE cond ] [ GROUP BY col { "," col } ] [ HAVING cond ]
  pub query : s.Query → List Token → List Token
  query (s.combine a op all b) ts = query a (set_operator op ∷ optional k.All all (query b ts))
  query (s.intersect a all b) ts = query a (t.Key k.Intersect ∷ optional k.All all (query b ts))
  query (s.block each list from by group having) ts =
      t.Key k.Select ∷ set_quantifier each (select_list list (t.Key k.From ∷ tables from (filter k.Where by (group_by group (filter k.Having having ts)))))
  query (s.enclosed q) ts = t.LeftParen ∷ query q (t.RightParen ∷ ts)

-- ---- texts of queries

-- [ ASC | DESC ]
abbrev pub direction : Option Direction → List Token → List Token
direction None ts = ts
direction (Some way.Asc) ts = t.Key k.Asc ∷ ts
direction (Some way.Desc) ts = t.Key k.Desc ∷ ts

-- name | number
abbrev pub sort_token : SortKey → Token
sort_token (sort_key.Name n) = t.Name n
sort_token (sort_key.Number n) = t.Number n

-- sort = ( name | number ) [ ASC | DESC ]
abbrev pub sort : Sort → List Token → List Token
sort x ts = sort_token x.key ∷ direction x.direction ts

-- { "," sort }
abbrev pub more_sorts : List Sort → List Token → List Token
more_sorts [] ts = ts
more_sorts (x ∷ xs) ts = t.Comma ∷ sort x (more_sorts xs ts)

-- [ ORDER BY sort { "," sort } ]
abbrev pub order_by : List Sort → List Token → List Token
order_by [] ts = ts
order_by (x ∷ xs) ts = t.Key k.Order ∷ t.Key k.By ∷ sort x (more_sorts xs ts)

-- [ ";" ]
abbrev pub semicolon : Bool → List Token
semicolon true = t.Semicolon ∷ []
semicolon false = []

-- text = query [ ORDER BY sort { "," sort } ] [ ";" ]
abbrev pub query_text : s.QueryText → List Token
query_text x = query x.query (order_by x.order (semicolon x.semicolon))

-- ---- schemas

-- { NOT NULL | PRIMARY KEY | UNIQUE }
abbrev pub constraints : List ColumnConstraint → List Token → List Token
constraints [] ts = ts
constraints (constraint.NotNull ∷ cs) ts = t.Key k.Not ∷ t.Key k.Null ∷ constraints cs ts
constraints (constraint.PrimaryKey ∷ cs) ts = t.Key k.Primary ∷ t.Key k.Key ∷ constraints cs ts
constraints (constraint.Unique ∷ cs) ts = t.Key k.Unique ∷ constraints cs ts

-- element = name type { NOT NULL | PRIMARY KEY | UNIQUE } | PRIMARY KEY "(" names ")" | UNIQUE "(" names ")"
abbrev pub element : Element → List Token → List Token
element (el.Column c) ts = t.Name c.name ∷ data_type c.data_type (constraints c.constraints ts)
element (el.PrimaryKey ns) ts = t.Key k.Primary ∷ t.Key k.Key ∷ t.LeftParen ∷ names ns (t.RightParen ∷ ts)
element (el.Unique ns) ts = t.Key k.Unique ∷ t.LeftParen ∷ names ns (t.RightParen ∷ ts)

-- { "," element }
abbrev pub more_elements : List Element → List Token → List Token
more_elements [] ts = ts
more_elements (e ∷ es) ts = t.Comma ∷ element e (more_elements es ts)

-- element { "," element }
abbrev pub elements : List Element → List Token → List Token
elements [] ts = ts
elements (e ∷ es) ts = element e (more_elements es ts)

-- stmt = CREATE TABLE name "(" element { "," element } ")" | CREATE VIEW name [ "(" names ")" ] AS query
abbrev pub statement : s.Statement → List Token → List Token
statement (s.table d) ts = t.Key k.Create ∷ t.Key k.Table ∷ t.Name d.name ∷ t.LeftParen ∷ elements d.elements (t.RightParen ∷ ts)
statement (s.view v) ts = t.Key k.Create ∷ t.Key k.View ∷ t.Name v.name ∷ column_list v.columns (t.Key k.As ∷ query v.query ts)

-- schema = { stmt ";" }
abbrev pub statements : List s.Statement → List Token
statements [] = []
statements (x ∷ xs) = statement x (t.Semicolon ∷ statements xs)

abbrev pub schema : s.Schema → List Token
schema x = statements x.statements
