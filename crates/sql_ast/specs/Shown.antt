-- The tree that a value of the program holds.
use Rattle.std.specs.Prelude.{◌≡◌, refl, List, [], ◌∷◌, map}
use Rattle.std.proofs.Common.{ap, ◌∙◌}
use Rattle.sql_ast.specs.declared.schema.Schema.{Schema}
use Rattle.sql_ast.specs.declared.schema.Statement.{Statement}
use Rattle.sql_ast.specs.declared.schema.Statement.TheVariants.{Table, View}
use Rattle.sql_ast.specs.declared.schema.ViewDecl.{ViewDecl}
use Rattle.sql_ast.specs.declared.text.QueryText.{QueryText}
use Rattle.sql_ast.specs.declared.tree.Arm.{Arm}
use Rattle.sql_ast.specs.declared.tree.Choice.{Choice}
use Rattle.sql_ast.specs.declared.tree.Cond.{Cond, Or', And', Not', Bracket', Compare', Quantified', Between', InQuery', InList', Like', IsNull', Exists'}
use Rattle.sql_ast.specs.declared.tree.Cond.TheBlock.{hidden-the_row-Expr-0, hidden-the_row-Arm-1, hidden-the_row-Choice-2, hidden-the_row-TableRef-3, hidden-the_row-Item-4}
use Rattle.sql_ast.specs.declared.tree.Expr.{Expr, Add', Multiply', Signed', Number, Str, Column, Paren', Scalar', CountAll, Aggregate', Searched', Simple', Coalesce', NullIf', CastNull}
use Rattle.sql_ast.specs.declared.tree.Expr.{Row_of-Expr, end_of-Expr, more_of-Expr, items-the_row-Expr, items_hidden-the_row-Expr-0}
use Rattle.sql_ast.specs.declared.tree.Expr.{Row_of-Arm, end_of-Arm, more_of-Arm, items-the_row-Arm, items_hidden-the_row-Arm-1}
use Rattle.sql_ast.specs.declared.tree.Expr.{Row_of-Choice, end_of-Choice, more_of-Choice, items-the_row-Choice, items_hidden-the_row-Choice-2}
use Rattle.sql_ast.specs.declared.tree.Filter.{Filter}
use Rattle.sql_ast.specs.declared.tree.Filter.TheVariants as filters
use Rattle.sql_ast.specs.declared.tree.Item.{Item}
use Rattle.sql_ast.specs.declared.tree.Item.TheVariants as item_of
use Rattle.sql_ast.specs.declared.tree.Otherwise.{Otherwise}
use Rattle.sql_ast.specs.declared.tree.Otherwise.TheVariants as others
use Rattle.sql_ast.specs.declared.tree.Query.{Query, Combine', Intersect', Block', Enclosed'}
use Rattle.sql_ast.specs.declared.tree.Query.{Row_of-TableRef, end_of-TableRef, more_of-TableRef, items-the_row-TableRef, items_hidden-the_row-TableRef-3}
use Rattle.sql_ast.specs.declared.tree.Res.{Res}
use Rattle.sql_ast.specs.declared.tree.Res.TheVariants as results
use Rattle.sql_ast.specs.declared.tree.SelectList.{SelectList, All, Items'}
use Rattle.sql_ast.specs.declared.tree.SelectList.{Row_of-Item, end_of-Item, more_of-Item, items-the_row-Item, items_hidden-the_row-Item-4}
use Rattle.sql_ast.specs.declared.tree.TableRef.{TableRef, Join', LeftJoin', CrossJoin', Named, Derived', Joined'}
use Rattle.sql_ast.specs.Syntax as s

abbrev mutual
  pub expr : Expr → s.Expr
  expr (Add' _ a op _ b) = s.add (expr a) op (expr b)
  expr (Multiply' _ a op _ b) = s.multiply (expr a) op (expr b)
  expr (Signed' p _ a) = s.signed p (expr a)
  expr (Number n) = s.number n
  expr (Str x) = s.string x
  expr (Column c) = s.col c
  expr (Paren' _ a) = s.paren (expr a)
  expr (Scalar' _ q) = s.scalar (query q)
  expr CountAll = s.count_all
  expr (Aggregate' f each _ a) = s.aggregate f each (expr a)
  expr (Searched' _ xs o) = s.searched (arms xs) (otherwise o)
  expr (Simple' _ a _ xs o) = s.simple (expr a) (choices xs) (otherwise o)
  expr (Coalesce' _ a _ xs) = s.coalesce (expr a) (exprs xs)
  expr (NullIf' _ a _ b) = s.null_if (expr a) (expr b)
  expr (CastNull d) = s.cast_null d

  pub exprs : {n : _} → Row_of-Expr n → s.Exprs
  exprs end_of-Expr = s.no_expr
  exprs (more_of-Expr a xs) = s.one_expr (expr a) (exprs xs)

  pub res : Res → s.Res
  res (results.Value' _ a) = s.given (expr a)
  res results.Null = s.null

  pub arms : {n : _} → Row_of-Arm n → s.Arms
  arms end_of-Arm = s.no_arm
  arms (more_of-Arm c r xs) = s.one_arm (cond c) (res r) (arms xs)

  pub choices : {n : _} → Row_of-Choice n → s.Choices
  choices end_of-Choice = s.no_choice
  choices (more_of-Choice a r xs) = s.one_choice (expr a) (res r) (choices xs)

  pub otherwise : Otherwise → s.Otherwise
  otherwise others.Absent = s.no_else
  otherwise (others.Else r) = s.or_else (res r)

  pub cond : Cond → s.Cond
  cond (Or' _ a _ b) = s.either (cond a) (cond b)
  cond (And' _ a _ b) = s.both (cond a) (cond b)
  cond (Not' _ a) = s.negated (cond a)
  cond (Bracket' _ a) = s.bracket (cond a)
  cond (Compare' _ a op _ b) = s.compare (expr a) op (expr b)
  cond (Quantified' _ a op each _ q) = s.quantified (expr a) op each (query q)
  cond (Between' _ a negative _ b _ c) = s.between (expr a) negative (expr b) (expr c)
  cond (InQuery' _ a negative _ q) = s.in_query (expr a) negative (query q)
  cond (InList' _ a negative _ xs) = s.in_list (expr a) negative (exprs xs)
  cond (Like' _ a negative _ b) = s.like (expr a) negative (expr b)
  cond (IsNull' _ a negative) = s.is_null (expr a) negative
  cond (Exists' _ q) = s.exists (query q)

  pub filter : Filter → s.Filter
  filter filters.Absent = s.no_filter
  filter (filters.Given' _ c) = s.only_where (cond c)

  pub item : Item → s.Item
  item (item_of.Value' _ a n) = s.item (expr a) n
  item (item_of.AllOf n) = s.all_of n

  pub items : {n : _} → Row_of-Item n → s.Items
  items end_of-Item = s.no_item
  items (more_of-Item x xs) = s.one_item (item x) (items xs)

  pub select_list : SelectList → s.SelectList
  select_list All = s.star
  select_list (Items' _ xs) = s.items (items xs)

  pub table : TableRef → s.TableRef
  table (Join' _ a inner _ b _ c) = s.join (table a) inner (table b) (cond c)
  table (LeftJoin' _ a outer _ b _ c) = s.left_join (table a) outer (table b) (cond c)
  table (CrossJoin' _ a _ b) = s.cross_join (table a) (table b)
  table (Named n c) = s.named n c
  table (Derived' _ q c) = s.derived (query q) c
  table (Joined' _ a) = s.joined (table a)

  pub tables : {n : _} → Row_of-TableRef n → s.TableRefs
  tables end_of-TableRef = s.no_table
  tables (more_of-TableRef x xs) = s.one_table (table x) (tables xs)

  pub query : Query → s.Query
  query (Combine' _ a op all _ b) = s.combine (query a) op all (query b)
  query (Intersect' _ a all _ b) = s.intersect (query a) all (query b)
  query (Block' _ each list _ from by group having) = s.block each (select_list list) (tables from) (filter by) group (filter having)
  query (Enclosed' _ q) = s.enclosed (query q)

-- ---- the same lists, as the code has them

abbrev pub expr_list : List Expr → s.Exprs
expr_list [] = s.no_expr
expr_list (a ∷ xs) = s.one_expr (expr a) (expr_list xs)

abbrev pub arm_list : List Arm → s.Arms
arm_list [] = s.no_arm
arm_list (a ∷ xs) = s.one_arm (cond a.when) (res a.then) (arm_list xs)

abbrev pub choice_list : List Choice → s.Choices
choice_list [] = s.no_choice
choice_list (a ∷ xs) = s.one_choice (expr a.when) (res a.then) (choice_list xs)

abbrev pub item_list : List Item → s.Items
item_list [] = s.no_item
item_list (x ∷ xs) = s.one_item (item x) (item_list xs)

abbrev pub table_list : List TableRef → s.TableRefs
table_list [] = s.no_table
table_list (x ∷ xs) = s.one_table (table x) (table_list xs)

pub exprs_items : (n : _) (row : Row_of-Expr n) → exprs row ≡ expr_list (items-the_row-Expr n row)
exprs_items _ end_of-Expr = refl
exprs_items _ (more_of-Expr a xs) = ap (s.one_expr (expr a)) (exprs_items _ xs)

pub arms_items : (n : _) (row : Row_of-Arm n) → arms row ≡ arm_list (items-the_row-Arm n row)
arms_items _ end_of-Arm = refl
arms_items _ (more_of-Arm c r xs) = ap (s.one_arm (cond c) (res r)) (arms_items _ xs)

pub choices_items : (n : _) (row : Row_of-Choice n) → choices row ≡ choice_list (items-the_row-Choice n row)
choices_items _ end_of-Choice = refl
choices_items _ (more_of-Choice a r xs) = ap (s.one_choice (expr a) (res r)) (choices_items _ xs)

pub items_items : (n : _) (row : Row_of-Item n) → items row ≡ item_list (items-the_row-Item n row)
items_items _ end_of-Item = refl
items_items _ (more_of-Item x xs) = ap (s.one_item (item x)) (items_items _ xs)

pub tables_items : (n : _) (row : Row_of-TableRef n) → tables row ≡ table_list (items-the_row-TableRef n row)
tables_items _ end_of-TableRef = refl
tables_items _ (more_of-TableRef x xs) = ap (s.one_table (table x)) (tables_items _ xs)

pub exprs_hidden : (all : List Expr) → exprs (hidden-the_row-Expr-0 all) ≡ expr_list all
exprs_hidden all = exprs_items _ (hidden-the_row-Expr-0 all) ∙ ap expr_list (items_hidden-the_row-Expr-0 all)

pub arms_hidden : (all : List Arm) → arms (hidden-the_row-Arm-1 all) ≡ arm_list all
arms_hidden all = arms_items _ (hidden-the_row-Arm-1 all) ∙ ap arm_list (items_hidden-the_row-Arm-1 all)

pub choices_hidden : (all : List Choice) → choices (hidden-the_row-Choice-2 all) ≡ choice_list all
choices_hidden all = choices_items _ (hidden-the_row-Choice-2 all) ∙ ap choice_list (items_hidden-the_row-Choice-2 all)

pub items_hidden : (all : List Item) → items (hidden-the_row-Item-4 all) ≡ item_list all
items_hidden all = items_items _ (hidden-the_row-Item-4 all) ∙ ap item_list (items_hidden-the_row-Item-4 all)

pub tables_hidden : (all : List TableRef) → tables (hidden-the_row-TableRef-3 all) ≡ table_list all
tables_hidden all = tables_items _ (hidden-the_row-TableRef-3 all) ∙ ap table_list (items_hidden-the_row-TableRef-3 all)

pub ruleset lists = (exprs_hidden, arms_hidden, choices_hidden, items_hidden, tables_hidden)

-- ---- texts

abbrev pub query_text : QueryText → s.QueryText
query_text x = record { query = query x.query; order = x.order; semicolon = x.semicolon }

abbrev pub view : ViewDecl → s.ViewDecl
view v = record { name = v.name; columns = v.columns; query = query v.query }

abbrev pub statement : Statement → s.Statement
statement (Table d) = s.table d
statement (View v) = s.view (view v)

abbrev pub schema : Schema → s.Schema
schema x = record { statements = map statement x.statements }
