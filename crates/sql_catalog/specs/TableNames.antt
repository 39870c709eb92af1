-- The names of tables that a tree reads, in the order of the text: those that stand in a FROM, at any depth.
use Rattle.std.specs.Prelude.{ℕ, List, [], ◌∷◌, ◌++◌}
use Rattle.sql_ast.specs.declared.tree.Block.{Block}
use Rattle.sql_ast.specs.Shown as shown
use Rattle.sql_ast.specs.Syntax as s

abbrev mutual
  pub in_expr : s.Expr → List (List ℕ)
  in_expr (s.add a op b) = in_expr a ++ in_expr b
  in_expr (s.multiply a op b) = in_expr a ++ in_expr b
  in_expr (s.signed p a) = in_expr a
  in_expr (s.number n) = []
  in_expr (s.string x) = []
  in_expr (s.col c) = []
  in_expr (s.paren a) = in_expr a
  in_expr (s.scalar q) = in_query q
  in_expr s.count_all = []
  in_expr (s.aggregate f each a) = in_expr a
  in_expr (s.searched xs o) = in_arms xs ++ in_otherwise o
  in_expr (s.simple a xs o) = in_expr a ++ (in_choices xs ++ in_otherwise o)
  in_expr (s.coalesce a xs) = in_expr a ++ in_exprs xs
  in_expr (s.null_if a b) = in_expr a ++ in_expr b
  in_expr (s.cast_null d) = []

  pub in_exprs : s.Exprs → List (List ℕ)
  in_exprs s.no_expr = []
  in_exprs (s.one_expr a xs) = in_expr a ++ in_exprs xs

  pub in_res : s.Res → List (List ℕ)
  in_res (s.given a) = in_expr a
  in_res s.null = []

  pub in_arms : s.Arms → List (List ℕ)
  in_arms s.no_arm = []
  in_arms (s.one_arm c r xs) = in_cond c ++ (in_res r ++ in_arms xs)

  pub in_choices : s.Choices → List (List ℕ)
  in_choices s.no_choice = []
  in_choices (s.one_choice a r xs) = in_expr a ++ (in_res r ++ in_choices xs)

  pub in_otherwise : s.Otherwise → List (List ℕ)
  in_otherwise s.no_else = []
  in_otherwise (s.or_else r) = in_res r

  pub in_cond : s.Cond → List (List ℕ)
  in_cond (s.either a b) = in_cond a ++ in_cond b
  in_cond (s.both a b) = in_cond a ++ in_cond b
  in_cond (s.negated a) = in_cond a
  in_cond (s.bracket a) = in_cond a
  in_cond (s.compare a op b) = in_expr a ++ in_expr b
  in_cond (s.quantified a op each q) = in_expr a ++ in_query q
  in_cond (s.between a negative b c) = in_expr a ++ (in_expr b ++ in_expr c)
  in_cond (s.in_query a negative q) = in_expr a ++ in_query q
  in_cond (s.in_list a negative xs) = in_expr a ++ in_exprs xs
  in_cond (s.like a negative b) = in_expr a ++ in_expr b
  in_cond (s.is_null a negative) = in_expr a
  in_cond (s.exists q) = in_query q

  pub in_filter : s.Filter → List (List ℕ)
  in_filter s.no_filter = []
  in_filter (s.only_where c) = in_cond c

  pub in_item : s.Item → List (List ℕ)
  in_item (s.item a n) = in_expr a
  in_item (s.all_of n) = []

  pub in_items : s.Items → List (List ℕ)
  in_items s.no_item = []
  in_items (s.one_item x xs) = in_item x ++ in_items xs

  pub in_list : s.SelectList → List (List ℕ)
  in_list s.star = []
  in_list (s.items xs) = in_items xs

  pub in_table : s.TableRef → List (List ℕ)
  in_table (s.join a inner b c) = in_table a ++ (in_table b ++ in_cond c)
  in_table (s.left_join a outer b c) = in_table a ++ (in_table b ++ in_cond c)
  in_table (s.cross_join a b) = in_table a ++ in_table b
  in_table (s.named n c) = n ∷ []
  in_table (s.derived q c) = in_query q
  in_table (s.joined a) = in_table a

  pub in_tables : s.TableRefs → List (List ℕ)
  in_tables s.no_table = []
  in_tables (s.one_table x xs) = in_table x ++ in_tables xs

  pub in_query : s.Query → List (List ℕ)
  in_query (s.combine a op all b) = in_query a ++ in_query b
  in_query (s.intersect a all b) = in_query a ++ in_query b
  in_query (s.block each list from by group having) = in_list list ++ (in_tables from ++ (in_filter by ++ in_filter having))
  in_query (s.enclosed q) = in_query q

-- the same of a block, as the code has it
abbrev pub in_block : Block → List (List ℕ)
in_block b = in_list (shown.select_list b.list) ++ (in_tables (shown.table_list b.from) ++ (in_filter (shown.filter b.filter) ++ in_filter (shown.filter b.having)))
