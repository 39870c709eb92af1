-- What is spelled so is read; and no tokens are spelled by two trees.
use Rattle.std.proofs.Common.{◌≡◌, ℕ, suc, ◌<◌, max, true, List, Some, refl, sym, ◌∙◌, ap, arith}
use Rattle.sql_text.specs.Depth.{shallow}
use Rattle.sql_text.specs.declared.token.Token.{Token}
use Rattle.sql_ast.specs.Syntax as s
use Rattle.sql_ast.specs.Spelling as sp
use Rattle.sql_ast.specs.Grammatical.{is_query, SpellsQuery}
use Rattle.sql_parser.specs.Read.{query}
use Rattle.sql_parser.specs.ReadText.{ended, ordered, query_end, query_tree}
use Rattle.sql_parser.proofs.Steps.{some_inj}
use Rattle.sql_parser.proofs.Balanced as balanced
use Rattle.sql_parser.proofs.Balanced.{tall_query}
use Rattle.sql_parser.proofs.Lookahead.{rank}
use Rattle.sql_parser.proofs.CompleteWords as words
use Rattle.sql_parser.proofs.CompleteRules.{ReadExpr, ReadExprs, ReadRes, ReadArms, ReadChoices, ReadOtherwise, ReadCond, ReadFilter, ReadItem, ReadItems, ReadList, ReadTable, ReadTables, ReadQuery, query_in}
use Rattle.sql_parser.proofs.CompleteExprs as exprs
use Rattle.sql_parser.proofs.CompleteConds as conds
use Rattle.sql_parser.proofs.CompleteTables as tables

mutual
  pub read_expr : (x : s.Expr) → ReadExpr x
  read_expr (s.add a op b) =
      record {
        as_prim = λ d ts p g tall low. absurd (cc);
        as_factor = λ d ts p g tall low. absurd (cc);
        as_term = λ d n m ts p g tall low turns. absurd (cc);
        as_sum = exprs.add_read a b op (read_expr a) (read_expr b);
      }
  read_expr (s.multiply a op b) =
      let h = exprs.multiply_read a b op (read_expr a) (read_expr b) in
      record { as_prim = λ d ts p g tall low. absurd (cc); as_factor = λ d ts p g tall low. absurd (cc); as_term = h; as_sum = exprs.of_term (s.multiply a op b) refl refl h }
  read_expr (s.signed p a) =
      let h = exprs.signed_read a p (read_expr a) in
      let i = exprs.of_factor (s.signed p a) refl refl h in
      record { as_prim = λ d ts p g tall low. absurd (cc); as_factor = h; as_term = i; as_sum = exprs.of_term (s.signed p a) refl refl i }
  read_expr (s.number n) = exprs.one_prim (s.number n) refl refl refl refl refl (λ d ts p g tall low. refl)
  read_expr (s.string x) = exprs.one_prim (s.string x) refl refl refl refl refl (λ d ts p g tall low. refl)
  read_expr (s.col c) = exprs.one_prim (s.col c) refl refl refl refl refl (exprs.col_read c)
  read_expr (s.paren a) = exprs.one_prim (s.paren a) refl refl refl refl refl (exprs.paren_read a (read_expr a))
  read_expr (s.scalar q) = exprs.one_prim (s.scalar q) refl refl refl refl refl (exprs.scalar_read q (read_query q))
  read_expr s.count_all = exprs.one_prim s.count_all refl refl refl refl refl (λ d ts p g tall low. refl)
  read_expr (s.aggregate f each a) = exprs.one_prim (s.aggregate f each a) refl refl refl refl refl (exprs.aggregate_read a f each (read_expr a))
  read_expr (s.searched xs o) = exprs.one_prim (s.searched xs o) refl refl refl refl refl (exprs.searched_read xs o (read_arms xs) (read_otherwise o))
  read_expr (s.simple a xs o) = exprs.one_prim (s.simple a xs o) refl refl refl refl refl (exprs.simple_read a xs o (read_expr a) (read_choices xs) (read_otherwise o))
  read_expr (s.coalesce a xs) = exprs.one_prim (s.coalesce a xs) refl refl refl refl refl (exprs.coalesce_read a xs (read_expr a) (read_exprs xs))
  read_expr (s.null_if a b) = exprs.one_prim (s.null_if a b) refl refl refl refl refl (exprs.null_if_read a b (read_expr a) (read_expr b))
  read_expr (s.cast_null x) = exprs.one_prim (s.cast_null x) refl refl refl refl refl (exprs.cast_read x)

  pub read_exprs : (xs : s.Exprs) → ReadExprs xs
  read_exprs s.no_expr = exprs.no_exprs
  read_exprs (s.one_expr a xs) = exprs.one_exprs a xs (read_expr a) (read_exprs xs)

  pub read_res : (x : s.Res) → ReadRes x
  read_res (s.given a) = exprs.given_read a (read_expr a)
  read_res s.null = record { as_res = λ d ts g tall low. refl }

  pub read_arms : (xs : s.Arms) → ReadArms xs
  read_arms s.no_arm = exprs.no_arms
  read_arms (s.one_arm c x xs) = exprs.one_arms c x xs (read_cond c) (read_res x) (read_arms xs)

  pub read_choices : (xs : s.Choices) → ReadChoices xs
  read_choices s.no_choice = exprs.no_choices
  read_choices (s.one_choice a x xs) = exprs.one_choices a x xs (read_expr a) (read_res x) (read_choices xs)

  pub read_otherwise : (o : s.Otherwise) → ReadOtherwise o
  read_otherwise s.no_else = exprs.no_otherwise
  read_otherwise (s.or_else x) = exprs.one_otherwise x (read_res x)

  pub read_cond : (x : s.Cond) → ReadCond x
  read_cond (s.either a b) =
      record {
        as_test = λ d ts p g tall low. absurd (cc);
        as_neg = λ d ts p g tall low. absurd (cc);
        as_conj = λ d n m ts p g tall low turns. absurd (cc);
        as_disj = conds.either_read a b (read_cond a) (read_cond b);
      }
  read_cond (s.both a b) =
      let h = conds.both_read a b (read_cond a) (read_cond b) in
      record { as_test = λ d ts p g tall low. absurd (cc); as_neg = λ d ts p g tall low. absurd (cc); as_conj = h; as_disj = conds.of_conj (s.both a b) refl refl h }
  read_cond (s.negated a) =
      let h = conds.negated_read a (read_cond a) in
      let i = conds.of_neg (s.negated a) refl refl h in
      record { as_test = λ d ts p g tall low. absurd (cc); as_neg = h; as_conj = i; as_disj = conds.of_conj (s.negated a) refl refl i }
  read_cond (s.bracket a) = conds.one_test (s.bracket a) refl refl refl refl refl (λ d ts. refl) (conds.bracket_read a (read_cond a))
  read_cond (s.compare a op b) = conds.one_test (s.compare a op b) refl refl refl refl refl (λ d ts. conds.starts_with a d _) (conds.compare_read a b op (read_expr a) (read_expr b))
  read_cond (s.quantified a op each q) =
      conds.one_test (s.quantified a op each q) refl refl refl refl refl (λ d ts. conds.starts_with a d _) (conds.quantified_read a op each q (read_expr a) (read_query q))
  read_cond (s.between a negative b c) =
      conds.one_test (s.between a negative b c) refl refl refl refl refl (λ d ts. conds.starts_with a d _) (conds.between_read a b c negative (read_expr a) (read_expr b) (read_expr c))
  read_cond (s.in_query a negative q) =
      conds.one_test (s.in_query a negative q) refl refl refl refl refl (λ d ts. conds.starts_with a d _) (conds.in_query_read a negative q (read_expr a) (read_query q))
  read_cond (s.in_list a negative xs) =
      conds.one_test (s.in_list a negative xs) refl refl refl refl refl (λ d ts. conds.starts_with a d _) (conds.in_list_read a negative xs (read_expr a) (read_exprs xs))
  read_cond (s.like a negative b) = conds.one_test (s.like a negative b) refl refl refl refl refl (λ d ts. conds.starts_with a d _) (conds.like_read a b negative (read_expr a) (read_expr b))
  read_cond (s.is_null a negative) = conds.one_test (s.is_null a negative) refl refl refl refl refl (λ d ts. conds.starts_with a d _) (conds.is_null_read a negative (read_expr a))
  read_cond (s.exists q) = conds.one_test (s.exists q) refl refl refl refl refl (λ d ts. refl) (conds.exists_read q (read_query q))

  pub read_filter : (f : s.Filter) → ReadFilter f
  read_filter s.no_filter = conds.no_filter
  read_filter (s.only_where c) = conds.filter_read c (read_cond c)

  pub read_item : (x : s.Item) → ReadItem x
  read_item (s.item a n) = tables.value_read a n (read_expr a)
  read_item (s.all_of n) = tables.all_of_read n

  pub read_items : (xs : s.Items) → ReadItems xs
  read_items s.no_item = tables.no_items
  read_items (s.one_item x xs) = tables.one_items x xs (read_item x) (read_items xs)

  pub read_list : (x : s.SelectList) → ReadList x
  read_list s.star = tables.star_read
  read_list (s.items xs) = tables.list_read xs (read_items xs)

  pub read_table : (x : s.TableRef) → ReadTable x
  read_table (s.join a inner b c) =
      record { as_tprim = λ d ts p g tall low. absurd (cc); as_tref = tables.join_read a b c inner (read_table a) (read_table b) (read_cond c) }
  read_table (s.left_join a outer b c) =
      record { as_tprim = λ d ts p g tall low. absurd (cc); as_tref = tables.left_join_read a b c outer (read_table a) (read_table b) (read_cond c) }
  read_table (s.cross_join a b) = record { as_tprim = λ d ts p g tall low. absurd (cc); as_tref = tables.cross_join_read a b (read_table a) (read_table b) }
  read_table (s.named n c) = tables.of_tprim (s.named n c) refl refl (tables.named_read n c)
  read_table (s.derived q c) = tables.of_tprim (s.derived q c) refl refl (tables.derived_read q c (read_query q))
  read_table (s.joined a) = tables.of_tprim (s.joined a) refl refl (tables.joined_read a (read_table a))

  pub read_tables : (xs : s.TableRefs) → ReadTables xs
  read_tables s.no_table = tables.no_tables
  read_tables (s.one_table x xs) = tables.one_tables x xs (read_table x) (read_tables xs)

  pub read_query : (x : s.Query) → ReadQuery x
  read_query (s.combine a op all b) =
      record {
        as_qprim = λ d ts p g tall low. absurd (cc);
        as_qterm = λ d n m ts p g tall low turns. absurd (cc);
        as_combined = tables.combine_read a b op all (read_query a) (read_query b);
      }
  read_query (s.intersect a all b) =
      let h = tables.intersect_read a b all (read_query a) (read_query b) in
      record { as_qprim = λ d ts p g tall low. absurd (cc); as_qterm = h; as_combined = tables.of_qterm (s.intersect a all b) refl refl h }
  read_query (s.block each list from by group having) = tables.one_qprim (s.block each list from by group having) refl refl refl refl
      (tables.block_read each list from by group having (read_list list) (read_tables from) (read_filter by) (read_filter having))
  read_query (s.enclosed q) = tables.one_qprim (s.enclosed q) refl refl refl refl (tables.enclosed_read q (read_query q))

-- ---- a query, and what follows it

pub query_read : (d : ℕ) (x : s.Query) (ts : List Token) → is_query x ≡ true → tall_query x < d → rank ts < 2 → query d (sp.query x ts) ≡ Some (x, ts)
query_read d x ts g tall low = query_in x (read_query x) d ts g tall low

-- within the limit of depth
pub query_followed : (x : s.Query) (ts : List Token) → is_query x ≡ true → rank ts < 2 → shallow 64 (sp.query x ts) ≡ true
    → (query 65 (sp.query x ts) ≡ Some (x, ts)) × (shallow 64 ts ≡ true)
query_followed x ts g low room =
    let fit = (balanced.query x).fits 64 ts room in
    (query_read 65 x ts g (omega (arith, fit.0)) low, fit.1)

-- no tokens are spelled by two queries, each with what may follow it
pub query_same : (a b : s.Query) (ts us : List Token) → is_query a ≡ true → is_query b ≡ true → rank ts < 2 → rank us < 2 → sp.query a ts ≡ sp.query b us
    → (a ≡ b) × (ts ≡ us)
query_same a b ts us ga gb la lb e =
    let d = suc (max (tall_query a) (tall_query b)) in
    let p = some_inj (a, ts) (b, us) (sym (query_read d a ts ga (omega arith) la) ∙ ap (query d) e ∙ query_read d b us gb (omega arith) lb) in
    (ap (λ x. x.0) p, ap (λ x. x.1) p)

-- ---- the text of a query

text_at : (d : ℕ) (x : s.QueryText) (ts : List Token) → SpellsQuery x ts → tall_query x.query < d → query_end (query d ts) ≡ Some x
text_at d x ts h tall =
    let us = sp.order_by x.order (sp.semicolon x.semicolon) in
    let low = words.order_low x.order x.semicolon in
    ap (λ ts. query_end (query d ts)) h.spelled
    ∙ ap query_end (query_read d x.query us h.grammatical tall (omega (arith, low)))
    ∙ ap (ordered x.query) (words.order_by_read x.order x.semicolon)
    ∙ ap (ended x.query x.order) (words.semicolon_read x.semicolon)

pub query_complete : (x : s.QueryText) (ts : List Token) → SpellsQuery x ts → shallow 64 ts ≡ true → query_tree ts ≡ Some x
unfolding query_tree
query_complete x ts h room =
    let us = sp.order_by x.order (sp.semicolon x.semicolon) in
    let fit = (balanced.query x.query).fits 64 us (ap (shallow 64) (sym h.spelled) ∙ room) in
    text_at 65 x ts h (omega (arith, fit.0))

-- no tokens are spelled by two trees
pub query_unique : (a b : s.QueryText) (ts : List Token) → SpellsQuery a ts → SpellsQuery b ts → a ≡ b
query_unique a b ts ha hb =
    let d = suc (max (tall_query a.query) (tall_query b.query)) in
    some_inj a b (sym (text_at d a ts ha (omega arith)) ∙ text_at d b ts hb (omega arith))
