-- What is to be shown of a tree: each rule of the grammar that reads it gives it back, where brackets may nest d deep and what follows binds loosely enough.
use Rattle.std.proofs.Common.{◌≡◌, ℕ, zero, suc, ◌+◌, ◌-◌, ◌<◌, ◌≤◌, true, List, ◌∷◌, Some, ◌∙◌, length, arith}
use Rattle.sql_text.specs.declared.key.Key.TheVariants as k
use Rattle.sql_text.specs.declared.token.Token.{Token}
use Rattle.sql_text.specs.declared.token.Token.TheVariants as t
use Rattle.sql_ast.specs.Syntax as s
use Rattle.sql_ast.specs.Spelling as sp
use Rattle.sql_ast.specs.Grammatical.{is_prim, is_factor, is_term, is_test, is_neg, is_conj, is_tprim, is_qprim, is_qterm, some_expr, some_arm, some_choice, some_item, some_table, is_expr, are_exprs, is_res, are_arms, are_choices, is_otherwise, is_cond, is_filter, is_item, are_items, is_list, is_table, are_tables, is_query}
use Rattle.sql_parser.specs.Words.{Parser, ◌>>=◌}
use Rattle.sql_parser.specs.Read as r
use Rattle.sql_parser.specs.Read.{expr, cond, query, table}
use Rattle.sql_parser.proofs.Balanced.{tall, tall_exprs, tall_res, tall_arms, tall_choices, tall_otherwise, tall_cond, tall_filter, tall_item, tall_items, tall_list, tall_table, tall_tables, tall_query}
use Rattle.sql_parser.proofs.Lookahead.{rank}
use Rattle.sql_parser.proofs.Stops as stops
use Rattle.sql_parser.proofs.Links as links

-- ---- the rules, where brackets may nest d deep

abbrev pub more_exprs : ℕ → ℕ → Parser s.Exprs
more_exprs d = r.more_exprs (expr d) (cond d) (query d) (table d)

abbrev pub exprs : ℕ → Parser s.Exprs
exprs d = r.exprs (expr d) (cond d) (query d) (table d)

abbrev pub res : ℕ → Parser s.Res
res d = r.res (expr d) (cond d) (query d) (table d)

abbrev pub more_arms : ℕ → ℕ → Parser s.Arms
more_arms d = r.more_arms (expr d) (cond d) (query d) (table d)

abbrev pub arms : ℕ → Parser s.Arms
arms d = r.arms (expr d) (cond d) (query d) (table d)

abbrev pub more_choices : ℕ → ℕ → Parser s.Choices
more_choices d = r.more_choices (expr d) (cond d) (query d) (table d)

abbrev pub choices : ℕ → Parser s.Choices
choices d = r.choices (expr d) (cond d) (query d) (table d)

abbrev pub otherwise : ℕ → Parser s.Otherwise
otherwise d = r.otherwise (expr d) (cond d) (query d) (table d)

abbrev pub prim : ℕ → Parser s.Expr
prim d = r.prim (expr d) (cond d) (query d) (table d)

abbrev pub factor : ℕ → Parser s.Expr
factor d = r.factor (expr d) (cond d) (query d) (table d)

abbrev pub factors : ℕ → ℕ → s.Expr → Parser s.Expr
factors d = r.more_factors (expr d) (cond d) (query d) (table d)

abbrev pub term : ℕ → Parser s.Expr
term d = r.term (expr d) (cond d) (query d) (table d)

abbrev pub terms : ℕ → ℕ → s.Expr → Parser s.Expr
terms d = r.more_terms (expr d) (cond d) (query d) (table d)

abbrev pub sum : ℕ → Parser s.Expr
sum d = r.sum (expr d) (cond d) (query d) (table d)

abbrev pub pred_after : ℕ → s.Expr → Parser s.Cond
pred_after d = r.pred_after (expr d) (cond d) (query d) (table d)

abbrev pub test : ℕ → Parser s.Cond
test d = r.test (expr d) (cond d) (query d) (table d)

abbrev pub neg : ℕ → Parser s.Cond
neg d = r.neg (expr d) (cond d) (query d) (table d)

abbrev pub negs : ℕ → ℕ → s.Cond → Parser s.Cond
negs d = r.more_negs (expr d) (cond d) (query d) (table d)

abbrev pub conj : ℕ → Parser s.Cond
conj d = r.conj (expr d) (cond d) (query d) (table d)

abbrev pub conjs : ℕ → ℕ → s.Cond → Parser s.Cond
conjs d = r.more_conjs (expr d) (cond d) (query d) (table d)

abbrev pub disj : ℕ → Parser s.Cond
disj d = r.disj (expr d) (cond d) (query d) (table d)

abbrev pub where_filter : ℕ → Parser s.Filter
where_filter d = r.where_filter (expr d) (cond d) (query d) (table d)

abbrev pub having_filter : ℕ → Parser s.Filter
having_filter d = r.having_filter (expr d) (cond d) (query d) (table d)

abbrev pub item : ℕ → Parser s.Item
item d = r.item (expr d) (cond d) (query d) (table d)

abbrev pub more_items : ℕ → ℕ → Parser s.Items
more_items d = r.more_items (expr d) (cond d) (query d) (table d)

abbrev pub items : ℕ → Parser s.Items
items d = r.items (expr d) (cond d) (query d) (table d)

abbrev pub select_list : ℕ → Parser s.SelectList
select_list d = r.select_list (expr d) (cond d) (query d) (table d)

abbrev pub tprim : ℕ → Parser s.TableRef
tprim d = r.tprim (expr d) (cond d) (query d) (table d)

abbrev pub joins : ℕ → ℕ → s.TableRef → Parser s.TableRef
joins d = r.more_joins (expr d) (cond d) (query d) (table d)

abbrev pub tref : ℕ → Parser s.TableRef
tref d = r.tref (expr d) (cond d) (query d) (table d)

abbrev pub more_tables : ℕ → ℕ → Parser s.TableRefs
more_tables d = r.more_tables (expr d) (cond d) (query d) (table d)

abbrev pub tables : ℕ → Parser s.TableRefs
tables d = r.tables (expr d) (cond d) (query d) (table d)

abbrev pub qprim : ℕ → Parser s.Query
qprim d = r.qprim (expr d) (cond d) (query d) (table d)

abbrev pub qprims : ℕ → ℕ → s.Query → Parser s.Query
qprims d = r.more_qprims (expr d) (cond d) (query d) (table d)

abbrev pub qterm : ℕ → Parser s.Query
qterm d = r.qterm (expr d) (cond d) (query d) (table d)

abbrev pub qterms : ℕ → ℕ → s.Query → Parser s.Query
qterms d = r.more_qterms (expr d) (cond d) (query d) (table d)

abbrev pub combined : ℕ → Parser s.Query
combined d = r.combined (expr d) (cond d) (query d) (table d)

-- ---- what is to be shown

abbrev pub AsPrim : s.Expr → Type 0
AsPrim x = (d : ℕ) (ts : List Token) → is_prim x ≡ true → is_expr x ≡ true → tall x ≤ d → rank ts < 15 → prim d (sp.expr x ts) ≡ Some (x, ts)

abbrev pub AsFactor : s.Expr → Type 0
AsFactor x = (d : ℕ) (ts : List Token) → is_factor x ≡ true → is_expr x ≡ true → tall x ≤ d → rank ts < 15 → factor d (sp.expr x ts) ≡ Some (x, ts)

abbrev pub AsTerm : s.Expr → Type 0
AsTerm x = (d n m : ℕ) (ts : List Token) → is_term x ≡ true → is_expr x ≡ true → tall x ≤ d → rank ts < 15 → n ≡ links.factors x + m
    → (factor d (sp.expr x ts) >>= factors d n) ≡ factors d m x ts

abbrev pub AsSum : s.Expr → Type 0
AsSum x = (d n m : ℕ) (ts : List Token) → is_expr x ≡ true → tall x ≤ d → rank ts < 14 → n ≡ links.terms x + m
    → (term d (sp.expr x ts) >>= terms d n) ≡ terms d m x ts

pub record ReadExpr (x : s.Expr) : Type 0 where
  pub as_prim : AsPrim x
  pub as_factor : AsFactor x
  pub as_term : AsTerm x
  pub as_sum : AsSum x

pub record ReadExprs (xs : s.Exprs) : Type 0 where
  pub as_more_exprs : (d n : ℕ) (ts : List Token) → are_exprs xs ≡ true → tall_exprs xs < d → rank ts < 7 → links.exprs xs ≤ n
      → more_exprs d n (sp.more_exprs xs ts) ≡ Some (xs, ts)
  pub as_exprs : (d : ℕ) (ts : List Token) → some_expr xs ≡ true → are_exprs xs ≡ true → tall_exprs xs < d → rank ts < 7
      → exprs d (sp.exprs xs ts) ≡ Some (xs, ts)

pub record ReadRes (x : s.Res) : Type 0 where
  pub as_res : (d : ℕ) (ts : List Token) → is_res x ≡ true → tall_res x < d → rank ts < 13 → res d (sp.res x ts) ≡ Some (x, ts)

pub record ReadArms (xs : s.Arms) : Type 0 where
  pub as_more_arms : (d n : ℕ) (ts : List Token) → are_arms xs ≡ true → tall_arms xs < d → rank ts < 1 → links.arms xs ≤ n
      → more_arms d n (sp.arms xs ts) ≡ Some (xs, ts)
  pub as_arms : (d : ℕ) (ts : List Token) → some_arm xs ≡ true → are_arms xs ≡ true → tall_arms xs < d → rank ts < 1
      → arms d (sp.arms xs ts) ≡ Some (xs, ts)

pub record ReadChoices (xs : s.Choices) : Type 0 where
  pub as_more_choices : (d n : ℕ) (ts : List Token) → are_choices xs ≡ true → tall_choices xs < d → rank ts < 1 → links.choices xs ≤ n
      → more_choices d n (sp.choices xs ts) ≡ Some (xs, ts)
  pub as_choices : (d : ℕ) (ts : List Token) → some_choice xs ≡ true → are_choices xs ≡ true → tall_choices xs < d → rank ts < 1
      → choices d (sp.choices xs ts) ≡ Some (xs, ts)

pub record ReadOtherwise (o : s.Otherwise) : Type 0 where
  pub as_otherwise : (d : ℕ) (ts : List Token) → is_otherwise o ≡ true → tall_otherwise o < d
      → otherwise d (sp.otherwise o (t.Key k.End ∷ ts)) ≡ Some (o, t.Key k.End ∷ ts)

abbrev pub AsTest : s.Cond → Type 0
AsTest x = (d : ℕ) (ts : List Token) → is_test x ≡ true → is_cond x ≡ true → tall_cond x ≤ d → rank ts < 12 → test d (sp.cond x ts) ≡ Some (x, ts)

abbrev pub AsNeg : s.Cond → Type 0
AsNeg x = (d : ℕ) (ts : List Token) → is_neg x ≡ true → is_cond x ≡ true → tall_cond x ≤ d → rank ts < 12 → neg d (sp.cond x ts) ≡ Some (x, ts)

abbrev pub AsConj : s.Cond → Type 0
AsConj x = (d n m : ℕ) (ts : List Token) → is_conj x ≡ true → is_cond x ≡ true → tall_cond x ≤ d → rank ts < 12 → n ≡ links.negs x + m
    → (neg d (sp.cond x ts) >>= negs d n) ≡ negs d m x ts

abbrev pub AsDisj : s.Cond → Type 0
AsDisj x = (d n m : ℕ) (ts : List Token) → is_cond x ≡ true → tall_cond x ≤ d → rank ts < 11 → n ≡ links.conjs x + m
    → (conj d (sp.cond x ts) >>= conjs d n) ≡ conjs d m x ts

pub record ReadCond (x : s.Cond) : Type 0 where
  pub as_test : AsTest x
  pub as_neg : AsNeg x
  pub as_conj : AsConj x
  pub as_disj : AsDisj x

pub record ReadFilter (f : s.Filter) : Type 0 where
  pub as_where : (d : ℕ) (ts : List Token) → is_filter f ≡ true → tall_filter f ≤ d → rank ts < 6 → where_filter d (sp.filter k.Where f ts) ≡ Some (f, ts)
  pub as_having : (d : ℕ) (ts : List Token) → is_filter f ≡ true → tall_filter f ≤ d → rank ts < 4 → having_filter d (sp.filter k.Having f ts) ≡ Some (f, ts)

pub record ReadItem (x : s.Item) : Type 0 where
  pub as_item : (d : ℕ) (ts : List Token) → is_item x ≡ true → tall_item x ≤ d → rank ts < 9 → item d (sp.item x ts) ≡ Some (x, ts)

pub record ReadItems (xs : s.Items) : Type 0 where
  pub as_more_items : (d n : ℕ) (ts : List Token) → are_items xs ≡ true → tall_items xs ≤ d → rank ts < 7 → links.items xs ≤ n
      → more_items d n (sp.more_items xs ts) ≡ Some (xs, ts)
  pub as_items : (d : ℕ) (ts : List Token) → some_item xs ≡ true → are_items xs ≡ true → tall_items xs ≤ d → rank ts < 7
      → items d (sp.items xs ts) ≡ Some (xs, ts)

pub record ReadList (x : s.SelectList) : Type 0 where
  pub as_list : (d : ℕ) (ts : List Token) → is_list x ≡ true → tall_list x ≤ d → rank ts < 7 → select_list d (sp.select_list x ts) ≡ Some (x, ts)

abbrev pub AsTprim : s.TableRef → Type 0
AsTprim x = (d : ℕ) (ts : List Token) → is_tprim x ≡ true → is_table x ≡ true → tall_table x ≤ d → rank ts < 9 → tprim d (sp.table x ts) ≡ Some (x, ts)

abbrev pub AsTref : s.TableRef → Type 0
AsTref x = (d n m : ℕ) (ts : List Token) → is_table x ≡ true → tall_table x ≤ d → rank ts < 9 → n ≡ links.joins x + m
    → (tprim d (sp.table x ts) >>= joins d n) ≡ joins d m x ts

pub record ReadTable (x : s.TableRef) : Type 0 where
  pub as_tprim : AsTprim x
  pub as_tref : AsTref x

pub record ReadTables (xs : s.TableRefs) : Type 0 where
  pub as_more_tables : (d n : ℕ) (ts : List Token) → are_tables xs ≡ true → tall_tables xs ≤ d → rank ts < 7 → links.tables xs ≤ n
      → more_tables d n (sp.more_tables xs ts) ≡ Some (xs, ts)
  pub as_tables : (d : ℕ) (ts : List Token) → some_table xs ≡ true → are_tables xs ≡ true → tall_tables xs ≤ d → rank ts < 7
      → tables d (sp.tables xs ts) ≡ Some (xs, ts)

abbrev pub AsQprim : s.Query → Type 0
AsQprim x = (d : ℕ) (ts : List Token) → is_qprim x ≡ true → is_query x ≡ true → tall_query x ≤ d → rank ts < 4 → qprim d (sp.query x ts) ≡ Some (x, ts)

abbrev pub AsQterm : s.Query → Type 0
AsQterm x = (d n m : ℕ) (ts : List Token) → is_qterm x ≡ true → is_query x ≡ true → tall_query x ≤ d → rank ts < 4 → n ≡ links.qprims x + m
    → (qprim d (sp.query x ts) >>= qprims d n) ≡ qprims d m x ts

abbrev pub AsCombined : s.Query → Type 0
AsCombined x = (d n m : ℕ) (ts : List Token) → is_query x ≡ true → tall_query x ≤ d → rank ts < 3 → n ≡ links.qterms x + m
    → (qterm d (sp.query x ts) >>= qterms d n) ≡ qterms d m x ts

pub record ReadQuery (x : s.Query) : Type 0 where
  pub as_qprim : AsQprim x
  pub as_qterm : AsQterm x
  pub as_combined : AsCombined x

-- ---- whole chains

pub term_read : (x : s.Expr) → AsTerm x → (d : ℕ) (ts : List Token) → is_term x ≡ true → is_expr x ≡ true → tall x ≤ d → rank ts < 14
    → term d (sp.expr x ts) ≡ Some (x, ts)
term_read x h d ts p g tall low =
    let fit = links.factors_fit x ts in
    h d (length (sp.expr x ts)) (length (sp.expr x ts) - links.factors x) ts p g tall (omega arith) (omega (arith, fit))
    ∙ stops.factors_stop (expr d) (cond d) (query d) (table d) (length (sp.expr x ts) - links.factors x) x ts low

pub sum_read : (x : s.Expr) → ReadExpr x → (d : ℕ) (ts : List Token) → is_expr x ≡ true → tall x ≤ d → rank ts < 13 → sum d (sp.expr x ts) ≡ Some (x, ts)
sum_read x h d ts g tall low =
    let fit = links.terms_fit x ts in
    h.as_sum d (length (sp.expr x ts)) (length (sp.expr x ts) - links.terms x) ts g tall (omega arith) (omega (arith, fit))
    ∙ stops.terms_stop (expr d) (cond d) (query d) (table d) (length (sp.expr x ts) - links.terms x) x ts low

pub conj_read : (x : s.Cond) → AsConj x → (d : ℕ) (ts : List Token) → is_conj x ≡ true → is_cond x ≡ true → tall_cond x ≤ d → rank ts < 11
    → conj d (sp.cond x ts) ≡ Some (x, ts)
conj_read x h d ts p g tall low =
    let fit = links.negs_fit x ts in
    h d (length (sp.cond x ts)) (length (sp.cond x ts) - links.negs x) ts p g tall (omega arith) (omega (arith, fit))
    ∙ stops.negs_stop (expr d) (cond d) (query d) (table d) (length (sp.cond x ts) - links.negs x) x ts low

pub disj_read : (x : s.Cond) → ReadCond x → (d : ℕ) (ts : List Token) → is_cond x ≡ true → tall_cond x ≤ d → rank ts < 10 → disj d (sp.cond x ts) ≡ Some (x, ts)
disj_read x h d ts g tall low =
    let fit = links.conjs_fit x ts in
    h.as_disj d (length (sp.cond x ts)) (length (sp.cond x ts) - links.conjs x) ts g tall (omega arith) (omega (arith, fit))
    ∙ stops.conjs_stop (expr d) (cond d) (query d) (table d) (length (sp.cond x ts) - links.conjs x) x ts low

pub tref_read : (x : s.TableRef) → ReadTable x → (d : ℕ) (ts : List Token) → is_table x ≡ true → tall_table x ≤ d → rank ts < 8 → tref d (sp.table x ts) ≡ Some (x, ts)
tref_read x h d ts g tall low =
    let fit = links.joins_fit x ts in
    h.as_tref d (length (sp.table x ts)) (length (sp.table x ts) - links.joins x) ts g tall (omega arith) (omega (arith, fit))
    ∙ stops.joins_stop (expr d) (cond d) (query d) (table d) (length (sp.table x ts) - links.joins x) x ts low

pub qterm_read : (x : s.Query) → AsQterm x → (d : ℕ) (ts : List Token) → is_qterm x ≡ true → is_query x ≡ true → tall_query x ≤ d → rank ts < 3
    → qterm d (sp.query x ts) ≡ Some (x, ts)
qterm_read x h d ts p g tall low =
    let fit = links.qprims_fit x ts in
    h d (length (sp.query x ts)) (length (sp.query x ts) - links.qprims x) ts p g tall (omega arith) (omega (arith, fit))
    ∙ stops.qprims_stop (expr d) (cond d) (query d) (table d) (length (sp.query x ts) - links.qprims x) x ts low

pub combined_read : (x : s.Query) → ReadQuery x → (d : ℕ) (ts : List Token) → is_query x ≡ true → tall_query x ≤ d → rank ts < 2 → combined d (sp.query x ts) ≡ Some (x, ts)
combined_read x h d ts g tall low =
    let fit = links.qterms_fit x ts in
    h.as_combined d (length (sp.query x ts)) (length (sp.query x ts) - links.qterms x) ts g tall (omega arith) (omega (arith, fit))
    ∙ stops.qterms_stop (expr d) (cond d) (query d) (table d) (length (sp.query x ts) - links.qterms x) x ts low

-- ---- one level deeper

pub expr_in : (x : s.Expr) → ReadExpr x → (d : ℕ) (ts : List Token) → is_expr x ≡ true → tall x < d → rank ts < 13 → expr d (sp.expr x ts) ≡ Some (x, ts)
expr_in x h zero ts g tall low = absurd (omega arith)
expr_in x h (suc d) ts g tall low = sum_read x h d ts g (omega arith) low

pub cond_in : (x : s.Cond) → ReadCond x → (d : ℕ) (ts : List Token) → is_cond x ≡ true → tall_cond x < d → rank ts < 10 → cond d (sp.cond x ts) ≡ Some (x, ts)
cond_in x h zero ts g tall low = absurd (omega arith)
cond_in x h (suc d) ts g tall low = disj_read x h d ts g (omega arith) low

pub table_in : (x : s.TableRef) → ReadTable x → (d : ℕ) (ts : List Token) → is_table x ≡ true → tall_table x < d → rank ts < 8 → table d (sp.table x ts) ≡ Some (x, ts)
table_in x h zero ts g tall low = absurd (omega arith)
table_in x h (suc d) ts g tall low = tref_read x h d ts g (omega arith) low

pub query_in : (x : s.Query) → ReadQuery x → (d : ℕ) (ts : List Token) → is_query x ≡ true → tall_query x < d → rank ts < 2 → query d (sp.query x ts) ≡ Some (x, ts)
query_in x h zero ts g tall low = absurd (omega arith)
query_in x h (suc d) ts g tall low = combined_read x h d ts g (omega arith) low
