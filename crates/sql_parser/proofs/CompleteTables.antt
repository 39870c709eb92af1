-- Tables and queries that are spelled so are read, where their parts are.
use Rattle.std.proofs.Common.{◌≡◌, ℕ, zero, suc, ◌<◌, ◌≤◌, Bool, true, false, List, [], ◌∷◌, Option, Some, None, refl, ◌∙◌, ap, length, arith}
use Rattle.std.specs.Prelude.{◌&&◌, not}
use Rattle.sql_text.specs.declared.key.Key.TheVariants as k
use Rattle.sql_text.specs.declared.token.Token.{Token}
use Rattle.sql_text.specs.declared.token.Token.TheVariants as t
use Rattle.sql_ast.specs.declared.name.Alias.{Alias}
use Rattle.sql_ast.specs.declared.name.Column.{Column}
use Rattle.sql_ast.specs.declared.name.Correlation.{Correlation}
use Rattle.sql_ast.specs.declared.word.SetFunction.{SetFunction}
use Rattle.sql_ast.specs.declared.word.SetFunction.TheVariants as of
use Rattle.sql_ast.specs.declared.word.SetOperator.{SetOperator}
use Rattle.sql_ast.specs.declared.word.SetQuantifier.{SetQuantifier}
use Rattle.sql_ast.specs.declared.word.Sign.{Sign}
use Rattle.sql_ast.specs.declared.word.Sign.TheVariants as sign
use Rattle.sql_ast.specs.Syntax as s
use Rattle.sql_ast.specs.Spelling as sp
use Rattle.sql_ast.specs.Grammatical.{is_tprim, is_qprim, is_qterm, some_item, some_table, cond_without_sub, is_cond, is_filter, is_item, are_items, is_list, is_table, are_tables, is_query}
use Rattle.sql_parser.specs.Words.{◌>>=◌, all_of_at, all_at, set_quantifier_at}
use Rattle.sql_parser.specs.Read as r
use Rattle.sql_parser.specs.Read.{expr, cond, query, table}
use Rattle.sql_parser.proofs.Steps.{and_ok, not_ok}
use Rattle.sql_parser.proofs.Balanced.{tall, tall_items, tall_tables}
use Rattle.sql_parser.proofs.Lookahead as look
use Rattle.sql_parser.proofs.Lookahead.{rank, starts}
use Rattle.sql_parser.proofs.Stops as stops
use Rattle.sql_parser.proofs.Links as links
use Rattle.sql_parser.proofs.CompleteWords as words
use Rattle.sql_parser.proofs.CompleteRules.{AsTprim, AsTref, AsQprim, AsQterm, AsCombined, ReadExpr, ReadCond, ReadFilter, ReadItem, ReadItems, ReadList, ReadTable, ReadTables, ReadQuery, more_items, select_list, joins, more_tables, qprim, qprims, qterm, qterms, sum_read, disj_read, tref_read, qterm_read, query_in, table_in}

-- ---- items

-- an expression isn't all columns of a range
column_not_all : (range : Option (List ℕ)) (name : List ℕ) (ts : List Token) → rank ts < 15 → all_of_at (sp.column (record { range = range; name = name }) ts) ≡ None
column_not_all (Some n) name ts low = refl
column_not_all None name [] low = refl
column_not_all None name (t.Dot ∷ ts) low = absurd (omega arith)
column_not_all None name (_ ∷ ts) low = refl

sign_not_all : (p : Sign) (ts : List Token) → all_of_at (sp.sign_of p ∷ ts) ≡ None
sign_not_all sign.Plus ts = refl
sign_not_all sign.Minus ts = refl

function_not_all : (f : SetFunction) (ts : List Token) → all_of_at (sp.set_function f ∷ ts) ≡ None
function_not_all of.Count ts = refl
function_not_all of.Sum ts = refl
function_not_all of.Avg ts = refl
function_not_all of.Min ts = refl
function_not_all of.Max ts = refl

pub expr_not_all : (x : s.Expr) (ts : List Token) → rank ts < 15 → all_of_at (sp.expr x ts) ≡ None
expr_not_all (s.add a op b) ts low = let next = (look.additive_rank op (sp.expr b ts)).0 in expr_not_all a (sp.additive op ∷ sp.expr b ts) (omega (arith, next))
expr_not_all (s.multiply a op b) ts low = let next = (look.multiplicative_rank op (sp.expr b ts)).0 in expr_not_all a (sp.multiplicative op ∷ sp.expr b ts) (omega (arith, next))
expr_not_all (s.signed p a) ts low = sign_not_all p (sp.expr a ts)
expr_not_all (s.number n) ts low = refl
expr_not_all (s.string x) ts low = refl
expr_not_all (s.col c) ts low = column_not_all c.range c.name ts low
expr_not_all (s.paren a) ts low = refl
expr_not_all (s.scalar q) ts low = refl
expr_not_all s.count_all ts low = refl
expr_not_all (s.aggregate f each a) ts low = function_not_all f _
expr_not_all (s.searched xs o) ts low = refl
expr_not_all (s.simple a xs o) ts low = refl
expr_not_all (s.coalesce a xs) ts low = refl
expr_not_all (s.null_if a b) ts low = refl
expr_not_all (s.cast_null d) ts low = refl

alias_low : (a : Option Alias) (ts : List Token) → rank ts < 9 → rank (sp.alias a ts) < 13
alias_low None ts low = omega arith
alias_low (Some a) ts low = worded a.noise a.name
  where
    worded : (noise : Bool) (name : List ℕ) → rank (sp.optional k.As noise (t.Name name ∷ ts)) < 13
    worded true name = omega arith
    worded false name = omega arith

pub value_read : (a : s.Expr) (n : Option Alias) → ReadExpr a → ReadItem (s.item a n)
value_read a n ra = record {
  as_item = λ d ts g tall low.
      let us = sp.alias n ts in
      let next = alias_low n ts low in
      rw (r.item, expr_not_all a us (omega (arith, next)), sum_read a ra d us g tall next)
      (ap (λ x. Some (s.item a x.0, x.1)) (words.alias_read n ts low));
}

pub all_of_read : (n : List ℕ) → ReadItem (s.all_of n)
all_of_read n = record { as_item = λ d ts g tall low. refl }

items_low : (xs : s.Items) (ts : List Token) → rank ts < 7 → rank (sp.more_items xs ts) < 9
items_low s.no_item ts low = omega arith
items_low (s.one_item x xs) ts low = omega arith

more_items_read : (x : s.Item) (xs : s.Items) → ReadItem x → ReadItems xs → (d n : ℕ) (ts : List Token) → are_items (s.one_item x xs) ≡ true
    → tall_items (s.one_item x xs) ≤ d → rank ts < 7 → suc (links.items xs) ≤ n → more_items d n (sp.more_items (s.one_item x xs) ts) ≡ Some (s.one_item x xs, ts)
more_items_read x xs rx rs d zero ts g tall low enough = absurd (omega arith)
more_items_read x xs rx rs d (suc n) ts g tall low enough =
    let gg = and_ok (is_item x) (are_items xs) g in
    rw (rx.as_item d (sp.more_items xs ts) gg.0 (omega arith) (items_low xs ts low), rs.as_more_items d n ts gg.1 (omega arith) low (omega arith)) refl

pub no_items : ReadItems s.no_item
no_items = record {
  as_more_items = λ d n ts g tall low enough. stops.items_stop (expr d) (cond d) (query d) (table d) n ts low;
  as_items = λ d ts some g tall low. absurd (cc);
}

pub one_items : (x : s.Item) (xs : s.Items) → ReadItem x → ReadItems xs → ReadItems (s.one_item x xs)
one_items x xs rx rs = record {
  as_more_items = more_items_read x xs rx rs;
  as_items = λ d ts some g tall low.
      let gg = and_ok (is_item x) (are_items xs) g in
      let us = sp.more_items xs ts in
      let fit = links.items_fit xs ts in
      rw (rx.as_item d us gg.0 (omega arith) (items_low xs ts low), rs.as_more_items d (length us) ts gg.1 (omega arith) low (omega (arith, fit))) refl;
}

pub item_starts : (x : s.Item) (ts : List Token) → starts (sp.item x ts) ≡ true
item_starts (s.item a n) ts = look.expr_starts a (sp.alias n ts)
item_starts (s.all_of n) ts = refl

pub items_start : (xs : s.Items) (ts : List Token) → some_item xs ≡ true → starts (sp.items xs ts) ≡ true
items_start s.no_item ts h = absurd (cc)
items_start (s.one_item x xs) ts h = item_starts x (sp.more_items xs ts)

pub star_read : ReadList s.star
star_read = record { as_list = λ d ts g tall low. refl }

pub list_read : (xs : s.Items) → ReadItems xs → ReadList (s.items xs)
list_read xs rs = record {
  as_list = λ d ts g tall low.
      let gg = and_ok (some_item xs) (are_items xs) g in
      stops.starts_list (expr d) (cond d) (query d) (table d) (sp.items xs ts) (items_start xs ts gg.0)
      ∙ ap (λ f. f >>= (λ xs. λ us. Some (s.items xs, us))) (rs.as_items d ts gg.0 gg.1 tall low);
}

list_unquantified : (x : s.SelectList) (ts : List Token) → is_list x ≡ true → set_quantifier_at (sp.select_list x ts) ≡ (None, sp.select_list x ts)
list_unquantified s.star ts g = refl
list_unquantified (s.items xs) ts g = stops.set_quantifier_none (sp.items xs ts) (items_start xs ts (and_ok (some_item xs) (are_items xs) g).0)

-- ---- tables

pub named_read : (n : List ℕ) (c : Option Correlation) → AsTprim (s.named n c)
named_read n c = λ d ts p g tall low. rw (words.optional_correlation_read c ts low) refl

pub derived_read : (x : s.Query) (c : Correlation) → ReadQuery x → AsTprim (s.derived x c)
derived_read x c rx = λ d ts p g tall low.
    let us = sp.correlation c ts in
    rw (look.is_query x (t.RightParen ∷ us) refl, query_in x rx d (t.RightParen ∷ us) g (omega arith) (omega arith))
    (ap (λ f. f >>= (λ c. λ us. Some (s.derived x c, us))) (words.correlation_read c ts low))

pub joined_read : (x : s.TableRef) → ReadTable x → AsTprim (s.joined x)
joined_read x rx = λ d ts p g tall low.
    let gx = and_ok (not (is_tprim x)) (is_table x) g in
    rw (look.join_not_query x (t.RightParen ∷ ts), table_in x rx d (t.RightParen ∷ ts) gx.1 (omega arith) (omega arith), not_ok (is_tprim x) gx.0) refl

pub of_tprim : (x : s.TableRef) → is_tprim x ≡ true → links.joins x ≡ 0 → AsTprim x → ReadTable x
of_tprim x p z h = record {
  as_tprim = h;
  as_tref = λ d n m ts g tall low turns. ap (λ f. f >>= joins d n) (h d ts p g tall low) ∙ (let e : n ≡ m = omega arith in ap (λ i. joins d i x ts) e);
}

pub join_read : (a b : s.TableRef) (c : s.Cond) (inner : Bool) → ReadTable a → ReadTable b → ReadCond c → AsTref (s.join a inner b c)
join_read a b c inner ra rb rc = λ d n m ts g tall low turns.
    let ga = and_ok (is_table a) ((is_tprim b && is_table b) && is_cond c) g in
    let gc = and_ok (is_tprim b && is_table b) (is_cond c) ga.1 in
    let gb = and_ok (is_tprim b) (is_table b) gc.0 in
    let us = sp.table b (t.Key k.On ∷ sp.cond c ts) in
    ra.as_tref d n (suc m) (sp.optional k.Inner inner (t.Key k.Join ∷ us)) ga.0 (omega arith) (inner_low inner us) (omega arith)
    ∙ rw (r.more_joins, words.inner_read inner us, rb.as_tprim d (t.Key k.On ∷ sp.cond c ts) gb.0 gb.1 (omega arith) (omega arith), disj_read c rc d ts gc.1 (omega arith) (omega arith)) refl
  where
    inner_low : (inner : Bool) (us : List Token) → rank (sp.optional k.Inner inner (t.Key k.Join ∷ us)) < 9
    inner_low true us = omega arith
    inner_low false us = omega arith

pub left_join_read : (a b : s.TableRef) (c : s.Cond) (outer : Bool) → ReadTable a → ReadTable b → ReadCond c → AsTref (s.left_join a outer b c)
left_join_read a b c outer ra rb rc = λ d n m ts g tall low turns.
    let ga = and_ok (is_table a) ((is_tprim b && is_table b) && (is_cond c && cond_without_sub c)) g in
    let gc = and_ok (is_tprim b && is_table b) (is_cond c && cond_without_sub c) ga.1 in
    let gb = and_ok (is_tprim b) (is_table b) gc.0 in
    let gs = and_ok (is_cond c) (cond_without_sub c) gc.1 in
    let us = sp.table b (t.Key k.On ∷ sp.cond c ts) in
    ra.as_tref d n (suc m) (t.Key k.Left ∷ sp.optional k.Outer outer (t.Key k.Join ∷ us)) ga.0 (omega arith) (omega arith) (omega arith)
    ∙ rw (r.more_joins, words.left_read outer us, rb.as_tprim d (t.Key k.On ∷ sp.cond c ts) gb.0 gb.1 (omega arith) (omega arith), disj_read c rc d ts gs.0 (omega arith) (omega arith), gs.1) refl

pub cross_join_read : (a b : s.TableRef) → ReadTable a → ReadTable b → AsTref (s.cross_join a b)
cross_join_read a b ra rb = λ d n m ts g tall low turns.
    let ga = and_ok (is_table a) (is_tprim b && is_table b) g in
    let gb = and_ok (is_tprim b) (is_table b) ga.1 in
    ra.as_tref d n (suc m) (t.Key k.Cross ∷ t.Key k.Join ∷ sp.table b ts) ga.0 (omega arith) (omega arith) (omega arith)
    ∙ rw (rb.as_tprim d ts gb.0 gb.1 (omega arith) low) refl

tables_low : (xs : s.TableRefs) (ts : List Token) → rank ts < 7 → rank (sp.more_tables xs ts) < 8
tables_low s.no_table ts low = omega arith
tables_low (s.one_table x xs) ts low = omega arith

more_tables_read : (x : s.TableRef) (xs : s.TableRefs) → ReadTable x → ReadTables xs → (d n : ℕ) (ts : List Token) → are_tables (s.one_table x xs) ≡ true
    → tall_tables (s.one_table x xs) ≤ d → rank ts < 7 → suc (links.tables xs) ≤ n → more_tables d n (sp.more_tables (s.one_table x xs) ts) ≡ Some (s.one_table x xs, ts)
more_tables_read x xs rx rs d zero ts g tall low enough = absurd (omega arith)
more_tables_read x xs rx rs d (suc n) ts g tall low enough =
    let gg = and_ok (is_table x) (are_tables xs) g in
    rw (tref_read x rx d (sp.more_tables xs ts) gg.0 (omega arith) (tables_low xs ts low), rs.as_more_tables d n ts gg.1 (omega arith) low (omega arith)) refl

pub no_tables : ReadTables s.no_table
no_tables = record {
  as_more_tables = λ d n ts g tall low enough. stops.tables_stop (expr d) (cond d) (query d) (table d) n ts low;
  as_tables = λ d ts some g tall low. absurd (cc);
}

pub one_tables : (x : s.TableRef) (xs : s.TableRefs) → ReadTable x → ReadTables xs → ReadTables (s.one_table x xs)
one_tables x xs rx rs = record {
  as_more_tables = more_tables_read x xs rx rs;
  as_tables = λ d ts some g tall low.
      let gg = and_ok (is_table x) (are_tables xs) g in
      let us = sp.more_tables xs ts in
      let fit = links.tables_fit xs ts in
      rw (tref_read x rx d us gg.0 (omega arith) (tables_low xs ts low), rs.as_more_tables d (length us) ts gg.1 (omega arith) low (omega (arith, fit))) refl;
}

-- ---- queries

having_low : (f : s.Filter) (ts : List Token) → rank ts < 4 → rank (sp.filter k.Having f ts) < 5
having_low s.no_filter ts low = omega arith
having_low (s.only_where c) ts low = omega arith

group_low : (cs : List Column) (ts : List Token) → rank ts < 5 → rank (sp.group_by cs ts) < 6
group_low [] ts low = omega arith
group_low (c ∷ cs) ts low = omega arith

where_low : (f : s.Filter) (ts : List Token) → rank ts < 6 → rank (sp.filter k.Where f ts) < 7
where_low s.no_filter ts low = omega arith
where_low (s.only_where c) ts low = omega arith

pub block_read : (each : Option SetQuantifier) (list : s.SelectList) (from : s.TableRefs) (by : s.Filter) (group : List Column) (having : s.Filter)
    → ReadList list → ReadTables from → ReadFilter by → ReadFilter having → AsQprim (s.block each list from by group having)
block_read each list from by group having rl rf rb rh = λ d ts p g tall low.
    let gl = and_ok (is_list list) ((some_table from && are_tables from) && (is_filter by && is_filter having)) g in
    let gf = and_ok (some_table from && are_tables from) (is_filter by && is_filter having) gl.1 in
    let gs = and_ok (some_table from) (are_tables from) gf.0 in
    let gw = and_ok (is_filter by) (is_filter having) gf.1 in
    let us = sp.filter k.Having having ts in
    let vs = sp.group_by group us in
    let ws = sp.filter k.Where by vs in
    let xs = t.Key k.From ∷ sp.tables from ws in
    let lu = having_low having ts low in
    let lv = group_low group us lu in
    let lw = where_low by vs lv in
    ap (λ v. select_list d v.1 >>= (λ list. λ us. r.from (expr d) (cond d) (query d) (table d) us >>= (λ tables. λ vs. r.block_end (expr d) (cond d) (query d) (table d) v.0 list tables vs)))
    (words.set_quantifier_read each (sp.select_list list xs) (list_unquantified list xs gl.0))
    ∙ rw (
      rl.as_list d xs gl.0 (omega arith) (omega arith),
      rf.as_tables d ws gs.0 gs.1 (omega arith) lw,
      rb.as_where d vs gw.0 (omega arith) lv,
      words.group_by_read group us lu,
      rh.as_having d ts gw.1 (omega arith) low,
    ) refl

pub enclosed_read : (x : s.Query) → ReadQuery x → AsQprim (s.enclosed x)
enclosed_read x rx = λ d ts p g tall low. rw (query_in x rx d (t.RightParen ∷ ts) g (omega arith) (omega arith)) refl

pub of_qterm : (x : s.Query) → is_qterm x ≡ true → links.qterms x ≡ 0 → AsQterm x → AsCombined x
of_qterm x p z h = λ d n m ts g tall low turns.
    ap (λ f. f >>= qterms d n) (qterm_read x h d ts p g tall low) ∙ (let e : n ≡ m = omega arith in ap (λ i. qterms d i x ts) e)

pub of_qprim : (x : s.Query) → is_qprim x ≡ true → links.qprims x ≡ 0 → AsQprim x → AsQterm x
of_qprim x p z h = λ d n m ts q g tall low turns.
    ap (λ f. f >>= qprims d n) (h d ts p g tall low) ∙ (let e : n ≡ m = omega arith in ap (λ i. qprims d i x ts) e)

pub one_qprim : (x : s.Query) → is_qprim x ≡ true → is_qterm x ≡ true → links.qprims x ≡ 0 → links.qterms x ≡ 0 → AsQprim x → ReadQuery x
one_qprim x p0 p1 z0 z1 h =
    let i : AsQterm x = of_qprim x p0 z0 h in
    record { as_qprim = h; as_qterm = i; as_combined = of_qterm x p1 z1 i }

pub no_all : (b : s.Query) (ts : List Token) → all_at (sp.query b ts) ≡ (false, sp.query b ts)
no_all (s.combine a op all b) ts = no_all a (sp.set_operator op ∷ sp.optional k.All all (sp.query b ts))
no_all (s.intersect a all b) ts = no_all a (t.Key k.Intersect ∷ sp.optional k.All all (sp.query b ts))
no_all (s.block each list from by group having) ts = refl
no_all (s.enclosed q) ts = refl

pub intersect_read : (a b : s.Query) (all : Bool) → ReadQuery a → ReadQuery b → AsQterm (s.intersect a all b)
intersect_read a b all ra rb = λ d n m ts p g tall low turns.
    let gg = and_ok (is_qterm a && is_query a) (is_qprim b && is_query b) g in
    let ga = and_ok (is_qterm a) (is_query a) gg.0 in
    let gb = and_ok (is_qprim b) (is_query b) gg.1 in
    let us = sp.optional k.All all (sp.query b ts) in
    ra.as_qterm d n (suc m) (t.Key k.Intersect ∷ us) ga.0 ga.1 (omega arith) (omega arith) (omega arith)
    ∙ ap (λ v. qprim d v.1 >>= (λ right. qprims d m (s.intersect a v.0 right))) (words.all_read all (sp.query b ts) (no_all b ts))
    ∙ ap (λ f. f >>= (λ right. qprims d m (s.intersect a all right))) (rb.as_qprim d ts gb.0 gb.1 (omega arith) low)

pub combine_read : (a b : s.Query) (op : SetOperator) (all : Bool) → ReadQuery a → ReadQuery b → AsCombined (s.combine a op all b)
combine_read a b op all ra rb = λ d n m ts g tall low turns.
    let ga = and_ok (is_query a) (is_qterm b && is_query b) g in
    let gb = and_ok (is_qterm b) (is_query b) ga.1 in
    let us = sp.optional k.All all (sp.query b ts) in
    let next = (look.set_operator_rank op us).0 in
    ra.as_combined d n (suc m) (sp.set_operator op ∷ us) ga.0 (omega arith) (omega (arith, next)) (omega arith)
    ∙ rw (r.more_qterms, words.set_operator_read op us) (
    ap (λ v. qterm d v.1 >>= (λ right. qterms d m (s.combine a op v.0 right))) (words.all_read all (sp.query b ts) (no_all b ts))
    ∙ ap (λ f. f >>= (λ right. qterms d m (s.combine a op all right))) (qterm_read b rb.as_qterm d ts gb.0 gb.1 (omega arith) low))
