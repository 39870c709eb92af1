-- Conditions that are spelled so are read, where their parts are.
use Rattle.std.proofs.Common.{◌≡◌, ℕ, suc, ◌<◌, ◌≤◌, Bool, true, false, List, ◌∷◌, Some, refl, ◌∙◌, ap, arith}
use Rattle.std.specs.Prelude.{◌&&◌, not}
use Rattle.shared_types.specs.declared.compare.CmpOp.{CmpOp}
use Rattle.sql_text.specs.declared.key.Key.{Key}
use Rattle.sql_text.specs.declared.key.Key.TheVariants as k
use Rattle.sql_text.specs.declared.token.Token.{Token}
use Rattle.sql_text.specs.declared.token.Token.TheVariants as t
use Rattle.sql_ast.specs.declared.word.Quantifier.{Quantifier}
use Rattle.sql_ast.specs.Syntax as s
use Rattle.sql_ast.specs.Spelling as sp
use Rattle.sql_ast.specs.Grammatical.{is_test, is_neg, is_conj, some_expr, lone_sub, is_expr, are_exprs, is_cond, is_query}
use Rattle.sql_parser.specs.Ahead.{goes_on}
use Rattle.sql_parser.specs.Words.{◌>>=◌}
use Rattle.sql_parser.specs.Read as r
use Rattle.sql_parser.specs.Read.{expr, cond, query, table}
use Rattle.sql_parser.proofs.Steps.{and_ok, not_ok}
use Rattle.sql_parser.proofs.Balanced.{tall}
use Rattle.sql_parser.proofs.Lookahead as look
use Rattle.sql_parser.proofs.Lookahead.{rank}
use Rattle.sql_parser.proofs.Stops as stops
use Rattle.sql_parser.proofs.Links as links
use Rattle.sql_parser.proofs.CompleteWords as words
use Rattle.sql_parser.proofs.CompleteRules.{AsTest, AsNeg, AsConj, AsDisj, ReadExpr, ReadExprs, ReadCond, ReadFilter, ReadQuery, pred_after, test, neg, negs, conjs, sum_read, conj_read, disj_read, cond_in, query_in}

-- ---- levels

pub of_conj : (x : s.Cond) → is_conj x ≡ true → links.conjs x ≡ 0 → AsConj x → AsDisj x
of_conj x p z h = λ d n m ts g tall low turns.
    ap (λ f. f >>= conjs d n) (conj_read x h d ts p g tall low) ∙ (let e : n ≡ m = omega arith in ap (λ i. conjs d i x ts) e)

pub of_neg : (x : s.Cond) → is_neg x ≡ true → links.negs x ≡ 0 → AsNeg x → AsConj x
of_neg x p z h = λ d n m ts q g tall low turns.
    ap (λ f. f >>= negs d n) (h d ts p g tall low) ∙ (let e : n ≡ m = omega arith in ap (λ i. negs d i x ts) e)

-- a tree that is one predicate, or a condition in brackets
pub one_test : (x : s.Cond) → is_test x ≡ true → is_neg x ≡ true → is_conj x ≡ true → links.negs x ≡ 0 → links.conjs x ≡ 0
    → ((d : ℕ) (ts : List Token) → neg d (sp.cond x ts) ≡ test d (sp.cond x ts)) → AsTest x → ReadCond x
one_test x p0 p1 p2 z0 z1 start h =
    let n : AsNeg x = λ d ts p g tall low. start d ts ∙ h d ts p0 g tall low in
    let i : AsConj x = of_neg x p1 z0 n in
    record { as_test = h; as_neg = n; as_conj = i; as_disj = of_conj x p2 z1 i }

pub starts_with : (a : s.Expr) (d : ℕ) (ts : List Token) → neg d (sp.expr a ts) ≡ test d (sp.expr a ts)
starts_with a d ts = stops.starts_neg (expr d) (cond d) (query d) (table d) (sp.expr a ts) (look.expr_starts a ts)

-- ---- predicates

-- one that begins with an operand
operand : (a : s.Expr) → ReadExpr a → (d : ℕ) (ts : List Token) → is_expr a ≡ true → tall a ≤ d → rank ts < 13 → goes_on ts ≡ true
    → test d (sp.expr a ts) ≡ pred_after d a ts
operand a ra d ts g tall low on =
    stops.starts_test (expr d) (cond d) (query d) (table d) (sp.expr a ts) (look.expr_starts a ts) (look.leads a ts on)
    ∙ ap (λ f. f >>= pred_after d) (sum_read a ra d ts g tall low)

pub compare_read : (a b : s.Expr) (op : CmpOp) → ReadExpr a → ReadExpr b → AsTest (s.compare a op b)
compare_read a b op ra rb = λ d ts p g tall low.
    let gab = and_ok (is_expr a) (is_expr b) g in
    operand a ra d (t.Compare op ∷ sp.expr b ts) gab.0 (omega arith) (omega arith) refl
    ∙ rw (r.compared, stops.quantifier_none (sp.expr b ts) (look.expr_starts b ts), sum_read b rb d ts gab.1 (omega arith) (omega arith)) refl

pub quantified_read : (a : s.Expr) (op : CmpOp) (each : Quantifier) (x : s.Query) → ReadExpr a → ReadQuery x → AsTest (s.quantified a op each x)
quantified_read a op each x ra rx = λ d ts p g tall low.
    let gab = and_ok (is_expr a) (is_query x) g in
    let us = t.LeftParen ∷ sp.query x (t.RightParen ∷ ts) in
    operand a ra d (t.Compare op ∷ sp.quantifier each ∷ us) gab.0 (omega arith) (omega arith) refl
    ∙ rw (r.compared, words.quantifier_read each us, query_in x rx d (t.RightParen ∷ ts) gab.1 (omega arith) (omega arith)) refl

-- a word that NOT may stand before
abbrev negated_word : Key → Bool
negated_word k.Between = true
negated_word k.In = true
negated_word k.Like = true
negated_word _ = false

negatable_at : (word : Key) (a : s.Expr) (negative : Bool) (d : ℕ) (us : List Token) → negated_word word ≡ true
    → (pred_after d a (sp.optional k.Not negative (t.Key word ∷ us)) ≡ r.negatable (expr d) (cond d) (query d) (table d) a negative (t.Key word ∷ us))
    × (rank (sp.optional k.Not negative (t.Key word ∷ us)) < 13)
    × (goes_on (sp.optional k.Not negative (t.Key word ∷ us)) ≡ true)
negatable_at k.Between a true d us h = (refl, omega arith, refl)
negatable_at k.Between a false d us h = (refl, omega arith, refl)
negatable_at k.In a true d us h = (refl, omega arith, refl)
negatable_at k.In a false d us h = (refl, omega arith, refl)
negatable_at k.Like a true d us h = (refl, omega arith, refl)
negatable_at k.Like a false d us h = (refl, omega arith, refl)
negatable_at _ a negative d us h = absurd (cc)

negatable : (word : Key) (a : s.Expr) (negative : Bool) → ReadExpr a → (d : ℕ) (us : List Token) → negated_word word ≡ true → is_expr a ≡ true → tall a ≤ d
    → test d (sp.expr a (sp.optional k.Not negative (t.Key word ∷ us))) ≡ r.negatable (expr d) (cond d) (query d) (table d) a negative (t.Key word ∷ us)
negatable word a negative ra d us h g tall =
    let n = negatable_at word a negative d us h in
    operand a ra d (sp.optional k.Not negative (t.Key word ∷ us)) g tall n.1 n.2 ∙ n.0

pub between_read : (a b c : s.Expr) (negative : Bool) → ReadExpr a → ReadExpr b → ReadExpr c → AsTest (s.between a negative b c)
between_read a b c negative ra rb rc = λ d ts p g tall low.
    let ga = and_ok (is_expr a) (is_expr b && is_expr c) g in
    let gb = and_ok (is_expr b) (is_expr c) ga.1 in
    negatable k.Between a negative ra d (sp.expr b (t.Key k.And ∷ sp.expr c ts)) refl ga.0 (omega arith)
    ∙ rw (sum_read b rb d (t.Key k.And ∷ sp.expr c ts) gb.0 (omega arith) (omega arith), sum_read c rc d ts gb.1 (omega arith) (omega arith)) refl

pub in_query_read : (a : s.Expr) (negative : Bool) (x : s.Query) → ReadExpr a → ReadQuery x → AsTest (s.in_query a negative x)
in_query_read a negative x ra rx = λ d ts p g tall low.
    let gab = and_ok (is_expr a) (is_query x) g in
    negatable k.In a negative ra d (t.LeftParen ∷ sp.query x (t.RightParen ∷ ts)) refl gab.0 (omega arith)
    ∙ rw (look.is_query x (t.RightParen ∷ ts) refl, query_in x rx d (t.RightParen ∷ ts) gab.1 (omega arith) (omega arith)) refl

pub in_list_read : (a : s.Expr) (negative : Bool) (xs : s.Exprs) → ReadExpr a → ReadExprs xs → AsTest (s.in_list a negative xs)
in_list_read a negative xs ra rs = λ d ts p g tall low.
    let ga = and_ok (is_expr a) ((some_expr xs && not (lone_sub xs)) && are_exprs xs) g in
    let gx = and_ok (some_expr xs && not (lone_sub xs)) (are_exprs xs) ga.1 in
    let gs = and_ok (some_expr xs) (not (lone_sub xs)) gx.0 in
    negatable k.In a negative ra d (t.LeftParen ∷ sp.exprs xs (t.RightParen ∷ ts)) refl ga.0 (omega arith)
    ∙ rw (look.list_not_query xs ts gx.1 gs.0 (not_ok (lone_sub xs) gs.1), rs.as_exprs d (t.RightParen ∷ ts) gs.0 gx.1 (omega arith) (omega arith)) refl

pub like_read : (a b : s.Expr) (negative : Bool) → ReadExpr a → ReadExpr b → AsTest (s.like a negative b)
like_read a b negative ra rb = λ d ts p g tall low.
    let gab = and_ok (is_expr a) (is_expr b) g in
    negatable k.Like a negative ra d (sp.expr b ts) refl gab.0 (omega arith)
    ∙ rw (sum_read b rb d ts gab.1 (omega arith) (omega arith)) refl

null_at : (a : s.Expr) (negative : Bool) (d : ℕ) (ts : List Token) → pred_after d a (t.Key k.Is ∷ sp.optional k.Not negative (t.Key k.Null ∷ ts)) ≡ Some (s.is_null a negative, ts)
null_at a true d ts = refl
null_at a false d ts = refl

pub is_null_read : (a : s.Expr) (negative : Bool) → ReadExpr a → AsTest (s.is_null a negative)
is_null_read a negative ra = λ d ts p g tall low.
    operand a ra d (t.Key k.Is ∷ sp.optional k.Not negative (t.Key k.Null ∷ ts)) g tall (omega arith) refl ∙ null_at a negative d ts

pub exists_read : (x : s.Query) → ReadQuery x → AsTest (s.exists x)
exists_read x rx = λ d ts p g tall low. rw (query_in x rx d (t.RightParen ∷ ts) g (omega arith) (omega arith)) refl

pub bracket_read : (x : s.Cond) → ReadCond x → AsTest (s.bracket x)
bracket_read x rx = λ d ts p g tall low.
    rw (look.opens x ts low, cond_in x rx d (t.RightParen ∷ ts) g (omega arith) (omega arith)) refl

-- ---- chains

pub negated_read : (x : s.Cond) → ReadCond x → AsNeg (s.negated x)
negated_read x rx = λ d ts p g tall low.
    let gx = and_ok (is_test x) (is_cond x) g in
    rw (rx.as_test d ts gx.0 gx.1 tall low) refl

pub both_read : (a b : s.Cond) → ReadCond a → ReadCond b → AsConj (s.both a b)
both_read a b ra rb = λ d n m ts p g tall low turns.
    let gg = and_ok (is_conj a && is_cond a) (is_neg b && is_cond b) g in
    let ga = and_ok (is_conj a) (is_cond a) gg.0 in
    let gb = and_ok (is_neg b) (is_cond b) gg.1 in
    ra.as_conj d n (suc m) (t.Key k.And ∷ sp.cond b ts) ga.0 ga.1 (omega arith) (omega arith) (omega arith)
    ∙ ap (λ f. f >>= (λ right. negs d m (s.both a right))) (rb.as_neg d ts gb.0 gb.1 (omega arith) low)

pub either_read : (a b : s.Cond) → ReadCond a → ReadCond b → AsDisj (s.either a b)
either_read a b ra rb = λ d n m ts g tall low turns.
    let ga = and_ok (is_cond a) (is_conj b && is_cond b) g in
    let gb = and_ok (is_conj b) (is_cond b) ga.1 in
    ra.as_disj d n (suc m) (t.Key k.Or ∷ sp.cond b ts) ga.0 (omega arith) (omega arith) (omega arith)
    ∙ ap (λ f. f >>= (λ right. conjs d m (s.either a right))) (conj_read b rb.as_conj d ts gb.0 gb.1 (omega arith) low)

-- ---- WHERE and HAVING

pub no_filter : ReadFilter s.no_filter
no_filter = record {
  as_where = λ d ts g tall low. stops.where_stops (expr d) (cond d) (query d) (table d) ts low;
  as_having = λ d ts g tall low. stops.having_stops (expr d) (cond d) (query d) (table d) ts low;
}

pub filter_read : (c : s.Cond) → ReadCond c → ReadFilter (s.only_where c)
filter_read c rc = record {
  as_where = λ d ts g tall low. rw (disj_read c rc d ts g tall (omega arith)) refl;
  as_having = λ d ts g tall low. rw (disj_read c rc d ts g tall (omega arith)) refl;
}
