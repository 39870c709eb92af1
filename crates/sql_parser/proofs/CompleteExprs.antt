-- Expressions that are spelled so are read, where their parts are.
use Rattle.std.proofs.Common.{◌≡◌, ℕ, zero, suc, ◌<◌, ◌≤◌, true, false, List, ◌∷◌, Option, Some, None, refl, ◌∙◌, ap, length, arith}
use Rattle.std.specs.Prelude.{◌&&◌, not}
use Rattle.sql_text.specs.declared.key.Key.TheVariants as k
use Rattle.sql_text.specs.declared.token.Token.{Token}
use Rattle.sql_text.specs.declared.token.Token.TheVariants as t
use Rattle.sql_ast.specs.declared.name.Column.{Column}
use Rattle.sql_ast.specs.declared.word.AdditiveOp.{AdditiveOp}
use Rattle.sql_ast.specs.declared.word.DataType.{DataType}
use Rattle.sql_ast.specs.declared.word.MultiplicativeOp.{MultiplicativeOp}
use Rattle.sql_ast.specs.declared.word.SetFunction.{SetFunction}
use Rattle.sql_ast.specs.declared.word.SetFunction.TheVariants as of
use Rattle.sql_ast.specs.declared.word.SetQuantifier.{SetQuantifier}
use Rattle.sql_ast.specs.declared.word.SetQuantifier.TheVariants as each
use Rattle.sql_ast.specs.declared.word.Sign.{Sign}
use Rattle.sql_ast.specs.declared.word.Sign.TheVariants as sign
use Rattle.sql_ast.specs.Syntax as s
use Rattle.sql_ast.specs.Spelling as sp
use Rattle.sql_ast.specs.Grammatical.{is_prim, is_factor, is_term, is_sub, some_arm, some_choice, is_expr, are_exprs, is_res, are_arms, are_choices, is_otherwise, is_cond}
use Rattle.sql_parser.specs.Words.{◌>>=◌, closed}
use Rattle.sql_parser.specs.Read as r
use Rattle.sql_parser.specs.Read.{expr, cond, query, table}
use Rattle.sql_parser.proofs.Steps.{and_ok, not_ok}
use Rattle.sql_parser.proofs.Balanced.{tall, tall_exprs, tall_res, tall_arms, tall_choices, tall_cond}
use Rattle.sql_parser.proofs.Lookahead as look
use Rattle.sql_parser.proofs.Lookahead.{rank}
use Rattle.sql_parser.proofs.Stops as stops
use Rattle.sql_parser.proofs.Links as links
use Rattle.sql_parser.proofs.CompleteWords as words
use Rattle.sql_parser.proofs.CompleteRules.{AsPrim, AsFactor, AsTerm, AsSum, ReadExpr, ReadExprs, ReadRes, ReadArms, ReadChoices, ReadOtherwise, ReadCond, ReadQuery, prim, factors, terms, more_exprs, more_arms, more_choices, term_read, expr_in, cond_in, query_in}

-- ---- levels

pub of_term : (x : s.Expr) → is_term x ≡ true → links.terms x ≡ 0 → AsTerm x → AsSum x
of_term x p z h = λ d n m ts g tall low turns.
    ap (λ f. f >>= terms d n) (term_read x h d ts p g tall low) ∙ (let e : n ≡ m = omega arith in ap (λ i. terms d i x ts) e)

pub of_factor : (x : s.Expr) → is_factor x ≡ true → links.factors x ≡ 0 → AsFactor x → AsTerm x
of_factor x p z h = λ d n m ts q g tall low turns.
    ap (λ f. f >>= factors d n) (h d ts p g tall low) ∙ (let e : n ≡ m = omega arith in ap (λ i. factors d i x ts) e)

-- a tree that is one prim
pub one_prim : (x : s.Expr) → is_prim x ≡ true → is_factor x ≡ true → is_term x ≡ true → links.factors x ≡ 0 → links.terms x ≡ 0 → AsPrim x → ReadExpr x
one_prim x p0 p1 p2 z0 z1 h =
    let n : AsFactor x = λ d ts p g tall low. stops.begins_factor (expr d) (cond d) (query d) (table d) (sp.expr x ts) (look.prim_begins x ts p0) ∙ h d ts p0 g tall low in
    let i : AsTerm x = of_factor x p1 z0 n in
    record { as_prim = h; as_factor = n; as_term = i; as_sum = of_term x p2 z1 i }

-- ---- chains

pub add_read : (a b : s.Expr) (op : AdditiveOp) → ReadExpr a → ReadExpr b → AsSum (s.add a op b)
add_read a b op ra rb = λ d n m ts g tall low turns.
    let ga = and_ok (is_expr a) (is_term b && is_expr b) g in
    let gb = and_ok (is_term b) (is_expr b) ga.1 in
    let next = (look.additive_rank op (sp.expr b ts)).0 in
    ra.as_sum d n (suc m) (sp.additive op ∷ sp.expr b ts) ga.0 (omega arith) (omega (arith, next)) (omega arith)
    ∙ rw (r.more_terms, words.additive_read op (sp.expr b ts), term_read b rb.as_term d ts gb.0 gb.1 (omega arith) low) refl

pub multiply_read : (a b : s.Expr) (op : MultiplicativeOp) → ReadExpr a → ReadExpr b → AsTerm (s.multiply a op b)
multiply_read a b op ra rb = λ d n m ts p g tall low turns.
    let gg = and_ok (is_term a && is_expr a) (is_factor b && is_expr b) g in
    let ga = and_ok (is_term a) (is_expr a) gg.0 in
    let gb = and_ok (is_factor b) (is_expr b) gg.1 in
    let next = (look.multiplicative_rank op (sp.expr b ts)).0 in
    ra.as_term d n (suc m) (sp.multiplicative op ∷ sp.expr b ts) ga.0 ga.1 (omega arith) (omega (arith, next)) (omega arith)
    ∙ rw (r.more_factors, words.multiplicative_read op (sp.expr b ts), rb.as_factor d ts gb.0 gb.1 (omega arith) low) refl

pub signed_read : (a : s.Expr) (p : Sign) → ReadExpr a → AsFactor (s.signed p a)
signed_read a sign.Plus ra = λ d ts p g tall low. let ga = and_ok (is_prim a) (is_expr a) g in rw (ra.as_prim d ts ga.0 ga.1 tall low) refl
signed_read a sign.Minus ra = λ d ts p g tall low. let ga = and_ok (is_prim a) (is_expr a) g in rw (ra.as_prim d ts ga.0 ga.1 tall low) refl

-- ---- prims

column_at : (range : Option (List ℕ)) (name : List ℕ) (d : ℕ) (ts : List Token) → rank ts < 15
    → prim d (sp.column (record { range = range; name = name }) ts) ≡ Some (s.col (record { range = range; name = name }), ts)
column_at (Some n) name d ts low = refl
column_at None name d ts low = ap (λ f. f >>= (λ x. λ us. Some (s.col x, us))) (words.column_read (record { range = None; name = name }) ts low)

pub col_read : (c : Column) → AsPrim (s.col c)
col_read c = λ d ts p g tall low. column_at c.range c.name d ts low

pub paren_read : (x : s.Expr) → ReadExpr x → AsPrim (s.paren x)
paren_read x h = λ d ts p g tall low.
    let gx = and_ok (not (is_sub x)) (is_expr x) g in
    let alone : is_sub x && true ≡ false = ap (λ u. u && true) (not_ok (is_sub x) gx.0) in
    rw (look.not_query x (t.RightParen ∷ ts) gx.1 alone, expr_in x h d (t.RightParen ∷ ts) gx.1 (omega arith) (omega arith)) refl

pub scalar_read : (x : s.Query) → ReadQuery x → AsPrim (s.scalar x)
scalar_read x h = λ d ts p g tall low.
    rw (look.is_query x (t.RightParen ∷ ts) refl, query_in x h d (t.RightParen ∷ ts) g (omega arith) (omega arith)) refl

aggregate_at : (a : s.Expr) (f : SetFunction) (each : Option SetQuantifier) → ReadExpr a → (d : ℕ) (ts : List Token) → is_expr a ≡ true → suc (tall a) ≤ d
    → r.aggregate (expr d) (cond d) (query d) (table d) f (t.LeftParen ∷ sp.set_quantifier each (sp.expr a (t.RightParen ∷ ts))) ≡ Some (s.aggregate f each a, ts)
aggregate_at a f each ra d ts g tall =
    let us = sp.expr a (t.RightParen ∷ ts) in
    ap (λ v. expr d v.1 >>= closed (s.aggregate f v.0)) (words.set_quantifier_read each us (stops.set_quantifier_none us (look.expr_starts a (t.RightParen ∷ ts))))
    ∙ ap (λ o. o >>= closed (s.aggregate f each)) (expr_in a ra d (t.RightParen ∷ ts) g (omega arith) (omega arith))

count_at : (a : s.Expr) (each : Option SetQuantifier) (d : ℕ) (ts : List Token)
    → r.count (expr d) (cond d) (query d) (table d) (t.LeftParen ∷ sp.set_quantifier each (sp.expr a ts))
    ≡ r.aggregate (expr d) (cond d) (query d) (table d) of.Count (t.LeftParen ∷ sp.set_quantifier each (sp.expr a ts))
count_at a None d ts = stops.starts_count (expr d) (cond d) (query d) (table d) (sp.expr a ts) (look.expr_starts a ts)
count_at a (Some each.All) d ts = refl
count_at a (Some each.Distinct) d ts = refl

pub aggregate_read : (a : s.Expr) (f : SetFunction) (each : Option SetQuantifier) → ReadExpr a → AsPrim (s.aggregate f each a)
aggregate_read a of.Count each ra = λ d ts p g tall low. count_at a each d (t.RightParen ∷ ts) ∙ aggregate_at a of.Count each ra d ts g tall
aggregate_read a of.Sum each ra = λ d ts p g tall low. aggregate_at a of.Sum each ra d ts g tall
aggregate_read a of.Avg each ra = λ d ts p g tall low. aggregate_at a of.Avg each ra d ts g tall
aggregate_read a of.Min each ra = λ d ts p g tall low. aggregate_at a of.Min each ra d ts g tall
aggregate_read a of.Max each ra = λ d ts p g tall low. aggregate_at a of.Max each ra d ts g tall

pub coalesce_read : (a : s.Expr) (xs : s.Exprs) → ReadExpr a → ReadExprs xs → AsPrim (s.coalesce a xs)
coalesce_read a s.no_expr ra rs = λ d ts p g tall low. absurd (let h = (and_ok false (are_exprs s.no_expr) (and_ok (is_expr a) _ g).1).0 in cc)
coalesce_read a (s.one_expr b ys) ra rs = λ d ts p g tall low.
    let xs = s.one_expr b ys in
    let ga = and_ok (is_expr a) (true && are_exprs xs) g in
    rw (expr_in a ra d (sp.more_exprs xs (t.RightParen ∷ ts)) ga.0 (omega arith) (omega arith), rs.as_exprs d (t.RightParen ∷ ts) refl ga.1 (omega arith) (omega arith)) refl

pub null_if_read : (a b : s.Expr) → ReadExpr a → ReadExpr b → AsPrim (s.null_if a b)
null_if_read a b ra rb = λ d ts p g tall low.
    let gg = and_ok (is_expr a) (is_expr b) g in
    rw (expr_in a ra d (t.Comma ∷ sp.expr b (t.RightParen ∷ ts)) gg.0 (omega arith) (omega arith), expr_in b rb d (t.RightParen ∷ ts) gg.1 (omega arith) (omega arith)) refl

pub cast_read : (x : DataType) → AsPrim (s.cast_null x)
cast_read x = λ d ts p g tall low. rw (words.data_type_read x (t.RightParen ∷ ts)) refl

-- ---- lists

exprs_low : (xs : s.Exprs) (ts : List Token) → rank ts < 7 → rank (sp.more_exprs xs ts) < 13
exprs_low s.no_expr ts low = omega arith
exprs_low (s.one_expr a xs) ts low = omega arith

more_exprs_read : (a : s.Expr) (xs : s.Exprs) → ReadExpr a → ReadExprs xs → (d n : ℕ) (ts : List Token) → are_exprs (s.one_expr a xs) ≡ true
    → tall_exprs (s.one_expr a xs) < d → rank ts < 7 → suc (links.exprs xs) ≤ n → more_exprs d n (sp.more_exprs (s.one_expr a xs) ts) ≡ Some (s.one_expr a xs, ts)
more_exprs_read a xs ra rs d zero ts g tall low enough = absurd (omega arith)
more_exprs_read a xs ra rs d (suc n) ts g tall low enough =
    let gg = and_ok (is_expr a) (are_exprs xs) g in
    rw (expr_in a ra d (sp.more_exprs xs ts) gg.0 (omega arith) (exprs_low xs ts low), rs.as_more_exprs d n ts gg.1 (omega arith) low (omega arith)) refl

pub no_exprs : ReadExprs s.no_expr
no_exprs = record {
  as_more_exprs = λ d n ts g tall low enough. stops.exprs_stop (expr d) (cond d) (query d) (table d) n ts low;
  as_exprs = λ d ts some g tall low. absurd (cc);
}

pub one_exprs : (a : s.Expr) (xs : s.Exprs) → ReadExpr a → ReadExprs xs → ReadExprs (s.one_expr a xs)
one_exprs a xs ra rs = record {
  as_more_exprs = more_exprs_read a xs ra rs;
  as_exprs = λ d ts some g tall low.
      let gg = and_ok (is_expr a) (are_exprs xs) g in
      let us = sp.more_exprs xs ts in
      let fit = links.exprs_fit xs ts in
      rw (expr_in a ra d us gg.0 (omega arith) (exprs_low xs ts low), rs.as_more_exprs d (length us) ts gg.1 (omega arith) low (omega (arith, fit))) refl;
}

-- ---- CASE

pub given_read : (a : s.Expr) → ReadExpr a → ReadRes (s.given a)
given_read a ra = record {
  as_res = λ d ts g tall low.
      stops.starts_res (expr d) (cond d) (query d) (table d) (sp.expr a ts) (look.expr_starts a ts)
      ∙ ap (λ f. f >>= (λ x. λ us. Some (s.given x, us))) (expr_in a ra d ts g tall low);
}

arms_low : (xs : s.Arms) (ts : List Token) → rank ts < 1 → rank (sp.arms xs ts) < 13
arms_low s.no_arm ts low = omega arith
arms_low (s.one_arm c x xs) ts low = omega arith

choices_low : (xs : s.Choices) (ts : List Token) → rank ts < 1 → rank (sp.choices xs ts) < 13
choices_low s.no_choice ts low = omega arith
choices_low (s.one_choice a x xs) ts low = omega arith

otherwise_low : (o : s.Otherwise) (ts : List Token) → rank (sp.otherwise o (t.Key k.End ∷ ts)) < 1
otherwise_low s.no_else ts = omega arith
otherwise_low (s.or_else x) ts = omega arith

arm_read : (c : s.Cond) (x : s.Res) → ReadCond c → ReadRes x → (d : ℕ) (ts : List Token) → is_cond c ≡ true → is_res x ≡ true → tall_cond c < d → tall_res x < d
    → rank ts < 13 → (cond d (sp.cond c (t.Key k.Then ∷ sp.res x ts)) >>= r.then_res (expr d) (cond d) (query d) (table d)) ≡ Some ((c, x), ts)
arm_read c x rc rx d ts gc gx tc tx low = rw (cond_in c rc d (t.Key k.Then ∷ sp.res x ts) gc tc (omega arith), rx.as_res d ts gx tx low) refl

more_arms_read : (c : s.Cond) (x : s.Res) (xs : s.Arms) → ReadCond c → ReadRes x → ReadArms xs → (d n : ℕ) (ts : List Token) → are_arms (s.one_arm c x xs) ≡ true
    → tall_arms (s.one_arm c x xs) < d → rank ts < 1 → suc (links.arms xs) ≤ n → more_arms d n (sp.arms (s.one_arm c x xs) ts) ≡ Some (s.one_arm c x xs, ts)
more_arms_read c x xs rc rx rs d zero ts g tall low enough = absurd (omega arith)
more_arms_read c x xs rc rx rs d (suc n) ts g tall low enough =
    let gc = and_ok (is_cond c) (is_res x && are_arms xs) g in
    let gx = and_ok (is_res x) (are_arms xs) gc.1 in
    rw (arm_read c x rc rx d (sp.arms xs ts) gc.0 gx.0 (omega arith) (omega arith) (arms_low xs ts low), rs.as_more_arms d n ts gx.1 (omega arith) low (omega arith)) refl

pub no_arms : ReadArms s.no_arm
no_arms = record {
  as_more_arms = λ d n ts g tall low enough. stops.arms_stop (expr d) (cond d) (query d) (table d) n ts low;
  as_arms = λ d ts some g tall low. absurd (cc);
}

pub one_arms : (c : s.Cond) (x : s.Res) (xs : s.Arms) → ReadCond c → ReadRes x → ReadArms xs → ReadArms (s.one_arm c x xs)
one_arms c x xs rc rx rs = record {
  as_more_arms = more_arms_read c x xs rc rx rs;
  as_arms = λ d ts some g tall low.
      let gc = and_ok (is_cond c) (is_res x && are_arms xs) g in
      let gx = and_ok (is_res x) (are_arms xs) gc.1 in
      let us = sp.arms xs ts in
      let fit = links.arms_fit xs ts in
      rw (arm_read c x rc rx d us gc.0 gx.0 (omega arith) (omega arith) (arms_low xs ts low), rs.as_more_arms d (length us) ts gx.1 (omega arith) low (omega (arith, fit))) refl;
}

choice_read : (a : s.Expr) (x : s.Res) → ReadExpr a → ReadRes x → (d : ℕ) (ts : List Token) → is_expr a ≡ true → is_res x ≡ true → tall a < d → tall_res x < d
    → rank ts < 13 → (expr d (sp.expr a (t.Key k.Then ∷ sp.res x ts)) >>= r.then_res (expr d) (cond d) (query d) (table d)) ≡ Some ((a, x), ts)
choice_read a x ra rx d ts ga gx ta tx low = rw (expr_in a ra d (t.Key k.Then ∷ sp.res x ts) ga ta (omega arith), rx.as_res d ts gx tx low) refl

more_choices_read : (a : s.Expr) (x : s.Res) (xs : s.Choices) → ReadExpr a → ReadRes x → ReadChoices xs → (d n : ℕ) (ts : List Token)
    → are_choices (s.one_choice a x xs) ≡ true → tall_choices (s.one_choice a x xs) < d → rank ts < 1 → suc (links.choices xs) ≤ n
    → more_choices d n (sp.choices (s.one_choice a x xs) ts) ≡ Some (s.one_choice a x xs, ts)
more_choices_read a x xs ra rx rs d zero ts g tall low enough = absurd (omega arith)
more_choices_read a x xs ra rx rs d (suc n) ts g tall low enough =
    let ga = and_ok (is_expr a) (is_res x && are_choices xs) g in
    let gx = and_ok (is_res x) (are_choices xs) ga.1 in
    rw (choice_read a x ra rx d (sp.choices xs ts) ga.0 gx.0 (omega arith) (omega arith) (choices_low xs ts low), rs.as_more_choices d n ts gx.1 (omega arith) low (omega arith)) refl

pub no_choices : ReadChoices s.no_choice
no_choices = record {
  as_more_choices = λ d n ts g tall low enough. stops.choices_stop (expr d) (cond d) (query d) (table d) n ts low;
  as_choices = λ d ts some g tall low. absurd (cc);
}

pub one_choices : (a : s.Expr) (x : s.Res) (xs : s.Choices) → ReadExpr a → ReadRes x → ReadChoices xs → ReadChoices (s.one_choice a x xs)
one_choices a x xs ra rx rs = record {
  as_more_choices = more_choices_read a x xs ra rx rs;
  as_choices = λ d ts some g tall low.
      let ga = and_ok (is_expr a) (is_res x && are_choices xs) g in
      let gx = and_ok (is_res x) (are_choices xs) ga.1 in
      let us = sp.choices xs ts in
      let fit = links.choices_fit xs ts in
      rw (choice_read a x ra rx d us ga.0 gx.0 (omega arith) (omega arith) (choices_low xs ts low), rs.as_more_choices d (length us) ts gx.1 (omega arith) low (omega (arith, fit))) refl;
}

pub no_otherwise : ReadOtherwise s.no_else
no_otherwise = record { as_otherwise = λ d ts g tall. refl }

pub one_otherwise : (x : s.Res) → ReadRes x → ReadOtherwise (s.or_else x)
one_otherwise x rx = record { as_otherwise = λ d ts g tall. rw (rx.as_res d (t.Key k.End ∷ ts) g tall (omega arith)) refl }

searched_at : (xs : s.Arms) (d : ℕ) (ts : List Token) → some_arm xs ≡ true
    → r.case (expr d) (cond d) (query d) (table d) (sp.arms xs ts) ≡ r.searched (expr d) (cond d) (query d) (table d) (sp.arms xs ts)
searched_at s.no_arm d ts h = absurd (cc)
searched_at (s.one_arm c x xs) d ts h = refl

pub searched_read : (xs : s.Arms) (o : s.Otherwise) → ReadArms xs → ReadOtherwise o → AsPrim (s.searched xs o)
searched_read xs o rs ro = λ d ts p g tall low.
    let gs = and_ok (some_arm xs) (are_arms xs && is_otherwise o) g in
    let go = and_ok (are_arms xs) (is_otherwise o) gs.1 in
    let us = sp.otherwise o (t.Key k.End ∷ ts) in
    searched_at xs d us gs.0
    ∙ rw (rs.as_arms d us gs.0 go.0 (omega arith) (otherwise_low o ts), ro.as_otherwise d ts go.1 (omega arith)) refl

pub simple_read : (a : s.Expr) (xs : s.Choices) (o : s.Otherwise) → ReadExpr a → ReadChoices xs → ReadOtherwise o → AsPrim (s.simple a xs o)
simple_read a xs o ra rs ro = λ d ts p g tall low.
    let ga = and_ok (is_expr a) (some_choice xs && (are_choices xs && is_otherwise o)) g in
    let gs = and_ok (some_choice xs) (are_choices xs && is_otherwise o) ga.1 in
    let go = and_ok (are_choices xs) (is_otherwise o) gs.1 in
    let us = sp.otherwise o (t.Key k.End ∷ ts) in
    let vs = sp.choices xs us in
    stops.starts_simple (expr d) (cond d) (query d) (table d) (sp.expr a vs) (look.expr_starts a vs)
    ∙ rw (
      expr_in a ra d vs ga.0 (omega arith) (choices_low xs us (otherwise_low o ts)),
      rs.as_choices d us gs.0 go.0 (omega arith) (otherwise_low o ts),
      ro.as_otherwise d ts go.1 (omega arith),
    ) refl
