-- What looking ahead finds before a spelled tree.
use Rattle.std.proofs.Common.{◌≡◌, ℕ, zero, suc, ◌+◌, ◌<◌, Bool, true, false, List, [], ◌∷◌, Option, Some, None, refl, ◌∙◌, ap, arith}
use Rattle.std.specs.Prelude.{◌&&◌, not}
use Rattle.sql_text.specs.declared.key.Key.TheVariants as k
use Rattle.sql_text.specs.declared.token.Token.{Token}
use Rattle.sql_text.specs.declared.token.Token.TheVariants as t
use Rattle.sql_ast.specs.declared.word.AdditiveOp.{AdditiveOp}
use Rattle.sql_ast.specs.declared.word.AdditiveOp.TheVariants as add
use Rattle.sql_ast.specs.declared.word.MultiplicativeOp.{MultiplicativeOp}
use Rattle.sql_ast.specs.declared.word.MultiplicativeOp.TheVariants as mul
use Rattle.sql_ast.specs.declared.word.SetFunction.{SetFunction}
use Rattle.sql_ast.specs.declared.word.SetFunction.TheVariants as of
use Rattle.sql_ast.specs.declared.word.SetOperator.{SetOperator}
use Rattle.sql_ast.specs.declared.word.SetOperator.TheVariants as set
use Rattle.sql_ast.specs.declared.word.Sign.{Sign}
use Rattle.sql_ast.specs.declared.word.Sign.TheVariants as sign
use Rattle.sql_ast.specs.Syntax as s
use Rattle.sql_ast.specs.Spelling as sp
use Rattle.sql_ast.specs.Grammatical.{is_sub, is_expr, are_exprs, some_expr, lone_sub, is_prim, is_factor, is_term}
use Rattle.sql_parser.specs.Ahead.{after, ends_query, at_query, goes_on, opens_cond}
use Rattle.sql_parser.proofs.Steps.{and_ok, and_false, not_ok}
use Rattle.sql_parser.proofs.Balanced as balanced

-- how closely the next token binds to what stands before it
abbrev pub rank : List Token → ℕ
rank (t.Dot ∷ ts) = 15
rank (t.Star ∷ ts) = 14
rank (t.Slash ∷ ts) = 14
rank (t.Plus ∷ ts) = 13
rank (t.Minus ∷ ts) = 13
rank (t.Concat ∷ ts) = 13
rank (t.Compare op ∷ ts) = 12
rank (t.Key k.In ∷ ts) = 12
rank (t.Key k.Between ∷ ts) = 12
rank (t.Key k.Like ∷ ts) = 12
rank (t.Key k.Is ∷ ts) = 12
rank (t.Key k.Not ∷ ts) = 12
rank (t.Key k.And ∷ ts) = 11
rank (t.Key k.Or ∷ ts) = 10
rank (t.Key k.As ∷ ts) = 9
rank (t.Name n ∷ ts) = 9
rank (t.LeftParen ∷ ts) = 9
rank (t.Key k.Join ∷ ts) = 8
rank (t.Key k.Inner ∷ ts) = 8
rank (t.Key k.Left ∷ ts) = 8
rank (t.Key k.Cross ∷ ts) = 8
rank (t.Comma ∷ ts) = 7
rank (t.Key k.Where ∷ ts) = 6
rank (t.Key k.Group ∷ ts) = 5
rank (t.Key k.Having ∷ ts) = 4
rank (t.Key k.Intersect ∷ ts) = 3
rank (t.Key k.Union ∷ ts) = 2
rank (t.Key k.Except ∷ ts) = 2
rank (t.Key k.When ∷ ts) = 1
rank _ = 0

pub stays : (ts : List Token) → rank ts < 12 → goes_on ts ≡ false
stays [] h = refl
stays (t.Star ∷ ts) h = absurd (omega arith)
stays (t.Slash ∷ ts) h = absurd (omega arith)
stays (t.Plus ∷ ts) h = absurd (omega arith)
stays (t.Minus ∷ ts) h = absurd (omega arith)
stays (t.Concat ∷ ts) h = absurd (omega arith)
stays (t.Compare op ∷ ts) h = absurd (omega arith)
stays (t.Key k.In ∷ ts) h = absurd (omega arith)
stays (t.Key k.Between ∷ ts) h = absurd (omega arith)
stays (t.Key k.Like ∷ ts) h = absurd (omega arith)
stays (t.Key k.Is ∷ ts) h = absurd (omega arith)
stays (t.Key k.Not ∷ ts) h = absurd (omega arith)
stays (_ ∷ ts) h = refl

-- ---- the operators

pub additive_rank : (op : AdditiveOp) (ts : List Token) → (rank (sp.additive op ∷ ts) ≡ 13) × (goes_on (sp.additive op ∷ ts) ≡ true)
additive_rank add.Plus ts = (refl, refl)
additive_rank add.Minus ts = (refl, refl)
additive_rank add.Concat ts = (refl, refl)

pub multiplicative_rank : (op : MultiplicativeOp) (ts : List Token) → (rank (sp.multiplicative op ∷ ts) ≡ 14) × (goes_on (sp.multiplicative op ∷ ts) ≡ true)
multiplicative_rank mul.Times ts = (refl, refl)
multiplicative_rank mul.Divide ts = (refl, refl)

pub set_operator_rank : (op : SetOperator) (ts : List Token) → (rank (sp.set_operator op ∷ ts) ≡ 2) × (ends_query (sp.set_operator op ∷ ts) ≡ true)
set_operator_rank set.Union ts = (refl, refl)
set_operator_rank set.Except ts = (refl, refl)

-- ---- an expression's first token

abbrev pub starts : List Token → Bool
starts (t.Plus ∷ ts) = true
starts (t.Minus ∷ ts) = true
starts (t.Number n ∷ ts) = true
starts (t.Str x ∷ ts) = true
starts (t.Name n ∷ ts) = true
starts (t.LeftParen ∷ ts) = true
starts (t.Key k.Case ∷ ts) = true
starts (t.Key k.Count ∷ ts) = true
starts (t.Key k.Sum ∷ ts) = true
starts (t.Key k.Avg ∷ ts) = true
starts (t.Key k.Min ∷ ts) = true
starts (t.Key k.Max ∷ ts) = true
starts (t.Key k.Coalesce ∷ ts) = true
starts (t.Key k.NullIf ∷ ts) = true
starts (t.Key k.Cast ∷ ts) = true
starts _ = false

-- a prim's
abbrev pub begins : List Token → Bool
begins (t.Plus ∷ ts) = false
begins (t.Minus ∷ ts) = false
begins ts = starts ts

column_starts : (range : Option (List ℕ)) (name : List ℕ) (ts : List Token) → starts (sp.column (record { range = range; name = name }) ts) ≡ true
column_starts (Some r) name ts = refl
column_starts None name ts = refl

sign_starts : (p : Sign) (ts : List Token) → starts (sp.sign_of p ∷ ts) ≡ true
sign_starts sign.Plus ts = refl
sign_starts sign.Minus ts = refl

function_starts : (f : SetFunction) (ts : List Token) → starts (sp.set_function f ∷ ts) ≡ true
function_starts of.Count ts = refl
function_starts of.Sum ts = refl
function_starts of.Avg ts = refl
function_starts of.Min ts = refl
function_starts of.Max ts = refl

pub expr_starts : (x : s.Expr) (ts : List Token) → starts (sp.expr x ts) ≡ true
expr_starts (s.add a op b) ts = expr_starts a (sp.additive op ∷ sp.expr b ts)
expr_starts (s.multiply a op b) ts = expr_starts a (sp.multiplicative op ∷ sp.expr b ts)
expr_starts (s.signed p a) ts = sign_starts p (sp.expr a ts)
expr_starts (s.number n) ts = refl
expr_starts (s.string x) ts = refl
expr_starts (s.col c) ts = column_starts c.range c.name ts
expr_starts (s.paren a) ts = refl
expr_starts (s.scalar q) ts = refl
expr_starts s.count_all ts = refl
expr_starts (s.aggregate f each a) ts = function_starts f _
expr_starts (s.searched xs o) ts = refl
expr_starts (s.simple a xs o) ts = refl
expr_starts (s.coalesce a xs) ts = refl
expr_starts (s.null_if a b) ts = refl
expr_starts (s.cast_null d) ts = refl

column_begins : (range : Option (List ℕ)) (name : List ℕ) (ts : List Token) → begins (sp.column (record { range = range; name = name }) ts) ≡ true
column_begins (Some r) name ts = refl
column_begins None name ts = refl

function_begins : (f : SetFunction) (ts : List Token) → begins (sp.set_function f ∷ ts) ≡ true
function_begins of.Count ts = refl
function_begins of.Sum ts = refl
function_begins of.Avg ts = refl
function_begins of.Min ts = refl
function_begins of.Max ts = refl

pub prim_begins : (x : s.Expr) (ts : List Token) → is_prim x ≡ true → begins (sp.expr x ts) ≡ true
prim_begins (s.add a op b) ts p = absurd (cc)
prim_begins (s.multiply a op b) ts p = absurd (cc)
prim_begins (s.signed q a) ts p = absurd (cc)
prim_begins (s.number n) ts p = refl
prim_begins (s.string x) ts p = refl
prim_begins (s.col c) ts p = column_begins c.range c.name ts
prim_begins (s.paren a) ts p = refl
prim_begins (s.scalar q) ts p = refl
prim_begins s.count_all ts p = refl
prim_begins (s.aggregate f each a) ts p = function_begins f _
prim_begins (s.searched xs o) ts p = refl
prim_begins (s.simple a xs o) ts p = refl
prim_begins (s.coalesce a xs) ts p = refl
prim_begins (s.null_if a b) ts p = refl
prim_begins (s.cast_null d) ts p = refl

-- ---- an operand isn't a condition in brackets

column_leads : (range : Option (List ℕ)) (name : List ℕ) (ts : List Token) → opens_cond (sp.column (record { range = range; name = name }) ts) ≡ false
column_leads (Some r) name ts = refl
column_leads None name ts = refl

sign_leads : (p : Sign) (ts : List Token) → opens_cond (sp.sign_of p ∷ ts) ≡ false
sign_leads sign.Plus ts = refl
sign_leads sign.Minus ts = refl

function_leads : (f : SetFunction) (ts : List Token) → opens_cond (sp.set_function f ∷ ts) ≡ false
function_leads of.Count ts = refl
function_leads of.Sum ts = refl
function_leads of.Avg ts = refl
function_leads of.Min ts = refl
function_leads of.Max ts = refl

pub leads : (x : s.Expr) (ts : List Token) → goes_on ts ≡ true → opens_cond (sp.expr x ts) ≡ false
leads (s.add a op b) ts h = leads a (sp.additive op ∷ sp.expr b ts) (additive_rank op (sp.expr b ts)).1
leads (s.multiply a op b) ts h = leads a (sp.multiplicative op ∷ sp.expr b ts) (multiplicative_rank op (sp.expr b ts)).1
leads (s.signed p a) ts h = sign_leads p (sp.expr a ts)
leads (s.number n) ts h = refl
leads (s.string x) ts h = refl
leads (s.col c) ts h = column_leads c.range c.name ts
leads (s.paren a) ts h = ap (λ u. not (goes_on u)) ((balanced.expr a).skips 0 (t.RightParen ∷ ts)) ∙ ap not h
leads (s.scalar q) ts h = ap (λ u. not (goes_on u)) ((balanced.query q).skips 0 (t.RightParen ∷ ts)) ∙ ap not h
leads s.count_all ts h = refl
leads (s.aggregate f each a) ts h = function_leads f _
leads (s.searched xs o) ts h = refl
leads (s.simple a xs o) ts h = refl
leads (s.coalesce a xs) ts h = refl
leads (s.null_if a b) ts h = refl
leads (s.cast_null d) ts h = refl

pub opens : (x : s.Cond) (ts : List Token) → rank ts < 12 → opens_cond (t.LeftParen ∷ sp.cond x (t.RightParen ∷ ts)) ≡ true
opens x ts h = ap (λ u. not (goes_on u)) ((balanced.cond x).skips 0 (t.RightParen ∷ ts)) ∙ ap not (stays ts h)

-- ---- a query, or an expression

pub is_query : (q : s.Query) (ts : List Token) → ends_query ts ≡ true → at_query (sp.query q ts) ≡ true
is_query (s.combine a op all b) ts h =
    let us = sp.optional k.All all (sp.query b ts) in
    is_query a (sp.set_operator op ∷ us) (set_operator_rank op us).1
is_query (s.intersect a all b) ts h = is_query a (t.Key k.Intersect ∷ sp.optional k.All all (sp.query b ts)) refl
is_query (s.block each list from by group having) ts h = refl
is_query (s.enclosed q) ts h = rw (is_query q (t.RightParen ∷ ts) refl, (balanced.query q).skips 0 (t.RightParen ∷ ts)) h

column_query : (range : Option (List ℕ)) (name : List ℕ) (ts : List Token) → at_query (sp.column (record { range = range; name = name }) ts) ≡ false
column_query (Some r) name ts = refl
column_query None name ts = refl

sign_query : (p : Sign) (ts : List Token) → at_query (sp.sign_of p ∷ ts) ≡ false
sign_query sign.Plus ts = refl
sign_query sign.Minus ts = refl

function_query : (f : SetFunction) (ts : List Token) → at_query (sp.set_function f ∷ ts) ≡ false
function_query of.Count ts = refl
function_query of.Sum ts = refl
function_query of.Avg ts = refl
function_query of.Min ts = refl
function_query of.Max ts = refl

pub not_query : (x : s.Expr) (ts : List Token) → is_expr x ≡ true → is_sub x && ends_query ts ≡ false → at_query (sp.expr x ts) ≡ false
not_query (s.add a op b) ts g h = not_query a (sp.additive op ∷ sp.expr b ts) (and_ok (is_expr a) _ g).0 (lone op)
  where
    lone : (op : AdditiveOp) → is_sub a && ends_query (sp.additive op ∷ sp.expr b ts) ≡ false
    lone add.Plus = and_false (is_sub a)
    lone add.Minus = and_false (is_sub a)
    lone add.Concat = and_false (is_sub a)
not_query (s.multiply a op b) ts g h =
    not_query a (sp.multiplicative op ∷ sp.expr b ts) (and_ok (is_term a) (is_expr a) (and_ok (is_term a && is_expr a) (is_factor b && is_expr b) g).0).1 (lone op)
  where
    lone : (op : MultiplicativeOp) → is_sub a && ends_query (sp.multiplicative op ∷ sp.expr b ts) ≡ false
    lone mul.Times = and_false (is_sub a)
    lone mul.Divide = and_false (is_sub a)
not_query (s.signed p a) ts g h = sign_query p (sp.expr a ts)
not_query (s.number n) ts g h = refl
not_query (s.string x) ts g h = refl
not_query (s.col c) ts g h = column_query c.range c.name ts
not_query (s.paren a) ts g h =
    let p = and_ok (not (is_sub a)) (is_expr a) g in
    let alone : is_sub a && true ≡ false = ap (λ u. u && true) (not_ok (is_sub a) p.0) in
    ap (λ u. u && ends_query (after 0 (sp.expr a (t.RightParen ∷ ts)))) (not_query a (t.RightParen ∷ ts) p.1 alone)
not_query (s.scalar q) ts g h =
    ap (λ u. at_query (sp.query q (t.RightParen ∷ ts)) && ends_query u) ((balanced.query q).skips 0 (t.RightParen ∷ ts))
    ∙ ap (λ u. at_query (sp.query q (t.RightParen ∷ ts)) && u) h ∙ and_false _
not_query s.count_all ts g h = refl
not_query (s.aggregate f each a) ts g h = function_query f _
not_query (s.searched xs o) ts g h = refl
not_query (s.simple a xs o) ts g h = refl
not_query (s.coalesce a xs) ts g h = refl
not_query (s.null_if a b) ts g h = refl
not_query (s.cast_null d) ts g h = refl

pub list_not_query : (xs : s.Exprs) (ts : List Token) → are_exprs xs ≡ true → some_expr xs ≡ true → lone_sub xs ≡ false
    → at_query (sp.exprs xs (t.RightParen ∷ ts)) ≡ false
list_not_query s.no_expr ts g some h = absurd (cc)
list_not_query (s.one_expr a s.no_expr) ts g some h =
    let alone : is_sub a && true ≡ false = ap (λ u. u && true) h in
    not_query a (t.RightParen ∷ ts) (and_ok (is_expr a) _ g).0 alone
list_not_query (s.one_expr a (s.one_expr b xs)) ts g some h =
    not_query a (sp.more_exprs (s.one_expr b xs) (t.RightParen ∷ ts)) (and_ok (is_expr a) _ g).0 (and_false (is_sub a))

-- ---- a join in brackets

correlated : (noise : Bool) (n : List ℕ) (ts : List Token) → ends_query (sp.optional k.As noise (t.Name n ∷ ts)) ≡ false
correlated true n ts = refl
correlated false n ts = refl

pub join_not_query : (x : s.TableRef) (ts : List Token) → at_query (sp.table x ts) ≡ false
join_not_query (s.join a inner b c) ts = join_not_query a (sp.optional k.Inner inner (t.Key k.Join ∷ sp.table b (t.Key k.On ∷ sp.cond c ts)))
join_not_query (s.left_join a outer b c) ts = join_not_query a (t.Key k.Left ∷ sp.optional k.Outer outer (t.Key k.Join ∷ sp.table b (t.Key k.On ∷ sp.cond c ts)))
join_not_query (s.cross_join a b) ts = join_not_query a (t.Key k.Cross ∷ t.Key k.Join ∷ sp.table b ts)
join_not_query (s.named n c) ts = refl
join_not_query (s.derived q c) ts =
    let us = sp.correlation c ts in
    ap (λ u. at_query (sp.query q (t.RightParen ∷ us)) && ends_query u) ((balanced.query q).skips 0 (t.RightParen ∷ us))
    ∙ ap (λ u. at_query (sp.query q (t.RightParen ∷ us)) && u) (correlated c.noise c.name (sp.column_list c.columns ts)) ∙ and_false _
join_not_query (s.joined a) ts = ap (λ u. u && ends_query (after 0 (sp.table a (t.RightParen ∷ ts)))) (join_not_query a (t.RightParen ∷ ts))

-- ---- looking past two brackets

past_more : (ts : List Token) (n m i : ℕ) → i ≡ n + suc m → after i ts ≡ after m (after n ts)
past_more [] n m i e = refl
past_more (t.LeftParen ∷ ts) n m i e = past_more ts (suc n) m (suc i) (omega arith)
past_more (t.RightParen ∷ ts) n m zero e = absurd (omega arith)
past_more (t.RightParen ∷ ts) zero m (suc i) e = let h : i ≡ m = omega arith in ap (λ j. after j ts) h
past_more (t.RightParen ∷ ts) (suc n) m (suc i) e = past_more ts n m i (omega arith)
past_more (_ ∷ ts) n m i e = past_more ts n m i e

pub after_two : (ts : List Token) → after 1 ts ≡ after 0 (after 0 ts)
after_two ts = past_more ts 0 0 1 refl
