-- How many turns of its loop a chain or a list takes; there are tokens enough.
use Rattle.std.proofs.Common.{ℕ, suc, ◌≤◌, ◌+◌, Bool, true, false, List, [], ◌∷◌, length, arith}
use Rattle.sql_text.specs.declared.key.Key.{Key}
use Rattle.sql_text.specs.declared.key.Key.TheVariants as k
use Rattle.sql_text.specs.declared.token.Token.{Token}
use Rattle.sql_text.specs.declared.token.Token.TheVariants as t
use Rattle.sql_ast.specs.declared.name.Column.{Column}
use Rattle.sql_ast.specs.Syntax as s
use Rattle.sql_ast.specs.Spelling as sp
use Rattle.sql_parser.proofs.Balanced as balanced

-- ---- chains

abbrev pub factors : s.Expr → ℕ
factors (s.multiply a op b) = suc (factors a)
factors _ = 0

abbrev pub terms : s.Expr → ℕ
terms (s.add a op b) = suc (terms a)
terms _ = 0

abbrev pub negs : s.Cond → ℕ
negs (s.both a b) = suc (negs a)
negs _ = 0

abbrev pub conjs : s.Cond → ℕ
conjs (s.either a b) = suc (conjs a)
conjs _ = 0

abbrev pub joins : s.TableRef → ℕ
joins (s.join a inner b c) = suc (joins a)
joins (s.left_join a outer b c) = suc (joins a)
joins (s.cross_join a b) = suc (joins a)
joins _ = 0

abbrev pub qprims : s.Query → ℕ
qprims (s.intersect a all b) = suc (qprims a)
qprims _ = 0

abbrev pub qterms : s.Query → ℕ
qterms (s.combine a op all b) = suc (qterms a)
qterms _ = 0

optional_fits : (word : Key) (b : Bool) (ts : List Token) → length ts ≤ length (sp.optional word b ts)
optional_fits word true ts = omega arith
optional_fits word false ts = omega arith

pub factors_fit : (x : s.Expr) (ts : List Token) → factors x + length ts ≤ length (sp.expr x ts)
factors_fit (s.multiply a op b) ts = let p = factors_fit a (sp.multiplicative op ∷ sp.expr b ts) in let r = (balanced.expr b).longer ts in omega (arith, p, r)
factors_fit x ts = let r = (balanced.expr x).longer ts in omega (arith, r)

pub terms_fit : (x : s.Expr) (ts : List Token) → terms x + length ts ≤ length (sp.expr x ts)
terms_fit (s.add a op b) ts = let p = terms_fit a (sp.additive op ∷ sp.expr b ts) in let r = (balanced.expr b).longer ts in omega (arith, p, r)
terms_fit x ts = let r = (balanced.expr x).longer ts in omega (arith, r)

pub negs_fit : (x : s.Cond) (ts : List Token) → negs x + length ts ≤ length (sp.cond x ts)
negs_fit (s.both a b) ts = let p = negs_fit a (t.Key k.And ∷ sp.cond b ts) in let r = (balanced.cond b).longer ts in omega (arith, p, r)
negs_fit x ts = let r = (balanced.cond x).longer ts in omega (arith, r)

pub conjs_fit : (x : s.Cond) (ts : List Token) → conjs x + length ts ≤ length (sp.cond x ts)
conjs_fit (s.either a b) ts = let p = conjs_fit a (t.Key k.Or ∷ sp.cond b ts) in let r = (balanced.cond b).longer ts in omega (arith, p, r)
conjs_fit x ts = let r = (balanced.cond x).longer ts in omega (arith, r)

pub joins_fit : (x : s.TableRef) (ts : List Token) → joins x + length ts ≤ length (sp.table x ts)
joins_fit (s.join a inner b c) ts =
    let us = t.Key k.Join ∷ sp.table b (t.Key k.On ∷ sp.cond c ts) in
    let p = joins_fit a (sp.optional k.Inner inner us) in
    let o = optional_fits k.Inner inner us in
    let r = (balanced.table b).longer (t.Key k.On ∷ sp.cond c ts) in
    let i = (balanced.cond c).longer ts in omega (arith, p, o, r, i)
joins_fit (s.left_join a outer b c) ts =
    let us = t.Key k.Join ∷ sp.table b (t.Key k.On ∷ sp.cond c ts) in
    let p = joins_fit a (t.Key k.Left ∷ sp.optional k.Outer outer us) in
    let o = optional_fits k.Outer outer us in
    let r = (balanced.table b).longer (t.Key k.On ∷ sp.cond c ts) in
    let i = (balanced.cond c).longer ts in omega (arith, p, o, r, i)
joins_fit (s.cross_join a b) ts = let p = joins_fit a (t.Key k.Cross ∷ t.Key k.Join ∷ sp.table b ts) in let r = (balanced.table b).longer ts in omega (arith, p, r)
joins_fit x ts = let r = (balanced.table x).longer ts in omega (arith, r)

pub qprims_fit : (x : s.Query) (ts : List Token) → qprims x + length ts ≤ length (sp.query x ts)
qprims_fit (s.intersect a all b) ts =
    let p = qprims_fit a (t.Key k.Intersect ∷ sp.optional k.All all (sp.query b ts)) in
    let o = optional_fits k.All all (sp.query b ts) in
    let r = (balanced.query b).longer ts in omega (arith, p, o, r)
qprims_fit x ts = let r = (balanced.query x).longer ts in omega (arith, r)

pub qterms_fit : (x : s.Query) (ts : List Token) → qterms x + length ts ≤ length (sp.query x ts)
qterms_fit (s.combine a op all b) ts =
    let p = qterms_fit a (sp.set_operator op ∷ sp.optional k.All all (sp.query b ts)) in
    let o = optional_fits k.All all (sp.query b ts) in
    let r = (balanced.query b).longer ts in omega (arith, p, o, r)
qterms_fit x ts = let r = (balanced.query x).longer ts in omega (arith, r)

-- ---- lists

abbrev pub exprs : s.Exprs → ℕ
exprs s.no_expr = 0
exprs (s.one_expr a xs) = suc (exprs xs)

abbrev pub arms : s.Arms → ℕ
arms s.no_arm = 0
arms (s.one_arm c r xs) = suc (arms xs)

abbrev pub choices : s.Choices → ℕ
choices s.no_choice = 0
choices (s.one_choice a r xs) = suc (choices xs)

abbrev pub items : s.Items → ℕ
items s.no_item = 0
items (s.one_item x xs) = suc (items xs)

abbrev pub tables : s.TableRefs → ℕ
tables s.no_table = 0
tables (s.one_table x xs) = suc (tables xs)

pub exprs_fit : (xs : s.Exprs) (ts : List Token) → exprs xs + length ts ≤ length (sp.more_exprs xs ts)
exprs_fit s.no_expr ts = omega arith
exprs_fit (s.one_expr a xs) ts = let p = exprs_fit xs ts in let r = (balanced.expr a).longer (sp.more_exprs xs ts) in omega (arith, p, r)

pub arms_fit : (xs : s.Arms) (ts : List Token) → arms xs + length ts ≤ length (sp.arms xs ts)
arms_fit s.no_arm ts = omega arith
arms_fit (s.one_arm c r xs) ts =
    let p = arms_fit xs ts in
    let o = (balanced.res r).longer (sp.arms xs ts) in
    let i = (balanced.cond c).longer (t.Key k.Then ∷ sp.res r (sp.arms xs ts)) in omega (arith, p, o, i)

pub choices_fit : (xs : s.Choices) (ts : List Token) → choices xs + length ts ≤ length (sp.choices xs ts)
choices_fit s.no_choice ts = omega arith
choices_fit (s.one_choice a r xs) ts =
    let p = choices_fit xs ts in
    let o = (balanced.res r).longer (sp.choices xs ts) in
    let i = (balanced.expr a).longer (t.Key k.Then ∷ sp.res r (sp.choices xs ts)) in omega (arith, p, o, i)

pub items_fit : (xs : s.Items) (ts : List Token) → items xs + length ts ≤ length (sp.more_items xs ts)
items_fit s.no_item ts = omega arith
items_fit (s.one_item x xs) ts = let p = items_fit xs ts in let r = (balanced.item x).longer (sp.more_items xs ts) in omega (arith, p, r)

pub tables_fit : (xs : s.TableRefs) (ts : List Token) → tables xs + length ts ≤ length (sp.more_tables xs ts)
tables_fit s.no_table ts = omega arith
tables_fit (s.one_table x xs) ts = let p = tables_fit xs ts in let r = (balanced.table x).longer (sp.more_tables xs ts) in omega (arith, p, r)

pub columns_fit : (cs : List Column) (ts : List Token) → length cs + length ts ≤ length (sp.more_columns cs ts)
columns_fit [] ts = omega arith
columns_fit (c ∷ cs) ts = let p = columns_fit cs ts in let r = (balanced.column c).longer (sp.more_columns cs ts) in omega (arith, p, r)
