-- Where a loop of the grammar ends, and which rule a first token picks.
use Rattle.std.proofs.Common.{◌≡◌, ℕ, zero, suc, ◌<◌, true, false, List, [], ◌∷◌, Some, None, refl, arith}
use Rattle.sql_text.specs.declared.key.Key.TheVariants as k
use Rattle.sql_text.specs.declared.token.Token.{Token}
use Rattle.sql_text.specs.declared.token.Token.TheVariants as t
use Rattle.sql_ast.specs.declared.word.SetFunction.TheVariants as of
use Rattle.sql_ast.specs.Syntax as s
use Rattle.sql_parser.specs.Ahead.{opens_cond}
use Rattle.sql_parser.specs.Words.{Parser, ◌>>=◌, additive_at, multiplicative_at, quantifier_at, set_operator_at, set_quantifier_at, join_at, group_by, more_columns}
use Rattle.sql_parser.specs.Read as r
use Rattle.sql_parser.proofs.Lookahead.{rank, starts, begins}

-- ---- words and signs

pub additive_none : (ts : List Token) → rank ts < 13 → additive_at ts ≡ None
additive_none [] h = refl
additive_none (t.Plus ∷ ts) h = absurd (omega arith)
additive_none (t.Minus ∷ ts) h = absurd (omega arith)
additive_none (t.Concat ∷ ts) h = absurd (omega arith)
additive_none (_ ∷ ts) h = refl

pub multiplicative_none : (ts : List Token) → rank ts < 14 → multiplicative_at ts ≡ None
multiplicative_none [] h = refl
multiplicative_none (t.Star ∷ ts) h = absurd (omega arith)
multiplicative_none (t.Slash ∷ ts) h = absurd (omega arith)
multiplicative_none (_ ∷ ts) h = refl

pub set_operator_none : (ts : List Token) → rank ts < 2 → set_operator_at ts ≡ None
set_operator_none [] h = refl
set_operator_none (t.Key k.Union ∷ ts) h = absurd (omega arith)
set_operator_none (t.Key k.Except ∷ ts) h = absurd (omega arith)
set_operator_none (_ ∷ ts) h = refl

pub join_none : (ts : List Token) → rank ts < 8 → join_at ts ≡ None
join_none [] h = refl
join_none (t.Key k.Join ∷ ts) h = absurd (omega arith)
join_none (t.Key k.Inner ∷ ts) h = absurd (omega arith)
join_none (t.Key k.Left ∷ ts) h = absurd (omega arith)
join_none (t.Key k.Cross ∷ ts) h = absurd (omega arith)
join_none (_ ∷ ts) h = refl

pub quantifier_none : (ts : List Token) → starts ts ≡ true → quantifier_at ts ≡ None
quantifier_none [] h = absurd (cc)
quantifier_none (t.Key k.Any ∷ ts) h = absurd (cc)
quantifier_none (t.Key k.Some ∷ ts) h = absurd (cc)
quantifier_none (t.Key k.All ∷ ts) h = absurd (cc)
quantifier_none (_ ∷ ts) h = refl

pub set_quantifier_none : (ts : List Token) → starts ts ≡ true → set_quantifier_at ts ≡ (None, ts)
set_quantifier_none [] h = absurd (cc)
set_quantifier_none (t.Key k.All ∷ ts) h = absurd (cc)
set_quantifier_none (t.Key k.Distinct ∷ ts) h = absurd (cc)
set_quantifier_none (_ ∷ ts) h = refl

pub columns_stop : (n : ℕ) (ts : List Token) → rank ts < 7 → more_columns n ts ≡ Some ([], ts)
columns_stop zero ts h = refl
columns_stop (suc n) [] h = refl
columns_stop (suc n) (t.Comma ∷ ts) h = absurd (omega arith)
columns_stop (suc n) (_ ∷ ts) h = refl

pub group_stops : (ts : List Token) → rank ts < 5 → group_by ts ≡ Some ([], ts)
group_stops [] h = refl
group_stops (t.Key k.Group ∷ ts) h = absurd (omega arith)
group_stops (_ ∷ ts) h = refl

module _ (e : Parser s.Expr) (c : Parser s.Cond) (q : Parser s.Query) (j : Parser s.TableRef) where
  -- ---- loops

  pub exprs_stop : (n : ℕ) (ts : List Token) → rank ts < 7 → r.more_exprs e c q j n ts ≡ Some (s.no_expr, ts)
  exprs_stop zero ts h = refl
  exprs_stop (suc n) [] h = refl
  exprs_stop (suc n) (t.Comma ∷ ts) h = absurd (omega arith)
  exprs_stop (suc n) (_ ∷ ts) h = refl

  pub arms_stop : (n : ℕ) (ts : List Token) → rank ts < 1 → r.more_arms e c q j n ts ≡ Some (s.no_arm, ts)
  arms_stop zero ts h = refl
  arms_stop (suc n) [] h = refl
  arms_stop (suc n) (t.Key k.When ∷ ts) h = absurd (omega arith)
  arms_stop (suc n) (_ ∷ ts) h = refl

  pub choices_stop : (n : ℕ) (ts : List Token) → rank ts < 1 → r.more_choices e c q j n ts ≡ Some (s.no_choice, ts)
  choices_stop zero ts h = refl
  choices_stop (suc n) [] h = refl
  choices_stop (suc n) (t.Key k.When ∷ ts) h = absurd (omega arith)
  choices_stop (suc n) (_ ∷ ts) h = refl

  pub factors_stop : (n : ℕ) (left : s.Expr) (ts : List Token) → rank ts < 14 → r.more_factors e c q j n left ts ≡ Some (left, ts)
  factors_stop zero left ts h = refl
  factors_stop (suc n) left ts h = rw (r.more_factors, multiplicative_none ts h) refl

  pub terms_stop : (n : ℕ) (left : s.Expr) (ts : List Token) → rank ts < 13 → r.more_terms e c q j n left ts ≡ Some (left, ts)
  terms_stop zero left ts h = refl
  terms_stop (suc n) left ts h = rw (r.more_terms, additive_none ts h) refl

  pub negs_stop : (n : ℕ) (left : s.Cond) (ts : List Token) → rank ts < 11 → r.more_negs e c q j n left ts ≡ Some (left, ts)
  negs_stop zero left ts h = refl
  negs_stop (suc n) left [] h = refl
  negs_stop (suc n) left (t.Key k.And ∷ ts) h = absurd (omega arith)
  negs_stop (suc n) left (_ ∷ ts) h = refl

  pub conjs_stop : (n : ℕ) (left : s.Cond) (ts : List Token) → rank ts < 10 → r.more_conjs e c q j n left ts ≡ Some (left, ts)
  conjs_stop zero left ts h = refl
  conjs_stop (suc n) left [] h = refl
  conjs_stop (suc n) left (t.Key k.Or ∷ ts) h = absurd (omega arith)
  conjs_stop (suc n) left (_ ∷ ts) h = refl

  pub where_stops : (ts : List Token) → rank ts < 6 → r.where_filter e c q j ts ≡ Some (s.no_filter, ts)
  where_stops [] h = refl
  where_stops (t.Key k.Where ∷ ts) h = absurd (omega arith)
  where_stops (_ ∷ ts) h = refl

  pub having_stops : (ts : List Token) → rank ts < 4 → r.having_filter e c q j ts ≡ Some (s.no_filter, ts)
  having_stops [] h = refl
  having_stops (t.Key k.Having ∷ ts) h = absurd (omega arith)
  having_stops (_ ∷ ts) h = refl

  pub joins_stop : (n : ℕ) (left : s.TableRef) (ts : List Token) → rank ts < 8 → r.more_joins e c q j n left ts ≡ Some (left, ts)
  joins_stop zero left ts h = refl
  joins_stop (suc n) left ts h = rw (r.more_joins, join_none ts h) refl

  pub tables_stop : (n : ℕ) (ts : List Token) → rank ts < 7 → r.more_tables e c q j n ts ≡ Some (s.no_table, ts)
  tables_stop zero ts h = refl
  tables_stop (suc n) [] h = refl
  tables_stop (suc n) (t.Comma ∷ ts) h = absurd (omega arith)
  tables_stop (suc n) (_ ∷ ts) h = refl

  pub items_stop : (n : ℕ) (ts : List Token) → rank ts < 7 → r.more_items e c q j n ts ≡ Some (s.no_item, ts)
  items_stop zero ts h = refl
  items_stop (suc n) [] h = refl
  items_stop (suc n) (t.Comma ∷ ts) h = absurd (omega arith)
  items_stop (suc n) (_ ∷ ts) h = refl

  pub qprims_stop : (n : ℕ) (left : s.Query) (ts : List Token) → rank ts < 3 → r.more_qprims e c q j n left ts ≡ Some (left, ts)
  qprims_stop zero left ts h = refl
  qprims_stop (suc n) left [] h = refl
  qprims_stop (suc n) left (t.Key k.Intersect ∷ ts) h = absurd (omega arith)
  qprims_stop (suc n) left (_ ∷ ts) h = refl

  pub qterms_stop : (n : ℕ) (left : s.Query) (ts : List Token) → rank ts < 2 → r.more_qterms e c q j n left ts ≡ Some (left, ts)
  qterms_stop zero left ts h = refl
  qterms_stop (suc n) left ts h = rw (r.more_qterms, set_operator_none ts h) refl

  -- ---- first tokens

  -- a prim has no sign
  pub begins_factor : (ts : List Token) → begins ts ≡ true → r.factor e c q j ts ≡ r.prim e c q j ts
  begins_factor [] h = absurd (cc)
  begins_factor (t.Plus ∷ ts) h = absurd (cc)
  begins_factor (t.Minus ∷ ts) h = absurd (cc)
  begins_factor (_ ∷ ts) h = refl

  pub starts_res : (ts : List Token) → starts ts ≡ true → r.res e c q j ts ≡ (e ts >>= (λ a. λ us. Some (s.given a, us)))
  starts_res [] h = absurd (cc)
  starts_res (t.Key k.Null ∷ ts) h = absurd (cc)
  starts_res (_ ∷ ts) h = refl

  pub starts_simple : (ts : List Token) → starts ts ≡ true → r.case e c q j ts ≡ r.simple e c q j ts
  starts_simple [] h = absurd (cc)
  starts_simple (t.Key k.When ∷ ts) h = absurd (cc)
  starts_simple (_ ∷ ts) h = refl

  pub starts_count : (ts : List Token) → starts ts ≡ true → r.count e c q j (t.LeftParen ∷ ts) ≡ r.aggregate e c q j of.Count (t.LeftParen ∷ ts)
  starts_count [] h = absurd (cc)
  starts_count (t.Star ∷ ts) h = absurd (cc)
  starts_count (_ ∷ ts) h = refl

  pub starts_neg : (ts : List Token) → starts ts ≡ true → r.neg e c q j ts ≡ r.test e c q j ts
  starts_neg [] h = absurd (cc)
  starts_neg (t.Key k.Not ∷ ts) h = absurd (cc)
  starts_neg (_ ∷ ts) h = refl

  starts_pred : (ts : List Token) → starts ts ≡ true → r.pred e c q j ts ≡ (r.sum e c q j ts >>= r.pred_after e c q j)
  starts_pred [] h = absurd (cc)
  starts_pred (t.Key k.Exists ∷ ts) h = absurd (cc)
  starts_pred (_ ∷ ts) h = refl

  pub starts_test : (ts : List Token) → starts ts ≡ true → opens_cond ts ≡ false → r.test e c q j ts ≡ (r.sum e c q j ts >>= r.pred_after e c q j)
  starts_test ts h o = rw o (starts_pred ts h)

  pub starts_list : (ts : List Token) → starts ts ≡ true → r.select_list e c q j ts ≡ (r.items e c q j ts >>= (λ xs. λ us. Some (s.items xs, us)))
  starts_list [] h = absurd (cc)
  starts_list (t.Star ∷ ts) h = absurd (cc)
  starts_list (_ ∷ ts) h = refl
