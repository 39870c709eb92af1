-- What is read is spelled so: conditions.
use Rattle.std.proofs.Common.{◌≡◌, ℕ, zero, suc, Bool, true, false, List, ◌∷◌, Some, None, refl, sym, ◌∙◌, ap, length}
use Rattle.std.specs.Prelude.{◌&&◌, if◌then◌else◌}
use Rattle.shared_types.specs.declared.compare.CmpOp.{CmpOp}
use Rattle.sql_text.specs.declared.key.Key.TheVariants as k
use Rattle.sql_text.specs.declared.token.Token.{Token}
use Rattle.sql_text.specs.declared.token.Token.TheVariants as t
use Rattle.sql_ast.specs.declared.word.Quantifier.{Quantifier}
use Rattle.sql_ast.specs.Grammatical.{is_test, is_neg, is_conj, some_expr, are_exprs, is_expr, is_cond, is_filter, is_table, is_query}
use Rattle.sql_ast.specs.Spelling as sp
use Rattle.sql_ast.specs.Syntax as s
use Rattle.sql_parser.specs.Ahead.{at_query, opens_cond}
use Rattle.sql_parser.specs.Read as read
use Rattle.sql_parser.specs.Words.{Parsed, Parser, ◌>>=◌, closed, quantifier_at, not_at}
use Rattle.sql_parser.proofs.Steps.{none_some, bind_ok, and_true, and_ok}
use Rattle.sql_parser.proofs.SoundSteps.{Takes, Sound, inside, found}
use Rattle.sql_parser.proofs.SoundWords as word
use Rattle.sql_parser.proofs.SoundExpressions as below
use Rattle.sql_parser.proofs.SoundExpressions.{ok_exprs, not_lone_list}

-- ---- the lines of the grammar

abbrev pub ok_test : s.Cond → Bool
ok_test x = is_test x && is_cond x

abbrev pub ok_neg : s.Cond → Bool
ok_neg x = is_neg x && is_cond x

abbrev pub ok_conj : s.Cond → Bool
ok_conj x = is_conj x && is_cond x

test_neg : (x : s.Cond) → ok_test x ≡ true → ok_neg x ≡ true
test_neg (s.either a b) h = absurd (cc)
test_neg (s.both a b) h = absurd (cc)
test_neg (s.negated a) h = absurd (cc)
test_neg _ h = h

neg_conj : (x : s.Cond) → ok_neg x ≡ true → ok_conj x ≡ true
neg_conj (s.either a b) h = absurd (cc)
neg_conj (s.both a b) h = absurd (cc)
neg_conj _ h = h

module _ (e : Parser s.Expr) (c : Parser s.Cond) (q : Parser s.Query) (j : Parser s.TableRef) (se : Sound is_expr sp.expr e) (sc : Sound is_cond sp.cond c) (sq : Sound is_query sp.query q) (sj : Sound is_table sp.table j) where
  sum_sound : (ts : List Token) (x : s.Expr × List Token) → read.sum e c q j ts ≡ Some x → Takes is_expr sp.expr ts x
  sum_sound = below.sum_sound e c q j se sc sq sj

  -- ---- predicates

  in_at : (b : Bool) (a : s.Expr) (negative : Bool) (ts : List Token) (x : s.Cond × List Token) → is_expr a ≡ true → at_query ts ≡ b
      → (if b then (q ts >>= closed (s.in_query a negative)) else (read.exprs e c q j ts >>= closed (s.in_list a negative))) ≡ Some x
      → Takes ok_test sp.cond (sp.expr a (sp.optional k.Not negative (t.Key k.In ∷ t.LeftParen ∷ ts))) x
  in_at true a negative ts x g look h =
      let i = inside is_query sp.query q sq (s.in_query a negative) ts x h in
      record { grammatical = ap ok_test i.is ∙ and_true _ _ g i.grammatical; tokens = rw i.is (ap (λ u. sp.expr a (sp.optional k.Not negative (t.Key k.In ∷ t.LeftParen ∷ u))) i.tokens) }
  in_at false a negative ts x g look h =
      let i = inside ok_exprs sp.exprs (read.exprs e c q j) (below.list_sound e c q j se sc sq sj) (s.in_list a negative) ts x h in
      let alone = not_lone_list i.value x.1 (ap at_query (sym i.tokens) ∙ look) in
      let some = and_ok (some_expr i.value) (are_exprs i.value) i.grammatical in
      record {
        grammatical = ap ok_test i.is ∙ and_true _ _ g (and_true _ _ (and_true _ _ some.0 alone) some.1);
        tokens = rw i.is (ap (λ u. sp.expr a (sp.optional k.Not negative (t.Key k.In ∷ t.LeftParen ∷ u))) i.tokens);
      }

  in_sound : (a : s.Expr) (negative : Bool) (ts : List Token) (x : s.Cond × List Token) → is_expr a ≡ true → read.in_after e c q j a negative ts ≡ Some x
      → Takes ok_test sp.cond (sp.expr a (sp.optional k.Not negative (t.Key k.In ∷ ts))) x
  in_sound a negative (t.LeftParen ∷ ts) x g h = in_at (at_query ts) a negative ts x g refl h
  in_sound a negative _ x g h = absurd (none_some x h)

  upper_sound : (a : s.Expr) (negative : Bool) (y : s.Expr) (ts : List Token) (x : s.Cond × List Token) → is_expr a ≡ true → is_expr y ≡ true → read.upper e c q j a negative y ts ≡ Some x
      → Takes ok_test sp.cond (sp.expr a (sp.optional k.Not negative (t.Key k.Between ∷ sp.expr y ts))) x
  upper_sound a negative y (t.Key k.And ∷ ts) x ga gy h =
      let b = bind_ok (read.sum e c q j ts) (λ z. λ us. Some (s.between a negative y z, us)) x h in
      let p = sum_sound ts b.0 b.1 in
      found ok_test sp.cond _ (s.between a negative y b.0.0, b.0.1) x
      (record {
        grammatical = and_true _ _ ga (and_true _ _ gy p.grammatical);
        tokens = ap (λ u. sp.expr a (sp.optional k.Not negative (t.Key k.Between ∷ sp.expr y (t.Key k.And ∷ u)))) p.tokens;
      }) b.2
  upper_sound a negative y _ x ga gy h = absurd (none_some x h)

  between_sound : (a : s.Expr) (negative : Bool) (ts : List Token) (x : s.Cond × List Token) → is_expr a ≡ true → read.between e c q j a negative ts ≡ Some x
      → Takes ok_test sp.cond (sp.expr a (sp.optional k.Not negative (t.Key k.Between ∷ ts))) x
  between_sound a negative ts x g h =
      let b = bind_ok (read.sum e c q j ts) (read.upper e c q j a negative) x h in
      let p = sum_sound ts b.0 b.1 in
      let m = upper_sound a negative b.0.0 b.0.1 x g p.grammatical b.2 in
      record { grammatical = m.grammatical; tokens = ap (λ u. sp.expr a (sp.optional k.Not negative (t.Key k.Between ∷ u))) p.tokens ∙ m.tokens }

  like_sound : (a : s.Expr) (negative : Bool) (ts : List Token) (x : s.Cond × List Token) → is_expr a ≡ true → (read.sum e c q j ts >>= (λ y. λ us. Some (s.like a negative y, us))) ≡ Some x
      → Takes ok_test sp.cond (sp.expr a (sp.optional k.Not negative (t.Key k.Like ∷ ts))) x
  like_sound a negative ts x g h =
      let b = bind_ok (read.sum e c q j ts) (λ y. λ us. Some (s.like a negative y, us)) x h in
      let p = sum_sound ts b.0 b.1 in
      found ok_test sp.cond _ (s.like a negative b.0.0, b.0.1) x
      (record { grammatical = and_true _ _ g p.grammatical; tokens = ap (λ u. sp.expr a (sp.optional k.Not negative (t.Key k.Like ∷ u))) p.tokens }) b.2

  negatable_sound : (a : s.Expr) (negative : Bool) (ts : List Token) (x : s.Cond × List Token) → is_expr a ≡ true → read.negatable e c q j a negative ts ≡ Some x
      → Takes ok_test sp.cond (sp.expr a (sp.optional k.Not negative ts)) x
  negatable_sound a negative (t.Key k.Between ∷ ts) x g h = between_sound a negative ts x g h
  negatable_sound a negative (t.Key k.In ∷ ts) x g h = in_sound a negative ts x g h
  negatable_sound a negative (t.Key k.Like ∷ ts) x g h = like_sound a negative ts x g h
  negatable_sound a negative _ x g h = absurd (none_some x h)

  null_sound : (a : s.Expr) (negative : Bool) (ts : List Token) (x : s.Cond × List Token) → is_expr a ≡ true → read.null_word e c q j a negative ts ≡ Some x
      → Takes ok_test sp.cond (sp.expr a (t.Key k.Is ∷ sp.optional k.Not negative ts)) x
  null_sound a negative (t.Key k.Null ∷ ts) x g h = found ok_test sp.cond _ (s.is_null a negative, ts) x (record { grammatical = g; tokens = refl }) h
  null_sound a negative _ x g h = absurd (none_some x h)

  compared_at : (o : Parsed Quantifier) (a : s.Expr) (op : CmpOp) (ts : List Token) (x : s.Cond × List Token) → is_expr a ≡ true → quantifier_at ts ≡ o
      → elim o as (λ _. Parsed s.Cond) [ None ↦ read.sum e c q j ts >>= (λ y. λ us. Some (s.compare a op y, us)) | Some r ↦ read.sub e c q j (s.quantified a op r.0) r.1 ] ≡ Some x
      → Takes ok_test sp.cond (sp.expr a (t.Compare op ∷ ts)) x
  compared_at None a op ts x g look h =
      let b = bind_ok (read.sum e c q j ts) (λ y. λ us. Some (s.compare a op y, us)) x h in
      let p = sum_sound ts b.0 b.1 in
      found ok_test sp.cond _ (s.compare a op b.0.0, b.0.1) x
      (record { grammatical = and_true _ _ g p.grammatical; tokens = ap (λ u. sp.expr a (t.Compare op ∷ u)) p.tokens }) b.2
  compared_at (Some each) a op ts x g look h =
      let i = below.sub_sound e c q j se sc sq sj (s.quantified a op each.0) each.1 x h in
      record {
        grammatical = ap ok_test i.is ∙ and_true _ _ g i.grammatical;
        tokens = rw i.is (ap (λ u. sp.expr a (t.Compare op ∷ u)) (word.quantifier_sound ts each look ∙ ap (λ u. sp.quantifier each.0 ∷ u) i.tokens));
      }

  after_sound : (a : s.Expr) (ts : List Token) (x : s.Cond × List Token) → is_expr a ≡ true → read.pred_after e c q j a ts ≡ Some x → Takes ok_test sp.cond (sp.expr a ts) x
  after_sound a (t.Compare op ∷ ts) x g h = compared_at (quantifier_at ts) a op ts x g refl h
  after_sound a (t.Key k.Is ∷ ts) x g h =
      let p = null_sound a (not_at ts).0 (not_at ts).1 x g h in
      record { grammatical = p.grammatical; tokens = ap (λ u. sp.expr a (t.Key k.Is ∷ u)) (word.not_sound ts) ∙ p.tokens }
  after_sound a ts x g h = negatable_sound a (not_at ts).0 (not_at ts).1 x g h

  pred_sound : (ts : List Token) (x : s.Cond × List Token) → read.pred e c q j ts ≡ Some x → Takes ok_test sp.cond ts x
  pred_sound (t.Key k.Exists ∷ ts) x h =
      let i = below.sub_sound e c q j se sc sq sj s.exists ts x h in
      record { grammatical = ap ok_test i.is ∙ i.grammatical; tokens = rw i.is (ap (λ u. t.Key k.Exists ∷ u) i.tokens) }
  pred_sound ts x h =
      let b = bind_ok (read.sum e c q j ts) (read.pred_after e c q j) x h in
      let p = sum_sound ts b.0 b.1 in
      let m = after_sound b.0.0 b.0.1 x p.grammatical b.2 in
      record { grammatical = m.grammatical; tokens = p.tokens ∙ m.tokens }

  -- ---- conditions

  bracket_sound : (ts : List Token) (x : s.Cond × List Token) → read.bracket e c q j ts ≡ Some x → Takes ok_test sp.cond ts x
  bracket_sound (t.LeftParen ∷ ts) x h =
      let i = inside is_cond sp.cond c sc s.bracket ts x h in
      record { grammatical = ap ok_test i.is ∙ i.grammatical; tokens = rw i.is (ap (λ u. t.LeftParen ∷ u) i.tokens) }
  bracket_sound _ x h = absurd (none_some x h)

  test_at : (b : Bool) (ts : List Token) (x : s.Cond × List Token) → (if b then read.bracket e c q j ts else read.pred e c q j ts) ≡ Some x → Takes ok_test sp.cond ts x
  test_at true ts x h = bracket_sound ts x h
  test_at false ts x h = pred_sound ts x h

  test_sound : (ts : List Token) (x : s.Cond × List Token) → read.test e c q j ts ≡ Some x → Takes ok_test sp.cond ts x
  test_sound ts x h = test_at (opens_cond ts) ts x h

  neg_sound : (ts : List Token) (x : s.Cond × List Token) → read.neg e c q j ts ≡ Some x → Takes ok_neg sp.cond ts x
  neg_sound (t.Key k.Not ∷ ts) x h =
      let b = bind_ok (read.test e c q j ts) (λ y. λ us. Some (s.negated y, us)) x h in
      let p = test_sound ts b.0 b.1 in
      found ok_neg sp.cond _ (s.negated b.0.0, b.0.1) x (record { grammatical = p.grammatical; tokens = ap (λ u. t.Key k.Not ∷ u) p.tokens }) b.2
  neg_sound ts x h = let p = test_sound ts x h in record { grammatical = test_neg x.0 p.grammatical; tokens = p.tokens }

  negs_sound : (n : ℕ) (left : s.Cond) (ts : List Token) (x : s.Cond × List Token) → ok_conj left ≡ true → read.more_negs e c q j n left ts ≡ Some x
      → Takes ok_conj sp.cond (sp.cond left ts) x
  negs_sound zero left ts x g h = found ok_conj sp.cond _ (left, ts) x (record { grammatical = g; tokens = refl }) h
  negs_sound (suc n) left (t.Key k.And ∷ ts) x g h =
      let b = bind_ok (read.neg e c q j ts) (λ right. read.more_negs e c q j n (s.both left right)) x h in
      let p = neg_sound ts b.0 b.1 in
      let m = negs_sound n (s.both left b.0.0) b.0.1 x (and_true _ _ g p.grammatical) b.2 in
      record { grammatical = m.grammatical; tokens = ap (λ u. sp.cond left (t.Key k.And ∷ u)) p.tokens ∙ m.tokens }
  negs_sound (suc n) left ts x g h = found ok_conj sp.cond _ (left, ts) x (record { grammatical = g; tokens = refl }) h

  conj_sound : (ts : List Token) (x : s.Cond × List Token) → read.conj e c q j ts ≡ Some x → Takes ok_conj sp.cond ts x
  conj_sound ts x h =
      let b = bind_ok (read.neg e c q j ts) (read.more_negs e c q j (length ts)) x h in
      let p = neg_sound ts b.0 b.1 in
      let m = negs_sound (length ts) b.0.0 b.0.1 x (neg_conj b.0.0 p.grammatical) b.2 in
      record { grammatical = m.grammatical; tokens = p.tokens ∙ m.tokens }

  conjs_sound : (n : ℕ) (left : s.Cond) (ts : List Token) (x : s.Cond × List Token) → is_cond left ≡ true → read.more_conjs e c q j n left ts ≡ Some x
      → Takes is_cond sp.cond (sp.cond left ts) x
  conjs_sound zero left ts x g h = found is_cond sp.cond _ (left, ts) x (record { grammatical = g; tokens = refl }) h
  conjs_sound (suc n) left (t.Key k.Or ∷ ts) x g h =
      let b = bind_ok (read.conj e c q j ts) (λ right. read.more_conjs e c q j n (s.either left right)) x h in
      let p = conj_sound ts b.0 b.1 in
      let m = conjs_sound n (s.either left b.0.0) b.0.1 x (and_true _ _ g p.grammatical) b.2 in
      record { grammatical = m.grammatical; tokens = ap (λ u. sp.cond left (t.Key k.Or ∷ u)) p.tokens ∙ m.tokens }
  conjs_sound (suc n) left ts x g h = found is_cond sp.cond _ (left, ts) x (record { grammatical = g; tokens = refl }) h

  pub disj_sound : (ts : List Token) (x : s.Cond × List Token) → read.disj e c q j ts ≡ Some x → Takes is_cond sp.cond ts x
  disj_sound ts x h =
      let b = bind_ok (read.conj e c q j ts) (read.more_conjs e c q j (length ts)) x h in
      let p = conj_sound ts b.0 b.1 in
      let m = conjs_sound (length ts) b.0.0 b.0.1 x (and_ok (is_conj b.0.0) _ p.grammatical).1 b.2 in
      record { grammatical = m.grammatical; tokens = p.tokens ∙ m.tokens }

  -- ---- WHERE and HAVING

  pub where_sound : (ts : List Token) (x : s.Filter × List Token) → read.where_filter e c q j ts ≡ Some x → Takes is_filter (sp.filter k.Where) ts x
  where_sound (t.Key k.Where ∷ ts) x h =
      let b = bind_ok (read.disj e c q j ts) (λ y. λ us. Some (s.only_where y, us)) x h in
      let p = disj_sound ts b.0 b.1 in
      found is_filter (sp.filter k.Where) _ (s.only_where b.0.0, b.0.1) x (record { grammatical = p.grammatical; tokens = ap (λ u. t.Key k.Where ∷ u) p.tokens }) b.2
  where_sound ts x h = found is_filter (sp.filter k.Where) _ (s.no_filter, ts) x (record { grammatical = refl; tokens = refl }) h

  pub having_sound : (ts : List Token) (x : s.Filter × List Token) → read.having_filter e c q j ts ≡ Some x → Takes is_filter (sp.filter k.Having) ts x
  having_sound (t.Key k.Having ∷ ts) x h =
      let b = bind_ok (read.disj e c q j ts) (λ y. λ us. Some (s.only_where y, us)) x h in
      let p = disj_sound ts b.0 b.1 in
      found is_filter (sp.filter k.Having) _ (s.only_where b.0.0, b.0.1) x (record { grammatical = p.grammatical; tokens = ap (λ u. t.Key k.Having ∷ u) p.tokens }) b.2
  having_sound ts x h = found is_filter (sp.filter k.Having) _ (s.no_filter, ts) x (record { grammatical = refl; tokens = refl }) h
