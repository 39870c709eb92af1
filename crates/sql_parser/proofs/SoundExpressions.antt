-- What is read is spelled so: expressions.
use Rattle.std.proofs.Common.{◌≡◌, ℕ, zero, suc, Bool, true, false, List, ◌∷◌, Some, None, refl, sym, ◌∙◌, ap, length}
use Rattle.std.specs.Prelude.{◌&&◌, not, if◌then◌else◌}
use Rattle.sql_text.specs.declared.key.Key.{Key}
use Rattle.sql_text.specs.declared.key.Key.TheVariants as k
use Rattle.sql_text.specs.declared.token.Token.{Token}
use Rattle.sql_text.specs.declared.token.Token.TheVariants as t
use Rattle.sql_ast.specs.declared.word.AdditiveOp.{AdditiveOp}
use Rattle.sql_ast.specs.declared.word.MultiplicativeOp.{MultiplicativeOp}
use Rattle.sql_ast.specs.declared.word.SetFunction.{SetFunction}
use Rattle.sql_ast.specs.declared.word.SetFunction.TheVariants as of
use Rattle.sql_ast.specs.declared.word.Sign.TheVariants as sign
use Rattle.sql_ast.specs.Grammatical.{is_term, is_factor, is_prim, is_sub, some_expr, some_arm, some_choice, lone_sub, is_expr, are_exprs, is_res, are_arms, are_choices, is_otherwise, is_cond, is_table, is_query}
use Rattle.sql_ast.specs.Spelling as sp
use Rattle.sql_ast.specs.Syntax as s
use Rattle.sql_parser.specs.Ahead.{at_query}
use Rattle.sql_parser.specs.Read as read
use Rattle.sql_parser.specs.Read.{end_case, starts_when}
use Rattle.sql_parser.specs.Words.{Parsed, Parser, ◌>>=◌, closed, additive_at, multiplicative_at, set_quantifier_at, column_after, data_type}
use Rattle.sql_parser.proofs.Lookahead as look
use Rattle.sql_parser.proofs.Steps.{some_inj, none_some, bind_ok, closed_ok, and_true, and_ok}
use Rattle.sql_parser.proofs.SoundSteps.{Takes, Sound, Made, inside, ending, found}
use Rattle.sql_parser.proofs.SoundWords as word

-- ---- what isn't a lone sub

pub not_lone : (x : s.Expr) (ts : List Token)
    → at_query (sp.expr x (t.RightParen ∷ ts)) ≡ false → not (is_sub x) ≡ true
not_lone (s.scalar q) ts h = absurd (let e = look.is_query (s.enclosed q) (t.RightParen ∷ ts) refl in cc)
not_lone _ ts h = refl

pub not_lone_list : (xs : s.Exprs) (ts : List Token)
    → at_query (sp.exprs xs (t.RightParen ∷ ts)) ≡ false → not (lone_sub xs) ≡ true
not_lone_list s.no_expr ts h = refl
not_lone_list (s.one_expr a s.no_expr) ts h = not_lone a ts h
not_lone_list (s.one_expr a (s.one_expr b xs)) ts h = refl

-- ---- the lines of the grammar

abbrev pub ok_prim : s.Expr → Bool
ok_prim x = is_prim x && is_expr x

abbrev pub ok_factor : s.Expr → Bool
ok_factor x = is_factor x && is_expr x

abbrev pub ok_term : s.Expr → Bool
ok_term x = is_term x && is_expr x

abbrev pub ok_exprs : s.Exprs → Bool
ok_exprs xs = some_expr xs && are_exprs xs

abbrev pub ok_arms : s.Arms → Bool
ok_arms xs = some_arm xs && are_arms xs

abbrev pub ok_choices : s.Choices → Bool
ok_choices xs = some_choice xs && are_choices xs

-- sub = "(" query ")"
abbrev pub spell_sub : s.Query → List Token → List Token
spell_sub x ts = t.LeftParen ∷ sp.query x (t.RightParen ∷ ts)

prim_factor : (x : s.Expr) → ok_prim x ≡ true → ok_factor x ≡ true
prim_factor (s.add a op b) h = absurd (cc)
prim_factor (s.multiply a op b) h = absurd (cc)
prim_factor (s.signed p a) h = absurd (cc)
prim_factor _ h = h

factor_term : (x : s.Expr) → ok_factor x ≡ true → ok_term x ≡ true
factor_term (s.add a op b) h = absurd (cc)
factor_term (s.multiply a op b) h = absurd (cc)
factor_term _ h = h

module _ (e : Parser s.Expr) (c : Parser s.Cond) (q : Parser s.Query) (j : Parser s.TableRef) (se : Sound is_expr sp.expr e) (sc : Sound is_cond sp.cond c) (sq : Sound is_query sp.query q) (sj : Sound is_table sp.table j) where
  -- ---- lists of expressions

  more_exprs_sound : (n : ℕ) (ts : List Token) (x : s.Exprs × List Token) → read.more_exprs e c q j n ts ≡ Some x → Takes are_exprs sp.more_exprs ts x
  more_exprs_sound zero ts x h = found are_exprs sp.more_exprs _ (s.no_expr, ts) x (record { grammatical = refl; tokens = refl }) h
  more_exprs_sound (suc n) (t.Comma ∷ ts) x h =
      let b = bind_ok (e ts) (λ a. λ us. read.more_exprs e c q j n us >>= (λ xs. λ vs. Some (s.one_expr a xs, vs))) x h in
      let m = bind_ok (read.more_exprs e c q j n b.0.1) (λ xs. λ vs. Some (s.one_expr b.0.0 xs, vs)) x b.2 in
      let first = se.holds ts b.0 b.1 in
      let rest = more_exprs_sound n b.0.1 m.0 m.1 in
      found are_exprs sp.more_exprs _ (s.one_expr b.0.0 m.0.0, m.0.1) x
      (record { grammatical = and_true _ _ first.grammatical rest.grammatical; tokens = ap (λ u. t.Comma ∷ u) (first.tokens ∙ ap (sp.expr b.0.0) rest.tokens) }) m.2
  more_exprs_sound (suc n) ts x h = found are_exprs sp.more_exprs _ (s.no_expr, ts) x (record { grammatical = refl; tokens = refl }) h

  pub exprs_sound : (ts : List Token) (x : s.Exprs × List Token) → read.exprs e c q j ts ≡ Some x → Takes ok_exprs sp.exprs ts x
  exprs_sound ts x h =
      let b = bind_ok (e ts) (λ a. λ us. read.more_exprs e c q j (length us) us >>= (λ xs. λ vs. Some (s.one_expr a xs, vs))) x h in
      let m = bind_ok (read.more_exprs e c q j (length b.0.1) b.0.1) (λ xs. λ vs. Some (s.one_expr b.0.0 xs, vs)) x b.2 in
      let first = se.holds ts b.0 b.1 in
      let rest = more_exprs_sound (length b.0.1) b.0.1 m.0 m.1 in
      found ok_exprs sp.exprs _ (s.one_expr b.0.0 m.0.0, m.0.1) x
      (record { grammatical = and_true _ _ first.grammatical rest.grammatical; tokens = first.tokens ∙ ap (sp.expr b.0.0) rest.tokens }) m.2

  pub list_sound : Sound ok_exprs sp.exprs (read.exprs e c q j)
  list_sound = record { holds = exprs_sound }

  -- ---- CASE

  res_sound : (ts : List Token) (x : s.Res × List Token) → read.res e c q j ts ≡ Some x → Takes is_res sp.res ts x
  res_sound (t.Key k.Null ∷ ts) x h = found is_res sp.res _ (s.null, ts) x (record { grammatical = refl; tokens = refl }) h
  res_sound ts x h =
      let b = bind_ok (e ts) (λ a. λ us. Some (s.given a, us)) x h in
      let p = se.holds ts b.0 b.1 in
      found is_res sp.res _ (s.given b.0.0, b.0.1) x (record { grammatical = p.grammatical; tokens = p.tokens }) b.2

  then_sound : {A : Type 0} (a : A) (ts : List Token) (x : (A × s.Res) × List Token) → read.then_res e c q j a ts ≡ Some x
      → (x.0.0 ≡ a) × (is_res x.0.1 ≡ true) × (ts ≡ t.Key k.Then ∷ sp.res x.0.1 x.1)
  then_sound a (t.Key k.Then ∷ ts) x h =
      let b = bind_ok (read.res e c q j ts) (λ r. λ us. Some ((a, r), us)) x h in
      let p = res_sound ts b.0 b.1 in
      let same : x ≡ ((a, b.0.0), b.0.1) = sym (some_inj ((a, b.0.0), b.0.1) x b.2) in
      rw same (refl, p.grammatical, ap (λ u. t.Key k.Then ∷ u) p.tokens)
  then_sound a _ x h = absurd (none_some x h)

  -- what stands after WHEN
  arm_sound : {A : Type 0} (ok : A → Bool) (spell : A → List Token → List Token) (p : Parser A) → Sound ok spell p → (ts : List Token) (x : (A × s.Res) × List Token)
      → (p ts >>= read.then_res e c q j) ≡ Some x
      → (ok x.0.0 ≡ true) × (is_res x.0.1 ≡ true) × (ts ≡ spell x.0.0 (t.Key k.Then ∷ sp.res x.0.1 x.1))
  arm_sound ok spell p sound ts x h =
      let b = bind_ok (p ts) (read.then_res e c q j) x h in
      let first = sound.holds ts b.0 b.1 in
      let last = then_sound b.0.0 b.0.1 x b.2 in
      (ap ok last.0 ∙ first.grammatical, last.1, first.tokens ∙ ap (spell b.0.0) last.2 ∙ ap (λ a. spell a (t.Key k.Then ∷ sp.res x.0.1 x.1)) (sym last.0))

  more_arms_sound : (n : ℕ) (ts : List Token) (x : s.Arms × List Token) → read.more_arms e c q j n ts ≡ Some x → Takes are_arms sp.arms ts x
  more_arms_sound zero ts x h = found are_arms sp.arms _ (s.no_arm, ts) x (record { grammatical = refl; tokens = refl }) h
  more_arms_sound (suc n) (t.Key k.When ∷ ts) x h =
      let b = bind_ok (c ts >>= read.then_res e c q j) (λ a. λ us. read.more_arms e c q j n us >>= (λ xs. λ vs. Some (s.one_arm a.0 a.1 xs, vs))) x h in
      let m = bind_ok (read.more_arms e c q j n b.0.1) (λ xs. λ vs. Some (s.one_arm b.0.0.0 b.0.0.1 xs, vs)) x b.2 in
      let first = arm_sound is_cond sp.cond c sc ts b.0 b.1 in
      let rest = more_arms_sound n b.0.1 m.0 m.1 in
      found are_arms sp.arms _ (s.one_arm b.0.0.0 b.0.0.1 m.0.0, m.0.1) x
      (record {
        grammatical = and_true _ _ first.0 (and_true _ _ first.1 rest.grammatical);
        tokens = ap (λ u. t.Key k.When ∷ u) (first.2 ∙ ap (λ u. sp.cond b.0.0.0 (t.Key k.Then ∷ sp.res b.0.0.1 u)) rest.tokens);
      }) m.2
  more_arms_sound (suc n) ts x h = found are_arms sp.arms _ (s.no_arm, ts) x (record { grammatical = refl; tokens = refl }) h

  arms_sound : (ts : List Token) (x : s.Arms × List Token) → read.arms e c q j ts ≡ Some x → Takes ok_arms sp.arms ts x
  arms_sound (t.Key k.When ∷ ts) x h =
      let b = bind_ok (c ts >>= read.then_res e c q j) (λ a. λ us. read.more_arms e c q j (length us) us >>= (λ xs. λ vs. Some (s.one_arm a.0 a.1 xs, vs))) x h in
      let m = bind_ok (read.more_arms e c q j (length b.0.1) b.0.1) (λ xs. λ vs. Some (s.one_arm b.0.0.0 b.0.0.1 xs, vs)) x b.2 in
      let first = arm_sound is_cond sp.cond c sc ts b.0 b.1 in
      let rest = more_arms_sound (length b.0.1) b.0.1 m.0 m.1 in
      found ok_arms sp.arms _ (s.one_arm b.0.0.0 b.0.0.1 m.0.0, m.0.1) x
      (record {
        grammatical = and_true _ _ first.0 (and_true _ _ first.1 rest.grammatical);
        tokens = ap (λ u. t.Key k.When ∷ u) (first.2 ∙ ap (λ u. sp.cond b.0.0.0 (t.Key k.Then ∷ sp.res b.0.0.1 u)) rest.tokens);
      }) m.2
  arms_sound _ x h = absurd (none_some x h)

  more_choices_sound : (n : ℕ) (ts : List Token) (x : s.Choices × List Token) → read.more_choices e c q j n ts ≡ Some x → Takes are_choices sp.choices ts x
  more_choices_sound zero ts x h = found are_choices sp.choices _ (s.no_choice, ts) x (record { grammatical = refl; tokens = refl }) h
  more_choices_sound (suc n) (t.Key k.When ∷ ts) x h =
      let b = bind_ok (e ts >>= read.then_res e c q j) (λ a. λ us. read.more_choices e c q j n us >>= (λ xs. λ vs. Some (s.one_choice a.0 a.1 xs, vs))) x h in
      let m = bind_ok (read.more_choices e c q j n b.0.1) (λ xs. λ vs. Some (s.one_choice b.0.0.0 b.0.0.1 xs, vs)) x b.2 in
      let first = arm_sound is_expr sp.expr e se ts b.0 b.1 in
      let rest = more_choices_sound n b.0.1 m.0 m.1 in
      found are_choices sp.choices _ (s.one_choice b.0.0.0 b.0.0.1 m.0.0, m.0.1) x
      (record {
        grammatical = and_true _ _ first.0 (and_true _ _ first.1 rest.grammatical);
        tokens = ap (λ u. t.Key k.When ∷ u) (first.2 ∙ ap (λ u. sp.expr b.0.0.0 (t.Key k.Then ∷ sp.res b.0.0.1 u)) rest.tokens);
      }) m.2
  more_choices_sound (suc n) ts x h = found are_choices sp.choices _ (s.no_choice, ts) x (record { grammatical = refl; tokens = refl }) h

  choices_sound : (ts : List Token) (x : s.Choices × List Token) → read.choices e c q j ts ≡ Some x → Takes ok_choices sp.choices ts x
  choices_sound (t.Key k.When ∷ ts) x h =
      let b = bind_ok (e ts >>= read.then_res e c q j) (λ a. λ us. read.more_choices e c q j (length us) us >>= (λ xs. λ vs. Some (s.one_choice a.0 a.1 xs, vs))) x h in
      let m = bind_ok (read.more_choices e c q j (length b.0.1) b.0.1) (λ xs. λ vs. Some (s.one_choice b.0.0.0 b.0.0.1 xs, vs)) x b.2 in
      let first = arm_sound is_expr sp.expr e se ts b.0 b.1 in
      let rest = more_choices_sound (length b.0.1) b.0.1 m.0 m.1 in
      found ok_choices sp.choices _ (s.one_choice b.0.0.0 b.0.0.1 m.0.0, m.0.1) x
      (record {
        grammatical = and_true _ _ first.0 (and_true _ _ first.1 rest.grammatical);
        tokens = ap (λ u. t.Key k.When ∷ u) (first.2 ∙ ap (λ u. sp.expr b.0.0.0 (t.Key k.Then ∷ sp.res b.0.0.1 u)) rest.tokens);
      }) m.2
  choices_sound _ x h = absurd (none_some x h)

  otherwise_sound : (ts : List Token) (x : s.Otherwise × List Token) → read.otherwise e c q j ts ≡ Some x → Takes is_otherwise sp.otherwise ts x
  otherwise_sound (t.Key k.Else ∷ ts) x h =
      let b = bind_ok (read.res e c q j ts) (λ r. λ us. Some (s.or_else r, us)) x h in
      let p = res_sound ts b.0 b.1 in
      found is_otherwise sp.otherwise _ (s.or_else b.0.0, b.0.1) x (record { grammatical = p.grammatical; tokens = ap (λ u. t.Key k.Else ∷ u) p.tokens }) b.2
  otherwise_sound ts x h = found is_otherwise sp.otherwise _ (s.no_else, ts) x (record { grammatical = refl; tokens = refl }) h

  else_sound : Sound is_otherwise sp.otherwise (read.otherwise e c q j)
  else_sound = record { holds = otherwise_sound }

  searched_sound : (ts : List Token) (x : s.Expr × List Token) → read.searched e c q j ts ≡ Some x → Takes ok_prim sp.expr (t.Key k.Case ∷ ts) x
  searched_sound ts x h =
      let b = bind_ok (read.arms e c q j ts) (λ xs. λ us. read.otherwise e c q j us >>= end_case (s.searched xs)) x h in
      let first = arms_sound ts b.0 b.1 in
      let some = and_ok (some_arm b.0.0) (are_arms b.0.0) first.grammatical in
      let i = ending is_otherwise sp.otherwise (read.otherwise e c q j) else_sound (s.searched b.0.0) b.0.1 x b.2 in
      record {
        grammatical = ap ok_prim i.is ∙ and_true _ _ some.0 (and_true _ _ some.1 i.grammatical);
        tokens = rw i.is (ap (λ u. t.Key k.Case ∷ u) (first.tokens ∙ ap (sp.arms b.0.0) i.tokens));
      }

  -- the parts of a simple CASE after its operand
  choices_on_sound : (a : s.Expr) (ts : List Token) (x : s.Expr × List Token) → is_expr a ≡ true
      → (read.choices e c q j ts >>= (λ xs. λ us. read.otherwise e c q j us >>= end_case (s.simple a xs))) ≡ Some x → Takes ok_prim sp.expr (t.Key k.Case ∷ sp.expr a ts) x
  choices_on_sound a ts x g h =
      let b = bind_ok (read.choices e c q j ts) (λ xs. λ us. read.otherwise e c q j us >>= end_case (s.simple a xs)) x h in
      let first = choices_sound ts b.0 b.1 in
      let some = and_ok (some_choice b.0.0) (are_choices b.0.0) first.grammatical in
      let i = ending is_otherwise sp.otherwise (read.otherwise e c q j) else_sound (s.simple a b.0.0) b.0.1 x b.2 in
      record {
        grammatical = ap ok_prim i.is ∙ and_true _ _ g (and_true _ _ some.0 (and_true _ _ some.1 i.grammatical));
        tokens = rw i.is (ap (λ u. t.Key k.Case ∷ sp.expr a u) (first.tokens ∙ ap (sp.choices b.0.0) i.tokens));
      }

  simple_sound : (ts : List Token) (x : s.Expr × List Token) → read.simple e c q j ts ≡ Some x → Takes ok_prim sp.expr (t.Key k.Case ∷ ts) x
  simple_sound ts x h =
      let b = bind_ok (e ts) (λ a. λ us. read.choices e c q j us >>= (λ xs. λ vs. read.otherwise e c q j vs >>= end_case (s.simple a xs))) x h in
      let p = se.holds ts b.0 b.1 in
      let m = choices_on_sound b.0.0 b.0.1 x p.grammatical b.2 in
      record { grammatical = m.grammatical; tokens = ap (λ u. t.Key k.Case ∷ u) p.tokens ∙ m.tokens }

  case_at : (b : Bool) (ts : List Token) (x : s.Expr × List Token) → (if b then read.searched e c q j ts else read.simple e c q j ts) ≡ Some x → Takes ok_prim sp.expr (t.Key k.Case ∷ ts) x
  case_at true ts x h = searched_sound ts x h
  case_at false ts x h = simple_sound ts x h

  -- ---- what stands in brackets

  pub sub_sound : {B : Type 0} (f : s.Query → B) (ts : List Token) (x : B × List Token) → read.sub e c q j f ts ≡ Some x → Made is_query spell_sub f ts x
  sub_sound f (t.LeftParen ∷ ts) x h =
      let i = inside is_query sp.query q sq f ts x h in
      record { value = i.value; is = i.is; grammatical = i.grammatical; tokens = ap (λ u. t.LeftParen ∷ u) i.tokens }
  sub_sound f _ x h = absurd (none_some x h)

  at_paren : (b : Bool) (ts : List Token) (x : s.Expr × List Token) → at_query ts ≡ b → (if b then (q ts >>= closed s.scalar) else (e ts >>= closed s.paren)) ≡ Some x
      → Takes ok_prim sp.expr (t.LeftParen ∷ ts) x
  at_paren true ts x a h =
      let i = inside is_query sp.query q sq s.scalar ts x h in
      record { grammatical = ap ok_prim i.is ∙ i.grammatical; tokens = rw i.is (ap (λ u. t.LeftParen ∷ u) i.tokens) }
  at_paren false ts x a h =
      let i = inside is_expr sp.expr e se s.paren ts x h in
      let alone = not_lone i.value x.1 (ap at_query (sym i.tokens) ∙ a) in
      record { grammatical = ap ok_prim i.is ∙ and_true _ _ alone i.grammatical; tokens = rw i.is (ap (λ u. t.LeftParen ∷ u) i.tokens) }

  aggregate_sound : (f : SetFunction) (ts : List Token) (x : s.Expr × List Token) → read.aggregate e c q j f ts ≡ Some x → Takes ok_prim sp.expr (sp.set_function f ∷ ts) x
  aggregate_sound f (t.LeftParen ∷ ts) x h =
      let i = inside is_expr sp.expr e se (s.aggregate f (set_quantifier_at ts).0) (set_quantifier_at ts).1 x h in
      record {
        grammatical = ap ok_prim i.is ∙ i.grammatical;
        tokens = rw i.is (ap (λ u. sp.set_function f ∷ t.LeftParen ∷ u) (word.set_quantifier_sound ts ∙ ap (sp.set_quantifier (set_quantifier_at ts).0) i.tokens));
      }
  aggregate_sound f _ x h = absurd (none_some x h)

  count_sound : (ts : List Token) (x : s.Expr × List Token) → read.count e c q j ts ≡ Some x → Takes ok_prim sp.expr (t.Key k.Count ∷ ts) x
  count_sound (t.LeftParen ∷ t.Star ∷ ts) x h =
      let all = closed_ok (λ y. y) s.count_all ts x h in
      record { grammatical = ap ok_prim all.0; tokens = rw all.0 (ap (λ u. t.Key k.Count ∷ t.LeftParen ∷ t.Star ∷ u) all.1) }
  count_sound ts x h = aggregate_sound of.Count ts x h

  coalesce_rest_sound : (a : s.Expr) (ts : List Token) (x : s.Expr × List Token) → is_expr a ≡ true → read.coalesce_rest e c q j a ts ≡ Some x
      → Takes ok_prim sp.expr (t.Key k.Coalesce ∷ t.LeftParen ∷ sp.expr a ts) x
  coalesce_rest_sound a (t.Comma ∷ ts) x g h =
      let i = inside ok_exprs sp.exprs (read.exprs e c q j) list_sound (s.coalesce a) ts x h in
      record {
        grammatical = ap ok_prim i.is ∙ and_true _ _ g i.grammatical;
        tokens = rw i.is (ap (λ u. t.Key k.Coalesce ∷ t.LeftParen ∷ sp.expr a u) (ap (λ u. t.Comma ∷ u) i.tokens ∙ comma_exprs i.value _ i.grammatical));
      }
    where
      comma_exprs : (xs : s.Exprs) (us : List Token) → ok_exprs xs ≡ true → t.Comma ∷ sp.exprs xs us ≡ sp.more_exprs xs us
      comma_exprs s.no_expr us g = absurd (cc)
      comma_exprs (s.one_expr b xs) us g = refl
  coalesce_rest_sound a _ x g h = absurd (none_some x h)

  coalesce_sound : (ts : List Token) (x : s.Expr × List Token) → read.coalesce e c q j ts ≡ Some x → Takes ok_prim sp.expr (t.Key k.Coalesce ∷ ts) x
  coalesce_sound (t.LeftParen ∷ ts) x h =
      let b = bind_ok (e ts) (read.coalesce_rest e c q j) x h in
      let first = se.holds ts b.0 b.1 in
      let p = coalesce_rest_sound b.0.0 b.0.1 x first.grammatical b.2 in
      record { grammatical = p.grammatical; tokens = ap (λ u. t.Key k.Coalesce ∷ t.LeftParen ∷ u) first.tokens ∙ p.tokens }
  coalesce_sound _ x h = absurd (none_some x h)

  null_if_rest_sound : (a : s.Expr) (ts : List Token) (x : s.Expr × List Token) → is_expr a ≡ true → read.null_if_rest e c q j a ts ≡ Some x
      → Takes ok_prim sp.expr (t.Key k.NullIf ∷ t.LeftParen ∷ sp.expr a ts) x
  null_if_rest_sound a (t.Comma ∷ ts) x g h =
      let i = inside is_expr sp.expr e se (s.null_if a) ts x h in
      record {
        grammatical = ap ok_prim i.is ∙ and_true _ _ g i.grammatical;
        tokens = rw i.is (ap (λ u. t.Key k.NullIf ∷ t.LeftParen ∷ sp.expr a (t.Comma ∷ u)) i.tokens);
      }
  null_if_rest_sound a _ x g h = absurd (none_some x h)

  null_if_sound : (ts : List Token) (x : s.Expr × List Token) → read.null_if e c q j ts ≡ Some x → Takes ok_prim sp.expr (t.Key k.NullIf ∷ ts) x
  null_if_sound (t.LeftParen ∷ ts) x h =
      let b = bind_ok (e ts) (read.null_if_rest e c q j) x h in
      let first = se.holds ts b.0 b.1 in
      let p = null_if_rest_sound b.0.0 b.0.1 x first.grammatical b.2 in
      record { grammatical = p.grammatical; tokens = ap (λ u. t.Key k.NullIf ∷ t.LeftParen ∷ u) first.tokens ∙ p.tokens }
  null_if_sound _ x h = absurd (none_some x h)

  cast_type_sound : (ts : List Token) (x : s.Expr × List Token) → read.cast_type e c q j ts ≡ Some x → Takes ok_prim sp.expr (t.Key k.Cast ∷ t.LeftParen ∷ t.Key k.Null ∷ ts) x
  cast_type_sound (t.Key k.As ∷ ts) x h =
      let b = bind_ok (data_type ts) (closed s.cast_null) x h in
      let p = word.data_type_sound ts b.0 b.1 in
      let end = closed_ok s.cast_null b.0.0 b.0.1 x b.2 in
      record {
        grammatical = ap ok_prim end.0;
        tokens = rw end.0 (ap (λ u. t.Key k.Cast ∷ t.LeftParen ∷ t.Key k.Null ∷ t.Key k.As ∷ u) (p ∙ ap (sp.data_type b.0.0) end.1));
      }
  cast_type_sound _ x h = absurd (none_some x h)

  cast_sound : (ts : List Token) (x : s.Expr × List Token) → read.cast e c q j ts ≡ Some x → Takes ok_prim sp.expr (t.Key k.Cast ∷ ts) x
  cast_sound (t.LeftParen ∷ t.Key k.Null ∷ ts) x h = cast_type_sound ts x h
  cast_sound _ x h = absurd (none_some x h)

  -- ---- expressions

  word_prim_sound : (kw : Key) (ts : List Token) (x : s.Expr × List Token) → read.word_prim e c q j kw ts ≡ Some x → Takes ok_prim sp.expr (t.Key kw ∷ ts) x
  word_prim_sound k.Case ts x h = case_at (starts_when ts) ts x h
  word_prim_sound k.Count ts x h = count_sound ts x h
  word_prim_sound k.Sum ts x h = aggregate_sound of.Sum ts x h
  word_prim_sound k.Avg ts x h = aggregate_sound of.Avg ts x h
  word_prim_sound k.Min ts x h = aggregate_sound of.Min ts x h
  word_prim_sound k.Max ts x h = aggregate_sound of.Max ts x h
  word_prim_sound k.Coalesce ts x h = coalesce_sound ts x h
  word_prim_sound k.NullIf ts x h = null_if_sound ts x h
  word_prim_sound k.Cast ts x h = cast_sound ts x h
  word_prim_sound _ ts x h = absurd (none_some x h)

  prim_sound : (ts : List Token) (x : s.Expr × List Token) → read.prim e c q j ts ≡ Some x → Takes ok_prim sp.expr ts x
  prim_sound (t.Number n ∷ ts) x h = found ok_prim sp.expr _ (s.number n, ts) x (record { grammatical = refl; tokens = refl }) h
  prim_sound (t.Str n ∷ ts) x h = found ok_prim sp.expr _ (s.string n, ts) x (record { grammatical = refl; tokens = refl }) h
  prim_sound (t.Name n ∷ ts) x h =
      let b = bind_ok (column_after n ts) (λ y. λ us. Some (s.col y, us)) x h in
      found ok_prim sp.expr _ (s.col b.0.0, b.0.1) x (record { grammatical = refl; tokens = word.column_after_sound n ts b.0 b.1 }) b.2
  prim_sound (t.LeftParen ∷ ts) x h = at_paren (at_query ts) ts x refl h
  prim_sound (t.Key kw ∷ ts) x h = word_prim_sound kw ts x h
  prim_sound _ x h = absurd (none_some x h)

  factor_sound : (ts : List Token) (x : s.Expr × List Token) → read.factor e c q j ts ≡ Some x → Takes ok_factor sp.expr ts x
  factor_sound (t.Plus ∷ ts) x h =
      let b = bind_ok (read.prim e c q j ts) (λ a. λ us. Some (s.signed sign.Plus a, us)) x h in
      let p = prim_sound ts b.0 b.1 in
      found ok_factor sp.expr _ (s.signed sign.Plus b.0.0, b.0.1) x (record { grammatical = p.grammatical; tokens = ap (λ u. t.Plus ∷ u) p.tokens }) b.2
  factor_sound (t.Minus ∷ ts) x h =
      let b = bind_ok (read.prim e c q j ts) (λ a. λ us. Some (s.signed sign.Minus a, us)) x h in
      let p = prim_sound ts b.0 b.1 in
      found ok_factor sp.expr _ (s.signed sign.Minus b.0.0, b.0.1) x (record { grammatical = p.grammatical; tokens = ap (λ u. t.Minus ∷ u) p.tokens }) b.2
  factor_sound ts x h = let p = prim_sound ts x h in record { grammatical = prim_factor x.0 p.grammatical; tokens = p.tokens }

  factor_turn : (o : Parsed MultiplicativeOp) (n : ℕ) (left : s.Expr) (ts : List Token) (x : s.Expr × List Token)
      → ((l : s.Expr) (us : List Token) → ok_term l ≡ true → read.more_factors e c q j n l us ≡ Some x → Takes ok_term sp.expr (sp.expr l us) x)
      → ok_term left ≡ true → multiplicative_at ts ≡ o
      → elim o as (λ _. Parsed s.Expr) [ None ↦ Some (left, ts) | Some r ↦ read.factor e c q j r.1 >>= (λ right. read.more_factors e c q j n (s.multiply left r.0 right)) ] ≡ Some x
      → Takes ok_term sp.expr (sp.expr left ts) x
  factor_turn None n left ts x more g a h = found ok_term sp.expr _ (left, ts) x (record { grammatical = g; tokens = refl }) h
  factor_turn (Some op) n left ts x more g a h =
      let b = bind_ok (read.factor e c q j op.1) (λ right. read.more_factors e c q j n (s.multiply left op.0 right)) x h in
      let p = factor_sound op.1 b.0 b.1 in
      let m = more (s.multiply left op.0 b.0.0) b.0.1 (and_true _ _ g p.grammatical) b.2 in
      record {
        grammatical = m.grammatical;
        tokens = ap (sp.expr left) (word.multiplicative_sound ts op a ∙ ap (λ u. sp.multiplicative op.0 ∷ u) p.tokens) ∙ m.tokens;
      }

  factors_sound : (n : ℕ) (left : s.Expr) (ts : List Token) (x : s.Expr × List Token) → ok_term left ≡ true → read.more_factors e c q j n left ts ≡ Some x
      → Takes ok_term sp.expr (sp.expr left ts) x
  factors_sound zero left ts x g h = found ok_term sp.expr _ (left, ts) x (record { grammatical = g; tokens = refl }) h
  factors_sound (suc n) left ts x g h = factor_turn (multiplicative_at ts) n left ts x (λ l us gl hl. factors_sound n l us x gl hl) g refl h

  term_sound : (ts : List Token) (x : s.Expr × List Token) → read.term e c q j ts ≡ Some x → Takes ok_term sp.expr ts x
  term_sound ts x h =
      let b = bind_ok (read.factor e c q j ts) (read.more_factors e c q j (length ts)) x h in
      let p = factor_sound ts b.0 b.1 in
      let m = factors_sound (length ts) b.0.0 b.0.1 x (factor_term b.0.0 p.grammatical) b.2 in
      record { grammatical = m.grammatical; tokens = p.tokens ∙ m.tokens }

  term_turn : (o : Parsed AdditiveOp) (n : ℕ) (left : s.Expr) (ts : List Token) (x : s.Expr × List Token)
      → ((l : s.Expr) (us : List Token) → is_expr l ≡ true → read.more_terms e c q j n l us ≡ Some x → Takes is_expr sp.expr (sp.expr l us) x)
      → is_expr left ≡ true → additive_at ts ≡ o
      → elim o as (λ _. Parsed s.Expr) [ None ↦ Some (left, ts) | Some r ↦ read.term e c q j r.1 >>= (λ right. read.more_terms e c q j n (s.add left r.0 right)) ] ≡ Some x
      → Takes is_expr sp.expr (sp.expr left ts) x
  term_turn None n left ts x more g a h = found is_expr sp.expr _ (left, ts) x (record { grammatical = g; tokens = refl }) h
  term_turn (Some op) n left ts x more g a h =
      let b = bind_ok (read.term e c q j op.1) (λ right. read.more_terms e c q j n (s.add left op.0 right)) x h in
      let p = term_sound op.1 b.0 b.1 in
      let m = more (s.add left op.0 b.0.0) b.0.1 (and_true _ _ g p.grammatical) b.2 in
      record {
        grammatical = m.grammatical;
        tokens = ap (sp.expr left) (word.additive_sound ts op a ∙ ap (λ u. sp.additive op.0 ∷ u) p.tokens) ∙ m.tokens;
      }

  terms_sound : (n : ℕ) (left : s.Expr) (ts : List Token) (x : s.Expr × List Token) → is_expr left ≡ true → read.more_terms e c q j n left ts ≡ Some x
      → Takes is_expr sp.expr (sp.expr left ts) x
  terms_sound zero left ts x g h = found is_expr sp.expr _ (left, ts) x (record { grammatical = g; tokens = refl }) h
  terms_sound (suc n) left ts x g h = term_turn (additive_at ts) n left ts x (λ l us gl hl. terms_sound n l us x gl hl) g refl h

  pub sum_sound : (ts : List Token) (x : s.Expr × List Token) → read.sum e c q j ts ≡ Some x → Takes is_expr sp.expr ts x
  sum_sound ts x h =
      let b = bind_ok (read.term e c q j ts) (read.more_terms e c q j (length ts)) x h in
      let p = term_sound ts b.0 b.1 in
      let m = terms_sound (length ts) b.0.0 b.0.1 x (and_ok (is_term b.0.0) _ p.grammatical).1 b.2 in
      record { grammatical = m.grammatical; tokens = p.tokens ∙ m.tokens }
