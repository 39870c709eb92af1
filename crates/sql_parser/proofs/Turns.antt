-- A recursion on a count of turns, beside a loop that counts up; where the loop ends early.
use Rattle.std.proofs.Common.{◌≡◌, ℕ, zero, suc, ◌+◌, ◌-◌, ◌<◌, ◌≤◌, length, List, [], ◌∷◌, ◌++◌, false, Option, Some, None, ap, ◌∙◌, arith, refl}
use Rattle.std.proofs.lemmas.List.{length-map}
use Rattle.std.specs.Global.{Box}
use Rattle.std.specs.Prelude.{Err}
use denote.Bor.{Bor}
use Rattle.sql_text.specs.Tokens.{token_list}
use Rattle.sql_text.specs.declared.key.Key.TheVariants as k
use Rattle.sql_text.specs.declared.token.Spanned.{Spanned}
use Rattle.sql_text.specs.declared.token.Token.{Token}
use Rattle.sql_text.specs.declared.token.Token.TheVariants as t
use Rattle.sql_ast.specs.declared.tree.Arm.{Arm}
use Rattle.sql_ast.specs.declared.tree.Choice.{Choice}
use Rattle.sql_ast.specs.declared.tree.Cond.{Cond}
use Rattle.sql_ast.specs.declared.tree.Expr.{Expr}
use Rattle.sql_ast.specs.declared.word.AdditiveOp.{AdditiveOp}
use Rattle.sql_ast.specs.declared.word.MultiplicativeOp.{MultiplicativeOp}
use Rattle.sql_ast.specs.declared.word.SetFunction.TheVariants as of
use Rattle.sql_ast.specs.Shown as shown
use Rattle.sql_ast.specs.Syntax as s
use Rattle.sql_parser.specs.declared.refusal.ParseRefusal.{ParseRefusal}
use Rattle.sql_parser.specs.declared.refusal.ParseRefusal.TheVariants.{OverLimit, Syntax, Memory}
use Rattle.sql_parser.specs.Words.{Gives, Parsed, Parser, ◌>>=◌, mapped, additive_at, multiplicative_at}
use Rattle.sql_parser.specs.Read.{more_exprs, more_arms, more_choices, more_factors, more_terms, more_negs, more_conjs, multiplied, added, joined_and, joined_or, aggregate, count, factor, term, sum, pred, pred_after, test, neg, conj, disj, starts_comma, starts_open_star, starts_when, starts_not, starts_exists, starts_and, starts_or}

-- ---- turns

pub one_more : {X : Type 0} {x : X} (f : ℕ → X) (n at : ℕ) → at < n → x ≡ f (n - at) → x ≡ f (suc (n - (at + 1)))
one_more f n at below e = let turn : n - at ≡ suc (n - (at + 1)) = omega arith in e ∙ ap f turn

-- no turn is done yet, and there are as many as tokens
pub no_turn : {X : Type 0} (f : ℕ → X) (spans : List Spanned) → f (length (token_list spans)) ≡ f (length spans - 0)
no_turn f spans = let none_yet : length spans ≡ length spans - 0 = omega arith in ap f (length-map spans (λ s. s.token) ∙ none_yet)

pub no_more : {X : Type 0} {x : X} (f : ℕ → X) (n at : ℕ) → n ≤ at → x ≡ f (n - at) → x ≡ f 0
no_more f n at done e = let none : n - at ≡ 0 = omega arith in e ∙ ap f none

-- a reading that changes what it found, and goes on
pub found_then : {A B C : Type 0} (m : Parsed A) (f : A → B) (k : B → Parser C) → (m >>= (λ x. k (f x))) ≡ ((m >>= (λ x. λ us. Some (f x, us))) >>= k)
found_then None f k = refl
found_then (Some r) f k = refl

-- ---- where a loop ends

module _ (e : Parser s.Expr) (c : Parser s.Cond) (q : Parser s.Query) (j : Parser s.TableRef) where
  pub exprs_stop : (n : ℕ) (ts : List Token) → starts_comma ts ≡ false → more_exprs e c q j n ts ≡ Some (s.no_expr, ts)
  exprs_stop zero ts h = refl
  exprs_stop (suc n) (t.Comma ∷ ts) h = absurd (cc)
  exprs_stop (suc n) ts h = refl

  pub arms_stop : (n : ℕ) (ts : List Token) → starts_when ts ≡ false → more_arms e c q j n ts ≡ Some (s.no_arm, ts)
  arms_stop zero ts h = refl
  arms_stop (suc n) (t.Key k.When ∷ ts) h = absurd (cc)
  arms_stop (suc n) ts h = refl

  pub choices_stop : (n : ℕ) (ts : List Token) → starts_when ts ≡ false → more_choices e c q j n ts ≡ Some (s.no_choice, ts)
  choices_stop zero ts h = refl
  choices_stop (suc n) (t.Key k.When ∷ ts) h = absurd (cc)
  choices_stop (suc n) ts h = refl

  pub factors_stop : (n : ℕ) (left : s.Expr) (ts : List Token) → None ≡ multiplicative_at ts → more_factors e c q j n left ts ≡ Some (left, ts)
  factors_stop zero left ts h = refl
  factors_stop (suc n) left ts h = rw (← h, more_factors) refl

  pub factors_go : (n : ℕ) (left : s.Expr) (op : MultiplicativeOp) (ts us : List Token) → Some (op, us) ≡ multiplicative_at ts
      → more_factors e c q j (suc n) left ts ≡ (multiplied e c q j left op us >>= more_factors e c q j n)
  factors_go n left op ts us h = rw (← h, more_factors) (found_then (factor e c q j us) (s.multiply left op) (more_factors e c q j n))

  pub terms_stop : (n : ℕ) (left : s.Expr) (ts : List Token) → None ≡ additive_at ts → more_terms e c q j n left ts ≡ Some (left, ts)
  terms_stop zero left ts h = refl
  terms_stop (suc n) left ts h = rw (← h, more_terms) refl

  pub terms_go : (n : ℕ) (left : s.Expr) (op : AdditiveOp) (ts us : List Token) → Some (op, us) ≡ additive_at ts
      → more_terms e c q j (suc n) left ts ≡ (added e c q j left op us >>= more_terms e c q j n)
  terms_go n left op ts us h = rw (← h, more_terms) (found_then (term e c q j us) (s.add left op) (more_terms e c q j n))

  pub negs_stop : (n : ℕ) (left : s.Cond) (ts : List Token) → starts_and ts ≡ false → more_negs e c q j n left ts ≡ Some (left, ts)
  negs_stop zero left ts h = refl
  negs_stop (suc n) left (t.Key k.And ∷ ts) h = absurd (cc)
  negs_stop (suc n) left ts h = refl

  pub negs_go : (n : ℕ) (left : s.Cond) (ts us : List Token) → ts ≡ t.Key k.And ∷ us → more_negs e c q j (suc n) left ts ≡ (joined_and e c q j left us >>= more_negs e c q j n)
  negs_go n left ts us h = rw (h) (found_then (neg e c q j us) (s.both left) (more_negs e c q j n))

  pub conjs_stop : (n : ℕ) (left : s.Cond) (ts : List Token) → starts_or ts ≡ false → more_conjs e c q j n left ts ≡ Some (left, ts)
  conjs_stop zero left ts h = refl
  conjs_stop (suc n) left (t.Key k.Or ∷ ts) h = absurd (cc)
  conjs_stop (suc n) left ts h = refl

  pub conjs_go : (n : ℕ) (left : s.Cond) (ts us : List Token) → ts ≡ t.Key k.Or ∷ us → more_conjs e c q j (suc n) left ts ≡ (joined_or e c q j left us >>= more_conjs e c q j n)
  conjs_go n left ts us h = rw (h) (found_then (conj e c q j us) (s.either left) (more_conjs e c q j n))

  -- ---- where a loop begins

  pub factors_begin : (left : s.Expr) (ts us : List Token) → factor e c q j ts ≡ Some (left, us) → term e c q j ts ≡ more_factors e c q j (length ts) left us
  factors_begin left ts us h = ap (λ found. found >>= more_factors e c q j (length ts)) h

  pub terms_begin : (left : s.Expr) (ts us : List Token) → term e c q j ts ≡ Some (left, us) → sum e c q j ts ≡ more_terms e c q j (length ts) left us
  terms_begin left ts us h = ap (λ found. found >>= more_terms e c q j (length ts)) h

  pub negs_begin : (left : s.Cond) (ts us : List Token) → neg e c q j ts ≡ Some (left, us) → conj e c q j ts ≡ more_negs e c q j (length ts) left us
  negs_begin left ts us h = ap (λ found. found >>= more_negs e c q j (length ts)) h

  pub conjs_begin : (left : s.Cond) (ts us : List Token) → conj e c q j ts ≡ Some (left, us) → disj e c q j ts ≡ more_conjs e c q j (length ts) left us
  conjs_begin left ts us h = ap (λ found. found >>= more_conjs e c q j (length ts)) h

  -- ---- which rule a first token picks

  pub plain_pred : (ts : List Token) → starts_exists ts ≡ false → pred e c q j ts ≡ (sum e c q j ts >>= pred_after e c q j)
  plain_pred (t.Key k.Exists ∷ ts) h = absurd (cc)
  plain_pred ts h = refl

  pub plain_count : (ts : List Token) → starts_open_star ts ≡ false → count e c q j ts ≡ aggregate e c q j of.Count ts
  plain_count (t.LeftParen ∷ t.Star ∷ ts) h = absurd (cc)
  plain_count ts h = refl

  pub plain_neg : (ts : List Token) → starts_not ts ≡ false → neg e c q j ts ≡ test e c q j ts
  plain_neg (t.Key k.Not ∷ ts) h = absurd (cc)
  plain_neg ts h = refl

-- ---- a list that is read item by item

abbrev pub append_exprs : s.Exprs → s.Exprs → s.Exprs
append_exprs s.no_expr ys = ys
append_exprs (s.one_expr a xs) ys = s.one_expr a (append_exprs xs ys)

abbrev pub append_arms : s.Arms → s.Arms → s.Arms
append_arms s.no_arm ys = ys
append_arms (s.one_arm c r xs) ys = s.one_arm c r (append_arms xs ys)

abbrev pub append_choices : s.Choices → s.Choices → s.Choices
append_choices s.no_choice ys = ys
append_choices (s.one_choice a r xs) ys = s.one_choice a r (append_choices xs ys)

-- the items so far, before those that are read
abbrev pub exprs_then : List Expr → Parsed s.Exprs → Parsed s.Exprs
exprs_then out = mapped (append_exprs (shown.expr_list out))

abbrev pub arms_then : List Arm → Parsed s.Arms → Parsed s.Arms
arms_then out = mapped (append_arms (shown.arm_list out))

abbrev pub choices_then : List Choice → Parsed s.Choices → Parsed s.Choices
choices_then out = mapped (append_choices (shown.choice_list out))

append_no_expr : (xs : s.Exprs) → append_exprs xs s.no_expr ≡ xs
append_no_expr s.no_expr = refl
append_no_expr (s.one_expr a xs) = ap (s.one_expr a) (append_no_expr xs)

append_no_arm : (xs : s.Arms) → append_arms xs s.no_arm ≡ xs
append_no_arm s.no_arm = refl
append_no_arm (s.one_arm c r xs) = ap (s.one_arm c r) (append_no_arm xs)

append_no_choice : (xs : s.Choices) → append_choices xs s.no_choice ≡ xs
append_no_choice s.no_choice = refl
append_no_choice (s.one_choice a r xs) = ap (s.one_choice a r) (append_no_choice xs)

append_one_expr : (out : List Expr) (x : Expr) (ys : s.Exprs) → append_exprs (shown.expr_list out) (s.one_expr (shown.expr x) ys) ≡ append_exprs (shown.expr_list (out ++ x ∷ [])) ys
append_one_expr [] x ys = refl
append_one_expr (y ∷ out) x ys = ap (s.one_expr (shown.expr y)) (append_one_expr out x ys)

append_one_arm : (out : List Arm) (x : Arm) (ys : s.Arms) → append_arms (shown.arm_list out) (s.one_arm (shown.cond x.when) (shown.res x.then) ys) ≡ append_arms (shown.arm_list (out ++ x ∷ [])) ys
append_one_arm [] x ys = refl
append_one_arm (y ∷ out) x ys = ap (s.one_arm (shown.cond y.when) (shown.res y.then)) (append_one_arm out x ys)

append_one_choice : (out : List Choice) (x : Choice) (ys : s.Choices)
    → append_choices (shown.choice_list out) (s.one_choice (shown.expr x.when) (shown.res x.then) ys) ≡ append_choices (shown.choice_list (out ++ x ∷ [])) ys
append_one_choice [] x ys = refl
append_one_choice (y ∷ out) x ys = ap (s.one_choice (shown.expr y.when) (shown.res y.then)) (append_one_choice out x ys)

-- the list is whole
pub exprs_whole : (out : List Expr) (ts : List Token) → exprs_then out (Some (s.no_expr, ts)) ≡ Some (shown.expr_list out, ts)
exprs_whole out ts = ap (λ xs. Some (xs, ts)) (append_no_expr (shown.expr_list out))

pub arms_whole : (out : List Arm) (ts : List Token) → arms_then out (Some (s.no_arm, ts)) ≡ Some (shown.arm_list out, ts)
arms_whole out ts = ap (λ xs. Some (xs, ts)) (append_no_arm (shown.arm_list out))

pub choices_whole : (out : List Choice) (ts : List Token) → choices_then out (Some (s.no_choice, ts)) ≡ Some (shown.choice_list out, ts)
choices_whole out ts = ap (λ xs. Some (xs, ts)) (append_no_choice (shown.choice_list out))

-- one item more
pub exprs_more : (out : List Expr) (x : Expr) (m : Parsed s.Exprs) → exprs_then out (m >>= (λ xs. λ vs. Some (s.one_expr (shown.expr x) xs, vs))) ≡ exprs_then (out ++ x ∷ []) m
exprs_more out x None = refl
exprs_more out x (Some r) = ap (λ xs. Some (xs, r.1)) (append_one_expr out x r.0)

pub arms_more : (out : List Arm) (x : Arm) (m : Parsed s.Arms)
    → arms_then out (m >>= (λ xs. λ vs. Some (s.one_arm (shown.cond x.when) (shown.res x.then) xs, vs))) ≡ arms_then (out ++ x ∷ []) m
arms_more out x None = refl
arms_more out x (Some r) = ap (λ xs. Some (xs, r.1)) (append_one_arm out x r.0)

pub choices_more : (out : List Choice) (x : Choice) (m : Parsed s.Choices)
    → choices_then out (m >>= (λ xs. λ vs. Some (s.one_choice (shown.expr x.when) (shown.res x.then) xs, vs))) ≡ choices_then (out ++ x ∷ []) m
choices_more out x None = refl
choices_more out x (Some r) = ap (λ xs. Some (xs, r.1)) (append_one_choice out x r.0)

-- the first item
pub exprs_first : (x : Expr) (m : Parsed s.Exprs) → (m >>= (λ xs. λ vs. Some (s.one_expr (shown.expr x) xs, vs))) ≡ exprs_then (x ∷ []) m
exprs_first x None = refl
exprs_first x (Some r) = refl

pub arms_first : (x : Arm) (m : Parsed s.Arms) → (m >>= (λ xs. λ vs. Some (s.one_arm (shown.cond x.when) (shown.res x.then) xs, vs))) ≡ arms_then (x ∷ []) m
arms_first x None = refl
arms_first x (Some r) = refl

pub choices_first : (x : Choice) (m : Parsed s.Choices) → (m >>= (λ xs. λ vs. Some (s.one_choice (shown.expr x.when) (shown.res x.then) xs, vs))) ≡ choices_then (x ∷ []) m
choices_first x None = refl
choices_first x (Some r) = refl

-- ---- a step that fails

-- it ends the whole
pub fails : {X Y Z W : Type 0} (v : X → Y) (w : Z → W) (x : ParseRefusal) (m : Option Y) (n : Option W) → (m ≡ None → n ≡ None) → Gives v (Err x) m → Gives w (Err x) n
fails v w Syntax m n f h = f h
fails v w Memory m n f h = tt
fails v w OverLimit m n f h = h

-- how an answer is seen
abbrev pub expr_seen : Box Expr × Bor (List Spanned) → s.Expr × List Token
expr_seen x = (shown.expr x.0.value, token_list x.1.now)

abbrev pub cond_seen : Box Cond × Bor (List Spanned) → s.Cond × List Token
cond_seen x = (shown.cond x.0.value, token_list x.1.now)
