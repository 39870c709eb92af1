-- Postfix notation read back: no two expressions and no two conditions have the same tokens.
use Rattle.std.proofs.Common.{◌≡◌, refl, sym, ◌∙◌, ap, ℕ, map, List, [], ◌∷◌, ◌++◌}
use Rattle.std.proofs.lemmas.List.{append_assoc, append-nil}
use Rattle.qgm_term_search.specs.Postfix.{aggregate_of, form, sign_of, taken_of, tokens, tokens_arms, tokens_cond}
use Rattle.qgm_terms.specs.Shown.{aggregate, sign, taken}
use Rattle.qgm_terms.specs.Terms.{Term, int, text, null_int, null_text, col, scalar, both, minus_of, choose, count_all, fold}
use Rattle.qgm_terms.specs.Terms.{Arms, no_arm, arm, Cond, always, compare, is_null, and, or, not, some, every}
use Rattle.qgm_terms.specs.Terms.{Aggregate, single, count, sum, avg, least, greatest, Taken, all_of, each_once}
use Rattle.qgm_terms.specs.Terms.{Sign, equal, unequal, below, at_most, above, at_least, same, like}
use Rattle.qgm_term_search.specs.declared.tokens.Form.{Form}
use Rattle.qgm_term_search.specs.declared.tokens.Form.TheVariants as f
use Rattle.qgm_term_search.specs.declared.tokens.Token.{Token}
use Rattle.qgm_term_search.specs.declared.tokens.Token.TheVariants as k

-- what is read so far and not yet taken, the last first
data Piece : Type 0 where
  cell : Term → Piece
  test : Cond → Piece
  arms : Arms → Piece

abbrev joined : Arms → Arms → Arms
joined no_arm t = t
joined (arm c x s) t = arm c x (joined s t)

joined-assoc : (a b c : Arms) → joined (joined a b) c ≡ joined a (joined b c)
joined-assoc no_arm b c = refl
joined-assoc (arm p x s) b c = ap (arm p x) (joined-assoc s b c)

joined-none : (a : Arms) → joined a no_arm ≡ a
joined-none no_arm = refl
joined-none (arm p x s) = ap (arm p x) (joined-none s)

abbrev by_form : Form → List Piece → List Piece
by_form f.Text st = cell (text []) ∷ st
by_form f.NullInt st = cell null_int ∷ st
by_form f.NullText st = cell null_text ∷ st
by_form f.Neg (cell x ∷ st) = cell (minus_of x) ∷ st
by_form f.Case st = arms no_arm ∷ st
by_form f.When (cell x ∷ (test c ∷ (arms s ∷ st))) = arms (joined s (arm c x no_arm)) ∷ st
by_form f.Else (cell x ∷ (arms s ∷ st)) = cell (choose s x) ∷ st
by_form f.CountAll st = cell count_all ∷ st
by_form f.True st = test always ∷ st
by_form f.IsNull (cell x ∷ st) = test (is_null x) ∷ st
by_form f.And (test d ∷ (test c ∷ st)) = test (and c d) ∷ st
by_form f.Or (test d ∷ (test c ∷ st)) = test (or c d) ∷ st
by_form f.Not (test c ∷ st) = test (not c) ∷ st
by_form _ st = st

abbrev step : Token → List Piece → List Piece
step (k.Int n) st = cell (int n) ∷ st
step (k.Char c) (cell (text s) ∷ st) = cell (text (s ++ c ∷ [])) ∷ st
step (k.Col q j) st = cell (col q j) ∷ st
step (k.Scalar q) st = cell (scalar q) ∷ st
step (k.Op op) (cell y ∷ (cell x ∷ st)) = cell (both op x y) ∷ st
step (k.Fold g e) (cell x ∷ st) = cell (fold (aggregate g) (taken e) x) ∷ st
step (k.Compare s) (cell y ∷ (cell x ∷ st)) = test (compare (sign s) x y) ∷ st
step (k.Form j) st = by_form j st
step (k.Some q) (test c ∷ st) = test (some q c) ∷ st
step (k.Every q) (test c ∷ st) = test (every q c) ∷ st
step _ st = st

abbrev read : List Token → List Piece → List Piece
read [] st = st
read (j ∷ ks) st = read ks (step j st)

read-append : (xs ys : List Token) (st : List Piece) → read (xs ++ ys) st ≡ read ys (read xs st)
read-append [] ys st = refl
read-append (x ∷ xs) ys st = read-append xs ys (step x st)

after : (xs ys : List Token) (a b c : List Piece) → read xs a ≡ b → read ys b ≡ c → read (xs ++ ys) a ≡ c
after xs ys a b c h t = read-append xs ys a ∙ ap (read ys) h ∙ t

read-chars : (s cs : List ℕ) (st : List Piece) → read (map k.Char cs) (cell (text s) ∷ st) ≡ cell (text (s ++ cs)) ∷ st
read-chars s [] st = ap (λ (t : List ℕ). cell (text t) ∷ st) (sym (append-nil s))
read-chars s (c ∷ cs) st = read-chars (s ++ c ∷ []) cs st ∙ ap (λ (t : List ℕ). cell (text t) ∷ st) (append_assoc s (c ∷ []) cs)

aggregate-back : (g : Aggregate) → aggregate (aggregate_of g) ≡ g
aggregate-back single = refl
aggregate-back count = refl
aggregate-back sum = refl
aggregate-back avg = refl
aggregate-back least = refl
aggregate-back greatest = refl

taken-back : (e : Taken) → taken (taken_of e) ≡ e
taken-back all_of = refl
taken-back each_once = refl

sign-back : (s : Sign) → sign (sign_of s) ≡ s
sign-back equal = refl
sign-back unequal = refl
sign-back below = refl
sign-back at_most = refl
sign-back above = refl
sign-back at_least = refl
sign-back same = refl
sign-back like = refl

mutual
  read-term : (x : Term) (st : List Piece) → read (tokens x) st ≡ cell x ∷ st
  read-term (int n) st = refl
  read-term (text s) st = read-chars [] s st
  read-term null_int st = refl
  read-term null_text st = refl
  read-term (col q j) st = refl
  read-term (scalar q) st = refl
  read-term (both op x y) st =
      after (tokens x ++ tokens y) (k.Op op ∷ []) st (cell y ∷ (cell x ∷ st)) (cell (both op x y) ∷ st)
      (after (tokens x) (tokens y) st (cell x ∷ st) (cell y ∷ (cell x ∷ st)) (read-term x st) (read-term y (cell x ∷ st))) refl
  read-term (minus_of x) st = after (tokens x) (form f.Neg) st (cell x ∷ st) (cell (minus_of x) ∷ st) (read-term x st) refl
  read-term (choose s x) st =
      after (form f.Case ++ tokens_arms s ++ tokens x) (form f.Else) st (cell x ∷ (arms s ∷ st)) (cell (choose s x) ∷ st)
      (after (form f.Case ++ tokens_arms s) (tokens x) st (arms s ∷ st) (cell x ∷ (arms s ∷ st)) (read-arms s no_arm st) (read-term x (arms s ∷ st))) refl
  read-term count_all st = refl
  read-term (fold g e x) st =
      after (tokens x) (k.Fold (aggregate_of g) (taken_of e) ∷ []) st (cell x ∷ st) (cell (fold g e x) ∷ st) (read-term x st)
      (ap (λ (h : Aggregate). cell (fold h (taken (taken_of e)) x) ∷ st) (aggregate-back g) ∙ ap (λ (d : Taken). cell (fold g d x) ∷ st) (taken-back e))

  read-arms : (s a : Arms) (st : List Piece) → read (tokens_arms s) (arms a ∷ st) ≡ arms (joined a s) ∷ st
  read-arms no_arm a st = ap (λ (b : Arms). arms b ∷ st) (sym (joined-none a))
  read-arms (arm c x s) a st =
      let b = joined a (arm c x no_arm) in
      after (tokens_cond c ++ tokens x ++ form f.When) (tokens_arms s) (arms a ∷ st) (arms b ∷ st) (arms (joined a (arm c x s)) ∷ st)
      (after (tokens_cond c ++ tokens x) (form f.When) (arms a ∷ st) (cell x ∷ (test c ∷ (arms a ∷ st))) (arms b ∷ st)
      (after (tokens_cond c) (tokens x) (arms a ∷ st) (test c ∷ (arms a ∷ st)) (cell x ∷ (test c ∷ (arms a ∷ st))) (read-cond c (arms a ∷ st)) (read-term x (test c ∷ (arms a ∷ st)))) refl)
      (read-arms s b st ∙ ap (λ (d : Arms). arms d ∷ st) (joined-assoc a (arm c x no_arm) s))

  read-cond : (c : Cond) (st : List Piece) → read (tokens_cond c) st ≡ test c ∷ st
  read-cond always st = refl
  read-cond (compare s x y) st =
      after (tokens x ++ tokens y) (k.Compare (sign_of s) ∷ []) st (cell y ∷ (cell x ∷ st)) (test (compare s x y) ∷ st)
      (after (tokens x) (tokens y) st (cell x ∷ st) (cell y ∷ (cell x ∷ st)) (read-term x st) (read-term y (cell x ∷ st))) (ap (λ (r : Sign). test (compare r x y) ∷ st) (sign-back s))
  read-cond (is_null x) st = after (tokens x) (form f.IsNull) st (cell x ∷ st) (test (is_null x) ∷ st) (read-term x st) refl
  read-cond (and c d) st =
      after (tokens_cond c ++ tokens_cond d) (form f.And) st (test d ∷ (test c ∷ st)) (test (and c d) ∷ st)
      (after (tokens_cond c) (tokens_cond d) st (test c ∷ st) (test d ∷ (test c ∷ st)) (read-cond c st) (read-cond d (test c ∷ st))) refl
  read-cond (or c d) st =
      after (tokens_cond c ++ tokens_cond d) (form f.Or) st (test d ∷ (test c ∷ st)) (test (or c d) ∷ st)
      (after (tokens_cond c) (tokens_cond d) st (test c ∷ st) (test d ∷ (test c ∷ st)) (read-cond c st) (read-cond d (test c ∷ st))) refl
  read-cond (not c) st = after (tokens_cond c) (form f.Not) st (test c ∷ st) (test (not c) ∷ st) (read-cond c st) refl
  read-cond (some q c) st = after (tokens_cond c) (k.Some q ∷ []) st (test c ∷ st) (test (some q c) ∷ st) (read-cond c st) refl
  read-cond (every q c) st = after (tokens_cond c) (k.Every q ∷ []) st (test c ∷ st) (test (every q c) ∷ st) (read-cond c st) refl

abbrev top_cell : List Piece → Term
top_cell (cell x ∷ _) = x
top_cell _ = null_int

abbrev top_test : List Piece → Cond
top_test (test c ∷ _) = c
top_test _ = always

pub term_once : (x y : Term) → tokens x ≡ tokens y → x ≡ y
term_once x y e = sym (ap top_cell (read-term x [])) ∙ ap (λ (ks : List Token). top_cell (read ks [])) e ∙ ap top_cell (read-term y [])

pub cond_once : (c d : Cond) → tokens_cond c ≡ tokens_cond d → c ≡ d
cond_once c d e = sym (ap top_test (read-cond c [])) ∙ ap (λ (ks : List Token). top_test (read ks [])) e ∙ ap top_test (read-cond d [])
