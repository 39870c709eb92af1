-- Expressions and conditions in postfix notation: operands, and then what takes them.
use Rattle.std.specs.Prelude.{ℕ, List, [], ◌∷◌, ◌++◌, map}
use Rattle.qgm_terms.specs.Terms.{Term, int, text, null_int, null_text, col, scalar, both, minus_of, choose, count_all, fold, Link, Choice}
use Rattle.qgm_terms.specs.Terms.{Arms, no_arm, arm, Cond, always, compare, is_null, and, or, not, some, every}
use Rattle.qgm_term_search.specs.declared.tokens.Form.{Form}
use Rattle.qgm_term_search.specs.declared.tokens.Form.TheVariants as f
use Rattle.qgm_term_search.specs.declared.tokens.Token.{Token}
use Rattle.qgm_term_search.specs.declared.tokens.Token.TheVariants as k
use Rattle.qgm_terms.specs.declared.tree.Aggregate.{Aggregate}
use Rattle.qgm_terms.specs.declared.tree.Aggregate.TheVariants as g
use Rattle.qgm_terms.specs.declared.tree.Sign.{Sign}
use Rattle.qgm_terms.specs.declared.tree.Sign.TheVariants as s
use Rattle.qgm_terms.specs.declared.tree.Taken.{Taken}
use Rattle.qgm_terms.specs.declared.tree.Taken.TheVariants as e
use Rattle.qgm_terms.specs.Terms as t

abbrev pub form : Form → List Token
form j = k.Form j ∷ []

abbrev pub text_tokens : List ℕ → List Token
text_tokens s = k.Form f.Text ∷ map k.Char s

-- the operators of the program
abbrev pub aggregate_of : t.Aggregate → Aggregate
aggregate_of t.single = g.Single
aggregate_of t.count = g.Count
aggregate_of t.sum = g.Sum
aggregate_of t.avg = g.Avg
aggregate_of t.least = g.Min
aggregate_of t.greatest = g.Max

abbrev pub taken_of : t.Taken → Taken
taken_of t.all_of = e.All
taken_of t.each_once = e.Once

abbrev pub sign_of : t.Sign → Sign
sign_of t.equal = s.Eq
sign_of t.unequal = s.Ne
sign_of t.below = s.Lt
sign_of t.at_most = s.Le
sign_of t.above = s.Gt
sign_of t.at_least = s.Ge
sign_of t.same = s.Same
sign_of t.like = s.Like

abbrev mutual
  pub tokens : Term → List Token
  tokens (int n) = k.Int n ∷ []
  tokens (text s) = text_tokens s
  tokens null_int = form f.NullInt
  tokens null_text = form f.NullText
  tokens (col q j) = k.Col q j ∷ []
  tokens (scalar q) = k.Scalar q ∷ []
  tokens (both op x y) = tokens x ++ tokens y ++ k.Op op ∷ []
  tokens (minus_of x) = tokens x ++ form f.Neg
  tokens (choose s x) = form f.Case ++ tokens_arms s ++ tokens x ++ form f.Else
  tokens count_all = form f.CountAll
  tokens (fold h each x) = tokens x ++ k.Fold (aggregate_of h) (taken_of each) ∷ []

  pub tokens_arms : Arms → List Token
  tokens_arms no_arm = []
  tokens_arms (arm c x s) = tokens_cond c ++ tokens x ++ form f.When ++ tokens_arms s

  pub tokens_cond : Cond → List Token
  tokens_cond always = form f.True
  tokens_cond (compare sign x y) = tokens x ++ tokens y ++ k.Compare (sign_of sign) ∷ []
  tokens_cond (is_null x) = tokens x ++ form f.IsNull
  tokens_cond (and c d) = tokens_cond c ++ tokens_cond d ++ form f.And
  tokens_cond (or c d) = tokens_cond c ++ tokens_cond d ++ form f.Or
  tokens_cond (not c) = tokens_cond c ++ form f.Not
  tokens_cond (some q c) = tokens_cond c ++ k.Some q ∷ []
  tokens_cond (every q c) = tokens_cond c ++ k.Every q ∷ []

-- ---- those behind a first operand, and of the arms of a CASE

abbrev pub tokens_links : List Link → List Token
tokens_links [] = []
tokens_links (l ∷ ls) = tokens l.right ++ k.Op l.op ∷ tokens_links ls

abbrev pub tokens_choices : List Choice → List Token
tokens_choices [] = []
tokens_choices (c ∷ cs) = tokens_cond c.when ++ tokens c.then ++ form f.When ++ tokens_choices cs

abbrev pub tokens_conds : Form → List Cond → List Token
tokens_conds j [] = []
tokens_conds j (c ∷ cs) = tokens_cond c ++ k.Form j ∷ tokens_conds j cs
