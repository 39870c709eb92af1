-- Every spelling is balanced: what looks past brackets looks past it, its brackets and CASEs nest as deep as the tree, and it takes no tokens away.
use Rattle.std.proofs.Common.{◌≡◌, ℕ, zero, suc, ◌≤◌, max, Bool, true, false, List, [], ◌∷◌, Option, Some, None, refl, sym, ◌∙◌, length, arith}
use Rattle.sql_text.specs.Depth.{shallow}
use Rattle.sql_text.specs.declared.key.Key.{Key}
use Rattle.sql_text.specs.declared.key.Key.TheVariants as k
use Rattle.sql_text.specs.declared.token.Token.{Token}
use Rattle.sql_text.specs.declared.token.Token.TheVariants as t
use Rattle.sql_ast.specs.declared.name.Alias.{Alias}
use Rattle.sql_ast.specs.declared.name.Column.{Column}
use Rattle.sql_ast.specs.declared.name.Correlation.{Correlation}
use Rattle.sql_ast.specs.declared.word.AdditiveOp.{AdditiveOp}
use Rattle.sql_ast.specs.declared.word.AdditiveOp.TheVariants as add
use Rattle.sql_ast.specs.declared.word.DataType.{DataType}
use Rattle.sql_ast.specs.declared.word.DataType.TheVariants as type
use Rattle.sql_ast.specs.declared.word.MultiplicativeOp.{MultiplicativeOp}
use Rattle.sql_ast.specs.declared.word.MultiplicativeOp.TheVariants as mul
use Rattle.sql_ast.specs.declared.word.Quantifier.{Quantifier}
use Rattle.sql_ast.specs.declared.word.Quantifier.TheVariants as some
use Rattle.sql_ast.specs.declared.word.SetFunction.{SetFunction}
use Rattle.sql_ast.specs.declared.word.SetFunction.TheVariants as of
use Rattle.sql_ast.specs.declared.word.SetOperator.{SetOperator}
use Rattle.sql_ast.specs.declared.word.SetOperator.TheVariants as set
use Rattle.sql_ast.specs.declared.word.SetQuantifier.{SetQuantifier}
use Rattle.sql_ast.specs.declared.word.SetQuantifier.TheVariants as each
use Rattle.sql_ast.specs.declared.word.Sign.{Sign}
use Rattle.sql_ast.specs.declared.word.Sign.TheVariants as sign
use Rattle.sql_ast.specs.Syntax as s
use Rattle.sql_ast.specs.Spelling as sp
use Rattle.sql_parser.specs.Ahead.{after}

-- ---- how deep brackets and CASEs nest, where what stands in them is read anew

abbrev mutual
  pub tall : s.Expr → ℕ
  tall (s.add a op b) = max (tall a) (tall b)
  tall (s.multiply a op b) = max (tall a) (tall b)
  tall (s.signed p a) = tall a
  tall (s.number n) = 0
  tall (s.string x) = 0
  tall (s.col c) = 0
  tall (s.paren a) = suc (tall a)
  tall (s.scalar q) = suc (tall_query q)
  tall s.count_all = 0
  tall (s.aggregate f each a) = suc (tall a)
  tall (s.searched xs o) = suc (max (tall_arms xs) (tall_otherwise o))
  tall (s.simple a xs o) = suc (max (tall a) (max (tall_choices xs) (tall_otherwise o)))
  tall (s.coalesce a xs) = suc (max (tall a) (tall_exprs xs))
  tall (s.null_if a b) = suc (max (tall a) (tall b))
  tall (s.cast_null d) = 0

  pub tall_exprs : s.Exprs → ℕ
  tall_exprs s.no_expr = 0
  tall_exprs (s.one_expr a xs) = max (tall a) (tall_exprs xs)

  pub tall_res : s.Res → ℕ
  tall_res (s.given a) = tall a
  tall_res s.null = 0

  pub tall_arms : s.Arms → ℕ
  tall_arms s.no_arm = 0
  tall_arms (s.one_arm c r xs) = max (tall_cond c) (max (tall_res r) (tall_arms xs))

  pub tall_choices : s.Choices → ℕ
  tall_choices s.no_choice = 0
  tall_choices (s.one_choice a r xs) = max (tall a) (max (tall_res r) (tall_choices xs))

  pub tall_otherwise : s.Otherwise → ℕ
  tall_otherwise s.no_else = 0
  tall_otherwise (s.or_else r) = tall_res r

  pub tall_cond : s.Cond → ℕ
  tall_cond (s.either a b) = max (tall_cond a) (tall_cond b)
  tall_cond (s.both a b) = max (tall_cond a) (tall_cond b)
  tall_cond (s.negated a) = tall_cond a
  tall_cond (s.bracket a) = suc (tall_cond a)
  tall_cond (s.compare a op b) = max (tall a) (tall b)
  tall_cond (s.quantified a op each q) = max (tall a) (suc (tall_query q))
  tall_cond (s.between a negative b c) = max (tall a) (max (tall b) (tall c))
  tall_cond (s.in_query a negative q) = max (tall a) (suc (tall_query q))
  tall_cond (s.in_list a negative xs) = max (tall a) (suc (tall_exprs xs))
  tall_cond (s.like a negative b) = max (tall a) (tall b)
  tall_cond (s.is_null a negative) = tall a
  tall_cond (s.exists q) = suc (tall_query q)

  pub tall_filter : s.Filter → ℕ
  tall_filter s.no_filter = 0
  tall_filter (s.only_where c) = tall_cond c

  pub tall_item : s.Item → ℕ
  tall_item (s.item a n) = tall a
  tall_item (s.all_of n) = 0

  pub tall_items : s.Items → ℕ
  tall_items s.no_item = 0
  tall_items (s.one_item x xs) = max (tall_item x) (tall_items xs)

  pub tall_list : s.SelectList → ℕ
  tall_list s.star = 0
  tall_list (s.items xs) = tall_items xs

  pub tall_table : s.TableRef → ℕ
  tall_table (s.join a inner b c) = max (tall_table a) (max (tall_table b) (tall_cond c))
  tall_table (s.left_join a outer b c) = max (tall_table a) (max (tall_table b) (tall_cond c))
  tall_table (s.cross_join a b) = max (tall_table a) (tall_table b)
  tall_table (s.named n c) = 0
  tall_table (s.derived q c) = suc (tall_query q)
  tall_table (s.joined a) = suc (tall_table a)

  pub tall_tables : s.TableRefs → ℕ
  tall_tables s.no_table = 0
  tall_tables (s.one_table x xs) = max (tall_table x) (tall_tables xs)

  pub tall_query : s.Query → ℕ
  tall_query (s.combine a op all b) = max (tall_query a) (tall_query b)
  tall_query (s.intersect a all b) = max (tall_query a) (tall_query b)
  tall_query (s.block each list from by group having) = max (tall_list list) (max (tall_tables from) (max (tall_filter by) (tall_filter having)))
  tall_query (s.enclosed q) = suc (tall_query q)

-- ---- spellings put together

pub record Balanced (f : List Token → List Token) (h : ℕ) : Type 0 where
  pub skips : (n : ℕ) (ts : List Token) → after n (f ts) ≡ after n ts
  pub fits : (n : ℕ) (ts : List Token) → shallow n (f ts) ≡ true → (h ≤ n) × (shallow n ts ≡ true)
  pub longer : (ts : List Token) → length ts ≤ length (f ts)

-- neither a bracket, nor CASE or END
abbrev pub is_plain : Token → Bool
is_plain t.LeftParen = false
is_plain t.RightParen = false
is_plain (t.Key k.Case) = false
is_plain (t.Key k.End) = false
is_plain _ = true

plain_after : (u : Token) (n : ℕ) (ts : List Token) → is_plain u ≡ true → after n (u ∷ ts) ≡ after n ts
plain_after t.LeftParen n ts h = absurd (cc)
plain_after t.RightParen n ts h = absurd (cc)
plain_after _ n ts h = refl

plain_shallow : (u : Token) (n : ℕ) (ts : List Token) → is_plain u ≡ true → shallow n (u ∷ ts) ≡ shallow n ts
plain_shallow t.LeftParen n ts h = absurd (cc)
plain_shallow t.RightParen n ts h = absurd (cc)
plain_shallow (t.Key k.Case) n ts h = absurd (cc)
plain_shallow (t.Key k.End) n ts h = absurd (cc)
plain_shallow _ n ts h = refl

pub nothing : Balanced (λ ts. ts) 0
nothing = record { skips = λ n ts. refl; fits = λ n ts h. (omega arith, h); longer = λ ts. omega arith }

pub token : (u : Token) (g : List Token → List Token) (h : ℕ) → is_plain u ≡ true → Balanced g h → Balanced (λ ts. u ∷ g ts) h
token u g h p b = record {
  skips = λ n ts. plain_after u n (g ts) p ∙ b.skips n ts;
  fits = λ n ts e. b.fits n ts (sym (plain_shallow u n (g ts) p) ∙ e);
  longer = λ ts. let e = b.longer ts in omega (arith, e);
}

pub joined : (f g : List Token → List Token) (h i : ℕ) → Balanced f h → Balanced g i → Balanced (λ ts. f (g ts)) (max h i)
joined f g h i b c = record {
  skips = λ n ts. b.skips n (g ts) ∙ c.skips n ts;
  fits = λ n ts e. let x = b.fits n (g ts) e in let y = c.fits n ts x.1 in (omega (arith, x.0, y.0), y.1);
  longer = λ ts. let x = b.longer (g ts) in let y = c.longer ts in omega (arith, x, y);
}

bracket_fits : (f : List Token → List Token) (h : ℕ) → Balanced f h → (n : ℕ) (ts : List Token) → shallow n (t.LeftParen ∷ f (t.RightParen ∷ ts)) ≡ true
    → (suc h ≤ n) × (shallow n ts ≡ true)
bracket_fits f h b zero ts e = absurd (cc)
bracket_fits f h b (suc n) ts e = let x = b.fits n (t.RightParen ∷ ts) e in (omega (arith, x.0), x.1)

pub brackets : (f : List Token → List Token) (h : ℕ) → Balanced f h → Balanced (λ ts. t.LeftParen ∷ f (t.RightParen ∷ ts)) (suc h)
brackets f h b = record {
  skips = λ n ts. b.skips (suc n) (t.RightParen ∷ ts);
  fits = bracket_fits f h b;
  longer = λ ts. let x = b.longer (t.RightParen ∷ ts) in omega (arith, x);
}

case_fits : (f : List Token → List Token) (h : ℕ) → Balanced f h → (n : ℕ) (ts : List Token) → shallow n (t.Key k.Case ∷ f (t.Key k.End ∷ ts)) ≡ true
    → (suc h ≤ n) × (shallow n ts ≡ true)
case_fits f h b zero ts e = absurd (cc)
case_fits f h b (suc n) ts e = let x = b.fits n (t.Key k.End ∷ ts) e in (omega (arith, x.0), x.1)

pub cased : (f : List Token → List Token) (h : ℕ) → Balanced f h → Balanced (λ ts. t.Key k.Case ∷ f (t.Key k.End ∷ ts)) (suc h)
cased f h b = record {
  skips = λ n ts. b.skips n (t.Key k.End ∷ ts);
  fits = case_fits f h b;
  longer = λ ts. let x = b.longer (t.Key k.End ∷ ts) in omega (arith, x);
}

pub weaker : (f : List Token → List Token) (h i : ℕ) → h ≤ i → Balanced f i → Balanced f h
weaker f h i le b = record { skips = b.skips; fits = λ n ts e. let x = b.fits n ts e in (omega (arith, le, x.0), x.1); longer = b.longer }

-- ---- words, names and columns

pub optional : (word : Key) (g : List Token → List Token) (h : ℕ) → is_plain (t.Key word) ≡ true → (b : Bool) → Balanced g h → Balanced (λ ts. sp.optional word b (g ts)) h
optional word g h p true b = token (t.Key word) g h p b
optional word g h p false b = b

pub more_names : (ns : List (List ℕ)) → Balanced (sp.more_names ns) 0
more_names [] = nothing
more_names (n ∷ ns) = token t.Comma _ 0 refl (token (t.Name n) _ 0 refl (more_names ns))

pub names : (ns : List (List ℕ)) → Balanced (sp.names ns) 0
names [] = nothing
names (n ∷ ns) = token (t.Name n) _ 0 refl (more_names ns)

pub column_list : (ns : List (List ℕ)) → Balanced (sp.column_list ns) 0
column_list [] = nothing
column_list (n ∷ ns) = weaker _ 0 1 (omega arith) (brackets _ 0 (token (t.Name n) _ 0 refl (more_names ns)))

column_at : (range : Option (List ℕ)) (name : List ℕ) → Balanced (sp.column (record { range = range; name = name })) 0
column_at (Some r) name = token (t.Name r) _ 0 refl (token t.Dot _ 0 refl (token (t.Name name) _ 0 refl nothing))
column_at None name = token (t.Name name) _ 0 refl nothing

pub column : (c : Column) → Balanced (sp.column c) 0
column c = column_at c.range c.name

pub more_columns : (cs : List Column) → Balanced (sp.more_columns cs) 0
more_columns [] = nothing
more_columns (c ∷ cs) = token t.Comma _ 0 refl (joined _ _ 0 0 (column c) (more_columns cs))

pub group_by : (cs : List Column) → Balanced (sp.group_by cs) 0
group_by [] = nothing
group_by (c ∷ cs) = token (t.Key k.Group) _ 0 refl (token (t.Key k.By) _ 0 refl (joined _ _ 0 0 (column c) (more_columns cs)))

pub alias : (a : Option Alias) → Balanced (sp.alias a) 0
alias None = nothing
alias (Some a) = optional k.As _ 0 refl a.noise (token (t.Name a.name) _ 0 refl nothing)

pub correlation : (c : Correlation) → Balanced (sp.correlation c) 0
correlation c = optional k.As _ 0 refl c.noise (token (t.Name c.name) _ 0 refl (column_list c.columns))

pub optional_correlation : (c : Option Correlation) → Balanced (sp.optional_correlation c) 0
optional_correlation None = nothing
optional_correlation (Some c) = correlation c

-- ---- signs and words that stand for one of several

pub additive_plain : (op : AdditiveOp) → is_plain (sp.additive op) ≡ true
additive_plain add.Plus = refl
additive_plain add.Minus = refl
additive_plain add.Concat = refl

pub multiplicative_plain : (op : MultiplicativeOp) → is_plain (sp.multiplicative op) ≡ true
multiplicative_plain mul.Times = refl
multiplicative_plain mul.Divide = refl

pub sign_plain : (p : Sign) → is_plain (sp.sign_of p) ≡ true
sign_plain sign.Plus = refl
sign_plain sign.Minus = refl

pub set_function_plain : (f : SetFunction) → is_plain (sp.set_function f) ≡ true
set_function_plain of.Count = refl
set_function_plain of.Sum = refl
set_function_plain of.Avg = refl
set_function_plain of.Min = refl
set_function_plain of.Max = refl

pub quantifier_plain : (q : Quantifier) → is_plain (sp.quantifier q) ≡ true
quantifier_plain some.Any = refl
quantifier_plain some.Some = refl
quantifier_plain some.All = refl

pub set_operator_plain : (op : SetOperator) → is_plain (sp.set_operator op) ≡ true
set_operator_plain set.Union = refl
set_operator_plain set.Except = refl

pub set_quantifier : (g : List Token → List Token) (h : ℕ) (each : Option SetQuantifier) → Balanced g h → Balanced (λ ts. sp.set_quantifier each (g ts)) h
set_quantifier g h None b = b
set_quantifier g h (Some each.All) b = token (t.Key k.All) g h refl b
set_quantifier g h (Some each.Distinct) b = token (t.Key k.Distinct) g h refl b

pub data_type : (d : DataType) → Balanced (sp.data_type d) 0
data_type type.Integer = token (t.Key k.Integer) _ 0 refl nothing
data_type type.Int = token (t.Key k.Int) _ 0 refl nothing
data_type (type.Varchar n) = token (t.Key k.Varchar) _ 0 refl (weaker _ 0 1 (omega arith) (brackets _ 0 (token (t.Number n) _ 0 refl nothing)))

-- ---- trees

mutual
  pub expr : (x : s.Expr) → Balanced (sp.expr x) (tall x)
  expr (s.add a op b) = joined _ _ _ _ (expr a) (token (sp.additive op) _ _ (additive_plain op) (expr b))
  expr (s.multiply a op b) = joined _ _ _ _ (expr a) (token (sp.multiplicative op) _ _ (multiplicative_plain op) (expr b))
  expr (s.signed p a) = token (sp.sign_of p) _ _ (sign_plain p) (expr a)
  expr (s.number n) = token (t.Number n) _ 0 refl nothing
  expr (s.string x) = token (t.Str x) _ 0 refl nothing
  expr (s.col c) = column c
  expr (s.paren a) = brackets _ _ (expr a)
  expr (s.scalar q) = brackets _ _ (query q)
  expr s.count_all = token (t.Key k.Count) _ 0 refl (weaker _ 0 1 (omega arith) (brackets _ 0 (token t.Star _ 0 refl nothing)))
  expr (s.aggregate f each a) = token (sp.set_function f) _ _ (set_function_plain f) (brackets _ _ (set_quantifier _ _ each (expr a)))
  expr (s.searched xs o) = cased _ _ (joined _ _ _ _ (arms xs) (otherwise o))
  expr (s.simple a xs o) = cased _ _ (joined _ _ _ _ (expr a) (joined _ _ _ _ (choices xs) (otherwise o)))
  expr (s.coalesce a xs) = token (t.Key k.Coalesce) _ _ refl (brackets _ _ (joined _ _ _ _ (expr a) (more_exprs xs)))
  expr (s.null_if a b) = token (t.Key k.NullIf) _ _ refl (brackets _ _ (joined _ _ _ _ (expr a) (token t.Comma _ _ refl (expr b))))
  expr (s.cast_null d) = token (t.Key k.Cast) _ 0 refl (weaker _ 0 1 (omega arith) (brackets _ 0 (token (t.Key k.Null) _ 0 refl (token (t.Key k.As) _ 0 refl (data_type d)))))

  pub more_exprs : (xs : s.Exprs) → Balanced (sp.more_exprs xs) (tall_exprs xs)
  more_exprs s.no_expr = nothing
  more_exprs (s.one_expr a xs) = token t.Comma _ _ refl (joined _ _ _ _ (expr a) (more_exprs xs))

  pub exprs : (xs : s.Exprs) → Balanced (sp.exprs xs) (tall_exprs xs)
  exprs s.no_expr = nothing
  exprs (s.one_expr a xs) = joined _ _ _ _ (expr a) (more_exprs xs)

  pub res : (r : s.Res) → Balanced (sp.res r) (tall_res r)
  res (s.given a) = expr a
  res s.null = token (t.Key k.Null) _ 0 refl nothing

  pub arms : (xs : s.Arms) → Balanced (sp.arms xs) (tall_arms xs)
  arms s.no_arm = nothing
  arms (s.one_arm c r xs) = token (t.Key k.When) _ _ refl (joined _ _ _ _ (cond c) (token (t.Key k.Then) _ _ refl (joined _ _ _ _ (res r) (arms xs))))

  pub choices : (xs : s.Choices) → Balanced (sp.choices xs) (tall_choices xs)
  choices s.no_choice = nothing
  choices (s.one_choice a r xs) = token (t.Key k.When) _ _ refl (joined _ _ _ _ (expr a) (token (t.Key k.Then) _ _ refl (joined _ _ _ _ (res r) (choices xs))))

  pub otherwise : (o : s.Otherwise) → Balanced (sp.otherwise o) (tall_otherwise o)
  otherwise s.no_else = nothing
  otherwise (s.or_else r) = token (t.Key k.Else) _ _ refl (res r)

  pub cond : (x : s.Cond) → Balanced (sp.cond x) (tall_cond x)
  cond (s.either a b) = joined _ _ _ _ (cond a) (token (t.Key k.Or) _ _ refl (cond b))
  cond (s.both a b) = joined _ _ _ _ (cond a) (token (t.Key k.And) _ _ refl (cond b))
  cond (s.negated a) = token (t.Key k.Not) _ _ refl (cond a)
  cond (s.bracket a) = brackets _ _ (cond a)
  cond (s.compare a op b) = joined _ _ _ _ (expr a) (token (t.Compare op) _ _ refl (expr b))
  cond (s.quantified a op each q) = joined _ _ _ _ (expr a) (token (t.Compare op) _ _ refl (token (sp.quantifier each) _ _ (quantifier_plain each) (brackets _ _ (query q))))
  cond (s.between a negative b c) = joined _ _ _ _ (expr a) (optional k.Not _ _ refl negative
      (token (t.Key k.Between) _ _ refl (joined _ _ _ _ (expr b) (token (t.Key k.And) _ _ refl (expr c)))))
  cond (s.in_query a negative q) = joined _ _ _ _ (expr a) (optional k.Not _ _ refl negative (token (t.Key k.In) _ _ refl (brackets _ _ (query q))))
  cond (s.in_list a negative xs) = joined _ _ _ _ (expr a) (optional k.Not _ _ refl negative (token (t.Key k.In) _ _ refl (brackets _ _ (exprs xs))))
  cond (s.like a negative b) = joined _ _ _ _ (expr a) (optional k.Not _ _ refl negative (token (t.Key k.Like) _ _ refl (expr b)))
  cond (s.is_null a negative) = weaker _ _ _ (omega arith) (joined _ _ _ 0 (expr a)
      (token (t.Key k.Is) _ 0 refl (optional k.Not _ 0 refl negative (token (t.Key k.Null) _ 0 refl nothing))))
  cond (s.exists q) = token (t.Key k.Exists) _ _ refl (brackets _ _ (query q))

  pub filter : (word : Key) → is_plain (t.Key word) ≡ true → (f : s.Filter) → Balanced (sp.filter word f) (tall_filter f)
  filter word p s.no_filter = nothing
  filter word p (s.only_where c) = token (t.Key word) _ _ p (cond c)

  pub item : (x : s.Item) → Balanced (sp.item x) (tall_item x)
  item (s.item a n) = weaker _ _ _ (omega arith) (joined _ _ _ 0 (expr a) (alias n))
  item (s.all_of n) = token (t.Name n) _ 0 refl (token t.Dot _ 0 refl (token t.Star _ 0 refl nothing))

  pub more_items : (xs : s.Items) → Balanced (sp.more_items xs) (tall_items xs)
  more_items s.no_item = nothing
  more_items (s.one_item x xs) = token t.Comma _ _ refl (joined _ _ _ _ (item x) (more_items xs))

  pub items : (xs : s.Items) → Balanced (sp.items xs) (tall_items xs)
  items s.no_item = nothing
  items (s.one_item x xs) = joined _ _ _ _ (item x) (more_items xs)

  pub select_list : (x : s.SelectList) → Balanced (sp.select_list x) (tall_list x)
  select_list s.star = token t.Star _ 0 refl nothing
  select_list (s.items xs) = items xs

  pub table : (x : s.TableRef) → Balanced (sp.table x) (tall_table x)
  table (s.join a inner b c) = joined _ _ _ _ (table a) (optional k.Inner _ _ refl inner (token (t.Key k.Join) _ _ refl
      (joined _ _ _ _ (table b) (token (t.Key k.On) _ _ refl (cond c)))))
  table (s.left_join a outer b c) = joined _ _ _ _ (table a) (token (t.Key k.Left) _ _ refl (optional k.Outer _ _ refl outer (token (t.Key k.Join) _ _ refl
      (joined _ _ _ _ (table b) (token (t.Key k.On) _ _ refl (cond c))))))
  table (s.cross_join a b) = joined _ _ _ _ (table a) (token (t.Key k.Cross) _ _ refl (token (t.Key k.Join) _ _ refl (table b)))
  table (s.named n c) = token (t.Name n) _ 0 refl (optional_correlation c)
  table (s.derived q c) = weaker _ _ _ (omega arith) (joined _ _ _ 0 (brackets _ _ (query q)) (correlation c))
  table (s.joined a) = brackets _ _ (table a)

  pub more_tables : (xs : s.TableRefs) → Balanced (sp.more_tables xs) (tall_tables xs)
  more_tables s.no_table = nothing
  more_tables (s.one_table x xs) = token t.Comma _ _ refl (joined _ _ _ _ (table x) (more_tables xs))

  pub tables : (xs : s.TableRefs) → Balanced (sp.tables xs) (tall_tables xs)
  tables s.no_table = nothing
  tables (s.one_table x xs) = joined _ _ _ _ (table x) (more_tables xs)

  pub query : (q : s.Query) → Balanced (sp.query q) (tall_query q)
  query (s.combine a op all b) = joined _ _ _ _ (query a) (token (sp.set_operator op) _ _ (set_operator_plain op) (optional k.All _ _ refl all (query b)))
  query (s.intersect a all b) = joined _ _ _ _ (query a) (token (t.Key k.Intersect) _ _ refl (optional k.All _ _ refl all (query b)))
  query (s.block each list from by group having) = token (t.Key k.Select) _ _ refl (set_quantifier _ _ each (weaker _ _ _ (omega arith)
      (joined _ _ _ _ (select_list list) (token (t.Key k.From) _ _ refl
      (joined _ _ _ _ (tables from) (joined _ _ _ _ (filter k.Where refl by) (joined _ _ 0 _ (group_by group) (filter k.Having refl having))))))))
  query (s.enclosed q) = brackets _ _ (query q)
