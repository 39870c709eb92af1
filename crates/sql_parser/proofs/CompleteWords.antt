-- Words, names, columns and types that are spelled so are read.
use Rattle.std.proofs.Common.{◌≡◌, ℕ, zero, suc, ◌<◌, ◌≤◌, Bool, true, false, List, [], ◌∷◌, Option, Some, None, refl, ◌∙◌, ap, length, arith}
use Rattle.std.specs.Prelude.{if◌then◌else◌}
use Rattle.sql_text.specs.declared.key.Key.TheVariants as k
use Rattle.sql_text.specs.declared.token.Token.{Token}
use Rattle.sql_text.specs.declared.token.Token.TheVariants as t
use Rattle.sql_ast.specs.declared.name.Alias.{Alias}
use Rattle.sql_ast.specs.declared.name.Column.{Column}
use Rattle.sql_ast.specs.declared.name.Correlation.{Correlation}
use Rattle.sql_ast.specs.declared.text.Sort.{Sort}
use Rattle.sql_ast.specs.declared.text.SortKey.{SortKey}
use Rattle.sql_ast.specs.declared.text.SortKey.TheVariants as sort_key
use Rattle.sql_ast.specs.declared.word.AdditiveOp.{AdditiveOp}
use Rattle.sql_ast.specs.declared.word.AdditiveOp.TheVariants as add
use Rattle.sql_ast.specs.declared.word.DataType.{DataType}
use Rattle.sql_ast.specs.declared.word.DataType.TheVariants as type
use Rattle.sql_ast.specs.declared.word.Direction.{Direction}
use Rattle.sql_ast.specs.declared.word.Direction.TheVariants as way
use Rattle.sql_ast.specs.declared.word.MultiplicativeOp.{MultiplicativeOp}
use Rattle.sql_ast.specs.declared.word.MultiplicativeOp.TheVariants as mul
use Rattle.sql_ast.specs.declared.word.Quantifier.{Quantifier}
use Rattle.sql_ast.specs.declared.word.Quantifier.TheVariants as some
use Rattle.sql_ast.specs.declared.word.SetOperator.{SetOperator}
use Rattle.sql_ast.specs.declared.word.SetOperator.TheVariants as set
use Rattle.sql_ast.specs.declared.word.SetQuantifier.{SetQuantifier}
use Rattle.sql_ast.specs.declared.word.SetQuantifier.TheVariants as each
use Rattle.sql_ast.specs.Spelling as sp
use Rattle.sql_parser.specs.Words as r
use Rattle.sql_parser.specs.declared.word.JoinKind.TheVariants as join_of
use Rattle.sql_parser.specs.Words.{◌>>=◌, mapped}
use Rattle.sql_parser.specs.ReadText as text
use Rattle.sql_parser.proofs.Lookahead.{rank}
use Rattle.sql_parser.proofs.Stops as stops
use Rattle.sql_parser.proofs.Links as links

-- ---- signs and words that stand for one of several

pub additive_read : (op : AdditiveOp) (ts : List Token) → r.additive_at (sp.additive op ∷ ts) ≡ Some (op, ts)
additive_read add.Plus ts = refl
additive_read add.Minus ts = refl
additive_read add.Concat ts = refl

pub multiplicative_read : (op : MultiplicativeOp) (ts : List Token) → r.multiplicative_at (sp.multiplicative op ∷ ts) ≡ Some (op, ts)
multiplicative_read mul.Times ts = refl
multiplicative_read mul.Divide ts = refl

pub quantifier_read : (q : Quantifier) (ts : List Token) → r.quantifier_at (sp.quantifier q ∷ ts) ≡ Some (q, ts)
quantifier_read some.Any ts = refl
quantifier_read some.Some ts = refl
quantifier_read some.All ts = refl

pub set_operator_read : (op : SetOperator) (ts : List Token) → r.set_operator_at (sp.set_operator op ∷ ts) ≡ Some (op, ts)
set_operator_read set.Union ts = refl
set_operator_read set.Except ts = refl

pub set_quantifier_read : (each : Option SetQuantifier) (ts : List Token) → r.set_quantifier_at ts ≡ (None, ts) → r.set_quantifier_at (sp.set_quantifier each ts) ≡ (each, ts)
set_quantifier_read None ts h = h
set_quantifier_read (Some each.All) ts h = refl
set_quantifier_read (Some each.Distinct) ts h = refl

pub all_read : (b : Bool) (ts : List Token) → r.all_at ts ≡ (false, ts) → r.all_at (sp.optional k.All b ts) ≡ (b, ts)
all_read true ts h = refl
all_read false ts h = h

pub inner_read : (b : Bool) (ts : List Token) → r.join_at (sp.optional k.Inner b (t.Key k.Join ∷ ts)) ≡ Some (join_of.Inner b, ts)
inner_read true ts = refl
inner_read false ts = refl

pub left_read : (b : Bool) (ts : List Token) → r.join_at (t.Key k.Left ∷ sp.optional k.Outer b (t.Key k.Join ∷ ts)) ≡ Some (join_of.Left b, ts)
left_read true ts = refl
left_read false ts = refl

-- ---- names

pub more_names_read : (ns : List (List ℕ)) (ts : List Token) → rank ts < 7 → r.more_names (sp.more_names ns ts) ≡ (ns, ts)
more_names_read [] [] low = refl
more_names_read [] (t.Comma ∷ ts) low = absurd (omega arith)
more_names_read [] (_ ∷ ts) low = refl
more_names_read (n ∷ ns) ts low = ap (λ x. (n ∷ x.0, x.1)) (more_names_read ns ts low)

pub names_read : (n : List ℕ) (ns : List (List ℕ)) (ts : List Token) → rank ts < 7 → r.names (sp.names (n ∷ ns) ts) ≡ Some (n ∷ ns, ts)
names_read n ns ts low = ap (λ x. Some (n ∷ x.0, x.1)) (more_names_read ns ts low)

pub column_list_read : (ns : List (List ℕ)) (ts : List Token) → rank ts < 9 → r.column_list (sp.column_list ns ts) ≡ Some (ns, ts)
column_list_read [] [] low = refl
column_list_read [] (t.LeftParen ∷ ts) low = absurd (omega arith)
column_list_read [] (_ ∷ ts) low = refl
column_list_read (n ∷ ns) ts low = ap (λ f. f >>= r.closed (λ ns. ns)) (names_read n ns (t.RightParen ∷ ts) (omega arith))

pub alias_read : (a : Option Alias) (ts : List Token) → rank ts < 9 → r.alias_at (sp.alias a ts) ≡ (a, ts)
alias_read None [] low = refl
alias_read None (t.Name n ∷ ts) low = absurd (omega arith)
alias_read None (t.Key k.As ∷ ts) low = absurd (omega arith)
alias_read None (_ ∷ ts) low = refl
alias_read (Some a) ts low = worded a.noise a.name
  where
    worded : (noise : Bool) (name : List ℕ) → r.alias_at (sp.optional k.As noise (t.Name name ∷ ts)) ≡ (Some (record { noise = noise; name = name }), ts)
    worded true name = refl
    worded false name = refl

correlation_name_read : (noise : Bool) (name : List ℕ) (columns : List (List ℕ)) (ts : List Token) → rank ts < 9
    → r.correlation_name noise (t.Name name ∷ sp.column_list columns ts) ≡ Some (record { noise = noise; name = name; columns = columns }, ts)
correlation_name_read noise name columns ts low = ap (λ f. f >>= (λ ns. λ us. Some (record { noise = noise; name = name; columns = ns }, us))) (column_list_read columns ts low)

correlation_at : (noise : Bool) (name : List ℕ) (columns : List (List ℕ)) (ts : List Token) → rank ts < 9
    → r.correlation (sp.optional k.As noise (t.Name name ∷ sp.column_list columns ts)) ≡ Some (record { noise = noise; name = name; columns = columns }, ts)
correlation_at true name columns ts low = correlation_name_read true name columns ts low
correlation_at false name columns ts low = correlation_name_read false name columns ts low

pub correlation_read : (c : Correlation) (ts : List Token) → rank ts < 9 → r.correlation (sp.correlation c ts) ≡ Some (c, ts)
correlation_read c ts low = correlation_at c.noise c.name c.columns ts low

correlation_starts : (noise : Bool) (name : List ℕ) (ts : List Token) → r.starts_correlation (sp.optional k.As noise (t.Name name ∷ ts)) ≡ true
correlation_starts true name ts = refl
correlation_starts false name ts = refl

pub optional_correlation_read : (c : Option Correlation) (ts : List Token) → rank ts < 9 → r.optional_correlation (sp.optional_correlation c ts) ≡ Some (c, ts)
optional_correlation_read None [] low = refl
optional_correlation_read None (t.Name n ∷ ts) low = absurd (omega arith)
optional_correlation_read None (t.Key k.As ∷ ts) low = absurd (omega arith)
optional_correlation_read None (_ ∷ ts) low = refl
optional_correlation_read (Some c) ts low =
    ap (λ b. if b then mapped Some (r.correlation (sp.correlation c ts)) else Some (None, sp.correlation c ts)) (correlation_starts c.noise c.name (sp.column_list c.columns ts))
    ∙ ap (mapped Some) (correlation_read c ts low)

-- ---- columns

column_after_at : (name : List ℕ) (ts : List Token) → rank ts < 15 → r.column_after name ts ≡ Some (record { range = None; name = name }, ts)
column_after_at name [] low = refl
column_after_at name (t.Dot ∷ ts) low = absurd (omega arith)
column_after_at name (_ ∷ ts) low = refl

column_at : (range : Option (List ℕ)) (name : List ℕ) (ts : List Token) → rank ts < 15
    → r.column (sp.column (record { range = range; name = name }) ts) ≡ Some (record { range = range; name = name }, ts)
column_at (Some n) name ts low = refl
column_at None name ts low = column_after_at name ts low

pub column_read : (c : Column) (ts : List Token) → rank ts < 15 → r.column (sp.column c ts) ≡ Some (c, ts)
column_read c ts low = column_at c.range c.name ts low

column_low : (cs : List Column) (ts : List Token) → rank ts < 7 → rank (sp.more_columns cs ts) < 15
column_low [] ts low = omega arith
column_low (c ∷ cs) ts low = omega arith

pub more_columns_read : (cs : List Column) (n : ℕ) (ts : List Token) → rank ts < 7 → length cs ≤ n → r.more_columns n (sp.more_columns cs ts) ≡ Some (cs, ts)
more_columns_read [] n ts low enough = stops.columns_stop n ts low
more_columns_read (c ∷ cs) zero ts low enough = absurd (omega arith)
more_columns_read (c ∷ cs) (suc n) ts low enough =
    rw (column_read c (sp.more_columns cs ts) (column_low cs ts low), more_columns_read cs n ts low (omega arith)) refl

pub group_by_read : (cs : List Column) (ts : List Token) → rank ts < 5 → r.group_by (sp.group_by cs ts) ≡ Some (cs, ts)
group_by_read [] ts low = stops.group_stops ts low
group_by_read (c ∷ cs) ts low =
    let us = sp.more_columns cs ts in
    let fit = links.columns_fit cs ts in
    rw (column_read c us (column_low cs ts (omega arith)), more_columns_read cs (length us) ts (omega arith) (omega (arith, fit))) refl

-- ---- types

pub data_type_read : (d : DataType) (ts : List Token) → r.data_type (sp.data_type d ts) ≡ Some (d, ts)
data_type_read type.Integer ts = refl
data_type_read type.Int ts = refl
data_type_read (type.Varchar n) ts = refl

-- ---- the end of a query's text

abbrev pub undirected : List Token → Bool
undirected (t.Key k.Asc ∷ ts) = false
undirected (t.Key k.Desc ∷ ts) = false
undirected _ = true

pub direction_read : (d : Option Direction) (ts : List Token) → undirected ts ≡ true → text.direction_at (sp.direction d ts) ≡ (d, ts)
direction_read None [] h = refl
direction_read None (t.Key k.Asc ∷ ts) h = absurd (cc)
direction_read None (t.Key k.Desc ∷ ts) h = absurd (cc)
direction_read None (_ ∷ ts) h = refl
direction_read (Some way.Asc) ts h = refl
direction_read (Some way.Desc) ts h = refl

sort_key_read : (x : SortKey) (ts : List Token) → text.sort_key_at (sp.sort_token x ∷ ts) ≡ Some (x, ts)
sort_key_read (sort_key.Name n) ts = refl
sort_key_read (sort_key.Number n) ts = refl

sort_read : (x : Sort) (ts : List Token) → undirected ts ≡ true → text.sort (sp.sort x ts) ≡ Some (x, ts)
sort_read x ts h =
    ap (λ f. f >>= (λ key. λ us. Some (record { key = key; direction = (text.direction_at us).0 }, (text.direction_at us).1))) (sort_key_read x.key (sp.direction x.direction ts))
    ∙ ap (λ d. Some (record { key = x.key; direction = d.0 }, d.1)) (direction_read x.direction ts h)

-- what may stand after the sorts
abbrev pub after_sorts : List Token → Bool
after_sorts (t.Comma ∷ ts) = false
after_sorts ts = undirected ts

sorts_undirected : (xs : List Sort) (ts : List Token) → after_sorts ts ≡ true → undirected (sp.more_sorts xs ts) ≡ true
sorts_undirected [] [] h = refl
sorts_undirected [] (t.Comma ∷ ts) h = refl
sorts_undirected [] (_ ∷ ts) h = h
sorts_undirected (x ∷ xs) ts h = refl

sorts_fit : (xs : List Sort) (ts : List Token) → length xs ≤ length (sp.more_sorts xs ts)
sorts_fit [] ts = omega arith
sorts_fit (x ∷ xs) ts = let p = sorts_fit xs ts in let q = directed x.direction (sp.more_sorts xs ts) in omega (arith, p, q)
  where
    directed : (d : Option Direction) (us : List Token) → length us ≤ length (sp.direction d us)
    directed None us = omega arith
    directed (Some way.Asc) us = omega arith
    directed (Some way.Desc) us = omega arith

more_sorts_read : (xs : List Sort) (n : ℕ) (ts : List Token) → after_sorts ts ≡ true → length xs ≤ n → text.more_sorts n (sp.more_sorts xs ts) ≡ Some (xs, ts)
more_sorts_read [] zero ts h enough = refl
more_sorts_read [] (suc n) [] h enough = refl
more_sorts_read [] (suc n) (t.Comma ∷ ts) h enough = absurd (cc)
more_sorts_read [] (suc n) (_ ∷ ts) h enough = refl
more_sorts_read (x ∷ xs) zero ts h enough = absurd (omega arith)
more_sorts_read (x ∷ xs) (suc n) ts h enough =
    rw (sort_read x (sp.more_sorts xs ts) (sorts_undirected xs ts h), more_sorts_read xs n ts h (omega arith)) refl

semicolon_after : (b : Bool) → after_sorts (sp.semicolon b) ≡ true
semicolon_after true = refl
semicolon_after false = refl

pub order_by_read : (xs : List Sort) (b : Bool) → text.order_by (sp.order_by xs (sp.semicolon b)) ≡ Some (xs, sp.semicolon b)
order_by_read [] true = refl
order_by_read [] false = refl
order_by_read (x ∷ xs) b =
    let us = sp.more_sorts xs (sp.semicolon b) in
    rw (
      sort_read x us (sorts_undirected xs (sp.semicolon b) (semicolon_after b)),
      more_sorts_read xs (length us) (sp.semicolon b) (semicolon_after b) (sorts_fit xs (sp.semicolon b)),
    ) refl

pub semicolon_read : (b : Bool) → text.last_semicolon (sp.semicolon b) ≡ Some b
semicolon_read true = refl
semicolon_read false = refl

pub order_low : (xs : List Sort) (b : Bool) → rank (sp.order_by xs (sp.semicolon b)) < 1
order_low [] true = omega arith
order_low [] false = omega arith
order_low (x ∷ xs) b = omega arith
