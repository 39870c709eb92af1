-- What is read is spelled so: words and signs, names, columns and types.
use Rattle.std.proofs.Common.{◌≡◌, ℕ, zero, suc, Bool, true, false, List, [], ◌∷◌, Option, Some, None, refl, sym, ◌∙◌, ap, subst, length}
use Rattle.std.specs.Prelude.{if◌then◌else◌}
use Rattle.sql_text.specs.declared.key.Key.TheVariants as k
use Rattle.sql_text.specs.declared.token.Token.{Token}
use Rattle.sql_text.specs.declared.token.Token.TheVariants as t
use Rattle.sql_ast.specs.declared.name.Column.{Column}
use Rattle.sql_ast.specs.declared.name.Correlation.{Correlation}
use Rattle.sql_ast.specs.declared.word.AdditiveOp.{AdditiveOp}
use Rattle.sql_ast.specs.declared.word.AdditiveOp.TheVariants as add
use Rattle.sql_ast.specs.declared.word.DataType.{DataType}
use Rattle.sql_ast.specs.declared.word.DataType.TheVariants as type
use Rattle.sql_ast.specs.declared.word.MultiplicativeOp.{MultiplicativeOp}
use Rattle.sql_ast.specs.declared.word.MultiplicativeOp.TheVariants as mul
use Rattle.sql_ast.specs.declared.word.Quantifier.{Quantifier}
use Rattle.sql_ast.specs.declared.word.Quantifier.TheVariants as some
use Rattle.sql_ast.specs.declared.word.SetOperator.{SetOperator}
use Rattle.sql_ast.specs.declared.word.SetOperator.TheVariants as set
use Rattle.sql_ast.specs.Grammatical.{some_of}
use Rattle.sql_ast.specs.Spelling as sp
use Rattle.sql_parser.specs.declared.word.JoinKind.{JoinKind}
use Rattle.sql_parser.specs.declared.word.JoinKind.TheVariants as join_of
use Rattle.sql_parser.specs.Words as w
use Rattle.sql_parser.specs.Words.{◌>>=◌, mapped}
use Rattle.sql_parser.proofs.Steps.{some_inj, none_some, bind_ok, mapped_ok, closed_ok}
use Rattle.sql_parser.proofs.SoundSteps.{Takes, inside, found}

-- what was found stands for another value that it is
pub told : {A : Type 0} (spell : A → List Token → List Token) (ts : List Token) (x y : A × List Token) → ts ≡ spell x.0 x.1 → Some x ≡ Some y → ts ≡ spell y.0 y.1
told spell ts x y h e = subst (λ r. ts ≡ spell r.0 r.1) (some_inj x y e) h

-- the same of a token that a value stands for
abbrev pub sign : {A : Type 0} → (A → Token) → A → List Token → List Token
sign f x ts = f x ∷ ts

-- ---- words and signs

pub additive_sound : (ts : List Token) (x : AdditiveOp × List Token) → w.additive_at ts ≡ Some x → ts ≡ sp.additive x.0 ∷ x.1
additive_sound (t.Plus ∷ ts) x h = told (sign sp.additive) _ (add.Plus, ts) x refl h
additive_sound (t.Minus ∷ ts) x h = told (sign sp.additive) _ (add.Minus, ts) x refl h
additive_sound (t.Concat ∷ ts) x h = told (sign sp.additive) _ (add.Concat, ts) x refl h
additive_sound _ x h = absurd (none_some x h)

pub multiplicative_sound : (ts : List Token) (x : MultiplicativeOp × List Token) → w.multiplicative_at ts ≡ Some x → ts ≡ sp.multiplicative x.0 ∷ x.1
multiplicative_sound (t.Star ∷ ts) x h = told (sign sp.multiplicative) _ (mul.Times, ts) x refl h
multiplicative_sound (t.Slash ∷ ts) x h = told (sign sp.multiplicative) _ (mul.Divide, ts) x refl h
multiplicative_sound _ x h = absurd (none_some x h)

pub quantifier_sound : (ts : List Token) (x : Quantifier × List Token) → w.quantifier_at ts ≡ Some x → ts ≡ sp.quantifier x.0 ∷ x.1
quantifier_sound (t.Key k.Any ∷ ts) x h = told (sign sp.quantifier) _ (some.Any, ts) x refl h
quantifier_sound (t.Key k.Some ∷ ts) x h = told (sign sp.quantifier) _ (some.Some, ts) x refl h
quantifier_sound (t.Key k.All ∷ ts) x h = told (sign sp.quantifier) _ (some.All, ts) x refl h
quantifier_sound _ x h = absurd (none_some x h)

pub set_operator_sound : (ts : List Token) (x : SetOperator × List Token) → w.set_operator_at ts ≡ Some x → ts ≡ sp.set_operator x.0 ∷ x.1
set_operator_sound (t.Key k.Union ∷ ts) x h = told (sign sp.set_operator) _ (set.Union, ts) x refl h
set_operator_sound (t.Key k.Except ∷ ts) x h = told (sign sp.set_operator) _ (set.Except, ts) x refl h
set_operator_sound _ x h = absurd (none_some x h)

pub set_quantifier_sound : (ts : List Token) → ts ≡ sp.set_quantifier (w.set_quantifier_at ts).0 (w.set_quantifier_at ts).1
set_quantifier_sound (t.Key k.All ∷ ts) = refl
set_quantifier_sound (t.Key k.Distinct ∷ ts) = refl
set_quantifier_sound ts = refl

pub all_sound : (ts : List Token) → ts ≡ sp.optional k.All (w.all_at ts).0 (w.all_at ts).1
all_sound (t.Key k.All ∷ ts) = refl
all_sound ts = refl

pub not_sound : (ts : List Token) → ts ≡ sp.optional k.Not (w.not_at ts).0 (w.not_at ts).1
not_sound (t.Key k.Not ∷ ts) = refl
not_sound ts = refl

-- the words of a join
abbrev pub join_words : JoinKind → List Token → List Token
join_words (join_of.Inner inner) ts = sp.optional k.Inner inner (t.Key k.Join ∷ ts)
join_words (join_of.Left outer) ts = t.Key k.Left ∷ sp.optional k.Outer outer (t.Key k.Join ∷ ts)
join_words join_of.Cross ts = t.Key k.Cross ∷ t.Key k.Join ∷ ts

after_left_sound : (outer : Bool) (ts : List Token) (x : JoinKind × List Token) → w.after_left outer ts ≡ Some x → t.Key k.Left ∷ sp.optional k.Outer outer ts ≡ join_words x.0 x.1
after_left_sound outer (t.Key k.Join ∷ ts) x h = told join_words _ (join_of.Left outer, ts) x refl h
after_left_sound outer _ x h = absurd (none_some x h)

pub join_sound : (ts : List Token) (x : JoinKind × List Token) → w.join_at ts ≡ Some x → ts ≡ join_words x.0 x.1
join_sound (t.Key k.Join ∷ ts) x h = told join_words _ (join_of.Inner false, ts) x refl h
join_sound (t.Key k.Inner ∷ t.Key k.Join ∷ ts) x h = told join_words _ (join_of.Inner true, ts) x refl h
join_sound (t.Key k.Left ∷ t.Key k.Outer ∷ ts) x h = after_left_sound true ts x h
join_sound (t.Key k.Left ∷ ts) x h = after_left_sound false ts x h
join_sound (t.Key k.Cross ∷ t.Key k.Join ∷ ts) x h = told join_words _ (join_of.Cross, ts) x refl h
join_sound _ x h = absurd (none_some x h)

-- ---- names and columns

pub more_names_sound : (ts : List Token) → ts ≡ sp.more_names (w.more_names ts).0 (w.more_names ts).1
more_names_sound (t.Comma ∷ t.Name n ∷ ts) = ap (λ us. t.Comma ∷ t.Name n ∷ us) (more_names_sound ts)
more_names_sound ts = refl

pub names_sound : (ts : List Token) (x : List (List ℕ) × List Token) → w.names ts ≡ Some x → Takes some_of sp.names ts x
names_sound (t.Name n ∷ ts) x h =
    found some_of sp.names _ (n ∷ (w.more_names ts).0, (w.more_names ts).1) x (record { grammatical = refl; tokens = ap (λ us. t.Name n ∷ us) (more_names_sound ts) }) h
names_sound _ x h = absurd (none_some x h)

column_list_of : (ns : List (List ℕ)) (ts : List Token) → some_of ns ≡ true → t.LeftParen ∷ sp.names ns (t.RightParen ∷ ts) ≡ sp.column_list ns ts
column_list_of [] ts h = absurd (cc)
column_list_of (n ∷ ns) ts h = refl

pub column_list_sound : (ts : List Token) (x : List (List ℕ) × List Token) → w.column_list ts ≡ Some x → ts ≡ sp.column_list x.0 x.1
column_list_sound (t.LeftParen ∷ ts) x h =
    let i = inside some_of sp.names w.names (record { holds = names_sound }) (λ ns. ns) ts x h in
    rw i.is (ap (λ us. t.LeftParen ∷ us) i.tokens ∙ column_list_of i.value x.1 i.grammatical)
column_list_sound ts x h = told sp.column_list _ ([], ts) x refl h

pub column_after_sound : (n : List ℕ) (ts : List Token) (x : Column × List Token) → w.column_after n ts ≡ Some x → t.Name n ∷ ts ≡ sp.column x.0 x.1
column_after_sound n (t.Dot ∷ t.Name m ∷ ts) x h = told sp.column _ (record { range = Some n; name = m }, ts) x refl h
column_after_sound n (t.Dot ∷ ts) x h = absurd (none_some x h)
column_after_sound n ts x h = told sp.column _ (record { range = None; name = n }, ts) x refl h

pub column_sound : (ts : List Token) (x : Column × List Token) → w.column ts ≡ Some x → ts ≡ sp.column x.0 x.1
column_sound (t.Name n ∷ ts) x h = column_after_sound n ts x h
column_sound _ x h = absurd (none_some x h)

pub more_columns_sound : (n : ℕ) (ts : List Token) (x : List Column × List Token) → w.more_columns n ts ≡ Some x → ts ≡ sp.more_columns x.0 x.1
more_columns_sound zero ts x h = told sp.more_columns _ ([], ts) x refl h
more_columns_sound (suc n) (t.Comma ∷ ts) x h =
    let b = bind_ok (w.column ts) (λ c. λ us. w.more_columns n us >>= (λ cs. λ vs. Some (c ∷ cs, vs))) x h in
    let k = bind_ok (w.more_columns n b.0.1) (λ cs. λ vs. Some (b.0.0 ∷ cs, vs)) x b.2 in
    let first = column_sound ts b.0 b.1 in
    let rest = more_columns_sound n b.0.1 k.0 k.1 in
    told sp.more_columns _ (b.0.0 ∷ k.0.0, k.0.1) x (ap (λ us. t.Comma ∷ us) (first ∙ ap (sp.column b.0.0) rest)) k.2
more_columns_sound (suc n) ts x h = told sp.more_columns _ ([], ts) x refl h

columns_sound : (ts : List Token) (x : List Column × List Token) → w.columns ts ≡ Some x → t.Key k.Group ∷ t.Key k.By ∷ ts ≡ sp.group_by x.0 x.1
columns_sound ts x h =
    let b = bind_ok (w.column ts) (λ c. λ us. w.more_columns (length us) us >>= (λ cs. λ vs. Some (c ∷ cs, vs))) x h in
    let more = bind_ok (w.more_columns (length b.0.1) b.0.1) (λ cs. λ vs. Some (b.0.0 ∷ cs, vs)) x b.2 in
    let first = column_sound ts b.0 b.1 in
    let rest = more_columns_sound (length b.0.1) b.0.1 more.0 more.1 in
    told sp.group_by _ (b.0.0 ∷ more.0.0, more.0.1) x (ap (λ us. t.Key k.Group ∷ t.Key k.By ∷ us) (first ∙ ap (sp.column b.0.0) rest)) more.2

pub group_by_sound : (ts : List Token) (x : List Column × List Token) → w.group_by ts ≡ Some x → ts ≡ sp.group_by x.0 x.1
group_by_sound (t.Key k.Group ∷ t.Key k.By ∷ ts) x h = columns_sound ts x h
group_by_sound ts x h = told sp.group_by _ ([], ts) x refl h

pub alias_sound : (ts : List Token) → ts ≡ sp.alias (w.alias_at ts).0 (w.alias_at ts).1
alias_sound (t.Key k.As ∷ t.Name n ∷ ts) = refl
alias_sound (t.Name n ∷ ts) = refl
alias_sound ts = refl

correlation_name_sound : (noise : Bool) (ts : List Token) (x : Correlation × List Token) → w.correlation_name noise ts ≡ Some x → sp.optional k.As noise ts ≡ sp.correlation x.0 x.1
correlation_name_sound noise (t.Name n ∷ ts) x h =
    let b = bind_ok (w.column_list ts) (λ ns. λ us. Some (record { noise = noise; name = n; columns = ns }, us)) x h in
    told sp.correlation _ (record { noise = noise; name = n; columns = b.0.0 }, b.0.1) x
    (ap (λ us. sp.optional k.As noise (t.Name n ∷ us)) (column_list_sound ts b.0 b.1)) b.2
correlation_name_sound noise _ x h = absurd (none_some x h)

pub correlation_sound : (ts : List Token) (x : Correlation × List Token) → w.correlation ts ≡ Some x → ts ≡ sp.correlation x.0 x.1
correlation_sound (t.Key k.As ∷ ts) x h = correlation_name_sound true ts x h
correlation_sound ts x h = correlation_name_sound false ts x h

optional_correlation_at : (b : Bool) (ts : List Token) (x : Option Correlation × List Token) → (if b then mapped Some (w.correlation ts) else Some (None, ts)) ≡ Some x
    → ts ≡ sp.optional_correlation x.0 x.1
optional_correlation_at true ts x h =
    let m = mapped_ok Some (w.correlation ts) x h in
    rw m.2 (correlation_sound ts m.0 m.1)
optional_correlation_at false ts x h = told sp.optional_correlation _ (None, ts) x refl h

pub optional_correlation_sound : (ts : List Token) (x : Option Correlation × List Token) → w.optional_correlation ts ≡ Some x → ts ≡ sp.optional_correlation x.0 x.1
optional_correlation_sound ts x h = optional_correlation_at (w.starts_correlation ts) ts x h

pub all_of_sound : (ts : List Token) (x : List ℕ × List Token) → w.all_of_at ts ≡ Some x → ts ≡ t.Name x.0 ∷ t.Dot ∷ t.Star ∷ x.1
all_of_sound (t.Name n ∷ t.Dot ∷ t.Star ∷ ts) x h = told (λ n us. t.Name n ∷ t.Dot ∷ t.Star ∷ us) _ (n, ts) x refl h
all_of_sound _ x h = absurd (none_some x h)

-- ---- types

varchar_sound : (ts : List Token) (x : DataType × List Token) → w.varchar_length ts ≡ Some x → t.Key k.Varchar ∷ ts ≡ sp.data_type x.0 x.1
varchar_sound (t.LeftParen ∷ t.Number n ∷ ts) x h =
    let e = closed_ok type.Varchar n ts x h in
    ap (λ us. t.Key k.Varchar ∷ t.LeftParen ∷ t.Number n ∷ us) e.1 ∙ ap (λ d. sp.data_type d x.1) (sym e.0)
varchar_sound _ x h = absurd (none_some x h)

pub data_type_sound : (ts : List Token) (x : DataType × List Token) → w.data_type ts ≡ Some x → ts ≡ sp.data_type x.0 x.1
data_type_sound (t.Key k.Integer ∷ ts) x h = told sp.data_type _ (type.Integer, ts) x refl h
data_type_sound (t.Key k.Int ∷ ts) x h = told sp.data_type _ (type.Int, ts) x refl h
data_type_sound (t.Key k.Varchar ∷ ts) x h = varchar_sound ts x h
data_type_sound _ x h = absurd (none_some x h)
