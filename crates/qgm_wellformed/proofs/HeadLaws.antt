-- Cells of heads.
use Rattle.std.proofs.Common.{◌≡◌, ℕ, suc, ◌<◌, ◌+◌, ◌-◌, ◌++◌, ◌&&◌, List, [], ◌∷◌, refl, sym, ◌∙◌, ap, arith}
use Rattle.std.proofs.lemmas.List.{append_assoc}
use Rattle.qgm_terms.specs.Terms.{Term, Link, both, linked}
use Rattle.qgm_terms.specs.declared.named.Column.{Column}
use Rattle.qgm_wellformed.specs.Shapes.{columns_from, is_aggregate, is_column, is_none}
use Rattle.list_laws.proofs.Booleans.{and-false}

-- a chain of two operands or more is neither a column nor an aggregate
pub column_linked : (x : Term) (ls : List Link) → is_column (linked x ls) ≡ (is_none ls && is_column x)
column_linked x [] = refl
column_linked x (l ∷ ls) = column_linked (both l.op x l.right) ls ∙ and-false (is_none ls)

pub aggregate_linked : (x : Term) (ls : List Link) → is_aggregate (linked x ls) ≡ (is_none ls && is_aggregate x)
aggregate_linked x [] = refl
aggregate_linked x (l ∷ ls) = aggregate_linked (both l.op x l.right) ls ∙ and-false (is_none ls)

-- the columns that are left, one further
pub columns_more : (q k w : ℕ) (now next : List Column) → k < w → next ≡ now ++ record { quant = q; place = k + 1 } ∷ [] →
    next ++ columns_from q (k + 1 + 1) (w - (k + 1)) ≡ now ++ columns_from q (k + 1) (w - k)
columns_more q k w now next l e =
    let m : w - k ≡ suc (w - (k + 1)) = omega arith in
    ap (λ cs. cs ++ columns_from q (k + 1 + 1) (w - (k + 1))) e
    ∙ append_assoc now (record { quant = q; place = k + 1 } ∷ []) (columns_from q (k + 1 + 1) (w - (k + 1)))
    ∙ ap (λ n. now ++ columns_from q (k + 1) n) (sym m)
