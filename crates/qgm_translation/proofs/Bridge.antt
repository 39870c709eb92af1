-- What quantifiers and boxes give, over lists; and that the words of queries and of graphs are the same.
use Rattle.std.proofs.Common.{◌≡◌, ℕ, Bool, true, false, List, Option, Some, None, refl, ap₂}
use Rattle.row_bag.specs.Aggregates.{folded}
use Rattle.row_bag.specs.Bags.{keep, unit}
use Rattle.row_bag.specs.Sets.{failed_cells}
use Rattle.row_bag.specs.declared.row.Row.{Row}
use Rattle.sql_ast.specs.declared.word.SetFunction.{SetFunction}
use Rattle.sql_ast.specs.declared.word.SetFunction.TheVariants as function
use Rattle.sql_ast.specs.declared.word.SetOperator.{SetOperator}
use Rattle.sql_ast.specs.declared.word.SetOperator.TheVariants as operator
use Rattle.sql_value.specs.declared.aggregate.Aggregate.{Aggregate}
use Rattle.sql_value.specs.declared.aggregate.Taken.{Taken}
use Rattle.sql_value.specs.declared.cell.Cell.{Cell}
use Rattle.sql_meaning.specs.Groups as s
use Rattle.sql_meaning.specs.Joins as j
use Rattle.sql_meaning.specs.Meaning as names
use Rattle.list_laws.specs.Lists.{first}
use Rattle.qgm_core.specs.Kinds.{is_enforce}
use Rattle.qgm_core.specs.Boxes.{is_quant}
use Rattle.qgm_core.specs.declared.owned.OwnedQuant.{OwnedQuant}
use Rattle.qgm_terms.specs.Terms.{Term, Cond}
use Rattle.qgm_meaning.specs.Aggregated.{aggregate_of, taken_of}
use Rattle.qgm_meaning.specs.Meaning.{Family, rows_found}
use Rattle.qgm_meaning.specs.Meaning as g
use Rattle.qgm_meaning.specs.Values.{Bag, Environment, all_true, head_cells}
use Rattle.qgm_translation.specs.Shown.{aggregate, common_form, distinct_of, form_of, taken}

-- ---- of lists

-- what quantifiers of these give
abbrev pub rows_in : List OwnedQuant → Family → Family
rows_in os bag q env = rows_found (first (is_quant q) os) bag env

-- a head at the level of conditions
abbrev pub given_of : List Cond → List Term → Family → Environment → Bag
given_of conds head s env = keep (all_true (λ q. s q env) conds env).t (unit (head_cells (λ q. s q env) head env))

-- ---- the same words

aggregate-same : (n : SetFunction) → aggregate_of (aggregate n) ≡ s.aggregate_of n
aggregate-same function.Count = refl
aggregate-same function.Sum = refl
aggregate-same function.Avg = refl
aggregate-same function.Min = refl
aggregate-same function.Max = refl

taken-same : (d : Bool) → taken_of (taken d) ≡ s.taken_of d
taken-same true = refl
taken-same false = refl

pub folds-same : (n : SetFunction) (d : Bool) (cells : List (Row Cell)) → folded (aggregate_of (aggregate n)) (taken_of (taken d)) cells ≡ s.of_arguments n d cells
folds-same n d cells = ap₂ (λ (f : Aggregate) (t : Taken). folded f t cells) (aggregate-same n) (taken-same d)

pub once-same : (d : Bool) (rows : Bag) → g.once_if (is_enforce (distinct_of d)) rows ≡ j.distinct_if d rows
once-same true rows = refl
once-same false rows = refl

pub combined-same : (op : SetOperator) (all : Bool) (n : ℕ) (xs ys : Bag) → g.combined (form_of op all) n xs ys ≡ j.combined op all (failed_cells n) xs ys
combined-same operator.Union true n xs ys = refl
combined-same operator.Union false n xs ys = refl
combined-same operator.Except true n xs ys = refl
combined-same operator.Except false n xs ys = refl

pub intersected-same : (all : Bool) (n : ℕ) (xs ys : Bag) → g.combined (common_form all) n xs ys ≡ j.intersected all (failed_cells n) xs ys
intersected-same true n xs ys = refl
intersected-same false n xs ys = refl

pub source-same : (o : Option Bag) → g.rows_or_none o ≡ names.rows_or_none o
source-same None = refl
source-same (Some rows) = refl
