-- Rounds in which the views of a schema are resolved over the columns of the round before.
use Rattle.std.proofs.Common.{◌≡◌, ◌≤◌, ◌+◌, ◌-◌, ℕ, suc, List, ◌++◌, drop, length, map, take, ap, ap₂, ◌∙◌, arith}
use Rattle.std.proofs.lemmas.List.{length-append, length-drop, length-map, length-take-le, take-append-le, take-take, take_all}
use Rattle.sql_ast.specs.Declarations.{Declared}
use Rattle.sql_meaning.specs.Scopes.{Shape}
use Rattle.sql_names.specs.Known.{table_range, view_range}
use Rattle.sql_names.specs.Ranges.{shape}
use Rattle.sql_names.specs.Schema.{columns_at}
use Rattle.sql_names.specs.Shapes.{columns_among}
use Rattle.sql_names.specs.declared.range.Range.{Range}
use Rattle.sql_names.proofs.Known.{columns_next}

shape_length : (ranges : List Range) → length (shape ranges) ≡ length ranges
shape_length ranges = length-map ranges (λ (range : Range). (range.name, range.columns))

kept_length : (n : ℕ) (known : List Range) → n ≤ length known → length (take n (shape known)) ≡ n
kept_length n known low = let same = shape_length known in length-take-le n (shape known) (omega (arith, low, same))

-- the tables are all at first
pub tables_first : (n : ℕ) (known : List Range) (tables : Shape) → shape known ≡ tables → n ≡ length known → take n (shape known) ≡ tables
tables_first n known tables e all = let same = shape_length known in take_all n (shape known) (omega (arith, same, all)) ∙ e

-- the tables stay
pub tables_stay : (n : ℕ) (known next views : List Range) (tables : Shape) → n ≤ length known → take n (shape known) ≡ tables → shape next ≡ take n (shape known) ++ shape views → take n (shape next) ≡ tables
tables_stay n known next views tables low e step =
    let long = kept_length n known low in
    ap (take n) step ∙ take-append-le n (take n (shape known)) (shape views) (omega (arith, long)) ∙ take-take n n (shape known) (omega arith) ∙ e

pub tables_within : (n : ℕ) (known next views : List Range) → n ≤ length known → shape next ≡ take n (shape known) ++ shape views → n ≤ length next
tables_within n known next views low step =
    let long = kept_length n known low in
    let same = shape_length next in
    let whole : length (shape next) ≡ length (take n (shape known)) + length (shape views) = ap length step ∙ length-append (take n (shape known)) (shape views) in
    omega (arith, long, same, whole)

-- a round gives the columns at the next depth
pub round_over : (catalog : Declared) (depth n : ℕ) (known next views : List Range) → columns_among known ≡ columns_at catalog depth → take n (shape known) ≡ map table_range catalog.tables
    → shape views ≡ map (view_range (columns_among known)) catalog.views → shape next ≡ take n (shape known) ++ shape views → columns_among next ≡ columns_at catalog (depth + 1)
round_over catalog depth n known next views h tables made step =
    let following : suc depth ≡ depth + 1 = omega arith in
    columns_next catalog depth known next h (step ∙ ap₂ (λ (xs ys : Shape). xs ++ ys) tables made) ∙ ap (λ (k : ℕ). columns_at catalog k) following

-- the ranges from one on, as many as there are
pub rest_whole : (n : ℕ) (ranges : List Range) → take (length ranges - n) (drop n ranges) ≡ drop n ranges
rest_whole n ranges = let long = length-drop n ranges in take_all (length ranges - n) (drop n ranges) (omega (arith, long))
