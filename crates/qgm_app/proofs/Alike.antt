-- Bags that agree have one answer.
use Rattle.std.specs.Prelude.{ℕ, ◌≡◌, refl, List, Option, Some, None}
use Rattle.std.proofs.Common.{ap, ◌∙◌}
use Rattle.row_bag.specs.Errors.{error_among, error_in}
use Rattle.row_bag.specs.Sorted.{sorted_rows}
use Rattle.row_bag.specs.Verdict.{error_or_rows, those_there, verdict}
use Rattle.row_bag.specs.declared.row.Row.{Row}
use Rattle.sql_meaning.specs.Meaning.{answer_of, answer_rows}
use Rattle.sql_value.specs.declared.cell.Cell.{Cell}
use Rattle.sql_value.specs.declared.cell.Kind.{Kind}
use Rattle.sql_value.specs.declared.order_key.OrderKey.{OrderKey}

-- with the same error, or the same rows in order
by-error : (names : List (Option (List ℕ))) (keys : List OrderKey) (error : Option Kind) (xs ys : List (Row (List Cell))) → sorted_rows keys xs ≡ sorted_rows keys ys
    → answer_of names keys (error_or_rows error xs) ≡ answer_of names keys (error_or_rows error ys)
by-error names keys (Some k) xs ys same = refl
by-error names keys None xs ys same = ap (answer_rows names) same

pub answers_alike : (names : List (Option (List ℕ))) (keys : List OrderKey) (xs ys : List (Row (List Cell)))
    → error_among error_in xs ≡ error_among error_in ys → sorted_rows keys (those_there xs) ≡ sorted_rows keys (those_there ys)
    → answer_of names keys (verdict xs) ≡ answer_of names keys (verdict ys)
answers_alike names keys xs ys error sorted =
    ap (λ o. answer_of names keys (error_or_rows o (those_there xs))) error ∙ by-error names keys (error_among error_in ys) (those_there xs) (those_there ys) sorted
