use Rattle.std.proofs.Common.{◌≡◌, ◌++◌, ◌∙◌, ap, List, ℕ, Option, subst, sym}
use Rattle.std.proofs.lemmas.Result.{IfOk-at_ok}
use Rattle.sql_meaning.specs.Occurrences.{Indexes}
use Rattle.sql_meaning.specs.Scopes.{Shape}
use Rattle.sql_meaning.specs.declared.column_index.Occurrence.{Occurrence}
use Rattle.sql_names.specs.Places.{names_in}
use Rattle.sql_names.specs.Ranges.{shape}
use Rattle.sql_names.specs.declared.range.Range.{Range}
use Rattle.sql_names.proofs.Scoped.{names_append}
use Rattle.sql_names.proofs.scope.Scope.and_right.Goals as goal

pub invariant_of-result : goal.invariant_of-result
invariant_of-result c =
    let left : Shape = shape c.self.inside.ranges in
    let there : shape c.in_ok-ranges.ranges ≡ left ++ c.args.right =
    IfOk-at_ok (λ (ranges : List Range). shape ranges ≡ left ++ c.args.right) c.in_ok-ranges.ensures.0 c.with_ranges.ensures in
    let indexed : Indexes (names_in left ++ names_in (shape c.ranges-2.result.now)) c.in_ok-ranges.columns =
    IfOk-at_ok (λ (longer : List (List ℕ × Occurrence) × ℕ). (before : List (Option (List ℕ))) → Indexes before c.self.inside.columns → Indexes (before ++ names_in (shape c.ranges-2.result.now)) longer) c.in_ok-ranges.ensures.1 c.longer_index-columns.ensures (names_in left) c.self.invariant in
    subst (λ (names : List (Option (List ℕ))). Indexes names c.in_ok-ranges.columns)
    (ap (λ (ranges : Shape). names_in left ++ names_in ranges) c.ranges-2.ensures ∙ sym (names_append left c.args.right) ∙ ap names_in (sym there)) indexed
