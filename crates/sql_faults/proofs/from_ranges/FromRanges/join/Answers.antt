use Rattle.std.proofs.Common.{◌≡◌, ◌∙◌, ◌++◌, List, ap, arith}
use Rattle.std.proofs.lemmas.Grind.{common_steps}
use Rattle.sql_faults.specs.Columns.{all_columns}
use Rattle.sql_faults.specs.Found.{found}
use Rattle.sql_faults.specs.Scopes.{columns_named}
use Rattle.sql_faults.specs.declared.column.TypedRange.{TypedRange}
use Rattle.sql_faults.proofs.Notes.{tells_more}
use Rattle.sql_faults.proofs.from_ranges.FromRanges.join.Goals as goal

pub invariant_of-result : goal.invariant_of-result
invariant_of-result c = λ name.
    let all : c.left.inside.ranges ++ c.as_slice.result.now ≡ c.append.new.self = grind (arith, common_steps) in
    tells_more c.left.inside.finds.entries c.note_ranges.new.finds.entries c.left.inside.ranges c.as_slice.result.now c.left.invariant c.in_ok-note_ranges.ensures name
    ∙ ap (λ (rs : List TypedRange). found (columns_named name (all_columns rs))) all

pub returns : goal.returns
returns c = grind (arith, common_steps)
