use Rattle.std.proofs.Common.{List, Option, [], subst, sym, ℕ}
use Rattle.sql_meaning.specs.Occurrences.{Indexes}
use Rattle.sql_names.specs.Places.{names_in}
use Rattle.sql_names.specs.Ranges.{shape}
use Rattle.sql_names.specs.declared.range.Range.{Range}
use Rattle.sql_names.proofs.Scoped.{indexed_one}
use Rattle.sql_names.proofs.scope.Scope.lone.Goals as goal

pub invariant_of-result : goal.invariant_of-result
invariant_of-result c =
    let indexed : Indexes c.args.range.columns c.append.new.self =
    subst (λ (columns : List (Option (List ℕ))). Indexes columns c.append.new.self) c.as_slice.ensures (c.in_ok-append.ensures [] c.new-index.ensures) in
    subst (λ (ranges : List Range). Indexes (names_in (shape ranges)) c.append.new.self) (sym c.in_ok-ranges.ensures) (indexed_one c.args.range.name c.args.range.columns c.append.new.self indexed)
