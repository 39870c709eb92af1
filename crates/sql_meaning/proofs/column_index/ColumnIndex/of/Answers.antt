use Rattle.std.proofs.lemmas.Grind.{common_steps}
use Rattle.std.proofs.Common.{◌<◌, ◌∙◌, ap, cond, sym, length, List, ℕ, Option, arith}
use Rattle.std.specs.Borrow.{Bor}
use Rattle.sql_meaning.specs.Scopes.{is_named}
use Rattle.sql_meaning.specs.Occurrences.{then_at}
use Rattle.sql_meaning.specs.declared.column_index.Occurrence.{Occurrence}
use Rattle.sql_meaning.proofs.Occurrences.{occurrence_next}
use Rattle.sql_meaning.proofs.column_index.ColumnIndex.of.Goals as goal

pub loop-place-preserved : goal.loop-place-preserved
loop-place-preserved c = λ q.
    let low : c.loop-place.place < length c.args.columns.now = omega (arith, c.loop-place-test.true) in
    c.in_ok-note.ensures q
    ∙ ap (λ (o : Occurrence). cond (is_named q c.index-columns-place.result.now) (then_at o c.loop-place.place) o) (c.loop-place.invariant q)
    ∙ rw (← c.index-columns-place.is) at (sym (occurrence_next (λ (column : Bor (Option (List ℕ))). column.now) c.args.columns.now c.loop-place.place c.index-columns-place.result low q))

pub returns : goal.returns
returns c = grind (arith, common_steps)
