use Rattle.std.proofs.lemmas.Grind.{common_steps}
use Rattle.std.proofs.Common.{arith}
use Rattle.sql_meaning.proofs.Occurrences.{indexed_more}
use Rattle.sql_meaning.proofs.column_index.note_all.Goals as goal

pub loop-i-preserved : goal.loop-i-preserved
loop-i-preserved c = λ before index.
    indexed_more before c.args.columns.now c.loop-i.i c.args.first c.index-columns-i.result c.loop-i.names.entries c.note.new.names.entries (omega (arith, c.loop-i-test.true)) c.index-columns-i.is
    (c.loop-i.invariant before index) c.in_ok-note.ensures

pub returns : goal.returns
returns c = grind (arith, common_steps)
