use Rattle.std.proofs.Common.{sym}
use Rattle.csv_tables.proofs.KeySteps.{cells-all, cells-more, cells-none}
use Rattle.csv_tables.proofs.seen.cells_at.Goals as goal

pub returns-in_default : goal.returns-in_default
returns-in_default g c = sym (cells-none c.args.places.now (g.R.ReadRecord.contents c.args.fields.now) c.loop-place.place-index c.loop-place.cells _ c.loop-place-test.true (sym c.in_default.ensures.at) c.loop-place.invariant)

pub loop-place-preserved : goal.loop-place-preserved
loop-place-preserved g c =
    rw c.in_ok-push.ensures (cells-more c.args.places.now (g.R.ReadRecord.contents c.args.fields.now) c.loop-place.place-index c.in-Some.cell.now c.loop-place.cells _ c.loop-place-test.true (sym c.in-Some.ensures.at) c.loop-place.invariant)

pub returns : goal.returns
returns g c = sym (cells-all c.args.places.now (g.R.ReadRecord.contents c.args.fields.now) c.loop-place.place-index c.loop-place.cells _ c.loop-place-test.false c.loop-place.invariant)
