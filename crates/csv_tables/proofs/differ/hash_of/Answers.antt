use Rattle.std.proofs.Common.{◌∙◌, sym}
use Rattle.csv_tables.specs.KeyCells.{contents_in}
use Rattle.row_bag.specs.RowRefs.{lent}
use Rattle.csv_tables.proofs.Hashes.{hashed-all, hashed-more, hashed-none, hashed-null}
use Rattle.csv_tables.proofs.differ.hash_of.Goals as goal

pub returns-in_default : goal.returns-in_default
returns-in_default c =
    sym (hashed-none c.args.key.now.primary c.as_slice-places.result.now (contents_in (lent c.args.row)) c.loop-place.place-index c.loop-place.hasher _ c.loop-place-test.true (sym c.in_default.ensures.at) c.loop-place.invariant)

pub returns-then-not-counts : goal.returns-then-not-counts
returns-then-not-counts c =
    sym (hashed-null c.args.key.now.primary c.as_slice-places.result.now (contents_in (lent c.args.row)) c.loop-place.place-index c.in-Some.cell.now c.loop-place.hasher _ c.loop-place-test.true (sym c.in-Some.ensures.at)
    (sym c.counts.ensures ∙ c.if-not-counts.true) c.loop-place.invariant)

pub loop-place-preserved : goal.loop-place-preserved
loop-place-preserved c =
    rw c.feed.ensures (hashed-more c.args.key.now.primary c.as_slice-places.result.now (contents_in (lent c.args.row)) c.loop-place.place-index c.in-Some.cell.now c.loop-place.hasher _ c.loop-place-test.true (sym c.in-Some.ensures.at)
    (sym c.counts.ensures ∙ c.if-not-counts.false) c.loop-place.invariant)

pub returns : goal.returns
returns c = rw c.finish.ensures (sym (hashed-all c.args.key.now.primary c.as_slice-places.result.now (contents_in (lent c.args.row)) c.loop-place.place-index c.loop-place.hasher _ c.loop-place-test.false c.loop-place.invariant))
