use Rattle.std.proofs.lemmas.Grind.{common_steps}
use Rattle.std.proofs.Common.{◌∙◌, sym, arith}
use Rattle.csv_tables.specs.Seen.{has_seen, seen_with}
use Rattle.csv_tables.proofs.KeySteps.{passed-more, set-more}
use Rattle.csv_tables.proofs.seen.repeats.Goals as goal

pub loop-i-preserved : goal.loop-i-preserved
loop-i-preserved g c = record {
  passed = passed-more c.args.seen.now.items c.loop-i.seen.items c.loop-i.i (seen_with (g.R.ReadRecord.contents c.args.fields.now)) (has_seen (g.R.ReadRecord.contents c.args.fields.now)) c.index_mut.result.now (rw c.as_slice-i-end.ensures.value at c.loop-i-test.true) c.loop-i.invariant.items c.index_mut.ensures.value
      (sym c.in_ok-add_to.ensures.found ∙ c.if-branch.false) c.loop-i.invariant.passed;
  items = set-more c.args.seen.now.items c.loop-i.seen.items c.loop-i.i (seen_with (g.R.ReadRecord.contents c.args.fields.now)) c.index_mut.result.now c.add_to.new.seen (rw c.as_slice-i-end.ensures.value at c.loop-i-test.true) c.loop-i.invariant.items c.index_mut.ensures.value
      (c.in_ok-add_to.ensures.after c.if-branch.false);
}

pub returns-clause-after : goal.returns-clause-after
returns-clause-after g c = grind (arith, common_steps)

pub returns-clause-found : goal.returns-clause-found
returns-clause-found g c = grind (arith, common_steps)

pub returns-then-branch-clause-found : goal.returns-then-branch-clause-found
returns-then-branch-clause-found g c = grind (arith, common_steps)
