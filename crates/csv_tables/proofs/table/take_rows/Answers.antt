use Rattle.std.proofs.lemmas.Grind.{common_steps}
use Rattle.std.proofs.Common.{arith}
use Rattle.std.proofs.lemmas.List.{length-append}
use Rattle.csv.specs.Records.{fields_of}
use Rattle.csv_tables.proofs.Checks.{taken-more, taken-none}
use Rattle.csv_tables.proofs.table.take_rows.Goals as goal

pub loop-seen-init : goal.loop-seen-init
loop-seen-init c = record {
  rows = λ keys. rw c.requires.rows (taken-none c.args.keyless.now keys c.args.records.now);
  few = rw c.requires.rows (omega arith);
  seen = c.new-seen.ensures.items;
}

pub loop-seen-preserved : goal.loop-seen-preserved
loop-seen-preserved c =
    let taken = rw c.if-branch.true at c.in_ok-next.ensures in
    let made = c.in-Ok.ensures.row in
    let few = c.in-Ok.ensures.few in
    record {
      rows = λ keys. rw c.in_ok-push-in-Ok.ensures.ok (taken-more c.args.keyless.now keys (fields_of c.next.new.row) c.next.new.self c.in-Ok.row c.loop-seen.rows _ made (rw taken at (c.loop-seen.invariant.rows keys)));
      few = rw (c.in_ok-push-in-Ok.ensures.ok, length-append c.loop-seen.rows) (omega (arith, few));
      seen = rw c.requires.keys at c.in-Ok.ensures.seen;
    }

pub returns-in-Err-Broken-clause-stops : goal.returns-in-Err-Broken-clause-stops
returns-in-Err-Broken-clause-stops c = grind (arith, common_steps)

pub returns-in-Err-Broken-clause-rows : goal.returns-in-Err-Broken-clause-rows
returns-in-Err-Broken-clause-rows c = grind (arith, common_steps)

pub loop-seen-smaller : goal.loop-seen-smaller
loop-seen-smaller c = grind (arith, common_steps)
