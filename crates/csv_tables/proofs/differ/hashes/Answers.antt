use Rattle.std.proofs.lemmas.Grind.{common_steps}
use Rattle.std.proofs.Common.{◌∙◌, sym, arith}
use Rattle.std.proofs.lemmas.Option.{slice_get_within}
use Rattle.row_bag.specs.RowRefs.{lent}
use Rattle.row_bag.proofs.Places.{read-at}
use Rattle.csv_tables.proofs.Hashes.{hash-more, hash-none}
use Rattle.csv_tables.proofs.differ.hashes.Goals as goal
use Rattle.csv_tables.proofs.differ.hashes.Goals.{in-Some+in_ok-push, in_default}

pub loop-i-preserved : goal.loop-i-preserved
loop-i-preserved c = elim c.match-hash_of.branch [
  | in-Some+in_ok-push w ↦ rw (w.hashes-is, w.in_ok-push.ensures.items) (hash-more c.args.key.now c.args.rows.now c.loop-i.i (lent c.at.result) w.in-Some.hash c.loop-i.hashes.items (slice_get_within c.args.rows.now c.loop-i.i (lent c.at.result) c.at.ensures) (read-at c.args.rows.now c.loop-i.i (lent c.at.result) c.at.ensures) (sym c.hash_of.ensures ∙ w.in-Some.is) c.loop-i.invariant)
  | in_default w ↦ rw w.hashes-is (hash-none c.args.key.now c.args.rows.now c.loop-i.i (lent c.at.result) c.loop-i.hashes.items (slice_get_within c.args.rows.now c.loop-i.i (lent c.at.result) c.at.ensures) (read-at c.args.rows.now c.loop-i.i (lent c.at.result) c.at.ensures) (sym c.hash_of.ensures ∙ w.in_default.is) c.loop-i.invariant)
]

pub returns : goal.returns
returns c = grind (arith, common_steps)
