use Rattle.csv_tables.proofs.Hashes.{differ-risen}
use Rattle.csv_tables.proofs.differ.rows_differ.Goals as goal

pub returns : goal.returns
returns c = λ told. differ-risen c.args.key.now c.args.rows.now c.in_ok-hashes.hashes.items c.sort_unstable.new.self.items c.in_ok-hashes.ensures c.sort_unstable.ensures.permutation (rw c.deref.ensures.value at (c.rise.ensures told))
