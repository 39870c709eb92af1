use Rattle.std.proofs.Common.{rules}
use Rattle.row_index.proofs.Indexed.{indexed}
use Rattle.row_index.proofs.rows.index_of.Goals as goal

pub returns : goal.returns
returns c = indexed c.args.keys.now _ (search rules) c.in_ok-marks_of.ensures
