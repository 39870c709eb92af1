use Rattle.row_bag.proofs.Keying.{key-laws}
use Rattle.row_bag.proofs.laws.key_laws.Goals as goal

pub returns : goal.returns
returns c = record { keys = key-laws }
