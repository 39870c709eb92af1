use Rattle.row_bag.proofs.Binds.{keep-yes}
use Rattle.row_bag.proofs.joins.append_kept.Goals as goal

pub returns-in-Yes : goal.returns-in-Yes
returns-in-Yes c = rw (c.in-Yes.is, keep-yes) c.append.ensures
