use Rattle.std.proofs.lemmas.Result.{IfOk-weaker}
use Rattle.row_bag.specs.Sets.{same_cells}
use Rattle.row_bag.proofs.Counts.{alike-from_agree}
use Rattle.row_bag.proofs.TupleBags.{same_cells-decides}
use Rattle.box_exec.proofs.heads.once_if.Goals as goal

pub returns-in-Enforce : goal.returns-in-Enforce
returns-in-Enforce c = rw (c.in-Enforce.is) (IfOk-weaker c.distinct.result _ _ (λ bag h. alike-from_agree same_cells same_cells-decides h) c.distinct.ensures)
