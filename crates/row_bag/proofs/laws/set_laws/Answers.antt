use Rattle.row_bag.specs.Sets.{same_cells}
use Rattle.row_bag.proofs.TupleBags.{same_cells-decides}
use Rattle.row_bag.proofs.Setting.{greatest-levels, set-agreement}
use Rattle.row_bag.proofs.Some.{quantified-sets}
use Rattle.row_bag.proofs.laws.set_laws.Goals as goal

pub returns-clause-agreement : goal.returns-clause-agreement
returns-clause-agreement c = set-agreement same_cells same_cells-decides

pub returns-clause-levels : goal.returns-clause-levels
returns-clause-levels c = greatest-levels same_cells same_cells-decides

pub returns-clause-quantified : goal.returns-clause-quantified
returns-clause-quantified c = quantified-sets
