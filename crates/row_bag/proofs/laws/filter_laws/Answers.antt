use Rattle.row_bag.specs.Sets.{same_cells}
use Rattle.row_bag.proofs.TupleBags.{same_cells-decides}
use Rattle.row_bag.proofs.Filtering.{filter-laws}
use Rattle.row_bag.proofs.laws.filter_laws.Goals as goal

pub returns : goal.returns
returns c = record { filters = filter-laws same_cells same_cells-decides }
