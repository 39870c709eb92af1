use Rattle.std.proofs.Common.{◌∙◌, ap, length, sym}
use Rattle.row_bag.proofs.Cutting.{cut-length}
use Rattle.row_bag.proofs.grid.Grid.len.Goals as goal

pub returns-clause-count : goal.returns-clause-count
returns-clause-count c = sym (cut-length c.self.inside.width c.self.inside.count c.self.inside.cells.items) ∙ ap length c.self.view_is
