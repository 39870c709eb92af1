use Rattle.std.proofs.Common.{◌≤◌, arith}
use Rattle.qgm_term_size.proofs.Sizes.{size_positive}
use Rattle.qgm_term_size.specs.Size.{cell_size}
use Rattle.qgm_terms.specs.Shown.{term}
use Rattle.qgm_term_size.proofs.put.add_cell.Goals as goal

pub overflow_sub-result : goal.overflow_sub-result
overflow_sub-result c = let h : 1 ≤ cell_size (term c.args.x.now) = size_positive (term c.args.x.now) in omega (arith, h, c.cell_size.ensures)

pub returns : goal.returns
returns c = let h : 1 ≤ cell_size (term c.args.x.now) = size_positive (term c.args.x.now) in omega (arith, h, c.cell_size.ensures)
