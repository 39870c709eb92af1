use Rattle.qgm_term_size.proofs.PutLevels.{cell-deepest, cell-levels, cond-deepest, cond-levels}
use Rattle.qgm_term_size.proofs.PutSizes.{put-cell, put-cond}
use Rattle.qgm_term_size.proofs.laws.put_laws.Goals as goal

pub returns-clause-cell_size : goal.returns-clause-cell_size
returns-clause-cell_size c = λ q cells x. put-cell q cells x

pub returns-clause-cond_size : goal.returns-clause-cond_size
returns-clause-cond_size c = λ q cells x. put-cond q cells x

pub returns-clause-cell_levels : goal.returns-clause-cell_levels
returns-clause-cell_levels c = λ q cells x. cell-levels q cells x

pub returns-clause-cond_levels : goal.returns-clause-cond_levels
returns-clause-cond_levels c = λ q cells x. cond-levels q cells x

pub returns-clause-cell_deepest : goal.returns-clause-cell_deepest
returns-clause-cell_deepest c = λ q cells x. cell-deepest q cells x

pub returns-clause-cond_deepest : goal.returns-clause-cond_deepest
returns-clause-cond_deepest c = λ q cells x. cond-deepest q cells x
