use Rattle.qgm_build.proofs.Selected.{part_of}
use Rattle.qgm_build.proofs.finish.flat_parts.Goals as goal

pub returns-clause-head : goal.returns-clause-head
returns-clause-head c = part_of c.select_parts.result c.flat_head-head.result (λ made. made.head) _ c.select_parts.ensures.head c.flat_head-head.ensures

pub returns-clause-conds : goal.returns-clause-conds
returns-clause-conds c = part_of c.select_parts.result c.flat_conds-conds.result (λ made. made.conds) _ c.select_parts.ensures.conds c.flat_conds-conds.ensures.conds

pub returns-clause-spare : goal.returns-clause-spare
returns-clause-spare c = part_of c.select_parts.result c.flat_conds-conds.result (λ made. made.conds) _ c.select_parts.ensures.conds c.flat_conds-conds.ensures.spare
