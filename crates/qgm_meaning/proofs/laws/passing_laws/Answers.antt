use Rattle.row_bag.specs.Sets.{same_cells}
use Rattle.row_bag.proofs.Counts.{agree-from_alike}
use Rattle.qgm_meaning.proofs.Fed.{fed-rows}
use Rattle.qgm_meaning.proofs.Filters.{groups-pass, outer-passes, sets-pass}
use Rattle.qgm_meaning.proofs.Keys.{distinct-goes}
use Rattle.qgm_meaning.proofs.Permitted.{distinct-permitted}
use Rattle.qgm_meaning.proofs.Tags.{group-tagged, groups-tagged}
use Rattle.qgm_meaning.proofs.laws.passing_laws.Goals as goal

pub returns-clause-distinct_goes : goal.returns-clause-distinct_goes
returns-clause-distinct_goes c = λ tables g b p conds head quants columns o held key x hx env fit. distinct-goes tables g b p conds head quants columns o held key x hx env fit

pub returns-clause-sets_pass : goal.returns-clause-sets_pass
returns-clause-sets_pass c = sets-pass

pub returns-clause-groups_pass : goal.returns-clause-groups_pass
returns-clause-groups_pass c = λ k head q env rows level long none decided. agree-from_alike same_cells (groups-pass k head q env rows level long none decided)

pub returns-clause-outer_passes : goal.returns-clause-outer_passes
returns-clause-outer_passes c = outer-passes

pub returns-clause-groups_tagged : goal.returns-clause-groups_tagged
returns-clause-groups_tagged c = groups-tagged

pub returns-clause-group_tagged : goal.returns-clause-group_tagged
returns-clause-group_tagged c = group-tagged

pub returns-clause-fed_rows : goal.returns-clause-fed_rows
returns-clause-fed_rows c = fed-rows

pub returns-clause-distinct_permitted : goal.returns-clause-distinct_permitted
returns-clause-distinct_permitted c = distinct-permitted
