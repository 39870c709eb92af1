use Rattle.std.proofs.Common.{[]}
use Rattle.qgm_edit_laws.proofs.Checked.{settled-from, to-checked, used-from}
use Rattle.qgm_edit_laws.proofs.Compact.{compact-bag}
use Rattle.qgm_edit_laws.proofs.Rules.{compact-keeps, keeps-chained}
use Rattle.qgm_edit_laws.proofs.Above.{binds-above}
use Rattle.qgm_edit_laws.proofs.laws.rewriting_laws.Goals as goal

pub returns-clause-bound_above : goal.returns-clause-bound_above
returns-clause-bound_above c = λ bs root w b q h. binds-above bs root w b q h

pub returns-clause-chained : goal.returns-clause-chained
returns-clause-chained c = keeps-chained

pub returns-clause-compact : goal.returns-clause-compact
returns-clause-compact c = record { keeps = λ g w. compact-keeps g w; bag = λ g w tables. compact-bag g.boxes g.root w tables [] }

pub returns-clause-from_checked : goal.returns-clause-from_checked
returns-clause-from_checked c = λ bs root o once k. (settled-from bs o root once k, used-from bs o root once k)

pub returns-clause-to_checked : goal.returns-clause-to_checked
returns-clause-to_checked c = λ bs root w. to-checked bs w.ordered root w
