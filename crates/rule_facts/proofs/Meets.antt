-- A graph in which the check finds nothing meets what inference asks.
use Rattle.qgm_edit_laws.proofs.Formed.{sound-checked}
use Rattle.qgm_props.proofs.Settled.{inferred-holds}
use Rattle.rule_facts.proofs.Premises.{premises}
use Rattle.rule_facts.specs.Laws.{WellFormedHolds, WellFormedMeets}

pub meets : WellFormedMeets
meets g o f tables s = premises g.boxes g.root ((sound-checked g o).0 f).0 tables s

pub holding : WellFormedHolds
holding g o f tables s fact i = inferred-holds tables g.boxes (meets g o f tables s) fact i
