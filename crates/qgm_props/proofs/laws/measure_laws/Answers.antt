use Rattle.qgm_props.proofs.Lowering.{absorb-lowers, feed-lowers, single-lowers}
use Rattle.qgm_props.proofs.MeasureLaws.{measure-bound, measure-falls}
use Rattle.qgm_props.proofs.NeverNegative.{never-negative}
use Rattle.qgm_props.proofs.laws.measure_laws.Goals as goal

pub returns-clause-never_negative : goal.returns-clause-never_negative
returns-clause-never_negative c = never-negative

pub returns-clause-falls : goal.returns-clause-falls
returns-clause-falls c = measure-falls

pub returns-clause-bound : goal.returns-clause-bound
returns-clause-bound c = measure-bound

pub returns-clause-fed : goal.returns-clause-fed
returns-clause-fed c = feed-lowers

pub returns-clause-absorbed : goal.returns-clause-absorbed
returns-clause-absorbed c = absorb-lowers

pub returns-clause-singled : goal.returns-clause-singled
returns-clause-singled c = single-lowers
