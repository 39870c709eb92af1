use Rattle.rule_api.specs.PickLaws.{cross_ascending, cross_exact, grid_ascending, grid_exact, once_ascending, once_exact, picks_ascending, picks_exact}
use Rattle.rule_api.proofs.laws.place_laws.Goals as goal

pub returns-clause-once : goal.returns-clause-once
returns-clause-once c = record { exact = once_exact; ascends = once_ascending }

pub returns-clause-picks : goal.returns-clause-picks
returns-clause-picks c = record { exact = λ t. picks_exact t; ascends = λ t. picks_ascending t }

pub returns-clause-grid : goal.returns-clause-grid
returns-clause-grid c = record { exact = λ t. grid_exact t; ascends = λ t. grid_ascending t }

pub returns-clause-cross : goal.returns-clause-cross
returns-clause-cross c = record { exact = λ t all. cross_exact t all; ascends = λ t all. cross_ascending t all }
