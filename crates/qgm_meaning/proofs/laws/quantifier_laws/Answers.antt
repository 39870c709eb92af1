use Rattle.row_bag.specs.Sets.{same_cells}
use Rattle.row_bag.proofs.Counts.{agree-from_alike}
use Rattle.qgm_meaning.proofs.Gone.{one-row_goes}
use Rattle.qgm_meaning.proofs.Quantifiers.{combinations, moves, moves-before, moves-behind}
use Rattle.qgm_meaning.proofs.laws.quantifier_laws.Goals as goal

pub returns-clause-combinations : goal.returns-clause-combinations
returns-clause-combinations c = combinations

pub returns-clause-moves : goal.returns-clause-moves
returns-clause-moves c = λ tables s b p d conds head us r vs ws env looks apart. agree-from_alike same_cells (moves s looks tables b p d conds head us r vs ws env apart)

pub returns-clause-behind : goal.returns-clause-behind
returns-clause-behind c = λ tables g b p d conds head us r vs ws o held h x hx env. moves-behind tables g b p d conds head us r vs ws o held h x hx env

pub returns-clause-before : goal.returns-clause-before
returns-clause-before c = λ tables g b p d conds head us r vs ws o held h x hx env. moves-before tables g b p d conds head us r vs ws o held h x hx env

pub returns-clause-one_row_goes : goal.returns-clause-one_row_goes
returns-clause-one_row_goes c = one-row_goes
