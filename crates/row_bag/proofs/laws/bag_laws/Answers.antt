use Rattle.std.proofs.Common.{List}
use Rattle.sql_value.specs.declared.cell.Cell.{Cell}
use Rattle.row_bag.specs.Sets.{same_cells}
use Rattle.row_bag.proofs.Answered.{error-alike, sorted-alike}
use Rattle.row_bag.proofs.BagLaws.{agreeing, agreement-laws, bind-laws, kept-agreement}
use Rattle.row_bag.proofs.Counts.{alike-from_agree}
use Rattle.row_bag.proofs.TupleBags.{same_cells-decides}
use Rattle.row_bag.proofs.laws.bag_laws.Goals as goal

pub returns-clause-bind : goal.returns-clause-bind
returns-clause-bind c = bind-laws (List Cell)

pub returns-clause-agreement : goal.returns-clause-agreement
returns-clause-agreement c = agreement-laws same_cells same_cells-decides

pub returns-clause-kept : goal.returns-clause-kept
returns-clause-kept c = kept-agreement same_cells same_cells-decides

pub returns-clause-agreeing : goal.returns-clause-agreeing
returns-clause-agreeing c = agreeing same_cells same_cells-decides

pub returns-clause-error : goal.returns-clause-error
returns-clause-error c = λ xs ys h. error-alike (alike-from_agree same_cells same_cells-decides h)

pub returns-clause-sorted : goal.returns-clause-sorted
returns-clause-sorted c = λ keys xs ys h. sorted-alike keys (alike-from_agree same_cells same_cells-decides h)
