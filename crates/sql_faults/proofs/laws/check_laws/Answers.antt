use Rattle.sql_faults.proofs.Catalogs.{same_columns, typed_tables, valid_text, valid_views}
use Rattle.sql_faults.proofs.Evens.{even_query}
use Rattle.sql_faults.proofs.FoundCells.{found_some}
use Rattle.sql_faults.proofs.Founds.{found_text, found_valid}
use Rattle.sql_faults.proofs.Named.{names_same}
use Rattle.sql_faults.proofs.KnownTypes.{valid_typed}
use Rattle.sql_faults.proofs.laws.check_laws.Goals as goal

pub returns-clause-names : goal.returns-clause-names
returns-clause-names c = names_same

pub returns-clause-tables : goal.returns-clause-tables
returns-clause-tables c = same_columns

pub returns-clause-even : goal.returns-clause-even
returns-clause-even c = even_query

pub returns-clause-types : goal.returns-clause-types
returns-clause-types c = valid_typed

pub returns-clause-views : goal.returns-clause-views
returns-clause-views c = valid_views

pub returns-clause-typed_tables : goal.returns-clause-typed_tables
returns-clause-typed_tables c = typed_tables

pub returns-clause-text : goal.returns-clause-text
returns-clause-text c = valid_text

pub returns-clause-found : goal.returns-clause-found
returns-clause-found c = found_valid

pub returns-clause-found_text : goal.returns-clause-found_text
returns-clause-found_text c = found_text

pub returns-clause-cells : goal.returns-clause-cells
returns-clause-cells c = found_some
