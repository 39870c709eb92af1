use Rattle.qgm_translation_laws.proofs.Satisfied.{are_tables, loaded_satisfies}
use Rattle.qgm_translation_laws.proofs.loaded.loaded_laws.Goals as goal

pub returns-clause-tables : goal.returns-clause-tables
returns-clause-tables c = are_tables

pub returns-clause-satisfied : goal.returns-clause-satisfied
returns-clause-satisfied c = loaded_satisfies
