use Rattle.qgm_translation_laws.proofs.Joined.{valid_buildable, valid_formed}
use Rattle.qgm_translation_laws.proofs.Roots.{names_stand, valid_rows}
use Rattle.qgm_translation_laws.proofs.SchemaSources.{schema_sources, schema_sources_typed}
use Rattle.qgm_translation_laws.proofs.laws.built_laws.Goals as goal

pub returns-clause-sources : goal.returns-clause-sources
returns-clause-sources c = schema_sources_typed

pub returns-clause-formed : goal.returns-clause-formed
returns-clause-formed c = valid_formed

pub returns-clause-stand : goal.returns-clause-stand
returns-clause-stand c = names_stand

pub returns-clause-rows : goal.returns-clause-rows
returns-clause-rows c = valid_rows

pub returns-clause-said : goal.returns-clause-said
returns-clause-said c = schema_sources

pub returns-clause-buildable : goal.returns-clause-buildable
returns-clause-buildable c = valid_buildable
