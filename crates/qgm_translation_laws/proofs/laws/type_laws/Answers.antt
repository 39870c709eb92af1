use Rattle.qgm_translation_laws.proofs.Sampled.{sampled}
use Rattle.qgm_translation_laws.proofs.TypingSchemas.{query_has_types, sources_typed, text_has_types, views_have_types}
use Rattle.qgm_translation_laws.proofs.laws.type_laws.Goals as goal

pub returns-clause-queries : goal.returns-clause-queries
returns-clause-queries c = query_has_types

pub returns-clause-texts : goal.returns-clause-texts
returns-clause-texts c = text_has_types

pub returns-clause-views : goal.returns-clause-views
returns-clause-views c = views_have_types

pub returns-clause-sampled : goal.returns-clause-sampled
returns-clause-sampled c = sampled

pub returns-clause-sources : goal.returns-clause-sources
returns-clause-sources c = sources_typed
