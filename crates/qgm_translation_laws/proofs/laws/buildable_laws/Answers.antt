use Rattle.qgm_translation_laws.proofs.Fit.{fit_query}
use Rattle.qgm_translation_laws.proofs.Schemas.{fit_text, fit_views}
use Rattle.qgm_translation_laws.proofs.laws.buildable_laws.Goals as goal

pub returns-clause-queries : goal.returns-clause-queries
returns-clause-queries c = fit_query

pub returns-clause-texts : goal.returns-clause-texts
returns-clause-texts c = fit_text

pub returns-clause-views : goal.returns-clause-views
returns-clause-views c = fit_views
