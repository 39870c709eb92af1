use Rattle.std.proofs.Common.{[], refl}
use Rattle.qgm_translation.proofs.laws.shown_laws.Goals as goal
use Rattle.qgm_translation.specs.Shown.{of_query}
use Rattle.qgm_translation.proofs.Boxes.{agree}
use Rattle.qgm_translation.proofs.Counted.{operand-shown, shown-counted}
use Rattle.qgm_translation.proofs.Loose.{shown-clear}
use Rattle.qgm_translation.proofs.Stand.{names-stand}
use Rattle.qgm_translation.proofs.Views.{stand}
use Rattle.qgm_translation.proofs.Wide.{wide-all}

pub returns-clause-agrees : goal.returns-clause-agrees
returns-clause-agrees c = λ tables known sources stands boxes b query m shows env. agree tables known sources (λ name. wide-all (sources.columns name) (known name) (stands.wide name)) stands.views boxes b (of_query query) m shows env

pub returns-clause-root : goal.returns-clause-root
returns-clause-root c = λ tables known sources stands query names order g built. agree tables known sources (λ name. wide-all (sources.columns name) (known name) (stands.wide name)) stands.views g.boxes g.root (of_query query) [] built.shows []

pub returns-clause-looks : goal.returns-clause-looks
returns-clause-looks c = λ sources boxes b query m shows q h. shown-clear sources q boxes b (of_query query) m shows h

pub returns-clause-closed : goal.returns-clause-closed
returns-clause-closed c = λ sources query names order g built q. shown-clear sources q g.boxes g.root (of_query query) [] built.shows refl

pub returns-clause-views : goal.returns-clause-views
returns-clause-views c = λ views tables deep depth nests l name. stand views tables deep depth nests l name

pub returns-clause-columns : goal.returns-clause-columns
returns-clause-columns c = record { query = shown-counted; operand = operand-shown }

pub returns-clause-names : goal.returns-clause-names
returns-clause-names c = λ views tables deep depth sources are filled. names-stand views tables deep depth sources are filled
