-- What queries see as they are made into boxes.
use Rattle.qgm_translation.specs.Sources.{Sources}
use Rattle.qgm_build_terms.specs.Setting.{known_with}
use Rattle.qgm_build_terms.specs.declared.setting.Site.{Site}

abbrev pub sources_at : Site → Sources
sources_at g = known_with g.known g.rows.now
