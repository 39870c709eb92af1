use Rattle.std.proofs.lemmas.Grind.{common_steps}
use Rattle.std.proofs.Common.{◌++◌, ◌∙◌, map, ap₂, arith}
use Rattle.std.proofs.lemmas.Result.{on_ok_weaker}
use Rattle.qgm_terms.specs.Shown.{terms}
use Rattle.qgm_translation.specs.Maps.{Frame}
use Rattle.qgm_translation.specs.Shown.{argument_terms}
use Rattle.qgm_translation.specs.Sources.{Sources}
use Rattle.qgm_build_terms.specs.Folds.{leaf_of}
use Rattle.qgm_build.proofs.finish.add_arguments.Goals as goal

pub returns : goal.returns
returns c =
    on_ok_weaker c.argument_terms.result (λ h. h ∙ ap₂ (λ (z : Sources) (x : Frame). terms c.args.out.now.items ++ argument_terms z x (map leaf_of c.args.folds.now)) c.setting_of.ensures.sources c.setting_of.ensures.frame) c.argument_terms.ensures

pub argument_terms-requires : goal.argument_terms-requires
argument_terms-requires c = grind (arith, common_steps)
