use Rattle.std.proofs.Common.{not, rules}
use Rattle.std.proofs.lemmas.Fn.{filter_same}
use Rattle.std.specs.List.{list_any}
use Rattle.qgm_core.specs.Boxes.{is_quant}
use Rattle.box_exec.proofs.beyond.not_owned.Goals as goal

pub returns : goal.returns
returns c = filter_same _ (λ q. not (list_any (is_quant q) c.args.ranges.now)) _ (λ x b f' k. search rules) _ _ c.retain.ensures.filtered
