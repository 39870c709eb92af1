use Rattle.std.proofs.Common.{◌∙◌, ap, ℕ}
use Rattle.std.specs.Prelude.{is_some, Option}
use Rattle.qgm_core.specs.Boxes.{is_quant}
use Rattle.qgm_core.proofs.First.{any_found}
use Rattle.qgm_core.proofs.owned.has_range.Goals as goal

pub returns : goal.returns
returns c = c.is_some.ensures ∙ ap (λ (o : Option ℕ). is_some o) c.find_range.ensures ∙ any_found (is_quant c.args.q) c.args.ranges.now
