use Rattle.std.proofs.Common.{◌∙◌, ap, ℕ}
use Rattle.std.specs.Prelude.{is_some, Option}
use Rattle.qgm_core.specs.Boxes.{owns}
use Rattle.qgm_core.proofs.First.{any_found}
use Rattle.qgm_core.proofs.places.has_quant.Goals as goal

pub returns : goal.returns
returns c = c.is_some.ensures ∙ ap (λ (o : Option ℕ). is_some o) c.find_owner.ensures ∙ any_found (owns c.args.q) c.args.nodes.now
