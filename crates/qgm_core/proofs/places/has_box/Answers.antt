use Rattle.std.proofs.Common.{◌∙◌, ap, ℕ}
use Rattle.std.specs.Prelude.{is_some, Option}
use Rattle.qgm_core.specs.Boxes.{is_box}
use Rattle.qgm_core.proofs.First.{any_found}
use Rattle.qgm_core.proofs.places.has_box.Goals as goal

pub returns : goal.returns
returns c = c.is_some.ensures ∙ ap (λ (o : Option ℕ). is_some o) c.find_box.ensures ∙ any_found (is_box c.args.b) c.args.nodes.now
