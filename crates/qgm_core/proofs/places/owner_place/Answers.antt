use Rattle.std.proofs.Common.{sym, ◌∙◌}
use Rattle.qgm_core.specs.Boxes.{owns}
use Rattle.qgm_core.proofs.First.{is_first, is_there}
use Rattle.qgm_core.proofs.places.owner_place.Goals as goal

pub unwrap-requires : goal.unwrap-requires
unwrap-requires c = rw c.find_owner.ensures (is_there (owns c.args.q) c.args.nodes.now c.requires)

pub returns : goal.returns
returns c = is_first (owns c.args.q) c.args.nodes.now c.unwrap.result (sym c.find_owner.ensures ∙ c.unwrap.ensures)
