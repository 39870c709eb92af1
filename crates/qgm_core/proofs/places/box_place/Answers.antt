use Rattle.std.proofs.Common.{sym, ◌∙◌}
use Rattle.qgm_core.specs.Boxes.{is_box}
use Rattle.qgm_core.proofs.First.{is_first, is_there}
use Rattle.qgm_core.proofs.places.box_place.Goals as goal

pub unwrap-requires : goal.unwrap-requires
unwrap-requires c = rw c.find_box.ensures (is_there (is_box c.args.b) c.args.nodes.now c.requires)

pub returns-clause-first : goal.returns-clause-first
returns-clause-first c = is_first (is_box c.args.b) c.args.nodes.now c.unwrap.result (sym c.find_box.ensures ∙ c.unwrap.ensures)
