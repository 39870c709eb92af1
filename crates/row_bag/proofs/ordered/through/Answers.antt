use Rattle.std.proofs.Common.{◌≡◌, arith, get_or}
use Rattle.std.proofs.lemmas.Grind.{common_steps}
use Rattle.std.proofs.lemmas.List.Edits.{map_over_more}
use Rattle.row_bag.proofs.ordered.through.Goals as goal

pub loop-i-preserved : goal.loop-i-preserved
loop-i-preserved c =
    map_over_more (λ p. get_or c.args.own.now p 0) c.args.places.items c.loop-i.places.items c.loop-i.i c.index.result.now (grind (arith, common_steps)) c.loop-i.invariant c.index.ensures
