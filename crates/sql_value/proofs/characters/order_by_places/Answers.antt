use Rattle.std.proofs.Common.{◌≡◌, ◌∙◌, arith, length, min, sym}
use Rattle.std.proofs.lemmas.Grind.{common_steps}
use Rattle.std.specs.Ordering.{nat_cmp}
use Rattle.sql_value.specs.Characters.{listed}
use Rattle.sql_value.proofs.Listing.{ended}
use Rattle.sql_value.proofs.characters.order_by_places.Goals as goal

pub returns : goal.returns
returns c =
    let last : c.loop-place.place ≡ min (length (listed c.args.a)) (length (listed c.args.b)) = grind (arith, common_steps) in
    let lengths : c.cmp-2.result ≡ nat_cmp (length (listed c.args.a)) (length (listed c.args.b)) = grind (arith, common_steps) in
    lengths ∙ sym (ended (listed c.args.a) (listed c.args.b) c.loop-place.place last) ∙ sym c.loop-place.invariant
