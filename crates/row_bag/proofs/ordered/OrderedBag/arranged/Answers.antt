use Rattle.std.proofs.Common.{◌≡◌, ◌∙◌, ◌<◌, All, ap, get_or, length, map}
use Rattle.row_bag.specs.Places.{rows_at}
use Rattle.row_bag.proofs.Ordering.{taken-through, through-within, within-order}
use Rattle.row_bag.proofs.ordered.OrderedBag.arranged.Goals as goal

pub invariant_of-result : goal.invariant_of-result
invariant_of-result c =
    let own = c.in-Places.own.items in
    let places = c.args.places.items in
    let seen : rows_at c.self.inside.bag own ≡ c.args.self = rw c.in-Places.is at c.self.view_is in
    let low : All (λ p. p < length c.self.inside.bag) own = rw c.in-Places.is at c.self.invariant in
    let within = within-order c.self.inside.bag c.args.self own places seen c.requires in
    let made : c.through.result.items ≡ map (λ p. get_or own p 0) places = rw c.deref.ensures.value at c.through.ensures in
    rw made (through-within (length c.self.inside.bag) own places low within)

pub returns-in-Places : goal.returns-in-Places
returns-in-Places c =
    let own = c.in-Places.own.items in
    let places = c.args.places.items in
    let seen : rows_at c.self.inside.bag own ≡ c.args.self = rw c.in-Places.is at c.self.view_is in
    let within = within-order c.self.inside.bag c.args.self own places seen c.requires in
    let made : c.through.result.items ≡ map (λ p. get_or own p 0) places = rw c.deref.ensures.value at c.through.ensures in
    ap (rows_at c.self.inside.bag) made ∙ taken-through c.self.inside.bag own places within ∙ ap (λ rows. rows_at rows places) seen
