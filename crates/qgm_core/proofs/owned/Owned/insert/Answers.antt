use Rattle.std.proofs.lemmas.Grind.{common_steps}
use Rattle.std.proofs.Common.{◌≡◌, sym, ◌∙◌, ap, List, insert, map, ℕ, arith}
use Rattle.std.specs.Prelude.{IsOk}
use Rattle.qgm_core.specs.declared.owned.OwnedQuant.{OwnedQuant}
use Rattle.qgm_core.proofs.Fresh.{map_insert, if_ok}
use Rattle.qgm_core.proofs.owned.Owned.insert.Goals as goal

pub invariant_of-self-2 : goal.invariant_of-self-2
invariant_of-self-2 c =
    let ids = λ (rs : List OwnedQuant). map (λ r. r.id) rs in
    let room = c.in_ok-reserve.ensures.ok in
    let done : IsOk c.insert-2.result = c.insert-2.ensures.succeeds (omega (arith, room)) in
    let new : c.insert-2.new.self.items ≡ insert c.reserve.new.self.items c.args.i c.args.r = if_ok c.insert-2.result _ _ _ done c.insert-2.ensures.items in
    c.in_ok-insert.ensures.ok
    ∙ ap (λ (xs : List ℕ). insert xs c.args.i c.args.r.id) c.self.invariant
    ∙ map_insert (λ (r : OwnedQuant). r.id) c.self.inside.ranges.items c.args.i c.args.r
    ∙ ap (λ (rs : List OwnedQuant). ids (insert rs c.args.i c.args.r)) (sym c.reserve.ensures.items)
    ∙ ap ids (sym new)

pub insert-requires : goal.insert-requires
insert-requires c = grind (arith, common_steps)

pub insert-requires-2 : goal.insert-requires-2
insert-requires-2 c = grind (arith, common_steps)
