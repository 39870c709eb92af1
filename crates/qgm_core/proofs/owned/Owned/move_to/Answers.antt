use Rattle.std.proofs.Common.{◌≡◌, sym, ◌∙◌, ap, List, ℕ, insert, map, arith, get_or}
use Rattle.std.specs.Prelude.{IsOk}
use Rattle.std.specs.List.{remove}
use Rattle.std.proofs.Math.ListN.{get_or-map}
use Rattle.qgm_core.specs.declared.owned.OwnedQuant.{OwnedQuant}
use Rattle.qgm_core.proofs.Fresh.{if_ok, map_insert, map_remove}
use Rattle.std.proofs.lemmas.Grind.{common_steps}
use Rattle.qgm_core.proofs.owned.Owned.move_to.Goals as goal

pub invariant_of-self : goal.invariant_of-self
invariant_of-self c =
    let id = λ (r : OwnedQuant). r.id in
    let rs = c.self.inside.ranges.items in
    let i = c.range_place-i.result in
    let r : OwnedQuant = c.remove-range.result in
    let len = c.remove-range.ensures.len in
    let room = c.remove-range.ensures.capacity in
    let done : IsOk c.insert.result = c.insert.ensures.succeeds (omega (arith, len, room, c.self.inside.ranges.ok)) in
    let new : c.insert.new.self.items ≡ insert c.remove-range.new.self.items c.args.j r = if_ok c.insert.result _ _ _ done c.insert.ensures.items in
    c.move_to.ensures (id r)
    ∙ ap (λ (qs : List ℕ). insert (remove qs i) c.args.j (get_or qs i (id r))) c.self.invariant
    ∙ ap (λ (q : ℕ). insert (remove (map id rs) i) c.args.j q) (get_or-map id rs i r ∙ ap id (sym c.remove-range.ensures.value))
    ∙ ap (λ (qs : List ℕ). insert qs c.args.j (id r)) (map_remove id rs i ∙ ap (λ (xs : List OwnedQuant). map id xs) (sym c.remove-range.ensures.items))
    ∙ map_insert id c.remove-range.new.self.items c.args.j r
    ∙ ap (λ (xs : List OwnedQuant). map id xs) (sym new)

pub move_to-requires-clause-from : goal.move_to-requires-clause-from
move_to-requires-clause-from c = grind (arith, common_steps)

pub move_to-requires-clause-to : goal.move_to-requires-clause-to
move_to-requires-clause-to c = grind (arith, common_steps)
