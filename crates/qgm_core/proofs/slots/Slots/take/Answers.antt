use Rattle.std.proofs.Common.{◌≡◌, ◌+◌, ◌∷◌, [], ◌∙◌, ap, sym, subst, length, arith}
use Rattle.qgm_core.specs.Boxes.{numbers}
use Rattle.qgm_core.specs.Slots.{EachSlotOnce, SlotTable, slot_times}
use Rattle.list_laws.specs.Lists.{times}
use Rattle.qgm_core.proofs.Slotted.{last-slot, times-last}
use Rattle.qgm_core.proofs.slots.Slots.take.Goals as goal

pub returns-in-Some-clause-within : goal.returns-in-Some-clause-within
returns-in-Some-clause-within c =
    let b = c.in-Some.b in
    let h = subst (λ (t : SlotTable). EachSlotOnce t c.args.nodes.now) (sym c.self.view_is) c.requires.once b in
    last-slot c.self.inside.vacant.items c.pop.new.self.items b (length c.self.inside.lists.items) (times b (numbers c.args.nodes.now)) c.in-Some.ensures.items h

pub returns-in-Some-clause-vacant : goal.returns-in-Some-clause-vacant
returns-in-Some-clause-vacant c = λ x.
    let b = c.in-Some.b in
    let e : times x c.args.self.now.vacant ≡ times x c.pop.new.self.items + times x (b ∷ []) = ap (λ (t : SlotTable). times x t.vacant) (sym c.self.view_is) ∙ ap (times x) c.in-Some.ensures.items ∙ times-last x c.pop.new.self.items b in
    let s : slot_times x c.args.self.now ≡ slot_times x (record { uses = c.self.inside.uses.items; lists = c.self.inside.lists.items; vacant = c.self.inside.vacant.items }) = ap (λ (t : SlotTable). slot_times x t) (sym c.self.view_is) in
    omega (arith, e, s)
