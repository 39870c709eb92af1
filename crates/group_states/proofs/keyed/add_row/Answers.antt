use Rattle.std.proofs.Common.{◌<◌, ap, arith, length, map, refl}
use Rattle.std.proofs.Math.Seq.{map-set_same}
use Rattle.std.proofs.lemmas.List.{length-map}
use Rattle.row_bag.proofs.Indexed.{past-end}
use Rattle.group_states.specs.declared.keyed.KeyedStates.{KeyedStates}
use Rattle.group_states.proofs.Entries.{entered-found, key}
use Rattle.group_states.proofs.keyed.add_row.Goals as goal

within : (c : goal.In_ok-take_row) → c.args.place < length c.args.groups.now.items
within c =
    let size = length-map c.args.groups.now.items key in
    let low = past-end (map key c.args.groups.now.items) c.args.place _ c.requires.own in
    omega (arith, size, low)

pub returns-clause-keys : goal.returns-clause-keys
returns-clause-keys c =
    let new : KeyedStates = record { key = c.index_mut.result.now.key; states = c.take_row.new.states } in
    map-set_same key c.args.groups.now.items c.args.place new c.index_mut.result.now (ap key c.index_mut.ensures.value)

pub returns-clause-groups : goal.returns-clause-groups
returns-clause-groups c = λ folds rows so.
    let new : KeyedStates = record { key = c.index_mut.result.now.key; states = c.take_row.new.states } in
    entered-found c.args.keys folds rows c.args.groups.now.items c.args.row.now c.requires.there so c.args.place c.index_mut.result.now new (within c) c.requires.own c.index_mut.ensures.value refl c.in_ok-take_row.ensures.folds
    c.in_ok-take_row.ensures.after
