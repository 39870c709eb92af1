use Rattle.std.proofs.Common.{◌≡◌, ◌∙◌, List, ap, ap₂, map, sym, take}
use Rattle.row_bag.specs.Matched.{often}
use Rattle.row_bag.specs.Verdict.{those_there}
use Rattle.sql_value.specs.declared.cell.Cell.{Cell}
use Rattle.group_states.specs.declared.keyed.KeyedStates.{KeyedStates}
use Rattle.group_states.proofs.Entries.{entered-new, key, no-rows}
use Rattle.group_states.proofs.keyed.enter.Goals as goal

pub returns-in_ok-add_row-in-Some-clause-groups : goal.returns-in_ok-add_row-in-Some-clause-groups
returns-in_ok-add_row-in-Some-clause-groups c = λ rows so. c.in_ok-add_row-in-Some.ensures.groups c.args.folds.now (those_there rows) so

pub returns-in_ok-add_group-in-None-clause-groups : goal.returns-in_ok-add_group-in-None-clause-groups
returns-in_ok-add_group-in-None-clause-groups c = λ rows so.
    let n = c.args.keys in
    let groups = c.args.groups.now.items in
    let row = c.args.row.now in
    let g = c.in_ok-group-in-None.group in
    let none : often (take n row.cells) (map key groups) ≡ 0 =
    ap₂ (λ (t : List Cell) (gs : List KeyedStates). often t (map key gs)) (sym (c.first_of-key.ensures ∙ ap (take n) c.as_slice.ensures)) (sym c.as_slice-2.ensures.value) ∙ c.find.ensures.none c.in-None.is in
    rw c.in_ok-add_group-in-None.ensures.groups
    (entered-new n c.args.folds.now (those_there rows) groups row c.requires.there so g (c.in_ok-group-in-None.ensures.key ∙ c.first_of-key.ensures ∙ ap (take n) c.as_slice.ensures) c.in_ok-group-in-None.ensures.folds
    c.in_ok-group-in-None.ensures.after none (no-rows n c.args.folds.now rows groups (take n row.cells) so none))
