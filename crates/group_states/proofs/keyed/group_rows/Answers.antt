use Rattle.std.proofs.Common.{◌≡◌, ◌∙◌, ◌++◌, ◌∷◌, [], All, List, ap, append-nil, append_assoc, map, rules, subst, sym}
use Rattle.std.specs.Vec.Iter.{into_iter_items}
use Rattle.row_bag.specs.Bags.{at_yes}
use Rattle.row_bag.specs.Groups.{rows_of}
use Rattle.row_bag.proofs.Keeping.{none_left, one_less}
use Rattle.group_states.specs.Groups.{IsGroup, group_of}
use Rattle.group_states.specs.declared.keyed.KeyedStates.{KeyedStates}
use Rattle.group_states.proofs.Entries.{key, made-more}
use Rattle.group_states.proofs.keyed.group_rows.Goals as goal

pub loop-group-init : goal.loop-group-init
loop-group-init c =
    let same = c.into_iter-group-iterator.ensures.into_iter_gives.0 in
    rw same (record {
      rows = λ n folds rows all. c.new-made.ensures;
      whole = search rules;
      left = search rules;
    })

pub loop-group-preserved : goal.loop-group-preserved
loop-group-preserved c =
    let steps = c.in-Some.ensures.steps in
    record {
      rows = λ n folds rows all.
          made-more n folds rows c.loop-group.yielded c.in-Some.group c.loop-group.made c.push.new.self c.in_ok-group_row.field-0 c.in_ok-push.ensures.ok c.in_ok-group_row.ensures.level c.in_ok-group_row.ensures.cells
          (c.loop-group.invariant.rows n folds rows) all;
      whole = append_assoc c.loop-group.yielded (c.in-Some.group ∷ []) (into_iter_items c.next.new.self) ∙ ap (λ (gs : List KeyedStates). c.loop-group.yielded ++ gs) (sym steps.0) ∙ c.loop-group.invariant.whole;
      left = one_less c.in-Some.group (into_iter_items c.loop-group.group-iterator) (into_iter_items c.next.new.self) _ _ steps.0 steps.1 c.loop-group.invariant.left;
    }

pub returns : goal.returns
returns c = λ n folds rows all.
    let none : into_iter_items c.loop-group.group-iterator ≡ [] = none_left _ (sym c.loop-group.invariant.left ∙ c.in-None.ensures.steps.0) in
    let whole : c.loop-group.yielded ≡ c.args.groups.items = sym (append-nil c.loop-group.yielded) ∙ ap (λ (gs : List KeyedStates). c.loop-group.yielded ++ gs) (sym none) ∙ c.loop-group.invariant.whole in
    c.loop-group.invariant.rows n folds rows (subst (λ (gs : List KeyedStates). All (IsGroup n folds rows) gs) (sym whole) all)
    ∙ ap (λ (gs : List KeyedStates). at_yes (map (λ (g : KeyedStates). group_of n folds (key g) (rows_of n (key g) rows)) gs)) whole
