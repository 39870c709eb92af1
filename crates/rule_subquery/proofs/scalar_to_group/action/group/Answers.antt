use Rattle.std.proofs.Common.{◌≡◌, ◌∙◌, Some, ap, subst, sym, arith}
use Rattle.std.proofs.lemmas.Grind.{common_steps}
use Rattle.qgm_core.specs.Boxes.{HasBox, QueryGraph, bare_box}
use Rattle.qgm_core.specs.Edits.{drop_box, with_box}
use Rattle.qgm_core.specs.Held.{HasAll}
use Rattle.rule_subquery.specs.ScalarToGroupSteps.{CanFill, with_group}
use Rattle.rule_subquery.proofs.ScalarToGroupActs.{can-fill, group-gone, held}
use Rattle.rule_subquery.proofs.scalar_to_group.action.group.Goals as goal

pub add_box-requires : goal.add_box-requires
add_box-requires c = held c.args.graph.now c.args.b c.args.r c.requires

pub fill-filled-requires : goal.fill-filled-requires
fill-filled-requires c =
    let g = c.args.graph.now in
    let group = c.in_ok-group.group in
    let e : c.add_box.new.self ≡ with_group c.args.b group g = c.in_ok-group.ensures.ok ∙ ap (λ p. with_box (Some c.args.b) (bare_box group p) g) c.empty_group.ensures in
    subst (λ (z : QueryGraph). CanFill z group c.args.r) (sym e)
    (can-fill g c.args.b c.args.r c.requires group c.in_ok-group.ensures.fresh (subst (λ (z : QueryGraph). HasAll g z) e c.add_box.ensures.kept) (subst (λ (z : QueryGraph). HasBox group z) e c.in_ok-group.ensures.held))

pub returns-then-is_err-clause-err : goal.returns-then-is_err-clause-err
returns-then-is_err-clause-err c =
    let g = c.args.graph.now in
    let group = c.in_ok-group.group in
    let e : c.add_box.new.self ≡ with_group c.args.b group g = c.in_ok-group.ensures.ok ∙ ap (λ p. with_box (Some c.args.b) (bare_box group p) g) c.empty_group.ensures in
    let gone : drop_box group c.add_box.new.self ≡ g = ap (drop_box group) e ∙ group-gone g c.args.b c.args.r c.requires group c.in_ok-group.ensures.fresh in
    grind (arith, common_steps, gone)
