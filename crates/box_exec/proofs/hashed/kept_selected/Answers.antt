use Rattle.std.proofs.Common.{List, arith, filter, subst, sym, ◌≡◌, ◌∙◌}
use Rattle.std.specs.Prelude.{IfOk}
use Rattle.std.proofs.lemmas.Result.{IfOk-weaker}
use Rattle.row_bag.specs.Bags.{Alike}
use Rattle.qgm_core.specs.Kinds.{is_enforce}
use Rattle.qgm_core.specs.declared.owned.OwnedQuant.{OwnedQuant}
use Rattle.qgm_meaning.specs.Meaning.{once_if}
use Rattle.box_exec.specs.Bound.{env_of}
use Rattle.box_exec.specs.Costs.{Between}
use Rattle.box_exec.specs.Lasting.{IsOrder}
use Rattle.box_exec.specs.Sought.{AllSought}
use Rattle.box_exec.specs.Taken.{ways}
use Rattle.box_exec.specs.Takings.{keys_by, order_by}
use Rattle.box_exec.proofs.Takings.{order-none, order-some}
use Rattle.box_exec.specs.Plans.{family, ranges, stored, tables_of}
use Rattle.box_exec.specs.Ready.{SubsOf, isnt_F, over_left}
use Rattle.box_exec.specs.declared.order.Order.{Order}
use Rattle.box_exec.specs.declared.source.Sub.{Sub}
use Rattle.box_exec.proofs.Quantifiers.{bound-of}
use Rattle.box_exec.proofs.hashed.kept_selected.Goals as goal

pub bound_in_order-requires-clause-bound : goal.bound_in_order-requires-clause-bound
bound_in_order-requires-clause-bound c = bound-of c.args.at.now c.requires.planned

pub bound_in_order-requires-clause-subs : goal.bound_in_order-requires-clause-subs
bound_in_order-requires-clause-subs c = λ e.
    let at = c.args.at.now in
    subst (λ (ss : List Sub). SubsOf (family at) e (filter isnt_F at.node.now.quants) ss) (sym c.deref.ensures.value)
    (subst (λ (rs : List OwnedQuant). SubsOf (family at) e (filter isnt_F rs) c.in_ok-subs.subs.items) c.requires.planned.ranged (c.in_ok-subs.ensures e))

pub reordered_selected-requires-clause-subs : goal.reordered_selected-requires-clause-subs
reordered_selected-requires-clause-subs c = λ e.
    let at = c.args.at.now in
    subst (λ (ss : List Sub). SubsOf (family at) e (filter isnt_F at.node.now.quants) ss) (sym c.deref-in-len1-up.ensures.value)
    (subst (λ (rs : List OwnedQuant). SubsOf (family at) e (filter isnt_F rs) c.in_ok-subs.subs.items) c.requires.planned.ranged (c.in_ok-subs.ensures e))

pub reordered_selected-requires-clause-order : goal.reordered_selected-requires-clause-order
reordered_selected-requires-clause-order c =
    let at = c.args.at.now in
    let o = c.order-item.result in
    let many = c.in-len1-up.len_at_least in
    subst (λ (x : Order). IsOrder at.node.now (stored at) x) (sym c.order-item.is) (c.requires.planned.orders 0 o (omega (arith, many)))

pub returns-clause-rows : goal.returns-clause-rows
returns-clause-rows c =
    let at = c.args.at.now in
    IfOk-weaker c.bound_in_order.result _ _
    (λ bag h. subst (λ (rs : List OwnedQuant). Alike bag (once_if (is_enforce at.node.now.parts.distinct) (over_left (tables_of at) at.node.now at.below.now rs (env_of c.args.env.now)))) c.requires.planned.ranged h) c.bound_in_order.ensures.rows

pub returns-in-len1-up-clause-rows : goal.returns-in-len1-up-clause-rows
returns-in-len1-up-clause-rows c =
    let at = c.args.at.now in
    IfOk-weaker c.reordered_selected.result _ _
    (λ bag h. subst (λ (rs : List OwnedQuant). Alike bag (once_if (is_enforce at.node.now.parts.distinct) (over_left (tables_of at) at.node.now at.below.now rs (env_of c.args.env.now)))) c.requires.planned.ranged h) c.reordered_selected.ensures.rows

pub returns-clause-took : goal.returns-clause-took
returns-clause-took c = λ kept seeks select.
    let at = c.args.at.now in
    let env = env_of c.args.env.now in
    let here = seeks.here select in
    let none = order-none at.node.now at.keyed.now at.orders.now c.in-empty.len_below in
    let text : ranges at.loops.now ≡ order_by at.node.now at.orders.now = c.requires.planned.ranged ∙ sym none.0 in
    let sought : AllSought at.node.now (ranges at.loops.now) at.keyed.now =
    subst (AllSought at.node.now (ranges at.loops.now)) none.1 (subst (λ (rs : List OwnedQuant). AllSought at.node.now rs (keys_by at.keyed.now at.orders.now)) (sym text) here.keys) in
    subst (λ (rs : List OwnedQuant). IfOk c.bound_in_order.result (λ bag. Between 0 (ways kept at.node.now rs (family at) env) c.args.taken.now c.bound_in_order.new.taken)) (text ∙ here.order) (c.bound_in_order.ensures.took kept sought)

pub returns-in-len1-up-clause-took : goal.returns-in-len1-up-clause-took
returns-in-len1-up-clause-took c = λ kept seeks select.
    let at = c.args.at.now in
    let env = env_of c.args.env.now in
    let here = seeks.here select in
    let many = c.in-len1-up.len_at_least in
    let o = c.order-item.result in
    let some = order-some at.node.now at.keyed.now at.orders.now o (omega (arith, many)) c.order-item.is in
    let sought : AllSought at.node.now o.ranges.items o.keyed.items =
    subst (AllSought at.node.now o.ranges.items) some.1 (subst (λ (rs : List OwnedQuant). AllSought at.node.now rs (keys_by at.keyed.now at.orders.now)) some.0 here.keys) in
    subst (λ (rs : List OwnedQuant). IfOk c.reordered_selected.result (λ bag. Between 0 (ways kept at.node.now rs (family at) env) c.args.taken.now c.reordered_selected.new.taken)) (sym some.0 ∙ here.order) (c.reordered_selected.ensures.took kept seeks sought)
