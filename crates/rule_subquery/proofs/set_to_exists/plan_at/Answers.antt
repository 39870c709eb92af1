use Rattle.std.proofs.Common.{◌≡◌, ◌∙◌, List, Some, length, slice_index_or, sym, ap, arith}
use Rattle.std.proofs.lemmas.Grind.{common_steps}
use Rattle.std.proofs.lemmas.Result.{IfOk-weaker}
use Rattle.qgm_core.specs.Boxes.{is_box}
use Rattle.qgm_core.specs.declared.kinds.QuantKind.TheVariants.{F}
use Rattle.qgm_core.specs.declared.owned.OwnedQuant.{OwnedQuant}
use Rattle.list_laws.specs.Lists.{first}
use Rattle.rule_subquery.specs.SetToExistsSteps.{set_plan}
use Rattle.rule_subquery.proofs.SetToExistsActs.{kind-at, no-box, not-two, planned, quants-at, two-are}
use Rattle.rule_subquery.proofs.set_to_exists.plan_at.Goals as goal
use Rattle.rule_subquery.proofs.set_to_exists.plan_at.Goals.{in_default-as_slice-via-then-as_slice-lt2, in_default-as_slice-via-else-as_slice-lt2+else-this-lt3}

abbrev none : OwnedQuant
none = record { id = 0; kind = F; over = 0 }

pub unreachable-requires : goal.unreachable-requires
unreachable-requires c = no-box c.args.place c.args.graph.now c.requires (sym (c.in_default.ensures ∙ ap (first (is_box c.args.place.at)) c.nodes.ensures))

pub unreachable-requires-in_default-kind : goal.unreachable-requires-in_default-kind
unreachable-requires-in_default-kind c =
    let k = kind-at c.args.place c.args.graph.now c.requires c.in-Some.b.now (sym (c.in-Some.ensures ∙ ap (first (is_box c.args.place.at)) c.nodes.ensures)) in
    c.in_default-kind.not-SetOp k.0 k.1.0 k.1.1

pub unreachable-requires-in_default-as_slice : goal.unreachable-requires-in_default-as_slice
unreachable-requires-in_default-as_slice c =
    let k = quants-at c.args.place c.args.graph.now c.requires c.in-Some.b.now (sym (c.in-Some.ensures ∙ ap (first (is_box c.args.place.at)) c.nodes.ensures)) in
    let n : length c.as_slice.result.now ≡ 2 = ap length c.as_slice.ensures ∙ not-two c.in-Some.b.now.quants k.0 k.1.0 k.1.1 in
    elim c.in_default-as_slice.branch [
      | in_default-as_slice-via-then-as_slice-lt2 w ↦ grind (arith, common_steps, n)
      | in_default-as_slice-via-else-as_slice-lt2+else-this-lt3 w ↦ grind (arith, common_steps, n)
    ]

pub returns : goal.returns
returns c =
    let xs : List OwnedQuant = c.as_slice.result.now in
    let found : first (is_box c.args.place.at) c.args.graph.now.boxes ≡ Some c.in-Some.b.now = sym (c.in-Some.ensures ∙ ap (first (is_box c.args.place.at)) c.nodes.ensures) in
    IfOk-weaker c.plan.result _ _ (λ m e. λ b form types l r may.
    e ∙ ap (λ w. set_plan c.in-Some.b.now c.in-SetOp.form w (slice_index_or xs 0 none) (slice_index_or xs 1 none)) c.len.ensures
    ∙ planned c.args.place c.args.graph.now b form types l r may c.in-Some.b.now found c.in-SetOp.form c.in-SetOp.types c.in-SetOp.is (slice_index_or xs 0 none) (slice_index_or xs 1 none)
    (sym c.as_slice.ensures ∙ two-are xs none none c.in-len2.len_at_least c.in-len2.len_below)) c.plan.ensures
