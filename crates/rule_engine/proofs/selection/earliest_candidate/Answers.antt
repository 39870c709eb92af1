use Rattle.std.proofs.lemmas.Grind.{common_steps}
use Rattle.std.proofs.Common.{ℕ, ◌≡◌, ◌<◌, ◌++◌, ◌∙◌, List, true, length, sym, ap, rules, arith}
use Rattle.std.specs.Prelude.{slice_index_or}
use Rattle.qgm_core.specs.Walk.{walk}
use Rattle.rule_api.specs.declared.place.Firing.{Firing}
use Rattle.rule_engine.specs.Control.{at_box, earliest, enabled, ranks_first}
use Rattle.rule_engine.proofs.First.{candidates-of, stop-at}
use Rattle.rule_engine.proofs.Walked.{read-held}
use Rattle.rule_engine.proofs.selection.earliest_candidate.Goals as goal

pub add_box-requires-clause-held : goal.add_box-requires-clause-held
add_box-requires-clause-held g c =
    let boxes : c.deref-b-items.result.now ≡ walk c.args.plan.now.walk c.args.graph.now = search rules in
    let within : c.loop-b.b-index < length c.deref-b-items.result.now = search rules in
    read-held c.args.plan.now.walk c.args.graph.now c.requires c.deref-b-items.result.now boxes c.loop-b.b-index within

pub returns-then-ranks_first : goal.returns-then-ranks_first
returns-then-ranks_first g c =
    let own : c.in_ok-rules.rules.items ≡ enabled c.args.plan.now.classes = search rules in
    let boxes : c.deref-b-items.result.now ≡ walk c.args.plan.now.walk c.args.graph.now = search rules in
    let within : c.loop-b.b-index < length c.deref-b-items.result.now = search rules in
    let f : ℕ → List Firing = at_box (g.T.Rules.pairs c.args.table.now) c.in_ok-rules.rules.items c.args.graph.now in
    let added : c.deref-in-loop-b.result.now ≡ c.loop-b.out.items ++ f (slice_index_or c.deref-b-items.result.now c.loop-b.b-index 0) = search rules in
    let first : ranks_first c.in_ok-rules.rules.items c.earliest-found.result ≡ true = search rules in
    c.earliest-found.ensures
    ∙ stop-at (g.T.Rules.pairs c.args.table.now) c.in_ok-rules.rules.items c.args.graph.now c.loop-b.b-index c.deref-b-items.result.now c.loop-b.out.items c.deref-in-loop-b.result.now
    within c.loop-b.invariant.found added (ap (ranks_first c.in_ok-rules.rules.items) (sym c.earliest-found.ensures) ∙ first)
    ∙ ap earliest (candidates-of (g.T.Rules.pairs c.args.table.now) c.args.plan.now c.args.graph.now c.in_ok-rules.rules.items c.deref-b-items.result.now own boxes)

pub loop-b-preserved : goal.loop-b-preserved
loop-b-preserved g c = grind (arith, common_steps)
