use Rattle.std.proofs.Common.{ℕ, ◌≡◌, ◌<◌, ◌∙◌, List, true, false, length, ap, rules, is_some}
use Rattle.std.specs.List.{flat_map}
use Rattle.std.specs.Prelude.{slice_get, slice_index_or}
use Rattle.qgm_core.specs.Walk.{walk}
use Rattle.rule_api.specs.declared.place.Firing.{Firing}
use Rattle.rule_engine.specs.Control.{at_box, enabled}
use Rattle.rule_engine.proofs.First.{candidates-of, found-behind, found-here}
use Rattle.rule_engine.proofs.Walked.{read-held}
use Rattle.rule_engine.proofs.selection.first_candidate.Goals as goal

pub first_at_box-requires-clause-held : goal.first_at_box-requires-clause-held
first_at_box-requires-clause-held g c =
    let boxes : c.deref-b-items.result.now ≡ walk c.args.plan.now.walk c.args.graph.now = search rules in
    let within : c.loop-b.b-index < length c.deref-b-items.result.now = search rules in
    read-held c.args.plan.now.walk c.args.graph.now c.requires c.deref-b-items.result.now boxes c.loop-b.b-index within

pub returns-then-is_some : goal.returns-then-is_some
returns-then-is_some g c =
    let own : c.in_ok-rules.rules.items ≡ enabled c.args.plan.now.classes = search rules in
    let boxes : c.deref-b-items.result.now ≡ walk c.args.plan.now.walk c.args.graph.now = search rules in
    let within : c.loop-b.b-index < length c.deref-b-items.result.now = search rules in
    let f : ℕ → List Firing = at_box (g.T.Rules.pairs c.args.table.now) c.in_ok-rules.rules.items c.args.graph.now in
    let is : c.in_ok-found.found ≡ slice_get (f (slice_index_or c.deref-b-items.result.now c.loop-b.b-index 0)) 0 = search rules in
    let found : is_some c.in_ok-found.found ≡ true = search rules in
    found-here f c.loop-b.b-index c.deref-b-items.result.now 0 c.in_ok-found.found (slice_get (flat_map f c.deref-b-items.result.now) 0) within is found c.loop-b.invariant.found
    ∙ ap (λ xs. slice_get xs 0) (candidates-of (g.T.Rules.pairs c.args.table.now) c.args.plan.now c.args.graph.now c.in_ok-rules.rules.items c.deref-b-items.result.now own boxes)

pub loop-b-preserved : goal.loop-b-preserved
loop-b-preserved g c =
    let within : c.loop-b.b-index < length c.deref-b-items.result.now = search rules in
    let f : ℕ → List Firing = at_box (g.T.Rules.pairs c.args.table.now) c.in_ok-rules.rules.items c.args.graph.now in
    let is : c.in_ok-found.found ≡ slice_get (f (slice_index_or c.deref-b-items.result.now c.loop-b.b-index 0)) 0 = search rules in
    let none : is_some c.in_ok-found.found ≡ false = search rules in
    record { found = found-behind f c.loop-b.b-index c.deref-b-items.result.now 0 c.in_ok-found.found (slice_get (flat_map f c.deref-b-items.result.now) 0) within is none c.loop-b.invariant.found; known = c.in_ok-found.ensures.known }
