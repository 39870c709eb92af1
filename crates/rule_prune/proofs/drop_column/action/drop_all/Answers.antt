use Rattle.std.proofs.Common.{ℕ, ◌+◌, ◌∷◌, ◌∙◌, List, drop, slice_index_or, sym, ap, subst, inr}
use Rattle.list_laws.specs.Lists.{EachOnce, In}
use Rattle.rule_prune.specs.Unnamed.{dropped_all}
use Rattle.rule_prune.proofs.Dropping.{drop-at, other-once}
use Rattle.rule_prune.proofs.drop_column.action.drop_all.Goals as goal

pub loop-q-preserved : goal.loop-q-preserved
loop-q-preserved c =
    let i : ℕ = c.loop-q.q-index in
    let list : List ℕ = c.args.list.now in
    let e = drop-at c.args.list.now c.loop-q.q-index c.loop-q-test.true in
    let once : EachOnce (slice_index_or c.args.list.now c.loop-q.q-index 0 ∷ drop (c.loop-q.q-index + 1) c.args.list.now) = subst (λ z. EachOnce z) e c.loop-q.invariant.once in
    record {
      rest = ap (dropped_all (drop (c.loop-q.q-index + 1) c.args.list.now)) c.drop_quant.ensures.graph ∙ sym (ap (λ z. dropped_all z c.loop-q.graph) e) ∙ c.loop-q.invariant.rest;
      held = λ q j. c.drop_quant.ensures.others q (other-once (slice_index_or c.args.list.now c.loop-q.q-index 0) q (drop (c.loop-q.q-index + 1) c.args.list.now) once j) (c.loop-q.invariant.held q (subst (λ z. In q z) (sym e) (inr j)));
      once = once.1;
    }
