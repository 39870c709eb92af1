use Rattle.std.proofs.Common.{All, ap, subst, sym, ◌∙◌, ◌≡◌}
use Rattle.box_exec.specs.Lasting.{rows_kept, rows_stored}
use Rattle.box_exec.specs.Plans.{ranges}
use Rattle.box_exec.specs.Sought.{OpensAs}
use Rattle.box_exec.specs.declared.under.Loop.{Loop}
use Rattle.box_exec.proofs.memo.plan_if.Goals as goal

pub plan_of-requires : goal.plan_of-requires
plan_of-requires c =
    let memo = c.args.run.now.memo.now in
    let below = c.args.below.now in
    record {
      ready = c.requires;
      ranged = ap ranges c.deref.ensures.value ∙ c.in_ok-loops.ensures.ranges ∙ c.as_slice.ensures;
      kept = subst (All (λ (l : Loop). rows_kept l.under ≡ rows_stored memo below l.range.over)) (sym c.deref.ensures.value) c.in_ok-loops.ensures.kept;
    }

pub returns-clause-seeks : goal.returns-clause-seeks
returns-clause-seeks c = λ kept indexed keeps ordered. λ select.
    let memo = c.args.run.now.memo.now in
    let below = c.args.below.now in
    c.in_ok-plan.ensures.seeks kept indexed keeps ordered (subst (All (λ (l : Loop). OpensAs memo below l.range.over l.under)) (sym c.deref.ensures.value) c.in_ok-loops.ensures.opens) select
