use Rattle.std.proofs.Common.{ap, ◌+◌, ℕ, arith}
use Rattle.std.proofs.lemmas.Result.{on_ok_weaker}
use Rattle.sql_names.proofs.Meant.{ranges_meant}
use Rattle.std.proofs.lemmas.Grind.{common_steps}
use Rattle.sql_names.proofs.grouping.+push_all_meant.Goals as goal

pub returns-in_ok-push_meant-in-Some : goal.returns-in_ok-push_meant-in-Some
returns-in_ok-push_meant-in-Some t c =
    on_ok_weaker c.push_all_meant.result
    (ranges_meant c.args.first (c.args.first + c.len.result) c.args.d.now c.args.ranges.now c.in-Some.range.now c.in-Some.rest.now c.args.out.now c.push_meant.new.out c.push_all_meant.new.out
    c.in-Some.ensures.cases.0 (ap (λ (n : ℕ). c.args.first + n) c.len.ensures) c.in_ok-push_meant-in-Some.ensures)
    c.push_all_meant.ensures

pub overflow_add-first : goal.overflow_add-first
overflow_add-first t c = grind (arith, common_steps)

pub push_all_meant-requires : goal.push_all_meant-requires
push_all_meant-requires t c = grind (arith, common_steps)

pub returns-in-None : goal.returns-in-None
returns-in-None t c = grind (arith, common_steps)

pub push_meant-requires : goal.push_meant-requires
push_meant-requires t c = grind (arith, common_steps)
