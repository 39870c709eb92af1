use Rattle.std.proofs.Common.{◌≡◌, ◌+◌, ◌*◌, ◌∙◌, ap, sym, arith}
use Rattle.generated_input.proofs.Steps.{emp-last, emp-more, rows-none}
use Rattle.generated_input.specs.Made as spec
use Rattle.generated_input.proofs.tables.emps.Goals as goal

pub loop-i-init : goal.loop-i-init
loop-i-init c =
    let z : 2 * c.args.depts ≡ 2 * c.args.depts + 3 * 0 = omega arith in
    record { rows = c.new-bag.ensures ∙ sym (rows-none (spec.emp c.args.seed c.args.depts)); last = c.requires.start ∙ ap (spec.number c.args.seed) z; bound = c.requires.bound }

pub loop-i-preserved : goal.loop-i-preserved
loop-i-preserved c = record {
  rows = emp-more c.args.seed c.args.depts c.loop-i.i c.loop-i.last c.next-first.result c.next-second.result c.next-last.result c.loop-i.bag c.push.new.self c.in_ok-row.row
      c.loop-i.invariant.rows c.loop-i.invariant.last c.next-first.ensures.value c.next-second.ensures.value c.next-last.ensures.value
      (rw (c.drawn.ensures, c.drawn-in-loop-i.ensures, c.drawn-in-loop-i-2.ensures) at c.in_ok-row.ensures) c.in_ok-push.ensures.ok;
  last = emp-last c.args.seed c.args.depts c.loop-i.i c.loop-i.last c.next-first.result c.next-second.result c.next-last.result c.loop-i.invariant.last c.next-first.ensures.value c.next-second.ensures.value c.next-last.ensures.value;
  bound = c.next-last.ensures.bound;
}
