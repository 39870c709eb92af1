use Rattle.std.proofs.Common.{◌∙◌, sym}
use Rattle.generated_input.proofs.Steps.{dept-last, dept-more, number-none, rows-none}
use Rattle.generated_input.specs.Made as spec
use Rattle.generated_input.proofs.tables.depts.Goals as goal

pub loop-i-init : goal.loop-i-init
loop-i-init c = record { rows = c.new-bag.ensures ∙ sym (rows-none (spec.dept c.args.seed)); last = sym (number-none c.args.seed); bound = c.requires.seed }

pub loop-i-preserved : goal.loop-i-preserved
loop-i-preserved c = record {
  rows = dept-more c.args.seed c.loop-i.i c.loop-i.last c.next-first.result c.next-last.result c.loop-i.bag c.push.new.self c.in_ok-row.row
      c.loop-i.invariant.rows c.loop-i.invariant.last c.next-first.ensures.value c.next-last.ensures.value (rw (c.drawn.ensures, c.drawn-in-loop-i.ensures) at c.in_ok-row.ensures) c.in_ok-push.ensures.ok;
  last = dept-last c.args.seed c.loop-i.i c.loop-i.last c.next-first.result c.next-last.result c.loop-i.invariant.last c.next-first.ensures.value c.next-last.ensures.value;
  bound = c.next-last.ensures.bound;
}
