use Rattle.std.proofs.Common.{arith}
use Rattle.std.proofs.lemmas.Grind.{common_steps}
use Rattle.sql_meaning.specs.ResolvedShown as shown
use Rattle.qgm_build.proofs.reads.+reads.Goals as goal

pub test_reads-returns-in-All : goal.test_reads-returns-in-All
test_reads-returns-in-All t c = grind (arith, common_steps, shown.lists)

pub values_read-returns-then-value_reads : goal.values_read-returns-then-value_reads
values_read-returns-then-value_reads t c = grind (arith, common_steps)

pub arms_read-loop-arm-smaller : goal.arms_read-loop-arm-smaller
arms_read-loop-arm-smaller t c = grind (arith, common_steps)

pub choices_read-returns : goal.choices_read-returns
choices_read-returns t c = grind (arith, common_steps)

pub addends_read-returns-then-value_reads : goal.addends_read-returns-then-value_reads
addends_read-returns-then-value_reads t c = grind (arith, common_steps)

pub values_read-returns : goal.values_read-returns
values_read-returns t c = grind (arith, common_steps)

pub addends_read-loop-x-preserved : goal.addends_read-loop-x-preserved
addends_read-loop-x-preserved t c = grind (arith, common_steps)

pub froms_read-returns : goal.froms_read-returns
froms_read-returns t c = grind (arith, common_steps)

pub multipliers_read-returns-then-value_reads : goal.multipliers_read-returns-then-value_reads
multipliers_read-returns-then-value_reads t c = grind (arith, common_steps)

pub froms_read-loop-x-preserved : goal.froms_read-loop-x-preserved
froms_read-loop-x-preserved t c = grind (arith, common_steps)

pub choices_read-loop-choice-preserved : goal.choices_read-loop-choice-preserved
choices_read-loop-choice-preserved t c = grind (arith, common_steps)

pub froms_read-returns-then-from_reads : goal.froms_read-returns-then-from_reads
froms_read-returns-then-from_reads t c = grind (arith, common_steps)

pub multipliers_read-loop-x-smaller : goal.multipliers_read-loop-x-smaller
multipliers_read-loop-x-smaller t c = grind (arith, common_steps)

pub values_read-loop-x-preserved : goal.values_read-loop-x-preserved
values_read-loop-x-preserved t c = grind (arith, common_steps)

pub tests_read-loop-p-preserved : goal.tests_read-loop-p-preserved
tests_read-loop-p-preserved t c = grind (arith, common_steps)

pub multipliers_read-loop-x-preserved : goal.multipliers_read-loop-x-preserved
multipliers_read-loop-x-preserved t c = grind (arith, common_steps)

pub multipliers_read-returns : goal.multipliers_read-returns
multipliers_read-returns t c = grind (arith, common_steps)

pub choices_read-loop-choice-smaller : goal.choices_read-loop-choice-smaller
choices_read-loop-choice-smaller t c = grind (arith, common_steps)

pub addends_read-returns : goal.addends_read-returns
addends_read-returns t c = grind (arith, common_steps)

pub arms_read-returns : goal.arms_read-returns
arms_read-returns t c = grind (arith, common_steps)

pub tests_read-returns : goal.tests_read-returns
tests_read-returns t c = grind (arith, common_steps)

pub arms_read-loop-arm-preserved : goal.arms_read-loop-arm-preserved
arms_read-loop-arm-preserved t c = grind (arith, common_steps)

pub addends_read-loop-x-smaller : goal.addends_read-loop-x-smaller
addends_read-loop-x-smaller t c = grind (arith, common_steps)

pub tests_read-returns-then-test_reads : goal.tests_read-returns-then-test_reads
tests_read-returns-then-test_reads t c = grind (arith, common_steps)

pub reads-returns-in-Block : goal.reads-returns-in-Block
reads-returns-in-Block t c = rw (c.in-Block.is, shown.values_hidden c.in-Block.list, shown.froms_hidden c.in-Block.tables) (grind (arith, common_steps))

pub reads-returns-in-Grouped : goal.reads-returns-in-Grouped
reads-returns-in-Grouped t c = rw (c.in-Grouped.is, shown.values_hidden c.in-Grouped.list, shown.froms_hidden c.in-Grouped.tables) (grind (arith, common_steps))

pub test_reads-returns-in-Among : goal.test_reads-returns-in-Among
test_reads-returns-in-Among t c = rw (c.in-Among.is, shown.values_hidden c.in-Among.list) (grind (arith, common_steps))

pub value_reads-returns-in-Sum : goal.value_reads-returns-in-Sum
value_reads-returns-in-Sum t c = rw (c.in-Sum.is, shown.addends_hidden c.in-Sum.list) (grind (arith, common_steps))

pub value_reads-returns-in-Product : goal.value_reads-returns-in-Product
value_reads-returns-in-Product t c = rw (c.in-Product.is, shown.multipliers_hidden c.in-Product.list) (grind (arith, common_steps))

pub value_reads-returns-in-Searched : goal.value_reads-returns-in-Searched
value_reads-returns-in-Searched t c = grind (arith, common_steps, shown.lists)

pub value_reads-returns-in-Simple : goal.value_reads-returns-in-Simple
value_reads-returns-in-Simple t c = rw (c.in-Simple.is, shown.choices_hidden c.in-Simple.list) (grind (arith, common_steps))

pub value_reads-returns-in-Coalesce : goal.value_reads-returns-in-Coalesce
value_reads-returns-in-Coalesce t c = rw (c.in-Coalesce.is, shown.values_hidden c.in-Coalesce.list) (grind (arith, common_steps))
