use Rattle.std.proofs.Common.{arith}
use Rattle.std.proofs.lemmas.Grind.{common_steps}
use Rattle.sql_meaning.specs.ResolvedShown as shown
use Rattle.qgm_build_terms.proofs.frames.width.Goals as goal

pub returns-in-Block : goal.returns-in-Block
returns-in-Block c = rw (c.in-Block.is, shown.values_hidden c.in-Block.list, ← c.as_slice.ensures) c.how_many.ensures

pub returns-in-Grouped : goal.returns-in-Grouped
returns-in-Grouped c = rw (c.in-Grouped.is, shown.values_hidden c.in-Grouped.list, ← c.as_slice-in-Grouped.ensures) c.how_many-in-Grouped.ensures

pub returns-in-Combine : goal.returns-in-Combine
returns-in-Combine c = grind (arith, common_steps)

pub returns-in-Intersect : goal.returns-in-Intersect
returns-in-Intersect c = grind (arith, common_steps)
