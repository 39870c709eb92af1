use Rattle.std.proofs.Common.{arith}
use Rattle.std.proofs.lemmas.Grind.{common_steps}
use Rattle.sql_faults.proofs.checking.checked_views.Goals as goal

pub refused_view-requires-clause-views : goal.refused_view-requires-clause-views
refused_view-requires-clause-views c = grind (arith, common_steps)

pub view_heads-requires : goal.view_heads-requires
view_heads-requires c = grind (arith, common_steps)

pub refused_view-requires-clause-readers : goal.refused_view-requires-clause-readers
refused_view-requires-clause-readers c = grind (arith, common_steps)
