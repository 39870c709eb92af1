-- The parts of queries and operands that are made one by one.
use Rattle.std.specs.Prelude.{Bool, true, false, List}
use Rattle.sql_meaning.specs.ResolvedTrees as q
use Rattle.sql_meaning.specs.ResolvedTrees.{From, Query}
use Rattle.qgm_core.specs.declared.owned.OwnedQuant.{OwnedQuant}
use Rattle.qgm_translation.specs.Lay.{Step, in_turn, none}
use Rattle.qgm_translation.specs.Maps.{Frame}
use Rattle.qgm_build.specs.Laying.{block_subs, list_step, rows_subs, test_step}
use Rattle.qgm_build_terms.specs.declared.setting.Ground.{Ground}
use Rattle.qgm_build_terms.specs.declared.setting.Seat.{Seat}

-- the subqueries of a block, or of the rows of a grouped one
abbrev pub subs_step : Ground → Query → Frame → List OwnedQuant → Step
subs_step g (q.block distinct list from by) fr fs = block_subs g list from by fr fs
subs_step g (q.grouped distinct list from by places n having) fr fs = rows_subs g from by fr fs
subs_step g (q.combine x op all n y) fr fs = none
subs_step g (q.intersect x all n y) fr fs = none

-- those of the select over groups
abbrev pub upper_step : Seat → Query → Step
upper_step h (q.block distinct list from by) = none
upper_step h (q.grouped distinct list from by places n having) = in_turn (list_step h list) (test_step h having)
upper_step h (q.combine x op all n y) = none
upper_step h (q.intersect x all n y) = none

-- an operand that has one quantifier
abbrev pub is_single : From → Bool
is_single (q.named name) = true
is_single (q.derived x) = true
is_single (q.crossed x y) = false
is_single (q.joined x y p) = false
is_single (q.left_joined x y n p) = true
