use Rattle.std.proofs.Common.{arith}
use Rattle.std.proofs.lemmas.Grind.{common_steps}
use Rattle.rule_merge.proofs.MergeSelectUnfed.{merged_unfed}
use Rattle.rule_merge.proofs.MergeSelectPlaced.{found_has}
use Rattle.rule_merge.proofs.merge_select.condition.may_go_in.Goals as goal

pub returns-then-not-lookups : goal.returns-then-not-lookups
returns-then-not-lookups c = grind (arith, common_steps, found_has, merged_unfed)

pub merged-requires-clause-stands : goal.merged-requires-clause-stands
merged-requires-clause-stands c = grind (arith, common_steps)
