use Rattle.std.proofs.Common.{arith}
use Rattle.std.proofs.lemmas.Grind.{common_steps}
use Rattle.qgm_props.proofs.keys.+keys.Goals as goal

pub have_keys-returns-then-not-branch : goal.have_keys-returns-then-not-branch
have_keys-returns-then-not-branch t c = grind (arith, common_steps)

pub has_key_of-returns-then-both : goal.has_key_of-returns-then-both
has_key_of-returns-then-both t c = grind (arith, common_steps)

pub has_key_of-returns-else-both : goal.has_key_of-returns-else-both
has_key_of-returns-else-both t c = grind (arith, common_steps)

pub have_two_keys-returns-in_ok-right-in-len2-up : goal.have_two_keys-returns-in_ok-right-in-len2-up
have_two_keys-returns-in_ok-right-in-len2-up t c = grind (arith, common_steps)

pub has_key_of-returns-in-OuterJoin : goal.has_key_of-returns-in-OuterJoin
has_key_of-returns-in-OuterJoin t c = grind (arith, common_steps)

pub have_keys-loop-range-preserved : goal.have_keys-loop-range-preserved
have_keys-loop-range-preserved t c = grind (arith, common_steps)
