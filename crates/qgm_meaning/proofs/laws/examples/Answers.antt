use Rattle.std.proofs.Common.{refl}
use Rattle.qgm_meaning.proofs.Premises.{exists-reads, one-lateral, pair-apart, pairs-once, rows-counted}
use Rattle.qgm_meaning.proofs.laws.examples.Goals as goal

pub returns-clause-computed : goal.returns-clause-computed
returns-clause-computed c = record { bases = refl; selects = refl; groups = refl; groups_nothing = refl; groups_single = refl; groups_failing = refl; sets_intersect_all = refl; sets_except_all = refl; sets_failing = refl; sets_failing_both = refl; sets_not_failing = refl; joins = refl; joins_nothing = refl; joins_failing = refl; scalars = refl; scalars_two = refl; lateral = refl; exists = refl; exists_beside = refl }

pub returns-clause-looses : goal.returns-clause-looses
returns-clause-looses c = record { below = refl; seen = refl; turned = refl; strayed = refl }

pub returns-clause-counted : goal.returns-clause-counted
returns-clause-counted c = record { closed = refl; lateral = refl; correlated = refl }

pub returns-clause-words : goal.returns-clause-words
returns-clause-words c = record {
  fitting = refl;
  not_fitting = refl;
  typed = refl;
  not_typed = refl;
  with_values = refl;
  clean = refl;
  not_clean = refl;
  standing = refl;
  not_standing = refl;
  key_read = refl;
  passes = refl;
  tags = refl;
  counts = refl;
  joined_back = refl;
}

pub returns-clause-met : goal.returns-clause-met
returns-clause-met c = record { sets = pairs-once; reads = exists-reads; counts = rows-counted; apart = pair-apart; lateral = one-lateral }
