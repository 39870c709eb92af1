use Rattle.rule_magic.proofs.AbsorbSetFacts.{sets-given}
use Rattle.rule_magic.proofs.AbsorbArmBags.{absorbs-arms, absorbs-left, absorbs-sets}
use Rattle.rule_magic.proofs.AbsorbBags.{absorbs-group, absorbs-keyless, absorbs-select}
use Rattle.rule_magic.proofs.AbsorbGroupKeeps.{group-preserves}
use Rattle.rule_magic.proofs.AbsorbArmsKeeps.{outer-arms-preserves}
use Rattle.rule_magic.proofs.AbsorbLeftKeeps.{outer-left-preserves}
use Rattle.rule_magic.proofs.AbsorbKeylessKeeps.{keyless-preserves}
use Rattle.rule_magic.proofs.AbsorbSelectKeeps.{select-preserves}
use Rattle.rule_magic.proofs.AbsorbOpenKeeps.{set-open-preserves}
use Rattle.rule_magic.proofs.AbsorbOpenSet.{set-open-sound}
use Rattle.rule_magic.proofs.AbsorbSetKeeps.{set-preserves}
use Rattle.rule_magic.proofs.Region.{arm-has-region, region-renames, region-stays}
use Rattle.rule_magic.proofs.RenamedFormed.{region-forms}
use Rattle.rule_magic.proofs.RenamedMade.{renamed-is-made}
use Rattle.rule_magic.proofs.RenamedTyped.{renamed-is-typed}
use Rattle.rule_magic.proofs.laws.absorbing_laws.Goals as goal

pub returns-clause-select : goal.returns-clause-select
returns-clause-select c = absorbs-select

pub returns-clause-select_preserves : goal.returns-clause-select_preserves
returns-clause-select_preserves c = select-preserves

pub returns-clause-group : goal.returns-clause-group
returns-clause-group c = absorbs-group

pub returns-clause-group_preserves : goal.returns-clause-group_preserves
returns-clause-group_preserves c = group-preserves

pub returns-clause-keyless : goal.returns-clause-keyless
returns-clause-keyless c = absorbs-keyless

pub returns-clause-keyless_preserves : goal.returns-clause-keyless_preserves
returns-clause-keyless_preserves c = keyless-preserves

pub returns-clause-sets : goal.returns-clause-sets
returns-clause-sets c = absorbs-sets

pub returns-clause-outer_left : goal.returns-clause-outer_left
returns-clause-outer_left c = absorbs-left

pub returns-clause-outer_arms : goal.returns-clause-outer_arms
returns-clause-outer_arms c = absorbs-arms

pub returns-clause-sets_given : goal.returns-clause-sets_given
returns-clause-sets_given c = sets-given

pub returns-clause-set_preserves : goal.returns-clause-set_preserves
returns-clause-set_preserves c = set-preserves

pub returns-clause-set_open_sound : goal.returns-clause-set_open_sound
returns-clause-set_open_sound c = set-open-sound

pub returns-clause-set_open_preserves : goal.returns-clause-set_open_preserves
returns-clause-set_open_preserves c = set-open-preserves

pub returns-clause-region : goal.returns-clause-region
returns-clause-region c = arm-has-region

pub returns-clause-region_renames : goal.returns-clause-region_renames
returns-clause-region_renames c = region-renames

pub returns-clause-region_stays : goal.returns-clause-region_stays
returns-clause-region_stays c = region-stays

pub returns-clause-region_forms : goal.returns-clause-region_forms
returns-clause-region_forms c = region-forms

pub returns-clause-renamed : goal.returns-clause-renamed
returns-clause-renamed c = renamed-is-made

pub returns-clause-renamed_types : goal.returns-clause-renamed_types
returns-clause-renamed_types c = renamed-is-typed

pub returns-clause-outer_left_preserves : goal.returns-clause-outer_left_preserves
returns-clause-outer_left_preserves c = outer-left-preserves

pub returns-clause-outer_arms_preserves : goal.returns-clause-outer_arms_preserves
returns-clause-outer_arms_preserves c = outer-arms-preserves
