-- The rules by their names.
use Rattle.std.specs.Prelude.{ℕ, ◌↔◌, List}
use Rattle.qgm_core.specs.Boxes.{QueryGraph, numbers}
use Rattle.list_laws.specs.Lists.{EachOnce, In}
use Rattle.qgm_wellformed.specs.Sentences.{WellFormed}
use Rattle.rule_api.specs.Rules.{Pair}
use Rattle.rule_api.specs.declared.place.Place.{Place}
use Rattle.rule_api.specs.declared.rule_id.RuleId.{RuleId}
use Rattle.rule_api.specs.declared.rule_id.RuleId.TheVariants.{M1, M2, U1, U2, U3, U4, L1, L2, L3, P1, P2, P3, P4, J1, J2, N1, N2, G1, G2, G3, G4, G5}
use Rattle.rule_distinct.specs.DropKeyDistinct.{MayDropKeyDistinct, drop_key_distinct_pairs}
use Rattle.rule_distinct.specs.DropKeyDistinctExact.{drop_key_distinct_exact}
use Rattle.rule_distinct.specs.DropUnionDistinct.{MayDropUnionDistinct, drop_union_distinct_pairs}
use Rattle.rule_distinct.specs.DropUnionDistinctExact.{drop_union_distinct_exact}
use Rattle.rule_distinct.specs.PermitDistinct.{MayPermitDistinct, PermitsDistinct, permit_distinct_pairs}
use Rattle.rule_distinct.specs.PermitDistinctExact.{permit_distinct_exact}
use Rattle.rule_distinct.specs.PlainAt.{DropsDistinct}
use Rattle.rule_feed.specs.FeedActs.{Feeds}
use Rattle.rule_feed.specs.FeedMay.{MayFeed, feed_pairs}
use Rattle.rule_feed.specs.FeedMayExact.{feed_exact}
use Rattle.rule_magic.specs.AbsorbGroup.{AbsorbsGroup, MayAbsorbGroup, absorb_group_pairs}
use Rattle.rule_magic.specs.AbsorbGroupExact.{absorb_group_exact}
use Rattle.rule_magic.specs.AbsorbOuterExact.{absorb_outer_exact}
use Rattle.rule_magic.specs.AbsorbOuterJoin.{AbsorbsOuter, MayAbsorbOuter, absorb_outer_pairs}
use Rattle.rule_magic.specs.AbsorbSelect.{AbsorbsSelect, MayAbsorbSelect, absorb_select_pairs}
use Rattle.rule_magic.specs.AbsorbSelectExact.{absorb_select_exact}
use Rattle.rule_magic.specs.AbsorbSetOperation.{AbsorbsSet, MayAbsorbSet, absorb_set_pairs}
use Rattle.rule_magic.specs.AbsorbSetOperationExact.{absorb_set_exact}
use Rattle.rule_merge.specs.DropCopy.{DropsCopy, MayDropCopy, drop_copy_pairs}
use Rattle.rule_merge.specs.DropCopyExact.{drop_copy_exact}
use Rattle.rule_merge.specs.MergeSelect.{MayMergeSelect, MergesSelect, merge_select_pairs}
use Rattle.rule_merge.specs.MergeSelectExact.{merge_select_exact}
use Rattle.rule_prune.specs.DropColumn.{DropsColumn, MayDropColumn, drop_column_pairs}
use Rattle.rule_prune.specs.DropColumnExact.{drop_column_exact}
use Rattle.rule_prune.specs.DropQuantifier.{DropsQuantifier, MayDropQuantifier, drop_quantifier_pairs}
use Rattle.rule_prune.specs.DropQuantifierExact.{drop_quantifier_exact}
use Rattle.rule_push.specs.PushIntoArms.{ActsPushIntoArms, MayPushIntoArms, push_into_arms_pairs}
use Rattle.rule_push.specs.PushIntoArmsExact.{push_into_arms_exact}
use Rattle.rule_push.specs.PushIntoLeft.{ActsPushIntoLeft, MayPushIntoLeft, push_into_left_pairs}
use Rattle.rule_push.specs.PushIntoLeftExact.{push_into_left_exact}
use Rattle.rule_push.specs.PushIntoSelect.{ActsPushIntoSelect, MayPushIntoSelect, push_into_select_pairs}
use Rattle.rule_push.specs.PushIntoSelectExact.{push_into_select_exact}
use Rattle.rule_push.specs.PushThroughGroup.{ActsPushThroughGroup, MayPushThroughGroup, push_through_group_pairs}
use Rattle.rule_push.specs.PushThroughGroupExact.{push_through_group_exact}
use Rattle.rule_subquery.specs.ExistsToJoin.{JoinsExists, MayExistsToJoin, exists_to_join_pairs}
use Rattle.rule_subquery.specs.ExistsToJoinExact.{exists_to_join_exact}
use Rattle.rule_subquery.specs.ScalarToGroup.{GroupsScalar, MayScalarToGroup, scalar_to_group_pairs}
use Rattle.rule_subquery.specs.ScalarToGroupExact.{scalar_to_group_exact}
use Rattle.rule_subquery.specs.ScalarToJoin.{JoinsScalar, MayScalarToJoin, scalar_to_join_pairs}
use Rattle.rule_subquery.specs.ScalarToJoinExact.{scalar_to_join_exact}
use Rattle.rule_subquery.specs.SetToExists.{MaySetToExists, SelectsSet, set_to_exists_pairs}
use Rattle.rule_subquery.specs.SetToExistsExact.{set_to_exists_exact}
use Rattle.rule_trans.specs.EqualColumns.{AddsEqualColumns, MayEqualColumns}
use Rattle.rule_trans.specs.EqualColumnsExact.{equal_columns_exact}
use Rattle.rule_trans.specs.EqualColumnsPlaces.{equal_columns_pairs}
use Rattle.rule_trans.specs.EqualLiteral.{AddsEqualLiteral, MayEqualLiteral}
use Rattle.rule_trans.specs.EqualLiteralExact.{equal_literal_exact}
use Rattle.rule_trans.specs.EqualLiteralPlaces.{equal_literal_pairs}

-- a rule: its places at a box, its condition, its action, and that it has exactly the places where its condition holds
pub record BuiltRule : Type 1 where
  pub pairs : QueryGraph → ℕ → List Pair
  pub may : Place → QueryGraph → Type 0
  pub act : Place → QueryGraph → QueryGraph → Type 0
  pub exact : (g : QueryGraph) (b i j : ℕ) → EachOnce (numbers g.boxes) → WellFormed g → In (i, j) (pairs g b) ↔ may (record { at = b; i = i; j = j }) g

abbrev pub merge_select : BuiltRule
merge_select = record { pairs = merge_select_pairs; may = MayMergeSelect; act = MergesSelect; exact = merge_select_exact }

abbrev pub drop_copy : BuiltRule
drop_copy = record { pairs = drop_copy_pairs; may = MayDropCopy; act = DropsCopy; exact = drop_copy_exact }

abbrev pub exists_to_join : BuiltRule
exists_to_join = record { pairs = exists_to_join_pairs; may = MayExistsToJoin; act = JoinsExists; exact = exists_to_join_exact }

abbrev pub scalar_to_group : BuiltRule
scalar_to_group = record { pairs = scalar_to_group_pairs; may = MayScalarToGroup; act = GroupsScalar; exact = scalar_to_group_exact }

abbrev pub scalar_to_join : BuiltRule
scalar_to_join = record { pairs = scalar_to_join_pairs; may = MayScalarToJoin; act = JoinsScalar; exact = scalar_to_join_exact }

abbrev pub set_to_exists : BuiltRule
set_to_exists = record { pairs = set_to_exists_pairs; may = MaySetToExists; act = SelectsSet; exact = set_to_exists_exact }

abbrev pub drop_key_distinct : BuiltRule
drop_key_distinct = record { pairs = drop_key_distinct_pairs; may = MayDropKeyDistinct; act = DropsDistinct; exact = drop_key_distinct_exact }

abbrev pub permit_distinct : BuiltRule
permit_distinct = record { pairs = permit_distinct_pairs; may = MayPermitDistinct; act = PermitsDistinct; exact = permit_distinct_exact }

abbrev pub drop_union_distinct : BuiltRule
drop_union_distinct = record { pairs = drop_union_distinct_pairs; may = MayDropUnionDistinct; act = DropsDistinct; exact = drop_union_distinct_exact }

abbrev pub push_into_select : BuiltRule
push_into_select = record { pairs = push_into_select_pairs; may = MayPushIntoSelect; act = ActsPushIntoSelect; exact = push_into_select_exact }

abbrev pub push_through_group : BuiltRule
push_through_group = record { pairs = push_through_group_pairs; may = MayPushThroughGroup; act = ActsPushThroughGroup; exact = push_through_group_exact }

abbrev pub push_into_arms : BuiltRule
push_into_arms = record { pairs = push_into_arms_pairs; may = MayPushIntoArms; act = ActsPushIntoArms; exact = push_into_arms_exact }

abbrev pub push_into_left : BuiltRule
push_into_left = record { pairs = push_into_left_pairs; may = MayPushIntoLeft; act = ActsPushIntoLeft; exact = push_into_left_exact }

abbrev pub equal_columns : BuiltRule
equal_columns = record { pairs = equal_columns_pairs; may = MayEqualColumns; act = AddsEqualColumns; exact = equal_columns_exact }

abbrev pub equal_literal : BuiltRule
equal_literal = record { pairs = equal_literal_pairs; may = MayEqualLiteral; act = AddsEqualLiteral; exact = equal_literal_exact }

abbrev pub drop_column : BuiltRule
drop_column = record { pairs = drop_column_pairs; may = MayDropColumn; act = DropsColumn; exact = drop_column_exact }

abbrev pub drop_quantifier : BuiltRule
drop_quantifier = record { pairs = drop_quantifier_pairs; may = MayDropQuantifier; act = DropsQuantifier; exact = drop_quantifier_exact }

abbrev pub feed : BuiltRule
feed = record { pairs = feed_pairs; may = MayFeed; act = Feeds; exact = feed_exact }

abbrev pub absorb_select : BuiltRule
absorb_select = record { pairs = absorb_select_pairs; may = MayAbsorbSelect; act = AbsorbsSelect; exact = absorb_select_exact }

abbrev pub absorb_group : BuiltRule
absorb_group = record { pairs = absorb_group_pairs; may = MayAbsorbGroup; act = AbsorbsGroup; exact = absorb_group_exact }

abbrev pub absorb_set : BuiltRule
absorb_set = record { pairs = absorb_set_pairs; may = MayAbsorbSet; act = AbsorbsSet; exact = absorb_set_exact }

abbrev pub absorb_outer : BuiltRule
absorb_outer = record { pairs = absorb_outer_pairs; may = MayAbsorbOuter; act = AbsorbsOuter; exact = absorb_outer_exact }

abbrev pub built : RuleId → BuiltRule
built M1 = merge_select
built M2 = drop_copy
built U1 = exists_to_join
built U2 = scalar_to_group
built U3 = scalar_to_join
built U4 = set_to_exists
built L1 = drop_key_distinct
built L2 = permit_distinct
built L3 = drop_union_distinct
built P1 = push_into_select
built P2 = push_through_group
built P3 = push_into_arms
built P4 = push_into_left
built J1 = equal_columns
built J2 = equal_literal
built N1 = drop_column
built N2 = drop_quantifier
built G1 = feed
built G2 = absorb_select
built G3 = absorb_group
built G4 = absorb_set
built G5 = absorb_outer

abbrev pub built_pairs : RuleId → QueryGraph → ℕ → List Pair
built_pairs r = (built r).pairs

abbrev pub built_may : RuleId → Place → QueryGraph → Type 0
built_may r = (built r).may

abbrev pub built_act : RuleId → Place → QueryGraph → QueryGraph → Type 0
built_act r = (built r).act

pub built_exact : (r : RuleId) (g : QueryGraph) (b i j : ℕ) → EachOnce (numbers g.boxes) → WellFormed g → In (i, j) (built_pairs r g b) ↔ built_may r (record { at = b; i = i; j = j }) g
built_exact r = (built r).exact
