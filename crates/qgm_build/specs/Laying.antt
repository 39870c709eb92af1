-- The boxes that a query and its parts are made into, by what the program holds of the schema and the blocks round them.
use Rattle.std.specs.Prelude.{◌≡◌, ℕ, suc, length, Bool, true, false, List, [], ◌∷◌}
use Rattle.sql_meaning.specs.ResolvedTrees as q
use Rattle.sql_meaning.specs.ResolvedTrees.{Value, Addends, Multipliers, Values, Arms, Choices, Test, Tests, From, Froms, Query}
use Rattle.qgm_core.specs.declared.kinds.QuantKind.TheVariants.{F}
use Rattle.qgm_core.specs.declared.kinds.SetOperator.{SetOperator}
use Rattle.qgm_core.specs.declared.owned.OwnedQuant.{OwnedQuant}
use Rattle.qgm_translation.specs.Lay.{Boxes, Drawn, Laid, Step, drawn, in_turn, laying}
use Rattle.qgm_translation.specs.Lay as l
use Rattle.qgm_translation.specs.Leaves.{Leaf, Slots, after, list_leaves}
use Rattle.qgm_translation.specs.Maps.{Frame, Map}
use Rattle.qgm_translation.specs.Shown.{frame_all, key_frame, key_places, rows_list, upper_leaves, upper_slots}
use Rattle.qgm_translation.specs.Sources.{Sources}
use Rattle.qgm_translation.specs.Terms.{cond, split, terms}
use Rattle.qgm_terms.specs.Terms.{Cond, Term}
use Rattle.qgm_build_terms.specs.Making.{top_at}
use Rattle.qgm_build_terms.specs.Setting.{told}
use Rattle.qgm_build_terms.specs.Written.{frame_of, map_of}
use Rattle.qgm_build_terms.specs.declared.setting.Ground.{Ground}
use Rattle.qgm_build_terms.specs.declared.setting.Seat.{Seat}

abbrev pub told_at : Ground → Sources
told_at g = told g.names

abbrev pub outer_of : Ground → Map
outer_of g = map_of g.outer.now

-- ---- queries and FROM

abbrev pub query_laid : Ground → Query → Boxes → Laid
query_laid g x s = l.lay (told_at g) (laying (told_at g)) x (outer_of g) s

abbrev pub operand_laid : Ground → From → Boxes → Laid
operand_laid g x s = l.lay_operand (told_at g) (laying (told_at g)) x (outer_of g) s

abbrev pub from_step : Ground → From → Step
from_step g x = l.lay_from (told_at g) (laying (told_at g)) (outer_of g) x

abbrev pub froms_step : Ground → Froms → Step
froms_step g xs = l.lay_froms (told_at g) (laying (told_at g)) (outer_of g) xs

abbrev pub on_step : Ground → From → List OwnedQuant → Step
on_step g x os = l.on_subs (told_at g) (laying (told_at g)) (outer_of g) x os

abbrev pub all_on_step : Ground → Froms → List OwnedQuant → Step
all_on_step g xs os = l.all_on_subs (told_at g) (laying (told_at g)) (outer_of g) xs os

-- ---- the subqueries of a block

abbrev pub value_step : Seat → Value → Step
value_step h x = l.value_subs (told_at h.ground) (laying (told_at h.ground)) (outer_of h.ground) (frame_of h.frame.now) x

abbrev pub addend_step : Seat → Addends → Step
addend_step h xs = l.addend_subs (told_at h.ground) (laying (told_at h.ground)) (outer_of h.ground) (frame_of h.frame.now) xs

abbrev pub multiplier_step : Seat → Multipliers → Step
multiplier_step h xs = l.multiplier_subs (told_at h.ground) (laying (told_at h.ground)) (outer_of h.ground) (frame_of h.frame.now) xs

abbrev pub list_step : Seat → Values → Step
list_step h xs = l.list_subs (told_at h.ground) (laying (told_at h.ground)) (outer_of h.ground) (frame_of h.frame.now) xs

abbrev pub arm_step : Seat → Arms → Step
arm_step h xs = l.arm_subs (told_at h.ground) (laying (told_at h.ground)) (outer_of h.ground) (frame_of h.frame.now) xs

abbrev pub choice_step : Seat → Choices → Step
choice_step h xs = l.choice_subs (told_at h.ground) (laying (told_at h.ground)) (outer_of h.ground) (frame_of h.frame.now) xs

abbrev pub test_step : Seat → Test → Step
test_step h p = l.test_subs (told_at h.ground) (laying (told_at h.ground)) (outer_of h.ground) (frame_of h.frame.now) p

abbrev pub tests_step : Seat → Tests → Step
tests_step h ps = l.tests_subs (told_at h.ground) (laying (told_at h.ground)) (outer_of h.ground) (frame_of h.frame.now) ps

-- a subquery, which sees the block first
abbrev pub inner_laid : Seat → Query → Boxes → Laid
inner_laid h x s = l.lay (told_at h.ground) (laying (told_at h.ground)) x (frame_of h.frame.now ∷ outer_of h.ground) s

-- ---- boxes over what was laid

-- the select of a block, whose FROM has the quantifiers fs
abbrev pub block_box : Ground → Bool → Values → Froms → Test → List OwnedQuant → Drawn → Laid
block_box g distinct list from by fs c = l.select_box (told_at g) (laying (told_at g)) distinct from by (λ fr. list_leaves fr list) (λ sources fr s. terms sources fr (outer_of g) s list) (outer_of g) fs c

-- the rows of a grouped block
abbrev pub rows_box : Ground → List ℕ → List Leaf → Froms → Test → List OwnedQuant → Drawn → Laid
rows_box g places ls from by fs c = l.select_box (told_at g) (laying (told_at g)) false from by (λ fr. []) (λ sources. rows_list sources places ls) (outer_of g) fs c

abbrev pub group_box : Ground → List ℕ → List Leaf → ℕ → Boxes → Laid
group_box g places ls b s = l.group_box (told_at g) (laying (told_at g)) places ls (top_at b s)

-- the select over groups that were laid, with its subqueries
abbrev pub upper_laid : Ground → Bool → Values → List ℕ → ℕ → Test → Laid → Laid
upper_laid g distinct list places n having r =
    let up = key_frame r.boxes.quant places 0 n in
    l.upper_box (told_at g) (laying (told_at g)) distinct list places n having (outer_of g) r.boxes.quant r.top
    (in_turn (l.list_subs (told_at g) (laying (told_at g)) (outer_of g) up list) (l.test_subs (told_at g) (laying (told_at g)) (outer_of g) up having) (drawn F r).boxes)

-- the select over groups whose quantifier has the number u, and whose subqueries were laid
abbrev pub upper_box : Ground → Bool → Values → List ℕ → ℕ → Test → ℕ → ℕ → Drawn → Laid
upper_box g distinct list places n having u b c = l.upper_box (told_at g) (laying (told_at g)) distinct list places n having (outer_of g) u b c

-- its slots, head and conditions
abbrev pub upper_slots_at : Seat → ℕ → Values → List ℕ → Test → List OwnedQuant → Slots
upper_slots_at h u list places having subs = upper_slots u (suc (length places)) (upper_leaves (frame_of h.frame.now) list having) subs

abbrev pub upper_head : Seat → ℕ → Values → List ℕ → Test → List OwnedQuant → Boxes → List Term
upper_head h u list places having subs s = terms (laying (told_at h.ground) s) (frame_of h.frame.now) (outer_of h.ground) (upper_slots_at h u list places having subs) list

abbrev pub upper_conds : Seat → ℕ → Values → List ℕ → Test → List OwnedQuant → Boxes → List Cond
upper_conds h u list places having subs s =
    split (cond (laying (told_at h.ground) s) (frame_of h.frame.now) (outer_of h.ground) (after (list_leaves (frame_of h.frame.now) list) (upper_slots_at h u list places having subs)) having)

abbrev pub flat_box : Ground → From → List OwnedQuant → Drawn → Laid
flat_box g x fs c = l.flat_box (told_at g) (laying (told_at g)) x (outer_of g) fs c

-- the select of a join that isn't flattened: its quantifiers are drawn, and then those of the subqueries of its ON conditions
abbrev pub flat_laid : Ground → From → Boxes → Laid
flat_laid g x s =
    let f = from_step g x s in
    flat_box g x f.quants (on_step g x f.quants f.boxes)

abbrev pub outer_box : Ground → From → ℕ → Test → ℕ → ℕ → Boxes → Laid
outer_box g x n p a b s = l.outer_box (told_at g) (laying (told_at g)) x n p (outer_of g) (top_at b) (top_at a s)

abbrev pub two_box : Ground → SetOperator → ℕ → ℕ → ℕ → Boxes → Laid
two_box g form n a b s = l.two_box (told_at g) (laying (told_at g)) form n (top_at b) (top_at a s)

-- ---- blocks before their select

-- the quantifiers of a FROM, the frame of its columns, and what is laid after them
pub record Opens (g : Ground) (from : Froms) (step : Frame → List OwnedQuant → Step) (s : Boxes) (fr : Frame) (fs ps : List OwnedQuant) (t : Boxes) : Type 0 where
  pub quants : fs ≡ (froms_step g from s).quants
  pub frame : fr ≡ frame_all (told_at g) from (froms_step g from s).quants
  pub subs : ps ≡ (step (frame_all (told_at g) from (froms_step g from s).quants) (froms_step g from s).quants (froms_step g from s).boxes).quants
  pub boxes : t ≡ (step (frame_all (told_at g) from (froms_step g from s).quants) (froms_step g from s).quants (froms_step g from s).boxes).boxes

abbrev pub block_subs : Ground → Values → Froms → Test → Frame → List OwnedQuant → Step
block_subs g list from by fr fs =
    in_turn (l.list_subs (told_at g) (laying (told_at g)) (outer_of g) fr list) (in_turn (all_on_step g from fs) (l.test_subs (told_at g) (laying (told_at g)) (outer_of g) fr by))

abbrev pub rows_subs : Ground → Froms → Test → Frame → List OwnedQuant → Step
rows_subs g from by fr fs = in_turn (all_on_step g from fs) (l.test_subs (told_at g) (laying (told_at g)) (outer_of g) fr by)

-- ---- grouped blocks before the select over their groups

abbrev pub is_block : Query → Bool
is_block (q.block distinct list from by) = true
is_block (q.grouped distinct list from by places n having) = false
is_block (q.combine x op all n y) = false
is_block (q.intersect x all n y) = false

abbrev pub is_grouped : Query → Bool
is_grouped (q.block distinct list from by) = false
is_grouped (q.grouped distinct list from by places n having) = true
is_grouped (q.combine x op all n y) = false
is_grouped (q.intersect x all n y) = false

-- the groups over the rows of a grouped block
abbrev pub block_groups : Ground → Values → Froms → Test → List ℕ → Test → Boxes → Laid
block_groups g list from by places having s =
    let f = froms_step g from s in
    let ls = upper_leaves [] list having in
    l.group_box (told_at g) (laying (told_at g)) places ls (rows_box g places ls from by f.quants (rows_subs g from by (frame_all (told_at g) from f.quants) f.quants f.boxes))

-- the groups of a query, which a grouped block alone has
abbrev pub groups_laid : Ground → Query → Boxes → Laid
groups_laid g (q.block distinct list from by) s = top_at 0 s
groups_laid g (q.grouped distinct list from by places n having) s = block_groups g list from by (key_places places) having s
groups_laid g (q.combine x op all n y) s = top_at 0 s
groups_laid g (q.intersect x all n y) s = top_at 0 s
