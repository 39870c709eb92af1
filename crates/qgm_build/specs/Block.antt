-- What the select of a block that isn't grouped holds.
use Rattle.std.specs.Prelude.{List, [], ◌++◌}
use Rattle.sql_meaning.specs.ResolvedShown as shown
use Rattle.qgm_core.specs.declared.owned.OwnedQuant.{OwnedQuant}
use Rattle.qgm_terms.specs.Terms.{Cond, Term}
use Rattle.qgm_translation.specs.Leaves.{Leaf, Slots, list_leaves, test_leaves}
use Rattle.qgm_translation.specs.Maps.{Frame, Map}
use Rattle.qgm_translation.specs.Shown.{all_leaves, conds_of, frame_all, slots_of}
use Rattle.qgm_translation.specs.Sources.{Sources}
use Rattle.qgm_translation.specs.Terms.{terms}
use Rattle.qgm_translation.specs.Folds.{all_on_folds, folds_in}
use Rattle.qgm_build.specs.declared.select.Block.{Block}
use Rattle.qgm_build.specs.declared.select.Rows.{Rows}

-- its aggregates: those of its list, of the ON conditions, and of WHERE
abbrev pub aggregates_of : Block → List Leaf
aggregates_of x = folds_in (list_leaves [] (shown.value_list x.list.now)) ++ (all_on_folds (shown.from_list x.from.now) ++ folds_in (test_leaves [] (shown.test x.by.now)))

abbrev pub frame_of_block : Sources → Block → List OwnedQuant → Frame
frame_of_block sources x fs = frame_all sources (shown.from_list x.from.now) fs

-- fs: the quantifiers of its FROM; subs: those of its subqueries
abbrev pub slots_of_block : Sources → Block → List OwnedQuant → List OwnedQuant → Slots
slots_of_block sources x fs subs = slots_of (all_leaves sources (shown.from_list x.from.now) (shown.test x.by.now) (λ fr. list_leaves fr (shown.value_list x.list.now)) fs) subs

abbrev pub head_in_block : Sources → Map → Block → List OwnedQuant → List OwnedQuant → List Term
head_in_block sources m x fs subs = terms sources (frame_of_block sources x fs) m (slots_of_block sources x fs subs) (shown.value_list x.list.now)

abbrev pub conds_in_block : Sources → Map → Block → List OwnedQuant → List OwnedQuant → List Cond
conds_in_block sources m x fs subs = conds_of sources (shown.from_list x.from.now) (shown.test x.by.now) (λ fr. list_leaves fr (shown.value_list x.list.now)) m fs (slots_of_block sources x fs subs)

-- ---- the rows of a grouped block

abbrev pub aggregates_of_rows : Rows → List Leaf
aggregates_of_rows x = all_on_folds (shown.from_list x.from.now) ++ folds_in (test_leaves [] (shown.test x.by.now))

abbrev pub slots_of_rows : Sources → Rows → List OwnedQuant → List OwnedQuant → Slots
slots_of_rows sources x fs subs = slots_of (all_leaves sources (shown.from_list x.from.now) (shown.test x.by.now) (λ fr. []) fs) subs

abbrev pub conds_in_rows : Sources → Map → Rows → List OwnedQuant → List OwnedQuant → List Cond
conds_in_rows sources m x fs subs = conds_of sources (shown.from_list x.from.now) (shown.test x.by.now) (λ fr. []) m fs (slots_of_rows sources x fs subs)
