-- The select of a block, from its parts in turn.
use Rattle.std.proofs.Common.{◌≡◌, List, [], ◌++◌, ap, ap₂, sym, ◌∙◌}
use Rattle.sql_meaning.specs.ResolvedTrees.{Froms, Test, Values}
use Rattle.qgm_core.specs.declared.owned.OwnedQuant.{OwnedQuant}
use Rattle.qgm_terms.specs.Terms.{Cond, Term}
use Rattle.qgm_translation.specs.Leaves.{Leaf, Slots, after, list_leaves, test_leaves}
use Rattle.qgm_translation.specs.Maps.{Frame, Map, Ref}
use Rattle.qgm_translation.specs.Shown.{all_leaves, all_on_leaves, all_ons, conds_of, frame_all, slots_of, ungrouped_cells}
use Rattle.qgm_translation.specs.Sources.{Sources}
use Rattle.qgm_translation.specs.Terms.{cond, split, terms}
use Rattle.qgm_build_terms.specs.Written.{slots_from}
use Rattle.qgm_translation.specs.Folds.{all_on_folds, folds_in}
use Rattle.qgm_translation.proofs.FoldsSame.{all_on_same, folds_append, test_same, values_same}
use Rattle.qgm_build_terms.proofs.Grouped.{ungrouped_folds}

module _ (all : Sources) (m : Map) (from : Froms) (by : Test) (list : Values) (fs subs : List OwnedQuant) where
  abbrev pub leaves_here : List Leaf
  leaves_here = all_leaves all from by (λ fr. list_leaves fr list) fs

  abbrev pub slots_here : Slots
  slots_here = slots_of leaves_here subs

  same_folds : folds_in (list_leaves [] list) ++ (all_on_folds from ++ folds_in (test_leaves [] by)) ≡ folds_in leaves_here
  same_folds =
      let fr = frame_all all from fs in
      sym (folds_append (list_leaves fr list) (all_on_leaves all from fs ++ test_leaves fr by)
      ∙ ap₂ (λ a b. a ++ b) (values_same fr [] list) (folds_append (all_on_leaves all from fs) (test_leaves fr by) ∙ ap₂ (λ a b. a ++ b) (all_on_same all from fs) (test_same fr [] by)))

  -- the cells of the aggregates
  pub cells_here : (folds : List Leaf) (cells : List Ref) → folds ≡ folds_in (list_leaves [] list) ++ (all_on_folds from ++ folds_in (test_leaves [] by)) → cells ≡ ungrouped_cells folds
      → slots_from subs cells ≡ slots_here
  cells_here folds cells e f = ap (slots_from subs) (f ∙ ap ungrouped_cells (e ∙ same_folds) ∙ ungrouped_folds leaves_here)

  pub head_read : (fr : Frame) (s : Slots) (head : List Term) → fr ≡ frame_all all from fs → s ≡ slots_here → head ≡ terms all fr m s list → head ≡ terms all (frame_all all from fs) m slots_here list
  head_read fr s head e f h = h ∙ ap₂ (λ g z. terms all g m z list) e f

  pub conds_read : (fr : Frame) (s t u : Slots) (p : Cond) (first conds : List Cond) → fr ≡ frame_all all from fs → s ≡ slots_here → t ≡ after (list_leaves fr list) s
      → first ≡ all_ons all m from fs t → u ≡ after (all_on_leaves all from fs) t → p ≡ cond all fr m u by → conds ≡ first ++ split p
      → conds ≡ conds_of all from by (λ fr. list_leaves fr list) m fs slots_here
  conds_read fr s t u p first conds e f ts firsts us ps is =
      let mid : t ≡ after (list_leaves (frame_all all from fs) list) slots_here = ts ∙ ap₂ (λ g z. after (list_leaves g list) z) e f in
      is ∙ ap₂ (λ a b. a ++ split b) (firsts ∙ ap (all_ons all m from fs) mid) (ps ∙ ap₂ (λ g z. cond all g m z by) e (us ∙ ap (after (all_on_leaves all from fs)) mid))
