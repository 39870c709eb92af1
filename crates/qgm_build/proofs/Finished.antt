-- The heads and conditions of boxes over what was laid, from what is written in turn.
use Rattle.std.specs.Result.{OnOk, result_and}
use Rattle.std.proofs.Common.{◌≡◌, ℕ, suc, Result, Ok, List, [], ◌++◌, map, get_or, pos, ap, ap₂, refl, sym, ◌∙◌}
use Rattle.sql_meaning.specs.ResolvedTrees.{From, Froms, Test, Values}
use Rattle.sql_meaning.specs.ResolvedTrees as q
use Rattle.qgm_core.specs.declared.owned.OwnedQuant.{OwnedQuant}
use Rattle.qgm_terms.specs.Terms.{Cond, Term}
use Rattle.qgm_terms.specs.Terms as t
use Rattle.qgm_translation.specs.Folds.{all_on_folds, folds_in, on_folds}
use Rattle.qgm_translation.specs.Lay.{Boxes, box_named, laying}
use Rattle.qgm_translation.specs.Leaves.{Leaf, Slots, after, list_leaves, test_leaves}
use Rattle.qgm_translation.specs.Maps.{Frame, Map, nothing, ref_term}
use Rattle.qgm_translation.specs.Shown.{all_leaves, all_on_leaves, all_ons, argument_terms, conds_of, frame, frame_all, no_slots, ons, padded, refs, rows_list, slots_of, ungrouped_cells}
use Rattle.qgm_translation.specs.Sources.{Sources, from_width}
use Rattle.qgm_translation.specs.Terms.{cond, split, terms}
use Rattle.qgm_translation.specs.Typing.{typed_by}
use Rattle.qgm_build_terms.specs.Written.{slots_from}
use Rattle.qgm_build.specs.Block.{conds_in_block, conds_in_rows, head_in_block}
use Rattle.qgm_build.specs.declared.select.Block.{Block}
use Rattle.qgm_build.specs.declared.select.Rows.{Rows}
use Rattle.qgm_build.proofs.Blocks.{cells_here, conds_read}
use Rattle.qgm_build.proofs.Taking.{all_two}
use Rattle.qgm_build.proofs.Same.{frame_all_same, width_same}

-- the columns of a FROM, by the boxes so far
pub frame_at : (k w : Sources) (s : Boxes) (from : Froms) (fs : List OwnedQuant) (fr : Frame) → w ≡ laying k s → fr ≡ frame_all k from fs → fr ≡ frame_all w from fs
frame_at k w s from fs fr e h = h ∙ sym (frame_all_same k (box_named s.shared) (typed_by s.rows) from fs) ∙ ap (λ (z : Sources). frame_all z from fs) (sym e)

-- the columns of an operand
pub flat_head_read : (k w : Sources) (x : From) (fs : List OwnedQuant) (start seen seen2 : Frame) (list head : List Term)
    → k ≡ w → start ≡ [] → seen ≡ start ++ frame k x fs → seen2 ≡ seen → list ≡ map ref_term seen2 → head ≡ list → head ≡ map ref_term (frame w x fs)
flat_head_read k w x fs start seen seen2 list head e st ss s2 ls hs =
    hs ∙ ls ∙ ap (map ref_term) (s2 ∙ ss ∙ ap₂ (λ (a : Frame) (z : Sources). a ++ frame z x fs) st e)

-- the ON conditions of an operand
pub flat_conds_read : (k w : Sources) (m : Map) (x : From) (fs subs : List OwnedQuant) (none folds ls : List Leaf) (cells cells2 : Frame) (start out : List Cond)
    → k ≡ w → none ≡ [] → folds ≡ none ++ on_folds x → ls ≡ folds → cells ≡ ungrouped_cells ls → cells2 ≡ cells → start ≡ [] → out ≡ start ++ ons k m x fs (slots_from subs cells2)
    → out ≡ ons w m x fs (slots_from subs (ungrouped_cells (on_folds x)))
flat_conds_read k w m x fs subs none folds ls cells cells2 start out e ns fds ls2 cs c2 st os =
    os ∙ ap₂ (λ (a : List Cond) (z : Sources). a ++ ons z m x fs (slots_from subs cells2)) st e
    ∙ ap (λ (z : Frame). ons w m x fs (slots_from subs z)) (c2 ∙ cs ∙ ap ungrouped_cells (ls2 ∙ fds ∙ ap (λ (a : List Leaf). a ++ on_folds x) ns))

-- the conditions of the rows of a grouped block
pub rows_conds_read : (w : Sources) (m : Map) (from : Froms) (by : Test) (fs subs : List OwnedQuant) (fr cells cells2 : Frame) (conds : List Cond)
    → fr ≡ frame_all w from fs → cells ≡ ungrouped_cells (all_on_folds from ++ folds_in (test_leaves [] by)) → cells2 ≡ cells
    → conds ≡ all_ons w m from fs (slots_from subs cells2) ++ split (cond w fr m (after (all_on_leaves w from fs) (slots_from subs cells2)) by)
    → conds ≡ conds_of w from by (λ fr. []) m fs (slots_of (all_leaves w from by (λ fr. []) fs) subs)
rows_conds_read w m from by fs subs fr cells cells2 conds frs cs c2 is =
    let sl : Slots = slots_from subs cells2 in
    let next : Slots = after (all_on_leaves w from fs) sl in
    conds_read w m from by q.no_value fs subs fr sl sl next (cond w fr m next by) (all_ons w m from fs sl) conds frs
    (cells_here w m from by q.no_value fs subs (all_on_folds from ++ folds_in (test_leaves [] by)) cells2 refl (c2 ∙ cs)) refl refl refl refl is

-- the columns of the rows of a grouped block
pub rows_list_read : (k w : Sources) (places : List ℕ) (ls : List Leaf) (fr fr2 : Frame) (keys list out : List Term)
    → k ≡ w → fr2 ≡ fr → keys ≡ map (λ place. ref_term (get_or fr place nothing)) places → list ≡ keys ++ argument_terms k fr2 ls → out ≡ padded (t.int (pos 1)) list → out ≡ rows_list w places ls fr no_slots
rows_list_read k w places ls fr fr2 keys list out e f ks lis os =
    os ∙ ap (padded (t.int (pos 1))) (lis ∙ ap₂ (λ (a : List Term) (z : Sources). a ++ argument_terms z fr2 ls) ks e ∙ ap (λ (z : Frame). map (λ place. ref_term (get_or fr place nothing)) places ++ argument_terms w z ls) f)

-- the head of the select over groups
pub list_read : (k w : Sources) (fr2 fr : Frame) (m2 m : Map) (subs : List OwnedQuant) (cells2 cells : Frame) (list : Values) (start out head : List Term)
    → k ≡ w → fr2 ≡ fr → m2 ≡ m → cells2 ≡ cells → start ≡ [] → out ≡ start ++ terms k fr2 m2 (slots_from subs cells2) list → head ≡ out → head ≡ terms w fr m (slots_from subs cells) list
list_read k w fr2 fr m2 m subs cells2 cells list start out head e f g c st os hs =
    hs ∙ os ∙ ap₂ (λ (a : List Term) (z : Sources). a ++ terms z fr2 m2 (slots_from subs cells2) list) st e
    ∙ ap₂ (λ (x : Frame) (y : Map). terms w x y (slots_from subs cells2) list) f g ∙ ap (λ (z : Frame). terms w fr m (slots_from subs z) list) c

-- a condition of its own, split
pub test_read : (k w : Sources) (fr2 fr : Frame) (m2 m : Map) (s : Slots) (by : Test) (p : Cond) (start conds : List Cond)
    → k ≡ w → fr2 ≡ fr → m2 ≡ m → p ≡ cond k fr2 m2 s by → start ≡ [] → conds ≡ start ++ split p → conds ≡ split (cond w fr m s by)
test_read k w fr2 fr m2 m s by p start conds e f g ps st cs =
    cs ∙ ap₂ (λ (a : List Cond) (z : Cond). a ++ split z) st ps ∙ ap₂ (λ (z : Sources) (x : Frame). split (cond z x m2 s by)) e f ∙ ap (λ (y : Map). split (cond w fr y s by)) g

-- HAVING
pub having_read : (k w : Sources) (fr2 fr : Frame) (m2 m : Map) (subs : List OwnedQuant) (cells2 cells : Frame) (list : Values) (having : Test) (s : Slots) (p : Cond) (start conds : List Cond)
    → k ≡ w → fr2 ≡ fr → m2 ≡ m → cells2 ≡ cells → s ≡ after (list_leaves fr2 list) (slots_from subs cells2) → p ≡ cond k fr2 m2 s having → start ≡ [] → conds ≡ start ++ split p
    → conds ≡ split (cond w fr m (after (list_leaves fr list) (slots_from subs cells)) having)
having_read k w fr2 fr m2 m subs cells2 cells list having s p start conds e f g c ss ps st cs =
    test_read k w fr2 fr m2 m s having p start conds e f g ps st cs
    ∙ ap (λ (z : Slots). split (cond w fr m z having)) (ss ∙ ap₂ (λ (x y : Frame). after (list_leaves x list) (slots_from subs y)) f c)

-- where the columns of both operands of a LEFT JOIN are seen
pub outer_frame_read : (k w : Sources) (s : Boxes) (x : From) (u v n width : ℕ) (start one two : Frame)
    → w ≡ laying k s → width ≡ from_width w x → start ≡ [] → one ≡ start ++ refs u 1 width → v ≡ suc u → two ≡ one ++ refs v 1 n → two ≡ refs u 1 (from_width k x) ++ refs (suc u) 1 n
outer_frame_read k w s x u v n width start one two e ws st os vs ts =
    let wide : width ≡ from_width k x = ws ∙ ap (λ (z : Sources). from_width z x) e ∙ width_same k (box_named s.shared) (typed_by s.rows) x in
    ts ∙ ap₂ (λ (a : Frame) z. a ++ refs z 1 n) (os ∙ ap₂ (λ (a : Frame) z. a ++ refs u 1 z) st wide) vs

-- the ON conditions of a FROM, and WHERE
pub from_conds_read : {U E : Type 0} (w v : Sources) (m : Map) (from : Froms) (by : Test) (fs : List OwnedQuant) (fr : Frame) (sl next : Slots) (start first conds : List Cond) (a b : Result U E) (o : U)
    → w ≡ v → start ≡ [] → result_and a b ≡ Ok o
    → OnOk a (first ≡ start ++ all_ons w m from fs sl) → OnOk a (next ≡ after (all_on_leaves w from fs) sl) → OnOk b (conds ≡ first ++ split (cond v fr m next by))
    → conds ≡ all_ons v m from fs sl ++ split (cond v fr m (after (all_on_leaves v from fs) sl) by)
from_conds_read w v m from by fs fr sl next start first conds a b o e st ok h1 h2 h3 =
    let one = all_two a b o ok h1 h3 in
    let two = all_two a b o ok h2 h3 in
    one.1 ∙ ap₂ (λ (z : List Cond) (y : Slots). z ++ split (cond v fr m y by)) (one.0 ∙ ap₂ (λ (z : List Cond) (y : Sources). z ++ all_ons y m from fs sl) st e)
    (two.0 ∙ ap (λ (y : Sources). after (all_on_leaves y from fs) sl) e)

-- a condition, where its columns are seen so
pub cond_at : (w : Sources) (m : Map) (p : Test) (fr seen : Frame) (conds : List Cond) → fr ≡ seen → conds ≡ split (cond w fr m no_slots p) → conds ≡ split (cond w seen m no_slots p)
cond_at w m p fr seen conds e h = h ∙ ap (λ (z : Frame). split (cond w z m no_slots p)) e

-- ---- the same of sources and scopes that are told otherwise

pub head_at : (w v : Sources) (m l : Map) (x : Block) (fs subs : List OwnedQuant) (head : List Term) → w ≡ v → m ≡ l → head ≡ head_in_block w m x fs subs → head ≡ head_in_block v l x fs subs
head_at w v m l x fs subs head e f h = h ∙ ap₂ (λ (z : Sources) (y : Map). head_in_block z y x fs subs) e f

pub conds_at : (w v : Sources) (m l : Map) (x : Block) (fs subs : List OwnedQuant) (conds : List Cond) → w ≡ v → m ≡ l → conds ≡ conds_in_block w m x fs subs → conds ≡ conds_in_block v l x fs subs
conds_at w v m l x fs subs conds e f h = h ∙ ap₂ (λ (z : Sources) (y : Map). conds_in_block z y x fs subs) e f

pub rows_at : (w v : Sources) (m l : Map) (x : Rows) (fs subs : List OwnedQuant) (conds : List Cond) → w ≡ v → m ≡ l → conds ≡ conds_in_rows w m x fs subs → conds ≡ conds_in_rows v l x fs subs
rows_at w v m l x fs subs conds e f h = h ∙ ap₂ (λ (z : Sources) (y : Map). conds_in_rows z y x fs subs) e f
