-- How deep trees are, and the lists in them as the code has them.
use Rattle.std.proofs.Common.{◌≡◌, refl, ℕ, ◌≤◌, List, ◌∷◌, ap, ◌∙◌, Vec, arith, max}
use Rattle.qgm_terms.specs.Depth.{arm_depths, cond_depths, depth, depth_cond, link_depths, row_arm_depths, row_cond_depths, row_link_depths}
use Rattle.qgm_terms.specs.declared.tree.Arm.{Arm}
use Rattle.qgm_terms.specs.declared.tree.Link.{Link}
use Rattle.qgm_terms.specs.declared.tree.Gc.{Gc, True, Compare', IsNull', All', Any', Not', Some', Every'}
use Rattle.qgm_terms.specs.declared.tree.Gc.{Row_of-Gc, end_of-Gc, more_of-Gc, items-the_row-Gc, items_hidden-the_row-Gc-0}
use Rattle.qgm_terms.specs.declared.tree.Gc.TheBlock.{hidden-the_row-Gc-0, hidden-the_row-Link-1, hidden-the_row-Arm-2}
use Rattle.qgm_terms.specs.declared.tree.Gx.{Gx, Int, Text, NullInt, NullText, Col, Scalar, Chain', Neg', Case', CountAll, Fold'}
use Rattle.qgm_terms.specs.declared.tree.Gx.{Row_of-Link, end_of-Link, more_of-Link, Row_of-Arm, end_of-Arm, more_of-Arm}
use Rattle.qgm_terms.specs.declared.tree.Gx.{items-the_row-Link, items-the_row-Arm, items_hidden-the_row-Link-1, items_hidden-the_row-Arm-2}

link_depths_items : (n : _) (row : Row_of-Link n) → row_link_depths row ≡ link_depths (items-the_row-Link n row)
link_depths_items _ end_of-Link = refl
link_depths_items _ (more_of-Link op a ls) = ap (λ (ns : List ℕ). depth a ∷ ns) (link_depths_items _ ls)

arm_depths_items : (n : _) (row : Row_of-Arm n) → row_arm_depths row ≡ arm_depths (items-the_row-Arm n row)
arm_depths_items _ end_of-Arm = refl
arm_depths_items _ (more_of-Arm c a s) = ap (λ (ns : List ℕ). max (depth_cond c) (depth a) ∷ ns) (arm_depths_items _ s)

cond_depths_items : (n : _) (row : Row_of-Gc n) → row_cond_depths row ≡ cond_depths (items-the_row-Gc n row)
cond_depths_items _ end_of-Gc = refl
cond_depths_items _ (more_of-Gc p ps) = ap (λ (ns : List ℕ). depth_cond p ∷ ns) (cond_depths_items _ ps)

pub link_depths_hidden : (v : Vec Link _) → row_link_depths (hidden-the_row-Link-1 v) ≡ link_depths v.items
link_depths_hidden v = link_depths_items _ (hidden-the_row-Link-1 v) ∙ ap link_depths (items_hidden-the_row-Link-1 v)

pub arm_depths_hidden : (v : Vec Arm _) → row_arm_depths (hidden-the_row-Arm-2 v) ≡ arm_depths v.items
arm_depths_hidden v = arm_depths_items _ (hidden-the_row-Arm-2 v) ∙ ap arm_depths (items_hidden-the_row-Arm-2 v)

pub cond_depths_hidden : (v : Vec Gc _) → row_cond_depths (hidden-the_row-Gc-0 v) ≡ cond_depths v.items
cond_depths_hidden v = cond_depths_items _ (hidden-the_row-Gc-0 v) ∙ ap cond_depths (items_hidden-the_row-Gc-0 v)

-- each tree has a level
pub depth_positive : (x : Gx) → 1 ≤ depth x
depth_positive (Int n) = omega arith
depth_positive (Text s) = omega arith
depth_positive NullInt = omega arith
depth_positive NullText = omega arith
depth_positive (Col q k) = omega arith
depth_positive (Scalar q) = omega arith
depth_positive (Chain' _ a _ ls) = omega arith
depth_positive (Neg' _ a) = omega arith
depth_positive (Case' _ s _ a) = omega arith
depth_positive CountAll = omega arith
depth_positive (Fold' f e _ a) = omega arith

pub depth_cond_positive : (c : Gc) → 1 ≤ depth_cond c
depth_cond_positive True = omega arith
depth_cond_positive (Compare' s _ a _ b) = omega arith
depth_cond_positive (IsNull' _ a) = omega arith
depth_cond_positive (All' _ a _ ps) = omega arith
depth_cond_positive (Any' _ a _ ps) = omega arith
depth_cond_positive (Not' _ a) = omega arith
depth_cond_positive (Some' q _ a) = omega arith
depth_cond_positive (Every' q _ a) = omega arith
