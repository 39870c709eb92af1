-- How deep the trees of the program are: brackets and CASE within one another. Operands of a chain, and arms of a CASE, are one level, however many they are.
use Rattle.std.specs.Prelude.{ℕ, ◌+◌, List, [], ◌∷◌, map, max}
use Rattle.qgm_terms.specs.declared.tree.Arm.{Arm}
use Rattle.qgm_terms.specs.declared.tree.Link.{Link}
use Rattle.qgm_terms.specs.declared.tree.Gc.{Gc, True, Compare', IsNull', All', Any', Not', Some', Every'}
use Rattle.qgm_terms.specs.declared.tree.Gc.{Row_of-Gc, end_of-Gc, more_of-Gc}
use Rattle.qgm_terms.specs.declared.tree.Gx.{Gx, Int, Text, NullInt, NullText, Col, Scalar, Chain', Neg', Case', CountAll, Fold'}
use Rattle.qgm_terms.specs.declared.tree.Gx.{Row_of-Link, end_of-Link, more_of-Link, Row_of-Arm, end_of-Arm, more_of-Arm}

abbrev pub most : List ℕ → ℕ
most [] = 0
most (n ∷ ns) = max n (most ns)

abbrev mutual
  pub depth : Gx → ℕ
  depth (Int n) = 1
  depth (Text s) = 1
  depth NullInt = 1
  depth NullText = 1
  depth (Col q k) = 1
  depth (Scalar q) = 1
  depth (Chain' _ a _ ls) = 1 + max (depth a) (most (row_link_depths ls))
  depth (Neg' _ a) = 1 + depth a
  depth (Case' _ s _ a) = 1 + max (most (row_arm_depths s)) (depth a)
  depth CountAll = 1
  depth (Fold' f e _ a) = 1 + depth a

  pub row_link_depths : {n : _} → Row_of-Link n → List ℕ
  row_link_depths end_of-Link = []
  row_link_depths (more_of-Link op a ls) = depth a ∷ row_link_depths ls

  pub row_arm_depths : {n : _} → Row_of-Arm n → List ℕ
  row_arm_depths end_of-Arm = []
  row_arm_depths (more_of-Arm c a s) = max (depth_cond c) (depth a) ∷ row_arm_depths s

  pub depth_cond : Gc → ℕ
  depth_cond True = 1
  depth_cond (Compare' s _ a _ b) = 1 + max (depth a) (depth b)
  depth_cond (IsNull' _ a) = 1 + depth a
  depth_cond (All' _ a _ ps) = 1 + max (depth_cond a) (most (row_cond_depths ps))
  depth_cond (Any' _ a _ ps) = 1 + max (depth_cond a) (most (row_cond_depths ps))
  depth_cond (Not' _ a) = 1 + depth_cond a
  depth_cond (Some' q _ a) = 1 + depth_cond a
  depth_cond (Every' q _ a) = 1 + depth_cond a

  pub row_cond_depths : {n : _} → Row_of-Gc n → List ℕ
  row_cond_depths end_of-Gc = []
  row_cond_depths (more_of-Gc p ps) = depth_cond p ∷ row_cond_depths ps

-- how deep what a head or a list of conditions holds may be
abbrev pub room : ℕ
room = 4096

-- ---- of the same lists, as the code has them

abbrev pub link_depths : List Link → List ℕ
link_depths ls = map (λ l. depth l.right) ls

abbrev pub arm_depths : List Arm → List ℕ
arm_depths s = map (λ a. max (depth_cond a.when) (depth a.then)) s

abbrev pub cond_depths : List Gc → List ℕ
cond_depths ps = map depth_cond ps

abbrev pub depths : List Gx → List ℕ
depths xs = map depth xs
