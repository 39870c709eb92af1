-- A small graph meets the premises of laws.
use Rattle.std.proofs.Common.{◌==◌, ◌≡◌, cond, Bool, true, false, [], ◌∷◌, Some, None, refl}
use Rattle.row_bag.specs.AsSets.{AgreeAsSets}
use Rattle.row_bag.proofs.Setting.{set-agreement}
use Rattle.row_bag.specs.Sets.{distinct, same_cells}
use Rattle.row_bag.proofs.TupleBags.{same_cells-decides}
use Rattle.qgm_core.specs.declared.kinds.BoxKind.TheVariants.{Select}
use Rattle.qgm_meaning.specs.AsSets.{AllReadSets, SelectReadsSets, over_found}
use Rattle.qgm_meaning.specs.Examples.{box, f, lateral_boxes, pairs}
use Rattle.qgm_meaning.specs.Quantifiers.{NotLateral}
use Rattle.qgm_meaning.specs.WordExamples.{exists_boxes, pair_boxes}
use Rattle.qgm_terms.specs.Terms.{col}

pub pairs-once : AgreeAsSets same_cells (distinct same_cells pairs) pairs
pairs-once = (set-agreement same_cells same_cells-decides).of_distinct pairs refl

pub exists-reads : AllReadSets (λ b. b == 2) exists_boxes
exists-reads = (record { rows = λ q h. cc h; cells = refl; conditions = refl }, (record { rows = λ q h. over_three (3 == q); cells = refl; conditions = refl }, (tt, tt)))
  where
    over_three : (b : Bool) → over_found (λ x. x == 2) (cond b (Some (f 3 3)) None) ≡ false
    over_three true = refl
    over_three false = refl

pub rows-counted : SelectReadsSets (λ b. b == 3) (box 2 Select [] (col 3 1 ∷ []) (f 3 3 ∷ [])) → ⊥
rows-counted h = let z : true ≡ false = h.rows 3 refl in let w : ⊥ = cc in w

pub pair-apart : NotLateral pair_boxes (box 1 Select [] (col 1 1 ∷ col 2 1 ∷ []) (f 1 2 ∷ f 2 2 ∷ [])) (f 1 2) (f 2 2 ∷ [])
pair-apart = (refl, (λ u v. (refl, refl)), tt)

pub one-lateral : NotLateral lateral_boxes (box 1 Select [] (col 2 1 ∷ []) (f 1 3 ∷ f 2 2 ∷ [])) (f 1 3) (f 2 2 ∷ []) → ⊥
one-lateral h = let both = h.1 refl refl in let z : true ≡ false = both.0 in let w : ⊥ = cc in w
