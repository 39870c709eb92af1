-- What the check finds where a box without quantifiers is added.
use Rattle.std.specs.Prelude.{ℕ, ◌≡◌, true, false, Option, None}
use Rattle.qgm_wellformed.specs.Columns.{columns_fit}
use Rattle.qgm_wellformed.specs.Shapes.{shape_fits}
use Rattle.qgm_wellformed.specs.Types.{types_agree}
use Rattle.qgm_wellformed.specs.WellFormed.{fault}
use Rattle.qgm_core.specs.Boxes.{QueryGraph, bare_box, has_box, numbers}
use Rattle.qgm_core.specs.Edits.{with_box}
use Rattle.qgm_core.specs.Free.{named_by}
use Rattle.list_laws.specs.Lists.{EachOnce, holds}
use Rattle.qgm_core.specs.declared.parts.BoxParts.{BoxParts}

-- box b of these parts may be added: its number is new, it names no quantifier, and it has types, columns and its shape
pub record MayAddBox (g : QueryGraph) (b : ℕ) (parts : BoxParts) : Type 0 where
  pub fresh : has_box g.boxes b ≡ false
  pub no_names : (q : ℕ) → holds q (named_by (bare_box b parts)) ≡ false
  pub types : types_agree g.boxes (bare_box b parts) ≡ true
  pub columns : columns_fit g.boxes (bare_box b parts) ≡ true
  pub shape : shape_fits g.root g.boxes (bare_box b parts) ≡ true

-- the check finds nothing after it where it found nothing before
abbrev pub AddBoxWellFormed : Type 0
AddBoxWellFormed =
    (g : QueryGraph) → EachOnce (numbers g.boxes) → fault g ≡ None → (below : Option ℕ) (b : ℕ) (parts : BoxParts) → MayAddBox g b parts → fault (with_box below (bare_box b parts) g) ≡ None
