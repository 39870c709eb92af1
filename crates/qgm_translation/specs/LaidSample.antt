-- The boxes that are made for the sample query over its two tables and its view, and their rows.
use Rattle.std.specs.Prelude.{◌≡◌, ℕ, codes, pos, Bool, List, [], ◌∷◌, ◌||◌}
use Rattle.sql_ast.specs.Names.{same_name}
use Rattle.qgm_core.specs.Edits.{range}
use Rattle.qgm_core.specs.declared.kinds.BoxKind.TheVariants.{Select}
use Rattle.qgm_core.specs.declared.kinds.QuantKind.TheVariants.{F}
use Rattle.qgm_meaning.specs.Meaning.{bag_in}
use Rattle.qgm_terms.specs.Terms as t
use Rattle.qgm_translation.specs.Samples.{answer, base, box, query, sources, tables}
use Rattle.qgm_translation.specs.Buildable.{Buildable}
use Rattle.qgm_translation.specs.Lay.{Boxes, Laid, lay}

abbrev pub bases : Boxes
bases = record {
  made = box 8 Select (t.compare t.at_least (t.col 8 2) (t.int (pos 8)) ∷ []) (t.col 8 1 ∷ t.col 8 2 ∷ []) (range 8 F 7 ∷ []) ∷ base 7 (codes "U") ∷ base 6 (codes "T") ∷ [];
  box = 9;
  quant = 9;
  rows = [];
  types = [];
  shared = [];
}

abbrev pub has : List ℕ → Bool
has name = same_name (codes "T") name || (same_name (codes "U") name || same_name (codes "V") name)

abbrev pub whole : Laid
whole = lay sources (λ s. sources) query [] bases

pub record Sampled : Type 0 where
  pub buildable : Buildable sources has query
  pub rows : bag_in tables whole.boxes.made whole.top [] ≡ answer
