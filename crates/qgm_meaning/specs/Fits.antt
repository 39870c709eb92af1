-- The environments that evaluation meets: each binding is a row that its quantifier has in the bindings before it.
use Rattle.std.specs.Prelude.{ℕ, ◌&&◌, Bool, true, List, [], ◌∷◌}
use Rattle.std.specs.List.{list_any}
use Rattle.sql_value.specs.declared.cell.Cell.{Cell}
use Rattle.qgm_core.specs.declared.node.Node.{Node}
use Rattle.qgm_core.specs.Boxes.{owns}
use Rattle.qgm_meaning.specs.Laws.{AllStay, occurs}
use Rattle.qgm_meaning.specs.Meaning.{Family, quant_rows}
use Rattle.qgm_meaning.specs.Values.{Environment}

-- an owner of q among these boxes has this row for it
abbrev pub has_row : Family → List Node → ℕ → List Cell → Environment → Bool
has_row f ns q cells env = list_any (λ n. owns q n && occurs cells (quant_rows n f q env)) ns

abbrev pub fits : Family → List Node → Environment → Bool
fits f ns [] = true
fits f ns (binding ∷ env) = has_row f ns binding.0 binding.1 env && fits f ns env

abbrev pub Hereditary : Type 0
Hereditary = (f : Family) (ns : List Node) → AllStay (fits f ns) f ns
