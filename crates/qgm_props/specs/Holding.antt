-- When a fact holds of a box.
use Rattle.std.specs.Prelude.{ℕ, ◌≡◌, ◌==◌, Bool, true, List, [], ◌∷◌, Some, ⊤}
use Rattle.std.specs.List.{list_any}
use Rattle.row_bag.specs.declared.tables.Table.{Table}
use Rattle.sql_value.specs.declared.cell.Cell.{Cell}
use Rattle.qgm_core.specs.Boxes.{owns, range_in}
use Rattle.list_laws.specs.Lists.{first}
use Rattle.qgm_core.specs.declared.node.Node.{Node}
use Rattle.qgm_core.specs.declared.owned.OwnedQuant.{OwnedQuant}
use Rattle.qgm_meaning.specs.Laws.{occurs}
use Rattle.qgm_meaning.specs.Meaning.{Family, bag_in}
use Rattle.qgm_meaning.specs.Scope.{loose}
use Rattle.qgm_meaning.specs.Values.{Bag, Environment}
use Rattle.qgm_props.specs.Facts.{IsClean, IsErrorFree, IsNotNull, HasAtMostOne, HasExactlyOne}
use Rattle.qgm_props.specs.Inferred.{Fact, clean, error_free, not_null, at_most_one, exactly_one}

abbrev pub is_bound : ℕ → Environment → Bool
is_bound q env = list_any (λ binding. binding.0 == q) env

-- each quantifier that box b looks up is bound
abbrev pub AllBound : List Node → ℕ → Environment → Type 0
AllBound ns b env = (q : ℕ) → loose ns b q ≡ true → is_bound q env ≡ true

-- these cells are a row that is there of the box under q, in the bindings before it
pub record HasRow (f : Family) (ns : List Node) (q : ℕ) (cells : List Cell) (env : Environment) : Type 0 where
  pub range : OwnedQuant
  pub owned : range_in q (first (owns q) ns) ≡ Some range
  pub row : occurs cells (f range.over env) ≡ true
  pub before : AllBound ns range.over env

-- an environment that fits: each quantifier is bound to a row that its box gives there
abbrev pub Fitting : Family → List Node → Environment → Type 0
Fitting f ns [] = ⊤
Fitting f ns (binding ∷ env) = HasRow f ns binding.0 binding.1 env × Fitting f ns env

-- a statement on the rows of box b, in each environment that fits
abbrev pub OfRows : List Table → List Node → ℕ → (Bag → Type 0) → Type 0
OfRows tables ns b said = (env : Environment) → Fitting (bag_in tables ns) ns env → AllBound ns b env → said (bag_in tables ns b env)

abbrev pub Holds : List Table → List Node → Fact → Type 0
Holds tables ns (clean b) = OfRows tables ns b IsClean
Holds tables ns (error_free b k) = OfRows tables ns b (IsErrorFree k)
Holds tables ns (not_null b k) = OfRows tables ns b (IsNotNull k)
Holds tables ns (at_most_one b) = OfRows tables ns b HasAtMostOne
Holds tables ns (exactly_one b) = OfRows tables ns b HasExactlyOne
