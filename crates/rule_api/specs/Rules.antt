-- What a rule keeps, and places in order.
use Rattle.std.specs.Prelude.{ℕ, ◌≡◌, ◌<◌, ◌⊎◌, List, [], ◌∷◌, ⊤}
use Rattle.row_bag.specs.Bags.{Agree}
use Rattle.row_bag.specs.Sets.{same_cells}
use Rattle.row_bag.specs.declared.tables.Table.{Table}
use Rattle.qgm_core.specs.Boxes.{QueryGraph}
use Rattle.qgm_wellformed.specs.Sentences.{WellFormed}
use Rattle.qgm_meaning.specs.Meaning.{root_bag}
use Rattle.qgm_meaning.specs.Satisfies.{Satisfies}
use Rattle.rule_api.specs.declared.place.Place.{Place}

-- h is well-formed; over tables that satisfy the bases of g the roots' bags agree, and they satisfy those of h; output names and order keys stay
pub record Preserves (g h : QueryGraph) : Type 0 where
  pub formed : WellFormed h
  pub bag : (tables : List Table) → Satisfies tables g.boxes → Agree same_cells (root_bag tables h) (root_bag tables g)
  pub bases : (tables : List Table) → Satisfies tables g.boxes → Satisfies tables h.boxes
  pub names : h.names ≡ g.names
  pub order : h.order ≡ g.order

-- the two numbers of a place
abbrev pub Pair : Type 0
Pair = ℕ × ℕ

abbrev pub place_at : ℕ → Pair → Place
place_at b p = record { at = b; i = p.0; j = p.1 }

-- by the first number, and then by the second
abbrev pub Before : Pair → Pair → Type 0
Before p q = (p.0 < q.0) ⊎ ((p.0 ≡ q.0) × (p.1 < q.1))

abbrev pub BeforeAll : Pair → List Pair → Type 0
BeforeAll p [] = ⊤
BeforeAll p (q ∷ qs) = Before p q × BeforeAll p qs

abbrev pub Ascending : List Pair → Type 0
Ascending [] = ⊤
Ascending (p ∷ ps) = BeforeAll p ps × Ascending ps
