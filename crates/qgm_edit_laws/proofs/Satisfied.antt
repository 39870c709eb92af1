-- Tables that satisfy the bases of boxes satisfy those of changed boxes, where each stays satisfied.
use Rattle.std.proofs.Common.{List, [], ◌∷◌, map, refl, inl, inr}
use Rattle.row_bag.specs.declared.tables.Table.{Table}
use Rattle.list_laws.specs.Lists.{In}
use Rattle.qgm_core.specs.declared.node.Node.{Node}
use Rattle.qgm_meaning.specs.Satisfies.{Satisfies, SatisfiesBy}

pub satisfies-by : (tables : List Table) (f : Node → Node) (ns : List Node) → ((y : Node) → In y ns → SatisfiesBy y.parts.kind tables → SatisfiesBy (f y).parts.kind tables) → Satisfies tables ns → Satisfies tables (map f ns)
satisfies-by tables f [] same h = tt
satisfies-by tables f (n ∷ ns) same h = (same n (inl refl) h.0, satisfies-by tables f ns (λ y j. same y (inr j)) h.1)
