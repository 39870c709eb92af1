-- Whether nothing is free in a box, where the quantifiers that marked boxes own are marked too.
use Rattle.std.specs.Prelude.{ℕ, Bool, List}
use Rattle.std.specs.List.{list_all}
use Rattle.qgm_core.specs.Free.{named_where}
use Rattle.list_laws.specs.Lists.{holds}
use Rattle.qgm_core.specs.declared.node.Node.{Node}

-- a box names only what is owned, if it is marked
abbrev pub names_owned : List ℕ → List ℕ → Node → Bool
names_owned marks owned n = list_all (λ q. holds q owned) (named_where marks n)
