-- What is made once of a graph.
use Rattle.std.specs.Prelude.{ℕ, ◌≡◌, not, Bool, List, filter, IfSome}
use Rattle.std.specs.List.{flat_map, list_any}
use Rattle.qgm_core.specs.Boxes.{numbers, overs_in, owns}
use Rattle.qgm_core.specs.Free.{named_by}
use Rattle.list_laws.specs.Lists.{holds}
use Rattle.qgm_core.specs.declared.node.Node.{Node}
use Rattle.qgm_core.specs.declared.owned.OwnedQuant.{OwnedQuant}
use Rattle.rule_facts.specs.FedClosed.{any_fed}
use Rattle.rule_merge.specs.declared.merge_select.lookups.Lookups.{Lookups}

-- what a box names that it doesn't own
abbrev pub foreign : Node → List ℕ
foreign n = filter (λ q. not (owns q n)) (named_by n)

abbrev pub foreigns : List Node → List ℕ
foreigns boxes = flat_map foreign boxes

-- one of these is among the names
abbrev pub any_named : List ℕ → List OwnedQuant → Bool
any_named names rs = list_any (λ r. holds r.id names) rs

-- the tables are of the numbers of the graph's boxes and of the boxes that its quantifiers range over, it is told whether one is fed, and what boxes name that they don't own where that was asked for
pub record AreOfGraph (t : Lookups) : Type 0 where
  pub places : t.places ≡ numbers t.graph.now.boxes
  pub counts : t.counts ≡ overs_in t.graph.now.boxes
  pub fed : t.is_any_fed ≡ any_fed t.graph.now.boxes
  pub foreign : IfSome t.foreign (λ m. m ≡ foreigns t.graph.now.boxes)
