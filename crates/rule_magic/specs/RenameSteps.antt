-- The edit by which columns of a quantifier get other names in the boxes that a box reaches.
use Rattle.std.specs.Prelude.{ℕ, List, filter}
use Rattle.qgm_core.specs.Boxes.{QueryGraph, numbers}
use Rattle.qgm_core.specs.declared.node.Node.{Node}
use Rattle.qgm_terms.specs.Terms.{Term}
use Rattle.rule_feed.specs.FeedSteps.{put_each}
use Rattle.rule_magic.specs.Region.{is_below}

-- cells for columns of a, in the boxes that y reaches among these, one after the other
abbrev pub rename_below : List Node → ℕ → ℕ → List Term → QueryGraph → QueryGraph
rename_below ns y a cells g = put_each (filter (λ b. is_below ns y b) (numbers ns)) a cells g
