-- A box with other conditions.
use Rattle.std.specs.Prelude.{List}
use Rattle.qgm_core.specs.declared.node.Node.{Node}
use Rattle.qgm_terms.specs.Terms.{Cond}
use Rattle.qgm_terms.specs.declared.sought.Sought.TheVariants as sought

-- box n with these conditions
abbrev pub conditioned : List Cond → Node → Node
conditioned items n = record n { parts = record n.parts { conds = record n.parts.conds { items = items } } }
