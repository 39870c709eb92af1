-- Cells put in for columns that a box doesn't read change nothing.
use Rattle.std.proofs.Common.{ℕ, ◌≡◌, false, List, ap₂}
use Rattle.std.specs.List.{list_any}
use Rattle.std.proofs.lemmas.Bool.{or_parts}
use Rattle.qgm_core.specs.Edits.{put_cells}
use Rattle.qgm_core.specs.declared.node.Node.{Node}
use Rattle.qgm_edit_laws.proofs.Unput.{conds-none, heads-none}
use Rattle.qgm_terms.specs.Terms.{Cond, Term}
use Rattle.qgm_terms.specs.Wanted.{reads, reads_cond}
use Rattle.rule_merge.specs.MergeSelectSteps.{reads_any}

pub cells-none : (q : ℕ) (cells : List Term) (n : Node) → reads_any q n.parts ≡ false → put_cells q cells n ≡ n
cells-none q cells n h =
    let a = or_parts (list_any (reads q) n.parts.head) (list_any (reads_cond q) n.parts.conds.items) h in
    ap₂ (λ (xs : List Cond) (ys : List Term). record n { parts = record n.parts { conds = record n.parts.conds { items = xs }; head = ys } })
    (conds-none q cells n.parts.conds.items a.1) (heads-none q cells n.parts.head a.0)
