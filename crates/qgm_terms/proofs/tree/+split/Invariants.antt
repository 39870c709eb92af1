use Rattle.std.proofs.Common.{◌≡◌, ◌++◌}
use Rattle.qgm_terms.specs.Shown.{conds}
use Rattle.qgm_terms.specs.Split.{splits}
use Rattle.qgm_terms.proofs.tree.+split.Given as goal

abbrev pub invariant-split::add_splits-loop-p : goal.invariant-split::add_splits-loop-p
invariant-split::add_splits-loop-p l = record {
  items : l.out.items ≡ l.fn.out.items ++ splits (conds l.yielded);
  spare : l.out.spare ≡ l.fn.out.spare;
}
