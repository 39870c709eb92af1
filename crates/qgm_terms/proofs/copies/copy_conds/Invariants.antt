use Rattle.std.proofs.Common.{◌≡◌, take}
use Rattle.qgm_terms.specs.Shown.{conds}
use Rattle.qgm_terms.proofs.copies.copy_conds.Given as goal

abbrev pub invariant-loop-c : goal.invariant-loop-c
invariant-loop-c l = record {
  so_far : l.all.items ≡ conds (take l.c-index l.c-items);
  none_spare : l.all.spare ≡ 0;
}
