use Rattle.std.proofs.Common.{◌≡◌, map, take}
use Rattle.qgm_terms.specs.Substitution.{substituted_cond}
use Rattle.qgm_terms.specs.Shown.{conds}
use Rattle.qgm_terms.proofs.substitution.substitute_conds.Given as goal

abbrev pub invariant-loop-c : goal.invariant-loop-c
invariant-loop-c l = record {
  so_far : l.all.items ≡ map (substituted_cond l.q l.cells) (conds (take l.c-index l.c-items));
  none_spare : l.all.spare ≡ 0;
}
