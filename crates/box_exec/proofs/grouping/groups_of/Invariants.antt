use Rattle.std.proofs.Common.{◌≡◌, length, map, take}
use Rattle.group_states.specs.Groups.{HasRows}
use Rattle.row_bag.specs.Groups.{key_error}
use Rattle.qgm_terms.specs.Shown.{terms}
use Rattle.box_exec.specs.Bound.{env_of}
use Rattle.box_exec.specs.Groups.{asked, fold_of}
use Rattle.box_exec.proofs.grouping.groups_of.Given as goal

abbrev pub invariant-loop-i : goal.invariant-loop-i
invariant-loop-i l = record {
  table : HasRows (length l.keys) (map fold_of (terms l.folds)) (map (asked (terms l.keys) (terms l.folds) l.quant (env_of l.env)) (take l.i l.rows)) l.table;
  error : l.error ≡ key_error (length l.keys) (map (asked (terms l.keys) (terms l.folds) l.quant (env_of l.env)) (take l.i l.rows));
}
