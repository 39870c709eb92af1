use Rattle.std.proofs.Common.{◌≡◌, drop}
use Rattle.sql_value.specs.Level.{least}
use Rattle.qgm_meaning.specs.Values.{all_true}
use Rattle.qgm_terms.specs.Shown.{conds}
use Rattle.box_exec.specs.Bound.{env_of}
use Rattle.box_exec.specs.Sources.{held_by}
use Rattle.box_exec.proofs.heads.filtered.Given as goal

abbrev pub invariant-loop-p : goal.invariant-loop-p
invariant-loop-p l = least l.level (all_true (held_by l.subs) (conds (drop l.p-index l.list)) (env_of l.env)).t ≡ least l.fn.level (all_true (held_by l.subs) (conds l.list) (env_of l.env)).t
