use Rattle.std.proofs.Common.{◌≡◌, drop}
use Rattle.box_exec.specs.Bound.{env_of}
use Rattle.box_exec.specs.Early.{rejects}
use Rattle.box_exec.proofs.early.rejected.Given as goal

abbrev pub invariant-loop-e : goal.invariant-loop-e
invariant-loop-e l = rejects (drop l.e-index l.early) l.k (env_of l.env) ≡ rejects l.early l.k (env_of l.env)
