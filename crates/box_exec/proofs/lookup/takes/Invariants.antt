use Rattle.std.proofs.Common.{◌≡◌, drop}
use Rattle.box_exec.specs.Asked.{shown_keys}
use Rattle.box_exec.specs.Bound.{env_of}
use Rattle.box_exec.specs.Taken.{takes}
use Rattle.box_exec.proofs.lookup.takes.Given as goal

abbrev pub invariant-loop-key : goal.invariant-loop-key
invariant-loop-key l = takes (shown_keys (drop l.key-index l.keys)) l.q (env_of l.env) l.cells ≡ takes (shown_keys l.keys) l.q (env_of l.env) l.cells
