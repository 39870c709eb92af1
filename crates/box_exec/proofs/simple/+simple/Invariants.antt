use Rattle.std.proofs.Common.{ℕ, ◌≡◌, drop}
use Rattle.qgm_meaning.specs.Values.{Bag}
use Rattle.qgm_terms.specs.Shown.{links}
use Rattle.box_exec.specs.Bound.{env_of}
use Rattle.box_exec.specs.Lists.{chained}
use Rattle.box_exec.proofs.simple.+simple.Given as goal

abbrev pub invariant-simple_chain-loop-link : goal.invariant-simple_chain-loop-link
invariant-simple_chain-loop-link l = (rows : ℕ → Bag) → chained rows l.total (links (drop l.link-index l.list)) (env_of l.env) ≡ chained rows l.fn.first (links l.list) (env_of l.env)
