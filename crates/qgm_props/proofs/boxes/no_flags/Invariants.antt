use Rattle.std.proofs.Common.{◌≡◌, false}
use Rattle.qgm_props.specs.Table.{flags}
use Rattle.qgm_props.proofs.boxes.no_flags.Given as goal

abbrev pub invariant-loop-k : goal.invariant-loop-k
invariant-loop-k l = l.all ≡ flags l.k (λ k. false)
