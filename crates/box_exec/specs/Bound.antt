-- The environment that bindings are.
use Rattle.std.specs.Prelude.{[], ◌∷◌}
use Rattle.qgm_meaning.specs.Values.{Environment}
use Rattle.box_exec.specs.declared.bindings.Bindings.{Bindings, Empty, Row'}

abbrev pub env_of : Bindings → Environment
env_of Empty = []
env_of (Row' q row _ rest) = (q, row.now) ∷ env_of rest
