-- A key is told of facts of the code where it is inferred.
use Rattle.std.proofs.Common.{ℕ, ◌≡◌, Bool, List, ap}
use mathlib.Core.Path.{fun_ext}
use Rattle.qgm_core.specs.declared.node.Node.{Node}
use Rattle.qgm_props.specs.Inferred.{Facts, at_most_one}
use Rattle.qgm_props.specs.Keys.{holds_key}
use Rattle.qgm_props.specs.Laws.{Tells}
use Rattle.rule_facts.specs.Told.{infers, infers_key, told-is}

pub key-is : (bs : List Node) (known : Facts) → Tells known bs → (b : ℕ) (ks : List ℕ) → holds_key known.at_most_one bs b ks ≡ infers_key bs b ks
unfolding infers infers_key
key-is bs known tells b ks = ap (λ (f : ℕ → Bool). holds_key f bs b ks) (fun_ext (λ x. told-is bs known tells (at_most_one x)))
