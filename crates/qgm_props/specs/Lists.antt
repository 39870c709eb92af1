-- Chains and CASE without errors, by their lists.
use Rattle.std.specs.Prelude.{◌&&◌, Bool, true, false, List, [], ◌∷◌}
use Rattle.qgm_core.specs.declared.node.Node.{Node}
use Rattle.qgm_terms.specs.Terms.{Choice, Link}
use Rattle.qgm_props.specs.Inferred.{Facts, cond_free, is_free, keeps_free}

-- no operand stands behind the first one
abbrev pub is_none : List Link → Bool
is_none [] = true
is_none (l ∷ ls) = false

-- a chain whose first operand is without errors, or not
abbrev pub chain_free : List Node → Facts → Bool → Bool → List Link → Bool
chain_free boxes known one first [] = first
chain_free boxes known one first (l ∷ ls) = chain_free boxes known one (keeps_free l.op l.right && (first && is_free boxes known one l.right)) ls

-- conditions with their results
abbrev pub arms_free_in : List Node → Facts → Bool → List Choice → Bool
arms_free_in boxes known one [] = true
arms_free_in boxes known one (c ∷ cs) = cond_free boxes known one c.when && (is_free boxes known one c.then && arms_free_in boxes known one cs)
