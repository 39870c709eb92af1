-- Keys that the code is told of are those that are inferred.
use Rattle.std.proofs.Common.{ℕ, zero, suc, ◌≡◌, ◌∷◌, ◌-◌, ◌<◌, ◌∙◌, Bool, true, List, refl, sym, ap, arith}
use mathlib.Core.Path.{fun_ext}
use Rattle.list_laws.specs.Lists.{change}
use Rattle.qgm_core.specs.Boxes.{is_box}
use Rattle.qgm_core.specs.Edits.{with_distinct}
use Rattle.qgm_core.specs.Kinds.{is_select, width_by}
use Rattle.qgm_core.specs.declared.kinds.BoxKind.{BoxKind}
use Rattle.qgm_core.specs.declared.kinds.BoxKind.TheVariants.{Base, Select, Group, SetOp, OuterJoin}
use Rattle.qgm_core.specs.declared.kinds.Distinct.{Distinct}
use Rattle.qgm_core.specs.declared.node.Node.{Node}
use Rattle.qgm_props.specs.Inferred.{Facts, at_most_one}
use Rattle.qgm_props.specs.InferredKeys.{places_to}
use Rattle.qgm_props.specs.Keys.{holds_key}
use Rattle.qgm_props.specs.Laws.{Tells}
use Rattle.rule_facts.specs.Told.{infers, infers_key, told-is}
use Rattle.rule_facts.proofs.FactsWithoutDistinct.{infers-same}

-- a key in the graph in which a box has another distinctness, by what is inferred of the graph as it is
pub told_key : (bs : List Node) (b : ℕ) (d : Distinct) (known : Facts) → Tells known bs → (c : ℕ) (ks : List ℕ)
    → holds_key known.at_most_one (change (is_box b) (with_distinct d) bs) c ks ≡ infers_key (change (is_box b) (with_distinct d) bs) c ks
unfolding infers infers_key
told_key bs b d known tells c ks =
    ap (λ (single : ℕ → Bool). holds_key single (change (is_box b) (with_distinct d) bs) c ks) (fun_ext (λ x. told-is bs known tells (at_most_one x) ∙ sym (infers-same bs b d (at_most_one x))))

-- the places from one that isn't 0
pub places_down : (k : ℕ) → 0 < k → places_to k ≡ k ∷ places_to (k - 1)
places_down zero h = absurd (omega arith)
places_down (suc k) h = let e : k ≡ suc k - 1 = omega arith in ap (λ z. suc k ∷ places_to z) e

-- a select is as wide as its head
pub select_width : (kind : BoxKind) (cells : ℕ) → is_select kind ≡ true → width_by kind cells ≡ cells
select_width (Base table) cells h = absurd (let z : ⊥ = cc in z)
select_width Select cells h = refl
select_width (Group keys) cells h = refl
select_width (SetOp operator types) cells h = absurd (let z : ⊥ = cc in z)
select_width OuterJoin cells h = refl
