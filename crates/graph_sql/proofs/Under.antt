-- The box under a quantifier, box by box.
use Rattle.std.proofs.Common.{◌≡◌, refl, ℕ, ◌==◌, List, [], ◌∷◌, ◌||◌, Bool, true, false, cond, Option, Some, None, ap, ◌∙◌}
use mathlib.Core.Path.{fun_ext}
use Rattle.std.specs.List.{list_any}
use Rattle.list_laws.specs.Lists.{first}
use Rattle.qgm_core.specs.Boxes.{is_quant, owns, range_in}
use Rattle.qgm_core.specs.declared.node.Node.{Node}
use Rattle.qgm_core.specs.declared.owned.OwnedQuant.{OwnedQuant}
use Rattle.qgm_props.specs.Inferred.{not_null_under}
use Rattle.qgm_props.specs.Table.{facts_of}
use Rattle.qgm_props.specs.Under.{of_over}
use Rattle.qgm_props.specs.declared.facts.BoxFacts.{BoxFacts}
use Rattle.graph_sql.specs.Scoped.{sure_found}
use Rattle.graph_sql.specs.Settings.{over_in, over_of, over_or}

among : (q : ℕ) (rs : List OwnedQuant) (o : Option ℕ) → cond (list_any (is_quant q) rs) (over_in (first (is_quant q) rs)) o ≡ over_or (first (is_quant q) rs) o
among q [] o = refl
among q (r ∷ rs) o = elim (r.id == q) as (λ (b : Bool). cond (b || list_any (is_quant q) rs) (over_in (cond b (Some r) (first (is_quant q) rs))) o ≡ over_or (cond b (Some r) (first (is_quant q) rs)) o) [
  | true ↦ refl
  | false ↦ among q rs o
]

split : (q : ℕ) (n : Node) (o : Option Node) (b : Bool) → over_in (range_in q (cond b (Some n) o)) ≡ cond b (over_in (first (is_quant q) n.quants)) (over_in (range_in q o))
split q n o true = refl
split q n o false = refl

pub over-step : (n : Node) (ns : List Node) (q : ℕ) → over_of (n ∷ ns) q ≡ over_or (first (is_quant q) n.quants) (over_of ns q)
over-step n ns q = split q n (first (owns q) ns) (owns q n) ∙ among q n.quants (over_of ns q)

found-same : (facts : List BoxFacts) (o : Option OwnedQuant) (k : ℕ) → sure_found facts (over_in o) k ≡ of_over false (λ b. (facts_of facts).not_null b k) o
found-same facts None k = refl
found-same facts (Some r) k = refl

pub sure-same : (facts : List BoxFacts) (nodes : List Node) (over : ℕ → Option ℕ) → ((q : ℕ) → over q ≡ over_of nodes q) → (λ q k. sure_found facts (over q) k) ≡ not_null_under nodes (facts_of facts)
sure-same facts nodes over h = fun_ext (λ q. fun_ext (λ k. ap (λ (o : Option ℕ). sure_found facts o k) (h q) ∙ found-same facts (range_in q (first (owns q) nodes)) k))
