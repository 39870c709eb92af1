use Rattle.std.proofs.Common.{◌≡◌, ◌∙◌, ℕ, List, [], ◌∷◌, ap, map, refl, sym}
use Rattle.qgm_core.specs.Boxes.{numbers}
use Rattle.qgm_core.specs.declared.node.Node.{Node}
use Rattle.qgm_props.specs.Table.{nothing_of}
use Rattle.qgm_props.specs.declared.facts.BoxFacts.{BoxFacts}
use Rattle.qgm_props.proofs.fact_table.FactTable.none.Goals as goal

pub invariant_of-result : goal.invariant_of-result
invariant_of-result c = c.in_ok-places.ensures ∙ named c.args.nodes.now ∙ sym (ap (map (λ (f : BoxFacts). f.id)) c.in_ok-list.ensures)
  where
    named : (ns : List Node) → numbers ns ≡ map (λ f. f.id) (map nothing_of ns)
    named [] = refl
    named (n ∷ ns) = ap (λ (xs : List ℕ). n.id ∷ xs) (named ns)
