use Rattle.std.proofs.Common.{◌≡◌, ◌∙◌, List, ap, get_or, sym}
use Rattle.std.proofs.Math.Seq.{map-set_same}
use Rattle.qgm_props.specs.declared.facts.BoxFacts.{BoxFacts}
use Rattle.qgm_props.proofs.fact_table.FactTable.put.Goals as goal

pub invariant_of-self : goal.invariant_of-self
invariant_of-self c =
    let ts = c.self.inside.list.items in
    let f = c.args.facts in
    let same : f.id ≡ (get_or ts c.args.i f).id = sym c.requires.same ∙ sym (ap (λ (xs : List BoxFacts). (get_or xs c.args.i f).id) c.self.view_is) in
    c.self.invariant ∙ sym (map-set_same (λ (x : BoxFacts). x.id) ts c.args.i f f same)
