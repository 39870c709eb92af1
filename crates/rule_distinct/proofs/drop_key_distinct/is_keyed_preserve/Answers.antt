use Rattle.std.proofs.Common.{◌≡◌, ◌∙◌, ℕ, List, ap, length, sym}
use Rattle.qgm_core.specs.Boxes.{width}
use Rattle.qgm_core.specs.Edits.{set_distinct}
use Rattle.qgm_core.specs.declared.kinds.Distinct.TheVariants.{Preserve}
use Rattle.qgm_props.specs.InferredKeys.{places_to}
use Rattle.qgm_props.specs.Keys.{holds_key}
use Rattle.qgm_props.specs.Table.{facts_of}
use Rattle.rule_distinct.proofs.ToldKeys.{select_width, told_key}
use Rattle.rule_distinct.proofs.drop_key_distinct.is_keyed_preserve.Goals as goal

pub returns-clause-test : goal.returns-clause-test
returns-clause-test c =
    let g = c.args.graph.now in
    let n = c.args.node.now in
    let one = (facts_of c.in_ok-facts.facts).at_most_one in
    let wide : c.len.result ≡ width n = c.len.ensures ∙ sym (select_width n.parts.kind (length n.parts.head) c.requires.select) in
    let columns : c.deref.result.now ≡ places_to (width n) = c.deref.ensures.value ∙ c.in_ok-columns.ensures ∙ ap places_to wide in
    c.in_ok-keyed.ensures ∙ ap (λ (ks : List ℕ). holds_key one (set_distinct n.id Preserve g).boxes n.id ks) columns
    ∙ told_key g.boxes n.id Preserve (facts_of c.in_ok-facts.facts) c.in_ok-facts.ensures.told n.id (places_to (width n))
