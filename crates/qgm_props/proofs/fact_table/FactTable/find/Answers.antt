use Rattle.std.proofs.Common.{◌≡◌, ◌∙◌, ◌==◌, ℕ, List, None, Some, position, ap, sym}
use Rattle.list_laws.specs.Lists.{first}
use Rattle.qgm_props.specs.Table.{is_of}
use Rattle.qgm_props.specs.declared.facts.BoxFacts.{BoxFacts}
use Rattle.qgm_props.proofs.ByNumber.{fact-none, fact-some, position-facts}
use Rattle.qgm_props.proofs.fact_table.FactTable.find.Goals as goal

pub returns-in-Some : goal.returns-in-Some
returns-in-Some c =
    let ts = c.self.inside.list.items in
    let b = c.args.b in
    let at : position (is_of b) ts ≡ Some c.in-Some.i = sym (position-facts b ts) ∙ sym (ap (λ (xs : List ℕ). position (λ x. x == b) xs) c.self.invariant) ∙ sym c.find.ensures ∙ c.in-Some.is in
    ap (λ (f : BoxFacts). Some f) c.index.ensures ∙ sym (fact-some b ts c.in-Some.i c.index.result.now at) ∙ ap (first (is_of b)) c.self.view_is

pub returns-in-None : goal.returns-in-None
returns-in-None c =
    let ts = c.self.inside.list.items in
    let b = c.args.b in
    let at : position (is_of b) ts ≡ None = sym (position-facts b ts) ∙ sym (ap (λ (xs : List ℕ). position (λ x. x == b) xs) c.self.invariant) ∙ sym c.find.ensures ∙ c.in-None.is in
    sym (fact-none b ts at) ∙ ap (first (is_of b)) c.self.view_is
