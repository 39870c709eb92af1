use Rattle.std.proofs.lemmas.Grind.{common_steps}
use Rattle.std.proofs.Common.{◌≡◌, ◌<◌, ◌∙◌, List, ap, length, get_or, true, false, refl, subst, sym, arith}
use Rattle.qgm_core.specs.declared.node.Node.{Node}
use Rattle.qgm_props.specs.Table.{Improves, facts_of, improved, unknown_in}
use Rattle.qgm_props.proofs.SettledFacts.{settled-is}
use Rattle.qgm_props.specs.declared.facts.BoxFacts.{BoxFacts}
use Rattle.qgm_props.proofs.Improving.{beside, beside-long}
use Rattle.qgm_props.proofs.Steps.{step-id, step-improves, step-less, step-stable}
use Rattle.qgm_props.proofs.infer.improve_at.Goals as goal

pub at-old-requires : goal.at-old-requires
at-old-requires c = let b = beside-long c.args.nodes.now c.args.table.now (beside c.args.nodes.now c.args.table.now c.requires.improves) in let w = c.requires.within in omega (arith, b, w)

pub put-requires-clause-within : goal.put-requires-clause-within
put-requires-clause-within c = let b = beside-long c.args.nodes.now c.args.table.now (beside c.args.nodes.now c.args.table.now c.requires.improves) in let w = c.requires.within in omega (arith, b, w)

pub returns-then-is_settled-clause-same : goal.returns-then-is_settled-clause-same
returns-then-is_settled-clause-same c =
    let b = beside-long c.args.nodes.now c.args.table.now (beside c.args.nodes.now c.args.table.now c.requires.improves) in let w = c.requires.within in
    let inside : c.args.i < length c.args.table.now = omega (arith, b, w) in
    let node : c.index-nodes-i.result ≡ get_or c.args.nodes.now c.args.i c.index-nodes-i.result = c.index-nodes-i.is ∙ ap (λ (ns : List Node). get_or ns c.args.i c.index-nodes-i.result) c.nodes.ensures in
    λ _. (
      refl,
      step-stable c.args.nodes.now c.args.table.now c.args.table.now c.args.i c.index-nodes-i.result c.at-old.result.now c.at-old.result.now (improved c.args.nodes.now (facts_of c.args.table.now) c.index-nodes-i.result c.at-old.result.now) c.requires.improves refl c.requires.within inside node c.at-old.ensures c.at-old.ensures refl
          ((settled-is c.args.nodes.now (facts_of c.args.table.now) c.index-nodes-i.result c.at-old.result.now).0 (sym c.is_settled.ensures ∙ c.if-is_settled.true)),
    )

pub put-requires-clause-same : goal.put-requires-clause-same
put-requires-clause-same c =
    let b = beside-long c.args.nodes.now c.args.table.now (beside c.args.nodes.now c.args.table.now c.requires.improves) in let w = c.requires.within in
    let inside : c.args.i < length c.args.table.now = omega (arith, b, w) in
    let node : c.index-nodes-i.result ≡ get_or c.args.nodes.now c.args.i c.index-nodes-i.result = c.index-nodes-i.is ∙ ap (λ (ns : List Node). get_or ns c.args.i c.index-nodes-i.result) c.nodes.ensures in
    step-id c.args.nodes.now c.args.table.now c.args.table.now c.args.i c.index-nodes-i.result c.at-old.result.now c.at-old.result.now c.in_ok-next.next c.requires.improves refl c.requires.within inside node c.at-old.ensures c.at-old.ensures c.in_ok-next.ensures

pub returns-clause-improves : goal.returns-clause-improves
returns-clause-improves c =
    let b = beside-long c.args.nodes.now c.args.table.now (beside c.args.nodes.now c.args.table.now c.requires.improves) in let w = c.requires.within in
    let inside : c.args.i < length c.args.table.now = omega (arith, b, w) in
    let node : c.index-nodes-i.result ≡ get_or c.args.nodes.now c.args.i c.index-nodes-i.result = c.index-nodes-i.is ∙ ap (λ (ns : List Node). get_or ns c.args.i c.index-nodes-i.result) c.nodes.ensures in
    subst (Improves c.args.nodes.now) (sym c.put.ensures) (step-improves c.args.nodes.now c.args.table.now c.args.table.now c.args.i c.index-nodes-i.result c.at-old.result.now c.at-old.result.now c.in_ok-next.next c.requires.improves refl c.requires.within inside node c.at-old.ensures c.at-old.ensures c.in_ok-next.ensures)

pub returns-clause-less : goal.returns-clause-less
returns-clause-less c =
    let b = beside-long c.args.nodes.now c.args.table.now (beside c.args.nodes.now c.args.table.now c.requires.improves) in let w = c.requires.within in
    let inside : c.args.i < length c.args.table.now = omega (arith, b, w) in
    let node : c.index-nodes-i.result ≡ get_or c.args.nodes.now c.args.i c.index-nodes-i.result = c.index-nodes-i.is ∙ ap (λ (ns : List Node). get_or ns c.args.i c.index-nodes-i.result) c.nodes.ensures in
    λ _. subst (λ (t : List BoxFacts). unknown_in t < unknown_in c.args.table.now) (sym c.put.ensures) (step-less c.args.nodes.now c.args.table.now c.args.table.now c.args.i c.index-nodes-i.result c.at-old.result.now c.at-old.result.now c.in_ok-next.next c.requires.improves refl c.requires.within inside node c.at-old.ensures c.at-old.ensures c.in_ok-next.ensures
    (λ same. let t = c.is_settled.ensures ∙ (settled-is c.args.nodes.now (facts_of c.args.table.now) c.index-nodes-i.result c.at-old.result.now).1 (sym c.in_ok-next.ensures ∙ same) in let f = c.if-is_settled.false in let k : true ≡ false = sym t ∙ f in cc))

pub returns-then-is_settled-clause-less : goal.returns-then-is_settled-clause-less
returns-then-is_settled-clause-less c = grind (arith, common_steps)
