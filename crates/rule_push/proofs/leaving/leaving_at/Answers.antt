use Rattle.std.proofs.Common.{◌∙◌, sym, ap}
use Rattle.qgm_core.specs.Boxes.{is_box}
use Rattle.list_laws.specs.Lists.{first}
use Rattle.qgm_terms.specs.Shown.{cond}
use Rattle.rule_push.specs.PushPlaces.{is_read}
use Rattle.rule_push.proofs.LeavingSteps as steps
use Rattle.rule_push.proofs.leaving.leaving_at.Goals as goal

pub unreachable-requires : goal.unreachable-requires
unreachable-requires c =
    steps.no-box c.args.graph.now c.requires.formed c.args.place c.requires.leaves (sym (c.in_default.ensures ∙ ap (first (is_box c.args.place.at)) c.nodes.ensures))

pub at-p-requires-clause-from_one : goal.at-p-requires-clause-from_one
at-p-requires-clause-from_one c = steps.from-one c.args.graph.now c.requires.formed c.args.place c.requires.leaves

pub at-p-requires-clause-within : goal.at-p-requires-clause-within
at-p-requires-clause-within c =
    let m = c.requires.leaves in
    let b = steps.b-is c.args.graph.now c.requires.formed c.args.place m c.in-Some.b.now (sym (c.in-Some.ensures ∙ ap (first (is_box c.args.place.at)) c.nodes.ensures)) in
    steps.within c.args.graph.now c.requires.formed c.args.place m c.in-Some.b.now b

pub unreachable-requires-in_default-read_quant : goal.unreachable-requires-in_default-read_quant
unreachable-requires-in_default-read_quant c =
    let m = c.requires.leaves in
    let b = steps.b-is c.args.graph.now c.requires.formed c.args.place m c.in-Some.b.now (sym (c.in-Some.ensures ∙ ap (first (is_box c.args.place.at)) c.nodes.ensures)) in
    let p = steps.p-is c.args.graph.now c.requires.formed c.args.place m c.in-Some.b.now b (cond c.at-p.result.now) c.at-p.ensures in
    steps.no-quant c.args.graph.now c.requires.formed c.args.place m c.in-Some.b.now b (cond c.at-p.result.now) p
    (sym (c.in_default-read_quant.ensures ∙ ap (first (is_read (cond c.at-p.result.now))) c.as_slice.ensures))

pub unreachable-requires-in_default-box_at : goal.unreachable-requires-in_default-box_at
unreachable-requires-in_default-box_at c =
    let m = c.requires.leaves in
    let b = steps.b-is c.args.graph.now c.requires.formed c.args.place m c.in-Some.b.now (sym (c.in-Some.ensures ∙ ap (first (is_box c.args.place.at)) c.nodes.ensures)) in
    let p = steps.p-is c.args.graph.now c.requires.formed c.args.place m c.in-Some.b.now b (cond c.at-p.result.now) c.at-p.ensures in
    let r = steps.r-is c.args.graph.now c.requires.formed c.args.place m c.in-Some.b.now b (cond c.at-p.result.now) p c.in-Some-read_quant.r (sym (c.in-Some-read_quant.ensures ∙ ap (first (is_read (cond c.at-p.result.now))) c.as_slice.ensures)) in
    steps.no-under c.args.graph.now c.requires.formed c.args.place m c.in-Some-read_quant.r r
    (sym (c.in_default-box_at.ensures ∙ ap (first (is_box c.in-Some-read_quant.r.over)) c.nodes-2.ensures))

pub returns : goal.returns
returns c = λ m.
    let b = steps.b-is c.args.graph.now c.requires.formed c.args.place m c.in-Some.b.now (sym (c.in-Some.ensures ∙ ap (first (is_box c.args.place.at)) c.nodes.ensures)) in
    let p = steps.p-is c.args.graph.now c.requires.formed c.args.place m c.in-Some.b.now b (cond c.at-p.result.now) c.at-p.ensures in
    let r = steps.r-is c.args.graph.now c.requires.formed c.args.place m c.in-Some.b.now b (cond c.at-p.result.now) p c.in-Some-read_quant.r (sym (c.in-Some-read_quant.ensures ∙ ap (first (is_read (cond c.at-p.result.now))) c.as_slice.ensures)) in
    record {
      from_one = steps.from-one c.args.graph.now c.requires.formed c.args.place m;
      within = steps.within c.args.graph.now c.requires.formed c.args.place m c.in-Some.b.now b;
      b = b;
      p = p;
      r = r;
      c = steps.c-is c.args.graph.now c.requires.formed c.args.place m c.in-Some-read_quant.r r c.in-Some-box_at.c.now (sym (c.in-Some-box_at.ensures ∙ ap (first (is_box c.in-Some-read_quant.r.over)) c.nodes-2.ensures));
    }
