use Rattle.std.proofs.Common.{◌∙◌, ap, subst, sym}
use Rattle.qgm_core.specs.Boxes.{HasBox, HasQuant, QueryGraph}
use Rattle.qgm_core.specs.declared.owned.OwnedQuant.{OwnedQuant}
use Rattle.rule_feed.specs.FeedActs.{Feeds}
use Rattle.rule_feed.specs.FillSteps.{as_numbers, fill_edits}
use Rattle.rule_feed.proofs.FeedFires.{Fires, acts, box-there, numbered, quant-there, settled-id, settled-over, under-box}
use Rattle.rule_feed.proofs.FeedKeeps.{feed-preserves}
use Rattle.rule_feed.proofs.feed.action.fed_at.Goals as goal

pub settled-requires-clause-held : goal.settled-requires-clause-held
settled-requires-clause-held c = box-there c.args.graph.now c.each_number_once.ensures c.requires.formed c.args.place c.found_at.result.0.now c.found_at.result.1 c.found_at.ensures

pub settled-requires-clause-owned : goal.settled-requires-clause-owned
settled-requires-clause-owned c = quant-there c.args.graph.now c.each_number_once.ensures c.requires.formed c.args.place c.found_at.result.0.now c.found_at.result.1 c.found_at.ensures

pub split_off-requires-clause-held : goal.split_off-requires-clause-held
split_off-requires-clause-held c =
    c.in_ok-after.ensures.kept.0 c.found_at.result.0.now.id (box-there c.args.graph.now c.each_number_once.ensures c.requires.formed c.args.place c.found_at.result.0.now c.found_at.result.1 c.found_at.ensures)

pub split_off-requires-clause-all : goal.split_off-requires-clause-all
split_off-requires-clause-all c = λ y i. c.in_ok-after.ensures.kept.0 y (numbered c.args.graph.now y i)

pub fill-requires-clause-held : goal.fill-requires-clause-held
fill-requires-clause-held c =
    c.in_ok-made.ensures.kept.0 c.found_at.result.0.now.id
    (c.in_ok-after.ensures.kept.0 c.found_at.result.0.now.id (box-there c.args.graph.now c.each_number_once.ensures c.requires.formed c.args.place c.found_at.result.0.now c.found_at.result.1 c.found_at.ensures))

pub fill-requires-clause-under : goal.fill-requires-clause-under
fill-requires-clause-under c =
    let r : OwnedQuant = c.found_at.result.1 in
    subst (λ z. HasBox z c.split_off.new.after) (sym (ap (λ (q : OwnedQuant). q.over) c.settled_quant.ensures ∙ settled-over r)) (c.in_ok-made.ensures.kept.0 r.over
    (c.in_ok-after.ensures.kept.0 r.over (under-box c.args.graph.now c.each_number_once.ensures c.requires.formed c.args.place c.found_at.result.0.now r c.found_at.ensures)))

pub fill-requires-clause-owned : goal.fill-requires-clause-owned
fill-requires-clause-owned c =
    let r : OwnedQuant = c.found_at.result.1 in
    subst (λ z. HasQuant z c.split_off.new.after) (sym (ap (λ (q : OwnedQuant). q.id) c.settled_quant.ensures ∙ settled-id r)) (c.in_ok-made.ensures.kept.1 r.id
    (c.in_ok-after.ensures.kept.1 r.id (quant-there c.args.graph.now c.each_number_once.ensures c.requires.formed c.args.place c.found_at.result.0.now r c.found_at.ensures)))

pub returns-clause-acts : goal.returns-clause-acts
returns-clause-acts c =
    let k : Fires c.args.graph.now c.found_at.result.0.now c.found_at.result.1 c.in_ok-after.after c.split_off.new.after c.fill.new.graph c.in_ok-made.made.s c.in_ok-made.made.q (as_numbers c.in_ok-fill.field-0) = record {
      settles = c.in_ok-after.ensures.graph;
      all = c.in_ok-after.ensures.kept;
      new_s = c.in_ok-made.ensures.new_s;
      new_q = c.in_ok-made.ensures.new_q;
      splits = c.in_ok-made.ensures.graph;
      new = c.in_ok-fill.ensures.fresh;
      fills = c.in_ok-fill.ensures.graph ∙ ap (λ (i : OwnedQuant). fill_edits c.split_off.new.after c.found_at.result.0.now.id c.in_ok-made.made.s c.in_ok-made.made.q i (as_numbers c.in_ok-fill.field-0)) c.settled_quant.ensures;
    } in
    subst (λ (h : QueryGraph). Feeds c.args.place c.args.graph.now h) (sym c.in_ok-compact.ensures.ok)
    (acts c.args.graph.now c.each_number_once.ensures c.requires.formed c.args.place c.found_at.result.0.now c.found_at.result.1 c.found_at.ensures c.in_ok-after.after c.split_off.new.after c.fill.new.graph c.in_ok-made.made.s c.in_ok-made.made.q (as_numbers c.in_ok-fill.field-0) k)

pub returns-clause-preserves : goal.returns-clause-preserves
returns-clause-preserves c = feed-preserves c.args.graph.now c.compact.new.self c.each_number_once.ensures c.requires.formed c.args.place c.requires.given (returns-clause-acts c)
