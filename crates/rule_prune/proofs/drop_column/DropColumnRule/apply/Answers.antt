use Rattle.rule_prune.specs.DropColumn.{MayDropColumn}
use Rattle.rule_prune.specs.DropColumnExact.{drop_column_exact}
use Rattle.rule_prune.proofs.DropColumnActs.{acts, cut-from, cut-held, cut-there, cut-within, preserves}
use Rattle.rule_prune.proofs.drop_column.DropColumnRule.apply.Goals as goal

pub pruned_column-requires-clause-given : goal.pruned_column-requires-clause-given
pruned_column-requires-clause-given c =
    let may : MayDropColumn c.args.place c.args.graph.now = (drop_column_exact c.args.graph.now c.args.place.at c.args.place.i c.args.place.j c.each_number_once.ensures c.requires.formed).0 c.requires.given in
    cut-there c.args.place c.args.graph.now c.each_number_once.ensures c.requires.formed may

pub pruned_column-requires-clause-held : goal.pruned_column-requires-clause-held
pruned_column-requires-clause-held c =
    let may : MayDropColumn c.args.place c.args.graph.now = (drop_column_exact c.args.graph.now c.args.place.at c.args.place.i c.args.place.j c.each_number_once.ensures c.requires.formed).0 c.requires.given in
    cut-held c.args.graph.now c.args.place.at c.args.place.i (cut-there c.args.place c.args.graph.now c.each_number_once.ensures c.requires.formed may)

pub pruned_column-requires-clause-from_one : goal.pruned_column-requires-clause-from_one
pruned_column-requires-clause-from_one c =
    let may : MayDropColumn c.args.place c.args.graph.now = (drop_column_exact c.args.graph.now c.args.place.at c.args.place.i c.args.place.j c.each_number_once.ensures c.requires.formed).0 c.requires.given in
    cut-from c.args.graph.now c.args.place.at c.args.place.i (cut-there c.args.place c.args.graph.now c.each_number_once.ensures c.requires.formed may)

pub pruned_column-requires-clause-within : goal.pruned_column-requires-clause-within
pruned_column-requires-clause-within c =
    let may : MayDropColumn c.args.place c.args.graph.now = (drop_column_exact c.args.graph.now c.args.place.at c.args.place.i c.args.place.j c.each_number_once.ensures c.requires.formed).0 c.requires.given in
    cut-within c.args.graph.now c.args.place.at c.args.place.i (cut-there c.args.place c.args.graph.now c.each_number_once.ensures c.requires.formed may)

pub returns-clause-acts : goal.returns-clause-acts
returns-clause-acts c =
    let may : MayDropColumn c.args.place c.args.graph.now = (drop_column_exact c.args.graph.now c.args.place.at c.args.place.i c.args.place.j c.each_number_once.ensures c.requires.formed).0 c.requires.given in
    acts c.args.place c.args.graph.now c.each_number_once.ensures c.requires.formed may c.in_ok-after.after c.in_ok-after.ensures

pub returns-clause-preserves : goal.returns-clause-preserves
returns-clause-preserves c =
    let may : MayDropColumn c.args.place c.args.graph.now = (drop_column_exact c.args.graph.now c.args.place.at c.args.place.i c.args.place.j c.each_number_once.ensures c.requires.formed).0 c.requires.given in
    preserves c.args.place c.args.graph.now c.each_number_once.ensures c.requires.formed may c.in_ok-after.after c.in_ok-after.ensures
