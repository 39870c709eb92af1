use Rattle.qgm_translation_laws.proofs.LaidGraphs.{graph_right, graphs_alike, graphs_one_to_one, graphs_print_alike, laid_graph}
use Rattle.qgm_translation_laws.proofs.Numbers.{laid_numbered}
use Rattle.qgm_translation_laws.proofs.laid.laid_graph_laws.Goals as goal

pub returns-clause-right : goal.returns-clause-right
returns-clause-right c = graph_right

pub returns-clause-laid : goal.returns-clause-laid
returns-clause-laid c = laid_graph

pub returns-clause-numbered : goal.returns-clause-numbered
returns-clause-numbered c = laid_numbered

pub returns-clause-one_to_one : goal.returns-clause-one_to_one
returns-clause-one_to_one c = graphs_one_to_one

pub returns-clause-alike : goal.returns-clause-alike
returns-clause-alike c = graphs_alike

pub returns-clause-text : goal.returns-clause-text
returns-clause-text c = graphs_print_alike
