use Rattle.std.proofs.Common.{refl}
use Rattle.std.specs.Fmt.{digits}
use Rattle.graph_print.specs.GraphText.{box_line, box_lines, cell_line, cond_line, key_text, kind_text, name_text, part_lines, quant_line, type_line}
use Rattle.graph_print.proofs.laws.examples.Goals as goal

pub returns-clause-graphs : goal.returns-clause-graphs
unfolding digits box_line box_lines cell_line cond_line key_text kind_text name_text part_lines quant_line type_line
returns-clause-graphs c = record { plain = refl; counted = refl; joined = refl }

pub returns-clause-terms : goal.returns-clause-terms
unfolding digits
returns-clause-terms c = record { chain = refl; quote = refl; case = refl; distinct = refl; or = refl }
