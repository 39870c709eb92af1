use Rattle.std.proofs.Common.{refl}
use Rattle.std.specs.Fmt.{digits}
use Rattle.graph_print.specs.GraphText.{box_line, box_lines, cell_line, cond_line, key_text, kind_text, name_text, part_lines, quant_line, type_line}
use Rattle.qgm_run.specs.Explained.{count_line, fire_line_in, graph_lines}
use Rattle.qgm_run.proofs.laws.examples.Goals as goal

pub returns : goal.returns
unfolding digits box_line box_lines cell_line cond_line key_text kind_text name_text part_lines quant_line type_line count_line fire_line_in graph_lines
returns c = refl
