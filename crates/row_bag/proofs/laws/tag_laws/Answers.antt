use Rattle.std.proofs.Common.{List}
use Rattle.sql_value.specs.declared.cell.Cell.{Cell}
use Rattle.row_bag.specs.Sets.{same_cells}
use Rattle.row_bag.proofs.TupleBags.{same_cells-decides}
use Rattle.row_bag.proofs.Leading.{led-groups}
use Rattle.row_bag.proofs.LeadingWhole.{led-back, led-whole_groups}
use Rattle.row_bag.proofs.Tagging.{tag-laws}
use Rattle.row_bag.proofs.laws.tag_laws.Goals as goal

pub returns-clause-tags : goal.returns-clause-tags
returns-clause-tags c = tag-laws (List Cell) (List Cell) (List Cell) (List Cell) same_cells same_cells-decides same_cells same_cells-decides

pub returns-clause-led : goal.returns-clause-led
returns-clause-led c = led-groups

pub returns-clause-led_whole : goal.returns-clause-led_whole
returns-clause-led_whole c = led-whole_groups

pub returns-clause-led_back : goal.returns-clause-led_back
returns-clause-led_back c = led-back
