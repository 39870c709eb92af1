-- Groups of rows under tags.
use Rattle.std.proofs.Common.{suc, List, ◌++◌, drop, ap}
use Rattle.row_bag.proofs.Leading.{led-groups}
use Rattle.row_bag.proofs.LeadingWhole.{led-whole_groups}
use Rattle.row_bag.specs.Sets.{same_cells}
use Rattle.row_bag.proofs.Counts.{alike-from_agree}
use Rattle.row_bag.proofs.TupleBags.{same_cells-decides}
use Rattle.sql_value.specs.declared.cell.Cell.{Cell}
use Rattle.qgm_meaning.specs.Meaning.{fold_cells, key_cells}
use Rattle.qgm_meaning.specs.Tags.{GroupTagged, GroupsTagged}
use Rattle.qgm_meaning.proofs.Alikes.{folds-alike}

pub groups-tagged : GroupsTagged
groups-tagged = λ w tags f k head q env long.
    led-groups w tags f (key_cells (suc k) head q env) (λ key members. key ++ fold_cells (suc k) head q env members) long
    (λ key xs ys h. ap (λ (cells : List Cell). key ++ cells) (folds-alike q env (drop (suc k) head) (alike-from_agree same_cells same_cells-decides h)))

pub group-tagged : GroupTagged
group-tagged = λ w tags f head q env long. led-whole_groups w tags f (fold_cells 0 head q env) long (λ xs ys h. folds-alike q env (drop 0 head) (alike-from_agree same_cells same_cells-decides h))
