-- Groups of rows as ranges, and groups of the same rows as lists of cells.
use Rattle.std.proofs.Common.{◌≡◌, Bool, List, [], ◌∷◌, replicate, refl, ap, ap₂}
use Rattle.row_bag.specs.Bags.{bind, unit}
use Rattle.row_bag.specs.Errors.{error_in}
use Rattle.row_bag.specs.Sets.{same_cells}
use Rattle.row_bag.specs.declared.row.Row.{Row}
use Rattle.sql_ast.specs.declared.name.Column.{Column}
use Rattle.sql_ast.specs.declared.word.SetFunction.{SetFunction}
use Rattle.sql_value.specs.declared.cell.Cell.{Cell}
use Rattle.sql_value.specs.declared.cell.Cell.TheVariants.{Null, Err}
use Rattle.sql_value.specs.declared.cell.Kind.{Kind}
use Rattle.sql_meaning.specs.Groups.{Group, Grouped, aggregated, count_all, count_cell, failed, groups_of, members, of_arguments, one_group, same_key}
use Rattle.sql_meaning.specs.Groups as g
use Rattle.sql_meaning.specs.Scopes.{Frame, Shape, filled, frame_cells}
use Rattle.sql_meaning.specs.ResolvedMeaning as c
use Rattle.sql_names.specs.Places.{grouping_places, width}
use Rattle.sql_names.proofs.Frames.{FrameIs, in_all, key_is}
use Rattle.sql_names.proofs.Related.{Related, related_collapsed, related_equal, related_grouped, related_how_many, related_map, related_unit}

abbrev pub GroupIs : Shape → Group Frame → Group (List Cell) → Type 0
GroupIs ranges (members xs) (members ys) = Related (FrameIs ranges) xs ys
GroupIs ranges (failed j) (failed k) = j ≡ k
GroupIs ranges (members xs) (failed k) = ⊥
GroupIs ranges (failed j) (members ys) = ⊥

pub record OneIs (ranges : Shape) (one : Grouped Frame) (other : Grouped (List Cell)) : Type 0 where
  pub key : FrameIs ranges one.key other.key
  pub group : GroupIs ranges one.group other.group

-- ---- aggregates

pub aggregated_same : (ranges : Shape) (f : SetFunction) (distinct : Bool) (argument : Frame → Cell) (other : List Cell → Cell) → ((frame : Frame) (row : List Cell) → FrameIs ranges frame row → argument frame ≡ other row)
    → (one : Group Frame) (two : Group (List Cell)) → GroupIs ranges one two → aggregated f distinct argument one ≡ aggregated f distinct other two
aggregated_same ranges f distinct argument other each (members xs) (members ys) h =
    ap (of_arguments f distinct) (related_equal (bind xs (λ frame. unit (argument frame))) (bind ys (λ row. unit (other row))) (related_map (FrameIs ranges) (λ a b. a ≡ b) argument other each xs ys h))
aggregated_same ranges f distinct argument other each (failed j) (failed k) h = ap (λ (e : Kind). Err e) h
aggregated_same ranges f distinct argument other each (members xs) (failed k) h = absurd h
aggregated_same ranges f distinct argument other each (failed j) (members ys) h = absurd h

pub count_same : (ranges : Shape) (one : Group Frame) (two : Group (List Cell)) → GroupIs ranges one two → count_all one ≡ count_all two
count_same ranges (members xs) (members ys) h = ap count_cell (related_how_many (FrameIs ranges) xs ys h)
count_same ranges (failed j) (failed k) h = ap (λ (e : Kind). Err e) h
count_same ranges (members xs) (failed k) h = absurd h
count_same ranges (failed j) (members ys) h = absurd h

-- ---- groups

keys_tell : (ranges : Shape) (a : Frame) (b : List Cell) (d : Frame) (e : List Cell) → FrameIs ranges a b → FrameIs ranges d e → same_key a d ≡ same_cells b e
keys_tell ranges a b d e h k = ap₂ same_cells h.cells k.cells

pub groups_related : (by : List Column) (ranges : Shape) (xs : List (Row Frame)) (ys : List (Row (List Cell))) → Related (FrameIs ranges) xs ys
    → Related (OneIs ranges) (g.groups by ranges xs) (c.groups (grouping_places by ranges) (width ranges) ys)
groups_related by ranges xs ys h =
    related_collapsed (FrameIs ranges) (OneIs ranges)
    (λ frame. error_in (frame_cells (g.key by frame))) (λ row. error_in (c.key (grouping_places by ranges) row))
    (λ frame row f. ap error_in (key_is by ranges frame row f).cells)
    (λ k. one_group (g.key by (filled (Err k) ranges)) (failed k)) (λ k. one_group (c.key (grouping_places by ranges) (replicate (width ranges) (Err k))) (failed k))
    (λ k. record { key = key_is by ranges (filled (Err k) ranges) (replicate (width ranges) (Err k)) (in_all (Err k) ranges); group = refl })
    xs ys h
    (groups_of (g.is_keyed by) same_key (g.key by) (filled Null ranges) xs)
    (groups_of (c.is_keyed (grouping_places by ranges)) same_cells (c.key (grouping_places by ranges)) (replicate (width ranges) Null) ys)
    (made by)
  where
    made : (group : List Column)
        → Related (OneIs ranges)
        (groups_of (g.is_keyed group) same_key (g.key group) (filled Null ranges) xs)
        (groups_of (c.is_keyed (grouping_places group ranges)) same_cells (c.key (grouping_places group ranges)) (replicate (width ranges) Null) ys)
    made [] = related_unit (OneIs ranges) (one_group (filled Null ranges) (members xs)) (one_group (replicate (width ranges) Null) (members ys)) (record { key = in_all Null ranges; group = h })
    made (d ∷ group) =
        related_grouped (FrameIs ranges) (FrameIs ranges) (OneIs ranges) same_key same_cells (keys_tell ranges)
        (g.key (d ∷ group)) (c.key (grouping_places (d ∷ group) ranges)) (key_is (d ∷ group) ranges)
        (λ k rows. one_group k (members rows)) (λ k rows. one_group k (members rows))
        (λ k l us vs s r. record { key = s; group = r })
        xs ys h
