-- When a graph is calm: its open boxes may be fed with the rows in which they are read, and nothing fails that didn't.
use Rattle.std.specs.Prelude.{ℕ, ◌==◌, ◌&&◌, ◌||◌, not, Bool, List}
use Rattle.std.specs.List.{list_all}
use Rattle.qgm_core.specs.Boxes.{owns, width}
use Rattle.qgm_core.specs.Free.{free_in}
use Rattle.qgm_core.specs.Kinds.{is_S, is_magic}
use Rattle.qgm_core.specs.declared.node.Node.{Node}
use Rattle.qgm_core.specs.declared.owned.OwnedQuant.{OwnedQuant}
use Rattle.qgm_terms.specs.declared.named.Column.{Column}
use Rattle.qgm_wellformed.specs.Columns.{columns_of}
use Rattle.qgm_wellformed.specs.WellFormed.{is_empty}
use Rattle.qgm_props.specs.Inferred.{Facts, all_places, all_under, error_free_under}

-- nothing is free in box b
abbrev pub is_closed : List Node → ℕ → Bool
is_closed boxes b = is_empty (free_in boxes b)

-- of boxes and facts that are known of them
module _ (boxes : List Node) (known : Facts) where
  -- a box but the root is clean
  abbrev pub clean_below : ℕ → Node → Bool
  clean_below root n = n.id == root || known.clean n.id

  -- a column that another box than its quantifier's owner names is error-free
  abbrev pub calm_column : Node → Column → Bool
  calm_column n c = owns c.quant n || error_free_under boxes known c.quant c.place

  -- and so is column 1 under an S quantifier over an open box that isn't known to have at most one row
  abbrev pub calm_scalar : OwnedQuant → Bool
  calm_scalar r = not (is_S r.kind) || (is_closed boxes r.over || (known.at_most_one r.over || known.error_free r.over 1))

  -- a magic box is closed, ranges over closed boxes alone and has error-free columns
  abbrev pub calm_magic : Node → Bool
  calm_magic n = is_closed boxes n.id && (all_under (is_closed boxes) n.quants && all_places (width n) (known.error_free n.id))

  abbrev pub calm_box : ℕ → Node → Bool
  calm_box root n = (clean_below root n && list_all (calm_column n) (columns_of n)) && (list_all calm_scalar n.quants && (not (is_magic n.parts.role) || calm_magic n))

  abbrev pub calm : ℕ → Bool
  calm root = list_all (calm_box root) boxes
