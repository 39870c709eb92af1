-- Groups of rows under tags.
use Rattle.std.specs.Prelude.{ℕ, zero, suc, ◌≡◌, ◌==◌, ◌++◌, if◌then◌else◌, true, false, List, [], ◌∷◌, take, drop, length}
use Rattle.row_bag.specs.AsSets.{stands}
use Rattle.row_bag.specs.Tags.{led}
use Rattle.row_bag.specs.Bags.{Agree, bind, keep, unit}
use Rattle.row_bag.specs.Joins.{or_else}
use Rattle.row_bag.specs.Sets.{grouped, once, same_cells}
use Rattle.sql_value.specs.declared.cell.Cell.{Cell}
use Rattle.sql_value.specs.declared.level.Level.TheVariants.{No, Yes}
use Rattle.row_bag.specs.declared.tables.Table.{Table}
use Rattle.qgm_core.specs.Kinds.{is_F}
use Rattle.qgm_core.specs.declared.kinds.BoxKind.TheVariants.{Select}
use Rattle.qgm_core.specs.declared.kinds.Distinct.TheVariants.{Preserve}
use Rattle.qgm_core.specs.declared.owned.OwnedQuant.{OwnedQuant}
use Rattle.qgm_core.specs.declared.parts.BoxParts.{BoxParts}
use Rattle.qgm_meaning.specs.Meaning.{Family, fold_cells, groups, key_cells, rows_by}
use Rattle.qgm_meaning.specs.Rules.{selecting}
use Rattle.qgm_meaning.specs.Values.{Bag, Environment, bound}
use Rattle.qgm_meaning.specs.Widths.{Wide}
use Rattle.qgm_terms.specs.Terms.{Term, col}

-- a key behind a tag of w cells: the tag, and the key of the rest
abbrev pub tagged_key : ℕ → ℕ → List Term → ℕ → Environment → List Cell → List Cell
tagged_key w k head q env cells = take w cells ++ key_cells k head q env (drop w cells)

-- the row of a group of tagged rows: the tag, the key, and the aggregates of the rows without their tags
abbrev pub tagged_row : ℕ → ℕ → List Term → ℕ → Environment → List Cell → Bag → List Cell
tagged_row w k head q env key rows = take w key ++ (drop w key ++ fold_cells k head q env (bind rows (λ cells. unit (drop w cells))))

-- groups by tag and key are, under each tag, the groups by key of its rows
abbrev pub GroupsTagged : Type 0
GroupsTagged =
    (w : ℕ) (tags : Bag) (f : List Cell → Bag) (k : ℕ) (head : List Term) (q : ℕ) (env : Environment) → ((tag : List Cell) → stands same_cells tag tags ≡ true → length tag ≡ w)
    → Agree same_cells (grouped same_cells (tagged_key w (suc k) head q env) (tagged_row w (suc k) head q env) (led (once same_cells tags) f)) (led (once same_cells tags) (λ tag. groups (suc k) head q env (f tag)))

-- without keys there is one row of each tag, also of one without rows: of the groups by tags alone that of the same tag, or where there is none the aggregates of nothing
abbrev pub GroupTagged : Type 0
GroupTagged =
    (w : ℕ) (tags : Bag) (f : List Cell → Bag) (head : List Term) (q : ℕ) (env : Environment) → ((tag : List Cell) → stands same_cells tag tags ≡ true → length tag ≡ w)
    → Agree same_cells
    (bind (once same_cells tags) (λ tag.
    or_else
    (bind (grouped same_cells (take w) (λ tag rows. tag ++ fold_cells 0 head q env (bind rows (λ cells. unit (drop w cells)))) (led (once same_cells tags) f)) (λ cells. keep (if same_cells (take w cells) tag then Yes else No) (unit (tag ++ drop w cells))))
    (unit (tag ++ fold_cells 0 head q env []))))
    (led (once same_cells tags) (λ tag. groups 0 head q env (f tag)))

-- w columns of q, from place k on
abbrev pub columns_from : ℕ → ℕ → ℕ → List Term
columns_from q k zero = []
columns_from q k (suc w) = col q k ∷ columns_from q (suc k) w

-- a select of two F quantifiers without a condition, whose head is all columns of both, gives each row of the first before the rows that the second has where the first is bound to it; so does a fed box of its magic box and its open box
abbrev pub FedRows : Type 0
FedRows =
    (tables : List Table) (s : Family) (b : ℕ) (p : BoxParts) (first second : OwnedQuant) (w v : ℕ) (env : Environment) → is_F first.kind ≡ true → is_F second.kind ≡ true → (second.id == first.id) ≡ false
    → Wide w (s first.id env) → ((tag : List Cell) → Wide v (s second.id (bound first.id tag env)))
    → rows_by Select tables (selecting b p Preserve [] (columns_from first.id 1 w ++ columns_from second.id 1 v) (first ∷ second ∷ [])) s env ≡ led (s first.id env) (λ tag. s second.id (bound first.id tag env))
