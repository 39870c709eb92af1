-- A box that is evaluated, and what its quantifiers give.
use Rattle.std.specs.Prelude.{ℕ, ◌≡◌, ◌+◌, ◌∷◌, All, Bool, true, List, Option, Some, drop, map}
use Rattle.qgm_meaning.specs.Plain.{Counts, counted_by, under_rows}
use Rattle.box_exec.specs.Costs.{Keeps, asked}
use Rattle.list_laws.specs.Lists.{first}
use Rattle.qgm_core.specs.Boxes.{Ordered, is_quant}
use Rattle.qgm_core.specs.declared.kinds.BoxKind.TheVariants.{Select}
use Rattle.qgm_core.specs.declared.node.Node.{Node}
use Rattle.qgm_core.specs.declared.owned.OwnedQuant.{OwnedQuant}
use Rattle.qgm_meaning.specs.Meaning.{Family, bag_in, rows_of}
use Rattle.qgm_meaning.specs.Values.{Bag, Environment}
use Rattle.row_bag.specs.declared.tables.Table.{Table}
use Rattle.box_exec.specs.Indexed.{AllIdle}
use Rattle.box_exec.specs.Lasting.{AllPlanned, IsOrder, IsPlan, RightIndexed, rows_kept, rows_stored}
use Rattle.box_exec.specs.Ready.{Fit, Ready, Stands, over_left}
use Rattle.box_exec.specs.Sought.{AllSought, OpensAs}
use Rattle.box_exec.specs.Taken.{taken_by, ways}
use Rattle.box_exec.specs.Takings.{AllSeek, Seeks, asked_takings}
use Rattle.box_exec.specs.declared.boxes.At.{At}
use Rattle.box_exec.specs.declared.plan.Plan.{Plan}
use Rattle.row_bag.specs.declared.operand.Operand.{Operand}
use Rattle.box_exec.specs.declared.under.Loop.{Loop}

abbrev pub tables_of : At → List Table
tables_of at = at.run.now.tables.now

-- what the boxes below it give
abbrev pub family : At → Family
family at = bag_in (tables_of at) at.below.now

abbrev pub ranges : List Loop → List OwnedQuant
ranges ls = map (λ l. l.range) ls

-- the rows that are kept of the boxes below it
abbrev pub stored : At → ℕ → Bag
stored at = rows_stored at.run.now.memo.now at.below.now

-- its quantifiers with what stands under each, and what is made once of it
pub record Planned (at : At) : Type 0 where
  pub ranged : ranges at.loops.now ≡ at.node.now.quants
  pub stand : All (λ l. Stands (tables_of at) at.run.now.memo.now at.below.now l.range.over l.under) at.loops.now
  pub opens : All (λ l. OpensAs at.run.now.memo.now at.below.now l.range.over l.under) at.loops.now
  pub fit : Fit at.node.now at.below.now
  pub rows : All (λ l. rows_kept l.under ≡ stored at l.range.over) at.loops.now
  pub plan : IsPlan at.node.now (ranges at.loops.now) (stored at) at.early.now at.keyed.now
  pub orders : All (λ o. IsOrder at.node.now (stored at) o) at.orders.now
  pub idle : AllIdle (ranges at.loops.now) (stored at) at.idle.now
  pub right : All (λ h. RightIndexed at.node.now (stored at) h) at.right.now
  pub ready : Ready (tables_of at) at.run.now.memo.now at.below.now
  pub plans : AllPlanned at.run.now.memo.now at.run.now.plans.now at.below.now

-- its quantifiers in the order in which they are bound, with what stands under each
pub record Bound (at : At) : Type 0 where
  pub own : All (λ l. first (is_quant l.range.id) at.node.now.quants ≡ Some l.range) at.loops.now
  pub stand : All (λ l. Stands (tables_of at) at.run.now.memo.now at.below.now l.range.over l.under) at.loops.now
  pub rows : All (λ l. rows_kept l.under ≡ stored at l.range.over) at.loops.now
  pub plan : IsPlan at.node.now (ranges at.loops.now) (stored at) at.early.now at.keyed.now

-- what stands under a quantifier of it
abbrev pub StandsAt : At → Loop → Type 0
StandsAt at l = Stands (tables_of at) at.run.now.memo.now at.below.now l.range.over l.under

-- its rows
abbrev pub rows_at : At → Environment → Bag
rows_at at env = rows_of (tables_of at) at.node.now (family at) env

-- what it gives for each combination of rows of its quantifiers from a place on
abbrev pub left_at : At → ℕ → Environment → Bag
left_at at k env = over_left (tables_of at) at.node.now at.below.now (drop k (ranges at.loops.now)) env

-- there are rows for the boxes below it that are kept
abbrev pub KeepsAt : At → (ℕ → Bool) → Type 0
KeepsAt at kept = Keeps at.run.now.memo.now kept at.below.now

-- how many evaluations the boxes below it take where their rows are asked for
abbrev pub asked_at : At → (ℕ → Bool) → Counts
asked_at at kept = asked (tables_of at) kept at.below.now

-- how many it takes itself
abbrev pub cost_at : At → (ℕ → Bool) → Environment → ℕ
cost_at at kept env = counted_by at.node.now.parts.kind at.node.now (family at) (asked_at at kept) env

-- for each combination of rows of its quantifiers from a place on
abbrev pub cost_left : At → (ℕ → Bool) → ℕ → Environment → ℕ
cost_left at kept k env = under_rows (drop k at.node.now.quants) at.node.now.quants (family at) (asked_at at kept) env

-- ---- rows that are taken

-- how many rows are taken where the rows of the boxes below it are asked for
abbrev pub asked_takings_at : At → (ℕ → Bool) → Counts
asked_takings_at at kept = asked_takings (tables_of at) kept at.below.now

-- where it is evaluated itself
abbrev pub takings_at : At → (ℕ → Bool) → Environment → ℕ
takings_at at kept env = taken_by kept at.node.now.parts.kind at.node.now (family at) (asked_takings_at at kept) env

-- the ways to choose rows for its quantifiers from a place on
abbrev pub ways_left : At → (ℕ → Bool) → ℕ → Environment → ℕ
ways_left at kept k env = ways kept at.node.now (drop k (ranges at.loops.now)) (family at) env

-- these, and what is taken by the boxes below it for each combination
abbrev pub takings_left : At → (ℕ → Bool) → ℕ → Environment → ℕ
takings_left at kept k env = ways_left at kept k env + under_rows (drop k at.node.now.quants) at.node.now.quants (family at) (asked_takings_at at kept) env

-- all keys that the conditions ask for in this order are there
abbrev pub SoughtAt : At → Type 0
SoughtAt at = AllSought at.node.now (ranges at.loops.now) at.keyed.now

-- a box is evaluated with keys, over boxes that are kept so, as it and those below it are planned
pub record SeeksIn (indexed : Bool) (memo : List (Option Operand)) (plans : List (Option Plan)) (kept : ℕ → Bool) (n : Node) (below : List Node) : Type 0 where
  pub by_keys : indexed ≡ true
  pub keeps : Keeps memo kept below
  pub ordered : Ordered (n ∷ below)
  pub planned : AllSeek kept plans (n ∷ below)

pub record SeeksAt (at : At) (kept : ℕ → Bool) : Type 0 where
  pub by_keys : at.run.now.indexed ≡ true
  pub keeps : KeepsAt at kept
  pub ordered : Ordered (at.node.now ∷ at.below.now)
  pub planned : AllSeek kept at.run.now.plans.now at.below.now
  pub here : at.node.now.parts.kind ≡ Select → Seeks kept at.node.now at.keyed.now at.orders.now
