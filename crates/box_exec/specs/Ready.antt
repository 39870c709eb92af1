-- What is made so far, and what a graph owes to its execution.
use Rattle.std.specs.Prelude.{ℕ, ◌≡◌, ◌≤◌, ◌+◌, ◌||◌, Bool, true, false, not, All, List, [], ◌∷◌, length, slice_get, Option, Some, None, ⊤}
use Rattle.std.specs.List.{list_any}
use Rattle.qgm_core.specs.Boxes.{Ordered, is_quant, owns}
use Rattle.qgm_core.specs.Kinds.{is_F}
use Rattle.list_laws.specs.Lists.{first}
use Rattle.qgm_core.specs.declared.node.Node.{Node}
use Rattle.qgm_core.specs.declared.owned.OwnedQuant.{OwnedQuant}
use Rattle.qgm_meaning.specs.Meaning.{Family, bag_in, given_by, over_each, quant_rows, rows_of}
use Rattle.qgm_meaning.specs.Scope.{loose, loose_of}
use Rattle.qgm_meaning.specs.Searches.{names, names_cond}
use Rattle.qgm_meaning.specs.Values.{Bag, Environment}
use Rattle.row_bag.specs.Bags.{Alike}
use Rattle.row_bag.specs.declared.tables.Table.{Table}
use Rattle.box_exec.specs.Costs.{Keeps, asked}
use Rattle.box_exec.specs.Lasting.{AllPlanned}
use Rattle.qgm_meaning.specs.Plain.{counted_by}
use Rattle.box_exec.specs.Sources.{held, rows_held}
use Rattle.box_exec.specs.Taken.{taken_by}
use Rattle.box_exec.specs.Takings.{AllSeek, asked_takings}
use Rattle.box_exec.specs.declared.plan.Plan.{Plan}
use Rattle.row_bag.specs.declared.operand.Operand.{Operand}
use Rattle.box_exec.specs.declared.source.Sub.{Sub}
use Rattle.box_exec.specs.declared.under.Under.{Under}
use Rattle.box_exec.specs.declared.under.Under.TheVariants.{Kept, Open, Nothing}

-- the quantifier that is found binds rows
abbrev pub binds_F : Option OwnedQuant → Bool
binds_F None = false
binds_F (Some r) = is_F r.kind

abbrev pub isnt_F : OwnedQuant → Bool
isnt_F r = not (is_F r.kind)

-- a scalar, some or every of q stands in a box
abbrev pub names_in_box : Node → ℕ → Bool
names_in_box n q = list_any (names_cond q) n.parts.conds.items || list_any (names q) n.parts.head

-- the quantifiers of a box have numbers of their own, its nodes name none that binds rows, and it looks up none of its own in its environment
pub record Fit (n : Node) (below : List Node) : Type 0 where
  pub numbered : All (λ r. first (is_quant r.id) n.quants ≡ Some r) n.quants
  pub nodes : (q : ℕ) → names_in_box n q ≡ true → binds_F (first (is_quant q) n.quants) ≡ false
  pub settled : (q : ℕ) → owns q n ≡ true → loose_of n (loose below) q ≡ false

-- each of these boxes is
abbrev pub AllFit : List Node → Type 0
AllFit [] = ⊤
AllFit (n ∷ ns) = Fit n ns × AllFit ns

-- ---- kept rows

-- rows that are those of a box in every environment, if there are any
abbrev pub Entry : List Table → Node → List Node → Option (Option Operand) → Type 0
Entry tables n ns None = ⊤
Entry tables n ns (Some None) = ⊤
Entry tables n ns (Some (Some s)) = (env : Environment) → Alike (held s) (rows_of tables n (bag_in tables ns) env)

-- these are the rows of an entry
abbrev pub Held : Option (Option Operand) → Bag → Type 0
Held None rows = ⊥
Held (Some None) rows = ⊥
Held (Some (Some s)) rows = rows ≡ held s

-- these boxes are fit, and the entry at i is of the one with i boxes behind it
abbrev pub Ready : List Table → List (Option Operand) → List Node → Type 0
Ready tables memo [] = ⊤
Ready tables memo (n ∷ ns) = Fit n ns × Entry tables n ns (slice_get memo (length ns)) × Ready tables memo ns

-- ---- what stands under a quantifier

-- how much there is to go through in these boxes
abbrev pub weight : List Node → ℕ
weight [] = 0
weight (n ∷ ns) = length n.quants + 8 + weight ns

abbrev pub weight_under : Under → ℕ
weight_under (Kept rows) = 0
weight_under (Open n behind) = length n.now.quants + 8 + weight behind.now
weight_under Nothing = 0

-- the box of this number is n, over those behind it
pub record IsOpen (tables : List Table) (memo : List (Option Operand)) (below : List Node) (b : ℕ) (n : Node) (behind : List Node) : Type 0 where
  pub bag : (env : Environment) → bag_in tables below b env ≡ rows_of tables n (bag_in tables behind) env
  pub fit : Fit n behind
  pub ready : Ready tables memo behind
  pub less : length n.quants + 8 + weight behind ≤ weight below
  pub plans : (ps : List (Option Plan)) → AllPlanned memo ps below → AllPlanned memo ps (n ∷ behind)
  pub keeps : (kept : ℕ → Bool) → Keeps memo kept below → Keeps memo kept behind × ((env : Environment) → asked tables kept below b env ≡ counted_by n.parts.kind n (bag_in tables behind) (asked tables kept behind) env)
  pub seeks : (kept : ℕ → Bool) (ps : List (Option Plan)) → AllSeek kept ps below → AllSeek kept ps (n ∷ behind)
  pub takes : (kept : ℕ → Bool) → Keeps memo kept below → (env : Environment) → asked_takings tables kept below b env ≡ taken_by kept n.parts.kind n (bag_in tables behind) (asked_takings tables kept behind) env
  pub ordered : Ordered below → Ordered (n ∷ behind)

-- what stands under a quantifier over box b
abbrev pub Stands : List Table → List (Option Operand) → List Node → ℕ → Under → Type 0
Stands tables memo below b (Kept rows) = (env : Environment) → Alike rows.now (bag_in tables below b env)
Stands tables memo below b (Open n behind) = IsOpen tables memo below b n.now behind.now
Stands tables memo below b Nothing = (env : Environment) → bag_in tables below b env ≡ []

-- ---- quantifiers

-- rows for each of these quantifiers
abbrev pub SubsOf : Family → Environment → List OwnedQuant → List Sub → Type 0
SubsOf f env [] [] = ⊤
SubsOf f env [] (s ∷ ss) = ⊥
SubsOf f env (r ∷ rs) [] = ⊥
SubsOf f env (r ∷ rs) (s ∷ ss) = (s.quant ≡ r.id) × Alike (rows_held s.rows) (f r.over env) × SubsOf f env rs ss

-- what is given for each combination of rows of these quantifiers of a box
abbrev pub over_left : List Table → Node → List Node → List OwnedQuant → Environment → Bag
over_left tables n below rs env = over_each rs (quant_rows n (bag_in tables below)) (given_by (quant_rows n (bag_in tables below)) n) env

-- rows that are those of a box in every environment
abbrev pub Holds : List Table → Node → List Node → Operand → Type 0
Holds tables n ns s = (env : Environment) → Alike (held s) (rows_of tables n (bag_in tables ns) env)
