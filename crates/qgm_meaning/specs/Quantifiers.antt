-- The quantifiers of a select, bound one after the other, in this order or another.
use Rattle.std.specs.Prelude.{ℕ, ◌≡◌, ◌==◌, ◌++◌, true, false, List, [], ◌∷◌, Some, ⊤}
use Rattle.std.specs.List.{list_any}
use Rattle.row_bag.specs.Bags.{Agree, bind, keep, unit}
use Rattle.row_bag.specs.Sets.{same_cells}
use Rattle.row_bag.specs.declared.tables.Table.{Table}
use Rattle.sql_value.specs.declared.cell.Cell.{Cell}
use Rattle.sql_value.specs.declared.level.Level.{Level}
use Rattle.qgm_core.specs.Boxes.{QueryGraph, Ordered, box_of, has_box, is_quant}
use Rattle.qgm_core.specs.Kinds.{is_F}
use Rattle.qgm_core.specs.declared.kinds.BoxKind.TheVariants.{Select}
use Rattle.qgm_core.specs.declared.kinds.Distinct.{Distinct}
use Rattle.qgm_core.specs.declared.node.Node.{Node}
use Rattle.qgm_core.specs.declared.owned.OwnedQuant.{OwnedQuant}
use Rattle.qgm_core.specs.declared.parts.BoxParts.{BoxParts}
use Rattle.qgm_meaning.specs.Fits.{fits}
use Rattle.qgm_meaning.specs.Meaning.{Family, bag, over_each, rows_by}
use Rattle.qgm_meaning.specs.Replace.{replace}
use Rattle.qgm_meaning.specs.Rules.{selecting}
use Rattle.qgm_meaning.specs.Searches.{names, names_cond}
use Rattle.qgm_meaning.specs.Scope.{loose, quant_looks, read_by, under_any}
use Rattle.qgm_meaning.specs.Values.{Bag, Environment, bound, row_of}
use Rattle.qgm_terms.specs.Terms.{Cond, Term}

-- what is given for each combination of rows
pub record Combinations : Type 0 where
  -- of quantifiers behind others
  pub appended : (us vs : List OwnedQuant) (s : Family) (give : Environment → Bag) (env : Environment) → over_each (us ++ vs) s give env ≡ over_each us s (over_each vs s give) env
  -- bound, or kept by a level, after or within
  pub bound_within : (rs : List OwnedQuant) (s : Family) (give : Environment → Bag) (f : List Cell → Bag) (env : Environment) → bind (over_each rs s give env) f ≡ over_each rs s (λ e. bind (give e) f) env
  pub kept_within : (rs : List OwnedQuant) (s : Family) (give : Environment → Bag) (level : Level) (env : Environment) → keep level (over_each rs s give env) ≡ over_each rs s (λ e. keep level (give e)) env
  -- a quantifier whose rows are given for each combination of others: these may be bound in its place
  pub fused :
      (r : OwnedQuant) (ms vs : List OwnedQuant) (s t : Family) (inner give : Environment → Bag) (env : Environment) → is_F r.kind ≡ true → s r.id env ≡ over_each ms t inner env
      → over_each (r ∷ vs) s give env ≡ over_each ms t (λ e. bind (inner e) (λ cells. over_each vs s give (bound r.id cells env))) env
  -- a quantifier of one clean row is bound to it
  pub one_row :
      (r : OwnedQuant) (vs : List OwnedQuant) (s : Family) (give : Environment → Bag) (cells : List Cell) (env : Environment) → is_F r.kind ≡ true → Agree same_cells (s r.id env) (unit cells)
      → Agree same_cells (over_each (r ∷ vs) s give env) (over_each vs s give (bound r.id cells env))

-- what quantifiers give goes by the rows that they are bound to, in whatever order
abbrev pub LooksRows : Family → Type 0
LooksRows s = (q : ℕ) (d e : Environment) → ((x : ℕ) → row_of x d ≡ row_of x e) → s q d ≡ s q e

-- r and each of these have different numbers, and where both are F quantifiers neither gives other rows where the other is bound
abbrev pub Apart : Family → OwnedQuant → List OwnedQuant → Type 0
Apart s r [] = ⊤
Apart s r (t ∷ ts) =
    ((t.id == r.id) ≡ false)
    × (is_F r.kind ≡ true → is_F t.kind ≡ true → (cells : List Cell) (env : Environment) → (s t.id (bound r.id cells env) ≡ s t.id env) × (s r.id (bound t.id cells env) ≡ s r.id env))
    × Apart s r ts

-- a quantifier may stand before others or behind them
abbrev pub Moves : Type 0
Moves =
    (tables : List Table) (s : Family) (b : ℕ) (p : BoxParts) (d : Distinct) (conds : List Cond) (head : List Term) (us : List OwnedQuant) (r : OwnedQuant) (vs ws : List OwnedQuant) (env : Environment) → LooksRows s → Apart s r vs
    → Agree same_cells (rows_by Select tables (selecting b p d conds head (us ++ r ∷ (vs ++ ws))) s env) (rows_by Select tables (selecting b p d conds head (us ++ (vs ++ r ∷ ws))) s env)

-- r and each of these have different numbers, and where both are F quantifiers neither box looks the other one up
abbrev pub NotLateral : List Node → Node → OwnedQuant → List OwnedQuant → Type 0
NotLateral ns n r [] = ⊤
NotLateral ns n r (t ∷ ts) =
    ((t.id == r.id) ≡ false) × (is_F r.kind ≡ true → is_F t.kind ≡ true → (quant_looks n (loose ns) t.id r.id ≡ false) × (quant_looks n (loose ns) r.id t.id ≡ false)) × NotLateral ns n r ts

-- on a graph: all bags agree
abbrev pub MovesBehind : Type 0
MovesBehind =
    (tables : List Table) (g : QueryGraph) (b : ℕ) (p : BoxParts) (d : Distinct) (conds : List Cond) (head : List Term) (us : List OwnedQuant) (r : OwnedQuant) (vs ws : List OwnedQuant)
    → Ordered g.boxes → box_of b g ≡ Some (selecting b p d conds head (us ++ r ∷ (vs ++ ws))) → NotLateral g.boxes (selecting b p d conds head (us ++ r ∷ (vs ++ ws))) r vs
    → (x : ℕ) → has_box g.boxes x ≡ true → (env : Environment) → Agree same_cells (bag tables (replace b (selecting b p d conds head (us ++ (vs ++ r ∷ ws))) g) x env) (bag tables g x env)

abbrev pub MovesBefore : Type 0
MovesBefore =
    (tables : List Table) (g : QueryGraph) (b : ℕ) (p : BoxParts) (d : Distinct) (conds : List Cond) (head : List Term) (us : List OwnedQuant) (r : OwnedQuant) (vs ws : List OwnedQuant)
    → Ordered g.boxes → box_of b g ≡ Some (selecting b p d conds head (us ++ (vs ++ r ∷ ws))) → NotLateral g.boxes (selecting b p d conds head (us ++ (vs ++ r ∷ ws))) r vs
    → (x : ℕ) → has_box g.boxes x ≡ true → (env : Environment) → Agree same_cells (bag tables (replace b (selecting b p d conds head (us ++ r ∷ (vs ++ ws))) g) x env) (bag tables g x env)

-- N2: an F quantifier over a box of exactly one clean row, in the environments that fit, which nothing names or looks up, may go: all bags agree there
abbrev pub OneRowGoes : Type 0
OneRowGoes =
    (tables : List Table) (g : QueryGraph) (b : ℕ) (p : BoxParts) (d : Distinct) (conds : List Cond) (head : List Term) (us : List OwnedQuant) (r : OwnedQuant) (vs : List OwnedQuant) (row : Environment → List Cell)
    → Ordered g.boxes → box_of b g ≡ Some (selecting b p d conds head (us ++ r ∷ vs)) → is_F r.kind ≡ true → list_any (is_quant r.id) us ≡ false → list_any (is_quant r.id) vs ≡ false
    → list_any (names r.id) head ≡ false → list_any (names_cond r.id) conds ≡ false
    → read_by (selecting b p d conds head (us ++ r ∷ vs)) r.id ≡ false → under_any (us ++ r ∷ vs) (loose g.boxes) r.id ≡ false
    → ((env : Environment) → fits (bag tables g) g.boxes env ≡ true → Agree same_cells (bag tables g r.over env) (unit (row env)))
    → (x : ℕ) → has_box g.boxes x ≡ true → (env : Environment) → fits (bag tables g) g.boxes env ≡ true
    → Agree same_cells (bag tables (replace b (selecting b p d conds head (us ++ vs)) g) x env) (bag tables g x env)
