-- The laws of boxes that rewriting a graph stands on.
use Rattle.std.specs.Prelude.{ℕ, ◌≡◌, ◌&&◌, Bool, true, false, List, [], ◌∷◌, map, Some, ⊤}
use Rattle.std.specs.List.{list_any, list_all}
use Rattle.row_bag.specs.Bags.{Agree}
use Rattle.row_bag.specs.Sets.{same_cells}
use Rattle.row_bag.specs.Verdict.{is_there}
use Rattle.row_bag.specs.declared.tables.Table.{Table}
use Rattle.sql_value.specs.declared.cell.Cell.{Cell}
use Rattle.qgm_core.specs.Boxes.{QueryGraph, Ordered, all_over, box_of, has_box, is_box}
use Rattle.qgm_meaning.specs.Replace.{replace}
use Rattle.list_laws.specs.Lists.{first}
use Rattle.qgm_core.specs.Kinds.{is_F}
use Rattle.qgm_core.specs.declared.node.Node.{Node}
use Rattle.qgm_core.specs.declared.owned.OwnedQuant.{OwnedQuant}
use Rattle.qgm_meaning.specs.Meaning.{Family, bag, bag_in, nothing, quant_rows, rows_of}
use Rattle.qgm_meaning.specs.Scope.{Clear, loose, loose_of, put_node}
use Rattle.qgm_meaning.specs.Values.{Bag, Environment, bound, head_cells, row_of, truth, value}
use Rattle.qgm_terms.specs.Terms.{Term, Cond}
use Rattle.qgm_meaning.specs.Searches.{bare, binds, binds_cond}
use Rattle.qgm_terms.specs.Substitution.{substituted, substituted_cond}
use Rattle.qgm_terms.specs.Wanted.{reads}

-- the bag of a box is its rows over the bags of the whole graph
abbrev pub Unfold : Type 0
Unfold = (tables : List Table) (g : QueryGraph) (b : ℕ) (n : Node) (env : Environment) → Ordered g.boxes → box_of b g ≡ Some n → bag tables g b env ≡ rows_of tables n (bag tables g) env

-- each box gives a family of bags back: its rows over the family are its bag in it
abbrev pub GivesBack : List Table → Family → List Node → Type 0
GivesBack tables f [] = ⊤
GivesBack tables f (n ∷ ns) = ((env : Environment) → rows_of tables n f env ≡ f n.id env) × GivesBack tables f ns

-- the bags of a graph are the only family that its boxes give back
abbrev pub Only : Type 0
Only = (tables : List Table) (g : QueryGraph) (f : Family) → Ordered g.boxes → GivesBack tables f g.boxes → (b : ℕ) → has_box g.boxes b ≡ true → (env : Environment) → bag tables g b env ≡ f b env

-- a row of these cells is there
abbrev pub occurs : List Cell → Bag → Bool
occurs cells rows = list_any (λ r. same_cells r.cells cells && is_there r) rows

-- the environments that pass, in which an F quantifier of these is bound to a row that it has in the family, pass too
abbrev pub Stays : (Environment → Bool) → Family → List OwnedQuant → Type 0
Stays passes f [] = ⊤
Stays passes f (r ∷ rs) =
    ((env : Environment) (cells : List Cell) → is_F r.kind ≡ true → passes env ≡ true → occurs cells (f r.id env) ≡ true → passes (bound r.id cells env) ≡ true) × Stays passes f rs

-- each of these boxes binds to rows with which environments that pass still pass
abbrev pub AllStay : (Environment → Bool) → Family → List Node → Type 0
AllStay passes f [] = ⊤
AllStay passes f (n ∷ ns) = Stays passes (quant_rows n f) n.quants × AllStay passes f ns

-- each box gives a family of bags back, up to agreement, in the environments that pass
abbrev pub AgreesBack : (Environment → Bool) → List Table → Family → List Node → Type 0
AgreesBack passes tables f [] = ⊤
AgreesBack passes tables f (n ∷ ns) =
    Stays passes (quant_rows n f) n.quants × ((env : Environment) → passes env ≡ true → Agree same_cells (rows_of tables n f env) (f n.id env)) × AgreesBack passes tables f ns

-- the bags of a graph agree with any family that its boxes give back up to agreement
abbrev pub OnlyAgree : Type 0
OnlyAgree =
    (tables : List Table) (g : QueryGraph) (f : Family) (passes : Environment → Bool) → Ordered g.boxes → AgreesBack passes tables f g.boxes
    → (b : ℕ) → has_box g.boxes b ≡ true → (env : Environment) → passes env ≡ true → Agree same_cells (bag tables g b env) (f b env)

-- a box gives the same in environments that are one where it looks them up
abbrev pub Framed : Type 0
Framed =
    (tables : List Table) (g : QueryGraph) (b : ℕ) (d e : Environment) → ((q : ℕ) → loose g.boxes b q ≡ true → row_of q d ≡ row_of q e) → bag tables g b d ≡ bag tables g b e

-- a box in which nothing is looked up gives the same everywhere
abbrev pub Closed : Type 0
Closed = (tables : List Table) (g : QueryGraph) (b : ℕ) → ((q : ℕ) → loose g.boxes b q ≡ false) → (d e : Environment) → bag tables g b d ≡ bag tables g b e

-- the order of bindings is nothing
abbrev pub Looked : Type 0
Looked = (tables : List Table) (g : QueryGraph) (b : ℕ) (d e : Environment) → ((q : ℕ) → row_of q d ≡ row_of q e) → bag tables g b d ≡ bag tables g b e

-- cells put in for the columns of q are q bound to them, if no node binds what they read
abbrev pub Put : Type 0
Put =
    (rows : ℕ → Bag) (q : ℕ) (cells : List Term) (x : Term) (env : Environment) → ((r : ℕ) → binds r x ≡ true → list_any (reads r) cells ≡ false)
    → value rows (substituted q cells x) env ≡ value rows x (bound q (head_cells rows cells env) env)

abbrev pub PutCond : Type 0
PutCond =
    (rows : ℕ → Bag) (q : ℕ) (cells : List Term) (c : Cond) (env : Environment) → ((r : ℕ) → binds_cond r c ≡ true → list_any (reads r) cells ≡ false)
    → truth rows (substituted_cond q cells c) env ≡ truth rows c (bound q (head_cells rows cells env) env)

-- the same through boxes
abbrev pub PutBelow : Type 0
PutBelow =
    (tables : List Table) (ns : List Node) (q : ℕ) (cells : List Term) (b : ℕ) (env : Environment) → list_all bare cells ≡ true → Clear q cells ns
    → bag_in tables (map (put_node q cells) ns) b env ≡ bag_in tables ns b (bound q (head_cells nothing cells env) env)

-- what a box looks up is what it looks up over the whole graph
abbrev pub LooseUnfold : Type 0
LooseUnfold = (ns : List Node) (b : ℕ) (n : Node) → Ordered ns → first (is_box b) ns ≡ Some n → (q : ℕ) → loose ns b q ≡ loose_of n (loose ns) q

-- a box in the place of another, with quantifiers over the same boxes or fewer, whose rows agree in the environments that pass: all bags agree there
abbrev pub Replaced : Type 0
Replaced =
    (tables : List Table) (g : QueryGraph) (passes : Environment → Bool) (b : ℕ) (n m : Node) → Ordered g.boxes → box_of b g ≡ Some n → m.id ≡ b → ((ns : List Node) → all_over ns n.quants ≡ true → all_over ns m.quants ≡ true)
    → AllStay passes (bag tables g) g.boxes → Stays passes (quant_rows m (bag tables g)) m.quants
    → ((env : Environment) → passes env ≡ true → Agree same_cells (rows_of tables m (bag tables g) env) (rows_of tables n (bag tables g) env))
    → (x : ℕ) → has_box g.boxes x ≡ true → (env : Environment) → passes env ≡ true → Agree same_cells (bag tables (replace b m g) x env) (bag tables g x env)
