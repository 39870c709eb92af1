-- The bag of a box is its rows over the bags of the whole graph, and the bags are the only such family.
use Rattle.std.proofs.Common.{ℕ, ◌==◌, ◌≡◌, cond, true, false, List, [], ◌∷◌, Some, refl, ap}
use mathlib.Core.Path.{fun_ext}
use Rattle.row_bag.specs.declared.tables.Table.{Table}
use Rattle.list_laws.specs.Lists.{first}
use Rattle.qgm_core.specs.Boxes.{has_box, is_box, is_quant, Ordered}
use Rattle.qgm_core.specs.declared.node.Node.{Node}
use Rattle.qgm_core.specs.declared.owned.OwnedQuant.{OwnedQuant}
use Rattle.qgm_meaning.specs.Laws.{GivesBack}
use Rattle.qgm_meaning.specs.Meaning.{Family, bag_in, rows_by, rows_found, rows_of}
use Rattle.qgm_meaning.specs.Ranks.{LooksUnder, SameUnder}
use Rattle.qgm_meaning.specs.Values.{Bag, Environment}
use Rattle.qgm_meaning.proofs.Ranked.{GivenBack, only-rank, unfold-rank}

-- the quantifiers of a box give the same over both
quant-same : (rs : List OwnedQuant) (f g : Family) (q : ℕ) → SameUnder rs f g → rows_found (first (is_quant q) rs) f ≡ rows_found (first (is_quant q) rs) g
quant-same [] f g q s = refl
quant-same (r ∷ rs) f g q s = elim (r.id == q) as (λ t. ◌≡◌ {A = Environment → Bag} (rows_found (cond t (Some r) (first (is_quant q) rs)) f) (rows_found (cond t (Some r) (first (is_quant q) rs)) g)) [
  | true ↦ s.0
  | false ↦ quant-same rs f g q s.1
]

pub rows-local : (tables : List Table) → LooksUnder (rows_of tables)
rows-local tables n f g s = ap {B = Environment → Bag} (λ (h : Family) (env : Environment). rows_by n.parts.kind tables n h env) (fun_ext (λ q. quant-same n.quants f g q s))

pub unfold-bag : (tables : List Table) (ns : List Node) (b : ℕ) (n : Node) (env : Environment) → Ordered ns → first (is_box b) ns ≡ Some n → bag_in tables ns b env ≡ rows_of tables n (bag_in tables ns) env
unfold-bag tables ns b n env o h = ap (λ (f : Environment → Bag). f env) (unfold-rank (λ env. []) (rows_of tables) (rows-local tables) ns b n o h)

back : (tables : List Table) (f : Family) (ns : List Node) → GivesBack tables f ns → GivenBack (λ env. []) (rows_of tables) (rows-local tables) f ns
back tables f [] s = tt
back tables f (n ∷ ns) s = (fun_ext s.0, back tables f ns s.1)

pub only : (tables : List Table) (f : Family) (ns : List Node) → Ordered ns → GivesBack tables f ns → (b : ℕ) → has_box ns b ≡ true → (env : Environment) → bag_in tables ns b env ≡ f b env
only tables f ns o s b h env = ap (λ (f : Environment → Bag). f env) (only-rank (λ env. []) (rows_of tables) (rows-local tables) f ns o (back tables f ns s) b h)
