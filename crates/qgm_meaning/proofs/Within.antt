-- What boxes look up: nothing but what a list of names allows, if each box by itself keeps to it.
use Rattle.std.specs.Prelude.{⊤}
use Rattle.std.specs.Prelude as p
use Rattle.std.proofs.Common.{ℕ, ◌==◌, ◌≡◌, ◌&&◌, ◌||◌, cond, Bool, true, false, List, [], ◌∷◌, take, Some, refl, ap, ap₂}
use Rattle.qgm_core.specs.declared.node.Node.{Node}
use Rattle.qgm_core.specs.declared.owned.OwnedQuant.{OwnedQuant}
use Rattle.qgm_core.specs.declared.kinds.BoxKind.{BoxKind}
use Rattle.qgm_core.specs.declared.kinds.BoxKind.TheVariants.{Base, Select, Group, SetOp, OuterJoin}
use Rattle.qgm_core.specs.Boxes.{Ordered, is_box, is_quant}
use Rattle.list_laws.specs.Lists.{first}
use Rattle.qgm_core.specs.Kinds.{is_F}
use Rattle.qgm_meaning.specs.Ranks.{LooksUnder, SameUnder}
use Rattle.qgm_meaning.specs.Scope.{loose, loose_by, loose_each, loose_of, looks_found, read_beyond, read_by, under_any}
use Rattle.qgm_meaning.proofs.Ranked.{unfold-rank}

-- ---- what is looked up in the whole graph

any-same : (rs : List OwnedQuant) (f g : ℕ → ℕ → Bool) → SameUnder rs f g → under_any rs f ≡ under_any rs g
any-same [] f g s = refl
any-same (r ∷ rs) f g s = ap₂ {C = ℕ → Bool} (λ (x y : ℕ → Bool) (q : ℕ). x q || y q) s.0 (any-same rs f g s.1)

found-same : (rs : List OwnedQuant) (f g : ℕ → ℕ → Bool) (x : ℕ) → SameUnder rs f g → looks_found (first (is_quant x) rs) f ≡ looks_found (first (is_quant x) rs) g
found-same [] f g x s = refl
found-same (r ∷ rs) f g x s = elim (r.id == x) as (λ t. ◌≡◌ {A = ℕ → Bool} (looks_found (cond t (Some r) (first (is_quant x) rs)) f) (looks_found (cond t (Some r) (first (is_quant x) rs)) g)) [
  | true ↦ s.0
  | false ↦ found-same rs f g x s.1
]

each-same : (rs : List OwnedQuant) (n : Node) (f g : ℕ → ℕ → Bool) → SameUnder n.quants f g → loose_each rs n f ≡ loose_each rs n g
each-same [] n f g s = ap {B = ℕ → Bool} (λ (u : ℕ → Bool) (q : ℕ). read_by n q || u q) (any-same n.quants f g s)
each-same (r ∷ rs) n f g s =
    ap₂ {C = ℕ → Bool} (λ (u v : ℕ → Bool) (q : ℕ). cond (is_F r.kind) (u q || (p.not (r.id == q) && v q)) (v q)) (found-same n.quants f g r.id s) (each-same rs n f g s)

pub loose-local : LooksUnder loose_of
loose-local n f g s = by n.parts.kind
  where
    by : (kind : BoxKind) → loose_by kind n f ≡ loose_by kind n g
    by (Base name) = refl
    by Select = each-same n.quants n f g s
    by (Group k) = ap {B = ℕ → Bool} (λ (u : ℕ → Bool) (q : ℕ). u q || read_beyond (take 1 n.quants) (read_by n) q) (any-same n.quants f g s)
    by (SetOp form types) = any-same n.quants f g s
    by OuterJoin = ap {B = ℕ → Bool} (λ (u : ℕ → Bool) (q : ℕ). u q || read_beyond (take 2 n.quants) (read_by n) q) (any-same n.quants f g s)

-- what a box looks up is what it looks up over the whole graph: an unchanged box owes nothing
pub loose-unfold : (ns : List Node) (b : ℕ) (n : Node) → Ordered ns → first (is_box b) ns ≡ Some n → loose ns b ≡ loose_of n (loose ns)
loose-unfold ns b n o h = unfold-rank (λ q. false) loose_of loose-local ns b n o h
