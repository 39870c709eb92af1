-- Which quantifiers a box looks up in its environment, and names put in through boxes.
use Rattle.std.specs.Prelude.{ℕ, ◌≡◌, ◌==◌, ◌&&◌, ◌||◌, not, if◌then◌else◌, Bool, true, false, List, [], ◌∷◌, map, take, Option, Some, None, ⊤}
use Rattle.std.specs.List.{list_any}
use Rattle.qgm_core.specs.declared.node.Node.{Node}
use Rattle.qgm_core.specs.declared.owned.OwnedQuant.{OwnedQuant}
use Rattle.qgm_core.specs.declared.kinds.BoxKind.{BoxKind}
use Rattle.qgm_core.specs.declared.kinds.BoxKind.TheVariants.{Base, Select, Group, SetOp, OuterJoin}
use Rattle.qgm_core.specs.Kinds.{is_F}
use Rattle.qgm_core.specs.Boxes.{is_quant, owns}
use Rattle.list_laws.specs.Lists.{first}
use Rattle.qgm_meaning.specs.Ranks.{by_rank}
use Rattle.qgm_terms.specs.Terms.{Term}
use Rattle.qgm_terms.specs.Wanted.{reads, reads_cond}
use Rattle.qgm_terms.specs.Substitution.{substituted, substituted_cond}
use Rattle.qgm_meaning.specs.Searches.{binds, binds_cond}

-- a box reads q in its own cells and conditions
abbrev pub read_by : Node → ℕ → Bool
read_by n q = list_any (reads q) n.parts.head || list_any (reads_cond q) n.parts.conds.items

-- a box that a quantifier of these ranges over looks q up
abbrev pub under_any : List OwnedQuant → (ℕ → ℕ → Bool) → ℕ → Bool
under_any rs below q = list_any (λ r. below r.over q) rs

-- what is looked up under a quantifier that is found
abbrev pub looks_found : Option OwnedQuant → (ℕ → ℕ → Bool) → ℕ → Bool
looks_found None below q = false
looks_found (Some r) below q = below r.over q

-- what is looked up under each quantifier of a box
abbrev pub quant_looks : Node → (ℕ → ℕ → Bool) → ℕ → ℕ → Bool
quant_looks n below x q = looks_found (first (is_quant x) n.quants) below q

-- what is looked up where the F quantifiers among these are still to be bound
abbrev pub loose_each : List OwnedQuant → Node → (ℕ → ℕ → Bool) → ℕ → Bool
loose_each [] n below q = read_by n q || under_any n.quants below q
loose_each (r ∷ rs) n below q = if is_F r.kind then quant_looks n below r.id q || (not (r.id == q) && loose_each rs n below q) else loose_each rs n below q

-- what a box reads, but for these quantifiers
abbrev pub read_beyond : List OwnedQuant → (ℕ → Bool) → ℕ → Bool
read_beyond own look q = not (list_any (is_quant q) own) && look q

abbrev pub loose_by : BoxKind → Node → (ℕ → ℕ → Bool) → ℕ → Bool
loose_by (Base name) n below q = false
loose_by Select n below q = loose_each n.quants n below q
loose_by (Group k) n below q = under_any n.quants below q || read_beyond (take 1 n.quants) (read_by n) q
loose_by (SetOp form types) n below q = under_any n.quants below q
loose_by OuterJoin n below q = under_any n.quants below q || read_beyond (take 2 n.quants) (read_by n) q

abbrev pub loose_of : Node → (ℕ → ℕ → Bool) → ℕ → Bool
loose_of n below q = loose_by n.parts.kind n below q

-- a box, among these, looks q up in its environment
abbrev pub loose : List Node → ℕ → ℕ → Bool
loose ns = by_rank (λ q. false) loose_of ns

-- ---- cells put in

abbrev pub put_node : ℕ → List Term → Node → Node
put_node q cells n = record n { parts = record n.parts { head = map (substituted q cells) n.parts.head; conds = record n.parts.conds { items = map (substituted_cond q cells) n.parts.conds.items } } }

-- a box binds r: it owns it, or a node of its cells or conditions names it
abbrev pub introduces : Node → ℕ → Bool
introduces n r = owns r n || (list_any (binds r) n.parts.head || list_any (binds_cond r) n.parts.conds.items)

-- the cells may be put in for q through these boxes: none of them owns q, and none binds what the cells read
abbrev pub Clear : ℕ → List Term → List Node → Type 0
Clear q cells [] = ⊤
Clear q cells (n ∷ ns) = (owns q n ≡ false) × ((r : ℕ) → introduces n r ≡ true → list_any (reads r) cells ≡ false) × Clear q cells ns
