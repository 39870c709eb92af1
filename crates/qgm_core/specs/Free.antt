-- What is below a box, and its free quantifiers.
use Rattle.std.specs.Prelude.{ℕ, ◌≡◌, ◌++◌, ◌&&◌, ◌==◌, nat_lt, not, if◌then◌else◌, Bool, true, false, List, [], ◌∷◌, filter}
use Rattle.std.specs.List.{list_any, flat_map}
use Rattle.qgm_core.specs.Boxes.{QueryGraph, ids_of, owns, overs_of}
use Rattle.list_laws.specs.Lists.{In, holds}
use Rattle.qgm_core.specs.declared.node.Node.{Node}
use Rattle.qgm_core.specs.declared.owned.OwnedQuant.{OwnedQuant}
use Rattle.qgm_terms.specs.Named.{names_in, names_in_cond}

-- the quantifiers that a box names in its own cells and conditions
abbrev pub named_by : Node → List ℕ
named_by n = flat_map names_in n.parts.head ++ flat_map names_in_cond n.parts.conds.items

-- b reaches c: it is c, or a quantifier of it ranges over a box that reaches c
pub data Reaches (boxes : List Node) : ℕ → ℕ → Type 0 where
  itself : (b : ℕ) → Reaches boxes b b
  through : (n : Node) (r : OwnedQuant) (c : ℕ) → In n boxes → In r n.quants → Reaches boxes r.over c → Reaches boxes n.id c

-- a box that b reaches names q
abbrev pub NamedBelow : List Node → ℕ → ℕ → Type 0
NamedBelow boxes b q = (n : Node) × (In n boxes × (Reaches boxes b n.id × (holds q (named_by n) ≡ true)))

-- q is free in b: a box that b reaches names it, and none that b reaches owns it
abbrev pub IsFree : List Node → ℕ → ℕ → Type 0
IsFree boxes b q = NamedBelow boxes b q × ((n : Node) → In n boxes → Reaches boxes b n.id → owns q n ≡ false)

-- ---- the same, box by box in the order of the ranks

-- a box that is marked marks those that its quantifiers range over
abbrev pub marked : List ℕ → Node → List ℕ
marked marks n = if holds n.id marks then marks ++ overs_of n else marks

-- what is reached from the marks
abbrev pub reached : List ℕ → List Node → List ℕ
reached marks [] = marks
reached marks (n ∷ ns) = reached (marked marks n) ns

-- what a box names if it is marked
abbrev pub named_where : List ℕ → Node → List ℕ
named_where marks n = if holds n.id marks then named_by n else []

-- the quantifiers of a box, if it is marked
abbrev pub owned_where : List ℕ → Node → List ℕ
owned_where marks n = if holds n.id marks then ids_of n else []

-- a marked box owns the quantifier
abbrev pub is_owned : List ℕ → List Node → ℕ → Bool
is_owned marks ns q = list_any (λ n. holds n.id marks && owns q n) ns

-- q among ascending ones, if it isn't there
abbrev pub put_once : ℕ → List ℕ → List ℕ
put_once q [] = q ∷ []
put_once q (r ∷ rs) = if nat_lt q r then q ∷ (r ∷ rs) else if r == q then r ∷ rs else r ∷ put_once q rs

-- each of these put among those
abbrev pub put_each : List ℕ → List ℕ → List ℕ
put_each out [] = out
put_each out (q ∷ qs) = put_each (put_once q out) qs

-- what the marked boxes name and none of them owns, ascending, each once
abbrev pub free_among : List ℕ → List Node → List ℕ
free_among marks ns = put_each [] (filter (λ q. not (is_owned marks ns q)) (flat_map (named_where marks) ns))

abbrev pub free_in : List Node → ℕ → List ℕ
free_in ns b = free_among (reached (b ∷ []) ns) ns

-- the quantifiers that are named in the box or below it, and owned neither there nor below, ascending
abbrev pub free : ℕ → QueryGraph → List ℕ
free b g = free_in g.boxes b
