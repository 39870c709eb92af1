-- Which quantifiers are in view in a box.
use Rattle.std.specs.Prelude.{ℕ, ◌≡◌, ◌++◌, ◌&&◌, ◌||◌, if◌then◌else◌, Bool, true, false, List, [], ◌∷◌, ◌⊎◌}
use Rattle.std.specs.List.{list_any}
use Rattle.qgm_core.specs.Boxes.{is_quant, owns, overs_of}
use Rattle.qgm_core.specs.Kinds.{is_F, is_select}
use Rattle.list_laws.specs.Lists.{In, holds}
use Rattle.qgm_core.specs.declared.node.Node.{Node}
use Rattle.qgm_core.specs.declared.owned.OwnedQuant.{OwnedQuant}

-- q is an F quantifier of these
abbrev pub is_row : ℕ → List OwnedQuant → Bool
is_row q rs = list_any (λ r. is_quant q r && is_F r.kind) rs

-- by its quantifier r a select shows q to the box under r: under F where q is an F quantifier before r, else where q is any F quantifier
abbrev pub Shows : Node → OwnedQuant → ℕ → Type 0
Shows n r q =
    (is_select n.parts.kind ≡ true)
    × ((before : List OwnedQuant) × ((after : List OwnedQuant) × ((n.quants ≡ before ++ r ∷ after) × (is_row q (if is_F r.kind then before else n.quants) ≡ true))))

-- box c sees q: an owner of a quantifier over c shows q to it, or sees q itself
pub data Sees (boxes : List Node) : ℕ → ℕ → Type 0 where
  shown : (n : Node) (r : OwnedQuant) (q : ℕ) → In n boxes → In r n.quants → Shows n r q → Sees boxes r.over q
  seen : (n : Node) (r : OwnedQuant) (q : ℕ) → In n boxes → In r n.quants → Sees boxes n.id q → Sees boxes r.over q

-- in view in a box are its own quantifiers and what it sees
abbrev pub InView : List Node → Node → ℕ → Type 0
InView boxes n q = (owns q n ≡ true) ⊎ Sees boxes n.id q

-- ---- the same, box by box in the order of the ranks

-- the boxes under these to which q is shown; `own` where q is an F quantifier of the box, `met` where it came already
abbrev pub scoped : ℕ → Bool → Bool → List OwnedQuant → List ℕ
scoped q own met [] = []
scoped q own met (r ∷ rs) =
    (if (if is_F r.kind then met else own) then r.over ∷ [] else []) ++ scoped q own (met || (is_quant q r && is_F r.kind)) rs

-- the boxes that see q by this one: all under it, if it sees q itself; else those to which it shows q, if it is a select
abbrev pub shown_by : ℕ → List ℕ → Node → List ℕ
shown_by q marks n = if holds n.id marks then overs_of n else if is_select n.parts.kind then scoped q (is_row q n.quants) false n.quants else []

-- the boxes that see q
abbrev pub viewers : ℕ → List ℕ → List Node → List ℕ
viewers q marks [] = marks
viewers q marks (n ∷ ns) = viewers q (marks ++ shown_by q marks n) ns

-- q is in view in the box
abbrev pub in_view : List Node → Node → ℕ → Bool
in_view boxes n q = owns q n || holds n.id (viewers q [] boxes)
