-- I6 and I7 of the columns that are read, as passes over the boxes test them: by the boxes that see a quantifier, and by what is free.
use Rattle.std.specs.Prelude.{ℕ, ◌≡◌, ◌==◌, ◌++◌, ◌&&◌, ◌||◌, not, if◌then◌else◌, Bool, true, false, List, [], ◌∷◌, take}
use Rattle.std.specs.List.{list_any}
use Rattle.qgm_core.specs.declared.node.Node.{Node}
use Rattle.qgm_core.specs.declared.owned.OwnedQuant.{OwnedQuant}
use Rattle.qgm_core.specs.declared.kinds.BoxKind.{BoxKind}
use Rattle.qgm_core.specs.declared.kinds.BoxKind.TheVariants.{Base, Select, Group, SetOp, OuterJoin}
use Rattle.qgm_core.specs.Kinds.{is_F}
use Rattle.qgm_core.specs.Boxes.{is_quant, owns, overs_in, overs_of}
use Rattle.qgm_meaning.specs.Scope.{read_by}
use Rattle.list_laws.specs.Lists.{holds, In, times}
use Rattle.qgm_core.specs.Free.{reached}
use Rattle.qgm_edit_laws.specs.Graph.{binds_row}

-- the boxes under these to which q is shown: under F quantifiers after q, and under all others
abbrev pub scoped : ℕ → Bool → Bool → List OwnedQuant → List ℕ
scoped q own met [] = []
scoped q own met (r ∷ rs) = (if (if is_F r.kind then met else own) then r.over ∷ [] else []) ++ scoped q own (met || (is_F r.kind && is_quant q r)) rs

-- a select alone shows its quantifiers
abbrev pub scoped_by : BoxKind → ℕ → List OwnedQuant → List ℕ
scoped_by (Base table) q rs = []
scoped_by Select q rs = scoped q (binds_row q rs) false rs
scoped_by (Group keys) q rs = []
scoped_by (SetOp operator types) q rs = []
scoped_by OuterJoin q rs = []

-- the boxes that see q by this one: all under it, if it sees q itself
abbrev pub shown : ℕ → List ℕ → Node → List ℕ
shown q marks n = if holds n.id marks then overs_of n else scoped_by n.parts.kind q n.quants

-- the boxes that see q
abbrev pub viewers : ℕ → List ℕ → List Node → List ℕ
viewers q marks [] = marks
viewers q marks (n ∷ ns) = viewers q (marks ++ shown q marks n) ns

-- a row of q is bound in its owner where cells and conditions are evaluated
abbrev pub own_seen : BoxKind → Node → ℕ → Bool
own_seen (Base table) n q = false
own_seen Select n q = binds_row q n.quants
own_seen (Group keys) n q = list_any (is_quant q) (take 1 n.quants)
own_seen (SetOp operator types) n q = false
own_seen OuterJoin n q = list_any (is_quant q) (take 2 n.quants)

-- q is in view in the box
abbrev pub in_view : List Node → Node → ℕ → Bool
in_view bs n q = own_seen n.parts.kind n q || holds n.id (viewers q [] bs)

-- q is read in what b reaches, and isn't owned there
abbrev pub read_free : List Node → ℕ → ℕ → Bool
read_free bs b q = list_any (λ n. holds n.id (reached (b ∷ []) bs) && read_by n q) bs && not (list_any (λ n. holds n.id (reached (b ∷ []) bs) && owns q n) bs)

-- a box reads what is in view; nothing is free in the root; a box in which something is free is used once, and the root not at all
pub record Checked (bs : List Node) (root : ℕ) : Type 0 where
  pub seen : (n : Node) → In n bs → (q : ℕ) → read_by n q ≡ true → in_view bs n q ≡ true
  pub root_free : (q : ℕ) → read_free bs root q ≡ false
  pub opened : (b q : ℕ) → read_free bs b q ≡ true → (b == root) ≡ false → times b (overs_in bs) ≡ 1
  pub top : times root (overs_in bs) ≡ 0
