-- An equality that follows from two others.
use Rattle.std.specs.Prelude.{ℕ, ◌≡◌, ◌⊎◌, true, List, map, None, []}
use Rattle.row_bag.specs.Bags.{Agree}
use Rattle.row_bag.specs.Sets.{same_cells}
use Rattle.row_bag.specs.declared.tables.Table.{Table}
use Rattle.sql_value.specs.Cells.{error_of}
use Rattle.sql_value.specs.Level.{least}
use Rattle.sql_value.specs.declared.cell.Cell.{Cell}
use Rattle.qgm_core.specs.Boxes.{QueryGraph}
use Rattle.qgm_core.specs.Kinds.{is_F}
use Rattle.list_laws.specs.Lists.{In}
use Rattle.qgm_core.specs.declared.kinds.BoxKind.TheVariants.{OuterJoin, Select}
use Rattle.qgm_core.specs.declared.node.Node.{Node}
use Rattle.qgm_core.specs.declared.owned.OwnedQuant.{OwnedQuant}
use Rattle.qgm_meaning.specs.Fits.{fits}
use Rattle.qgm_meaning.specs.Meaning.{bag_in, root_bag}
use Rattle.qgm_meaning.specs.Values.{Environment, compared, value}
use Rattle.qgm_terms.specs.Terms.{Cond, Term, col, compare, equal}
use Rattle.qgm_edit_laws.specs.Adds.{at}
use Rattle.qgm_edit_laws.specs.ConjunctEdits.{more, put_conjunct}
use Rattle.qgm_edit_laws.specs.Graph.{Sound}

-- c is the equality of x and y, in either order
abbrev pub Equates : Term → Term → Cond → Type 0
Equates x y c = (c ≡ compare equal x y) ⊎ (c ≡ compare equal y x)

-- a select or an outer join n has the conjuncts c, of x and column k of q, and d, of that column and z; where environments fit the column is no error
pub record EqualFollows (bs : List Node) (n : Node) (x : Term) (q k : ℕ) (z : Term) (c d : Cond) : Type 0 where
  pub within : In n bs
  pub kind : (n.parts.kind ≡ Select) ⊎ (n.parts.kind ≡ OuterJoin)
  pub rows : n.parts.kind ≡ OuterJoin → (r : OwnedQuant) → In r n.quants → is_F r.kind ≡ true
  pub first : In c n.parts.conds.items
  pub second : In d n.parts.conds.items
  pub of_first : Equates x (col q k) c
  pub of_second : Equates (col q k) z d

-- column k of q is no error in environments that fit
abbrev pub NoError : List Table → List Node → ℕ → ℕ → Type 0
NoError tables bs q k = (e : Environment) → fits (bag_in tables bs) bs e ≡ true → error_of (value (λ r. []) (col q k) e) ≡ None

-- then the equality of x and z may be added, where the graph stays sound: the roots agree
abbrev pub EqualAddedBag : Type 0
EqualAddedBag =
    (g : QueryGraph) → Sound g.boxes g.root → (n : Node) (x : Term) (q k : ℕ) (z : Term) (c d : Cond) → EqualFollows g.boxes n x q k z c d → Sound (map (at n.id (more (compare equal x z))) g.boxes) g.root
    → (tables : List Table) → NoError tables g.boxes q k → Agree same_cells (root_bag tables (put_conjunct n (compare equal x z) g)) (root_bag tables g)

-- as far as x = m and m = z are true, m being no error, x = z is
abbrev pub EqualThrough : Type 0
EqualThrough = (x m z : Cell) → error_of m ≡ None → least (least (compared equal x m).t (compared equal m z).t) (compared equal x z).t ≡ least (compared equal x m).t (compared equal m z).t
