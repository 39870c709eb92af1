-- Two arms of a box under a fed one, which become selects over the magic box and them.
use Rattle.std.specs.Prelude.{ℕ, ◌≡◌, ◌==◌, ◌&&◌, ◌⊎◌, if◌then◌else◌, Bool, true, false, List, [], ◌∷◌}
use Rattle.qgm_core.specs.Boxes.{QueryGraph, has_box, ids_in, owns}
use Rattle.list_laws.specs.Lists.{In, times}
use Rattle.qgm_core.specs.declared.kinds.Role.{Role}
use Rattle.qgm_core.specs.declared.kinds.Role.TheVariants.{Fed, Plain}
use Rattle.qgm_core.specs.declared.node.Node.{Node}
use Rattle.qgm_core.specs.declared.owned.OwnedQuant.{OwnedQuant}
use Rattle.qgm_meaning.specs.Scope.{introduces, loose, put_node}
use Rattle.qgm_meaning.specs.Tags.{columns_from}
use Rattle.qgm_props.specs.Calm.{is_closed}

-- the select over the magic box and box b is fed where b is open
abbrev pub role_over : List Node → ℕ → Role
role_over bs b = if is_closed bs b then Plain else Fed

-- numbers of a box and of two quantifiers that the graph doesn't have
pub record IsFreshSelect (g : QueryGraph) (s u p : ℕ) : Type 0 where
  pub s_new : has_box g.boxes s ≡ false
  pub u_new : times u (ids_in g.boxes) ≡ 0
  pub p_new : times p (ids_in g.boxes) ≡ 0
  pub apart : (u == p) ≡ false

-- the boxes below an open right arm, in which names of a become those of p, which ranges over the magic box too
pub record Renames (g : QueryGraph) (a p : ℕ) (marked : ℕ → Bool) : Type 0 where
  pub under : (n : Node) → In n g.boxes → marked n.id ≡ true → (r : OwnedQuant) → In r n.quants → marked r.over ≡ true
  pub apart : (n : Node) → In n g.boxes → marked n.id ≡ true → (owns a n ≡ false) × (introduces n p ≡ false)

-- a box of g that isn't d or c and isn't marked, and ranges over no box that is changed
pub record IsStill (g : QueryGraph) (d c : Node) (a : ℕ) (marked : ℕ → Bool) (n : Node) : Type 0 where
  pub within : In n g.boxes
  pub unmarked : marked n.id ≡ false
  pub not_d : (n.id == d.id) ≡ false
  pub not_c : (n.id == c.id) ≡ false
  pub elsewhere : (r : OwnedQuant) → In r n.quants → ((r.over == c.id) ≡ false) × ((marked r.over && loose g.boxes r.over a) ≡ false)

-- a marked box, with names of p for those of a
pub record IsRenamed (g : QueryGraph) (a p w : ℕ) (marked : ℕ → Bool) (n : Node) : Type 0 where
  pub was : Node
  pub within : In was g.boxes
  pub marks : marked was.id ≡ true
  pub is : n ≡ put_node a (columns_from p 1 w) was

-- c's quantifiers are l over x and r over y
pub record HasArms (g : QueryGraph) (d m c x y : Node) (a l r : OwnedQuant) (marked : ℕ → Bool) : Type 0 where
  pub in_x : In x g.boxes
  pub in_y : In y g.boxes
  pub two : c.quants ≡ l ∷ (r ∷ [])
  pub over_x : l.over ≡ x.id
  pub over_y : r.over ≡ y.id
  pub apart : (l.id == r.id) ≡ false
  pub m_not_c : (m.id == c.id) ≡ false
  pub d_not_c : (d.id == c.id) ≡ false
  pub x_not_c : (x.id == c.id) ≡ false
  pub y_not_c : (y.id == c.id) ≡ false
  -- of the boxes that stay none that is marked looks a up
  pub m_still : (marked m.id && loose g.boxes m.id a.id) ≡ false
  pub d_still : (marked d.id && loose g.boxes d.id a.id) ≡ false
  pub c_unmarked : marked c.id ≡ false
  pub x_still : (marked x.id && loose g.boxes x.id a.id) ≡ false
  -- the right arm is marked or closed, and looks a up alone
  pub y_marked : (marked y.id ≡ true) ⊎ ((q : ℕ) → loose g.boxes y.id q ≡ false)
  pub y_alone : (q : ℕ) → loose g.boxes y.id q ≡ true → q ≡ a.id
