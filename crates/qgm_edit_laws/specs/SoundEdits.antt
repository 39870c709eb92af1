-- What each kind of edit keeps of a sound graph, at its condition.
use Rattle.std.specs.Prelude.{ℕ, ◌≡◌, ◌≤◌, ◌++◌, Bool, true, false, List, ◌∷◌, Some, map}
use Rattle.row_bag.specs.declared.tables.Table.{Table}
use Rattle.qgm_core.specs.Boxes.{Ordered, QueryGraph, has_box, is_box, is_quant, overs_in, owns}
use Rattle.qgm_core.specs.Edits.{compact, drop_column, moved_below, on_quant, put_range, without_quant}
use Rattle.list_laws.specs.Lists.{In, change, first, times}
use Rattle.qgm_core.specs.declared.node.Node.{Node}
use Rattle.qgm_core.specs.declared.owned.OwnedQuant.{OwnedQuant}
use Rattle.qgm_meaning.specs.Meaning.{bag_in, root_bag, rows_of}
use Rattle.qgm_meaning.specs.Scope.{loose}
use Rattle.qgm_meaning.specs.Values.{Environment}
use Rattle.qgm_edit_laws.specs.Adds.{Adds, Interposes, at, interposed}
use Rattle.qgm_edit_laws.specs.Changes.{Changes, LosesColumn, LosesQuant, PutsQuant, Redirects, Reparts, TurnsQuants}
use Rattle.qgm_edit_laws.specs.Graph.{Sound}
use Rattle.qgm_edit_laws.specs.Placed.{Below, place}
use Rattle.qgm_edit_laws.specs.Scoped.{Bounds, Local, NearlySound, Scoped}

-- an edit of the box of a number, or of the owner of a quantifier, changes that box where it stands
pub record EditsAreMaps : Type 0 where
  pub box : (bs : List Node) → Ordered bs → (b : ℕ) (f : Node → Node) → change (is_box b) f bs ≡ map (at b f) bs
  pub owner : (bs : List Node) (root : ℕ) → Sound bs root → (q : ℕ) (o : Node) (f : Node → Node) → In o bs → owns q o ≡ true → change (owns q) f bs ≡ map (at o.id f) bs
  pub quant : (bs : List Node) (root : ℕ) → Sound bs root → (o : Node) (r : OwnedQuant) → In o bs → In r o.quants → first (is_quant r.id) o.quants ≡ Some r

-- what boxes look up is bounded by any bound to which each box keeps by itself; in a sound graph what is looked up is such a bound
pub record ScopeLaws : Type 0 where
  pub bounds : (look : ℕ → ℕ → Bool) (bs : List Node) (root : ℕ) → Local bs root → ((n : Node) → In n bs → Scoped look n) → (b q : ℕ) → loose bs b q ≡ true → look b q ≡ true
  pub nearly : (look : ℕ → ℕ → Bool) (bs : List Node) (root : ℕ) → Local bs root → Bounds look bs root → NearlySound bs root
  pub scoped : (bs : List Node) (root : ℕ) → Sound bs root → (n : Node) → In n bs → Scoped (loose bs) n
  pub is_nearly : (bs : List Node) (root : ℕ) → Sound bs root → NearlySound bs root
  pub is_sound : (bs : List Node) (root : ℕ) → NearlySound bs root → ((b q : ℕ) → loose bs b q ≡ true → times b (overs_in bs) ≡ 1) → Sound bs root

-- a sound graph stays sound
pub record EditsSound (bs : List Node) (root : ℕ) : Type 0 where
  pub changed : (g : Node → Node) → Changes bs root g → (look : ℕ → ℕ → Bool) → ((y : Node) → In y bs → Scoped look (g y)) → ((y : Node) → In y bs → (q : ℕ) → owns q (g y) ≡ true → look y.id q ≡ false) → ((b q : ℕ) → look b q ≡ true → times b (overs_in (map g bs)) ≡ 1) → Sound (map g bs) root
  pub parts : (g : Node → Node) → Reparts bs g → Sound (map g bs) root
  pub quant_put : (o : Node) (i : ℕ) (r : OwnedQuant) → PutsQuant bs root o i r → Sound (map (at o.id (put_range i r)) bs) root
  pub quant_lost : (o : Node) (q : ℕ) → LosesQuant bs o q → ((s : OwnedQuant) → In s o.quants → s.id ≡ q → (p : ℕ) → loose bs s.over p ≡ false) → Sound (map (at o.id (without_quant q)) bs) root
  pub quants_turned : (o : Node) (f : Node → Node) → TurnsQuants bs o f → Sound (map (at o.id f) bs) root
  pub redirected : (o : Node) (r : OwnedQuant) (c : Node) → Redirects bs root o r c → ((q : ℕ) → loose bs r.over q ≡ false) → Sound (map (at o.id (on_quant r.id (λ s. record s { over = c.id }))) bs) root
  pub moved_below : (c : Node) (d : ℕ) → In c bs → Below bs d c.id → ((n : Node) (r : OwnedQuant) → In n bs → In r n.quants → r.over ≡ c.id → place bs n.id ≤ place bs d) → Sound (moved_below c.id d bs) root
  pub column_dropped : (b : Node) (k : ℕ) → LosesColumn bs b k → (g : QueryGraph) → g.boxes ≡ bs → Sound (drop_column b.id k g).boxes root

-- sound but for what the root doesn't reach, where the box that a quantifier leaves looks something up
pub record EditsNearly (bs : List Node) (root : ℕ) : Type 0 where
  pub quant_lost : (o : Node) (q : ℕ) → LosesQuant bs o q → NearlySound (map (at o.id (without_quant q)) bs) root
  pub redirected : (o : Node) (r : OwnedQuant) (c : Node) → Redirects bs root o r c → NearlySound (map (at o.id (on_quant r.id (λ s. record s { over = c.id }))) bs) root

abbrev pub KeepSound : Type 0
KeepSound = (bs : List Node) (root : ℕ) → Sound bs root → EditsSound bs root × EditsNearly bs root

-- a box more, over boxes that look nothing up, which reads its own alone; and a box put between a quantifier and the box that it ranges over
pub record AddedSound (xs ys : List Node) (root : ℕ) : Type 0 where
  pub added : (s : Node) → Adds xs ys root s → Scoped (loose (xs ++ ys)) s → ((r : OwnedQuant) → In r s.quants → (q : ℕ) → loose (xs ++ ys) r.over q ≡ false) → Sound (xs ++ s ∷ ys) root
  pub interposed : (s o c : Node) (r : OwnedQuant) → Interposes xs ys root s o c r → Sound (interposed xs ys s o.id r.id) root

abbrev pub AddSound : Type 0
AddSound = (xs ys : List Node) (root : ℕ) → Sound (xs ++ ys) root → AddedSound xs ys root

-- without the boxes that the root doesn't reach a nearly sound graph is sound, and means the same
pub record NearlyCompact : Type 0 where
  pub sound : (g : QueryGraph) → NearlySound g.boxes g.root → Sound (compact g).boxes g.root
  pub bag : (g : QueryGraph) → NearlySound g.boxes g.root → (tables : List Table) → root_bag tables (compact g) ≡ root_bag tables g

-- bags stay where changed boxes give the same rows over the old bags, and where a box moves
pub record BagsStay (bs : List Node) (root : ℕ) : Type 0 where
  pub changed : (tables : List Table) (g : Node → Node) → ((y : Node) → (g y).id ≡ y.id) → Sound (map g bs) root → ((y : Node) → In y bs → (e : Environment) → rows_of tables (g y) (bag_in tables bs) e ≡ rows_of tables y (bag_in tables bs) e) → (b : ℕ) → has_box bs b ≡ true → (e : Environment) → bag_in tables (map g bs) b e ≡ bag_in tables bs b e
  pub moved_below : (c : Node) (d : ℕ) → In c bs → Below bs d c.id → ((n : Node) (r : OwnedQuant) → In n bs → In r n.quants → r.over ≡ c.id → place bs n.id ≤ place bs d) → (tables : List Table) (b : ℕ) → has_box bs b ≡ true → (e : Environment) → bag_in tables (moved_below c.id d bs) b e ≡ bag_in tables bs b e

abbrev pub KeepBags : Type 0
KeepBags = (bs : List Node) (root : ℕ) → Sound bs root → BagsStay bs root
