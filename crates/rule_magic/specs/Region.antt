-- The boxes that an open operand reaches, in which names of the magic box's quantifier become those of a new one.
use Rattle.std.specs.Prelude.{ℕ, ◌≡◌, ◌≤◌, ◌<◌, ◌==◌, ◌&&◌, ◌||◌, ◌⊎◌, not, Bool, true, false, List, [], ◌∷◌, Some}
use Rattle.std.specs.List.{list_any}
use Rattle.qgm_core.specs.Boxes.{Ordered, has_box, ids_in, owns, width}
use Rattle.qgm_core.specs.Free.{reached}
use Rattle.list_laws.specs.Lists.{In, holds, times}
use Rattle.qgm_core.specs.declared.node.Node.{Node}
use Rattle.qgm_core.specs.declared.owned.OwnedQuant.{OwnedQuant}
use Rattle.qgm_meaning.specs.Scope.{loose, put_node}
use Rattle.qgm_meaning.specs.Tags.{columns_from}
use Rattle.qgm_edit_laws.specs.Graph.{Fits, Sound, reads_in}
use Rattle.qgm_edit_laws.specs.Placed.{place}
use Rattle.qgm_edit_laws.specs.Rebuilds.{HasForm, StaysIn}
use Rattle.qgm_edit_laws.specs.Reforms.{types_at}
use Rattle.qgm_edit_laws.specs.Shaped.{Shaped, Typed}
use Rattle.qgm_edit_laws.specs.TypesBy.{Types}
use Rattle.qgm_wellformed.specs.Columns.{box_under}
use Rattle.rule_magic.specs.Renamed.{MayRename}

-- the boxes that box y reaches
abbrev pub is_below : List Node → ℕ → ℕ → Bool
is_below bs y b = holds b (reached (y ∷ []) bs)

-- r of box o ranges over a box that looks a up, alone; a's owner stands above it
pub record IsArm (bs : List Node) (o : Node) (r : OwnedQuant) (a : ℕ) : Type 0 where
  pub within : In o bs
  pub owned : In r o.quants
  pub opened : loose bs r.over a ≡ true
  pub alone : (q : ℕ) → loose bs r.over q ≡ true → q ≡ a
  pub owner : Node
  pub in_owner : In owner bs
  pub owns_a : owns a owner ≡ true

-- what a box names that the arm reaches another such box owns, or it is a; what stands above isn't reached; nor is, but by r, what isn't closed
pub record IsRegion (bs : List Node) (r : OwnedQuant) (a : ℕ) : Type 0 where
  pub top : is_below bs r.over r.over ≡ true
  pub there : (b : ℕ) → is_below bs r.over b ≡ true → has_box bs b ≡ true
  pub under : (n : Node) (s : OwnedQuant) → In n bs → is_below bs r.over n.id ≡ true → In s n.quants → is_below bs r.over s.over ≡ true
  pub above : (b : ℕ) → place bs b < place bs r.over → is_below bs r.over b ≡ false
  pub apart : (n : Node) → In n bs → is_below bs r.over n.id ≡ true → owns a n ≡ false
  pub looks : (b q : ℕ) → is_below bs r.over b ≡ true → loose bs b q ≡ true → (q ≡ a) ⊎ ((x : Node) × (In x bs × ((is_below bs r.over x.id ≡ true) × (owns q x ≡ true))))
  pub beside : (n : Node) (s : OwnedQuant) → In n bs → is_below bs r.over n.id ≡ false → In s n.quants → is_below bs r.over s.over ≡ true → (s ≡ r) ⊎ ((q : ℕ) → loose bs s.over q ≡ false)

abbrev pub ArmHasRegion : Type 0
ArmHasRegion = (bs : List Node) (root : ℕ) (o : Node) (r : OwnedQuant) (a : ℕ) → Sound bs root → IsArm bs o r a → IsRegion bs r a

-- after it each of these boxes stands with columns of p, which is new and has w columns, for those of a
pub record RenamesBelow (bs hs : List Node) (kept : ℕ → Bool) (look : ℕ → ℕ → Bool) (y a p w : ℕ) : Type 0 where
  pub ordered : Ordered hs
  pub once : (q : ℕ) → times q (ids_in hs) ≤ 1
  pub new : list_any (owns p) bs ≡ false
  pub stand : (n : Node) → In n bs → is_below bs y n.id ≡ true → In (put_node a (columns_from p 1 w) n) hs
  pub looks : (b q : ℕ) → is_below bs y b ≡ true → look b q ≡ (((q == p) && loose bs b a) || (not (q == a) && loose bs b q))
  pub keeps : (b : ℕ) → is_below bs y b ≡ true → kept b ≡ true
  pub places : (n : Node) (k : ℕ) → In n bs → reads_in a k n ≡ true → (1 ≤ k) × (k ≤ w)
  pub fits_p : (k : ℕ) → 1 ≤ k → k ≤ w → Fits hs p k

-- one that looks a up may be renamed
abbrev pub RegionRenames : Type 0
RegionRenames =
    (bs hs : List Node) (root : ℕ) (o : Node) (r : OwnedQuant) (a p w : ℕ) (kept : ℕ → Bool) (look : ℕ → ℕ → Bool) → Sound bs root → IsArm bs o r a → RenamesBelow bs hs kept look r.over a p w
    → (n : Node) → In n bs → is_below bs r.over n.id ≡ true → loose bs n.id a ≡ true → MayRename bs hs look a p w n

-- and one that doesn't stays as it was
abbrev pub RegionStays : Type 0
RegionStays =
    (bs hs : List Node) (root : ℕ) (o : Node) (r : OwnedQuant) (a p w : ℕ) (kept : ℕ → Bool) (look : ℕ → ℕ → Bool) → Sound bs root → IsArm bs o r a → RenamesBelow bs hs kept look r.over a p w
    → (n : Node) → In n bs → is_below bs r.over n.id ≡ true → loose bs n.id a ≡ false → (put_node a (columns_from p 1 w) n ≡ n) × StaysIn bs hs kept look n

-- in the graph after it, which is sound, these boxes have their types, and who ranges over a renamed one did before; a ranged over m, which has w columns, and so does p
pub record RetypesBelow (bs hs : List Node) (root : ℕ) (T : Types) (m : Node) (y a p w : ℕ) : Type 0 where
  pub sound : Sound hs root
  pub looks : (b q : ℕ) → is_below bs y b ≡ true → loose hs b q ≡ (((q == p) && loose bs b a) || (not (q == a) && loose bs b q))
  pub users : (n : Node) (s : OwnedQuant) → In n hs → In s n.quants → is_below bs y s.over ≡ true → loose bs s.over a ≡ true → (v : Node) × ((t : OwnedQuant) × (In v bs × (In t v.quants × ((t.over ≡ s.over) × (t.kind ≡ s.kind)))))
  pub types : (b : ℕ) → is_below bs y b ≡ true → T b ≡ types_at bs b
  pub under_a : box_under bs a ≡ Some m
  pub under_p : box_under hs p ≡ Some m
  pub types_m : T m.id ≡ types_at bs m.id
  pub wide : width m ≡ w

-- so each renamed box has its form
abbrev pub RegionForms : Type 0
RegionForms =
    (bs hs : List Node) (root : ℕ) (o : Node) (r : OwnedQuant) (a p w : ℕ) (kept : ℕ → Bool) (look : ℕ → ℕ → Bool) (T : Types) (m : Node) → Sound bs root → Typed bs → Shaped bs root → IsArm bs o r a → RenamesBelow bs hs kept look r.over a p w
    → RetypesBelow bs hs root T m r.over a p w → (n : Node) → In n bs → is_below bs r.over n.id ≡ true → loose bs n.id a ≡ true → HasForm hs root T (put_node a (columns_from p 1 w) n)
