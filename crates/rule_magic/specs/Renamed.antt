-- A box below an open operand, in which names of the magic box's quantifier become those of a new one: what is asked of it in a graph that is built anew.
use Rattle.std.specs.Prelude.{ℕ, ◌≡◌, ◌≤◌, ◌==◌, ◌⊎◌, Bool, true, false, List, Some}
use Rattle.qgm_core.specs.Boxes.{owns, width}
use Rattle.qgm_core.specs.Free.{named_by}
use Rattle.list_laws.specs.Lists.{In, holds}
use Rattle.qgm_core.specs.declared.node.Node.{Node}
use Rattle.qgm_core.specs.declared.owned.OwnedQuant.{OwnedQuant}
use Rattle.qgm_meaning.specs.Scope.{loose, put_node}
use Rattle.qgm_meaning.specs.Tags.{columns_from}
use Rattle.qgm_edit_laws.specs.Graph.{ArmsBy, Fits, Sound, nodes_in, reads_in}
use Rattle.qgm_edit_laws.specs.Rebuilds.{MadeIn}
use Rattle.qgm_edit_laws.specs.Reforms.{types_at}
use Rattle.qgm_edit_laws.specs.Shaped.{Shaped, Typed}
use Rattle.qgm_edit_laws.specs.TypesBy.{Types, agrees_by, via}
use Rattle.qgm_wellformed.specs.Columns.{box_under, columns_fit}
use Rattle.qgm_wellformed.specs.Shapes.{shape_fits}
use Rattle.qgm_wellformed.specs.Types.{lookup_of, types_by}

-- where a box looked up a it looks up p, and else it looks up what it did
pub record LooksRenamed (bs : List Node) (look : ℕ → ℕ → Bool) (a p b : ℕ) : Type 0 where
  pub to : (q : ℕ) → look b q ≡ true → ((q ≡ p) × (loose bs b a ≡ true)) ⊎ (((q == a) ≡ false) × (loose bs b q ≡ true))
  pub own : loose bs b a ≡ true → look b p ≡ true
  pub other : (q : ℕ) → (q == a) ≡ false → loose bs b q ≡ true → look b q ≡ true

-- n looks a up, of which it reads columns 1 to w; nobody knows p; after it, columns that are read are there
pub record MayRename (bs hs : List Node) (look : ℕ → ℕ → Bool) (a p w : ℕ) (n : Node) : Type 0 where
  pub within : In n bs
  pub opened : loose bs n.id a ≡ true
  pub no_node : nodes_in a n ≡ false
  pub places : (k : ℕ) → reads_in a k n ≡ true → (1 ≤ k) × (k ≤ w)
  pub unlooked : (b : ℕ) → loose bs b p ≡ false
  pub unowned : owns p n ≡ false
  pub unnamed : nodes_in p n ≡ false
  pub apart : (p == a) ≡ false
  pub itself : LooksRenamed bs look a p n.id
  pub under : (r : OwnedQuant) → In r n.quants → LooksRenamed bs look a p r.over
  pub fits : (q k : ℕ) → (q == a) ≡ false → reads_in q k n ≡ true → Fits hs q k
  pub fits_p : (k : ℕ) → 1 ≤ k → k ≤ w → Fits hs p k
  pub arms : (m : Node) (r : OwnedQuant) → In r n.quants → In m hs → m.id ≡ r.over → ArmsBy n.parts.kind (width m) (width n)

-- with columns of p for those of a it is a box as one that is made
abbrev pub RenamedIsMade : Type 0
RenamedIsMade =
    (bs hs : List Node) (root : ℕ) (look : ℕ → ℕ → Bool) (a p w : ℕ) (n : Node) → Sound bs root → MayRename bs hs look a p w n → width (put_node a (columns_from p 1 w) n) ≡ width n → MadeIn hs look (put_node a (columns_from p 1 w) n)

-- where boxes have these types: n has its own, so have the boxes under its quantifiers, and what else it names than a is looked up as before; p has the types of a, over w columns
pub record MayRetype (bs hs : List Node) (T : Types) (a p w : ℕ) (n : Node) : Type 0 where
  pub own : T n.id ≡ types_at bs n.id
  pub arms : (r : OwnedQuant) → In r n.quants → T r.over ≡ types_at bs r.over
  pub lookups : (q : ℕ) → holds q (named_by n) ≡ true → (q == a) ≡ false → (k : ℕ) → via T hs q k ≡ lookup_of bs q k
  pub tags : (k : ℕ) → 1 ≤ k → k ≤ w → via T hs p k ≡ lookup_of bs a k
  pub unders : (q : ℕ) → holds q (named_by n) ≡ true → (q == a) ≡ false → (u : Node) × ((x : Node) × ((box_under bs q ≡ Some u) × ((box_under hs q ≡ Some x) × (width x ≡ width u))))
  pub under_p : (x : Node) × ((box_under hs p ≡ Some x) × (width x ≡ w))

-- its columns keep their types, it agrees with them, columns that it names are there, and it keeps its shape among the boxes before
pub record IsRetyped (bs hs : List Node) (root : ℕ) (T : Types) (z : Node) : Type 0 where
  pub columns_typed : T z.id ≡ types_by (via T hs) z.parts.kind z.parts.head
  pub agrees : agrees_by (via T hs) T z ≡ true
  pub columns : columns_fit hs z ≡ true
  pub shape : shape_fits root bs z ≡ true

abbrev pub RenamedIsTyped : Type 0
RenamedIsTyped =
    (bs hs : List Node) (root : ℕ) (look : ℕ → ℕ → Bool) (T : Types) (a p w : ℕ) (n : Node) → Sound bs root → Typed bs → Shaped bs root → Sound hs root → MayRename bs hs look a p w n → MayRetype bs hs T a p w n
    → In (put_node a (columns_from p 1 w) n) hs → IsRetyped bs hs root T (put_node a (columns_from p 1 w) n)
