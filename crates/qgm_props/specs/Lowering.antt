-- Changes of a graph that lower the measure, by what they do to open boxes, fed boxes and scalar quantifiers.
use Rattle.std.specs.Prelude.{◌≡◌, ◌≤◌, ◌+◌, ◌++◌, true, false, List, ◌∷◌}
use Rattle.list_laws.specs.Lists.{In}
use Rattle.qgm_core.specs.declared.node.Node.{Node}
use Rattle.qgm_core.specs.declared.owned.OwnedQuant.{OwnedQuant}
use Rattle.qgm_props.specs.Calm.{is_closed}
use Rattle.qgm_props.specs.Measure.{many, summed, is_loose_scalar, is_open, is_fed_box, fed_in, Lowers}

-- what stays of a graph: what was closed is closed, and an S quantifier that counts counted before
pub record Stays (xs hs : List Node) (n : Node) : Type 0 where
  pub closed : is_closed xs n.id ≡ true → is_closed hs n.id ≡ true
  pub scalars : (r : OwnedQuant) → In r n.quants → is_loose_scalar hs r ≡ true → is_loose_scalar xs r ≡ true

-- G2 to G5: in the place of the fed box d and the open box c stand closed boxes rs
pub record Absorbs (up l1 l2 rs : List Node) (d c : Node) (xs hs : List Node) : Type 0 where
  pub before : xs ≡ up ++ d ∷ (l1 ++ c ∷ l2)
  pub after : hs ≡ up ++ (rs ++ (l1 ++ l2))
  pub fed : is_fed_box d ≡ true
  pub opened : is_closed xs c.id ≡ false
  pub not_fed : is_fed_box c ≡ false
  pub closed : (n : Node) → In n rs → is_closed hs n.id ≡ true
  pub stays_up : (n : Node) → In n up → Stays xs hs n
  pub stays_left : (n : Node) → In n l1 → Stays xs hs n
  pub stays_right : (n : Node) → In n l2 → Stays xs hs n
  pub scalars : summed (λ n. many (is_loose_scalar hs) n.quants) rs ≤ many (is_loose_scalar xs) c.quants

abbrev pub AbsorbLowers : Type 0
AbsorbLowers = (up l1 l2 rs : List Node) (d c : Node) (xs hs : List Node) → Absorbs up l1 l2 rs d c xs hs → Lowers xs hs

-- U2: between a box o, of which an S quantifier counts no more, and the boxes below stands a new group
pub record Singles (up mid low : List Node) (o o' s : Node) (xs hs : List Node) : Type 0 where
  pub before : xs ≡ up ++ o ∷ (mid ++ low)
  pub after : hs ≡ up ++ o' ∷ (mid ++ s ∷ low)
  pub same : (is_closed xs o.id ≡ true → is_closed hs o'.id ≡ true) × (is_fed_box o ≡ is_fed_box o')
  pub new : is_fed_box s ≡ false
  pub none : many (is_loose_scalar hs) s.quants ≡ 0
  pub one_less : many (is_loose_scalar hs) o'.quants + 1 ≤ many (is_loose_scalar xs) o.quants
  pub stays : (n : Node) → In n (up ++ (mid ++ low)) → Stays xs hs n

abbrev pub SingleLowers : Type 0
SingleLowers = (up mid low : List Node) (o o' s : Node) (xs hs : List Node) → Singles up mid low o o' s xs hs → Lowers xs hs

-- G1: a new fed box d, and the new closed boxes s and m; no box is open that wasn't
pub record Feeds (xs hs : List Node) : Type 0 where
  pub opened : many (is_open hs) hs ≤ many (is_open xs) xs
  pub scalars : summed (λ n. many (is_loose_scalar hs) n.quants) hs ≤ summed (λ n. many (is_loose_scalar xs) n.quants) xs
  pub fed : fed_in xs + 1 ≤ fed_in hs

abbrev pub FeedLowers : Type 0
FeedLowers = (xs hs : List Node) → Feeds xs hs → Lowers xs hs
