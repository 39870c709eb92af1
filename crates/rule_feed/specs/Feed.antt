-- G1, a box under quantifier i of a select b looks up columns of one F quantifier of b, p, alone: it is fed with them.
use Rattle.std.specs.Prelude.{ℕ, zero, suc, ◌==◌, ◌+◌, ◌++◌, ◌&&◌, if◌then◌else◌, Bool, true, false, List, [], ◌∷◌, map}
use Rattle.std.specs.List.{list_any}
use Rattle.sql_value.specs.declared.cell.Cell.{Cell}
use Rattle.row_bag.specs.Order.{cell_of}
use Rattle.qgm_terms.specs.Terms.{Term, int, text, null_int, null_text, col, both, minus_of, choose, count_all, fold, scalar, Arms, no_arm, arm, Cond, always, compare, is_null, and, or, not, some, every, same}
use Rattle.qgm_terms.specs.Wanted.{any_in, any_in_arms, any_in_cond}
use Rattle.qgm_core.specs.Boxes.{width}
use Rattle.qgm_core.specs.Edits.{on_quant, range, with_distinct}
use Rattle.qgm_core.specs.Free.{reached}
use Rattle.qgm_core.specs.Kinds.{is_F, is_permit}
use Rattle.list_laws.specs.Lists.{holds}
use Rattle.qgm_core.specs.declared.kinds.BoxKind.TheVariants.{Select}
use Rattle.qgm_core.specs.declared.kinds.Distinct.{Distinct}
use Rattle.qgm_core.specs.declared.kinds.Distinct.TheVariants.{Enforce, Preserve}
use Rattle.qgm_core.specs.declared.kinds.QuantKind.TheVariants.{F}
use Rattle.qgm_core.specs.declared.kinds.Role.TheVariants.{Fed, Magic}
use Rattle.qgm_core.specs.declared.node.Node.{Node}
use Rattle.qgm_core.specs.declared.owned.OwnedQuant.{OwnedQuant}
use Rattle.qgm_core.specs.declared.parts.BoxParts.{BoxParts}
use Rattle.qgm_meaning.specs.Rules.{selecting}
use Rattle.qgm_meaning.specs.Scope.{put_node}
use Rattle.qgm_meaning.specs.Tags.{columns_from}
use Rattle.qgm_meaning.specs.Searches.{looking}
use Rattle.qgm_edit_laws.specs.Graph.{reads_in}

-- ---- columns

-- of w columns of q from place k on, those that are named
abbrev pub picked : (ℕ → Bool) → ℕ → ℕ → ℕ → List Term
picked named q k zero = []
picked named q k (suc w) = if named k then col q k ∷ picked named q (suc k) w else picked named q (suc k) w

-- how many these are
abbrev pub how_many : (ℕ → Bool) → ℕ → ℕ → ℕ
how_many named k zero = 0
how_many named k (suc w) = if named k then suc (how_many named (suc k) w) else how_many named (suc k) w

-- the same of the cells of a row
abbrev pub picks : (ℕ → Bool) → List Cell → ℕ → ℕ → List Cell
picks named row k zero = []
picks named row k (suc w) = if named k then cell_of k row ∷ picks named row (suc k) w else picks named row (suc k) w

-- cells for w columns from place k on: those that are named are columns of q, from place j on
abbrev pub put_cells : (ℕ → Bool) → ℕ → ℕ → ℕ → ℕ → List Term
put_cells named q k j zero = []
put_cells named q k j (suc w) = if named k then col q j ∷ put_cells named q (suc k) (suc j) w else null_int ∷ put_cells named q (suc k) j w

-- the named ones of p are the same as columns of i, from place j on
abbrev pub joins : (ℕ → Bool) → ℕ → ℕ → ℕ → ℕ → ℕ → List Cond
joins named p i k j zero = []
joins named p i k j (suc w) = if named k then compare same (col p k) (col i j) ∷ joins named p i (suc k) (suc j) w else joins named p i (suc k) j w

abbrev pub conj : Cond → List Cond → Cond
conj x [] = x
conj x (y ∷ ys) = conj (and x y) ys

-- all of these, as the left nest
abbrev pub all_of : List Cond → Cond
all_of [] = always
all_of (x ∷ xs) = conj x xs

-- cells for w columns of q from place k on: those that are named stay
abbrev pub mask_cells : (ℕ → Bool) → ℕ → ℕ → ℕ → List Term
mask_cells named q k zero = []
mask_cells named q k (suc w) = (if named k then col q k else null_int) ∷ mask_cells named q (suc k) w

-- ---- cells and conditions of b: columns of i go up by n, and within a some or every of i this is beside them

-- a column behind n others
abbrev pub up : ℕ → ℕ → ℕ
up n zero = zero
up n (suc j) = n + suc j

abbrev mutual
  pub fed_term : ℕ → ℕ → Cond → Term → Term
  fed_term i n k (int m) = int m
  fed_term i n k (text s) = text s
  fed_term i n k null_int = null_int
  fed_term i n k null_text = null_text
  fed_term i n k (col r j) = if r == i then col r (up n j) else col r j
  fed_term i n k (both o x y) = both o (fed_term i n k x) (fed_term i n k y)
  fed_term i n k (minus_of x) = minus_of (fed_term i n k x)
  fed_term i n k (choose s x) = choose (fed_arms i n k s) (fed_term i n k x)
  fed_term i n k count_all = count_all
  fed_term i n k (fold f t x) = fold f t (fed_term i n k x)
  fed_term i n k (scalar r) = scalar r

  pub fed_arms : ℕ → ℕ → Cond → Arms → Arms
  fed_arms i n k no_arm = no_arm
  fed_arms i n k (arm c x s) = arm (fed_cond i n k c) (fed_term i n k x) (fed_arms i n k s)

  pub fed_cond : ℕ → ℕ → Cond → Cond → Cond
  fed_cond i n k always = always
  fed_cond i n k (compare sign x y) = compare sign (fed_term i n k x) (fed_term i n k y)
  fed_cond i n k (is_null x) = is_null (fed_term i n k x)
  fed_cond i n k (and c d) = and (fed_cond i n k c) (fed_cond i n k d)
  fed_cond i n k (or c d) = or (fed_cond i n k c) (fed_cond i n k d)
  fed_cond i n k (not c) = not (fed_cond i n k c)
  fed_cond i n k (some r c) = some r (if r == i then and k (fed_cond i n k c) else fed_cond i n k c)
  fed_cond i n k (every r c) = every r (if r == i then or (not k) (fed_cond i n k c) else fed_cond i n k c)

-- a scalar of i, or a some or every of p, stands within
abbrev pub nodes_of : ℕ → ℕ → Term → Bool
nodes_of i p = any_in (looking (λ r j. false) (λ r. r == i) (λ r. r == p) (λ r. true))

abbrev pub nodes_of_arms : ℕ → ℕ → Arms → Bool
nodes_of_arms i p = any_in_arms (looking (λ r j. false) (λ r. r == i) (λ r. r == p) (λ r. true))

abbrev pub nodes_of_cond : ℕ → ℕ → Cond → Bool
nodes_of_cond i p = any_in_cond (looking (λ r j. false) (λ r. r == i) (λ r. r == p) (λ r. true))

-- ---- boxes

abbrev pub fed_parts : BoxParts
fed_parts = record { kind = Select; distinct = Preserve; role = Fed; conds = record { items = []; spare = 0 }; head = [] }

-- the magic box m: an F quantifier over s, and of its w columns those that are named
abbrev pub magic_box : (ℕ → Bool) → ℕ → ℕ → ℕ → ℕ → Node
magic_box named m mq s w = selecting m (record fed_parts { role = Magic }) Enforce [] (picked named mq 1 w) (range mq F s ∷ [])

-- the fed box d: F quantifiers over m and c, and all their columns, n and v
abbrev pub fed_box : ℕ → ℕ → ℕ → ℕ → ℕ → ℕ → ℕ → Node
fed_box d dm dc m c n v = selecting d fed_parts Preserve [] (columns_from dm 1 n ++ columns_from dc 1 v) (range dm F m ∷ (range dc F c ∷ []))

-- ---- the graph

-- c reaches the box
abbrev pub inside : List Node → ℕ → ℕ → Bool
inside bs c b = holds b (reached (c ∷ []) bs)

-- column k of p is read in c or below
abbrev pub named_below : List Node → ℕ → ℕ → ℕ → Bool
named_below bs c p k = list_any (λ y. inside bs c y.id && reads_in p k y) bs

abbrev pub unpermitted : Distinct → Distinct
unpermitted d = if is_permit d then Preserve else d

-- in c and below columns of dm stand for those of p; PERMIT goes from c
abbrev pub fed_below : (ℕ → Bool) → ℕ → ℕ → ℕ → ℕ → Node → Node
fed_below named c p dm w y = with_distinct (if y.id == c then unpermitted y.parts.distinct else y.parts.distinct) (put_node p (put_cells named dm 1 1 w) y)

-- i ranges over d, columns of i go up, and the join is beside the conditions of i
abbrev pub fed_owner : (ℕ → Bool) → ℕ → OwnedQuant → ℕ → ℕ → Node → Node
fed_owner named p i d w n =
    on_quant i.id (λ r. record r { over = d }) (record n {
      parts =
          record n.parts {
            head = map (fed_term i.id (how_many named 1 w) (all_of (joins named p i.id 1 1 w))) n.parts.head;
            conds = record n.parts.conds { items = map (fed_cond i.id (how_many named 1 w) (all_of (joins named p i.id 1 1 w))) n.parts.conds.items ++ (if is_F i.kind then joins named p i.id 1 1 w else []) };
          };
    })

-- what the action needs to know beside the graph
pub record Numbers : Type 0 where
  -- the new boxes, fed and magic, and their quantifiers: two of the fed box, one of the magic one
  pub d : ℕ
  pub m : ℕ
  pub dm : ℕ
  pub dc : ℕ
  pub mq : ℕ

module _ (bs : List Node) (b s c : Node) (p i : OwnedQuant) (x : Numbers) where
  abbrev pub named_of : ℕ → Bool
  named_of = named_below bs c.id p.id

  abbrev pub fed_node : Node → Node
  fed_node y =
      if y.id == b.id then fed_owner named_of p.id i x.d (width s) y
      else if inside bs c.id y.id then fed_below named_of c.id p.id x.dm (width s) y
      else put_node i.id (columns_from i.id (suc (how_many named_of 1 (width s))) (width c)) y

  abbrev pub new_fed : Node
  new_fed = fed_box x.d x.dm x.dc x.m c.id (how_many named_of 1 (width s)) (width c)

  abbrev pub new_magic : Node
  new_magic = magic_box named_of x.m x.mq s.id (width s)

-- the boxes down to b, the two new ones, and those below b
abbrev pub fed_boxes : List Node → List Node → Node → Node → Node → OwnedQuant → OwnedQuant → Numbers → List Node
fed_boxes xs ys b s c p i x = map (fed_node (xs ++ ys) b s c p i x) xs ++ new_fed (xs ++ ys) b s c p i x ∷ (new_magic (xs ++ ys) b s c p i x ∷ map (fed_node (xs ++ ys) b s c p i x) ys)
