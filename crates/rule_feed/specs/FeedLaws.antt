-- What feeding a box that looks up columns of one quantifier alone keeps.
use Rattle.std.specs.Prelude.{ℕ, ◌≡◌, ◌==◌, ◌++◌, true, false, List, [], ◌∷◌, None}
use Rattle.std.specs.List.{list_any}
use Rattle.sql_value.specs.Cells.{error_of}
use Rattle.sql_value.specs.declared.cell.Cell.{Cell}
use Rattle.row_bag.specs.AsSets.{is_clean, stands}
use Rattle.row_bag.specs.Bags.{Agree, bind, unit}
use Rattle.row_bag.specs.Order.{cell_of}
use Rattle.row_bag.specs.Sets.{once, same_cells}
use Rattle.row_bag.specs.declared.tables.Table.{Table}
use Rattle.qgm_core.specs.Boxes.{has_box, owns, width}
use Rattle.qgm_core.specs.Kinds.{is_F, is_S}
use Rattle.list_laws.specs.Lists.{In}
use Rattle.qgm_core.specs.declared.kinds.BoxKind.TheVariants.{Select}
use Rattle.qgm_core.specs.declared.kinds.Role.TheVariants.{Plain}
use Rattle.qgm_core.specs.declared.node.Node.{Node}
use Rattle.qgm_core.specs.declared.owned.OwnedQuant.{OwnedQuant}
use Rattle.qgm_meaning.specs.Meaning.{bag_in}
use Rattle.qgm_meaning.specs.Satisfies.{Satisfies}
use Rattle.qgm_meaning.specs.Scope.{loose}
use Rattle.qgm_meaning.specs.Values.{Environment}
use Rattle.qgm_edit_laws.specs.Graph.{Sound}
use Rattle.qgm_edit_laws.specs.Shaped.{Shaped, Typed}
use Rattle.rule_feed.specs.Feed.{Numbers, fed_boxes, named_below, nodes_of, nodes_of_cond, picks}

-- a select b has the F quantifier p over s, which looks nothing up, and i, no S quantifier, over c, which looks up p alone; where i is an F quantifier p stands before it
-- no scalar is of i, and no some or every of p
-- over tables that satisfy the bases the rows of s are clean, and what is read of p in c and below is no error
-- the numbers are new
pub record FeedsOne (xs ys : List Node) (root : ℕ) (b s c : Node) (p i : OwnedQuant) (x : Numbers) : Type 0 where
  pub in_b : In b xs
  pub in_s : In s ys
  pub in_c : In c ys
  pub a_select : b.parts.kind ≡ Select
  pub owned_p : In p b.quants
  pub owned_i : In i b.quants
  pub p_binds : is_F p.kind ≡ true
  pub not_scalar : is_S i.kind ≡ false
  pub over_s : p.over ≡ s.id
  pub over_c : i.over ≡ c.id
  pub before : is_F i.kind ≡ true → (us : List OwnedQuant) × ((vs : List OwnedQuant) × ((ws : List OwnedQuant) × (b.quants ≡ us ++ p ∷ (vs ++ i ∷ ws))))
  pub clear : list_any (nodes_of i.id p.id) b.parts.head ≡ false
  pub clear_conds : list_any (nodes_of_cond i.id p.id) b.parts.conds.items ≡ false
  pub opened : loose (xs ++ ys) c.id p.id ≡ true
  pub alone : (q : ℕ) → loose (xs ++ ys) c.id q ≡ true → q ≡ p.id
  pub closed : (q : ℕ) → loose (xs ++ ys) s.id q ≡ false
  pub new_d : has_box (xs ++ ys) x.d ≡ false
  pub new_m : has_box (xs ++ ys) x.m ≡ false
  pub apart : (x.m == x.d) ≡ false
  pub new_dm : list_any (owns x.dm) (xs ++ ys) ≡ false
  pub new_dc : list_any (owns x.dc) (xs ++ ys) ≡ false
  pub new_mq : list_any (owns x.mq) (xs ++ ys) ≡ false
  pub apart_dc : (x.dc == x.dm) ≡ false
  pub apart_mq : (x.mq == x.dm) ≡ false
  pub apart_both : (x.mq == x.dc) ≡ false
  pub clean : (tables : List Table) → Satisfies tables (xs ++ ys) → is_clean (bag_in tables (xs ++ ys) s.id []) ≡ true
  pub free : (tables : List Table) → Satisfies tables (xs ++ ys) → (row : List Cell) → stands same_cells row (bag_in tables (xs ++ ys) s.id []) ≡ true → (k : ℕ) → named_below (xs ++ ys) c.id p.id k ≡ true → error_of (cell_of k row) ≡ None

-- over tables that satisfy the bases the root's bag agrees, where nothing is bound
abbrev pub FeedBags : Type 0
FeedBags =
    (xs ys : List Node) (root : ℕ) → Sound (xs ++ ys) root → (b s c : Node) (p i : OwnedQuant) (x : Numbers) → FeedsOne xs ys root b s c p i x
    → (tables : List Table) → Satisfies tables (xs ++ ys) → Agree same_cells (bag_in tables (fed_boxes xs ys b s c p i x) root []) (bag_in tables (xs ++ ys) root [])

-- feeding keeps a graph sound
abbrev pub FeedSound : Type 0
FeedSound = (xs ys : List Node) (root : ℕ) → Sound (xs ++ ys) root → (b s c : Node) (p i : OwnedQuant) (x : Numbers) → FeedsOne xs ys root b s c p i x → Sound (fed_boxes xs ys b s c p i x) root

-- where types agreed they agree after
abbrev pub FeedTyped : Type 0
FeedTyped =
    (xs ys : List Node) (root : ℕ) → Sound (xs ++ ys) root → Typed (xs ++ ys) → (b s c : Node) (p i : OwnedQuant) (x : Numbers) → FeedsOne xs ys root b s c p i x
    → Typed (fed_boxes xs ys b s c p i x)

-- where b is plain, boxes that had their shapes have them after
abbrev pub FeedShaped : Type 0
FeedShaped =
    (xs ys : List Node) (root : ℕ) → Sound (xs ++ ys) root → Typed (xs ++ ys) → Shaped (xs ++ ys) root → (b s c : Node) (p i : OwnedQuant) (x : Numbers) → FeedsOne xs ys root b s c p i x → b.parts.role ≡ Plain
    → Shaped (fed_boxes xs ys b s c p i x) root

-- readers of the magic box get, in every environment, each tuple of the named columns that occurs among the rows of s exactly once and at yes
abbrev pub FeedTags : Type 0
FeedTags =
    (xs ys : List Node) (root : ℕ) → Sound (xs ++ ys) root → (b s c : Node) (p i : OwnedQuant) (x : Numbers) → FeedsOne xs ys root b s c p i x
    → (tables : List Table) → Satisfies tables (xs ++ ys) → (e : Environment)
    → Agree same_cells (bag_in tables (fed_boxes xs ys b s c p i x) x.m e) (once same_cells (bind (bag_in tables (xs ++ ys) s.id []) (λ row. unit (picks (named_below (xs ++ ys) c.id p.id) row 1 (width s)))))
