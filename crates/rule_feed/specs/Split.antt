-- F quantifiers of a select b, side by side, and the last of its conditions go into a select of their own, s: the inverse of a merge.
use Rattle.std.specs.Prelude.{ℕ, ◌≡◌, ◌==◌, ◌+◌, ◌++◌, ◌&&◌, nat_le, nat_lt, not, if◌then◌else◌, Bool, true, false, List, [], ◌∷◌, map}
use Rattle.std.specs.List.{list_any}
use Rattle.std.specs.Prelude as prelude
use Rattle.row_bag.specs.declared.tables.Table.{Table}
use Rattle.qgm_terms.specs.Terms.{Term, int, text, null_int, null_text, col, both, minus_of, choose, count_all, fold, scalar, Arms, no_arm, arm, Cond, always, compare, is_null, and, or, some, every}
use Rattle.qgm_terms.specs.Wanted.{Wanted, any_in, any_in_cond, reads_cond}
use Rattle.qgm_terms.specs.Terms as t
use Rattle.qgm_core.specs.Boxes.{Ordered, has_box, is_quant, overs_in, owns, width}
use Rattle.qgm_core.specs.Edits.{range}
use Rattle.qgm_core.specs.Kinds.{is_F}
use Rattle.list_laws.specs.Lists.{In, times}
use Rattle.qgm_core.specs.declared.kinds.BoxKind.TheVariants.{Select}
use Rattle.qgm_core.specs.declared.kinds.Distinct.TheVariants.{Preserve}
use Rattle.qgm_core.specs.declared.kinds.QuantKind.TheVariants.{F}
use Rattle.qgm_core.specs.declared.kinds.Role.TheVariants.{Plain}
use Rattle.qgm_core.specs.declared.node.Node.{Node}
use Rattle.qgm_core.specs.declared.owned.OwnedQuant.{OwnedQuant}
use Rattle.qgm_meaning.specs.Meaning.{bag_in}
use Rattle.qgm_meaning.specs.Scope.{loose}
use Rattle.qgm_meaning.specs.Searches.{looking, names, names_cond}
use Rattle.qgm_meaning.specs.Tags.{columns_from}
use Rattle.qgm_meaning.specs.Values.{Environment}
use Rattle.qgm_edit_laws.specs.Graph.{Sound}
use Rattle.qgm_edit_laws.specs.Shaped.{Shaped, Typed}

-- each column is what f gives of it
abbrev mutual
  pub renamed : (ℕ → ℕ → Term) → Term → Term
  renamed f (int m) = int m
  renamed f (text s) = text s
  renamed f null_int = null_int
  renamed f null_text = null_text
  renamed f (col r j) = f r j
  renamed f (both o x y) = both o (renamed f x) (renamed f y)
  renamed f (minus_of x) = minus_of (renamed f x)
  renamed f (choose s x) = choose (renamed_arms f s) (renamed f x)
  renamed f count_all = count_all
  renamed f (fold g d x) = fold g d (renamed f x)
  renamed f (scalar r) = scalar r

  pub renamed_arms : (ℕ → ℕ → Term) → Arms → Arms
  renamed_arms f no_arm = no_arm
  renamed_arms f (arm c x s) = arm (renamed_cond f c) (renamed f x) (renamed_arms f s)

  pub renamed_cond : (ℕ → ℕ → Term) → Cond → Cond
  renamed_cond f always = always
  renamed_cond f (compare sign x y) = compare sign (renamed f x) (renamed f y)
  renamed_cond f (is_null x) = is_null (renamed f x)
  renamed_cond f (and c d) = and (renamed_cond f c) (renamed_cond f d)
  renamed_cond f (or c d) = or (renamed_cond f c) (renamed_cond f d)
  renamed_cond f (t.not c) = t.not (renamed_cond f c)
  renamed_cond f (some r c) = some r (renamed_cond f c)
  renamed_cond f (every r c) = every r (renamed_cond f c)

-- ---- quantifiers with their widths

-- all columns of these
abbrev pub heads : List (ℕ × ℕ) → List Term
heads [] = []
heads (p ∷ ps) = columns_from p.0 1 p.1 ++ heads ps

-- how many columns stand before those of r
abbrev pub start : List (ℕ × ℕ) → ℕ → ℕ
start [] r = 0
start (p ∷ ps) r = if p.0 == r then 0 else p.1 + start ps r

-- columns of these are columns of q
abbrev pub into : List (ℕ × ℕ) → ℕ → ℕ → ℕ → Term
into ps q r k = if list_any (λ p. p.0 == r) ps then col q (start ps r + k) else col r k

-- column k of r may be so: it is one of r's, and r isn't q
abbrev pub stays_in : List (ℕ × ℕ) → ℕ → ℕ → ℕ → Bool
stays_in [] q r k = prelude.not (r == q)
stays_in (p ∷ ps) q r k = if p.0 == r then nat_lt 0 k && nat_le k p.1 else stays_in ps q r k

-- a column that may not stands within
abbrev pub strays : List (ℕ × ℕ) → ℕ → Wanted
strays ps q = looking (λ r j. prelude.not (stays_in ps q r j)) (λ r. false) (λ r. false) (λ r. true)

-- ---- boxes

abbrev pub renamed_node : (ℕ → ℕ → Term) → Node → Node
renamed_node f n = record n { parts = record n.parts { head = map (renamed f) n.parts.head; conds = record n.parts.conds { items = map (renamed_cond f) n.parts.conds.items } } }

-- s: these quantifiers and conditions, and all columns
abbrev pub split_box : ℕ → List (ℕ × ℕ) → List OwnedQuant → List Cond → Node
split_box s ws ps taken = record { id = s; parts = record { kind = Select; distinct = Preserve; role = Plain; conds = record { items = taken; spare = 0 }; head = heads ws }; quants = ps }

-- b: without these conditions, q over s in the place of these quantifiers
abbrev pub split_owner : List (ℕ × ℕ) → ℕ → List OwnedQuant → List OwnedQuant → List Cond → Node → Node
split_owner ws q us vs rest n = record n {
  parts = record n.parts { head = map (renamed (into ws q)) n.parts.head; conds = record n.parts.conds { items = map (renamed_cond (into ws q)) rest } };
  quants = us ++ vs;
}

abbrev pub split_node : List (ℕ × ℕ) → ℕ → ℕ → List OwnedQuant → List OwnedQuant → List Cond → Node → Node
split_node ws b q us vs rest n = if n.id == b then split_owner ws q us vs rest n else renamed_node (into ws q) n

abbrev pub split_boxes : List Node → List Node → List (ℕ × ℕ) → ℕ → ℕ → ℕ → List OwnedQuant → List OwnedQuant → List OwnedQuant → List Cond → List Cond → List Node
split_boxes xs ys ws b q s us ps vs rest taken =
    map (split_node ws b q us (range q F s ∷ vs) rest) xs ++ split_box s ws ps taken ∷ map (split_node ws b q us (range q F s ∷ vs) rest) ys

-- b has the quantifiers us, ps, vs and the conditions rest, taken; the widths are those of ps; q and s are new, and columns are in range
pub record MaySplit (xs ys : List Node) (b : Node) (ws : List (ℕ × ℕ)) (q s : ℕ) (us ps vs : List OwnedQuant) (rest taken : List Cond) : Type 0 where
  pub in_b : In b (xs ++ ys)
  pub a_select : b.parts.kind ≡ Select
  pub quants : b.quants ≡ us ++ (ps ++ vs)
  pub conds : b.parts.conds.items ≡ rest ++ taken
  pub new_s : has_box (xs ++ ys) s ≡ false
  pub not_q : (y : Node) → In y (xs ++ ys) → (list_any (names q) y.parts.head ≡ false) × (list_any (names_cond q) y.parts.conds.items ≡ false)
  pub fit : (y : Node) → In y (xs ++ ys) → (list_any (any_in (strays ws q)) y.parts.head ≡ false) × (list_any (any_in_cond (strays ws q)) y.parts.conds.items ≡ false)

-- where the graph after is sound, and q is the one quantifier over s, each bag of the root is the same row by row
abbrev pub SplitBags : Type 0
SplitBags =
    (xs ys : List Node) (root : ℕ) (b : Node) (ws : List (ℕ × ℕ)) (q s : ℕ) (us ps vs : List OwnedQuant) (rest taken : List Cond) → Ordered (xs ++ ys) → MaySplit xs ys b ws q s us ps vs rest taken
    → Sound (split_boxes xs ys ws b.id q s us ps vs rest taken) root → times s (overs_in (split_boxes xs ys ws b.id q s us ps vs rest taken)) ≡ 1
    → (tables : List Table) (e : Environment) → bag_in tables (split_boxes xs ys ws b.id q s us ps vs rest taken) root e ≡ bag_in tables (xs ++ ys) root e

-- b stands above; the quantifiers that go are F, over boxes that look nothing up and stand below; `wide` are the widths of these; the conditions that go look them up alone, and hold no node; q and s are new
pub record MaySplitSound (xs ys : List Node) (b : Node) (wide : OwnedQuant → ℕ) (q s : ℕ) (us ps vs : List OwnedQuant) (rest taken : List Cond) : Type 0 where
  pub above : In b xs
  pub a_select : b.parts.kind ≡ Select
  pub quants : b.quants ≡ us ++ (ps ++ vs)
  pub conds : b.parts.conds.items ≡ rest ++ taken
  pub new_s : has_box (xs ++ ys) s ≡ false
  pub new_q : list_any (owns q) (xs ++ ys) ≡ false
  pub rows : (r : OwnedQuant) → In r ps → is_F r.kind ≡ true
  pub below : (r : OwnedQuant) → In r ps → has_box ys r.over ≡ true
  pub closed : (r : OwnedQuant) → In r ps → (k : ℕ) → loose (xs ++ ys) r.over k ≡ false
  pub widths : (r : OwnedQuant) (z : Node) → In r ps → In z (xs ++ ys) → z.id ≡ r.over → wide r ≡ width z
  pub taken_own : (c : Cond) → In c taken → (k : ℕ) → reads_cond k c ≡ true → list_any (is_quant k) ps ≡ true
  pub taken_bare : (c : Cond) → In c taken → (k : ℕ) → names_cond k c ≡ false

abbrev pub sizes_of : (OwnedQuant → ℕ) → List OwnedQuant → List (ℕ × ℕ)
sizes_of wide ps = map (λ (r : OwnedQuant). (r.id, wide r)) ps

-- such a split keeps a graph sound, and q is the one quantifier over s
abbrev pub SplitSound : Type 0
SplitSound =
    (xs ys : List Node) (root : ℕ) (b : Node) (wide : OwnedQuant → ℕ) (q s : ℕ) (us ps vs : List OwnedQuant) (rest taken : List Cond) → Sound (xs ++ ys) root → MaySplitSound xs ys b wide q s us ps vs rest taken
    → Sound (split_boxes xs ys (sizes_of wide ps) b.id q s us ps vs rest taken) root × (times s (overs_in (split_boxes xs ys (sizes_of wide ps) b.id q s us ps vs rest taken)) ≡ 1)

-- types that agreed agree after
abbrev pub SplitTyped : Type 0
SplitTyped =
    (xs ys : List Node) (root : ℕ) (b : Node) (wide : OwnedQuant → ℕ) (q s : ℕ) (us ps vs : List OwnedQuant) (rest taken : List Cond) → Sound (xs ++ ys) root → Typed (xs ++ ys) → MaySplitSound xs ys b wide q s us ps vs rest taken
    → Typed (split_boxes xs ys (sizes_of wide ps) b.id q s us ps vs rest taken)

-- where b is plain, boxes that had their shapes have them after
abbrev pub SplitShaped : Type 0
SplitShaped =
    (xs ys : List Node) (root : ℕ) (b : Node) (wide : OwnedQuant → ℕ) (q s : ℕ) (us ps vs : List OwnedQuant) (rest taken : List Cond) → Sound (xs ++ ys) root → Typed (xs ++ ys) → Shaped (xs ++ ys) root → MaySplitSound xs ys b wide q s us ps vs rest taken
    → b.parts.role ≡ Plain → Shaped (split_boxes xs ys (sizes_of wide ps) b.id q s us ps vs rest taken) root

-- in one: the root's bag is the same
abbrev pub SplitRows : Type 0
SplitRows =
    (xs ys : List Node) (root : ℕ) (b : Node) (wide : OwnedQuant → ℕ) (q s : ℕ) (us ps vs : List OwnedQuant) (rest taken : List Cond) → Sound (xs ++ ys) root → MaySplitSound xs ys b wide q s us ps vs rest taken
    → (tables : List Table) (e : Environment) → bag_in tables (split_boxes xs ys (sizes_of wide ps) b.id q s us ps vs rest taken) root e ≡ bag_in tables (xs ++ ys) root e
