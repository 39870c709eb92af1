-- Cells that are put in or masked, widths of bags, and what distinctness asks.
use Rattle.std.proofs.Common.{ℕ, zero, suc, ◌≡◌, ◌&&◌, ◌+◌, ◌≤◌, ◌<◌, cond, Bool, true, false, List, [], ◌∷◌, ◌++◌, map, length, get_or, None, refl, sym, ap, subst, ◌∙◌, inl, inr, arith}
use Rattle.std.specs.List.{list_all}
use Rattle.row_bag.specs.Bags.{bind, if_there, keep, row, unit}
use Rattle.row_bag.specs.Order.{cell_of}
use Rattle.row_bag.specs.Sets.{distinct, level_in, multiplicity, once, same_cells}
use Rattle.row_bag.specs.declared.row.Row.{Row}
use Rattle.row_bag.specs.declared.tables.Table.{Table}
use Rattle.sql_value.specs.Cells.{error_of}
use Rattle.sql_value.specs.declared.cell.Cell.{Cell}
use Rattle.sql_value.specs.declared.level.Level.{Level}
use Rattle.sql_value.specs.declared.level.Level.TheVariants.{No, Cardinality, Division, Overflow, Yes}
use Rattle.qgm_core.specs.Boxes.{Ordered}
use Rattle.qgm_core.specs.Edits.{with_distinct}
use Rattle.qgm_core.specs.Free.{Reaches, itself, through}
use Rattle.qgm_core.specs.Kinds.{is_enforce}
use Rattle.list_laws.specs.Lists.{In}
use Rattle.qgm_core.specs.declared.kinds.BoxKind.{BoxKind}
use Rattle.qgm_core.specs.declared.kinds.BoxKind.TheVariants.{Base, Select, Group, SetOp, OuterJoin}
use Rattle.qgm_core.specs.declared.kinds.Distinct.{Distinct}
use Rattle.qgm_core.specs.declared.kinds.Distinct.TheVariants.{Enforce, Preserve, Permit}
use Rattle.qgm_core.specs.declared.node.Node.{Node}
use Rattle.qgm_meaning.specs.Meaning.{Family, given_by, once_if, over_each, rows_by}
use Rattle.qgm_meaning.specs.Searches.{bare}
use Rattle.qgm_meaning.specs.Tags.{columns_from}
use Rattle.qgm_meaning.specs.Values.{Bag, Environment}
use Rattle.qgm_meaning.specs.Widths.{Wide}
use Rattle.qgm_terms.specs.Substitution.{cell_at}
use Rattle.qgm_terms.specs.Terms.{Term, col, null_int}
use Rattle.qgm_edit_laws.specs.Placed.{place}
use Rattle.qgm_edit_laws.proofs.Ranks.{place-under}
use Rattle.rule_feed.specs.Feed.{mask_cells, picks, put_cells, unpermitted}
use Rattle.rule_feed.proofs.FeedPicks.{Frees}

-- ---- lists of cells

pub get-mapped : (f : Term → Cell) (xs : List Term) (k : ℕ) (x : Term) → f (get_or xs k x) ≡ get_or (map f xs) k (f x)
get-mapped f [] k x = refl
get-mapped f (y ∷ xs) zero x = refl
get-mapped f (y ∷ xs) (suc k) x = get-mapped f xs k x

pub bare-put : (named : ℕ → Bool) (q w k j : ℕ) → list_all bare (put_cells named q k j w) ≡ true
bare-put named q zero k j = refl
bare-put named q (suc w) k j = elim (named k) as (λ b. list_all bare (cond b (col q j ∷ put_cells named q (suc k) (suc j) w) (null_int ∷ put_cells named q (suc k) j w)) ≡ true) [
  | true ↦ bare-put named q w (suc k) (suc j)
  | false ↦ bare-put named q w (suc k) j
]

pub bare-mask : (named : ℕ → Bool) (q w k : ℕ) → list_all bare (mask_cells named q k w) ≡ true
bare-mask named q zero k = refl
bare-mask named q (suc w) k = elim (named k) as (λ b. (bare (cond b (col q k) null_int) && list_all bare (mask_cells named q (suc k) w)) ≡ true) [ true ↦ bare-mask named q w (suc k) | false ↦ bare-mask named q w (suc k) ]

pub bare-columns : (q w k : ℕ) → list_all bare (columns_from q k w) ≡ true
bare-columns q zero k = refl
bare-columns q (suc w) k = bare-columns q w (suc k)

-- a named column stands at its place
pub mask-at : (named : ℕ → Bool) (q w k j : ℕ) → j < w → named (k + j) ≡ true → get_or (mask_cells named q k w) j null_int ≡ col q (k + j)
mask-at named q zero k j l h = absurd (let z : ⊥ = omega (arith, l) in z)
mask-at named q (suc w) k zero l h =
    let e : k + zero ≡ k = omega arith in
    ap (λ (b : Bool). cond b (col q k) null_int) (subst (λ (m : ℕ). named m ≡ true) e h) ∙ ap (col q) (sym e)
mask-at named q (suc w) k (suc j) l h =
    let e : k + suc j ≡ suc k + j = omega arith in
    mask-at named q w (suc k) j (let m : j < w = omega (arith, l) in m) (subst (λ (m : ℕ). named m ≡ true) e h) ∙ ap (col q) (sym e)

pub mask-cell : (named : ℕ → Bool) (q w k : ℕ) → 1 ≤ k → k ≤ w → named k ≡ true → cell_at k (mask_cells named q 1 w) ≡ col q k
mask-cell named q w zero a b h = absurd (let z : ⊥ = omega (arith, a) in z)
mask-cell named q w (suc k) a b h =
    let e : suc k ≡ 1 + k = omega arith in
    mask-at named q w 1 k (let m : k < w = omega (arith, b) in m) (subst (λ (m : ℕ). named m ≡ true) e h) ∙ ap (col q) (sym e)

-- no named cell is an error
pub frees-picks : (named : ℕ → Bool) (row : List Cell) (w k : ℕ) → ((k : ℕ) → named k ≡ true → error_of (cell_of k row) ≡ None) → Frees (picks named row k w)
frees-picks named row zero k h = tt
frees-picks named row (suc w) k h = elim (named k) as (λ b. named k ≡ b → Frees (cond b (cell_of k row ∷ picks named row (suc k) w) (picks named row (suc k) w))) [
  | true ↦ λ t. (h k t, frees-picks named row w (suc k) h)
  | false ↦ λ t. frees-picks named row w (suc k) h
] refl

-- ---- widths

pub wide-from : (w : ℕ) (rows : Bag) → ((r : Row (List Cell)) → In r rows → length r.cells ≡ w) → Wide w rows
wide-from w [] h = tt
wide-from w (r ∷ rows) h = (h r (inl refl), wide-from w rows (λ x i. h x (inr i)))

pub wide-append : (w : ℕ) (xs ys : Bag) → Wide w xs → Wide w ys → Wide w (xs ++ ys)
wide-append w [] ys h k = k
wide-append w (x ∷ xs) ys h k = (h.0, wide-append w xs ys h.1 k)

pub wide-keep : (w : ℕ) (l : Level) (xs : Bag) → Wide w xs → Wide w (keep l xs)
wide-keep w l [] h = tt
wide-keep w l (x ∷ xs) h = (h.0, wide-keep w l xs h.1)

pub wide-bind : (w : ℕ) (v : ℕ) (xs : Bag) (f : List Cell → Bag) → Wide v xs → ((c : List Cell) → length c ≡ v → Wide w (f c)) → Wide w (bind xs f)
wide-bind w v [] f h k = tt
wide-bind w v (x ∷ xs) f h k = wide-append w (keep x.level (f x.cells)) (bind xs f) (wide-keep w x.level (f x.cells) (k x.cells h.0)) (wide-bind w v xs f h.1 k)

pub wide-image : (w : ℕ) (xs : Bag) (g : List Cell → List Cell) → ((c : List Cell) → length (g c) ≡ w) → Wide w (bind xs (λ c. unit (g c)))
wide-image w [] g k = tt
wide-image w (x ∷ xs) g k = (k x.cells, wide-image w xs g k)

pub wide-once : (w : ℕ) (xs : Bag) → Wide w xs → Wide w (once same_cells xs)
wide-once w [] h = tt
wide-once w (x ∷ xs) h = wide-append w (if_there [] (λ c l. cond (Rattle.std.specs.Prelude.nat_eq (multiplicity same_cells c xs) 0) (unit c) []) x.cells x.level) (once same_cells xs) (at x.level) (wide-once w xs h.1)
  where
    one : (b : Bool) → Wide w (cond b (unit x.cells) [])
    one true = (h.0, tt)
    one false = tt

    at : (l : Level) → Wide w (if_there [] (λ c l. cond (Rattle.std.specs.Prelude.nat_eq (multiplicity same_cells c xs) 0) (unit c) []) x.cells l)
    at No = tt
    at Cardinality = one (Rattle.std.specs.Prelude.nat_eq (multiplicity same_cells x.cells xs) 0)
    at Division = one (Rattle.std.specs.Prelude.nat_eq (multiplicity same_cells x.cells xs) 0)
    at Overflow = one (Rattle.std.specs.Prelude.nat_eq (multiplicity same_cells x.cells xs) 0)
    at Yes = one (Rattle.std.specs.Prelude.nat_eq (multiplicity same_cells x.cells xs) 0)

pub wide-distinct : (w : ℕ) (xs : Bag) → Wide w xs → Wide w (distinct same_cells xs)
wide-distinct w xs h = wide-bind w w (once same_cells xs) (λ c. row c (level_in same_cells c xs) ∷ []) (wide-once w xs h) (λ c k. (k, tt))

-- ---- DISTINCT is all that a box's rows ask of its distinctness

pub distinct-rows : (tables : List Table) (kind : BoxKind) (d : Distinct) (n : Node) (s : Family) → is_enforce d ≡ is_enforce n.parts.distinct → rows_by kind tables (with_distinct d n) s ≡ rows_by kind tables n s
distinct-rows tables (Base t) d n s h = refl
distinct-rows tables Select d n s h = ap {B = Environment → Bag} (λ (b : Bool) (e : Environment). once_if b (over_each n.quants s (given_by s n) e)) h
distinct-rows tables (Group k) d n s h = refl
distinct-rows tables (SetOp o t) d n s h = refl
distinct-rows tables OuterJoin d n s h = refl

pub still-enforced : (d : Distinct) → is_enforce (unpermitted d) ≡ is_enforce d
still-enforced Enforce = refl
still-enforced Preserve = refl
still-enforced Permit = refl

-- what a box reaches stands no higher
pub below-reach : (bs : List Node) → Ordered bs → (a b : ℕ) → Reaches bs a b → place bs a ≤ place bs b
below-reach bs o a b (itself x) = omega arith
below-reach bs o a b (through n r x i j h) = let u = below-reach bs o r.over x h in let v = place-under bs n r o i j in omega arith
