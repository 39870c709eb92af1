-- What is inferred of keys holds.
use Rattle.std.proofs.Common.{ℕ, zero, suc, ◌≡◌, ◌≤◌, ◌-◌, min, nat_lt, nat_eq, ◌==◌, ◌&&◌, ◌||◌, cond, Bool, true, false, List, [], ◌∷◌, ◌++◌, map, take, length, Option, Some, None, eqb-true, refl, sym, ap, subst, ◌∙◌, arith, inl, inr}
use Rattle.std.proofs.lemmas.Bool.{and_parts, cases_Bool, eq-eqb, eqb-false, ltb-false, ltb-true, or_cases, or_left, or_right}
use Rattle.std.proofs.lemmas.List.{length-map}
use Rattle.std.specs.List.{list_any}
use Rattle.row_bag.specs.Keys.{HasKey}
use Rattle.row_bag.specs.Bags.{bind, keep, unit}
use Rattle.row_bag.specs.Errors.{error_among, error_in}
use Rattle.row_bag.specs.Joins.{how_many, or_else}
use Rattle.row_bag.specs.Order.{cell_of}
use Rattle.row_bag.specs.Sets as sets
use Rattle.row_bag.specs.Sets.{copies, distinct, error_or_bag, failed_cells, multiplicity, of_group, once, same_cells}
use Rattle.row_bag.specs.Tables.{bag_named}
use Rattle.row_bag.specs.Verdict.{is_there}
use Rattle.row_bag.specs.declared.tables.Table.{Table}
use Rattle.row_bag.proofs.TupleBags.{same_cells-decides}
use Rattle.sql_value.specs.declared.cell.Cell.{Cell}
use Rattle.sql_value.specs.declared.cell.Kind.{Kind}
use Rattle.sql_value.specs.declared.level.Level.{Level}
use Rattle.sql_value.specs.declared.level.Level.TheVariants.{No, Cardinality, Division, Overflow, Yes}
use Rattle.qgm_core.specs.Boxes.{Ordered, all_over, has_box, is_box}
use Rattle.qgm_core.specs.Kinds.{is_F, is_enforce}
use Rattle.list_laws.specs.Lists.{EachOnce, In, first, holds}
use Rattle.qgm_core.specs.declared.kinds.BaseTable.{BaseTable}
use Rattle.qgm_core.specs.declared.kinds.BoxKind.{BoxKind}
use Rattle.qgm_core.specs.declared.kinds.BoxKind.TheVariants.{Base, Select, Group, SetOp, OuterJoin}
use Rattle.qgm_core.specs.declared.kinds.SetOperator.{SetOperator}
use Rattle.qgm_core.specs.declared.kinds.SetOperator.TheVariants.{UnionAll, Union, IntersectAll, Intersect, ExceptAll, Except}
use Rattle.qgm_core.specs.declared.node.Node.{Node}
use Rattle.qgm_core.specs.declared.owned.OwnedQuant.{OwnedQuant}
use Rattle.qgm_meaning.specs.Laws.{occurs}
use Rattle.qgm_meaning.specs.Meaning.{Family, bag_in, combined, fold_cells, given, given_by, grouped_rows, groups, key_cells, nothing, of_one, of_two, once_if, outer_rows, over_each, rows_by, rows_or_none}
use Rattle.qgm_meaning.specs.Satisfies.{FoundSatisfies, SatisfiesBy}
use Rattle.qgm_meaning.specs.Values.{Bag, Environment, all_true, bound, head_cells, row_of, value}
use Rattle.qgm_meaning.specs.Widths.{Wide}
use Rattle.qgm_meaning.proofs.Ranked.{unfold-rank}
use Rattle.qgm_meaning.proofs.Satisfying.{of-satisfying}
use Rattle.qgm_terms.specs.Terms.{Term, col}
use Rattle.qgm_props.specs.Facts.{EachThere}
use Rattle.qgm_props.specs.Holding.{Holds, OfRows}
use Rattle.qgm_props.specs.Inferred.{Fact, Facts, at_most_one, says}
use Rattle.qgm_props.specs.Keys.{all_within, among, cell_at, columns_at, holds_key, keyed, keyed_by, keyed_op, keyed_under, keyed_under_F, keyed_under_two}
use Rattle.qgm_props.specs.Laws.{Premises}
use Rattle.qgm_props.proofs.Counted.{occurs-once}
use Rattle.qgm_props.proofs.Environments.{rows, rows-are}
use Rattle.qgm_props.proofs.HeldOuters.{of-either}
use Rattle.qgm_props.proofs.Held.{Looked, ready}
use Rattle.qgm_props.proofs.HeldBases.{satisfied}
use Rattle.qgm_props.proofs.Wide.{arm-rows}
use Rattle.qgm_meaning.specs.Scope.{loose, loose_by, read_beyond, read_by, under_any}
use Rattle.qgm_meaning.proofs.Unfold.{unfold-bag}
use Rattle.qgm_meaning.proofs.Within.{loose-unfold}
use Rattle.qgm_props.proofs.Selects.{Ready, each-given, next-ready, skip-ready, under-bound}
use Rattle.qgm_props.proofs.KeyTests.{agree-from, agreed, all-agreed, by, cells-same, key-two, two-key, within-holds}
use Rattle.qgm_props.proofs.KeyRanks.{column-place, in-first, keyed-local}
use Rattle.qgm_props.proofs.NoTwo.{NoTwo, Test, no-two-bind, no-two-copies, no-two-distinct, no-two-once, no-two-weaker, none-two, once-apart}
use Rattle.qgm_props.proofs.Partial.{AllBoundIn, FittingIn, HoldsIn, OfRowsIn, holds-in, in-rows}
use Rattle.qgm_props.proofs.Rows.{each-append, each-bind, each-distinct, each-keep, occurs-each}

-- ---- by rank

over-held : (ns : List Node) (rs : List OwnedQuant) (r : OwnedQuant) → all_over ns rs ≡ true → In r rs → has_box ns r.over ≡ true
over-held ns [] r h i = elim i [ ]
over-held ns (t ∷ rs) r h i = let a = and_parts (has_box ns t.over) (all_over ns rs) h in elim i [
  | inl e ↦ subst (λ (u : OwnedQuant). has_box ns u.over ≡ true) e a.0
  | inr j ↦ over-held ns rs r a.1 j
]

-- what holds of a box where it holds of the boxes under its quantifiers holds of all
pub rank-induct : (ns : List Node) → Ordered ns → (P : ℕ → Type 0) → ((n : Node) → In n ns → first (is_box n.id) ns ≡ Some n → ((r : OwnedQuant) → In r n.quants → P r.over) → P n.id)
    → (b : ℕ) → has_box ns b ≡ true → P b
rank-induct ns o P f b h = go ns (λ m i. i) o b h
  where
    go : (after : List Node) → ((m : Node) → In m after → In m ns) → Ordered after → (b : ℕ) → has_box after b ≡ true → P b
    go [] sub w b h = absurd (let z : ⊥ = cc in z)
    go (m ∷ after) sub w b h = elim (or_cases (m.id == b) (has_box after b) h) [
      | inl t ↦ subst P (eqb-true m.id b t) (f m (sub m (inl refl)) (in-first ns m o (sub m (inl refl))) (λ r i. go after (λ k j. sub k (inr j)) w.2 r.over (over-held after m.quants r w.1 i)))
      | inr t ↦ go after (λ k j. sub k (inr j)) w.2 b t
    ]

-- ---- places

-- the cell of a head at a place
cell-is : (rows : ℕ → Bag) (head : List Term) (env : Environment) (p : ℕ) (x : Term) → cell_at head p ≡ Some x → cell_of p (head_cells rows head env) ≡ value rows x env
cell-is rows head env zero x e = absurd (let z : ⊥ = cc in z)
cell-is rows [] env (suc p) x e = absurd (let z : ⊥ = cc in z)
cell-is rows (y ∷ ys) env (suc zero) x e = ap (λ y. value rows y env) (let h : y ≡ x = cc in h)
cell-is rows (y ∷ ys) env (suc (suc p)) x e = cell-is rows ys env (suc p) x e

-- ---- a key of the box under a quantifier, seen through the places of a head

-- tuples that agree on these places come of tuples that agree on the columns that stand there
pub agree-under : (q : ℕ) (head : List Term) (ks : List ℕ) (a b c d : List Cell)
    → ((p k : ℕ) → cell_at head p ≡ Some (col q k) → cell_of p c ≡ cell_of k a) → ((p k : ℕ) → cell_at head p ≡ Some (col q k) → cell_of p d ≡ cell_of k b)
    → by ks c d ≡ true → by (columns_at q head ks) a b ≡ true
agree-under q head ks a b c d f g h =
    agree-from (columns_at q head ks) a b (λ k i. let p = column-place q head ks k i in sym (f p.0 k p.1.1) ∙ agreed ks c d h p.0 p.1.0 ∙ g p.0 k p.1.1)

kept-one : (l : Level) (cells : List Cell) → how_many (keep l (unit cells)) ≤ 1
kept-one No cells = omega (arith)
kept-one Cardinality cells = omega (arith)
kept-one Division cells = omega (arith)
kept-one Overflow cells = omega (arith)
kept-one Yes cells = omega (arith)

-- rows of w cells
wide-each : (w : ℕ) (rows : Bag) → Wide w rows → EachThere (λ c. length c ≡ w) rows
wide-each w [] h = tt
wide-each w (r ∷ rows) h = ((λ _. h.0), wide-each w rows h.1)

-- under DISTINCT, all columns
distinct-keyed : (w : ℕ) (ks : List ℕ) (xs : Bag) → EachThere (λ c. length c ≡ w) xs → all_within w ks ≡ true → NoTwo (by ks) (distinct same_cells xs)
distinct-keyed w ks xs l h =
    no-two-weaker (λ c. length c ≡ w) same_cells (by ks) (distinct same_cells xs) (λ c o. occurs-each (λ c. length c ≡ w) (distinct same_cells xs) (each-distinct (λ c. length c ≡ w) xs l) c o)
    (λ a b m n e. (same_cells-decides a b).1 (all-agreed w ks a b m n h e)) (no-two-distinct same_cells xs (once-apart xs))

copies-keyed : (w : ℕ) (ks : List ℕ) (n : List Cell → ℕ) (xs : Bag) → ((c : List Cell) → n c ≤ 1) → EachThere (λ c. length c ≡ w) xs → all_within w ks ≡ true → NoTwo (by ks) (bind (once same_cells xs) (λ c. copies (n c) c))
copies-keyed w ks n xs few l h =
    no-two-copies (by ks) n xs few
    (no-two-weaker (λ c. length c ≡ w) same_cells (by ks) (once same_cells xs) (λ c o. occurs-each (λ c. length c ≡ w) xs l c (occurs-once c xs o))
    (λ a b m j e. (same_cells-decides a b).1 (all-agreed w ks a b m j h e)) (once-apart xs))

or-failed : (t : Test) (w : ℕ) (o : Option Kind) (xs : Bag) → NoTwo t xs → NoTwo t (error_or_bag (failed_cells w) o xs)
or-failed t w None xs h = h
or-failed t w (Some k) xs h = ((λ _. refl), tt)

set-keyed : (form : SetOperator) (w : ℕ) (ks : List ℕ) (xs ys : Bag) → Wide w xs → Wide w ys → keyed_op form w ks ≡ true → NoTwo (by ks) (combined form w xs ys)
set-keyed UnionAll w ks xs ys a b h = absurd (let z : ⊥ = cc in z)
set-keyed Union w ks xs ys a b h = distinct-keyed w ks (xs ++ ys) (each-append (λ r. is_there r ≡ true → length r.cells ≡ w) xs ys (wide-each w xs a) (wide-each w ys b)) h
set-keyed IntersectAll w ks xs ys a b h = absurd (let z : ⊥ = cc in z)
set-keyed Intersect w ks xs ys a b h = or-failed (by ks) w (error_among error_in (xs ++ ys)) (sets.intersect same_cells xs ys) (copies-keyed w ks (λ c. min 1 (multiplicity same_cells c ys)) xs (λ c. omega (arith)) (wide-each w xs a) h)
set-keyed ExceptAll w ks xs ys a b h = absurd (let z : ⊥ = cc in z)
set-keyed Except w ks xs ys a b h = or-failed (by ks) w (error_among error_in (xs ++ ys)) (sets.except same_cells xs ys) (copies-keyed w ks (λ c. 1 - multiplicity same_cells c ys) xs (λ c. omega (arith)) (wide-each w xs a) h)

-- ---- groups

-- the first cells of a tuple
front-cell : (a b : List Cell) (k : ℕ) → k ≤ length a → cell_of k (a ++ b) ≡ cell_of k a
front-cell a b zero h = refl
front-cell [] b (suc k) h = absurd (let z : ⊥ = omega (arith, h) in z)
front-cell (x ∷ a) b (suc zero) h = refl
front-cell (x ∷ a) b (suc (suc k)) h = front-cell a b (suc k) (let e : length (x ∷ a) ≡ suc (length a) = refl in omega (arith, e, h))

take-within : (k : ℕ) (head : List Term) → length (take k head) ≤ k
take-within zero head = omega (arith)
take-within (suc k) [] = omega (arith)
take-within (suc k) (x ∷ xs) = let i = take-within k xs in let e : length (take (suc k) (x ∷ xs)) ≡ suc (length (take k xs)) = refl in omega (arith, i, e)

-- fewer places
within-less : (v w : ℕ) (ks : List ℕ) → v ≤ w → all_within w ks ≡ true → all_within v ks ≡ true
within-less zero w ks l h = refl
within-less (suc v) zero ks l h = absurd (let z : ⊥ = omega (arith, l) in z)
within-less (suc v) (suc w) ks l h = let a = and_parts (holds (suc w) ks) (all_within w ks) h in one (v == w) refl (λ l. within-less (suc v) w ks l a.1)
  where
    one : (b : Bool) → (v == w) ≡ b → (suc v ≤ w → all_within (suc v) ks ≡ true) → (holds (suc v) ks && all_within v ks) ≡ true
    one true e f = subst (λ w. (holds (suc w) ks && all_within w ks) ≡ true) (sym (eqb-true v w e)) h
    one false e f = f (elim (cases_Bool (nat_lt v w)) [
      | inl u ↦ (let n = ltb-true v w u in omega (arith, n))
      | inr u ↦ absurd (let n = ltb-false v w u in eqb-false v w e (omega (arith, n, l)))
    ])

groups-keyed : (k : ℕ) (ks : List ℕ) (head : List Term) (q : ℕ) (env : Environment) (rows : Bag) → all_within k ks ≡ true → NoTwo (by ks) (groups k head q env rows)
groups-keyed zero ks head q env rows h = ((λ _. refl), tt)
groups-keyed (suc k) ks head q env rows h =
    no-two-bind (by ks) same_cells (once same_cells keys) made (once-apart keys) (λ a o. ((λ _. refl), tt))
    (λ a b c d o w u v e.
    let l = long a o in let m = long b w in
    (same_cells-decides a b).1 (cells-same a b (l ∙ sym m) (λ p i j. key-cell a c p u j
    ∙ agreed ks c d e p (within-holds (length (take (suc k) head)) ks (within-less (length (take (suc k) head)) (suc k) ks (take-within (suc k) head) h) p i (subst (λ n. p ≤ n) l j))
    ∙ sym (key-cell b d p v (subst (λ n. p ≤ n) (l ∙ sym m) j)))))
  where
    keys : Bag
    keys = bind rows (λ c. unit (key_cells (suc k) head q env c))

    made : List Cell → Bag
    made key = unit (key ++ fold_cells (suc k) head q env (of_group same_cells (key_cells (suc k) head q env) key rows))

    key-cell : (a c : List Cell) (p : ℕ) → occurs c (made a) ≡ true → p ≤ length a → cell_of p a ≡ cell_of p c
    key-cell a c p u j =
        sym (front-cell a (fold_cells (suc k) head q env (of_group same_cells (key_cells (suc k) head q env) a rows)) p j)
        ∙ ap (cell_of p) (only (a ++ fold_cells (suc k) head q env (of_group same_cells (key_cells (suc k) head q env) a rows)) c u)
      where
        only : (x y : List Cell) → occurs y (unit x) ≡ true → x ≡ y
        only x y o = elim (or_cases (same_cells x y && true) false o) [
          | inl w ↦ (same_cells-decides x y).0 (and_parts (same_cells x y) true w).0
          | inr w ↦ absurd (let z : ⊥ = cc in z)
        ]

    long : (a : List Cell) → occurs a (once same_cells keys) ≡ true → length a ≡ length (take (suc k) head)
    long a o = occurs-each (λ a. length a ≡ length (take (suc k) head)) keys (each-bind (λ a. length a ≡ length (take (suc k) head)) rows (λ c. unit (key_cells (suc k) head q env c)) (λ c o. ((λ _. length-map (take (suc k) head) (λ x. value nothing x (bound q c env))), tt))) a (occurs-once a keys o)

-- ---- boxes

module _ (partial : Bool) (tables : List Table) (ns : List Node) (known : Facts) (given' : Premises tables ns) (all : (fact : Fact) → says known fact ≡ true → HoldsIn partial tables ns fact) where
  -- no two rows of box b agree on columns that hold a key
  abbrev pub Keyed : ℕ → Type 0
  Keyed b = (ks : List ℕ) → holds_key known.at_most_one ns b ks ≡ true → OfRowsIn partial tables ns b (NoTwo (by ks))

  module _ (n : Node) (here : In n ns) (under : (r : OwnedQuant) → In r n.quants → Keyed r.over) where
    abbrev pub t : Family
    t = rows partial tables ns known given' all n here

    -- ---- a select

    -- the cells of a tuple that are columns of a bound quantifier
    over-cell : (q k p : ℕ) → cell_at n.parts.head p ≡ Some (col q k) → (rs : List OwnedQuant) → holds q (map (λ r. r.id) rs) ≡ false → (env : Environment)
        → EachThere (λ c. cell_of p c ≡ cell_of k (row_of q env)) (over_each rs t (given_by t n) env)
    over-cell q k p e [] d env = each-keep (λ c. cell_of p c ≡ cell_of k (row_of q env)) (all_true (λ q. t q env) n.parts.conds.items env).t (unit (head_cells (λ q. t q env) n.parts.head env)) (λ _. ((λ _. cell-is (λ q. t q env) n.parts.head env p (col q k) e), tt))
    over-cell q k p e (r ∷ rs) d env = one (is_F r.kind) (λ env. over-cell q k p e rs (no-more (r.id == q) (holds q (map (λ r. r.id) rs)) d).1 env)
      where
        no-more : (a b : Bool) → (a || b) ≡ false → (a ≡ false) × (b ≡ false)
        no-more true b h = absurd (let z : ⊥ = cc in z)
        no-more false b h = (refl, h)

        kept : (cells : List Cell) → row_of q (bound r.id cells env) ≡ row_of q env
        kept cells = ap (λ b. cond b cells (row_of q env)) (no-more (r.id == q) (holds q (map (λ r. r.id) rs)) d).0

        one : (b : Bool) → ((env : Environment) → EachThere (λ c. cell_of p c ≡ cell_of k (row_of q env)) (over_each rs t (given_by t n) env))
            → EachThere (λ c. cell_of p c ≡ cell_of k (row_of q env)) (cond b (bind (t r.id env) (λ cells. over_each rs t (given_by t n) (bound r.id cells env))) (over_each rs t (given_by t n) env))
        one true i =
            each-bind (λ c. cell_of p c ≡ cell_of k (row_of q env)) (t r.id env) (λ cells. over_each rs t (given_by t n) (bound r.id cells env))
            (λ cells o. subst (λ row. EachThere (λ c. cell_of p c ≡ cell_of k row) (over_each rs t (given_by t n) (bound r.id cells env))) (kept cells) (i (bound r.id cells env)))
        one false i = i env

    each-keyed : (ks : List ℕ) (rs : List OwnedQuant) (env : Environment) → Ready partial tables ns known given' all n here rs env → EachOnce (map (λ r. r.id) rs)
        → keyed_under_F n.parts.head (holds_key known.at_most_one ns) ks rs ≡ true → NoTwo (by ks) (over_each rs t (given_by t n) env)
    each-keyed ks [] env ready d h = none-two (by ks) (given_by t n env) (kept-one (all_true (λ q. t q env) n.parts.conds.items env).t (head_cells (λ q. t q env) n.parts.head env))
    each-keyed ks (r ∷ rs) env ready d h = one (is_F r.kind) refl h (λ env ready h. each-keyed ks rs env ready d.1 h)
      where
        one : (b : Bool) → is_F r.kind ≡ b
            → cond b (keyed_under n.parts.head (holds_key known.at_most_one ns) ks r && keyed_under_F n.parts.head (holds_key known.at_most_one ns) ks rs) (keyed_under_F n.parts.head (holds_key known.at_most_one ns) ks rs) ≡ true
            → ((env : Environment) → Ready partial tables ns known given' all n here rs env → keyed_under_F n.parts.head (holds_key known.at_most_one ns) ks rs ≡ true → NoTwo (by ks) (over_each rs t (given_by t n) env))
            → NoTwo (by ks) (cond b (bind (t r.id env) (λ cells. over_each rs t (given_by t n) (bound r.id cells env))) (over_each rs t (given_by t n) env))
        one false f h i = i env (skip-ready partial tables ns known given' all n here r rs env f ready) h
        one true f h i =
            let a = and_parts (keyed_under n.parts.head (holds_key known.at_most_one ns) ks r) (keyed_under_F n.parts.head (holds_key known.at_most_one ns) ks rs) h in
            no-two-bind (by ks) (by (columns_at r.id n.parts.head ks)) (t r.id env) (λ cells. over_each rs t (given_by t n) (bound r.id cells env))
            (subst (NoTwo (by (columns_at r.id n.parts.head ks))) (sym (rows-are partial tables ns known given' all n here r (ready.own r (inl refl)) env))
            (under r (ready.own r (inl refl)) (columns_at r.id n.parts.head ks) a.0 env ready.fit (under-bound partial tables ns known given' all n here r rs env f ready)))
            (λ x o. i (bound r.id x env) (next-ready partial tables ns known given' all n here r rs env f ready x o) a.1)
            (λ x y c e o w u v k. agree-under r.id n.parts.head ks x y c e (λ p j m. from x c u p j m) (λ p j m. from y e v p j m) k)
          where
            own : (x : List Cell) → row_of r.id (bound r.id x env) ≡ x
            own x = ap (λ b. cond b x (row_of r.id env)) (eq-eqb r.id r.id refl)

            from : (x c : List Cell) → occurs c (over_each rs t (given_by t n) (bound r.id x env)) ≡ true → (p j : ℕ) → cell_at n.parts.head p ≡ Some (col r.id j) → cell_of p c ≡ cell_of j x
            from x c u p j m =
                occurs-each (λ c. cell_of p c ≡ cell_of j (row_of r.id (bound r.id x env))) (over_each rs t (given_by t n) (bound r.id x env)) (over-cell r.id j p m rs d.0 (bound r.id x env)) c u
                ∙ ap (cell_of j) (own x)

    select-keyed : (ks : List ℕ) (env : Environment) → Ready partial tables ns known given' all n here n.quants env
        → ((is_enforce n.parts.distinct && all_within (length n.parts.head) ks) || keyed_under_F n.parts.head (holds_key known.at_most_one ns) ks n.quants) ≡ true
        → NoTwo (by ks) (once_if (is_enforce n.parts.distinct) (over_each n.quants t (given_by t n) env))
    select-keyed ks env ready h = elim (or_cases (is_enforce n.parts.distinct && all_within (length n.parts.head) ks) (keyed_under_F n.parts.head (holds_key known.at_most_one ns) ks n.quants) h) [
      | inl w ↦ (
          let a = and_parts (is_enforce n.parts.distinct) (all_within (length n.parts.head) ks) w in
          subst (λ b. NoTwo (by ks) (once_if b (over_each n.quants t (given_by t n) env))) (sym a.0)
          (distinct-keyed (length n.parts.head) ks (over_each n.quants t (given_by t n) env)
          (each-given partial tables ns known given' all n here (λ c. length c ≡ length n.parts.head) n.quants env ready (λ env ready. length-map n.parts.head (λ x. value (λ q. t q env) x env))) a.1)
          )
      | inr w ↦ either (is_enforce n.parts.distinct) (each-keyed ks n.quants env ready (given'.apart n here) w)
    ]
      where
        either : (b : Bool) → NoTwo (by ks) (over_each n.quants t (given_by t n) env) → NoTwo (by ks) (once_if b (over_each n.quants t (given_by t n) env))
        either true h = no-two-distinct (by ks) (over_each n.quants t (given_by t n) env) (no-two-once (by ks) (over_each n.quants t (given_by t n) env) h)
        either false h = h

    -- ---- an outer join

    outer-keyed : (ks : List ℕ) (env : Environment) → FittingIn partial (bag_in tables ns) ns env → ((r : OwnedQuant) → In r n.quants → AllBoundIn partial ns r.over env) → (rs : List OwnedQuant) → n.quants ≡ rs
        → keyed_under_two n.parts.head (holds_key known.at_most_one ns) ks rs ≡ true → NoTwo (by ks) (of_two rs (outer_rows n t env))
    outer-keyed ks env fit look [] e h = absurd (let z : ⊥ = cc in z)
    outer-keyed ks env fit look (p ∷ []) e h = absurd (let z : ⊥ = cc in z)
    outer-keyed ks env fit look (p ∷ q ∷ more) e h =
        no-two-bind (by ks) (by (columns_at p.id n.parts.head ks)) (t p.id env) (λ a. or_else (partners a) (unit (alone a)))
        (keyed p (subst (In p) (sym e) (inl refl)) parts.0)
        (λ a o. either a (no-two-bind (by ks) (by (columns_at q.id n.parts.head ks)) (t q.id env) (λ b. given nothing n (bound q.id b (bound p.id a env)))
        (keyed q (subst (In q) (sym e) (inr (inl refl))) parts.1)
        (λ b w. none-two (by ks) (given nothing n (bound q.id b (bound p.id a env))) (kept-one (all_true nothing n.parts.conds.items (bound q.id b (bound p.id a env))).t (head_cells nothing n.parts.head (bound q.id b (bound p.id a env)))))
        (λ x y c d w u v m k. agree-under q.id n.parts.head ks x y c d (λ g j i. right-cell a x c v g j i) (λ g j i. right-cell a y d m g j i) k)))
        (λ x y c d o w u v k. agree-under p.id n.parts.head ks x y c d (λ g j i. left-cell x c u g j i) (λ g j i. left-cell y d v g j i) k)
      where
        parts : (keyed_under n.parts.head (holds_key known.at_most_one ns) ks p ≡ true) × (keyed_under n.parts.head (holds_key known.at_most_one ns) ks q ≡ true)
        parts = and_parts (keyed_under n.parts.head (holds_key known.at_most_one ns) ks p) (keyed_under n.parts.head (holds_key known.at_most_one ns) ks q) h

        keyed : (r : OwnedQuant) → In r n.quants → keyed_under n.parts.head (holds_key known.at_most_one ns) ks r ≡ true → NoTwo (by (columns_at r.id n.parts.head ks)) (t r.id env)
        keyed r i k = subst (NoTwo (by (columns_at r.id n.parts.head ks))) (sym (rows-are partial tables ns known given' all n here r i env)) (under r i (columns_at r.id n.parts.head ks) k env fit (look r i))

        partners : List Cell → Bag
        partners a = bind (t q.id env) (λ b. given nothing n (bound q.id b (bound p.id a env)))

        alone : List Cell → List Cell
        alone a = head_cells nothing n.parts.head (bound q.id [] (bound p.id a env))

        either : (a : List Cell) → NoTwo (by ks) (partners a) → NoTwo (by ks) (or_else (partners a) (unit (alone a)))
        either a h = elim (nat_eq (how_many (partners a)) 0) as (λ b. NoTwo (by ks) (cond b (unit (alone a)) (partners a))) [ true ↦ ((λ _. refl), tt) | false ↦ h ]

        apart-ids : (q.id == p.id) ≡ false
        apart-ids = first-other (q.id == p.id) (holds p.id (map (λ r. r.id) more)) (subst (λ (rs : List OwnedQuant). EachOnce (map (λ r. r.id) rs)) e (given'.apart n here)).0
          where
            first-other : (a b : Bool) → (a || b) ≡ false → a ≡ false
            first-other true b h = absurd (let z : ⊥ = cc in z)
            first-other false b h = refl

        -- the rows of both in the environment of a pair
        right-row : (a b : List Cell) → row_of q.id (bound q.id b (bound p.id a env)) ≡ b
        right-row a b = ap (λ x. cond x b (row_of q.id (bound p.id a env))) (eq-eqb q.id q.id refl)

        left-row : (a b : List Cell) → row_of p.id (bound q.id b (bound p.id a env)) ≡ a
        left-row a b = ap (λ x. cond x b (row_of p.id (bound p.id a env))) apart-ids ∙ ap (λ x. cond x a (row_of p.id env)) (eq-eqb p.id p.id refl)

        pair-cell : (r j g : ℕ) (env : Environment) → cell_at n.parts.head g ≡ Some (col r j) → EachThere (λ c. cell_of g c ≡ cell_of j (row_of r env)) (given nothing n env)
        pair-cell r j g env i = each-keep (λ c. cell_of g c ≡ cell_of j (row_of r env)) (all_true nothing n.parts.conds.items env).t (unit (head_cells nothing n.parts.head env)) (λ _. ((λ _. cell-is nothing n.parts.head env g (col r j) i), tt))

        right-cell : (a b c : List Cell) → occurs c (given nothing n (bound q.id b (bound p.id a env))) ≡ true → (g j : ℕ) → cell_at n.parts.head g ≡ Some (col q.id j) → cell_of g c ≡ cell_of j b
        right-cell a b c o g j i = occurs-each (λ c. cell_of g c ≡ cell_of j (row_of q.id (bound q.id b (bound p.id a env)))) (given nothing n (bound q.id b (bound p.id a env))) (pair-cell q.id j g (bound q.id b (bound p.id a env)) i) c o ∙ ap (cell_of j) (right-row a b)

        left-cell : (a c : List Cell) → occurs c (or_else (partners a) (unit (alone a))) ≡ true → (g j : ℕ) → cell_at n.parts.head g ≡ Some (col p.id j) → cell_of g c ≡ cell_of j a
        left-cell a c o g j i =
            occurs-each (λ c. cell_of g c ≡ cell_of j a) (or_else (partners a) (unit (alone a)))
            (of-either (EachThere (λ c. cell_of g c ≡ cell_of j a)) (partners a) (unit (alone a))
            (each-bind (λ c. cell_of g c ≡ cell_of j a) (t q.id env) (λ b. given nothing n (bound q.id b (bound p.id a env)))
            (λ b w. subst (λ row. EachThere (λ c. cell_of g c ≡ cell_of j row) (given nothing n (bound q.id b (bound p.id a env)))) (left-row a b) (pair-cell p.id j g (bound q.id b (bound p.id a env)) i)))
            ((λ _. cell-is nothing n.parts.head (bound q.id [] (bound p.id a env)) g (col p.id j) i ∙ ap (cell_of j) (left-row a [])), tt)) c o

    -- ---- a box of each kind

    module _ (env : Environment) (fit : FittingIn partial (bag_in tables ns) ns env) where
      -- the boxes under the quantifiers of a box that shows none of its own
      unders : (kind : BoxKind) → ((q : ℕ) → under_any n.quants (loose ns) q ≡ true → loose_by kind n (loose ns) q ≡ true) → Looked partial tables ns known given' all n here env fit kind
          → (r : OwnedQuant) → In r n.quants → AllBoundIn partial ns r.over env
      unders kind f look r i q h = look q (f q (any-looks n.quants r i q h))
        where
          any-looks : (rs : List OwnedQuant) (r : OwnedQuant) → In r rs → (q : ℕ) → loose ns r.over q ≡ true → under_any rs (loose ns) q ≡ true
          any-looks [] r i q h = elim i [ ]
          any-looks (u ∷ rs) r i q h = elim i [
            | inl e ↦ or_left (loose ns u.over q) (under_any rs (loose ns) q) (ap (λ (v : OwnedQuant). loose ns v.over q) e ∙ h)
            | inr j ↦ or_right (loose ns u.over q) (under_any rs (loose ns) q) (any-looks rs r j q h)
          ]

      base-keyed : (table : BaseTable) (o : Option Bag) → FoundSatisfies table o → (ks : List ℕ) (keys : List (List ℕ)) → ((key : List ℕ) → In key keys → In key table.keys)
          → list_any (λ key. among key table.not_null && among key ks) keys ≡ true → NoTwo (by ks) (rows_or_none o)
      base-keyed table None f ks keys sub h = absurd f
      base-keyed table (Some rows) f ks [] sub h = absurd (let z : ⊥ = cc in z)
      base-keyed table (Some rows) f ks (key ∷ keys) sub h = elim (or_cases (among key table.not_null && among key ks) (list_any (λ key. among key table.not_null && among key ks) keys) h) [
        | inl w ↦ (
            let a = and_parts (among key table.not_null) (among key ks) w in
            no-two-weaker (λ c. Unit {0}) (by key) (by ks) rows (λ c o. tt)
            (λ a' b p q e. agree-from key a' b (λ k i. agreed ks a' b e k (among-holds key ks a.1 k i)))
            (key-two key rows (of-satisfying.keys table rows key f (sub key (inl refl)) a.0))
            )
        | inr w ↦ base-keyed table (Some rows) f ks keys (λ k i. sub k (inr i)) w
      ]
        where
          among-holds : (key ks : List ℕ) → among key ks ≡ true → (k : ℕ) → holds k key ≡ true → holds k ks ≡ true
          among-holds [] ks a k i = absurd (let z : ⊥ = cc in z)
          among-holds (j ∷ key) ks a k i = let p = and_parts (holds j ks) (among key ks) a in elim (or_cases (j == k) (holds k key) i) [
            | inl u ↦ subst (λ k. holds k ks ≡ true) (eqb-true j k u) p.0
            | inr u ↦ among-holds key ks p.1 k u
          ]

      kind-keyed : (kind : BoxKind) → n.parts.kind ≡ kind → SatisfiesBy kind tables → Looked partial tables ns known given' all n here env fit kind → (ks : List ℕ) → keyed_by kind n (holds_key known.at_most_one ns) ks ≡ true
          → NoTwo (by ks) (rows_by kind tables n t env)
      kind-keyed (Base table) e b look ks h = base-keyed table (bag_named tables table.name) b ks table.keys (λ k i. i) h
      kind-keyed Select e b look ks h = select-keyed ks env (ready partial tables ns known given' all n here env fit look) h
      kind-keyed (Group k) e b look ks h = group-keyed n.quants
        where
          group-keyed : (rs : List OwnedQuant) → NoTwo (by ks) (of_one rs (λ q. grouped_rows k n.parts.head q env (t q env)))
          group-keyed [] = tt
          group-keyed (r ∷ rs) = or-failed (by ks) (length n.parts.head) (error_among (λ cells. error_in (key_cells k n.parts.head r.id env cells)) (t r.id env)) (groups k n.parts.head r.id env (t r.id env)) (groups-keyed k ks n.parts.head r.id env (t r.id env) h)
      kind-keyed (SetOp form types) e b look ks h = two n.quants (λ r i. i)
        where
          wide : (r : OwnedQuant) → In r n.quants → Wide (length types) (t r.id env)
          wide r i = subst (Wide (length types)) (sym (rows-are partial tables ns known given' all n here r i env)) (arm-rows tables ns given' n form types r here e i env)

          two : (rs : List OwnedQuant) → ((r : OwnedQuant) → In r rs → In r n.quants) → NoTwo (by ks) (of_two rs (λ p q. combined form (length types) (t p env) (t q env)))
          two [] sub = tt
          two (p ∷ []) sub = tt
          two (p ∷ q ∷ more) sub = set-keyed form (length types) ks (t p.id env) (t q.id env) (wide p (sub p (inl refl))) (wide q (sub q (inr (inl refl)))) h
      kind-keyed OuterJoin e b look ks h = outer-keyed ks env fit (unders OuterJoin (λ q u. or_left (under_any n.quants (loose ns) q) (read_beyond (take 2 n.quants) (read_by n) q) u) look) n.quants refl h

  -- ---- all boxes

  box-keyed : (n : Node) → In n ns → first (is_box n.id) ns ≡ Some n → ((r : OwnedQuant) → In r n.quants → Keyed r.over) → Keyed n.id
  box-keyed n here e under ks h env fit bound = elim (or_cases (known.at_most_one n.id) (keyed_by n.parts.kind n (holds_key known.at_most_one ns) ks) unfolded) [
    | inl w ↦ none-two (by ks) (bag_in tables ns n.id env) (all (at_most_one n.id) w env fit bound)
    | inr w ↦ subst (NoTwo (by ks)) (sym (unfold-bag tables ns n.id n env given'.ordered e))
        (kind-keyed n here under env fit n.parts.kind refl (satisfied tables ns n given'.bases here) (λ q l. bound q (ap (λ (look : ℕ → Bool). look q) (loose-unfold ns n.id n given'.ordered e) ∙ l)) ks w)
  ]
    where
      unfolded : (known.at_most_one n.id || keyed_by n.parts.kind n (holds_key known.at_most_one ns) ks) ≡ true
      unfolded = sym (ap (λ (f : List ℕ → Bool). f ks) (unfold-rank (λ ks. false) (keyed known.at_most_one) (keyed-local known.at_most_one) ns n.id n given'.ordered e)) ∙ h

  pub all-keyed : (b : ℕ) → Keyed b
  all-keyed b ks h = elim (cases_Bool (has_box ns b)) [
    | inl w ↦ rank-induct ns given'.ordered Keyed box-keyed b w ks h
    | inr w ↦ absurd (let v : true ≡ false = sym h ∙ absent ns b w in let z : ⊥ = cc in z)
  ]
    where
      absent : (ms : List Node) (b : ℕ) → has_box ms b ≡ false → holds_key known.at_most_one ms b ks ≡ false
      absent [] b w = refl
      absent (m ∷ ms) b w = one (m.id == b) w (absent ms b)
        where
          one : (c : Bool) → (c || has_box ms b) ≡ false → (has_box ms b ≡ false → holds_key known.at_most_one ms b ks ≡ false)
              → (cond c (keyed known.at_most_one m (holds_key known.at_most_one ms)) (holds_key known.at_most_one ms b)) ks ≡ false
          one true w i = absurd (let z : ⊥ = cc in z)
          one false w i = i w

pub keys-hold : (tables : List Table) (ns : List Node) (known : Facts) → Premises tables ns → ((fact : Fact) → says known fact ≡ true → Holds tables ns fact) → (b : ℕ) (ks : List ℕ)
    → holds_key known.at_most_one ns b ks ≡ true → OfRows tables ns b (HasKey ks)
keys-hold tables ns known given' all b ks h =
    in-rows tables ns b (HasKey ks) (λ env fit bound. two-key ks (bag_in tables ns b env) (all-keyed false tables ns known given' (λ fact k. holds-in tables ns fact (all fact k)) b ks h env fit bound))
