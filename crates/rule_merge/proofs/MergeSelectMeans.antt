-- M1 means the same.
use Rattle.std.specs.Prelude.{not as no}
use Rattle.std.proofs.Common.{ℕ, zero, suc, get_or, ◌==◌, ◌≡◌, ◌&&◌, ◌||◌, ◌+◌, ◌≤◌, ◌<◌, cond, Bool, true, false, List, [], ◌∷◌, ◌++◌, map, Some, refl, sym, ap, ap₂, subst, ◌∙◌, eqb-true, ◌⊎◌, inl, inr, arith}
use Rattle.std.specs.List.{list_any, list_all, flat_map}
use Rattle.std.proofs.lemmas.Bool.{and_parts, cases_Bool, eq-eqb, or_cases, or_from, or_left, or_parts, or_right}
use Rattle.sql_value.specs.declared.cell.Cell.{Cell}
use Rattle.sql_value.specs.declared.level.Level.{Level}
use Rattle.sql_value.specs.declared.truth.Truth.{Truth}
use Rattle.row_bag.specs.Bags.{keep, unit}
use Rattle.row_bag.specs.declared.tables.Table.{Table}
use Rattle.qgm_core.specs.declared.kinds.BoxKind.TheVariants.{Select}
use Rattle.qgm_core.specs.declared.node.Node.{Node}
use Rattle.qgm_core.specs.declared.owned.OwnedQuant.{OwnedQuant}
use Rattle.qgm_core.specs.Boxes.{Ordered, has_box, is_quant, owns, ids_in, ids_of, overs_in}
use Rattle.list_laws.specs.Lists.{first, In, times}
use Rattle.qgm_core.specs.Kinds.{is_F, is_enforce}
use Rattle.qgm_meaning.specs.Meaning.{Family, bag_in, given_by, once_if, over_each, quant_rows, rows_by, rows_found, rows_of}
use Rattle.qgm_meaning.specs.Ranks.{SameUnder}
use Rattle.qgm_meaning.specs.Scope.{introduces, loose, loose_by, loose_each, loose_of, looks_found, put_node, quant_looks, read_by, under_any}
use Rattle.qgm_terms.specs.Terms.{Cond, Term, null_int}
use Rattle.qgm_meaning.specs.Searches.{bare, binds, binds_cond, names, names_cond}
use Rattle.qgm_terms.specs.Substitution.{cell_at, substituted, substituted_cond}
use Rattle.qgm_terms.specs.Wanted.{reads, reads_at, reads_at_cond, reads_cond}
use Rattle.qgm_meaning.specs.Values.{Bag, Environment, all_true, bound, head_cells, row_of, value}
use Rattle.qgm_meaning.proofs.ExistsJoined.{inner}
use Rattle.qgm_meaning.proofs.Frames.{all_true-framed, any-framed, bag-framed, head-framed}
use Rattle.qgm_meaning.proofs.Joined.{unread}
use Rattle.qgm_meaning.proofs.MergedRows.{given-merged}
use Rattle.qgm_meaning.proofs.Nodes.{all_true-nodes, head-nodes}
use Rattle.qgm_meaning.proofs.Puts.{bare-head}
use Rattle.qgm_edit_laws.proofs.PutRead.{Rowed, found-put, rows-put}
use Rattle.row_bag.specs.Order.{cell_of}
use Rattle.sql_value.specs.declared.cell.Cell.TheVariants.{Null}
use Rattle.qgm_meaning.proofs.Unfold.{rows-local}
use Rattle.qgm_edit_laws.proofs.Edits.{boxes_without, any-append, in-without, map-append, once-each, once-without, ordered-edit, split-once, times-change, times-without, without-in}
use Rattle.qgm_edit_laws.specs.Graph.{binds_row, nodes_in, Sound}
use Rattle.rule_merge.specs.Merged.{Merges, merge_node, merged}
use Rattle.qgm_edit_laws.proofs.AnyPut.{cell-any, conds-more, conds-names, conds-put, heads-more, heads-names, heads-put}
use Rattle.qgm_edit_laws.proofs.Looks.{each-cases, loose-was}
use Rattle.qgm_edit_laws.proofs.Loops.{Mergeable, over_each-related}
use Rattle.qgm_edit_laws.proofs.Ranks.{has-in, place, place-under, same-box}
use Rattle.qgm_edit_laws.proofs.Scope.{above-owner, bound-owned, climb, closed-root, loose-held, loose-within, one-owner, one-parent, only-bag, touched, touches, unfold-bag, unfold-loose}
use Rattle.qgm_edit_laws.proofs.Turns.{any-parts, each-turn, first-held, first-own, first-skip, split-in}
use Rattle.qgm_edit_laws.proofs.Unput.{conds-none, heads-none}
use mathlib.Core.Path.{fun_ext}
use Rattle.qgm_meaning.specs.Merging as rows
use Rattle.qgm_edit_laws.proofs.Loops as loops
use Rattle.qgm_core.proofs.Reaching.{in-has, overs-held}
use Rattle.list_laws.proofs.Counting.{in-times, times-append, times-in}
use Rattle.list_laws.proofs.Membership.{any-from, any-in, any-none, any-not, eq-false-sym, eq-itself, in-append, in-left, in-map, in-right, map-in}
use Rattle.list_laws.proofs.Booleans.{clash}

append-in : (xs ys zs : List OwnedQuant) → (xs ++ ys) ++ zs ≡ xs ++ (ys ++ zs)
append-in [] ys zs = refl
append-in (x ∷ xs) ys zs = ap (λ z. x ∷ z) (append-in xs ys zs)

append-none : (xs : List OwnedQuant) → xs ++ [] ≡ xs
append-none [] = refl
append-none (x ∷ xs) = ap (λ z. x ∷ z) (append-none xs)

pub any-both : (p : OwnedQuant → Bool) (xs ys : List OwnedQuant) → list_any p xs ≡ false → list_any p ys ≡ false → list_any p (xs ++ ys) ≡ false
any-both p [] ys h k = k
any-both p (x ∷ xs) ys h k = let n = or_parts (p x) (list_any p xs) h in or_from (p x) (list_any p (xs ++ ys)) n.0 (any-both p xs ys n.1 k)

none-and : (a : Bool) {b : Bool} → b ≡ false → (a && b) ≡ false
none-and true h = h
none-and false h = refl

get-mapped : (f : Term → Cell) (xs : List Term) (k : ℕ) (x : Term) → f (get_or xs k x) ≡ get_or (map f xs) k (f x)
get-mapped f [] k x = refl
get-mapped f (y ∷ xs) zero x = refl
get-mapped f (y ∷ xs) (suc k) x = get-mapped f xs k x

module _ (tables : List Table) (bs : List Node) (root : ℕ) (w : Sound bs root) (nb nc : Node) (us : List OwnedQuant) (rq : OwnedQuant) (vs : List OwnedQuant) (m : Merges bs nb nc us rq vs) where
  abbrev pub q : ℕ
  q = rq.id

  abbrev f : Family
  f = bag_in tables bs

  -- what c gives: its cells, and their level
  abbrev s_c : Family
  s_c = quant_rows nc f

  abbrev V : Environment → List Cell
  V e = head_cells (λ x. s_c x e) nc.parts.head e

  abbrev L : Environment → Level
  L e = (all_true (λ x. s_c x e) nc.parts.conds.items e).t

  -- the family of the merged graph
  abbrev pub G : Family
  G i e = f i (bound q (V e) e)

  -- ---- b and c

  pub in-b : (r : OwnedQuant) → In r (us ++ rq ∷ vs) → In r nb.quants
  in-b r i = subst (λ z. In r z) (sym m.split) i

  pub rq-in : In rq nb.quants
  rq-in = in-b rq (in-right rq us (rq ∷ vs) (inl refl))

  pub owned : (n : Node) (r : OwnedQuant) → In r n.quants → owns r.id n ≡ true
  owned n r i = any-from (is_quant r.id) r n.quants i (eq-itself r.id)

  pub own-q : owns q nb ≡ true
  own-q = owned nb rq rq-in

  pub binds-q : binds_row q nb.quants ≡ true
  binds-q = any-from (λ s. is_F s.kind && is_quant q s) rq nb.quants rq-in (ap₂ (λ x y. x && y) m.is_f (eq-itself q))

  pub b-above-c : place bs nb.id < place bs nc.id
  b-above-c = subst (λ z. place bs nb.id < place bs z) m.over_c (place-under bs nb rq w.ordered m.in_b rq-in)

  pub b-not-c : nb ≡ nc → ⊥
  b-not-c e = let a = b-above-c in let k : place bs nb.id ≡ place bs nc.id = ap (λ (n : Node). place bs n.id) e in absurd (omega arith)

  pub not-both : (x : ℕ) → owns x nb ≡ true → owns x nc ≡ true → ⊥
  not-both x h k = b-not-c (one-owner bs root w x nb nc m.in_b m.in_c h k)

  pub few : (n : Node) (x : ℕ) → In n bs → times x (ids_of n) ≤ 1
  few n x i = let a = times-in ids_of x n bs i in let b = w.once x in omega arith

  -- a quantifier of b has no other of its number beside it
  pub apart : (xs ys : List OwnedQuant) (s r : OwnedQuant) → nb.quants ≡ xs ++ s ∷ ys → In r xs ⊎ In r ys → (r.id == s.id) ≡ false
  apart xs ys s r e i = split-once (λ (r : OwnedQuant). r.id) xs s ys (subst (λ z. times s.id (map (λ (r : OwnedQuant). r.id) z) ≤ 1) e (few nb s.id m.in_b)) r i

  at-own : (n : Node) (r : OwnedQuant) (h : Family) → In n bs → In r n.quants → quant_rows n h r.id ≡ h r.over
  at-own n r h i j = ap (λ o. rows_found o h) (first-own r n.quants (few n r.id i) j)

  -- ---- turns

  turn-of : (n : Node) → In n bs → n.parts.kind ≡ Select → (done : List OwnedQuant) (r : OwnedQuant) (rest : List OwnedQuant) (x : ℕ) → n.quants ≡ done ++ r ∷ rest → is_F r.kind ≡ true → binds_row x done ≡ false → loose bs r.over x ≡ true → loose bs n.id x ≡ true
  turn-of n i s done r rest x e k u t =
      ap (λ (h : ℕ → Bool). h x) (unfold-loose bs n w.ordered i) ∙ ap (λ z. loose_by z n (loose bs) x) s ∙ ap (λ z. loose_each z n (loose bs) x) e
      ∙ each-turn n (loose bs) x done r rest k u
      (ap (λ o. looks_found o (loose bs) x) (first-own r n.quants (few n r.id i) (subst (λ z. In r z) (sym e) (in-right r done (r ∷ rest) (inl refl)))) ∙ t)

  pub turn : (done : List OwnedQuant) (r : OwnedQuant) (rest : List OwnedQuant) (x : ℕ) → nb.quants ≡ done ++ r ∷ rest → is_F r.kind ≡ true → binds_row x done ≡ false → loose bs r.over x ≡ true → loose bs nb.id x ≡ true
  turn done r rest x e k u t = turn-of nb m.in_b m.select_b done r rest x e k u t

  -- what a Select touches and doesn't bind it looks up
  select-loose : (n : Node) → In n bs → n.parts.kind ≡ Select → (x : ℕ) → binds_row x n.quants ≡ false → touches n (loose bs) x ≡ true → loose bs n.id x ≡ true
  select-loose n i s x u t =
      ap (λ (h : ℕ → Bool). h x) (unfold-loose bs n w.ordered i) ∙ ap (λ z. loose_by z n (loose bs) x) s
      ∙ elim (cases_Bool (loose_each n.quants n (loose bs) x)) [ inl e ↦ e | inr e ↦ absurd (clash (touches n (loose bs) x) t (inner n (loose bs) x n.quants u e)) ]

  pub unbound-before : (done : List OwnedQuant) (r : OwnedQuant) (rest : List OwnedQuant) → nb.quants ≡ done ++ r ∷ rest → binds_row r.id done ≡ false
  unbound-before done r rest e = any-not (λ s. is_F s.kind && is_quant r.id s) done (λ s i. none (is_F s.kind) (apart done rest r s e (inl i)))
    where
      none : (a : Bool) {b : Bool} → b ≡ false → (a && b) ≡ false
      none true h = h
      none false h = refl

  pub not-b : (x : ℕ) → owns x nb ≡ true → loose bs nb.id x ≡ true → ⊥
  not-b x o t = clash (loose bs nb.id x) t (w.settled nb m.in_b x o)

  -- c doesn't look q up, and nothing under it does
  pub c-not-q : loose bs nc.id q ≡ true → ⊥
  c-not-q t = not-b q own-q (turn us rq vs q m.split m.is_f (unbound-before us rq vs m.split) (subst (λ z. loose bs z q ≡ true) (sym m.over_c) t))

  pub c-untouched : touches nc (loose bs) q ≡ false
  c-untouched = elim (cases_Bool (touches nc (loose bs) q)) [
    | inr n ↦ n
    | inl t ↦ elim (touched bs root w nc q m.in_c t) [ inl o ↦ absurd (not-both q own-q o) | inr l ↦ absurd (c-not-q l) ]
  ]

  pub child-not-q : (r : OwnedQuant) → In r nc.quants → loose bs r.over q ≡ false
  child-not-q r i = any-none (λ (r : OwnedQuant). loose bs r.over q) r nc.quants (or_parts (read_by nc q) (under_any nc.quants (loose bs) q) c-untouched).1 i

  -- a box under an earlier F quantifier doesn't look q up
  pub early : (r : OwnedQuant) → In r us → is_F r.kind ≡ true → loose bs r.over q ≡ false
  early r i k = elim (cases_Bool (loose bs r.over q)) [
    | inr n ↦ n
    | inl t ↦ (
        let s = split-in r us i in
        let e : nb.quants ≡ s.0 ++ r ∷ (s.1.0 ++ rq ∷ vs) = m.split ∙ ap (λ z. z ++ rq ∷ vs) s.1.1 ∙ append-in s.0 (r ∷ s.1.0) (rq ∷ vs) in
        absurd (not-b q own-q (turn s.0 r (s.1.0 ++ rq ∷ vs) q e k
        (any-parts (λ z. is_F z.kind && is_quant q z) s.0 (r ∷ s.1.0) (subst (λ z. binds_row q z ≡ false) s.1.1 (unbound-before us rq vs m.split))).0 t)))
  ]

  -- c touches none of the later quantifiers
  pub later : (r : OwnedQuant) → In r vs → touches nc (loose bs) r.id ≡ false
  later r i = elim (cases_Bool (touches nc (loose bs) r.id)) [
    | inr n ↦ n
    | inl t ↦ (
        let own : owns r.id nb ≡ true = owned nb r (in-b r (in-right r us (rq ∷ vs) (inr i))) in
        elim (touched bs root w nc r.id m.in_c t) [
          | inl o ↦ absurd (not-both r.id own o)
          | inr l ↦ absurd (not-b r.id own (turn us rq vs r.id m.split m.is_f before (subst (λ z. loose bs z r.id ≡ true) (sym m.over_c) l)))
        ])
  ]
    where
      before : binds_row r.id us ≡ false
      before = elim (cases_Bool (binds_row r.id us)) [
        | inr n ↦ n
        | inl t ↦ (
            let x = any-in (is_quant r.id) us (bound-owned r.id us t) in
            let ids = λ (xs : List OwnedQuant). map (λ (r : OwnedQuant). r.id) xs in
            let a : times r.id (ids nb.quants) ≡ times r.id (ids us) + times r.id (q ∷ ids vs) = ap (λ z. times r.id (ids z)) m.split ∙ ap (times r.id) (map-append (λ (r : OwnedQuant). r.id) us (rq ∷ vs)) ∙ times-append r.id (ids us) (q ∷ ids vs) in
            let b : 1 ≤ times r.id (ids us) = subst (λ z. 1 ≤ times z (ids us)) (eqb-true x.0.id r.id x.1.1) (in-times (λ (r : OwnedQuant). r.id) x.0 us x.1.0) in
            let c : 1 ≤ times r.id (ids vs) = in-times (λ (r : OwnedQuant). r.id) r vs i in
            let d = few nb r.id m.in_b in absurd (omega arith))
      ]

  -- ---- frames

  pub G-same : (i : ℕ) → loose bs i q ≡ false → (e : Environment) → G i e ≡ f i e
  G-same i h e = sym (bag-framed tables bs i e (bound q (V e) e) (unread (loose bs i) q (V e) e h))

  c-rows-still : (x r : ℕ) (row : List Cell) (e : Environment) → touches nc (loose bs) r ≡ false → s_c x e ≡ s_c x (bound r row e)
  c-rows-still x r row e h = any-framed nc f (loose bs) (bag-framed tables bs) x e (bound r row e) (unread (under_any nc.quants (loose bs)) r row e (or_parts (read_by nc r) (under_any nc.quants (loose bs) r) h).1)

  V-still : (r : ℕ) (row : List Cell) (e : Environment) → touches nc (loose bs) r ≡ false → V (bound r row e) ≡ V e
  V-still r row e h =
      let n = or_parts (list_any (reads r) nc.parts.head) (list_any (reads_cond r) nc.parts.conds.items) (or_parts (read_by nc r) (under_any nc.quants (loose bs) r) h).0 in
      sym (ap (λ (rows : ℕ → Bag). head_cells rows nc.parts.head e) (fun_ext (λ x. c-rows-still x r row e h))
      ∙ head-framed (λ x. s_c x (bound r row e)) nc.parts.head e (bound r row e) (unread (λ x. list_any (reads x) nc.parts.head) r row e n.0))

  -- a bare cell is its column
  cell-is : (rows : ℕ → Bag) (k : ℕ) (d : Environment) → bare (cell_at k nc.parts.head) ≡ true → value rows (cell_at k nc.parts.head) d ≡ cell_of k (V d)
  cell-is rows k d b =
      let x = cell_at k nc.parts.head in
      let bare-one : list_all bare (x ∷ []) ≡ true = ap (λ t. t && true) b in
      ap (λ (cs : List Cell). get_or cs 0 Null) (bare-head rows (x ∷ []) d bare-one ∙ sym (bare-head (λ y. s_c y d) (x ∷ []) d bare-one)) ∙ get-mapped (λ y. value (λ z. s_c z d) y d) (null_int ∷ nc.parts.head) k null_int

  L-still : (r : ℕ) (row : List Cell) (e : Environment) → touches nc (loose bs) r ≡ false → L (bound r row e) ≡ L e
  L-still r row e h =
      let n = or_parts (list_any (reads r) nc.parts.head) (list_any (reads_cond r) nc.parts.conds.items) (or_parts (read_by nc r) (under_any nc.quants (loose bs) r) h).0 in
      sym (ap (λ (p : Truth). p.t) (ap (λ (rows : ℕ → Bag). all_true rows nc.parts.conds.items e) (fun_ext (λ x. c-rows-still x r row e h))
      ∙ all_true-framed (λ x. s_c x (bound r row e)) nc.parts.conds.items e (bound r row e) (unread (λ x. list_any (reads_cond x) nc.parts.conds.items) r row e n.1)))

  -- ---- the merged box

  abbrev pub quants-m : List OwnedQuant
  quants-m = us ++ (nc.quants ++ vs)

  abbrev pub box-m : Node
  box-m = merged q nc quants-m nb

  abbrev s_b : Family
  s_b = quant_rows nb f

  abbrev t : Family
  t = quant_rows box-m G

  first-c : (r : OwnedQuant) → In r nc.quants → first (is_quant r.id) quants-m ≡ Some r
  first-c r i =
      first-skip r.id [] us (nc.quants ++ vs) (elim (cases_Bool (list_any (is_quant r.id) us)) [
        | inr n ↦ n
        | inl u ↦ absurd (let x = any-in (is_quant r.id) us u in not-both r.id (any-from (is_quant r.id) x.0 nb.quants (in-b x.0 (in-left x.0 us (rq ∷ vs) x.1.0)) x.1.1) (owned nc r i))
      ])
      ∙ first-held r.id nc.quants vs (owned nc r i)
      ∙ first-own r nc.quants (few nc r.id m.in_c) i

  first-b : (r : OwnedQuant) → In r nb.quants → (r.id == q) ≡ false → first (is_quant r.id) quants-m ≡ Some r
  first-b r i k =
      first-skip r.id us nc.quants vs (elim (cases_Bool (owns r.id nc)) [ inr n ↦ n | inl u ↦ absurd (not-both r.id (owned nb r i) u) ])
      ∙ sym (first-skip r.id us (rq ∷ []) vs (or_from (rq.id == r.id) false (eq-false-sym r.id rq.id k) refl))
      ∙ ap (first (is_quant r.id)) (sym m.split)
      ∙ first-own r nb.quants (few nb r.id m.in_b) i

  -- what c's quantifiers give in the merged box
  t-c : (r : OwnedQuant) → In r nc.quants → (e : Environment) → t r.id e ≡ s_c r.id e
  t-c r i e = ap (λ o. rows_found o G e) (first-c r i) ∙ G-same r.over (child-not-q r i) e ∙ ap (λ (k : Environment → Bag). k e) (sym (at-own nc r f m.in_c i))

  -- and what b's give
  t-b : (r : OwnedQuant) → In r nb.quants → (r.id == q) ≡ false → t r.id ≡ G r.over
  t-b r i k = ap (λ o. rows_found o G) (first-b r i k)

  pub by-name : (n : Node) (x : ℕ) → owns x n ≡ true → (r : OwnedQuant) × (In r n.quants × (r.id ≡ x))
  by-name n x h = let y = any-in (is_quant x) n.quants h in (y.0, (y.1.0, eqb-true y.0.id x y.1.1))

  named-c : (e : Environment) (x : ℕ) → nodes_in x nc ≡ true → t x e ≡ s_c x e
  named-c e x h = let r = by-name nc x (w.own_nodes nc m.in_c x h).0 in subst (λ z. t z e ≡ s_c z e) r.1.1 (t-c r.0 r.1.0 e)

  V-t : (e : Environment) → head_cells (λ x. t x e) nc.parts.head e ≡ V e
  V-t e = head-nodes (λ x. t x e) (λ x. s_c x e) nc.parts.head e (λ x u. named-c e x (or_left (list_any (names x) nc.parts.head) (list_any (names_cond x) nc.parts.conds.items) u))

  L-t : (e : Environment) → (all_true (λ x. t x e) nc.parts.conds.items e).t ≡ L e
  L-t e = ap (λ (p : Truth). p.t) (all_true-nodes (λ x. t x e) (λ x. s_c x e) nc.parts.conds.items e (λ x u. named-c e x (or_right (list_any (names x) nc.parts.head) (list_any (names_cond x) nc.parts.conds.items) u)))

  -- b touches none of c's quantifiers, and nothing under it does but c
  b-not-c's : (x : ℕ) → owns x nc ≡ true → (owns x nb ≡ true) ⊎ (loose bs nb.id x ≡ true) → ⊥
  b-not-c's x o h = elim h [
    | inl k ↦ not-both x k o
    | inr l ↦ (let a = above-owner bs root w nb.id x l nc m.in_c o in let b = b-above-c in absurd (omega arith))
  ]

  framed-after : (r : OwnedQuant) → In r nb.quants → (d e : Environment) → rows.Merges nc.quants q V d e → f r.over d ≡ G r.over e
  framed-after r i d e h = bag-framed tables bs r.over d (bound q (V e) e) (record { rows = λ x l. step x l (cases_Bool (q == x)) })
    where
      step : (x : ℕ) → loose bs r.over x ≡ true → ((q == x) ≡ true) ⊎ ((q == x) ≡ false) → row_of x d ≡ cond (q == x) (V e) (row_of x e)
      step x l (inl u) = ap (λ z. row_of z d) (sym (eqb-true q x u)) ∙ h.own ∙ sym (ap (λ (b : Bool). cond b (V e) (row_of x e)) u)
      step x l (inr u) =
          h.others x (eq-false-sym q x u) (elim (cases_Bool (owns x nc)) [
            | inr n ↦ n
            | inl o ↦ absurd (b-not-c's x o (elim (climb bs root w nb r x m.in_b i l) [ inl k ↦ inl (bound-owned x nb.quants k.1) | inr k ↦ inr k ]))
          ])
          ∙ sym (ap (λ (b : Bool). cond b (V e) (row_of x e)) u)

  -- what a box's nodes bind isn't read by c's cells
  fresh : (x : ℕ) → owns x nb ≡ true → binds_row x nb.quants ≡ false → touches nc (loose bs) x ≡ false
  fresh x o u = elim (cases_Bool (touches nc (loose bs) x)) [
    | inr n ↦ n
    | inl k ↦ elim (touched bs root w nc x m.in_c k) [
      | inl c ↦ absurd (not-both x o c)
      | inr l ↦ elim (climb bs root w nb rq x m.in_b rq-in (subst (λ z. loose bs z x ≡ true) (sym m.over_c) l)) [
        | inl y ↦ absurd (clash (binds_row x nb.quants) y.1 u)
        | inr y ↦ absurd (not-b x o y)
      ]
    ]
  ]

  pub unread-cells : (x : ℕ) → touches nc (loose bs) x ≡ false → list_any (reads x) nc.parts.head ≡ false
  unread-cells x h = (or_parts (list_any (reads x) nc.parts.head) (list_any (reads_cond x) nc.parts.conds.items) (or_parts (read_by nc x) (under_any nc.quants (loose bs) x) h).0).0

  fresh-node : (x : ℕ) → nodes_in x nb ≡ true → list_any (reads x) nc.parts.head ≡ false
  fresh-node x h = let o = w.own_nodes nb m.in_b x h in unread-cells x (fresh x o.0 o.1)

  last : (d e : Environment) → rows.Merges nc.quants q V d e → keep (L e) (given_by s_b nb d) ≡ given_by t box-m e
  last d e h =
      ap (λ l. keep l (given_by s_b nb d)) (sym (L-t e))
      ∙ given-merged nc.quants q s_b t nb.parts.conds.items nc.parts.conds.items nb.parts.head nc.parts.head
      (λ x u. elim (cases_Bool (owns x nc)) [ inr n ↦ n | inl o ↦ absurd (b-not-c's x o (touched bs root w nb x m.in_b (or_left (read_by nb x) (under_any nb.quants (loose bs) x) u))) ])
      (λ x u. fresh-node x (or_left (list_any (names x) nb.parts.head) (list_any (names_cond x) nb.parts.conds.items) (heads-names x nb.parts.head u)))
      (λ x u. fresh-node x (or_right (list_any (names x) nb.parts.head) (list_any (names_cond x) nb.parts.conds.items) (conds-names x nb.parts.conds.items u)))
      d e (record { others = h.others; own = h.own ∙ sym (V-t e) })
      (λ x u. (
      let o = w.own_nodes nb m.in_b x u in
      let r = by-name nb x o.0 in
      subst (λ z. t z e ≡ s_b z d) r.1.1 (
      ap (λ (k : Environment → Bag). k e) (t-b r.0 r.1.0 (elim (cases_Bool (r.0.id == q)) [
        | inr n ↦ n
        | inl y ↦ absurd (clash (binds_row q nb.quants) binds-q (subst (λ z. binds_row z nb.quants ≡ false) (sym r.1.1 ∙ eqb-true r.0.id q y) o.1))
      ]))
      ∙ sym (framed-after r.0 r.1.0 d e h) ∙ ap (λ (k : Environment → Bag). k d) (sym (at-own nb r.0 f m.in_b r.1.0)))))

  mergeable : Mergeable us rq nc.quants vs s_b t L V (given_by s_b nb) (given_by t box-m)
  mergeable = record {
    is_f = m.is_f;
    before = λ r i k e. (
        let j = in-b r (in-left r us (rq ∷ vs) i) in
        ap (λ (h : Environment → Bag). h e) (at-own nb r f m.in_b j) ∙ sym (G-same r.over (early r i k) e) ∙ ap (λ (h : Environment → Bag). h e) (sym (t-b r j (apart us vs rq r m.split (inl i)))));
    inner = λ e.
        ap (λ (h : Environment → Bag). h e) (at-own nb rq f m.in_b rq-in) ∙ ap (λ z. f z e) m.over_c ∙ unfold-bag tables bs nc w.ordered m.in_c e
        ∙ ap (λ k. rows_by k tables nc s_c e) m.select_c ∙ ap (λ b. once_if b (over_each nc.quants s_c (given_by s_c nc) e)) m.not_enforced
        ∙ over_each-related (λ x y. x ≡ y) s_c t (given_by s_c nc) (λ e. keep (L e) (unit (V e))) nc.quants
        (λ r i k x y h. sym (t-c r i x) ∙ ap (t r.id) h) (λ r i k row x y h. ap (bound r.id row) h) (λ x y h. ap (given_by s_c nc) h) e e refl;
    after = λ r i k d e h. (
        let j = in-b r (in-right r us (rq ∷ vs) (inr i)) in
        ap (λ (h : Environment → Bag). h d) (at-own nb r f m.in_b j) ∙ framed-after r j d e h ∙ ap (λ (h : Environment → Bag). h e) (sym (t-b r j (apart us vs rq r m.split (inr i)))));
    level-still = λ r i k row e. L-still r.id row e (later r i);
    cells-still = λ r i k row e. V-still r.id row e (later r i);
    apart = λ r i k. apart us vs rq r m.split (inr i);
    last = last;
  }

  pub merged-rows : (e : Environment) → rows_of tables box-m G e ≡ G nb.id e
  merged-rows e =
      ap (λ k. rows_by k tables box-m t e) m.select_b
      ∙ ap (once_if (is_enforce nb.parts.distinct)) (sym (loops.merged us rq nc.quants vs s_b t L V (given_by s_b nb) (given_by t box-m) mergeable e))
      ∙ ap (λ z. once_if (is_enforce nb.parts.distinct) (over_each z s_b (given_by s_b nb) e)) (sym m.split)
      ∙ sym (ap (λ k. rows_by k tables nb s_b e) m.select_b) ∙ sym (unfold-bag tables bs nb w.ordered m.in_b e)
      ∙ sym (G-same nb.id (w.settled nb m.in_b q own-q) e)

  -- ---- other boxes

  same-under : (rs : List OwnedQuant) → ((r : OwnedQuant) → In r rs → loose bs r.over q ≡ false) → SameUnder rs G f
  same-under [] h = tt
  same-under (r ∷ rs) h = (fun_ext (λ e. G-same r.over (h r (inl refl)) e), same-under rs (λ s i. h s (inr i)))

  module _ (y : Node) (i : In y bs) (other : (y.id == nb.id) ≡ false) (other-c : (y.id == nc.id) ≡ false) where
    not-nb : nb ≡ y → ⊥
    not-nb e = clash (y.id == nb.id) (subst (λ (z : Node). (z.id == nb.id) ≡ true) e (eq-itself nb.id)) other

    pub not-own-q : owns q y ≡ false
    not-own-q = elim (cases_Bool (owns q y)) [ inr n ↦ n | inl o ↦ absurd (not-nb (one-owner bs root w q nb y m.in_b i own-q o)) ]

    -- below b: what it owns c's cells don't read
    pub apart-cells : loose bs y.id q ≡ true → (x : ℕ) → owns x y ≡ true → touches nc (loose bs) x ≡ false
    apart-cells l x o = elim (cases_Bool (touches nc (loose bs) x)) [
      | inr n ↦ n
      | inl k ↦ (
          let up = above-owner bs root w y.id q l nb m.in_b own-q in
          elim (touched bs root w nc x m.in_c k) [
            | inl c ↦ absurd (clash (y.id == nc.id) (subst (λ (z : Node). (y.id == z.id) ≡ true) (one-owner bs root w x y nc i m.in_c o c) (eq-itself y.id)) other-c)
            | inr h ↦ elim (climb bs root w nb rq x m.in_b rq-in (subst (λ z. loose bs z x ≡ true) (sym m.over_c) h)) [
              | inl z ↦ absurd (not-nb (one-owner bs root w x nb y m.in_b i (bound-owned x nb.quants z.1) o))
              | inr z ↦ (let a = above-owner bs root w nb.id x z y i o in absurd (omega arith))
            ]
          ])
    ]

    introduced : loose bs y.id q ≡ true → (x : ℕ) → introduces y x ≡ true → ((x == q) ≡ false) × (touches nc (loose bs) x ≡ false)
    introduced l x h =
        let o : owns x y ≡ true = (elim (or_cases (owns x y) (list_any (binds x) y.parts.head || list_any (binds_cond x) y.parts.conds.items) h) [
          | inl o ↦ o
          | inr b ↦ (w.own_nodes y i x (elim (or_cases (list_any (binds x) y.parts.head) (list_any (binds_cond x) y.parts.conds.items) b) [
            | inl u ↦ or_left (list_any (names x) y.parts.head) (list_any (names_cond x) y.parts.conds.items) (heads-names x y.parts.head u)
            | inr u ↦ or_right (list_any (names x) y.parts.head) (list_any (names_cond x) y.parts.conds.items) (conds-names x y.parts.conds.items u)
          ])).0
        ]) in
        (elim (cases_Bool (x == q)) [ inr n ↦ n | inl t ↦ absurd (clash (owns x y) o (subst (λ z. owns z y ≡ false) (sym (eqb-true x q t)) not-own-q)) ], apart-cells l x o)

    pub untouched : loose bs y.id q ≡ false → touches y (loose bs) q ≡ false
    untouched n = elim (cases_Bool (touches y (loose bs) q)) [
      | inr k ↦ k
      | inl k ↦ elim (touched bs root w y q i k) [ inl o ↦ absurd (clash (owns q y) o not-own-q) | inr l ↦ absurd (clash (loose bs y.id q) l n) ]
    ]

    -- nothing is put in
    pub unput : loose bs y.id q ≡ false → put_node q nc.parts.head y ≡ y
    unput n =
        let r = or_parts (list_any (reads q) y.parts.head) (list_any (reads_cond q) y.parts.conds.items) (or_parts (read_by y q) (under_any y.quants (loose bs) q) (untouched n)).0 in
        ap₂ (λ h c. record y { parts = record y.parts { head = h; conds = record y.parts.conds { items = c } } }) (heads-none q nc.parts.head y.parts.head r.0) (conds-none q nc.parts.head y.parts.conds.items r.1)

    put-rows : loose bs y.id q ≡ true → (e : Environment) → rows_of tables (put_node q nc.parts.head y) G e ≡ rows_of tables y f (bound q (V e) e)
    put-rows l e = rows-put q nc.parts.head V (touches nc (loose bs)) V-still cell-is tables y.parts.kind y (quant_rows y G) (quant_rows y f)
        (λ x. found-put q nc.parts.head V (touches nc (loose bs)) V-still cell-is (first (is_quant x) y.quants) G f given) not-own-q (introduced l) (m.naked y i other) e (bound q (V e) e) (rowed e)
      where
        rowed : (d : Environment) → Rowed q nc.parts.head V (touches nc (loose bs)) V-still cell-is d (bound q (V d) d)
        rowed d = record {
          others = λ x n. sym (ap (λ (b : Bool). cond b (V d) (row_of x d)) (eq-false-sym x q n));
          own = ap (λ (b : Bool). cond b (V d) (row_of q d)) (eq-itself q);
        }

        given : (b : ℕ) (d k : Environment) → Rowed q nc.parts.head V (touches nc (loose bs)) V-still cell-is d k → G b d ≡ f b k
        given b d k h = bag-framed tables bs b (bound q (V d) d) k (record { rows = λ x u. step x (cases_Bool (q == x)) })
          where
            step : (x : ℕ) → ((q == x) ≡ true) ⊎ ((q == x) ≡ false) → cond (q == x) (V d) (row_of x d) ≡ row_of x k
            step x (inl u) = ap (λ (b : Bool). cond b (V d) (row_of x d)) u ∙ sym h.own ∙ ap (λ z. row_of z k) (eqb-true q x u)
            step x (inr u) = ap (λ (b : Bool). cond b (V d) (row_of x d)) u ∙ h.others x (eq-false-sym q x u)

    pub other-rows : (e : Environment) → rows_of tables (put_node q nc.parts.head y) G e ≡ G y.id e
    other-rows e = elim (cases_Bool (loose bs y.id q)) [
      | inl l ↦ put-rows l e ∙ sym (unfold-bag tables bs y w.ordered i (bound q (V e) e))
      | inr n ↦
          ap (λ z. rows_of tables z G e) (unput n)
          ∙ ap (λ (h : Environment → Bag). h e) (rows-local tables y G f (same-under y.quants (λ r j. any-none (λ (r : OwnedQuant). loose bs r.over q) r y.quants (or_parts (read_by y q) (under_any y.quants (loose bs) q) (untouched n)).1 j)))
          ∙ sym (unfold-bag tables bs y w.ordered i e) ∙ sym (G-same y.id n e)
    ]

  -- THE GRAPH AFTER
  abbrev pub h : List Node
  h = map (merge_node nb.id q nc quants-m) (boxes_without nc.id bs)

  abbrev pub g : Node → Node
  g = merge_node nb.id q nc quants-m

  pub g-b : (y : Node) → (y.id == nb.id) ≡ true → g y ≡ merged q nc quants-m y
  g-b y t = ap (λ b. cond b (merged q nc quants-m y) (put_node q nc.parts.head y)) t

  pub g-other : (y : Node) → (y.id == nb.id) ≡ false → g y ≡ put_node q nc.parts.head y
  g-other y t = ap (λ b. cond b (merged q nc quants-m y) (put_node q nc.parts.head y)) t

  pub g-id : (y : Node) → (g y).id ≡ y.id
  g-id y = elim (cases_Bool (y.id == nb.id)) [ inl t ↦ ap (λ (z : Node). z.id) (g-b y t) | inr f ↦ ap (λ (z : Node). z.id) (g-other y f) ]

  pub b-id : (nb.id == nc.id) ≡ false
  b-id = elim (cases_Bool (nb.id == nc.id)) [ inl t ↦ absurd (b-not-c (same-box bs nb nc w.ordered m.in_b m.in_c (eqb-true nb.id nc.id t))) | inr f ↦ f ]

  pub in-h : (n : Node) → In n h → (box-m ≡ n) ⊎ ((y : Node) × (In y bs × (((y.id == nb.id) ≡ false) × (((y.id == nc.id) ≡ false) × (put_node q nc.parts.head y ≡ n)))))
  in-h n i =
      let x = in-map g n (boxes_without nc.id bs) i in
      let j = in-without nc.id x.0 bs x.1.0 in
      elim (cases_Bool (x.0.id == nb.id)) [
        | inl t ↦ inl (let same : x.0 ≡ nb = same-box bs x.0 nb w.ordered j.0 m.in_b (eqb-true x.0.id nb.id t) in sym (g-b x.0 t ∙ ap (merged q nc quants-m) same) ∙ x.1.1)
        | inr f ↦ inr (x.0, (j.0, (f, (j.1, sym (g-other x.0 f) ∙ x.1.1))))
      ]

  gives-back : (n : Node) → In n h → (e : Environment) → rows_of tables n G e ≡ G n.id e
  gives-back n i e = elim (in-h n i) [
    | inl s ↦ subst (λ (z : Node). rows_of tables z G e ≡ G z.id e) s (merged-rows e)
    | inr y ↦ subst (λ (z : Node). rows_of tables z G e ≡ G z.id e) y.1.1.1.1 (other-rows y.0 y.1.0 y.1.1.0 y.1.1.1.0 e)
  ]

  other-over : (r : OwnedQuant) → In r us ⊎ In r vs → (r.over == nc.id) ≡ false
  other-over r i =
      let le : times rq.over (map (λ (r : OwnedQuant). r.over) nb.quants) ≤ times rq.over (overs_in bs) = times-in (λ (n : Node). map (λ (r : OwnedQuant). r.over) n.quants) rq.over nb bs m.in_b in
      let one : times rq.over (overs_in bs) ≡ 1 = ap (λ z. times z (overs_in bs)) m.over_c ∙ m.one_use in
      let few : times rq.over (map (λ (r : OwnedQuant). r.over) (us ++ rq ∷ vs)) ≤ 1 = subst (λ z. times rq.over (map (λ (r : OwnedQuant). r.over) z) ≤ 1) m.split (omega arith) in
      subst (λ z. (r.over == z) ≡ false) m.over_c (split-once (λ r. r.over) us rq vs few r i)

  pub in-us : (r : OwnedQuant) → In r us → In r nb.quants
  in-us r j = in-b r (in-left r us (rq ∷ vs) j)

  pub in-later : (r : OwnedQuant) → In r vs → In r nb.quants
  in-later r j = in-b r (in-right r us (rq ∷ vs) (inr j))

  -- whose quantifiers the merged box has
  pub in-quants-m : (r : OwnedQuant) → In r quants-m → (In r nb.quants × (In r us ⊎ In r vs)) ⊎ In r nc.quants
  in-quants-m r j = elim (in-append r us (nc.quants ++ vs) j) [
    | inl a ↦ inl (in-us r a, inl a)
    | inr k ↦ elim (in-append r nc.quants vs k) [ inl c ↦ inr c | inr z ↦ inl (in-later r z, inr z) ]
  ]

  pub ordered-h : Ordered h
  ordered-h = ordered-edit g nc.id g-id bs w.ordered (λ y r i f j. elim (cases_Bool (y.id == nb.id)) [
    | inl t ↦ (
        let same : y ≡ nb = same-box bs y nb w.ordered i m.in_b (eqb-true y.id nb.id t) in
        let k : In r quants-m = subst (λ (z : Node). In r z.quants) (g-b y t) j in
        subst (λ (z : Node). (has_box bs r.over ≡ true) × (place bs z.id < place bs r.over) × ((r.over == nc.id) ≡ false)) (sym same) (elim (in-quants-m r k) [
          | inl a ↦ (overs-held bs nb r w.ordered m.in_b a.0, place-under bs nb r w.ordered m.in_b a.0, other-over r a.1)
          | inr c ↦ (
              let u = place-under bs nc r w.ordered m.in_c c in
              let v = b-above-c in
              (overs-held bs nc r w.ordered m.in_c c, (omega arith), below r c))
        ]))
    | inr n ↦ (
        let k : In r y.quants = subst (λ (z : Node). In r z.quants) (g-other y n) j in
        (overs-held bs y r w.ordered i k, place-under bs y r w.ordered i k, elsewhere y r i n k))
  ])
    where
      below : (r : OwnedQuant) → In r nc.quants → (r.over == nc.id) ≡ false
      below r c = elim (cases_Bool (r.over == nc.id)) [
        | inl t ↦ (let u : place bs nc.id < place bs r.over = place-under bs nc r w.ordered m.in_c c in let e : place bs r.over ≡ place bs nc.id = ap (place bs) (eqb-true r.over nc.id t) in absurd (omega arith))
        | inr n ↦ n
      ]

      elsewhere : (y : Node) (r : OwnedQuant) → In y bs → (y.id == nb.id) ≡ false → In r y.quants → (r.over == nc.id) ≡ false
      elsewhere y r i n k = elim (cases_Bool (r.over == nc.id)) [
        | inl t ↦ (
            let o = m.one_use in
            let e : y ≡ nb = one-parent bs root w nc.id y nb r rq (omega arith) i m.in_b k rq-in (eqb-true r.over nc.id t) m.over_c in
            absurd (clash (y.id == nb.id) (eq-eqb y.id nb.id (ap (λ (z : Node). z.id) e)) n))
        | inr n ↦ n
      ]

  pub root-not-c : (root == nc.id) ≡ false
  root-not-c = elim (cases_Bool (root == nc.id)) [
    | inl t ↦ (let a = w.top in let b = m.one_use in let e : times root (overs_in bs) ≡ times nc.id (overs_in bs) = ap (λ z. times z (overs_in bs)) (eqb-true root nc.id t) in absurd (omega arith))
    | inr f ↦ f
  ]

  pub rooted-h : has_box h root ≡ true
  rooted-h =
      let x = has-in root bs w.rooted in
      let i : In (g x.0) h = map-in g x.0 (boxes_without nc.id bs) (without-in nc.id x.0 bs x.1.0 (subst (λ z. (z == nc.id) ≡ false) (sym x.1.1) root-not-c)) in
      subst (λ z. has_box h z ≡ true) (g-id x.0 ∙ x.1.1) (in-has (g x.0) h i)

  -- THE ROOT'S BAG
  pub merge-bag : (e : Environment) → bag_in tables h root e ≡ bag_in tables bs root e
  merge-bag e = only-bag tables G h ordered-h gives-back root rooted-h e ∙ G-same root closed e
    where
      closed : loose bs root q ≡ false
      closed = elim (cases_Bool (loose bs root q)) [ inl t ↦ absurd (closed-root bs root w q t) | inr f ↦ f ]

  -- SOUND AFTER: numbers
  abbrev ids : List OwnedQuant → List ℕ
  ids rs = map (λ (r : OwnedQuant). r.id) rs

  abbrev overs : List OwnedQuant → List ℕ
  overs rs = map (λ (r : OwnedQuant). r.over) rs

  pub counted : (f : OwnedQuant → ℕ) (x : ℕ) → times x (flat_map (λ (n : Node). map f n.quants) h) + times x (map f (rq ∷ [])) ≡ times x (flat_map (λ (n : Node). map f n.quants) bs)
  counted f x =
      let F = λ (n : Node). map f n.quants in
      let change = times-change F g x nb (boxes_without nc.id bs) (once-without nc.id bs (once-each bs w.ordered)) (without-in nc.id nb bs m.in_b b-id) (λ y i n. ap F (g-other y n)) in
      let drop = times-without F x nc bs w.ordered m.in_c in
      let new : times x (F (g nb)) ≡ times x (map f quants-m) = ap (λ z. times x (F z)) (g-b nb (eq-itself nb.id)) in
      let a : times x (map f quants-m) ≡ times x (map f us) + times x (map f (nc.quants ++ vs)) = ap (times x) (map-append f us (nc.quants ++ vs)) ∙ times-append x (map f us) (map f (nc.quants ++ vs)) in
      let b : times x (map f (nc.quants ++ vs)) ≡ times x (map f nc.quants) + times x (map f vs) = ap (times x) (map-append f nc.quants vs) ∙ times-append x (map f nc.quants) (map f vs) in
      let c : times x (F nb) ≡ times x (map f us) + times x (map f (rq ∷ vs)) = ap (λ z. times x (map f z)) m.split ∙ ap (times x) (map-append f us (rq ∷ vs)) ∙ times-append x (map f us) (map f (rq ∷ vs)) in
      let d : times x (map f (rq ∷ vs)) ≡ times x (map f (rq ∷ [])) + times x (map f vs) = times-append x (map f (rq ∷ [])) (map f vs) in
      omega arith

  pub once-h : (p : ℕ) → times p (ids_in h) ≤ 1
  once-h p = let a = counted (λ r. r.id) p in let b = w.once p in omega arith

  pub used-by : (i : ℕ) → (i == nc.id) ≡ false → times i (overs_in h) ≡ times i (overs_in bs)
  used-by i n =
      let a = counted (λ r. r.over) i in
      let f : (rq.over == i) ≡ false = subst (λ z. (z == i) ≡ false) (sym m.over_c) (eq-false-sym i nc.id n) in
      let b : times i (map (λ (r : OwnedQuant). r.over) (rq ∷ [])) ≡ 0 = ap (λ (b : Bool). cond b 1 0 + 0) f in
      omega arith

  -- SOUND AFTER: what is looked up
  abbrev Within : ℕ → ℕ → Type 0
  Within i x = ((loose bs i x ≡ true) × ((x == q) ≡ false)) ⊎ ((loose bs i q ≡ true) × (touches nc (loose bs) x ≡ true))

  pub nodes-not-q : (y : Node) → In y bs → nodes_in q y ≡ false
  nodes-not-q y i = elim (cases_Bool (nodes_in q y)) [
    | inr n ↦ n
    | inl k ↦ absurd (let o = w.own_nodes y i q k in clash (binds_row q nb.quants) binds-q (subst (λ (z : Node). binds_row q z.quants ≡ false) (sym (one-owner bs root w q nb y m.in_b i own-q o.0)) o.1))
  ]

  read-c : (x : ℕ) → read_by nc x ≡ true → touches nc (loose bs) x ≡ true
  read-c x k = or_left (read_by nc x) (under_any nc.quants (loose bs) x) k

  cell-read : (x j : ℕ) → reads x (cell_at j nc.parts.head) ≡ true → touches nc (loose bs) x ≡ true
  cell-read x j k = read-c x (or_left (list_any (reads x) nc.parts.head) (list_any (reads_cond x) nc.parts.conds.items) (cell-any (reads x) nc.parts.head j refl k))

  -- columns of q that are read are reads of q
  pub at-head : (j : ℕ) (xs : List Term) → list_any (reads_at q j) xs ≡ true → list_any (reads q) xs ≡ true
  at-head j xs k = heads-more (λ r k. (r == q) && (k == j)) (λ r k. r == q) (λ r. false) (λ r. false) (λ r. false) (λ r. false) (λ r. no (r == q)) (λ r. no (r == q)) (λ r k h. (and_parts (r == q) (k == j) h).0) (λ r h. h) (λ r h. h) (λ r h. h) xs k

  pub at-conds : (j : ℕ) (xs : List Cond) → list_any (reads_at_cond q j) xs ≡ true → list_any (reads_cond q) xs ≡ true
  at-conds j xs k = conds-more (λ r k. (r == q) && (k == j)) (λ r k. r == q) (λ r. false) (λ r. false) (λ r. false) (λ r. false) (λ r. no (r == q)) (λ r. no (r == q)) (λ r k h. (and_parts (r == q) (k == j) h).0) (λ r h. h) (λ r h. h) (λ r h. h) xs k

  -- what a box reads into which c's cells were put
  abbrev Reads : Node → ℕ → Type 0
  Reads y x = ((read_by y x ≡ true) × ((x == q) ≡ false)) ⊎ ((read_by y q ≡ true) × (touches nc (loose bs) x ≡ true))

  module _ (x : ℕ) where
    column-apart : (r k : ℕ) → (r == q) ≡ false → (r == x) ≡ true → (x == q) ≡ false
    column-apart r k n e = subst (λ z. (z == q) ≡ false) (eqb-true r x e) n

    none-apart : (r : ℕ) → (r == q) ≡ false → false ≡ true → (x == q) ≡ false
    none-apart r n e = absurd (let z : ⊥ = cc in z)

    put-head : (y : Node) → In y bs → list_any (reads x) (map (substituted q nc.parts.head) y.parts.head) ≡ true → Reads y x
    put-head y i k =
        elim (heads-put q nc.parts.head (λ r k. r == x) (λ r. false) (λ r. false) (λ r. no (r == x)) ((x == q) ≡ false) column-apart none-apart none-apart y.parts.head (or_parts (list_any (names q) y.parts.head) (list_any (names_cond q) y.parts.conds.items) (nodes-not-q y i)).0 k) [
          | inl a ↦ inl (or_left (list_any (reads x) y.parts.head) (list_any (reads_cond x) y.parts.conds.items) a.0, a.1)
          | inr a ↦ inr (or_left (list_any (reads q) y.parts.head) (list_any (reads_cond q) y.parts.conds.items) (at-head a.0 y.parts.head a.1.0), cell-read x a.0 a.1.1)
        ]

    put-conds : (y : Node) → In y bs → list_any (reads_cond x) (map (substituted_cond q nc.parts.head) y.parts.conds.items) ≡ true → Reads y x
    put-conds y i k =
        elim (conds-put q nc.parts.head (λ r k. r == x) (λ r. false) (λ r. false) (λ r. no (r == x)) ((x == q) ≡ false) column-apart none-apart none-apart y.parts.conds.items (or_parts (list_any (names q) y.parts.head) (list_any (names_cond q) y.parts.conds.items) (nodes-not-q y i)).1 k) [
          | inl a ↦ inl (or_right (list_any (reads x) y.parts.head) (list_any (reads_cond x) y.parts.conds.items) a.0, a.1)
          | inr a ↦ inr (or_right (list_any (reads q) y.parts.head) (list_any (reads_cond q) y.parts.conds.items) (at-conds a.0 y.parts.conds.items a.1.0), cell-read x a.0 a.1.1)
        ]

    put-read : (y : Node) → In y bs → read_by (put_node q nc.parts.head y) x ≡ true → Reads y x
    put-read y i k = elim (or_cases (list_any (reads x) (map (substituted q nc.parts.head) y.parts.head)) (list_any (reads_cond x) (map (substituted_cond q nc.parts.head) y.parts.conds.items)) k) [ inl a ↦ put-head y i a | inr b ↦ put-conds y i b ]

    module _ (under : ℕ → ℕ → Bool) (hu : (b x : ℕ) → under b x ≡ true → Within b x) where
      other-within : (y : Node) → In y bs → (y.id == nb.id) ≡ false → (y.id == nc.id) ≡ false → loose_of (put_node q nc.parts.head y) under x ≡ true → Within y.id x
      other-within y i n n' k =
          elim (loose-was ((x == q) ≡ false) ((touches y (loose bs) q ≡ true) × (touches nc (loose bs) x ≡ true)) under (loose bs) x y (put_node q nc.parts.head y) refl
          (λ s. elim (put-read y i s) [ inl a ↦ inl a | inr a ↦ inr (or_left (read_by y q) (under_any y.quants (loose bs) q) a.0, a.1) ])
          (λ r j s. elim (hu r.over x s) [ inl a ↦ inl a | inr a ↦ inr (or_right (read_by y q) (under_any y.quants (loose bs) q) (any-from (λ (r : OwnedQuant). loose bs r.over q) r y.quants j a.0), a.1) ])
          y.parts.kind k) [
            | inl a ↦ inl (ap (λ (h : ℕ → Bool). h x) (unfold-loose bs y w.ordered i) ∙ a.0, a.1)
            | inr a ↦ inr (elim (touched bs root w y q i a.0) [ inl o ↦ absurd (clash (owns q y) o (not-own-q y i n n')) | inr l ↦ l ], a.1)
          ]

      -- c's turn
      at-c : binds_row x us ≡ false → loose bs nc.id x ≡ true → Within nb.id x
      at-c u l = inl (
        turn us rq vs x m.split m.is_f u (subst (λ z. loose bs z x ≡ true) (sym m.over_c) l),
        elim (cases_Bool (x == q)) [ inr n ↦ n | inl e ↦ absurd (c-not-q (subst (λ z. loose bs nc.id z ≡ true) (eqb-true x q e) l)) ],
      )

      from-c : binds_row x us ≡ false → binds_row x nc.quants ≡ false → touches nc (loose bs) x ≡ true → Within nb.id x
      from-c u v k = at-c u (select-loose nc m.in_c m.select_c x v k)

      whole : binds_row x us ≡ false → binds_row x vs ≡ false → (x == q) ≡ false → binds_row x nb.quants ≡ false
      whole u v n = subst (λ z. binds_row x z ≡ false) (sym m.split) (any-both (λ r. is_F r.kind && is_quant x r) us (rq ∷ vs) u (or_from (is_F rq.kind && is_quant x rq) (binds_row x vs) (either-none (is_F rq.kind) (eq-false-sym x q n)) v))
        where
          either-none : (a : Bool) {b : Bool} → b ≡ false → (a && b) ≡ false
          either-none true h = h
          either-none false h = refl

      -- at the turn of a quantifier of b
      looks-b : (r : OwnedQuant) → In r nb.quants → (r.id == q) ≡ false → quant_looks box-m under r.id x ≡ true → Within r.over x
      looks-b r i n l = hu r.over x (subst (λ o. looks_found o under x ≡ true) (first-b r i n) l)

      merged-within : loose_each quants-m box-m under x ≡ true → Within nb.id x
      merged-within k = elim (each-cases box-m under x us (nc.quants ++ vs) k) [
        | inl c ↦ (
            let r = c.1.0 in
            let i : In r us = subst (λ z. In r z) (sym c.1.1.1.0) (in-right r c.0 (r ∷ c.1.1.0) (inl refl)) in
            elim (looks-b r (in-us r i) (apart us vs rq r m.split (inl i)) c.1.1.1.1.1.1) [
              | inl a ↦ inl (turn c.0 r (c.1.1.0 ++ rq ∷ vs) x (m.split ∙ ap (λ z. z ++ rq ∷ vs) c.1.1.1.0 ∙ append-in c.0 (r ∷ c.1.1.0) (rq ∷ vs)) c.1.1.1.1.0 c.1.1.1.1.1.0 a.0, a.1)
              | inr a ↦ absurd (clash (loose bs r.over q) a.0 (early r i c.1.1.1.1.0))
            ])
        | inr c ↦ after-us c.0 (each-cases box-m under x nc.quants vs c.1)
      ]
        where
          at-end : binds_row x us ≡ false → binds_row x nc.quants ≡ false → binds_row x vs ≡ false → Reads nb x ⊎ (touches nc (loose bs) x ≡ true) → Within nb.id x
          at-end u v z k = elim k [
            | inr a ↦ from-c u v a
            | inl b ↦ elim b [
              | inr a ↦ from-c u v a.1
              | inl a ↦ inl (select-loose nb m.in_b m.select_b x (whole u z a.1) (or_left (read_by nb x) (under_any nb.quants (loose bs) x) a.0), a.1)
            ]
          ]

          after-vs : binds_row x us ≡ false → binds_row x nc.quants ≡ false → binds_row x vs ≡ false → (read_by box-m x || under_any quants-m under x) ≡ true → Within nb.id x
          after-vs u v z k = elim (or_cases (read_by box-m x) (under_any quants-m under x) k) [
            | inl a ↦ elim (or_cases (list_any (reads x) (map (substituted q nc.parts.head) nb.parts.head)) (list_any (reads_cond x) (map (substituted_cond q nc.parts.head) nb.parts.conds.items ++ nc.parts.conds.items)) a) [
              | inl b ↦ at-end u v z (inl (put-head nb m.in_b b))
              | inr b ↦ elim (any-append (reads_cond x) (map (substituted_cond q nc.parts.head) nb.parts.conds.items) nc.parts.conds.items b) [
                | inl d ↦ at-end u v z (inl (put-conds nb m.in_b d))
                | inr d ↦ at-end u v z (inr (read-c x (or_right (list_any (reads x) nc.parts.head) (list_any (reads_cond x) nc.parts.conds.items) d)))
              ]
            ]
            | inr a ↦ (
                let r = any-in (λ (r : OwnedQuant). under r.over x) quants-m a in
                elim (in-quants-m r.0 r.1.0) [
                  | inl i ↦ elim (hu r.0.over x r.1.1) [
                    | inl d ↦ inl (select-loose nb m.in_b m.select_b x (whole u z d.1) (or_right (read_by nb x) (under_any nb.quants (loose bs) x) (any-from (λ (r : OwnedQuant). loose bs r.over x) r.0 nb.quants i.0 d.0)), d.1)
                    | inr d ↦ from-c u v d.1
                  ]
                  | inr i ↦ elim (hu r.0.over x r.1.1) [
                    | inl d ↦ from-c u v (or_right (read_by nc x) (under_any nc.quants (loose bs) x) (any-from (λ (r : OwnedQuant). loose bs r.over x) r.0 nc.quants i d.0))
                    | inr d ↦ absurd (clash (loose bs r.0.over q) d.0 (child-not-q r.0 i))
                  ]
                ])
          ]

          after-us : binds_row x us ≡ false → ((done : List OwnedQuant) × ((r : OwnedQuant) × ((rest : List OwnedQuant) × ((nc.quants ≡ done ++ r ∷ rest) × ((is_F r.kind ≡ true) × ((binds_row x done ≡ false) × (quant_looks box-m under r.id x ≡ true))))))) ⊎ ((binds_row x nc.quants ≡ false) × (loose_each vs box-m under x ≡ true)) → Within nb.id x
          after-us u k = elim k [
            | inl c ↦ (
                let r = c.1.0 in
                let i : In r nc.quants = subst (λ z. In r z) (sym c.1.1.1.0) (in-right r c.0 (r ∷ c.1.1.0) (inl refl)) in
                elim (hu r.over x (subst (λ o. looks_found o under x ≡ true) (first-c r i) c.1.1.1.1.1.1)) [
                  | inl a ↦ at-c u (turn-of nc m.in_c m.select_c c.0 r c.1.1.0 x c.1.1.1.0 c.1.1.1.1.0 c.1.1.1.1.1.0 a.0)
                  | inr a ↦ absurd (clash (loose bs r.over q) a.0 (child-not-q r i))
                ])
            | inr d ↦ elim (each-cases box-m under x vs [] (subst (λ z. loose_each z box-m under x ≡ true) (sym (append-none vs)) d.1)) [
              | inr e ↦ after-vs u d.0 e.0 e.1
              | inl c ↦ (
                  let r = c.1.0 in
                  let i : In r vs = subst (λ z. In r z) (sym c.1.1.1.0) (in-right r c.0 (r ∷ c.1.1.0) (inl refl)) in
                  elim (looks-b r (in-later r i) (apart us vs rq r m.split (inr i)) c.1.1.1.1.1.1) [
                    | inr a ↦ from-c u d.0 a.1
                    | inl a ↦ inl (
                      turn (us ++ rq ∷ c.0) r c.1.1.0 x (m.split ∙ ap (λ z. us ++ rq ∷ z) c.1.1.1.0 ∙ sym (append-in us (rq ∷ c.0) (r ∷ c.1.1.0))) c.1.1.1.1.0
                          (any-both (λ r. is_F r.kind && is_quant x r) us (rq ∷ c.0) u (or_from (is_F rq.kind && is_quant x rq) (binds_row x c.0) (none-and (is_F rq.kind) (eq-false-sym x q a.1)) c.1.1.1.1.1.0)) a.0,
                      a.1,
                    )
                  ])
            ]
          ]

  pub within-h : (i x : ℕ) → loose h i x ≡ true → Within i x
  within-h i x l = loose-within Within h (λ n j under hu x k. elim (in-h n j) [
    | inl s ↦ subst (λ (z : Node). Within z.id x) s (merged-within x under hu (subst (λ z. loose_by z box-m under x ≡ true) m.select_b (subst (λ (z : Node). loose_of z under x ≡ true) (sym s) k)))
    | inr y ↦ subst (λ (z : Node). Within z.id x) y.1.1.1.1 (other-within x under hu y.0 y.1.0 y.1.1.0 y.1.1.1.0 (subst (λ (z : Node). loose_of z under x ≡ true) (sym y.1.1.1.1) k))
  ]) i x l

  pub used-h : (i x : ℕ) → loose h i x ≡ true → times i (overs_in h) ≡ 1
  used-h i x l =
      let held = has-in i h (loose-held h i x l) in
      let n : (i == nc.id) ≡ false = subst (λ z. (z == nc.id) ≡ false) held.1.1 (not-there held.0 held.1.0) in
      used-by i n ∙ elim (within-h i x l) [ inl a ↦ w.used i x a.0 | inr a ↦ w.used i q a.0 ]
    where
      not-there : (n : Node) → In n h → (n.id == nc.id) ≡ false
      not-there n j = elim (in-h n j) [
        | inl s ↦ subst (λ (z : Node). (z.id == nc.id) ≡ false) s b-id
        | inr y ↦ subst (λ (z : Node). (z.id == nc.id) ≡ false) y.1.1.1.1 y.1.1.1.0
      ]

  pub settled-h : (n : Node) → In n h → (x : ℕ) → owns x n ≡ true → loose h n.id x ≡ false
  settled-h n i x o = elim (cases_Bool (loose h n.id x)) [
    | inr f ↦ f
    | inl l ↦ elim (in-h n i) [
      | inl s ↦ absurd (at-b (subst (λ (z : Node). owns x z ≡ true) (sym s) o) (within-h nb.id x (subst (λ (z : Node). loose h z.id x ≡ true) (sym s) l)))
      | inr y ↦ elim (within-h y.0.id x (subst (λ (z : Node). loose h z.id x ≡ true) (sym y.1.1.1.1) l)) [
        | inl a ↦ absurd (clash (loose bs y.0.id x) a.0 (w.settled y.0 y.1.0 x (own y.0 y.1.1.1.1)))
        | inr a ↦ absurd (clash (touches nc (loose bs) x) a.1 (apart-cells y.0 y.1.0 y.1.1.0 y.1.1.1.0 a.0 x (own y.0 y.1.1.1.1)))
      ]
    ]
  ]
    where
      own : (y : Node) → put_node q nc.parts.head y ≡ n → owns x y ≡ true
      own y e = subst (λ (z : Node). owns x z ≡ true) (sym e) o

      at-b : list_any (is_quant x) quants-m ≡ true → Within nb.id x → ⊥
      at-b k z = elim z [
        | inr a ↦ not-b q own-q a.0
        | inl a ↦ (
            let r = any-in (is_quant x) quants-m k in
            elim (in-quants-m r.0 r.1.0) [
              | inl c ↦ not-b x (any-from (is_quant x) r.0 nb.quants c.0 r.1.1) a.0
              | inr c ↦ b-not-c's x (any-from (is_quant x) r.0 nc.quants c r.1.1) (inr a.0)
            ])
      ]
