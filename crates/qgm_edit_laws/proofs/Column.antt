-- A column that no box reads may go.
use Rattle.std.proofs.Common.{ℕ, zero, suc, ◌==◌, ◌≡◌, ◌&&◌, ◌||◌, ◌+◌, ◌-◌, ◌≤◌, ◌<◌, nat_lt, cond, Bool, true, false, List, [], ◌∷◌, ◌++◌, map, filter, length, Some, refl, sym, ap, ap₂, subst, ◌∙◌, eqb-true, ◌⊎◌, inl, inr, arith}
use Rattle.std.specs.List.{list_any, flat_map, remove}
use Rattle.std.proofs.lemmas.Bool.{and_from, and_parts, cases_Bool, eq-eqb, ltb-false, ltb-true, or_cases, or_left, or_right}
use Rattle.qgm_core.specs.declared.kinds.BoxKind.{BoxKind}
use Rattle.qgm_core.specs.declared.kinds.BoxKind.TheVariants.{Base, Select, Group, SetOp, OuterJoin}
use Rattle.qgm_core.specs.declared.node.Node.{Node}
use Rattle.qgm_core.specs.declared.owned.OwnedQuant.{OwnedQuant}
use Rattle.qgm_core.specs.Boxes.{QueryGraph, ids_in, ids_of, is_box, is_quant, overs_in, overs_of, owns, width}
use Rattle.qgm_core.specs.Edits.{drop_column, ids_over, quants_over, shift_boxes, shift_node, shifted_over, without_cell}
use Rattle.qgm_core.specs.Kinds.{width_by}
use Rattle.list_laws.specs.Lists.{In, change, each, first, times}
use Rattle.qgm_meaning.specs.Scope.{loose, read_by}
use Rattle.qgm_meaning.specs.Searches.{names, names_cond, reads_at_arms}
use Rattle.qgm_terms.specs.Shift.{shifted, shifted_arms, shifted_cond, shifted_place}
use Rattle.qgm_terms.specs.Terms.{Term, int, text, null_int, null_text, col, both, minus_of, choose, count_all, fold, scalar, Arms, no_arm, arm, Cond, always, compare, is_null, and, or, not, some, every}
use Rattle.qgm_terms.specs.Wanted.{reads, reads_at, reads_at_cond, reads_cond, wanted}
use Rattle.qgm_terms.specs.declared.sought.Sought.TheVariants.{NodeOf, Row}
use Rattle.qgm_edit_laws.specs.Adds.{at}
use Rattle.qgm_edit_laws.specs.Changes.{Changes, LosesColumn, is_set_op}
use Rattle.qgm_edit_laws.specs.Checked.{own_seen}
use Rattle.qgm_edit_laws.specs.Graph.{ArmsBy, BareBy, Sound, binds_row, nodes_in, reads_in}
use Rattle.qgm_edit_laws.specs.Scoped.{Scoped, shows_by}
use Rattle.qgm_edit_laws.proofs.Changes.{changed-sound, own-same}
use Rattle.qgm_edit_laws.proofs.Edits.{length-map, map-append, once-each, times-same}
use Rattle.qgm_edit_laws.proofs.Naming.{any-remove, conds-shift, heads-shift}
use Rattle.qgm_edit_laws.proofs.OneBox.{change-at, ranked}
use Rattle.qgm_edit_laws.proofs.Ranks.{same-box}
use Rattle.qgm_edit_laws.proofs.Scope.{one-owner}
use Rattle.qgm_edit_laws.proofs.Scoped.{few-ids, scoped-of}
use Rattle.qgm_edit_laws.proofs.Turns.{first-own}
use Rattle.std.specs.Prelude as prelude
use Rattle.list_laws.proofs.Counting.{in-times, times-map}
use Rattle.list_laws.proofs.Membership.{any-from, eq-false-sym, eq-itself, in-append, in-left, in-right}
use Rattle.list_laws.proofs.Booleans.{clash}

-- ---- a column that is read after was read at the place that it had

module _ (p k q j : ℕ) where
  abbrev Was : (ℕ → Bool) → Type 0
  Was read = (i : ℕ) × ((read i ≡ true) × (shifted_place p k q i ≡ j))

  either : (a b : Bool) (r s : ℕ → Bool) → (a ≡ true → Was r) → (b ≡ true → Was s) → (a || b) ≡ true → Was (λ i. r i || s i)
  either a b r s f g t = elim (or_cases a b t) [
    | inl x ↦ (let y = f x in (y.0, (or_left (r y.0) (s y.0) y.1.0, y.1.1)))
    | inr x ↦ (let y = g x in (y.0, (or_right (r y.0) (s y.0) y.1.0, y.1.1)))
  ]

  within : (b a : Bool) (r : ℕ → Bool) → (a ≡ true → Was r) → (b && a) ≡ true → Was (λ i. b && r i)
  within b a r f t = let x = and_parts b a t in let y = f x.1 in (y.0, (and_from b (r y.0) x.0 y.1.0, y.1.1))

  mutual
    term-was : (x : Term) → reads_at q j (shifted p k x) ≡ true → Was (λ i. reads_at q i x)
    term-was (int n) t = absurd (let z : ⊥ = cc in z)
    term-was (text s) t = absurd (let z : ⊥ = cc in z)
    term-was null_int t = absurd (let z : ⊥ = cc in z)
    term-was null_text t = absurd (let z : ⊥ = cc in z)
    term-was (col r i) t = let x = and_parts (r == q) (shifted_place p k r i == j) t in (i, (and_from (r == q) (i == i) x.0 (eq-itself i), subst (λ z. shifted_place p k z i ≡ j) (eqb-true r q x.0) (eqb-true (shifted_place p k r i) j x.1)))
    term-was (both o x y) t = either (reads_at q j (shifted p k x)) (reads_at q j (shifted p k y)) (λ i. reads_at q i x) (λ i. reads_at q i y) (term-was x) (term-was y) t
    term-was (minus_of x) t = term-was x t
    term-was (choose s x) t = either (reads_at_arms q j (shifted_arms p k s)) (reads_at q j (shifted p k x)) (λ i. reads_at_arms q i s) (λ i. reads_at q i x) (arms-was s) (term-was x) t
    term-was count_all t = absurd (let z : ⊥ = cc in z)
    term-was (fold f u x) t = term-was x t
    term-was (scalar r) t = absurd (let z : ⊥ = cc in z)

    arms-was : (s : Arms) → reads_at_arms q j (shifted_arms p k s) ≡ true → Was (λ i. reads_at_arms q i s)
    arms-was no_arm t = absurd (let z : ⊥ = cc in z)
    arms-was (arm c x s) t = either (reads_at_cond q j (shifted_cond p k c)) (reads_at q j (shifted p k x) || reads_at_arms q j (shifted_arms p k s)) (λ i. reads_at_cond q i c) (λ i. reads_at q i x || reads_at_arms q i s) (cond-was c)
        (either (reads_at q j (shifted p k x)) (reads_at_arms q j (shifted_arms p k s)) (λ i. reads_at q i x) (λ i. reads_at_arms q i s) (term-was x) (arms-was s)) t

    cond-was : (c : Cond) → reads_at_cond q j (shifted_cond p k c) ≡ true → Was (λ i. reads_at_cond q i c)
    cond-was always t = absurd (let z : ⊥ = cc in z)
    cond-was (compare sign x y) t = either (reads_at q j (shifted p k x)) (reads_at q j (shifted p k y)) (λ i. reads_at q i x) (λ i. reads_at q i y) (term-was x) (term-was y) t
    cond-was (is_null x) t = term-was x t
    cond-was (and c d) t = either (reads_at_cond q j (shifted_cond p k c)) (reads_at_cond q j (shifted_cond p k d)) (λ i. reads_at_cond q i c) (λ i. reads_at_cond q i d) (cond-was c) (cond-was d) t
    cond-was (or c d) t = either (reads_at_cond q j (shifted_cond p k c)) (reads_at_cond q j (shifted_cond p k d)) (λ i. reads_at_cond q i c) (λ i. reads_at_cond q i d) (cond-was c) (cond-was d) t
    cond-was (not c) t = cond-was c t
    cond-was (some r c) t = within (prelude.not (r == q)) (reads_at_cond q j (shifted_cond p k c)) (λ i. reads_at_cond q i c) (cond-was c) t
    cond-was (every r c) t = within (prelude.not (r == q)) (reads_at_cond q j (shifted_cond p k c)) (λ i. reads_at_cond q i c) (cond-was c) t

  heads-was : (xs : List Term) → list_any (reads_at q j) (map (shifted p k) xs) ≡ true → Was (λ i. list_any (reads_at q i) xs)
  heads-was [] t = absurd (let z : ⊥ = cc in z)
  heads-was (x ∷ xs) t = either (reads_at q j (shifted p k x)) (list_any (reads_at q j) (map (shifted p k) xs)) (λ i. reads_at q i x) (λ i. list_any (reads_at q i) xs) (term-was x) (heads-was xs) t

  conds-was : (xs : List Cond) → list_any (reads_at_cond q j) (map (shifted_cond p k) xs) ≡ true → Was (λ i. list_any (reads_at_cond q i) xs)
  conds-was [] t = absurd (let z : ⊥ = cc in z)
  conds-was (x ∷ xs) t = either (reads_at_cond q j (shifted_cond p k x)) (list_any (reads_at_cond q j) (map (shifted_cond p k) xs)) (λ i. reads_at_cond q i x) (λ i. list_any (reads_at_cond q i) xs) (cond-was x) (conds-was xs) t

  node-was : (n : Node) → reads_in q j (shift_node k p n) ≡ true → Was (λ i. reads_in q i n)
  node-was n t = either (list_any (reads_at q j) (map (shifted p k) n.parts.head)) (list_any (reads_at_cond q j) (map (shifted_cond p k) n.parts.conds.items)) (λ i. list_any (reads_at q i) n.parts.head) (λ i. list_any (reads_at_cond q i) n.parts.conds.items) (heads-was n.parts.head) (conds-was n.parts.conds.items) t

-- ---- all quantifiers over the box

abbrev pub shift_each : ℕ → List ℕ → Node → Node
shift_each k qs n = each (shift_node k) qs n

abbrev pub place_each : ℕ → List ℕ → ℕ → ℕ → ℕ
place_each k [] q i = i
place_each k (p ∷ qs) q i = place_each k qs q (shifted_place p k q i)

module _ (k : ℕ) where
  each-is : (qs : List ℕ) (bs : List Node) → each (shift_boxes k) qs bs ≡ map (shift_each k qs) bs
  each-is [] bs = same bs
    where
      same : (bs : List Node) → bs ≡ map (λ n. n) bs
      same [] = refl
      same (b ∷ bs) = ap (λ z. b ∷ z) (same bs)
  each-is (q ∷ qs) bs = each-is qs (shift_boxes k q bs) ∙ fuse bs
    where
      fuse : (bs : List Node) → map (shift_each k qs) (map (shift_node k q) bs) ≡ map (shift_each k (q ∷ qs)) bs
      fuse [] = refl
      fuse (b ∷ bs) = ap (λ z. shift_each k (q ∷ qs) b ∷ z) (fuse bs)

  each-id : (qs : List ℕ) (n : Node) → (shift_each k qs n).id ≡ n.id
  each-id [] n = refl
  each-id (q ∷ qs) n = each-id qs (shift_node k q n)

  each-quants : (qs : List ℕ) (n : Node) → (shift_each k qs n).quants ≡ n.quants
  each-quants [] n = refl
  each-quants (q ∷ qs) n = each-quants qs (shift_node k q n)

  each-kind : (qs : List ℕ) (n : Node) → (shift_each k qs n).parts.kind ≡ n.parts.kind
  each-kind [] n = refl
  each-kind (q ∷ qs) n = each-kind qs (shift_node k q n)

  each-length : (qs : List ℕ) (n : Node) → length (shift_each k qs n).parts.head ≡ length n.parts.head
  each-length [] n = refl
  each-length (q ∷ qs) n = each-length qs (shift_node k q n) ∙ length-map (shifted q k) n.parts.head

  each-reads : (qs : List ℕ) (n : Node) (q : ℕ) → read_by (shift_each k qs n) q ≡ read_by n q
  each-reads [] n q = refl
  each-reads (p ∷ qs) n q = each-reads qs (shift_node k p n) q ∙ ap₂ (λ a b. a || b) (heads-shift p k (wanted (Row q)) (λ r i j. refl) n.parts.head) (conds-shift p k (wanted (Row q)) (λ r i j. refl) n.parts.conds.items)

  each-nodes : (qs : List ℕ) (n : Node) (q : ℕ) → nodes_in q (shift_each k qs n) ≡ nodes_in q n
  each-nodes [] n q = refl
  each-nodes (p ∷ qs) n q = each-nodes qs (shift_node k p n) q ∙ ap₂ (λ a b. a || b) (heads-shift p k (wanted (NodeOf q)) (λ r i j. refl) n.parts.head) (conds-shift p k (wanted (NodeOf q)) (λ r i j. refl) n.parts.conds.items)

  each-was : (qs : List ℕ) (n : Node) (q j : ℕ) → reads_in q j (shift_each k qs n) ≡ true → (i : ℕ) × ((reads_in q i n ≡ true) × (place_each k qs q i ≡ j))
  each-was [] n q j t = (j, (t, refl))
  each-was (p ∷ qs) n q j t =
      let x = each-was qs (shift_node k p n) q j t in
      let y = node-was p k q x.0 n x.1.0 in
      (y.0, (y.1.0, ap (place_each k qs q) y.1.1 ∙ x.1.1))

  each-bare : (kind : BoxKind) (qs : List ℕ) (n : Node) → BareBy kind n → BareBy kind (shift_each k qs n)
  each-bare kind [] n b = b
  each-bare kind (q ∷ qs) n b = each-bare kind qs (shift_node k q n) (one kind b)
    where
      one : (kind : BoxKind) → BareBy kind n → BareBy kind (shift_node k q n)
      one (Base t) b = (b.0, ap (map (shifted q k)) b.1, ap (map (shifted_cond q k)) b.2)
      one Select b = tt
      one (Group m) b = tt
      one (SetOp form v) b = (ap (map (shifted q k)) b.0, ap (map (shifted_cond q k)) b.1)
      one OuterJoin b = tt

  -- a quantifier that isn't among these keeps its places
  pub place-stays : (qs : List ℕ) (q i : ℕ) → times q qs ≡ 0 → place_each k qs q i ≡ i
  place-stays [] q i h = refl
  place-stays (p ∷ qs) q i h = elim (cases_Bool (p == q)) [
    | inl t ↦ absurd (let a : ◌≡◌ {A = ℕ} (cond (p == q) 1 0) 1 = ap (λ (b : Bool). cond {A = ℕ} b 1 0) t in omega arith)
    | inr f ↦ (
        let a : ◌≡◌ {A = ℕ} (cond (p == q) 1 0) 0 = ap (λ (b : Bool). cond {A = ℕ} b 1 0) f in
        ap (λ (b : Bool). place_each k qs q (cond (b && nat_lt k i) (i - 1) i)) (eq-false-sym p q f) ∙ place-stays qs q i (omega arith))
  ]

  pub place-goes : (qs : List ℕ) (q i : ℕ) → times q qs ≡ 1 → place_each k qs q i ≡ cond (nat_lt k i) (i - 1) i
  place-goes [] q i h = absurd (omega arith)
  place-goes (p ∷ qs) q i h = elim (cases_Bool (p == q)) [
    | inl t ↦ (
        let a : ◌≡◌ {A = ℕ} (cond (p == q) 1 0) 1 = ap (λ (b : Bool). cond {A = ℕ} b 1 0) t in
        let e : (q == p) ≡ true = eq-eqb q p (sym (eqb-true p q t)) in
        place-stays qs q (shifted_place p k q i) (omega arith) ∙ ap (λ (b : Bool). cond (b && nat_lt k i) (i - 1) i) e)
    | inr f ↦ (
        let a : ◌≡◌ {A = ℕ} (cond (p == q) 1 0) 0 = ap (λ (b : Bool). cond {A = ℕ} b 1 0) f in
        ap (λ (b : Bool). place_each k qs q (cond (b && nat_lt k i) (i - 1) i)) (eq-false-sym p q f) ∙ place-goes qs q i (omega arith))
  ]

-- ---- who ranges over the box

abbrev all_quants : List Node → List OwnedQuant
all_quants bs = flat_map (λ n. n.quants) bs

ids-all : (bs : List Node) → map (λ (r : OwnedQuant). r.id) (all_quants bs) ≡ ids_in bs
ids-all [] = refl
ids-all (n ∷ bs) = map-append (λ (r : OwnedQuant). r.id) n.quants (all_quants bs) ∙ ap (λ z. ids_of n ++ z) (ids-all bs)

in-all : (n : Node) (r : OwnedQuant) (bs : List Node) → In n bs → In r n.quants → In r (all_quants bs)
in-all n r [] i j = elim i [ ]
in-all n r (m ∷ bs) i j = elim i [
  | inl e ↦ in-left r m.quants (all_quants bs) (subst (λ (z : Node). In r z.quants) (sym e) j)
  | inr k ↦ in-right r m.quants (all_quants bs) (in-all n r bs k j)
]

few-filtered : (q : ℕ) (p : OwnedQuant → Bool) (rs : List OwnedQuant) → times q (map (λ (r : OwnedQuant). r.id) (filter p rs)) ≤ times q (map (λ (r : OwnedQuant). r.id) rs)
few-filtered q p [] = omega arith
few-filtered q p (r ∷ rs) = let h = few-filtered q p rs in elim (p r) as (λ t. times q (map (λ (r : OwnedQuant). r.id) (cond t (r ∷ filter p rs) (filter p rs))) ≤ times q (map (λ (r : OwnedQuant). r.id) (r ∷ rs))) [ true ↦ (omega arith) | false ↦ (omega arith) ]

in-filtered : (p : OwnedQuant → Bool) (rs : List OwnedQuant) (r : OwnedQuant) → In r rs → p r ≡ true → In r (filter p rs)
in-filtered p [] r i t = elim i [ ]
in-filtered p (x ∷ rs) r i t = elim (cases_Bool (p x)) [
  | inl u ↦ subst (λ (b : Bool). In r (cond b (x ∷ filter p rs) (filter p rs))) (sym u) (elim i [ inl e ↦ inl e | inr j ↦ inr (in-filtered p rs r j t) ])
  | inr u ↦ subst (λ (b : Bool). In r (cond b (x ∷ filter p rs) (filter p rs))) (sym u) (elim i [ inl e ↦ absurd (clash (p x) (subst (λ z. p z ≡ true) (sym e) t) u) | inr j ↦ in-filtered p rs r j t ])
]

filtered-in : (p : OwnedQuant → Bool) (rs : List OwnedQuant) (r : OwnedQuant) → In r (filter p rs) → In r rs × (p r ≡ true)
filtered-in p [] r i = elim i [ ]
filtered-in p (x ∷ rs) r i = elim (cases_Bool (p x)) [
  | inl u ↦ elim (subst (λ (b : Bool). In r (cond b (x ∷ filter p rs) (filter p rs))) u i) [ inl e ↦ (inl e, subst (λ z. p z ≡ true) e u) | inr j ↦ (let y = filtered-in p rs r j in (inr y.0, y.1)) ]
  | inr u ↦ (let y = filtered-in p rs r (subst (λ (b : Bool). In r (cond b (x ∷ filter p rs) (filter p rs))) u i) in (inr y.0, y.1))
]

all-in : (bs : List Node) (r : OwnedQuant) → In r (all_quants bs) → (n : Node) × (In n bs × In r n.quants)
all-in [] r i = elim i [ ]
all-in (n ∷ bs) r i = elim (in-append r n.quants (all_quants bs) i) [ inl a ↦ (n, (inl refl, a)) | inr a ↦ (let x = all-in bs r a in (x.0, (inr x.1.0, x.1.1))) ]

filter-append : (p : OwnedQuant → Bool) (xs ys : List OwnedQuant) → filter p (xs ++ ys) ≡ filter p xs ++ filter p ys
filter-append p [] ys = refl
filter-append p (x ∷ xs) ys = elim (p x) as (λ t. cond t (x ∷ filter p (xs ++ ys)) (filter p (xs ++ ys)) ≡ cond t (x ∷ filter p xs) (filter p xs) ++ filter p ys) [ true ↦ ap (λ z. x ∷ z) (filter-append p xs ys) | false ↦ filter-append p xs ys ]

pub length-remove : (xs : List Term) (i : ℕ) → i < length xs → length (remove xs i) + 1 ≡ length xs
length-remove [] i h = absurd (omega arith)
length-remove (x ∷ xs) zero h = omega arith
length-remove (x ∷ xs) (suc i) h = let e = length-remove xs i (omega arith) in omega arith

module _ (bs : List Node) (root : ℕ) (w : Sound bs root) (b : Node) (k : ℕ) (m : LosesColumn bs b k) where
  -- the quantifiers over b
  abbrev pub qs : List ℕ
  qs = map (λ (r : OwnedQuant). r.id) (filter (λ r. r.over == b.id) (all_quants bs))

  abbrev pub cut : Node → Node
  cut = at b.id (without_cell (k - 1))

  abbrev pub g : Node → Node
  g y = shift_each k qs (cut y)

  pub cut-id : (y : Node) → (cut y).id ≡ y.id
  cut-id y = elim (y.id == b.id) as (λ t. ◌≡◌ {A = ℕ} (cond t (without_cell (k - 1) y) y).id y.id) [ true ↦ refl | false ↦ refl ]

  pub cut-quants : (y : Node) → (cut y).quants ≡ y.quants
  cut-quants y = elim (y.id == b.id) as (λ t. ◌≡◌ {A = List OwnedQuant} (cond t (without_cell (k - 1) y) y).quants y.quants) [ true ↦ refl | false ↦ refl ]

  pub cut-kind : (y : Node) → (cut y).parts.kind ≡ y.parts.kind
  cut-kind y = elim (y.id == b.id) as (λ t. ◌≡◌ {A = BoxKind} (cond t (without_cell (k - 1) y) y).parts.kind y.parts.kind) [ true ↦ refl | false ↦ refl ]

  pub g-id : (y : Node) → (g y).id ≡ y.id
  g-id y = each-id k qs (cut y) ∙ cut-id y

  pub g-quants : (y : Node) → (g y).quants ≡ y.quants
  g-quants y = each-quants k qs (cut y) ∙ cut-quants y

  pub g-kind : (y : Node) → (g y).parts.kind ≡ y.parts.kind
  g-kind y = each-kind k qs (cut y) ∙ cut-kind y

  -- what is found with a cell less is found
  pub less-read : (p : Term → Bool) (c : Cond → Bool) (y : Node) → (list_any p (cut y).parts.head || list_any c (cut y).parts.conds.items) ≡ true → (list_any p y.parts.head || list_any c y.parts.conds.items) ≡ true
  less-read p c y t = elim (y.id == b.id) as (λ z. (list_any p (cond z (without_cell (k - 1) y) y).parts.head || list_any c (cond z (without_cell (k - 1) y) y).parts.conds.items) ≡ true → (list_any p y.parts.head || list_any c y.parts.conds.items) ≡ true) [
    | true ↦ λ t. elim (or_cases (list_any p (remove y.parts.head (k - 1))) (list_any c y.parts.conds.items) t) [ inl a ↦ or_left (list_any p y.parts.head) (list_any c y.parts.conds.items) (any-remove p (k - 1) y.parts.head a) | inr a ↦ or_right (list_any p y.parts.head) (list_any c y.parts.conds.items) a ]
    | false ↦ λ t. t
  ] t

  g-reads : (y : Node) (q : ℕ) → read_by (g y) q ≡ true → read_by y q ≡ true
  g-reads y q t = less-read (reads q) (reads_cond q) y (sym (each-reads k qs (cut y) q) ∙ t)

  g-nodes : (y : Node) (q : ℕ) → nodes_in q (g y) ≡ true → nodes_in q y ≡ true
  g-nodes y q t = less-read (names q) (names_cond q) y (sym (each-nodes k qs (cut y) q) ∙ t)

  g-was : (y : Node) (q j : ℕ) → reads_in q j (g y) ≡ true → (i : ℕ) × ((reads_in q i y ≡ true) × (place_each k qs q i ≡ j))
  g-was y q j t = let x = each-was k qs (cut y) q j t in (x.0, (less-read (reads_at q x.0) (reads_at_cond q x.0) y x.1.0, x.1.1))

  pub width-is : (y : Node) → width (g y) ≡ width (cut y)
  width-is y = ap₂ (λ (n : BoxKind) (l : ℕ). width_by n l) (each-kind k qs (cut y)) (each-length k qs (cut y))

  pub width-other : (y : Node) → (y.id == b.id) ≡ false → width (g y) ≡ width y
  width-other y f = width-is y ∙ ap (λ (t : Bool). width (cond t (without_cell (k - 1) y) y)) f

  pub width-b : width (g b) + 1 ≡ width b
  width-b =
      let a : width (g b) ≡ width (without_cell (k - 1) b) = width-is b ∙ ap (λ (t : Bool). width (cond t (without_cell (k - 1) b) b)) (eq-itself b.id) in
      let c = m.from_one in let d = m.column in
      let e = length-remove b.parts.head (k - 1) (omega arith) in
      let f : width (without_cell (k - 1) b) ≡ length (remove b.parts.head (k - 1)) = by b.parts.kind (w.bare b m.within) in
      let h = m.wide in omega arith
    where
      empty : b.parts.head ≡ [] → ⊥
      empty e = let a : length b.parts.head ≡ 0 = ap length e in let c = m.from_one in let d = m.column in omega arith

      by : (n : BoxKind) → BareBy n b → width_by n (length (remove b.parts.head (k - 1))) ≡ length (remove b.parts.head (k - 1))
      by (Base t) x = absurd (empty x.1)
      by Select x = refl
      by (Group n) x = refl
      by (SetOp form v) x = absurd (empty x.0)
      by OuterJoin x = refl

  -- how often a quantifier stands among those over b
  pub over-b : (o : Node) (r : OwnedQuant) → In o bs → In r o.quants → r.over ≡ b.id → times r.id qs ≡ 1
  over-b o r i j e =
      let a = few-filtered r.id (λ r. r.over == b.id) (all_quants bs) in
      let c : times r.id (map (λ (r : OwnedQuant). r.id) (all_quants bs)) ≡ times r.id (ids_in bs) = ap (times r.id) (ids-all bs) in
      let d = w.once r.id in
      let f = in-times (λ (r : OwnedQuant). r.id) r (filter (λ r. r.over == b.id) (all_quants bs)) (in-filtered (λ r. r.over == b.id) (all_quants bs) r (in-all o r bs i j) (eq-eqb r.over b.id e)) in omega arith

  pub not-over : (o : Node) (r : OwnedQuant) → In o bs → In r o.quants → (r.over == b.id) ≡ false → times r.id qs ≡ 0
  not-over o r i j f = elim (zero-or (times r.id qs)) [
    | inl e ↦ e
    | inr h ↦ (
        let x = times-map (λ (r : OwnedQuant). r.id) r.id (filter (λ r. r.over == b.id) (all_quants bs)) h in
        let y = filtered-in (λ r. r.over == b.id) (all_quants bs) x.0 x.1.0 in
        let z = all-in bs x.0 y.0 in
        let own : owns r.id z.0 ≡ true = any-from (is_quant r.id) x.0 z.0.quants z.1.1 (eq-eqb x.0.id r.id x.1.1) in
        let same : z.0 ≡ o = one-owner bs root w r.id z.0 o z.1.0 i own (any-from (is_quant r.id) r o.quants j (eq-itself r.id)) in
        let few = few-ids bs o r.id (w.once r.id) i in
        let e1 = first-own r o.quants few j in
        let e2 = first-own x.0 o.quants (subst (λ z. times z (ids_of o) ≤ 1) (sym x.1.1) few) (subst (λ (u : Node). In x.0 u.quants) same z.1.1) in
        let e3 : Some x.0 ≡ Some r = sym e2 ∙ ap (λ z. first (is_quant z) o.quants) x.1.1 ∙ e1 in
        let e4 : x.0 ≡ r = cc in absurd (clash (r.over == b.id) (subst (λ (u : OwnedQuant). (u.over == b.id) ≡ true) e4 y.1) f))
  ]
    where
      zero-or : (n : ℕ) → (n ≡ 0) ⊎ (1 ≤ n)
      zero-or zero = inl refl
      zero-or (suc n) = inr (omega arith)

  ids-same : (p : ℕ) → times p (ids_in (map g bs)) ≡ times p (ids_in bs)
  ids-same p = times-same ids_of g p bs (λ y i. ap (map (λ (r : OwnedQuant). r.id)) (g-quants y))

  overs-same : (p : ℕ) → times p (overs_in (map g bs)) ≡ times p (overs_in bs)
  overs-same p = times-same overs_of g p bs (λ y i. ap (map (λ (r : OwnedQuant). r.over)) (g-quants y))

  bare-cut : (n : BoxKind) (y : Node) → BareBy n y → BareBy n (cut y)
  bare-cut n y x = elim (y.id == b.id) as (λ t. BareBy n (cond t (without_cell (k - 1) y) y)) [ true ↦ one n x | false ↦ x ]
    where
      one : (n : BoxKind) → BareBy n y → BareBy n (without_cell (k - 1) y)
      one (Base t) x = (x.0, ap (λ z. remove z (k - 1)) x.1 ∙ gone (k - 1), x.2)
        where
          gone : (i : ℕ) → remove {X = Term} [] i ≡ []
          gone zero = refl
          gone (suc i) = refl
      one Select x = tt
      one (Group n) x = tt
      one (SetOp form v) x = (ap (λ z. remove z (k - 1)) x.0 ∙ gone (k - 1), x.1)
        where
          gone : (i : ℕ) → remove {X = Term} [] i ≡ []
          gone zero = refl
          gone (suc i) = refl
      one OuterJoin x = tt

  changes : Changes bs root g
  changes = record {
    id = g-id;
    over = λ y r i j. ranked bs w.ordered y r i (subst (λ z. In r z) (g-quants y) j);
    once = λ q. (let a = ids-same q in let c = w.once q in omega arith);
    top = overs-same root ∙ w.top;
    fits = λ n i q j t. (
        let x = g-was n q j t in
        λ o z r io jr e iz v. (
        let jo : In r o.quants = subst (λ u. In r u) (g-quants o) jr in
        let old = w.fits n i q x.0 x.1.0 o r z io jo e iz v in
        elim (cases_Bool (r.over == b.id)) [
          | inr f ↦ (
              let stays : x.0 ≡ j = sym (place-stays k qs q x.0 (subst (λ u. times u qs ≡ 0) e (not-over o r io jo f))) ∙ x.1.1 in
              let wide = width-other z (subst (λ u. (u == b.id) ≡ false) (sym v) f) in ((omega arith), (omega arith)))
          | inl y ↦ (
              let over : r.over ≡ b.id = eqb-true r.over b.id y in
              let same : z ≡ b = same-box bs z b w.ordered iz m.within (v ∙ over) in
              let goes : cond (nat_lt k x.0) (x.0 - 1) x.0 ≡ j = sym (place-goes k qs q x.0 (subst (λ u. times u qs ≡ 1) e (over-b o r io jo over))) ∙ x.1.1 in
              let not-k : (x.0 == k) ≡ false = (elim (cases_Bool (x.0 == k)) [ inr f ↦ f | inl u ↦ absurd (clash (reads_in r.id k n) (subst (λ c. reads_in r.id c n ≡ true) (eqb-true x.0 k u) (subst (λ c. reads_in c x.0 n ≡ true) (sym e) x.1.0)) (m.unread n o r i io jo over)) ]) in
              let wz : width (g z) + 1 ≡ width z = subst (λ u. width (g u) + 1 ≡ width u) (sym same) width-b in
              let one = m.from_one in let col = m.column in let wb = m.wide in
              let wzb : width z ≡ width b = ap width same in
              elim (cases_Bool (nat_lt k x.0)) [
                | inl l ↦ (let less = ltb-true k x.0 l in let at : x.0 - 1 ≡ j = sym (ap (λ (c : Bool). cond c (x.0 - 1) x.0) l) ∙ goes in ((omega arith), (omega arith)))
                | inr l ↦ (
                    let less = ltb-false k x.0 l in let at : x.0 ≡ j = sym (ap (λ (c : Bool). cond c (x.0 - 1) x.0) l) ∙ goes in
                    let ne : x.0 ≡ k → ⊥ = (λ u. clash (x.0 == k) (eq-eqb x.0 k u) not-k) in
                    let lt = strict x.0 k ne less in ((omega arith), (omega arith)))
              ])
        ]));
    own_nodes = λ y i q t. (let h = w.own_nodes y i q (g-nodes y q t) in (ap (list_any (is_quant q)) (g-quants y) ∙ h.0, ap (binds_row q) (g-quants y) ∙ h.1));
    bare = λ y i. subst (λ n. BareBy n (g y)) (sym (g-kind y)) (each-bare k y.parts.kind qs (cut y) (bare-cut y.parts.kind y (w.bare y i)));
    arms = λ y z r i j iz v. subst (λ n. ArmsBy n (width (g z)) (width (g y))) (sym (g-kind y)) (arm y.parts.kind y z r i (subst (λ u. In r u) (g-quants y) j) iz v refl);
  }
    where
      strict : (i k : ℕ) → (i ≡ k → ⊥) → i ≤ k → i < k
      strict i k n l = elim (cases_Bool (nat_lt i k)) [ inl t ↦ ltb-true i k t | inr f ↦ (let a = ltb-false i k f in absurd (n (omega arith))) ]

      arm : (n : BoxKind) (y z : Node) (r : OwnedQuant) → In y bs → In r y.quants → In z bs → z.id ≡ r.over → y.parts.kind ≡ n → ArmsBy n (width (g z)) (width (g y))
      arm (Base t) y z r i j iz v e = tt
      arm Select y z r i j iz v e = tt
      arm (Group c) y z r i j iz v e = tt
      arm (SetOp form types) y z r i j iz v e =
          let f : (r.over == b.id) ≡ false = (elim (cases_Bool (r.over == b.id)) [ inr f ↦ f | inl t ↦ absurd (clash (is_set_op y.parts.kind) (ap is_set_op e) (m.no_arm y r i j (eqb-true r.over b.id t))) ]) in
          let old : width z ≡ width y = subst (λ c. ArmsBy c (width z) (width y)) e (w.arms y z r i j iz v) in
          let wy : width (g y) ≡ width y = width-is y ∙ ap (λ c. width_by c (length (cut y).parts.head)) (cut-kind y ∙ e) ∙ sym (ap (λ c. width_by c (length y.parts.head)) e) in
          width-other z (subst (λ u. (u == b.id) ≡ false) (sym v) f) ∙ old ∙ sym wy
      arm OuterJoin y z r i j iz v e = tt

  pub scoped-g : (y : Node) → In y bs → Scoped (loose bs) (g y)
  scoped-g y i = record {
    under = λ done r rest e q t.
        subst (λ n. (shows_by n (g y).quants done r q || loose bs (g y).id q) ≡ true) (sym (g-kind y))
        (subst (λ rs. (shows_by y.parts.kind rs done r q || loose bs (g y).id q) ≡ true) (sym (g-quants y))
        (subst (λ c. (shows_by y.parts.kind y.quants done r q || loose bs c q) ≡ true) (sym (g-id y)) ((scoped-of bs root w y i).under done r rest (sym (g-quants y) ∙ e) q t)));
    own = λ q t.
        subst (λ n. (own_seen n (g y) q || loose bs (g y).id q) ≡ true) (sym (g-kind y))
        (subst (λ z. (z || loose bs (g y).id q) ≡ true) (sym (own-same y.parts.kind (g y) y q (g-quants y)))
        (subst (λ c. (own_seen y.parts.kind y q || loose bs c q) ≡ true) (sym (g-id y)) ((scoped-of bs root w y i).own q (g-reads y q t))));
  }

  pub column-sound : Sound (map g bs) root
  column-sound = changed-sound bs root g w.ordered w.rooted changes (loose bs) scoped-g
      (λ y i q t. w.settled y i q (subst (λ rs. list_any (is_quant q) rs ≡ true) (g-quants y) t))
      (λ c q t. overs-same c ∙ w.used c q t)

  quants-cut : (ns : List Node) → quants_over b.id (map cut ns) ≡ map (λ (r : OwnedQuant). r.id) (filter (λ r. r.over == b.id) (all_quants ns))
  quants-cut [] = refl
  quants-cut (n ∷ ns) =
      ap₂ (λ (rs : List OwnedQuant) (z : List ℕ). ids_over b.id rs ++ z) (cut-quants n) (quants-cut ns)
      ∙ sym (map-append (λ (r : OwnedQuant). r.id) (filter (λ r. r.over == b.id) n.quants) (filter (λ r. r.over == b.id) (all_quants ns))) ∙ ap (map (λ (r : OwnedQuant). r.id)) (sym (filter-append (λ r. r.over == b.id) n.quants (all_quants ns)))

  pub column-boxes : shifted_over b.id k (change (is_box b.id) (without_cell (k - 1)) bs) ≡ map g bs
  column-boxes =
      ap (shifted_over b.id k) (change-at b.id (without_cell (k - 1)) bs (once-each bs w.ordered)) ∙ ap (λ z. each (shift_boxes k) z (map cut bs)) (quants-cut bs) ∙ (each-is k qs (map cut bs) ∙ fuse bs)
    where
      fuse : (ns : List Node) → map (shift_each k qs) (map cut ns) ≡ map g ns
      fuse [] = refl
      fuse (n ∷ ns) = ap (λ z. g n ∷ z) (fuse ns)

  -- by the edit's equation
  pub dropped-column : (h : QueryGraph) → h.boxes ≡ bs → Sound (drop_column b.id k h).boxes root
  dropped-column h e = subst (λ z. Sound (shifted_over b.id k (change (is_box b.id) (without_cell (k - 1)) z)) root) (sym e) (subst (λ z. Sound z root) (sym column-boxes) column-sound)
