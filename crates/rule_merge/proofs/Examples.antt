-- A small graph is sound.
use Rattle.std.proofs.Common.{ℕ, ◌==◌, ◌≡◌, ◌&&◌, ◌||◌, ◌+◌, ◌≤◌, cond, Bool, true, false, List, refl, subst, eqb-true, inl, inr, arith}
use Rattle.std.proofs.lemmas.Bool.{cases_Bool}
use Rattle.qgm_core.specs.Boxes.{owns, width}
use Rattle.list_laws.specs.Lists.{In}
use Rattle.qgm_core.specs.declared.node.Node.{Node}
use Rattle.qgm_meaning.specs.Scope.{loose}
use Rattle.rule_merge.specs.Examples.{Dropped, lowest, middle, stacked, top_box}
use Rattle.qgm_edit_laws.specs.Graph.{ArmsBy, BareBy, Fits, Sound, binds_row, nodes_in, reads_in}
use Rattle.list_laws.proofs.Booleans.{clash}

abbrev bs : List Node
bs = stacked.boxes

-- of each box
each-box : (P : Node → Type 0) → P top_box → P middle → P lowest → (n : Node) → In n bs → P n
each-box P a b c n i = elim i [
  | inl e ↦ subst P e a
  | inr j ↦ elim j [
    | inl e ↦ subst P e b
    | inr k ↦ elim k [ inl e ↦ subst P e c | inr z ↦ elim z [ ] ]
  ]
]

-- nothing is looked up
top-closed : (q : ℕ) → loose bs 1 q ≡ false
top-closed q = elim (cases_Bool (1 == q)) [
  | inl t ↦ elim (cases_Bool (2 == q)) [ inl u ↦ rw (t, u) refl | inr v ↦ rw (t, v) refl ]
  | inr s ↦ elim (cases_Bool (2 == q)) [ inl u ↦ rw (s, u) refl | inr v ↦ rw (s, v) refl ]
]

middle-closed : (q : ℕ) → loose bs 2 q ≡ false
middle-closed q = elim (cases_Bool (2 == q)) [ inl u ↦ rw u refl | inr v ↦ rw v refl ]

closed : (b q : ℕ) → loose bs b q ≡ false
closed b q = elim (cases_Bool (1 == b)) [
  | inl t ↦ subst (λ z. loose bs z q ≡ false) (eqb-true 1 b t) (top-closed q)
  | inr s ↦ elim (cases_Bool (2 == b)) [
    | inl t ↦ subst (λ z. loose bs z q ≡ false) (eqb-true 2 b t) (middle-closed q)
    | inr u ↦ elim (cases_Bool (3 == b)) [ inl t ↦ rw (s, u, t) refl | inr v ↦ rw (s, u, v) refl ]
  ]
]

-- quantifiers of two numbers
once : (q : ℕ) → cond (1 == q) 1 0 + (cond (2 == q) 1 0 + 0) ≤ 1
once q = elim (cases_Bool (1 == q)) [
  | inl t ↦ elim (cases_Bool (2 == q)) [
    | inl u ↦ absurd (let a = eqb-true 1 q t in let b = eqb-true 2 q u in omega arith)
    | inr v ↦ rw (t, v) (omega arith)
  ]
  | inr s ↦ elim (cases_Bool (2 == q)) [ inl u ↦ rw (s, u) (omega arith) | inr v ↦ rw (s, v) (omega arith) ]
]

-- columns 1 and 2 of any box are there
at-two : (q k : ℕ) → (1 ≤ k) × (k ≤ 2) → Fits bs q k
at-two q k h n r m i j e u v = each-box (λ m. (1 ≤ k) × (k ≤ width m)) h h h m u

neither : (a b c : Bool) → b ≡ false → c ≡ false → (((a && b) || ((a && c) || false)) || false) ≡ true → ⊥
neither true true c p q h = let z : ⊥ = cc in z
neither true false true p q h = let z : ⊥ = cc in z
neither true false false p q h = let z : ⊥ = cc in z
neither false b c p q h = let z : ⊥ = cc in z

-- of two columns that are read
one-or-two : (a : Bool) (i j k : ℕ) → (1 ≤ i) × (i ≤ 2) → (1 ≤ j) × (j ≤ 2) → (((a && (i == k)) || ((a && (j == k)) || false)) || false) ≡ true → (1 ≤ k) × (k ≤ 2)
one-or-two a i j k x y h = elim (cases_Bool (i == k)) [
  | inl t ↦ subst (λ z. (1 ≤ z) × (z ≤ 2)) (eqb-true i k t) x
  | inr s ↦ elim (cases_Bool (j == k)) [
    | inl t ↦ subst (λ z. (1 ≤ z) × (z ≤ 2)) (eqb-true j k t) y
    | inr u ↦ absurd (neither a (i == k) (j == k) s u h)
  ]
]

first : (1 ≤ 1) × (1 ≤ 2)
first = (omega arith, omega arith)

second : (1 ≤ 2) × (2 ≤ 2)
second = (omega arith, omega arith)

stacked-sound : Sound bs 1
stacked-sound = record {
  ordered = (refl, refl, (refl, refl, (refl, refl, tt)));
  rooted = refl;
  once = once;
  settled = λ n i q o. closed n.id q;
  used = λ b q l. absurd (clash (loose bs b q) l (closed b q));
  top = refl;
  fits = each-box (λ n. (q k : ℕ) → reads_in q k n ≡ true → Fits bs q k) (λ q k h. at-two q k (one-or-two (1 == q) 2 1 k second first h)) (λ q k h. at-two q k (one-or-two (2 == q) 1 2 k first second h)) (λ q k h. absurd (let z : ⊥ = cc in z));
  own_nodes = each-box (λ n. (q : ℕ) → nodes_in q n ≡ true → (owns q n ≡ true) × (binds_row q n.quants ≡ false)) (λ q h. absurd (let z : ⊥ = cc in z)) (λ q h. absurd (let z : ⊥ = cc in z)) (λ q h. absurd (let z : ⊥ = cc in z));
  bare = each-box (λ n. BareBy n.parts.kind n) tt tt (refl, refl, refl);
  arms = λ n m r i j k e. each-box (λ n. ArmsBy n.parts.kind (width m) (width n)) tt tt tt n i;
}

pub dropped-example : Dropped
dropped-example = record {
  sound = stacked-sound;
  may = record { in_b = inr (inl refl); in_c = inr (inr (inl refl)); a_select = refl; not_enforced = refl; not_root = refl; alone = refl; is_f = refl; over_c = refl; no_conds = refl; all_columns = refl };
  left = refl;
}
