-- A key as a test that no two rows pass.
use Rattle.std.proofs.Common.{ℕ, zero, suc, ◌≡◌, ◌≤◌, ◌+◌, ◌==◌, ◌&&◌, cond, Bool, true, false, List, [], ◌∷◌, length, nat_lt, eqb-true, refl, sym, ap, ap₂, subst, ◌∙◌, arith, inl, inr}
use Rattle.std.proofs.lemmas.Bool.{and_parts, cases_Bool, eq-eqb, eqb-false, ltb-false, ltb-true, or_cases, or_left, or_right}
use Rattle.row_bag.specs.Keys.{HasKey, cells_at}
use Rattle.row_bag.proofs.Images.{multiplicity-image}
use Rattle.row_bag.specs.Bags.{bind, if_there, total, unit}
use Rattle.row_bag.specs.Order.{cell_of}
use Rattle.row_bag.specs.Sets.{multiplicity, same_cells}
use Rattle.row_bag.specs.Verdict.{is_there}
use Rattle.row_bag.proofs.TupleBags.{same_cells-decides}
use Rattle.sql_value.specs.declared.cell.Cell.{Cell}
use Rattle.sql_value.specs.declared.level.Level.{Level}
use Rattle.sql_value.specs.declared.level.Level.TheVariants.{No, Cardinality, Division, Overflow, Yes}
use Rattle.list_laws.specs.Lists.{holds}
use Rattle.qgm_meaning.specs.Laws.{occurs}
use Rattle.qgm_meaning.specs.Values.{Bag}
use Rattle.qgm_props.specs.Keys.{all_within}
use Rattle.qgm_props.proofs.NoTwo.{NoTwo, Test, apart-from, passes-none}
use Rattle.qgm_props.proofs.Rows.{occurs-here, occurs-more, there-is, there_at}

-- two tuples agree on these columns
abbrev pub by : List ℕ → Test
by ks a b = same_cells (cells_at ks a) (cells_at ks b)

-- so many rows have this key
abbrev pub with_key : List ℕ → List Cell → Bag → ℕ
with_key ks k rows = total ◌+◌ 0 (λ c l. cond (same_cells (cells_at ks c) k) 1 0) rows

key-counted : (ks : List ℕ) (k : List Cell) (rows : Bag) → multiplicity same_cells k (bind rows (λ c. unit (cells_at ks c))) ≡ with_key ks k rows
key-counted ks k rows = multiplicity-image same_cells k (cells_at ks) rows

-- none has it where no tuple that occurs has it
none-with : (ks : List ℕ) (k : List Cell) (rows : Bag) → ((c : List Cell) → occurs c rows ≡ true → same_cells (cells_at ks c) k ≡ false) → with_key ks k rows ≡ 0
none-with ks k [] h = refl
none-with ks k (r ∷ rows) h = at r.level refl (none-with ks k rows (λ c o. h c (occurs-more c r rows o)))
  where
    one : (l : Level) → r.level ≡ l → there_at l ≡ true → with_key ks k rows ≡ 0 → cond (same_cells (cells_at ks r.cells) k) 1 0 + with_key ks k rows ≡ 0
    one l e t i = let n : ◌≡◌ {A = ℕ} (cond (same_cells (cells_at ks r.cells) k) 1 0) 0 = ap (λ (b : Bool). cond b 1 0) (h r.cells (occurs-here r rows (there-is r.cells r.level ∙ ap there_at e ∙ t))) in omega (arith, n, i)

    at : (l : Level) → r.level ≡ l → with_key ks k rows ≡ 0 → if_there 0 (λ c l. cond (same_cells (cells_at ks c) k) 1 0) r.cells l + with_key ks k rows ≡ 0
    at No e i = omega (arith, i)
    at Cardinality e i = one Cardinality e refl i
    at Division e i = one Division e refl i
    at Overflow e i = one Overflow e refl i
    at Yes e i = one Yes e refl i

-- one has it where a tuple that occurs has it
some-with : (ks : List ℕ) (k : List Cell) (rows : Bag) (c : List Cell) → occurs c rows ≡ true → same_cells (cells_at ks c) k ≡ true → 1 ≤ with_key ks k rows
some-with ks k [] c o h = absurd (let z : ⊥ = cc in z)
some-with ks k (r ∷ rows) c o h = elim (or_cases (same_cells r.cells c && is_there r) (occurs c rows) o) [
  | inl w ↦ (
      let p = and_parts (same_cells r.cells c) (is_there r) w in
      at r.level (sym (there-is r.cells r.level) ∙ p.1) (subst (λ c. same_cells (cells_at ks c) k ≡ true) (sym ((same_cells-decides r.cells c).0 p.0)) h)
      )
  | inr w ↦ (let i = some-with ks k rows c w h in omega (arith, i))
]
  where
    one : same_cells (cells_at ks r.cells) k ≡ true → 1 ≤ cond (same_cells (cells_at ks r.cells) k) 1 0 + with_key ks k rows
    one h = let n : ◌≡◌ {A = ℕ} (cond (same_cells (cells_at ks r.cells) k) 1 0) 1 = ap (λ (b : Bool). cond b 1 0) h in omega (arith, n)

    at : (l : Level) → there_at l ≡ true → same_cells (cells_at ks r.cells) k ≡ true → 1 ≤ if_there 0 (λ c l. cond (same_cells (cells_at ks c) k) 1 0) r.cells l + with_key ks k rows
    at No t h = absurd (let z : ⊥ = cc in z)
    at Cardinality t h = one h
    at Division t h = one h
    at Overflow t h = one h
    at Yes t h = one h

-- where no two rows agree on the columns, these are a key
few-with : (ks : List ℕ) (k : List Cell) (rows : Bag) → NoTwo (by ks) rows → with_key ks k rows ≤ 1
few-with ks k [] h = omega (arith)
few-with ks k (r ∷ rows) h = at r.level refl (few-with ks k rows h.1)
  where
    one : (l : Level) → r.level ≡ l → there_at l ≡ true → with_key ks k rows ≤ 1 → cond (same_cells (cells_at ks r.cells) k) 1 0 + with_key ks k rows ≤ 1
    one l e t i = elim (cases_Bool (same_cells (cells_at ks r.cells) k)) [
      | inl w ↦ (
          let there : is_there r ≡ true = there-is r.cells r.level ∙ ap there_at e ∙ t in
          let same : cells_at ks r.cells ≡ k = (same_cells-decides (cells_at ks r.cells) k).0 w in
          let n = none-with ks k rows (λ c o. subst (λ k. same_cells (cells_at ks c) k ≡ false) same (turned (cells_at ks c) (cells_at ks r.cells) (apart-from (by ks) r rows h.0 there c o))) in
          let m : ◌≡◌ {A = ℕ} (cond (same_cells (cells_at ks r.cells) k) 1 0) 1 = ap (λ (b : Bool). cond b 1 0) w in omega (arith, n, m)
          )
      | inr w ↦ (let m : ◌≡◌ {A = ℕ} (cond (same_cells (cells_at ks r.cells) k) 1 0) 0 = ap (λ (b : Bool). cond b 1 0) w in omega (arith, i, m))
    ]
      where
        turned : (a b : List Cell) → same_cells b a ≡ false → same_cells a b ≡ false
        turned a b f = elim (cases_Bool (same_cells a b)) [
          | inl v ↦ absurd (let e : b ≡ a = sym ((same_cells-decides a b).0 v) in let k : true ≡ false = sym ((same_cells-decides b a).1 e) ∙ f in let z : ⊥ = cc in z)
          | inr v ↦ v
        ]

    at : (l : Level) → r.level ≡ l → with_key ks k rows ≤ 1 → if_there 0 (λ c l. cond (same_cells (cells_at ks c) k) 1 0) r.cells l + with_key ks k rows ≤ 1
    at No e i = omega (arith, i)
    at Cardinality e i = one Cardinality e refl i
    at Division e i = one Division e refl i
    at Overflow e i = one Overflow e refl i
    at Yes e i = one Yes e refl i

pub two-key : (ks : List ℕ) (rows : Bag) → NoTwo (by ks) rows → HasKey ks rows
two-key ks rows h k = let e = key-counted ks k rows in let f = few-with ks k rows h in omega (arith, e, f)

pub key-two : (ks : List ℕ) (rows : Bag) → HasKey ks rows → NoTwo (by ks) rows
key-two ks rows h = go rows (λ k. let e = key-counted ks k rows in let n = h k in omega (arith, e, n))
  where
    go : (rows : Bag) → ((k : List Cell) → with_key ks k rows ≤ 1) → NoTwo (by ks) rows
    go [] h = tt
    go (r ∷ rows) h = (
      (λ w. passes-none (by ks) r.cells rows (λ c o. other w c o)),
      go rows (λ k. more k r.level (h k)),
    )
      where
        more : (k : List Cell) (l : Level) → if_there 0 (λ c l. cond (same_cells (cells_at ks c) k) 1 0) r.cells l + with_key ks k rows ≤ 1 → with_key ks k rows ≤ 1
        more k l n = omega (arith, n)

        two : (l : Level) → there_at l ≡ true → ◌≡◌ {A = ℕ} (if_there 0 (λ c l. cond (same_cells (cells_at ks c) (cells_at ks r.cells)) 1 0) r.cells l) 1
        two No t = absurd (let z : ⊥ = cc in z)
        two Cardinality t = ap (λ (b : Bool). cond b 1 0) ((same_cells-decides (cells_at ks r.cells) (cells_at ks r.cells)).1 refl)
        two Division t = ap (λ (b : Bool). cond b 1 0) ((same_cells-decides (cells_at ks r.cells) (cells_at ks r.cells)).1 refl)
        two Overflow t = ap (λ (b : Bool). cond b 1 0) ((same_cells-decides (cells_at ks r.cells) (cells_at ks r.cells)).1 refl)
        two Yes t = ap (λ (b : Bool). cond b 1 0) ((same_cells-decides (cells_at ks r.cells) (cells_at ks r.cells)).1 refl)

        other : is_there r ≡ true → (c : List Cell) → occurs c rows ≡ true → by ks r.cells c ≡ false
        other w c o = elim (cases_Bool (by ks r.cells c)) [
          | inl v ↦ absurd (
              let e : cells_at ks r.cells ≡ cells_at ks c = (same_cells-decides (cells_at ks r.cells) (cells_at ks c)).0 v in
              let s = some-with ks (cells_at ks r.cells) rows c o ((same_cells-decides (cells_at ks c) (cells_at ks r.cells)).1 (sym e)) in
              let t = two r.level (sym (there-is r.cells r.level) ∙ w) in let n = h (cells_at ks r.cells) in let z : ⊥ = omega (arith, s, t, n) in z
              )
          | inr v ↦ v
        ]

-- ---- tuples that agree

pub agreed : (ks : List ℕ) (a b : List Cell) → by ks a b ≡ true → (k : ℕ) → holds k ks ≡ true → cell_of k a ≡ cell_of k b
agreed ks a b h k i = each ks ((same_cells-decides (cells_at ks a) (cells_at ks b)).0 h) i
  where
    each : (ks : List ℕ) → cells_at ks a ≡ cells_at ks b → holds k ks ≡ true → cell_of k a ≡ cell_of k b
    each [] e i = absurd (let z : ⊥ = cc in z)
    each (j ∷ ks) e i = elim (or_cases (j == k) (holds k ks) i) [
      | inl t ↦ (let f : cell_of j a ≡ cell_of j b = cc in subst (λ k. cell_of k a ≡ cell_of k b) (eqb-true j k t) f)
      | inr t ↦ (let f : cells_at ks a ≡ cells_at ks b = cc in each ks f t)
    ]

pub agree-from : (ks : List ℕ) (a b : List Cell) → ((k : ℕ) → holds k ks ≡ true → cell_of k a ≡ cell_of k b) → by ks a b ≡ true
agree-from ks a b h = (same_cells-decides (cells_at ks a) (cells_at ks b)).1 (each ks (λ k i. h k i))
  where
    each : (js : List ℕ) → ((k : ℕ) → holds k js ≡ true → cell_of k a ≡ cell_of k b) → cells_at js a ≡ cells_at js b
    each [] f = refl
    each (j ∷ js) f = ap₂ (λ (x : Cell) (xs : List Cell). x ∷ xs) (f j (or_left (j == j) (holds j js) (eq-eqb j j refl))) (each js (λ k i. f k (or_right (j == k) (holds k js) i)))

-- tuples of as many cells, place by place the same
pub cells-same : (a b : List Cell) → length a ≡ length b → ((k : ℕ) → 1 ≤ k → k ≤ length a → cell_of k a ≡ cell_of k b) → a ≡ b
cells-same [] [] l f = refl
cells-same [] (y ∷ b) l f = absurd (let z : ⊥ = cc in z)
cells-same (x ∷ a) [] l f = absurd (let z : ⊥ = cc in z)
cells-same (x ∷ a) (y ∷ b) l f =
    ap₂ (λ (x : Cell) (xs : List Cell). x ∷ xs) (f 1 (omega (arith)) (let j : length (x ∷ a) ≡ suc (length a) = refl in omega (arith, j)))
    (cells-same a b (let e : suc (length a) ≡ suc (length b) = l in omega (arith, e)) (λ k i j. more k i j))
  where
    more : (k : ℕ) → 1 ≤ k → k ≤ length a → cell_of k a ≡ cell_of k b
    more zero i j = absurd (let z : ⊥ = omega (arith, i) in z)
    more (suc k) i j = f (suc (suc k)) (omega (arith)) (let e : length (x ∷ a) ≡ suc (length a) = refl in omega (arith, e, j))

pub within-holds : (w : ℕ) (ks : List ℕ) → all_within w ks ≡ true → (k : ℕ) → 1 ≤ k → k ≤ w → holds k ks ≡ true
within-holds zero ks h k i j = absurd (let z : ⊥ = omega (arith, i, j) in z)
within-holds (suc w) ks h k i j = let a = and_parts (holds (suc w) ks) (all_within w ks) h in one (k == suc w) refl a.0 (λ n. within-holds w ks a.1 k i n)
  where
    one : (b : Bool) → (k == suc w) ≡ b → holds (suc w) ks ≡ true → (k ≤ w → holds k ks ≡ true) → holds k ks ≡ true
    one true e t f = subst (λ j. holds j ks ≡ true) (sym (eqb-true k (suc w) e)) t
    one false e t f = f (elim (cases_Bool (nat_lt k (suc w))) [
      | inl u ↦ (let n = ltb-true k (suc w) u in omega (arith, n))
      | inr u ↦ absurd (let n = ltb-false k (suc w) u in eqb-false k (suc w) e (omega (arith, n, j)))
    ])

-- tuples of as many cells that agree on each of them are one
pub all-agreed : (w : ℕ) (ks : List ℕ) (a b : List Cell) → length a ≡ w → length b ≡ w → all_within w ks ≡ true → by ks a b ≡ true → a ≡ b
all-agreed w ks a b l m h e = cells-same a b (l ∙ sym m) (λ k i j. agreed ks a b e k (within-holds w ks h k i (subst (λ n. k ≤ n) l j)))
