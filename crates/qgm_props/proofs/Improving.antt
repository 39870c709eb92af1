-- Tables of facts that improve.
use Rattle.std.proofs.Common.{ℕ, zero, suc, ◌≡◌, ◌≤◌, ◌<◌, ◌+◌, ◌-◌, nat_lt, nat_le, ◌==◌, ◌&&◌, ◌||◌, cond, Bool, true, false, List, [], ◌∷◌, ◌++◌, map, length, Option, Some, None, slice_get, slice_set, eqb-true, refl, sym, ap, subst, ◌∙◌, arith, inl, inr, ◌⊎◌}
use Rattle.std.proofs.lemmas.Bool.{and_from, and_parts, cases_Bool, le-leb, leb-true, lt-ltb, ltb-false, ltb-true, or_cases, or_right}
use Rattle.std.proofs.lemmas.List.{length-append}
use Rattle.qgm_core.specs.Boxes.{is_box, width}
use Rattle.list_laws.specs.Lists.{first}
use Rattle.qgm_core.specs.declared.node.Node.{Node}
use Rattle.qgm_props.specs.Inferred.{Closed, Fact, Facts, at_most_one, at_most_one_by, clean, clean_by, error_free, exactly_one, exactly_one_by, free_by, inferred_once, not_null, not_null_by, of_box, says}
use Rattle.qgm_props.specs.Table.{Improves, Stable, begun, either_flags, facts_of, flag_at, flags, found, gone, improved, is_of, joined, nothing_of, unknown_flags, unknown_in, unknown_of}
use Rattle.qgm_props.specs.declared.facts.BoxFacts.{BoxFacts}
use Rattle.qgm_props.proofs.Environments.{first-in}

-- ---- flags

pub flags-long : (w : ℕ) (t : ℕ → Bool) → length (flags w t) ≡ w
flags-long zero t = refl
flags-long (suc w) t = length-append (flags w t) (t (suc w) ∷ []) ∙ (let h = flags-long w t in omega (arith, h))

pub flags-get : (w : ℕ) (t : ℕ → Bool) (j : ℕ) → j < w → slice_get (flags w t) j ≡ Some (t (suc j))
flags-get zero t j h = absurd (let z : ⊥ = omega (arith, h) in z)
flags-get (suc w) t j h = elim (cases_Bool (nat_lt j w)) [
  | inl u ↦ (let l = ltb-true j w u in get-front (flags w t) (t (suc w) ∷ []) j (let e = flags-long w t in omega (arith, l, e)) ∙ flags-get w t j l)
  | inr u ↦ (
      let e : j ≡ w = (let l = ltb-false j w u in omega (arith, l, h)) in
      subst (λ i. slice_get (flags w t ++ t (suc w) ∷ []) j ≡ Some (t (suc i))) (sym e) (ap (slice_get (flags w t ++ t (suc w) ∷ [])) (e ∙ sym (flags-long w t)) ∙ get-end (flags w t) (t (suc w)))
      )
]
  where
    get-front : (xs ys : List Bool) (j : ℕ) → j < length xs → slice_get (xs ++ ys) j ≡ slice_get xs j
    get-front [] ys j h = absurd (let z : ⊥ = omega (arith, h) in z)
    get-front (x ∷ xs) ys zero h = refl
    get-front (x ∷ xs) ys (suc j) h = get-front xs ys j (let e : length (x ∷ xs) ≡ suc (length xs) = refl in omega (arith, e, h))

    get-end : (xs : List Bool) (y : Bool) → slice_get (xs ++ y ∷ []) (length xs) ≡ Some y
    get-end [] y = refl
    get-end (x ∷ xs) y = get-end xs y

either-long : (a b : List Bool) → length a ≡ length b → length (either_flags a b) ≡ length a
either-long [] b h = refl
either-long (x ∷ a) [] h = absurd (let e : length (x ∷ a) ≡ suc (length a) = refl in let z : ⊥ = omega (arith, e, h) in z)
either-long (x ∷ a) (y ∷ b) h = ap suc (either-long a b (let e : suc (length a) ≡ suc (length b) = h in omega (arith, e)))

either-get : (a b : List Bool) (j : ℕ) (y : Bool) → length a ≡ length b → slice_get b j ≡ Some y → joined (slice_get (either_flags a b) j) ≡ (joined (slice_get a j) || y)
either-get [] [] j y h e = absurd (let z : ⊥ = cc in z)
either-get [] (z ∷ b) j y h e = absurd (let p : length (z ∷ b) ≡ suc (length b) = refl in let z : ⊥ = omega (arith, p, h) in z)
either-get (x ∷ a) [] j y h e = absurd (let z : ⊥ = cc in z)
either-get (x ∷ a) (z ∷ b) zero y h e = ap (λ (o : Option Bool). x || joined o) e
either-get (x ∷ a) (z ∷ b) (suc j) y h e = either-get a b j y (let e : suc (length a) ≡ suc (length b) = h in omega (arith, e)) e

flag-same : (k : ℕ) (xs : List Bool) → flag_at (suc k) xs ≡ joined (slice_get xs k)
flag-same k xs = ap (λ (b : Bool). cond b false (joined (slice_get xs (suc k - 1)))) (other (suc k) (omega arith)) ∙ ap (λ n. joined (slice_get xs n)) (let e : suc k - 1 ≡ k = omega arith in e)
  where
    other : (n : ℕ) → 0 < n → (n == 0) ≡ false
    other n h = elim (cases_Bool (n == 0)) [ inl t ↦ absurd (let e = eqb-true n 0 t in let z : ⊥ = omega (arith, e, h) in z) | inr f ↦ f ]

flag-is : (k : ℕ) (xs : List Bool) → flag_at (suc k) xs ≡ true → joined (slice_get xs k) ≡ true
flag-is k xs h = sym (flag-same k xs) ∙ h

is-flag : (k : ℕ) (xs : List Bool) → joined (slice_get xs k) ≡ true → flag_at (suc k) xs ≡ true
is-flag k xs h = flag-same k xs ∙ h

-- the flag of a column that is there
pub flag-either : (w : ℕ) (a : List Bool) (t : ℕ → Bool) (k : ℕ) → length a ≡ w → flag_at (suc k) (either_flags a (flags w t)) ≡ true → (flag_at (suc k) a ≡ true) ⊎ ((k < w) × (t (suc k) ≡ true))
flag-either w a t k l h = elim (cases_Bool (nat_lt k w)) [
  | inl u ↦ (
      let m = ltb-true k w u in
      elim (or_cases (joined (slice_get a k)) (t (suc k)) (sym (either-get a (flags w t) k (t (suc k)) (l ∙ sym (flags-long w t)) (flags-get w t k m)) ∙ flag-is k (either_flags a (flags w t)) h)) [
        | inl v ↦ inl (is-flag k a v)
        | inr v ↦ inr (m, v)
      ]
      )
  | inr u ↦ absurd (beyond (either_flags a (flags w t)) k (let e = either-long a (flags w t) (l ∙ sym (flags-long w t)) in let n = ltb-false k w u in omega (arith, e, n, l)) (flag-is k (either_flags a (flags w t)) h))
]
  where
    beyond : (xs : List Bool) (k : ℕ) → length xs ≤ k → joined (slice_get xs k) ≡ true → ⊥
    beyond [] k h e = cc
    beyond (x ∷ xs) zero h e = let p : length (x ∷ xs) ≡ suc (length xs) = refl in omega (arith, p, h)
    beyond (x ∷ xs) (suc k) h e = beyond xs k (let p : length (x ∷ xs) ≡ suc (length xs) = refl in omega (arith, p, h)) e

no-flag : (w k : ℕ) → flag_at k (flags w (λ k. false)) ≡ true → ⊥
no-flag w zero h = cc
no-flag w (suc k) h = elim (cases_Bool (nat_lt k w)) [
  | inl u ↦ (let m = ltb-true k w u in let e = ap joined (flags-get w (λ k. false) k m) in let f : true ≡ false = sym (flag-is k (flags w (λ k. false)) h) ∙ e in cc)
  | inr u ↦ (let n = ltb-false k w u in let e = flags-long w (λ k. false) in past (flags w (λ k. false)) k (omega (arith, n, e)) (flag-is k (flags w (λ k. false)) h))
]
  where
    past : (xs : List Bool) (k : ℕ) → length xs ≤ k → joined (slice_get xs k) ≡ true → ⊥
    past [] k h e = cc
    past (x ∷ xs) zero h e = let p : length (x ∷ xs) ≡ suc (length xs) = refl in omega (arith, p, h)
    past (x ∷ xs) (suc k) h e = past xs k (let p : length (x ∷ xs) ≡ suc (length xs) = refl in omega (arith, p, h)) e

-- ---- tables beside boxes

-- an entry is of the box at its place, with a flag for each column
pub record IsEntry (n : Node) (f : BoxFacts) : Type 0 where
  pub id : f.id ≡ n.id
  pub free : length f.error_free ≡ width n
  pub filled : length f.not_null ≡ width n

abbrev pub Beside : List Node → List BoxFacts → Type 0
Beside [] [] = Unit {0}
Beside [] (f ∷ fs) = ⊥
Beside (n ∷ ns) [] = ⊥
Beside (n ∷ ns) (f ∷ fs) = IsEntry n f × Beside ns fs

beside-begun : (ns : List Node) → Beside ns (map nothing_of ns)
beside-begun [] = tt
beside-begun (n ∷ ns) = (record { id = refl; free = flags-long (width n) (λ k. false); filled = flags-long (width n) (λ k. false) }, beside-begun ns)

beside-set : (ns : List Node) (fs : List BoxFacts) (i : ℕ) (n : Node) (g : BoxFacts) → Beside ns fs → slice_get ns i ≡ Some n → IsEntry n g → Beside ns (slice_set fs i g)
beside-set [] [] i n g b e h = b
beside-set [] (f ∷ fs) i n g b e h = absurd b
beside-set (m ∷ ns) [] i n g b e h = absurd b
beside-set (m ∷ ns) (f ∷ fs) zero n g b e h = (subst (λ (m : Node). IsEntry m g) (sym (let w : m ≡ n = cc in w)) h, b.1)
beside-set (m ∷ ns) (f ∷ fs) (suc i) n g b e h = (b.0, beside-set ns fs i n g b.1 e h)

pub entry-at : (ns : List Node) (fs : List BoxFacts) (i : ℕ) (n : Node) (f : BoxFacts) → Beside ns fs → slice_get ns i ≡ Some n → slice_get fs i ≡ Some f → IsEntry n f
entry-at [] fs i n f b e d = absurd (let z : ⊥ = cc in z)
entry-at (m ∷ ns) [] i n f b e d = absurd b
entry-at (m ∷ ns) (h ∷ fs) zero n f b e d = subst (λ (m : Node). IsEntry m f) (let w : m ≡ n = cc in w) (subst (IsEntry m) (let w : h ≡ f = cc in w) b.0)
entry-at (m ∷ ns) (h ∷ fs) (suc i) n f b e d = entry-at ns fs i n f b.1 e d

entry-improved : (boxes : List Node) (known : Facts) (n : Node) (f : BoxFacts) → IsEntry n f → IsEntry n (improved boxes known n f)
entry-improved boxes known n f e = record {
  id = e.id;
  free = either-long f.error_free (flags (width n) (free_by boxes known n.parts.kind n)) (e.free ∙ sym (flags-long (width n) (free_by boxes known n.parts.kind n))) ∙ e.free;
  filled = either-long f.not_null (flags (width n) (not_null_by boxes known n.parts.kind n)) (e.filled ∙ sym (flags-long (width n) (not_null_by boxes known n.parts.kind n))) ∙ e.filled;
}

pub beside : (boxes : List Node) (table : List BoxFacts) → Improves boxes table → Beside boxes table
beside boxes _ begun = beside-begun boxes
beside boxes _ (gone table i n f before e d) =
    beside-set boxes table i n (improved boxes (facts_of table) n f) (beside boxes table before) e (entry-improved boxes (facts_of table) n f (entry-at boxes table i n f (beside boxes table before) e d))

pub beside-long : (ns : List Node) (fs : List BoxFacts) → Beside ns fs → length fs ≡ length ns
beside-long [] [] b = refl
beside-long [] (f ∷ fs) b = absurd b
beside-long (n ∷ ns) [] b = absurd b
beside-long (n ∷ ns) (f ∷ fs) b = ap suc (beside-long ns fs b.1)

-- what is looked up in a table after one entry is replaced: the entry, at its box, or what it was
picked : (ns : List Node) (fs : List BoxFacts) (i : ℕ) (n : Node) (f g : BoxFacts) → Beside ns fs → slice_get ns i ≡ Some n → slice_get fs i ≡ Some f → g.id ≡ f.id → (b : ℕ)
    → (first (is_of b) (slice_set fs i g) ≡ first (is_of b) fs) ⊎ ((first (is_of b) (slice_set fs i g) ≡ Some g) × ((first (is_of b) fs ≡ Some f) × (first (is_box b) ns ≡ Some n)))
picked [] fs i n f g s e d w b = absurd (let z : ⊥ = cc in z)
picked (m ∷ ns) [] i n f g s e d w b = absurd s
picked (m ∷ ns) (h ∷ fs) zero n f g s e d w b = one (g.id == b) refl
  where
    hf : h ≡ f
    hf = cc

    mn : m ≡ n
    mn = cc

    hid : h.id ≡ g.id
    hid = ap (λ (f : BoxFacts). f.id) hf ∙ sym w

    one : (c : Bool) → (g.id == b) ≡ c
        → (cond (g.id == b) (Some g) (first (is_of b) fs) ≡ cond (h.id == b) (Some h) (first (is_of b) fs))
        ⊎ ((cond (g.id == b) (Some g) (first (is_of b) fs) ≡ Some g) × ((cond (h.id == b) (Some h) (first (is_of b) fs) ≡ Some f) × (cond (m.id == b) (Some m) (first (is_box b) ns) ≡ Some n)))
    one true t = inr (
      ap (λ (c : Bool). cond c (Some g) (first (is_of b) fs)) t,
      (
        ap (λ (c : Bool). cond c (Some h) (first (is_of b) fs)) (ap (λ (i : ℕ). i == b) hid ∙ t) ∙ ap (λ (x : BoxFacts). Some x) hf,
        ap (λ (c : Bool). cond c (Some m) (first (is_box b) ns)) (ap (λ (i : ℕ). i == b) (sym s.0.id ∙ hid) ∙ t) ∙ ap (λ (x : Node). Some x) mn,
      ),
    )
    one false t = inl (ap (λ (c : Bool). cond c (Some g) (first (is_of b) fs)) t ∙ sym (ap (λ (c : Bool). cond c (Some h) (first (is_of b) fs)) (ap (λ (i : ℕ). i == b) hid ∙ t)))
picked (m ∷ ns) (h ∷ fs) (suc i) n f g s e d w b = one (h.id == b) refl (picked ns fs i n f g s.1 e d w b)
  where
    one : (c : Bool) → (h.id == b) ≡ c
        → (first (is_of b) (slice_set fs i g) ≡ first (is_of b) fs) ⊎ ((first (is_of b) (slice_set fs i g) ≡ Some g) × ((first (is_of b) fs ≡ Some f) × (first (is_box b) ns ≡ Some n)))
        → (cond (h.id == b) (Some h) (first (is_of b) (slice_set fs i g)) ≡ cond (h.id == b) (Some h) (first (is_of b) fs))
        ⊎ ((cond (h.id == b) (Some h) (first (is_of b) (slice_set fs i g)) ≡ Some g) × ((cond (h.id == b) (Some h) (first (is_of b) fs) ≡ Some f) × (cond (m.id == b) (Some m) (first (is_box b) ns) ≡ Some n)))
    one true t r = inl (ap (λ (c : Bool). cond c (Some h) (first (is_of b) (slice_set fs i g))) t ∙ sym (ap (λ (c : Bool). cond c (Some h) (first (is_of b) fs)) t))
    one false t (inl r) = inl (ap (λ (o : Option BoxFacts). cond (h.id == b) (Some h) o) r)
    one false t (inr r) = inr (
      ap (λ (c : Bool). cond c (Some h) (first (is_of b) (slice_set fs i g))) t ∙ r.0,
      (
        ap (λ (c : Bool). cond c (Some h) (first (is_of b) fs)) t ∙ r.1.0,
        ap (λ (c : Bool). cond c (Some m) (first (is_box b) ns)) (ap (λ (i : ℕ). i == b) (sym s.0.id) ∙ t) ∙ r.1.1,
      ),
    )

-- the entry of a box that is found
entry-of : (ns : List Node) (fs : List BoxFacts) → Beside ns fs → (b : ℕ) (n : Node) → first (is_box b) ns ≡ Some n
    → (i : ℕ) × ((f : BoxFacts) × ((slice_get ns i ≡ Some n) × ((slice_get fs i ≡ Some f) × (first (is_of b) fs ≡ Some f))))
entry-of [] fs s b n e = absurd (let z : ⊥ = cc in z)
entry-of (m ∷ ns) [] s b n e = absurd s
entry-of (m ∷ ns) (h ∷ fs) s b n e = one (m.id == b) refl e (entry-of ns fs s.1 b n)
  where
    one : (c : Bool) → (m.id == b) ≡ c → cond c (Some m) (first (is_box b) ns) ≡ Some n
        → (first (is_box b) ns ≡ Some n → (i : ℕ) × ((f : BoxFacts) × ((slice_get ns i ≡ Some n) × ((slice_get fs i ≡ Some f) × (first (is_of b) fs ≡ Some f)))))
        → (i : ℕ) × ((f : BoxFacts) × ((slice_get (m ∷ ns) i ≡ Some n) × ((slice_get (h ∷ fs) i ≡ Some f) × (first (is_of b) (h ∷ fs) ≡ Some f))))
    one true t e r = (0, (h, (e, (refl, ap (λ (c : Bool). cond c (Some h) (first (is_of b) fs)) (ap (λ (i : ℕ). i == b) s.0.id ∙ t)))))
    one false t e r =
        let x = r e in (suc x.0, (x.1.0, (x.1.1.0, (x.1.1.1.0, ap (λ (c : Bool). cond c (Some h) (first (is_of b) fs)) (ap (λ (i : ℕ). i == b) s.0.id ∙ t) ∙ x.1.1.1.1))))

-- ---- what tables say

-- the table of nothing says nothing
begun-silent : (ns : List Node) (fact : Fact) → says (facts_of (map nothing_of ns)) fact ≡ true → ⊥
begun-silent ns (clean b) h = go ns h
  where
    go : (ns : List Node) → found (λ f. f.clean) (first (is_of b) (map nothing_of ns)) ≡ true → ⊥
    go [] h = cc
    go (n ∷ ns) h = one (n.id == b) h (go ns)
      where
        one : (c : Bool) → found (λ f. f.clean) (cond c (Some (nothing_of n)) (first (is_of b) (map nothing_of ns))) ≡ true → (found (λ f. f.clean) (first (is_of b) (map nothing_of ns)) ≡ true → ⊥) → ⊥
        one true h i = cc
        one false h i = i h
begun-silent ns (at_most_one b) h = go ns h
  where
    go : (ns : List Node) → found (λ f. f.at_most_one) (first (is_of b) (map nothing_of ns)) ≡ true → ⊥
    go [] h = cc
    go (n ∷ ns) h = one (n.id == b) h (go ns)
      where
        one : (c : Bool) → found (λ f. f.at_most_one) (cond c (Some (nothing_of n)) (first (is_of b) (map nothing_of ns))) ≡ true → (found (λ f. f.at_most_one) (first (is_of b) (map nothing_of ns)) ≡ true → ⊥) → ⊥
        one true h i = cc
        one false h i = i h
begun-silent ns (exactly_one b) h = go ns h
  where
    go : (ns : List Node) → found (λ f. f.exactly_one) (first (is_of b) (map nothing_of ns)) ≡ true → ⊥
    go [] h = cc
    go (n ∷ ns) h = one (n.id == b) h (go ns)
      where
        one : (c : Bool) → found (λ f. f.exactly_one) (cond c (Some (nothing_of n)) (first (is_of b) (map nothing_of ns))) ≡ true → (found (λ f. f.exactly_one) (first (is_of b) (map nothing_of ns)) ≡ true → ⊥) → ⊥
        one true h i = cc
        one false h i = i h
begun-silent ns (error_free b k) h = go ns h
  where
    go : (ns : List Node) → found (λ f. flag_at k f.error_free) (first (is_of b) (map nothing_of ns)) ≡ true → ⊥
    go [] h = cc
    go (n ∷ ns) h = one (n.id == b) h (go ns)
      where
        one : (c : Bool) → found (λ f. flag_at k f.error_free) (cond c (Some (nothing_of n)) (first (is_of b) (map nothing_of ns))) ≡ true → (found (λ f. flag_at k f.error_free) (first (is_of b) (map nothing_of ns)) ≡ true → ⊥) → ⊥
        one true h i = no-flag (width n) k h
        one false h i = i h
begun-silent ns (not_null b k) h = go ns h
  where
    go : (ns : List Node) → found (λ f. flag_at k f.not_null) (first (is_of b) (map nothing_of ns)) ≡ true → ⊥
    go [] h = cc
    go (n ∷ ns) h = one (n.id == b) h (go ns)
      where
        one : (c : Bool) → found (λ f. flag_at k f.not_null) (cond c (Some (nothing_of n)) (first (is_of b) (map nothing_of ns))) ≡ true → (found (λ f. flag_at k f.not_null) (first (is_of b) (map nothing_of ns)) ≡ true → ⊥) → ⊥
        one true h i = no-flag (width n) k h
        one false h i = i h

module _ (boxes : List Node) (table : List BoxFacts) (i : ℕ) (n : Node) (f : BoxFacts) (s : Beside boxes table) (e : slice_get boxes i ≡ Some n) (d : slice_get table i ≡ Some f) where
  abbrev pub next : BoxFacts
  next = improved boxes (facts_of table) n f

  abbrev pub inferred : Facts
  inferred = inferred_once boxes (facts_of table)

  entry : IsEntry n f
  entry = entry-at boxes table i n f s e d

  -- what the new table says of a box the old one said, or it was inferred
  module _ (b : ℕ) (said : BoxFacts → Bool) (more : Node → Bool) (step : said next ≡ true → (said f ≡ true) ⊎ (more n ≡ true)) where
    new-or-old : found said (first (is_of b) (slice_set table i next)) ≡ true → (found said (first (is_of b) table) ≡ true) ⊎ (of_box false more (first (is_box b) boxes) ≡ true)
    new-or-old h = go (picked boxes table i n f next s e d refl b)
      where
        go : (first (is_of b) (slice_set table i next) ≡ first (is_of b) table) ⊎ ((first (is_of b) (slice_set table i next) ≡ Some next) × ((first (is_of b) table ≡ Some f) × (first (is_box b) boxes ≡ Some n)))
            → (found said (first (is_of b) table) ≡ true) ⊎ (of_box false more (first (is_box b) boxes) ≡ true)
        go (inl r) = inl (sym (ap (found said) r) ∙ h)
        go (inr r) = turn (step (sym (ap (found said) r.0) ∙ h))
          where
            turn : (said f ≡ true) ⊎ (more n ≡ true) → (found said (first (is_of b) table) ≡ true) ⊎ (of_box false more (first (is_box b) boxes) ≡ true)
            turn (inl v) = inl (ap (found said) r.1.0 ∙ v)
            turn (inr v) = inr (ap (of_box false more) r.1.1 ∙ v)

  either-said : (a b : Bool) → (a || b) ≡ true → (a ≡ true) ⊎ (b ≡ true)
  either-said a b h = or_cases a b h

  column-said : (k : ℕ) (a : List Bool) (t : ℕ → Bool) → length a ≡ width n → flag_at k (either_flags a (flags (width n) t)) ≡ true → (flag_at k a ≡ true) ⊎ (((nat_lt 0 k && nat_le k (width n)) && t k) ≡ true)
  column-said zero a t l h = absurd (let z : ⊥ = cc in z)
  column-said (suc k) a t l h = turn (flag-either (width n) a t k l h)
    where
      turn : (flag_at (suc k) a ≡ true) ⊎ ((k < width n) × (t (suc k) ≡ true)) → (flag_at (suc k) a ≡ true) ⊎ (((nat_lt 0 (suc k) && nat_le (suc k) (width n)) && t (suc k)) ≡ true)
      turn (inl v) = inl v
      turn (inr v) = inr (and_from (nat_lt 0 (suc k) && nat_le (suc k) (width n)) (t (suc k)) (and_from (nat_lt 0 (suc k)) (nat_le (suc k) (width n)) (lt-ltb 0 (suc k) (omega arith)) (le-leb (suc k) (width n) (omega (arith, v.0)))) v.1)

  pub one-more : (fact : Fact) → says (facts_of (slice_set table i next)) fact ≡ true → (says (facts_of table) fact ≡ true) ⊎ (says inferred fact ≡ true)
  one-more (clean b) h = new-or-old b (λ f. f.clean) (λ n. clean_by boxes (facts_of table) n.parts.kind n) (either-said f.clean (clean_by boxes (facts_of table) n.parts.kind n)) h
  one-more (error_free b k) h =
      new-or-old b (λ f. flag_at k f.error_free) (λ n. (nat_lt 0 k && nat_le k (width n)) && free_by boxes (facts_of table) n.parts.kind n k)
      (column-said k f.error_free (free_by boxes (facts_of table) n.parts.kind n) entry.free) h
  one-more (not_null b k) h =
      new-or-old b (λ f. flag_at k f.not_null) (λ n. (nat_lt 0 k && nat_le k (width n)) && not_null_by boxes (facts_of table) n.parts.kind n k)
      (column-said k f.not_null (not_null_by boxes (facts_of table) n.parts.kind n) entry.filled) h
  one-more (at_most_one b) h =
      rebound (new-or-old b (λ f. f.at_most_one) (λ n. (facts_of table).exactly_one n.id || at_most_one_by boxes (facts_of table) n.parts.kind n) (either-said f.at_most_one ((facts_of table).exactly_one n.id || at_most_one_by boxes (facts_of table) n.parts.kind n)) h)
    where
      rebound : (says (facts_of table) (at_most_one b) ≡ true) ⊎ (of_box false (λ n. (facts_of table).exactly_one n.id || at_most_one_by boxes (facts_of table) n.parts.kind n) (first (is_box b) boxes) ≡ true)
          → (says (facts_of table) (at_most_one b) ≡ true) ⊎ (says inferred (at_most_one b) ≡ true)
      rebound (inl v) = inl v
      rebound (inr v) = inr (go (first (is_box b) boxes) refl v)
        where
          go : (o : Option Node) → first (is_box b) boxes ≡ o → of_box false (λ n. (facts_of table).exactly_one n.id || at_most_one_by boxes (facts_of table) n.parts.kind n) o ≡ true
              → of_box false (λ n. (facts_of table).exactly_one b || at_most_one_by boxes (facts_of table) n.parts.kind n) o ≡ true
          go None w v = v
          go (Some m) w v = subst (λ j. ((facts_of table).exactly_one j || at_most_one_by boxes (facts_of table) m.parts.kind m) ≡ true) (eqb-true m.id b (first-in (is_box b) boxes m w).1) v
  one-more (exactly_one b) h = new-or-old b (λ f. f.exactly_one) (λ n. exactly_one_by boxes (facts_of table) n.parts.kind n) (either-said f.exactly_one (exactly_one_by boxes (facts_of table) n.parts.kind n)) h

-- what holds of each fact that is inferred of facts of which it holds, holds of all that tables say
pub all-said : (boxes : List Node) (P : Fact → Type 0) → ((known : Facts) → ((fact : Fact) → says known fact ≡ true → P fact) → (fact : Fact) → says (inferred_once boxes known) fact ≡ true → P fact)
    → (table : List BoxFacts) → Improves boxes table → (fact : Fact) → says (facts_of table) fact ≡ true → P fact
all-said boxes P step _ begun fact h = absurd (begun-silent boxes fact h)
all-said boxes P step _ (gone table i n f before e d) fact h = turn (all-said boxes P step table before) (one-more boxes table i n f (beside boxes table before) e d fact h)
  where
    turn : ((fact : Fact) → says (facts_of table) fact ≡ true → P fact) → (says (facts_of table) fact ≡ true) ⊎ (says (inferred_once boxes (facts_of table)) fact ≡ true) → P fact
    turn r (inl v) = r fact v
    turn r (inr v) = step (facts_of table) r fact v

-- ---- a table that doesn't improve says all that is inferred

module _ (boxes : List Node) (table : List BoxFacts) (before : Improves boxes table) (stable : Stable boxes table) where
  old-said : (a b : Bool) → (a || b) ≡ a → b ≡ true → a ≡ true
  old-said a b e h = sym e ∙ or_right a b h

  column-old : (w k : ℕ) (a : List Bool) (t : ℕ → Bool) → length a ≡ w → either_flags a (flags w t) ≡ a → ((nat_lt 0 k && nat_le k w) && t k) ≡ true → flag_at k a ≡ true
  column-old w zero a t l e h = absurd (let p = and_parts (nat_lt 0 0 && nat_le 0 w) (t 0) h in let q = and_parts (nat_lt 0 0) (nat_le 0 w) p.0 in let m = ltb-true 0 0 q.0 in let z : ⊥ = omega (arith, m) in z)
  column-old w (suc k) a t l e h =
      let p = and_parts (nat_lt 0 (suc k) && nat_le (suc k) w) (t (suc k)) h in let q = and_parts (nat_lt 0 (suc k)) (nat_le (suc k) w) p.0 in let m = leb-true (suc k) w q.1 in
      is-flag k a (ap (λ xs. joined (slice_get xs k)) (sym e) ∙ either-get a (flags w t) k (t (suc k)) (l ∙ sym (flags-long w t)) (flags-get w t k (omega (arith, m))) ∙ or_right (joined (slice_get a k)) (t (suc k)) p.1)

  -- a statement on a box that is found is in its entry
  said-of : (b : ℕ) (said : BoxFacts → Bool) (more : Node → Bool) → ((n : Node) (f : BoxFacts) → IsEntry n f → improved boxes (facts_of table) n f ≡ f → n.id ≡ b → more n ≡ true → said f ≡ true)
      → of_box false more (first (is_box b) boxes) ≡ true → found said (first (is_of b) table) ≡ true
  said-of b said more step h = go (first (is_box b) boxes) refl h
    where
      go : (o : Option Node) → first (is_box b) boxes ≡ o → of_box false more o ≡ true → found said (first (is_of b) table) ≡ true
      go None w h = absurd (let z : ⊥ = cc in z)
      go (Some n) w h =
          let x = entry-of boxes table (beside boxes table before) b n w in
          ap (found said) x.1.1.1.1 ∙ step n x.1.0 (entry-at boxes table x.0 n x.1.0 (beside boxes table before) x.1.1.0 x.1.1.1.0) (stable x.0 n x.1.0 x.1.1.0 x.1.1.1.0) (eqb-true n.id b (first-in (is_box b) boxes n w).1) h

  pub closed : Closed boxes (facts_of table)
  closed (clean b) h =
      said-of b (λ f. f.clean) (λ n. clean_by boxes (facts_of table) n.parts.kind n) (λ n f y e i m. old-said f.clean (clean_by boxes (facts_of table) n.parts.kind n) (ap (λ (f : BoxFacts). f.clean) e) m) h
  closed (error_free b k) h =
      said-of b (λ f. flag_at k f.error_free) (λ n. (nat_lt 0 k && nat_le k (width n)) && free_by boxes (facts_of table) n.parts.kind n k)
      (λ n f y e i m. column-old (width n) k f.error_free (free_by boxes (facts_of table) n.parts.kind n) y.free (ap (λ (f : BoxFacts). f.error_free) e) m) h
  closed (not_null b k) h =
      said-of b (λ f. flag_at k f.not_null) (λ n. (nat_lt 0 k && nat_le k (width n)) && not_null_by boxes (facts_of table) n.parts.kind n k)
      (λ n f y e i m. column-old (width n) k f.not_null (not_null_by boxes (facts_of table) n.parts.kind n) y.filled (ap (λ (f : BoxFacts). f.not_null) e) m) h
  closed (at_most_one b) h =
      said-of b (λ f. f.at_most_one) (λ n. (facts_of table).exactly_one b || at_most_one_by boxes (facts_of table) n.parts.kind n)
      (λ n f y e i m. old-said f.at_most_one ((facts_of table).exactly_one n.id || at_most_one_by boxes (facts_of table) n.parts.kind n) (ap (λ (f : BoxFacts). f.at_most_one) e)
      (subst (λ j. ((facts_of table).exactly_one j || at_most_one_by boxes (facts_of table) n.parts.kind n) ≡ true) (sym i) m)) h
  closed (exactly_one b) h =
      said-of b (λ f. f.exactly_one) (λ n. exactly_one_by boxes (facts_of table) n.parts.kind n) (λ n f y e i m. old-said f.exactly_one (exactly_one_by boxes (facts_of table) n.parts.kind n) (ap (λ (f : BoxFacts). f.exactly_one) e) m) h

-- ---- less is left unknown

either-less : (a b : List Bool) → length a ≡ length b → unknown_flags (either_flags a b) ≤ unknown_flags a
either-less [] b h = omega arith
either-less (x ∷ a) [] h = absurd (let e : length (x ∷ a) ≡ suc (length a) = refl in let z : ⊥ = omega (arith, e, h) in z)
either-less (x ∷ a) (y ∷ b) h = one x y (either-less a b (let e : suc (length a) ≡ suc (length b) = h in omega (arith, e)))
  where
    one : (x y : Bool) → unknown_flags (either_flags a b) ≤ unknown_flags a → unknown_flags ((x || y) ∷ either_flags a b) ≤ unknown_flags (x ∷ a)
    one true y i = omega (arith, i)
    one false true i = omega (arith, i)
    one false false i = omega (arith, i)

either-same : (a b : List Bool) → length a ≡ length b → unknown_flags (either_flags a b) ≡ unknown_flags a → either_flags a b ≡ a
either-same [] b h e = refl
either-same (x ∷ a) [] h e = absurd (let e : length (x ∷ a) ≡ suc (length a) = refl in let z : ⊥ = omega (arith, e, h) in z)
either-same (x ∷ a) (y ∷ b) h e = one x y (either-less a b long) (either-same a b long) e
  where
    long : length a ≡ length b
    long = let e : suc (length a) ≡ suc (length b) = h in omega (arith, e)

    one : (x y : Bool) → unknown_flags (either_flags a b) ≤ unknown_flags a → (unknown_flags (either_flags a b) ≡ unknown_flags a → either_flags a b ≡ a)
        → unknown_flags ((x || y) ∷ either_flags a b) ≡ unknown_flags (x ∷ a) → ((x || y) ∷ either_flags a b) ≡ x ∷ a
    one true y i r e = ap (λ (xs : List Bool). true ∷ xs) (r (omega (arith, e)))
    one false true i r e = absurd (let z : ⊥ = omega (arith, e, i) in z)
    one false false i r e = ap (λ (xs : List Bool). false ∷ xs) (r (omega (arith, e)))

-- an entry is improved by nothing, or less is left unknown
pub same-or-less : (boxes : List Node) (known : Facts) (n : Node) (f : BoxFacts) → IsEntry n f → (improved boxes known n f ≡ f) ⊎ (unknown_of (improved boxes known n f) < unknown_of f)
same-or-less boxes known n f e = elim (cases_Bool (nat_lt (unknown_of (improved boxes known n f)) (unknown_of f))) [
  | inl t ↦ inr (ltb-true (unknown_of (improved boxes known n f)) (unknown_of f) t)
  | inr t ↦ inl (same (ltb-false (unknown_of (improved boxes known n f)) (unknown_of f) t))
]
  where
    front : List Bool
    front = f.clean ∷ f.at_most_one ∷ f.exactly_one ∷ []

    more : List Bool
    more = clean_by boxes known n.parts.kind n ∷ (known.exactly_one n.id || at_most_one_by boxes known n.parts.kind n) ∷ exactly_one_by boxes known n.parts.kind n ∷ []

    free : List Bool
    free = flags (width n) (free_by boxes known n.parts.kind n)

    filled : List Bool
    filled = flags (width n) (not_null_by boxes known n.parts.kind n)

    free-long : length f.error_free ≡ length free
    free-long = e.free ∙ sym (flags-long (width n) (free_by boxes known n.parts.kind n))

    filled-long : length f.not_null ≡ length filled
    filled-long = e.filled ∙ sym (flags-long (width n) (not_null_by boxes known n.parts.kind n))

    -- facts of which each part is the same are the same
    made : Bool → Bool → Bool → List Bool → List Bool → BoxFacts
    made x y z xs ys = record { id = f.id; clean = x; at_most_one = y; exactly_one = z; error_free = xs; not_null = ys }

    alike : (x y z : Bool) (xs ys : List Bool) → (x ∷ y ∷ z ∷ []) ≡ front → xs ≡ f.error_free → ys ≡ f.not_null → made x y z xs ys ≡ f
    alike x y z xs ys p q r =
        let a : x ≡ f.clean = head-same p in let b : y ≡ f.at_most_one = head-same (tail-same p) in let c : z ≡ f.exactly_one = head-same (tail-same (tail-same p)) in
        ap (λ (x : Bool). made x y z xs ys) a ∙ ap (λ (y : Bool). made f.clean y z xs ys) b ∙ ap (λ (z : Bool). made f.clean f.at_most_one z xs ys) c
        ∙ ap (λ (xs : List Bool). made f.clean f.at_most_one f.exactly_one xs ys) q ∙ ap (λ (ys : List Bool). made f.clean f.at_most_one f.exactly_one f.error_free ys) r
      where
        head-same : {x y : Bool} {xs ys : List Bool} → (x ∷ xs) ≡ (y ∷ ys) → x ≡ y
        head-same e = cc

        tail-same : {x y : Bool} {xs ys : List Bool} → (x ∷ xs) ≡ (y ∷ ys) → xs ≡ ys
        tail-same e = cc

    same : unknown_of f ≤ unknown_of (improved boxes known n f) → improved boxes known n f ≡ f
    same h =
        let a = either-less front more refl in let b = either-less f.error_free free free-long in let c = either-less f.not_null filled filled-long in
        let p = either-same front more refl (omega (arith, a, b, c, h)) in
        let q = either-same f.error_free free free-long (omega (arith, a, b, c, h)) in
        let r = either-same f.not_null filled filled-long (omega (arith, a, b, c, h)) in
        alike (f.clean || clean_by boxes known n.parts.kind n) (f.at_most_one || (known.exactly_one n.id || at_most_one_by boxes known n.parts.kind n)) (f.exactly_one || exactly_one_by boxes known n.parts.kind n) (either_flags f.error_free free) (either_flags f.not_null filled) p q r

pub improved-less : (boxes : List Node) (known : Facts) (n : Node) (f : BoxFacts) → IsEntry n f → (improved boxes known n f ≡ f → ⊥) → unknown_of (improved boxes known n f) < unknown_of f
improved-less boxes known n f e differs = elim (same-or-less boxes known n f e) [ inl s ↦ absurd (differs s) | inr l ↦ l ]

pub unknown-set : (fs : List BoxFacts) (i : ℕ) (f g : BoxFacts) → slice_get fs i ≡ Some f → unknown_in (slice_set fs i g) + unknown_of f ≡ unknown_in fs + unknown_of g
unknown-set [] i f g d = absurd (let z : ⊥ = cc in z)
unknown-set (h ∷ fs) zero f g d = let e : unknown_of h ≡ unknown_of f = ap unknown_of (let w : h ≡ f = cc in w) in omega (arith, e)
unknown-set (h ∷ fs) (suc i) f g d = let r = unknown-set fs i f g d in omega (arith, r)
