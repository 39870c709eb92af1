-- Looking heads up as often as there are boxes is enough: what is then known stays.
use Rattle.std.proofs.Common.{inl, inr, ◌≡◌, ◌≤◌, ◌<◌, ℕ, zero, suc, ◌+◌, ◌-◌, ◌==◌, ◌&&◌, Bool, true, false, cond, List, [], ◌∷◌, ◌++◌, length, map, Option, Some, None, refl, ap, ap₂, sym, ◌∙◌, subst, arith}
use Rattle.std.specs.Prelude.{◌⊎◌, slice_get}
use Rattle.std.specs.List.{flat_map, list_all}
use Rattle.std.proofs.lemmas.Bool.{and_parts}
use Rattle.std.proofs.lemmas.List.Folds.{list_all-append}
use Rattle.sql_value.specs.declared.order_key.SqlType.{SqlType}
use Rattle.qgm_core.specs.Boxes.{Ordered, ids_in, is_box, owns, range_in}
use Rattle.list_laws.specs.Lists.{In, first, times}
use Rattle.qgm_core.specs.declared.node.Node.{Node}
use Rattle.qgm_core.specs.declared.owned.OwnedQuant.{OwnedQuant}
use Rattle.qgm_core.specs.declared.kinds.BoxKind.{BoxKind}
use Rattle.qgm_core.specs.declared.kinds.BoxKind.TheVariants.{Base, Select, Group, SetOp, OuterJoin}
use Rattle.qgm_terms.specs.Gathered.{listed_arms}
use Rattle.qgm_terms.specs.Named.{names, names_in, names_in_cond}
use Rattle.qgm_terms.specs.Terms as t
use Rattle.qgm_terms.specs.Terms.{Arms, Cond, Term}
use Rattle.qgm_wellformed.specs.Columns.{over_box}
use Rattle.qgm_wellformed.specs.Types.{Lookup, agree, aggregate_type, arms_fit, column_type, cond_fits, integer_if, is_integer, is_known, is_typed, joined_column, op_type, sign_fits, term_type, type_found, type_if, type_in, types_after, types_by, types_found}
use Rattle.qgm_wellformed.specs.declared.types.Typed.{Typed}
use Rattle.qgm_edit_laws.proofs.Levels as levels
use Rattle.qgm_edit_laws.proofs.Levels.{first-typed, number-of, some-in}

-- ---- types depend on the columns that are named

both-parts : (Q : ℕ → Bool) (xs ys : List ℕ) → list_all Q (xs ++ ys) ≡ true → (list_all Q xs ≡ true) × (list_all Q ys ≡ true)
both-parts Q xs ys h = and_parts (list_all Q xs) (list_all Q ys) (sym (list_all-append Q xs ys) ∙ h)

module _ (at other : Lookup) (Q : ℕ → Bool) (same : (n : ℕ) → Q n ≡ true → (k : ℕ) → at n k ≡ other n k) where
  head-of : (n : ℕ) (ns : List ℕ) → list_all Q (n ∷ ns) ≡ true → Q n ≡ true
  head-of n ns h = (and_parts (Q n) (list_all Q ns) h).0

  mutual
    pub term-local : (x : Term) → list_all Q (names_in x) ≡ true → term_type at x ≡ term_type other x
    term-local (t.int n) h = refl
    term-local (t.text x) h = refl
    term-local t.null_int h = refl
    term-local t.null_text h = refl
    term-local (t.col n k) h = same n (head-of n [] h) k
    term-local (t.scalar n) h = same n (head-of n [] h) 1
    term-local (t.both op x y) h = let p = both-parts Q (names_in x) (names_in y) h in ap₂ (op_type op) (term-local x p.0) (term-local y p.1)
    term-local (t.minus_of x) h = ap (λ z. integer_if (is_integer z)) (term-local x h)
    term-local (t.choose s x) h =
        let p = both-parts Q (listed_arms names s) (names_in x) h in
        ap₂ type_if (arms-local s (term_type at x) (term_type other x) (term-local x p.1) p.0) (term-local x p.1)
    term-local t.count_all h = refl
    term-local (t.fold f e x) h = ap (aggregate_type f) (term-local x h)

    arms-local : (s : Arms) (a b : Option SqlType) → a ≡ b → list_all Q (listed_arms names s) ≡ true → arms_fit at a s ≡ arms_fit other b s
    arms-local t.no_arm a b e h = refl
    arms-local (t.arm c x s) a b e h =
        let p = both-parts Q (names_in_cond c) (names_in x ++ listed_arms names s) h in
        let r = both-parts Q (names_in x) (listed_arms names s) p.1 in
        ap₂ ◌&&◌ (cond-local c p.0) (ap₂ ◌&&◌ (ap₂ agree (term-local x r.0) e) (arms-local s a b e r.1))

    pub cond-local : (c : Cond) → list_all Q (names_in_cond c) ≡ true → cond_fits at c ≡ cond_fits other c
    cond-local t.always h = refl
    cond-local (t.compare g x y) h = let p = both-parts Q (names_in x) (names_in y) h in ap₂ (sign_fits g) (term-local x p.0) (term-local y p.1)
    cond-local (t.is_null x) h = ap is_known (term-local x h)
    cond-local (t.and c d) h = let p = both-parts Q (names_in_cond c) (names_in_cond d) h in ap₂ ◌&&◌ (cond-local c p.0) (cond-local d p.1)
    cond-local (t.or c d) h = let p = both-parts Q (names_in_cond c) (names_in_cond d) h in ap₂ ◌&&◌ (cond-local c p.0) (cond-local d p.1)
    cond-local (t.not c) h = cond-local c h
    cond-local (t.some n c) h = cond-local c (and_parts (Q n) (list_all Q (names_in_cond c)) h).1
    cond-local (t.every n c) h = cond-local c (and_parts (Q n) (list_all Q (names_in_cond c)) h).1

  heads-local : (xs : List Term) → list_all Q (flat_map names_in xs) ≡ true → map (term_type at) xs ≡ map (term_type other) xs
  heads-local [] h = refl
  heads-local (x ∷ xs) h = let p = both-parts Q (names_in x) (flat_map names_in xs) h in ap₂ (λ z zs. z ∷ zs) (term-local x p.0) (heads-local xs p.1)

  pub kinds-local : (kind : BoxKind) (head : List Term) → list_all Q (flat_map names_in head) ≡ true → types_by at kind head ≡ types_by other kind head
  kinds-local (Base table) head h = refl
  kinds-local Select head h = heads-local head h
  kinds-local (Group keys) head h = heads-local head h
  kinds-local (SetOp operator types) head h = refl
  kinds-local OuterJoin head h = heads-local head h

-- ---- how many boxes pass

count : (ℕ → Bool) → List Node → ℕ
count p [] = 0
count p (n ∷ ns) = cond {A = ℕ} (p n.id) 1 0 + count p ns

one-most : (b : Bool) → cond {A = ℕ} b 1 0 ≤ 1
one-most true = omega arith
one-most false = omega arith

one-le : (a b : Bool) → (a ≡ true → b ≡ true) → cond {A = ℕ} a 1 0 ≤ cond {A = ℕ} b 1 0
one-le true b f = let e : cond {A = ℕ} b 1 0 ≡ 1 = ap (λ (z : Bool). cond {A = ℕ} z 1 0) (f refl) in omega arith
one-le false b f = omega arith

count-le : (p r : ℕ → Bool) (ns : List Node) → ((b : ℕ) → p b ≡ true → r b ≡ true) → count p ns ≤ count r ns
unfolding count
count-le p r [] f = omega arith
count-le p r (n ∷ ns) f = let a = one-le (p n.id) (r n.id) (f n.id) in let b = count-le p r ns f in omega arith

count-most : (p : ℕ → Bool) (ns : List Node) → count p ns ≤ length ns
unfolding count
count-most p [] = omega arith
count-most p (n ∷ ns) = let a = one-most (p n.id) in let b = count-most p ns in let c : length (n ∷ ns) ≡ suc (length ns) = refl in omega arith

one-back : (a b : Bool) → cond {A = ℕ} b 1 0 ≤ cond {A = ℕ} a 1 0 → b ≡ true → a ≡ true
one-back true b h e = refl
one-back false b h e = absurd (let f : cond {A = ℕ} b 1 0 ≡ 1 = ap (λ (z : Bool). cond {A = ℕ} z 1 0) e in omega arith)

count-same : (p r : ℕ → Bool) (ns : List Node) → ((b : ℕ) → p b ≡ true → r b ≡ true) → count r ns ≤ count p ns → (n : Node) → In n ns → r n.id ≡ true → p n.id ≡ true
unfolding count
count-same p r [] f h n i e = absurd i
count-same p r (m ∷ ns) f h n i e =
    let a = one-le (p m.id) (r m.id) (f m.id) in
    let b = count-le p r ns f in
    elim i [
      | inl same ↦ subst (λ (z : Node). p z.id ≡ true) same (one-back (p m.id) (r m.id) (omega arith) (ap (λ (z : Node). r z.id) same ∙ e))
      | inr j ↦ count-same p r ns f (omega arith) n j e
    ]

count-all : (p : ℕ → Bool) (ns : List Node) → length ns ≤ count p ns → (n : Node) → In n ns → p n.id ≡ true
unfolding count
count-all p [] h n i = absurd i
count-all p (m ∷ ns) h n i =
    let a = count-most p ns in
    let b = one-most (p m.id) in
    let c : length (m ∷ ns) ≡ suc (length ns) = refl in
    elim i [
      | inl same ↦ subst (λ (z : Node). p z.id ≡ true) same (one-back (p m.id) true (omega arith) refl)
      | inr j ↦ count-all p ns (omega arith) n j
    ]

-- ---- what is settled

module _ (bs : List Node) (ordered : Ordered bs) (once : (q : ℕ) → times q (ids_in bs) ≤ 1) where
  abbrev S : ℕ → ℕ → Bool
  S = levels.settled bs ordered once

  -- one step more settles nothing new
  abbrev Stable : ℕ → Type 0
  Stable k = (b : ℕ) → S (suc k) b ≡ true → S k b ≡ true

  stable-suc : (k : ℕ) → Stable k → Stable (suc k)
  stable-suc k h b e = levels.step-more bs ordered once (S (suc k)) (S k) h (first (is_box b) bs) e

  stable-add : (j k : ℕ) → Stable k → Stable (j + k)
  stable-add zero k h = let x : k ≡ zero + k = omega arith in subst Stable x h
  stable-add (suc j) k h = let x : suc (j + k) ≡ suc j + k = omega arith in subst Stable x (stable-suc (j + k) (stable-add j k h))

  stable-back : (j k : ℕ) → Stable k → (b : ℕ) → S (j + k) b ≡ true → S k b ≡ true
  stable-back zero k h b e = let x : zero + k ≡ k = omega arith in subst (λ z. S z b ≡ true) x e
  stable-back (suc j) k h b e = let x : suc j + k ≡ suc (j + k) = omega arith in stable-back j k h b (stable-add j k h b (subst (λ z. S z b ≡ true) x e))

  le-or : (a b : ℕ) → (a ≤ b) ⊎ (b < a)
  le-or zero b = inl (omega arith)
  le-or (suc a) zero = inr (omega arith)
  le-or (suc a) (suc b) = elim (le-or a b) [ inl h ↦ inl (omega arith) | inr h ↦ inr (omega arith) ]

  grow : (k : ℕ) → (k ≤ count (S k) bs) ⊎ Stable k
  grow zero = inl (omega arith)
  grow (suc k) = elim (grow k) [
    | inr h ↦ inr (stable-suc k h)
    | inl h ↦ elim (le-or (count (S (suc k)) bs) (count (S k) bs)) [
      | inl g ↦ inr (stable-suc k (λ b e.
          let f = levels.settled-found bs ordered once (suc k) b e in
          let i = some-in (is_box b) bs f.0 f.1 in
          let n = number-of bs b f.0 f.1 in
          subst (λ z. S k z ≡ true) n (count-same (S k) (S (suc k)) bs (levels.settled-suc bs ordered once k) g f.0 i.0 (ap (S (suc k)) n ∙ e))))
      | inr g ↦ inl (omega arith)
    ]
  ]

  -- what is settled after some steps is settled after as many as there are boxes
  pub settled-soon : (e b : ℕ) → S e b ≡ true → S (length bs) b ≡ true
  settled-soon e b h =
      let f = levels.settled-found bs ordered once e b h in
      let i = some-in (is_box b) bs f.0 f.1 in
      elim (grow (length bs)) [
        | inl g ↦ subst (λ z. S (length bs) z ≡ true) (number-of bs b f.0 f.1) (count-all (S (length bs)) bs g f.0 i.0)
        | inr g ↦ stable-back e (length bs) g b (let x : length bs + e ≡ e + length bs = omega arith in subst (λ z. S z b ≡ true) x (levels.settled-add bs ordered once (length bs) e b h))
      ]

  pub type_in-by : (k : ℕ) (o : Option Typed) → type_in k o ≡ cond (k == 0) None (joined_column (slice_get (types_found o) (k - 1)))
  type_in-by k None = none (k == 0)
    where
      none : (b : Bool) → ◌≡◌ {A = Option SqlType} None (cond b None None)
      none true = refl
      none false = refl
  type_in-by k (Some x) = refl

  -- what is settled stays as it is
  pub stays : (e b j : ℕ) → S e b ≡ true → e ≤ j → types_found (first (is_typed b) (types_after j bs)) ≡ types_found (first (is_typed b) (types_after e bs))
  stays zero b j h u = absurd (cc h)
  stays (suc e) b zero h u = absurd (omega arith)
  stays (suc e) b (suc j) h u =
      let f = levels.settled-found bs ordered once (suc e) b h in
      let n = f.0 in
      let names : list_all (levels.under bs ordered once (S e)) (flat_map names_in n.parts.head) ≡ true = ap (levels.step_by bs ordered once (S e)) (sym f.1) ∙ h in
      ap types_found (first-typed bs (types_after j bs) bs b n f.1)
      ∙ kinds-local (column_type bs (types_after j bs)) (column_type bs (types_after e bs)) (levels.under bs ordered once (S e))
      (λ m g k. looked m k (range_in m (first (owns m) bs)) g (λ c d. stays e c j d (omega arith))) n.parts.kind n.parts.head names
      ∙ ap types_found (sym (first-typed bs (types_after e bs) bs b n f.1))
    where
      looked : (m k : ℕ) (o : Option OwnedQuant) → levels.under_by bs ordered once (S e) o ≡ true
          → ((c : ℕ) → S e c ≡ true → types_found (first (is_typed c) (types_after j bs)) ≡ types_found (first (is_typed c) (types_after e bs)))
          → type_found (types_after j bs) k (over_box bs o) ≡ type_found (types_after e bs) k (over_box bs o)
      looked m k None g same = absurd (cc g)
      looked m k (Some r) g same =
          let f = levels.settled-found bs ordered once e r.over g in
          let c = number-of bs r.over f.0 f.1 in
          ap (type_found (types_after j bs) k) f.1
          ∙ type_in-by k (first (is_typed f.0.id) (types_after j bs))
          ∙ ap (λ z. cond (k == 0) None (joined_column (slice_get z (k - 1)))) (ap (λ z. types_found (first (is_typed z) (types_after j bs))) c ∙ same r.over g ∙ ap (λ z. types_found (first (is_typed z) (types_after e bs))) (sym c))
          ∙ sym (type_in-by k (first (is_typed f.0.id) (types_after e bs)))
          ∙ ap (type_found (types_after e bs) k) (sym f.1)
