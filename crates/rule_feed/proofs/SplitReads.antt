-- What is found in cells and conditions whose columns were renamed.
use Rattle.std.proofs.Common.{ℕ, ◌==◌, ◌≡◌, ◌&&◌, ◌||◌, ◌+◌, ◌≤◌, cond, Bool, true, List, [], ◌∷◌, map, length, refl, sym, ap, ◌∙◌, eqb-true, inl, inr, arith}
use Rattle.std.specs.List.{list_any}
use Rattle.std.proofs.lemmas.Bool.{and_from, and_parts, cases_Bool, or_cases, or_left, or_right}
use Rattle.qgm_core.specs.Boxes.{is_quant}
use Rattle.list_laws.specs.Lists.{In}
use Rattle.qgm_core.specs.declared.node.Node.{Node}
use Rattle.qgm_core.specs.declared.owned.OwnedQuant.{OwnedQuant}
use Rattle.qgm_meaning.specs.Searches.{looking}
use Rattle.qgm_meaning.specs.Tags.{columns_from}
use Rattle.qgm_terms.specs.Terms.{Term, int, text, null_int, null_text, col, both, minus_of, choose, count_all, fold, scalar, Arms, no_arm, arm, Cond, always, compare, is_null, and, or, not, some, every}
use Rattle.qgm_terms.specs.Wanted.{any_in, any_in_arms, any_in_cond}
use Rattle.qgm_edit_laws.proofs.Edits.{any-append}
use Rattle.rule_feed.proofs.FeedScope.{append-length, columns-length}
use Rattle.rule_feed.specs.Split.{heads, renamed, renamed_arms, renamed_cond, start}
use Rattle.rule_feed.proofs.FeedReads.{columns-list}

module _ (f : ℕ → ℕ → Term) (column before : ℕ → ℕ → Bool) (cell node enter : ℕ → Bool) (h : (r j : ℕ) → any_in (looking column cell node enter) (f r j) ≡ true → before r j ≡ true) where
  two : (a b c d : Bool) → (a || b) ≡ true → (a ≡ true → c ≡ true) → (b ≡ true → d ≡ true) → (c || d) ≡ true
  two a b c d t u v = elim (or_cases a b t) [ inl z ↦ or_left c d (u z) | inr z ↦ or_right c d (v z) ]

  within : (n e a b : Bool) → (n || (e && a)) ≡ true → (a ≡ true → b ≡ true) → (n || (e && b)) ≡ true
  within n e a b t u = elim (or_cases n (e && a) t) [ inl z ↦ or_left n (e && b) z | inr z ↦ (let y = and_parts e a z in or_right n (e && b) (and_from e b y.0 (u y.1))) ]

  mutual
    term-found : (x : Term) → any_in (looking column cell node enter) (renamed f x) ≡ true → any_in (looking before cell node enter) x ≡ true
    term-found (int m) t = t
    term-found (text s) t = t
    term-found null_int t = t
    term-found null_text t = t
    term-found (col r j) t = h r j t
    term-found (both o x y) t = two (any_in (looking column cell node enter) (renamed f x)) (any_in (looking column cell node enter) (renamed f y)) (any_in (looking before cell node enter) x) (any_in (looking before cell node enter) y) t (term-found x) (term-found y)
    term-found (minus_of x) t = term-found x t
    term-found (choose s x) t = two (any_in_arms (looking column cell node enter) (renamed_arms f s)) (any_in (looking column cell node enter) (renamed f x)) (any_in_arms (looking before cell node enter) s) (any_in (looking before cell node enter) x) t (arms-found s) (term-found x)
    term-found count_all t = t
    term-found (fold g d x) t = term-found x t
    term-found (scalar r) t = t

    arms-found : (s : Arms) → any_in_arms (looking column cell node enter) (renamed_arms f s) ≡ true → any_in_arms (looking before cell node enter) s ≡ true
    arms-found no_arm t = t
    arms-found (arm c x s) t =
        two (any_in_cond (looking column cell node enter) (renamed_cond f c)) (any_in (looking column cell node enter) (renamed f x) || any_in_arms (looking column cell node enter) (renamed_arms f s)) (any_in_cond (looking before cell node enter) c) (any_in (looking before cell node enter) x || any_in_arms (looking before cell node enter) s) t (cond-found c)
        (λ t. two (any_in (looking column cell node enter) (renamed f x)) (any_in_arms (looking column cell node enter) (renamed_arms f s)) (any_in (looking before cell node enter) x) (any_in_arms (looking before cell node enter) s) t (term-found x) (arms-found s))

    cond-found : (c : Cond) → any_in_cond (looking column cell node enter) (renamed_cond f c) ≡ true → any_in_cond (looking before cell node enter) c ≡ true
    cond-found always t = t
    cond-found (compare s x y) t = two (any_in (looking column cell node enter) (renamed f x)) (any_in (looking column cell node enter) (renamed f y)) (any_in (looking before cell node enter) x) (any_in (looking before cell node enter) y) t (term-found x) (term-found y)
    cond-found (is_null x) t = term-found x t
    cond-found (and c d) t = two (any_in_cond (looking column cell node enter) (renamed_cond f c)) (any_in_cond (looking column cell node enter) (renamed_cond f d)) (any_in_cond (looking before cell node enter) c) (any_in_cond (looking before cell node enter) d) t (cond-found c) (cond-found d)
    cond-found (or c d) t = two (any_in_cond (looking column cell node enter) (renamed_cond f c)) (any_in_cond (looking column cell node enter) (renamed_cond f d)) (any_in_cond (looking before cell node enter) c) (any_in_cond (looking before cell node enter) d) t (cond-found c) (cond-found d)
    cond-found (not c) t = cond-found c t
    cond-found (some r c) t = within (node r) (enter r) (any_in_cond (looking column cell node enter) (renamed_cond f c)) (any_in_cond (looking before cell node enter) c) t (cond-found c)
    cond-found (every r c) t = within (node r) (enter r) (any_in_cond (looking column cell node enter) (renamed_cond f c)) (any_in_cond (looking before cell node enter) c) t (cond-found c)

  heads-found : (xs : List Term) → list_any (any_in (looking column cell node enter)) (map (renamed f) xs) ≡ true → list_any (any_in (looking before cell node enter)) xs ≡ true
  heads-found [] t = t
  heads-found (x ∷ xs) t = two (any_in (looking column cell node enter) (renamed f x)) (list_any (any_in (looking column cell node enter)) (map (renamed f) xs)) (any_in (looking before cell node enter) x) (list_any (any_in (looking before cell node enter)) xs) t (term-found x) (heads-found xs)

  conds-found : (xs : List Cond) → list_any (any_in_cond (looking column cell node enter)) (map (renamed_cond f) xs) ≡ true → list_any (any_in_cond (looking before cell node enter)) xs ≡ true
  conds-found [] t = t
  conds-found (x ∷ xs) t = two (any_in_cond (looking column cell node enter) (renamed_cond f x)) (list_any (any_in_cond (looking column cell node enter)) (map (renamed_cond f) xs)) (any_in_cond (looking before cell node enter) x) (list_any (any_in_cond (looking before cell node enter)) xs) t (cond-found x) (conds-found xs)

  pub node-found : (y : Node) → (list_any (any_in (looking column cell node enter)) (map (renamed f) y.parts.head) || list_any (any_in_cond (looking column cell node enter)) (map (renamed_cond f) y.parts.conds.items)) ≡ true
      → (list_any (any_in (looking before cell node enter)) y.parts.head || list_any (any_in_cond (looking before cell node enter)) y.parts.conds.items) ≡ true
  node-found y t = two (list_any (any_in (looking column cell node enter)) (map (renamed f) y.parts.head)) (list_any (any_in_cond (looking column cell node enter)) (map (renamed_cond f) y.parts.conds.items)) (list_any (any_in (looking before cell node enter)) y.parts.head) (list_any (any_in_cond (looking before cell node enter)) y.parts.conds.items) t (heads-found y.parts.head) (conds-found y.parts.conds.items)

-- ---- the columns of several quantifiers

abbrev pub size : List (ℕ × ℕ) → ℕ → ℕ
size [] r = 0
size (p ∷ ps) r = cond (p.0 == r) p.1 (size ps r)

pub start-fits : (ws : List (ℕ × ℕ)) (r : ℕ) → list_any (λ p. p.0 == r) ws ≡ true → start ws r + size ws r ≤ length (heads ws)
start-fits [] r h = absurd (let z : ⊥ = cc in z)
start-fits (p ∷ ws) r h =
    let e : length (heads (p ∷ ws)) ≡ p.1 + length (heads ws) = append-length (columns_from p.0 1 p.1) (heads ws) ∙ ap (λ k. k + length (heads ws)) (columns-length p.0 1 p.1) in
    elim (cases_Bool (p.0 == r)) [
      | inl t ↦ (
          let u : cond (p.0 == r) 0 (p.1 + start ws r) ≡ 0 = ap (λ b. cond b 0 (p.1 + start ws r)) t in
          let v : cond (p.0 == r) p.1 (size ws r) ≡ p.1 = ap (λ b. cond b p.1 (size ws r)) t in
          omega arith)
      | inr t ↦ (
          let rec = start-fits ws r (sym (ap (λ b. b || list_any (λ (p : ℕ × ℕ). p.0 == r) ws) t) ∙ h) in
          let u : cond (p.0 == r) 0 (p.1 + start ws r) ≡ p.1 + start ws r = ap (λ b. cond b 0 (p.1 + start ws r)) t in
          let v : cond (p.0 == r) p.1 (size ws r) ≡ size ws r = ap (λ b. cond b p.1 (size ws r)) t in
          omega arith)
    ]

-- a column of the head is one of these, in range
pub heads-list : (P : Term → Bool) (ws : List (ℕ × ℕ)) → list_any P (heads ws) ≡ true → (p : ℕ × ℕ) × (In p ws × ((j : ℕ) × ((P (col p.0 j) ≡ true) × ((1 ≤ j) × (j ≤ p.1)))))
heads-list P [] h = absurd (let z : ⊥ = cc in z)
heads-list P (p ∷ ws) h = elim (any-append P (columns_from p.0 1 p.1) (heads ws) h) [
  | inl a ↦ (let l = columns-list P p.0 p.1 1 a in let o = l.1.1.1 in (p, (inl refl, (l.0, (l.1.0, (l.1.1.0, omega (arith, o)))))))
  | inr a ↦ (let l = heads-list P ws a in (l.0, (inr l.1.0, l.1.1)))
]

module _ (wide : OwnedQuant → ℕ) where
  abbrev pub sizes : List OwnedQuant → List (ℕ × ℕ)
  sizes ps = map (λ (r : OwnedQuant). (r.id, wide r)) ps

  pub in-sizes : (ps : List OwnedQuant) (r : ℕ) → list_any (λ (p : ℕ × ℕ). p.0 == r) (sizes ps) ≡ list_any (is_quant r) ps
  in-sizes [] r = refl
  in-sizes (p ∷ ps) r = ap (λ b. (p.id == r) || b) (in-sizes ps r)

  pub size-of : (ps : List OwnedQuant) (r : ℕ) → list_any (is_quant r) ps ≡ true → (p : OwnedQuant) × (In p ps × ((p.id ≡ r) × (size (sizes ps) r ≡ wide p)))
  size-of [] r h = absurd (let z : ⊥ = cc in z)
  size-of (p ∷ ps) r h = elim (cases_Bool (p.id == r)) [
    | inl t ↦ (p, (inl refl, (eqb-true p.id r t, ap (λ b. cond b (wide p) (size (sizes ps) r)) t)))
    | inr t ↦ (
        let z = size-of ps r (sym (ap (λ b. b || list_any (is_quant r) ps) t) ∙ h) in
        (z.0, (inr z.1.0, (z.1.1.0, ap (λ b. cond b (wide p) (size (sizes ps) r)) t ∙ z.1.1.1))))
  ]
