-- What an outer join names where its left arm begins with the columns of the magic box, and its right one too.
use Rattle.std.proofs.Common.{ℕ, zero, suc, ◌==◌, ◌≡◌, ◌≤◌, ◌+◌, cond, true, false, ◌∷◌, map, refl, sym, ap, ap₂, subst, ◌∙◌, eqb-true, ◌⊎◌, inl, inr, arith}
use Rattle.std.specs.List.{flat_map, list_all}
use Rattle.std.proofs.lemmas.Bool.{eq-eqb, or_cases}
use Rattle.list_laws.specs.Lists.{In, holds}
use Rattle.qgm_core.specs.Free.{named_by}
use Rattle.qgm_core.specs.declared.node.Node.{Node}
use Rattle.qgm_meaning.specs.Scope.{put_node, read_by}
use Rattle.qgm_meaning.specs.Tags.{columns_from}
use Rattle.qgm_terms.specs.Named.{names_in, names_in_cond}
use Rattle.qgm_terms.specs.Substitution.{substituted, substituted_cond}
use Rattle.qgm_terms.specs.Terms.{Cond, Term}
use Rattle.qgm_wellformed.specs.Shapes.{is_column, is_unfolded}
use Rattle.qgm_wellformed.specs.Types.{Lookup, cond_fits, term_type}
use Rattle.qgm_edit_laws.specs.Graph.{nodes_in, reads_in}
use Rattle.qgm_edit_laws.proofs.PutTypes.{mixed}
use Rattle.qgm_edit_laws.proofs.Read.{named-split}
use Rattle.qgm_edit_laws.proofs.Settled.{cond-local, term-local}
use Rattle.rule_magic.specs.Boxes.{both_cond, both_term, led_cond, led_term}
use Rattle.rule_magic.proofs.PutColumns as put
use Rattle.list_laws.proofs.Booleans.{clash}
use Rattle.list_laws.proofs.Membership.{all-from, eq-false-sym, eq-itself, flat-in, in-holds, in-left, in-right, map-in}

-- c names columns of a, l and r alone, of which there are w, v and u, and has no node
pub record MayLead (a l r w v u : ℕ) (c : Node) : Type 0 where
  pub al : (a == l) ≡ false
  pub ar : (a == r) ≡ false
  pub lr : (l == r) ≡ false
  pub none : (p : ℕ) → nodes_in p c ≡ false
  pub reads : (p : ℕ) → read_by c p ≡ true → (p ≡ a) ⊎ ((p ≡ l) ⊎ (p ≡ r))
  pub of_a : (k : ℕ) → reads_in a k c ≡ true → (1 ≤ k) × (k ≤ w)
  pub of_l : (k : ℕ) → reads_in l k c ≡ true → (1 ≤ k) × (k ≤ v)
  pub of_r : (k : ℕ) → reads_in r k c ≡ true → (1 ≤ k) × (k ≤ u)
  -- what it reads a column of it reads
  pub at_reads : (p k : ℕ) → reads_in p k c ≡ true → read_by c p ≡ true

-- columns are of the same types where their quantifier is looked up as before
pub columns-alike : (at now : Lookup) (q j n : ℕ) → ((k : ℕ) → at q k ≡ now q k) → map (term_type at) (columns_from q j n) ≡ map (term_type now) (columns_from q j n)
columns-alike at now q j zero h = refl
columns-alike at now q j (suc n) h = ap₂ (λ y ys. y ∷ ys) (h j) (columns-alike at now q (suc j) n h)

module _ (a l r w v u : ℕ) (c : Node) (ok : MayLead a l r w v u c) where
  abbrev pub one : Node
  one = put_node l (columns_from l (suc w) v) c

  abbrev pub led : Node
  led = put_node a (columns_from l 1 w) (put_node l (columns_from l (suc w) v) c)

  abbrev pub both : Node
  both = put_node r (columns_from r (suc w) u) (put_node a (columns_from l 1 w) (put_node l (columns_from l (suc w) v) c))

  none-one : (p : ℕ) → nodes_in p (put_node l (columns_from l (suc w) v) c) ≡ false
  none-one = put.none-put l l (suc w) v c ok.none

  pub none-led : (p : ℕ) → nodes_in p (put_node a (columns_from l 1 w) (put_node l (columns_from l (suc w) v) c)) ≡ false
  none-led = put.none-put a l 1 w one none-one

  pub none-both : (p : ℕ) → nodes_in p (put_node r (columns_from r (suc w) u) (put_node a (columns_from l 1 w) (put_node l (columns_from l (suc w) v) c))) ≡ false
  none-both = put.none-put r r (suc w) u led none-led

  -- ---- reads

  is-r : (p : ℕ) → read_by c p ≡ true → (p == l) ≡ false → (p == a) ≡ false → (r == p) ≡ true
  is-r p h fl fa = elim (ok.reads p h) [
    | inl e ↦ absurd (clash (p == a) (eq-eqb p a e) fa)
    | inr e ↦ elim e [ inl e ↦ absurd (clash (p == l) (eq-eqb p l e) fl) | inr e ↦ eq-eqb r p (sym e) ]
  ]

  pub read-led : (p : ℕ) → read_by led p ≡ true → ((l == p) ≡ true) ⊎ ((r == p) ≡ true)
  read-led p h = elim (put.read-put a l 1 w one none-one p h) [
    | inl x ↦ elim (put.read-put l l (suc w) v c ok.none p x.0) [ inl y ↦ inr (is-r p y.0 y.1 x.1) | inr y ↦ inl y ]
    | inr x ↦ inl x
  ]

  pub read-both : (p : ℕ) → read_by both p ≡ true → ((l == p) ≡ true) ⊎ ((r == p) ≡ true)
  read-both p h = elim (put.read-put r r (suc w) u led none-led p h) [ inl x ↦ read-led p x.0 | inr x ↦ inr x ]

  pub read-at-led : (p k : ℕ) → reads_in p k led ≡ true → (((l == p) ≡ true) × ((1 ≤ k) × (k ≤ w + v))) ⊎ (((r == p) ≡ true) × ((1 ≤ k) × (k ≤ u)))
  read-at-led p k h = elim (put.read-at-put a l 1 w one none-one p k h) [
    | inr x ↦ (let hi = x.1.1 in inl (x.0, (x.1.0, omega (arith, hi))))
    | inl x ↦ elim (put.read-at-put l l (suc w) v c ok.none p k x.0) [
      | inr y ↦ (let lo = y.1.0 in let hi = y.1.1 in inl (y.0, (omega (arith, lo), omega (arith, hi))))
      | inl y ↦ (let e = is-r p (ok.at_reads p k y.0) y.1 x.1 in inr (e, ok.of_r k (subst (λ q. reads_in q k c ≡ true) (sym (eqb-true r p e)) y.0)))
    ]
  ]

  pub read-at-both : (p k : ℕ) → reads_in p k both ≡ true → (((l == p) ≡ true) × ((1 ≤ k) × (k ≤ w + v))) ⊎ (((r == p) ≡ true) × ((1 ≤ k) × (k ≤ w + u)))
  read-at-both p k h = elim (put.read-at-put r r (suc w) u led none-led p k h) [
    | inr x ↦ (let lo = x.1.0 in let hi = x.1.1 in inr (x.0, (omega (arith, lo), omega (arith, hi))))
    | inl x ↦ elim (read-at-led p k x.0) [ inl y ↦ inl y | inr y ↦ (let lo = y.1.0 in let hi = y.1.1 in inr (y.0, (lo, omega (arith, hi)))) ]
  ]

  -- ---- where q has its columns

  one-a : (k : ℕ) → reads_in a k (put_node l (columns_from l (suc w) v) c) ≡ true → (1 ≤ k) × (k ≤ w)
  one-a k h = elim (put.read-at-put l l (suc w) v c ok.none a k h) [ inl x ↦ ok.of_a k x.0 | inr x ↦ absurd (clash (l == a) x.0 (eq-false-sym a l ok.al)) ]

  led-r : (k : ℕ) → reads_in r k (put_node a (columns_from l 1 w) (put_node l (columns_from l (suc w) v) c)) ≡ true → (1 ≤ k) × (k ≤ u)
  led-r k h = elim (read-at-led r k h) [ inl x ↦ absurd (clash (l == r) x.0 ok.lr) | inr x ↦ x.1 ]

  -- ---- shapes

  pub columns-led : list_all is_column c.parts.head ≡ true → list_all is_column led.parts.head ≡ true
  columns-led h = put.columns-put a l 1 w one none-one one-a (put.columns-put l l (suc w) v c ok.none ok.of_l h)

  pub columns-both : list_all is_column c.parts.head ≡ true → list_all is_column both.parts.head ≡ true
  columns-both h = put.columns-put r r (suc w) u led none-led led-r (columns-led h)

  pub unfolded-led : is_unfolded led ≡ is_unfolded c
  unfolded-led = put.unfolded-put a l 1 w one none-one ∙ put.unfolded-put l l (suc w) v c ok.none

  pub unfolded-both : is_unfolded both ≡ is_unfolded c
  unfolded-both = put.unfolded-put r r (suc w) u led none-led ∙ unfolded-led

  -- ---- types

  named-c : (p : ℕ) → holds p (named_by c) ≡ true → (p ≡ a) ⊎ ((p ≡ l) ⊎ (p ≡ r))
  named-c p h = elim (or_cases (read_by c p) (nodes_in p c) (named-split p c h)) [ inl x ↦ ok.reads p x | inr x ↦ absurd (clash (nodes_in p c) x (ok.none p)) ]

  named-head : (x : Term) → In x c.parts.head → list_all (λ p. holds p (named_by c)) (names_in x) ≡ true
  named-head x i = all-from (λ p. holds p (named_by c)) (names_in x) (λ p j. in-holds p (named_by c) (in-left p (flat_map names_in c.parts.head) (flat_map names_in_cond c.parts.conds.items) (flat-in names_in x p c.parts.head i j)))

  named-cond : (x : Cond) → In x c.parts.conds.items → list_all (λ p. holds p (named_by c)) (names_in_cond x) ≡ true
  named-cond x i = all-from (λ p. holds p (named_by c)) (names_in_cond x) (λ p j. in-holds p (named_by c) (in-right p (flat_map names_in c.parts.head) (flat_map names_in_cond c.parts.conds.items) (flat-in names_in_cond x p c.parts.conds.items i j)))

  -- l's first columns have the types of a's, those behind them the types that l's had, and r's are as before
  module _ (at now : Lookup) (same_a : map (term_type now) (columns_from l 1 w) ≡ map (term_type at) (columns_from a 1 w)) (same_l : map (term_type now) (columns_from l (suc w) v) ≡ map (term_type at) (columns_from l 1 v)) (same_r : (k : ℕ) → now r k ≡ at r k) where
    abbrev mid : Lookup
    mid = mixed at now a (columns_from l 1 w)

    mid-l : map (term_type mid) (columns_from l (suc w) v) ≡ map (term_type at) (columns_from l 1 v)
    mid-l = columns-alike mid now l (suc w) v (λ k. ap (λ b. cond b (at a k) (now l k)) (eq-false-sym a l ok.al)) ∙ same_l

    alike : (p : ℕ) → holds p (named_by c) ≡ true → (k : ℕ) → mixed at mid l (columns_from l (suc w) v) p k ≡ at p k
    alike p h k = elim (named-c p h) [
      | inl e ↦ subst (λ p. mixed at mid l (columns_from l (suc w) v) p k ≡ at p k) (sym e) (ap (λ b. cond b (at l k) (cond (a == a) (at a k) (now a k))) ok.al ∙ ap (λ b. cond b (at a k) (now a k)) (eq-itself a))
      | inr e ↦ elim e [
        | inl e ↦ subst (λ p. mixed at mid l (columns_from l (suc w) v) p k ≡ at p k) (sym e) (ap (λ b. cond b (at l k) (mid l k)) (eq-itself l))
        | inr e ↦ subst (λ p. mixed at mid l (columns_from l (suc w) v) p k ≡ at p k) (sym e) (ap₂ (λ b d. cond b (at l k) (cond d (at a k) (now r k))) (eq-false-sym l r ok.lr) (eq-false-sym a r ok.ar) ∙ same_r k)
      ]
    ]

    pub term-led : (x : Term) → In x c.parts.head → term_type now (led_term a l w v x) ≡ term_type at x
    term-led x i =
        put.term-put a l 1 w one none-one one-a at now same_a (substituted l (columns_from l (suc w) v) x) (map-in (substituted l (columns_from l (suc w) v)) x c.parts.head i)
        ∙ put.term-put l l (suc w) v c ok.none ok.of_l at mid mid-l x i
        ∙ term-local (mixed at mid l (columns_from l (suc w) v)) at (λ p. holds p (named_by c)) alike x (named-head x i)

    pub cond-led : (x : Cond) → In x c.parts.conds.items → cond_fits now (led_cond a l w v x) ≡ cond_fits at x
    cond-led x i =
        put.cond-put a l 1 w one none-one one-a at now same_a (substituted_cond l (columns_from l (suc w) v) x) (map-in (substituted_cond l (columns_from l (suc w) v)) x c.parts.conds.items i)
        ∙ put.cond-put l l (suc w) v c ok.none ok.of_l at mid mid-l x i
        ∙ cond-local (mixed at mid l (columns_from l (suc w) v)) at (λ p. holds p (named_by c)) alike x (named-cond x i)

  -- and where r's columns are behind the first ones too
  module _ (at now : Lookup) (same_a : map (term_type now) (columns_from l 1 w) ≡ map (term_type at) (columns_from a 1 w)) (same_l : map (term_type now) (columns_from l (suc w) v) ≡ map (term_type at) (columns_from l 1 v))
      (same_r : map (term_type now) (columns_from r (suc w) u) ≡ map (term_type at) (columns_from r 1 u)) where
    abbrev low : Lookup
    low = mixed at now r (columns_from r (suc w) u)

    low-l : (k : ℕ) → low l k ≡ now l k
    low-l k = ap (λ b. cond b (at r k) (now l k)) ok.lr

    low-r : (k : ℕ) → low r k ≡ at r k
    low-r k = ap (λ b. cond b (at r k) (now r k)) (eq-itself r)

    pub term-both : (x : Term) → In x c.parts.head → term_type now (both_term a l w v r u x) ≡ term_type at x
    term-both x i =
        put.term-put r r (suc w) u led none-led led-r at now same_r (led_term a l w v x) (map-in (substituted a (columns_from l 1 w)) (substituted l (columns_from l (suc w) v) x) one.parts.head (map-in (substituted l (columns_from l (suc w) v)) x c.parts.head i))
        ∙ term-led at low (columns-alike low now l 1 w low-l ∙ same_a) (columns-alike low now l (suc w) v low-l ∙ same_l) low-r x i

    pub cond-both : (x : Cond) → In x c.parts.conds.items → cond_fits now (both_cond a l w v r u x) ≡ cond_fits at x
    cond-both x i =
        put.cond-put r r (suc w) u led none-led led-r at now same_r (led_cond a l w v x) (map-in (substituted_cond a (columns_from l 1 w)) (substituted_cond l (columns_from l (suc w) v) x) one.parts.conds.items (map-in (substituted_cond l (columns_from l (suc w) v)) x c.parts.conds.items i))
        ∙ cond-led at low (columns-alike low now l 1 w low-l ∙ same_a) (columns-alike low now l (suc w) v low-l ∙ same_l) low-r x i
