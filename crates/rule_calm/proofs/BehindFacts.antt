-- Cells whose columns of one quantifier become columns of another, behind the first ones of its box.
use Rattle.std.proofs.Common.{ℕ, zero, suc, ◌==◌, ◌≡◌, ◌≤◌, ◌<◌, ◌+◌, ◌&&◌, cond, Bool, true, false, List, [], ◌∷◌, map, get_or, slice_get, refl, sym, ap, subst, ◌∙◌, inl, inr, arith}
use Rattle.std.specs.List.{list_all}
use Rattle.std.proofs.lemmas.Bool.{and_parts, eq-eqb}
use Rattle.list_laws.specs.Lists.{In}
use Rattle.list_laws.proofs.Booleans.{clash}
use Rattle.list_laws.proofs.Membership.{any-from, eq-itself}
use Rattle.qgm_core.specs.declared.node.Node.{Node}
use Rattle.qgm_meaning.specs.Searches.{names}
use Rattle.qgm_meaning.specs.Tags.{columns_from}
use Rattle.qgm_terms.specs.Named.{columns_in, nodes_in}
use Rattle.qgm_terms.specs.Substitution.{cell_at, substituted, substituted_arms, substituted_cond}
use Rattle.qgm_terms.specs.Terms.{Term, int, text, null_int, null_text, col, scalar, both, minus_of, choose, count_all, fold, Arms, no_arm, arm, Cond, always, compare, is_null, and, or, not, some, every}
use Rattle.qgm_terms.specs.declared.named.Column.{Column}
use Rattle.qgm_terms.specs.declared.named.QuantNode.{QuantNode}
use Rattle.qgm_terms.specs.declared.named.QuantNode.TheVariants as node
use Rattle.qgm_edit_laws.proofs.Read.{is_of, term-nodes}
use Rattle.qgm_props.specs.Inferred.{Facts, at_place, error_free_under, is_free, of_cell}
use Rattle.rule_calm.specs.Settled.{not_single, single_free, single_free_arms, single_free_cond}
use Rattle.rule_calm.proofs.FreeTerms.{cl_of, ef_of, free-is, free_with, one_of, put-free}
use Rattle.rule_calm.proofs.SameFacts.{both-of}

-- ---- no `single` comes in

module _ (q : ℕ) (cells : List Term) (free : list_all single_free cells ≡ true) where
  cell-free : (k : ℕ) → single_free (cell_at k cells) ≡ true
  cell-free zero = refl
  cell-free (suc k) = at cells k free
    where
      at : (xs : List Term) (k : ℕ) → list_all single_free xs ≡ true → single_free (get_or xs k null_int) ≡ true
      at [] k h = refl
      at (x ∷ xs) zero h = (and_parts (single_free x) (list_all single_free xs) h).0
      at (x ∷ xs) (suc k) h = at xs k (and_parts (single_free x) (list_all single_free xs) h).1

  within : (b : Bool) (p : Cond) → single_free_cond p ≡ true → single_free_cond (substituted_cond q cells p) ≡ true → single_free_cond (cond b p (substituted_cond q cells p)) ≡ true
  within true p h k = h
  within false p h k = k

  mutual
    pub single-put : (x : Term) → single_free x ≡ true → single_free (substituted q cells x) ≡ true
    single-put (int n) h = refl
    single-put (text s) h = refl
    single-put null_int h = refl
    single-put null_text h = refl
    single-put (col r k) h = one (r == q)
      where
        one : (b : Bool) → single_free (cond b (cell_at k cells) (col r k)) ≡ true
        one true = cell-free k
        one false = refl
    single-put (scalar r) h = refl
    single-put (both o x y) h = both-of (single_free x) (single_free y) (single_free (substituted q cells x)) (single_free (substituted q cells y)) (single-put x) (single-put y) h
    single-put (minus_of x) h = single-put x h
    single-put (choose s x) h = both-of (single_free_arms s) (single_free x) (single_free_arms (substituted_arms q cells s)) (single_free (substituted q cells x)) (single-put-arms s) (single-put x) h
    single-put count_all h = refl
    single-put (fold f d x) h = both-of (not_single f) (single_free x) (not_single f) (single_free (substituted q cells x)) (λ z. z) (single-put x) h

    single-put-arms : (s : Arms) → single_free_arms s ≡ true → single_free_arms (substituted_arms q cells s) ≡ true
    single-put-arms no_arm h = refl
    single-put-arms (arm p x s) h =
        both-of (single_free_cond p) (single_free x && single_free_arms s) (single_free_cond (substituted_cond q cells p)) (single_free (substituted q cells x) && single_free_arms (substituted_arms q cells s)) (single-put-cond p)
        (both-of (single_free x) (single_free_arms s) (single_free (substituted q cells x)) (single_free_arms (substituted_arms q cells s)) (single-put x) (single-put-arms s)) h

    pub single-put-cond : (p : Cond) → single_free_cond p ≡ true → single_free_cond (substituted_cond q cells p) ≡ true
    single-put-cond always h = refl
    single-put-cond (compare sign x y) h = both-of (single_free x) (single_free y) (single_free (substituted q cells x)) (single_free (substituted q cells y)) (single-put x) (single-put y) h
    single-put-cond (is_null x) h = single-put x h
    single-put-cond (and p r) h = both-of (single_free_cond p) (single_free_cond r) (single_free_cond (substituted_cond q cells p)) (single_free_cond (substituted_cond q cells r)) (single-put-cond p) (single-put-cond r) h
    single-put-cond (or p r) h = both-of (single_free_cond p) (single_free_cond r) (single_free_cond (substituted_cond q cells p)) (single_free_cond (substituted_cond q cells r)) (single-put-cond p) (single-put-cond r) h
    single-put-cond (not p) h = single-put-cond p h
    single-put-cond (some r p) h = within (r == q) p h (single-put-cond p h)
    single-put-cond (every r p) h = within (r == q) p h (single-put-cond p h)

  pub singles-put : (xs : List Term) → list_all single_free xs ≡ true → list_all single_free (map (substituted q cells) xs) ≡ true
  singles-put [] h = refl
  singles-put (x ∷ xs) h = both-of (single_free x) (list_all single_free xs) (single_free (substituted q cells x)) (list_all single_free (map (substituted q cells) xs)) (single-put x) (singles-put xs) h

-- ---- cells that are mapped

pub place-map : (f : Term → Term) (p q : Term → Bool) (head : List Term) (k : ℕ) → ((x : Term) → In x head → p x ≡ true → q (f x) ≡ true) → at_place p head k ≡ true → at_place q (map f head) k ≡ true
place-map f p q head zero w h = absurd (let z : ⊥ = cc in z)
place-map f p q head (suc k) w h = at head k w h
  where
    at : (xs : List Term) (k : ℕ) → ((x : Term) → In x xs → p x ≡ true → q (f x) ≡ true) → of_cell p (slice_get xs k) ≡ true → of_cell q (slice_get (map f xs) k) ≡ true
    at [] k w h = absurd (let z : ⊥ = cc in z)
    at (x ∷ xs) zero w h = w x (inl refl) h
    at (x ∷ xs) (suc k) w h = at xs k (λ y i. w y (inr i)) h

pub all-map : (f : Term → Term) (p q : Term → Bool) (xs : List Term) → ((x : Term) → In x xs → p x ≡ true → q (f x) ≡ true) → list_all p xs ≡ true → list_all q (map f xs) ≡ true
all-map f p q [] w h = refl
all-map f p q (x ∷ xs) w h = both-of (p x) (list_all p xs) (q (f x)) (list_all q (map f xs)) (w x (inl refl)) (all-map f p q xs (λ y i. w y (inr i))) h

-- ---- columns of q become those of p behind the first w

module _ (ef : ℕ → ℕ → Bool) (cl one : ℕ → Bool) (p w v : ℕ) where
  -- a column from place s on, if it is there
  later-free : (s two : Bool) (k : ℕ) → (1 ≤ k → k ≤ v → ef p (w + k) ≡ true) → free_with ef cl one two (cell_at k (columns_from p (suc w) v)) ≡ true
  later-free s two zero h = refl
  later-free s two (suc k) h = at (suc w) v k (λ l. subst (λ n. ef p n ≡ true) (let z : w + suc k ≡ suc w + k = omega arith in z) (h (omega arith) (omega (arith, l))))
    where
      at : (s v k : ℕ) → (k < v → ef p (s + k) ≡ true) → free_with ef cl one two (get_or (columns_from p s v) k null_int) ≡ true
      at s zero k h = refl
      at s (suc v) zero h = subst (λ n. ef p n ≡ true) (let z : s + 0 ≡ s = omega arith in z) (h (omega arith))
      at s (suc v) (suc k) h = at (suc s) v k (λ l. subst (λ n. ef p n ≡ true) (let z : s + suc k ≡ suc s + k = omega arith in z) (h (omega (arith, l))))

module _ (bs hs : List Node) (f g : Facts) (q p w v : ℕ) (x : Term) (own : (c : Column) → In c (columns_in x) → c.quant ≡ q) (bare : (r : ℕ) → names r x ≡ false) (ns : single_free x ≡ true)
    (cols : (k : ℕ) → 1 ≤ k → k ≤ v → error_free_under bs f q k ≡ true → error_free_under hs g p (w + k) ≡ true) where
  pub behind-free : (s two : Bool) → is_free bs f s x ≡ true → is_free hs g two (substituted q (columns_from p (suc w) v) x) ≡ true
  behind-free s two h = free-is hs g two (substituted q (columns_from p (suc w) v) x) ∙ put-free (ef_of bs f) (ef_of hs g) (cl_of bs f) (cl_of hs g) (one_of bs f) (one_of hs g) q (columns_from p (suc w) v) s two x
      (λ c i e. (
      let o = own c i in
      ap (λ b. free_with (ef_of hs g) (cl_of hs g) (one_of hs g) two (cond b (cell_at c.place (columns_from p (suc w) v)) (col c.quant c.place))) (eq-eqb c.quant q o)
      ∙ later-free (ef_of hs g) (cl_of hs g) (one_of hs g) p w v true two c.place (λ m l. cols c.place m l (subst (λ r. error_free_under bs f r c.place ≡ true) o e))))
      (λ z i. absurd (none z i))
      ns (sym (free-is bs f s x) ∙ h)
    where
      no-node : (r : ℕ) (z : QuantNode) → In z (nodes_in x) → is_of r z ≡ true → ⊥
      no-node r z i t = clash (names r x) (sym (term-nodes r x) ∙ any-from (is_of r) z (nodes_in x) i t) (bare r)

      none : (z : QuantNode) → In z (nodes_in x) → ⊥
      none (node.Scalar r) i = no-node r (node.Scalar r) i (eq-itself r)
      none (node.Some r) i = no-node r (node.Some r) i (eq-itself r)
      none (node.Every r) i = no-node r (node.Every r) i (eq-itself r)
