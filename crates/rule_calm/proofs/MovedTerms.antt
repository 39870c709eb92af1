-- Error-free expressions whose columns are renamed, or whose scalars become columns; and what renamed expressions name.
use Rattle.std.proofs.Common.{ℕ, ◌==◌, ◌≡◌, ◌&&◌, ◌||◌, cond, Bool, true, false, List, [], ◌∷◌, ◌++◌, map, refl, ap, ap₂, subst, ◌∙◌, eqb-true, inl, inr}
use Rattle.std.specs.List.{list_any}
use Rattle.std.proofs.lemmas.Bool.{and_from, and_parts, cases_Bool, or_parts}
use Rattle.list_laws.specs.Lists.{In}
use Rattle.list_laws.proofs.Membership.{in-append, in-left, in-right}
use Rattle.qgm_meaning.specs.Searches.{as_column, as_column_arms, as_column_cond, names, names_arms, names_cond}
use Rattle.qgm_terms.specs.Gathered.{listed_arms}
use Rattle.qgm_terms.specs.Named as named
use Rattle.qgm_terms.specs.Named.{columns_in, columns_in_cond, nodes_in, nodes_in_cond}
use Rattle.qgm_terms.specs.Substitution.{column_substituted, substituted, substituted_arms, substituted_cond}
use Rattle.qgm_terms.specs.Terms.{Term, int, text, null_int, null_text, col, scalar, both, minus_of, choose, count_all, fold, Arms, no_arm, arm, Cond, always, compare, is_null, and, or, not, some, every}
use Rattle.qgm_terms.specs.Wanted.{any_in_arms, has_aggregate, has_aggregate_cond, wanted}
use Rattle.qgm_terms.specs.declared.sought.Sought.TheVariants.{Aggregate}
use Rattle.qgm_terms.specs.declared.named.Column.{Column}
use Rattle.qgm_terms.specs.declared.named.QuantNode.TheVariants as node
use Rattle.qgm_terms.specs.declared.tree.Op.{Op}
use Rattle.qgm_terms.specs.declared.tree.Op.TheVariants.{Add, Sub, Mul, Div, Cat}
use Rattle.qgm_props.specs.Inferred.{divides, fold_free, keeps_free}
use Rattle.rule_feed.specs.Split.{renamed, renamed_arms, renamed_cond}
use Rattle.rule_calm.specs.Settled.{not_single, single_free, single_free_arms, single_free_cond}
use Rattle.rule_calm.proofs.FreeTerms.{SameNodes, arms_with, cond_with, fold-any, free_with}
use Rattle.rule_calm.proofs.SameFacts.{both-of}

-- ---- columns renamed

renamed-divides : (φ : ℕ → ℕ → Term) (y : Term) → divides y ≡ true → divides (renamed φ y) ≡ true
renamed-divides φ (int v) h = h
renamed-divides φ (text s) h = h
renamed-divides φ null_int h = h
renamed-divides φ null_text h = h
renamed-divides φ (col r j) h = absurd (let z : ⊥ = cc in z)
renamed-divides φ (scalar r) h = absurd (let z : ⊥ = cc in z)
renamed-divides φ (both o x y) h = h
renamed-divides φ (minus_of x) h = h
renamed-divides φ (choose s x) h = h
renamed-divides φ count_all h = h
renamed-divides φ (fold f d x) h = h

renamed-keeps : (φ : ℕ → ℕ → Term) (o : Op) (y : Term) → keeps_free o y ≡ true → keeps_free o (renamed φ y) ≡ true
renamed-keeps φ Add y h = h
renamed-keeps φ Sub y h = h
renamed-keeps φ Mul y h = h
renamed-keeps φ Div y h = renamed-divides φ y h
renamed-keeps φ Cat y h = refl

module _ (ef ef' : ℕ → ℕ → Bool) (cl cl' one one' : ℕ → Bool) (φ : ℕ → ℕ → Term) (s two : Bool) where
  -- what is asked of columns
  abbrev renamedColumns : List Column → Type 0
  renamedColumns cs = (c : Column) → In c cs → ef c.quant c.place ≡ true → free_with ef' cl' one' two (φ c.quant c.place) ≡ true

  mutual
    pub renamed-free : (x : Term) → renamedColumns (columns_in x) → SameNodes ef ef' cl cl' one one' (nodes_in x) → single_free x ≡ true → free_with ef cl one s x ≡ true → free_with ef' cl' one' two (renamed φ x) ≡ true
    renamed-free (int u) hc hn v h = h
    renamed-free (text x) hc hn v h = refl
    renamed-free null_int hc hn v h = refl
    renamed-free null_text hc hn v h = refl
    renamed-free (col r j) hc hn v h = hc (record { quant = r; place = j }) (inl refl) h
    renamed-free (scalar r) hc hn v h = let n = hn (node.Scalar r) (inl refl) in let p = and_parts (cl r) (one r && ef r 1) h in and_from (cl' r) (one' r && ef' r 1) (n.0 p.0) (and_from (one' r) (ef' r 1) n.1.0 (n.1.1 (and_parts (one r) (ef r 1) p.1).1))
    renamed-free (both o x y) hc hn v h =
        let u = and_parts (single_free x) (single_free y) v in
        both-of (keeps_free o y) (free_with ef cl one s x && free_with ef cl one s y) (keeps_free o (renamed φ y)) (free_with ef' cl' one' two (renamed φ x) && free_with ef' cl' one' two (renamed φ y)) (renamed-keeps φ o y)
        (both-of (free_with ef cl one s x) (free_with ef cl one s y) (free_with ef' cl' one' two (renamed φ x)) (free_with ef' cl' one' two (renamed φ y)) (renamed-free x (λ c i. hc c (in-left c (columns_in x) (columns_in y) i)) (λ c i. hn c (in-left c (nodes_in x) (nodes_in y) i)) u.0) (renamed-free y (λ c i. hc c (in-right c (columns_in x) (columns_in y) i)) (λ c i. hn c (in-right c (nodes_in x) (nodes_in y) i)) u.1)) h
    renamed-free (minus_of x) hc hn v h = h
    renamed-free (choose a x) hc hn v h =
        let u = and_parts (single_free_arms a) (single_free x) v in
        both-of (arms_with ef cl one s a) (free_with ef cl one s x) (arms_with ef' cl' one' two (renamed_arms φ a)) (free_with ef' cl' one' two (renamed φ x)) (renamed-arms a (λ c i. hc c (in-left c (listed_arms named.columns a) (columns_in x) i)) (λ c i. hn c (in-left c (listed_arms named.nodes a) (nodes_in x) i)) u.0) (renamed-free x (λ c i. hc c (in-right c (listed_arms named.columns a) (columns_in x) i)) (λ c i. hn c (in-right c (listed_arms named.nodes a) (nodes_in x) i)) u.1) h
    renamed-free count_all hc hn v h = refl
    renamed-free (fold f d x) hc hn v h = let u = and_parts (not_single f) (single_free x) v in both-of (fold_free s f) (free_with ef cl one s x) (fold_free two f) (free_with ef' cl' one' two (renamed φ x)) (fold-any s two f u.0) (renamed-free x hc hn u.1) h

    renamed-arms : (a : Arms) → renamedColumns (listed_arms named.columns a) → SameNodes ef ef' cl cl' one one' (listed_arms named.nodes a) → single_free_arms a ≡ true → arms_with ef cl one s a ≡ true → arms_with ef' cl' one' two (renamed_arms φ a) ≡ true
    renamed-arms no_arm hc hn v h = refl
    renamed-arms (arm p x a) hc hn v h =
        let u = and_parts (single_free_cond p) (single_free x && single_free_arms a) v in
        let z = and_parts (single_free x) (single_free_arms a) u.1 in
        both-of (cond_with ef cl one s p) (free_with ef cl one s x && arms_with ef cl one s a) (cond_with ef' cl' one' two (renamed_cond φ p)) (free_with ef' cl' one' two (renamed φ x) && arms_with ef' cl' one' two (renamed_arms φ a))
        (renamed-cond p (λ c i. hc c (in-left c (columns_in_cond p) (columns_in x ++ listed_arms named.columns a) i)) (λ c i. hn c (in-left c (nodes_in_cond p) (nodes_in x ++ listed_arms named.nodes a) i)) u.0)
        (both-of (free_with ef cl one s x) (arms_with ef cl one s a) (free_with ef' cl' one' two (renamed φ x)) (arms_with ef' cl' one' two (renamed_arms φ a))
        (renamed-free x (λ c i. hc c (in-right c (columns_in_cond p) (columns_in x ++ listed_arms named.columns a) (in-left c (columns_in x) (listed_arms named.columns a) i))) (λ c i. hn c (in-right c (nodes_in_cond p) (nodes_in x ++ listed_arms named.nodes a) (in-left c (nodes_in x) (listed_arms named.nodes a) i))) z.0)
        (renamed-arms a (λ c i. hc c (in-right c (columns_in_cond p) (columns_in x ++ listed_arms named.columns a) (in-right c (columns_in x) (listed_arms named.columns a) i))) (λ c i. hn c (in-right c (nodes_in_cond p) (nodes_in x ++ listed_arms named.nodes a) (in-right c (nodes_in x) (listed_arms named.nodes a) i))) z.1)) h

    pub renamed-cond : (p : Cond) → renamedColumns (columns_in_cond p) → SameNodes ef ef' cl cl' one one' (nodes_in_cond p) → single_free_cond p ≡ true → cond_with ef cl one s p ≡ true → cond_with ef' cl' one' two (renamed_cond φ p) ≡ true
    renamed-cond always hc hn v h = refl
    renamed-cond (compare sign x y) hc hn v h =
        let u = and_parts (single_free x) (single_free y) v in
        both-of (free_with ef cl one s x) (free_with ef cl one s y) (free_with ef' cl' one' two (renamed φ x)) (free_with ef' cl' one' two (renamed φ y)) (renamed-free x (λ c i. hc c (in-left c (columns_in x) (columns_in y) i)) (λ c i. hn c (in-left c (nodes_in x) (nodes_in y) i)) u.0) (renamed-free y (λ c i. hc c (in-right c (columns_in x) (columns_in y) i)) (λ c i. hn c (in-right c (nodes_in x) (nodes_in y) i)) u.1) h
    renamed-cond (is_null x) hc hn v h = renamed-free x hc hn v h
    renamed-cond (and p r) hc hn v h =
        let u = and_parts (single_free_cond p) (single_free_cond r) v in
        both-of (cond_with ef cl one s p) (cond_with ef cl one s r) (cond_with ef' cl' one' two (renamed_cond φ p)) (cond_with ef' cl' one' two (renamed_cond φ r)) (renamed-cond p (λ c i. hc c (in-left c (columns_in_cond p) (columns_in_cond r) i)) (λ c i. hn c (in-left c (nodes_in_cond p) (nodes_in_cond r) i)) u.0) (renamed-cond r (λ c i. hc c (in-right c (columns_in_cond p) (columns_in_cond r) i)) (λ c i. hn c (in-right c (nodes_in_cond p) (nodes_in_cond r) i)) u.1) h
    renamed-cond (or p r) hc hn v h =
        let u = and_parts (single_free_cond p) (single_free_cond r) v in
        both-of (cond_with ef cl one s p) (cond_with ef cl one s r) (cond_with ef' cl' one' two (renamed_cond φ p)) (cond_with ef' cl' one' two (renamed_cond φ r)) (renamed-cond p (λ c i. hc c (in-left c (columns_in_cond p) (columns_in_cond r) i)) (λ c i. hn c (in-left c (nodes_in_cond p) (nodes_in_cond r) i)) u.0) (renamed-cond r (λ c i. hc c (in-right c (columns_in_cond p) (columns_in_cond r) i)) (λ c i. hn c (in-right c (nodes_in_cond p) (nodes_in_cond r) i)) u.1) h
    renamed-cond (not p) hc hn v h = renamed-cond p hc hn v h
    renamed-cond (some r p) hc hn v h = both-of (cl r) (cond_with ef cl one s p) (cl' r) (cond_with ef' cl' one' two (renamed_cond φ p)) (hn (node.Some r) (inl refl)) (renamed-cond p hc (λ c i. hn c (inr i)) v) h
    renamed-cond (every r p) hc hn v h = both-of (cl r) (cond_with ef cl one s p) (cl' r) (cond_with ef' cl' one' two (renamed_cond φ p)) (hn (node.Every r) (inl refl)) (renamed-cond p hc (λ c i. hn c (inr i)) v) h

-- ---- a scalar as a column

column-divides : (q : ℕ) (y : Term) → divides y ≡ true → divides (as_column q y) ≡ true
column-divides q (int v) h = h
column-divides q (text s) h = h
column-divides q null_int h = h
column-divides q null_text h = h
column-divides q (col r j) h = absurd (let z : ⊥ = cc in z)
column-divides q (scalar r) h = absurd (let z : ⊥ = cc in z)
column-divides q (both o x y) h = h
column-divides q (minus_of x) h = h
column-divides q (choose s x) h = h
column-divides q count_all h = h
column-divides q (fold f d x) h = h

column-keeps : (q : ℕ) (o : Op) (y : Term) → keeps_free o y ≡ true → keeps_free o (as_column q y) ≡ true
column-keeps q Add y h = h
column-keeps q Sub y h = h
column-keeps q Mul y h = h
column-keeps q Div y h = column-divides q y h
column-keeps q Cat y h = refl

module _ (ef ef' : ℕ → ℕ → Bool) (cl cl' one one' : ℕ → Bool) (q : ℕ) (s two : Bool) where
  -- what is asked of columns
  abbrev columnColumns : List Column → Type 0
  columnColumns cs = (c : Column) → In c cs → ef c.quant c.place ≡ true → ef' c.quant c.place ≡ true

  mutual
    pub column-free : (x : Term) → columnColumns (columns_in x) → SameNodes ef ef' cl cl' one one' (nodes_in x) → single_free x ≡ true → free_with ef cl one s x ≡ true → free_with ef' cl' one' two (as_column q x) ≡ true
    column-free (int u) hc hn v h = h
    column-free (text x) hc hn v h = refl
    column-free null_int hc hn v h = refl
    column-free null_text hc hn v h = refl
    column-free (col r j) hc hn v h = hc (record { quant = r; place = j }) (inl refl) h
    column-free (scalar r) hc hn v h = (
        let n = hn (node.Scalar r) (inl refl) in
        let p = and_parts (cl r) (one r && ef r 1) h in
        let e = n.1.1 (and_parts (one r) (ef r 1) p.1).1 in
        elim (cases_Bool (r == q)) [
          | inl e1 ↦ ap (λ b. free_with ef' cl' one' two (cond b (col q 1) (scalar r))) e1 ∙ subst (λ z. ef' z 1 ≡ true) (eqb-true r q e1) e
          | inr e1 ↦ ap (λ b. free_with ef' cl' one' two (cond b (col q 1) (scalar r))) e1 ∙ and_from (cl' r) (one' r && ef' r 1) (n.0 p.0) (and_from (one' r) (ef' r 1) n.1.0 e)
        ])
    column-free (both o x y) hc hn v h =
        let u = and_parts (single_free x) (single_free y) v in
        both-of (keeps_free o y) (free_with ef cl one s x && free_with ef cl one s y) (keeps_free o (as_column q y)) (free_with ef' cl' one' two (as_column q x) && free_with ef' cl' one' two (as_column q y)) (column-keeps q o y)
        (both-of (free_with ef cl one s x) (free_with ef cl one s y) (free_with ef' cl' one' two (as_column q x)) (free_with ef' cl' one' two (as_column q y)) (column-free x (λ c i. hc c (in-left c (columns_in x) (columns_in y) i)) (λ c i. hn c (in-left c (nodes_in x) (nodes_in y) i)) u.0) (column-free y (λ c i. hc c (in-right c (columns_in x) (columns_in y) i)) (λ c i. hn c (in-right c (nodes_in x) (nodes_in y) i)) u.1)) h
    column-free (minus_of x) hc hn v h = h
    column-free (choose a x) hc hn v h =
        let u = and_parts (single_free_arms a) (single_free x) v in
        both-of (arms_with ef cl one s a) (free_with ef cl one s x) (arms_with ef' cl' one' two (as_column_arms q a)) (free_with ef' cl' one' two (as_column q x)) (column-arms a (λ c i. hc c (in-left c (listed_arms named.columns a) (columns_in x) i)) (λ c i. hn c (in-left c (listed_arms named.nodes a) (nodes_in x) i)) u.0) (column-free x (λ c i. hc c (in-right c (listed_arms named.columns a) (columns_in x) i)) (λ c i. hn c (in-right c (listed_arms named.nodes a) (nodes_in x) i)) u.1) h
    column-free count_all hc hn v h = refl
    column-free (fold f d x) hc hn v h = let u = and_parts (not_single f) (single_free x) v in both-of (fold_free s f) (free_with ef cl one s x) (fold_free two f) (free_with ef' cl' one' two (as_column q x)) (fold-any s two f u.0) (column-free x hc hn u.1) h

    column-arms : (a : Arms) → columnColumns (listed_arms named.columns a) → SameNodes ef ef' cl cl' one one' (listed_arms named.nodes a) → single_free_arms a ≡ true → arms_with ef cl one s a ≡ true → arms_with ef' cl' one' two (as_column_arms q a) ≡ true
    column-arms no_arm hc hn v h = refl
    column-arms (arm p x a) hc hn v h =
        let u = and_parts (single_free_cond p) (single_free x && single_free_arms a) v in
        let z = and_parts (single_free x) (single_free_arms a) u.1 in
        both-of (cond_with ef cl one s p) (free_with ef cl one s x && arms_with ef cl one s a) (cond_with ef' cl' one' two (as_column_cond q p)) (free_with ef' cl' one' two (as_column q x) && arms_with ef' cl' one' two (as_column_arms q a))
        (column-cond p (λ c i. hc c (in-left c (columns_in_cond p) (columns_in x ++ listed_arms named.columns a) i)) (λ c i. hn c (in-left c (nodes_in_cond p) (nodes_in x ++ listed_arms named.nodes a) i)) u.0)
        (both-of (free_with ef cl one s x) (arms_with ef cl one s a) (free_with ef' cl' one' two (as_column q x)) (arms_with ef' cl' one' two (as_column_arms q a))
        (column-free x (λ c i. hc c (in-right c (columns_in_cond p) (columns_in x ++ listed_arms named.columns a) (in-left c (columns_in x) (listed_arms named.columns a) i))) (λ c i. hn c (in-right c (nodes_in_cond p) (nodes_in x ++ listed_arms named.nodes a) (in-left c (nodes_in x) (listed_arms named.nodes a) i))) z.0)
        (column-arms a (λ c i. hc c (in-right c (columns_in_cond p) (columns_in x ++ listed_arms named.columns a) (in-right c (columns_in x) (listed_arms named.columns a) i))) (λ c i. hn c (in-right c (nodes_in_cond p) (nodes_in x ++ listed_arms named.nodes a) (in-right c (nodes_in x) (listed_arms named.nodes a) i))) z.1)) h

    pub column-cond : (p : Cond) → columnColumns (columns_in_cond p) → SameNodes ef ef' cl cl' one one' (nodes_in_cond p) → single_free_cond p ≡ true → cond_with ef cl one s p ≡ true → cond_with ef' cl' one' two (as_column_cond q p) ≡ true
    column-cond always hc hn v h = refl
    column-cond (compare sign x y) hc hn v h =
        let u = and_parts (single_free x) (single_free y) v in
        both-of (free_with ef cl one s x) (free_with ef cl one s y) (free_with ef' cl' one' two (as_column q x)) (free_with ef' cl' one' two (as_column q y)) (column-free x (λ c i. hc c (in-left c (columns_in x) (columns_in y) i)) (λ c i. hn c (in-left c (nodes_in x) (nodes_in y) i)) u.0) (column-free y (λ c i. hc c (in-right c (columns_in x) (columns_in y) i)) (λ c i. hn c (in-right c (nodes_in x) (nodes_in y) i)) u.1) h
    column-cond (is_null x) hc hn v h = column-free x hc hn v h
    column-cond (and p r) hc hn v h =
        let u = and_parts (single_free_cond p) (single_free_cond r) v in
        both-of (cond_with ef cl one s p) (cond_with ef cl one s r) (cond_with ef' cl' one' two (as_column_cond q p)) (cond_with ef' cl' one' two (as_column_cond q r)) (column-cond p (λ c i. hc c (in-left c (columns_in_cond p) (columns_in_cond r) i)) (λ c i. hn c (in-left c (nodes_in_cond p) (nodes_in_cond r) i)) u.0) (column-cond r (λ c i. hc c (in-right c (columns_in_cond p) (columns_in_cond r) i)) (λ c i. hn c (in-right c (nodes_in_cond p) (nodes_in_cond r) i)) u.1) h
    column-cond (or p r) hc hn v h =
        let u = and_parts (single_free_cond p) (single_free_cond r) v in
        both-of (cond_with ef cl one s p) (cond_with ef cl one s r) (cond_with ef' cl' one' two (as_column_cond q p)) (cond_with ef' cl' one' two (as_column_cond q r)) (column-cond p (λ c i. hc c (in-left c (columns_in_cond p) (columns_in_cond r) i)) (λ c i. hn c (in-left c (nodes_in_cond p) (nodes_in_cond r) i)) u.0) (column-cond r (λ c i. hc c (in-right c (columns_in_cond p) (columns_in_cond r) i)) (λ c i. hn c (in-right c (nodes_in_cond p) (nodes_in_cond r) i)) u.1) h
    column-cond (not p) hc hn v h = column-cond p hc hn v h
    column-cond (some r p) hc hn v h = both-of (cl r) (cond_with ef cl one s p) (cl' r) (cond_with ef' cl' one' two (as_column_cond q p)) (hn (node.Some r) (inl refl)) (column-cond p hc (λ c i. hn c (inr i)) v) h
    column-cond (every r p) hc hn v h = both-of (cl r) (cond_with ef cl one s p) (cl' r) (cond_with ef' cl' one' two (as_column_cond q p)) (hn (node.Every r) (inl refl)) (column-cond p hc (λ c i. hn c (inr i)) v) h

-- ---- what renamed expressions name

module _ (φ : ℕ → ℕ → Term) where
  -- the column that one of these comes from
  abbrev renamedFrom : Column → List Column → Type 0
  renamedFrom y cs = (c : Column) × (In c cs × In y (columns_in (φ c.quant c.place)))

  renamed-left : (y : Column) (xs ys : List Column) → renamedFrom y xs → renamedFrom y (xs ++ ys)
  renamed-left y xs ys f = (f.0, (in-left f.0 xs ys f.1.0, f.1.1))

  renamed-right : (y : Column) (xs ys : List Column) → renamedFrom y ys → renamedFrom y (xs ++ ys)
  renamed-right y xs ys f = (f.0, (in-right f.0 xs ys f.1.0, f.1.1))

  mutual
    pub renamed-columns : (y : Column) (x : Term) → In y (columns_in (renamed φ x)) → renamedFrom y (columns_in x)
    renamed-columns y (int n) i = elim i [ ]
    renamed-columns y (text s) i = elim i [ ]
    renamed-columns y null_int i = elim i [ ]
    renamed-columns y null_text i = elim i [ ]
    renamed-columns y (scalar r) i = elim i [ ]
    renamed-columns y count_all i = elim i [ ]
    renamed-columns y (col r j) i = (record { quant = r; place = j }, (inl refl, i))
    renamed-columns y (both o a b) i = elim (in-append y (columns_in (renamed φ a)) (columns_in (renamed φ b)) i) [ inl j ↦ renamed-left y (columns_in a) (columns_in b) (renamed-columns y a j) | inr j ↦ renamed-right y (columns_in a) (columns_in b) (renamed-columns y b j) ]
    renamed-columns y (minus_of a) i = renamed-columns y a i
    renamed-columns y (choose a x) i = elim (in-append y (listed_arms named.columns (renamed_arms φ a)) (columns_in (renamed φ x)) i) [ inl j ↦ renamed-left y (listed_arms named.columns a) (columns_in x) (renamed-columns_arms y a j) | inr j ↦ renamed-right y (listed_arms named.columns a) (columns_in x) (renamed-columns y x j) ]
    renamed-columns y (fold f d a) i = renamed-columns y a i

    renamed-columns_arms : (y : Column) (a : Arms) → In y (listed_arms named.columns (renamed_arms φ a)) → renamedFrom y (listed_arms named.columns a)
    renamed-columns_arms y no_arm i = elim i [ ]
    renamed-columns_arms y (arm p x a) i = elim (in-append y (columns_in_cond (renamed_cond φ p)) (columns_in (renamed φ x) ++ listed_arms named.columns (renamed_arms φ a)) i) [
      | inl j ↦ renamed-left y (columns_in_cond p) (columns_in x ++ listed_arms named.columns a) (renamed-columns_cond y p j)
      | inr j ↦ renamed-right y (columns_in_cond p) (columns_in x ++ listed_arms named.columns a) (elim (in-append y (columns_in (renamed φ x)) (listed_arms named.columns (renamed_arms φ a)) j) [ inl z ↦ renamed-left y (columns_in x) (listed_arms named.columns a) (renamed-columns y x z) | inr z ↦ renamed-right y (columns_in x) (listed_arms named.columns a) (renamed-columns_arms y a z) ])
    ]

    pub renamed-columns_cond : (y : Column) (p : Cond) → In y (columns_in_cond (renamed_cond φ p)) → renamedFrom y (columns_in_cond p)
    renamed-columns_cond y always i = elim i [ ]
    renamed-columns_cond y (compare sign a b) i = elim (in-append y (columns_in (renamed φ a)) (columns_in (renamed φ b)) i) [ inl j ↦ renamed-left y (columns_in a) (columns_in b) (renamed-columns y a j) | inr j ↦ renamed-right y (columns_in a) (columns_in b) (renamed-columns y b j) ]
    renamed-columns_cond y (is_null a) i = renamed-columns y a i
    renamed-columns_cond y (and a b) i = elim (in-append y (columns_in_cond (renamed_cond φ a)) (columns_in_cond (renamed_cond φ b)) i) [ inl j ↦ renamed-left y (columns_in_cond a) (columns_in_cond b) (renamed-columns_cond y a j) | inr j ↦ renamed-right y (columns_in_cond a) (columns_in_cond b) (renamed-columns_cond y b j) ]
    renamed-columns_cond y (or a b) i = elim (in-append y (columns_in_cond (renamed_cond φ a)) (columns_in_cond (renamed_cond φ b)) i) [ inl j ↦ renamed-left y (columns_in_cond a) (columns_in_cond b) (renamed-columns_cond y a j) | inr j ↦ renamed-right y (columns_in_cond a) (columns_in_cond b) (renamed-columns_cond y b j) ]
    renamed-columns_cond y (not a) i = renamed-columns_cond y a i
    renamed-columns_cond y (some r a) i = renamed-columns_cond y a i
    renamed-columns_cond y (every r a) i = renamed-columns_cond y a i

-- ---- cells put in for the columns of a quantifier without nodes are a renaming

module _ (q : ℕ) (cells : List Term) where
  abbrev pub putting : ℕ → ℕ → Term
  putting = column_substituted q cells

  mutual
    pub put-renamed : (x : Term) → names q x ≡ false → substituted q cells x ≡ renamed (column_substituted q cells) x
    put-renamed (int n) h = refl
    put-renamed (text s) h = refl
    put-renamed null_int h = refl
    put-renamed null_text h = refl
    put-renamed (col r j) h = refl
    put-renamed (scalar r) h = refl
    put-renamed count_all h = refl
    put-renamed (both o x y) h = let p = or_parts (names q x) (names q y) h in ap₂ (both o) (put-renamed x p.0) (put-renamed y p.1)
    put-renamed (minus_of x) h = ap minus_of (put-renamed x h)
    put-renamed (choose a x) h = let p = or_parts (names_arms q a) (names q x) h in ap₂ choose (put-renamed-arms a p.0) (put-renamed x p.1)
    put-renamed (fold f d x) h = ap (fold f d) (put-renamed x h)

    put-renamed-arms : (a : Arms) → names_arms q a ≡ false → substituted_arms q cells a ≡ renamed_arms (column_substituted q cells) a
    put-renamed-arms no_arm h = refl
    put-renamed-arms (arm p x a) h =
        let u = or_parts (names_cond q p) (names q x || names_arms q a) h in
        let v = or_parts (names q x) (names_arms q a) u.1 in
        ap₂ (λ (c : Cond) (z : Term × Arms). arm c z.0 z.1) (put-renamed-cond p u.0) (ap₂ (λ (y : Term) (b : Arms). (y, b)) (put-renamed x v.0) (put-renamed-arms a v.1))

    pub put-renamed-cond : (p : Cond) → names_cond q p ≡ false → substituted_cond q cells p ≡ renamed_cond (column_substituted q cells) p
    put-renamed-cond always h = refl
    put-renamed-cond (compare sign x y) h = let p = or_parts (names q x) (names q y) h in ap₂ (compare sign) (put-renamed x p.0) (put-renamed y p.1)
    put-renamed-cond (is_null x) h = ap is_null (put-renamed x h)
    put-renamed-cond (and p r) h = let u = or_parts (names_cond q p) (names_cond q r) h in ap₂ and (put-renamed-cond p u.0) (put-renamed-cond r u.1)
    put-renamed-cond (or p r) h = let u = or_parts (names_cond q p) (names_cond q r) h in ap₂ or (put-renamed-cond p u.0) (put-renamed-cond r u.1)
    put-renamed-cond (not p) h = ap not (put-renamed-cond p h)
    put-renamed-cond (some r p) h =
        let u = or_parts (r == q) (names_cond q p) h in
        ap (λ b. some r (cond b p (substituted_cond q cells p))) u.0 ∙ ap (some r) (put-renamed-cond p u.1)
    put-renamed-cond (every r p) h =
        let u = or_parts (r == q) (names_cond q p) h in
        ap (λ b. every r (cond b p (substituted_cond q cells p))) u.0 ∙ ap (every r) (put-renamed-cond p u.1)

  pub puts-renamed : (xs : List Term) → list_any (names q) xs ≡ false → map (substituted q cells) xs ≡ map (renamed (column_substituted q cells)) xs
  puts-renamed [] h = refl
  puts-renamed (x ∷ xs) h = let p = or_parts (names q x) (list_any (names q) xs) h in ap₂ (λ (y : Term) (ys : List Term). y ∷ ys) (put-renamed x p.0) (puts-renamed xs p.1)

  pub puts-renamed-conds : (xs : List Cond) → list_any (names_cond q) xs ≡ false → map (substituted_cond q cells) xs ≡ map (renamed_cond (column_substituted q cells)) xs
  puts-renamed-conds [] h = refl
  puts-renamed-conds (x ∷ xs) h = let p = or_parts (names_cond q x) (list_any (names_cond q) xs) h in ap₂ (λ (y : Cond) (ys : List Cond). y ∷ ys) (put-renamed-cond x p.0) (puts-renamed-conds xs p.1)

-- ---- no `single` comes in

module _ (φ : ℕ → ℕ → Term) (plain : (r j : ℕ) → single_free (φ r j) ≡ true) where
  mutual
    pub renamed-single : (x : Term) → single_free x ≡ true → single_free (renamed φ x) ≡ true
    renamed-single (int n) h = refl
    renamed-single (text s) h = refl
    renamed-single null_int h = refl
    renamed-single null_text h = refl
    renamed-single (scalar r) h = refl
    renamed-single count_all h = refl
    renamed-single (col r j) h = plain r j
    renamed-single (both o x y) h = both-of (single_free x) (single_free y) (single_free (renamed φ x)) (single_free (renamed φ y)) (renamed-single x) (renamed-single y) h
    renamed-single (minus_of x) h = renamed-single x h
    renamed-single (choose a x) h = both-of (single_free_arms a) (single_free x) (single_free_arms (renamed_arms φ a)) (single_free (renamed φ x)) (renamed-single-arms a) (renamed-single x) h
    renamed-single (fold f d x) h = both-of (not_single f) (single_free x) (not_single f) (single_free (renamed φ x)) (λ z. z) (renamed-single x) h

    renamed-single-arms : (a : Arms) → single_free_arms a ≡ true → single_free_arms (renamed_arms φ a) ≡ true
    renamed-single-arms no_arm h = refl
    renamed-single-arms (arm p x a) h = both-of (single_free_cond p) (single_free x && single_free_arms a) (single_free_cond (renamed_cond φ p)) (single_free (renamed φ x) && single_free_arms (renamed_arms φ a)) (renamed-single-cond p) (both-of (single_free x) (single_free_arms a) (single_free (renamed φ x)) (single_free_arms (renamed_arms φ a)) (renamed-single x) (renamed-single-arms a)) h

    pub renamed-single-cond : (p : Cond) → single_free_cond p ≡ true → single_free_cond (renamed_cond φ p) ≡ true
    renamed-single-cond always h = refl
    renamed-single-cond (compare sign x y) h = both-of (single_free x) (single_free y) (single_free (renamed φ x)) (single_free (renamed φ y)) (renamed-single x) (renamed-single y) h
    renamed-single-cond (is_null x) h = renamed-single x h
    renamed-single-cond (and p r) h = both-of (single_free_cond p) (single_free_cond r) (single_free_cond (renamed_cond φ p)) (single_free_cond (renamed_cond φ r)) (renamed-single-cond p) (renamed-single-cond r) h
    renamed-single-cond (or p r) h = both-of (single_free_cond p) (single_free_cond r) (single_free_cond (renamed_cond φ p)) (single_free_cond (renamed_cond φ r)) (renamed-single-cond p) (renamed-single-cond r) h
    renamed-single-cond (not p) h = renamed-single-cond p h
    renamed-single-cond (some r p) h = renamed-single-cond p h
    renamed-single-cond (every r p) h = renamed-single-cond p h

-- where no aggregate stands no `single` does
mutual
  pub bare-single : (x : Term) → has_aggregate x ≡ false → single_free x ≡ true
  bare-single (int n) h = refl
  bare-single (text s) h = refl
  bare-single null_int h = refl
  bare-single null_text h = refl
  bare-single (col r j) h = refl
  bare-single (scalar r) h = refl
  bare-single (both o x y) h = let p = or_parts (has_aggregate x) (has_aggregate y) h in and_from (single_free x) (single_free y) (bare-single x p.0) (bare-single y p.1)
  bare-single (minus_of x) h = bare-single x h
  bare-single (choose a x) h = let p = or_parts (any_in_arms (wanted Aggregate) a) (has_aggregate x) h in and_from (single_free_arms a) (single_free x) (bare-single-arms a p.0) (bare-single x p.1)
  bare-single count_all h = absurd (let z : ⊥ = cc in z)
  bare-single (fold f d x) h = absurd (let z : ⊥ = cc in z)

  bare-single-arms : (a : Arms) → any_in_arms (wanted Aggregate) a ≡ false → single_free_arms a ≡ true
  bare-single-arms no_arm h = refl
  bare-single-arms (arm p x a) h =
      let u = or_parts (has_aggregate_cond p) (has_aggregate x || any_in_arms (wanted Aggregate) a) h in
      let v = or_parts (has_aggregate x) (any_in_arms (wanted Aggregate) a) u.1 in
      and_from (single_free_cond p) (single_free x && single_free_arms a) (bare-single-cond p u.0) (and_from (single_free x) (single_free_arms a) (bare-single x v.0) (bare-single-arms a v.1))

  pub bare-single-cond : (p : Cond) → has_aggregate_cond p ≡ false → single_free_cond p ≡ true
  bare-single-cond always h = refl
  bare-single-cond (compare sign x y) h = let p = or_parts (has_aggregate x) (has_aggregate y) h in and_from (single_free x) (single_free y) (bare-single x p.0) (bare-single y p.1)
  bare-single-cond (is_null x) h = bare-single x h
  bare-single-cond (and p r) h = let u = or_parts (has_aggregate_cond p) (has_aggregate_cond r) h in and_from (single_free_cond p) (single_free_cond r) (bare-single-cond p u.0) (bare-single-cond r u.1)
  bare-single-cond (or p r) h = let u = or_parts (has_aggregate_cond p) (has_aggregate_cond r) h in and_from (single_free_cond p) (single_free_cond r) (bare-single-cond p u.0) (bare-single-cond r u.1)
  bare-single-cond (not p) h = bare-single-cond p h
  bare-single-cond (some r p) h = bare-single-cond p h
  bare-single-cond (every r p) h = bare-single-cond p h
