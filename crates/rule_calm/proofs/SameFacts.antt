-- What is inferred of a box from two sets of facts, of which the second says as much of what the box ranges over and names.
use Rattle.std.proofs.Common.{ℕ, zero, suc, ◌≡◌, ◌&&◌, cond, Bool, true, false, List, [], ◌∷◌, take, length, Option, Some, None, slice_get, refl, sym, ◌∙◌, inl, inr}
use Rattle.std.specs.List.{flat_map, list_all}
use Rattle.std.proofs.lemmas.Bool.{and_from, and_parts}
use Rattle.list_laws.specs.Lists.{In}
use Rattle.list_laws.proofs.Membership.{all-from, all-in, flat-in, in-left, in-right}
use Rattle.qgm_core.specs.Kinds.{is_F}
use Rattle.qgm_core.specs.declared.kinds.BoxKind.{BoxKind}
use Rattle.qgm_core.specs.declared.kinds.BoxKind.TheVariants.{Base, Select, Group, SetOp, OuterJoin}
use Rattle.qgm_core.specs.declared.kinds.SetOperator.{SetOperator}
use Rattle.qgm_core.specs.declared.kinds.SetOperator.TheVariants.{UnionAll, Union, IntersectAll, Intersect, ExceptAll, Except}
use Rattle.qgm_core.specs.declared.node.Node.{Node}
use Rattle.qgm_core.specs.declared.owned.OwnedQuant.{OwnedQuant}
use Rattle.qgm_terms.specs.Named.{columns_in, columns_in_cond, nodes_in, nodes_in_cond}
use Rattle.qgm_terms.specs.Terms.{Cond, Term}
use Rattle.qgm_wellformed.specs.Columns.{columns_of}
use Rattle.qgm_wellformed.specs.Shapes.{nodes_of}
use Rattle.qgm_props.specs.Inferred.{Facts, all_places, all_under_F, arms_error_free, at_place, clean_by, clean_op, cond_free, free_by, free_op, is_free, of_cell, under_first, under_second, under_two}
use Rattle.rule_calm.specs.Settled.{has_no_single, single_free, single_free_cond}
use Rattle.rule_calm.proofs.FreeTerms.{SameColumns, SameNodes, cl_of, cond-is, ef_of, free-is, one_of, same-cond, same-free}

pub both-of : (a b c d : Bool) → (a ≡ true → c ≡ true) → (b ≡ true → d ≡ true) → (a && b) ≡ true → (c && d) ≡ true
both-of a b c d f g h = let p = and_parts a b h in and_from c d (f p.0) (g p.1)

-- what passes one test under these quantifiers passes another
abbrev pub OfOvers : List OwnedQuant → (ℕ → Bool) → (ℕ → Bool) → Type 0
OfOvers rs f g = (r : OwnedQuant) → In r rs → f r.over ≡ true → g r.over ≡ true

module _ (f g : ℕ → Bool) where
  pub all-F-of : (rs : List OwnedQuant) → OfOvers rs f g → all_under_F f rs ≡ true → all_under_F g rs ≡ true
  all-F-of [] w h = refl
  all-F-of (r ∷ rs) w h = one (is_F r.kind) (all-F-of rs (λ s i. w s (inr i))) h
    where
      one : (b : Bool) → (all_under_F f rs ≡ true → all_under_F g rs ≡ true) → cond b (f r.over && all_under_F f rs) (all_under_F f rs) ≡ true → cond b (g r.over && all_under_F g rs) (all_under_F g rs) ≡ true
      one true i h = both-of (f r.over) (all_under_F f rs) (g r.over) (all_under_F g rs) (w r (inl refl)) i h
      one false i h = i h

  pub first-of : (rs : List OwnedQuant) → OfOvers rs f g → under_first f rs ≡ true → under_first g rs ≡ true
  first-of [] w h = h
  first-of (r ∷ rs) w h = w r (inl refl) h

  pub second-of : (rs : List OwnedQuant) → OfOvers rs f g → under_second f rs ≡ true → under_second g rs ≡ true
  second-of [] w h = h
  second-of (r ∷ rs) w h = first-of rs (λ s i. w s (inr i)) h

  pub two-of : (rs : List OwnedQuant) → OfOvers rs f g → under_two f rs ≡ true → under_two g rs ≡ true
  two-of rs w h = both-of (under_first f rs) (under_second f rs) (under_first g rs) (under_second g rs) (first-of rs w) (second-of rs w) h

pub places-of : (w : ℕ) (f g : ℕ → Bool) → ((k : ℕ) → f k ≡ true → g k ≡ true) → all_places w f ≡ true → all_places w g ≡ true
places-of zero f g b h = refl
places-of (suc w) f g b h = both-of (f (suc w)) (all_places w f) (g (suc w)) (all_places w g) (b (suc w)) (places-of w f g b) h

pub in-take : {X : Type 0} (x : X) (k : ℕ) (xs : List X) → In x (take k xs) → In x xs
in-take x zero xs i = elim i [ ]
in-take x (suc k) [] i = elim i [ ]
in-take x (suc k) (y ∷ xs) i = elim i [ inl e ↦ inl e | inr j ↦ inr (in-take x k xs j) ]

pub place-in : {X : Type 0} (x : X) (k : ℕ) (xs : List X) → slice_get xs k ≡ Some x → In x xs
place-in x k [] e = absurd (let z : ⊥ = cc in z)
place-in x zero (y ∷ xs) e = inl (let z : y ≡ x = cc in z)
place-in x (suc k) (y ∷ xs) e = inr (place-in x k xs e)

pub place-of : (p q : Term → Bool) (head : List Term) (k : ℕ) → ((x : Term) → In x head → p x ≡ true → q x ≡ true) → at_place p head k ≡ true → at_place q head k ≡ true
place-of p q head zero w h = h
place-of p q head (suc k) w h = go (slice_get head k) refl h
  where
    go : (o : Option Term) → slice_get head k ≡ o → of_cell p o ≡ true → of_cell q o ≡ true
    go None e h = h
    go (Some x) e h = w x (place-in x k head e) h

pub list-of : {X : Type 0} (p q : X → Bool) (xs : List X) → ((x : X) → In x xs → p x ≡ true → q x ≡ true) → list_all p xs ≡ true → list_all q xs ≡ true
list-of p q xs w h = all-from q xs (λ x i. w x i (all-in p x xs h i))

-- of the cells and conditions of a box
module _ (bs hs : List Node) (f g : Facts) (n : Node)
    (hc : SameColumns (ef_of bs f) (ef_of hs g) (cl_of bs f) (cl_of hs g) (one_of bs f) (one_of hs g) (columns_of n))
    (hn : SameNodes (ef_of bs f) (ef_of hs g) (cl_of bs f) (cl_of hs g) (one_of bs f) (one_of hs g) (nodes_of n))
    (ns : has_no_single n ≡ true) where
  heads : list_all single_free n.parts.head ≡ true
  heads = (and_parts (list_all single_free n.parts.head) (list_all single_free_cond n.parts.conds.items) ns).0

  conds : list_all single_free_cond n.parts.conds.items ≡ true
  conds = (and_parts (list_all single_free n.parts.head) (list_all single_free_cond n.parts.conds.items) ns).1

  pub cell-same : (s two : Bool) (x : Term) → In x n.parts.head → is_free bs f s x ≡ true → is_free hs g two x ≡ true
  cell-same s two x i h = free-is hs g two x ∙ same-free (ef_of bs f) (ef_of hs g) (cl_of bs f) (cl_of hs g) (one_of bs f) (one_of hs g) s two x
      (λ c j. hc c (in-left c (flat_map columns_in n.parts.head) (flat_map columns_in_cond n.parts.conds.items) (flat-in columns_in x c n.parts.head i j)))
      (λ z j. hn z (in-left z (flat_map nodes_in n.parts.head) (flat_map nodes_in_cond n.parts.conds.items) (flat-in nodes_in x z n.parts.head i j)))
      (all-in single_free x n.parts.head heads i) (sym (free-is bs f s x) ∙ h)

  pub cond-same : (s two : Bool) (p : Cond) → In p n.parts.conds.items → cond_free bs f s p ≡ true → cond_free hs g two p ≡ true
  cond-same s two p i h = cond-is hs g two p ∙ same-cond (ef_of bs f) (ef_of hs g) (cl_of bs f) (cl_of hs g) (one_of bs f) (one_of hs g) s two p
      (λ c j. hc c (in-right c (flat_map columns_in n.parts.head) (flat_map columns_in_cond n.parts.conds.items) (flat-in columns_in_cond p c n.parts.conds.items i j)))
      (λ z j. hn z (in-right z (flat_map nodes_in n.parts.head) (flat_map nodes_in_cond n.parts.conds.items) (flat-in nodes_in_cond p z n.parts.conds.items i j)))
      (all-in single_free_cond p n.parts.conds.items conds i) (sym (cond-is bs f s p) ∙ h)

  -- its boxes are as clean, and their columns as free of errors
  module _ (rows : OfOvers n.quants f.clean g.clean) (cols : (k : ℕ) → OfOvers n.quants (λ b. f.error_free b k) (λ b. g.error_free b k)) where
    arms-same : (w : ℕ) → arms_error_free bs f w n.quants ≡ true → arms_error_free hs g w n.quants ≡ true
    arms-same w h = places-of w (λ k. under_two (λ b. f.error_free b k) n.quants) (λ k. under_two (λ b. g.error_free b k) n.quants) (λ k. two-of (λ b. f.error_free b k) (λ b. g.error_free b k) n.quants (cols k)) h

    op-same : (form : SetOperator) (w : ℕ) → clean_op bs f form w n.quants ≡ true → clean_op hs g form w n.quants ≡ true
    op-same UnionAll w h = two-of f.clean g.clean n.quants rows h
    op-same Union w h = two-of f.clean g.clean n.quants rows h
    op-same IntersectAll w h = both-of (under_two f.clean n.quants) (arms_error_free bs f w n.quants) (under_two g.clean n.quants) (arms_error_free hs g w n.quants) (two-of f.clean g.clean n.quants rows) (arms-same w) h
    op-same Intersect w h = both-of (under_two f.clean n.quants) (arms_error_free bs f w n.quants) (under_two g.clean n.quants) (arms_error_free hs g w n.quants) (two-of f.clean g.clean n.quants rows) (arms-same w) h
    op-same ExceptAll w h = both-of (under_two f.clean n.quants) (arms_error_free bs f w n.quants) (under_two g.clean n.quants) (arms_error_free hs g w n.quants) (two-of f.clean g.clean n.quants rows) (arms-same w) h
    op-same Except w h = both-of (under_two f.clean n.quants) (arms_error_free bs f w n.quants) (under_two g.clean n.quants) (arms_error_free hs g w n.quants) (two-of f.clean g.clean n.quants rows) (arms-same w) h

    conds-same : list_all (cond_free bs f false) n.parts.conds.items ≡ true → list_all (cond_free hs g false) n.parts.conds.items ≡ true
    conds-same h = list-of (cond_free bs f false) (cond_free hs g false) n.parts.conds.items (λ p i. cond-same false false p i) h

    pub clean-same : (kind : BoxKind) → clean_by bs f kind n ≡ true → clean_by hs g kind n ≡ true
    clean-same (Base table) h = refl
    clean-same Select h = both-of (all_under_F f.clean n.quants) (list_all (cond_free bs f false) n.parts.conds.items) (all_under_F g.clean n.quants) (list_all (cond_free hs g false) n.parts.conds.items) (all-F-of f.clean g.clean n.quants rows) conds-same h
    clean-same (Group k) h =
        both-of (under_first f.clean n.quants) (list_all (is_free bs f false) (take k n.parts.head)) (under_first g.clean n.quants) (list_all (is_free hs g false) (take k n.parts.head))
        (first-of f.clean g.clean n.quants rows) (list-of (is_free bs f false) (is_free hs g false) (take k n.parts.head) (λ x i. cell-same false false x (in-take x k n.parts.head i))) h
    clean-same (SetOp form types) h = op-same form (length types) h
    clean-same OuterJoin h = both-of (under_two f.clean n.quants) (list_all (cond_free bs f false) n.parts.conds.items) (under_two g.clean n.quants) (list_all (cond_free hs g false) n.parts.conds.items) (two-of f.clean g.clean n.quants rows) conds-same h

    -- the column of a group, of INTERSECT and of EXCEPT where it is as clean itself
    module _ (here : f.clean n.id ≡ true → g.clean n.id ≡ true) where
      whole-same : (k : ℕ) → (f.clean n.id && under_two (λ b. f.error_free b k) n.quants) ≡ true → (g.clean n.id && under_two (λ b. g.error_free b k) n.quants) ≡ true
      whole-same k h = both-of (f.clean n.id) (under_two (λ b. f.error_free b k) n.quants) (g.clean n.id) (under_two (λ b. g.error_free b k) n.quants) here (two-of (λ b. f.error_free b k) (λ b. g.error_free b k) n.quants (cols k)) h

      free-op-same : (form : SetOperator) (k : ℕ) → free_op bs f form n.id n.quants k ≡ true → free_op hs g form n.id n.quants k ≡ true
      free-op-same UnionAll k h = two-of (λ b. f.error_free b k) (λ b. g.error_free b k) n.quants (cols k) h
      free-op-same Union k h = two-of (λ b. f.error_free b k) (λ b. g.error_free b k) n.quants (cols k) h
      free-op-same IntersectAll k h = whole-same k h
      free-op-same Intersect k h = whole-same k h
      free-op-same ExceptAll k h = whole-same k h
      free-op-same Except k h = whole-same k h

      pub free-same : (kind : BoxKind) (k : ℕ) → free_by bs f kind n k ≡ true → free_by hs g kind n k ≡ true
      free-same (Base table) k h = refl
      free-same Select k h = place-of (is_free bs f false) (is_free hs g false) n.parts.head k (λ x i. cell-same false false x i) h
      free-same (Group keys) k h =
          both-of (f.clean n.id) (at_place (is_free bs f (under_first f.at_most_one n.quants)) n.parts.head k) (g.clean n.id) (at_place (is_free hs g (under_first g.at_most_one n.quants)) n.parts.head k)
          here (place-of (is_free bs f (under_first f.at_most_one n.quants)) (is_free hs g (under_first g.at_most_one n.quants)) n.parts.head k (λ x i. cell-same (under_first f.at_most_one n.quants) (under_first g.at_most_one n.quants) x i)) h
      free-same (SetOp form types) k h = free-op-same form k h
      free-same OuterJoin k h = place-of (is_free bs f false) (is_free hs g false) n.parts.head k (λ x i. cell-same false false x i) h
