-- What is inferred of a set operation from what is known of its operands.
use Rattle.std.proofs.Common.{ℕ, zero, suc, ◌≡◌, ◌≤◌, nat_le, Bool, true, List, refl, subst, inl, inr, arith}
use Rattle.std.proofs.lemmas.Bool.{and_from, and_parts, cases_Bool, leb-false, leb-true}
use Rattle.qgm_core.specs.declared.kinds.SetOperator.{SetOperator}
use Rattle.qgm_core.specs.declared.kinds.SetOperator.TheVariants.{UnionAll, Union, IntersectAll, Intersect, ExceptAll, Except}
use Rattle.qgm_core.specs.declared.node.Node.{Node}
use Rattle.qgm_core.specs.declared.owned.OwnedQuant.{OwnedQuant}
use Rattle.qgm_props.specs.Inferred.{Facts, all_places, arms_error_free, clean_op, free_op, under_two}
use Rattle.rule_calm.proofs.SameFacts.{both-of}

-- what holds at each place holds at one
pub place-at : (w : ℕ) (t : ℕ → Bool) → all_places w t ≡ true → (k : ℕ) → 1 ≤ k → k ≤ w → t k ≡ true
place-at zero t h k s l = absurd (let z : ⊥ = omega (arith, s, l) in z)
place-at (suc w) t h k s l =
    let p = and_parts (t (suc w)) (all_places w t) h in
    elim (cases_Bool (nat_le k w)) [
      | inl e ↦ place-at w t p.1 k s (leb-true k w e)
      | inr e ↦ subst (λ n. t n ≡ true) (let m = leb-false k w e in let z : suc w ≡ k = omega (arith, m, l) in z) p.0
    ]

pub places-from : (w : ℕ) (t : ℕ → Bool) → ((k : ℕ) → 1 ≤ k → k ≤ w → t k ≡ true) → all_places w t ≡ true
places-from zero t h = refl
places-from (suc w) t h = and_from (t (suc w)) (all_places w t) (h (suc w) (omega arith) (omega arith)) (places-from w t (λ k s l. h k s (omega (arith, l))))

module _ (bs hs : List Node) (f g : Facts) where
  pub op-clean : (form : SetOperator) (n : ℕ) (rs : List OwnedQuant) → clean_op bs f form n rs ≡ true → under_two f.clean rs ≡ true
  op-clean UnionAll n rs h = h
  op-clean Union n rs h = h
  op-clean IntersectAll n rs h = (and_parts (under_two f.clean rs) (arms_error_free bs f n rs) h).0
  op-clean Intersect n rs h = (and_parts (under_two f.clean rs) (arms_error_free bs f n rs) h).0
  op-clean ExceptAll n rs h = (and_parts (under_two f.clean rs) (arms_error_free bs f n rs) h).0
  op-clean Except n rs h = (and_parts (under_two f.clean rs) (arms_error_free bs f n rs) h).0

  -- of another operation of the same form
  module _ (n k : ℕ) (rs ss : List OwnedQuant) (rows : under_two f.clean rs ≡ true → under_two g.clean ss ≡ true) (cols : arms_error_free bs f n rs ≡ true → arms_error_free hs g k ss ≡ true) where
    pub op-moved : (form : SetOperator) → clean_op bs f form n rs ≡ true → clean_op hs g form k ss ≡ true
    op-moved UnionAll h = rows h
    op-moved Union h = rows h
    op-moved IntersectAll h = both-of (under_two f.clean rs) (arms_error_free bs f n rs) (under_two g.clean ss) (arms_error_free hs g k ss) rows cols h
    op-moved Intersect h = both-of (under_two f.clean rs) (arms_error_free bs f n rs) (under_two g.clean ss) (arms_error_free hs g k ss) rows cols h
    op-moved ExceptAll h = both-of (under_two f.clean rs) (arms_error_free bs f n rs) (under_two g.clean ss) (arms_error_free hs g k ss) rows cols h
    op-moved Except h = both-of (under_two f.clean rs) (arms_error_free bs f n rs) (under_two g.clean ss) (arms_error_free hs g k ss) rows cols h

  -- a column of it
  pub op-column : (form : SetOperator) (b k : ℕ) (rs : List OwnedQuant) → free_op bs f form b rs k ≡ true → under_two (λ b. f.error_free b k) rs ≡ true
  op-column UnionAll b k rs h = h
  op-column Union b k rs h = h
  op-column IntersectAll b k rs h = (and_parts (f.clean b) (under_two (λ b. f.error_free b k) rs) h).1
  op-column Intersect b k rs h = (and_parts (f.clean b) (under_two (λ b. f.error_free b k) rs) h).1
  op-column ExceptAll b k rs h = (and_parts (f.clean b) (under_two (λ b. f.error_free b k) rs) h).1
  op-column Except b k rs h = (and_parts (f.clean b) (under_two (λ b. f.error_free b k) rs) h).1

  pub column-op : (form : SetOperator) (b k : ℕ) (rs : List OwnedQuant) → f.clean b ≡ true → under_two (λ b. f.error_free b k) rs ≡ true → free_op bs f form b rs k ≡ true
  column-op UnionAll b k rs c h = h
  column-op Union b k rs c h = h
  column-op IntersectAll b k rs c h = and_from (f.clean b) (under_two (λ b. f.error_free b k) rs) c h
  column-op Intersect b k rs c h = and_from (f.clean b) (under_two (λ b. f.error_free b k) rs) c h
  column-op ExceptAll b k rs c h = and_from (f.clean b) (under_two (λ b. f.error_free b k) rs) c h
  column-op Except b k rs c h = and_from (f.clean b) (under_two (λ b. f.error_free b k) rs) c h
