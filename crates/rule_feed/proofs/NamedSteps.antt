-- What is made of flags is what is made of names.
use Rattle.std.proofs.Common.{ℕ, zero, suc, ◌≡◌, ◌<◌, ◌+◌, ◌-◌, ◌++◌, cond, Bool, true, false, List, [], ◌∷◌, refl, ap, ◌∙◌, arith}
use Rattle.qgm_terms.specs.Terms.{col, compare, null_int, same}
use Rattle.rule_feed.specs.Feed.{how_many, joins, picked, put_cells}
use Rattle.rule_feed.specs.NamedColumns.{cells_by, count, flags, joins_by, picked_by}
use Rattle.list_laws.proofs.Membership.{append-one}

module _ (named : ℕ → Bool) where
  pub count-is : (k w : ℕ) → count (flags named k w) ≡ how_many named k w
  count-is k zero = refl
  count-is k (suc w) = ap (λ n. cond (named k) (suc n) n) (count-is (suc k) w)

  pub picked-is : (q k w : ℕ) → picked_by (flags named k w) q k ≡ picked named q k w
  picked-is q k zero = refl
  picked-is q k (suc w) = ap (λ l. cond (named k) (col q k ∷ l) l) (picked-is q (suc k) w)

  pub cells-is : (q k j w : ℕ) → cells_by (flags named k w) q j ≡ put_cells named q k j w
  cells-is q k j zero = refl
  cells-is q k j (suc w) = elim (named k) as (λ b. cond b (col q j ∷ cells_by (flags named (suc k) w) q (suc j)) (null_int ∷ cells_by (flags named (suc k) w) q j) ≡ cond b (col q j ∷ put_cells named q (suc k) (suc j) w) (null_int ∷ put_cells named q (suc k) j w)) [
    | true ↦ ap (λ l. col q j ∷ l) (cells-is q (suc k) (suc j) w)
    | false ↦ ap (λ l. null_int ∷ l) (cells-is q (suc k) j w)
  ]

  pub joins-is : (p i k j w : ℕ) → joins_by (flags named k w) p i k j ≡ joins named p i k j w
  joins-is p i k j zero = refl
  joins-is p i k j (suc w) = elim (named k) as (λ b. cond b (compare same (col p k) (col i j) ∷ joins_by (flags named (suc k) w) p i (suc k) (suc j)) (joins_by (flags named (suc k) w) p i (suc k) j) ≡ cond b (compare same (col p k) (col i j) ∷ joins named p i (suc k) (suc j) w) (joins named p i (suc k) j w)) [
    | true ↦ ap (λ l. compare same (col p k) (col i j) ∷ l) (joins-is p i (suc k) (suc j) w)
    | false ↦ joins-is p i (suc k) j w
  ]

pub flags-next : (head : List Bool) (named : ℕ → Bool) (k w : ℕ) → k < w → (head ++ named (k + 1) ∷ []) ++ flags named (suc (k + 1)) (w - (k + 1)) ≡ head ++ flags named (suc k) (w - k)
flags-next head named k w l =
    append-one head (named (k + 1)) (flags named (suc (k + 1)) (w - (k + 1)))
    ∙ ap (λ z. head ++ named z ∷ flags named (suc z) (w - (k + 1))) (let e : k + 1 ≡ suc k = omega arith in e)
    ∙ ap (λ z. head ++ flags named (suc k) z) (let e : suc (w - (k + 1)) ≡ w - k = omega arith in e)
