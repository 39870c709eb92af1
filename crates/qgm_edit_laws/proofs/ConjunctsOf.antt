-- The conjuncts of a condition have what the condition has.
use Rattle.std.proofs.Common.{ℕ, ◌≡◌, ◌&&◌, ◌||◌, Bool, true, false, List, [], ◌∷◌, ◌++◌, refl, sym, ap, ap₂, ◌∙◌, append_assoc}
use Rattle.std.specs.List.{flat_map, list_all, list_any}
use Rattle.sql_value.specs.Level.{least}
use Rattle.row_bag.proofs.Levels.{least-yes}
use Rattle.qgm_terms.specs.Terms.{Cond, always, compare, is_null, and, or, not, some, every}
use Rattle.qgm_meaning.specs.Values.{Bag, Environment, all_true, truth}
use Rattle.qgm_meaning.proofs.Joined.{all_true-append}
use Rattle.qgm_edit_laws.proofs.Read.{any-both}
use Rattle.qgm_edit_laws.specs.ConjunctsOf.{conjuncts}
use Rattle.list_laws.proofs.Booleans.{and-true, or-false}

append-none : {X : Type 0} (xs : List X) → xs ++ [] ≡ xs
append-none [] = refl
append-none (x ∷ xs) = ap (λ z. x ∷ z) (append-none xs)

pub all-both : {X : Type 0} (p : X → Bool) (xs ys : List X) → list_all p (xs ++ ys) ≡ (list_all p xs && list_all p ys)
all-both p [] ys = refl
all-both p (x ∷ xs) ys = ap (λ z. p x && z) (all-both p xs ys) ∙ shift (p x) (list_all p xs) (list_all p ys)
  where
    shift : (a b c : Bool) → (a && (b && c)) ≡ ((a && b) && c)
    shift true b c = refl
    shift false b c = refl

pub flat-both : {X Y : Type 0} (f : X → List Y) (xs ys : List X) → flat_map f (xs ++ ys) ≡ flat_map f xs ++ flat_map f ys
flat-both f [] ys = refl
flat-both f (x ∷ xs) ys = ap (λ z. f x ++ z) (flat-both f xs ys) ∙ sym (append_assoc (f x) (flat_map f xs) (flat_map f ys))

module _ (p : Cond → Bool) where
  pub any-conjuncts : ((a b : Cond) → p (and a b) ≡ (p a || p b)) → (c : Cond) → list_any p (conjuncts c) ≡ p c
  any-conjuncts h always = or-false (p always)
  any-conjuncts h (compare s x y) = or-false (p (compare s x y))
  any-conjuncts h (is_null x) = or-false (p (is_null x))
  any-conjuncts h (and a b) = any-both p (conjuncts a) (conjuncts b) ∙ ap₂ (λ x y. x || y) (any-conjuncts h a) (any-conjuncts h b) ∙ sym (h a b)
  any-conjuncts h (or a b) = or-false (p (or a b))
  any-conjuncts h (not a) = or-false (p (not a))
  any-conjuncts h (some q a) = or-false (p (some q a))
  any-conjuncts h (every q a) = or-false (p (every q a))

  pub all-conjuncts : ((a b : Cond) → p (and a b) ≡ (p a && p b)) → (c : Cond) → list_all p (conjuncts c) ≡ p c
  all-conjuncts h always = and-true (p always)
  all-conjuncts h (compare s x y) = and-true (p (compare s x y))
  all-conjuncts h (is_null x) = and-true (p (is_null x))
  all-conjuncts h (and a b) = all-both p (conjuncts a) (conjuncts b) ∙ ap₂ (λ x y. x && y) (all-conjuncts h a) (all-conjuncts h b) ∙ sym (h a b)
  all-conjuncts h (or a b) = and-true (p (or a b))
  all-conjuncts h (not a) = and-true (p (not a))
  all-conjuncts h (some q a) = and-true (p (some q a))
  all-conjuncts h (every q a) = and-true (p (every q a))

module _ {X : Type 0} (f : Cond → List X) where
  pub flat-conjuncts : ((a b : Cond) → f (and a b) ≡ f a ++ f b) → (c : Cond) → flat_map f (conjuncts c) ≡ f c
  flat-conjuncts h always = append-none (f always)
  flat-conjuncts h (compare s x y) = append-none (f (compare s x y))
  flat-conjuncts h (is_null x) = append-none (f (is_null x))
  flat-conjuncts h (and a b) = flat-both f (conjuncts a) (conjuncts b) ∙ ap₂ (λ x y. x ++ y) (flat-conjuncts h a) (flat-conjuncts h b) ∙ sym (h a b)
  flat-conjuncts h (or a b) = append-none (f (or a b))
  flat-conjuncts h (not a) = append-none (f (not a))
  flat-conjuncts h (some q a) = append-none (f (some q a))
  flat-conjuncts h (every q a) = append-none (f (every q a))

-- they are true as far as it is
module _ (rows : ℕ → Bag) (e : Environment) where
  one-true : (c : Cond) → (all_true rows (c ∷ []) e).t ≡ (truth rows c e).t
  one-true c = least-yes (truth rows c e).t

  pub conjuncts-true : (c : Cond) → (all_true rows (conjuncts c) e).t ≡ (truth rows c e).t
  conjuncts-true always = one-true always
  conjuncts-true (compare s x y) = one-true (compare s x y)
  conjuncts-true (is_null x) = one-true (is_null x)
  conjuncts-true (and a b) = all_true-append rows (conjuncts a) (conjuncts b) e ∙ ap₂ least (conjuncts-true a) (conjuncts-true b)
  conjuncts-true (or a b) = one-true (or a b)
  conjuncts-true (not a) = one-true (not a)
  conjuncts-true (some q a) = one-true (some q a)
  conjuncts-true (every q a) = one-true (every q a)

  -- beside others too
  pub among-true : (xs : List Cond) (c : Cond) (ys : List Cond) → (all_true rows (xs ++ (conjuncts c ++ ys)) e).t ≡ (all_true rows (xs ++ c ∷ ys) e).t
  among-true xs c ys =
      all_true-append rows xs (conjuncts c ++ ys) e
      ∙ ap (least (all_true rows xs e).t) (all_true-append rows (conjuncts c) ys e ∙ ap (λ l. least l (all_true rows ys e).t) (conjuncts-true c))
      ∙ sym (all_true-append rows xs (c ∷ ys) e)
