-- What a list adds up to under an operation.
use Rattle.std.proofs.Common.{◌≡◌, List, [], ◌∷◌, ◌++◌, map, refl, ap, sym, ◌∙◌, flat_map}
use mathlib.Core.Path.{fun_ext}
use Rattle.row_bag.specs.Bags.{fold_map, IsCommutativeMonoid}

module _ {M : Type 0} {op : M → M → M} {e : M} (m : IsCommutativeMonoid M op e) where
  pub swap_in : (a b c : M) → op a (op b c) ≡ op b (op a c)
  swap_in a b c = sym (m.associative a b c) ∙ ap (λ x. op x c) (m.commutative a b) ∙ m.associative b a c

  pub four : (a b c d : M) → op (op a b) (op c d) ≡ op (op a c) (op b d)
  four a b c d = m.associative a b (op c d) ∙ ap (op a) (swap_in b c d) ∙ sym (m.associative a c (op b d))

  pub fold_map-append : {X : Type 0} (f : X → M) (xs ys : List X) → fold_map op e f (xs ++ ys) ≡ op (fold_map op e f xs) (fold_map op e f ys)
  fold_map-append f [] ys = sym (m.unit (fold_map op e f ys))
  fold_map-append f (x ∷ xs) ys = ap (op (f x)) (fold_map-append f xs ys) ∙ sym (m.associative (f x) (fold_map op e f xs) (fold_map op e f ys))

  pub fold_map-flat_map : {X Y : Type 0} (f : Y → M) (g : X → List Y) (xs : List X) → fold_map op e f (flat_map g xs) ≡ fold_map op e (λ x. fold_map op e f (g x)) xs
  fold_map-flat_map f g [] = refl
  fold_map-flat_map f g (x ∷ xs) = fold_map-append f (g x) (flat_map g xs) ∙ ap (op (fold_map op e f (g x))) (fold_map-flat_map f g xs)

  pub fold_map-none : {X : Type 0} (xs : List X) → fold_map op e (λ (x : X). e) xs ≡ e
  fold_map-none [] = refl
  fold_map-none (x ∷ xs) = m.unit (fold_map op e (λ x. e) xs) ∙ fold_map-none xs

  pub fold_map-both : {X : Type 0} (f g : X → M) (xs : List X) → fold_map op e (λ x. op (f x) (g x)) xs ≡ op (fold_map op e f xs) (fold_map op e g xs)
  fold_map-both f g [] = sym (m.unit e)
  fold_map-both f g (x ∷ xs) = ap (op (op (f x) (g x))) (fold_map-both f g xs) ∙ four (f x) (g x) (fold_map op e f xs) (fold_map op e g xs)

  pub fold_map-swap : {X Y : Type 0} (f : X → Y → M) (xs : List X) (ys : List Y) → fold_map op e (λ x. fold_map op e (f x) ys) xs ≡ fold_map op e (λ y. fold_map op e (λ x. f x y) xs) ys
  fold_map-swap f [] ys = sym (fold_map-none ys)
  fold_map-swap f (x ∷ xs) ys = ap (op (fold_map op e (f x) ys)) (fold_map-swap f xs ys) ∙ sym (fold_map-both (f x) (λ y. fold_map op e (λ x. f x y) xs) ys)

pub fold_map-map : {X Y M : Type 0} (op : M → M → M) (e : M) (f : Y → M) (g : X → Y) (xs : List X) → fold_map op e f (map g xs) ≡ fold_map op e (λ x. f (g x)) xs
fold_map-map op e f g [] = refl
fold_map-map op e f g (x ∷ xs) = ap (op (f (g x))) (fold_map-map op e f g xs)

pub fold_map-same : {X M : Type 0} (op : M → M → M) (e : M) (f g : X → M) (xs : List X) → ((x : X) → f x ≡ g x) → fold_map op e f xs ≡ fold_map op e g xs
fold_map-same op e f g xs h = ap (λ k. fold_map op e k xs) (fun_ext h)

-- an action that takes the sum of a list to the sum of what it gives of the parts
pub fold_map-act : {X M N : Type 0} (op : M → M → M) (e : M) (op' : N → N → N) (e' : N) (act : M → N) → act e ≡ e' → ((a b : M) → act (op a b) ≡ op' (act a) (act b)) → (f : X → M) (xs : List X) → act (fold_map op e f xs) ≡ fold_map op' e' (λ x. act (f x)) xs
fold_map-act op e op' e' act z p f [] = z
fold_map-act op e op' e' act z p f (x ∷ xs) = p (f x) (fold_map op e f xs) ∙ ap (op' (act (f x))) (fold_map-act op e op' e' act z p f xs)
