-- Rows that all have a property, as a number of cells.
use Rattle.std.proofs.Common.{◌≡◌, ℕ, zero, suc, nat_eq, cond, Bool, true, false, List, [], ◌∷◌, ◌++◌, map, length, replicate, refl, ap, ap₂}
use Rattle.sql_value.specs.declared.level.Level.{Level}
use Rattle.sql_value.specs.declared.level.Level.TheVariants.{No, Cardinality, Division, Overflow, Yes}
use Rattle.row_bag.specs.Bags.{bind, if_there, keep, row, unit}
use Rattle.row_bag.specs.Sets.{copies, distinct, level_in, multiplicity, once}
use Rattle.row_bag.specs.declared.row.Row.{Row}
use Rattle.sql_value.specs.declared.cell.Cell.{Cell}
use Rattle.qgm_meaning.specs.Widths as landed

abbrev pub AllRows : {T : Type 0} → (T → Type 0) → List (Row T) → Type 0
AllRows P [] = Unit {0}
AllRows P (r ∷ rows) = P r.cells × AllRows P rows

abbrev pub Wide : ℕ → List (Row (List Cell)) → Type 0
Wide n rows = AllRows (λ cells. length cells ≡ n) rows

pub wide-all : (n : ℕ) (rows : List (Row (List Cell))) → landed.Wide n rows → Wide n rows
wide-all n [] h = tt
wide-all n (r ∷ rows) h = (h.0, wide-all n rows h.1)

pub all-wide : (n : ℕ) (rows : List (Row (List Cell))) → Wide n rows → landed.Wide n rows
all-wide n [] h = tt
all-wide n (r ∷ rows) h = (h.0, all-wide n rows h.1)

module _ {T : Type 0} (P : T → Type 0) where
  pub all-keep : (l : Level) (xs : List (Row T)) → AllRows P xs → AllRows P (keep l xs)
  all-keep l [] h = tt
  all-keep l (x ∷ xs) h = (h.0, all-keep l xs h.1)

  pub all-append : (xs ys : List (Row T)) → AllRows P xs → AllRows P ys → AllRows P (xs ++ ys)
  all-append [] ys h k = k
  all-append (x ∷ xs) ys h k = (h.0, all-append xs ys h.1 k)

  pub all-bind : {A : Type 0} (Q : A → Type 0) (xs : List (Row A)) (f : A → List (Row T)) → AllRows Q xs → ((a : A) → Q a → AllRows P (f a)) → AllRows P (bind xs f)
  all-bind Q [] f h k = tt
  all-bind Q (x ∷ xs) f h k = all-append (keep x.level (f x.cells)) (bind xs f) (all-keep x.level (f x.cells) (k x.cells h.0)) (all-bind Q xs f h.1 k)

  pub all-any : (xs : List (Row T)) → ((a : T) → P a) → AllRows P xs
  all-any [] h = tt
  all-any (x ∷ xs) h = (h x.cells, all-any xs h)

  pub all-copies : (n : ℕ) (c : T) → P c → AllRows P (copies n c)
  all-copies zero c h = tt
  all-copies (suc n) c h = (h, all-copies n c h)

  all-one : (b : Bool) (c : T) → P c → AllRows P (cond b (unit c) [])
  all-one true c h = (h, tt)
  all-one false c h = tt

  all-there : (same : T → T → Bool) (rows : List (Row T)) (c : T) (l : Level) → P c → AllRows P (if_there [] (λ c l. cond (nat_eq (multiplicity same c rows) 0) (unit c) []) c l)
  all-there same rows c No h = tt
  all-there same rows c Cardinality h = all-one (nat_eq (multiplicity same c rows) 0) c h
  all-there same rows c Division h = all-one (nat_eq (multiplicity same c rows) 0) c h
  all-there same rows c Overflow h = all-one (nat_eq (multiplicity same c rows) 0) c h
  all-there same rows c Yes h = all-one (nat_eq (multiplicity same c rows) 0) c h

  pub all-once : (same : T → T → Bool) (xs : List (Row T)) → AllRows P xs → AllRows P (once same xs)
  all-once same [] h = tt
  all-once same (r ∷ xs) h = all-append _ (once same xs) (all-there same xs r.cells r.level h.0) (all-once same xs h.1)

  pub all-distinct : (same : T → T → Bool) (xs : List (Row T)) → AllRows P xs → AllRows P (distinct same xs)
  all-distinct same xs h = all-bind P (once same xs) (λ c. row c (level_in same c xs) ∷ []) (all-once same xs h) (λ c p. (p, tt))

  pub all-times : (same : T → T → Bool) (xs : List (Row T)) (n : T → ℕ) → AllRows P xs → AllRows P (bind (once same xs) (λ c. copies (n c) c))
  all-times same xs n h = all-bind P (once same xs) (λ c. copies (n c) c) (all-once same xs h) (λ c p. all-copies (n c) c p)

-- what is the same of the rows that are there gives the same
pub bind-all : {A B : Type 0} (P : A → Type 0) (xs : List (Row A)) (f g : A → List (Row B)) → AllRows P xs → ((a : A) → P a → f a ≡ g a) → bind xs f ≡ bind xs g
bind-all P [] f g w h = refl
bind-all P (x ∷ xs) f g w h = ap₂ (λ a b. keep x.level a ++ b) (h x.cells w.0) (bind-all P xs f g w.1 h)

pub map-length : {A B : Type 0} (f : A → B) (xs : List A) → length (map f xs) ≡ length xs
map-length f [] = refl
map-length f (x ∷ xs) = ap suc (map-length f xs)

pub replicate-length : {A : Type 0} (n : ℕ) (x : A) → length (replicate n x) ≡ n
replicate-length zero x = refl
replicate-length (suc n) x = ap suc (replicate-length n x)
