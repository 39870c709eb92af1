-- Bags that agree row by row: related tuples at the same levels. Every operation on bags keeps that.
use Rattle.std.proofs.Common.{◌≡◌, ℕ, zero, suc, ◌+◌, ◌-◌, min, nat_eq, Bool, true, false, cond, List, [], ◌∷◌, ◌++◌, Option, Some, None, refl, ap, ap₂, ◌∙◌, subst}
use Rattle.std.specs.Prelude.{⊤}
use Rattle.sql_value.specs.Level.{greatest, least}
use Rattle.sql_value.specs.declared.cell.Kind.{Kind}
use Rattle.sql_value.specs.declared.level.Level.{Level}
use Rattle.sql_value.specs.declared.level.Level.TheVariants.{No, Cardinality, Division, Overflow, Yes}
use Rattle.sql_value.specs.declared.truth.Truth.{Truth}
use Rattle.sql_value.specs.Cells.{worst_of}
use Rattle.row_bag.specs.Bags.{bind, if_there, keep, row, total, unit}
use Rattle.row_bag.specs.Errors.{error_among, error_at}
use Rattle.row_bag.specs.Sets.{collapsed, copies, distinct, error_or_bag, except, except_all, grouped, intersect, intersect_all, level_in, multiplicity, of_group, once, union}
use Rattle.row_bag.specs.declared.row.Row.{Row}
use Rattle.sql_meaning.specs.Joins.{how_many, kept, left_join, or_else, partners, product}

abbrev pub Related : {A B : Type 0} → (A → B → Type 0) → List (Row A) → List (Row B) → Type 0
Related R [] [] = ⊤
Related R (x ∷ xs) (y ∷ ys) = R x.cells y.cells × (x.level ≡ y.level) × Related R xs ys
Related R [] (y ∷ ys) = ⊥
Related R (x ∷ xs) [] = ⊥

module _ {A B : Type 0} (R : A → B → Type 0) where
  pub related_append : (xs : List (Row A)) (ys : List (Row B)) (us : List (Row A)) (vs : List (Row B)) → Related R xs ys → Related R us vs → Related R (xs ++ us) (ys ++ vs)
  related_append [] [] us vs h k = k
  related_append (x ∷ xs) (y ∷ ys) us vs h k = (h.0, h.1, related_append xs ys us vs h.2 k)
  related_append [] (y ∷ ys) us vs h k = absurd h
  related_append (x ∷ xs) [] us vs h k = absurd h

  pub related_keep : (l m : Level) → l ≡ m → (xs : List (Row A)) (ys : List (Row B)) → Related R xs ys → Related R (keep l xs) (keep m ys)
  related_keep l m e [] [] h = tt
  related_keep l m e (x ∷ xs) (y ∷ ys) h = (h.0, ap₂ least e h.1, related_keep l m e xs ys h.2)
  related_keep l m e [] (y ∷ ys) h = absurd h
  related_keep l m e (x ∷ xs) [] h = absurd h

  pub related_unit : (a : A) (b : B) → R a b → Related R (unit a) (unit b)
  related_unit a b h = (h, refl, tt)

  pub related_row : (a : A) (b : B) (l m : Level) → R a b → l ≡ m → Related R (row a l ∷ []) (row b m ∷ [])
  related_row a b l m h e = (h, e, tt)

  pub related_if : (s t : Bool) → s ≡ t → (xs us : List (Row A)) (ys vs : List (Row B)) → Related R xs ys → Related R us vs → Related R (cond s xs us) (cond t ys vs)
  related_if true true e xs us ys vs h k = h
  related_if false false e xs us ys vs h k = k
  related_if true false e xs us ys vs h k = absurd (cc)
  related_if false true e xs us ys vs h k = absurd (cc)

  pub related_copies : (n : ℕ) (a : A) (b : B) → R a b → Related R (copies n a) (copies n b)
  related_copies zero a b h = tt
  related_copies (suc n) a b h = (h, refl, related_copies n a b h)

  pub related_some : (m n : ℕ) → m ≡ n → (a : A) (b : B) → R a b → Related R (copies m a) (copies n b)
  related_some m n e a b h = subst (λ (k : ℕ). Related R (copies m a) (copies k b)) e (related_copies m a b h)

  -- ---- what rows add up to

  there-at : {M : Type 0} (e : M) (f : A → Level → M) (g : B → Level → M) (a : A) (b : B) → ((l : Level) → f a l ≡ g b l) → (l : Level) → if_there e f a l ≡ if_there e g b l
  there-at e f g a b h No = refl
  there-at e f g a b h Cardinality = h Cardinality
  there-at e f g a b h Division = h Division
  there-at e f g a b h Overflow = h Overflow
  there-at e f g a b h Yes = h Yes

  pub related_total : {M : Type 0} (op : M → M → M) (e : M) (f : A → Level → M) (g : B → Level → M) → ((a : A) (b : B) (l : Level) → R a b → f a l ≡ g b l)
      → (xs : List (Row A)) (ys : List (Row B)) → Related R xs ys → total op e f xs ≡ total op e g ys
  related_total op e f g same [] [] h = refl
  related_total op e f g same (x ∷ xs) (y ∷ ys) h =
      ap₂ op
      (ap (λ (l : Level). if_there e f x.cells l) h.1 ∙ there-at e f g x.cells y.cells (λ l. same x.cells y.cells l h.0) y.level)
      (related_total op e f g same xs ys h.2)
  related_total op e f g same [] (y ∷ ys) h = absurd h
  related_total op e f g same (x ∷ xs) [] h = absurd h

  pub related_how_many : (xs : List (Row A)) (ys : List (Row B)) → Related R xs ys → how_many xs ≡ how_many ys
  related_how_many xs ys h = related_total ◌+◌ 0 (λ c l. 1) (λ c l. 1) (λ a b l k. refl) xs ys h

  pub related_errors : (held : A → Option Kind) (kept_by : B → Option Kind) → ((a : A) (b : B) → R a b → held a ≡ kept_by b)
      → (xs : List (Row A)) (ys : List (Row B)) → Related R xs ys → error_among held xs ≡ error_among kept_by ys
  related_errors held kept_by same xs ys h =
      related_total worst_of None (λ c l. worst_of (error_at l) (held c)) (λ c l. worst_of (error_at l) (kept_by c)) (λ a b l k. ap (worst_of (error_at l)) (same a b k)) xs ys h

  pub related_or_else : (xs us : List (Row A)) (ys vs : List (Row B)) → Related R xs ys → Related R us vs → Related R (or_else xs us) (or_else ys vs)
  related_or_else xs us ys vs h k =
      related_if (nat_eq (how_many xs) 0) (nat_eq (how_many ys) 0) (ap (λ (n : ℕ). nat_eq n 0) (related_how_many xs ys h)) us xs vs ys k h

-- ---- rows from rows

module _ {A B C D : Type 0} (R : A → B → Type 0) (S : C → D → Type 0) where
  pub related_bind : (f : A → List (Row C)) (g : B → List (Row D)) → ((a : A) (b : B) → R a b → Related S (f a) (g b))
      → (xs : List (Row A)) (ys : List (Row B)) → Related R xs ys → Related S (bind xs f) (bind ys g)
  related_bind f g each [] [] h = tt
  related_bind f g each (x ∷ xs) (y ∷ ys) h =
      related_append S (keep x.level (f x.cells)) (keep y.level (g y.cells)) (bind xs f) (bind ys g)
      (related_keep S x.level y.level h.1 (f x.cells) (g y.cells) (each x.cells y.cells h.0))
      (related_bind f g each xs ys h.2)
  related_bind f g each [] (y ∷ ys) h = absurd h
  related_bind f g each (x ∷ xs) [] h = absurd h

  -- one row of each
  pub related_map : (f : A → C) (g : B → D) → ((a : A) (b : B) → R a b → S (f a) (g b))
      → (xs : List (Row A)) (ys : List (Row B)) → Related R xs ys → Related S (bind xs (λ a. unit (f a))) (bind ys (λ b. unit (g b)))
  related_map f g each = related_bind (λ a. unit (f a)) (λ b. unit (g b)) (λ a b h. related_unit S (f a) (g b) (each a b h))

  -- one row of each that a condition keeps
  pub related_selected : (p : A → Truth) (q : B → Truth) (f : A → C) (g : B → D) → ((a : A) (b : B) → R a b → p a ≡ q b) → ((a : A) (b : B) → R a b → S (f a) (g b))
      → (xs : List (Row A)) (ys : List (Row B)) → Related R xs ys → Related S (bind xs (λ a. keep (p a).t (unit (f a)))) (bind ys (λ b. keep (q b).t (unit (g b))))
  related_selected p q f g tests each = related_bind (λ a. keep (p a).t (unit (f a))) (λ b. keep (q b).t (unit (g b)))
      (λ a b h. related_keep S (p a).t (q b).t (ap (λ (z : Truth). z.t) (tests a b h)) (unit (f a)) (unit (g b)) (related_unit S (f a) (g b) (each a b h)))

module _ {A B : Type 0} (R : A → B → Type 0) where
  pub related_kept : (p : A → Truth) (q : B → Truth) → ((a : A) (b : B) → R a b → p a ≡ q b)
      → (xs : List (Row A)) (ys : List (Row B)) → Related R xs ys → Related R (kept p xs) (kept q ys)
  related_kept p q tests xs ys h = related_selected R R p q (λ a. a) (λ b. b) tests (λ a b k. k) xs ys h

-- ---- joins

module _ {A B : Type 0} (R S T : List A → List B → Type 0) (beside : (a : List A) (b : List B) (c : List A) (d : List B) → R a b → S c d → T (a ++ c) (b ++ d)) where
  pub related_product : (xs : List (Row (List A))) (ys : List (Row (List B))) (us : List (Row (List A))) (vs : List (Row (List B)))
      → Related R xs ys → Related S us vs → Related T (product xs us) (product ys vs)
  related_product xs ys us vs h k =
      related_bind R T (λ a. bind us (λ c. unit (a ++ c))) (λ b. bind vs (λ d. unit (b ++ d)))
      (λ a b r. related_map S T (λ c. a ++ c) (λ d. b ++ d) (λ c d s. beside a b c d r s) us vs k) xs ys h

  related_partners : (p : List A → Truth) (q : List B → Truth) → ((a : List A) (b : List B) → T a b → p a ≡ q b)
      → (us : List (Row (List A))) (vs : List (Row (List B))) → Related S us vs → (a : List A) (b : List B) → R a b → Related T (partners p us a) (partners q vs b)
  related_partners p q tests us vs k a b r =
      related_selected S T (λ c. p (a ++ c)) (λ d. q (b ++ d)) (λ c. a ++ c) (λ d. b ++ d)
      (λ c d s. tests (a ++ c) (b ++ d) (beside a b c d r s)) (λ c d s. beside a b c d r s) us vs k

  pub related_left_join : (p : List A → Truth) (q : List B → Truth) → ((a : List A) (b : List B) → T a b → p a ≡ q b)
      → (m : List A) (n : List B) → S m n
      → (xs : List (Row (List A))) (ys : List (Row (List B))) (us : List (Row (List A))) (vs : List (Row (List B)))
      → Related R xs ys → Related S us vs → Related T (left_join p m xs us) (left_join q n ys vs)
  related_left_join p q tests m n nulls xs ys us vs h k =
      related_bind R T (λ a. or_else (partners p us a) (unit (a ++ m))) (λ b. or_else (partners q vs b) (unit (b ++ n)))
      (λ a b r. related_or_else T (partners p us a) (unit (a ++ m)) (partners q vs b) (unit (b ++ n))
      (related_partners p q tests us vs k a b r)
      (related_unit T (a ++ m) (b ++ n) (beside a b m n r nulls)))
      xs ys h

-- ---- operations that compare tuples

abbrev one_if : Bool → ℕ
one_if b = cond b 1 0

module _ {A B : Type 0} (R : A → B → Type 0) (same : A → A → Bool) (alike : B → B → Bool) (tests : (a : A) (b : B) (c : A) (d : B) → R a b → R c d → same a c ≡ alike b d) where
  pub related_multiplicity : (c : A) (d : B) → R c d → (xs : List (Row A)) (ys : List (Row B)) → Related R xs ys → multiplicity same c xs ≡ multiplicity alike d ys
  related_multiplicity c d r xs ys h =
      related_total R ◌+◌ 0 (λ k l. cond (same k c) 1 0) (λ k l. cond (alike k d) 1 0) (λ a b l k. ap one_if (tests a b c d k r)) xs ys h

  pub related_level_in : (c : A) (d : B) → R c d → (xs : List (Row A)) (ys : List (Row B)) → Related R xs ys → level_in same c xs ≡ level_in alike d ys
  related_level_in c d r xs ys h =
      related_total R greatest No (λ k l. cond (same k c) l No) (λ k l. cond (alike k d) l No) (λ a b l k. ap (λ (z : Bool). cond z l No) (tests a b c d k r)) xs ys h

  one_left : (xs : List (Row A)) (ys : List (Row B)) → Related R xs ys → (a : A) (b : B) → R a b
      → Related R (cond (nat_eq (multiplicity same a xs) 0) (unit a) []) (cond (nat_eq (multiplicity alike b ys) 0) (unit b) [])
  one_left xs ys h a b r =
      related_if R (nat_eq (multiplicity same a xs) 0) (nat_eq (multiplicity alike b ys) 0) (ap (λ (n : ℕ). nat_eq n 0) (related_multiplicity a b r xs ys h))
      (unit a) [] (unit b) [] (related_unit R a b r) tt

  one_there : (xs : List (Row A)) (ys : List (Row B)) → Related R xs ys → (a : A) (b : B) → R a b → (l : Level)
      → Related R (if_there [] (λ c m. cond (nat_eq (multiplicity same c xs) 0) (unit c) []) a l) (if_there [] (λ d m. cond (nat_eq (multiplicity alike d ys) 0) (unit d) []) b l)
  one_there xs ys h a b r No = tt
  one_there xs ys h a b r Cardinality = one_left xs ys h a b r
  one_there xs ys h a b r Division = one_left xs ys h a b r
  one_there xs ys h a b r Overflow = one_left xs ys h a b r
  one_there xs ys h a b r Yes = one_left xs ys h a b r

  pub related_once : (xs : List (Row A)) (ys : List (Row B)) → Related R xs ys → Related R (once same xs) (once alike ys)
  related_once [] [] h = tt
  related_once (x ∷ xs) (y ∷ ys) h =
      related_append R
      (if_there [] (λ c m. cond (nat_eq (multiplicity same c xs) 0) (unit c) []) x.cells x.level)
      (if_there [] (λ d m. cond (nat_eq (multiplicity alike d ys) 0) (unit d) []) y.cells y.level)
      (once same xs) (once alike ys)
      (subst (λ (l : Level). Related R (if_there [] (λ c m. cond (nat_eq (multiplicity same c xs) 0) (unit c) []) x.cells x.level) (if_there [] (λ d m. cond (nat_eq (multiplicity alike d ys) 0) (unit d) []) y.cells l)) h.1
      (one_there xs ys h.2 x.cells y.cells h.0 x.level))
      (related_once xs ys h.2)
  related_once [] (y ∷ ys) h = absurd h
  related_once (x ∷ xs) [] h = absurd h

  pub related_distinct : (xs : List (Row A)) (ys : List (Row B)) → Related R xs ys → Related R (distinct same xs) (distinct alike ys)
  related_distinct xs ys h =
      related_bind R R (λ c. row c (level_in same c xs) ∷ []) (λ d. row d (level_in alike d ys) ∷ [])
      (λ a b r. related_row R a b (level_in same a xs) (level_in alike b ys) r (related_level_in a b r xs ys h))
      (once same xs) (once alike ys) (related_once xs ys h)

  -- so many rows of each tuple that occurs in the first, by how often it occurs in both
  counted : (many : ℕ → ℕ → ℕ) (xs us : List (Row A)) (ys vs : List (Row B)) → Related R xs ys → Related R us vs
      → Related R (bind (once same xs) (λ c. copies (many (multiplicity same c xs) (multiplicity same c us)) c)) (bind (once alike ys) (λ d. copies (many (multiplicity alike d ys) (multiplicity alike d vs)) d))
  counted many xs us ys vs h k =
      related_bind R R (λ c. copies (many (multiplicity same c xs) (multiplicity same c us)) c) (λ d. copies (many (multiplicity alike d ys) (multiplicity alike d vs)) d)
      (λ a b r. related_some R (many (multiplicity same a xs) (multiplicity same a us)) (many (multiplicity alike b ys) (multiplicity alike b vs))
      (ap₂ many (related_multiplicity a b r xs ys h) (related_multiplicity a b r us vs k)) a b r)
      (once same xs) (once alike ys) (related_once xs ys h)

  pub related_intersect_all : (xs us : List (Row A)) (ys vs : List (Row B)) → Related R xs ys → Related R us vs → Related R (intersect_all same xs us) (intersect_all alike ys vs)
  related_intersect_all xs us ys vs h k = counted (λ m n. min m n) xs us ys vs h k

  pub related_intersect : (xs us : List (Row A)) (ys vs : List (Row B)) → Related R xs ys → Related R us vs → Related R (intersect same xs us) (intersect alike ys vs)
  related_intersect xs us ys vs h k = counted (λ m n. min 1 n) xs us ys vs h k

  pub related_except_all : (xs us : List (Row A)) (ys vs : List (Row B)) → Related R xs ys → Related R us vs → Related R (except_all same xs us) (except_all alike ys vs)
  related_except_all xs us ys vs h k = counted (λ m n. m - n) xs us ys vs h k

  pub related_except : (xs us : List (Row A)) (ys vs : List (Row B)) → Related R xs ys → Related R us vs → Related R (except same xs us) (except alike ys vs)
  related_except xs us ys vs h k = counted (λ m n. 1 - n) xs us ys vs h k

  pub related_union : (xs us : List (Row A)) (ys vs : List (Row B)) → Related R xs ys → Related R us vs → Related R (union same xs us) (union alike ys vs)
  related_union xs us ys vs h k = related_distinct (xs ++ us) (ys ++ vs) (related_append R xs ys us vs h k)

-- one row of the error, where there is one, and else these rows
module _ {A B C D : Type 0} (R : A → B → Type 0) (S : C → D → Type 0) where
  one-or-rows : (f : Kind → C) (g : Kind → D) → ((k : Kind) → S (f k) (g k)) → (o p : Option Kind) → o ≡ p
      → (us : List (Row C)) (vs : List (Row D)) → Related S us vs → Related S (error_or_bag f o us) (error_or_bag g p vs)
  one-or-rows f g each o p e us vs h = subst (λ (r : Option Kind). Related S (error_or_bag f o us) (error_or_bag g r vs)) e (at o)
    where
      at : (r : Option Kind) → Related S (error_or_bag f r us) (error_or_bag g r vs)
      at None = h
      at (Some k) = (each k, refl, tt)

  pub related_collapsed : (held : A → Option Kind) (kept_by : B → Option Kind) → ((a : A) (b : B) → R a b → held a ≡ kept_by b)
      → (f : Kind → C) (g : Kind → D) → ((k : Kind) → S (f k) (g k))
      → (xs : List (Row A)) (ys : List (Row B)) → Related R xs ys → (us : List (Row C)) (vs : List (Row D)) → Related S us vs
      → Related S (collapsed held f xs us) (collapsed kept_by g ys vs)
  related_collapsed held kept_by same f g each xs ys h us vs k =
      one-or-rows f g each (error_among held xs) (error_among kept_by ys) (related_errors R held kept_by same xs ys h) us vs k

-- groups: one row for each key
module _ {A B K L U V : Type 0} (R : A → B → Type 0) (S : K → L → Type 0) (T : U → V → Type 0)
    (same : K → K → Bool) (alike : L → L → Bool) (tests : (a : K) (b : L) (c : K) (d : L) → S a b → S c d → same a c ≡ alike b d)
    (key : A → K) (label : B → L) (keys : (a : A) (b : B) → R a b → S (key a) (label b)) where
  related_of_group : (k : K) (l : L) → S k l → (xs : List (Row A)) (ys : List (Row B)) → Related R xs ys → Related R (of_group same key k xs) (of_group alike label l ys)
  related_of_group k l s xs ys h =
      related_bind R R (λ c. cond (same (key c) k) (unit c) []) (λ d. cond (alike (label d) l) (unit d) [])
      (λ a b r. related_if R (same (key a) k) (alike (label b) l) (tests (key a) (label b) k l (keys a b r) s) (unit a) [] (unit b) [] (related_unit R a b r) tt)
      xs ys h

  pub related_grouped : (f : K → List (Row A) → U) (g : L → List (Row B) → V)
      → ((k : K) (l : L) (us : List (Row A)) (vs : List (Row B)) → S k l → Related R us vs → T (f k us) (g l vs))
      → (xs : List (Row A)) (ys : List (Row B)) → Related R xs ys → Related T (grouped same key f xs) (grouped alike label g ys)
  related_grouped f g each xs ys h =
      related_map S T (λ k. f k (of_group same key k xs)) (λ l. g l (of_group alike label l ys))
      (λ k l s. each k l (of_group same key k xs) (of_group alike label l ys) s (related_of_group k l s xs ys h))
      (once same (bind xs (λ c. unit (key c)))) (once alike (bind ys (λ d. unit (label d))))
      (related_once S same alike tests (bind xs (λ c. unit (key c))) (bind ys (λ d. unit (label d)))
      (related_map R S key label keys xs ys h))

-- ---- equal tuples

pub related_equal : {A : Type 0} (xs ys : List (Row A)) → Related (λ a b. a ≡ b) xs ys → xs ≡ ys
related_equal [] [] h = refl
related_equal {A = A} (x ∷ xs) (y ∷ ys) h = ap₂ (λ (r : Row A) (rs : List (Row A)). r ∷ rs) (ap₂ row h.0 h.1) (related_equal xs ys h.2)
related_equal [] (y ∷ ys) h = absurd h
related_equal (x ∷ xs) [] h = absurd h

pub related_more : {A B : Type 0} (R S : A → B → Type 0) → ((a : A) (b : B) → R a b → S a b) → (xs : List (Row A)) (ys : List (Row B)) → Related R xs ys → Related S xs ys
related_more R S each [] [] h = tt
related_more R S each (x ∷ xs) (y ∷ ys) h = (each x.cells y.cells h.0, h.1, related_more R S each xs ys h.2)
related_more R S each [] (y ∷ ys) h = absurd h
related_more R S each (x ∷ xs) [] h = absurd h
