-- A row's grouping cells at their places, and the same cells as a key of their own.
use Rattle.std.proofs.Common.{◌≡◌, ℕ, zero, suc, ◌+◌, nat_eq, ◌||◌, Bool, true, false, cond, List, [], ◌∷◌, ◌++◌, map, length, replicate, get_or, append_assoc, append-nil, refl, ap, ap₂, sym, ◌∙◌, subst, arith, Option, Some, None, inl, inr}
use Rattle.std.specs.List.{list_any}
use Rattle.std.proofs.lemmas.Bool.{cases_Bool, eq-eqb, eqb-true}
use Rattle.row_bag.specs.Errors.{error_in}
use Rattle.row_bag.specs.Order.{cell_of}
use Rattle.row_bag.specs.Sets.{same_cells}
use Rattle.row_bag.proofs.TupleBags.{same_cells-decides}
use Rattle.row_bag.proofs.Worst.{worst-monoid}
use Rattle.sql_value.specs.Cells.{error_of, worse, worst_of}
use Rattle.sql_value.specs.declared.cell.Cell.{Cell}
use Rattle.sql_value.specs.declared.cell.Cell.TheVariants.{Null}
use Rattle.sql_value.specs.declared.cell.Kind.{Kind}
use Rattle.sql_value.specs.declared.cell.Kind.TheVariants.{Cardinality, Division, Overflow}
use Rattle.sql_meaning.specs.ResolvedMeaning.{masked_from}
use Rattle.qgm_meaning.specs.Values.{Environment, bound, row_of}
use Rattle.qgm_translation.specs.Maps.{column, ref_cell, seen_in}
use Rattle.qgm_translation.specs.Shown.{key_frame, key_ref}
use Rattle.qgm_translation.proofs.TermLaws.{row-same}
use Rattle.list_laws.proofs.Booleans.{or-true, same-truth}
pub use Rattle.qgm_translation.proofs.Things.{picked}

-- ---- cells of a mask

cond-null : (b : Bool) → cond b Null Null ≡ Null
cond-null true = refl
cond-null false = refl

masked-at : (i : ℕ) (places : List ℕ) (xs : List Cell) (j : ℕ) → get_or (masked_from i places xs) j Null ≡ cond (list_any (nat_eq (i + j)) places) (get_or xs j Null) Null
masked-at i places [] j = sym (cond-null (list_any (nat_eq (i + j)) places))
masked-at i places (x ∷ xs) zero = let e : i + 0 ≡ i = omega arith in rw e refl
masked-at i places (x ∷ xs) (suc j) = let e : (i + 1) + j ≡ i + suc j = omega arith in masked-at (i + 1) places xs j ∙ ap (λ n. cond (list_any (nat_eq n) places) (get_or xs j Null) Null) e

abbrev AllIn : List ℕ → List ℕ → Type 0
AllIn places [] = Unit {0}
AllIn places (p ∷ ps) = (list_any (nat_eq p) places ≡ true) × AllIn places ps

all-more : (x : ℕ) (places ps : List ℕ) → AllIn places ps → AllIn (x ∷ places) ps
all-more x places [] h = tt
all-more x places (p ∷ ps) h = (ap (λ b. nat_eq p x || b) h.0 ∙ or-true (nat_eq p x), all-more x places ps h.1)

all-in : (places : List ℕ) → AllIn places places
all-in [] = tt
all-in (p ∷ ps) = (ap (λ b. b || list_any (nat_eq p) ps) (eq-eqb p p refl), all-more p ps ps (all-in ps))

picked-mask : (places ps : List ℕ) (xs : List Cell) → AllIn places ps → picked ps (masked_from 0 places xs) ≡ picked ps xs
picked-mask places [] xs h = refl
picked-mask places (p ∷ ps) xs h =
    let e : 0 + p ≡ p = omega arith in
    ap₂ (λ a b. a ∷ b) (masked-at 0 places xs p ∙ ap (λ n. cond (list_any (nat_eq n) places) (get_or xs p Null) Null) e ∙ ap (λ b. cond b (get_or xs p Null) Null) h.0) (picked-mask places ps xs h.1)

-- ---- a mask is seen in a key

at-prefix : (pre : List Cell) (x : Cell) (rest : List Cell) → get_or (pre ++ x ∷ rest) (length pre) Null ≡ x
at-prefix [] x rest = refl
at-prefix (y ∷ pre) x rest = at-prefix pre x rest

pub cell-prefix : (pre : List Cell) (x : Cell) (rest : List Cell) (j : ℕ) → j ≡ suc (length pre) → cell_of j (pre ++ x ∷ rest) ≡ x
cell-prefix pre x rest j h = ap (λ n. cell_of n (pre ++ x ∷ rest)) h ∙ at-prefix pre x rest

pub push-length : (pre : List Cell) (x : Cell) → length (pre ++ x ∷ []) ≡ suc (length pre)
push-length [] x = refl
push-length (y ∷ pre) x = ap suc (push-length pre x)

key-cell : (u : ℕ) (env : Environment) (c : ℕ → Cell) (i k : ℕ) (places : List ℕ) (pre rest : List Cell) → row_of u env ≡ pre ++ (map c places ++ rest) → k ≡ suc (length pre)
    → ref_cell env (key_ref u k places i) ≡ cond (list_any (nat_eq i) places) (c i) Null
key-cell u env c i k [] pre rest h e = refl
key-cell u env c i k (p ∷ ps) pre rest h e = elim (cases_Bool (nat_eq i p)) [
  | inl same ↦
      ap (λ b. ref_cell env (cond b (column u k) (key_ref u (suc k) ps i))) same
      ∙ ap (cell_of k) h ∙ cell-prefix pre (c p) (map c ps ++ rest) k e ∙ ap c (sym (eqb-true i p same))
      ∙ sym (ap (λ b. cond (b || list_any (nat_eq i) ps) (c i) Null) same)
  | inr other ↦
      ap (λ b. ref_cell env (cond b (column u k) (key_ref u (suc k) ps i))) other
      ∙ key-cell u env c i (suc k) ps (pre ++ c p ∷ []) rest (h ∙ sym (append_assoc pre (c p ∷ []) (map c ps ++ rest))) (ap suc (e ∙ sym (push-length pre (c p))))
      ∙ sym (ap (λ b. cond (b || list_any (nat_eq i) ps) (c i) Null) other)
]

-- the cells are these, from the i-th on
abbrev pub Follows : (ℕ → Cell) → ℕ → List Cell → Type 0
Follows c i [] = Unit {0}
Follows c i (x ∷ xs) = (x ≡ c i) × Follows c (i + 1) xs

pub mask-seen : (u : ℕ) (env : Environment) (c : ℕ → Cell) (places : List ℕ) (rest : List Cell) → row_of u env ≡ map c places ++ rest → (i : ℕ) (xs : List Cell) → Follows c i xs
    → seen_in env (key_frame u places i (length xs)) ≡ masked_from i places xs
mask-seen u env c places rest h i [] f = refl
mask-seen u env c places rest h i (x ∷ xs) f =
    ap₂ (λ a b. a ∷ b) (key-cell u env c i 1 places [] rest h refl ∙ ap (λ z. cond (list_any (nat_eq i) places) z Null) (sym f.0)) (mask-seen u env c places rest h (i + 1) xs f.1)

follows-from : (pre xs : List Cell) → Follows (λ j. get_or (pre ++ xs) j Null) (length pre) xs
follows-from pre [] = tt
follows-from pre (x ∷ xs) =
    let e : suc (length pre) ≡ length pre + 1 = omega arith in (
      sym (at-prefix pre x xs),
      subst (λ n. Follows (λ j. get_or (pre ++ x ∷ xs) j Null) n xs) (push-length pre x ∙ e)
          (subst (λ zs. Follows (λ j. get_or zs j Null) (length (pre ++ x ∷ [])) xs) (append_assoc pre (x ∷ []) xs) (follows-from (pre ++ x ∷ []) xs)),
    )

pub follows-all : (xs : List Cell) → Follows (λ j. get_or xs j Null) 0 xs
follows-all xs = follows-from [] xs

pub follows-one : (x : Cell) (i n : ℕ) → Follows (λ _. x) i (replicate n x)
follows-one x i zero = tt
follows-one x i (suc n) = (refl, follows-one x (i + 1) n)

-- ---- equal masks are equal keys

mask-by : (places : List ℕ) (n : ℕ) (a : List Cell) → length a ≡ n → seen_in (bound 0 (picked places a) []) (key_frame 0 places 0 n) ≡ masked_from 0 places a
mask-by places n a h =
    ap (λ w. seen_in (bound 0 (picked places a) []) (key_frame 0 places 0 w)) (sym h)
    ∙ mask-seen 0 (bound 0 (picked places a) []) (λ j. get_or a j Null) places [] (row-same 0 (picked places a) [] ∙ sym (append-nil (picked places a))) 0 a (follows-all a)

pub same-key : (places : List ℕ) (n : ℕ) (a b : List Cell) → length a ≡ n → length b ≡ n → same_cells (masked_from 0 places a) (masked_from 0 places b) ≡ same_cells (picked places a) (picked places b)
same-key places n a b h k =
    let ma = masked_from 0 places a in
    let mb = masked_from 0 places b in
    let dm = same_cells-decides ma mb in
    let dp = same_cells-decides (picked places a) (picked places b) in
    same-truth (same_cells ma mb) (same_cells (picked places a) (picked places b))
    (λ e. dp.1 (sym (picked-mask places places a (all-in places)) ∙ ap (picked places) (dm.0 e) ∙ picked-mask places places b (all-in places)))
    (λ e. dm.1 (sym (mask-by places n a h) ∙ ap (λ row. seen_in (bound 0 row []) (key_frame 0 places 0 n)) (dp.0 e) ∙ mask-by places n b k))

-- ---- a mask holds the errors of its key

worse-itself : (k : Kind) → worse k k ≡ k
worse-itself Cardinality = refl
worse-itself Division = refl
worse-itself Overflow = refl

worst-itself : (a : Option Kind) → worst_of a a ≡ a
worst-itself None = refl
worst-itself (Some k) = ap (λ (z : Kind). Some z) (worse-itself k)

worst-none : (a : Option Kind) → worst_of None a ≡ a
worst-none a = refl

again : (a b : Option Kind) → worst_of a (worst_of a b) ≡ worst_of a b
again a b = sym (worst-monoid.associative a a b) ∙ ap (λ z. worst_of z b) (worst-itself a)

swap : (a b c : Option Kind) → worst_of a (worst_of b c) ≡ worst_of b (worst_of a c)
swap a b c = sym (worst-monoid.associative a b c) ∙ ap (λ z. worst_of z c) (worst-monoid.commutative a b) ∙ worst-monoid.associative b a c

absorbed : (xs : List Cell) (i : ℕ) → worst_of (error_of (get_or xs i Null)) (error_in xs) ≡ error_in xs
absorbed [] i = refl
absorbed (x ∷ xs) zero = again (error_of x) (error_in xs)
absorbed (x ∷ xs) (suc i) = swap (error_of (get_or xs i Null)) (error_of x) (error_in xs) ∙ ap (worst_of (error_of x)) (absorbed xs i)

picked-absorbed : (ps : List ℕ) (xs : List Cell) → worst_of (error_in (picked ps xs)) (error_in xs) ≡ error_in xs
picked-absorbed [] xs = refl
picked-absorbed (p ∷ ps) xs =
    worst-monoid.associative (error_of (get_or xs p Null)) (error_in (picked ps xs)) (error_in xs) ∙ ap (worst_of (error_of (get_or xs p Null))) (picked-absorbed ps xs) ∙ absorbed xs p

in-key : (a : List Cell) (i : ℕ) (ps : List ℕ) → list_any (nat_eq i) ps ≡ true → worst_of (error_of (get_or a i Null)) (error_in (picked ps a)) ≡ error_in (picked ps a)
in-key a i [] h = absurd (cc h)
in-key a i (p ∷ ps) h = elim (cases_Bool (nat_eq i p)) [
  | inl same ↦ ap (λ n. worst_of (error_of (get_or a n Null)) (error_in (picked (p ∷ ps) a))) (eqb-true i p same) ∙ again (error_of (get_or a p Null)) (error_in (picked ps a))
  | inr other ↦
      swap (error_of (get_or a i Null)) (error_of (get_or a p Null)) (error_in (picked ps a))
      ∙ ap (worst_of (error_of (get_or a p Null))) (in-key a i ps (sym (ap (λ b. b || list_any (nat_eq i) ps) other) ∙ h))
]

mask-absorbed : (a : List Cell) (places : List ℕ) (i : ℕ) (xs : List Cell) → Follows (λ j. get_or a j Null) i xs → worst_of (error_in (masked_from i places xs)) (error_in (picked places a)) ≡ error_in (picked places a)
mask-absorbed a places i [] f = refl
mask-absorbed a places i (x ∷ xs) f = elim (cases_Bool (list_any (nat_eq i) places)) [
  | inl in_it ↦
      worst-monoid.associative (error_of (cond (list_any (nat_eq i) places) x Null)) (error_in (masked_from (i + 1) places xs)) (error_in (picked places a))
      ∙ ap₂ worst_of (ap (λ b. error_of (cond b x Null)) in_it ∙ ap error_of f.0) (mask-absorbed a places (i + 1) xs f.1)
      ∙ in-key a i places in_it
  | inr out ↦
      worst-monoid.associative (error_of (cond (list_any (nat_eq i) places) x Null)) (error_in (masked_from (i + 1) places xs)) (error_in (picked places a))
      ∙ ap₂ worst_of (ap (λ b. error_of (cond b x Null)) out) (mask-absorbed a places (i + 1) xs f.1)
]

pub same-errors : (places : List ℕ) (a : List Cell) → error_in (masked_from 0 places a) ≡ error_in (picked places a)
same-errors places a =
    sym (ap (λ z. worst_of (error_in z) (error_in (masked_from 0 places a))) (sym (picked-mask places places a (all-in places))) ∙ picked-absorbed places (masked_from 0 places a))
    ∙ worst-monoid.commutative (error_in (picked places a)) (error_in (masked_from 0 places a))
    ∙ mask-absorbed a places 0 a (follows-all a)
