-- What is inferred of a set operation holds.
use Rattle.std.proofs.Common.{ℕ, zero, suc, ◌≡◌, ◌≤◌, ◌-◌, min, ◌==◌, Bool, true, false, List, [], ◌∷◌, ◌++◌, length, None, eqb-true, nat_lt, refl, sym, subst, arith, inl, inr}
use Rattle.std.proofs.lemmas.Bool.{and_parts, cases_Bool, eqb-false, ltb-false, ltb-true}
use Rattle.row_bag.specs.Bags.{bind}
use Rattle.row_bag.specs.Errors.{error_among, error_at, error_in}
use Rattle.row_bag.specs.Order.{cell_of}
use Rattle.row_bag.specs.Sets as sets
use Rattle.row_bag.specs.Sets.{copies, distinct, multiplicity, once, same_cells}
use Rattle.row_bag.specs.Verdict.{is_there}
use Rattle.sql_value.specs.declared.cell.Cell.{Cell}
use Rattle.qgm_core.specs.declared.kinds.SetOperator.{SetOperator}
use Rattle.qgm_core.specs.declared.kinds.SetOperator.TheVariants.{UnionAll, Union, IntersectAll, Intersect, ExceptAll, Except}
use Rattle.qgm_meaning.specs.Meaning.{combined}
use Rattle.qgm_meaning.specs.Values.{Bag}
use Rattle.qgm_meaning.specs.Widths.{Wide}
use Rattle.qgm_props.specs.Facts.{Each, EachThere, IsErrorFree, is_sound}
use Rattle.qgm_props.proofs.EachClean.{EachClean}
use Rattle.qgm_props.specs.Inferred.{all_places}
use Rattle.qgm_props.proofs.Counted.{occurs-once}
use Rattle.qgm_props.proofs.Folds.{clean-none, none-among, none-in, uncollapsed}
use Rattle.qgm_props.proofs.Rows.{clean-bind, clean-copies, clean-distinct, clean-once, each-append, each-bind, each-copies, each-distinct, occurs-each}

-- each of the places
pub places-all : (w : ℕ) (test : ℕ → Bool) → all_places w test ≡ true → (k : ℕ) → 1 ≤ k → k ≤ w → test k ≡ true
places-all zero test h k l m = absurd (let z : ⊥ = omega (arith, l, m) in z)
places-all (suc w) test h k l m = let a = and_parts (test (suc w)) (all_places w test) h in one (k == suc w) refl a.0 (λ n. places-all w test a.1 k l n)
  where
    one : (b : Bool) → (k == suc w) ≡ b → test (suc w) ≡ true → (k ≤ w → test k ≡ true) → test k ≡ true
    one true e t i = subst (λ j. test j ≡ true) (sym (eqb-true k (suc w) e)) t
    one false e t i = i (elim (cases_Bool (nat_lt k (suc w))) [
      | inl u ↦ (let n = ltb-true k (suc w) u in omega (arith, n))
      | inr u ↦ absurd (let n = ltb-false k (suc w) u in eqb-false k (suc w) e (omega (arith, n, m)))
    ])

-- cells of which each place is sound
cells-sound : (cells : List Cell) → ((k : ℕ) → 1 ≤ k → k ≤ length cells → is_sound (cell_of k cells) ≡ true) → Each (λ x. is_sound x ≡ true) cells
cells-sound [] h = tt
cells-sound (x ∷ xs) h = (h 1 (omega (arith)) (let k : length (x ∷ xs) ≡ suc (length xs) = refl in omega (arith, k)), cells-sound xs (λ k l m. more k l m))
  where
    more : (k : ℕ) → 1 ≤ k → k ≤ length xs → is_sound (cell_of k xs) ≡ true
    more zero l m = absurd (let z : ⊥ = omega (arith, l) in z)
    more (suc k) l m = h (suc (suc k)) (omega (arith)) (let j : length (x ∷ xs) ≡ suc (length xs) = refl in omega (arith, j, m))

-- rows of w cells of which each column is error-free hold no error
no-error-in : (w : ℕ) (rows : Bag) → Wide w rows → ((k : ℕ) → 1 ≤ k → k ≤ w → IsErrorFree k rows) → EachThere (λ cells. error_in cells ≡ None) rows
no-error-in w [] d h = tt
no-error-in w (r ∷ rows) d h = (
  (λ t. none-in r.cells (cells-sound r.cells (λ k l m. (h k l (omega (arith, m, d.0))).0 t))),
  no-error-in w rows d.1 (λ k l m. (h k l m).1),
)

pub none-in-arms : (w : ℕ) (xs ys : Bag) → Wide w xs → Wide w ys → EachClean xs → EachClean ys → ((k : ℕ) → 1 ≤ k → k ≤ w → IsErrorFree k xs) → ((k : ℕ) → 1 ≤ k → k ≤ w → IsErrorFree k ys) → error_among error_in (xs ++ ys) ≡ None
none-in-arms w xs ys a b c d e f =
    none-among error_in (xs ++ ys) (each-append (λ r. error_at r.level ≡ None) xs ys c d)
    (each-append (λ r. is_there r ≡ true → error_in r.cells ≡ None) xs ys (no-error-in w xs a e) (no-error-in w ys b f))

-- tuples of a bag, each so often
copied : (P : List Cell → Type 0) (xs : Bag) (n : List Cell → ℕ) → EachThere P xs → EachThere P (bind (once same_cells xs) (λ c. copies (n c) c))
copied P xs n h = each-bind P (once same_cells xs) (λ c. copies (n c) c) (λ c o. each-copies P (n c) c (occurs-each P xs h c (occurs-once c xs o)))

copied-clean : (xs : Bag) (n : List Cell → ℕ) → EachClean (bind (once same_cells xs) (λ c. copies (n c) c))
copied-clean xs n = clean-bind (once same_cells xs) (λ c. copies (n c) c) (clean-once xs) (λ c o. clean-copies (n c) c)

-- an operation other than UNION reads no error
abbrev pub NoneIn : SetOperator → Bag → Bag → Type 0
NoneIn UnionAll xs ys = Unit {0}
NoneIn Union xs ys = Unit {0}
NoneIn IntersectAll xs ys = error_among error_in (xs ++ ys) ≡ None
NoneIn Intersect xs ys = error_among error_in (xs ++ ys) ≡ None
NoneIn ExceptAll xs ys = error_among error_in (xs ++ ys) ≡ None
NoneIn Except xs ys = error_among error_in (xs ++ ys) ≡ None

pub combined-clean : (form : SetOperator) (w : ℕ) (xs ys : Bag) → EachClean xs → EachClean ys → NoneIn form xs ys → EachClean (combined form w xs ys)
combined-clean UnionAll w xs ys c d n = each-append (λ r. error_at r.level ≡ None) xs ys c d
combined-clean Union w xs ys c d n = clean-distinct (xs ++ ys) (each-append (λ r. error_at r.level ≡ None) xs ys c d)
combined-clean IntersectAll w xs ys c d n = subst EachClean (sym (uncollapsed (error_among error_in (xs ++ ys)) w (sets.intersect_all same_cells xs ys) n)) (copied-clean xs (λ c. min (multiplicity same_cells c xs) (multiplicity same_cells c ys)))
combined-clean Intersect w xs ys c d n = subst EachClean (sym (uncollapsed (error_among error_in (xs ++ ys)) w (sets.intersect same_cells xs ys) n)) (copied-clean xs (λ c. min 1 (multiplicity same_cells c ys)))
combined-clean ExceptAll w xs ys c d n = subst EachClean (sym (uncollapsed (error_among error_in (xs ++ ys)) w (sets.except_all same_cells xs ys) n)) (copied-clean xs (λ c. multiplicity same_cells c xs - multiplicity same_cells c ys))
combined-clean Except w xs ys c d n = subst EachClean (sym (uncollapsed (error_among error_in (xs ++ ys)) w (sets.except same_cells xs ys) n)) (copied-clean xs (λ c. 1 - multiplicity same_cells c ys))

-- what holds of each tuple of both arms
pub combined-each : (P : List Cell → Type 0) (form : SetOperator) (w : ℕ) (xs ys : Bag) → EachThere P xs → EachThere P ys → NoneIn form xs ys → EachThere P (combined form w xs ys)
combined-each P UnionAll w xs ys h k n = each-append (λ r. is_there r ≡ true → P r.cells) xs ys h k
combined-each P Union w xs ys h k n = each-distinct P (xs ++ ys) (each-append (λ r. is_there r ≡ true → P r.cells) xs ys h k)
combined-each P IntersectAll w xs ys h k n = subst (EachThere P) (sym (uncollapsed (error_among error_in (xs ++ ys)) w (sets.intersect_all same_cells xs ys) n)) (copied P xs (λ c. min (multiplicity same_cells c xs) (multiplicity same_cells c ys)) h)
combined-each P Intersect w xs ys h k n = subst (EachThere P) (sym (uncollapsed (error_among error_in (xs ++ ys)) w (sets.intersect same_cells xs ys) n)) (copied P xs (λ c. min 1 (multiplicity same_cells c ys)) h)
combined-each P ExceptAll w xs ys h k n = subst (EachThere P) (sym (uncollapsed (error_among error_in (xs ++ ys)) w (sets.except_all same_cells xs ys) n)) (copied P xs (λ c. multiplicity same_cells c xs - multiplicity same_cells c ys) h)
combined-each P Except w xs ys h k n = subst (EachThere P) (sym (uncollapsed (error_among error_in (xs ++ ys)) w (sets.except same_cells xs ys) n)) (copied P xs (λ c. 1 - multiplicity same_cells c ys) h)

-- a clean operation isn't collapsed
pub clean-combined : (form : SetOperator) (w : ℕ) (xs ys : Bag) → EachClean (combined form w xs ys) → NoneIn form xs ys
clean-combined UnionAll w xs ys c = tt
clean-combined Union w xs ys c = tt
clean-combined IntersectAll w xs ys c = clean-none (error_among error_in (xs ++ ys)) w (sets.intersect_all same_cells xs ys) c
clean-combined Intersect w xs ys c = clean-none (error_among error_in (xs ++ ys)) w (sets.intersect same_cells xs ys) c
clean-combined ExceptAll w xs ys c = clean-none (error_among error_in (xs ++ ys)) w (sets.except_all same_cells xs ys) c
clean-combined Except w xs ys c = clean-none (error_among error_in (xs ++ ys)) w (sets.except same_cells xs ys) c
