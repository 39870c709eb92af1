-- Rows that are there, clean rows and their number, through the operations on bags.
use Rattle.std.proofs.Common.{ℕ, zero, suc, ◌≡◌, ◌&&◌, nat_eq, cond, Bool, true, false, List, [], ◌∷◌, ◌++◌, None, refl, sym, ap, subst, ◌∙◌, inl, inr}
use Rattle.std.proofs.lemmas.Bool.{and_from, and_parts, or_cases, or_left, or_right}
use Rattle.row_bag.specs.Bags.{bind, if_there, keep, row, unit}
use Rattle.row_bag.specs.Errors.{error_at}
use Rattle.row_bag.specs.Sets.{copies, distinct, level_in, multiplicity, once, same_cells}
use Rattle.row_bag.specs.Verdict.{is_there}
use Rattle.row_bag.specs.declared.row.Row.{Row}
use Rattle.row_bag.proofs.TupleBags.{same_cells-decides}
use Rattle.sql_value.specs.Level.{greatest, least}
use Rattle.sql_value.specs.declared.cell.Cell.{Cell}
use Rattle.sql_value.specs.declared.level.Level.{Level}
use Rattle.sql_value.specs.declared.level.Level.TheVariants.{No, Cardinality, Division, Overflow, Yes}
use Rattle.qgm_meaning.specs.Laws.{occurs}
use Rattle.qgm_meaning.specs.Meaning.{once_if}
use Rattle.qgm_meaning.specs.Values.{Bag}
use Rattle.qgm_props.specs.Facts.{Each, EachThere}
use Rattle.row_bag.specs.AsSets.{is_decided}
use Rattle.qgm_props.proofs.EachClean.{EachClean, clean-decided, decided-clean}

-- a level of a row that is there
abbrev pub there_at : Level → Bool
there_at No = false
there_at Cardinality = true
there_at Division = true
there_at Overflow = true
there_at Yes = true

pub there-is : (c : List Cell) (l : Level) → is_there (row c l) ≡ there_at l
there-is c No = refl
there-is c Cardinality = refl
there-is c Division = refl
there-is c Overflow = refl
there-is c Yes = refl

pub least-there : (a b : Level) → there_at (least a b) ≡ (there_at a && there_at b)
least-there No No = refl
least-there No Cardinality = refl
least-there No Division = refl
least-there No Overflow = refl
least-there No Yes = refl
least-there Cardinality No = refl
least-there Cardinality Cardinality = refl
least-there Cardinality Division = refl
least-there Cardinality Overflow = refl
least-there Cardinality Yes = refl
least-there Division No = refl
least-there Division Cardinality = refl
least-there Division Division = refl
least-there Division Overflow = refl
least-there Division Yes = refl
least-there Overflow No = refl
least-there Overflow Cardinality = refl
least-there Overflow Division = refl
least-there Overflow Overflow = refl
least-there Overflow Yes = refl
least-there Yes No = refl
least-there Yes Cardinality = refl
least-there Yes Division = refl
least-there Yes Overflow = refl
least-there Yes Yes = refl

-- ---- each row

pub each-append : {X : Type 0} (P : X → Type 0) (xs ys : List X) → Each P xs → Each P ys → Each P (xs ++ ys)
each-append P [] ys h k = k
each-append P (x ∷ xs) ys h k = (h.0, each-append P xs ys h.1 k)

-- a row that is there stands in a bag that it is put before
pub occurs-here : (r : Row (List Cell)) (rows : Bag) → is_there r ≡ true → occurs r.cells (r ∷ rows) ≡ true
occurs-here r rows t = or_left (same_cells r.cells r.cells && is_there r) (occurs r.cells rows) (and_from (same_cells r.cells r.cells) (is_there r) ((same_cells-decides r.cells r.cells).1 refl) t)

pub occurs-more : (c : List Cell) (r : Row (List Cell)) (rows : Bag) → occurs c rows ≡ true → occurs c (r ∷ rows) ≡ true
occurs-more c r rows t = or_right (same_cells r.cells c && is_there r) (occurs c rows) t

-- what holds of each tuple that occurs holds of each row that is there
pub each-occurs : (P : List Cell → Type 0) (rows : Bag) → ((c : List Cell) → occurs c rows ≡ true → P c) → EachThere P rows
each-occurs P [] h = tt
each-occurs P (r ∷ rows) h = ((λ t. h r.cells (occurs-here r rows t)), each-occurs P rows (λ c o. h c (occurs-more c r rows o)))

pub occurs-each : (P : List Cell → Type 0) (rows : Bag) → EachThere P rows → (c : List Cell) → occurs c rows ≡ true → P c
occurs-each P [] h c o = absurd (let z : ⊥ = cc in z)
occurs-each P (r ∷ rows) h c o = elim (or_cases (same_cells r.cells c && is_there r) (occurs c rows) o) [
  | inl t ↦ (let p = and_parts (same_cells r.cells c) (is_there r) t in subst P ((same_cells-decides r.cells c).0 p.0) (h.0 p.1))
  | inr t ↦ occurs-each P rows h.1 c t
]

-- ---- keep, bind

pub there-kept : (l : Level) (r : Row (List Cell)) → is_there (row r.cells (least l r.level)) ≡ true → (there_at l ≡ true) × (is_there r ≡ true)
there-kept l r t =
    let p = and_parts (there_at l) (there_at r.level) (sym (least-there l r.level) ∙ sym (there-is r.cells (least l r.level)) ∙ t) in (p.0, there-is r.cells r.level ∙ p.1)

pub each-keep : (P : List Cell → Type 0) (l : Level) (rows : Bag) → (there_at l ≡ true → EachThere P rows) → EachThere P (keep l rows)
each-keep P l [] h = tt
each-keep P l (r ∷ rows) h = ((λ t. let k = there-kept l r t in (h k.0).0 k.1), each-keep P l rows (λ t. (h t).1))

pub each-bind : (P : List Cell → Type 0) (xs : Bag) (f : List Cell → Bag) → ((c : List Cell) → occurs c xs ≡ true → EachThere P (f c)) → EachThere P (bind xs f)
each-bind P [] f h = tt
each-bind P (x ∷ xs) f h =
    each-append (λ r. is_there r ≡ true → P r.cells) (keep x.level (f x.cells)) (bind xs f)
    (each-keep P x.level (f x.cells) (λ t. h x.cells (occurs-here x xs (there-is x.cells x.level ∙ t)))) (each-bind P xs f (λ c o. h c (occurs-more c x xs o)))

pub least-decided : (a b : Level) → is_decided a ≡ true → is_decided b ≡ true → is_decided (least a b) ≡ true
least-decided No No h k = refl
least-decided No Yes h k = refl
least-decided Yes No h k = refl
least-decided Yes Yes h k = refl
least-decided No Cardinality h k = absurd (let z : ⊥ = cc in z)
least-decided No Division h k = absurd (let z : ⊥ = cc in z)
least-decided No Overflow h k = absurd (let z : ⊥ = cc in z)
least-decided Yes Cardinality h k = absurd (let z : ⊥ = cc in z)
least-decided Yes Division h k = absurd (let z : ⊥ = cc in z)
least-decided Yes Overflow h k = absurd (let z : ⊥ = cc in z)
least-decided Cardinality b h k = absurd (let z : ⊥ = cc in z)
least-decided Division b h k = absurd (let z : ⊥ = cc in z)
least-decided Overflow b h k = absurd (let z : ⊥ = cc in z)

pub greatest-decided : (a b : Level) → is_decided a ≡ true → is_decided b ≡ true → is_decided (greatest a b) ≡ true
greatest-decided No No h k = refl
greatest-decided No Yes h k = refl
greatest-decided Yes No h k = refl
greatest-decided Yes Yes h k = refl
greatest-decided No Cardinality h k = absurd (let z : ⊥ = cc in z)
greatest-decided No Division h k = absurd (let z : ⊥ = cc in z)
greatest-decided No Overflow h k = absurd (let z : ⊥ = cc in z)
greatest-decided Yes Cardinality h k = absurd (let z : ⊥ = cc in z)
greatest-decided Yes Division h k = absurd (let z : ⊥ = cc in z)
greatest-decided Yes Overflow h k = absurd (let z : ⊥ = cc in z)
greatest-decided Cardinality b h k = absurd (let z : ⊥ = cc in z)
greatest-decided Division b h k = absurd (let z : ⊥ = cc in z)
greatest-decided Overflow b h k = absurd (let z : ⊥ = cc in z)

-- the lesser of no and another level is no
pub no-kept : (l : Level) → is_decided (least No l) ≡ true
no-kept No = refl
no-kept Cardinality = refl
no-kept Division = refl
no-kept Overflow = refl
no-kept Yes = refl

pub clean-keep_no : (rows : Bag) → EachClean (keep No rows)
clean-keep_no [] = tt
clean-keep_no (r ∷ rows) = (decided-clean (least No r.level) (no-kept r.level), clean-keep_no rows)

pub clean-keep : (l : Level) (rows : Bag) → is_decided l ≡ true → EachClean rows → EachClean (keep l rows)
clean-keep l [] d h = tt
clean-keep l (r ∷ rows) d h = (decided-clean (least l r.level) (least-decided l r.level d (clean-decided r.level h.0)), clean-keep l rows d h.1)

pub clean-bind : (xs : Bag) (f : List Cell → Bag) → EachClean xs → ((c : List Cell) → occurs c xs ≡ true → EachClean (f c)) → EachClean (bind xs f)
clean-bind [] f h k = tt
clean-bind (x ∷ xs) f h k = each-append (λ r. error_at r.level ≡ None) (keep x.level (f x.cells)) (bind xs f) (at x.level refl) (clean-bind xs f h.1 (λ c o. k c (occurs-more c x xs o)))
  where
    -- a row at no binds nothing
    at : (l : Level) → x.level ≡ l → EachClean (keep x.level (f x.cells))
    at No e = subst (λ (m : Level). EachClean (keep m (f x.cells))) (sym e) (clean-keep_no (f x.cells))
    at Cardinality e = clean-keep x.level (f x.cells) (clean-decided x.level h.0) (k x.cells (occurs-here x xs (there-is x.cells x.level ∙ ap there_at e)))
    at Division e = clean-keep x.level (f x.cells) (clean-decided x.level h.0) (k x.cells (occurs-here x xs (there-is x.cells x.level ∙ ap there_at e)))
    at Overflow e = clean-keep x.level (f x.cells) (clean-decided x.level h.0) (k x.cells (occurs-here x xs (there-is x.cells x.level ∙ ap there_at e)))
    at Yes e = clean-keep x.level (f x.cells) (clean-decided x.level h.0) (k x.cells (occurs-here x xs (there-is x.cells x.level ∙ ap there_at e)))

-- ---- each tuple once

pub each-once : (P : List Cell → Type 0) (xs : Bag) → EachThere P xs → EachThere P (once same_cells xs)
each-once P [] h = tt
each-once P (x ∷ xs) h = each-append (λ r. is_there r ≡ true → P r.cells) (if_there [] (λ c l. cond (nat_eq (multiplicity same_cells c xs) 0) (unit c) []) x.cells x.level) (once same_cells xs) (at x.level refl) (each-once P xs h.1)
  where
    one : (b : Bool) → is_there x ≡ true → EachThere P (cond b (unit x.cells) [])
    one true t = ((λ _. h.0 t), tt)
    one false t = tt

    at : (l : Level) → x.level ≡ l → EachThere P (if_there [] (λ c l. cond (nat_eq (multiplicity same_cells c xs) 0) (unit c) []) x.cells l)
    at No e = tt
    at Cardinality e = one (nat_eq (multiplicity same_cells x.cells xs) 0) (there-is x.cells x.level ∙ ap there_at e)
    at Division e = one (nat_eq (multiplicity same_cells x.cells xs) 0) (there-is x.cells x.level ∙ ap there_at e)
    at Overflow e = one (nat_eq (multiplicity same_cells x.cells xs) 0) (there-is x.cells x.level ∙ ap there_at e)
    at Yes e = one (nat_eq (multiplicity same_cells x.cells xs) 0) (there-is x.cells x.level ∙ ap there_at e)

pub clean-once : (xs : Bag) → EachClean (once same_cells xs)
clean-once [] = tt
clean-once (x ∷ xs) = each-append (λ r. error_at r.level ≡ None) (if_there [] (λ c l. cond (nat_eq (multiplicity same_cells c xs) 0) (unit c) []) x.cells x.level) (once same_cells xs) (at x.level) (clean-once xs)
  where
    one : (b : Bool) → EachClean (cond b (unit x.cells) [])
    one true = (refl, tt)
    one false = tt

    at : (l : Level) → EachClean (if_there [] (λ c l. cond (nat_eq (multiplicity same_cells c xs) 0) (unit c) []) x.cells l)
    at No = tt
    at Cardinality = one (nat_eq (multiplicity same_cells x.cells xs) 0)
    at Division = one (nat_eq (multiplicity same_cells x.cells xs) 0)
    at Overflow = one (nat_eq (multiplicity same_cells x.cells xs) 0)
    at Yes = one (nat_eq (multiplicity same_cells x.cells xs) 0)

-- the greatest level of a tuple among clean rows
level-decided : (c : List Cell) (xs : Bag) → EachClean xs → is_decided (level_in same_cells c xs) ≡ true
level-decided c [] h = refl
level-decided c (x ∷ xs) h = greatest-decided (if_there No (λ k l. cond (same_cells k c) l No) x.cells x.level) (level_in same_cells c xs) (at x.level (clean-decided x.level h.0)) (level-decided c xs h.1)
  where
    one : (b : Bool) (l : Level) → is_decided l ≡ true → is_decided (cond b l No) ≡ true
    one true l d = d
    one false l d = refl

    at : (l : Level) → is_decided l ≡ true → is_decided (if_there No (λ k l. cond (same_cells k c) l No) x.cells l) ≡ true
    at No d = refl
    at Cardinality d = one (same_cells x.cells c) Cardinality d
    at Division d = one (same_cells x.cells c) Division d
    at Overflow d = one (same_cells x.cells c) Overflow d
    at Yes d = one (same_cells x.cells c) Yes d

pub each-distinct : (P : List Cell → Type 0) (xs : Bag) → EachThere P xs → EachThere P (distinct same_cells xs)
each-distinct P xs h = each-bind P (once same_cells xs) (λ c. row c (level_in same_cells c xs) ∷ []) (λ c o. ((λ _. occurs-each P (once same_cells xs) (each-once P xs h) c o), tt))

pub clean-distinct : (xs : Bag) → EachClean xs → EachClean (distinct same_cells xs)
clean-distinct xs h = clean-bind (once same_cells xs) (λ c. row c (level_in same_cells c xs) ∷ []) (clean-once xs) (λ c o. (decided-clean (level_in same_cells c xs) (level-decided c xs h), tt))

pub each-if : (P : List Cell → Type 0) (b : Bool) (xs : Bag) → EachThere P xs → EachThere P (once_if b xs)
each-if P true xs h = each-distinct P xs h
each-if P false xs h = h

pub clean-if : (b : Bool) (xs : Bag) → EachClean xs → EachClean (once_if b xs)
clean-if true xs h = clean-distinct xs h
clean-if false xs h = h

pub each-copies : (P : List Cell → Type 0) (n : ℕ) (c : List Cell) → P c → EachThere P (copies n c)
each-copies P zero c h = tt
each-copies P (suc n) c h = ((λ _. h), each-copies P n c h)

pub clean-copies : (n : ℕ) (c : List Cell) → EachClean (copies n c)
clean-copies zero c = tt
clean-copies (suc n) c = (refl, clean-copies n c)
