-- Bags without error levels.
use Rattle.std.proofs.Common.{◌≡◌, Bool, true, false, cond, nat_eq, ◌&&◌, ◌||◌, List, [], ◌∷◌, ◌++◌, refl, ap₂, sym, ◌∙◌, Decides, ◌⊎◌, inl, inr}
use Rattle.std.proofs.lemmas.Bool.{and_from, and_parts}
use Rattle.sql_value.specs.declared.level.Level.{Level}
use Rattle.sql_value.specs.declared.level.Level.TheVariants.{No, Cardinality, Division, Overflow, Yes}
use Rattle.sql_value.specs.Level.{greatest, least}
use Rattle.row_bag.specs.Bags.{Alike, IsCommutativeMonoid, bind, if_there, keep, row, total, unit}
use Rattle.row_bag.specs.Sets.{distinct, level_in, multiplicity, once}
use Rattle.row_bag.specs.Verdict.{is_there}
use Rattle.row_bag.specs.declared.row.Row.{Row}
use Rattle.row_bag.proofs.Counts.{total-alike}
use Rattle.row_bag.specs.AsSets.{is_clean, is_decided, stands}

pub decided-either : (l : Level) → is_decided l ≡ true → (l ≡ No) ⊎ (l ≡ Yes)
decided-either No h = inl refl
decided-either Cardinality h = cc h
decided-either Division h = cc h
decided-either Overflow h = cc h
decided-either Yes h = inr refl

pub decided-least : (a b : Level) → is_decided a ≡ true → is_decided b ≡ true → is_decided (least a b) ≡ true
decided-least No No h k = refl
decided-least No Yes h k = refl
decided-least Yes No h k = refl
decided-least Yes Yes h k = refl
decided-least No Cardinality h k = cc k
decided-least No Division h k = cc k
decided-least No Overflow h k = cc k
decided-least Yes Cardinality h k = cc k
decided-least Yes Division h k = cc k
decided-least Yes Overflow h k = cc k
decided-least Cardinality b h k = cc h
decided-least Division b h k = cc h
decided-least Overflow b h k = cc h

-- ---- what is clean

pub clean-append : {T : Type 0} (xs ys : List (Row T)) → is_clean xs ≡ true → is_clean ys ≡ true → is_clean (xs ++ ys) ≡ true
clean-append [] ys h k = k
clean-append (x ∷ xs) ys h k =
    let p = and_parts (is_decided x.level) (is_clean xs) h in
    and_from (is_decided x.level) (is_clean (xs ++ ys)) p.0 (clean-append xs ys p.1 k)

pub clean-keep : {T : Type 0} (l : Level) (xs : List (Row T)) → is_decided l ≡ true → is_clean xs ≡ true → is_clean (keep l xs) ≡ true
clean-keep l [] h k = refl
clean-keep l (x ∷ xs) h k =
    let p = and_parts (is_decided x.level) (is_clean xs) k in
    and_from (is_decided (least l x.level)) (is_clean (keep l xs)) (decided-least l x.level h p.0) (clean-keep l xs h p.1)

pub clean-bind : {A B : Type 0} (xs : List (Row A)) (f : A → List (Row B)) → is_clean xs ≡ true → ((c : A) → is_clean (f c) ≡ true) → is_clean (bind xs f) ≡ true
clean-bind [] f h k = refl
clean-bind (x ∷ xs) f h k =
    let p = and_parts (is_decided x.level) (is_clean xs) h in
    clean-append (keep x.level (f x.cells)) (bind xs f) (clean-keep x.level (f x.cells) p.0 (k x.cells)) (clean-bind xs f p.1 k)

module _ {T : Type 0} (same : T → T → Bool) where
  clean-once_one : (c : T) (l : Level) (rs : List (Row T)) → is_clean (if_there [] (λ d m. cond (nat_eq (multiplicity same d rs) 0) (unit d) []) c l) ≡ true
  clean-once_one c l rs = at l
    where
      one : (b : Bool) → is_clean (cond b (unit c) []) ≡ true
      one true = refl
      one false = refl

      at : (l : Level) → is_clean (if_there [] (λ d m. cond (nat_eq (multiplicity same d rs) 0) (unit d) []) c l) ≡ true
      at No = refl
      at Cardinality = one (nat_eq (multiplicity same c rs) 0)
      at Division = one (nat_eq (multiplicity same c rs) 0)
      at Overflow = one (nat_eq (multiplicity same c rs) 0)
      at Yes = one (nat_eq (multiplicity same c rs) 0)

  pub clean-once : (rs : List (Row T)) → is_clean (once same rs) ≡ true
  clean-once [] = refl
  clean-once (r ∷ rs) = clean-append (if_there [] (λ d m. cond (nat_eq (multiplicity same d rs) 0) (unit d) []) r.cells r.level) (once same rs) (clean-once_one r.cells r.level rs) (clean-once rs)

  -- ---- levels of a clean bag

  level-one : (c k : T) (l : Level) → is_decided l ≡ true → if_there No (λ k m. cond (same k c) m No) k l ≡ cond (same k c && is_there (row k l)) Yes No
  level-one c k No h = elim (same k c) as (λ b. No ≡ cond (b && false) Yes No) [ true ↦ refl | false ↦ refl ]
  level-one c k Cardinality h = cc h
  level-one c k Division h = cc h
  level-one c k Overflow h = cc h
  level-one c k Yes h = elim (same k c) as (λ b. cond b Yes No ≡ cond (b && true) Yes No) [ true ↦ refl | false ↦ refl ]

  either : (a b : Bool) → greatest (cond a Yes No) (cond b Yes No) ≡ cond (a || b) Yes No
  either true true = refl
  either true false = refl
  either false true = refl
  either false false = refl

  -- a tuple is at yes where it stands
  pub level-clean : (c : T) (rs : List (Row T)) → is_clean rs ≡ true → level_in same c rs ≡ cond (stands same c rs) Yes No
  level-clean c [] h = refl
  level-clean c (r ∷ rs) h =
      let p = and_parts (is_decided r.level) (is_clean rs) h in
      ap₂ greatest (level-one c r.cells r.level p.0) (level-clean c rs p.1) ∙ either (same r.cells c && is_there r) (stands same c rs)

  pub clean-distinct : (rs : List (Row T)) → is_clean rs ≡ true → is_clean (distinct same rs) ≡ true
  clean-distinct rs h = clean-bind (once same rs) (λ c. row c (level_in same c rs) ∷ []) (clean-once rs) (λ c. rw (level-clean c rs h) (one (stands same c rs)))
    where
      one : (b : Bool) → (is_decided (cond b Yes No) && true) ≡ true
      one true = refl
      one false = refl

-- ---- bags that agree

and-monoid : IsCommutativeMonoid Bool ◌&&◌ true
and-monoid = record { associative = assoc; commutative = comm; unit = λ a. refl }
  where
    assoc : (a b c : Bool) → ((a && b) && c) ≡ (a && (b && c))
    assoc true b c = refl
    assoc false b c = refl

    comm : (a b : Bool) → (a && b) ≡ (b && a)
    comm true true = refl
    comm true false = refl
    comm false true = refl
    comm false false = refl

clean-total : {T : Type 0} (rs : List (Row T)) → is_clean rs ≡ total ◌&&◌ true (λ c l. is_decided l) rs
clean-total [] = refl
clean-total (r ∷ rs) = ap₂ (λ a b. a && b) (one r.cells r.level) (clean-total rs)
  where
    one : {A : Type 0} (c : A) (l : Level) → is_decided l ≡ if_there true (λ c l. is_decided l) c l
    one c No = refl
    one c Cardinality = refl
    one c Division = refl
    one c Overflow = refl
    one c Yes = refl

pub clean-alike : {T : Type 0} (same : T → T → Bool) (dec : (a b : T) → Decides (same a b) (a ≡ b)) {xs ys : List (Row T)} → Alike xs ys → is_clean xs ≡ is_clean ys
clean-alike same dec {xs = xs} {ys = ys} h = clean-total xs ∙ total-alike same dec and-monoid (λ c l. is_decided l) h ∙ sym (clean-total ys)
