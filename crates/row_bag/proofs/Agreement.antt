-- Totals over bags, and agreement by sums.
use Rattle.std.proofs.Common.{◌≡◌, ℕ, ◌+◌, add_assoc, add_comm, zero-add, List, [], ◌++◌, refl, ap, ap₂, sym, ◌∙◌}
use mathlib.Core.Path.{fun_ext}
use Rattle.sql_value.specs.declared.level.Level.{Level}
use Rattle.sql_value.specs.declared.level.Level.TheVariants.{No, Cardinality, Division, Overflow, Yes}
use Rattle.sql_value.specs.Level.{least}
use Rattle.row_bag.specs.Bags.{row, keep, bind, fold_map, if_there, total, Alike, IsCommutativeMonoid}
use Rattle.row_bag.specs.declared.row.Row.{Row}
use Rattle.row_bag.proofs.Levels.{least-commutative, least-no}
use Rattle.row_bag.proofs.Binds.{bind-keep, keep-keep}
use Rattle.row_bag.proofs.Folds.{fold_map-append, fold_map-flat_map, fold_map-swap, fold_map-map, fold_map-same, fold_map-none}

pub sum-monoid : IsCommutativeMonoid ℕ ◌+◌ 0
sum-monoid = record { associative = add_assoc; commutative = add_comm; unit = zero-add }

-- totals
module _ {M : Type 0} {op : M → M → M} {e : M} (m : IsCommutativeMonoid M op e) where
  -- a weight seen through a keep
  pub total-keep : {T : Type 0} (f : T → Level → M) (l : Level) (rs : List (Row T)) → total op e f (keep l rs) ≡ total op e (λ c k. if_there e f c (least l k)) rs
  total-keep f l rs =
      fold_map-map op e (λ r. if_there e f r.cells r.level) (λ r. row r.cells (least l r.level)) rs
      ∙ fold_map-same op e (λ r. if_there e f r.cells (least l r.level)) (λ r. if_there e (λ c k. if_there e f c (least l k)) r.cells r.level) rs
      (λ r. if_there-keep f l r.cells r.level)
    where
      if_there-keep : {T : Type 0} (f : T → Level → M) (l : Level) (c : T) (k : Level) → if_there e f c (least l k) ≡ if_there e (λ c k. if_there e f c (least l k)) c k
      if_there-keep f l c No = ap (if_there e f c) (least-no l)
      if_there-keep f l c Cardinality = refl
      if_there-keep f l c Division = refl
      if_there-keep f l c Overflow = refl
      if_there-keep f l c Yes = refl

  pub total-none : {T : Type 0} (f : T → Level → M) (rs : List (Row T)) → total op e f (keep No rs) ≡ e
  total-none f rs =
      total-keep f No rs
      ∙ fold_map-same op e (λ r. if_there e (λ c k. if_there e f c (least No k)) r.cells r.level) (λ r. e) rs (λ r. all_no f r.cells r.level)
      ∙ fold_map-none m rs
    where
      all_no : {T : Type 0} (f : T → Level → M) (c : T) (k : Level) → if_there e (λ c k. if_there e f c (least No k)) c k ≡ e
      all_no f c No = refl
      all_no f c Cardinality = refl
      all_no f c Division = refl
      all_no f c Overflow = refl
      all_no f c Yes = refl

  pub total-bind : {A B : Type 0} (w : B → Level → M) (xs : List (Row A)) (f : A → List (Row B)) → total op e w (bind xs f) ≡ total op e (λ c l. total op e w (keep l (f c))) xs
  total-bind w xs f =
      fold_map-flat_map m (λ r. if_there e w r.cells r.level) (λ r. keep r.level (f r.cells)) xs
      ∙ fold_map-same op e (λ r. total op e w (keep r.level (f r.cells))) (λ r. if_there e (λ c l. total op e w (keep l (f c))) r.cells r.level) xs
      (λ r. at_level w f r.cells r.level)
    where
      at_level : {A B : Type 0} (w : B → Level → M) (f : A → List (Row B)) (c : A) (k : Level) → total op e w (keep k (f c)) ≡ if_there e (λ c l. total op e w (keep l (f c))) c k
      at_level w f c No = total-none w (f c)
      at_level w f c Cardinality = refl
      at_level w f c Division = refl
      at_level w f c Overflow = refl
      at_level w f c Yes = refl

-- agreement is an equivalence
pub alike-refl : {T : Type 0} (xs : List (Row T)) → Alike xs xs
alike-refl xs = record { sums = λ f. refl }

pub alike-same : {T : Type 0} {xs ys : List (Row T)} → xs ≡ ys → Alike xs ys
alike-same h = record { sums = λ f. ap (total ◌+◌ 0 f) h }

pub alike-sym : {T : Type 0} {xs ys : List (Row T)} → Alike xs ys → Alike ys xs
alike-sym h = record { sums = λ f. sym (h.sums f) }

pub alike-trans : {T : Type 0} {xs ys zs : List (Row T)} → Alike xs ys → Alike ys zs → Alike xs zs
alike-trans h k = record { sums = λ f. h.sums f ∙ k.sums f }

pub alike-append : {T : Type 0} {xs ys us vs : List (Row T)} → Alike xs us → Alike ys vs → Alike (xs ++ ys) (us ++ vs)
alike-append {xs = xs} {ys = ys} {us = us} {vs = vs} h k = record {
  sums = λ f.
      fold_map-append sum-monoid (λ r. if_there 0 f r.cells r.level) xs ys
      ∙ ap₂ (λ a b. a + b) (h.sums f) (k.sums f)
      ∙ sym (fold_map-append sum-monoid (λ r. if_there 0 f r.cells r.level) us vs);
}

pub alike-keep : {T : Type 0} {xs ys : List (Row T)} (l : Level) → Alike xs ys → Alike (keep l xs) (keep l ys)
alike-keep {xs = xs} {ys = ys} l h = record { sums = λ f. total-keep sum-monoid f l xs ∙ h.sums (λ c k. if_there 0 f c (least l k)) ∙ sym (total-keep sum-monoid f l ys) }

pub alike-keep_no : {T : Type 0} (xs : List (Row T)) → Alike (keep No xs) []
alike-keep_no xs = record { sums = λ f. total-none sum-monoid f xs }

-- product, filter and map in one: both operands may change
pub alike-bind : {A B : Type 0} {xs ys : List (Row A)} {f g : A → List (Row B)} → Alike xs ys → ((c : A) → Alike (f c) (g c)) → Alike (bind xs f) (bind ys g)
alike-bind {xs = xs} {ys = ys} {f = f} {g = g} h k = record {
  sums = λ w.
      total-bind sum-monoid w xs f
      ∙ h.sums (λ c l. total ◌+◌ 0 w (keep l (f c)))
      ∙ ap (λ v. total ◌+◌ 0 v ys) (fun_ext (λ c. fun_ext (λ l. (alike-keep l (k c)).sums w)))
      ∙ sym (total-bind sum-monoid w ys g);
}

-- the total of a product, over both operands
total-nested : {A B C : Type 0} (w : C → Level → ℕ) (xs : List (Row A)) (ys : List (Row B)) (f : A → B → List (Row C)) → total ◌+◌ 0 w (bind xs (λ a. bind ys (f a))) ≡ fold_map ◌+◌ 0 (λ r. fold_map ◌+◌ 0 (λ s. total ◌+◌ 0 w (keep (least s.level r.level) (f r.cells s.cells))) ys) xs
total-nested w xs ys f =
    fold_map-flat_map sum-monoid (λ r. if_there 0 w r.cells r.level) (λ r. keep r.level (bind ys (f r.cells))) xs
    ∙ ap (λ k. fold_map ◌+◌ 0 k xs) (fun_ext (λ r.
    ap (total ◌+◌ 0 w) (bind-keep r.level ys (f r.cells))
    ∙ fold_map-flat_map sum-monoid (λ r. if_there 0 w r.cells r.level) (λ s. keep s.level (keep r.level (f r.cells s.cells))) ys
    ∙ ap (λ k. fold_map ◌+◌ 0 k ys) (fun_ext (λ s. ap (total ◌+◌ 0 w) (keep-keep s.level r.level (f r.cells s.cells))))))

-- independent operands change places
pub alike-swap : {A B C : Type 0} (xs : List (Row A)) (ys : List (Row B)) (f : A → B → List (Row C)) → Alike (bind xs (λ a. bind ys (f a))) (bind ys (λ b. bind xs (λ a. f a b)))
alike-swap xs ys f = record {
  sums = λ w.
      total-nested w xs ys f
      ∙ fold_map-swap sum-monoid (λ r s. total ◌+◌ 0 w (keep (least s.level r.level) (f r.cells s.cells))) xs ys
      ∙ ap (λ k. fold_map ◌+◌ 0 k ys) (fun_ext (λ s. ap (λ k. fold_map ◌+◌ 0 k xs) (fun_ext (λ r. ap (λ l. total ◌+◌ 0 w (keep l (f r.cells s.cells))) (least-commutative s.level r.level)))))
      ∙ sym (total-nested w ys xs (λ b a. f a b));
}
