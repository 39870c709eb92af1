-- The types of columns stay where boxes with the same heads stand in for others.
use Rattle.std.proofs.Common.{ℕ, suc, zero, ◌==◌, ◌-◌, ◌≡◌, ◌&&◌, Bool, true, false, cond, List, [], ◌∷◌, length, map, Option, Some, None, refl, sym, ap, ap₂, subst, ◌∙◌, ◌⊎◌, inl, inr, arith}
use Rattle.std.specs.Prelude.{slice_get}
use Rattle.std.specs.List.{flat_map, list_all}
use Rattle.std.proofs.lemmas.Bool.{and_from, and_parts}
use Rattle.sql_value.specs.declared.order_key.SqlType.{SqlType}
use Rattle.qgm_core.specs.Boxes.{owns, range_in}
use Rattle.qgm_core.specs.Free.{named_by}
use Rattle.list_laws.specs.Lists.{In, first, holds}
use Rattle.qgm_core.specs.declared.kinds.BoxKind.{BoxKind}
use Rattle.qgm_core.specs.declared.kinds.BoxKind.TheVariants.{Base, Select, Group, SetOp, OuterJoin}
use Rattle.qgm_core.specs.declared.node.Node.{Node}
use Rattle.qgm_core.specs.declared.owned.OwnedQuant.{OwnedQuant}
use Rattle.qgm_core.specs.declared.parts.BoxParts.{BoxParts}
use Rattle.qgm_terms.specs.Named.{names_in, names_in_cond}
use Rattle.qgm_wellformed.specs.Columns.{box_under, over_box}
use Rattle.qgm_wellformed.specs.Types.{all_agree, arm_agrees, arms_agree, cond_fits, is_known, is_typed, joined_column, known, lookup_of, term_type, type_found, type_in, types_agree, types_by, types_found, types_of}
use Rattle.qgm_wellformed.specs.declared.types.Typed.{Typed}
use Rattle.qgm_edit_laws.specs.Graph.{Sound}
pub use Rattle.qgm_edit_laws.specs.Reforms.{types_at}
use Rattle.qgm_edit_laws.proofs.AllSettled.{all-settled}
use Rattle.qgm_edit_laws.proofs.Levels as levels
use Rattle.qgm_edit_laws.proofs.Levels.{first-typed, number-of}
use Rattle.qgm_edit_laws.proofs.Scope.{in-first}
use Rattle.qgm_edit_laws.proofs.Settled.{cond-local, kinds-local, stays, term-local}
use Rattle.list_laws.proofs.Membership.{all-from, all-in, in-holds, in-left, in-right}

pub in-flat : {X : Type 0} (f : X → List ℕ) (x : X) (xs : List X) (q : ℕ) → In x xs → In q (f x) → In q (flat_map f xs)
in-flat f x [] q i j = elim i [ ]
in-flat f x (y ∷ xs) q i j = elim i [ inl e ↦ in-left q (f y) (flat_map f xs) (subst (λ z. In q (f z)) (sym e) j) | inr k ↦ in-right q (f y) (flat_map f xs) (in-flat f x xs q k j) ]

pub all-alike : {X : Type 0} (p q : X → Bool) (xs : List X) → ((x : X) → In x xs → p x ≡ q x) → list_all p xs ≡ list_all q xs
all-alike p q [] h = refl
all-alike p q (x ∷ xs) h = ap₂ (λ a b. a && b) (h x (inl refl)) (all-alike p q xs (λ y i. h y (inr i)))

-- what is known of a box is what its head gives, by what is known of others
pub settled-types : (bs : List Node) (root : ℕ) (w : Sound bs root) (n : Node) → In n bs → types_at bs n.id ≡ types_by (lookup_of bs) n.parts.kind n.parts.head
settled-types bs root w n i =
    sym (stays bs w.ordered w.once (length bs) n.id (suc (length bs)) (all-settled bs root w n i) (omega arith))
    ∙ ap types_found (first-typed bs (types_of bs) bs n.id n (in-first n bs w.ordered i))

pub type-alike : (bs hs : List Node) (k u v : ℕ) → types_at hs v ≡ types_at bs u → type_in k (first (is_typed v) (types_of hs)) ≡ type_in k (first (is_typed u) (types_of bs))
type-alike bs hs k u v h = type_by k (first (is_typed v) (types_of hs)) ∙ ap (λ z. cond (k == 0) None (joined_column (slice_get z (k - 1)))) h ∙ sym (type_by k (first (is_typed u) (types_of bs)))
  where
    type_by : (k : ℕ) (o : Option Typed) → type_in k o ≡ cond (k == 0) None (joined_column (slice_get (types_found o) (k - 1)))
    type_by k None = none (k == 0)
      where
        none : (b : Bool) → ◌≡◌ {A = Option SqlType} None (cond b None None)
        none true = refl
        none false = refl
    type_by k (Some x) = refl

-- R of a box before and one after: they have the same parts, and what they name ranges over such boxes; or another, of the same types, that is settled before the first, stands for it, unless the types are the same anyway
pub record Follows (bs : List Node) (root : ℕ) (w : Sound bs root) (hs : List Node) (R : Node → Node → Type 0) : Type 1 where
  pub before : (y z : Node) → R y z → In y bs
  pub after : (y z : Node) → R y z → In z hs
  pub step : (y z : Node) → R y z
      → ((z.parts ≡ y.parts) × ((q : ℕ) → holds q (named_by y) ≡ true → (u : Node) × ((v : Node) × ((box_under bs q ≡ Some u) × ((box_under hs q ≡ Some v) × R u v)))))
      ⊎ ((u : Node) × (R u z × ((types_at bs y.id ≡ types_at bs u.id) × ((e : ℕ) → levels.settled bs w.ordered w.once (suc e) y.id ≡ true → (levels.settled bs w.ordered w.once e u.id ≡ true) ⊎ (types_at hs z.id ≡ types_at bs y.id)))))

module _ (bs : List Node) (root : ℕ) (w : Sound bs root) (hs : List Node) (top : ℕ) (v : Sound hs top) (R : Node → Node → Type 0) (f : Follows bs root w hs R) where
  abbrev S : ℕ → ℕ → Bool
  S = levels.settled bs w.ordered w.once

  abbrev U : ℕ → ℕ → Bool
  U e = levels.under bs w.ordered w.once (S e)

  under-settled : (e : ℕ) (o : Option OwnedQuant) (u : Node) → levels.under_by bs w.ordered w.once (S e) o ≡ true → over_box bs o ≡ Some u → S e u.id ≡ true
  under-settled e None u g h = absurd (cc h)
  under-settled e (Some r) u g h = subst (λ z. S e z ≡ true) (sym (number-of bs r.over u h)) g

  same-types : (e : ℕ) (y z : Node) → R y z → S e y.id ≡ true → types_at hs z.id ≡ types_at bs y.id
  same-types zero y z r s = absurd (cc s)
  same-types (suc e) y z r s = elim (f.step y z r) [
    | inr x ↦ elim (x.1.1.1 e s) [ inl t ↦ same-types e x.0 z x.1.0 t ∙ sym x.1.1.0 | inr t ↦ t ]
    | inl x ↦ (
        let names : list_all (U e) (flat_map names_in y.parts.head) ≡ true = sym (ap (levels.step_by bs w.ordered w.once (S e)) (in-first y bs w.ordered (f.before y z r))) ∙ s in
        let here : (m : ℕ) → In m (flat_map names_in y.parts.head) → holds m (named_by y) ≡ true = (λ m j. in-holds m (named_by y) (in-left m (flat_map names_in y.parts.head) (flat_map names_in_cond y.parts.conds.items) j)) in
        settled-types hs top v z (f.after y z r)
        ∙ ap (λ (p : BoxParts). types_by (lookup_of hs) p.kind p.head) x.0
        ∙ kinds-local (lookup_of hs) (lookup_of bs) (λ m. U e m && holds m (named_by y)) (λ m g k. (
        let p = and_parts (U e m) (holds m (named_by y)) g in
        let a = x.1 m p.1 in
        ap (type_found (types_of hs) k) a.1.1.1.0 ∙ type-alike bs hs k a.0.id a.1.0.id (same-types e a.0 a.1.0 a.1.1.1.1 (under-settled e (range_in m (first (owns m) bs)) a.0 p.0 a.1.1.0)) ∙ sym (ap (type_found (types_of bs) k) a.1.1.0)))
        y.parts.kind y.parts.head (all-from (λ m. U e m && holds m (named_by y)) (flat_map names_in y.parts.head) (λ m j. and_from (U e m) (holds m (named_by y)) (all-in (U e) m (flat_map names_in y.parts.head) names j) (here m j)))
        ∙ sym (settled-types bs root w y (f.before y z r)))
  ]

  pub types-follow : (y z : Node) → R y z → types_at hs z.id ≡ types_at bs y.id
  types-follow y z r = same-types (length bs) y z r (all-settled bs root w y (f.before y z r))

  -- a box of the same parts, over boxes that follow those before, agrees where it did
  module _ (y z : Node) (parts : z.parts ≡ y.parts) (named : (q : ℕ) → holds q (named_by y) ≡ true → (u : Node) × ((x : Node) × ((box_under bs q ≡ Some u) × ((box_under hs q ≡ Some x) × R u x))))
      (g : OwnedQuant → OwnedQuant) (quants : z.quants ≡ map g y.quants) (over : (r : OwnedQuant) → In r y.quants → (u : Node) × ((x : Node) × ((u.id ≡ r.over) × ((x.id ≡ (g r).over) × R u x)))) where
    looks : (m : ℕ) → holds m (named_by y) ≡ true → (k : ℕ) → lookup_of hs m k ≡ lookup_of bs m k
    looks m h k = let a = named m h in ap (type_found (types_of hs) k) a.1.1.1.0 ∙ type-alike bs hs k a.0.id a.1.0.id (types-follow a.0 a.1.0 a.1.1.1.1) ∙ sym (ap (type_found (types_of bs) k) a.1.1.0)

    heads-same : list_all (λ x. is_known (term_type (lookup_of hs) x)) y.parts.head ≡ list_all (λ x. is_known (term_type (lookup_of bs) x)) y.parts.head
    heads-same = all-alike (λ x. is_known (term_type (lookup_of hs) x)) (λ x. is_known (term_type (lookup_of bs) x)) y.parts.head (λ x i. ap is_known (term-local (lookup_of hs) (lookup_of bs) (λ m. holds m (named_by y)) looks x (all-from (λ m. holds m (named_by y)) (names_in x) (λ m j.
        in-holds m (named_by y) (in-left m (flat_map names_in y.parts.head) (flat_map names_in_cond y.parts.conds.items) (in-flat names_in x y.parts.head m i j))))))

    conds-same : list_all (cond_fits (lookup_of hs)) y.parts.conds.items ≡ list_all (cond_fits (lookup_of bs)) y.parts.conds.items
    conds-same = all-alike (cond_fits (lookup_of hs)) (cond_fits (lookup_of bs)) y.parts.conds.items (λ x i. cond-local (lookup_of hs) (lookup_of bs) (λ m. holds m (named_by y)) looks x (all-from (λ m. holds m (named_by y)) (names_in_cond x) (λ m j.
        in-holds m (named_by y) (in-right m (flat_map names_in y.parts.head) (flat_map names_in_cond y.parts.conds.items) (in-flat names_in_cond x y.parts.conds.items m i j)))))

    arms-each : (types : List SqlType) (rs : List OwnedQuant) → ((r : OwnedQuant) → In r rs → In r y.quants) → list_all (arm_agrees (types_of hs) types) (map g rs) ≡ list_all (arm_agrees (types_of bs) types) rs
    arms-each types [] sub = refl
    arms-each types (r ∷ rs) sub =
        let a = over r (sub r (inl refl)) in
        let e : types_at hs (g r).over ≡ types_at bs r.over = sym (ap (types_at hs) a.1.1.1.0) ∙ types-follow a.0 a.1.0 a.1.1.1.1 ∙ ap (types_at bs) a.1.1.0 in
        ap₂ (λ x b. all_agree x (known types) && b) e (arms-each types rs (λ x j. sub x (inr j)))

    arms-same : (k : BoxKind) → arms_agree (types_of hs) k (map g y.quants) ≡ arms_agree (types_of bs) k y.quants
    arms-same (Base t) = refl
    arms-same Select = refl
    arms-same (Group k) = refl
    arms-same (SetOp form types) = arms-each types y.quants (λ r j. j)
    arms-same OuterJoin = refl

    pub agree-follow : types_agree bs y ≡ true → types_agree hs z ≡ true
    agree-follow h =
        ap₂ (λ (p : BoxParts) (rs : List OwnedQuant). list_all (λ x. is_known (term_type (lookup_of hs) x)) p.head && (list_all (cond_fits (lookup_of hs)) p.conds.items && arms_agree (types_of hs) p.kind rs)) parts quants
        ∙ ap₂ (λ a b. a && b) heads-same (ap₂ (λ a b. a && b) conds-same (arms-same y.parts.kind)) ∙ h
