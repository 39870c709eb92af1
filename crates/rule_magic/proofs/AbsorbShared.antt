-- What all absorbing rules keep: tables that satisfy the bases, closed boxes, and scalar quantifiers.
use Rattle.std.proofs.Common.{ℕ, zero, suc, ◌+◌, ◌==◌, ◌≡◌, ◌≤◌, ◌&&◌, ◌⊎◌, cond, map, not, true, false, List, [], ◌∷◌, ◌++◌, None, refl, subst, sym, ap, ◌∙◌, eqb-true, inl, inr, arith}
use Rattle.std.proofs.lemmas.Bool.{cases_Bool}
use Rattle.row_bag.specs.Bags.{Agree}
use Rattle.row_bag.specs.Sets.{same_cells}
use Rattle.row_bag.specs.declared.tables.Table.{Table}
use Rattle.qgm_core.specs.Boxes.{HasBox, HasQuant, QueryGraph, has_box, ids_in, ids_of, is_box, is_quant, numbers, owns}
use Rattle.qgm_core.specs.Edits.{compact}
use Rattle.qgm_core.specs.Kinds.{is_S, is_magic, is_plain}
use Rattle.list_laws.specs.Lists.{EachOnce, In, first, times}
use Rattle.qgm_core.specs.declared.kinds.Role.{Role}
use Rattle.qgm_core.specs.declared.kinds.Role.TheVariants.{Fed, Plain}
use Rattle.qgm_core.specs.declared.node.Node.{Node}
use Rattle.qgm_core.specs.declared.owned.OwnedQuant.{OwnedQuant}
use Rattle.qgm_wellformed.specs.WellFormed.{fault}
use Rattle.qgm_edit_laws.specs.Graph.{Sound}
use Rattle.qgm_edit_laws.proofs.Formed.{sound-checked}
use Rattle.qgm_edit_laws.proofs.FreeLoose.{looks-free, open-looks}
use Rattle.qgm_edit_laws.proofs.Scoped.{few-ids}
use Rattle.qgm_meaning.specs.Meaning.{root_bag}
use Rattle.qgm_meaning.specs.Satisfies.{Satisfies}
use Rattle.qgm_meaning.specs.Scope.{loose}
use Rattle.qgm_props.specs.Calm.{is_closed}
use Rattle.rule_api.specs.Rules.{Preserves}
use Rattle.qgm_props.specs.Measure.{is_loose_scalar, keyless_found}
use Rattle.rule_facts.proofs.Compacted.{compact-preserves}
use Rattle.rule_magic.specs.AbsorbArms.{role_over}
use Rattle.rule_magic.proofs.CalmFires.{closed-is}
use Rattle.qgm_core.proofs.KindTests.{plain-is}
use Rattle.qgm_core.proofs.Reaching.{in-has}
use Rattle.list_laws.proofs.Booleans.{clash}
use Rattle.list_laws.proofs.Counting.{in-times, times-in, times-map, times-some}
use Rattle.list_laws.proofs.Membership.{any-from, eq-itself}

-- ---- tables

pub satisfies-left : (tables : List Table) (xs ys : List Node) → Satisfies tables (xs ++ ys) → Satisfies tables xs
satisfies-left tables [] ys h = tt
satisfies-left tables (x ∷ xs) ys h = (h.0, satisfies-left tables xs ys h.1)

pub satisfies-right : (tables : List Table) (xs ys : List Node) → Satisfies tables (xs ++ ys) → Satisfies tables ys
satisfies-right tables [] ys h = h
satisfies-right tables (x ∷ xs) ys h = satisfies-right tables xs ys h.1

pub satisfies-both : (tables : List Table) (xs ys : List Node) → Satisfies tables xs → Satisfies tables ys → Satisfies tables (xs ++ ys)
satisfies-both tables [] ys h k = k
satisfies-both tables (x ∷ xs) ys h k = (h.0, satisfies-both tables xs ys h.1 k)

-- a graph in which the check finds nothing, of which the root has the bags, preserves without what the root doesn't reach
pub then-compact : (g h : QueryGraph) → fault h ≡ None → EachOnce (numbers h.boxes) → ((tables : List Table) → Satisfies tables g.boxes → Agree same_cells (root_bag tables h) (root_bag tables g))
    → ((tables : List Table) → Satisfies tables g.boxes → Satisfies tables h.boxes) → h.names ≡ g.names → h.order ≡ g.order → Preserves g (compact h)
then-compact g h f u bags bases names order = compact-preserves g h ((sound-checked h u).0 f).0 u f names order bags bases

-- ---- boxes

-- closed boxes look nothing up
module _ (bs : List Node) (root : ℕ) (w : Sound bs root) where
  pub closed-looks : (b : ℕ) → is_closed bs b ≡ true → (q : ℕ) → loose bs b q ≡ false
  closed-looks b h q = elim (cases_Bool (loose bs b q)) [ inr f ↦ f | inl t ↦ absurd (closed-is bs w.ordered b h q (looks-free bs root w b q t)) ]

  pub looks-closed : (b : ℕ) → ((q : ℕ) → loose bs b q ≡ false) → is_closed bs b ≡ true
  looks-closed b h = elim (cases_Bool (is_closed bs b)) [ inl t ↦ t | inr f ↦ absurd (let x = open-looks bs root w b f in clash (loose bs b x.0) x.1 (h x.0)) ]

-- a select over box b is plain, or fed where b is open
abbrev pub IsRoleOver : List Node → ℕ → Role → Type 0
IsRoleOver bs b role = (role ≡ Plain) ⊎ ((role ≡ Fed) × ((q : ℕ) × (loose bs b q ≡ true)))

pub role-over-is : (bs : List Node) (root : ℕ) → Sound bs root → (b : ℕ) → IsRoleOver bs b (role_over bs b)
role-over-is bs root w b = elim (cases_Bool (is_closed bs b)) [ inl t ↦ inl (ap (λ c. cond c Plain Fed) t) | inr f ↦ inr (ap (λ c. cond c Plain Fed) f, open-looks bs root w b f) ]

-- a plain box isn't magic
pub plain-not-magic : (k : Role) → is_plain k ≡ true → is_magic k ≡ false
plain-not-magic k h = ap is_magic (plain-is k h)

-- under a quantifier whose box is as it was, a group without keys is found as before
pub loose-scalar : (bs hs : List Node) (r : OwnedQuant) → keyless_found (first (is_box r.over) hs) ≡ keyless_found (first (is_box r.over) bs) → is_loose_scalar hs r ≡ true → is_loose_scalar bs r ≡ true
loose-scalar bs hs r e h = sym (ap (λ b. is_S r.kind && not b) e) ∙ h

-- two quantifiers of a box have two numbers
pub apart-two : (bs : List Node) (n : Node) (l r : OwnedQuant) → times r.id (ids_in bs) ≤ 1 → In n bs → n.quants ≡ l ∷ (r ∷ []) → (l.id == r.id) ≡ false
apart-two bs n l r once i two = elim (cases_Bool (l.id == r.id)) [
  | inr f ↦ f
  | inl e ↦ absurd (
      let few = few-ids bs n r.id once i in
      let z : times r.id (l.id ∷ (r.id ∷ [])) ≤ 1 = subst (λ (k : List OwnedQuant). times r.id (map (λ (q : OwnedQuant). q.id) k) ≤ 1) two few in
      let n : 1 + (1 + 0) ≤ 1 = subst (λ b. cond b 1 0 + (1 + 0) ≤ 1) e (subst (λ b. cond (l.id == r.id) 1 0 + (cond b 1 0 + 0) ≤ 1) (eq-itself r.id) z) in
      omega (arith, n))
]

-- ---- numbers that a graph doesn't have

pub no-box : (g : QueryGraph) (b : ℕ) → (HasBox b g → ⊥) → has_box g.boxes b ≡ false
no-box g b n = elim (cases_Bool (has_box g.boxes b)) [ inr e ↦ e | inl t ↦ absurd (n t) ]

pub no-quant : (g : QueryGraph) (i : ℕ) → (HasQuant i g → ⊥) → times i (ids_in g.boxes) ≡ 0
no-quant g i n = none (times i (ids_in g.boxes)) (λ h. (
    let y = times-some ids_of i g.boxes h in
    let s = times-map (λ (z : OwnedQuant). z.id) i y.0.quants y.1.1 in
    n (any-from (owns i) y.0 g.boxes y.1.0 (any-from (is_quant i) s.0 y.0.quants s.1.0 (subst (λ z. (s.0.id == z) ≡ true) s.1.1 (eq-itself s.0.id))))))
  where
    none : (t : ℕ) → (1 ≤ t → ⊥) → t ≡ 0
    none zero h = refl
    none (suc t) h = absurd (h (omega arith))

pub apart-box : (bs : List Node) (s : ℕ) → has_box bs s ≡ false → (n : Node) → In n bs → (s == n.id) ≡ false
apart-box bs s e n i = elim (cases_Bool (s == n.id)) [ inr z ↦ z | inl t ↦ absurd (clash (has_box bs s) (subst (λ z. has_box bs z ≡ true) (sym (eqb-true s n.id t)) (in-has n bs i)) e) ]

pub apart-quant : (bs : List Node) (i : ℕ) → times i (ids_in bs) ≡ 0 → (z : OwnedQuant) (n : Node) → In n bs → In z n.quants → (z.id == i) ≡ false
apart-quant bs i e z n j k = elim (cases_Bool (z.id == i)) [
  | inr f ↦ f
  | inl t ↦ absurd (
      let b = times-in (λ (n : Node). map (λ (q : OwnedQuant). q.id) n.quants) i n bs j in
      let f : 1 ≤ times i (map (λ (q : OwnedQuant). q.id) n.quants) = subst (λ q. 1 ≤ times q (map (λ (q : OwnedQuant). q.id) n.quants)) (eqb-true z.id i t) (in-times (λ (q : OwnedQuant). q.id) z n.quants k) in
      omega (arith, b, f, e))
]
