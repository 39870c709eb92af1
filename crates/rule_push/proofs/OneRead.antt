-- A conjunct may leave exactly where it may go through the one quantifier that it reads.
use Rattle.std.proofs.Common.{ℕ, ◌==◌, ◌≡◌, ◌&&◌, not, cond, Bool, true, false, List, [], ◌∷◌, Option, Some, None, refl, sym, ap, ap₂, subst, ◌∙◌, eqb-true, inl, inr}
use Rattle.std.proofs.lemmas.Bool.{and_from, and_parts, cases_Bool, eq-eqb}
use Rattle.list_laws.specs.Lists.{In, first, times}
use Rattle.list_laws.proofs.Booleans.{clash}
use Rattle.list_laws.proofs.Membership.{any-from, any-none}
use Rattle.qgm_core.specs.Boxes.{QueryGraph, box_of, is_quant, overs_in}
use Rattle.qgm_core.specs.Kinds.{is_F, is_plain, is_select}
use Rattle.qgm_core.specs.declared.node.Node.{Node}
use Rattle.qgm_core.specs.declared.owned.OwnedQuant.{OwnedQuant}
use Rattle.qgm_edit_laws.proofs.Levels.{first-passes, some-in}
use Rattle.qgm_terms.specs.Named.{names_in_cond}
use Rattle.qgm_terms.specs.Terms.{Cond}
use Rattle.qgm_terms.specs.Wanted.{any_in_cond, reads_cond, wanted}
use Rattle.qgm_terms.specs.declared.sought.Sought.TheVariants as sought
use Rattle.rule_push.specs.OneRead.{alone_among, goes_alone, one_of, one_read, row_found, row_quant}
use Rattle.rule_push.specs.PushExact.{read-named}
use Rattle.rule_push.specs.PushPlaces.{alone_of, goes, into_box, is_read, may_leave, reads_other}

and-true : (x : Bool) → x && true ≡ x
and-true true = refl
and-true false = refl

and-false : (x : Bool) → x && false ≡ false
and-false true = refl
and-false false = refl

none-first : {X : Type 0} (p : X → Bool) (xs : List X) → ((x : X) → p x ≡ true → ⊥) → first p xs ≡ None
none-first p [] h = refl
none-first p (x ∷ xs) h = elim (cases_Bool (p x)) [ inl t ↦ absurd (h x t) | inr f ↦ ap (λ (b : Bool). cond b (Some x) (first p xs)) f ∙ none-first p xs h ]

same-first : {X : Type 0} (p q : X → Bool) → ((x : X) → p x ≡ q x) → (xs : List X) → first p xs ≡ first q xs
same-first p q e [] = refl
same-first p q e (x ∷ xs) = ap₂ (λ (b : Bool) (o : Option _). cond b (Some x) o) (e x) (same-first p q e xs)

module _ (passes : Cond → OwnedQuant → Node → Bool) (g : QueryGraph) (p : Cond) where
  abbrev node : Bool
  node = any_in_cond (wanted sought.Node) p

  -- a quantifier that reads alone, and the other tests
  through : (r : OwnedQuant) (n o u : Bool) → o ≡ false → (times r.over (overs_in g.boxes) == 1) ≡ u → goes passes g p (cond ((not n && not o) && u) (Some r) None) ≡ goes_alone passes g p (cond n None (Some r))
  through r true o u e f = refl
  through r false true u e f = absurd (let z : ⊥ = cc in z)
  through r false false true e f = sym (ap (λ (t : Bool). into_box passes p r (box_of r.over g) && t) f ∙ and-true (into_box passes p r (box_of r.over g)))
  through r false false false e f = sym (ap (λ (t : Bool). into_box passes p r (box_of r.over g) && t) f ∙ and-false (into_box passes p r (box_of r.over g)))

  shut : (r : OwnedQuant) (n o u : Bool) → o ≡ true → goes passes g p (cond ((not n && not o) && u) (Some r) None) ≡ false
  shut r true o u e = refl
  shut r false true u e = refl
  shut r false false u e = absurd (let z : ⊥ = cc in z)

  no-way : (n : Bool) → goes_alone passes g p (cond n None None) ≡ false
  no-way true = refl
  no-way false = refl

  -- a quantifier that p reads is q, where p reads no other
  only : (q : ℕ) → reads_other q p (names_in_cond p) ≡ false → (x : ℕ) → reads_cond x p ≡ true → x ≡ q
  only q h x t = elim (cases_Bool (x == q)) [
    | inl e ↦ eqb-true x q e
    | inr n ↦ absurd (clash (not (x == q) && reads_cond x p) (and_from (not (x == q)) (reads_cond x p) (ap not n) t) (any-none (λ x. not (x == q) && reads_cond x p) x (names_in_cond p) h (read-named x p t)))
  ]

  -- p reads a column of none
  none : (rs : List OwnedQuant) → first (λ q. reads_cond q p) (names_in_cond p) ≡ None → first (is_read p) rs ≡ None
  none rs h = none-first (is_read p) rs (λ r t. (
      let m = and_parts (is_F r.kind) (reads_cond r.id p) t in
      let f = first-passes (λ q. reads_cond q p) (names_in_cond p) r.id (read-named r.id p m.1) m.1 in
      let e : None ≡ Some f.0 = sym h ∙ f.1.0 in let z : ⊥ = cc in z))

  -- p reads q and another
  more : (q : ℕ) → In q (names_in_cond p) → reads_cond q p ≡ true → reads_other q p (names_in_cond p) ≡ true → (o : Option OwnedQuant) → goes passes g p (alone_of g p o) ≡ false
  more q i t h None = refl
  more q i t h (Some r) = shut r node (reads_other r.id p (names_in_cond p)) (times r.over (overs_in g.boxes) == 1) (elim (cases_Bool (q == r.id)) [
    | inl e ↦ subst (λ (x : ℕ). reads_other x p (names_in_cond p) ≡ true) (eqb-true q r.id e) h
    | inr n ↦ any-from (λ x. not (x == r.id) && reads_cond x p) q (names_in_cond p) i (and_from (not (q == r.id)) (reads_cond q p) (ap not n) t)
  ])

  -- p reads q alone
  read-is : (q : ℕ) → reads_cond q p ≡ true → reads_other q p (names_in_cond p) ≡ false → (r : OwnedQuant) → is_read p r ≡ (is_F r.kind && is_quant q r)
  read-is q t h r = ap (λ (z : Bool). is_F r.kind && z) (elim (cases_Bool (r.id == q)) [
    | inl e ↦ ap (λ (x : ℕ). reads_cond x p) (eqb-true r.id q e) ∙ t ∙ sym e
    | inr n ↦ elim (cases_Bool (reads_cond r.id p)) [ inr f ↦ f ∙ sym n | inl y ↦ absurd (clash (r.id == q) (eq-eqb r.id q (only q h r.id y)) n) ]
  ])

  one-at : (q : ℕ) → reads_other q p (names_in_cond p) ≡ false → (rs : List OwnedQuant) (o : Option OwnedQuant) → row_quant q rs ≡ o → goes passes g p (alone_of g p o) ≡ goes_alone passes g p (cond node None o)
  one-at q h rs None e = sym (no-way node)
  one-at q h rs (Some r) e =
      let own : r.id ≡ q = eqb-true r.id q (and_parts (is_F r.kind) (is_quant q r) (some-in (λ x. is_F x.kind && is_quant q x) rs r e).1).1 in
      through r node (reads_other r.id p (names_in_cond p)) (times r.over (overs_in g.boxes) == 1) (subst (λ (x : ℕ). reads_other x p (names_in_cond p) ≡ false) (sym own) h) refl

  by-read : (rs : List OwnedQuant) (o : Option ℕ) → first (λ q. reads_cond q p) (names_in_cond p) ≡ o
      → goes passes g p (alone_of g p (first (is_read p) rs)) ≡ goes_alone passes g p (cond node None (row_found (alone_among p (names_in_cond p) o) rs))
  by-read rs None e = ap (λ (o : Option OwnedQuant). goes passes g p (alone_of g p o)) (none rs e) ∙ sym (no-way node)
  by-read rs (Some q) e =
      let f = some-in (λ q. reads_cond q p) (names_in_cond p) q e in
      elim (cases_Bool (reads_other q p (names_in_cond p))) [
        | inl t ↦ more q f.0 f.1 t (first (is_read p) rs) ∙ sym (ap (λ (b : Bool). goes_alone passes g p (cond node None (row_found (cond b None (Some q)) rs))) t ∙ no-way node)
        | inr n ↦ ap (λ (o : Option OwnedQuant). goes passes g p (alone_of g p o)) (same-first (is_read p) (λ r. is_F r.kind && is_quant q r) (read-is q f.1 n) rs)
            ∙ one-at q n rs (row_quant q rs) refl
            ∙ sym (ap (λ (b : Bool). goes_alone passes g p (cond node None (row_found (cond b None (Some q)) rs))) n)
      ]

  pub leaves_by_one : (b : Node) → may_leave passes g b p ≡ goes_alone passes g p (one_read b p)
  leaves_by_one b = elim (is_select b.parts.kind && is_plain b.parts.role) as (λ t. goes passes g p (cond t (alone_of g p (first (is_read p) b.quants)) None) ≡ goes_alone passes g p (cond t (one_of p b.quants) None)) [
    | true ↦ by-read b.quants (first (λ q. reads_cond q p) (names_in_cond p)) refl
    | false ↦ refl
  ]
