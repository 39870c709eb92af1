-- The places of U1 are exactly those where it may fire.
use Rattle.std.proofs.Common.{ℕ, ◌==◌, ◌≡◌, ◌&&◌, ◌||◌, ◌++◌, not, Bool, true, false, List, [], ◌∷◌, refl, sym, ap, ap₂, ◌∙◌, eqb-true, inl, inr}
use Rattle.std.specs.Prelude.{◌↔◌, if◌then◌else◌}
use Rattle.std.specs.List.{list_any}
use Rattle.std.proofs.lemmas.Bool.{and_from, and_parts, cases_Bool, not-true, or_cases, or_left, or_parts, or_right}
use Rattle.qgm_terms.specs.Terms.{Cond, some}
use Rattle.qgm_terms.specs.Terms as terms
use Rattle.qgm_core.specs.Boxes.{Ordered, QueryGraph, numbers, width}
use Rattle.qgm_core.specs.Kinds.{is_E, is_enforce, is_permit}
use Rattle.list_laws.specs.Lists.{EachOnce, In}
use Rattle.qgm_core.specs.declared.kinds.Distinct.{Distinct}
use Rattle.qgm_core.specs.declared.kinds.Distinct.TheVariants.{Enforce, Permit}
use Rattle.qgm_core.specs.declared.node.Node.{Node}
use Rattle.qgm_core.specs.declared.owned.OwnedQuant.{OwnedQuant}
use Rattle.qgm_wellformed.specs.Sentences.{WellFormed}
use Rattle.qgm_wellformed.proofs.Faults.{finds-none}
use Rattle.qgm_meaning.specs.Searches.{names, names_cond}
use Rattle.qgm_props.specs.Inferred.{Inferred, at_most_one, clean}
use Rattle.qgm_props.specs.InferredKeys.{places_to}
use Rattle.qgm_edit_laws.proofs.CheckedParts.{sound}
use Rattle.rule_api.specs.Rules.{Ascending}
use Rattle.rule_api.specs.declared.place.Place.{Place}
use Rattle.rule_facts.specs.Told.{infers, infers_key, told, told-key, untold}
use Rattle.rule_facts.specs.Places.{is_plain_select, plain-from, plain-to, quant-from, quant-to, ArePlaces, quants-ascend}
use Rattle.rule_subquery.specs.ExistsToJoin.{ExistsFits, enforced, permitted, of_one, keyed, MayExistsToJoin, may_exists_to_join, exists_to_join_pairs, exists_fits, is_joinable, one_whole, is_whole, distinct_after}
use Rattle.list_laws.proofs.Booleans.{clash}
use Rattle.list_laws.proofs.Membership.{eq-itself}
use Rattle.qgm_core.proofs.KindTests.{e-is, enforce-is, permit-is}

abbrev place : ℕ → ℕ → ℕ → Place
place b i j = record { at = b; i = i; j = j }

-- what a whole conjunct is
record Whole (q : ℕ) (cs : List Cond) : Type 0 where
  pub xs : List Cond
  pub c : Cond
  pub ys : List Cond
  pub split : cs ≡ xs ++ some q c ∷ ys
  pub in_before : list_any (names_cond q) xs ≡ false
  pub in_cond : names_cond q c ≡ false
  pub in_behind : list_any (names_cond q) ys ≡ false

whole-from : (q : ℕ) (x : Cond) → is_whole q x ≡ true → (c : Cond) × ((x ≡ some q c) × (names_cond q c ≡ false))
whole-from q terms.always h = absurd (let z : ⊥ = cc in z)
whole-from q (terms.compare sign x y) h = absurd (let z : ⊥ = cc in z)
whole-from q (terms.is_null x) h = absurd (let z : ⊥ = cc in z)
whole-from q (terms.and c d) h = absurd (let z : ⊥ = cc in z)
whole-from q (terms.or c d) h = absurd (let z : ⊥ = cc in z)
whole-from q (terms.not c) h = absurd (let z : ⊥ = cc in z)
whole-from q (some r c) h = let a = and_parts (r == q) (not (names_cond q c)) h in (c, (ap (λ z. some z c) (eqb-true r q a.0), not-true (names_cond q c) a.1))
whole-from q (terms.every r c) h = absurd (let z : ⊥ = cc in z)

one-from : (q : ℕ) (cs : List Cond) → one_whole q cs ≡ true → Whole q cs
one-from q [] h = absurd (let z : ⊥ = cc in z)
one-from q (x ∷ xs) h = elim (or_cases (is_whole q x && not (list_any (names_cond q) xs)) (not (names_cond q x) && one_whole q xs) h) [
  | inl t ↦ (
      let a = and_parts (is_whole q x) (not (list_any (names_cond q) xs)) t in
      let m = whole-from q x a.0 in
      record { xs = []; c = m.0; ys = xs; split = ap (λ z. z ∷ xs) m.1.0; in_before = refl; in_cond = m.1.1; in_behind = not-true (list_any (names_cond q) xs) a.1 })
  | inr t ↦ (
      let a = and_parts (not (names_cond q x)) (one_whole q xs) t in
      let m = one-from q xs a.1 in
      record { xs = x ∷ m.xs; c = m.c; ys = m.ys; split = ap (λ z. x ∷ z) m.split; in_before = ap₂ (λ a b. a || b) (not-true (names_cond q x) a.0) m.in_before; in_cond = m.in_cond; in_behind = m.in_behind })
]

one-to : (q : ℕ) (xs : List Cond) (c : Cond) (ys : List Cond) → list_any (names_cond q) xs ≡ false → names_cond q c ≡ false → list_any (names_cond q) ys ≡ false → one_whole q (xs ++ some q c ∷ ys) ≡ true
one-to q [] c ys a b d =
    or_left (is_whole q (some q c) && not (list_any (names_cond q) ys)) (not (names_cond q (some q c)) && one_whole q ys)
    (and_from (is_whole q (some q c)) (not (list_any (names_cond q) ys)) (and_from (q == q) (not (names_cond q c)) (eq-itself q) (ap not b)) (ap not d))
one-to q (x ∷ xs) c ys a b d =
    let e = or_parts (names_cond q x) (list_any (names_cond q) xs) a in
    or_right (is_whole q x && not (list_any (names_cond q) (xs ++ some q c ∷ ys))) (not (names_cond q x) && one_whole q (xs ++ some q c ∷ ys))
    (and_from (not (names_cond q x)) (one_whole q (xs ++ some q c ∷ ys)) (ap not e.0) (one-to q xs c ys e.1 b d))

module _ (g : QueryGraph) (o : Ordered g.boxes) (n : Node) (r : OwnedQuant) where
  abbrev bs : List Node
  bs = g.boxes

  abbrev is_free : Bool
  is_free = is_permit n.parts.distinct && infers bs (clean n.id)

  abbrev one : Bool
  one = infers bs (at_most_one r.over)

  abbrev key : Bool
  key = infers_key bs n.id (places_to (width n))

  not-enforce : is_enforce n.parts.distinct ≡ false → n.parts.distinct ≡ Enforce → ⊥
  not-enforce h e = clash (is_enforce n.parts.distinct) (ap is_enforce e) h

  not-free : is_free ≡ false → n.parts.distinct ≡ Permit → Inferred bs (clean n.id) → ⊥
  not-free h e i = clash is_free (and_from (is_permit n.parts.distinct) (infers bs (clean n.id)) (ap is_permit e) ((told bs (clean n.id)).1 i)) h

  -- with the distinctness that it gets
  pub fits-from : exists_fits bs n r ≡ true → ExistsFits g n r (distinct_after bs n r)
  fits-from h = elim (cases_Bool (is_enforce n.parts.distinct)) [
    | inl e ↦ enforced (enforce-is n.parts.distinct e) (stays (or_left (is_enforce n.parts.distinct || is_free) one (or_left (is_enforce n.parts.distinct) is_free e)) ∙ enforce-is n.parts.distinct e)
    | inr e ↦ elim (cases_Bool is_free) [
      | inl p ↦ (
          let a = and_parts (is_permit n.parts.distinct) (infers bs (clean n.id)) p in
          permitted (permit-is n.parts.distinct a.0) ((told bs (clean n.id)).0 a.1) (stays (or_left (is_enforce n.parts.distinct || is_free) one (or_right (is_enforce n.parts.distinct) is_free p)) ∙ permit-is n.parts.distinct a.0))
      | inr p ↦ elim (cases_Bool one) [
        | inl t ↦ of_one ((told bs (at_most_one r.over)).0 t) (stays (or_right (is_enforce n.parts.distinct || is_free) one t))
        | inr t ↦ keyed (not-enforce e) (not-free p) (untold bs (at_most_one r.over) t) ((told-key bs o n.id (places_to (width n))).0 (key-left e p t))
            (ap (λ (b : Bool). if b then n.parts.distinct else Enforce) (ap₂ (λ a b. a || b) (ap₂ (λ a b. a || b) e p) t))
      ]
    ]
  ]
    where
      stays : ((is_enforce n.parts.distinct || is_free) || one) ≡ true → distinct_after bs n r ≡ n.parts.distinct
      stays t = ap (λ (b : Bool). if b then n.parts.distinct else Enforce) t

      key-left : is_enforce n.parts.distinct ≡ false → is_free ≡ false → one ≡ false → key ≡ true
      key-left e p t = sym (ap₂ (λ a b. a || b) (ap₂ (λ a b. a || b) e p) (ap (λ a. a || key) t)) ∙ h

  pub fits-to : (d : Distinct) → ExistsFits g n r d → exists_fits bs n r ≡ true
  fits-to d (enforced e i) = or_left (is_enforce n.parts.distinct || is_free) (one || key) (or_left (is_enforce n.parts.distinct) is_free (ap is_enforce e))
  fits-to d (permitted e c i) = or_left (is_enforce n.parts.distinct || is_free) (one || key) (or_right (is_enforce n.parts.distinct) is_free (and_from (is_permit n.parts.distinct) (infers bs (clean n.id)) (ap is_permit e) ((told bs (clean n.id)).1 c)))
  fits-to d (of_one t i) = or_right (is_enforce n.parts.distinct || is_free) (one || key) (or_left one key ((told bs (at_most_one r.over)).1 t))
  fits-to d (keyed a c t k i) = or_right (is_enforce n.parts.distinct || is_free) (one || key) (or_right one key ((told-key bs o n.id (places_to (width n))).1 k))

pub exists-to-join-exact : (g : QueryGraph) → EachOnce (numbers g.boxes) → WellFormed g → (b i j : ℕ) → In (i, j) (exists_to_join_pairs g b) ↔ MayExistsToJoin (place b i j) g
unfolding exists_to_join_pairs MayExistsToJoin
exists-to-join-exact g u w b i j = (
  λ h.
      let x = quant-from (may_exists_to_join g.boxes) g b i j h in
      let n = x.n in
      let q = x.r.id in
      let head : Bool = list_any (names q) n.parts.head in
      let whole : Bool = one_whole q n.parts.conds.items in
      let d = and_parts (is_joinable n x.r) (exists_fits g.boxes n x.r) x.passes in
      let a = and_parts (is_plain_select n) (is_E x.r.kind && (not head && whole)) d.0 in
      let c = and_parts (is_E x.r.kind) (not head && whole) a.1 in
      let e = and_parts (not head) whole c.1 in
      let m = one-from q n.parts.conds.items e.1 in
      let k = fits-from g o n x.r d.1 in (
        n,
        (
          x.us,
          (
            x.r,
            (
              x.vs,
              (
                m.xs,
                (
                  m.c,
                  (
                    m.ys,
                    (
                      distinct_after g.boxes n x.r,
                      record {
                        no_second = x.second;
                        at = x.found;
                        nth = x.nth;
                        existing = record {
                          select = (plain-from n a.0).0;
                          plain = (plain-from n a.0).1;
                          split = x.split;
                          is_e = e-is x.r.kind c.0;
                          conds = m.split;
                          in_head = not-true head e.0;
                          in_before = m.in_before;
                          in_cond = m.in_cond;
                          in_behind = m.in_behind;
                        };
                        fits = k;
                      },
                    ),
                  ),
                ),
              ),
            ),
          ),
        ),
      ),
  λ h.
      let n = h.0 in
      let r = h.1.1.0 in
      let d = h.1.1.1.1.1.1.1.0 in
      let m = h.1.1.1.1.1.1.1.1 in
      let y = m.existing in
      let head : Bool = list_any (names r.id) n.parts.head in
      let whole : Bool = one_whole r.id n.parts.conds.items in
      quant-to (may_exists_to_join g.boxes) g b i j n h.1.0 r h.1.1.1.0 m.no_second m.at y.split m.nth
      (and_from (is_joinable n r) (exists_fits g.boxes n r)
      (and_from (is_plain_select n) (is_E r.kind && (not head && whole)) (plain-to n y.select y.plain)
      (and_from (is_E r.kind) (not head && whole) (ap is_E y.is_e)
      (and_from (not head) whole (ap not y.in_head) (ap (one_whole r.id) y.conds ∙ one-to r.id h.1.1.1.1.0 h.1.1.1.1.1.0 h.1.1.1.1.1.1.0 y.in_before y.in_cond y.in_behind))))
      (fits-to g o n r d m.fits)),
)
  where
    o : Ordered g.boxes
    o = (sound g u ((finds-none g u).1 w)).ordered

pub exists-to-join-ascend : (g : QueryGraph) (b : ℕ) → Ascending (exists_to_join_pairs g b)
unfolding exists_to_join_pairs
exists-to-join-ascend g b = quants-ascend (may_exists_to_join g.boxes) g b

-- in order, exactly the places where it may fire
pub exists-to-join-places : ArePlaces exists_to_join_pairs MayExistsToJoin
exists-to-join-places g u w b = (exists-to-join-ascend g b, λ i j. exists-to-join-exact g u w b i j)

pub exists_to_join_exact : (g : QueryGraph) (b i j : ℕ) → EachOnce (numbers g.boxes) → WellFormed g → In (i, j) (exists_to_join_pairs g b) ↔ MayExistsToJoin (record { at = b; i = i; j = j }) g
exists_to_join_exact g b i j u w = exists-to-join-exact g u w b i j
