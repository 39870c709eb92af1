-- What the test of a fed box says is what G2 to G5 ask of it.
use Rattle.std.proofs.Common.{ℕ, ◌==◌, ◌≡◌, ◌&&◌, not, Bool, true, false, List, [], ◌∷◌, Option, Some, None, cond, refl, sym, ap, subst, ◌∙◌, eqb-true, inl, inr}
use Rattle.std.proofs.lemmas.Bool.{and_from, and_parts, cases_Bool, not-true, or_left}
use Rattle.qgm_core.specs.Boxes.{Ordered, QueryGraph, box_of, is_box, width}
use Rattle.qgm_core.specs.Free.{IsFree, free_in}
use Rattle.qgm_core.specs.Kinds.{is_fed}
use Rattle.list_laws.specs.Lists.{In, first, holds}
use Rattle.qgm_core.specs.declared.kinds.Role.TheVariants.{Fed}
use Rattle.qgm_core.specs.declared.node.Node.{Node}
use Rattle.qgm_core.specs.declared.owned.OwnedQuant.{OwnedQuant}
use Rattle.qgm_wellformed.specs.WellFormed.{is_empty}
use Rattle.qgm_props.specs.Calm.{is_closed}
use Rattle.qgm_props.specs.Inferred.{all_places, at_most_one, clean, error_free, exactly_one, not_null}
use Rattle.qgm_props.specs.Laws.{Tells}
use Rattle.rule_facts.specs.Told.{infers, told}
use Rattle.rule_magic.specs.Feeding.{Feeding, both_found, feeding, feeding_found, inferred_facts, is_faultless, is_ready, of_feeding, under_two}
use Rattle.rule_magic.specs.Places.{AbsorbsBy, IsOpen, MayAbsorb}
use Rattle.qgm_core.proofs.KindTests.{fed-is}
use Rattle.qgm_wellformed.proofs.Below.{free-free}
use Rattle.qgm_edit_laws.proofs.Levels.{some-in}
use Rattle.qgm_edit_laws.proofs.Scope.{in-first}
use Rattle.list_laws.proofs.Membership.{eq-itself}

-- ---- facts

pub inferred-told : (bs : List Node) → Tells (inferred_facts bs) bs
inferred-told bs (clean b) = told bs (clean b)
inferred-told bs (error_free b k) = told bs (error_free b k)
inferred-told bs (not_null b k) = told bs (not_null b k)
inferred-told bs (at_most_one b) = told bs (at_most_one b)
inferred-told bs (exactly_one b) = told bs (exactly_one b)

-- ---- open and closed boxes

none-held : (xs : List ℕ) (q : ℕ) → is_empty xs ≡ true → holds q xs ≡ true → ⊥
none-held [] q e h = let z : ⊥ = cc in z
none-held (x ∷ xs) q e h = let z : ⊥ = cc in z

some-held : (xs : List ℕ) → is_empty xs ≡ false → (q : ℕ) × (holds q xs ≡ true)
some-held [] e = absurd (let z : ⊥ = cc in z)
some-held (x ∷ xs) e = (x, or_left (x == x) (holds x xs) (eq-itself x))

module _ (bs : List Node) (o : Ordered bs) (b : ℕ) where
  closed-from : is_closed bs b ≡ true → (q : ℕ) → IsFree bs b q → ⊥
  closed-from h q f = none-held (free_in bs b) q h ((free-free bs o b q).1 f)

  open-from : not (is_closed bs b) ≡ true → IsOpen bs b
  open-from h = let x = some-held (free_in bs b) (not-true (is_closed bs b) h) in (x.0, (free-free bs o b x.0).0 x.1)

  closed-to : ((q : ℕ) → IsFree bs b q → ⊥) → is_closed bs b ≡ true
  closed-to h = elim (cases_Bool (is_closed bs b)) [ inl t ↦ t | inr f ↦ absurd (let x = open-from (ap not f) in h x.0 x.1) ]

  open-to : IsOpen bs b → not (is_closed bs b) ≡ true
  open-to h = elim (cases_Bool (is_closed bs b)) [ inl t ↦ absurd (closed-from t h.0 h.1) | inr f ↦ ap not f ]

-- ---- what is found

-- box b is fed, and these are its parts
pub record IsFeeding (g : QueryGraph) (b : ℕ) (f : Feeding) : Type 0 where
  pub at : box_of b g ≡ Some f.d
  pub fed : f.d.parts.role ≡ Fed
  pub quants : f.d.quants ≡ f.a ∷ (f.r ∷ [])
  pub under_a : first (is_box f.a.over) g.boxes ≡ Some f.m
  pub under_r : first (is_box f.r.over) g.boxes ≡ Some f.c

pub record AreBoth (d : Node) (a r : OwnedQuant) (m c : Option Node) (f : Feeding) : Type 0 where
  pub d_is : d ≡ f.d
  pub a_is : a ≡ f.a
  pub r_is : r ≡ f.r
  pub m_is : m ≡ Some f.m
  pub c_is : c ≡ Some f.c

both-are : (d : Node) (a r : OwnedQuant) (m c : Option Node) (f : Feeding) → both_found d a r m c ≡ Some f → AreBoth d a r m c f
both-are d a r None c f h = absurd (let z : ⊥ = cc in z)
both-are d a r (Some m) None f h = absurd (let z : ⊥ = cc in z)
both-are d a r (Some m) (Some c) f h =
    let e : record { d = d; a = a; m = m; r = r; c = c } ≡ f = cc in
    subst (λ (z : Feeding). AreBoth d a r (Some m) (Some c) z) e (record { d_is = refl; a_is = refl; r_is = refl; m_is = refl; c_is = refl })

-- of the quantifiers of a fed box
pub record AreUnder (bs : List Node) (d : Node) (rs : List OwnedQuant) (f : Feeding) : Type 0 where
  pub d_is : d ≡ f.d
  pub quants : rs ≡ f.a ∷ (f.r ∷ [])
  pub under_a : first (is_box f.a.over) bs ≡ Some f.m
  pub under_r : first (is_box f.r.over) bs ≡ Some f.c

under-are : (bs : List Node) (d : Node) (rs : List OwnedQuant) (f : Feeding) → under_two bs d rs ≡ Some f → AreUnder bs d rs f
under-are bs d [] f h = absurd (let z : ⊥ = cc in z)
under-are bs d (a ∷ []) f h = absurd (let z : ⊥ = cc in z)
under-are bs d (a ∷ (r ∷ [])) f h =
    let x = both-are d a r (first (is_box a.over) bs) (first (is_box r.over) bs) f h in
    record {
      d_is = x.d_is;
      quants = ap (λ (z : OwnedQuant). z ∷ (r ∷ [])) x.a_is ∙ ap (λ (z : OwnedQuant). f.a ∷ (z ∷ [])) x.r_is;
      under_a = ap (λ (z : OwnedQuant). first (is_box z.over) bs) (sym x.a_is) ∙ x.m_is;
      under_r = ap (λ (z : OwnedQuant). first (is_box z.over) bs) (sym x.r_is) ∙ x.c_is;
    }
under-are bs d (a ∷ (r ∷ (s ∷ rs))) f h = absurd (let z : ⊥ = cc in z)

found-is : (bs : List Node) (found : Option Node) (f : Feeding) → feeding_found bs found ≡ Some f → (found ≡ Some f.d) × ((f.d.parts.role ≡ Fed) × AreUnder bs f.d f.d.quants f)
found-is bs None f h = absurd (let z : ⊥ = cc in z)
found-is bs (Some d) f h = elim (cases_Bool (is_fed d.parts.role)) [
  | inl t ↦ (
      let x = under-are bs d d.quants f (sym (ap (λ b. cond b (under_two bs d d.quants) None) t) ∙ h) in
      subst (λ (z : Node). (Some d ≡ Some z) × ((z.parts.role ≡ Fed) × AreUnder bs z z.quants f)) x.d_is (refl, (fed-is d.parts.role t, x)))
  | inr n ↦ absurd (let e : None ≡ Some f = sym (ap (λ b. cond b (under_two bs d d.quants) None) n) ∙ h in let z : ⊥ = cc in z)
]

pub feeding-is : (g : QueryGraph) (b : ℕ) (f : Feeding) → feeding g b ≡ Some f → IsFeeding g b f
feeding-is g b f h = let x = found-is g.boxes (box_of b g) f h in record { at = x.0; fed = x.1.0; quants = x.1.1.quants; under_a = x.1.1.under_a; under_r = x.1.1.under_r }

pub is-feeding : (g : QueryGraph) (b : ℕ) (f : Feeding) → IsFeeding g b f → feeding g b ≡ Some f
is-feeding g b f m =
    ap (feeding_found g.boxes) m.at
    ∙ ap (λ k. cond k (under_two g.boxes f.d f.d.quants) None) (ap is_fed m.fed)
    ∙ ap (under_two g.boxes f.d) m.quants
    ∙ ap (λ (z : Option Node). both_found f.d f.a f.r z (first (is_box f.r.over) g.boxes)) m.under_a
    ∙ ap (both_found f.d f.a f.r (Some f.m)) m.under_r

-- a test of a fed box that is found passes
pub passes-is : (t : Feeding → Bool) (o : Option Feeding) → of_feeding t o ≡ true → (f : Feeding) × ((o ≡ Some f) × (t f ≡ true))
passes-is t None h = absurd (let z : ⊥ = cc in z)
passes-is t (Some f) h = (f, (refl, h))

-- ---- what is asked

module _ (g : QueryGraph) (o : Ordered g.boxes) (b : ℕ) (f : Feeding) (m : IsFeeding g b f) where
  in-there : (q : ℕ) (n : Node) → first (is_box q) g.boxes ≡ Some n → In n g.boxes × (n.id ≡ q)
  in-there q n e = let x = some-in (is_box q) g.boxes n e in (x.0, eqb-true n.id q x.1)

  pub may-from : is_ready g.boxes f ≡ true → AbsorbsBy g.boxes (inferred_facts g.boxes) f.c.parts.kind f.c → (may : MayAbsorb g.boxes (inferred_facts g.boxes) f.d) × (may.c ≡ f.c)
  may-from h k =
      let x = and_parts (is_faultless g.boxes f.m) (is_closed g.boxes f.m.id && not (is_closed g.boxes f.c.id)) h in
      let y = and_parts (infers g.boxes (clean f.m.id)) (all_places (width f.m) (λ i. infers g.boxes (error_free f.m.id i))) x.0 in
      let z = and_parts (is_closed g.boxes f.m.id) (not (is_closed g.boxes f.c.id)) x.1 in
      let im = in-there f.a.over f.m m.under_a in
      let ic = in-there f.r.over f.c m.under_r in (
        record {
          in_d = (in-there b f.d m.at).0;
          is_fed = m.fed;
          a = f.a;
          r = f.r;
          quants = m.quants;
          m = f.m;
          in_m = im.0;
          over_m = im.1;
          closed = closed-from g.boxes o f.m.id z.0;
          clean = y.0;
          columns = y.1;
          c = f.c;
          in_c = ic.0;
          over_c = ic.1;
          opened = open-from g.boxes o f.c.id z.1;
          absorbs = k;
        },
        refl,
      )

-- its parts
abbrev pub feeding_by : (g : QueryGraph) (d : Node) → MayAbsorb g.boxes (inferred_facts g.boxes) d → Feeding
feeding_by g d may = record { d = d; a = may.a; m = may.m; r = may.r; c = may.c }

module _ (g : QueryGraph) (o : Ordered g.boxes) (b : ℕ) (d : Node) (at : box_of b g ≡ Some d) (may : MayAbsorb g.boxes (inferred_facts g.boxes) d) where
  found-at : (q : ℕ) (n : Node) → In n g.boxes → n.id ≡ q → first (is_box q) g.boxes ≡ Some n
  found-at q n i e = subst (λ z. first (is_box z) g.boxes ≡ Some n) e (in-first n g.boxes o i)

  pub may-found : IsFeeding g b (feeding_by g d may)
  may-found = record { at = at; fed = may.is_fed; quants = may.quants; under_a = found-at may.a.over may.m may.in_m may.over_m; under_r = found-at may.r.over may.c may.in_c may.over_c }

  pub may-ready : is_ready g.boxes (feeding_by g d may) ≡ true
  may-ready =
      and_from (is_faultless g.boxes may.m) (is_closed g.boxes may.m.id && not (is_closed g.boxes may.c.id))
      (and_from (infers g.boxes (clean may.m.id)) (all_places (width may.m) (λ i. infers g.boxes (error_free may.m.id i))) may.clean may.columns)
      (and_from (is_closed g.boxes may.m.id) (not (is_closed g.boxes may.c.id)) (closed-to g.boxes o may.m.id may.closed) (open-to g.boxes o may.c.id may.opened))
