-- P3 has exactly the places where it may fire, in order.
use Rattle.std.proofs.Common.{ℕ, zero, suc, ◌==◌, ◌≡◌, ◌≢◌, ◌≤◌, ◌&&◌, ◌||◌, Bool, true, false, List, ◌∷◌, length, Some, refl, sym, ap, ap₂, subst, ◌∙◌, eqb-true, arith, inl, inr, []}
use Rattle.std.specs.Prelude.{◌↔◌}
use Rattle.std.proofs.lemmas.Bool.{and_from, and_parts, cases_Bool, eq-eqb}
use Rattle.sql_value.specs.declared.order_key.SqlType.{SqlType}
use Rattle.qgm_core.specs.Boxes.{QueryGraph, box_of, numbers}
use Rattle.qgm_core.specs.Edits.{conds_in}
use Rattle.list_laws.specs.Lists.{EachOnce, In}
use Rattle.qgm_core.specs.declared.kinds.BoxKind.{BoxKind}
use Rattle.qgm_core.specs.declared.kinds.BoxKind.TheVariants.{SetOp}
use Rattle.qgm_core.specs.declared.kinds.SetOperator.{SetOperator}
use Rattle.qgm_core.specs.declared.kinds.SetOperator.TheVariants.{UnionAll, Union, IntersectAll, Intersect, ExceptAll, Except}
use Rattle.qgm_core.specs.declared.node.Node.{Node}
use Rattle.qgm_core.specs.declared.owned.OwnedQuant.{OwnedQuant}
use Rattle.qgm_props.specs.Inferred.{Facts, all_places, clean, clean_by, cond_free, error_free}
use Rattle.qgm_terms.specs.Terms.{Cond}
use Rattle.qgm_wellformed.specs.Sentences.{WellFormed}
use Rattle.qgm_edit_laws.proofs.Levels.{number-of}
use Rattle.rule_api.specs.PickLaws.{picks_ascending}
use Rattle.rule_api.specs.Rules.{Ascending}
use Rattle.rule_api.specs.declared.place.Place.{Place}
use Rattle.rule_facts.specs.Places.{in_box, of_set, set-from}
use Rattle.rule_push.specs.Decided.{clean-is, decided, facts-are, facts_in, tells-in}
use Rattle.rule_push.specs.PushExact.{push-exact}
use Rattle.rule_push.specs.PushIntoArms.{ArmsDecided, DecidedBy, IsSetOpUnder, MayPushIntoArms, arms_passes, is_union, push_into_arms_pairs, two_inputs}
use Rattle.rule_push.specs.PushPlaces.{MayPush, is_input, leaves}
use Rattle.rule_push.specs.PushTests.{input-from, input-to}
use Rattle.rule_push.specs.Pushable.{Input}
use Rattle.rule_push.specs.Small.{is_small, is_small_into}

-- ---- the places from 1 to w

places-each : (w : ℕ) (t : ℕ → Bool) → all_places w t ≡ true → (j : ℕ) → 1 ≤ j → j ≤ w → t j ≡ true
places-each zero t h j l m = absurd (let z : ⊥ = omega (arith, l, m) in z)
places-each (suc w) t h j l m =
    let a = and_parts (t (suc w)) (all_places w t) h in
    elim (cases_Bool (j == suc w)) [
      | inl e ↦ subst (λ z. t z ≡ true) (sym (eqb-true j (suc w) e)) a.0
      | inr n ↦ places-each w t a.1 j l (below j w m n)
    ]
  where
    other : (i j : ℕ) → (i == j) ≡ false → i ≢ j
    other i j f e = let t = eq-eqb i j e in let z : true ≡ false = sym t ∙ f in cc

    below : (j w : ℕ) → j ≤ suc w → (j == suc w) ≡ false → j ≤ w
    below j w m n = let d = other j (suc w) n in omega (arith, d, m)

each-places : (w : ℕ) (t : ℕ → Bool) → ((j : ℕ) → 1 ≤ j → j ≤ w → t j ≡ true) → all_places w t ≡ true
each-places zero t f = refl
each-places (suc w) t f = and_from (t (suc w)) (all_places w t) (f (suc w) (omega arith) (omega arith)) (each-places w t (λ j l m. f j l (omega (arith, m))))

module _ (g : QueryGraph) (p : Cond) (r : OwnedQuant) (c : Node) (found : box_of r.over g ≡ Some c) where
  abbrev known : Facts
  known = facts_in g.boxes

  found-c : box_of c.id g ≡ Some c
  found-c = subst (λ z. box_of z g ≡ Some c) (sym (number-of g.boxes r.over c found)) found

  -- c is clean, and so is said of a set operation of s and t
  abbrev Said : SetOperator → List SqlType → OwnedQuant → OwnedQuant → Type 0
  Said form types s t = clean_by g.boxes known (SetOp form types) (record c { quants = s ∷ (t ∷ []) }) ≡ true

  said-is : (form : SetOperator) (types : List SqlType) (s t : OwnedQuant) → c.parts.kind ≡ SetOp form types → c.quants ≡ s ∷ (t ∷ []) → (known.clean c.id ≡ true) ↔ Said form types s t
  said-is form types s t kind e =
      let same = ap₂ (λ (x : BoxKind) (y : List OwnedQuant). clean_by g.boxes known x (record c { quants = y })) kind e in
      let k = clean-is g known (tells-in g.boxes) c found-c in (λ h. sym same ∙ k.0 h, λ h. k.1 (same ∙ h))

  module _ (s t : OwnedQuant) (n m : Node) (i : Input g s n) (j : Input g t m) (wide : ℕ) where
    abbrev arms : Bool
    arms = (known.clean s.over && known.clean t.over) && all_places wide (λ k. known.error_free s.over k && known.error_free t.over k)

    over-n : n.id ≡ s.over
    over-n = number-of g.boxes s.over n i.under

    over-m : m.id ≡ t.over
    over-m = number-of g.boxes t.over m j.under

    arms-from : arms ≡ true → cond_free g.boxes known false p ≡ true → ArmsDecided g known p wide n m
    arms-from h f =
        let a = and_parts (known.clean s.over && known.clean t.over) (all_places wide (λ k. known.error_free s.over k && known.error_free t.over k)) h in
        let b = and_parts (known.clean s.over) (known.clean t.over) a.0 in
        let each = places-each wide (λ k. known.error_free s.over k && known.error_free t.over k) a.1 in
        record {
          p_free = f;
          clean_first = (tells-in g.boxes (clean n.id)).0 (subst (λ z. known.clean z ≡ true) (sym over-n) b.0);
          clean_second = (tells-in g.boxes (clean m.id)).0 (subst (λ z. known.clean z ≡ true) (sym over-m) b.1);
          free_first = λ k x y. (tells-in g.boxes (error_free n.id k)).0 (subst (λ z. known.error_free z k ≡ true) (sym over-n) (and_parts (known.error_free s.over k) (known.error_free t.over k) (each k x y)).0);
          free_second = λ k x y. (tells-in g.boxes (error_free m.id k)).0 (subst (λ z. known.error_free z k ≡ true) (sym over-m) (and_parts (known.error_free s.over k) (known.error_free t.over k) (each k x y)).1);
        }

    arms-to : ArmsDecided g known p wide n m → arms ≡ true
    arms-to d =
        and_from (known.clean s.over && known.clean t.over) (all_places wide (λ k. known.error_free s.over k && known.error_free t.over k))
        (and_from (known.clean s.over) (known.clean t.over) (subst (λ z. known.clean z ≡ true) over-n ((tells-in g.boxes (clean n.id)).1 d.clean_first)) (subst (λ z. known.clean z ≡ true) over-m ((tells-in g.boxes (clean m.id)).1 d.clean_second)))
        (each-places wide (λ k. known.error_free s.over k && known.error_free t.over k) (λ k x y. and_from (known.error_free s.over k) (known.error_free t.over k)
        (subst (λ z. known.error_free z k ≡ true) over-n ((tells-in g.boxes (error_free n.id k)).1 (d.free_first k x y)))
        (subst (λ z. known.error_free z k ≡ true) over-m ((tells-in g.boxes (error_free m.id k)).1 (d.free_second k x y)))))

  module _ (types : List SqlType) (s t : OwnedQuant) (n m : Node) (i : Input g s n) (j : Input g t m) (two : c.quants ≡ s ∷ (t ∷ [])) where
    decided-from : (form : SetOperator) → c.parts.kind ≡ SetOp form types → (is_union form || decided g p c) ≡ true → DecidedBy form g known p (length types) n m
    decided-from UnionAll kind h = tt
    decided-from Union kind h = tt
    decided-from IntersectAll kind h = let b = and_parts (known.clean c.id) (cond_free g.boxes known false p) h in arms-from s t n m i j (length types) ((said-is IntersectAll types s t kind two).0 b.0) b.1
    decided-from Intersect kind h = let b = and_parts (known.clean c.id) (cond_free g.boxes known false p) h in arms-from s t n m i j (length types) ((said-is Intersect types s t kind two).0 b.0) b.1
    decided-from ExceptAll kind h = let b = and_parts (known.clean c.id) (cond_free g.boxes known false p) h in arms-from s t n m i j (length types) ((said-is ExceptAll types s t kind two).0 b.0) b.1
    decided-from Except kind h = let b = and_parts (known.clean c.id) (cond_free g.boxes known false p) h in arms-from s t n m i j (length types) ((said-is Except types s t kind two).0 b.0) b.1

    decided-to : (form : SetOperator) → c.parts.kind ≡ SetOp form types → DecidedBy form g known p (length types) n m → (is_union form || decided g p c) ≡ true
    decided-to UnionAll kind d = refl
    decided-to Union kind d = refl
    decided-to IntersectAll kind d = and_from (known.clean c.id) (cond_free g.boxes known false p) ((said-is IntersectAll types s t kind two).1 (arms-to s t n m i j (length types) d)) d.p_free
    decided-to Intersect kind d = and_from (known.clean c.id) (cond_free g.boxes known false p) ((said-is Intersect types s t kind two).1 (arms-to s t n m i j (length types) d)) d.p_free
    decided-to ExceptAll kind d = and_from (known.clean c.id) (cond_free g.boxes known false p) ((said-is ExceptAll types s t kind two).1 (arms-to s t n m i j (length types) d)) d.p_free
    decided-to Except kind d = and_from (known.clean c.id) (cond_free g.boxes known false p) ((said-is Except types s t kind two).1 (arms-to s t n m i j (length types) d)) d.p_free

  from-arms : (form : SetOperator) (types : List SqlType) (rs : List OwnedQuant) → c.parts.kind ≡ SetOp form types → c.quants ≡ rs → two_inputs g p r rs ≡ true → (is_union form || decided g p c) ≡ true → IsSetOpUnder g known p r c
  from-arms form types [] kind e h d = absurd (let z : ⊥ = cc in z)
  from-arms form types (s ∷ []) kind e h d = absurd (let z : ⊥ = cc in z)
  from-arms form types (s ∷ (t ∷ [])) kind e h d =
      let f = and_parts (is_input g s && is_input g t) (is_small_into g p r.id s && is_small_into g p r.id t) h in
      let a = and_parts (is_input g s) (is_input g t) f.0 in
      let x = and_parts (is_small_into g p r.id s) (is_small_into g p r.id t) f.1 in
      let i = input-from g s a.0 in
      let j = input-from g t a.1 in
      record {
        form = form;
        types = types;
        s = s;
        t = t;
        n = i.0;
        m = j.0;
        kind = kind;
        two = e;
        first = i.1;
        second = j.1;
        small_first = sym (ap (in_box (λ (n : Node). is_small r.id n.parts.head p)) i.1.under) ∙ x.0;
        small_second = sym (ap (in_box (λ (n : Node). is_small r.id n.parts.head p)) j.1.under) ∙ x.1;
        decided = decided-from types s t i.0 j.0 i.1 j.1 e form kind d;
      }
  from-arms form types (s ∷ (t ∷ (v ∷ vs))) kind e h d = absurd (let z : ⊥ = cc in z)

  abbrev test : SetOperator → List SqlType → Bool
  test form types = two_inputs g p r c.quants && (is_union form || decided g p c)

  pub is-so : (arms_passes g p r c ≡ true) ↔ IsSetOpUnder g known p r c
  is-so = (
    λ h. (
        let b = set-from test c.parts.kind h in
        let a = and_parts (two_inputs g p r c.quants) (is_union b.0 || decided g p c) b.1.1.1 in
        from-arms b.0 b.1.0 c.quants b.1.1.0 refl a.0 a.1),
    λ m. ap (of_set test) m.kind
        ∙ and_from (two_inputs g p r c.quants) (is_union m.form || decided g p c)
        (ap (two_inputs g p r) m.two
        ∙ and_from (is_input g m.s && is_input g m.t) (is_small_into g p r.id m.s && is_small_into g p r.id m.t)
        (and_from (is_input g m.s) (is_input g m.t) (input-to g m.s m.n m.first) (input-to g m.t m.m m.second))
        (and_from (is_small_into g p r.id m.s) (is_small_into g p r.id m.t)
        (ap (in_box (λ (n : Node). is_small r.id n.parts.head p)) m.first.under ∙ m.small_first)
        (ap (in_box (λ (n : Node). is_small r.id n.parts.head p)) m.second.under ∙ m.small_second)))
        (decided-to m.types m.s m.t m.n m.m m.first m.second m.two m.form m.kind m.decided),
  )

-- at one of its places it may fire
pub push_into_arms_given : (g : QueryGraph) → WellFormed g → (at : Place) → In (at.i, at.j) (push_into_arms_pairs g at.at) → MayPush (IsSetOpUnder g (facts_in g.boxes)) at g
unfolding push_into_arms_pairs
push_into_arms_given g w at h = (push-exact g w (arms_passes g) (IsSetOpUnder g (facts_in g.boxes)) (is-so g) at.at at.i at.j).0 h

pub push_into_arms_exact : (g : QueryGraph) (b i j : ℕ) → EachOnce (numbers g.boxes) → WellFormed g → In (i, j) (push_into_arms_pairs g b) ↔ MayPushIntoArms (record { at = b; i = i; j = j }) g
unfolding push_into_arms_pairs MayPushIntoArms
push_into_arms_exact g b i j once w =
    let e = push-exact g w (arms_passes g) (IsSetOpUnder g (facts_in g.boxes)) (is-so g) b i j in (
      λ h. record { known = facts_in g.boxes; tells = tells-in g.boxes; may = e.0 h },
      λ m. e.1 (subst (λ (k : Facts). MayPush (IsSetOpUnder g k) (record { at = b; i = i; j = j }) g) (facts-are g.boxes m.known m.tells) m.may),
    )

pub push_into_arms_ascending : (g : QueryGraph) (b : ℕ) → Ascending (push_into_arms_pairs g b)
unfolding push_into_arms_pairs
push_into_arms_ascending g b = picks_ascending (leaves (arms_passes g) g (box_of b g)) 1 (conds_in (box_of b g))
