-- Places at a box and at its quantifiers: their lists, that these are the places that pass, and what a rule's places and action owe.
use Rattle.std.proofs.Common.{ℕ, suc, ◌≡◌, ◌&&◌, ◌+◌, ◌++◌, Bool, true, false, List, [], ◌∷◌, length, None, Option, Some, refl, sym, ap, subst, ◌∙◌, inl, inr, arith}
use Rattle.std.specs.Prelude.{◌↔◌}
use Rattle.std.proofs.lemmas.Bool.{and_from, and_parts}
use Rattle.sql_value.specs.declared.order_key.SqlType.{SqlType}
use Rattle.qgm_core.specs.Boxes.{QueryGraph, box_of, numbers, quants_in, quants_of}
use Rattle.qgm_core.specs.Kinds.{is_plain, is_select}
use Rattle.list_laws.specs.Lists.{EachOnce, In}
use Rattle.qgm_core.specs.declared.kinds.BoxKind.{BoxKind}
use Rattle.qgm_core.specs.declared.kinds.BoxKind.TheVariants.{Base, Select, Group, SetOp, OuterJoin}
use Rattle.qgm_core.specs.declared.kinds.SetOperator.{SetOperator}
use Rattle.qgm_core.specs.declared.kinds.Role.TheVariants.{Plain}
use Rattle.qgm_core.specs.declared.node.Node.{Node}
use Rattle.qgm_core.specs.declared.owned.OwnedQuant.{OwnedQuant}
use Rattle.qgm_wellformed.specs.Sentences.{WellFormed}
use Rattle.rule_api.specs.PickLaws.{once_ascending, once_exact, picks_ascending, picks_exact}
use Rattle.rule_api.specs.Picks.{Passes, picked, picks}
use Rattle.rule_api.specs.Rules.{Ascending, Pair, Preserves}
use Rattle.rule_api.specs.declared.place.Place.{Place}
use Rattle.qgm_core.proofs.KindTests.{plain-is, select-is}

-- a test of the box that is found, and one of a quantifier in it
abbrev pub in_box : (Node → Bool) → Option Node → Bool
in_box t None = false
in_box t (Some n) = t n

abbrev pub in_owner : (Node → OwnedQuant → Bool) → Option Node → OwnedQuant → Bool
in_owner t None r = false
in_owner t (Some n) r = t n r

abbrev pub box_pairs : (Node → Bool) → QueryGraph → ℕ → List Pair
box_pairs t g b = picked (in_box t (box_of b g)) 0 0

abbrev pub quant_pairs : (Node → OwnedQuant → Bool) → QueryGraph → ℕ → List Pair
quant_pairs t g b = picks (in_owner t (box_of b g)) 1 (quants_of b g)

abbrev pub is_plain_select : Node → Bool
is_plain_select n = is_select n.parts.kind && is_plain n.parts.role

-- a test of the operator and the types of a set operation
abbrev pub of_set : (SetOperator → List SqlType → Bool) → BoxKind → Bool
of_set t (Base table) = false
of_set t Select = false
of_set t (Group keys) = false
of_set t (SetOp form types) = t form types
of_set t OuterJoin = false

-- the places are in order, and those where the condition holds
abbrev pub ArePlaces : (QueryGraph → ℕ → List Pair) → (Place → QueryGraph → Type 0) → Type 0
ArePlaces pairs may =
    (g : QueryGraph) → EachOnce (numbers g.boxes) → WellFormed g → (b : ℕ) → Ascending (pairs g b) × ((i j : ℕ) → In (i, j) (pairs g b) ↔ may (record { at = b; i = i; j = j }) g)

-- at a place where the condition holds the action preserves
abbrev pub ActionPreserves : (Place → QueryGraph → Type 0) → (Place → QueryGraph → QueryGraph → Type 0) → Type 0
ActionPreserves may act = (g h : QueryGraph) → EachOnce (numbers g.boxes) → WellFormed g → (p : Place) → may p g → act p g h → Preserves g h

-- ---- kinds

pub plain-from : (n : Node) → is_plain_select n ≡ true → (n.parts.kind ≡ Select) × (n.parts.role ≡ Plain)
plain-from n h = let a = and_parts (is_select n.parts.kind) (is_plain n.parts.role) h in (select-is n.parts.kind a.0, plain-is n.parts.role a.1)

pub plain-to : (n : Node) → n.parts.kind ≡ Select → n.parts.role ≡ Plain → is_plain_select n ≡ true
plain-to n k r = and_from (is_select n.parts.kind) (is_plain n.parts.role) (ap is_select k) (ap is_plain r)

pub set-from : (t : SetOperator → List SqlType → Bool) (k : BoxKind) → of_set t k ≡ true → (form : SetOperator) × ((types : List SqlType) × ((k ≡ SetOp form types) × (t form types ≡ true)))
set-from t (Base table) h = absurd (let z : ⊥ = cc in z)
set-from t Select h = absurd (let z : ⊥ = cc in z)
set-from t (Group keys) h = absurd (let z : ⊥ = cc in z)
set-from t (SetOp form types) h = (form, (types, (refl, h)))
set-from t OuterJoin h = absurd (let z : ⊥ = cc in z)

-- ---- places

found-from : (t : Node → Bool) (o : Option Node) → in_box t o ≡ true → (n : Node) × ((o ≡ Some n) × (t n ≡ true))
found-from t None h = absurd (let z : ⊥ = cc in z)
found-from t (Some n) h = (n, (refl, h))

owner-from : (t : Node → OwnedQuant → Bool) (o : Option Node) (r : OwnedQuant) → in_owner t o r ≡ true → (n : Node) × ((o ≡ Some n) × (t n r ≡ true))
owner-from t None r h = absurd (let z : ⊥ = cc in z)
owner-from t (Some n) r h = (n, (refl, h))

passes-from : (p : OwnedQuant → Bool) (first : ℕ) (rs : List OwnedQuant) (i : ℕ) → Passes p first rs i
    → (us : List OwnedQuant) × ((r : OwnedQuant) × ((vs : List OwnedQuant) × ((rs ≡ us ++ r ∷ vs) × (i ≡ length us + first) × (p r ≡ true))))
passes-from p first [] i h = elim h [ ]
passes-from p first (r ∷ rs) i h = elim h [
  | inl k ↦ ([], (r, (rs, (refl, (let e = k.0 in omega arith), k.1))))
  | inr k ↦ (let x = passes-from p (first + 1) rs i k in (r ∷ x.0, (x.1.0, (x.1.1.0, (ap (λ z. r ∷ z) x.1.1.1.0, (let e = x.1.1.1.1 in omega arith), x.1.1.1.2)))))
]

passes-to : (p : OwnedQuant → Bool) (first : ℕ) (us : List OwnedQuant) (r : OwnedQuant) (vs : List OwnedQuant) (i : ℕ) → i ≡ length us + first → p r ≡ true → Passes p first (us ++ r ∷ vs) i
passes-to p first [] r vs i e h = inl ((omega arith), h)
passes-to p first (u ∷ us) r vs i e h = inr (passes-to p (first + 1) us r vs i (omega arith) h)

-- a box passes, and one number is it
pub record BoxPasses (t : Node → Bool) (g : QueryGraph) (b i j : ℕ) : Type 0 where
  pub n : Node
  pub first : i ≡ 0
  pub second : j ≡ 0
  pub found : box_of b g ≡ Some n
  pub passes : t n ≡ true

pub box-from : (t : Node → Bool) (g : QueryGraph) (b i j : ℕ) → In (i, j) (box_pairs t g b) → BoxPasses t g b i j
box-from t g b i j h =
    let a = (once_exact (in_box t (box_of b g)) i j).0 h in
    let m = found-from t (box_of b g) a.1.1 in record { n = m.0; first = a.1.0; second = a.0; found = m.1.0; passes = m.1.1 }

pub box-to : (t : Node → Bool) (g : QueryGraph) (b i j : ℕ) (n : Node) → i ≡ 0 → j ≡ 0 → box_of b g ≡ Some n → t n ≡ true → In (i, j) (box_pairs t g b)
box-to t g b i j n first second found h = (once_exact (in_box t (box_of b g)) i j).1 (second, (first, ap (in_box t) found ∙ h))

-- a quantifier of it passes
pub record QuantPasses (t : Node → OwnedQuant → Bool) (g : QueryGraph) (b i j : ℕ) : Type 0 where
  pub n : Node
  pub us : List OwnedQuant
  pub r : OwnedQuant
  pub vs : List OwnedQuant
  pub second : j ≡ 0
  pub found : box_of b g ≡ Some n
  pub split : n.quants ≡ us ++ r ∷ vs
  pub nth : i ≡ suc (length us)
  pub passes : t n r ≡ true

pub quant-from : (t : Node → OwnedQuant → Bool) (g : QueryGraph) (b i j : ℕ) → In (i, j) (quant_pairs t g b) → QuantPasses t g b i j
quant-from t g b i j h =
    let a = (picks_exact (in_owner t (box_of b g)) 1 (quants_of b g) i j).0 h in
    let x = passes-from (in_owner t (box_of b g)) 1 (quants_of b g) i a.1 in
    let m = owner-from t (box_of b g) x.1.0 x.1.1.1.2 in
    record {
      n = m.0;
      us = x.0;
      r = x.1.0;
      vs = x.1.1.0;
      second = a.0;
      found = m.1.0;
      split = sym (ap quants_in m.1.0) ∙ x.1.1.1.0;
      nth = (let e = x.1.1.1.1 in omega arith);
      passes = m.1.1;
    }

pub quant-to : (t : Node → OwnedQuant → Bool) (g : QueryGraph) (b i j : ℕ) (n : Node) (us : List OwnedQuant) (r : OwnedQuant) (vs : List OwnedQuant) → j ≡ 0 → box_of b g ≡ Some n → n.quants ≡ us ++ r ∷ vs → i ≡ suc (length us) → t n r ≡ true
    → In (i, j) (quant_pairs t g b)
quant-to t g b i j n us r vs second found split nth h =
    let e : quants_of b g ≡ us ++ r ∷ vs = ap quants_in found ∙ split in
    (picks_exact (in_owner t (box_of b g)) 1 (quants_of b g) i j).1
    (second, subst (λ z. Passes (in_owner t (box_of b g)) 1 z i) (sym e) (passes-to (in_owner t (box_of b g)) 1 us r vs i (let d = nth in omega arith) (ap (λ z. in_owner t z r) found ∙ h)))

-- ---- in order

pub quants-ascend : (t : Node → OwnedQuant → Bool) (g : QueryGraph) (b : ℕ) → Ascending (quant_pairs t g b)
quants-ascend t g b = picks_ascending (in_owner t (box_of b g)) 1 (quants_of b g)

pub boxes-ascend : (t : Node → Bool) (g : QueryGraph) (b : ℕ) → Ascending (box_pairs t g b)
boxes-ascend t g b = once_ascending (in_box t (box_of b g))
