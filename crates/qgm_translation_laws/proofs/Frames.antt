-- What frames show has types, and each subquery and aggregate of a block has its types.
use Rattle.std.proofs.Common.{◌≡◌, Bool, true, false, ℕ, zero, suc, ◌+◌, List, [], ◌∷◌, ◌++◌, get_or, length, Option, Some, None, refl, ap, ap₂, sym, ◌∙◌, subst, arith}
use Rattle.std.proofs.lemmas.List.{length-append}
use Rattle.sql_ast.specs.declared.word.SetFunction.{SetFunction}
use Rattle.sql_value.specs.declared.order_key.SqlType.{SqlType}
use Rattle.sql_value.specs.declared.order_key.SqlType.TheVariants.{Integer, Varchar}
use Rattle.sql_meaning.specs.ResolvedTrees.{Value, Addends, Multipliers, Values, Arms, Choices, Test, Tests, From, Froms, Query}
use Rattle.sql_meaning.specs.ResolvedTrees as q
use Rattle.qgm_core.specs.Kinds.{is_S}
use Rattle.qgm_core.specs.declared.kinds.QuantKind.{QuantKind}
use Rattle.qgm_core.specs.declared.kinds.QuantKind.TheVariants.{E, S}
use Rattle.qgm_translation.specs.Leaves as w
use Rattle.qgm_translation.specs.Leaves.{Leaf}
use Rattle.qgm_translation.specs.Maps.{Frame, Map, nothing}
use Rattle.qgm_translation.specs.Shown.{Either, refs}
use Rattle.qgm_translation.specs.Sources.{Sources, from_width, froms_width, how_many_values, width}
use Rattle.qgm_translation.specs.Terms.{is_untyped}
use Rattle.qgm_translation_laws.specs.Typed as typed
use Rattle.qgm_translation_laws.specs.Typed.{FoldsTo, FromIs, FromsAre, IsOf, IsOfTypes, Scope, open_scope}
use Rattle.qgm_translation_laws.proofs.TermsAre.{MapIs, RefIs, same-some}

-- the type at a place, from 0
abbrev pub At : List SqlType → ℕ → SqlType → Type 0
At [] i a = ⊥
At (x ∷ types) zero a = x ≡ a
At (x ∷ types) (suc i) a = At types i a

-- ---- frames

module _ (K : ℕ → ℕ → SqlType → Type 0) where
  -- what a frame shows has these types
  abbrev pub Cols : Frame → List SqlType → Type 0
  Cols [] types = types ≡ []
  Cols (r ∷ fr) [] = ⊥
  Cols (r ∷ fr) (a ∷ types) = RefIs K r a × Cols fr types

  pub cols-append : (a b : Frame) (xs ys : List SqlType) → Cols a xs → Cols b ys → Cols (a ++ b) (xs ++ ys)
  cols-append [] b xs ys h k = subst (λ (z : List SqlType). Cols b (z ++ ys)) (sym h) k
  cols-append (r ∷ a) b [] ys h k = absurd h
  cols-append (r ∷ a) b (x ∷ xs) ys h k = (h.0, cols-append a b xs ys h.1 k)

  pub cols-seen : (fr : Frame) (types : List SqlType) (place : ℕ) (a : SqlType) → Cols fr types → get_or (open_scope types) place None ≡ Some a → RefIs K (get_or fr place nothing) a
  cols-seen [] types place a h e = let f : None ≡ Some a = ap (λ (z : List SqlType). get_or (open_scope z) place None) (sym h) ∙ e in absurd (cc f)
  cols-seen (r ∷ fr) [] place a h e = absurd h
  cols-seen (r ∷ fr) (x ∷ types) zero a h e = subst (λ z. RefIs K r z) (same-some x a e) h.0
  cols-seen (r ∷ fr) (x ∷ types) (suc place) a h e = cols-seen fr types place a h.1 e

  pub map-more : (fr : Frame) (m : Map) (scope : Scope) (scopes : List Scope) → ((place : ℕ) (a : SqlType) → get_or scope place None ≡ Some a → RefIs K (get_or fr place nothing) a) → MapIs K m scopes → MapIs K (fr ∷ m) (scope ∷ scopes)
  map-more fr m scope scopes f g zero place a e = f place a e
  map-more fr m scope scopes f g (suc s) place a e = g s place a e

  pub map-none : MapIs K [] []
  map-none s place a e = absurd (cc e)

  pub map-open : (fr : Frame) (m : Map) (types : List SqlType) (scopes : List Scope) → Cols fr types → MapIs K m scopes → MapIs K (fr ∷ m) (open_scope types ∷ scopes)
  map-open fr m types scopes h g = map-more fr m (open_scope types) scopes (λ place a e. cols-seen fr types place a h e) g

  pub refs-cols : (n i : ℕ) (types : List SqlType) → ((j : ℕ) (a : SqlType) → At types j a → K n (suc (j + i)) a) → Cols (refs n (suc i) (length types)) types
  refs-cols n i [] f = refl
  refs-cols n i (x ∷ types) f =
      let e : zero + i ≡ i = omega arith in (
        subst (λ z. K n (suc z) x) e (f zero x refl),
        refs-cols n (suc i) types (λ j a h. let g : suc j + i ≡ j + suc i = omega arith in subst (λ z. K n (suc z) a) g (f (suc j) a h)),
      )

-- ---- how many columns

pub values-length : (kinds : List ℕ → List SqlType) (rows : Option Scope) (scopes : List Scope) (xs : Values) (types : List SqlType) → typed.AreOf kinds rows scopes xs types → length types ≡ how_many_values xs
values-length kinds rows scopes q.no_value types h = ap length h
values-length kinds rows scopes (q.one_value x xs) [] h = absurd h
values-length kinds rows scopes (q.one_value x xs) (a ∷ types) h = ap suc (values-length kinds rows scopes xs types h.1)

module _ (kinds : List ℕ → List SqlType) (sources : Sources) (counted : (name : List ℕ) → length (kinds name) ≡ sources.columns name) where
  pub query-length : (scopes : List Scope) (x : Query) (types : List SqlType) → IsOfTypes kinds scopes x types → length types ≡ width x
  query-length scopes (q.block distinct list from by) types h = values-length kinds _ _ list types h.1.2
  query-length scopes (q.grouped distinct list from by places n having) types h = values-length kinds _ _ list types h.1.3
  query-length scopes (q.combine x op all n y) types h = h.3
  query-length scopes (q.intersect x all n y) types h = h.3

  pub from-length : (scopes : List Scope) (x : From) (types : List SqlType) → FromIs kinds scopes x types → length types ≡ from_width sources x
  from-length scopes (q.named name) types h = ap length h ∙ counted name
  from-length scopes (q.derived query) types h = query-length scopes query types h
  from-length scopes (q.crossed x y) types h = ap length h.1.1.2 ∙ length-append h.0 h.1.0 ∙ ap₂ ◌+◌ (from-length scopes x h.0 h.1.1.0) (from-length scopes y h.1.0 h.1.1.1)
  from-length scopes (q.joined x y p) types h = ap length h.1.1.2 ∙ length-append h.0 h.1.0 ∙ ap₂ ◌+◌ (from-length scopes x h.0 h.1.1.0) (from-length scopes y h.1.0 h.1.1.1)
  from-length scopes (q.left_joined x y n p) types h = ap length h.1.1.2 ∙ length-append h.0 h.1.0 ∙ ap₂ ◌+◌ (from-length scopes x h.0 h.1.1.0) h.1.1.4

  pub froms-length : (scopes : List Scope) (xs : Froms) (types : List SqlType) → FromsAre kinds scopes xs types → length types ≡ froms_width sources xs
  froms-length scopes q.no_from types h = ap length h
  froms-length scopes (q.one_from x xs) types h = ap length h.1.1.2 ∙ length-append h.0 h.1.0 ∙ ap₂ ◌+◌ (from-length scopes x h.0 h.1.1.0) (froms-length scopes xs h.1.0 h.1.1.1)

-- ---- leaves

-- V: these scopes are seen where this frame is the innermost
module _ (kinds : List ℕ → List SqlType) (V : Frame → List Scope → Type 0) (rows : Option Scope) where
  -- a subquery gives columns of types, in scopes that are seen; one that is asked for its value gives some
  abbrev pub SubIs : QuantKind → Frame → Query → Type 0
  SubIs kind f query = (scopes : List Scope) × (V f scopes × ((types : List SqlType) × (IsOfTypes kinds scopes query types × (is_S kind ≡ true → typed.NotNone types))))

  abbrev pub FoldIs : SetFunction → Value → Type 0
  FoldIs f x = (row : Scope) × ((rows ≡ Some row) × ((u : SqlType) × ((a : SqlType) × (IsOf kinds None (row ∷ []) x u × FoldsTo f u a))))

  abbrev pub LeavesAre : List Leaf → Type 0
  LeavesAre [] = Unit {0}
  LeavesAre (w.sub f kind query ∷ ls) = SubIs kind f query × LeavesAre ls
  LeavesAre (w.fold f distinct x ∷ ls) = FoldIs f x × LeavesAre ls
  LeavesAre (w.count ∷ ls) = ((row : Scope) × (rows ≡ Some row)) × LeavesAre ls

  pub leaves-append : (xs ys : List Leaf) → LeavesAre xs → LeavesAre ys → LeavesAre (xs ++ ys)
  leaves-append [] ys h k = k
  leaves-append (w.sub f kind query ∷ xs) ys h k = (h.0, leaves-append xs ys h.1 k)
  leaves-append (w.fold f distinct x ∷ xs) ys h k = (h.0, leaves-append xs ys h.1 k)
  leaves-append (w.count ∷ xs) ys h k = (h.0, leaves-append xs ys h.1 k)

  -- a record, so that the leaves are found
  pub record All (ls : List Leaf) : Type 0 where
    pub are : LeavesAre ls

  both : {xs ys : List Leaf} → All xs → All ys → All (xs ++ ys)
  both {xs} {ys} h k = record { are = leaves-append xs ys h.are k.are }

  none : All []
  none = record { are = tt }

  module _ (fr : Frame) (scopes : List Scope) (seen : V fr scopes) where
    asked : (kind : QuantKind) (query : Query) (types : List SqlType) → IsOfTypes kinds scopes query types → (is_S kind ≡ true → typed.NotNone types) → All (w.sub fr kind query ∷ [])
    asked kind query types h f = record { are = ((scopes, (seen, (types, (h, f)))), tt) }

    -- a NULL without a type has no leaves
    untyped-none : (x : Value) → is_untyped x ≡ true → w.leaves fr x ≡ []
    untyped-none (q.number i) h = refl
    untyped-none (q.text x) h = refl
    untyped-none (q.null type) h = refl
    untyped-none (q.column scope place) h = refl
    untyped-none (q.sum x xs) h = absurd (cc h)
    untyped-none (q.product x xs) h = absurd (cc h)
    untyped-none (q.negative x) h = absurd (cc h)
    untyped-none (q.searched xs last) h = absurd (cc h)
    untyped-none (q.simple x xs last) h = absurd (cc h)
    untyped-none (q.coalesce x xs) h = absurd (cc h)
    untyped-none (q.null_if x y) h = absurd (cc h)
    untyped-none (q.scalar query) h = absurd (cc h)
    untyped-none q.count_all h = absurd (cc h)
    untyped-none (q.aggregate f distinct x) h = absurd (cc h)

    result-leaves : (X : Type 0) (b : Bool) (x : Value) → is_untyped x ≡ b → Either b (Unit {0}) X → (X → All (w.leaves fr x)) → All (w.leaves fr x)
    result-leaves X true x e h f = subst All (sym (untyped-none x e)) none
    result-leaves X false x e h f = f h

    mutual
      pub value-leaves : (x : Value) (a : SqlType) → IsOf kinds rows scopes x a → All (w.leaves fr x)
      value-leaves (q.number i) a h = none
      value-leaves (q.text x) a h = none
      value-leaves (q.null type) a h = none
      value-leaves (q.column scope place) a h = none
      value-leaves (q.sum x xs) a h = both (value-leaves x a h.0) (addends-leaves xs a h.1)
      value-leaves (q.product x xs) a h = both (value-leaves x Integer h.1) (multipliers-leaves xs h.2)
      value-leaves (q.negative x) a h = value-leaves x Integer h.1
      value-leaves (q.searched xs last) a h = both (arms-leaves xs a h.0) (result-leaves (IsOf kinds rows scopes last a) (is_untyped last) last refl h.1 (λ g. value-leaves last a g))
      value-leaves (q.simple x xs last) a h = both (value-leaves x h.0.0 h.0.1.0) (both (choices-leaves xs h.0.0 a h.0.1.1) (result-leaves (IsOf kinds rows scopes last a) (is_untyped last) last refl h.1 (λ g. value-leaves last a g)))
      value-leaves (q.coalesce x xs) a h = both (value-leaves x a h.0) (list-leaves xs a h.1)
      value-leaves (q.null_if x y) a h = both (value-leaves x a h.0) (value-leaves y a h.1)
      value-leaves (q.scalar query) a h = asked S query (a ∷ []) h (λ _. tt)
      value-leaves q.count_all a h = record { are = (h.0, tt) }
      value-leaves (q.aggregate f distinct x) a h = record { are = ((h.0, (h.1.0, (h.1.1.0, (a, h.1.1.1)))), tt) }

      addends-leaves : (xs : Addends) (a : SqlType) → typed.AddendsAre kinds rows scopes xs a → All (w.addend_leaves fr xs)
      addends-leaves q.no_addend a h = none
      addends-leaves (q.one_addend op x xs) a h = both (value-leaves x a h.1) (addends-leaves xs a h.2)

      multipliers-leaves : (xs : Multipliers) → typed.MultipliersAre kinds rows scopes xs → All (w.multiplier_leaves fr xs)
      multipliers-leaves q.no_multiplier h = none
      multipliers-leaves (q.one_multiplier op x xs) h = both (value-leaves x Integer h.0) (multipliers-leaves xs h.1)

      list-leaves : (xs : Values) (a : SqlType) → typed.AllAre kinds rows scopes xs a → All (w.list_leaves fr xs)
      list-leaves q.no_value a h = none
      list-leaves (q.one_value x xs) a h = both (value-leaves x a h.0) (list-leaves xs a h.1)

      arms-leaves : (xs : Arms) (a : SqlType) → typed.ArmsAre kinds rows scopes xs a → All (w.arm_leaves fr xs)
      arms-leaves q.no_arm a h = none
      arms-leaves (q.one_arm p x xs) a h = both (test-leaves p h.0) (both (result-leaves (IsOf kinds rows scopes x a) (is_untyped x) x refl h.1 (λ g. value-leaves x a g)) (arms-leaves xs a h.2))

      choices-leaves : (xs : Choices) (u a : SqlType) → typed.ChoicesAre kinds rows scopes u xs a → All (w.choice_leaves fr xs)
      choices-leaves q.no_choice u a h = none
      choices-leaves (q.one_choice x y xs) u a h = both (value-leaves x u h.0) (both (result-leaves (IsOf kinds rows scopes y a) (is_untyped y) y refl h.1 (λ g. value-leaves y a g)) (choices-leaves xs u a h.2))

      pub test-leaves : (p : Test) → typed.IsTyped kinds rows scopes p → All (w.test_leaves fr p)
      test-leaves (q.all ps) h = tests-leaves ps h
      test-leaves (q.any ps) h = tests-leaves ps h
      test-leaves (q.negated p) h = test-leaves p h
      test-leaves (q.compare x op y) h = both (value-leaves x h.0 h.1.0) (value-leaves y h.0 h.1.1)
      test-leaves (q.quantified x op each query) h = both (value-leaves x h.0 h.1.0) (asked (w.every_or_some each) query (h.0 ∷ []) h.1.1 (λ _. tt))
      test-leaves (q.between x y z) h = both (value-leaves x h.0 h.1.0) (both (value-leaves y h.0 h.1.1) (value-leaves z h.0 h.1.2))
      test-leaves (q.among x xs) h = both (value-leaves x h.0 h.1.0) (list-leaves xs h.0 h.1.1)
      test-leaves (q.among_rows x query) h = both (value-leaves x h.0 h.1.0) (asked E query (h.0 ∷ []) h.1.1 (λ _. tt))
      test-leaves (q.like x y) h = both (value-leaves x Varchar h.0) (value-leaves y Varchar h.1)
      test-leaves (q.is_null x) h = value-leaves x h.0 h.1
      test-leaves (q.exists query) h = asked E query h.0 h.1 (λ e. absurd (cc e))

      tests-leaves : (ps : Tests) → typed.AreTyped kinds rows scopes ps → All (w.tests_leaves fr ps)
      tests-leaves q.no_test h = none
      tests-leaves (q.one_test p ps) h = both (test-leaves p h.0) (tests-leaves ps h.1)

    pub values-leaves : (xs : Values) (types : List SqlType) → typed.AreOf kinds rows scopes xs types → All (w.list_leaves fr xs)
    values-leaves q.no_value types h = none
    values-leaves (q.one_value x xs) [] h = absurd h
    values-leaves (q.one_value x xs) (a ∷ types) h = both (value-leaves x a h.0) (values-leaves xs types h.1)
