-- P3: a conjunct goes through a set operation into both of its arms, which are plain selects.
use Rattle.std.specs.Prelude.{ℕ, ◌≡◌, ◌≤◌, ◌&&◌, ◌||◌, ◌++◌, ⊤, Bool, true, false, List, ◌∷◌, length, []}
use Rattle.sql_value.specs.declared.order_key.SqlType.{SqlType}
use Rattle.qgm_core.specs.Boxes.{QueryGraph}
use Rattle.qgm_core.specs.Edits.{compact}
use Rattle.qgm_core.specs.declared.kinds.BoxKind.TheVariants.{SetOp}
use Rattle.qgm_core.specs.declared.kinds.SetOperator.{SetOperator}
use Rattle.qgm_core.specs.declared.kinds.SetOperator.TheVariants.{UnionAll, Union, IntersectAll, Intersect, ExceptAll, Except}
use Rattle.qgm_core.specs.declared.node.Node.{Node}
use Rattle.qgm_core.specs.declared.owned.OwnedQuant.{OwnedQuant}
use Rattle.qgm_edit_laws.specs.ConjunctEdits.{put_conjunct, with_conjuncts}
use Rattle.qgm_props.specs.Inferred.{Facts, Inferred, clean, cond_free, error_free}
use Rattle.qgm_props.specs.Laws.{Tells}
use Rattle.qgm_terms.specs.Substitution.{substituted_cond}
use Rattle.qgm_terms.specs.Terms.{Cond}
use Rattle.rule_api.specs.Rules.{Pair}
use Rattle.rule_api.specs.declared.place.Place.{Place}
use Rattle.rule_facts.specs.Places.{of_set}
use Rattle.rule_push.specs.Decided.{decided, facts_in}
use Rattle.rule_push.specs.Moves.{arms_plan}
use Rattle.rule_push.specs.PushPlaces.{MayPush, is_input, push_pairs}
use Rattle.rule_push.specs.Pushable.{Input}
use Rattle.rule_push.specs.Small.{is_small, is_small_into}
use Rattle.rule_push.specs.declared.moves.ArmsPlan.{ArmsPlan}

-- what INTERSECT and EXCEPT need: a conjunct that is inferred error-free, arms that are inferred clean, and their columns, wide many, error-free
pub record ArmsDecided (g : QueryGraph) (known : Facts) (p : Cond) (wide : ℕ) (n m : Node) : Type 0 where
  pub p_free : cond_free g.boxes known false p ≡ true
  pub clean_first : Inferred g.boxes (clean n.id)
  pub clean_second : Inferred g.boxes (clean m.id)
  pub free_first : (j : ℕ) → 1 ≤ j → j ≤ wide → Inferred g.boxes (error_free n.id j)
  pub free_second : (j : ℕ) → 1 ≤ j → j ≤ wide → Inferred g.boxes (error_free m.id j)

abbrev pub DecidedBy : SetOperator → QueryGraph → Facts → Cond → ℕ → Node → Node → Type 0
DecidedBy UnionAll g known p wide n m = ⊤
DecidedBy Union g known p wide n m = ⊤
DecidedBy IntersectAll g known p wide n m = ArmsDecided g known p wide n m
DecidedBy Intersect g known p wide n m = ArmsDecided g known p wide n m
DecidedBy ExceptAll g known p wide n m = ArmsDecided g known p wide n m
DecidedBy Except g known p wide n m = ArmsDecided g known p wide n m

-- c, the box under r, is a set operation of s and t, whose boxes n and m are plain selects of 1 use each, whose cells let p grow little
pub record IsSetOpUnder (g : QueryGraph) (known : Facts) (p : Cond) (r : OwnedQuant) (c : Node) : Type 0 where
  pub form : SetOperator
  pub types : List SqlType
  pub s : OwnedQuant
  pub t : OwnedQuant
  pub n : Node
  pub m : Node
  pub kind : c.parts.kind ≡ SetOp form types
  pub two : c.quants ≡ s ∷ (t ∷ [])
  pub first : Input g s n
  pub second : Input g t m
  pub small_first : is_small r.id n.parts.head p ≡ true
  pub small_second : is_small r.id m.parts.head p ≡ true
  pub decided : DecidedBy form g known p (length types) n m

-- ---- the test

abbrev pub is_union : SetOperator → Bool
is_union UnionAll = true
is_union Union = true
is_union IntersectAll = false
is_union Intersect = false
is_union ExceptAll = false
is_union Except = false

-- two arms, each a plain select of 1 use, whose cells let p grow little
abbrev pub two_inputs : QueryGraph → Cond → OwnedQuant → List OwnedQuant → Bool
two_inputs g p r [] = false
two_inputs g p r (s ∷ []) = false
two_inputs g p r (s ∷ (t ∷ [])) = (is_input g s && is_input g t) && (is_small_into g p r.id s && is_small_into g p r.id t)
two_inputs g p r (s ∷ (t ∷ (v ∷ vs))) = false

abbrev pub arms_passes : QueryGraph → Cond → OwnedQuant → Node → Bool
arms_passes g p r c = of_set (λ form types. two_inputs g p r c.quants && (is_union form || decided g p c)) c.parts.kind

-- P3 may fire, where known is what is inferred of g
pub record MayIntoArms (at : Place) (g : QueryGraph) : Type 0 where
  pub known : Facts
  pub tells : Tells known g.boxes
  pub may : MayPush (IsSetOpUnder g known) at g

unfoldable pub MayPushIntoArms : Place → QueryGraph → Type 0
MayPushIntoArms at g = MayIntoArms at g

-- the places of P3 at b
unfoldable pub push_into_arms_pairs : QueryGraph → ℕ → List Pair
push_into_arms_pairs g b = push_pairs (arms_passes g) g b

-- the conjunct goes to the end of the conjuncts of both arms, with each arm's cells for the columns, and boxes that the root doesn't reach are gone; all else is as in g
pub record PushesIntoArms (at : Place) (g h : QueryGraph) : Type 0 where
  pub given : MayIntoArms at g
  pub after : h ≡ compact (with_conjuncts given.may.b (given.may.ps ++ given.may.qs)
      (put_conjunct given.may.fits.m (substituted_cond given.may.r.id given.may.fits.m.parts.head given.may.p)
      (put_conjunct given.may.fits.n (substituted_cond given.may.r.id given.may.fits.n.parts.head given.may.p) g)))

unfoldable pub ActsPushIntoArms : Place → QueryGraph → QueryGraph → Type 0
ActsPushIntoArms at g h = PushesIntoArms at g h

-- what is planned is to do so
abbrev pub PlansIntoArms : Place → QueryGraph → ArmsPlan → Type 0
PlansIntoArms at g x =
    (m : MayPush (IsSetOpUnder g (facts_in g.boxes)) at g)
    → x ≡ arms_plan m.b (length m.ps) m.fits.n (substituted_cond m.r.id m.fits.n.parts.head m.p) m.fits.m (substituted_cond m.r.id m.fits.m.parts.head m.p)
