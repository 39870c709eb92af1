-- The types of a fed box are those of the boxes under it.
use Rattle.std.proofs.Common.{◌≡◌, ◌&&◌, ◌++◌, true, List, [], ◌∷◌, map, Option, None, Some, refl, sym, ap, ap₂, ◌∙◌}
use Rattle.std.specs.List.{list_all}
use Rattle.std.proofs.lemmas.Bool.{and_parts}
use Rattle.sql_value.specs.declared.order_key.SqlType.{SqlType}
use Rattle.qgm_core.specs.Boxes.{QueryGraph, numbers, width}
use Rattle.list_laws.specs.Lists.{EachOnce}
use Rattle.qgm_core.specs.declared.kinds.BoxKind.TheVariants.{SetOp}
use Rattle.qgm_core.specs.declared.kinds.SetOperator.{SetOperator}
use Rattle.qgm_core.specs.declared.node.Node.{Node}
use Rattle.qgm_edit_laws.specs.Graph.{Sound}
use Rattle.qgm_edit_laws.specs.Reforms.{types_at}
use Rattle.qgm_edit_laws.specs.Shaped.{Typed}
use Rattle.qgm_edit_laws.proofs.Follow.{settled-types}
use Rattle.qgm_edit_laws.proofs.TypesBy.{agrees-as, arms_by}
use Rattle.qgm_meaning.specs.Tags.{columns_from}
use Rattle.qgm_props.specs.Inferred.{Facts}
use Rattle.qgm_props.specs.Laws.{Tells}
use Rattle.qgm_terms.specs.Terms.{Term}
use Rattle.qgm_wellformed.specs.Sentences.{WellFormed}
use Rattle.qgm_wellformed.specs.Types.{Lookup, cond_fits, is_known, lookup_of, term_type, types_by}
use Rattle.qgm_wellformed.specs.Types as types
use Rattle.rule_magic.specs.AbsorbSetSteps.{known_types, put_known}
use Rattle.rule_magic.specs.Places.{MayAbsorb}
use Rattle.rule_magic.proofs.AbsorbFacts as fed
use Rattle.rule_magic.proofs.AbsorbSelectFormed as made
use Rattle.rule_magic.proofs.AbsorbSelectFormed.{map-append}
use Rattle.rule_magic.proofs.TypesUnder.{types-under}

-- where all types are known, these are all
all-known : (at : Lookup) (xs : List Term) → list_all (λ x. is_known (term_type at x)) xs ≡ true → types.known (known_types at xs) ≡ map (term_type at) xs
all-known at [] h = refl
all-known at (x ∷ xs) h = let a = and_parts (is_known (term_type at x)) (list_all (λ x. is_known (term_type at x)) xs) h in by (term_type at x) a.0 ∙ ap (λ (z : List (Option SqlType)). term_type at x ∷ z) (all-known at xs a.1)
  where
    by : (t : Option SqlType) → is_known t ≡ true → types.known (put_known t (known_types at xs)) ≡ t ∷ types.known (known_types at xs)
    by None h = absurd (let z : ⊥ = cc in z)
    by (Some t) h = refl

module _ (g : QueryGraph) (once : EachOnce (numbers g.boxes)) (wf : WellFormed g) (known : Facts) (tells : Tells known g.boxes) (d : Node) (may : MayAbsorb g.boxes known d) where
  abbrev m : Node
  m = may.m

  abbrev c : Node
  c = may.c

  abbrev L : Lookup
  L = lookup_of g.boxes

  w : Sound g.boxes g.root
  w = made.w g once wf known tells d may

  pub types-d : map (term_type L) d.parts.head ≡ types_at g.boxes m.id ++ types_at g.boxes c.id
  types-d =
      ap (map (term_type L)) (fed.head-is g once wf known tells d may)
      ∙ map-append (term_type L) (columns_from may.a.id 1 (width m)) (columns_from may.r.id 1 (width c))
      ∙ ap₂ (λ (v z : List (Option SqlType)). v ++ z) (types-under g.boxes g.root w d m may.a may.in_d (made.in-a g once wf known tells d may) may.in_m may.over_m)
      (types-under g.boxes g.root w d c may.r may.in_d (made.in-r g once wf known tells d may) may.in_c may.over_c)

  -- over a set operation they are those of the magic box before its own
  pub set-types : (form : SetOperator) (ts : List SqlType) → c.parts.kind ≡ SetOp form ts → types.known (known_types L d.parts.head) ≡ types_at g.boxes m.id ++ types.known ts
  set-types form ts kind =
      all-known L d.parts.head (and_parts (list_all (λ t. is_known (term_type L t)) d.parts.head) (list_all (cond_fits L) d.parts.conds.items && arms_by (types_at g.boxes) d.parts.kind d.quants) (sym (agrees-as g.boxes d) ∙ ty d may.in_d)).0
      ∙ types-d ∙ ap (λ (z : List (Option SqlType)). types_at g.boxes m.id ++ z) (settled-types g.boxes g.root w c may.in_c ∙ ap (λ z. types_by L z c.parts.head) kind)
    where
      ty : Typed g.boxes
      ty = made.ty g once wf known tells d may
