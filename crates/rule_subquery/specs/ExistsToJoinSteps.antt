-- The steps of U1's action.
use Rattle.std.specs.Prelude.{ℕ, ◌==◌, ◌≡◌, Bool, List, [], ◌∷◌, Option, Some, None, if◌then◌else◌, length}
use Rattle.std.specs.List.{flat_map}
use Rattle.qgm_core.specs.Boxes.{QueryGraph, box_of, quants_of}
use Rattle.qgm_core.specs.Edits.{drop_quant, keep, move_quant, put_quant, put_terms, set_distinct}
use Rattle.qgm_core.specs.Free.{reached}
use Rattle.qgm_core.specs.declared.kinds.Distinct.TheVariants.{Preserve}
use Rattle.qgm_core.specs.declared.kinds.QuantKind.TheVariants.{F}
use Rattle.qgm_core.specs.declared.node.Node.{Node}
use Rattle.qgm_core.specs.declared.owned.OwnedQuant.{OwnedQuant}
use Rattle.qgm_edit_laws.specs.ConjunctsOf.{conjuncts}
use Rattle.qgm_edit_laws.specs.PermitToPreserve.{permit_found}
use Rattle.qgm_terms.specs.Terms.{Cond, some}
use Rattle.qgm_terms.specs.Terms as terms
use Rattle.rule_api.specs.declared.place.Place.{Place}
use Rattle.rule_subquery.specs.ExistsToJoin.{MayExistsToJoinAt, distinct_after}
use Rattle.qgm_core.specs.declared.kinds.Distinct.{Distinct}
use Rattle.rule_subquery.specs.declared.exists_to_join.action.ExistsPlan.{ExistsPlan}

-- ---- conjuncts

abbrev pub some_if : Bool → Cond → Option Cond
some_if wanted c = if wanted then Some c else None

-- c, where the condition is `some q c`
abbrev pub inner_of : ℕ → Cond → Option Cond
inner_of q terms.always = None
inner_of q (terms.compare sign x y) = None
inner_of q (terms.is_null x) = None
inner_of q (terms.and c d) = None
inner_of q (terms.or c d) = None
inner_of q (terms.not c) = None
inner_of q (some r c) = if r == q then Some c else None
inner_of q (terms.every r c) = None

-- the conjuncts of c in the place of a conjunct `some q c`
abbrev pub parts_of : Option Cond → Cond → List Cond
parts_of None x = x ∷ []
parts_of (Some c) x = conjuncts c

abbrev pub joined_conds : ℕ → List Cond → List Cond
joined_conds q xs = flat_map (λ x. parts_of (inner_of q x) x) xs

-- ---- steps

-- what b gets, where r ranges over box c
abbrev pub exists_plan : QueryGraph → Node → OwnedQuant → ExistsPlan
exists_plan g b r = record {
  b = b.id;
  q = r.id;
  c = r.over;
  is_permit = permit_found (box_of r.over g);
  distinct = distinct_after g.boxes b r;
  conds = record b.parts.conds { items = joined_conds r.id b.parts.conds.items };
  head = b.parts.head;
}

-- q goes behind the others and is an F, and b has other conjuncts and its distinctness
abbrev pub exists_edits : ExistsPlan → QueryGraph → QueryGraph
exists_edits m g = set_distinct m.b m.distinct (put_terms m.b m.conds m.head (put_quant m.q F (move_quant m.q m.b (length (quants_of m.b (drop_quant m.q g))) g)))

-- c is PRESERVE where it was PERMIT, and those boxes stay that the root reached before
abbrev pub exists_steps : ExistsPlan → QueryGraph → QueryGraph
exists_steps m g = keep (reached (g.root ∷ []) g.boxes) (if m.is_permit then set_distinct m.c Preserve (exists_edits m g) else exists_edits m g)

-- what is planned is to do so
abbrev pub ExistsPlansAt : Place → QueryGraph → ExistsPlan → Type 0
ExistsPlansAt p g m = (b : Node) (us : List OwnedQuant) (r : OwnedQuant) (vs : List OwnedQuant) (xs : List Cond) (c : Cond) (ys : List Cond) (d : Distinct) → MayExistsToJoinAt p g b us r vs xs c ys d → m ≡ exists_plan g b r
