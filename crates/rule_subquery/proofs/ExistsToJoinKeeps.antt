-- U1 preserves where it may fire.
use Rattle.std.proofs.Common.{◌==◌, ◌≡◌, ◌≤◌, true, false, List, ◌∷◌, None, refl, sym, ap, subst, ◌∙◌, eqb-true, inl, inr, arith}
use Rattle.std.proofs.lemmas.Bool.{cases_Bool}
use Rattle.row_bag.specs.AsSets.{is_clean}
use Rattle.row_bag.specs.Joins.{how_many}
use Rattle.row_bag.specs.Keys.{HasKey}
use Rattle.row_bag.specs.declared.tables.Table.{Table}
use Rattle.qgm_terms.specs.Terms.{Cond}
use Rattle.qgm_core.specs.Boxes.{QueryGraph, numbers, width}
use Rattle.qgm_core.specs.Edits.{compact, on_box}
use Rattle.list_laws.specs.Lists.{EachOnce, In}
use Rattle.qgm_core.specs.declared.kinds.BoxKind.TheVariants.{Select}
use Rattle.qgm_core.specs.declared.kinds.Distinct.{Distinct}
use Rattle.qgm_core.specs.declared.kinds.Distinct.TheVariants.{Permit}
use Rattle.qgm_core.specs.declared.node.Node.{Node}
use Rattle.qgm_core.specs.declared.owned.OwnedQuant.{OwnedQuant}
use Rattle.qgm_wellformed.specs.WellFormed.{fault}
use Rattle.qgm_wellformed.proofs.Faults.{finds-none}
use Rattle.qgm_meaning.specs.Exists.{each_box, some_box}
use Rattle.qgm_meaning.specs.Fits.{fits}
use Rattle.qgm_meaning.specs.Meaning.{Family, bag_in, quant_rows, rows_by, rows_of}
use Rattle.qgm_meaning.specs.Satisfies.{Satisfies}
use Rattle.qgm_meaning.specs.Values.{Environment, bound}
use Rattle.qgm_props.specs.Inferred.{Inferred, clean}
use Rattle.qgm_props.specs.InferredKeys.{places_to}
use Rattle.qgm_props.specs.Laws.{FactsThere}
use Rattle.qgm_props.proofs.FactsFit.{joined-fits}
use Rattle.qgm_edit_laws.specs.Graph.{Sound}
use Rattle.qgm_edit_laws.specs.Placed.{place}
use Rattle.qgm_edit_laws.proofs.Ranks.{place-under}
use Rattle.qgm_edit_laws.specs.PermitToPreserve.{PermitToPreserveKeeps, permit_to_preserve}
use Rattle.qgm_edit_laws.proofs.CheckedParts.{sound}
use Rattle.qgm_edit_laws.proofs.PermitToPreserve.{permit-to-preserve}
use Rattle.rule_api.specs.Rules.{Preserves}
use Rattle.rule_api.proofs.Chained.{preserves-chained}
use Rattle.rule_facts.proofs.Premises.{premises}
use Rattle.rule_facts.specs.Places.{ActionPreserves}
use Rattle.rule_facts.proofs.FactsThere.{there, here-at}
use Rattle.rule_facts.proofs.Actions.{finish, permit-to-preserve-preserves}
use Rattle.rule_subquery.proofs.ExistsToJoinSound.{Existing}
use Rattle.rule_subquery.proofs.ExistsToJoinMeans.{JoinsAs, exists-preserves}
use Rattle.rule_subquery.specs.ExistsToJoin.{joined_box, ExistsFits, HasExists, exists_joined, MayExistsToJoin, JoinsExists}
use Rattle.rule_subquery.proofs.ExistsToJoinRows.{not-read, o-is, rows-joined}
use Rattle.rule_subquery.specs.ExistsToJoin as condition
use Rattle.rule_subquery.proofs.ExistsToJoinMeans as asked
use Rattle.list_laws.proofs.Membership.{in-right}

module _ (g : QueryGraph) (u : EachOnce (numbers g.boxes)) (f : fault g ≡ None) (b : Node) (us : List OwnedQuant) (r : OwnedQuant) (vs : List OwnedQuant) (xs : List Cond) (c : Cond) (ys : List Cond)
    (here : In b g.boxes) (m : HasExists b us r vs xs c ys) where
  abbrev pub g1 : QueryGraph
  g1 = permit_to_preserve r.over g

  w0 : Sound g.boxes g.root
  w0 = sound g u f

  pub k : PermitToPreserveKeeps r.over g
  k = permit-to-preserve g u f r.over

  pub f1 : fault g1 ≡ None
  f1 = k.formed

  in-r : In r b.quants
  in-r = subst (λ z. In r z) (sym m.split) (in-right r us (r ∷ vs) (inl refl))

  pub apart : (b.id == r.over) ≡ false
  apart = elim (cases_Bool (b.id == r.over)) [
    | inr n ↦ n
    | inl t ↦ absurd (let less = place-under g.boxes b r w0.ordered here in-r in let same : place g.boxes b.id ≡ place g.boxes r.over = ap (place g.boxes) (eqb-true b.id r.over t) in omega arith)
  ]

  pub here1 : In b g1.boxes
  here1 = k.others b here apart

  w1 : Sound g1.boxes g1.root
  w1 = sound g1 k.once f1

  existing : Existing g1.boxes b us r vs xs c ys
  existing = record {
    within = here1;
    is = m;
    seen = k.not_permit;
  }

  -- what held of the graph before holds
  facts1 : (tables : List Table) → Satisfies tables g1.boxes → (env : Environment) → fits (bag_in tables g1.boxes) g1.boxes env ≡ true → FactsThere tables g.boxes env
  facts1 tables s env fit = there g u f tables (k.back tables s) env (fit0 tables env fit)
    where
      fit0 : (tables : List Table) (env : Environment) → fits (bag_in tables g1.boxes) g1.boxes env ≡ true → fits (bag_in tables g.boxes) g.boxes env ≡ true
      fit0 tables env fit = sym (k.fits tables env) ∙ ap (λ z. fits z g1.boxes env) (sym (k.bag tables)) ∙ fit

  fit1 : (tables : List Table) (env : Environment) → fits (bag_in tables g1.boxes) g1.boxes env ≡ true → fits (bag_in tables g.boxes) g.boxes env ≡ true
  fit1 tables env fit = sym (k.fits tables env) ∙ ap (λ z. fits z g1.boxes env) (sym (k.bag tables)) ∙ fit

  abbrev N : Node
  N = some_box b.id b.parts b.parts.distinct us r.id r.over vs xs c ys b.parts.head

  -- the rows after it are clean where it was inferred so
  clean-after : Inferred g.boxes (clean b.id) → (tables : List Table) → Satisfies tables g1.boxes → (env : Environment) → fits (bag_in tables g1.boxes) g1.boxes env ≡ true → is_clean (rows_of tables (joined_box Permit us r vs xs c ys b) (bag_in tables g1.boxes) env) ≡ true
  clean-after sure tables s env fit =
      ap is_clean (rows-joined g1.boxes g1.root w1 b us r vs xs c ys existing tables Permit env)
      ∙ ap (λ (z : Family). is_clean (rows_by Select tables (each_box b.id b.parts Permit us r.id r.over vs xs c ys b.parts.head) (quant_rows N z) env)) (k.bag tables)
      ∙ joined-fits tables g.boxes (premises g.boxes g.root w0 tables (k.back tables s)) b.id b.parts b.parts.distinct us r.id r.over vs xs c ys b.parts.head
      (subst (λ z. In z g.boxes) (o-is g1.boxes g1.root w1 b us r vs xs c ys existing tables) here) sure
      (λ q cells e. subst (λ (z : Family). quant_rows N z q (bound r.id cells e) ≡ quant_rows N z q e) (k.bag tables) ((not-read g1.boxes g1.root w1 b us r vs xs c ys existing tables).below q cells e))
      Permit env (fit1 tables env fit)

  joins : (d : Distinct) → ExistsFits g b r d → JoinsAs g1.boxes b us r vs xs c ys d
  joins d (condition.enforced h n) = asked.enforced h n
  joins d (condition.permitted h sure n) =
      asked.permitted h n (λ tables s env fit. ap (λ (z : Family). is_clean (z b.id env)) (k.bag tables) ∙ (facts1 tables s env fit).clean b.id sure) (clean-after sure)
  joins d (condition.of_one one n) = asked.of_one n (λ tables s env fit. subst (λ (z : Family). how_many (z r.over env) ≤ 1) (sym (k.bag tables)) ((facts1 tables s env fit).at_most_one r.over one))
  joins d (condition.keyed a e o key n) = asked.keyed n (places_to (width b)) (λ tables s env fit. subst (λ (z : Family). HasKey (places_to (width b)) (z b.id env)) (sym (k.bag tables)) ((facts1 tables s env fit).keys b.id (places_to (width b)) key))

  pub exists-joined-keeps : (d : Distinct) → ExistsFits g b r d → Preserves g (exists_joined g b us r vs xs c ys d)
  exists-joined-keeps d fit =
      preserves-chained g g1 (compact (on_box b.id (joined_box d us r vs xs c ys) g1)) (permit-to-preserve-preserves g r.over k)
      (finish g1 k.once f1 b.id (joined_box d us r vs xs c ys) (λ y. refl) (exists-preserves g1 k.once f1 b us r vs xs c ys existing d (joins d fit)))

pub exists-to-join-preserves : ActionPreserves MayExistsToJoin JoinsExists
unfolding JoinsExists
exists-to-join-preserves g h u w p may e =
    let b = e.0 in
    let t = e.1.1.1.1.1.1.1.1 in
    let f = (finds-none g u).1 w in
    subst (λ (z : QueryGraph). Preserves g z) (sym t.1)
    (exists-joined-keeps g u f b e.1.0 e.1.1.0 e.1.1.1.0 e.1.1.1.1.0 e.1.1.1.1.1.0 e.1.1.1.1.1.1.0 (here-at g u f b p.at t.0.at) t.0.existing e.1.1.1.1.1.1.1.0 t.0.fits)
