-- U1: where rows are as is asked, the root's bag means the same.
use Rattle.std.proofs.Common.{ℕ, ◌==◌, ◌≡◌, ◌≤◌, true, false, List, map, None, refl, sym, ap, subst, inl, inr, eqb-true}
use Rattle.std.proofs.lemmas.Bool.{cases_Bool}
use Rattle.std.specs.Prelude.{ℕ, ◌≡◌, ◌≤◌, true, false, List, map, None}
use Rattle.row_bag.specs.AsSets.{is_clean}
use Rattle.row_bag.specs.Bags.{Agree}
use Rattle.row_bag.specs.Joins.{how_many}
use Rattle.row_bag.specs.Keys.{HasKey}
use Rattle.row_bag.specs.Sets.{same_cells}
use Rattle.row_bag.specs.declared.tables.Table.{Table}
use Rattle.qgm_terms.specs.Terms.{Cond}
use Rattle.qgm_core.specs.Boxes.{QueryGraph, numbers}
use Rattle.qgm_core.specs.Edits.{on_boxes}
use Rattle.qgm_core.specs.Kinds.{is_permit}
use Rattle.list_laws.specs.Lists.{EachOnce, In}
use Rattle.qgm_core.specs.declared.kinds.Distinct.{Distinct}
use Rattle.qgm_core.specs.declared.kinds.Distinct.TheVariants.{Enforce, Permit}
use Rattle.qgm_core.specs.declared.node.Node.{Node}
use Rattle.qgm_core.specs.declared.owned.OwnedQuant.{OwnedQuant}
use Rattle.qgm_wellformed.specs.WellFormed.{fault}
use Rattle.qgm_meaning.specs.AsSets.{ReadsSets}
use Rattle.qgm_meaning.specs.Fits.{fits}
use Rattle.qgm_meaning.specs.Meaning.{bag_in, rows_of}
use Rattle.qgm_meaning.specs.Satisfies.{Satisfies}
use Rattle.qgm_meaning.specs.Values.{Environment}
use Rattle.qgm_edit_laws.specs.Adds.{at}
use Rattle.qgm_edit_laws.specs.Graph.{Sound}
use Rattle.qgm_edit_laws.specs.Shaped.{Shaped}
use Rattle.qgm_edit_laws.proofs.PermitRead.{permit-read}
use Rattle.qgm_edit_laws.proofs.Ranks.{same-box}
use Rattle.qgm_edit_laws.specs.PutsBox.{PutsBox}
use Rattle.qgm_edit_laws.proofs.PutsBox.{once-put, in-h, put-agrees, put-agrees-as-set, put-formed, put-sound}
use Rattle.qgm_edit_laws.proofs.CheckedParts.{shaped, sound, typed}
use Rattle.rule_api.specs.Rules.{Preserves}
use Rattle.rule_facts.proofs.Actions.{preserves-put}
use Rattle.rule_subquery.proofs.ExistsToJoinSound.{Existing, puts}
use Rattle.rule_subquery.specs.ExistsToJoin.{joined_box}
use Rattle.rule_subquery.proofs.ExistsToJoinRows.{when-enforced, when-keyed, when-one, when-permitted}

-- why it may join, and what o becomes
pub data JoinsAs (bs : List Node) (o : Node) (us : List OwnedQuant) (r : OwnedQuant) (vs : List OwnedQuant) (xs : List Cond) (c : Cond) (ys : List Cond) (d : Distinct) : Type 0 where
  enforced : o.parts.distinct ≡ Enforce → d ≡ Enforce → JoinsAs bs o us r vs xs c ys d
  of_one : d ≡ o.parts.distinct → ((tables : List Table) → Satisfies tables bs → (e : Environment) → fits (bag_in tables bs) bs e ≡ true → how_many (bag_in tables bs r.over e) ≤ 1) → JoinsAs bs o us r vs xs c ys d
  keyed : d ≡ Enforce → (columns : List ℕ) → ((tables : List Table) → Satisfies tables bs → (e : Environment) → fits (bag_in tables bs) bs e ≡ true → HasKey columns (bag_in tables bs o.id e)) → JoinsAs bs o us r vs xs c ys d
  permitted : o.parts.distinct ≡ Permit → d ≡ Permit
      → ((tables : List Table) → Satisfies tables bs → (e : Environment) → fits (bag_in tables bs) bs e ≡ true → is_clean (bag_in tables bs o.id e) ≡ true)
      → ((tables : List Table) → Satisfies tables bs → (e : Environment) → fits (bag_in tables bs) bs e ≡ true → is_clean (rows_of tables (joined_box Permit us r vs xs c ys o) (bag_in tables bs) e) ≡ true)
      → JoinsAs bs o us r vs xs c ys d

module _ (g : QueryGraph) (u : EachOnce (numbers g.boxes)) (k : fault g ≡ None) (o : Node) (us : List OwnedQuant) (r : OwnedQuant) (vs : List OwnedQuant) (xs : List Cond) (c : Cond) (ys : List Cond) (e : Existing g.boxes o us r vs xs c ys) where
  abbrev bs : List Node
  bs = g.boxes

  w : Sound bs g.root
  w = sound g u k

  Goal : Distinct → Type 0
  Goal d = Preserves g (on_boxes (map (at o.id (joined_box d us r vs xs c ys))) g)

  abbrev Same : Distinct → Type 0
  Same d = (tables : List Table) → Satisfies tables bs → (env : Environment) → fits (bag_in tables bs) bs env ≡ true
      → Agree same_cells (rows_of tables (joined_box d us r vs xs c ys o) (bag_in tables bs) env) (rows_of tables o (bag_in tables bs) env)

  -- it is PERMIT only where o is
  put : (d : Distinct) → (is_permit d ≡ true → is_permit o.parts.distinct ≡ true) → PutsBox bs g.root o (joined_box d us r vs xs c ys)
  put d may = puts bs g.root w (typed g u k) (shaped g u k) o us r vs xs c ys d e may

  from-same : (d : Distinct) → (is_permit d ≡ true → is_permit o.parts.distinct ≡ true) → Same d → Preserves g (on_boxes (map (at o.id (joined_box d us r vs xs c ys))) g)
  from-same d may same = preserves-put g u k o (joined_box d us r vs xs c ys) (put d may) (λ tables s. put-agrees bs g.root w o (joined_box d us r vs xs c ys) (put d may) tables (same tables s))

  not-enforced : is_permit Enforce ≡ true → is_permit o.parts.distinct ≡ true
  not-enforced h = absurd (let z : ⊥ = cc in z)

  as-permit : o.parts.distinct ≡ Permit
      → ((tables : List Table) → Satisfies tables bs → (env : Environment) → fits (bag_in tables bs) bs env ≡ true → is_clean (bag_in tables bs o.id env) ≡ true)
      → ((tables : List Table) → Satisfies tables bs → (env : Environment) → fits (bag_in tables bs) bs env ≡ true → is_clean (rows_of tables (joined_box Permit us r vs xs c ys o) (bag_in tables bs) env) ≡ true)
      → Preserves g (on_boxes (map (at o.id (joined_box Permit us r vs xs c ys))) g)
  as-permit h cn cm = preserves-put g u k o f m (λ tables s. put-agrees-as-set bs g.root w o f m tables away (λ y j. reads-old y j) reads-new
      (λ env fit. when-permitted bs g.root w o us r vs xs c ys e tables h env (cn tables s env fit) (cm tables s env fit)))
    where
      f : Node → Node
      f = joined_box Permit us r vs xs c ys

      is : is_permit o.parts.distinct ≡ true
      is = ap is_permit h

      m : PutsBox bs g.root o f
      m = put Permit (λ t. is)

      away : (g.root == o.id) ≡ false
      away = elim (cases_Bool (g.root == o.id)) [ inr f ↦ f | inl t ↦ absurd (((shaped g u k).unseen o e.within is).0 (sym (eqb-true g.root o.id t))) ]

      reads-old : (y : Node) → In y bs → ReadsSets (λ x. x == o.id) y
      reads-old y j = permit-read bs g.root w (shaped g u k) y j (λ x. x == o.id) (λ z i t. subst (λ (v : Node). is_permit v.parts.distinct ≡ true) (same-box bs o z w.ordered e.within i (sym (eqb-true z.id o.id t))) is)

      after : QueryGraph
      after = on_boxes (map (at o.id f)) g

      sh : Shaped after.boxes g.root
      sh = shaped after (once-put g u k o f m) (put-formed g u k o f m)

      v : Sound after.boxes g.root
      v = put-sound bs g.root w o f m

      here : In (f o) after.boxes
      here = in-h bs g.root w o f m

      reads-new : ReadsSets (λ x. x == o.id) (f o)
      reads-new = permit-read after.boxes g.root v sh (f o) here (λ x. x == o.id) (λ z i t. subst (λ (x : Node). is_permit x.parts.distinct ≡ true) (same-box after.boxes (f o) z v.ordered here i (sym (eqb-true z.id o.id t))) refl)

  pub exists-preserves : (d : Distinct) → JoinsAs bs o us r vs xs c ys d → Preserves g (on_boxes (map (at o.id (joined_box d us r vs xs c ys))) g)
  exists-preserves d (enforced h n) = subst (λ d. Preserves g (on_boxes (map (at o.id (joined_box d us r vs xs c ys))) g)) (sym n) (from-same Enforce not-enforced (λ tables s env fit. when-enforced bs g.root w o us r vs xs c ys e tables h env))
  exists-preserves d (of_one n one) = subst (λ d. Preserves g (on_boxes (map (at o.id (joined_box d us r vs xs c ys))) g)) (sym n) (from-same o.parts.distinct (λ t. t) (λ tables s env fit. when-one bs g.root w o us r vs xs c ys e tables (one tables s) env fit))
  exists-preserves d (keyed n columns key) = subst (λ d. Preserves g (on_boxes (map (at o.id (joined_box d us r vs xs c ys))) g)) (sym n) (from-same Enforce not-enforced (λ tables s env fit. when-keyed bs g.root w o us r vs xs c ys e tables columns (key tables s) env fit))
  exists-preserves d (permitted h n cn cm) = subst (λ d. Preserves g (on_boxes (map (at o.id (joined_box d us r vs xs c ys))) g)) (sym n) (as-permit h cn cm)
