-- Class magic closes a calm graph.
use Rattle.std.proofs.Common.{◌≡◌, true, List, [], sym, subst, ◌∙◌, inl, inr}
use Rattle.std.proofs.lemmas.Bool.{cases_Bool}
use Rattle.list_laws.specs.Lists.{EachOnce, In}
use Rattle.qgm_core.specs.Boxes.{QueryGraph, numbers}
use Rattle.qgm_core.specs.Free.{free_in}
use Rattle.qgm_core.specs.Walk.{walk}
use Rattle.qgm_core.specs.declared.node.Node.{Node}
use Rattle.qgm_wellformed.specs.Sentences.{WellFormed}
use Rattle.qgm_wellformed.proofs.Below.{free-free}
use Rattle.qgm_wellformed.proofs.Faults.{finds-none}
use Rattle.qgm_wellformed.proofs.Walks.{lists-reached}
use Rattle.qgm_edit_laws.specs.Graph.{Sound}
use Rattle.qgm_edit_laws.proofs.CheckedParts.{sound}
use Rattle.qgm_props.specs.Calm.{calm, is_closed}
use Rattle.qgm_props.specs.Inferred.{Facts}
use Rattle.qgm_props.specs.Laws.{Tells}
use Rattle.rule_plan.specs.declared.classes.Class.TheVariants.{Magic}
use Rattle.rule_plan.specs.declared.plan.Plan.{Plan}
use Rattle.rule_api.specs.declared.place.Firing.{Firing}
use Rattle.rule_engine.specs.Control.{candidates}
use Rattle.rule_engine.proofs.Chosen.{candidates-exact}
use Rattle.rule_engine.proofs.Enabled.{enabled-exact}
use Rattle.rule_feed.specs.Knowing.{facts-are}
use Rattle.rule_magic.specs.AbsorbExact.{inferred-told}
use Rattle.rule_magic.specs.Feeding.{inferred_facts}
use Rattle.rule_magic.proofs.CalmFires.{calm-fires}
use Rattle.rule_set.specs.Built.{built_exact, built_pairs}
use Rattle.rule_calm.specs.CalmCloses.{AllClosed, CalmCloses, CalmRewritesClose, IsCalm}
use Rattle.rule_calm.proofs.MagicPlaces.{magic-has, some-held}

-- facts that are told are those that are inferred
same-facts : (bs : List Node) (known : Facts) → Tells known bs → known ≡ inferred_facts bs
same-facts bs known tells = facts-are bs known tells ∙ sym (facts-are bs (inferred_facts bs) (inferred-told bs))

module _ (plan : Plan) (g : QueryGraph) (enables : In Magic plan.classes) (once : EachOnce (numbers g.boxes)) (wf : WellFormed g) (c : IsCalm g) (none : candidates built_pairs plan g ≡ []) where
  w : Sound g.boxes g.root
  w = sound g once ((finds-none g once).1 wf)

  calm-inferred : calm g.boxes (inferred_facts g.boxes) g.root ≡ true
  calm-inferred = subst (λ (k : Facts). calm g.boxes k g.root ≡ true) (same-facts g.boxes c.known c.tells) c.calm

  closes : AllClosed g
  closes n i r = elim (cases_Bool (is_closed g.boxes n.id)) [
    | inl e ↦ e
    | inr o ↦ absurd (
        let q = some-held (free_in g.boxes n.id) o in
        let b = calm-fires g once wf (inferred_facts g.boxes) (inferred-told g.boxes) calm-inferred c.few n i (q.0, (free-free g.boxes w.ordered n.id q.0).0 q.1) in
        let p = magic-has g once wf b.0 b.1.0 in
        let f : Firing = record { rule = p.0; place = record { at = b.0.id; i = p.1.1.0; j = p.1.1.1.0 } } in
        let walked : In b.0.id (walk plan.walk g) = (lists-reached plan.walk g w.ordered w.rooted b.0.id).1 (b.1.1 r) in
        let there : In f (candidates built_pairs plan g) = (candidates-exact built_pairs plan g f).1 ((enabled-exact plan.classes p.0).1 (Magic, (enables, p.1.0)), walked, (built_exact p.0 g b.0.id p.1.1.0 p.1.1.1.0 once wf).1 p.1.1.1.1) in
        nothing f (subst (λ (z : List Firing). In f z) none there))
  ]
    where
      nothing : (f : Firing) → In f [] → ⊥
      nothing f i = elim i [ ]

pub calm-closes : CalmCloses
calm-closes = λ plan g enables once wf c none. closes plan g enables once wf c none

pub calm-rewrites-close : CalmRewritesClose
calm-rewrites-close = λ plan g h fs enables traces less once wf c. closes plan h enables once wf c (traces.ends less)
