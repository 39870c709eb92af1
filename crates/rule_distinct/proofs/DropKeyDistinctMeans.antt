-- L1: where as PRESERVE it has a key, the root's bag means the same.
use Rattle.std.proofs.Common.{ℕ, ◌≡◌, cond, true, false, List, [], ◌∷◌, map, None, refl, sym, ap, ap₂, subst, ◌∙◌, inl, inr}
use Rattle.std.specs.Prelude.{ℕ, ◌≡◌, true, false, List, [], ◌∷◌, map, None}
use Rattle.row_bag.specs.Bags.{Agree}
use Rattle.row_bag.specs.Keys.{HasKey}
use Rattle.row_bag.specs.Sets.{distinct, same_cells}
use Rattle.row_bag.specs.declared.tables.Table.{Table}
use Rattle.row_bag.proofs.Keying.{key-laws}
use Rattle.qgm_core.specs.Boxes.{QueryGraph, numbers}
use Rattle.qgm_core.specs.Edits.{on_boxes, set_distinct, with_distinct}
use Rattle.qgm_core.specs.Kinds.{is_F_or_S, is_permit}
use Rattle.list_laws.specs.Lists.{EachOnce, In}
use Rattle.qgm_core.specs.declared.kinds.Distinct.TheVariants.{Enforce, Preserve}
use Rattle.qgm_core.specs.declared.node.Node.{Node}
use Rattle.qgm_core.specs.declared.owned.OwnedQuant.{OwnedQuant}
use Rattle.qgm_wellformed.specs.WellFormed.{fault}
use Rattle.qgm_meaning.specs.Fits.{fits}
use Rattle.qgm_meaning.specs.Meaning.{bag_in, rows_of}
use Rattle.qgm_meaning.specs.Satisfies.{Satisfies}
use Rattle.qgm_meaning.specs.Values.{Environment}
use Rattle.qgm_edit_laws.specs.Adds.{at}
use Rattle.qgm_edit_laws.specs.Graph.{Sound}
use Rattle.qgm_edit_laws.proofs.Scope.{unfold-bag}
use Rattle.qgm_edit_laws.specs.PutsBox.{PutsBox}
use Rattle.qgm_edit_laws.proofs.PutsBox.{bases-put, once-put, cases, in-h, put-agrees, put-formed, put-sound}
use Rattle.qgm_edit_laws.proofs.CheckedParts.{shaped, sound, typed}
use Rattle.rule_api.specs.Rules.{Preserves}
use Rattle.rule_facts.proofs.Actions.{preserves-put}
use Rattle.rule_distinct.proofs.OtherDistinct.{PlainSelect, puts, raw, rows-of, rows-own, set-back, set-is}
use Rattle.list_laws.proofs.Membership.{eq-itself}

-- as PRESERVE, in that graph, it has a key in the environments that evaluation meets
pub record KeyedAsPreserve (g : QueryGraph) (o : Node) (columns : List ℕ) : Type 0 where
  pub enforced : o.parts.distinct ≡ Enforce
  pub key :
      (tables : List Table) → Satisfies tables (set_distinct o.id Preserve g).boxes → (e : Environment)
      → fits (bag_in tables (set_distinct o.id Preserve g).boxes) (set_distinct o.id Preserve g).boxes e ≡ true → HasKey columns (bag_in tables (set_distinct o.id Preserve g).boxes o.id e)

map-back : {X : Type 0} (f g : X → X) (xs : List X) → ((x : X) → In x xs → f (g x) ≡ x) → map f (map g xs) ≡ xs
map-back f g [] h = refl
map-back f g (x ∷ xs) h = ap₂ (λ y ys. y ∷ ys) (h x (inl refl)) (map-back f g xs (λ z i. h z (inr i)))

module _ (g : QueryGraph) (u : EachOnce (numbers g.boxes)) (k : fault g ≡ None) (o : Node) (p : PlainSelect g.boxes o) where
  abbrev bs : List Node
  bs = g.boxes

  w : Sound bs g.root
  w = sound g u k

  module _ (columns : List ℕ) (m : KeyedAsPreserve g o columns) where
    never : is_permit Preserve ≡ true → (o.id ≡ g.root → ⊥) × ((y : Node) (r : OwnedQuant) → In y bs → In r y.quants → r.over ≡ o.id → is_F_or_S r.kind ≡ false)
    never h = absurd (let z : ⊥ = cc in z)

    put : PutsBox bs g.root o (with_distinct Preserve)
    put = puts bs g.root w (typed g u k) (shaped g u k) o p Preserve never

    abbrev h : QueryGraph
    h = on_boxes (map (at o.id (with_distinct Preserve))) g

    abbrev o' : Node
    o' = with_distinct Preserve o

    here : In o' h.boxes
    here = in-h bs g.root w o (with_distinct Preserve) put

    uh : EachOnce (numbers h.boxes)
    uh = once-put g u k o (with_distinct Preserve) put

    kh : fault h ≡ None
    kh = put-formed g u k o (with_distinct Preserve) put

    v : Sound h.boxes g.root
    v = put-sound bs g.root w o (with_distinct Preserve) put

    p' : PlainSelect h.boxes o'
    p' = record { within = here; select = p.select; plain = p.plain }

    put' : PutsBox h.boxes g.root o' (with_distinct Enforce)
    put' = puts h.boxes g.root v (typed h uh kh) (shaped h uh kh) o' p' Enforce (λ t. absurd (let z : ⊥ = cc in z))

    back : map (at o'.id (with_distinct Enforce)) h.boxes ≡ bs
    back = map-back (at o.id (with_distinct Enforce)) (at o.id (with_distinct Preserve)) bs (λ y j. elim (cases bs g.root w o (with_distinct Preserve) put y j) [
      | inl e ↦ ap (at o.id (with_distinct Enforce)) e.1 ∙ ap (λ t. cond t (with_distinct Enforce o') o') (eq-itself o.id) ∙ ap (λ d. with_distinct d o) (sym m.enforced) ∙ sym e.0
      | inr e ↦ ap (at o.id (with_distinct Enforce)) e.1 ∙ ap (λ t. cond t (with_distinct Enforce y) y) e.0
    ])

    rows-agree : (tables : List Table) → Satisfies tables h.boxes → (env : Environment) → fits (bag_in tables h.boxes) h.boxes env ≡ true
        → Agree same_cells (rows_of tables (with_distinct Enforce o') (bag_in tables h.boxes) env) (rows_of tables o' (bag_in tables h.boxes) env)
    rows-agree tables s env fit =
        let F = bag_in tables h.boxes in
        let e1 = rows-of tables F o' p.select env Enforce in
        let e2 = rows-own tables F o' p.select env in
        let key : HasKey columns (F o.id env) =
        subst (λ (z : List Node). HasKey columns (bag_in tables z o.id env)) (set-is g u k o p Preserve)
        (m.key tables (subst (Satisfies tables) (sym (set-is g u k o p Preserve)) s) env (subst (λ (z : List Node). fits (bag_in tables z) z env ≡ true) (sym (set-is g u k o p Preserve)) fit)) in
        subst (λ z. Agree same_cells z (rows_of tables o' F env)) (sym e1)
        (subst (λ z. Agree same_cells (distinct same_cells (raw tables F o' p.select env)) z) (sym e2)
        (key-laws.distinct_goes columns (raw tables F o' p.select env) (subst (HasKey columns) (unfold-bag tables h.boxes o' v.ordered here env ∙ e2) key)))

    bases-h : (tables : List Table) → Satisfies tables bs → Satisfies tables h.boxes
    bases-h = bases-put g u k o (with_distinct Preserve) put

    pub key-preserves : Preserves g (set_distinct o.id Preserve g)
    key-preserves = set-back g u k o p Preserve (preserves-put g u k o (with_distinct Preserve) put (λ tables s. (
        let a : Agree same_cells (bag_in tables bs g.root []) (bag_in tables h.boxes g.root []) =
        subst (λ (z : List Node). Agree same_cells (bag_in tables z g.root []) (bag_in tables h.boxes g.root [])) back
        (put-agrees h.boxes g.root v o' (with_distinct Enforce) put' tables (rows-agree tables (bases-h tables s))) in
        record { counts = λ c l q. sym (a.counts c l q) })))
