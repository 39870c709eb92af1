-- L2: where it is read as a set and clean, the root's bag means the same.
use Rattle.std.proofs.Common.{ℕ, ◌==◌, ◌≡◌, Bool, true, false, List, map, None, refl, sym, ap, subst, ◌∙◌, eqb-true, inl, inr}
use Rattle.std.proofs.lemmas.Bool.{cases_Bool}
use Rattle.std.specs.Prelude.{ℕ, ◌≡◌, true, false, List, map, None}
use Rattle.row_bag.specs.AsSets.{AgreeAsSets, is_clean}
use Rattle.row_bag.specs.Sets.{same_cells}
use Rattle.row_bag.specs.declared.tables.Table.{Table}
use Rattle.row_bag.proofs.Agreement.{alike-refl}
use Rattle.row_bag.proofs.Setting.{set-agreement, sets-from_alike, sets-sym}
use Rattle.row_bag.proofs.TupleBags.{same_cells-decides}
use Rattle.qgm_core.specs.Boxes.{QueryGraph, numbers}
use Rattle.qgm_core.specs.Edits.{on_boxes, set_distinct, with_distinct}
use Rattle.qgm_core.specs.Kinds.{is_F_or_S, is_enforce, is_permit}
use Rattle.list_laws.specs.Lists.{EachOnce, In}
use Rattle.qgm_core.specs.declared.kinds.Distinct.TheVariants.{Permit}
use Rattle.qgm_core.specs.declared.node.Node.{Node}
use Rattle.qgm_core.specs.declared.owned.OwnedQuant.{OwnedQuant}
use Rattle.qgm_wellformed.specs.WellFormed.{fault}
use Rattle.qgm_meaning.specs.AsSets.{ReadsSets, ReadsSetsBy, SelectReadsSets}
use Rattle.qgm_meaning.specs.Fits.{fits}
use Rattle.qgm_meaning.specs.Meaning.{bag_in, once_if, rows_of}
use Rattle.qgm_meaning.specs.Satisfies.{Satisfies}
use Rattle.qgm_meaning.specs.Values.{Bag, Environment}
use Rattle.qgm_edit_laws.specs.Adds.{at}
use Rattle.qgm_edit_laws.specs.Graph.{Sound}
use Rattle.qgm_edit_laws.specs.Shaped.{Shaped}
use Rattle.qgm_edit_laws.proofs.PermitRead.{permit-read}
use Rattle.qgm_edit_laws.proofs.Ranks.{same-box}
use Rattle.qgm_edit_laws.specs.PutsBox.{PutsBox}
use Rattle.qgm_edit_laws.proofs.PutsBox.{once-put, cases, in-h, put-agrees-as-set, put-formed, put-sound}
use Rattle.qgm_edit_laws.proofs.CheckedParts.{shaped, sound, typed}
use Rattle.rule_api.specs.Rules.{Preserves}
use Rattle.rule_facts.proofs.Actions.{preserves-put}
use Rattle.rule_distinct.proofs.OtherDistinct.{PlainSelect, puts, raw, rows-of, rows-own, set-back}
use Rattle.list_laws.proofs.Membership.{map-in}

-- it isn't the root, E and A quantifiers alone range over it, and it is clean without DISTINCT in the environments that evaluation meets
pub record ReadAsSet (g : QueryGraph) (o : Node) : Type 0 where
  pub not_root : o.id ≡ g.root → ⊥
  pub unseen : (y : Node) (r : OwnedQuant) → In y g.boxes → In r y.quants → r.over ≡ o.id → is_F_or_S r.kind ≡ false
  pub clean : (tables : List Table) → Satisfies tables g.boxes → (e : Environment) → fits (bag_in tables g.boxes) g.boxes e ≡ true → is_clean (rows_of tables (with_distinct Permit o) (bag_in tables g.boxes) e) ≡ true

module _ (g : QueryGraph) (u : EachOnce (numbers g.boxes)) (k : fault g ≡ None) (o : Node) (p : PlainSelect g.boxes o) where
  abbrev bs : List Node
  bs = g.boxes

  w : Sound bs g.root
  w = sound g u k

  module _ (m : ReadAsSet g o) where
    put2 : PutsBox bs g.root o (with_distinct Permit)
    put2 = puts bs g.root w (typed g u k) (shaped g u k) o p Permit (λ t. (m.not_root, m.unseen))

    abbrev h2 : QueryGraph
    h2 = on_boxes (map (at o.id (with_distinct Permit))) g

    abbrev sets : ℕ → Bool
    sets x = x == o.id

    here2 : In (with_distinct Permit o) h2.boxes
    here2 = in-h bs g.root w o (with_distinct Permit) put2

    v2 : Sound h2.boxes g.root
    v2 = put-sound bs g.root w o (with_distinct Permit) put2

    sh2 : Shaped h2.boxes g.root
    sh2 = shaped h2 (once-put g u k o (with_distinct Permit) put2) (put-formed g u k o (with_distinct Permit) put2)

    read : (y : Node) → In y h2.boxes → ReadsSets sets y
    read y j = permit-read h2.boxes g.root v2 sh2 y j sets (λ z i t. subst (λ (x : Node). is_permit x.parts.distinct ≡ true) (same-box h2.boxes (with_distinct Permit o) z v2.ordered here2 i (sym (eqb-true z.id o.id t))) refl)

    copied : SelectReadsSets sets (with_distinct Permit o) → SelectReadsSets sets o
    copied r = record { rows = r.rows; cells = r.cells; conditions = r.conditions }

    read-old : (y : Node) → In y bs → ReadsSets sets y
    read-old y j = elim (cases bs g.root w o (with_distinct Permit) put2 y j) [
      | inl e ↦ subst (λ z. ReadsSets sets z) (sym e.0) (subst (λ z. ReadsSetsBy z sets o) (sym p.select) (copied (subst (λ z. ReadsSetsBy z sets (with_distinct Permit o)) p.select (read (with_distinct Permit o) here2))))
      | inr e ↦ subst (λ z. ReadsSets sets z) e.1 (read (at o.id (with_distinct Permit) y) (map-in (at o.id (with_distinct Permit)) y bs j))
    ]

    as-set : (once : Bool) (rows : Bag) → is_clean rows ≡ true → AgreeAsSets same_cells rows (once_if once rows)
    as-set true rows c = sets-sym same_cells ((set-agreement same_cells same_cells-decides).of_distinct rows c)
    as-set false rows c = sets-from_alike same_cells same_cells-decides rows rows c (alike-refl rows)

    away : (g.root == o.id) ≡ false
    away = elim (cases_Bool (g.root == o.id)) [ inr f ↦ f | inl t ↦ absurd (m.not_root (sym (eqb-true g.root o.id t))) ]

    pub set-preserves : Preserves g (set_distinct o.id Permit g)
    set-preserves = set-back g u k o p Permit (preserves-put g u k o (with_distinct Permit) put2 (λ tables s. put-agrees-as-set bs g.root w o (with_distinct Permit) put2 tables away read-old (read (with_distinct Permit o) here2) (λ env fit. (
        let F = bag_in tables bs in
        let e1 = rows-of tables F o p.select env Permit in
        subst (λ z. AgreeAsSets same_cells z (rows_of tables o F env)) (sym e1)
        (subst (λ z. AgreeAsSets same_cells (raw tables F o p.select env) z) (sym (rows-own tables F o p.select env))
        (as-set (is_enforce o.parts.distinct) (raw tables F o p.select env) (ap is_clean (sym e1) ∙ m.clean tables s env fit)))))))
