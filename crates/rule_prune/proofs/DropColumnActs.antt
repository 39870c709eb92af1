-- N1: where none passes, what the guard says, and what the action does at a place.
use Rattle.std.proofs.Common.{ℕ, zero, suc, ◌+◌, ◌-◌, ◌≡◌, ◌<◌, ◌≤◌, ◌&&◌, not, map, true, false, List, [], ◌∷◌, length, None, Option, Some, refl, sym, ap, ap₂, subst, ◌∙◌, eqb-true, inl, inr, arith}
use Rattle.std.proofs.lemmas.Bool.{and_from, and_parts, cases_Bool, not-true}
use Rattle.qgm_core.specs.Boxes.{HasBox, QueryGraph, box_of, is_box, numbers}
use Rattle.qgm_core.specs.Edits.{drop_column, head_in, without_cell}
use Rattle.qgm_core.specs.Free.{reached}
use Rattle.qgm_core.specs.Kinds.{is_fed}
use Rattle.list_laws.specs.Lists.{EachOnce, In, first, holds}
use Rattle.list_laws.proofs.Booleans.{clash}
use Rattle.list_laws.proofs.Membership.{any-from, any-none, in-map, map-in}
use Rattle.qgm_core.specs.declared.node.Node.{Node}
use Rattle.qgm_wellformed.specs.Sentences.{WellFormed}
use Rattle.qgm_wellformed.proofs.Faults.{finds-none}
use Rattle.qgm_edit_laws.specs.DropQuants.{with_those, without_those}
use Rattle.qgm_edit_laws.specs.Graph.{Sound}
use Rattle.qgm_edit_laws.proofs.Column as c
use Rattle.qgm_edit_laws.proofs.Compact.{in-kept}
use Rattle.qgm_edit_laws.proofs.Formed.{sound-checked}
use Rattle.qgm_edit_laws.proofs.Levels.{some-in}
use Rattle.qgm_edit_laws.proofs.OneBox.{at}
use Rattle.qgm_edit_laws.proofs.PartForms.{at-all}
use Rattle.qgm_edit_laws.proofs.Scope.{in-first}
use Rattle.rule_api.specs.Picks.{picks}
use Rattle.rule_api.specs.Rules.{Preserves}
use Rattle.rule_api.specs.declared.place.Place.{Place}
use Rattle.rule_facts.proofs.FedClosed.{unfed-open}
use Rattle.rule_facts.proofs.Picked.{none-picked}
use Rattle.rule_facts.specs.FedClosed.{any_fed, any_fed_closed}
use Rattle.rule_prune.specs.DropColumn.{AllNamed, DropsColumn, MayDropColumn, columns_from, in_column, leaves_open, may_drop_column, may_have, may_lose, stay_open, stays}
use Rattle.rule_prune.specs.DropColumnExact.{loses-from}
use Rattle.rule_prune.specs.NamedColumns.{named_of}
use Rattle.rule_prune.specs.Pruned.{MayCut, Prunes}
use Rattle.rule_prune.proofs.DropColumnKeeps.{each-role}
use Rattle.rule_prune.proofs.DropColumnSteps.{pruned-is}
use Rattle.rule_prune.proofs.Preserving.{drop-column-preserves}

-- ---- numbers of columns

in-columns : (x k n : ℕ) → In x (columns_from k n) → (k ≤ x) × (x < k + n)
in-columns x k zero i = elim i [ ]
in-columns x k (suc n) i = elim i [
  | inl e ↦ (omega (arith, e), omega (arith, e))
  | inr j ↦ (let r = in-columns x (k + 1) n j in ((let a = r.0 in omega (arith, a)), (let a = r.1 in omega (arith, a))))
]

pub columns_more : (k n : ℕ) → k < n → columns_from (k + 1) (n - k) ≡ (k + 1) ∷ columns_from (k + 1 + 1) (n - (k + 1))
columns_more k n l = let e : n - k ≡ suc (n - (k + 1)) = omega (arith, l) in ap (columns_from (k + 1)) e

-- ---- where none passes

of-box : (g : QueryGraph) (b : ℕ) (n : Node) → box_of b g ≡ Some n → ((k : ℕ) → 1 ≤ k → k ≤ length n.parts.head → may_drop_column g n k ≡ false)
    → picks (in_column (may_drop_column g) (box_of b g)) 1 (columns_from 1 (length (head_in (box_of b g)))) ≡ []
of-box g b n e h =
    ap (λ o. picks (in_column (may_drop_column g) o) 1 (columns_from 1 (length (head_in o)))) e
    ∙ none-picked (in_column (may_drop_column g) (Some n)) 1 (columns_from 1 (length n.parts.head)) (λ k i. (let r = in-columns k 1 (length n.parts.head) i in h k r.0 (let a = r.1 in omega (arith, a))))

pub none_found : (g : QueryGraph) (b : ℕ) (n : Node) → box_of b g ≡ Some n → may_have g n ≡ false → picks (in_column (may_drop_column g) (box_of b g)) 1 (columns_from 1 (length (head_in (box_of b g)))) ≡ []
none_found g b n e f = of-box g b n e (λ k l m. ap (λ z. z && (may_lose n k && (not (holds k (named_of n.id g.boxes)) && leaves_open g n.id k))) f)

pub none_left : (g : QueryGraph) (b : ℕ) (n : Node) → box_of b g ≡ Some n → AllNamed g.boxes n → picks (in_column (may_drop_column g) (box_of b g)) 1 (columns_from 1 (length (head_in (box_of b g)))) ≡ []
none_left g b n e all = of-box g b n e (λ k l m. elim (cases_Bool (may_drop_column g n k)) [
  | inr f ↦ f
  | inl t ↦ absurd (
      let a = and_parts (may_have g n) (may_lose n k && (not (holds k (named_of n.id g.boxes)) && leaves_open g n.id k)) t in
      let d = and_parts (may_lose n k) (not (holds k (named_of n.id g.boxes)) && leaves_open g n.id k) a.1 in
      let f = and_parts (not (holds k (named_of n.id g.boxes))) (leaves_open g n.id k) d.1 in
      clash (holds k (named_of n.id g.boxes)) (all k l m d.0) (not-true (holds k (named_of n.id g.boxes)) f.0))
])

-- ---- a column that may go

pub found-itself : (g : QueryGraph) (b : ℕ) (n : Node) → box_of b g ≡ Some n → box_of n.id g ≡ Some n
found-itself g b n e = subst (λ z. box_of z g ≡ Some n) (sym (eqb-true n.id b (some-in (is_box b) g.boxes n e).1)) e

pub may-cut : (g : QueryGraph) (n : Node) (k : ℕ) → box_of n.id g ≡ Some n → 1 ≤ k → k ≤ length n.parts.head → may_have g n ≡ true → may_lose n k ≡ true → holds k (named_of n.id g.boxes) ≡ false → MayCut g n.id k
may-cut g n k found from within h l f = (n, (found, loses-from g n k (some-in (is_box n.id) g.boxes n found).0 from within h l f))

module _ (g : QueryGraph) (b k : ℕ) (m : MayCut g b k) where
  pub cut-held : HasBox b g
  cut-held = let i = some-in (is_box b) g.boxes m.0 m.1.0 in any-from (is_box b) m.0 g.boxes i.0 i.1

  pub cut-from : 1 ≤ k
  cut-from = m.1.1.from_one

  pub cut-within : k ≤ length (head_in (box_of b g))
  cut-within = subst (λ o. k ≤ length (head_in o)) (sym m.1.0) m.1.1.column

-- ---- the guard

pub closed_middle : (h : QueryGraph) (o : Option Node) → any_fed_closed h ≡ true → stay_open h o ≡ false
closed_middle h None t = refl
closed_middle h (Some n) t = ap (λ z. not z && not (any_fed_closed (without_those n (stays n) h))) t

module _ (g : QueryGraph) (u : EachOnce (numbers g.boxes)) (w : WellFormed g) (b k : ℕ) (m : MayCut g b k) where
  sound : Sound g.boxes g.root
  sound = ((sound-checked g u).0 ((finds-none g u).1 w)).0

  abbrev n : Node
  n = m.0

  same-id : m.0.id ≡ b
  same-id = eqb-true m.0.id b (some-in (is_box b) g.boxes m.0 m.1.0).1

  abbrev h : Node → Node
  h = c.g g.boxes g.root sound m.0 k m.1.1

  abbrev less : QueryGraph
  less = drop_column m.0.id k g

  boxes-are : (drop_column m.0.id k g).boxes ≡ map (c.g g.boxes g.root sound m.0 k m.1.1) g.boxes
  boxes-are = c.column-boxes g.boxes g.root sound m.0 k m.1.1

  less-sound : Sound (drop_column m.0.id k g).boxes g.root
  less-sound = c.dropped-column g.boxes g.root sound m.0 k m.1.1 g refl

  left : box_of m.0.id (drop_column m.0.id k g) ≡ Some (h m.0)
  left = subst (λ z. first (is_box z) (drop_column m.0.id k g).boxes ≡ Some (h m.0)) (c.g-id g.boxes g.root sound m.0 k m.1.1 m.0)
      (in-first (h m.0) (drop_column m.0.id k g).boxes less-sound.ordered (subst (λ z. In (h m.0) z) (sym boxes-are) (map-in h m.0 g.boxes m.1.1.within)))

  -- where no box is fed
  module _ (none : any_fed g.boxes ≡ false) where
    unfed : (y : Node) → In y (drop_column m.0.id k g).boxes → is_fed y.parts.role ≡ false
    unfed y i =
        let x = in-map h y g.boxes (subst (λ z. In y z) boxes-are i) in
        ap (λ (z : Node). is_fed z.parts.role) (sym x.1.1)
        ∙ ap is_fed (each-role k (c.qs g.boxes g.root sound m.0 k m.1.1) (at m.0.id (without_cell (k - 1)) x.0) ∙ at-all m.0.id (without_cell (k - 1)) (λ z. z.parts.role) (λ z. refl) x.0)
        ∙ any-none (λ (z : Node). is_fed z.parts.role) x.0 g.boxes none x.1.0

    abbrev changed : List Node
    changed = map (at (h m.0).id (with_those (stays (h m.0)))) (drop_column m.0.id k g).boxes

    unfed-last : (y : Node) → In y (without_those (h m.0) (stays (h m.0)) (drop_column m.0.id k g)).boxes → is_fed y.parts.role ≡ false
    unfed-last y i =
        let x = in-map (at (h m.0).id (with_those (stays (h m.0)))) y (drop_column m.0.id k g).boxes (in-kept (λ k. holds k (reached (g.root ∷ []) changed)) y changed i).0 in
        ap (λ (z : Node). is_fed z.parts.role) (sym x.1.1)
        ∙ ap is_fed (at-all (h m.0).id (with_those (stays (h m.0))) (λ z. z.parts.role) (λ z. refl) x.0)
        ∙ unfed x.0 x.1.0

    pub unfed_left : leaves_open g b k ≡ true
    unfed_left = subst (λ z. leaves_open g z k ≡ true) same-id (
        ap (stay_open (drop_column m.0.id k g)) left
        ∙ and_from (not (any_fed_closed (drop_column m.0.id k g))) (not (any_fed_closed (without_those (h m.0) (stays (h m.0)) (drop_column m.0.id k g))))
        (ap not (unfed-open (drop_column m.0.id k g) unfed))
        (ap not (unfed-open (without_those (h m.0) (stays (h m.0)) (drop_column m.0.id k g)) unfed-last)))

  -- what the code makes is the graph after it
  module _ (last : QueryGraph) (x : Prunes b k g last) where
    pub last-is : last ≡ without_those x.left (stays x.left) (drop_column b k g)
    last-is = x.after ∙ pruned-is g u w b k m (drop_column b k g) refl x.left x.found

    pub last_open : any_fed_closed (drop_column b k g) ≡ false → leaves_open g b k ≡ not (any_fed_closed last)
    last_open f =
        ap (stay_open (drop_column b k g)) x.found
        ∙ ap (λ z. not z && not (any_fed_closed (without_those x.left (stays x.left) (drop_column b k g)))) f
        ∙ ap (λ (z : QueryGraph). not (any_fed_closed z)) (sym last-is)

-- ---- at a place

module _ (p : Place) (g : QueryGraph) (u : EachOnce (numbers g.boxes)) (w : WellFormed g) (m : MayDropColumn p g) where
  pub cut-there : MayCut g p.at p.i
  cut-there = (m.b, (m.found, m.unnamed.loses))

  module _ (h : QueryGraph) (x : Prunes p.at p.i g h) where
    same-box : m.b.id ≡ p.at
    same-box = eqb-true m.b.id p.at (some-in (is_box p.at) g.boxes m.b m.found).1

    left-is : x.left ≡ m.left
    left-is =
        let e : box_of p.at (drop_column p.at p.i g) ≡ Some m.left = subst (λ z. box_of z (drop_column z p.i g) ≡ Some m.left) same-box m.unnamed.after in
        let s : Some x.left ≡ Some m.left = sym x.found ∙ e in cc

    pub acts : DropsColumn p g h
    acts = record {
      may = m;
      after = last-is g u w p.at p.i cut-there h x ∙ ap₂ (λ (l : Node) (z : ℕ). without_those l (stays l) (drop_column z p.i g)) left-is (sym same-box);
    }

    pub preserves : Preserves g h
    preserves = drop-column-preserves g h u w p acts
