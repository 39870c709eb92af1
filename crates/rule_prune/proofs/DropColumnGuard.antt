-- N1 where the root reaches all boxes: if no fed box is left over a closed box in the end, none was where the column had gone.
use Rattle.std.proofs.Common.{ℕ, zero, suc, ◌==◌, ◌≡◌, ◌&&◌, ◌<◌, ◌-◌, nat_lt, cond, Bool, true, false, List, ◌∷◌, map, refl, sym, ap, ap₂, subst, ◌∙◌, eqb-true, arith, inl, inr, [], ◌||◌}
use Rattle.std.specs.List.{list_any}
use Rattle.std.proofs.lemmas.Bool.{and_from, and_parts, cases_Bool, lt-ltb, ltb-false, ltb-true}
use Rattle.qgm_core.specs.Boxes.{has_box, owns}
use Rattle.qgm_core.specs.Edits.{shift_node, without_cell}
use Rattle.qgm_core.specs.Free.{reached}
use Rattle.qgm_core.specs.Kinds.{is_fed}
use Rattle.list_laws.specs.Lists.{In, holds}
use Rattle.qgm_core.specs.declared.node.Node.{Node}
use Rattle.qgm_core.specs.declared.owned.OwnedQuant.{OwnedQuant}
use Rattle.qgm_wellformed.specs.Shapes.{fed_by}
use Rattle.qgm_meaning.specs.Scope.{loose, read_by}
use Rattle.qgm_terms.specs.Wanted.{wanted}
use Rattle.qgm_terms.specs.declared.sought.Sought.TheVariants as sought
use Rattle.qgm_edit_laws.specs.Changes.{LosesColumn}
use Rattle.qgm_edit_laws.specs.Facts.{Asks}
use Rattle.qgm_edit_laws.specs.Graph.{Sound}
use Rattle.qgm_edit_laws.specs.FedOpen.{FedOpen}
use Rattle.qgm_edit_laws.specs.Placed.{place}
use Rattle.qgm_edit_laws.specs.Scoped.{Scoped}
use Rattle.qgm_edit_laws.specs.Shaped.{Shaped}
use Rattle.qgm_edit_laws.proofs.Column as c
use Rattle.qgm_edit_laws.proofs.Column.{shift_each}
use Rattle.qgm_edit_laws.proofs.Compact.{in-kept, kept-in, reached_boxes, reaches}
use Rattle.qgm_edit_laws.proofs.Facts.{looks-stay}
use Rattle.qgm_edit_laws.proofs.FreeLoose.{alone-to, looks-asked, open-looks}
use Rattle.qgm_edit_laws.proofs.Naming.{conds-shift, heads-shift}
use Rattle.qgm_edit_laws.proofs.OneBox.{at, has-map}
use Rattle.qgm_edit_laws.proofs.PartForms.{at-all}
use Rattle.qgm_edit_laws.proofs.Ranks.{same-box}
use Rattle.qgm_edit_laws.proofs.Scope.{loose-held}
use Rattle.qgm_edit_laws.proofs.Scoped.{bounded, scoped-of}
use Rattle.qgm_edit_laws.proofs.ShapeParts.{fed-parts, shape-parts, two-parts}
use Rattle.qgm_edit_laws.specs.DropQuants.{MayLose, with_those}
use Rattle.qgm_edit_laws.proofs.FedOpenKept.{looks-open}
use Rattle.rule_prune.proofs.DropColumnKeeps.{each-role}
use Rattle.qgm_edit_laws.proofs.DropQuants.{those-nearly, those-scoped, those-sound}
use Rattle.qgm_edit_laws.proofs.OneUse as used
use Rattle.list_laws.proofs.Membership.{eq-itself, in-map, map-in}

each-reads : (k : ℕ) (qs : List ℕ) (n : Node) (q : ℕ) → read_by (shift_each k qs n) q ≡ read_by n q
each-reads k [] n q = refl
each-reads k (p ∷ qs) n q = each-reads k qs (shift_node k p n) q ∙ ap₂ (λ a b. a || b) (heads-shift p k (wanted (sought.Row q)) (λ r i j. refl) n.parts.head) (conds-shift p k (wanted (sought.Row q)) (λ r i j. refl) n.parts.conds.items)

module _ (bs : List Node) (root : ℕ) (w : Sound bs root) (sh : Shaped bs root) (b : Node) (k : ℕ) (m : LosesColumn bs b k) (all : (n : Node) → In n bs → holds n.id (reached (root ∷ []) bs) ≡ true)
    (b' : Node) (same-id : b'.id ≡ b.id) (keep : ℕ → Bool) (lose : MayLose (map (c.g bs root w b k m) bs) b' keep) where
  abbrev h : Node → Node
  h = c.g bs root w b k m

  abbrev hs : List Node
  hs = map (c.g bs root w b k m) bs

  abbrev fl : Node → Node
  fl = at b'.id (with_those keep)

  abbrev fs : List Node
  fs = map (at b'.id (with_those keep)) (map (c.g bs root w b k m) bs)

  v : Sound (map (c.g bs root w b k m) bs) root
  v = c.column-sound bs root w b k m

  final : Sound (reached_boxes root fs) root
  final = those-sound (map (c.g bs root w b k m) bs) root v b' keep lose

  -- another box than b
  other-box : (y : Node) → (y.id == b.id) ≡ false → h y ≡ shift_each k (c.qs bs root w b k m) y
  other-box y n = ap (λ (t : Bool). shift_each k (c.qs bs root w b k m) (cond t (without_cell (k - 1) y) y)) n

  apart : (y : Node) → (place bs y.id ≡ place bs b.id → ⊥) → (y.id == b.id) ≡ false
  apart y n = elim (cases_Bool (y.id == b.id)) [ inr f ↦ f | inl t ↦ absurd (n (ap (place bs) (eqb-true y.id b.id t))) ]

  -- ---- behind b all is looked up as before

  abbrev look : ℕ → ℕ → Bool
  look x q = loose bs x q && nat_lt (place bs b.id) (place bs x)

  asks : (z : Node) → In z hs → Asks look z
  asks z i q t =
      let y = in-map h z bs i in
      let e : y.0.id ≡ z.id = sym (c.g-id bs root w b k m y.0) ∙ ap (λ (z : Node). z.id) y.1.1 in
      let l = and_parts (loose bs z.id q) (nat_lt (place bs b.id) (place bs z.id)) t in
      let far : place bs b.id < place bs y.0.id = subst (λ x. place bs b.id < place bs x) (sym e) (ltb-true (place bs b.id) (place bs z.id) l.1) in
      let a = looks-asked bs root w y.0 y.1.0 q (subst (λ x. loose bs x q ≡ true) (sym e) l.0) in
      let n = apart y.0 (λ d. (let z : ⊥ = omega (arith, far, d) in z)) in (
        subst (λ (z : Node). owns q z ≡ false) y.1.1 (ap (λ (rs : List OwnedQuant). list_any (λ r. r.id == q) rs) (c.g-quants bs root w b k m y.0) ∙ a.0),
        elim a.1 [
          | inl r ↦ inl (subst (λ (z : Node). read_by z q ≡ true) y.1.1 (ap (λ (z : Node). read_by z q) (other-box y.0 n) ∙ each-reads k (c.qs bs root w b k m) y.0 q ∙ r))
          | inr r ↦ inr (
            r.0,
            (
              subst (λ (z : Node). In r.0 z.quants) y.1.1 (subst (λ rs. In r.0 rs) (sym (c.g-quants bs root w b k m y.0)) r.1.0),
              (let d = used.below bs root w y.0 r.0 y.1.0 r.1.0 in and_from (loose bs r.0.over q) (nat_lt (place bs b.id) (place bs r.0.over)) r.1.1 (lt-ltb (place bs b.id) (place bs r.0.over) (omega (arith, far, d)))),
            ),
          )
        ],
      )

  has-h : (x : ℕ) → has_box bs x ≡ true → has_box hs x ≡ true
  has-h x t = has-map h (c.g-id bs root w b k m) bs x ∙ t

  looked : (x q : ℕ) → loose bs x q ≡ true → place bs b.id < place bs x → loose hs x q ≡ true
  looked x q t l = looks-stay look hs v.ordered (λ n i. v.bare n i) asks x q (has-h x (loose-held bs x q t)) (and_from (loose bs x q) (nat_lt (place bs b.id) (place bs x)) t (lt-ltb (place bs b.id) (place bs x) l))

  stays-there : (y : Node) → (y.id == b.id) ≡ false → fl (h y) ≡ h y
  stays-there y n = ap (λ (t : Bool). cond t (with_those keep (h y)) (h y)) (ap₂ (λ i j. i == j) (c.g-id bs root w b k m y) same-id ∙ n)

  -- ---- above b all stays

  survives : (fuel : ℕ) (x : Node) → In x bs → place bs x.id < fuel → place bs x.id < place bs b.id → holds x.id (reached (root ∷ []) fs) ≡ true
  survives zero x i l a = absurd (omega (arith, l))
  survives (suc fuel) x i l a =
      let d = reaches fs root (those-nearly (map (c.g bs root w b k m) bs) root v b' keep lose).local.ordered in
      elim ((reaches bs root w.ordered).under x.id (all x i)) [
        | inl e ↦ subst (λ z. holds z (reached (root ∷ []) fs) ≡ true) (sym e) d.root_kept
        | inr p ↦ (
            let r = p.1.1.1 in
            let below : place bs p.0.id < place bs x.id = subst (λ z. place bs p.0.id < place bs z) r.1.1 (used.below bs root w p.0 r.0 p.1.0 r.1.0) in
            let up = survives fuel p.0 p.1.0 (omega (arith, l, below)) (omega (arith, a, below)) in
            let n : (p.0.id == b.id) ≡ false = apart p.0 (λ e. (let z : ⊥ = omega (arith, a, below, e) in z)) in
            let at-p : fl (h p.0) ≡ h p.0 = stays-there p.0 n in
            subst (λ z. holds z (reached (root ∷ []) fs) ≡ true) r.1.1
            (d.closed (fl (h p.0)) r.0 (map-in fl (h p.0) hs (map-in h p.0 bs p.1.0)) (subst (λ z. holds z (reached (root ∷ []) fs) ≡ true) (sym (ap (λ (z : Node). z.id) at-p ∙ c.g-id bs root w b k m p.0)) up)
            (subst (λ rs. In r.0 rs) (sym (ap (λ (z : Node). z.quants) at-p ∙ c.g-quants bs root w b k m p.0)) r.1.0)))
      ]

  shrinks : (x q : ℕ) → loose (reached_boxes root fs) x q ≡ true → loose hs x q ≡ true
  shrinks = bounded (loose hs) (reached_boxes root fs) final.once (λ n i. (
      let z = in-map fl n hs (in-kept (λ x. holds x (reached (root ∷ []) fs)) n fs i).0 in
      subst (λ (z : Node). Scoped (loose hs) z) z.1.1 (elim (cases_Bool (z.0.id == b'.id)) [
        | inl t ↦ (
            let s : z.0 ≡ b' = same-box hs z.0 b' v.ordered z.1.0 lose.within (eqb-true z.0.id b'.id t) in
            subst (λ (z : Node). Scoped (loose hs) (fl z)) (sym s) (subst (λ (y : Node). Scoped (loose hs) y) (sym (ap (λ (x : Bool). cond x (with_those keep b') b') (eq-itself b'.id))) (those-scoped hs root v b' keep lose)))
        | inr t ↦ subst (λ (y : Node). Scoped (loose hs) y) (sym (ap (λ (x : Bool). cond x (with_those keep z.0) z.0) t)) (scoped-of hs root v z.0 z.1.0)
      ])))

  pub one-guard : FedOpen (reached_boxes root fs) → FedOpen hs
  one-guard last n i fed a d e =
      let y = in-map h n bs i in
      let role : is_fed y.0.parts.role ≡ true = sym (ap is_fed (each-role k (c.qs bs root w b k m) (at b.id (without_cell (k - 1)) y.0) ∙ at-all b.id (without_cell (k - 1)) (λ z. z.parts.role) (λ z. refl) y.0)) ∙ ap (λ (z : Node). is_fed z.parts.role) y.1.1 ∙ fed in
      let e' : y.0.quants ≡ a ∷ (d ∷ []) = sym (c.g-quants bs root w b k m y.0) ∙ ap (λ (z : Node). z.quants) y.1.1 ∙ e in
      let o = two-parts bs y.0.parts.head a d (ap (fed_by bs y.0.parts.head) (sym e') ∙ (fed-parts root bs y.0 role (shape-parts root bs y.0 (sh.shapes y.0 y.1.0)).kind).fed) in
      let old = alone-to bs root w d.over a.id o.alone in
      let below = used.below bs root w y.0 d y.1.0 (subst (λ z. In d z) (sym e') (inr (inl refl))) in
      elim (cases_Bool (nat_lt (place bs b.id) (place bs d.over))) [
        | inl t ↦ looks-open hs root v d.over a.id (looked d.over a.id old.0 (ltb-true (place bs b.id) (place bs d.over) t))
        | inr f ↦ (
            let above : place bs y.0.id < place bs b.id = (let l = ltb-false (place bs b.id) (place bs d.over) f in omega (arith, below, l)) in
            let there : fl (h y.0) ≡ h y.0 = stays-there y.0 (apart y.0 (λ e. (let z : ⊥ = omega (arith, above, e) in z))) in
            let kept : In n (reached_boxes root fs) = kept-in (λ x. holds x (reached (root ∷ []) fs)) n fs
            (subst (λ z. In z fs) (there ∙ y.1.1) (map-in fl (h y.0) hs (map-in h y.0 bs y.1.0)))
            (subst (λ z. holds z (reached (root ∷ []) fs) ≡ true) (sym (c.g-id bs root w b k m y.0) ∙ ap (λ (z : Node). z.id) y.1.1) (survives (suc (place bs y.0.id)) y.0 y.1.0 (omega arith) above)) in
            let x = open-looks (reached_boxes root fs) root final d.over (last n kept fed a d e) in
            looks-open hs root v d.over x.0 (shrinks d.over x.0 x.1))
      ]
