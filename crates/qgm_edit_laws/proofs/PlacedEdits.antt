-- What each edit keeps of I1 to I3.
use Rattle.std.proofs.Common.{ℕ, ◌==◌, ◌≡◌, ◌≤◌, cond, Bool, true, false, List, [], ◌∷◌, map, refl, sym, ap, subst, ◌∙◌, eqb-true, ◌⊎◌, inl, inr, arith}
use Rattle.std.specs.List.{list_any}
use Rattle.std.proofs.lemmas.Bool.{cases_Bool, eq-eqb, or_cases, or_left, or_right}
use Rattle.qgm_core.specs.declared.node.Node.{Node}
use Rattle.qgm_core.specs.declared.owned.OwnedQuant.{OwnedQuant}
use Rattle.qgm_core.specs.declared.kinds.Distinct.{Distinct}
use Rattle.qgm_core.specs.declared.kinds.QuantKind.{QuantKind}
use Rattle.qgm_core.specs.declared.parts.BoxParts.{BoxParts}
use Rattle.qgm_core.specs.Boxes.{HasBox, HasQuant, Ordered, QueryGraph, has_box, ids_in, ids_of, is_quant, owns}
use Rattle.qgm_core.specs.Edits.{drop_quant, on_box, on_quant, parted, put_box, put_cells, put_quant, put_range, redirect, reserve, set_distinct, substitute, with_cond, with_distinct, with_quant, with_room, without_cond, without_quant}
use Rattle.qgm_core.specs.Free.{named_by}
use Rattle.list_laws.specs.Lists.{In, change, holds, times, without}
use Rattle.qgm_terms.specs.Named.{names_in, names_in_cond}
use Rattle.qgm_terms.specs.Terms.{Cond, Term}
use Rattle.qgm_edit_laws.specs.EditLaws.{IsPlaced, Knows, KnowsCells, Owned}
use Rattle.qgm_edit_laws.specs.Placed.{Below, Placed}
use Rattle.qgm_edit_laws.proofs.Edits.{any-append}
use Rattle.qgm_edit_laws.proofs.Naming.{any-remove, cond-any, conds-put, heads-put, named-any, names-any, says, says_cond, any-same}
use Rattle.qgm_edit_laws.proofs.OneBox.{at, has-map, ranked}
use Rattle.qgm_edit_laws.proofs.PlacedOne.{any-put, at-box, at-owner, counted, b-after, g-cases, g-id, in-after, in-less, in-put, less-in, ordered-after, other-after, placed-ids, placed-parts, times-less, times-put, unowned-times}
use Rattle.qgm_edit_laws.proofs.Ranks.{has-in}
use Rattle.list_laws.proofs.Membership.{any-from, any-in}
use Rattle.list_laws.proofs.Booleans.{clash}

-- what a box names, by its cells and conditions
pub named-parts : (q : ℕ) (n : Node) → holds q (named_by n) ≡ true → (list_any (says q) n.parts.head ≡ true) ⊎ (list_any (says_cond q) n.parts.conds.items ≡ true)
named-parts q n h = or_cases (list_any (says q) n.parts.head) (list_any (says_cond q) n.parts.conds.items) (sym (named-any q n) ∙ h)

pub named-head : (q : ℕ) (n : Node) → list_any (says q) n.parts.head ≡ true → holds q (named_by n) ≡ true
named-head q n h = named-any q n ∙ or_left (list_any (says q) n.parts.head) (list_any (says_cond q) n.parts.conds.items) h

pub named-conds : (q : ℕ) (n : Node) → list_any (says_cond q) n.parts.conds.items ≡ true → holds q (named_by n) ≡ true
named-conds q n h = named-any q n ∙ or_right (list_any (says q) n.parts.head) (list_any (says_cond q) n.parts.conds.items) h

module _ (g : QueryGraph) (w : IsPlaced g) where
  -- ---- parts of a box
  pub parts-by : (b : ℕ) (f : Node → Node) → HasBox b g → ((y : Node) → (f y).id ≡ y.id) → ((y : Node) → (f y).quants ≡ y.quants)
      → ((y : Node) → In y g.boxes → y.id ≡ b → (q : ℕ) → holds q (named_by (f y)) ≡ true → HasQuant q g) → IsPlaced (on_box b f g)
  parts-by b f h same quants k =
      let x = has-in b g.boxes h in
      subst (λ z. Placed z g.root) (sym (at-box g.boxes g.root w b f))
      (subst (λ z. Placed (map (at z f) g.boxes) g.root) x.1.1 (placed-parts g.boxes w.ordered x.0 x.1.0 f same g.root w (quants x.0) (k x.0 x.1.0 x.1.1)))

  pub put-box : (b : ℕ) (parts : BoxParts) → HasBox b g → Knows parts g → IsPlaced (put_box b parts.kind parts.role parts.conds parts.head g)
  put-box b parts h k = parts-by b (parted parts.kind parts.role parts.conds parts.head) h (λ y. refl) (λ y. refl) (λ y i e q t. k q t)

  pub set-distinct : (b : ℕ) (distinct : Distinct) → HasBox b g → IsPlaced (set_distinct b distinct g)
  set-distinct b distinct h = parts-by b (with_distinct distinct) h (λ y. refl) (λ y. refl) (λ y i e q t. w.known y i q t)

  pub with-room : (b n : ℕ) → HasBox b g → IsPlaced (reserve b n g)
  with-room b n h = parts-by b (with_room n) h (λ y. refl) (λ y. refl) (λ y i e q t. w.known y i q t)

  pub take-cond : (b i : ℕ) → HasBox b g → IsPlaced (on_box b (without_cond i) g)
  take-cond b i h = parts-by b (without_cond i) h (λ y. refl) (λ y. refl) (λ y j e q t. w.known y j q (elim (named-parts q (without_cond i y) t) [
    | inl a ↦ named-head q y a
    | inr a ↦ named-conds q y (any-remove (says_cond q) i y.parts.conds.items a)
  ]))

  pub put-cond : (b : ℕ) (c : Cond) → HasBox b g → ((q : ℕ) → holds q (names_in_cond c) ≡ true → HasQuant q g) → IsPlaced (on_box b (with_cond c) g)
  put-cond b c h k = parts-by b (with_cond c) h (λ y. refl) (λ y. refl) (λ y j e q t. elim (named-parts q (with_cond c y) t) [
    | inl a ↦ w.known y j q (named-head q y a)
    | inr a ↦ elim (any-append (says_cond q) y.parts.conds.items (c ∷ []) a) [
      | inl x ↦ w.known y j q (named-conds q y x)
      | inr x ↦ elim (or_cases (says_cond q c) false x) [ inl z ↦ k q (cond-any q c ∙ z) | inr z ↦ absurd (let e : ⊥ = cc in e) ]
    ]
  ])

  pub put-cells : (b q : ℕ) (cells : List Term) → HasBox b g → KnowsCells cells g → IsPlaced (substitute b q cells g)
  put-cells b q cells h k = parts-by b (put_cells q cells) h (λ y. refl) (λ y. refl) (λ y j e p t.
      let in-cells : list_any (says p) cells ≡ true → HasQuant p g = (λ z. k p (any-same (λ x. holds p (names_in x)) (says p) cells (names-any p) ∙ z)) in
      elim (named-parts p (put_cells q cells y) t) [
        | inl a ↦ elim (or_cases (list_any (says p) y.parts.head) (list_any (says p) cells) (heads-put p q cells y.parts.head a)) [ inl z ↦ w.known y j p (named-head p y z) | inr z ↦ in-cells z ]
        | inr a ↦ elim (or_cases (list_any (says_cond p) y.parts.conds.items) (list_any (says p) cells) (conds-put p q cells y.parts.conds.items a)) [ inl z ↦ w.known y j p (named-conds p y z) | inr z ↦ in-cells z ]
      ])

  -- ---- quantifiers that keep their numbers
  pub owner-of : (q : ℕ) → HasQuant q g → (o : Node) × (In o g.boxes × (owns q o ≡ true))
  owner-of q h = any-in (owns q) g.boxes h

  ids-changed : (p : OwnedQuant → Bool) (f : OwnedQuant → OwnedQuant) → ((r : OwnedQuant) → (f r).id ≡ r.id) → (rs : List OwnedQuant) → map (λ (r : OwnedQuant). r.id) (change p f rs) ≡ map (λ (r : OwnedQuant). r.id) rs
  ids-changed p f same [] = refl
  ids-changed p f same (r ∷ rs) = elim (p r) as (λ t. map (λ (r : OwnedQuant). r.id) (cond t (f r ∷ rs) (r ∷ change p f rs)) ≡ map (λ (r : OwnedQuant). r.id) (r ∷ rs)) [
    | true ↦ ap (λ z. z ∷ map (λ (r : OwnedQuant). r.id) rs) (same r)
    | false ↦ ap (λ z. r.id ∷ z) (ids-changed p f same rs)
  ]

  in-changed : (p : OwnedQuant → Bool) (f : OwnedQuant → OwnedQuant) (rs : List OwnedQuant) (s : OwnedQuant) → In s (change p f rs) → In s rs ⊎ ((r : OwnedQuant) × (In r rs × ((p r ≡ true) × (f r ≡ s))))
  in-changed p f [] s j = elim j [ ]
  in-changed p f (r ∷ rs) s j = elim (p r) as (λ t. p r ≡ t → In s (cond t (f r ∷ rs) (r ∷ change p f rs)) → In s (r ∷ rs) ⊎ ((x : OwnedQuant) × (In x (r ∷ rs) × ((p x ≡ true) × (f x ≡ s))))) [
    | true ↦ λ t j. elim j [ inl e ↦ inr (r, (inl refl, (t, e))) | inr k ↦ inl (inr k) ]
    | false ↦ λ t j. elim j [ inl e ↦ inl (inl e) | inr k ↦ elim (in-changed p f rs s k) [ inl a ↦ inl (inr a) | inr a ↦ inr (a.0, (inr a.1.0, a.1.1)) ] ]
  ] refl j

  quant-by : (q : ℕ) (f : OwnedQuant → OwnedQuant) → HasQuant q g → ((r : OwnedQuant) → (f r).id ≡ r.id)
      → ((n : Node) (r : OwnedQuant) → In n g.boxes → In r n.quants → r.id ≡ q → Below g.boxes n.id (f r).over) → Placed (change (owns q) (on_quant q f) g.boxes) g.root
  quant-by q f h same over =
      let o = owner-of q h in
      subst (λ z. Placed z g.root) (sym (at-owner g.boxes g.root w q o.0 (on_quant q f) o.1.0 o.1.1))
      (placed-ids g.boxes w.ordered o.0 o.1.0 (on_quant q f) (λ y. refl) (ids-changed (is_quant q) f same o.0.quants) g.root w
      (λ r j. elim (in-changed (is_quant q) f o.0.quants r j) [
        | inl a ↦ ranked g.boxes w.ordered o.0 r o.1.0 a
        | inr a ↦ subst (λ (z : OwnedQuant). Below g.boxes o.0.id z.over) a.1.1.1 (over o.0 a.0 o.1.0 a.1.0 (eqb-true a.0.id q a.1.1.0))
      ]) (λ p t. w.known o.0 o.1.0 p t))

  pub put-quant : (q : ℕ) (kind : QuantKind) → HasQuant q g → IsPlaced (put_quant q kind g)
  put-quant q kind h = quant-by q (λ r. record r { kind = kind }) h (λ r. refl) (λ n r i j e. ranked g.boxes w.ordered n r i j)

  pub redirected : (q over : ℕ) → HasQuant q g → ((n : Node) → Owned g n q → Below g.boxes n.id over) → IsPlaced (redirect q over g)
  redirected q over h k = quant-by q (λ r. record r { over = over }) h (λ r. refl) (λ n r i j e. k n (i, any-from (is_quant q) r n.quants j (eq-eqb r.id q e)))

  -- ---- a quantifier more
  pub add-quant : (b i : ℕ) (r : OwnedQuant) → HasBox b g → (HasQuant r.id g → ⊥) → Below g.boxes b r.over → IsPlaced (with_quant b i r g)
  add-quant b i r h fresh over =
      let x = has-in b g.boxes h in
      let f = put_range i r in
      let absent : list_any (owns r.id) g.boxes ≡ false = (elim (cases_Bool (list_any (owns r.id) g.boxes)) [ inl t ↦ absurd (fresh t) | inr n ↦ n ]) in
      subst (λ z. Placed z g.root) (sym (at-box g.boxes g.root w b f))
      (subst (λ z. Placed (map (at z f) g.boxes) g.root) x.1.1 (record {
        rooted = has-map (at x.0.id f) (g-id g.boxes w.ordered x.0 x.1.0 f (λ y. refl)) g.boxes g.root ∙ w.rooted;
        ordered = ordered-after g.boxes w.ordered x.0 x.1.0 f (λ y. refl) (λ s j. elim (in-put i r x.0.quants s j) [
          | inl e ↦ subst (λ (z : OwnedQuant). Below g.boxes x.0.id z.over) e (subst (λ z. Below g.boxes z r.over) (sym x.1.1) over)
          | inr k ↦ ranked g.boxes w.ordered x.0 s x.1.0 k
        ]);
        once = λ q. (
            let a = counted g.boxes w.ordered x.0 x.1.0 f (λ y. refl) ids_of q in
            let c = times-put q i r x.0.quants in
            let d = w.once q in
            elim (cases_Bool (r.id == q)) [
              | inl t ↦ (let e : times q (ids_in g.boxes) ≡ 0 = subst (λ z. times z (ids_in g.boxes) ≡ 0) (eqb-true r.id q t) (unowned-times r.id g.boxes absent) in
                  let k : ◌≡◌ {A = ℕ} (cond (r.id == q) 1 0) 1 = ap (λ (b : Bool). cond {A = ℕ} b 1 0) t in omega arith)
              | inr n ↦ (let k : ◌≡◌ {A = ℕ} (cond (r.id == q) 1 0) 0 = ap (λ (b : Bool). cond {A = ℕ} b 1 0) n in omega arith)
            ]);
        known = λ n j q t. (
            let owned : list_any (owns q) g.boxes ≡ true = (elim (in-after g.boxes w.ordered x.0 x.1.0 f (λ y. refl) n j) [
              | inl e ↦ w.known x.0 x.1.0 q (subst (λ z. holds q (named_by z) ≡ true) (sym e) t)
              | inr e ↦ w.known n e.0 q t
            ]) in
            let o = owner-of q owned in
            elim (g-cases g.boxes w.ordered x.0 x.1.0 f (λ y. refl) o.0 o.1.0) [
              | inl e ↦ any-from (owns q) (f x.0) (map (at x.0.id f) g.boxes) (b-after g.boxes w.ordered x.0 x.1.0 f (λ y. refl)) (any-put (is_quant q) i r x.0.quants (subst (λ z. owns q z ≡ true) e.0 o.1.1))
              | inr e ↦ any-from (owns q) o.0 (map (at x.0.id f) g.boxes) (other-after g.boxes w.ordered x.0 x.1.0 f (λ y. refl) o.0 o.1.0 e.0) o.1.1
            ]);
      }))

  -- ---- a quantifier less
  module _ (q : ℕ) (o : Node) (i : In o g.boxes) (h : owns q o ≡ true) where
    abbrev pub lost : Node → Node
    lost = without_quant q

    abbrev pub less : List Node
    less = map (at o.id lost) g.boxes

    pub less-is : change (owns q) lost g.boxes ≡ less
    less-is = at-owner g.boxes g.root w q o lost i h

    pub less-ordered : Ordered less
    less-ordered = ordered-after g.boxes w.ordered o i lost (λ y. refl) (λ r j. ranked g.boxes w.ordered o r i (in-less (is_quant q) o.quants r j))

    pub less-rooted : has_box less g.root ≡ true
    less-rooted = has-map (at o.id lost) (g-id g.boxes w.ordered o i lost (λ y. refl)) g.boxes g.root ∙ w.rooted

    pub less-once : (p : ℕ) → times p (ids_in less) ≤ 1
    less-once p = let a = counted g.boxes w.ordered o i lost (λ y. refl) ids_of p in let c = times-less p (is_quant q) (λ r. r.id) o.quants in let d = w.once p in omega arith

    -- the others are still owned
    pub less-owned : (p : ℕ) → (q == p) ≡ false → list_any (owns p) g.boxes ≡ true → list_any (owns p) less ≡ true
    less-owned p f t =
        let x = owner-of p t in
        elim (g-cases g.boxes w.ordered o i lost (λ y. refl) x.0 x.1.0) [
          | inl e ↦ (
              let s = any-in (is_quant p) o.quants (subst (λ z. owns p z ≡ true) e.0 x.1.1) in
              let n : (s.0.id == q) ≡ false = (elim (cases_Bool (s.0.id == q)) [ inr n ↦ n | inl y ↦ absurd (clash (q == p) (eq-eqb q p (sym (eqb-true s.0.id q y) ∙ eqb-true s.0.id p s.1.1)) f) ]) in
              any-from (owns p) (lost o) less (b-after g.boxes w.ordered o i lost (λ y. refl)) (any-from (is_quant p) s.0 (without (is_quant q) o.quants) (less-in (is_quant q) o.quants s.0 s.1.0 n) s.1.1))
          | inr e ↦ any-from (owns p) x.0 less (other-after g.boxes w.ordered o i lost (λ y. refl) x.0 x.1.0 e.0) x.1.1
        ]

    pub less-named : (n : Node) → In n less → (p : ℕ) → holds p (named_by n) ≡ true → (y : Node) × (In y g.boxes × (holds p (named_by y) ≡ true))
    less-named n j p t = elim (in-after g.boxes w.ordered o i lost (λ y. refl) n j) [ inl e ↦ (o, (i, subst (λ z. holds p (named_by z) ≡ true) (sym e) t)) | inr e ↦ (n, (e.0, t)) ]

  pub drop-quant : (q : ℕ) → HasQuant q g → ((n : Node) → In n g.boxes → holds q (named_by n) ≡ false) → IsPlaced (drop_quant q g)
  drop-quant q h none =
      let o = owner-of q h in
      subst (λ z. Placed z g.root) (sym (less-is q o.0 o.1.0 o.1.1)) (record {
        rooted = less-rooted q o.0 o.1.0 o.1.1;
        ordered = less-ordered q o.0 o.1.0 o.1.1;
        once = less-once q o.0 o.1.0 o.1.1;
        known = λ n j p t. (
            let y = less-named q o.0 o.1.0 o.1.1 n j p t in
            less-owned q o.0 o.1.0 o.1.1 p (elim (cases_Bool (q == p)) [ inr f ↦ f | inl e ↦ absurd (clash (holds p (named_by y.0)) y.1.1 (subst (λ z. holds z (named_by y.0) ≡ false) (eqb-true q p e) (none y.0 y.1.0))) ]) (w.known y.0 y.1.0 p y.1.1));
      })
