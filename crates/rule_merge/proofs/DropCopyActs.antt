-- M2 preserves.
use Rattle.std.proofs.Common.{ℕ, ◌<◌, ◌==◌, ◌≡◌, ◌≤◌, cond, not, Bool, true, false, List, [], ◌∷◌, filter, length, map, Some, refl, sym, ap, subst, ◌∙◌, eqb-true, inl, inr, arith}
use Rattle.std.proofs.lemmas.Bool.{and_parts, cases_Bool, not-true}
use Rattle.std.specs.Prelude.{slice_get}
use Rattle.qgm_core.specs.Boxes.{HasBox, Ordered, QueryGraph, box_of, has_box, is_box, numbers, quant_by, quants_in, quants_of}
use Rattle.qgm_core.specs.declared.owned.Quant.{Quant}
use Rattle.qgm_core.specs.Edits.{compact, on_boxes}
use Rattle.qgm_core.specs.Free.{Reaches, itself, reached, through}
use Rattle.qgm_core.specs.Kinds.{is_F, is_enforce}
use Rattle.list_laws.specs.Lists.{EachOnce, In, first, holds, without}
use Rattle.qgm_core.specs.declared.node.Node.{Node}
use Rattle.qgm_core.specs.declared.owned.OwnedQuant.{OwnedQuant}
use Rattle.qgm_wellformed.specs.Sentences.{WellFormed}
use Rattle.qgm_wellformed.proofs.Faults.{finds-none}
use Rattle.qgm_meaning.specs.Satisfies.{Satisfies}
use Rattle.rule_merge.specs.Dropped.{MayDrop, dropped}
use Rattle.qgm_edit_laws.specs.Ranges.{moved, moved_range}
use Rattle.qgm_edit_laws.specs.Graph.{Sound}
use Rattle.qgm_edit_laws.proofs.Compact.{reached_boxes}
use Rattle.qgm_edit_laws.proofs.Edits.{boxes_without, in-without, ordered-edit, without-in, without-one}
use Rattle.qgm_edit_laws.proofs.Formed.{sound-checked}
use Rattle.qgm_edit_laws.proofs.Ranks.{place, place-under, same-box}
use Rattle.rule_merge.proofs.DropCopyKeeps.{drop-keeps}
use Rattle.rule_merge.proofs.DropCopyFormed.{drop-formed}
use Rattle.qgm_edit_laws.proofs.WellFormedKept.{numbers-once}
use Rattle.rule_api.specs.Rules.{Preserves}
use Rattle.rule_api.specs.declared.place.Place.{Place}
use Rattle.rule_merge.specs.DropCopy.{copies, may_go, DropsBox, DropsCopy, IsCopy}
use Rattle.rule_merge.specs.DropCopyExact.{found-from}
use Rattle.rule_merge.specs.DropCopySteps.{drop_steps}
use Rattle.rule_facts.proofs.Preserved.{preserves-kept, satisfies-kept, satisfies-map, satisfies-without}
use Rattle.rule_facts.proofs.Reach.{kept-same}
use Rattle.rule_merge.proofs.DropCopyTurned.{turned-all}
use Rattle.rule_facts.proofs.Unreached.{reached-without}
use Rattle.qgm_core.proofs.Reaching.{overs-held}
use Rattle.list_laws.proofs.Membership.{any-from, eq-false-sym, in-map, map-in}

-- what is found is there, and passes
pub found-in : {X : Type 0} (p : X → Bool) (xs : List X) (x : X) → first p xs ≡ Some x → In x xs × (p x ≡ true)
found-in p [] x e = absurd (let z : ⊥ = cc in z)
found-in {X} p (y ∷ xs) x e = elim (p y) as (λ t. p y ≡ t → cond t (Some y) (first p xs) ≡ Some x → In x (y ∷ xs) × (p x ≡ true)) [
  | true ↦ λ t h. (let q : y ≡ x = cc in (inl q, subst (λ z. p z ≡ true) q t))
  | false ↦ λ t h. (let r = found-in p xs x h in (inr r.0, r.1))
] refl e

moved-without : (b c d : ℕ) (ns : List Node) → boxes_without d (map (moved b c) ns) ≡ map (moved b c) (boxes_without d ns)
moved-without b c d [] = refl
moved-without b c d (n ∷ ns) = elim (n.id == d) as (λ t. ◌≡◌ {A = List Node} (cond t (boxes_without d (map (moved b c) ns)) (moved b c n ∷ boxes_without d (map (moved b c) ns))) (map (moved b c) (cond t (boxes_without d ns) (n ∷ boxes_without d ns)))) [
  | true ↦ moved-without b c d ns
  | false ↦ ap (λ z. moved b c n ∷ z) (moved-without b c d ns)
]

-- without the first that passes, before or after boxes change where they stand
without-mapped : (p : Node → Bool) (f : Node → Node) → ((n : Node) → p (f n) ≡ p n) → (ns : List Node) → without p (map f ns) ≡ map f (without p ns)
without-mapped p f same [] = refl
without-mapped p f same (n ∷ ns) =
    ap (λ t. cond t (map f ns) (f n ∷ without p (map f ns))) (same n)
    ∙ (elim (p n) as (λ t. ◌≡◌ {A = List Node} (cond t (map f ns) (f n ∷ without p (map f ns))) (map f (cond t ns (n ∷ without p ns)))) [
      | true ↦ refl
      | false ↦ ap (λ z. f n ∷ z) (without-mapped p f same ns)
    ])

module _ (g : QueryGraph) (u : EachOnce (numbers g.boxes)) (f : WellFormed g) (b c : Node) (r : OwnedQuant) (p : Place) (away : (p.at == g.root) ≡ false) (found : box_of p.at g ≡ Some b) (m : IsCopy g b c r) where
  abbrev at : ℕ
  at = p.at

  sound : Sound g.boxes g.root
  sound = ((sound-checked g u).0 ((finds-none g u).1 f)).0

  in-b : In b g.boxes
  in-b = (found-in (is_box at) g.boxes b found).0

  at-b : b.id ≡ at
  at-b = eqb-true b.id at (found-in (is_box at) g.boxes b found).1

  not-root : (g.root == b.id) ≡ false
  not-root = eq-false-sym b.id g.root (subst (λ z. (z == g.root) ≡ false) (sym at-b) away)

  over-c : c.id ≡ r.over
  over-c = eqb-true c.id r.over (found-in (is_box r.over) g.boxes c m.under).1

  may : MayDrop g b c r
  may = record {
    in_b = in-b;
    in_c = (found-in (is_box r.over) g.boxes c m.under).0;
    a_select = m.a_select;
    not_enforced = ap is_enforce m.preserves;
    not_root = not-root;
    alone = m.alone;
    is_f = ap is_F m.is_f;
    over_c = sym over-c;
    no_conds = m.no_conjunct;
    all_columns = m.all_columns;
  }

  c-not-b : (r.over == b.id) ≡ false
  c-not-b = elim (cases_Bool (r.over == b.id)) [
    | inr n ↦ n
    | inl t ↦ absurd (
        let less = place-under g.boxes b r sound.ordered in-b (subst (λ z. In r z) (sym m.alone) (inl refl)) in
        let e : place g.boxes r.over ≡ place g.boxes b.id = ap (place g.boxes) (eqb-true r.over b.id t) in omega arith)
  ]

  unused : (n : Node) (s : OwnedQuant) → In n (map (moved b.id r.over) g.boxes) → In s n.quants → (s.over == b.id) ≡ false
  unused n s i j =
      let y = in-map (moved b.id r.over) n g.boxes i in
      let x = in-map (moved_range b.id r.over) s y.0.quants (subst (λ (z : Node). In s z.quants) (sym y.1.1) j) in
      subst (λ (z : OwnedQuant). (z.over == b.id) ≡ false) x.1.1 (elim (x.0.over == b.id) as (λ t. (x.0.over == b.id) ≡ t → (cond t r.over x.0.over == b.id) ≡ false) [ true ↦ λ t. c-not-b | false ↦ λ t. t ] refl)

  -- the boxes after it are those of the law
  same : compact (on_boxes (map (moved b.id r.over)) g) ≡ dropped b c g
  same =
      ap (λ z. record g { boxes = z }) (
      reached-without b.id g.root (map (moved b.id r.over) g.boxes) not-root unused
      ∙ ap (reached_boxes g.root) (moved-without b.id r.over b.id g.boxes ∙ ap (map (moved b.id r.over)) (without-one b.id g.boxes sound.ordered)))
      ∙ ap (λ z. compact (on_boxes (λ bs. map (moved b.id z) (without (is_box b.id) bs)) g)) (sym over-c)

  preserves : Preserves g (dropped b c g)
  preserves =
      let k = drop-keeps g sound b c r may in
      preserves-kept g (dropped b c g) (numbers-once (dropped b c g).boxes k.well.ordered) k (drop-formed g u ((finds-none g u).1 f) b c r may)
      (λ tables s. (
      let bs = map (moved b.id c.id) (without (is_box b.id) g.boxes) in
      satisfies-kept tables (λ x. holds x (reached (g.root ∷ []) bs)) bs
      (satisfies-map tables (moved b.id c.id) (λ n. refl) (without (is_box b.id) g.boxes)
      (subst (λ z. Satisfies tables z) (without-one b.id g.boxes sound.ordered) (satisfies-without tables b.id g.boxes s)))))

  -- ---- the steps make that graph

  in-r : In r b.quants
  in-r = subst (λ z. In r z) (sym m.alone) (inl refl)

  abbrev ms : List Node
  ms = map (moved b.id r.over) (boxes_without b.id g.boxes)

  abbrev over : OwnedQuant → ℕ
  over x = x.over

  over-then : (s x : OwnedQuant) → moved_range b.id r.over s ≡ x → x.over ≡ cond (s.over == b.id) r.over s.over
  over-then s x e = sym (ap over e)

  ordered-ms : Ordered ms
  ordered-ms = ordered-edit (moved b.id r.over) b.id (λ y. refl) g.boxes sound.ordered (λ y x i f j. (
      let s = in-map (moved_range b.id r.over) x y.quants j in
      subst (λ z. (has_box g.boxes z ≡ true) × (place g.boxes y.id < place g.boxes z) × ((z == b.id) ≡ false)) (sym (over-then s.0 x s.1.1)) (under y s.0 i s.1.0)))
    where
      under : (y : Node) (s : OwnedQuant) → In y g.boxes → In s y.quants → (has_box g.boxes (cond (s.over == b.id) r.over s.over) ≡ true) × (place g.boxes y.id < place g.boxes (cond (s.over == b.id) r.over s.over)) × ((cond (s.over == b.id) r.over s.over == b.id) ≡ false)
      under y s i j =
          let less = place-under g.boxes y s sound.ordered i j in
          elim (cases_Bool (s.over == b.id)) [
            | inl t ↦ subst (λ u. (has_box g.boxes (cond u r.over s.over) ≡ true) × (place g.boxes y.id < place g.boxes (cond u r.over s.over)) × ((cond u r.over s.over == b.id) ≡ false)) (sym t) (
              overs-held g.boxes b r sound.ordered in-b in-r,
              (let down = place-under g.boxes b r sound.ordered in-b in-r in let e : place g.boxes s.over ≡ place g.boxes b.id = ap (place g.boxes) (eqb-true s.over b.id t) in omega arith),
              c-not-b,
            )
            | inr f ↦ subst (λ u. (has_box g.boxes (cond u r.over s.over) ≡ true) × (place g.boxes y.id < place g.boxes (cond u r.over s.over)) × ((cond u r.over s.over == b.id) ≡ false)) (sym f) (overs-held g.boxes y s sound.ordered i j, less, f)
          ]

  -- from a box of before, c in place of b
  abbrev Down : ℕ → ℕ → Type 0
  Down x y = Reaches ms (cond (x == b.id) r.over x) y

  one-down : (n : Node) (x : OwnedQuant) (y : ℕ) → In n g.boxes → In x n.quants → Down x.over y → Down n.id y
  one-down n x y i j h = elim (cases_Bool (n.id == b.id)) [
    | inl t ↦ (
        let e : n ≡ b = same-box g.boxes n b sound.ordered i in-b (eqb-true n.id b.id t) in
        let k : In x (r ∷ []) = subst (λ z. In x z) m.alone (subst (λ (z : Node). In x z.quants) e j) in
        let s : r ≡ x = elim k [ inl p ↦ p | inr z ↦ elim z [ ] ] in
        let l : Down r.over y = subst (λ (z : OwnedQuant). Down z.over y) (sym s) h in
        subst (λ z. Reaches ms (cond z r.over n.id) y) (sym t) (subst (λ z. Reaches ms (cond z r.over r.over) y) c-not-b l))
    | inr f ↦ subst (λ z. Reaches ms (cond z r.over n.id) y) (sym f) (
        through (moved b.id r.over n) (moved_range b.id r.over x) y (map-in (moved b.id r.over) n (boxes_without b.id g.boxes) (without-in b.id n g.boxes i f)) (map-in (moved_range b.id r.over) x n.quants j) h)
  ]

  down : (x y : ℕ) → Reaches g.boxes x y → (y == b.id) ≡ false → Down x y
  down x y (itself z) f = subst (λ t. Reaches ms (cond t r.over z) z) (sym f) (itself z)
  down x y (through n d z i j h) f = one-down n d z i j (down d.over z h f)

  one-up : (n : Node) (x : OwnedQuant) (y : ℕ) → In n ms → In x n.quants → Reaches g.boxes x.over y → Reaches g.boxes n.id y
  one-up n x y i j h =
      let o = in-map (moved b.id r.over) n (boxes_without b.id g.boxes) i in
      let in-o = (in-without b.id o.0 g.boxes o.1.0).0 in
      let s = in-map (moved_range b.id r.over) x o.0.quants (subst (λ (z : Node). In x z.quants) (sym o.1.1) j) in
      let k : Reaches g.boxes (cond (s.0.over == b.id) r.over s.0.over) y = subst (λ z. Reaches g.boxes z y) (over-then s.0 x s.1.1) h in
      subst (λ (z : Node). Reaches g.boxes z.id y) o.1.1 (through o.0 s.0 y in-o s.1.0 (elim (cases_Bool (s.0.over == b.id)) [
        | inl t ↦ subst (λ z. Reaches g.boxes z y) (sym (eqb-true s.0.over b.id t)) (through b r y in-b in-r (subst (λ z. Reaches g.boxes (cond z r.over s.0.over) y) t k))
        | inr f ↦ subst (λ z. Reaches g.boxes (cond z r.over s.0.over) y) f k
      ]))

  up : (x y : ℕ) → Reaches ms x y → Reaches g.boxes x y
  up x y (itself z) = itself z
  up x y (through n d z i j h) = one-up n d z i j (up d.over z h)

  not-b : (n : Node) → In n ms → (n.id == b.id) ≡ false
  not-b n i =
      let o = in-map (moved b.id r.over) n (boxes_without b.id g.boxes) i in
      subst (λ (z : Node). (z.id == b.id) ≡ false) o.1.1 (in-without b.id o.0 g.boxes o.1.0).1

  abbrev kept-then : List Node → List Node
  kept-then z = filter (λ n. holds n.id (reached (g.root ∷ []) g.boxes)) z

  steps-made : drop_steps b.id r.over g ≡ compact (on_boxes (map (moved b.id r.over)) g)
  steps-made = ap (λ z. record g { boxes = z }) (
      ap (λ z. kept-then (without (is_box b.id) z)) (turned-all b.id r.over g.boxes sound.once)
      ∙ ap (λ z. kept-then z) (without-mapped (is_box b.id) (moved b.id r.over) (λ n. refl) g.boxes ∙ ap (map (moved b.id r.over)) (sym (without-one b.id g.boxes sound.ordered)))
      ∙ kept-same g.boxes ms g.root sound.ordered ordered-ms
      (λ n i h. subst (λ z. Reaches ms (cond z r.over g.root) n.id) not-root (down g.root n.id h (not-b n i)))
      (λ n i h. up g.root n.id h)
      ∙ ap (reached_boxes g.root) (sym (moved-without b.id r.over b.id g.boxes))
      ∙ sym (reached-without b.id g.root (map (moved b.id r.over) g.boxes) not-root unused))

  -- what the code makes
  made : (h : QueryGraph) → h ≡ drop_steps at r.over g → h ≡ compact (on_boxes (map (moved at r.over)) g)
  made h e = e ∙ subst (λ z. drop_steps z r.over g ≡ compact (on_boxes (map (moved z r.over)) g)) at-b steps-made

  pub acts : (h : QueryGraph) → h ≡ drop_steps at r.over g → DropsBox p g h b r
  acts h e = record { at = found; one = m.alone; after = made h e }

  pub after : (h : QueryGraph) → h ≡ drop_steps at r.over g → Preserves g h
  after h e = subst (λ z. Preserves g z) (sym (made h e ∙ ap (λ z. compact (on_boxes (map (moved z r.over)) g)) (sym at-b) ∙ same)) preserves

-- ---- what the code needs, where the test passes

module _ (g : QueryGraph) (p : Place) (passes : may_go g p.at ≡ true) where
  away : (p.at == g.root) ≡ false
  away = not-true (p.at == g.root) (and_parts (not (p.at == g.root)) (copies g p.at) passes).0

  h : copies g p.at ≡ true
  h = (and_parts (not (p.at == g.root)) (copies g p.at) passes).1

  abbrev b : Node
  b = (found-from g (box_of p.at g) h).0

  abbrev c : Node
  c = (found-from g (box_of p.at g) h).1.0

  abbrev r : OwnedQuant
  r = (found-from g (box_of p.at g) h).1.1.0

  found : box_of p.at g ≡ Some b
  found = (found-from g (box_of p.at g) h).1.1.1.0

  is : IsCopy g b c r
  is = (found-from g (box_of p.at g) h).1.1.1.1

  quants : quants_of p.at g ≡ r ∷ []
  quants = ap quants_in found ∙ is.alone

  pub held_of : HasBox p.at g
  held_of = let i = found-in (is_box p.at) g.boxes b found in any-from (is_box p.at) b g.boxes i.0 i.1

  pub one_of : 1 ≤ length (quants_of p.at g)
  one_of = let e : length (quants_of p.at g) ≡ 1 = ap length quants in omega arith

  module _ (q : Quant) (e : Some q ≡ quant_by p.at (slice_get (quants_of p.at g) 0)) where
    over-is : r.over ≡ q.over
    over-is = let k : Some q ≡ Some (record { owner = p.at; kind = r.kind; over = r.over }) = e ∙ ap (λ z. quant_by p.at (slice_get z 0)) quants in let s : q ≡ record { owner = p.at; kind = r.kind; over = r.over } = cc in ap (λ (z : Quant). z.over) (sym s)

    pub over_held : HasBox q.over g
    over_held = let i = found-in (is_box r.over) g.boxes c is.under in subst (λ z. HasBox z g) over-is (any-from (is_box r.over) c g.boxes i.0 i.1)

    module _ (u : EachOnce (numbers g.boxes)) (f : WellFormed g) (z : QueryGraph) (made : z ≡ drop_steps p.at q.over g) where
      now : z ≡ drop_steps p.at r.over g
      now = subst (λ x. z ≡ drop_steps p.at x g) (sym over-is) made

      pub acts_of : DropsCopy p g z
      unfolding DropsCopy
      acts_of = (b, (r, acts g u f b c r p away found is z now))

      pub preserves_of : Preserves g z
      preserves_of = after g u f b c r p away found is z now
