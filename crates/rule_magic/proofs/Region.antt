-- What boxes look up that an open operand reaches, and what becomes of them where names change.
use Rattle.std.proofs.Common.{ℕ, zero, suc, ◌==◌, ◌≡◌, ◌≤◌, ◌<◌, ◌&&◌, ◌||◌, not, Bool, true, false, List, ◌∷◌, ◌++◌, map, refl, sym, ap, subst, ◌∙◌, eqb-true, ◌⊎◌, inl, inr, arith}
use Rattle.std.specs.List.{list_any}
use Rattle.std.proofs.lemmas.Bool.{and_from, and_parts, cases_Bool, eq-eqb, not-true, or_cases, or_left, or_right}
use Rattle.qgm_core.specs.Boxes.{Ordered, has_box, is_quant, overs_in, owns, width}
use Rattle.qgm_core.specs.Free.{Reaches, itself, named_by, through}
use Rattle.qgm_core.specs.Kinds.{width_by}
use Rattle.list_laws.specs.Lists.{In, holds, times}
use Rattle.qgm_core.specs.declared.node.Node.{Node}
use Rattle.qgm_core.specs.declared.owned.OwnedQuant.{OwnedQuant}
use Rattle.qgm_core.proofs.Reaching.{overs-held, reached-reaches}
use Rattle.qgm_meaning.specs.Scope.{loose, put_node, read_by}
use Rattle.qgm_meaning.specs.Tags.{columns_from}
use Rattle.qgm_terms.specs.Substitution.{substituted}
use Rattle.qgm_edit_laws.specs.Graph.{ArmsBy, Fits, Sound, nodes_in, reads_in}
use Rattle.qgm_edit_laws.specs.Placed.{place}
use Rattle.qgm_edit_laws.specs.Rebuilds.{StaysIn}
use Rattle.qgm_edit_laws.proofs.Adds.{loose-owned, reads-at-read}
use Rattle.qgm_edit_laws.proofs.Compact.{Drops, reaches}
use Rattle.qgm_edit_laws.proofs.Edits.{length-map, split-once}
use Rattle.qgm_edit_laws.proofs.Ranks.{has-in, place-under, same-box}
use Rattle.qgm_edit_laws.proofs.Read.{named-split}
use Rattle.qgm_edit_laws.proofs.Rebuilt.{one-quant}
use Rattle.qgm_edit_laws.proofs.Scope.{above-owner, bound-owned, climb, one-owner, one-parent, touched}
use Rattle.qgm_edit_laws.proofs.Turns.{split-in}
use Rattle.qgm_edit_laws.proofs.Unchanged.{same-node}
use Rattle.rule_magic.specs.Region.{ArmHasRegion, IsArm, IsRegion, RegionRenames, RegionStays, RenamesBelow, is_below}
use Rattle.rule_magic.specs.Renamed.{LooksRenamed, MayRename}
use Rattle.list_laws.proofs.Booleans.{clash}
use Rattle.list_laws.proofs.Counting.{times-in}
use Rattle.list_laws.proofs.Membership.{any-from, any-in, any-none, eq-itself, in-append}

-- what a box reaches stands no higher
below-reach : (bs : List Node) → Ordered bs → (a b : ℕ) → Reaches bs a b → place bs a ≤ place bs b
below-reach bs o a b (itself x) = omega arith
below-reach bs o a b (through n r x i j h) = let u = below-reach bs o r.over x h in let v = place-under bs n r o i j in omega (arith, u, v)

module _ (bs : List Node) (root : ℕ) (o : Node) (r : OwnedQuant) (a : ℕ) (w : Sound bs root) (arm : IsArm bs o r a) where
  abbrev ins : ℕ → Bool
  ins = is_below bs r.over

  drops : Drops (is_below bs r.over) bs r.over
  drops = reaches bs r.over w.ordered

  above : (b : ℕ) → place bs b < place bs r.over → is_below bs r.over b ≡ false
  above b l = elim (cases_Bool (ins b)) [
    | inr f ↦ f
    | inl t ↦ absurd (let u = below-reach bs w.ordered r.over b ((reached-reaches bs w.ordered r.over b).0 t) in omega (arith, u, l))
  ]

  apart : (n : Node) → In n bs → is_below bs r.over n.id ≡ true → owns a n ≡ false
  apart n i t = elim (cases_Bool (owns a n)) [ inr f ↦ f | inl h ↦ absurd (clash (ins n.id) t (above n.id (above-owner bs root w r.over a arm.opened n i h))) ]

  used : times r.over (overs_in bs) ≡ 1
  used = w.used r.over a arm.opened

  -- what is looked up where the arm reaches is looked up in the arm, or owned on the way
  climb-by : (k b q : ℕ) → place bs b < k → is_below bs r.over b ≡ true → loose bs b q ≡ true → (loose bs r.over q ≡ true) ⊎ ((x : Node) × (In x bs × ((is_below bs r.over x.id ≡ true) × (owns q x ≡ true))))
  climb-by zero b q l t h = absurd (omega (arith, l))
  climb-by (suc k) b q l t h = elim (drops.under b t) [
    | inl e ↦ inl (subst (λ y. loose bs y q ≡ true) e h)
    | inr u ↦ (
        let s = u.1.1.1.0 in
        let over : s.over ≡ b = u.1.1.1.1.1 in
        let up : place bs u.0.id < place bs b = subst (λ y. place bs u.0.id < place bs y) over (place-under bs u.0 s w.ordered u.1.0 u.1.1.1.1.0) in
        elim (climb bs root w u.0 s q u.1.0 u.1.1.1.1.0 (subst (λ y. loose bs y q ≡ true) (sym over) h)) [
          | inl z ↦ inr (u.0, (u.1.0, (u.1.1.0, bound-owned q u.0.quants z.1)))
          | inr z ↦ climb-by k u.0.id q (omega (arith, l, up)) u.1.1.0 z
        ])
  ]

  looks : (b q : ℕ) → is_below bs r.over b ≡ true → loose bs b q ≡ true → (q ≡ a) ⊎ ((x : Node) × (In x bs × ((is_below bs r.over x.id ≡ true) × (owns q x ≡ true))))
  looks b q t h = elim (climb-by (suc (place bs b)) b q (omega arith) t h) [ inl z ↦ inl (arm.alone q z) | inr z ↦ inr z ]

  beside : (n : Node) (s : OwnedQuant) → In n bs → is_below bs r.over n.id ≡ false → In s n.quants → is_below bs r.over s.over ≡ true → (s ≡ r) ⊎ ((q : ℕ) → loose bs s.over q ≡ false)
  beside n s j out k t = elim (drops.under s.over t) [
    | inl e ↦ inl (
        let same : n ≡ o = one-parent bs root w r.over n o s r (let u = used in omega (arith, u)) j arm.within k arm.owned e refl in
        let so : In s o.quants = subst (λ (z : Node). In s z.quants) same k in
        let sp = split-in r o.quants arm.owned in
        let few : times r.over (map (λ (q : OwnedQuant). q.over) (sp.0 ++ r ∷ sp.1.0)) ≤ 1 =
        subst (λ z. times r.over (map (λ (q : OwnedQuant). q.over) z) ≤ 1) sp.1.1 (
        let le = times-in (λ (n : Node). map (λ (q : OwnedQuant). q.over) n.quants) r.over o bs arm.within in
        let eq = used in omega (arith, le, eq)) in
        elim (in-append s sp.0 (r ∷ sp.1.0) (subst (λ z. In s z) sp.1.1 so)) [
          | inl z ↦ absurd (clash (s.over == r.over) (eq-eqb s.over r.over e) (split-once (λ (q : OwnedQuant). q.over) sp.0 r sp.1.0 few s (inl z)))
          | inr z ↦ elim z [
            | inl z ↦ sym z
            | inr z ↦ absurd (clash (s.over == r.over) (eq-eqb s.over r.over e) (split-once (λ (q : OwnedQuant). q.over) sp.0 r sp.1.0 few s (inr z)))
          ]
        ])
    | inr u ↦ inr (λ q. elim (cases_Bool (loose bs s.over q)) [
      | inr f ↦ f
      | inl h ↦ absurd (
          let one = w.used s.over q h in
          let e : n ≡ u.0 = one-parent bs root w s.over n u.0 s u.1.1.1.0 (omega (arith, one)) j u.1.0 k u.1.1.1.1.0 refl u.1.1.1.1.1 in
          clash (ins n.id) (subst (λ (z : Node). ins z.id ≡ true) (sym e) u.1.1.0) out)
    ])
  ]

  there : (b : ℕ) → is_below bs r.over b ≡ true → has_box bs b ≡ true
  there b t = elim (drops.under b t) [
    | inl e ↦ subst (λ z. has_box bs z ≡ true) (sym e) (overs-held bs o r w.ordered arm.within arm.owned)
    | inr u ↦ subst (λ z. has_box bs z ≡ true) u.1.1.1.1.1 (overs-held bs u.0 u.1.1.1.0 w.ordered u.1.0 u.1.1.1.1.0)
  ]

  region : IsRegion bs r a
  region = record { top = drops.root_kept; there = there; under = λ n s i t j. drops.closed n s i t j; above = above; apart = apart; looks = looks; beside = beside }

  module _ (hs : List Node) (p w' : ℕ) (kept : ℕ → Bool) (look : ℕ → ℕ → Bool) (g : RenamesBelow bs hs kept look r.over a p w') where
    abbrev put : Node → Node
    put n = put_node a (columns_from p 1 w') n

    wide : (n : Node) → width (put_node a (columns_from p 1 w') n) ≡ width n
    wide n = ap (width_by n.parts.kind) (length-map (substituted a (columns_from p 1 w')) n.parts.head)

    p-not-a : (p == a) ≡ false
    p-not-a = elim (cases_Bool (p == a)) [
      | inr f ↦ f
      | inl e ↦ absurd (clash (owns p arm.owner) (subst (λ q. owns q arm.owner ≡ true) (sym (eqb-true p a e)) arm.owns_a) (any-none (owns p) arm.owner bs g.new arm.in_owner))
    ]

    unlooked : (b : ℕ) → loose bs b p ≡ false
    unlooked b = elim (cases_Bool (loose bs b p)) [ inr f ↦ f | inl h ↦ absurd (clash (list_any (owns p) bs) (loose-owned bs root w b p h) g.new) ]

    unowned : (n : Node) → In n bs → owns p n ≡ false
    unowned n i = any-none (owns p) n bs g.new i

    renamed-looks : (b : ℕ) → is_below bs r.over b ≡ true → LooksRenamed bs look a p b
    renamed-looks b t = record {
      to = λ q h. elim (or_cases ((q == p) && loose bs b a) (not (q == a) && loose bs b q) (sym (g.looks b q t) ∙ h)) [
        | inl z ↦ (let e = and_parts (q == p) (loose bs b a) z in inl (eqb-true q p e.0, e.1))
        | inr z ↦ (let e = and_parts (not (q == a)) (loose bs b q) z in inr (not-true (q == a) e.0, e.1))
      ];
      own = λ h. g.looks b p t ∙ or_left ((p == p) && loose bs b a) (not (p == a) && loose bs b p) (and_from (p == p) (loose bs b a) (eq-itself p) h);
      other = λ q f h. g.looks b q t ∙ or_right ((q == p) && loose bs b a) (not (q == a) && loose bs b q) (and_from (not (q == a)) (loose bs b q) (ap not f) h);
    }

    -- what such a box touches, beside a, such a box owns
    touched-here : (n : Node) (q : ℕ) → In n bs → is_below bs r.over n.id ≡ true → (q == a) ≡ false → read_by n q ≡ true → (x : Node) × (In x bs × ((is_below bs r.over x.id ≡ true) × (owns q x ≡ true)))
    touched-here n q i t f h = elim (touched bs root w n q i (or_left (read_by n q) _ h)) [
      | inl z ↦ (n, (i, (t, z)))
      | inr z ↦ elim (looks n.id q t z) [ inl e ↦ absurd (clash (q == a) (eq-eqb q a e) f) | inr x ↦ x ]
    ]

    -- a box under one of these, before and after
    under-box : (x u : Node) (s : OwnedQuant) → In x bs → is_below bs r.over x.id ≡ true → In s x.quants → In u hs → u.id ≡ s.over → (v : Node) × (In v bs × ((v.id ≡ s.over) × (width u ≡ width v)))
    under-box x u s i t j k e =
        let v = has-in s.over bs (overs-held bs x s w.ordered i j) in
        let below : ins v.0.id ≡ true = subst (λ b. ins b ≡ true) (sym v.1.1) (drops.closed x s i t j) in
        let same : u ≡ put v.0 = same-box hs u (put v.0) g.ordered k (g.stand v.0 v.1.0 below) (e ∙ sym v.1.1) in
        (v.0, (v.1.0, (v.1.1, ap width same ∙ wide v.0)))

    fits-still : (n : Node) → In n bs → is_below bs r.over n.id ≡ true → (q k : ℕ) → (q == a) ≡ false → reads_in q k n ≡ true → Fits hs q k
    fits-still n i t q k f h m s u im js e iu eu =
        let x = touched-here n q i t f (reads-at-read q k n h) in
        let y = any-in (is_quant q) x.0.quants x.1.1.1 in
        let one : s ≡ y.0 = one-quant hs g.once s y.0 (m, (im, js)) (put x.0, (g.stand x.0 x.1.0 x.1.1.0, y.1.0)) (e ∙ sym (eqb-true y.0.id q y.1.1)) in
        let v = under-box x.0 u y.0 x.1.0 x.1.1.0 y.1.0 iu (eu ∙ ap (λ (z : OwnedQuant). z.over) one) in
        let z = w.fits n i q k h x.0 y.0 v.0 x.1.0 y.1.0 (eqb-true y.0.id q y.1.1) v.1.0 v.1.1.0 in
        (z.0, subst (λ b. k ≤ b) (sym v.1.1.1) z.1)

    renames : (n : Node) → In n bs → is_below bs r.over n.id ≡ true → loose bs n.id a ≡ true → MayRename bs hs look a p w' n
    renames n i t h = record {
      within = i;
      opened = h;
      no_node = elim (cases_Bool (nodes_in a n)) [ inr f ↦ f | inl e ↦ absurd (clash (owns a n) (w.own_nodes n i a e).0 (apart n i t)) ];
      places = λ k e. g.places n k i e;
      unlooked = unlooked;
      unowned = unowned n i;
      unnamed = elim (cases_Bool (nodes_in p n)) [ inr f ↦ f | inl e ↦ absurd (clash (owns p n) (w.own_nodes n i p e).0 (unowned n i)) ];
      apart = p-not-a;
      itself = renamed-looks n.id t;
      under = λ s j. renamed-looks s.over (drops.closed n s i t j);
      fits = fits-still n i t;
      fits_p = g.fits_p;
      arms = λ u s j k e. (let v = under-box n u s i t j k e in subst (λ b. ArmsBy n.parts.kind b (width n)) (sym v.1.1.1) (w.arms n v.0 s i j v.1.0 v.1.1.0));
    }

    module _ (n : Node) (i : In n bs) (t : is_below bs r.over n.id ≡ true) (closed : loose bs n.id a ≡ false) where
      unread : read_by n a ≡ true → ⊥
      unread h = elim (touched bs root w n a i (or_left (read_by n a) _ h)) [ inl z ↦ clash (owns a n) z (apart n i t) | inr z ↦ clash (loose bs n.id a) z closed ]

      same-looks : (b : ℕ) → is_below bs r.over b ≡ true → loose bs b a ≡ false → (q : ℕ) → look b q ≡ loose bs b q
      same-looks b k f q = g.looks b q k ∙ ap (λ v. ((q == p) && v) || (not (q == a) && loose bs b q)) f ∙ ap (λ v. v || (not (q == a) && loose bs b q)) (and-none (q == p)) ∙ elim (cases_Bool (q == a)) [
        | inr e ↦ ap (λ v. not v && loose bs b q) e
        | inl e ↦ ap (λ v. not v && loose bs b q) e ∙ sym (subst (λ q. loose bs b q ≡ false) (sym (eqb-true q a e)) f)
      ]
        where
          and-none : (v : Bool) → (v && false) ≡ false
          and-none true = refl
          and-none false = refl

      under-closed : (s : OwnedQuant) → In s n.quants → loose bs s.over a ≡ false
      under-closed s j = elim (cases_Bool (loose bs s.over a)) [
        | inr f ↦ f
        | inl h ↦ absurd (elim (climb bs root w n s a i j h) [ inl z ↦ clash (owns a n) (bound-owned a n.quants z.1) (apart n i t) | inr z ↦ clash (loose bs n.id a) z closed ])
      ]

      named-here : (q : ℕ) → holds q (named_by n) ≡ true → (x : Node) × (In x bs × ((is_below bs r.over x.id ≡ true) × (owns q x ≡ true)))
      named-here q h = elim (or_cases (read_by n q) (nodes_in q n) (named-split q n h)) [
        | inr z ↦ (n, (i, (t, (w.own_nodes n i q z).0)))
        | inl z ↦ elim (cases_Bool (q == a)) [ inl e ↦ absurd (unread (subst (λ q. read_by n q ≡ true) (eqb-true q a e) z)) | inr e ↦ touched-here n q i t e z ]
      ]

      stays : StaysIn bs hs kept look n
      stays = record {
        within = i;
        number = g.keeps n.id t;
        same = same-looks n.id t closed;
        over = λ s j. (let k = drops.closed n s i t j in (g.keeps s.over k, same-looks s.over k (under-closed s j)));
        named = λ s h v. (
            let x = named-here s.id h in
            let same : v.0 ≡ x.0 = one-owner bs root w s.id v.0 x.0 v.1.0 x.1.0 (any-from (is_quant s.id) s v.0.quants v.1.1 (eq-itself s.id)) x.1.1.1 in
            let j : In s x.0.quants = subst (λ (z : Node). In s z.quants) same v.1.1 in
            (g.keeps s.over (drops.closed x.0 s x.1.0 x.1.1.0 j), (s, ((put x.0, (g.stand x.0 x.1.0 x.1.1.0, j)), (refl, refl)))));
      }

      unput : put_node a (columns_from p 1 w') n ≡ n
      unput = same-node a (columns_from p 1 w') n (λ k h. absurd (unread (reads-at-read a k n h)))

pub arm-has-region : ArmHasRegion
arm-has-region = λ bs root o r a w arm. region bs root o r a w arm

pub region-renames : RegionRenames
region-renames = λ bs hs root o r a p w kept look v arm g n i t h. renames bs root o r a v arm hs p w kept look g n i t h

pub region-stays : RegionStays
region-stays = λ bs hs root o r a p w kept look v arm g n i t h. (unput bs root o r a v arm hs p w kept look g n i t h, stays bs root o r a v arm hs p w kept look g n i t h)
