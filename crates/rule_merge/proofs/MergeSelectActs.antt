-- The steps of M1's action make the graph of its law.
use Rattle.std.proofs.Common.{ℕ, suc, ◌<◌, ◌-◌, ◌==◌, ◌&&◌, ◌||◌, ◌≡◌, ◌≤◌, not, cond, true, false, List, [], ◌∷◌, ◌++◌, drop, length, map, take, filter, refl, sym, ap, subst, ◌∙◌, eqb-true, ◌⊎◌, inl, inr, arith}
use Rattle.std.proofs.lemmas.Bool.{and_from, and_parts, cases_Bool, eq-eqb, not-true, or_left}
use Rattle.qgm_wellformed.proofs.Faults.{finds-none}
use Rattle.qgm_wellformed.specs.Sentences.{WellFormed}
use Rattle.qgm_core.specs.Boxes.{HasBox, Ordered, QueryGraph, has_box, is_box, numbers, overs_in, overs_of, quants_in, quants_of}
use Rattle.qgm_core.specs.Edits.{absorb, absorbed, keep, on_boxes, spliced_at, with_quants, with_terms}
use Rattle.qgm_core.specs.Free.{Reaches, itself, reached, through}
use Rattle.list_laws.specs.Lists.{EachOnce, In, change, first, holds, times, without}
use Rattle.qgm_core.specs.declared.node.Node.{Node}
use Rattle.qgm_core.specs.declared.owned.OwnedQuant.{OwnedQuant}
use Rattle.qgm_edit_laws.specs.Graph.{Sound}
use Rattle.rule_merge.specs.Merged.{merge_node, merged}
use Rattle.qgm_edit_laws.proofs.Compact.{reached_boxes}
use Rattle.qgm_edit_laws.proofs.Edits.{OnceEach, boxes_without, in-without, once-each, once-without, ordered-edit, split-once, without-in, without-one}
use Rattle.qgm_edit_laws.proofs.Formed.{sound-checked}
use Rattle.qgm_edit_laws.proofs.Levels.{some-in}
use Rattle.qgm_edit_laws.proofs.OneBox.{at, change-at, has-map}
use Rattle.qgm_edit_laws.proofs.Ranks as ranks
use Rattle.qgm_edit_laws.proofs.Ranks.{place-under, same-box}
use Rattle.qgm_meaning.specs.Scope.{put_node}
use Rattle.qgm_terms.specs.Conjuncts.{Conjuncts}
use Rattle.qgm_terms.specs.Substitution.{substituted, substituted_cond}
use Rattle.qgm_terms.specs.Terms.{Cond, Term}
use Rattle.rule_merge.specs.MergeSelectExact.{own-apart, spliced-at}
use Rattle.rule_merge.specs.MergeSelect.{merged_with, spliced}
use Rattle.rule_merge.specs.MergeSelectSteps.{MayStep, Plans, Stands, is_changed, merge_steps, new_terms, put_all, reads_any, terms_for}
use Rattle.rule_merge.specs.declared.merge_select.action.MergePlan.{MergePlan}
use Rattle.rule_merge.specs.declared.merge_select.action.NewTerms.{NewTerms}
use Rattle.rule_facts.proofs.Lists.{at-id}
use Rattle.rule_merge.proofs.MergeSelectPut.{after, put-each}
use Rattle.rule_facts.proofs.Reach.{kept-same}
use Rattle.rule_merge.proofs.MergeSelectUnread.{cells-none}
use Rattle.qgm_core.proofs.Reaching.{in-has, overs-held}
use Rattle.list_laws.proofs.Counting.{in-times, times-in, times-once}
use Rattle.list_laws.proofs.Membership.{eq-itself, in-append, in-filter, in-left, in-map, in-right, map-in, map-same}
use Rattle.list_laws.proofs.Booleans.{clash}
use Rattle.list_laws.proofs.Indexed.{get-in, get-less, split-at}

module _ (g : QueryGraph) (u : EachOnce (numbers g.boxes)) (w : WellFormed g) (b : Node) (place : ℕ) (r : OwnedQuant) (c : Node) (s : Stands g b place r c) where
  abbrev bs : List Node
  bs = g.boxes

  abbrev i : ℕ
  i = place - 1

  abbrev q : ℕ
  q = r.id

  abbrev us : List OwnedQuant
  us = take i b.quants

  abbrev vs : List OwnedQuant
  vs = drop (suc i) b.quants

  abbrev over : OwnedQuant → ℕ
  over x = x.over

  sound : Sound bs g.root
  sound = ((sound-checked g u).0 ((finds-none g u).1 w)).0

  once : OnceEach bs
  once = once-each bs sound.ordered

  in-b : In b bs
  in-b = (some-in (is_box b.id) bs b s.at).0

  in-c : In c bs
  in-c = (some-in (is_box r.over) bs c s.under).0

  over-c : c.id ≡ r.over
  over-c = eqb-true c.id r.over (some-in (is_box r.over) bs c s.under).1

  split : b.quants ≡ us ++ r ∷ vs
  split = split-at i b.quants r s.nth

  in-r : In r b.quants
  in-r = get-in i b.quants r s.nth

  -- b and c are two boxes
  apart : (b.id == c.id) ≡ false
  apart = elim (cases_Bool (b.id == c.id)) [
    | inr f ↦ f
    | inl t ↦ absurd (
        let less = place-under bs b r sound.ordered in-b in-r in
        let e : ranks.place bs r.over ≡ ranks.place bs b.id = ap (ranks.place bs) (sym over-c ∙ sym (eqb-true b.id c.id t)) in omega arith)
  ]

  one-over : times c.id (overs_in bs) ≤ 1
  one-over = let h = s.one_use in omega arith

  b-over : 1 ≤ times c.id (overs_of b)
  b-over = subst (λ z. 1 ≤ times z (overs_of b)) (sym over-c) (in-times over r b.quants in-r)

  not-root : (g.root == c.id) ≡ false
  not-root = elim (cases_Bool (g.root == c.id)) [
    | inr f ↦ f
    | inl t ↦ absurd (let e : times g.root (overs_in bs) ≡ times c.id (overs_in bs) = ap (λ z. times z (overs_in bs)) (eqb-true g.root c.id t) in let h = s.one_use in let k = sound.top in omega arith)
  ]

  -- ---- the boxes after the steps, each where it stands

  abbrev own : Node → Node
  own = with_quants (spliced_at i c.quants)

  abbrev moved : Node → Node
  moved = at b.id own

  abbrev want : Node → Node
  want = merge_node b.id q c (spliced q c.quants b.quants)

  abbrev ms : List Node
  ms = map want (boxes_without c.id bs)

  absorbed-is : absorbed b.id i c.id bs ≡ map moved (boxes_without c.id bs)
  absorbed-is =
      ap (λ z. change (is_box b.id) (with_quants (spliced_at i (quants_in z))) (without (is_box c.id) bs)) (ap (λ z. first (is_box z) bs) over-c ∙ s.under)
      ∙ ap (change (is_box b.id) own) (sym (without-one c.id bs sound.ordered))
      ∙ change-at b.id own (boxes_without c.id bs) (once-without c.id bs once)

  abbrev head : Node → List Term
  head y = map (substituted q c.parts.head) y.parts.head

  abbrev plain : Node → List Cond
  plain y = map (substituted_cond q c.parts.head) y.parts.conds.items

  abbrev conds : Node → List Cond → Conjuncts
  conds y xs = record y.parts.conds { items = xs }

  abbrev all : Node → Node
  all = after (is_changed b.id q c.id) (terms_for b.id q c) moved

  quants-same : spliced q c.quants b.quants ≡ us ++ (c.quants ++ vs)
  quants-same = ap (spliced q c.quants) split ∙ spliced-at us r vs c.quants (own-apart g w b us r vs in-b split)

  all-b : all b ≡ want b
  all-b =
      ap (λ z. cond z (with_terms (conds b (cond (b.id == b.id) (plain b ++ c.parts.conds.items) (plain b))) (head b) (cond (b.id == b.id) (own b) b)) (cond (b.id == b.id) (own b) b))
      (and_from (not (b.id == c.id)) ((b.id == b.id) || reads_any q b.parts) (ap not apart) (or_left (b.id == b.id) (reads_any q b.parts) (eq-itself b.id)))
      ∙ ap (λ z. with_terms (conds b (cond z (plain b ++ c.parts.conds.items) (plain b))) (head b) (cond z (own b) b)) (eq-itself b.id)
      ∙ ap (λ z. merged q c z b) (sym quants-same)
      ∙ sym (ap (λ z. cond z (merged q c (spliced q c.quants b.quants) b) (put_node q c.parts.head b)) (eq-itself b.id))

  all-other : (y : Node) → (y.id == b.id) ≡ false → (y.id == c.id) ≡ false → all y ≡ want y
  all-other y n f =
      ap (λ z. cond (not z && ((y.id == b.id) || reads_any q y.parts)) (with_terms (conds y (cond (y.id == b.id) (plain y ++ c.parts.conds.items) (plain y))) (head y) (cond (y.id == b.id) (own y) y)) (cond (y.id == b.id) (own y) y)) f
      ∙ ap (λ z. cond (z || reads_any q y.parts) (with_terms (conds y (cond z (plain y ++ c.parts.conds.items) (plain y))) (head y) (cond z (own y) y)) (cond z (own y) y)) n
      ∙ (elim (cases_Bool (reads_any q y.parts)) [
        | inl t ↦ ap (λ z. cond z (put_node q c.parts.head y) y) t
        | inr e ↦ ap (λ z. cond z (put_node q c.parts.head y) y) e ∙ sym (cells-none q c.parts.head y e)
      ])
      ∙ sym (ap (λ z. cond z (merged q c (spliced q c.quants b.quants) y) (put_node q c.parts.head y)) n)

  all-is : (y : Node) → In y bs → (y.id == c.id) ≡ false → all y ≡ want y
  all-is y j f = elim (cases_Bool (y.id == b.id)) [
    | inl t ↦ subst (λ z. all z ≡ want z) (same-box bs b y sound.ordered in-b j (sym (eqb-true y.id b.id t))) all-b
    | inr n ↦ all-other y n f
  ]

  put-is : put_all (new_terms b.id q c bs) (absorbed b.id i c.id bs) ≡ ms
  put-is =
      ap (put_all (new_terms b.id q c bs)) absorbed-is
      ∙ put-each (is_changed b.id q c.id) (terms_for b.id q c) (λ n. refl) moved (at-id b.id own (λ y. refl)) c.id bs once (λ n j t. ap (λ z. not z && ((n.id == b.id) || reads_any q n.parts)) t)
      ∙ map-same all want (boxes_without c.id bs) (λ y j. (let k = in-without c.id y bs j in all-is y k.0 k.1))

  -- ---- what the boxes range over

  want-id : (y : Node) → (want y).id ≡ y.id
  want-id y = elim (y.id == b.id) as (λ t. (λ (z : Node). z.id) (cond t (merged q c (spliced q c.quants b.quants) y) (put_node q c.parts.head y)) ≡ y.id) [ true ↦ refl | false ↦ refl ]

  want-b : (want b).quants ≡ us ++ (c.quants ++ vs)
  want-b = ap (λ z. (λ (y : Node). y.quants) (cond z (merged q c (spliced q c.quants b.quants) b) (put_node q c.parts.head b))) (eq-itself b.id) ∙ quants-same

  want-other : (y : Node) → (y.id == b.id) ≡ false → (want y).quants ≡ y.quants
  want-other y n = ap (λ z. (λ (y : Node). y.quants) (cond z (merged q c (spliced q c.quants b.quants) y) (put_node q c.parts.head y))) n

  below : (x : OwnedQuant) → In x c.quants → (x.over == c.id) ≡ false
  below x l = elim (cases_Bool (x.over == c.id)) [
    | inr f ↦ f
    | inl t ↦ absurd (let less = place-under bs c x sound.ordered in-c l in let e : ranks.place bs x.over ≡ ranks.place bs c.id = ap (ranks.place bs) (eqb-true x.over c.id t) in omega arith)
  ]

  beside : (x : OwnedQuant) → In x us ⊎ In x vs → (x.over == c.id) ≡ false
  beside x k = subst (λ z. (x.over == z) ≡ false) (sym over-c) (split-once over us r vs few x k)
    where
      few : times r.over (map over (us ++ r ∷ vs)) ≤ 1
      few = subst (λ z. times z (map over (us ++ r ∷ vs)) ≤ 1) over-c (subst (λ z. times c.id (map over z) ≤ 1) split (let a = times-in overs_of c.id b bs in-b in let d = one-over in omega arith))

  in-upper : (x : OwnedQuant) → In x us ⊎ In x vs → In x b.quants
  in-upper x k = subst (λ z. In x z) (sym split) (elim k [ inl l ↦ in-left x us (r ∷ vs) l | inr l ↦ in-right x us (r ∷ vs) (inr l) ])

  -- a quantifier that b then has was b's, or c's
  from-b : (x : OwnedQuant) → In x (us ++ (c.quants ++ vs)) → (In x us ⊎ In x vs) ⊎ In x c.quants
  from-b x j = elim (in-append x us (c.quants ++ vs) j) [
    | inl k ↦ inl (inl k)
    | inr k ↦ elim (in-append x c.quants vs k) [ inl l ↦ inr l | inr l ↦ inl (inr l) ]
  ]

  -- b's but r has b then, and c's
  to-b : (x : OwnedQuant) → In x b.quants → (x.over == c.id) ≡ false → In x (us ++ (c.quants ++ vs))
  to-b x j f = elim (in-append x us (r ∷ vs) (subst (λ z. In x z) split j)) [
    | inl k ↦ in-left x us (c.quants ++ vs) k
    | inr k ↦ elim k [
      | inl e ↦ absurd (clash (x.over == c.id) (eq-eqb x.over c.id (ap over (sym e) ∙ sym over-c)) f)
      | inr l ↦ in-right x us (c.quants ++ vs) (in-right x c.quants vs l)
    ]
  ]

  to-b-lower : (x : OwnedQuant) → In x c.quants → In x (us ++ (c.quants ++ vs))
  to-b-lower x l = in-right x us (c.quants ++ vs) (in-left x c.quants vs l)

  -- over c ranges b alone
  b-alone : (y : Node) (x : OwnedQuant) → In y bs → In x y.quants → (x.over == c.id) ≡ true → y ≡ b
  b-alone y x j k t = times-once overs_of c.id y b bs one-over j in-b (subst (λ z. 1 ≤ times z (overs_of y)) (eqb-true x.over c.id t) (in-times over x y.quants k)) b-over

  ordered-ms : Ordered ms
  ordered-ms = ordered-edit want c.id want-id bs sound.ordered (λ y x j f k. elim (cases_Bool (y.id == b.id)) [
    | inl t ↦ (
        let e : y ≡ b = same-box bs y b sound.ordered j in-b (eqb-true y.id b.id t) in
        let l : In x (us ++ (c.quants ++ vs)) = subst (λ z. In x z) want-b (subst (λ (z : Node). In x (want z).quants) e k) in
        subst (λ (z : Node). (has_box bs x.over ≡ true) × (ranks.place bs z.id < ranks.place bs x.over) × ((x.over == c.id) ≡ false)) (sym e) (under-b x l))
    | inr n ↦ (
        let l : In x y.quants = subst (λ z. In x z) (want-other y n) k in (
          overs-held bs y x sound.ordered j l,
          place-under bs y x sound.ordered j l,
          elim (cases_Bool (x.over == c.id)) [
            | inr m ↦ m
            | inl m ↦ absurd (clash (y.id == b.id) (eq-eqb y.id b.id (ap (λ (z : Node). z.id) (b-alone y x j l m))) n)
          ],
        ))
  ])
    where
      under-b : (x : OwnedQuant) → In x (us ++ (c.quants ++ vs)) → (has_box bs x.over ≡ true) × (ranks.place bs b.id < ranks.place bs x.over) × ((x.over == c.id) ≡ false)
      under-b x l = elim (from-b x l) [
        | inl k ↦ (overs-held bs b x sound.ordered in-b (in-upper x k), place-under bs b x sound.ordered in-b (in-upper x k), beside x k)
        | inr k ↦ (
            let up : ranks.place bs b.id < ranks.place bs c.id = subst (λ z. ranks.place bs b.id < ranks.place bs z) (sym over-c) (place-under bs b r sound.ordered in-b in-r) in
            let down = place-under bs c x sound.ordered in-c k in
            (overs-held bs c x sound.ordered in-c k, (omega arith), below x k))
      ]

  -- ---- what they reach

  in-ms : (y : Node) → In y bs → (y.id == c.id) ≡ false → In (want y) ms
  in-ms y j f = map-in want y (boxes_without c.id bs) (without-in c.id y bs j f)

  -- from a box of before, b in place of c
  abbrev Down : ℕ → ℕ → Type 0
  Down x y = Reaches ms (cond (x == c.id) b.id x) y

  one-down : (n : Node) (x : OwnedQuant) (y : ℕ) → In n bs → In x n.quants → Down x.over y → Down n.id y
  one-down n x y j k h = elim (cases_Bool (n.id == c.id)) [
    | inl t ↦ (
        let e : n ≡ c = same-box bs n c sound.ordered j in-c (eqb-true n.id c.id t) in
        let l : In x c.quants = subst (λ (z : Node). In x z.quants) e k in
        let m : Reaches ms x.over y = subst (λ z. Reaches ms (cond z b.id x.over) y) (below x l) h in
        subst (λ z. Reaches ms (cond z b.id n.id) y) (sym t)
        (subst (λ z. Reaches ms z y) (want-id b) (through (want b) x y (in-ms b in-b apart) (subst (λ z. In x z) (sym want-b) (to-b-lower x l)) m)))
    | inr f ↦ subst (λ z. Reaches ms (cond z b.id n.id) y) (sym f) (elim (cases_Bool (x.over == c.id)) [
      | inl t ↦ subst (λ (z : Node). Reaches ms z.id y) (sym (b-alone n x j k t)) (subst (λ z. Reaches ms (cond z b.id x.over) y) t h)
      | inr m ↦ (
          let l : In x (want n).quants = elim (cases_Bool (n.id == b.id)) [
            | inl t ↦ (
                let e : b ≡ n = same-box bs b n sound.ordered in-b j (sym (eqb-true n.id b.id t)) in
                subst (λ (z : Node). In x (want z).quants) e (subst (λ z. In x z) (sym want-b) (to-b x (subst (λ (z : Node). In x z.quants) (sym e) k) m)))
            | inr o ↦ subst (λ z. In x z) (sym (want-other n o)) k
          ] in
          subst (λ z. Reaches ms z y) (want-id n) (through (want n) x y (in-ms n j f) l (subst (λ z. Reaches ms (cond z b.id x.over) y) m h)))
    ])
  ]

  down : (x y : ℕ) → Reaches bs x y → (y == c.id) ≡ false → Down x y
  down x y (itself z) f = subst (λ t. Reaches ms (cond t b.id z) z) (sym f) (itself z)
  down x y (through n d z j k h) f = one-down n d z j k (down d.over z h f)

  one-up : (n : Node) (x : OwnedQuant) (y : ℕ) → In n ms → In x n.quants → Reaches bs x.over y → Reaches bs n.id y
  one-up n x y j k h =
      let o = in-map want n (boxes_without c.id bs) j in
      let m : Node = o.0 in
      let in-m = (in-without c.id m bs o.1.0).0 in
      let l : In x (want m).quants = subst (λ (z : Node). In x z.quants) (sym o.1.1) k in
      subst (λ z. Reaches bs z y) (sym (want-id m) ∙ ap (λ (z : Node). z.id) o.1.1) (elim (cases_Bool (m.id == b.id)) [
        | inl t ↦ (
            let e : m ≡ b = same-box bs m b sound.ordered in-m in-b (eqb-true m.id b.id t) in
            subst (λ (z : Node). Reaches bs z.id y) (sym e) (elim (from-b x (subst (λ z. In x z) want-b (subst (λ (z : Node). In x (want z).quants) e l))) [
              | inl v ↦ through b x y in-b (in-upper x v) h
              | inr v ↦ through b r y in-b in-r (subst (λ z. Reaches bs z y) over-c (through c x y in-c v h))
            ]))
        | inr n ↦ through m x y in-m (subst (λ z. In x z) (want-other m n) l) h
      ])

  up : (x y : ℕ) → Reaches ms x y → Reaches bs x y
  up x y (itself z) = itself z
  up x y (through n d z j k h) = one-up n d z j k (up d.over z h)

  not-c : (n : Node) → In n ms → (n.id == c.id) ≡ false
  not-c n j =
      let o = in-map want n (boxes_without c.id bs) j in
      subst (λ z. (z == c.id) ≡ false) (sym (want-id o.0) ∙ ap (λ (z : Node). z.id) o.1.1) (in-without c.id o.0 bs o.1.0).1

  abbrev keep-boxes : List Node → List Node
  keep-boxes z = filter (λ n. holds n.id (reached (g.root ∷ []) g.boxes)) z

  made : keep (reached (g.root ∷ []) g.boxes) (on_boxes (put_all (new_terms b.id q c bs)) (absorb b.id i c.id g)) ≡ merged_with g b c q
  made = ap (λ z. record g { boxes = z }) (
      ap (λ z. keep-boxes z) put-is
      ∙ kept-same bs ms g.root sound.ordered ordered-ms
      (λ n j h. subst (λ z. Reaches ms (cond z b.id g.root) n.id) not-root (down g.root n.id h (not-c n j)))
      (λ n j h. up g.root n.id h)
      ∙ ap (λ z. reached_boxes g.root (map want z)) (without-one c.id bs sound.ordered))

  -- ---- what the steps need, and what they make

  module _ (m : MergePlan) (p : Plans g b place r c m) where
    absorb-same : absorb m.b (m.place - 1) m.c g ≡ absorb b.id i c.id g
    absorb-same = ap (λ z. absorb z (m.place - 1) m.c g) p.upper ∙ ap (λ z. absorb b.id (z - 1) m.c g) p.at ∙ ap (λ z. absorb b.id i z g) p.lower

    pub steps-made : merge_steps m g ≡ merged_with g b c q
    steps-made =
        ap (λ z. keep (reached (g.root ∷ []) g.boxes) (on_boxes (put_all m.terms.items) z)) absorb-same
        ∙ ap (λ z. keep (reached (g.root ∷ []) g.boxes) (on_boxes (put_all z) (absorb b.id i c.id g))) p.changed
        ∙ made

    held-b : HasBox b.id g
    held-b = in-has b bs in-b

    held-then : (t : NewTerms) → In t (new_terms b.id q c bs) → has_box (absorbed b.id i c.id bs) t.at ≡ true
    held-then t j =
        let o = in-map (terms_for b.id q c) t (filter (is_changed b.id q c.id) bs) j in
        let l = in-filter (is_changed b.id q c.id) o.0 bs o.1.0 in
        let f : (o.0.id == c.id) ≡ false = not-true (o.0.id == c.id) (and_parts (not (o.0.id == c.id)) ((o.0.id == b.id) || reads_any q o.0.parts) l.1).0 in
        subst (λ z. has_box (absorbed b.id i c.id bs) z ≡ true) (ap (λ (z : NewTerms). z.at) o.1.1)
        (ap (λ z. has_box z o.0.id) absorbed-is ∙ has-map moved (at-id b.id own (λ y. refl)) (boxes_without c.id bs) o.0.id ∙ in-has o.0 (boxes_without c.id bs) (without-in c.id o.0 bs l.0 f))

    pub may-step : MayStep g m
    may-step = record {
      owner = subst (λ z. HasBox z g) (sym p.upper) held-b;
      other = subst (λ z. HasBox z g) (sym p.lower) (in-has c bs in-c);
      apart = ap (λ z. z == m.c) p.upper ∙ ap (λ z. b.id == z) p.lower ∙ apart;
      from_one = subst (λ z. 1 ≤ z) (sym p.at) s.from_one;
      within = (
          let e : length (quants_of m.b g) ≡ length b.quants = ap (λ z. length (quants_of z g)) p.upper ∙ ap (λ z. length (quants_in z)) s.at in
          let l = get-less i b.quants r s.nth in let f = s.from_one in let a = p.at in omega arith);
      held = λ t j. subst (λ (z : QueryGraph). HasBox t.at z) (sym absorb-same) (held-then t (subst (λ z. In t z) p.changed j));
    }
