-- U2 lowers the measure: the group that it makes has exactly one row, and no S quantifier over such a group counts.
use Rattle.std.proofs.Common.{ℕ, ◌==◌, ◌≡◌, ◌≤◌, ◌+◌, ◌&&◌, ◌||◌, not, cond, Bool, true, false, List, [], ◌∷◌, ◌++◌, map, append_assoc, Option, Some, None, refl, sym, ap, subst, ◌∙◌, eqb-true, inl, inr, arith}
use Rattle.std.specs.List.{list_all}
use Rattle.std.proofs.lemmas.Bool.{and_from, and_parts, cases_Bool, eq-eqb, or_parts}
use Rattle.std.proofs.lemmas.List.{map-append}
use Rattle.qgm_core.specs.Boxes.{Ordered, QueryGraph, box_of, has_box, is_box, numbers}
use Rattle.qgm_core.specs.Edits.{on_quant}
use Rattle.qgm_core.specs.Kinds.{is_S, is_fed, is_plain}
use Rattle.list_laws.specs.Lists.{EachOnce, In, first}
use Rattle.qgm_core.specs.declared.parts.BoxParts.{BoxParts}
use Rattle.qgm_core.specs.declared.kinds.BoxKind.{BoxKind}
use Rattle.qgm_core.specs.declared.kinds.BoxKind.TheVariants.{Base, Group, OuterJoin, Select, SetOp}
use Rattle.qgm_core.specs.declared.node.Node.{Node}
use Rattle.qgm_core.specs.declared.owned.OwnedQuant.{OwnedQuant}
use Rattle.qgm_wellformed.specs.Shapes.{are_F, head_folds, head_is_own, is_none, kind_fits}
use Rattle.qgm_wellformed.specs.WellFormed.{fault}
use Rattle.qgm_edit_laws.specs.Adds.{interposed, onto}
use Rattle.qgm_edit_laws.specs.FormedAdds.{MayInterpose}
use Rattle.qgm_edit_laws.specs.Graph.{Sound}
use Rattle.qgm_edit_laws.specs.Shaped.{Shaped, Typed}
use Rattle.qgm_core.proofs.Reaching.{in-has}
use Rattle.qgm_edit_laws.proofs.CheckedParts.{shaped, sound, typed}
use Rattle.qgm_edit_laws.proofs.Formed as formed
use Rattle.qgm_edit_laws.proofs.FreeLoose.{open-looks}
use Rattle.qgm_edit_laws.proofs.Interposed as between
use Rattle.qgm_edit_laws.proofs.Interposed.{onto-kind, over_now, turned}
use Rattle.qgm_edit_laws.proofs.InterposedForms.{less}
use Rattle.qgm_edit_laws.proofs.ShapeParts.{shape-parts}
use Rattle.qgm_edit_laws.proofs.Scope.{in-first}
use Rattle.qgm_props.specs.Calm.{is_closed}
use Rattle.qgm_props.specs.Inferred.{Facts, Inferred, exactly_one, exactly_one_by}
use Rattle.qgm_props.specs.Under.{of_box, under_first}
use Rattle.qgm_props.specs.Lowering.{Singles, Stays}
use Rattle.qgm_props.specs.Measure.{Lowers, is_fed_box, is_keyless, is_loose_scalar, keyless_found, many}
use Rattle.qgm_props.proofs.Lowering.{single-lowers}
use Rattle.qgm_props.proofs.Many.{many-fewer, one-less}
use Rattle.rule_api.specs.declared.place.Place.{Place}
use Rattle.rule_feed.proofs.FeedMeasure.{looks-open}
use Rattle.rule_magic.proofs.Amid.{in-split}
use Rattle.rule_subquery.proofs.ScalarToGroupFormed.{may-interpose}
use Rattle.rule_subquery.proofs.ScalarToGroupKeeps as keeps
use Rattle.rule_subquery.specs.ScalarToGroup.{GroupsBox, MayScalarToGroupAt}
use Rattle.rule_subquery.specs.ScalarToGroupLaws.{MaySingle, single_box, singled}
use Rattle.list_laws.proofs.Booleans.{clash}
use Rattle.list_laws.proofs.Membership.{eq-false-sym, eq-itself, in-append, in-left, in-right, map-in}

-- ---- one among others stays in its place

module _ (o : ℕ) (f : Node → Node) where
  abbrev move : Node → Node
  move y = cond (y.id == o) (f y) y

  none-moved : (ns : List Node) → has_box ns o ≡ false → map move ns ≡ ns
  none-moved [] h = refl
  none-moved (n ∷ ns) h = elim (cases_Bool (n.id == o)) [
    | inl t ↦ absurd (clash ((n.id == o) || has_box ns o) (ap (λ b. b || has_box ns o) t) h)
    | inr e ↦ ap (λ b. cond b (f n) n ∷ map move ns) e ∙ ap (λ zs. n ∷ zs) (none-moved ns (sym (ap (λ b. b || has_box ns o) e) ∙ h))
  ]

  fixed-before : (us : List Node) (n : Node) (vs : List Node) → n.id ≡ o → Ordered (us ++ n ∷ vs) → (map move us ≡ us) × (has_box vs o ≡ false)
  fixed-before [] n vs e h = (refl, subst (λ z. has_box vs z ≡ false) e h.0)
  fixed-before (u ∷ us) n vs e h = elim (cases_Bool (u.id == o)) [
    | inl t ↦ absurd (clash (has_box (us ++ n ∷ vs) u.id) (subst (λ z. has_box (us ++ n ∷ vs) z ≡ true) (e ∙ sym (eqb-true u.id o t)) (in-has n (us ++ n ∷ vs) (in-right n us (n ∷ vs) (inl refl)))) h.0)
    | inr k ↦ (let x = fixed-before us n vs e h.2 in (ap (λ b. cond b (f u) u ∷ map move us) k ∙ ap (λ zs. u ∷ zs) x.0, x.1))
  ]

  none-between : (ms : List Node) (s : Node) (ys : List Node) → has_box (ms ++ ys) o ≡ false → (s.id == o) ≡ false → has_box (ms ++ s ∷ ys) o ≡ false
  none-between [] s ys h n = ap (λ b. b || has_box ys o) n ∙ h
  none-between (x ∷ ms) s ys h n = let k = or_parts (x.id == o) (has_box (ms ++ ys) o) h in ap (λ b. b || has_box (ms ++ s ∷ ys) o) k.0 ∙ none-between ms s ys k.1 n

  one-moved : (us : List Node) (n : Node) (ms : List Node) (s : Node) (ys : List Node) → n.id ≡ o → (s.id == o) ≡ false → Ordered (us ++ n ∷ (ms ++ ys)) → map move (us ++ n ∷ (ms ++ s ∷ ys)) ≡ us ++ move n ∷ (ms ++ s ∷ ys)
  one-moved us n ms s ys e k h =
      let x = fixed-before us n (ms ++ ys) e h in
      map-append move us (n ∷ (ms ++ s ∷ ys)) ∙ ap (λ z. z ++ move n ∷ map move (ms ++ s ∷ ys)) x.0 ∙ ap (λ z. us ++ move n ∷ z) (none-moved (ms ++ s ∷ ys) (none-between ms s ys x.1 k))

-- ---- the count of one box's quantifiers, of which one moves

module _ (q s : ℕ) (counts : OwnedQuant → Bool) (counted : OwnedQuant → Bool) where
  fewer : (rs : List OwnedQuant) (r : OwnedQuant) → In r rs → r.id ≡ q → ((x : OwnedQuant) → In x rs → x.id ≡ q → x ≡ r) → ((x : OwnedQuant) → In x rs → counts x ≡ true → counted x ≡ true) → counted r ≡ true → counts (over_now s r) ≡ false
      → many counts (turned q s rs) + 1 ≤ many counted rs
  fewer [] r i e one less t n = elim i [ ]
  fewer (x ∷ rs) r i e one less t n = elim (cases_Bool (x.id == q)) [
    | inl k ↦ (
        let same : x ≡ r = one x (inl refl) (eqb-true x.id q k) in
        let a : many counts (turned q s (x ∷ rs)) ≡ cond (counts (over_now s x)) 1 0 + many counts rs = ap (λ b. many counts (cond b (over_now s x ∷ rs) (x ∷ turned q s rs))) k in
        let b : cond (counts (over_now s x)) 1 0 ≡ ◌+◌ 0 0 = ap (λ v. cond v 1 0) (ap (λ (z : OwnedQuant). counts (over_now s z)) same ∙ n) ∙ omega arith in
        let c : cond (counted x) 1 0 ≡ ◌+◌ 1 0 = ap (λ v. cond v 1 0) (ap counted same ∙ t) ∙ omega arith in
        let d : many counts rs ≤ many counted rs = many-fewer counts counted rs (λ y j. less y (inr j)) in
        omega (arith, a, b, c, d))
    | inr k ↦ (
        let a : many counts (turned q s (x ∷ rs)) ≡ cond (counts x) 1 0 + many counts (turned q s rs) = ap (λ b. many counts (cond b (over_now s x ∷ rs) (x ∷ turned q s rs))) k in
        let later : In r rs = (elim i [ inr j ↦ j | inl y ↦ absurd (clash (x.id == q) (eq-eqb x.id q (ap (λ (z : OwnedQuant). z.id) y ∙ e)) k) ]) in
        let b = fewer rs r later e (λ y j. one y (inr j)) (λ y j. less y (inr j)) t n in
        let c : cond (counts x) 1 0 ≤ cond (counted x) 1 0 = one-less (counts x) (counted x) (less x (inl refl)) in
        omega (arith, a, b, c))
  ]

-- ---- a group without keys has exactly one row, by inference

grouped : (root : ℕ) (bs : List Node) (n : Node) (known : Facts) → kind_fits root bs n n.parts.kind ≡ true → is_keyless n.parts.kind ≡ true → exactly_one_by bs known n.parts.kind n ≡ true
grouped root bs n known h k = by n.parts.kind h k
  where
    owned : (rs : List OwnedQuant) → are_F 1 rs ≡ true → under_first (λ b. true) rs ≡ true
    owned [] h = absurd (let z : ⊥ = cc in z)
    owned (r ∷ rs) h = refl

    by : (kind : BoxKind) → kind_fits root bs n kind ≡ true → is_keyless kind ≡ true → exactly_one_by bs known kind n ≡ true
    by (Base table) h k = absurd (let z : ⊥ = cc in z)
    by Select h k = absurd (let z : ⊥ = cc in z)
    by (SetOp operator types) h k = absurd (let z : ⊥ = cc in z)
    by OuterJoin h k = absurd (let z : ⊥ = cc in z)
    by (Group keys) h k =
        let a = and_parts (are_F 1 n.quants && is_none n.parts.conds.items && is_plain n.parts.role && head_folds keys n.parts.head) (head_is_own n) h in
        let b = and_parts (are_F 1 n.quants && is_none n.parts.conds.items && is_plain n.parts.role) (head_folds keys n.parts.head) a.0 in
        let c = and_parts (are_F 1 n.quants && is_none n.parts.conds.items) (is_plain n.parts.role) b.0 in
        let d = and_parts (are_F 1 n.quants) (is_none n.parts.conds.items) c.0 in
        and_from (keys == 0) (under_first (λ b. true) n.quants) k (owned n.quants d.0)

-- ---- the firing

module _ (xs ys : List Node) (g : QueryGraph) (w : Sound (xs ++ ys) g.root) (ty : Typed (xs ++ ys)) (sh : Shaped (xs ++ ys) g.root) (b p : ℕ) (o c : Node) (r : OwnedQuant) (m : MaySingle xs ys g.root b p o c r) (keyed : is_keyless c.parts.kind ≡ false) where
  abbrev bs : List Node
  bs = xs ++ ys

  abbrev s : Node
  s = single_box b p c.id

  abbrev hs : List Node
  hs = interposed xs ys s o.id r.id

  abbrev f : Node → Node
  f = onto o.id r.id s.id

  put : MayInterpose xs ys g.root s o c r
  put = may-interpose xs ys g w ty sh b p o c r m

  pub v : Sound hs g.root
  v = between.interposed-sound xs ys g.root w s o c r put.interposes

  same-id : (y : Node) → (f y).id ≡ y.id
  same-id = between.id xs ys g.root w s o c r put.interposes

  same-parts : (y : Node) → (f y).parts ≡ y.parts
  same-parts = between.parts xs ys g.root w s o c r put.interposes

  apart : (n : Node) → In n bs → (n.id == s.id) ≡ false
  apart = between.apart xs ys g.root w s o c r put.interposes

  over-apart : (n : Node) (q : OwnedQuant) → In n bs → In q n.quants → (q.over == s.id) ≡ false
  over-apart = between.over-apart xs ys g.root w s o c r put.interposes

  o-bs : In o bs
  o-bs = in-left o xs ys m.in_o

  s-o : (s.id == o.id) ≡ false
  s-o = eq-false-sym o.id s.id (apart o o-bs)

  closed : (n : Node) → In n bs → is_closed bs n.id ≡ true → is_closed hs n.id ≡ true
  closed n i e = elim (cases_Bool (is_closed hs n.id)) [
    | inl y ↦ y
    | inr y ↦ absurd (let k = open-looks hs g.root v n.id y in clash (is_closed bs n.id) e (looks-open bs g.root w n.id k.0 (less xs ys g.root w ty sh s o c r put n i k.0 k.1)))
  ]

  -- the box of another number is of its kind
  found : (z : ℕ) → (s.id == z) ≡ false → keyless_found (first (is_box z) hs) ≡ keyless_found (first (is_box z) bs)
  found z n = among xs
    where
      one : (x : Node) (here there : List Node) → keyless_found (first (is_box z) here) ≡ keyless_found (first (is_box z) there) → keyless_found (first (is_box z) (f x ∷ here)) ≡ keyless_found (first (is_box z) (x ∷ there))
      one x here there e = ap (λ k. keyless_found (cond (k == z) (Some (f x)) (first (is_box z) here))) (same-id x) ∙ elim (x.id == z) as (λ k. keyless_found (cond k (Some (f x)) (first (is_box z) here)) ≡ keyless_found (cond k (Some x) (first (is_box z) there))) [
        | true ↦ ap is_keyless (onto-kind o.id r.id s.id x)
        | false ↦ e
      ]

      each : (ns : List Node) → keyless_found (first (is_box z) (map f ns)) ≡ keyless_found (first (is_box z) ns)
      each [] = refl
      each (x ∷ ns) = one x (map f ns) ns (each ns)

      among : (ns : List Node) → keyless_found (first (is_box z) (map f (ns ++ s ∷ ys))) ≡ keyless_found (first (is_box z) (ns ++ ys))
      among [] = ap (λ k. keyless_found (cond k (Some (f s)) (first (is_box z) (map f ys)))) (ap (λ k. k == z) (same-id s) ∙ n) ∙ each ys
      among (x ∷ ns) = one x (map f (ns ++ s ∷ ys)) (ns ++ ys) (among ns)

  scalar-less : (q : OwnedQuant) → (q.over == s.id) ≡ false → is_loose_scalar hs q ≡ true → is_loose_scalar bs q ≡ true
  scalar-less q n h = ap (λ k. is_S q.kind && not k) (sym (found q.over (eq-false-sym q.over s.id n))) ∙ h

  stays : (n : Node) → In n bs → Stays bs hs n
  stays n i = record { closed = closed n i; scalars = λ q j. scalar-less q (over-apart n q i j) }

  s-in : In s hs
  s-in = subst (λ z. In z hs) (ap (λ k. cond k (on_quant r.id (over_now s.id) s) s) s-o) (map-in f s (xs ++ s ∷ ys) (in-right s xs (s ∷ ys) (inl refl)))

  -- the S quantifier counts no more
  once-counted : is_loose_scalar bs r ≡ true
  once-counted = and_from (is_S r.kind) (not (keyless_found (first (is_box r.over) bs))) (ap is_S m.is_s)
      (ap not (ap keyless_found (subst (λ z. first (is_box z) bs ≡ Some c) (sym m.over_c) (in-first c bs w.ordered (in-right c xs ys m.in_c))) ∙ keyed))

  uncounted : is_loose_scalar hs (over_now s.id r) ≡ false
  uncounted = ap (λ z. is_S r.kind && not (keyless_found z)) (in-first s hs v.ordered s-in) ∙ and-false (is_S r.kind)
    where
      and-false : (b : Bool) → (b && false) ≡ false
      and-false true = refl
      and-false false = refl

  o-after : f o ≡ on_quant r.id (over_now s.id) o
  o-after = ap (λ k. cond k (on_quant r.id (over_now s.id) o) o) (eq-itself o.id)

  pub lowers : Lowers bs hs
  lowers =
      let x = in-split o xs m.in_o in
      let up = x.0 in
      let mid = x.1.0 in
      let before : bs ≡ up ++ o ∷ (mid ++ ys) = ap (λ z. z ++ ys) x.1.1 ∙ append_assoc up (o ∷ mid) ys in
      let all : xs ++ s ∷ ys ≡ up ++ o ∷ (mid ++ s ∷ ys) = ap (λ z. z ++ s ∷ ys) x.1.1 ∙ append_assoc up (o ∷ mid) (s ∷ ys) in
      let after : hs ≡ up ++ f o ∷ (mid ++ s ∷ ys) = ap (map f) all ∙ one-moved o.id (on_quant r.id (over_now s.id)) up o mid s ys refl s-o (subst Ordered before w.ordered) in
      single-lowers up mid ys o (f o) s bs hs (record {
        before = before;
        after = after;
        same = (λ h. subst (λ z. is_closed hs z ≡ true) (sym (same-id o)) (closed o o-bs h), ap (λ (z : BoxParts). is_fed z.role) (sym (same-parts o)));
        new = refl;
        none = refl;
        one_less = subst (λ (z : Node). many (is_loose_scalar hs) z.quants + 1 ≤ many (is_loose_scalar bs) o.quants) (sym o-after)
            (fewer r.id s.id (is_loose_scalar hs) (is_loose_scalar bs) o.quants r m.owned refl (λ y j e. formed.same-quant bs w.ordered w.once o o-bs y r j m.owned e) (λ y j. scalar-less y (over-apart o y o-bs j)) once-counted uncounted);
        stays = λ n i. stays n (subst (λ z. In n z) (sym before) (elim (in-append n up (mid ++ ys) i) [ inl j ↦ in-left n up (o ∷ (mid ++ ys)) j | inr j ↦ in-right n up (o ∷ (mid ++ ys)) (inr j) ]));
      })

-- the S quantifier's box isn't inferred to have exactly one row, so it isn't such a group
not-keyless : (g : QueryGraph) (root : ℕ) (c : Node) (b : ℕ) → box_of b g ≡ Some c → kind_fits root g.boxes c c.parts.kind ≡ true → (Inferred g.boxes (exactly_one b) → ⊥) → is_keyless c.parts.kind ≡ false
not-keyless g root c b under fits not_one = elim (cases_Bool (is_keyless c.parts.kind)) [
  | inr n ↦ n
  | inl k ↦ absurd (not_one (λ known closes. closes (exactly_one b) (ap (of_box false (λ n. exactly_one_by g.boxes known n.parts.kind n)) under ∙ grouped root g.boxes c known fits k)))
]

module _ (g : QueryGraph) (u : EachOnce (numbers g.boxes)) (f : fault g ≡ None) (p : Place) (b : Node) (us : List OwnedQuant) (r : OwnedQuant) (vs : List OwnedQuant) (m : MayScalarToGroupAt p g b us r vs) (h : QueryGraph) (a : GroupsBox g h b r) where
  abbrev made : QueryGraph
  made = singled a.xs a.ys a.group a.quant b a.c r g

  c-in : In a.c g.boxes
  c-in = subst (λ z. In a.c z) (sym a.parted) (in-right a.c a.xs a.ys a.behind)

  keyed : is_keyless a.c.parts.kind ≡ false
  keyed = not-keyless g g.root a.c r.over a.under (shape-parts g.root g.boxes a.c ((shaped g u f).shapes a.c c-in)).kind m.not_one

  w : Sound (a.xs ++ a.ys) g.root
  w = subst (λ z. Sound z g.root) a.parted (sound g u f)

  ty : Typed (a.xs ++ a.ys)
  ty = subst Typed a.parted (typed g u f)

  sh : Shaped (a.xs ++ a.ys) g.root
  sh = subst (λ z. Shaped z g.root) a.parted (shaped g u f)

  abbrev single : MaySingle a.xs a.ys g.root a.group a.quant b a.c r
  single = keeps.single g u f p b us r vs m h a

  pub scalar-ordered : Ordered made.boxes
  scalar-ordered = (v a.xs a.ys g w ty sh a.group a.quant b a.c r single keyed).ordered

  pub scalar-lowers : Lowers g.boxes made.boxes
  scalar-lowers = subst (λ z. Lowers z made.boxes) (sym a.parted) (lowers a.xs a.ys g w ty sh a.group a.quant b a.c r single keyed)
