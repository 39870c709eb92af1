-- Columns hold a key exactly where an inferred key is among them.
use Rattle.std.proofs.Common.{ℕ, zero, suc, ◌≡◌, ◌==◌, ◌&&◌, ◌++◌, ◌↔◌, cond, Bool, true, false, List, [], ◌∷◌, length, filter, Some, eqb-true, refl, sym, ap, subst, ◌∙◌, inl, inr}
use Rattle.std.proofs.lemmas.Bool.{and_from, and_parts, eq-eqb, or_cases, or_left, or_right}
use Rattle.qgm_core.specs.Boxes.{Ordered}
use Rattle.qgm_core.specs.Kinds.{is_F, is_enforce}
use Rattle.list_laws.specs.Lists.{In, holds}
use Rattle.qgm_core.specs.declared.kinds.BoxKind.{BoxKind}
use Rattle.qgm_core.specs.declared.kinds.BoxKind.TheVariants.{Base, Select, Group, SetOp, OuterJoin}
use Rattle.qgm_core.specs.declared.kinds.SetOperator.{SetOperator}
use Rattle.qgm_core.specs.declared.kinds.SetOperator.TheVariants.{UnionAll, Union, IntersectAll, Intersect, ExceptAll, Except}
use Rattle.qgm_core.specs.declared.node.Node.{Node}
use Rattle.qgm_core.specs.declared.owned.OwnedQuant.{OwnedQuant}
use Rattle.qgm_meaning.proofs.Ranked.{unfold-rank}
use Rattle.qgm_terms.specs.Terms.{Term, col}
use mathlib.Core.Path.{fun_ext}
use Rattle.qgm_props.specs.Inferred.{Facts, at_most_one}
use Rattle.qgm_props.specs.Laws.{Tells, TellsKey}
use Rattle.qgm_props.specs.InferredKeys.{AreKeys, IsKey, KeyAmong, StandAt, combined, declared, enforced, grouped, joined, none, one_more, one_row, places_to, selected, without_all}
use Rattle.qgm_props.specs.Keys.{all_within, among, cell_at, column_of, columns_at, holds_key, keyed, keyed_by, keyed_op, keyed_under, keyed_under_F, keyed_under_two}
use Rattle.qgm_props.proofs.KeyRanks.{column-place, in-first, keyed-local}
use Rattle.list_laws.proofs.Membership.{any-from, any-in}
use Rattle.list_laws.proofs.Booleans.{same-truth}

-- ---- sets of places

among-all : (w : ℕ) (ks : List ℕ) → all_within w ks ≡ among (places_to w) ks
among-all zero ks = refl
among-all (suc w) ks = ap (λ b. holds (suc w) ks && b) (among-all w ks)

among-append : (xs ys ks : List ℕ) → among xs ks ≡ true → among ys ks ≡ true → among (xs ++ ys) ks ≡ true
among-append [] ys ks a b = b
among-append (x ∷ xs) ys ks a b = let p = and_parts (holds x ks) (among xs ks) a in and_from (holds x ks) (among (xs ++ ys) ks) p.0 (among-append xs ys ks p.1 b)

among-parts : (xs ys ks : List ℕ) → among (xs ++ ys) ks ≡ true → (among xs ks ≡ true) × (among ys ks ≡ true)
among-parts [] ys ks a = (refl, a)
among-parts (x ∷ xs) ys ks a =
    let p = and_parts (holds x ks) (among (xs ++ ys) ks) a in
    let r = among-parts xs ys ks p.1 in (and_from (holds x ks) (among xs ks) p.0 r.0, r.1)

-- ---- columns and their places

holds-left : (k : ℕ) (xs ys : List ℕ) → holds k xs ≡ true → holds k (xs ++ ys) ≡ true
holds-left k [] ys h = absurd (let z : ⊥ = cc in z)
holds-left k (x ∷ xs) ys h = elim (or_cases (x == k) (holds k xs) h) [
  | inl t ↦ or_left (x == k) (holds k (xs ++ ys)) t
  | inr t ↦ or_right (x == k) (holds k (xs ++ ys)) (holds-left k xs ys t)
]

holds-right : (k : ℕ) (xs ys : List ℕ) → holds k ys ≡ true → holds k (xs ++ ys) ≡ true
holds-right k [] ys h = h
holds-right k (x ∷ xs) ys h = or_right (x == k) (holds k (xs ++ ys)) (holds-right k xs ys h)

-- the column that stands at one of these places
place-column : (q : ℕ) (head : List Term) (ks : List ℕ) (p k : ℕ) → holds p ks ≡ true → cell_at head p ≡ Some (col q k) → holds k (columns_at q head ks) ≡ true
place-column q head [] p k h e = absurd (let z : ⊥ = cc in z)
place-column q head (j ∷ ks) p k h e = elim (or_cases (j == p) (holds p ks) h) [
  | inl t ↦ holds-left k (column_of q (cell_at head j)) (columns_at q head ks)
      (ap (λ o. holds k (column_of q o)) (ap (cell_at head) (eqb-true j p t) ∙ e) ∙ ap (λ b. holds k (cond b (k ∷ []) [])) (eq-eqb q q refl) ∙ or_left (k == k) false (eq-eqb k k refl))
  | inr t ↦ holds-right k (column_of q (cell_at head j)) (columns_at q head ks) (place-column q head ks p k t e)
]

-- columns that stand at places among these
stand-among : (q : ℕ) (head : List Term) (ks key places : List ℕ) → StandAt q head key places → among places ks ≡ true → among key (columns_at q head ks) ≡ true
stand-among q head ks [] places s a = refl
stand-among q head ks (k ∷ key) [] s a = absurd s
stand-among q head ks (k ∷ key) (p ∷ places) s a =
    let b = and_parts (holds p ks) (among places ks) a in
    and_from (holds k (columns_at q head ks)) (among key (columns_at q head ks)) (place-column q head ks p k b.0 s.0) (stand-among q head ks key places s.1 b.1)

-- and places among these at which such columns stand
places-of : (q : ℕ) (head : List Term) (ks key : List ℕ) → among key (columns_at q head ks) ≡ true → (places : List ℕ) × (StandAt q head key places × (among places ks ≡ true))
places-of q head ks [] a = ([], (tt, refl))
places-of q head ks (k ∷ key) a =
    let b = and_parts (holds k (columns_at q head ks)) (among key (columns_at q head ks)) a in
    let p = column-place q head ks k b.0 in
    let more = places-of q head ks key b.1 in
    (p.0 ∷ more.0, ((p.1.1, more.1.0), and_from (holds p.0 ks) (among more.0 ks) p.1.0 more.1.1))

-- ---- sentences

op-all : (form : SetOperator) (w : ℕ) (ks : List ℕ) → keyed_op form w ks ≡ (without_all form && all_within w ks)
op-all UnionAll w ks = refl
op-all Union w ks = refl
op-all IntersectAll w ks = refl
op-all Intersect w ks = refl
op-all ExceptAll w ks = refl
op-all Except w ks = refl

-- under each of these quantifiers
abbrev keyed_each : List Term → (ℕ → List ℕ → Bool) → List ℕ → List OwnedQuant → Bool
keyed_each head below ks [] = true
keyed_each head below ks (r ∷ rs) = keyed_under head below ks r && keyed_each head below ks rs

each-F : (head : List Term) (below : ℕ → List ℕ → Bool) (ks : List ℕ) (rs : List OwnedQuant) → keyed_under_F head below ks rs ≡ keyed_each head below ks (filter (λ r. is_F r.kind) rs)
each-F head below ks [] = refl
each-F head below ks (r ∷ rs) = one (is_F r.kind) (each-F head below ks rs)
  where
    one : (b : Bool) → keyed_under_F head below ks rs ≡ keyed_each head below ks (filter (λ r. is_F r.kind) rs)
        → cond b (keyed_under head below ks r && keyed_under_F head below ks rs) (keyed_under_F head below ks rs) ≡ keyed_each head below ks (cond b (r ∷ filter (λ r. is_F r.kind) rs) (filter (λ r. is_F r.kind) rs))
    one true e = ap (λ b. keyed_under head below ks r && b) e
    one false e = e

module _ (single : ℕ → Bool) (boxes : List Node) where
  -- ---- an inferred key is found

  module _ (ordered : Ordered boxes) where
    -- by what is said of a box itself
    by-kind : (n : Node) (kind : BoxKind) (ks : List ℕ) → In n boxes → n.parts.kind ≡ kind → keyed_by kind n (holds_key single boxes) ks ≡ true → holds_key single boxes n.id ks ≡ true
    by-kind n kind ks i e h =
        ap (λ (f : List ℕ → Bool). f ks) (unfold-rank (λ ks. false) (keyed single) (keyed-local single) boxes n.id n ordered (in-first boxes n ordered i))
        ∙ or_right (single n.id) (keyed_by n.parts.kind n (holds_key single boxes) ks) (ap (λ kind. keyed_by kind n (holds_key single boxes) ks) e ∙ h)

    by-one : (n : Node) (ks : List ℕ) → In n boxes → single n.id ≡ true → holds_key single boxes n.id ks ≡ true
    by-one n ks i h =
        ap (λ (f : List ℕ → Bool). f ks) (unfold-rank (λ ks. false) (keyed single) (keyed-local single) boxes n.id n ordered (in-first boxes n ordered i))
        ∙ or_left (single n.id) (keyed_by n.parts.kind n (holds_key single boxes) ks) h

    mutual
      found : (b : ℕ) (key ks : List ℕ) → IsKey single boxes b key → among key ks ≡ true → holds_key single boxes b ks ≡ true
      found b key ks (declared n table k i e j f) a =
          by-kind n (Base table) ks i e (any-from (λ key. among key table.not_null && among key ks) k table.keys j (and_from (among k table.not_null) (among k ks) f a))
      found b key ks (enforced n i e f) a =
          by-kind n Select ks i e (or_left (is_enforce n.parts.distinct && all_within (length n.parts.head) ks) (keyed_under_F n.parts.head (holds_key single boxes) ks n.quants) (and_from (is_enforce n.parts.distinct) (all_within (length n.parts.head) ks) f (among-all (length n.parts.head) ks ∙ a)))
      found b key ks (combined n form types i e f) a =
          by-kind n (SetOp form types) ks i e (op-all form (length types) ks ∙ and_from (without_all form) (all_within (length types) ks) f (among-all (length types) ks ∙ a))
      found b key ks (grouped n k i e) a = by-kind n (Group k) ks i e (among-all k ks ∙ a)
      found b key ks (selected n places i e c) a =
          by-kind n Select ks i e (or_right (is_enforce n.parts.distinct && all_within (length n.parts.head) ks) (keyed_under_F n.parts.head (holds_key single boxes) ks n.quants) (each-F n.parts.head (holds_key single boxes) ks n.quants ∙ found-each n.parts.head (filter (λ r. is_F r.kind) n.quants) key ks c a))
      found b key ks (joined n left right more places i e q c) a = by-kind n OuterJoin ks i e (ap (keyed_under_two n.parts.head (holds_key single boxes) ks) q ∙ two (keyed_under n.parts.head (holds_key single boxes) ks left) (keyed_under n.parts.head (holds_key single boxes) ks right) (found-each n.parts.head (left ∷ right ∷ []) key ks c a))
        where
          two : (x y : Bool) → (x && (y && true)) ≡ true → (x && y) ≡ true
          two x true h = h
          two x false h = h
      found b key ks (one_row n i f) a = by-one n ks i f

      found-each : (head : List Term) (rs : List OwnedQuant) (places ks : List ℕ) → AreKeys single boxes head rs places → among places ks ≡ true → keyed_each head (holds_key single boxes) ks rs ≡ true
      found-each head rs places ks (none h) a = refl
      found-each head rs places ks (one_more h r more key chosen others k s c) a =
          let p = among-parts chosen others ks a in
          and_from (keyed_under head (holds_key single boxes) ks r) (keyed_each head (holds_key single boxes) ks more)
          (found r.over key (columns_at r.id head ks) k (stand-among r.id head ks key chosen s p.0)) (found-each head more others ks c p.1)

  -- ---- a key that is found is inferred

  -- of a box, where it is so of the boxes under it
  module _ (n : Node) (here : In n boxes) (below : ℕ → List ℕ → Bool) (under : (b : ℕ) (ks : List ℕ) → below b ks ≡ true → KeyAmong single boxes b ks) where
    all-chosen : (head : List Term) (ks : List ℕ) (rs : List OwnedQuant) → keyed_each head below ks rs ≡ true → (places : List ℕ) × (AreKeys single boxes head rs places × (among places ks ≡ true))
    all-chosen head ks [] h = ([], (none head, refl))
    all-chosen head ks (r ∷ rs) h =
        let p = and_parts (keyed_under head below ks r) (keyed_each head below ks rs) h in
        let k = under r.over (columns_at r.id head ks) p.0 in
        let c = places-of r.id head ks k.0 k.1.1 in
        let more = all-chosen head ks rs p.1 in
        (c.0 ++ more.0, (one_more head r rs k.0 c.0 more.0 k.1.0 c.1.0 more.1.0, among-append c.0 more.0 ks c.1.1 more.1.1))

    of-kind : (kind : BoxKind) → n.parts.kind ≡ kind → (ks : List ℕ) → keyed_by kind n below ks ≡ true → KeyAmong single boxes n.id ks
    of-kind (Base table) e ks h =
        let s = any-in (λ key. among key table.not_null && among key ks) table.keys h in
        let p = and_parts (among s.0 table.not_null) (among s.0 ks) s.1.1 in
        (s.0, (declared n table s.0 here e s.1.0 p.0, p.1))
    of-kind Select e ks h = elim (or_cases (is_enforce n.parts.distinct && all_within (length n.parts.head) ks) (keyed_under_F n.parts.head below ks n.quants) h) [
      | inl t ↦ (let p = and_parts (is_enforce n.parts.distinct) (all_within (length n.parts.head) ks) t in (places_to (length n.parts.head), (enforced n here e p.0, sym (among-all (length n.parts.head) ks) ∙ p.1)))
      | inr t ↦ (
          let c = all-chosen n.parts.head ks (filter (λ r. is_F r.kind) n.quants) (sym (each-F n.parts.head below ks n.quants) ∙ t) in
          (c.0, (selected n c.0 here e c.1.0, c.1.1))
          )
    ]
    of-kind (Group k) e ks h = (places_to k, (grouped n k here e, sym (among-all k ks) ∙ h))
    of-kind (SetOp form types) e ks h =
        let p = and_parts (without_all form) (all_within (length types) ks) (sym (op-all form (length types) ks) ∙ h) in
        (places_to (length types), (combined n form types here e p.0, sym (among-all (length types) ks) ∙ p.1))
    of-kind OuterJoin e ks h = of-two n.quants refl h
      where
        of-two : (rs : List OwnedQuant) → n.quants ≡ rs → keyed_under_two n.parts.head below ks rs ≡ true → KeyAmong single boxes n.id ks
        of-two [] q h = absurd (let z : ⊥ = cc in z)
        of-two (left ∷ []) q h = absurd (let z : ⊥ = cc in z)
        of-two (left ∷ right ∷ more) q h =
            let p = and_parts (keyed_under n.parts.head below ks left) (keyed_under n.parts.head below ks right) h in
            let c = all-chosen n.parts.head ks (left ∷ right ∷ []) (and_from (keyed_under n.parts.head below ks left) (keyed_under n.parts.head below ks right && true) p.0 (and_from (keyed_under n.parts.head below ks right) true p.1 refl)) in
            (c.0, (joined n left right more c.0 here e q c.1.0, c.1.1))

    of-box : (ks : List ℕ) → keyed single n below ks ≡ true → KeyAmong single boxes n.id ks
    of-box ks h = elim (or_cases (single n.id) (keyed_by n.parts.kind n below ks) h) [
      | inl t ↦ ([], (one_row n here t, refl))
      | inr t ↦ of-kind n.parts.kind refl ks t
    ]

  -- of boxes at the end of the graph
  inferred : (after : List Node) → ((n : Node) → In n after → In n boxes) → (b : ℕ) (ks : List ℕ) → holds_key single after b ks ≡ true → KeyAmong single boxes b ks
  inferred [] sub b ks h = absurd (let z : ⊥ = cc in z)
  inferred (n ∷ after) sub b ks h = one (n.id == b) refl h (λ c js k. inferred after (λ m i. sub m (inr i)) c js k)
    where
      one : (t : Bool) → (n.id == b) ≡ t → (cond t (keyed single n (holds_key single after)) (holds_key single after b)) ks ≡ true
          → ((c : ℕ) (js : List ℕ) → holds_key single after c js ≡ true → KeyAmong single boxes c js) → KeyAmong single boxes b ks
      one true e h under = subst (λ b. KeyAmong single boxes b ks) (eqb-true n.id b e) (of-box n (sub n (inl refl)) (holds_key single after) under ks h)
      one false e h under = under b ks h

pub keys-exact : (single : ℕ → Bool) (boxes : List Node) → Ordered boxes → (b : ℕ) (ks : List ℕ) → (holds_key single boxes b ks ≡ true) ↔ KeyAmong single boxes b ks
keys-exact single boxes ordered b ks = (λ h. inferred single boxes boxes (λ n i. i) b ks h, λ k. found single boxes ordered b k.0 ks k.1.0 k.1.1)

-- ---- over the facts that are inferred

-- which boxes are known to have at most one row
same-single : (known those : Facts) (ns : List Node) → Tells known ns → Tells those ns → known.at_most_one ≡ those.at_most_one
same-single known those ns t u =
    fun_ext (λ b. same-truth (known.at_most_one b) (those.at_most_one b) (λ h. (u (at_most_one b)).1 ((t (at_most_one b)).0 h)) (λ h. (t (at_most_one b)).1 ((u (at_most_one b)).0 h)))

pub tells-key : (known : Facts) (ns : List Node) (b : ℕ) (ks : List ℕ) (answer : Bool) → answer ≡ holds_key known.at_most_one ns b ks → TellsKey answer known ns b ks
tells-key known ns b ks answer e tells ordered = (
  λ h those t. subst (λ (single : ℕ → Bool). KeyAmong single ns b ks) (same-single known those ns tells t) ((keys-exact known.at_most_one ns ordered b ks).0 (sym e ∙ h)),
  λ k. e ∙ (keys-exact known.at_most_one ns ordered b ks).1 (k known tells),
)
