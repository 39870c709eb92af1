-- The table of slots under edits.
use Rattle.std.proofs.Common.{ℕ, zero, suc, ◌==◌, ◌≡◌, ◌<◌, ◌≤◌, ◌+◌, ◌++◌, ◌||◌, nat_lt, cond, Bool, true, false, List, [], ◌∷◌, filter, Option, Some, None, length, map, slice_get, take, get_or, eqb-true, refl, sym, ap, subst, ◌∙◌, inl, inr, arith}
use Rattle.std.proofs.lemmas.Bool.{cases_Bool, eq-eqb, ltb-true}
use Rattle.qgm_core.specs.Boxes.{has_box, ids_of, is_box, is_quant, numbers, overs_in, overs_of}
use Rattle.qgm_core.specs.Edits.{on_quant}
use Rattle.qgm_core.specs.Free.{free_in, reached}
use Rattle.qgm_core.specs.Numbered.{Numbered, Under}
use Rattle.qgm_core.specs.Slots.{CountsUses, EachSlotOnce, KeepsFree, Marked, Recounted, SlotTable, Sound, Stored, kept}
use Rattle.list_laws.specs.Lists.{change, first, holds, times}
use Rattle.qgm_core.specs.declared.node.Node.{Node}
use Rattle.qgm_core.specs.declared.owned.OwnedQuant.{OwnedQuant}
use Rattle.list_laws.proofs.Counting.{each-once, times-append}
use Rattle.qgm_core.proofs.Fresh.{numbered-parts, numbers-change}
use Rattle.qgm_core.proofs.Stacked.{once-most}
use Rattle.qgm_core.proofs.Untouched.{found-number, others, others-change, untouched}

-- ---- slots

-- what is counted once is a slot
pub is-slot : (x n k m : ℕ) → 1 ≤ k → k + m ≡ cond (nat_lt x n) 1 0 → x < n
is-slot x n k m l e = elim (cases_Bool (nat_lt x n)) [
  | inl t ↦ ltb-true x n t
  | inr f ↦ absurd (let z : k + m ≡ 0 = e ∙ ap (λ (b : Bool). cond b 1 0) f in omega (arith, z, l))
]

pub times-itself : (x : ℕ) → times x (x ∷ []) ≡ 1
times-itself x = ap (λ (b : Bool). cond b 1 0 + 0) (eq-eqb x x refl)

pub times-last : (x : ℕ) (xs : List ℕ) (b : ℕ) → times x (xs ++ b ∷ []) ≡ times x xs + times x (b ∷ [])
times-last x xs b = times-append x xs (b ∷ [])

pub last-slot : (vacant now : List ℕ) (b n m : ℕ) → vacant ≡ now ++ b ∷ [] → times b vacant + m ≡ cond (nat_lt b n) 1 0 → b < n
last-slot vacant now b n m e h =
    let k : times b vacant ≡ times b now + 1 = ap (times b) e ∙ times-last b now b ∙ ap (λ (k : ℕ). times b now + k) (times-itself b) in
    is-slot b n (times b vacant) m (omega (arith, k)) h

-- ---- room for a vacant slot

pub under-counted : (n : ℕ) (xs : List ℕ) → ((x : ℕ) → 1 ≤ times x xs → x < n) → Under n xs
under-counted n [] h = tt
under-counted n (x ∷ xs) h = (
  h x (let e : times x (x ∷ xs) ≡ 1 + times x xs = ap (λ (b : Bool). cond b 1 0 + times x xs) (eq-eqb x x refl) in omega (arith, e)),
  under-counted n xs (λ y l. h y (omega (arith, l))),
)

-- a slot that isn't vacant leaves room among the vacant ones
pub room : (vacant : List ℕ) (b n : ℕ) → ((x : ℕ) → times x vacant + times x (b ∷ []) ≤ cond (nat_lt x n) 1 0) → length vacant < n
room vacant b n h =
    let all = b ∷ vacant in
    let one : (x : ℕ) → times x all ≤ cond (nat_lt x n) 1 0 = λ x. (let l = h x in omega (arith, l)) in
    let once = each-once all (λ x. (let l = one x in elim (nat_lt x n) as (λ t. times x all ≤ cond t 1 0 → times x all ≤ 1) [ true ↦ λ l. l | false ↦ λ l. omega (arith, l) ] l)) in
    let under = under-counted n all (λ x k. (let l = one x in elim (cases_Bool (nat_lt x n)) [
      | inl t ↦ ltb-true x n t
      | inr f ↦ absurd (let z : times x all ≤ 0 = subst (λ (b : Bool). times x all ≤ cond b 1 0) f l in omega (arith, z, k))
    ])) in
    let most = once-most n all once under in
    omega (arith, most)

-- a box's number is one of the numbers
pub number-counted : (x b : ℕ) (ns : List Node) → has_box ns b ≡ true → times x (b ∷ []) ≤ times x (numbers ns)
number-counted x b [] h = absurd (let z : ⊥ = cc in z)
number-counted x b (n ∷ ns) h =
    elim (cases_Bool (n.id == b)) [
      | inl t ↦ (let e : times x (b ∷ []) ≡ times x (n.id ∷ []) = ap (λ (y : ℕ). times x (y ∷ [])) (sym (eqb-true n.id b t)) in omega (arith, e))
      | inr f ↦ (let k = number-counted x b ns (subst (λ (t : Bool). (t || has_box ns b) ≡ true) f h) in omega (arith, k))
    ]

-- those that were given back so far, and one more
pub given-back : (p : Node → Bool) (x : ℕ) (ns : List Node) (i : ℕ) (n : Node) → slice_get ns i ≡ Some n → times x (numbers (filter p (take i ns))) + times x (n.id ∷ []) ≤ times x (numbers ns)
given-back p x [] i n e = absurd (let z : ⊥ = cc in z)
given-back p x (m ∷ ns) zero n e =
    let s : times x (n.id ∷ []) ≡ times x (m.id ∷ []) = (let d : m ≡ n = cc in ap (λ (z : Node). times x (z.id ∷ [])) (sym d)) in
    omega (arith, s)
given-back p x (m ∷ ns) (suc i) n e =
    let k = given-back p x ns i n e in
    elim (p m) as (λ t. times x (numbers (cond t (m ∷ filter p (take i ns)) (filter p (take i ns)))) + times x (n.id ∷ []) ≤ times x (numbers (m ∷ ns))) [
      | true ↦ omega (arith, k)
      | false ↦ omega (arith, k)
    ]

-- ---- lists that are kept

pub unmarked : (b : Bool) (o : Option (List ℕ)) (qs : List ℕ) → cond b None o ≡ Some qs → (b ≡ false) × (o ≡ Some qs)
unmarked true o qs e = absurd (let z : ⊥ = cc in z)
unmarked false o qs e = (refl, e)

marked-kept : (c : ℕ) (ns : List Node) (t u : SlotTable) → Marked c ns t u → (b : ℕ) (qs : List ℕ) → kept b u ≡ Some qs → (holds c (reached (b ∷ []) ns) ≡ false) × (kept b t ≡ Some qs)
marked-kept c ns t u m b qs e = unmarked (holds c (reached (b ∷ []) ns)) (kept b t) qs (sym (m.3 b) ∙ e)

module _ (c : ℕ) (ns ms : List Node) (t u : SlotTable) (same : others c ms ≡ others c ns) where
  -- marked before the edit
  pub keeps-edit : Marked c ns t u → KeepsFree t ns → KeepsFree u ms
  keeps-edit m k b qs e =
      let h = marked-kept c ns t u m b qs e in
      (untouched c b ns ms same h.0).1 ∙ k b qs h.1

  -- or after it
  pub keeps-edited : Marked c ms t u → KeepsFree t ns → KeepsFree u ms
  keeps-edited m k b qs e =
      let h = marked-kept c ms t u m b qs e in
      sym (untouched c b ms ns (sym same) h.0).1 ∙ k b qs h.1

-- two boxes, first b and then c
module _ (b c : ℕ) (ns mid ms : List Node) (t u v : SlotTable) (one : others b mid ≡ others b ns) (two : others c ms ≡ others c mid) where
  pub keeps-two : Marked b ns t u → Marked c ns u v → KeepsFree t ns → KeepsFree v ms
  keeps-two m l k x qs e =
      let h = marked-kept c ns u v l x qs e in
      let j = marked-kept b ns t u m x qs h.1 in
      let a = untouched b x ns mid one j.0 in
      let d : holds c (reached (x ∷ []) mid) ≡ false = ap (λ (rs : List ℕ). holds c rs) a.0 ∙ h.0 in
      (untouched c x mid ms two d).1 ∙ a.1 ∙ k x qs j.1

  -- both marked after the edits, in either order
  pub kept-twice : (x : ℕ) → holds b (reached (x ∷ []) ms) ≡ false → holds c (reached (x ∷ []) ms) ≡ false → free_in ms x ≡ free_in ns x
  kept-twice x h j =
      let a = untouched c x ms mid (sym two) j in
      let d : holds b (reached (x ∷ []) mid) ≡ false = ap (λ (rs : List ℕ). holds b rs) a.0 ∙ h in
      sym a.1 ∙ sym (untouched b x mid ns (sym one) d).1

  pub keeps-twice : Marked b ms t u → Marked c ms u v → KeepsFree t ns → KeepsFree v ms
  keeps-twice m l k x qs e =
      let h = marked-kept c ms u v l x qs e in
      let j = marked-kept b ms t u m x qs h.1 in
      kept-twice x j.0 h.0 ∙ k x qs j.1

  pub keeps-twice-back : Marked c ms t u → Marked b ms u v → KeepsFree t ns → KeepsFree v ms
  keeps-twice-back m l k x qs e =
      let h = marked-kept b ms u v l x qs e in
      let j = marked-kept c ms t u m x qs h.1 in
      kept-twice x h.0 j.0 ∙ k x qs j.1

pub keeps-none : (t : SlotTable) (ns : List Node) → ((b : ℕ) → kept b t ≡ None) → KeepsFree t ns
keeps-none t ns h b qs e = absurd (let d = h b in let z : ⊥ = cc in z)

pub keeps-as : (t u : SlotTable) (ns : List Node) → u.lists ≡ t.lists → KeepsFree t ns → KeepsFree u ns
keeps-as t u ns e k b qs h = k b qs (ap (λ (ls : List (Option (List ℕ))). get_or ls b None) (sym e) ∙ h)

-- ---- slots and uses

pub once-as : (t u : SlotTable) (ns ms : List Node) → ((x : ℕ) → times x u.vacant + times x (numbers ms) ≡ times x t.vacant + times x (numbers ns)) → length u.lists ≡ length t.lists → EachSlotOnce t ns → EachSlotOnce u ms
once-as t u ns ms same e h x = same x ∙ h x ∙ ap (λ (m : ℕ). cond (nat_lt x m) 1 0) (sym e)

-- the same vacant slots, and the same numbers
pub once-same : (t u : SlotTable) (ns ms : List Node) → u.vacant ≡ t.vacant → length u.lists ≡ length t.lists → ((x : ℕ) → times x (numbers ms) ≡ times x (numbers ns)) → EachSlotOnce t ns → EachSlotOnce u ms
once-same t u ns ms v e same = once-as t u ns ms (λ x. (let a : times x u.vacant ≡ times x t.vacant = ap (times x) v in let b = same x in omega (arith, a, b))) e

pub counts-as : (old new : List ℕ) (ns ms : List Node) → new ≡ old → ((x : ℕ) → times x (overs_in ms) ≡ times x (overs_in ns)) → CountsUses old ns → CountsUses new ms
counts-as old new ns ms e same h = subst (λ (us : List ℕ). CountsUses us ms) (sym e) (λ x l. h x l ∙ sym (same x))

-- ---- one box changed

pub overs-change : (p : Node → Bool) (f : Node → Node) → ((n : Node) → overs_of (f n) ≡ overs_of n) → (ns : List Node) → overs_in (change p f ns) ≡ overs_in ns
overs-change p f h [] = refl
overs-change p f h (n ∷ ns) = elim (p n) as (λ t. overs_in (cond t (f n ∷ ns) (n ∷ change p f ns)) ≡ overs_of n ++ overs_in ns) [
  | true ↦ ap (λ (os : List ℕ). os ++ overs_in ns) (h n)
  | false ↦ ap (λ (os : List ℕ). overs_of n ++ os) (overs-change p f h ns)
]

-- a box with the same number, whose quantifiers range over the same boxes
pub stored-parts : (c : ℕ) (p : Node → Bool) (f : Node → Node) (ns : List Node) (t u : SlotTable) → ((n : Node) → (f n).id ≡ n.id) → ((n : Node) → overs_of (f n) ≡ overs_of n) → ((n : Node) → first p ns ≡ Some n → n.id ≡ c) →
    Marked c ns t u → Stored t ns → Stored u (change p f ns)
stored-parts c p f ns t u same overs at m s = (
  once-same t u ns (change p f ns) m.1 m.2 (λ x. ap (times x) (numbers-change p f same ns)) s.0,
  counts-as t.uses u.uses ns (change p f ns) m.0 (λ x. ap (times x) (overs-change p f overs ns)) s.1,
  keeps-edit c ns (change p f ns) t u (others-change c p f ns same at) m s.2,
)

pub stored-parted : (c : ℕ) (f : Node → Node) (ns : List Node) (t u : SlotTable) → ((n : Node) → (f n).id ≡ n.id) → ((n : Node) → overs_of (f n) ≡ overs_of n) → Marked c ns t u → Stored t ns → Stored u (change (is_box c) f ns)
stored-parted c f ns t u same overs m s = stored-parts c (is_box c) f ns t u same overs (found-number c ns) m s

-- one with the same number, where the uses are counted anew
pub stored-requanted : (c : ℕ) (p : Node → Bool) (f : Node → Node) (ns : List Node) (t u v : SlotTable) → ((n : Node) → (f n).id ≡ n.id) → ((n : Node) → first p ns ≡ Some n → n.id ≡ c) →
    Marked c ns t u → Recounted (change p f ns) u v → Stored t ns → Stored v (change p f ns)
stored-requanted c p f ns t u v same at m r s =
    let ms = change p f ns in (
      once-same t v ns ms (r.0 ∙ m.1) (ap length r.1 ∙ m.2) (λ x. ap (times x) (numbers-change p f same ns)) s.0,
      r.2,
      keeps-as u v ms r.1 (keeps-edit c ns ms t u (others-change c p f ns same at) m s.2),
    )

pub under-held : (m : ℕ) (ns : List Node) (b : ℕ) → Under m (numbers ns) → has_box ns b ≡ true → b < m
under-held m [] b u h = absurd (let z : ⊥ = cc in z)
under-held m (n ∷ ns) b u h = elim (cases_Bool (n.id == b)) [
  | inl t ↦ subst (λ (y : ℕ). y < m) (eqb-true n.id b t) u.0
  | inr f ↦ under-held m ns b u.1 (subst (λ (t : Bool). (t || has_box ns b) ≡ true) f h)
]

-- ---- all of the invariant

module _ (c : ℕ) (p : Node → Bool) (f : Node → Node) (ns : List Node) (t u : SlotTable) (q : ℕ) where
  pub sound-parts : ((n : Node) → (f n).id ≡ n.id) → ((n : Node) → ids_of (f n) ≡ ids_of n) → ((n : Node) → overs_of (f n) ≡ overs_of n) → ((n : Node) → first p ns ≡ Some n → n.id ≡ c) →
      Marked c ns t u → Sound t q ns → Sound u q (change p f ns)
  sound-parts same ids overs at m s = (
    subst (λ (k : ℕ). Numbered k q (change p f ns)) (sym m.2) (numbered-parts p f (length t.lists) q ns same ids s.0),
    stored-parts c p f ns t u same overs at m s.1,
  )

  pub sound-requanted : (v : SlotTable) (r : ℕ) → ((n : Node) → (f n).id ≡ n.id) → ((n : Node) → first p ns ≡ Some n → n.id ≡ c) → Marked c ns t u → Recounted (change p f ns) u v → Sound t q ns →
      Numbered (length t.lists) r (change p f ns) → Sound v r (change p f ns)
  sound-requanted v r same at m d s n = (
    subst (λ (k : ℕ). Numbered k r (change p f ns)) (sym (ap length d.1 ∙ m.2)) n,
    stored-requanted c p f ns t u v same at m d s.1,
  )

-- a box's parts are others
pub sound-parted : (c : ℕ) (f : Node → Node) (ns : List Node) (t u : SlotTable) (q : ℕ) → ((n : Node) → (f n).id ≡ n.id) → ((n : Node) → ids_of (f n) ≡ ids_of n) → ((n : Node) → overs_of (f n) ≡ overs_of n) → Marked c ns t u → Sound t q ns → Sound u q (change (is_box c) f ns)
sound-parted c f ns t u q same ids overs m s = sound-parts c (is_box c) f ns t u q same ids overs (found-number c ns) m s

-- ---- owners

pub found-owner : (p : Node → Bool) (ns : List Node) (o : Node) → first p ns ≡ Some o → (n : Node) → first p ns ≡ Some n → n.id ≡ o.id
found-owner p ns o h n e = let z : Some n ≡ Some o = sym e ∙ h in let s : n ≡ o = cc in ap (λ (m : Node). m.id) s

-- marked after the edit
module _ (c : ℕ) (f : Node → Node) (ns : List Node) (t u v : SlotTable) where
  pub sound-more : (r : ℕ) (q : ℕ) → ((n : Node) → (f n).id ≡ n.id) → Marked c (change (is_box c) f ns) t u → Recounted (change (is_box c) f ns) u v → Sound t q ns →
      Numbered (length t.lists) r (change (is_box c) f ns) → Sound v r (change (is_box c) f ns)
  sound-more r q same m d s n =
      let ms = change (is_box c) f ns in (
        subst (λ (k : ℕ). Numbered k r ms) (sym (ap length d.1 ∙ m.2)) n,
        (
          once-same t v ns ms (d.0 ∙ m.1) (ap length d.1 ∙ m.2) (λ x. ap (times x) (numbers-change (is_box c) f same ns)) s.1.0,
          d.2,
          keeps-as u v ms d.1 (keeps-edited c ns ms t u (others-change c (is_box c) f ns same (found-number c ns)) m s.1.2),
        ),
      )

-- ---- quantifiers that range over the same boxes

pub overs-kind : (q : ℕ) (f : OwnedQuant → OwnedQuant) (n : Node) → ((r : OwnedQuant) → (f r).over ≡ r.over) → overs_of (on_quant q f n) ≡ overs_of n
overs-kind q f n h = go n.quants
  where
    go : (rs : List OwnedQuant) → map (λ r. r.over) (change (is_quant q) f rs) ≡ map (λ r. r.over) rs
    go [] = refl
    go (r ∷ rs) = elim (r.id == q) as (λ t. map (λ r. r.over) (cond t (f r ∷ rs) (r ∷ change (is_quant q) f rs)) ≡ r.over ∷ map (λ r. r.over) rs) [
      | true ↦ ap (λ (b : ℕ). b ∷ map (λ r. r.over) rs) (h r)
      | false ↦ ap (λ (bs : List ℕ). r.over ∷ bs) (go rs)
    ]

-- ---- two boxes changed

pub sound-both : (b c : ℕ) (f h : Node → Node) (ns : List Node) (t u v : SlotTable) (q : ℕ) → ((n : Node) → (f n).id ≡ n.id) → ((n : Node) → (h n).id ≡ n.id) → ((n : Node) → ids_of (f n) ≡ ids_of n) → ((n : Node) → ids_of (h n) ≡ ids_of n) →
    ((n : Node) → overs_of (f n) ≡ overs_of n) → ((n : Node) → overs_of (h n) ≡ overs_of n) → Marked b ns t u → Marked c ns u v → Sound t q ns → Sound v q (change (is_box c) h (change (is_box b) f ns))
sound-both b c f h ns t u v q same-f same-h ids-f ids-h overs-f overs-h m l s =
    let mid = change (is_box b) f ns in
    let ms = change (is_box c) h mid in (
      subst (λ (k : ℕ). Numbered k q ms) (sym (l.2 ∙ m.2)) (numbered-parts (is_box c) h (length t.lists) q mid same-h ids-h (numbered-parts (is_box b) f (length t.lists) q ns same-f ids-f s.0)),
      (
        once-same t v ns ms (l.1 ∙ m.1) (l.2 ∙ m.2) (λ x. ap (times x) (numbers-change (is_box c) h same-h mid ∙ numbers-change (is_box b) f same-f ns)) s.1.0,
        counts-as t.uses v.uses ns ms (l.0 ∙ m.0) (λ x. ap (times x) (overs-change (is_box c) h overs-h mid ∙ overs-change (is_box b) f overs-f ns)) s.1.1,
        keeps-two b c ns mid ms t u v (others-change b (is_box b) f ns same-f (found-number b ns)) (others-change c (is_box c) h mid same-h (found-number c mid)) m l s.1.2,
      ),
    )

-- a box's parts are others, and it is marked then
pub sound-parted_then : (c : ℕ) (f : Node → Node) (ns : List Node) (t u : SlotTable) (q : ℕ) → ((n : Node) → (f n).id ≡ n.id) → ((n : Node) → ids_of (f n) ≡ ids_of n) → ((n : Node) → overs_of (f n) ≡ overs_of n) → Marked c (change (is_box c) f ns) t u → Sound t q ns →
    Sound u q (change (is_box c) f ns)
sound-parted_then c f ns t u q same ids overs m s =
    let ms = change (is_box c) f ns in (
      subst (λ (k : ℕ). Numbered k q ms) (sym m.2) (numbered-parts (is_box c) f (length t.lists) q ns same ids s.0),
      (
        once-same t u ns ms m.1 m.2 (λ x. ap (times x) (numbers-change (is_box c) f same ns)) s.1.0,
        counts-as t.uses u.uses ns ms m.0 (λ x. ap (times x) (overs-change (is_box c) f overs ns)) s.1.1,
        keeps-edited c ns ms t u (others-change c (is_box c) f ns same (found-number c ns)) m s.1.2,
      ),
    )
