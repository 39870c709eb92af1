-- The table of slots where boxes come and go.
use Rattle.qgm_core.proofs.ShiftedNames.{free-shifted}
use Rattle.qgm_core.specs.Free.{reached}
use Rattle.list_laws.proofs.Indexed.{get-less, index-get}
use Rattle.qgm_core.proofs.Stacked.{numbered-made}
use Rattle.std.proofs.Common.{ℕ, ◌≡◌, ◌<◌, ◌+◌, ◌++◌, Bool, true, List, [], ◌∷◌, Option, Some, filter, length, refl, sym, ap, subst, ◌∙◌, arith, suc, ◌==◌, ◌≤◌, nat_lt, cond, false, None, inl, inr, slice_get, get_or}
use Rattle.std.specs.List.{list_any}
use Rattle.std.proofs.lemmas.Bool.{cases_order, eq-eqb, le-ltb, lt-ltb, ne_eqb}
use Rattle.qgm_core.specs.Boxes.{bare_box, has_box, ids_in, ids_of, is_box, is_quant, numbers, overs_in, overs_of, owns, put_at, quants_in, range_in}
use Rattle.qgm_core.specs.Edits.{absorbed, put_range, put_range_found, quant_moved, quants_over, shift_boxes, shifted_over, spliced_at, with_quants, without_quant}
use Rattle.qgm_core.specs.Made.{boxes_of, made_box, on_top}
use Rattle.qgm_core.specs.Numbered.{Numbered, Under}
use Rattle.qgm_core.specs.Slots.{Cleared, CountsUses, EachSlotOnce, Marked, Recounted, SlotTable, Sound, Stored, kept, slot_times, EachMarked, meets}
use Rattle.list_laws.specs.Lists.{change, each, first, put_below, times, without}
use Rattle.qgm_core.specs.declared.made.NewBox.{NewBox}
use Rattle.qgm_core.specs.declared.node.Node.{Node}
use Rattle.qgm_core.specs.declared.owned.OwnedQuant.{OwnedQuant}
use Rattle.qgm_core.specs.declared.parts.BoxParts.{BoxParts}
use Rattle.list_laws.proofs.Counting.{each-once, times-append}
use Rattle.qgm_core.proofs.Fresh.{numbered-parts, numbers-change}
use Rattle.qgm_core.proofs.Kept.{numbered-filter}
use Rattle.qgm_core.proofs.Moved.{numbered-moved}
use Rattle.qgm_core.proofs.Requanted.{numbered-requanted}
use Rattle.qgm_core.proofs.Shifts.{numbered-shifted, shift-numbers}
use Rattle.qgm_core.proofs.Slotted.{counts-as, found-owner, is-slot, keeps-as, keeps-edit, keeps-edited, keeps-none, keeps-twice, number-counted, once-as, once-same, overs-change, room, times-itself, times-last, under-counted, unmarked}
use Rattle.qgm_core.proofs.Spliced.{numbered-absorbed, numbered-dropped}
use Rattle.qgm_core.proofs.Totals.{numbers-filter, numbers-moved, numbers-put, numbers-without, overs-moved, overs-put, requanted-overs}
use Rattle.qgm_core.proofs.Untouched.{found-number, others, others-below, others-change, others-last, others-without, free-kept, gone}

-- a box goes below another one
pub sound-moved : (c d : ℕ) (n : Node) (ns : List Node) (t u : SlotTable) (q : ℕ) → first (is_box c) ns ≡ Some n → Marked c ns t u → Sound t q ns → Sound u q (put_below (is_box d) n (without (is_box c) ns))
sound-moved c d n ns t u q e m s =
    let ms = put_below (is_box d) n (without (is_box c) ns) in (
      subst (λ (k : ℕ). Numbered k q ms) (sym m.2) (numbered-moved (is_box c) (is_box d) _ q ns n e s.0),
      (
        once-same t u ns ms m.1 m.2 (λ x. numbers-moved x ns n (is_box c) (is_box d) e) s.1.0,
        counts-as t.uses u.uses ns ms m.0 (λ x. overs-moved x ns n (is_box c) (is_box d) e) s.1.1,
        keeps-edit c ns ms t u (others-below c (is_box d) n (without (is_box c) ns) (found-number c ns n e) ∙ others-without c ns) m s.1.2,
      ),
    )

-- a box leaves room among the vacant slots
pub vacant-room : (b : ℕ) (ns : List Node) (t : SlotTable) → has_box ns b ≡ true → EachSlotOnce t ns → length t.vacant < length t.lists
vacant-room b ns t h o = room t.vacant b (length t.lists) (λ x. (let k = number-counted x b ns h in let e = o x in omega (arith, k, e)))

-- the slot of a box that goes is vacant
module _ (b : ℕ) (n : Node) (ns : List Node) (e : first (is_box b) ns ≡ Some n) where
  given : (x : ℕ) (old new : List ℕ) → new ≡ old ++ b ∷ [] → times x new + times x (numbers (without (is_box b) ns)) ≡ times x old + times x (numbers ns)
  given x old new v =
      let a : times x new ≡ times x old + times x (b ∷ []) = ap (times x) v ∙ times-last x old b in
      let k = numbers-without x ns n (is_box b) e in
      let i : times x (n.id ∷ []) ≡ times x (b ∷ []) = ap (λ (y : ℕ). times x (y ∷ [])) (found-number b ns n e) in
      omega (arith, a, k, i)

  pub sound-dropped : (t u v w : SlotTable) (q : ℕ) → Marked b ns t u → v.vacant ≡ u.vacant ++ b ∷ [] → v.lists ≡ u.lists → Recounted (without (is_box b) ns) v w → Sound t q ns → Sound w q (without (is_box b) ns)
  sound-dropped t u v w q m vacant lists d s =
      let ms = without (is_box b) ns in
      let long : length w.lists ≡ length t.lists = ap length (d.1 ∙ lists) ∙ m.2 in (
        subst (λ (k : ℕ). Numbered k q ms) (sym long) (numbered-dropped (is_box b) _ q ns n e s.0),
        (
          once-as t w ns ms (λ x. given x t.vacant w.vacant (d.0 ∙ vacant ∙ ap (λ (ys : List ℕ). ys ++ b ∷ []) m.1)) long s.1.0,
          d.2,
          keeps-as u w ms (d.1 ∙ lists) (keeps-edit b ns ms t u (others-without b ns) m s.1.2),
        ),
      )

  -- and another box takes its quantifiers
  pub sound-absorbed : (a i : ℕ) (t u v w y : SlotTable) (q : ℕ) → u.vacant ≡ t.vacant ++ b ∷ [] → u.lists ≡ t.lists → Marked b (absorbed a i b ns) u v → Marked a (absorbed a i b ns) v w → Recounted (absorbed a i b ns) w y → Sound t q ns → Sound y q (absorbed a i b ns)
  sound-absorbed a i t u v w y q vacant lists m l d s =
      let mid = without (is_box b) ns in
      let f = with_quants (spliced_at i (quants_in (first (is_box b) ns))) in
      let ms = absorbed a i b ns in
      let long : length y.lists ≡ length t.lists = ap length d.1 ∙ l.2 ∙ m.2 ∙ ap length lists in
      let same : numbers ms ≡ numbers mid = numbers-change (is_box a) f (λ n. refl) mid in (
        subst (λ (k : ℕ). Numbered k q ms) (sym long) (numbered-absorbed a i b _ q ns n e s.0),
        (
          once-as t y ns ms (λ x. ap (λ (bs : List ℕ). times x y.vacant + times x bs) same ∙ given x t.vacant y.vacant (d.0 ∙ l.1 ∙ m.1 ∙ vacant)) long s.1.0,
          d.2,
          keeps-as w y ms d.1 (keeps-twice b a ns mid ms u v w (others-without b ns) (others-change a (is_box a) f mid (λ n. refl) (found-number a mid)) m l (keeps-as t u ns lists s.1.2)),
        ),
      )

-- a quantifier goes to another place
pub sound-moved_quant : (q b i : ℕ) (ns : List Node) (n m : Node) (r : OwnedQuant) (t u v : SlotTable) (k : ℕ) → list_any (owns q) ns ≡ true → first (owns q) ns ≡ Some n → first (is_quant q) n.quants ≡ Some r →
    first (is_box b) (change (owns q) (without_quant q) ns) ≡ Some m → Marked n.id (quant_moved q b i ns) t u → Marked b (quant_moved q b i ns) u v → Sound t k ns → Sound v k (quant_moved q b i ns)
sound-moved_quant q b i ns n m r t u v k h own range there one two s =
    let mid = change (owns q) (without_quant q) ns in
    let ms = quant_moved q b i ns in
    let new = change (is_box b) (put_range i r) mid in
    let unfolded : ms ≡ new = ap (λ (o : Option OwnedQuant). put_range_found b i o mid) (ap (range_in q) own ∙ range) in
    let same : numbers ms ≡ numbers ns = ap (λ (os : List Node). numbers os) unfolded ∙ numbers-change (is_box b) (put_range i r) (λ n. refl) mid ∙ numbers-change (owns q) (without_quant q) (λ n. refl) ns in
    let others-new : others b ms ≡ others b mid = ap (λ (os : List Node). others b os) unfolded ∙ others-change b (is_box b) (put_range i r) mid (λ n. refl) (found-number b mid) in (
      subst (λ (l : ℕ). Numbered l k ms) (sym (two.2 ∙ one.2)) (numbered-requanted q b i _ k ns h s.0),
      (
        once-same t v ns ms (two.1 ∙ one.1) (two.2 ∙ one.2) (λ x. ap (times x) same) s.1.0,
        counts-as t.uses v.uses ns ms (two.0 ∙ one.0) (λ x. requanted-overs x q b i ns n m r own range there) s.1.1,
        keeps-twice n.id b ns mid ms t u v (others-change n.id (owns q) (without_quant q) ns (λ n. refl) (found-owner (owns q) ns n own)) others-new one two s.1.2,
      ),
    )

-- the boxes that pass stay
pub sound-kept : (p : Node → Bool) (ns : List Node) (t u v w : SlotTable) (q : ℕ) → EachMarked (gone p ns) ns t u → v.vacant ≡ u.vacant ++ gone p ns → v.lists ≡ u.lists → Recounted (filter p ns) v w → Sound t q ns → Sound w q (filter p ns)
sound-kept p ns t u v w q a vacant lists d s =
    let ms = filter p ns in
    let cs = gone p ns in
    let long : length w.lists ≡ length t.lists = ap length (d.1 ∙ lists) ∙ a.2 in (
      subst (λ (k : ℕ). Numbered k q ms) (sym long) (numbered-filter p _ q ns s.0),
      (
        once-as t w ns ms (λ x. (
            let e : times x w.vacant ≡ times x t.vacant + times x cs = ap (times x) (d.0 ∙ vacant) ∙ times-append x u.vacant cs ∙ ap (λ (ys : List ℕ). times x ys + times x cs) a.1 in
            let k = numbers-filter x p ns in
            omega (arith, e, k))) long s.1.0,
        d.2,
        keeps-as u w ms (d.1 ∙ lists) (λ b qs e. (
            let h = unmarked (meets cs (reached (b ∷ []) ns)) (kept b t) qs (sym (a.3 b) ∙ e) in
            free-kept p ns b h.0 ∙ s.1.2 b qs h.1)),
      ),
    )

-- ---- columns that shift

shift-overs : (k q : ℕ) (ns : List Node) → overs_in (shift_boxes k q ns) ≡ overs_in ns
shift-overs k q [] = refl
shift-overs k q (n ∷ ns) = ap (λ (os : List ℕ). overs_of n ++ os) (shift-overs k q ns)

each-overs : (k : ℕ) (qs : List ℕ) (ns : List Node) → overs_in (each (shift_boxes k) qs ns) ≡ overs_in ns
each-overs k [] ns = refl
each-overs k (q ∷ qs) ns = each-overs k qs (shift_boxes k q ns) ∙ shift-overs k q ns

each-numbers : (k : ℕ) (qs : List ℕ) (ns : List Node) → numbers (each (shift_boxes k) qs ns) ≡ numbers ns
each-numbers k [] ns = refl
each-numbers k (q ∷ qs) ns = each-numbers k qs (shift_boxes k q ns) ∙ shift-numbers k q ns

-- the box that loses a column is marked, and what is free in others stays
pub sound-shifted : (k b : ℕ) (f : Node → Node) (ns : List Node) (t u : SlotTable) (q : ℕ) → ((n : Node) → (f n).id ≡ n.id) → ((n : Node) → ids_of (f n) ≡ ids_of n) → ((n : Node) → overs_of (f n) ≡ overs_of n) → Marked b ns t u → Sound t q ns →
    Sound u q (shifted_over b k (change (is_box b) f ns))
sound-shifted k b f ns t u q same ids overs m s =
    let mid = change (is_box b) f ns in
    let qs = quants_over b mid in
    let ms = shifted_over b k mid in (
      subst (λ (l : ℕ). Numbered l q ms) (sym m.2) (numbered-shifted k _ q qs mid (numbered-parts (is_box b) f _ q ns same ids s.0)),
      (
        once-same t u ns ms m.1 m.2 (λ x. ap (times x) (each-numbers k qs mid ∙ numbers-change (is_box b) f same ns)) s.1.0,
        counts-as t.uses u.uses ns ms m.0 (λ x. ap (times x) (each-overs k qs mid ∙ overs-change (is_box b) f overs ns)) s.1.1,
        λ x rs e. free-shifted k qs mid x ∙ keeps-edit b ns mid t u (others-change b (is_box b) f ns same (found-number b ns)) m s.1.2 x rs e,
      ),
    )

-- ---- a box more

-- what a slot that is taken leaves
abbrev pub TakenFrom : ℕ → SlotTable → SlotTable → Type 0
TakenFrom b t u = (x : ℕ) → times x t.vacant + slot_times x u ≡ times x (b ∷ []) + (times x u.vacant + slot_times x t)

slot-most : (x : ℕ) (t : SlotTable) → slot_times x t ≤ 1
slot-most x t = elim (nat_lt x (length t.lists)) as (λ b. cond b 1 0 ≤ 1) [ true ↦ omega arith | false ↦ omega arith ]

pub fresh-slot : (b : ℕ) (ns : List Node) (t u : SlotTable) → TakenFrom b t u → EachSlotOnce t ns → has_box ns b ≡ true → ⊥
fresh-slot b ns t u k s h =
    let own = times-itself b in
    let one = number-counted b b ns h in
    let a = k b in
    let e = s b in
    let l = slot-most b u in
    omega (arith, own, one, a, e, l)

module _ (b : ℕ) (parts : BoxParts) (below : Option ℕ) (ns : List Node) (t u : SlotTable) (taken : TakenFrom b t u) where
  abbrev more : List Node
  more = put_at below (bare_box b parts) ns

  pub once-added : EachSlotOnce t ns → EachSlotOnce u more
  once-added s x =
      let a = numbers-put x ns (bare_box b parts) below in
      let e = s x in
      let k = taken x in
      omega (arith, a, e, k)

  pub numbered-added : (q : ℕ) → ids_in more ≡ ids_in ns → Sound t q ns → Numbered (length u.lists) q more
  numbered-added q ids s =
      let o = once-added s.1.0 in (
        under-counted (length u.lists) (numbers more) (λ x k. (let e = o x in is-slot x (length u.lists) (times x (numbers more)) (times x u.vacant) k (omega (arith, e)))),
        each-once (numbers more) (λ x. (let e = o x in let l = slot-most x u in omega (arith, e, l))),
        subst (Under q) (sym ids) s.0.2,
        subst (λ qs. length qs ≤ q) (sym ids) s.0.3,
      )

  others-more : others b more ≡ others b ns
  others-more = go below
    where
      go : (below : Option ℕ) → others b (put_at below (bare_box b parts) ns) ≡ others b ns
      go None = others-last b (bare_box b parts) ns refl
      go (Some c) = others-below b (is_box c) (bare_box b parts) ns refl

  pub sound-added : (v : SlotTable) (q : ℕ) → ids_in more ≡ ids_in ns → (CountsUses t.uses ns → CountsUses u.uses ns) → ((x : ℕ) → kept x u ≡ kept x t) → Marked b more u v → Sound t q ns → Sound v q more
  sound-added v q ids uses lists m s = (
    subst (λ (k : ℕ). Numbered k q more) (sym m.2) (numbered-added q ids s),
    (
      once-same u v more more m.1 m.2 (λ x. refl) (once-added s.1.0),
      counts-as u.uses v.uses ns more m.0 (λ x. (let e = overs-put x ns (bare_box b parts) below in omega (arith, e))) (uses s.1.1),
      keeps-edited b ns more u v others-more m (λ x qs e. s.1.2 x qs (sym (lists x) ∙ e)),
    ),
  )

-- ---- new graphs

-- the numbers of boxes that were made in turn
made-times : (x b : ℕ) (made : List NewBox) (below : List Node) → ((y : ℕ) → times y (numbers below) ≡ cond (nat_lt y b) 1 0) → times x (numbers (on_top b made below)) ≡ cond (nat_lt x (b + length made)) 1 0
made-times x b [] below h = h x ∙ ap (λ (m : ℕ). cond (nat_lt x m) 1 0) (omega arith)
made-times x b (n ∷ made) below h =
    made-times x (suc b) made (made_box b n ∷ below) (λ y. one-above y b (times y (numbers below)) (h y))
    ∙ ap (λ (m : ℕ). cond (nat_lt x m) 1 0) (omega arith)
  where
    one-above : (y b k : ℕ) → k ≡ cond (nat_lt y b) 1 0 → cond (b == y) 1 0 + k ≡ cond (nat_lt y (suc b)) 1 0
    one-above y b k e = elim (cases_order y b) [
      | inl s ↦ (
          let i : (b == y) ≡ true = eq-eqb b y (sym s) in
          let n : nat_lt y b ≡ false = le-ltb y b (omega (arith, s)) in
          let l : nat_lt y (suc b) ≡ true = lt-ltb y (suc b) (omega (arith, s)) in
          ap (λ (t : Bool). cond t 1 0 + k) i ∙ ap (λ (m : ℕ). 1 + m) (e ∙ ap (λ (t : Bool). cond t 1 0) n) ∙ sym (ap (λ (t : Bool). cond t 1 0) l))
      | inr (inl l) ↦ (
          let i : (b == y) ≡ false = ne_eqb b y (λ s. omega (arith, s, l)) in
          let n : nat_lt y b ≡ true = lt-ltb y b l in
          let m : nat_lt y (suc b) ≡ true = lt-ltb y (suc b) (omega (arith, l)) in
          ap (λ (t : Bool). cond t 1 0 + k) i ∙ ap (λ (m : ℕ). 0 + m) (e ∙ ap (λ (t : Bool). cond t 1 0) n) ∙ sym (ap (λ (t : Bool). cond t 1 0) m))
      | inr (inr g) ↦ (
          let i : (b == y) ≡ false = ne_eqb b y (λ s. omega (arith, s, g)) in
          let n : nat_lt y b ≡ false = le-ltb y b (omega (arith, g)) in
          let m : nat_lt y (suc b) ≡ false = le-ltb y (suc b) (omega (arith, g)) in
          ap (λ (t : Bool). cond t 1 0 + k) i ∙ ap (λ (m : ℕ). 0 + m) (e ∙ ap (λ (t : Bool). cond t 1 0) n) ∙ sym (ap (λ (t : Bool). cond t 1 0) m))
    ]

-- a table without lists, for boxes whose numbers are all slots
pub stored-cleared : (m : ℕ) (ns : List Node) (t u : SlotTable) → Cleared m t → Recounted ns t u → ((x : ℕ) → times x (numbers ns) ≡ cond (nat_lt x m) 1 0) → Stored u ns
stored-cleared m ns t u k d h = (
  (λ x. (
      let v : times x u.vacant ≡ 0 = ap (times x) (d.0 ∙ k.0) in
      let e : slot_times x u ≡ cond (nat_lt x m) 1 0 = ap (λ (l : ℕ). cond (nat_lt x l) 1 0) (ap length d.1 ∙ k.1) in
      let n = h x in
      omega (arith, v, e, n))),
  d.2,
  keeps-as t u ns d.1 (keeps-none t ns k.2),
)

pub sound-made : (m q : ℕ) (made : List NewBox) (t u : SlotTable) → m ≡ length made → Cleared m t → Recounted (boxes_of made) t u → Numbered m q (boxes_of made) → Sound u q (boxes_of made)
sound-made m q made t u e k d n = (
  subst (λ (l : ℕ). Numbered l q (boxes_of made)) (sym (ap length d.1 ∙ k.1)) n,
  stored-cleared m (boxes_of made) t u k d (λ x. made-times x 0 made [] (λ y. sym (ap (λ (t : Bool). cond t 1 0) (le-ltb y 0 (omega arith)))) ∙ ap (λ (l : ℕ). cond (nat_lt x l) 1 0) (omega (arith, e))),
)

-- one box
pub sound-one : (parts : BoxParts) (t u : SlotTable) → Cleared 1 t → Recounted (bare_box 0 parts ∷ []) t u → Sound u 0 (bare_box 0 parts ∷ [])
sound-one parts t u k d =
    let made : List NewBox = record { parts = parts; quants = [] } ∷ [] in
    sound-made 1 0 made t u (omega arith) k d (numbered-made 1 0 made (omega arith) tt tt)

-- ---- what is read

pub uses-kept : (uses : List ℕ) (ns : List Node) (b n : ℕ) → CountsUses uses ns → Some n ≡ slice_get uses b → n ≡ times b (overs_in ns)
uses-kept uses ns b n k e =
    let l = get-less b uses n (sym e) in
    let s : Some n ≡ Some (get_or uses b 0) = e ∙ index-get b uses 0 l in
    let z : n ≡ get_or uses b 0 = cc in
    z ∙ k b l
