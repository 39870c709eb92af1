-- Quantifiers over one box, turned one by one to another, are turned all at once.
use Rattle.std.proofs.Common.{ℕ, zero, suc, ◌<◌, length, slice_index_or, ◌+◌, ◌==◌, ◌≡◌, ◌≤◌, ◌||◌, cond, filter, Bool, true, false, List, [], ◌∷◌, ◌++◌, map, refl, sym, ap, subst, ◌∙◌, eqb-true, inl, inr, arith}
use Rattle.std.specs.List.{list_any}
use Rattle.std.proofs.lemmas.Bool.{cases_Bool, eq-eqb, or_parts}
use Rattle.qgm_core.specs.Boxes.{HasBox, QueryGraph, has_box, ids_in, ids_of, is_quant, owns}
use Rattle.qgm_core.specs.Edits.{ids_over, on_boxes, on_quant, quants_over}
use Rattle.list_laws.specs.Lists.{In, change, each, times}
use Rattle.qgm_core.specs.declared.node.Node.{Node}
use Rattle.qgm_core.specs.declared.owned.OwnedQuant.{OwnedQuant}
use Rattle.qgm_edit_laws.specs.Ranges.{moved, moved_range}
use Rattle.rule_merge.proofs.DropCopyMeans.{any-moved}
use Rattle.list_laws.proofs.Membership.{append-one, any-from, any-in, eq-itself, in-append, in-filter, in-map, in-right}
use Rattle.rule_merge.specs.DropCopySteps.{turned, turned_one}
use Rattle.list_laws.proofs.Counting.{in-times, times-append, times-map, times-some}

each-append : {X Y : Type 0} (f : X → Y → Y) (xs ys : List X) (a : Y) → each f (xs ++ ys) a ≡ each f ys (each f xs a)
each-append f [] ys a = refl
each-append f (x ∷ xs) ys a = each-append f xs ys (f x a)

abbrev over : ℕ → OwnedQuant → OwnedQuant
over c r = record r { over = c }

abbrev holding : Node → List OwnedQuant → Node
holding n rs = record n { quants = rs }

-- the one of its number changes
change-at : (q : ℕ) (f : OwnedQuant → OwnedQuant) (ps : List OwnedQuant) (r : OwnedQuant) (rs : List OwnedQuant) → list_any (is_quant q) ps ≡ false → is_quant q r ≡ true → change (is_quant q) f (ps ++ r ∷ rs) ≡ ps ++ f r ∷ rs
change-at q f [] r rs h e = ap (λ t. cond t (f r ∷ rs) (r ∷ change (is_quant q) f rs)) e
change-at q f (p ∷ ps) r rs h e =
    let a = or_parts (is_quant q p) (list_any (is_quant q) ps) h in
    ap (λ t. cond t (f p ∷ (ps ++ r ∷ rs)) (p ∷ change (is_quant q) f (ps ++ r ∷ rs))) a.0 ∙ ap (λ z. p ∷ z) (change-at q f ps r rs a.1 e)

turn-one : (c : ℕ) (n : Node) (ps : List OwnedQuant) (r : OwnedQuant) (rs : List OwnedQuant) (ns : List Node) → list_any (is_quant r.id) ps ≡ false → turned_one c r.id (holding n (ps ++ r ∷ rs) ∷ ns) ≡ holding n (ps ++ over c r ∷ rs) ∷ ns
turn-one c n ps r rs ns h =
    let m = holding n (ps ++ r ∷ rs) in
    let o : owns r.id m ≡ true = any-from (is_quant r.id) r (ps ++ r ∷ rs) (in-right r ps (r ∷ rs) (inl refl)) (eq-itself r.id) in
    ap (λ t. cond t (on_quant r.id (over c) m ∷ ns) (m ∷ change (owns r.id) (on_quant r.id (over c)) ns)) o
    ∙ ap (λ z. holding n z ∷ ns) (change-at r.id (over c) ps r rs h (eq-itself r.id))

ids-same : (ps : List OwnedQuant) (r s : OwnedQuant) (rs : List OwnedQuant) → r.id ≡ s.id → map (λ (x : OwnedQuant). x.id) (ps ++ r ∷ rs) ≡ map (λ (x : OwnedQuant). x.id) (ps ++ s ∷ rs)
ids-same [] r s rs e = ap (λ z. z ∷ map (λ (x : OwnedQuant). x.id) rs) e
ids-same (p ∷ ps) r s rs e = ap (λ z. p.id ∷ z) (ids-same ps r s rs e)

-- a number that stands once isn't among the others
alone : (ps : List OwnedQuant) (r : OwnedQuant) (rs : List OwnedQuant) → ((q : ℕ) → times q (map (λ (x : OwnedQuant). x.id) (ps ++ r ∷ rs)) ≤ 1) → list_any (is_quant r.id) ps ≡ false
alone [] r rs h = refl
alone (p ∷ ps) r rs h = elim (cases_Bool (p.id == r.id)) [
  | inr f ↦ (let a : list_any (is_quant r.id) ps ≡ false = alone ps r rs (λ q. (let k = h q in fewer (p.id == q) (times q (map (λ (x : OwnedQuant). x.id) (ps ++ r ∷ rs))) k)) in ap (λ z. z || list_any (is_quant r.id) ps) f ∙ a)
  | inl t ↦ absurd (
      let k = h r.id in
      let i : 1 ≤ times r.id (map (λ (x : OwnedQuant). x.id) (ps ++ r ∷ rs)) = in-times (λ (x : OwnedQuant). x.id) r (ps ++ r ∷ rs) (in-right r ps (r ∷ rs) (inl refl)) in
      let l : 1 + times r.id (map (λ (x : OwnedQuant). x.id) (ps ++ r ∷ rs)) ≤ 1 = subst (λ (b : Bool). cond b 1 0 + times r.id (map (λ (x : OwnedQuant). x.id) (ps ++ r ∷ rs)) ≤ 1) t k in
      omega arith)
]
  where
    fewer : (b : Bool) (n : ℕ) → cond b 1 0 + n ≤ 1 → n ≤ 1
    fewer true n h = omega arith
    fewer false n h = omega arith

turn-own : (b c : ℕ) (n : Node) (ns : List Node) (ps rs : List OwnedQuant) → ((q : ℕ) → times q (map (λ (x : OwnedQuant). x.id) (ps ++ rs)) ≤ 1) → turned c (ids_over b rs) (holding n (ps ++ rs) ∷ ns) ≡ holding n (ps ++ map (moved_range b c) rs) ∷ ns
turn-own b c n ns ps [] h = refl
turn-own b c n ns ps (r ∷ rs) h = elim (cases_Bool (r.over == b)) [
  | inl t ↦ (
      let s = over c r in
      let id = λ (x : OwnedQuant). x.id in
      let once : (q : ℕ) → times q (map id ((ps ++ s ∷ []) ++ rs)) ≤ 1 = λ q. subst (λ z. times q (map id z) ≤ 1) (sym (append-one ps s rs)) (subst (λ z. times q z ≤ 1) (ids-same ps r s rs refl) (h q)) in
      ap (λ z. turned c (map id (cond z (r ∷ filter (λ (x : OwnedQuant). x.over == b) rs) (filter (λ (x : OwnedQuant). x.over == b) rs))) (holding n (ps ++ r ∷ rs) ∷ ns)) t
      ∙ ap (turned c (ids_over b rs)) (turn-one c n ps r rs ns (alone ps r rs h))
      ∙ ap (λ z. turned c (ids_over b rs) (holding n z ∷ ns)) (sym (append-one ps s rs))
      ∙ turn-own b c n ns (ps ++ s ∷ []) rs once
      ∙ ap (λ z. holding n z ∷ ns) (append-one ps s (map (moved_range b c) rs) ∙ ap (λ z. ps ++ (record r { over = cond z c r.over }) ∷ map (moved_range b c) rs) (sym t)))
  | inr f ↦ (
      let id = λ (x : OwnedQuant). x.id in
      let once : (q : ℕ) → times q (map id ((ps ++ r ∷ []) ++ rs)) ≤ 1 = λ q. subst (λ z. times q (map id z) ≤ 1) (sym (append-one ps r rs)) (h q) in
      ap (λ z. turned c (map id (cond z (r ∷ filter (λ (x : OwnedQuant). x.over == b) rs) (filter (λ (x : OwnedQuant). x.over == b) rs))) (holding n (ps ++ r ∷ rs) ∷ ns)) f
      ∙ ap (λ z. turned c (ids_over b rs) (holding n z ∷ ns)) (sym (append-one ps r rs))
      ∙ turn-own b c n ns (ps ++ r ∷ []) rs once
      ∙ ap (λ z. holding n z ∷ ns) (append-one ps r (map (moved_range b c) rs) ∙ ap (λ z. ps ++ (record r { over = cond z c r.over }) ∷ map (moved_range b c) rs) (sym f)))
]

turn-below : (c : ℕ) (n : Node) (ns : List Node) (qs : List ℕ) → ((q : ℕ) → In q qs → owns q n ≡ false) → turned c qs (n ∷ ns) ≡ n ∷ turned c qs ns
turn-below c n ns [] h = refl
turn-below c n ns (q ∷ qs) h =
    ap (λ z. turned c qs (cond z (on_quant q (over c) n ∷ ns) (n ∷ turned_one c q ns))) (h q (inl refl)) ∙ turn-below c n (turned_one c q ns) qs (λ p i. h p (inr i))

-- the quantifiers over a box are quantifiers
pub over-owned : (b q : ℕ) (ns : List Node) → In q (quants_over b ns) → 1 ≤ times q (ids_in ns)
over-owned b q [] i = elim i [ ]
over-owned b q (n ∷ ns) i =
    let s = times-append q (ids_of n) (ids_in ns) in
    elim (in-append q (ids_over b n.quants) (quants_over b ns) i) [
      | inl j ↦ (
          let m = in-map (λ (x : OwnedQuant). x.id) q (filter (λ (x : OwnedQuant). x.over == b) n.quants) j in
          let k : 1 ≤ times q (ids_of n) = subst (λ z. 1 ≤ times z (ids_of n)) m.1.1 (in-times (λ (x : OwnedQuant). x.id) m.0 n.quants (in-filter (λ (x : OwnedQuant). x.over == b) m.0 n.quants m.1.0).0) in
          omega arith)
      | inr j ↦ (let k = over-owned b q ns j in omega arith)
    ]

pub over_has : (b : ℕ) (ns : List Node) (q : ℕ) → In q (quants_over b ns) → list_any (owns q) ns ≡ true
over_has b ns q i =
    let n = times-some ids_of q ns (over-owned b q ns i) in
    let r = times-map (λ (x : OwnedQuant). x.id) q n.0.quants n.1.1 in
    any-from (owns q) n.0 ns n.1.0 (any-from (is_quant q) r.0 n.0.quants r.1.0 (eq-eqb r.0.id q r.1.1))

-- an element stands in its list
pub in_index : (qs : List ℕ) (k : ℕ) → k < length qs → In (slice_index_or qs k 0) qs
in_index [] k h = absurd (omega arith)
in_index (x ∷ qs) zero h = inl refl
in_index (x ∷ qs) (suc k) h = inr (in_index qs k (omega arith))

pub turned-all : (b c : ℕ) (ns : List Node) → ((q : ℕ) → times q (ids_in ns) ≤ 1) → turned c (quants_over b ns) ns ≡ map (moved b c) ns
turned-all b c [] h = refl
turned-all b c (n ∷ ns) h =
    let own : (q : ℕ) → times q (ids_of n) ≤ 1 = λ q. (let s = times-append q (ids_of n) (ids_in ns) in let k = h q in omega arith) in
    let rest : (q : ℕ) → times q (ids_in ns) ≤ 1 = λ q. (let s = times-append q (ids_of n) (ids_in ns) in let k = h q in omega arith) in
    let other : (q : ℕ) → In q (quants_over b ns) → owns q (moved b c n) ≡ false = λ q i. any-moved b c (is_quant q) n.quants (λ r. refl) ∙ (elim (cases_Bool (owns q n)) [
      | inr f ↦ f
      | inl t ↦ absurd (
          let r = any-in (is_quant q) n.quants t in
          let k : 1 ≤ times q (ids_of n) = subst (λ z. 1 ≤ times z (ids_of n)) (eqb-true r.0.id q r.1.1) (in-times (λ (x : OwnedQuant). x.id) r.0 n.quants r.1.0) in
          let s = times-append q (ids_of n) (ids_in ns) in
          let u = h q in
          let v = over-owned b q ns i in
          omega arith)
    ]) in
    each-append (turned_one c) (ids_over b n.quants) (quants_over b ns) (n ∷ ns)
    ∙ ap (turned c (quants_over b ns)) (turn-own b c n ns [] n.quants own)
    ∙ turn-below c (moved b c n) ns (quants_over b ns) other
    ∙ ap (λ z. moved b c n ∷ z) (turned-all b c ns rest)

-- the boxes keep their numbers
has-changed : (p : Node → Bool) (f : Node → Node) → ((n : Node) → (f n).id ≡ n.id) → (ns : List Node) (b : ℕ) → has_box (change p f ns) b ≡ has_box ns b
has-changed p f same [] b = refl
has-changed p f same (n ∷ ns) b = elim (p n) as (λ t. has_box (cond t (f n ∷ ns) (n ∷ change p f ns)) b ≡ has_box (n ∷ ns) b) [
  | true ↦ ap (λ z. (z == b) || has_box ns b) (same n)
  | false ↦ ap (λ z. (n.id == b) || z) (has-changed p f same ns b)
]

turned-has : (c : ℕ) (qs : List ℕ) (ns : List Node) (b : ℕ) → has_box (turned c qs ns) b ≡ has_box ns b
turned-has c [] ns b = refl
turned-has c (q ∷ qs) ns b = turned-has c qs (turned_one c q ns) b ∙ has-changed (owns q) (on_quant q (over c)) (λ n. refl) ns b

pub turned_held : (g h : QueryGraph) (c : ℕ) (qs : List ℕ) (b : ℕ) → h ≡ on_boxes (turned c qs) g → HasBox b g → HasBox b h
turned_held g h c qs b e k = subst (λ (z : QueryGraph). HasBox b z) (sym e) (turned-has c qs g.boxes b ∙ k)
