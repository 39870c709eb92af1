-- Boxes and quantifiers that an edit leaves in the graph.
use Rattle.std.proofs.Common.{◌≡◌, ℕ, zero, suc, ◌==◌, ◌++◌, ◌||◌, cond, Bool, true, false, List, [], ◌∷◌, Option, Some, None, insert, map, filter, refl, sym, ◌∙◌, ap, subst, inl, inr, eqb-true}
use Rattle.std.specs.List.{list_any}
use Rattle.std.proofs.lemmas.Bool.{cases_Bool, eq-eqb, false_from_ne_true, ne_eqb, or_left, or_right}
use Rattle.qgm_core.specs.Boxes.{has_box, is_box, is_quant, overs_of, owns, put_at, range_in}
use Rattle.qgm_core.specs.Edits.{moved_below, on_quant, put_found, put_range, put_range_found, quant_moved, shift_boxes, shift_node, without_quant}
use Rattle.qgm_core.specs.Free.{reached}
use Rattle.list_laws.specs.Lists.{change, each, first, holds, put_below, without}
use Rattle.qgm_core.specs.declared.node.Node.{Node}
use Rattle.qgm_core.specs.declared.owned.OwnedQuant.{OwnedQuant}
use Rattle.qgm_core.proofs.Changed.{found}

-- the same of lists of boxes
abbrev pub HasAllIn : List Node → List Node → Type 0
HasAllIn xs ys = ((b : ℕ) → has_box xs b ≡ true → has_box ys b ≡ true) × ((q : ℕ) → list_any (owns q) xs ≡ true → list_any (owns q) ys ≡ true)

-- ---- one that passes

-- either of two
or_else : (a b c d : Bool) → (a ≡ true → c ≡ true) → (b ≡ true → d ≡ true) → (a || b) ≡ true → (c || d) ≡ true
or_else true b c d f g h = or_left c d (f refl)
or_else false b c d f g h = or_right c d (g h)

module _ {X : Type 0} (t : X → Bool) where
  any-change : (p : X → Bool) (f : X → X) (xs : List X) → ((x : X) → t x ≡ true → t (f x) ≡ true) → list_any t xs ≡ true → list_any t (change p f xs) ≡ true
  any-change p f [] k h = h
  any-change p f (x ∷ xs) k h =
      elim (p x) as (λ b. list_any t (cond b (f x ∷ xs) (x ∷ change p f xs)) ≡ true) [
        | true ↦ or_else (t x) (list_any t xs) (t (f x)) (list_any t xs) (k x) (λ a. a) h
        | false ↦ or_else (t x) (list_any t xs) (t x) (list_any t (change p f xs)) (λ a. a) (any-change p f xs k) h
      ]

  any-insert : (xs : List X) (i : ℕ) (y : X) → list_any t xs ≡ true → list_any t (insert xs i y) ≡ true
  any-insert [] i y h = absurd (let z : ⊥ = cc in z)
  any-insert (x ∷ xs) zero y h = or_right (t y) (list_any t (x ∷ xs)) h
  any-insert (x ∷ xs) (suc i) y h = or_else (t x) (list_any t xs) (t x) (list_any t (insert xs i y)) (λ a. a) (any-insert xs i y) h

  any-inserted : (xs : List X) (i : ℕ) (y : X) → t y ≡ true → list_any t (insert xs i y) ≡ true
  any-inserted [] zero y h = or_left (t y) false h
  any-inserted [] (suc i) y h = or_left (t y) false h
  any-inserted (x ∷ xs) zero y h = or_left (t y) (list_any t (x ∷ xs)) h
  any-inserted (x ∷ xs) (suc i) y h = or_right (t x) (list_any t (insert xs i y)) (any-inserted xs i y h)

  any-last : (xs : List X) (y : X) → t y ≡ true → list_any t (xs ++ y ∷ []) ≡ true
  any-last [] y h = or_left (t y) false h
  any-last (x ∷ xs) y h = or_right (t x) (list_any t (xs ++ y ∷ [])) (any-last xs y h)

  any-longer : (xs ys : List X) → list_any t xs ≡ true → list_any t (xs ++ ys) ≡ true
  any-longer [] ys h = absurd (let z : ⊥ = cc in z)
  any-longer (x ∷ xs) ys h = or_else (t x) (list_any t xs) (t x) (list_any t (xs ++ ys)) (λ a. a) (any-longer xs ys) h

  any-below : (p : X → Bool) (y : X) (xs : List X) → list_any t xs ≡ true → list_any t (put_below p y xs) ≡ true
  any-below p y [] h = absurd (let z : ⊥ = cc in z)
  any-below p y (x ∷ xs) h =
      elim (p x) as (λ b. list_any t (cond b (x ∷ (y ∷ xs)) (x ∷ put_below p y xs)) ≡ true) [
        | true ↦ or_else (t x) (list_any t xs) (t x) (list_any t (y ∷ xs)) (λ a. a) (or_right (t y) (list_any t xs)) h
        | false ↦ or_else (t x) (list_any t xs) (t x) (list_any t (put_below p y xs)) (λ a. a) (any-below p y xs) h
      ]

  any-put : (p : X → Bool) (y : X) (xs : List X) → t y ≡ true → list_any t (put_below p y xs) ≡ true
  any-put p y [] h = or_left (t y) false h
  any-put p y (x ∷ xs) h =
      elim (p x) as (λ b. list_any t (cond b (x ∷ (y ∷ xs)) (x ∷ put_below p y xs)) ≡ true) [
        | true ↦ or_right (t x) (list_any t (y ∷ xs)) (or_left (t y) (list_any t xs) h)
        | false ↦ or_right (t x) (list_any t (put_below p y xs)) (any-put p y xs h)
      ]

  -- where the first that passes p is taken out, and stands elsewhere
  any-taken : (p : X → Bool) (xs : List X) (y : X) (ys : List X) → first p xs ≡ Some y → (t y ≡ true → list_any t ys ≡ true) → (list_any t (without p xs) ≡ true → list_any t ys ≡ true) → list_any t xs ≡ true → list_any t ys ≡ true
  any-taken p [] y ys e one rest h = absurd (let z : ⊥ = cc in z)
  any-taken p (x ∷ xs) y ys e one rest h =
      elim (cases_Bool (p x)) [
        | inl u ↦ (
            let same : x ≡ y = unwrap x y (subst (λ (b : Bool). ◌≡◌ {A = Option X} (cond b (Some x) (first p xs)) (Some y)) u e) in
            elim (cases_Bool (t x)) [
              | inl v ↦ one (ap t (sym same) ∙ v)
              | inr v ↦ rest (subst (λ (b : Bool). list_any t (cond b xs (x ∷ without p xs)) ≡ true) (sym u) (subst (λ (b : Bool). (b || list_any t xs) ≡ true) v h))
            ])
        | inr u ↦ (
            let later = subst (λ (b : Bool). ◌≡◌ {A = Option X} (cond b (Some x) (first p xs)) (Some y)) u e in
            let out : without p (x ∷ xs) ≡ x ∷ without p xs = ap (λ (b : Bool). cond b xs (x ∷ without p xs)) u in
            elim (cases_Bool (t x)) [
              | inl v ↦ rest (ap (λ (zs : List X). list_any t zs) out ∙ or_left (t x) (list_any t (without p xs)) v)
              | inr v ↦ any-taken p xs y ys later one (λ k. rest (ap (λ (zs : List X). list_any t zs) out ∙ or_right (t x) (list_any t (without p xs)) k)) (subst (λ (b : Bool). (b || list_any t xs) ≡ true) v h)
            ])
      ]
    where
      unwrap : (x y : X) → Some x ≡ Some y → x ≡ y
      unwrap x y e = cc

-- ---- one box changed

pub all-change : (p : Node → Bool) (f : Node → Node) (ns : List Node) → ((n : Node) → (f n).id ≡ n.id) → ((n : Node) (q : ℕ) → owns q n ≡ true → owns q (f n) ≡ true) → HasAllIn ns (change p f ns)
all-change p f ns same kept = ((λ b. any-change (is_box b) p f ns (λ n h. ap (λ (i : ℕ). i == b) (same n) ∙ h)), λ q. any-change (owns q) p f ns (λ n. kept n q))

-- a box with the quantifiers that it had
pub all-parts : (p : Node → Bool) (f : Node → Node) (ns : List Node) → ((n : Node) → (f n).id ≡ n.id) → ((n : Node) → (f n).quants ≡ n.quants) → HasAllIn ns (change p f ns)
all-parts p f ns same quants = all-change p f ns same (λ n q h. ap (λ (rs : List OwnedQuant). list_any (is_quant q) rs) (quants n) ∙ h)

pub all-range : (p : Node → Bool) (i : ℕ) (r : OwnedQuant) (ns : List Node) → HasAllIn ns (change p (put_range i r) ns)
all-range p i r ns = all-change p (put_range i r) ns (λ n. refl) (λ n q. any-insert (is_quant q) n.quants i r)

pub all-quant : (p : Node → Bool) (q : ℕ) (f : OwnedQuant → OwnedQuant) (ns : List Node) → ((r : OwnedQuant) → (f r).id ≡ r.id) → HasAllIn ns (change p (on_quant q f) ns)
all-quant p q f ns same = all-change p (on_quant q f) ns (λ n. refl) (λ n s. any-change (is_quant s) (is_quant q) f n.quants (λ r h. ap (λ (i : ℕ). i == s) (same r) ∙ h))

-- the quantifier that was put into a box that is there
pub range-held : (b i : ℕ) (r : OwnedQuant) (ns : List Node) → has_box ns b ≡ true → list_any (owns r.id) (change (is_box b) (put_range i r) ns) ≡ true
range-held b i r [] h = absurd (let z : ⊥ = cc in z)
range-held b i r (n ∷ ns) h =
    elim (cases_Bool (is_box b n)) [
      | inl u ↦ ap (λ (c : Bool). list_any (owns r.id) (cond c (put_range i r n ∷ ns) (n ∷ change (is_box b) (put_range i r) ns))) u
          ∙ or_left (owns r.id (put_range i r n)) (list_any (owns r.id) ns) (any-inserted (is_quant r.id) n.quants i r (same r.id))
      | inr u ↦ ap (λ (c : Bool). list_any (owns r.id) (cond c (put_range i r n ∷ ns) (n ∷ change (is_box b) (put_range i r) ns))) u
          ∙ or_right (owns r.id n) (list_any (owns r.id) (change (is_box b) (put_range i r) ns)) (range-held b i r ns (subst (λ (c : Bool). (c || has_box ns b) ≡ true) u h))
    ]
  where
    same : (q : ℕ) → (q == q) ≡ true
    same q = eq-eqb q q refl

-- ---- a box more

pub all-more : (below : Option ℕ) (n : Node) (ns : List Node) → HasAllIn ns (put_at below n ns)
all-more None n ns = ((λ b. any-longer (is_box b) ns (n ∷ [])), λ q. any-longer (owns q) ns (n ∷ []))
all-more (Some c) n ns = ((λ b. any-below (is_box b) (is_box c) n ns), λ q. any-below (owns q) (is_box c) n ns)

pub more-held : (below : Option ℕ) (n : Node) (ns : List Node) → has_box (put_at below n ns) n.id ≡ true
more-held None n ns = any-last (is_box n.id) ns n (eq-eqb n.id n.id refl)
more-held (Some c) n ns = any-put (is_box n.id) (is_box c) n ns (eq-eqb n.id n.id refl)

-- ---- a box at another place

put-all : (c d : ℕ) (ns : List Node) (o : Option Node) → first (is_box c) ns ≡ o → has_box ns c ≡ true → HasAllIn ns (put_found d o (without (is_box c) ns))
put-all c d ns None e h = absurd (let k = found (is_box c) ns h in let f = k.1 in let z : ⊥ = cc in z)
put-all c d ns (Some n) e h =
    let ms = put_below (is_box d) n (without (is_box c) ns) in (
      (λ b. any-taken (is_box b) (is_box c) ns n ms e (any-put (is_box b) (is_box d) n (without (is_box c) ns)) (any-below (is_box b) (is_box d) n (without (is_box c) ns))),
      λ q. any-taken (owns q) (is_box c) ns n ms e (any-put (owns q) (is_box d) n (without (is_box c) ns)) (any-below (owns q) (is_box d) n (without (is_box c) ns)),
    )

pub all-moved : (c d : ℕ) (ns : List Node) → has_box ns c ≡ true → HasAllIn ns (moved_below c d ns)
all-moved c d ns h = put-all c d ns (first (is_box c) ns) refl h

-- ---- one edit after another

pub all-then : (xs ys zs : List Node) → HasAllIn xs ys → HasAllIn ys zs → HasAllIn xs zs
all-then xs ys zs h k = ((λ b m. k.0 b (h.0 b m)), λ q m. k.1 q (h.1 q m))

any-map : {X : Type 0} (t : X → Bool) (f : X → X) (xs : List X) → ((x : X) → t (f x) ≡ t x) → list_any t xs ≡ true → list_any t (map f xs) ≡ true
any-map t f [] k h = h
any-map t f (x ∷ xs) k h = or_else (t x) (list_any t xs) (t (f x)) (list_any t (map f xs)) (λ m. k x ∙ m) (any-map t f xs k) h

pub all-shifted : (k : ℕ) (qs : List ℕ) (ns : List Node) → HasAllIn ns (each (shift_boxes k) qs ns)
all-shifted k [] ns = ((λ b h. h), λ q h. h)
all-shifted k (q ∷ qs) ns =
    all-then ns (shift_boxes k q ns) (each (shift_boxes k) qs (shift_boxes k q ns))
    ((λ b. any-map (is_box b) (shift_node k q) ns (λ n. refl)), λ r. any-map (owns r) (shift_node k q) ns (λ n. refl))
    (all-shifted k qs (shift_boxes k q ns))

-- ---- a quantifier less

any-without : {X : Type 0} (t p : X → Bool) (xs : List X) → ((x : X) → p x ≡ true → t x ≡ false) → list_any t xs ≡ true → list_any t (without p xs) ≡ true
any-without t p [] k h = h
any-without t p (x ∷ xs) k h =
    elim (cases_Bool (p x)) [
      | inl u ↦ ap (λ (b : Bool). list_any t (cond b xs (x ∷ without p xs))) u ∙ subst (λ (b : Bool). (b || list_any t xs) ≡ true) (k x u) h
      | inr u ↦ ap (λ (b : Bool). list_any t (cond b xs (x ∷ without p xs))) u ∙ or_else (t x) (list_any t xs) (t x) (list_any t (without p xs)) (λ a. a) (any-without t p xs k) h
    ]

pub boxes-without : (q b : ℕ) (ns : List Node) → has_box ns b ≡ true → has_box (change (owns q) (without_quant q) ns) b ≡ true
boxes-without q b ns = any-change (is_box b) (owns q) (without_quant q) ns (λ n h. h)

pub quants-without : (q r : ℕ) (ns : List Node) → (r == q) ≡ false → list_any (owns r) ns ≡ true → list_any (owns r) (change (owns q) (without_quant q) ns) ≡ true
quants-without q r ns n = any-change (owns r) (owns q) (without_quant q) ns (λ m. any-without (is_quant r) (is_quant q) m.quants (λ x h. apart x.id h))
  where
    apart : (i : ℕ) → (i == q) ≡ true → (i == r) ≡ false
    apart i h = ne_eqb i r (λ e. absurd (let k : (r == q) ≡ true = ap (λ (j : ℕ). j == q) (sym e) ∙ h in let z : ⊥ = cc in z))

-- ---- a quantifier at another place

first-passes : {X : Type 0} (p : X → Bool) (xs : List X) (x : X) → first p xs ≡ Some x → p x ≡ true
first-passes p [] x e = absurd (let z : ⊥ = cc in z)
first-passes p (y ∷ xs) x e =
    elim (cases_Bool (p y)) [
      | inl u ↦ (let k = subst (λ (b : Bool). ◌≡◌ (cond b (Some y) (first p xs)) (Some x)) u e in let same : y ≡ x = cc in ap p (sym same) ∙ u)
      | inr u ↦ first-passes p xs x (subst (λ (b : Bool). ◌≡◌ (cond b (Some y) (first p xs)) (Some x)) u e)
    ]

-- the quantifier that goes, and the boxes without it
requanted : (q b i : ℕ) (ns : List Node) (o : Option OwnedQuant) → range_in q (first (owns q) ns) ≡ o → list_any (owns q) ns ≡ true → has_box ns b ≡ true → HasAllIn ns (put_range_found b i o (change (owns q) (without_quant q) ns))
requanted q b i ns None e h k =
    let n = found (owns q) ns h in
    let r = found (is_quant q) n.0.quants (first-passes (owns q) ns n.0 n.1) in
    absurd (let f : range_in q (first (owns q) ns) ≡ Some r.0 = ap (λ (m : Option Node). range_in q m) n.1 ∙ r.1 in let z : ⊥ = cc in z)
requanted q b i ns (Some r) e h k =
    let ms = change (owns q) (without_quant q) ns in
    let more = all-range (is_box b) i r ms in
    let n = found (owns q) ns h in
    let one : first (is_quant q) n.0.quants ≡ Some r = ap (λ (m : Option Node). range_in q m) (sym n.1) ∙ e in
    let id : r.id ≡ q = eqb-true r.id q (first-passes (is_quant q) n.0.quants r one) in
    let there = range-held b i r ms (boxes-without q b ns k) in (
      (λ c m. more.0 c (boxes-without q c ns m)),
      λ s m. elim (cases_Bool (s == q)) [
        | inl u ↦ subst (λ (j : ℕ). list_any (owns j) (change (is_box b) (put_range i r) ms) ≡ true) (id ∙ sym (eqb-true s q u)) there
        | inr u ↦ more.1 s (quants-without q s ns u m)
      ],
    )

pub all-requanted : (q b i : ℕ) (ns : List Node) → list_any (owns q) ns ≡ true → has_box ns b ≡ true → HasAllIn ns (quant_moved q b i ns)
all-requanted q b i ns h k = requanted q b i ns (range_in q (first (owns q) ns)) refl h k

-- ---- the boxes that are reached

any-filter : {X : Type 0} (t p : X → Bool) (xs : List X) → ((x : X) → t x ≡ true → p x ≡ true) → list_any t xs ≡ true → list_any t (filter p xs) ≡ true
any-filter t p [] k h = h
any-filter t p (x ∷ xs) k h =
    elim (cases_Bool (p x)) [
      | inl u ↦ ap (λ (b : Bool). list_any t (cond b (x ∷ filter p xs) (filter p xs))) u ∙ or_else (t x) (list_any t xs) (t x) (list_any t (filter p xs)) (λ a. a) (any-filter t p xs k) h
      | inr u ↦ ap (λ (b : Bool). list_any t (cond b (x ∷ filter p xs) (filter p xs))) u ∙ any-filter t p xs k (subst (λ (b : Bool). (b || list_any t xs) ≡ true) (false_from_ne_true (t x) (λ v. absurd (let w = k x v in let z : ⊥ = cc in z))) h)
    ]

still-marked : (b : ℕ) (marks : List ℕ) (ns : List Node) → holds b marks ≡ true → holds b (reached marks ns) ≡ true
still-marked b marks [] h = h
still-marked b marks (n ∷ ns) h =
    elim (holds n.id marks) as (λ t. holds b (reached (cond t (marks ++ overs_of n) marks) ns) ≡ true) [
      | true ↦ still-marked b (marks ++ overs_of n) ns (any-longer (λ m. m == b) marks (overs_of n) h)
      | false ↦ still-marked b marks ns h
    ]

pub root-reached : (b : ℕ) (ns : List Node) → has_box ns b ≡ true → has_box (filter (λ n. holds n.id (reached (b ∷ []) ns)) ns) b ≡ true
root-reached b ns h =
    let marks = reached (b ∷ []) ns in
    let held = still-marked b (b ∷ []) ns (or_left (b == b) false (eq-eqb b b refl)) in
    any-filter (is_box b) (λ (n : Node). holds n.id marks) ns (λ n e. subst (λ (j : ℕ). holds j marks ≡ true) (sym (eqb-true n.id b e)) held) h
