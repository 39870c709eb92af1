-- What boxes name beyond themselves, and what they look up.
use Rattle.std.proofs.Common.{ℕ, suc, zero, ◌≡◌, ◌<◌, ◌+◌, ◌-◌, ◌++◌, ◌&&◌, ◌||◌, ◌==◌, not, Bool, true, false, cond, List, [], ◌∷◌, drop, get_or, length, map, position, take, Some, None, add-one, refl, sym, ◌∙◌, ap, arith, inl, inr, Vec, eqb-true}
use Rattle.std.proofs.lemmas.Bool.{cases_Bool, or_left, or_right}
use Rattle.std.proofs.lemmas.List.{length-map, length_push}
use Rattle.std.specs.List.{flat_map, list_any}
use Rattle.qgm_core.specs.Boxes.{is_box, is_quant, owns}
use Rattle.qgm_core.specs.Free.{named_by}
use Rattle.qgm_core.specs.Kinds.{is_F}
use Rattle.list_laws.specs.Lists.{first, holds}
use Rattle.qgm_core.specs.declared.node.Node.{Node}
use Rattle.qgm_core.specs.declared.owned.OwnedQuant.{OwnedQuant}
use Rattle.qgm_core.specs.declared.kinds.BoxKind.{BoxKind}
use Rattle.qgm_core.specs.declared.kinds.BoxKind.TheVariants.{Base, Select, Group, SetOp, OuterJoin}
use Rattle.qgm_meaning.specs.Scope.{loose, loose_by, loose_each, loose_of, looks_found, quant_looks, read_beyond, read_by, under_any}
use Rattle.qgm_meaning.specs.Searches.{reads_arms}
use Rattle.qgm_terms.specs.Gathered.{listed_arms}
use Rattle.qgm_terms.specs.Named.{names, names_in, names_in_cond}
use Rattle.qgm_terms.specs.Terms as s
use Rattle.qgm_terms.specs.Wanted.{reads, reads_cond}
use Rattle.box_exec.specs.Beyond.{LooksNowhere, beyond, beyond_of, beyonds, without_own}
use Rattle.box_exec.specs.Ready.{AllFit, Fit}
use Rattle.box_exec.proofs.Places.{inside, rank-at, rank-none, not-there}
use Rattle.list_laws.proofs.Booleans.{and-second}

-- ---- the list of each box

pub beyonds-length : (ns : List Node) → length (beyonds ns) ≡ length ns
beyonds-length [] = refl
beyonds-length (n ∷ ns) = let h = beyonds-length ns in let k = length_push (beyonds ns) (beyond_of n (beyond ns)) in omega (arith, h, k)

before-end : {X : Type 0} (xs : List X) (y : X) (i : ℕ) (d : X) → i < length xs → get_or (xs ++ y ∷ []) i d ≡ get_or xs i d
before-end [] y i d l = absurd (omega (arith, l))
before-end (x ∷ xs) y zero d l = refl
before-end (x ∷ xs) y (suc i) d l = before-end xs y i d (omega (arith, l))

at-end : {X : Type 0} (xs : List X) (y : X) (i : ℕ) (d : X) → i ≡ length xs → get_or (xs ++ y ∷ []) i d ≡ y
at-end [] y i d e = ap (λ (k : ℕ). get_or (y ∷ []) k d) e
at-end (x ∷ xs) y zero d e = absurd (omega (arith, e))
at-end (x ∷ xs) y (suc i) d e = at-end xs y i d (omega (arith, e))

beyonds-at : (ns : List Node) (i k : ℕ) (n : Node) (d : List ℕ) → i < length ns → n ≡ get_or ns i n → k + i + 1 ≡ length ns → get_or (beyonds ns) k d ≡ beyond_of n (beyond (drop (suc i) ns))
beyonds-at [] i k n d l at e = absurd (omega (arith, l))
beyonds-at (m ∷ ns) zero k n d l at e =
    let h = beyonds-length ns in
    at-end (beyonds ns) (beyond_of m (beyond ns)) k d (omega (arith, h, e)) ∙ ap (λ (x : Node). beyond_of x (beyond ns)) (sym at)
beyonds-at (m ∷ ns) (suc i) k n d l at e =
    let h = beyonds-length ns in
    before-end (beyonds ns) (beyond_of m (beyond ns)) k d (omega (arith, h, e, l)) ∙ beyonds-at ns i k n d (omega (arith, l)) at (omega (arith, e))

-- no box of this number is there
pub beyond-none : (ns : List Node) (b : ℕ) → position (is_box b) ns ≡ None → beyond ns b ≡ []
beyond-none ns b e = rank-none [] beyond_of ns b (not-there ns b e)

items-at : {A : Type 0} (vs : List (Vec ℕ A)) (k : ℕ) (v : Vec ℕ A) (d : List ℕ) → k < length vs → v ≡ get_or vs k v → v.items ≡ get_or (map (λ v. v.items) vs) k d
items-at [] k v d l e = absurd (omega (arith, l))
items-at (x ∷ vs) zero v d l e = ap (λ v. v.items) e
items-at (x ∷ vs) (suc k) v d l e = items-at vs k v d (omega (arith, l)) e

own : {X : Type 0} (xs : List X) (i : ℕ) (d : X) → i < length xs → get_or xs i d ≡ get_or xs i (get_or xs i d)
own [] i d l = absurd (omega (arith, l))
own (x ∷ xs) zero d l = refl
own (x ∷ xs) (suc i) d l = own xs i d (omega (arith, l))

at-place : {A : Type 0} (ns : List Node) (b i : ℕ) (m : Node) (vs : List (Vec ℕ A)) (v : Vec ℕ A) → position (is_box b) ns ≡ Some i → map (λ v. v.items) vs ≡ beyonds ns → length ns - 1 - i < length vs → v ≡ get_or vs (length ns - 1 - i) v → v.items ≡ beyond ns b
at-place ns b i m vs v e is within at =
    let l = inside ns b i m e in
    let n = get_or ns i m in
    items-at vs (length ns - 1 - i) v [] within at
    ∙ ap (λ (xs : List (List ℕ)). get_or xs (length ns - 1 - i) []) is
    ∙ beyonds-at ns i (length ns - 1 - i) n [] l (own ns i m l) (omega (arith, l))
    ∙ sym (rank-at [] beyond_of ns b i n e (own ns i m l) ∙ ap (λ (k : ℕ). beyond_of n (beyond (drop k ns))) (add-one i))

-- the list that stands at the place of a box
pub beyond-at : {A : Type 0} (ns : List Node) (b i : ℕ) (vs : List (Vec ℕ A)) (v : Vec ℕ A) → position (is_box b) ns ≡ Some i → map (λ v. v.items) vs ≡ beyonds ns → length ns - 1 - i < length vs → v ≡ get_or vs (length ns - 1 - i) v → v.items ≡ beyond ns b
beyond-at [] b i vs v e = absurd (let z : ⊥ = cc in z)
beyond-at (n ∷ ns) b i vs v e = at-place (n ∷ ns) b i n vs v e

pub index-within : {A : Type 0} (ns : List Node) (b i : ℕ) (vs : List (Vec ℕ A)) → position (is_box b) ns ≡ Some i → map (λ v. v.items) vs ≡ beyonds ns → length ns - 1 - i < length vs
index-within [] b i vs e is = absurd (let z : ⊥ = cc in z)
index-within (n ∷ ns) b i vs e is =
    let l = inside (n ∷ ns) b i n e in
    let h : length vs ≡ length (n ∷ ns) = sym (length-map vs (λ v. v.items)) ∙ ap length is ∙ beyonds-length (n ∷ ns) in
    omega (arith, l, h)

-- ---- what is looked up is named

holds-left : (q : ℕ) (xs ys : List ℕ) → holds q xs ≡ true → holds q (xs ++ ys) ≡ true
holds-left q [] ys h = absurd (let z : ⊥ = cc in z)
holds-left q (x ∷ xs) ys h = elim (cases_Bool (x == q)) [
  | inl t ↦ ap (λ (b : Bool). b || holds q (xs ++ ys)) t
  | inr t ↦ or_right (x == q) (holds q (xs ++ ys)) (holds-left q xs ys (sym (ap (λ (b : Bool). b || holds q xs) t) ∙ h))
]

holds-right : (q : ℕ) (xs ys : List ℕ) → holds q ys ≡ true → holds q (xs ++ ys) ≡ true
holds-right q [] ys h = h
holds-right q (x ∷ xs) ys h = or_right (x == q) (holds q (xs ++ ys)) (holds-right q xs ys h)

either : (q : ℕ) (a b : Bool) (xs ys : List ℕ) → (a || b) ≡ true → (a ≡ true → holds q xs ≡ true) → (b ≡ true → holds q ys ≡ true) → holds q (xs ++ ys) ≡ true
either q true b xs ys h f g = holds-left q xs ys (f refl)
either q false b xs ys h f g = holds-right q xs ys (g h)

module _ (q : ℕ) where
  mutual
    reads-named : (x : s.Term) → reads q x ≡ true → holds q (names_in x) ≡ true
    reads-named (s.int n) h = absurd (let z : ⊥ = cc in z)
    reads-named (s.text t) h = absurd (let z : ⊥ = cc in z)
    reads-named s.null_int h = absurd (let z : ⊥ = cc in z)
    reads-named s.null_text h = absurd (let z : ⊥ = cc in z)
    reads-named (s.col r k) h = or_left (r == q) false h
    reads-named (s.scalar r) h = absurd (let z : ⊥ = cc in z)
    reads-named (s.both op x y) h = either q (reads q x) (reads q y) (names_in x) (names_in y) h (reads-named x) (reads-named y)
    reads-named (s.minus_of x) h = reads-named x h
    reads-named (s.choose a x) h = either q (reads_arms q a) (reads q x) (listed_arms names a) (names_in x) h (reads-named-arms a) (reads-named x)
    reads-named s.count_all h = absurd (let z : ⊥ = cc in z)
    reads-named (s.fold f t x) h = reads-named x h

    reads-named-arms : (a : s.Arms) → reads_arms q a ≡ true → holds q (listed_arms names a) ≡ true
    reads-named-arms s.no_arm h = absurd (let z : ⊥ = cc in z)
    reads-named-arms (s.arm c x a) h =
        either q (reads_cond q c) (reads q x || reads_arms q a) (names_in_cond c) (names_in x ++ listed_arms names a) h (reads-named-cond c)
        (λ k. either q (reads q x) (reads_arms q a) (names_in x) (listed_arms names a) k (reads-named x) (reads-named-arms a))

    reads-named-cond : (c : s.Cond) → reads_cond q c ≡ true → holds q (names_in_cond c) ≡ true
    reads-named-cond s.always h = absurd (let z : ⊥ = cc in z)
    reads-named-cond (s.compare sign x y) h = either q (reads q x) (reads q y) (names_in x) (names_in y) h (reads-named x) (reads-named y)
    reads-named-cond (s.is_null x) h = reads-named x h
    reads-named-cond (s.and c d) h = either q (reads_cond q c) (reads_cond q d) (names_in_cond c) (names_in_cond d) h (reads-named-cond c) (reads-named-cond d)
    reads-named-cond (s.or c d) h = either q (reads_cond q c) (reads_cond q d) (names_in_cond c) (names_in_cond d) h (reads-named-cond c) (reads-named-cond d)
    reads-named-cond (s.not c) h = reads-named-cond c h
    reads-named-cond (s.some r c) h = or_right (r == q) (holds q (names_in_cond c)) (reads-named-cond c (and-second (not (r == q)) (reads_cond q c) h))
    reads-named-cond (s.every r c) h = or_right (r == q) (holds q (names_in_cond c)) (reads-named-cond c (and-second (not (r == q)) (reads_cond q c) h))

  any-named : {X : Type 0} (f : X → Bool) (g : X → List ℕ) → ((x : X) → f x ≡ true → holds q (g x) ≡ true) → (xs : List X) → list_any f xs ≡ true → holds q (flat_map g xs) ≡ true
  any-named f g h [] e = absurd (let z : ⊥ = cc in z)
  any-named f g h (x ∷ xs) e = either q (f x) (list_any f xs) (g x) (flat_map g xs) e (h x) (any-named f g h xs)

  -- what a box reads it names
  read-named : (n : Node) → read_by n q ≡ true → holds q (named_by n) ≡ true
  read-named n h =
      either q (list_any (reads q) n.parts.head) (list_any (reads_cond q) n.parts.conds.items) (flat_map names_in n.parts.head) (flat_map names_in_cond n.parts.conds.items) h
      (any-named (reads q) names_in reads-named n.parts.head) (any-named (reads_cond q) names_in_cond reads-named-cond n.parts.conds.items)

  found-any : (x : ℕ) (rs : List OwnedQuant) (look : ℕ → ℕ → Bool) → looks_found (first (is_quant x) rs) look q ≡ true → under_any rs look q ≡ true
  found-any x [] look h = absurd (let z : ⊥ = cc in z)
  found-any x (r ∷ rs) look h =
      elim (r.id == x) as (λ b. looks_found (cond b (Some r) (first (is_quant x) rs)) look q ≡ true → (look r.over q || under_any rs look q) ≡ true) [
        | true ↦ λ k. or_left (look r.over q) (under_any rs look q) k
        | false ↦ λ k. or_right (look r.over q) (under_any rs look q) (found-any x rs look k)
      ] h

  each-split : (n : Node) (look : ℕ → ℕ → Bool) (x : ℕ) (u v a : Bool) → quant_looks n look x q ≡ a → (a || (u && v)) ≡ true → (v ≡ true → (read_by n q || under_any n.quants look q) ≡ true) → (read_by n q || under_any n.quants look q) ≡ true
  each-split n look x u v true e k rest = or_right (read_by n q) (under_any n.quants look q) (found-any x n.quants look e)
  each-split n look x u v false e k rest = rest (and-second u v k)

  each-any : (rs : List OwnedQuant) (n : Node) (look : ℕ → ℕ → Bool) → loose_each rs n look q ≡ true → (read_by n q || under_any n.quants look q) ≡ true
  each-any [] n look h = h
  each-any (r ∷ rs) n look h =
      elim (is_F r.kind) as (λ b. cond b (quant_looks n look r.id q || (not (r.id == q) && loose_each rs n look q)) (loose_each rs n look q) ≡ true → (read_by n q || under_any n.quants look q) ≡ true) [
        | true ↦ λ k. each-split n look r.id (not (r.id == q)) (loose_each rs n look q) (quant_looks n look r.id q) refl k (each-any rs n look)
        | false ↦ λ k. each-any rs n look k
      ] h

  with-read : (own : List OwnedQuant) (n : Node) (u : Bool) → (u || read_beyond own (read_by n) q) ≡ true → (read_by n q || u) ≡ true
  with-read own n true h = or_right (read_by n q) true refl
  with-read own n false h = or_left (read_by n q) false (and-second (not (list_any (is_quant q) own)) (read_by n q) h)

  -- what a box looks up it reads, or a box under its quantifiers looks it up
  loose-any : (n : Node) (look : ℕ → ℕ → Bool) → loose_of n look q ≡ true → (read_by n q || under_any n.quants look q) ≡ true
  loose-any n look = by n.parts.kind
    where
      by : (kind : BoxKind) → loose_by kind n look q ≡ true → (read_by n q || under_any n.quants look q) ≡ true
      by (Base table) h = absurd (let z : ⊥ = cc in z)
      by Select h = each-any n.quants n look h
      by (Group k) h = with-read (take 1 n.quants) n (under_any n.quants look q) h
      by (SetOp form types) h = or_right (read_by n q) (under_any n.quants look q) h
      by OuterJoin h = with-read (take 2 n.quants) n (under_any n.quants look q) h

  not-own : (rs : List OwnedQuant) (xs : List ℕ) → list_any (is_quant q) rs ≡ false → holds q xs ≡ true → holds q (without_own rs xs) ≡ true
  not-own rs [] o h = absurd (let z : ⊥ = cc in z)
  not-own rs (x ∷ xs) o h =
      elim (cases_Bool (x == q)) [
        | inl t ↦ let free : list_any (is_quant x) rs ≡ false = ap (λ (y : ℕ). list_any (is_quant y) rs) (eqb-true x q t) ∙ o in
            ap (λ (b : Bool). holds q (cond (not b) (x ∷ without_own rs xs) (without_own rs xs))) free ∙ ap (λ (b : Bool). b || holds q (without_own rs xs)) t
        | inr t ↦ let rest = not-own rs xs o (sym (ap (λ (b : Bool). b || holds q xs) t) ∙ h) in
            elim (list_any (is_quant x) rs) as (λ b. holds q (cond (not b) (x ∷ without_own rs xs) (without_own rs xs)) ≡ true) [
              | true ↦ rest
              | false ↦ or_right (x == q) (holds q (without_own rs xs)) rest
            ]
      ]

  -- what a box that looks up none of its own looks up is named beyond it
  loose-step : (n : Node) (look : ℕ → ℕ → Bool) (below : ℕ → List ℕ) → (owns q n ≡ true → loose_of n look q ≡ false) → ((b : ℕ) → look b q ≡ true → holds q (below b) ≡ true) → loose_of n look q ≡ true → holds q (beyond_of n below) ≡ true
  loose-step n look below settled named h =
      elim (cases_Bool (owns q n)) [
        | inl t ↦ absurd (let z : true ≡ false = sym h ∙ settled t in let y : ⊥ = cc in y)
        | inr t ↦ not-own n.quants (named_by n ++ flat_map (λ r. below r.over) n.quants) t
            (either q (read_by n q) (under_any n.quants look q) (named_by n) (flat_map (λ r. below r.over) n.quants) (loose-any n look h) (read-named n)
            (any-named (λ r. look r.over q) (λ r. below r.over) (λ r e. named r.over e) n.quants))
      ]

  loose-named : (ns : List Node) → AllFit ns → (b : ℕ) → loose ns b q ≡ true → holds q (beyond ns b) ≡ true
  loose-named [] fit b h = absurd (let z : ⊥ = cc in z)
  loose-named (n ∷ ns) fit b h =
      elim (n.id == b) as (λ t. cond t (loose_of n (loose ns)) (loose ns b) q ≡ true → holds q (cond t (beyond_of n (beyond ns)) (beyond ns b)) ≡ true) [
        | true ↦ λ k. loose-step n (loose ns) (beyond ns) (fit.0.settled q) (loose-named ns fit.1) k
        | false ↦ λ k. loose-named ns fit.1 b k
      ] h

-- a box that names nothing beyond itself looks nothing up
pub looks-nowhere : (n : Node) (ns : List Node) → Fit n ns → AllFit ns → beyond_of n (beyond ns) ≡ [] → LooksNowhere n ns
looks-nowhere n ns fit all none q =
    elim (cases_Bool (loose_of n (loose ns) q)) [
      | inl t ↦ absurd (let z : false ≡ true = sym (ap (holds q) none) ∙ loose-step q n (loose ns) (beyond ns) (fit.settled q) (loose-named q ns all) t in let y : ⊥ = cc in y)
      | inr t ↦ t
    ]
