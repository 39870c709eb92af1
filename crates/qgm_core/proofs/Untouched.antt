-- What is free in a box that doesn't reach a changed one.
use Rattle.qgm_core.specs.Slots.{meets}
use Rattle.std.proofs.Common.{ℕ, ◌==◌, ◌≡◌, ◌||◌, ◌&&◌, cond, not, Bool, true, false, List, [], ◌∷◌, ◌++◌, filter, Option, Some, refl, sym, ap, subst, ◌∙◌, eqb-true, inl, inr}
use Rattle.std.specs.List.{flat_map}
use Rattle.std.proofs.lemmas.Bool.{cases_Bool, eq-eqb, or_parts, or_from, ne_eqb}
use Rattle.qgm_core.specs.Boxes.{is_box, overs_of, owns, numbers}
use Rattle.qgm_core.specs.Free.{free_among, free_in, is_owned, marked, named_by, named_where, put_each, reached}
use Rattle.list_laws.specs.Lists.{change, first, holds, put_below, without}
use Rattle.qgm_core.specs.declared.node.Node.{Node}
use Rattle.list_laws.proofs.Booleans.{clash}
use Rattle.list_laws.proofs.Membership.{holds-in, in-holds}
use Rattle.qgm_core.proofs.Reaching.{stays}

-- the boxes without those of a number
abbrev pub others : ℕ → List Node → List Node
others c ns = filter (λ n. not (n.id == c)) ns

-- what isn't marked at the end isn't before
before : (c : ℕ) (marks : List ℕ) (ns : List Node) → holds c (reached marks ns) ≡ false → holds c marks ≡ false
before c marks ns h = elim (cases_Bool (holds c marks)) [
  | inl t ↦ absurd (clash (holds c (reached marks ns)) (in-holds c (reached marks ns) (stays c marks ns (holds-in c marks t))) h)
  | inr f ↦ f
]

-- a box of this number marks nothing where the number isn't marked
marks-none : (c : ℕ) (marks : List ℕ) (n : Node) → n.id ≡ c → holds c marks ≡ false → marked marks n ≡ marks
marks-none c marks n e h = ap (λ (t : Bool). cond t (marks ++ overs_of n) marks) (ap (λ (b : ℕ). holds b marks) e ∙ h)

-- the same is reached without it
pub reached-others : (c : ℕ) (ns : List Node) (marks : List ℕ) → holds c (reached marks (others c ns)) ≡ false → reached marks ns ≡ reached marks (others c ns)
reached-others c [] marks h = refl
reached-others c (n ∷ ns) marks h =
    elim (n.id == c) as (λ t. (n.id == c) ≡ t → holds c (reached marks (cond (not t) (n ∷ others c ns) (others c ns))) ≡ false → reached (marked marks n) ns ≡ reached marks (cond (not t) (n ∷ others c ns) (others c ns))) [
      | true ↦ λ e h. ap (λ (ms : List ℕ). reached ms ns) (marks-none c marks n (eqb-true n.id c e) (before c marks (others c ns) h)) ∙ reached-others c ns marks h
      | false ↦ λ e h. reached-others c ns (marked marks n) h
    ] refl h

-- and where it isn't reached, it isn't without it
pub unreached-others : (c : ℕ) (ns : List Node) (marks : List ℕ) → holds c (reached marks ns) ≡ false → holds c (reached marks (others c ns)) ≡ false
unreached-others c [] marks h = h
unreached-others c (n ∷ ns) marks h =
    elim (n.id == c) as (λ t. (n.id == c) ≡ t → holds c (reached marks (cond (not t) (n ∷ others c ns) (others c ns))) ≡ false) [
      | true ↦ λ e. unreached-others c ns marks (subst (λ (ms : List ℕ). holds c (reached ms ns) ≡ false) (marks-none c marks n (eqb-true n.id c e) (before c marks (n ∷ ns) h)) h)
      | false ↦ λ e. unreached-others c ns (marked marks n) h
    ] refl

-- ---- names and owners

named-others : (c : ℕ) (marks : List ℕ) (ns : List Node) → holds c marks ≡ false → flat_map (named_where marks) ns ≡ flat_map (named_where marks) (others c ns)
named-others c marks [] h = refl
named-others c marks (n ∷ ns) h =
    elim (n.id == c) as (λ t. (n.id == c) ≡ t → named_where marks n ++ flat_map (named_where marks) ns ≡ flat_map (named_where marks) (cond (not t) (n ∷ others c ns) (others c ns))) [
      | true ↦ λ e. ap (λ (qs : List ℕ). qs ++ flat_map (named_where marks) ns) (none n (eqb-true n.id c e)) ∙ named-others c marks ns h
      | false ↦ λ e. ap (λ (qs : List ℕ). named_where marks n ++ qs) (named-others c marks ns h)
    ] refl
  where
    none : (n : Node) → n.id ≡ c → named_where marks n ≡ []
    none n e = subst (λ (t : Bool). cond t (named_by n) [] ≡ []) (sym (ap (λ (b : ℕ). holds b marks) e ∙ h)) refl

owned-others : (c : ℕ) (marks : List ℕ) (ns : List Node) (q : ℕ) → holds c marks ≡ false → is_owned marks ns q ≡ is_owned marks (others c ns) q
owned-others c marks [] q h = refl
owned-others c marks (n ∷ ns) q h =
    elim (n.id == c) as (λ t. (n.id == c) ≡ t → ((holds n.id marks && owns q n) || is_owned marks ns q) ≡ is_owned marks (cond (not t) (n ∷ others c ns) (others c ns)) q) [
      | true ↦ λ e. ap (λ (t : Bool). (t && owns q n) || is_owned marks ns q) (ap (λ (b : ℕ). holds b marks) (eqb-true n.id c e) ∙ h) ∙ owned-others c marks ns q h
      | false ↦ λ e. ap (λ (t : Bool). (holds n.id marks && owns q n) || t) (owned-others c marks ns q h)
    ] refl

pub filter-alike : (p r : ℕ → Bool) (qs : List ℕ) → ((q : ℕ) → p q ≡ r q) → filter p qs ≡ filter r qs
filter-alike p r [] h = refl
filter-alike p r (q ∷ qs) h = ap (λ (t : Bool). cond t (q ∷ filter p qs) (filter p qs)) (h q) ∙ ap (λ (ps : List ℕ). cond (r q) (q ∷ ps) ps) (filter-alike p r qs h)

among-others : (c : ℕ) (marks : List ℕ) (ns : List Node) → holds c marks ≡ false → free_among marks ns ≡ free_among marks (others c ns)
among-others c marks ns h =
    ap (put_each []) (
    filter-alike (λ q. not (is_owned marks ns q)) (λ q. not (is_owned marks (others c ns) q)) (flat_map (named_where marks) ns) (λ q. ap not (owned-others c marks ns q h))
    ∙ ap (λ (qs : List ℕ). filter (λ q. not (is_owned marks (others c ns) q)) qs) (named-others c marks ns h))

-- ---- boxes that differ in those of one number

-- the same is reached and free where that number isn't reached
pub untouched : (c b : ℕ) (ns ms : List Node) → others c ms ≡ others c ns → holds c (reached (b ∷ []) ns) ≡ false → (reached (b ∷ []) ms ≡ reached (b ∷ []) ns) × (free_in ms b ≡ free_in ns b)
untouched c b ns ms e h =
    let marks = b ∷ [] in
    let gone = unreached-others c ns marks h in
    let gone-ms : holds c (reached marks (others c ms)) ≡ false = subst (λ (os : List Node). holds c (reached marks os) ≡ false) (sym e) gone in
    let same-ns = reached-others c ns marks gone in
    let same-ms = reached-others c ms marks gone-ms in
    let same : reached marks ms ≡ reached marks ns = same-ms ∙ ap (λ (os : List Node). reached marks os) e ∙ sym same-ns in (
      same,
      ap (λ (rs : List ℕ). free_among rs ms) same
          ∙ among-others c (reached marks ns) ms h
          ∙ ap (λ (os : List Node). free_among (reached marks ns) os) e
          ∙ sym (among-others c (reached marks ns) ns h),
    )

-- ---- edits that leave all others

-- one box of the number is changed
pub others-change : (c : ℕ) (p : Node → Bool) (f : Node → Node) (ns : List Node) → ((n : Node) → (f n).id ≡ n.id) → ((n : Node) → first p ns ≡ Some n → n.id ≡ c) → others c (change p f ns) ≡ others c ns
others-change c p f [] same at = refl
others-change c p f (n ∷ ns) same at =
    elim (p n) as (λ t. ((m : Node) → ◌≡◌ {A = Option Node} (cond t (Some n) (first p ns)) (Some m) → m.id ≡ c) → others c (cond t (f n ∷ ns) (n ∷ change p f ns)) ≡ others c (n ∷ ns)) [
      | true ↦ λ at. (let e = at n refl in
          ap (λ (t : Bool). cond (not t) (f n ∷ others c ns) (others c ns)) (eq-eqb (f n).id c (same n ∙ e))
          ∙ sym (ap (λ (t : Bool). cond (not t) (n ∷ others c ns) (others c ns)) (eq-eqb n.id c e)))
      | false ↦ λ at. ap (λ (os : List Node). cond (not (n.id == c)) (n ∷ os) os) (others-change c p f ns same at)
    ] at

pub found-number : (c : ℕ) (ns : List Node) (n : Node) → first (is_box c) ns ≡ Some n → n.id ≡ c
found-number c [] n e = absurd (let z : ⊥ = cc in z)
found-number c (m ∷ ns) n e =
    elim (m.id == c) as (λ t. (m.id == c) ≡ t → ◌≡◌ {A = Option Node} (cond t (Some m) (first (is_box c) ns)) (Some n) → n.id ≡ c) [
      | true ↦ λ t e. (let same : m ≡ n = cc in subst (λ (z : Node). z.id ≡ c) same (eqb-true m.id c t))
      | false ↦ λ t e. found-number c ns n e
    ] refl e

-- a box of the number goes
pub others-without : (c : ℕ) (ns : List Node) → others c (without (is_box c) ns) ≡ others c ns
others-without c [] = refl
others-without c (n ∷ ns) =
    elim (n.id == c) as (λ t. (n.id == c) ≡ t → others c (cond t ns (n ∷ without (is_box c) ns)) ≡ cond (not t) (n ∷ others c ns) (others c ns)) [
      | true ↦ λ e. refl
      | false ↦ λ e. ap (λ (t : Bool). cond (not t) (n ∷ others c (without (is_box c) ns)) (others c (without (is_box c) ns))) e ∙ ap (λ (os : List Node). n ∷ os) (others-without c ns)
    ] refl

-- a box of the number more
pub others-below : (c : ℕ) (p : Node → Bool) (m : Node) (ns : List Node) → m.id ≡ c → others c (put_below p m ns) ≡ others c ns
others-below c p m [] e = ap (λ (t : Bool). cond (not t) (m ∷ []) []) (eq-eqb m.id c e)
others-below c p m (n ∷ ns) e =
    elim (p n) as (λ t. others c (cond t (n ∷ (m ∷ ns)) (n ∷ put_below p m ns)) ≡ others c (n ∷ ns)) [
      | true ↦ ap (λ (os : List Node). cond (not (n.id == c)) (n ∷ os) os) (ap (λ (t : Bool). cond (not t) (m ∷ others c ns) (others c ns)) (eq-eqb m.id c e))
      | false ↦ ap (λ (os : List Node). cond (not (n.id == c)) (n ∷ os) os) (others-below c p m ns e)
    ]

pub others-last : (c : ℕ) (m : Node) (ns : List Node) → m.id ≡ c → others c (ns ++ m ∷ []) ≡ others c ns
others-last c m [] e = ap (λ (t : Bool). cond (not t) (m ∷ []) []) (eq-eqb m.id c e)
others-last c m (n ∷ ns) e = ap (λ (os : List Node). cond (not (n.id == c)) (n ∷ os) os) (others-last c m ns e)

-- ---- boxes that go

-- the numbers of those that don't pass
abbrev pub gone : (Node → Bool) → List Node → List ℕ
gone p ns = numbers (filter (λ n. not (p n)) ns)

meets-parts : (x : ℕ) (cs marks : List ℕ) → meets (x ∷ cs) marks ≡ false → (holds x marks ≡ false) × (meets cs marks ≡ false)
meets-parts x cs [] h = (refl, refl)
meets-parts x cs (m ∷ marks) h =
    let s = or_parts (holds m (x ∷ cs)) (meets (x ∷ cs) marks) h in
    let t = or_parts (x == m) (holds m cs) s.0 in
    let k = meets-parts x cs marks s.1 in
    (or_from (m == x) (holds x marks) (ne_eqb m x (λ e. clash (x == m) (eq-eqb x m (sym e)) t.0)) k.0, or_from (holds m cs) (meets cs marks) t.1 k.1)

-- the same is reached without them, where none of them is
reached-kept : (p : Node → Bool) (ns : List Node) (marks : List ℕ) → meets (gone p ns) (reached marks ns) ≡ false → reached marks (filter p ns) ≡ reached marks ns
reached-kept p [] marks h = refl
reached-kept p (n ∷ ns) marks h =
    elim (p n) as (λ t. meets (numbers (cond (not t) (n ∷ filter (λ n. not (p n)) ns) (filter (λ n. not (p n)) ns))) (reached (marked marks n) ns) ≡ false → reached marks (cond t (n ∷ filter p ns) (filter p ns)) ≡ reached (marked marks n) ns) [
      | true ↦ λ h. reached-kept p ns (marked marks n) h
      | false ↦ λ h. (
          let s = meets-parts n.id (gone p ns) (reached (marked marks n) ns) h in
          let e = marks-none n.id marks n refl (before n.id marks (n ∷ ns) s.0) in
          reached-kept p ns marks (subst (λ (ms : List ℕ). meets (gone p ns) (reached ms ns) ≡ false) e s.1) ∙ ap (λ (ms : List ℕ). reached ms ns) (sym e))
    ] h

unnamed : (marks : List ℕ) (n : Node) → holds n.id marks ≡ false → named_where marks n ≡ []
unnamed marks n h = ap (λ (t : Bool). cond t (named_by n) []) h

named-kept : (p : Node → Bool) (marks : List ℕ) (ns : List Node) → meets (gone p ns) marks ≡ false → flat_map (named_where marks) (filter p ns) ≡ flat_map (named_where marks) ns
named-kept p marks [] h = refl
named-kept p marks (n ∷ ns) h =
    elim (p n) as (λ t. meets (numbers (cond (not t) (n ∷ filter (λ n. not (p n)) ns) (filter (λ n. not (p n)) ns))) marks ≡ false → flat_map (named_where marks) (cond t (n ∷ filter p ns) (filter p ns)) ≡ named_where marks n ++ flat_map (named_where marks) ns) [
      | true ↦ λ h. ap (λ (qs : List ℕ). named_where marks n ++ qs) (named-kept p marks ns h)
      | false ↦ λ h. (
          let s = meets-parts n.id (gone p ns) marks h in
          named-kept p marks ns s.1 ∙ ap (λ (qs : List ℕ). qs ++ flat_map (named_where marks) ns) (sym (unnamed marks n s.0)))
    ] h

owned-kept : (p : Node → Bool) (marks : List ℕ) (ns : List Node) (q : ℕ) → meets (gone p ns) marks ≡ false → is_owned marks (filter p ns) q ≡ is_owned marks ns q
owned-kept p marks [] q h = refl
owned-kept p marks (n ∷ ns) q h =
    elim (p n) as (λ t. meets (numbers (cond (not t) (n ∷ filter (λ n. not (p n)) ns) (filter (λ n. not (p n)) ns))) marks ≡ false → is_owned marks (cond t (n ∷ filter p ns) (filter p ns)) q ≡ ((holds n.id marks && owns q n) || is_owned marks ns q)) [
      | true ↦ λ h. ap (λ (t : Bool). (holds n.id marks && owns q n) || t) (owned-kept p marks ns q h)
      | false ↦ λ h. (
          let s = meets-parts n.id (gone p ns) marks h in
          owned-kept p marks ns q s.1 ∙ ap (λ (t : Bool). (t && owns q n) || is_owned marks ns q) (sym s.0))
    ] h

-- the same is free in a box that reaches none of those that go
pub free-kept : (p : Node → Bool) (ns : List Node) (b : ℕ) → meets (gone p ns) (reached (b ∷ []) ns) ≡ false → free_in (filter p ns) b ≡ free_in ns b
free-kept p ns b h =
    let marks = reached (b ∷ []) ns in
    ap (λ (ms : List ℕ). free_among ms (filter p ns)) (reached-kept p ns (b ∷ []) h)
    ∙ ap (put_each []) (
    filter-alike (λ q. not (is_owned marks (filter p ns) q)) (λ q. not (is_owned marks ns q)) (flat_map (named_where marks) (filter p ns)) (λ q. ap not (owned-kept p marks ns q h))
    ∙ ap (λ (qs : List ℕ). filter (λ q. not (is_owned marks ns q)) qs) (named-kept p marks ns h))
