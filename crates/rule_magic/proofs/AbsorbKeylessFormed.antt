-- G3 without keys: the graph with the select of counts, the outer join and the group over the fed box is well-formed.
use Rattle.std.proofs.Common.{ℕ, ◌==◌, ◌≡◌, ◌≤◌, ◌+◌, ◌&&◌, ◌||◌, nat_lt, cond, not, Bool, true, false, List, [], ◌∷◌, ◌++◌, map, length, Option, None, refl, sym, ap, ap₂, subst, ◌∙◌, eqb-true, ◌⊎◌, inl, inr, arith}
use Rattle.std.specs.List.{flat_map, list_all, list_any}
use Rattle.std.proofs.lemmas.Bool.{and_from, and_parts, cases_Bool, eq-eqb, not-true, or_cases, or_from, or_left, or_parts, or_right}
use Rattle.sql_value.specs.declared.order_key.SqlType.{SqlType}
use Rattle.qgm_core.specs.Boxes.{Ordered, QueryGraph, has_box, ids_in, is_box, numbers, overs_in, overs_of, width}
use Rattle.qgm_core.specs.Edits.{range}
use Rattle.qgm_core.specs.Free.{named_by}
use Rattle.qgm_core.specs.Kinds.{is_S, is_magic, is_permit, width_by}
use Rattle.list_laws.specs.Lists.{EachOnce, In, holds, times}
use Rattle.qgm_core.specs.declared.kinds.BoxKind.TheVariants.{Group}
use Rattle.qgm_core.specs.declared.kinds.QuantKind.TheVariants.{F}
use Rattle.qgm_core.specs.declared.kinds.Role.TheVariants.{Fed}
use Rattle.qgm_core.specs.declared.node.Node.{Node}
use Rattle.qgm_core.specs.declared.owned.OwnedQuant.{OwnedQuant}
use Rattle.qgm_wellformed.specs.Sentences.{WellFormed}
use Rattle.qgm_wellformed.specs.Shapes.{is_scalar, is_scalar_in}
use Rattle.qgm_wellformed.specs.Types.{Lookup, is_known, lookup_of, term_type, types_by}
use Rattle.qgm_wellformed.specs.WellFormed.{fault}
use Rattle.qgm_wellformed.proofs.Faults.{finds-none}
use Rattle.qgm_edit_laws.specs.Graph.{Sound}
use Rattle.qgm_edit_laws.specs.Reforms.{types_at}
use Rattle.qgm_edit_laws.specs.Shaped.{Shaped, Typed}
use Rattle.qgm_edit_laws.proofs.BoxForms.{scalar-column}
use Rattle.qgm_edit_laws.proofs.Follow.{in-flat, settled-types}
use Rattle.qgm_edit_laws.proofs.Ranks.{has-in, same-box}
use Rattle.qgm_edit_laws.proofs.Read.{any-both}
use Rattle.qgm_edit_laws.proofs.Reformed.{wide-types}
use Rattle.qgm_edit_laws.proofs.Scope.{loose-held}
use Rattle.qgm_meaning.specs.Scope.{loose}
use Rattle.qgm_meaning.specs.Tags.{columns_from}
use Rattle.qgm_props.specs.Inferred.{Facts}
use Rattle.qgm_props.specs.Laws.{Tells}
use Rattle.qgm_terms.specs.Named.{names_in, names_in_cond}
use Rattle.qgm_terms.specs.Wanted.{reads_at, reads_at_cond}
use Rattle.qgm_edit_laws.specs.Rebuilds.{HasForm, MadeIn, Rebuilds, StaysIn}
use Rattle.qgm_edit_laws.proofs.Edits.{length-map}
use Rattle.qgm_edit_laws.proofs.ShapedPut.{all-joined}
use Rattle.rule_magic.specs.AbsorbGroup.{AreFresh}
use Rattle.rule_magic.specs.Boxes.{counted_box, joined_box, keyed_box, pair_box}
use Rattle.rule_magic.specs.Places.{MayAbsorb}
use Rattle.rule_magic.proofs.CountedFormed.{IsOver, counted-form, counted-made, width-counted}
use Rattle.rule_magic.proofs.AbsorbGroupFormed as grp
use Rattle.rule_magic.proofs.JoinedFormed.{IsJoined, joined-form, joined-made, width-joined}
use Rattle.rule_magic.proofs.KeyedFormed.{IsHead, IsKeyed, keyed-form, keyed-made, width-keyed}
use Rattle.rule_magic.proofs.AbsorbFacts as fed
use Rattle.rule_magic.proofs.PairFormed.{IsPair, pair-form, pair-made, width-pair}
use Rattle.qgm_edit_laws.proofs.Rebuilt.{looks-exact, rebuilt, rebuilt-formed}
use Rattle.rule_magic.proofs.AbsorbSelectFormed as made
use Rattle.rule_magic.proofs.AbsorbSelectFormed.{columns-long, length-append, map-append, times-flat}
use Rattle.qgm_core.proofs.Reaching.{in-has, overs-held}
use Rattle.list_laws.proofs.Counting.{in-times, times-append, times-in}
use Rattle.list_laws.proofs.Membership.{all-from, all-in, any-in, eq-false-sym, eq-itself, in-append, in-holds, in-left, in-right}
use Rattle.list_laws.proofs.Booleans.{clash}

pub replaced : (up ys zs : List Node) (gone : ℕ) → Ordered (up ++ ys) → Ordered zs → ((n : Node) → In n up → has_box ys n.id ≡ false → has_box zs n.id ≡ false)
    → ((b : ℕ) → (b == gone) ≡ false → has_box ys b ≡ true → has_box zs b ≡ true)
    → ((n : Node) (s : OwnedQuant) → In n up → In s n.quants → (s.over == gone) ≡ false) → Ordered (up ++ zs)
replaced [] ys zs gone o z less keep apart = z
replaced (n ∷ up) ys zs gone o z less keep apart = (none, all, replaced up ys zs gone o.2 z (λ m i. less m (inr i)) keep (λ m s i. apart m s (inr i)))
  where
    none : has_box (up ++ zs) n.id ≡ false
    none =
        let a = or_parts (has_box up n.id) (has_box ys n.id) (sym (any-both (is_box n.id) up ys) ∙ o.0) in
        any-both (is_box n.id) up zs ∙ or_from (has_box up n.id) (has_box zs n.id) a.0 (less n (inl refl) a.1)

    all : list_all (λ (s : OwnedQuant). has_box (up ++ zs) s.over) n.quants ≡ true
    all = all-from (λ (s : OwnedQuant). has_box (up ++ zs) s.over) n.quants (λ s j. any-both (is_box s.over) up zs ∙ (
        let h = sym (any-both (is_box s.over) up ys) ∙ all-in (λ (s : OwnedQuant). has_box (up ++ ys) s.over) s n.quants o.1 j in
        elim (or_cases (has_box up s.over) (has_box ys s.over) h) [
          | inl e ↦ or_left (has_box up s.over) (has_box zs s.over) e
          | inr e ↦ or_right (has_box up s.over) (has_box zs s.over) (keep s.over (apart n s (inl refl) j) e)
        ]))

pub one-of : (b : Bool) → cond b 1 0 ≤ 1
one-of true = omega arith
one-of false = omega arith

module _ (g : QueryGraph) (once : EachOnce (numbers g.boxes)) (wf : WellFormed g) (known : Facts) (tells : Tells known g.boxes) (d : Node) (may : MayAbsorb g.boxes known d) (up l1 l2 : List Node) (before : g.boxes ≡ up ++ d ∷ (l1 ++ may.c ∷ l2))
    (kind : may.c.parts.kind ≡ Group 0) (q : OwnedQuant) (alone : may.c.quants ≡ q ∷ []) (x : Node) (in_x : In x g.boxes) (over_x : q.over ≡ x.id) (o n om oc p : ℕ) (new : AreFresh g o n om oc p) where
  abbrev m : Node
  m = may.m

  abbrev c : Node
  c = may.c

  abbrev a : OwnedQuant
  a = may.a

  abbrev r : OwnedQuant
  r = may.r

  abbrev d' : Node
  d' = counted_box d.id may.r.id (width may.m) may.c.parts.head o

  abbrev o' : Node
  o' = joined_box o om may.m.id oc n (width may.m) (length may.c.parts.head)

  abbrev n' : Node
  n' = keyed_box n (width may.m + 0) q.id p (width may.m) (width x) may.c.parts.head may.c.id

  abbrev c' : Node
  c' = pair_box may.c.id Fed may.a.id may.m.id (width may.m) q.id x.id (width x)

  abbrev low : List Node
  low = l1 ++ l2

  abbrev news : List Node
  news = counted_box d.id may.r.id (width may.m) may.c.parts.head o ∷ (joined_box o om may.m.id oc n (width may.m) (length may.c.parts.head) ∷ (keyed_box n (width may.m + 0) q.id p (width may.m) (width x) may.c.parts.head may.c.id ∷ (pair_box may.c.id Fed may.a.id may.m.id (width may.m) q.id x.id (width x) ∷ (l1 ++ l2))))

  abbrev hs : List Node
  hs = up ++ (counted_box d.id may.r.id (width may.m) may.c.parts.head o ∷ (joined_box o om may.m.id oc n (width may.m) (length may.c.parts.head) ∷ (keyed_box n (width may.m + 0) q.id p (width may.m) (width x) may.c.parts.head may.c.id ∷ (pair_box may.c.id Fed may.a.id may.m.id (width may.m) q.id x.id (width x) ∷ (l1 ++ l2)))))

  abbrev kept : ℕ → Bool
  kept b = not (b == c.id)

  abbrev look : ℕ → ℕ → Bool
  look b i = not (b == c.id) && loose g.boxes b i

  pub w : Sound g.boxes g.root
  w = made.w g once wf known tells d may

  abbrev ty : Typed g.boxes
  ty = made.ty g once wf known tells d may

  abbrev sh : Shaped g.boxes g.root
  sh = made.sh g once wf known tells d may

  in-a : In a d.quants
  in-a = made.in-a g once wf known tells d may

  in-q : In q c.quants
  in-q = grp.in-q g once wf known tells d may up l1 l2 before 0 kind q alone x in_x over_x

  pub d-not-c : (d.id == c.id) ≡ false
  d-not-c = made.d-not-c g once wf known tells d may

  pub c-not-d : (c.id == d.id) ≡ false
  c-not-d = eq-false-sym d.id c.id d-not-c

  pub elsewhere : (y : Node) (s : OwnedQuant) → In y g.boxes → (y.id == d.id) ≡ false → In s y.quants → (s.over == c.id) ≡ false
  elsewhere = made.elsewhere g once wf known tells d may up l1 l2 before

  x-not-c : (x.id == c.id) ≡ false
  x-not-c = grp.x-not-c g once wf known tells d may up l1 l2 before 0 kind q alone x in_x over_x

  m-not-c : (m.id == c.id) ≡ false
  m-not-c = grp.m-not-c g once wf known tells d may up l1 l2 before 0 kind q alone x in_x over_x

  not-new : (b : ℕ) → has_box g.boxes b ≡ false → (y : Node) → In y g.boxes → (b == y.id) ≡ false
  not-new b f y i = elim (cases_Bool (b == y.id)) [ inr z ↦ z | inl e ↦ absurd (clash (has_box g.boxes b) (subst (λ z. has_box g.boxes z ≡ true) (sym (eqb-true b y.id e)) (in-has y g.boxes i)) f) ]

  pub o-not : (y : Node) → In y g.boxes → (o == y.id) ≡ false
  o-not = not-new o new.o_new

  pub n-not : (y : Node) → In y g.boxes → (n == y.id) ≡ false
  n-not = not-new n new.n_new

  -- ---- where the boxes stand

  pub in-d' : In d' hs
  in-d' = in-right d' up news (inl refl)

  pub in-o' : In o' hs
  in-o' = in-right o' up news (inr (inl refl))

  pub in-n' : In n' hs
  in-n' = in-right n' up news (inr (inr (inl refl)))

  pub in-c' : In c' hs
  in-c' = in-right c' up news (inr (inr (inr (inl refl))))

  abbrev Old : Node → Type 0
  Old y = In y g.boxes × (((y.id == d.id) ≡ false) × ((y.id == c.id) ≡ false))

  low-old : (y : Node) → In y low → Old y
  low-old y z = elim (in-append y l1 l2 z) [ inl u ↦ made.other-left g once wf known tells d may up l1 l2 before y u | inr u ↦ made.other-right g once wf known tells d may up l1 l2 before y u ]

  pub each-in : (y : Node) → In y hs → (y ≡ d') ⊎ ((y ≡ o') ⊎ ((y ≡ n') ⊎ ((y ≡ c') ⊎ (In y g.boxes × (((y.id == d.id) ≡ false) × ((y.id == c.id) ≡ false))))))
  each-in y i = elim (in-append y up news i) [
    | inl j ↦ inr (inr (inr (inr (made.other-up g once wf known tells d may up l1 l2 before y j))))
    | inr j ↦ elim j [
      | inl e ↦ inl (sym e)
      | inr j ↦ elim j [
        | inl e ↦ inr (inl (sym e))
        | inr j ↦ elim j [
          | inl e ↦ inr (inr (inl (sym e)))
          | inr j ↦ elim j [ inl e ↦ inr (inr (inr (inl (sym e)))) | inr z ↦ inr (inr (inr (inr (low-old y z)))) ]
        ]
      ]
    ]
  ]

  pub to-hs : (y : Node) → In y g.boxes → (y.id == d.id) ≡ false → (y.id == c.id) ≡ false → In y hs
  to-hs y i e f = elim (made.place-of g once wf known tells d may up l1 l2 before y i) [
    | inl z ↦ absurd (clash (y.id == d.id) (eq-eqb y.id d.id (ap (λ (z : Node). z.id) z)) e)
    | inr z ↦ elim z [
      | inl z ↦ absurd (clash (y.id == c.id) (eq-eqb y.id c.id (ap (λ (z : Node). z.id) z)) f)
      | inr z ↦ elim z [ inl u ↦ in-left y up news u | inr u ↦ in-right y up news (inr (inr (inr (inr u)))) ]
    ]
  ]

  pub in-m : In m hs
  in-m = to-hs m may.in_m (grp.m-not-d g once wf known tells d may up l1 l2 before 0 kind q alone x in_x over_x) m-not-c

  pub in-x : In x hs
  in-x = to-hs x in_x (grp.x-not-d g once wf known tells d may up l1 l2 before 0 kind q alone x in_x over_x) x-not-c

  abbrev od : Ordered (d ∷ (l1 ++ c ∷ l2))
  od = made.od g once wf known tells d may up l1 l2 before

  abbrev oc' : Ordered (c ∷ l2)
  oc' = made.oc g once wf known tells d may up l1 l2 before

  abbrev more : (b : ℕ) → (b == c.id) ≡ false → has_box (l1 ++ c ∷ l2) b ≡ true → has_box (l1 ++ l2) b ≡ true
  more = made.more g once wf known tells d may up l1 l2 before

  abbrev fewer : (b : ℕ) → has_box (l1 ++ c ∷ l2) b ≡ false → has_box (l1 ++ l2) b ≡ false
  fewer = made.fewer g once wf known tells d may up l1 l2 before

  low-has-not : (b : ℕ) → ((y : Node) → In y g.boxes → (y.id == d.id) ≡ false → (y.id == c.id) ≡ false → (b == y.id) ≡ false) → has_box (l1 ++ l2) b ≡ false
  low-has-not b f = elim (cases_Bool (has_box (l1 ++ l2) b)) [
    | inr z ↦ z
    | inl e ↦ absurd (let y = has-in b (l1 ++ l2) e in let u = low-old y.0 y.1.0 in clash (b == y.0.id) (eq-eqb b y.0.id (sym y.1.1)) (f y.0 u.0 u.1.0 u.1.1))
  ]

  pub ordered : Ordered hs
  ordered = replaced up (d ∷ (l1 ++ c ∷ l2)) news c.id (made.ob g once wf known tells d may up l1 l2 before) (d-none, d-all, (o-none, o-all, (n-none, n-all, (c-none, c-all, made.low g once wf known tells d may up l1 l2 before))))
      (λ y i f. (
      let z = or_parts (d.id == y.id) (has_box (l1 ++ c ∷ l2) y.id) f in
      let u = made.other-up g once wf known tells d may up l1 l2 before y i in
      or_from (d.id == y.id) ((o == y.id) || ((n == y.id) || ((c.id == y.id) || has_box (l1 ++ l2) y.id))) z.0
      (or_from (o == y.id) ((n == y.id) || ((c.id == y.id) || has_box (l1 ++ l2) y.id)) (o-not y u.0)
      (or_from (n == y.id) ((c.id == y.id) || has_box (l1 ++ l2) y.id) (n-not y u.0)
      (or_from (c.id == y.id) (has_box (l1 ++ l2) y.id) (eq-false-sym y.id c.id u.1.1) (fewer y.id z.1))))))
      (λ b f h. elim (or_cases (d.id == b) (has_box (l1 ++ c ∷ l2) b) h) [
        | inl y ↦ or_left (d.id == b) ((o == b) || ((n == b) || ((c.id == b) || has_box (l1 ++ l2) b))) y
        | inr y ↦ or_right (d.id == b) ((o == b) || ((n == b) || ((c.id == b) || has_box (l1 ++ l2) b))) (or_right (o == b) ((n == b) || ((c.id == b) || has_box (l1 ++ l2) b)) (or_right (n == b) ((c.id == b) || has_box (l1 ++ l2) b) (or_right (c.id == b) (has_box (l1 ++ l2) b) (more b f y))))
      ])
      (λ y s i j. (let z = made.other-up g once wf known tells d may up l1 l2 before y i in elsewhere y s z.0 z.1.0 j))
    where
      has-m : has_box (l1 ++ l2) m.id ≡ true
      has-m = more m.id m-not-c (subst (λ i. has_box (l1 ++ c ∷ l2) i ≡ true) (sym may.over_m) (all-in (λ (s : OwnedQuant). has_box (l1 ++ c ∷ l2) s.over) a d.quants od.1 in-a))

      has-x : has_box (l1 ++ l2) x.id ≡ true
      has-x = any-both (is_box x.id) l1 l2 ∙ or_right (has_box l1 x.id) (has_box l2 x.id) (subst (λ i. has_box l2 i ≡ true) over_x (all-in (λ (s : OwnedQuant). has_box l2 s.over) q c.quants oc'.1 in-q))

      d-none : ((o == d.id) || ((n == d.id) || ((c.id == d.id) || has_box (l1 ++ l2) d.id))) ≡ false
      d-none = or_from (o == d.id) ((n == d.id) || ((c.id == d.id) || has_box (l1 ++ l2) d.id)) (o-not d may.in_d) (or_from (n == d.id) ((c.id == d.id) || has_box (l1 ++ l2) d.id) (n-not d may.in_d) (or_from (c.id == d.id) (has_box (l1 ++ l2) d.id) c-not-d (fewer d.id od.0)))

      d-all : (((o == o) || ((n == o) || ((c.id == o) || has_box (l1 ++ l2) o))) && true) ≡ true
      d-all = and_from ((o == o) || ((n == o) || ((c.id == o) || has_box (l1 ++ l2) o))) true (or_left (o == o) ((n == o) || ((c.id == o) || has_box (l1 ++ l2) o)) (eq-itself o)) refl

      o-none : ((n == o) || ((c.id == o) || has_box (l1 ++ l2) o)) ≡ false
      o-none = or_from (n == o) ((c.id == o) || has_box (l1 ++ l2) o) (eq-false-sym o n new.two) (or_from (c.id == o) (has_box (l1 ++ l2) o) (eq-false-sym o c.id (o-not c may.in_c)) (low-has-not o (λ y i e f. o-not y i)))

      o-all : (((n == m.id) || ((c.id == m.id) || has_box (l1 ++ l2) m.id)) && (((n == n) || ((c.id == n) || has_box (l1 ++ l2) n)) && true)) ≡ true
      o-all = and_from ((n == m.id) || ((c.id == m.id) || has_box (l1 ++ l2) m.id)) (((n == n) || ((c.id == n) || has_box (l1 ++ l2) n)) && true)
          (or_right (n == m.id) ((c.id == m.id) || has_box (l1 ++ l2) m.id) (or_right (c.id == m.id) (has_box (l1 ++ l2) m.id) has-m))
          (and_from ((n == n) || ((c.id == n) || has_box (l1 ++ l2) n)) true (or_left (n == n) ((c.id == n) || has_box (l1 ++ l2) n) (eq-itself n)) refl)

      n-none : ((c.id == n) || has_box (l1 ++ l2) n) ≡ false
      n-none = or_from (c.id == n) (has_box (l1 ++ l2) n) (eq-false-sym n c.id (n-not c may.in_c)) (low-has-not n (λ y i e f. n-not y i))

      n-all : (((c.id == c.id) || has_box (l1 ++ l2) c.id) && true) ≡ true
      n-all = and_from ((c.id == c.id) || has_box (l1 ++ l2) c.id) true (or_left (c.id == c.id) (has_box (l1 ++ l2) c.id) (eq-itself c.id)) refl

      c-none : has_box (l1 ++ l2) c.id ≡ false
      c-none = low-has-not c.id (λ y i e f. eq-false-sym y.id c.id f)

      c-all : (has_box (l1 ++ l2) m.id && (has_box (l1 ++ l2) x.id && true)) ≡ true
      c-all = and_from (has_box (l1 ++ l2) m.id) (has_box (l1 ++ l2) x.id && true) has-m (and_from (has_box (l1 ++ l2) x.id) true has-x refl)

  -- ---- counts

  counts : (f : OwnedQuant → ℕ) (i : ℕ) (fr fom foc fp : ℕ) → f (range r.id F o) ≡ fr → f (range om F m.id) ≡ fom → f (range oc F n) ≡ foc → f (range p F c.id) ≡ fp → f (range a.id F m.id) ≡ f a → f (range q.id F x.id) ≡ f q
      → times i (flat_map (λ (z : Node). map f z.quants) hs) + cond (f r == i) 1 0 ≡ times i (flat_map (λ (z : Node). map f z.quants) g.boxes) + (cond (fr == i) 1 0 + (cond (fom == i) 1 0 + (cond (foc == i) 1 0 + cond (fp == i) 1 0)))
  counts f i fr fom foc fp er eom eoc ep ea eq =
      let G : Node → List ℕ = λ (z : Node). map f z.quants in
      let e1 = times-flat G i up news in
      let e2 = times-append i (G d') (flat_map G (o' ∷ (n' ∷ (c' ∷ low)))) in
      let e3 = times-append i (G o') (flat_map G (n' ∷ (c' ∷ low))) in
      let e4 = times-append i (G n') (flat_map G (c' ∷ low)) in
      let e5 = times-append i (G c') (flat_map G low) in
      let e6 = times-flat G i l1 l2 in
      let f1 : times i (G d') ≡ cond (fr == i) 1 0 + 0 = ap (λ z. cond (z == i) 1 0 + 0) er in
      let f2 : times i (G o') ≡ cond (fom == i) 1 0 + (cond (foc == i) 1 0 + 0) = ap₂ (λ y z. cond (y == i) 1 0 + (cond (z == i) 1 0 + 0)) eom eoc in
      let f3 : times i (G n') ≡ cond (fp == i) 1 0 + 0 = ap (λ z. cond (z == i) 1 0 + 0) ep in
      let f4 : times i (G c') ≡ cond (f a == i) 1 0 + (cond (f q == i) 1 0 + 0) = ap₂ (λ y z. cond (y == i) 1 0 + (cond (z == i) 1 0 + 0)) ea eq in
      let k1 = ap (λ (z : List Node). times i (flat_map G z)) before in
      let k2 = times-flat G i up (d ∷ (l1 ++ c ∷ l2)) in
      let k3 = times-append i (G d) (flat_map G (l1 ++ c ∷ l2)) in
      let k4 = times-flat G i l1 (c ∷ l2) in
      let k5 = times-append i (G c) (flat_map G l2) in
      let k6 : times i (G d) ≡ cond (f a == i) 1 0 + (cond (f r == i) 1 0 + 0) = ap (λ (z : List OwnedQuant). times i (map f z)) may.quants in
      let k7 : times i (G c) ≡ cond (f q == i) 1 0 + 0 = ap (λ (z : List OwnedQuant). times i (map f z)) alone in
      omega (arith, e1, e2, e3, e4, e5, e6, f1, f2, f3, f4, k1, k2, k3, k4, k5, k6, k7)

  pub once-after : (i : ℕ) → times i (ids_in hs) ≤ 1
  once-after i =
      let y = counts (λ (z : OwnedQuant). z.id) i r.id om oc p refl refl refl refl refl refl in
      let z = w.once i in
      elim (cases_Bool (om == i)) [
        | inl e ↦ (
            let s = eqb-true om i e in
            let k : times i (ids_in g.boxes) ≡ 0 = subst (λ j. times j (ids_in g.boxes) ≡ 0) s new.om_new in
            let g1 : (oc == i) ≡ false = subst (λ j. (oc == j) ≡ false) s (eq-false-sym om oc new.om_oc) in
            let g2 : (p == i) ≡ false = subst (λ j. (p == j) ≡ false) s (eq-false-sym om p new.om_p) in
            let b = one-of (om == i) in let c1 = nothing (oc == i) g1 in let c2 = nothing (p == i) g2 in omega (arith, y, k, b, c1, c2))
        | inr f ↦ elim (cases_Bool (oc == i)) [
          | inl e ↦ (
              let s = eqb-true oc i e in
              let k : times i (ids_in g.boxes) ≡ 0 = subst (λ j. times j (ids_in g.boxes) ≡ 0) s new.oc_new in
              let g2 : (p == i) ≡ false = subst (λ j. (p == j) ≡ false) s (eq-false-sym oc p new.oc_p) in
              let b = one-of (oc == i) in let c1 = nothing (om == i) f in let c2 = nothing (p == i) g2 in omega (arith, y, k, b, c1, c2))
          | inr l ↦ elim (cases_Bool (p == i)) [
            | inl e ↦ (
                let s = eqb-true p i e in
                let k : times i (ids_in g.boxes) ≡ 0 = subst (λ j. times j (ids_in g.boxes) ≡ 0) s new.p_new in
                let b = one-of (p == i) in let c1 = nothing (om == i) f in let c2 = nothing (oc == i) l in omega (arith, y, k, b, c1, c2))
            | inr u ↦ (let c1 = nothing (om == i) f in let c2 = nothing (oc == i) l in let c3 = nothing (p == i) u in omega (arith, y, z, c1, c2, c3))
          ]
        ]
      ]
    where
      nothing : (b : Bool) → b ≡ false → cond b 1 0 ≤ 0
      nothing true f = absurd (let z : ⊥ = cc f in z)
      nothing false f = omega arith

  -- a box that is neither new nor the magic box has the uses that it had
  pub overs-after : (b : ℕ) → (o == b) ≡ false → (n == b) ≡ false → (m.id == b) ≡ false → times b (overs_in hs) ≡ times b (overs_in g.boxes)
  overs-after b fo fn fm =
      let y = counts (λ (z : OwnedQuant). z.over) b o m.id n c.id refl refl refl refl may.over_m (sym over_x) in
      let c1 = nothing (o == b) fo in let c2 = nothing (m.id == b) fm in let c3 = nothing (n == b) fn in
      let s : cond (r.over == b) 1 0 ≤ cond (c.id == b) 1 0 = subst (λ j. cond (j == b) 1 0 ≤ cond (c.id == b) 1 0) may.over_c (omega arith) in
      let u : cond (c.id == b) 1 0 ≤ cond (r.over == b) 1 0 = subst (λ j. cond (c.id == b) 1 0 ≤ cond (j == b) 1 0) may.over_c (omega arith) in
      omega (arith, y, c1, c2, c3, s, u)
    where
      nothing : (b : Bool) → b ≡ false → cond b 1 0 ≤ 0
      nothing true f = absurd (let z : ⊥ = cc f in z)
      nothing false f = omega arith

  -- ---- boxes that stay

  stays : (y : Node) → In y g.boxes → (y.id == d.id) ≡ false → (y.id == c.id) ≡ false → StaysIn g.boxes hs kept look y
  stays y i nd nc = record {
    within = i;
    number = ap not nc;
    same = λ i. ap (λ b. not b && loose g.boxes y.id i) nc;
    over = λ s j. (let f = elsewhere y s i nd j in (ap not f, λ i. ap (λ b. not b && loose g.boxes s.over i) f));
    named = λ s h u. elim (cases_Bool (u.0.id == d.id)) [
      | inl e ↦ (
          let same : u.0 ≡ d = same-box g.boxes u.0 d w.ordered u.1.0 may.in_d (eqb-true u.0.id d.id e) in
          elim (made.of-d g once wf known tells d may s (subst (λ (z : Node). In s z.quants) same u.1.1)) [
            | inl z ↦ (ap not (ap (λ (z : OwnedQuant). z.over == c.id) z ∙ made.a-elsewhere g once wf known tells d may up l1 l2 before), (range a.id F m.id, ((c', (in-c', inl refl)), (ap (λ (z : OwnedQuant). z.id) (sym z), may.over_m ∙ ap (λ (z : OwnedQuant). z.over) (sym z)))))
            | inr z ↦ absurd (made.r-unnamed g once wf known tells d may y i nd (subst (λ (z : OwnedQuant). holds z.id (named_by y) ≡ true) z h))
          ])
      | inr f ↦ elim (cases_Bool (u.0.id == c.id)) [
        | inl e ↦ (
            let same : u.0 ≡ c = same-box g.boxes u.0 c w.ordered u.1.0 may.in_c (eqb-true u.0.id c.id e) in
            let is : s ≡ q = elim (subst (λ (z : List OwnedQuant). In s z) alone (subst (λ (z : Node). In s z.quants) same u.1.1)) [ inl z ↦ sym z | inr z ↦ elim z [ ] ] in
            (ap not (elsewhere u.0 s u.1.0 f u.1.1), (range q.id F x.id, ((c', (in-c', inr (inl refl))), (ap (λ (z : OwnedQuant). z.id) (sym is), sym over_x ∙ ap (λ (z : OwnedQuant). z.over) (sym is))))))
        | inr l ↦ (ap not (elsewhere u.0 s u.1.0 f u.1.1), (s, ((u.0, (to-hs u.0 u.1.0 f l, u.1.1)), (refl, refl))))
      ]
    ];
  }

  -- ---- boxes that are made

  and-none : (b : Bool) → (b && false) ≡ false
  and-none true = refl
  and-none false = refl

  looks-m : (i : ℕ) → look m.id i ≡ false
  looks-m i = ap (λ b. not (m.id == c.id) && b) (fed.closed-m g once wf known tells d may i) ∙ and-none (not (m.id == c.id))

  pub looks-c : (i : ℕ) → look c.id i ≡ false
  looks-c i = ap (λ b. not b && loose g.boxes c.id i) (eq-itself c.id)

  pub looks-d : (i : ℕ) → look d.id i ≡ false
  looks-d i = ap (λ b. not b && loose g.boxes d.id i) d-not-c ∙ made.closed-d g once wf known tells d may i

  pub looks-new : (b : ℕ) → has_box g.boxes b ≡ false → (i : ℕ) → look b i ≡ false
  looks-new b f i = elim (cases_Bool (look b i)) [ inr z ↦ z | inl e ↦ absurd (clash (has_box g.boxes b) (loose-held g.boxes b i (and_parts (not (b == c.id)) (loose g.boxes b i) e).1) f) ]

  head : IsHead q.id (width x) c.parts.head
  head = record {
    reads = grp.reads-c g once wf known tells d may up l1 l2 before 0 kind q alone x in_x over_x;
    places = λ i j h. (
        let same : i ≡ q.id = grp.reads-at-c g once wf known tells d may up l1 l2 before 0 kind q alone x in_x over_x i j h in
        (same, w.fits c may.in_c i j (or_left (list_any (reads_at i j) c.parts.head) (list_any (reads_at_cond i j) c.parts.conds.items) h) c q x may.in_c in-q (sym same) in_x (sym over_x)));
    names = grp.names-c g once wf known tells d may up l1 l2 before 0 kind q alone x in_x over_x;
    named = λ y i j z. grp.named-c g once wf known tells d may up l1 l2 before 0 kind q alone x in_x over_x j (in-holds j (named_by c) (in-left j (flat_map names_in c.parts.head) (flat_map names_in_cond c.parts.conds.items) (in-flat names_in y c.parts.head j i z)));
  }

  pair : IsPair hs look c' m x a.id q.id
  pair = record {
    ordered = ordered;
    once = once-after;
    in_n = in-c';
    in_m = in-m;
    in_x = in-x;
    apart = eq-false-sym q.id a.id (grp.q-not-a g once wf known tells d may up l1 l2 before 0 kind q alone x in_x over_x);
    closed = looks-m;
    alone = λ i h. grp.x-alone g once wf known tells d may up l1 l2 before 0 kind q alone x in_x over_x i (and_parts (not (x.id == c.id)) (loose g.boxes x.id i) h).1;
    nothing = looks-c;
  }

  keyed_is : IsKeyed hs look n' c' (width m) (width x)
  keyed_is = record { ordered = ordered; once = once-after; in_n = in-n'; in_below = in-c'; closed = looks-c; nothing = looks-new n new.n_new; wide = width-pair hs look c.id a.id q.id Fed m x pair }

  joined_is : IsJoined hs look o' m n' om oc (length c.parts.head)
  joined_is = record {
    ordered = ordered;
    once = once-after;
    in_n = in-o';
    in_m = in-m;
    in_g = in-n';
    closed_m = looks-m;
    closed_g = looks-new n new.n_new;
    nothing = looks-new o new.o_new;
    wide = width-keyed hs look n 0 q.id p (width m) (width x) c.parts.head c' head keyed_is;
  }

  over : IsOver hs look d' o' (width m + length c.parts.head)
  over = record { ordered = ordered; once = once-after; in_n = in-d'; in_below = in-o'; closed = looks-new o new.o_new; nothing = looks-d; wide = width-joined hs look o om oc (length c.parts.head) m n' joined_is }

  -- ---- widths

  width-c : width c ≡ length c.parts.head
  width-c = grp.width-c g once wf known tells d may up l1 l2 before 0 kind q alone x in_x over_x

  width-d : width d' ≡ width d
  width-d =
      width-counted hs look d.id r.id (width m) c.parts.head o' over
      ∙ ap₂ ◌+◌ (sym (columns-long a.id 1 (width m))) (sym width-c ∙ sym (columns-long r.id 1 (width c)))
      ∙ sym (length-append (columns_from a.id 1 (width m)) (columns_from r.id 1 (width c)))
      ∙ ap length (sym (fed.head-is g once wf known tells d may)) ∙ sym (ap (λ z. width_by z (length d.parts.head)) (fed.kind_d g once wf known tells d may))

  same-wide : (u y : Node) → In u g.boxes → In y hs → kept u.id ≡ true → u.id ≡ y.id → width y ≡ width u
  same-wide u y i j l e = elim (each-in y j) [
    | inl z ↦ (
        let s : u ≡ d = same-box g.boxes u d w.ordered i may.in_d (e ∙ ap (λ (z : Node). z.id) z) in
        ap width z ∙ width-d ∙ ap width (sym s))
    | inr z ↦ elim z [
      | inl z ↦ absurd (clash (o == u.id) (eq-eqb o u.id (sym (e ∙ ap (λ (z : Node). z.id) z))) (o-not u i))
      | inr z ↦ elim z [
        | inl z ↦ absurd (clash (n == u.id) (eq-eqb n u.id (sym (e ∙ ap (λ (z : Node). z.id) z))) (n-not u i))
        | inr z ↦ elim z [
          | inl z ↦ absurd (clash (u.id == c.id) (eq-eqb u.id c.id (e ∙ ap (λ (z : Node). z.id) z)) (not-true (u.id == c.id) l))
          | inr z ↦ ap width (same-box g.boxes y u w.ordered z.0 i (sym e))
        ]
      ]
    ]
  ]

  -- ---- rebuilt

  abbrev fresh : ℕ → Bool
  fresh b = (b == d.id) || ((b == o) || ((b == n) || (b == c.id)))

  new-box : (y : Node) → In y hs → fresh y.id ≡ true → (y ≡ d') ⊎ ((y ≡ o') ⊎ ((y ≡ n') ⊎ (y ≡ c')))
  new-box y i h = elim (each-in y i) [
    | inl z ↦ inl z
    | inr z ↦ elim z [
      | inl z ↦ inr (inl z)
      | inr z ↦ elim z [
        | inl z ↦ inr (inr (inl z))
        | inr z ↦ elim z [
          | inl z ↦ inr (inr (inr z))
          | inr z ↦ absurd (elim (or_cases (y.id == d.id) ((y.id == o) || ((y.id == n) || (y.id == c.id))) h) [
            | inl e ↦ clash (y.id == d.id) e z.1.0
            | inr h ↦ elim (or_cases (y.id == o) ((y.id == n) || (y.id == c.id)) h) [
              | inl e ↦ clash (y.id == o) e (eq-false-sym o y.id (o-not y z.0))
              | inr h ↦ elim (or_cases (y.id == n) (y.id == c.id) h) [ inl e ↦ clash (y.id == n) e (eq-false-sym n y.id (n-not y z.0)) | inr e ↦ clash (y.id == c.id) e z.1.1 ]
            ]
          ])
        ]
      ]
    ]
  ]

  number : (y z : Node) → y ≡ z → (y.id == z.id) ≡ true
  number y z e = eq-eqb y.id z.id (ap (λ (z : Node). z.id) e)

  pub rebuilds : Rebuilds g.boxes hs g.root kept look fresh
  rebuilds = record {
    ordered = ordered;
    rooted = (let y = has-in g.root g.boxes w.rooted in subst (λ b. has_box hs b ≡ true) y.1.1 (held y.0 y.1.0));
    top = (
        let y = has-in g.root g.boxes w.rooted in
        overs-after g.root (subst (λ b. (o == b) ≡ false) y.1.1 (o-not y.0 y.1.0)) (subst (λ b. (n == b) ≡ false) y.1.1 (n-not y.0 y.1.0)) root-not-m ∙ w.top);
    once = once-after;
    wide = λ u y i j l e. same-wide u y i j l e;
    magic = λ u y i j l e. elim (each-in y j) [
      | inl z ↦ (
          let s : u ≡ d = same-box g.boxes u d w.ordered i may.in_d (e ∙ ap (λ (z : Node). z.id) z) in
          ap (λ (z : Node). is_magic z.parts.role) z ∙ sym (ap is_magic may.is_fed) ∙ ap (λ (z : Node). is_magic z.parts.role) (sym s))
      | inr z ↦ elim z [
        | inl z ↦ absurd (clash (o == u.id) (eq-eqb o u.id (sym (e ∙ ap (λ (z : Node). z.id) z))) (o-not u i))
        | inr z ↦ elim z [
          | inl z ↦ absurd (clash (n == u.id) (eq-eqb n u.id (sym (e ∙ ap (λ (z : Node). z.id) z))) (n-not u i))
          | inr z ↦ elim z [
            | inl z ↦ absurd (clash (u.id == c.id) (eq-eqb u.id c.id (e ∙ ap (λ (z : Node). z.id) z)) (not-true (u.id == c.id) l))
            | inr z ↦ ap (λ (z : Node). is_magic z.parts.role) (same-box g.boxes y u w.ordered z.0 i (sym e))
          ]
        ]
      ]
    ];
    held = λ u i l. held u i;
    used = λ b i h. (
        let l = (and_parts (not (b == c.id)) (loose g.boxes b i) h).1 in
        let y = has-in b g.boxes (loose-held g.boxes b i l) in
        overs-after b (subst (λ z. (o == z) ≡ false) y.1.1 (o-not y.0 y.1.0)) (subst (λ z. (n == z) ≡ false) y.1.1 (n-not y.0 y.1.0)) (open-not-m b i l) ∙ w.used b i l);
    each = λ y i. elim (each-in y i) [
      | inl z ↦ inr (or_left (y.id == d.id) ((y.id == o) || ((y.id == n) || (y.id == c.id))) (number y d' z))
      | inr z ↦ elim z [
        | inl z ↦ inr (or_right (y.id == d.id) ((y.id == o) || ((y.id == n) || (y.id == c.id))) (or_left (y.id == o) ((y.id == n) || (y.id == c.id)) (number y o' z)))
        | inr z ↦ elim z [
          | inl z ↦ inr (or_right (y.id == d.id) ((y.id == o) || ((y.id == n) || (y.id == c.id))) (or_right (y.id == o) ((y.id == n) || (y.id == c.id)) (or_left (y.id == n) (y.id == c.id) (number y n' z))))
          | inr z ↦ elim z [
            | inl z ↦ inr (or_right (y.id == d.id) ((y.id == o) || ((y.id == n) || (y.id == c.id))) (or_right (y.id == o) ((y.id == n) || (y.id == c.id)) (or_right (y.id == n) (y.id == c.id) (number y c' z))))
            | inr z ↦ inl (stays y z.0 z.1.0 z.1.1)
          ]
        ]
      ]
    ];
    made = λ y i h. elim (new-box y i h) [
      | inl z ↦ subst (MadeIn hs look) (sym z) (counted-made hs look d.id r.id (width m) c.parts.head o' over)
      | inr z ↦ elim z [
        | inl z ↦ subst (MadeIn hs look) (sym z) (joined-made hs look o om oc (length c.parts.head) m n' joined_is)
        | inr z ↦ elim z [
          | inl z ↦ subst (MadeIn hs look) (sym z) (keyed-made hs look n 0 q.id p (width m) (width x) c.parts.head c' head keyed_is)
          | inr z ↦ subst (MadeIn hs look) (sym z) (pair-made hs look c.id a.id q.id Fed m x pair)
        ]
      ]
    ];
  }
    where
      held : (u : Node) → In u g.boxes → has_box hs u.id ≡ true
      held u i = elim (cases_Bool (u.id == d.id)) [
        | inl e ↦ subst (λ b. has_box hs b ≡ true) (sym (eqb-true u.id d.id e)) (in-has d' hs in-d')
        | inr f ↦ elim (cases_Bool (u.id == c.id)) [
          | inl e ↦ subst (λ b. has_box hs b ≡ true) (sym (eqb-true u.id c.id e)) (in-has c' hs in-c')
          | inr l ↦ in-has u hs (to-hs u i f l)
        ]
      ]

      open-not-m : (b i : ℕ) → loose g.boxes b i ≡ true → (m.id == b) ≡ false
      open-not-m b i l = elim (cases_Bool (m.id == b)) [ inr f ↦ f | inl e ↦ absurd (clash (loose g.boxes m.id i) (subst (λ z. loose g.boxes z i ≡ true) (sym (eqb-true m.id b e)) l) (fed.closed-m g once wf known tells d may i)) ]

      root-not-m : (m.id == g.root) ≡ false
      root-not-m = elim (cases_Bool (m.id == g.root)) [
        | inr f ↦ f
        | inl e ↦ absurd (
            let y = times-in overs_of g.root d g.boxes may.in_d in
            let z = w.top in
            let u : 1 ≤ times g.root (overs_of d) = subst (λ b. 1 ≤ times b (overs_of d)) (sym may.over_m ∙ eqb-true m.id g.root e) (in-times (λ (z : OwnedQuant). z.over) a d.quants in-a) in
            omega (arith, y, z, u))
      ]

  pub sound-after : Sound hs g.root
  sound-after = rebuilt g.boxes hs g.root kept look fresh w rebuilds

  pub looks-after : (b i : ℕ) → has_box hs b ≡ true → loose hs b i ≡ look b i
  looks-after = looks-exact g.boxes hs g.root kept look fresh w rebuilds

  -- ---- types

  abbrev M : List (Option SqlType)
  M = types_at g.boxes m.id

  abbrev X : List (Option SqlType)
  X = types_at g.boxes x.id

  abbrev L : Lookup
  L = lookup_of g.boxes

  abbrev C : List (Option SqlType)
  C = map (term_type (lookup_of g.boxes)) may.c.parts.head

  abbrev T : ℕ → List (Option SqlType)
  T b = cond (b == c.id) (types_at g.boxes m.id ++ types_at g.boxes x.id) (cond ((b == o) || (b == n)) (types_at g.boxes m.id ++ map (term_type (lookup_of g.boxes)) may.c.parts.head) (types_at g.boxes b))

  T-c : T c.id ≡ M ++ X
  T-c = ap (λ z. cond z (M ++ X) (cond ((c.id == o) || (c.id == n)) (M ++ C) (types_at g.boxes c.id))) (eq-itself c.id)

  T-new : (b : ℕ) → ((b == o) || (b == n)) ≡ true → (b == c.id) ≡ false → T b ≡ M ++ C
  T-new b e f = ap₂ (λ y z. cond y (M ++ X) (cond z (M ++ C) (types_at g.boxes b))) f e

  T-old : (y : Node) → In y g.boxes → (y.id == c.id) ≡ false → T y.id ≡ types_at g.boxes y.id
  T-old y i f = ap₂ (λ u z. cond u (M ++ X) (cond z (M ++ C) (types_at g.boxes y.id))) f (or_from (y.id == o) (y.id == n) (eq-false-sym o y.id (o-not y i)) (eq-false-sym n y.id (n-not y i)))

  T-o : T o ≡ M ++ C
  T-o = T-new o (or_left (o == o) (o == n) (eq-itself o)) (o-not c may.in_c)

  T-n : T n ≡ M ++ C
  T-n = T-new n (or_right (n == o) (n == n) (eq-itself n)) (n-not c may.in_c)

  types-c : types_at g.boxes c.id ≡ C
  types-c = settled-types g.boxes g.root w c may.in_c ∙ ap (λ z. types_by L z c.parts.head) kind

  T-d : T d.id ≡ M ++ C
  T-d =
      T-old d may.in_d d-not-c ∙ settled-types g.boxes g.root w d may.in_d
      ∙ ap (λ z. types_by L z d.parts.head) (fed.kind_d g once wf known tells d may)
      ∙ ap (map (term_type L)) (fed.head-is g once wf known tells d may)
      ∙ map-append (term_type L) (columns_from a.id 1 (width m)) (columns_from r.id 1 (width c))
      ∙ ap₂ (λ (y z : List (Option SqlType)). y ++ z) (grp.L-m g once wf known tells d may up l1 l2 before 0 kind q alone x in_x over_x) (grp.L-c g once wf known tells d may up l1 l2 before 0 kind q alone x in_x over_x ∙ types-c)

  abbrev all-known : (y : Node) → In y g.boxes → list_all is_known (types_at g.boxes y.id) ≡ true
  all-known = grp.all-known g once wf known tells d may up l1 l2 before 0 kind q alone x in_x over_x

  known-m : list_all is_known M ≡ true
  known-m = all-known m may.in_m

  known-c : list_all is_known C ≡ true
  known-c = ap (list_all is_known) (sym types-c) ∙ all-known c may.in_c

  long-m : length M ≡ width m
  long-m = wide-types g.boxes g.root w m may.in_m

  long-x : length X ≡ width x
  long-x = wide-types g.boxes g.root w x in_x

  seen-m : is_permit m.parts.distinct ≡ false
  seen-m = grp.seen-m g once wf known tells d may up l1 l2 before 0 kind q alone x in_x over_x

  -- the owner of an S quantifier stood before
  scalar-old : (b : ℕ) → is_scalar hs b ≡ true → (y : Node) × ((s : OwnedQuant) × (In y g.boxes × (((y.id == d.id) ≡ false) × (In s y.quants × ((s.over ≡ b) × (is_S s.kind ≡ true))))))
  scalar-old b h =
      let y = any-in (λ (y : Node). is_scalar_in y.quants b) hs h in
      let s = any-in (λ (s : OwnedQuant). (s.over == b) && is_S s.kind) y.0.quants y.1.1 in
      let z = and_parts (s.0.over == b) (is_S s.0.kind) s.1.1 in
      elim (each-in y.0 y.1.0) [
        | inl e ↦ absurd (elim (subst (λ (z : Node). In s.0 z.quants) e s.1.0) [ inl u ↦ not-s s.0 r.id o u z.1 | inr u ↦ elim u [ ] ])
        | inr e ↦ elim e [
          | inl e ↦ absurd (elim (subst (λ (z : Node). In s.0 z.quants) e s.1.0) [ inl u ↦ not-s s.0 om m.id u z.1 | inr u ↦ elim u [ inl u ↦ not-s s.0 oc n u z.1 | inr u ↦ elim u [ ] ] ])
          | inr e ↦ elim e [
            | inl e ↦ absurd (elim (subst (λ (z : Node). In s.0 z.quants) e s.1.0) [ inl u ↦ not-s s.0 p c.id u z.1 | inr u ↦ elim u [ ] ])
            | inr e ↦ elim e [
              | inl e ↦ absurd (elim (subst (λ (z : Node). In s.0 z.quants) e s.1.0) [ inl u ↦ not-s s.0 a.id m.id u z.1 | inr u ↦ elim u [ inl u ↦ not-s s.0 q.id x.id u z.1 | inr u ↦ elim u [ ] ] ])
              | inr e ↦ (y.0, (s.0, (e.0, (e.1.0, (s.1.0, (eqb-true s.0.over b z.0, z.1))))))
            ]
          ]
        ]
      ]
    where
      not-s : (s : OwnedQuant) (i b : ℕ) → range i F b ≡ s → is_S s.kind ≡ true → ⊥
      not-s s i b e h = let z : is_S F ≡ true = subst (λ (z : OwnedQuant). is_S z.kind ≡ true) (sym e) h in let u : ⊥ = cc in u

  scalar-new : (b : ℕ) → has_box g.boxes b ≡ false → is_scalar hs b ≡ true → ⊥
  scalar-new b f h = let y = scalar-old b h in clash (has_box g.boxes b) (subst (λ z. has_box g.boxes z ≡ true) y.1.1.1.1.1.0 (overs-held g.boxes y.0 y.1.0 w.ordered y.1.1.0 y.1.1.1.1.0)) f

  scalar-c : is_scalar hs c.id ≡ true → ⊥
  scalar-c h = let y = scalar-old c.id h in clash (y.1.0.over == c.id) (eq-eqb y.1.0.over c.id y.1.1.1.1.1.0) (elsewhere y.0 y.1.0 y.1.1.0 y.1.1.1.0 y.1.1.1.1.0)

  module _ (v : Sound hs g.root) where
    fed-form : HasForm hs g.root T c'
    fed-form = pair-form hs look c.id a.id q.id Fed m x pair g.root v T
        (T-c ∙ ap₂ (λ (y z : List (Option SqlType)). y ++ z) (sym (T-old m may.in_m m-not-c)) (sym (T-old x in_x x-not-c)))
        (ap length (T-old m may.in_m m-not-c) ∙ long-m) (ap length (T-old x in_x x-not-c) ∙ long-x)
        (ap (list_all is_known) (T-old m may.in_m m-not-c) ∙ known-m) (ap (list_all is_known) (T-old x in_x x-not-c) ∙ all-known x in_x)
        seen-m (grp.seen-x g once wf known tells d may up l1 l2 before 0 kind q alone x in_x over_x) (λ h. absurd (scalar-c h))
        (inr (refl, not-root, (fed.magic-m g once wf known tells d may, (looks-x a.id ∙ grp.x-open g once wf known tells d may up l1 l2 before 0 kind q alone x in_x over_x, λ i h. grp.x-alone g once wf known tells d may up l1 l2 before 0 kind q alone x in_x over_x i (sym (looks-x i) ∙ h)))))
      where
        looks-x : (i : ℕ) → loose hs x.id i ≡ loose g.boxes x.id i
        looks-x i = looks-after x.id i (in-has x hs in-x) ∙ ap (λ b. not b && loose g.boxes x.id i) x-not-c

        not-root : (c.id == g.root) ≡ false
        not-root = elim (cases_Bool (c.id == g.root)) [
          | inr f ↦ f
          | inl e ↦ absurd (let y = w.top in let u = fed.used-c g once wf known tells d may in let z : times c.id (overs_in g.boxes) ≡ 0 = subst (λ b. times b (overs_in g.boxes) ≡ 0) (sym (eqb-true c.id g.root e)) y in omega (arith, u, z))
        ]

    groups-form : HasForm hs g.root T n'
    groups-form = keyed-form hs look n 0 q.id p (width m) (width x) c.parts.head c' head keyed_is g.root v T L M X T-c long-m long-x (grp.L-x g once wf known tells d may up l1 l2 before 0 kind q alone x in_x over_x) T-n
        (ap (list_all is_known) T-n ∙ all-joined is_known M C known-m known-c) (grp.folds-c g once wf known tells d may up l1 l2 before 0 kind q alone x in_x over_x) refl (λ h. absurd (scalar-new n new.n_new h))

    outer-form : HasForm hs g.root T o'
    outer-form = joined-form hs look o om oc (length c.parts.head) m n' joined_is g.root v T M C (T-old m may.in_m m-not-c) T-n long-m (length-map (term_type L) c.parts.head) T-o known-m known-c seen-m refl (λ h. absurd (scalar-new o new.o_new h))

    count-form : HasForm hs g.root T d'
    count-form = counted-form hs look d.id r.id (width m) c.parts.head o' over g.root v T L M T-o long-m T-d known-m known-c refl (λ h. (
        let y = scalar-old d.id h in
        subst (λ z. nat_lt 0 z ≡ true) (sym width-d) (scalar-column g.boxes g.root ty sh y.0 d y.1.0 y.1.1.0 y.1.1.1.1.0 y.1.1.1.1.1.1 may.in_d (sym y.1.1.1.1.1.0))))

  -- the check finds nothing after it
  pub whole-formed : (h : QueryGraph) → h.boxes ≡ hs → h.root ≡ g.root → fault h ≡ None
  whole-formed h e z = rebuilt-formed g h kept look fresh T once ((finds-none g once).1 wf) z
      (subst (λ (y : List Node). Rebuilds g.boxes y g.root kept look fresh) (sym e) rebuilds)
      (λ u i y. T-old u i (not-true (u.id == c.id) y))
      (λ y i v f. subst (λ (z : List Node). HasForm z g.root T y) (sym e) (form y (subst (λ (z : List Node). In y z) e i) (subst (λ (z : List Node). Sound z g.root) e v) f))
    where
      form : (y : Node) → In y hs → Sound hs g.root → fresh y.id ≡ true → HasForm hs g.root T y
      form y i v f = elim (new-box y i f) [
        | inl z ↦ subst (λ (z : Node). HasForm hs g.root T z) (sym z) (count-form v)
        | inr z ↦ elim z [
          | inl z ↦ subst (λ (z : Node). HasForm hs g.root T z) (sym z) (outer-form v)
          | inr z ↦ elim z [ inl z ↦ subst (λ (z : Node). HasForm hs g.root T z) (sym z) (groups-form v) | inr z ↦ subst (λ (z : Node). HasForm hs g.root T z) (sym z) (fed-form v) ]
        ]
      ]
