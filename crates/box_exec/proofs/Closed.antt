-- A box that the root reaches names no quantifier beyond itself exactly where none is free in it.
use Rattle.std.proofs.Common.{ℕ, ◌≡◌, ◌≤◌, ◌&&◌, ◌++◌, cond, not, Bool, true, false, ◌==◌, List, [], ◌∷◌, filter, refl, sym, ap, ap₂, subst, ◌∙◌, eqb-true, ◌⊎◌, inl, inr}
use Rattle.std.specs.List.{flat_map}
use Rattle.std.proofs.lemmas.Bool.{and_parts, cases_Bool, not-true}
use Rattle.qgm_core.specs.Boxes.{Ordered, QueryGraph, ids_of, is_quant, owns}
use Rattle.qgm_core.specs.Free.{Reaches, itself, through, free_in, is_owned, named_by, named_where, reached}
use Rattle.list_laws.specs.Lists.{In, holds, times}
use Rattle.qgm_core.specs.declared.node.Node.{Node}
use Rattle.qgm_core.specs.declared.owned.OwnedQuant.{OwnedQuant}
use Rattle.qgm_meaning.specs.Ranks.{SameUnder}
use Rattle.qgm_meaning.proofs.Ranked.{unfold-rank}
use Rattle.box_exec.specs.Beyond.{beyond, beyond_of}
use Rattle.box_exec.specs.Closed.{ClosedAlike, NamesBound}
use Rattle.box_exec.specs.Kept.{is_nil}
use Rattle.qgm_core.proofs.Reaching.{reached-reaches}
use Rattle.box_exec.proofs.Tails.{first-in, not-back}
use Rattle.list_laws.proofs.Membership.{any-in, any-none, filter-in, flat-in, in-append, in-filter, in-flat, in-left, in-right}
use Rattle.qgm_core.proofs.PutOnce.{each-in, in-each}
use Rattle.list_laws.proofs.Counting.{in-times, times-once}

same-lists : (f g : ℕ → List ℕ) (rs : List OwnedQuant) → SameUnder rs f g → flat_map (λ (r : OwnedQuant). f r.over) rs ≡ flat_map (λ (r : OwnedQuant). g r.over) rs
same-lists f g [] s = refl
same-lists f g (r ∷ rs) s = ap₂ (λ (x y : List ℕ). x ++ y) s.0 (same-lists f g rs s.1)

beyond-unfold : (bs : List Node) (n : Node) → Ordered bs → In n bs → beyond bs n.id ≡ beyond_of n (beyond bs)
beyond-unfold bs n o i = unfold-rank [] beyond_of (λ n f g s. ap (λ (xs : List ℕ). filter (λ q. not (owns q n)) (named_by n ++ xs)) (same-lists f g n.quants s)) bs n.id n o (first-in n bs o i)

-- what a box names, or what is named beyond a box under it, it names beyond itself unless it owns it
from-own : (bs : List Node) (n : Node) (q : ℕ) → Ordered bs → In n bs → owns q n ≡ false → In q (named_by n) → In q (beyond bs n.id)
from-own bs n q o i f h = subst (In q) (sym (beyond-unfold bs n o i)) (filter-in (λ q. not (owns q n)) q (named_by n ++ flat_map (λ r. beyond bs r.over) n.quants) (in-left q (named_by n) _ h) (ap not f))

from-under : (bs : List Node) (n : Node) (r : OwnedQuant) (q : ℕ) → Ordered bs → In n bs → In r n.quants → owns q n ≡ false → In q (beyond bs r.over) → In q (beyond bs n.id)
from-under bs n r q o i j f h =
    subst (In q) (sym (beyond-unfold bs n o i))
    (filter-in (λ q. not (owns q n)) q (named_by n ++ flat_map (λ r. beyond bs r.over) n.quants) (in-right q (named_by n) _ (flat-in (λ (r : OwnedQuant). beyond bs r.over) r q n.quants j h)) (ap not f))

module _ (bs : List Node) (q : ℕ) where
  -- what a box names and none that is reached owns
  free-beyond : Ordered bs → (b c : ℕ) → Reaches bs b c → (n : Node) → In n bs → n.id ≡ c → In q (named_by n) → ((m : Node) → In m bs → Reaches bs b m.id → owns q m ≡ false) → In q (beyond bs b)
  free-beyond o b c (itself x) n i e h none =
      subst (λ (z : ℕ). In q (beyond bs z)) e (from-own bs n q o i (none n i (subst (λ (z : ℕ). Reaches bs z n.id) e (itself n.id))) h)
  free-beyond o b c (through m r x j k down) n i e h none =
      from-under bs m r q o j k (none m j (itself m.id)) (free-beyond o r.over x down n i e h (λ l u v. none l u (through m r l.id j k v)))

  -- what is named beyond a box is named by one that it reaches
  beyond-named : (ns : List Node) → ((n : Node) → In n ns → In n bs) → (b : ℕ) → In q (beyond ns b) → (n : Node) × (In n bs × (Reaches bs b n.id × In q (named_by n)))
  beyond-named [] sub b h = elim h [ ]
  beyond-named (n ∷ ns) sub b h = elim (cases_Bool (n.id == b)) [
    | inr f ↦ beyond-named ns (λ m i. sub m (inr i)) b (subst (λ (t : Bool). In q (cond t (beyond_of n (beyond ns)) (beyond ns b))) f h)
    | inl t ↦ (
        let all = in-filter (λ q. not (owns q n)) q (named_by n ++ flat_map (λ r. beyond ns r.over) n.quants) (subst (λ (t : Bool). In q (cond t (beyond_of n (beyond ns)) (beyond ns b))) t h) in
        let same : n.id ≡ b = eqb-true n.id b t in
        elim (in-append q (named_by n) (flat_map (λ r. beyond ns r.over) n.quants) all.0) [
          | inl j ↦ (n, (sub n (inl refl), (subst (λ (z : ℕ). Reaches bs z n.id) same (itself n.id), j)))
          | inr j ↦ (
              let x = in-flat (λ (r : OwnedQuant). beyond ns r.over) q n.quants j in
              let y = beyond-named ns (λ m i. sub m (inr i)) x.0.over x.1.1 in
              (y.0, (y.1.0, (subst (λ (z : ℕ). Reaches bs z y.0.id) same (through n x.0 y.0.id (sub n (inl refl)) x.1.0 y.1.1.0), y.1.1.1))))
        ])
  ]

  abbrev OwnedAbove : ℕ → Type 0
  OwnedAbove b = (n : Node) × (In n bs × ((owns q n ≡ true) × ((r : OwnedQuant) × (In r n.quants × Reaches bs r.over b))))

  -- it is named beyond a box above, or owned above
  beyond-up : Ordered bs → (c b : ℕ) → Reaches bs c b → In q (beyond bs b) → In q (beyond bs c) ⊎ OwnedAbove b
  beyond-up o c b (itself x) h = inl h
  beyond-up o c b (through n r x i j down) h = elim (beyond-up o r.over x down h) [
    | inr y ↦ inr y
    | inl y ↦ elim (cases_Bool (owns q n)) [
      | inl t ↦ inr (n, (i, (t, (r, (j, down)))))
      | inr f ↦ inl (from-under bs n r q o i j f y)
    ]
  ]

  -- what a box names that is reached is free, or owned by one that is reached
  named-free : Ordered bs → (b : ℕ) (n : Node) → In n bs → Reaches bs b n.id → In q (named_by n) → In q (free_in bs b) ⊎ ((m : Node) × (In m bs × (Reaches bs b m.id × (owns q m ≡ true))))
  named-free o b n i down h = elim (cases_Bool (is_owned marks bs q)) [
    | inl t ↦ (
        let x = any-in (λ n. holds n.id marks && owns q n) bs t in
        let y = and_parts (holds x.0.id marks) (owns q x.0) x.1.1 in
        inr (x.0, (x.1.0, ((reached-reaches bs o b x.0.id).0 y.0, y.1))))
    | inr f ↦ inl
        (each-in q [] (filter (λ q. not (is_owned marks bs q)) (flat_map (named_where marks) bs)) (inr
        (filter-in (λ q. not (is_owned marks bs q)) q (flat_map (named_where marks) bs)
        (flat-in (named_where marks) n q bs i (subst (λ (t : Bool). In q (cond t (named_by n) [])) (sym ((reached-reaches bs o b n.id).1 down)) h))
        (ap not f))))
  ]
    where
      marks : List ℕ
      marks = reached (b ∷ []) bs

  and-right : (a b : Bool) → a ≡ true → (a && b) ≡ false → b ≡ false
  and-right true b t h = h
  and-right false b t h = absurd (let z : ⊥ = cc in z)

  in-where : (marks : List ℕ) (n : Node) → In q (named_where marks n) → (holds n.id marks ≡ true) × In q (named_by n)
  in-where marks n i = elim (holds n.id marks) as (λ t. holds n.id marks ≡ t → In q (cond t (named_by n) []) → (holds n.id marks ≡ true) × In q (named_by n)) [
    | true ↦ λ t i. (t, i)
    | false ↦ λ t i. elim i [ ]
  ] refl i

  -- what is free in a box is named beyond it
  free-named : Ordered bs → (b : ℕ) → In q (free_in bs b) → In q (beyond bs b)
  free-named o b h = elim (in-each q [] (filter (λ q. not (is_owned marks bs q)) (flat_map (named_where marks) bs)) h) [
    | inl z ↦ elim z [ ]
    | inr i ↦ (
        let f = in-filter (λ q. not (is_owned marks bs q)) q (flat_map (named_where marks) bs) i in
        let x = in-flat (named_where marks) q bs f.0 in
        let w = in-where marks x.0 x.1.1 in
        free-beyond o b x.0.id ((reached-reaches bs o b x.0.id).0 w.0) x.0 x.1.0 refl w.1 (λ n j r. and-right (holds n.id marks) (owns q n) ((reached-reaches bs o b n.id).1 r) (any-none (λ n. holds n.id marks && owns q n) n bs (not-true (is_owned marks bs q) f.1) j)))
  ]
    where
      marks : List ℕ
      marks = reached (b ∷ []) bs

owned-times : (q : ℕ) (n : Node) → owns q n ≡ true → 1 ≤ times q (ids_of n)
owned-times q n h = let x = any-in (is_quant q) n.quants h in subst (λ z. 1 ≤ times z (ids_of n)) (eqb-true x.0.id q x.1.1) (in-times (λ (r : OwnedQuant). r.id) x.0 n.quants x.1.0)

-- what is named beyond a box that the root reaches is free in it
named-is-free : (g : QueryGraph) → NamesBound g → (b q : ℕ) → Reaches g.boxes g.root b → In q (beyond g.boxes b) → In q (free_in g.boxes b)
named-is-free g w b q down h =
    let x = beyond-named g.boxes q g.boxes (λ n i. i) b h in
    elim (named-free g.boxes q w.ordered b x.0 x.1.0 x.1.1.0 x.1.1.1) [
      | inl f ↦ f
      | inr m ↦ elim (beyond-up g.boxes q w.ordered g.root b down h) [
        | inl t ↦ absurd (nothing (subst (In q) w.top t))
        | inr n ↦ absurd (
            let same : n.0 ≡ m.0 = times-once ids_of q n.0 m.0 g.boxes (w.once q) n.1.0 m.1.0 (owned-times q n.0 n.1.1.0) (owned-times q m.0 m.1.1.1) in
            not-back g.boxes w.ordered n.0 n.1.1.1.0 b n.1.0 n.1.1.1.1.0 n.1.1.1.1.1 (subst (λ (z : Node). Reaches g.boxes b z.id) (sym same) m.1.1.0))
      ]
    ]
  where
    nothing : In q [] → ⊥
    nothing i = elim i [ ]

none-of : (xs ys : List ℕ) → ((q : ℕ) → In q xs → In q ys) → ys ≡ [] → xs ≡ []
none-of [] ys h e = refl
none-of (x ∷ xs) ys h e = absurd (nothing (subst (In x) e (h x (inl refl))))
  where
    nothing : In x [] → ⊥
    nothing i = elim i [ ]

pub closed-alike : ClosedAlike
closed-alike g w b down = (
  none-of (free_in g.boxes b) (beyond g.boxes b) (λ q i. free-named g.boxes q w.ordered b i),
  none-of (beyond g.boxes b) (free_in g.boxes b) (λ q i. named-is-free g w b q down i),
)

nil-none : (xs : List ℕ) → is_nil xs ≡ true → xs ≡ []
nil-none [] h = refl
nil-none (x ∷ xs) h = absurd (let z : ⊥ = cc in z)

pub nil-alike : (g : QueryGraph) → NamesBound g → (b : ℕ) → Reaches g.boxes g.root b → is_nil (beyond g.boxes b) ≡ is_nil (free_in g.boxes b)
nil-alike g w b down =
    let both = closed-alike g w b down in
    elim (cases_Bool (is_nil (beyond g.boxes b))) [
      | inl t ↦ t ∙ sym (ap is_nil (both.0 (nil-none (beyond g.boxes b) t)))
      | inr f ↦ elim (cases_Bool (is_nil (free_in g.boxes b))) [
        | inr k ↦ f ∙ sym k
        | inl k ↦ ap is_nil (both.1 (nil-none (free_in g.boxes b) k)) ∙ sym k
      ]
    ]
