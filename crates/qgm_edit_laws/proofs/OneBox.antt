-- One box changed: where it stands, what is counted, and what it is called stay.
use Rattle.std.proofs.Common.{ℕ, suc, ◌==◌, ◌≡◌, ◌||◌, ◌<◌, cond, Bool, true, false, List, [], ◌∷◌, map, refl, sym, ap, ap₂, subst, ◌∙◌, eqb-true, inl, inr, arith}
use Rattle.std.specs.List.{list_any}
use Rattle.std.proofs.lemmas.Bool.{cases_Bool, eq-eqb, or_parts}
use Rattle.qgm_core.specs.declared.node.Node.{Node}
use Rattle.qgm_core.specs.declared.owned.OwnedQuant.{OwnedQuant}
use Rattle.qgm_core.specs.Boxes.{Ordered, has_box, is_box, is_quant, owns}
use Rattle.list_laws.specs.Lists.{In, change, holds}
use Rattle.qgm_edit_laws.specs.Placed.{Below, place}
pub use Rattle.qgm_edit_laws.specs.Adds.{at}
use Rattle.qgm_edit_laws.proofs.Edits.{OnceEach, once-each}
use Rattle.qgm_edit_laws.proofs.Ranks.{place-under}
use Rattle.qgm_core.proofs.Reaching.{in-has, overs-held}
use Rattle.list_laws.proofs.Membership.{all-from, any-from, any-in, eq-itself, in-map, map-in, other}
use Rattle.list_laws.proofs.Booleans.{clash}

-- ---- order

-- each quantifier ranges over a box below its owner
abbrev pub Ranked : List Node → Type 0
Ranked bs = (n : Node) (r : OwnedQuant) → In n bs → In r n.quants → Below bs n.id r.over

pub ranked : (bs : List Node) → Ordered bs → Ranked bs
ranked bs o n r i j = (overs-held bs n r o i j, place-under bs n r o i j)

not-top : (n : Node) (ns : List Node) (b : ℕ) → 0 < place (n ∷ ns) b → (n.id == b) ≡ false
not-top n ns b h = elim (cases_Bool (n.id == b)) [ inl t ↦ (let z : place (n ∷ ns) b ≡ 0 = ap (λ (t : Bool). cond t 0 (suc (place ns b))) t in absurd (omega arith)) | inr f ↦ f ]

behind : (n : Node) (ns : List Node) (b : ℕ) → has_box (n ∷ ns) b ≡ true → (n.id == b) ≡ false → has_box ns b ≡ true
behind n ns b h f = subst (λ (t : Bool). (t || has_box ns b) ≡ true) f h

pub ordered-from : (bs : List Node) → OnceEach bs → Ranked bs → Ordered bs
ordered-from [] o h = tt
ordered-from (n ∷ ns) o h = (o.0, all-from (λ r. has_box ns r.over) n.quants over, ordered-from ns o.1 lower)
  where
    top : place (n ∷ ns) n.id ≡ 0
    top = ap (λ (t : Bool). cond t 0 (suc (place ns n.id))) (eq-itself n.id)

    over : (r : OwnedQuant) → In r n.quants → has_box ns r.over ≡ true
    over r i = let x = h n r (inl refl) i in let less : place (n ∷ ns) n.id < place (n ∷ ns) r.over = x.1 in behind n ns r.over x.0 (not-top n ns r.over (omega arith))

    lower : Ranked ns
    lower y r i j =
        let x = h y r (inr i) j in
        let l : place (n ∷ ns) y.id < place (n ∷ ns) r.over = x.1 in
        let f : (n.id == r.over) ≡ false = not-top n ns r.over (omega arith) in
        let g : (n.id == y.id) ≡ false = other (has_box ns) n.id y.id o.0 (in-has y ns i) in
        let a : place (n ∷ ns) r.over ≡ suc (place ns r.over) = ap (λ (t : Bool). cond t 0 (suc (place ns r.over))) f in
        let b : place (n ∷ ns) y.id ≡ suc (place ns y.id) = ap (λ (t : Bool). cond t 0 (suc (place ns y.id))) g in
        (behind n ns r.over x.0 f, (omega arith))

pub has-map : (g : Node → Node) → ((y : Node) → (g y).id ≡ y.id) → (ns : List Node) (b : ℕ) → has_box (map g ns) b ≡ has_box ns b
has-map g same [] b = refl
has-map g same (n ∷ ns) b = ap₂ (λ x y. (x == b) || y) (same n) (has-map g same ns b)

pub place-map : (g : Node → Node) → ((y : Node) → (g y).id ≡ y.id) → (ns : List Node) (b : ℕ) → place (map g ns) b ≡ place ns b
place-map g same [] b = refl
place-map g same (n ∷ ns) b = ap₂ (λ x k. cond (x == b) 0 (suc k)) (same n) (place-map g same ns b)

pub once-map : (g : Node → Node) → ((y : Node) → (g y).id ≡ y.id) → (ns : List Node) → OnceEach ns → OnceEach (map g ns)
once-map g same [] o = tt
once-map g same (n ∷ ns) o = (has-map g same ns (g n).id ∙ ap (has_box ns) (same n) ∙ o.0, once-map g same ns o.1)

pub below-map : (g : Node → Node) → ((y : Node) → (g y).id ≡ y.id) → (ns : List Node) (b c : ℕ) → Below ns b c → Below (map g ns) b c
below-map g same ns b c h = (has-map g same ns c ∙ h.0, subst (λ z. z < place (map g ns) c) (sym (place-map g same ns b)) (subst (λ z. place ns b < z) (sym (place-map g same ns c)) h.1))

-- boxes changed, each where it stands
pub ordered-map : (g : Node → Node) → ((y : Node) → (g y).id ≡ y.id) → (ns : List Node) → Ordered ns → ((y : Node) (r : OwnedQuant) → In y ns → In r (g y).quants → Below ns y.id r.over) → Ordered (map g ns)
ordered-map g same ns o h = ordered-from (map g ns) (once-map g same ns (once-each ns o)) (λ n r i j. (
    let x = in-map g n ns i in
    let e : x.0.id ≡ n.id = sym (same x.0) ∙ ap (λ (z : Node). z.id) x.1.1 in
    below-map g same ns n.id r.over (subst (λ z. Below ns z r.over) e (h x.0 r x.1.0 (subst (λ (z : Node). In r z.quants) (sym x.1.1) j)))))

-- ---- one box changed

pub at-absent : (b : ℕ) (f : Node → Node) (ns : List Node) → has_box ns b ≡ false → map (at b f) ns ≡ ns
at-absent b f [] h = refl
at-absent b f (n ∷ ns) h = let x = or_parts (n.id == b) (has_box ns b) h in ap₂ (λ (t : Bool) (ms : List Node). cond t (f n) n ∷ ms) x.0 (at-absent b f ns x.1)

pub change-at : (b : ℕ) (f : Node → Node) (ns : List Node) → OnceEach ns → change (is_box b) f ns ≡ map (at b f) ns
change-at b f [] o = refl
change-at b f (n ∷ ns) o = elim (cases_Bool (n.id == b)) [
  | inl t ↦ ap (λ (t : Bool). cond t (f n ∷ ns) (n ∷ change (is_box b) f ns)) t
      ∙ ap (λ ms. f n ∷ ms) (sym (at-absent b f ns (subst (λ z. has_box ns z ≡ false) (eqb-true n.id b t) o.0)))
      ∙ sym (ap (λ (t : Bool). cond t (f n) n ∷ map (at b f) ns) t)
  | inr e ↦ ap (λ (t : Bool). cond t (f n ∷ ns) (n ∷ change (is_box b) f ns)) e ∙ ap (λ ms. n ∷ ms) (change-at b f ns o.1) ∙ sym (ap (λ (t : Bool). cond t (f n) n ∷ map (at b f) ns) e)
]

-- the owner of a quantifier is the box of its number
pub owner-at : (q : ℕ) (o : Node) (f : Node → Node) (ns : List Node) → OnceEach ns → In o ns → owns q o ≡ true → ((y : Node) → In y ns → owns q y ≡ true → y ≡ o) → change (owns q) f ns ≡ map (at o.id f) ns
owner-at q o f [] once i h u = refl
owner-at q o f (n ∷ ns) once i h u = elim (cases_Bool (owns q n)) [
  | inl t ↦ (
      let same : n ≡ o = u n (inl refl) t in
      let e : (n.id == o.id) ≡ true = eq-eqb n.id o.id (ap (λ (z : Node). z.id) same) in
      ap (λ (t : Bool). cond t (f n ∷ ns) (n ∷ change (owns q) f ns)) t
      ∙ ap (λ ms. f n ∷ ms) (sym (at-absent o.id f ns (subst (λ (z : Node). has_box ns z.id ≡ false) same once.0)))
      ∙ sym (ap (λ (t : Bool). cond t (f n) n ∷ map (at o.id f) ns) e))
  | inr e ↦ elim i [
    | inl p ↦ absurd (clash (owns q o) h (subst (λ (z : Node). owns q z ≡ false) p e))
    | inr j ↦ (
        let d : (n.id == o.id) ≡ false = other (has_box ns) n.id o.id once.0 (in-has o ns j) in
        ap (λ (t : Bool). cond t (f n ∷ ns) (n ∷ change (owns q) f ns)) e ∙ ap (λ ms. n ∷ ms) (owner-at q o f ns once.1 j h (λ y k. u y (inr k))) ∙ sym (ap (λ (t : Bool). cond t (f n) n ∷ map (at o.id f) ns) d))
  ]
]

-- ---- who owns what

pub owns-ids : (q : ℕ) (rs : List OwnedQuant) → list_any (is_quant q) rs ≡ holds q (map (λ r. r.id) rs)
owns-ids q [] = refl
owns-ids q (r ∷ rs) = ap (λ z. (r.id == q) || z) (owns-ids q rs)

pub owned-map : (g : Node → Node) (q : ℕ) (ns : List Node) → ((y : Node) → In y ns → owns q y ≡ true → owns q (g y) ≡ true) → list_any (owns q) ns ≡ true → list_any (owns q) (map g ns) ≡ true
owned-map g q ns h t = let x = any-in (owns q) ns t in any-from (owns q) (g x.0) (map g ns) (map-in g x.0 ns x.1.0) (h x.0 x.1.0 x.1.1)
