-- How what a box looks up changes with what it reads and with what is looked up below it.
use Rattle.std.proofs.Common.{ℕ, ◌==◌, ◌≡◌, ◌&&◌, ◌||◌, cond, Bool, true, false, List, [], ◌∷◌, ◌++◌, take, Some, refl, ap, subst, ◌⊎◌, inl, inr}
use Rattle.std.specs.List.{list_any}
use Rattle.std.proofs.lemmas.Bool.{and_from, and_parts, not-true, or_cases, or_from, or_left, or_right}
use Rattle.qgm_core.specs.declared.node.Node.{Node}
use Rattle.qgm_core.specs.declared.owned.OwnedQuant.{OwnedQuant}
use Rattle.qgm_core.specs.declared.kinds.BoxKind.{BoxKind}
use Rattle.qgm_core.specs.declared.kinds.BoxKind.TheVariants.{Base, Select, Group, SetOp, OuterJoin}
use Rattle.list_laws.specs.Lists.{first, In}
use Rattle.qgm_core.specs.Kinds.{is_F}
use Rattle.qgm_core.specs.Boxes.{is_quant}
use Rattle.qgm_meaning.specs.Scope.{loose_by, loose_each, looks_found, quant_looks, read_beyond, read_by, under_any}
use Rattle.qgm_edit_laws.specs.Graph.{binds_row}
use Rattle.std.specs.Prelude as p

-- A comes beside all that was looked up; else X
module _ (A X : Type 0) (u v : ℕ → ℕ → Bool) (q : ℕ) where
  abbrev pub Was : Bool → Type 0
  Was b = ((b ≡ true) × A) ⊎ X

  either : (a b a' b' : Bool) → (a || b) ≡ true → (a ≡ true → Was a') → (b ≡ true → Was b') → Was (a' || b')
  either a b a' b' t h k = elim (or_cases a b t) [
    | inl i ↦ elim (h i) [ inl z ↦ inl (or_left a' b' z.0, z.1) | inr x ↦ inr x ]
    | inr i ↦ elim (k i) [ inl z ↦ inl (or_right a' b' z.0, z.1) | inr x ↦ inr x ]
  ]

  beyond : (a b b' : Bool) → (a && b) ≡ true → (b ≡ true → Was b') → Was (a && b')
  beyond a b b' t k = let n = and_parts a b t in elim (k n.1) [ inl z ↦ inl (and_from a b' n.0 z.0, z.1) | inr x ↦ inr x ]

  abbrev Below : List OwnedQuant → Type 0
  Below rs = (r : OwnedQuant) → In r rs → u r.over q ≡ true → Was (v r.over q)

  under-was : (rs : List OwnedQuant) → Below rs → under_any rs u q ≡ true → Was (under_any rs v q)
  under-was [] h t = absurd (let z : ⊥ = cc in z)
  under-was (r ∷ rs) h t = either (u r.over q) (under_any rs u q) (v r.over q) (under_any rs v q) t (h r (inl refl)) (under-was rs (λ s i. h s (inr i)))

  found-was : (x : ℕ) (rs : List OwnedQuant) → Below rs → looks_found (first (is_quant x) rs) u q ≡ true → Was (looks_found (first (is_quant x) rs) v q)
  found-was x [] h t = absurd (let z : ⊥ = cc in z)
  found-was x (r ∷ rs) h t = elim (r.id == x) as (λ b. looks_found (cond b (Some r) (first (is_quant x) rs)) u q ≡ true → Was (looks_found (cond b (Some r) (first (is_quant x) rs)) v q)) [
    | true ↦ λ t. h r (inl refl) t
    | false ↦ λ t. found-was x rs (λ s i. h s (inr i)) t
  ] t

  module _ (n n' : Node) (same : n'.quants ≡ n.quants) (reads : read_by n' q ≡ true → Was (read_by n q)) (below : Below n.quants) where
    under-now : under_any n'.quants u q ≡ true → Was (under_any n.quants v q)
    under-now t = under-was n.quants below (subst (λ rs. under_any rs u q ≡ true) same t)

    each-was : (rs : List OwnedQuant) → loose_each rs n' u q ≡ true → Was (loose_each rs n v q)
    each-was [] t = either (read_by n' q) (under_any n'.quants u q) (read_by n q) (under_any n.quants v q) t reads under-now
    each-was (r ∷ rs) t = elim (is_F r.kind) as (λ f. cond f (quant_looks n' u r.id q || (p.not (r.id == q) && loose_each rs n' u q)) (loose_each rs n' u q) ≡ true → Was (cond f (quant_looks n v r.id q || (p.not (r.id == q) && loose_each rs n v q)) (loose_each rs n v q))) [
      | true ↦ λ t. either (quant_looks n' u r.id q) (p.not (r.id == q) && loose_each rs n' u q) (quant_looks n v r.id q) (p.not (r.id == q) && loose_each rs n v q) t
          (λ s. found-was r.id n.quants below (subst (λ xs. looks_found (first (is_quant r.id) xs) u q ≡ true) same s))
          (λ s. beyond (p.not (r.id == q)) (loose_each rs n' u q) (loose_each rs n v q) s (each-was rs))
      | false ↦ λ t. each-was rs t
    ] t

    apart-was : (k : ℕ) → read_beyond (take k n'.quants) (read_by n') q ≡ true → Was (read_beyond (take k n.quants) (read_by n) q)
    apart-was k t = beyond (p.not (list_any (is_quant q) (take k n.quants))) (read_by n' q) (read_by n q) (subst (λ rs. (p.not (list_any (is_quant q) (take k rs)) && read_by n' q) ≡ true) same t) reads

    pub loose-was : (k : BoxKind) → loose_by k n' u q ≡ true → Was (loose_by k n v q)
    loose-was (Base name) t = absurd (let z : ⊥ = cc in z)
    loose-was Select t = each-was n.quants (subst (λ rs. loose_each rs n' u q ≡ true) same t)
    loose-was (Group k) t = either (under_any n'.quants u q) (read_beyond (take 1 n'.quants) (read_by n') q) (under_any n.quants v q) (read_beyond (take 1 n.quants) (read_by n) q) t under-now (apart-was 1)
    loose-was (SetOp form w) t = under-now t
    loose-was OuterJoin t = either (under_any n'.quants u q) (read_beyond (take 2 n'.quants) (read_by n') q) (under_any n.quants v q) (read_beyond (take 2 n.quants) (read_by n) q) t under-now (apart-was 2)

-- what is looked up in turn: at the turn of one of these, or where these are bound
pub each-cases : (n : Node) (u : ℕ → ℕ → Bool) (q : ℕ) (xs ys : List OwnedQuant) → loose_each (xs ++ ys) n u q ≡ true
    → ((done : List OwnedQuant) × ((r : OwnedQuant) × ((rest : List OwnedQuant) × ((xs ≡ done ++ r ∷ rest) × ((is_F r.kind ≡ true) × ((binds_row q done ≡ false) × (quant_looks n u r.id q ≡ true))))))) ⊎ ((binds_row q xs ≡ false) × (loose_each ys n u q ≡ true))
each-cases n u q [] ys t = inr (refl, t)
each-cases n u q (x ∷ xs) ys t = elim (is_F x.kind) as (λ f. is_F x.kind ≡ f → cond f (quant_looks n u x.id q || (p.not (x.id == q) && loose_each (xs ++ ys) n u q)) (loose_each (xs ++ ys) n u q) ≡ true
    → ((done : List OwnedQuant) × ((r : OwnedQuant) × ((rest : List OwnedQuant) × ((x ∷ xs ≡ done ++ r ∷ rest) × ((is_F r.kind ≡ true) × ((binds_row q done ≡ false) × (quant_looks n u r.id q ≡ true))))))) ⊎ ((binds_row q (x ∷ xs) ≡ false) × (loose_each ys n u q ≡ true))) [
      | true ↦ λ f t. elim (or_cases (quant_looks n u x.id q) (p.not (x.id == q) && loose_each (xs ++ ys) n u q) t) [
        | inl a ↦ inl ([], (x, (xs, (refl, (f, (refl, a))))))
        | inr b ↦ (let e = and_parts (p.not (x.id == q)) (loose_each (xs ++ ys) n u q) b in onward (bound (is_F x.kind) (x.id == q) (not-true (x.id == q) e.0)) (each-cases n u q xs ys e.1))
      ]
      | false ↦ λ f t. onward (ap (λ b. b && (x.id == q)) f) (each-cases n u q xs ys t)
    ] refl t
  where
    bound : (a b : Bool) → b ≡ false → (a && b) ≡ false
    bound true b h = h
    bound false b h = refl

    onward : (is_F x.kind && (x.id == q)) ≡ false
        → ((done : List OwnedQuant) × ((r : OwnedQuant) × ((rest : List OwnedQuant) × ((xs ≡ done ++ r ∷ rest) × ((is_F r.kind ≡ true) × ((binds_row q done ≡ false) × (quant_looks n u r.id q ≡ true))))))) ⊎ ((binds_row q xs ≡ false) × (loose_each ys n u q ≡ true))
        → ((done : List OwnedQuant) × ((r : OwnedQuant) × ((rest : List OwnedQuant) × ((x ∷ xs ≡ done ++ r ∷ rest) × ((is_F r.kind ≡ true) × ((binds_row q done ≡ false) × (quant_looks n u r.id q ≡ true))))))) ⊎ ((binds_row q (x ∷ xs) ≡ false) × (loose_each ys n u q ≡ true))
    onward e z = elim z [
      | inl c ↦ inl (x ∷ c.0, (c.1.0, (c.1.1.0, (ap (λ l. x ∷ l) c.1.1.1.0, (c.1.1.1.1.0, (or_from (is_F x.kind && (x.id == q)) (binds_row q c.0) e c.1.1.1.1.1.0, c.1.1.1.1.1.1))))))
      | inr c ↦ inr (or_from (is_F x.kind && (x.id == q)) (binds_row q xs) e c.0, c.1)
    ]
