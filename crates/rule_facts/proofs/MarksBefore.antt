-- What the root reaches may be marked before an edit that keeps what boxes range over.
use Rattle.std.proofs.Common.{ℕ, ◌==◌, ◌≡◌, ◌||◌, cond, Bool, true, false, List, [], ◌∷◌, ◌++◌, filter, map, refl, sym, ap, ap₂, ◌∙◌, inl, inr}
use mathlib.Core.Path.{fun_ext}
use Rattle.qgm_core.specs.Boxes.{QueryGraph, is_box, overs_of}
use Rattle.qgm_core.specs.Edits.{compact, keep, on_boxes, set_distinct, with_distinct}
use Rattle.qgm_core.specs.Free.{marked, reached}
use Rattle.list_laws.specs.Lists.{In, change, holds}
use Rattle.qgm_core.specs.declared.kinds.Distinct.{Distinct}
use Rattle.qgm_core.specs.declared.node.Node.{Node}

reached-same : (b : ℕ) (d : Distinct) (marks : List ℕ) (ns : List Node) → reached marks (change (is_box b) (with_distinct d) ns) ≡ reached marks ns
reached-same b d marks [] = refl
reached-same b d marks (n ∷ ns) = elim (n.id == b) as (λ t. reached marks (cond t (with_distinct d n ∷ ns) (n ∷ change (is_box b) (with_distinct d) ns)) ≡ reached (marked marks n) ns) [
  | true ↦ refl
  | false ↦ reached-same b d (marked marks n) ns
]

pub put_kept : (g : QueryGraph) (b : ℕ) (d : Distinct) → keep (reached (g.root ∷ []) g.boxes) (set_distinct b d g) ≡ compact (set_distinct b d g)
put_kept g b d = ap (λ marks. keep marks (set_distinct b d g)) (sym (reached-same b d (g.root ∷ []) g.boxes))

-- ---- and where boxes are changed that keep what they range over

holds-append : (x : ℕ) (a b : List ℕ) → holds x (a ++ b) ≡ (holds x a || holds x b)
holds-append x [] b = refl
holds-append x (y ∷ a) b = elim (y == x) as (λ t. (t || holds x (a ++ b)) ≡ ((t || holds x a) || holds x b)) [ true ↦ refl | false ↦ holds-append x a b ]

module _ (f : Node → Node) (same : (y : Node) → (f y).id ≡ y.id) where
  reached-like : (ns : List Node) → ((y : Node) → In y ns → (x : ℕ) → holds x (overs_of (f y)) ≡ holds x (overs_of y)) → (a b : List ℕ) → ((x : ℕ) → holds x a ≡ holds x b) → (x : ℕ) → holds x (reached a (map f ns)) ≡ holds x (reached b ns)
  reached-like [] overs a b h x = h x
  reached-like (n ∷ ns) overs a b h x = reached-like ns (λ y i. overs y (inr i)) (marked a (f n)) (marked b n) step x
    where
      step : (x : ℕ) → holds x (marked a (f n)) ≡ holds x (marked b n)
      step x =
          ap (λ t. holds x (cond t (a ++ overs_of (f n)) a)) (ap (λ z. holds z a) (same n) ∙ h n.id)
          ∙ elim (holds n.id b) as (λ t. holds x (cond t (a ++ overs_of (f n)) a) ≡ holds x (cond t (b ++ overs_of n) b)) [
            | true ↦ holds-append x a (overs_of (f n)) ∙ ap₂ (λ s t. s || t) (h x) (overs n (inl refl) x) ∙ sym (holds-append x b (overs_of n))
            | false ↦ h x
          ]

  -- the marks may be taken before
  pub changed_kept : (g : QueryGraph) → ((y : Node) → In y g.boxes → (x : ℕ) → holds x (overs_of (f y)) ≡ holds x (overs_of y)) → keep (reached (g.root ∷ []) g.boxes) (on_boxes (map f) g) ≡ compact (on_boxes (map f) g)
  changed_kept g overs = ap (λ (t : ℕ → Bool). on_boxes (λ boxes. filter (λ n. t n.id) boxes) (on_boxes (map f) g)) (sym (fun_ext (λ x. reached-like g.boxes overs (g.root ∷ []) (g.root ∷ []) (λ x. refl) x)))
