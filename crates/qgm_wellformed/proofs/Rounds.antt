-- A box that is added and that nothing ranges over goes with the boxes that the root doesn't reach.
use Rattle.std.proofs.Common.{ℕ, ◌≡◌, cond, Bool, true, false, List, [], ◌∷◌, ◌++◌, filter, Option, Some, None, refl, ap, subst, ◌∙◌, inl, inr}
use Rattle.std.proofs.lemmas.Bool.{cases_Bool}
use Rattle.qgm_core.specs.Boxes.{HasBox, Ordered, QueryGraph, bare_box, is_box, put_at}
use Rattle.qgm_core.specs.Edits.{compact, with_box}
use Rattle.qgm_core.specs.Free.{Reaches, marked, reached}
use Rattle.list_laws.specs.Lists.{In, holds, put_below}
use Rattle.qgm_core.specs.declared.node.Node.{Node}
use Rattle.qgm_core.specs.declared.parts.BoxParts.{BoxParts}
use Rattle.qgm_core.proofs.Reaching.{come, overs-held, reached-reaches}
use Rattle.list_laws.proofs.Membership.{holds-in}

append-none : (xs : List ℕ) → xs ++ [] ≡ xs
append-none [] = refl
append-none (x ∷ xs) = ap (λ (t : List ℕ). x ∷ t) (append-none xs)

module _ (b : ℕ) (parts : BoxParts) where
  abbrev bare : Node
  bare = bare_box b parts

  bare-marked : (marks : List ℕ) → marked marks bare ≡ marks
  bare-marked marks = elim (holds b marks) as (λ t. cond t (marks ++ []) marks ≡ marks) [ true ↦ append-none marks | false ↦ refl ]

  reached-last : (marks : List ℕ) (ns : List Node) → reached marks (ns ++ bare ∷ []) ≡ reached marks ns
  reached-last marks [] = bare-marked marks
  reached-last marks (n ∷ ns) = reached-last (marked marks n) ns

  reached-below : (p : Node → Bool) (marks : List ℕ) (ns : List Node) → reached marks (put_below p bare ns) ≡ reached marks ns
  reached-below p marks [] = bare-marked marks
  reached-below p marks (n ∷ ns) = elim (p n) as (λ t. reached marks (cond t (n ∷ (bare ∷ ns)) (n ∷ put_below p bare ns)) ≡ reached marks (n ∷ ns)) [
    | true ↦ ap (λ (ms : List ℕ). reached ms ns) (bare-marked (marked marks n))
    | false ↦ reached-below p (marked marks n) ns
  ]

  reached-at : (below : Option ℕ) (marks : List ℕ) (ns : List Node) → reached marks (put_at below bare ns) ≡ reached marks ns
  reached-at None marks ns = reached-last marks ns
  reached-at (Some c) marks ns = reached-below (is_box c) marks ns

  module _ (keep : ℕ → Bool) (out : keep b ≡ false) where
    abbrev kept : List Node → List Node
    kept ns = filter (λ n. keep n.id) ns

    drop-bare : (ns : List Node) → kept (bare ∷ ns) ≡ kept ns
    drop-bare ns = ap (λ (t : Bool). cond t (bare ∷ kept ns) (kept ns)) out

    kept-last : (ns : List Node) → kept (ns ++ bare ∷ []) ≡ kept ns
    kept-last [] = drop-bare []
    kept-last (n ∷ ns) = ap (λ (t : List Node). cond (keep n.id) (n ∷ t) t) (kept-last ns)

    kept-below : (p : Node → Bool) (ns : List Node) → kept (put_below p bare ns) ≡ kept ns
    kept-below p [] = drop-bare []
    kept-below p (n ∷ ns) = elim (p n) as (λ t. kept (cond t (n ∷ (bare ∷ ns)) (n ∷ put_below p bare ns)) ≡ kept (n ∷ ns)) [
      | true ↦ ap (λ (t : List Node). cond (keep n.id) (n ∷ t) t) (drop-bare ns)
      | false ↦ ap (λ (t : List Node). cond (keep n.id) (n ∷ t) t) (kept-below p ns)
    ]

    kept-at : (below : Option ℕ) (ns : List Node) → kept (put_at below bare ns) ≡ kept ns
    kept-at None ns = kept-last ns
    kept-at (Some c) ns = kept-below (is_box c) ns

all-kept : (keep : ℕ → Bool) (ns : List Node) → ((n : Node) → In n ns → keep n.id ≡ true) → filter (λ n. keep n.id) ns ≡ ns
all-kept keep [] h = refl
all-kept keep (n ∷ ns) h = ap (λ (t : Bool). cond t (n ∷ filter (λ n. keep n.id) ns) (filter (λ n. keep n.id) ns)) (h n (inl refl)) ∙ ap (λ (t : List Node). n ∷ t) (all-kept keep ns (λ m i. h m (inr i)))

pub added-goes : (g : QueryGraph) → Ordered g.boxes → HasBox g.root g → ((n : Node) → In n g.boxes → Reaches g.boxes g.root n.id) → (below : Option ℕ) (b : ℕ) → (HasBox b g → ⊥) → (parts : BoxParts) → compact (with_box below (bare_box b parts) g) ≡ g
added-goes g o rooted all below b new parts =
    ap (λ (ns : List Node). made ns) (
    ap (λ (ms : List ℕ). filter (λ n. holds n.id ms) (put_at below (bare_box b parts) g.boxes)) (reached-at b parts below (g.root ∷ []) g.boxes)
    ∙ kept-at b parts (λ m. holds m marks) out below g.boxes
    ∙ all-kept (λ m. holds m marks) g.boxes (λ n i. (reached-reaches g.boxes o g.root n.id).1 (all n i)))
  where
    made : List Node → QueryGraph
    made ns = record g { boxes = ns }

    marks : List ℕ
    marks = reached (g.root ∷ []) g.boxes

    out : holds b marks ≡ false
    out = elim (cases_Bool (holds b marks)) [
      | inr f ↦ f
      | inl t ↦ absurd (elim (come b (g.root ∷ []) g.boxes (holds-in b marks t)) [
        | inl a ↦ elim a [ inl e ↦ new (subst (λ z. HasBox z g) e rooted) | inr z ↦ elim z [ ] ]
        | inr x ↦ new (subst (λ z. HasBox z g) x.1.1.1.1 (overs-held g.boxes x.0 x.1.1.0 o x.1.0 x.1.1.1.0))
      ])
    ]
