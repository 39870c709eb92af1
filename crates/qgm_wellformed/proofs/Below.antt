-- What is found free is free.
use Rattle.std.proofs.Common.{ℕ, ◌≡◌, ◌&&◌, cond, not, Bool, true, false, List, [], ◌∷◌, filter, refl, sym, ap, subst, inl, inr, ◌↔◌}
use Rattle.std.specs.List.{flat_map}
use Rattle.std.proofs.lemmas.Bool.{not-true}
use Rattle.qgm_core.specs.Boxes.{Ordered, owns}
use Rattle.qgm_core.specs.Free.{IsFree, free_in, is_owned, named_by, named_where, reached}
use Rattle.list_laws.specs.Lists.{In, holds}
use Rattle.qgm_core.specs.declared.node.Node.{Node}
use Rattle.qgm_core.proofs.Reaching.{reached-reaches}
use Rattle.list_laws.proofs.Membership.{any-none, any-not, filter-in, flat-in, holds-in, in-filter, in-flat, in-holds}
use Rattle.qgm_core.proofs.PutOnce.{each-in, in-each}

module _ (bs : List Node) where
  -- ---- free

  in-where : (marks : List ℕ) (n : Node) (q : ℕ) → In q (named_where marks n) → (holds n.id marks ≡ true) × (holds q (named_by n) ≡ true)
  in-where marks n q i = elim (holds n.id marks) as (λ t. holds n.id marks ≡ t → In q (cond t (named_by n) []) → (holds n.id marks ≡ true) × (holds q (named_by n) ≡ true)) [
    | true ↦ λ t i. (t, in-holds q (named_by n) i)
    | false ↦ λ t i. elim i [ ]
  ] refl i

  where-in : (marks : List ℕ) (n : Node) (q : ℕ) → holds n.id marks ≡ true → holds q (named_by n) ≡ true → In q (named_where marks n)
  where-in marks n q t h = subst (λ b. In q (cond b (named_by n) [])) (sym t) (holds-in q (named_by n) h)

  and-right : (a b : Bool) → a ≡ true → (a && b) ≡ false → b ≡ false
  and-right true b t h = h
  and-right false b t h = absurd (let z : ⊥ = cc in z)

  and-no : (a b : Bool) → (a ≡ true → b ≡ false) → (a && b) ≡ false
  and-no true b h = h refl
  and-no false b h = refl

  free-is : Ordered bs → (b q : ℕ) → holds q (free_in bs b) ≡ true → IsFree bs b q
  free-is o b q h = elim (in-each q [] (filter (λ q. not (is_owned marks bs q)) (flat_map (named_where marks) bs)) (holds-in q (free_in bs b) h)) [
    | inl z ↦ elim z [ ]
    | inr i ↦ (
        let f = in-filter (λ q. not (is_owned marks bs q)) q (flat_map (named_where marks) bs) i in
        let x = in-flat (named_where marks) q bs f.0 in
        let w = in-where marks x.0 q x.1.1 in
        ((x.0, (x.1.0, ((reached-reaches bs o b x.0.id).0 w.0, w.1))), λ n j r. and-right (holds n.id marks) (owns q n) ((reached-reaches bs o b n.id).1 r) (any-none (λ n. holds n.id marks && owns q n) n bs (not-true (is_owned marks bs q) f.1) j)))
  ]
    where
      marks : List ℕ
      marks = reached (b ∷ []) bs

  is-free : Ordered bs → (b q : ℕ) → IsFree bs b q → holds q (free_in bs b) ≡ true
  is-free o b q f =
      in-holds q (free_in bs b)
      (each-in q [] (filter (λ q. not (is_owned marks bs q)) (flat_map (named_where marks) bs)) (inr
      (filter-in (λ q. not (is_owned marks bs q)) q (flat_map (named_where marks) bs)
      (flat-in (named_where marks) f.0.0 q bs f.0.1.0 (where-in marks f.0.0 q ((reached-reaches bs o b f.0.0.id).1 f.0.1.1.0) f.0.1.1.1))
      (ap not (any-not (λ n. holds n.id marks && owns q n) bs (λ n i. and-no (holds n.id marks) (owns q n) (λ t. f.1 n i ((reached-reaches bs o b n.id).0 t))))))))
    where
      marks : List ℕ
      marks = reached (b ∷ []) bs

  pub free-free : Ordered bs → (b q : ℕ) → (holds q (free_in bs b) ≡ true) ↔ IsFree bs b q
  free-free o b q = (free-is o b q, is-free o b q)
