-- Boxes that look up the same are open in both graphs or in none.
use Rattle.std.proofs.Common.{ℕ, ◌≡◌, true, List, [], ◌∷◌, sym, ◌∙◌, inl, inr}
use Rattle.std.proofs.lemmas.Bool.{cases_Bool}
use Rattle.list_laws.specs.Lists.{holds}
use Rattle.qgm_core.specs.Free.{free_in}
use Rattle.qgm_core.specs.declared.node.Node.{Node}
use Rattle.qgm_meaning.specs.Scope.{loose}
use Rattle.qgm_wellformed.specs.WellFormed.{is_empty}
use Rattle.qgm_wellformed.proofs.Below.{free-free}
use Rattle.qgm_edit_laws.specs.Graph.{Sound}
use Rattle.qgm_edit_laws.proofs.FreeLoose.{looks-free, open-looks}
use Rattle.qgm_props.specs.Calm.{is_closed}

none-held : (xs : List ℕ) (q : ℕ) → is_empty xs ≡ true → holds q xs ≡ true → ⊥
none-held [] q e h = let z : ⊥ = cc in z
none-held (x ∷ xs) q e h = let z : ⊥ = cc in z

module _ (bs hs : List Node) (root : ℕ) (w : Sound bs root) (v : Sound hs root) (b : ℕ) (same : (q : ℕ) → loose hs b q ≡ loose bs b q) where
  closed-not : (xs : List Node) → Sound xs root → (q : ℕ) → is_closed xs b ≡ true → loose xs b q ≡ true → ⊥
  closed-not xs x q e t = none-held (free_in xs b) q e ((free-free xs x.ordered b q).1 (looks-free xs root x b q t))

  pub shut-same : is_closed hs b ≡ is_closed bs b
  shut-same = elim (cases_Bool (is_closed hs b)) [
    | inl t ↦ elim (cases_Bool (is_closed bs b)) [
      | inl e ↦ t ∙ sym e
      | inr e ↦ absurd (let x = open-looks bs root w b e in closed-not hs v x.0 t (same x.0 ∙ x.1))
    ]
    | inr t ↦ elim (cases_Bool (is_closed bs b)) [
      | inr e ↦ t ∙ sym e
      | inl e ↦ absurd (let x = open-looks hs root v b t in closed-not bs w x.0 e (sym (same x.0) ∙ x.1))
    ]
  ]
