-- What a box looks up is bound by a select that reaches it.
use Rattle.std.proofs.Common.{ℕ, suc, zero, ◌≡◌, ◌<◌, true, List, sym, subst, inl, inr, arith}
use Rattle.qgm_core.specs.Free.{Reaches, itself, through}
use Rattle.qgm_core.specs.declared.node.Node.{Node}
use Rattle.qgm_meaning.specs.Scope.{loose}
use Rattle.qgm_edit_laws.specs.Graph.{Sound}
use Rattle.qgm_edit_laws.specs.Laws.{BindsAbove}
use Rattle.qgm_edit_laws.proofs.Ranks.{place, place-under}
use Rattle.qgm_edit_laws.proofs.Scope.{climb, parent}

module _ (bs : List Node) (root : ℕ) (w : Sound bs root) where
  -- where box c, which reaches b, looks q up
  above-by : (k c b q : ℕ) → place bs c < k → loose bs c q ≡ true → Reaches bs c b → (n : Node) × BindsAbove bs b q n
  above-by zero c b q f h down = absurd (omega arith)
  above-by (suc k) c b q f h down =
      let p = parent bs root w c q h in
      let r = p.1.1.0 in
      let over : r.over ≡ c = p.1.1.1.1 in
      let under : Reaches bs r.over b = subst (λ z. Reaches bs z b) (sym over) down in
      let up : place bs p.0.id < place bs c = subst (λ z. place bs p.0.id < place bs z) over (place-under bs p.0 r w.ordered p.1.0 p.1.1.1.0) in
      elim (climb bs root w p.0 r q p.1.0 p.1.1.1.0 (subst (λ z. loose bs z q ≡ true) (sym over) h)) [
        | inl t ↦ (p.0, record { within = p.1.0; a_select = t.0; binds = t.1; under = r; owned = p.1.1.1.0; reaches = under })
        | inr t ↦ above-by k p.0.id b q (omega arith) t (through p.0 r b p.1.0 p.1.1.1.0 under)
      ]

  pub binds-above : (b q : ℕ) → loose bs b q ≡ true → (n : Node) × BindsAbove bs b q n
  binds-above b q h = above-by (suc (place bs b)) b b q (omega arith) h (itself b)
