-- Lists, and boxes changed where they stand.
use Rattle.std.proofs.Common.{ℕ, ◌==◌, ◌≡◌, cond, true, false, refl}
use Rattle.qgm_core.specs.declared.node.Node.{Node}
use Rattle.qgm_edit_laws.proofs.OneBox.{at}

pub at-id : (c : ℕ) (f : Node → Node) → ((y : Node) → (f y).id ≡ y.id) → (y : Node) → (at c f y).id ≡ y.id
at-id c f h y = elim (y.id == c) as (λ t. (λ (z : Node). z.id) (cond t (f y) y) ≡ y.id) [ true ↦ h y | false ↦ refl ]
