-- A box at whose place its number is found is the first of the number.
use Rattle.std.proofs.Common.{ℕ, zero, suc, ◌==◌, ◌≡◌, ◌<◌, cond, List, [], ◌∷◌, length, Some, refl, sym, ap, ◌∙◌, eqb-true, inl, inr, arith}
use Rattle.std.specs.Prelude.{slice_index_or}
use Rattle.std.proofs.lemmas.Bool.{cases_Bool, eq-eqb}
use Rattle.qgm_core.specs.Boxes.{is_box, numbers}
use Rattle.list_laws.specs.Lists.{EachOnce, In, first, holds}
use Rattle.qgm_core.specs.declared.node.Node.{Node}
use Rattle.list_laws.proofs.Membership.{any-from, map-in}
use Rattle.list_laws.proofs.Booleans.{clash}
use Rattle.list_laws.proofs.Indexed.{get-in, index-get}

first_at : (ns : List Node) → EachOnce (numbers ns) → (b i : ℕ) (d : Node) → i < length ns → (slice_index_or ns i d).id ≡ b → first (is_box b) ns ≡ Some (slice_index_or ns i d)
first_at [] once b i d h e = absurd (omega arith)
first_at (n ∷ ns) once b zero d h e = ap (λ z. cond z (Some n) (first (is_box b) ns)) (eq-eqb n.id b e)
first_at (n ∷ ns) once b (suc i) d h e = elim (cases_Bool (n.id == b)) [
  | inr f ↦ ap (λ z. cond z (Some n) (first (is_box b) ns)) f ∙ first_at ns once.1 b i d (omega arith) e
  | inl t ↦ absurd (
      let x : Node = slice_index_or ns i d in
      let j : In x ns = get-in i ns x (index-get i ns d (omega arith)) in
      clash (holds n.id (numbers ns)) (any-from (λ (m : ℕ). m == n.id) x.id (numbers ns) (map-in (λ (n : Node). n.id) x ns j) (eq-eqb x.id n.id (e ∙ sym (eqb-true n.id b t)))) once.0)
]

same_at : (ns : List Node) (i : ℕ) (d e : Node) → i < length ns → slice_index_or ns i d ≡ slice_index_or ns i e
same_at [] i d e h = absurd (omega arith)
same_at (n ∷ ns) zero d e h = refl
same_at (n ∷ ns) (suc i) d e h = same_at ns i d e (omega arith)

-- the box at this place, x, has the number
pub found_at : (ns : List Node) → EachOnce (numbers ns) → (b i : ℕ) (x d : Node) → i < length ns → x ≡ slice_index_or ns i x → (slice_index_or ns i d).id ≡ b → Some x ≡ first (is_box b) ns
found_at ns once b i x d h is e = ap Some (is ∙ same_at ns i x d h) ∙ sym (first_at ns once b i d h e)
