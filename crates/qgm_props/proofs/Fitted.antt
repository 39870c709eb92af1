-- The environments that evaluation meets fit, as partial ones.
use Rattle.std.proofs.Common.{ℕ, ◌≡◌, ◌&&◌, true, List, [], ◌∷◌, Option, Some, None, eqb-true, refl, subst, inl, inr}
use Rattle.std.proofs.lemmas.Bool.{and_parts, or_cases}
use Rattle.row_bag.specs.declared.tables.Table.{Table}
use Rattle.sql_value.specs.declared.cell.Cell.{Cell}
use Rattle.qgm_core.specs.Boxes.{is_quant, owns, range_in}
use Rattle.list_laws.specs.Lists.{In, first}
use Rattle.qgm_core.specs.declared.node.Node.{Node}
use Rattle.qgm_core.specs.declared.owned.OwnedQuant.{OwnedQuant}
use Rattle.qgm_meaning.specs.Fits.{fits, has_row}
use Rattle.qgm_meaning.specs.Laws.{occurs}
use Rattle.qgm_meaning.specs.Meaning.{Family, bag_in, quant_rows, rows_found}
use Rattle.qgm_meaning.specs.Values.{Environment}
use Rattle.qgm_props.specs.Laws.{Premises}
use Rattle.qgm_props.proofs.Environments.{first-in}
use Rattle.qgm_props.proofs.Partial.{FittingIn, HasRowIn}

module _ (tables : List Table) (ns : List Node) (given : Premises tables ns) where
  abbrev f : Family
  f = bag_in tables ns

  row-of : (q : ℕ) (cells : List Cell) (env : Environment) (n : Node) → In n ns → (o : Option OwnedQuant) → first (is_quant q) n.quants ≡ o → occurs cells (rows_found o f env) ≡ true → HasRowIn true f ns q cells env
  row-of q cells env n i None e h = absurd (let z : ⊥ = cc in z)
  row-of q cells env n i (Some r) e h =
      let w = first-in (is_quant q) n.quants r e in
      record {
        range = r;
        owned = subst (λ p. range_in p (first (owns p) ns) ≡ Some r) (eqb-true r.id q w.1) (given.found n r i w.0);
        row = h;
        before = λ p l. refl;
      }

  row-among : (q : ℕ) (cells : List Cell) (env : Environment) (ms : List Node) → ((n : Node) → In n ms → In n ns) → has_row f ms q cells env ≡ true → HasRowIn true f ns q cells env
  row-among q cells env [] sub h = absurd (let z : ⊥ = cc in z)
  row-among q cells env (n ∷ ms) sub h = elim (or_cases (owns q n && occurs cells (quant_rows n f q env)) (has_row f ms q cells env) h) [
    | inl t ↦ row-of q cells env n (sub n (inl refl)) (first (is_quant q) n.quants) refl (and_parts (owns q n) (occurs cells (quant_rows n f q env)) t).1
    | inr t ↦ row-among q cells env ms (λ m i. sub m (inr i)) t
  ]

  pub fits-in : (env : Environment) → fits f ns env ≡ true → FittingIn true f ns env
  fits-in [] h = tt
  fits-in (binding ∷ env) h =
      let a = and_parts (has_row f ns binding.0 binding.1 env) (fits f ns env) h in
      (row-among binding.0 binding.1 env ns (λ n i. i) a.0, fits-in env a.1)
