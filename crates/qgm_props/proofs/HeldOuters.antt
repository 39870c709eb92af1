-- What is inferred of an outer join holds.
use Rattle.std.proofs.Common.{ℕ, zero, suc, ◌≡◌, ◌≤◌, ◌==◌, nat_eq, cond, Bool, true, false, List, [], refl, arith}
use Rattle.std.proofs.lemmas.Bool.{eqb-false}
use Rattle.std.specs.List.{list_all}
use Rattle.row_bag.specs.Bags.{bind, keep, unit}
use Rattle.row_bag.specs.Joins.{how_many, or_else}
use Rattle.row_bag.specs.Order.{cell_of}
use Rattle.sql_value.specs.declared.cell.Cell.{Cell}
use Rattle.sql_value.specs.declared.level.Level.{Level}
use Rattle.sql_value.specs.declared.level.Level.TheVariants.{No, Cardinality, Division, Overflow, Yes}
use Rattle.qgm_core.specs.declared.node.Node.{Node}
use Rattle.qgm_meaning.specs.Laws.{occurs}
use Rattle.qgm_meaning.specs.Meaning.{Family, given, nothing, outer_rows}
use Rattle.qgm_meaning.specs.Values.{Bag, Environment, all_true, bound, head_cells, row_of}
use Rattle.qgm_props.specs.Facts.{EachThere, HasAtMostOne, HasExactlyOne, is_sound}
use Rattle.qgm_props.proofs.EachClean.{EachClean}
use Rattle.qgm_props.specs.Inferred.{Facts, cond_free}
use Rattle.qgm_props.proofs.Counted.{bind-exact, bind-one}
use Rattle.qgm_props.proofs.HeldGroups.{nothing-sound}
use Rattle.qgm_props.proofs.Rows.{clean-bind, clean-keep, each-bind, each-keep}
use Rattle.qgm_props.proofs.Terms.{SoundColumns, all-decided, no-cell}

-- one of two bags
pub of-either : (P : Bag → Type 0) (xs ys : Bag) → P xs → P ys → P (or_else xs ys)
of-either P xs ys h k = elim (nat_eq (how_many xs) 0) as (λ b. P (cond b ys xs)) [ true ↦ k | false ↦ h ]

-- nulls for a quantifier's columns are no errors
pub null-bound : (boxes : List Node) (known : Facts) (q : ℕ) (env : Environment) → SoundColumns boxes known env → SoundColumns boxes known (bound q [] env)
null-bound boxes known q env c p k e = one (q == p)
  where
    one : (b : Bool) → is_sound (cell_of k (cond b [] (row_of p env))) ≡ true
    one true = no-cell k
    one false = c p k e

kept-one : (l : Level) (cells : List Cell) → how_many (keep l (unit cells)) ≤ 1
kept-one No cells = omega (arith)
kept-one Cardinality cells = omega (arith)
kept-one Division cells = omega (arith)
kept-one Overflow cells = omega (arith)
kept-one Yes cells = omega (arith)

-- the left row with nulls stands where no partner does
exact-either : (xs : Bag) (cells : List Cell) → how_many xs ≤ 1 → how_many (or_else xs (unit cells)) ≡ 1
exact-either xs cells h = one (nat_eq (how_many xs) 0) refl
  where
    one : (b : Bool) → nat_eq (how_many xs) 0 ≡ b → how_many (cond b (unit cells) xs) ≡ 1
    one true e = refl
    one false e = some (how_many xs) h (eqb-false (how_many xs) 0 e)
      where
        some : (m : ℕ) → m ≤ 1 → (m ≡ 0 → ⊥) → m ≡ 1
        some zero h n = absurd (n refl)
        some (suc m) h n = omega (arith, h)

module _ (n : Node) (s : Family) (env : Environment) (p q : ℕ) where
  abbrev pub partners : List Cell → Bag
  partners a = bind (s q env) (λ b. given nothing n (bound q b (bound p a env)))

  abbrev pub alone : List Cell → List Cell
  alone a = head_cells nothing n.parts.head (bound q [] (bound p a env))

  pub outer-each : (P : List Cell → Type 0) → ((a b : List Cell) → occurs a (s p env) ≡ true → occurs b (s q env) ≡ true → P (head_cells nothing n.parts.head (bound q b (bound p a env))))
      → ((a : List Cell) → occurs a (s p env) ≡ true → P (alone a)) → EachThere P (outer_rows n s env p q)
  outer-each P h k =
      each-bind P (s p env) (λ a. or_else (partners a) (unit (alone a)))
      (λ a o. of-either (EachThere P) (partners a) (unit (alone a))
      (each-bind P (s q env) (λ b. given nothing n (bound q b (bound p a env))) (λ b w. each-keep P (all_true nothing n.parts.conds.items (bound q b (bound p a env))).t (unit (head_cells nothing n.parts.head (bound q b (bound p a env)))) (λ t. ((λ _. h a b o w), tt))))
      ((λ _. k a o), tt))

  pub outer-clean : (boxes : List Node) (known : Facts) → EachClean (s p env) → EachClean (s q env) → list_all (cond_free boxes known false) n.parts.conds.items ≡ true
      → ((a b : List Cell) → occurs a (s p env) ≡ true → occurs b (s q env) ≡ true → SoundColumns boxes known (bound q b (bound p a env))) → EachClean (outer_rows n s env p q)
  outer-clean boxes known c d h columns =
      clean-bind (s p env) (λ a. or_else (partners a) (unit (alone a))) c
      (λ a o. of-either EachClean (partners a) (unit (alone a))
      (clean-bind (s q env) (λ b. given nothing n (bound q b (bound p a env))) d
      (λ b w. clean-keep (all_true nothing n.parts.conds.items (bound q b (bound p a env))).t (unit (head_cells nothing n.parts.head (bound q b (bound p a env))))
      (all-decided boxes known nothing (nothing-sound boxes known) n.parts.conds.items (bound q b (bound p a env)) (columns a b o w) h).0 (refl, tt)))
      (refl, tt))

  partners-one : (a : List Cell) → HasAtMostOne (s q env) → how_many (partners a) ≤ 1
  partners-one a m = bind-one 1 (s q env) (λ b. given nothing n (bound q b (bound p a env))) m (λ b w. kept-one (all_true nothing n.parts.conds.items (bound q b (bound p a env))).t (head_cells nothing n.parts.head (bound q b (bound p a env))))

  pub outer-single : HasAtMostOne (s p env) → HasAtMostOne (s q env) → HasAtMostOne (outer_rows n s env p q)
  outer-single l m = bind-one 1 (s p env) (λ a. or_else (partners a) (unit (alone a))) l (λ a o. of-either HasAtMostOne (partners a) (unit (alone a)) (partners-one a m) (omega (arith)))

  pub outer-exact : HasExactlyOne (s p env) → HasAtMostOne (s q env) → HasExactlyOne (outer_rows n s env p q)
  outer-exact l m = bind-exact 1 (s p env) (λ a. or_else (partners a) (unit (alone a))) l (λ a o. exact-either (partners a) (alone a) (partners-one a m))
