-- Quantifiers that marked boxes own.
use Rattle.std.proofs.Common.{◌≡◌, ℕ, ◌==◌, ◌++◌, ◌||◌, ◌&&◌, cond, not, Bool, true, false, List, [], ◌∷◌, filter, map, refl, ◌∙◌, ap}
use Rattle.std.specs.List.{flat_map, list_any}
use Rattle.qgm_core.specs.Boxes.{ids_of, is_quant, owns}
use Rattle.qgm_core.specs.Free.{free_in, is_owned, named_where, owned_where, put_each, reached}
use Rattle.list_laws.specs.Lists.{holds}
use Rattle.qgm_core.specs.declared.node.Node.{Node}
use Rattle.qgm_core.specs.declared.owned.OwnedQuant.{OwnedQuant}

holds-either : (q : ℕ) (xs ys : List ℕ) → holds q (xs ++ ys) ≡ (holds q xs || holds q ys)
holds-either q [] ys = refl
holds-either q (x ∷ xs) ys = elim (x == q) as (λ t. (t || holds q (xs ++ ys)) ≡ ((t || holds q xs) || holds q ys)) [
  | true ↦ refl
  | false ↦ holds-either q xs ys
]

holds-ids : (q : ℕ) (rs : List OwnedQuant) → holds q (map (λ r. r.id) rs) ≡ list_any (is_quant q) rs
holds-ids q [] = refl
holds-ids q (r ∷ rs) = ap (λ (b : Bool). (r.id == q) || b) (holds-ids q rs)

module _ (marks : List ℕ) where
  owned-holds : (q : ℕ) (ns : List Node) → holds q (flat_map (owned_where marks) ns) ≡ is_owned marks ns q
  owned-holds q [] = refl
  owned-holds q (n ∷ ns) =
      let rest = flat_map (owned_where marks) ns in
      elim (holds n.id marks) as (λ t. holds q (cond t (ids_of n) [] ++ rest) ≡ ((t && owns q n) || is_owned marks ns q)) [
        | true ↦ holds-either q (ids_of n) rest ∙ ap (λ (b : Bool). b || holds q rest) (holds-ids q n.quants) ∙ ap (λ (b : Bool). owns q n || b) (owned-holds q ns)
        | false ↦ owned-holds q ns
      ]

  same-filter : (names : List ℕ) (ns : List Node) → filter (λ q. not (holds q (flat_map (owned_where marks) ns))) names ≡ filter (λ q. not (is_owned marks ns q)) names
  same-filter [] ns = refl
  same-filter (q ∷ qs) ns =
      ap (λ (b : Bool). cond (not b) (q ∷ filter (λ q. not (holds q (flat_map (owned_where marks) ns))) qs) (filter (λ q. not (holds q (flat_map (owned_where marks) ns))) qs)) (owned-holds q ns)
      ∙ ap (λ (xs : List ℕ). cond (not (is_owned marks ns q)) (q ∷ xs) xs) (same-filter qs ns)

pub free-owned : (ns : List Node) (b : ℕ) (marks owned names : List ℕ) → marks ≡ reached (b ∷ []) ns → owned ≡ flat_map (owned_where marks) ns → names ≡ flat_map (named_where marks) ns →
    put_each [] (filter (λ q. not (holds q owned)) names) ≡ free_in ns b
free-owned ns b marks owned names e f g =
    ap (λ (os : List ℕ). put_each [] (filter (λ q. not (holds q os)) names)) f
    ∙ ap (λ (xs : List ℕ). put_each [] xs) (same-filter marks names ns)
    ∙ ap (λ (xs : List ℕ). put_each [] (filter (λ q. not (is_owned marks ns q)) xs)) g
    ∙ ap (λ (ms : List ℕ). put_each [] (filter (λ q. not (is_owned ms ns q)) (flat_map (named_where ms) ns))) e
