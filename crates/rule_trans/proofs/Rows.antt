-- What the loops over conjuncts have made so far.
use Rattle.std.proofs.Common.{ℕ, ◌+◌, ◌++◌, ◌≡◌, ◌||◌, ◌&&◌, Bool, true, false, List, [], ◌∷◌, Option, Some, None, cond, inl, inr, map, refl, sym, ap, ap₂, ◌∙◌}
use Rattle.std.specs.List.{list_any}
use Rattle.qgm_core.specs.Boxes.{QueryGraph, is_box, owns, range_in}
use Rattle.list_laws.specs.Lists.{In, first}
use Rattle.list_laws.proofs.Membership.{any-none}
use Rattle.qgm_core.specs.declared.node.Node.{Node}
use Rattle.qgm_core.specs.declared.owned.OwnedQuant.{OwnedQuant}
use Rattle.qgm_props.specs.Inferred.{Facts}
use Rattle.qgm_props.specs.Laws.{Tells}
use Rattle.qgm_props.specs.Under.{of_over}
use Rattle.qgm_terms.specs.Terms.{Cond}
use Rattle.qgm_terms.specs.declared.named.Column.{Column}
use Rattle.rule_api.specs.Picks.{grid, picked, row}
use Rattle.rule_api.specs.Rules.{Pair}
use Rattle.rule_api.specs.declared.place.Place.{Place}
use Rattle.rule_trans.specs.EqualColumnsExact.{free-told}
use Rattle.rule_trans.specs.Equalities.{equated, has_two, is_equality, is_some}
use Rattle.rule_trans.specs.declared.equalities.Equality.{Equality}
use Rattle.rule_trans.specs.EqualColumnsPlaces.{equal_columns_pairs, implied_of, infers_free, may_have, pairs_in, passes, takes}

pub map-two : (f : Pair → Place) (xs ys : List Pair) → map f (xs ++ ys) ≡ map f xs ++ map f ys
map-two f [] ys = refl
map-two f (x ∷ xs) ys = ap (λ zs. f x ∷ zs) (map-two f xs ys)

-- where there aren't two equalities, none follows
pub row-none : (p : Cond → Bool) (i first : ℕ) (cs : List Cond) → ((d : Cond) → In d cs → p d ≡ false) → row p i first cs ≡ []
row-none p i first [] h = refl
row-none p i first (d ∷ cs) h = ap (λ (t : Bool). picked t i first ++ row p i (first + 1) cs) (h d (inl refl)) ∙ row-none p i (first + 1) cs (λ e k. h e (inr k))

none-two : (cs : List Cond) → list_any is_equality cs ≡ false → has_two cs ≡ false
none-two [] h = refl
none-two (c ∷ cs) h = elim (is_equality c) as (λ t. (t || list_any is_equality cs) ≡ false → cond t (list_any is_equality cs) (has_two cs) ≡ false) [
  | true ↦ λ e. absurd (let z : ⊥ = cc in z)
  | false ↦ λ e. none-two cs e
] h

-- a condition that is no equality passes with none
not-first : (g : QueryGraph) (n : Node) (o p : Option Equality) → is_some o ≡ false → is_some (implied_of g n o p) ≡ false
not-first g n None p h = refl
not-first g n (Some e) p h = absurd (let z : ⊥ = cc in z)

not-second : (g : QueryGraph) (n : Node) (o p : Option Equality) → is_some p ≡ false → is_some (implied_of g n o p) ≡ false
not-second g n None p h = refl
not-second g n (Some e) None h = refl
not-second g n (Some e) (Some f) h = absurd (let z : ⊥ = cc in z)

pub none_follows : (g : QueryGraph) (n : Node) (first : ℕ) (cs : List Cond) → has_two cs ≡ false → grid (passes g n) first cs ≡ []
none_follows g n first [] h = refl
none_follows g n first (c ∷ cs) h = one (is_equality c) refl h (λ k. none_follows g n (first + 1) cs k)
  where
    both-none : row (passes g n c) first (first + 1) cs ≡ [] → grid (passes g n) (first + 1) cs ≡ [] → row (passes g n c) first (first + 1) cs ++ grid (passes g n) (first + 1) cs ≡ []
    both-none a b = ap₂ (λ (x y : List Pair). x ++ y) a b

    one : (t : Bool) → is_equality c ≡ t → cond t (list_any is_equality cs) (has_two cs) ≡ false → (has_two cs ≡ false → grid (passes g n) (first + 1) cs ≡ []) → row (passes g n c) first (first + 1) cs ++ grid (passes g n) (first + 1) cs ≡ []
    one true e h rest = both-none (row-none (passes g n c) first (first + 1) cs (λ d i. not-second g n (equated c) (equated d) (any-none is_equality d cs h i))) (rest (none-two cs h))
    one false e h rest = both-none (row-none (passes g n c) first (first + 1) cs (λ d i. not-first g n (equated c) (equated d) e)) (rest h)

no-pairs : (g : QueryGraph) (n : Node) → may_have n ≡ false → pairs_in g (Some n) ≡ []
no-pairs g n h = elim (takes n) as (λ t. (t && has_two n.parts.conds.items) ≡ false → cond t (grid (passes g n) 1 n.parts.conds.items) [] ≡ []) [
  | true ↦ λ k. none_follows g n 1 n.parts.conds.items k
  | false ↦ λ k. refl
] h

pub none_found : (g : QueryGraph) (b : ℕ) (n : Node) → Some n ≡ first (is_box b) g.boxes → may_have n ≡ false → equal_columns_pairs g b ≡ []
unfolding equal_columns_pairs
none_found g b n e h = ap (pairs_in g) (sym e) ∙ no-pairs g n h

-- ---- what is told of a column

module _ (g : QueryGraph) (known : Facts) (tells : Tells known g.boxes) (b : Column) where
  pub free_some : (r : OwnedQuant) → Some r ≡ range_in b.quant (first (owns b.quant) g.boxes) → known.error_free r.over b.place ≡ infers_free g b
  free_some r h = ap (of_over false (λ x. known.error_free x b.place)) h ∙ free-told g known tells b

  pub free_none : None ≡ range_in b.quant (first (owns b.quant) g.boxes) → false ≡ infers_free g b
  free_none h = ap (of_over false (λ x. known.error_free x b.place)) h ∙ free-told g known tells b
