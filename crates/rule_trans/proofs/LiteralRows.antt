-- What the loops over ordered pairs of conjuncts have made so far.
use Rattle.std.proofs.Common.{ℕ, zero, suc, ◌+◌, ◌++◌, ◌≡◌, ◌<◌, ◌&&◌, ◌||◌, Bool, true, false, List, [], ◌∷◌, Option, Some, None, cond, drop, inl, length, map, refl, sym, ap, ap₂, ◌∙◌, arith}
use Rattle.std.specs.Prelude.{slice_index_or}
use Rattle.std.specs.List.{list_any}
use Rattle.qgm_core.specs.Boxes.{QueryGraph, is_box}
use Rattle.list_laws.specs.Lists.{first}
use Rattle.list_laws.proofs.Membership.{any-none}
use Rattle.qgm_core.specs.declared.node.Node.{Node}
use Rattle.qgm_terms.specs.Shown.{conds}
use Rattle.qgm_terms.specs.Shown as shown
use Rattle.qgm_terms.specs.Terms.{Cond}
use Rattle.qgm_terms.specs.declared.tree.Gc.{Gc}
use Rattle.rule_api.specs.Picks.{cross, row}
use Rattle.rule_api.specs.Rules.{Pair, place_at}
use Rattle.rule_trans.specs.EqualColumnsPlaces.{takes}
use Rattle.rule_trans.specs.EqualLiteralPlaces.{equal_literal_pairs, implied_of, may_have, pairs_in, passes}
use Rattle.rule_trans.specs.Equalities.{equated, is_equality}
use Rattle.rule_trans.specs.Equalities as columns
use Rattle.rule_trans.specs.Literals.{FixedPair, fixed, has_fixed, is_some}
use Rattle.rule_trans.specs.declared.equalities.Equality.{Equality}
use Rattle.rule_trans.proofs.Rows.{map-two, row-none}

-- a condition that is no equality of columns passes with none, and none passes with one that equates no column and literal
not-first : (g : QueryGraph) (n : Node) (o : Option Equality) (p : Option FixedPair) → columns.is_some o ≡ false → is_some (implied_of g n o p) ≡ false
not-first g n None p h = refl
not-first g n (Some e) p h = absurd (let z : ⊥ = cc in z)

not-second : (g : QueryGraph) (n : Node) (o : Option Equality) (p : Option FixedPair) → is_some p ≡ false → is_some (implied_of g n o p) ≡ false
not-second g n None p h = refl
not-second g n (Some e) None h = refl
not-second g n (Some e) (Some f) h = absurd (let z : ⊥ = cc in z)

module _ (g : QueryGraph) (n : Node) (all : List Cond) where
  row-of-none : (c : Cond) (first : ℕ) → is_equality c ≡ false → row (passes g n c) first 1 all ≡ []
  row-of-none c first h = row-none (passes g n c) first 1 all (λ d i. not-first g n (equated c) (fixed d) h)

  row-without : (c : Cond) (first : ℕ) → has_fixed all ≡ false → row (passes g n c) first 1 all ≡ []
  row-without c first h = row-none (passes g n c) first 1 all (λ d i. not-second g n (equated c) (fixed d) (any-none (λ e. is_some (fixed e)) d all h i))

  no-columns : (first : ℕ) (cs : List Cond) → list_any is_equality cs ≡ false → cross (passes g n) all first cs ≡ []
  no-columns first [] h = refl
  no-columns first (c ∷ cs) h = ap₂ (λ (x y : List Pair). x ++ y) (row-of-none c first (any-none is_equality c (c ∷ cs) h (inl refl))) (no-columns (first + 1) cs (rest (is_equality c) h))
    where
      rest : (t : Bool) → (t || list_any is_equality cs) ≡ false → list_any is_equality cs ≡ false
      rest true k = absurd (let z : ⊥ = cc in z)
      rest false k = k

  no-literal : (first : ℕ) (cs : List Cond) → has_fixed all ≡ false → cross (passes g n) all first cs ≡ []
  no-literal first [] h = refl
  no-literal first (c ∷ cs) h = ap₂ (λ (x y : List Pair). x ++ y) (row-without c first h) (no-literal (first + 1) cs h)

  cross-next : (first : ℕ) (xs : List Gc) (i : ℕ) (c : Gc) → i < length xs → c ≡ slice_index_or xs i c → cross (passes g n) all first (conds (drop i xs)) ≡ row (passes g n (shown.cond c)) first 1 all ++ cross (passes g n) all (first + 1) (conds (drop (i + 1) xs))
  cross-next first [] i c l h = absurd (omega (arith, l))
  cross-next first (x ∷ xs) zero c l h = ap (λ (y : Gc). row (passes g n (shown.cond y)) first 1 all ++ cross (passes g n) all (first + 1) (conds xs)) (sym h)
  cross-next first (x ∷ xs) (suc i) c l h =
      let m : length (x ∷ xs) ≡ suc (length xs) = refl in
      let e : suc (i + 1) ≡ suc i + 1 = omega arith in
      cross-next first xs i c (omega (arith, l, m)) h ∙ ap (λ k. row (passes g n (shown.cond c)) first 1 all ++ cross (passes g n) all (first + 1) (conds (drop k (x ∷ xs)))) e

  pub cross_more : (b first : ℕ) (xs : List Gc) (i : ℕ) (c : Gc) → i < length xs → c ≡ slice_index_or xs i c
      → map (place_at b) (cross (passes g n) all first (conds (drop i xs))) ≡ map (place_at b) (row (passes g n (shown.cond c)) first 1 all) ++ map (place_at b) (cross (passes g n) all (first + 1) (conds (drop (i + 1) xs)))
  cross_more b first xs i c l h = ap (map (place_at b)) (cross-next first xs i c l h) ∙ map-two (place_at b) (row (passes g n (shown.cond c)) first 1 all) (cross (passes g n) all (first + 1) (conds (drop (i + 1) xs)))

  pub cross_skip : (b first : ℕ) (xs : List Gc) (i : ℕ) (c : Gc) → i < length xs → c ≡ slice_index_or xs i c → is_equality (shown.cond c) ≡ false
      → map (place_at b) (cross (passes g n) all first (conds (drop i xs))) ≡ map (place_at b) (cross (passes g n) all (first + 1) (conds (drop (i + 1) xs)))
  cross_skip b first xs i c l h none = cross_more b first xs i c l h ∙ ap (λ (z : List Pair). map (place_at b) z ++ map (place_at b) (cross (passes g n) all (first + 1) (conds (drop (i + 1) xs)))) (row-of-none (shown.cond c) first none)

no-pairs : (g : QueryGraph) (n : Node) → may_have n ≡ false → pairs_in g (Some n) ≡ []
no-pairs g n h = by (takes n) (list_any is_equality n.parts.conds.items) refl h
  where
    by : (t u : Bool) → list_any is_equality n.parts.conds.items ≡ u → ((t && u) && has_fixed n.parts.conds.items) ≡ false → cond t (cross (passes g n) n.parts.conds.items 1 n.parts.conds.items) [] ≡ []
    by false u e k = refl
    by true false e k = no-columns g n n.parts.conds.items 1 n.parts.conds.items e
    by true true e k = no-literal g n n.parts.conds.items 1 n.parts.conds.items k

pub none_found : (g : QueryGraph) (b : ℕ) (n : Node) → Some n ≡ first (is_box b) g.boxes → may_have n ≡ false → equal_literal_pairs g b ≡ []
unfolding equal_literal_pairs
none_found g b n e h = ap (pairs_in g) (sym e) ∙ no-pairs g n h
