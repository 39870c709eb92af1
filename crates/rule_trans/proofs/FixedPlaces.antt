-- The places of J2 that are found of conjuncts with literals are those of all conjuncts.
use Rattle.std.proofs.Common.{ℕ, zero, suc, ◌+◌, ◌++◌, ◌<◌, ◌≡◌, ◌&&◌, ◌||◌, not, Bool, List, [], ◌∷◌, Option, Some, None, length, drop, refl, sym, ap, ap₂, ◌∙◌, arith}
use Rattle.std.specs.Prelude.{slice_index_or}
use Rattle.qgm_core.specs.Boxes.{QueryGraph}
use Rattle.qgm_core.specs.declared.node.Node.{Node}
use Rattle.qgm_terms.specs.Shown.{conds}
use Rattle.qgm_terms.specs.Shown as shown
use Rattle.qgm_terms.specs.Terms.{Cond}
use Rattle.qgm_terms.specs.declared.named.Column.{Column}
use Rattle.qgm_terms.specs.declared.tree.Gc.{Gc}
use Rattle.rule_api.specs.Picks.{picked, row}
use Rattle.rule_api.specs.Rules.{Pair}
use Rattle.rule_trans.specs.EqualColumnsPlaces.{infers_free}
use Rattle.rule_trans.specs.EqualLiteralPlaces.{fixed_if, ranges_over_base}
use Rattle.rule_trans.specs.EqualLiteralPlaces as spec
use Rattle.rule_trans.specs.Equalities.{equated, is_same}
use Rattle.rule_trans.specs.FixedRows as rows
use Rattle.rule_trans.specs.Literals.{FixedPair, LiteralValue, NumberedPair, fixed, has_literal, is_of, is_some, is_there, numbered, numbered_if}
use Rattle.rule_trans.specs.declared.equalities.Equality.{Equality}

pub numbered_next : (first : ℕ) (xs : List Gc) (i : ℕ) (c : Gc) → i < length xs → c ≡ slice_index_or xs i c → numbered first (conds (drop i xs)) ≡ numbered_if first (fixed (shown.cond c)) (numbered (first + 1) (conds (drop (i + 1) xs)))
numbered_next first [] i c l h = absurd (omega (arith, l))
numbered_next first (x ∷ xs) zero c l h = ap (λ (y : Gc). numbered_if first (fixed (shown.cond y)) (numbered (first + 1) (conds xs))) (sym h)
numbered_next first (x ∷ xs) (suc i) c l h =
    let m : length (x ∷ xs) ≡ suc (length xs) = refl in
    let e : suc (i + 1) ≡ suc i + 1 = omega arith in
    numbered_next first xs i c (omega (arith, l, m)) h ∙ ap (λ k. numbered_if first (fixed (shown.cond c)) (numbered (first + 1) (conds (drop k (x ∷ xs))))) e

there-same : (a : Column) (l : LiteralValue) (first : ℕ) (cs : List Cond) → has_literal a l (numbered first cs) ≡ is_there a l cs
there-same a l first [] = refl
there-same a l first (c ∷ cs) = step (fixed c) (there-same a l (first + 1) cs)
  where
    step : (o : Option FixedPair) → has_literal a l (numbered (first + 1) cs) ≡ is_there a l cs → has_literal a l (numbered_if first o (numbered (first + 1) cs)) ≡ (is_of a l o || is_there a l cs)
    step None h = h
    step (Some f) h = ap (λ (t : Bool). is_of a l (Some f) || t) h

module _ (g : QueryGraph) (n : Node) where
  abbrev all-fixed : List NumberedPair
  all-fixed = numbered 1 n.parts.conds.items

  joins-same : (a b : Column) (f : FixedPair) → rows.joins g all-fixed a b f ≡ spec.joins g n a b f
  joins-same a b f = ap (λ (t : Bool). ((is_same b f.0 && not t) && ranges_over_base g a.quant) && infers_free g b) (there-same a f.1 1 n.parts.conds.items)

  of-same : (o : Option Equality) (p : Option FixedPair) → rows.implied_of g all-fixed o p ≡ spec.implied_of g n o p
  of-same None p = refl
  of-same (Some e) None = refl
  of-same (Some e) (Some f) = ap₂ (λ (s t : Bool). fixed_if s e.left f.1 (fixed_if t e.right f.1 None)) (joins-same e.left e.right f) (joins-same e.right e.left f)

  row-same : (e : Equality) (i first : ℕ) (cs : List Cond) → rows.row_in g all-fixed e i (numbered first cs) ≡ row (λ d. is_some (spec.implied_of g n (Some e) (fixed d))) i first cs
  row-same e i first [] = refl
  row-same e i first (c ∷ cs) = step (fixed c) (row-same e i (first + 1) cs)
    where
      step : (o : Option FixedPair) → rows.row_in g all-fixed e i (numbered (first + 1) cs) ≡ row (λ d. is_some (spec.implied_of g n (Some e) (fixed d))) i (first + 1) cs → rows.row_in g all-fixed e i (numbered_if first o (numbered (first + 1) cs)) ≡ picked (is_some (spec.implied_of g n (Some e) o)) i first ++ row (λ d. is_some (spec.implied_of g n (Some e) (fixed d))) i (first + 1) cs
      step None h = h
      step (Some f) h = ap₂ (λ (o : Option FixedPair) (ps : List Pair). picked (is_some o) i first ++ ps) (of-same (Some e) (Some f)) h

  module _ (fs : List NumberedPair) (is : fs ≡ numbered 1 n.parts.conds.items) where
    pub implied_told : (c d : Cond) → rows.implied_of g fs (equated c) (fixed d) ≡ spec.implied g n c d
    implied_told c d = ap (λ (z : List NumberedPair). rows.implied_of g z (equated c) (fixed d)) is ∙ of-same (equated c) (fixed d)

    pub row_told : (c : Cond) (e : Equality) → Some e ≡ equated c → (i : ℕ) → rows.row_in g fs e i fs ≡ row (spec.passes g n c) i 1 n.parts.conds.items
    row_told c e h i =
        ap (λ (z : List NumberedPair). rows.row_in g z e i z) is
        ∙ row-same e i 1 n.parts.conds.items
        ∙ ap (λ (o : Option Equality). row (λ d. is_some (spec.implied_of g n o (fixed d))) i 1 n.parts.conds.items) h
