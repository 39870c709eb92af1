-- The places that are found of equalities with what is known of their columns are those of their conditions.
use Rattle.std.proofs.Common.{ℕ, zero, suc, ◌+◌, ◌++◌, ◌<◌, ◌==◌, ◌≡◌, ◌&&◌, ◌||◌, not, Bool, true, false, List, [], ◌∷◌, Option, Some, None, length, drop, map, refl, ap, ap₂, ◌∙◌, arith}
use mathlib.Core.Path.{fun_ext}
use Rattle.qgm_core.specs.Boxes.{QueryGraph}
use Rattle.qgm_core.specs.declared.node.Node.{Node}
use Rattle.qgm_terms.specs.Terms.{Cond}
use Rattle.qgm_terms.specs.declared.named.Column.{Column}
use Rattle.rule_api.specs.Picks.{grid, picked, row}
use Rattle.rule_api.specs.Rules.{Pair, place_at}
use Rattle.rule_trans.specs.EqualColumnsPlaces as spec
use Rattle.rule_trans.specs.Equalities.{equated, is_same, is_some, is_there}
use Rattle.rule_trans.specs.Joints.{implied, implied_by, joins, joint_of, passes, row_from, shares}
use Rattle.rule_trans.specs.declared.equalities.Equality.{Equality}
use Rattle.rule_trans.specs.declared.joints.Joint.{Joint}
use Rattle.rule_trans.specs.declared.joints.Side.{Side}
use Rattle.rule_trans.proofs.Rows.{map-two}

or-none : (p q : Bool) → (p || q) ≡ false → (p ≡ false) × (q ≡ false)
or-none true q h = absurd (let z : ⊥ = cc in z)
or-none false q h = (refl, h)

module _ (there : Column → Column → Bool) where
  joins-none : (a b m c : Side) → is_same b.column m.column ≡ false → joins there a b m c ≡ false
  joins-none a b m c h =
      ap (λ (t : Bool). ((((((t && not (is_same a.column b.column)) && not (is_same m.column c.column)) && not (a.column.quant == c.column.quant)) && a.is_row) && c.is_row) && not (there a.column c.column)) && b.is_free) h

  -- of two equalities that share no column nothing follows
  pub none_shared : (e f : Joint) → shares e f ≡ false → is_some (implied_by there e f) ≡ false
  none_shared e f h =
      let p = or-none ((is_same e.left.column f.left.column || is_same e.left.column f.right.column) || is_same e.right.column f.left.column) (is_same e.right.column f.right.column) h in
      let q = or-none (is_same e.left.column f.left.column || is_same e.left.column f.right.column) (is_same e.right.column f.left.column) p.0 in
      let r = or-none (is_same e.left.column f.left.column) (is_same e.left.column f.right.column) q.0 in
      rw (joins-none e.left e.right f.left f.right q.1, joins-none e.left e.right f.right f.left p.1, joins-none e.right e.left f.left f.right r.0, joins-none e.right e.left f.right f.left r.1) refl

  grid-next : (first : ℕ) (es : List (Option Joint)) (i : ℕ) → i < length es → grid (passes there) first (drop i es) ≡ row_from there first (drop i es) ++ grid (passes there) (first + 1) (drop (i + 1) es)
  grid-next first [] i h = absurd (omega (arith, h))
  grid-next first (e ∷ es) zero h = refl
  grid-next first (e ∷ es) (suc i) h =
      let k : suc (i + 1) ≡ suc i + 1 = omega arith in
      let l : length (e ∷ es) ≡ suc (length es) = refl in
      grid-next first es i (omega (arith, h, l)) ∙ ap (λ k. row_from there first (drop i es) ++ grid (passes there) (first + 1) (drop k (e ∷ es))) k

  pub grid_more : (b first : ℕ) (es : List (Option Joint)) (i : ℕ) → i < length es
      → map (place_at b) (grid (passes there) first (drop i es)) ≡ map (place_at b) (row_from there first (drop i es)) ++ map (place_at b) (grid (passes there) (first + 1) (drop (i + 1) es))
  grid_more b first es i h = ap (map (place_at b)) (grid-next first es i h) ∙ map-two (place_at b) (row_from there first (drop i es)) (grid (passes there) (first + 1) (drop (i + 1) es))

module _ (g : QueryGraph) (n : Node) where
  abbrev there-now : Column → Column → Bool
  there-now a c = is_there a c n.parts.conds.items

  abbrev joint : Cond → Option Joint
  joint c = joint_of g n (equated c)

  of-two : (o p : Option Equality) → implied there-now (joint_of g n o) (joint_of g n p) ≡ spec.implied_of g n o p
  of-two None p = refl
  of-two (Some e) None = refl
  of-two (Some e) (Some f) = refl

  row-same : (c : Cond) (i first : ℕ) (cs : List Cond) → row (passes there-now (joint c)) i first (map joint cs) ≡ row (spec.passes g n c) i first cs
  row-same c i first [] = refl
  row-same c i first (d ∷ cs) = ap₂ (λ (t : Bool) (ps : List Pair). picked t i first ++ ps) (ap is_some (of-two (equated c) (equated d))) (row-same c i (first + 1) cs)

  grid-same : (first : ℕ) (cs : List Cond) → grid (passes there-now) first (map joint cs) ≡ grid (spec.passes g n) first cs
  grid-same first [] = refl
  grid-same first (c ∷ cs) = ap₂ (λ (ps qs : List Pair). ps ++ qs) (row-same c first (first + 1) cs) (grid-same (first + 1) cs)

  module _ (there : Column → Column → Bool) (is : (a c : Column) → there a c ≡ is_there a c n.parts.conds.items) where
    there-is : there ≡ there-now
    there-is = fun_ext (λ a. fun_ext (λ c. is a c))

    pub implied_told : (c d : Cond) → implied there (joint_of g n (equated c)) (joint_of g n (equated d)) ≡ spec.implied g n c d
    implied_told c d = ap (λ (t : Column → Column → Bool). implied t (joint_of g n (equated c)) (joint_of g n (equated d))) there-is ∙ of-two (equated c) (equated d)

    pub grid_told : (es : List (Option Joint)) → es ≡ map (λ c. joint_of g n (equated c)) n.parts.conds.items → grid (passes there) 1 es ≡ grid (spec.passes g n) 1 n.parts.conds.items
    grid_told es e = ap₂ (λ (t : Column → Column → Bool) (xs : List (Option Joint)). grid (passes t) 1 xs) there-is e ∙ grid-same 1 n.parts.conds.items
