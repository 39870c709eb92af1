-- The measure falls, and is bounded.
use Rattle.std.proofs.Common.{◌≤◌, cond, Bool, true, false, List, [], ◌∷◌, length, arith}
use Rattle.std.proofs.lemmas.List.{length-append, length-map}
use Rattle.qgm_core.specs.Boxes.{ids_in, ids_of}
use Rattle.qgm_core.specs.declared.node.Node.{Node}
use Rattle.qgm_core.specs.declared.owned.OwnedQuant.{OwnedQuant}
use Rattle.qgm_props.specs.Measure.{MeasureBound, MeasureFalls, is_loose_scalar, is_open, many, summed}
use Rattle.qgm_props.proofs.NeverNegative.{never-negative}

one-at-most : (b : Bool) → cond b 1 0 ≤ 1
one-at-most true = omega arith
one-at-most false = omega arith

many-most : {X : Type 0} (p : X → Bool) (xs : List X) → many p xs ≤ length xs
many-most p [] = omega arith
many-most p (x ∷ xs) = let a = one-at-most (p x) in let b = many-most p xs in omega (arith, a, b)

quants-most : (p : OwnedQuant → Bool) (ns : List Node) → summed (λ n. many p n.quants) ns ≤ length (ids_in ns)
quants-most p [] = omega arith
quants-most p (n ∷ ns) =
    let a = many-most p n.quants in
    let b = quants-most p ns in
    let c = length-append (ids_of n) (ids_in ns) in
    let d = length-map n.quants (λ (r : OwnedQuant). r.id) in
    omega (arith, a, b, c, d)

pub measure-falls : MeasureFalls
measure-falls = λ g h once wf l. (let n = never-negative h once wf in omega (arith, n, l))

pub measure-bound : MeasureBound
measure-bound = λ g. (let a = many-most (is_open g.boxes) g.boxes in let b = quants-most (is_loose_scalar g.boxes) g.boxes in omega (arith, a, b))
