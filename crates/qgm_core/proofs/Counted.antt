-- How often boxes are used.
use Rattle.std.proofs.Common.{ℕ, zero, suc, ◌==◌, ◌≡◌, ◌<◌, ◌≤◌, ◌+◌, cond, Bool, true, false, List, [], ◌∷◌, Some, length, map, take, slice_get, get_or, refl, ◌∙◌, ap, sym, arith, add-one, eqb-true, inl, inr}
use Rattle.std.proofs.Math.ListN.{set}
use Rattle.std.proofs.lemmas.Bool.{cases_Bool, eq-eqb, ne_eqb}
use Rattle.std.proofs.lemmas.List.{length-append}
use Rattle.qgm_core.specs.Boxes.{ids_in, ids_of, overs_in, overs_of}
use Rattle.list_laws.specs.Lists.{times}
use Rattle.qgm_core.specs.declared.node.Node.{Node}
use Rattle.qgm_core.specs.declared.owned.OwnedQuant.{OwnedQuant}
use Rattle.list_laws.proofs.Counting.{times-append}
use Rattle.qgm_core.proofs.ByNumber.{read-set, read-within}

pub at-get : {X : Type 0} (xs : List X) (i : ℕ) (d : X) → i < length xs → slice_get xs i ≡ Some (get_or xs i d)
at-get [] i d l = absurd (omega arith)
at-get (x ∷ xs) zero d l = refl
at-get (x ∷ xs) (suc i) d l = at-get xs i d (omega arith)

times-most : (b : ℕ) (rs : List OwnedQuant) → times b (map (λ r. r.over) rs) ≤ length (map (λ r. r.id) rs)
times-most b [] = omega arith
times-most b (r ∷ rs) =
    let h = times-most b rs in
    elim (r.over == b) as (λ t. cond t 1 0 + times b (map (λ r. r.over) rs) ≤ suc (length (map (λ r. r.id) rs))) [
      | true ↦ omega (arith, h)
      | false ↦ omega (arith, h)
    ]

uses-more : (b : ℕ) (ns : List Node) (i : ℕ) (n : Node) → slice_get ns i ≡ Some n → times b (overs_in (take (suc i) ns)) ≡ times b (overs_in (take i ns)) + times b (overs_of n)
uses-more b [] i n e = absurd (let q : ⊥ = cc in q)
uses-more b (m ∷ ns) zero n e =
    let d : m ≡ n = cc in
    times-append b (overs_of m) [] ∙ (let h : times b (overs_of m) ≡ times b (overs_of n) = ap (λ (x : Node). times b (overs_of x)) d in omega (arith, h))
uses-more b (m ∷ ns) (suc i) n e =
    let h = uses-more b ns i n e in
    let k = times-append b (overs_of m) (overs_in (take (suc i) ns)) in
    let l = times-append b (overs_of m) (overs_in (take i ns)) in
    omega (arith, h, k, l)

pub uses-most : (b : ℕ) (ns : List Node) (i : ℕ) → times b (overs_in (take i ns)) ≤ length (ids_in ns)
uses-most b [] zero = omega arith
uses-most b [] (suc i) = omega arith
uses-most b (n ∷ ns) zero = omega arith
uses-most b (n ∷ ns) (suc i) =
    let h = uses-most b ns i in
    let k = times-append b (overs_of n) (overs_in (take i ns)) in
    let m = times-most b n.quants in
    let l = length-append (ids_of n) (ids_in ns) in
    omega (arith, h, k, m, l)

range-step : (b : ℕ) (rs : List OwnedQuant) (j : ℕ) (d : OwnedQuant) → j < length rs →
    times b (map (λ r. r.over) (take (suc j) rs)) ≡ times b (map (λ r. r.over) (take j rs)) + cond ((get_or rs j d).over == b) 1 0
range-step b [] j d l = absurd (omega arith)
range-step b (r ∷ rs) zero d l = omega arith
range-step b (r ∷ rs) (suc j) d l = let h = range-step b rs j d (omega arith) in omega (arith, h)

-- the uses by one more quantifier, over the box or over another one
module _ (b : ℕ) (rs : List OwnedQuant) (j : ℕ) (d : OwnedQuant) (l : j < length rs) where
  pub range-next : times b (map (λ r. r.over) (take (j + 1) rs)) ≡ times b (map (λ r. r.over) (take j rs)) + cond ((get_or rs j d).over == b) 1 0
  range-next = ap (λ (m : ℕ). times b (map (λ r. r.over) (take m rs))) (add-one j) ∙ range-step b rs j d l

  pub range-used : (get_or rs j d).over ≡ b → times b (map (λ r. r.over) (take (j + 1) rs)) ≡ times b (map (λ r. r.over) (take j rs)) + 1
  range-used e = range-next ∙ ap (λ (t : Bool). times b (map (λ r. r.over) (take j rs)) + cond t 1 0) (eq-eqb (get_or rs j d).over b e)

  pub range-passed : ((get_or rs j d).over ≡ b → ⊥) → times b (map (λ r. r.over) (take (j + 1) rs)) ≡ times b (map (λ r. r.over) (take j rs)) + 0
  range-passed n = range-next ∙ ap (λ (t : Bool). times b (map (λ r. r.over) (take j rs)) + cond t 1 0) (ne_eqb (get_or rs j d).over b n)

pub times-taken : (b : ℕ) (rs : List OwnedQuant) (j : ℕ) → times b (map (λ r. r.over) (take j rs)) ≤ times b (map (λ r. r.over) rs)
times-taken b [] zero = omega arith
times-taken b [] (suc j) = omega arith
times-taken b (r ∷ rs) zero = omega arith
times-taken b (r ∷ rs) (suc j) = let h = times-taken b rs j in omega (arith, h)

-- the uses by one more box
pub uses-step : (b : ℕ) (ns : List Node) (i : ℕ) (n : Node) → slice_get ns i ≡ Some n → times b (overs_in (take (i + 1) ns)) ≡ times b (overs_in (take i ns)) + times b (overs_of n)
uses-step b ns i n e = ap (λ (j : ℕ). times b (overs_in (take j ns))) (add-one i) ∙ uses-more b ns i n e

-- ---- kept numbers

-- one is added to the number of o
pub one-more : (uses : List ℕ) (o v d x : ℕ) → o < length uses → v ≡ get_or uses o d → get_or (set uses o (v + 1)) x 0 ≡ get_or uses x 0 + cond (o == x) 1 0
one-more uses o v d x l e =
    read-set uses o (v + 1) 0 x l
    ∙ elim (cases_Bool (o == x)) [
      | inl t ↦ (
          let same : get_or uses o d ≡ get_or uses x 0 = read-within uses o d 0 l ∙ ap (λ (y : ℕ). get_or uses y 0) (eqb-true o x t) in
          let w : v + 1 ≡ get_or uses x 0 + 1 = omega (arith, e, same) in
          ap (λ (b : Bool). cond b (v + 1) (get_or uses x 0)) t ∙ w ∙ sym (ap (λ (b : Bool). get_or uses x 0 + cond b 1 0) t))
      | inr f ↦ (
          let w : get_or uses x 0 ≡ get_or uses x 0 + 0 = omega arith in
          ap (λ (b : Bool). cond b (v + 1) (get_or uses x 0)) f ∙ w ∙ sym (ap (λ (b : Bool). get_or uses x 0 + cond b 1 0) f))
    ]

-- a number that isn't kept isn't one that is
pub one-past : (uses : List ℕ) (o x : ℕ) → (o < length uses → ⊥) → x < length uses → get_or uses x 0 ≡ get_or uses x 0 + cond (o == x) 1 0
one-past uses o x n l =
    let f : (o == x) ≡ false = ne_eqb o x (λ e. n (omega (arith, e, l))) in
    let w : get_or uses x 0 ≡ get_or uses x 0 + 0 = omega arith in
    w ∙ sym (ap (λ (b : Bool). get_or uses x 0 + cond b 1 0) f)
