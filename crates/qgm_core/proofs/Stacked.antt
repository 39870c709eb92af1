-- Boxes that are made in turn, and their numbers.
use Rattle.std.proofs.Common.{◌≡◌, ℕ, zero, suc, ◌==◌, ◌≤◌, ◌+◌, ◌++◌, cond, Bool, true, false, List, [], ◌∷◌, arith, length, refl, sym, ◌∙◌, ap, subst, inl, inr, eqb-true}
use Rattle.std.proofs.lemmas.Bool.{cases_Bool, eqb-false, or_from, or_parts}
use Rattle.std.proofs.lemmas.List.{append_assoc}
use Rattle.qgm_core.specs.Boxes.{ids_in, numbers}
use Rattle.list_laws.specs.Lists.{EachOnce, holds, without}
use Rattle.qgm_core.specs.Made.{boxes_of, made_box, on_top}
use Rattle.qgm_core.specs.Numbered.{Numbered, Under}
use Rattle.qgm_core.specs.declared.made.NewBox.{NewBox}
use Rattle.qgm_core.specs.declared.node.Node.{Node}
use Rattle.qgm_core.proofs.Fresh.{under-absent, under-weaker}

-- ---- one box more

next_on_top : (b k : ℕ) (made : List NewBox) (n : NewBox) (below : List Node) → k ≡ b + length made → on_top b (made ++ n ∷ []) below ≡ made_box k n ∷ on_top b made below
next_on_top b k [] n below e = ap (λ (i : ℕ). made_box i n ∷ below) (omega (arith, e))
next_on_top b k (m ∷ made) n below e = next_on_top (suc b) k made n (made_box b m ∷ below) (omega (arith, e))

pub made-next : (made : List NewBox) (n : NewBox) → boxes_of (made ++ n ∷ []) ≡ made_box (length made) n ∷ boxes_of made
made-next made n = next_on_top 0 (length made) made n [] (omega arith)

-- the last of those that are left goes behind what is done
pub made-more : (done : List Node) (left now : List NewBox) (n : NewBox) (k : ℕ) (new more : List Node) → left ≡ now ++ n ∷ [] → k ≡ length now → more ≡ done ++ made_box k n ∷ [] → done ++ boxes_of left ≡ new → more ++ boxes_of now ≡ new
made-more done left now n k new more e l m h =
    ap (λ (ns : List Node). ns ++ boxes_of now) (m ∙ ap (λ (i : ℕ). done ++ made_box i n ∷ []) l)
    ∙ append_assoc done (made_box (length now) n ∷ []) (boxes_of now)
    ∙ ap (λ (ns : List Node). done ++ ns) (sym (made-next now n) ∙ ap boxes_of (sym e))
    ∙ h

-- ---- numbers of boxes

stacked : (b : ℕ) (made : List NewBox) (below : List Node) → Under b (numbers below) → EachOnce (numbers below) → Under (b + length made) (numbers (on_top b made below)) × EachOnce (numbers (on_top b made below))
stacked b [] below u o = (under-weaker b (b + 0) (numbers below) (omega arith) u, o)
stacked b (n ∷ made) below u o =
    let k = stacked (suc b) made (made_box b n ∷ below) (omega arith, under-weaker b (suc b) (numbers below) (omega arith) u) (under-absent b (numbers below) u, o) in
    (under-weaker (suc b + length made) (b + suc (length made)) (numbers (on_top (suc b) made (made_box b n ∷ below))) (omega arith) k.0, k.1)

-- ---- as many numbers below m as there are

under-tight : (m : ℕ) (xs : List ℕ) → Under (suc m) xs → holds m xs ≡ false → Under m xs
under-tight m [] u h = tt
under-tight m (x ∷ xs) u h =
    let s = or_parts (x == m) (holds m xs) h in
    elim (cases_Bool (x == m)) [
      | inl t ↦ absurd (let d = s.0 in let q : ⊥ = cc in q)
      | inr f ↦ ((let d = eqb-false x m f in let l = u.0 in omega (arith, l, d)), under-tight m xs u.1 s.1)
    ]

holds-without : (p : ℕ → Bool) (x : ℕ) (xs : List ℕ) → holds x xs ≡ false → holds x (without p xs) ≡ false
holds-without p x [] h = refl
holds-without p x (y ∷ xs) h =
    let s = or_parts (y == x) (holds x xs) h in
    elim (p y) as (λ t. holds x (cond t xs (y ∷ without p xs)) ≡ false) [
      | true ↦ s.1
      | false ↦ or_from (y == x) (holds x (without p xs)) s.0 (holds-without p x xs s.1)
    ]

once-without : (p : ℕ → Bool) (xs : List ℕ) → EachOnce xs → EachOnce (without p xs)
once-without p [] o = tt
once-without p (x ∷ xs) o =
    elim (p x) as (λ t. EachOnce (cond t xs (x ∷ without p xs))) [
      | true ↦ o.1
      | false ↦ (holds-without p x xs o.0, once-without p xs o.1)
    ]

fewer : (p : ℕ → Bool) (xs : List ℕ) → length xs ≤ suc (length (without p xs))
fewer p [] = omega arith
fewer p (x ∷ xs) =
    let h = fewer p xs in
    elim (p x) as (λ t. suc (length xs) ≤ suc (length (cond t xs (x ∷ without p xs)))) [
      | true ↦ omega arith
      | false ↦ omega (arith, h)
    ]

under-without : (m : ℕ) (xs : List ℕ) → EachOnce xs → Under (suc m) xs → Under m (without (λ x. x == m) xs)
under-without m [] o u = tt
under-without m (x ∷ xs) o u =
    elim (cases_Bool (x == m)) [
      | inl t ↦ subst (λ (b : Bool). Under m (cond b xs (x ∷ without (λ x. x == m) xs))) (sym t) (under-tight m xs u.1 (subst (λ (y : ℕ). holds y xs ≡ false) (eqb-true x m t) o.0))
      | inr f ↦ subst (λ (b : Bool). Under m (cond b xs (x ∷ without (λ x. x == m) xs))) (sym f) ((let d = eqb-false x m f in let l = u.0 in omega (arith, l, d)), under-without m xs o.1 u.1)
    ]

pub once-most : (m : ℕ) (xs : List ℕ) → EachOnce xs → Under m xs → length xs ≤ m
once-most m [] o u = omega arith
once-most zero (x ∷ xs) o u = absurd (let l = u.0 in omega (arith, l))
once-most (suc m) (x ∷ xs) o u =
    let p = λ (y : ℕ). y == m in
    let h = once-most m (without p (x ∷ xs)) (once-without p (x ∷ xs) o) (under-without m (x ∷ xs) o u) in
    let l = fewer p (x ∷ xs) in
    omega (arith, h, l)

-- ---- all of them

pub numbered-made : (b q : ℕ) (made : List NewBox) → b ≡ length made → EachOnce (ids_in (boxes_of made)) → Under q (ids_in (boxes_of made)) → Numbered b q (boxes_of made)
numbered-made b q made e o u =
    let k = stacked 0 made [] tt tt in
    (under-weaker (0 + length made) b (numbers (boxes_of made)) (omega (arith, e)) k.0, k.1, u, once-most q (ids_in (boxes_of made)) o u)
