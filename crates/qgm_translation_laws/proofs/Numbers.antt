-- The quantifiers of the boxes that are laid for a query have numbers of their own.
use Rattle.std.proofs.Common.{◌≡◌, ◌≤◌, ◌<◌, ◌==◌, ◌+◌, ◌||◌, cond, ℕ, Bool, true, false, List, [], ◌∷◌, ◌++◌, map, refl, ap, ap₂, sym, ◌∙◌, arith}
use Rattle.std.specs.List.{list_any}
use Rattle.sql_ast.specs.Declarations.{Declared}
use Rattle.sql_ast.specs.Syntax as s
use Rattle.qgm_core.specs.Boxes.{ids_in, ids_of, is_quant}
use Rattle.list_laws.specs.Lists.{holds, times}
use Rattle.qgm_core.specs.Numbered.{Under}
use Rattle.qgm_core.specs.declared.node.Node.{Node}
use Rattle.qgm_core.specs.declared.owned.OwnedQuant.{OwnedQuant}
use Rattle.qgm_translation.specs.Lay.{Laid}
use Rattle.qgm_translation.specs.Lays.{owned}
use Rattle.qgm_translation.specs.Sources.{Sources}
use Rattle.qgm_translation_laws.specs.Joined.{ValidQuery}
use Rattle.qgm_translation_laws.specs.Laid.{IsNumbered, known_in, laid_for}
use Rattle.qgm_translation_laws.proofs.LaidGraphs.{laid_is}
use Rattle.list_laws.proofs.Membership.{eq-itself}
use Rattle.list_laws.proofs.Counting.{each-once}

-- a number that is held is counted
held-counted : (x : ℕ) (xs : List ℕ) → holds x xs ≡ true → 1 ≤ times x xs
held-counted x [] h = absurd (cc h)
held-counted x (y ∷ ys) h = by_case (y == x) h (held-counted x ys)
  where
    by_case : (b : Bool) → (b || holds x ys) ≡ true → (holds x ys ≡ true → 1 ≤ times x ys) → 1 ≤ cond {A = ℕ} b 1 0 + times x ys
    by_case true h f = omega arith
    by_case false h f = let e = f h in omega arith

unheld : (x : ℕ) (xs : List ℕ) → times x (x ∷ xs) ≤ 1 → holds x xs ≡ false
unheld x xs h = by_case (holds x xs) refl
  where
    one : cond {A = ℕ} (x == x) 1 0 ≡ 1
    one = ap (λ (b : Bool). cond {A = ℕ} b 1 0) (eq-itself x)

    by_case : (b : Bool) → holds x xs ≡ b → b ≡ false
    by_case false e = refl
    by_case true e = absurd (let c = held-counted x xs e in let o = one in omega arith)

-- what all that are held are below
pub held-under : (m : ℕ) (xs : List ℕ) → ((q : ℕ) → holds q xs ≡ true → q < m) → Under m xs
held-under m [] h = tt
held-under m (x ∷ xs) h = (h x (ap (λ b. b || holds x xs) (eq-itself x)), held-under m xs (λ q i. h q (later (x == q) i)))
  where
    later : {c : Bool} (b : Bool) → c ≡ true → (b || c) ≡ true
    later true i = refl
    later false i = i

-- the numbers of the quantifiers of boxes are those that are owned
any-append : (q : ℕ) (xs ys : List ℕ) → holds q (xs ++ ys) ≡ (holds q xs || holds q ys)
any-append q [] ys = refl
any-append q (x ∷ xs) ys = ap (λ b. (x == q) || b) (any-append q xs ys) ∙ assoc (x == q) (holds q xs) (holds q ys)
  where
    assoc : (a b c : Bool) → (a || (b || c)) ≡ ((a || b) || c)
    assoc true b c = refl
    assoc false b c = refl

own-held : (q : ℕ) (os : List OwnedQuant) → holds q (map (λ o. o.id) os) ≡ list_any (is_quant q) os
own-held q [] = refl
own-held q (o ∷ os) = ap (λ b. (o.id == q) || b) (own-held q os)

pub owned-held : (q : ℕ) (ns : List Node) → holds q (ids_in ns) ≡ owned q ns
owned-held q [] = refl
owned-held q (n ∷ ns) = any-append q (ids_of n) (ids_in ns) ∙ ap₂ (λ a b. a || b) (own-held q n.quants) (owned-held q ns)

pub laid_numbered : (known : Sources) (catalog : Declared) (text : s.QueryText) → ValidQuery catalog text → ((name : List ℕ) → known.columns name ≡ (known_in catalog).columns name) → IsNumbered (laid_for known catalog text).boxes
laid_numbered known catalog text valid counts =
    let r : Laid = laid_for known catalog text in
    let laid = laid_is known catalog text [] [] valid counts in
    record {
      once = each-once (ids_in r.boxes.made) laid.once;
      under = held-under r.boxes.quant (ids_in r.boxes.made) (λ q h. laid.bound q (sym (owned-held q r.boxes.made) ∙ h));
    }
