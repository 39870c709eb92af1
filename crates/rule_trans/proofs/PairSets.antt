-- A pair of columns that is added to others.
use Rattle.std.proofs.Common.{ℕ, ◌==◌, ◌≡◌, ◌&&◌, ◌||◌, Bool, true, false, refl, sym, ap, ap₂, ◌∙◌, eqb-true}
use Rattle.std.proofs.lemmas.Bool.{eq-eqb}
use Rattle.qgm_terms.specs.declared.named.Column.{Column}
use Rattle.rule_trans.specs.ColumnPairs.{same_pair}
use Rattle.rule_trans.specs.Equalities.{is_of, is_same}
use Rattle.rule_trans.specs.declared.equalities.Equality.{Equality}

both-ways : (s t : Bool) → (s ≡ true → t ≡ true) → (t ≡ true → s ≡ true) → s ≡ t
both-ways true t f h = sym (f refl)
both-ways false true f h = h refl
both-ways false false f h = refl

eqb-same : (m n : ℕ) → (m == n) ≡ (n == m)
eqb-same m n = both-ways (m == n) (n == m) (λ h. eq-eqb n m (sym (eqb-true m n h))) (λ h. eq-eqb m n (sym (eqb-true n m h)))

and-four : (p q r : Bool) → (p && (q && r)) ≡ ((p && q) && r)
and-four true q r = refl
and-four false q r = refl

or-three : (p q r : Bool) → (p || (q || r)) ≡ ((p || q) || r)
or-three true q r = refl
or-three false q r = refl

or-back : (p q : Bool) → (p || q) ≡ (q || p)
or-back true true = refl
or-back true false = refl
or-back false true = refl
or-back false false = refl

and-back : (p q : Bool) → (p && q) ≡ (q && p)
and-back true true = refl
and-back true false = refl
and-back false true = refl
and-back false false = refl

is-back : (a b : Column) → is_same a b ≡ is_same b a
is-back a b = ap₂ (λ (s t : Bool). s && t) (eqb-same a.quant b.quant) (eqb-same a.place b.place)

-- the pair x and y is a and c
pub pair_is : (x y a c : Column) → same_pair (record { quant = x.quant; place = x.place; other_quant = y.quant; other_place = y.place }) (record { quant = a.quant; place = a.place; other_quant = c.quant; other_place = c.place }) ≡ (is_same a x && is_same c y)
pair_is x y a c = and-four (x.quant == a.quant) (x.place == a.place) (is_same y c) ∙ ap₂ (λ (s t : Bool). s && t) (is-back x a) (is-back y c)

-- both orders of an equality are added
pub both_added : (a c : Column) (e : Equality) (old : Bool) → ((is_same a e.right && is_same c e.left) || ((is_same a e.left && is_same c e.right) || old)) ≡ (is_of a c e || old)
both_added a c e old =
    or-three (is_same a e.right && is_same c e.left) (is_same a e.left && is_same c e.right) old
    ∙ ap (λ (t : Bool). t || old) (or-back (is_same a e.right && is_same c e.left) (is_same a e.left && is_same c e.right) ∙ ap (λ (t : Bool). (is_same a e.left && is_same c e.right) || t) (and-back (is_same a e.right) (is_same c e.left)))

-- one is added, and the rest remains
pub rest_added : (one old rest : Bool) → (old || (one || rest)) ≡ ((one || old) || rest)
rest_added true true rest = refl
rest_added true false rest = refl
rest_added false old rest = refl
