-- The F quantifiers of a select over kept rows, bound in another order.
use Rattle.std.proofs.Common.{ℕ, suc, ◌==◌, ◌≡◌, ◌<◌, cond, drop, drop-cons, get_or, length, take, Bool, true, false, List, [], ◌∷◌, ◌++◌, refl, sym, ap, subst, ◌∙◌, eqb-true, ◌⊎◌, inl, inr}
use Rattle.std.proofs.lemmas.Bool.{cases_Bool, eq-eqb}
use Rattle.std.proofs.lemmas.List.{take-append-drop}
use Rattle.std.specs.List.{remove}
use Rattle.row_bag.specs.Bags.{Alike, bind}
use Rattle.row_bag.proofs.Agreement.{alike-bind, alike-refl, alike-same, alike-swap, alike-trans}
use Rattle.sql_value.specs.declared.cell.Cell.{Cell}
use Rattle.qgm_core.specs.Kinds.{is_F}
use Rattle.list_laws.specs.Lists.{In}
use Rattle.qgm_core.specs.declared.owned.OwnedQuant.{OwnedQuant}
use Rattle.qgm_meaning.specs.Meaning.{Family, over_each}
use Rattle.qgm_meaning.specs.Values.{Bag, Environment, bound, row_of}
use Rattle.list_laws.proofs.Membership.{in-append, in-left, in-right}
use Rattle.box_exec.specs.Lasting.{Reorders}

abbrev SameBound : Environment → Environment → Type 0
SameBound d e = (x : ℕ) → row_of x d ≡ row_of x e

-- what is given goes by the rows that are bound, in whatever order
abbrev pub Goes : (Environment → Bag) → Type 0
Goes give = (d e : Environment) → SameBound d e → Alike (give d) (give e)

bound-still : (r : ℕ) (cells : List Cell) (d e : Environment) → SameBound d e → SameBound (bound r cells d) (bound r cells e)
bound-still r cells d e h x = ap (λ (rest : List Cell). cond (r == x) cells rest) (h x)

-- two bindings in either order
turned : (r t : ℕ) (a c : List Cell) (env : Environment) → (t == r) ≡ false → SameBound (bound t c (bound r a env)) (bound r a (bound t c env))
turned r t a c env n x = step (cases_Bool (t == x)) (cases_Bool (r == x))
  where
    step : (((t == x) ≡ true) ⊎ ((t == x) ≡ false)) → (((r == x) ≡ true) ⊎ ((r == x) ≡ false)) → cond (t == x) c (cond (r == x) a (row_of x env)) ≡ cond (r == x) a (cond (t == x) c (row_of x env))
    step (inl u) (inl v) = absurd (let e : t ≡ r = eqb-true t x u ∙ sym (eqb-true r x v) in let y : (t == r) ≡ true = eq-eqb t r e in let z : ⊥ = cc in z)
    step (inl u) (inr v) = rw (u, v) refl
    step (inr u) v = rw u refl

beside : (t : OwnedQuant) (us : List OwnedQuant) (r : OwnedQuant) (vs : List OwnedQuant) → In t (us ++ vs) → In t (us ++ r ∷ vs)
beside t us r vs i = elim (in-append t us vs i) [
  | inl j ↦ in-left t us (r ∷ vs) j
  | inr j ↦ in-right t us (r ∷ vs) (inr j)
]

module _ (s : Family) (looks : (q : ℕ) → Goes (s q)) where
  -- a quantifier has the same rows in every environment, as one over a kept box has
  abbrev pub Steady : OwnedQuant → Type 0
  Steady r = (d e : Environment) → Alike (s r.id d) (s r.id e)

  each-goes : (rs : List OwnedQuant) (give : Environment → Bag) → Goes give → Goes (over_each rs s give)
  each-goes [] give g d e h = g d e h
  each-goes (r ∷ rs) give g d e h =
      elim (is_F r.kind) as (λ t. Alike
      (cond t (bind (s r.id d) (λ cells. over_each rs s give (bound r.id cells d))) (over_each rs s give d))
      (cond t (bind (s r.id e) (λ cells. over_each rs s give (bound r.id cells e))) (over_each rs s give e))) [
        | true ↦ alike-bind (looks r.id d e h) (λ cells. each-goes rs give g (bound r.id cells d) (bound r.id cells e) (bound-still r.id cells d e h))
        | false ↦ each-goes rs give g d e h
      ]

  first-bound : (r : OwnedQuant) (vs : List OwnedQuant) (give : Environment → Bag) (env : Environment) → is_F r.kind ≡ true → over_each (r ∷ vs) s give env ≡ bind (s r.id env) (λ cells. over_each vs s give (bound r.id cells env))
  first-bound r vs give env f = ap (λ (t : Bool). cond t (bind (s r.id env) (λ cells. over_each vs s give (bound r.id cells env))) (over_each vs s give env)) f

  first-passed : (r : OwnedQuant) (vs : List OwnedQuant) (give : Environment → Bag) (env : Environment) → is_F r.kind ≡ false → over_each (r ∷ vs) s give env ≡ over_each vs s give env
  first-passed r vs give env f = ap (λ (t : Bool). cond t (bind (s r.id env) (λ cells. over_each vs s give (bound r.id cells env))) (over_each vs s give env)) f

  -- a quantifier that binds nothing, before another one or behind it
  passed-either : (r t : OwnedQuant) (rs : List OwnedQuant) (give : Environment → Bag) (env : Environment) → is_F r.kind ≡ false → Alike (over_each (t ∷ rs) s give env) (over_each (t ∷ r ∷ rs) s give env)
  passed-either r t rs give env u =
      elim (is_F t.kind) as (λ b. Alike
      (cond b (bind (s t.id env) (λ cells. over_each rs s give (bound t.id cells env))) (over_each rs s give env))
      (cond b (bind (s t.id env) (λ cells. over_each (r ∷ rs) s give (bound t.id cells env))) (over_each (r ∷ rs) s give env))) [
        | true ↦ alike-bind (alike-refl (s t.id env)) (λ cells. alike-same (sym (first-passed r rs give (bound t.id cells env) u)))
        | false ↦ alike-same (sym (first-passed r rs give env u))
      ]

  module _ (give : Environment → Bag) (g : Goes give) where
    pub swapped : (r t : OwnedQuant) (rs : List OwnedQuant) → (t.id == r.id) ≡ false → Steady r → Steady t → (env : Environment) → Alike (over_each (r ∷ t ∷ rs) s give env) (over_each (t ∷ r ∷ rs) s give env)
    swapped r t rs n sr st env = by (cases_Bool (is_F r.kind)) (cases_Bool (is_F t.kind))
      where
        rest : Environment → Bag
        rest = over_each rs s give

        by : ((is_F r.kind ≡ true) ⊎ (is_F r.kind ≡ false)) → ((is_F t.kind ≡ true) ⊎ (is_F t.kind ≡ false)) → Alike (over_each (r ∷ t ∷ rs) s give env) (over_each (t ∷ r ∷ rs) s give env)
        by (inr u) v = alike-trans (alike-same (first-passed r (t ∷ rs) give env u)) (passed-either r t rs give env u)
        by (inl u) (inr v) =
            alike-trans (alike-same (first-bound r (t ∷ rs) give env u))
            (alike-trans (alike-bind (alike-refl (s r.id env)) (λ cells. alike-same (first-passed t rs give (bound r.id cells env) v)))
            (alike-same (sym (first-passed t (r ∷ rs) give env v ∙ first-bound r rs give env u))))
        by (inl u) (inl v) =
            alike-trans (alike-same (first-bound r (t ∷ rs) give env u))
            (alike-trans
            (alike-bind {f = λ a. over_each (t ∷ rs) s give (bound r.id a env)} {g = λ a. bind (s t.id env) (λ c. rest (bound t.id c (bound r.id a env)))} (alike-refl (s r.id env)) (λ a.
            alike-trans (alike-same (first-bound t rs give (bound r.id a env) v)) (alike-bind (st (bound r.id a env) env) (λ c. alike-refl (rest (bound t.id c (bound r.id a env)))))))
            (alike-trans (alike-swap (s r.id env) (s t.id env) (λ a c. rest (bound t.id c (bound r.id a env))))
            (alike-trans
            (alike-bind {f = λ c. bind (s r.id env) (λ a. rest (bound t.id c (bound r.id a env)))} {g = λ c. over_each (r ∷ rs) s give (bound t.id c env)} (alike-refl (s t.id env)) (λ c.
            alike-trans (alike-bind (sr env (bound t.id c env)) (λ a. each-goes rs give g (bound t.id c (bound r.id a env)) (bound r.id a (bound t.id c env)) (turned r.id t.id a c env n)))
            (alike-same (sym (first-bound r rs give (bound t.id c env) u)))))
            (alike-same (sym (first-bound t (r ∷ rs) give env v))))))

    -- what comes behind a quantifier may change
    behind : (r : OwnedQuant) (xs ys : List OwnedQuant) → ((env : Environment) → Alike (over_each xs s give env) (over_each ys s give env)) → (env : Environment) → Alike (over_each (r ∷ xs) s give env) (over_each (r ∷ ys) s give env)
    behind r xs ys h env =
        elim (is_F r.kind) as (λ t. Alike
        (cond t (bind (s r.id env) (λ cells. over_each xs s give (bound r.id cells env))) (over_each xs s give env))
        (cond t (bind (s r.id env) (λ cells. over_each ys s give (bound r.id cells env))) (over_each ys s give env))) [
          | true ↦ alike-bind (alike-refl (s r.id env)) (λ cells. h (bound r.id cells env))
          | false ↦ h env
        ]

    -- two quantifiers, or the same one twice
    either : (t r : OwnedQuant) (rs : List OwnedQuant) → (((r.id == t.id) ≡ false) ⊎ (r ≡ t)) → Steady t → Steady r → (env : Environment) → Alike (over_each (t ∷ r ∷ rs) s give env) (over_each (r ∷ t ∷ rs) s give env)
    either t r rs (inl n) st sr env = swapped t r rs n st sr env
    either t r rs (inr e) st sr env = subst (λ (x : OwnedQuant). Alike (over_each (t ∷ x ∷ rs) s give env) (over_each (x ∷ t ∷ rs) s give env)) (sym e) (alike-refl (over_each (t ∷ t ∷ rs) s give env))

    -- a quantifier before those that it stood behind
    front : (us : List OwnedQuant) (r : OwnedQuant) (vs : List OwnedQuant) → ((t : OwnedQuant) → In t us → (((r.id == t.id) ≡ false) ⊎ (r ≡ t)) × Steady t) → Steady r → (env : Environment) → Alike (over_each (us ++ r ∷ vs) s give env) (over_each (r ∷ (us ++ vs)) s give env)
    front [] r vs apart sr env = alike-refl (over_each (r ∷ vs) s give env)
    front (t ∷ us) r vs apart sr env =
        alike-trans (behind t (us ++ r ∷ vs) (r ∷ (us ++ vs)) (λ e. front us r vs (λ q i. apart q (inr i)) sr e) env)
        (either t r (us ++ vs) (apart t (inl refl)).0 (apart t (inl refl)).1 sr env)

    -- all of them in another order
    pub in-order : (left rs : List OwnedQuant) → Reorders left rs → ((r t : OwnedQuant) → In r left → In t left → ((r.id == t.id) ≡ false) ⊎ (r ≡ t)) → ((t : OwnedQuant) → In t left → Steady t) → (env : Environment)
        → Alike (over_each left s give env) (over_each rs s give env)
    in-order left [] h apart steady env = alike-same (ap (λ (xs : List OwnedQuant). over_each xs s give env) h)
    in-order left (r ∷ rs) h apart steady env =
        let us = h.0 in
        let vs = h.1.0 in
        let e : left ≡ us ++ r ∷ vs = h.1.1.0 in
        let within : (t : OwnedQuant) → In t (us ++ r ∷ vs) → In t left = λ t. subst (In t) (sym e) in
        let first : In r left = within r (in-right r us (r ∷ vs) (inl refl)) in
        let others : (t : OwnedQuant) → In t (us ++ vs) → In t left = λ t i. within t (beside t us r vs i) in
        subst (λ (xs : List OwnedQuant). Alike (over_each xs s give env) (over_each (r ∷ rs) s give env)) (sym e)
        (alike-trans
        (front us r vs (λ t i. (apart r t first (within t (in-left t us (r ∷ vs) i)), steady t (within t (in-left t us (r ∷ vs) i)))) (steady r first) env)
        (behind r (us ++ vs) rs (λ d. in-order (us ++ vs) rs h.1.1.1 (λ x t i j. apart x t (others x i) (others t j)) (λ t i. steady t (others t i)) d) env))

-- quantifiers in another order are the same
pub reordered-in : (left rs : List OwnedQuant) → Reorders left rs → (t : OwnedQuant) → In t rs → In t left
reordered-in left [] h t i = elim i [ ]
reordered-in left (r ∷ rs) h t i = subst (In t) (sym h.1.1.0) (elim i [
  | inl e ↦ in-right t h.0 (r ∷ h.1.0) (inl e)
  | inr j ↦ beside t h.0 r h.1.0 (reordered-in (h.0 ++ h.1.0) rs h.1.1.1 t j)
])

-- each in its turn
pub reorders-itself : (rs : List OwnedQuant) → Reorders rs rs
reorders-itself [] = refl
reorders-itself (r ∷ rs) = ([], (rs, (refl, reorders-itself rs)))

-- one is taken from among those that are left
pub taken : (left : List OwnedQuant) (i : ℕ) (r : OwnedQuant) → i < length left → r ≡ get_or left i r → (rest : List OwnedQuant) → Reorders (remove left i) rest → Reorders left (r ∷ rest)
taken left i r l at rest h =
    (take i left, (drop (suc i) left, (sym (take-append-drop i left) ∙ ap (λ (ys : List OwnedQuant). take i left ++ ys) (drop-cons left i r l ∙ ap (λ (x : OwnedQuant). x ∷ drop (suc i) left) (sym at)), h)))
