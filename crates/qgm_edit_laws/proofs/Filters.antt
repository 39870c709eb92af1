-- A filter that goes through the loops of selects.
use Rattle.std.proofs.Common.{ℕ, ◌==◌, ◌≡◌, ◌≤◌, cond, Bool, true, false, List, [], ◌∷◌, ◌++◌, map, Some, refl, sym, ap, ap₂, subst, ◌∙◌, inl, inr, arith}
use Rattle.std.proofs.lemmas.Bool.{cases_Bool, eq-eqb}
use mathlib.Core.Path.{fun_ext}
use Rattle.row_bag.specs.Bags.{bind, keep, unit}
use Rattle.row_bag.proofs.Binds.{bind-bind, bind-keep, keep-bind, unit-bind}
use Rattle.sql_value.specs.declared.cell.Cell.{Cell}
use Rattle.sql_value.specs.declared.level.Level.{Level}
use Rattle.qgm_core.specs.Boxes.{is_quant}
use Rattle.qgm_core.specs.Kinds.{is_F}
use Rattle.list_laws.specs.Lists.{In, first, times}
use Rattle.qgm_core.specs.declared.owned.OwnedQuant.{OwnedQuant}
use Rattle.qgm_meaning.specs.Meaning.{Family, over_each, rows_found}
use Rattle.qgm_meaning.specs.Values.{Bag, Environment, bound, row_of}
use Rattle.list_laws.proofs.Counting.{in-times}
use Rattle.list_laws.proofs.Membership.{eq-itself}

-- a filter after the loops is a filter in each
pub each-bind : (rs : List OwnedQuant) (s : Family) (give : Environment → Bag) (k : List Cell → Bag) (e : Environment) → over_each rs s (λ e. bind (give e) k) e ≡ bind (over_each rs s give e) k
each-bind [] s give k e = refl
each-bind (r ∷ rs) s give k e = elim (is_F r.kind) as (λ f. ◌≡◌ {A = Bag} (cond f (bind (s r.id e) (λ cells. over_each rs s (λ e. bind (give e) k) (bound r.id cells e))) (over_each rs s (λ e. bind (give e) k) e)) (bind (cond f (bind (s r.id e) (λ cells. over_each rs s give (bound r.id cells e))) (over_each rs s give e)) k)) [
  | true ↦ ap (λ (h : List Cell → Bag). bind (s r.id e) h) (fun_ext (λ cells. each-bind rs s give k (bound r.id cells e))) ∙ sym (bind-bind (s r.id e) (λ cells. over_each rs s give (bound r.id cells e)) k)
  | false ↦ each-bind rs s give k e
]

-- one quantifier alone ranges over a box that is used once
pub over-once : (x y : OwnedQuant) (rs : List OwnedQuant) (c : ℕ) → times c (map (λ (r : OwnedQuant). r.over) rs) ≤ 1 → In x rs → In y rs → x.over ≡ c → y.over ≡ c → (x.id == y.id) ≡ true
over-once x y [] c few i j e h = elim i [ ]
over-once x y (z ∷ rs) c few i j e h = elim i [
  | inl a ↦ elim j [
    | inl d ↦ eq-eqb x.id y.id (ap (λ (u : OwnedQuant). u.id) (sym a ∙ d))
    | inr l ↦ absurd (let k : 1 ≤ times c (map (λ (r : OwnedQuant). r.over) rs) = subst (λ u. 1 ≤ times u (map (λ (r : OwnedQuant). r.over) rs)) h (in-times (λ (r : OwnedQuant). r.over) y rs l) in
        let n : ◌≡◌ {A = ℕ} (cond (z.over == c) 1 0) 1 = ap (λ (t : Bool). cond {A = ℕ} t 1 0) (eq-eqb z.over c (ap (λ (u : OwnedQuant). u.over) a ∙ e)) in omega arith)
  ]
  | inr l ↦ elim j [
    | inl d ↦ absurd (let k : 1 ≤ times c (map (λ (r : OwnedQuant). r.over) rs) = subst (λ u. 1 ≤ times u (map (λ (r : OwnedQuant). r.over) rs)) e (in-times (λ (r : OwnedQuant). r.over) x rs l) in
        let n : ◌≡◌ {A = ℕ} (cond (z.over == c) 1 0) 1 = ap (λ (t : Bool). cond {A = ℕ} t 1 0) (eq-eqb z.over c (ap (λ (u : OwnedQuant). u.over) d ∙ h)) in omega arith)
    | inr o ↦ over-once x y rs c (omega arith) l o e h
  ]
]

-- what a quantifier gives is filtered, and so is what is given after it is bound: the filter goes into the loops
module _ (s' s : Family) (q : ℕ) (test : List Cell → Level) (give' give : Environment → Bag) (same : (x : ℕ) → (x == q) ≡ false → s' x ≡ s x)
    (filtered : (e : Environment) → s' q e ≡ bind (s q e) (λ cells. keep (test cells) (unit cells))) (given : (e : Environment) → keep (test (row_of q e)) (give' e) ≡ give e) where
  -- after q is bound
  later : (rs : List OwnedQuant) → ((x : OwnedQuant) → In x rs → (x.id == q) ≡ false) → (e : Environment) → keep (test (row_of q e)) (over_each rs s' give' e) ≡ over_each rs s give e
  later [] h e = given e
  later (x ∷ rs) h e = elim (is_F x.kind) as (λ t. ◌≡◌ {A = Bag} (keep (test (row_of q e)) (cond t (bind (s' x.id e) (λ cells. over_each rs s' give' (bound x.id cells e))) (over_each rs s' give' e))) (cond t (bind (s x.id e) (λ cells. over_each rs s give (bound x.id cells e))) (over_each rs s give e))) [
    | true ↦
        bind-keep (test (row_of q e)) (s' x.id e) (λ cells. over_each rs s' give' (bound x.id cells e))
        ∙ ap₂ (λ (rows : Bag) (h : List Cell → Bag). bind rows h) (ap (λ (z : Environment → Bag). z e) (same x.id (h x (inl refl)))) (fun_ext (λ cells.
        ap (λ z. keep (test z) (over_each rs s' give' (bound x.id cells e))) (sym (ap (λ (t : Bool). cond t cells (row_of q e)) (h x (inl refl)))) ∙ later rs (λ z j. h z (inr j)) (bound x.id cells e)))
    | false ↦ later rs (λ z j. h z (inr j)) e
  ]

  -- and before
  pub each-filtered : (us : List OwnedQuant) (r : OwnedQuant) (vs : List OwnedQuant) → r.id ≡ q → is_F r.kind ≡ true → ((x : OwnedQuant) → In x us → (x.id == q) ≡ false) → ((x : OwnedQuant) → In x vs → (x.id == q) ≡ false)
      → (e : Environment) → over_each (us ++ r ∷ vs) s' give' e ≡ over_each (us ++ r ∷ vs) s give e
  each-filtered [] r vs own f h k e =
      ap₂ (λ (t : Bool) (y : ℕ). cond t (bind (s' y e) (λ cells. over_each vs s' give' (bound y cells e))) (over_each vs s' give' e)) f own
      ∙ ap (λ z. bind z (λ cells. over_each vs s' give' (bound q cells e))) (filtered e) ∙ bind-bind (s q e) (λ cells. keep (test cells) (unit cells)) (λ cells. over_each vs s' give' (bound q cells e))
      ∙ ap (λ (h : List Cell → Bag). bind (s q e) h) (fun_ext (λ cells.
      sym (keep-bind (test cells) (unit cells) (λ v. over_each vs s' give' (bound q v e))) ∙ ap (keep (test cells)) (unit-bind cells (λ v. over_each vs s' give' (bound q v e)))
      ∙ ap (λ z. keep (test z) (over_each vs s' give' (bound q cells e))) (sym (ap (λ (t : Bool). cond t cells (row_of q e)) (eq-itself q)))
      ∙ later vs k (bound q cells e)))
      ∙ sym (ap₂ (λ (t : Bool) (y : ℕ). cond t (bind (s y e) (λ cells. over_each vs s give (bound y cells e))) (over_each vs s give e)) f own)
  each-filtered (x ∷ us) r vs own f h k e = elim (is_F x.kind) as (λ t. ◌≡◌ {A = Bag} (cond t (bind (s' x.id e) (λ cells. over_each (us ++ r ∷ vs) s' give' (bound x.id cells e))) (over_each (us ++ r ∷ vs) s' give' e)) (cond t (bind (s x.id e) (λ cells. over_each (us ++ r ∷ vs) s give (bound x.id cells e))) (over_each (us ++ r ∷ vs) s give e))) [
    | true ↦ ap₂ (λ (rows : Bag) (h : List Cell → Bag). bind rows h) (ap (λ (z : Environment → Bag). z e) (same x.id (h x (inl refl)))) (fun_ext (λ cells. each-filtered us r vs own f (λ z j. h z (inr j)) k (bound x.id cells e)))
    | false ↦ each-filtered us r vs own f (λ z j. h z (inr j)) k e
  ]

-- what is found under quantifier x where the boxes that such quantifiers range over give the same
pub found-same : (f' f : Family) (x : ℕ) (rs : List OwnedQuant) → ((y : OwnedQuant) → In y rs → (y.id == x) ≡ true → f' y.over ≡ f y.over) → rows_found (first (is_quant x) rs) f' ≡ rows_found (first (is_quant x) rs) f
found-same f' f x [] h = refl
found-same f' f x (y ∷ rs) h = elim (cases_Bool (y.id == x)) [
  | inl t ↦ ap (λ (z : Bool). rows_found (cond z (Some y) (first (is_quant x) rs)) f') t ∙ h y (inl refl) t ∙ sym (ap (λ (z : Bool). rows_found (cond z (Some y) (first (is_quant x) rs)) f) t)
  | inr t ↦ ap (λ (z : Bool). rows_found (cond z (Some y) (first (is_quant x) rs)) f') t ∙ found-same f' f x rs (λ z j. h z (inr j)) ∙ sym (ap (λ (z : Bool). rows_found (cond z (Some y) (first (is_quant x) rs)) f) t)
]
