-- A select in a select is one select: the rows of the F quantifiers, of which alone it is asked.
use Rattle.std.proofs.Common.{ℕ, ◌==◌, ◌≡◌, cond, Bool, true, false, List, [], ◌∷◌, ◌++◌, refl, sym, ap, ap₂, ◌∙◌, eqb-true, inl, inr}
use Rattle.std.specs.List.{list_any}
use Rattle.std.proofs.lemmas.Bool.{cases_Bool, eq-eqb}
use Rattle.row_bag.specs.Bags.{bind, keep, unit}
use Rattle.row_bag.proofs.Binds.{keep-bind, unit-bind}
use Rattle.sql_value.specs.declared.cell.Cell.{Cell}
use Rattle.sql_value.specs.declared.level.Level.{Level}
use Rattle.qgm_core.specs.declared.owned.OwnedQuant.{OwnedQuant}
use Rattle.qgm_core.specs.Kinds.{is_F}
use Rattle.qgm_core.specs.Boxes.{is_quant}
use Rattle.qgm_meaning.specs.Meaning.{Family, over_each}
use Rattle.qgm_meaning.specs.Merging.{Merges}
use Rattle.qgm_meaning.specs.Values.{Bag, Environment, bound, row_of}
use Rattle.qgm_meaning.proofs.Joined.{over_each-append}
use Rattle.qgm_meaning.proofs.Merged.{over_each-bind, over_each-keep}
use Rattle.list_laws.specs.Lists.{In}
use mathlib.Core.Path.{fun_ext}
use Rattle.list_laws.proofs.Membership.{any-from}

-- in two environments that stand in a relation which each binding of an F quantifier of these keeps
pub over_each-related : (R : Environment → Environment → Type 0) (s t : Family) (f g : Environment → Bag) (rs : List OwnedQuant)
    → ((r : OwnedQuant) → In r rs → is_F r.kind ≡ true → (d e : Environment) → R d e → s r.id d ≡ t r.id e)
    → ((r : OwnedQuant) → In r rs → is_F r.kind ≡ true → (cells : List Cell) (d e : Environment) → R d e → R (bound r.id cells d) (bound r.id cells e))
    → ((d e : Environment) → R d e → f d ≡ g e) → (d e : Environment) → R d e → over_each rs s f d ≡ over_each rs t g e
over_each-related R s t f g [] same kept last d e h = last d e h
over_each-related R s t f g (r ∷ rs) same kept last d e h =
    elim (is_F r.kind) as (λ b. is_F r.kind ≡ b → ◌≡◌ {A = Bag}
    (cond b (bind (s r.id d) (λ cells. over_each rs s f (bound r.id cells d))) (over_each rs s f d))
    (cond b (bind (t r.id e) (λ cells. over_each rs t g (bound r.id cells e))) (over_each rs t g e))) [
      | true ↦ λ b. ap₂ (λ (rows : Bag) (k : List Cell → Bag). bind rows k) (same r (inl refl) b d e h) (fun_ext (λ cells. over_each-related R s t f g rs (λ q i. same q (inr i)) (λ q i. kept q (inr i)) last (bound r.id cells d) (bound r.id cells e) (kept r (inl refl) b cells d e h)))
      | false ↦ λ b. over_each-related R s t f g rs (λ q i. same q (inr i)) (λ q i. kept q (inr i)) last d e h
    ] refl

-- the outer box has the quantifiers us, rq, vs, which give s; the merged one us, ms, vs, which give t; the inner one has this level and these cells
pub record Mergeable (us : List OwnedQuant) (rq : OwnedQuant) (ms vs : List OwnedQuant) (s t : Family) (level : Environment → Level) (cells : Environment → List Cell) (f g : Environment → Bag) : Type 0 where
  pub is_f : is_F rq.kind ≡ true
  -- the quantifiers before it don't look it up
  pub before : (r : OwnedQuant) → In r us → is_F r.kind ≡ true → (env : Environment) → s r.id env ≡ t r.id env
  -- it ranges over the inner box
  pub inner : (env : Environment) → s rq.id env ≡ over_each ms t (λ e. keep (level e) (unit (cells e))) env
  -- those after it look up none of the inner box's
  pub after : (r : OwnedQuant) → In r vs → is_F r.kind ≡ true → (d e : Environment) → Merges ms rq.id cells d e → s r.id d ≡ t r.id e
  -- nor does the inner box look up those
  pub level-still : (r : OwnedQuant) → In r vs → is_F r.kind ≡ true → (row : List Cell) (e : Environment) → level (bound r.id row e) ≡ level e
  pub cells-still : (r : OwnedQuant) → In r vs → is_F r.kind ≡ true → (row : List Cell) (e : Environment) → cells (bound r.id row e) ≡ cells e
  pub apart : (r : OwnedQuant) → In r vs → is_F r.kind ≡ true → (r.id == rq.id) ≡ false
  -- what is given in the end
  pub last : (d e : Environment) → Merges ms rq.id cells d e → keep (level e) (f d) ≡ g e

-- the outer box has quantifiers us, q, vs; the inner one, which q ranges over, ms, its level and its cells
module _ (us : List OwnedQuant) (rq : OwnedQuant) (ms vs : List OwnedQuant) (s t : Family) (level : Environment → Level) (cells : Environment → List Cell) (f g : Environment → Bag) where
  module _ (h : Mergeable us rq ms vs s t level cells f g) where
    -- what the outer box's other quantifiers give, for each row of the inner box
    merged-after : (d e : Environment) → Merges ms rq.id cells d e → keep (level e) (over_each vs s f d) ≡ over_each vs t g e
    merged-after d e m =
        over_each-keep vs s f (level e) d
        ∙ over_each-related (λ x y. (level y ≡ level e) × Merges ms rq.id cells x y) s t (λ x. keep (level e) (f x)) g vs
        (λ r u v x y w. h.after r u v x y w.1)
        (λ r u v row x y w. (
          h.level-still r u v row y ∙ w.0,
          record {
            others = λ z n k. elim (cases_Bool (r.id == z)) [ inl b ↦ rw b refl | inr b ↦ rw b (w.1.others z n k) ];
            own = ap (λ (b : Bool). cond b row (row_of rq.id x)) (h.apart r u v) ∙ w.1.own ∙ sym (h.cells-still r u v row y);
          },
        ))
        (λ x y w. ap (λ (l : Level). keep l (f x)) (sym w.0) ∙ h.last x y w.1) d e (refl, m)

    -- the inner box's, in an environment of the outer one
    merged-inner : (env : Environment) → bind (s rq.id env) (λ row. over_each vs s f (bound rq.id row env)) ≡ over_each ms t (over_each vs t g) env
    merged-inner env =
        ap (λ (rows : Bag). bind rows (λ row. over_each vs s f (bound rq.id row env))) (h.inner env)
        ∙ over_each-bind ms t (λ e. keep (level e) (unit (cells e))) (λ row. over_each vs s f (bound rq.id row env)) env
        ∙ over_each-related (λ x y. (x ≡ y) × ((z : ℕ) → list_any (is_quant z) ms ≡ false → row_of z env ≡ row_of z y)) t t
        (λ e. bind (keep (level e) (unit (cells e))) (λ row. over_each vs s f (bound rq.id row env))) (over_each vs t g) ms
        (λ r u v x y w. ap (t r.id) w.0)
        (λ r u v row x y w. (
          ap (bound r.id row) w.0,
          (λ z k. elim (cases_Bool (r.id == z)) [
            | inl b ↦ absurd (let e : r.id ≡ z = eqb-true r.id z b in let v : list_any (is_quant z) ms ≡ true = any-from (is_quant z) r ms u b in let n : ⊥ = cc in n)
            | inr b ↦ rw b (w.1 z k)
          ]),
        ))
        (λ x y w.
        ap (λ (e : Environment). bind (keep (level e) (unit (cells e))) (λ row. over_each vs s f (bound rq.id row env))) w.0
        ∙ sym (keep-bind (level y) (unit (cells y)) (λ row. over_each vs s f (bound rq.id row env)))
        ∙ ap (keep (level y)) (unit-bind (cells y) (λ row. over_each vs s f (bound rq.id row env)))
        ∙ merged-after (bound rq.id (cells y) env) y (record {
          others = λ z n k. ap (λ (b : Bool). cond b (cells y) (row_of z env)) (turned z rq.id n) ∙ w.1 z k;
          own = ap (λ (b : Bool). cond b (cells y) (row_of rq.id env)) (eq-eqb rq.id rq.id refl);
        }))
        env env (refl, λ z k. refl)
      where
        turned : (x q : ℕ) → (x == q) ≡ false → (q == x) ≡ false
        turned x q h = elim (cases_Bool (q == x)) [
          | inl u ↦ absurd (let e : q ≡ x = eqb-true q x u in let v : (x == q) ≡ true = eq-eqb x q (sym e) in let w : ⊥ = cc in w)
          | inr u ↦ u
        ]

    pub merged : (env : Environment) → over_each (us ++ rq ∷ vs) s f env ≡ over_each (us ++ (ms ++ vs)) t g env
    merged env =
        ap (λ (k : Environment → Bag). k env) (over_each-append us (rq ∷ vs) s f)
        ∙ over_each-related (λ x y. x ≡ y) s t (over_each (rq ∷ vs) s f) (over_each (ms ++ vs) t g) us
        (λ r u v x y w. h.before r u v x ∙ ap (t r.id) w) (λ r u v row x y w. ap (bound r.id row) w)
        (λ x y w. ap (λ (b : Bool). cond b (bind (s rq.id x) (λ row. over_each vs s f (bound rq.id row x))) (over_each vs s f x)) h.is_f ∙ merged-inner x ∙ ap (over_each ms t (over_each vs t g)) w ∙ sym (ap (λ (k : Environment → Bag). k y) (over_each-append ms vs t g))) env env refl
        ∙ sym (ap (λ (k : Environment → Bag). k env) (over_each-append us (ms ++ vs) t g))
