-- A select in a select is one select: the rows of the F quantifiers.
use Rattle.std.proofs.Common.{◌≡◌, cond, Bool, true, false, List, [], ◌∷◌, refl, ap, ◌∙◌}
use mathlib.Core.Path.{fun_ext}
use Rattle.row_bag.specs.Bags.{Alike, bind, keep, unit}
use Rattle.row_bag.proofs.Agreement.{alike-bind, alike-refl, alike-same, alike-trans}
use Rattle.row_bag.proofs.Binds.{bind-bind, bind-keep, unit-bind}
use Rattle.sql_value.specs.declared.cell.Cell.{Cell}
use Rattle.sql_value.specs.declared.level.Level.{Level}
use Rattle.qgm_core.specs.declared.owned.OwnedQuant.{OwnedQuant}
use Rattle.qgm_core.specs.Kinds.{is_F}
use Rattle.qgm_meaning.specs.Laws.{Stays}
use Rattle.qgm_meaning.specs.Meaning.{Family, over_each}
use Rattle.qgm_meaning.specs.Values.{Bag, Environment, bound}
use Rattle.qgm_meaning.proofs.Alikes.{bind-within}

-- ---- laws of over_each

-- what is bound after is bound within
pub over_each-bind : (rs : List OwnedQuant) (s : Family) (give : Environment → Bag) (k : List Cell → Bag) (env : Environment) → bind (over_each rs s give env) k ≡ over_each rs s (λ e. bind (give e) k) env
over_each-bind [] s give k env = refl
over_each-bind (r ∷ rs) s give k env =
    elim (is_F r.kind) as (λ t. ◌≡◌ {A = Bag}
    (bind (cond t (bind (s r.id env) (λ cells. over_each rs s give (bound r.id cells env))) (over_each rs s give env)) k)
    (cond t (bind (s r.id env) (λ cells. over_each rs s (λ e. bind (give e) k) (bound r.id cells env))) (over_each rs s (λ e. bind (give e) k) env))) [
      | true ↦ bind-bind (s r.id env) (λ cells. over_each rs s give (bound r.id cells env)) k ∙ ap (bind (s r.id env)) (fun_ext (λ cells. over_each-bind rs s give k (bound r.id cells env)))
      | false ↦ over_each-bind rs s give k env
    ]

pub over_each-keep : (rs : List OwnedQuant) (s : Family) (give : Environment → Bag) (l : Level) (env : Environment) → keep l (over_each rs s give env) ≡ over_each rs s (λ e. keep l (give e)) env
over_each-keep [] s give l env = refl
over_each-keep (r ∷ rs) s give l env =
    elim (is_F r.kind) as (λ t. ◌≡◌ {A = Bag}
    (keep l (cond t (bind (s r.id env) (λ cells. over_each rs s give (bound r.id cells env))) (over_each rs s give env)))
    (cond t (bind (s r.id env) (λ cells. over_each rs s (λ e. keep l (give e)) (bound r.id cells env))) (over_each rs s (λ e. keep l (give e)) env))) [
      | true ↦ bind-keep l (s r.id env) (λ cells. over_each rs s give (bound r.id cells env)) ∙ ap (bind (s r.id env)) (fun_ext (λ cells. over_each-keep rs s give l (bound r.id cells env)))
      | false ↦ over_each-keep rs s give l env
    ]

-- what is given where all are bound may change to what agrees in the environments that pass
pub over_each-within : (passes : Environment → Bool) (s : Family) (f g : Environment → Bag) (rs : List OwnedQuant) → Stays passes s rs → ((env : Environment) → passes env ≡ true → Alike (f env) (g env)) → (env : Environment) → passes env ≡ true
    → Alike (over_each rs s f env) (over_each rs s g env)
over_each-within passes s f g [] y h env p = h env p
over_each-within passes s f g (r ∷ rs) y h env p =
    elim (is_F r.kind) as (λ t. is_F r.kind ≡ t → Alike
    (cond t (bind (s r.id env) (λ cells. over_each rs s f (bound r.id cells env))) (over_each rs s f env))
    (cond t (bind (s r.id env) (λ cells. over_each rs s g (bound r.id cells env))) (over_each rs s g env))) [
      | true ↦ λ t. bind-within (s r.id env) (λ cells. over_each rs s f (bound r.id cells env)) (λ cells. over_each rs s g (bound r.id cells env))
          (λ cells there. over_each-within passes s f g rs y.1 h (bound r.id cells env) (y.0 env cells t p there))
      | false ↦ λ t. over_each-within passes s f g rs y.1 h env p
    ] refl

-- one row: it may be bound, or not
pub one-row : {rows : Bag} {cells : List Cell} (f : List Cell → Bag) → Alike rows (unit cells) → Alike (bind rows f) (f cells)
one-row {cells = cells} f h = alike-trans (alike-bind h (λ c. alike-refl (f c))) (alike-same (unit-bind cells f))
