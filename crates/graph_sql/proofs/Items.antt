-- The names of a box by its items, and the table of what is made of boxes.
use Rattle.std.proofs.Common.{◌≡◌, refl, ℕ, ◌==◌, List, [], ◌∷◌, Bool, true, false, Some, cond, map, ap, ap₂, ◌∙◌}
use mathlib.Core.Path.{fun_ext}
use Rattle.list_laws.specs.Lists.{first}
use Rattle.qgm_core.specs.Boxes.{is_quant, width}
use Rattle.qgm_core.specs.declared.node.Node.{Node}
use Rattle.qgm_core.specs.declared.owned.OwnedQuant.{OwnedQuant}
use Rattle.graph_print.specs.Places.{place_in}
use Rattle.graph_sql.specs.Bodies.{body_sql}
use Rattle.graph_sql.specs.Readings.{Names}
use Rattle.graph_sql.specs.Scoped as text_spec
use Rattle.graph_sql.specs.Scoped.{is_item, is_sure, names_in, number_in, text_found}
use Rattle.graph_sql.specs.Settings.{item_of}
use Rattle.graph_sql.specs.Statement.{column}
use Rattle.graph_sql.specs.StatementText.{Setting, at_least_one, item_found, made_by, made_in, made_of, names_by, source_found}
use Rattle.graph_sql.specs.declared.made.Made.{Made}
use Rattle.graph_sql.specs.declared.scope.Item.{Item}
use Rattle.graph_sql.specs.declared.scope.Scope.{Scope}

items-found : (s : Setting) (below : ℕ → Made) (rs : List OwnedQuant) (q : ℕ) → text_found (first (is_item q) (map (item_of s below) rs)) ≡ item_found s below (first (is_quant q) rs)
items-found s below [] q = refl
items-found s below (r ∷ rs) q = elim (r.id == q) as (λ (b : Bool). text_found (cond b (Some (item_of s below r)) (first (is_item q) (map (item_of s below) rs))) ≡ item_found s below (cond b (Some r) (first (is_quant q) rs))) [
  | true ↦ refl
  | false ↦ items-found s below rs q
]

sources-found : (s : Setting) (below : ℕ → Made) (rs : List OwnedQuant) (q : ℕ) → text_spec.source_found (first (is_item q) (map (item_of s below) rs)) ≡ source_found s below (first (is_quant q) rs)
sources-found s below [] q = refl
sources-found s below (r ∷ rs) q = elim (r.id == q) as (λ (b : Bool). text_spec.source_found (cond b (Some (item_of s below r)) (first (is_item q) (map (item_of s below) rs))) ≡ source_found s below (cond b (Some r) (first (is_quant q) rs))) [
  | true ↦ refl
  | false ↦ sources-found s below rs q
]

pub names-same : (s : Scope) (t : Setting) (below : ℕ → Made) (rs : List OwnedQuant) → s.items.now ≡ map (item_of t below) rs → is_sure s.sure.now ≡ t.not_null → names_in s ≡ names_by t below rs
names-same s t below rs e n =
    ap₂ (λ (range source : ℕ → List ℕ). record { range = range; source = source; column = λ q k. column q k; not_null = is_sure s.sure.now })
    (fun_ext (λ q. ap (λ (items : List Item). text_found (first (is_item q) items)) e ∙ items-found t below rs q))
    (fun_ext (λ q. ap (λ (items : List Item). text_spec.source_found (first (is_item q) items)) e ∙ sources-found t below rs q))
    ∙ ap (λ (sure : ℕ → ℕ → Bool). record { range = (names_by t below rs).range; source = (names_by t below rs).source; column = λ q k. column q k; not_null = sure }) n

-- one more box in front
pub made-step : (s : Setting) (n : Node) (ns : List Node) (f : ℕ → Made) → ((b : ℕ) → f b ≡ made_in s ns b) → (m : Made) → m ≡ made_of s n f → (b : ℕ) → cond (n.id == b) m (f b) ≡ made_in s (n ∷ ns) b
made-step s n ns f h m e b =
    ap₂ (λ (x y : Made). cond (n.id == b) x y) (e ∙ ap (made_of s n) (fun_ext h)) (h b)

pub made-written : (s : Scope) (t : Setting) (below : ℕ → Made) (n : Node) → s.at.now ≡ t.quants → s.items.now ≡ map (item_of t below) n.quants → is_sure s.sure.now ≡ t.not_null
    → made_by (number_in s) (at_least_one (width n)) (body_sql (names_in s) t.tables n) ≡ made_of t n below
made-written s t below n a e f =
    ap₂ (λ (at : List ℕ) (names : Names (List ℕ)). made_by (place_in at) (at_least_one (width n)) (body_sql names t.tables n)) a (names-same s t below n.quants e f)
