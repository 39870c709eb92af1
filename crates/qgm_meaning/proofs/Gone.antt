-- A quantifier of one clean row, which nothing names, goes.
use Rattle.std.specs.Prelude as p
use Rattle.std.proofs.Common.{ℕ, ◌==◌, ◌≡◌, ◌&&◌, ◌||◌, cond, Bool, true, false, List, [], ◌∷◌, ◌++◌, Option, Some, refl, sym, ap, ap₂, subst, ◌∙◌, eqb-true, inl, inr}
use Rattle.std.specs.List.{list_any}
use Rattle.std.proofs.lemmas.Bool.{and_from, and_parts, cases_Bool, eq-eqb}
use mathlib.Core.Path.{fun_ext}
use Rattle.row_bag.specs.Bags.{Agree, Alike, bind, keep, unit}
use Rattle.row_bag.specs.Sets.{same_cells}
use Rattle.row_bag.specs.declared.tables.Table.{Table}
use Rattle.row_bag.proofs.Agreement.{alike-same, alike-sym, alike-trans}
use Rattle.row_bag.proofs.Counts.{agree-from_alike, alike-from_agree}
use Rattle.row_bag.proofs.TupleBags.{same_cells-decides}
use Rattle.sql_value.specs.declared.cell.Cell.{Cell}
use Rattle.sql_value.specs.declared.truth.Truth.{Truth}
use Rattle.qgm_core.specs.Boxes.{QueryGraph, Ordered, all_over, box_of, has_box, is_quant}
use Rattle.qgm_core.specs.Kinds.{is_F, is_enforce}
use Rattle.list_laws.specs.Lists.{first}
use Rattle.qgm_core.specs.declared.kinds.Distinct.{Distinct}
use Rattle.qgm_core.specs.declared.node.Node.{Node}
use Rattle.qgm_core.specs.declared.owned.OwnedQuant.{OwnedQuant}
use Rattle.qgm_core.specs.declared.parts.BoxParts.{BoxParts}
use Rattle.qgm_meaning.specs.Fits.{fits}
use Rattle.qgm_meaning.specs.Laws.{Stays, occurs}
use Rattle.qgm_meaning.specs.Meaning.{Family, bag, bag_in, given_by, over_each, quant_rows, rows_found, rows_of}
use Rattle.qgm_meaning.specs.Quantifiers.{OneRowGoes}
use Rattle.qgm_meaning.specs.Replace.{replace}
use Rattle.qgm_meaning.specs.Rules.{selecting}
use Rattle.qgm_meaning.specs.Scope.{loose, loose_each, quant_looks, read_by, under_any}
use Rattle.qgm_meaning.specs.Searches.{names, names_cond}
use Rattle.qgm_meaning.specs.Values.{Bag, Environment, bound}
use Rattle.qgm_terms.specs.Terms.{Cond, Term}
use Rattle.qgm_meaning.proofs.Alikes.{once_if-alike}
use Rattle.qgm_meaning.proofs.ExistsJoined.{over-append}
use Rattle.qgm_meaning.proofs.Fitting.{hereditary}
use Rattle.qgm_meaning.proofs.Frames.{any-found, bag-framed, over_each-framed}
use Rattle.qgm_meaning.proofs.Joined.{over_each-append, unread}
use Rattle.qgm_meaning.proofs.Merged.{one-row, over_each-within}
use Rattle.qgm_meaning.proofs.Nodes.{all_true-nodes, head-nodes}
use Rattle.qgm_meaning.proofs.Replacing.{replaced}
use Rattle.qgm_meaning.proofs.ScalarJoined.{stays-of, without}
use Rattle.list_laws.proofs.Booleans.{neither-left, neither-right}

-- ---- without a quantifier of another number

first-without : (q : ℕ) (r : OwnedQuant) (vs us : List OwnedQuant) → (r.id == q) ≡ false → first (is_quant q) (us ++ r ∷ vs) ≡ first (is_quant q) (us ++ vs)
first-without q r vs [] h = ap (λ (b : Bool). cond b (Some r) (first (is_quant q) vs)) h
first-without q r vs (u ∷ us) h = ap (λ (o : Option OwnedQuant). cond (u.id == q) (Some u) o) (first-without q r vs us h)

none-append : (q : ℕ) (us vs : List OwnedQuant) → list_any (is_quant q) us ≡ false → list_any (is_quant q) vs ≡ false → list_any (is_quant q) (us ++ vs) ≡ false
none-append q [] vs h k = k
none-append q (u ∷ us) vs h k = ap₂ (λ (a b : Bool). a || b) (neither-left (u.id == q) (list_any (is_quant q) us) h) (none-append q us vs (neither-right (u.id == q) (list_any (is_quant q) us) h) k)

-- families that give the same of all quantifiers but one, which isn't among these
module _ (q : ℕ) (s t : Family) (same : (x : ℕ) → (q == x) ≡ false → t x ≡ s x) where
  turned : (x : ℕ) → (x == q) ≡ false → (q == x) ≡ false
  turned x h = elim (cases_Bool (q == x)) [
    | inl u ↦ absurd (let e : q ≡ x = eqb-true q x u in let v : (x == q) ≡ true = eq-eqb x q (sym e) in let w : ⊥ = cc in w)
    | inr u ↦ u
  ]

  each-same : (rs : List OwnedQuant) (give : Environment → Bag) → list_any (is_quant q) rs ≡ false → (env : Environment) → over_each rs t give env ≡ over_each rs s give env
  each-same [] give h env = refl
  each-same (r ∷ rs) give h env =
      elim (is_F r.kind) as (λ b. ◌≡◌ {A = Bag}
      (cond b (bind (t r.id env) (λ cells. over_each rs t give (bound r.id cells env))) (over_each rs t give env))
      (cond b (bind (s r.id env) (λ cells. over_each rs s give (bound r.id cells env))) (over_each rs s give env))) [
        | true ↦ ap₂ (λ (rows : Bag) (f : List Cell → Bag). bind rows f) (ap (λ (f : Environment → Bag). f env) (same r.id (turned r.id (neither-left (r.id == q) (list_any (is_quant q) rs) h))))
            (fun_ext (λ cells. each-same rs give (neither-right (r.id == q) (list_any (is_quant q) rs) h) (bound r.id cells env)))
        | false ↦ each-same rs give (neither-right (r.id == q) (list_any (is_quant q) rs) h) env
      ]

  stays-same : (passes : Environment → Bool) (rs : List OwnedQuant) → list_any (is_quant q) rs ≡ false → Stays passes s rs → Stays passes t rs
  stays-same passes [] h st = tt
  stays-same passes (r ∷ rs) h st = (
    (λ env cells f pe o. st.0 env cells f pe (ap (λ (rows : Environment → Bag). occurs cells (rows env)) (sym (same r.id (turned r.id (neither-left (r.id == q) (list_any (is_quant q) rs) h)))) ∙ o)),
    stays-same passes rs (neither-right (r.id == q) (list_any (is_quant q) rs) h) st.1,
  )

-- what isn't looked up by a box or below isn't where quantifiers are still to be bound
loose-none : (n : Node) (look : ℕ → ℕ → Bool) (i : ℕ) (rs : List OwnedQuant) → read_by n i ≡ false → under_any n.quants look i ≡ false → loose_each rs n look i ≡ false
loose-none n look i [] h k = ap₂ (λ (a b : Bool). a || b) h k
loose-none n look i (r ∷ rs) h k = step (is_F r.kind) (p.not (r.id == i)) (quant_looks n look r.id i) (loose_each rs n look i) found (loose-none n look i rs h k)
  where
    found : quant_looks n look r.id i ≡ false
    found = elim (cases_Bool (quant_looks n look r.id i)) [
      | inl t ↦ absurd (let u : under_any n.quants look i ≡ true = any-found n.quants look r.id i t in let z : ⊥ = cc in z)
      | inr t ↦ t
    ]

    step : (f b l e : Bool) → l ≡ false → e ≡ false → cond f (l || (b && e)) e ≡ false
    step true true l e hl he = ap₂ (λ (x y : Bool). x || (true && y)) hl he
    step true false l e hl he = ap (λ (x : Bool). x || false) hl
    step false b l e hl he = he

-- ---- the rule

module _ (tables : List Table) (g : QueryGraph) (b : ℕ) (p : BoxParts) (d : Distinct) (conds : List Cond) (head : List Term) (us : List OwnedQuant) (r : OwnedQuant) (vs : List OwnedQuant) (row : Environment → List Cell)
    (o : Ordered g.boxes) (held : box_of b g ≡ Some (selecting b p d conds head (us ++ r ∷ vs))) (f : is_F r.kind ≡ true) (hu : list_any (is_quant r.id) us ≡ false) (hv : list_any (is_quant r.id) vs ≡ false)
    (nh : list_any (names r.id) head ≡ false) (nc : list_any (names_cond r.id) conds ≡ false)
    (nr : read_by (selecting b p d conds head (us ++ r ∷ vs)) r.id ≡ false) (nu : under_any (us ++ r ∷ vs) (loose g.boxes) r.id ≡ false)
    (single : (env : Environment) → fits (bag tables g) g.boxes env ≡ true → Agree same_cells (bag tables g r.over env) (unit (row env))) where
  abbrev n : Node
  n = selecting b p d conds head (us ++ r ∷ vs)

  abbrev m : Node
  m = selecting b p d conds head (us ++ vs)

  abbrev s : Family
  s = quant_rows n (bag tables g)

  abbrev t : Family
  t = quant_rows m (bag tables g)

  abbrev passes : Environment → Bool
  passes = fits (bag tables g) g.boxes

  same-rows : (x : ℕ) → (r.id == x) ≡ false → t x ≡ s x
  same-rows x h = fun_ext (λ env. ap (λ (q : Option OwnedQuant). rows_found q (bag tables g) env) (sym (first-without x r vs us h)))

  -- a quantifier that nothing names
  unless-named : (looks : ℕ → Bool) → looks r.id ≡ false → (env : Environment) (x : ℕ) → looks x ≡ true → t x env ≡ s x env
  unless-named looks h env x k = elim (cases_Bool (r.id == x)) [
    | inl e ↦ absurd (let i : r.id ≡ x = eqb-true r.id x e in let y : looks r.id ≡ true = subst (λ (z : ℕ). looks z ≡ true) (sym i) k in let z : ⊥ = cc in z)
    | inr e ↦ ap (λ (rows : Environment → Bag). rows env) (same-rows x e)
  ]

  same-given : (env : Environment) → given_by t m env ≡ given_by s n env
  same-given env =
      ap₂ (λ (l : Truth) (cells : List Cell). keep l.t (unit cells))
      (all_true-nodes (λ q. t q env) (λ q. s q env) conds env (unless-named (λ x. list_any (names_cond x) conds) nc env))
      (head-nodes (λ q. t q env) (λ q. s q env) head env (unless-named (λ x. list_any (names x) head) nh env))

  whole-same : (env : Environment) → over_each (us ++ vs) t (given_by t m) env ≡ over_each (us ++ vs) s (given_by s n) env
  whole-same env = ap (λ (give : Environment → Bag). over_each (us ++ vs) t give env) (fun_ext same-given) ∙ each-same r.id s t same-rows (us ++ vs) (given_by s n) (none-append r.id us vs hu hv) env

  at-r : (env : Environment) → s r.id env ≡ bag tables g r.over env
  at-r env = found us hu
    where
      found : (us : List OwnedQuant) → list_any (is_quant r.id) us ≡ false → rows_found (first (is_quant r.id) (us ++ r ∷ vs)) (bag tables g) env ≡ bag tables g r.over env
      found [] h = ap (λ (b : Bool). rows_found (cond b (Some r) (first (is_quant r.id) vs)) (bag tables g) env) (eq-eqb r.id r.id refl)
      found (u ∷ us) h =
          ap (λ (b : Bool). rows_found (cond b (Some u) (first (is_quant r.id) (us ++ r ∷ vs))) (bag tables g) env) (neither-left (u.id == r.id) (list_any (is_quant r.id) us) h)
          ∙ found us (neither-right (u.id == r.id) (list_any (is_quant r.id) us) h)

  unbound : (cells : List Cell) (env : Environment) → over_each vs s (given_by s n) (bound r.id cells env) ≡ over_each vs s (given_by s n) env
  unbound cells env = sym (over_each-framed n (bag_in tables g.boxes) (loose g.boxes) (bag-framed tables g.boxes) vs env (bound r.id cells env) (unread (loose_each vs n (loose g.boxes)) r.id cells env (loose-none n (loose g.boxes) r.id vs nr nu)))

  one-goes : (env : Environment) → passes env ≡ true → Alike (over_each (r ∷ vs) s (given_by s n) env) (over_each vs s (given_by s n) env)
  one-goes env pe =
      alike-trans (alike-same (ap (λ (b : Bool). cond b (bind (s r.id env) (λ cells. over_each vs s (given_by s n) (bound r.id cells env))) (over_each vs s (given_by s n) env)) f))
      (alike-trans (one-row (λ cells. over_each vs s (given_by s n) (bound r.id cells env)) (alike-trans (alike-same (at-r env)) (alike-from_agree same_cells same_cells-decides (single env pe))))
      (alike-same (unbound (row env) env)))

  stays-n : Stays passes s (us ++ r ∷ vs)
  stays-n = stays-of passes (bag tables g) g.boxes b n (hereditary (bag tables g) g.boxes) held

  stays-us : (us : List OwnedQuant) → Stays passes s (us ++ r ∷ vs) → Stays passes s us
  stays-us [] st = tt
  stays-us (u ∷ us) st = (st.0, stays-us us st.1)

  rows-agree : (env : Environment) → passes env ≡ true → Agree same_cells (rows_of tables m (bag tables g) env) (rows_of tables n (bag tables g) env)
  rows-agree env pe = agree-from_alike same_cells (once_if-alike (is_enforce d) (
      alike-trans (alike-same (whole-same env ∙ ap (λ (k : Environment → Bag). k env) (over_each-append us vs s (given_by s n))))
      (alike-trans (alike-sym (over_each-within passes s (over_each (r ∷ vs) s (given_by s n)) (over_each vs s (given_by s n)) us (stays-us us stays-n) one-goes env pe))
      (alike-same (sym (ap (λ (k : Environment → Bag). k env) (over_each-append us (r ∷ vs) s (given_by s n))))))))

  overs : (ks : List Node) → all_over ks (us ++ r ∷ vs) ≡ true → all_over ks (us ++ vs) ≡ true
  overs ks h =
      let parts = and_parts (all_over ks us) (all_over ks (r ∷ vs)) (sym (over-append ks us (r ∷ vs)) ∙ h) in
      let rest = and_parts (has_box ks r.over) (all_over ks vs) parts.1 in
      over-append ks us vs ∙ and_from (all_over ks us) (all_over ks vs) parts.0 rest.1

  goes : (x : ℕ) → has_box g.boxes x ≡ true → (env : Environment) → passes env ≡ true → Agree same_cells (bag tables (replace b m g) x env) (bag tables g x env)
  goes x hx env pe =
      replaced tables g passes b n m o held refl overs (hereditary (bag tables g) g.boxes)
      (stays-same r.id s t same-rows passes (us ++ vs) (none-append r.id us vs hu hv) (without passes s us r vs stays-n)) rows-agree x hx env pe

pub one-row_goes : OneRowGoes
one-row_goes = λ tables g b p d conds head us r vs row o held f hu hv nh nc nr nu single x hx env pe. goes tables g b p d conds head us r vs row o held f hu hv nh nc nr nu single x hx env pe
