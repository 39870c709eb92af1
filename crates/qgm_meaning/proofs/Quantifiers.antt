-- The quantifiers of a select in other orders.
use Rattle.std.proofs.Common.{ℕ, ◌==◌, ◌≡◌, ◌&&◌, ◌||◌, cond, Bool, true, false, List, [], ◌∷◌, ◌++◌, Option, Some, refl, sym, ap, ap₂, subst, ◌∙◌, eqb-true, ◌⊎◌, inl, inr}
use Rattle.std.specs.List.{list_any}
use Rattle.std.proofs.lemmas.Bool.{cases_Bool, eq-eqb}
use mathlib.Core.Path.{fun_ext}
use Rattle.row_bag.specs.Bags.{Agree, Alike, bind}
use Rattle.row_bag.specs.Sets.{same_cells}
use Rattle.row_bag.specs.declared.tables.Table.{Table}
use Rattle.row_bag.proofs.Agreement.{alike-bind, alike-refl, alike-same, alike-swap, alike-sym, alike-trans}
use Rattle.row_bag.proofs.Counts.{agree-from_alike, alike-from_agree}
use Rattle.row_bag.proofs.TupleBags.{same_cells-decides}
use Rattle.sql_value.specs.declared.cell.Cell.{Cell}
use Rattle.qgm_core.specs.Boxes.{QueryGraph, Ordered, all_over, box_of, has_box, is_quant}
use Rattle.qgm_core.specs.Kinds.{is_F, is_enforce}
use Rattle.list_laws.specs.Lists.{first}
use Rattle.qgm_core.specs.declared.kinds.BoxKind.TheVariants.{Select}
use Rattle.qgm_core.specs.declared.kinds.Distinct.{Distinct}
use Rattle.qgm_core.specs.declared.node.Node.{Node}
use Rattle.qgm_core.specs.declared.owned.OwnedQuant.{OwnedQuant}
use Rattle.qgm_core.specs.declared.parts.BoxParts.{BoxParts}
use Rattle.qgm_meaning.specs.Meaning.{Family, bag, bag_in, given_by, over_each, quant_rows, rows_by, rows_found}
use Rattle.qgm_meaning.specs.Quantifiers.{Apart, Combinations, LooksRows, NotLateral}
use Rattle.qgm_meaning.specs.Replace.{replace}
use Rattle.qgm_meaning.specs.Rules.{selecting}
use Rattle.qgm_meaning.specs.Scope.{loose, quant_looks}
use Rattle.qgm_meaning.specs.Values.{Bag, Environment, bound, row_of}
use Rattle.qgm_terms.specs.Terms.{Cond, Term}
use Rattle.qgm_meaning.proofs.Alikes.{once_if-alike}
use Rattle.qgm_meaning.proofs.ExistsJoined.{all-stay, over-append, stays-all}
use Rattle.qgm_meaning.proofs.Frames.{bag-framed, given-framed, quant-framed}
use Rattle.qgm_meaning.proofs.Joined.{over_each-append, unread}
use Rattle.qgm_meaning.proofs.Merged.{one-row, over_each-bind, over_each-keep}
use Rattle.qgm_meaning.proofs.Replacing.{replaced}
use Rattle.list_laws.proofs.Booleans.{neither-left, neither-right}

-- ---- combinations

bound-first : (r : OwnedQuant) (vs : List OwnedQuant) (s : Family) (give : Environment → Bag) (env : Environment) → is_F r.kind ≡ true → over_each (r ∷ vs) s give env ≡ bind (s r.id env) (λ cells. over_each vs s give (bound r.id cells env))
bound-first r vs s give env f = ap (λ (t : Bool). cond t (bind (s r.id env) (λ cells. over_each vs s give (bound r.id cells env))) (over_each vs s give env)) f

skipped : (r : OwnedQuant) (vs : List OwnedQuant) (s : Family) (give : Environment → Bag) (env : Environment) → is_F r.kind ≡ false → over_each (r ∷ vs) s give env ≡ over_each vs s give env
skipped r vs s give env f = ap (λ (t : Bool). cond t (bind (s r.id env) (λ cells. over_each vs s give (bound r.id cells env))) (over_each vs s give env)) f

pub combinations : Combinations
combinations = record {
  appended = λ us vs s give env. ap (λ (k : Environment → Bag). k env) (over_each-append us vs s give);
  bound_within = λ rs s give f env. over_each-bind rs s give f env;
  kept_within = λ rs s give level env. over_each-keep rs s give level env;
  fused = λ r ms vs s t inner give env f e.
      bound-first r vs s give env f
      ∙ ap (λ (rows : Bag). bind rows (λ cells. over_each vs s give (bound r.id cells env))) e
      ∙ over_each-bind ms t inner (λ cells. over_each vs s give (bound r.id cells env)) env;
  one_row = λ r vs s give cells env f h.
      agree-from_alike same_cells (alike-trans (alike-same (bound-first r vs s give env f))
      (one-row (λ cells. over_each vs s give (bound r.id cells env)) (alike-from_agree same_cells same_cells-decides h)));
}

-- ---- two quantifiers in either order

module _ (s : Family) (looks : LooksRows s) where
  -- what is given goes by the rows that are bound
  abbrev Looks : (Environment → Bag) → Type 0
  Looks give = (d e : Environment) → ((x : ℕ) → row_of x d ≡ row_of x e) → give d ≡ give e

  same-bound : (r : ℕ) (cells : List Cell) (d e : Environment) → ((x : ℕ) → row_of x d ≡ row_of x e) → (x : ℕ) → row_of x (bound r cells d) ≡ row_of x (bound r cells e)
  same-bound r cells d e h x = ap (λ (rest : List Cell). cond (r == x) cells rest) (h x)

  each-looks : (rs : List OwnedQuant) (give : Environment → Bag) → Looks give → Looks (over_each rs s give)
  each-looks [] give g d e h = g d e h
  each-looks (r ∷ rs) give g d e h =
      elim (is_F r.kind) as (λ t. ◌≡◌ {A = Bag}
      (cond t (bind (s r.id d) (λ cells. over_each rs s give (bound r.id cells d))) (over_each rs s give d))
      (cond t (bind (s r.id e) (λ cells. over_each rs s give (bound r.id cells e))) (over_each rs s give e))) [
        | true ↦ ap₂ (λ (rows : Bag) (f : List Cell → Bag). bind rows f) (looks r.id d e h) (fun_ext (λ cells. each-looks rs give g (bound r.id cells d) (bound r.id cells e) (same-bound r.id cells d e h)))
        | false ↦ each-looks rs give g d e h
      ]

  -- two bindings in either order
  turned : (r t : ℕ) (a c : List Cell) (env : Environment) → (t == r) ≡ false → (x : ℕ) → row_of x (bound t c (bound r a env)) ≡ row_of x (bound r a (bound t c env))
  turned r t a c env n x = step (cases_Bool (t == x)) (cases_Bool (r == x))
    where
      step : (((t == x) ≡ true) ⊎ ((t == x) ≡ false)) → (((r == x) ≡ true) ⊎ ((r == x) ≡ false)) → cond (t == x) c (cond (r == x) a (row_of x env)) ≡ cond (r == x) a (cond (t == x) c (row_of x env))
      step (inl u) (inl v) = absurd (let e : t ≡ r = eqb-true t x u ∙ sym (eqb-true r x v) in let y : (t == r) ≡ true = eq-eqb t r e in let z : ⊥ = cc in z)
      step (inl u) (inr v) = rw (u, v) refl
      step (inr u) v = rw u refl

  module _ (give : Environment → Bag) (g : Looks give) where
    swapped : (r t : OwnedQuant) (rs : List OwnedQuant) → (t.id == r.id) ≡ false
        → (is_F r.kind ≡ true → is_F t.kind ≡ true → (cells : List Cell) (env : Environment) → (s t.id (bound r.id cells env) ≡ s t.id env) × (s r.id (bound t.id cells env) ≡ s r.id env))
        → (env : Environment) → Alike (over_each (r ∷ t ∷ rs) s give env) (over_each (t ∷ r ∷ rs) s give env)
    swapped r t rs n apart env = by (cases_Bool (is_F r.kind)) (cases_Bool (is_F t.kind))
      where
        by : ((is_F r.kind ≡ true) ⊎ (is_F r.kind ≡ false)) → ((is_F t.kind ≡ true) ⊎ (is_F t.kind ≡ false)) → Alike (over_each (r ∷ t ∷ rs) s give env) (over_each (t ∷ r ∷ rs) s give env)
        by (inr u) v = alike-same (skipped r (t ∷ rs) s give env u ∙ sym (over_first (cases_Bool (is_F t.kind))))
          where
            over_first : ((is_F t.kind ≡ true) ⊎ (is_F t.kind ≡ false)) → over_each (t ∷ r ∷ rs) s give env ≡ over_each (t ∷ rs) s give env
            over_first (inl w) = bound-first t (r ∷ rs) s give env w ∙ ap (bind (s t.id env)) (fun_ext (λ cells. skipped r rs s give (bound t.id cells env) u)) ∙ sym (bound-first t rs s give env w)
            over_first (inr w) = skipped t (r ∷ rs) s give env w ∙ skipped r rs s give env u ∙ sym (skipped t rs s give env w)
        by (inl u) (inr v) = alike-same (
            bound-first r (t ∷ rs) s give env u ∙ ap (bind (s r.id env)) (fun_ext (λ cells. skipped t rs s give (bound r.id cells env) v))
            ∙ sym (skipped t (r ∷ rs) s give env v ∙ bound-first r rs s give env u))
        by (inl u) (inl v) =
            alike-trans (alike-same (bound-first r (t ∷ rs) s give env u
            ∙ ap (bind (s r.id env)) (fun_ext (λ a. bound-first t rs s give (bound r.id a env) v ∙ ap (λ (rows : Bag). bind rows (λ c. over_each rs s give (bound t.id c (bound r.id a env)))) (apart u v a env).0))))
            (alike-trans (alike-swap (s r.id env) (s t.id env) (λ a c. over_each rs s give (bound t.id c (bound r.id a env))))
            (alike-same (
            ap (bind (s t.id env)) (fun_ext (λ c.
            ap (bind (s r.id env)) (fun_ext (λ a. each-looks rs give g (bound t.id c (bound r.id a env)) (bound r.id a (bound t.id c env)) (turned r.id t.id a c env n)))
            ∙ ap (λ (rows : Bag). bind rows (λ a. over_each rs s give (bound r.id a (bound t.id c env)))) (sym (apart u v c env).1)
            ∙ sym (bound-first r rs s give (bound t.id c env) u)))
            ∙ sym (bound-first t (r ∷ rs) s give env v))))

    -- what is given in the end may change
    each-alike : (rs : List OwnedQuant) (f k : Environment → Bag) → ((env : Environment) → Alike (f env) (k env)) → (env : Environment) → Alike (over_each rs s f env) (over_each rs s k env)
    each-alike [] f k h env = h env
    each-alike (r ∷ rs) f k h env =
        elim (is_F r.kind) as (λ t. Alike
        (cond t (bind (s r.id env) (λ cells. over_each rs s f (bound r.id cells env))) (over_each rs s f env))
        (cond t (bind (s r.id env) (λ cells. over_each rs s k (bound r.id cells env))) (over_each rs s k env))) [
          | true ↦ alike-bind (alike-refl (s r.id env)) (λ cells. each-alike rs f k h (bound r.id cells env))
          | false ↦ each-alike rs f k h env
        ]

    behind : (r : OwnedQuant) (vs ws : List OwnedQuant) → Apart s r vs → (env : Environment) → Alike (over_each (r ∷ (vs ++ ws)) s give env) (over_each (vs ++ r ∷ ws) s give env)
    behind r [] ws a env = alike-refl (over_each (r ∷ ws) s give env)
    behind r (t ∷ vs) ws a env =
        alike-trans (swapped r t (vs ++ ws) a.0 a.1 env)
        (alike-trans (alike-same (ap (λ (k : Environment → Bag). k env) (over_each-append (t ∷ []) (r ∷ (vs ++ ws)) s give)))
        (alike-trans (each-alike (t ∷ []) (over_each (r ∷ (vs ++ ws)) s give) (over_each (vs ++ r ∷ ws) s give) (λ env. behind r vs ws a.2 env) env)
        (alike-same (sym (ap (λ (k : Environment → Bag). k env) (over_each-append (t ∷ []) (vs ++ r ∷ ws) s give))))))

    moved : (us : List OwnedQuant) (r : OwnedQuant) (vs ws : List OwnedQuant) → Apart s r vs → (env : Environment) → Alike (over_each (us ++ r ∷ (vs ++ ws)) s give env) (over_each (us ++ (vs ++ r ∷ ws)) s give env)
    moved us r vs ws a env =
        alike-trans (alike-same (ap (λ (k : Environment → Bag). k env) (over_each-append us (r ∷ (vs ++ ws)) s give)))
        (alike-trans (each-alike us (over_each (r ∷ (vs ++ ws)) s give) (over_each (vs ++ r ∷ ws) s give) (λ env. behind r vs ws a env) env)
        (alike-same (sym (ap (λ (k : Environment → Bag). k env) (over_each-append us (vs ++ r ∷ ws) s give)))))

  given-looks : (n : Node) → Looks (given_by s n)
  given-looks n d e h =
      ap (λ (rows : ℕ → Bag). Rattle.qgm_meaning.specs.Meaning.given rows n d) (fun_ext (λ q. looks q d e h))
      ∙ given-framed (λ q. s q e) n d e (record { rows = λ q t. h q })

  pub moves : (tables : List Table) (b : ℕ) (p : BoxParts) (d : Distinct) (conds : List Cond) (head : List Term) (us : List OwnedQuant) (r : OwnedQuant) (vs ws : List OwnedQuant) (env : Environment) → Apart s r vs
      → Alike (rows_by Select tables (selecting b p d conds head (us ++ r ∷ (vs ++ ws))) s env) (rows_by Select tables (selecting b p d conds head (us ++ (vs ++ r ∷ ws))) s env)
  moves tables b p d conds head us r vs ws env a =
      once_if-alike (is_enforce d) (moved (given_by s (selecting b p d conds head (us ++ r ∷ (vs ++ ws)))) (given-looks (selecting b p d conds head (us ++ r ∷ (vs ++ ws)))) us r vs ws a env)

-- ---- on a graph

-- the quantifier of a number is the same in either order
first-moved : (q : ℕ) (r : OwnedQuant) (ws vs us : List OwnedQuant) → list_any (is_quant r.id) vs ≡ false → first (is_quant q) (us ++ r ∷ (vs ++ ws)) ≡ first (is_quant q) (us ++ (vs ++ r ∷ ws))
first-moved q r ws vs (u ∷ us) h = ap (λ (o : Option OwnedQuant). cond (u.id == q) (Some u) o) (first-moved q r ws vs us h)
first-moved q r ws [] [] h = refl
first-moved q r ws (t ∷ vs) [] h =
    step (cases_Bool (r.id == q)) (cases_Bool (t.id == q))
    ∙ ap (λ (o : Option OwnedQuant). cond (t.id == q) (Some t) o) (first-moved q r ws vs [] (neither-right (t.id == r.id) (list_any (is_quant r.id) vs) h))
  where
    step : (((r.id == q) ≡ true) ⊎ ((r.id == q) ≡ false)) → (((t.id == q) ≡ true) ⊎ ((t.id == q) ≡ false))
        → cond (r.id == q) (Some r) (cond (t.id == q) (Some t) (first (is_quant q) (vs ++ ws))) ≡ cond (t.id == q) (Some t) (cond (r.id == q) (Some r) (first (is_quant q) (vs ++ ws)))
    step (inl u) (inl v) =
        absurd (let e : t.id ≡ r.id = eqb-true t.id q v ∙ sym (eqb-true r.id q u) in let y : (t.id == r.id) ≡ true = eq-eqb t.id r.id e in let x : (t.id == r.id) ≡ false = neither-left (t.id == r.id) (list_any (is_quant r.id) vs) h in let z : ⊥ = cc in z)
    step (inl u) (inr v) = rw (u, v) refl
    step (inr u) v = rw u refl

overs-moved : (ks : List Node) (us : List OwnedQuant) (r : OwnedQuant) (vs ws : List OwnedQuant) → all_over ks (us ++ r ∷ (vs ++ ws)) ≡ all_over ks (us ++ (vs ++ r ∷ ws))
overs-moved ks us r vs ws =
    over-append ks us (r ∷ (vs ++ ws))
    ∙ ap (λ (b : Bool). all_over ks us && b) (ap (λ (b : Bool). has_box ks r.over && b) (over-append ks vs ws) ∙ step (has_box ks r.over) (all_over ks vs) (all_over ks ws) ∙ sym (over-append ks vs (r ∷ ws)))
    ∙ sym (over-append ks us (vs ++ r ∷ ws))
  where
    step : (a b c : Bool) → (a && (b && c)) ≡ (b && (a && c))
    step true true c = refl
    step true false c = refl
    step false true c = refl
    step false false c = refl

-- what quantifiers of a box of a graph give goes by the rows that they look up
module _ (tables : List Table) (ns : List Node) (n : Node) where
  graph-looks : LooksRows (quant_rows n (bag_in tables ns))
  graph-looks q d e h = quant-framed n (bag_in tables ns) (loose ns) (bag-framed tables ns) q d e (record { rows = λ x t. h x })

  not-looked : (q r : ℕ) → quant_looks n (loose ns) q r ≡ false → (cells : List Cell) (env : Environment) → quant_rows n (bag_in tables ns) q (bound r cells env) ≡ quant_rows n (bag_in tables ns) q env
  not-looked q r h cells env = sym (quant-framed n (bag_in tables ns) (loose ns) (bag-framed tables ns) q env (bound r cells env) (unread (quant_looks n (loose ns) q) r cells env h))

  graph-apart : (r : OwnedQuant) (vs : List OwnedQuant) → NotLateral ns n r vs → Apart (quant_rows n (bag_in tables ns)) r vs
  graph-apart r [] h = tt
  graph-apart r (t ∷ vs) h = (
    h.0,
    (λ u v cells env. let both = h.1 u v in (not-looked t.id r.id both.0 cells env, not-looked r.id t.id both.1 cells env)),
    graph-apart r vs h.2,
  )

none-of : (ns : List Node) (n : Node) (r : OwnedQuant) (vs : List OwnedQuant) → NotLateral ns n r vs → list_any (is_quant r.id) vs ≡ false
none-of ns n r [] h = refl
none-of ns n r (t ∷ vs) h = ap₂ (λ (a b : Bool). a || b) h.0 (none-of ns n r vs h.2)

module _ (tables : List Table) (g : QueryGraph) (b : ℕ) (p : BoxParts) (d : Distinct) (conds : List Cond) (head : List Term) (us : List OwnedQuant) (r : OwnedQuant) (vs ws : List OwnedQuant) (o : Ordered g.boxes) where
  abbrev fore : Node
  fore = selecting b p d conds head (us ++ r ∷ (vs ++ ws))

  abbrev back : Node
  back = selecting b p d conds head (us ++ (vs ++ r ∷ ws))

  same-quants : list_any (is_quant r.id) vs ≡ false → quant_rows fore (bag tables g) ≡ quant_rows back (bag tables g)
  same-quants none = fun_ext (λ q. ap (λ (o : Option OwnedQuant). rows_found o (bag tables g)) (first-moved q r ws vs us none))

  pub moves-behind : box_of b g ≡ Some fore → NotLateral g.boxes fore r vs → (x : ℕ) → has_box g.boxes x ≡ true → (env : Environment) → Agree same_cells (bag tables (replace b back g) x env) (bag tables g x env)
  moves-behind held h x hx env =
      replaced tables g (λ env. true) b fore back o held refl (λ ks k. sym (overs-moved ks us r vs ws) ∙ k) (all-stay (bag tables g) g.boxes) (stays-all (quant_rows back (bag tables g)) back.quants)
      (λ env _. agree-from_alike same_cells (alike-sym (subst (λ (s : Family). Alike (rows_by Select tables fore (quant_rows fore (bag tables g)) env) (rows_by Select tables back s env)) (same-quants (none-of g.boxes fore r vs h))
      (moves (quant_rows fore (bag tables g)) (graph-looks tables g.boxes fore) tables b p d conds head us r vs ws env (graph-apart tables g.boxes fore r vs h)))))
      x hx env refl

  pub moves-before : box_of b g ≡ Some back → NotLateral g.boxes back r vs → (x : ℕ) → has_box g.boxes x ≡ true → (env : Environment) → Agree same_cells (bag tables (replace b fore g) x env) (bag tables g x env)
  moves-before held h x hx env =
      replaced tables g (λ env. true) b back fore o held refl (λ ks k. overs-moved ks us r vs ws ∙ k) (all-stay (bag tables g) g.boxes) (stays-all (quant_rows fore (bag tables g)) fore.quants)
      (λ env _. agree-from_alike same_cells (subst (λ (s : Family). Alike (rows_by Select tables fore s env) (rows_by Select tables back (quant_rows back (bag tables g)) env)) (sym (same-quants (none-of g.boxes back r vs h)))
      (moves (quant_rows back (bag tables g)) (graph-looks tables g.boxes back) tables b p d conds head us r vs ws env (graph-apart tables g.boxes back r vs h))))
      x hx env refl
