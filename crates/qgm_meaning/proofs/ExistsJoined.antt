-- U1 on a graph.
use Rattle.std.specs.Prelude as p
use Rattle.std.proofs.Common.{ℕ, ◌==◌, ◌≡◌, ◌&&◌, ◌||◌, cond, Bool, true, false, List, [], ◌∷◌, ◌++◌, Option, Some, None, refl, sym, ap, ap₂, subst, ◌∙◌, eqb-true, inl, inr}
use Rattle.std.specs.List.{list_any}
use Rattle.std.proofs.lemmas.Bool.{and_from, and_parts, cases_Bool}
use mathlib.Core.Path.{fun_ext}
use Rattle.row_bag.specs.Bags.{Agree, Alike}
use Rattle.row_bag.specs.Sets.{distinct, same_cells}
use Rattle.row_bag.specs.declared.tables.Table.{Table}
use Rattle.row_bag.proofs.Agreement.{alike-sym}
use Rattle.row_bag.proofs.Counts.{agree-from_alike}
use Rattle.sql_value.specs.declared.cell.Cell.{Cell}
use Rattle.qgm_core.specs.declared.kinds.QuantKind.{QuantKind}
use Rattle.qgm_core.specs.declared.kinds.QuantKind.TheVariants.{E}
use Rattle.qgm_core.specs.declared.parts.BoxParts.{BoxParts}
use Rattle.qgm_core.specs.declared.node.Node.{Node}
use Rattle.qgm_core.specs.declared.owned.OwnedQuant.{OwnedQuant}
use Rattle.qgm_core.specs.Boxes.{QueryGraph, Ordered, all_over, box_of, has_box, is_quant}
use Rattle.list_laws.specs.Lists.{first}
use Rattle.qgm_core.specs.Kinds.{is_F}
use Rattle.qgm_meaning.specs.Replace.{replace}
use Rattle.qgm_meaning.specs.Laws.{AllStay, Stays}
use Rattle.qgm_meaning.specs.Meaning.{Family, bag, bag_in, quant_rows, rows_found, over_each, given_by}
use Rattle.qgm_meaning.specs.Rules.{as_F, as_Q, exists_box, join_box}
use Rattle.qgm_meaning.specs.Scope.{loose, loose_each, quant_looks, read_by, under_any}
use Rattle.qgm_terms.specs.Terms.{Term, Cond, some}
use Rattle.qgm_terms.specs.Wanted.{reads, reads_cond}
use Rattle.qgm_meaning.specs.Values.{Bag, Environment, bound}
use Rattle.qgm_meaning.proofs.Frames.{any-framed, bag-framed}
use Rattle.qgm_meaning.proofs.Joined.{joined, unread}
use Rattle.qgm_meaning.proofs.Replacing.{replaced}
use Rattle.qgm_meaning.proofs.Within.{loose-unfold}
use Rattle.list_laws.proofs.Booleans.{neither-left, neither-right}

-- ---- all environments pass

pub stays-all : (f : Family) (rs : List OwnedQuant) → Stays (λ env. true) f rs
stays-all f [] = tt
stays-all f (r ∷ rs) = ((λ env cells k p o. refl), stays-all f rs)

pub all-stay : (f : Family) (ns : List Node) → AllStay (λ env. true) f ns
all-stay f [] = tt
all-stay f (n ∷ ns) = (stays-all (quant_rows n f) n.quants, all-stay f ns)

-- ---- a quantifier moved to the end

first-end : (q : ℕ) (r : OwnedQuant) (vs : List OwnedQuant) → (r.id == q) ≡ false → first (is_quant q) (vs ++ r ∷ []) ≡ first (is_quant q) vs
first-end q r [] h = ap (λ (b : Bool). cond b (Some r) None) h
first-end q r (v ∷ vs) h = ap (λ (o : Option OwnedQuant). cond (v.id == q) (Some v) o) (first-end q r vs h)

first-last : (q : ℕ) (r : OwnedQuant) (vs : List OwnedQuant) → (r.id == q) ≡ true → list_any (is_quant q) vs ≡ false → first (is_quant q) (vs ++ r ∷ []) ≡ Some r
first-last q r [] h u = ap (λ (b : Bool). cond b (Some r) None) h
first-last q r (v ∷ vs) h u =
    ap (λ (b : Bool). cond b (Some v) (first (is_quant q) (vs ++ r ∷ []))) (neither-left (v.id == q) (list_any (is_quant q) vs) u) ∙ first-last q r vs h (neither-right (v.id == q) (list_any (is_quant q) vs) u)

module _ (k : QuantKind) (i over : ℕ) (vs : List OwnedQuant) (hv : list_any (is_quant i) vs ≡ false) (f : Family) (q : ℕ) where
  pub moved : (us : List OwnedQuant) → list_any (is_quant i) us ≡ false → rows_found (first (is_quant q) (us ++ as_Q k i over ∷ vs)) f ≡ rows_found (first (is_quant q) ((us ++ vs) ++ as_F i over ∷ [])) f
  moved [] hu = elim (cases_Bool (i == q)) [
    | inl t ↦
        ap (λ (b : Bool). rows_found (cond b (Some (as_Q k i over)) (first (is_quant q) vs)) f) t
        ∙ sym (ap (λ (o : Option OwnedQuant). rows_found o f) (first-last q (as_F i over) vs t (subst (λ (y : ℕ). list_any (is_quant y) vs ≡ false) (eqb-true i q t) hv)))
    | inr t ↦
        ap (λ (b : Bool). rows_found (cond b (Some (as_Q k i over)) (first (is_quant q) vs)) f) t
        ∙ sym (ap (λ (o : Option OwnedQuant). rows_found o f) (first-end q (as_F i over) vs t))
  ]
  moved (u ∷ us) hu =
      elim (u.id == q) as (λ t. ◌≡◌ {A = Environment → Bag} (rows_found (cond t (Some u) (first (is_quant q) (us ++ as_Q k i over ∷ vs))) f) (rows_found (cond t (Some u) (first (is_quant q) ((us ++ vs) ++ as_F i over ∷ []))) f)) [
        | true ↦ refl
        | false ↦ moved us (neither-right (u.id == i) (list_any (is_quant i) us) hu)
      ]

pub over-append : (ks : List Node) (us vs : List OwnedQuant) → all_over ks (us ++ vs) ≡ (all_over ks us && all_over ks vs)
over-append ks [] vs = refl
over-append ks (u ∷ us) vs = step (has_box ks u.over) (all_over ks us) (all_over ks vs) (all_over ks (us ++ vs)) (over-append ks us vs)
  where
    step : (a b c d : Bool) → d ≡ (b && c) → (a && d) ≡ ((a && b) && c)
    step true b c d h = h
    step false b c d h = refl

pub overs-moved : (k : QuantKind) (ks : List Node) (us vs : List OwnedQuant) (i over : ℕ) → all_over ks (us ++ as_Q k i over ∷ vs) ≡ true → all_over ks ((us ++ vs) ++ as_F i over ∷ []) ≡ true
overs-moved k ks us vs i over h =
    let parts = and_parts (all_over ks us) (all_over ks (as_Q k i over ∷ vs)) (sym (over-append ks us (as_Q k i over ∷ vs)) ∙ h) in
    let rest = and_parts (has_box ks over) (all_over ks vs) parts.1 in
    over-append ks (us ++ vs) (as_F i over ∷ [])
    ∙ and_from (all_over ks (us ++ vs)) (all_over ks (as_F i over ∷ [])) (over-append ks us vs ∙ and_from (all_over ks us) (all_over ks vs) parts.0 rest.1) (and_from (has_box ks over) true rest.0 refl)

-- ---- what a box doesn't look up, if none of its F quantifiers is it, it doesn't read, and nothing below looks it up

abbrev pub is_own : ℕ → List OwnedQuant → Bool
is_own i rs = list_any (λ r. is_F r.kind && is_quant i r) rs

pub inner : (n : Node) (look : ℕ → ℕ → Bool) (i : ℕ) (rs : List OwnedQuant) → is_own i rs ≡ false → loose_each rs n look i ≡ false → (read_by n i || under_any n.quants look i) ≡ false
inner n look i [] u h = h
inner n look i (r ∷ rs) u h = step (is_F r.kind) (r.id == i) (neither-left (is_F r.kind && (r.id == i)) (is_own i rs) u) (inner n look i rs (neither-right (is_F r.kind && (r.id == i)) (is_own i rs) u)) h
  where
    step : (f b : Bool) → (f && b) ≡ false → (loose_each rs n look i ≡ false → (read_by n i || under_any n.quants look i) ≡ false)
        → cond f (quant_looks n look r.id i || (p.not b && loose_each rs n look i)) (loose_each rs n look i) ≡ false → (read_by n i || under_any n.quants look i) ≡ false
    step true true u k h = cc u
    step true false u k h = k (neither-right (quant_looks n look r.id i) (loose_each rs n look i) h)
    step false b u k h = k h

pub own-append : (k : QuantKind) → is_F k ≡ false → (i over : ℕ) (us vs : List OwnedQuant) → list_any (is_quant i) us ≡ false → list_any (is_quant i) vs ≡ false → is_own i (us ++ as_Q k i over ∷ vs) ≡ false
own-append k nk i over [] vs hu hv = ap₂ (λ (x y : Bool). (x && (i == i)) || y) nk (none vs hv)
  where
    none : (vs : List OwnedQuant) → list_any (is_quant i) vs ≡ false → is_own i vs ≡ false
    none [] h = refl
    none (v ∷ vs) h = ap₂ (λ (x y : Bool). x || y) (step (is_F v.kind) (v.id == i) (neither-left (v.id == i) (list_any (is_quant i) vs) h)) (none vs (neither-right (v.id == i) (list_any (is_quant i) vs) h))
      where
        step : (f b : Bool) → b ≡ false → (f && b) ≡ false
        step true b h = h
        step false b h = refl
own-append k nk i over (u ∷ us) vs hu hv =
    ap₂ (λ (x y : Bool). x || y) (step (is_F u.kind) (u.id == i) (neither-left (u.id == i) (list_any (is_quant i) us) hu)) (own-append k nk i over us vs (neither-right (u.id == i) (list_any (is_quant i) us) hu) hv)
  where
    step : (f b : Bool) → b ≡ false → (f && b) ≡ false
    step true b h = h
    step false b h = refl

pub any-before : (f : Cond → Bool) (xs : List Cond) (c : Cond) (ys : List Cond) → list_any f (xs ++ c ∷ ys) ≡ false → (list_any f xs ≡ false) × (list_any f ys ≡ false)
any-before f [] c ys h = (refl, neither-right (f c) (list_any f ys) h)
any-before f (x ∷ xs) c ys h =
    let rest = any-before f xs c ys (neither-right (f x) (list_any f (xs ++ c ∷ ys)) h) in
    (ap₂ (λ (a b : Bool). a || b) (neither-left (f x) (list_any f (xs ++ c ∷ ys)) h) rest.0, rest.1)

-- ---- the rule

pub exists-joined : (tables : List Table) (g : QueryGraph) (b : ℕ) (p : BoxParts) (us : List OwnedQuant) (i over : ℕ) (vs : List OwnedQuant) (xs : List Cond) (c : Cond) (ys : List Cond) (head : List Term)
    → Ordered g.boxes → box_of b g ≡ Some (exists_box b p us i over vs xs c ys head)
    → list_any (is_quant i) us ≡ false → list_any (is_quant i) vs ≡ false → loose g.boxes b i ≡ false
    → (x : ℕ) → has_box g.boxes x ≡ true → (env : Environment) → Agree same_cells (bag tables (replace b (join_box b p us i over vs xs c ys head) g) x env) (bag tables g x env)
exists-joined tables g b p us i over vs xs c ys head o held hu hv away x hx env =
    replaced tables g (λ env. true) b n m o held refl (λ ks h. overs-moved E ks us vs i over h) (all-stay (bag tables g) g.boxes) (stays-all (quant_rows m (bag tables g)) m.quants)
    (λ env _. agree-from_alike same_cells (alike-sym (subst (λ (s : Family). Alike (distinct same_cells (over_each n.quants (quant_rows n (bag tables g)) (given_by (quant_rows n (bag tables g)) n) env)) (distinct same_cells (over_each m.quants s (given_by s m) env)))
    (fun_ext (λ q. moved E i over vs hv (bag tables g) q us hu))
    (joined (quant_rows n (bag tables g)) i xs ys c head free (neither-left (list_any (reads i) head) (list_any (reads_cond i) n.parts.conds.items) reads-none) beside.0 beside.1 us vs over env))))
    x hx env refl
  where
    n : Node
    n = exists_box b p us i over vs xs c ys head

    m : Node
    m = join_box b p us i over vs xs c ys head

    nothing-inner : (read_by n i || under_any n.quants (loose g.boxes) i) ≡ false
    nothing-inner = inner n (loose g.boxes) i n.quants (own-append E refl i over us vs hu hv) (ap (λ (f : ℕ → Bool). f i) (sym (loose-unfold g.boxes b n o held)) ∙ away)

    reads-none : read_by n i ≡ false
    reads-none = neither-left (read_by n i) (under_any n.quants (loose g.boxes) i) nothing-inner

    beside : (list_any (reads_cond i) xs ≡ false) × (list_any (reads_cond i) ys ≡ false)
    beside = any-before (reads_cond i) xs (some i c) ys (neither-right (list_any (reads i) head) (list_any (reads_cond i) n.parts.conds.items) reads-none)

    free : (q : ℕ) (cells : List Cell) (env : Environment) → quant_rows n (bag tables g) q (bound i cells env) ≡ quant_rows n (bag tables g) q env
    free q cells env = sym (any-framed n (bag_in tables g.boxes) (loose g.boxes) (bag-framed tables g.boxes) q env (bound i cells env)
        (unread (under_any n.quants (loose g.boxes)) i cells env (neither-right (read_by n i) (under_any n.quants (loose g.boxes) i) nothing-inner)))
