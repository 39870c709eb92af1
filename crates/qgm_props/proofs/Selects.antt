-- What is inferred of a select holds.
use Rattle.std.proofs.Common.{ℕ, zero, suc, ◌≡◌, ◌≢◌, ◌≤◌, ◌==◌, ◌&&◌, ◌||◌, cond, Bool, true, false, List, [], ◌∷◌, refl, sym, ap, subst, ◌∙◌, arith, inl, inr}
use Rattle.std.proofs.Common as p
use Rattle.std.proofs.lemmas.Bool.{and_from, and_parts, eq-eqb, or_left, or_right}
use Rattle.std.specs.List.{list_any, list_all}
use Rattle.row_bag.specs.Bags.{bind, keep, unit}
use Rattle.row_bag.specs.Joins.{how_many}
use Rattle.row_bag.specs.Order.{cell_of}
use Rattle.row_bag.specs.declared.tables.Table.{Table}
use Rattle.sql_value.specs.declared.cell.Cell.{Cell}
use Rattle.sql_value.specs.declared.cell.Cell.TheVariants.{Null}
use Rattle.sql_value.specs.declared.level.Level.{Level}
use Rattle.sql_value.specs.declared.level.Level.TheVariants.{No, Cardinality, Division, Overflow, Yes}
use Rattle.qgm_core.specs.Kinds.{is_F}
use Rattle.list_laws.specs.Lists.{In}
use Rattle.qgm_core.specs.declared.node.Node.{Node}
use Rattle.qgm_core.specs.declared.owned.OwnedQuant.{OwnedQuant}
use Rattle.qgm_meaning.specs.Laws.{occurs}
use Rattle.qgm_meaning.specs.Meaning.{Family, bag_in, given_by, over_each}
use Rattle.qgm_meaning.specs.Scope.{loose, loose_each, looks_found, quant_looks, read_by, under_any}
use Rattle.qgm_meaning.specs.Values.{Bag, Environment, all_true, bound, head_cells, value}
use Rattle.qgm_terms.specs.Wanted.{reads, reads_cond}
use Rattle.qgm_terms.specs.Terms.{Term, int, text, null_int, null_text, col, scalar, both, minus_of, choose, count_all, fold, Cond}
use Rattle.qgm_props.specs.Facts.{EachThere, HasAtMostOne, HasExactlyOne, IsClean, is_sound}
use Rattle.qgm_props.proofs.EachClean.{EachClean, clean-each}
use Rattle.qgm_props.specs.Holding.{is_bound}
use Rattle.qgm_props.specs.Inferred.{Fact, Facts, all_under_F, at_most_one, at_place, clean, cond_free, exactly_one, holds_value, no_cond, is_free, says}
use Rattle.qgm_props.specs.Laws.{Premises}
use Rattle.qgm_props.proofs.Counted.{bind-exact, bind-one}
use Rattle.qgm_props.proofs.Environments.{columns-filled, columns-sound, found-first, rows, rows-are, rows-sound}
use Rattle.qgm_props.proofs.Partial.{AllBoundIn, FittingIn, HoldsIn, is_bound_in}
use Rattle.qgm_props.proofs.Rows.{clean-bind, clean-keep, each-bind, each-keep}
use Rattle.qgm_props.proofs.Terms.{SoundColumns, SoundRows, all-decided, value-sound}

-- the cell at a place of a head that passes a test there
pub head-cell : (test : Term → Bool) (rows : ℕ → Bag) (head : List Term) (env : Environment) (k : ℕ) → at_place test head k ≡ true
    → (x : Term) × ((test x ≡ true) × (cell_of k (head_cells rows head env) ≡ value rows x env))
head-cell test rows head env zero h = absurd (let z : ⊥ = cc in z)
head-cell test rows [] env (suc k) h = absurd (let z : ⊥ = cc in z)
head-cell test rows (x ∷ xs) env (suc zero) h = (x, (h, refl))
head-cell test rows (x ∷ xs) env (suc (suc k)) h = head-cell test rows xs env (suc k) h

module _ (partial : Bool) (tables : List Table) (ns : List Node) (known : Facts) (given' : Premises tables ns) (all : (fact : Fact) → says known fact ≡ true → HoldsIn partial tables ns fact) where
  module _ (n : Node) (here : In n ns) where
    abbrev pub s : Family
    s = rows partial tables ns known given' all n here

    -- where the F quantifiers among these are still to be bound: the environment fits, and what is looked up is bound
    pub record Ready (rs : List OwnedQuant) (env : Environment) : Type 0 where
      pub fit : FittingIn partial (bag_in tables ns) ns env
      pub bound-all : (q : ℕ) → loose_each rs n (loose ns) q ≡ true → is_bound_in partial q env ≡ true
      pub own : (r : OwnedQuant) → In r rs → In r n.quants

    -- an F quantifier comes first
    module _ (r : OwnedQuant) (rs : List OwnedQuant) (env : Environment) (f : is_F r.kind ≡ true) (ready : Ready (r ∷ rs) env) where
      looks : (q : ℕ) → (quant_looks n (loose ns) r.id q || (p.not (r.id == q) && loose_each rs n (loose ns) q)) ≡ true → is_bound_in partial q env ≡ true
      looks q h = ready.bound-all q (subst (λ b. cond b (quant_looks n (loose ns) r.id q || (p.not (r.id == q) && loose_each rs n (loose ns) q)) (loose_each rs n (loose ns) q) ≡ true) (sym f) h)

      pub under-bound : AllBoundIn partial ns r.over env
      under-bound q h = looks q (or_left (quant_looks n (loose ns) r.id q) (p.not (r.id == q) && loose_each rs n (loose ns) q) (ap (λ o. looks_found o (loose ns) q) (found-first n.quants r (given'.apart n here) (ready.own r (inl refl))) ∙ h))

      pub next-ready : (cells : List Cell) → occurs cells (s r.id env) ≡ true → Ready rs (bound r.id cells env)
      next-ready cells o = record {
        fit = (
          record {
            range = r;
            owned = given'.found n r here (ready.own r (inl refl));
            row = ap (occurs cells) (sym (rows-are partial tables ns known given' all n here r (ready.own r (inl refl)) env)) ∙ o;
            before = under-bound;
          },
          ready.fit,
        );
        bound-all = λ q h. one q h (r.id == q) refl;
        own = λ t i. ready.own t (inr i);
      }
        where
          one : (q : ℕ) → loose_each rs n (loose ns) q ≡ true → (b : Bool) → (r.id == q) ≡ b → (partial || (b || is_bound q env)) ≡ true
          one q h true w = or_right partial true refl
          one q h false w = looks q (or_right (quant_looks n (loose ns) r.id q) (p.not (r.id == q) && loose_each rs n (loose ns) q) (and_from (p.not (r.id == q)) (loose_each rs n (loose ns) q) (ap p.not w) h))

    -- another quantifier comes first
    pub skip-ready : (r : OwnedQuant) (rs : List OwnedQuant) (env : Environment) → is_F r.kind ≡ false → Ready (r ∷ rs) env → Ready rs env
    skip-ready r rs env f ready = record {
      fit = ready.fit;
      bound-all = λ q h. ready.bound-all q (subst (λ b. cond b (quant_looks n (loose ns) r.id q || (p.not (r.id == q) && loose_each rs n (loose ns) q)) (loose_each rs n (loose ns) q) ≡ true) (sym f) h);
      own = λ t i. ready.own t (inr i);
    }

    -- all F quantifiers are bound
    under-any : (rs : List OwnedQuant) (r : OwnedQuant) (q : ℕ) → In r rs → loose ns r.over q ≡ true → under_any rs (loose ns) q ≡ true
    under-any [] r q i h = elim i [ ]
    under-any (t ∷ rs) r q i h = elim i [
      | inl e ↦ or_left (loose ns t.over q) (under_any rs (loose ns) q) (ap (λ (u : OwnedQuant). loose ns u.over q) e ∙ h)
      | inr j ↦ or_right (loose ns t.over q) (under_any rs (loose ns) q) (under-any rs r q j h)
    ]

    pub all-rows : (env : Environment) → Ready [] env → SoundRows ns known (λ q. s q env)
    all-rows env ready = rows-sound partial tables ns known given' all n here env ready.fit (λ r i q h. ready.bound-all q (or_right (read_by n q) (under_any n.quants (loose ns) q) (under-any n.quants r q i h)))

    pub all-columns : (env : Environment) (rs : List OwnedQuant) → Ready rs env → SoundColumns ns known env
    all-columns env rs ready = columns-sound partial tables ns known given' all env ready.fit

    -- ---- clean

    pub given-clean : (env : Environment) → Ready [] env → list_all (cond_free ns known false) n.parts.conds.items ≡ true → EachClean (given_by s n env)
    given-clean env ready h =
        clean-keep (all_true (λ q. s q env) n.parts.conds.items env).t (unit (head_cells (λ q. s q env) n.parts.head env))
        (all-decided ns known (λ q. s q env) (all-rows env ready) n.parts.conds.items env (all-columns env [] ready) h).0 (refl, tt)

    pub each-clean : (rs : List OwnedQuant) (env : Environment) → Ready rs env → all_under_F known.clean rs ≡ true → list_all (cond_free ns known false) n.parts.conds.items ≡ true → EachClean (over_each rs s (given_by s n) env)
    each-clean [] env ready c h = given-clean env ready h
    each-clean (r ∷ rs) env ready c h = one (is_F r.kind) refl c (λ env ready c. each-clean rs env ready c h)
      where
        one : (b : Bool) → is_F r.kind ≡ b → cond b (known.clean r.over && all_under_F known.clean rs) (all_under_F known.clean rs) ≡ true
            → ((env : Environment) → Ready rs env → all_under_F known.clean rs ≡ true → EachClean (over_each rs s (given_by s n) env))
            → EachClean (cond b (bind (s r.id env) (λ cells. over_each rs s (given_by s n) (bound r.id cells env))) (over_each rs s (given_by s n) env))
        one true f c i =
            let a = and_parts (known.clean r.over) (all_under_F known.clean rs) c in
            clean-bind (s r.id env) (λ cells. over_each rs s (given_by s n) (bound r.id cells env))
            (clean-each (s r.id env) (subst IsClean (sym (rows-are partial tables ns known given' all n here r (ready.own r (inl refl)) env)) (all (clean r.over) a.0 env ready.fit (under-bound r rs env f ready))))
            (λ cells o. i (bound r.id cells env) (next-ready r rs env f ready cells o) a.1)
        one false f c i = i env (skip-ready r rs env f ready) c

    -- ---- what holds of each tuple

    pub each-given : (P : List Cell → Type 0) (rs : List OwnedQuant) (env : Environment) → Ready rs env
        → ((env : Environment) → Ready [] env → P (head_cells (λ q. s q env) n.parts.head env)) → EachThere P (over_each rs s (given_by s n) env)
    each-given P [] env ready h = each-keep P (all_true (λ q. s q env) n.parts.conds.items env).t (unit (head_cells (λ q. s q env) n.parts.head env)) (λ t. ((λ _. h env ready), tt))
    each-given P (r ∷ rs) env ready h = one (is_F r.kind) refl (λ env ready. each-given P rs env ready h)
      where
        one : (b : Bool) → is_F r.kind ≡ b → ((env : Environment) → Ready rs env → EachThere P (over_each rs s (given_by s n) env))
            → EachThere P (cond b (bind (s r.id env) (λ cells. over_each rs s (given_by s n) (bound r.id cells env))) (over_each rs s (given_by s n) env))
        one true f i = each-bind P (s r.id env) (λ cells. over_each rs s (given_by s n) (bound r.id cells env)) (λ cells o. i (bound r.id cells env) (next-ready r rs env f ready cells o))
        one false f i = i env (skip-ready r rs env f ready)

    pub cell-free : (k : ℕ) → at_place (is_free ns known false) n.parts.head k ≡ true → (env : Environment) → Ready [] env → is_sound (cell_of k (head_cells (λ q. s q env) n.parts.head env)) ≡ true
    cell-free k h env ready =
        let x = head-cell (is_free ns known false) (λ q. s q env) n.parts.head env k h in
        ap is_sound x.1.1 ∙ value-sound ns known (λ q. s q env) (all-rows env ready) false x.0 env (all-columns env [] ready) x.1.0

    -- ---- columns that hold no null

    pub value-filled : partial ≡ false → (rows : ℕ → Bag) (x : Term) (env : Environment) → FittingIn partial (bag_in tables ns) ns env → ((q : ℕ) → reads q x ≡ true → is_bound_in partial q env ≡ true) → holds_value ns known x ≡ true → value rows x env ≢ Null
    value-filled whole rows (int z) env f b h = λ e. let w : ⊥ = cc in w
    value-filled whole rows (text t) env f b h = λ e. let w : ⊥ = cc in w
    value-filled whole rows null_int env f b h = absurd (let w : ⊥ = cc in w)
    value-filled whole rows null_text env f b h = absurd (let w : ⊥ = cc in w)
    value-filled whole rows (col q k) env f b h = columns-filled partial tables ns known given' all whole env f q k (b q (eq-eqb q q refl)) h
    value-filled whole rows (scalar q) env f b h = absurd (let w : ⊥ = cc in w)
    value-filled whole rows (both o x y) env f b h = absurd (let w : ⊥ = cc in w)
    value-filled whole rows (minus_of x) env f b h = absurd (let w : ⊥ = cc in w)
    value-filled whole rows (choose a x) env f b h = absurd (let w : ⊥ = cc in w)
    value-filled whole rows count_all env f b h = absurd (let w : ⊥ = cc in w)
    value-filled whole rows (fold g d x) env f b h = absurd (let w : ⊥ = cc in w)

    -- the cell at a place of a head holds no null, where what the head reads is bound
    pub place-filled : partial ≡ false → (rows : ℕ → Bag) (head : List Term) (env : Environment) (k : ℕ) → FittingIn partial (bag_in tables ns) ns env → ((q : ℕ) → list_any (reads q) head ≡ true → is_bound_in partial q env ≡ true)
        → at_place (holds_value ns known) head k ≡ true → cell_of k (head_cells rows head env) ≢ Null
    place-filled whole rows head env zero f b h = absurd (let w : ⊥ = cc in w)
    place-filled whole rows [] env (suc k) f b h = absurd (let w : ⊥ = cc in w)
    place-filled whole rows (x ∷ xs) env (suc zero) f b h = value-filled whole rows x env f (λ q r. b q (or_left (reads q x) (list_any (reads q) xs) r)) h
    place-filled whole rows (x ∷ xs) env (suc (suc k)) f b h = place-filled whole rows xs env (suc k) f (λ q r. b q (or_right (reads q x) (list_any (reads q) xs) r)) h

    pub cell-filled : partial ≡ false → (k : ℕ) → at_place (holds_value ns known) n.parts.head k ≡ true → (env : Environment) → Ready [] env → cell_of k (head_cells (λ q. s q env) n.parts.head env) ≢ Null
    cell-filled whole k h env ready =
        place-filled whole (λ q. s q env) n.parts.head env k ready.fit
        (λ q r. ready.bound-all q (or_left (read_by n q) (under_any n.quants (loose ns) q) (or_left (list_any (reads q) n.parts.head) (list_any (reads_cond q) n.parts.conds.items) r))) h

    -- ---- rows

    pub each-single : (rs : List OwnedQuant) (env : Environment) → Ready rs env → all_under_F known.at_most_one rs ≡ true → how_many (over_each rs s (given_by s n) env) ≤ 1
    each-single [] env ready c = kept-single (all_true (λ q. s q env) n.parts.conds.items env).t
      where
        kept-single : (l : Level) → how_many (keep l (unit (head_cells (λ q. s q env) n.parts.head env))) ≤ 1
        kept-single No = omega (arith)
        kept-single Cardinality = omega (arith)
        kept-single Division = omega (arith)
        kept-single Overflow = omega (arith)
        kept-single Yes = omega (arith)
    each-single (r ∷ rs) env ready c = one (is_F r.kind) refl c (λ env ready c. each-single rs env ready c)
      where
        one : (b : Bool) → is_F r.kind ≡ b → cond b (known.at_most_one r.over && all_under_F known.at_most_one rs) (all_under_F known.at_most_one rs) ≡ true
            → ((env : Environment) → Ready rs env → all_under_F known.at_most_one rs ≡ true → how_many (over_each rs s (given_by s n) env) ≤ 1)
            → how_many (cond b (bind (s r.id env) (λ cells. over_each rs s (given_by s n) (bound r.id cells env))) (over_each rs s (given_by s n) env)) ≤ 1
        one true f c i =
            let a = and_parts (known.at_most_one r.over) (all_under_F known.at_most_one rs) c in
            bind-one 1 (s r.id env) (λ cells. over_each rs s (given_by s n) (bound r.id cells env))
            (subst HasAtMostOne (sym (rows-are partial tables ns known given' all n here r (ready.own r (inl refl)) env)) (all (at_most_one r.over) a.0 env ready.fit (under-bound r rs env f ready)))
            (λ cells o. i (bound r.id cells env) (next-ready r rs env f ready cells o) a.1)
        one false f c i = i env (skip-ready r rs env f ready) c

    pub each-exact : (rs : List OwnedQuant) (env : Environment) → Ready rs env → all_under_F known.exactly_one rs ≡ true → n.parts.conds.items ≡ [] → how_many (over_each rs s (given_by s n) env) ≡ 1
    each-exact [] env ready c e = subst (λ (cs : List Cond). how_many (keep (all_true (λ q. s q env) cs env).t (unit (head_cells (λ q. s q env) n.parts.head env))) ≡ 1) (sym e) refl
    each-exact (r ∷ rs) env ready c e = one (is_F r.kind) refl c (λ env ready c. each-exact rs env ready c e)
      where
        one : (b : Bool) → is_F r.kind ≡ b → cond b (known.exactly_one r.over && all_under_F known.exactly_one rs) (all_under_F known.exactly_one rs) ≡ true
            → ((env : Environment) → Ready rs env → all_under_F known.exactly_one rs ≡ true → how_many (over_each rs s (given_by s n) env) ≡ 1)
            → how_many (cond b (bind (s r.id env) (λ cells. over_each rs s (given_by s n) (bound r.id cells env))) (over_each rs s (given_by s n) env)) ≡ 1
        one true f c i =
            let a = and_parts (known.exactly_one r.over) (all_under_F known.exactly_one rs) c in
            bind-exact 1 (s r.id env) (λ cells. over_each rs s (given_by s n) (bound r.id cells env))
            (subst HasExactlyOne (sym (rows-are partial tables ns known given' all n here r (ready.own r (inl refl)) env)) (all (exactly_one r.over) a.0 env ready.fit (under-bound r rs env f ready)))
            (λ cells o. i (bound r.id cells env) (next-ready r rs env f ready cells o) a.1)
        one false f c i = i env (skip-ready r rs env f ready) c

    pub no-conds : (cs : List Cond) → no_cond cs ≡ true → cs ≡ []
    no-conds [] h = refl
    no-conds (c ∷ cs) h = absurd (let w : ⊥ = cc in w)
