-- What is inferred of a box of each kind holds.
use Rattle.std.proofs.Common.{ℕ, zero, suc, ◌≡◌, ◌≢◌, ◌≤◌, nat_le, ◌==◌, ◌&&◌, ◌||◌, cond, Bool, true, false, List, [], ◌∷◌, ◌++◌, map, take, length, Option, Some, None, eqb-true, refl, sym, ap, subst, ◌∙◌, arith, inl, inr}
use Rattle.std.proofs.Common as p
use Rattle.std.proofs.lemmas.Bool.{and_from, and_parts, eq-eqb, leb-false, leb-true, or_left, or_right}
use Rattle.std.specs.List.{list_any, list_all}
use Rattle.row_bag.specs.Aggregates.{count_cell, values}
use Rattle.sql_value.specs.Arithmetic.{error_or}
use Rattle.sql_value.specs.Cells.{error_of}
use Rattle.qgm_terms.specs.Terms as t
use Rattle.qgm_meaning.specs.Aggregated.{taken_of}
use Rattle.row_bag.specs.Errors.{error_among, error_in}
use Rattle.row_bag.specs.Joins.{how_many}
use Rattle.row_bag.specs.Order.{cell_of}
use Rattle.row_bag.specs.Sets.{error_or_bag, failed_cells, of_group, once, same_cells}
use Rattle.row_bag.specs.Bags.{bind, unit}
use Rattle.row_bag.specs.declared.tables.Table.{Table}
use Rattle.sql_value.specs.declared.cell.Cell.{Cell}
use Rattle.sql_value.specs.declared.cell.Cell.TheVariants.{Null}
use Rattle.sql_value.specs.declared.cell.Kind.{Kind}
use Rattle.sql_value.specs.declared.cell.Kind.TheVariants as kind
use Rattle.sql_value.specs.declared.order_key.SqlType.{SqlType}
use Rattle.qgm_core.specs.Boxes.{is_quant}
use Rattle.list_laws.specs.Lists.{EachOnce, In}
use Rattle.qgm_core.specs.declared.kinds.BoxKind.{BoxKind}
use Rattle.qgm_core.specs.declared.kinds.BoxKind.TheVariants.{Select, Group, SetOp, OuterJoin}
use Rattle.qgm_core.specs.declared.kinds.SetOperator.{SetOperator}
use Rattle.qgm_core.specs.declared.kinds.SetOperator.TheVariants.{UnionAll, Union, IntersectAll, Intersect, ExceptAll, Except}
use Rattle.qgm_core.specs.declared.node.Node.{Node}
use Rattle.qgm_core.specs.declared.owned.OwnedQuant.{OwnedQuant}
use Rattle.qgm_meaning.specs.Laws.{occurs}
use Rattle.qgm_meaning.specs.Meaning.{Family, bag_in, combined, fold_cell, fold_cells, grouped_rows, groups, key_cells, nothing, of_one, of_two, outer_rows}
use Rattle.qgm_meaning.specs.Scope.{loose, loose_by, read_beyond, read_by, under_any}
use Rattle.qgm_meaning.specs.Values.{Bag, Environment, bound, head_cells, row_of, value}
use Rattle.qgm_meaning.specs.Widths.{Wide}
use Rattle.qgm_terms.specs.Wanted.{reads, reads_cond}
use Rattle.qgm_terms.specs.Terms.{Term, int, text, null_int, null_text, col, scalar, both, minus_of, choose, count_all, fold}
use Rattle.qgm_props.specs.Facts.{EachThere, HasAtMostOne, HasExactlyOne, IsClean, IsErrorFree, IsNotNull, is_sound}
use Rattle.qgm_props.proofs.EachClean.{EachClean, clean-each}
use Rattle.qgm_props.specs.Holding.{is_bound}
use Rattle.qgm_props.specs.Inferred.{Fact, Facts, arms_error_free, at_most_one, at_place, clean, clean_op, cond_free, error_free, exactly_one, free_op, holds_left, holds_value, is_count, is_free, not_null, not_null_under, says, under_first, under_second, under_two}
use Rattle.qgm_props.specs.Laws.{Premises}
use Rattle.qgm_props.proofs.Environments.{columns-sound, known-of, rows, rows-are, rows-sound}
use Rattle.qgm_props.proofs.Folds.{clean-among, clean-none, uncollapsed}
use Rattle.qgm_props.proofs.HeldGroups.{fold-sound, group-each, no-key-error, nothing-sound}
use Rattle.qgm_props.proofs.HeldOuters.{null-bound, outer-clean, outer-each, outer-exact, outer-single}
use Rattle.qgm_props.proofs.HeldSets.{NoneIn, clean-combined, combined-clean, combined-each, none-in-arms, places-all}
use Rattle.qgm_props.proofs.Partial.{AllBoundIn, FittingIn, HoldsIn, is_bound_in}
use Rattle.qgm_props.proofs.Rows.{clean-bind, clean-once, occurs-each}
use Rattle.qgm_props.proofs.Selects.{Ready, head-cell, value-filled}
use Rattle.qgm_props.proofs.Wide.{arm-rows}
use Rattle.qgm_props.proofs.Terms.{SoundColumns, SoundRows, sound-bound, value-sound}
use Rattle.list_laws.proofs.Membership.{any-from}

module _ (partial : Bool) (tables : List Table) (ns : List Node) (known : Facts) (given : Premises tables ns) (all : (fact : Fact) → says known fact ≡ true → HoldsIn partial tables ns fact) where
  module _ (n : Node) (here : In n ns) (env : Environment) (fit : FittingIn partial (bag_in tables ns) ns env) where
    abbrev pub s : Family
    s = rows partial tables ns known given all n here

    -- what the box looks up, being of this kind, is bound
    abbrev pub Looked : BoxKind → Type 0
    Looked kind = (q : ℕ) → loose_by kind n (loose ns) q ≡ true → is_bound_in partial q env ≡ true

    -- ---- a select

    pub ready : Looked Select → Ready partial tables ns known given all n here n.quants env
    ready look = record { fit = fit; bound-all = look; own = λ r i. i }

    -- ---- a quantifier of a box that shows none of its own

    any-under : (rs : List OwnedQuant) (r : OwnedQuant) (q : ℕ) → In r rs → loose ns r.over q ≡ true → under_any rs (loose ns) q ≡ true
    any-under [] r q i h = elim i [ ]
    any-under (t ∷ rs) r q i h = elim i [
      | inl e ↦ or_left (loose ns t.over q) (under_any rs (loose ns) q) (ap (λ (u : OwnedQuant). loose ns u.over q) e ∙ h)
      | inr j ↦ or_right (loose ns t.over q) (under_any rs (loose ns) q) (any-under rs r q j h)
    ]

    -- the boxes under the quantifiers have what they look up
    module _ (unders : (q : ℕ) → under_any n.quants (loose ns) q ≡ true → is_bound_in partial q env ≡ true) where
      pub under-bound : (r : OwnedQuant) → In r n.quants → AllBoundIn partial ns r.over env
      under-bound r i q h = unders q (any-under n.quants r q i h)

      pub under-holds : (P : Bag → Type 0) (r : OwnedQuant) → In r n.quants → ((env : Environment) → FittingIn partial (bag_in tables ns) ns env → AllBoundIn partial ns r.over env → P (bag_in tables ns r.over env)) → P (s r.id env)
      under-holds P r i h = subst P (sym (rows-are partial tables ns known given all n here r i env)) (h env fit (under-bound r i))

      pub under-rows : SoundRows ns known (λ q. s q env)
      under-rows = rows-sound partial tables ns known given all n here env fit under-bound

      -- a quantifier bound to one of its rows
      pub one-bound : (r : OwnedQuant) → In r n.quants → (cells : List Cell) → occurs cells (s r.id env) ≡ true → SoundColumns ns known (bound r.id cells env)
      one-bound r i cells o = sound-bound ns known (λ q. s q env) under-rows r.id cells env (columns-sound partial tables ns known given all env fit) o

      -- and two
      pub two-bound : (r t : OwnedQuant) → In r n.quants → In t n.quants → (a b : List Cell) → occurs a (s r.id env) ≡ true → occurs b (s t.id env) ≡ true → SoundColumns ns known (bound t.id b (bound r.id a env))
      two-bound r t i j a b o w = sound-bound ns known (λ q. s q env) under-rows t.id b (bound r.id a env) (one-bound r i a o) w

    -- ---- clean

    clean-two : (f : ℕ → Bool) (rs : List OwnedQuant) → under_two f rs ≡ true → (p : OwnedQuant) × ((q : OwnedQuant) × ((more : List OwnedQuant) × ((rs ≡ p ∷ q ∷ more) × ((f p.over ≡ true) × (f q.over ≡ true)))))
    clean-two f [] h = absurd (let z : ⊥ = cc in z)
    clean-two f (p ∷ []) h = absurd (let a = and_parts (f p.over) false h in let z : ⊥ = cc in z)
    clean-two f (p ∷ q ∷ more) h = let a = and_parts (f p.over) (f q.over) h in (p, (q, (more, (refl, (a.0, a.1)))))

    -- of the box under the first of these quantifiers, and of both
    first-of : (f : ℕ → Bool) (rs : List OwnedQuant) → under_first f rs ≡ true → (p : OwnedQuant) × ((more : List OwnedQuant) × ((rs ≡ p ∷ more) × (f p.over ≡ true)))
    first-of f [] h = absurd (let z : ⊥ = cc in z)
    first-of f (p ∷ more) h = (p, (more, (refl, h)))

    -- a statement on the rows of one quantifier, or of two
    on-one : (P : Bag → Type 0) (rs : List OwnedQuant) (g : ℕ → Bag) (p : OwnedQuant) (more : List OwnedQuant) → rs ≡ p ∷ more → P (g p.id) → P (of_one rs g)
    on-one P rs g p more e h = subst (λ rs. P (of_one rs g)) (sym e) h

    on-two : (P : Bag → Type 0) (rs : List OwnedQuant) (g : ℕ → ℕ → Bag) (p q : OwnedQuant) (more : List OwnedQuant) → rs ≡ p ∷ q ∷ more → P (g p.id q.id) → P (of_two rs g)
    on-two P rs g p q more e h = subst (λ rs. P (of_two rs g)) (sym e) h

    first-own : (p : OwnedQuant) (more : List OwnedQuant) → n.quants ≡ p ∷ more → In p n.quants
    first-own p more e = subst (In p) (sym e) (inl refl)

    second-own : (p q : OwnedQuant) (more : List OwnedQuant) → n.quants ≡ p ∷ q ∷ more → In q n.quants
    second-own p q more e = subst (In q) (sym e) (inr (inl refl))

    -- what is looked up below a box that shows none of its own
    group-under : (k : ℕ) → Looked (Group k) → (q : ℕ) → under_any n.quants (loose ns) q ≡ true → is_bound_in partial q env ≡ true
    group-under k look q h = look q (or_left (under_any n.quants (loose ns) q) (read_beyond (take 1 n.quants) (read_by n) q) h)

    outer-under : Looked OuterJoin → (q : ℕ) → under_any n.quants (loose ns) q ≡ true → is_bound_in partial q env ≡ true
    outer-under look q h = look q (or_left (under_any n.quants (loose ns) q) (read_beyond (take 2 n.quants) (read_by n) q) h)

    -- ---- set operations

    -- an operation over clean arms without errors reads no error
    pub no-error-read : (form : SetOperator) (types : List SqlType) → n.parts.kind ≡ SetOp form types → (unders : (q : ℕ) → under_any n.quants (loose ns) q ≡ true → is_bound_in partial q env ≡ true)
        → (p q : OwnedQuant) → In p n.quants → In q n.quants → known.clean p.over ≡ true → known.clean q.over ≡ true
        → ((k : ℕ) → 1 ≤ k → k ≤ length types → (known.error_free p.over k ≡ true) × (known.error_free q.over k ≡ true)) → error_among error_in (s p.id env ++ s q.id env) ≡ None
    no-error-read form types e unders p q i j c d f =
        none-in-arms (length types) (s p.id env) (s q.id env)
        (under-holds unders (Wide (length types)) p i (λ env w b. arm-rows tables ns given n form types p here e i env))
        (under-holds unders (Wide (length types)) q j (λ env w b. arm-rows tables ns given n form types q here e j env))
        (clean-each (s p.id env) (under-holds unders IsClean p i (all (clean p.over) c))) (clean-each (s q.id env) (under-holds unders IsClean q j (all (clean q.over) d)))
        (λ k l m. under-holds unders (IsErrorFree k) p i (all (error_free p.over k) (f k l m).0)) (λ k l m. under-holds unders (IsErrorFree k) q j (all (error_free q.over k) (f k l m).1))

    -- columns of both arms, place by place
    arms-free : (w : ℕ) (rs : List OwnedQuant) (p q : OwnedQuant) (more : List OwnedQuant) → rs ≡ p ∷ q ∷ more → arms_error_free ns known w rs ≡ true
        → (k : ℕ) → 1 ≤ k → k ≤ w → (known.error_free p.over k ≡ true) × (known.error_free q.over k ≡ true)
    arms-free w rs p q more e h k l m =
        and_parts (known.error_free p.over k) (known.error_free q.over k)
        (subst (λ rs. under_two (λ b. known.error_free b k) rs ≡ true) e (places-all w (λ k. under_two (λ b. known.error_free b k) rs) h k l m))

    pub clean-set : (form : SetOperator) (types : List SqlType) → n.parts.kind ≡ SetOp form types → Looked (SetOp form types) → clean_op ns known form (length types) n.quants ≡ true
        → EachClean (of_two n.quants (λ p q. combined form (length types) (s p env) (s q env)))
    clean-set form types e look h = go (parts form h)
      where
        Arms : SetOperator → Type 0
        Arms UnionAll = Unit {0}
        Arms Union = Unit {0}
        Arms IntersectAll = arms_error_free ns known (length types) n.quants ≡ true
        Arms Intersect = arms_error_free ns known (length types) n.quants ≡ true
        Arms ExceptAll = arms_error_free ns known (length types) n.quants ≡ true
        Arms Except = arms_error_free ns known (length types) n.quants ≡ true

        parts : (form : SetOperator) → clean_op ns known form (length types) n.quants ≡ true → (under_two known.clean n.quants ≡ true) × Arms form
        parts UnionAll h = (h, tt)
        parts Union h = (h, tt)
        parts IntersectAll h = and_parts (under_two known.clean n.quants) (arms_error_free ns known (length types) n.quants) h
        parts Intersect h = and_parts (under_two known.clean n.quants) (arms_error_free ns known (length types) n.quants) h
        parts ExceptAll h = and_parts (under_two known.clean n.quants) (arms_error_free ns known (length types) n.quants) h
        parts Except h = and_parts (under_two known.clean n.quants) (arms_error_free ns known (length types) n.quants) h

        none : (form : SetOperator) (xs ys : Bag) → Arms form → (arms_error_free ns known (length types) n.quants ≡ true → error_among error_in (xs ++ ys) ≡ None) → NoneIn form xs ys
        none UnionAll xs ys a f = tt
        none Union xs ys a f = tt
        none IntersectAll xs ys a f = f a
        none Intersect xs ys a f = f a
        none ExceptAll xs ys a f = f a
        none Except xs ys a f = f a

        go : (under_two known.clean n.quants ≡ true) × Arms form → EachClean (of_two n.quants (λ p q. combined form (length types) (s p env) (s q env)))
        go a =
            let t = clean-two known.clean n.quants a.0 in
            let p = t.0 in let q = t.1.0 in let w = t.1.1.1.0 in
            let i = first-own p (q ∷ t.1.1.0) w in let j = second-own p q t.1.1.0 w in
            on-two EachClean n.quants (λ p q. combined form (length types) (s p env) (s q env)) p q t.1.1.0 w
            (combined-clean form (length types) (s p.id env) (s q.id env)
            (clean-each (s p.id env) (under-holds look IsClean p i (all (clean p.over) t.1.1.1.1.0))) (clean-each (s q.id env) (under-holds look IsClean q j (all (clean q.over) t.1.1.1.1.1)))
            (none form (s p.id env) (s q.id env) a.1 (λ f. no-error-read form types e look p q i j t.1.1.1.1.0 t.1.1.1.1.1 (arms-free (length types) n.quants p q t.1.1.0 w f))))

    pub free-set : (form : SetOperator) (types : List SqlType) (k : ℕ) → Looked (SetOp form types) → (known.clean n.id ≡ true → EachClean (of_two n.quants (λ p q. combined form (length types) (s p env) (s q env))))
        → free_op ns known form n.id n.quants k ≡ true → IsErrorFree k (of_two n.quants (λ p q. combined form (length types) (s p env) (s q env)))
    free-set form types k look clear h = go (parts form h)
      where
        Whole : SetOperator → Type 0
        Whole UnionAll = Unit {0}
        Whole Union = Unit {0}
        Whole IntersectAll = known.clean n.id ≡ true
        Whole Intersect = known.clean n.id ≡ true
        Whole ExceptAll = known.clean n.id ≡ true
        Whole Except = known.clean n.id ≡ true

        parts : (form : SetOperator) → free_op ns known form n.id n.quants k ≡ true → Whole form × (under_two (λ b. known.error_free b k) n.quants ≡ true)
        parts UnionAll h = (tt, h)
        parts Union h = (tt, h)
        parts IntersectAll h = and_parts (known.clean n.id) (under_two (λ b. known.error_free b k) n.quants) h
        parts Intersect h = and_parts (known.clean n.id) (under_two (λ b. known.error_free b k) n.quants) h
        parts ExceptAll h = and_parts (known.clean n.id) (under_two (λ b. known.error_free b k) n.quants) h
        parts Except h = and_parts (known.clean n.id) (under_two (λ b. known.error_free b k) n.quants) h

        none : (form : SetOperator) (xs ys : Bag) → Whole form → (known.clean n.id ≡ true → EachClean (combined form (length types) xs ys)) → NoneIn form xs ys
        none UnionAll xs ys a f = tt
        none Union xs ys a f = tt
        none IntersectAll xs ys a f = clean-combined IntersectAll (length types) xs ys (f a)
        none Intersect xs ys a f = clean-combined Intersect (length types) xs ys (f a)
        none ExceptAll xs ys a f = clean-combined ExceptAll (length types) xs ys (f a)
        none Except xs ys a f = clean-combined Except (length types) xs ys (f a)

        go : Whole form × (under_two (λ b. known.error_free b k) n.quants ≡ true) → IsErrorFree k (of_two n.quants (λ p q. combined form (length types) (s p env) (s q env)))
        go a =
            let t = clean-two (λ b. known.error_free b k) n.quants a.1 in
            let p = t.0 in let q = t.1.0 in let w = t.1.1.1.0 in
            let i = first-own p (q ∷ t.1.1.0) w in let j = second-own p q t.1.1.0 w in
            on-two (IsErrorFree k) n.quants (λ p q. combined form (length types) (s p env) (s q env)) p q t.1.1.0 w
            (combined-each (λ cells. is_sound (cell_of k cells) ≡ true) form (length types) (s p.id env) (s q.id env)
            (under-holds look (IsErrorFree k) p i (all (error_free p.over k) t.1.1.1.1.0)) (under-holds look (IsErrorFree k) q j (all (error_free q.over k) t.1.1.1.1.1))
            (none form (s p.id env) (s q.id env) a.0 (λ c. subst (λ rs. EachClean (of_two rs (λ p q. combined form (length types) (s p env) (s q env)))) w (clear c))))

    -- ---- groups

    -- what a group reads of its own quantifier or of others is bound
    group-reads : (k : ℕ) (r : OwnedQuant) (more : List OwnedQuant) → n.quants ≡ r ∷ more → Looked (Group k) → (cells : List Cell) (q : ℕ) → list_any (reads q) n.parts.head ≡ true → is_bound_in partial q (bound r.id cells env) ≡ true
    group-reads k r more e look cells q h = one (r.id == q) refl
      where
        one : (b : Bool) → (r.id == q) ≡ b → (partial || (b || is_bound q env)) ≡ true
        one true w = or_right partial true refl
        one false w = look q (or_right (under_any n.quants (loose ns) q) (read_beyond (take 1 n.quants) (read_by n) q)
            (subst (λ (rs : List OwnedQuant). read_beyond (take 1 rs) (read_by n) q ≡ true) (sym e)
            (and_from (p.not (list_any (is_quant q) (take 1 (r ∷ more)))) (read_by n q) (ap p.not (or-none w)) (or_left (list_any (reads q) n.parts.head) (list_any (reads_cond q) n.parts.conds.items) h))))
          where
            or-none : (r.id == q) ≡ false → list_any (is_quant q) (take 1 (r ∷ more)) ≡ false
            or-none w = ap (λ b. b || false) w

    -- the quantifier of a group bound to one of its rows
    group-fits : (k : ℕ) (r : OwnedQuant) → In r n.quants → Looked (Group k) → (cells : List Cell) → occurs cells (s r.id env) ≡ true → FittingIn partial (bag_in tables ns) ns (bound r.id cells env)
    group-fits k r i look cells o = (
      record {
        range = r;
        owned = given.found n r here i;
        row = ap (occurs cells) (sym (rows-are partial tables ns known given all n here r i env)) ∙ o;
        before = under-bound (group-under k look) r i;
      },
      fit,
    )

    pub clean-group : (k : ℕ) → Looked (Group k) → (under_first known.clean n.quants && list_all (is_free ns known false) (take k n.parts.head)) ≡ true
        → EachClean (of_one n.quants (λ q. grouped_rows k n.parts.head q env (s q env)))
    clean-group k look h =
        let a = and_parts (under_first known.clean n.quants) (list_all (is_free ns known false) (take k n.parts.head)) h in
        let t = first-of known.clean n.quants a.0 in let r = t.0 in
        let i = first-own r t.1.0 t.1.1.0 in
        let c = clean-each (s r.id env) (under-holds (group-under k look) IsClean r i (all (clean r.over) t.1.1.1)) in
        on-one EachClean n.quants (λ q. grouped_rows k n.parts.head q env (s q env)) r t.1.0 t.1.1.0
        (subst EachClean (sym (uncollapsed (error_among (λ cells. error_in (key_cells k n.parts.head r.id env cells)) (s r.id env)) (length n.parts.head) (groups k n.parts.head r.id env (s r.id env))
        (no-key-error ns known r.id n.parts.head env (s r.id env) (λ cells o. one-bound (group-under k look) r i cells o) k c a.1)))
        (groups-clean k r.id (s r.id env)))
      where
        groups-clean : (k : ℕ) (q : ℕ) (xs : Bag) → EachClean (groups k n.parts.head q env xs)
        groups-clean zero q xs = (refl, tt)
        groups-clean (suc k) q xs =
            clean-bind (once same_cells (bind xs (λ c. unit (key_cells (suc k) n.parts.head q env c)))) (λ key. unit (key ++ fold_cells (suc k) n.parts.head q env (of_group same_cells (key_cells (suc k) n.parts.head q env) key xs)))
            (clean-once (bind xs (λ c. unit (key_cells (suc k) n.parts.head q env c)))) (λ c o. (refl, tt))

    -- the rows of a group whose bag is clean are those of its groups, over clean rows
    group-rows : (P : Bag → Type 0) (k : ℕ) (r : OwnedQuant) (more : List OwnedQuant) → n.quants ≡ r ∷ more → EachClean (of_one n.quants (λ q. grouped_rows k n.parts.head q env (s q env)))
        → (EachClean (s r.id env) → P (groups k n.parts.head r.id env (s r.id env))) → P (of_one n.quants (λ q. grouped_rows k n.parts.head q env (s q env)))
    group-rows P k r more e c f =
        on-one P n.quants (λ q. grouped_rows k n.parts.head q env (s q env)) r more e
        (let w = clean-none (error_among (λ cells. error_in (key_cells k n.parts.head r.id env cells)) (s r.id env)) (length n.parts.head) (groups k n.parts.head r.id env (s r.id env)) (subst (λ rs. EachClean (of_one rs (λ q. grouped_rows k n.parts.head q env (s q env)))) e c) in
        subst P (sym (uncollapsed (error_among (λ cells. error_in (key_cells k n.parts.head r.id env cells)) (s r.id env)) (length n.parts.head) (groups k n.parts.head r.id env (s r.id env)) w))
        (f (clean-among (λ cells. error_in (key_cells k n.parts.head r.id env cells)) (s r.id env) w).0))

    pub free-group : (k place : ℕ) → Looked (Group k) → (known.clean n.id ≡ true → EachClean (of_one n.quants (λ q. grouped_rows k n.parts.head q env (s q env))))
        → (known.clean n.id && at_place (is_free ns known (under_first known.at_most_one n.quants)) n.parts.head place) ≡ true → IsErrorFree place (of_one n.quants (λ q. grouped_rows k n.parts.head q env (s q env)))
    free-group k place look clear h = go n.quants refl
      where
        parts : (known.clean n.id ≡ true) × (at_place (is_free ns known (under_first known.at_most_one n.quants)) n.parts.head place ≡ true)
        parts = and_parts (known.clean n.id) (at_place (is_free ns known (under_first known.at_most_one n.quants)) n.parts.head place) h

        go : (rs : List OwnedQuant) → n.quants ≡ rs → IsErrorFree place (of_one n.quants (λ q. grouped_rows k n.parts.head q env (s q env)))
        go [] e = subst (λ rs. IsErrorFree place (of_one rs (λ q. grouped_rows k n.parts.head q env (s q env)))) (sym e) tt
        go (r ∷ more) e =
            let i = first-own r more e in
            let columns : (cells : List Cell) → occurs cells (s r.id env) ≡ true → SoundColumns ns known (bound r.id cells env) = λ cells o. one-bound (group-under k look) r i cells o in
            let at : at_place (is_free ns known (known.at_most_one r.over)) n.parts.head place ≡ true = subst (λ rs. at_place (is_free ns known (under_first known.at_most_one rs)) n.parts.head place ≡ true) e parts.1 in
            group-rows (IsErrorFree place) k r more e (clear parts.0)
            (λ c. group-each ns known r.id n.parts.head env (s r.id env) columns (is_free ns known (known.at_most_one r.over)) (λ x. is_sound x ≡ true) k place at
            (λ l cells o x w t. value-sound ns known nothing (nothing-sound ns known) (known.at_most_one r.over) x (bound r.id cells env) (columns cells o) t)
            (λ l members m inside fewer x u t. fold-sound ns known r.id n.parts.head env (s r.id env) columns (known.at_most_one r.over) members m inside (λ w. fewer (under-holds (group-under k look) HasAtMostOne r i (all (at_most_one r.over) w))) x t)
            c)

    -- an error isn't null, and a failed row has as many as the head
    failed-cell : (w k : ℕ) (e : Kind) → 1 ≤ k → k ≤ w → cell_of k (failed_cells w e) ≢ Null
    failed-cell w zero e l m = absurd (let z : ⊥ = omega (arith, l) in z)
    failed-cell zero (suc k) e l m = absurd (let z : ⊥ = omega (arith, m) in z)
    failed-cell (suc w) (suc zero) e l m = λ h. let z : ⊥ = cc in z
    failed-cell (suc w) (suc (suc k)) e l m = failed-cell w (suc k) e (omega (arith)) (omega (arith, m))

    at-within : (test : Term → Bool) (head : List Term) (k : ℕ) → at_place test head k ≡ true → (1 ≤ k) × (k ≤ length head)
    at-within test head zero h = absurd (let z : ⊥ = cc in z)
    at-within test [] (suc k) h = absurd (let z : ⊥ = cc in z)
    at-within test (x ∷ xs) (suc zero) h = (omega (arith), let j : length (x ∷ xs) ≡ suc (length xs) = refl in omega (arith, j))
    at-within test (x ∷ xs) (suc (suc k)) h = let i = at-within test xs (suc k) h in (omega (arith), let j : length (x ∷ xs) ≡ suc (length xs) = refl in omega (arith, j, i.1))

    -- a statement on each tuple of a group's rows, over its clean rows or of a failed row
    either-group : (P : List Cell → Type 0) (w : ℕ) (o : Option Kind) (xs : Bag) → ((e : Kind) → P (failed_cells w e)) → (o ≡ None → EachThere P xs) → EachThere P (error_or_bag (failed_cells w) o xs)
    either-group P w None xs f h = h refl
    either-group P w (Some e) xs f h = ((λ _. f e), tt)

    count-filled : (members : Bag) (q : ℕ) (x : Term) → is_count x ≡ true → fold_cell q env members x ≢ Null
    count-filled members q count_all h = λ e. let z : ⊥ = cc in z
    count-filled members q (fold t.count d x) h = error-filled (error_among error_of (bind members (λ cells. unit (value nothing x (bound q cells env))))) (how_many (values (taken_of d) (bind members (λ cells. unit (value nothing x (bound q cells env))))))
      where
        error-filled : (o : Option Kind) (m : ℕ) → error_or o (count_cell m) ≢ Null
        error-filled None m = λ e. let z : ⊥ = cc in z
        error-filled (Some k) m = λ e. let z : ⊥ = cc in z
    count-filled members q (fold t.single d x) h = absurd (let z : ⊥ = cc in z)
    count-filled members q (fold t.sum d x) h = absurd (let z : ⊥ = cc in z)
    count-filled members q (fold t.avg d x) h = absurd (let z : ⊥ = cc in z)
    count-filled members q (fold t.least d x) h = absurd (let z : ⊥ = cc in z)
    count-filled members q (fold t.greatest d x) h = absurd (let z : ⊥ = cc in z)
    count-filled members q (int m) h = absurd (let z : ⊥ = cc in z)
    count-filled members q (text m) h = absurd (let z : ⊥ = cc in z)
    count-filled members q null_int h = absurd (let z : ⊥ = cc in z)
    count-filled members q null_text h = absurd (let z : ⊥ = cc in z)
    count-filled members q (col r k) h = absurd (let z : ⊥ = cc in z)
    count-filled members q (scalar r) h = absurd (let z : ⊥ = cc in z)
    count-filled members q (both o x y) h = absurd (let z : ⊥ = cc in z)
    count-filled members q (minus_of x) h = absurd (let z : ⊥ = cc in z)
    count-filled members q (choose a x) h = absurd (let z : ⊥ = cc in z)

    -- a key, or a count, holds no null
    pub filled-group : partial ≡ false → (k place : ℕ) → Looked (Group k) → cond (nat_le place k) (at_place (holds_value ns known) n.parts.head place) (at_place is_count n.parts.head place) ≡ true
        → IsNotNull place (of_one n.quants (λ q. grouped_rows k n.parts.head q env (s q env)))
    filled-group whole k place look h = go n.quants refl
      where
        NotNull : List Cell → Type 0
        NotNull cells = cell_of place cells ≢ Null

        go : (rs : List OwnedQuant) → n.quants ≡ rs → IsNotNull place (of_one n.quants (λ q. grouped_rows k n.parts.head q env (s q env)))
        go [] e = subst (λ rs. IsNotNull place (of_one rs (λ q. grouped_rows k n.parts.head q env (s q env)))) (sym e) tt
        go (r ∷ more) e =
            on-one (IsNotNull place) n.quants (λ q. grouped_rows k n.parts.head q env (s q env)) r more e
            (one (nat_le place k) refl h)
          where
            i : In r n.quants
            i = first-own r more e

            columns : (cells : List Cell) → occurs cells (s r.id env) ≡ true → SoundColumns ns known (bound r.id cells env)
            columns cells o = one-bound (group-under k look) r i cells o

            one : (b : Bool) → nat_le place k ≡ b → cond b (at_place (holds_value ns known) n.parts.head place) (at_place is_count n.parts.head place) ≡ true → IsNotNull place (grouped_rows k n.parts.head r.id env (s r.id env))
            one true w h =
                either-group NotNull (length n.parts.head) (error_among (λ cells. error_in (key_cells k n.parts.head r.id env cells)) (s r.id env)) (groups k n.parts.head r.id env (s r.id env))
                (λ x. let b = at-within (holds_value ns known) n.parts.head place h in failed-cell (length n.parts.head) place x b.0 b.1)
                (λ x. group-each ns known r.id n.parts.head env (s r.id env) columns (holds_value ns known) (λ c. c ≢ Null) k place h
                (λ l cells o y u t. value-filled partial tables ns known given all n here whole nothing y (bound r.id cells env) (group-fits k r i look cells o)
                (λ q b. group-reads k r more e look cells q (any-from (reads q) y n.parts.head u b)) t)
                (λ l members m inside fewer y u t. absurd (let v = leb-true place k w in let z : ⊥ = omega (arith, l, v) in z))
                (clean-among (λ cells. error_in (key_cells k n.parts.head r.id env cells)) (s r.id env) x).0)
            one false w h =
                either-group NotNull (length n.parts.head) (error_among (λ cells. error_in (key_cells k n.parts.head r.id env cells)) (s r.id env)) (groups k n.parts.head r.id env (s r.id env))
                (λ x. let b = at-within is_count n.parts.head place h in failed-cell (length n.parts.head) place x b.0 b.1)
                (λ x. group-each ns known r.id n.parts.head env (s r.id env) columns is_count (λ c. c ≢ Null) k place h
                (λ l cells o y u t. absurd (let v = leb-false place k w in let z : ⊥ = omega (arith, l, v) in z))
                (λ l members m inside fewer y u t. count-filled members r.id y t)
                (clean-among (λ cells. error_in (key_cells k n.parts.head r.id env cells)) (s r.id env) x).0)

    pub exact-group : (k : ℕ) → ((k == 0) && under_first (λ b. true) n.quants) ≡ true → HasExactlyOne (of_one n.quants (λ q. grouped_rows k n.parts.head q env (s q env)))
    exact-group k h =
        let a = and_parts (k == 0) (under_first (λ b. true) n.quants) h in
        let t = first-of (λ b. true) n.quants a.1 in
        on-one HasExactlyOne n.quants (λ q. grouped_rows k n.parts.head q env (s q env)) t.0 t.1.0 t.1.1.0
        (subst (λ k. HasExactlyOne (grouped_rows k n.parts.head t.0.id env (s t.0.id env))) (sym (eqb-true k 0 a.0)) (failed (error_among (λ cells. error_in (key_cells 0 n.parts.head t.0.id env cells)) (s t.0.id env)) (groups 0 n.parts.head t.0.id env (s t.0.id env)) refl))
      where
        failed : (o : Option Kind) (xs : Bag) → how_many xs ≡ 1 → how_many (error_or_bag (failed_cells (length n.parts.head)) o xs) ≡ 1
        failed None xs h = h
        failed (Some kind.Cardinality) xs h = refl
        failed (Some kind.Division) xs h = refl
        failed (Some kind.Overflow) xs h = refl

    -- ---- outer joins

    pub clean-outer : Looked OuterJoin → (under_two known.clean n.quants && list_all (cond_free ns known false) n.parts.conds.items) ≡ true → EachClean (of_two n.quants (outer_rows n s env))
    clean-outer look h =
        let a = and_parts (under_two known.clean n.quants) (list_all (cond_free ns known false) n.parts.conds.items) h in
        let t = clean-two known.clean n.quants a.0 in
        let p = t.0 in let q = t.1.0 in let w = t.1.1.1.0 in
        let i = first-own p (q ∷ t.1.1.0) w in let j = second-own p q t.1.1.0 w in
        let unders = outer-under look in
        on-two EachClean n.quants (outer_rows n s env) p q t.1.1.0 w
        (outer-clean n s env p.id q.id ns known (clean-each (s p.id env) (under-holds unders IsClean p i (all (clean p.over) t.1.1.1.1.0))) (clean-each (s q.id env) (under-holds unders IsClean q j (all (clean q.over) t.1.1.1.1.1))) a.1
        (λ a b o v. two-bound unders p q i j a b o v))

    -- a statement on each tuple of an outer join
    each-outer : (P : List Cell → Type 0) → Looked OuterJoin
        → ((p q : OwnedQuant) (more : List OwnedQuant) → n.quants ≡ p ∷ q ∷ more → (a b : List Cell) → occurs a (s p.id env) ≡ true → SoundColumns ns known (bound q.id b (bound p.id a env)) → P (head_cells nothing n.parts.head (bound q.id b (bound p.id a env))))
        → EachThere P (of_two n.quants (outer_rows n s env))
    each-outer P look h = go n.quants refl
      where
        go : (rs : List OwnedQuant) → n.quants ≡ rs → EachThere P (of_two n.quants (outer_rows n s env))
        go [] e = subst (λ rs. EachThere P (of_two rs (outer_rows n s env))) (sym e) tt
        go (p ∷ []) e = subst (λ rs. EachThere P (of_two rs (outer_rows n s env))) (sym e) tt
        go (p ∷ q ∷ more) e =
            let i = first-own p (q ∷ more) e in let j = second-own p q more e in let unders = outer-under look in
            on-two (EachThere P) n.quants (outer_rows n s env) p q more e
            (outer-each n s env p.id q.id P (λ a b o v. h p q more e a b o (two-bound unders p q i j a b o v))
            (λ a o. h p q more e a [] o (null-bound ns known q.id (bound p.id a env) (one-bound unders p i a o))))

    pub free-outer : (k : ℕ) → Looked OuterJoin → at_place (is_free ns known false) n.parts.head k ≡ true → IsErrorFree k (of_two n.quants (outer_rows n s env))
    free-outer k look h =
        each-outer (λ cells. is_sound (cell_of k cells) ≡ true) look
        (λ p q more e a b o c.
        let x = head-cell (is_free ns known false) nothing n.parts.head (bound q.id b (bound p.id a env)) k h in
        ap is_sound x.1.1 ∙ value-sound ns known nothing (nothing-sound ns known) false x.0 (bound q.id b (bound p.id a env)) c x.1.0)

    -- a literal, or a column of the first quantifier
    left-filled : partial ≡ false → (p q : OwnedQuant) (more : List OwnedQuant) → n.quants ≡ p ∷ q ∷ more → Looked OuterJoin → (x : Term) → holds_left ns known (p ∷ q ∷ more) x ≡ true
        → (a b : List Cell) → occurs a (s p.id env) ≡ true → value nothing x (bound q.id b (bound p.id a env)) ≢ Null
    left-filled whole p q more e look (col r k) h a b o = second (q.id == r) refl
      where
        parts : (list_any (is_quant r) (p ∷ []) ≡ true) × (not_null_under ns known r k ≡ true)
        parts = and_parts (list_any (is_quant r) (p ∷ [])) (not_null_under ns known r k) h

        is-first : (p.id == r) ≡ true
        is-first = or-false (p.id == r) parts.0
          where
            or-false : (b : Bool) → (b || false) ≡ true → b ≡ true
            or-false true h = refl
            or-false false h = h

        i : In p n.quants
        i = first-own p (q ∷ more) e

        filled : cell_of k a ≢ Null
        filled =
            let u : not_null_under ns known p.id k ≡ true = subst (λ r. not_null_under ns known r k ≡ true) (sym (eqb-true p.id r is-first)) parts.1 in
            let t : known.not_null p.over k ≡ true = sym (known-of partial tables ns known given all n here p i (λ b. known.not_null b k)) ∙ u in
            occurs-each (λ cells. cell_of k cells ≢ Null) (s p.id env) (under-holds (outer-under look) (IsNotNull k) p i (all (not_null p.over k) t whole)) a o

        first : (b : Bool) → (p.id == r) ≡ b → cell_of k (cond b a (row_of r env)) ≢ Null
        first true w = filled
        first false w = absurd (let v : true ≡ false = sym is-first ∙ w in let z : ⊥ = cc in z)

        second : (c : Bool) → (q.id == r) ≡ c → cell_of k (cond c b (cond (p.id == r) a (row_of r env))) ≢ Null
        second true w = absurd (
            let d : EachOnce (p.id ∷ q.id ∷ map (λ r. r.id) more) = subst (λ (rs : List OwnedQuant). EachOnce (map (λ r. r.id) rs)) e (given.apart n here) in
            let u : (q.id == p.id) ≡ true = eq-eqb q.id p.id (eqb-true q.id r w ∙ sym (eqb-true p.id r is-first)) in
            let v : true ≡ false = sym (or_left (q.id == p.id) (list_any (λ m. m == p.id) (map (λ r. r.id) more)) u) ∙ d.0 in let z : ⊥ = cc in z
            )
        second false w = first (p.id == r) refl
    left-filled whole p q more e look (int m) h a b o = λ x. let z : ⊥ = cc in z
    left-filled whole p q more e look (text m) h a b o = λ x. let z : ⊥ = cc in z
    left-filled whole p q more e look null_int h a b o = absurd (let z : ⊥ = cc in z)
    left-filled whole p q more e look null_text h a b o = absurd (let z : ⊥ = cc in z)
    left-filled whole p q more e look (scalar r) h a b o = absurd (let z : ⊥ = cc in z)
    left-filled whole p q more e look (both m x y) h a b o = absurd (let z : ⊥ = cc in z)
    left-filled whole p q more e look (minus_of x) h a b o = absurd (let z : ⊥ = cc in z)
    left-filled whole p q more e look (choose m x) h a b o = absurd (let z : ⊥ = cc in z)
    left-filled whole p q more e look count_all h a b o = absurd (let z : ⊥ = cc in z)
    left-filled whole p q more e look (fold f d x) h a b o = absurd (let z : ⊥ = cc in z)

    pub filled-outer : partial ≡ false → (k : ℕ) → Looked OuterJoin → at_place (holds_left ns known n.quants) n.parts.head k ≡ true → IsNotNull k (of_two n.quants (outer_rows n s env))
    filled-outer whole k look h =
        each-outer (λ cells. cell_of k cells ≢ Null) look
        (λ p q more e a b o c w.
        let x = head-cell (holds_left ns known (p ∷ q ∷ more)) nothing n.parts.head (bound q.id b (bound p.id a env)) k (subst (λ rs. at_place (holds_left ns known rs) n.parts.head k ≡ true) e h) in
        left-filled whole p q more e look x.0 x.1.0 a b o (sym x.1.1 ∙ w))

    pub single-outer : Looked OuterJoin → under_two known.at_most_one n.quants ≡ true → HasAtMostOne (of_two n.quants (outer_rows n s env))
    single-outer look h =
        let t = clean-two known.at_most_one n.quants h in
        let p = t.0 in let q = t.1.0 in let w = t.1.1.1.0 in
        let i = first-own p (q ∷ t.1.1.0) w in let j = second-own p q t.1.1.0 w in
        on-two HasAtMostOne n.quants (outer_rows n s env) p q t.1.1.0 w
        (outer-single n s env p.id q.id (under-holds (outer-under look) HasAtMostOne p i (all (at_most_one p.over) t.1.1.1.1.0)) (under-holds (outer-under look) HasAtMostOne q j (all (at_most_one q.over) t.1.1.1.1.1)))

    pub exact-outer : Looked OuterJoin → (under_first known.exactly_one n.quants && under_second known.at_most_one n.quants) ≡ true → HasExactlyOne (of_two n.quants (outer_rows n s env))
    exact-outer look h = go n.quants refl
      where
        parts : (under_first known.exactly_one n.quants ≡ true) × (under_second known.at_most_one n.quants ≡ true)
        parts = and_parts (under_first known.exactly_one n.quants) (under_second known.at_most_one n.quants) h

        go : (rs : List OwnedQuant) → n.quants ≡ rs → HasExactlyOne (of_two n.quants (outer_rows n s env))
        go [] e = absurd (let v : under_first known.exactly_one [] ≡ true = subst (λ rs. under_first known.exactly_one rs ≡ true) e parts.0 in let z : ⊥ = cc in z)
        go (p ∷ []) e = absurd (let v : under_second known.at_most_one (p ∷ []) ≡ true = subst (λ rs. under_second known.at_most_one rs ≡ true) e parts.1 in let z : ⊥ = cc in z)
        go (p ∷ q ∷ more) e =
            let i = first-own p (q ∷ more) e in let j = second-own p q more e in
            on-two HasExactlyOne n.quants (outer_rows n s env) p q more e
            (outer-exact n s env p.id q.id
            (under-holds (outer-under look) HasExactlyOne p i (all (exactly_one p.over) (subst (λ rs. under_first known.exactly_one rs ≡ true) e parts.0)))
            (under-holds (outer-under look) HasAtMostOne q j (all (at_most_one q.over) (subst (λ rs. under_second known.at_most_one rs ≡ true) e parts.1))))
