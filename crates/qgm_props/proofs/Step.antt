-- What is inferred of facts that hold holds.
use Rattle.std.proofs.Common.{ℕ, ◌≡◌, ◌≢◌, nat_le, nat_lt, ◌&&◌, ◌||◌, Bool, true, false, List, Option, Some, None, eqb-true, refl, sym, ap, subst, ◌∙◌, arith, inl, inr}
use Rattle.std.proofs.lemmas.Bool.{and_parts, or_cases}
use Rattle.std.specs.List.{list_all}
use Rattle.row_bag.specs.Order.{cell_of}
use Rattle.row_bag.specs.Tables.{bag_named}
use Rattle.row_bag.specs.declared.tables.Table.{Table}
use Rattle.sql_value.specs.declared.cell.Cell.TheVariants.{Null}
use Rattle.qgm_core.specs.Boxes.{is_box, width}
use Rattle.qgm_core.specs.Edits.{with_distinct}
use Rattle.qgm_core.specs.Kinds.{is_enforce}
use Rattle.list_laws.specs.Lists.{In, first}
use Rattle.qgm_core.specs.declared.kinds.BoxKind.{BoxKind}
use Rattle.qgm_core.specs.declared.kinds.BoxKind.TheVariants.{Base, Select, Group, SetOp, OuterJoin}
use Rattle.qgm_core.specs.declared.kinds.Distinct.{Distinct}
use Rattle.qgm_core.specs.declared.node.Node.{Node}
use Rattle.qgm_meaning.specs.Meaning.{bag_in, given_by, over_each, rows_by, rows_of}
use Rattle.qgm_meaning.specs.Values.{Bag, Environment}
use Rattle.qgm_meaning.proofs.Unfold.{unfold-bag}
use Rattle.qgm_meaning.proofs.Within.{loose-unfold}
use Rattle.qgm_meaning.specs.Satisfies.{SatisfiesBy}
use Rattle.qgm_props.specs.Facts.{HasAtMostOne, HasExactlyOne, IsClean, IsErrorFree, IsNotNull, is_sound}
use Rattle.qgm_props.proofs.EachClean.{EachClean, clean-each, each-is-clean}
use Rattle.qgm_props.specs.Holding.{Holds}
use Rattle.qgm_props.specs.Inferred.{Fact, Facts, all_under_F, at_most_one, at_most_one_by, clean, clean_by, cond_free, error_free, exactly_one, exactly_one_by, free_by, inferred_once, no_cond, not_null, not_null_by, of_box, says}
use Rattle.qgm_props.specs.Laws.{Premises}
use Rattle.qgm_props.proofs.Counted.{exact-if, single-if}
use Rattle.qgm_props.proofs.Environments.{first-in}
use Rattle.qgm_props.proofs.Held.{Looked, clean-group, clean-outer, clean-set, exact-group, exact-outer, filled-group, filled-outer, free-group, free-outer, free-set, ready, s, single-outer}
use Rattle.qgm_props.proofs.HeldBases.{base-clean, base-filled, base-free, satisfied}
use Rattle.qgm_props.proofs.Partial.{AllBoundIn, FittingIn, HoldsIn, OfRowsIn, holds-in, in-holds}
use Rattle.qgm_props.proofs.Rows.{clean-if, each-if}
use Rattle.qgm_props.proofs.Selects.{cell-filled, cell-free, each-clean, each-exact, each-given, each-single, no-conds}

module _ (partial : Bool) (tables : List Table) (ns : List Node) (known : Facts) (given : Premises tables ns) (all : (fact : Fact) → says known fact ≡ true → HoldsIn partial tables ns fact) where
  module _ (n : Node) (here : In n ns) (env : Environment) (fit : FittingIn partial (bag_in tables ns) ns env) where
    abbrev pub rows-by : BoxKind → Bag
    rows-by kind = rows_by kind tables n (s partial tables ns known given all n here env fit) env

    abbrev pub Bound : BoxKind → Type 0
    Bound kind = Looked partial tables ns known given all n here env fit kind

    -- with or without DISTINCT
    pub held-clean : (d : Distinct) (kind : BoxKind) → n.parts.kind ≡ kind → SatisfiesBy kind tables → Bound kind → clean_by ns known kind n ≡ true
        → EachClean (rows_by kind tables (with_distinct d n) (s partial tables ns known given all n here env fit) env)
    held-clean d (Base table) e b look h = base-clean table (bag_named tables table.name) b
    held-clean d Select e b look h =
        let a = and_parts (all_under_F known.clean n.quants) (list_all (cond_free ns known false) n.parts.conds.items) h in
        clean-if (is_enforce d) (over_each n.quants (s partial tables ns known given all n here env fit) (given_by (s partial tables ns known given all n here env fit) n) env)
        (each-clean partial tables ns known given all n here n.quants env (ready partial tables ns known given all n here env fit look) a.0 a.1)
    held-clean d (Group k) e b look h = clean-group partial tables ns known given all n here env fit k look h
    held-clean d (SetOp form types) e b look h = clean-set partial tables ns known given all n here env fit form types e look h
    held-clean d OuterJoin e b look h = clean-outer partial tables ns known given all n here env fit look h

    held-free : (kind : BoxKind) (k : ℕ) → SatisfiesBy kind tables → Bound kind → (known.clean n.id ≡ true → EachClean (rows-by kind)) → free_by ns known kind n k ≡ true → IsErrorFree k (rows-by kind)
    held-free (Base table) k b look c h = base-free table (bag_named tables table.name) k b
    held-free Select k b look c h =
        each-if (λ cells. is_sound (cell_of k cells) ≡ true) (is_enforce n.parts.distinct) (over_each n.quants (s partial tables ns known given all n here env fit) (given_by (s partial tables ns known given all n here env fit) n) env)
        (each-given partial tables ns known given all n here (λ cells. is_sound (cell_of k cells) ≡ true) n.quants env (ready partial tables ns known given all n here env fit look) (λ env r. cell-free partial tables ns known given all n here k h env r))
    held-free (Group keys) k b look c h = free-group partial tables ns known given all n here env fit keys k look c h
    held-free (SetOp form types) k b look c h = free-set partial tables ns known given all n here env fit form types k look c h
    held-free OuterJoin k b look c h = free-outer partial tables ns known given all n here env fit k look h

    held-filled : partial ≡ false → (kind : BoxKind) (k : ℕ) → SatisfiesBy kind tables → Bound kind → not_null_by ns known kind n k ≡ true → IsNotNull k (rows-by kind)
    held-filled whole (Base table) k b look h = base-filled table (bag_named tables table.name) k b h
    held-filled whole Select k b look h =
        each-if (λ cells. cell_of k cells ≢ Null) (is_enforce n.parts.distinct) (over_each n.quants (s partial tables ns known given all n here env fit) (given_by (s partial tables ns known given all n here env fit) n) env)
        (each-given partial tables ns known given all n here (λ cells. cell_of k cells ≢ Null) n.quants env (ready partial tables ns known given all n here env fit look) (λ env r. cell-filled partial tables ns known given all n here whole k h env r))
    held-filled whole (Group keys) k b look h = filled-group partial tables ns known given all n here env fit whole keys k look h
    held-filled whole (SetOp form types) k b look h = absurd (let z : ⊥ = cc in z)
    held-filled whole OuterJoin k b look h = filled-outer partial tables ns known given all n here env fit whole k look h

    held-single : (kind : BoxKind) → Bound kind → at_most_one_by ns known kind n ≡ true → HasAtMostOne (rows-by kind)
    held-single (Base table) look h = absurd (let z : ⊥ = cc in z)
    held-single Select look h =
        single-if (is_enforce n.parts.distinct) (over_each n.quants (s partial tables ns known given all n here env fit) (given_by (s partial tables ns known given all n here env fit) n) env)
        (each-single partial tables ns known given all n here n.quants env (ready partial tables ns known given all n here env fit look) h)
    held-single (Group k) look h = absurd (let z : ⊥ = cc in z)
    held-single (SetOp form types) look h = absurd (let z : ⊥ = cc in z)
    held-single OuterJoin look h = single-outer partial tables ns known given all n here env fit look h

    held-exact : (kind : BoxKind) → Bound kind → exactly_one_by ns known kind n ≡ true → HasExactlyOne (rows-by kind)
    held-exact (Base table) look h = absurd (let z : ⊥ = cc in z)
    held-exact Select look h =
        let a = and_parts (all_under_F known.exactly_one n.quants) (no_cond n.parts.conds.items) h in
        exact-if (is_enforce n.parts.distinct) (over_each n.quants (s partial tables ns known given all n here env fit) (given_by (s partial tables ns known given all n here env fit) n) env)
        (each-exact partial tables ns known given all n here n.quants env (ready partial tables ns known given all n here env fit look) a.0 (no-conds partial tables ns known given all n here n.parts.conds.items a.1))
    held-exact (Group k) look h = exact-group partial tables ns known given all n here env fit k h
    held-exact (SetOp form types) look h = absurd (let z : ⊥ = cc in z)
    held-exact OuterJoin look h = exact-outer partial tables ns known given all n here env fit look h

  -- a statement on the rows of a box, by the box that is found
  of-found : (said : Node → Bool) (b : ℕ) (P : Bag → Type 0) → of_box false said (first (is_box b) ns) ≡ true
      → ((n : Node) (here : In n ns) (env : Environment) (fit : FittingIn partial (bag_in tables ns) ns env) → n.id ≡ b → bag_in tables ns b env ≡ rows-by n here env fit n.parts.kind → AllBoundIn partial ns b env → Bound n here env fit n.parts.kind → said n ≡ true → P (rows-by n here env fit n.parts.kind))
      → OfRowsIn partial tables ns b P
  of-found said b P h f = one (first (is_box b) ns) refl h
    where
      one : (o : Option Node) → first (is_box b) ns ≡ o → of_box false said o ≡ true → OfRowsIn partial tables ns b P
      one None w h = absurd (let z : ⊥ = cc in z)
      one (Some n) w h = λ env fit bound.
          let i = first-in (is_box b) ns n w in
          let e : bag_in tables ns b env ≡ rows_of tables n (bag_in tables ns) env = unfold-bag tables ns b n env given.ordered w in
          subst P (sym e) (f n i.0 env fit (eqb-true n.id b i.1) e bound (λ q l. bound q (ap (λ (look : ℕ → Bool). look q) (loose-unfold ns b n given.ordered w) ∙ l)) h)

  pub step : (fact : Fact) → says (inferred_once ns known) fact ≡ true → HoldsIn partial tables ns fact
  step (clean b) h =
      of-found (λ n. clean_by ns known n.parts.kind n) b IsClean h
      (λ n here env fit e u all-bound look k. each-is-clean (rows-by n here env fit n.parts.kind) (held-clean n here env fit n.parts.distinct n.parts.kind refl (satisfied tables ns n given.bases here) look k))
  step (error_free b k) h =
      of-found (λ n. (nat_lt 0 k && nat_le k (width n)) && free_by ns known n.parts.kind n k) b (IsErrorFree k) h
      (λ n here env fit e u all-bound look w. held-free n here env fit n.parts.kind k (satisfied tables ns n given.bases here) look
      (λ c. clean-each (rows-by n here env fit n.parts.kind) (subst IsClean u (all (clean b) (subst (λ b. known.clean b ≡ true) e c) env fit all-bound)))
      (and_parts (nat_lt 0 k && nat_le k (width n)) (free_by ns known n.parts.kind n k) w).1)
  step (not_null b k) h = λ whole.
      of-found (λ n. (nat_lt 0 k && nat_le k (width n)) && not_null_by ns known n.parts.kind n k) b (IsNotNull k) h
      (λ n here env fit e u all-bound look w. held-filled n here env fit whole n.parts.kind k (satisfied tables ns n given.bases here) look
      (and_parts (nat_lt 0 k && nat_le k (width n)) (not_null_by ns known n.parts.kind n k) w).1)
  step (at_most_one b) h =
      of-found (λ n. known.exactly_one b || at_most_one_by ns known n.parts.kind n) b HasAtMostOne h
      (λ n here env fit e u all-bound look w. elim (or_cases (known.exactly_one b) (at_most_one_by ns known n.parts.kind n) w) [
        | inl t ↦ (let x = subst HasExactlyOne u (all (exactly_one b) t env fit all-bound) in omega (arith, x))
        | inr t ↦ held-single n here env fit n.parts.kind look t
      ])
  step (exactly_one b) h = of-found (λ n. exactly_one_by ns known n.parts.kind n) b HasExactlyOne h (λ n here env fit e u all-bound look w. held-exact n here env fit n.parts.kind look w)

pub step-holds : (tables : List Table) (ns : List Node) (known : Facts) → Premises tables ns → ((fact : Fact) → says known fact ≡ true → Holds tables ns fact) → (fact : Fact) → says (inferred_once ns known) fact ≡ true → Holds tables ns fact
step-holds tables ns known given all fact h = in-holds tables ns fact (step false tables ns known given (λ fact k. holds-in tables ns fact (all fact k)) fact h)
