-- U4: a select may stand in the place of INTERSECT or EXCEPT, and the root's bag means the same.
use Rattle.std.proofs.Common.{ℕ, suc, ◌==◌, ◌≡◌, ◌&&◌, ◌||◌, ◌-◌, ◌≤◌, nat_lt, nat_le, not, cond, Bool, true, false, List, [], ◌∷◌, ◌++◌, map, length, Some, None, slice_get, refl, sym, ap, ap₂, subst, ◌∙◌, eqb-true, inl, inr, arith}
use Rattle.std.specs.List.{flat_map, list_all, list_any}
use Rattle.std.proofs.lemmas.Bool.{and_from, and_parts, cases_Bool, le-leb, lt-ltb, ltb-true, or_from, or_left, or_parts, or_right}
use Rattle.std.specs.Prelude.{ℕ, suc, ◌≡◌, ◌++◌, Bool, true, false, List, [], ◌∷◌, length, map, None, Some}
use Rattle.sql_value.specs.declared.cell.Cell.{Cell}
use Rattle.sql_value.specs.declared.level.Level.{Level}
use Rattle.sql_value.specs.declared.order_key.SqlType.{SqlType}
use Rattle.sql_value.specs.Truths as t
use Rattle.row_bag.specs.AsSets.{is_clean}
use Rattle.row_bag.specs.Verdict.{is_there}
use Rattle.row_bag.specs.Bags.{Agree, Alike, bind, keep, unit}
use Rattle.row_bag.specs.Errors.{error_among, error_in}
use Rattle.row_bag.specs.Filters.{passing}
use Rattle.row_bag.specs.Sets.{distinct, error_or_bag, failed_cells, same_cells}
use Rattle.row_bag.specs.declared.row.Row.{Row}
use Rattle.row_bag.specs.declared.tables.Table.{Table}
use Rattle.row_bag.proofs.Agreement.{alike-same, alike-trans}
use Rattle.row_bag.proofs.Counts.{agree-from_alike}
use Rattle.row_bag.proofs.Levels.{least-yes}
use Rattle.row_bag.proofs.TupleBags.{same_cells-decides}
use Rattle.row_bag.specs.Sets as sets
use Rattle.qgm_terms.specs.Named.{columns_in, columns_in_cond, nodes_in, nodes_in_cond}
use Rattle.qgm_terms.specs.Terms.{Cond, some}
use Rattle.qgm_terms.specs.Wanted.{has_aggregate, has_aggregate_cond, reads, reads_cond}
use Rattle.qgm_terms.specs.declared.named.Column.{Column}
use Rattle.qgm_terms.specs.declared.named.QuantNode.{QuantNode}
use Rattle.qgm_terms.specs.Terms as terms
use Rattle.qgm_core.specs.Boxes.{QueryGraph, ids_of, is_box, is_quant, numbers, owns, width}
use Rattle.qgm_core.specs.Edits.{on_boxes}
use Rattle.qgm_core.specs.Kinds.{is_E, is_F, is_F_or_S, is_S, is_plain, width_by}
use Rattle.list_laws.specs.Lists.{EachOnce, In, first, times}
use Rattle.qgm_core.specs.declared.kinds.BoxKind.TheVariants.{SetOp}
use Rattle.qgm_core.specs.declared.kinds.SetOperator.{SetOperator}
use Rattle.qgm_core.specs.declared.kinds.SetOperator.TheVariants.{UnionAll, Union, IntersectAll, Intersect, ExceptAll, Except}
use Rattle.qgm_core.specs.declared.kinds.QuantKind.{QuantKind}
use Rattle.qgm_core.specs.declared.kinds.QuantKind.TheVariants.{A, E, F, S}
use Rattle.qgm_core.specs.declared.kinds.Role.TheVariants.{Plain}
use Rattle.qgm_core.specs.declared.node.Node.{Node}
use Rattle.qgm_core.specs.declared.owned.OwnedQuant.{OwnedQuant}
use Rattle.qgm_wellformed.specs.Columns.{box_under, columns_fit, columns_of, fits}
use Rattle.qgm_wellformed.specs.Shapes.{are_F, arm_fits, columns_placed, is_none, is_set_op, is_unfolded, kind_fits, looks_up, node_fits, nodes_of, role_fits, shape_fits, width_found, is_among}
use Rattle.qgm_wellformed.specs.Types.{agree, arm_agrees, arms_agree, cond_fits, is_known, joined_column, known, lookup_of, term_type, types_agree, types_by, types_of}
use Rattle.qgm_wellformed.specs.WellFormed.{fault}
use Rattle.qgm_wellformed.specs.Shapes as shapes
use Rattle.qgm_meaning.specs.Laws.{occurs}
use Rattle.qgm_meaning.specs.Meaning.{Family, bag_in, combined, given_by, of_two, quant_rows, rows_by, rows_found, rows_of}
use Rattle.qgm_meaning.specs.Satisfies.{Satisfies}
use Rattle.qgm_meaning.specs.Scope.{looks_found, loose, loose_by, loose_each, loose_of, quant_looks, read_by, under_any}
use Rattle.qgm_meaning.specs.Widths.{Filled}
use Rattle.qgm_meaning.specs.Values.{Bag, Environment, bound, head_cells, row_of, truth}
use Rattle.qgm_meaning.proofs.Alikes.{bind-within, once_if-alike}
use Rattle.qgm_meaning.proofs.Frames.{bag-framed}
use Rattle.qgm_meaning.proofs.Joined.{unread}
use Rattle.qgm_meaning.proofs.Satisfying.{of-satisfying}
use Rattle.qgm_meaning.specs.Fits as environments
use Rattle.qgm_edit_laws.specs.Adds.{at}
use Rattle.qgm_edit_laws.specs.Ranges.{columns_from}
use Rattle.qgm_edit_laws.specs.Graph.{Sound}
use Rattle.qgm_edit_laws.specs.Reforms.{types_at}
use Rattle.qgm_edit_laws.specs.Shaped.{Shaped, Typed}
use Rattle.qgm_edit_laws.proofs.AllColumns.{columns-read, columns-row, length-columns}
use Rattle.qgm_edit_laws.proofs.BoxForms.{counted-seen}
use Rattle.qgm_edit_laws.proofs.Formed.{under-is}
use Rattle.qgm_edit_laws.proofs.Ranks.{has-in}
use Rattle.qgm_edit_laws.proofs.Scope.{in-first, unfold-loose}
use Rattle.qgm_edit_laws.proofs.ShapeParts.{ShapeParts, shape-from, shape-parts}
use Rattle.qgm_edit_laws.proofs.Turns.{first-own}
use Rattle.qgm_edit_laws.proofs.TypesBy.{found_by, looked}
use Rattle.qgm_edit_laws.proofs.Widths.{wide}
use Rattle.qgm_edit_laws.specs.PutsBox.{PutsBox}
use Rattle.qgm_edit_laws.specs.SameColumns.{all_same}
use Rattle.qgm_edit_laws.proofs.ConjunctsOf.{all-both}
use Rattle.qgm_edit_laws.proofs.CheckedParts.{shaped, sound, typed}
use Rattle.qgm_edit_laws.proofs.SameColumns.{KnownAt, agree-all, agree-self, all-columns-from, all-each, all-known, all-whole, any-columns-from, any-whole, get-behind, known-each, map-both, placed-at, types-from}
use Rattle.qgm_edit_laws.proofs.PutsBox.{put-agrees}
use Rattle.rule_api.specs.Rules.{Preserves}
use Rattle.rule_facts.proofs.Actions.{preserves-put}
use Rattle.qgm_core.proofs.KindTests.{plain-is}
use Rattle.rule_subquery.specs.SetToExists.{is_intersect_or_except, matches, set_box}
use Rattle.rule_subquery.proofs.SetToExistsRows.{all-same, both-fine, cells-fine, clean-of, except-rows, intersect-rows, level_if, some-same, stands_in}
use Rattle.list_laws.proofs.Membership.{all-in, any-from, any-in, eq-false-sym, eq-itself}
use Rattle.list_laws.proofs.Booleans.{clash}
use Rattle.qgm_core.proofs.Reaching.{overs-held}
use Rattle.list_laws.proofs.Counting.{times-in}

-- o is INTERSECT or EXCEPT of l and r; in the environments that evaluation meets no row of theirs is at an error level or holds an error
pub record SetsAlone (bs : List Node) (o : Node) (form : SetOperator) (types : List SqlType) (l r : OwnedQuant) : Type 0 where
  pub within : In o bs
  pub kind : o.parts.kind ≡ SetOp form types
  pub split : o.quants ≡ l ∷ (r ∷ [])
  pub clean : (tables : List Table) → Satisfies tables bs → (e : Environment) → environments.fits (bag_in tables bs) bs e ≡ true → error_among error_in (bag_in tables bs l.over e ++ bag_in tables bs r.over e) ≡ None

-- what holds of the condition is what holds of its comparisons
module _ (form : SetOperator) (l r w : ℕ) where
  on-matches : (X : Type 0) (f : Cond → X) → f (terms.not (some r (all_same l r w))) ≡ f (some r (all_same l r w)) → f (matches form l r w) ≡ f (some r (all_same l r w))
  on-matches X f h = by form
    where
      by : (form : SetOperator) → f (matches form l r w) ≡ f (some r (all_same l r w))
      by UnionAll = refl
      by Union = refl
      by IntersectAll = refl
      by Intersect = refl
      by ExceptAll = h
      by Except = h

set-kind : (root : ℕ) (bs : List Node) (o : Node) → is_set_op bs o ≡ true → ((are_F 2 o.quants ≡ true) × (list_all (arm_fits bs (width o)) o.quants ≡ true)) × ((nat_lt 0 (width o) ≡ true) × (is_plain o.parts.role ≡ true))
set-kind root bs o f =
    let a = and_parts ((((are_F 2 o.quants && list_all (arm_fits bs (width o)) o.quants) && nat_lt 0 (width o)) && is_none o.parts.conds.items) && is_none o.parts.head) (is_plain o.parts.role) f in
    let b = and_parts (((are_F 2 o.quants && list_all (arm_fits bs (width o)) o.quants) && nat_lt 0 (width o)) && is_none o.parts.conds.items) (is_none o.parts.head) a.0 in
    let c = and_parts ((are_F 2 o.quants && list_all (arm_fits bs (width o)) o.quants) && nat_lt 0 (width o)) (is_none o.parts.conds.items) b.0 in
    let d = and_parts (are_F 2 o.quants && list_all (arm_fits bs (width o)) o.quants) (nat_lt 0 (width o)) c.0 in
    (and_parts (are_F 2 o.quants) (list_all (arm_fits bs (width o)) o.quants) d.0, (d.1, a.1))

not-zero : (k : ℕ) → (suc k == 0) ≡ false
not-zero k = elim (cases_Bool (suc k == 0)) [ inr f ↦ f | inl y ↦ absurd (let e = eqb-true (suc k) 0 y in omega (arith, e)) ]

module _ (bs : List Node) (root : ℕ) (w : Sound bs root) (ty : Typed bs) (sh : Shaped bs root) (o : Node) (form : SetOperator) (types : List SqlType) (l r : OwnedQuant) (e : SetsAlone bs o form types l r) where
  abbrev W : ℕ
  W = length types

  abbrev n : Node
  n = set_box form l r W o

  abbrev r' : OwnedQuant
  r' = record r { kind = E }

  abbrev C : Cond
  C = matches form l.id r.id W

  shape-o : ShapeParts root bs o
  shape-o = shape-parts root bs o (sh.shapes o e.within)

  set-o : ((are_F 2 o.quants ≡ true) × (list_all (arm_fits bs (width o)) o.quants ≡ true)) × ((nat_lt 0 (width o) ≡ true) × (is_plain o.parts.role ≡ true))
  set-o = set-kind root bs o (subst (λ k. kind_fits root bs o k ≡ true) e.kind shape-o.kind)

  plain : o.parts.role ≡ Plain
  plain = plain-is o.parts.role set-o.1.1

  wide-o : width o ≡ W
  wide-o = ap (λ k. width_by k (length o.parts.head)) e.kind

  wide-n : width n ≡ width o
  wide-n = length-columns l.id 1 W ∙ sym wide-o

  some-column : 1 ≤ W
  some-column = let a = ltb-true 0 (width o) set-o.1.0 in let b = wide-o in omega arith

  rows-both : (is_F l.kind ≡ true) × (is_F r.kind ≡ true)
  rows-both =
      let a = and_parts (length o.quants == 2) (shapes.all_F o.quants) set-o.0.0 in
      let b : shapes.all_F (l ∷ (r ∷ [])) ≡ true = subst (λ rs. shapes.all_F rs ≡ true) e.split a.1 in
      let c = and_parts (is_F l.kind) (is_F r.kind && true) b in
      (c.0, (and_parts (is_F r.kind) true c.1).0)

  in-l : In l o.quants
  in-l = subst (λ z. In l z) (sym e.split) (inl refl)

  in-r : In r o.quants
  in-r = subst (λ z. In r z) (sym e.split) (inr (inl refl))

  few : (q : ℕ) → times q (l.id ∷ (r.id ∷ [])) ≤ 1
  few q = subst (λ z. times q (map (λ (x : OwnedQuant). x.id) z) ≤ 1) e.split (let a = times-in ids_of q o bs e.within in let b = w.once q in omega arith)

  apart : (l.id == r.id) ≡ false
  apart = elim (cases_Bool (l.id == r.id)) [
    | inr f ↦ f
    | inl y ↦ absurd (
        let a = few r.id in
        let b : ◌≡◌ {A = ℕ} (cond (l.id == r.id) 1 0) 1 = ap (λ (t : Bool). cond {A = ℕ} t 1 0) y in
        let c : ◌≡◌ {A = ℕ} (cond (r.id == r.id) 1 0) 1 = ap (λ (t : Bool). cond {A = ℕ} t 1 0) (eq-itself r.id) in omega arith)
  ]

  owned-l : owns l.id o ≡ true
  owned-l = any-from (is_quant l.id) l o.quants in-l (eq-itself l.id)

  abbrev L : ℕ → ℕ → Bool
  L = loose bs

  -- nothing below looks l up
  under-o : (q : ℕ) → loose_of o L q ≡ (L l.over q || (L r.over q || false))
  under-o q = ap (λ k. loose_by k o L q) e.kind ∙ ap (λ rs. under_any rs L q) e.split

  none-l : (L l.over l.id || (L r.over l.id || false)) ≡ false
  none-l = sym (under-o l.id) ∙ sym (ap (λ (f : ℕ → Bool). f l.id) (unfold-loose bs o w.ordered e.within)) ∙ w.settled o e.within l.id owned-l

  pub r-unread : L r.over l.id ≡ false
  r-unread = (or_parts (L r.over l.id) false (or_parts (L l.over l.id) (L r.over l.id || false) none-l).1).0

  -- ---- what it reads

  reads-cond : (q : ℕ) → (l.id == q) ≡ false → reads_cond q C ≡ false
  reads-cond q f = on-matches form l.id r.id W Bool (reads_cond q) refl ∙ elim (cases_Bool (r.id == q)) [
    | inl y ↦ ap (λ t. not t && reads_cond q (all_same l.id r.id W)) y
    | inr k ↦ ap (λ t. not t && reads_cond q (all_same l.id r.id W)) k ∙ any-whole l.id r.id (reads_cond q) (λ a b. refl) refl W (λ k'. or_from (l.id == q) (r.id == q) f k)
  ]

  reads-n : (q : ℕ) → (l.id == q) ≡ false → read_by n q ≡ false
  reads-n q f = or_from (list_any (reads q) n.parts.head) (reads_cond q C || false) (columns-read l.id q 1 W f) (or_from (reads_cond q C) false (reads-cond q f) refl)

  looks-same : (q : ℕ) → loose_of n L q ≡ loose_of o L q
  looks-same q =
      ap (λ (t : Bool). cond t (quant_looks n L l.id q || (not (l.id == q) && loose_each (r' ∷ []) n L q)) (loose_each (r' ∷ []) n L q)) rows-both.0
      ∙ ap (λ (t : Bool). looks_found (cond t (Some l) (first (is_quant l.id) (r' ∷ []))) L q || (not (l.id == q) && (read_by n q || (L l.over q || (L r.over q || false))))) (eq-itself l.id)
      ∙ (elim (cases_Bool (l.id == q)) [
        | inl y ↦ (
            let z : (L l.over q || (L r.over q || false)) ≡ false = subst (λ z. (L l.over z || (L r.over z || false)) ≡ false) (eqb-true l.id q y) none-l in
            ap (λ (t : Bool). L l.over q || (not t && (read_by n q || (L l.over q || (L r.over q || false))))) y
            ∙ ap (λ b. b || false) (or_parts (L l.over q) (L r.over q || false) z).0 ∙ sym z)
        | inr f ↦ ap (λ (t : Bool). L l.over q || (not t && (read_by n q || (L l.over q || (L r.over q || false))))) f
            ∙ ap (λ b. L l.over q || (b || (L l.over q || (L r.over q || false)))) (reads-n q f) ∙ twice (L l.over q) (L r.over q || false)
      ])
      ∙ sym (under-o q)
    where
      twice : (a b : Bool) → (a || (a || b)) ≡ (a || b)
      twice true b = refl
      twice false b = refl

  -- ---- types

  arms : list_all (arm_agrees (types_of bs) types) (l ∷ (r ∷ [])) ≡ true
  arms =
      let a = and_parts (list_all (λ x. is_known (term_type (lookup_of bs) x)) o.parts.head) (list_all (cond_fits (lookup_of bs)) o.parts.conds.items && arms_agree (types_of bs) o.parts.kind o.quants) (ty o e.within) in
      let b = and_parts (list_all (cond_fits (lookup_of bs)) o.parts.conds.items) (arms_agree (types_of bs) o.parts.kind o.quants) a.1 in
      subst (λ rs. list_all (arm_agrees (types_of bs) types) rs ≡ true) e.split (subst (λ k. arms_agree (types_of bs) k o.quants ≡ true) e.kind b.1)

  known-of : (x : OwnedQuant) → In x o.quants → arm_agrees (types_of bs) types x ≡ true → KnownAt (lookup_of bs) x.id types
  known-of x j h pre t rest split =
      let z = has-in x.over bs (overs-held bs o x w.ordered e.within j) in
      let all : types_at bs z.0.id ≡ known types = ap (types_at bs) z.1.1 ∙ agree-all (types_at bs x.over) types h in
      looked bs x.id (suc (length pre))
      ∙ ap (λ u. found_by (types_at bs) (suc (length pre)) u) (under-is bs w.ordered w.once o x z.0 e.within j z.1.0 z.1.1)
      ∙ ap (λ (b : Bool). cond b None (joined_column (slice_get (types_at bs z.0.id) (suc (length pre) - 1)))) (not-zero (length pre))
      ∙ ap (λ ts. joined_column (slice_get ts (suc (length pre) - 1))) (all ∙ ap known split ∙ map-both (λ u. Some u) pre (t ∷ rest))
      ∙ ap (λ k. joined_column (slice_get (known pre ++ Some t ∷ known rest) k)) (let a = long pre in omega arith)
      ∙ ap joined_column (get-behind (known pre) (Some t) (known rest))
    where
      long : (xs : List SqlType) → length (known xs) ≡ length xs
      long [] = refl
      long (y ∷ xs) = ap suc (long xs)

  known-l : KnownAt (lookup_of bs) l.id types
  known-l = known-of l in-l (and_parts (arm_agrees (types_of bs) types l) (arm_agrees (types_of bs) types r && true) arms).0

  known-r : KnownAt (lookup_of bs) r.id types
  known-r = known-of r in-r (and_parts (arm_agrees (types_of bs) types r) true (and_parts (arm_agrees (types_of bs) types l) (arm_agrees (types_of bs) types r && true) arms).1).0

  head-types : map (λ x. term_type (lookup_of bs) x) n.parts.head ≡ known types
  head-types = types-from (lookup_of bs) l.id types known-l [] types refl

  cond-types : cond_fits (lookup_of bs) C ≡ true
  cond-types = on-matches form l.id r.id W Bool (cond_fits (lookup_of bs)) refl ∙ all-whole l.id r.id (cond_fits (lookup_of bs)) (λ a b. refl) W some-column (λ k a b. (
      let p = placed-at types k a b in
      ap₂ agree (ap (lookup_of bs l.id) p.1.1.1.1 ∙ known-l p.0 p.1.0 p.1.1.0 p.1.1.1.0) (ap (lookup_of bs r.id) p.1.1.1.1 ∙ known-r p.0 p.1.0 p.1.1.0 p.1.1.1.0) ∙ agree-self p.1.0))

  types-n : types_agree bs n ≡ true
  types-n = and_from (list_all (λ x. is_known (term_type (lookup_of bs) x)) n.parts.head) (list_all (cond_fits (lookup_of bs)) (C ∷ []) && true)
      (known-each (lookup_of bs) n.parts.head ∙ ap (list_all is_known) head-types ∙ all-known types)
      (and_from (list_all (cond_fits (lookup_of bs)) (C ∷ [])) true (and_from (cond_fits (lookup_of bs) C) true cond-types refl) refl)

  -- ---- columns

  abbrev pc : Column → Bool
  pc c = fits c.place (box_under bs c.quant)

  fit-of : (x : OwnedQuant) → In x o.quants → (k : ℕ) → 1 ≤ k → k ≤ W → pc (record { quant = x.id; place = k }) ≡ true
  fit-of x j k a b =
      let z = has-in x.over bs (overs-held bs o x w.ordered e.within j) in
      let f : width_found (first (is_box x.over) bs) ≡ width o = eqb-true (width_found (first (is_box x.over) bs)) (width o) (all-in (arm_fits bs (width o)) x o.quants set-o.0.1 j) in
      let g : width z.0 ≡ width o = ap width_found (sym (ap (λ y. first (is_box y) bs) (sym z.1.1) ∙ in-first z.0 bs w.ordered z.1.0)) ∙ f in
      let h = wide-o in
      ap (fits k) (under-is bs w.ordered w.once o x z.0 e.within j z.1.0 z.1.1) ∙ and_from (nat_lt 0 k) (nat_le k (width z.0)) (lt-ltb 0 k (omega arith)) (le-leb k (width z.0) (omega arith))

  columns-n : columns_fit bs n ≡ true
  columns-n = and_from true (list_all pc (columns_of n)) refl
      (all-both pc (flat_map columns_in n.parts.head) (columns_in_cond C ++ [])
      ∙ and_from (list_all pc (flat_map columns_in n.parts.head)) (list_all pc (columns_in_cond C ++ []))
      (all-each pc columns_in n.parts.head ∙ all-columns-from (λ x. list_all pc (columns_in x)) l.id 1 W (λ k a b. and_from (pc (record { quant = l.id; place = k })) true (fit-of l in-l k a (omega arith)) refl))
      (all-both pc (columns_in_cond C) [] ∙ and_from (list_all pc (columns_in_cond C)) true
      (on-matches form l.id r.id W Bool (λ c. list_all pc (columns_in_cond c)) refl
      ∙ all-whole l.id r.id (λ c. list_all pc (columns_in_cond c)) (λ a b. all-both pc (columns_in_cond a) (columns_in_cond b)) W some-column (λ k a b.
      and_from (pc (record { quant = l.id; place = k })) (pc (record { quant = r.id; place = k }) && true) (fit-of l in-l k a b) (and_from (pc (record { quant = r.id; place = k })) true (fit-of r in-r k a b) refl))) refl))

  -- ---- shape

  unfolded-n : is_unfolded n ≡ true
  unfolded-n = ap₂ (λ a b. not a && not b) (any-columns-from has_aggregate l.id 1 W (λ k. refl))
      (or_from (has_aggregate_cond C) false (on-matches form l.id r.id W Bool has_aggregate_cond refl ∙ any-whole l.id r.id has_aggregate_cond (λ a b. refl) refl W (λ k. refl)) refl)

  pn : QuantNode → Bool
  pn = node_fits n.quants

  nodes-n : list_all (node_fits n.quants) (nodes_of n) ≡ true
  nodes-n =
      all-both (node_fits n.quants) (flat_map nodes_in n.parts.head) (nodes_in_cond C ++ [])
      ∙ and_from (list_all (node_fits n.quants) (flat_map nodes_in n.parts.head)) (list_all (node_fits n.quants) (nodes_in_cond C ++ []))
      (all-each (node_fits n.quants) nodes_in n.parts.head ∙ all-columns-from (λ x. list_all (node_fits n.quants) (nodes_in x)) l.id 1 W (λ k a b. refl))
      (all-both (node_fits n.quants) (nodes_in_cond C) [] ∙ and_from (list_all (node_fits n.quants) (nodes_in_cond C)) true
      (on-matches form l.id r.id W Bool (λ c. list_all (node_fits n.quants) (nodes_in_cond c)) refl
      ∙ and_from (is_among is_E r.id n.quants) (list_all (node_fits n.quants) (nodes_in_cond (all_same l.id r.id W)))
      (or_right (is_quant r.id l && is_E l.kind) ((r.id == r.id) && true || false) (or_left ((r.id == r.id) && true) false (and_from (r.id == r.id) true (eq-itself r.id) refl)))
      (all-whole l.id r.id (λ c. list_all (node_fits n.quants) (nodes_in_cond c)) (λ a b. all-both (node_fits n.quants) (nodes_in_cond a) (nodes_in_cond b)) W some-column (λ k a b. refl))) refl)

  placed-n : columns_placed n ≡ true
  placed-n = and_from (is_F l.kind || not (looks_up l.id n)) (not (looks_up r.id n) && true) (or_left (is_F l.kind) (not (looks_up l.id n)) rows-both.0)
      (and_from (not (looks_up r.id n)) true (ap not (reads-n r.id apart)) refl)

  shape-n : shape_fits root bs n ≡ true
  shape-n = shape-from root bs n (record {
    kind = and_from (is_unfolded n) (role_fits root bs n o.parts.role) unfolded-n (subst (λ k. role_fits root bs n k ≡ true) (sym plain) refl);
    nodes = nodes-n;
    placed = placed-n;
    scalar = λ t. ap (nat_lt 0) wide-n ∙ set-o.1.0;
  })

  pub puts : PutsBox bs root o (set_box form l r W)
  puts = record {
    within = e.within;
    id = λ y. refl;
    select = refl;
    ids = λ q. sym (ap (λ rs. times q (map (λ (x : OwnedQuant). x.id) rs)) e.split);
    overs = λ b. sym (ap (λ rs. times b (map (λ (x : OwnedQuant). x.over) rs)) e.split);
    was = λ x j. elim j [
      | inl k ↦ (l, (in-l, (ap (λ (z : OwnedQuant). z.id) k, ap (λ (z : OwnedQuant). z.over) k)))
      | inr j ↦ elim j [
        | inl k ↦ (r, (in-r, (ap (λ (z : OwnedQuant). z.id) k, ap (λ (z : OwnedQuant). z.over) k)))
        | inr z ↦ elim z [ ]
      ]
    ];
    looks = looks-same;
    wide = wide-n;
    stay = head-types ∙ sym (ap (λ k. types_by (lookup_of bs) k o.parts.head) e.kind);
    magic = refl;
    types = types-n;
    columns = columns-n;
    shape = shape-n;
    scalars = λ z x j t k v. absurd (elim j [
      | inl i ↦ clash (is_S x.kind) t (subst (λ (y : OwnedQuant). is_S y.kind ≡ false) i (f-not-s l.kind rows-both.0))
      | inr j ↦ elim j [ inl i ↦ clash (is_S x.kind) t (ap (λ (y : OwnedQuant). is_S y.kind) (sym i)) | inr z ↦ elim z [ ] ]
    ]);
    unseen = λ z x j t k v. elim j [
      | inl i ↦ counted-seen bs root ty sh o z l e.within in-l (subst (λ (y : OwnedQuant). is_F_or_S y.kind ≡ true) (sym i) t) k (v ∙ ap (λ (y : OwnedQuant). y.over) (sym i))
      | inr j ↦ elim j [ inl i ↦ absurd (clash (is_F_or_S x.kind) t (ap (λ (y : OwnedQuant). is_F_or_S y.kind) (sym i))) | inr z ↦ elim z [ ] ]
    ];
    permit = λ t. absurd (let z : ⊥ = cc in z);
  }
    where
      f-not-s : (k : QuantKind) → is_F k ≡ true → is_S k ≡ false
      f-not-s F h = refl
      f-not-s E h = refl
      f-not-s A h = refl
      f-not-s S h = absurd (let z : ⊥ = cc in z)

  -- ---- rows

  module _ (alone : is_intersect_or_except form ≡ true) (tables : List Table) (filled : Filled tables bs) (env : Environment) (none : error_among error_in (bag_in tables bs l.over env ++ bag_in tables bs r.over env) ≡ None) where
    abbrev F' : Family
    F' = bag_in tables bs

    abbrev xs : Bag
    xs = F' l.over env

    abbrev ys : Bag
    ys = F' r.over env

    fine : (error_among error_in xs ≡ None) × (error_among error_in ys ≡ None)
    fine = both-fine xs ys none

    own : (x : OwnedQuant) → In x o.quants → first (is_quant x.id) o.quants ≡ Some x
    own x j = first-own x o.quants (let a = times-in ids_of x.id o bs e.within in let b = w.once x.id in omega arith) j

    rows-o : rows_of tables o F' env ≡ combined form W xs ys
    rows-o =
        ap (λ k. rows_by k tables o (quant_rows o F') env) e.kind
        ∙ ap (λ rs. of_two rs (λ p q. combined form W (quant_rows o F' p env) (quant_rows o F' q env))) e.split
        ∙ ap₂ (λ p q. combined form W (rows_found p F' env) (rows_found q F' env)) (own l in-l) (own r in-r)

    -- rows have as many cells as there are columns
    long-of : (x : OwnedQuant) → In x o.quants → (a : List Cell) → occurs a (F' x.over env) ≡ true → length a ≡ W
    long-of x j a h =
        let z = has-in x.over bs (overs-held bs o x w.ordered e.within j) in
        let f : width_found (first (is_box x.over) bs) ≡ width o = eqb-true (width_found (first (is_box x.over) bs)) (width o) (all-in (arm_fits bs (width o)) x o.quants set-o.0.1 j) in
        let g : width z.0 ≡ width o = ap width_found (sym (ap (λ y. first (is_box y) bs) (sym z.1.1) ∙ in-first z.0 bs w.ordered z.1.0)) ∙ f in
        let y = any-in (λ (r : Row (List Cell)). same_cells r.cells a && is_there r) (F' x.over env) h in
        let s = and_parts (same_cells y.0.cells a) (is_there y.0) y.1.1 in
        ap length (sym ((same_cells-decides y.0.cells a).0 s.0)) ∙ wide bs root w tables filled z.0 z.1.0 env y.0 (subst (λ b. In y.0 (F' b env)) (sym z.1.1) y.1.0) ∙ g ∙ wide-o

    abbrev s' : Family
    s' = quant_rows n F'

    found-l : (e1 : Environment) → s' l.id e1 ≡ F' l.over e1
    found-l e1 = ap (λ (t : Bool). rows_found (cond t (Some l) (first (is_quant l.id) (r' ∷ []))) F' e1) (eq-itself l.id)

    found-r : (e1 : Environment) → s' r.id e1 ≡ F' r.over e1
    found-r e1 = ap (λ (t : Bool). rows_found (cond t (Some l) (first (is_quant r.id) (r' ∷ []))) F' e1) apart ∙ ap (λ (t : Bool). rows_found (cond t (Some r') None) F' e1) (eq-itself r.id)

    module _ (a : List Cell) (there : occurs a xs ≡ true) where
      abbrev e1 : Environment
      e1 = bound l.id a env

      abbrev rows : ℕ → Bag
      rows q = s' q e1

      rows-r : rows r.id ≡ ys
      rows-r = found-r e1 ∙ sym (bag-framed tables bs r.over env e1 (unread (L r.over) l.id a env r-unread))

      some-is : truth rows (some r.id (all_same l.id r.id W)) e1 ≡ t.truth_of (stands_in a ys)
      some-is =
          some-same rows e1 r.id (all_same l.id r.id W) a (subst (λ z. is_clean z ≡ true) (sym rows-r) (clean-of ys fine.1)) (λ cells o1. (
          let o2 : occurs cells ys ≡ true = subst (λ z. occurs cells z ≡ true) rows-r o1 in
          let la = long-of l in-l a there in
          let lc = long-of r in-r cells o2 in
          let at-l : row_of l.id (bound r.id cells e1) ≡ a = ap (λ (t : Bool). cond t cells (cond (l.id == l.id) a (row_of l.id env))) (eq-false-sym l.id r.id apart) ∙ ap (λ (t : Bool). cond t a (row_of l.id env)) (eq-itself l.id) in
          let at-r : row_of r.id (bound r.id cells e1) ≡ cells = ap (λ (t : Bool). cond t cells (row_of r.id e1)) (eq-itself r.id) in
          subst (λ z. truth rows (all_same l.id r.id z) (bound r.id cells e1) ≡ t.truth_of (same_cells a cells)) la
          (all-same rows (bound r.id cells e1) l.id r.id a cells at-l at-r (la ∙ sym lc) (cells-fine xs fine.0 a there) (cells-fine ys fine.1 cells o2))))
          ∙ ap (λ z. t.truth_of (stands_in a z)) rows-r

      head-is : head_cells rows n.parts.head e1 ≡ a
      head-is = subst (λ z. head_cells rows (columns_from l.id 1 z) e1 ≡ a) (long-of l in-l a there) (columns-row rows l.id e1 [] a (ap (λ (t : Bool). cond t a (row_of l.id env)) (eq-itself l.id)))

    abbrev passes_by : SetOperator → List Cell → Bool
    passes_by UnionAll a = stands_in a ys
    passes_by Union a = stands_in a ys
    passes_by IntersectAll a = stands_in a ys
    passes_by Intersect a = stands_in a ys
    passes_by ExceptAll a = not (stands_in a ys)
    passes_by Except a = not (stands_in a ys)

    yes-level : (b : Bool) → (t.truth_of b).t ≡ level_if b
    yes-level true = refl
    yes-level false = refl

    no-level : (b : Bool) → (t.truth_of b).f ≡ level_if (not b)
    no-level true = refl
    no-level false = refl

    level-is : (a : List Cell) (there : occurs a xs ≡ true) → (truth (rows a there) C (e1 a there)).t ≡ level_if (passes_by form a)
    level-is a there = by form
      where
        by : (form : SetOperator) → (truth (rows a there) (matches form l.id r.id W) (e1 a there)).t ≡ level_if (passes_by form a)
        by UnionAll = ap (λ p. p.t) (some-is a there) ∙ yes-level (stands_in a ys)
        by Union = ap (λ p. p.t) (some-is a there) ∙ yes-level (stands_in a ys)
        by IntersectAll = ap (λ p. p.t) (some-is a there) ∙ yes-level (stands_in a ys)
        by Intersect = ap (λ p. p.t) (some-is a there) ∙ yes-level (stands_in a ys)
        by ExceptAll = ap (λ p. p.f) (some-is a there) ∙ no-level (stands_in a ys)
        by Except = ap (λ p. p.f) (some-is a there) ∙ no-level (stands_in a ys)

    given-is : (a : List Cell) → occurs a xs ≡ true → given_by s' n (bound l.id a env) ≡ keep (level_if (passes_by form a)) (unit a)
    given-is a there = ap₂ (λ (k : Level) (cs : List Cell). keep k (unit cs)) (least-yes (truth (rows a there) C (e1 a there)).t ∙ level-is a there) (head-is a there)

    rows-n : rows_of tables n F' env ≡ distinct same_cells (bind xs (λ a. given_by s' n (bound l.id a env)))
    rows-n =
        ap (distinct same_cells) (ap (λ (t : Bool). cond t (bind (s' l.id env) (λ a. given_by s' n (bound l.id a env))) (given_by s' n env)) rows-both.0)
        ∙ ap (λ z. distinct same_cells (bind z (λ a. given_by s' n (bound l.id a env)))) (found-l env)

    pass : Alike (rows_of tables n F' env) (distinct same_cells (passing (λ a. level_if (passes_by form a)) xs))
    pass = alike-trans (alike-same rows-n) (once_if-alike true (bind-within xs (λ a. given_by s' n (bound l.id a env)) (λ a. keep (level_if (passes_by form a)) (unit a)) (λ a there. alike-same (given-is a there))))

    settled : (f : SetOperator) → is_intersect_or_except f ≡ true → Alike (distinct same_cells (passing (λ a. level_if (passes_by f a)) xs)) (combined f W xs ys)
    settled UnionAll h = absurd (let z : ⊥ = cc in z)
    settled Union h = absurd (let z : ⊥ = cc in z)
    settled IntersectAll h = absurd (let z : ⊥ = cc in z)
    settled Intersect h = alike-trans (intersect-rows xs ys (clean-of xs fine.0)) (alike-same (sym (ap (λ k. error_or_bag (failed_cells W) k (sets.intersect same_cells xs ys)) none)))
    settled ExceptAll h = absurd (let z : ⊥ = cc in z)
    settled Except h = alike-trans (except-rows xs ys (clean-of xs fine.0)) (alike-same (sym (ap (λ k. error_or_bag (failed_cells W) k (sets.except same_cells xs ys)) none)))

    pub rows-agree : Agree same_cells (rows_of tables n F' env) (rows_of tables o F' env)
    rows-agree = agree-from_alike same_cells (subst (λ z. Alike (rows_of tables n F' env) z) (sym rows-o) (alike-trans pass (settled form alone)))

pub sets-preserve : (g : QueryGraph) (u : EachOnce (numbers g.boxes)) (k : fault g ≡ None) (o : Node) (form : SetOperator) (types : List SqlType) (l r : OwnedQuant) → is_intersect_or_except form ≡ true → SetsAlone g.boxes o form types l r
    → Preserves g (on_boxes (map (at o.id (set_box form l r (length types)))) g)
sets-preserve g u k o form types l r alone e =
    let w = sound g u k in
    let m : PutsBox g.boxes g.root o (set_box form l r (length types)) = puts g.boxes g.root w (typed g u k) (shaped g u k) o form types l r e in
    preserves-put g u k o (set_box form l r (length types)) m (λ tables s. put-agrees g.boxes g.root w o (set_box form l r (length types)) m tables (λ env fit.
    rows-agree g.boxes g.root w (typed g u k) (shaped g u k) o form types l r e alone tables (of-satisfying.filled tables g.boxes s) env (e.clean tables s env fit)))
