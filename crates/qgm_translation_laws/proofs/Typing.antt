-- A query of the grammar without faults has the types that the checks state of its columns, and its expressions have types.
use Rattle.std.proofs.Common.{◌≡◌, ◌∙◌, ◌&&◌, ℕ, Bool, true, false, not, cond, List, [], ◌∷◌, ◌++◌, length, Option, Some, None, refl, sym, ap, ap₂, subst, inl, inr}
use Rattle.std.proofs.lemmas.List.{append_assoc, append-nil, length-map}
use Rattle.sql_ast.specs.Grammatical.{are_arms, are_choices, are_exprs, are_items, are_tables, is_cond, is_expr, is_filter, is_list, is_otherwise, is_query, is_res, is_table, some_choice, some_table}
use Rattle.sql_ast.specs.Syntax as s
use Rattle.sql_meaning.specs.Even.{innermost}
use Rattle.sql_meaning.specs.Grouping.{in_arms, in_choices, in_cond, in_else, in_expr, in_exprs, in_items, in_list, in_res, is_grouped}
use Rattle.sql_meaning.specs.Groups.{is_distinct}
use Rattle.sql_meaning.specs.Names.{column_list, names, shape, table_shape}
use Rattle.sql_meaning.specs.ResolvedTrees.{Values, Froms, Test}
use Rattle.sql_meaning.specs.ResolvedTrees as q
use Rattle.sql_meaning.specs.Scopes.{Shape}
use Rattle.sql_value.specs.declared.order_key.SqlType.{SqlType}
use Rattle.sql_value.specs.declared.order_key.SqlType.TheVariants.{Integer, Varchar}
use Rattle.sql_names.specs.Places.{grouping_places, span_of}
use Rattle.sql_names.specs.Places as places
use Rattle.sql_names.specs.Resolved.{Columns, bare}
use Rattle.sql_names.specs.Resolved as resolved
use Rattle.sql_catalog.proofs.EachLaws.{Each, each_append, each_left, each_right}
use Rattle.sql_faults.proofs.Named.{both_same, names_same, ranges_same, scope_same, table_same}
use Rattle.sql_faults.proofs.Orders.{both_none}
use Rattle.sql_faults.specs.Columns.{all_columns, arm_types, choice_types, columns, columns_or_none, else_types, item_columns, items_columns, list_columns, list_scope, operand_type, ranges, renamed, res_types, table_ranges, type_of, type_of_declared, types_of}
use Rattle.sql_faults.specs.Faults.{arms_fault, choices_fault, compared_fault, cond_fault, else_fault, expr_fault, exprs_fault, filter_fault, from_fault, grouping_fault, items_fault, query_fault, res_fault, scalar_fault, select_fault, table_fault}
use Rattle.sql_faults.specs.Laws.{SameColumns, shapes}
use Rattle.sql_faults.specs.Rules.{is_other, not_one, pair_differs, sub_misplaced, too_wide}
use Rattle.sql_faults.specs.Scopes.{Heads, Scope, Scopes, first_type, is_empty, is_own, is_range_barred, is_some, is_star_barred, plain, released, scope_with}
use Rattle.sql_faults.specs.declared.column.TypedColumn.{TypedColumn}
use Rattle.sql_faults.specs.declared.column.TypedRange.{TypedRange}
use Rattle.std.specs.List.{list_any}
use Rattle.std.proofs.lemmas.Bool.{and_parts, or_left, or_right}
use Rattle.qgm_translation_laws.specs.Typed.{AllAre, AreOf, ArePlaces, ArmsAre, ChoicesAre, FromIs, FromsAre, IsOf, IsOfTypes, IsTyped, arms_typed, choices_typed, keyed, open_scope}
use Rattle.qgm_translation_laws.specs.Typed as t
use Rattle.qgm_translation.specs.Shown.{key_places}
use Rattle.qgm_translation.specs.Terms.{is_untyped}
use Rattle.qgm_translation_laws.proofs.Cells.{AllSee, HasColumn, Sees}
use Rattle.qgm_translation_laws.proofs.Chains.{Agree, IsKnown, Outcome, aggregate_is, agrees, append_are, both_typed, declared_is, either_typed, first_is, last_typed, list_agrees, not_typed, one_type, operand_is, outcome_is, outcome_known, outcome_typed, parts_agree, plus_is, signed_is, times_is, typed_more}
use Rattle.qgm_translation_laws.proofs.Full.{full_query, full_table, full_tables}
use Rattle.qgm_translation_laws.proofs.Plain.{Site}
use Rattle.qgm_translation_laws.proofs.Sights.{Grouped, Groups, Sight, all_full, argument_sight, block_groups, block_sees, from_sees, grouped_having, grouped_list, is_written, no_fault, sight, sound_grouping}
use Rattle.qgm_translation_laws.proofs.Spans.{keys_found, range_is, row_width, star_is}
use Rattle.qgm_translation_laws.proofs.Stated.{AreKinds, HaveTypes, have_append, have_length, lone_type, no_fault_in, renamed_stated, same_pair, same_types, some_types, stated, wanted}
use Rattle.qgm_translation_laws.proofs.Tests.{is_so, last_so}
use Rattle.qgm_translation_laws.specs.Typing.{HaveColumns}

all_append : (xs ys : List TypedRange) → all_columns (xs ++ ys) ≡ all_columns xs ++ all_columns ys
all_append [] ys = refl
all_append (x ∷ xs) ys = ap (λ (z : List TypedColumn). x.columns ++ z) (all_append xs ys) ∙ sym (append_assoc x.columns (all_columns xs) (all_columns ys))

have_all : (xs ys : List TypedRange) (a b : List SqlType) → HaveTypes (all_columns xs) a → HaveTypes (all_columns ys) b → HaveTypes (all_columns (xs ++ ys)) (a ++ b)
have_all xs ys a b h k = ap stated (all_append xs ys) ∙ have_append (all_columns xs) (all_columns ys) a b h k

-- the columns of a lone range, renamed or not
lone_range : (list : List (List ℕ)) (cs : List TypedColumn) (types : List SqlType) → HaveTypes cs types → HaveTypes (renamed list cs ++ []) types
lone_range list cs types h = ap stated (append-nil (renamed list cs)) ∙ renamed_stated list cs ∙ h

-- a block, grouped or not
block_gives : (kinds : List ℕ → List SqlType) (cells : List t.Scope) (b distinct : Bool) (list : Values) (from : Froms) (by : Test) (keys : Option (List ℕ)) (n : ℕ) (having : Test) (row types : List SqlType)
    → FromsAre kinds cells from row → IsTyped kinds None (open_scope row ∷ cells) by → ArePlaces (open_scope row) (key_places keys)
    → AreOf kinds (cond b (Some (open_scope row)) None) (cond b (keyed (key_places keys) 0 row) (open_scope row) ∷ cells) list types
    → IsTyped kinds (cond b (Some (open_scope row)) None) (cond b (keyed (key_places keys) 0 row) (open_scope row) ∷ cells) having
    → IsOfTypes kinds cells (cond b (q.grouped distinct list from by keys n having) (q.block distinct list from by)) types
block_gives kinds cells true distinct list from by keys n having row types f w p l v = (row, (f, w, p, l, v))
block_gives kinds cells false distinct list from by keys n having row types f w p l v = (row, (f, w, l))

module _ (heads : Heads) (known : Columns) (kinds : List ℕ → List SqlType) (same : SameColumns heads (bare known)) (are : AreKinds heads kinds) (full : HaveColumns heads) where
  -- an expression has the type that the checks give it
  abbrev ExprIs : s.Expr → Scopes → List Shape → Option t.Scope → List t.Scope → Type 0
  ExprIs x scopes any rows cells = (u : SqlType) × ((type_of heads x scopes ≡ Some u) × IsOf kinds rows cells (resolved.value known any x) u)

  abbrev QueryIs : s.Query → Scopes → List Shape → List t.Scope → Type 0
  QueryIs body scopes any cells = (types : List SqlType) × (HaveTypes (columns heads body scopes) types × IsOfTypes kinds cells (resolved.query known any body) types)

  moved : (body : s.Query) (scopes : Scopes) (any : List Shape) (cells : List t.Scope) → any ≡ shapes scopes → QueryIs body scopes (shapes scopes) cells → QueryIs body scopes any cells
  moved body scopes any cells e h = subst (λ (z : List Shape). QueryIs body scopes z cells) (sym e) h

  of_type : (scopes : Scopes) (any : List Shape) (rows : Option t.Scope) (cells : List t.Scope) (x : s.Expr) (u : SqlType) (h : ExprIs x scopes any rows cells) → h.0 ≡ u → IsOf kinds rows cells (resolved.value known any x) u
  of_type scopes any rows cells x u h e = subst (IsOf kinds rows cells (resolved.value known any x)) e h.1.1

  -- a subquery that an operand of this type is compared with
  compared : (place : Site) (body : s.Query) (scopes : Scopes) (any : List Shape) (cells : List t.Scope) (u : SqlType) (o : Option SqlType) → o ≡ Some u → compared_fault place o (columns heads body scopes) ≡ 0 → QueryIs body scopes any cells
      → IsOfTypes kinds cells (resolved.query known any body) (u ∷ [])
  compared place body scopes any cells u o e h k =
      let parts = both_none (pair_differs o (first_type (columns heads body scopes))) (scalar_fault place (columns heads body scopes)) h in
      let one = lone_type (columns heads body scopes) k.0 k.1.0 (both_none (not_one (columns heads body scopes)) (sub_misplaced place) parts.1).0 in
      subst (IsOfTypes kinds cells (resolved.query known any body)) (one.1.1 ∙ ap (λ (z : SqlType). z ∷ []) (same_pair u one.0 o (first_type (columns heads body scopes)) e one.1.0 parts.0)) k.1.1

  compared_place : (place : Site) (o : Option SqlType) (cs : List TypedColumn) → compared_fault place o cs ≡ 0 → sub_misplaced place ≡ 0
  compared_place place o cs h = (both_none (not_one cs) (sub_misplaced place) (both_none (pair_differs o (first_type cs)) (scalar_fault place cs) h).1).1

  -- as many columns as names
  width_is : (x : s.Query) (scopes : Scopes) (types : List SqlType) → HaveTypes (columns heads x scopes) types → length types ≡ length (names (bare known) x (shapes scopes))
  width_is x scopes types h =
      have_length (columns heads x scopes) types h ∙ sym (ap length (names_same heads (bare known) same x scopes) ∙ length-map (columns heads x scopes) (λ (c : TypedColumn). c.name))

  mutual
    of_expr : {place : Site} {scopes : Scopes} {any : List Shape} {rows : Option t.Scope} {cells : List t.Scope} (x : s.Expr) → expr_fault heads place x scopes ≡ 0 → is_expr x ≡ true → Sight kinds place scopes any rows cells
        → (in_expr x ≡ true → Groups kinds place scopes any rows) → ExprIs x scopes any rows cells
    of_expr {place} {scopes} {any} {rows} {cells} (s.add x op y) h g w k =
        let a = of_expr x (both_none _ _ (both_none _ _ h).0).0 (and_parts _ _ g).0 w (λ e. k (or_left _ _ e)) in
        let b = of_expr y (both_none _ _ (both_none _ _ h).0).1 (and_parts _ _ (and_parts _ _ g).1).1 w (λ e. k (or_right _ _ e)) in (
          operand_type op,
          (
            refl,
            plus_is kinds rows cells (resolved.value known any x) op (resolved.value known any y) (operand_type op) (operand_is op)
                (of_type scopes any rows cells x (operand_type op) a (wanted (operand_type op) a.0 (type_of heads x scopes) a.1.0 (both_none _ _ (both_none _ _ h).1).0))
                (of_type scopes any rows cells y (operand_type op) b (wanted (operand_type op) b.0 (type_of heads y scopes) b.1.0 (both_none _ _ (both_none _ _ h).1).1)),
          ),
        )
    of_expr {place} {scopes} {any} {rows} {cells} (s.multiply x op y) h g w k =
        let a = of_expr x (both_none _ _ (both_none _ _ h).0).0 (and_parts _ _ (and_parts _ _ g).0).1 w (λ e. k (or_left _ _ e)) in
        let b = of_expr y (both_none _ _ (both_none _ _ h).0).1 (and_parts _ _ (and_parts _ _ g).1).1 w (λ e. k (or_right _ _ e)) in (
          Integer,
          (
            refl,
            times_is kinds rows cells (resolved.value known any x) op (resolved.value known any y)
                (of_type scopes any rows cells x Integer a (wanted Integer a.0 (type_of heads x scopes) a.1.0 (both_none _ _ (both_none _ _ h).1).0))
                (of_type scopes any rows cells y Integer b (wanted Integer b.0 (type_of heads y scopes) b.1.0 (both_none _ _ (both_none _ _ h).1).1)),
          ),
        )
    of_expr {place} {scopes} {any} {rows} {cells} (s.signed p x) h g w k =
        let a = of_expr x (both_none _ _ h).0 (and_parts _ _ g).1 w k in
        (Integer, (refl, signed_is kinds rows cells p (resolved.value known any x) (of_type scopes any rows cells x Integer a (wanted Integer a.0 (type_of heads x scopes) a.1.0 (both_none _ _ h).1))))
    of_expr (s.number n) h g w k = (Integer, (refl, refl))
    of_expr (s.string x) h g w k = (Varchar, (refl, refl))
    of_expr (s.col c) h g w k = w.names c h
    of_expr (s.paren x) h g w k = of_expr x h (and_parts _ _ g).1 w k
    of_expr {place} {scopes} {any} {rows} {cells} (s.scalar body) h g w k =
        let inner = w.nested (both_none _ _ (both_none _ _ h).1).1 in
        let r = moved body scopes any cells inner.0 (of_query body scopes cells (both_none _ _ h).0 g inner.1) in
        let one = lone_type (columns heads body scopes) r.0 r.1.0 (both_none _ _ (both_none _ _ h).1).0 in
        (one.0, (one.1.0, subst (IsOfTypes kinds cells (resolved.query known any body)) one.1.1 r.1.1))
    of_expr s.count_all h g w k = let groups = k refl h in (Integer, (refl, ((groups.0, groups.1.0), refl)))
    of_expr {place} {scopes} {any} {rows} {cells} (s.aggregate f each x) h g w k =
        let groups = k refl (both_none _ _ (both_none _ _ h).1).1 in
        let a = of_expr x (both_none _ _ h).0 g (argument_sight kinds _ scopes any groups.0 ((λ c ss e. is_so (is_own c ss) 12 e), refl, refl) groups.1.1) (λ e z. no_fault 13 refl z) in
        let v = aggregate_is f (type_of heads x (released scopes)) a.0 a.1.0 (both_none _ _ (both_none _ _ h).1).0 in
        (v.0, (v.1.0, (groups.0, (groups.1.0, (a.0, (a.1.1, v.1.1))))))
    of_expr {place} {scopes} {any} {rows} {cells} (s.searched xs o) h g w k =
        let a = of_arms xs (both_none _ _ (both_none _ _ h).0).0 (and_parts _ _ (and_parts _ _ g).1).0 w (λ e. k (or_left _ _ e)) in
        let b = of_otherwise o (both_none _ _ (both_none _ _ h).0).1 (and_parts _ _ (and_parts _ _ g).1).1 w (λ e. k (or_right _ _ e)) in
        let one = one_type (arm_types heads xs scopes) (else_types heads o scopes)
        (each_append IsKnown (arm_types heads xs scopes) (else_types heads o scopes) a.0 (outcome_known kinds rows cells (else_types heads o scopes) (resolved.otherwise known any o) b)) (both_none _ _ h).1 in (
          one.0,
          (
            one.1.0,
            (
              a.1 one.0 one.1.1,
              outcome_is kinds rows cells (else_types heads o scopes) (resolved.otherwise known any o) b one.0 one.1.2,
              last_typed kinds rows cells (arms_typed (resolved.arms known any xs)) (arm_types heads xs scopes) (resolved.otherwise known any o) (else_types heads o scopes) a.2 b one.1.3,
            ),
          ),
        )
    of_expr {place} {scopes} {any} {rows} {cells} (s.simple x xs o) h g w k =
        let c = of_expr x (both_none _ _ (both_none _ _ (both_none _ _ h).0).0).0 (and_parts _ _ g).0 w (λ e. k (or_left _ _ e)) in
        let a = of_choices xs (type_of heads x scopes) c.0 c.1.0 (both_none _ _ (both_none _ _ (both_none _ _ h).0).0).1 (and_parts _ _ (and_parts _ _ (and_parts _ _ g).1).1).0 w (λ e. k (or_right _ _ (or_left _ _ e))) in
        let b = of_otherwise o (both_none _ _ (both_none _ _ h).0).1 (last_so (some_choice xs) (are_choices xs) (is_otherwise o) (and_parts _ _ g).1) w (λ e. k (or_right _ _ (or_right _ _ e))) in
        let one = one_type (choice_types heads xs scopes) (else_types heads o scopes)
        (each_append IsKnown (choice_types heads xs scopes) (else_types heads o scopes) a.0 (outcome_known kinds rows cells (else_types heads o scopes) (resolved.otherwise known any o) b)) (both_none _ _ h).1 in (
          one.0,
          (
            one.1.0,
            (
              (c.0, (c.1.1, a.1 one.0 one.1.1)),
              outcome_is kinds rows cells (else_types heads o scopes) (resolved.otherwise known any o) b one.0 one.1.2,
              last_typed kinds rows cells (choices_typed (resolved.choices known any xs)) (choice_types heads xs scopes) (resolved.otherwise known any o) (else_types heads o scopes) a.2 b one.1.3,
            ),
          ),
        )
    of_expr {place} {scopes} {any} {rows} {cells} (s.coalesce x xs) h g w k =
        let a = of_expr x (both_none _ _ (both_none _ _ h).0).0 (and_parts _ _ g).0 w (λ e. k (or_left _ _ e)) in
        let b = of_exprs xs (both_none _ _ (both_none _ _ h).0).1 (and_parts _ _ (and_parts _ _ g).1).1 w (λ e. k (or_right _ _ e)) in
        (a.0, (first_is a.0 (type_of heads x scopes) (types_of heads xs scopes) a.1.0, (a.1.1, b a.0 (parts_agree a.0 (type_of heads x scopes) (types_of heads xs scopes) a.1.0 (both_none _ _ h).1))))
    of_expr {place} {scopes} {any} {rows} {cells} (s.null_if x y) h g w k =
        let a = of_expr x (both_none _ _ (both_none _ _ h).0).0 (and_parts _ _ g).0 w (λ e. k (or_left _ _ e)) in
        let b = of_expr y (both_none _ _ (both_none _ _ h).0).1 (and_parts _ _ g).1 w (λ e. k (or_right _ _ e)) in (
          a.0,
          (
            first_is a.0 (type_of heads x scopes) (type_of heads y scopes ∷ []) a.1.0,
            (a.1.1, of_type scopes any rows cells y a.0 b (same_pair a.0 b.0 (type_of heads x scopes) (type_of heads y scopes) a.1.0 b.1.0 (both_none _ _ h).1)),
          ),
        )
    of_expr (s.cast_null d) h g w k = (type_of_declared d, (refl, ap (λ (z : SqlType). Some z) (declared_is d)))

    of_exprs : {place : Site} {scopes : Scopes} {any : List Shape} {rows : Option t.Scope} {cells : List t.Scope} (xs : s.Exprs) → exprs_fault heads place xs scopes ≡ 0 → are_exprs xs ≡ true → Sight kinds place scopes any rows cells
        → (in_exprs xs ≡ true → Groups kinds place scopes any rows) → (u : SqlType) → Agree u (types_of heads xs scopes) → AllAre kinds rows cells (resolved.values known any xs) u
    of_exprs s.no_expr h g w k u m = tt
    of_exprs {place} {scopes} {any} {rows} {cells} (s.one_expr x xs) h g w k u m =
        let a = of_expr x (both_none _ _ h).0 (and_parts _ _ g).0 w (λ e. k (or_left _ _ e)) in
        (of_type scopes any rows cells x u a (agrees u a.0 (type_of heads x scopes) a.1.0 m.0), of_exprs xs (both_none _ _ h).1 (and_parts _ _ g).1 w (λ e. k (or_right _ _ e)) u m.1)

    of_res : {place : Site} {scopes : Scopes} {any : List Shape} {rows : Option t.Scope} {cells : List t.Scope} (r : s.Res) → res_fault heads place r scopes ≡ 0 → is_res r ≡ true → Sight kinds place scopes any rows cells
        → (in_res r ≡ true → Groups kinds place scopes any rows) → Outcome kinds rows cells (res_types heads r scopes) (resolved.result known any r)
    of_res (s.given x) h g w k = let a = of_expr x h g w k in inr (a.0, (ap (λ (o : Option SqlType). o ∷ []) a.1.0, a.1.1))
    of_res s.null h g w k = inl (refl, refl)

    of_otherwise : {place : Site} {scopes : Scopes} {any : List Shape} {rows : Option t.Scope} {cells : List t.Scope} (o : s.Otherwise) → else_fault heads place o scopes ≡ 0 → is_otherwise o ≡ true → Sight kinds place scopes any rows cells
        → (in_else o ≡ true → Groups kinds place scopes any rows) → Outcome kinds rows cells (else_types heads o scopes) (resolved.otherwise known any o)
    of_otherwise s.no_else h g w k = inl (refl, refl)
    of_otherwise (s.or_else r) h g w k = of_res r h g w k

    of_arms : {place : Site} {scopes : Scopes} {any : List Shape} {rows : Option t.Scope} {cells : List t.Scope} (xs : s.Arms) → arms_fault heads place xs scopes ≡ 0 → are_arms xs ≡ true → Sight kinds place scopes any rows cells
        → (in_arms xs ≡ true → Groups kinds place scopes any rows)
        → Each IsKnown (arm_types heads xs scopes) × ((u : SqlType) → Agree u (arm_types heads xs scopes) → ArmsAre kinds rows cells (resolved.arms known any xs) u) × (arms_typed (resolved.arms known any xs) ≡ not (is_empty (arm_types heads xs scopes)))
    of_arms s.no_arm h g w k = (tt, (λ u m. tt), refl)
    of_arms {place} {scopes} {any} {rows} {cells} (s.one_arm p r xs) h g w k =
        let c = of_cond p (both_none _ _ (both_none _ _ h).0).0 (and_parts _ _ g).0 w (λ e. k (or_left _ _ e)) in
        let o = of_res r (both_none _ _ (both_none _ _ h).0).1 (and_parts _ _ (and_parts _ _ g).1).0 w (λ e. k (or_right _ _ (or_left _ _ e))) in
        let rest = of_arms xs (both_none _ _ h).1 (and_parts _ _ (and_parts _ _ g).1).1 w (λ e. k (or_right _ _ (or_right _ _ e))) in (
          each_append IsKnown (res_types heads r scopes) (arm_types heads xs scopes) (outcome_known kinds rows cells (res_types heads r scopes) (resolved.result known any r) o) rest.0,
          (λ u m. (
            c,
            outcome_is kinds rows cells (res_types heads r scopes) (resolved.result known any r) o u (each_left (λ (z : Option SqlType). is_other u z ≡ false) (res_types heads r scopes) (arm_types heads xs scopes) m),
            rest.1 u (each_right (λ (z : Option SqlType). is_other u z ≡ false) (res_types heads r scopes) (arm_types heads xs scopes) m),
          )),
          typed_more kinds rows cells (not (is_untyped (resolved.result known any r))) (arms_typed (resolved.arms known any xs)) (res_types heads r scopes) (arm_types heads xs scopes)
              (outcome_typed kinds rows cells (res_types heads r scopes) (resolved.result known any r) o) rest.2,
        )

    -- with the type of the operand
    of_choices : {place : Site} {scopes : Scopes} {any : List Shape} {rows : Option t.Scope} {cells : List t.Scope} (xs : s.Choices) (operand : Option SqlType) (v : SqlType) → operand ≡ Some v → choices_fault heads place operand xs scopes ≡ 0 → are_choices xs ≡ true
        → Sight kinds place scopes any rows cells → (in_choices xs ≡ true → Groups kinds place scopes any rows)
        → Each IsKnown (choice_types heads xs scopes) × ((u : SqlType) → Agree u (choice_types heads xs scopes) → ChoicesAre kinds rows cells v (resolved.choices known any xs) u)
        × (choices_typed (resolved.choices known any xs) ≡ not (is_empty (choice_types heads xs scopes)))
    of_choices s.no_choice operand v f h g w k = (tt, (λ u m. tt), refl)
    of_choices {place} {scopes} {any} {rows} {cells} (s.one_choice x r xs) operand v f h g w k =
        let c = of_expr x (both_none _ _ (both_none _ _ (both_none _ _ h).0).0).0 (and_parts _ _ g).0 w (λ e. k (or_left _ _ e)) in
        let o = of_res r (both_none _ _ (both_none _ _ h).0).1 (and_parts _ _ (and_parts _ _ g).1).0 w (λ e. k (or_right _ _ (or_left _ _ e))) in
        let rest = of_choices xs operand v f (both_none _ _ h).1 (and_parts _ _ (and_parts _ _ g).1).1 w (λ e. k (or_right _ _ (or_right _ _ e))) in (
          each_append IsKnown (res_types heads r scopes) (choice_types heads xs scopes) (outcome_known kinds rows cells (res_types heads r scopes) (resolved.result known any r) o) rest.0,
          (λ u m. (
            of_type scopes any rows cells x v c (same_pair v c.0 operand (type_of heads x scopes) f c.1.0 (both_none _ _ (both_none _ _ (both_none _ _ h).0).0).1),
            outcome_is kinds rows cells (res_types heads r scopes) (resolved.result known any r) o u (each_left (λ (z : Option SqlType). is_other u z ≡ false) (res_types heads r scopes) (choice_types heads xs scopes) m),
            rest.1 u (each_right (λ (z : Option SqlType). is_other u z ≡ false) (res_types heads r scopes) (choice_types heads xs scopes) m),
          )),
          typed_more kinds rows cells (not (is_untyped (resolved.result known any r))) (choices_typed (resolved.choices known any xs)) (res_types heads r scopes) (choice_types heads xs scopes)
              (outcome_typed kinds rows cells (res_types heads r scopes) (resolved.result known any r) o) rest.2,
        )

    -- ---- conditions

    of_cond : {place : Site} {scopes : Scopes} {any : List Shape} {rows : Option t.Scope} {cells : List t.Scope} (p : s.Cond) → cond_fault heads place p scopes ≡ 0 → is_cond p ≡ true → Sight kinds place scopes any rows cells
        → (in_cond p ≡ true → Groups kinds place scopes any rows) → IsTyped kinds rows cells (resolved.test known any p)
    of_cond {place} {scopes} {any} {rows} {cells} (s.either p r) h g w k =
        either_typed kinds rows cells (resolved.test known any p) (resolved.test known any r) (of_cond p (both_none _ _ h).0 (and_parts _ _ g).0 w (λ e. k (or_left _ _ e)))
        (of_cond r (both_none _ _ h).1 (and_parts _ _ (and_parts _ _ g).1).1 w (λ e. k (or_right _ _ e)))
    of_cond {place} {scopes} {any} {rows} {cells} (s.both p r) h g w k =
        both_typed kinds rows cells (resolved.test known any p) (resolved.test known any r) (of_cond p (both_none _ _ h).0 (and_parts _ _ (and_parts _ _ g).0).1 w (λ e. k (or_left _ _ e)))
        (of_cond r (both_none _ _ h).1 (and_parts _ _ (and_parts _ _ g).1).1 w (λ e. k (or_right _ _ e)))
    of_cond (s.negated p) h g w k = of_cond p h (and_parts _ _ g).1 w k
    of_cond (s.bracket p) h g w k = of_cond p h g w k
    of_cond {place} {scopes} {any} {rows} {cells} (s.compare x op y) h g w k =
        let a = of_expr x (both_none _ _ (both_none _ _ h).0).0 (and_parts _ _ g).0 w (λ e. k (or_left _ _ e)) in
        let b = of_expr y (both_none _ _ (both_none _ _ h).0).1 (and_parts _ _ g).1 w (λ e. k (or_right _ _ e)) in
        (a.0, (a.1.1, of_type scopes any rows cells y a.0 b (same_pair a.0 b.0 (type_of heads x scopes) (type_of heads y scopes) a.1.0 b.1.0 (both_none _ _ h).1)))
    of_cond {place} {scopes} {any} {rows} {cells} (s.quantified x op each body) h g w k =
        let a = of_expr x (both_none _ _ (both_none _ _ h).0).0 (and_parts _ _ g).0 w k in
        let inner = w.nested (compared_place place (type_of heads x scopes) (columns heads body scopes) (both_none _ _ h).1) in
        let r = moved body scopes any cells inner.0 (of_query body scopes cells (both_none _ _ (both_none _ _ h).0).1 (and_parts _ _ g).1 inner.1) in
        (a.0, (a.1.1, compared place body scopes any cells a.0 (type_of heads x scopes) a.1.0 (both_none _ _ h).1 r))
    of_cond {place} {scopes} {any} {rows} {cells} (s.between x negative y z) h g w k =
        let a = of_expr x (both_none _ _ (both_none _ _ h).0).0 (and_parts _ _ g).0 w (λ e. k (or_left _ _ e)) in
        let b = of_expr y (both_none _ _ (both_none _ _ (both_none _ _ h).0).1).0 (and_parts _ _ (and_parts _ _ g).1).0 w (λ e. k (or_right _ _ (or_left _ _ e))) in
        let c = of_expr z (both_none _ _ (both_none _ _ (both_none _ _ h).0).1).1 (and_parts _ _ (and_parts _ _ g).1).1 w (λ e. k (or_right _ _ (or_right _ _ e))) in
        not_typed kinds rows cells negative (q.between (resolved.value known any x) (resolved.value known any y) (resolved.value known any z)) (
          a.0,
          (
            a.1.1,
            of_type scopes any rows cells y a.0 b (same_pair a.0 b.0 (type_of heads x scopes) (type_of heads y scopes) a.1.0 b.1.0 (both_none _ _ (both_none _ _ h).1).0),
            of_type scopes any rows cells z a.0 c (same_pair a.0 c.0 (type_of heads x scopes) (type_of heads z scopes) a.1.0 c.1.0 (both_none _ _ (both_none _ _ h).1).1),
          ),
        )
    of_cond {place} {scopes} {any} {rows} {cells} (s.in_query x negative body) h g w k =
        let a = of_expr x (both_none _ _ (both_none _ _ h).0).0 (and_parts _ _ g).0 w k in
        let inner = w.nested (compared_place place (type_of heads x scopes) (columns heads body scopes) (both_none _ _ h).1) in
        let r = moved body scopes any cells inner.0 (of_query body scopes cells (both_none _ _ (both_none _ _ h).0).1 (and_parts _ _ g).1 inner.1) in
        not_typed kinds rows cells negative (q.among_rows (resolved.value known any x) (resolved.query known any body)) (a.0, (a.1.1, compared place body scopes any cells a.0 (type_of heads x scopes) a.1.0 (both_none _ _ h).1 r))
    of_cond {place} {scopes} {any} {rows} {cells} (s.in_list x negative xs) h g w k =
        let a = of_expr x (both_none _ _ (both_none _ _ h).0).0 (and_parts _ _ g).0 w (λ e. k (or_left _ _ e)) in
        let b = of_exprs xs (both_none _ _ (both_none _ _ h).0).1 (and_parts _ _ (and_parts _ _ g).1).1 w (λ e. k (or_right _ _ e)) in
        not_typed kinds rows cells negative (q.among (resolved.value known any x) (resolved.values known any xs)) (a.0, (a.1.1, b a.0 (list_agrees a.0 (type_of heads x scopes) (types_of heads xs scopes) a.1.0 (both_none _ _ h).1)))
    of_cond {place} {scopes} {any} {rows} {cells} (s.like x negative y) h g w k =
        let a = of_expr x (both_none _ _ (both_none _ _ h).0).0 (and_parts _ _ g).0 w (λ e. k (or_left _ _ e)) in
        let b = of_expr y (both_none _ _ (both_none _ _ h).0).1 (and_parts _ _ g).1 w (λ e. k (or_right _ _ e)) in
        not_typed kinds rows cells negative (q.like (resolved.value known any x) (resolved.value known any y)) (
          of_type scopes any rows cells x Varchar a (wanted Varchar a.0 (type_of heads x scopes) a.1.0 (both_none _ _ (both_none _ _ h).1).0),
          of_type scopes any rows cells y Varchar b (wanted Varchar b.0 (type_of heads y scopes) b.1.0 (both_none _ _ (both_none _ _ h).1).1),
        )
    of_cond {place} {scopes} {any} {rows} {cells} (s.is_null x negative) h g w k =
        let a = of_expr x h g w k in
        not_typed kinds rows cells negative (q.is_null (resolved.value known any x)) (a.0, a.1.1)
    of_cond {place} {scopes} {any} {rows} {cells} (s.exists body) h g w k =
        let inner = w.nested (both_none _ _ h).1 in
        let r = moved body scopes any cells inner.0 (of_query body scopes cells (both_none _ _ h).0 g inner.1) in
        (r.0, r.1.1)

    of_filter : {place : Site} {scopes : Scopes} {any : List Shape} {rows : Option t.Scope} {cells : List t.Scope} (by : s.Filter) → filter_fault heads place by scopes ≡ 0 → is_filter by ≡ true → Sight kinds place scopes any rows cells
        → (is_written by ≡ true → Groups kinds place scopes any rows) → IsTyped kinds rows cells (resolved.filter known any by)
    of_filter s.no_filter h g w k = tt
    of_filter (s.only_where p) h g w k = of_cond p h g w (λ e. k refl)

    -- ---- lists

    of_items : (xs : s.Items) (scopes : Scopes) (any : List Shape) (rows : Option t.Scope) (cells : List t.Scope) → items_fault heads xs scopes ≡ 0 → are_items xs ≡ true → any ≡ shapes scopes → AllSee scopes cells
        → (in_items xs ≡ true → Grouped kinds scopes any rows) → (types : List SqlType) × (HaveTypes (items_columns heads xs scopes) types × AreOf kinds rows cells (resolved.items known any xs) types)
    of_items s.no_item scopes any rows cells h g e sees k = ([], (refl, refl))
    of_items (s.one_item (s.item x n) xs) scopes any rows cells h g e sees k =
        let a = of_expr x (both_none _ _ h).0 (and_parts _ _ g).0 (sight kinds _ scopes any rows cells e sees) (λ z _. k (or_left _ _ z)) in
        let rest = of_items xs scopes any rows cells (both_none _ _ h).1 (and_parts _ _ g).1 e sees (λ z. k (or_right _ _ z)) in
        (a.0 ∷ rest.0, (ap₂ (λ (o : Option SqlType) (os : List (Option SqlType)). o ∷ os) a.1.0 rest.1.0, (a.1.1, rest.1.1)))
    of_items (s.one_item (s.all_of name) xs) scopes any rows cells h g e sees k =
        let parts = both_none _ _ (both_none _ _ h).0 in
        let a = range_is kinds rows name scopes cells sees (is_so (is_some (scope_with name scopes)) 7 parts.0) (no_fault_in (is_star_barred name (scope_with name scopes)) 11 parts.1) in
        let rest = of_items xs scopes any rows cells (both_none _ _ h).1 g e sees k in (
          a.0 ++ rest.0,
          (
            have_append (item_columns heads (s.all_of name) scopes) (items_columns heads xs scopes) a.0 rest.0 a.1.0 rest.1.0,
            append_are kinds rows cells (resolved.columns_of (span_of name any)) (resolved.items known any xs) a.0 rest.0
                (subst (λ (z : List Shape). AreOf kinds rows cells (resolved.columns_of (span_of name z)) a.0) (sym e) a.1.1) rest.1.1,
          ),
        )

    of_list : (list : s.SelectList) (scope : Scope) (scopes : Scopes) (any : List Shape) (rows : Option t.Scope) (cell : t.Scope) (cells : List t.Scope) → select_fault heads list (scope ∷ scopes) ≡ 0 → is_list list ≡ true → any ≡ shapes (scope ∷ scopes)
        → AllSee (scope ∷ scopes) (cell ∷ cells) → (in_list list ≡ true → Grouped kinds (scope ∷ scopes) any rows)
        → (types : List SqlType) × (HaveTypes (list_columns heads list (scope ∷ scopes)) types × AreOf kinds rows (cell ∷ cells) (resolved.list known any list) types)
    of_list s.star scope scopes any rows cell cells h g e sees k =
        let own : Sees scope cell = sees.0 in (
          own.row,
          (
            own.types,
            subst (λ (z : List Shape). AreOf kinds rows (cell ∷ cells) (resolved.columns_from 0 0 (places.width (innermost z))) own.row) (sym e)
                (star_is kinds rows scope cell cells own (no_fault_in (list_any (is_range_barred scope.grouping) scope.ranges) 11 h)),
          ),
        )
    of_list (s.items xs) scope scopes any rows cell cells h g e sees k = of_items xs (scope ∷ scopes) any rows (cell ∷ cells) h (and_parts _ _ g).1 e sees k

    -- ---- FROM

    of_tables : (xs : s.TableRefs) (scopes : Scopes) (cells : List t.Scope) → from_fault heads xs scopes ≡ 0 → are_tables xs ≡ true → AllSee scopes cells
        → (row : List SqlType) × (HaveTypes (all_columns (ranges heads xs scopes)) row × FromsAre kinds cells (resolved.froms known (shapes scopes) xs) row)
    of_tables s.no_table scopes cells h g sees = ([], (refl, refl))
    of_tables (s.one_table x xs) scopes cells h g sees =
        let a = of_table x scopes cells (both_none _ _ h).0 (and_parts _ _ g).0 sees in
        let b = of_tables xs scopes cells (both_none _ _ h).1 (and_parts _ _ g).1 sees in
        (a.0 ++ b.0, (have_all (table_ranges heads x scopes) (ranges heads xs scopes) a.0 b.0 a.1.0 b.1.0, (a.0, (b.0, (a.1.1, b.1.1, refl)))))

    of_table : (x : s.TableRef) (scopes : Scopes) (cells : List t.Scope) → table_fault heads x scopes ≡ 0 → is_table x ≡ true → AllSee scopes cells
        → (row : List SqlType) × (HaveTypes (all_columns (table_ranges heads x scopes)) row × FromIs kinds cells (resolved.table known (shapes scopes) x) row)
    of_table (s.join x inner y p) scopes cells h g sees =
        let a = of_table x scopes cells (both_none _ _ (both_none _ _ h).0).0 (and_parts _ _ g).0 sees in
        let b = of_table y scopes cells (both_none _ _ (both_none _ _ h).0).1 (and_parts _ _ (and_parts _ _ (and_parts _ _ g).1).0).1 sees in
        let row = have_all (table_ranges heads x scopes) (table_ranges heads y scopes) a.0 b.0 a.1.0 b.1.0 in
        let filled = each_append HasColumn (table_ranges heads x scopes) (table_ranges heads y scopes) (full_table heads full x scopes (all_full scopes cells sees) (and_parts _ _ g).0 (both_none _ _ (both_none _ _ h).0).0)
        (full_table heads full y scopes (all_full scopes cells sees) (and_parts _ _ (and_parts _ _ (and_parts _ _ g).1).0).1 (both_none _ _ (both_none _ _ h).0).1) in
        let on : IsTyped kinds None (open_scope (a.0 ++ b.0) ∷ cells) (resolved.test known ((table_shape (bare known) x (shapes scopes) ++ table_shape (bare known) y (shapes scopes)) ∷ shapes scopes) p) =
        of_cond p (both_none _ _ h).1 (and_parts _ _ (and_parts _ _ g).1).1
        (sight kinds _ (plain (table_ranges heads x scopes ++ table_ranges heads y scopes) ∷ scopes) ((table_shape (bare known) x (shapes scopes) ++ table_shape (bare known) y (shapes scopes)) ∷ shapes scopes) None (open_scope (a.0 ++ b.0) ∷ cells)
        (ap (λ (rs : Shape). rs ∷ shapes scopes) (both_same heads (bare known) same x y scopes)) (from_sees (table_ranges heads x scopes ++ table_ranges heads y scopes) (a.0 ++ b.0) row filled, sees)) (λ e z. no_fault 13 refl z) in
        (a.0 ++ b.0, (row, (a.0, (b.0, (a.1.1, b.1.1, refl, on)))))
    of_table (s.left_join x outer y p) scopes cells h g sees =
        let a = of_table x scopes cells (both_none _ _ (both_none _ _ h).0).0 (and_parts _ _ g).0 sees in
        let b = of_table y scopes cells (both_none _ _ (both_none _ _ h).0).1 (and_parts _ _ (and_parts _ _ (and_parts _ _ g).1).0).1 sees in
        let row = have_all (table_ranges heads x scopes) (table_ranges heads y scopes) a.0 b.0 a.1.0 b.1.0 in
        let filled = each_append HasColumn (table_ranges heads x scopes) (table_ranges heads y scopes) (full_table heads full x scopes (all_full scopes cells sees) (and_parts _ _ g).0 (both_none _ _ (both_none _ _ h).0).0)
        (full_table heads full y scopes (all_full scopes cells sees) (and_parts _ _ (and_parts _ _ (and_parts _ _ g).1).0).1 (both_none _ _ (both_none _ _ h).0).1) in
        let on : IsTyped kinds None (open_scope (a.0 ++ b.0) ∷ cells) (resolved.test known ((table_shape (bare known) x (shapes scopes) ++ table_shape (bare known) y (shapes scopes)) ∷ shapes scopes) p) =
        of_cond p (both_none _ _ h).1 (and_parts _ _ (and_parts _ _ (and_parts _ _ g).1).1).0
        (sight kinds _ (plain (table_ranges heads x scopes ++ table_ranges heads y scopes) ∷ scopes) ((table_shape (bare known) x (shapes scopes) ++ table_shape (bare known) y (shapes scopes)) ∷ shapes scopes) None (open_scope (a.0 ++ b.0) ∷ cells)
        (ap (λ (rs : Shape). rs ∷ shapes scopes) (both_same heads (bare known) same x y scopes)) (from_sees (table_ranges heads x scopes ++ table_ranges heads y scopes) (a.0 ++ b.0) row filled, sees)) (λ e z. no_fault 13 refl z) in
        let wide : length b.0 ≡ places.width (table_shape (bare known) y (shapes scopes)) =
        have_length (all_columns (table_ranges heads y scopes)) b.0 b.1.0 ∙ sym (ap places.width (table_same heads (bare known) same y scopes) ∙ row_width (table_ranges heads y scopes)) in
        (a.0 ++ b.0, (row, (a.0, (b.0, (a.1.1, b.1.1, refl, on, wide)))))
    of_table (s.cross_join x y) scopes cells h g sees =
        let a = of_table x scopes cells (both_none _ _ h).0 (and_parts _ _ g).0 sees in
        let b = of_table y scopes cells (both_none _ _ h).1 (and_parts _ _ (and_parts _ _ g).1).1 sees in
        (a.0 ++ b.0, (have_all (table_ranges heads x scopes) (table_ranges heads y scopes) a.0 b.0 a.1.0 b.1.0, (a.0, (b.0, (a.1.1, b.1.1, refl)))))
    of_table (s.named name c) scopes cells h g sees = (kinds name, (lone_range (column_list c) (columns_or_none (heads name)) (kinds name) (are name), refl))
    of_table (s.derived body c) scopes cells h g sees =
        let r = of_query body scopes cells (both_none _ _ h).0 g sees in
        (r.0, (lone_range c.columns (columns heads body scopes) r.0 r.1.0, r.1.1))
    of_table (s.joined x) scopes cells h g sees = of_table x scopes cells h (and_parts _ _ g).1 sees

    -- ---- queries

    pub of_query : (body : s.Query) (scopes : Scopes) (cells : List t.Scope) → query_fault heads body scopes ≡ 0 → is_query body ≡ true → AllSee scopes cells → QueryIs body scopes (shapes scopes) cells
    of_query (s.block each list from by group having) scopes cells h g sees =
        let ranges_are = ranges_same heads (bare known) same from scopes in
        let f = of_tables from scopes cells (both_none _ _ (both_none _ _ h).0).0 (and_parts _ _ (and_parts _ _ (and_parts _ _ g).1).0).1 sees in
        let filled = full_tables heads full from scopes (all_full scopes cells sees) (and_parts _ _ (and_parts _ _ (and_parts _ _ g).1).0).1 (both_none _ _ (both_none _ _ h).0).0 in
        let row = from_sees (ranges heads from scopes) f.0 f.1.0 filled in
        let inputs = both_none (filter_fault heads _ by (plain (ranges heads from scopes) ∷ scopes)) (grouping_fault group (plain (ranges heads from scopes) ∷ scopes)) (both_none _ _ (both_none _ _ h).1).0 in
        let outputs = both_none (select_fault heads list (list_scope list group having (ranges heads from scopes) ∷ scopes)) (filter_fault heads _ having (list_scope list group having (ranges heads from scopes) ∷ scopes))
        (both_none _ (too_wide (list_columns heads list (list_scope list group having (ranges heads from scopes) ∷ scopes))) (both_none _ _ (both_none _ _ h).1).1).0 in
        let own = block_sees (is_grouped list group having) (ranges heads from scopes) group (shape (bare known) from (shapes scopes)) f.0 ranges_are f.1.0 filled (sound_grouping group (ranges heads from scopes) scopes inputs.1) in
        let groups = block_groups kinds list group having (ranges heads from scopes) scopes (shape (bare known) from (shapes scopes)) (shapes scopes) f.0 ranges_are row in
        let w = of_filter by inputs.0 (and_parts _ _ (and_parts _ _ (and_parts _ _ g).1).1).0
        (sight kinds _ (plain (ranges heads from scopes) ∷ scopes) (shape (bare known) from (shapes scopes) ∷ shapes scopes) None (open_scope f.0 ∷ cells) (ap (λ (rs : Shape). rs ∷ shapes scopes) ranges_are) (row, sees)) (λ e z. no_fault 13 refl z) in
        let l = of_list list (list_scope list group having (ranges heads from scopes)) scopes (shape (bare known) from (shapes scopes) ∷ shapes scopes) (cond (is_grouped list group having) (Some (open_scope f.0)) None)
        (cond (is_grouped list group having) (keyed (key_places (grouping_places group (shape (bare known) from (shapes scopes)))) 0 f.0) (open_scope f.0)) cells outputs.0 (and_parts _ _ g).0 (scope_same heads (bare known) same list group having from scopes) (own, sees) (λ e. groups (grouped_list list group having e)) in
        let v = of_filter having outputs.1 (last_so (some_table from && are_tables from) (is_filter by) (is_filter having) (and_parts _ _ g).1)
        (sight kinds _ (list_scope list group having (ranges heads from scopes) ∷ scopes) (shape (bare known) from (shapes scopes) ∷ shapes scopes) (cond (is_grouped list group having) (Some (open_scope f.0)) None)
        (cond (is_grouped list group having) (keyed (key_places (grouping_places group (shape (bare known) from (shapes scopes)))) 0 f.0) (open_scope f.0) ∷ cells)
        (scope_same heads (bare known) same list group having from scopes) (own, sees)) (λ e _. groups (grouped_having list group having e)) in (
          l.0,
          (
            l.1.0,
            block_gives kinds cells (is_grouped list group having) (is_distinct each) (resolved.list known (shape (bare known) from (shapes scopes) ∷ shapes scopes) list) (resolved.froms known (shapes scopes) from)
                (resolved.filter known (shape (bare known) from (shapes scopes) ∷ shapes scopes) by) (grouping_places group (shape (bare known) from (shapes scopes))) (places.width (shape (bare known) from (shapes scopes)))
                (resolved.filter known (shape (bare known) from (shapes scopes) ∷ shapes scopes) having) f.0 l.0 f.1.1 w
                (subst (λ (z : Shape). ArePlaces (open_scope f.0) (key_places (grouping_places group z))) (sym ranges_are) (keys_found group (ranges heads from scopes) f.0 f.1.0)) l.1.1 v,
          ),
        )
    of_query (s.enclosed x) scopes cells h g sees = of_query x scopes cells h g sees
    of_query (s.combine x op all y) scopes cells h g sees =
        let a = of_query x scopes cells (both_none _ _ (both_none _ _ h).0).0 (and_parts _ _ g).0 sees in
        let b = of_query y scopes cells (both_none _ _ (both_none _ _ h).0).1 (and_parts _ _ (and_parts _ _ g).1).1 sees in (
          a.0,
          (
            a.1.0,
            (
              a.1.1,
              subst (IsOfTypes kinds cells (resolved.query known (shapes scopes) y)) (same_types (columns heads x scopes) (columns heads y scopes) a.0 b.0 a.1.0 b.1.0 (both_none _ _ (both_none _ _ h).1).0 (both_none _ _ (both_none _ _ h).1).1) b.1.1,
              some_types (columns heads x scopes) a.0 a.1.0 (full_query heads full x scopes (all_full scopes cells sees) (and_parts _ _ g).0 (both_none _ _ (both_none _ _ h).0).0),
              width_is x scopes a.0 a.1.0,
            ),
          ),
        )
    of_query (s.intersect x all y) scopes cells h g sees =
        let a = of_query x scopes cells (both_none _ _ (both_none _ _ h).0).0 (and_parts _ _ (and_parts _ _ g).0).1 sees in
        let b = of_query y scopes cells (both_none _ _ (both_none _ _ h).0).1 (and_parts _ _ (and_parts _ _ g).1).1 sees in (
          a.0,
          (
            a.1.0,
            (
              a.1.1,
              subst (IsOfTypes kinds cells (resolved.query known (shapes scopes) y)) (same_types (columns heads x scopes) (columns heads y scopes) a.0 b.0 a.1.0 b.1.0 (both_none _ _ (both_none _ _ h).1).0 (both_none _ _ (both_none _ _ h).1).1) b.1.1,
              some_types (columns heads x scopes) a.0 a.1.0 (full_query heads full x scopes (all_full scopes cells sees) (and_parts _ _ (and_parts _ _ g).0).1 (both_none _ _ (both_none _ _ h).0).0),
              width_is x scopes a.0 a.1.0,
            ),
          ),
        )
