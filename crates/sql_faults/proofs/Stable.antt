-- The columns of a query hang on the tables and views alone that it names.
use Rattle.std.proofs.Common.{◌≡◌, ◌∙◌, ℕ, List, [], ◌∷◌, ◌++◌, Option, refl, ap, ap₂}
use Rattle.sql_ast.specs.Syntax as s
use Rattle.sql_catalog.specs.TableNames as t
use Rattle.sql_meaning.specs.Names.{column_list, item_name, range_name}
use Rattle.sql_value.specs.declared.order_key.SqlType.{SqlType}
use Rattle.sql_catalog.proofs.EachLaws.{Each, each_left, each_right}
use Rattle.sql_faults.specs.Columns.{arm_types, choice_types, column, columns, columns_or_none, else_types, first_known, item_columns, items_columns, list_columns, list_scope, range, ranges, renamed, res_types, table_ranges, type_of, type_of_aggregate, types_of}
use Rattle.sql_faults.specs.Scopes.{Heads, Scopes, first_type, released}
use Rattle.sql_faults.specs.declared.column.TypedColumn.{TypedColumn}
use Rattle.sql_faults.specs.declared.column.TypedRange.{TypedRange}

abbrev Types : Type 0
Types = List (Option SqlType)

module _ (a b : Heads) where
  abbrev pub Equal : List ℕ → Type 0
  Equal name = a name ≡ b name

  mutual
    equal_type : (x : s.Expr) (scopes : Scopes) → Each Equal (t.in_expr x) → type_of a x scopes ≡ type_of b x scopes
    equal_type (s.add x op y) scopes e = refl
    equal_type (s.multiply x op y) scopes e = refl
    equal_type (s.signed p x) scopes e = refl
    equal_type (s.number n) scopes e = refl
    equal_type (s.string x) scopes e = refl
    equal_type (s.col c) scopes e = refl
    equal_type (s.paren x) scopes e = equal_type x scopes e
    equal_type (s.scalar q) scopes e = ap first_type (equal_columns q scopes e)
    equal_type s.count_all scopes e = refl
    equal_type (s.aggregate f each x) scopes e = ap (type_of_aggregate f) (equal_type x (released scopes) e)
    equal_type (s.searched xs o) scopes e =
        ap₂ (λ (p q : Types). first_known (p ++ q)) (equal_arms xs scopes (each_left Equal (t.in_arms xs) (t.in_otherwise o) e)) (equal_otherwise o scopes (each_right Equal (t.in_arms xs) (t.in_otherwise o) e))
    equal_type (s.simple x xs o) scopes e =
        ap₂ (λ (p q : Types). first_known (p ++ q))
        (equal_choices xs scopes (each_left Equal (t.in_choices xs) (t.in_otherwise o) (each_right Equal (t.in_expr x) (t.in_choices xs ++ t.in_otherwise o) e)))
        (equal_otherwise o scopes (each_right Equal (t.in_choices xs) (t.in_otherwise o) (each_right Equal (t.in_expr x) (t.in_choices xs ++ t.in_otherwise o) e)))
    equal_type (s.coalesce x xs) scopes e =
        ap₂ (λ (p : Option SqlType) (q : Types). first_known (p ∷ q)) (equal_type x scopes (each_left Equal (t.in_expr x) (t.in_exprs xs) e)) (equal_types xs scopes (each_right Equal (t.in_expr x) (t.in_exprs xs) e))
    equal_type (s.null_if x y) scopes e =
        ap₂ (λ (p q : Option SqlType). first_known (p ∷ q ∷ [])) (equal_type x scopes (each_left Equal (t.in_expr x) (t.in_expr y) e)) (equal_type y scopes (each_right Equal (t.in_expr x) (t.in_expr y) e))
    equal_type (s.cast_null d) scopes e = refl

    equal_types : (xs : s.Exprs) (scopes : Scopes) → Each Equal (t.in_exprs xs) → types_of a xs scopes ≡ types_of b xs scopes
    equal_types s.no_expr scopes e = refl
    equal_types (s.one_expr x xs) scopes e =
        ap₂ (λ (p : Option SqlType) (q : Types). p ∷ q) (equal_type x scopes (each_left Equal (t.in_expr x) (t.in_exprs xs) e)) (equal_types xs scopes (each_right Equal (t.in_expr x) (t.in_exprs xs) e))

    equal_res : (r : s.Res) (scopes : Scopes) → Each Equal (t.in_res r) → res_types a r scopes ≡ res_types b r scopes
    equal_res (s.given x) scopes e = ap (λ (p : Option SqlType). p ∷ []) (equal_type x scopes e)
    equal_res s.null scopes e = refl

    equal_arms : (xs : s.Arms) (scopes : Scopes) → Each Equal (t.in_arms xs) → arm_types a xs scopes ≡ arm_types b xs scopes
    equal_arms s.no_arm scopes e = refl
    equal_arms (s.one_arm p r xs) scopes e =
        ap₂ (λ (v w : Types). v ++ w)
        (equal_res r scopes (each_left Equal (t.in_res r) (t.in_arms xs) (each_right Equal (t.in_cond p) (t.in_res r ++ t.in_arms xs) e)))
        (equal_arms xs scopes (each_right Equal (t.in_res r) (t.in_arms xs) (each_right Equal (t.in_cond p) (t.in_res r ++ t.in_arms xs) e)))

    equal_choices : (xs : s.Choices) (scopes : Scopes) → Each Equal (t.in_choices xs) → choice_types a xs scopes ≡ choice_types b xs scopes
    equal_choices s.no_choice scopes e = refl
    equal_choices (s.one_choice x r xs) scopes e =
        ap₂ (λ (v w : Types). v ++ w)
        (equal_res r scopes (each_left Equal (t.in_res r) (t.in_choices xs) (each_right Equal (t.in_expr x) (t.in_res r ++ t.in_choices xs) e)))
        (equal_choices xs scopes (each_right Equal (t.in_res r) (t.in_choices xs) (each_right Equal (t.in_expr x) (t.in_res r ++ t.in_choices xs) e)))

    equal_otherwise : (o : s.Otherwise) (scopes : Scopes) → Each Equal (t.in_otherwise o) → else_types a o scopes ≡ else_types b o scopes
    equal_otherwise s.no_else scopes e = refl
    equal_otherwise (s.or_else r) scopes e = equal_res r scopes e

    equal_item : (x : s.Item) (scopes : Scopes) → Each Equal (t.in_item x) → item_columns a x scopes ≡ item_columns b x scopes
    equal_item (s.item x n) scopes e = ap (λ (p : Option SqlType). column (item_name x n) p ∷ []) (equal_type x scopes e)
    equal_item (s.all_of name) scopes e = refl

    equal_items : (xs : s.Items) (scopes : Scopes) → Each Equal (t.in_items xs) → items_columns a xs scopes ≡ items_columns b xs scopes
    equal_items s.no_item scopes e = refl
    equal_items (s.one_item x xs) scopes e =
        ap₂ (λ (p q : List TypedColumn). p ++ q) (equal_item x scopes (each_left Equal (t.in_item x) (t.in_items xs) e)) (equal_items xs scopes (each_right Equal (t.in_item x) (t.in_items xs) e))

    equal_list : (list : s.SelectList) (scopes : Scopes) → Each Equal (t.in_list list) → list_columns a list scopes ≡ list_columns b list scopes
    equal_list s.star scopes e = refl
    equal_list (s.items xs) scopes e = equal_items xs scopes e

    equal_ranges : (xs : s.TableRefs) (scopes : Scopes) → Each Equal (t.in_tables xs) → ranges a xs scopes ≡ ranges b xs scopes
    equal_ranges s.no_table scopes e = refl
    equal_ranges (s.one_table x xs) scopes e =
        ap₂ (λ (p q : List TypedRange). p ++ q) (equal_table x scopes (each_left Equal (t.in_table x) (t.in_tables xs) e)) (equal_ranges xs scopes (each_right Equal (t.in_table x) (t.in_tables xs) e))

    equal_table : (x : s.TableRef) (scopes : Scopes) → Each Equal (t.in_table x) → table_ranges a x scopes ≡ table_ranges b x scopes
    equal_table (s.join x inner y p) scopes e =
        ap₂ (λ (p q : List TypedRange). p ++ q) (equal_table x scopes (each_left Equal (t.in_table x) (t.in_table y ++ t.in_cond p) e))
        (equal_table y scopes (each_left Equal (t.in_table y) (t.in_cond p) (each_right Equal (t.in_table x) (t.in_table y ++ t.in_cond p) e)))
    equal_table (s.left_join x outer y p) scopes e =
        ap₂ (λ (p q : List TypedRange). p ++ q) (equal_table x scopes (each_left Equal (t.in_table x) (t.in_table y ++ t.in_cond p) e))
        (equal_table y scopes (each_left Equal (t.in_table y) (t.in_cond p) (each_right Equal (t.in_table x) (t.in_table y ++ t.in_cond p) e)))
    equal_table (s.cross_join x y) scopes e =
        ap₂ (λ (p q : List TypedRange). p ++ q) (equal_table x scopes (each_left Equal (t.in_table x) (t.in_table y) e)) (equal_table y scopes (each_right Equal (t.in_table x) (t.in_table y) e))
    equal_table (s.named name c) scopes e = ap (λ (found : Option (List TypedColumn)). range (range_name name c) (renamed (column_list c) (columns_or_none found)) ∷ []) e.0
    equal_table (s.derived q c) scopes e = ap (λ (cs : List TypedColumn). range c.name (renamed c.columns cs) ∷ []) (equal_columns q scopes e)
    equal_table (s.joined x) scopes e = equal_table x scopes e

    pub equal_columns : (q : s.Query) (scopes : Scopes) → Each Equal (t.in_query q) → columns a q scopes ≡ columns b q scopes
    equal_columns (s.block each list from by group having) scopes e =
        equal_list list (list_scope list group having (ranges a from scopes) ∷ scopes) (each_left Equal (t.in_list list) (t.in_tables from ++ (t.in_filter by ++ t.in_filter having)) e)
        ∙ ap (λ (rs : List TypedRange). list_columns b list (list_scope list group having rs ∷ scopes))
        (equal_ranges from scopes (each_left Equal (t.in_tables from) (t.in_filter by ++ t.in_filter having) (each_right Equal (t.in_list list) (t.in_tables from ++ (t.in_filter by ++ t.in_filter having)) e)))
    equal_columns (s.enclosed q) scopes e = equal_columns q scopes e
    equal_columns (s.combine x op all y) scopes e = equal_columns x scopes (each_left Equal (t.in_query x) (t.in_query y) e)
    equal_columns (s.intersect x all y) scopes e = equal_columns x scopes (each_left Equal (t.in_query x) (t.in_query y) e)
