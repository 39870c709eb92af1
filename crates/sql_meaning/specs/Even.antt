-- Set operations whose operands have the same number of columns (SQL-92, 7.10), in a query and all that is nested in it.
use Rattle.std.specs.Prelude.{◌≡◌, ⊤, List, [], ◌∷◌, ◌++◌, length}
use Rattle.sql_ast.specs.Syntax as s
use Rattle.sql_meaning.specs.Names.{Known, names, shape, table_shape}
use Rattle.sql_meaning.specs.Scopes.{Shape}

-- the ranges of the innermost scope; none where there is no scope
abbrev pub innermost : List Shape → Shape
innermost [] = []
innermost (ranges ∷ shapes) = ranges

-- over tables and views by name; each part within the ranges of the scopes that enclose it
module _ (known : Known) where
  abbrev mutual
    pub EvenExpr : List Shape → s.Expr → Type 0
    EvenExpr shapes (s.add x op y) = EvenExpr shapes x × EvenExpr shapes y
    EvenExpr shapes (s.multiply x op y) = EvenExpr shapes x × EvenExpr shapes y
    EvenExpr shapes (s.signed p x) = EvenExpr shapes x
    EvenExpr shapes (s.number n) = ⊤
    EvenExpr shapes (s.string x) = ⊤
    EvenExpr shapes (s.col c) = ⊤
    EvenExpr shapes (s.paren x) = EvenExpr shapes x
    EvenExpr shapes (s.scalar q) = EvenQuery shapes q
    EvenExpr shapes s.count_all = ⊤
    EvenExpr shapes (s.aggregate f each x) = EvenExpr (innermost shapes ∷ []) x
    EvenExpr shapes (s.searched xs o) = EvenArms shapes xs × EvenOtherwise shapes o
    EvenExpr shapes (s.simple x xs o) = EvenExpr shapes x × EvenChoices shapes xs × EvenOtherwise shapes o
    EvenExpr shapes (s.coalesce x xs) = EvenExpr shapes x × EvenExprs shapes xs
    EvenExpr shapes (s.null_if x y) = EvenExpr shapes x × EvenExpr shapes y
    EvenExpr shapes (s.cast_null d) = ⊤

    pub EvenExprs : List Shape → s.Exprs → Type 0
    EvenExprs shapes s.no_expr = ⊤
    EvenExprs shapes (s.one_expr x xs) = EvenExpr shapes x × EvenExprs shapes xs

    pub EvenRes : List Shape → s.Res → Type 0
    EvenRes shapes (s.given x) = EvenExpr shapes x
    EvenRes shapes s.null = ⊤

    pub EvenArms : List Shape → s.Arms → Type 0
    EvenArms shapes s.no_arm = ⊤
    EvenArms shapes (s.one_arm p r xs) = EvenCond shapes p × EvenRes shapes r × EvenArms shapes xs

    pub EvenChoices : List Shape → s.Choices → Type 0
    EvenChoices shapes s.no_choice = ⊤
    EvenChoices shapes (s.one_choice x r xs) = EvenExpr shapes x × EvenRes shapes r × EvenChoices shapes xs

    pub EvenOtherwise : List Shape → s.Otherwise → Type 0
    EvenOtherwise shapes s.no_else = ⊤
    EvenOtherwise shapes (s.or_else r) = EvenRes shapes r

    pub EvenCond : List Shape → s.Cond → Type 0
    EvenCond shapes (s.either p q) = EvenCond shapes p × EvenCond shapes q
    EvenCond shapes (s.both p q) = EvenCond shapes p × EvenCond shapes q
    EvenCond shapes (s.negated p) = EvenCond shapes p
    EvenCond shapes (s.bracket p) = EvenCond shapes p
    EvenCond shapes (s.compare x op y) = EvenExpr shapes x × EvenExpr shapes y
    EvenCond shapes (s.quantified x op each q) = EvenExpr shapes x × EvenQuery shapes q
    EvenCond shapes (s.between x negative y z) = EvenExpr shapes x × EvenExpr shapes y × EvenExpr shapes z
    EvenCond shapes (s.in_query x negative q) = EvenExpr shapes x × EvenQuery shapes q
    EvenCond shapes (s.in_list x negative xs) = EvenExpr shapes x × EvenExprs shapes xs
    EvenCond shapes (s.like x negative y) = EvenExpr shapes x × EvenExpr shapes y
    EvenCond shapes (s.is_null x negative) = EvenExpr shapes x
    EvenCond shapes (s.exists q) = EvenQuery shapes q

    pub EvenFilter : List Shape → s.Filter → Type 0
    EvenFilter shapes s.no_filter = ⊤
    EvenFilter shapes (s.only_where p) = EvenCond shapes p

    pub EvenItem : List Shape → s.Item → Type 0
    EvenItem shapes (s.item x n) = EvenExpr shapes x
    EvenItem shapes (s.all_of name) = ⊤

    pub EvenItems : List Shape → s.Items → Type 0
    EvenItems shapes s.no_item = ⊤
    EvenItems shapes (s.one_item x xs) = EvenItem shapes x × EvenItems shapes xs

    pub EvenList : List Shape → s.SelectList → Type 0
    EvenList shapes s.star = ⊤
    EvenList shapes (s.items xs) = EvenItems shapes xs

    pub EvenTables : List Shape → s.TableRefs → Type 0
    EvenTables shapes s.no_table = ⊤
    EvenTables shapes (s.one_table x xs) = EvenTable shapes x × EvenTables shapes xs

    pub EvenTable : List Shape → s.TableRef → Type 0
    EvenTable shapes (s.join x inner y p) = EvenTable shapes x × EvenTable shapes y × EvenCond ((table_shape known x shapes ++ table_shape known y shapes) ∷ shapes) p
    EvenTable shapes (s.left_join x outer y p) = EvenTable shapes x × EvenTable shapes y × EvenCond ((table_shape known x shapes ++ table_shape known y shapes) ∷ shapes) p
    EvenTable shapes (s.cross_join x y) = EvenTable shapes x × EvenTable shapes y
    EvenTable shapes (s.named name c) = ⊤
    EvenTable shapes (s.derived q c) = EvenQuery shapes q
    EvenTable shapes (s.joined x) = EvenTable shapes x

    pub EvenQuery : List Shape → s.Query → Type 0
    EvenQuery shapes (s.block each list from by group having) =
        EvenTables shapes from × EvenList (shape known from shapes ∷ shapes) list × EvenFilter (shape known from shapes ∷ shapes) by × EvenFilter (shape known from shapes ∷ shapes) having
    EvenQuery shapes (s.enclosed x) = EvenQuery shapes x
    EvenQuery shapes (s.combine x op all y) = EvenQuery shapes x × EvenQuery shapes y × (length (names known x shapes) ≡ length (names known y shapes))
    EvenQuery shapes (s.intersect x all y) = EvenQuery shapes x × EvenQuery shapes y × (length (names known x shapes) ≡ length (names known y shapes))
