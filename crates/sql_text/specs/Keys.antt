-- The key words, each with its letters.
use Rattle.std.specs.Prelude.{ℕ, List, [], ◌∷◌, codes}
use Rattle.sql_text.specs.declared.key.Key.{Key}
use Rattle.sql_text.specs.declared.key.Key.TheVariants as k

unfoldable pub key_words : List (List ℕ × Key)
key_words =
    (codes "ALL", k.All) ∷
    (codes "AND", k.And) ∷
    (codes "ANY", k.Any) ∷
    (codes "AS", k.As) ∷
    (codes "ASC", k.Asc) ∷
    (codes "AVG", k.Avg) ∷
    (codes "BETWEEN", k.Between) ∷
    (codes "BY", k.By) ∷
    (codes "CASE", k.Case) ∷
    (codes "CAST", k.Cast) ∷
    (codes "CHECK", k.Check) ∷
    (codes "COALESCE", k.Coalesce) ∷
    (codes "CORRESPONDING", k.Corresponding) ∷
    (codes "COUNT", k.Count) ∷
    (codes "CREATE", k.Create) ∷
    (codes "CROSS", k.Cross) ∷
    (codes "DECIMAL", k.Decimal) ∷
    (codes "DESC", k.Desc) ∷
    (codes "DISTINCT", k.Distinct) ∷
    (codes "ELSE", k.Else) ∷
    (codes "END", k.End) ∷
    (codes "ESCAPE", k.Escape) ∷
    (codes "EXCEPT", k.Except) ∷
    (codes "EXISTS", k.Exists) ∷
    (codes "FROM", k.From) ∷
    (codes "FULL", k.Full) ∷
    (codes "GROUP", k.Group) ∷
    (codes "HAVING", k.Having) ∷
    (codes "IN", k.In) ∷
    (codes "INNER", k.Inner) ∷
    (codes "INT", k.Int) ∷
    (codes "INTEGER", k.Integer) ∷
    (codes "INTERSECT", k.Intersect) ∷
    (codes "IS", k.Is) ∷
    (codes "JOIN", k.Join) ∷
    (codes "KEY", k.Key) ∷
    (codes "LEFT", k.Left) ∷
    (codes "LIKE", k.Like) ∷
    (codes "MAX", k.Max) ∷
    (codes "MIN", k.Min) ∷
    (codes "NATURAL", k.Natural) ∷
    (codes "NOT", k.Not) ∷
    (codes "NULL", k.Null) ∷
    (codes "NULLIF", k.NullIf) ∷
    (codes "ON", k.On) ∷
    (codes "OR", k.Or) ∷
    (codes "ORDER", k.Order) ∷
    (codes "OUTER", k.Outer) ∷
    (codes "PRIMARY", k.Primary) ∷
    (codes "RIGHT", k.Right) ∷
    (codes "SELECT", k.Select) ∷
    (codes "SOME", k.Some) ∷
    (codes "SUM", k.Sum) ∷
    (codes "TABLE", k.Table) ∷
    (codes "THEN", k.Then) ∷
    (codes "UNION", k.Union) ∷
    (codes "UNIQUE", k.Unique) ∷
    (codes "USING", k.Using) ∷
    (codes "VALUES", k.Values) ∷
    (codes "VARCHAR", k.Varchar) ∷
    (codes "VIEW", k.View) ∷
    (codes "WHEN", k.When) ∷
    (codes "WHERE", k.Where) ∷
    []
