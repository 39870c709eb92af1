-- The tables of the fixed schema.
use Rattle.std.proofs.Common.{[], ◌∷◌, codes, pos}
use Rattle.sql_ast.specs.declared.schema.TableDecl.{TableDecl}
use Rattle.sql_ast.specs.declared.schema.Element.TheVariants as element
use Rattle.sql_ast.specs.declared.schema.ColumnConstraint.TheVariants as constraint
use Rattle.sql_ast.specs.declared.word.DataType.TheVariants as types

abbrev pub dept_table : TableDecl
dept_table = record {
  name = codes "DEPT";
  elements = element.Column (record { name = codes "DNO"; data_type = types.Integer; constraints = constraint.PrimaryKey ∷ [] })
      ∷ element.Column (record { name = codes "BLDG"; data_type = types.Varchar (pos 4); constraints = [] })
      ∷ element.Column (record { name = codes "BUDGET"; data_type = types.Integer; constraints = [] })
      ∷ [];
}

abbrev pub emp_table : TableDecl
emp_table = record {
  name = codes "EMP";
  elements = element.Column (record { name = codes "ENO"; data_type = types.Integer; constraints = constraint.PrimaryKey ∷ [] })
      ∷ element.Column (record { name = codes "DNO"; data_type = types.Integer; constraints = [] })
      ∷ element.Column (record { name = codes "BLDG"; data_type = types.Varchar (pos 4); constraints = [] })
      ∷ element.Column (record { name = codes "SAL"; data_type = types.Integer; constraints = [] })
      ∷ [];
}
