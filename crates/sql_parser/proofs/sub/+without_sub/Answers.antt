use Rattle.std.proofs.Common.{◌≡◌, ◌∙◌, true, false, refl, arith}
use Rattle.sql_ast.specs.Grammatical as gram
use Rattle.sql_ast.specs.Shown as shown
use Rattle.sql_ast.specs.Shown.{choices_hidden, exprs_hidden}
use Rattle.std.proofs.lemmas.Grind.{common_steps}
use Rattle.sql_parser.proofs.sub.+without_sub.Goals as goal
use Rattle.sql_parser.proofs.sub.+without_sub.Goals.{expr_without_sub-then-expr_without_sub-3, expr_without_sub-else-expr_without_sub-3}

pub expr_without_sub-returns-then-choices_without_sub :
    goal.expr_without_sub-returns-then-choices_without_sub
expr_without_sub-returns-then-choices_without_sub t c =
    elim c.if-expr_without_sub-3.branch [
      | expr_without_sub-then-expr_without_sub-3 w ↦
          let first : gram.expr_without_sub (shown.expr c.in-Simple.a.value) ≡ true = cc in
          let others : gram.choices_without_sub (shown.choice_list c.in-Simple.xs) ≡ true = cc in
          c.otherwise_without_sub-then-choices_without_sub.ensures ∙ rw (c.in-Simple.is, choices_hidden c.in-Simple.xs, first, others) refl
      | expr_without_sub-else-expr_without_sub-3 w ↦ absurd (cc)
    ]

pub expr_without_sub-returns-else-choices_without_sub :
    goal.expr_without_sub-returns-else-choices_without_sub
expr_without_sub-returns-else-choices_without_sub t c =
    elim c.if-expr_without_sub-3.branch [
      | expr_without_sub-then-expr_without_sub-3 w ↦
          let first : gram.expr_without_sub (shown.expr c.in-Simple.a.value) ≡ true = cc in
          let others : gram.choices_without_sub (shown.choice_list c.in-Simple.xs) ≡ false = cc in
          c.if-choices_without_sub.false ∙ rw (c.in-Simple.is, choices_hidden c.in-Simple.xs, first, others) refl
      | expr_without_sub-else-expr_without_sub-3 w ↦
          let first : gram.expr_without_sub (shown.expr c.in-Simple.a.value) ≡ false = cc in
          c.if-choices_without_sub.false ∙ rw (c.in-Simple.is, choices_hidden c.in-Simple.xs, first) refl
    ]

pub expr_without_sub-returns-then-expr_without_sub-4 :
    goal.expr_without_sub-returns-then-expr_without_sub-4
expr_without_sub-returns-then-expr_without_sub-4 t c =
    let first : gram.expr_without_sub (shown.expr c.in-Coalesce.a.value) ≡ true = cc in
    let others : c.exprs_without_sub.result ≡ gram.exprs_without_sub (shown.expr_list c.in-Coalesce.xs) = cc in
    others ∙ rw (c.in-Coalesce.is, exprs_hidden c.in-Coalesce.xs, first) refl

pub without_sub-returns-then-expr_without_sub-4 : goal.without_sub-returns-then-expr_without_sub-4
without_sub-returns-then-expr_without_sub-4 t c =
    let first : gram.expr_without_sub (shown.expr c.in-InList.a.value) ≡ true = cc in
    let others : c.exprs_without_sub.result ≡ gram.exprs_without_sub (shown.expr_list c.in-InList.xs) = cc in
    others ∙ rw (c.in-InList.is, exprs_hidden c.in-InList.xs, first) refl

pub arms_without_sub-arms-preserved : goal.arms_without_sub-arms-preserved
arms_without_sub-arms-preserved t c = grind (arith, common_steps)

pub arms_without_sub-returns : goal.arms_without_sub-returns
arms_without_sub-returns t c = grind (arith, common_steps)

pub arms_without_sub-returns-then-not-without_sub : goal.arms_without_sub-returns-then-not-without_sub
arms_without_sub-returns-then-not-without_sub t c = grind (arith, common_steps)

pub choices_without_sub-choices-preserved : goal.choices_without_sub-choices-preserved
choices_without_sub-choices-preserved t c = grind (arith, common_steps)

pub choices_without_sub-returns : goal.choices_without_sub-returns
choices_without_sub-returns t c = grind (arith, common_steps)

pub choices_without_sub-returns-then-not-expr_without_sub : goal.choices_without_sub-returns-then-not-expr_without_sub
choices_without_sub-returns-then-not-expr_without_sub t c = grind (arith, common_steps)

pub exprs_without_sub-exprs-preserved : goal.exprs_without_sub-exprs-preserved
exprs_without_sub-exprs-preserved t c = grind (arith, common_steps)

pub exprs_without_sub-returns : goal.exprs_without_sub-returns
exprs_without_sub-returns t c = grind (arith, common_steps)

pub exprs_without_sub-returns-then-not-expr_without_sub : goal.exprs_without_sub-returns-then-not-expr_without_sub
exprs_without_sub-returns-then-not-expr_without_sub t c = grind (arith, common_steps)

pub arms_without_sub-arms-smaller : goal.arms_without_sub-arms-smaller
arms_without_sub-arms-smaller t c = grind (arith, common_steps)

pub without_sub-returns-else-expr_without_sub-4 : goal.without_sub-returns-else-expr_without_sub-4
without_sub-returns-else-expr_without_sub-4 t c = grind (arith, common_steps)

pub otherwise_without_sub-returns-in-Absent : goal.otherwise_without_sub-returns-in-Absent
otherwise_without_sub-returns-in-Absent t c = grind (arith, common_steps)

pub without_sub-returns-in-Quantified : goal.without_sub-returns-in-Quantified
without_sub-returns-in-Quantified t c = grind (arith, common_steps)

pub expr_without_sub-returns-then-expr_without_sub-2 : goal.expr_without_sub-returns-then-expr_without_sub-2
expr_without_sub-returns-then-expr_without_sub-2 t c = grind (arith, common_steps)

pub without_sub-returns-then-expr_without_sub-3 : goal.without_sub-returns-then-expr_without_sub-3
without_sub-returns-then-expr_without_sub-3 t c = grind (arith, common_steps)

pub otherwise_without_sub-returns-in-Else : goal.otherwise_without_sub-returns-in-Else
otherwise_without_sub-returns-in-Else t c = grind (arith, common_steps)

pub choices_without_sub-offset_bounds-xs-x-index : goal.choices_without_sub-offset_bounds-xs-x-index
choices_without_sub-offset_bounds-xs-x-index t c = grind (arith, common_steps)

pub exprs_without_sub-offset_bounds-xs-x-index : goal.exprs_without_sub-offset_bounds-xs-x-index
exprs_without_sub-offset_bounds-xs-x-index t c = grind (arith, common_steps)

pub without_sub-returns-then-without_sub-2 : goal.without_sub-returns-then-without_sub-2
without_sub-returns-then-without_sub-2 t c = grind (arith, common_steps)

pub expr_without_sub-returns-in-Str : goal.expr_without_sub-returns-in-Str
expr_without_sub-returns-in-Str t c = grind (arith, common_steps)

pub without_sub-returns-in-InQuery : goal.without_sub-returns-in-InQuery
without_sub-returns-in-InQuery t c = grind (arith, common_steps)

pub without_sub-returns-in-IsNull : goal.without_sub-returns-in-IsNull
without_sub-returns-in-IsNull t c = grind (arith, common_steps)

pub expr_without_sub-returns-then-expr_without_sub : goal.expr_without_sub-returns-then-expr_without_sub
expr_without_sub-returns-then-expr_without_sub t c = grind (arith, common_steps)

pub expr_without_sub-returns-else-expr_without_sub-4 : goal.expr_without_sub-returns-else-expr_without_sub-4
expr_without_sub-returns-else-expr_without_sub-4 t c = grind (arith, common_steps)

pub expr_without_sub-returns-in-CountAll : goal.expr_without_sub-returns-in-CountAll
expr_without_sub-returns-in-CountAll t c = grind (arith, common_steps)

pub expr_without_sub-returns-then-expr_without_sub-5 : goal.expr_without_sub-returns-then-expr_without_sub-5
expr_without_sub-returns-then-expr_without_sub-5 t c = grind (arith, common_steps)

pub expr_without_sub-returns-in-Aggregate : goal.expr_without_sub-returns-in-Aggregate
expr_without_sub-returns-in-Aggregate t c = grind (arith, common_steps)

pub without_sub-returns-then-expr_without_sub-5 : goal.without_sub-returns-then-expr_without_sub-5
without_sub-returns-then-expr_without_sub-5 t c = grind (arith, common_steps)

pub without_sub-returns-else-expr_without_sub-3 : goal.without_sub-returns-else-expr_without_sub-3
without_sub-returns-else-expr_without_sub-3 t c = grind (arith, common_steps)

pub res_without_sub-returns-in-Value : goal.res_without_sub-returns-in-Value
res_without_sub-returns-in-Value t c = grind (arith, common_steps)

pub res_without_sub-returns-in-Null : goal.res_without_sub-returns-in-Null
res_without_sub-returns-in-Null t c = grind (arith, common_steps)

pub expr_without_sub-returns-else-expr_without_sub : goal.expr_without_sub-returns-else-expr_without_sub
expr_without_sub-returns-else-expr_without_sub t c = grind (arith, common_steps)

pub expr_without_sub-returns-in-CastNull : goal.expr_without_sub-returns-in-CastNull
expr_without_sub-returns-in-CastNull t c = grind (arith, common_steps)

pub without_sub-returns-in-Bracket : goal.without_sub-returns-in-Bracket
without_sub-returns-in-Bracket t c = grind (arith, common_steps)

pub expr_without_sub-returns-in-Scalar : goal.expr_without_sub-returns-in-Scalar
expr_without_sub-returns-in-Scalar t c = grind (arith, common_steps)

pub exprs_without_sub-exprs-smaller : goal.exprs_without_sub-exprs-smaller
exprs_without_sub-exprs-smaller t c = grind (arith, common_steps)

pub without_sub-returns-else-expr_without_sub-5 : goal.without_sub-returns-else-expr_without_sub-5
without_sub-returns-else-expr_without_sub-5 t c = grind (arith, common_steps)

pub choices_without_sub-choices-smaller : goal.choices_without_sub-choices-smaller
choices_without_sub-choices-smaller t c = grind (arith, common_steps)

pub without_sub-returns-else-expr_without_sub : goal.without_sub-returns-else-expr_without_sub
without_sub-returns-else-expr_without_sub t c = grind (arith, common_steps)

pub without_sub-returns-else-without_sub : goal.without_sub-returns-else-without_sub
without_sub-returns-else-without_sub t c = grind (arith, common_steps)

pub without_sub-returns-else-without_sub-2 : goal.without_sub-returns-else-without_sub-2
without_sub-returns-else-without_sub-2 t c = grind (arith, common_steps)

pub without_sub-returns-in-Exists : goal.without_sub-returns-in-Exists
without_sub-returns-in-Exists t c = grind (arith, common_steps)

pub expr_without_sub-returns-in-Column : goal.expr_without_sub-returns-in-Column
expr_without_sub-returns-in-Column t c = grind (arith, common_steps)

pub without_sub-returns-then-without_sub : goal.without_sub-returns-then-without_sub
without_sub-returns-then-without_sub t c = grind (arith, common_steps)

pub expr_without_sub-returns-in-Paren : goal.expr_without_sub-returns-in-Paren
expr_without_sub-returns-in-Paren t c = grind (arith, common_steps)

pub expr_without_sub-returns-in-Signed : goal.expr_without_sub-returns-in-Signed
expr_without_sub-returns-in-Signed t c = grind (arith, common_steps)

pub without_sub-returns-in-Not : goal.without_sub-returns-in-Not
without_sub-returns-in-Not t c = grind (arith, common_steps)

pub without_sub-returns-then-expr_without_sub : goal.without_sub-returns-then-expr_without_sub
without_sub-returns-then-expr_without_sub t c = grind (arith, common_steps)

pub expr_without_sub-returns-else-expr_without_sub-2 : goal.expr_without_sub-returns-else-expr_without_sub-2
expr_without_sub-returns-else-expr_without_sub-2 t c = grind (arith, common_steps)

pub arms_without_sub-offset_bounds-xs-x-index : goal.arms_without_sub-offset_bounds-xs-x-index
arms_without_sub-offset_bounds-xs-x-index t c = grind (arith, common_steps)

pub expr_without_sub-returns-in-Number : goal.expr_without_sub-returns-in-Number
expr_without_sub-returns-in-Number t c = grind (arith, common_steps)

pub expr_without_sub-returns-else-expr_without_sub-5 : goal.expr_without_sub-returns-else-expr_without_sub-5
expr_without_sub-returns-else-expr_without_sub-5 t c = grind (arith, common_steps)
