-- A query has the same rows over names that stand for the same; so views that nest are a fixed point.
use Rattle.std.proofs.Common.{◌≡◌, ◌≤◌, ◌<◌, ℕ, zero, suc, List, [], ◌∷◌, replicate, Option, Some, None, refl, ap, ap₂, sym, ◌∙◌, arith}
use mathlib.Core.Path.{fun_ext}
use Rattle.row_bag.specs.declared.tables.Table.{Table}
use Rattle.shared_types.specs.declared.compare.CmpOp.TheVariants.{Eq, Ge, Le}
use Rattle.sql_value.specs.Arithmetic as a
use Rattle.sql_value.specs.Comparison as c
use Rattle.sql_value.specs.Like as l
use Rattle.sql_value.specs.Truths as t
use Rattle.sql_value.specs.declared.cell.Cell.{Cell}
use Rattle.sql_value.specs.declared.cell.Cell.TheVariants.{Null}
use Rattle.sql_meaning.specs.Groups.{Group, Grouped, aggregated, no_group}
use Rattle.sql_meaning.specs.Joins.{combined, distinct_if, intersected, kept, left_join, product, selected}
use Rattle.sql_meaning.specs.Subqueries as u
use Rattle.sql_meaning.specs.Values.{additive, case_of, multiplicative}
use Rattle.sql_meaning.specs.ResolvedMeaning as k
use Rattle.sql_meaning.specs.ResolvedMeaning.{Bag}
use Rattle.sql_meaning.specs.ResolvedTrees.{Value, Addends, Multipliers, Values, Arms, Choices, Test, Tests, From, Froms, Query}
use Rattle.sql_meaning.specs.ResolvedTrees as q
use Rattle.sql_meaning.specs.ResolvedViews.{ViewTree, body_of, known_at, viewed}
use Rattle.qgm_translation.specs.Views as w
use Rattle.qgm_translation.specs.Views.{Nests, NestsOf}

module _ (m n : List ℕ → Bag) where
  abbrev Same : List ℕ → Type 0
  Same name = m name ≡ n name

  abbrev G : Type 0
  G = Group (List Cell)

  mutual
    value-same : (x : Value) (s : k.Scopes) (g : G) → w.EachValue Same x → k.value m x s g ≡ k.value n x s g
    value-same (q.number i) s g h = refl
    value-same (q.text x) s g h = refl
    value-same (q.null type) s g h = refl
    value-same (q.column scope place) s g h = refl
    value-same (q.sum x xs) s g h = ap (λ z. k.summed m z xs s g) (value-same x s g h.0) ∙ summed-same (k.value n x s g) xs s g h.1
    value-same (q.product x xs) s g h = ap (λ z. k.multiplied m z xs s g) (value-same x s g h.0) ∙ multiplied-same (k.value n x s g) xs s g h.1
    value-same (q.negative x) s g h = ap a.neg (value-same x s g h)
    value-same (q.searched xs last) s g h = ap (λ z. k.of_arms m xs z s g) (value-same last s g h.1) ∙ arms-same xs (k.value n last s g) s g h.0
    value-same (q.simple x xs last) s g h = ap₂ (λ z y. k.of_choices m z xs y s g) (value-same x s g h.0) (value-same last s g h.2) ∙ choices-same (k.value n x s g) xs (k.value n last s g) s g h.1
    value-same (q.coalesce x xs) s g h = ap (λ z. k.coalesced m z xs s g) (value-same x s g h.0) ∙ coalesced-same (k.value n x s g) xs s g h.1
    value-same (q.null_if x y) s g h = ap₂ (λ z v. case_of (c.compare Eq z v) Null z) (value-same x s g h.0) (value-same y s g h.1)
    value-same (q.scalar query) s g h = ap u.scalar (rows-same query s h)
    value-same q.count_all s g h = refl
    value-same (q.aggregate f distinct x) s g h = ap (λ z. aggregated f distinct z g) (fun_ext (λ cells. value-same x (cells ∷ []) no_group h))

    summed-same : (x : Cell) (xs : Addends) (s : k.Scopes) (g : G) → w.EachAddends Same xs → k.summed m x xs s g ≡ k.summed n x xs s g
    summed-same x q.no_addend s g h = refl
    summed-same x (q.one_addend op y ys) s g h = ap (λ z. k.summed m (additive op x z) ys s g) (value-same y s g h.0) ∙ summed-same (additive op x (k.value n y s g)) ys s g h.1

    multiplied-same : (x : Cell) (xs : Multipliers) (s : k.Scopes) (g : G) → w.EachMultipliers Same xs → k.multiplied m x xs s g ≡ k.multiplied n x xs s g
    multiplied-same x q.no_multiplier s g h = refl
    multiplied-same x (q.one_multiplier op y ys) s g h = ap (λ z. k.multiplied m (multiplicative op x z) ys s g) (value-same y s g h.0) ∙ multiplied-same (multiplicative op x (k.value n y s g)) ys s g h.1

    arms-same : (xs : Arms) (last : Cell) (s : k.Scopes) (g : G) → w.EachArms Same xs → k.of_arms m xs last s g ≡ k.of_arms n xs last s g
    arms-same q.no_arm last s g h = refl
    arms-same (q.one_arm p x xs) last s g h =
        ap (λ z. case_of z (k.value m x s g) (k.of_arms m xs last s g)) (truth-same p s g h.0) ∙ ap₂ (case_of (k.truth n p s g)) (value-same x s g h.1) (arms-same xs last s g h.2)

    choices-same : (x : Cell) (xs : Choices) (last : Cell) (s : k.Scopes) (g : G) → w.EachChoices Same xs → k.of_choices m x xs last s g ≡ k.of_choices n x xs last s g
    choices-same x q.no_choice last s g h = refl
    choices-same x (q.one_choice y z ys) last s g h =
        ap (λ v. case_of (c.compare Eq x v) (k.value m z s g) (k.of_choices m x ys last s g)) (value-same y s g h.0) ∙ ap₂ (case_of (c.compare Eq x (k.value n y s g))) (value-same z s g h.1) (choices-same x ys last s g h.2)

    coalesced-same : (x : Cell) (xs : Values) (s : k.Scopes) (g : G) → w.EachValues Same xs → k.coalesced m x xs s g ≡ k.coalesced n x xs s g
    coalesced-same x q.no_value s g h = refl
    coalesced-same x (q.one_value y ys) s g h =
        ap (case_of (t.negated (c.is_null x)) x) (ap (λ z. k.coalesced m z ys s g) (value-same y s g h.0) ∙ coalesced-same (k.value n y s g) ys s g h.1)

    truth-same : (p : Test) (s : k.Scopes) (g : G) → w.EachTest Same p → k.truth m p s g ≡ k.truth n p s g
    truth-same (q.all ps) s g h = every-same ps s g h
    truth-same (q.any ps) s g h = some-same ps s g h
    truth-same (q.negated p) s g h = ap t.negated (truth-same p s g h)
    truth-same (q.compare x op y) s g h = ap₂ (c.compare op) (value-same x s g h.0) (value-same y s g h.1)
    truth-same (q.quantified x op each query) s g h = ap₂ (u.quantified each op) (value-same x s g h.0) (rows-same query s h.1)
    truth-same (q.between x y z) s g h =
        ap₂ t.and (ap₂ (c.compare Ge) (value-same x s g h.0) (value-same y s g h.1)) (ap₂ (c.compare Le) (value-same x s g h.0) (value-same z s g h.2))
    truth-same (q.among x xs) s g h = ap (λ z. k.equals_one m z xs s g) (value-same x s g h.0) ∙ equals-same (k.value n x s g) xs s g h.1
    truth-same (q.among_rows x query) s g h = ap₂ (u.compare_any Eq) (value-same x s g h.0) (rows-same query s h.1)
    truth-same (q.like x y) s g h = ap₂ l.like (value-same x s g h.0) (value-same y s g h.1)
    truth-same (q.is_null x) s g h = ap c.is_null (value-same x s g h)
    truth-same (q.exists query) s g h = ap u.exists (rows-same query s h)

    every-same : (ps : Tests) (s : k.Scopes) (g : G) → w.EachTests Same ps → k.every m ps s g ≡ k.every n ps s g
    every-same q.no_test s g h = refl
    every-same (q.one_test p ps) s g h = ap₂ t.and (truth-same p s g h.0) (every-same ps s g h.1)

    some-same : (ps : Tests) (s : k.Scopes) (g : G) → w.EachTests Same ps → k.some m ps s g ≡ k.some n ps s g
    some-same q.no_test s g h = refl
    some-same (q.one_test p ps) s g h = ap₂ t.or (truth-same p s g h.0) (some-same ps s g h.1)

    equals-same : (x : Cell) (xs : Values) (s : k.Scopes) (g : G) → w.EachValues Same xs → k.equals_one m x xs s g ≡ k.equals_one n x xs s g
    equals-same x q.no_value s g h = refl
    equals-same x (q.one_value y ys) s g h = ap₂ t.or (ap (c.compare Eq x) (value-same y s g h.0)) (equals-same x ys s g h.1)

    cells-same : (xs : Values) (s : k.Scopes) (g : G) → w.EachValues Same xs → k.cells m xs s g ≡ k.cells n xs s g
    cells-same q.no_value s g h = refl
    cells-same (q.one_value x xs) s g h = ap₂ (λ (y : Cell) (ys : List Cell). y ∷ ys) (value-same x s g h.0) (cells-same xs s g h.1)

    frames-same : (xs : Froms) (s : k.Scopes) → w.EachFroms Same xs → k.frames m xs s ≡ k.frames n xs s
    frames-same q.no_from s h = refl
    frames-same (q.one_from x xs) s h = ap₂ product (from-same x s h.0) (frames-same xs s h.1)

    from-same : (x : From) (s : k.Scopes) → w.EachFrom Same x → k.from_rows m x s ≡ k.from_rows n x s
    from-same (q.named name) s h = h
    from-same (q.derived query) s h = rows-same query s h
    from-same (q.crossed x y) s h = ap₂ product (from-same x s h.0) (from-same y s h.1)
    from-same (q.joined x y p) s h = ap₂ kept (fun_ext (λ row. truth-same p (row ∷ s) no_group h.2)) (ap₂ product (from-same x s h.0) (from-same y s h.1))
    from-same (q.left_joined x y i p) s h =
        ap (λ on. left_join on (replicate i Null) (k.from_rows m x s) (k.from_rows m y s)) (fun_ext (λ row. truth-same p (row ∷ s) no_group h.2))
        ∙ ap₂ (left_join (λ row. k.truth n p (row ∷ s) no_group) (replicate i Null)) (from-same x s h.0) (from-same y s h.1)

    pub rows-same : (x : Query) (s : k.Scopes) → w.EachIn Same x → k.rows m x s ≡ k.rows n x s
    rows-same (q.block distinct list from by) s h =
        ap (distinct_if distinct)
        (ap₂ (λ test items. selected test items (k.frames m from s)) (fun_ext (λ row. truth-same by (row ∷ s) no_group h.2)) (fun_ext (λ row. cells-same list (row ∷ s) no_group h.1))
        ∙ ap (selected (λ row. k.truth n by (row ∷ s) no_group) (λ row. k.cells n list (row ∷ s) no_group)) (frames-same from s h.0))
    rows-same (q.grouped distinct list from by places i having) s h =
        ap (distinct_if distinct)
        (ap₂ (λ test items. selected test items (k.groups places i (kept (λ row. k.truth m by (row ∷ s) no_group) (k.frames m from s))))
        (fun_ext (λ (one : Grouped (List Cell)). truth-same having (one.key ∷ s) one.group h.3)) (fun_ext (λ (one : Grouped (List Cell)). cells-same list (one.key ∷ s) one.group h.1))
        ∙ ap (λ rows. selected (λ one. k.truth n having (one.key ∷ s) one.group) (λ one. k.cells n list (one.key ∷ s) one.group) (k.groups places i rows))
        (ap₂ kept (fun_ext (λ row. truth-same by (row ∷ s) no_group h.2)) (frames-same from s h.0)))
    rows-same (q.combine x op all i y) s h = ap₂ (combined op all (k.failed_cells i)) (rows-same x s h.0) (rows-same y s h.1)
    rows-same (q.intersect x all i y) s h = ap₂ (intersected all (k.failed_cells i)) (rows-same x s h.0) (rows-same y s h.1)

-- what holds of each name, and gives something else of it, gives that of each
module _ (P Q : List ℕ → Type 0) (more : (name : List ℕ) → P name → Q name) where
  mutual
    pub in-more : (x : Query) → w.EachIn P x → w.EachIn Q x
    in-more (q.block distinct list from by) h = (froms-more from h.0, values-more list h.1, test-more by h.2)
    in-more (q.grouped distinct list from by places n having) h = (froms-more from h.0, values-more list h.1, test-more by h.2, test-more having h.3)
    in-more (q.combine x op all n y) h = (in-more x h.0, in-more y h.1)
    in-more (q.intersect x all n y) h = (in-more x h.0, in-more y h.1)

    from-more : (x : From) → w.EachFrom P x → w.EachFrom Q x
    from-more (q.named name) h = more name h
    from-more (q.derived query) h = in-more query h
    from-more (q.crossed x y) h = (from-more x h.0, from-more y h.1)
    from-more (q.joined x y p) h = (from-more x h.0, from-more y h.1, test-more p h.2)
    from-more (q.left_joined x y n p) h = (from-more x h.0, from-more y h.1, test-more p h.2)

    froms-more : (x : Froms) → w.EachFroms P x → w.EachFroms Q x
    froms-more q.no_from h = tt
    froms-more (q.one_from x xs) h = (from-more x h.0, froms-more xs h.1)

    value-more : (x : Value) → w.EachValue P x → w.EachValue Q x
    value-more (q.number n) h = tt
    value-more (q.text x) h = tt
    value-more (q.null type) h = tt
    value-more (q.column scope place) h = tt
    value-more (q.sum x xs) h = (value-more x h.0, addends-more xs h.1)
    value-more (q.product x xs) h = (value-more x h.0, multipliers-more xs h.1)
    value-more (q.negative x) h = value-more x h
    value-more (q.searched xs last) h = (arms-more xs h.0, value-more last h.1)
    value-more (q.simple x xs last) h = (value-more x h.0, choices-more xs h.1, value-more last h.2)
    value-more (q.coalesce x xs) h = (value-more x h.0, values-more xs h.1)
    value-more (q.null_if x y) h = (value-more x h.0, value-more y h.1)
    value-more (q.scalar query) h = in-more query h
    value-more q.count_all h = tt
    value-more (q.aggregate f distinct x) h = value-more x h

    addends-more : (x : Addends) → w.EachAddends P x → w.EachAddends Q x
    addends-more q.no_addend h = tt
    addends-more (q.one_addend op x xs) h = (value-more x h.0, addends-more xs h.1)

    multipliers-more : (x : Multipliers) → w.EachMultipliers P x → w.EachMultipliers Q x
    multipliers-more q.no_multiplier h = tt
    multipliers-more (q.one_multiplier op x xs) h = (value-more x h.0, multipliers-more xs h.1)

    values-more : (x : Values) → w.EachValues P x → w.EachValues Q x
    values-more q.no_value h = tt
    values-more (q.one_value x xs) h = (value-more x h.0, values-more xs h.1)

    arms-more : (x : Arms) → w.EachArms P x → w.EachArms Q x
    arms-more q.no_arm h = tt
    arms-more (q.one_arm p x xs) h = (test-more p h.0, value-more x h.1, arms-more xs h.2)

    choices-more : (x : Choices) → w.EachChoices P x → w.EachChoices Q x
    choices-more q.no_choice h = tt
    choices-more (q.one_choice x y xs) h = (value-more x h.0, value-more y h.1, choices-more xs h.2)

    test-more : (x : Test) → w.EachTest P x → w.EachTest Q x
    test-more (q.all ps) h = tests-more ps h
    test-more (q.any ps) h = tests-more ps h
    test-more (q.negated p) h = test-more p h
    test-more (q.compare x op y) h = (value-more x h.0, value-more y h.1)
    test-more (q.quantified x op each query) h = (value-more x h.0, in-more query h.1)
    test-more (q.between x y z) h = (value-more x h.0, value-more y h.1, value-more z h.2)
    test-more (q.among x xs) h = (value-more x h.0, values-more xs h.1)
    test-more (q.among_rows x query) h = (value-more x h.0, in-more query h.1)
    test-more (q.like x y) h = (value-more x h.0, value-more y h.1)
    test-more (q.is_null x) h = value-more x h
    test-more (q.exists query) h = in-more query h

    tests-more : (x : Tests) → w.EachTests P x → w.EachTests Q x
    tests-more q.no_test h = tt
    tests-more (q.one_test p ps) h = (test-more p h.0, tests-more ps h.1)

step : (views : List ViewTree) (tables : List Table) (deep : List ℕ → ℕ) → Nests deep views → (depth : ℕ) (name : List ℕ) → deep name ≤ depth → known_at views tables (suc depth) name ≡ known_at views tables depth name
step views tables deep nests zero name l = by_body (body_of views name) (nests name)
  where
    by_body : (body : Option Query) → NestsOf deep name body → viewed (known_at views tables zero) tables name body ≡ viewed (known_at views tables zero) tables name None
    by_body None h = refl
    by_body (Some body) h = absurd (let x = h.0 in omega arith)
step views tables deep nests (suc depth) name l = by_body (body_of views name) (nests name) (λ other t. step views tables deep nests depth other (omega arith))
  where
    by_body : (body : Option Query) → NestsOf deep name body → ((other : List ℕ) → deep other < deep name → known_at views tables (suc depth) other ≡ known_at views tables depth other)
        → viewed (known_at views tables (suc depth)) tables name body ≡ viewed (known_at views tables depth) tables name body
    by_body None h f = refl
    by_body (Some body) h f = rows-same (known_at views tables (suc depth)) (known_at views tables depth) body [] (in-more (λ other. deep other < deep name) (λ other. known_at views tables (suc depth) other ≡ known_at views tables depth other) f body h.1)

pub stand : (views : List ViewTree) (tables : List Table) (deep : List ℕ → ℕ) (depth : ℕ) → Nests deep views → ((name : List ℕ) → deep name ≤ depth)
    → (name : List ℕ) → known_at views tables depth name ≡ viewed (known_at views tables depth) tables name (body_of views name)
stand views tables deep depth nests l name = sym (step views tables deep nests depth name (l name))
