-- Queries whose boxes can be made: what the checks of a query give.
use Rattle.std.specs.Prelude.{◌≡◌, ℕ, Bool, true, List, [], ⊤}
use Rattle.sql_meaning.specs.ResolvedTrees.{Value, Addends, Multipliers, Values, Arms, Choices, Test, Tests, From, Froms, Query}
use Rattle.sql_meaning.specs.ResolvedTrees as q
use Rattle.qgm_translation.specs.Maps.{Frame}
use Rattle.qgm_translation.specs.Leaves.{leaves, test_leaves}
use Rattle.qgm_translation.specs.Shown.{HasKey}
use Rattle.qgm_translation.specs.Sources.{Sources, from_width, froms_width, width}

-- has: whether there is a table or a view of a name
module _ (sources : Sources) (has : List ℕ → Bool) where
  abbrev mutual
    -- operands of set operations are of the stated width; a GROUP BY is of the stated width and names a column
    pub Buildable : Query → Type 0
    Buildable (q.block distinct list from by) = FitFroms from × FitValues list × FitTest by
    Buildable (q.grouped distinct list from by places n having) = FitFroms from × FitValues list × FitTest by × FitTest having × HasKey places × (froms_width sources from ≡ n)
    Buildable (q.combine x op all n y) = Buildable x × Buildable y × (width x ≡ n) × (width y ≡ n)
    Buildable (q.intersect x all n y) = Buildable x × Buildable y × (width x ≡ n) × (width y ≡ n)

    -- names are known; a LEFT JOIN's right is of the stated width, and no subquery stands in its ON
    pub FitFrom : From → Type 0
    FitFrom (q.named name) = has name ≡ true
    FitFrom (q.derived query) = Buildable query
    FitFrom (q.crossed x y) = FitFrom x × FitFrom y
    FitFrom (q.joined x y p) = FitFrom x × FitFrom y × FitTest p
    FitFrom (q.left_joined x y n p) = FitFrom x × FitFrom y × (from_width sources y ≡ n) × ((fr : Frame) → test_leaves fr p ≡ [])

    pub FitFroms : Froms → Type 0
    FitFroms q.no_from = ⊤
    FitFroms (q.one_from x xs) = FitFrom x × FitFroms xs

    -- no subquery and no aggregate stands in an aggregate's argument
    pub FitValue : Value → Type 0
    FitValue (q.number n) = ⊤
    FitValue (q.text x) = ⊤
    FitValue (q.null type) = ⊤
    FitValue (q.column scope place) = ⊤
    FitValue (q.sum x xs) = FitValue x × FitAddends xs
    FitValue (q.product x xs) = FitValue x × FitMultipliers xs
    FitValue (q.negative x) = FitValue x
    FitValue (q.searched xs last) = FitArms xs × FitValue last
    FitValue (q.simple x xs last) = FitValue x × FitChoices xs × FitValue last
    FitValue (q.coalesce x xs) = FitValue x × FitValues xs
    FitValue (q.null_if x y) = FitValue x × FitValue y
    FitValue (q.scalar query) = Buildable query
    FitValue q.count_all = ⊤
    FitValue (q.aggregate f distinct x) = (fr : Frame) → leaves fr x ≡ []

    pub FitAddends : Addends → Type 0
    FitAddends q.no_addend = ⊤
    FitAddends (q.one_addend op x xs) = FitValue x × FitAddends xs

    pub FitMultipliers : Multipliers → Type 0
    FitMultipliers q.no_multiplier = ⊤
    FitMultipliers (q.one_multiplier op x xs) = FitValue x × FitMultipliers xs

    pub FitValues : Values → Type 0
    FitValues q.no_value = ⊤
    FitValues (q.one_value x xs) = FitValue x × FitValues xs

    pub FitArms : Arms → Type 0
    FitArms q.no_arm = ⊤
    FitArms (q.one_arm p x xs) = FitTest p × FitValue x × FitArms xs

    pub FitChoices : Choices → Type 0
    FitChoices q.no_choice = ⊤
    FitChoices (q.one_choice x y xs) = FitValue x × FitValue y × FitChoices xs

    pub FitTest : Test → Type 0
    FitTest (q.all ps) = FitTests ps
    FitTest (q.any ps) = FitTests ps
    FitTest (q.negated p) = FitTest p
    FitTest (q.compare x op y) = FitValue x × FitValue y
    FitTest (q.quantified x op each query) = FitValue x × Buildable query
    FitTest (q.between x y z) = FitValue x × FitValue y × FitValue z
    FitTest (q.among x xs) = FitValue x × FitValues xs
    FitTest (q.among_rows x query) = FitValue x × Buildable query
    FitTest (q.like x y) = FitValue x × FitValue y
    FitTest (q.is_null x) = FitValue x
    FitTest (q.exists query) = Buildable query

    pub FitTests : Tests → Type 0
    FitTests q.no_test = ⊤
    FitTests (q.one_test p ps) = FitTest p × FitTests ps
