-- Views that nest: what their names stand for.
use Rattle.std.specs.Prelude.{◌≡◌, ◌≤◌, ◌<◌, ℕ, List, Option, Some, None, ⊤}
use Rattle.row_bag.specs.declared.tables.Table.{Table}
use Rattle.sql_meaning.specs.ResolvedTrees.{Value, Addends, Multipliers, Values, Arms, Choices, Test, Tests, From, Froms, Query}
use Rattle.sql_meaning.specs.ResolvedTrees as q
use Rattle.sql_meaning.specs.ResolvedViews.{ViewTree, body_of, known_at, viewed}
use Rattle.row_bag.specs.Tables.{bag_named}
use Rattle.qgm_meaning.specs.Meaning.{rows_or_none}
use Rattle.qgm_meaning.specs.Widths.{Wide}
use Rattle.qgm_translation.specs.Law.{StandFor, ViewsCounted}
use Rattle.qgm_translation.specs.Sources.{Sources, width}

-- P holds of each table and view that is named in a FROM
module _ (P : List ℕ → Type 0) where
  abbrev mutual
    pub EachIn : Query → Type 0
    EachIn (q.block distinct list from by) = EachFroms from × EachValues list × EachTest by
    EachIn (q.grouped distinct list from by places n having) = EachFroms from × EachValues list × EachTest by × EachTest having
    EachIn (q.combine x op all n y) = EachIn x × EachIn y
    EachIn (q.intersect x all n y) = EachIn x × EachIn y

    pub EachFrom : From → Type 0
    EachFrom (q.named name) = P name
    EachFrom (q.derived query) = EachIn query
    EachFrom (q.crossed x y) = EachFrom x × EachFrom y
    EachFrom (q.joined x y p) = EachFrom x × EachFrom y × EachTest p
    EachFrom (q.left_joined x y n p) = EachFrom x × EachFrom y × EachTest p

    pub EachFroms : Froms → Type 0
    EachFroms q.no_from = ⊤
    EachFroms (q.one_from x xs) = EachFrom x × EachFroms xs

    pub EachValue : Value → Type 0
    EachValue (q.number n) = ⊤
    EachValue (q.text x) = ⊤
    EachValue (q.null type) = ⊤
    EachValue (q.column scope place) = ⊤
    EachValue (q.sum x xs) = EachValue x × EachAddends xs
    EachValue (q.product x xs) = EachValue x × EachMultipliers xs
    EachValue (q.negative x) = EachValue x
    EachValue (q.searched xs last) = EachArms xs × EachValue last
    EachValue (q.simple x xs last) = EachValue x × EachChoices xs × EachValue last
    EachValue (q.coalesce x xs) = EachValue x × EachValues xs
    EachValue (q.null_if x y) = EachValue x × EachValue y
    EachValue (q.scalar query) = EachIn query
    EachValue q.count_all = ⊤
    EachValue (q.aggregate f distinct x) = EachValue x

    pub EachAddends : Addends → Type 0
    EachAddends q.no_addend = ⊤
    EachAddends (q.one_addend op x xs) = EachValue x × EachAddends xs

    pub EachMultipliers : Multipliers → Type 0
    EachMultipliers q.no_multiplier = ⊤
    EachMultipliers (q.one_multiplier op x xs) = EachValue x × EachMultipliers xs

    pub EachValues : Values → Type 0
    EachValues q.no_value = ⊤
    EachValues (q.one_value x xs) = EachValue x × EachValues xs

    pub EachArms : Arms → Type 0
    EachArms q.no_arm = ⊤
    EachArms (q.one_arm p x xs) = EachTest p × EachValue x × EachArms xs

    pub EachChoices : Choices → Type 0
    EachChoices q.no_choice = ⊤
    EachChoices (q.one_choice x y xs) = EachValue x × EachValue y × EachChoices xs

    pub EachTest : Test → Type 0
    EachTest (q.all ps) = EachTests ps
    EachTest (q.any ps) = EachTests ps
    EachTest (q.negated p) = EachTest p
    EachTest (q.compare x op y) = EachValue x × EachValue y
    EachTest (q.quantified x op each query) = EachValue x × EachIn query
    EachTest (q.between x y z) = EachValue x × EachValue y × EachValue z
    EachTest (q.among x xs) = EachValue x × EachValues xs
    EachTest (q.among_rows x query) = EachValue x × EachIn query
    EachTest (q.like x y) = EachValue x × EachValue y
    EachTest (q.is_null x) = EachValue x
    EachTest (q.exists query) = EachIn query

    pub EachTests : Tests → Type 0
    EachTests q.no_test = ⊤
    EachTests (q.one_test p ps) = EachTest p × EachTests ps

-- deep: how deep views nest under a name; a view's body names only what nests less deep
abbrev pub NestsOf : (List ℕ → ℕ) → List ℕ → Option Query → Type 0
NestsOf deep name None = ⊤
NestsOf deep name (Some body) = (0 < deep name) × EachIn (λ other. deep other < deep name) body

abbrev pub Nests : (List ℕ → ℕ) → List ViewTree → Type 0
Nests deep views = (name : List ℕ) → NestsOf deep name (body_of views name)

-- names that nest no deeper than so many steps stand for the rows of their table, or of the body of their view
abbrev pub ViewsStand : Type 0
ViewsStand =
    (views : List ViewTree) (tables : List Table) (deep : List ℕ → ℕ) (depth : ℕ) → Nests deep views → ((name : List ℕ) → deep name ≤ depth)
    → (name : List ℕ) → known_at views tables depth name ≡ viewed (known_at views tables depth) tables name (body_of views name)

-- the operands of set operations have the stated number of columns
abbrev pub EvenSets : Query → Type 0
EvenSets (q.block distinct list from by) = ⊤
EvenSets (q.grouped distinct list from by places n having) = ⊤
EvenSets (q.combine x op all n y) = EvenSets x × EvenSets y × (width x ≡ n) × (width y ≡ n)
EvenSets (q.intersect x all n y) = EvenSets x × EvenSets y × (width x ≡ n) × (width y ≡ n)

abbrev pub EvenBody : Option Query → Type 0
EvenBody None = ⊤
EvenBody (Some body) = EvenSets body

-- the views of the sources are these, nest no deeper than so many steps, and have as many columns as their bodies
pub record AreViews (views : List ViewTree) (deep : List ℕ → ℕ) (depth : ℕ) (sources : Sources) : Type 0 where
  pub nests : Nests deep views
  pub shallow : (name : List ℕ) → deep name ≤ depth
  pub bodies : (name : List ℕ) → sources.body name ≡ body_of views name
  pub counted : ViewsCounted sources
  pub even : (name : List ℕ) → EvenBody (sources.body name)

-- the rows of a table have as many cells as its name has columns
abbrev pub FilledByName : (List ℕ → ℕ) → List Table → Type 0
FilledByName columns tables = (name : List ℕ) → Wide (columns name) (rows_or_none (bag_named tables name))

-- over tables whose rows have so many cells as columns are stated, names stand for their rows
abbrev pub NamesStand : Type 0
NamesStand =
    (views : List ViewTree) (tables : List Table) (deep : List ℕ → ℕ) (depth : ℕ) (sources : Sources) → AreViews views deep depth sources → FilledByName sources.columns tables
    → StandFor tables sources (known_at views tables depth)
