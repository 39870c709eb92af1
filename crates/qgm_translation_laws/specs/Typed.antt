-- Queries by places whose expressions have types (SQL-92, 6.3, 6.9, 6.11 to 6.14, 7.9 and 7.10).
use Rattle.std.specs.Prelude.{◌≡◌, ℕ, ◌+◌, ◌++◌, ◌||◌, nat_eq, not, if◌then◌else◌, Bool, true, false, List, [], ◌∷◌, map, get_or, length, Option, Some, None, ⊤}
use Rattle.std.specs.List.{list_any}
use Rattle.sql_ast.specs.declared.word.AdditiveOp.{AdditiveOp}
use Rattle.sql_ast.specs.declared.word.AdditiveOp.TheVariants.{Plus, Minus, Concat}
use Rattle.sql_ast.specs.declared.word.SetFunction.{SetFunction}
use Rattle.sql_ast.specs.declared.word.SetFunction.TheVariants as function
use Rattle.sql_value.specs.declared.order_key.SqlType.{SqlType}
use Rattle.sql_value.specs.declared.order_key.SqlType.TheVariants.{Integer, Varchar}
use Rattle.sql_meaning.specs.ResolvedTrees.{Value, Addends, Multipliers, Values, Arms, Choices, Test, Tests, From, Froms, Query}
use Rattle.sql_meaning.specs.ResolvedTrees as q
use Rattle.qgm_translation.specs.Terms.{is_untyped}
use Rattle.qgm_translation.specs.Shown.{Either, key_places}

-- the types of the columns of a scope, by place; none of a column that may not be named
abbrev pub Scope : Type 0
Scope = List (Option SqlType)

-- all columns may be named
abbrev pub open_scope : List SqlType → Scope
open_scope types = map (λ t. Some t) types

abbrev pub is_among : ℕ → List ℕ → Bool
is_among i places = list_any (nat_eq i) places

-- over groups the columns at these places alone may be named; i: the place of the first one
abbrev pub keyed : List ℕ → ℕ → List SqlType → Scope
keyed places i [] = []
keyed places i (t ∷ types) = (if is_among i places then Some t else None) ∷ keyed places (i + 1) types

-- the operands of "+" and "-", and of "||", have this type, which is that of the result too
abbrev pub added : AdditiveOp → SqlType
added Plus = Integer
added Minus = Integer
added Concat = Varchar

-- an aggregate of an argument of type u has type t
abbrev pub FoldsTo : SetFunction → SqlType → SqlType → Type 0
FoldsTo function.Count u t = t ≡ Integer
FoldsTo function.Sum u t = (u ≡ Integer) × (t ≡ Integer)
FoldsTo function.Avg u t = (u ≡ Integer) × (t ≡ Integer)
FoldsTo function.Min u t = t ≡ u
FoldsTo function.Max u t = t ≡ u

-- a result of a CASE that isn't a NULL without a type
abbrev pub arms_typed : Arms → Bool
arms_typed q.no_arm = false
arms_typed (q.one_arm p x xs) = not (is_untyped x) || arms_typed xs

abbrev pub choices_typed : Choices → Bool
choices_typed q.no_choice = false
choices_typed (q.one_choice x y xs) = not (is_untyped y) || choices_typed xs

-- places of columns
abbrev pub ArePlaces : Scope → List ℕ → Type 0
ArePlaces row [] = ⊤
ArePlaces row (place ∷ places) = (t : SqlType) × ((get_or row place None ≡ Some t) × ArePlaces row places)

-- one type or more
abbrev pub NotNone : List SqlType → Type 0
NotNone [] = ⊥
NotNone (t ∷ types) = ⊤

-- kinds: the types of the columns of tables and views, by name
module _ (kinds : List ℕ → List SqlType) where
  abbrev mutual
    -- an expression is of type t: in these scopes, the innermost first, over groups of rows of this scope, if there are any
    pub IsOf : Option Scope → List Scope → Value → SqlType → Type 0
    IsOf rows scopes (q.number n) t = t ≡ Integer
    IsOf rows scopes (q.text x) t = t ≡ Varchar
    IsOf rows scopes (q.null type) t = type ≡ Some t
    IsOf rows scopes (q.column scope place) t = get_or (get_or scopes scope []) place None ≡ Some t
    IsOf rows scopes (q.sum x xs) t = IsOf rows scopes x t × AddendsAre rows scopes xs t
    IsOf rows scopes (q.product x xs) t = (t ≡ Integer) × IsOf rows scopes x Integer × MultipliersAre rows scopes xs
    IsOf rows scopes (q.negative x) t = (t ≡ Integer) × IsOf rows scopes x Integer
    -- one result has a type of its own, and all that do have this one
    IsOf rows scopes (q.searched xs last) t = ArmsAre rows scopes xs t × Either (is_untyped last) ⊤ (IsOf rows scopes last t) × ((arms_typed xs || not (is_untyped last)) ≡ true)
    IsOf rows scopes (q.simple x xs last) t =
        ((u : SqlType) × (IsOf rows scopes x u × ChoicesAre rows scopes u xs t)) × Either (is_untyped last) ⊤ (IsOf rows scopes last t) × ((choices_typed xs || not (is_untyped last)) ≡ true)
    IsOf rows scopes (q.coalesce x xs) t = IsOf rows scopes x t × AllAre rows scopes xs t
    IsOf rows scopes (q.null_if x y) t = IsOf rows scopes x t × IsOf rows scopes y t
    IsOf rows scopes (q.scalar query) t = IsOfTypes scopes query (t ∷ [])
    IsOf rows scopes q.count_all t = ((row : Scope) × (rows ≡ Some row)) × (t ≡ Integer)
    -- the argument sees the row of its group alone
    IsOf rows scopes (q.aggregate f distinct x) t = (row : Scope) × ((rows ≡ Some row) × ((u : SqlType) × (IsOf None (row ∷ []) x u × FoldsTo f u t)))

    pub AddendsAre : Option Scope → List Scope → Addends → SqlType → Type 0
    AddendsAre rows scopes q.no_addend t = ⊤
    AddendsAre rows scopes (q.one_addend op x xs) t = (t ≡ added op) × IsOf rows scopes x t × AddendsAre rows scopes xs t

    pub MultipliersAre : Option Scope → List Scope → Multipliers → Type 0
    MultipliersAre rows scopes q.no_multiplier = ⊤
    MultipliersAre rows scopes (q.one_multiplier op x xs) = IsOf rows scopes x Integer × MultipliersAre rows scopes xs

    -- all are of type t
    pub AllAre : Option Scope → List Scope → Values → SqlType → Type 0
    AllAre rows scopes q.no_value t = ⊤
    AllAre rows scopes (q.one_value x xs) t = IsOf rows scopes x t × AllAre rows scopes xs t

    pub ArmsAre : Option Scope → List Scope → Arms → SqlType → Type 0
    ArmsAre rows scopes q.no_arm t = ⊤
    ArmsAre rows scopes (q.one_arm p x xs) t = IsTyped rows scopes p × Either (is_untyped x) ⊤ (IsOf rows scopes x t) × ArmsAre rows scopes xs t

    -- the values are of type u, the results of type t
    pub ChoicesAre : Option Scope → List Scope → SqlType → Choices → SqlType → Type 0
    ChoicesAre rows scopes u q.no_choice t = ⊤
    ChoicesAre rows scopes u (q.one_choice x y xs) t = IsOf rows scopes x u × Either (is_untyped y) ⊤ (IsOf rows scopes y t) × ChoicesAre rows scopes u xs t

    -- what a condition compares has one type
    pub IsTyped : Option Scope → List Scope → Test → Type 0
    IsTyped rows scopes (q.all ps) = AreTyped rows scopes ps
    IsTyped rows scopes (q.any ps) = AreTyped rows scopes ps
    IsTyped rows scopes (q.negated p) = IsTyped rows scopes p
    IsTyped rows scopes (q.compare x op y) = (t : SqlType) × (IsOf rows scopes x t × IsOf rows scopes y t)
    IsTyped rows scopes (q.quantified x op each query) = (t : SqlType) × (IsOf rows scopes x t × IsOfTypes scopes query (t ∷ []))
    IsTyped rows scopes (q.between x y z) = (t : SqlType) × (IsOf rows scopes x t × IsOf rows scopes y t × IsOf rows scopes z t)
    IsTyped rows scopes (q.among x xs) = (t : SqlType) × (IsOf rows scopes x t × AllAre rows scopes xs t)
    IsTyped rows scopes (q.among_rows x query) = (t : SqlType) × (IsOf rows scopes x t × IsOfTypes scopes query (t ∷ []))
    IsTyped rows scopes (q.like x y) = IsOf rows scopes x Varchar × IsOf rows scopes y Varchar
    IsTyped rows scopes (q.is_null x) = (t : SqlType) × IsOf rows scopes x t
    IsTyped rows scopes (q.exists query) = (types : List SqlType) × IsOfTypes scopes query types

    pub AreTyped : Option Scope → List Scope → Tests → Type 0
    AreTyped rows scopes q.no_test = ⊤
    AreTyped rows scopes (q.one_test p ps) = IsTyped rows scopes p × AreTyped rows scopes ps

    -- these expressions are of these types
    pub AreOf : Option Scope → List Scope → Values → List SqlType → Type 0
    AreOf rows scopes q.no_value types = types ≡ []
    AreOf rows scopes (q.one_value x xs) [] = ⊥
    AreOf rows scopes (q.one_value x xs) (t ∷ types) = IsOf rows scopes x t × AreOf rows scopes xs types

    -- the columns of an operand of a FROM have these types
    pub FromIs : List Scope → From → List SqlType → Type 0
    FromIs scopes (q.named name) types = types ≡ kinds name
    FromIs scopes (q.derived query) types = IsOfTypes scopes query types
    FromIs scopes (q.crossed x y) types = (a : List SqlType) × ((b : List SqlType) × (FromIs scopes x a × FromIs scopes y b × (types ≡ a ++ b)))
    FromIs scopes (q.joined x y p) types = (a : List SqlType) × ((b : List SqlType) × (FromIs scopes x a × FromIs scopes y b × (types ≡ a ++ b) × IsTyped None (open_scope (a ++ b) ∷ scopes) p))
    FromIs scopes (q.left_joined x y n p) types = (a : List SqlType) × ((b : List SqlType) × (FromIs scopes x a × FromIs scopes y b × (types ≡ a ++ b) × IsTyped None (open_scope (a ++ b) ∷ scopes) p × (length b ≡ n)))

    pub FromsAre : List Scope → Froms → List SqlType → Type 0
    FromsAre scopes q.no_from types = types ≡ []
    FromsAre scopes (q.one_from x xs) types = (a : List SqlType) × ((b : List SqlType) × (FromIs scopes x a × FromsAre scopes xs b × (types ≡ a ++ b)))

    -- the columns of a query have these types; the operands of a set operation have the same, as many as it says
    pub IsOfTypes : List Scope → Query → List SqlType → Type 0
    IsOfTypes scopes (q.block distinct list from by) types =
        (row : List SqlType) × (FromsAre scopes from row × IsTyped None (open_scope row ∷ scopes) by × AreOf None (open_scope row ∷ scopes) list types)
    IsOfTypes scopes (q.grouped distinct list from by places n having) types =
        (row : List SqlType) × (FromsAre scopes from row × IsTyped None (open_scope row ∷ scopes) by × ArePlaces (open_scope row) (key_places places)
        × AreOf (Some (open_scope row)) (keyed (key_places places) 0 row ∷ scopes) list types × IsTyped (Some (open_scope row)) (keyed (key_places places) 0 row ∷ scopes) having)
    IsOfTypes scopes (q.combine x op all n y) types = IsOfTypes scopes x types × IsOfTypes scopes y types × NotNone types × (length types ≡ n)
    IsOfTypes scopes (q.intersect x all n y) types = IsOfTypes scopes x types × IsOfTypes scopes y types × NotNone types × (length types ≡ n)
