-- What a name finds among columns, and in scopes.
use Rattle.std.proofs.Common.{◌≡◌, ◌∙◌, List, [], ◌∷◌, ◌++◌, refl, sym, ap}
use Rattle.std.proofs.lemmas.Grind.{common_steps}
use Rattle.sql_faults.specs.Found.{found, found_fault, found_type, joined}
use Rattle.sql_faults.specs.Rules.{one_of}
use Rattle.sql_faults.specs.Scopes.{first_type}
use Rattle.sql_faults.specs.declared.column.TypedColumn.{TypedColumn}
use Rattle.sql_faults.specs.declared.found.Found.{Found}
use Rattle.sql_faults.specs.declared.found.Found.TheVariants.{Nothing, One, Several}

pub joined_nothing : (a : Found) → joined a Nothing ≡ a
joined_nothing Nothing = refl
joined_nothing (One sort) = refl
joined_nothing (Several sort) = refl

pub joined_joins : (a b c : Found) → joined (joined a b) c ≡ joined a (joined b c)
joined_joins Nothing b c = refl
joined_joins (One sort) Nothing c = refl
joined_joins (One sort) (One other) Nothing = refl
joined_joins (One sort) (One other) (One third) = refl
joined_joins (One sort) (One other) (Several third) = refl
joined_joins (One sort) (Several other) c = refl
joined_joins (Several sort) b c = refl

pub found_more : (c : TypedColumn) (cs : List TypedColumn) → joined (One c.sort) (found cs) ≡ found (c ∷ cs)
found_more c [] = refl
found_more c (d ∷ []) = refl
found_more c (d ∷ e ∷ cs) = refl

pub found_append : (xs ys : List TypedColumn) → found (xs ++ ys) ≡ joined (found xs) (found ys)
found_append [] ys = refl
found_append (x ∷ xs) ys =
    sym (found_more x (xs ++ ys)) ∙ ap (joined (One x.sort)) (found_append xs ys) ∙ sym (joined_joins (One x.sort) (found xs) (found ys)) ∙ ap (λ a. joined a (found ys)) (found_more x xs)

pub fault_found : (cs : List TypedColumn) → found_fault (found cs) ≡ one_of cs
fault_found [] = refl
fault_found (c ∷ []) = refl
fault_found (c ∷ d ∷ cs) = refl

pub type_found : (cs : List TypedColumn) → found_type (found cs) ≡ first_type cs
type_found [] = refl
type_found (c ∷ []) = refl
type_found (c ∷ d ∷ cs) = refl

pub ruleset found_steps = (common_steps, joined_nothing, joined_joins, found_more, found_append)
