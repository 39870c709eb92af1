-- What names mean in scopes, and in the same scopes within an aggregate's argument.
use Rattle.std.proofs.Common.{◌≡◌, ℕ, true, false, not, List, [], ◌∷◌, Option, Some, None, option_map, refl, ap, inl, inr}
use Rattle.std.proofs.lemmas.Bool.{cases_Bool}
use Rattle.std.proofs.lemmas.Grind.{common_steps}
use Rattle.std.specs.List.{list_any}
use Rattle.sql_ast.specs.declared.name.Column.{Column}
use Rattle.sql_faults.proofs.Orders.{lesser_none}
use Rattle.sql_faults.specs.Columns.{star_columns}
use Rattle.sql_faults.specs.Rules.{fault_if, star_ungrouped}
use Rattle.sql_faults.specs.Found.{found, found_any, found_by, found_in}
use Rattle.sql_faults.specs.Scopes.{Scope, Scopes, columns_by, columns_in, columns_named, in_range, is_column_barred, is_empty, is_found_barred, is_meant, is_meant_by, is_name_barred, is_own, is_range_barred, is_some, is_star_barred, meant, named_in, plain, range_in, range_of, released, scope_of, scope_with}
use Rattle.sql_faults.specs.declared.column.TypedColumn.{TypedColumn}
use Rattle.sql_faults.specs.declared.column.TypedRange.{TypedRange}
use Rattle.sql_faults.specs.declared.found.Found.{Found}

pub released_meant : (c : Column) (ss : Scopes) → meant c (released ss) ≡ meant c ss
released_meant c [] = refl
released_meant c (s ∷ ss) = elim (cases_Bool (is_meant c s.ranges)) [
  | inl e ↦ rw (e) refl
  | inr e ↦ rw (e) (released_meant c ss)
]

pub released_free : (c : Column) (ss : Scopes) → is_name_barred c (scope_of c (released ss)) ≡ false
released_free c [] = refl
released_free c (s ∷ ss) = elim (cases_Bool (is_meant c s.ranges)) [
  | inl e ↦ rw (e) refl
  | inr e ↦ rw (e) (released_free c ss)
]

pub released_own : (c : Column) (ss : Scopes) → is_own c (released ss) ≡ is_own c ss
released_own c [] = refl
released_own c (s ∷ ss) = refl

nothing_found : (cs : List TypedColumn) → found_any (found cs) ≡ None → is_empty cs ≡ true
nothing_found [] h = refl
nothing_found (c ∷ []) h = absurd (cc)
nothing_found (c ∷ d ∷ cs) h = absurd (cc)

some_found : (cs : List TypedColumn) (x : Found) → found_any (found cs) ≡ Some x → (is_empty cs ≡ false) × (x ≡ found cs)
some_found [] x h = absurd (cc)
some_found (c ∷ []) x h = (refl, cc)
some_found (c ∷ d ∷ cs) x h = (refl, cc)

no_range : (name : List ℕ) (q : Option TypedRange) → option_map (λ (r : TypedRange). found (columns_named name r.columns)) q ≡ None → is_some q ≡ false
no_range name None h = refl
no_range name (Some q) h = absurd (cc)

some_range : (name : List ℕ) (q : Option TypedRange) (x : Found) → option_map (λ (r : TypedRange). found (columns_named name r.columns)) q ≡ Some x → (is_some q ≡ true) × (x ≡ found (in_range name q))
some_range name None x h = absurd (cc)
some_range name (Some q) x h = (refl, cc)

own_any : (cs : List TypedColumn) → is_some (found_any (found cs)) ≡ not (is_empty cs)
own_any [] = refl
own_any (c ∷ []) = refl
own_any (c ∷ d ∷ cs) = refl

own_range : (name : List ℕ) (q : Option TypedRange) → is_some (option_map (λ (r : TypedRange). found (columns_named name r.columns)) q) ≡ is_some q
own_range name None = refl
own_range name (Some q) = refl

own_by : (r : Option (List ℕ)) (name : List ℕ) (ranges : List TypedRange) → is_some (found_by r name ranges) ≡ is_meant_by r name ranges
own_by None name ranges = own_any (named_in name ranges)
own_by (Some r) name ranges = own_range name (range_in r ranges)

found_by_none : (r : Option (List ℕ)) (name : List ℕ) (ranges : List TypedRange) → found_by r name ranges ≡ None → is_meant_by r name ranges ≡ false
found_by_none None name ranges h = ap not (nothing_found (named_in name ranges) h)
found_by_none (Some r) name ranges h = no_range name (range_in r ranges) h

found_by_some : (r : Option (List ℕ)) (name : List ℕ) (ranges : List TypedRange) (x : Found) → found_by r name ranges ≡ Some x → (is_meant_by r name ranges ≡ true) × (x ≡ found (columns_by r name ranges))
found_by_some None name ranges x h = let e = some_found (named_in name ranges) x h in (ap not e.0, e.1)
found_by_some (Some r) name ranges x h = some_range name (range_in r ranges) x h

-- the scope that a name means is the first in which it finds anything
pub target_there : (c : Column) (s : Scope) (ss : Scopes) → found_in c s.ranges ≡ None → scope_of c (s ∷ ss) ≡ scope_of c ss
target_there c s ss h = rw (found_by_none c.range c.name s.ranges h) refl

pub target_here : (c : Column) (s : Scope) (ss : Scopes) (x : Found) → found_in c s.ranges ≡ Some x → scope_of c (s ∷ ss) ≡ Some s
target_here c s ss x h = rw ((found_by_some c.range c.name s.ranges x h).0) refl

pub target_found : (c : Column) (ranges : List TypedRange) (x : Found) → found_in c ranges ≡ Some x → x ≡ found (columns_in c ranges)
target_found c ranges x h = (found_by_some c.range c.name ranges x h).1

pub own_found : (c : Column) (ranges : List TypedRange) → is_some (found_in c ranges) ≡ is_meant c ranges
own_found c ranges = own_by c.range c.name ranges

pub ruleset target_steps = (common_steps, released_meant, released_free, target_there, target_here, target_found)

pub ruleset own_steps = (common_steps, released_own, own_found)

-- ---- `r.*`

pub released_with : (name : List ℕ) (ss : Scopes) → is_some (scope_with name (released ss)) ≡ is_some (scope_with name ss)
released_with name [] = refl
released_with name (s ∷ ss) = elim (cases_Bool (is_some (range_in name s.ranges))) [
  | inl e ↦ rw (e) refl
  | inr e ↦ rw (e) (released_with name ss)
]

pub released_range : (name : List ℕ) (ss : Scopes) → range_of name (released ss) ≡ range_of name ss
released_range name [] = refl
released_range name (s ∷ ss) = elim (cases_Bool (is_some (range_in name s.ranges))) [
  | inl e ↦ rw (e) refl
  | inr e ↦ rw (e) (released_range name ss)
]

any_free : (name : List ℕ) (cs : List TypedColumn) → list_any (λ (c : TypedColumn). is_column_barred None name c.name) cs ≡ false
any_free name [] = refl
any_free name (c ∷ cs) = any_free name cs

pub found_free : (q : Option TypedRange) → is_found_barred None q ≡ false
found_free None = refl
found_free (Some r) = any_free r.name r.columns

pub released_star : (name : List ℕ) (ss : Scopes) → is_star_barred name (scope_with name (released ss)) ≡ false
released_star name [] = refl
released_star name (s ∷ ss) = elim (cases_Bool (is_some (range_in name s.ranges))) [
  | inl e ↦ rw (e) (found_free (range_in name s.ranges))
  | inr e ↦ rw (e) (released_star name ss)
]

pub star_free : (ranges : List TypedRange) → list_any (is_range_barred None) ranges ≡ false
star_free [] = refl
star_free (r ∷ ranges) = rw (any_free r.name r.columns) (star_free ranges)

pub ruleset star_steps = (common_steps, released_with, released_range, released_star, found_free)

pub released_columns : (ss : Scopes) → star_columns (released ss) ≡ star_columns ss
released_columns [] = refl
released_columns (s ∷ ss) = refl

pub released_ungrouped : (ss : Scopes) → star_ungrouped (released ss) ≡ 0
released_ungrouped [] = refl
released_ungrouped (s ∷ ss) = ap (λ b. fault_if b 12) (star_free s.ranges)

pub plain_ungrouped : (ranges : List TypedRange) (ss : Scopes) → star_ungrouped (plain ranges ∷ ss) ≡ 0
plain_ungrouped ranges ss = ap (λ b. fault_if b 12) (star_free ranges)

pub ruleset star_column_steps = (common_steps, released_columns, released_ungrouped, plain_ungrouped, star_free, lesser_none)
