-- What an expression sees at its place: the columns that names stand for, the scopes of subqueries, and the groups of aggregates.
use Rattle.std.proofs.Common.{◌≡◌, ◌∙◌, ℕ, Bool, true, false, cond, List, [], ◌∷◌, Option, Some, None, refl, sym, ap, subst, arith}
use Rattle.sql_ast.specs.declared.name.Column.{Column}
use Rattle.sql_ast.specs.Syntax as s
use Rattle.sql_meaning.specs.Even.{innermost}
use Rattle.sql_meaning.specs.Grouping.{in_list, is_grouped}
use Rattle.sql_meaning.specs.Scopes.{Shape}
use Rattle.sql_value.specs.declared.order_key.SqlType.{SqlType}
use Rattle.sql_names.specs.Places.{grouping_places}
use Rattle.sql_faults.proofs.Lookups.{own_once}
use Rattle.sql_catalog.proofs.EachLaws.{Each}
use Rattle.sql_faults.proofs.Named.{scope_ranges}
use Rattle.sql_faults.proofs.Orders.{both_none}
use Rattle.sql_faults.specs.Columns.{all_columns, list_scope}
use Rattle.sql_faults.specs.Faults.{column_fault, grouping_fault}
use Rattle.sql_faults.specs.FoundNames.{FoundOnce, ungrouped}
use Rattle.sql_faults.specs.Laws.{range_shapes, shapes}
use Rattle.sql_faults.specs.Rules.{aggregate_misplaced, column_misplaced, one_of, sub_misplaced}
use Rattle.sql_faults.specs.Scopes.{Scopes, columns_of_scope, grouped, is_name_barred, is_own, meant, plain, released, scope_of}
use Rattle.sql_faults.specs.declared.column.TypedRange.{TypedRange}
use Rattle.qgm_translation_laws.specs.Typed.{keyed, open_scope}
use Rattle.qgm_translation_laws.specs.Typed as t
use Rattle.qgm_translation.specs.Shown.{key_places}
use Rattle.qgm_translation_laws.proofs.Cells.{AllSee, HasColumn, NameIs, Sees, name_is}
use Rattle.qgm_translation_laws.proofs.Full.{FullScope}
use Rattle.qgm_translation_laws.proofs.Plain.{Site}
use Rattle.qgm_translation_laws.proofs.Spans.{argument_name}
use Rattle.qgm_translation_laws.proofs.Stated.{HaveTypes, no_fault_in}
use Rattle.qgm_translation_laws.proofs.Tests.{is_so}

pub record Sight (kinds : List ℕ → List SqlType) (place : Site) (scopes : Scopes) (any : List Shape) (rows : Option t.Scope) (cells : List t.Scope) : Type 0 where
  pub names : (c : Column) → column_fault place c scopes ≡ 0 → NameIs kinds rows c scopes any cells
  pub nested : sub_misplaced place ≡ 0 → (any ≡ shapes scopes) × AllSee scopes cells

pub sight : (kinds : List ℕ → List SqlType) (place : Site) (scopes : Scopes) (any : List Shape) (rows : Option t.Scope) (cells : List t.Scope) → any ≡ shapes scopes → AllSee scopes cells → Sight kinds place scopes any rows cells
sight kinds place scopes any rows cells e sees = record {
  names = λ c h.
      let parts = both_none _ _ h in
      subst (λ (z : List Shape). NameIs kinds rows c scopes z cells) (sym e)
      (name_is kinds rows c scopes cells sees parts.0 (no_fault_in (is_name_barred c (scope_of c scopes)) 11 (both_none _ _ parts.1).0));
  nested = λ h. (e, sees);
}

-- the columns of the innermost FROM, as an aggregate's argument sees them
abbrev pub OwnNames : (List ℕ → List SqlType) → Scopes → List Shape → t.Scope → Type 0
OwnNames kinds scopes any row = (c : Column) → one_of (meant c (released scopes)) ≡ 0 → is_own c (released scopes) ≡ true → NameIs kinds None c (released scopes) (innermost any ∷ []) (row ∷ [])

-- there are groups
abbrev pub Grouped : (List ℕ → List SqlType) → Scopes → List Shape → Option t.Scope → Type 0
Grouped kinds scopes any rows = (row : t.Scope) × ((rows ≡ Some row) × OwnNames kinds scopes any row)

-- where an aggregate may stand there are groups
abbrev pub Groups : (List ℕ → List SqlType) → Site → Scopes → List Shape → Option t.Scope → Type 0
Groups kinds place scopes any rows = aggregate_misplaced place ≡ 0 → Grouped kinds scopes any rows

-- the place is in an aggregate's argument
abbrev pub Argued : Site → Type 0
Argued place = ((c : Column) (scopes : Scopes) → column_misplaced place c scopes ≡ 0 → is_own c scopes ≡ true) × (sub_misplaced place ≡ 13) × (aggregate_misplaced place ≡ 13)

pub no_fault : {A : Type 0} (n : ℕ) → n ≡ 13 → n ≡ 0 → A
no_fault n e h = absurd (omega (arith, e, h))

pub argument_sight : (kinds : List ℕ → List SqlType) (place : Site) (scopes : Scopes) (any : List Shape) (row : t.Scope) → Argued place → OwnNames kinds scopes any row → Sight kinds place (released scopes) (innermost any ∷ []) None (row ∷ [])
argument_sight kinds place scopes any row argued own = record {
  names = λ c h. let parts = both_none _ _ h in own c parts.0 (argued.0 c (released scopes) (both_none _ _ parts.1).1);
  nested = λ h. no_fault (sub_misplaced place) argued.1 h;
}

-- ---- scopes of blocks

pub all_full : (scopes : Scopes) (cells : List t.Scope) → AllSee scopes cells → Each FullScope scopes
all_full [] [] h = tt
all_full [] (cell ∷ cells) h = absurd h
all_full (s ∷ scopes) [] h = absurd h
all_full (s ∷ scopes) (cell ∷ cells) h = let sees = h.0 in (sees.full, all_full scopes cells h.1)

pub from_sees : (rs : List TypedRange) (row : List SqlType) → HaveTypes (all_columns rs) row → Each HasColumn rs → Sees (plain rs) (open_scope row)
from_sees rs row h f = record { row = row; types = h; shows = refl; full = f; sound = tt }

-- each column of GROUP BY is one of the block's FROM
pub sound_grouping : (group : List Column) (rs : List TypedRange) (scopes : Scopes) → grouping_fault group (plain rs ∷ scopes) ≡ 0 → Each (FoundOnce (ungrouped (range_shapes rs) ∷ [])) group
sound_grouping [] rs scopes h = tt
sound_grouping (c ∷ by) rs scopes h =
    let parts = both_none _ _ h in
    let own : is_own c (plain rs ∷ scopes) ≡ true = is_so (is_own c (plain rs ∷ scopes)) 11 (both_none _ _ parts.0).1 in (
      own_once c rs own (subst (λ (b : Bool). one_of (columns_of_scope c (cond b (Some (plain rs)) (scope_of c scopes))) ≡ 0) own (both_none _ _ parts.0).0),
      sound_grouping by rs scopes parts.1,
    )

pub block_sees : (b : Bool) (rs : List TypedRange) (group : List Column) (ranges : Shape) (row : List SqlType) → ranges ≡ range_shapes rs → HaveTypes (all_columns rs) row → Each HasColumn rs → Each (FoundOnce (ungrouped (range_shapes rs) ∷ [])) group
    → Sees (cond b (grouped rs group) (plain rs)) (cond b (keyed (key_places (grouping_places group ranges)) 0 row) (open_scope row))
block_sees true rs group ranges row e h f k = record { row = row; types = h; shows = ap (λ (z : Shape). keyed (key_places (grouping_places group z)) 0 row) e; full = f; sound = k }
block_sees false rs group ranges row e h f k = from_sees rs row h f

-- the groups of a block
pub block_groups : (kinds : List ℕ → List SqlType) (list : s.SelectList) (group : List Column) (having : s.Filter) (rs : List TypedRange) (scopes : Scopes) (ranges : Shape) (outer : List Shape) (row : List SqlType) → ranges ≡ range_shapes rs
    → Sees (plain rs) (open_scope row) → is_grouped list group having ≡ true
    → Grouped kinds (list_scope list group having rs ∷ scopes) (ranges ∷ outer) (cond (is_grouped list group having) (Some (open_scope row)) None)
block_groups kinds list group having rs scopes ranges outer row e sees b = (
  open_scope row,
  (
    ap (λ (z : Bool). cond z (Some (open_scope row)) None) b,
    (λ c h own.
        subst (λ (z : Shape). NameIs kinds None c (released (list_scope list group having rs ∷ scopes)) (z ∷ []) (open_scope row ∷ [])) (sym (e ∙ ap range_shapes (sym (scope_ranges list group having rs))))
        (argument_name kinds (list_scope list group having rs) scopes (open_scope row) (subst (λ (z : List TypedRange). Sees (plain z) (open_scope row)) (sym (scope_ranges list group having rs)) sees) c h own)),
  ),
)

abbrev pub is_written : s.Filter → Bool
is_written s.no_filter = false
is_written (s.only_where p) = true

-- an aggregate in the list makes a block grouped, and so does HAVING
pub grouped_list : (list : s.SelectList) (group : List Column) (having : s.Filter) → in_list list ≡ true → is_grouped list group having ≡ true
grouped_list list [] s.no_filter h = h
grouped_list list [] (s.only_where p) h = refl
grouped_list list (c ∷ by) having h = refl

pub grouped_having : (list : s.SelectList) (group : List Column) (having : s.Filter) → is_written having ≡ true → is_grouped list group having ≡ true
grouped_having list [] s.no_filter h = absurd (cc)
grouped_having list [] (s.only_where p) h = refl
grouped_having list (c ∷ by) having h = refl
