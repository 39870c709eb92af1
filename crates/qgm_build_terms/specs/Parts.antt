-- Expressions and conditions that are put together from lists of parts.
use Rattle.std.specs.Prelude.{List, [], ◌∷◌, Option, Some, None, if◌then◌else◌, map}
use Rattle.sql_value.specs.declared.order_key.SqlType.{SqlType}
use Rattle.sql_meaning.specs.ResolvedTrees.{Value, Addends, Multipliers, Values, Arms, Choices, Test, Tests}
use Rattle.sql_meaning.specs.ResolvedTrees as q
use Rattle.qgm_terms.specs.Terms.{Term, Cond, anded, ored}
use Rattle.qgm_terms.specs.Terms as t
use Rattle.qgm_translation.specs.Leaves.{Slots, after, leaves, test_leaves}
use Rattle.qgm_translation.specs.Maps.{Frame, Map}
use Rattle.qgm_translation.specs.Sources.{Sources}
use Rattle.qgm_translation.specs.Terms.{case, cond, is_untyped, null_as, term}
use Rattle.qgm_translation.specs.Typing.{typed_by}

-- the AND of these, true where there is none
abbrev pub all_of : List Cond → Cond
all_of [] = t.always
all_of (p ∷ ps) = anded p ps

-- the OR of these, false where there is none
abbrev pub any_of : List Cond → Cond
any_of [] = t.not t.always
any_of (p ∷ ps) = ored p ps

-- the first of these that isn't null, the last where each before it is
abbrev pub coalesced_onto : List Term → Term → Term
coalesced_onto [] last = last
coalesced_onto (x ∷ xs) last = case (t.not (t.is_null x)) x (coalesced_onto xs last)

abbrev pub coalesced : List Term → Term
coalesced [] = t.null_int
coalesced (x ∷ []) = x
coalesced (x ∷ y ∷ ys) = case (t.not (t.is_null x)) x (coalesced (y ∷ ys))

-- ---- CASE

-- a condition and its result, none for a NULL that has no type of its own
pub record OpenChoice : Type 0 where
  pub when : Cond
  pub result : Option Term

abbrev pub open_term : Value → Term → Option Term
open_term x y = if is_untyped x then None else Some y

-- the result, of this type where it is such a NULL
abbrev pub closed : SqlType → Option Term → Term
closed type None = null_as type
closed type (Some x) = x

-- the type of a last result; such a NULL has none, and is INTEGER
abbrev pub last_type : List (List SqlType) → Option Term → SqlType
last_type rows None = typed_by rows t.null_int
last_type rows (Some x) = typed_by rows x

-- the type of a result that has one of its own, or else this one
abbrev pub own_type : List (List SqlType) → Option Term → SqlType → SqlType
own_type rows None type = type
own_type rows (Some x) type = typed_by rows x

-- the type of the first result that has one of its own, or else this one
abbrev pub first_type : List (List SqlType) → List OpenChoice → SqlType → SqlType
first_type rows [] type = type
first_type rows (c ∷ cs) type = own_type rows c.result (first_type rows cs type)

-- with its result, of this type
abbrev pub closed_choice : SqlType → OpenChoice → t.Choice
closed_choice type c = record { when = c.when; then = closed type c.result }

-- CASE WHEN .. THEN .. ELSE last END
abbrev pub chosen_as : SqlType → List OpenChoice → Option Term → Term
chosen_as type cs last = t.choose (t.armed (map (closed_choice type) cs)) (closed type last)

abbrev pub chosen : List (List SqlType) → List OpenChoice → Option Term → Term
chosen rows cs last = chosen_as (first_type rows cs (last_type rows last)) cs last

-- ---- the parts of lists, in the order of the text

module _ (sources : Sources) (fr : Frame) (m : Map) where
  abbrev pub conds_in : Slots → Tests → List Cond
  conds_in s q.no_test = []
  conds_in s (q.one_test p ps) = cond sources fr m s p ∷ conds_in (after (test_leaves fr p) s) ps

  abbrev pub arms_in : Slots → Arms → List OpenChoice
  arms_in s q.no_arm = []
  arms_in s (q.one_arm p x xs) =
      (record { when = cond sources fr m s p; result = open_term x (term sources fr m (after (test_leaves fr p) s) x) })
      ∷ arms_in (after (leaves fr x) (after (test_leaves fr p) s)) xs

  -- of a CASE whose operand is x
  abbrev pub choices_in : Slots → Term → Choices → List OpenChoice
  choices_in s x q.no_choice = []
  choices_in s x (q.one_choice y z xs) =
      (record { when = t.compare t.equal x (term sources fr m s y); result = open_term z (term sources fr m (after (leaves fr y) s) z) })
      ∷ choices_in (after (leaves fr z) (after (leaves fr y) s)) x xs
