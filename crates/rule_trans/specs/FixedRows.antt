-- J2: its test and its places by the conjuncts that equate a column and a literal, as the code has them.
use Rattle.std.specs.Prelude.{ℕ, ◌&&◌, ◌++◌, not, Bool, List, [], ◌∷◌, Option, Some, None}
use Rattle.qgm_core.specs.Boxes.{QueryGraph}
use Rattle.qgm_terms.specs.declared.named.Column.{Column}
use Rattle.rule_api.specs.Picks.{picked}
use Rattle.rule_api.specs.Rules.{Pair}
use Rattle.rule_trans.specs.EqualColumnsPlaces.{infers_free}
use Rattle.rule_trans.specs.EqualLiteralPlaces.{fixed_if, ranges_over_base}
use Rattle.rule_trans.specs.Equalities.{is_same}
use Rattle.rule_trans.specs.Literals.{FixedPair, NumberedPair, has_literal, is_some}
use Rattle.rule_trans.specs.declared.equalities.Equality.{Equality}

module _ (g : QueryGraph) (all : List NumberedPair) where
  -- of a = b, and of f, follows that a is the literal of f, which isn't there yet
  abbrev pub joins : Column → Column → FixedPair → Bool
  joins a b f = ((is_same b f.0 && not (has_literal a f.1 all)) && ranges_over_base g a.quant) && infers_free g b

  -- what follows of an equality of columns, and of a column and a literal that are equal
  abbrev pub implied_by : Equality → FixedPair → Option FixedPair
  implied_by e f = fixed_if (joins e.left e.right f) e.left f.1 (fixed_if (joins e.right e.left f) e.right f.1 None)

  abbrev pub implied_of : Option Equality → Option FixedPair → Option FixedPair
  implied_of None f = None
  implied_of (Some e) None = None
  implied_of (Some e) (Some f) = implied_by e f

  -- the places of an equality, whose number is i, with these
  abbrev pub row_in : Equality → ℕ → List NumberedPair → List Pair
  row_in e i [] = []
  row_in e i (f ∷ fs) = picked (is_some (implied_by e f.1)) i f.0 ++ row_in e i fs
