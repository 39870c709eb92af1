-- An equality that follows from two others of a box: what the law of J1 and J2 asks.
use Rattle.std.specs.Prelude.{ℕ, suc, ◌≡◌, ◌⊎◌, Bool, true, false, Some, slice_get}
use Rattle.qgm_core.specs.Boxes.{QueryGraph, numbers}
use Rattle.qgm_core.specs.Edits.{compact}
use Rattle.qgm_core.specs.Kinds.{is_fed}
use Rattle.list_laws.specs.Lists.{EachOnce, In}
use Rattle.qgm_core.specs.declared.kinds.BoxKind.TheVariants.{OuterJoin, Select}
use Rattle.qgm_core.specs.declared.node.Node.{Node}
use Rattle.qgm_edit_laws.specs.ConjunctEdits.{put_conjunct}
use Rattle.qgm_edit_laws.specs.ImpliedEquality.{Equates}
use Rattle.qgm_props.specs.Inferred.{Facts, error_free_under}
use Rattle.qgm_props.specs.Laws.{Tells}
use Rattle.qgm_terms.specs.Terms.{Cond, Term, int, text, null_int, null_text, col, both, minus_of, choose, count_all, fold, scalar, compare, equal}
use Rattle.qgm_wellformed.specs.Sentences.{WellFormed}
use Rattle.rule_api.specs.Rules.{Preserves}

-- a column or a literal
abbrev pub is_leaf : Term → Bool
is_leaf (int n) = true
is_leaf (text s) = true
is_leaf null_int = false
is_leaf null_text = false
is_leaf (col q k) = true
is_leaf (both o x y) = false
is_leaf (minus_of x) = false
is_leaf (choose s x) = false
is_leaf count_all = false
is_leaf (fold f t x) = false
is_leaf (scalar q) = false

-- conjunct i of n, from 1, is c
abbrev pub IsConjunct : ℕ → Node → Cond → Type 0
IsConjunct i n c = (k : ℕ) × ((i ≡ suc k) × (slice_get n.parts.conds.items k ≡ Some c))

-- a select that isn't fed, or an outer join, has the conjuncts c, of column j of p and column k of q, and d, of column k of q and z; column k of q is inferred error-free
pub record Follows (g : QueryGraph) (known : Facts) (n : Node) (p j q k : ℕ) (z : Term) (c d : Cond) : Type 0 where
  pub within : In n g.boxes
  pub kind : (n.parts.kind ≡ Select) ⊎ (n.parts.kind ≡ OuterJoin)
  pub not_fed : is_fed n.parts.role ≡ false
  pub leaf : is_leaf z ≡ true
  pub first : In c n.parts.conds.items
  pub second : In d n.parts.conds.items
  pub of_first : Equates (col p j) (col q k) c
  pub of_second : Equates (col q k) z d
  pub free : error_free_under g.boxes known q k ≡ true

abbrev pub FollowsPreserves : Type 0
FollowsPreserves =
    (g : QueryGraph) → EachOnce (numbers g.boxes) → WellFormed g → (known : Facts) → Tells known g.boxes → (n : Node) (p j q k : ℕ) (z : Term) (c d : Cond) → Follows g known n p j q k z c d
    → Preserves g (compact (put_conjunct n (compare equal (col p j) z) g))
