-- J2: of an equality of two columns, and one of the second with a literal, the equality of the first with the literal is added.
use Rattle.std.specs.Prelude.{ℕ, ◌≡◌, ◌⊎◌, Bool, true, false, Some}
use Rattle.qgm_core.specs.Boxes.{QueryGraph, box_of}
use Rattle.qgm_core.specs.Edits.{compact}
use Rattle.qgm_core.specs.Kinds.{is_F, is_base, is_fed}
use Rattle.list_laws.specs.Lists.{In}
use Rattle.qgm_core.specs.declared.kinds.BoxKind.TheVariants.{OuterJoin, Select}
use Rattle.qgm_core.specs.declared.node.Node.{Node}
use Rattle.qgm_core.specs.declared.owned.OwnedQuant.{OwnedQuant}
use Rattle.qgm_edit_laws.specs.ConjunctEdits.{put_conjunct}
use Rattle.qgm_edit_laws.specs.ImpliedEquality.{Equates}
use Rattle.qgm_props.specs.Inferred.{Facts, error_free_under}
use Rattle.qgm_props.specs.Laws.{Tells}
use Rattle.qgm_terms.specs.Terms.{Cond, Term, int, text, null_int, null_text, col, both, minus_of, choose, count_all, fold, scalar, compare, equal}
use Rattle.rule_api.specs.declared.place.Place.{Place}
use Rattle.rule_trans.specs.Follows.{IsConjunct}

abbrev pub is_literal : Term → Bool
is_literal (int n) = true
is_literal (text s) = true
is_literal null_int = false
is_literal null_text = false
is_literal (col q k) = false
is_literal (both o x y) = false
is_literal (minus_of x) = false
is_literal (choose s x) = false
is_literal count_all = false
is_literal (fold f t x) = false
is_literal (scalar q) = false

-- p is an F quantifier, of whichever box, over a base
pub record IsOverBase (g : QueryGraph) (p : ℕ) : Type 0 where
  pub owner : Node
  pub r : OwnedQuant
  pub base : Node
  pub within : In owner g.boxes
  pub owned : In r owner.quants
  pub is_p : r.id ≡ p
  pub is_f : is_F r.kind ≡ true
  pub under : box_of r.over g ≡ Some base
  pub kind : is_base base.parts.kind ≡ true

-- n, a select that isn't fed or an outer join, has a conjunct of column j of p and column k of q, and one of column k of q and the literal z; p ranges over a base, column k of q is inferred error-free, and no conjunct equates column j of p and z
pub record IsImpliedLiteral (g : QueryGraph) (known : Facts) (at : Place) (n : Node) (p j q k : ℕ) (z : Term) (c d : Cond) : Type 0 where
  pub found : box_of at.at g ≡ Some n
  pub kind : (n.parts.kind ≡ Select) ⊎ (n.parts.kind ≡ OuterJoin)
  pub not_fed : is_fed n.parts.role ≡ false
  pub first : IsConjunct at.i n c
  pub second : IsConjunct at.j n d
  pub literal : is_literal z ≡ true
  pub of_first : Equates (col p j) (col q k) c
  pub of_second : Equates (col q k) z d
  pub over_base : IsOverBase g p
  pub free : error_free_under g.boxes known q k ≡ true
  pub new : (e : Cond) → In e n.parts.conds.items → Equates (col p j) z e → ⊥

-- J2 may fire, where known is what is inferred of g
pub record MayEqualLiteral (at : Place) (g : QueryGraph) : Type 0 where
  pub known : Facts
  pub tells : Tells known g.boxes
  pub n : Node
  pub p : ℕ
  pub j : ℕ
  pub q : ℕ
  pub k : ℕ
  pub z : Term
  pub c : Cond
  pub d : Cond
  pub implied : IsImpliedLiteral g known at n p j q k z c d

-- the equality stands at the end of the conjuncts, and boxes that the root doesn't reach are gone; all else is as in g
pub record AddsEqualLiteral (at : Place) (g h : QueryGraph) : Type 0 where
  pub may : MayEqualLiteral at g
  pub after : h ≡ compact (put_conjunct may.n (compare equal (col may.p may.j) may.z) g)
