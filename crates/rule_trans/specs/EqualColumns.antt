-- J1: of two equalities that share a column, the equality of the other two columns is added.
use Rattle.std.specs.Prelude.{ℕ, ◌≡◌, ◌==◌, ◌&&◌, ◌<◌, ◌⊎◌, Bool, true, false, Some}
use Rattle.qgm_core.specs.Boxes.{QueryGraph, box_of}
use Rattle.qgm_core.specs.Edits.{compact}
use Rattle.qgm_core.specs.Kinds.{is_fed}
use Rattle.list_laws.specs.Lists.{In}
use Rattle.qgm_core.specs.declared.kinds.BoxKind.TheVariants.{OuterJoin, Select}
use Rattle.qgm_core.specs.declared.node.Node.{Node}
use Rattle.qgm_edit_laws.specs.ConjunctEdits.{put_conjunct}
use Rattle.qgm_edit_laws.specs.Graph.{binds_row}
use Rattle.qgm_edit_laws.specs.ImpliedEquality.{Equates}
use Rattle.qgm_props.specs.Inferred.{Facts, error_free_under}
use Rattle.qgm_props.specs.Laws.{Tells}
use Rattle.qgm_terms.specs.Terms.{Cond, col, compare, equal}
use Rattle.rule_api.specs.declared.place.Place.{Place}
use Rattle.rule_trans.specs.Follows.{IsConjunct}

-- column j of p is column k of q
abbrev pub same_column : ℕ → ℕ → ℕ → ℕ → Bool
same_column p j q k = (p == q) && (j == k)

-- n, a select that isn't fed or an outer join, has a conjunct of column j of p and column k of q, and behind it one of column k of q and column l of s; the three differ, p and s are two F quantifiers of n, column k of q is inferred error-free, and no conjunct equates the other two
pub record IsImpliedColumns (g : QueryGraph) (known : Facts) (at : Place) (n : Node) (p j q k s l : ℕ) (c d : Cond) : Type 0 where
  pub found : box_of at.at g ≡ Some n
  pub kind : (n.parts.kind ≡ Select) ⊎ (n.parts.kind ≡ OuterJoin)
  pub not_fed : is_fed n.parts.role ≡ false
  pub before : at.i < at.j
  pub first : IsConjunct at.i n c
  pub second : IsConjunct at.j n d
  pub of_first : Equates (col p j) (col q k) c
  pub of_second : Equates (col q k) (col s l) d
  pub differ_first : same_column p j q k ≡ false
  pub differ_second : same_column q k s l ≡ false
  pub two : (p == s) ≡ false
  pub row_first : binds_row p n.quants ≡ true
  pub row_last : binds_row s n.quants ≡ true
  pub free : error_free_under g.boxes known q k ≡ true
  pub new : (e : Cond) → In e n.parts.conds.items → Equates (col p j) (col s l) e → ⊥

-- J1 may fire, where known is what is inferred of g
pub record MayEqualColumns (at : Place) (g : QueryGraph) : Type 0 where
  pub known : Facts
  pub tells : Tells known g.boxes
  pub n : Node
  pub p : ℕ
  pub j : ℕ
  pub q : ℕ
  pub k : ℕ
  pub s : ℕ
  pub l : ℕ
  pub c : Cond
  pub d : Cond
  pub implied : IsImpliedColumns g known at n p j q k s l c d

-- the equality stands at the end of the conjuncts, and boxes that the root doesn't reach are gone; all else is as in g
pub record AddsEqualColumns (at : Place) (g h : QueryGraph) : Type 0 where
  pub may : MayEqualColumns at g
  pub after : h ≡ compact (put_conjunct may.n (compare equal (col may.p may.j) (col may.s may.l)) g)
