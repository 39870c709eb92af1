-- M1 at a PERMIT select: the select below may be ENFORCE too, where rows are clean.
use Rattle.std.specs.Prelude.{ℕ, ◌≡◌, ◌==◌, ◌++◌, true, false, List, [], ◌∷◌, None}
use Rattle.row_bag.specs.AsSets.{is_clean}
use Rattle.row_bag.specs.declared.tables.Table.{Table}
use Rattle.qgm_wellformed.specs.WellFormed.{fault}
use Rattle.qgm_core.specs.Boxes.{QueryGraph, numbers, overs_in}
use Rattle.qgm_core.specs.Edits.{with_distinct}
use Rattle.qgm_core.specs.Kinds.{is_F, is_permit}
use Rattle.list_laws.specs.Lists.{EachOnce, In, times}
use Rattle.qgm_core.specs.declared.kinds.BoxKind.TheVariants.{Select}
use Rattle.qgm_core.specs.declared.kinds.Distinct.TheVariants.{Preserve}
use Rattle.qgm_core.specs.declared.node.Node.{Node}
use Rattle.qgm_core.specs.declared.owned.OwnedQuant.{OwnedQuant}
use Rattle.qgm_meaning.specs.Fits.{fits}
use Rattle.qgm_meaning.specs.Meaning.{bag_in, rows_of}
use Rattle.qgm_meaning.specs.Satisfies.{Satisfies}
use Rattle.qgm_meaning.specs.Scope.{loose}
use Rattle.qgm_meaning.specs.Searches.{bare}
use Rattle.qgm_meaning.specs.Values.{Environment}
use Rattle.qgm_edit_laws.specs.Graph.{Sound, reads_in}
use Rattle.rule_merge.specs.Merged.{merged_in}
use Rattle.rule_merge.specs.MergeShapes.{MergeFits}
use Rattle.qgm_edit_laws.specs.Shaped.{Shaped, Typed}
use Rattle.qgm_terms.specs.Substitution.{cell_at}
use Rattle.qgm_edit_laws.specs.KeepsOver.{KeepsOver}

-- nb is a select with the quantifiers us, rq, vs, of which rq is an F over the select nc that no other ranges over, of whichever DISTINCT; the cells of nc are bare whose columns another box than nb reads, which are boxes below nb
pub record MergesAny (bs : List Node) (nb nc : Node) (us : List OwnedQuant) (rq : OwnedQuant) (vs : List OwnedQuant) : Type 0 where
  pub in_b : In nb bs
  pub in_c : In nc bs
  pub split : nb.quants ≡ us ++ rq ∷ vs
  pub is_f : is_F rq.kind ≡ true
  pub over_c : rq.over ≡ nc.id
  pub select_b : nb.parts.kind ≡ Select
  pub select_c : nc.parts.kind ≡ Select
  pub one_use : times nc.id (overs_in bs) ≡ 1
  pub naked : (y : Node) → In y bs → (y.id == nb.id) ≡ false → (k : ℕ) → reads_in rq.id k y ≡ true → bare (cell_at k nc.parts.head) ≡ true

-- nb is PERMIT; over tables that satisfy the bases, in the environments that evaluation meets, the rows of nb are clean, and those of nc without DISTINCT
pub record MergesPermit (bs : List Node) (nb nc : Node) (us : List OwnedQuant) (rq : OwnedQuant) (vs : List OwnedQuant) : Type 0 where
  pub any : MergesAny bs nb nc us rq vs
  pub permitted : is_permit nb.parts.distinct ≡ true
  pub clean : (tables : List Table) → Satisfies tables bs → (e : Environment) → fits (bag_in tables bs) bs e ≡ true → is_clean (bag_in tables bs nb.id e) ≡ true
  pub clean_below : (tables : List Table) → Satisfies tables bs → (e : Environment) → fits (bag_in tables bs) bs e ≡ true → is_clean (rows_of tables (with_distinct Preserve nc) (bag_in tables bs) e) ≡ true

-- the same of boxes that look nothing up: nb is PERMIT, and without bindings its rows are clean, and those of nc without DISTINCT
pub record MergesClosed (bs : List Node) (nb nc : Node) (us : List OwnedQuant) (rq : OwnedQuant) (vs : List OwnedQuant) : Type 0 where
  pub any : MergesAny bs nb nc us rq vs
  pub permitted : is_permit nb.parts.distinct ≡ true
  pub closed : (q : ℕ) → loose bs nb.id q ≡ false
  pub closed_below : (q : ℕ) → loose bs nc.id q ≡ false
  pub clean : (tables : List Table) → Satisfies tables bs → is_clean (bag_in tables bs nb.id []) ≡ true
  pub clean_below : (tables : List Table) → Satisfies tables bs → is_clean (rows_of tables (with_distinct Preserve nc) (bag_in tables bs) []) ≡ true

-- what is asked of the rows of such boxes without bindings is so in each environment
abbrev pub ClosedMerges : Type 0
ClosedMerges = (bs : List Node) (root : ℕ) → Sound bs root → (b c : Node) (us : List OwnedQuant) (rq : OwnedQuant) (vs : List OwnedQuant) → MergesClosed bs b c us rq vs → MergesPermit bs b c us rq vs

-- M1 keeps all there
abbrev pub MergePermitKeeps : Type 0
MergePermitKeeps =
    (g : QueryGraph) → Sound g.boxes g.root → Shaped g.boxes g.root → (b c : Node) (us : List OwnedQuant) (rq : OwnedQuant) (vs : List OwnedQuant)
    → MergesPermit g.boxes b c us rq vs → KeepsOver g (merged_in b c us rq vs g)

-- types agree, shapes stay, and the check finds nothing more, of whichever DISTINCT the two are
pub record MergeAny : Type 0 where
  pub typed : (g : QueryGraph) → Sound g.boxes g.root → Typed g.boxes → (b c : Node) (us : List OwnedQuant) (rq : OwnedQuant) (vs : List OwnedQuant) → MergesAny g.boxes b c us rq vs → Typed (merged_in b c us rq vs g).boxes
  pub shaped :
      (g : QueryGraph) → Sound g.boxes g.root → Shaped g.boxes g.root → (b c : Node) (us : List OwnedQuant) (rq : OwnedQuant) (vs : List OwnedQuant)
      → MergesAny g.boxes b c us rq vs → MergeFits g b c us rq vs → Shaped (merged_in b c us rq vs g).boxes g.root
  pub formed :
      (g : QueryGraph) → EachOnce (numbers g.boxes) → fault g ≡ None → (b c : Node) (us : List OwnedQuant) (rq : OwnedQuant) (vs : List OwnedQuant)
      → MergesAny g.boxes b c us rq vs → MergeFits g b c us rq vs → fault (merged_in b c us rq vs g) ≡ None
