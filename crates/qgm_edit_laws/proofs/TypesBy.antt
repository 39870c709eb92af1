-- Types that fit box by box are those that are looked up.
use Rattle.std.proofs.Common.{ℕ, suc, zero, ◌==◌, ◌-◌, ◌≡◌, ◌&&◌, Bool, true, false, cond, List, length, Option, Some, None, refl, sym, ap, ap₂, subst, ◌∙◌, eqb-true}
use Rattle.std.specs.Prelude.{slice_get}
use Rattle.std.specs.List.{flat_map, list_all}
use mathlib.Core.Path.{fun_ext}
use Rattle.sql_value.specs.declared.order_key.SqlType.{SqlType}
use Rattle.qgm_core.specs.Boxes.{is_box, owns, range_in}
use Rattle.qgm_core.specs.Free.{named_by}
use Rattle.list_laws.specs.Lists.{In, first, holds}
use Rattle.qgm_core.specs.declared.kinds.BoxKind.{BoxKind}
use Rattle.qgm_core.specs.declared.kinds.BoxKind.TheVariants.{Base, Select, Group, SetOp, OuterJoin}
use Rattle.qgm_core.specs.declared.node.Node.{Node}
use Rattle.qgm_core.specs.declared.owned.OwnedQuant.{OwnedQuant}
use Rattle.qgm_terms.specs.Named.{names_in, names_in_cond}
use Rattle.qgm_wellformed.specs.Columns.{box_under, over_box}
use Rattle.qgm_wellformed.specs.Types.{Lookup, all_agree, arm_agrees, arms_agree, cond_fits, is_known, is_typed, joined_column, known, lookup_of, term_type, type_found, type_in, types_agree, types_by, types_found, types_of}
use Rattle.qgm_wellformed.specs.declared.types.Typed.{Typed}
use Rattle.qgm_edit_laws.specs.Graph.{Sound}
use Rattle.qgm_edit_laws.specs.Shaped as shaped
use Rattle.qgm_edit_laws.proofs.AllSettled.{all-settled}
use Rattle.qgm_edit_laws.proofs.Follow.{all-alike, in-flat, settled-types, types_at}
use Rattle.qgm_edit_laws.proofs.Levels as levels
use Rattle.qgm_edit_laws.proofs.Levels.{some-in}
use Rattle.qgm_edit_laws.proofs.Ranks.{has-in}
use Rattle.qgm_edit_laws.proofs.Scope.{in-first}
use Rattle.qgm_edit_laws.proofs.Settled.{cond-local, kinds-local, term-local}
use Rattle.qgm_core.proofs.Reaching.{overs-held}
use Rattle.list_laws.proofs.Membership.{all-from, in-holds, in-left, in-right}
pub use Rattle.qgm_edit_laws.specs.TypesBy.{Types, agrees_by, arms_by, found_by, via}

type-by : (k : ℕ) (o : Option Typed) → type_in k o ≡ cond (k == 0) None (joined_column (slice_get (types_found o) (k - 1)))
type-by k None = none (k == 0)
  where
    none : (b : Bool) → ◌≡◌ {A = Option SqlType} None (cond b None None)
    none true = refl
    none false = refl
type-by k (Some x) = refl

-- what is looked up is so by the types of the boxes
pub found-as : (bs : List Node) (k : ℕ) (o : Option Node) → type_found (types_of bs) k o ≡ found_by (types_at bs) k o
found-as bs k None = refl
found-as bs k (Some n) = type-by k (first (is_typed n.id) (types_of bs))

pub looked : (bs : List Node) (q k : ℕ) → lookup_of bs q k ≡ via (types_at bs) bs q k
looked bs q k = found-as bs k (box_under bs q)

pub arms-as : (bs : List Node) (k : BoxKind) (rs : List OwnedQuant) → arms_agree (types_of bs) k rs ≡ arms_by (types_at bs) k rs
arms-as bs (Base t) rs = refl
arms-as bs Select rs = refl
arms-as bs (Group keys) rs = refl
arms-as bs (SetOp form types) rs = refl
arms-as bs OuterJoin rs = refl

pub agrees-as : (bs : List Node) (n : Node) → types_agree bs n ≡ agrees_by (lookup_of bs) (types_at bs) n
agrees-as bs n = ap (λ z. list_all (λ x. is_known (term_type (lookup_of bs) x)) n.parts.head && (list_all (cond_fits (lookup_of bs)) n.parts.conds.items && z)) (arms-as bs n.parts.kind n.quants)

-- the box under a quantifier is one of these
pub under-in : (bs : List Node) (q : ℕ) (n : Node) → box_under bs q ≡ Some n → In n bs
under-in bs q n = by (range_in q (first (owns q) bs))
  where
    by : (o : Option OwnedQuant) → over_box bs o ≡ Some n → In n bs
    by None e = absurd (cc e)
    by (Some r) e = (some-in (is_box r.over) bs n e).0

module _ (hs : List Node) (top : ℕ) (v : Sound hs top) (T : Types) (own : (n : Node) → In n hs → T n.id ≡ types_by (via T hs) n.parts.kind n.parts.head) where
  abbrev S : ℕ → ℕ → Bool
  S = levels.settled hs v.ordered v.once

  abbrev Same : ℕ → Type 0
  Same e = (n : Node) → In n hs → S e n.id ≡ true → types_at hs n.id ≡ T n.id

  one : (e : ℕ) → Same e → (k b : ℕ) → S e b ≡ true → (o : Option Node) → first (is_box b) hs ≡ o → found_by (types_at hs) k o ≡ found_by T k o
  one e again k b g None f = refl
  one e again k b g (Some u) f =
      let x = some-in (is_box b) hs u f in
      ap (λ z. cond (k == 0) None (joined_column (slice_get z (k - 1)))) (again u x.0 (subst (λ z. S e z ≡ true) (sym (eqb-true u.id b x.1)) g))

  range : (e : ℕ) → Same e → (k : ℕ) (o : Option OwnedQuant) → levels.under_by hs v.ordered v.once (S e) o ≡ true → found_by (types_at hs) k (over_box hs o) ≡ found_by T k (over_box hs o)
  range e again k None g = refl
  range e again k (Some r) g = one e again k r.over g (first (is_box r.over) hs) refl

  same : (e : ℕ) → Same e
  same zero n i s = absurd (cc s)
  same (suc e) n i s =
      let names : list_all (levels.under hs v.ordered v.once (S e)) (flat_map names_in n.parts.head) ≡ true = sym (ap (levels.step_by hs v.ordered v.once (S e)) (in-first n hs v.ordered i)) ∙ s in
      settled-types hs top v n i
      ∙ kinds-local (lookup_of hs) (via T hs) (levels.under hs v.ordered v.once (S e)) (λ m g k. looked hs m k ∙ range e (same e) k (range_in m (first (owns m) hs)) g) n.parts.kind n.parts.head names
      ∙ sym (own n i)

  pub types-by : (n : Node) → In n hs → types_at hs n.id ≡ T n.id
  types-by n i = same (length hs) n i (all-settled hs top v n i)

  pub looks-by : lookup_of hs ≡ via T hs
  looks-by = fun_ext (λ q. fun_ext (λ k. looked hs q k ∙ by q k (box_under hs q) refl))
    where
      by : (q k : ℕ) (o : Option Node) → box_under hs q ≡ o → found_by (types_at hs) k o ≡ found_by T k o
      by q k None e = refl
      by q k (Some u) e = ap (λ z. cond (k == 0) None (joined_column (slice_get z (k - 1)))) (types-by u (under-in hs q u e))

  arms-by : (n : Node) → In n hs → (k : BoxKind) (rs : List OwnedQuant) → ((r : OwnedQuant) → In r rs → In r n.quants) → arms_agree (types_of hs) k rs ≡ arms_by T k rs
  arms-by n i (Base t) rs sub = refl
  arms-by n i Select rs sub = refl
  arms-by n i (Group keys) rs sub = refl
  arms-by n i (SetOp form types) rs sub = all-alike (arm_agrees (types_of hs) types) (λ r. all_agree (T r.over) (known types)) rs (λ r j. (
      let u = has-in r.over hs (overs-held hs n r v.ordered i (sub r j)) in
      ap (λ z. all_agree z (known types)) (ap (types_at hs) (sym u.1.1) ∙ types-by u.0 u.1.0 ∙ ap T u.1.1)))
  arms-by n i OuterJoin rs sub = refl

  -- boxes that agree by these types agree
  pub typed-by : ((n : Node) → In n hs → agrees_by (via T hs) T n ≡ true) → shaped.Typed hs
  typed-by f n i = ap₂ (λ (at : Lookup) (z : Bool). list_all (λ x. is_known (term_type at x)) n.parts.head && (list_all (cond_fits at) n.parts.conds.items && z)) looks-by (arms-by n i n.parts.kind n.quants (λ r j. j)) ∙ f n i

-- a lookup that gives the same for what a box names
module _ (at other : Lookup) (n : Node) (alike : (q : ℕ) → holds q (named_by n) ≡ true → (k : ℕ) → at q k ≡ other q k) where
  in-head : (q : ℕ) → In q (flat_map names_in n.parts.head) → holds q (named_by n) ≡ true
  in-head q j = in-holds q (named_by n) (in-left q (flat_map names_in n.parts.head) (flat_map names_in_cond n.parts.conds.items) j)

  pub head-alike : types_by at n.parts.kind n.parts.head ≡ types_by other n.parts.kind n.parts.head
  head-alike = kinds-local at other (λ q. holds q (named_by n)) alike n.parts.kind n.parts.head (all-from (λ q. holds q (named_by n)) (flat_map names_in n.parts.head) (λ q j. in-head q j))

  pub agrees-alike : (T : Types) → agrees_by at T n ≡ agrees_by other T n
  agrees-alike T =
      ap₂ (λ a b. a && b) (all-alike (λ x. is_known (term_type at x)) (λ x. is_known (term_type other x)) n.parts.head (λ x i. ap is_known (term-local at other (λ q. holds q (named_by n)) alike x (all-from (λ q. holds q (named_by n)) (names_in x) (λ q j. in-head q (in-flat names_in x n.parts.head q i j))))))
      (ap (λ z. z && arms_by T n.parts.kind n.quants) (all-alike (cond_fits at) (cond_fits other) n.parts.conds.items (λ x i. cond-local at other (λ q. holds q (named_by n)) alike x (all-from (λ q. holds q (named_by n)) (names_in_cond x) (λ q j.
      in-holds q (named_by n) (in-right q (flat_map names_in n.parts.head) (flat_map names_in_cond n.parts.conds.items) (in-flat names_in_cond x n.parts.conds.items q i j)))))))
