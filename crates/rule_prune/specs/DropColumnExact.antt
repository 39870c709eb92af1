-- The places of N1 are exactly those where it may fire.
use Rattle.std.proofs.Common.{ℕ, zero, suc, ◌+◌, ◌==◌, ◌≡◌, ◌&&◌, ◌<◌, ◌≤◌, ◌⊎◌, nat_lt, not, Bool, true, false, length, None, Option, Some, refl, sym, ap, subst, ◌∙◌, inl, inr, arith}
use Rattle.std.specs.Prelude.{◌↔◌, nat_le}
use Rattle.std.proofs.lemmas.Bool.{and_from, and_parts, cases_Bool, le-leb, leb-true, lt-ltb, ltb-false, ltb-true, not-true}
use Rattle.qgm_core.specs.Boxes.{QueryGraph, box_of, is_box, numbers}
use Rattle.qgm_core.specs.Edits.{drop_column, head_in}
use Rattle.qgm_core.specs.Kinds.{is_enforce, is_plain, width_by}
use Rattle.qgm_core.proofs.KindTests.{plain-is}
use Rattle.list_laws.specs.Lists.{EachOnce, In, holds}
use Rattle.list_laws.proofs.Booleans.{clash}
use Rattle.qgm_core.specs.declared.kinds.BoxKind.{BoxKind}
use Rattle.qgm_core.specs.declared.kinds.BoxKind.TheVariants.{Base, Group, OuterJoin, Select, SetOp}
use Rattle.qgm_core.specs.declared.kinds.Distinct.{Distinct}
use Rattle.qgm_core.specs.declared.node.Node.{Node}
use Rattle.qgm_core.specs.declared.owned.OwnedQuant.{OwnedQuant}
use Rattle.qgm_wellformed.specs.Sentences.{WellFormed}
use Rattle.qgm_edit_laws.specs.Changes.{LosesColumn}
use Rattle.qgm_edit_laws.specs.DropQuants.{without_those}
use Rattle.qgm_edit_laws.specs.FedOpen.{FedOpen}
use Rattle.qgm_edit_laws.specs.FormedAdds.{types_asked}
use Rattle.qgm_edit_laws.specs.FormedColumn.{Unasked}
use Rattle.qgm_edit_laws.specs.Graph.{reads_in}
use Rattle.qgm_edit_laws.proofs.ColumnNames.{at-asked}
use Rattle.qgm_edit_laws.proofs.Levels.{some-in}
use Rattle.qgm_edit_laws.proofs.Read.{columns-listed}
use Rattle.rule_api.specs.PickLaws.{picks_ascending, picks_exact}
use Rattle.rule_api.specs.Picks.{Passes}
use Rattle.rule_api.specs.Rules.{Ascending}
use Rattle.rule_facts.specs.FedClosed.{any_fed_closed}
use Rattle.rule_facts.proofs.FedClosed.{fed-from, fed-to}
use Rattle.rule_prune.specs.DropColumn.{MayDropColumn, MayLoseCell, columns_from, drop_column_pairs, in_column, leaves_open, may_drop_column, may_have, may_lose, may_lose_cell, stay_open, stays}
use Rattle.rule_prune.specs.NamedColumns.{is_operand, named_of}
use Rattle.rule_prune.specs.NamedColumnsLaws.{no-arm-from, no-arm-to, unasked-from, unasked-to}

-- ---- cells that may go

cell-from : (kind : BoxKind) (d : Distinct) (k : ℕ) → may_lose_cell kind d k ≡ true → ((kind ≡ Select) × (is_enforce d ≡ false)) ⊎ ((kind ≡ OuterJoin) ⊎ ((n : ℕ) × ((kind ≡ Group n) × (n < k))))
cell-from (Base table) d k h = absurd (let z : ⊥ = cc in z)
cell-from Select d k h = inl (refl, not-true (is_enforce d) h)
cell-from (Group keys) d k h = inr (inr (keys, (refl, ltb-true keys k h)))
cell-from (SetOp operator types) d k h = absurd (let z : ⊥ = cc in z)
cell-from OuterJoin d k h = inr (inl refl)

cell-to : (n : Node) (k : ℕ) → MayLoseCell n k → may_lose n k ≡ true
cell-to n k m = elim m [
  | inl s ↦ ap (λ z. may_lose_cell z n.parts.distinct k) s.0 ∙ ap not s.1
  | inr x ↦ elim x [
    | inl o ↦ ap (λ z. may_lose_cell z n.parts.distinct k) o
    | inr y ↦ ap (λ z. may_lose_cell z n.parts.distinct k) y.1.0 ∙ lt-ltb y.0 k y.1.1
  ]
]

-- where one may go, later ones may
cell-later : (kind : BoxKind) (d : Distinct) (k m : ℕ) → may_lose_cell kind d k ≡ true → k ≤ m → may_lose_cell kind d m ≡ true
cell-later (Base table) d k m h l = h
cell-later Select d k m h l = h
cell-later (Group keys) d k m h l = lt-ltb keys m (let a = ltb-true keys k h in omega (arith, a, l))
cell-later (SetOp operator types) d k m h l = h
cell-later OuterJoin d k m h l = h

wide-of : (kind : BoxKind) (d : Distinct) (k w : ℕ) → may_lose_cell kind d k ≡ true → width_by kind w ≡ w
wide-of (Base table) d k w h = absurd (let z : ⊥ = cc in z)
wide-of Select d k w h = refl
wide-of (Group keys) d k w h = refl
wide-of (SetOp operator types) d k w h = absurd (let z : ⊥ = cc in z)
wide-of OuterJoin d k w h = refl

-- ---- what is read is asked for

unread-of : (g : QueryGraph) (b k : ℕ) → Unasked g.boxes b k → (n o : Node) (r : OwnedQuant) → In n g.boxes → In o g.boxes → In r o.quants → r.over ≡ b → reads_in r.id k n ≡ false
unread-of g b k u n o r i j l e = elim (cases_Bool (reads_in r.id k n)) [
  | inr f ↦ f
  | inl t ↦ absurd (clash (types_asked r.id k n) (at-asked r.id k n (columns-listed r.id k n t)) (u n o r i j l e))
]

-- a column that may go by its kind, and that isn't named
pub loses-from : (g : QueryGraph) (n : Node) (k : ℕ) → In n g.boxes → 1 ≤ k → k ≤ length n.parts.head → may_have g n ≡ true → may_lose n k ≡ true → holds k (named_of n.id g.boxes) ≡ false → LosesColumn g.boxes n k
loses-from g n k i from within h l f =
    let a = and_parts (not (g.root == n.id)) (is_plain n.parts.role && (nat_le 2 (length n.parts.head) && (may_lose n (length n.parts.head) && not (is_operand n.id g.boxes)))) h in
    let b = and_parts (is_plain n.parts.role) (nat_le 2 (length n.parts.head) && (may_lose n (length n.parts.head) && not (is_operand n.id g.boxes))) a.1 in
    let c = and_parts (nat_le 2 (length n.parts.head)) (may_lose n (length n.parts.head) && not (is_operand n.id g.boxes)) b.1 in
    let d = and_parts (may_lose n (length n.parts.head)) (not (is_operand n.id g.boxes)) c.1 in
    record {
      within = i;
      from_one = from;
      column = within;
      wide = wide-of n.parts.kind n.parts.distinct k (length n.parts.head) l;
      unread = unread-of g n.id k (unasked-from g.boxes n.id k f);
      no_arm = no-arm-from g.boxes n.id (not-true (is_operand n.id g.boxes) d.1);
    }

-- ---- the guard

stay-from : (h : QueryGraph) (o : Option Node) → stay_open h o ≡ true → (n : Node) × ((o ≡ Some n) × (FedOpen h.boxes × FedOpen (without_those n (stays n) h).boxes))
stay-from h None t = absurd (let z : ⊥ = cc in z)
stay-from h (Some n) t =
    let a = and_parts (not (any_fed_closed h)) (not (any_fed_closed (without_those n (stays n) h))) t in
    (n, (refl, (fed-from h (not-true (any_fed_closed h) a.0), fed-from (without_those n (stays n) h) (not-true (any_fed_closed (without_those n (stays n) h)) a.1))))

stay-to : (h : QueryGraph) (n : Node) → FedOpen h.boxes → FedOpen (without_those n (stays n) h).boxes → stay_open h (Some n) ≡ true
stay-to h n a b = and_from (not (any_fed_closed h)) (not (any_fed_closed (without_those n (stays n) h))) (ap not (fed-to h a)) (ap not (fed-to (without_those n (stays n) h) b))

-- ---- numbers of columns

module _ (p : ℕ → Bool) where
  passes-from : (first n i : ℕ) → Passes p first (columns_from first n) i → (first ≤ i) × (i < first + n) × (p i ≡ true)
  passes-from first zero i h = elim h [ ]
  passes-from first (suc n) i h = elim h [
    | inl k ↦ ((let e = k.0 in omega (arith, e)), (let e = k.0 in omega (arith, e)), subst (λ z. p z ≡ true) (sym k.0) k.1)
    | inr k ↦ (let r = passes-from (first + 1) n i k in ((let a = r.0 in omega (arith, a)), (let b = r.1 in omega (arith, b)), r.2))
  ]

  passes-to : (first n i : ℕ) → first ≤ i → i < first + n → p i ≡ true → Passes p first (columns_from first n) i
  passes-to first zero i l m h = absurd (omega (arith, l, m))
  passes-to first (suc n) i l m h = elim (cases_Bool (nat_lt first i)) [
    | inl t ↦ (let a = ltb-true first i t in inr (passes-to (first + 1) n i (omega (arith, a)) (omega (arith, m)) h))
    | inr f ↦ (let a = ltb-false first i f in let e : i ≡ first = omega (arith, a, l) in inl (e, subst (λ z. p z ≡ true) e h))
  ]

column-from : (t : Node → ℕ → Bool) (o : Option Node) (i : ℕ) → Passes (in_column t o) 1 (columns_from 1 (length (head_in o))) i → (n : Node) × ((o ≡ Some n) × (1 ≤ i) × (i ≤ length n.parts.head) × (t n i ≡ true))
column-from t None i h = elim h [ ]
column-from t (Some n) i h = let r = passes-from (in_column t (Some n)) 1 (length n.parts.head) i h in (n, (refl, r.0, (let a = r.1 in omega (arith, a)), r.2))

column-to : (t : Node → ℕ → Bool) (o : Option Node) (n : Node) (i : ℕ) → o ≡ Some n → 1 ≤ i → i ≤ length n.parts.head → t n i ≡ true → Passes (in_column t o) 1 (columns_from 1 (length (head_in o))) i
column-to t o n i e l m h = subst (λ z. Passes (in_column t z) 1 (columns_from 1 (length (head_in z))) i) (sym e) (passes-to (in_column t (Some n)) 1 (length n.parts.head) i l (omega (arith, m)) h)

-- ---- the places

module _ (g : QueryGraph) (b i j : ℕ) where
  exact-from : In (i, j) (drop_column_pairs g b) → MayDropColumn (record { at = b; i = i; j = j }) g
  unfolding drop_column_pairs
  exact-from h =
      let a = (picks_exact (in_column (may_drop_column g) (box_of b g)) 1 (columns_from 1 (length (head_in (box_of b g)))) i j).0 h in
      let x = column-from (may_drop_column g) (box_of b g) i a.1 in
      let n : Node = x.0 in
      let c = and_parts (may_have g n) (may_lose n i && (not (holds i (named_of n.id g.boxes)) && leaves_open g n.id i)) x.1.3 in
      let d = and_parts (may_lose n i) (not (holds i (named_of n.id g.boxes)) && leaves_open g n.id i) c.1 in
      let e = and_parts (not (holds i (named_of n.id g.boxes))) (leaves_open g n.id i) d.1 in
      let f = not-true (holds i (named_of n.id g.boxes)) e.0 in
      let s = stay-from (drop_column n.id i g) (box_of n.id (drop_column n.id i g)) e.1 in
      let m = and_parts (not (g.root == n.id)) (is_plain n.parts.role && (nat_le 2 (length n.parts.head) && (may_lose n (length n.parts.head) && not (is_operand n.id g.boxes)))) c.0 in
      let o = and_parts (is_plain n.parts.role) (nat_le 2 (length n.parts.head) && (may_lose n (length n.parts.head) && not (is_operand n.id g.boxes))) m.1 in
      let q = and_parts (nat_le 2 (length n.parts.head)) (may_lose n (length n.parts.head) && not (is_operand n.id g.boxes)) o.1 in
      record {
        b = n;
        left = s.0;
        no_second = a.0;
        found = x.1.0;
        unnamed = record {
          not_root = not-true (g.root == n.id) m.0;
          plain = plain-is n.parts.role o.0;
          two = leb-true 2 (length n.parts.head) q.0;
          kind = cell-from n.parts.kind n.parts.distinct i d.0;
          loses = loses-from g n i (some-in (is_box b) g.boxes n x.1.0).0 x.1.1 x.1.2 c.0 d.0 f;
          unasked = unasked-from g.boxes n.id i f;
          after = s.1.0;
          middle = s.1.1.0;
          last = s.1.1.1;
        };
      }

  exact-to : MayDropColumn (record { at = b; i = i; j = j }) g → In (i, j) (drop_column_pairs g b)
  unfolding drop_column_pairs
  exact-to m =
      let n : Node = m.b in
      let x = m.unnamed in
      let l = cell-to n i x.kind in
      (picks_exact (in_column (may_drop_column g) (box_of b g)) 1 (columns_from 1 (length (head_in (box_of b g)))) i j).1 (
        m.no_second,
        column-to (may_drop_column g) (box_of b g) n i m.found x.loses.from_one x.loses.column
            (and_from (may_have g n) (may_lose n i && (not (holds i (named_of n.id g.boxes)) && leaves_open g n.id i))
            (and_from (not (g.root == n.id)) (is_plain n.parts.role && (nat_le 2 (length n.parts.head) && (may_lose n (length n.parts.head) && not (is_operand n.id g.boxes)))) (ap not x.not_root)
            (and_from (is_plain n.parts.role) (nat_le 2 (length n.parts.head) && (may_lose n (length n.parts.head) && not (is_operand n.id g.boxes))) (ap is_plain x.plain)
            (and_from (nat_le 2 (length n.parts.head)) (may_lose n (length n.parts.head) && not (is_operand n.id g.boxes)) (le-leb 2 (length n.parts.head) x.two)
            (and_from (may_lose n (length n.parts.head)) (not (is_operand n.id g.boxes)) (cell-later n.parts.kind n.parts.distinct i (length n.parts.head) l x.loses.column) (ap not (no-arm-to g.boxes n.id x.loses.no_arm))))))
            (and_from (may_lose n i) (not (holds i (named_of n.id g.boxes)) && leaves_open g n.id i) l
            (and_from (not (holds i (named_of n.id g.boxes))) (leaves_open g n.id i) (ap not (unasked-to g.boxes n.id i x.unasked))
            (ap (stay_open (drop_column n.id i g)) x.after ∙ stay-to (drop_column n.id i g) m.left x.middle x.last)))),
      )

-- N1 has exactly the places where it may fire
pub drop_column_exact : (g : QueryGraph) (b i j : ℕ) → EachOnce (numbers g.boxes) → WellFormed g → In (i, j) (drop_column_pairs g b) ↔ MayDropColumn (record { at = b; i = i; j = j }) g
drop_column_exact g b i j u w = (exact-from g b i j, exact-to g b i j)

-- in order
pub drop_column_ascend : (g : QueryGraph) (b : ℕ) → Ascending (drop_column_pairs g b)
unfolding drop_column_pairs
drop_column_ascend g b = picks_ascending (in_column (may_drop_column g) (box_of b g)) 1 (columns_from 1 (length (head_in (box_of b g))))
