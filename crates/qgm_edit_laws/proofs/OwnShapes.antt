-- What shapes ask of a box's own quantifiers and nodes.
use Rattle.std.proofs.Common.{ℕ, ◌==◌, ◌≡◌, ◌&&◌, ◌||◌, ◌≤◌, arith, nat_lt, not, Bool, true, false, List, [], ◌∷◌, ◌++◌, length, map, Some, refl, sym, ap, subst, ◌∙◌, eqb-true, inl, inr}
use Rattle.std.specs.List.{flat_map, list_all}
use Rattle.std.proofs.lemmas.Bool.{and_parts, cases_Bool, or_left, or_parts, or_right}
use Rattle.qgm_core.specs.Boxes.{ids_of, is_quant, width}
use Rattle.qgm_core.specs.Kinds.{is_F, is_plain, is_select}
use Rattle.list_laws.specs.Lists.{In, first, holds, times}
use Rattle.qgm_core.specs.declared.kinds.BoxKind.{BoxKind}
use Rattle.qgm_core.specs.declared.kinds.BoxKind.TheVariants.{Base, Group, OuterJoin, Select, SetOp}
use Rattle.qgm_core.specs.declared.node.Node.{Node}
use Rattle.qgm_core.specs.declared.owned.OwnedQuant.{OwnedQuant}
use Rattle.qgm_terms.specs.Named as named
use Rattle.qgm_terms.specs.Terms.{Term}
use Rattle.qgm_terms.specs.declared.named.QuantNode.{QuantNode}
use Rattle.qgm_terms.specs.declared.named.QuantNode.TheVariants as node
use Rattle.qgm_wellformed.specs.Shapes.{all_F, are_F, arm_fits, columns_placed, head_folds, is_column, is_none, is_scalar, is_unfolded, kind_fits, looks_up, node_fits, nodes_of}
use Rattle.qgm_wellformed.specs.Shapes as shapes
use Rattle.qgm_wellformed.specs.WellFormed.{is_empty}
use Rattle.qgm_meaning.specs.Scope.{loose, loose_by, read_by, under_any}
use Rattle.qgm_meaning.specs.Searches.{bare, names}
use Rattle.qgm_meaning.proofs.ExistsJoined.{inner}
use Rattle.qgm_edit_laws.specs.Graph.{Sound, binds_row, nodes_in}
use Rattle.qgm_edit_laws.specs.Shaped.{Shaped}
use Rattle.qgm_edit_laws.proofs.AnyPut.{heads-bare}
use Rattle.qgm_edit_laws.proofs.Read.{is_of, term-nodes}
use Rattle.qgm_edit_laws.proofs.Scope.{unfold-loose}
use Rattle.qgm_edit_laws.proofs.ShapedPut.{all-joined, all-parts}
use Rattle.qgm_edit_laws.proofs.Turns.{first-own}
use Rattle.list_laws.proofs.Counting.{times-in}
use Rattle.list_laws.proofs.Membership.{all-from, all-in, any-from, any-not, eq-itself, in-left, in-right}
use Rattle.list_laws.proofs.Booleans.{clash}

-- ---- lists

pub none-map : {X Y : Type 0} (f : X → Y) (xs : List X) → is_none (map f xs) ≡ is_none xs
none-map f [] = refl
none-map f (x ∷ xs) = refl

pub flat-joined : {X Y : Type 0} (p : Y → Bool) (f : X → List Y) (xs ys : List X) → list_all p (flat_map f xs) ≡ true → list_all p (flat_map f ys) ≡ true → list_all p (flat_map f (xs ++ ys)) ≡ true
flat-joined p f [] ys h k = k
flat-joined p f (x ∷ xs) ys h k = let a = all-parts p (f x) (flat_map f xs) h in all-joined p (f x) (flat_map f (xs ++ ys)) a.0 (flat-joined p f xs ys a.1 k)

pub in-flat : {X Y : Type 0} (f : X → List Y) (x : X) (xs : List X) (z : Y) → In x xs → In z (f x) → In z (flat_map f xs)
in-flat f x [] z i j = elim i [ ]
in-flat f x (y ∷ xs) z i j = elim i [ inl e ↦ in-left z (f y) (flat_map f xs) (subst (λ k. In z (f k)) (sym e) j) | inr k ↦ in-right z (f y) (flat_map f xs) (in-flat f x xs z k j) ]

none-F : (rs : List OwnedQuant) → is_none rs ≡ true → all_F rs ≡ true
none-F [] h = refl
none-F (r ∷ rs) h = absurd (let z : ⊥ = cc in z)

pub some-held : (xs : List ℕ) → is_empty xs ≡ false → (p : ℕ) × (holds p xs ≡ true)
some-held [] h = absurd (let z : ⊥ = cc in z)
some-held (x ∷ xs) h = (x, or_left (x == x) (holds x xs) (eq-itself x))

-- a cell without nodes has none that doesn't pass
pub bare-passes : (p : QuantNode → Bool) (x : Term) → bare x ≡ true → list_all p (named.nodes_in x) ≡ true
bare-passes p x h = all-from p (named.nodes_in x) (λ z i. absurd (none z i))
  where
    one : (k : ℕ) (z : QuantNode) → is_of k z ≡ true → In z (named.nodes_in x) → ⊥
    one k z e i = clash (names k x) (sym (term-nodes k x) ∙ any-from (is_of k) z (named.nodes_in x) i e) (or_parts (names k x) false (heads-bare k (x ∷ []) (ap (λ t. t && true) h))).0

    none : (z : QuantNode) → In z (named.nodes_in x) → ⊥
    none (node.Scalar k) i = one k (node.Scalar k) (eq-itself k) i
    none (node.Some k) i = one k (node.Some k) (eq-itself k) i
    none (node.Every k) i = one k (node.Every k) (eq-itself k) i

-- ---- where own quantifiers are looked up

pub rows-placed : (n : Node) → all_F n.quants ≡ true → columns_placed n ≡ true
rows-placed n h = all-from (λ t. is_F t.kind || not (looks_up t.id n)) n.quants (λ t j. or_left (is_F t.kind) (not (looks_up t.id n)) (all-in (λ t. is_F t.kind) t n.quants h j))

-- a box of another kind than select has F quantifiers alone
pub rows-only : (bs : List Node) (root : ℕ) (n : Node) (k : BoxKind) → kind_fits root bs n k ≡ true → is_select k ≡ false → all_F n.quants ≡ true
rows-only bs root n (Base t) h e = none-F n.quants (and_parts (is_none n.quants) (is_none n.parts.conds.items) (and_parts (is_none n.quants && is_none n.parts.conds.items) (is_none n.parts.head) (and_parts (is_none n.quants && is_none n.parts.conds.items && is_none n.parts.head) (is_plain n.parts.role) h).0).0).0
rows-only bs root n Select h e = absurd (let z : ⊥ = cc in z)
rows-only bs root n (Group k) h e =
    let a = and_parts (are_F 1 n.quants && is_none n.parts.conds.items && is_plain n.parts.role && head_folds k n.parts.head) (shapes.head_is_own n) h in
    let d = and_parts (are_F 1 n.quants && is_none n.parts.conds.items && is_plain n.parts.role) (head_folds k n.parts.head) a.0 in
    let f = and_parts (are_F 1 n.quants && is_none n.parts.conds.items) (is_plain n.parts.role) d.0 in
    (and_parts (length n.quants == 1) (all_F n.quants) (and_parts (are_F 1 n.quants) (is_none n.parts.conds.items) f.0).0).1
rows-only bs root n (SetOp form types) h e =
    let a = and_parts (are_F 2 n.quants && list_all (arm_fits bs (width n)) n.quants && nat_lt 0 (width n) && is_none n.parts.conds.items && is_none n.parts.head) (is_plain n.parts.role) h in
    let d = and_parts (are_F 2 n.quants && list_all (arm_fits bs (width n)) n.quants && nat_lt 0 (width n) && is_none n.parts.conds.items) (is_none n.parts.head) a.0 in
    let f = and_parts (are_F 2 n.quants && list_all (arm_fits bs (width n)) n.quants && nat_lt 0 (width n)) (is_none n.parts.conds.items) d.0 in
    let k = and_parts (are_F 2 n.quants && list_all (arm_fits bs (width n)) n.quants) (nat_lt 0 (width n)) f.0 in
    (and_parts (length n.quants == 2) (all_F n.quants) (and_parts (are_F 2 n.quants) (list_all (arm_fits bs (width n)) n.quants) k.0).0).1
rows-only bs root n OuterJoin h e =
    let a = and_parts (are_F 2 n.quants && list_all is_column n.parts.head && shapes.head_is_own n && is_unfolded n) (is_plain n.parts.role) h in
    let d = and_parts (are_F 2 n.quants && list_all is_column n.parts.head && shapes.head_is_own n) (is_unfolded n) a.0 in
    let f = and_parts (are_F 2 n.quants && list_all is_column n.parts.head) (shapes.head_is_own n) d.0 in
    (and_parts (length n.quants == 2) (all_F n.quants) (and_parts (are_F 2 n.quants) (list_all is_column n.parts.head) f.0).0).1

-- a select of a sound graph looks its own quantifiers up where they are bound
pub select-placed : (bs : List Node) (root : ℕ) → Sound bs root → (n : Node) → In n bs → n.parts.kind ≡ Select → columns_placed n ≡ true
select-placed bs root w n i k = all-from (λ t. is_F t.kind || not (looks_up t.id n)) n.quants (λ t j. elim (cases_Bool (is_F t.kind)) [
  | inl h ↦ or_left (is_F t.kind) (not (looks_up t.id n)) h
  | inr h ↦ or_right (is_F t.kind) (not (looks_up t.id n)) (ap not (or_parts (read_by n t.id) (under_any n.quants (loose bs) t.id) (inner n (loose bs) t.id n.quants (unbound t j h)
      (sym (ap (λ (z : ℕ → Bool). z t.id) (unfold-loose bs n w.ordered i) ∙ ap (λ z. loose_by z n (loose bs) t.id) k) ∙ w.settled n i t.id (any-from (is_quant t.id) t n.quants j (eq-itself t.id))))).0)
])
  where
    few : (x : ℕ) → times x (ids_of n) ≤ 1
    few x = let a = times-in ids_of x n bs i in let b = w.once x in omega arith

    unbound : (t : OwnedQuant) → In t n.quants → is_F t.kind ≡ false → binds_row t.id n.quants ≡ false
    unbound t j f = any-not (λ s. is_F s.kind && is_quant t.id s) n.quants (λ s l. elim (cases_Bool (is_F s.kind && is_quant t.id s)) [
      | inr g ↦ g
      | inl h ↦ absurd (
          let a = and_parts (is_F s.kind) (s.id == t.id) h in
          let e : first (is_quant t.id) n.quants ≡ Some s = subst (λ z. first (is_quant z) n.quants ≡ Some s) (eqb-true s.id t.id a.1) (first-own s n.quants (few s.id) l) in
          let d : first (is_quant t.id) n.quants ≡ Some t = first-own t n.quants (few t.id) j in
          let same : s ≡ t = cc in
          clash (is_F s.kind) a.0 (ap (λ (z : OwnedQuant). is_F z.kind) same ∙ f))
    ])

-- the parts of a shape
pub shape-parts : (bs : List Node) (root : ℕ) → Shaped bs root → (y : Node) → In y bs → (kind_fits root bs y y.parts.kind ≡ true) × (list_all (node_fits y.quants) (nodes_of y) ≡ true) × ((not (is_scalar bs y.id) || nat_lt 0 (width y)) ≡ true)
shape-parts bs root s y i =
    let a = and_parts ((kind_fits root bs y y.parts.kind && list_all (node_fits y.quants) (nodes_of y)) && columns_placed y) (not (is_scalar bs y.id) || nat_lt 0 (width y)) (s.shapes y i) in
    let d = and_parts (kind_fits root bs y y.parts.kind && list_all (node_fits y.quants) (nodes_of y)) (columns_placed y) a.0 in
    let e = and_parts (kind_fits root bs y y.parts.kind) (list_all (node_fits y.quants) (nodes_of y)) d.0 in
    (e.0, e.1, a.1)
