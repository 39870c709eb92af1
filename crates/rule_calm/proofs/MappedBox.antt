-- A box of which the columns become terms: what is inferred of it, and that it is settled.
use Rattle.std.proofs.Common.{ℕ, zero, suc, ◌==◌, ◌≡◌, ◌&&◌, ◌||◌, nat_le, nat_lt, map, not, Bool, true, false, List, [], ◌∷◌, length, take, refl, sym, ap, ap₂, subst, ◌∙◌, eqb-true, inl, inr}
use Rattle.std.specs.List.{flat_map, list_all}
use Rattle.std.proofs.lemmas.Bool.{and_from, and_parts, or_cases, or_left, or_right}
use Rattle.list_laws.specs.Lists.{In}
use Rattle.list_laws.proofs.Membership.{all-from, all-in, any-in, flat-in, in-append, in-flat, in-left, in-map, in-right}
use Rattle.qgm_core.specs.Boxes.{is_quant, width}
use Rattle.qgm_core.specs.Kinds.{is_A, is_E, is_F, is_S, is_magic, width_by}
use Rattle.qgm_core.specs.declared.kinds.BoxKind.{BoxKind}
use Rattle.qgm_core.specs.declared.kinds.BoxKind.TheVariants.{Base, Select, Group, SetOp, OuterJoin}
use Rattle.qgm_core.specs.declared.kinds.QuantKind.{QuantKind}
use Rattle.qgm_core.specs.declared.kinds.QuantKind.TheVariants as quant
use Rattle.qgm_core.specs.declared.kinds.SetOperator.{SetOperator}
use Rattle.qgm_core.specs.declared.kinds.SetOperator.TheVariants.{UnionAll, Union, IntersectAll, Intersect, ExceptAll, Except}
use Rattle.qgm_core.specs.declared.node.Node.{Node}
use Rattle.qgm_core.specs.declared.owned.OwnedQuant.{OwnedQuant}
use Rattle.qgm_terms.specs.Named.{columns_in, columns_in_cond, nodes_in, nodes_in_cond}
use Rattle.qgm_terms.specs.Terms.{Cond, Term}
use Rattle.qgm_terms.specs.declared.named.Column.{Column}
use Rattle.qgm_terms.specs.declared.named.QuantNode.{QuantNode}
use Rattle.qgm_terms.specs.declared.named.QuantNode.TheVariants as node
use Rattle.qgm_wellformed.specs.Columns.{columns_of}
use Rattle.qgm_wellformed.specs.Shapes.{is_among, node_fits, nodes_of}
use Rattle.qgm_edit_laws.specs.Graph.{Sound}
use Rattle.qgm_edit_laws.proofs.Edits.{length-map}
use Rattle.qgm_props.specs.Calm.{calm_column, calm_magic, calm_scalar, clean_below, is_closed}
use Rattle.qgm_props.specs.Inferred.{Closed, Facts, all_places, all_under, all_under_F, at_place, clean_by, clean_op, cond_free, free_by, free_op, is_free, under_first, under_two}
use Rattle.qgm_props.specs.Under.{of_quant}
use Rattle.rule_calm.specs.Settled.{IsFirm, SettledBox, has_no_single, single_free, single_free_cond}
use Rattle.rule_calm.proofs.BehindFacts.{place-map}
use Rattle.rule_calm.proofs.FedSettled.{below-calm}
use Rattle.rule_calm.proofs.Framed.{Carried, Covers, back, back-carried, known-clean, known-free, range-is, settled-from}
use Rattle.rule_calm.proofs.FreeTerms.{SameNode, SameNodes, cl_of, cond-is, cond_with, ef_of, free-is, free_with, one_of}
use Rattle.rule_calm.proofs.MappedTerms.{as_it_is, come, come-cond, map-cond, map-free, mapped, mapped_cond, single-mapped, single-mapped-cond}
use Rattle.rule_calm.proofs.OperatorFacts.{op-moved}
use Rattle.rule_calm.proofs.SameFacts.{OfOvers, all-F-of, both-of, first-of, places-of, two-of}

take-mapped : {X Y : Type 0} (f : X → Y) (p : X → Bool) (q : Y → Bool) (k : ℕ) (xs : List X) → ((x : X) → In x xs → p x ≡ true → q (f x) ≡ true) → list_all p (take k xs) ≡ true → list_all q (take k (map f xs)) ≡ true
take-mapped f p q zero xs w h = refl
take-mapped f p q (suc k) [] w h = refl
take-mapped f p q (suc k) (x ∷ xs) w h = both-of (p x) (list_all p (take k xs)) (q (f x)) (list_all q (take k (map f xs))) (w x (inl refl)) (take-mapped f p q k xs (λ y i. w y (inr i))) h

pub all-made : {X Y : Type 0} (f : X → Y) (q : Y → Bool) (xs : List X) → ((x : X) → In x xs → q (f x) ≡ true) → list_all q (map f xs) ≡ true
all-made f q [] w = refl
all-made f q (x ∷ xs) w = and_from (q (f x)) (list_all q (map f xs)) (w x (inl refl)) (all-made f q xs (λ y i. w y (inr i)))

pub S-not-F : (k : QuantKind) → is_S k ≡ true → is_F k ≡ false
S-not-F quant.F h = absurd (let z : ⊥ = cc in z)
S-not-F quant.E h = absurd (let z : ⊥ = cc in z)
S-not-F quant.A h = absurd (let z : ⊥ = cc in z)
S-not-F quant.S h = refl

E-not-F : (k : QuantKind) → is_E k ≡ true → is_F k ≡ false
E-not-F quant.F h = absurd (let z : ⊥ = cc in z)
E-not-F quant.E h = refl
E-not-F quant.A h = absurd (let z : ⊥ = cc in z)
E-not-F quant.S h = absurd (let z : ⊥ = cc in z)

A-not-F : (k : QuantKind) → is_A k ≡ true → is_F k ≡ false
A-not-F quant.F h = absurd (let z : ⊥ = cc in z)
A-not-F quant.E h = absurd (let z : ⊥ = cc in z)
A-not-F quant.A h = refl
A-not-F quant.S h = absurd (let z : ⊥ = cc in z)

-- what is calm of a box that is magic
magic-calm : (bs : List Node) (f : Facts) (root : ℕ) (n : Node) → SettledBox bs f root n → (not (is_magic n.parts.role) || calm_magic bs f n) ≡ true
magic-calm bs f root n x = (and_parts (list_all (calm_scalar bs f) n.quants) (not (is_magic n.parts.role) || calm_magic bs f n) (and_parts (clean_below bs f root n && list_all (calm_column bs f n) (columns_of n)) (list_all (calm_scalar bs f) n.quants && (not (is_magic n.parts.role) || calm_magic bs f n)) x.calm).1).1

-- ---- what stands in a box before and after

module _ (bs hs : List Node) (root : ℕ) (w : Sound bs root) (v : Sound hs root) (f g : Facts) (n n' : Node) (before : In n bs) (after : In n' hs) where
  -- a quantifier that isn't F is there after, over a box of which as much is known, and which has at most one row where it is S
  pub record Match (r : OwnedQuant) : Type 0 where
    pub now : OwnedQuant
    pub owned : In now n'.quants
    pub same : now.id ≡ r.id
    pub clean : f.clean r.over ≡ true → g.clean now.over ≡ true
    pub column : is_S r.kind ≡ true → (g.at_most_one now.over ≡ true) × (f.error_free r.over 1 ≡ true → g.error_free now.over 1 ≡ true)

  module _ (match : (r : OwnedQuant) → In r n.quants → is_F r.kind ≡ false → Match r) where
    of-before : (known : ℕ → Bool) (r : OwnedQuant) (q : ℕ) → In r n.quants → r.id ≡ q → of_quant bs known q ≡ true → known r.over ≡ true
    of-before known r q i e h = sym (range-is bs root w known r (n, (before, i))) ∙ ap (of_quant bs known) e ∙ h

    of-after : (known : ℕ → Bool) (r : OwnedQuant) (m : Match r) (q : ℕ) → r.id ≡ q → known m.now.over ≡ true → of_quant hs known q ≡ true
    of-after known r m q e h = subst (λ z. of_quant hs known z ≡ true) (m.same ∙ e) (range-is hs root v known m.now (n', (after, m.owned)) ∙ h)

    among : (p : QuantKind → Bool) (q : ℕ) → is_among p q n.quants ≡ true → (r : OwnedQuant) × (In r n.quants × ((r.id ≡ q) × (p r.kind ≡ true)))
    among p q h =
        let x = any-in (λ (r : OwnedQuant). is_quant q r && p r.kind) n.quants h in
        let t = and_parts (is_quant q x.0) (p x.0.kind) x.1.1 in
        (x.0, (x.1.0, (eqb-true x.0.id q t.0, t.1)))

    of-clean : (r : OwnedQuant) (m : Match r) (q : ℕ) → In r n.quants → r.id ≡ q → cl_of bs f q ≡ true → cl_of hs g q ≡ true
    of-clean r m q i e h = of-after g.clean r m q e (m.clean (of-before f.clean r q i e h))

    own-node : (z : QuantNode) → node_fits n.quants z ≡ true → SameNode (ef_of bs f) (ef_of hs g) (cl_of bs f) (cl_of hs g) (one_of bs f) (one_of hs g) z
    own-node (node.Scalar q) h =
        let x = among is_S q h in
        let m = match x.0 x.1.0 (S-not-F x.0.kind x.1.1.1) in
        let y = m.column x.1.1.1 in
        (of-clean x.0 m q x.1.0 x.1.1.0, (of-after g.at_most_one x.0 m q x.1.1.0 y.0, λ t. of-after (λ b. g.error_free b 1) x.0 m q x.1.1.0 (y.1 (of-before (λ b. f.error_free b 1) x.0 q x.1.0 x.1.1.0 t))))
    own-node (node.Some q) h = let x = among is_E q h in of-clean x.0 (match x.0 x.1.0 (E-not-F x.0.kind x.1.1.1)) q x.1.0 x.1.1.0
    own-node (node.Every q) h = let x = among is_A q h in of-clean x.0 (match x.0 x.1.0 (A-not-F x.0.kind x.1.1.1)) q x.1.0 x.1.1.0

    pub own-nodes : list_all (node_fits n.quants) (nodes_of n) ≡ true → SameNodes (ef_of bs f) (ef_of hs g) (cl_of bs f) (cl_of hs g) (one_of bs f) (one_of hs g) (nodes_of n)
    own-nodes fit z i = own-node z (all-in (node_fits n.quants) z (nodes_of n) fit i)

-- ---- its cells and conditions

-- the parts of a box without `single`
pub head-single : (n : Node) → has_no_single n ≡ true → (x : Term) → In x n.parts.head → single_free x ≡ true
head-single n ns x i = all-in single_free x n.parts.head (and_parts (list_all single_free n.parts.head) (list_all single_free_cond n.parts.conds.items) ns).0 i

pub conds-single : (n : Node) → has_no_single n ≡ true → (x : Cond) → In x n.parts.conds.items → single_free_cond x ≡ true
conds-single n ns x i = all-in single_free_cond x n.parts.conds.items (and_parts (list_all single_free n.parts.head) (list_all single_free_cond n.parts.conds.items) ns).1 i

pub head-column : (n : Node) (x : Term) (c : Column) → In x n.parts.head → In c (columns_in x) → In c (columns_of n)
head-column n x c i j = in-left c (flat_map columns_in n.parts.head) (flat_map columns_in_cond n.parts.conds.items) (flat-in columns_in x c n.parts.head i j)

pub conds-column : (n : Node) (x : Cond) (c : Column) → In x n.parts.conds.items → In c (columns_in_cond x) → In c (columns_of n)
conds-column n x c i j = in-right c (flat_map columns_in n.parts.head) (flat_map columns_in_cond n.parts.conds.items) (flat-in columns_in_cond x c n.parts.conds.items i j)

module _ (bs hs : List Node) (f g : Facts) (n : Node) (F : ℕ → ℕ → Term) (W E : ℕ → Cond → Cond) (ns : has_no_single n ≡ true)
    (columns : (two : Bool) (c : Column) → In c (columns_of n) → ef_of bs f c.quant c.place ≡ true → free_with (ef_of hs g) (cl_of hs g) (one_of hs g) two (F c.quant c.place) ≡ true)
    (nodes : SameNodes (ef_of bs f) (ef_of hs g) (cl_of bs f) (cl_of hs g) (one_of bs f) (one_of hs g) (nodes_of n))
    (wraps : (two : Bool) (r : ℕ) (d : Cond) → cond_with (ef_of hs g) (cl_of hs g) (one_of hs g) two d ≡ true → (cond_with (ef_of hs g) (cl_of hs g) (one_of hs g) two (W r d) ≡ true) × (cond_with (ef_of hs g) (cl_of hs g) (one_of hs g) two (E r d) ≡ true)) where
  pub cell-mapped : (one two : Bool) (x : Term) → In x n.parts.head → is_free bs f one x ≡ true → is_free hs g two (mapped F W E x) ≡ true
  cell-mapped one two x i h =
      free-is hs g two (mapped F W E x) ∙ map-free (ef_of bs f) (ef_of hs g) (cl_of bs f) (cl_of hs g) (one_of bs f) (one_of hs g) F W E one two (wraps two) x
      (λ c j. columns two c (head-column n x c i j))
      (λ z j. nodes z (in-left z (flat_map nodes_in n.parts.head) (flat_map nodes_in_cond n.parts.conds.items) (flat-in nodes_in x z n.parts.head i j)))
      (head-single n ns x i) (sym (free-is bs f one x) ∙ h)

  pub cond-mapped : (x : Cond) → In x n.parts.conds.items → cond_free bs f false x ≡ true → cond_free hs g false (mapped_cond F W E x) ≡ true
  cond-mapped x i h =
      cond-is hs g false (mapped_cond F W E x) ∙ map-cond (ef_of bs f) (ef_of hs g) (cl_of bs f) (cl_of hs g) (one_of bs f) (one_of hs g) F W E false false (wraps false) x
      (λ c j. columns false c (conds-column n x c i j))
      (λ z j. nodes z (in-right z (flat_map nodes_in n.parts.head) (flat_map nodes_in_cond n.parts.conds.items) (flat-in nodes_in_cond x z n.parts.conds.items i j)))
      (conds-single n ns x i) (sym (cond-is bs f false x) ∙ h)

-- ---- a box of which the columns become terms, and nothing else changes but its duplicates

pub record Image (F : ℕ → ℕ → Term) (n n' : Node) : Type 0 where
  pub id : n'.id ≡ n.id
  pub kind : n'.parts.kind ≡ n.parts.kind
  pub role : n'.parts.role ≡ n.parts.role
  pub head : n'.parts.head ≡ map (mapped F as_it_is as_it_is) n.parts.head
  pub conds : n'.parts.conds.items ≡ map (mapped_cond F as_it_is as_it_is) n.parts.conds.items
  pub quants : n'.quants ≡ n.quants

-- what is inferred of boxes of the same contents
clean-alike : (hs : List Node) (g : Facts) (kind : BoxKind) (n m : Node) → n.parts.head ≡ m.parts.head → n.parts.conds.items ≡ m.parts.conds.items → n.quants ≡ m.quants → clean_by hs g kind n ≡ clean_by hs g kind m
clean-alike hs g (Base table) n m h c q = refl
clean-alike hs g Select n m h c q = ap₂ (λ (rs : List OwnedQuant) (ps : List Cond). all_under_F g.clean rs && list_all (cond_free hs g false) ps) q c
clean-alike hs g (Group k) n m h c q = ap₂ (λ (rs : List OwnedQuant) (xs : List Term). under_first g.clean rs && list_all (is_free hs g false) (take k xs)) q h
clean-alike hs g (SetOp form types) n m h c q = ap (clean_op hs g form (length types)) q
clean-alike hs g OuterJoin n m h c q = ap₂ (λ (rs : List OwnedQuant) (ps : List Cond). under_two g.clean rs && list_all (cond_free hs g false) ps) q c

free-alike : (hs : List Node) (g : Facts) (kind : BoxKind) (n m : Node) (k : ℕ) → n.id ≡ m.id → n.parts.head ≡ m.parts.head → n.quants ≡ m.quants → free_by hs g kind n k ≡ free_by hs g kind m k
free-alike hs g (Base table) n m k i h q = refl
free-alike hs g Select n m k i h q = ap (λ xs. at_place (is_free hs g false) xs k) h
free-alike hs g (Group keys) n m k i h q = ap (λ b. g.clean b && at_place (is_free hs g (under_first g.at_most_one n.quants)) n.parts.head k) i ∙ ap₂ (λ (rs : List OwnedQuant) (xs : List Term). g.clean m.id && at_place (is_free hs g (under_first g.at_most_one rs)) xs k) q h
free-alike hs g (SetOp form types) n m k i h q = ap₂ (λ (b : ℕ) (rs : List OwnedQuant). free_op hs g form b rs k) i q
free-alike hs g OuterJoin n m k i h q = ap (λ xs. at_place (is_free hs g false) xs k) h

module _ (bs hs : List Node) (root : ℕ) (w : Sound bs root) (v : Sound hs root) (F : ℕ → ℕ → Term) (n n' : Node) (before : In n bs) (after : In n' hs) (e : Image F n n') (fit : list_all (node_fits n.quants) (nodes_of n) ≡ true) (ns : has_no_single n ≡ true) where
  abbrev n0 : Node
  n0 = record n { parts = record n.parts { head = map (mapped F as_it_is as_it_is) n.parts.head; conds = record n.parts.conds { items = map (mapped_cond F as_it_is as_it_is) n.parts.conds.items } } }

  module _ (f g : Facts)
      (columns : (two : Bool) (c : Column) → In c (columns_of n) → ef_of bs f c.quant c.place ≡ true → free_with (ef_of hs g) (cl_of hs g) (one_of hs g) two (F c.quant c.place) ≡ true)
      (rows : OfOvers n.quants f.clean g.clean) (cells : (k : ℕ) → OfOvers n.quants (λ b. f.error_free b k) (λ b. g.error_free b k)) (single : (r : OwnedQuant) → In r n.quants → is_S r.kind ≡ true → g.at_most_one r.over ≡ true) where
    match : (r : OwnedQuant) → In r n.quants → is_F r.kind ≡ false → Match bs hs root w v f g n n' before after r
    match r i k = record { now = r; owned = subst (λ (z : List OwnedQuant). In r z) (sym e.quants) i; same = refl; clean = rows r i; column = λ t. (single r i t, cells 1 r i) }

    nodes : SameNodes (ef_of bs f) (ef_of hs g) (cl_of bs f) (cl_of hs g) (one_of bs f) (one_of hs g) (nodes_of n)
    nodes = own-nodes bs hs root w v f g n n' before after match fit

    cell : (one two : Bool) (x : Term) → In x n.parts.head → is_free bs f one x ≡ true → is_free hs g two (mapped F as_it_is as_it_is x) ≡ true
    cell = cell-mapped bs hs f g n F as_it_is as_it_is ns columns nodes (λ two r d h. (h, h))

    ons : list_all (cond_free bs f false) n.parts.conds.items ≡ true → list_all (cond_free hs g false) n0.parts.conds.items ≡ true
    ons h = all-made (mapped_cond F as_it_is as_it_is) (cond_free hs g false) n.parts.conds.items
        (λ x i. cond-mapped bs hs f g n F as_it_is as_it_is ns columns nodes (λ two r d h. (h, h)) x i (all-in (cond_free bs f false) x n.parts.conds.items h i))

    two-rows : under_two f.clean n.quants ≡ true → under_two g.clean n.quants ≡ true
    two-rows = two-of f.clean g.clean n.quants rows

    two-columns : (k : ℕ) → under_two (λ b. f.error_free b k) n.quants ≡ true → under_two (λ b. g.error_free b k) n.quants ≡ true
    two-columns k = two-of (λ b. f.error_free b k) (λ b. g.error_free b k) n.quants (cells k)

    clean-0 : (kind : BoxKind) → clean_by bs f kind n ≡ true → clean_by hs g kind n0 ≡ true
    clean-0 (Base table) h = refl
    clean-0 Select h = both-of (all_under_F f.clean n.quants) (list_all (cond_free bs f false) n.parts.conds.items) (all_under_F g.clean n.quants) (list_all (cond_free hs g false) n0.parts.conds.items) (all-F-of f.clean g.clean n.quants rows) ons h
    clean-0 (Group k) h =
        both-of (under_first f.clean n.quants) (list_all (is_free bs f false) (take k n.parts.head)) (under_first g.clean n.quants) (list_all (is_free hs g false) (take k n0.parts.head))
        (first-of f.clean g.clean n.quants rows) (take-mapped (mapped F as_it_is as_it_is) (is_free bs f false) (is_free hs g false) k n.parts.head (cell false false)) h
    clean-0 (SetOp form types) h = op-moved bs hs f g (length types) (length types) n.quants n.quants two-rows (λ z. places-of (length types) (λ k. under_two (λ b. f.error_free b k) n.quants) (λ k. under_two (λ b. g.error_free b k) n.quants) two-columns z) form h
    clean-0 OuterJoin h = both-of (under_two f.clean n.quants) (list_all (cond_free bs f false) n.parts.conds.items) (under_two g.clean n.quants) (list_all (cond_free hs g false) n0.parts.conds.items) two-rows ons h

    pub clean-image : clean_by bs f n.parts.kind n ≡ true → clean_by hs g n'.parts.kind n' ≡ true
    clean-image h = clean-alike hs g n'.parts.kind n' n0 e.head e.conds e.quants ∙ subst (λ (z : BoxKind). clean_by hs g z n0 ≡ true) (sym e.kind) (clean-0 n.parts.kind h)

    module _ (here : f.clean n.id ≡ true → g.clean n.id ≡ true) where
      whole : (k : ℕ) → (f.clean n.id && under_two (λ b. f.error_free b k) n.quants) ≡ true → (g.clean n.id && under_two (λ b. g.error_free b k) n.quants) ≡ true
      whole k h = both-of (f.clean n.id) (under_two (λ b. f.error_free b k) n.quants) (g.clean n.id) (under_two (λ b. g.error_free b k) n.quants) here (two-columns k) h

      op : (form : SetOperator) (k : ℕ) → free_op bs f form n.id n.quants k ≡ true → free_op hs g form n.id n.quants k ≡ true
      op UnionAll k h = two-columns k h
      op Union k h = two-columns k h
      op IntersectAll k h = whole k h
      op Intersect k h = whole k h
      op ExceptAll k h = whole k h
      op Except k h = whole k h

      at : (one two : Bool) (k : ℕ) → at_place (is_free bs f one) n.parts.head k ≡ true → at_place (is_free hs g two) n0.parts.head k ≡ true
      at one two k h = place-map (mapped F as_it_is as_it_is) (is_free bs f one) (is_free hs g two) n.parts.head k (cell one two) h

      free-0 : (kind : BoxKind) (k : ℕ) → free_by bs f kind n k ≡ true → free_by hs g kind n0 k ≡ true
      free-0 (Base table) k h = refl
      free-0 Select k h = at false false k h
      free-0 (Group keys) k h =
          both-of (f.clean n.id) (at_place (is_free bs f (under_first f.at_most_one n.quants)) n.parts.head k) (g.clean n.id) (at_place (is_free hs g (under_first g.at_most_one n.quants)) n0.parts.head k)
          here (at (under_first f.at_most_one n.quants) (under_first g.at_most_one n.quants) k) h
      free-0 (SetOp form types) k h = op form k h
      free-0 OuterJoin k h = at false false k h

      pub free-image : (k : ℕ) → free_by bs f n.parts.kind n k ≡ true → free_by hs g n'.parts.kind n' k ≡ true
      free-image k h = free-alike hs g n'.parts.kind n' n0 k e.id e.head e.quants ∙ subst (λ (z : BoxKind). free_by hs g z n0 k ≡ true) (sym e.kind) (free-0 n.parts.kind k h)

  pub width-image : width n' ≡ width n
  width-image = ap₂ (λ (k : BoxKind) (xs : List Term). width_by k (length xs)) e.kind e.head ∙ ap (width_by n.parts.kind) (length-map (mapped F as_it_is as_it_is) n.parts.head)

  module _ (f g : Facts) (closed : Closed hs g) (kept : ℕ → Bool) (number : kept n.id ≡ true) (over : (r : OwnedQuant) → In r n.quants → kept r.over ≡ true) (single : (r : OwnedQuant) → In r n.quants → is_S r.kind ≡ true → g.at_most_one r.over ≡ true)
      (columns : (two : Bool) (c : Column) → In c (columns_of n) → ef_of bs (back bs hs f g kept) c.quant c.place ≡ true → free_with (ef_of hs g) (cl_of hs g) (one_of hs g) two (F c.quant c.place) ≡ true) where
    c : Carried (back bs hs f g kept) g kept
    c = back-carried bs hs f g kept

    -- it is covered
    pub image-covers : Covers bs hs f g kept n
    image-covers = record {
      clean = λ k x h. subst (λ z. g.clean z ≡ true) e.id (known-clean hs v.ordered g closed n' after (clean-image (back bs hs f g kept) g columns (λ r i. c.clean r.over (over r i)) (λ k r i. c.error_free r.over k (over r i)) single h));
      error_free = λ q k x l h. subst (λ z. g.error_free z q ≡ true) e.id (
          known-free hs v.ordered g closed n' after q (subst (λ z. (nat_lt 0 q && nat_le q z) ≡ true) (sym width-image) l)
          (free-image (back bs hs f g kept) g columns (λ r i. c.clean r.over (over r i)) (λ k r i. c.error_free r.over k (over r i)) single (c.clean n.id number) q h));
    }

  -- and settled
  module _ (f g : Facts) (clean : f.clean n.id ≡ true → g.clean n.id ≡ true) (free : (k : ℕ) → f.error_free n.id k ≡ true → g.error_free n.id k ≡ true) (x : SettledBox bs f root n)
      (columns : (c : Column) → In c (columns_of n) → (d : Column) → In d (columns_in (F c.quant c.place)) → calm_column hs g n' d ≡ true)
      (new : (r k : ℕ) → single_free (F r k) ≡ true) (shut : is_closed hs n.id ≡ is_closed bs n.id) (shut_over : (r : OwnedQuant) → In r n.quants → is_closed hs r.over ≡ is_closed bs r.over)
      (firm : (r : OwnedQuant) → In r n.quants → is_S r.kind ≡ true → IsFirm hs r.over) (one : (b : ℕ) → IsFirm hs b → g.at_most_one b ≡ true) where
    below : clean_below hs g root n' ≡ true
    below = elim (or_cases (n.id == root) (f.clean n.id) (below-calm bs f root n x)) [
      | inl t ↦ or_left (n'.id == root) (g.clean n'.id) (ap (λ z. z == root) e.id ∙ t)
      | inr t ↦ or_right (n'.id == root) (g.clean n'.id) (ap g.clean e.id ∙ clean t)
    ]

    all-columns : list_all (calm_column hs g n') (columns_of n') ≡ true
    all-columns = all-from (calm_column hs g n') (columns_of n') (λ d i. elim (in-append d (flat_map columns_in n'.parts.head) (flat_map columns_in_cond n'.parts.conds.items) i) [
      | inl j ↦ (
          let y = in-flat columns_in d n'.parts.head j in
          let z = in-map (mapped F as_it_is as_it_is) y.0 n.parts.head (subst (λ (xs : List Term). In y.0 xs) e.head y.1.0) in
          come F as_it_is as_it_is (λ c. calm_column hs g n' c ≡ true) (λ r d h. (h, h)) z.0 (λ c k. columns c (head-column n z.0 c z.1.0 k)) d (subst (λ (t : Term). In d (columns_in t)) (sym z.1.1) y.1.1))
      | inr j ↦ (
          let y = in-flat columns_in_cond d n'.parts.conds.items j in
          let z = in-map (mapped_cond F as_it_is as_it_is) y.0 n.parts.conds.items (subst (λ (xs : List Cond). In y.0 xs) e.conds y.1.0) in
          come-cond F as_it_is as_it_is (λ c. calm_column hs g n' c ≡ true) (λ r d h. (h, h)) z.0 (λ c k. columns c (conds-column n z.0 c z.1.0 k)) d (subst (λ (t : Cond). In d (columns_in_cond t)) (sym z.1.1) y.1.1))
    ])

    was-magic : (not (is_magic n.parts.role) || calm_magic bs f n) ≡ true
    was-magic = magic-calm bs f root n x

    magic : (not (is_magic n'.parts.role) || calm_magic hs g n') ≡ true
    magic = elim (or_cases (not (is_magic n.parts.role)) (calm_magic bs f n) was-magic) [
      | inl t ↦ or_left (not (is_magic n'.parts.role)) (calm_magic hs g n') (ap (λ z. not (is_magic z)) e.role ∙ t)
      | inr t ↦ or_right (not (is_magic n'.parts.role)) (calm_magic hs g n') (
          let a = and_parts (is_closed bs n.id) (all_under (is_closed bs) n.quants && all_places (width n) (f.error_free n.id)) t in
          let b = and_parts (all_under (is_closed bs) n.quants) (all_places (width n) (f.error_free n.id)) a.1 in
          and_from (is_closed hs n'.id) (all_under (is_closed hs) n'.quants && all_places (width n') (g.error_free n'.id)) (ap (is_closed hs) e.id ∙ shut ∙ a.0)
          (and_from (all_under (is_closed hs) n'.quants) (all_places (width n') (g.error_free n'.id))
          (subst (λ (z : List OwnedQuant). all_under (is_closed hs) z ≡ true) (sym e.quants) (all-from (λ r. is_closed hs r.over) n.quants (λ r i. shut_over r i ∙ all-in (λ r. is_closed bs r.over) r n.quants b.0 i)))
          (ap₂ (λ (z : ℕ) (u : ℕ). all_places z (g.error_free u)) width-image e.id ∙ places-of (width n) (f.error_free n.id) (g.error_free n.id) free b.1)))
    ]

    no-single : has_no_single n' ≡ true
    no-single = and_from (list_all single_free n'.parts.head) (list_all single_free_cond n'.parts.conds.items)
        (subst (λ (xs : List Term). list_all single_free xs ≡ true) (sym e.head) (all-made (mapped F as_it_is as_it_is) single_free n.parts.head (λ y i. single-mapped F as_it_is as_it_is new (λ r d h. (h, h)) y (head-single n ns y i))))
        (subst (λ (xs : List Cond). list_all single_free_cond xs ≡ true) (sym e.conds) (all-made (mapped_cond F as_it_is as_it_is) single_free_cond n.parts.conds.items (λ y i. single-mapped-cond F as_it_is as_it_is new (λ r d h. (h, h)) y (conds-single n ns y i))))

    pub image-settled : SettledBox hs g root n'
    image-settled = settled-from hs g root n' below all-columns magic no-single (λ r i t. firm r (subst (λ (z : List OwnedQuant). In r z) e.quants i) t) one
