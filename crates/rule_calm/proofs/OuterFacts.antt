-- What is inferred of the expressions of an outer join whose left operand begins with the columns of the magic box, and its right one too.
use Rattle.std.proofs.Common.{ℕ, zero, suc, ◌==◌, ◌≡◌, ◌≤◌, ◌<◌, ◌+◌, ◌&&◌, cond, map, Bool, true, false, List, [], ◌∷◌, get_or, ◌⊎◌, refl, sym, ap, subst, ◌∙◌, inl, inr, arith}
use Rattle.std.specs.List.{flat_map, list_all, list_any}
use Rattle.std.proofs.lemmas.Bool.{and_from, and_parts, or_cases, or_left, or_parts}
use Rattle.list_laws.specs.Lists.{In, holds}
use Rattle.list_laws.proofs.Booleans.{clash}
use Rattle.list_laws.proofs.Membership.{all-in, any-from, any-none, eq-false-sym, eq-itself, flat-in, in-left, in-right, map-in}
use Rattle.qgm_core.specs.Boxes.{owns}
use Rattle.qgm_core.specs.Free.{named_by}
use Rattle.qgm_core.specs.declared.node.Node.{Node}
use Rattle.qgm_meaning.specs.Scope.{loose, put_node, read_by}
use Rattle.qgm_meaning.specs.Tags.{columns_from}
use Rattle.qgm_meaning.specs.Searches.{names, names_cond}
use Rattle.qgm_terms.specs.Named.{columns_in, columns_in_cond, nodes_in, nodes_in_cond}
use Rattle.qgm_terms.specs.Substitution.{cell_at, column_substituted, substituted, substituted_cond}
use Rattle.qgm_terms.specs.Terms.{Cond, Term, col, null_int}
use Rattle.qgm_terms.specs.declared.named.Column.{Column}
use Rattle.qgm_terms.specs.declared.named.QuantNode.{QuantNode}
use Rattle.qgm_terms.specs.declared.named.QuantNode.TheVariants as node
use Rattle.qgm_wellformed.specs.Columns.{columns_of}
use Rattle.qgm_edit_laws.specs.Graph as graph
use Rattle.qgm_edit_laws.specs.Graph.{Sound}
use Rattle.qgm_edit_laws.proofs.Read.{column-named, cond-nodes, is_at, is_of, named-split, term-nodes}
use Rattle.qgm_edit_laws.proofs.Scope.{touched}
use Rattle.rule_magic.specs.Boxes.{both_cond, both_term, led_cond, led_term, same_each}
use Rattle.rule_magic.proofs.LedColumns as led
use Rattle.rule_magic.proofs.LedColumns.{MayLead}
use Rattle.rule_magic.proofs.PutColumns.{none-put}
use Rattle.rule_calm.specs.Settled.{has_no_single, single_free, single_free_cond}
use Rattle.rule_calm.proofs.BehindFacts.{single-put, single-put-cond}
use Rattle.rule_calm.proofs.FreeTerms.{cond_with, free_with, put-cond, put-free}
use Rattle.rule_calm.proofs.HeadPlaces.{columns-single}

-- ---- a closed box owns what it names

pub listed-named : (n : Node) (x : Column) → In x (columns_of n) → holds x.quant (named_by n) ≡ true
listed-named n x i = column-named x.quant x.place n (any-from (is_at x.quant x.place) x (columns_of n) i (and_from (x.quant == x.quant) (x.place == x.place) (eq-itself x.quant) (eq-itself x.place)))

pub own-columns : (hs : List Node) (root : ℕ) → Sound hs root → (n : Node) → In n hs → ((q : ℕ) → loose hs n.id q ≡ false) → (x : Column) → In x (columns_of n) → owns x.quant n ≡ true
own-columns hs root v n i none x j = elim (or_cases (read_by n x.quant) (graph.nodes_in x.quant n) (named-split x.quant n (listed-named n x j))) [
  | inr k ↦ (v.own_nodes n i x.quant k).0
  | inl k ↦ elim (touched hs root v n x.quant i (or_left (read_by n x.quant) _ k)) [ inl o ↦ o | inr o ↦ absurd (clash (loose hs n.id x.quant) o (none x.quant)) ]
]

-- ---- expressions without nodes

no-node : (zs : List QuantNode) → ((r : ℕ) → list_any (is_of r) zs ≡ false) → (z : QuantNode) → In z zs → ⊥
no-node zs bare (node.Scalar r) i = clash (list_any (is_of r) zs) (any-from (is_of r) (node.Scalar r) zs i (eq-itself r)) (bare r)
no-node zs bare (node.Some r) i = clash (list_any (is_of r) zs) (any-from (is_of r) (node.Some r) zs i (eq-itself r)) (bare r)
no-node zs bare (node.Every r) i = clash (list_any (is_of r) zs) (any-from (is_of r) (node.Every r) zs i (eq-itself r)) (bare r)

module _ (n : Node) (none : (r : ℕ) → graph.nodes_in r n ≡ false) where
  none-parts : (r : ℕ) → (list_any (names r) n.parts.head ≡ false) × (list_any (names_cond r) n.parts.conds.items ≡ false)
  none-parts r = or_parts (list_any (names r) n.parts.head) (list_any (names_cond r) n.parts.conds.items) (none r)

  pub bare-cell : (x : Term) → In x n.parts.head → (z : QuantNode) → In z (nodes_in x) → ⊥
  bare-cell x i = no-node (nodes_in x) (λ r. term-nodes r x ∙ any-none (names r) x n.parts.head (none-parts r).0 i)

  pub bare-on : (p : Cond) → In p n.parts.conds.items → (z : QuantNode) → In z (nodes_in_cond p) → ⊥
  bare-on p i = no-node (nodes_in_cond p) (λ r. cond-nodes r p ∙ any-none (names_cond r) p n.parts.conds.items (none-parts r).1 i)

-- ---- columns of p from behind the first w

pub later-free : (ef : ℕ → ℕ → Bool) (cl one : ℕ → Bool) (two : Bool) (p w v k : ℕ) → (1 ≤ k → k ≤ v → ef p (w + k) ≡ true) → free_with ef cl one two (cell_at k (columns_from p (suc w) v)) ≡ true
later-free ef cl one two p w v zero h = refl
later-free ef cl one two p w v (suc k) h = at (suc w) v k (λ l. subst (λ n. ef p n ≡ true) (let z : w + suc k ≡ suc w + k = omega arith in z) (h (omega arith) (omega (arith, l))))
  where
    at : (s v k : ℕ) → (k < v → ef p (s + k) ≡ true) → free_with ef cl one two (get_or (columns_from p s v) k null_int) ≡ true
    at s zero k h = refl
    at s (suc v) zero h = subst (λ n. ef p n ≡ true) (let z : s + 0 ≡ s = omega arith in z) (h (omega arith))
    at s (suc v) (suc k) h = at (suc s) v k (λ l. subst (λ n. ef p n ≡ true) (let z : s + suc k ≡ suc s + k = omega arith in z) (h (omega (arith, l))))

-- what is known of a column before these cells are put in
abbrev pub ahead : (ℕ → ℕ → Bool) → (ℕ → Bool) → (ℕ → Bool) → ℕ → List Term → ℕ → ℕ → Bool
ahead ef cl one q cells r k = free_with ef cl one false (column_substituted q cells r k)

-- another's column
ahead-other : (ef : ℕ → ℕ → Bool) (cl one : ℕ → Bool) (q : ℕ) (cells : List Term) (r k : ℕ) → (r == q) ≡ false → ef r k ≡ true → ahead ef cl one q cells r k ≡ true
ahead-other ef cl one q cells r k f h = ap (λ b. free_with ef cl one false (cond b (cell_at k cells) (col r k))) f ∙ h

-- and one in whose place a column stands
ahead-later : (ef : ℕ → ℕ → Bool) (cl one : ℕ → Bool) (q p w v k : ℕ) → (1 ≤ k → k ≤ v → ef p (w + k) ≡ true) → ahead ef cl one q (columns_from p (suc w) v) q k ≡ true
ahead-later ef cl one q p w v k h = ap (λ b. free_with ef cl one false (cond b (cell_at k (columns_from p (suc w) v)) (col q k))) (eq-itself q) ∙ later-free ef cl one false p w v k h

-- ---- the left operand is led

module _ (a l r w v u : ℕ) (c : Node) (ok : MayLead a l r w v u c) (ns : has_no_single c ≡ true) (ef ef' : ℕ → ℕ → Bool) (cl cl' one one' : ℕ → Bool)
    (of_a : (k : ℕ) → 1 ≤ k → k ≤ w → ef a k ≡ true → ef' l k ≡ true) (of_l : (k : ℕ) → 1 ≤ k → k ≤ v → ef l k ≡ true → ef' l (w + k) ≡ true) (of_r : (k : ℕ) → ef r k ≡ true → ef' r k ≡ true) where
  abbrev mid : ℕ → ℕ → Bool
  mid = ahead ef' cl' one' a (columns_from l 1 w)

  abbrev cells : List Term
  cells = columns_from l (suc w) v

  heads : list_all single_free c.parts.head ≡ true
  heads = (and_parts (list_all single_free c.parts.head) (list_all single_free_cond c.parts.conds.items) ns).0

  conds : list_all single_free_cond c.parts.conds.items ≡ true
  conds = (and_parts (list_all single_free c.parts.head) (list_all single_free_cond c.parts.conds.items) ns).1

  named : (x : Column) → In x (columns_of c) → (x.quant ≡ a) ⊎ ((x.quant ≡ l) ⊎ (x.quant ≡ r))
  named x j = elim (or_cases (read_by c x.quant) (graph.nodes_in x.quant c) (named-split x.quant c (listed-named c x j))) [ inl k ↦ ok.reads x.quant k | inr k ↦ absurd (clash (graph.nodes_in x.quant c) k (ok.none x.quant)) ]

  mid-a : (k : ℕ) → ef a k ≡ true → free_with mid cl' one' false (column_substituted l cells a k) ≡ true
  mid-a k h = ahead-other mid cl' one' l cells a k ok.al (ahead-later ef' cl' one' a l 0 w k (λ s t. subst (λ n. ef' l n ≡ true) (let z : k ≡ 0 + k = omega arith in z) (of_a k s t h)))

  mid-l : (k : ℕ) → ef l k ≡ true → free_with mid cl' one' false (column_substituted l cells l k) ≡ true
  mid-l k h = ahead-later mid cl' one' l l w v k (λ s t. ahead-other ef' cl' one' a (columns_from l 1 w) l (w + k) (eq-false-sym a l ok.al) (of_l k s t h))

  mid-r : (k : ℕ) → ef r k ≡ true → free_with mid cl' one' false (column_substituted l cells r k) ≡ true
  mid-r k h = ahead-other mid cl' one' l cells r k (eq-false-sym l r ok.lr) (ahead-other ef' cl' one' a (columns_from l 1 w) r k (eq-false-sym a r ok.ar) (of_r k h))

  columns : (x : Column) → In x (columns_of c) → ef x.quant x.place ≡ true → free_with mid cl' one' false (column_substituted l cells x.quant x.place) ≡ true
  columns x j h = elim (named x j) [
    | inl e ↦ subst (λ q. free_with mid cl' one' false (column_substituted l cells q x.place) ≡ true) (sym e) (mid-a x.place (subst (λ q. ef q x.place ≡ true) e h))
    | inr e ↦ elim e [
      | inl e ↦ subst (λ q. free_with mid cl' one' false (column_substituted l cells q x.place) ≡ true) (sym e) (mid-l x.place (subst (λ q. ef q x.place ≡ true) e h))
      | inr e ↦ subst (λ q. free_with mid cl' one' false (column_substituted l cells q x.place) ≡ true) (sym e) (mid-r x.place (subst (λ q. ef q x.place ≡ true) e h))
    ]
  ]

  abbrev first : Node
  first = put_node l (columns_from l (suc w) v) c

  none-first : (z : ℕ) → graph.nodes_in z (put_node l (columns_from l (suc w) v) c) ≡ false
  none-first = none-put l l (suc w) v c ok.none

  pub led-cell : (x : Term) → In x c.parts.head → free_with ef cl one false x ≡ true → free_with ef' cl' one' false (led_term a l w v x) ≡ true
  led-cell x i h =
      let s = all-in single_free x c.parts.head heads i in
      put-free mid ef' cl' cl' one' one' a (columns_from l 1 w) false false (substituted l cells x) (λ y j t. t)
      (λ z j. absurd (bare-cell first none-first (substituted l cells x) (map-in (substituted l cells) x c.parts.head i) z j))
      (single-put l cells (columns-single l (suc w) v) x s)
      (put-free ef mid cl cl' one one' l cells false false x (λ y j. columns y (in-left y (flat_map columns_in c.parts.head) (flat_map columns_in_cond c.parts.conds.items) (flat-in columns_in x y c.parts.head i j)))
      (λ z j. absurd (bare-cell c ok.none x i z j)) s h)

  pub led-on : (p : Cond) → In p c.parts.conds.items → cond_with ef cl one false p ≡ true → cond_with ef' cl' one' false (led_cond a l w v p) ≡ true
  led-on p i h =
      let s = all-in single_free_cond p c.parts.conds.items conds i in
      put-cond mid ef' cl' cl' one' one' a (columns_from l 1 w) false false (substituted_cond l cells p) (λ y j t. t)
      (λ z j. absurd (bare-on first none-first (substituted_cond l cells p) (map-in (substituted_cond l cells) p c.parts.conds.items i) z j))
      (single-put-cond l cells (columns-single l (suc w) v) p s)
      (put-cond ef mid cl cl' one one' l cells false false p (λ y j. columns y (in-right y (flat_map columns_in c.parts.head) (flat_map columns_in_cond c.parts.conds.items) (flat-in columns_in_cond p y c.parts.conds.items i j)))
      (λ z j. absurd (bare-on c ok.none p i z j)) s h)

  pub led-cell-single : (x : Term) → In x c.parts.head → single_free (led_term a l w v x) ≡ true
  led-cell-single x i = single-put a (columns_from l 1 w) (columns-single l 1 w) (substituted l cells x) (single-put l cells (columns-single l (suc w) v) x (all-in single_free x c.parts.head heads i))

  pub led-on-single : (p : Cond) → In p c.parts.conds.items → single_free_cond (led_cond a l w v p) ≡ true
  led-on-single p i = single-put-cond a (columns_from l 1 w) (columns-single l 1 w) (substituted_cond l cells p) (single-put-cond l cells (columns-single l (suc w) v) p (all-in single_free_cond p c.parts.conds.items conds i))

-- ---- and the right one

module _ (a l r w v u : ℕ) (c : Node) (ok : MayLead a l r w v u c) (ns : has_no_single c ≡ true) (ef ef' : ℕ → ℕ → Bool) (cl cl' one one' : ℕ → Bool)
    (of_a : (k : ℕ) → 1 ≤ k → k ≤ w → ef a k ≡ true → ef' l k ≡ true) (of_l : (k : ℕ) → 1 ≤ k → k ≤ v → ef l k ≡ true → ef' l (w + k) ≡ true) (of_r : (k : ℕ) → 1 ≤ k → k ≤ u → ef r k ≡ true → ef' r (w + k) ≡ true) where
  abbrev last : List Term
  last = columns_from r (suc w) u

  abbrev pen : ℕ → ℕ → Bool
  pen = ahead ef' cl' one' r (columns_from r (suc w) u)

  pen-a : (k : ℕ) → 1 ≤ k → k ≤ w → ef a k ≡ true → pen l k ≡ true
  pen-a k s t h = ahead-other ef' cl' one' r last l k ok.lr (of_a k s t h)

  pen-l : (k : ℕ) → 1 ≤ k → k ≤ v → ef l k ≡ true → pen l (w + k) ≡ true
  pen-l k s t h = ahead-other ef' cl' one' r last l (w + k) ok.lr (of_l k s t h)

  pen-r : (k : ℕ) → ef r k ≡ true → pen r k ≡ true
  pen-r k h = ahead-later ef' cl' one' r r w u k (λ s t. of_r k s t h)

  pub both-cell : (x : Term) → In x c.parts.head → free_with ef cl one false x ≡ true → free_with ef' cl' one' false (both_term a l w v r u x) ≡ true
  both-cell x i h =
      put-free pen ef' cl' cl' one' one' r last false false (led_term a l w v x) (λ y j t. t)
      (λ z j. absurd (bare-cell (led.led a l r w v u c ok) (led.none-led a l r w v u c ok) (led_term a l w v x) (map-in (substituted a (columns_from l 1 w)) (substituted l (columns_from l (suc w) v) x) (map (substituted l (columns_from l (suc w) v)) c.parts.head) (map-in (substituted l (columns_from l (suc w) v)) x c.parts.head i)) z j))
      (led-cell-single a l r w v u c ok ns ef pen cl cl' one one' pen-a pen-l pen-r x i)
      (led-cell a l r w v u c ok ns ef pen cl cl' one one' pen-a pen-l pen-r x i h)

  pub both-on : (p : Cond) → In p c.parts.conds.items → cond_with ef cl one false p ≡ true → cond_with ef' cl' one' false (both_cond a l w v r u p) ≡ true
  both-on p i h =
      put-cond pen ef' cl' cl' one' one' r last false false (led_cond a l w v p) (λ y j t. t)
      (λ z j. absurd (bare-on (led.led a l r w v u c ok) (led.none-led a l r w v u c ok) (led_cond a l w v p) (map-in (substituted_cond a (columns_from l 1 w)) (substituted_cond l (columns_from l (suc w) v) p) (map (substituted_cond l (columns_from l (suc w) v)) c.parts.conds.items) (map-in (substituted_cond l (columns_from l (suc w) v)) p c.parts.conds.items i)) z j))
      (led-on-single a l r w v u c ok ns ef pen cl cl' one one' pen-a pen-l pen-r p i)
      (led-on a l r w v u c ok ns ef pen cl cl' one one' pen-a pen-l pen-r p i h)

  pub both-cell-single : (x : Term) → In x c.parts.head → single_free (both_term a l w v r u x) ≡ true
  both-cell-single x i = single-put r last (columns-single r (suc w) u) (led_term a l w v x) (led-cell-single a l r w v u c ok ns ef pen cl cl' one one' pen-a pen-l pen-r x i)

  pub both-on-single : (p : Cond) → In p c.parts.conds.items → single_free_cond (both_cond a l w v r u p) ≡ true
  both-on-single p i = single-put-cond r last (columns-single r (suc w) u) (led_cond a l w v p) (led-on-single a l r w v u c ok ns ef pen cl cl' one one' pen-a pen-l pen-r p i)

-- ---- lists

pub all-mapped : {X Y : Type 0} (f : X → Y) (p : Y → Bool) (xs : List X) → ((x : X) → In x xs → p (f x) ≡ true) → list_all p (map f xs) ≡ true
all-mapped f p [] h = refl
all-mapped f p (x ∷ xs) h = and_from (p (f x)) (list_all p (map f xs)) (h x (inl refl)) (all-mapped f p xs (λ y i. h y (inr i)))

-- columns of two quantifiers are the same
pub same-each-free : (ef : ℕ → ℕ → Bool) (cl one : ℕ → Bool) (l r k w : ℕ) → ((j : ℕ) → k ≤ j → j < k + w → (ef l j ≡ true) × (ef r j ≡ true)) → list_all (cond_with ef cl one false) (same_each l r k w) ≡ true
same-each-free ef cl one l r k zero h = refl
same-each-free ef cl one l r k (suc w) h =
    let x = h k (omega arith) (omega arith) in
    and_from (ef l k && ef r k) (list_all (cond_with ef cl one false) (same_each l r (suc k) w)) (and_from (ef l k) (ef r k) x.0 x.1)
    (same-each-free ef cl one l r (suc k) w (λ j s t. h j (omega (arith, s)) (omega (arith, t))))

pub same-each-single : (l r k w : ℕ) → list_all single_free_cond (same_each l r k w) ≡ true
same-each-single l r k zero = refl
same-each-single l r k (suc w) = same-each-single l r (suc k) w
