-- An outer join over two closed boxes: what is asked of it where it is made.
use Rattle.std.proofs.Common.{ℕ, ◌==◌, ◌≡◌, ◌≤◌, ◌&&◌, ◌||◌, nat_le, nat_lt, Bool, true, false, List, [], ◌∷◌, map, Some, refl, sym, ap, subst, ◌∙◌, eqb-true, ◌⊎◌, inl, inr, take, arith}
use Rattle.std.specs.List.{flat_map, list_all, list_any}
use Rattle.std.proofs.lemmas.Bool.{and_from, cases_Bool, or_cases, or_from, or_left, or_right}
use Rattle.qgm_core.specs.Boxes.{Ordered, ids_in, is_quant, owns, width}
use Rattle.qgm_core.specs.Edits.{range}
use Rattle.qgm_core.specs.Free.{named_by}
use Rattle.qgm_core.specs.Kinds.{is_S, is_permit, is_plain}
use Rattle.list_laws.specs.Lists.{In, holds, times}
use Rattle.qgm_core.specs.declared.kinds.BoxKind.TheVariants.{OuterJoin}
use Rattle.qgm_core.specs.declared.kinds.QuantKind.TheVariants.{F}
use Rattle.qgm_core.specs.declared.node.Node.{Node}
use Rattle.qgm_core.specs.declared.owned.OwnedQuant.{OwnedQuant}
use Rattle.qgm_wellformed.specs.Columns.{box_under, columns_fit, columns_of, fits, places_fit}
use Rattle.qgm_wellformed.specs.Shapes as shape
use Rattle.qgm_wellformed.specs.Shapes.{head_is_own, is_column, is_outer_join, is_scalar, is_unfolded, kind_fits, node_fits, nodes_of}
use Rattle.qgm_wellformed.specs.Types.{cond_fits, is_known, term_type, types_by}
use Rattle.qgm_edit_laws.specs.Checked.{own_seen}
use Rattle.qgm_edit_laws.specs.Graph.{ArmsBy, BareBy, Sound, nodes_in, reads_in}
use Rattle.qgm_edit_laws.specs.Rebuilds.{HasForm, MadeIn}
use Rattle.qgm_edit_laws.specs.TypesBy.{Types, arms_by, via}
use Rattle.qgm_edit_laws.proofs.AnyPut.{conds-names, heads-names}
use Rattle.qgm_edit_laws.proofs.OwnShapes.{rows-placed}
use Rattle.qgm_edit_laws.proofs.Ranks.{same-box}
use Rattle.qgm_edit_laws.proofs.Read.{is_at, is_of, named-split, nodes-listed, unbound-reads}
use Rattle.qgm_edit_laws.proofs.Rebuilt.{one-quant}
use Rattle.qgm_edit_laws.proofs.ShapeParts.{shape-from}
use Rattle.qgm_edit_laws.proofs.TypedKept.{found-under}
use Rattle.qgm_meaning.specs.Scope.{read_by}
use Rattle.qgm_meaning.specs.Searches.{binds, binds_cond, names, names_cond}
use Rattle.qgm_terms.specs.Named.{names_in, names_in_cond}
use Rattle.qgm_terms.specs.declared.named.Column.{Column}
use Rattle.qgm_terms.specs.declared.named.QuantNode.{QuantNode}
use Rattle.qgm_terms.specs.declared.named.QuantNode.TheVariants as node
use Rattle.rule_magic.proofs.PairFormed.{known-map, le-from, lt-from}
use Rattle.list_laws.proofs.Booleans.{clash}
use Rattle.list_laws.proofs.Membership.{all-from, any-from, eq-itself, in-holds, in-left, in-right}

-- box n of these is an outer join of left by l and right by r: it reads columns of these alone that are there, and has no node
pub record IsOuterOver (hs : List Node) (look : ℕ → ℕ → Bool) (n left right : Node) (l r : ℕ) : Type 0 where
  pub ordered : Ordered hs
  pub once : (p : ℕ) → times p (ids_in hs) ≤ 1
  pub in_n : In n hs
  pub in_left : In left hs
  pub in_right : In right hs
  pub closed_left : (p : ℕ) → look left.id p ≡ false
  pub closed_right : (p : ℕ) → look right.id p ≡ false
  pub nothing : (p : ℕ) → look n.id p ≡ false
  pub an_outer : n.parts.kind ≡ OuterJoin
  pub quants : n.quants ≡ range l F left.id ∷ (range r F right.id ∷ [])
  pub reads : (p : ℕ) → read_by n p ≡ true → ((l == p) ≡ true) ⊎ ((r == p) ≡ true)
  pub places : (p k : ℕ) → reads_in p k n ≡ true → (((l == p) ≡ true) × ((1 ≤ k) × (k ≤ width left))) ⊎ (((r == p) ≡ true) × ((1 ≤ k) × (k ≤ width right)))
  pub none : (p : ℕ) → nodes_in p n ≡ false

module _ (hs : List Node) (look : ℕ → ℕ → Bool) (n left right : Node) (l r : ℕ) (is : IsOuterOver hs look n left right l r) where
  of-two : (P : OwnedQuant → Type 0) → P (range l F left.id) → P (range r F right.id) → (s : OwnedQuant) → In s n.quants → P s
  of-two P x y s j = elim (subst (λ (z : List OwnedQuant). In s z) is.quants j) [ inl e ↦ subst P e x | inr k ↦ elim k [ inl e ↦ subst P e y | inr z ↦ elim z [ ] ] ]

  under-two : (P : Node → Type 0) → P left → P right → (u : Node) (s : OwnedQuant) → In s n.quants → In u hs → u.id ≡ s.over → P u
  under-two P x y u s j i e = of-two (λ (s : OwnedQuant). u.id ≡ s.over → P u) (λ e. subst P (same-box hs left u is.ordered is.in_left i (sym e)) x) (λ e. subst P (same-box hs right u is.ordered is.in_right i (sym e)) y) s j e

  in-l : In (range l F left.id) n.quants
  in-l = subst (λ (z : List OwnedQuant). In (range l F left.id) z) (sym is.quants) (inl refl)

  in-r : In (range r F right.id) n.quants
  in-r = subst (λ (z : List OwnedQuant). In (range r F right.id) z) (sym is.quants) (inr (inl refl))

  mine-owns : (p : ℕ) → ((l == p) ≡ true) ⊎ ((r == p) ≡ true) → ((l == p) || ((r == p) || false)) ≡ true
  mine-owns p h = elim h [ inl e ↦ or_left (l == p) ((r == p) || false) e | inr e ↦ or_right (l == p) ((r == p) || false) (or_left (r == p) false e) ]

  seen : (p : ℕ) → ((l == p) ≡ true) ⊎ ((r == p) ≡ true) → own_seen n.parts.kind n p ≡ true
  seen p h = subst (λ k. own_seen k n p ≡ true) (sym is.an_outer) (subst (λ (z : List OwnedQuant). list_any (is_quant p) (take 2 z) ≡ true) (sym is.quants) (mine-owns p h))

  pub outer-made : MadeIn hs look n
  outer-made = record {
    scoped = record {
      under = λ done s rest e p h. absurd (of-two (λ (s : OwnedQuant). look s.over p ≡ true → ⊥) (λ h. clash (look left.id p) h (is.closed_left p)) (λ h. clash (look right.id p) h (is.closed_right p)) s
          (subst (λ (z : List OwnedQuant). In s z) (sym e) (in-right s done (s ∷ rest) (inl refl))) h);
      own = λ p h. or_left (own_seen n.parts.kind n p) (look n.id p) (seen p (is.reads p h));
    };
    settled = λ p o. is.nothing p;
    asks = λ p h. absurd (clash (look n.id p) h (is.nothing p));
    fits = λ p k h o s u i j e iu f. elim (is.places p k h) [
      | inl z ↦ (
          let same : range l F left.id ≡ s = one-quant hs is.once (range l F left.id) s (n, (is.in_n, in-l)) (o, (i, j)) (eqb-true l p z.0 ∙ sym e) in
          let to : left ≡ u = same-box hs left u is.ordered is.in_left iu (ap (λ (v : OwnedQuant). v.over) same ∙ sym f) in
          (z.1.0, subst (λ (v : Node). k ≤ width v) to z.1.1))
      | inr z ↦ (
          let same : range r F right.id ≡ s = one-quant hs is.once (range r F right.id) s (n, (is.in_n, in-r)) (o, (i, j)) (eqb-true r p z.0 ∙ sym e) in
          let to : right ≡ u = same-box hs right u is.ordered is.in_right iu (ap (λ (v : OwnedQuant). v.over) same ∙ sym f) in
          (z.1.0, subst (λ (v : Node). k ≤ width v) to z.1.1))
    ];
    own_nodes = λ p h. absurd (clash (nodes_in p n) h (is.none p));
    bare = subst (λ k. BareBy k n) (sym is.an_outer) tt;
    arms = λ u s j i e. subst (λ k. ArmsBy k (width u) (width n)) (sym is.an_outer) tt;
  }

  module _ (root : ℕ) (sound : Sound hs root) (T : Types) where
    pub under-l : box_under hs l ≡ Some left
    under-l = found-under hs root sound l (record { owner = n; quant = range l F left.id; box = left; owner_in = is.in_n; quant_in = in-l; is_q = refl; box_in = is.in_left; is_over = refl })

    pub under-r : box_under hs r ≡ Some right
    under-r = found-under hs root sound r (record { owner = n; quant = range r F right.id; box = right; owner_in = is.in_n; quant_in = in-r; is_q = refl; box_in = is.in_right; is_over = refl })

    module _ (typed : T n.id ≡ map (term_type (via T hs)) n.parts.head) (known : list_all is_known (T n.id) ≡ true) (on : list_all (cond_fits (via T hs)) n.parts.conds.items ≡ true) (columns : list_all is_column n.parts.head ≡ true) (unfolded : is_unfolded n ≡ true) (plain : is_plain n.parts.role ≡ true)
        (seen_n : is_permit n.parts.distinct ≡ false) (seen_left : is_permit left.parts.distinct ≡ false) (seen_right : is_permit right.parts.distinct ≡ false) (scalar : is_scalar hs n.id ≡ true → nat_lt 0 (width n) ≡ true) where
      no-binds : (p : ℕ) → (list_any (binds p) n.parts.head || list_any (binds_cond p) n.parts.conds.items) ≡ false
      no-binds p = or_from (list_any (binds p) n.parts.head) (list_any (binds_cond p) n.parts.conds.items)
          (elim (cases_Bool (list_any (binds p) n.parts.head)) [ inr f ↦ f | inl e ↦ absurd (clash (nodes_in p n) (or_left (list_any (names p) n.parts.head) (list_any (names_cond p) n.parts.conds.items) (heads-names p n.parts.head e)) (is.none p)) ])
          (elim (cases_Bool (list_any (binds_cond p) n.parts.conds.items)) [ inr f ↦ f | inl e ↦ absurd (clash (nodes_in p n) (or_right (list_any (names p) n.parts.head) (list_any (names_cond p) n.parts.conds.items) (conds-names p n.parts.conds.items e)) (is.none p)) ])

      within : (u : Node) (q p k : ℕ) → (q == p) ≡ true → box_under hs q ≡ Some u → 1 ≤ k → k ≤ width u → fits k (box_under hs p) ≡ true
      within u q p k e f lo hi = ap (fits k) (subst (λ i. box_under hs i ≡ Some u) (eqb-true q p e) f) ∙ and_from (nat_lt 0 k) (nat_le k (width u)) (lt-from 0 k (omega (arith, lo))) (le-from k (width u) hi)

      columns-there : columns_fit hs n ≡ true
      columns-there = and_from (places_fit n.parts.kind) (list_all (λ (y : Column). fits y.place (box_under hs y.quant)) (columns_of n)) (ap places_fit is.an_outer)
          (all-from (λ (y : Column). fits y.place (box_under hs y.quant)) (columns_of n) (λ y i. (
          let h = unbound-reads y.quant y.place n (no-binds y.quant) (any-from (is_at y.quant y.place) y (columns_of n) i (and_from (y.quant == y.quant) (y.place == y.place) (eq-itself y.quant) (eq-itself y.place))) in
          elim (is.places y.quant y.place h) [ inl z ↦ within left l y.quant y.place z.0 under-l z.1.0 z.1.1 | inr z ↦ within right r y.quant y.place z.0 under-r z.1.0 z.1.1 ])))

      named-own : (p : ℕ) → holds p (named_by n) ≡ true → owns p n ≡ true
      named-own p h = elim (or_cases (read_by n p) (nodes_in p n) (named-split p n h)) [
        | inl y ↦ subst (λ (z : List OwnedQuant). list_any (is_quant p) z ≡ true) (sym is.quants) (mine-owns p (is.reads p y))
        | inr y ↦ absurd (clash (nodes_in p n) y (is.none p))
      ]

      no-nodes : (p : ℕ) → (y : QuantNode) → In y (nodes_of n) → is_of p y ≡ true → ⊥
      no-nodes p y i h = clash (nodes_in p n) (sym (nodes-listed p n) ∙ any-from (is_of p) y (nodes_of n) i h) (is.none p)

      each-node : (y : QuantNode) → In y (nodes_of n) → ⊥
      each-node (node.Scalar p) i = no-nodes p (node.Scalar p) i (eq-itself p)
      each-node (node.Some p) i = no-nodes p (node.Some p) i (eq-itself p)
      each-node (node.Every p) i = no-nodes p (node.Every p) i (eq-itself p)

      shaped : is_outer_join n ≡ true
      shaped =
          let A : Bool = shape.are_F 2 n.quants in
          let B : Bool = list_all is_column n.parts.head in
          let a : A ≡ true = ap (shape.are_F 2) is.quants in
          let own : head_is_own n ≡ true = all-from (λ p. owns p n) (flat_map names_in n.parts.head) (λ p i. named-own p (in-holds p (named_by n) (in-left p (flat_map names_in n.parts.head) (flat_map names_in_cond n.parts.conds.items) i))) in
          and_from (A && B && head_is_own n && is_unfolded n) (is_plain n.parts.role) (and_from (A && B && head_is_own n) (is_unfolded n) (and_from (A && B) (head_is_own n) (and_from A B a columns) own) unfolded) plain

      pub outer-form : HasForm hs root T n
      outer-form = record {
        columns_typed = typed ∙ sym (ap (λ k. types_by (via T hs) k n.parts.head) is.an_outer);
        agrees = and_from (list_all (λ y. is_known (term_type (via T hs) y)) n.parts.head) (list_all (cond_fits (via T hs)) n.parts.conds.items && arms_by T n.parts.kind n.quants)
            (known-map (via T hs) n.parts.head ∙ ap (list_all is_known) (sym typed) ∙ known)
            (and_from (list_all (cond_fits (via T hs)) n.parts.conds.items) (arms_by T n.parts.kind n.quants) on (ap (λ k. arms_by T k n.quants) is.an_outer));
        columns = columns-there;
        shape = shape-from root hs n (record {
          kind = ap (kind_fits root hs n) is.an_outer ∙ shaped;
          nodes = all-from (node_fits n.quants) (nodes_of n) (λ y i. absurd (each-node y i));
          placed = rows-placed n (ap shape.all_F is.quants);
          scalar = scalar;
        });
        hidden = λ p. absurd (clash (is_permit n.parts.distinct) p seen_n);
        unseen = λ s u j k i e. under-two (λ (z : Node). is_permit z.parts.distinct ≡ false) seen_left seen_right u s j i e;
        scalars = λ s u j k i e. absurd (of-two (λ (s : OwnedQuant). is_S s.kind ≡ true → ⊥) (λ h. (let z : ⊥ = cc in z)) (λ h. (let z : ⊥ = cc in z)) s j k);
      }
