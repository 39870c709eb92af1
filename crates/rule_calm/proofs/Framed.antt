-- Settled graphs of which a few boxes change: what is inferred of the others still is, and they stay settled.
use Rattle.std.proofs.Common.{ℕ, ◌==◌, ◌≡◌, ◌&&◌, ◌||◌, nat_le, nat_lt, cond, not, Bool, true, false, List, [], ◌∷◌, Option, Some, None, refl, sym, ap, subst, ◌∙◌, eqb-true, ◌⊎◌, inl, inr}
use Rattle.std.specs.List.{list_all}
use Rattle.std.proofs.lemmas.Bool.{and_from, and_parts, cases_Bool, or_cases, or_left, or_right}
use Rattle.list_laws.specs.Lists.{In, first, holds}
use Rattle.list_laws.proofs.Booleans.{clash}
use Rattle.list_laws.proofs.Membership.{all-from, all-in, any-from, any-in, eq-itself}
use Rattle.qgm_core.specs.Boxes.{Ordered, is_box, is_quant, owns, width}
use Rattle.qgm_core.specs.Free.{named_by}
use Rattle.qgm_core.specs.Kinds.{is_A, is_E, is_F, is_S, is_magic}
use Rattle.qgm_core.specs.declared.kinds.BoxKind.{BoxKind}
use Rattle.qgm_core.specs.declared.kinds.QuantKind.{QuantKind}
use Rattle.qgm_core.specs.declared.node.Node.{Node}
use Rattle.qgm_core.specs.declared.owned.OwnedQuant.{OwnedQuant}
use Rattle.qgm_terms.specs.Terms.{Cond, Term}
use Rattle.qgm_terms.specs.declared.named.Column.{Column}
use Rattle.qgm_terms.specs.declared.named.QuantNode.{QuantNode}
use Rattle.qgm_terms.specs.declared.named.QuantNode.TheVariants as node
use Rattle.qgm_wellformed.specs.Columns.{columns_of}
use Rattle.qgm_wellformed.specs.Shapes.{is_among, node_fits, nodes_of}
use Rattle.qgm_edit_laws.specs.Graph.{Sound}
use Rattle.qgm_edit_laws.specs.Rebuilds.{IsOwned}
use Rattle.qgm_edit_laws.proofs.Levels.{owner-of, some-in}
use Rattle.qgm_edit_laws.proofs.Read.{column-named, is_at}
use Rattle.qgm_edit_laws.proofs.Scope.{in-first}
use Rattle.qgm_edit_laws.proofs.TypedKept.{found}
use Rattle.qgm_props.specs.Calm.{calm_column, calm_magic, calm_scalar, clean_below, is_closed}
use Rattle.qgm_props.specs.Laws.{Tells}
use Rattle.qgm_props.specs.Inferred.{Closed, Fact, Facts, all_places, all_under, all_under_F, at_most_one, at_most_one_by, clean, clean_by, cond_free, error_free, error_free_under, exactly_one, exactly_one_by, free_by, inferred_once, is_free, no_cond, not_null, of_box, of_over, of_quant, says, under_first}
use Rattle.qgm_props.proofs.Monotone.{least, once-below}
use Rattle.rule_calm.specs.Settled.{IsFirm, SettledBox, grouped, has_no_single, joined}
use Rattle.rule_calm.proofs.FreeTerms.{SameNode, SameNodes, cl_of, ef_of, one_of}
use Rattle.rule_calm.proofs.SameFacts.{OfOvers, cell-same, clean-same, cond-same, free-same, places-of}

-- ---- facts to which no sentence adds

module _ (hs : List Node) (o : Ordered hs) (known : Facts) (closed : Closed hs known) where
  at-box : {X : Type 0} (none : X) (said : Node → X) (n : Node) → In n hs → of_box none said (first (is_box n.id) hs) ≡ said n
  at-box none said n i = ap (of_box none said) (in-first n hs o i)

  pub known-clean : (n : Node) → In n hs → clean_by hs known n.parts.kind n ≡ true → known.clean n.id ≡ true
  known-clean n i h = closed (clean n.id) (at-box false (λ m. clean_by hs known m.parts.kind m) n i ∙ h)

  pub known-free : (n : Node) → In n hs → (k : ℕ) → (nat_lt 0 k && nat_le k (width n)) ≡ true → free_by hs known n.parts.kind n k ≡ true → known.error_free n.id k ≡ true
  known-free n i k w h = closed (error_free n.id k) (at-box false (λ m. (nat_lt 0 k && nat_le k (width m)) && free_by hs known m.parts.kind m k) n i ∙ and_from (nat_lt 0 k && nat_le k (width n)) (free_by hs known n.parts.kind n k) w h)

  pub known-exactly : (n : Node) → In n hs → exactly_one_by hs known n.parts.kind n ≡ true → known.exactly_one n.id ≡ true
  known-exactly n i h = closed (exactly_one n.id) (at-box false (λ m. exactly_one_by hs known m.parts.kind m) n i ∙ h)

  -- a firm box has exactly one row
  pub firm-exactly : (b : ℕ) → IsFirm hs b → known.exactly_one b ≡ true
  firm-exactly _ (grouped n r i j k) = known-exactly n i (subst (λ (z : BoxKind). exactly_one_by hs known z n ≡ true) (sym k) (some n.quants j))
    where
      some : (rs : List OwnedQuant) → In r rs → ((0 == 0) && under_first (λ b. true) rs) ≡ true
      some [] j = elim j [ ]
      some (s ∷ rs) j = refl
  firm-exactly _ (joined n i k p c under shut) = known-exactly n i (subst (λ (z : BoxKind). exactly_one_by hs known z n ≡ true) (sym k)
      (and_from (all_under_F known.exactly_one n.quants) (no_cond n.parts.conds.items) (each n.quants (λ r j f. firm-exactly r.over (under r j f))) (ap no_cond c)))
    where
      each : (rs : List OwnedQuant) → ((r : OwnedQuant) → In r rs → is_F r.kind ≡ true → known.exactly_one r.over ≡ true) → all_under_F known.exactly_one rs ≡ true
      each [] h = refl
      each (r ∷ rs) h = one (is_F r.kind) refl (each rs (λ s j. h s (inr j)))
        where
          one : (b : Bool) → is_F r.kind ≡ b → all_under_F known.exactly_one rs ≡ true → cond b (known.exactly_one r.over && all_under_F known.exactly_one rs) (all_under_F known.exactly_one rs) ≡ true
          one true e i = and_from (known.exactly_one r.over) (all_under_F known.exactly_one rs) (h r (inl refl) e) i
          one false e i = i

  pub firm-single : (b : ℕ) → IsFirm hs b → known.at_most_one b ≡ true
  firm-single b f = at-most b (firm-exactly b f) (held b f)
    where
      held : (b : ℕ) → IsFirm hs b → (n : Node) × (In n hs × (n.id ≡ b))
      held _ (grouped n r i j k) = (n, (i, refl))
      held _ (joined n i k p c under shut) = (n, (i, refl))

      at-most : (b : ℕ) → known.exactly_one b ≡ true → (n : Node) × (In n hs × (n.id ≡ b)) → known.at_most_one b ≡ true
      at-most b e m = subst (λ z. known.at_most_one z ≡ true) m.1.1 (closed (at_most_one m.0.id) (at-box false (λ x. known.exactly_one m.0.id || at_most_one_by hs known x.parts.kind x) m.0 m.1.0 ∙ or_left (known.exactly_one m.0.id) (at_most_one_by hs known m.0.parts.kind m.0) (subst (λ z. known.exactly_one z ≡ true) (sym m.1.1) e)))

-- ---- facts of before by facts of after

-- to what is told of boxes no sentence adds
pub told-closed : (ns : List Node) (known : Facts) → Tells known ns → Closed ns known
told-closed ns known tells fact h = (tells fact).1 (least ns known (λ x s. (tells x).0 s) fact h)

module _ (bs hs : List Node) (f g : Facts) (kept : ℕ → Bool) where
  -- what is known before, where it is known after too of the boxes that are kept
  abbrev pub back : Facts
  back = record {
    clean = λ b. f.clean b && cond (kept b) (g.clean b) true;
    error_free = λ b k. f.error_free b k && cond (kept b) (g.error_free b k) true;
    not_null = f.not_null;
    at_most_one = f.at_most_one;
    exactly_one = f.exactly_one;
  }

  -- no sentence adds to what is known of this box before and after
  pub record Covers (n : Node) : Type 0 where
    pub clean : kept n.id ≡ true → f.clean n.id ≡ true → clean_by bs back n.parts.kind n ≡ true → g.clean n.id ≡ true
    pub error_free : (k : ℕ) → kept n.id ≡ true → f.error_free n.id k ≡ true → (nat_lt 0 k && nat_le k (width n)) ≡ true → free_by bs back n.parts.kind n k ≡ true → g.error_free n.id k ≡ true

  -- of a box that isn't kept nothing is asked
  pub gone-covers : (n : Node) → kept n.id ≡ false → Covers n
  gone-covers n e = record { clean = λ k x h. absurd (clash (kept n.id) k e); error_free = λ c k x l h. absurd (clash (kept n.id) k e) }

  less : (fact : Fact) → says back fact ≡ true → says f fact ≡ true
  less (clean b) h = (and_parts (f.clean b) (cond (kept b) (g.clean b) true) h).0
  less (error_free b k) h = (and_parts (f.error_free b k) (cond (kept b) (g.error_free b k) true) h).0
  less (not_null b k) h = h
  less (at_most_one b) h = h
  less (exactly_one b) h = h

  both-known : (k x y : Bool) → x ≡ true → (k ≡ true → y ≡ true) → (x && cond k y true) ≡ true
  both-known true x y h w = and_from x y h (w refl)
  both-known false x y h w = and_from x true h refl

  module _ (o : Ordered bs) (tells : Tells f bs) (covers : (n : Node) → In n bs → Covers n) where
    is-there : (b : ℕ) (n : Node) → first (is_box b) bs ≡ Some n → In n bs × (n.id ≡ b)
    is-there b n e = let x = some-in (is_box b) bs n e in (x.0, eqb-true n.id b x.1)

    known-before : (fact : Fact) → says (inferred_once bs back) fact ≡ true → says f fact ≡ true
    known-before fact h = told-closed bs f tells fact (once-below bs back f less fact h)

    back-closed : Closed bs back
    back-closed (clean b) h = both-known (kept b) (f.clean b) (g.clean b) (known-before (clean b) h) (λ k. go (first (is_box b) bs) refl k (known-before (clean b) h) h)
      where
        go : (x : Option Node) → first (is_box b) bs ≡ x → kept b ≡ true → f.clean b ≡ true → of_box false (λ n. clean_by bs back n.parts.kind n) x ≡ true → g.clean b ≡ true
        go None e k y h = absurd (let z : ⊥ = cc in z)
        go (Some n) e k y h =
            let x = is-there b n e in
            subst (λ z. g.clean z ≡ true) x.1 ((covers n x.0).clean (ap kept x.1 ∙ k) (ap f.clean x.1 ∙ y) h)
    back-closed (error_free b c) h = both-known (kept b) (f.error_free b c) (g.error_free b c) (known-before (error_free b c) h) (λ k. go (first (is_box b) bs) refl k (known-before (error_free b c) h) h)
      where
        go : (x : Option Node) → first (is_box b) bs ≡ x → kept b ≡ true → f.error_free b c ≡ true → of_box false (λ n. (nat_lt 0 c && nat_le c (width n)) && free_by bs back n.parts.kind n c) x ≡ true → g.error_free b c ≡ true
        go None e k y h = absurd (let z : ⊥ = cc in z)
        go (Some n) e k y h =
            let x = is-there b n e in
            let p = and_parts (nat_lt 0 c && nat_le c (width n)) (free_by bs back n.parts.kind n c) h in
            subst (λ z. g.error_free z c ≡ true) x.1 ((covers n x.0).error_free c (ap kept x.1 ∙ k) (ap (λ z. f.error_free z c) x.1 ∙ y) p.0 p.1)
    back-closed (not_null b k) h = known-before (not_null b k) h
    back-closed (at_most_one b) h = known-before (at_most_one b) h
    back-closed (exactly_one b) h = known-before (exactly_one b) h

    pub kept-clean : (b : ℕ) → kept b ≡ true → f.clean b ≡ true → g.clean b ≡ true
    kept-clean b k x =
        let y = (and_parts (f.clean b) (cond (kept b) (g.clean b) true) ((tells (clean b)).0 x back back-closed)).1 in
        sym (ap (λ z. cond z (g.clean b) true) k) ∙ y

    pub kept-free : (b c : ℕ) → kept b ≡ true → f.error_free b c ≡ true → g.error_free b c ≡ true
    kept-free b c k x =
        let y = (and_parts (f.error_free b c) (cond (kept b) (g.error_free b c) true) ((tells (error_free b c)).0 x back back-closed)).1 in
        sym (ap (λ z. cond z (g.error_free b c) true) k) ∙ y

-- ---- boxes that stay

-- after there is a quantifier of this number over the same box
abbrev pub OwnedAs : List Node → OwnedQuant → Type 0
OwnedAs hs r = (s : OwnedQuant) × (IsOwned hs s × ((s.id ≡ r.id) × (s.over ≡ r.over)))

-- a box that stays as it was, over kept boxes: what it names ranges over the same kept box as before, and it and the boxes under it are open as before
pub record Still (bs hs : List Node) (kept : ℕ → Bool) (n : Node) : Type 0 where
  pub before : In n bs
  pub after : In n hs
  pub number : kept n.id ≡ true
  pub over : (r : OwnedQuant) → In r n.quants → kept r.over ≡ true
  pub named : (r : OwnedQuant) → holds r.id (named_by n) ≡ true → IsOwned bs r → (kept r.over ≡ true) × OwnedAs hs r
  pub shut : is_closed hs n.id ≡ is_closed bs n.id
  pub shut_over : (r : OwnedQuant) → In r n.quants → is_closed hs r.over ≡ is_closed bs r.over

-- a box over kept boxes, of which the quantifiers are there after, over the same kept boxes; so are those that it names
pub record Names (bs hs : List Node) (kept : ℕ → Bool) (n : Node) : Type 0 where
  pub before : In n bs
  pub over : (r : OwnedQuant) → In r n.quants → kept r.over ≡ true
  pub owned : (r : OwnedQuant) → In r n.quants → OwnedAs hs r
  pub named : (r : OwnedQuant) → holds r.id (named_by n) ≡ true → IsOwned bs r → (kept r.over ≡ true) × OwnedAs hs r

-- of which its own alone are asked
pub record Owning (bs hs : List Node) (kept : ℕ → Bool) (n : Node) : Type 0 where
  pub before : In n bs
  pub over : (r : OwnedQuant) → In r n.quants → kept r.over ≡ true
  pub owned : (r : OwnedQuant) → In r n.quants → OwnedAs hs r

pub names-owning : (bs hs : List Node) (kept : ℕ → Bool) (n : Node) → Names bs hs kept n → Owning bs hs kept n
names-owning bs hs kept n s = record { before = s.before; over = s.over; owned = s.owned }

pub still-names : (bs hs : List Node) (kept : ℕ → Bool) (n : Node) → Still bs hs kept n → Names bs hs kept n
still-names bs hs kept n s = record { before = s.before; over = s.over; owned = λ r i. (r, ((n, (s.after, i)), (refl, refl))); named = s.named }

-- facts of kept boxes, of the first set and of the second
pub record Carried (f g : Facts) (kept : ℕ → Bool) : Type 0 where
  pub clean : (b : ℕ) → kept b ≡ true → f.clean b ≡ true → g.clean b ≡ true
  pub error_free : (b k : ℕ) → kept b ≡ true → f.error_free b k ≡ true → g.error_free b k ≡ true

-- what is known of both is carried
pub back-carried : (bs hs : List Node) (f g : Facts) (kept : ℕ → Bool) → Carried (back bs hs f g kept) g kept
back-carried bs hs f g kept = record {
  clean = λ b k h. sym (ap (λ z. cond z (g.clean b) true) k) ∙ (and_parts (f.clean b) (cond (kept b) (g.clean b) true) h).1;
  error_free = λ b c k h. sym (ap (λ z. cond z (g.error_free b c) true) k) ∙ (and_parts (f.error_free b c) (cond (kept b) (g.error_free b c) true) h).1;
}

-- what is known of the box under a quantifier of some boxes
pub range-is : (xs : List Node) (root : ℕ) → Sound xs root → (known : ℕ → Bool) (r : OwnedQuant) → IsOwned xs r → of_quant xs known r.id ≡ known r.over
range-is xs root x known r o = ap (of_over false known) (owner-of xs x.once o.0 r o.1.0 o.1.1)

module _ (bs hs : List Node) (root : ℕ) (w : Sound bs root) (v : Sound hs root) (kept : ℕ → Bool) where
  module _ (f g : Facts) (c : Carried f g kept) (n : Node) (s : Owning bs hs kept n) where
    pub overs-clean : OfOvers n.quants f.clean g.clean
    overs-clean r i h = c.clean r.over (s.over r i) h

    pub overs-free : (k : ℕ) → OfOvers n.quants (λ b. f.error_free b k) (λ b. g.error_free b k)
    overs-free k r i h = c.error_free r.over k (s.over r i) h

    module _ (fit : list_all (node_fits n.quants) (nodes_of n) ≡ true) (single : (r : OwnedQuant) → In r n.quants → is_S r.kind ≡ true → g.at_most_one r.over ≡ true) where
      -- what is known of the box under an own quantifier
      own-before : (known : ℕ → Bool) (r : OwnedQuant) (q : ℕ) → In r n.quants → r.id ≡ q → of_quant bs known q ≡ true → known r.over ≡ true
      own-before known r q i e h = sym (range-is bs root w known r (n, (s.before, i))) ∙ ap (of_quant bs known) e ∙ h

      own-after : (known : ℕ → Bool) (r : OwnedQuant) (q : ℕ) → In r n.quants → r.id ≡ q → known r.over ≡ true → of_quant hs known q ≡ true
      own-after known r q i e h =
          let t = s.owned r i in
          subst (λ z. of_quant hs known z ≡ true) (t.1.1.0 ∙ e) (range-is hs root v known t.0 t.1.0 ∙ subst (λ z. known z ≡ true) (sym t.1.1.1) h)

      own-clean : (r : OwnedQuant) (q : ℕ) → In r n.quants → r.id ≡ q → cl_of bs f q ≡ true → cl_of hs g q ≡ true
      own-clean r q i e h = own-after g.clean r q i e (c.clean r.over (s.over r i) (own-before f.clean r q i e h))

      -- a quantifier of one of its nodes
      among : (p : QuantKind → Bool) (q : ℕ) → is_among p q n.quants ≡ true → (r : OwnedQuant) × (In r n.quants × ((r.id ≡ q) × (p r.kind ≡ true)))
      among p q h =
          let x = any-in (λ (r : OwnedQuant). is_quant q r && p r.kind) n.quants h in
          let t = and_parts (is_quant q x.0) (p x.0.kind) x.1.1 in
          (x.0, (x.1.0, (eqb-true x.0.id q t.0, t.1)))

      node-still : (z : QuantNode) → node_fits n.quants z ≡ true → SameNode (ef_of bs f) (ef_of hs g) (cl_of bs f) (cl_of hs g) (one_of bs f) (one_of hs g) z
      node-still (node.Scalar q) h =
          let x = among is_S q h in (
            own-clean x.0 q x.1.0 x.1.1.0,
            (
              own-after g.at_most_one x.0 q x.1.0 x.1.1.0 (single x.0 x.1.0 x.1.1.1),
              λ t. own-after (λ b. g.error_free b 1) x.0 q x.1.0 x.1.1.0 (c.error_free x.0.over 1 (s.over x.0 x.1.0) (own-before (λ b. f.error_free b 1) x.0 q x.1.0 x.1.1.0 t)),
            ),
          )
      node-still (node.Some q) h = let x = among is_E q h in own-clean x.0 q x.1.0 x.1.1.0
      node-still (node.Every q) h = let x = among is_A q h in own-clean x.0 q x.1.0 x.1.1.0

      pub nodes-still : SameNodes (ef_of bs f) (ef_of hs g) (cl_of bs f) (cl_of hs g) (one_of bs f) (one_of hs g) (nodes_of n)
      nodes-still z i = node-still z (all-in (node_fits n.quants) z (nodes_of n) fit i)

  module _ (f g : Facts) (c : Carried f g kept) (n : Node) (s : Names bs hs kept n) where
    abbrev o : Owning bs hs kept n
    o = names-owning bs hs kept n s

    -- a column that it names
    pub column-still : (x : Column) → In x (columns_of n) → ef_of bs f x.quant x.place ≡ true → ef_of hs g x.quant x.place ≡ true
    column-still x i h =
        let m = column-named x.quant x.place n (any-from (is_at x.quant x.place) x (columns_of n) i (and_from (x.quant == x.quant) (x.place == x.place) (eq-itself x.quant) (eq-itself x.place))) in
        let z = found bs root w n s.before x.quant m in
        let own : IsOwned bs z.quant = (z.owner, (z.owner_in, z.quant_in)) in
        let t = s.named z.quant (subst (λ q. holds q (named_by n) ≡ true) (sym z.is_q) m) own in
        let was : f.error_free z.quant.over x.place ≡ true = sym (range-is bs root w (λ b. f.error_free b x.place) z.quant own) ∙ ap (λ q. error_free_under bs f q x.place) z.is_q ∙ h in
        subst (λ q. error_free_under hs g q x.place ≡ true) (t.1.1.1.0 ∙ z.is_q)
        (range-is hs root v (λ b. g.error_free b x.place) t.1.0 t.1.1.0 ∙ subst (λ b. g.error_free b x.place ≡ true) (sym t.1.1.1.1) (c.error_free z.quant.over x.place t.0 was))

    module _ (fit : list_all (node_fits n.quants) (nodes_of n) ≡ true) (single : (r : OwnedQuant) → In r n.quants → is_S r.kind ≡ true → g.at_most_one r.over ≡ true) where
      module _ (ns : has_no_single n ≡ true) where
        pub clean-still : clean_by bs f n.parts.kind n ≡ true → clean_by hs g n.parts.kind n ≡ true
        clean-still = clean-same bs hs f g n column-still (nodes-still f g c n o fit single) ns (overs-clean f g c n o) (overs-free f g c n o) n.parts.kind

        pub free-still : (f.clean n.id ≡ true → g.clean n.id ≡ true) → (k : ℕ) → free_by bs f n.parts.kind n k ≡ true → free_by hs g n.parts.kind n k ≡ true
        free-still here = free-same bs hs f g n column-still (nodes-still f g c n o fit single) ns (overs-clean f g c n o) (overs-free f g c n o) here n.parts.kind

        -- a cell, and a condition
        pub cell-still : (x : Term) (s two : Bool) → In x n.parts.head → is_free bs f s x ≡ true → is_free hs g two x ≡ true
        cell-still x s two i h = cell-same bs hs f g n column-still (nodes-still f g c n o fit single) ns s two x i h

        pub cond-still : (p : Cond) (s two : Bool) → In p n.parts.conds.items → cond_free bs f s p ≡ true → cond_free hs g two p ≡ true
        cond-still p s two i h = cond-same bs hs f g n column-still (nodes-still f g c n o fit single) ns s two p i h

-- ---- firm boxes stay firm

-- a box that may be firm is there after with its kind, role and quantifiers, without conditions if it had none, and as open as before over boxes as open as before
pub record FirmStays (bs hs : List Node) (kept : ℕ → Bool) (u : Node) : Type 0 where
  pub n : Node
  pub after : In n hs
  pub id : n.id ≡ u.id
  pub kind : n.parts.kind ≡ u.parts.kind
  pub role : n.parts.role ≡ u.parts.role
  pub conds : u.parts.conds.items ≡ [] → n.parts.conds.items ≡ []
  pub quants : n.quants ≡ u.quants
  pub over : (r : OwnedQuant) → In r u.quants → kept r.over ≡ true
  pub shut : is_closed hs u.id ≡ is_closed bs u.id
  pub shut_over : (r : OwnedQuant) → In r u.quants → is_closed hs r.over ≡ is_closed bs r.over

pub still-firm : (bs hs : List Node) (kept : ℕ → Bool) (n : Node) → Still bs hs kept n → FirmStays bs hs kept n
still-firm bs hs kept n s = record {
  n = n;
  after = s.after;
  id = refl;
  kind = refl;
  role = refl;
  conds = λ e. e;
  quants = refl;
  over = s.over;
  shut = s.shut;
  shut_over = s.shut_over;
}

module _ (bs hs : List Node) (kept : ℕ → Bool) (each : (u : Node) → In u bs → kept u.id ≡ true → FirmStays bs hs kept u ⊎ (IsFirm bs u.id → ⊥)) where
  pub firm-stays : (b : ℕ) → IsFirm bs b → kept b ≡ true → IsFirm hs b
  firm-stays _ (grouped u r i j e) k = elim (each u i k) [
    | inr z ↦ absurd (z (grouped u r i j e))
    | inl x ↦ subst (IsFirm hs) x.id (grouped x.n r x.after (subst (λ (rs : List OwnedQuant). In r rs) (sym x.quants) j) (x.kind ∙ e))
  ]
  firm-stays _ (joined u i e p c under shut) k = elim (each u i k) [
    | inr z ↦ absurd (z (joined u i e p c under shut))
    | inl x ↦ subst (IsFirm hs) x.id (
        joined x.n x.after (x.kind ∙ e) (x.role ∙ p) (x.conds c)
        (λ r j f. (let y = subst (λ (rs : List OwnedQuant). In r rs) x.quants j in firm-stays r.over (under r y f) (x.over r y)))
        (λ t r j. (
        let y = subst (λ (rs : List OwnedQuant). In r rs) x.quants j in
        x.shut_over r y ∙ shut (sym x.shut ∙ ap (is_closed hs) (sym x.id) ∙ t) r y)))
  ]

-- ---- what makes a box settled

pub settled-from : (hs : List Node) (g : Facts) (root : ℕ) (n : Node) → clean_below hs g root n ≡ true → list_all (calm_column hs g n) (columns_of n) ≡ true → (not (is_magic n.parts.role) || calm_magic hs g n) ≡ true → has_no_single n ≡ true
    → ((r : OwnedQuant) → In r n.quants → is_S r.kind ≡ true → IsFirm hs r.over) → ((b : ℕ) → IsFirm hs b → g.at_most_one b ≡ true) → SettledBox hs g root n
settled-from hs g root n below columns magic ns firm single = record {
  calm = and_from (clean_below hs g root n && list_all (calm_column hs g n) (columns_of n)) (list_all (calm_scalar hs g) n.quants && (not (is_magic n.parts.role) || calm_magic hs g n))
      (and_from (clean_below hs g root n) (list_all (calm_column hs g n) (columns_of n)) below columns)
      (and_from (list_all (calm_scalar hs g) n.quants) (not (is_magic n.parts.role) || calm_magic hs g n) (all-from (calm_scalar hs g) n.quants each) magic);
  no_single = ns;
  scalars = firm;
}
  where
    each : (r : OwnedQuant) → In r n.quants → calm_scalar hs g r ≡ true
    each r i = elim (cases_Bool (is_S r.kind)) [
      | inr e ↦ or_left (not (is_S r.kind)) (is_closed hs r.over || (g.at_most_one r.over || g.error_free r.over 1)) (ap not e)
      | inl t ↦ or_right (not (is_S r.kind)) (is_closed hs r.over || (g.at_most_one r.over || g.error_free r.over 1)) (or_right (is_closed hs r.over) (g.at_most_one r.over || g.error_free r.over 1) (or_left (g.at_most_one r.over) (g.error_free r.over 1) (single r.over (firm r i t))))
    ]

-- ---- boxes that stay are settled after

module _ (bs hs : List Node) (root : ℕ) (w : Sound bs root) (v : Sound hs root) (kept : ℕ → Bool) (f g : Facts) (c : Carried f g kept) (n : Node) (s : Still bs hs kept n) (x : SettledBox bs f root n)
    (firm : (r : OwnedQuant) → In r n.quants → is_S r.kind ≡ true → IsFirm hs r.over) (single : (b : ℕ) → IsFirm hs b → g.at_most_one b ≡ true) where
  was : (clean_below bs f root n && list_all (calm_column bs f n) (columns_of n)) ≡ true
  was = (and_parts (clean_below bs f root n && list_all (calm_column bs f n) (columns_of n)) (list_all (calm_scalar bs f) n.quants && (not (is_magic n.parts.role) || calm_magic bs f n)) x.calm).0

  was-magic : (not (is_magic n.parts.role) || calm_magic bs f n) ≡ true
  was-magic = (and_parts (list_all (calm_scalar bs f) n.quants) (not (is_magic n.parts.role) || calm_magic bs f n) (and_parts (clean_below bs f root n && list_all (calm_column bs f n) (columns_of n)) (list_all (calm_scalar bs f) n.quants && (not (is_magic n.parts.role) || calm_magic bs f n)) x.calm).1).1

  now-clean : clean_below hs g root n ≡ true
  now-clean = elim (or_cases (n.id == root) (f.clean n.id) (and_parts (clean_below bs f root n) (list_all (calm_column bs f n) (columns_of n)) was).0) [
    | inl t ↦ or_left (n.id == root) (g.clean n.id) t
    | inr t ↦ or_right (n.id == root) (g.clean n.id) (c.clean n.id s.number t)
  ]

  now-columns : list_all (calm_column hs g n) (columns_of n) ≡ true
  now-columns = all-from (calm_column hs g n) (columns_of n) (λ y i. (
      elim (or_cases (owns y.quant n) (error_free_under bs f y.quant y.place) (all-in (calm_column bs f n) y (columns_of n) (and_parts (clean_below bs f root n) (list_all (calm_column bs f n) (columns_of n)) was).1 i)) [
        | inl t ↦ or_left (owns y.quant n) (error_free_under hs g y.quant y.place) t
        | inr t ↦ or_right (owns y.quant n) (error_free_under hs g y.quant y.place) (column-still bs hs root w v kept f g c n (still-names bs hs kept n s) y i t)
      ]))

  now-magic : (not (is_magic n.parts.role) || calm_magic hs g n) ≡ true
  now-magic = elim (or_cases (not (is_magic n.parts.role)) (calm_magic bs f n) was-magic) [
    | inl t ↦ or_left (not (is_magic n.parts.role)) (calm_magic hs g n) t
    | inr t ↦ or_right (not (is_magic n.parts.role)) (calm_magic hs g n) (
        let a = and_parts (is_closed bs n.id) (all_under (is_closed bs) n.quants && all_places (width n) (f.error_free n.id)) t in
        let b = and_parts (all_under (is_closed bs) n.quants) (all_places (width n) (f.error_free n.id)) a.1 in
        and_from (is_closed hs n.id) (all_under (is_closed hs) n.quants && all_places (width n) (g.error_free n.id)) (s.shut ∙ a.0)
        (and_from (all_under (is_closed hs) n.quants) (all_places (width n) (g.error_free n.id))
        (all-from (λ r. is_closed hs r.over) n.quants (λ r i. s.shut_over r i ∙ all-in (λ r. is_closed bs r.over) r n.quants b.0 i))
        (places-of (width n) (f.error_free n.id) (g.error_free n.id) (λ k. c.error_free n.id k s.number) b.1)))
  ]

  pub still-settled : SettledBox hs g root n
  still-settled = settled-from hs g root n now-clean now-columns now-magic x.no_single firm single
