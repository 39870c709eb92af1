-- What is inferred of a box whose columns are renamed, and that it stays settled.
use Rattle.std.proofs.Common.{ℕ, ◌==◌, ◌≡◌, ◌&&◌, ◌||◌, nat_le, nat_lt, not, Bool, true, false, List, [], ◌∷◌, map, take, length, refl, sym, ap, subst, ◌∙◌, inl, inr}
use Rattle.std.specs.List.{flat_map, list_all}
use Rattle.std.proofs.lemmas.Bool.{and_from, and_parts, or_cases, or_left, or_right}
use Rattle.list_laws.specs.Lists.{In}
use Rattle.list_laws.proofs.Membership.{all-from, all-in, flat-in, in-append, in-flat, in-left, in-map, in-right}
use Rattle.qgm_core.specs.Boxes.{owns, width}
use Rattle.qgm_core.specs.Kinds.{is_S, is_magic}
use Rattle.qgm_core.specs.declared.kinds.BoxKind.{BoxKind}
use Rattle.qgm_core.specs.declared.kinds.BoxKind.TheVariants.{Base, Select, Group, SetOp, OuterJoin}
use Rattle.qgm_core.specs.declared.kinds.SetOperator.{SetOperator}
use Rattle.qgm_core.specs.declared.kinds.SetOperator.TheVariants.{UnionAll, Union, IntersectAll, Intersect, ExceptAll, Except}
use Rattle.qgm_core.specs.declared.node.Node.{Node}
use Rattle.qgm_core.specs.declared.owned.OwnedQuant.{OwnedQuant}
use Rattle.qgm_terms.specs.Named.{columns_in, columns_in_cond, nodes_in, nodes_in_cond}
use Rattle.qgm_terms.specs.Terms.{Cond, Term}
use Rattle.qgm_terms.specs.declared.named.Column.{Column}
use Rattle.qgm_wellformed.specs.Columns.{columns_of}
use Rattle.qgm_wellformed.specs.Shapes.{node_fits, nodes_of}
use Rattle.qgm_edit_laws.specs.Graph.{Sound}
use Rattle.qgm_props.specs.Calm.{calm_column, calm_magic, clean_below, is_closed}
use Rattle.qgm_props.specs.Inferred.{Closed, Facts, all_places, all_under, all_under_F, arms_error_free, at_place, clean_by, clean_op, cond_free, error_free_under, free_by, free_op, is_free, under_first, under_two}
use Rattle.rule_feed.specs.Split.{renamed, renamed_cond}
use Rattle.rule_magic.proofs.BehindColumns.{take-map}
use Rattle.rule_calm.specs.Settled.{IsFirm, SettledBox, has_no_single, single_free, single_free_cond}
use Rattle.rule_calm.proofs.BehindFacts.{all-map, place-map}
use Rattle.rule_calm.proofs.FedSettled.{below-calm, columns-calm, magic-calm}
use Rattle.rule_calm.proofs.Framed.{Carried, Covers, FirmStays, Owning, back, back-carried, known-clean, known-free, nodes-still, overs-clean, overs-free, settled-from}
use Rattle.rule_calm.proofs.FreeTerms.{cl_of, cond-is, ef_of, free-is, free_with, one_of}
use Rattle.rule_calm.proofs.MovedTerms.{renamed-columns, renamed-columns_cond, renamed-cond, renamed-free, renamed-single, renamed-single-cond}
use Rattle.rule_calm.proofs.OperatorFacts.{op-moved}
use Rattle.rule_calm.proofs.SameFacts.{OfOvers, all-F-of, both-of, first-of, in-take, places-of, two-of}

-- box n is z after, over the same boxes and as open, with its columns renamed
pub record Moved (bs hs : List Node) (φ : ℕ → ℕ → Term) (n z : Node) : Type 0 where
  pub before : In n bs
  pub after : In z hs
  pub id : z.id ≡ n.id
  pub kind : z.parts.kind ≡ n.parts.kind
  pub role : z.parts.role ≡ n.parts.role
  pub quants : z.quants ≡ n.quants
  pub head : z.parts.head ≡ map (renamed φ) n.parts.head
  pub conds : z.parts.conds.items ≡ map (renamed_cond φ) n.parts.conds.items
  pub wide : width z ≡ width n
  pub single : (r j : ℕ) → single_free (φ r j) ≡ true
  pub shut : is_closed hs n.id ≡ is_closed bs n.id
  pub shut_over : (r : OwnedQuant) → In r n.quants → is_closed hs r.over ≡ is_closed bs r.over

pub moved-owning : (bs hs : List Node) (φ : ℕ → ℕ → Term) (kept : ℕ → Bool) (n z : Node) → Moved bs hs φ n z → ((r : OwnedQuant) → In r n.quants → kept r.over ≡ true) → Owning bs hs kept n
moved-owning bs hs φ kept n z m over = record { before = m.before; over = over; owned = λ r i. (r, ((z, (m.after, subst (λ (q : List OwnedQuant). In r q) (sym m.quants) i)), (refl, refl))) }

-- what is known of a column, of what stands in its place
abbrev pub ColumnsMoved : List Node → List Node → Facts → Facts → (ℕ → ℕ → Term) → Node → Type 0
ColumnsMoved bs hs f g φ n = (x : Column) (two : Bool) → In x (columns_of n) → ef_of bs f x.quant x.place ≡ true → free_with (ef_of hs g) (cl_of hs g) (one_of hs g) two (φ x.quant x.place) ≡ true

module _ (bs hs : List Node) (root : ℕ) (w : Sound bs root) (v : Sound hs root) (kept : ℕ → Bool) (f g : Facts) (c : Carried f g kept) (φ : ℕ → ℕ → Term) (n z : Node) (m : Moved bs hs φ n z) (over : (r : OwnedQuant) → In r n.quants → kept r.over ≡ true)
    (fit : list_all (node_fits n.quants) (nodes_of n) ≡ true) (single : (r : OwnedQuant) → In r n.quants → is_S r.kind ≡ true → g.at_most_one r.over ≡ true) (ns : has_no_single n ≡ true) (cols : ColumnsMoved bs hs f g φ n) where
  abbrev o : Owning bs hs kept n
  o = moved-owning bs hs φ kept n z m over

  heads : list_all single_free n.parts.head ≡ true
  heads = (and_parts (list_all single_free n.parts.head) (list_all single_free_cond n.parts.conds.items) ns).0

  conds : list_all single_free_cond n.parts.conds.items ≡ true
  conds = (and_parts (list_all single_free n.parts.head) (list_all single_free_cond n.parts.conds.items) ns).1

  cell-moved : (s two : Bool) (x : Term) → In x n.parts.head → is_free bs f s x ≡ true → is_free hs g two (renamed φ x) ≡ true
  cell-moved s two x i h = free-is hs g two (renamed φ x) ∙ renamed-free (ef_of bs f) (ef_of hs g) (cl_of bs f) (cl_of hs g) (one_of bs f) (one_of hs g) φ s two x
      (λ y j. cols y two (in-left y (flat_map columns_in n.parts.head) (flat_map columns_in_cond n.parts.conds.items) (flat-in columns_in x y n.parts.head i j)))
      (λ y j. nodes-still bs hs root w v kept f g c n o fit single y (in-left y (flat_map nodes_in n.parts.head) (flat_map nodes_in_cond n.parts.conds.items) (flat-in nodes_in x y n.parts.head i j)))
      (all-in single_free x n.parts.head heads i) (sym (free-is bs f s x) ∙ h)

  cond-moved : (s two : Bool) (p : Cond) → In p n.parts.conds.items → cond_free bs f s p ≡ true → cond_free hs g two (renamed_cond φ p) ≡ true
  cond-moved s two p i h = cond-is hs g two (renamed_cond φ p) ∙ renamed-cond (ef_of bs f) (ef_of hs g) (cl_of bs f) (cl_of hs g) (one_of bs f) (one_of hs g) φ s two p
      (λ y j. cols y two (in-right y (flat_map columns_in n.parts.head) (flat_map columns_in_cond n.parts.conds.items) (flat-in columns_in_cond p y n.parts.conds.items i j)))
      (λ y j. nodes-still bs hs root w v kept f g c n o fit single y (in-right y (flat_map nodes_in n.parts.head) (flat_map nodes_in_cond n.parts.conds.items) (flat-in nodes_in_cond p y n.parts.conds.items i j)))
      (all-in single_free_cond p n.parts.conds.items conds i) (sym (cond-is bs f s p) ∙ h)

  rows : OfOvers n.quants f.clean g.clean
  rows = overs-clean bs hs root w v kept f g c n o

  frees : (k : ℕ) → OfOvers n.quants (λ b. f.error_free b k) (λ b. g.error_free b k)
  frees = overs-free bs hs root w v kept f g c n o

  conds-moved : list_all (cond_free bs f false) n.parts.conds.items ≡ true → list_all (cond_free hs g false) z.parts.conds.items ≡ true
  conds-moved h = subst (λ (ps : List Cond). list_all (cond_free hs g false) ps ≡ true) (sym m.conds) (all-conds n.parts.conds.items (λ p i. i) h)
    where
      all-conds : (ps : List Cond) → ((p : Cond) → In p ps → In p n.parts.conds.items) → list_all (cond_free bs f false) ps ≡ true → list_all (cond_free hs g false) (map (renamed_cond φ) ps) ≡ true
      all-conds [] k h = refl
      all-conds (p ∷ ps) k h = both-of (cond_free bs f false p) (list_all (cond_free bs f false) ps) (cond_free hs g false (renamed_cond φ p)) (list_all (cond_free hs g false) (map (renamed_cond φ) ps)) (cond-moved false false p (k p (inl refl))) (all-conds ps (λ y i. k y (inr i))) h

  arms-moved : (l : ℕ) → arms_error_free bs f l n.quants ≡ true → arms_error_free hs g l n.quants ≡ true
  arms-moved l h = places-of l (λ k. under_two (λ b. f.error_free b k) n.quants) (λ k. under_two (λ b. g.error_free b k) n.quants) (λ k. two-of (λ b. f.error_free b k) (λ b. g.error_free b k) n.quants (frees k)) h

  clean-moved : (kind : BoxKind) → clean_by bs f kind n ≡ true → clean_by hs g kind z ≡ true
  clean-moved (Base table) h = refl
  clean-moved Select h = both-of (all_under_F f.clean n.quants) (list_all (cond_free bs f false) n.parts.conds.items) (all_under_F g.clean z.quants) (list_all (cond_free hs g false) z.parts.conds.items)
      (λ e. subst (λ (q : List OwnedQuant). all_under_F g.clean q ≡ true) (sym m.quants) (all-F-of f.clean g.clean n.quants rows e)) conds-moved h
  clean-moved (Group k) h = both-of (under_first f.clean n.quants) (list_all (is_free bs f false) (take k n.parts.head)) (under_first g.clean z.quants) (list_all (is_free hs g false) (take k z.parts.head))
      (λ e. subst (λ (q : List OwnedQuant). under_first g.clean q ≡ true) (sym m.quants) (first-of f.clean g.clean n.quants rows e))
      (λ e. subst (λ (t : List Term). list_all (is_free hs g false) (take k t) ≡ true) (sym m.head) (subst (λ (t : List Term). list_all (is_free hs g false) t ≡ true) (sym (take-map (renamed φ) k n.parts.head))
      (all-map (renamed φ) (is_free bs f false) (is_free hs g false) (take k n.parts.head) (λ x i. cell-moved false false x (in-take x k n.parts.head i)) e))) h
  clean-moved (SetOp form types) h = subst (λ (q : List OwnedQuant). clean_op hs g form (length types) q ≡ true) (sym m.quants) (op-moved bs hs f g (length types) (length types) n.quants n.quants (two-of f.clean g.clean n.quants rows) (arms-moved (length types)) form h)
  clean-moved OuterJoin h = both-of (under_two f.clean n.quants) (list_all (cond_free bs f false) n.parts.conds.items) (under_two g.clean z.quants) (list_all (cond_free hs g false) z.parts.conds.items)
      (λ e. subst (λ (q : List OwnedQuant). under_two g.clean q ≡ true) (sym m.quants) (two-of f.clean g.clean n.quants rows e)) conds-moved h

  place-moved : (s two : Bool) (k : ℕ) → at_place (is_free bs f s) n.parts.head k ≡ true → at_place (is_free hs g two) z.parts.head k ≡ true
  place-moved s two k h = subst (λ (t : List Term). at_place (is_free hs g two) t k ≡ true) (sym m.head) (place-map (renamed φ) (is_free bs f s) (is_free hs g two) n.parts.head k (λ x i. cell-moved s two x i) h)

  module _ (here : f.clean n.id ≡ true → g.clean n.id ≡ true) where
    now-clean : f.clean n.id ≡ true → g.clean z.id ≡ true
    now-clean h = subst (λ b. g.clean b ≡ true) (sym m.id) (here h)

    op-column-moved : (form : SetOperator) (k : ℕ) → free_op bs f form n.id n.quants k ≡ true → free_op hs g form z.id n.quants k ≡ true
    op-column-moved form k h = by form h
      where
        two : under_two (λ b. f.error_free b k) n.quants ≡ true → under_two (λ b. g.error_free b k) n.quants ≡ true
        two e = two-of (λ b. f.error_free b k) (λ b. g.error_free b k) n.quants (frees k) e

        whole : (f.clean n.id && under_two (λ b. f.error_free b k) n.quants) ≡ true → (g.clean z.id && under_two (λ b. g.error_free b k) n.quants) ≡ true
        whole e = both-of (f.clean n.id) (under_two (λ b. f.error_free b k) n.quants) (g.clean z.id) (under_two (λ b. g.error_free b k) n.quants) now-clean two e

        by : (form : SetOperator) → free_op bs f form n.id n.quants k ≡ true → free_op hs g form z.id n.quants k ≡ true
        by UnionAll e = two e
        by Union e = two e
        by IntersectAll e = whole e
        by Intersect e = whole e
        by ExceptAll e = whole e
        by Except e = whole e

    free-moved : (kind : BoxKind) (k : ℕ) → free_by bs f kind n k ≡ true → free_by hs g kind z k ≡ true
    free-moved (Base table) k h = refl
    free-moved Select k h = place-moved false false k h
    free-moved (Group keys) k h = both-of (f.clean n.id) (at_place (is_free bs f (under_first f.at_most_one n.quants)) n.parts.head k) (g.clean z.id) (at_place (is_free hs g (under_first g.at_most_one z.quants)) z.parts.head k)
        now-clean (place-moved (under_first f.at_most_one n.quants) (under_first g.at_most_one z.quants) k) h
    free-moved (SetOp form types) k h = subst (λ (q : List OwnedQuant). free_op hs g form z.id q k ≡ true) (sym m.quants) (op-column-moved form k h)
    free-moved OuterJoin k h = place-moved false false k h

module _ (bs hs : List Node) (root : ℕ) (w : Sound bs root) (v : Sound hs root) (kept : ℕ → Bool) (f g : Facts) (closed : Closed hs g) (φ : ℕ → ℕ → Term) (n z : Node) (m : Moved bs hs φ n z) (over : (r : OwnedQuant) → In r n.quants → kept r.over ≡ true)
    (fit : list_all (node_fits n.quants) (nodes_of n) ≡ true) (single : (r : OwnedQuant) → In r n.quants → is_S r.kind ≡ true → g.at_most_one r.over ≡ true) (number : kept n.id ≡ true) where
  -- it is covered
  pub moved-covers : has_no_single n ≡ true → ColumnsMoved bs hs (back bs hs f g kept) g φ n → Covers bs hs f g kept n
  moved-covers ns cols = record {
    clean = λ k x h. subst (λ b. g.clean b ≡ true) m.id (known-clean hs v.ordered g closed z m.after (subst (λ (k : BoxKind). clean_by hs g k z ≡ true) (sym m.kind) (clean-moved bs hs root w v kept (back bs hs f g kept) g c φ n z m over fit single ns cols n.parts.kind h)));
    error_free = λ j k x l h. subst (λ b. g.error_free b j ≡ true) m.id (known-free hs v.ordered g closed z m.after j (subst (λ o. (nat_lt 0 j && nat_le j o) ≡ true) (sym m.wide) l)
        (subst (λ (k : BoxKind). free_by hs g k z j ≡ true) (sym m.kind) (free-moved bs hs root w v kept (back bs hs f g kept) g c φ n z m over fit single ns cols (c.clean n.id number) n.parts.kind j h)));
  }
    where
      c : Carried (back bs hs f g kept) g kept
      c = back-carried bs hs f g kept

  -- and settled
  module _ (c : Carried f g kept) (x : SettledBox bs f root n) (firm : (r : OwnedQuant) → In r n.quants → is_S r.kind ≡ true → IsFirm hs r.over) (ones : (b : ℕ) → IsFirm hs b → g.at_most_one b ≡ true)
      (named : (y : Column) → In y (columns_of n) → (owns y.quant n || error_free_under bs f y.quant y.place) ≡ true → (o : Column) → In o (columns_in (φ y.quant y.place)) → calm_column hs g z o ≡ true) where
    from-head : (y : Column) → In y (flat_map columns_in z.parts.head) → calm_column hs g z y ≡ true
    from-head y i =
        let j : In y (flat_map columns_in (map (renamed φ) n.parts.head)) = subst (λ (t : List Term). In y (flat_map columns_in t)) m.head i in
        let t = in-flat columns_in y (map (renamed φ) n.parts.head) j in
        let s = in-map (renamed φ) t.0 n.parts.head t.1.0 in
        let o = renamed-columns φ y s.0 (subst (λ (e : Term). In y (columns_in e)) (sym s.1.1) t.1.1) in
        let there : In o.0 (columns_of n) = in-left o.0 (flat_map columns_in n.parts.head) (flat_map columns_in_cond n.parts.conds.items) (flat-in columns_in s.0 o.0 n.parts.head s.1.0 o.1.0) in
        named o.0 there (all-in (calm_column bs f n) o.0 (columns_of n) (columns-calm bs f root n x) there) y o.1.1

    from-conds : (y : Column) → In y (flat_map columns_in_cond z.parts.conds.items) → calm_column hs g z y ≡ true
    from-conds y i =
        let j : In y (flat_map columns_in_cond (map (renamed_cond φ) n.parts.conds.items)) = subst (λ (t : List Cond). In y (flat_map columns_in_cond t)) m.conds i in
        let t = in-flat columns_in_cond y (map (renamed_cond φ) n.parts.conds.items) j in
        let s = in-map (renamed_cond φ) t.0 n.parts.conds.items t.1.0 in
        let o = renamed-columns_cond φ y s.0 (subst (λ (e : Cond). In y (columns_in_cond e)) (sym s.1.1) t.1.1) in
        let there : In o.0 (columns_of n) = in-right o.0 (flat_map columns_in n.parts.head) (flat_map columns_in_cond n.parts.conds.items) (flat-in columns_in_cond s.0 o.0 n.parts.conds.items s.1.0 o.1.0) in
        named o.0 there (all-in (calm_column bs f n) o.0 (columns_of n) (columns-calm bs f root n x) there) y o.1.1

    below : clean_below hs g root z ≡ true
    below = subst (λ b. (b == root || g.clean b) ≡ true) (sym m.id) (elim (or_cases (n.id == root) (f.clean n.id) (below-calm bs f root n x)) [
      | inl t ↦ or_left (n.id == root) (g.clean n.id) t
      | inr t ↦ or_right (n.id == root) (g.clean n.id) (c.clean n.id number t)
    ])

    magic : (not (is_magic z.parts.role) || calm_magic hs g z) ≡ true
    magic = subst (λ r. (not (is_magic r) || calm_magic hs g z) ≡ true) (sym m.role) (elim (or_cases (not (is_magic n.parts.role)) (calm_magic bs f n) (magic-calm bs f root n x)) [
      | inl t ↦ or_left (not (is_magic n.parts.role)) (calm_magic hs g z) t
      | inr t ↦ or_right (not (is_magic n.parts.role)) (calm_magic hs g z) (
          let a = and_parts (is_closed bs n.id) (all_under (is_closed bs) n.quants && all_places (width n) (f.error_free n.id)) t in
          let b = and_parts (all_under (is_closed bs) n.quants) (all_places (width n) (f.error_free n.id)) a.1 in
          and_from (is_closed hs z.id) (all_under (is_closed hs) z.quants && all_places (width z) (g.error_free z.id)) (ap (is_closed hs) m.id ∙ m.shut ∙ a.0)
          (and_from (all_under (is_closed hs) z.quants) (all_places (width z) (g.error_free z.id))
          (subst (λ (q : List OwnedQuant). all_under (is_closed hs) q ≡ true) (sym m.quants) (all-from (λ r. is_closed hs r.over) n.quants (λ r i. m.shut_over r i ∙ all-in (λ r. is_closed bs r.over) r n.quants b.0 i)))
          (subst (λ k. all_places k (g.error_free z.id) ≡ true) (sym m.wide) (places-of (width n) (f.error_free n.id) (g.error_free z.id) (λ k e. subst (λ b. g.error_free b k ≡ true) (sym m.id) (c.error_free n.id k number e)) b.1))))
    ])

    no-single : has_no_single z ≡ true
    no-single =
        let p = and_parts (list_all single_free n.parts.head) (list_all single_free_cond n.parts.conds.items) x.no_single in
        and_from (list_all single_free z.parts.head) (list_all single_free_cond z.parts.conds.items)
        (subst (λ (t : List Term). list_all single_free t ≡ true) (sym m.head) (all-map (renamed φ) single_free single_free n.parts.head (λ t i. renamed-single φ m.single t) p.0))
        (subst (λ (t : List Cond). list_all single_free_cond t ≡ true) (sym m.conds) (all-conds n.parts.conds.items p.1))
      where
        all-conds : (ps : List Cond) → list_all single_free_cond ps ≡ true → list_all single_free_cond (map (renamed_cond φ) ps) ≡ true
        all-conds [] h = refl
        all-conds (p ∷ ps) h = both-of (single_free_cond p) (list_all single_free_cond ps) (single_free_cond (renamed_cond φ p)) (list_all single_free_cond (map (renamed_cond φ) ps)) (renamed-single-cond φ m.single p) (all-conds ps) h

    pub moved-settled : SettledBox hs g root z
    moved-settled = settled-from hs g root z below
        (all-from (calm_column hs g z) (columns_of z) (λ y i. elim (in-append y (flat_map columns_in z.parts.head) (flat_map columns_in_cond z.parts.conds.items) i) [ inl j ↦ from-head y j | inr j ↦ from-conds y j ]))
        magic no-single (λ r i t. firm r (subst (λ (q : List OwnedQuant). In r q) m.quants i) t) ones

-- it may be firm as before
pub moved-firm : (bs hs : List Node) (φ : ℕ → ℕ → Term) (kept : ℕ → Bool) (n z : Node) → Moved bs hs φ n z → ((r : OwnedQuant) → In r n.quants → kept r.over ≡ true) → FirmStays bs hs kept n
moved-firm bs hs φ kept n z m over = record {
  n = z;
  after = m.after;
  id = m.id;
  kind = m.kind;
  role = m.role;
  conds = λ e. m.conds ∙ ap (λ (ps : List Cond). map (renamed_cond φ) ps) e;
  quants = m.quants;
  over = over;
  shut = m.shut;
  shut_over = m.shut_over;
}
