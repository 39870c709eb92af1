-- Shapes of boxes whose columns were renamed to columns.
use Rattle.std.proofs.Common.{ℕ, ◌==◌, ◌≡◌, ◌&&◌, ◌||◌, nat_lt, not, Bool, true, false, List, [], ◌∷◌, ◌++◌, map, refl, sym, ap, ap₂, subst, ◌∙◌, inl, inr}
use Rattle.std.specs.List.{flat_map, list_all, list_any}
use Rattle.std.proofs.lemmas.Bool.{and_from, and_parts, cases_Bool, not-true, or_from, or_left, or_parts}
use Rattle.qgm_core.specs.Boxes.{is_box, is_quant, owns, width}
use Rattle.qgm_core.specs.Kinds.{is_plain, is_preserve, width_by}
use Rattle.list_laws.specs.Lists.{In, first}
use Rattle.qgm_core.specs.declared.kinds.BoxKind.{BoxKind}
use Rattle.qgm_core.specs.declared.kinds.BoxKind.TheVariants.{Base, Group, OuterJoin, Select, SetOp}
use Rattle.qgm_core.specs.declared.kinds.Role.{Role}
use Rattle.qgm_core.specs.declared.kinds.Role.TheVariants.{Fed, Magic, Plain}
use Rattle.qgm_core.specs.declared.node.Node.{Node}
use Rattle.qgm_core.specs.declared.owned.OwnedQuant.{OwnedQuant}
use Rattle.qgm_meaning.specs.Searches.{looking, names, names_cond}
use Rattle.qgm_terms.specs.Gathered.{listed_arms}
use Rattle.qgm_terms.specs.Named.{names_in, nodes_in, nodes_in_cond}
use Rattle.qgm_terms.specs.Named as listing
use Rattle.qgm_terms.specs.Terms.{Term, int, text, null_int, null_text, col, both, minus_of, choose, count_all, fold, scalar, Arms, no_arm, arm, Cond, always, compare, is_null, and, or, some, every}
use Rattle.qgm_terms.specs.Terms as t
use Rattle.qgm_terms.specs.Wanted.{Wanted, any_in, any_in_arms, any_in_cond, has_aggregate, has_aggregate_cond, reads, wanted}
use Rattle.qgm_terms.specs.declared.named.QuantNode.{QuantNode}
use Rattle.qgm_terms.specs.declared.named.QuantNode.TheVariants as node
use Rattle.qgm_terms.specs.declared.sought.Sought.TheVariants.{Aggregate}
use Rattle.qgm_wellformed.specs.Shapes.{are_F, arm_fits, columns_placed, columns_through, fed_by, head_folds, is_column, is_none, is_unfolded, kind_fits, node_fits, nodes_of, role_fits, shape_fits, width_found}
use Rattle.qgm_wellformed.specs.Shapes as shapes
use Rattle.qgm_edit_laws.specs.Graph.{Sound}
use Rattle.qgm_edit_laws.specs.Graph as graph
use Rattle.qgm_edit_laws.proofs.Adds.{reads-at-read}
use Rattle.qgm_edit_laws.proofs.Edits.{length-map}
use Rattle.qgm_edit_laws.proofs.Read.{any-both}
use Rattle.qgm_edit_laws.proofs.OwnShapes.{none-map, rows-only, rows-placed, select-placed}
use Rattle.qgm_edit_laws.proofs.ShapedPut.{columns-none, columns-unread, of_quant, own-unread}
use Rattle.qgm_edit_laws.proofs.ShapeParts.{shape-from, shape-parts, two-parts}
use Rattle.qgm_edit_laws.proofs.ReadKept.{search-at}
use Rattle.rule_feed.specs.Split.{renamed, renamed_arms, renamed_cond, renamed_node}
use Rattle.rule_feed.proofs.SplitNames.{terms-same}
use Rattle.list_laws.proofs.Booleans.{clash, or-false}
use Rattle.list_laws.proofs.Membership.{any-none}

-- a search that finds in what stands for a column what it finds in the column
module _ (f : ℕ → ℕ → Term) (w : Wanted) (alike : (r j : ℕ) → any_in w (f r j) ≡ w.column r j) where
  mutual
    term-alike : (x : Term) → any_in w (renamed f x) ≡ any_in w x
    term-alike (int m) = refl
    term-alike (text s) = refl
    term-alike null_int = refl
    term-alike null_text = refl
    term-alike (col r j) = alike r j
    term-alike (both o x y) = ap₂ (λ a b. a || b) (term-alike x) (term-alike y)
    term-alike (minus_of x) = term-alike x
    term-alike (choose s x) = ap₂ (λ a b. a || b) (arms-alike s) (term-alike x)
    term-alike count_all = refl
    term-alike (fold g d x) = ap (λ a. w.aggregate || a) (term-alike x)
    term-alike (scalar r) = refl

    arms-alike : (s : Arms) → any_in_arms w (renamed_arms f s) ≡ any_in_arms w s
    arms-alike no_arm = refl
    arms-alike (arm c x s) = ap₂ (λ a b. a || b) (cond-alike c) (ap₂ (λ a b. a || b) (term-alike x) (arms-alike s))

    cond-alike : (c : Cond) → any_in_cond w (renamed_cond f c) ≡ any_in_cond w c
    cond-alike always = refl
    cond-alike (compare s x y) = ap₂ (λ a b. a || b) (term-alike x) (term-alike y)
    cond-alike (is_null x) = term-alike x
    cond-alike (and c d) = ap₂ (λ a b. a || b) (cond-alike c) (cond-alike d)
    cond-alike (or c d) = ap₂ (λ a b. a || b) (cond-alike c) (cond-alike d)
    cond-alike (t.not c) = cond-alike c
    cond-alike (some r c) = ap (λ a. w.node r || (w.enter r && a)) (cond-alike c)
    cond-alike (every r c) = ap (λ a. w.node r || (w.enter r && a)) (cond-alike c)

  pub heads-alike : (xs : List Term) → list_any (any_in w) (map (renamed f) xs) ≡ list_any (any_in w) xs
  heads-alike [] = refl
  heads-alike (x ∷ xs) = ap₂ (λ a b. a || b) (term-alike x) (heads-alike xs)

  pub conds-alike : (xs : List Cond) → list_any (any_in_cond w) (map (renamed_cond f) xs) ≡ list_any (any_in_cond w) xs
  conds-alike [] = refl
  conds-alike (x ∷ xs) = ap₂ (λ a b. a || b) (cond-alike x) (conds-alike xs)

module _ (f : ℕ → ℕ → Term) (plain : (r j : ℕ) → nodes_in (f r j) ≡ []) (folds : (r j : ℕ) → has_aggregate (f r j) ≡ false) where
  mutual
    term-nodes : (x : Term) → nodes_in (renamed f x) ≡ nodes_in x
    term-nodes (int m) = refl
    term-nodes (text s) = refl
    term-nodes null_int = refl
    term-nodes null_text = refl
    term-nodes (col r j) = plain r j
    term-nodes (both o x y) = ap₂ (λ (a b : List QuantNode). a ++ b) (term-nodes x) (term-nodes y)
    term-nodes (minus_of x) = term-nodes x
    term-nodes (choose s x) = ap₂ (λ (a b : List QuantNode). a ++ b) (arms-nodes s) (term-nodes x)
    term-nodes count_all = refl
    term-nodes (fold g d x) = term-nodes x
    term-nodes (scalar r) = refl

    arms-nodes : (s : Arms) → listed_arms listing.nodes (renamed_arms f s) ≡ listed_arms listing.nodes s
    arms-nodes no_arm = refl
    arms-nodes (arm c x s) = ap₂ (λ (a b : List QuantNode). a ++ b) (cond-nodes c) (ap₂ (λ (a b : List QuantNode). a ++ b) (term-nodes x) (arms-nodes s))

    cond-nodes : (c : Cond) → nodes_in_cond (renamed_cond f c) ≡ nodes_in_cond c
    cond-nodes always = refl
    cond-nodes (compare s x y) = ap₂ (λ (a b : List QuantNode). a ++ b) (term-nodes x) (term-nodes y)
    cond-nodes (is_null x) = term-nodes x
    cond-nodes (and c d) = ap₂ (λ (a b : List QuantNode). a ++ b) (cond-nodes c) (cond-nodes d)
    cond-nodes (or c d) = ap₂ (λ (a b : List QuantNode). a ++ b) (cond-nodes c) (cond-nodes d)
    cond-nodes (t.not c) = cond-nodes c
    cond-nodes (some r c) = ap (λ (a : List QuantNode). node.Some r ∷ a) (cond-nodes c)
    cond-nodes (every r c) = ap (λ (a : List QuantNode). node.Every r ∷ a) (cond-nodes c)

  pub heads-nodes : (xs : List Term) → flat_map nodes_in (map (renamed f) xs) ≡ flat_map nodes_in xs
  heads-nodes [] = refl
  heads-nodes (x ∷ xs) = ap₂ (λ (a b : List QuantNode). a ++ b) (term-nodes x) (heads-nodes xs)

  pub conds-nodes : (xs : List Cond) → flat_map nodes_in_cond (map (renamed_cond f) xs) ≡ flat_map nodes_in_cond xs
  conds-nodes [] = refl
  conds-nodes (x ∷ xs) = ap₂ (λ (a b : List QuantNode). a ++ b) (cond-nodes x) (conds-nodes xs)

  heads-folds : (xs : List Term) → list_any has_aggregate (map (renamed f) xs) ≡ list_any has_aggregate xs
  heads-folds = heads-alike f (wanted Aggregate) folds

  conds-folds : (xs : List Cond) → list_any has_aggregate_cond (map (renamed_cond f) xs) ≡ list_any has_aggregate_cond xs
  conds-folds = conds-alike f (wanted Aggregate) folds

  -- a box that owns none of the quantifiers whose columns are renamed
  module _ (root : ℕ) (bs : List Node) (P : ℕ → Bool) (stay : (r j : ℕ) → P r ≡ false → f r j ≡ col r j) (y : Node) (own : (r : ℕ) → P r ≡ true → owns r y ≡ false) (nod : (r : ℕ) → P r ≡ true → graph.nodes_in r y ≡ false) where
    abbrev z : Node
    z = renamed_node f y

    -- the head alone
    abbrev y0 : Node
    y0 = record y { parts = record y.parts { conds = record y.parts.conds { items = [] } } }

    head-same : ((r : ℕ) → P r ≡ true → list_any (reads r) y.parts.head ≡ false) → map (renamed f) y.parts.head ≡ y.parts.head
    head-same h = terms-same f (λ r j. not (P r)) (λ r j e. stay r j (not-true (P r) e)) y.parts.head (elim (cases_Bool (list_any (any_in (looking (λ r j. not (not (P r))) (λ r. false) (λ r. false) (λ r. true))) y.parts.head)) [
      | inr e ↦ e
      | inl e ↦ absurd (
          let u = search-at (λ r j. not (not (P r))) (λ r. true) y0 (or_left (list_any (any_in (looking (λ r j. not (not (P r))) (λ r. false) (λ r. false) (λ r. true))) y.parts.head) false e) in
          let p : P u.0 ≡ true = twice (P u.0) u.1.1.0 in
          let n = or_parts (list_any (names u.0) y.parts.head) (list_any (names_cond u.0) y.parts.conds.items) (nod u.0 p) in
          let rd = u.1.1.1 (or_from (list_any (names u.0) y.parts.head) false n.0 refl) in
          clash (list_any (reads u.0) y.parts.head) (sym (or-false (list_any (reads u.0) y.parts.head)) ∙ reads-at-read u.0 u.1.0 y0 rd) (h u.0 p))
    ])
      where
        twice : (b : Bool) → not (not b) ≡ true → b ≡ true
        twice true e = refl
        twice false e = e

    own-head : shapes.head_is_own y ≡ true → map (renamed f) y.parts.head ≡ y.parts.head
    own-head h = head-same (λ r p. own-unread r y h (own r p))

    fed-head : (a d : OwnedQuant) → In a y.quants → In d y.quants → shapes.fed_by_two bs y.parts.head a d ≡ true → map (renamed f) y.parts.head ≡ y.parts.head
    fed-head a d ja jd h =
        let t = two-parts bs y.parts.head a d h in
        head-same (λ q p. columns-unread q y.parts.head (columns_through bs a ++ columns_through bs d) t.columns (
        any-both (of_quant q) (columns_through bs a) (columns_through bs d)
        ∙ or_from (list_any (of_quant q) (columns_through bs a)) (list_any (of_quant q) (columns_through bs d)) (columns-none q a.id 1 (width_found (first (is_box a.over) bs)) (any-none (is_quant q) a y.quants (own q p) ja)) (columns-none q d.id 1 (width_found (first (is_box d.over) bs)) (any-none (is_quant q) d y.quants (own q p) jd))))

    width-same : width z ≡ width y
    width-same = ap (width_by y.parts.kind) (length-map (renamed f) y.parts.head)

    unfolded-same : is_unfolded z ≡ is_unfolded y
    unfolded-same = ap₂ (λ u v. not u && not v) (heads-folds y.parts.head) (conds-folds y.parts.conds.items)

    fed-same : (rs : List OwnedQuant) → y.quants ≡ rs → fed_by bs y.parts.head rs ≡ true → fed_by bs (map (renamed f) y.parts.head) rs ≡ true
    fed-same [] e h = h
    fed-same (a ∷ []) e h = h
    fed-same (a ∷ (d ∷ [])) e h = ap (λ hd. shapes.fed_by_two bs hd a d) (fed-head a d (subst (λ z. In a z) (sym e) (inl refl)) (subst (λ z. In d z) (sym e) (inr (inl refl))) h) ∙ h
    fed-same (a ∷ (d ∷ (t ∷ rs))) e h = h

    role-same : (k : Role) → role_fits root bs y k ≡ true → role_fits root bs z k ≡ true
    role-same Plain h = refl
    role-same Magic h = h
    role-same Fed h =
        let a = and_parts (not (y.id == root) && is_preserve y.parts.distinct && is_none y.parts.conds.items) (fed_by bs y.parts.head y.quants) h in
        let d = and_parts (not (y.id == root) && is_preserve y.parts.distinct) (is_none y.parts.conds.items) a.0 in
        and_from (not (y.id == root) && is_preserve y.parts.distinct && is_none (map (renamed_cond f) y.parts.conds.items)) (fed_by bs (map (renamed f) y.parts.head) y.quants)
        (and_from (not (y.id == root) && is_preserve y.parts.distinct) (is_none (map (renamed_cond f) y.parts.conds.items)) d.0 (none-map (renamed_cond f) y.parts.conds.items ∙ d.1)) (fed-same y.quants refl a.1)

    kind-same : (k : BoxKind) → kind_fits root bs y k ≡ true → kind_fits root bs z k ≡ true
    kind-same (Base t) h = ap₂ (λ u v. is_none y.quants && u && v && is_plain y.parts.role) (none-map (renamed_cond f) y.parts.conds.items) (none-map (renamed f) y.parts.head) ∙ h
    kind-same Select h = let x = and_parts (is_unfolded y) (role_fits root bs y y.parts.role) h in and_from (is_unfolded z) (role_fits root bs z y.parts.role) (unfolded-same ∙ x.0) (role-same y.parts.role x.1)
    kind-same (Group k) h =
        let a = and_parts (are_F 1 y.quants && is_none y.parts.conds.items && is_plain y.parts.role && head_folds k y.parts.head) (shapes.head_is_own y) h in
        ap₂ (λ (u : Bool) (hd : List Term). are_F 1 y.quants && u && is_plain y.parts.role && head_folds k hd && list_all (λ p. owns p y) (flat_map names_in hd)) (none-map (renamed_cond f) y.parts.conds.items) (own-head a.1) ∙ h
    kind-same (SetOp form types) h =
        ap (λ v. are_F 2 y.quants && list_all (arm_fits bs v) y.quants && nat_lt 0 v && is_none (map (renamed_cond f) y.parts.conds.items) && is_none (map (renamed f) y.parts.head) && is_plain y.parts.role) width-same
        ∙ ap₂ (λ u v. are_F 2 y.quants && list_all (arm_fits bs (width y)) y.quants && nat_lt 0 (width y) && u && v && is_plain y.parts.role) (none-map (renamed_cond f) y.parts.conds.items) (none-map (renamed f) y.parts.head) ∙ h
    kind-same OuterJoin h =
        let a = and_parts (are_F 2 y.quants && list_all is_column y.parts.head && shapes.head_is_own y && is_unfolded y) (is_plain y.parts.role) h in
        let d = and_parts (are_F 2 y.quants && list_all is_column y.parts.head && shapes.head_is_own y) (is_unfolded y) a.0 in
        let e = and_parts (are_F 2 y.quants && list_all is_column y.parts.head) (shapes.head_is_own y) d.0 in
        ap₂ (λ (hd : List Term) (u : Bool). are_F 2 y.quants && list_all is_column hd && list_all (λ p. owns p y) (flat_map names_in hd) && u && is_plain y.parts.role) (own-head e.1) unfolded-same ∙ h

    nodes-same : nodes_of z ≡ nodes_of y
    nodes-same = ap₂ (λ (a b : List QuantNode). a ++ b) (heads-nodes y.parts.head) (conds-nodes y.parts.conds.items)

    placed-same : (hs : List Node) → Sound hs root → In z hs → (k : BoxKind) → y.parts.kind ≡ k → kind_fits root bs y k ≡ true → columns_placed z ≡ true
    placed-same hs v j (Base t) e h = rows-placed z (rows-only bs root y (Base t) h refl)
    placed-same hs v j Select e h = select-placed hs root v z j e
    placed-same hs v j (Group k) e h = rows-placed z (rows-only bs root y (Group k) h refl)
    placed-same hs v j (SetOp form types) e h = rows-placed z (rows-only bs root y (SetOp form types) h refl)
    placed-same hs v j OuterJoin e h = rows-placed z (rows-only bs root y OuterJoin h refl)

    pub shape-renamed : (hs : List Node) → Sound hs root → In z hs → shape_fits root bs y ≡ true → shape_fits root bs z ≡ true
    shape-renamed hs v j h =
        let p = shape-parts root bs y h in
        shape-from root bs z (record { kind = kind-same y.parts.kind p.kind; nodes = ap (list_all (node_fits y.quants)) nodes-same ∙ p.nodes; placed = placed-same hs v j y.parts.kind refl p.kind; scalar = λ t. ap (nat_lt 0) width-same ∙ p.scalar t })
