-- A settled graph stays settled where a box that looks up one quantifier alone is fed with it.
use Rattle.std.proofs.Common.{ℕ, zero, suc, ◌==◌, ◌≡◌, ◌≤◌, ◌+◌, ◌++◌, ◌&&◌, cond, nat_le, nat_lt, map, not, Bool, true, false, List, [], ◌∷◌, length, ◌⊎◌, refl, sym, ap, subst, ◌∙◌, eqb-true, inl, inr, arith}
use Rattle.std.specs.List.{list_all, list_any}
use Rattle.std.proofs.lemmas.Bool.{and_from, and_parts, cases_Bool, eq-eqb, leb-true, or_cases, or_left, or_right}
use Rattle.list_laws.specs.Lists.{In, holds}
use Rattle.list_laws.proofs.Booleans.{clash, neither-left, neither-right}
use Rattle.list_laws.proofs.Membership.{all-from, all-in, any-from, any-in, any-none, eq-false-sym, eq-itself, in-append}
use Rattle.qgm_core.specs.Boxes.{has_box, is_quant, owns, width}
use Rattle.qgm_core.specs.Edits.{range}
use Rattle.qgm_core.specs.Free.{named_by}
use Rattle.qgm_core.specs.Kinds.{is_F, is_S, is_magic, width_by}
use Rattle.qgm_core.specs.declared.kinds.BoxKind.{BoxKind}
use Rattle.qgm_core.specs.declared.kinds.BoxKind.TheVariants.{Select}
use Rattle.qgm_core.specs.declared.kinds.QuantKind.TheVariants.{F}
use Rattle.qgm_core.specs.declared.kinds.Role.{Role}
use Rattle.qgm_core.specs.declared.kinds.Role.TheVariants.{Plain}
use Rattle.qgm_core.specs.declared.node.Node.{Node}
use Rattle.qgm_core.specs.declared.owned.OwnedQuant.{OwnedQuant}
use Rattle.qgm_core.proofs.Reaching.{in-has, overs-held}
use Rattle.qgm_meaning.specs.Scope.{loose, put_node}
use Rattle.qgm_meaning.specs.Searches.{names, names_cond}
use Rattle.qgm_meaning.specs.Tags.{columns_from}
use Rattle.qgm_terms.specs.Named.{columns_in}
use Rattle.qgm_terms.specs.Substitution.{cell_at, column_substituted, substituted, substituted_cond}
use Rattle.qgm_terms.specs.Terms as t
use Rattle.qgm_terms.specs.Terms.{Cond, Term, always, and, col, compare, null_int, or, same}
use Rattle.qgm_terms.specs.declared.named.Column.{Column}
use Rattle.qgm_wellformed.specs.Columns.{columns_of}
use Rattle.qgm_wellformed.specs.Shapes.{nodes_of}
use Rattle.qgm_edit_laws.specs.Graph as graph
use Rattle.qgm_edit_laws.specs.Graph.{Sound, reads_in}
use Rattle.qgm_edit_laws.specs.Rebuilds.{IsOwned}
use Rattle.qgm_edit_laws.specs.Shaped.{Shaped, Typed}
use Rattle.qgm_edit_laws.proofs.Adds.{loose-owned}
use Rattle.qgm_edit_laws.proofs.FreeLoose.{free-looks}
use Rattle.qgm_edit_laws.proofs.Interposed.{over_now}
use Rattle.qgm_edit_laws.proofs.Ranks.{has-in, same-box}
use Rattle.qgm_edit_laws.proofs.Read.{column-named, columns-listed, is_at}
use Rattle.qgm_edit_laws.proofs.Rebuilt.{one-quant}
use Rattle.qgm_edit_laws.proofs.Scope.{one-owner}
use Rattle.qgm_edit_laws.proofs.Turns.{first-own}
use Rattle.qgm_edit_laws.proofs.TypedKept.{Ranging, found}
use Rattle.qgm_props.specs.Calm.{calm_column, calm_magic, clean_below, is_closed}
use Rattle.qgm_props.specs.Inferred.{Closed, Facts, all_places, all_under_F, at_place, clean_by, cond_free, error_free_under, free_by, is_free}
use Rattle.qgm_props.specs.Laws.{Tells}
use Rattle.qgm_props.proofs.Settled.{all-told}
use Rattle.rule_feed.specs.Feed.{Numbers, all_of, conj, fed_below, fed_boxes, fed_cond, fed_node, fed_owner, fed_term, how_many, inside, joins, named_below, new_fed, new_magic, picked, put_cells, up}
use Rattle.rule_feed.specs.FeedLaws.{FeedsOne}
use Rattle.rule_feed.proofs.FeedLooks as looks
use Rattle.rule_feed.proofs.FeedReads.{columns-cell, length-picked, put-cell}
use Rattle.rule_feed.proofs.FeedRegion as region
use Rattle.rule_feed.proofs.FeedScope as feed_scope
use Rattle.rule_feed.proofs.FeedSound as fed
use Rattle.rule_feed.proofs.FeedTyped as typed
use Rattle.rule_feed.proofs.FeedTyped.{turned-has, turned-stays}
use Rattle.rule_calm.specs.Settled.{IsFirm, SettledBox, has_no_single, single_free}
use Rattle.rule_calm.proofs.BehindFacts.{place-map, single-put}
use Rattle.rule_calm.proofs.ClosedParts.{closed-own, open-not-firm, over-clean}
use Rattle.rule_calm.proofs.FedSettled.{below-calm, columns-calm, free-by}
use Rattle.rule_calm.proofs.Framed.{Carried, Covers, FirmStays, back, back-carried, firm-single, firm-stays, kept-clean, kept-free, known-clean, known-free, range-is, settled-from, told-closed}
use Rattle.rule_calm.proofs.FreeTerms.{SameNodes, cl_of, cond-is, cond_with, ef_of, free_with, one_of}
use Rattle.rule_calm.proofs.HeadPlaces.{columns-single, place-alone, place-left, place-range, place-right}
use Rattle.rule_calm.proofs.MappedBox.{Image, Match, S-not-F, all-made, cell-mapped, cond-mapped, image-covers, image-settled, own-nodes}
use Rattle.rule_calm.proofs.MappedTerms.{as_it_is, behind_i, every_i, fed-mapped, fed-mapped-cond, mapped_cond, put-mapped, put-mapped-cond, some_i}
use Rattle.rule_calm.proofs.MappedTerms as terms
use Rattle.rule_calm.proofs.PartFacts.{above-not-under, part-carried, under, under-itself, under-named, under-over}
use Rattle.rule_calm.proofs.RebuiltSettled.{nodes-fit}
use Rattle.rule_calm.proofs.StepFacts.{F-from, F-in, closed-looks, looks-closed, map-same, shut-looks}
use Rattle.rule_calm.proofs.TurnSettled.{select-single}

-- ---- lists of the new boxes

picked-all : (P : Term → Bool) (named : ℕ → Bool) (q w k : ℕ) → ((z : ℕ) → named z ≡ true → P (col q z) ≡ true) → list_all P (picked named q k w) ≡ true
picked-all P named q zero k h = refl
picked-all P named q (suc w) k h = at (named k) refl (picked-all P named q w (suc k) h)
  where
    at : (b : Bool) → named k ≡ b → list_all P (picked named q (suc k) w) ≡ true → list_all P (cond b (col q k ∷ picked named q (suc k) w) (picked named q (suc k) w)) ≡ true
    at true e rec = and_from (P (col q k)) (list_all P (picked named q (suc k) w)) (h k e) rec
    at false e rec = rec

place-all : (P : Term → Bool) (xs : List Term) (k : ℕ) → list_all P xs ≡ true → 1 ≤ k → k ≤ length xs → at_place P xs k ≡ true
place-all P xs zero h a o = absurd (let z : ⊥ = omega (arith, a) in z)
place-all P [] (suc k) h a o = absurd (let e : length {A = Term} [] ≡ 0 = refl in let z : ⊥ = omega (arith, o, e) in z)
place-all P (x ∷ xs) (suc zero) h a o = (and_parts (P x) (list_all P xs) h).0
place-all P (x ∷ xs) (suc (suc k)) h a o = place-all P xs (suc k) (and_parts (P x) (list_all P xs) h).1 (omega arith) (let e : length (x ∷ xs) ≡ suc (length xs) = refl in omega (arith, o, e))

joins-all : (P : Cond → Bool) (named : ℕ → Bool) (p i w k j n : ℕ) → ((z l : ℕ) → named z ≡ true → 1 ≤ l → l ≤ n → P (compare same (col p z) (col i l)) ≡ true) → 1 ≤ j → j + how_many named k w ≤ suc n → list_all P (joins named p i k j w) ≡ true
joins-all P named p i zero k j n h a o = refl
joins-all P named p i (suc w) k j n h a o = at (named k) refl o (λ e l. joins-all P named p i w (suc k) (suc j) n h (omega (arith, a)) l) (λ e l. joins-all P named p i w (suc k) j n h a l)
  where
    at : (b : Bool) → named k ≡ b → j + cond b (suc (how_many named (suc k) w)) (how_many named (suc k) w) ≤ suc n → (named k ≡ true → suc j + how_many named (suc k) w ≤ suc n → list_all P (joins named p i (suc k) (suc j) w) ≡ true)
        → (named k ≡ false → j + how_many named (suc k) w ≤ suc n → list_all P (joins named p i (suc k) j w) ≡ true)
        → list_all P (cond b (compare same (col p k) (col i j) ∷ joins named p i (suc k) (suc j) w) (joins named p i (suc k) j w)) ≡ true
    at true e o more others = and_from (P (compare same (col p k) (col i j))) (list_all P (joins named p i (suc k) (suc j) w)) (h k j e a (omega (arith, o))) (more e (omega (arith, o)))
    at false e o more others = others e o

module _ (ef : ℕ → ℕ → Bool) (cl one : ℕ → Bool) (two : Bool) where
  conj-free : (x : Cond) (ys : List Cond) → cond_with ef cl one two x ≡ true → list_all (cond_with ef cl one two) ys ≡ true → cond_with ef cl one two (conj x ys) ≡ true
  conj-free x [] h k = h
  conj-free x (y ∷ ys) h k =
      let z = and_parts (cond_with ef cl one two y) (list_all (cond_with ef cl one two) ys) k in
      conj-free (and x y) ys (and_from (cond_with ef cl one two x) (cond_with ef cl one two y) h z.0) z.1

  all_of-free : (ys : List Cond) → list_all (cond_with ef cl one two) ys ≡ true → cond_with ef cl one two (all_of ys) ≡ true
  all_of-free [] k = refl
  all_of-free (y ∷ ys) k = let z = and_parts (cond_with ef cl one two y) (list_all (cond_with ef cl one two) ys) k in conj-free y ys z.0 z.1

put-single : (named : ℕ → Bool) (q w k j : ℕ) → list_all single_free (put_cells named q k j w) ≡ true
put-single named q zero k j = refl
put-single named q (suc w) k j = at (named k) (put-single named q w (suc k) (suc j)) (put-single named q w (suc k) j)
  where
    at : (b : Bool) → list_all single_free (put_cells named q (suc k) (suc j) w) ≡ true → list_all single_free (put_cells named q (suc k) j w) ≡ true → list_all single_free (cond b (col q j ∷ put_cells named q (suc k) (suc j) w) (null_int ∷ put_cells named q (suc k) j w)) ≡ true
    at true x y = x
    at false x y = y

-- places up to w
places-from : (w : ℕ) (f : ℕ → Bool) → ((k : ℕ) → 1 ≤ k → k ≤ w → f k ≡ true) → all_places w f ≡ true
places-from zero f h = refl
places-from (suc w) f h = and_from (f (suc w)) (all_places w f) (h (suc w) (omega arith) (omega arith)) (places-from w f (λ k a o. h k a (omega (arith, o))))

module _ (xs ys : List Node) (root : ℕ) (w : Sound (xs ++ ys) root) (ty : Typed (xs ++ ys)) (sh : Shaped (xs ++ ys) root) (b s c : Node) (rp ri : OwnedQuant) (x : Numbers) (m : FeedsOne xs ys root b s c rp ri x) (shh : Shaped (fed_boxes xs ys b s c rp ri x) root) (plain : b.parts.role ≡ Plain)
    (f : Facts) (tells : Tells f (xs ++ ys)) (settled : (n : Node) → In n (xs ++ ys) → SettledBox (xs ++ ys) f root n) (closed_b : is_closed (xs ++ ys) b.id ≡ true) where
  abbrev bs : List Node
  bs = xs ++ ys

  abbrev hs : List Node
  hs = fed_boxes xs ys b s c rp ri x

  abbrev p : ℕ
  p = rp.id

  abbrev i : ℕ
  i = ri.id

  abbrev named : ℕ → Bool
  named = named_below (xs ++ ys) c.id rp.id

  abbrev ins : ℕ → Bool
  ins = inside (xs ++ ys) c.id

  abbrev W : ℕ
  W = width s

  abbrev N : ℕ
  N = how_many (named_below (xs ++ ys) c.id rp.id) 1 (width s)

  abbrev V : ℕ
  V = width c

  abbrev ks : List Cond
  ks = joins (named_below (xs ++ ys) c.id rp.id) rp.id ri.id 1 1 (width s)

  abbrev K : Cond
  K = all_of (joins (named_below (xs ++ ys) c.id rp.id) rp.id ri.id 1 1 (width s))

  abbrev G : Node → Node
  G = fed_node (xs ++ ys) b s c rp ri x

  abbrev b' : Node
  b' = fed_owner (named_below (xs ++ ys) c.id rp.id) rp.id ri x.d (width s) b

  abbrev d' : Node
  d' = new_fed (xs ++ ys) b s c rp ri x

  abbrev m' : Node
  m' = new_magic (xs ++ ys) b s c rp ri x

  abbrev pcells : List Term
  pcells = put_cells (named_below (xs ++ ys) c.id rp.id) x.dm 1 1 (width s)

  abbrev icells : List Term
  icells = columns_from ri.id (suc (how_many (named_below (xs ++ ys) c.id rp.id) 1 (width s))) (width c)

  v : Sound hs root
  v = fed.sound-after xs ys root w b s c rp ri x m

  in-b : In b bs
  in-b = feed_scope.in-b xs ys root w b s c rp ri x m

  in-s : In s bs
  in-s = feed_scope.in-s xs ys root w b s c rp ri x m

  in-c : In c bs
  in-c = feed_scope.in-c xs ys root w b s c rp ri x m

  g-in : (y : Node) → In y bs → In (G y) hs
  g-in = typed.g-in xs ys root w ty b s c rp ri x m

  d-in : In d' hs
  d-in = typed.d-in xs ys root w ty b s c rp ri x m

  m-in : In m' hs
  m-in = typed.m-in xs ys root w ty b s c rp ri x m

  g-b : G b ≡ b'
  g-b = region.g-b xs ys root w b s c rp ri x m b (eq-itself b.id)

  b-in : In b' hs
  b-in = subst (λ (z : Node). In z hs) g-b (g-in b in-b)

  -- ---- what is looked up

  held : (z : ℕ) → has_box bs z ≡ true → has_box hs z ≡ true
  held z h = let y = has-in z bs h in subst (λ k. has_box hs k ≡ true) (feed_scope.id xs ys root w b s c rp ri x m y.0 ∙ y.1.1) (in-has (G y.0) hs (g-in y.0 y.1.0))

  more : (z q : ℕ) → has_box bs z ≡ true → looks.look xs ys root w b s c rp ri x m z q ≡ true → loose hs z q ≡ true
  more z q h = looks.more xs ys root w b s c rp ri x m z q (held z h)

  shut : (z : ℕ) → has_box bs z ≡ true → is_closed hs z ≡ is_closed bs z
  shut z h = shut-looks bs hs root w v z
      (λ k l. feed_scope.look-some xs ys root w b s c rp ri x m z k (looks.less xs ys root w b s c rp ri x m z k l))
      (λ k l. elim (cases_Bool (ins z)) [
        | inr o ↦ (k, more z k h (feed_scope.look-out xs ys root w b s c rp ri x m z k o ∙ l))
        | inl o ↦ elim (cases_Bool (k == p)) [
          | inl e ↦ (x.dm, more z x.dm h (feed_scope.look-dm xs ys root w b s c rp ri x m z o ∙ subst (λ q. loose bs z q ≡ true) (eqb-true k p e) l))
          | inr e ↦ (k, more z k h (feed_scope.look-else xs ys root w b s c rp ri x m z k o (not-dm k l) e ∙ l))
        ]
      ])
    where
      not-dm : (k : ℕ) → loose bs z k ≡ true → (k == x.dm) ≡ false
      not-dm k l = elim (cases_Bool (k == x.dm)) [
        | inr e ↦ e
        | inl e ↦ absurd (clash (list_any (owns x.dm) bs) (subst (λ q. list_any (owns q) bs ≡ true) (eqb-true k x.dm e) (loose-owned bs root w z k l)) m.new_dm)
      ]

  open-c : is_closed bs ri.over ≡ false
  open-c = elim (cases_Bool (is_closed bs ri.over)) [ inr e ↦ e | inl e ↦ absurd (clash (loose bs c.id p) m.opened (subst (λ z. loose bs z p ≡ false) m.over_c (closed-looks bs root w ri.over e p))) ]

  closed-b' : (q : ℕ) → loose hs b'.id q ≡ false
  closed-b' = closed-looks hs root v b.id (shut b.id (in-has b bs in-b) ∙ closed_b)

  new-closed : (z : ℕ) → has_box bs z ≡ false → (q : ℕ) → loose hs z q ≡ false
  new-closed z h q = elim (cases_Bool (loose hs z q)) [
    | inr e ↦ e
    | inl e ↦ absurd (clash (looks.look xs ys root w b s c rp ri x m z q) (looks.less xs ys root w b s c rp ri x m z q e) (feed_scope.look-none xs ys root w b s c rp ri x m z q (feed_scope.new-none xs ys root w b s c rp ri x m z h)))
  ]

  -- ---- the other boxes

  abbrev F1 : ℕ → ℕ → Term
  F1 = column_substituted rp.id (put_cells (named_below (xs ++ ys) c.id rp.id) x.dm 1 1 (width s))

  abbrev F2 : ℕ → ℕ → Term
  F2 = column_substituted ri.id (columns_from ri.id (suc (how_many (named_below (xs ++ ys) c.id rp.id) 1 (width s))) (width c))

  bare-head : (q : ℕ) (y : Node) → graph.nodes_in q y ≡ false → (e : Term) → In e y.parts.head → names q e ≡ false
  bare-head q y h e j = any-none (names q) e y.parts.head (neither-left (list_any (names q) y.parts.head) (list_any (names_cond q) y.parts.conds.items) h) j

  bare-conds : (q : ℕ) (y : Node) → graph.nodes_in q y ≡ false → (e : Cond) → In e y.parts.conds.items → names_cond q e ≡ false
  bare-conds q y h e j = any-none (names_cond q) e y.parts.conds.items (neither-right (list_any (names q) y.parts.head) (list_any (names_cond q) y.parts.conds.items) h) j

  image-in : (y : Node) → In y bs → Image F1 y (fed_below named c.id p x.dm W y)
  image-in y j = record {
    id = refl;
    kind = refl;
    role = refl;
    head = map-same (substituted p pcells) (terms.mapped F1 as_it_is as_it_is) y.parts.head (λ e k. put-mapped p pcells e (bare-head p y (feed_scope.not-node-p xs ys root w b s c rp ri x m y j) e k));
    conds = map-same (substituted_cond p pcells) (mapped_cond F1 as_it_is as_it_is) y.parts.conds.items (λ e k. put-mapped-cond p pcells e (bare-conds p y (feed_scope.not-node-p xs ys root w b s c rp ri x m y j) e k));
    quants = refl;
  }

  image-out : (y : Node) → In y bs → (y.id == b.id) ≡ false → Image F2 y (put_node i icells y)
  image-out y j nob = record {
    id = refl;
    kind = refl;
    role = refl;
    head = map-same (substituted i icells) (terms.mapped F2 as_it_is as_it_is) y.parts.head (λ e k. put-mapped i icells e (bare-head i y (feed_scope.not-node-i xs ys root w b s c rp ri x m y j nob) e k));
    conds = map-same (substituted_cond i icells) (mapped_cond F2 as_it_is as_it_is) y.parts.conds.items (λ e k. put-mapped-cond i icells e (bare-conds i y (feed_scope.not-node-i xs ys root w b s c rp ri x m y j nob) e k));
    quants = refl;
  }

  in-apart : (y : Node) → ins y.id ≡ true → (y.id == b.id) ≡ false
  in-apart = feed_scope.in-apart xs ys root w b s c rp ri x m

  below-in : (y : Node) → In y bs → ins y.id ≡ true → In (fed_below named c.id p x.dm W y) hs
  below-in y j t = subst (λ (z : Node). In z hs) (region.g-in xs ys root w b s c rp ri x m y (in-apart y t) t) (g-in y j)

  beside-in : (y : Node) → In y bs → (y.id == b.id) ≡ false → ins y.id ≡ false → In (put_node i icells y) hs
  beside-in y j nob t = subst (λ (z : Node). In z hs) (region.g-out xs ys root w b s c rp ri x m y nob t) (g-in y j)

  -- ---- firm boxes

  image-firm : (φ : ℕ → ℕ → Term) (y z : Node) → Image φ y z → In y bs → In z hs → FirmStays bs hs (λ k. true) y
  image-firm φ y z e j k = record {
    n = z;
    after = k;
    id = e.id;
    kind = e.kind;
    role = e.role;
    conds = λ h. e.conds ∙ ap (map (mapped_cond φ as_it_is as_it_is)) h;
    quants = e.quants;
    over = λ r l. refl;
    shut = shut y.id (in-has y bs j);
    shut_over = λ r l. shut r.over (overs-held bs y r w.ordered j l);
  }

  firm : (z : ℕ) → IsFirm bs z → IsFirm hs z
  firm z h = firm-stays bs hs (λ k. true) (λ u j k. elim (cases_Bool (u.id == b.id)) [
    | inl e ↦ inr (λ y. open-not-firm bs root w b in-b m.a_select closed_b ri m.owned_i open-c (subst (IsFirm bs) (eqb-true u.id b.id e) y))
    | inr e ↦ elim (cases_Bool (ins u.id)) [
      | inl t ↦ inl (image-firm F1 u (fed_below named c.id p x.dm W u) (image-in u j) j (below-in u j t))
      | inr t ↦ inl (image-firm F2 u (put_node i icells u) (image-out u j e) j (beside-in u j e t))
    ]
  ]) z h refl

  abbrev g : Facts
  g = (all-told hs).0

  closed : Closed hs g
  closed = told-closed hs g (all-told hs).1

  one : (z : ℕ) → IsFirm hs z → g.at_most_one z ≡ true
  one = firm-single hs v.ordered g closed

  single : (n : Node) → In n bs → (r : OwnedQuant) → In r n.quants → is_S r.kind ≡ true → g.at_most_one r.over ≡ true
  single n j r k h = one r.over (firm r.over ((settled n j).scalars r k h))

  -- ---- quantifiers

  -- one that isn't i ranges over the same box after
  owner-now : (y : Node) → In y bs → (r : OwnedQuant) → In r y.quants → (r.id == i) ≡ false → IsOwned hs r
  owner-now y j r k h = elim (cases_Bool (y.id == b.id)) [
    | inr e ↦ (G y, (g-in y j, subst (λ (z : List OwnedQuant). In r z) (sym (fed.quants-same xs ys root w b s c rp ri x m y j e)) k))
    | inl e ↦ (
        let o : b ≡ y = same-box bs b y w.ordered in-b j (sym (eqb-true y.id b.id e)) in
        (G b, (g-in b in-b, subst (λ (z : List OwnedQuant). In r z) (sym (fed.quants-b xs ys root w b s c rp ri x m)) (turned-stays i x.d b.quants r (subst (λ (z : Node). In r z.quants) (sym o) k) h))))
  ]

  abbrev ri' : OwnedQuant
  ri' = over_now x.d ri

  i-in : In ri' b'.quants
  i-in = turned-has i x.d b.quants ri (first-own ri b.quants (feed_scope.few-b xs ys root w b s c rp ri x m i) m.owned_i)

  i-owned : IsOwned hs ri'
  i-owned = (b', (b-in, i-in))

  found-column : (y : Node) → In y bs → (e : Column) → In e (columns_of y) → Ranging bs e.quant
  found-column y j e k = found bs root w y j e.quant (column-named e.quant e.place y (any-from (is_at e.quant e.place) e (columns_of y) k (and_from (e.quant == e.quant) (e.place == e.place) (eq-itself e.quant) (eq-itself e.place))))

  column-holds : (y : Node) (e : Column) → In e (columns_of y) → holds e.quant (named_by y) ≡ true
  column-holds y e k = column-named e.quant e.place y (any-from (is_at e.quant e.place) e (columns_of y) k (and_from (e.quant == e.quant) (e.place == e.place) (eq-itself e.quant) (eq-itself e.place)))

  -- a column of another quantifier than i
  column-now : (f' : Facts) (q k : ℕ) → (o : Ranging bs q) → (f'.error_free o.quant.over k ≡ true → g.error_free o.quant.over k ≡ true) → (q == i) ≡ false → error_free_under bs f' q k ≡ true → error_free_under hs g q k ≡ true
  column-now f' q k o up e h =
      subst (λ z. error_free_under hs g z k ≡ true) o.is_q (range-is hs root v (λ z. g.error_free z k) o.quant (owner-now o.owner o.owner_in o.quant o.quant_in (ap (λ z. z == i) o.is_q ∙ e))
      ∙ up (sym (range-is bs root w (λ z. f'.error_free z k) o.quant (o.owner, (o.owner_in, o.quant_in))) ∙ ap (λ z. error_free_under bs f' z k) o.is_q ∙ h))

  -- ---- what s reaches

  abbrev part : ℕ → Bool
  part = under (xs ++ ys) s.id

  part-not-b : (y : Node) → part y.id ≡ true → (y.id == b.id) ≡ false
  part-not-b y h = elim (cases_Bool (y.id == b.id)) [ inr e ↦ e | inl e ↦ absurd (above-not-under bs root w s.id b rp in-b m.owned_p m.over_s (subst (λ z. part z ≡ true) (eqb-true y.id b.id e) h)) ]

  part-over : (y : Node) → In y bs → part y.id ≡ true → (r : OwnedQuant) → In r y.quants → part r.over ≡ true
  part-over y j h r k = under-over bs root w s.id y r j k h

  part-named : (y : Node) → In y bs → part y.id ≡ true → (e : Column) → In e (columns_of y) → (o : Ranging bs e.quant) → part o.owner.id ≡ true
  part-named y j h e k o = elim (under-named bs root w s.id y o.quant j h (subst (λ q. holds q (named_by y) ≡ true) (sym o.is_q) (column-holds y e k)) (o.owner, (o.owner_in, o.quant_in))) [
    | inr u ↦ u
    | inl u ↦ absurd (clash (loose bs s.id o.quant.id) (free-looks bs root w s.id o.quant.id u) (m.closed o.quant.id))
  ]

  not-of-b : (q k : ℕ) (o : Ranging bs k) → part o.owner.id ≡ true → owns q b ≡ true → (k == q) ≡ false
  not-of-b q k o h own = elim (cases_Bool (k == q)) [
    | inr e ↦ e
    | inl e ↦ absurd (
        let y : o.owner ≡ b = one-owner bs root w q o.owner b o.owner_in in-b (any-from (is_quant q) o.quant o.owner.quants o.quant_in (eq-eqb o.quant.id q (o.is_q ∙ eqb-true k q e))) own in
        clash (o.owner.id == b.id) (eq-eqb o.owner.id b.id (ap (λ (z : Node). z.id) y)) (part-not-b o.owner h))
  ]

  part-free : (y : Node) → In y bs → part y.id ≡ true → (e : Column) → In e (columns_of y) → ((e.quant == p) ≡ false) × (((e.quant == i) ≡ false) × (error_free_under bs (back bs hs f g part) e.quant e.place ≡ true → error_free_under hs g e.quant e.place ≡ true))
  part-free y j h e k =
      let o = found-column y j e k in
      let u = part-named y j h e k o in
      let not-i = not-of-b i e.quant o u (feed_scope.own-i xs ys root w b s c rp ri x m) in (
        not-of-b p e.quant o u (feed_scope.own-p xs ys root w b s c rp ri x m),
        (not-i, λ z. column-now (back bs hs f g part) e.quant e.place o (λ a. (back-carried bs hs f g part).error_free o.quant.over e.place (part-over o.owner o.owner_in u o.quant o.quant_in) a) not-i z),
      )

  part-covers : (y : Node) → In y bs → part y.id ≡ true → Covers bs hs f g part y
  part-covers y j h = elim (cases_Bool (ins y.id)) [
    | inl t ↦ image-covers bs hs root w v F1 y (fed_below named c.id p x.dm W y) j (below-in y j t) (image-in y j) (nodes-fit bs root sh y j) (settled y j).no_single f g closed part h (part-over y j h) (single y j)
        (λ two e k z. (let q = part-free y j h e k in ap (λ a. free_with (ef_of hs g) (cl_of hs g) (one_of hs g) two (cond a (cell_at e.place pcells) (col e.quant e.place))) q.0 ∙ q.1.1 z))
    | inr t ↦ image-covers bs hs root w v F2 y (put_node i icells y) j (beside-in y j (part-not-b y h) t) (image-out y j (part-not-b y h)) (nodes-fit bs root sh y j) (settled y j).no_single f g closed part h (part-over y j h) (single y j)
        (λ two e k z. (let q = part-free y j h e k in ap (λ a. free_with (ef_of hs g) (cl_of hs g) (one_of hs g) two (cond a (cell_at e.place icells) (col e.quant e.place))) q.1.0 ∙ q.1.1 z))
  ]

  s-carried : Carried f g part
  s-carried = part-carried bs hs root w v sh f g tells closed settled (λ z. true) (λ z h k. firm z h) part (λ z h. refl) (λ n j h. inr (part-covers n j h))

  s-clean : g.clean s.id ≡ true
  s-clean = s-carried.clean s.id (under-itself bs root w s.id) (subst (λ z. f.clean z ≡ true) m.over_s (over-clean bs root w f settled b rp in-b m.owned_p))

  -- ---- columns that are named below

  was : (y : Node) → In y bs → (e : Column) → In e (columns_of y) → (owns e.quant y ≡ true) ⊎ (error_free_under bs f e.quant e.place ≡ true)
  was y j e k = or_cases (owns e.quant y) (error_free_under bs f e.quant e.place) (all-in (calm_column bs f y) e (columns_of y) (columns-calm bs f root y (settled y j)) k)

  named-free : (k : ℕ) → named k ≡ true → g.error_free s.id k ≡ true
  named-free k h =
      let y = any-in (λ (y : Node). inside bs c.id y.id && reads_in p k y) bs h in
      let z = and_parts (inside bs c.id y.0.id) (reads_in p k y.0) y.1.1 in
      let e = any-in (is_at p k) (columns_of y.0) (columns-listed p k y.0 z.1) in
      let at = and_parts (e.0.quant == p) (e.0.place == k) e.1.1 in
      let is-p = eqb-true e.0.quant p at.0 in
      let is-k = eqb-true e.0.place k at.1 in
      s-carried.error_free s.id k (under-itself bs root w s.id) (elim (was y.0 y.1.0 e.0 e.1.0) [
        | inl o ↦ absurd (clash (owns p y.0) (subst (λ q. owns q y.0 ≡ true) is-p o) (feed_scope.not-own xs ys root w b s c rp ri x m p (feed_scope.own-p xs ys root w b s c rp ri x m) y.0 y.1.0 (in-apart y.0 z.0)))
        | inr o ↦ subst (λ a. f.error_free a k ≡ true) m.over_s (sym (range-is bs root w (λ a. f.error_free a k) rp (b, (in-b, m.owned_p))) ∙ subst (λ a. error_free_under bs f p a ≡ true) is-k (subst (λ q. error_free_under bs f q e.0.place ≡ true) is-p o))
      ])

  -- ---- the magic box and the fed one

  m-clean : g.clean x.m ≡ true
  m-clean = known-clean hs v.ordered g closed m' m-in (and_from (g.clean s.id && true) true (and_from (g.clean s.id) true s-clean refl) refl)

  picked-free : list_all (is_free hs g false) (picked named x.mq 1 W) ≡ true
  picked-free = picked-all (is_free hs g false) named x.mq W 1 (λ z h. range-is hs root v (λ a. g.error_free a z) (range x.mq F s.id) (m', (m-in, inl refl)) ∙ named-free z h)

  m-free : (l : ℕ) → 1 ≤ l → l ≤ N → g.error_free x.m l ≡ true
  m-free l a o =
      let at = place-all (is_free hs g false) (picked named x.mq 1 W) l picked-free a (subst (λ z. l ≤ z) (sym (length-picked named x.mq W 1)) o) in
      known-free hs v.ordered g closed m' m-in l (place-range (is_free hs g false) (picked named x.mq 1 W) l at) at

  dm-free : (l : ℕ) → 1 ≤ l → l ≤ N → error_free_under hs g x.dm l ≡ true
  dm-free l a o = range-is hs root v (λ z. g.error_free z l) (range x.dm F x.m) (d', (d-in, inl refl)) ∙ m-free l a o

  d-clean : g.clean c.id ≡ true → g.clean x.d ≡ true
  d-clean h = known-clean hs v.ordered g closed d' d-in (and_from (g.clean x.m && (g.clean c.id && true)) true (and_from (g.clean x.m) (g.clean c.id && true) m-clean (and_from (g.clean c.id) true h refl)) refl)

  d-at : (l : ℕ) → at_place (is_free hs g false) (columns_from x.dm 1 N ++ columns_from x.dc 1 V) l ≡ true → g.error_free x.d l ≡ true
  d-at l at = known-free hs v.ordered g closed d' d-in l (place-range (is_free hs g false) (columns_from x.dm 1 N ++ columns_from x.dc 1 V) l at) at

  d-left : (l : ℕ) → 1 ≤ l → l ≤ N → g.error_free x.d l ≡ true
  d-left l a o = d-at l (place-left (is_free hs g false) x.dm N (columns_from x.dc 1 V) l a o (dm-free l a o))

  d-right : (k : ℕ) → g.error_free c.id k ≡ true → 1 ≤ k → k ≤ V → g.error_free x.d (N + k) ≡ true
  d-right k h a o = d-at (N + k) (place-right (is_free hs g false) x.dm N (columns_from x.dc 1 V) k (N + k) refl (place-alone (is_free hs g false) x.dc V k a o (range-is hs root v (λ z. g.error_free z k) (range x.dc F c.id) (d', (d-in, inr (inl refl))) ∙ h)))

  -- ---- the join back

  p-not-i : (p == i) ≡ false
  p-not-i = eq-false-sym i p (region.apart-ids xs ys root w b s c rp ri x m)

  of-p : (k : ℕ) → named k ≡ true → error_free_under hs g p k ≡ true
  of-p k h = range-is hs root v (λ z. g.error_free z k) rp (owner-now b in-b rp m.owned_p p-not-i) ∙ subst (λ z. g.error_free z k ≡ true) (sym m.over_s) (named-free k h)

  of-i : (l : ℕ) → g.error_free x.d l ≡ true → error_free_under hs g i l ≡ true
  of-i l h = range-is hs root v (λ z. g.error_free z l) ri' i-owned ∙ h

  join-free : (two : Bool) → list_all (cond_with (ef_of hs g) (cl_of hs g) (one_of hs g) two) ks ≡ true
  join-free two = joins-all (cond_with (ef_of hs g) (cl_of hs g) (one_of hs g) two) named p i W 1 1 N (λ z l h a o. and_from (error_free_under hs g p z) (error_free_under hs g i l) (of-p z h) (of-i l (d-left l a o))) (omega arith) (omega arith)

  K-free : (two : Bool) → cond_with (ef_of hs g) (cl_of hs g) (one_of hs g) two K ≡ true
  K-free two = all_of-free (ef_of hs g) (cl_of hs g) (one_of hs g) two ks (join-free two)

  -- ---- what stands for a column

  opposite : (a : Bool) → not a ≡ true → a ≡ true → ⊥
  opposite true h k = let z : ⊥ = cc in z
  opposite false h k = let z : ⊥ = cc in z

  put-free-p : (two : Bool) (k : ℕ) → free_with (ef_of hs g) (cl_of hs g) (one_of hs g) two (cell_at k pcells) ≡ true
  put-free-p two k = elim (cases_Bool (free_with (ef_of hs g) (cl_of hs g) (one_of hs g) two (cell_at k pcells))) [
    | inl e ↦ e
    | inr e ↦ absurd (
        let z = put-cell (λ a. not (free_with (ef_of hs g) (cl_of hs g) (one_of hs g) two a)) named x.dm W k refl (ap not e) in
        opposite (error_free_under hs g x.dm z.0) z.1.0 (dm-free z.0 z.1.1.0 z.1.1.1))
  ]

  -- by facts of before that are carried
  module _ (f' : Facts) (less : (z k : ℕ) → f'.error_free z k ≡ true → f.error_free z k ≡ true) (up-free : (z k : ℕ) → f'.error_free z k ≡ true → g.error_free z k ≡ true) where
    of-c : (k : ℕ) → error_free_under bs f' i k ≡ true → f'.error_free c.id k ≡ true
    of-c k h = subst (λ z. f'.error_free z k ≡ true) m.over_c (sym (range-is bs root w (λ z. f'.error_free z k) ri (b, (in-b, m.owned_i))) ∙ h)

    behind : (k : ℕ) → error_free_under bs f' i k ≡ true → 1 ≤ k → k ≤ V → error_free_under hs g i (N + k) ≡ true
    behind k h a o = of-i (N + k) (d-right k (up-free c.id k (of-c k h)) a o)

    put-free-i : (two : Bool) (k : ℕ) → error_free_under bs f' i k ≡ true → free_with (ef_of hs g) (cl_of hs g) (one_of hs g) two (cell_at k icells) ≡ true
    put-free-i two k h = elim (cases_Bool (free_with (ef_of hs g) (cl_of hs g) (one_of hs g) two (cell_at k icells))) [
      | inl e ↦ e
      | inr e ↦ absurd (
          let z = columns-cell (λ a. not (free_with (ef_of hs g) (cl_of hs g) (one_of hs g) two a)) i V N k refl (ap not e) in
          opposite (error_free_under hs g i (N + k)) z.0 (behind k h z.1.0 z.1.1))
    ]

    now : (y : Node) → In y bs → (e : Column) → In e (columns_of y) → (e.quant == i) ≡ false → error_free_under bs f' e.quant e.place ≡ true → error_free_under hs g e.quant e.place ≡ true
    now y j e k n h = let o = found-column y j e k in column-now f' e.quant e.place o (up-free o.quant.over e.place) n h

    columns-in-c : (y : Node) → In y bs → ins y.id ≡ true → (two : Bool) (e : Column) → In e (columns_of y) → ef_of bs f' e.quant e.place ≡ true → free_with (ef_of hs g) (cl_of hs g) (one_of hs g) two (F1 e.quant e.place) ≡ true
    columns-in-c y j t two e k h = elim (cases_Bool (e.quant == p)) [
      | inl q ↦ ap (λ a. free_with (ef_of hs g) (cl_of hs g) (one_of hs g) two (cond a (cell_at e.place pcells) (col e.quant e.place))) q ∙ put-free-p two e.place
      | inr q ↦ ap (λ a. free_with (ef_of hs g) (cl_of hs g) (one_of hs g) two (cond a (cell_at e.place pcells) (col e.quant e.place))) q ∙ now y j e k (typed.not-i xs ys root w ty b s c rp ri x m y j t e.quant (column-holds y e k)) h
    ]

    columns-out-c : (y : Node) → In y bs → (two : Bool) (e : Column) → In e (columns_of y) → ef_of bs f' e.quant e.place ≡ true → free_with (ef_of hs g) (cl_of hs g) (one_of hs g) two (F2 e.quant e.place) ≡ true
    columns-out-c y j two e k h = elim (cases_Bool (e.quant == i)) [
      | inl q ↦ ap (λ a. free_with (ef_of hs g) (cl_of hs g) (one_of hs g) two (cond a (cell_at e.place icells) (col e.quant e.place))) q ∙ put-free-i two e.place (subst (λ z. error_free_under bs f' z e.place ≡ true) (eqb-true e.quant i q) h)
      | inr q ↦ ap (λ a. free_with (ef_of hs g) (cl_of hs g) (one_of hs g) two (cond a (cell_at e.place icells) (col e.quant e.place))) q ∙ now y j e k q h
    ]

    up-free-i : (k : ℕ) → error_free_under bs f' i k ≡ true → error_free_under hs g i (up N k) ≡ true
    up-free-i k h = at k h (free-by bs f tells root w c in-c k (less c.id k (of-c k h))).0
      where
        at : (k : ℕ) → error_free_under bs f' i k ≡ true → (nat_lt 0 k && nat_le k (width c)) ≡ true → error_free_under hs g i (up N k) ≡ true
        at zero h l = absurd (let z : ⊥ = cc in z)
        at (suc k) h l = behind (suc k) h (omega arith) (leb-true (suc k) (width c) (and_parts (nat_lt 0 (suc k)) (nat_le (suc k) (width c)) l).1)

    columns-b : (two : Bool) (e : Column) → In e (columns_of b) → ef_of bs f' e.quant e.place ≡ true → free_with (ef_of hs g) (cl_of hs g) (one_of hs g) two (behind_i i N K e.quant e.place) ≡ true
    columns-b two e k h = elim (cases_Bool (e.quant == i)) [
      | inl q ↦ ap (λ a. free_with (ef_of hs g) (cl_of hs g) (one_of hs g) two (cond a (col e.quant (up N e.place)) (col e.quant e.place))) q
          ∙ subst (λ z. error_free_under hs g z (up N e.place) ≡ true) (sym (eqb-true e.quant i q)) (up-free-i e.place (subst (λ z. error_free_under bs f' z e.place ≡ true) (eqb-true e.quant i q) h))
      | inr q ↦ ap (λ a. free_with (ef_of hs g) (cl_of hs g) (one_of hs g) two (cond a (col e.quant (up N e.place)) (col e.quant e.place))) q ∙ now b in-b e k q h
    ]

    -- ---- the owner

    module _ (up-clean : (z : ℕ) → f'.clean z ≡ true → g.clean z ≡ true) where
      is-i : (r : OwnedQuant) → In r b.quants → (r.id == i) ≡ true → r ≡ ri
      is-i r j e = one-quant bs w.once r ri (b, (in-b, j)) (b, (in-b, m.owned_i)) (eqb-true r.id i e)

      match : (r : OwnedQuant) → In r b.quants → is_F r.kind ≡ false → Match bs hs root w v f' g b b' in-b b-in r
      match r j k = elim (cases_Bool (r.id == i)) [
        | inl e ↦ (
            let same = is-i r j e in
            record {
              now = ri';
              owned = i-in;
              same = sym (eqb-true r.id i e);
              clean = λ h. d-clean (up-clean c.id (subst (λ z. f'.clean z ≡ true) (ap (λ (z : OwnedQuant). z.over) same ∙ m.over_c) h));
              column = λ t. absurd (clash (is_S r.kind) t (ap (λ (z : OwnedQuant). is_S z.kind) same ∙ m.not_scalar));
            })
        | inr e ↦ record {
          now = r;
          owned = turned-stays i x.d b.quants r j e;
          same = refl;
          clean = up-clean r.over;
          column = λ t. (single b in-b r j t, up-free r.over 1);
        }
      ]

      nodes-b : SameNodes (ef_of bs f') (ef_of hs g) (cl_of bs f') (cl_of hs g) (one_of bs f') (one_of hs g) (nodes_of b)
      nodes-b = own-nodes bs hs root w v f' g b b' in-b b-in match (nodes-fit bs root sh b in-b)

      wraps : (two : Bool) (r : ℕ) (d : Cond) → cond_with (ef_of hs g) (cl_of hs g) (one_of hs g) two d ≡ true
          → (cond_with (ef_of hs g) (cl_of hs g) (one_of hs g) two (some_i i N K r d) ≡ true) × (cond_with (ef_of hs g) (cl_of hs g) (one_of hs g) two (every_i i N K r d) ≡ true)
      wraps two r d h = by (r == i)
        where
          both : (cond_with (ef_of hs g) (cl_of hs g) (one_of hs g) two K && cond_with (ef_of hs g) (cl_of hs g) (one_of hs g) two d) ≡ true
          both = and_from (cond_with (ef_of hs g) (cl_of hs g) (one_of hs g) two K) (cond_with (ef_of hs g) (cl_of hs g) (one_of hs g) two d) (K-free two) h

          by : (a : Bool) → (cond_with (ef_of hs g) (cl_of hs g) (one_of hs g) two (cond a (and K d) d) ≡ true) × (cond_with (ef_of hs g) (cl_of hs g) (one_of hs g) two (cond a (or (t.not K) d) d) ≡ true)
          by true = (both, both)
          by false = (h, h)

      ns-b : has_no_single b ≡ true
      ns-b = (settled b in-b).no_single

      cell-b : (e : Term) → In e b.parts.head → is_free bs f' false e ≡ true → is_free hs g false (fed_term i N K e) ≡ true
      cell-b e j h = ap (is_free hs g false) (fed-mapped i N K e) ∙ cell-mapped bs hs f' g b (behind_i i N K) (some_i i N K) (every_i i N K) ns-b columns-b nodes-b wraps false false e j h

      on-b : (d : Cond) → In d b.parts.conds.items → cond_free bs f' false d ≡ true → cond_free hs g false (fed_cond i N K d) ≡ true
      on-b d j h = ap (cond_free hs g false) (fed-mapped-cond i N K d) ∙ cond-mapped bs hs f' g b (behind_i i N K) (some_i i N K) (every_i i N K) ns-b columns-b nodes-b wraps d j h

      joins-free : list_all (cond_free hs g false) (cond (is_F ri.kind) ks []) ≡ true
      joins-free = by (is_F ri.kind)
        where
          by : (a : Bool) → list_all (cond_free hs g false) (cond a ks []) ≡ true
          by true = all-from (cond_free hs g false) ks (λ d j. cond-is hs g false d ∙ all-in (cond_with (ef_of hs g) (cl_of hs g) (one_of hs g) false) d ks (join-free false) j)
          by false = refl

      conds-b : list_all (cond_free bs f' false) b.parts.conds.items ≡ true → list_all (cond_free hs g false) b'.parts.conds.items ≡ true
      conds-b h = all-from (cond_free hs g false) (map (fed_cond i N K) b.parts.conds.items ++ cond (is_F ri.kind) ks []) (λ d j. elim (in-append d (map (fed_cond i N K) b.parts.conds.items) (cond (is_F ri.kind) ks []) j) [
        | inl k ↦ all-in (cond_free hs g false) d (map (fed_cond i N K) b.parts.conds.items) (all-made (fed_cond i N K) (cond_free hs g false) b.parts.conds.items (λ e l. on-b e l (all-in (cond_free bs f' false) e b.parts.conds.items h l))) k
        | inr k ↦ all-in (cond_free hs g false) d (cond (is_F ri.kind) ks []) joins-free k
      ])

      rows-b : all_under_F f'.clean b.quants ≡ true → all_under_F g.clean b'.quants ≡ true
      rows-b h = F-from g.clean b'.quants (λ r j k. elim (cases_Bool (r.id == i)) [
        | inl e ↦ (
            let same : r ≡ ri' = one-quant hs v.once r ri' (b', (b-in, j)) i-owned (eqb-true r.id i e) in
            let kind : is_F ri.kind ≡ true = sym (ap (λ (z : OwnedQuant). is_F z.kind) same) ∙ k in
            subst (λ (z : OwnedQuant). g.clean z.over ≡ true) (sym same) (d-clean (up-clean c.id (subst (λ z. f'.clean z ≡ true) m.over_c (F-in f'.clean b.quants ri m.owned_i kind h)))))
        | inr e ↦ elim (fed.in-old xs ys root w b s c rp ri x m b' r b in-b g-b j) [
          | inl l ↦ up-clean r.over (F-in f'.clean b.quants r l k h)
          | inr l ↦ absurd (clash (r.id == i) (eq-eqb r.id i l.1.1) e)
        ]
      ])

      clean-b : clean_by bs f' Select b ≡ true → g.clean b.id ≡ true
      clean-b h =
          let z = and_parts (all_under_F f'.clean b.quants) (list_all (cond_free bs f' false) b.parts.conds.items) h in
          known-clean hs v.ordered g closed b' b-in (subst (λ (z : BoxKind). clean_by hs g z b' ≡ true) (sym m.a_select) (and_from (all_under_F g.clean b'.quants) (list_all (cond_free hs g false) b'.parts.conds.items) (rows-b z.0) (conds-b z.1)))

      free-b : (k : ℕ) → free_by bs f' Select b k ≡ true → g.error_free b.id k ≡ true
      free-b k h =
          let at = place-map (fed_term i N K) (is_free bs f' false) (is_free hs g false) b.parts.head k cell-b h in
          known-free hs v.ordered g closed b' b-in k (subst (λ (z : BoxKind). (nat_lt 0 k && nat_le k (width_by z (length (map (fed_term i N K) b.parts.head)))) ≡ true) (sym m.a_select) (place-range (is_free hs g false) (map (fed_term i N K) b.parts.head) k at)) (subst (λ (z : BoxKind). free_by hs g z b' k ≡ true) (sym m.a_select) at)

  -- ---- all that was known is known

  abbrev bk : Facts
  bk = back bs hs f g (λ k. true)

  was-clean : (z : ℕ) → bk.clean z ≡ true → g.clean z ≡ true
  was-clean z h = (back-carried bs hs f g (λ k. true)).clean z refl h

  was-free : (z k : ℕ) → bk.error_free z k ≡ true → g.error_free z k ≡ true
  was-free z k h = (back-carried bs hs f g (λ k. true)).error_free z k refl h

  less-free : (z k : ℕ) → bk.error_free z k ≡ true → f.error_free z k ≡ true
  less-free z k h = (and_parts (f.error_free z k) (g.error_free z k) h).0

  covers : (n : Node) → In n bs → Covers bs hs f g (λ k. true) n
  covers n j = elim (cases_Bool (n.id == b.id)) [
    | inl e ↦ subst (Covers bs hs f g (λ k. true)) (same-box bs b n w.ordered in-b j (sym (eqb-true n.id b.id e))) (record {
      clean = λ k y h. clean-b bk less-free was-free was-clean (subst (λ (z : BoxKind). clean_by bs bk z b ≡ true) m.a_select h);
      error_free = λ q k y l h. free-b bk less-free was-free was-clean q (subst (λ (z : BoxKind). free_by bs bk z b q ≡ true) m.a_select h);
    })
    | inr e ↦ elim (cases_Bool (ins n.id)) [
      | inl t ↦ image-covers bs hs root w v F1 n (fed_below named c.id p x.dm W n) j (below-in n j t) (image-in n j) (nodes-fit bs root sh n j) (settled n j).no_single f g closed (λ k. true) refl (λ r k. refl) (single n j) (columns-in-c bk less-free was-free n j t)
      | inr t ↦ image-covers bs hs root w v F2 n (put_node i icells n) j (beside-in n j e t) (image-out n j e) (nodes-fit bs root sh n j) (settled n j).no_single f g closed (λ k. true) refl (λ r k. refl) (single n j) (columns-out-c bk less-free was-free n j)
    ]
  ]

  now-clean : (z : ℕ) → f.clean z ≡ true → g.clean z ≡ true
  now-clean z h = kept-clean bs hs f g (λ k. true) w.ordered tells covers z refl h

  now-free : (z k : ℕ) → f.error_free z k ≡ true → g.error_free z k ≡ true
  now-free z k h = kept-free bs hs f g (λ k. true) w.ordered tells covers z k refl h

  pub feed-carried : Carried f g (λ k. true)
  feed-carried = record { clean = λ z k h. now-clean z h; error_free = λ z l k h. now-free z l h }

  -- ---- each box is settled

  below-settled : (y : Node) → In y bs → ins y.id ≡ true → SettledBox hs g root (fed_below named c.id p x.dm W y)
  below-settled y j t = image-settled bs hs root w v F1 y (fed_below named c.id p x.dm W y) j (below-in y j t) (image-in y j) (nodes-fit bs root sh y j) (settled y j).no_single f g (now-clean y.id) (now-free y.id) (settled y j) columns
      (λ r k. single-put p pcells (put-single named x.dm W 1 1) (col r k) refl) (shut y.id (in-has y bs j)) (λ r k. shut r.over (overs-held bs y r w.ordered j k)) (λ r k h. firm r.over ((settled y j).scalars r k h)) one
    where
      columns : (e : Column) → In e (columns_of y) → (d : Column) → In d (columns_in (F1 e.quant e.place)) → calm_column hs g (fed_below named c.id p x.dm W y) d ≡ true
      columns e k d l = elim (cases_Bool (e.quant == p)) [
        | inl q ↦ elim (cases_Bool (calm_column hs g (fed_below named c.id p x.dm W y) d)) [
          | inl h ↦ h
          | inr h ↦ absurd (
              let o : In d (columns_in (cell_at e.place pcells)) = subst (λ (a : Bool). In d (columns_in (cond a (cell_at e.place pcells) (col e.quant e.place)))) q l in
              let z = put-cell (λ a. list_any (λ (b : Column). not (calm_column hs g (fed_below named c.id p x.dm W y) b)) (columns_in a)) named x.dm W e.place refl
              (any-from (λ (b : Column). not (calm_column hs g (fed_below named c.id p x.dm W y) b)) d (columns_in (cell_at e.place pcells)) o (ap not h)) in
              let u = any-in (λ (b : Column). not (calm_column hs g (fed_below named c.id p x.dm W y) b)) (columns_in (col x.dm z.0)) z.1.0 in
              opposite (calm_column hs g (fed_below named c.id p x.dm W y) u.0) u.1.1 (elim u.1.0 [
                | inl is ↦ or_right (owns u.0.quant y) (error_free_under hs g u.0.quant u.0.place) (ap (λ (b : Column). error_free_under hs g b.quant b.place) (sym is) ∙ dm-free z.0 z.1.1.0 z.1.1.1)
                | inr n ↦ elim n [ ]
              ]))
        ]
        | inr q ↦ (
            let o : In d (columns_in (col e.quant e.place)) = subst (λ (a : Bool). In d (columns_in (cond a (cell_at e.place pcells) (col e.quant e.place)))) q l in
            elim o [
              | inr n ↦ elim n [ ]
              | inl is ↦ subst (λ (b : Column). calm_column hs g (fed_below named c.id p x.dm W y) b ≡ true) is (elim (was y j e k) [
                | inl h ↦ or_left (owns e.quant y) (error_free_under hs g e.quant e.place) h
                | inr h ↦ or_right (owns e.quant y) (error_free_under hs g e.quant e.place) (now f (λ z k h. h) now-free y j e k (typed.not-i xs ys root w ty b s c rp ri x m y j t e.quant (column-holds y e k)) h)
              ])
            ])
      ]

  beside-settled : (y : Node) → In y bs → ins y.id ≡ false → (y.id == b.id) ≡ false → SettledBox hs g root (put_node i icells y)
  beside-settled y j t nob = image-settled bs hs root w v F2 y (put_node i icells y) j (beside-in y j nob t) (image-out y j nob) (nodes-fit bs root sh y j) (settled y j).no_single f g (now-clean y.id) (now-free y.id) (settled y j) columns
      (λ r k. single-put i icells (columns-single i (suc N) V) (col r k) refl) (shut y.id (in-has y bs j)) (λ r k. shut r.over (overs-held bs y r w.ordered j k)) (λ r k h. firm r.over ((settled y j).scalars r k h)) one
    where
      columns : (e : Column) → In e (columns_of y) → (d : Column) → In d (columns_in (F2 e.quant e.place)) → calm_column hs g (put_node i icells y) d ≡ true
      columns e k d l = elim (cases_Bool (e.quant == i)) [
        | inl q ↦ elim (cases_Bool (calm_column hs g (put_node i icells y) d)) [
          | inl h ↦ h
          | inr h ↦ absurd (
              let known : error_free_under bs f i e.place ≡ true = elim (was y j e k) [
                | inl o ↦ absurd (clash (owns i y) (subst (λ z. owns z y ≡ true) (eqb-true e.quant i q) o) (feed_scope.not-own xs ys root w b s c rp ri x m i (feed_scope.own-i xs ys root w b s c rp ri x m) y j nob))
                | inr o ↦ subst (λ z. error_free_under bs f z e.place ≡ true) (eqb-true e.quant i q) o
              ] in
              let o : In d (columns_in (cell_at e.place icells)) = subst (λ (a : Bool). In d (columns_in (cond a (cell_at e.place icells) (col e.quant e.place)))) q l in
              let z = columns-cell (λ a. list_any (λ (b : Column). not (calm_column hs g (put_node i icells y) b)) (columns_in a)) i V N e.place refl
              (any-from (λ (b : Column). not (calm_column hs g (put_node i icells y) b)) d (columns_in (cell_at e.place icells)) o (ap not h)) in
              let u = any-in (λ (b : Column). not (calm_column hs g (put_node i icells y) b)) (columns_in (col i (N + e.place))) z.0 in
              opposite (calm_column hs g (put_node i icells y) u.0) u.1.1 (elim u.1.0 [
                | inl is ↦ or_right (owns u.0.quant y) (error_free_under hs g u.0.quant u.0.place) (ap (λ (b : Column). error_free_under hs g b.quant b.place) (sym is) ∙ behind f (λ z k h. h) now-free e.place known z.1.0 z.1.1)
                | inr n ↦ elim n [ ]
              ]))
        ]
        | inr q ↦ (
            let o : In d (columns_in (col e.quant e.place)) = subst (λ (a : Bool). In d (columns_in (cond a (cell_at e.place icells) (col e.quant e.place)))) q l in
            elim o [
              | inr n ↦ elim n [ ]
              | inl is ↦ subst (λ (b : Column). calm_column hs g (put_node i icells y) b ≡ true) is (elim (was y j e k) [
                | inl h ↦ or_left (owns e.quant y) (error_free_under hs g e.quant e.place) h
                | inr h ↦ or_right (owns e.quant y) (error_free_under hs g e.quant e.place) (now f (λ z k h. h) now-free y j e k q h)
              ])
            ])
      ]

  -- a closed select has columns of its own alone
  own-columns : (n : Node) → In n hs → ((q : ℕ) → loose hs n.id q ≡ false) → list_all (calm_column hs g n) (columns_of n) ≡ true
  own-columns n j h = all-from (calm_column hs g n) (columns_of n) (λ e k. or_left (owns e.quant n) (error_free_under hs g e.quant e.place) (closed-own hs root v n j h e k))

  owner-settled : SettledBox hs g root b'
  owner-settled = settled-from hs g root b' below (own-columns b' b-in closed-b') (or_left (not (is_magic b.parts.role)) (calm_magic hs g b') (ap (λ (z : Role). not (is_magic z)) plain)) (select-single hs root shh b' b-in m.a_select) scalars one
    where
      below : clean_below hs g root b' ≡ true
      below = elim (or_cases (b.id == root) (f.clean b.id) (below-calm bs f root b (settled b in-b))) [ inl e ↦ or_left (b.id == root) (g.clean b.id) e | inr e ↦ or_right (b.id == root) (g.clean b.id) (now-clean b.id e) ]

      scalars : (r : OwnedQuant) → In r b'.quants → is_S r.kind ≡ true → IsFirm hs r.over
      scalars r j k = elim (fed.in-old xs ys root w b s c rp ri x m b' r b in-b g-b j) [
        | inl l ↦ firm r.over ((settled b in-b).scalars r l k)
        | inr l ↦ absurd (clash (is_S r.kind) k (ap (λ (z : OwnedQuant). is_S z.kind) (one-quant hs v.once r ri' (b', (b-in, j)) i-owned l.1.1) ∙ m.not_scalar))
      ]

  no-S : (r : OwnedQuant) → is_F r.kind ≡ true → is_S r.kind ≡ true → IsFirm hs r.over
  no-S r h k = absurd (clash (is_F r.kind) h (S-not-F r.kind k))

  fed-settled : SettledBox hs g root d'
  fed-settled = settled-from hs g root d' (or_right (x.d == root) (g.clean x.d) (d-clean (now-clean c.id (subst (λ z. f.clean z ≡ true) m.over_c (over-clean bs root w f settled b ri in-b m.owned_i))))) (own-columns d' d-in (new-closed x.d m.new_d)) refl
      (select-single hs root shh d' d-in refl) (λ r j k. elim j [ inl e ↦ no-S r (ap (λ (z : OwnedQuant). is_F z.kind) (sym e)) k | inr l ↦ elim l [ inl e ↦ no-S r (ap (λ (z : OwnedQuant). is_F z.kind) (sym e)) k | inr n ↦ elim n [ ] ] ]) one

  magic-settled : SettledBox hs g root m'
  magic-settled = settled-from hs g root m' (or_right (x.m == root) (g.clean x.m) m-clean) (own-columns m' m-in (new-closed x.m m.new_m))
      (and_from (is_closed hs x.m) ((is_closed hs s.id && true) && all_places (width m') (g.error_free x.m)) (looks-closed hs root v x.m (new-closed x.m m.new_m))
      (and_from (is_closed hs s.id && true) (all_places (width m') (g.error_free x.m)) (and_from (is_closed hs s.id) true (shut s.id (in-has s bs in-s) ∙ looks-closed bs root w s.id m.closed) refl)
      (subst (λ z. all_places z (g.error_free x.m) ≡ true) (sym (fed.width-m xs ys root w b s c rp ri x m)) (places-from N (g.error_free x.m) m-free))))
      (select-single hs root shh m' m-in refl) (λ r j k. elim j [ inl e ↦ no-S r (ap (λ (z : OwnedQuant). is_F z.kind) (sym e)) k | inr n ↦ elim n [ ] ]) one

  pub feed-settled : (n : Node) → In n hs → SettledBox hs g root n
  feed-settled = feed_scope.each xs ys root w b s c rp ri x m (SettledBox hs g root) owner-settled below-settled beside-settled fed-settled magic-settled
