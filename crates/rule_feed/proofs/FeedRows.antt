-- The rows of b over the fed box agree with those over c.
use Rattle.std.proofs.Common.{ℕ, ◌==◌, ◌≡◌, ◌&&◌, ◌||◌, cond, Bool, true, false, List, [], ◌∷◌, ◌++◌, map, length, refl, sym, ap, ap₂, subst, ◌∙◌, inl, inr}
use Rattle.std.specs.List.{list_any}
use Rattle.std.proofs.lemmas.Bool.{and_from, and_parts, cases_Bool, eq-eqb, or_cases}
use mathlib.Core.Path.{fun_ext}
use Rattle.row_bag.specs.AsSets.{stands}
use Rattle.row_bag.specs.Bags.{Alike, bind, keep, row, unit}
use Rattle.row_bag.specs.Sets.{once, same_cells}
use Rattle.row_bag.specs.Subqueries as subquery
use Rattle.row_bag.specs.Tags.{led}
use Rattle.row_bag.specs.Verdict.{is_there}
use Rattle.row_bag.proofs.Agreement.{alike-bind, alike-refl, alike-same, alike-trans}
use Rattle.row_bag.proofs.Binds.{keep-keep}
use Rattle.row_bag.proofs.FoldLaws.{every-alike, some-alike}
use Rattle.row_bag.proofs.Levels.{least-commutative, least-yes}
use Rattle.row_bag.proofs.TupleBags.{same_cells-decides}
use Rattle.sql_value.specs.Level.{least}
use Rattle.sql_value.specs.Truths as t
use Rattle.sql_value.specs.declared.cell.Cell.{Cell}
use Rattle.sql_value.specs.declared.level.Level.{Level}
use Rattle.sql_value.specs.declared.level.Level.TheVariants.{No, Cardinality, Division, Overflow, Yes}
use Rattle.sql_value.specs.declared.truth.Truth.{Truth}
use Rattle.qgm_core.specs.Kinds.{is_F}
use Rattle.list_laws.specs.Lists.{In}
use Rattle.qgm_core.specs.declared.owned.OwnedQuant.{OwnedQuant}
use Rattle.qgm_terms.specs.Terms.{Cond, Term}
use Rattle.qgm_terms.specs.Wanted.{reads, reads_cond}
use Rattle.qgm_meaning.specs.Meaning.{Family, over_each}
use Rattle.qgm_meaning.specs.Values.{Bag, Environment, all_true, bound, head_cells, row_of, truth}
use Rattle.qgm_meaning.proofs.Alikes.{bind-within}
use Rattle.qgm_meaning.proofs.Joined.{all_true-append, over_each-append}
use Rattle.qgm_meaning.proofs.Merged.{over_each-keep}
use Rattle.qgm_edit_laws.proofs.Loops.{over_each-related}
use Rattle.row_bag.specs.Order.{cell_of}
use Rattle.rule_feed.specs.Feed.{all_of, fed_cond, fed_term, how_many, joins, nodes_of, nodes_of_cond, picks, up}
use Rattle.rule_feed.proofs.FeedCells.{Behind, Beside, all-fed, head-fed}
use Rattle.rule_feed.proofs.FeedPicks.{Frees, all_of-true, joins-framed, cell-up, joins-true, length-picks}
use Rattle.qgm_meaning.proofs.TagJoins.{joined-bind, joined-every, joined-some, stands-bind}
use Rattle.list_laws.proofs.Membership.{eq-false-sym, in-left, in-right}
use Rattle.list_laws.proofs.Booleans.{clash}

abbrev Tuple : Type 0
Tuple = List Cell

-- what is given in environments that stand in a relation
pub each-alike : (R : Environment → Environment → Type 0) (s t : Family) (f g : Environment → Bag) (rs : List OwnedQuant)
    → ((r : OwnedQuant) → In r rs → is_F r.kind ≡ true → (d e : Environment) → R d e → s r.id d ≡ t r.id e)
    → ((r : OwnedQuant) → In r rs → is_F r.kind ≡ true → (cells : List Cell) (d e : Environment) → R d e → R (bound r.id cells d) (bound r.id cells e))
    → ((d e : Environment) → R d e → Alike (f d) (g e)) → (d e : Environment) → R d e → Alike (over_each rs s f d) (over_each rs t g e)
each-alike R s t f g [] same kept last d e h = last d e h
each-alike R s t f g (r ∷ rs) same kept last d e h =
    elim (is_F r.kind) as (λ b. is_F r.kind ≡ b → Alike
    (cond b (bind (s r.id d) (λ cells. over_each rs s f (bound r.id cells d))) (over_each rs s f d))
    (cond b (bind (t r.id e) (λ cells. over_each rs t g (bound r.id cells e))) (over_each rs t g e))) [
      | true ↦ λ b. alike-trans (alike-same (ap (λ (rows : Bag). bind rows (λ cells. over_each rs s f (bound r.id cells d))) (same r (inl refl) b d e h)))
          (alike-bind (alike-refl (t r.id e)) (λ cells. each-alike R s t f g rs (λ q i. same q (inr i)) (λ q i. kept q (inr i)) last (bound r.id cells d) (bound r.id cells e) (kept r (inl refl) b cells d e h)))
      | false ↦ λ b. each-alike R s t f g rs (λ q i. same q (inr i)) (λ q i. kept q (inr i)) last d e h
    ] refl

over-first : (r : OwnedQuant) (rs : List OwnedQuant) (s : Family) (f : Environment → Bag) (e : Environment) → is_F r.kind ≡ true → over_each (r ∷ rs) s f e ≡ bind (s r.id e) (λ cells. over_each rs s f (bound r.id cells e))
over-first r rs s f e k = ap (λ (b : Bool). cond b (bind (s r.id e) (λ cells. over_each rs s f (bound r.id cells e))) (over_each rs s f e)) k

-- ---- a quantifier in the middle, whose rows are these

module _ (S T : Family) (rp : OwnedQuant) (us vs : List OwnedQuant) (rows_s : Bag) (f g : Environment → Bag) (is_f : is_F rp.kind ≡ true)
    (closed : (e : Environment) → S rp.id e ≡ rows_s)
    (before : (r : OwnedQuant) → In r us → is_F r.kind ≡ true → (e : Environment) → T r.id e ≡ S r.id e) (own : (e : Environment) → T rp.id e ≡ S rp.id e)
    (last : (e : Environment) → stands same_cells (row_of rp.id e) rows_s ≡ true → Alike (over_each vs T f e) (over_each vs S g e)) where
  pub middle : (e : Environment) → Alike (over_each (us ++ rp ∷ vs) T f e) (over_each (us ++ rp ∷ vs) S g e)
  middle e =
      alike-trans (alike-same (ap (λ (k : Environment → Bag). k e) (over_each-append us (rp ∷ vs) T f)))
      (alike-trans (each-alike (λ x y. x ≡ y) T S (over_each (rp ∷ vs) T f) (over_each (rp ∷ vs) S g) us
      (λ r i k x y h. before r i k x ∙ ap (S r.id) h) (λ r i k cells x y h. ap (bound r.id cells) h) (λ x y h. subst (λ (z : Environment). Alike (over_each (rp ∷ vs) T f x) (over_each (rp ∷ vs) S g z)) h (at x)) e e refl)
      (alike-same (sym (ap (λ (k : Environment → Bag). k e) (over_each-append us (rp ∷ vs) S g)))))
    where
      at : (x : Environment) → Alike (over_each (rp ∷ vs) T f x) (over_each (rp ∷ vs) S g x)
      at x =
          alike-trans (alike-same (over-first rp vs T f x is_f ∙ ap (λ (rows : Bag). bind rows (λ cells. over_each vs T f (bound rp.id cells x))) (own x ∙ closed x)))
          (alike-trans (bind-within rows_s (λ cells. over_each vs T f (bound rp.id cells x)) (λ cells. over_each vs S g (bound rp.id cells x)) (λ cells there. last (bound rp.id cells x)
          (ap (λ (b : Bool). stands same_cells (cond b cells (row_of rp.id x)) rows_s) (eq-eqb rp.id rp.id refl) ∙ there)))
          (alike-same (ap (λ (rows : Bag). bind rows (λ cells. over_each vs S g (bound rp.id cells x))) (sym (closed x)) ∙ sym (over-first rp vs S g x is_f))))

-- i has in d the row that it has in e, of v cells, behind n others
pub record Tail (i n v : ℕ) (d e : Environment) : Type 0 where
  pub tag : Tuple
  pub is : row_of i d ≡ tag ++ row_of i e
  pub long : length tag ≡ n
  pub wide : length (row_of i e) ≡ v

tail-behind : (i n v : ℕ) (d e : Environment) → Tail i n v d e → Behind i n d e
tail-behind i n v d e h j = ap (cell_of (up n j)) h.is ∙ ap (λ (m : ℕ). cell_of (up m j) (h.tag ++ row_of i e)) (sym h.long) ∙ cell-up h.tag (row_of i e) j

-- ---- the tags

same-sym : (a b : Tuple) → same_cells a b ≡ same_cells b a
same-sym a b = elim (cases_Bool (same_cells a b)) [
  | inl h ↦ h ∙ sym ((same_cells-decides b a).1 (sym ((same_cells-decides a b).0 h)))
  | inr h ↦ h ∙ sym (elim (cases_Bool (same_cells b a)) [ inr k ↦ k | inl k ↦ absurd (let z : same_cells a b ≡ true = (same_cells-decides a b).1 (sym ((same_cells-decides b a).0 k)) in let y : ⊥ = cc in y) ])
]

yes-there : {T : Type 0} (l : Level) (c d : T) → is_there (row c l) ≡ true → is_there (row d (least l Yes)) ≡ true
yes-there l c d h = subst (λ (m : Level). is_there (row d m) ≡ true) (sym (least-yes l)) (same l h)
  where
    same : (l : Level) → is_there (row c l) ≡ true → is_there (row d l) ≡ true
    same No h = absurd (let z : ⊥ = cc in z)
    same Cardinality h = refl
    same Division h = refl
    same Overflow h = refl
    same Yes h = refl

-- the image of a tuple that stands stands
pub stands-image : (g : Tuple → Tuple) (c : Tuple) (xs : Bag) → stands same_cells c xs ≡ true → stands same_cells (g c) (bind xs (λ x. unit (g x))) ≡ true
stands-image g c [] h = absurd (let z : ⊥ = cc in z)
stands-image g c (x ∷ xs) h = elim (or_cases (same_cells x.cells c && is_there x) (stands same_cells c xs) h) [
  | inl a ↦ (
      let k = and_parts (same_cells x.cells c) (is_there x) a in
      ap (λ (b : Bool). b || stands same_cells (g c) (bind xs (λ x. unit (g x))))
      (and_from (same_cells (g x.cells) (g c)) (is_there (row (g x.cells) (least x.level Yes))) ((same_cells-decides (g x.cells) (g c)).1 (ap g ((same_cells-decides x.cells c).0 k.0))) (yes-there x.level x.cells (g x.cells) k.1)))
  | inr a ↦ (let r = stands-image g c xs a in elim (cases_Bool (same_cells (g x.cells) (g c) && is_there (row (g x.cells) (least x.level Yes)))) [
    | inl e ↦ ap (λ (z : Bool). z || stands same_cells (g c) (bind xs (λ x. unit (g x)))) e
    | inr e ↦ ap (λ (z : Bool). z || stands same_cells (g c) (bind xs (λ x. unit (g x)))) e ∙ r
  ])
]

module _ (S T : Family) (rp ri : OwnedQuant) (w : ℕ) (named : ℕ → Bool) (rows_s : Bag) (C : List Cell → Bag) (apart : (ri.id == rp.id) ≡ false)
    (free : (row : List Cell) → stands same_cells row rows_s ≡ true → Frees (picks named row 1 w))
    (new : (e : Environment) → Alike (T ri.id e) (led (once same_cells (bind rows_s (λ row. unit (picks named row 1 w)))) C))
    (old : (e : Environment) → S ri.id e ≡ C (picks named (row_of rp.id e) 1 w)) where
  abbrev p : ℕ
  p = rp.id

  abbrev i : ℕ
  i = ri.id

  abbrev tags : Bag
  tags = bind rows_s (λ row. unit (picks named row 1 w))

  abbrev n : ℕ
  n = how_many named 1 w

  abbrev ks : List Cond
  ks = joins named p i 1 1 w

  abbrev the : List Cell → List Cell
  the row = picks named row 1 w

  long : (row : List Cell) → length (the row) ≡ n
  long row = length-picks named row w 1

  of-tag : (u : Tuple) → stands same_cells u tags ≡ true → Frees u × (length u ≡ n)
  of-tag u h =
      let a = stands-bind u rows_s (λ row. unit (the row)) h in
      let e : the a.0 ≡ u = (same_cells-decides (the a.0) u).0 (first (same_cells (the a.0) u) a.1.1) in
      (subst Frees e (free a.0 a.1.0), ap length (sym e) ∙ long a.0)
    where
      first : (b : Bool) → ((b && true) || false) ≡ true → b ≡ true
      first true h = refl
      first false h = absurd (let z : ⊥ = cc in z)

  -- the join holds of a row behind a tag where this is that of row p
  pub joins-tag : (rows : ℕ → Bag) (row : List Cell) (e : Environment) → row_of p e ≡ row → stands same_cells row rows_s ≡ true → (u c : Tuple) → stands same_cells u tags ≡ true → all_true rows ks (bound i (u ++ c) e) ≡ t.truth_of (same_cells u (the row))
  joins-tag rows row e at s u c h =
      let o = of-tag u h in
      joins-true named rows p i (bound i (u ++ c) e) row c w 1 [] u
      (ap (λ (b : Bool). cond b (u ++ c) (row_of p e)) apart ∙ at) (ap (λ (b : Bool). cond b (u ++ c) (row_of i e)) (eq-eqb i i refl)) o.1 (free row s) o.0
      ∙ ap t.truth_of (same-sym (the row) u)

  abbrev k : Cond
  k = all_of ks

  -- ---- conditions of some row of the fed box, or of every one

  module _ (row : List Cell) (s : stands same_cells row rows_s ≡ true) (x y : Environment) (o : S i y ≡ C (the row)) where
    of-some : (d : Environment) → row_of p d ≡ row → (f g : Tuple → Truth) → ((cells : Tuple) → f (the row ++ cells) ≡ g cells) → subquery.some (λ z. t.and (truth (λ q. T q x) k (bound i z d)) (f z)) (T i x) ≡ subquery.some g (S i y)
    of-some d u f g h =
        some-alike (λ z. t.and (truth (λ q. T q x) k (bound i z d)) (f z)) (T i x) (led (once same_cells tags) C) (new x)
        ∙ joined-some tags C (the row) (stands-image the row rows_s s) (λ z. truth (λ q. T q x) k (bound i z d))
        (λ v c m. all_of-true (λ q. T q x) (bound i (v ++ c) d) ks ∙ joins-tag (λ q. T q x) row d u s v c m) f
        ∙ ap (λ (l : Tuple → Truth). subquery.some l (C (the row))) (fun_ext h) ∙ ap (subquery.some g) (sym o)

    of-every : (d : Environment) → row_of p d ≡ row → (f g : Tuple → Truth) → ((cells : Tuple) → f (the row ++ cells) ≡ g cells) → subquery.every (λ z. t.or (t.negated (truth (λ q. T q x) k (bound i z d))) (f z)) (T i x) ≡ subquery.every g (S i y)
    of-every d u f g h =
        every-alike (λ z. t.or (t.negated (truth (λ q. T q x) k (bound i z d))) (f z)) (T i x) (led (once same_cells tags) C) (new x)
        ∙ joined-every tags C (the row) (stands-image the row rows_s s) (λ z. truth (λ q. T q x) k (bound i z d))
        (λ v c m. all_of-true (λ q. T q x) (bound i (v ++ c) d) ks ∙ joins-tag (λ q. T q x) row d u s v c m) f
        ∙ ap (λ (l : Tuple → Truth). subquery.every l (C (the row))) (fun_ext h) ∙ ap (subquery.every g) (sym o)

  module _ (conds : List Cond) (head : List Term) (clear : list_any (nodes_of i p) head ≡ false) (clear-conds : list_any (nodes_of_cond i p) conds ≡ false) where
    -- what b gives where all are bound
    abbrev pub given-old : Environment → Bag
    given-old e = keep (all_true (λ q. S q e) conds e).t (unit (head_cells (λ q. S q e) head e))

    abbrev pub given-new : Environment → Bag
    given-new d = keep (all_true (λ q. T q d) (map (fed_cond i n k) conds) d).t (unit (head_cells (λ q. T q d) (map (fed_term i n k) head) d))

    given-same : (row : List Cell) → stands same_cells row rows_s ≡ true → (d e : Environment) → ((q : ℕ) → (q == i) ≡ false → T q d ≡ S q e) → S i e ≡ C (the row) → Beside i p row d e
        → (list_any (reads_cond i) conds ≡ true → Behind i n d e) → (list_any (reads i) head ≡ true → Behind i n d e) → given-new d ≡ given-old e
    given-same row s d e rest o h u v =
        ap₂ (λ (l : Truth) (cs : Tuple). keep l.t (unit cs))
        (ap (λ (m : ℕ). all_true (λ q. T q d) (map (fed_cond i m k) conds) d) (sym (long row))
        ∙ all-fed i p k row (the row) (λ q. S q e) (λ q. T q d) rest apart (of-some row s d e o) (of-every row s d e o) conds d e h (λ z. subst (λ (m : ℕ). Behind i m d e) (sym (long row)) (u z)) clear-conds)
        (ap (λ (m : ℕ). head_cells (λ q. T q d) (map (fed_term i m k) head) d) (sym (long row))
        ∙ head-fed i p k row (the row) (λ q. S q e) (λ q. T q d) rest apart (of-some row s d e o) (of-every row s d e o) head d e h (λ z. subst (λ (m : ℕ). Behind i m d e) (sym (long row)) (v z)) clear)

    -- ---- E and A

    module _ (us vs : List OwnedQuant) (is_f : is_F rp.kind ≡ true) (not_f : is_F ri.kind ≡ false) (closed : (e : Environment) → S p e ≡ rows_s)
        (rest : (q : ℕ) → (q == i) ≡ false → (e : Environment) → T q e ≡ S q e)
        (others : (r : OwnedQuant) → In r (us ++ rp ∷ vs) → is_F r.kind ≡ true → (r.id == i) ≡ false) (behind : (r : OwnedQuant) → In r vs → is_F r.kind ≡ true → (r.id == p) ≡ false)
        (unread : list_any (reads i) head ≡ false) (unread-conds : list_any (reads_cond i) conds ≡ false) where
      pub node-rows : (e : Environment) → Alike (over_each (us ++ rp ∷ vs) T given-new e) (over_each (us ++ rp ∷ vs) S given-old e)
      node-rows e = middle S T rp us vs rows_s given-new given-old is_f closed (λ r j z e. rest r.id (others r (in-left r us (rp ∷ vs) j) z) e) (λ e. rest p (eq-false-sym i p apart) e) last e
        where
          last : (e : Environment) → stands same_cells (row_of p e) rows_s ≡ true → Alike (over_each vs T given-new e) (over_each vs S given-old e)
          last e s = each-alike (λ x y. (x ≡ y) × (row_of p x ≡ row_of p e)) T S given-new given-old vs
              (λ r j z x y h. rest r.id (others r (in-right r us (rp ∷ vs) (inr j)) z) x ∙ ap (S r.id) h.0)
              (λ r j z cells x y h. (ap (bound r.id cells) h.0, ap (λ (b : Bool). cond b cells (row_of p x)) (behind r j z) ∙ h.1))
              (λ x y h. alike-same (
              given-same (row_of p e) s x x (λ q z. rest q z x) (old x ∙ ap (λ (r : List Cell). C (the r)) h.1) (record { others = λ z m. refl; at = h.1 })
              (λ z. absurd (clash (list_any (reads_cond i) conds) z unread-conds)) (λ z. absurd (clash (list_any (reads i) head) z unread)) ∙ ap given-old h.0)) e e (refl, refl)

    -- ---- F: the join stands behind the other conditions

    abbrev pub given-joined : Environment → Bag
    given-joined d = keep (all_true (λ q. T q d) (map (fed_cond i n k) conds ++ ks) d).t (unit (head_cells (λ q. T q d) (map (fed_term i n k) head) d))

    apart-joins : (d : Environment) → given-joined d ≡ keep (all_true (λ q. T q d) ks d).t (given-new d)
    apart-joins d =
        ap (λ (l : Level). keep l (unit (head_cells (λ q. T q d) (map (fed_term i n k) head) d)))
        (all_true-append (λ q. T q d) (map (fed_cond i n k) conds) ks d ∙ least-commutative (all_true (λ q. T q d) (map (fed_cond i n k) conds) d).t (all_true (λ q. T q d) ks d).t)
        ∙ sym (keep-keep (all_true (λ q. T q d) ks d).t (all_true (λ q. T q d) (map (fed_cond i n k) conds) d).t (unit (head_cells (λ q. T q d) (map (fed_term i n k) head) d)))

    at-truth : (b : Bool) → (t.truth_of b).t ≡ cond b Yes No
    at-truth true = refl
    at-truth false = refl

    module _ (us vs ws : List OwnedQuant) (is_f : is_F rp.kind ≡ true) (is_fi : is_F ri.kind ≡ true) (closed : (e : Environment) → S p e ≡ rows_s)
        (before : (r : OwnedQuant) → In r (us ++ rp ∷ vs) → is_F r.kind ≡ true → (e : Environment) → T r.id e ≡ S r.id e)
        (v : ℕ) (wide : (u c : Tuple) → stands same_cells c (C u) ≡ true → length c ≡ v)
        (moved : (row : List Cell) (q : ℕ) → (q == i) ≡ false → (d e : Environment) → Beside i p row d e → Tail i n v d e → T q d ≡ S q e)
        (between : (r : OwnedQuant) → In r vs → is_F r.kind ≡ true → (r.id == p) ≡ false)
        (others : (r : OwnedQuant) → In r ws → is_F r.kind ≡ true → ((r.id == i) ≡ false) × ((r.id == p) ≡ false)) where
      abbrev none : ℕ → Bag
      none q = []

      -- what is given behind i
      abbrev W : Environment → Tuple → Bag
      W d x = over_each ws T given-new (bound i x d)

      kept : (d : Environment) (x : Tuple) → over_each ws T given-joined (bound i x d) ≡ keep (all_true none ks (bound i x d)).t (W d x)
      kept d x =
          over_each-related (λ a b. (a ≡ b) × ((row_of p a ≡ row_of p (bound i x d)) × (row_of i a ≡ row_of i (bound i x d)))) T T given-joined (λ e. keep (all_true none ks (bound i x d)).t (given-new e)) ws
          (λ r j z a b h. ap (T r.id) h.0)
          (λ r j z cells a b h. (
            ap (bound r.id cells) h.0,
            (ap (λ (b : Bool). cond b cells (row_of p a)) (others r j z).1 ∙ h.1.0, ap (λ (b : Bool). cond b cells (row_of i a)) (others r j z).0 ∙ h.1.1),
          ))
          (λ a b h. apart-joins a ∙ ap₂ (λ (l : Truth) (e : Environment). keep l.t (given-new e)) (joins-framed named (λ q. T q a) none p i a (bound i x d) w 1 1 h.1.0 h.1.1) h.0)
          (bound i x d) (bound i x d) (refl, (refl, refl))
          ∙ sym (over_each-keep ws T given-new (all_true none ks (bound i x d)).t (bound i x d))

      at-i : (d : Environment) → stands same_cells (row_of p d) rows_s ≡ true → Alike (over_each (ri ∷ ws) T given-joined d) (over_each (ri ∷ ws) S given-old d)
      at-i d s =
          let row = row_of p d in
          alike-trans (alike-same (over-first ri ws T given-joined d is_fi ∙ ap (bind (T i d)) (fun_ext (kept d))))
          (alike-trans (alike-bind (new d) (λ x. alike-refl (keep (all_true none ks (bound i x d)).t (W d x))))
          (alike-trans (joined-bind tags C (the row) (λ x. (all_true none ks (bound i x d)).t) (W d) (stands-image the row rows_s s)
          (λ u c h. ap (λ (q : Truth). q.t) (joins-tag none row d refl s u c h) ∙ at-truth (same_cells u (the row))))
          (alike-trans (bind-within (C (the row)) (λ c. W d (the row ++ c)) (λ c. over_each ws S given-old (bound i c d)) (λ c there. behind-rows c (wide (the row) c there)))
          (alike-same (ap (λ (rows : Bag). bind rows (λ c. over_each ws S given-old (bound i c d))) (sym (old d)) ∙ sym (over-first ri ws S given-old d is_fi))))))
        where
          behind-rows : (c : Tuple) → length c ≡ v → Alike (W d (the (row_of p d) ++ c)) (over_each ws S given-old (bound i c d))
          behind-rows c l =
              let row = row_of p d in
              each-alike (λ a b. Beside i p row a b × Tail i n v a b) T S given-new given-old ws
              (λ r j z a b h. moved row r.id (others r j z).0 a b h.0 h.1)
              (λ r j z cells a b h. (beside-step r.id cells a b (others r j z).1 h.0, tail-step r.id cells a b (others r j z).0 h.1))
              (λ a b h. alike-same (given-same row s a b (λ q z. moved row q z a b h.0 h.1) (old b ∙ ap (λ (r : List Cell). C (the r)) (sym (h.0.others p (eq-false-sym i p apart)) ∙ h.0.at)) h.0 (λ z. tail-behind i n v a b h.1) (λ z. tail-behind i n v a b h.1)))
              (bound i (the row ++ c) d) (bound i c d) (first-beside, first-tail)
            where
              beside-step : (r : ℕ) (cells : Tuple) (a b : Environment) → (r == p) ≡ false → Beside i p (row_of p d) a b → Beside i p (row_of p d) (bound r cells a) (bound r cells b)
              beside-step r cells a b u h = record {
                others = λ x f. ap (λ (z : List Cell). cond (r == x) cells z) (h.others x f);
                at = ap (λ (b : Bool). cond b cells (row_of p a)) u ∙ h.at;
              }

              tail-step : (r : ℕ) (cells : Tuple) (a b : Environment) → (r == i) ≡ false → Tail i n v a b → Tail i n v (bound r cells a) (bound r cells b)
              tail-step r cells a b u h =
                  let one : row_of i (bound r cells a) ≡ row_of i a = ap (λ (b : Bool). cond b cells (row_of i a)) u in
                  let two : row_of i (bound r cells b) ≡ row_of i b = ap (λ (z : Bool). cond z cells (row_of i b)) u in
                  record { tag = h.tag; is = one ∙ h.is ∙ ap (λ (z : Tuple). h.tag ++ z) (sym two); long = h.long; wide = ap length two ∙ h.wide }

              first-beside : Beside i p (row_of p d) (bound i (the (row_of p d) ++ c) d) (bound i c d)
              first-beside = record {
                others = λ x f. (let g = eq-false-sym x i f in ap (λ (b : Bool). cond b (the (row_of p d) ++ c) (row_of x d)) g ∙ sym (ap (λ (b : Bool). cond b c (row_of x d)) g));
                at = ap (λ (b : Bool). cond b (the (row_of p d) ++ c) (row_of p d)) apart;
              }

              first-tail : Tail i n v (bound i (the (row_of p d) ++ c) d) (bound i c d)
              first-tail = record {
                tag = the (row_of p d);
                is = ap (λ (b : Bool). cond b (the (row_of p d) ++ c) (row_of i d)) (eq-eqb i i refl) ∙ sym (ap (λ (b : Bool). the (row_of p d) ++ cond b c (row_of i d)) (eq-eqb i i refl));
                long = long (row_of p d);
                wide = ap (λ (b : Bool). length (cond b c (row_of i d))) (eq-eqb i i refl) ∙ l;
              }

      pub joined-rows : (e : Environment) → Alike (over_each (us ++ rp ∷ (vs ++ ri ∷ ws)) T given-joined e) (over_each (us ++ rp ∷ (vs ++ ri ∷ ws)) S given-old e)
      joined-rows e = middle S T rp us (vs ++ ri ∷ ws) rows_s given-joined given-old is_f closed (λ r j z e. before r (in-left r us (rp ∷ vs) j) z e) (λ e. before rp (in-right rp us (rp ∷ vs) (inl refl)) is_f e) last e
        where
          last : (e : Environment) → stands same_cells (row_of p e) rows_s ≡ true → Alike (over_each (vs ++ ri ∷ ws) T given-joined e) (over_each (vs ++ ri ∷ ws) S given-old e)
          last e s =
              alike-trans (alike-same (ap (λ (k : Environment → Bag). k e) (over_each-append vs (ri ∷ ws) T given-joined)))
              (alike-trans (each-alike (λ x y. (x ≡ y) × (row_of p x ≡ row_of p e)) T S (over_each (ri ∷ ws) T given-joined) (over_each (ri ∷ ws) S given-old) vs
              (λ r j z x y h. before r (in-right r us (rp ∷ vs) (inr j)) z x ∙ ap (S r.id) h.0)
              (λ r j z cells x y h. (ap (bound r.id cells) h.0, ap (λ (b : Bool). cond b cells (row_of p x)) (between r j z) ∙ h.1))
              (λ x y h. subst (λ (z : Environment). Alike (over_each (ri ∷ ws) T given-joined x) (over_each (ri ∷ ws) S given-old z)) h.0 (at-i x (ap (λ (r : List Cell). stands same_cells r rows_s) h.1 ∙ s))) e e (refl, refl))
              (alike-same (sym (ap (λ (k : Environment → Bag). k e) (over_each-append vs (ri ∷ ws) S given-old)))))
