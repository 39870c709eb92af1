-- A conjunct goes from a select to boxes below: what each box gives then.
use Rattle.std.proofs.Common.{ℕ, zero, suc, ◌==◌, ◌≡◌, ◌&&◌, ◌≤◌, cond, get_or, Bool, true, false, List, ◌∷◌, ◌++◌, map, take, length, Some, None, refl, sym, ap, ap₂, subst, ◌∙◌, eqb-true, ◌⊎◌, inl, inr, arith, []}
use Rattle.std.proofs.lemmas.Bool.{and_parts, cases_Bool, eq-eqb, or_left}
use mathlib.Core.Path.{fun_ext}
use Rattle.row_bag.specs.Bags.{Agree, bind}
use Rattle.row_bag.specs.Errors.{error_among, error_in}
use Rattle.row_bag.specs.Filters.{passing}
use Rattle.row_bag.specs.AsSets.{is_decided, stands}
use Rattle.row_bag.specs.Order.{cell_of}
use Rattle.row_bag.specs.Sets.{distinct, same_cells}
use Rattle.row_bag.specs.declared.tables.Table.{Table}
use Rattle.row_bag.proofs.Counts.{agree-from_alike}
use Rattle.row_bag.proofs.Filtering.{filter-laws}
use Rattle.row_bag.proofs.TupleBags.{same_cells-decides}
use Rattle.sql_value.specs.declared.cell.Cell.{Cell}
use Rattle.sql_value.specs.declared.cell.Cell.TheVariants.{Null}
use Rattle.sql_value.specs.declared.level.Level.{Level}
use Rattle.sql_value.specs.declared.truth.Truth.{Truth}
use Rattle.qgm_core.specs.Boxes.{ids_of, is_quant}
use Rattle.qgm_core.specs.Kinds.{is_F, is_enforce}
use Rattle.list_laws.specs.Lists.{In, first, times}
use Rattle.qgm_core.specs.declared.kinds.BoxKind.TheVariants.{Group, OuterJoin, Select, SetOp}
use Rattle.qgm_core.specs.declared.kinds.SetOperator.{SetOperator}
use Rattle.qgm_core.specs.declared.node.Node.{Node}
use Rattle.qgm_core.specs.declared.owned.OwnedQuant.{OwnedQuant}
use Rattle.qgm_meaning.specs.Filters.{PassableBy, outer_of}
use Rattle.qgm_meaning.specs.Meaning.{Family, bag_in, combined, given_by, grouped_rows, key_cells, nothing, once_if, over_each, quant_rows, rows_by, rows_found, rows_of}
use Rattle.qgm_meaning.specs.Searches.{binds_cond, names_cond}
use Rattle.qgm_meaning.specs.Values.{Bag, Environment, bound, head_cells, row_of, value}
use Rattle.qgm_meaning.proofs.Filters.{groups-pass, outer-passes, sets-pass}
use Rattle.qgm_meaning.proofs.Frames.{value-framed}
use Rattle.qgm_meaning.proofs.Puts.{inlined-first, truth-put}
use Rattle.qgm_terms.specs.Substitution.{cell_at, substituted_cond}
use Rattle.qgm_terms.specs.Terms.{Cond, Term, null_int}
use Rattle.qgm_terms.specs.Wanted.{reads, reads_at_cond, reads_cond}
use Rattle.qgm_edit_laws.specs.Graph.{Sound, binds_row, nodes_in}
use Rattle.qgm_edit_laws.specs.Conditioned.{conditioned}
use Rattle.qgm_edit_laws.proofs.AnyPut.{conds-more, conds-names}
use Rattle.qgm_edit_laws.proofs.ConjunctForms.{names-none}
use Rattle.qgm_edit_laws.proofs.Conjuncts.{given-less, given-more, passed, test, truth-is}
use Rattle.qgm_edit_laws.proofs.Edits.{split-once}
use Rattle.qgm_edit_laws.proofs.Filters.{each-bind, each-filtered, found-same}
use Rattle.qgm_edit_laws.proofs.Rules.{same-agree}
use Rattle.qgm_edit_laws.proofs.Scope.{unfold-bag}
use Rattle.qgm_edit_laws.proofs.Scoped.{few-ids}
use Rattle.qgm_edit_laws.proofs.Turns.{first-own}
use Rattle.qgm_edit_laws.specs.PushDown.{PushesFrom}
use Rattle.qgm_edit_laws.specs.ConjunctEdits.{more}
use Rattle.qgm_edit_laws.proofs.ReadColumns.{truth-columns}
use Rattle.qgm_edit_laws.specs.SiftedBags.{Tests, sift, sifted}
use Rattle.qgm_edit_laws.proofs.SiftedBags.{passes, rows-same, sifted-agree, untested}
use Rattle.qgm_edit_laws.proofs.Ranks.{same-box}
use Rattle.sql_value.specs.declared.order_key.SqlType.{SqlType}
use Rattle.std.specs.Prelude as prelude
use Rattle.list_laws.proofs.Booleans.{clash, or-false}
use Rattle.list_laws.proofs.Membership.{any-from, eq-false-sym, eq-itself, in-right}

agree-sym : (xs ys : Bag) → Agree same_cells xs ys → Agree same_cells ys xs
agree-sym xs ys h = record { counts = λ c l n. sym (h.counts c l n) }

-- what is read at a place is read
pub reads-of : (x k : ℕ) (d : Cond) → reads_at_cond x k d ≡ true → reads_cond x d ≡ true
reads-of x k d h = sym (or-false (reads_cond x d)) ∙ conds-more (λ r j. (r == x) && (j == k)) (λ r j. r == x) (λ r. false) (λ r. false) (λ r. false) (λ r. false) (λ r. prelude.not (r == x)) (λ r. prelude.not (r == x)) (λ r j h. (and_parts (r == x) (j == k) h).0) (λ r h. h) (λ r h. h) (λ r h. h) (d ∷ []) (or_left (reads_at_cond x k d) false h)

module _ (q : ℕ) (p : Cond) (nil : (x : ℕ) → names_cond x p ≡ false) (own : (x : ℕ) → reads_cond x p ≡ true → x ≡ q) where
  -- a test of a condition put through a head is the test of the head's cells
  pub test-put : (f : ℕ) (head : List Term) (cells : List Cell) → test f (substituted_cond q head p) cells ≡ test q p (head_cells nothing head (bound f cells []))
  test-put f head cells =
      let d : Environment = bound f cells [] in
      let V : List Cell = head_cells nothing head d in
      ap (λ (z : Truth). z.t) (truth-put nothing q head p d (bound q V d) (inlined-first nothing q head d) (λ x t. absurd (clash (names_cond x p) (bound-named x t) (nil x))))
      ∙ truth-is q p nil own nothing (bound q V d) ∙ ap (test q p) (ap (λ (b : Bool). cond b V (row_of q d)) (eq-itself q))
    where
      bound-named : (x : ℕ) → binds_cond x p ≡ true → names_cond x p ≡ true
      bound-named x t = sym (or-false (names_cond x p)) ∙ conds-names x (p ∷ []) (or_left (binds_cond x p) false t)

  -- it goes by the columns that are read
  pub test-columns : (a b : List Cell) → ((j : ℕ) → reads_at_cond q j p ≡ true → cell_of j a ≡ cell_of j b) → test q p a ≡ test q p b
  test-columns a b h = ap (λ (z : Truth). z.t) (truth-columns nothing p (bound q a []) (bound q b []) (λ x j t.
      let e : x ≡ q = own x (reads-of x j p t) in
      ap (λ (z : Bool). cell_of j (cond z a [])) (eq-eqb q x (sym e)) ∙ h j (subst (λ z. reads_at_cond z j p ≡ true) e t) ∙ sym (ap (λ (z : Bool). cell_of j (cond z b [])) (eq-eqb q x (sym e)))))

-- a cell of mapped cells
pub cell-map : (v : Term → Cell) → v null_int ≡ Null → (xs : List Term) (j : ℕ) → cell_of j (map v xs) ≡ v (cell_at j xs)
cell-map v e xs j = ap (λ d. get_or (d ∷ map v xs) j d) (sym e) ∙ sym (got (null_int ∷ xs) j null_int)
  where
    got : (xs : List Term) (k : ℕ) (x : Term) → v (get_or xs k x) ≡ get_or (map v xs) k (v x)
    got [] k x = refl
    got (y ∷ xs) zero x = refl
    got (y ∷ xs) (suc k) x = got xs k x

-- a cell among the first n
pub cell-take : {X : Type 0} (xs : List X) (d : X) (n j : ℕ) → j ≤ n → get_or (d ∷ take n xs) j d ≡ get_or (d ∷ xs) j d
cell-take xs d n zero l = refl
cell-take [] d zero (suc j) l = refl
cell-take [] d (suc n) (suc j) l = refl
cell-take (x ∷ xs) d zero (suc j) l = absurd (let z : ⊥ = omega arith in z)
cell-take (x ∷ xs) d (suc n) (suc zero) l = refl
cell-take (x ∷ xs) d (suc n) (suc (suc j)) l = later xs d n j (omega arith)
  where
    later : {X : Type 0} (xs : List X) (d : X) (n j : ℕ) → suc j ≤ n → get_or (take n xs) j d ≡ get_or xs j d
    later [] d zero j l = refl
    later [] d (suc n) j l = refl
    later (x ∷ xs) d zero j l = absurd (let z : ⊥ = omega arith in z)
    later (x ∷ xs) d (suc n) zero l = refl
    later (x ∷ xs) d (suc n) (suc j) l = later xs d n j (omega arith)

module _ (bs : List Node) (root : ℕ) (w : Sound bs root) (tables : List Table) (t : Tests) where
  abbrev f : Family
  f = bag_in tables bs

  abbrev f' : Family
  f' = sifted t (bag_in tables bs)

  -- ---- a select that gets the conjunct, its cells in it

  pub more-back : (n : Node) → In n bs → n.parts.kind ≡ Select → (q : ℕ) (p : Cond) → ((x : ℕ) → names_cond x p ≡ false) → ((x : ℕ) → reads_cond x p ≡ true → x ≡ q) → t n.id ≡ Some (test q p)
      → ((r : OwnedQuant) → In r n.quants → t r.over ≡ None) → (e : Environment) → Agree same_cells (rows_of tables (more (substituted_cond q n.parts.head p) n) f' e) (f' n.id e)
  more-back n i select q p nil own tested free e =
      subst (λ z. Agree same_cells z (f' n.id e)) (sym after) (subst (λ z. Agree same_cells (once_if (is_enforce n.parts.distinct) (passing (test q p) raw)) z) (sym before) (by (is_enforce n.parts.distinct)))
    where
      n' : Node
      n' = more (substituted_cond q n.parts.head p) n

      s : Family
      s = quant_rows n f

      raw : Bag
      raw = over_each n.quants (quant_rows n f) (given_by (quant_rows n f) n) e

      after : rows_of tables (more (substituted_cond q n.parts.head p) n) f' e ≡ once_if (is_enforce n.parts.distinct) (passing (test q p) (over_each n.quants (quant_rows n f) (given_by (quant_rows n f) n) e))
      after =
          ap (λ (z : Environment → Bag). z e) (rows-same bs root w tables t (more (substituted_cond q n.parts.head p) n) free)
          ∙ ap (λ z. rows_by z tables (more (substituted_cond q n.parts.head p) n) (quant_rows n f) e) select
          ∙ ap (once_if (is_enforce n.parts.distinct)) (ap (λ (h : Environment → Bag). over_each n.quants (quant_rows n f) h e) (fun_ext (λ e. given-more q p nil own (quant_rows n f) n e))
          ∙ each-bind n.quants (quant_rows n f) (given_by (quant_rows n f) n) (passed q p) e)

      before : f' n.id e ≡ passing (test q p) (once_if (is_enforce n.parts.distinct) (over_each n.quants (quant_rows n f) (given_by (quant_rows n f) n) e))
      before = ap (λ o. sift o (f n.id e)) tested ∙ ap (passing (test q p)) (unfold-bag tables bs n w.ordered i e ∙ ap (λ z. rows_by z tables n (quant_rows n f) e) select)

      by : (b : Bool) → Agree same_cells (once_if b (passing (test q p) (over_each n.quants (quant_rows n f) (given_by (quant_rows n f) n) e))) (passing (test q p) (once_if b (over_each n.quants (quant_rows n f) (given_by (quant_rows n f) n) e)))
      by true = agree-sym (passing (test q p) (distinct same_cells (over_each n.quants (quant_rows n f) (given_by (quant_rows n f) n) e))) (distinct same_cells (passing (test q p) (over_each n.quants (quant_rows n f) (given_by (quant_rows n f) n) e)))
          ((filter-laws same_cells same_cells-decides).of_distinct (test q p) (over_each n.quants (quant_rows n f) (given_by (quant_rows n f) n) e))
      by false = same-agree refl

  -- ---- a group with keys over rows that pass by the keys

  pub group-back : (c : Node) → In c bs → (k : ℕ) → c.parts.kind ≡ Group (suc k) → suc k ≤ length c.parts.head → (r : OwnedQuant) → c.quants ≡ r ∷ []
      → (q : ℕ) (p : Cond) → ((x : ℕ) → names_cond x p ≡ false) → ((x : ℕ) → reads_cond x p ≡ true → x ≡ q) → ((j : ℕ) → reads_at_cond q j p ≡ true → (1 ≤ j) × (j ≤ suc k))
      → ((j x : ℕ) → j ≤ suc k → reads x (cell_at j c.parts.head) ≡ true → x ≡ r.id)
      → t c.id ≡ Some (test q p) → t r.over ≡ Some (test r.id (substituted_cond q c.parts.head p)) → (e : Environment)
      → error_among (λ cells. error_in (key_cells (suc k) c.parts.head r.id e cells)) (f r.over e) ≡ None
      → ((cells : List Cell) → stands same_cells cells (f r.over e) ≡ true → is_decided (test q p (key_cells (suc k) c.parts.head r.id e cells)) ≡ true)
      → Agree same_cells (rows_of tables c f' e) (f' c.id e)
  group-back c i k kind long r alone q p nil own keys reads_r tested below e none decided =
      subst (λ z. Agree same_cells z (f' c.id e)) (sym after)
      (subst (λ z. Agree same_cells (grouped_rows (suc k) head r.id e (passing (λ cells. level (key cells)) rows)) z) (sym before)
      (agree-sym (passing (λ cells. level (take (suc k) cells)) (grouped_rows (suc k) head r.id e rows)) (grouped_rows (suc k) head r.id e (passing (λ cells. level (key cells)) rows))
      (agree-from_alike same_cells (groups-pass k head r.id e rows level long none decided))))
    where
      head : List Term
      head = c.parts.head

      rows : Bag
      rows = f r.over e

      level : List Cell → Level
      level = test q p

      key : List Cell → List Cell
      key cells = key_cells (suc k) c.parts.head r.id e cells

      -- a row passes by its key
      by-key : (cells : List Cell) → test r.id (substituted_cond q c.parts.head p) cells ≡ test q p (key_cells (suc k) c.parts.head r.id e cells)
      by-key cells = test-put q p nil own r.id c.parts.head cells ∙ test-columns q p nil own (head_cells nothing c.parts.head (bound r.id cells [])) (key_cells (suc k) c.parts.head r.id e cells) (λ j h.
          let l = keys j h in
          cell-map (λ x. value nothing x (bound r.id cells [])) refl c.parts.head j
          ∙ value-framed nothing (cell_at j c.parts.head) (bound r.id cells []) (bound r.id cells e) (record { rows = λ x h. (let v = reads_r j x l.1 h in ap (λ (z : Bool). cond z cells []) (eq-eqb r.id x (sym v)) ∙ sym (ap (λ (z : Bool). cond z cells (row_of x e)) (eq-eqb r.id x (sym v)))) })
          ∙ sym (cell-map (λ x. value nothing x (bound r.id cells e)) refl (take (suc k) c.parts.head) j ∙ ap (λ x. value nothing x (bound r.id cells e)) (cell-take c.parts.head null_int (suc k) j l.1)))

      -- a group by its first cells
      by-first : (cells : List Cell) → test q p cells ≡ test q p (take (suc k) cells)
      by-first cells = test-columns q p nil own cells (take (suc k) cells) (λ j h. sym (cell-take cells Null (suc k) j (keys j h).1))

      after : rows_of tables c f' e ≡ grouped_rows (suc k) c.parts.head r.id e (passing (λ cells. test q p (key_cells (suc k) c.parts.head r.id e cells)) (f r.over e))
      after =
          ap (λ z. rows_by z tables c (quant_rows c f') e) kind
          ∙ ap (λ (rs : List OwnedQuant). rows_by (Group (suc k)) tables (record c { quants = rs }) (λ x. rows_found (first (is_quant x) rs) f') e) alone
          ∙ ap (λ (z : Bool). grouped_rows (suc k) c.parts.head r.id e (rows_found (cond z (Some r) None) f' e)) (eq-itself r.id)
          ∙ ap (λ o. grouped_rows (suc k) c.parts.head r.id e (sift o (f r.over e))) below
          ∙ ap (λ (h : List Cell → Level). grouped_rows (suc k) c.parts.head r.id e (passing h (f r.over e))) (fun_ext by-key)

      before : f' c.id e ≡ passing (λ cells. test q p (take (suc k) cells)) (grouped_rows (suc k) c.parts.head r.id e (f r.over e))
      before =
          ap (λ o. sift o (f c.id e)) tested
          ∙ ap (passing (test q p)) (unfold-bag tables bs c w.ordered i e
          ∙ ap (λ z. rows_by z tables c (quant_rows c f) e) kind
          ∙ ap (λ (rs : List OwnedQuant). rows_by (Group (suc k)) tables (record c { quants = rs }) (λ x. rows_found (first (is_quant x) rs) f) e) alone
          ∙ ap (λ (z : Bool). grouped_rows (suc k) c.parts.head r.id e (rows_found (cond z (Some r) None) f e)) (eq-itself r.id))
          ∙ ap (λ (h : List Cell → Level). passing h (grouped_rows (suc k) c.parts.head r.id e (f r.over e))) (fun_ext by-first)

  -- ---- a set operation over arms that pass

  pub set-back : (c : Node) → In c bs → (form : SetOperator) (types : List SqlType) → c.parts.kind ≡ SetOp form types → (r s : OwnedQuant) → c.quants ≡ r ∷ (s ∷ []) → (r.id == s.id) ≡ false
      → (level : List Cell → Level) → t c.id ≡ Some level → t r.over ≡ Some level → t s.over ≡ Some level → (e : Environment) → PassableBy form level (f r.over e) (f s.over e)
      → Agree same_cells (rows_of tables c f' e) (f' c.id e)
  set-back c i form types kind r s two apart level tested left right e ok =
      subst (λ z. Agree same_cells z (f' c.id e)) (sym (arms f' ∙ ap₂ (λ o p. combined form (length types) (sift o (f r.over e)) (sift p (f s.over e))) left right))
      (subst (λ z. Agree same_cells (combined form (length types) (passing level (f r.over e)) (passing level (f s.over e))) z) (sym before)
      (agree-sym (passing level (combined form (length types) (f r.over e) (f s.over e))) (combined form (length types) (passing level (f r.over e)) (passing level (f s.over e)))
      (sets-pass form (length types) level (f r.over e) (f s.over e) ok)))
    where
      arms : (h : Family) → rows_of tables c h e ≡ combined form (length types) (h r.over e) (h s.over e)
      arms h =
          ap (λ z. rows_by z tables c (quant_rows c h) e) kind
          ∙ ap (λ (rs : List OwnedQuant). rows_by (SetOp form types) tables (record c { quants = rs }) (λ x. rows_found (first (is_quant x) rs) h) e) two
          ∙ ap₂ (λ (y z : Bool). combined form (length types) (rows_found (cond y (Some r) (cond (s.id == r.id) (Some s) None)) h e) (rows_found (cond z (Some r) (cond (s.id == s.id) (Some s) None)) h e)) (eq-itself r.id) apart
          ∙ ap (λ (z : Bool). combined form (length types) (h r.over e) (rows_found (cond z (Some s) None) h e)) (eq-itself s.id)

      before : f' c.id e ≡ passing level (combined form (length types) (f r.over e) (f s.over e))
      before = ap (λ o. sift o (f c.id e)) tested ∙ ap (passing level) (unfold-bag tables bs c w.ordered i e ∙ arms f)

  -- ---- an outer join whose left rows pass

  pub outer-back : (c : Node) → In c bs → c.parts.kind ≡ OuterJoin → (l s : OwnedQuant) → c.quants ≡ l ∷ (s ∷ []) → (l.id == s.id) ≡ false
      → (q : ℕ) (p : Cond) → ((x : ℕ) → names_cond x p ≡ false) → ((x : ℕ) → reads_cond x p ≡ true → x ≡ q) → ((j x : ℕ) → reads_at_cond q j p ≡ true → reads x (cell_at j c.parts.head) ≡ true → x ≡ l.id)
      → t c.id ≡ Some (test q p) → t l.over ≡ Some (test l.id (substituted_cond q c.parts.head p)) → t s.over ≡ None → (e : Environment)
      → rows_of tables c f' e ≡ f' c.id e
  outer-back c i kind l s two apart q p nil own reads_l tested left right e =
      arms f' ∙ ap₂ (λ o z. outer_of c e l.id s.id (sift o (f l.over e)) (sift z (f s.over e))) left right
      ∙ sym (outer-passes c e l.id s.id (f l.over e) (f s.over e) (test q p) (test l.id (substituted_cond q c.parts.head p)) same)
      ∙ sym (ap (λ o. sift o (f c.id e)) tested ∙ ap (passing (test q p)) (unfold-bag tables bs c w.ordered i e ∙ arms f))
    where
      arms : (h : Family) → rows_of tables c h e ≡ outer_of c e l.id s.id (h l.over e) (h s.over e)
      arms h =
          ap (λ z. rows_by z tables c (quant_rows c h) e) kind
          ∙ ap (λ (rs : List OwnedQuant). rows_by OuterJoin tables (record c { quants = rs }) (λ x. rows_found (first (is_quant x) rs) h) e) two
          ∙ ap₂ (λ (y z : Bool). outer_of c e l.id s.id (rows_found (cond y (Some l) (cond (s.id == l.id) (Some s) None)) h e) (rows_found (cond z (Some l) (cond (s.id == s.id) (Some s) None)) h e)) (eq-itself l.id) apart
          ∙ ap (λ (z : Bool). outer_of c e l.id s.id (h l.over e) (rows_found (cond z (Some s) None) h e)) (eq-itself s.id)

      same : (a b : List Cell) → test q p (head_cells nothing c.parts.head (bound s.id b (bound l.id a e))) ≡ test l.id (substituted_cond q c.parts.head p) a
      same a b = test-columns q p nil own (head_cells nothing c.parts.head (bound s.id b (bound l.id a e))) (head_cells nothing c.parts.head (bound l.id a [])) (λ j h.
          cell-map (λ x. value nothing x (bound s.id b (bound l.id a e))) refl c.parts.head j
          ∙ value-framed nothing (cell_at j c.parts.head) (bound s.id b (bound l.id a e)) (bound l.id a []) (record {
            rows = λ x u. (
                let v : x ≡ l.id = reads_l j x h u in
                ap₂ (λ (y z : Bool). cond y b (cond z a (row_of x e))) (ap (λ z. s.id == z) v ∙ eq-false-sym l.id s.id apart) (eq-eqb l.id x (sym v)) ∙ sym (ap (λ (z : Bool). cond z a []) (eq-eqb l.id x (sym v))));
          })
          ∙ sym (cell-map (λ x. value nothing x (bound l.id a [])) refl c.parts.head j))
          ∙ sym (test-put q p nil own l.id c.parts.head a)

-- ---- the select that the conjunct leaves

module _ (bs : List Node) (root : ℕ) (w : Sound bs root) (b : Node) (ps : List Cond) (p : Cond) (qs : List Cond) (us : List OwnedQuant) (r : OwnedQuant) (vs : List OwnedQuant) (m : PushesFrom bs b ps p qs us r vs) (tables : List Table) (t : Tests) (tested : t r.over ≡ Some (test r.id p))
    (others : (x : OwnedQuant) → In x b.quants → (x.id == r.id) ≡ false → t x.over ≡ None) where
  abbrev q : ℕ
  q = r.id

  abbrev b' : Node
  b' = conditioned (ps ++ qs) b

  abbrev s : Family
  s = quant_rows b (bag_in tables bs)

  abbrev s' : Family
  s' = quant_rows b (sifted t (bag_in tables bs))

  no-node : (x : ℕ) → names_cond x p ≡ false
  no-node = names-none p m.node_free

  in-b : In r b.quants
  in-b = subst (λ z. In r z) (sym m.split) (in-right r us (r ∷ vs) (inl refl))

  few-b : (x : ℕ) → times x (ids_of b) ≤ 1
  few-b x = few-ids bs b x (w.once x) m.in_b

  s-same : (x : ℕ) → (x == q) ≡ false → s' x ≡ s x
  s-same x n = found-same (sifted t (bag_in tables bs)) (bag_in tables bs) x b.quants (λ y j e. untested bs root w tables t y.over (others y j (subst (λ z. (z == q) ≡ false) (sym (eqb-true y.id x e)) n)))

  s-q : (e : Environment) → s' q e ≡ bind (s q e) (passed q p)
  s-q e =
      let one : first (is_quant q) b.quants ≡ Some r = first-own r b.quants (few-b q) in-b in
      ap (λ o. rows_found o (sifted t (bag_in tables bs)) e) one ∙ ap (λ o. sift o (bag_in tables bs r.over e)) tested ∙ ap (λ z. bind z (passed q p)) (sym (ap (λ o. rows_found o (bag_in tables bs) e) one))

  no-row : (x : ℕ) → nodes_in x b ≡ true → (x == q) ≡ false
  no-row x h = elim (cases_Bool (x == q)) [ inr f ↦ f | inl y ↦ absurd (clash (binds_row q b.quants) (any-from (λ (z : OwnedQuant). is_F z.kind && is_quant q z) r b.quants in-b (ap₂ (λ (a d : Bool). a && d) m.is_f (eq-itself q))) (subst (λ z. binds_row z b.quants ≡ false) (eqb-true x q y) (w.own_nodes b m.in_b x h).1)) ]

  apart : (x : OwnedQuant) → In x us ⊎ In x vs → (x.id == q) ≡ false
  apart x j = split-once (λ (r : OwnedQuant). r.id) us r vs (subst (λ z. times q (map (λ (r : OwnedQuant). r.id) z) ≤ 1) m.split (few-b q)) x j

  pub less-back : (e : Environment) → rows_of tables b' (sifted t (bag_in tables bs)) e ≡ bag_in tables bs b.id e
  less-back e =
      ap (λ z. rows_by z tables b' s' e) m.select_b
      ∙ ap (once_if (is_enforce b.parts.distinct)) (ap (λ z. over_each z s' (given_by s' b') e) m.split
      ∙ each-filtered s' s q (test q p) (given_by s' b') (given_by s b) s-same s-q (λ e. given-less q p no-node m.own s' s b ps qs m.conds e (λ x h. ap (λ (h : Environment → Bag). h e) (s-same x (no-row x h)))) us r vs refl m.is_f (λ x j. apart x (inl j)) (λ x j. apart x (inr j)) e ∙ sym (ap (λ z. over_each z s (given_by s b) e) m.split))
      ∙ sym (ap (λ z. rows_by z tables b s e) m.select_b) ∙ sym (unfold-bag tables bs b w.ordered m.in_b e)

  -- ---- and the graph

  module _ (g : Node → Node) (id : (y : Node) → (g y).id ≡ y.id) (quants : (y : Node) → In y bs → (g y).quants ≡ y.quants) (after : Sound (map g bs) root) (free : t root ≡ None) (own_free : t b.id ≡ None)
      (at : g b ≡ b') (back : (y : Node) → In y bs → (y.id == b.id) ≡ false → (e : Environment) → passes bs root w tables t e ≡ true → Agree same_cells (rows_of tables (g y) (sifted t (bag_in tables bs)) e) (sifted t (bag_in tables bs) y.id e)) where
    pub pushed-agree : Agree same_cells (bag_in tables (map g bs) root []) (bag_in tables bs root [])
    pushed-agree = sifted-agree bs root w tables t g id quants after free (λ y i e k. elim (cases_Bool (y.id == b.id)) [
      | inr n ↦ back y i n e k
      | inl h ↦ (
          let same : y ≡ b = same-box bs y b w.ordered i m.in_b (eqb-true y.id b.id h) in
          subst (λ (z : Node). Agree same_cells (rows_of tables (g z) (sifted t (bag_in tables bs)) e) (sifted t (bag_in tables bs) z.id e)) (sym same)
          (same-agree (ap (λ z. rows_of tables z (sifted t (bag_in tables bs)) e) at ∙ less-back e ∙ sym (ap (λ (z : Environment → Bag). z e) (untested bs root w tables t b.id own_free)))))
    ])
