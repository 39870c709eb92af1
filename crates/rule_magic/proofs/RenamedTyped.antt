-- A renamed box keeps the types of its columns, and its shape.
use Rattle.std.proofs.Common.{ℕ, ◌==◌, ◌≡◌, ◌+◌, ◌&&◌, nat_le, nat_lt, cond, Bool, true, false, List, [], ◌∷◌, Option, refl, sym, ap, ap₂, subst, ◌∙◌, eqb-true, inl, inr, arith}
use Rattle.std.specs.List.{flat_map, list_all, list_any}
use Rattle.std.proofs.lemmas.Bool.{and_from, and_parts, cases_Bool, or_left, or_parts, or_right}
use Rattle.sql_value.specs.declared.order_key.SqlType.{SqlType}
use Rattle.qgm_core.specs.Boxes.{owns}
use Rattle.qgm_core.specs.Free.{named_by}
use Rattle.list_laws.specs.Lists.{In, holds}
use Rattle.qgm_core.specs.declared.kinds.BoxKind.{BoxKind}
use Rattle.qgm_core.specs.declared.kinds.BoxKind.TheVariants.{Base, Select, Group, SetOp, OuterJoin}
use Rattle.qgm_core.specs.declared.node.Node.{Node}
use Rattle.qgm_core.specs.declared.owned.OwnedQuant.{OwnedQuant}
use Rattle.qgm_meaning.specs.Scope.{loose, put_node}
use Rattle.qgm_meaning.specs.Tags.{columns_from}
use Rattle.qgm_terms.specs.Named.{names_in, names_in_cond}
use Rattle.qgm_terms.specs.Substitution.{cell_at, substituted, substituted_cond}
use Rattle.qgm_terms.specs.Terms.{Cond, Term}
use Rattle.qgm_terms.specs.Wanted.{reads_at, reads_at_cond}
use Rattle.qgm_terms.specs.declared.named.Column.{Column}
use Rattle.qgm_wellformed.specs.Columns.{box_under, columns_fit, columns_of, fits, places_fit}
use Rattle.qgm_wellformed.specs.Types.{Lookup, all_agree, cond_fits, is_known, lookup_of, term_type, types_by}
use Rattle.qgm_wellformed.specs.Types as types
use Rattle.qgm_edit_laws.specs.Graph.{Sound, reads_in}
use Rattle.qgm_edit_laws.specs.Reforms.{types_at}
use Rattle.qgm_edit_laws.specs.Shaped.{Shaped, Typed}
use Rattle.qgm_edit_laws.specs.TypesBy.{Types, agrees_by, arms_by, via}
use Rattle.qgm_edit_laws.proofs.Follow.{settled-types}
use Rattle.qgm_edit_laws.proofs.PutTypes.{all-put, cond-mixed, mixed, term-mixed, types-put}
use Rattle.qgm_edit_laws.proofs.Read.{at_all, column-named, columns-found, is_at}
use Rattle.qgm_edit_laws.proofs.Settled.{cond-local, term-local}
use Rattle.qgm_edit_laws.proofs.ShapePut.{shape-put}
use Rattle.qgm_edit_laws.proofs.TypesBy.{agrees-as}
use Rattle.qgm_meaning.specs.Searches.{names, names_cond}
use Rattle.rule_magic.specs.Renamed.{IsRetyped, MayRename, MayRetype, RenamedIsTyped}
use Rattle.rule_magic.proofs.AbsorbSelectFormed.{none-aggregate}
use Rattle.rule_feed.proofs.FeedReads.{columns-cell}
use Rattle.rule_feed.proofs.FeedScope.{none-true, put-found}
use Rattle.rule_magic.proofs.PairFormed.{le-from, lt-from}
use Rattle.rule_magic.proofs.RenamedMade.{bare-columns, columns-hit}
use Rattle.list_laws.proofs.Booleans.{clash}
use Rattle.list_laws.proofs.Membership.{all-from, all-in, any-from, any-in, any-none, eq-itself, flat-in, in-holds, in-left, in-right}

module _ (bs hs : List Node) (root : ℕ) (look : ℕ → ℕ → Bool) (T : Types) (a p w : ℕ) (n : Node) (sound : Sound bs root) (ty : Typed bs) (sh : Shaped bs root) (after : Sound hs root) (m : MayRename bs hs look a p w n) (t : MayRetype bs hs T a p w n)
    (in_hs : In (put_node a (columns_from p 1 w) n) hs) where
  abbrev cells : List Term
  cells = columns_from p 1 w

  abbrev z : Node
  z = put_node a (columns_from p 1 w) n

  abbrev L : Lookup
  L = lookup_of bs

  abbrev V : Lookup
  V = via T hs

  no-nodes : (list_any (names a) n.parts.head ≡ false) × (list_any (names_cond a) n.parts.conds.items ≡ false)
  no-nodes = or_parts (list_any (names a) n.parts.head) (list_any (names_cond a) n.parts.conds.items) m.no_node

  -- what n names is looked up as before, columns of a as those of p
  alike : (q : ℕ) → holds q (named_by n) ≡ true → (k : ℕ) → mixed L V a cells q k ≡ L q k
  alike q h k = elim (cases_Bool (q == a)) [
    | inl e ↦ ap (λ b. cond b (L a k) (V q k)) e ∙ ap (λ i. L i k) (sym (eqb-true q a e))
    | inr f ↦ ap (λ b. cond b (L a k) (V q k)) f ∙ t.lookups q h f k
  ]

  good : (k : ℕ) → reads_in a k n ≡ true → term_type V (cell_at k cells) ≡ L a k
  good k h = let l = m.places k h in ap (term_type V) (columns-hit p w k l.0 l.1) ∙ t.tags k l.0 l.1

  named-head : (x : Term) → In x n.parts.head → (q : ℕ) → In q (names_in x) → holds q (named_by n) ≡ true
  named-head x i q j = in-holds q (named_by n) (in-left q (flat_map names_in n.parts.head) (flat_map names_in_cond n.parts.conds.items) (flat-in names_in x q n.parts.head i j))

  named-cond : (c : Cond) → In c n.parts.conds.items → (q : ℕ) → In q (names_in_cond c) → holds q (named_by n) ≡ true
  named-cond c i q j = in-holds q (named_by n) (in-right q (flat_map names_in n.parts.head) (flat_map names_in_cond n.parts.conds.items) (flat-in names_in_cond c q n.parts.conds.items i j))

  head-same : (x : Term) → In x n.parts.head → term_type V (substituted a cells x) ≡ term_type L x
  head-same x i =
      term-mixed L V a cells x (any-none (names a) x n.parts.head no-nodes.0 i) (λ k h. good k (or_left (list_any (reads_at a k) n.parts.head) (list_any (reads_at_cond a k) n.parts.conds.items) (any-from (reads_at a k) x n.parts.head i h)))
      ∙ term-local (mixed L V a cells) L (λ q. holds q (named_by n)) alike x (all-from (λ q. holds q (named_by n)) (names_in x) (named-head x i))

  cond-same : (c : Cond) → In c n.parts.conds.items → cond_fits V (substituted_cond a cells c) ≡ cond_fits L c
  cond-same c i =
      cond-mixed L V a cells c (any-none (names_cond a) c n.parts.conds.items no-nodes.1 i) (λ k h. good k (or_right (list_any (reads_at a k) n.parts.head) (list_any (reads_at_cond a k) n.parts.conds.items) (any-from (reads_at_cond a k) c n.parts.conds.items i h)))
      ∙ cond-local (mixed L V a cells) L (λ q. holds q (named_by n)) alike c (all-from (λ q. holds q (named_by n)) (names_in_cond c) (named-cond c i))

  arms-same : (k : BoxKind) → arms_by T k n.quants ≡ arms_by (types_at bs) k n.quants
  arms-same (Base f) = refl
  arms-same Select = refl
  arms-same (Group k) = refl
  arms-same (SetOp f ts) = each n.quants t.arms
    where
      each : (rs : List OwnedQuant) → ((r : OwnedQuant) → In r rs → T r.over ≡ types_at bs r.over) → list_all (λ (r : OwnedQuant). all_agree (T r.over) (types.known ts)) rs ≡ list_all (λ (r : OwnedQuant). all_agree (types_at bs r.over) (types.known ts)) rs
      each [] h = refl
      each (r ∷ rs) h = ap₂ (λ b c. b && c) (ap (λ (k : List (Option SqlType)). all_agree k (types.known ts)) (h r (inl refl))) (each rs (λ s j. h s (inr j)))
  arms-same OuterJoin = refl

  agrees-after : agrees_by V T z ≡ true
  agrees-after =
      ap₂ (λ b c. b && c) (all-put (λ x. is_known (term_type V x)) (λ x. is_known (term_type L x)) (substituted a cells) n.parts.head (λ x i. ap is_known (head-same x i)))
      (ap₂ (λ b c. b && c) (all-put (cond_fits V) (cond_fits L) (substituted_cond a cells) n.parts.conds.items cond-same) (arms-same n.parts.kind))
      ∙ sym (agrees-as bs n) ∙ ty n m.within

  old-columns : (places_fit n.parts.kind ≡ true) × (list_all (λ (d : Column). fits d.place (box_under bs d.quant)) (columns_of n) ≡ true)
  old-columns = and_parts (places_fit n.parts.kind) (list_all (λ (d : Column). fits d.place (box_under bs d.quant)) (columns_of n)) (sh.columns n m.within)

  -- a column that is named after was named before, of another quantifier than a, or is one of p
  column-fits : (q k : ℕ) → list_any (is_at q k) (columns_of z) ≡ true → fits k (box_under hs q) ≡ true
  column-fits q k h = elim (put-found a cells (λ r j. (r == q) && (j == k)) (λ r. false) (λ r. false) (λ r. true) ((q == a) ≡ false) (λ r j f e. subst (λ u. (u == a) ≡ false) (eqb-true r q (and_parts (r == q) (j == k) e).0) f) (λ r f e. none-true e) (λ r f e. none-true e) n m.no_node (sym (columns-found q k z) ∙ h)) [
    | inl x ↦ (
        let here = columns-found q k n ∙ x.0 in
        let d = any-in (is_at q k) (columns_of n) here in
        let e = and_parts (d.0.quant == q) (d.0.place == k) d.1.1 in
        let old : fits k (box_under bs q) ≡ true = ap₂ (λ i j. fits j (box_under bs i)) (sym (eqb-true d.0.quant q e.0)) (sym (eqb-true d.0.place k e.1)) ∙ all-in (λ (d : Column). fits d.place (box_under bs d.quant)) d.0 (columns_of n) old-columns.1 d.1.0 in
        let u = t.unders q (column-named q k n here) x.1 in
        ap (fits k) u.1.1.1.0 ∙ ap (λ v. nat_lt 0 k && nat_le k v) u.1.1.1.1 ∙ sym (ap (fits k) u.1.1.0) ∙ old)
    | inr x ↦ (
        let c = columns-cell (at_all q k) p w 0 x.0 refl x.1.1 in
        let e = and_parts (p == q) (0 + x.0 == k) c.0 in
        let f : 0 + x.0 ≡ k = eqb-true (0 + x.0) k e.1 in
        let low = c.1.0 in
        let high = c.1.1 in
        let v = t.under_p in
        ap (λ i. fits k (box_under hs i)) (sym (eqb-true p q e.0)) ∙ ap (fits k) v.1.0 ∙ ap (λ i. nat_lt 0 k && nat_le k i) v.1.1 ∙ and_from (nat_lt 0 k) (nat_le k w) (lt-from 0 k (omega (arith, f, low))) (le-from k w (omega (arith, f, high))))
  ]

  columns-after : columns_fit hs z ≡ true
  columns-after = and_from (places_fit n.parts.kind) (list_all (λ (d : Column). fits d.place (box_under hs d.quant)) (columns_of z)) old-columns.0
      (all-from (λ (d : Column). fits d.place (box_under hs d.quant)) (columns_of z) (λ d j. column-fits d.quant d.place (any-from (is_at d.quant d.place) d (columns_of z) j (and_from (d.quant == d.quant) (d.place == d.place) (eq-itself d.quant) (eq-itself d.place)))))

  own-a : owns a n ≡ false
  own-a = elim (cases_Bool (owns a n)) [ inr f ↦ f | inl o ↦ absurd (clash (loose bs n.id a) m.opened (sound.settled n m.within a o)) ]

  pub renamed-typed : IsRetyped bs hs root T z
  renamed-typed = record {
    columns_typed = t.own ∙ settled-types bs root sound n m.within ∙ sym (types-put L V a cells n.parts.kind n.parts.head head-same);
    agrees = agrees-after;
    columns = columns-after;
    shape = shape-put root bs a cells n.parts.distinct n own-a m.no_node (none-aggregate p 1 w) (bare-columns p 1 w) (λ h. h) (λ h. h) hs after in_hs (sh.shapes n m.within);
  }

pub renamed-is-typed : RenamedIsTyped
renamed-is-typed = λ bs hs root look T a p w n sound ty sh after m t i. renamed-typed bs hs root look T a p w n sound ty sh after m t i
