-- Adding an equality that follows preserves.
use Rattle.std.proofs.Common.{ℕ, ◌==◌, ◌≡◌, ◌&&◌, true, false, List, map, length, Option, Some, None, refl, sym, ap, subst, ◌∙◌, inl, inr, []}
use Rattle.row_bag.specs.Order.{cell_of}
use Rattle.std.specs.List.{list_all, list_any}
use Rattle.std.proofs.lemmas.Bool.{and_parts, or_cases, or_left, or_right}
use Rattle.row_bag.specs.declared.tables.Table.{Table}
use Rattle.qgm_core.specs.Boxes.{QueryGraph, numbers}
use Rattle.qgm_core.specs.Edits.{compact}
use Rattle.qgm_core.specs.Kinds.{is_F, is_plain}
use Rattle.list_laws.specs.Lists.{EachOnce, In}
use Rattle.qgm_core.specs.declared.kinds.BoxKind.TheVariants.{OuterJoin}
use Rattle.qgm_core.specs.declared.node.Node.{Node}
use Rattle.qgm_core.specs.declared.owned.OwnedQuant.{OwnedQuant}
use Rattle.qgm_wellformed.specs.Sentences.{WellFormed}
use Rattle.qgm_wellformed.specs.Shapes.{all_F, are_F, head_is_own, is_column, is_outer_join, is_unfolded, kind_fits, node_fits}
use Rattle.qgm_wellformed.specs.Types.{agree, cond_fits, lookup_of, term_type}
use Rattle.qgm_wellformed.specs.WellFormed.{fault}
use Rattle.qgm_wellformed.proofs.Faults.{finds-none}
use Rattle.qgm_meaning.specs.Satisfies.{Satisfies}
use Rattle.qgm_meaning.specs.Searches.{looking}
use Rattle.qgm_meaning.specs.Values.{row_of}
use Rattle.sql_value.specs.declared.order_key.SqlType.{SqlType}
use Rattle.sql_value.specs.declared.order_key.SqlType.TheVariants.{Integer, Varchar}
use Rattle.qgm_props.specs.Inferred.{Facts}
use Rattle.qgm_props.specs.Laws.{Tells}
use Rattle.qgm_terms.specs.Named.{nodes_in, nodes_in_cond}
use Rattle.qgm_terms.specs.Terms.{Cond, Term, int, text, null_int, null_text, col, both, minus_of, choose, count_all, fold, scalar, compare, equal}
use Rattle.qgm_terms.specs.Wanted.{Wanted, any_in, any_in_cond, has_aggregate, reads, reads_at, reads_at_cond, reads_cond, wanted}
use Rattle.qgm_terms.specs.declared.sought.Sought.TheVariants as sought
use Rattle.qgm_edit_laws.specs.Graph.{Sound}
use Rattle.qgm_edit_laws.specs.Shaped.{Shaped, Typed}
use Rattle.qgm_edit_laws.proofs.Formed.{sound-checked}
use Rattle.qgm_edit_laws.proofs.ConjunctForms.{old-conds}
use Rattle.qgm_edit_laws.proofs.OneBox.{at}
use Rattle.qgm_edit_laws.proofs.PartForms.{at-all}
use Rattle.qgm_edit_laws.proofs.ShapeParts.{shape-parts}
use Rattle.rule_api.specs.Rules.{Preserves}
use Rattle.qgm_edit_laws.specs.ConjunctEdits.{MayAddConjunct, put_conjunct, more}
use Rattle.qgm_edit_laws.specs.ImpliedEquality.{EqualFollows, Equates, NoError}
use Rattle.rule_trans.specs.Follows.{Follows, is_leaf}
use Rattle.qgm_edit_laws.proofs.AddConjunctForms.{added-formed}
use Rattle.qgm_props.proofs.Cells.{no-error}
use Rattle.qgm_edit_laws.proofs.ImpliedEquality.{equal-agree}
use Rattle.qgm_props.proofs.FactsIn.{sound-in}
use Rattle.rule_facts.proofs.Premises.{premises}
use Rattle.rule_facts.proofs.Compacted.{mapped-preserves, numbers-map}
use Rattle.list_laws.proofs.Membership.{all-in, any-from}

leaf-nodes : (z : Term) → is_leaf z ≡ true → nodes_in z ≡ []
leaf-nodes (int n) h = refl
leaf-nodes (text s) h = refl
leaf-nodes null_int h = absurd (let q : ⊥ = cc in q)
leaf-nodes null_text h = absurd (let q : ⊥ = cc in q)
leaf-nodes (col q k) h = refl
leaf-nodes (both o x y) h = absurd (let q : ⊥ = cc in q)
leaf-nodes (minus_of x) h = absurd (let q : ⊥ = cc in q)
leaf-nodes (choose s x) h = absurd (let q : ⊥ = cc in q)
leaf-nodes count_all h = absurd (let q : ⊥ = cc in q)
leaf-nodes (fold f t x) h = absurd (let q : ⊥ = cc in q)
leaf-nodes (scalar q) h = absurd (let q : ⊥ = cc in q)

leaf-folded : (z : Term) → is_leaf z ≡ true → has_aggregate z ≡ false
leaf-folded (int n) h = refl
leaf-folded (text s) h = refl
leaf-folded null_int h = absurd (let q : ⊥ = cc in q)
leaf-folded null_text h = absurd (let q : ⊥ = cc in q)
leaf-folded (col q k) h = refl
leaf-folded (both o x y) h = absurd (let q : ⊥ = cc in q)
leaf-folded (minus_of x) h = absurd (let q : ⊥ = cc in q)
leaf-folded (choose s x) h = absurd (let q : ⊥ = cc in q)
leaf-folded count_all h = absurd (let q : ⊥ = cc in q)
leaf-folded (fold f t x) h = absurd (let q : ⊥ = cc in q)
leaf-folded (scalar q) h = absurd (let q : ⊥ = cc in q)

agree-turn : (a b : Option SqlType) → agree a b ≡ true → agree b a ≡ true
agree-turn None None h = absurd (let q : ⊥ = cc in q)
agree-turn None (Some Integer) h = absurd (let q : ⊥ = cc in q)
agree-turn None (Some Varchar) h = absurd (let q : ⊥ = cc in q)
agree-turn (Some Integer) None h = absurd (let q : ⊥ = cc in q)
agree-turn (Some Varchar) None h = absurd (let q : ⊥ = cc in q)
agree-turn (Some Integer) (Some Integer) h = refl
agree-turn (Some Integer) (Some Varchar) h = absurd (let q : ⊥ = cc in q)
agree-turn (Some Varchar) (Some Integer) h = absurd (let q : ⊥ = cc in q)
agree-turn (Some Varchar) (Some Varchar) h = refl

agree-through : (a b d : Option SqlType) → agree a b ≡ true → agree b d ≡ true → agree a d ≡ true
agree-through None b d h k = absurd (let q : ⊥ = cc in q)
agree-through (Some Integer) None d h k = absurd (let q : ⊥ = cc in q)
agree-through (Some Varchar) None d h k = absurd (let q : ⊥ = cc in q)
agree-through (Some Integer) (Some Integer) d h k = k
agree-through (Some Integer) (Some Varchar) d h k = absurd (let q : ⊥ = cc in q)
agree-through (Some Varchar) (Some Integer) d h k = absurd (let q : ⊥ = cc in q)
agree-through (Some Varchar) (Some Varchar) d h k = k

-- what is found in either side of an equality is found in it
side-left : (w : Wanted) (x y : Term) (c : Cond) → Equates x y c → any_in w x ≡ true → any_in_cond w c ≡ true
side-left w x y c e h = elim e [
  | inl r ↦ ap (any_in_cond w) r ∙ or_left (any_in w x) (any_in w y) h
  | inr r ↦ ap (any_in_cond w) r ∙ or_right (any_in w y) (any_in w x) h
]

side-right : (w : Wanted) (x y : Term) (c : Cond) → Equates x y c → any_in w y ≡ true → any_in_cond w c ≡ true
side-right w x y c e h = elim e [
  | inl r ↦ ap (any_in_cond w) r ∙ or_right (any_in w x) (any_in w y) h
  | inr r ↦ ap (any_in_cond w) r ∙ or_left (any_in w y) (any_in w x) h
]

module _ (g : QueryGraph) (u : EachOnce (numbers g.boxes)) (w : WellFormed g) (known : Facts) (tells : Tells known g.boxes) (n : Node) (p j q k : ℕ) (z : Term) (c d : Cond) (m : Follows g known n p j q k z c d) where
  abbrev bs : List Node
  bs = g.boxes

  none : fault g ≡ None
  none = (finds-none g u).1 w

  ok : Sound g.boxes g.root × Typed g.boxes × Shaped g.boxes g.root
  ok = (sound-checked g u).0 none

  abbrev p' : Cond
  p' = compare equal (col p j) z

  -- what is found in it is found in n's conjuncts
  was : (v : Wanted) → any_in_cond v (compare equal (col p j) z) ≡ true → list_any (any_in_cond v) n.parts.conds.items ≡ true
  was v t = elim (or_cases (any_in v (col p j)) (any_in v z) t) [
    | inl a ↦ any-from (any_in_cond v) c n.parts.conds.items m.first (side-left v (col p j) (col q k) c m.of_first a)
    | inr a ↦ any-from (any_in_cond v) d n.parts.conds.items m.second (side-right v (col q k) z d m.of_second a)
  ]

  fits-as : (x y : Term) (e : Cond) → In e n.parts.conds.items → Equates x y e → agree (term_type (lookup_of bs) x) (term_type (lookup_of bs) y) ≡ true
  fits-as x y e i o =
      let f : cond_fits (lookup_of bs) e ≡ true = all-in (cond_fits (lookup_of bs)) e n.parts.conds.items (old-conds bs g.root ok.0 ok.1 ok.2 n m.within) i in
      elim o [
        | inl r ↦ ap (cond_fits (lookup_of bs)) (sym r) ∙ f
        | inr r ↦ agree-turn (term_type (lookup_of bs) y) (term_type (lookup_of bs) x) (ap (cond_fits (lookup_of bs)) (sym r) ∙ f)
      ]

  no-node : nodes_in_cond (compare equal (col p j) z) ≡ []
  no-node = leaf-nodes z m.leaf

  may : MayAddConjunct g n (compare equal (col p j) z)
  may = record {
    within = m.within;
    kind = m.kind;
    not_fed = m.not_fed;
    typed = agree-through (term_type (lookup_of bs) (col p j)) (term_type (lookup_of bs) (col q k)) (term_type (lookup_of bs) z) (fits-as (col p j) (col q k) c m.first m.of_first) (fits-as (col q k) z d m.second m.of_second);
    unfolded = leaf-folded z m.leaf;
    nodes = ap (list_all (node_fits n.quants)) no-node;
    names = λ x t. or_right (list_any (any_in (wanted (sought.NodeOf x))) n.parts.head) (list_any (any_in_cond (wanted (sought.NodeOf x))) n.parts.conds.items) (was (wanted (sought.NodeOf x)) t);
    columns = λ x i t. (
        let v : Wanted = looking (λ r j. (r == x) && (j == i)) (λ r. false) (λ r. false) (λ r. true) in
        or_right (list_any (any_in v) n.parts.head) (list_any (any_in_cond v) n.parts.conds.items) (was v t));
    reads = λ x t. or_right (list_any (reads x) n.parts.head) (list_any (reads_cond x) n.parts.conds.items) (was (wanted (sought.Row x)) t);
    reads_at = λ x i t. or_right (list_any (reads_at x i) n.parts.head) (list_any (reads_at_cond x i) n.parts.conds.items) (was (wanted (sought.Cell x i)) t);
  }

  abbrev h : Node → Node
  h = at n.id (more (compare equal (col p j) z))

  formed : fault (put_conjunct n (compare equal (col p j) z) g) ≡ None
  formed = added-formed g u none n (compare equal (col p j) z) may

  -- both quantifiers of an outer join are F
  rows : n.parts.kind ≡ OuterJoin → (r : OwnedQuant) → In r n.quants → is_F r.kind ≡ true
  rows o r i =
      let s : is_outer_join n ≡ true = subst (λ k. kind_fits g.root bs n k ≡ true) o (shape-parts g.root bs n (ok.2.shapes n m.within)).kind in
      let a = and_parts (are_F 2 n.quants && list_all is_column n.parts.head && head_is_own n && is_unfolded n) (is_plain n.parts.role) s in
      let b = and_parts (are_F 2 n.quants && list_all is_column n.parts.head && head_is_own n) (is_unfolded n) a.0 in
      let e = and_parts (are_F 2 n.quants && list_all is_column n.parts.head) (head_is_own n) b.0 in
      let f = and_parts (are_F 2 n.quants) (list_all is_column n.parts.head) e.0 in
      all-in (λ (r : OwnedQuant). is_F r.kind) r n.quants (length-and f.0) i
    where
      length-and : are_F 2 n.quants ≡ true → all_F n.quants ≡ true
      length-and t = (and_parts (length n.quants == 2) (all_F n.quants) t).1

  follows : EqualFollows g.boxes n (col p j) q k z c d
  follows = record { within = m.within; kind = m.kind; rows = rows; first = m.first; second = m.second; of_first = m.of_first; of_second = m.of_second }

  no-error-there : (tables : List Table) → Satisfies tables g.boxes → NoError tables g.boxes q k
  no-error-there tables sat e fit = no-error (cell_of k (row_of q e)) (sound-in tables bs (premises bs g.root ok.0 tables sat) e fit known tells q k m.free)

  sound-h : Sound (map (at n.id (more (compare equal (col p j) z))) g.boxes) g.root
  sound-h = ((sound-checked (put_conjunct n (compare equal (col p j) z) g) (subst (λ z. EachOnce z) (sym (numbers-map h (λ y. at-all n.id (more p') (λ z. z.id) (λ z. refl) y) bs)) u)).0 formed).0

  pub follows-preserves : Preserves g (compact (put_conjunct n (compare equal (col p j) z) g))
  follows-preserves = mapped-preserves g u h (λ y. at-all n.id (more p') (λ z. z.id) (λ z. refl) y) (λ y. at-all n.id (more p') (λ z. z.parts.kind) (λ z. refl) y) formed
      (λ tables sat. equal-agree g.boxes g.root ok.0 n (col p j) q k z c d follows tables (no-error-there tables sat) sound-h)
