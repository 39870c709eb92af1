-- A box that shows a thing ranges over the boxes of the tables and the views that the thing reads, or over boxes that show what does.
use Rattle.std.proofs.Common.{◌≡◌, ◌≤◌, ◌⊎◌, ◌==◌, ◌||◌, inl, inr, cond, ℕ, ◌+◌, Bool, true, false, List, [], ◌∷◌, ◌++◌, refl, ap, sym, ◌∙◌, arith}
use Rattle.std.proofs.lemmas.Bool.{eq-eqb, eqb-true, or_left, or_right}
use Rattle.sql_meaning.specs.ResolvedTrees.{Values, Test, From, Froms, Query}
use Rattle.sql_meaning.specs.ResolvedTrees as q
use Rattle.qgm_core.specs.declared.kinds.Distinct.{Distinct}
use Rattle.qgm_core.specs.declared.node.Node.{Node}
use Rattle.qgm_core.specs.declared.owned.OwnedQuant.{OwnedQuant}
use Rattle.qgm_terms.specs.Terms.{Term}
use Rattle.qgm_translation.specs.Leaves.{Leaf, Slots, count, fold, list_leaves, rest_of, sub, test_leaves}
use Rattle.qgm_translation.specs.Maps.{Frame, Map}
use Rattle.qgm_translation.specs.Reads.{from_reads, froms_read, query_reads, test_reads, values_read}
use Rattle.qgm_translation.specs.Shown.{Shows, ShowsBox, Thing, key_places, of_groups, of_operand, of_query, of_rows, over_in, uses}
use Rattle.qgm_translation.specs.Shown as w
use Rattle.qgm_translation.specs.Sources.{Sources, from_width}
use Rattle.qgm_translation.proofs.Numbers.{or-cases}
use Rattle.qgm_translation.proofs.Reading.{any-append, any_reads, same-eq, test-leaves, values-leaves}

-- a thing reads a table or a view of this name
abbrev pub Asks : List ℕ → Thing → Type 0
Asks name (of_query x) = query_reads x name ≡ true
Asks name (of_operand (q.named x)) = ⊥
Asks name (of_operand (q.derived query)) = query_reads query name ≡ true
Asks name (of_operand (q.crossed x y)) = from_reads (q.crossed x y) name ≡ true
Asks name (of_operand (q.joined x y p)) = from_reads (q.joined x y p) name ≡ true
Asks name (of_operand (q.left_joined x y n p)) = from_reads (q.left_joined x y n p) name ≡ true
Asks name (of_rows from by places ls) = (froms_read from name || test_reads by name) ≡ true
Asks name (of_groups from by places ls) = (froms_read from name || test_reads by name) ≡ true

module _ (sources : Sources) (name : List ℕ) (Below : ℕ → Thing → Map → Type 0) (named : (b : ℕ) (x : List ℕ) (m : Map) → Below b (of_operand (q.named x)) m → b ≡ sources.shared x) (Z : Type 0)
    (down : (b : ℕ) (thing : Thing) (m : Map) → Below b thing m → Asks name thing → Z) where
  abbrev j : ℕ
  j = sources.shared name

  -- one of these ranges over the box of the name, or it is behind
  abbrev R : List OwnedQuant → Type 0
  R os = (1 ≤ over_in j os) ⊎ Z

  more : (os ps : List OwnedQuant) → over_in j os ≤ over_in j ps → R os → R ps
  more os ps l r = elim r [ inl e ↦ inl (omega arith) | inr z ↦ inr z ]

  later : (o : OwnedQuant) (os : List OwnedQuant) → R os → R (o ∷ os)
  later o os r = more os (o ∷ os) (omega arith) r

  hit : (o : OwnedQuant) (os : List OwnedQuant) → o.over ≡ j → R (o ∷ os)
  hit o os e = inl (let i : cond {A = ℕ} (o.over == j) 1 0 ≡ 1 = ap (λ (b : Bool). cond {A = ℕ} b 1 0) (eq-eqb o.over j e) in omega arith)

  child : (x : From) (m : Map) (o : OwnedQuant) (os : List OwnedQuant) → Below o.over (of_operand x) m → from_reads x name ≡ true → R (o ∷ os)
  child (q.named x) m o os h e = hit o os (named o.over x m h ∙ ap sources.shared (same-eq x name e))
  child (q.derived query) m o os h e = inr (down o.over (of_operand (q.derived query)) m h e)
  child (q.crossed x y) m o os h e = inr (down o.over (of_operand (q.crossed x y)) m h e)
  child (q.joined x y p) m o os h e = inr (down o.over (of_operand (q.joined x y p)) m h e)
  child (q.left_joined x y n p) m o os h e = inr (down o.over (of_operand (q.left_joined x y n p)) m h e)

  one-hit : (x : From) (m : Map) (os : List OwnedQuant) → w.ShowsOne sources Below x m os → from_reads x name ≡ true → R os
  one-hit x m [] h e = absurd h
  one-hit x m (o ∷ os) h e = child x m o os h.1 e

  rest-over : (os : List OwnedQuant) → over_in j (rest_of os) ≤ over_in j os
  rest-over [] = omega arith
  rest-over (o ∷ os) = omega arith

  past-over : (x : From) (os : List OwnedQuant) → over_in j (w.past sources x os) ≤ over_in j os
  past-over (q.named x) os = rest-over os
  past-over (q.derived query) os = rest-over os
  past-over (q.crossed x y) os = (let a = past-over x os in let b = past-over y (w.past sources x os) in omega arith)
  past-over (q.joined x y p) os = (let a = past-over x os in let b = past-over y (w.past sources x os) in omega arith)
  past-over (q.left_joined x y n p) os = rest-over os

  past_all-over : (xs : Froms) (os : List OwnedQuant) → over_in j (w.past_all sources xs os) ≤ over_in j os
  past_all-over q.no_from os = omega arith
  past_all-over (q.one_from x xs) os = (let a = past-over x os in let b = past_all-over xs (w.past sources x os) in omega arith)

  any-left : (ls ks : List Leaf) → any_reads name ls ≡ true → any_reads name (ls ++ ks) ≡ true
  any-left ls ks h = any-append name ls ks ∙ or_left (any_reads name ls) (any_reads name ks) h

  any-right : (ls ks : List Leaf) → any_reads name ks ≡ true → any_reads name (ls ++ ks) ≡ true
  any-right ls ks h = any-append name ls ks ∙ or_right (any_reads name ls) (any_reads name ks) h

  from-hit : (x : From) (m : Map) (os : List OwnedQuant) → w.ShowsFrom sources Below x m os → from_reads x name ≡ true → R os ⊎ (any_reads name (w.on_leaves sources x os) ≡ true)
  from-hit (q.named x) m os h e = inl (one-hit (q.named x) m os h e)
  from-hit (q.derived query) m os h e = inl (one-hit (q.derived query) m os h e)
  from-hit (q.crossed x y) m os h e =
      let past = w.past sources x os in
      or-cases (from_reads x name) (from_reads y name) e
      (λ e. elim (from-hit x m os h.0 e) [ inl r ↦ inl r | inr a ↦ inr (any-left (w.on_leaves sources x os) (w.on_leaves sources y past) a) ])
      (λ e. elim (from-hit y m past h.1 e) [ inl r ↦ inl (more past os (past-over x os) r) | inr a ↦ inr (any-right (w.on_leaves sources x os) (w.on_leaves sources y past) a) ])
  from-hit (q.joined x y p) m os h e =
      let past = w.past sources x os in
      let fr = w.frame sources x os ++ w.frame sources y past in
      let ys = w.on_leaves sources y past in
      or-cases (from_reads x name) (from_reads y name || test_reads p name) e
      (λ e. elim (from-hit x m os h.0 e) [ inl r ↦ inl r | inr a ↦ inr (any-left (w.on_leaves sources x os) (ys ++ test_leaves fr p) a) ])
      (λ e. or-cases (from_reads y name) (test_reads p name) e
      (λ e. elim (from-hit y m past h.1 e) [
        | inl r ↦ inl (more past os (past-over x os) r)
        | inr a ↦ inr (any-right (w.on_leaves sources x os) (ys ++ test_leaves fr p) (any-left ys (test_leaves fr p) a))
      ])
      (λ e. inr (any-right (w.on_leaves sources x os) (ys ++ test_leaves fr p) (any-right ys (test_leaves fr p) (sym (test-leaves name fr p) ∙ e)))))
  from-hit (q.left_joined x y n p) m os h e = inl (one-hit (q.left_joined x y n p) m os h e)

  froms-hit : (xs : Froms) (m : Map) (os : List OwnedQuant) → w.ShowsFroms sources Below xs m os → froms_read xs name ≡ true → R os ⊎ (any_reads name (w.all_on_leaves sources xs os) ≡ true)
  froms-hit q.no_from m os h e = absurd (cc e)
  froms-hit (q.one_from x xs) m os h e =
      let past = w.past sources x os in
      or-cases (from_reads x name) (froms_read xs name) e
      (λ e. elim (from-hit x m os h.0 e) [ inl r ↦ inl r | inr a ↦ inr (any-left (w.on_leaves sources x os) (w.all_on_leaves sources xs past) a) ])
      (λ e. elim (froms-hit xs m past h.1 e) [ inl r ↦ inl (more past os (past-over x os) r) | inr a ↦ inr (any-right (w.on_leaves sources x os) (w.all_on_leaves sources xs past) a) ])

  subs-hit : (m : Map) (ls : List Leaf) (os : List OwnedQuant) → w.ShowsSubs sources Below m ls os → any_reads name ls ≡ true → R os
  subs-hit m [] os h e = absurd (cc e)
  subs-hit m (sub fr kind x ∷ ls) [] h e = absurd h
  subs-hit m (sub fr kind x ∷ ls) (o ∷ os) h e =
      or-cases (query_reads x name) (any_reads name ls) e (λ e. inr (down o.over (of_query x) (fr ∷ m) h.3 e)) (λ e. later o os (subs-hit m ls os h.4 e))
  subs-hit m (fold f d x ∷ ls) os h e = subs-hit m ls os h e
  subs-hit m (count ∷ ls) os h e = subs-hit m ls os h e

  -- by its FROM, by WHERE, or by what stands in its list
  select-hit : (d : Distinct) (from : Froms) (by : Test) (heads : Frame → List Leaf) (list : Frame → Slots → List Term) (m : Map) (b : Node) → w.ShowsSelect sources Below d from by heads list m b
      → (froms_read from name || test_reads by name) ≡ true → R b.quants
  select-hit d from by heads list m b h e =
      let fr = w.frame_all sources from b.quants in
      let ons = w.all_on_leaves sources from b.quants in
      let past = w.past_all sources from b.quants in
      let below : any_reads name (ons ++ test_leaves fr by) ≡ true → R b.quants = λ a. more past b.quants (past_all-over from b.quants) (subs-hit m (w.all_leaves sources from by heads b.quants) past h.subs (any-right (heads fr) (ons ++ test_leaves fr by) a)) in
      or-cases (froms_read from name) (test_reads by name) e
      (λ e. elim (froms-hit from m b.quants h.froms e) [ inl r ↦ r | inr a ↦ below (any-left ons (test_leaves fr by) a) ])
      (λ e. below (any-right ons (test_leaves fr by) (sym (test-leaves name fr by) ∙ e)))

  heads-hit : (d : Distinct) (from : Froms) (by : Test) (heads : Frame → List Leaf) (list : Frame → Slots → List Term) (m : Map) (b : Node) → w.ShowsSelect sources Below d from by heads list m b
      → any_reads name (heads (w.frame_all sources from b.quants)) ≡ true → R b.quants
  heads-hit d from by heads list m b h e =
      let fr = w.frame_all sources from b.quants in
      let past = w.past_all sources from b.quants in
      more past b.quants (past_all-over from b.quants) (subs-hit m (w.all_leaves sources from by heads b.quants) past h.subs (any-left (heads fr) (w.all_on_leaves sources from b.quants ++ test_leaves fr by) e))

  two-hit : (P : OwnedQuant → OwnedQuant → Type 0) (os : List OwnedQuant) → w.Two os P → ((p r : OwnedQuant) → P p r → R (p ∷ r ∷ [])) → R os
  two-hit P [] h f = absurd h
  two-hit P (p ∷ []) h f = absurd h
  two-hit P (p ∷ r ∷ []) h f = f p r h.2
  two-hit P (p ∷ r ∷ o ∷ os) h f = absurd h

  one_box-hit : (P : OwnedQuant → Type 0) (os : List OwnedQuant) → w.One os P → ((p : OwnedQuant) → P p → Z) → R os
  one_box-hit P [] h f = absurd h
  one_box-hit P (p ∷ []) h f = inr (f p h.1)
  one_box-hit P (p ∷ r ∷ os) h f = absurd h

  upper-hit : (list : Values) (from : Froms) (by : Test) (places : List ℕ) (n : ℕ) (having : Test) (m : Map) (b : Node) (os : List OwnedQuant) → w.Upper sources Below list from by places n having m b os
      → (values_read list name || (froms_read from name || (test_reads by name || test_reads having name))) ≡ true → R os
  upper-hit list from by places n having m b [] h e = absurd h
  upper-hit list from by places n having m b (u ∷ os) h e =
      let fr = w.key_frame u.id places 0 n in
      let ls = w.upper_leaves fr list having in
      let lower : (froms_read from name || test_reads by name) ≡ true → R (u ∷ os) = λ a. inr (down u.over (of_groups from by places ls) m h.groups a) in
      let under : any_reads name ls ≡ true → R (u ∷ os) = λ a. later u os (subs-hit m ls os h.subs a) in
      or-cases (values_read list name) (froms_read from name || (test_reads by name || test_reads having name)) e
      (λ e. under (any-left (list_leaves fr list) (test_leaves fr having) (sym (values-leaves name fr list) ∙ e)))
      (λ e. or-cases (froms_read from name) (test_reads by name || test_reads having name) e
      (λ e. lower (or_left (froms_read from name) (test_reads by name) e))
      (λ e. or-cases (test_reads by name) (test_reads having name) e
      (λ e. lower (or_right (froms_read from name) (test_reads by name) e))
      (λ e. under (any-right (list_leaves fr list) (test_leaves fr having) (sym (test-leaves name fr having) ∙ e)))))

  sets-hit : (x y : Query) (m : Map) (os : List OwnedQuant) → w.Two os (λ p r. Below p.over (of_query x) m × Below r.over (of_query y) m) → (query_reads x name || query_reads y name) ≡ true → R os
  sets-hit x y m os h e =
      two-hit (λ p r. Below p.over (of_query x) m × Below r.over (of_query y) m) os h
      (λ p r t. or-cases (query_reads x name) (query_reads y name) e (λ e. inr (down p.over (of_query x) m t.0 e)) (λ e. inr (down r.over (of_query y) m t.1 e)))

  query-hit : (x : Query) (m : Map) (b : Node) → w.ShowsQuery sources Below x m b → query_reads x name ≡ true → R b.quants
  query-hit (q.block distinct list from by) m b h e =
      or-cases (values_read list name) (froms_read from name || test_reads by name) e
      (λ e. heads-hit (w.distinct_of distinct) from by (λ fr. list_leaves fr list) _ m b h (sym (values-leaves name (w.frame_all sources from b.quants) list) ∙ e))
      (λ e. select-hit (w.distinct_of distinct) from by (λ fr. list_leaves fr list) _ m b h e)
  query-hit (q.grouped distinct list from by places n having) m b h e = upper-hit list from by (key_places places) n having m b b.quants h.upper e
  query-hit (q.combine x op all n y) m b h e = sets-hit x y m b.quants h.quants e
  query-hit (q.intersect x all n y) m b h e = sets-hit x y m b.quants h.quants e

  flat-hit : (x : From) (m : Map) (b : Node) → w.ShowsFlat sources Below x m b → from_reads x name ≡ true → R b.quants
  flat-hit x m b h e = select-hit _ (q.one_from x q.no_from) (q.all q.no_test) _ _ m b h (or_left (from_reads x name || false) false (or_left (from_reads x name) false e))

  outer-hit : (x y : From) (n : ℕ) (p : Test) (m : Map) (b : Node) → w.ShowsOuter sources Below x y n p m b → (from_reads x name || (from_reads y name || test_reads p name)) ≡ true → R b.quants
  outer-hit x y n p m b h e =
      two-hit (λ l r. w.ShowsSides sources Below x y n p m b l r) b.quants h.quants
      (λ l r t. or-cases (from_reads x name) (from_reads y name || test_reads p name) e (λ e. child x m l (r ∷ []) t.left e)
      (λ e. or-cases (from_reads y name) (test_reads p name) e (λ e. later l (r ∷ []) (child y m r [] t.right e))
      (λ e. absurd (
      let i : test_reads p name ≡ false = test-leaves name (w.refs l.id 1 (from_width sources x) ++ w.refs r.id 1 n) p ∙ ap (any_reads name) t.on in
      let z : true ≡ false = sym e ∙ i in
      let f : ⊥ = cc in
      f
      ))))

  pub thing-hit : (thing : Thing) (m : Map) (b : Node) → ShowsBox sources Below thing m b → Asks name thing → R b.quants
  thing-hit (of_query x) m b h e = query-hit x m b h e
  thing-hit (of_operand (q.named x)) m b h e = absurd e
  thing-hit (of_operand (q.derived query)) m b h e = query-hit query m b h e
  thing-hit (of_operand (q.crossed x y)) m b h e = flat-hit (q.crossed x y) m b h e
  thing-hit (of_operand (q.joined x y p)) m b h e = flat-hit (q.joined x y p) m b h e
  thing-hit (of_operand (q.left_joined x y n p)) m b h e = outer-hit x y n p m b h e
  thing-hit (of_rows from by places ls) m b h e = select-hit _ from by _ _ m b h.rows e
  thing-hit (of_groups from by places ls) m b h e =
      one_box-hit (λ p. Below p.over (of_rows from by places ls) m × (b.parts.head ≡ w.groups_list places ls p.id)) b.quants h.quants (λ p t. down p.over (of_rows from by places ls) m t.0 e)

-- ---- over boxes

named-box : (sources : Sources) (ns : List Node) (b : ℕ) (x : List ℕ) (m : Map) → Shows sources ns b (of_operand (q.named x)) m → b ≡ sources.shared x
named-box sources [] b x m h = absurd h
named-box sources (n ∷ ns) b x m h = by_case (n.id == b) refl h (named-box sources ns b x m)
  where
    by_case : (own : Bool) → (n.id == b) ≡ own → w.Either own (ShowsBox sources (Shows sources ns) (of_operand (q.named x)) m n) (Shows sources ns b (of_operand (q.named x)) m) → (Shows sources ns b (of_operand (q.named x)) m → b ≡ sources.shared x)
        → b ≡ sources.shared x
    by_case true e h f = sym (eqb-true n.id b e) ∙ h.0
    by_case false e h f = f h

-- the box of a table or a view that a thing reads is used
pub uses-read : (sources : Sources) (name : List ℕ) (ns : List Node) (b : ℕ) (thing : Thing) (m : Map) → Shows sources ns b thing m → Asks name thing → 1 ≤ uses (sources.shared name) ns
uses-read sources name [] b thing m h e = absurd h
uses-read sources name (n ∷ ns) b thing m h e = by_case (n.id == b) h (uses-read sources name ns b thing m) (uses-read sources name ns)
  where
    by_case : (own : Bool) → w.Either own (ShowsBox sources (Shows sources ns) thing m n) (Shows sources ns b thing m) → (Shows sources ns b thing m → Asks name thing → 1 ≤ uses (sources.shared name) ns)
        → ((b : ℕ) (thing : Thing) (m : Map) → Shows sources ns b thing m → Asks name thing → 1 ≤ uses (sources.shared name) ns) → 1 ≤ over_in (sources.shared name) n.quants + uses (sources.shared name) ns
    by_case true h f g =
        elim (thing-hit sources name (Shows sources ns) (λ b x m s. named-box sources ns b x m s) (1 ≤ uses (sources.shared name) ns) g thing m n h e) [ inl i ↦ (omega arith) | inr z ↦ (omega arith) ]
    by_case false h f g = (let z = f h e in omega arith)
