-- A box that shows a thing looks up only quantifiers that are seen in its map.
use Rattle.std.proofs.Common.{◌≡◌, ℕ, zero, suc, ◌+◌, ◌==◌, ◌&&◌, ◌||◌, nat_eq, not, cond, Bool, true, false, List, [], ◌∷◌, ◌++◌, map, take, length, get_or, Option, Some, None, refl, ap, sym, ◌∙◌, subst}
use Rattle.std.specs.List.{list_any, list_all}
use Rattle.std.proofs.lemmas.Bool.{and_parts, eq-eqb, not-true, not_from_false, or_from}
use Rattle.sql_ast.specs.declared.word.SetFunction.{SetFunction}
use Rattle.sql_ast.specs.declared.word.SetFunction.TheVariants as function
use Rattle.sql_meaning.specs.ResolvedTrees.{Values, Test, From, Froms, Query}
use Rattle.sql_meaning.specs.ResolvedTrees as q
use Rattle.list_laws.specs.Lists.{first}
use Rattle.qgm_core.specs.Kinds.{is_F}
use Rattle.qgm_core.specs.Boxes.{is_quant}
use Rattle.qgm_core.specs.declared.node.Node.{Node}
use Rattle.qgm_core.specs.declared.owned.OwnedQuant.{OwnedQuant}
use Rattle.qgm_core.specs.declared.kinds.Distinct.{Distinct}
use Rattle.qgm_core.specs.declared.kinds.SetOperator as forms
use Rattle.qgm_terms.specs.Terms.{Term}
use Rattle.qgm_terms.specs.Wanted.{reads, reads_cond}
use Rattle.qgm_meaning.specs.Scope.{loose, loose_by, loose_each, loose_of, looks_found, quant_looks, read_by, under_any}
use Rattle.qgm_translation.specs.Leaves.{Leaf, Slots, after, count, fold, list_leaves, rest_of, sub, test_leaves}
use Rattle.qgm_translation.specs.Maps.{Frame, Map, column, fresh, fresh_in, nothing, ref_term}
use Rattle.qgm_translation.specs.Shown.{Shows, ShowsBox, Thing, argument_terms, columns_of, distinct_ids, fold_refs, fold_terms, key_frame, key_places, key_ref, no_slots, of_groups, of_operand, of_query, of_rows, padded, refs, ungrouped, ungrouped_cells}
use Rattle.qgm_translation.specs.Shown as w
use Rattle.qgm_translation.specs.Sources.{Sources, from_width, width}
use Rattle.qgm_translation.specs.Terms as l
use Rattle.qgm_translation.proofs.Clear.{Apart, any-append, apart-append, at-clear, after-clear, cond-clear, list-apart, ref-clear, split-clear, term-clear, terms-clear, test-apart}
use Rattle.qgm_translation.proofs.Froms.{fresh-refs}

fresh-both : (n : ℕ) (a b : Frame) → fresh_in n a ≡ true → fresh_in n b ≡ true → fresh_in n (a ++ b) ≡ true
fresh-both n [] b h k = k
fresh-both n (r ∷ a) b h k = let p = and_parts _ (fresh_in n a) h in rw (p.0, fresh-both n a b p.1 k) refl

refs-clear : (n q k i : ℕ) → (q == n) ≡ false → fresh_in n (refs q k i) ≡ true
refs-clear n q k i h = fresh-refs n q k i (not_from_false (q == n) h)

frame-terms : (n : ℕ) (fr : Frame) → fresh_in n fr ≡ true → list_any (reads n) (map ref_term fr) ≡ false
frame-terms n [] h = refl
frame-terms n (r ∷ fr) h = let p = and_parts _ (fresh_in n fr) h in or_from (reads n (ref_term r)) (list_any (reads n) (map ref_term fr)) (ref-clear n r p.0) (frame-terms n fr p.1)

ungrouped-clear : (n : ℕ) (f : SetFunction) (fr : Frame) → fresh_in n fr ≡ true → fresh_in n (ungrouped f ∷ fr) ≡ true
ungrouped-clear n function.Count fr h = h
ungrouped-clear n function.Sum fr h = h
ungrouped-clear n function.Avg fr h = h
ungrouped-clear n function.Min fr h = h
ungrouped-clear n function.Max fr h = h

plain-cells : (n : ℕ) (ls : List Leaf) → fresh_in n (ungrouped_cells ls) ≡ true
plain-cells n [] = refl
plain-cells n (sub f kind x ∷ ls) = plain-cells n ls
plain-cells n (fold f distinct x ∷ ls) = ungrouped-clear n f (ungrouped_cells ls) (plain-cells n ls)
plain-cells n (count ∷ ls) = plain-cells n ls

fold-cells : (n u j : ℕ) (ls : List Leaf) → (u == n) ≡ false → fresh_in n (fold_refs u j ls) ≡ true
fold-cells n u j [] h = refl
fold-cells n u j (sub f kind x ∷ ls) h = fold-cells n u j ls h
fold-cells n u j (fold f distinct x ∷ ls) h = rw (not_from_false (u == n) h, fold-cells n u (suc j) ls h) refl
fold-cells n u j (count ∷ ls) h = rw (not_from_false (u == n) h, fold-cells n u (suc j) ls h) refl

key-clear : (n u k : ℕ) (places : List ℕ) (i : ℕ) (fr : Frame) → (u == n) ≡ false → fresh_in n fr ≡ true → fresh_in n (key_ref u k places i ∷ fr) ≡ true
key-clear n u k [] i fr h e = e
key-clear n u k (p ∷ ps) i fr h e = by_case (nat_eq i p) (key-clear n u (suc k) ps i fr h e)
  where
    by_case : (b : Bool) → fresh_in n (key_ref u (suc k) ps i ∷ fr) ≡ true → fresh_in n (cond b (column u k) (key_ref u (suc k) ps i) ∷ fr) ≡ true
    by_case true g = rw (not_from_false (u == n) h, e) refl
    by_case false g = g

keys-clear : (n u : ℕ) (places : List ℕ) (i m : ℕ) → (u == n) ≡ false → fresh_in n (key_frame u places i m) ≡ true
keys-clear n u places i zero h = refl
keys-clear n u places i (suc m) h = key-clear n u 1 places i (key_frame u places (i + 1) m) h (keys-clear n u places (i + 1) m h)

fold_terms-clear : (n q j : ℕ) (ls : List Leaf) → (q == n) ≡ false → list_any (reads n) (fold_terms q j ls) ≡ false
fold_terms-clear n q j [] h = refl
fold_terms-clear n q j (sub f kind x ∷ ls) h = fold_terms-clear n q j ls h
fold_terms-clear n q j (fold f distinct x ∷ ls) h = or_from (false || (q == n)) (list_any (reads n) (fold_terms q (suc j) ls)) h (fold_terms-clear n q (suc j) ls h)
fold_terms-clear n q j (count ∷ ls) h = fold_terms-clear n q j ls h

-- ---- quantifiers that are found

-- each of these is found by its number
abbrev Finds : List OwnedQuant → List OwnedQuant → Type 0
Finds qs [] = Unit {0}
Finds qs (o ∷ os) = (first (is_quant o.id) qs ≡ Some o) × Finds qs os

finds-more : (o : OwnedQuant) (ps os : List OwnedQuant) → list_all (λ p. not (o.id == p.id)) os ≡ true → Finds ps os → Finds (o ∷ ps) os
finds-more o ps [] h k = tt
finds-more o ps (p ∷ os) h k =
    let u = and_parts (not (o.id == p.id)) (list_all (λ p. not (o.id == p.id)) os) h in
    (ap (λ b. cond b (Some o) (first (is_quant p.id) ps)) (not-true (o.id == p.id) u.0) ∙ k.0, finds-more o ps os u.1 k.1)

finds : (os : List OwnedQuant) → distinct_ids os ≡ true → Finds os os
finds [] h = tt
finds (o ∷ os) h =
    let u = and_parts (list_all (λ p. not (o.id == p.id)) os) (distinct_ids os) h in
    (ap (λ b. cond b (Some o) (first (is_quant o.id) os)) (eq-eqb o.id o.id refl), finds-more o os os u.0 (finds os u.1))

-- ---- the F quantifiers of a box

walk-step : (kind same looks rest : Bool) → (kind ≡ true → looks ≡ false) → (kind ≡ false → rest ≡ false) → (kind ≡ true → same ≡ false → rest ≡ false) → cond kind (looks || (not same && rest)) rest ≡ false
walk-step true true looks rest h f g = or_from looks false (h refl) refl
walk-step true false looks rest h f g = or_from looks rest (h refl) (g refl refl)
walk-step false same looks rest h f g = f refl

-- none of the F quantifiers is n
abbrev Others : ℕ → List OwnedQuant → Type 0
Others n [] = Unit {0}
Others n (o ∷ os) = (is_F o.kind ≡ true → (o.id == n) ≡ false) × Others n os

module _ (n : ℕ) (below : ℕ → ℕ → Bool) where
  -- the boxes under F quantifiers don't look n up
  abbrev Under : List OwnedQuant → Type 0
  Under [] = Unit {0}
  Under (o ∷ os) = (is_F o.kind ≡ true → below o.over n ≡ false) × Under os

  walk : (b : Node) (os : List OwnedQuant) → Under os → Finds b.quants os → (Others n os → (read_by b n || under_any b.quants below n) ≡ false) → loose_each os b below n ≡ false
  walk b [] u f last = last tt
  walk b (o ∷ os) u f last =
      walk-step (is_F o.kind) (o.id == n) (quant_looks b below o.id n) (loose_each os b below n) (λ k. ap (λ r. looks_found r below n) f.0 ∙ u.0 k) (λ k. walk b os u.1 f.1 (λ others. last ((λ t. absurd (cc (t, k))), others)))
      (λ k e. walk b os u.1 f.1 (λ others. last ((λ _. e), others)))

  -- over boxes below that look up only what is seen in their maps
  module _ (sources : Sources) (Below : ℕ → Thing → Map → Type 0) (clear : (b : ℕ) (thing : Thing) (m : Map) → Below b thing m → fresh n m ≡ true → below b n ≡ false) where
    subs-under : (m : Map) (ls : List Leaf) (os : List OwnedQuant) → w.ShowsSubs sources Below m ls os → Apart n ls → fresh n m ≡ true → under_any os below n ≡ false
    subs-under m [] os h a e = ap (λ z. under_any z below n) h
    subs-under m (sub f kind x ∷ ls) [] h a e = absurd h
    subs-under m (sub f kind x ∷ ls) (o ∷ os) h a e = or_from (below o.over n) (under_any os below n) (clear o.over (of_query x) (f ∷ m) h.3 (rw (a.0, e) refl)) (subs-under m ls os h.4 a.1 e)
    subs-under m (fold f distinct x ∷ ls) os h a e = subs-under m ls os h a e
    subs-under m (count ∷ ls) os h a e = subs-under m ls os h a e

    -- no quantifier of a subquery is F
    subs-F : (m : Map) (ls : List Leaf) (os : List OwnedQuant) → w.ShowsSubs sources Below m ls os → Under os
    subs-F m [] os h = subst Under (sym h) tt
    subs-F m (sub f kind x ∷ ls) [] h = absurd h
    subs-F m (sub f kind x ∷ ls) (o ∷ os) h = ((λ t. absurd (let e : is_F o.kind ≡ false = ap is_F h.0 ∙ h.1 in cc (t, e))), subs-F m ls os h.4)
    subs-F m (fold f distinct x ∷ ls) os h = subs-F m ls os h
    subs-F m (count ∷ ls) os h = subs-F m ls os h

    one-F : (x : From) (m : Map) (os : List OwnedQuant) → w.ShowsOne sources Below x m os → fresh n m ≡ true → Under (rest_of os) → Under os
    one-F x m [] h e u = absurd h
    one-F x m (o ∷ os) h e u = ((λ _. clear o.over (of_operand x) m h.1 e), u)

    from-F : (x : From) (m : Map) (os : List OwnedQuant) → w.ShowsFrom sources Below x m os → fresh n m ≡ true → Under (w.past sources x os) → Under os
    from-F (q.named name) m os h e u = one-F (q.named name) m os h e u
    from-F (q.derived query) m os h e u = one-F (q.derived query) m os h e u
    from-F (q.crossed x y) m os h e u = from-F x m os h.0 e (from-F y m (w.past sources x os) h.1 e u)
    from-F (q.joined x y p) m os h e u = from-F x m os h.0 e (from-F y m (w.past sources x os) h.1 e u)
    from-F (q.left_joined x y i p) m os h e u = one-F (q.left_joined x y i p) m os h e u

    froms-F : (xs : Froms) (m : Map) (os : List OwnedQuant) → w.ShowsFroms sources Below xs m os → fresh n m ≡ true → Under (w.past_all sources xs os) → Under os
    froms-F q.no_from m os h e u = u
    froms-F (q.one_from x xs) m os h e u = from-F x m os h.0 e (froms-F xs m (w.past sources x os) h.1 e u)

    one-under : (x : From) (m : Map) (os : List OwnedQuant) → w.ShowsOne sources Below x m os → fresh n m ≡ true → under_any (rest_of os) below n ≡ false → under_any os below n ≡ false
    one-under x m [] h e u = absurd h
    one-under x m (o ∷ os) h e u = or_from (below o.over n) (under_any os below n) (clear o.over (of_operand x) m h.1 e) u

    from-under : (x : From) (m : Map) (os : List OwnedQuant) → w.ShowsFrom sources Below x m os → fresh n m ≡ true → under_any (w.past sources x os) below n ≡ false → under_any os below n ≡ false
    from-under (q.named name) m os h e u = one-under (q.named name) m os h e u
    from-under (q.derived query) m os h e u = one-under (q.derived query) m os h e u
    from-under (q.crossed x y) m os h e u = from-under x m os h.0 e (from-under y m (w.past sources x os) h.1 e u)
    from-under (q.joined x y p) m os h e u = from-under x m os h.0 e (from-under y m (w.past sources x os) h.1 e u)
    from-under (q.left_joined x y i p) m os h e u = one-under (q.left_joined x y i p) m os h e u

    froms-under : (xs : Froms) (m : Map) (os : List OwnedQuant) → w.ShowsFroms sources Below xs m os → fresh n m ≡ true → under_any (w.past_all sources xs os) below n ≡ false → under_any os below n ≡ false
    froms-under q.no_from m os h e u = u
    froms-under (q.one_from x xs) m os h e u = from-under x m os h.0 e (froms-under xs m (w.past sources x os) h.1 e u)

    -- what is seen of a FROM is of its F quantifiers
    one-frame : (x : From) (i : ℕ) (m : Map) (os : List OwnedQuant) → w.ShowsOne sources Below x m os → Others n os → (fresh_in n (refs (w.first_id os) 1 i) ≡ true) × Others n (rest_of os)
    one-frame x i m [] h o = absurd h
    one-frame x i m (r ∷ os) h o = (refs-clear n r.id 1 i (o.0 (ap is_F h.0)), o.1)

    from-frame : (x : From) (m : Map) (os : List OwnedQuant) → w.ShowsFrom sources Below x m os → Others n os → (fresh_in n (w.frame sources x os) ≡ true) × Others n (w.past sources x os)
    from-frame (q.named name) m os h o = one-frame (q.named name) (sources.columns name) m os h o
    from-frame (q.derived query) m os h o = one-frame (q.derived query) (width query) m os h o
    from-frame (q.crossed x y) m os h o =
        let a = from-frame x m os h.0 o in
        let b = from-frame y m (w.past sources x os) h.1 a.1 in
        (fresh-both n (w.frame sources x os) (w.frame sources y (w.past sources x os)) a.0 b.0, b.1)
    from-frame (q.joined x y p) m os h o =
        let a = from-frame x m os h.0 o in
        let b = from-frame y m (w.past sources x os) h.1 a.1 in
        (fresh-both n (w.frame sources x os) (w.frame sources y (w.past sources x os)) a.0 b.0, b.1)
    from-frame (q.left_joined x y i p) m os h o = one-frame (q.left_joined x y i p) (from_width sources x + i) m os h o

    froms-frame : (xs : Froms) (m : Map) (os : List OwnedQuant) → w.ShowsFroms sources Below xs m os → Others n os → fresh_in n (w.frame_all sources xs os) ≡ true
    froms-frame q.no_from m os h o = refl
    froms-frame (q.one_from x xs) m os h o =
        let a = from-frame x m os h.0 o in
        fresh-both n (w.frame sources x os) (w.frame_all sources xs (w.past sources x os)) a.0 (froms-frame xs m (w.past sources x os) h.1 a.1)

    -- the ON conditions that are flattened
    on-apart : (x : From) (m : Map) (os : List OwnedQuant) → w.ShowsFrom sources Below x m os → Others n os → Apart n (w.on_leaves sources x os)
    on-apart (q.named name) m os h o = tt
    on-apart (q.derived query) m os h o = tt
    on-apart (q.crossed x y) m os h o =
        let a = from-frame x m os h.0 o in
        apart-append n (w.on_leaves sources x os) (w.on_leaves sources y (w.past sources x os)) (on-apart x m os h.0 o) (on-apart y m (w.past sources x os) h.1 a.1)
    on-apart (q.joined x y p) m os h o =
        let a = from-frame x m os h.0 o in
        let fr = w.frame sources x os ++ w.frame sources y (w.past sources x os) in
        apart-append n (w.on_leaves sources x os) (w.on_leaves sources y (w.past sources x os) ++ test_leaves fr p) (on-apart x m os h.0 o)
        (apart-append n (w.on_leaves sources y (w.past sources x os)) (test_leaves fr p) (on-apart y m (w.past sources x os) h.1 a.1) (test-apart n sources fr m (from-frame (q.joined x y p) m os h o).0 p).apart)
    on-apart (q.left_joined x y i p) m os h o = tt

    all_on-apart : (xs : Froms) (m : Map) (os : List OwnedQuant) → w.ShowsFroms sources Below xs m os → Others n os → Apart n (w.all_on_leaves sources xs os)
    all_on-apart q.no_from m os h o = tt
    all_on-apart (q.one_from x xs) m os h o =
        apart-append n (w.on_leaves sources x os) (w.all_on_leaves sources xs (w.past sources x os)) (on-apart x m os h.0 o) (all_on-apart xs m (w.past sources x os) h.1 (from-frame x m os h.0 o).1)

    ons-clear : (x : From) (m : Map) (os : List OwnedQuant) (s : Slots) → w.ShowsFrom sources Below x m os → Others n os → fresh n m ≡ true → fresh_in n s.cells ≡ true → list_any (reads_cond n) (w.ons sources m x os s) ≡ false
    ons-clear (q.named name) m os s h o e c = refl
    ons-clear (q.derived query) m os s h o e c = refl
    ons-clear (q.crossed x y) m os s h o e c =
        let past = w.past sources x os in
        let mid = after (w.on_leaves sources x os) s in
        any-append (reads_cond n) (w.ons sources m x os s) (w.ons sources m y past mid) (ons-clear x m os s h.0 o e c) (ons-clear y m past mid h.1 (from-frame x m os h.0 o).1 e (after-clear n (w.on_leaves sources x os) s c))
    ons-clear (q.joined x y p) m os s h o e c =
        let past = w.past sources x os in
        let fr = w.frame sources x os ++ w.frame sources y past in
        let mid = after (w.on_leaves sources x os) s in
        let d = after-clear n (w.on_leaves sources x os) s c in
        let end = after (w.on_leaves sources y past) mid in
        any-append (reads_cond n) (w.ons sources m x os s) (w.ons sources m y past mid ++ l.split (l.cond sources fr m end p)) (ons-clear x m os s h.0 o e c)
        (any-append (reads_cond n) (w.ons sources m y past mid) (l.split (l.cond sources fr m end p)) (ons-clear y m past mid h.1 (from-frame x m os h.0 o).1 e d)
        (split-clear n (l.cond sources fr m end p) (cond-clear n sources fr m (from-frame (q.joined x y p) m os h o).0 e end p (after-clear n (w.on_leaves sources y past) mid d))))
    ons-clear (q.left_joined x y i p) m os s h o e c = refl

    all_ons-clear : (xs : Froms) (m : Map) (os : List OwnedQuant) (s : Slots) → w.ShowsFroms sources Below xs m os → Others n os → fresh n m ≡ true → fresh_in n s.cells ≡ true → list_any (reads_cond n) (w.all_ons sources m xs os s) ≡ false
    all_ons-clear q.no_from m os s h o e c = refl
    all_ons-clear (q.one_from x xs) m os s h o e c =
        let past = w.past sources x os in
        let mid = after (w.on_leaves sources x os) s in
        any-append (reads_cond n) (w.ons sources m x os s) (w.all_ons sources m xs past mid) (ons-clear x m os s h.0 o e c) (all_ons-clear xs m past mid h.1 (from-frame x m os h.0 o).1 e (after-clear n (w.on_leaves sources x os) s c))

    -- ---- boxes

    select-clear : (d : Distinct) (from : Froms) (by : Test) (heads : Frame → List Leaf) (list : Frame → Slots → List Term) (m : Map) (b : Node) → w.ShowsSelect sources Below d from by heads list m b
        → ((fr : Frame) → fresh_in n fr ≡ true → Apart n (heads fr)) → ((fr : Frame) (s : Slots) → fresh_in n fr ≡ true → fresh_in n s.cells ≡ true → list_any (reads n) (list fr s) ≡ false)
        → fresh n m ≡ true → loose_of b below n ≡ false
    select-clear d from by heads list m b h apart items e =
        let os = b.quants in
        let fr = w.frame_all sources from os in
        let rest = w.past_all sources from os in
        let ls = w.all_leaves sources from by heads os in
        let s = w.slots_of ls rest in
        ap (λ kind. loose_by kind b below n) h.kind
        ∙ walk b os (froms-F from m os h.froms e (subs-F m ls rest h.subs)) (finds os h.plain.numbered.0)
        (λ o.
        let own = froms-frame from m os h.froms o in
        let on = all_on-apart from m os h.froms o in
        let c = plain-cells n ls in
        let mid = after (heads fr) s in
        let d = after-clear n (heads fr) s c in
        let end = after (w.all_on_leaves sources from os) mid in
        let all = apart-append n (heads fr) (w.all_on_leaves sources from os ++ test_leaves fr by) (apart fr own) (apart-append n (w.all_on_leaves sources from os) (test_leaves fr by) on (test-apart n sources fr m own by).apart) in
        or_from (read_by b n) (under_any os below n)
        (or_from (list_any (reads n) b.parts.head) (list_any (reads_cond n) b.parts.conds.items) (ap (list_any (reads n)) h.head ∙ items fr s own c)
        (ap (list_any (reads_cond n)) h.conds
        ∙ any-append (reads_cond n) (w.all_ons sources m from os mid) (l.split (l.cond sources fr m end by)) (all_ons-clear from m os mid h.froms o e d)
        (split-clear n (l.cond sources fr m end by) (cond-clear n sources fr m own e end by (after-clear n (w.all_on_leaves sources from os) mid d)))))
        (froms-under from m os h.froms e (subs-under m ls rest h.subs all e)))

    two-under : (P : OwnedQuant → OwnedQuant → Type 0) (os : List OwnedQuant) → w.Two os P → ((p r : OwnedQuant) → P p r → (below p.over n ≡ false) × (below r.over n ≡ false)) → under_any os below n ≡ false
    two-under P [] h f = absurd h
    two-under P (p ∷ []) h f = absurd h
    two-under P (p ∷ r ∷ []) h f = let x = f p r h.2 in or_from (below p.over n) (below r.over n || false) x.0 (or_from (below r.over n) false x.1 refl)
    two-under P (p ∷ r ∷ o ∷ os) h f = absurd h

    pair-clear : (form : forms.SetOperator) (i : ℕ) (x y : Query) (m : Map) (b : Node) → w.ShowsPair sources Below form i x y m b → fresh n m ≡ true → loose_of b below n ≡ false
    pair-clear form i x y m b h e =
        ap (λ kind. loose_by kind b below n) h.kind
        ∙ two-under (λ p r. Below p.over (of_query x) m × Below r.over (of_query y) m) b.quants h.quants (λ p r g. (clear p.over (of_query x) m g.0 e, clear r.over (of_query y) m g.1 e))

    upper-clear : (list : Values) (from : Froms) (by : Test) (places : List ℕ) (i : ℕ) (having : Test) (m : Map) (b : Node) (os : List OwnedQuant) → w.Upper sources Below list from by places i having m b os → os ≡ b.quants → distinct_ids os ≡ true
        → fresh n m ≡ true → loose_each b.quants b below n ≡ false
    upper-clear list from by places i having m b [] h is apart e = absurd h
    upper-clear list from by places i having m b (u ∷ os) h is apart e =
        let fr = key_frame u.id places 0 i in
        let ls = w.upper_leaves fr list having in
        let s = w.upper_slots u.id (suc (length places)) ls os in
        let groups = clear u.over (of_groups from by places ls) m h.groups e in
        subst (λ qs. loose_each qs b below n ≡ false) is
        (walk b (u ∷ os) ((λ _. groups), subs-F m ls os h.subs) (subst (λ qs. Finds qs (u ∷ os)) is (finds (u ∷ os) apart))
        (λ o.
        let own = keys-clear n u.id places 0 i (o.0 (ap is_F h.kind)) in
        let c = fold-cells n u.id (suc (length places)) ls (o.0 (ap is_F h.kind)) in
        let end = after (list_leaves fr list) s in
        or_from (read_by b n) (under_any b.quants below n)
        (or_from (list_any (reads n) b.parts.head) (list_any (reads_cond n) b.parts.conds.items) (ap (list_any (reads n)) h.head ∙ terms-clear n sources fr m own e s list c)
        (ap (list_any (reads_cond n)) h.conds ∙ split-clear n (l.cond sources fr m end having) (cond-clear n sources fr m own e end having (after-clear n (list_leaves fr list) s c))))
        (subst (λ qs. under_any qs below n ≡ false) is
        (or_from (below u.over n) (under_any os below n) groups
        (subs-under m ls os h.subs (apart-append n (list_leaves fr list) (test_leaves fr having) (list-apart n sources fr m own list).apart (test-apart n sources fr m own having).apart) e)))))

    query-clear : (x : Query) (m : Map) (b : Node) → w.ShowsQuery sources Below x m b → fresh n m ≡ true → loose_of b below n ≡ false
    query-clear (q.block distinct list from by) m b h e =
        select-clear (w.distinct_of distinct) from by (λ fr. list_leaves fr list) (λ fr s. l.terms sources fr m s list) m b h (λ fr own. (list-apart n sources fr m own list).apart) (λ fr s own c. terms-clear n sources fr m own e s list c) e
    query-clear (q.grouped distinct list from by places i having) m b h e =
        ap (λ kind. loose_by kind b below n) h.kind ∙ upper-clear list from by (key_places places) i having m b b.quants h.upper refl h.plain.numbered.0 e
    query-clear (q.combine x op all i y) m b h e = pair-clear (w.form_of op all) i x y m b h e
    query-clear (q.intersect x all i y) m b h e = pair-clear (w.common_form all) i x y m b h e

    flat-clear : (x : From) (m : Map) (b : Node) → w.ShowsFlat sources Below x m b → fresh n m ≡ true → loose_of b below n ≡ false
    flat-clear x m b h e =
        select-clear _ (q.one_from x q.no_from) (q.all q.no_test) (λ fr. []) (λ fr s. map ref_term fr) m b h (λ fr own. tt) (λ fr s own c. frame-terms n fr own) e

    -- what is read of two quantifiers of its own
    beyond-two : (b : Node) (p r : OwnedQuant) (same other : Bool) → (p.id == n) ≡ same → (r.id == n) ≡ other → ((p.id == n) ≡ false → (r.id == n) ≡ false → read_by b n ≡ false) → (not (same || (other || false)) && read_by b n) ≡ false
    beyond-two b p r true other h k f = refl
    beyond-two b p r false true h k f = refl
    beyond-two b p r false false h k f = f h k

    outer-quants : (x y : From) (i : ℕ) (p : Test) (m : Map) (b : Node) (os : List OwnedQuant) → w.Two os (λ a r. w.ShowsSides sources Below x y i p m b a r) → fresh n m ≡ true
        → (not (list_any (is_quant n) (take 2 os)) && read_by b n) ≡ false
    outer-quants x y i p m b [] h e = absurd h
    outer-quants x y i p m b (a ∷ []) h e = absurd h
    outer-quants x y i p m b (a ∷ r ∷ o ∷ os) h e = absurd h
    outer-quants x y i p m b (a ∷ r ∷ []) h e =
        beyond-two b a r (a.id == n) (r.id == n) refl refl
        (λ f g.
        let fr = refs a.id 1 (from_width sources x) ++ refs r.id 1 i in
        let own = fresh-both n (refs a.id 1 (from_width sources x)) (refs r.id 1 i) (refs-clear n a.id 1 (from_width sources x) f) (refs-clear n r.id 1 i g) in
        or_from (list_any (reads n) b.parts.head) (list_any (reads_cond n) b.parts.conds.items) (ap (list_any (reads n)) h.2.head ∙ frame-terms n fr own)
        (ap (list_any (reads_cond n)) h.2.conds ∙ split-clear n (l.cond sources fr m no_slots p) (cond-clear n sources fr m own e no_slots p refl)))

    pub source-clear : (name : List ℕ) (view : Option Query) (b : Node) → w.ShowsSource sources Below name view b → loose_of b below n ≡ false
    source-clear name None b h = ap (λ kind. loose_by kind b below n) h.kind
    source-clear name (Some view) b h = query-clear view [] b h refl

    operand-clear : (x : From) (m : Map) (b : Node) → w.ShowsOperand sources Below x m b → fresh n m ≡ true → loose_of b below n ≡ false
    operand-clear (q.named name) m b h e = source-clear name (sources.body name) b h.1
    operand-clear (q.derived query) m b h e = query-clear query m b h e
    operand-clear (q.crossed x y) m b h e = flat-clear (q.crossed x y) m b h e
    operand-clear (q.joined x y p) m b h e = flat-clear (q.joined x y p) m b h e
    operand-clear (q.left_joined x y i p) m b h e =
        ap (λ kind. loose_by kind b below n) h.kind
        ∙ or_from (under_any b.quants below n) (not (list_any (is_quant n) (take 2 b.quants)) && read_by b n)
        (two-under (λ a r. w.ShowsSides sources Below x y i p m b a r) b.quants h.quants (λ a r g. (clear a.over (of_operand x) m g.left e, clear r.over (of_operand y) m g.right e)))
        (outer-quants x y i p m b b.quants h.quants e)

    -- ---- groups

    arguments-clear : (fr : Frame) (ls : List Leaf) → fresh_in n fr ≡ true → list_any (reads n) (argument_terms sources fr ls) ≡ false
    arguments-clear fr [] own = refl
    arguments-clear fr (sub f kind x ∷ ls) own = arguments-clear fr ls own
    arguments-clear fr (fold f distinct x ∷ ls) own =
        or_from (reads n (l.term sources fr [] no_slots x)) (list_any (reads n) (argument_terms sources fr ls)) (term-clear n sources fr [] own refl no_slots x refl) (arguments-clear fr ls own)
    arguments-clear fr (count ∷ ls) own = arguments-clear fr ls own

    places-clear : (fr : Frame) (places : List ℕ) → fresh_in n fr ≡ true → list_any (reads n) (map (λ place. ref_term (get_or fr place nothing)) places) ≡ false
    places-clear fr [] own = refl
    places-clear fr (p ∷ ps) own =
        or_from (reads n (ref_term (get_or fr p nothing))) (list_any (reads n) (map (λ place. ref_term (get_or fr place nothing)) ps)) (ref-clear n (get_or fr p nothing) (at-clear n fr p own)) (places-clear fr ps own)

    padded-clear : (x : Term) (xs : List Term) → reads n x ≡ false → list_any (reads n) xs ≡ false → list_any (reads n) (padded x xs) ≡ false
    padded-clear x [] h k = or_from (reads n x) false h refl
    padded-clear x (y ∷ ys) h k = k

    beyond-one : (b : Node) (same : Bool) → (same ≡ false → read_by b n ≡ false) → (not (same || false) && read_by b n) ≡ false
    beyond-one b true f = refl
    beyond-one b false f = f refl

    groups-clear : (from : Froms) (by : Test) (places : List ℕ) (ls : List Leaf) (m : Map) (b : Node) (os : List OwnedQuant) → b.parts.conds.items ≡ []
        → w.One os (λ p. Below p.over (of_rows from by places ls) m × (b.parts.head ≡ w.groups_list places ls p.id)) → fresh n m ≡ true
        → (under_any os below n || (not (list_any (is_quant n) (take 1 os)) && read_by b n)) ≡ false
    groups-clear from by places ls m b [] none h e = absurd h
    groups-clear from by places ls m b (p ∷ r ∷ os) none h e = absurd h
    groups-clear from by places ls m b (p ∷ []) none h e =
        or_from (below p.over n || false) (not ((p.id == n) || false) && read_by b n) (or_from (below p.over n) false (clear p.over (of_rows from by places ls) m h.1.0 e) refl)
        (beyond-one b (p.id == n)
        (λ f.
        or_from (list_any (reads n) b.parts.head) (list_any (reads_cond n) b.parts.conds.items)
        (ap (list_any (reads n)) h.1.1
        ∙ any-append (reads n) (columns_of p.id 1 (length places)) (fold_terms p.id (suc (length places)) ls) (frame-terms n (refs p.id 1 (length places)) (refs-clear n p.id 1 (length places) f)) (fold_terms-clear n p.id (suc (length places)) ls f))
        (ap (list_any (reads_cond n)) none)))

    pub thing-clear : (thing : Thing) (m : Map) (b : Node) → ShowsBox sources Below thing m b → fresh n m ≡ true → loose_of b below n ≡ false
    thing-clear (of_query x) m b h e = query-clear x m b h e
    thing-clear (of_operand x) m b h e = operand-clear x m b h e
    thing-clear (of_rows from by places ls) m b h e =
        select-clear _ from by (λ fr. []) (w.rows_list sources places ls) m b h.rows (λ fr own. tt)
        (λ fr s own c. padded-clear _ (map (λ place. ref_term (get_or fr place nothing)) places ++ argument_terms sources fr ls) refl
        (any-append (reads n) (map (λ place. ref_term (get_or fr place nothing)) places) (argument_terms sources fr ls) (places-clear fr places own) (arguments-clear fr ls own))) e
    thing-clear (of_groups from by places ls) m b h e = ap (λ kind. loose_by kind b below n) h.kind ∙ groups-clear from by places ls m b b.quants h.conds h.quants e

-- ---- the boxes of a graph

pub shown-clear : (sources : Sources) (n : ℕ) (ns : List Node) (b : ℕ) (thing : Thing) (m : Map) → Shows sources ns b thing m → fresh n m ≡ true → loose ns b n ≡ false
shown-clear sources n [] b thing m h e = absurd h
shown-clear sources n (d ∷ ns) b thing m h e =
    elim (d.id == b) as (λ own. w.Either own (ShowsBox sources (Shows sources ns) thing m d) (Shows sources ns b thing m) → cond own (loose_of d (loose ns)) (loose ns b) n ≡ false) [
      | true ↦ (λ h. thing-clear n (loose ns) sources (Shows sources ns) (shown-clear sources n ns) thing m d h e)
      | false ↦ (λ h. shown-clear sources n ns b thing m h e)
    ] h
