-- Two boxes that show one thing differ in numbers alone.
use Rattle.std.proofs.Common.{◌≡◌, ℕ, zero, suc, List, [], ◌∷◌, ◌++◌, get_or, length, map, pos, Option, Some, None, refl, ap, sym, ◌∙◌, subst}
use Rattle.sql_value.specs.declared.order_key.SqlType.{SqlType}
use Rattle.sql_meaning.specs.ResolvedTrees.{From, Froms, Query, Test, Values}
use Rattle.sql_meaning.specs.ResolvedTrees as q
use Rattle.qgm_core.specs.declared.kinds.BoxKind.TheVariants.{Select, SetOp}
use Rattle.qgm_core.specs.declared.kinds.Distinct.{Distinct}
use Rattle.qgm_core.specs.declared.kinds.SetOperator as forms
use Rattle.qgm_core.specs.declared.node.Node.{Node}
use Rattle.qgm_core.specs.declared.owned.OwnedQuant.{OwnedQuant}
use Rattle.qgm_terms.specs.Terms as t
use Rattle.qgm_terms.specs.Terms.{Cond, Term}
use Rattle.qgm_translation.specs.Leaves as w
use Rattle.qgm_translation.specs.Leaves.{Leaf, Slots, after}
use Rattle.qgm_translation.specs.Maps.{Frame, Map, nothing, ref_term}
use Rattle.qgm_translation.specs.Shown as v
use Rattle.qgm_translation.specs.Shown.{Thing, of_groups, of_operand, of_query, of_rows, refs}
use Rattle.qgm_translation.specs.Sources.{Sources, from_width}
use Rattle.qgm_translation.specs.Terms as l
use Rattle.graph_alike.specs.Alike.{Like, LikeBox, LikeConds, LikeHeads, like_int}
use Rattle.sql_catalog.proofs.EachLaws.{Each, each_left, each_right}
use Rattle.qgm_translation_laws.proofs.LikeParts as parts
use Rattle.qgm_translation_laws.proofs.LikeParts.{LikeThing, Pairs, all-on-like, all-ons-like, fold-cells, fold-terms, frame-both, frame-heads, froms-like, heads-both, keys-like, like-conds, like-heads, like-quants, like_groups, like_rows, on-like, past-all-pairs, plain-cells, refs-like, rest-pairs, same_operand, same_query, subs-served, width-same}
use Rattle.qgm_translation_laws.proofs.LikeTerms.{LikeFrame, LikeLeaves, LikeMap, Parted, Served, at-like, conds-both, leaves-both, like_aggregate, like_counted, like_sub, list-like, no_leaf, ref-like, served-both, term-like, terms-like, test-like}

-- T, S, C: a property of expressions, of the arms of a CASE and of conditions; the head of a select and all conditions have it; types: set operations have columns of the same types
module _ (R : ℕ → ℕ → Type 0) (s : Sources) (shared : List ℕ → ℕ) (typed : Term → SqlType) (Below Above : ℕ → Thing → Map → Type 0) (T : Term → Type 0) (S : t.Arms → Type 0) (C : Cond → Type 0) (parted : Parted T S C)
    (told : (x y : Term) → T x → Like R x y → s.typed x ≡ typed y) (a c : Node) (pairs : Pairs R a.quants c.quants) (kids : parts.Kids R s shared typed Below Above a.quants c.quants) (head : a.parts.kind ≡ Select → Each T a.parts.head)
    (conds : Each C a.parts.conds.items)
    (types : (form : forms.SetOperator) (u : ℕ) (o b p d : OwnedQuant) → a.parts.kind ≡ SetOp form (map s.typed (v.columns_of o.id 1 u)) → a.quants ≡ o ∷ b ∷ [] → c.quants ≡ p ∷ d ∷ [] → map s.typed (v.columns_of o.id 1 u) ≡ map typed (v.columns_of p.id 1 u)) where
  abbrev z : Sources
  z = record s { shared = shared; typed = typed }

  module _ (m n : Map) (round : LikeMap R m n) where
    select-like : (d : Distinct) (from : Froms) (by : Test) (heads : Frame → List Leaf) (list other : Frame → Slots → List Term) → v.ShowsSelect s Below d from by heads list m a → v.ShowsSelect z Above d from by heads other n c
        → ((f g : Frame) → LikeFrame R f g → LikeLeaves R (heads f) (heads g)) → ((f g : Frame) → LikeFrame R f g → f ≡ v.frame_all s from a.quants → g ≡ v.frame_all z from c.quants → (sl tl : Slots) → Served R (heads f) sl tl → Each T (list f sl) → LikeHeads R (list f sl) (other g tl)) → LikeBox R a c
    select-like d from by heads list other h k apart items =
        let os = a.quants in
        let ps = c.quants in
        let f = v.frame_all s from os in
        let g = v.frame_all z from ps in
        let own = froms-like R s shared typed Below Above m n round from os ps h.froms k.froms pairs in
        let on = all-on-like R s shared typed Below Above m n round from os ps h.froms k.froms pairs in
        let ls = v.all_leaves s from by heads os in
        let ms = v.all_leaves z from by heads ps in
        let like = leaves-both R (apart f g own) (leaves-both R on (test-like R f g own by)) in
        let ro = v.past_all s from os in
        let rp = v.past_all z from ps in
        let sl = v.slots_of ls ro in
        let tl = v.slots_of ms rp in
        let served = subs-served R s shared typed Below Above m n round ls ms ro rp (v.ungrouped_cells ls) (v.ungrouped_cells ms) like h.subs k.subs (past-all-pairs R s shared typed Below Above m n round from os ps pairs) (plain-cells R ls ms like) in
        let x = served-both R (heads f) (heads g) (v.all_on_leaves s from os ++ w.test_leaves f by) sl tl (apart f g own) served in
        let sm = after (heads f) sl in
        let tm = after (heads g) tl in
        let y = served-both R (v.all_on_leaves s from os) (v.all_on_leaves z from ps) (w.test_leaves f by) sm tm on x.1 in
        let sn = after (v.all_on_leaves s from os) sm in
        let tn = after (v.all_on_leaves z from ps) tm in
        let all : Each C (v.all_ons s m from os sm ++ l.split (l.cond s f m sn by)) = subst (Each C) h.conds conds in
        record {
          kind = h.kind ∙ sym k.kind;
          distinct = h.plain.distinctness ∙ sym k.plain.distinctness;
          role = h.plain.role ∙ sym k.plain.role;
          head = like-heads R a.parts.head c.parts.head (list f sl) (other g tl) h.head k.head (items f g own refl refl sl tl x.0 (subst (Each T) h.head (head h.kind)));
          conds =
              like-conds R a.parts.conds.items c.parts.conds.items (v.conds_of s from by heads m os sl) (v.conds_of z from by heads n ps tl) h.conds k.conds
              (conds-both R (v.all_ons s m from os sm) (l.split (l.cond s f m sn by)) (v.all_ons z n from ps tm) (l.split (l.cond z g n tn by))
              (all-ons-like R s shared typed Below Above m n round T S C parted told from os ps sm tm h.froms k.froms pairs y.0 (each_left C (v.all_ons s m from os sm) (l.split (l.cond s f m sn by)) all))
              (on-like R s shared typed Below Above m n round T S C parted told f g sn tn by own y.1 (each_right C (v.all_ons s m from os sm) (l.split (l.cond s f m sn by)) all)));
          quants = like-quants R s shared typed Below Above a.quants c.quants kids;
        }

    upper-like : a.parts.kind ≡ Select → (list : Values) (from : Froms) (by : Test) (places : List ℕ) (u : ℕ) (having : Test) (os ps : List OwnedQuant) → Pairs R os ps → v.Upper s Below list from by places u having m a os → v.Upper z Above list from by places u having n c ps
        → LikeHeads R a.parts.head c.parts.head × LikeConds R a.parts.conds.items c.parts.conds.items
    upper-like sel list from by places u having [] ps e h k = absurd h
    upper-like sel list from by places u having (o ∷ os) [] e h k = absurd k
    upper-like sel list from by places u having (o ∷ os) (p ∷ ps) e h k =
        let r = e zero o p refl refl in
        let f = v.key_frame o.id places 0 u in
        let g = v.key_frame p.id places 0 u in
        let own = keys-like R o.id p.id places 0 u r in
        let ls = v.upper_leaves f list having in
        let ms = v.upper_leaves g list having in
        let like = leaves-both R (list-like R f g own list) (test-like R f g own having) in
        let j = suc (length places) in
        let sl = v.upper_slots o.id j ls os in
        let tl = v.upper_slots p.id j ms ps in
        let rest = rest-pairs R (o ∷ os) (p ∷ ps) e in
        let served = subs-served R s shared typed Below Above m n round ls ms os ps (v.fold_refs o.id j ls) (v.fold_refs p.id j ms) like h.subs k.subs rest (fold-cells R o.id p.id j ls ms r like) in
        let x = served-both R (w.list_leaves f list) (w.list_leaves g list) (w.test_leaves f having) sl tl (list-like R f g own list) served in
        let sm = after (w.list_leaves f list) sl in
        let tm = after (w.list_leaves g list) tl in (
          like-heads R a.parts.head c.parts.head (l.terms s f m sl list) (l.terms z g n tl list) h.head k.head (terms-like R s z T S C parted told f g m n own round sl tl list x.0 (subst (Each T) h.head (head sel))),
          like-conds R a.parts.conds.items c.parts.conds.items (l.split (l.cond s f m sm having)) (l.split (l.cond z g n tm having)) h.conds k.conds (on-like R s shared typed Below Above m n round T S C parted told f g sm tm having own x.1 (subst (Each C) h.conds conds)),
        )

    pair-of : (form : forms.SetOperator) (x y : Query) (u : ℕ) (os ps : List OwnedQuant) → a.quants ≡ os → c.quants ≡ ps → a.parts.kind ≡ SetOp form (map s.typed (v.columns_of (v.first_id os) 1 u))
        → v.Two os (λ o r. Below o.over (of_query x) m × Below r.over (of_query y) m) → v.Two ps (λ o r. Above o.over (of_query x) n × Above r.over (of_query y) n)
        → map s.typed (v.columns_of (v.first_id os) 1 u) ≡ map typed (v.columns_of (v.first_id ps) 1 u)
    pair-of form x y u [] ps i j e h k = absurd h
    pair-of form x y u (o ∷ []) ps i j e h k = absurd h
    pair-of form x y u (o ∷ b ∷ r ∷ os) ps i j e h k = absurd h
    pair-of form x y u (o ∷ b ∷ []) [] i j e h k = absurd k
    pair-of form x y u (o ∷ b ∷ []) (p ∷ []) i j e h k = absurd k
    pair-of form x y u (o ∷ b ∷ []) (p ∷ d ∷ r ∷ ps) i j e h k = absurd k
    pair-of form x y u (o ∷ b ∷ []) (p ∷ d ∷ []) i j e h k = types form u o b p d e i j

    pair-like : (form : forms.SetOperator) (u : ℕ) (x y : Query) → v.ShowsPair s Below form u x y m a → v.ShowsPair z Above form u x y n c → LikeBox R a c
    pair-like form u x y h k =
        let r = pair-of form x y u a.quants c.quants refl refl h.kind h.quants k.quants in
        record {
          kind = h.kind ∙ ap (SetOp form) r ∙ sym k.kind;
          distinct = h.plain.distinctness ∙ sym k.plain.distinctness;
          role = h.plain.role ∙ sym k.plain.role;
          head = like-heads R a.parts.head c.parts.head [] [] h.bare.1 k.bare.1 tt;
          conds = like-conds R a.parts.conds.items c.parts.conds.items [] [] h.bare.0 k.bare.0 tt;
          quants = like-quants R s shared typed Below Above a.quants c.quants kids;
        }

    query-like : (x : Query) → v.ShowsQuery s Below x m a → v.ShowsQuery z Above x n c → LikeBox R a c
    query-like (q.block distinct list from by) h k =
        select-like (v.distinct_of distinct) from by (λ fr. w.list_leaves fr list) (λ fr i. l.terms s fr m i list) (λ fr i. l.terms z fr n i list) h k (λ f g own. list-like R f g own list)
        (λ f g own e i sl tl served has. terms-like R s z T S C parted told f g m n own round sl tl list served has)
    query-like (q.grouped distinct list from by places u having) h k =
        let r = upper-like h.kind list from by (v.key_places places) u having a.quants c.quants pairs h.upper k.upper in
        record {
          kind = h.kind ∙ sym k.kind;
          distinct = h.plain.distinctness ∙ sym k.plain.distinctness;
          role = h.plain.role ∙ sym k.plain.role;
          head = r.0;
          conds = r.1;
          quants = like-quants R s shared typed Below Above a.quants c.quants kids;
        }
    query-like (q.combine x op all u y) h k = pair-like (v.form_of op all) u x y h k
    query-like (q.intersect x all u y) h k = pair-like (v.common_form all) u x y h k

    flat-like : (x : From) → v.ShowsFlat s Below x m a → v.ShowsFlat z Above x n c → LikeBox R a c
    flat-like x h k =
        select-like _ (q.one_from x q.no_from) (q.all q.no_test) (λ fr. []) (λ fr i. map ref_term fr) (λ fr i. map ref_term fr) h k (λ f g own. no_leaf) (λ f g own e i sl tl served has. frame-heads R f g own)

    outer-of : (x y : From) (u : ℕ) (on : Test) (os ps : List OwnedQuant) → Pairs R os ps → v.Two os (λ i j. v.ShowsSides s Below x y u on m a i j) → v.Two ps (λ i j. v.ShowsSides z Above x y u on n c i j)
        → LikeHeads R a.parts.head c.parts.head × LikeConds R a.parts.conds.items c.parts.conds.items
    outer-of x y u on [] ps e h k = absurd h
    outer-of x y u on (o ∷ []) ps e h k = absurd h
    outer-of x y u on (o ∷ b ∷ i ∷ os) ps e h k = absurd h
    outer-of x y u on (o ∷ b ∷ []) [] e h k = absurd k
    outer-of x y u on (o ∷ b ∷ []) (p ∷ []) e h k = absurd k
    outer-of x y u on (o ∷ b ∷ []) (p ∷ d ∷ i ∷ ps) e h k = absurd k
    outer-of x y u on (o ∷ b ∷ []) (p ∷ d ∷ []) e h k =
        let r1 = e zero o p refl refl in
        let r2 = e (suc zero) b d refl refl in
        let f = refs o.id 1 (from_width s x) ++ refs b.id 1 u in
        let g = refs p.id 1 (from_width z x) ++ refs d.id 1 u in
        let own = frame-both R (refs o.id 1 (from_width s x)) (refs b.id 1 u) (refs p.id 1 (from_width z x)) (refs d.id 1 u)
        (subst (λ i. LikeFrame R (refs o.id 1 (from_width s x)) (refs p.id 1 i)) (width-same R s shared typed x) (refs-like R o.id p.id 1 (from_width s x) r1)) (refs-like R b.id d.id 1 u r2) in (
          like-heads R a.parts.head c.parts.head (map ref_term f) (map ref_term g) h.2.head k.2.head (frame-heads R f g own),
          like-conds R a.parts.conds.items c.parts.conds.items (l.split (l.cond s f m v.no_slots on)) (l.split (l.cond z g n v.no_slots on)) h.2.conds k.2.conds
              (on-like R s shared typed Below Above m n round T S C parted told f g v.no_slots v.no_slots on own (subst (λ (y : List Leaf). Served R y v.no_slots v.no_slots) (sym h.2.on) tt) (subst (Each C) h.2.conds conds)),
        )

    outer-like : (x y : From) (u : ℕ) (on : Test) → v.ShowsOuter s Below x y u on m a → v.ShowsOuter z Above x y u on n c → LikeBox R a c
    outer-like x y u on h k =
        let r = outer-of x y u on a.quants c.quants pairs h.quants k.quants in
        record {
          kind = h.kind ∙ sym k.kind;
          distinct = h.plain.distinctness ∙ sym k.plain.distinctness;
          role = h.plain.role ∙ sym k.plain.role;
          head = r.0;
          conds = r.1;
          quants = like-quants R s shared typed Below Above a.quants c.quants kids;
        }

    arguments-like : (f g : Frame) → LikeFrame R f g → (ls ms : List Leaf) → LikeLeaves R ls ms → v.PlainArguments f ls → Each T (v.argument_terms s f ls) → LikeHeads R (v.argument_terms s f ls) (v.argument_terms z g ms)
    arguments-like f g own ls ms no_leaf h has = tt
    arguments-like f g own ls ms (like_sub i j kind x xs ys e k) h has = arguments-like f g own xs ys k h has
    arguments-like f g own ls ms (like_aggregate i d x xs ys k) h has =
        (term-like R s z T S C parted told f g [] [] own tt v.no_slots v.no_slots x (subst (λ (y : List Leaf). Served R y v.no_slots v.no_slots) (sym h.0) tt) has.0, arguments-like f g own xs ys k h.1 has.1)
    arguments-like f g own ls ms (like_counted xs ys k) h has = arguments-like f g own xs ys k h has

    places-like : (f g : Frame) → LikeFrame R f g → (places : List ℕ) → LikeHeads R (map (λ place. ref_term (get_or f place nothing)) places) (map (λ place. ref_term (get_or g place nothing)) places)
    places-like f g own [] = tt
    places-like f g own (p ∷ places) = (ref-like R (get_or f p nothing) (get_or g p nothing) (at-like R f g p own), places-like f g own places)

    padded-like : (xs ys : List Term) → LikeHeads R xs ys → LikeHeads R (v.padded (t.int (pos 1)) xs) (v.padded (t.int (pos 1)) ys)
    padded-like [] [] h = (like_int (pos 1), tt)
    padded-like [] (y ∷ ys) h = absurd h
    padded-like (x ∷ xs) [] h = absurd h
    padded-like (x ∷ xs) (y ∷ ys) h = h

    padded-each : (xs : List Term) → Each T (v.padded (t.int (pos 1)) xs) → Each T xs
    padded-each [] h = tt
    padded-each (x ∷ xs) h = h

    rows-like : (from : Froms) (by : Test) (places : List ℕ) (ls ms : List Leaf) → LikeLeaves R ls ms → v.ShowsRows s Below from by places ls m a → v.ShowsRows z Above from by places ms n c → LikeBox R a c
    rows-like from by places ls ms like h k =
        select-like _ from by (λ fr. []) (v.rows_list s places ls) (v.rows_list z places ms) h.rows k.rows (λ f g own. no_leaf)
        (λ f g own e i sl tl served has.
        let keys = map (λ place. ref_term (get_or f place nothing)) places in
        padded-like (keys ++ v.argument_terms s f ls) (map (λ place. ref_term (get_or g place nothing)) places ++ v.argument_terms z g ms)
        (heads-both R keys (v.argument_terms s f ls) (map (λ place. ref_term (get_or g place nothing)) places) (v.argument_terms z g ms) (places-like f g own places)
        (arguments-like f g own ls ms like (subst (λ (y : Frame). v.PlainArguments y ls) (sym e) h.arguments) (each_right T keys (v.argument_terms s f ls) (padded-each (keys ++ v.argument_terms s f ls) has)))))

    groups-of : (from : Froms) (by : Test) (places : List ℕ) (ls ms : List Leaf) → LikeLeaves R ls ms → (os ps : List OwnedQuant) → Pairs R os ps
        → v.One os (λ p. Below p.over (of_rows from by places ls) m × (a.parts.head ≡ v.groups_list places ls p.id)) → v.One ps (λ p. Above p.over (of_rows from by places ms) n × (c.parts.head ≡ v.groups_list places ms p.id))
        → LikeHeads R a.parts.head c.parts.head
    groups-of from by places ls ms like [] ps e h k = absurd h
    groups-of from by places ls ms like (o ∷ b ∷ os) ps e h k = absurd h
    groups-of from by places ls ms like (o ∷ []) [] e h k = absurd k
    groups-of from by places ls ms like (o ∷ []) (p ∷ d ∷ ps) e h k = absurd k
    groups-of from by places ls ms like (o ∷ []) (p ∷ []) e h k =
        let r = e zero o p refl refl in
        like-heads R a.parts.head c.parts.head (v.groups_list places ls o.id) (v.groups_list places ms p.id) h.1.1 k.1.1
        (heads-both R (v.columns_of o.id 1 (length places)) (v.fold_terms o.id (suc (length places)) ls) (v.columns_of p.id 1 (length places)) (v.fold_terms p.id (suc (length places)) ms)
        (frame-heads R (refs o.id 1 (length places)) (refs p.id 1 (length places)) (refs-like R o.id p.id 1 (length places) r)) (fold-terms R o.id p.id (suc (length places)) ls ms r like))

    groups-like : (from : Froms) (by : Test) (places : List ℕ) (ls ms : List Leaf) → LikeLeaves R ls ms → v.ShowsGroups s Below from by places ls m a → v.ShowsGroups z Above from by places ms n c → LikeBox R a c
    groups-like from by places ls ms like h k =
        let r = groups-of from by places ls ms like a.quants c.quants pairs h.quants k.quants in
        record {
          kind = h.kind ∙ sym k.kind;
          distinct = h.plain.distinctness ∙ sym k.plain.distinctness;
          role = h.plain.role ∙ sym k.plain.role;
          head = r;
          conds = like-conds R a.parts.conds.items c.parts.conds.items [] [] h.conds k.conds tt;
          quants = like-quants R s shared typed Below Above a.quants c.quants kids;
        }

  base-like : (name : List ℕ) → v.ShowsBase s Below name a → v.ShowsBase z Above name c → LikeBox R a c
  base-like name h k =
      record {
        kind = h.kind ∙ sym k.kind;
        distinct = h.plain.distinctness ∙ sym k.plain.distinctness;
        role = h.plain.role ∙ sym k.plain.role;
        head = like-heads R a.parts.head c.parts.head [] [] h.bare.1 k.bare.1 tt;
        conds = like-conds R a.parts.conds.items c.parts.conds.items [] [] h.bare.0 k.bare.0 tt;
        quants = like-quants R s shared typed Below Above a.quants c.quants kids;
      }

  source-like : (name : List ℕ) (view : Option Query) → v.ShowsSource s Below name view a → v.ShowsSource z Above name view c → LikeBox R a c
  source-like name None h k = base-like name h k
  source-like name (Some body) h k = query-like [] [] tt body h k

  operand-like : (x : From) (m n : Map) → LikeMap R m n → v.ShowsOperand s Below x m a → v.ShowsOperand z Above x n c → LikeBox R a c
  operand-like (q.named name) m n round h k = source-like name (s.body name) h.1 k.1
  operand-like (q.derived query) m n round h k = query-like m n round query h k
  operand-like (q.crossed x y) m n round h k = flat-like m n round (q.crossed x y) h k
  operand-like (q.joined x y p) m n round h k = flat-like m n round (q.joined x y p) h k
  operand-like (q.left_joined x y u p) m n round h k = outer-like m n round x y u p h k

  pub thing-like : (thing other : Thing) (m n : Map) → LikeThing R thing other → LikeMap R m n → v.ShowsBox s Below thing m a → v.ShowsBox z Above other n c → LikeBox R a c
  thing-like thing other m n (same_query x) round h k = query-like m n round x h k
  thing-like thing other m n (same_operand x) round h k = operand-like x m n round h k
  thing-like thing other m n (like_rows from by places ls ms like) round h k = rows-like m n round from by places ls ms like h k
  thing-like thing other m n (like_groups from by places ls ms like) round h k = groups-like m n round from by places ls ms like h k
