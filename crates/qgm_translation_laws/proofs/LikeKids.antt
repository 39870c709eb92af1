-- Two boxes that show one thing range over boxes that show one thing each, whatever types the sources tell.
use Rattle.std.proofs.Common.{◌≡◌, ℕ, zero, suc, List, [], ◌∷◌, map, Option, Some, None, refl, sym, ◌∙◌, subst}
use Rattle.sql_value.specs.declared.order_key.SqlType.{SqlType}
use Rattle.sql_meaning.specs.ResolvedTrees.{From, Froms, Query, Test, Values}
use Rattle.sql_meaning.specs.ResolvedTrees as q
use Rattle.qgm_core.specs.declared.kinds.Distinct.{Distinct}
use Rattle.qgm_core.specs.declared.node.Node.{Node}
use Rattle.qgm_core.specs.declared.owned.OwnedQuant.{OwnedQuant}
use Rattle.qgm_terms.specs.Terms.{Term}
use Rattle.qgm_translation.specs.Leaves as w
use Rattle.qgm_translation.specs.Leaves.{Leaf, Slots}
use Rattle.qgm_translation.specs.Maps.{Frame, Map, ref_term}
use Rattle.qgm_translation.specs.Shown as v
use Rattle.qgm_translation.specs.Shown.{Thing, of_groups, of_operand, of_query, of_rows}
use Rattle.qgm_translation.specs.Sources.{Sources}
use Rattle.qgm_translation_laws.proofs.LikeParts as parts
use Rattle.qgm_translation_laws.proofs.LikeParts.{LikeThing, Pairs, all-on-like, first-pair, froms-kids, froms-like, keys-like, like_groups, like_rows, past-all-pairs, rest-pairs, same_operand, same_query, subs-kids}
use Rattle.qgm_translation_laws.proofs.LikeTerms.{LikeFrame, LikeLeaves, LikeMap, leaves-both, list-like, no_leaf, test-like}

module _ (R : ℕ → ℕ → Type 0) (s : Sources) (shared : List ℕ → ℕ) (typed : Term → SqlType) (Below Above : ℕ → Thing → Map → Type 0) (m n : Map) (round : LikeMap R m n) where
  abbrev z : Sources
  z = record s { shared = shared; typed = typed }

  abbrev Kids : List OwnedQuant → List OwnedQuant → Type 0
  Kids os ps = parts.Kids R s shared typed Below Above os ps

  module _ (a c : Node) (pairs : Pairs R a.quants c.quants) where
    select-kids : (d : Distinct) (from : Froms) (by : Test) (heads : Frame → List Leaf) (list other : Frame → Slots → List Term) → v.ShowsSelect s Below d from by heads list m a → v.ShowsSelect z Above d from by heads other n c
        → ((f g : Frame) → LikeFrame R f g → LikeLeaves R (heads f) (heads g)) → Kids a.quants c.quants
    select-kids d from by heads list other h k apart =
        let os = a.quants in
        let ps = c.quants in
        let f = v.frame_all s from os in
        let g = v.frame_all z from ps in
        let own = froms-like R s shared typed Below Above m n round from os ps h.froms k.froms pairs in
        let on = all-on-like R s shared typed Below Above m n round from os ps h.froms k.froms pairs in
        let like = leaves-both R (apart f g own) (leaves-both R on (test-like R f g own by)) in
        froms-kids R s shared typed Below Above m n round from os ps h.froms k.froms pairs
        (subs-kids R s shared typed Below Above m n round (v.all_leaves s from by heads os) (v.all_leaves z from by heads ps) (v.past_all s from os) (v.past_all z from ps) like h.subs k.subs (past-all-pairs R s shared typed Below Above m n round from os ps pairs))

    upper-kids : (list : Values) (from : Froms) (by : Test) (places : List ℕ) (u : ℕ) (having : Test) (os ps : List OwnedQuant) → Pairs R os ps → v.Upper s Below list from by places u having m a os → v.Upper z Above list from by places u having n c ps → Kids os ps
    upper-kids list from by places u having [] ps e h k = absurd h
    upper-kids list from by places u having (o ∷ os) [] e h k = absurd k
    upper-kids list from by places u having (o ∷ os) (p ∷ ps) e h k =
        let r = e zero o p refl refl in
        let f = v.key_frame o.id places 0 u in
        let g = v.key_frame p.id places 0 u in
        let own = keys-like R o.id p.id places 0 u r in
        let ls = v.upper_leaves f list having in
        let ms = v.upper_leaves g list having in
        let like = leaves-both R (list-like R f g own list) (test-like R f g own having) in (
          h.kind ∙ sym k.kind,
          r,
          (of_groups from by places ls, (of_groups from by places ms, (m, (n, (h.groups, k.groups, like_groups from by places ls ms like, round))))),
          subs-kids R s shared typed Below Above m n round ls ms os ps like h.subs k.subs (rest-pairs R (o ∷ os) (p ∷ ps) e),
        )

    pair-kids : (x y : Query) (os ps : List OwnedQuant) → Pairs R os ps → v.Two os (λ o r. Below o.over (of_query x) m × Below r.over (of_query y) m) → v.Two ps (λ o r. Above o.over (of_query x) n × Above r.over (of_query y) n) → Kids os ps
    pair-kids x y [] ps e h k = absurd h
    pair-kids x y (o ∷ []) ps e h k = absurd h
    pair-kids x y (o ∷ b ∷ i ∷ os) ps e h k = absurd h
    pair-kids x y (o ∷ b ∷ []) [] e h k = absurd k
    pair-kids x y (o ∷ b ∷ []) (p ∷ []) e h k = absurd k
    pair-kids x y (o ∷ b ∷ []) (p ∷ d ∷ i ∷ ps) e h k = absurd k
    pair-kids x y (o ∷ b ∷ []) (p ∷ d ∷ []) e h k = (
      h.0 ∙ sym k.0,
      e zero o p refl refl,
      (of_query x, (of_query x, (m, (n, (h.2.0, k.2.0, same_query x, round))))),
      (h.1 ∙ sym k.1, e (suc zero) b d refl refl, (of_query y, (of_query y, (m, (n, (h.2.1, k.2.1, same_query y, round))))), tt),
    )

    query-kids : (x : Query) → v.ShowsQuery s Below x m a → v.ShowsQuery z Above x n c → Kids a.quants c.quants
    query-kids (q.block distinct list from by) h k =
        select-kids (v.distinct_of distinct) from by (λ fr. w.list_leaves fr list) _ _ h k (λ f g own. list-like R f g own list)
    query-kids (q.grouped distinct list from by places u having) h k = upper-kids list from by (v.key_places places) u having a.quants c.quants pairs h.upper k.upper
    query-kids (q.combine x op all u y) h k = pair-kids x y a.quants c.quants pairs h.quants k.quants
    query-kids (q.intersect x all u y) h k = pair-kids x y a.quants c.quants pairs h.quants k.quants

    flat-kids : (x : From) → v.ShowsFlat s Below x m a → v.ShowsFlat z Above x n c → Kids a.quants c.quants
    flat-kids x h k = select-kids _ (q.one_from x q.no_from) (q.all q.no_test) (λ fr. []) (λ fr i. map ref_term fr) (λ fr i. map ref_term fr) h k (λ f g own. no_leaf)

    outer-kids : (x y : From) (u : ℕ) (on : Test) (os ps : List OwnedQuant) → Pairs R os ps → v.Two os (λ i j. v.ShowsSides s Below x y u on m a i j) → v.Two ps (λ i j. v.ShowsSides z Above x y u on n c i j) → Kids os ps
    outer-kids x y u on [] ps e h k = absurd h
    outer-kids x y u on (o ∷ []) ps e h k = absurd h
    outer-kids x y u on (o ∷ b ∷ i ∷ os) ps e h k = absurd h
    outer-kids x y u on (o ∷ b ∷ []) [] e h k = absurd k
    outer-kids x y u on (o ∷ b ∷ []) (p ∷ []) e h k = absurd k
    outer-kids x y u on (o ∷ b ∷ []) (p ∷ d ∷ i ∷ ps) e h k = absurd k
    outer-kids x y u on (o ∷ b ∷ []) (p ∷ d ∷ []) e h k = (
      h.0 ∙ sym k.0,
      e zero o p refl refl,
      (of_operand x, (of_operand x, (m, (n, (h.2.left, k.2.left, same_operand x, round))))),
      (h.1 ∙ sym k.1, e (suc zero) b d refl refl, (of_operand y, (of_operand y, (m, (n, (h.2.right, k.2.right, same_operand y, round))))), tt),
    )

    groups-kids : (from : Froms) (by : Test) (places : List ℕ) (ls ms : List Leaf) → LikeLeaves R ls ms → (os ps : List OwnedQuant) → Pairs R os ps
        → v.One os (λ p. Below p.over (of_rows from by places ls) m × (a.parts.head ≡ v.groups_list places ls p.id)) → v.One ps (λ p. Above p.over (of_rows from by places ms) n × (c.parts.head ≡ v.groups_list places ms p.id)) → Kids os ps
    groups-kids from by places ls ms like [] ps e h k = absurd h
    groups-kids from by places ls ms like (o ∷ b ∷ os) ps e h k = absurd h
    groups-kids from by places ls ms like (o ∷ []) [] e h k = absurd k
    groups-kids from by places ls ms like (o ∷ []) (p ∷ d ∷ ps) e h k = absurd k
    groups-kids from by places ls ms like (o ∷ []) (p ∷ []) e h k =
        (h.0 ∙ sym k.0, e zero o p refl refl, (of_rows from by places ls, (of_rows from by places ms, (m, (n, (h.1.0, k.1.0, like_rows from by places ls ms like, round))))), tt)

module _ (R : ℕ → ℕ → Type 0) (s : Sources) (shared : List ℕ → ℕ) (typed : Term → SqlType) (Below Above : ℕ → Thing → Map → Type 0) (a c : Node) (pairs : Pairs R a.quants c.quants) where
  abbrev other : Sources
  other = record s { shared = shared; typed = typed }

  abbrev Ranging : Type 0
  Ranging = parts.Kids R s shared typed Below Above a.quants c.quants

  source-kids : (name : List ℕ) (view : Option Query) → v.ShowsSource s Below name view a → v.ShowsSource other Above name view c → Ranging
  source-kids name None h k = subst (λ y. parts.Kids R s shared typed Below Above y c.quants) (sym h.quants) (subst (λ y. parts.Kids R s shared typed Below Above [] y) (sym k.quants) tt)
  source-kids name (Some body) h k = query-kids R s shared typed Below Above [] [] tt a c pairs body h k

  operand-kids : (x : From) (m n : Map) → LikeMap R m n → v.ShowsOperand s Below x m a → v.ShowsOperand other Above x n c → Ranging
  operand-kids (q.named name) m n round h k = source-kids name (s.body name) h.1 k.1
  operand-kids (q.derived query) m n round h k = query-kids R s shared typed Below Above m n round a c pairs query h k
  operand-kids (q.crossed x y) m n round h k = flat-kids R s shared typed Below Above m n round a c pairs (q.crossed x y) h k
  operand-kids (q.joined x y p) m n round h k = flat-kids R s shared typed Below Above m n round a c pairs (q.joined x y p) h k
  operand-kids (q.left_joined x y u p) m n round h k = outer-kids R s shared typed Below Above m n round a c pairs x y u p a.quants c.quants pairs h.quants k.quants

  pub thing-kids : (thing twin : Thing) (m n : Map) → LikeThing R thing twin → LikeMap R m n → v.ShowsBox s Below thing m a → v.ShowsBox other Above twin n c → Ranging
  thing-kids thing twin m n (same_query x) round h k = query-kids R s shared typed Below Above m n round a c pairs x h k
  thing-kids thing twin m n (same_operand x) round h k = operand-kids x m n round h k
  thing-kids thing twin m n (like_rows from by places ls ms like) round h k =
      select-kids R s shared typed Below Above m n round a c pairs _ from by (λ fr. []) (v.rows_list s places ls) (v.rows_list other places ms) h.rows k.rows (λ f g own. no_leaf)
  thing-kids thing twin m n (like_groups from by places ls ms like) round h k = groups-kids R s shared typed Below Above m n round a c pairs from by places ls ms like a.quants c.quants pairs h.quants k.quants
