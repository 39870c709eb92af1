-- The boxes that are laid for a query have no more nodes than it is written with, beside one for each column.
use Rattle.std.proofs.Common.{◌≡◌, ◌+◌, ◌++◌, ℕ, suc, Bool, true, false, List, [], ◌∷◌, length, map, arith}
use Rattle.sql_meaning.specs.ResolvedTrees.{Value, Addends, Multipliers, Values, Arms, Choices, Test, Tests, From, Froms, Query}
use Rattle.sql_meaning.specs.ResolvedTrees as q
use Rattle.qgm_build_size.specs.Sizes as n
use Rattle.qgm_build_size.specs.declared.sizes.Size.{Size}
use Rattle.qgm_core.specs.declared.kinds.BoxKind.TheVariants.{Select, Group, SetOp, OuterJoin}
use Rattle.qgm_core.specs.declared.kinds.QuantKind.TheVariants.{E, F, S}
use Rattle.qgm_core.specs.declared.kinds.QuantKind.{QuantKind}
use Rattle.qgm_core.specs.declared.kinds.SetOperator.{SetOperator}
use Rattle.qgm_core.specs.declared.owned.OwnedQuant.{OwnedQuant}
use Rattle.qgm_size_laws.specs.SizeLaws.{Grows}
use Rattle.qgm_size_laws.proofs.Below.{Holds, all_laid_below, all_on_below, arguments_own, as-long, bare, folds_own, flat-holds, from-parts, froms-parts, groups-size, laid_below, none-holds, on_below, paid, put-holds, ranged, refs-size, room, rows-size, select-holds, split-own, then, turn}
use Rattle.qgm_size_laws.proofs.Own.{cells-own}
use Rattle.qgm_translation.specs.Lay.{Boxes, Drawn, Laid, drawn, flat_box, group_box, outer_box, pair_of, ranging, select_box, two_box, upper_box}
use Rattle.qgm_translation.specs.Lay as l
use Rattle.qgm_translation.specs.Leaves.{Leaf, sub, after, every_or_some, leaves, addend_leaves, multiplier_leaves, list_leaves, arm_leaves, choice_leaves, test_leaves, tests_leaves}
use Rattle.qgm_translation.specs.Maps.{Frame, Map, ref_term}
use Rattle.qgm_translation.specs.Shown as w
use Rattle.qgm_translation.specs.Sources.{Sources, from_width}
use Rattle.qgm_translation.specs.Terms.{cond, split, terms}
use Rattle.qgm_translation.specs.Typing.{typed_by}

-- ---- what is counted below

coalesced-below : (a : Size) (xs : Values) → (n.coalesced_size a xs).below ≡ a.below + (n.values_size xs).below
coalesced-below a q.no_value = omega arith
coalesced-below a (q.one_value y ys) = let h = coalesced-below (n.value_size y) ys in omega (arith, h)

choices-below : (k : ℕ) (xs : Choices) → (n.choices_size k xs).below ≡ (n.choices_size 0 xs).below
choices-below k q.no_choice = omega arith
choices-below k (q.one_choice x y xs) = let h = choices-below k xs in omega (arith, h)

among-further : (k : ℕ) (a : Size) (xs : Values) → (n.among_size k false a xs).below ≡ a.below + (n.values_size xs).below
among-further k a q.no_value = omega arith
among-further k a (q.one_value y ys) = let h = among-further k (n.joined false a (n.more (suc k) (n.value_size y))) ys in omega (arith, h)

among-below : (k : ℕ) (xs : Values) → (n.among_size k true (n.more 2 n.nothing) xs).below ≡ (n.values_size xs).below
among-below k q.no_value = omega arith
among-below k (q.one_value y ys) = let h = among-further k (n.more (suc k) (n.value_size y)) ys in omega (arith, h)

abbrev tests_below : Tests → ℕ
tests_below q.no_test = 0
tests_below (q.one_test p ps) = (n.test_size p).below + tests_below ps

tests-further : (a : Size) (ps : Tests) → (n.tests_size false a ps).below ≡ a.below + tests_below ps
tests-further a q.no_test = omega arith
tests-further a (q.one_test p ps) = let h = tests-further (n.joined false a (n.test_size p)) ps in omega (arith, h)

tests-all : (k : ℕ) (ps : Tests) → (n.tests_size true (n.more k n.nothing) ps).below ≡ tests_below ps
tests-all k q.no_test = omega arith
tests-all k (q.one_test p ps) = tests-further (n.test_size p) ps

-- ---- a subquery

asked : {s t : Boxes} {k : ℕ} (gr : Frame) (kind : QuantKind) (x : Query) → Holds s t [] k → Holds s t (sub gr kind x ∷ []) k
asked {s} {t} {k} gr kind x h = record { holds = h.holds }

-- ---- boxes over others

module _ (known : Sources) (at : Boxes → Sources) where
  two-holds : (form : SetOperator) (k : ℕ) (b : Boxes → Laid) (x : Laid) (s : Boxes) (i j : ℕ)
      → Holds s x.boxes [] i → Holds x.boxes (b x.boxes).boxes [] j → Holds s (two_box known at form k b x).boxes [] (i + j)
  two-holds form k b x s i j h e =
      let y = b x.boxes in
      let t = ranging y.top (ranging x.top y.boxes) in
      room (then (ranged y.top (ranged x.top (then h e))) (put-holds (SetOp form (map (at t).typed (w.columns_of y.boxes.quant 1 k))) false [] [] (pair_of y.boxes.quant x.top y.top) t 0 0 (omega arith) (omega arith))) (omega arith)

  outer-holds : (x : From) (k : ℕ) (on : Test) (m : Map) (b : Boxes → Laid) (a : Laid) (s : Boxes) (i j : ℕ)
      → Holds s a.boxes [] i → Holds a.boxes (b a.boxes).boxes [] j → Holds s (outer_box known at x k on m b a).boxes [] (i + (j + (n.test_size on).own))
  outer-holds x k on m b a s i j h e =
      let r = b a.boxes in
      let fr = w.refs r.boxes.quant 1 (from_width known x) ++ w.refs (suc r.boxes.quant) 1 k in
      let t = ranging r.top (ranging a.top r.boxes) in
      let head = map ref_term fr in
      let f = refs-size fr in
      room (then (ranged r.top (ranged a.top (then h e)))
      (put-holds OuterJoin false (split (cond (at t) fr m w.no_slots on)) head (pair_of r.boxes.quant a.top r.top) t (n.test_size on).own 0
      (split-own (at t) fr m w.no_slots on) (as-long (typed_by t.rows) head 0 (omega (arith, f))))) (omega arith)

  groups-holds : (keys : List ℕ) (ls : List Leaf) (rows : Laid) → Holds rows.boxes (group_box known at keys ls rows).boxes [] (folds_own ls)
  groups-holds keys ls rows =
      let c = drawn F rows in
      let head = w.groups_list keys ls rows.boxes.quant in
      room (then (ranged rows.top (none-holds rows.boxes)) (put-holds (Group (length keys)) false [] head c.quants c.boxes 0 (folds_own ls) (omega arith)
      (as-long (typed_by c.boxes.rows) head (folds_own ls) (groups-size keys ls rows.boxes.quant)))) (omega arith)

  upper-holds : (distinct : Bool) (list : Values) (keys : List ℕ) (k : ℕ) (having : Test) (m : Map) (u b : ℕ) (c : Drawn)
      → Holds c.boxes (upper_box known at distinct list keys k having m u b c).boxes [] ((n.test_size having).own + (n.values_size list).own)
  upper-holds distinct list keys k having m u b c =
      let fr = w.key_frame u keys 0 k in
      let ls = w.upper_leaves fr list having in
      let s = w.upper_slots u (suc (length keys)) ls c.quants in
      let head = terms (at c.boxes) fr m s list in
      let e = cells-own (at c.boxes) fr m s list in
      put-holds Select distinct (split (cond (at c.boxes) fr m (after (list_leaves fr list) s) having)) head (record { id = u; kind = F; over = b } ∷ c.quants) c.boxes (n.test_size having).own (n.values_size list).own
      (split-own (at c.boxes) fr m (after (list_leaves fr list) s) having) (as-long (typed_by c.boxes.rows) head (n.values_size list).own (omega (arith, e)))

  -- ---- a query and its parts

  mutual
    pub query-holds : (x : Query) (m : Map) (s : Boxes) → Holds s (l.lay known at x m s).boxes [] (n.query_size x)
    query-holds (q.block distinct list from by) m s =
        let f = l.lay_froms known at m from s in
        let fr = w.frame_all known from f.quants in
        let a = l.list_subs known at m fr list f.boxes in
        let b = l.all_on_subs known at m from f.quants a.boxes in
        let h = froms-holds m from s in
        let i = bare (list-holds m fr [] list f.boxes) in
        let j = all-on-holds m from f.quants a.boxes in
        let k = bare (test-holds m fr [] by b.boxes) in
        let e =
        select-holds known at from by m distinct (λ fr. list_leaves fr list) (λ sources fr s. terms sources fr m s list) f.quants
        (l.in_turn (l.list_subs known at m fr list) (l.in_turn (l.all_on_subs known at m from f.quants) (l.test_subs known at m fr by)) f.boxes)
        (n.values_size list).own (λ sources fr s. let z = cells-own sources fr m s list in omega (arith, z)) in
        let p = froms-parts from in
        room (then (then (then (then h i) j) k) e) (omega (arith, p))
    query-holds (q.grouped distinct list from by places k having) m s =
        let keys = w.key_places places in
        let f = l.lay_froms known at m from s in
        let fr = w.frame_all known from f.quants in
        let ls = w.upper_leaves [] list having in
        let a = l.all_on_subs known at m from f.quants f.boxes in
        let c = l.in_turn (l.all_on_subs known at m from f.quants) (l.test_subs known at m fr by) f.boxes in
        let rows = select_box known at false from by (λ fr. []) (λ sources. w.rows_list sources keys ls) m f.quants c in
        let groups = group_box known at keys ls rows in
        let up = w.key_frame groups.boxes.quant keys 0 k in
        let t = (drawn F groups).boxes in
        let b = l.list_subs known at m up list t in
        let d = l.in_turn (l.list_subs known at m up list) (l.test_subs known at m up having) t in
        let h = then (then (froms-holds m from s) (all-on-holds m from f.quants f.boxes)) (bare (test-holds m fr [] by a.boxes)) in
        let e = select-holds known at from by m false (λ fr. []) (λ sources. w.rows_list sources keys ls) f.quants c (arguments_own ls) (λ sources fr s. rows-size sources keys ls fr s) in
        let g = groups-holds keys ls rows in
        let o = turn (list-holds m up [] list t) (test-holds m up [] having b.boxes) in
        let u = upper-holds distinct list keys k having m groups.boxes.quant groups.top d in
        let p = froms-parts from in
        paid (room (turn (ranged groups.top (then (then h e) g)) (then o u)) (omega (arith, p)))
    query-holds (q.combine x op all k y) m s = two-holds (w.form_of op all) k (l.lay known at y m) (l.lay known at x m s) s (n.query_size x) (n.query_size y) (query-holds x m s) (query-holds y m (l.lay known at x m s).boxes)
    query-holds (q.intersect x all k y) m s = two-holds (w.common_form all) k (l.lay known at y m) (l.lay known at x m s) s (n.query_size x) (n.query_size y) (query-holds x m s) (query-holds y m (l.lay known at x m s).boxes)

    operand-holds : (x : From) (m : Map) (s : Boxes) → Holds s (l.lay_operand known at x m s).boxes [] (n.all_of (n.from_size x))
    operand-holds (q.named name) m s = none-holds s
    operand-holds (q.derived query) m s = room (query-holds query m s) (omega arith)
    operand-holds (q.crossed x y) m s =
        let a = l.lay_from known at m x s in
        let f = l.in_turn (l.lay_from known at m x) (l.lay_from known at m y) s in
        let b = l.on_subs known at m x f.quants f.boxes in
        let c = l.in_turn (l.on_subs known at m x f.quants) (l.on_subs known at m y (w.past known x f.quants)) f.boxes in
        let p = from-parts (q.crossed x y) in
        room (then (then (then (then (from-holds m x s) (from-holds m y a.boxes)) (on-holds m x f.quants f.boxes)) (on-holds m y (w.past known x f.quants) b.boxes)) (flat-holds known at (q.crossed x y) m f.quants c)) (omega (arith, p))
    operand-holds (q.joined x y on) m s =
        let a = l.lay_from known at m x s in
        let f = l.in_turn (l.lay_from known at m x) (l.lay_from known at m y) s in
        let past = w.past known x f.quants in
        let fr = w.frame known x f.quants ++ w.frame known y past in
        let b = l.on_subs known at m x f.quants f.boxes in
        let d = l.on_subs known at m y past b.boxes in
        let c = l.in_turn (l.on_subs known at m x f.quants) (l.in_turn (l.on_subs known at m y past) (l.test_subs known at m fr on)) f.boxes in
        let p = from-parts (q.joined x y on) in
        room (then (then (then (then (then (from-holds m x s) (from-holds m y a.boxes)) (on-holds m x f.quants f.boxes)) (on-holds m y past b.boxes)) (bare (test-holds m fr [] on d.boxes))) (flat-holds known at (q.joined x y on) m f.quants c)) (omega (arith, p))
    operand-holds (q.left_joined x y k on) m s = room (outer-holds x k on m (l.lay_operand known at y m) (l.lay_operand known at x m s) s (n.all_of (n.from_size x)) (n.all_of (n.from_size y)) (operand-holds x m s) (operand-holds y m (l.lay_operand known at x m s).boxes)) (omega arith)

    from-holds : (m : Map) (x : From) (s : Boxes) → Holds s (l.lay_from known at m x s).boxes [] (laid_below x)
    from-holds m (q.named name) s = ranged _ (none-holds s)
    from-holds m (q.derived query) s = ranged _ (query-holds query m s)
    from-holds m (q.crossed x y) s = then (from-holds m x s) (from-holds m y (l.lay_from known at m x s).boxes)
    from-holds m (q.joined x y p) s = then (from-holds m x s) (from-holds m y (l.lay_from known at m x s).boxes)
    from-holds m (q.left_joined x y k p) s = ranged _ (outer-holds x k p m (l.lay_operand known at y m) (l.lay_operand known at x m s) s (n.all_of (n.from_size x)) (n.all_of (n.from_size y)) (operand-holds x m s) (operand-holds y m (l.lay_operand known at x m s).boxes))

    froms-holds : (m : Map) (xs : Froms) (s : Boxes) → Holds s (l.lay_froms known at m xs s).boxes [] (all_laid_below xs)
    froms-holds m q.no_from s = none-holds s
    froms-holds m (q.one_from x xs) s = then (from-holds m x s) (froms-holds m xs (l.lay_from known at m x s).boxes)

    on-holds : (m : Map) (x : From) (os : List OwnedQuant) (s : Boxes) → Holds s (l.on_subs known at m x os s).boxes [] (on_below x)
    on-holds m (q.named name) os s = none-holds s
    on-holds m (q.derived query) os s = none-holds s
    on-holds m (q.crossed x y) os s = then (on-holds m x os s) (on-holds m y (w.past known x os) (l.on_subs known at m x os s).boxes)
    on-holds m (q.joined x y p) os s =
        let past = w.past known x os in
        let a = l.on_subs known at m x os s in
        let b = l.on_subs known at m y past a.boxes in
        then (on-holds m x os s) (then (on-holds m y past a.boxes) (bare (test-holds m (w.frame known x os ++ w.frame known y past) [] p b.boxes)))
    on-holds m (q.left_joined x y k p) os s = none-holds s

    all-on-holds : (m : Map) (xs : Froms) (os : List OwnedQuant) (s : Boxes) → Holds s (l.all_on_subs known at m xs os s).boxes [] (all_on_below xs)
    all-on-holds m q.no_from os s = none-holds s
    all-on-holds m (q.one_from x xs) os s = then (on-holds m x os s) (all-on-holds m xs (w.past known x os) (l.on_subs known at m x os s).boxes)

    -- the subqueries of a block, where the aggregates are counted that it asks for; gr: any frame
    value-holds : (m : Map) (fr gr : Frame) (x : Value) (s : Boxes) → Holds s (l.value_subs known at m fr x s).boxes (leaves gr x) (n.value_size x).below
    value-holds m fr gr (q.number z) s = none-holds s
    value-holds m fr gr (q.text z) s = none-holds s
    value-holds m fr gr (q.null type) s = none-holds s
    value-holds m fr gr (q.column scope place) s = none-holds s
    value-holds m fr gr (q.sum x xs) s = turn (value-holds m fr gr x s) (addends-hold m fr gr xs (l.value_subs known at m fr x s).boxes)
    value-holds m fr gr (q.product x xs) s = turn (value-holds m fr gr x s) (multipliers-hold m fr gr xs (l.value_subs known at m fr x s).boxes)
    value-holds m fr gr (q.negative x) s = value-holds m fr gr x s
    value-holds m fr gr (q.searched xs last) s = turn (arms-hold m fr gr xs s) (value-holds m fr gr last (l.arm_subs known at m fr xs s).boxes)
    value-holds m fr gr (q.simple x xs last) s =
        let a = l.value_subs known at m fr x s in
        let b = l.choice_subs known at m fr xs a.boxes in
        let e = choices-below (n.value_size x).own xs in
        room (turn (value-holds m fr gr x s) (turn (choices-hold m fr gr xs a.boxes) (value-holds m fr gr last b.boxes))) (omega (arith, e))
    value-holds m fr gr (q.coalesce x xs) s =
        let e = coalesced-below (n.value_size x) xs in
        room (turn (value-holds m fr gr x s) (list-holds m fr gr xs (l.value_subs known at m fr x s).boxes)) (omega (arith, e))
    value-holds m fr gr (q.null_if x y) s = room (turn (value-holds m fr gr x s) (value-holds m fr gr y (l.value_subs known at m fr x s).boxes)) (omega arith)
    value-holds m fr gr (q.scalar query) s = asked gr S query (ranged _ (query-holds query (fr ∷ m) s))
    value-holds m fr gr q.count_all s = record { holds = omega arith }
    value-holds m fr gr (q.aggregate f distinct x) s = record { holds = omega arith }

    addends-hold : (m : Map) (fr gr : Frame) (xs : Addends) (s : Boxes) → Holds s (l.addend_subs known at m fr xs s).boxes (addend_leaves gr xs) (n.addends_size xs).below
    addends-hold m fr gr q.no_addend s = none-holds s
    addends-hold m fr gr (q.one_addend op x xs) s = turn (value-holds m fr gr x s) (addends-hold m fr gr xs (l.value_subs known at m fr x s).boxes)

    multipliers-hold : (m : Map) (fr gr : Frame) (xs : Multipliers) (s : Boxes) → Holds s (l.multiplier_subs known at m fr xs s).boxes (multiplier_leaves gr xs) (n.multipliers_size xs).below
    multipliers-hold m fr gr q.no_multiplier s = none-holds s
    multipliers-hold m fr gr (q.one_multiplier op x xs) s = turn (value-holds m fr gr x s) (multipliers-hold m fr gr xs (l.value_subs known at m fr x s).boxes)

    list-holds : (m : Map) (fr gr : Frame) (xs : Values) (s : Boxes) → Holds s (l.list_subs known at m fr xs s).boxes (list_leaves gr xs) (n.values_size xs).below
    list-holds m fr gr q.no_value s = none-holds s
    list-holds m fr gr (q.one_value x xs) s = turn (value-holds m fr gr x s) (list-holds m fr gr xs (l.value_subs known at m fr x s).boxes)

    arms-hold : (m : Map) (fr gr : Frame) (xs : Arms) (s : Boxes) → Holds s (l.arm_subs known at m fr xs s).boxes (arm_leaves gr xs) (n.arms_size xs).below
    arms-hold m fr gr q.no_arm s = none-holds s
    arms-hold m fr gr (q.one_arm p x xs) s =
        let a = l.test_subs known at m fr p s in
        let b = l.value_subs known at m fr x a.boxes in
        room (turn (test-holds m fr gr p s) (turn (value-holds m fr gr x a.boxes) (arms-hold m fr gr xs b.boxes))) (omega arith)

    choices-hold : (m : Map) (fr gr : Frame) (xs : Choices) (s : Boxes) → Holds s (l.choice_subs known at m fr xs s).boxes (choice_leaves gr xs) (n.choices_size 0 xs).below
    choices-hold m fr gr q.no_choice s = none-holds s
    choices-hold m fr gr (q.one_choice x y xs) s =
        let a = l.value_subs known at m fr x s in
        let b = l.value_subs known at m fr y a.boxes in
        room (turn (value-holds m fr gr x s) (turn (value-holds m fr gr y a.boxes) (choices-hold m fr gr xs b.boxes))) (omega arith)

    test-holds : (m : Map) (fr gr : Frame) (p : Test) (s : Boxes) → Holds s (l.test_subs known at m fr p s).boxes (test_leaves gr p) (n.test_size p).below
    test-holds m fr gr (q.all ps) s = let e = tests-all 1 ps in room (tests-hold m fr gr ps s) (omega (arith, e))
    test-holds m fr gr (q.any ps) s = let e = tests-all 2 ps in room (tests-hold m fr gr ps s) (omega (arith, e))
    test-holds m fr gr (q.negated p) s = test-holds m fr gr p s
    test-holds m fr gr (q.compare x op y) s = turn (value-holds m fr gr x s) (value-holds m fr gr y (l.value_subs known at m fr x s).boxes)
    test-holds m fr gr (q.quantified x op each query) s =
        turn (value-holds m fr gr x s) (asked gr (every_or_some each) query (ranged _ (query-holds query (fr ∷ m) (l.value_subs known at m fr x s).boxes)))
    test-holds m fr gr (q.between x y z) s =
        let a = l.value_subs known at m fr x s in
        let b = l.value_subs known at m fr y a.boxes in
        room (turn (value-holds m fr gr x s) (turn (value-holds m fr gr y a.boxes) (value-holds m fr gr z b.boxes))) (omega arith)
    test-holds m fr gr (q.among x xs) s =
        let e = among-below (n.value_size x).own xs in
        room (turn (value-holds m fr gr x s) (list-holds m fr gr xs (l.value_subs known at m fr x s).boxes)) (omega (arith, e))
    test-holds m fr gr (q.among_rows x query) s = turn (value-holds m fr gr x s) (asked gr E query (ranged _ (query-holds query (fr ∷ m) (l.value_subs known at m fr x s).boxes)))
    test-holds m fr gr (q.like x y) s = turn (value-holds m fr gr x s) (value-holds m fr gr y (l.value_subs known at m fr x s).boxes)
    test-holds m fr gr (q.is_null x) s = value-holds m fr gr x s
    test-holds m fr gr (q.exists query) s = asked gr E query (ranged _ (query-holds query (fr ∷ m) s))

    tests-hold : (m : Map) (fr gr : Frame) (ps : Tests) (s : Boxes) → Holds s (l.tests_subs known at m fr ps s).boxes (tests_leaves gr ps) (tests_below ps)
    tests-hold m fr gr q.no_test s = none-holds s
    tests-hold m fr gr (q.one_test p ps) s = turn (test-holds m fr gr p s) (tests-hold m fr gr ps (l.test_subs known at m fr p s).boxes)

-- the law
pub laid-size : (known : Sources) (at : Boxes → Sources) (query : Query) (m : Map) (s : Boxes) → Grows s (l.lay known at query m s).boxes (n.query_size query)
laid-size known at query m s = let h = query-holds known at query m s in record { grows = omega (arith, h.holds) }
