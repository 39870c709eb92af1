-- What is laid for a query shows it.
use Rattle.std.proofs.Common.{◌≡◌, ℕ, ◌+◌, Bool, false, List, [], ◌∷◌, ◌++◌, refl, ap₂, sym, ◌∙◌, arith}
use Rattle.sql_ast.specs.declared.word.Quantifier.{Quantifier}
use Rattle.sql_ast.specs.declared.word.Quantifier.TheVariants as quantifier
use Rattle.sql_meaning.specs.ResolvedTrees.{Value, Addends, Multipliers, Values, Arms, Choices, Test, Tests, From, Froms, Query}
use Rattle.sql_meaning.specs.ResolvedTrees as q
use Rattle.qgm_core.specs.declared.kinds.QuantKind.TheVariants.{F, E, S}
use Rattle.qgm_core.specs.declared.owned.OwnedQuant.{OwnedQuant}
use Rattle.qgm_core.specs.Kinds.{is_F}
use Rattle.qgm_translation.specs.Maps.{Frame, Map}
use Rattle.qgm_translation.specs.Folds.{folds_in}
use Rattle.qgm_translation.proofs.FoldsSame.{folds_append, test_same, values_same}
use Rattle.qgm_translation.specs.Leaves.{Leaf, Slots, after, count, every_or_some, fold, leaves, list_leaves, sub, test_leaves}
use Rattle.qgm_translation.specs.Leaves as leaf
use Rattle.qgm_translation.specs.Shown.{over_in, uses, HasKey, PlainArguments, Thing, columns_of, fold_terms, key_frame, key_places, no_slots, of_groups, of_operand, of_query, of_rows, refs}
use Rattle.qgm_translation.specs.Shown as w
use Rattle.qgm_translation.specs.Sources.{Sources, from_width, width}
use Rattle.qgm_translation.specs.Lay.{Boxes, Laid, Drawn, Step, column_types, put, ranging, drawn, none, in_turn, over, pair_of}
use Rattle.qgm_translation.specs.Lay as y
use Rattle.qgm_translation.specs.Lays as k
use Rattle.qgm_translation.specs.Buildable as b
use Rattle.qgm_translation.specs.Lays.{Counted, EachRanges, HeadUnder, Under, UnderIn, owned}
use Rattle.qgm_translation.proofs.Numbers.{under_in-left, under_in-right, under-keys}
use Rattle.qgm_translation.proofs.Made as mk

module _ (sources : Sources) (has : List ℕ → Bool) where
  abbrev pub Ready : Boxes → Map → Type 0
  Ready = k.Ready sources has

  abbrev pub Made : Thing → Map → Boxes → Laid → Type 0
  Made = k.Made sources has

  abbrev pub MadeFrom : From → Map → Boxes → Drawn → Type 0
  MadeFrom = mk.MadeFrom sources has

  abbrev pub MadeFroms : Froms → Map → Boxes → Drawn → Type 0
  MadeFroms = mk.MadeFroms sources has

  abbrev pub Serves : Frame → Map → List Leaf → Step → Type 0
  Serves = mk.Serves sources has

  -- all is told beforehand
  abbrev pub same : Boxes → Sources
  same s = sources

  -- ---- the subqueries of ON

  pub on-crossed : (x z : From) (m : Map) (os : List OwnedQuant) {a b : Step} → Serves (w.frame sources x os) m (w.on_leaves sources x os) a
      → Serves (w.frame sources z (w.past sources x os)) m (w.on_leaves sources z (w.past sources x os)) b
      → Serves (w.frame sources (q.crossed x z) os) m (w.on_leaves sources (q.crossed x z) os) (in_turn a b)
  on-crossed x z m os h k =
      mk.both sources has (mk.within sources has (λ n u. under_in-left n (w.frame sources x os) (w.frame sources z (w.past sources x os)) u) h)
      (mk.within sources has (λ n u. under_in-right n (w.frame sources x os) (w.frame sources z (w.past sources x os)) u) k)

  pub on-joined : (x z : From) (p : Test) (m : Map) (os : List OwnedQuant) {a b c : Step} → Serves (w.frame sources x os) m (w.on_leaves sources x os) a
      → Serves (w.frame sources z (w.past sources x os)) m (w.on_leaves sources z (w.past sources x os)) b
      → Serves (w.frame sources (q.joined x z p) os) m (test_leaves (w.frame sources (q.joined x z p) os) p) c
      → Serves (w.frame sources (q.joined x z p) os) m (w.on_leaves sources (q.joined x z p) os) (in_turn a (in_turn b c))
  on-joined x z p m os h k j =
      mk.both sources has (mk.within sources has (λ n u. under_in-left n (w.frame sources x os) (w.frame sources z (w.past sources x os)) u) h)
      (mk.both sources has (mk.within sources has (λ n u. under_in-right n (w.frame sources x os) (w.frame sources z (w.past sources x os)) u) k) j)

  pub on-next : (x : From) (xs : Froms) (m : Map) (os : List OwnedQuant) {a b : Step} → Serves (w.frame sources x os) m (w.on_leaves sources x os) a
      → Serves (w.frame_all sources xs (w.past sources x os)) m (w.all_on_leaves sources xs (w.past sources x os)) b
      → Serves (w.frame_all sources (q.one_from x xs) os) m (w.all_on_leaves sources (q.one_from x xs) os) (in_turn a b)
  on-next x xs m os h k =
      mk.both sources has (mk.within sources has (λ n u. under_in-left n (w.frame sources x os) (w.frame_all sources xs (w.past sources x os)) u) h)
      (mk.within sources has (λ n u. under_in-right n (w.frame sources x os) (w.frame_all sources xs (w.past sources x os)) u) k)

  pub binds-nothing : (each : Quantifier) → is_F (every_or_some each) ≡ false
  binds-nothing quantifier.Any = refl
  binds-nothing quantifier.Some = refl
  binds-nothing quantifier.All = refl

  -- ---- the making

  mutual
    pub laid : (x : Query) (m : Map) (s : Boxes) → b.Buildable sources has x → Ready s m → Made (of_query x) m s (y.lay sources same x m s)
    laid (q.block distinct list from by) m s h r =
        let f = y.lay_froms sources same m from s in
        let a = froms-laid m from s h.0 r in
        let fr = w.frame_all sources from f.quants in
        let c = in_turn (y.list_subs sources same m fr list) (in_turn (y.all_on_subs sources same m from f.quants) (y.test_subs sources same m fr by)) f.boxes in
        let served = mk.both sources has (list-served m fr list h.1) (mk.both sources has (all-on-served m from f.quants h.0) (test-served m fr by h.2)) in
        mk.block-made sources has distinct list from by m s f c r.under a (served.at f.boxes (mk.ready-frame sources has f.boxes fr m (mk.ready-keeps sources has s f.boxes m r a.keeps) a.under))
    laid (q.grouped distinct list from by places n having) m s h r =
        let f = y.lay_froms sources same m from s in
        let a = froms-laid m from s h.0 r in
        let fr = w.frame_all sources from f.quants in
        let ks = w.upper_leaves [] list having in
        let lower = mk.both sources has (all-on-served m from f.quants h.0) (test-served m fr by h.2) in
        let c = in_turn (y.all_on_subs sources same m from f.quants) (y.test_subs sources same m fr by) f.boxes in
        let rows = y.select_box sources same false from by (λ fr. []) (λ sources. w.rows_list sources (key_places places) ks) m f.quants c in
        let groups = y.group_box sources same (key_places places) ks rows in
        let up = key_frame groups.boxes.quant (key_places places) 0 n in
        let ls = w.upper_leaves up list having in
        let alike : folds_in ks ≡ folds_in ls = folds_append (list_leaves [] list) (test_leaves [] having) ∙ ap₂ (λ a b. a ++ b) (values_same [] up list) (test_same [] up having) ∙ sym (folds_append (list_leaves up list) (test_leaves up having)) in
        let upper = mk.both sources has (list-served m up list h.1) (test-served m up having h.3) in
        let made = mk.groups-made sources has from by (key_places places) ks ls m s rows alike r.under (mk.rows-made sources has from by (key_places places) ks ls m s f c alike r.under upper.plain a
        (lower.at f.boxes (mk.ready-frame sources has f.boxes fr m (mk.ready-keeps sources has s f.boxes m r a.keeps) a.under))) in
        let e = (drawn F groups).boxes in
        let grown = mk.keeps-trans sources has s groups.boxes e made.keeps (mk.keeps-ranging sources has groups.top groups.boxes) in
        let d = in_turn (y.list_subs sources same m up list) (y.test_subs sources same m up having) e in
        mk.upper-made sources has distinct list from by places n having m s groups d r.under h.4 h.5 made
        (upper.at e (mk.ready-frame sources has e up m (mk.ready-keeps sources has s e m r grown) (under-keys e.quant groups.boxes.quant (key_places places) 0 n (omega arith))))
    laid (q.combine x op all n z) m s h r =
        let a = y.lay sources same x m s in
        let k = laid x m s h.0 r in
        mk.two-made sources has x z (q.combine x op all n z) (w.form_of op all) n m s a (y.lay sources same z m) r k (laid z m a.boxes h.1 (mk.ready-keeps sources has s a.boxes m r k.keeps)) h.2 h.3 (λ below b t. t)
    laid (q.intersect x all n z) m s h r =
        let a = y.lay sources same x m s in
        let k = laid x m s h.0 r in
        mk.two-made sources has x z (q.intersect x all n z) (w.common_form all) n m s a (y.lay sources same z m) r k (laid z m a.boxes h.1 (mk.ready-keeps sources has s a.boxes m r k.keeps)) h.2 h.3 (λ below b t. t)

    pub operand-laid : (x : From) (m : Map) (s : Boxes) → b.FitFrom sources has x → Ready s m → Made (of_operand x) m s (y.lay_operand sources same x m s)
    operand-laid (q.named name) m s h r = mk.named-made sources has name m s h r
    operand-laid (q.derived query) m s h r = mk.derived-made sources has query m s (y.lay sources same query m s) (laid query m s h r)
    operand-laid (q.crossed x z) m s h r =
        let d = y.lay_from sources same m x s in
        let e = y.lay_from sources same m z d.boxes in
        let f : Drawn = record { boxes = e.boxes; quants = d.quants ++ e.quants } in
        let i = from-laid m x s h.0 r in
        let a = mk.from-crossed sources has x z m s d e i (from-laid m z d.boxes h.1 (mk.ready-keeps sources has s d.boxes m r i.keeps)) in
        let served = on-crossed x z m f.quants (on-served m x f.quants h.0) (on-served m z (w.past sources x f.quants) h.1) in
        mk.flat-made sources has (q.crossed x z) m s f (in_turn (y.on_subs sources same m x f.quants) (y.on_subs sources same m z (w.past sources x f.quants)) f.boxes) (λ below b t. t) r.under a
        (served.at f.boxes (mk.ready-frame sources has f.boxes (w.frame sources (q.crossed x z) f.quants) m (mk.ready-keeps sources has s f.boxes m r a.keeps) a.under))
    operand-laid (q.joined x z p) m s h r =
        let d = y.lay_from sources same m x s in
        let e = y.lay_from sources same m z d.boxes in
        let f : Drawn = record { boxes = e.boxes; quants = d.quants ++ e.quants } in
        let fr = w.frame sources (q.joined x z p) f.quants in
        let i = from-laid m x s h.0 r in
        let a = mk.from-joined sources has x z p m s d e i (from-laid m z d.boxes h.1 (mk.ready-keeps sources has s d.boxes m r i.keeps)) in
        let served = on-joined x z p m f.quants (on-served m x f.quants h.0) (on-served m z (w.past sources x f.quants) h.1) (test-served m fr p h.2) in
        mk.flat-made sources has (q.joined x z p) m s f (in_turn (y.on_subs sources same m x f.quants) (in_turn (y.on_subs sources same m z (w.past sources x f.quants)) (y.test_subs sources same m fr p)) f.boxes) (λ below b t. t) r.under a
        (served.at f.boxes (mk.ready-frame sources has f.boxes fr m (mk.ready-keeps sources has s f.boxes m r a.keeps) a.under))
    operand-laid (q.left_joined x z n p) m s h r =
        let a = y.lay_operand sources same x m s in
        let k = operand-laid x m s h.0 r in
        mk.outer-made sources has x z n p m s a (y.lay_operand sources same z m) r k (operand-laid z m a.boxes h.1 (mk.ready-keeps sources has s a.boxes m r k.keeps)) h.2 h.3

    pub from-laid : (m : Map) (x : From) (s : Boxes) → b.FitFrom sources has x → Ready s m → MadeFrom x m s (y.lay_from sources same m x s)
    from-laid m (q.named name) s h r =
        mk.from-one sources has (q.named name) (sources.columns name) m s (record { boxes = s; top = sources.shared name }) (mk.named-made sources has name m s h r)
        (record { past = λ more. refl; frame = λ more. refl; leaves = λ more. refl; ons = λ m s more. refl }) refl (λ below os t. t)
    from-laid m (q.derived query) s h r =
        let a = y.lay sources same query m s in
        mk.from-one sources has (q.derived query) (width query) m s a (mk.derived-made sources has query m s a (laid query m s h r))
        (record { past = λ more. refl; frame = λ more. refl; leaves = λ more. refl; ons = λ m s more. refl }) refl (λ below os t. t)
    from-laid m (q.crossed x z) s h r =
        let d = y.lay_from sources same m x s in
        let i = from-laid m x s h.0 r in
        mk.from-crossed sources has x z m s d (y.lay_from sources same m z d.boxes) i (from-laid m z d.boxes h.1 (mk.ready-keeps sources has s d.boxes m r i.keeps))
    from-laid m (q.joined x z p) s h r =
        let d = y.lay_from sources same m x s in
        let i = from-laid m x s h.0 r in
        mk.from-joined sources has x z p m s d (y.lay_from sources same m z d.boxes) i (from-laid m z d.boxes h.1 (mk.ready-keeps sources has s d.boxes m r i.keeps))
    from-laid m (q.left_joined x z n p) s h r =
        let a = y.lay_operand sources same x m s in
        let k = operand-laid x m s h.0 r in
        mk.from-one sources has (q.left_joined x z n p) (from_width sources x + n) m s (y.outer_box sources same x n p m (y.lay_operand sources same z m) a)
        (mk.outer-made sources has x z n p m s a (y.lay_operand sources same z m) r k (operand-laid z m a.boxes h.1 (mk.ready-keeps sources has s a.boxes m r k.keeps)) h.2 h.3)
        (record { past = λ more. refl; frame = λ more. refl; leaves = λ more. refl; ons = λ m s more. refl }) refl (λ below os t. t)

    pub froms-laid : (m : Map) (xs : Froms) (s : Boxes) → b.FitFroms sources has xs → Ready s m → MadeFroms xs m s (y.lay_froms sources same m xs s)
    froms-laid m q.no_from s h r = mk.froms-none sources has m s
    froms-laid m (q.one_from x xs) s h r =
        let d = y.lay_from sources same m x s in
        let i = from-laid m x s h.0 r in
        mk.froms-next sources has x xs m s d (y.lay_froms sources same m xs d.boxes) i (froms-laid m xs d.boxes h.1 (mk.ready-keeps sources has s d.boxes m r i.keeps))

    pub on-served : (m : Map) (x : From) (os : List OwnedQuant) → b.FitFrom sources has x → Serves (w.frame sources x os) m (w.on_leaves sources x os) (y.on_subs sources same m x os)
    on-served m (q.named name) os h = mk.nothing sources has
    on-served m (q.derived query) os h = mk.nothing sources has
    on-served m (q.crossed x z) os h = on-crossed x z m os (on-served m x os h.0) (on-served m z (w.past sources x os) h.1)
    on-served m (q.joined x z p) os h =
        on-joined x z p m os (on-served m x os h.0) (on-served m z (w.past sources x os) h.1) (test-served m (w.frame sources (q.joined x z p) os) p h.2)
    on-served m (q.left_joined x z n p) os h = mk.nothing sources has

    pub all-on-served : (m : Map) (xs : Froms) (os : List OwnedQuant) → b.FitFroms sources has xs → Serves (w.frame_all sources xs os) m (w.all_on_leaves sources xs os) (y.all_on_subs sources same m xs os)
    all-on-served m q.no_from os h = mk.nothing sources has
    all-on-served m (q.one_from x xs) os h = on-next x xs m os (on-served m x os h.0) (all-on-served m xs (w.past sources x os) h.1)

    pub value-served : (m : Map) (fr : Frame) (x : Value) → b.FitValue sources has x → Serves fr m (leaf.leaves fr x) (y.value_subs sources same m fr x)
    value-served m fr (q.number n) h = mk.nothing sources has
    value-served m fr (q.text x) h = mk.nothing sources has
    value-served m fr (q.null type) h = mk.nothing sources has
    value-served m fr (q.column scope place) h = mk.nothing sources has
    value-served m fr (q.sum x xs) h = mk.both sources has (value-served m fr x h.0) (addend-served m fr xs h.1)
    value-served m fr (q.product x xs) h = mk.both sources has (value-served m fr x h.0) (multiplier-served m fr xs h.1)
    value-served m fr (q.negative x) h = value-served m fr x h
    value-served m fr (q.searched xs last) h = mk.both sources has (arm-served m fr xs h.0) (value-served m fr last h.1)
    value-served m fr (q.simple x xs last) h = mk.both sources has (value-served m fr x h.0) (mk.both sources has (choice-served m fr xs h.1) (value-served m fr last h.2))
    value-served m fr (q.coalesce x xs) h = mk.both sources has (value-served m fr x h.0) (list-served m fr xs h.1)
    value-served m fr (q.null_if x y) h = mk.both sources has (value-served m fr x h.0) (value-served m fr y h.1)
    value-served m fr (q.scalar query) h = mk.asked sources has S query (y.lay sources same query (fr ∷ m)) refl (λ s r. laid query (fr ∷ m) s h r)
    value-served m fr q.count_all h = mk.counted sources has
    value-served m fr (q.aggregate f distinct x) h = mk.folded sources has f distinct x h

    pub addend-served : (m : Map) (fr : Frame) (x : Addends) → b.FitAddends sources has x → Serves fr m (leaf.addend_leaves fr x) (y.addend_subs sources same m fr x)
    addend-served m fr q.no_addend h = mk.nothing sources has
    addend-served m fr (q.one_addend op x xs) h = mk.both sources has (value-served m fr x h.0) (addend-served m fr xs h.1)

    pub multiplier-served : (m : Map) (fr : Frame) (x : Multipliers) → b.FitMultipliers sources has x → Serves fr m (leaf.multiplier_leaves fr x) (y.multiplier_subs sources same m fr x)
    multiplier-served m fr q.no_multiplier h = mk.nothing sources has
    multiplier-served m fr (q.one_multiplier op x xs) h = mk.both sources has (value-served m fr x h.0) (multiplier-served m fr xs h.1)

    pub list-served : (m : Map) (fr : Frame) (x : Values) → b.FitValues sources has x → Serves fr m (leaf.list_leaves fr x) (y.list_subs sources same m fr x)
    list-served m fr q.no_value h = mk.nothing sources has
    list-served m fr (q.one_value x xs) h = mk.both sources has (value-served m fr x h.0) (list-served m fr xs h.1)

    pub arm-served : (m : Map) (fr : Frame) (x : Arms) → b.FitArms sources has x → Serves fr m (leaf.arm_leaves fr x) (y.arm_subs sources same m fr x)
    arm-served m fr q.no_arm h = mk.nothing sources has
    arm-served m fr (q.one_arm p x xs) h = mk.both sources has (test-served m fr p h.0) (mk.both sources has (value-served m fr x h.1) (arm-served m fr xs h.2))

    pub choice-served : (m : Map) (fr : Frame) (x : Choices) → b.FitChoices sources has x → Serves fr m (leaf.choice_leaves fr x) (y.choice_subs sources same m fr x)
    choice-served m fr q.no_choice h = mk.nothing sources has
    choice-served m fr (q.one_choice x y xs) h = mk.both sources has (value-served m fr x h.0) (mk.both sources has (value-served m fr y h.1) (choice-served m fr xs h.2))

    pub test-served : (m : Map) (fr : Frame) (x : Test) → b.FitTest sources has x → Serves fr m (leaf.test_leaves fr x) (y.test_subs sources same m fr x)
    test-served m fr (q.all ps) h = tests-served m fr ps h
    test-served m fr (q.any ps) h = tests-served m fr ps h
    test-served m fr (q.negated p) h = test-served m fr p h
    test-served m fr (q.compare x op y) h = mk.both sources has (value-served m fr x h.0) (value-served m fr y h.1)
    test-served m fr (q.quantified x op each query) h = mk.both sources has (value-served m fr x h.0) (mk.asked sources has (every_or_some each) query (y.lay sources same query (fr ∷ m)) (binds-nothing each) (λ s r. laid query (fr ∷ m) s h.1 r))
    test-served m fr (q.between x y z) h = mk.both sources has (value-served m fr x h.0) (mk.both sources has (value-served m fr y h.1) (value-served m fr z h.2))
    test-served m fr (q.among x xs) h = mk.both sources has (value-served m fr x h.0) (list-served m fr xs h.1)
    test-served m fr (q.among_rows x query) h = mk.both sources has (value-served m fr x h.0) (mk.asked sources has E query (y.lay sources same query (fr ∷ m)) refl (λ s r. laid query (fr ∷ m) s h.1 r))
    test-served m fr (q.like x y) h = mk.both sources has (value-served m fr x h.0) (value-served m fr y h.1)
    test-served m fr (q.is_null x) h = value-served m fr x h
    test-served m fr (q.exists query) h = mk.asked sources has E query (y.lay sources same query (fr ∷ m)) refl (λ s r. laid query (fr ∷ m) s h r)

    pub tests-served : (m : Map) (fr : Frame) (x : Tests) → b.FitTests sources has x → Serves fr m (leaf.tests_leaves fr x) (y.tests_subs sources same m fr x)
    tests-served m fr q.no_test h = mk.nothing sources has
    tests-served m fr (q.one_test p ps) h = mk.both sources has (test-served m fr p h.0) (tests-served m fr ps h.1)
