-- More types of quantifiers are known after each step, and the same tables and views were laid.
use Rattle.std.proofs.Common.{ℕ, refl, false, List, [], ◌∷◌, ◌++◌, get_or}
use Rattle.sql_meaning.specs.ResolvedTrees.{Value, Addends, Multipliers, Values, Arms, Choices, Test, Tests, From, Froms, Query}
use Rattle.sql_meaning.specs.ResolvedTrees as q
use Rattle.qgm_core.specs.declared.kinds.QuantKind.{QuantKind}
use Rattle.qgm_core.specs.declared.kinds.QuantKind.TheVariants.{F, E, S}
use Rattle.qgm_core.specs.declared.owned.OwnedQuant.{OwnedQuant}
use Rattle.qgm_translation.specs.Leaves.{every_or_some}
use Rattle.qgm_translation.specs.Lay.{Boxes, Laid, Drawn, Step, drawn, in_turn, none, over, ranging}
use Rattle.qgm_translation.specs.Lay as y
use Rattle.qgm_translation.specs.Maps.{Frame, Map}
use Rattle.qgm_translation.specs.Shown.{common_form, form_of, key_frame, key_places, rows_list, upper_leaves}
use Rattle.qgm_translation.specs.Shown as w
use Rattle.qgm_translation.specs.Sources.{Sources}
use Rattle.qgm_translation.proofs.Rows.{Further, begins-more, further-refl, further-trans}

pub record Grows (step : Step) : Type 0 where
  pub at : (s : Boxes) → Further s.rows (step s).boxes.rows s.shared (step s).boxes.shared

pub record Grown (lay : Boxes → Laid) : Type 0 where
  pub at : (s : Boxes) → Further s.rows (lay s).boxes.rows s.shared (lay s).boxes.shared

pub stays : Grows none
stays = record { at = λ s. further-refl s.rows s.shared }

pub turn : {a b : Step} → Grows a → Grows b → Grows (in_turn a b)
turn {a} {b} h k = record { at = λ s. further-trans (h.at s) (k.at (a s).boxes) }

pub ranged : (b : ℕ) (s : Boxes) → Further s.rows (ranging b s).rows s.shared s.shared
ranged b s = record { rows = begins-more s.rows (get_or s.types b [] ∷ []); shared = refl }

pub grown-over : (kind : QuantKind) {lay : Boxes → Laid} → Grown lay → Grows (over kind lay)
grown-over kind {lay} h = record { at = λ s. further-trans (h.at s) (ranged (lay s).top (lay s).boxes) }

-- two that are laid in turn, and a quantifier over each
pub two-grow : {x z : Boxes → Laid} → Grown x → Grown z → (s : Boxes) → Further s.rows (ranging (z (x s).boxes).top (ranging (x s).top (z (x s).boxes).boxes)).rows s.shared (z (x s).boxes).boxes.shared
two-grow {x} {z} h k s =
    let a = x s in
    let b = z a.boxes in
    further-trans (further-trans (h.at s) (k.at a.boxes)) (further-trans (ranged a.top b.boxes) (ranged b.top (ranging a.top b.boxes)))

module _ (known : Sources) (at : Boxes → Sources) where
  mutual
    pub lay-grows : (x : Query) (m : Map) → Grown (y.lay known at x m)
    lay-grows (q.block distinct list from by) m = record {
      at = λ s.
          let f = y.lay_froms known at m from s in
          let fr = w.frame_all known from f.quants in
          further-trans ((froms-grow m from).at s) ((turn (list-grow m fr list) (turn (all-on-grow m from f.quants) (test-grow m fr by))).at f.boxes);
    }
    lay-grows (q.grouped distinct list from by places n having) m = record {
      at = λ s.
          let f = y.lay_froms known at m from s in
          let fr = w.frame_all known from f.quants in
          let c = in_turn (y.all_on_subs known at m from f.quants) (y.test_subs known at m fr by) f.boxes in
          let ls = upper_leaves [] list having in
          let rows = y.select_box known at false from by (λ fr. []) (λ sources. rows_list sources (key_places places) ls) m f.quants c in
          let groups = y.group_box known at (key_places places) ls rows in
          let up = key_frame groups.boxes.quant (key_places places) 0 n in
          let lower = further-trans ((froms-grow m from).at s) ((turn (all-on-grow m from f.quants) (test-grow m fr by)).at f.boxes) in
          let grouped = further-trans lower (further-trans (ranged rows.top rows.boxes) (ranged groups.top groups.boxes)) in
          further-trans grouped ((turn (list-grow m up list) (test-grow m up having)).at (drawn F groups).boxes);
    }
    lay-grows (q.combine x op all n z) m = record { at = two-grow (lay-grows x m) (lay-grows z m) }
    lay-grows (q.intersect x all n z) m = record { at = two-grow (lay-grows x m) (lay-grows z m) }

    pub operand-grows : (x : From) (m : Map) → Grown (y.lay_operand known at x m)
    operand-grows (q.named name) m = record { at = λ s. further-refl s.rows s.shared }
    operand-grows (q.derived query) m = record { at = (lay-grows query m).at }
    operand-grows (q.crossed x z) m = record {
      at = λ s.
          let f = in_turn (y.lay_from known at m x) (y.lay_from known at m z) s in
          further-trans ((turn (from-grows m x) (from-grows m z)).at s) ((turn (on-grows m x f.quants) (on-grows m z (w.past known x f.quants))).at f.boxes);
    }
    operand-grows (q.joined x z p) m = record {
      at = λ s.
          let f = in_turn (y.lay_from known at m x) (y.lay_from known at m z) s in
          let fr = w.frame known x f.quants ++ w.frame known z (w.past known x f.quants) in
          further-trans ((turn (from-grows m x) (from-grows m z)).at s) ((turn (on-grows m x f.quants) (turn (on-grows m z (w.past known x f.quants)) (test-grow m fr p))).at f.boxes);
    }
    operand-grows (q.left_joined x z n p) m = record { at = two-grow (operand-grows x m) (operand-grows z m) }

    pub from-grows : (m : Map) (x : From) → Grows (y.lay_from known at m x)
    from-grows m (q.named name) = record { at = λ s. ranged ((at s).shared name) s }
    from-grows m (q.derived query) = grown-over F (lay-grows query m)
    from-grows m (q.crossed x z) = turn (from-grows m x) (from-grows m z)
    from-grows m (q.joined x z p) = turn (from-grows m x) (from-grows m z)
    from-grows m (q.left_joined x z n p) = record {
      at = λ s.
          let r = y.outer_box known at x n p m (y.lay_operand known at z m) (y.lay_operand known at x m s) in
          further-trans (two-grow (operand-grows x m) (operand-grows z m) s) (ranged r.top r.boxes);
    }

    pub froms-grow : (m : Map) (xs : Froms) → Grows (y.lay_froms known at m xs)
    froms-grow m q.no_from = stays
    froms-grow m (q.one_from x xs) = turn (from-grows m x) (froms-grow m xs)

    pub on-grows : (m : Map) (x : From) (os : List OwnedQuant) → Grows (y.on_subs known at m x os)
    on-grows m (q.named name) os = stays
    on-grows m (q.derived query) os = stays
    on-grows m (q.crossed x z) os = turn (on-grows m x os) (on-grows m z (w.past known x os))
    on-grows m (q.joined x z p) os = turn (on-grows m x os) (turn (on-grows m z (w.past known x os)) (test-grow m (w.frame known x os ++ w.frame known z (w.past known x os)) p))
    on-grows m (q.left_joined x z n p) os = stays

    pub all-on-grow : (m : Map) (xs : Froms) (os : List OwnedQuant) → Grows (y.all_on_subs known at m xs os)
    all-on-grow m q.no_from os = stays
    all-on-grow m (q.one_from x xs) os = turn (on-grows m x os) (all-on-grow m xs (w.past known x os))

    pub value-grow : (m : Map) (fr : Frame) (x : Value) → Grows (y.value_subs known at m fr x)
    value-grow m fr (q.number n) = stays
    value-grow m fr (q.text x) = stays
    value-grow m fr (q.null type) = stays
    value-grow m fr (q.column scope place) = stays
    value-grow m fr (q.sum x xs) = turn (value-grow m fr x) (addend-grow m fr xs)
    value-grow m fr (q.product x xs) = turn (value-grow m fr x) (multiplier-grow m fr xs)
    value-grow m fr (q.negative x) = value-grow m fr x
    value-grow m fr (q.searched xs last) = turn (arm-grow m fr xs) (value-grow m fr last)
    value-grow m fr (q.simple x xs last) = turn (value-grow m fr x) (turn (choice-grow m fr xs) (value-grow m fr last))
    value-grow m fr (q.coalesce x xs) = turn (value-grow m fr x) (list-grow m fr xs)
    value-grow m fr (q.null_if x y) = turn (value-grow m fr x) (value-grow m fr y)
    value-grow m fr (q.scalar query) = grown-over S (lay-grows query (fr ∷ m))
    value-grow m fr q.count_all = stays
    value-grow m fr (q.aggregate f distinct x) = stays

    pub addend-grow : (m : Map) (fr : Frame) (x : Addends) → Grows (y.addend_subs known at m fr x)
    addend-grow m fr q.no_addend = stays
    addend-grow m fr (q.one_addend op x xs) = turn (value-grow m fr x) (addend-grow m fr xs)

    pub multiplier-grow : (m : Map) (fr : Frame) (x : Multipliers) → Grows (y.multiplier_subs known at m fr x)
    multiplier-grow m fr q.no_multiplier = stays
    multiplier-grow m fr (q.one_multiplier op x xs) = turn (value-grow m fr x) (multiplier-grow m fr xs)

    pub list-grow : (m : Map) (fr : Frame) (x : Values) → Grows (y.list_subs known at m fr x)
    list-grow m fr q.no_value = stays
    list-grow m fr (q.one_value x xs) = turn (value-grow m fr x) (list-grow m fr xs)

    pub arm-grow : (m : Map) (fr : Frame) (x : Arms) → Grows (y.arm_subs known at m fr x)
    arm-grow m fr q.no_arm = stays
    arm-grow m fr (q.one_arm p x xs) = turn (test-grow m fr p) (turn (value-grow m fr x) (arm-grow m fr xs))

    pub choice-grow : (m : Map) (fr : Frame) (x : Choices) → Grows (y.choice_subs known at m fr x)
    choice-grow m fr q.no_choice = stays
    choice-grow m fr (q.one_choice x y xs) = turn (value-grow m fr x) (turn (value-grow m fr y) (choice-grow m fr xs))

    pub test-grow : (m : Map) (fr : Frame) (x : Test) → Grows (y.test_subs known at m fr x)
    test-grow m fr (q.all ps) = tests-grow m fr ps
    test-grow m fr (q.any ps) = tests-grow m fr ps
    test-grow m fr (q.negated p) = test-grow m fr p
    test-grow m fr (q.compare x op y) = turn (value-grow m fr x) (value-grow m fr y)
    test-grow m fr (q.quantified x op each query) = turn (value-grow m fr x) (grown-over (every_or_some each) (lay-grows query (fr ∷ m)))
    test-grow m fr (q.between x y z) = turn (value-grow m fr x) (turn (value-grow m fr y) (value-grow m fr z))
    test-grow m fr (q.among x xs) = turn (value-grow m fr x) (list-grow m fr xs)
    test-grow m fr (q.among_rows x query) = turn (value-grow m fr x) (grown-over E (lay-grows query (fr ∷ m)))
    test-grow m fr (q.like x y) = turn (value-grow m fr x) (value-grow m fr y)
    test-grow m fr (q.is_null x) = value-grow m fr x
    test-grow m fr (q.exists query) = grown-over E (lay-grows query (fr ∷ m))

    pub tests-grow : (m : Map) (fr : Frame) (x : Tests) → Grows (y.tests_subs known at m fr x)
    tests-grow m fr q.no_test = stays
    tests-grow m fr (q.one_test p ps) = turn (test-grow m fr p) (tests-grow m fr ps)
