-- The boxes of a query, made from the lowest up: each new box stands before all that were made.
use Rattle.std.specs.Prelude.{ℕ, suc, Bool, false, List, [], ◌∷◌, ◌++◌, map, length, get_or, if◌then◌else◌}
use Rattle.sql_ast.specs.Names.{same_name}
use Rattle.sql_value.specs.declared.order_key.SqlType.{SqlType}
use Rattle.sql_meaning.specs.ResolvedTrees.{Value, Addends, Multipliers, Values, Arms, Choices, Test, Tests, From, Froms, Query}
use Rattle.sql_meaning.specs.ResolvedTrees as q
use Rattle.qgm_terms.specs.Terms.{Term, Cond}
use Rattle.qgm_core.specs.declared.kinds.QuantKind.{QuantKind}
use Rattle.qgm_core.specs.declared.kinds.QuantKind.TheVariants.{F, E, S}
use Rattle.qgm_core.specs.declared.kinds.BaseTable.{BaseTable}
use Rattle.qgm_core.specs.declared.kinds.BoxKind.{BoxKind}
use Rattle.qgm_core.specs.declared.node.Node.{Node}
use Rattle.qgm_core.specs.declared.owned.OwnedQuant.{OwnedQuant}
use Rattle.qgm_core.specs.declared.kinds.SetOperator as forms
use Rattle.qgm_core.specs.declared.kinds.Role.TheVariants.{Plain}
use Rattle.qgm_core.specs.declared.kinds.BoxKind.TheVariants.{Base, Select, Group, SetOp, OuterJoin}
use Rattle.qgm_translation.specs.Maps.{Frame, Map, ref_term}
use Rattle.qgm_translation.specs.Leaves.{Leaf, Slots, after, every_or_some, list_leaves}
use Rattle.qgm_translation.specs.Terms.{cond, split, terms}
use Rattle.qgm_translation.specs.Shown.{columns_of, common_form, distinct_of, form_of, groups_list, key_frame, key_places, no_slots, refs, rows_list}
use Rattle.qgm_translation.specs.Shown as w
use Rattle.qgm_translation.specs.Sources.{Sources, from_width}
use Rattle.qgm_translation.specs.Typing.{typed_by}

-- a table or a view that was laid, and its box, which all share who name it
pub record SharedBox : Type 0 where
  pub name : List ℕ
  pub box : ℕ

-- the boxes so far, by rank, and the next numbers of a box and of a quantifier; the types of the columns of quantifiers and of boxes, by their numbers; and the tables and views that were laid
pub record Boxes : Type 0 where
  pub made : List Node
  pub box : ℕ
  pub quant : ℕ
  pub rows : List (List SqlType)
  pub types : List (List SqlType)
  pub shared : List SharedBox

-- and the box of what was asked for
pub record Laid : Type 0 where
  pub boxes : Boxes
  pub top : ℕ

-- and the quantifiers, which are no box's yet
pub record Drawn : Type 0 where
  pub boxes : Boxes
  pub quants : List OwnedQuant

-- the box of a table or a view that was laid
abbrev pub box_named : List SharedBox → List ℕ → ℕ
box_named [] name = 0
box_named (x ∷ xs) name = if same_name x.name name then x.box else box_named xs name

-- what names stand for and what types expressions have, after these boxes; known: what the catalog says of names
abbrev pub laying : Sources → Boxes → Sources
laying known s = record known { shared = box_named s.shared; typed = typed_by s.rows }

-- the types of a box's columns, by those of the columns of quantifiers
abbrev pub column_types : List (List SqlType) → BoxKind → List Term → List SqlType
column_types rows (Base table) head = table.types
column_types rows Select head = map (typed_by rows) head
column_types rows (Group keys) head = map (typed_by rows) head
column_types rows (SetOp form types) head = types
column_types rows OuterJoin head = map (typed_by rows) head

-- a plain box, of each row once where true stands
abbrev pub plain_box : ℕ → BoxKind → Bool → List Cond → List Term → List OwnedQuant → Node
plain_box b kind distinct conds head quants = record {
  id = b;
  parts = record { kind = kind; distinct = distinct_of distinct; role = Plain; conds = record { items = conds; spare = 0 }; head = head };
  quants = quants;
}

-- a box on top of all
abbrev pub put : BoxKind → Bool → List Cond → List Term → List OwnedQuant → Boxes → Laid
put kind distinct conds head quants s = record {
  boxes = record s { made = plain_box s.box kind distinct conds head quants ∷ s.made; box = suc s.box; types = s.types ++ (column_types s.rows kind head ∷ []) };
  top = s.box;
}

-- a new quantifier over a box
abbrev pub ranging : ℕ → Boxes → Boxes
ranging b s = record s { quant = suc s.quant; rows = s.rows ++ (get_or s.types b [] ∷ []) }

-- a quantifier over what was just laid
abbrev pub drawn : QuantKind → Laid → Drawn
drawn kind r = record { boxes = ranging r.top r.boxes; quants = record { id = r.boxes.quant; kind = kind; over = r.top } ∷ [] }

abbrev pub Step : Type 0
Step = Boxes → Drawn

abbrev pub none : Step
none s = record { boxes = s; quants = [] }

abbrev pub in_turn : Step → Step → Step
in_turn a b s = record { boxes = (b (a s).boxes).boxes; quants = (a s).quants ++ (b (a s).boxes).quants }

abbrev pub over : QuantKind → (Boxes → Laid) → Step
over kind lay s = drawn kind (lay s)

-- two F quantifiers over what was laid in turn
abbrev pub pair_of : ℕ → ℕ → ℕ → List OwnedQuant
pair_of q a b = record { id = q; kind = F; over = a } ∷ (record { id = suc q; kind = F; over = b } ∷ [])

-- known: what the catalog says of names; at: what names and expressions are after these boxes
module _ (known : Sources) (at : Boxes → Sources) where
  -- a set operation over what was laid in turn
  abbrev pub two_box : forms.SetOperator → ℕ → (Boxes → Laid) → Laid → Laid
  two_box form n b x =
      let y = b x.boxes in
      let s = ranging y.top (ranging x.top y.boxes) in
      put (SetOp form (map (at s).typed (columns_of y.boxes.quant 1 n))) false [] [] (pair_of y.boxes.quant x.top y.top) s

  -- a select over a FROM, whose quantifiers are drawn, and then those of its subqueries
  abbrev pub select_box : Bool → Froms → Test → (Frame → List Leaf) → (Sources → Frame → Slots → List Term) → Map → List OwnedQuant → Drawn → Laid
  select_box distinct from by heads list m fs c =
      let s = w.slots_of (w.all_leaves known from by heads fs) c.quants in
      put Select distinct (w.conds_of (at c.boxes) from by heads m fs s) (list (at c.boxes) (w.frame_all known from fs) s) (fs ++ c.quants) c.boxes

  -- a select over one operand, with all its columns
  abbrev pub flat_box : From → Map → List OwnedQuant → Drawn → Laid
  flat_box x m fs c = select_box false (q.one_from x q.no_from) (q.all q.no_test) (λ fr. []) (λ sources fr s. map ref_term fr) m fs c

  abbrev pub outer_box : From → ℕ → Test → Map → (Boxes → Laid) → Laid → Laid
  outer_box x n on m b l =
      let r = b l.boxes in
      let fr = refs r.boxes.quant 1 (from_width known x) ++ refs (suc r.boxes.quant) 1 n in
      let s = ranging r.top (ranging l.top r.boxes) in
      put OuterJoin false (split (cond (at s) fr m no_slots on)) (map ref_term fr) (pair_of r.boxes.quant l.top r.top) s

  -- the groups of a block whose rows were laid
  abbrev pub group_box : List ℕ → List Leaf → Laid → Laid
  group_box places ls r =
      let g = r.boxes.quant in
      put (Group (length places)) false [] (groups_list places ls g) (drawn F r).quants (drawn F r).boxes

  -- the select over groups, whose quantifier has the number u
  abbrev pub upper_box : Bool → Values → List ℕ → ℕ → Test → Map → ℕ → ℕ → Drawn → Laid
  upper_box distinct list places n having m u groups c =
      let fr = key_frame u places 0 n in
      let ls = w.upper_leaves fr list having in
      let s = w.upper_slots u (suc (length places)) ls c.quants in
      put Select distinct (split (cond (at c.boxes) fr m (after (list_leaves fr list) s) having)) (terms (at c.boxes) fr m s list) (record { id = u; kind = F; over = groups } ∷ c.quants) c.boxes

  abbrev mutual
    pub lay : Query → Map → Boxes → Laid
    lay (q.block distinct list from by) m s =
        let f = lay_froms m from s in
        let fr = w.frame_all known from f.quants in
        select_box distinct from by (λ fr. list_leaves fr list) (λ sources fr s. terms sources fr m s list) m f.quants (in_turn (list_subs m fr list) (in_turn (all_on_subs m from f.quants) (test_subs m fr by)) f.boxes)
    lay (q.grouped distinct list from by places n having) m s =
        let f = lay_froms m from s in
        let ls = w.upper_leaves [] list having in
        let rows = select_box false from by (λ fr. []) (λ sources. rows_list sources (key_places places) ls) m f.quants (in_turn (all_on_subs m from f.quants) (test_subs m (w.frame_all known from f.quants) by) f.boxes) in
        let groups = group_box (key_places places) ls rows in
        let up = key_frame groups.boxes.quant (key_places places) 0 n in
        upper_box distinct list (key_places places) n having m groups.boxes.quant groups.top (in_turn (list_subs m up list) (test_subs m up having) (drawn F groups).boxes)
    lay (q.combine x op all n y) m s = two_box (form_of op all) n (lay y m) (lay x m s)
    lay (q.intersect x all n y) m s = two_box (common_form all) n (lay y m) (lay x m s)

    -- the box of an operand
    pub lay_operand : From → Map → Boxes → Laid
    lay_operand (q.named name) m s = record { boxes = s; top = (at s).shared name }
    lay_operand (q.derived query) m s = lay query m s
    lay_operand (q.crossed x y) m s =
        let f = in_turn (lay_from m x) (lay_from m y) s in
        flat_box (q.crossed x y) m f.quants (in_turn (on_subs m x f.quants) (on_subs m y (w.past known x f.quants)) f.boxes)
    lay_operand (q.joined x y p) m s =
        let f = in_turn (lay_from m x) (lay_from m y) s in
        flat_box (q.joined x y p) m f.quants (in_turn (on_subs m x f.quants) (in_turn (on_subs m y (w.past known x f.quants))
        (test_subs m (w.frame known x f.quants ++ w.frame known y (w.past known x f.quants)) p)) f.boxes)
    lay_operand (q.left_joined x y n p) m s = outer_box x n p m (lay_operand y m) (lay_operand x m s)

    -- the quantifiers of an operand; cross and inner joins are flattened
    pub lay_from : Map → From → Step
    lay_from m (q.named name) = over F (λ s. record { boxes = s; top = (at s).shared name })
    lay_from m (q.derived query) = over F (lay query m)
    lay_from m (q.crossed x y) = in_turn (lay_from m x) (lay_from m y)
    lay_from m (q.joined x y p) = in_turn (lay_from m x) (lay_from m y)
    lay_from m (q.left_joined x y n p) = over F (λ s. outer_box x n p m (lay_operand y m) (lay_operand x m s))

    pub lay_froms : Map → Froms → Step
    lay_froms m q.no_from = none
    lay_froms m (q.one_from x xs) = in_turn (lay_from m x) (lay_froms m xs)

    -- the subqueries of the ON conditions that are flattened
    pub on_subs : Map → From → List OwnedQuant → Step
    on_subs m (q.named name) os = none
    on_subs m (q.derived query) os = none
    on_subs m (q.crossed x y) os = in_turn (on_subs m x os) (on_subs m y (w.past known x os))
    on_subs m (q.joined x y p) os =
        in_turn (on_subs m x os) (in_turn (on_subs m y (w.past known x os)) (test_subs m (w.frame known x os ++ w.frame known y (w.past known x os)) p))
    on_subs m (q.left_joined x y n p) os = none

    pub all_on_subs : Map → Froms → List OwnedQuant → Step
    all_on_subs m q.no_from os = none
    all_on_subs m (q.one_from x xs) os = in_turn (on_subs m x os) (all_on_subs m xs (w.past known x os))

    -- the subqueries of a block, in the order of the text
    pub value_subs : Map → Frame → Value → Step
    value_subs m fr (q.number n) = none
    value_subs m fr (q.text x) = none
    value_subs m fr (q.null type) = none
    value_subs m fr (q.column scope place) = none
    value_subs m fr (q.sum x xs) = in_turn (value_subs m fr x) (addend_subs m fr xs)
    value_subs m fr (q.product x xs) = in_turn (value_subs m fr x) (multiplier_subs m fr xs)
    value_subs m fr (q.negative x) = value_subs m fr x
    value_subs m fr (q.searched xs last) = in_turn (arm_subs m fr xs) (value_subs m fr last)
    value_subs m fr (q.simple x xs last) = in_turn (value_subs m fr x) (in_turn (choice_subs m fr xs) (value_subs m fr last))
    value_subs m fr (q.coalesce x xs) = in_turn (value_subs m fr x) (list_subs m fr xs)
    value_subs m fr (q.null_if x y) = in_turn (value_subs m fr x) (value_subs m fr y)
    value_subs m fr (q.scalar query) = over S (lay query (fr ∷ m))
    value_subs m fr q.count_all = none
    value_subs m fr (q.aggregate f distinct x) = none

    pub addend_subs : Map → Frame → Addends → Step
    addend_subs m fr q.no_addend = none
    addend_subs m fr (q.one_addend op x xs) = in_turn (value_subs m fr x) (addend_subs m fr xs)

    pub multiplier_subs : Map → Frame → Multipliers → Step
    multiplier_subs m fr q.no_multiplier = none
    multiplier_subs m fr (q.one_multiplier op x xs) = in_turn (value_subs m fr x) (multiplier_subs m fr xs)

    pub list_subs : Map → Frame → Values → Step
    list_subs m fr q.no_value = none
    list_subs m fr (q.one_value x xs) = in_turn (value_subs m fr x) (list_subs m fr xs)

    pub arm_subs : Map → Frame → Arms → Step
    arm_subs m fr q.no_arm = none
    arm_subs m fr (q.one_arm p x xs) = in_turn (test_subs m fr p) (in_turn (value_subs m fr x) (arm_subs m fr xs))

    pub choice_subs : Map → Frame → Choices → Step
    choice_subs m fr q.no_choice = none
    choice_subs m fr (q.one_choice x y xs) = in_turn (value_subs m fr x) (in_turn (value_subs m fr y) (choice_subs m fr xs))

    pub test_subs : Map → Frame → Test → Step
    test_subs m fr (q.all ps) = tests_subs m fr ps
    test_subs m fr (q.any ps) = tests_subs m fr ps
    test_subs m fr (q.negated p) = test_subs m fr p
    test_subs m fr (q.compare x op y) = in_turn (value_subs m fr x) (value_subs m fr y)
    test_subs m fr (q.quantified x op each query) = in_turn (value_subs m fr x) (over (every_or_some each) (lay query (fr ∷ m)))
    test_subs m fr (q.between x y z) = in_turn (value_subs m fr x) (in_turn (value_subs m fr y) (value_subs m fr z))
    test_subs m fr (q.among x xs) = in_turn (value_subs m fr x) (list_subs m fr xs)
    test_subs m fr (q.among_rows x query) = in_turn (value_subs m fr x) (over E (lay query (fr ∷ m)))
    test_subs m fr (q.like x y) = in_turn (value_subs m fr x) (value_subs m fr y)
    test_subs m fr (q.is_null x) = value_subs m fr x
    test_subs m fr (q.exists query) = over E (lay query (fr ∷ m))

    pub tests_subs : Map → Frame → Tests → Step
    tests_subs m fr q.no_test = none
    tests_subs m fr (q.one_test p ps) = in_turn (test_subs m fr p) (tests_subs m fr ps)

-- as the program lays them, at what it knows after the boxes so far
abbrev pub lay_by : Sources → Query → Map → Boxes → Laid
lay_by known query m s = lay known (laying known) query m s

-- the box of a table, on top of all
abbrev pub lay_table : BaseTable → Boxes → Laid
lay_table table s = put (Base table) false [] [] [] s
