-- A box shows a query, or what a query has within: an operand of a FROM, or the rows and the groups of a grouped block (Pirahesh, Hellerstein and Hasan 1992, 2).
use Rattle.std.specs.Prelude.{◌≡◌, ℕ, zero, suc, ◌+◌, ◌==◌, ◌&&◌, not, nat_eq, if◌then◌else◌, Bool, true, false, List, [], ◌∷◌, ◌++◌, map, get_or, length, Option, Some, None, ⊤, pos}
use Rattle.std.specs.List.{list_all}
use Rattle.sql_ast.specs.declared.word.SetFunction.{SetFunction}
use Rattle.sql_ast.specs.declared.word.SetFunction.TheVariants as function
use Rattle.sql_ast.specs.declared.word.SetOperator.{SetOperator}
use Rattle.sql_ast.specs.declared.word.SetOperator.TheVariants as operator
use Rattle.sql_meaning.specs.ResolvedTrees.{Value, Values, Test, From, Froms, Query}
use Rattle.sql_meaning.specs.ResolvedTrees as q
use Rattle.qgm_terms.specs.Terms.{Term, Cond, Aggregate, Taken}
use Rattle.qgm_terms.specs.Terms as t
use Rattle.qgm_core.specs.Kinds.{is_F}
use Rattle.qgm_core.specs.declared.node.Node.{Node}
use Rattle.qgm_core.specs.declared.owned.OwnedQuant.{OwnedQuant}
use Rattle.qgm_core.specs.declared.kinds.BoxKind.TheVariants.{Base, Select, Group, SetOp, OuterJoin}
use Rattle.qgm_core.specs.declared.kinds.Distinct.{Distinct}
use Rattle.qgm_core.specs.declared.kinds.Distinct.TheVariants.{Enforce, Preserve}
use Rattle.qgm_core.specs.declared.kinds.Role.TheVariants.{Plain}
use Rattle.qgm_core.specs.declared.kinds.QuantKind.TheVariants.{F}
use Rattle.qgm_core.specs.declared.kinds.SetOperator as forms
use Rattle.qgm_core.specs.declared.kinds.SetOperator.TheVariants as form
use Rattle.qgm_translation.specs.Leaves.{Leaf, Slots, after, count, fold, leaves, list_leaves, rest_of, sub, test_leaves}
use Rattle.qgm_translation.specs.Maps.{Frame, Map, Ref, column, fresh, none_counted, nothing, ref_term}
use Rattle.qgm_translation.specs.Sources.{Sources, froms_width, from_width, width}
use Rattle.qgm_translation.specs.Terms.{cond, split, term, terms}

-- ---- quantifiers

abbrev pub first_id : List OwnedQuant → ℕ
first_id [] = 0
first_id (o ∷ os) = o.id

-- so many columns of a quantifier, from this one
abbrev pub refs : ℕ → ℕ → ℕ → Frame
refs q k zero = []
refs q k (suc n) = column q k ∷ refs q (suc k) n

abbrev pub columns_of : ℕ → ℕ → ℕ → List Term
columns_of q k n = map ref_term (refs q k n)

-- no two have one number
abbrev pub distinct_ids : List OwnedQuant → Bool
distinct_ids [] = true
distinct_ids (o ∷ os) = list_all (λ p. not (o.id == p.id)) os && distinct_ids os

-- numbers that stand apart from each other and from those of the map
abbrev pub Numbered : Map → List OwnedQuant → Type 0
Numbered m os = (distinct_ids os ≡ true) × (list_all (λ o. fresh o.id m) os ≡ true)

-- how many of these quantifiers range over a box, and how many of the boxes' quantifiers
abbrev pub over_in : ℕ → List OwnedQuant → ℕ
over_in j [] = 0
over_in j (o ∷ os) = (if o.over == j then 1 else 0) + over_in j os

abbrev pub uses : ℕ → List Node → ℕ
uses j [] = 0
uses j (n ∷ ns) = over_in j n.quants + uses j ns

-- ---- aggregates

-- an aggregate of the text as one of a box
abbrev pub aggregate : SetFunction → Aggregate
aggregate function.Count = t.count
aggregate function.Sum = t.sum
aggregate function.Avg = t.avg
aggregate function.Min = t.least
aggregate function.Max = t.greatest

-- with DISTINCT where true stands
abbrev pub taken : Bool → Taken
taken true = t.each_once
taken false = t.all_of

-- where no group is, which no valid query has
abbrev pub ungrouped : SetFunction → Ref
ungrouped function.Count = none_counted
ungrouped function.Sum = nothing
ungrouped function.Avg = nothing
ungrouped function.Min = nothing
ungrouped function.Max = nothing

abbrev pub ungrouped_cells : List Leaf → List Ref
ungrouped_cells [] = []
ungrouped_cells (sub fr kind query ∷ ls) = ungrouped_cells ls
ungrouped_cells (fold f distinct x ∷ ls) = ungrouped f ∷ ungrouped_cells ls
ungrouped_cells (count ∷ ls) = none_counted ∷ ungrouped_cells ls

-- the columns of a group box from the j-th on, in the order of the text
abbrev pub fold_refs : ℕ → ℕ → List Leaf → List Ref
fold_refs u j [] = []
fold_refs u j (sub fr kind query ∷ ls) = fold_refs u j ls
fold_refs u j (fold f distinct x ∷ ls) = column u j ∷ fold_refs u (suc j) ls
fold_refs u j (count ∷ ls) = column u j ∷ fold_refs u (suc j) ls

-- the aggregates of a group box, whose arguments stand from column j on
abbrev pub fold_terms : ℕ → ℕ → List Leaf → List Term
fold_terms q j [] = []
fold_terms q j (sub fr kind query ∷ ls) = fold_terms q j ls
fold_terms q j (fold f distinct x ∷ ls) = t.fold (aggregate f) (taken distinct) (t.col q j) ∷ fold_terms q (suc j) ls
fold_terms q j (count ∷ ls) = t.count_all ∷ fold_terms q j ls

abbrev pub no_slots : Slots
no_slots = record { quants = []; cells = [] }

-- the arguments, each of which sees its row alone
abbrev pub argument_terms : Sources → Frame → List Leaf → List Term
argument_terms sources fr [] = []
argument_terms sources fr (sub f kind query ∷ ls) = argument_terms sources fr ls
argument_terms sources fr (fold f distinct x ∷ ls) = term sources fr [] no_slots x ∷ argument_terms sources fr ls
argument_terms sources fr (count ∷ ls) = argument_terms sources fr ls

-- no subquery and no aggregate stands in an argument
abbrev pub PlainArguments : Frame → List Leaf → Type 0
PlainArguments fr [] = ⊤
PlainArguments fr (sub f kind query ∷ ls) = PlainArguments fr ls
PlainArguments fr (fold f distinct x ∷ ls) = (leaves fr x ≡ []) × PlainArguments fr ls
PlainArguments fr (count ∷ ls) = PlainArguments fr ls

-- ---- keys

abbrev pub key_places : Option (List ℕ) → List ℕ
key_places None = []
key_places (Some places) = places

-- GROUP BY names a column, where it is written
abbrev pub HasKey : Option (List ℕ) → Type 0
HasKey None = ⊤
HasKey (Some []) = ⊥
HasKey (Some (place ∷ places)) = ⊤

-- the place of a grouping column among the keys, from the k-th on; a column that is a key twice means the first
abbrev pub key_ref : ℕ → ℕ → List ℕ → ℕ → Ref
key_ref u k [] i = nothing
key_ref u k (place ∷ places) i = if nat_eq i place then column u k else key_ref u (suc k) places i

-- n columns of a FROM from the i-th on, of which the grouping ones are seen in the keys
abbrev pub key_frame : ℕ → List ℕ → ℕ → ℕ → Frame
key_frame u places i zero = []
key_frame u places i (suc n) = key_ref u 1 places i ∷ key_frame u places (i + 1) n

-- these, or this one where there are none
abbrev pub padded : {X : Type 0} → X → List X → List X
padded x [] = x ∷ []
padded x (y ∷ ys) = y ∷ ys

-- ---- set operations

-- UNION and EXCEPT, with ALL where true stands; and INTERSECT
abbrev pub form_of : SetOperator → Bool → forms.SetOperator
form_of operator.Union true = form.UnionAll
form_of operator.Union false = form.Union
form_of operator.Except true = form.ExceptAll
form_of operator.Except false = form.Except

abbrev pub common_form : Bool → forms.SetOperator
common_form true = form.IntersectAll
common_form false = form.Intersect

-- ---- what a FROM is in the quantifiers of a box; cross and inner joins are flattened

module _ (sources : Sources) where
  -- the quantifiers after those of an operand
  abbrev pub past : From → List OwnedQuant → List OwnedQuant
  past (q.named name) os = rest_of os
  past (q.derived query) os = rest_of os
  past (q.crossed x y) os = past y (past x os)
  past (q.joined x y p) os = past y (past x os)
  past (q.left_joined x y n p) os = rest_of os

  abbrev pub past_all : Froms → List OwnedQuant → List OwnedQuant
  past_all q.no_from os = os
  past_all (q.one_from x xs) os = past_all xs (past x os)

  -- where the columns of an operand are seen
  abbrev pub frame : From → List OwnedQuant → Frame
  frame (q.named name) os = refs (first_id os) 1 (sources.columns name)
  frame (q.derived query) os = refs (first_id os) 1 (width query)
  frame (q.crossed x y) os = frame x os ++ frame y (past x os)
  frame (q.joined x y p) os = frame x os ++ frame y (past x os)
  frame (q.left_joined x y n p) os = refs (first_id os) 1 (from_width sources x + n)

  abbrev pub frame_all : Froms → List OwnedQuant → Frame
  frame_all q.no_from os = []
  frame_all (q.one_from x xs) os = frame x os ++ frame_all xs (past x os)

  -- the leaves of the ON conditions that are flattened, each of which sees its two operands
  abbrev pub on_leaves : From → List OwnedQuant → List Leaf
  on_leaves (q.named name) os = []
  on_leaves (q.derived query) os = []
  on_leaves (q.crossed x y) os = on_leaves x os ++ on_leaves y (past x os)
  on_leaves (q.joined x y p) os = on_leaves x os ++ (on_leaves y (past x os) ++ test_leaves (frame x os ++ frame y (past x os)) p)
  on_leaves (q.left_joined x y n p) os = []

  abbrev pub all_on_leaves : Froms → List OwnedQuant → List Leaf
  all_on_leaves q.no_from os = []
  all_on_leaves (q.one_from x xs) os = on_leaves x os ++ all_on_leaves xs (past x os)

  -- the ON conditions that are flattened
  abbrev pub ons : Map → From → List OwnedQuant → Slots → List Cond
  ons m (q.named name) os s = []
  ons m (q.derived query) os s = []
  ons m (q.crossed x y) os s = ons m x os s ++ ons m y (past x os) (after (on_leaves x os) s)
  ons m (q.joined x y p) os s =
      ons m x os s ++ (ons m y (past x os) (after (on_leaves x os) s)
      ++ split (cond sources (frame x os ++ frame y (past x os)) m (after (on_leaves y (past x os)) (after (on_leaves x os) s)) p))
  ons m (q.left_joined x y n p) os s = []

  abbrev pub all_ons : Map → Froms → List OwnedQuant → Slots → List Cond
  all_ons m q.no_from os s = []
  all_ons m (q.one_from x xs) os s = ons m x os s ++ all_ons m xs (past x os) (after (on_leaves x os) s)

  -- the leaves of a select over a FROM: those of its list, of the ON conditions, and of WHERE
  abbrev pub all_leaves : Froms → Test → (Frame → List Leaf) → List OwnedQuant → List Leaf
  all_leaves from by heads os = heads (frame_all from os) ++ (all_on_leaves from os ++ test_leaves (frame_all from os) by)

  -- its conditions: those of ON before WHERE
  abbrev pub conds_of : Froms → Test → (Frame → List Leaf) → Map → List OwnedQuant → Slots → List Cond
  conds_of from by heads m os s =
      all_ons m from os (after (heads (frame_all from os)) s)
      ++ split (cond sources (frame_all from os) m (after (all_on_leaves from os) (after (heads (frame_all from os)) s)) by)

-- these quantifiers for subqueries, and no group
abbrev pub slots_of : List Leaf → List OwnedQuant → Slots
slots_of ls os = record { quants = map (λ o. o.id) os; cells = ungrouped_cells ls }

-- of the upper select of a grouped block
abbrev pub upper_leaves : Frame → Values → Test → List Leaf
upper_leaves fr list having = list_leaves fr list ++ test_leaves fr having

-- these quantifiers for subqueries, and the columns of the group from the j-th on
abbrev pub upper_slots : ℕ → ℕ → List Leaf → List OwnedQuant → Slots
upper_slots u j ls os = record { quants = map (λ o. o.id) os; cells = fold_refs u j ls }

-- the grouping columns, then the arguments of the aggregates, the number 1 where there are neither
abbrev pub rows_list : Sources → List ℕ → List Leaf → Frame → Slots → List Term
rows_list sources places ls fr s = padded (t.int (pos 1)) (map (λ place. ref_term (get_or fr place nothing)) places ++ argument_terms sources fr ls)

-- the keys, then the aggregates
abbrev pub groups_list : List ℕ → List Leaf → ℕ → List Term
groups_list places ls q = columns_of q 1 (length places) ++ fold_terms q (suc (length places)) ls

-- ---- what a box shows

pub data Thing : Type 0 where
  of_query : Query → Thing
  of_operand : From → Thing
  -- the rows of a block: FROM, WHERE, the places of its keys, and the leaves of its list and HAVING
  of_rows : Froms → Test → List ℕ → List Leaf → Thing
  -- its groups
  of_groups : Froms → Test → List ℕ → List Leaf → Thing

abbrev pub distinct_of : Bool → Distinct
distinct_of true = Enforce
distinct_of false = Preserve

-- a plain box, whose quantifiers are numbered apart
pub record IsPlain (distinct : Distinct) (m : Map) (n : Node) : Type 0 where
  pub distinctness : n.parts.distinct ≡ distinct
  pub role : n.parts.role ≡ Plain
  pub numbered : Numbered m n.quants

-- without condition and head
abbrev pub IsBare : Node → Type 0
IsBare n = (n.parts.conds.items ≡ []) × (n.parts.head ≡ [])

-- two F quantifiers, and no others
abbrev pub Two : List OwnedQuant → (OwnedQuant → OwnedQuant → Type 0) → Type 0
Two [] P = ⊥
Two (p ∷ []) P = ⊥
Two (p ∷ r ∷ []) P = (p.kind ≡ F) × (r.kind ≡ F) × P p r
Two (p ∷ r ∷ o ∷ os) P = ⊥

-- one F quantifier, and no other
abbrev pub One : List OwnedQuant → (OwnedQuant → Type 0) → Type 0
One [] P = ⊥
One (p ∷ []) P = (p.kind ≡ F) × P p
One (p ∷ r ∷ os) P = ⊥

-- Below: a box of this number shows a thing through a map
module _ (sources : Sources) (Below : ℕ → Thing → Map → Type 0) where
  -- the first of these is an F quantifier over an operand
  abbrev pub ShowsOne : From → Map → List OwnedQuant → Type 0
  ShowsOne x m [] = ⊥
  ShowsOne x m (o ∷ os) = (o.kind ≡ F) × Below o.over (of_operand x) m

  -- the first of these are the F quantifiers of an operand, in the order of the text
  abbrev pub ShowsFrom : From → Map → List OwnedQuant → Type 0
  ShowsFrom (q.named name) m os = ShowsOne (q.named name) m os
  ShowsFrom (q.derived query) m os = ShowsOne (q.derived query) m os
  ShowsFrom (q.crossed x y) m os = ShowsFrom x m os × ShowsFrom y m (past sources x os)
  ShowsFrom (q.joined x y p) m os = ShowsFrom x m os × ShowsFrom y m (past sources x os)
  ShowsFrom (q.left_joined x y n p) m os = ShowsOne (q.left_joined x y n p) m os

  abbrev pub ShowsFroms : Froms → Map → List OwnedQuant → Type 0
  ShowsFroms q.no_from m os = ⊤
  ShowsFroms (q.one_from x xs) m os = ShowsFrom x m os × ShowsFroms xs m (past sources x os)

  -- these quantifiers, and no others, range over the subqueries among the leaves, in their order
  abbrev pub ShowsSubs : Map → List Leaf → List OwnedQuant → Type 0
  ShowsSubs m [] os = os ≡ []
  ShowsSubs m (sub fr kind query ∷ ls) [] = ⊥
  ShowsSubs m (sub fr kind x ∷ ls) (o ∷ os) = (o.kind ≡ kind) × (is_F kind ≡ false) × (fresh o.id (fr ∷ m) ≡ true) × Below o.over (of_query x) (fr ∷ m) × ShowsSubs m ls os
  ShowsSubs m (fold f distinct x ∷ ls) os = ShowsSubs m ls os
  ShowsSubs m (count ∷ ls) os = ShowsSubs m ls os

  -- a select over a FROM: its F quantifiers, those of subqueries, the conditions, and a head whose leaves stand first
  pub record ShowsSelect (distinct : Distinct) (from : Froms) (by : Test) (heads : Frame → List Leaf) (list : Frame → Slots → List Term) (m : Map) (n : Node) : Type 0 where
    pub kind : n.parts.kind ≡ Select
    pub plain : IsPlain distinct m n
    pub froms : ShowsFroms from m n.quants
    pub subs : ShowsSubs m (all_leaves sources from by heads n.quants) (past_all sources from n.quants)
    pub conds : n.parts.conds.items ≡ conds_of sources from by heads m n.quants (slots_of (all_leaves sources from by heads n.quants) (past_all sources from n.quants))
    pub head : n.parts.head ≡ list (frame_all sources from n.quants) (slots_of (all_leaves sources from by heads n.quants) (past_all sources from n.quants))

  -- over an F quantifier u, whose box are the groups, HAVING and the list; fr: where the columns of the FROM are seen in u
  pub record ShowsUpper (list : Values) (from : Froms) (by : Test) (places : List ℕ) (having : Test) (m : Map) (b : Node) (u : OwnedQuant) (os : List OwnedQuant) (fr : Frame) : Type 0 where
    pub kind : u.kind ≡ F
    pub groups : Below u.over (of_groups from by places (upper_leaves fr list having)) m
    pub subs : ShowsSubs m (upper_leaves fr list having) os
    pub conds :
        b.parts.conds.items
        ≡ split (cond sources fr m (after (list_leaves fr list) (upper_slots u.id (suc (length places)) (upper_leaves fr list having) os)) having)
    pub head : b.parts.head ≡ terms sources fr m (upper_slots u.id (suc (length places)) (upper_leaves fr list having) os) list

  abbrev pub Upper : Values → Froms → Test → List ℕ → ℕ → Test → Map → Node → List OwnedQuant → Type 0
  Upper list from by places n having m b [] = ⊥
  Upper list from by places n having m b (u ∷ os) = ShowsUpper list from by places having m b u os (key_frame u.id places 0 n)

  -- the upper select of a grouped block
  pub record ShowsGrouped (distinct : Bool) (list : Values) (from : Froms) (by : Test) (places : Option (List ℕ)) (n : ℕ) (having : Test) (m : Map) (b : Node) : Type 0 where
    pub kind : b.parts.kind ≡ Select
    pub plain : IsPlain (distinct_of distinct) m b
    pub key : HasKey places
    pub columns : froms_width sources from ≡ n
    pub upper : Upper list from by (key_places places) n having m b b.quants

  -- a set operation, whose columns have the types of the left quantifier's
  pub record ShowsPair (form : forms.SetOperator) (n : ℕ) (x y : Query) (m : Map) (b : Node) : Type 0 where
    pub kind : b.parts.kind ≡ SetOp form (map sources.typed (columns_of (first_id b.quants) 1 n))
    pub plain : IsPlain Preserve m b
    pub bare : IsBare b
    pub left : width x ≡ n
    pub right : width y ≡ n
    pub quants : Two b.quants (λ p r. Below p.over (of_query x) m × Below r.over (of_query y) m)

  abbrev pub ShowsQuery : Query → Map → Node → Type 0
  ShowsQuery (q.block distinct list from by) m b = ShowsSelect (distinct_of distinct) from by (λ fr. list_leaves fr list) (λ fr s. terms sources fr m s list) m b
  ShowsQuery (q.grouped distinct list from by places n having) m b = ShowsGrouped distinct list from by places n having m b
  ShowsQuery (q.combine x op all n y) m b = ShowsPair (form_of op all) n x y m b
  ShowsQuery (q.intersect x all n y) m b = ShowsPair (common_form all) n x y m b

  -- a stored table
  pub record ShowsBase (name : List ℕ) (b : Node) : Type 0 where
    pub kind : b.parts.kind ≡ Base (sources.stored name)
    pub named : (sources.stored name).name ≡ name
    pub types : length (sources.stored name).types ≡ sources.columns name
    pub plain : IsPlain Preserve [] b
    pub bare : IsBare b
    pub quants : b.quants ≡ []

  -- a table is its base box, a view its body
  abbrev pub ShowsSource : List ℕ → Option Query → Node → Type 0
  ShowsSource name None b = ShowsBase name b
  ShowsSource name (Some view) b = ShowsQuery view [] b

  -- an inner or cross join that isn't flattened: a select whose head is all columns
  abbrev pub ShowsFlat : From → Map → Node → Type 0
  ShowsFlat x m b = ShowsSelect Preserve (q.one_from x q.no_from) (q.all q.no_test) (λ fr. []) (λ fr s. map ref_term fr) m b

  -- l, r: the quantifiers of the two operands; no subquery stands in the ON; the head is all columns, left then right
  pub record ShowsSides (x y : From) (n : ℕ) (p : Test) (m : Map) (b : Node) (l r : OwnedQuant) : Type 0 where
    pub left : Below l.over (of_operand x) m
    pub right : Below r.over (of_operand y) m
    pub on : test_leaves (refs l.id 1 (from_width sources x) ++ refs r.id 1 n) p ≡ []
    pub conds : b.parts.conds.items ≡ split (cond sources (refs l.id 1 (from_width sources x) ++ refs r.id 1 n) m no_slots p)
    pub head : b.parts.head ≡ map ref_term (refs l.id 1 (from_width sources x) ++ refs r.id 1 n)

  -- a LEFT JOIN
  pub record ShowsOuter (x y : From) (n : ℕ) (p : Test) (m : Map) (b : Node) : Type 0 where
    pub kind : b.parts.kind ≡ OuterJoin
    pub plain : IsPlain Preserve m b
    pub columns : from_width sources y ≡ n
    pub quants : Two b.quants (λ l r. ShowsSides x y n p m b l r)

  abbrev pub ShowsOperand : From → Map → Node → Type 0
  ShowsOperand (q.named name) m b = (b.id ≡ sources.shared name) × ShowsSource name (sources.body name) b
  ShowsOperand (q.derived query) m b = ShowsQuery query m b
  ShowsOperand (q.crossed x y) m b = ShowsFlat (q.crossed x y) m b
  ShowsOperand (q.joined x y p) m b = ShowsFlat (q.joined x y p) m b
  ShowsOperand (q.left_joined x y n p) m b = ShowsOuter x y n p m b

  -- the lower select of a grouped block: FROM and WHERE
  pub record ShowsRows (from : Froms) (by : Test) (places : List ℕ) (ls : List Leaf) (m : Map) (b : Node) : Type 0 where
    pub arguments : PlainArguments (frame_all sources from b.quants) ls
    pub rows : ShowsSelect Preserve from by (λ fr. []) (rows_list sources places ls) m b

  -- its group box
  pub record ShowsGroups (from : Froms) (by : Test) (places : List ℕ) (ls : List Leaf) (m : Map) (b : Node) : Type 0 where
    pub kind : b.parts.kind ≡ Group (length places)
    pub plain : IsPlain Preserve m b
    pub conds : b.parts.conds.items ≡ []
    pub quants : One b.quants (λ p. Below p.over (of_rows from by places ls) m × (b.parts.head ≡ groups_list places ls p.id))

  abbrev pub ShowsBox : Thing → Map → Node → Type 0
  ShowsBox (of_query x) m b = ShowsQuery x m b
  ShowsBox (of_operand x) m b = ShowsOperand x m b
  ShowsBox (of_rows from by places ls) m b = ShowsRows from by places ls m b
  ShowsBox (of_groups from by places ls) m b = ShowsGroups from by places ls m b

abbrev pub Either : Bool → Type 0 → Type 0 → Type 0
Either true X Y = X
Either false X Y = Y

-- the box of this number among these, by rank, shows a thing through a map; what lies below it is shown by boxes behind it
abbrev pub Shows : Sources → List Node → ℕ → Thing → Map → Type 0
Shows sources [] b thing m = ⊥
Shows sources (n ∷ ns) b thing m = Either (n.id == b) (ShowsBox sources (Shows sources ns) thing m n) (Shows sources ns b thing m)
