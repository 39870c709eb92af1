-- What a box of a graph is there for is a thing whose names are known.
use Rattle.std.proofs.Common.{◌≡◌, ◌∙◌, ℕ, List, [], ◌∷◌, ◌++◌, map, Bool, true, Option, Some, None, refl, sym, subst, inl, inr}
use Rattle.sql_value.specs.declared.order_key.SqlType.{SqlType}
use Rattle.sql_meaning.specs.ResolvedTrees.{Addends, Arms, Choices, From, Froms, Multipliers, Query, Test, Tests, Value, Values}
use Rattle.sql_meaning.specs.ResolvedTrees as q
use Rattle.qgm_core.specs.Boxes.{QueryGraph}
use Rattle.qgm_core.specs.Free.{Reaches, itself, through}
use Rattle.list_laws.specs.Lists.{In}
use Rattle.qgm_core.specs.declared.kinds.BaseTable.{BaseTable}
use Rattle.qgm_core.specs.declared.kinds.BoxKind.TheVariants.{Base, Group, OuterJoin, Select, SetOp}
use Rattle.qgm_core.specs.declared.kinds.QuantKind.TheVariants.{E}
use Rattle.qgm_core.specs.declared.kinds.SetOperator.{SetOperator}
use Rattle.qgm_core.specs.declared.kinds.Distinct.{Distinct}
use Rattle.qgm_core.specs.declared.node.Node.{Node}
use Rattle.qgm_core.specs.declared.owned.OwnedQuant.{OwnedQuant}
use Rattle.qgm_terms.specs.Terms.{Term}
use Rattle.qgm_translation.specs.Buildable.{Buildable, FitAddends, FitArms, FitChoices, FitFrom, FitFroms, FitMultipliers, FitTest, FitTests, FitValue, FitValues}
use Rattle.qgm_translation.specs.Leaves as w
use Rattle.qgm_translation.specs.Leaves.{Leaf, Slots}
use Rattle.qgm_translation.specs.Maps.{Frame, Map, ref_term}
use Rattle.qgm_translation.specs.Shown as v
use Rattle.qgm_translation.specs.Shown.{Thing, of_groups, of_operand, of_query, of_rows}
use Rattle.qgm_translation.specs.Sources.{Sources}
use Rattle.qgm_translation.specs.There.{EachForOne, IsFor}

module _ (sources : Sources) (has : List ℕ → Bool) where
  -- boxes can be made for a thing
  abbrev pub FitThing : Thing → Type 0
  FitThing (of_query x) = Buildable sources has x
  FitThing (of_operand x) = FitFrom sources has x
  FitThing (of_rows from by places ls) = FitFroms sources has from × FitTest sources has by
  FitThing (of_groups from by places ls) = FitFroms sources has from × FitTest sources has by

  abbrev FitLeaves : List Leaf → Type 0
  FitLeaves [] = Unit {0}
  FitLeaves (w.sub fr kind x ∷ ls) = Buildable sources has x × FitLeaves ls
  FitLeaves (w.fold f distinct x ∷ ls) = FitLeaves ls
  FitLeaves (w.count ∷ ls) = FitLeaves ls

  both : (xs ys : List Leaf) → FitLeaves xs → FitLeaves ys → FitLeaves (xs ++ ys)
  both [] ys h k = k
  both (w.sub fr kind x ∷ xs) ys h k = (h.0, both xs ys h.1 k)
  both (w.fold f distinct x ∷ xs) ys h k = both xs ys h k
  both (w.count ∷ xs) ys h k = both xs ys h k

  -- the subqueries of what boxes can be made for
  module _ (fr : Frame) where
    mutual
      value-leaves : (x : Value) → FitValue sources has x → FitLeaves (w.leaves fr x)
      value-leaves (q.number n) h = tt
      value-leaves (q.text x) h = tt
      value-leaves (q.null type) h = tt
      value-leaves (q.column scope place) h = tt
      value-leaves (q.sum x xs) h = both (w.leaves fr x) (w.addend_leaves fr xs) (value-leaves x h.0) (addend-leaves xs h.1)
      value-leaves (q.product x xs) h = both (w.leaves fr x) (w.multiplier_leaves fr xs) (value-leaves x h.0) (multiplier-leaves xs h.1)
      value-leaves (q.negative x) h = value-leaves x h
      value-leaves (q.searched xs last) h = both (w.arm_leaves fr xs) (w.leaves fr last) (arm-leaves xs h.0) (value-leaves last h.1)
      value-leaves (q.simple x xs last) h =
          both (w.leaves fr x) (w.choice_leaves fr xs ++ w.leaves fr last) (value-leaves x h.0) (both (w.choice_leaves fr xs) (w.leaves fr last) (choice-leaves xs h.1) (value-leaves last h.2))
      value-leaves (q.coalesce x xs) h = both (w.leaves fr x) (w.list_leaves fr xs) (value-leaves x h.0) (list-leaves xs h.1)
      value-leaves (q.null_if x y) h = both (w.leaves fr x) (w.leaves fr y) (value-leaves x h.0) (value-leaves y h.1)
      value-leaves (q.scalar query) h = (h, tt)
      value-leaves q.count_all h = tt
      value-leaves (q.aggregate f distinct x) h = tt

      addend-leaves : (x : Addends) → FitAddends sources has x → FitLeaves (w.addend_leaves fr x)
      addend-leaves q.no_addend h = tt
      addend-leaves (q.one_addend op x xs) h = both (w.leaves fr x) (w.addend_leaves fr xs) (value-leaves x h.0) (addend-leaves xs h.1)

      multiplier-leaves : (x : Multipliers) → FitMultipliers sources has x → FitLeaves (w.multiplier_leaves fr x)
      multiplier-leaves q.no_multiplier h = tt
      multiplier-leaves (q.one_multiplier op x xs) h = both (w.leaves fr x) (w.multiplier_leaves fr xs) (value-leaves x h.0) (multiplier-leaves xs h.1)

      list-leaves : (x : Values) → FitValues sources has x → FitLeaves (w.list_leaves fr x)
      list-leaves q.no_value h = tt
      list-leaves (q.one_value x xs) h = both (w.leaves fr x) (w.list_leaves fr xs) (value-leaves x h.0) (list-leaves xs h.1)

      arm-leaves : (x : Arms) → FitArms sources has x → FitLeaves (w.arm_leaves fr x)
      arm-leaves q.no_arm h = tt
      arm-leaves (q.one_arm p x xs) h =
          both (w.test_leaves fr p) (w.leaves fr x ++ w.arm_leaves fr xs) (test-leaves p h.0) (both (w.leaves fr x) (w.arm_leaves fr xs) (value-leaves x h.1) (arm-leaves xs h.2))

      choice-leaves : (x : Choices) → FitChoices sources has x → FitLeaves (w.choice_leaves fr x)
      choice-leaves q.no_choice h = tt
      choice-leaves (q.one_choice x y xs) h =
          both (w.leaves fr x) (w.leaves fr y ++ w.choice_leaves fr xs) (value-leaves x h.0) (both (w.leaves fr y) (w.choice_leaves fr xs) (value-leaves y h.1) (choice-leaves xs h.2))

      test-leaves : (p : Test) → FitTest sources has p → FitLeaves (w.test_leaves fr p)
      test-leaves (q.all ps) h = tests-leaves ps h
      test-leaves (q.any ps) h = tests-leaves ps h
      test-leaves (q.negated p) h = test-leaves p h
      test-leaves (q.compare x op y) h = both (w.leaves fr x) (w.leaves fr y) (value-leaves x h.0) (value-leaves y h.1)
      test-leaves (q.quantified x op each query) h = both (w.leaves fr x) (w.sub fr (w.every_or_some each) query ∷ []) (value-leaves x h.0) (h.1, tt)
      test-leaves (q.between x y z) h = both (w.leaves fr x) (w.leaves fr y ++ w.leaves fr z) (value-leaves x h.0) (both (w.leaves fr y) (w.leaves fr z) (value-leaves y h.1) (value-leaves z h.2))
      test-leaves (q.among x xs) h = both (w.leaves fr x) (w.list_leaves fr xs) (value-leaves x h.0) (list-leaves xs h.1)
      test-leaves (q.among_rows x query) h = both (w.leaves fr x) (w.sub fr E query ∷ []) (value-leaves x h.0) (h.1, tt)
      test-leaves (q.like x y) h = both (w.leaves fr x) (w.leaves fr y) (value-leaves x h.0) (value-leaves y h.1)
      test-leaves (q.is_null x) h = value-leaves x h
      test-leaves (q.exists query) h = (h, tt)

      tests-leaves : (ps : Tests) → FitTests sources has ps → FitLeaves (w.tests_leaves fr ps)
      tests-leaves q.no_test h = tt
      tests-leaves (q.one_test p ps) h = both (w.test_leaves fr p) (w.tests_leaves fr ps) (test-leaves p h.0) (tests-leaves ps h.1)

  on-leaves : (x : From) (os : List OwnedQuant) → FitFrom sources has x → FitLeaves (v.on_leaves sources x os)
  on-leaves (q.named name) os h = tt
  on-leaves (q.derived query) os h = tt
  on-leaves (q.crossed x y) os h = both (v.on_leaves sources x os) (v.on_leaves sources y (v.past sources x os)) (on-leaves x os h.0) (on-leaves y (v.past sources x os) h.1)
  on-leaves (q.joined x y p) os h =
      let fr = v.frame sources x os ++ v.frame sources y (v.past sources x os) in
      both (v.on_leaves sources x os) (v.on_leaves sources y (v.past sources x os) ++ w.test_leaves fr p) (on-leaves x os h.0)
      (both (v.on_leaves sources y (v.past sources x os)) (w.test_leaves fr p) (on-leaves y (v.past sources x os) h.1) (test-leaves fr p h.2))
  on-leaves (q.left_joined x y n p) os h = tt

  all-on-leaves : (x : Froms) (os : List OwnedQuant) → FitFroms sources has x → FitLeaves (v.all_on_leaves sources x os)
  all-on-leaves q.no_from os h = tt
  all-on-leaves (q.one_from x xs) os h = both (v.on_leaves sources x os) (v.all_on_leaves sources xs (v.past sources x os)) (on-leaves x os h.0) (all-on-leaves xs (v.past sources x os) h.1)

  -- ---- what the quantifiers of a box range over

  module _ (views : (name : List ℕ) (body : Query) → sources.body name ≡ Some body → Buildable sources has body) (Below : ℕ → Thing → Map → Type 0) where
    -- a quantifier ranges over a box for a thing that boxes can be made for
    abbrev pub Kid : OwnedQuant → Type 0
    Kid o = (thing : Thing) × ((m : Map) × (FitThing thing × Below o.over thing m))

    abbrev pub Kids : List OwnedQuant → Type 0
    Kids [] = Unit {0}
    Kids (o ∷ os) = Kid o × Kids os

    subs-kids : (m : Map) (ls : List Leaf) (os : List OwnedQuant) → FitLeaves ls → v.ShowsSubs sources Below m ls os → Kids os
    subs-kids m [] os f h = subst Kids (sym h) tt
    subs-kids m (w.sub fr kind x ∷ ls) [] f h = absurd h
    subs-kids m (w.sub fr kind x ∷ ls) (o ∷ os) f h = ((of_query x, (fr ∷ m, (f.0, h.3))), subs-kids m ls os f.1 h.4)
    subs-kids m (w.fold g distinct x ∷ ls) os f h = subs-kids m ls os f h
    subs-kids m (w.count ∷ ls) os f h = subs-kids m ls os f h

    one-kid : (x : From) (m : Map) (os : List OwnedQuant) → FitFrom sources has x → v.ShowsOne sources Below x m os → Kids (w.rest_of os) → Kids os
    one-kid x m [] f h rest = absurd h
    one-kid x m (o ∷ os) f h rest = ((of_operand x, (m, (f, h.1))), rest)

    from-kids : (x : From) (m : Map) (os : List OwnedQuant) → FitFrom sources has x → v.ShowsFrom sources Below x m os → Kids (v.past sources x os) → Kids os
    from-kids (q.named name) m os f h rest = one-kid (q.named name) m os f h rest
    from-kids (q.derived query) m os f h rest = one-kid (q.derived query) m os f h rest
    from-kids (q.crossed x y) m os f h rest = from-kids x m os f.0 h.0 (from-kids y m (v.past sources x os) f.1 h.1 rest)
    from-kids (q.joined x y p) m os f h rest = from-kids x m os f.0 h.0 (from-kids y m (v.past sources x os) f.1 h.1 rest)
    from-kids (q.left_joined x y n p) m os f h rest = one-kid (q.left_joined x y n p) m os f h rest

    froms-kids : (x : Froms) (m : Map) (os : List OwnedQuant) → FitFroms sources has x → v.ShowsFroms sources Below x m os → Kids (v.past_all sources x os) → Kids os
    froms-kids q.no_from m os f h rest = rest
    froms-kids (q.one_from x xs) m os f h rest = from-kids x m os f.0 h.0 (froms-kids xs m (v.past sources x os) f.1 h.1 rest)

    module _ (n : Node) (m : Map) where
      select-kids : (d : Distinct) (from : Froms) (by : Test) (heads : Frame → List Leaf) (list : Frame → Slots → List Term) → FitFroms sources has from → FitTest sources has by → ((fr : Frame) → FitLeaves (heads fr))
          → v.ShowsSelect sources Below d from by heads list m n → Kids n.quants
      select-kids d from by heads list f g k h =
          let fr = v.frame_all sources from n.quants in
          froms-kids from m n.quants f h.froms
          (subs-kids m (v.all_leaves sources from by heads n.quants) (v.past_all sources from n.quants)
          (both (heads fr) (v.all_on_leaves sources from n.quants ++ w.test_leaves fr by) (k fr) (both (v.all_on_leaves sources from n.quants) (w.test_leaves fr by) (all-on-leaves from n.quants f) (test-leaves fr by g))) h.subs)

      upper-kids : (list : Values) (from : Froms) (by : Test) (places : List ℕ) (u : ℕ) (having : Test) (os : List OwnedQuant)
          → FitFroms sources has from → FitTest sources has by → FitValues sources has list → FitTest sources has having → v.Upper sources Below list from by places u having m n os → Kids os
      upper-kids list from by places u having [] f g k i h = absurd h
      upper-kids list from by places u having (o ∷ os) f g k i h =
          let fr = v.key_frame o.id places 0 u in (
            (of_groups from by places (v.upper_leaves fr list having), (m, ((f, g), h.groups))),
            subs-kids m (v.upper_leaves fr list having) os (both (w.list_leaves fr list) (w.test_leaves fr having) (list-leaves fr list k) (test-leaves fr having i)) h.subs,
          )

      pair-kids : (x y : Query) (os : List OwnedQuant) → Buildable sources has x → Buildable sources has y → v.Two os (λ p r. Below p.over (of_query x) m × Below r.over (of_query y) m) → Kids os
      pair-kids x y [] f g h = absurd h
      pair-kids x y (p ∷ []) f g h = absurd h
      pair-kids x y (p ∷ r ∷ []) f g h = ((of_query x, (m, (f, h.2.0))), ((of_query y, (m, (g, h.2.1))), tt))
      pair-kids x y (p ∷ r ∷ o ∷ os) f g h = absurd h

      query-kids : (x : Query) → Buildable sources has x → v.ShowsQuery sources Below x m n → Kids n.quants
      query-kids (q.block distinct list from by) f h =
          select-kids (v.distinct_of distinct) from by (λ fr. w.list_leaves fr list) _ f.0 f.2 (λ fr. list-leaves fr list f.1) h
      query-kids (q.grouped distinct list from by places u having) f h = upper-kids list from by (v.key_places places) u having n.quants f.0 f.2 f.1 f.3 h.upper
      query-kids (q.combine x op all u y) f h = pair-kids x y n.quants f.0 f.1 h.quants
      query-kids (q.intersect x all u y) f h = pair-kids x y n.quants f.0 f.1 h.quants

      flat-kids : (x : From) → FitFrom sources has x → v.ShowsFlat sources Below x m n → Kids n.quants
      flat-kids x f h = select-kids _ (q.one_from x q.no_from) (q.all q.no_test) (λ fr. []) (λ fr s. map ref_term fr) (f, tt) tt (λ fr. tt) h

      outer-kids : (x y : From) (u : ℕ) (on : Test) (os : List OwnedQuant) → FitFrom sources has x → FitFrom sources has y → v.Two os (λ l r. v.ShowsSides sources Below x y u on m n l r) → Kids os
      outer-kids x y u on [] f g h = absurd h
      outer-kids x y u on (p ∷ []) f g h = absurd h
      outer-kids x y u on (p ∷ r ∷ []) f g h = ((of_operand x, (m, (f, h.2.left))), ((of_operand y, (m, (g, h.2.right))), tt))
      outer-kids x y u on (p ∷ r ∷ o ∷ os) f g h = absurd h

      rows-kid : (from : Froms) (by : Test) (places : List ℕ) (ls : List Leaf) (os : List OwnedQuant) → FitFroms sources has from → FitTest sources has by
          → v.One os (λ p. Below p.over (of_rows from by places ls) m × (n.parts.head ≡ v.groups_list places ls p.id)) → Kids os
      rows-kid from by places ls [] f g h = absurd h
      rows-kid from by places ls (p ∷ []) f g h = ((of_rows from by places ls, (m, ((f, g), h.1.0))), tt)
      rows-kid from by places ls (p ∷ r ∷ os) f g h = absurd h

    source-kids : (name : List ℕ) (o : Option Query) (n : Node) → sources.body name ≡ o → v.ShowsSource sources Below name o n → Kids n.quants
    source-kids name None n e h = subst Kids (sym h.quants) tt
    source-kids name (Some body) n e h = query-kids n [] body (views name body e) h

    operand-kids : (x : From) (m : Map) (n : Node) → FitFrom sources has x → v.ShowsOperand sources Below x m n → Kids n.quants
    operand-kids (q.named name) m n f h = source-kids name (sources.body name) n refl h.1
    operand-kids (q.derived query) m n f h = query-kids n m query f h
    operand-kids (q.crossed x y) m n f h = flat-kids n m (q.crossed x y) f h
    operand-kids (q.joined x y p) m n f h = flat-kids n m (q.joined x y p) f h
    operand-kids (q.left_joined x y u p) m n f h = outer-kids n m x y u p n.quants f.0 f.1 h.quants

    thing-kids : (thing : Thing) (m : Map) (n : Node) → FitThing thing → v.ShowsBox sources Below thing m n → Kids n.quants
    thing-kids (of_query x) m n f h = query-kids n m x f h
    thing-kids (of_operand x) m n f h = operand-kids x m n f h
    thing-kids (of_rows from by places ls) m n f h = select-kids n m _ from by (λ fr. []) (v.rows_list sources places ls) f.0 f.1 (λ fr. tt) h.rows
    thing-kids (of_groups from by places ls) m n f h = rows-kid n m from by places ls n.quants f.0 f.1 h.quants

    kid-in : (os : List OwnedQuant) → Kids os → (o : OwnedQuant) → In o os → Kid o
    kid-in [] k o i = absurd i
    kid-in (p ∷ os) k o (inl e) = subst Kid e k.0
    kid-in (p ∷ os) k o (inr i) = kid-in os k.1 o i

    pub box-kid : (thing : Thing) (m : Map) (n : Node) → FitThing thing → v.ShowsBox sources Below thing m n → (o : OwnedQuant) → In o n.quants → Kid o
    box-kid thing m n f h o i = kid-in n.quants (thing-kids thing m n f h) o i

  -- ---- bases

  -- a stored table whose name is known
  abbrev pub IsTable : BaseTable → Type 0
  IsTable table = (name : List ℕ) × ((has name ≡ true) × (sources.body name ≡ None) × (table ≡ sources.stored name))

  module _ (Below : ℕ → Thing → Map → Type 0) (n : Node) (table : BaseTable) (base : n.parts.kind ≡ Base table) where
    no-select : n.parts.kind ≡ Select → IsTable table
    no-select h = absurd (let e : Base table ≡ Select = sym base ∙ h in let w : ⊥ = cc in w)

    no-pair : (form : SetOperator) (types : List SqlType) → n.parts.kind ≡ SetOp form types → IsTable table
    no-pair form types h = absurd (let e : Base table ≡ SetOp form types = sym base ∙ h in let w : ⊥ = cc in w)

    no-outer : n.parts.kind ≡ OuterJoin → IsTable table
    no-outer h = absurd (let e : Base table ≡ OuterJoin = sym base ∙ h in let w : ⊥ = cc in w)

    no-group : (keys : ℕ) → n.parts.kind ≡ Group keys → IsTable table
    no-group keys h = absurd (let e : Base table ≡ Group keys = sym base ∙ h in let w : ⊥ = cc in w)

    one-table : (x y : BaseTable) → Base x ≡ Base y → x ≡ y
    one-table x y e = cc

    query-base : (x : Query) (m : Map) → v.ShowsQuery sources Below x m n → IsTable table
    query-base (q.block distinct list from by) m h = no-select h.kind
    query-base (q.grouped distinct list from by places u having) m h = no-select h.kind
    query-base (q.combine x op all u y) m h = no-pair _ _ h.kind
    query-base (q.intersect x all u y) m h = no-pair _ _ h.kind

    source-base : (name : List ℕ) (o : Option Query) → has name ≡ true → sources.body name ≡ o → v.ShowsSource sources Below name o n → IsTable table
    source-base name None f e h = (name, (f, e, one-table table (sources.stored name) (sym base ∙ h.kind)))
    source-base name (Some body) f e h = query-base body [] h

    operand-base : (x : From) (m : Map) → FitFrom sources has x → v.ShowsOperand sources Below x m n → IsTable table
    operand-base (q.named name) m f h = source-base name (sources.body name) f refl h.1
    operand-base (q.derived query) m f h = query-base query m h
    operand-base (q.crossed x y) m f h = no-select h.kind
    operand-base (q.joined x y p) m f h = no-select h.kind
    operand-base (q.left_joined x y u p) m f h = no-outer h.kind

    -- a base is there for a table whose name is known
    pub is-table : (thing : Thing) (m : Map) → FitThing thing → v.ShowsBox sources Below thing m n → IsTable table
    is-table (of_query x) m f h = query-base x m h
    is-table (of_operand x) m f h = operand-base x m f h
    is-table (of_rows from by places ls) m f h = no-select h.rows.kind
    is-table (of_groups from by places ls) m f h = no-group _ h.kind

  -- ---- all boxes

  module _ (views : (name : List ℕ) (body : Query) → sources.body name ≡ Some body → Buildable sources has body) (query : Query) (g : QueryGraph) (fit : Buildable sources has query) (there : EachForOne sources query g) where
    fit-under : (b c : ℕ) → Reaches g.boxes b c → FitThing (there.what b) → FitThing (there.what c)
    fit-under b c (itself a) f = f
    fit-under b c (through n r d i j k) f =
        let kid = box-kid views (IsFor there.what there.seen) (there.what n.id) (there.seen n.id) n f (there.each n i) r j in
        fit-under r.over d k (subst FitThing (sym kid.1.1.1.0) kid.1.1.0)

    -- each base is a table whose name is known
    pub base-is-table : (n : Node) → In n g.boxes → Reaches g.boxes g.root n.id → (table : BaseTable) → n.parts.kind ≡ Base table → IsTable table
    base-is-table n i reached table e =
        is-table (IsFor there.what there.seen) n table e (there.what n.id) (there.seen n.id) (fit-under g.root n.id reached (subst FitThing (sym there.root.0) fit)) (there.each n i)
