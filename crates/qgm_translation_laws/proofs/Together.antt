-- In two graphs that are built of one query with types boxes at one place have columns of the same types, and so the graphs differ in numbers alone.
use Rattle.std.proofs.Common.{inl, inr, ◌≡◌, ◌≤◌, ℕ, zero, suc, ◌+◌, ◌==◌, true, false, List, [], ◌∷◌, length, map, Option, Some, None, refl, ap, ap₂, sym, ◌∙◌, subst, arith}
use Rattle.std.specs.Prelude.{slice_get}
use Rattle.std.proofs.lemmas.Bool.{eqb-true}
use Rattle.std.proofs.lemmas.List.{length-map}
use Rattle.std.proofs.lemmas.Option.{same_Some}
use Rattle.sql_value.specs.declared.order_key.OrderKey.{OrderKey}
use Rattle.sql_value.specs.declared.order_key.SqlType.{SqlType}
use Rattle.sql_value.specs.declared.order_key.SqlType.TheVariants.{Integer}
use Rattle.sql_meaning.specs.ResolvedTrees.{Query}
use Rattle.sql_catalog.proofs.EachLaws.{Each}
use Rattle.qgm_core.specs.Boxes.{Ordered, QueryGraph, ids_in, is_box, is_quant, owns, range_in}
use Rattle.list_laws.specs.Lists.{In, first, times}
use Rattle.qgm_core.specs.declared.kinds.BoxKind.{BoxKind}
use Rattle.qgm_core.specs.declared.kinds.BoxKind.TheVariants.{Base, Select, Group, SetOp, OuterJoin}
use Rattle.qgm_core.specs.declared.kinds.SetOperator as forms
use Rattle.qgm_core.specs.declared.node.Node.{Node}
use Rattle.qgm_core.specs.declared.owned.OwnedQuant.{OwnedQuant}
use Rattle.qgm_terms.specs.Terms as t
use Rattle.qgm_terms.specs.Terms.{Arms, Cond, Term}
use Rattle.qgm_terms.specs.declared.named.QuantNode.{QuantNode}
use Rattle.qgm_wellformed.specs.Columns.{over_box}
use Rattle.qgm_wellformed.specs.Types.{column_type, is_typed, joined_column, known, type_found, type_in, types_after, types_by, types_found}
use Rattle.qgm_translation.specs.Law.{IsBuiltOf}
use Rattle.qgm_translation.specs.Maps.{Map, ref_term}
use Rattle.qgm_translation.specs.Shown as v
use Rattle.qgm_translation.specs.Shown.{Shows, ShowsBox, Thing, of_query, refs}
use Rattle.qgm_translation.specs.Sources.{Sources}
use Rattle.qgm_edit_laws.proofs.Ranks.{has-in, same-box}
use Rattle.qgm_edit_laws.proofs.Scope.{in-first}
use Rattle.graph_alike.specs.Alike.{Like, LikeBox, Meets, OwnedAt, SameButNumbers, Stands, roots, stands, under}
use Rattle.qgm_translation_laws.specs.Formed.{SourcesTyped, Told}
use Rattle.qgm_translation_laws.specs.Typed.{IsOfTypes, Scope}
use Rattle.qgm_translation_laws.proofs.Boxes as boxes
use Rattle.qgm_translation_laws.proofs.Frames.{At, map-none, refs-cols}
use Rattle.qgm_translation_laws.proofs.Levels as levels
use Rattle.qgm_edit_laws.proofs.Levels.{first-typed, owner-of, some-in}
use Rattle.qgm_translation_laws.proofs.Levels.{at-get, type_of-found}
use Rattle.qgm_translation_laws.proofs.LikeBoxes.{thing-like}
use Rattle.qgm_translation_laws.proofs.LikeGraphs as graphs
use Rattle.qgm_translation_laws.proofs.LikeTerms.{Parted}
use Rattle.qgm_translation_laws.proofs.OneToOne.{at-in}
use Rattle.qgm_translation_laws.proofs.Parts as parts
use Rattle.qgm_translation_laws.proofs.Reached.{lev, lev-ups}
use Rattle.qgm_translation_laws.proofs.TermsAre.{MapIs}
use Rattle.qgm_translation_laws.proofs.TypesAlike.{local-like, type-like}
use Rattle.qgm_translation_laws.proofs.TypesFollow.{local-follows, type-is}
use Rattle.qgm_core.proofs.Reaching.{overs-held}

-- ---- expressions of types

module _ (K : ℕ → ℕ → SqlType → Type 0) (N : QuantNode → Type 0) (J : ℕ → SqlType → Type 0) where
  -- an expression is of some type, and so are its parts
  abbrev pub Typed : Term → Type 0
  Typed x = (a : SqlType) × parts.Is K N J x a

  abbrev pub TypedArms : Arms → Type 0
  TypedArms s = (a : SqlType) × parts.ArmsAre K N J s a

  pub typed-parts : Parted Typed TypedArms (parts.Fit K N J)
  typed-parts = record {
    null = (Integer, refl);
    both = λ op x y h. ((h.0, h.1.1), (h.0, h.1.2));
    minus = λ x h. (Integer, h.1.1);
    choose = λ s x h. ((h.0, h.1.0), (h.0, h.1.1));
    arm = λ c x s h. (h.1.0, (h.0, h.1.1), (h.0, h.1.2));
    always = tt;
    compare = λ sign x y h. ((h.0, h.1.0), (h.0, h.1.1));
    is_null = λ x h. h;
    and = λ c d h. h;
    anded = λ c d h k. (h, k);
    or = λ c d h. h;
    not = λ c h. h;
    some = λ q sign x y h. (h.1.0, h.1.1.0);
    every = λ q sign x y h. (h.1.0, h.1.1.0);
  }

  pub each-typed : (xs : List Term) (types : List SqlType) → parts.Heads K N J xs types → Each Typed xs
  each-typed [] types h = tt
  each-typed (x ∷ xs) [] h = absurd h
  each-typed (x ∷ xs) (a ∷ types) h = ((a, h.0), each-typed xs types h.1)

  pub each-fit : (cs : List Cond) → parts.FitAll K N J cs → Each (parts.Fit K N J) cs
  each-fit [] h = tt
  each-fit (c ∷ cs) h = (h.0, each-fit cs h.1)

-- ---- columns of quantifiers

-- after so many steps a box is found to have these columns
abbrev pub FoundAt : List Node → ℕ → ℕ → List SqlType → Type 0
FoundAt bs j b types = types_found (first (is_typed b) (types_after j bs)) ≡ known types

refs-length : (q k u : ℕ) → length (refs q k u) ≡ u
refs-length q k zero = refl
refs-length q k (suc u) = ap suc (refs-length q (suc k) u)

module _ (bs : List Node) (ordered : Ordered bs) (once : (q : ℕ) → times q (ids_in bs) ≤ 1) where
  -- a column of a quantifier has the type that the box under it gives it
  column-found : (n : Node) (r : OwnedQuant) → In n bs → In r n.quants → (j : ℕ) (types : List SqlType) → FoundAt bs j r.over types → (i : ℕ) (a : SqlType) → At types i a → column_type bs (types_after j bs) r.id (suc i) ≡ Some a
  column-found n r m o j types found i a at =
      let table = types_after j bs in
      let b = has-in r.over bs (overs-held bs n r ordered m o) in
      let is : first (is_box r.over) bs ≡ Some b.0 = ap (λ z. first (is_box z) bs) (sym b.1.1) ∙ in-first b.0 bs ordered b.1.0 in
      ap (λ o. type_found table (suc i) (over_box bs o)) (owner-of bs once n r m o)
      ∙ ap (type_found table (suc i)) is
      ∙ ap (λ z. type_in (suc i) (first (is_typed z) table)) b.1.1
      ∙ type_of-found (suc i) i (first (is_typed r.over) table) refl
      ∙ ap (λ z. joined_column (slice_get z i)) found
      ∙ at-get types i a at

  -- the owner of a quantifier
  owner : (q : ℕ) (r : OwnedQuant) → range_in q (first (owns q) bs) ≡ Some r → (n : Node) × (In n bs × In r n.quants × (r.id ≡ q))
  owner q r h = at (first (owns q) bs) refl h
    where
      at : (o : Option Node) → first (owns q) bs ≡ o → range_in q o ≡ Some r → (n : Node) × (In n bs × In r n.quants × (r.id ≡ q))
      at None e k = absurd (cc k)
      at (Some n) e k =
          let own = some-in (is_quant q) n.quants r k in
          (n, ((some-in (owns q) bs n e).0, own.0, eqb-true r.id q own.1))

-- ---- two graphs

module _ (kinds : List ℕ → List SqlType) (s : Sources) (shared : List ℕ → ℕ) (typed : Term → SqlType) (query : Query) (types : List SqlType) (names : List (Option (List ℕ))) (order : List OrderKey) (g h : QueryGraph)
    (built : IsBuiltOf s query names order g) (other : IsBuiltOf (record s { shared = shared; typed = typed }) query names order h) (one : Ordered g.boxes) (two : Ordered h.boxes) (once : (q : ℕ) → times q (ids_in g.boxes) ≤ 1)
    (twice : (q : ℕ) → times q (ids_in h.boxes) ≤ 1) (sorts : SourcesTyped kinds s) (told : Told s g.boxes) (tells : Told (record s { shared = shared; typed = typed }) h.boxes) (gives : IsOfTypes kinds [] query types) where
  abbrev z : Sources
  z = record s { shared = shared; typed = typed }

  abbrev R : ℕ → ℕ → Type 0
  R = Stands g h

  -- from a level on, a box has columns of these types, and so has each box that it meets
  abbrev Over : ℕ → ℕ → List SqlType → Type 0
  Over e b types = ((j : ℕ) → e ≤ j → FoundAt g.boxes j b types) × ((c : ℕ) → Meets g h b c → (j : ℕ) → e ≤ j → FoundAt h.boxes j c types)

  more : (d e b : ℕ) (types : List SqlType) → d ≤ e → Over d b types → Over e b types
  more d e b types u o = ((λ j w. o.0 j (omega arith)), (λ c m j w. o.1 c m j (omega arith)))

  abbrev Ranges : ℕ → ℕ → Type 0
  Ranges = levels.Ranges g.boxes one once

  abbrev Column : ℕ → ℕ → ℕ → SqlType → Type 0
  Column = boxes.Column kinds s sorts.counted Over more Ranges

  abbrev LocalBy : ℕ → Map → Node → List SqlType → BoxKind → Type 0
  LocalBy = boxes.LocalBy kinds s sorts.counted Over more Ranges

  abbrev ThingIs : List Scope → Thing → List SqlType → Type 0
  ThingIs = boxes.ThingIs kinds s sorts.counted Over more Ranges

  abbrev K : ℕ → List OwnedQuant → Map → ℕ → ℕ → SqlType → Type 0
  K = boxes.Kn kinds s sorts.counted Over more Ranges

  abbrev N : ℕ → List OwnedQuant → QuantNode → Type 0
  N = boxes.Nn kinds s sorts.counted Over more Ranges

  abbrev J : ℕ → ℕ → SqlType → Type 0
  J = boxes.Jn kinds s sorts.counted Over more Ranges

  -- ---- columns and expressions

  column-here : (e q k : ℕ) (a : SqlType) → Column e q k a → (j : ℕ) → e ≤ j → column_type g.boxes (types_after j g.boxes) q k ≡ Some a
  column-here e q k a c j u =
      let r = c.1.0.0 in
      let o = owner g.boxes one once q r c.1.0.1.0 in
      let ts = c.1.1.0 in
      let found : FoundAt g.boxes j r.over ts = subst (λ b. FoundAt g.boxes j b ts) (sym c.1.0.1.1) (c.1.1.1.0.0 j u) in
      ap₂ (λ x y. column_type g.boxes (types_after j g.boxes) x y) (sym o.1.2) c.1.1.1.1.1.0 ∙ column-found g.boxes one once o.0 r o.1.0 o.1.1 j ts found c.1.1.1.1.0 a c.1.1.1.1.1.1

  column-there : (e q r k : ℕ) (a : SqlType) → R q r → Column e q k a → (j : ℕ) → e ≤ j → column_type h.boxes (types_after j h.boxes) r k ≡ Some a
  column-there e q r k a (stands n m i o p meets in_n in_m at to) c j u =
      let w = c.1.0.0 in
      let same : w ≡ o = same_Some w o (sym c.1.0.1.0 ∙ owner-of g.boxes once n o in_n (at-in i o n.quants at)) in
      let over : c.0 ≡ o.over = sym c.1.0.1.1 ∙ ap (λ (x : OwnedQuant). x.over) same in
      let ts = c.1.1.0 in
      let found : FoundAt h.boxes j p.over ts = c.1.1.1.0.1 p.over (subst (λ b. Meets g h b p.over) (sym over) (under n m i o p meets in_n in_m at to)) j u in
      ap (λ y. column_type h.boxes (types_after j h.boxes) p.id y) c.1.1.1.1.1.0 ∙ column-found h.boxes two twice m p in_m (at-in i p m.quants to) j ts found c.1.1.1.1.0 a c.1.1.1.1.1.1

  module _ (e : ℕ) (os : List OwnedQuant) (m : Map) where
    told-here : (x : Term) (a : SqlType) → parts.Is (K e os m) (N e os) (J e) x a → s.typed x ≡ a
    told-here x a i =
        told e x a (type-is (K e os m) (N e os) (J e) (column_type g.boxes (types_after e g.boxes)) (λ q k b c. column-here e q k b c.0 e (omega arith)) (λ q b c. column-here e q 1 b c e (omega arith)) x a i)

    told-there : (x y : Term) (a : SqlType) → Like R x y → parts.Is (K e os m) (N e os) (J e) x a → typed y ≡ a
    told-there x y a l i =
        tells e y a (type-like R (K e os m) (N e os) (J e) (column_type h.boxes (types_after e h.boxes)) (λ q r k b w c. column-there e q r k b w c.0 e (omega arith)) (λ q r b w c. column-there e q r 1 b w c e (omega arith)) x y a l i)

    told-alike : (x y : Term) → Typed (K e os m) (N e os) (J e) x → Like R x y → s.typed x ≡ typed y
    told-alike x y i l = told-here x i.0 i.1 ∙ sym (told-there x y i.0 l i.1)

  -- ---- boxes

  conds-fit : (e : ℕ) (m : Map) (n : Node) (ts : List SqlType) (kind : BoxKind) → LocalBy e m n ts kind → Each (parts.Fit (K e n.quants m) (N e n.quants) (J e)) n.parts.conds.items
  conds-fit e m n ts (Base table) i = subst (Each (parts.Fit (K e n.quants m) (N e n.quants) (J e))) (sym i.1.0) tt
  conds-fit e m n ts Select i = each-fit (K e n.quants m) (N e n.quants) (J e) n.parts.conds.items i.1
  conds-fit e m n ts (Group keys) i = subst (Each (parts.Fit (K e n.quants m) (N e n.quants) (J e))) (sym i.1) tt
  conds-fit e m n ts (SetOp operator columns) i = subst (Each (parts.Fit (K e n.quants m) (N e n.quants) (J e))) (sym i.1.0) tt
  conds-fit e m n ts OuterJoin i = each-fit (K e n.quants m) (N e n.quants) (J e) n.parts.conds.items i.1

  -- the columns of a set operation, by those of its first quantifier
  pair-types : (e : ℕ) (m : Map) (n k : Node) (ts : List SqlType) → In n g.boxes → In k h.boxes → Meets g h n.id k.id → (form : forms.SetOperator) (u : ℕ) (o b q d : OwnedQuant)
      → LocalBy e m n ts (SetOp form (map s.typed (v.columns_of o.id 1 u))) → n.quants ≡ o ∷ b ∷ [] → k.quants ≡ q ∷ d ∷ [] → map s.typed (v.columns_of o.id 1 u) ≡ map typed (v.columns_of q.id 1 u)
  pair-types e m n k ts i j meets form u o b q d l f w =
      let at : OwnedAt zero o n.quants = subst (OwnedAt zero o) (sym f) refl in
      let to : OwnedAt zero q k.quants = subst (OwnedAt zero q) (sym w) refl in
      let arms : boxes.Arms kinds s sorts.counted Over more Ranges e (o ∷ b ∷ []) ts = subst (λ os. boxes.Arms kinds s sorts.counted Over more Ranges e os ts) f l.2 in
      let found : FoundAt h.boxes e q.over ts = arms.0.1 q.over (under n k zero o q meets i j at to) e (omega arith) in
      let many : length ts ≡ u = ap length (sym l.0) ∙ length-map (v.columns_of o.id 1 u) s.typed ∙ length-map (refs o.id 1 u) ref_term ∙ refs-length o.id 1 u in
      let all : map typed (v.columns_of q.id 1 (length ts)) ≡ ts
      = boxes.columns-told kinds z sorts.counted Over more Ranges (λ x y a. typed (t.col x y) ≡ a) (λ x y a c. c) (refs q.id 1 (length ts)) ts (refs-cols (λ x y a. typed (t.col x y) ≡ a) q.id 0 ts (λ y a c. first-type y a c found)) (boxes.all-refs kinds z sorts.counted Over more Ranges q.id 1 (length ts)) in
      l.0 ∙ sym (ap (λ x. map typed (v.columns_of q.id 1 x)) (sym many) ∙ all)
    where
      first-type : (y : ℕ) (a : SqlType) → At ts y a → FoundAt h.boxes e q.over ts → typed (t.col q.id (suc (y + 0))) ≡ a
      first-type y a c found =
          let same : y + 0 ≡ y = omega arith in
          tells e (t.col q.id (suc (y + 0))) a
          (ap (λ x. column_type h.boxes (types_after e h.boxes) q.id (suc x)) same ∙ column-found h.boxes two twice k q j (at-in zero q k.quants (subst (OwnedAt zero q) (sym w) refl)) e ts found y a c)

  -- boxes at one place, the first one of which is of types, differ in numbers alone
  box-like : (e : ℕ) (m : Map) (n k : Node) (ts : List SqlType) → In n g.boxes → In k h.boxes → Meets g h n.id k.id → LocalBy e m n ts n.parts.kind → LikeBox R n k
  box-like e m n k ts i j meets l =
      let r = graphs.pair s shared typed query names order g h built other one two n k i j meets in
      thing-like R s shared typed (Shows s r.ns) (Shows z r.ks) (Typed (K e n.quants m) (N e n.quants) (J e)) (TypedArms (K e n.quants m) (N e n.quants) (J e)) (parts.Fit (K e n.quants m) (N e n.quants) (J e))
      (typed-parts (K e n.quants m) (N e n.quants) (J e)) (told-alike e n.quants m) n k r.pairs r.kids
      (λ f. each-typed (K e n.quants m) (N e n.quants) (J e) n.parts.head ts (subst (LocalBy e m n ts) f l).0) (conds-fit e m n ts n.parts.kind l)
      (λ form u o b q d f w y. pair-types e m n k ts i j meets form u o b q d (subst (LocalBy e m n ts) f l) w y) r.thing r.other r.x r.y r.same r.round r.shown r.shows

  close : (e : ℕ) (m : Map) (n : Node) (ts : List SqlType) → In n g.boxes → LocalBy e m n ts n.parts.kind → Over (suc e) n.id ts
  close e m n ts i l = (here, λ c meets j u. let k = graphs.met-by s shared typed query names order g h built other one two n.id c meets in subst (λ b. FoundAt h.boxes j b ts) k.1.1 (there k.0 k.1.0 (subst (Meets g h n.id) (sym k.1.1) meets) j u))
    where
      here : (j : ℕ) → suc e ≤ j → FoundAt g.boxes j n.id ts
      here zero u = absurd (omega arith)
      here (suc j) u =
          ap types_found (first-typed g.boxes (types_after j g.boxes) g.boxes n.id n (in-first n g.boxes one i))
          ∙ local-follows kinds s sorts.counted Over more Ranges e m n ts n.parts.kind l (column_type g.boxes (types_after j g.boxes)) (λ q k a c. column-here e q k a c j (omega arith))

      there : (k : Node) → In k h.boxes → Meets g h n.id k.id → (j : ℕ) → suc e ≤ j → FoundAt h.boxes j k.id ts
      there k w meets zero u = absurd (omega arith)
      there k w meets (suc j) u =
          let like = box-like e m n k ts i w meets l in
          let at = column_type h.boxes (types_after j h.boxes) in
          ap types_found (first-typed h.boxes (types_after j h.boxes) h.boxes k.id k (in-first k h.boxes two w))
          ∙ ap (λ kind. types_by at kind k.parts.head) (sym like.kind)
          ∙ local-like kinds s sorts.counted Over more Ranges R e m n k ts n.parts.kind l like.head at (λ q r y a f c. column-there e q r y a f c j (omega arith))

  -- what a box is that shows a thing, over boxes that have the types of what they show
  whole : (ns : List Node) (n : Node) → In n g.boxes
      → ((b : ℕ) (thing : Thing) (m : Map) (scopes : List Scope) (ts : List SqlType) (e : ℕ) → Shows s ns b thing m → MapIs (Column e) m scopes → ThingIs scopes thing ts → Over (lev ns e) b ts)
      → (thing : Thing) (m : Map) (scopes : List Scope) (e : ℕ) (ts : List SqlType) → ShowsBox s (Shows s ns) thing m n → MapIs (Column e) m scopes → ThingIs scopes thing ts
      → LocalBy (lev ns (lev ns e)) (boxes.map_of thing m) n ts n.parts.kind × boxes.Each kinds s sorts.counted Over more Ranges (Shows s ns) n (boxes.map_of thing m) n.quants
  whole ns n i are thing m scopes e ts shown round is =
      boxes.thing-is kinds s sorts.counted Over more Ranges (λ e os m x a k. told-here e os m x a k) (Shows s ns) (lev ns) (lev-ups ns) are n (levels.ranges-of g.boxes one once n i) sorts.named thing m scopes e ts shown round is

  over : (ns : List Node) → ((n : Node) → In n ns → In n g.boxes) → (b : ℕ) (thing : Thing) (m : Map) (scopes : List Scope) (ts : List SqlType) (e : ℕ)
      → Shows s ns b thing m → MapIs (Column e) m scopes → ThingIs scopes thing ts → Over (lev ns e) b ts
  over [] sub b thing m scopes ts e shown round is = absurd shown
  over (n ∷ ns) sub b thing m scopes ts e shown round is =
      elim (n.id == b) as (λ own. (n.id == b) ≡ own → v.Either own (ShowsBox s (Shows s ns) thing m n) (Shows s ns b thing m) → Over (suc (lev ns (lev ns e))) b ts) [
        | true ↦ (λ same shown.
            subst (λ x. Over (suc (lev ns (lev ns e))) x ts) (eqb-true n.id b same)
            (close (lev ns (lev ns e)) (boxes.map_of thing m) n ts (sub n (inl refl)) (whole ns n (sub n (inl refl)) (over ns (λ k i. sub k (inr i))) thing m scopes e ts shown round is).0))
        | false ↦ (λ same shown.
            let x = lev-ups ns (lev ns e) in
            more (lev ns e) (suc (lev ns (lev ns e))) b ts (omega arith) (over ns (λ k i. sub k (inr i)) b thing m scopes ts e shown round is))
      ] refl shown

  -- ---- all boxes that meet

  -- a box shows something of types
  record Sight (b : ℕ) : Type 0 where
    rest : List Node
    within : (n : Node) → In n rest → In n g.boxes
    thing : Thing
    seen : Map
    scopes : List Scope
    columns : List SqlType
    level : ℕ
    shown : Shows s rest b thing seen
    round : MapIs (Column level) seen scopes
    is : ThingIs scopes thing columns

  -- a box is of types, and what its quantifiers range over shows something of types
  record Local (n : Node) : Type 0 where
    level : ℕ
    seen : Map
    columns : List SqlType
    is : LocalBy level seen n columns n.parts.kind
    below : (o : OwnedQuant) → In o n.quants → Sight o.over

  child : (ns : List Node) → ((n : Node) → In n ns → In n g.boxes) → (n : Node) (m : Map) (os : List OwnedQuant) → boxes.Each kinds s sorts.counted Over more Ranges (Shows s ns) n m os → (o : OwnedQuant) → In o os → Sight o.over
  child ns sub n m [] i o j = absurd j
  child ns sub n m (x ∷ os) i o (inl same) =
      let c = i.0 in
      subst (λ (y : OwnedQuant). Sight y.over) same
      (record {
        rest = ns;
        within = sub;
        thing = c.0;
        seen = c.1.0;
        scopes = c.1.1.0;
        columns = c.1.1.1.0;
        level = c.1.1.1.1.0;
        shown = c.1.1.1.1.1.0;
        round = c.1.1.1.1.1.1;
        is = c.1.1.1.1.1.2;
      })
  child ns sub n m (x ∷ os) i o (inr j) = child ns sub n m os i.1 o j

  local-of : (ns : List Node) → ((n : Node) → In n ns → In n g.boxes) → (n : Node) → In n g.boxes → (thing : Thing) (m : Map) (scopes : List Scope) (ts : List SqlType) (e : ℕ)
      → Shows s ns n.id thing m → MapIs (Column e) m scopes → ThingIs scopes thing ts → Local n
  local-of [] sub n i thing m scopes ts e shown round is = absurd shown
  local-of (k ∷ ns) sub n i thing m scopes ts e shown round is =
      elim (k.id == n.id) as (λ own. (k.id == n.id) ≡ own → v.Either own (ShowsBox s (Shows s ns) thing m k) (Shows s ns n.id thing m) → Local n) [
        | true ↦ (λ same shown.
            let equal : k ≡ n = same-box g.boxes k n one (sub k (inl refl)) i (eqb-true k.id n.id same) in
            let w = whole ns n i (over ns (λ x y. sub x (inr y))) thing m scopes e ts (subst (ShowsBox s (Shows s ns) thing m) equal shown) round is in
            record { level = lev ns (lev ns e); seen = boxes.map_of thing m; columns = ts; is = w.0; below = λ o j. child ns (λ x y. sub x (inr y)) n (boxes.map_of thing m) n.quants w.1 o j })
        | false ↦ (λ same shown. local-of ns (λ x y. sub x (inr y)) n i thing m scopes ts e shown round is)
      ] refl shown

  local-at : (n : Node) → In n g.boxes → Sight n.id → Local n
  local-at n i x = local-of x.rest x.within n i x.thing x.seen x.scopes x.columns x.level x.shown x.round x.is

  sight : (b c : ℕ) → Meets g h b c → Sight b
  sight b c roots =
      record { rest = g.boxes; within = λ n i. i; thing = of_query query; seen = []; scopes = []; columns = types; level = 0; shown = built.shows; round = map-none (Column 0); is = gives }
  sight b c (under n k i o q meets in_n in_k at to) = (local-at n in_n (sight n.id k.id meets)).below o (at-in i o n.quants at)

  pub same-graphs : SameButNumbers g h
  same-graphs =
      graphs.same-graphs s shared typed query names order g h built other one two
      (λ n k i j meets. let l = local-at n i (sight n.id k.id meets) in box-like l.level l.seen n k l.columns i j meets l.is)
