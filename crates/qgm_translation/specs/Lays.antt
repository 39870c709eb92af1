-- What is made for a query shows it.
use Rattle.std.specs.Prelude.{◌≡◌, ◌≤◌, ◌<◌, ◌==◌, if◌then◌else◌, ℕ, Bool, true, false, List, [], ◌∷◌, ◌++◌, get_or, length, Some, None, ⊤, ◌⊎◌}
use Rattle.sql_meaning.specs.ResolvedTrees.{Query}
use Rattle.sql_meaning.specs.ResolvedTrees as q
use Rattle.std.specs.List.{list_any}
use Rattle.qgm_core.specs.Boxes.{Ordered, ids_in, owns}
use Rattle.list_laws.specs.Lists.{times}
use Rattle.qgm_core.specs.declared.node.Node.{Node}
use Rattle.qgm_core.specs.declared.owned.OwnedQuant.{OwnedQuant}
use Rattle.sql_value.specs.declared.order_key.SqlType.{SqlType}
use Rattle.qgm_terms.specs.Terms.{Term}
use Rattle.qgm_terms.specs.Terms as t
use Rattle.qgm_meaning.specs.Scope.{loose, loose_of}
use Rattle.qgm_translation.specs.Maps.{Frame, Map, Ref, nothing, none_counted, column}
use Rattle.qgm_translation.specs.Shown.{Shows, Thing, distinct_ids, uses, of_operand, of_query}
use Rattle.qgm_translation.specs.Sources.{Sources}
use Rattle.qgm_translation.specs.There.{AreFor, EachFor, IsFor, LaidAs, Notes}
use Rattle.qgm_translation.specs.Buildable.{Buildable}
use Rattle.qgm_translation.specs.Lay.{Boxes, Laid, SharedBox, box_named, column_types, lay, lay_by, lay_table}
use Rattle.qgm_translation.specs.Typing.{typed_by}

-- the columns of a map are those of quantifiers below n
abbrev pub UnderRef : ℕ → Ref → Type 0
UnderRef n nothing = ⊤
UnderRef n none_counted = ⊤
UnderRef n (column q k) = q < n

abbrev pub UnderIn : ℕ → Frame → Type 0
UnderIn n [] = ⊤
UnderIn n (r ∷ fr) = UnderRef n r × UnderIn n fr

abbrev pub Under : ℕ → Map → Type 0
Under n [] = ⊤
Under n (fr ∷ m) = UnderIn n fr × Under n m

-- numbers of boxes are below k
abbrev pub Low : ℕ → List Node → Type 0
Low k [] = ⊤
Low k (n ∷ ns) = (n.id < k) × Low k ns

-- no box looks up a quantifier of its own in its environment
abbrev pub Settled : List Node → Type 0
Settled [] = ⊤
Settled (n ∷ ns) = ((q : ℕ) → owns q n ≡ true → loose_of n (loose ns) q ≡ false) × Settled ns

-- a box among these owns q
abbrev pub owned : ℕ → List Node → Bool
owned q ns = list_any (owns q) ns

-- no two quantifiers have one number
abbrev pub Once : List Node → Type 0
Once [] = ⊤
Once (n ∷ ns) = (distinct_ids n.quants ≡ true) × ((q : ℕ) → owns q n ≡ true → owned q ns ≡ false) × Once ns

-- ---- the types of columns

-- a list begins with another
pub record Begins (xs ys : List (List SqlType)) : Type 0 where
  pub more : List (List SqlType)
  pub is : ys ≡ xs ++ more

-- the types of the columns of each quantifier and of each box so far are known
pub record Counted (s : Boxes) : Type 0 where
  pub some : 0 < s.quant
  pub rows : length s.rows ≡ s.quant
  pub types : length s.types ≡ s.box

-- the type of an expression goes by quantifiers below n
abbrev pub TypedUnder : ℕ → Term → Type 0
TypedUnder n (t.int k) = ⊤
TypedUnder n (t.text x) = ⊤
TypedUnder n t.null_int = ⊤
TypedUnder n t.null_text = ⊤
TypedUnder n (t.col q k) = q < n
TypedUnder n (t.scalar q) = q < n
TypedUnder n (t.both op x y) = ⊤
TypedUnder n (t.minus_of x) = ⊤
TypedUnder n (t.choose arms x) = TypedUnder n x
TypedUnder n t.count_all = ⊤
TypedUnder n (t.fold f taken x) = TypedUnder n x

abbrev pub HeadUnder : ℕ → List Term → Type 0
HeadUnder n [] = ⊤
HeadUnder n (x ∷ xs) = TypedUnder n x × HeadUnder n xs

-- a quantifier has columns of the types of the box that it ranges over
pub record Ranges (s : Boxes) (o : OwnedQuant) : Type 0 where
  pub drawn : o.id < s.quant
  pub laid : o.over < s.box
  pub types : get_or s.rows o.id [] ≡ get_or s.types o.over []

abbrev pub EachRanges : Boxes → List OwnedQuant → Type 0
EachRanges s [] = ⊤
EachRanges s (o ∷ os) = Ranges s o × EachRanges s os

-- a box has columns of the types of its head
pub record HasTypes (s : Boxes) (n : Node) : Type 0 where
  pub laid : n.id < s.box
  pub quants : EachRanges s n.quants
  pub head : HeadUnder s.quant n.parts.head
  pub types : get_or s.types n.id [] ≡ column_types s.rows n.parts.kind n.parts.head

abbrev pub EachHasTypes : Boxes → List Node → Type 0
EachHasTypes s [] = ⊤
EachHasTypes s (n ∷ ns) = HasTypes s n × EachHasTypes s ns

module _ (sources : Sources) (has : List ℕ → Bool) where
  -- a box that isn't shared by those who name a table or a view
  abbrev pub Unshared : ℕ → Type 0
  Unshared j = (name : List ℕ) → has name ≡ true → (sources.shared name == j) ≡ false

  -- the boxes of tables and views are there for them
  abbrev pub NamesAreFor : (ℕ → Thing) → (ℕ → Map) → Type 0
  NamesAreFor what seen = (name : List ℕ) → has name ≡ true → IsFor what seen (sources.shared name) (of_operand (q.named name)) []

  -- each box ranges over boxes behind it, no two boxes and no two quantifiers have one number, and no box looks up its own quantifiers
  pub record InOrder (s : Boxes) : Type 0 where
    pub low : Low s.box s.made
    pub ordered : Ordered s.made
    pub settled : Settled s.made
    pub bound : (q : ℕ) → owned q s.made ≡ true → q < s.quant
    pub once : Once s.made
    pub unused : (j : ℕ) → s.box ≤ j → uses j s.made ≡ 0
    pub named : (name : List ℕ) → has name ≡ true → sources.shared name < s.box

  -- what was made before stays, in order
  pub record Keeps (a b : Boxes) : Type 0 where
    pub boxes : a.box ≤ b.box
    pub quants : a.quant ≤ b.quant
    pub order : InOrder a → InOrder b
    pub kept : (j : ℕ) → j < a.box → Unshared j → uses j b.made ≡ uses j a.made
    pub owners : (q : ℕ) → q < a.quant → owned q b.made ≡ true → owned q a.made ≡ true
    pub same : (j : ℕ) (thing : Thing) (m : Map) → j < a.box → Shows sources a.made j thing m → Shows sources b.made j thing m
    pub rows : Begins a.rows b.rows
    pub types : Begins a.types b.types
    pub counted : Counted a → Counted b
    pub typed : Counted a → EachHasTypes a a.made → EachHasTypes b b.made
    pub shared : b.shared ≡ a.shared

  -- bases and views stand below, and the map's quantifiers were drawn
  pub record Ready (s : Boxes) (m : Map) : Type 0 where
    pub known : (name : List ℕ) → has name ≡ true → sources.shared name < s.box
    pub sourced : (name : List ℕ) → has name ≡ true → (m : Map) → Shows sources s.made (sources.shared name) (of_operand (q.named name)) m
    pub under : Under s.quant m

  -- what holds of boxes so far and later, where the boxes between are there for what is noted, and those of tables and views for these
  abbrev pub WhereFor : (s r : Boxes) → Notes s.box r.box → ((ℕ → Thing) → (ℕ → Map) → Type 0) → Type 0
  WhereFor s r notes Holds =
      (what : ℕ → Thing) (seen : ℕ → Map) → AreFor what seen s.box r.box notes → NamesAreFor what seen → Holds what seen × (EachFor sources what seen s.made → EachFor sources what seen r.made)

  pub record Made (thing : Thing) (m : Map) (s : Boxes) (r : Laid) : Type 0 where
    pub keeps : Keeps s r.boxes
    pub known : r.top < r.boxes.box
    pub shows : Shows sources r.boxes.made r.top thing m
    -- each box that is made has one use, but for the top, which has none; the top is new or shared
    pub used : InOrder s → (j : ℕ) → s.box ≤ j → j < r.boxes.box → uses j r.boxes.made ≡ (if r.top == j then 0 else 1)
    pub top : (j : ℕ) → j < s.box → Unshared j → (r.top == j) ≡ false
    -- each box that is made is there for one thing, the top for this one, or for what it is laid as
    pub notes : Thing → Notes s.box r.boxes.box
    pub there : (other : Thing) → LaidAs sources thing m r.top other → WhereFor s r.boxes (notes other) (λ what seen. IsFor what seen r.top other m)

-- what is laid where all is told beforehand: what names stand for, their boxes, and the types of expressions
abbrev pub laid_over : Sources → Query → Map → Boxes → Laid
laid_over sources query m s = lay sources (λ s. sources) query m s

abbrev pub Lays : Type 0
Lays =
    (sources : Sources) (has : List ℕ → Bool)
    → (query : Query) (m : Map) (s : Boxes) → Buildable sources has query → Ready sources has s m → Made sources has (of_query query) m s (laid_over sources query m s)

-- what is told beforehand is what is known at the end: the tables and the views that were laid, and the types of the columns of quantifiers
pub record Foretold (known sources : Sources) (has : List ℕ → Bool) (laid : List SharedBox) (rows : List (List SqlType)) : Type 0 where
  pub counts : (name : List ℕ) → known.columns name ≡ sources.columns name
  pub typed : (x : Term) → sources.typed x ≡ typed_by rows x
  pub named : (name : List ℕ) → has name ≡ true → box_named laid name ≡ sources.shared name

-- what is laid by what is known so far is what is laid where all is told beforehand
abbrev pub LaidAlike : Type 0
LaidAlike =
    (known sources : Sources) (has : List ℕ → Bool) (rows : List (List SqlType)) (query : Query) (m : Map) (s : Boxes) → Foretold known sources has s.shared rows
    → Buildable sources has query → Ready sources has s m → Counted s → Begins (lay_by known query m s).boxes.rows rows → lay_by known query m s ≡ laid_over sources query m s

-- so no number of a quantifier stands twice
abbrev pub CountedOnce : Type 0
CountedOnce = (ns : List Node) → Once ns → (q : ℕ) → times q (ids_in ns) ≤ 1

-- ---- what stands before a query is made

-- this name stands beside those that stood
abbrev pub OneMore : (List ℕ → Bool) → List ℕ → (List ℕ → Bool) → Type 0
OneMore has name more = (n : List ℕ) → more n ≡ true → (n ≡ name) ⊎ (has n ≡ true)

-- the box of a table, on top of all
abbrev pub lay_base : Sources → List ℕ → Boxes → Laid
lay_base sources name s = lay_table (sources.stored name) s

-- no name stands at first; a table, or a view whose body names what stands, may come after the others, if its number is that of its box
pub record Starts : Type 0 where
  pub none : (sources : Sources) (s : Boxes) → Ready sources (λ name. false) s []
  pub table :
      (sources : Sources) (has more : List ℕ → Bool) (name : List ℕ) → OneMore has name more
      → (s : Boxes) → sources.body name ≡ None → sources.shared name ≡ s.box → (sources.stored name).name ≡ name → length (sources.stored name).types ≡ sources.columns name → Ready sources has s []
      → Ready sources more (lay_base sources name s).boxes []
  pub view :
      (sources : Sources) (has more : List ℕ → Bool) (name : List ℕ) → OneMore has name more
      → (body : Query) (s : Boxes) → sources.body name ≡ Some body → sources.shared name ≡ (laid_over sources body [] s).top → Buildable sources has body → Ready sources has s []
      → Ready sources more (laid_over sources body [] s).boxes []
