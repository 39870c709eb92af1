-- The keys that are inferred of boxes, one constructor a sentence.
use Rattle.std.specs.Prelude.{ℕ, zero, suc, ◌≡◌, ◌++◌, Bool, true, false, List, [], ◌∷◌, length, filter, Some, ⊤}
use Rattle.sql_value.specs.declared.order_key.SqlType.{SqlType}
use Rattle.qgm_core.specs.Kinds.{is_F, is_enforce}
use Rattle.list_laws.specs.Lists.{In}
use Rattle.qgm_core.specs.declared.kinds.BaseTable.{BaseTable}
use Rattle.qgm_core.specs.declared.kinds.BoxKind.TheVariants.{Base, Select, Group, SetOp, OuterJoin}
use Rattle.qgm_core.specs.declared.kinds.SetOperator.{SetOperator}
use Rattle.qgm_core.specs.declared.kinds.SetOperator.TheVariants.{UnionAll, Union, IntersectAll, Intersect, ExceptAll, Except}
use Rattle.qgm_core.specs.declared.node.Node.{Node}
use Rattle.qgm_core.specs.declared.owned.OwnedQuant.{OwnedQuant}
use Rattle.qgm_terms.specs.Terms.{Term, col}
use Rattle.qgm_props.specs.Keys.{among, cell_at}

-- the places from w down to 1
abbrev pub places_to : ℕ → List ℕ
places_to zero = []
places_to (suc w) = suc w ∷ places_to w

abbrev pub without_all : SetOperator → Bool
without_all UnionAll = false
without_all Union = true
without_all IntersectAll = false
without_all Intersect = true
without_all ExceptAll = false
without_all Except = true

-- at these places of a head stand these columns of q, one by one
abbrev pub StandAt : ℕ → List Term → List ℕ → List ℕ → Type 0
StandAt q head [] [] = ⊤
StandAt q head [] (p ∷ places) = ⊥
StandAt q head (k ∷ key) [] = ⊥
StandAt q head (k ∷ key) (p ∷ places) = (cell_at head p ≡ Some (col q k)) × StandAt q head key places

mutual
  -- these columns are a key of box b, where `single` says which boxes have at most one row
  pub data IsKey (single : ℕ → Bool) (boxes : List Node) : ℕ → List ℕ → Type 0 where
    -- a key that a base declares, whose columns are all declared not null
    declared : (n : Node) (table : BaseTable) (key : List ℕ) → In n boxes → n.parts.kind ≡ Base table
        → In key table.keys → among key table.not_null ≡ true → IsKey single boxes n.id key
    -- all columns of an ENFORCE select, and of a set operation without ALL: the places from 1 to its width
    enforced : (n : Node) → In n boxes → n.parts.kind ≡ Select → is_enforce n.parts.distinct ≡ true → IsKey single boxes n.id (places_to (length n.parts.head))
    combined : (n : Node) (form : SetOperator) (types : List SqlType) → In n boxes → n.parts.kind ≡ SetOp form types
        → without_all form ≡ true → IsKey single boxes n.id (places_to (length types))
    -- the key columns of a group
    grouped : (n : Node) (k : ℕ) → In n boxes → n.parts.kind ≡ Group k → IsKey single boxes n.id (places_to k)
    -- the places of a key under each F quantifier of a select, ENFORCE or not, together; of a box of at most one row the empty key is one
    selected : (n : Node) (places : List ℕ) → In n boxes → n.parts.kind ≡ Select
        → AreKeys single boxes n.parts.head (filter (λ r. is_F r.kind) n.quants) places → IsKey single boxes n.id places
    -- the places of a key of either arm of an outer join, together
    joined : (n : Node) (left right : OwnedQuant) (more : List OwnedQuant) (places : List ℕ) → In n boxes → n.parts.kind ≡ OuterJoin → n.quants ≡ left ∷ right ∷ more
        → AreKeys single boxes n.parts.head (left ∷ right ∷ []) places → IsKey single boxes n.id places
    -- no column of a box of at most one row
    one_row : (n : Node) → In n boxes → single n.id ≡ true → IsKey single boxes n.id []

  -- a key of the box under each of these quantifiers was chosen, and for each of its columns a place of the head at which it stands: these places, together
  pub data AreKeys (single : ℕ → Bool) (boxes : List Node) : List Term → List OwnedQuant → List ℕ → Type 0 where
    none : (head : List Term) → AreKeys single boxes head [] []
    one_more : (head : List Term) (r : OwnedQuant) (rs : List OwnedQuant) (key places others : List ℕ) → IsKey single boxes r.over key
        → StandAt r.id head key places → AreKeys single boxes head rs others → AreKeys single boxes head (r ∷ rs) (places ++ others)

-- some inferred key of box b is among these columns
abbrev pub KeyAmong : (ℕ → Bool) → List Node → ℕ → List ℕ → Type 0
KeyAmong single boxes b ks = (key : List ℕ) × (IsKey single boxes b key × (among key ks ≡ true))
