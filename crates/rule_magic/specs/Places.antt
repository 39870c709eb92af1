-- Where the rules of class magic have places, by facts that are known of the boxes.
use Rattle.std.specs.Prelude.{ℕ, ◌≡◌, ◌≤◌, ◌&&◌, ◌||◌, ◌⊎◌, ⊤, true, false, List, [], ◌∷◌, length, take}
use Rattle.std.specs.List.{list_all}
use Rattle.qgm_terms.specs.declared.named.Column.{Column}
use Rattle.qgm_core.specs.Boxes.{width}
use Rattle.qgm_core.specs.Free.{IsFree, NamedBelow, Reaches}
use Rattle.qgm_core.specs.Kinds.{is_F, is_S}
use Rattle.list_laws.specs.Lists.{In}
use Rattle.qgm_core.specs.declared.kinds.BoxKind.{BoxKind}
use Rattle.qgm_core.specs.declared.kinds.BoxKind.TheVariants.{Base, Select, Group, SetOp, OuterJoin}
use Rattle.qgm_core.specs.declared.kinds.Role.TheVariants.{Plain, Fed}
use Rattle.qgm_core.specs.declared.kinds.SetOperator.{SetOperator}
use Rattle.qgm_core.specs.declared.kinds.SetOperator.TheVariants.{UnionAll, Union, IntersectAll, Intersect, ExceptAll, Except}
use Rattle.qgm_core.specs.declared.node.Node.{Node}
use Rattle.qgm_core.specs.declared.owned.OwnedQuant.{OwnedQuant}
use Rattle.qgm_wellformed.specs.Columns.{columns_of}
use Rattle.qgm_props.specs.Inferred.{Facts, all_places, arms_error_free, error_free_under, is_free, under_first, under_two}

-- something is free in box b
abbrev pub IsOpen : List Node → ℕ → Type 0
IsOpen boxes b = (q : ℕ) × IsFree boxes b q

-- new boxes may still be added
abbrev pub AreFew : List Node → Type 0
AreFew boxes = length boxes ≤ 65530

module _ (boxes : List Node) (known : Facts) where
  -- U2 at quantifier r of b
  pub record MaySingleAt (b : Node) (r : OwnedQuant) : Type 0 where
    pub in_b : In b boxes
    pub a_select : b.parts.kind ≡ Select
    pub plain : b.parts.role ≡ Plain
    pub owned : In r b.quants
    pub is_s : is_S r.kind ≡ true
    pub not_one : known.exactly_one r.over ≡ false
    pub safe : (known.error_free r.over 1 || known.at_most_one r.over) ≡ true
    pub few : AreFew boxes

  -- G1 at quantifier r of b
  pub record MayFeed (b : Node) (r : OwnedQuant) : Type 0 where
    pub in_b : In b boxes
    pub a_select : b.parts.kind ≡ Select
    pub plain : b.parts.role ≡ Plain
    pub closed : (q : ℕ) → IsFree boxes b.id q → ⊥
    pub owned : In r b.quants
    pub opened : IsOpen boxes r.over
    -- S over a clean box of exactly one row
    pub scalar : is_S r.kind ≡ true → (known.clean r.over ≡ true) × (known.exactly_one r.over ≡ true)
    -- the F quantifiers of b that the box under r names, itself or below, range over closed and clean boxes
    pub fed : (p : OwnedQuant) → In p b.quants → is_F p.kind ≡ true → NamedBelow boxes r.over p.id → ((q : ℕ) → IsFree boxes p.over q → ⊥) × (known.clean p.over ≡ true)
    -- and what is named of them is error-free
    pub named : (p : OwnedQuant) → In p b.quants → is_F p.kind ≡ true → (n : Node) (c : Column) → In n boxes → Reaches boxes r.over n.id → In c (columns_of n) → c.quant ≡ p.id → error_free_under boxes known c.quant c.place ≡ true
    pub few : AreFew boxes

  -- G4: arms of INTERSECT and EXCEPT are clean with error-free columns
  abbrev pub SetsReady : SetOperator → ℕ → List OwnedQuant → Type 0
  SetsReady UnionAll w rs = ⊤
  SetsReady Union w rs = ⊤
  SetsReady IntersectAll w rs = (under_two known.clean rs && arms_error_free boxes known w rs) ≡ true
  SetsReady Intersect w rs = (under_two known.clean rs && arms_error_free boxes known w rs) ≡ true
  SetsReady ExceptAll w rs = (under_two known.clean rs && arms_error_free boxes known w rs) ≡ true
  SetsReady Except w rs = (under_two known.clean rs && arms_error_free boxes known w rs) ≡ true

  -- one of G2 to G5 may absorb this box
  abbrev pub AbsorbsBy : BoxKind → Node → Type 0
  AbsorbsBy (Base table) c = ⊥
  AbsorbsBy Select c = c.parts.role ≡ Plain
  AbsorbsBy (Group k) c = ((under_first known.clean c.quants && list_all (is_free boxes known false) (take k c.parts.head)) ≡ true) × AreFew boxes
  AbsorbsBy (SetOp form types) c = SetsReady form (length types) c.quants × AreFew boxes
  AbsorbsBy OuterJoin c = AreFew boxes

  -- G2 to G5 at the fed box d over m and c
  pub record MayAbsorb (d : Node) : Type 0 where
    pub in_d : In d boxes
    pub is_fed : d.parts.role ≡ Fed
    pub a : OwnedQuant
    pub r : OwnedQuant
    pub quants : d.quants ≡ a ∷ (r ∷ [])
    pub m : Node
    pub in_m : In m boxes
    pub over_m : m.id ≡ a.over
    pub closed : (q : ℕ) → IsFree boxes m.id q → ⊥
    pub clean : known.clean m.id ≡ true
    pub columns : all_places (width m) (known.error_free m.id) ≡ true
    pub c : Node
    pub in_c : In c boxes
    pub over_c : c.id ≡ r.over
    pub opened : IsOpen boxes c.id
    pub absorbs : AbsorbsBy c.parts.kind c

  -- a rule of class magic has a place at b
  abbrev pub MagicAt : Node → Type 0
  MagicAt b = ((r : OwnedQuant) × MaySingleAt b r) ⊎ (((r : OwnedQuant) × MayFeed b r) ⊎ MayAbsorb b)
