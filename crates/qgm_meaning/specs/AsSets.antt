-- Boxes whose rows agree as sets: PERMIT boxes, which E and A quantifiers alone range over.
use Rattle.std.specs.Prelude.{ℕ, ◌≡◌, ◌==◌, ◌&&◌, not, Bool, true, false, List, [], ◌∷◌, Option, Some, None, ⊤}
use Rattle.std.specs.List.{list_any}
use Rattle.row_bag.specs.AsSets.{AgreeAsSets}
use Rattle.row_bag.specs.Bags.{Agree}
use Rattle.row_bag.specs.Sets.{same_cells}
use Rattle.row_bag.specs.declared.tables.Table.{Table}
use Rattle.qgm_core.specs.Boxes.{QueryGraph, Ordered, all_over, box_of, has_box, is_quant}
use Rattle.qgm_core.specs.Kinds.{is_F, is_F_or_S, is_S, is_select}
use Rattle.list_laws.specs.Lists.{In, first}
use Rattle.qgm_core.specs.declared.kinds.BoxKind.{BoxKind}
use Rattle.qgm_core.specs.declared.kinds.BoxKind.TheVariants.{Base, Select, Group, SetOp, OuterJoin}
use Rattle.qgm_core.specs.declared.node.Node.{Node}
use Rattle.qgm_core.specs.declared.owned.OwnedQuant.{OwnedQuant}
use Rattle.qgm_meaning.specs.Laws.{AllStay, Stays}
use Rattle.qgm_meaning.specs.Meaning.{Family, bag, quant_rows, rows_of}
use Rattle.qgm_meaning.specs.Replace.{replace}
use Rattle.qgm_meaning.specs.Searches.{looking}
use Rattle.qgm_meaning.specs.Values.{Bag, Environment}
use Rattle.qgm_terms.specs.Terms.{Arms, Cond, Term}
use Rattle.qgm_terms.specs.Wanted.{any_in, any_in_arms, any_in_cond}

-- bags agree, or agree as sets where it is enough
abbrev pub AgreeAs : Bool → Bag → Bag → Type 0
AgreeAs true xs ys = AgreeAsSets same_cells xs ys
AgreeAs false xs ys = Agree same_cells xs ys

-- a scalar of a quantifier that passes stands within
abbrev pub scalar_in : (ℕ → Bool) → Term → Bool
scalar_in passes = any_in (looking (λ r j. false) passes (λ r. false) (λ r. true))

abbrev pub scalar_in_arms : (ℕ → Bool) → Arms → Bool
scalar_in_arms passes = any_in_arms (looking (λ r j. false) passes (λ r. false) (λ r. true))

abbrev pub scalar_in_cond : (ℕ → Bool) → Cond → Bool
scalar_in_cond passes = any_in_cond (looking (λ r j. false) passes (λ r. false) (λ r. true))

-- a quantifier that is found ranges over a box that passes
abbrev pub over_found : (ℕ → Bool) → Option OwnedQuant → Bool
over_found sets None = false
over_found sets (Some r) = sets r.over

-- the box under quantifier q of n passes
abbrev pub is_set : (ℕ → Bool) → Node → ℕ → Bool
is_set sets n q = over_found sets (first (is_quant q) n.quants)

-- a select has no F quantifier over a box that passes, and reads the scalar of none
pub record SelectReadsSets (sets : ℕ → Bool) (n : Node) : Type 0 where
  pub rows : (q : ℕ) → list_any (λ r. is_F r.kind && is_quant q r) n.quants ≡ true → is_set sets n q ≡ false
  pub cells : list_any (scalar_in (is_set sets n)) n.parts.head ≡ false
  pub conditions : list_any (scalar_in_cond (is_set sets n)) n.parts.conds.items ≡ false

-- a box reads the rows of boxes that pass by some and every alone; only a select has these
abbrev pub ReadsSetsBy : BoxKind → (ℕ → Bool) → Node → Type 0
ReadsSetsBy (Base table) sets n = ⊤
ReadsSetsBy Select sets n = SelectReadsSets sets n
ReadsSetsBy (Group keys) sets n = (q : ℕ) → is_set sets n q ≡ false
ReadsSetsBy (SetOp form types) sets n = (q : ℕ) → is_set sets n q ≡ false
ReadsSetsBy OuterJoin sets n = (q : ℕ) → is_set sets n q ≡ false

abbrev pub ReadsSets : (ℕ → Bool) → Node → Type 0
ReadsSets sets n = ReadsSetsBy n.parts.kind sets n

abbrev pub AllReadSets : (ℕ → Bool) → List Node → Type 0
AllReadSets sets [] = ⊤
AllReadSets sets (n ∷ ns) = ReadsSets sets n × AllReadSets sets ns

-- each box gives a family of bags back, up to agreement, in the environments that pass; as sets where it is of those
abbrev pub AgreesBackAs : (Environment → Bool) → (ℕ → Bool) → List Table → Family → List Node → Type 0
AgreesBackAs passes sets tables f [] = ⊤
AgreesBackAs passes sets tables f (n ∷ ns) =
    Stays passes (quant_rows n f) n.quants × ((env : Environment) → passes env ≡ true → AgreeAs (sets n.id) (rows_of tables n f env) (f n.id env)) × AgreesBackAs passes sets tables f ns

-- the bags of a graph agree with any family that its boxes give back so
abbrev pub OnlyAgreeAs : Type 0
OnlyAgreeAs =
    (tables : List Table) (g : QueryGraph) (f : Family) (passes : Environment → Bool) (sets : ℕ → Bool) → Ordered g.boxes → AllReadSets sets g.boxes → AgreesBackAs passes sets tables f g.boxes
    → (b : ℕ) → has_box g.boxes b ≡ true → (env : Environment) → passes env ≡ true → AgreeAs (sets b) (bag tables g b env) (f b env)

-- a box in the place of another whose rows agree as sets in the environments that pass, where its rows are read by some and every alone: all other bags agree there
abbrev pub ReplacedAsSet : Type 0
ReplacedAsSet =
    (tables : List Table) (g : QueryGraph) (passes : Environment → Bool) (b : ℕ) (n m : Node) → Ordered g.boxes → box_of b g ≡ Some n → m.id ≡ b → ((ns : List Node) → all_over ns n.quants ≡ true → all_over ns m.quants ≡ true)
    → AllReadSets (λ x. x == b) g.boxes → ReadsSets (λ x. x == b) m → AllStay passes (bag tables g) g.boxes → Stays passes (quant_rows m (bag tables g)) m.quants
    → ((env : Environment) → passes env ≡ true → AgreeAsSets same_cells (rows_of tables m (bag tables g) env) (rows_of tables n (bag tables g) env))
    → (x : ℕ) → has_box g.boxes x ≡ true → (env : Environment) → passes env ≡ true → AgreeAs (x == b) (bag tables (replace b m g) x env) (bag tables g x env)

-- ---- what a well-formed graph keeps

-- a quantifier that is found is an S quantifier
abbrev pub is_S_found : Option OwnedQuant → Bool
is_S_found None = false
is_S_found (Some r) = is_S r.kind

-- a box whose F and S quantifiers range over no box that passes (so it is of PERMIT boxes), whose quantifiers have different numbers, which reads the scalar of S quantifiers of its own alone, and which has F quantifiers alone if it is no select
pub record SeesNoSet (sets : ℕ → Bool) (n : Node) : Type 0 where
  pub unseen : (r : OwnedQuant) → In r n.quants → is_F_or_S r.kind ≡ true → sets r.over ≡ false
  pub once : (r : OwnedQuant) → In r n.quants → first (is_quant r.id) n.quants ≡ Some r
  pub cells : list_any (scalar_in (λ q. not (is_S_found (first (is_quant q) n.quants)))) n.parts.head ≡ false
  pub conditions : list_any (scalar_in_cond (λ q. not (is_S_found (first (is_quant q) n.quants)))) n.parts.conds.items ≡ false
  pub others : is_select n.parts.kind ≡ false → (r : OwnedQuant) → In r n.quants → is_F r.kind ≡ true

-- it reads the rows of these boxes by some and every alone
abbrev pub ReadsWhatItSees : Type 0
ReadsWhatItSees = (sets : ℕ → Bool) (n : Node) → SeesNoSet sets n → ReadsSets sets n
