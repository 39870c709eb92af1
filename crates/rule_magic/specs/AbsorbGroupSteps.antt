-- A group with its input, and the steps of G3's action.
use Rattle.std.specs.Prelude.{ℕ, suc, ◌≡◌, ◌+◌, ◌++◌, ◌==◌, false, List, [], ◌∷◌, Option, Some, None, length}
use Rattle.qgm_core.specs.Boxes.{HasBox, HasQuant, QueryGraph, bare_box, is_box, width}
use Rattle.qgm_core.specs.Edits.{compact, move_below, move_quant, put_box, put_terms, range, redirect, set_distinct, with_box, with_quant}
use Rattle.list_laws.specs.Lists.{first}
use Rattle.qgm_core.specs.declared.kinds.BoxKind.{BoxKind}
use Rattle.qgm_core.specs.declared.kinds.BoxKind.TheVariants.{Base, Select, Group, SetOp, OuterJoin}
use Rattle.qgm_core.specs.declared.kinds.Distinct.TheVariants.{Preserve}
use Rattle.qgm_core.specs.declared.kinds.QuantKind.TheVariants.{F}
use Rattle.qgm_core.specs.declared.kinds.Role.TheVariants.{Fed, Plain}
use Rattle.qgm_core.specs.declared.node.Node.{Node}
use Rattle.qgm_core.specs.declared.owned.OwnedQuant.{OwnedQuant}
use Rattle.qgm_meaning.specs.Tags.{columns_from}
use Rattle.rule_magic.specs.Boxes.{counted, keyed, later, new_parts, no_conds, of_both, same_each}
use Rattle.rule_magic.specs.Feeding.{Feeding}
use Rattle.rule_magic.specs.declared.absorb_group.grouped.Grouped.{Grouped}
use Rattle.rule_magic.specs.declared.absorb_group.keyless.NewNumbers.{NewNumbers}

-- ---- a group

-- a group of so many keys by q over x
pub record Grouping : Type 0 where
  pub keys : ℕ
  pub q : OwnedQuant
  pub x : Node

-- what the code holds
abbrev pub as_grouping : Grouped → Grouping
as_grouping k = record { keys = k.keys; q = k.q; x = k.x.now }

abbrev pub over_found : ℕ → OwnedQuant → Option Node → Option Grouping
over_found keys q None = None
over_found keys q (Some x) = Some (record { keys = keys; q = q; x = x })

-- of one quantifier that is all
abbrev pub over_one : List Node → ℕ → List OwnedQuant → Option Grouping
over_one bs keys [] = None
over_one bs keys (q ∷ []) = over_found keys q (first (is_box q.over) bs)
over_one bs keys (q ∷ (r ∷ rs)) = None

abbrev pub grouping_by : List Node → List OwnedQuant → BoxKind → Option Grouping
grouping_by bs rs (Base table) = None
grouping_by bs rs Select = None
grouping_by bs rs (Group keys) = over_one bs keys rs
grouping_by bs rs (SetOp form types) = None
grouping_by bs rs OuterJoin = None

-- box c, if it is a group
abbrev pub grouping : List Node → Node → Option Grouping
grouping bs c = grouping_by bs c.quants c.parts.kind

-- ---- the edits

-- c is the fed box, over the magic box by a and over x by q
abbrev pub fed_below : Feeding → OwnedQuant → Node → QueryGraph → QueryGraph
fed_below f q x g = set_distinct f.c.id Preserve (put_box f.c.id Select Fed no_conds (of_both f.a.id (width f.m) q.id (width x)) (move_quant f.a.id f.c.id 0 g))

-- d is the group over it, by tags and keys
abbrev pub keyed_steps : Feeding → Grouping → QueryGraph → QueryGraph
keyed_steps f k g =
    compact (move_below f.c.id f.d.id (put_box f.d.id (Group (width f.m + k.keys)) Plain no_conds (keyed k.q.id f.r.id (width f.m) (width k.x) f.c.parts.head) (fed_below f k.q k.x g)))

-- below d stands an outer join o, and below it a group n of w keys
abbrev pub with_boxes : ℕ → ℕ → ℕ → ℕ → QueryGraph → QueryGraph
with_boxes d w o n g = with_box (Some o) (bare_box n (new_parts (Group w))) (with_box (Some d) (bare_box o (new_parts OuterJoin)) g)

-- o is of m and n, and n over c
abbrev pub with_quants : ℕ → ℕ → ℕ → ℕ → ℕ → ℕ → ℕ → QueryGraph → QueryGraph
with_quants o n m c om oc p g = with_quant n 0 (range p F c) (with_quant o 0 (range om F m) (with_quant o 0 (range oc F n) g))

-- o joins on the tags, and gives them and the aggregates of n
abbrev pub put_join : ℕ → ℕ → ℕ → ℕ → ℕ → QueryGraph → QueryGraph
put_join o om oc w n g = put_terms o (record { items = same_each om oc 1 w; spare = 0 }) (columns_from om 1 w ++ later oc w n) g

-- d is the select of counts over o
abbrev pub put_counted : Feeding → ℕ → QueryGraph → QueryGraph
put_counted f o g = put_box f.d.id Select Plain no_conds (columns_from f.r.id 1 (width f.m) ++ counted f.r.id (suc (width f.m)) f.c.parts.head) (redirect f.r.id o g)

-- both boxes with their quantifiers
abbrev pub with_join : Feeding → NewNumbers → QueryGraph → QueryGraph
with_join f z g = with_quants z.o z.n f.m.id f.c.id z.om z.oc z.p (with_boxes f.d.id (width f.m) z.o z.n g)

-- the cells of both, and of d
abbrev pub with_cells : Feeding → Grouping → NewNumbers → QueryGraph → QueryGraph
with_cells f k z g = put_counted f z.o (put_terms z.n no_conds (keyed k.q.id z.p (width f.m) (width k.x) f.c.parts.head) (put_join z.o z.om z.oc (width f.m) (length f.c.parts.head) g))

abbrev pub keyless_steps : Feeding → Grouping → NewNumbers → QueryGraph → QueryGraph
keyless_steps f k z g = compact (move_below f.c.id z.n (with_cells f k z (with_join f z (fed_below f k.q k.x g))))

-- ---- when they can be done

pub record CanAbsorbGroup (g : QueryGraph) (f : Feeding) : Type 0 where
  pub held_d : HasBox f.d.id g
  pub held_m : HasBox f.m.id g
  pub held_c : HasBox f.c.id g
  pub owned_a : HasQuant f.a.id g
  pub owned_r : HasQuant f.r.id g
  pub apart : (f.c.id == f.d.id) ≡ false

-- the graph has none of these numbers
pub record AreNumbersNew (g : QueryGraph) (z : NewNumbers) : Type 0 where
  pub o : HasBox z.o g → ⊥
  pub n : HasBox z.n g → ⊥
  pub two : (z.o == z.n) ≡ false
  pub om : HasQuant z.om g → ⊥
  pub oc : HasQuant z.oc g → ⊥
  pub p : HasQuant z.p g → ⊥
  pub om_oc : (z.om == z.oc) ≡ false
  pub om_p : (z.om == z.p) ≡ false
  pub oc_p : (z.oc == z.p) ≡ false

-- the steps without keys, by some new numbers
pub record StepsKeyless (g h : QueryGraph) (f : Feeding) (k : Grouping) : Type 0 where
  pub z : NewNumbers
  pub fresh : AreNumbersNew g z
  pub after : h ≡ keyless_steps f k z g
