-- The steps of G4's action.
use Rattle.std.specs.Prelude.{ℕ, ◌≡◌, ◌≤◌, ◌==◌, if◌then◌else◌, false, List, [], ◌∷◌, Option, Some, None, length}
use Rattle.sql_value.specs.declared.order_key.SqlType.{SqlType}
use Rattle.qgm_core.specs.Boxes.{HasBox, HasQuant, QueryGraph, bare_box, quants_of, width}
use Rattle.qgm_core.specs.Edits.{compact, move_below, move_quant, put_box, range, set_distinct, with_box, with_quant}
use Rattle.qgm_core.specs.declared.kinds.BoxKind.TheVariants.{Select, SetOp}
use Rattle.qgm_core.specs.declared.kinds.Distinct.TheVariants.{Preserve}
use Rattle.qgm_core.specs.declared.kinds.QuantKind.TheVariants.{F}
use Rattle.qgm_core.specs.declared.kinds.Role.{Role}
use Rattle.qgm_core.specs.declared.kinds.Role.TheVariants.{Plain}
use Rattle.qgm_core.specs.declared.kinds.SetOperator.{SetOperator}
use Rattle.qgm_core.specs.declared.node.Node.{Node}
use Rattle.qgm_meaning.specs.Tags.{columns_from}
use Rattle.qgm_props.specs.Calm.{is_closed}
use Rattle.qgm_terms.specs.Terms.{Term}
use Rattle.qgm_wellformed.specs.Types.{Lookup, lookup_of, term_type}
use Rattle.rule_magic.specs.AbsorbArms.{role_over}
use Rattle.rule_magic.specs.Boxes.{new_parts, no_conds, of_both}
use Rattle.rule_magic.specs.Feeding.{Feeding}
use Rattle.rule_magic.specs.Operands.{OperandPair}
use Rattle.rule_magic.specs.RenameSteps.{rename_below}
use Rattle.rule_magic.specs.declared.absorb_set.action.NewSelect.{NewSelect}

-- ---- types

abbrev pub put_known : Option SqlType → List SqlType → List SqlType
put_known None ts = ts
put_known (Some t) ts = t ∷ ts

-- the types of these cells that are known
abbrev pub known_types : Lookup → List Term → List SqlType
known_types at [] = []
known_types at (x ∷ xs) = put_known (term_type at x) (known_types at xs)

-- ---- the edits

-- below d stands a select s over the magic box and y, and d's last quantifier ranges over it
abbrev pub with_select : Feeding → OperandPair → NewSelect → QueryGraph → QueryGraph
with_select f k z g = with_quant z.s 0 (range z.p F f.m.id) (move_quant k.r.id z.s 0 (with_quant f.d.id 2 (range z.u F z.s) (with_box (Some f.d.id) (bare_box z.s (new_parts Select)) g)))

-- it has its cells, and so has c, the select over the magic box and x
abbrev pub put_selects : Feeding → OperandPair → NewSelect → Role → Role → QueryGraph → QueryGraph
put_selects f k z left right g =
    set_distinct f.c.id Preserve (put_box f.c.id Select left no_conds (of_both f.a.id (width f.m) k.l.id (width k.x))
    (put_box z.s Select right no_conds (of_both z.p (width f.m) k.r.id (width k.y)) (move_quant f.a.id f.c.id 0 g)))

-- d is the set operation of both
abbrev pub with_set : Feeding → SetOperator → OperandPair → NewSelect → Role → Role → List SqlType → QueryGraph → QueryGraph
with_set f form k z left right mt g = move_below f.c.id z.s (put_box f.d.id (SetOp form mt) Plain no_conds [] (put_selects f k z left right (with_select f k z g)))

-- names below an open y change
abbrev pub renamed_where : Feeding → OperandPair → NewSelect → List Node → QueryGraph → QueryGraph
renamed_where f k z bs h = if is_closed bs k.y.id then h else rename_below bs k.r.over f.a.id (columns_from z.p 1 (width f.m)) h

abbrev pub set_steps : Feeding → SetOperator → OperandPair → NewSelect → QueryGraph → QueryGraph
set_steps f form k z g =
    compact (renamed_where f k z g.boxes (with_set f form k z (role_over g.boxes k.x.id) (role_over g.boxes k.y.id) (known_types (lookup_of g.boxes) f.d.parts.head) g))

-- ---- when they can be done

pub record CanAbsorbSet (g : QueryGraph) (f : Feeding) (k : OperandPair) : Type 0 where
  pub held_d : HasBox f.d.id g
  pub held_m : HasBox f.m.id g
  pub held_c : HasBox f.c.id g
  pub owned_a : HasQuant f.a.id g
  pub owned_r : HasQuant k.r.id g
  pub two : (s : ℕ) → 2 ≤ length (quants_of f.d.id (with_box (Some f.d.id) (bare_box s (new_parts Select)) g))

-- the graph has none of these numbers
pub record IsSelectNew (g : QueryGraph) (z : NewSelect) : Type 0 where
  pub s : HasBox z.s g → ⊥
  pub u : HasQuant z.u g → ⊥
  pub p : HasQuant z.p g → ⊥
  pub apart : (z.u == z.p) ≡ false

-- the steps by some new numbers
pub record StepsSet (g h : QueryGraph) (f : Feeding) (form : SetOperator) (k : OperandPair) : Type 0 where
  pub z : NewSelect
  pub fresh : IsSelectNew g z
  pub after : h ≡ set_steps f form k z g
