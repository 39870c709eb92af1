-- The steps of G5's action.
use Rattle.std.specs.Prelude.{◌≡◌, ◌==◌, ◌++◌, map, false, List, Some}
use Rattle.qgm_core.specs.Boxes.{HasBox, HasQuant, QueryGraph, bare_box, width}
use Rattle.qgm_core.specs.Edits.{compact, move_below, move_quant, put_box, range, redirect, set_distinct, with_box, with_quant}
use Rattle.qgm_core.specs.declared.kinds.BoxKind.TheVariants.{OuterJoin, Select}
use Rattle.qgm_core.specs.declared.kinds.Distinct.TheVariants.{Preserve}
use Rattle.qgm_core.specs.declared.kinds.QuantKind.TheVariants.{F}
use Rattle.qgm_core.specs.declared.kinds.Role.{Role}
use Rattle.qgm_core.specs.declared.kinds.Role.TheVariants.{Plain}
use Rattle.qgm_meaning.specs.Tags.{columns_from}
use Rattle.qgm_terms.specs.Conjuncts.{Conjuncts}
use Rattle.qgm_terms.specs.Substitution.{substituted, substituted_cond}
use Rattle.qgm_terms.specs.Terms.{Term}
use Rattle.rule_magic.specs.AbsorbArms.{role_over}
use Rattle.rule_magic.specs.AbsorbSetSteps.{IsSelectNew}
use Rattle.rule_magic.specs.Boxes.{later, new_parts, no_conds, of_both, same_each}
use Rattle.rule_magic.specs.Feeding.{Feeding}
use Rattle.rule_magic.specs.Operands.{OperandPair}
use Rattle.rule_magic.specs.RenameSteps.{rename_below}
use Rattle.rule_magic.specs.declared.absorb_set.action.NewSelect.{NewSelect}

-- ---- cells and conditions

abbrev pub left_cells : Feeding → OperandPair → List Term
left_cells f k = map (substituted f.a.id (columns_from k.l.id 1 (width f.m))) (map (substituted k.l.id (later k.l.id (width f.m) (width k.x))) f.c.parts.head)

abbrev pub both_cells : Feeding → OperandPair → List Term
both_cells f k = map (substituted k.r.id (later k.r.id (width f.m) (width k.y))) (left_cells f k)

abbrev pub left_head : Feeding → OperandPair → List Term
left_head f k = columns_from k.l.id 1 (width f.m) ++ left_cells f k

abbrev pub both_head : Feeding → OperandPair → List Term
both_head f k = columns_from k.l.id 1 (width f.m) ++ both_cells f k

abbrev pub left_on : Feeding → OperandPair → Conjuncts
left_on f k = record {
  items = map (substituted_cond f.a.id (columns_from k.l.id 1 (width f.m))) (map (substituted_cond k.l.id (later k.l.id (width f.m) (width k.x))) f.c.parts.conds.items);
  spare = f.c.parts.conds.spare;
}

abbrev pub both_on : Feeding → OperandPair → Conjuncts
both_on f k = record {
  items = map (substituted_cond k.r.id (later k.r.id (width f.m) (width k.y))) (left_on f k).items ++ same_each k.l.id k.r.id 1 (width f.m);
  spare = f.c.parts.conds.spare;
}

-- ---- the edits

-- c stands just below d, and both change their quantifiers; d's first one now ranges over c, and c's last one over x
abbrev pub swapped : Feeding → OperandPair → QueryGraph → QueryGraph
swapped f k g =
    redirect f.r.id k.x.id (redirect k.l.id f.c.id
    (move_quant f.a.id f.c.id 0 (move_quant f.r.id f.c.id 0 (move_quant k.l.id f.d.id 0 (move_quant k.r.id f.d.id 0 (move_below f.c.id f.d.id g))))))

-- d is the outer join
abbrev pub with_outer : Feeding → Conjuncts → List Term → QueryGraph → QueryGraph
with_outer f on head g = set_distinct f.d.id f.c.parts.distinct (put_box f.d.id OuterJoin Plain on head g)

-- c is the select over the magic box and x
abbrev pub with_left : Feeding → OperandPair → Role → QueryGraph → QueryGraph
with_left f k left g = set_distinct f.c.id Preserve (put_box f.c.id Select left no_conds (of_both f.a.id (width f.m) f.r.id (width k.x)) g)

-- below d stands s, the select over the magic box and y, and d's last quantifier ranges over it
abbrev pub with_arm : Feeding → OperandPair → NewSelect → Role → QueryGraph → QueryGraph
with_arm f k z right g =
    redirect k.r.id z.s (put_box z.s Select right no_conds (of_both z.p (width f.m) z.u (width k.y))
    (with_quant z.s 0 (range z.p F f.m.id) (with_quant z.s 0 (range z.u F k.y.id) (with_box (Some f.d.id) (bare_box z.s (new_parts Select)) g))))

abbrev pub left_steps : Feeding → OperandPair → QueryGraph → QueryGraph
left_steps f k g = compact (with_left f k (role_over g.boxes k.x.id) (with_outer f (left_on f k) (left_head f k) (swapped f k g)))

abbrev pub arms_steps : Feeding → OperandPair → NewSelect → QueryGraph → QueryGraph
arms_steps f k z g =
    compact (rename_below g.boxes k.r.over f.a.id (columns_from z.p 1 (width f.m))
    (with_left f k (role_over g.boxes k.x.id) (with_outer f (both_on f k) (both_head f k) (with_arm f k z (role_over g.boxes k.y.id) (swapped f k g)))))

-- ---- when they can be done

pub record CanAbsorbOuter (g : QueryGraph) (f : Feeding) (k : OperandPair) : Type 0 where
  pub held_d : HasBox f.d.id g
  pub held_m : HasBox f.m.id g
  pub held_c : HasBox f.c.id g
  pub held_x : HasBox k.x.id g
  pub held_y : HasBox k.y.id g
  pub apart : (f.c.id == f.d.id) ≡ false
  pub owned_a : HasQuant f.a.id g
  pub owned_r : HasQuant f.r.id g
  pub owned_l : HasQuant k.l.id g
  pub owned_q : HasQuant k.r.id g

-- the steps by some new numbers
pub record StepsArms (g h : QueryGraph) (f : Feeding) (k : OperandPair) : Type 0 where
  pub z : NewSelect
  pub fresh : IsSelectNew g z
  pub after : h ≡ arms_steps f k z g
