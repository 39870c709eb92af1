-- The steps of G2's action.
use Rattle.std.specs.Prelude.{◌≡◌, ◌≤◌, ◌==◌, ◌++◌, false, length}
use Rattle.qgm_core.specs.Boxes.{HasBox, QueryGraph, quants_of, width}
use Rattle.qgm_core.specs.Edits.{absorb, compact, put_box, set_distinct}
use Rattle.qgm_core.specs.declared.kinds.BoxKind.TheVariants.{Select}
use Rattle.qgm_core.specs.declared.kinds.Role.TheVariants.{Plain}
use Rattle.qgm_meaning.specs.Tags.{columns_from}
use Rattle.rule_magic.specs.Feeding.{Feeding}

-- c's quantifiers stand in d behind a, and d gets c's distinctness, its conditions, and its head behind the columns of a
abbrev pub select_steps : Feeding → QueryGraph → QueryGraph
select_steps f g = compact (set_distinct f.d.id f.c.parts.distinct (put_box f.d.id Select Plain f.c.parts.conds (columns_from f.a.id 1 (width f.m) ++ f.c.parts.head) (absorb f.d.id 1 f.c.id g)))

-- this can be done
pub record CanAbsorbSelect (g : QueryGraph) (f : Feeding) : Type 0 where
  pub held_d : HasBox f.d.id g
  pub held_c : HasBox f.c.id g
  pub apart : (f.d.id == f.c.id) ≡ false
  pub two : 2 ≤ length (quants_of f.d.id g)
  pub stays : HasBox f.d.id (absorb f.d.id 1 f.c.id g)
