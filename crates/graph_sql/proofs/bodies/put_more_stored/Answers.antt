use Rattle.std.proofs.Common.{◌≤◌, ◌++◌, List, min, length, ap, sym, ◌∙◌, arith}
use Rattle.std.proofs.lemmas.List.{append-nil}
use Rattle.std.specs.List.{flat_map}
use Rattle.graph_sql.specs.Bodies.{Stored}
use Rattle.graph_sql.specs.BodyText.{next_text, stored_text}
use Rattle.graph_sql.proofs.Nests.{stored-end}
use Rattle.graph_sql.proofs.bodies.put_more_stored.Goals as goal

pub returns : goal.returns
returns c =
    let h : min (length c.args.names.now) (length c.args.types.now) ≤ c.loop-i.i = omega (arith, c.min-n.ensures, c.loop-i-test.false) in
    sym (append-nil c.loop-i.out)
    ∙ ap (λ (t : List Stored). c.loop-i.out ++ flat_map (next_text stored_text) t) (sym (stored-end c.args.names.now c.args.types.now c.loop-i.i h))
    ∙ c.loop-i.invariant
