use Rattle.std.proofs.Common.{◌∙◌, ap, arith}
use Rattle.std.proofs.lemmas.Grind.{common_steps}
use Rattle.rule_trans.specs.ColumnPairs.{same_pair}
use Rattle.rule_trans.specs.declared.column_pairs.ColumnPair.{ColumnPair}
use Rattle.rule_trans.proofs.PairSets.{pair_is}
use Rattle.rule_trans.proofs.column_pairs.add_pair.Goals as goal

pub returns : goal.returns
returns c = λ a z.
    let q : ColumnPair = record { quant = a.quant; place = a.place; other_quant = z.quant; other_place = z.place } in
    let updated = c.in_ok-_added.ensures.updates.0 q in
    let added = ap (λ (p : ColumnPair). same_pair p q) c.pair_of.ensures ∙ pair_is c.args.x c.args.y a z in
    grind (arith, common_steps, updated, added)
