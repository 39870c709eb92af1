use Rattle.std.proofs.Common.{◌++◌, ◌∙◌, rules, ap, sym}
use Rattle.std.proofs.lemmas.Fn.{filter_same}
use Rattle.row_bag.specs.Bags.{at_yes}
use Rattle.row_bag.specs.Verdict.{is_there, those_there}
use Rattle.row_bag.proofs.EvenRows.{there-even}
use Rattle.row_bag.proofs.bag.Bag.keep_there.Goals as goal

pub returns : goal.returns
returns c =
    ap (λ rows. at_yes c.self.inside.even ++ rows) (filter_same _ is_there _ (λ x b f' k. search rules) _ _ c.retain.ensures.filtered)
    ∙ sym (there-even c.self.inside.even c.self.inside.mixed.items)
    ∙ ap those_there c.self.view_is
