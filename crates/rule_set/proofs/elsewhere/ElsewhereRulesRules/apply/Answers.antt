use Rattle.std.proofs.Common.{not}
use Rattle.list_laws.proofs.Membership.{in-filter}
use Rattle.rule_api.specs.Rules.{place_at}
use Rattle.rule_set.specs.Built.{built_pairs}
use Rattle.rule_set.specs.Elsewhere.{feeds_asked}
use Rattle.rule_set.proofs.elsewhere.ElsewhereRulesRules.apply.Goals as goal

pub apply-requires-clause-given : goal.apply-requires-clause-given
apply-requires-clause-given c =
    (in-filter (λ p. not (feeds_asked c.args.rule c.args.graph.now (place_at c.args.place.at p))) (c.args.place.i, c.args.place.j) (built_pairs c.args.rule c.args.graph.now c.args.place.at) c.requires.given).0
