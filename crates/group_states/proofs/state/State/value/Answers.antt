use Rattle.std.proofs.Common.{◌≡◌, rules}
use Rattle.std.proofs.lemmas.Result.{IfOk-weaker}
use Rattle.sql_value.specs.declared.aggregate.Taken.TheVariants.{All, Distinct}
use Rattle.group_states.specs.declared.fold.Fold.TheVariants.{Of}
use Rattle.group_states.proofs.After.{state-distinct, state-value}
use Rattle.group_states.proofs.state.State.value.Goals as goal

pub returns-in-Of-default-All : goal.returns-in-Of-default-All
returns-in-Of-default-All c = λ cells so.
    let is : c.args.self.fold ≡ Of c.in-Of-default-All.f All = search rules in
    state-value c.args.self c.in-Of-default-All.f cells c.aggregate.result is c.aggregate.ensures so

pub returns-in-Of-default-Distinct : goal.returns-in-Of-default-Distinct
returns-in-Of-default-Distinct c =
    let is : c.args.self.fold ≡ Of c.in-Of-default-Distinct.f Distinct = search rules in
    IfOk-weaker c.folded.result _ _
    (λ cell h cells so. state-distinct c.args.self c.in-Of-default-Distinct.f cells cell is h so)
    c.folded.ensures
