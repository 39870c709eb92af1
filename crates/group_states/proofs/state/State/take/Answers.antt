use Rattle.std.proofs.Common.{◌≡◌, rules, true, false}
use Rattle.std.proofs.lemmas.Result.{on_ok_weaker}
use Rattle.sql_value.specs.declared.aggregate.Taken.TheVariants.{All}
use Rattle.group_states.specs.States.{is_there}
use Rattle.group_states.specs.declared.fold.Fold.TheVariants.{Of}
use Rattle.group_states.specs.declared.state.State.{State}
use Rattle.group_states.proofs.After.{state-absent, state-counted, state-taken}
use Rattle.group_states.proofs.state.State.take.Goals as goal

pub returns-then-not-is_there-clause-after : goal.returns-then-not-is_there-clause-after
returns-then-not-is_there-clause-after c = λ cells so.
    let none : is_there c.args.level ≡ false = search rules in
    state-absent c.args.self.now cells c.args.cell.now c.args.level none so

pub returns-in_ok-self-in-Rows-clause-after : goal.returns-in_ok-self-in-Rows-clause-after
returns-in_ok-self-in-Rows-clause-after c = λ cells so.
    let old = c.args.self.now in
    let new : State = record { fold = old.fold; error = old.error; running = record { count = c.in_ok-self-in-Rows.field-0; total = old.running.total; cell = old.running.cell }; cells = old.cells } in
    let some : is_there c.args.level ≡ true = search rules in
    state-counted old new cells c.args.cell.now c.args.level some c.in-Rows.is (λ i. old.fold) c.in_ok-self-in-Rows.ensures so

pub returns-in-Of-default-All-clause-after : goal.returns-in-Of-default-All-clause-after
returns-in-Of-default-All-clause-after c =
    let some : is_there c.args.level ≡ true = search rules in
    let is : c.args.self.now.fold ≡ Of c.in-Of-default-All.f All = search rules in
    on_ok_weaker c.take_argument.result
    (λ h cells so. state-taken c.args.self.now c.take_argument.new.self c.in-Of-default-All.f cells c.args.cell.now c.args.level some is h so)
    c.take_argument.ensures
