use Rattle.std.proofs.lemmas.Grind.{common_steps}
use Rattle.std.proofs.Common.{map, arith}
use Rattle.std.specs.String.{string_bytes}
use Rattle.qgm_app.specs.Outcome.{outcome}
use Rattle.qgm_app.proofs.Reported.{error-told, report-told}
use Rattle.qgm_app.proofs.run.run_command.Goals as goal

pub returns-in-Ok-write_all-clause-error : goal.returns-in-Ok-write_all-clause-error
returns-in-Ok-write_all-clause-error g c = λ e.
    error-told _ _ (outcome (map (λ w. string_bytes w) c.args.words.now)) c.in-Ok.said c.as_slice.result.now _ _ c.in-Ok.ensures.prepares c.as_slice.ensures c.in-Ok-write_all.ensures.all e

pub returns-in-Ok-write_all-clause-read_fault : goal.returns-in-Ok-write_all-clause-read_fault
returns-in-Ok-write_all-clause-read_fault g c = grind (arith, common_steps)

pub returns-clause-error : goal.returns-clause-error
returns-clause-error g c = grind (arith, common_steps)

pub returns-in-Ok-write_all-clause-runs : goal.returns-in-Ok-write_all-clause-runs
returns-in-Ok-write_all-clause-runs g c = grind (arith, common_steps)

pub returns-clause-no_line : goal.returns-clause-no_line
returns-clause-no_line g c = grind (arith, common_steps)

pub returns-in_default-clause-asked : goal.returns-in_default-clause-asked
returns-in_default-clause-asked g c = grind (arith, common_steps)

pub returns-in-Ok-write_all-clause-write_fault : goal.returns-in-Ok-write_all-clause-write_fault
returns-in-Ok-write_all-clause-write_fault g c = grind (arith, common_steps)

pub returns-clause-query_refused : goal.returns-clause-query_refused
returns-clause-query_refused g c = grind (arith, common_steps)

pub returns-clause-write_fault : goal.returns-clause-write_fault
returns-clause-write_fault g c = grind (arith, common_steps)

pub returns-clause-completeness : goal.returns-clause-completeness
returns-clause-completeness g c = grind (arith, common_steps)

pub returns-clause-asked : goal.returns-clause-asked
returns-clause-asked g c = grind (arith, common_steps)

pub returns-in_default-clause-runs : goal.returns-in_default-clause-runs
returns-in_default-clause-runs g c = grind (arith, common_steps)

pub returns-in-Ok-write_all-clause-no_line : goal.returns-in-Ok-write_all-clause-no_line
returns-in-Ok-write_all-clause-no_line g c = grind (arith, common_steps)

pub returns-clause-headline : goal.returns-clause-headline
returns-clause-headline g c = grind (arith, common_steps)

pub returns-in-Ok-write_all-clause-usage_short : goal.returns-in-Ok-write_all-clause-usage_short
returns-in-Ok-write_all-clause-usage_short g c = grind (arith, common_steps)

pub returns-in_default-clause-no_line : goal.returns-in_default-clause-no_line
returns-in_default-clause-no_line g c = grind (arith, common_steps)

pub returns-clause-read_named : goal.returns-clause-read_named
returns-clause-read_named g c = grind (arith, common_steps)

pub returns-clause-schema_refused : goal.returns-clause-schema_refused
returns-clause-schema_refused g c = grind (arith, common_steps)

pub returns-in-Ok-write_all-clause-usage : goal.returns-in-Ok-write_all-clause-usage
returns-in-Ok-write_all-clause-usage g c = grind (arith, common_steps)

pub returns-clause-usage_short : goal.returns-clause-usage_short
returns-clause-usage_short g c = grind (arith, common_steps)

pub returns-clause-data_refused : goal.returns-clause-data_refused
returns-clause-data_refused g c = grind (arith, common_steps)

pub returns-clause-rows : goal.returns-clause-rows
returns-clause-rows g c = grind (arith, common_steps)

pub returns-in-Ok-write_all-clause-short : goal.returns-in-Ok-write_all-clause-short
returns-in-Ok-write_all-clause-short g c = grind (arith, common_steps)

pub returns-in-Ok-write_all-clause-no_memory : goal.returns-in-Ok-write_all-clause-no_memory
returns-in-Ok-write_all-clause-no_memory g c = grind (arith, common_steps)

pub returns-clause-no_memory : goal.returns-clause-no_memory
returns-clause-no_memory g c = grind (arith, common_steps)

pub returns-in-Ok-write_all-clause-asked : goal.returns-in-Ok-write_all-clause-asked
returns-in-Ok-write_all-clause-asked g c = grind (arith, common_steps)

pub returns-in-Ok-write_all-clause-headline : goal.returns-in-Ok-write_all-clause-headline
returns-in-Ok-write_all-clause-headline g c = λ read wrote memory.
    report-told _ _ (outcome (map (λ w. string_bytes w) c.args.words.now)) c.in-Ok.said c.as_slice.result.now _ _ c.in-Ok.ensures.prepares c.as_slice.ensures c.in-Ok-write_all.ensures.all read

pub returns-in-Ok-write_all-clause-completeness : goal.returns-in-Ok-write_all-clause-completeness
returns-in-Ok-write_all-clause-completeness g c = λ read wrote memory.
    report-told _ _ (outcome (map (λ w. string_bytes w) c.args.words.now)) c.in-Ok.said c.as_slice.result.now _ _ c.in-Ok.ensures.prepares c.as_slice.ensures c.in-Ok-write_all.ensures.all (λ e. read (c.in-Ok.ensures.failed e))
