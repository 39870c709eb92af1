use Rattle.std.proofs.Common.{◌≡◌, sym, ap, ◌∙◌, filter, List, ℕ, add-one}
use Rattle.std.specs.List.{list_any}
use Rattle.sql_catalog.specs.declared.reader.Reader.{Reader}
use Rattle.sql_ast.specs.Names.{contains}
use Rattle.sql_catalog.specs.Nesting.{reader_names, nests_over}
use Rattle.sql_catalog.proofs.NestingLaws.{all_kept, one_round}
use Rattle.sql_catalog.proofs.nesting.names_over.Goals as goal

pub loop-round-init : goal.loop-round-init
loop-round-init c = c.in_ok-over.ensures ∙ ap reader_names (sym (all_kept c.args.views.now))

pub loop-round-preserved : goal.loop-round-preserved
loop-round-preserved c =
    c.in_ok-over-2.ensures
    ∙ (ap (λ (names : List (List ℕ)). reader_names (filter (λ (v : Reader). list_any (contains names) v.reads) c.args.views.now)) (c.as_slice.ensures ∙ c.loop-round.invariant)
    ∙ (ap reader_names (one_round (nests_over c.args.views.now c.loop-round._round) c.args.views.now)
    ∙ ap (λ (n : ℕ). reader_names (filter (nests_over c.args.views.now n) c.args.views.now)) (sym (add-one c.loop-round._round))))
