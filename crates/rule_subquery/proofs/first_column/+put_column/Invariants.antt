use Rattle.std.proofs.Common.{◌≡◌, ◌++◌, length, map, take, drop}
use Rattle.qgm_terms.specs.Shown.{choices, conds, links}
use Rattle.qgm_meaning.specs.Searches.{as_column_cond}
use Rattle.rule_subquery.specs.FirstColumn.{column_choices, column_links}
use Rattle.rule_subquery.proofs.first_column.+put_column.Given as goal

abbrev pub invariant-put_column_of_links-loop-i : goal.invariant-put_column_of_links-loop-i
invariant-put_column_of_links-loop-i l =
    let cs = links l.initial.list in
    record {
      so_far : links l.list ≡ column_links l.q (take l.i cs) ++ drop l.i cs;
      same : length l.list ≡ length cs;
      rest : goal.unvisited-put_column_of_links-loop-i l;
    }

abbrev pub invariant-put_column_of_arms-loop-i : goal.invariant-put_column_of_arms-loop-i
invariant-put_column_of_arms-loop-i l =
    let cs = choices l.initial.list in
    record {
      so_far : choices l.list ≡ column_choices l.q (take l.i cs) ++ drop l.i cs;
      same : length l.list ≡ length cs;
      rest : goal.unvisited-put_column_of_arms-loop-i l;
    }

abbrev pub invariant-put_column_of_conds-loop-i : goal.invariant-put_column_of_conds-loop-i
invariant-put_column_of_conds-loop-i l =
    let cs = conds l.initial.list in
    record {
      so_far : conds l.list ≡ map (as_column_cond l.q) (take l.i cs) ++ drop l.i cs;
      same : length l.list ≡ length cs;
      rest : goal.unvisited-put_column_of_conds-loop-i l;
    }
