use Rattle.std.proofs.Common.{ℕ, ◌==◌, ◌++◌, ◌∙◌, List, ap, sym}
use Rattle.qgm_terms.specs.Named.{columns_in}
use Rattle.qgm_terms.specs.Shown.{term}
use Rattle.qgm_terms.specs.declared.named.Column.{Column}
use Rattle.box_exec.proofs.Turns.{reads-some}
use Rattle.box_exec.proofs.order.reads_others.Goals as goal

pub returns : goal.returns
returns c =
    let left = c.args.left.now in
    let x = term c.args.x.now in
    let columns = c.deref.result.now in
    reads-some left x columns c.is_any_left.result (c.deref.ensures.value ∙ c.in_ok-add_columns.ensures ∙ ap (λ (cs : List Column). cs ++ columns_in x) c.new-columns.ensures.items) (ap (λ (n : ℕ). n == 0) c.deref.ensures.len ∙ sym c.is_empty.ensures ∙ c.if-is_empty.false) c.is_any_left.ensures
