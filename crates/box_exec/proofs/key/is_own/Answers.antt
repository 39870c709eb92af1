use Rattle.std.proofs.Common.{◌≡◌, ◌==◌, ◌∙◌, List, true, sym, subst, rules}
use Rattle.std.specs.List.{list_all}
use Rattle.qgm_terms.specs.Named.{columns_in}
use Rattle.qgm_terms.specs.Shown.{term}
use Rattle.qgm_terms.specs.declared.named.Column.{Column}
use Rattle.box_exec.proofs.Alone.{own-is}
use Rattle.box_exec.proofs.key.is_own.Goals as goal

pub returns-clause-own : goal.returns-clause-own
returns-clause-own c = λ h.
    let x = term c.args.x.now in
    let q = c.args.q in
    let free : c.is_node_free.result ≡ true = search rules in
    let listed : c.deref.result.now ≡ columns_in x = search rules in
    own-is q x (sym c.is_node_free.ensures ∙ free) (subst (λ (ks : List Column). list_all (λ (k : Column). k.quant == q) ks ≡ true) listed (sym c.are_of.ensures ∙ h))
