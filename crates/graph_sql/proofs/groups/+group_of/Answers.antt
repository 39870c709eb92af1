use Rattle.std.proofs.Common.{◌≡◌, List, true, false, ap, sym, ◌∙◌}
use Rattle.qgm_props.specs.Lists.{is_none}
use Rattle.qgm_terms.proofs.Lists as lists
use Rattle.qgm_terms.specs.Shown as shown
use Rattle.qgm_terms.specs.declared.tree.Gx.{Gx}
use Rattle.qgm_terms.specs.declared.tree.Link.{Link}
use Rattle.graph_sql.specs.Bodies.{group_cell}
use Rattle.graph_sql.proofs.Nests as laws
use Rattle.graph_sql.proofs.groups.+group_of.Goals as goal

pub returns-then-is_alone : goal.returns-then-is_alone
returns-then-is_alone t c = λ n.
    let h : is_none (shown.links c.in-Chain.list.items) ≡ true = ap (λ (ls : List Link). is_none (shown.links ls)) (sym c.deref-in-Chain.ensures.value) ∙ sym c.is_alone.ensures ∙ c.if-is_alone.true in
    rw (c.in-Chain.is, lists.links_hidden c.in-Chain.list, laws.linked_alone (shown.term c.in-Chain.a.value) (shown.links c.in-Chain.list.items) h)
    (c.group_of.ensures n ∙ ap (λ (y : Gx). group_cell n (shown.term y)) c.deref-then-is_alone.ensures)

pub returns-else-is_alone : goal.returns-else-is_alone
returns-else-is_alone t c = λ n.
    let h : is_none (shown.links c.in-Chain.list.items) ≡ false = ap (λ (ls : List Link). is_none (shown.links ls)) (sym c.deref-in-Chain.ensures.value) ∙ sym c.is_alone.ensures ∙ c.if-is_alone.false in
    rw (c.in-Chain.is, lists.links_hidden c.in-Chain.list) (laws.group_linked n (shown.term c.in-Chain.a.value) (shown.links c.in-Chain.list.items) h)
