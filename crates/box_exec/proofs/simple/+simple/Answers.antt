use Rattle.std.proofs.Common.{ℕ, List, ◌≡◌, ◌∙◌, ap, ap₂, sym}
use Rattle.std.proofs.lemmas.Option.{IfSome_then}
use Rattle.std.proofs.lemmas.Result.{IfOk-weaker}
use Rattle.sql_value.specs.declared.cell.Cell.{Cell}
use Rattle.qgm_meaning.specs.Values.{Bag, value}
use Rattle.qgm_terms.specs.Shown.{links, term}
use Rattle.qgm_terms.specs.declared.tree.Gx.{Gx}
use Rattle.qgm_terms.specs.declared.tree.Link.{Link}
use Rattle.qgm_terms.proofs.Lists as listed
use Rattle.box_exec.specs.Bound.{env_of}
use Rattle.box_exec.specs.Lists.{chained}
use Rattle.box_exec.proofs.Lookups.{some-is}
use Rattle.box_exec.proofs.Steps.{chain_more, value_linked}
use Rattle.box_exec.proofs.simple.+simple.Goals as goal

pub simple_chain-loop-link-preserved : goal.simple_chain-loop-link-preserved
simple_chain-loop-link-preserved t c = λ rows.
    let env = env_of c.args.env.now in
    let d = c.link-item.result in
    let next : c.in-Some.next ≡ value rows (term d.right) env = some-is (λ (cell : Cell). (rows : ℕ → Bag) → cell ≡ value rows (term d.right) env) c.in_ok-next.field-0 c.in-Some.next c.in-Some.is c.in_ok-next.ensures rows in
    chain_more rows env c.args.list.now c.loop-link.link-index d c.loop-link.total c.in-Some.next c.in_ok-total.total _ c.loop-link-test.true (sym c.link-item.is) next c.in_ok-total.ensures (c.loop-link.invariant rows)

pub simple-returns-in-Some : goal.simple-returns-in-Some
simple-returns-in-Some t c =
    let env = env_of c.args.env.now in
    let first = λ (rows : ℕ → Bag). some-is (λ (cell : Cell). (rows : ℕ → Bag) → cell ≡ value rows (term c.deref.result.now) env) c.in_ok-first-in-Chain.field-0 c.in-Some.first c.in-Some.is c.in_ok-first-in-Chain.ensures rows in
    rw (c.in-Chain.is, listed.links_hidden c.in-Chain.list)
    (IfOk-weaker c.simple_chain.result _ _
    (λ o s. IfSome_then o s
    (λ cell h rows.
    h rows
    ∙ ap₂ (λ (x : Cell) (ls : List Link). chained rows x (links ls) env) (first rows ∙ ap (λ (x : Gx). value rows (term x) env) c.deref.ensures) c.deref-in-Some.ensures.value
    ∙ sym (value_linked rows (term c.in-Chain.a.value) (links c.in-Chain.list.items) env)))
    c.simple_chain.ensures)
