use Rattle.std.proofs.lemmas.Grind.{common_steps}
use Rattle.std.proofs.Common.{rules, ◌≡◌, ◌∙◌, ◌+◌, ◌%◌, ap, length, map, sym, arith}
use Rattle.std.proofs.lemmas.List.{get_or_default, length-map, length_push, map_push}
use Rattle.group_states.specs.declared.index.Link.{Link}
use Rattle.row_bag.proofs.Indexed.{chained-push}
use Rattle.group_states.proofs.index.add.Goals as goal

pub returns-clause-chained : goal.returns-clause-chained
returns-clause-chained c =
    let heads = c.args.heads.now.items in
    let links = c.args.links.now.items in
    let link : Link = record { hash = c.args.hash; before = c.index-before.result.now } in
    let chains : c.len.result ≡ length heads = search rules in
    let inside = rw chains at c.chain_of-chain.ensures.within in
    let tall : c.len-2.result ≡ length c.push.new.self.items = search rules in
    let hashes = length-map links (λ (l : Link). l.hash) in
    let last : c.len-2.result ≡ length (map (λ (l : Link). l.hash) links) + 1 = tall ∙ ap (λ (ls : _). length ls) c.in_ok-push.ensures.items ∙ length_push links link ∙ ap (λ n. n + 1) (sym hashes) in
    rw (c.in_ok-push.ensures.items, map_push (λ (l : Link). l.before) links link, map_push (λ (l : Link). l.hash) links link)
    (chained-push heads (map (λ (l : Link). l.before) links) (map (λ (l : Link). l.hash) links) c.args.hash c.chain_of-chain.result c.index-before.result.now c.len-2.result (length-map links (λ (l : Link). l.before) ∙ sym hashes)
    inside (c.chain_of-chain.ensures.chain ∙ ap (λ n. c.args.hash % n) chains) (c.index-before.ensures ∙ get_or_default heads c.chain_of-chain.result c.index-before.result.now 0 inside) last c.requires)

pub returns-clause-ok : goal.returns-clause-ok
returns-clause-ok c = grind (arith, common_steps)
